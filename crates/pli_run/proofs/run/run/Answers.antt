use Rattle.std.proofs.Common.{[], refl, subst, sym}
use Rattle.pli_edit.specs.Cutting.{never_cut}
use Rattle.pli_run.proofs.Pictures.{unstarted_tells}
use Rattle.pli_run.proofs.Told.{by_step_tells, told_of}
use Rattle.pli_run.specs.Running.{Tells}
use Rattle.image_runs.specs.Runs.{run_of}
use Rattle.pli_run.proofs.run.run.Goals as goal

pub returns-clause-told : goal.returns-clause-told
returns-clause-told c = λ valid p gs h tabled.
    subst (λ r. Tells (run_of p gs c.args.base c.args.input.now) c.args.bound r) (sym c.by_step.ensures)
    (by_step_tells (run_of p gs c.args.base c.args.input.now) c.args.bound c.in-Ok-into_outcome.outcome _
    c.in-Ok-stopped.field-0.last
    (told_of _ (record {
      agreed = λ _ _ _ _ _. tt;
      stays = λ _. tt;
      goes_on = λ _ _ _ _ _. tt;
      cut = λ a b _ _ e. never_cut a b b e;
    }) c.args.image.now c.args.base
    _ _ c.args.bound c.in-Ok-stopped.field-0.last c.in-Ok-stopped.field-0.services c.in-Ok-stopped.ensures.stopped refl
    refl
    c.in-Ok-into_outcome.outcome c.in-Ok-into_outcome.outcome.output.items c.args.input.now []
    c.in-Ok-into_outcome.ensures
    c.in-Ok.ensures.begun tt p gs h tabled))

pub returns-in_default-clause-told : goal.returns-in_default-clause-told
returns-in_default-clause-told c = λ valid p gs h tabled.
    unstarted_tells p gs c.args.base c.args.input.now c.args.bound c.unstarted.result c.unstarted.ensures

pub returns-in_default-stopped-clause-told : goal.returns-in_default-stopped-clause-told
returns-in_default-stopped-clause-told c = λ valid p gs h tabled.
    unstarted_tells p gs c.args.base c.args.input.now c.args.bound c.unstarted-in_default-stopped.result
    c.unstarted-in_default-stopped.ensures

pub returns-in_default-into_outcome-clause-told : goal.returns-in_default-into_outcome-clause-told
returns-in_default-into_outcome-clause-told c = λ valid p gs h tabled.
    unstarted_tells p gs c.args.base c.args.input.now c.args.bound c.unstarted-in_default-into_outcome.result
    c.unstarted-in_default-into_outcome.ensures
