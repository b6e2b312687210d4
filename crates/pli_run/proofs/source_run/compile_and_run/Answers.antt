use Rattle.std.proofs.Common.{subst}
use Rattle.rv_meaning.specs.Images.{IsLoadable}
use Rattle.pli_run.proofs.Answered.{answered, refused}
use Rattle.pli_run.proofs.source_run.compile_and_run.Goals as goal

pub returns-in-Ok-clause-meant : goal.returns-in-Ok-clause-meant
returns-in-Ok-clause-meant c = λ valid.
    let loadable : IsLoadable c.in-Ok.image = subst (λ i. IsLoadable i) c.image.view_is c.image.invariant in
    answered c.accepted_cut_runs_meant.ensures c.in-Ok.ensures loadable c.args.base c.args.input.now c.args.bound
    c.run.result valid c.ranges.bound.fits (c.run.ensures.told valid)

pub returns-in-Err-clause-meant : goal.returns-in-Err-clause-meant
returns-in-Err-clause-meant c = λ valid. refused c.args.input.now c.args.base c.args.bound _ c.uncompiled.result c.in-Err.ensures c.uncompiled.ensures
