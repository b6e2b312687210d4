use Rattle.std.proofs.Common.{◌<◌, refl, ◌∙◌, arith, length}
use Rattle.rv_machine.specs.Operations.{program_at}
use Rattle.rv_machine.specs.Outcomes.{state}
use Rattle.rv_machine.specs.Places.{left, address}
use Rattle.rv_machine.proofs.Halts.{calls_inside}
use Rattle.rv_machine.proofs.Runs.{leg_on, stepped, stopped, all_run, none_ran, run_as, fault_step, calls_step}
use Rattle.rv_machine.proofs.legs.run_legs.Goals as goal

pub legs-init : goal.legs-init
legs-init g c = record {
  all_ran = none_ran g.S.Services.serves _ (left c.args.place) c.args.base c.args.place.index (left c.args.place) _ _ _
      _ refl refl;
  placed = c.requires.placed;
  within = omega arith;
  zero = c.requires.zero;
  sized = c.requires.sized;
}

pub legs-preserved : goal.legs-preserved
legs-preserved g c =
    let halts = rw c.in-Call.is at c.run_in-leg.ensures.halts in
    let below = halts.0 in
    let within = c.run_in-leg.ensures.within in
    let before = c.legs.invariant.within in
    let ran = leg_on g.S.Services.serves _ _ (left c.args.place) _ _ _ _ _ _ refl within before
    c.legs.invariant.all_ran c.run_in-leg.ensures.ran in
    let placed = c.run_in-leg.ensures.placed in
    let near = placed.near in
    let few = placed.few in
    let short = c.requires.short in
    let fits = c.requires.based.1 in
    let inside : c.run_in-leg.result.place.index < length c.args.code.now = calls_inside c.args.base
    c.run_in-leg.result.place.index c.args.code.now _ _ c.requires.based.0 near (omega arith) halts.1 in
    record {
      all_ran = stepped g.S.Services.serves _ _ (left c.args.place) c.args.base c.args.base
          c.run_in-leg.result.place.index c.run_in-leg.result.place.reach _ _ _ _ _ _ _ _
          refl refl refl below (omega arith) ran
          (calls_step g.S.Services.serves (program_at c.args.base c.args.code.now) _ _ _ halts.1
          (c.in-Ran.ensures.step (address c.args.base c.run_in-leg.result.place.index)));
      placed = record { near = omega arith; before = omega arith; few = omega arith };
      within = omega arith;
      zero = c.in-Ran.ensures.zero ∙ c.run_in-leg.ensures.zero;
      sized = c.in-Ran.ensures.sized ∙ c.run_in-leg.ensures.sized ∙ c.legs.invariant.sized;
    }

pub returns-in-Bound-clause-run : goal.returns-in-Bound-clause-run
returns-in-Bound-clause-run g c =
    let reached = rw c.in-Bound.is at c.run_in-leg.ensures.halts in
    let within = c.run_in-leg.ensures.within in
    let before = c.legs.invariant.within in
    let ran = leg_on g.S.Services.serves _ _ (left c.args.place) _ _ _ _ _ _ refl within before
    c.legs.invariant.all_ran c.run_in-leg.ensures.ran in
    run_as g.S.Services.serves _ _ _ _ _ _ _ _ _ _ _ _ _ _ _ _ _ refl refl (omega arith) refl refl
    (all_run g.S.Services.serves _ (left c.args.place) c.args.base c.run_in-leg.result.place.index
    c.run_in-leg.result.place.reach _ _ _ _ _ refl reached ran)

pub returns-in-Fault-clause-run : goal.returns-in-Fault-clause-run
returns-in-Fault-clause-run g c =
    let halts = rw c.in-Fault.is at c.run_in-leg.ensures.halts in
    let below = halts.0 in
    let within = c.run_in-leg.ensures.within in
    let before = c.legs.invariant.within in
    let ran = leg_on g.S.Services.serves _ _ (left c.args.place) _ _ _ _ _ _ refl within before
    c.legs.invariant.all_ran c.run_in-leg.ensures.ran in
    stopped g.S.Services.serves _ _ (left c.args.place) c.args.base c.args.base c.run_in-leg.result.place.index
    c.run_in-leg.result.place.reach _ _ _ _ _ _ _ _ _ _
    refl refl refl refl (λ e. absurd (cc)) below (omega arith) ran
    (fault_step g.S.Services.serves (program_at c.args.base c.args.code.now) c.legs.services
    (state c.run_in-leg.new.registers c.run_in-leg.new.storage.bytes
    (address c.args.base c.run_in-leg.result.place.index)) c.in-Fault.fault halts.1)

pub returns-in_default-clause-run : goal.returns-in_default-clause-run
returns-in_default-clause-run g c =
    let halts = rw c.in-Call.is at c.run_in-leg.ensures.halts in
    let below = halts.0 in
    let within = c.run_in-leg.ensures.within in
    let before = c.legs.invariant.within in
    let ran = leg_on g.S.Services.serves _ _ (left c.args.place) _ _ _ _ _ _ refl within before
    c.legs.invariant.all_ran c.run_in-leg.ensures.ran in
    stopped g.S.Services.serves _ _ (left c.args.place) c.args.base c.args.base c.run_in-leg.result.place.index
    c.run_in-leg.result.place.reach _ _ _ _ _ _ _ _ _ _
    refl refl refl refl c.in_default.not-Ran below (omega arith) ran
    (calls_step g.S.Services.serves (program_at c.args.base c.args.code.now) _ _ _ halts.1
    (c.call.ensures.step (address c.args.base c.run_in-leg.result.place.index)))
