use Rattle.std.proofs.Common.{Option, ap, option_map, subst}
use Rattle.std.specs.Prelude.{MatchOption, ⊤}
use Rattle.pli_serving.specs.Outcomes.{or_bad}
use Rattle.pli_signatures.specs.View.{kind_of}
use Rattle.pli_aggregates.specs.Runs.{standing}
use Rattle.pli_aggregates.specs.Scalars.{scalar_into, with_all}
use Rattle.pli_aggregates.specs.Standing.{CountsAs}
use Rattle.pli_aggregates.specs.declared.runs.Run.{Run}
use Rattle.pli_aggregates.proofs.Parting.{answers_as}
use Rattle.pli_aggregates.proofs.scalar.scalar_elements.Goals as goal

pub returns-in-Some : goal.returns-in-Some
returns-in-Some g c = λ n counts c'.
    let x = c.args.first in
    let y = c.args.leaf in
    let value = c.args.value in
    let kind = kind_of c.args.kind in
    let run = c.in-Some.run' in
    let old = with_all g.K.AreaKeeper.keeper c.args.held.now c.args.memory.now c.args.entries.now c' in
    let new = with_all g.K.AreaKeeper.keeper c.args.held.now c.set.new.memory c.set.new.entries c' in
    let known : CountsAs kind run n = subst (λ (o : Option Run). MatchOption o ⊤ (λ r. CountsAs kind r n)) c.in-Some.is counts in
    answers_as (λ t. or_bad (option_map (λ (r : Run). standing r.at r.step n) c.args.found) (λ addresses. scalar_into t x y value addresses kind))
    (λ t. scalar_into t x y value (standing run.at run.step n) kind) old new c.set.result
    (ap (λ (o : Option Run). or_bad (option_map (λ (r : Run). standing r.at r.step n) o) (λ addresses. scalar_into old x y value addresses kind)) c.in-Some.is)
    (c.set.ensures n known c')
