use Rattle.std.proofs.Common.{◌≡◌, ◌^◌, ◌-◌, subst, sym, arith}
use Rattle.pli_serving.specs.Finding.{Finding, named}
use Rattle.pli_storage.specs.Findings.{finding_of}
use Rattle.pli_storage.specs.Held.{with_held}
use Rattle.pli_values.specs.View.{name_of}
use Rattle.pli_aggregates.specs.Records.{record_shown}
use Rattle.pli_elements.specs.Outcomes.{IsOutcome}
use Rattle.pli_elements.proofs.Placing.{asked_so}
use Rattle.pli_elements.proofs.standing.outcome_in.Goals as goal

pub returns-in-Some : goal.returns-in-Some
returns-in-Some g c = λ c' s e.
    let C = with_held g.K.AreaKeeper.keeper c.args.held.now c.args.memory.now c' in
    let a = c.args.aggregate in
    let other : a.signature ≡ 2 ^ 32 - 1 → ⊥ = λ h. grind (arith, h) in
    let is : named C (name_of a.name) a.signature ≡ finding_of c.in-Some.finding = asked_so C (name_of a.name) a.signature (finding_of c.in-Some.finding) other (c.in-Some.ensures c') in
    subst (λ (f : Finding). IsOutcome C c.args.register (record_shown a s) c.args.leaf c.args.subscripts.now f c.outcome_of.result) (sym is) (c.outcome_of.ensures C s e)
