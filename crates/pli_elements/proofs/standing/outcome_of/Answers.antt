use Rattle.std.proofs.Common.{subst, sym}
use Rattle.pli_storage.specs.Findings.{finding_of}
use Rattle.pli_storage.specs.declared.finding.Finding.{Finding}
use Rattle.pli_aggregates.specs.Records.{record_shown}
use Rattle.pli_elements.specs.Outcomes.{IsOutcome}
use Rattle.pli_elements.proofs.standing.outcome_of.Goals as goal

pub returns-in-At : goal.returns-in-At
returns-in-At c = λ c' s e.
    subst (λ (f : Finding). IsOutcome c' c.args.register (record_shown c.args.aggregate s) c.args.leaf c.args.subscripts.now (finding_of f) c.outcome_found.result) (sym c.in-At.is) (c.outcome_found.ensures c' s e)
