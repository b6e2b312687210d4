use Rattle.activation_relation.proofs.Units.{on_answered, revert_answered, raise_answered, raise_unanswered}
use Rattle.activation_relation.proofs.Units.{oncode_answered}
use Rattle.activation_relation.proofs.laws.units_served.Goals as goal

pub returns : goal.returns
returns c = record {
  established = on_answered;
  reverted = revert_answered;
  raised = raise_answered;
  unraised = raise_unanswered;
  oncode = oncode_answered;
}
