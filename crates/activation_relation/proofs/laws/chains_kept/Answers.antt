use Rattle.activation_relation.proofs.ActiveChains.{pushed_active, popped_active, unwound_active, established_active}
use Rattle.activation_relation.proofs.ActiveChains.{reverted_active}
use Rattle.activation_relation.proofs.laws.chains_kept.Goals as goal

pub returns : goal.returns
returns c = record {
  pushed = pushed_active;
  popped = popped_active;
  unwound = unwound_active;
  established = established_active;
  reverted = reverted_active;
}
