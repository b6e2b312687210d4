use Rattle.activation_relation.proofs.PointSteps.{entered_memory, left_memory, unwound_memory}
use Rattle.activation_relation.proofs.laws.memories_go.Goals as goal

pub returns : goal.returns
returns c = record { entered = entered_memory; left = left_memory; unwound = unwound_memory }
