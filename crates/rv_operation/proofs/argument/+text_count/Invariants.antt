use Rattle.rv_operation.proofs.Weights.{arguments_weight}
use Rattle.rv_operation.proofs.argument.+text_count.Given as goal

abbrev pub decreases-text_count : goal.decreases-text_count
decreases-text_count l = arguments_weight l.arguments.now
