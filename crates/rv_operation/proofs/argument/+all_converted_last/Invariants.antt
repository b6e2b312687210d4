use Rattle.rv_operation.proofs.Weights.{arguments_weight}
use Rattle.rv_operation.proofs.argument.+all_converted_last.Given as goal

abbrev pub decreases-all_converted_last : goal.decreases-all_converted_last
decreases-all_converted_last l = arguments_weight l.arguments.now
