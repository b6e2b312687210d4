use Rattle.rv_operation.proofs.Weights.{arguments_weight}
use Rattle.rv_operation.proofs.argument.+list_words.Given as goal

abbrev pub decreases-list_words : goal.decreases-list_words
decreases-list_words l = arguments_weight l.arguments.now
