use Rattle.rv_operation.proofs.Weights.{numbers_weight}
use Rattle.rv_operation.proofs.reference.+given_in.Given as goal

abbrev pub decreases-given_in : goal.decreases-given_in
decreases-given_in l = numbers_weight l.subscripts.now
