use Rattle.expression_runs.proofs.Operands.{constant_does}
use Rattle.expression_runs.proofs.Sums.{difference_does, sum_does}
use Rattle.expression_runs.proofs.VariablePoints.{variable_does}
use Rattle.expression_runs.proofs.laws.numbers_do.Goals as goal

pub returns : goal.returns
returns c = record { constant = constant_does; variable = variable_does; sum = sum_does; difference = difference_does }
