use Rattle.expression_runs.proofs.OwnVariables.{procedure_own}
use Rattle.expression_runs.proofs.laws.own_numbers.Goals as goal

pub returns : goal.returns
returns c = procedure_own
