use Rattle.function_runs.proofs.OwnVariables.{function_own}
use Rattle.function_runs.proofs.laws.own_numbers.Goals as goal

pub returns : goal.returns
returns c = function_own
