use Rattle.jump_runs.proofs.Functions.{jump_function_does}
use Rattle.jump_runs.proofs.laws.jump_functions_do.Goals as goal

pub returns : goal.returns
returns c = jump_function_does
