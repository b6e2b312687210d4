use Rattle.argument_runs.proofs.CopyFunctions.{copy_function_does}
use Rattle.argument_runs.proofs.laws.copy_functions_do.Goals as goal

pub returns : goal.returns
returns c = copy_function_does
