use Rattle.function_runs.proofs.FunctionCalls.{function_does}
use Rattle.function_runs.proofs.laws.function_calls_do.Goals as goal

pub returns : goal.returns
returns c = function_does
