use Rattle.function_runs.proofs.Functions.{function_runs}
use Rattle.function_runs.proofs.laws.functions_run.Goals as goal

pub returns : goal.returns
returns c = function_runs
