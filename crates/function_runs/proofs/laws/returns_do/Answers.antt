use Rattle.function_runs.proofs.ReturnValues.{return_with}
use Rattle.function_runs.proofs.laws.returns_do.Goals as goal

pub returns : goal.returns
returns c = return_with
