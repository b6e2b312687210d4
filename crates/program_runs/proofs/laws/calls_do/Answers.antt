use Rattle.program_runs.proofs.CallStatements.{call_with}
use Rattle.program_runs.proofs.laws.calls_do.Goals as goal

pub returns : goal.returns
returns c = call_with
