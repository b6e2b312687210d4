use Rattle.argument_runs.proofs.CopyCalls.{copy_call_does}
use Rattle.argument_runs.proofs.laws.copy_calls_do.Goals as goal

pub returns : goal.returns
returns c = copy_call_does
