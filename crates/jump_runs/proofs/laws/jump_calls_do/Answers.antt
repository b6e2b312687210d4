use Rattle.jump_runs.proofs.Calls.{jump_call_does}
use Rattle.jump_runs.proofs.laws.jump_calls_do.Goals as goal

pub returns : goal.returns
returns c = jump_call_does
