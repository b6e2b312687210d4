use Rattle.extent_runs.proofs.UnpaidCalls.{unpaid_call_does}
use Rattle.extent_runs.proofs.laws.unpaid_calls_do.Goals as goal

pub returns : goal.returns
returns c = unpaid_call_does
