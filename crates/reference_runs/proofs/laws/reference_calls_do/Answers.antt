use Rattle.reference_runs.proofs.ReferenceCalls.{reference_call_does}
use Rattle.reference_runs.proofs.laws.reference_calls_do.Goals as goal

pub returns : goal.returns
returns c = reference_call_does
