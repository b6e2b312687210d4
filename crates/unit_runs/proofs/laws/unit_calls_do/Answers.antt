use Rattle.unit_runs.proofs.Bodies.{unit_call_does}
use Rattle.unit_runs.proofs.laws.unit_calls_do.Goals as goal

pub returns : goal.returns
returns c = unit_call_does
