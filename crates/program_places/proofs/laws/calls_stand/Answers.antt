use Rattle.program_places.proofs.Calls.{call_stands}
use Rattle.program_places.proofs.laws.calls_stand.Goals as goal

pub returns : goal.returns
returns c = call_stands
