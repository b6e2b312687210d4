use Rattle.offset_runs.proofs.PointerAssignments.{point_does}
use Rattle.offset_runs.proofs.laws.pointer_from_offset.Goals as goal

pub returns : goal.returns
returns c = point_does
