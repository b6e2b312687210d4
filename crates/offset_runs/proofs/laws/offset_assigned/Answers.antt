use Rattle.offset_runs.proofs.OffsetAssignments.{assign_does}
use Rattle.offset_runs.proofs.laws.offset_assigned.Goals as goal

pub returns : goal.returns
returns c = assign_does
