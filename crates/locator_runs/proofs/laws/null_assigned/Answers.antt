use Rattle.locator_runs.proofs.PointerAssignments.{null_does}
use Rattle.locator_runs.proofs.laws.null_assigned.Goals as goal

pub returns : goal.returns
returns c = null_does
