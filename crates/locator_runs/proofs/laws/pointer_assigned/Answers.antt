use Rattle.locator_runs.proofs.PointerAssignments.{copy_does}
use Rattle.locator_runs.proofs.laws.pointer_assigned.Goals as goal

pub returns : goal.returns
returns c = copy_does
