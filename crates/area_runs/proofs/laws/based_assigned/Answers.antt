use Rattle.area_runs.proofs.BasedAssignments.{assign_does}
use Rattle.area_runs.proofs.laws.based_assigned.Goals as goal

pub returns : goal.returns
returns c = assign_does
