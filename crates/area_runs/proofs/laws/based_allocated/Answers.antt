use Rattle.area_runs.proofs.AllocationStatements.{allocate_does}
use Rattle.area_runs.proofs.laws.based_allocated.Goals as goal

pub returns : goal.returns
returns c = allocate_does
