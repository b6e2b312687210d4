use Rattle.controlled_runs.proofs.Allocations.{allocate_does}
use Rattle.controlled_runs.proofs.laws.controlled_allocated.Goals as goal

pub returns : goal.returns
returns c = allocate_does
