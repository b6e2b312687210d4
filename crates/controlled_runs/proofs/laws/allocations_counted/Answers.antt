use Rattle.controlled_runs.proofs.Counting.{allocations_do}
use Rattle.controlled_runs.proofs.laws.allocations_counted.Goals as goal

pub returns : goal.returns
returns c = allocations_do
