use Rattle.controlled_runs.proofs.Freeing.{free_does}
use Rattle.controlled_runs.proofs.laws.controlled_freed.Goals as goal

pub returns : goal.returns
returns c = free_does
