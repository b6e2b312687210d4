use Rattle.extent_runs.proofs.Both.{extents_placed}
use Rattle.extent_runs.proofs.laws.extents_placed.Goals as goal

pub returns : goal.returns
returns c = extents_placed
