use Rattle.extent_runs.proofs.Both.{extents_evaluated}
use Rattle.extent_runs.proofs.laws.extents_evaluated.Goals as goal

pub returns : goal.returns
returns c = extents_evaluated
