use Rattle.well_formed_trees.proofs.HeadsInRange.{ranges_kept}
use Rattle.well_formed_trees.proofs.laws.ranges_kept.Goals as goal

pub returns : goal.returns
returns c = ranges_kept
