use Rattle.well_formed_trees.proofs.LeavesSound.{accepted_leaves}
use Rattle.well_formed_trees.proofs.laws.accepted_leaves.Goals as goal

pub returns : goal.returns
returns c = accepted_leaves
