use Rattle.well_formed_trees.proofs.GroupsBare.{groups_kept}
use Rattle.well_formed_trees.proofs.laws.groups_kept.Goals as goal

pub returns : goal.returns
returns c = groups_kept
