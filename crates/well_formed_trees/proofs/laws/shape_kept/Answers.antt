use Rattle.well_formed_trees.proofs.Shapes.{shape_kept}
use Rattle.well_formed_trees.proofs.laws.shape_kept.Goals as goal

pub returns : goal.returns
returns c = shape_kept
