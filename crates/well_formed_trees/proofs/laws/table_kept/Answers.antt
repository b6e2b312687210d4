use Rattle.well_formed_trees.proofs.BlocksHeld.{table_kept}
use Rattle.well_formed_trees.proofs.laws.table_kept.Goals as goal

pub returns : goal.returns
returns c = table_kept
