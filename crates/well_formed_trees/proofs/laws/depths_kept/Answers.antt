use Rattle.well_formed_trees.proofs.EntriesSound.{depths_kept}
use Rattle.well_formed_trees.proofs.laws.depths_kept.Goals as goal

pub returns : goal.returns
returns c = depths_kept
