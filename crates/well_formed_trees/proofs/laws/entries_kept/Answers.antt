use Rattle.well_formed_trees.proofs.Entries.{entries_kept}
use Rattle.well_formed_trees.proofs.laws.entries_kept.Goals as goal

pub returns : goal.returns
returns c = entries_kept
