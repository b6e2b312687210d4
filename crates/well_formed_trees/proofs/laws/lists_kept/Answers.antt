use Rattle.well_formed_trees.proofs.ProgramNumbers.{lists_kept}
use Rattle.well_formed_trees.proofs.laws.lists_kept.Goals as goal

pub returns : goal.returns
returns c = lists_kept
