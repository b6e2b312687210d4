use Rattle.well_formed_trees.proofs.ProgramNumbers.{outermost_kept}
use Rattle.well_formed_trees.proofs.laws.outermost_kept.Goals as goal

pub returns : goal.returns
returns c = outermost_kept
