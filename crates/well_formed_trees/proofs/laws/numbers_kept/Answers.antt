use Rattle.well_formed_trees.proofs.ProgramNumbers.{numbers_kept}
use Rattle.well_formed_trees.proofs.laws.numbers_kept.Goals as goal

pub returns : goal.returns
returns c = numbers_kept
