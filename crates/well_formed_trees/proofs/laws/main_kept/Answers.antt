use Rattle.well_formed_trees.proofs.MainProcedure.{main_kept}
use Rattle.well_formed_trees.proofs.laws.main_kept.Goals as goal

pub returns : goal.returns
returns c = main_kept
