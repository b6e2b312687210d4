use Rattle.well_formed_trees.proofs.HeldStatements.{blocks_kept}
use Rattle.well_formed_trees.proofs.laws.blocks_kept.Goals as goal

pub returns : goal.returns
returns c = blocks_kept
