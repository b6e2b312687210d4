use Rattle.well_formed_trees.proofs.HeadsShallow.{parentheses_kept}
use Rattle.well_formed_trees.proofs.laws.parentheses_kept.Goals as goal

pub returns : goal.returns
returns c = parentheses_kept
