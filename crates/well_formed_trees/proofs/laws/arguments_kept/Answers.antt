use Rattle.well_formed_trees.proofs.HeadsCounted.{arguments_kept}
use Rattle.well_formed_trees.proofs.laws.arguments_kept.Goals as goal

pub returns : goal.returns
returns c = arguments_kept
