use Rattle.well_formed_trees.proofs.ResultTypes.{results_kept}
use Rattle.well_formed_trees.proofs.laws.results_kept.Goals as goal

pub returns : goal.returns
returns c = results_kept
