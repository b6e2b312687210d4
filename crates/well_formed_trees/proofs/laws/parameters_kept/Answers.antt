use Rattle.well_formed_trees.proofs.ParameterVariables.{parameters_kept}
use Rattle.well_formed_trees.proofs.laws.parameters_kept.Goals as goal

pub returns : goal.returns
returns c = parameters_kept
