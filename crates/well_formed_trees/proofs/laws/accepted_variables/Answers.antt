use Rattle.well_formed_trees.proofs.StructuredVariables.{accepted_variables}
use Rattle.well_formed_trees.proofs.laws.accepted_variables.Goals as goal

pub returns : goal.returns
returns c = accepted_variables
