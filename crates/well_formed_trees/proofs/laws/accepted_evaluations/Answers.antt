use Rattle.well_formed_trees.proofs.EvaluationsSound.{accepted_evaluations}
use Rattle.well_formed_trees.proofs.laws.accepted_evaluations.Goals as goal

pub returns : goal.returns
returns c = accepted_evaluations
