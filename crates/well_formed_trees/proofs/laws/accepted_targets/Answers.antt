use Rattle.well_formed_trees.proofs.Targets.{accepted_targets}
use Rattle.well_formed_trees.proofs.laws.accepted_targets.Goals as goal

pub returns : goal.returns
returns c = accepted_targets
