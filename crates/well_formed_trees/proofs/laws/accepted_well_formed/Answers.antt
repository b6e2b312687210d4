use Rattle.well_formed_trees.proofs.WellFormedSources.{accepted_well_formed}
use Rattle.well_formed_trees.proofs.laws.accepted_well_formed.Goals as goal

pub returns : goal.returns
returns c = accepted_well_formed
