use Rattle.well_formed_trees.proofs.AcceptedSources.{accepted_framed}
use Rattle.well_formed_trees.proofs.laws.accepted_framed.Goals as goal

pub returns : goal.returns
returns c = accepted_framed
