use Rattle.well_formed_trees.proofs.ChecksSound.{accepted_checks}
use Rattle.well_formed_trees.proofs.laws.accepted_checks.Goals as goal

pub returns : goal.returns
returns c = accepted_checks
