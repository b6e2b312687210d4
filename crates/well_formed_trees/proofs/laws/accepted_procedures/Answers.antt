use Rattle.well_formed_trees.proofs.SoundProcedures.{accepted_procedures}
use Rattle.well_formed_trees.proofs.laws.accepted_procedures.Goals as goal

pub returns : goal.returns
returns c = accepted_procedures
