use Rattle.reference_runs.proofs.GivenReferences.{references_come}
use Rattle.reference_runs.proofs.laws.references_given.Goals as goal

pub returns : goal.returns
returns c = record { comes = references_come }
