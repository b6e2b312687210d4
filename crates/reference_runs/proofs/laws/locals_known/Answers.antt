use Rattle.reference_runs.proofs.LocalVariables.{local_number, local_where}
use Rattle.reference_runs.proofs.laws.locals_known.Goals as goal

pub returns : goal.returns
returns c = record { made = local_where; number = local_number }
