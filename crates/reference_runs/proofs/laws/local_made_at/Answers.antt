use Rattle.reference_runs.proofs.LocalVariables.{local_made}
use Rattle.reference_runs.proofs.laws.local_made_at.Goals as goal

pub returns : goal.returns
returns c = local_made
