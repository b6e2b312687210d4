use Rattle.begin_runs.proofs.InnerVariables.{one_made}
use Rattle.begin_runs.proofs.laws.one_made.Goals as goal

pub returns : goal.returns
returns c = one_made
