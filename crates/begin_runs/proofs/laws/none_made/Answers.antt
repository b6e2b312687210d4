use Rattle.begin_runs.proofs.InnerVariables.{none_made}
use Rattle.begin_runs.proofs.laws.none_made.Goals as goal

pub returns : goal.returns
returns c = none_made
