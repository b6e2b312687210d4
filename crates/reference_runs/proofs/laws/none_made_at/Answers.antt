use Rattle.reference_runs.proofs.MadeNothing.{none_at}
use Rattle.reference_runs.proofs.laws.none_made_at.Goals as goal

pub returns : goal.returns
returns c = none_at
