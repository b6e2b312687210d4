use Rattle.begin_runs.proofs.ThroughReturns.{through_does}
use Rattle.begin_runs.proofs.laws.through_returns_do.Goals as goal

pub returns : goal.returns
returns c = through_does
