use Rattle.begin_runs.proofs.Begins.{begin_does}
use Rattle.begin_runs.proofs.laws.begins_do.Goals as goal

pub returns : goal.returns
returns c = begin_does
