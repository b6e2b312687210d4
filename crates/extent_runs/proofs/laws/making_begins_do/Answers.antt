use Rattle.extent_runs.proofs.MakingBegins.{begin_does}
use Rattle.extent_runs.proofs.laws.making_begins_do.Goals as goal

pub returns : goal.returns
returns c = begin_does
