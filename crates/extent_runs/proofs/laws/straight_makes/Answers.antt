use Rattle.extent_runs.proofs.MakingBegins.{straight_makes}
use Rattle.extent_runs.proofs.laws.straight_makes.Goals as goal

pub returns : goal.returns
returns c = straight_makes
