use Rattle.get_runs.proofs.Gets.{get_does}
use Rattle.get_runs.proofs.laws.gets_do.Goals as goal

pub returns : goal.returns
returns c = get_does
