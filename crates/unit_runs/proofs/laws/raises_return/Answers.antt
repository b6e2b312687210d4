use Rattle.unit_runs.proofs.UnitRuns.{raises_return}
use Rattle.unit_runs.proofs.laws.raises_return.Goals as goal

pub returns : goal.returns
returns c = raises_return
