use Rattle.phase_runs.proofs.Units.{phases_change}
use Rattle.phase_runs.proofs.laws.phases_change.Goals as goal

pub returns : goal.returns
returns c = phases_change
