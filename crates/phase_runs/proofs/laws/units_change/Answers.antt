use Rattle.phase_runs.specs.Units.{phases_of}
use Rattle.phase_runs.proofs.Units.{units_change}
use Rattle.phase_runs.proofs.laws.units_change.Goals as goal

pub returns : goal.returns
returns c = λ k ons. units_change k (phases_of k ons)
