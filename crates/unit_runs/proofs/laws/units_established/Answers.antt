use Rattle.unit_runs.proofs.Establishing.{units_established}
use Rattle.unit_runs.proofs.laws.units_established.Goals as goal

pub returns : goal.returns
returns c = units_established
