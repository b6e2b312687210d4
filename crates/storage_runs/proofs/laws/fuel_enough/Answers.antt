use Rattle.storage_runs.proofs.FuelRuns.{fuel_enough}
use Rattle.storage_runs.proofs.laws.fuel_enough.Goals as goal

pub returns : goal.returns
returns c = fuel_enough
