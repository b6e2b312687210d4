use Rattle.unit_runs.proofs.UnitEntries.{units_begin, units_stand}
use Rattle.unit_runs.proofs.laws.units_begin.Goals as goal

pub returns : goal.returns
returns c = record { comes = units_begin; stands = units_stand }
