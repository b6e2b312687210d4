use Rattle.unit_runs.proofs.UnitEndings.{unit_left_stands, units_end}
use Rattle.unit_runs.proofs.laws.units_end.Goals as goal

pub returns : goal.returns
returns c = record { comes = units_end; stands = unit_left_stands }
