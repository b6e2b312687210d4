use Rattle.unit_runs.proofs.FurtherVariables.{further_number}
use Rattle.unit_runs.proofs.UnitVariables.{none_made, outer_number}
use Rattle.unit_runs.proofs.laws.unit_variables.Goals as goal

pub returns : goal.returns
returns c = record { none = none_made; outer = outer_number; further = further_number }
