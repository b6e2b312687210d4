use Rattle.copy_units.proofs.Calls.{function_does, procedure_does}
use Rattle.copy_units.proofs.laws.copy_units_do.Goals as goal

pub returns : goal.returns
returns c = record { procedure = procedure_does; function = function_does }
