use Rattle.element_runs.proofs.Outer.{function_known, outer_array, procedure_known}
use Rattle.element_runs.proofs.laws.outer_known.Goals as goal

pub returns : goal.returns
returns c = record { procedure = procedure_known; function = function_known; array = outer_array }
