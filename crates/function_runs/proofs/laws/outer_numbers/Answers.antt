use Rattle.function_runs.proofs.OuterVariables.{function_number, procedure_number}
use Rattle.function_runs.proofs.laws.outer_numbers.Goals as goal

pub returns : goal.returns
returns c = record { procedure = procedure_number; function = function_number }
