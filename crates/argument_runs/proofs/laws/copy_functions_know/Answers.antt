use Rattle.argument_runs.proofs.CopyKnown.{function_outer_known, function_own_known}
use Rattle.argument_runs.proofs.laws.copy_functions_know.Goals as goal

pub returns : goal.returns
returns c = record { own = function_own_known; outer = function_outer_known }
