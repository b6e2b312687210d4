use Rattle.nested_calls.proofs.FullCalls.{full_function_ends}
use Rattle.nested_calls.proofs.NestedFunctions.{deep_function_ends, nested_function_does}
use Rattle.nested_calls.proofs.laws.nested_functions_do.Goals as goal

pub returns : goal.returns
returns c = record { does = nested_function_does; ends = deep_function_ends; full = full_function_ends }
