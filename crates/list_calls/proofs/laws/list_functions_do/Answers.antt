use Rattle.list_calls.proofs.ListFunctions.{beside_function_ends, deep_function_ends, full_function_ends}
use Rattle.list_calls.proofs.ListFunctions.{listed_function_does}
use Rattle.list_calls.proofs.laws.list_functions_do.Goals as goal

pub returns : goal.returns
returns c =
    record {
      does = listed_function_does;
      ends = deep_function_ends;
      full = full_function_ends;
      beside = beside_function_ends;
    }
