use Rattle.given_calls.proofs.DeepCalls.{deep_function_ends}
use Rattle.given_calls.proofs.FullBeside.{beside_function_ends}
use Rattle.given_calls.proofs.FullCalls.{full_function_ends}
use Rattle.given_calls.proofs.GivenFunctions.{given_function_does}
use Rattle.given_calls.proofs.laws.given_functions_do.Goals as goal

pub returns : goal.returns
returns c =
    record {
      does = given_function_does;
      ends = deep_function_ends;
      full = full_function_ends;
      beside = beside_function_ends;
    }
