use Rattle.nested_calls.proofs.NestedVariables.{function_known, function_nested, function_number, procedure_known}
use Rattle.nested_calls.proofs.NestedVariables.{procedure_nested, procedure_number}
use Rattle.nested_calls.proofs.laws.nested_numbers.Goals as goal

pub returns : goal.returns
returns c =
    record {
      nested = procedure_nested;
      number = procedure_number;
      nested_function = function_nested;
      number_function = function_number;
      known = procedure_known;
      known_function = function_known;
    }
