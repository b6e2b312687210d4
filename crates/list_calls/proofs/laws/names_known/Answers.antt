use Rattle.list_calls.proofs.Telling.{beside_telling, function_telling, inner_function_telling, inner_list_telling}
use Rattle.list_calls.proofs.Telling.{inner_telling, own_telling, telling_named}
use Rattle.list_calls.proofs.laws.names_known.Goals as goal

pub returns : goal.returns
returns c =
    record {
      own = own_telling;
      function = function_telling;
      beside = beside_telling;
      inner = inner_telling;
      inner_function = inner_function_telling;
      inner_list = inner_list_telling;
      named = telling_named;
    }
