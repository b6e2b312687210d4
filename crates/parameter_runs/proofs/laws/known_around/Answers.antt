use Rattle.parameter_runs.proofs.Inner.{function_around, inner_around, list_around, own_around}
use Rattle.parameter_runs.proofs.Passing.{around_told}
use Rattle.parameter_runs.proofs.laws.known_around.Goals as goal

pub returns : goal.returns
returns c =
    record {
      own = own_around;
      told = around_told;
      inner = inner_around;
      inner_function = function_around;
      inner_list = list_around;
    }
