use Rattle.nested_calls.proofs.FullVariables.{variable_ends}
use Rattle.nested_calls.proofs.laws.variables_end.Goals as goal

pub returns : goal.returns
returns c = variable_ends
