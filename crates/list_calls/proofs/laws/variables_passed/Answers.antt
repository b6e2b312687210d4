use Rattle.list_calls.proofs.VariablesPassed.{variables_passed}
use Rattle.list_calls.proofs.laws.variables_passed.Goals as goal

pub returns : goal.returns
returns c = variables_passed
