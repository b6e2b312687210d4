use Rattle.list_calls.proofs.ParametersPassed.{parameters_passed}
use Rattle.list_calls.proofs.laws.parameters_passed.Goals as goal

pub returns : goal.returns
returns c = parameters_passed
