use Rattle.given_calls.proofs.GivenKnown.{given_nested, given_number, given_parameter, given_variable}
use Rattle.given_calls.proofs.laws.given_known.Goals as goal

pub returns : goal.returns
returns c = record { nested = given_nested; number = given_number; known = given_variable; own = given_parameter }
