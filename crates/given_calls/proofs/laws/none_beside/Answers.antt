use Rattle.given_calls.proofs.GivenKnown.{none_beside}
use Rattle.given_calls.proofs.laws.none_beside.Goals as goal

pub returns : goal.returns
returns c = none_beside
