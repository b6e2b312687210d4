use Rattle.list_calls.proofs.ListKnown.{none_beside}
use Rattle.list_calls.proofs.laws.none_beside.Goals as goal

pub returns : goal.returns
returns c = none_beside
