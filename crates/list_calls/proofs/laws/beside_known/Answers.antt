use Rattle.list_calls.proofs.WordsKnown.{beside_known}
use Rattle.list_calls.proofs.laws.beside_known.Goals as goal

pub returns : goal.returns
returns c = beside_known
