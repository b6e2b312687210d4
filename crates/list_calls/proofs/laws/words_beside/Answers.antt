use Rattle.list_calls.proofs.WordsBeside.{words_beside}
use Rattle.list_calls.proofs.laws.words_beside.Goals as goal

pub returns : goal.returns
returns c = words_beside
