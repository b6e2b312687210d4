use Rattle.cut_runs.proofs.Meanings.{meanings_continue}
use Rattle.cut_runs.proofs.laws.meanings_continue.Goals as goal

pub returns : goal.returns
returns c = meanings_continue c.storage_grows.ensures c.meaning_there.ensures
