use Rattle.pli_meaning.proofs.StorageLaws.{ended_stays}
use Rattle.pli_meaning.proofs.laws.storage_stays.Goals as goal

pub returns : goal.returns
returns c = ended_stays
