use Rattle.pli_meaning.proofs.StorageLaws.{grows}
use Rattle.pli_meaning.proofs.laws.storage_grows.Goals as goal

pub returns : goal.returns
returns c = grows
