use Rattle.pli_meaning.proofs.StorageLaws.{acts_allowed}
use Rattle.pli_meaning.proofs.laws.storage_acts_allowed.Goals as goal

pub returns : goal.returns
returns c = acts_allowed
