use Rattle.granule_keeper.proofs.GranuleKeeps.{granules_keep}
use Rattle.granule_keeper.proofs.laws.granules_keep.Goals as goal

pub returns : goal.returns
returns c = granules_keep
