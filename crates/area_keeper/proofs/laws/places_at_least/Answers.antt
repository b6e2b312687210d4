use Rattle.area_keeper.proofs.LeastPlaces.{at_least}
use Rattle.area_keeper.proofs.laws.places_at_least.Goals as goal

pub returns : goal.returns
returns c = at_least c.gap_exact.ensures
