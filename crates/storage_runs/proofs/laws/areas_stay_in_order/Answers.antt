use Rattle.storage_runs.proofs.Areas.{areas_stay}
use Rattle.storage_runs.proofs.laws.areas_stay_in_order.Goals as goal

pub returns : goal.returns
returns c = areas_stay c.footprints_apart.ensures
