use Rattle.storage_runs.proofs.Numbers.{serials_stay}
use Rattle.storage_runs.proofs.laws.serials_stay_once.Goals as goal

pub returns : goal.returns
returns c = serials_stay
