use Rattle.locator_runs.proofs.PointerPoints.{pointers_told}
use Rattle.locator_runs.proofs.laws.pointers_told.Goals as goal

pub returns : goal.returns
returns c = pointers_told
