use Rattle.area_assignments.proofs.Copying.{copy_does}
use Rattle.area_assignments.proofs.laws.areas_copied.Goals as goal

pub returns : goal.returns
returns c = copy_does
