use Rattle.area_assignments.proofs.Emptying.{empty_does}
use Rattle.area_assignments.proofs.laws.areas_emptied.Goals as goal

pub returns : goal.returns
returns c = empty_does
