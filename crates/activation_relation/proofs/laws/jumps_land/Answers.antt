use Rattle.activation_relation.proofs.Landings.{lands_later, lands_entered, lands_moved, lands_listed}
use Rattle.activation_relation.proofs.laws.jumps_land.Goals as goal
use Rattle.activation_relation.specs.LandingLaws.{jumps_by, labels_by}

pub returns : goal.returns
returns c = record {
  later = λ w J. lands_later w (jumps_by J);
  entered = λ w J. lands_entered w (jumps_by J);
  moved = λ w J. lands_moved w (jumps_by J);
  listed = λ w J own. lands_listed w (jumps_by J) (labels_by own);
}
