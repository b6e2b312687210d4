use Rattle.activation_relation.proofs.Landings.{leaves_later, leaves_begun, leaves_moved}
use Rattle.activation_relation.proofs.laws.returns_leave.Goals as goal
use Rattle.activation_relation.specs.LandingLaws.{returns_by}

pub returns : goal.returns
returns c = record {
  later = λ w R. leaves_later w (returns_by R);
  begun = λ w R. leaves_begun w (returns_by R);
  moved = λ w R. leaves_moved w (returns_by R);
}
