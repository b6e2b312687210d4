use Rattle.activation_relation.proofs.OwnPlaces.{storage_beside, frame_clear, free_clear, stores_hold, owned_entered}
use Rattle.activation_relation.proofs.OwnPlaces.{owned_left}
use Rattle.activation_relation.proofs.laws.frames_apart.Goals as goal

pub returns : goal.returns
returns c = record {
  storage = storage_beside;
  frame = frame_clear;
  free = free_clear;
  stored_apart = stores_hold;
  entered = owned_entered;
  left = owned_left;
}
