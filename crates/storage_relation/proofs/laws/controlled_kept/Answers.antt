use Rattle.storage_relation.proofs.Stacks.{stacks_assigned, stacks_apart, stacks_placed, stacks_freed, stacks_area}
use Rattle.storage_relation.proofs.Stacks.{stacks_begun, stacks_gone}
use Rattle.storage_relation.proofs.laws.controlled_kept.Goals as goal

pub returns : goal.returns
returns c = record {
  stored = stacks_assigned;
  apart = stacks_apart;
  placed = stacks_placed;
  freed = stacks_freed;
  areas = stacks_area;
  begun = stacks_begun;
  gone = stacks_gone;
}
