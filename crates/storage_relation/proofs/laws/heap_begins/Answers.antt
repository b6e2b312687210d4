use Rattle.storage_relation.proofs.Storing.{heap_empty}
use Rattle.storage_relation.proofs.Rows.{heap_taken}
use Rattle.storage_relation.proofs.laws.heap_begins.Goals as goal

pub returns : goal.returns
returns c = record {
  empty = λ w h e. heap_empty w.keeper h.keeps w.places w.state w.memory h.stored e;
  taken = heap_taken;
}
