use Rattle.storage_relation.proofs.Finding.{found_named, unfound_named, named_found, named_unfound}
use Rattle.storage_relation.proofs.laws.names_found.Goals as goal

pub returns : goal.returns
returns c = record {
  found = λ w h n g e. found_named w.keeper h.keeps w.layout w.places w.state w.services w.memory n g h.heap h.lives
      h.stored e;
  unfound = λ w h n e. unfound_named w.keeper w.layout w.places w.state w.services w.memory n h.heap h.lives h.stored
      e;
  named = λ w h n number shape g e f. named_found w.keeper h.keeps w.layout w.places w.state w.services w.memory n
      number
      shape g h.heap h.lives h.stored h.distinct e f;
  unnamed = λ w h n number shape e f. named_unfound w.keeper h.keeps w.layout w.places w.state w.services w.memory n
      number
      shape h.heap h.lives h.stored h.distinct e f;
}
