use Rattle.std.proofs.Common.{◌≡◌, ◌+◌, ◌*◌, ℕ, is_some, true}
use Rattle.pli_meaning.specs.Contents.{initial_at}
use Rattle.pli_serving.specs.Bytes.{with_bytes}
use Rattle.pli_signatures.specs.View.{kind_of}
use Rattle.pli_values.specs.Items.{items_behind, items_left}
use Rattle.pli_values.specs.Runs.{fresh_element, run_of}
use Rattle.pli_values.specs.Sizes.{written_size}
use Rattle.pli_values.proofs.generation.put_elements.Given as goal

abbrev pub invariant-loop-done : goal.invariant-loop-done
invariant-loop-done l = record {
  right : is_some (items_behind l.items) ≡ true;
  kind : l.items.kind ≡ l.fn.items.kind;
  values : (n : ℕ) → initial_at (items_left l.items) n ≡ initial_at (items_left l.fn.items) (l.done + n);
  place : l.at ≡ l.fn.at + written_size (kind_of l.fn.items.kind) * l.done;
  written : l.memory ≡ with_bytes (run_of (fresh_element (kind_of l.fn.items.kind) (initial_at (items_left l.fn.items))) 0 l.done) l.fn.at l.fn.memory;
}
