use Rattle.std.proofs.Common.{◌≡◌, ℕ, is_some, true}
use Rattle.pli_meaning.specs.Contents.{initial_at}
use Rattle.pli_values.specs.Items.{items_behind, items_left}
use Rattle.pli_values.proofs.leaf_items.Items.skip_ended.Given as goal

abbrev pub invariant-loop-self : goal.invariant-loop-self
invariant-loop-self l = record {
  right : is_some (items_behind l.self) ≡ true;
  same : (n : ℕ) → initial_at (items_left l.self) n ≡ initial_at (items_left l.fn.self) n;
  kind : l.self.kind ≡ l.fn.self.kind;
}

abbrev pub decreases-loop-self : goal.decreases-loop-self
decreases-loop-self l = l.self.left
