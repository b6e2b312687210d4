use Rattle.std.proofs.Common.{◌≡◌, ◌≤◌, drop, length, map}
use Rattle.pli_signatures.specs.View.{leaf_in_force}
use Rattle.pli_order.specs.Counted.{counted}
use Rattle.pli_order.proofs.counts.put_counts.Given as goal

abbrev pub invariant-loop-left : goal.invariant-loop-left
invariant-loop-left l = record {
  low : l.left ≤ length l.counts;
  even : length l.counts ≡ length l.notes;
  done : drop l.left l.counts ≡ counted (drop l.left l.notes) (map leaf_in_force l.leaves);
}

abbrev pub decreases-loop-left : goal.decreases-loop-left
decreases-loop-left l = l.left
