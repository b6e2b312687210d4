use Rattle.std.proofs.Common.{◌≡◌, ◌≤◌, length, take}
use Rattle.std.specs.Prelude.{reverse}
use Rattle.pli_entries.specs.Kept.{placed_below}
use Rattle.pli_entries.proofs.kept.keep_below.Given as goal

abbrev pub invariant-loop-left : goal.invariant-loop-left
invariant-loop-left l = record {
  low : l.left ≤ length l.aggregates.items;
  kept : placed_below l.height (reverse (take l.left l.aggregates.items)) ≡ placed_below l.height (reverse l.aggregates.items);
}

abbrev pub decreases-loop-left : goal.decreases-loop-left
decreases-loop-left l = l.left
