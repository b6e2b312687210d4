use Rattle.std.proofs.Common.{◌≡◌, ◌≤◌, drop, take, length}
use Rattle.pli_formats.specs.Sizes.{with_sizes}
use Rattle.pli_formats.proofs.sizes.put_sizes.Given as goal

abbrev pub invariant-loop-left : goal.invariant-loop-left
invariant-loop-left l = record {
  low : l.left ≤ length l.nodes;
  even : length l.nodes ≡ length l.fn.nodes;
  same : take l.left l.nodes ≡ take l.left l.fn.nodes;
  done : drop l.left l.nodes ≡ with_sizes (drop l.left l.fn.nodes);
}

abbrev pub decreases-loop-left : goal.decreases-loop-left
decreases-loop-left l = l.left
