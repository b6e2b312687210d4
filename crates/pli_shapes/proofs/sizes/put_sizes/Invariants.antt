use Rattle.std.proofs.Common.{◌≡◌, ◌≤◌, drop, take, length}
use Rattle.pli_shapes.specs.Sizes.{with_sizes}
use Rattle.pli_shapes.proofs.sizes.put_sizes.Given as goal

abbrev pub invariant-loop-left : goal.invariant-loop-left
invariant-loop-left l = record {
  low : l.left ≤ length l.parts;
  even : length l.parts ≡ length l.fn.parts;
  same : take l.left l.parts ≡ take l.left l.fn.parts;
  done : drop l.left l.parts ≡ with_sizes (drop l.left l.fn.parts);
}

abbrev pub decreases-loop-left : goal.decreases-loop-left
decreases-loop-left l = l.left
