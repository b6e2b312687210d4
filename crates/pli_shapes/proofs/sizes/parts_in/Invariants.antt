use Rattle.std.proofs.Common.{◌≡◌, ◌+◌, ◌-◌, ◌≤◌, drop, length}
use Rattle.pli_shapes.specs.Sizes.{AreWithin, parts_in}
use Rattle.pli_shapes.proofs.sizes.parts_in.Given as goal

abbrev pub invariant-loop-left : goal.invariant-loop-left
invariant-loop-left l = record {
  low : l.start ≤ l.place;
  high : l.place ≤ length l.parts;
  within : AreWithin (drop l.place l.parts);
  counted : (l.place - l.start) + parts_in l.left (drop l.place l.parts) ≡ parts_in l.fn.count (drop l.start l.parts);
}

abbrev pub decreases-loop-left : goal.decreases-loop-left
decreases-loop-left l = l.left
