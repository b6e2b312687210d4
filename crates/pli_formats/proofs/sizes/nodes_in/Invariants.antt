use Rattle.std.proofs.Common.{◌≡◌, ◌+◌, ◌-◌, ◌≤◌, drop, length}
use Rattle.pli_formats.specs.Sizes.{AreWithin, nodes_in}
use Rattle.pli_formats.proofs.sizes.nodes_in.Given as goal

abbrev pub invariant-loop-left : goal.invariant-loop-left
invariant-loop-left l = record {
  low : l.start ≤ l.place;
  high : l.place ≤ length l.nodes;
  within : AreWithin (drop l.place l.nodes);
  counted : (l.place - l.start) + nodes_in l.left (drop l.place l.nodes) ≡ nodes_in l.fn.count (drop l.start l.nodes);
}

abbrev pub decreases-loop-left : goal.decreases-loop-left
decreases-loop-left l = l.left
