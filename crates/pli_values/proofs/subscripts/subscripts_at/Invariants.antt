use Rattle.std.proofs.Common.{◌≡◌, ◌≤◌, ◌<◌, ◌/◌, drop, length, map, reverse}
use Rattle.pli_typing.specs.Signatures.{element_count}
use Rattle.pli_types.specs.View.{pair_of}
use Rattle.pli_values.proofs.Rows.{digits}
use Rattle.pli_values.proofs.subscripts.subscripts_at.Given as goal

abbrev pub invariant-loop-left : goal.invariant-loop-left
invariant-loop-left l = record {
  low : l.left ≤ length l.dimensions;
  some : 0 < element_count (map pair_of (drop l.left l.dimensions));
  rows : l.rows ≡ l.fn.place / element_count (map pair_of (drop l.left l.dimensions));
  behind : reverse l.subscripts.items ≡ digits (map pair_of (drop l.left l.dimensions)) l.fn.place;
}

abbrev pub decreases-loop-left : goal.decreases-loop-left
decreases-loop-left l = l.left
