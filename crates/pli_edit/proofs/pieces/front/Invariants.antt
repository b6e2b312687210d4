use Rattle.std.proofs.Common.{◌≡◌, ◌+◌, ◌≤◌, vec_len, vec_capacity}
use Rattle.pli_edit.specs.FormatPlaces.{left_of, weight_of}
use Rattle.pli_edit.proofs.pieces.front.Given as goal

abbrev pub invariant-loop-piece : goal.invariant-loop-piece
invariant-loop-piece l = record {
  left : left_of l.nodes l.pieces.items ≡ left_of l.fn.nodes l.fn.pieces.items;
  room : vec_len l.pieces + 3 ≤ vec_capacity l.pieces;
}

abbrev pub decreases-loop-piece : goal.decreases-loop-piece
decreases-loop-piece l = weight_of l.nodes l.pieces.items
