use Rattle.std.proofs.Common.{◌≡◌, ◌+◌, ◌^◌, ◌<◌, ◌≤◌, ◌++◌, length, vec_len, vec_capacity}
use Rattle.pli_meaning.specs.InputLines.{place_behind, characters}
use Rattle.pli_edit.proofs.reading.take_characters.Given as goal

abbrev pub invariant-loop-left : goal.invariant-loop-left
invariant-loop-left l = record {
  reached : place_behind l.left l.column l.marks ≡ place_behind l.fn.count l.fn.start l.fn.marks;
  taken : l.field.items ++ characters l.left l.marks ≡ l.fn.field.items ++ characters l.fn.count l.fn.marks;
  columns : l.column + length l.marks < 2 ^ 64;
  capacity : vec_capacity l.fn.field ≤ vec_capacity l.field;
  room : vec_len l.field + l.left ≤ vec_capacity l.field;
}

abbrev pub decreases-loop-left : goal.decreases-loop-left
decreases-loop-left l = length l.marks
