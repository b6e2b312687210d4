use Rattle.std.proofs.Common.{◌+◌, ◌^◌, ◌<◌, ◌≤◌, vec_len, vec_capacity}
use Rattle.pli_edit.specs.KnownMarks.{most_left}
use Rattle.pli_edit.proofs.Passing.{PutsSo}
use Rattle.pli_edit.proofs.feed_reading.take_characters.Given as goal

abbrev pub invariant-loop-left : goal.invariant-loop-left
invariant-loop-left g l = record {
  way : PutsSo l.fn.count l.fn.start l.fn.field.items l.left l.column l.field.items l.fn.marks l.marks;
  columns : l.column + most_left l.marks < 2 ^ 64;
  capacity : vec_capacity l.fn.field ≤ vec_capacity l.field;
  room : vec_len l.field + l.left ≤ vec_capacity l.field;
  fewer : most_left l.marks ≤ most_left l.fn.marks;
}

abbrev pub decreases-loop-left : goal.decreases-loop-left
decreases-loop-left g l = most_left l.marks
