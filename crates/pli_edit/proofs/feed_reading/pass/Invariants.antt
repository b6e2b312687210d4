use Rattle.std.proofs.Common.{◌+◌, ◌^◌, ◌<◌, ◌≤◌}
use Rattle.pli_edit.specs.KnownMarks.{most_left}
use Rattle.pli_edit.proofs.Passing.{PassesSo}
use Rattle.pli_edit.proofs.feed_reading.pass.Given as goal

abbrev pub invariant-loop-left : goal.invariant-loop-left
invariant-loop-left g l = record {
  way : PassesSo l.fn.count l.fn.start l.left l.column l.fn.marks l.marks;
  room : l.column + most_left l.marks < 2 ^ 64;
  fewer : most_left l.marks ≤ most_left l.fn.marks;
}

abbrev pub decreases-loop-left : goal.decreases-loop-left
decreases-loop-left g l = most_left l.marks
