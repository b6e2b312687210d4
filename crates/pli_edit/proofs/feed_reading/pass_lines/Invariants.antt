use Rattle.std.proofs.Common.{◌≤◌}
use Rattle.pli_edit.specs.KnownMarks.{most_left}
use Rattle.pli_edit.proofs.Passing.{LinesSo}
use Rattle.pli_edit.proofs.feed_reading.pass_lines.Given as goal

abbrev pub invariant-loop-left : goal.invariant-loop-left
invariant-loop-left g l = record {
  way : LinesSo l.fn.count l.left l.fn.marks l.marks;
  room : most_left l.marks ≤ most_left l.fn.marks;
}

abbrev pub decreases-loop-left : goal.decreases-loop-left
decreases-loop-left g l = most_left l.marks
