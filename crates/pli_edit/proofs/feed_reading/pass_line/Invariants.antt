use Rattle.pli_edit.specs.KnownMarks.{most_left}
use Rattle.pli_edit.proofs.Passing.{LineSo}
use Rattle.pli_edit.proofs.feed_reading.pass_line.Given as goal

abbrev pub invariant-loop-mark : goal.invariant-loop-mark
invariant-loop-mark g l = LineSo l.fn.marks l.marks

abbrev pub decreases-loop-mark : goal.decreases-loop-mark
decreases-loop-mark g l = most_left l.marks
