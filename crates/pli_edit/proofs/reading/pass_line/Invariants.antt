use Rattle.std.proofs.Common.{◌≡◌, ◌≤◌, length}
use Rattle.pli_meaning.specs.InputLines.{next_line}
use Rattle.pli_edit.proofs.reading.pass_line.Given as goal

abbrev pub invariant-loop-mark : goal.invariant-loop-mark
invariant-loop-mark l = record {
  next : next_line l.marks ≡ next_line l.fn.marks;
  fewer : length l.marks ≤ length l.fn.marks;
}

abbrev pub decreases-loop-mark : goal.decreases-loop-mark
decreases-loop-mark l = length l.marks
