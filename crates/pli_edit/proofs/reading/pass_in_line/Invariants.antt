use Rattle.std.proofs.Common.{◌≡◌, ◌+◌, ◌^◌, ◌<◌, length}
use Rattle.pli_meaning.specs.InputLines.{further}
use Rattle.pli_edit.proofs.reading.pass_in_line.Given as goal

abbrev pub invariant-loop-left : goal.invariant-loop-left
invariant-loop-left l = record {
  reached : further l.left l.column l.marks ≡ further l.fn.count l.fn.start l.fn.marks;
  room : l.column + length l.marks < 2 ^ 64;
}

abbrev pub decreases-loop-left : goal.decreases-loop-left
decreases-loop-left l = l.left
