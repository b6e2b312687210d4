use Rattle.std.proofs.Common.{◌≡◌, drop}
use Rattle.pli_edit.specs.Marks.{has_line_end}
use Rattle.pli_edit.proofs.mark.has_line_end.Given as goal

abbrev pub invariant-loop-byte : goal.invariant-loop-byte
invariant-loop-byte l = has_line_end (drop l.byte-index l.line) ≡ has_line_end l.fn.line
