use Rattle.std.proofs.Common.{◌≡◌, drop, false}
use Rattle.pli_lex.specs.Scanning.{comment_end}
use Rattle.pli_lex.proofs.scan.comment_end.Given as goal

abbrev pub invariant-loop-i : goal.invariant-loop-i
invariant-loop-i l = comment_end l.after_star l.i (drop l.i l.bytes) ≡ comment_end false 0 l.bytes
