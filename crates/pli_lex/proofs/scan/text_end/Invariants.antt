use Rattle.std.proofs.Common.{◌≡◌, ◌≤◌, drop, false, None}
use Rattle.pli_lex.specs.Scanning.{text_end}
use Rattle.pli_lex.proofs.scan.text_end.Given as goal

abbrev pub invariant-loop-i : goal.invariant-loop-i
invariant-loop-i l = record {
  rest : text_end l.closed l.after_quote l.i l.len (drop l.i l.bytes) ≡ text_end None false 0 0 l.bytes;
  bound : l.len ≤ l.i;
}
