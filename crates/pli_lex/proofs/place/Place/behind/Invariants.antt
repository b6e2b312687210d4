use Rattle.std.proofs.Common.{◌≡◌, ◌+◌, ◌≤◌, drop}
use Rattle.pli_lex.specs.Scanning.{line_from, column_from}
use Rattle.pli_lex.proofs.place.Place.behind.Given as goal

-- the rest of the bytes gives the result, and each byte adds at most one
abbrev pub invariant-loop-byte : goal.invariant-loop-byte
invariant-loop-byte l = record {
  line : line_from l.line (drop l.byte-index l.bytes) ≡ line_from l.fn.self.line l.bytes;
  column : column_from l.column (drop l.byte-index l.bytes) ≡ column_from l.fn.self.column l.bytes;
  line_bound : l.line ≤ l.fn.self.line + l.byte-index;
  column_bound : l.column ≤ l.fn.self.column + l.byte-index;
}
