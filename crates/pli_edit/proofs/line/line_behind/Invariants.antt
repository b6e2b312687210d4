use Rattle.std.proofs.Common.{◌≡◌, ◌+◌, ◌≤◌, drop}
use Rattle.pli_edit.specs.LastLine.{line_over}
use Rattle.pli_edit.proofs.line.line_behind.Given as goal

abbrev pub invariant-loop-byte : goal.invariant-loop-byte
invariant-loop-byte l = record {
  length : line_over l.behind (drop l.byte-index l.text) ≡ line_over l.line l.text;
  within : l.behind ≤ l.line + l.byte-index;
}
