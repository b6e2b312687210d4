use Rattle.std.proofs.Common.{◌≡◌, ◌+◌, ◌≤◌, ◌++◌, take, drop}
use Rattle.pli.specs.Margins.{between}
use Rattle.pli.proofs.margins.Margins.blank_outside.Given as goal

-- what stands from the byte on is as it was, and blanking it gives the whole; each byte adds at most one
abbrev pub invariant-loop-byte : goal.invariant-loop-byte
invariant-loop-byte l = record {
  whole :
      take l.byte-index l.source ++ between l.self.first l.self.last l.column (drop l.byte-index l.source)
      ≡ between l.self.first l.self.last 1 l.initial.source;
  bound : l.column ≤ l.byte-index + 1;
}
