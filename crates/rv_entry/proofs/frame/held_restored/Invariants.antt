use Rattle.std.proofs.Common.{◌≡◌, ◌-◌, ◌++◌}
use Rattle.pli_coding.specs.Entries.{registers_restored}
use Rattle.rv_entry.proofs.frame.held_restored.Given as goal

abbrev pub invariant-loop-n : goal.invariant-loop-n
invariant-loop-n l = l.code ++ registers_restored l.n (l.count - l.n) ≡ l.fn.code ++ registers_restored 0 l.count
