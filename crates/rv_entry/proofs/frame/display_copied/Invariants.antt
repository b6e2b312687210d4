use Rattle.std.proofs.Common.{◌≡◌, ◌-◌, ◌++◌}
use Rattle.pli_coding.specs.Entries.{display_copied}
use Rattle.rv_entry.proofs.frame.display_copied.Given as goal

abbrev pub invariant-loop-n : goal.invariant-loop-n
invariant-loop-n l = l.code ++ display_copied l.n (l.outer - l.n) ≡ l.fn.code ++ display_copied 0 l.outer
