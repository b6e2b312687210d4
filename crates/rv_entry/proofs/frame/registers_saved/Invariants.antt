use Rattle.std.proofs.Common.{◌≡◌, ◌-◌, ◌++◌}
use Rattle.pli_coding.specs.Entries.{registers_saved}
use Rattle.rv_entry.proofs.frame.registers_saved.Given as goal

abbrev pub invariant-loop-n : goal.invariant-loop-n
invariant-loop-n l = l.code ++ registers_saved l.frame l.n (l.count - l.n)
    ≡ l.fn.code ++ registers_saved l.frame 0 l.count
