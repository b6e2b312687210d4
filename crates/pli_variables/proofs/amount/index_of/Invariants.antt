use Rattle.std.proofs.Common.{◌≡◌, ◌+◌, drop}
use Rattle.pli_typing.specs.Variables.{index_where}
use Rattle.pli_variables.specs.Written.{all_shown, stands_at}
use Rattle.pli_variables.proofs.amount.index_of.Given as goal

abbrev pub invariant-loop-i : goal.invariant-loop-i
invariant-loop-i l = l.i + index_where (stands_at l.place) (all_shown (drop l.i l.written)) ≡ index_where (stands_at l.place) (all_shown l.written)
