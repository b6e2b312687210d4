use Rattle.std.proofs.Common.{◌≡◌, ◌+◌, drop}
use Rattle.pli_typing.specs.Variables.{index_where, begins_at}
use Rattle.pli_variables.specs.Held.{groups_held}
use Rattle.pli_variables.proofs.variable.index_at.Given as goal

abbrev pub invariant-loop-i : goal.invariant-loop-i
invariant-loop-i l = l.i + index_where (begins_at l.place) (groups_held (drop l.i l.groups)) ≡ index_where (begins_at l.place) (groups_held l.groups)
