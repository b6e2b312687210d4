use Rattle.std.proofs.Common.{◌≡◌, drop}
use Rattle.pli_variables.specs.Held.{groups_held}
use Rattle.pli_variables.specs.Order.{are_in_order}
use Rattle.pli_variables.proofs.order.are_in_order.Given as goal

abbrev pub invariant-loop-i : goal.invariant-loop-i
invariant-loop-i l = are_in_order (groups_held (drop l.i l.groups)) ≡ are_in_order (groups_held l.groups)
