use Rattle.std.proofs.Common.{◌≡◌, drop, map}
use Rattle.pli_declare.specs.Shown.{held_of}
use Rattle.pli_variables.specs.Order.{ascend}
use Rattle.pli_variables.proofs.order.ascend.Given as goal

abbrev pub invariant-loop-i : goal.invariant-loop-i
invariant-loop-i l = ascend (map held_of (drop l.i l.all)) ≡ ascend (map held_of l.all)
