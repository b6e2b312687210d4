use Rattle.std.proofs.Common.{◌≡◌, length}
use Rattle.pli_typing.specs.Variables.{in_order}
use Rattle.pli_variables.specs.Written.{all_shown, ordered_on}
use Rattle.pli_variables.proofs.extent.in_order.Given as goal

abbrev pub invariant-loop-last : goal.invariant-loop-last
invariant-loop-last l = ordered_on (all_shown l.left.items) (all_shown l.ordered.items) ≡ in_order (all_shown l.initial.left.items)

abbrev pub decreases-loop-last : goal.decreases-loop-last
decreases-loop-last l = length l.left.items
