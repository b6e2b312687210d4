use Rattle.std.proofs.Common.{◌≡◌, is_some}
use Rattle.pli_serving.specs.InitialValues.{items_from}
use Rattle.pli_signatures.specs.View.{kind_of}
use Rattle.pli_values.specs.Calls.{call_of}
use Rattle.pli_values.proofs.initial.are_items.Given as goal

abbrev pub invariant-loop-left : goal.invariant-loop-left
invariant-loop-left l =
    is_some (items_from (call_of l.source) (kind_of l.kind) l.left l.at) ≡ is_some (items_from (call_of l.source) (kind_of l.kind) l.fn.count l.fn.at)

abbrev pub decreases-loop-left : goal.decreases-loop-left
decreases-loop-left l = l.left
