use Rattle.std.proofs.Common.{◌≡◌, map, length}
use Rattle.pli_typing.specs.Calls.{bounds_pass}
use Rattle.pli_typing.specs.TypedView.{bounds_of}
use Rattle.pli_transfer.proofs.matching.bounds_pass.Given as goal

abbrev pub invariant-loop-p : goal.invariant-loop-p
invariant-loop-p l = bounds_pass (map bounds_of l.parameters) (map bounds_of l.arguments) ≡ bounds_pass (map bounds_of l.initial.parameters) (map bounds_of l.initial.arguments)

abbrev pub decreases-loop-p : goal.decreases-loop-p
decreases-loop-p l = length l.parameters
