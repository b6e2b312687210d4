use Rattle.std.proofs.Common.{◌≡◌, map, drop}
use Rattle.pli_typing.specs.TypedStatementView.{allocation_of}
use Rattle.pli_coding.specs.Environments.{most_taken}
use Rattle.pli_coding.specs.Allocating.{allocations_take}
use Rattle.pli_frames.specs.TakenView.{taken_of}
use Rattle.pli_frames.proofs.forms.allocations_take.Given as goal

abbrev pub invariant-loop-one : goal.invariant-loop-one
invariant-loop-one l =
    most_taken (taken_of l.most) (allocations_take (taken_of l.taken) (map allocation_of (drop l.one-index l.all)))
    ≡ allocations_take (taken_of l.taken) (map allocation_of l.all)
