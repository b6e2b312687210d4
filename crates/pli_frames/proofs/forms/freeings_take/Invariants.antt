use Rattle.std.proofs.Common.{◌≡◌, map, drop}
use Rattle.pli_typing.specs.TypedStatementView.{freeing_of}
use Rattle.pli_coding.specs.Environments.{most_taken}
use Rattle.pli_coding.specs.Allocating.{freeings_take}
use Rattle.pli_frames.specs.TakenView.{taken_of}
use Rattle.pli_frames.proofs.forms.freeings_take.Given as goal

abbrev pub invariant-loop-one : goal.invariant-loop-one
invariant-loop-one l =
    most_taken (taken_of l.most) (freeings_take (taken_of l.taken) (map freeing_of (drop l.one-index l.all)))
    ≡ freeings_take (taken_of l.taken) (map freeing_of l.all)
