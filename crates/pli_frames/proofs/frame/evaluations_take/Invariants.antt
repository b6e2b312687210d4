use Rattle.std.proofs.Common.{◌≡◌, map, drop}
use Rattle.pli_typing.specs.TypedStatementView.{evaluation_of}
use Rattle.pli_coding.specs.Environments.{most_taken}
use Rattle.pli_coding.specs.Extents.{evaluations_take}
use Rattle.pli_frames.specs.TakenView.{taken_of}
use Rattle.pli_frames.proofs.frame.evaluations_take.Given as goal

abbrev pub invariant-loop-one : goal.invariant-loop-one
invariant-loop-one l =
    most_taken (taken_of l.most) (evaluations_take (taken_of l.taken) (map evaluation_of (drop l.one-index l.all)))
    ≡ evaluations_take (taken_of l.taken) (map evaluation_of l.all)
