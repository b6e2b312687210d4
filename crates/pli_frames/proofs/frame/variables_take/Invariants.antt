use Rattle.std.proofs.Common.{◌≡◌, map, drop}
use Rattle.pli_typing.specs.TypedStatementView.{declared_variable_of}
use Rattle.pli_coding.specs.Environments.{most_taken}
use Rattle.pli_coding.specs.Entries.{variables_take}
use Rattle.pli_frames.specs.TakenView.{taken_of}
use Rattle.pli_frames.proofs.frame.variables_take.Given as goal

abbrev pub invariant-loop-one : goal.invariant-loop-one
invariant-loop-one l =
    most_taken (taken_of l.most) (variables_take (map declared_variable_of (drop l.one-index l.all)))
    ≡ variables_take (map declared_variable_of l.all)
