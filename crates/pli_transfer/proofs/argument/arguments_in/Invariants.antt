use Rattle.std.proofs.Common.{◌≡◌, vec_len}
use Rattle.std.specs.Prelude.{map}
use Rattle.pli_typing.specs.TypedTree as Y
use Rattle.pli_typing.specs.TypedView.{argument_of, arguments_of}
use Rattle.pli_transfer.specs.Shown.{arguments_onto}
use Rattle.pli_transfer.proofs.argument.arguments_in.Given as goal

abbrev pub invariant-loop-argument : goal.invariant-loop-argument
invariant-loop-argument l = arguments_onto (map argument_of l.arguments.items) (arguments_of l.list) ≡ arguments_onto (map argument_of l.initial.arguments.items) Y.NoArgument

abbrev pub decreases-loop-argument : goal.decreases-loop-argument
decreases-loop-argument l = vec_len l.arguments
