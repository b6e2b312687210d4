use Rattle.std.proofs.Common.{◌≡◌, vec_len}
use Rattle.std.specs.Prelude.{map}
use Rattle.pli_typing.specs.TypedTree as Y
use Rattle.pli_typing.specs.TypedView.{number_of, numbers_of}
use Rattle.pli_builtin.specs.Parts.{numbers_onto}
use Rattle.pli_builtin.proofs.numbers.numbers_in.Given as goal

abbrev pub invariant-loop-number : goal.invariant-loop-number
invariant-loop-number l = numbers_onto (map number_of l.numbers.items) (numbers_of l.list) ≡ numbers_onto (map number_of l.initial.numbers.items) Y.NoNumber

abbrev pub decreases-loop-number : goal.decreases-loop-number
decreases-loop-number l = vec_len l.numbers
