-- What a program's values show of the definitions.
use Rattle.std.specs.Prelude.{List, [], ◌∷◌, map}
use Rattle.pli_typing.specs.Assigning.{Scalar}
use Rattle.pli_typing.specs.Calls.{Callee}
use Rattle.pli_typing.specs.TypedTree as Y
use Rattle.pli_typing.specs.TypedView.{leaf_type_of, reference_of}
use Rattle.pli_operand.specs.Shown.{designated_of}
use Rattle.pli_transfer.specs.declared.callee.Callee.{Callee as CalleeHeld}
use Rattle.pli_transfer.specs.declared.scalar.Scalar.{Scalar as ScalarHeld}

abbrev pub scalar_of : ScalarHeld → Scalar
scalar_of s = record { reference = reference_of s.reference; type = leaf_type_of s.kind }

abbrev pub callee_of : CalleeHeld → Callee
callee_of c = record { block = c.block; parameters = map designated_of c.parameters.now; place = c.place }

-- arguments before others
unfoldable pub arguments_onto : List Y.Argument → Y.Arguments → Y.Arguments
arguments_onto [] rest = rest
arguments_onto (a ∷ as') rest = Y.ArgumentThen a (arguments_onto as' rest)
