-- What a program's values show of the definitions.
use Rattle.std.specs.Prelude.{ℕ}
use Rattle.pli_typing.specs.Operators as O
use Rattle.pli_typing.specs.TypedTree as Y
use Rattle.pli_typing.specs.TypedView.{value_of}
use Rattle.pli_builtin.specs.declared.comparison.ComparedAs.{ComparedAs}
use Rattle.pli_builtin.specs.declared.comparison.ComparedAs.TheVariants as A
use Rattle.pli_builtin.specs.declared.comparison.Sides.{Sides}
use Rattle.pli_builtin.specs.declared.calculation.NumberFunction.{NumberFunction}
use Rattle.pli_builtin.specs.declared.calculation.NumberFunction.TheVariants as N
use Rattle.pli_builtin.specs.declared.calculation.TextFunction.{TextFunction}
use Rattle.pli_builtin.specs.declared.calculation.TextFunction.TheVariants as T
use Rattle.pli_builtin.specs.declared.array.Bound.{Bound}
use Rattle.pli_builtin.specs.declared.array.Bound.TheVariants as D

abbrev pub compared_as_of : ComparedAs → O.ComparedAs
compared_as_of A.Numbers = O.AsNumbers
compared_as_of A.Texts = O.AsTexts
compared_as_of A.Bits = O.AsBits
compared_as_of A.Pointers = O.AsPointers
compared_as_of A.Offsets = O.AsOffsets

abbrev pub sides_of : Sides → O.Compared
sides_of s = record { left = value_of s.left; right = value_of s.right; left_place = s.left_place; right_place = s.right_place }

-- ---- what a built-in makes of its arguments

abbrev pub number_function_of : NumberFunction → Y.Number → Y.Number
number_function_of N.Absolute a = Y.Absolute a
number_function_of N.Sign a = Y.SignOf a

abbrev pub text_function_of : TextFunction → Y.Text → Y.Text → Y.Number
text_function_of T.Index a b = Y.IndexOf a b
text_function_of T.Verify a b = Y.VerifyOf a b

abbrev pub bound_of : Bound → Y.Reference → ℕ → Y.Number
bound_of D.Lower r n = Y.LowerBound r n
bound_of D.Upper r n = Y.UpperBound r n
bound_of D.Elements r n = Y.ElementsOf r n
