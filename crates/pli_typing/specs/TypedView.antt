-- The pure typed tree of one that a program holds: the same, without its boxes.
use Rattle.std.specs.Prelude.{Option, Some, None, map}
use Rattle.pli_typing.specs.declared.typed.StorageClass.{StorageClass as StorageClassHeld}
use Rattle.pli_typing.specs.declared.typed.StorageClass.TheVariants as C
use Rattle.pli_typing.specs.declared.typed.Variable.{Variable as VariableHeld}
use Rattle.pli_typing.specs.declared.typed.Part.{Part as PartHeld}
use Rattle.pli_typing.specs.declared.typed.Extent.{Extent as ExtentHeld}
use Rattle.pli_typing.specs.declared.typed.Extent.TheVariants as X
use Rattle.pli_typing.specs.declared.typed.Bounds.{Bounds as BoundsHeld}
use Rattle.pli_typing.specs.declared.typed.LeafType.{LeafType as LeafTypeHeld}
use Rattle.pli_typing.specs.declared.typed.LeafType.TheVariants as L
use Rattle.pli_typing.specs.declared.typed.Leaf.{Leaf as LeafHeld}
use Rattle.pli_typing.specs.declared.typed.Sign.{Sign as SignHeld}
use Rattle.pli_typing.specs.declared.typed.Sign.TheVariants as G
use Rattle.pli_typing.specs.declared.typed.ArithmeticOperator.{ArithmeticOperator as ArithmeticOperatorHeld}
use Rattle.pli_typing.specs.declared.typed.ArithmeticOperator.TheVariants as A
use Rattle.pli_typing.specs.declared.typed.BitOperator.{BitOperator as BitOperatorHeld}
use Rattle.pli_typing.specs.declared.typed.BitOperator.TheVariants as I
use Rattle.pli_typing.specs.declared.typed.Comparison.{Comparison as ComparisonHeld}
use Rattle.pli_typing.specs.declared.typed.Comparison.TheVariants as M
use Rattle.pli_typing.specs.declared.typed.Extremum.{Extremum as ExtremumHeld}
use Rattle.pli_typing.specs.declared.typed.Extremum.TheVariants as E
use Rattle.pli_typing.specs.declared.typed.Number.{Number as NumberHeld}
use Rattle.pli_typing.specs.declared.typed.Number as N
use Rattle.pli_typing.specs.declared.typed.Numbers.{Numbers as NumbersHeld}
use Rattle.pli_typing.specs.declared.typed.Numbers as Q
use Rattle.pli_typing.specs.declared.typed.Text.{Text as TextHeld}
use Rattle.pli_typing.specs.declared.typed.Text as T
use Rattle.pli_typing.specs.declared.typed.Bit.{Bit as BitHeld}
use Rattle.pli_typing.specs.declared.typed.Bit as B
use Rattle.pli_typing.specs.declared.typed.Pointer.{Pointer as PointerHeld}
use Rattle.pli_typing.specs.declared.typed.Pointer as P
use Rattle.pli_typing.specs.declared.typed.Offset.{Offset as OffsetHeld}
use Rattle.pli_typing.specs.declared.typed.Offset as O
use Rattle.pli_typing.specs.declared.typed.Reference.{Reference as ReferenceHeld}
use Rattle.pli_typing.specs.declared.typed.Reference as R
use Rattle.pli_typing.specs.declared.typed.Argument.{Argument as ArgumentHeld}
use Rattle.pli_typing.specs.declared.typed.Argument as F
use Rattle.pli_typing.specs.declared.typed.Arguments.{Arguments as ArgumentsHeld}
use Rattle.pli_typing.specs.declared.typed.Arguments as J
use Rattle.pli_typing.specs.declared.typed.Stored.{Stored as StoredHeld}
use Rattle.pli_typing.specs.declared.typed.Stored as S
use Rattle.pli_typing.specs.declared.typed.Call.{Call as CallHeld}
use Rattle.pli_typing.specs.declared.typed.Value.{Value as ValueHeld}
use Rattle.pli_typing.specs.declared.typed.Value.TheVariants as V
use Rattle.pli_typing.specs.TypedTree.{Sign, Positive, Negative}
use Rattle.pli_language.specs.View.{initial_item_of}
use Rattle.pli_typing.specs.TypedTree as Y

-- ---- variables and leaves

abbrev pub class_of : StorageClassHeld → Y.StorageClass
class_of C.Automatic = Y.AutomaticClass
class_of C.Parameter = Y.ParameterClass
class_of C.Static = Y.StaticClass
class_of C.Based = Y.BasedClass
class_of C.Controlled = Y.ControlledClass

abbrev pub variable_of : VariableHeld → Y.Variable
variable_of v = record { class = class_of v.class; block = v.block; level = v.level; index = v.index }

abbrev pub area_of : Option VariableHeld → Option Y.Variable
area_of None = None
area_of (Some v) = Some (variable_of v)

abbrev pub part_of : PartHeld → Y.Part
part_of p = record { first = p.first; count = p.count }

abbrev pub extent_of : ExtentHeld → Y.Extent
extent_of (X.Constant z) = Y.ConstantExtent z
extent_of X.Star = Y.StarExtent
extent_of X.Refer = Y.ReferExtent
extent_of (X.Evaluated n) = Y.EvaluatedExtent n

abbrev pub bounds_of : BoundsHeld → Y.Bounds
bounds_of b = record { lower = extent_of b.lower; upper = extent_of b.upper }

abbrev pub leaf_type_of : LeafTypeHeld → Y.LeafType
leaf_type_of (L.Fixed p) = Y.FixedLeaf p
leaf_type_of (L.Character n) = Y.CharacterLeaf (extent_of n)
leaf_type_of (L.Varying n) = Y.VaryingLeaf (extent_of n)
leaf_type_of L.Bit = Y.BitLeaf
leaf_type_of L.Pointer = Y.PointerLeaf
leaf_type_of (L.Offset a) = Y.OffsetLeaf (area_of a)
leaf_type_of (L.Area n) = Y.AreaLeaf (extent_of n)

abbrev pub leaf_of : LeafHeld → Y.Leaf
leaf_of l = record {
  type = leaf_type_of l.kind;
  bounds = map bounds_of l.bounds.items;
  initial = map (λ i. initial_item_of i.now) l.initial.items;
}

-- ---- expressions

abbrev pub sign_of : SignHeld → Sign
sign_of G.Positive = Positive
sign_of G.Negative = Negative

abbrev pub arithmetic_of : ArithmeticOperatorHeld → Y.ArithmeticOperator
arithmetic_of A.Sum = Y.Sum
arithmetic_of A.Difference = Y.Difference
arithmetic_of A.Product = Y.Product
arithmetic_of A.Quotient = Y.Quotient

abbrev pub bit_operator_of : BitOperatorHeld → Y.BitOperator
bit_operator_of I.Conjunction = Y.Conjunction
bit_operator_of I.Disjunction = Y.Disjunction

abbrev pub comparison_of : ComparisonHeld → Y.Comparison
comparison_of M.IsEqual = Y.IsEqual
comparison_of M.IsNotEqual = Y.IsNotEqual
comparison_of M.IsLess = Y.IsLess
comparison_of M.IsGreater = Y.IsGreater
comparison_of M.IsLessOrEqual = Y.IsLessOrEqual
comparison_of M.IsGreaterOrEqual = Y.IsGreaterOrEqual

abbrev pub extremum_of : ExtremumHeld → Y.Extremum
extremum_of E.Greatest = Y.Greatest
extremum_of E.Least = Y.Least

unfoldable mutual
  pub number_of : NumberHeld → Y.Number
  number_of (N.Constant n) = Y.NumberConstant n
  number_of (N.In' a r) = Y.NumberIn (reference_of r)
  number_of (N.From' c a xs) = Y.NumberFrom (Y.Calling c.procedure c.level (arguments_of xs))
  number_of (N.OfText' a t) = Y.NumberOfText (text_of t)
  number_of (N.OfBit' a b) = Y.NumberOfBit (bit_of b)
  number_of (N.Signed' s a n) = Y.Signed (sign_of s) (number_of n)
  number_of (N.Calculated' op a l b r) = Y.Calculated (arithmetic_of op) (number_of l) (number_of r)
  number_of (N.Absolute' a n) = Y.Absolute (number_of n)
  number_of (N.SignOf' a n) = Y.SignOf (number_of n)
  number_of (N.Extreme' w a n more) = Y.Extreme (extremum_of w) (number_of n) (numbers_of more)
  number_of (N.Modulo' a l b r) = Y.Modulo (number_of l) (number_of r)
  number_of (N.Divided' p a l b r) = Y.Divided p (number_of l) (number_of r)
  number_of (N.LengthOf' a t) = Y.LengthOf (text_of t)
  number_of (N.IndexOf' a s b t) = Y.IndexOf (text_of s) (text_of t)
  number_of (N.VerifyOf' a s b t) = Y.VerifyOf (text_of s) (text_of t)
  number_of (N.LowerBound' a r n) = Y.LowerBound (reference_of r) n
  number_of (N.UpperBound' a r n) = Y.UpperBound (reference_of r) n
  number_of (N.ElementsOf' a r n) = Y.ElementsOf (reference_of r) n
  number_of (N.AllocationsOf v) = Y.AllocationsOf (variable_of v)
  number_of N.OnCode = Y.OnCode

  pub numbers_of : NumbersHeld → Y.Numbers
  numbers_of Q.End = Y.NoNumber
  numbers_of (Q.More' a n b ns) = Y.NumberThen (number_of n) (numbers_of ns)

  pub text_of : TextHeld → Y.Text
  text_of (T.Constant t) = Y.TextConstant t.now
  text_of (T.In' a r) = Y.TextIn (reference_of r)
  text_of (T.From' c a xs) = Y.TextFrom (Y.Calling c.procedure c.level (arguments_of xs))
  text_of (T.OfNumber' p a n) = Y.TextOfNumber p (number_of n)
  text_of (T.OfBit' a b) = Y.TextOfBit (bit_of b)
  text_of (T.Joined' a l b r) = Y.Joined (text_of l) (text_of r)
  text_of (T.SubstringFrom' a t b i) = Y.SubstringFrom (text_of t) (number_of i)
  text_of (T.Substring' a t b i c j) = Y.Substring (text_of t) (number_of i) (number_of j)

  pub bit_of : BitHeld → Y.Bit
  bit_of (B.Constant b) = Y.BitConstant b
  bit_of (B.In' a r) = Y.BitIn (reference_of r)
  bit_of (B.From' c a xs) = Y.BitFrom (Y.Calling c.procedure c.level (arguments_of xs))
  bit_of (B.OfText' a t) = Y.BitOfText (text_of t)
  bit_of (B.Negated' a b) = Y.Negated (bit_of b)
  bit_of (B.Combined' op a l b r) = Y.Combined (bit_operator_of op) (bit_of l) (bit_of r)
  bit_of (B.NumbersCompared' op a l b r) = Y.NumbersCompared (comparison_of op) (number_of l) (number_of r)
  bit_of (B.TextsCompared' op a l b r) = Y.TextsCompared (comparison_of op) (text_of l) (text_of r)
  bit_of (B.BitsCompared' op a l b r) = Y.BitsCompared (comparison_of op) (bit_of l) (bit_of r)
  bit_of (B.PointersCompared' e a l b r) = Y.PointersCompared e (pointer_of l) (pointer_of r)
  bit_of (B.OffsetsCompared' e a l b r) = Y.OffsetsCompared e (offset_of l) (offset_of r)

  pub pointer_of : PointerHeld → Y.Pointer
  pointer_of P.Null = Y.NullPointer
  pointer_of (P.In' a r) = Y.PointerIn (reference_of r)
  pointer_of (P.From' c a xs) = Y.PointerFrom (Y.Calling c.procedure c.level (arguments_of xs))
  pointer_of (P.AddressOf' a r) = Y.AddressOf (reference_of r)
  pointer_of (P.Into' a o area) = Y.PointerInto (offset_of o) (variable_of area)

  pub offset_of : OffsetHeld → Y.Offset
  offset_of O.Null = Y.NullOffset
  offset_of (O.In' a r) = Y.OffsetIn (reference_of r)
  offset_of (O.From' c a xs) = Y.OffsetFrom (Y.Calling c.procedure c.level (arguments_of xs))
  offset_of (O.Into' a p area) = Y.OffsetInto (pointer_of p) (variable_of area)

  pub reference_of : ReferenceHeld → Y.Reference
  reference_of (R.Plain v p ns) = Y.Referring (variable_of v) Y.NotLocated (part_of p) (numbers_of ns)
  reference_of (R.Located' a l v p ns) = Y.Referring (variable_of v) (Y.LocatedBy (pointer_of l)) (part_of p) (numbers_of ns)

  pub argument_of : ArgumentHeld → Y.Argument
  argument_of (F.ByReference r) = Y.ByReference (reference_of r)
  argument_of (F.ByCopy t s) = Y.ByCopy (leaf_type_of t) (stored_of s)
  argument_of (F.ByOffsetInParameter p n) = Y.ByOffsetInParameter (pointer_of p) n
  argument_of (F.ByOffsetInAutomatic p) = Y.ByOffsetInAutomatic (pointer_of p)

  pub arguments_of : ArgumentsHeld → Y.Arguments
  arguments_of J.End = Y.NoArgument
  arguments_of (J.More' a x b xs) = Y.ArgumentThen (argument_of x) (arguments_of xs)

  pub stored_of : StoredHeld → Y.Stored
  stored_of (S.Number p n) = Y.StoredNumber p (number_of n)
  stored_of (S.Text t) = Y.StoredText (text_of t)
  stored_of (S.Bit b) = Y.StoredBit (bit_of b)
  stored_of (S.Pointer p) = Y.StoredPointer (pointer_of p)
  stored_of (S.Offset o) = Y.StoredOffset (offset_of o)

abbrev pub call_of : CallHeld → Y.Call
call_of c = Y.Calling c.callee.procedure c.callee.level (arguments_of c.arguments)

abbrev pub value_of : ValueHeld → Y.Value
value_of (V.Number p n) = Y.NumberValue p (number_of n.value)
value_of (V.Text t) = Y.TextValue (text_of t.value)
value_of (V.Bit b) = Y.BitValue (bit_of b.value)
value_of (V.Pointer p) = Y.PointerValue (pointer_of p.value)
value_of (V.Offset area o) = Y.OffsetValue (area_of area) (offset_of o.value)
value_of V.Null = Y.NullValue
