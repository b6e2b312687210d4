-- The operators of expressions: which operands they take, and what they give.
-- (X3.53-1976, chapter 9, operators and their conversions, cut to these kinds.)
use Rattle.std.specs.Prelude.{Bool, true, false, Option, Some, None}
use Rattle.pli_language.specs.declared.expr.Place.{Place}
use Rattle.pli_language.specs.declared.expr.PrefixOp.{PrefixOp}
use Rattle.pli_language.specs.declared.expr.PrefixOp.TheVariants as P
use Rattle.pli_language.specs.declared.expr.InfixOp.{InfixOp}
use Rattle.pli_language.specs.declared.expr.InfixOp.TheVariants as I
use Rattle.pli_language.specs.declared.fault.SourceKind.TheVariants.{TypeMismatch}
use Rattle.pli_typing.specs.TypedTree.{Positive, Negative}
use Rattle.pli_typing.specs.Judging.{Judged, fine, broken, ◌>>=◌}
use Rattle.pli_typing.specs.TypedTree as Y
use Rattle.pli_typing.specs.Converting.{Referent, Gives, Operand, operator_digits, operand_value, number_wanted, text_wanted, own_bit_wanted, pointer_wanted, offset_wanted, number_operand, text_operand, own_bit_operand}

abbrev pub number_answer : Y.Number → Referent
number_answer n = Gives (Y.NumberValue operator_digits n)

abbrev pub bit_answer : Y.Bit → Referent
bit_answer b = Gives (Y.BitValue b)

-- ---- prefixes

abbrev pub prefixed : PrefixOp → Operand → Judged Referent
prefixed P.Plus o = do
  n ← number_operand o
  fine (number_answer (Y.Signed Positive n))
prefixed P.Minus o = do
  n ← number_operand o
  fine (number_answer (Y.Signed Negative n))
prefixed P.Not o = do
  b ← own_bit_operand o
  fine (bit_answer (Y.Negated b))

-- ---- comparisons

-- what two values are compared as
pub data ComparedAs : Type 0 where
  AsNumbers AsTexts AsBits AsPointers AsOffsets : ComparedAs

abbrev pub is_locator : Y.Value → Bool
is_locator (Y.PointerValue p) = true
is_locator (Y.OffsetValue area o) = true
is_locator Y.NullValue = true
is_locator _ = false

-- a number on either side makes numbers, else a text texts, else a bit bits; of locators a POINTER makes POINTERs
abbrev pub kinds_compared : Y.Value → Y.Value → ComparedAs
kinds_compared (Y.NumberValue p n) w = AsNumbers
kinds_compared v (Y.NumberValue p n) = AsNumbers
kinds_compared (Y.TextValue t) w = AsTexts
kinds_compared v (Y.TextValue t) = AsTexts
kinds_compared (Y.BitValue b) w = AsBits
kinds_compared v (Y.BitValue b) = AsBits
kinds_compared (Y.PointerValue p) w = AsPointers
kinds_compared v (Y.PointerValue p) = AsPointers
kinds_compared (Y.OffsetValue area o) w = AsOffsets
kinds_compared v (Y.OffsetValue area o) = AsOffsets
kinds_compared Y.NullValue Y.NullValue = AsPointers

-- locators are equal or not, and have no order
abbrev pub equality : Y.Comparison → Option Bool
equality Y.IsEqual = Some true
equality Y.IsNotEqual = Some false
equality _ = None

-- two values with the places of their expressions; that of the first is the comparison's
pub record Compared : Type 0 where
  pub left : Y.Value
  pub right : Y.Value
  pub left_place : Place
  pub right_place : Place

abbrev pub pointers_compared : Compared → Option Bool → Judged Y.Bit
pointers_compared c None = broken c.left_place TypeMismatch (Y.BitConstant false)
pointers_compared c (Some equal) = do
  a ← pointer_wanted c.left_place (Some c.left)
  b ← pointer_wanted c.right_place (Some c.right)
  fine (Y.PointersCompared equal a b)

abbrev pub offsets_compared : Compared → Option Bool → Judged Y.Bit
offsets_compared c None = broken c.left_place TypeMismatch (Y.BitConstant false)
offsets_compared c (Some equal) = do
  a ← offset_wanted None c.left_place (Some c.left)
  b ← offset_wanted None c.right_place (Some c.right)
  fine (Y.OffsetsCompared equal a b)

abbrev pub values_compared : Y.Comparison → Compared → ComparedAs → Judged Y.Bit
values_compared op c AsNumbers = do
  a ← number_wanted c.left_place (Some c.left)
  b ← number_wanted c.right_place (Some c.right)
  fine (Y.NumbersCompared op a b)
values_compared op c AsTexts = do
  a ← text_wanted c.left_place (Some c.left)
  b ← text_wanted c.right_place (Some c.right)
  fine (Y.TextsCompared op a b)
values_compared op c AsBits = do
  a ← own_bit_wanted c.left_place (Some c.left)
  b ← own_bit_wanted c.right_place (Some c.right)
  fine (Y.BitsCompared op a b)
values_compared op c AsPointers = pointers_compared c (equality op)
values_compared op c AsOffsets = offsets_compared c (equality op)

-- where one side isn't known, a locator on the other has no order all the same
abbrev pub half_compared : Place → Bool → Option Bool → Judged Y.Bit
half_compared place true None = broken place TypeMismatch (Y.BitConstant false)
half_compared place _ _ = fine (Y.BitConstant false)

abbrev pub compared : Y.Comparison → Place → Place → Option Y.Value → Option Y.Value → Judged Y.Bit
compared op left_place right_place (Some v) (Some w) =
    values_compared op (record { left = v; right = w; left_place = left_place; right_place = right_place }) (kinds_compared v w)
compared op left_place right_place (Some v) None = half_compared left_place (is_locator v) (equality op)
compared op left_place right_place None (Some w) = half_compared left_place (is_locator w) (equality op)
compared op left_place right_place None None = fine (Y.BitConstant false)

-- ---- operators between two operands

abbrev pub calculated : Y.ArithmeticOperator → Operand → Operand → Judged Referent
calculated op l r = do
  a ← number_operand l
  b ← number_operand r
  fine (number_answer (Y.Calculated op a b))

abbrev pub joined : Operand → Operand → Judged Referent
joined l r = do
  a ← text_operand l
  b ← text_operand r
  fine (Gives (Y.TextValue (Y.Joined a b)))

abbrev pub combined : Y.BitOperator → Operand → Operand → Judged Referent
combined op l r = do
  a ← own_bit_operand l
  b ← own_bit_operand r
  fine (bit_answer (Y.Combined op a b))

abbrev pub comparison : Y.Comparison → Operand → Operand → Judged Referent
comparison op l r = do
  v ← operand_value l
  w ← operand_value r
  b ← compared op l.place r.place v w
  fine (bit_answer b)

abbrev pub infixed : InfixOp → Operand → Operand → Judged Referent
infixed I.Add l r = calculated Y.Sum l r
infixed I.Subtract l r = calculated Y.Difference l r
infixed I.Multiply l r = calculated Y.Product l r
infixed I.Divide l r = calculated Y.Quotient l r
infixed I.Join l r = joined l r
infixed I.Equal l r = comparison Y.IsEqual l r
infixed I.NotEqual l r = comparison Y.IsNotEqual l r
infixed I.Less l r = comparison Y.IsLess l r
infixed I.Greater l r = comparison Y.IsGreater l r
infixed I.LessOrEqual l r = comparison Y.IsLessOrEqual l r
infixed I.GreaterOrEqual l r = comparison Y.IsGreaterOrEqual l r
infixed I.And l r = combined Y.Conjunction l r
infixed I.Or l r = combined Y.Disjunction l r
