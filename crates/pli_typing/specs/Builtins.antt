-- The built-in functions: the number and kinds of their arguments, and what they give.
-- (X3.53-1976, chapter 9, built-in functions, cut to these.)
use Rattle.std.specs.Prelude.{ℕ, ℤ, pos, Bool, true, false, not, ◌&&◌, ◌==◌, nat_le, List, [], ◌∷◌, Option, Some, None, if◌then◌else◌}
use Rattle.pli_language.specs.declared.expr.Place.{Place}
use Rattle.pli_language.specs.declared.token.Word.{Word}
use Rattle.pli_language.specs.declared.token.Word.TheVariants as W
use Rattle.pli_language.specs.declared.fault.SourceKind.TheVariants.{BadArguments}
use Rattle.pli_language.specs.Declaring.{most_dimensions}
use Rattle.pli_typing.specs.Judging.{Judged, fine, broken, ◌>>=◌}
use Rattle.pli_typing.specs.TypedTree as Y
use Rattle.pli_typing.specs.Converting.{Referent, Designates, Gives, GivesEmptyArea, NotKnown, Operand, operator_digits, is_area, variable_of, operand_value, wanted, no_reference, number_operand, text_operand, pointer_operand, area_operand}

-- ---- answers

abbrev pub number_given : Judged Y.Number → Judged Referent
number_given j = do
  n ← j
  fine (Gives (Y.NumberValue operator_digits n))

abbrev pub text_given : Judged Y.Text → Judged Referent
text_given j = do
  t ← j
  fine (Gives (Y.TextValue t))

abbrev pub pointer_given : Judged Y.Pointer → Judged Referent
pointer_given j = do
  p ← j
  fine (Gives (Y.PointerValue p))

-- ---- arguments

-- what is broken at a built-in's name, where its answer is a number
abbrev pub bad_number : Place → Judged Y.Number
bad_number place = broken place BadArguments (Y.NumberConstant 0)

abbrev pub of_number : Place → (Y.Number → Y.Number) → List Operand → Judged Y.Number
of_number place build (x ∷ []) = do
  a ← number_operand x
  fine (build a)
of_number place build _ = bad_number place

abbrev pub of_numbers : Place → (Y.Number → Y.Number → Y.Number) → List Operand → Judged Y.Number
of_numbers place build (x ∷ y ∷ []) = do
  a ← number_operand x
  b ← number_operand y
  fine (build a b)
of_numbers place build _ = bad_number place

abbrev pub number_list : List Operand → Judged Y.Numbers
number_list [] = fine Y.NoNumber
number_list (x ∷ xs) = do
  a ← number_operand x
  as' ← number_list xs
  fine (Y.NumberThen a as')

-- MAX and MIN take two numbers or more
abbrev pub of_many : Place → Y.Extremum → List Operand → Judged Y.Number
of_many place which (x ∷ y ∷ more) = do
  a ← number_operand x
  as' ← number_list (y ∷ more)
  fine (Y.Extreme which a as')
of_many place which _ = bad_number place

abbrev pub of_text : Place → List Operand → Judged Y.Number
of_text place (s ∷ []) = do
  t ← text_operand s
  fine (Y.LengthOf t)
of_text place _ = bad_number place

abbrev pub of_texts : Place → (Y.Text → Y.Text → Y.Number) → List Operand → Judged Y.Number
of_texts place build (s ∷ t ∷ []) = do
  a ← text_operand s
  b ← text_operand t
  fine (build a b)
of_texts place build _ = bad_number place

abbrev pub substring : Place → List Operand → Judged Y.Text
substring place (s ∷ i ∷ []) = do
  t ← text_operand s
  a ← number_operand i
  fine (Y.SubstringFrom t a)
substring place (s ∷ i ∷ j ∷ []) = do
  t ← text_operand s
  a ← number_operand i
  b ← number_operand j
  fine (Y.Substring t a b)
substring place _ = broken place BadArguments (Y.TextConstant [])

-- a constant from 1 to a most
abbrev pub constant_within : ℕ → Option ℤ → Option ℕ
constant_within most (Some (pos n)) = if nat_le 1 n && nat_le n most then Some n else None
constant_within most _ = None

abbrev pub is_zero : Option ℤ → Bool
is_zero (Some (pos n)) = n == 0
is_zero _ = false

-- the precision that DIVIDE names
abbrev pub divided : Place → Option ℕ → Operand → Operand → Judged Y.Number
divided place None x y = bad_number place
divided place (Some p) x y = do
  a ← number_operand x
  b ← number_operand y
  fine (Y.Divided p a b)

abbrev pub quotient : Place → List Operand → Judged Y.Number
quotient place (x ∷ y ∷ p ∷ []) = divided place (constant_within operator_digits p.constant) x y
quotient place (x ∷ y ∷ p ∷ q ∷ []) = if is_zero q.constant then divided place (constant_within operator_digits p.constant) x y else bad_number place
quotient place _ = bad_number place

-- ---- arguments that aren't evaluated

abbrev pub dimension_of : Place → (Y.Reference → ℕ → Y.Number) → Y.Reference → Option ℕ → Judged Y.Number
dimension_of place build r None = bad_number place
dimension_of place build r (Some n) = fine (build r n)

-- the number of a dimension, of which no variable has more than eight
abbrev pub of_array : Place → (Y.Reference → ℕ → Y.Number) → Referent → Option ℤ → Judged Y.Number
of_array place build (Designates d) n = dimension_of place build d.reference (constant_within d.dimensions n)
of_array place build NotKnown n = dimension_of place (λ r m. Y.NumberConstant 0) no_reference (constant_within most_dimensions n)
of_array place build _ n = bad_number place

abbrev pub of_dimension : Place → (Y.Reference → ℕ → Y.Number) → List Operand → Judged Y.Number
of_dimension place build (a ∷ n ∷ []) = of_array place build a.referent n.constant
of_dimension place build _ = bad_number place

abbrev pub is_controlled : Y.StorageClass → Bool
is_controlled Y.ControlledClass = true
is_controlled _ = false

abbrev pub allocations_of : Place → Referent → Judged Y.Number
allocations_of place (Designates d) =
    if d.is_whole && is_controlled (variable_of d.reference).class then fine (Y.AllocationsOf (variable_of d.reference)) else bad_number place
allocations_of place NotKnown = fine (Y.NumberConstant 0)
allocations_of place _ = bad_number place

abbrev pub of_controlled : Place → List Operand → Judged Y.Number
of_controlled place (c ∷ []) = allocations_of place c.referent
of_controlled place _ = bad_number place

-- the name of a parameter's generation, or of a CONTROLLED one, can't be had
abbrev pub has_name : Y.StorageClass → Bool
has_name Y.AutomaticClass = true
has_name Y.StaticClass = true
has_name Y.BasedClass = true
has_name _ = false

abbrev pub bad_pointer : Place → Judged Y.Pointer
bad_pointer place = broken place BadArguments Y.NullPointer

abbrev pub address_of : Place → Referent → Judged Y.Pointer
address_of place (Designates d) =
    if d.is_whole && has_name (variable_of d.reference).class && not (is_area d) then fine (Y.AddressOf d.reference) else bad_pointer place
address_of place NotKnown = fine Y.NullPointer
address_of place _ = bad_pointer place

abbrev pub address : Place → List Operand → Judged Y.Pointer
address place (v ∷ []) = address_of place v.referent
address place _ = bad_pointer place

-- ---- locators

-- an OFFSET, whatever its area, or NULL
abbrev pub own_offset : Y.Value → Option Y.Offset
own_offset (Y.OffsetValue area o) = Some o
own_offset Y.NullValue = Some Y.NullOffset
own_offset _ = None

abbrev pub pointer_into : Place → List Operand → Judged Y.Pointer
pointer_into place (o ∷ a ∷ []) = do
  v ← operand_value o
  offset ← wanted own_offset Y.NullOffset o.place v
  area ← area_operand a
  fine (Y.PointerInto offset area)
pointer_into place _ = bad_pointer place

-- the answer belongs to no declared area
abbrev pub offset_into : Place → List Operand → Judged Referent
offset_into place (p ∷ a ∷ []) = do
  pointer ← pointer_operand p
  area ← area_operand a
  fine (Gives (Y.OffsetValue None (Y.OffsetInto pointer area)))
offset_into place _ = broken place BadArguments (Gives (Y.OffsetValue None Y.NullOffset))

-- ---- all

abbrev pub without_arguments : Place → Referent → List Operand → Judged Referent
without_arguments place answer [] = fine answer
without_arguments place answer (x ∷ xs) = broken place BadArguments answer

-- the built-in of a word, called by its name at a place; no argument list is the same as an empty one
abbrev pub builtin_called : Place → Word → List Operand → Judged Referent
builtin_called place W.Abs xs = number_given (of_number place Y.Absolute xs)
builtin_called place W.Sign xs = number_given (of_number place Y.SignOf xs)
builtin_called place W.Max xs = number_given (of_many place Y.Greatest xs)
builtin_called place W.Min xs = number_given (of_many place Y.Least xs)
builtin_called place W.Mod xs = number_given (of_numbers place Y.Modulo xs)
builtin_called place W.Divide xs = number_given (quotient place xs)
builtin_called place W.Length xs = number_given (of_text place xs)
builtin_called place W.Substr xs = text_given (substring place xs)
builtin_called place W.Index xs = number_given (of_texts place Y.IndexOf xs)
builtin_called place W.Verify xs = number_given (of_texts place Y.VerifyOf xs)
builtin_called place W.Lbound xs = number_given (of_dimension place Y.LowerBound xs)
builtin_called place W.Hbound xs = number_given (of_dimension place Y.UpperBound xs)
builtin_called place W.Dim xs = number_given (of_dimension place Y.ElementsOf xs)
builtin_called place W.Allocation xs = number_given (of_controlled place xs)
builtin_called place W.Addr xs = pointer_given (address place xs)
builtin_called place W.Null xs = without_arguments place (Gives Y.NullValue) xs
builtin_called place W.Empty xs = without_arguments place GivesEmptyArea xs
builtin_called place W.Pointer xs = pointer_given (pointer_into place xs)
builtin_called place W.Offset xs = offset_into place xs
builtin_called place W.Oncode xs = without_arguments place (Gives (Y.NumberValue operator_digits Y.OnCode)) xs
builtin_called place _ xs = fine NotKnown
