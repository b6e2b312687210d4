-- What references and expressions come to, and their conversion to the kinds that their places want.
-- (X3.53-1976, chapter 9, conversion, cut to these kinds; `Kinds` has the table.)
use Rattle.std.specs.Prelude.{ℕ, ℤ, Bool, true, false, not, ◌==◌, List, [], ◌∷◌, Option, Some, None, is_some, if◌then◌else◌}
use Rattle.pli_language.specs.declared.expr.Place.{Place}
use Rattle.pli_language.specs.declared.fault.SourceKind.TheVariants.{TypeMismatch}
use Rattle.pli_typing.specs.Kinds.{Kind, NumberKind, TextKind, BitKind, PointerKind, OffsetKind, NullKind}
use Rattle.pli_typing.specs.Judging.{Judged, fine, broken, mention, MentionsVariable, ◌>>=◌, ◌>>◌}
use Rattle.pli_typing.specs.TypedTree as Y

-- ---- what a reference means (chapter 4)

-- a variable or a part of one: its leaves, the dimensions that no subscripts stand for, whether it has members, and whether
-- it is a whole variable of level 1
pub record Designated : Type 0 where
  pub reference : Y.Reference
  pub leaves : List Y.Leaf
  pub dimensions : ℕ
  pub has_members : Bool
  pub is_whole : Bool

-- an expression designates a part of a variable, gives a value, is EMPTY(), or is nothing that has a value; or nothing is
-- known of it. An operand in parentheses gives a value even where its kind isn't known, so it is no reference.
pub data Referent : Type 0 where
  Designates : Designated → Referent
  Gives : Y.Value → Referent
  GivesUnknown GivesEmptyArea GivesNothing NotKnown : Referent

-- an expression with the place of its first token, and its value where it is a constant
pub record Operand : Type 0 where
  pub place : Place
  pub constant : Option ℤ
  pub referent : Referent

-- ---- kinds

-- operators and constants have this precision
abbrev pub operator_digits : ℕ
operator_digits = 31

abbrev pub kind_of : Y.Value → Kind
kind_of (Y.NumberValue p n) = NumberKind p
kind_of (Y.TextValue t) = TextKind
kind_of (Y.BitValue b) = BitKind
kind_of (Y.PointerValue p) = PointerKind
kind_of (Y.OffsetValue area o) = OffsetKind (is_some area)
kind_of Y.NullValue = NullKind

-- what a scalar of a kind holds; an area has no value
abbrev pub value_in : Y.LeafType → Y.Reference → Option Y.Value
value_in (Y.FixedLeaf p) r = Some (Y.NumberValue p (Y.NumberIn r))
value_in (Y.CharacterLeaf n) r = Some (Y.TextValue (Y.TextIn r))
value_in (Y.VaryingLeaf n) r = Some (Y.TextValue (Y.TextIn r))
value_in Y.BitLeaf r = Some (Y.BitValue (Y.BitIn r))
value_in Y.PointerLeaf r = Some (Y.PointerValue (Y.PointerIn r))
value_in (Y.OffsetLeaf area) r = Some (Y.OffsetValue area (Y.OffsetIn r))
value_in (Y.AreaLeaf n) r = None

-- what a function with this kind in RETURNS gives
abbrev pub value_from : Y.LeafType → Y.Call → Referent
value_from (Y.FixedLeaf p) c = Gives (Y.NumberValue p (Y.NumberFrom c))
value_from (Y.CharacterLeaf n) c = Gives (Y.TextValue (Y.TextFrom c))
value_from (Y.VaryingLeaf n) c = Gives (Y.TextValue (Y.TextFrom c))
value_from Y.BitLeaf c = Gives (Y.BitValue (Y.BitFrom c))
value_from Y.PointerLeaf c = Gives (Y.PointerValue (Y.PointerFrom c))
value_from (Y.OffsetLeaf area) c = Gives (Y.OffsetValue area (Y.OffsetFrom c))
value_from (Y.AreaLeaf n) c = GivesNothing

-- ---- shapes

-- the kind of a scalar, or of each element of an array without members
abbrev pub only_type : List Y.Leaf → Option Y.LeafType
only_type (l ∷ []) = Some l.type
only_type _ = None

abbrev pub element_type : Designated → Option Y.LeafType
element_type d = if d.has_members then None else only_type d.leaves

abbrev pub scalar_type : Designated → Option Y.LeafType
scalar_type d = if d.dimensions == 0 then element_type d else None

abbrev pub area_of_type : Option Y.LeafType → Bool
area_of_type (Some (Y.AreaLeaf n)) = true
area_of_type _ = false

abbrev pub is_area : Designated → Bool
is_area d = area_of_type (scalar_type d)

-- an array or a structure
abbrev pub is_aggregate : Designated → Bool
is_aggregate d = not (is_some (scalar_type d))

abbrev pub variable_of : Y.Reference → Y.Variable
variable_of (Y.Referring v locator part subscripts) = v

-- ---- the value of an operand

abbrev pub value_or_mismatch : Place → Option Y.Value → Judged (Option Y.Value)
value_or_mismatch place (Some v) = fine (Some v)
value_or_mismatch place None = broken place TypeMismatch None

abbrev pub value_with_type : Y.Reference → Option Y.LeafType → Option Y.Value
value_with_type r None = None
value_with_type r (Some t) = value_in t r

-- an aggregate, an area and what has no value break a rule; none is also the value of what isn't known
abbrev pub referent_value : Place → Referent → Judged (Option Y.Value)
referent_value place (Designates d) = value_or_mismatch place (value_with_type d.reference (scalar_type d))
referent_value place (Gives v) = fine (Some v)
referent_value place GivesUnknown = fine None
referent_value place GivesEmptyArea = broken place TypeMismatch None
referent_value place GivesNothing = broken place TypeMismatch None
referent_value place NotKnown = fine None

abbrev pub operand_value : Operand → Judged (Option Y.Value)
operand_value o = referent_value o.place o.referent

-- ---- conversions

abbrev pub number_of : Y.Value → Option Y.Number
number_of (Y.NumberValue p n) = Some n
number_of (Y.TextValue t) = Some (Y.NumberOfText t)
number_of (Y.BitValue b) = Some (Y.NumberOfBit b)
number_of _ = None

abbrev pub text_of : Y.Value → Option Y.Text
text_of (Y.NumberValue p n) = Some (Y.TextOfNumber p n)
text_of (Y.TextValue t) = Some t
text_of (Y.BitValue b) = Some (Y.TextOfBit b)
text_of _ = None

abbrev pub bit_of : Y.Value → Option Y.Bit
bit_of (Y.BitValue b) = Some b
bit_of (Y.TextValue t) = Some (Y.BitOfText t)
bit_of _ = None

abbrev pub pointer_of : Y.Value → Option Y.Pointer
pointer_of (Y.PointerValue p) = Some p
pointer_of (Y.OffsetValue (Some area) o) = Some (Y.PointerInto o area)
pointer_of Y.NullValue = Some Y.NullPointer
pointer_of _ = None

-- for an OFFSET that is declared with this area
abbrev pub offset_of : Option Y.Variable → Y.Value → Option Y.Offset
offset_of area (Y.OffsetValue other o) = Some o
offset_of area Y.NullValue = Some Y.NullOffset
offset_of (Some area) (Y.PointerValue p) = Some (Y.OffsetInto p area)
offset_of _ _ = None

abbrev pub converted_or : {X : Type 0} → X → Place → Option X → Judged X
converted_or stand_in place (Some x) = fine x
converted_or stand_in place None = broken place TypeMismatch stand_in

-- a value where some kind is wanted: what it converts to, else a mismatch at its place; nothing is wrong with what isn't known
abbrev pub wanted : {X : Type 0} → (Y.Value → Option X) → X → Place → Option Y.Value → Judged X
wanted convert stand_in place None = fine stand_in
wanted convert stand_in place (Some v) = converted_or stand_in place (convert v)

abbrev pub number_wanted : Place → Option Y.Value → Judged Y.Number
number_wanted = wanted number_of (Y.NumberConstant 0)

abbrev pub text_wanted : Place → Option Y.Value → Judged Y.Text
text_wanted = wanted text_of (Y.TextConstant [])

abbrev pub bit_wanted : Place → Option Y.Value → Judged Y.Bit
bit_wanted = wanted bit_of (Y.BitConstant false)

-- IF, WHILE and the operators of bits convert nothing
abbrev pub only_bit : Y.Value → Option Y.Bit
only_bit (Y.BitValue b) = Some b
only_bit _ = None

abbrev pub own_bit_wanted : Place → Option Y.Value → Judged Y.Bit
own_bit_wanted = wanted only_bit (Y.BitConstant false)

-- an OFFSET becomes a POINTER by its area, which so is used
abbrev pub area_mentioned : Option Y.Value → Judged (Unit {0})
area_mentioned (Some (Y.OffsetValue (Some area) o)) = mention (MentionsVariable area)
area_mentioned _ = fine tt

abbrev pub pointer_wanted : Place → Option Y.Value → Judged Y.Pointer
pointer_wanted place v = do
  area_mentioned v
  wanted pointer_of Y.NullPointer place v

abbrev pub offset_wanted : Option Y.Variable → Place → Option Y.Value → Judged Y.Offset
offset_wanted area = wanted (offset_of area) Y.NullOffset

abbrev pub number_operand : Operand → Judged Y.Number
number_operand o = do
  v ← operand_value o
  number_wanted o.place v

abbrev pub text_operand : Operand → Judged Y.Text
text_operand o = do
  v ← operand_value o
  text_wanted o.place v

abbrev pub own_bit_operand : Operand → Judged Y.Bit
own_bit_operand o = do
  v ← operand_value o
  own_bit_wanted o.place v

abbrev pub pointer_operand : Operand → Judged Y.Pointer
pointer_operand o = do
  v ← operand_value o
  pointer_wanted o.place v

-- ---- values for storage (chapter 6, assignment)

abbrev pub number_stored : ℕ → Judged Y.Number → Judged Y.Stored
number_stored p j = do
  n ← j
  fine (Y.StoredNumber p n)

abbrev pub text_stored : Judged Y.Text → Judged Y.Stored
text_stored j = do
  t ← j
  fine (Y.StoredText t)

abbrev pub bit_stored : Judged Y.Bit → Judged Y.Stored
bit_stored j = do
  b ← j
  fine (Y.StoredBit b)

abbrev pub pointer_stored : Judged Y.Pointer → Judged Y.Stored
pointer_stored j = do
  p ← j
  fine (Y.StoredPointer p)

abbrev pub offset_stored : Judged Y.Offset → Judged Y.Stored
offset_stored j = do
  o ← j
  fine (Y.StoredOffset o)

-- a value converted to the kind of the scalar that it goes into; none goes into an area
abbrev pub stored_as : Y.LeafType → Place → Option Y.Value → Judged Y.Stored
stored_as (Y.FixedLeaf p) place v = number_stored p (number_wanted place v)
stored_as (Y.CharacterLeaf n) place v = text_stored (text_wanted place v)
stored_as (Y.VaryingLeaf n) place v = text_stored (text_wanted place v)
stored_as Y.BitLeaf place v = bit_stored (bit_wanted place v)
stored_as Y.PointerLeaf place v = pointer_stored (pointer_wanted place v)
stored_as (Y.OffsetLeaf area) place v = offset_stored (offset_wanted area place v)
stored_as (Y.AreaLeaf n) place v = wanted (λ w. None) (Y.StoredBit (Y.BitConstant false)) place v

abbrev pub operand_stored : Y.LeafType → Operand → Judged Y.Stored
operand_stored t o = do
  v ← operand_value o
  stored_as t o.place v

-- ---- areas and locators

-- an area where one is needed; a variable of no block stands in for it
abbrev pub no_variable : Y.Variable
no_variable = record { class = Y.AutomaticClass; block = 0; level = 0; index = 0 }

-- stands in for a reference
abbrev pub no_reference : Y.Reference
no_reference = Y.Referring no_variable Y.NotLocated (record { first = 0; count = 0 }) Y.NoNumber

abbrev pub area_or_mismatch : Bool → Place → Y.Reference → Judged Y.Variable
area_or_mismatch true place r = fine (variable_of r)
area_or_mismatch false place r = broken place TypeMismatch no_variable

abbrev pub area_referent : Place → Referent → Judged Y.Variable
area_referent place (Designates d) = area_or_mismatch (is_area d) place d.reference
area_referent place (Gives v) = broken place TypeMismatch no_variable
area_referent place GivesUnknown = broken place TypeMismatch no_variable
area_referent place GivesEmptyArea = broken place TypeMismatch no_variable
area_referent place GivesNothing = broken place TypeMismatch no_variable
area_referent place NotKnown = fine no_variable

abbrev pub area_operand : Operand → Judged Y.Variable
area_operand o = area_referent o.place o.referent
