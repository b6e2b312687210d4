-- GET and PUT with EDIT: items go by format lists, which are used again while items remain. (X3.53-1976, chapter 8.)
use Rattle.std.specs.Prelude.{ℕ, zero, suc, ℤ, Bool, true, false, ◌&&◌, nat_le, filter, List, [], ◌∷◌, ◌++◌, Option, Some, None, slice_get}
use Rattle.pli_language.specs.declared.condition.Condition.TheVariants as C
use Rattle.pli_meaning.specs.Codes.{no_generation_code, too_wide_code, conversion_code, endfile_code, extent_code}
use Rattle.pli_meaning.specs.World.{counted, written}
use Rattle.pli_meaning.specs.Stream.{fixed_field, with_field, spaced, skipped, moved_to_column}
use Rattle.pli_meaning.specs.Numbers.{checked, operator_precision}
use Rattle.pli_typing.specs.Signatures.{LeafKind, Fixed, Character, Varying, Bit}
use Rattle.pli_language.specs.Tree.{Format, FormatList, FixedFormat, TextFormat, SpaceFormat, SkipFormat, ColumnFormat, Formats, NoFormat, FormatThen}
use Rattle.pli_typing.specs.TypedTree as Y
use Rattle.pli_meaning.specs.Texts.{fitted, number_text, number_in_text, bit_in_text}
use Rattle.pli_meaning.specs.InputLines.{Input, has_character, field_of, behind_field, behind_lines, at_column}
use Rattle.pli_meaning.specs.BasicValues.{BasicValue, BasicNumber, BasicText, BasicBit}
use Rattle.pli_meaning.specs.Contents.{leaves_with, Generation, is_within}
use Rattle.pli_meaning.specs.StorageState.{with_input, named}
use Rattle.pli_meaning.specs.Control.{Meaning, give, stuck, ◌>>=◌, ◌>>◌, looked, stored, act, choose, given}
use Rattle.pli_meaning.specs.Raising.{Around, raised, value_of, or_error, demanded}
use Rattle.pli_meaning.specs.DeclaredShapes.{kind_of, declared_variable}
use Rattle.pli_meaning.specs.Evaluating.{Designated, leaf_at, first_leaf, value_in, designated, Computational, ComputationalNumber, ComputationalText, ComputationalBit, as_text, as_number, computational}
use Rattle.pli_meaning.specs.Placing.{is_in_part, element_stored}
use Rattle.pli_meaning.specs.StreamOrder.{Element, elements_in_order}

-- ---- format lists

pub data ControlItem : Type 0 where
  SpaceItem SkipItem ColumnItem : (number : ℕ) → ControlItem

pub data DataItem : Type 0 where
  FixedItem : (width : ℕ) → DataItem
  TextItem : (width : Option ℕ) → DataItem

pub data FormatItem : Type 0 where
  DataFormat : DataItem → FormatItem
  ControlFormat : ControlItem → FormatItem

abbrev pub repeated : ℕ → List FormatItem → List FormatItem
repeated zero items = []
repeated (suc n) items = items ++ repeated n items

-- one item behind the other, each as often as its number says
abbrev mutual
  pub format_items : Formats → List FormatItem
  format_items NoFormat = []
  format_items (FormatThen place repetition first rest) = repeated repetition (format_item first) ++ format_items rest

  pub format_item : Format → List FormatItem
  format_item (FormatList formats) = format_items formats
  format_item (FixedFormat width) = DataFormat (FixedItem width) ∷ []
  format_item (TextFormat width) = DataFormat (TextItem width) ∷ []
  format_item (SpaceFormat n) = ControlFormat (SpaceItem n) ∷ []
  format_item (SkipFormat n) = ControlFormat (SkipItem n) ∷ []
  format_item (ColumnFormat n) = ControlFormat (ColumnItem n) ∷ []

-- the control items before the next data item are carried out; none where the list ends first
unfoldable pub controls : (ControlItem → Meaning (Unit {0})) → List FormatItem → Meaning (Option (DataItem × List FormatItem))
controls carried_out [] = give None
controls carried_out (DataFormat f ∷ rest) = give (Some (f, rest))
controls carried_out (ControlFormat c ∷ rest) = do
  carried_out c
  controls carried_out rest

-- the next data item, from the start again where the list has ended
unfoldable pub next_item : (ControlItem → Meaning (Unit {0})) → (whole rest : List FormatItem) → Meaning (DataItem × List FormatItem)
next_item carried_out whole rest = do
  found ← controls carried_out rest
  given found give (do
    again ← controls carried_out whole
    given again give stuck)

-- ---- PUT

abbrev pub control_written : ControlItem → List ℕ → List ℕ
control_written (SpaceItem n) output = spaced n output
control_written (SkipItem n) output = skipped n output
control_written (ColumnItem n) output = moved_to_column n output

unfoldable pub control_put : ControlItem → Meaning (Unit {0})
control_put c = act (written (control_written c))

unfoldable pub shown_by : Around → Computational → DataItem → Meaning (Unit {0})
shown_by around v (FixedItem width) = do
  z ← or_error around conversion_code (as_number v)
  field ← or_error around too_wide_code (fixed_field width z)
  act (written (with_field field))
shown_by around v (TextItem None) = act (written (with_field (as_text v)))
shown_by around v (TextItem (Some width)) = act (written (with_field (fitted width (as_text v))))

-- ---- elements of aggregates: locator, extents and checks are taken once, and at each element the generation must still live

abbrev pub members_of : Option Y.DeclaredVariable → List Y.Member
members_of None = []
members_of (Some d) = d.members

abbrev pub members_referred : Around → Y.Reference → List Y.Member
members_referred around (Y.Referring variable locator part subscripts) = members_of (declared_variable around.program variable)

-- the elements of a part, in order
abbrev pub part_elements : List Y.Member → Designated → List Element
part_elements members d =
    filter (λ e. is_in_part d e.0 e.1) (elements_in_order members (leaves_with d.extent d.generation.shape))

abbrev pub kind_holds : (allocated inforce : LeafKind) → Bool
kind_holds (Character m) (Character n) = nat_le n m
kind_holds _ _ = true

-- the generation that lives now may be another of the same signature, with a smaller REFER extent: an element that it doesn't
-- have, or a text that it doesn't have in full, is ERROR 107
abbrev pub element_holds : Generation → Designated → Element → Bool
element_holds g d e =
    kind_holds (leaf_at g.shape g.extent e.0).kind (leaf_at d.generation.shape d.extent e.0).kind
    && is_within (leaf_at g.shape g.extent e.0).bounds e.1

-- the element as it is designated now
unfoldable pub element_designated : Around → Designated → Element → Meaning Designated
element_designated around d e = do
  s ← looked
  g ← or_error around no_generation_code (named s d.name d.generation.shape)
  demanded around extent_code (element_holds g d e)
  give (record { name = d.name; generation = g; extent = d.extent; part = record { first = e.0; count = 1 }; subscripts = e.1 })

abbrev pub shown_of : LeafKind → BasicValue → Option Computational
shown_of (Fixed p) (BasicNumber z) = Some (ComputationalNumber p z)
shown_of (Character n) (BasicText t) = Some (ComputationalText t)
shown_of (Varying n) (BasicText t) = Some (ComputationalText t)
shown_of Bit (BasicBit b) = Some (ComputationalBit b)
shown_of _ _ = None

unfoldable pub element_put : Around → (whole rest : List FormatItem) → Designated → Meaning (List FormatItem)
element_put around whole rest d =
    given (shown_of (first_leaf d).kind (value_in d))
    (λ v. do
      next ← next_item control_put whole rest
      shown_by around v next.0
      give next.1)
    stuck

unfoldable pub elements_put : Around → (whole rest : List FormatItem) → Designated → List Element → Meaning (List FormatItem)
elements_put around whole rest d [] = give rest
elements_put around whole rest d (e ∷ es) = do
  now ← element_designated around d e
  rest' ← element_put around whole rest now
  elements_put around whole rest' d es

-- an item is evaluated before the control items that stand before its format item
unfoldable pub item_put : Around → (whole rest : List FormatItem) → Y.PutItem → Meaning (List FormatItem)
item_put around whole rest (Y.PutValue e) = do
  v ← computational around e
  next ← next_item control_put whole rest
  shown_by around v next.0
  give next.1
item_put around whole rest (Y.PutAggregate r) = do
  d ← designated around r
  elements_put around whole rest d (part_elements (members_referred around r) d)

unfoldable pub items_put : Around → (whole rest : List FormatItem) → List Y.PutItem → Meaning (Unit {0})
items_put around whole rest [] = give tt
items_put around whole rest (i ∷ is) = do
  rest' ← item_put around whole rest i
  items_put around whole rest' is

unfoldable pub pairs_put : Around → List Y.PutPair → Meaning (Unit {0})
pairs_put around [] = give tt
pairs_put around (p ∷ ps) = do
  items_put around (format_items p.formats) (format_items p.formats) p.items
  pairs_put around ps

unfoldable pub put : Around → Option ℕ → List Y.PutPair → Meaning (Unit {0})
put around None pairs = pairs_put around pairs
put around (Some n) pairs = do
  control_put (SkipItem n)
  pairs_put around pairs

-- ---- GET

abbrev pub control_read : ControlItem → Input → Input
control_read (SpaceItem n) i = behind_field n i
control_read (SkipItem n) i = behind_lines n i
control_read (ColumnItem n) i = at_column n i

unfoldable pub control_got : ControlItem → Meaning (Unit {0})
control_got c = do
  act counted
  stored (with_input (control_read c))

pub data Field : Type 0 where
  NumberField : ℤ → Field
  TextField : List ℕ → Field

-- a field is taken, an act; with no character left ENDFILE is raised and nothing is taken
unfoldable pub field_taken : Around → (width : ℕ) → Meaning (Option (List ℕ))
field_taken around width = do
  s ← looked
  choose (has_character s.input.marks)
      (do
        act counted
        stored (with_input (behind_field width))
        give (Some (field_of width s.input)))
      (do
        raised around C.Endfile endfile_code
        give None)

unfoldable pub number_got : Around → Option (List ℕ) → Meaning (Option Field)
number_got around None = give None
number_got around (Some t) = do
  z ← or_error around conversion_code (number_in_text t)
  give (Some (NumberField z))

abbrev pub text_got : Option (List ℕ) → Option Field
text_got None = None
text_got (Some t) = Some (TextField t)

unfoldable pub field_got : Around → DataItem → Meaning (Option Field)
field_got around (FixedItem width) = do
  t ← field_taken around width
  number_got around t
field_got around (TextItem (Some width)) = do
  t ← field_taken around width
  give (text_got t)
field_got around (TextItem None) = stuck

unfoldable pub number_kept : Around → (precision : ℕ) → ℤ → Meaning BasicValue
number_kept around p z = do
  z' ← value_of around (checked p z)
  give (BasicNumber z')

-- a field as a value of the target's kind
unfoldable pub field_converted : Around → LeafKind → Field → Meaning BasicValue
field_converted around (Fixed p) (NumberField z) = number_kept around p z
field_converted around (Fixed p) (TextField t) = do
  z ← or_error around conversion_code (number_in_text t)
  number_kept around p z
field_converted around (Character n) (NumberField z) = give (BasicText (number_text operator_precision z))
field_converted around (Character n) (TextField t) = give (BasicText t)
field_converted around (Varying n) (NumberField z) = give (BasicText (number_text operator_precision z))
field_converted around (Varying n) (TextField t) = give (BasicText t)
field_converted around Bit (TextField t) = do
  b ← or_error around conversion_code (bit_in_text t)
  give (BasicBit b)
field_converted around _ _ = stuck

abbrev pub type_of_leaf : Option Y.Leaf → Option Y.LeafType
type_of_leaf None = None
type_of_leaf (Some l) = Some l.type

abbrev pub type_of_first : Y.Part → Option Y.DeclaredVariable → Option Y.LeafType
type_of_first part None = None
type_of_first part (Some d) = type_of_leaf (slice_get d.leaves part.first)

abbrev pub target_type : Around → Y.Reference → Option Y.LeafType
target_type around (Y.Referring variable locator part subscripts) = type_of_first part (declared_variable around.program variable)

-- the field is converted before the target is evaluated, by the kind alone: no length counts
unfoldable pub scalar_got : Around → Y.Reference → Field → Meaning (Unit {0})
scalar_got around r f =
    given (target_type around r)
    (λ t. do
      v ← field_converted around (kind_of [] t) f
      d ← designated around r
      element_stored d v)
    stuck

-- none where the input has ended
unfoldable pub scalar_if_got : Around → Y.Reference → List FormatItem → Option Field → Meaning (Option (List FormatItem))
scalar_if_got around r rest None = give None
scalar_if_got around r rest (Some f) = do
  scalar_got around r f
  give (Some rest)

-- the rest of the format list behind a field that was stored
unfoldable pub element_if_got : Around → Designated → Element → List FormatItem → Option Field → Meaning (Option (List FormatItem))
element_if_got around d e rest None = give None
element_if_got around d e rest (Some f) = do
  v ← field_converted around (leaf_at d.generation.shape d.extent e.0).kind f
  now ← element_designated around d e
  element_stored now v
  give (Some rest)

unfoldable pub elements_got : Around → (whole rest : List FormatItem) → Designated → List Element → Meaning (Option (List FormatItem))
elements_got around whole rest d [] = give (Some rest)
elements_got around whole rest d (e ∷ es) = do
  next ← next_item control_got whole rest
  f ← field_got around next.0
  rest' ← element_if_got around d e next.1 f
  given rest' (λ r. elements_got around whole r d es) (give None)

unfoldable pub item_got : Around → (whole rest : List FormatItem) → Y.GetItem → Meaning (Option (List FormatItem))
item_got around whole rest (Y.GetScalar r) = do
  next ← next_item control_got whole rest
  f ← field_got around next.0
  scalar_if_got around r next.1 f
item_got around whole rest (Y.GetAggregate r) = do
  d ← designated around r
  elements_got around whole rest d (part_elements (members_referred around r) d)

-- whether the input lasted
unfoldable pub items_got : Around → (whole rest : List FormatItem) → List Y.GetItem → Meaning Bool
items_got around whole rest [] = give true
items_got around whole rest (i ∷ is) = do
  rest' ← item_got around whole rest i
  given rest' (λ r. items_got around whole r is) (give false)

unfoldable pub pairs_got : Around → List Y.GetPair → Meaning (Unit {0})
pairs_got around [] = give tt
pairs_got around (p ∷ ps) = do
  lasted ← items_got around (format_items p.formats) (format_items p.formats) p.items
  choose lasted (pairs_got around ps) (give tt)

unfoldable pub get : Around → Option ℕ → List Y.GetPair → Meaning (Unit {0})
get around None pairs = pairs_got around pairs
get around (Some n) pairs = do
  control_got (SkipItem n)
  pairs_got around pairs
