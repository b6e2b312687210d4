-- References and expressions: operands are evaluated from left to right. (X3.53-1976, chapters 7 and 9.)
use Rattle.std.specs.Prelude.{ℕ, zero, suc, ◌+◌, ◌-◌, ℤ, pos, ◌-ℤ◌, ◌+ℤ◌, int_le, Bool, not, ◌&&◌, ◌||◌, ◌==◌, List, [], ◌∷◌, take, length, Option, Some, None, is_some, slice_get, unwrap_or, if◌then◌else◌}
use Rattle.std.specs.Ordering.{int_cmp}
use Rattle.pli_meaning.specs.Codes.{no_generation_code, subscript_code, substring_code, conversion_code, extent_code, too_long_code, not_in_area_code}
use Rattle.pli_meaning.specs.Numbers.{sign_applied, checked, operator_precision}
use Rattle.pli_typing.specs.Signatures.{Bounds, Leaf}
use Rattle.pli_typing.specs.TypedTree as Y
use Rattle.pli_meaning.specs.Texts.{number_text, bit_text, bit_number, number_in_text, bit_in_text, holds, text_order, bit_order, joined, substring_from, substring, index_of, verify_of}
use Rattle.pli_meaning.specs.BasicValues.{Name, NullName, VariableName, BasedName, BasicValue, BasicNumber, BasicText, BasicBit, BasicPointer, BasicOffset}
use Rattle.pli_meaning.specs.Contents.{number_in, text_in, bit_in, name_in, offset_in, same_name, same_offset, Shape, leaves_with, Generation, is_within, seen}
use Rattle.pli_meaning.specs.Unreachable.{unreachable_leaf}
use Rattle.pli_meaning.specs.StorageState.{Binding, standing_for, named, offsets_of, height_of, ancestor_at, oncode_of}
use Rattle.pli_meaning.specs.Control.{Meaning, give, stuck, ◌>>=◌, ◌>>◌, looked, given}
use Rattle.pli_meaning.specs.Raising.{Around, Passed, PassedName, PassedValue, value_of, or_error, demanded}
use Rattle.pli_meaning.specs.Operations.{calculated, divided, modulo, absolute, sign_of, extreme}
use Rattle.pli_meaning.specs.DeclaredShapes.{shape_of, copied_kind, declared_variable, procedure_numbered}

-- ---- parts of generations (chapter 7)

-- a part of a generation that lives, or an element of it, with the REFER extent in force
pub record Designated : Type 0 where
  pub name : Name
  pub generation : Generation
  pub extent : ℤ
  pub part : Y.Part
  pub subscripts : List ℤ

-- a leaf where the REFER extent is this one
abbrev pub leaf_at : Shape → ℤ → ℕ → Leaf
leaf_at shape z leaf = unwrap_or (slice_get (leaves_with z shape) leaf) unreachable_leaf

abbrev pub first_leaf : Designated → Leaf
first_leaf d = leaf_at d.generation.shape d.extent d.part.first

abbrev pub includes_last : Shape → Y.Part → Bool
includes_last shape part = part.first + part.count == length shape.signature.leaves

abbrev pub lower_or_zero : List Bounds → ℤ
lower_or_zero [] = pos 0
lower_or_zero (b ∷ bs) = b.lower

-- the least that a member may tell: the lower bound, or 0 for a length
abbrev pub least_extent : Generation → ℤ
least_extent g = lower_or_zero (leaf_at g.shape g.extent (length g.shape.signature.leaves - 1)).bounds

abbrev pub extent_told : Generation → ℤ → Option ℤ
extent_told g z = if int_le (least_extent g) z && int_le z g.extent then Some z else None

-- a part that includes the last leaf has the extent that the member tells
abbrev pub extent_by : Generation → Y.Part → Option ℕ → Option ℤ
extent_by g part None = Some g.extent
extent_by g part (Some member) = if includes_last g.shape part then extent_told g (number_in (g.values member [])) else Some g.extent

abbrev pub extent_in_force : Generation → Y.Part → Option ℤ
extent_in_force g part = extent_by g part g.shape.refer

-- the generation lives (101), the member tells what may be (107), and the subscripts lie within the bounds (102)
unfoldable pub part_designated : Around → Name → Shape → Y.Part → List ℤ → Meaning Designated
part_designated around n shape part is = do
  s ← looked
  g ← or_error around no_generation_code (named s n shape)
  z ← or_error around extent_code (extent_in_force g part)
  demanded around subscript_code (is_within (take (length is) (leaf_at shape z part.first).bounds) is)
  give (record { name = n; generation = g; extent = z; part = part; subscripts = is })

-- a BASED variable is located by a name, and has the signature that it is declared with
unfoldable pub variable_designated : Around → Y.Variable → Option Name → Y.Part → List ℤ → Meaning Designated
variable_designated around v None part is = do
  s ← looked
  b ← or_error around no_generation_code (standing_for s v)
  part_designated around b.name b.shape part is
variable_designated around v (Some n) part is =
    given (declared_variable around.program v)
    (λ d. part_designated around n (shape_of [] d) part is)
    stuck

-- the element that is designated, or the only one of its leaf
abbrev pub value_in : Designated → BasicValue
value_in d = seen (first_leaf d).kind (d.generation.values d.part.first d.subscripts)

abbrev pub bounds_in : Designated → (dimension : ℕ) → Option Bounds
bounds_in d zero = None
bounds_in d (suc n) = slice_get (first_leaf d).bounds n

abbrev pub elements_between : Bounds → ℤ
elements_between b = b.upper -ℤ b.lower +ℤ pos 1

-- ---- areas and locators (chapter 7)

abbrev pub serial_in : Name → Option ℕ
serial_in (VariableName serial) = Some serial
serial_in _ = None

abbrev pub serial_of : Option Binding → Option ℕ
serial_of None = None
serial_of (Some b) = serial_in b.name

-- the serial of the area that a variable stands for
unfoldable pub area_meant : Around → Y.Variable → Meaning ℕ
area_meant around v = do
  s ← looked
  or_error around no_generation_code (serial_of (standing_for s v))

abbrev pub pointer_into : ℕ → Option ℕ → Name
pointer_into area None = NullName
pointer_into area (Some o) = BasedName area o

-- the offset of a name in an area; whether it lives isn't asked
abbrev pub offset_within : ℕ → Name → Option (Option ℕ)
offset_within area NullName = Some None
offset_within area (VariableName serial) = None
offset_within area (BasedName a o) = if a == area then Some (Some o) else None

-- the offset of a name in the area that an argument stands for
abbrev pub serial_passed : Option Passed → Option ℕ
serial_passed None = None
serial_passed (Some (PassedName n shape)) = serial_in n
serial_passed (Some (PassedValue kind v)) = None

abbrev pub offset_in_passed : Option ℕ → Name → Option (Option ℕ)
offset_in_passed None NullName = Some None
offset_in_passed None _ = None
offset_in_passed (Some area) n = offset_within area n

-- ---- arguments (chapter 6)

-- an argument as it was evaluated; the offset of a name in an area of the callee's is found last
pub data Evaluated : Type 0 where
  EvaluatedArgument : Passed → Evaluated
  NameInParameter : Name → (parameter : ℕ) → Evaluated
  NameInAutomatic : Name → Evaluated

abbrev pub passed_in : Evaluated → Option Passed
passed_in (EvaluatedArgument p) = Some p
passed_in _ = None

abbrev pub evaluated_at : List Evaluated → ℕ → Option Passed
evaluated_at [] n = None
evaluated_at (e ∷ es) zero = passed_in e
evaluated_at (e ∷ es) (suc n) = evaluated_at es n

abbrev pub copied : Y.LeafType → BasicValue → Passed
copied t v = PassedValue (copied_kind t v) v

abbrev pub offset_passed : Option ℕ → Passed
offset_passed o = copied (Y.OffsetLeaf None) (BasicOffset o)

unfoldable pub passed_last : Around → List Evaluated → Evaluated → Meaning Passed
passed_last around all (EvaluatedArgument p) = give p
passed_last around all (NameInParameter n parameter) = do
  o ← or_error around not_in_area_code (offset_in_passed (serial_passed (evaluated_at all parameter)) n)
  give (offset_passed o)
passed_last around all (NameInAutomatic n) = do
  o ← or_error around not_in_area_code (offset_in_passed None n)
  give (offset_passed o)

unfoldable pub all_passed_last : Around → (all rest : List Evaluated) → Meaning (List Passed)
all_passed_last around all [] = give []
all_passed_last around all (e ∷ es) = do
  p ← passed_last around all e
  ps ← all_passed_last around all es
  give (p ∷ ps)

-- a procedure is entered; the block that declares it is the static ancestor at a level
unfoldable pub procedure_entered : Around → Option Y.Procedure → (level : ℕ) → List Passed → Meaning (Option BasicValue)
procedure_entered around None level passed = stuck
procedure_entered around (Some p) level passed = do
  s ← looked
  around.enter (record {
    block = p.block;
    parent = height_of (ancestor_at s level);
    oncode = 0;
    parameters = p.parameters;
    arguments = passed;
    is_function = is_some p.result;
  })

-- the value that a function returns
unfoldable pub returned : Option BasicValue → Meaning BasicValue
returned None = stuck
returned (Some v) = give v

-- ---- expressions (chapter 9)

unfoldable mutual
  pub number : Around → Y.Number → Meaning ℤ
  number around (Y.NumberConstant n) = give (pos n)
  number around (Y.NumberIn r) = do
    d ← designated around r
    give (number_in (value_in d))
  number around (Y.NumberFrom c) = do
    result ← called around c
    v ← returned result
    give (number_in v)
  number around (Y.NumberOfText t) = do
    x ← text around t
    or_error around conversion_code (number_in_text x)
  number around (Y.NumberOfBit b) = do
    x ← bit around b
    give (bit_number x)
  number around (Y.Signed sign e) = do
    z ← number around e
    value_of around (sign_applied sign z)
  number around (Y.Calculated operator left right) = do
    a ← number around left
    b ← number around right
    value_of around (calculated operator a b)
  number around (Y.Absolute e) = do
    z ← number around e
    value_of around (absolute z)
  number around (Y.SignOf e) = do
    z ← number around e
    give (sign_of z)
  number around (Y.Extreme extremum first more) = do
    z ← number around first
    zs ← numbers around more
    give (extreme extremum z zs)
  number around (Y.Modulo dividend divisor) = do
    a ← number around dividend
    b ← number around divisor
    value_of around (modulo a b)
  number around (Y.Divided precision dividend divisor) = do
    a ← number around dividend
    b ← number around divisor
    value_of around (divided precision a b)
  number around (Y.LengthOf t) = do
    x ← text around t
    give (pos (length x))
  number around (Y.IndexOf searched sought) = do
    s ← text around searched
    t ← text around sought
    give (pos (index_of s t))
  number around (Y.VerifyOf searched allowed) = do
    s ← text around searched
    t ← text around allowed
    give (pos (verify_of s t))
  number around (Y.LowerBound r dimension) = do
    d ← designated around r
    given (bounds_in d dimension) (λ b. give b.lower) stuck
  number around (Y.UpperBound r dimension) = do
    d ← designated around r
    given (bounds_in d dimension) (λ b. give b.upper) stuck
  number around (Y.ElementsOf r dimension) = do
    d ← designated around r
    given (bounds_in d dimension) (λ b. value_of around (checked operator_precision (elements_between b))) stuck
  number around (Y.AllocationsOf v) = do
    s ← looked
    give (pos (length (offsets_of s.controlled v.block v.index)))
  number around Y.OnCode = do
    s ← looked
    give (pos (oncode_of s.activations))

  pub numbers : Around → Y.Numbers → Meaning (List ℤ)
  numbers around Y.NoNumber = give []
  numbers around (Y.NumberThen first rest) = do
    z ← number around first
    zs ← numbers around rest
    give (z ∷ zs)

  pub text : Around → Y.Text → Meaning (List ℕ)
  text around (Y.TextConstant bytes) = give bytes
  text around (Y.TextIn r) = do
    d ← designated around r
    give (text_in (value_in d))
  text around (Y.TextFrom c) = do
    result ← called around c
    v ← returned result
    give (text_in v)
  text around (Y.TextOfNumber precision e) = do
    z ← number around e
    give (number_text precision z)
  text around (Y.TextOfBit b) = do
    x ← bit around b
    give (bit_text x)
  text around (Y.Joined left right) = do
    s ← text around left
    t ← text around right
    or_error around too_long_code (joined s t)
  text around (Y.SubstringFrom e start) = do
    s ← text around e
    i ← number around start
    or_error around substring_code (substring_from s i)
  text around (Y.Substring e start count) = do
    s ← text around e
    i ← number around start
    j ← number around count
    or_error around substring_code (substring s i j)

  pub bit : Around → Y.Bit → Meaning Bool
  bit around (Y.BitConstant b) = give b
  bit around (Y.BitIn r) = do
    d ← designated around r
    give (bit_in (value_in d))
  bit around (Y.BitFrom c) = do
    result ← called around c
    v ← returned result
    give (bit_in v)
  bit around (Y.BitOfText t) = do
    x ← text around t
    or_error around conversion_code (bit_in_text x)
  bit around (Y.Negated e) = do
    b ← bit around e
    give (not b)
  bit around (Y.Combined Y.Conjunction left right) = do
    a ← bit around left
    b ← bit around right
    give (a && b)
  bit around (Y.Combined Y.Disjunction left right) = do
    a ← bit around left
    b ← bit around right
    give (a || b)
  bit around (Y.NumbersCompared comparison left right) = do
    a ← number around left
    b ← number around right
    give (holds comparison (int_cmp a b))
  bit around (Y.TextsCompared comparison left right) = do
    a ← text around left
    b ← text around right
    give (holds comparison (text_order a b))
  bit around (Y.BitsCompared comparison left right) = do
    a ← bit around left
    b ← bit around right
    give (holds comparison (bit_order a b))
  bit around (Y.PointersCompared equal left right) = do
    a ← pointer around left
    b ← pointer around right
    give (if equal then same_name a b else not (same_name a b))
  bit around (Y.OffsetsCompared equal left right) = do
    a ← offset around left
    b ← offset around right
    give (if equal then same_offset a b else not (same_offset a b))

  pub pointer : Around → Y.Pointer → Meaning Name
  pointer around Y.NullPointer = give NullName
  pointer around (Y.PointerIn r) = do
    d ← designated around r
    give (name_in (value_in d))
  pointer around (Y.PointerFrom c) = do
    result ← called around c
    v ← returned result
    give (name_in v)
  pointer around (Y.AddressOf r) = do
    d ← designated around r
    give d.name
  pointer around (Y.PointerInto e area) = do
    o ← offset around e
    a ← area_meant around area
    give (pointer_into a o)

  pub offset : Around → Y.Offset → Meaning (Option ℕ)
  offset around Y.NullOffset = give None
  offset around (Y.OffsetIn r) = do
    d ← designated around r
    give (offset_in (value_in d))
  offset around (Y.OffsetFrom c) = do
    result ← called around c
    v ← returned result
    give (offset_in v)
  offset around (Y.OffsetInto e area) = do
    n ← pointer around e
    a ← area_meant around area
    or_error around not_in_area_code (offset_within a n)

  -- the locator, then the subscripts, then the checks
  pub designated : Around → Y.Reference → Meaning Designated
  designated around (Y.Referring variable locator part subscripts) = do
    n ← located around locator
    is ← numbers around subscripts
    variable_designated around variable n part is

  pub located : Around → Y.Locator → Meaning (Option Name)
  located around Y.NotLocated = give None
  located around (Y.LocatedBy p) = do
    n ← pointer around p
    give (Some n)

  pub called : Around → Y.Call → Meaning (Option BasicValue)
  called around (Y.Calling procedure level as') = do
    evaluated ← arguments around as'
    passed ← all_passed_last around evaluated evaluated
    procedure_entered around (procedure_numbered procedure around.program.procedures) level passed

  pub arguments : Around → Y.Arguments → Meaning (List Evaluated)
  arguments around Y.NoArgument = give []
  arguments around (Y.ArgumentThen first rest) = do
    e ← argument around first
    es ← arguments around rest
    give (e ∷ es)

  pub argument : Around → Y.Argument → Meaning Evaluated
  argument around (Y.ByReference r) = do
    d ← designated around r
    give (EvaluatedArgument (PassedName d.name d.generation.shape))
  argument around (Y.ByCopy t v) = do
    x ← stored_value around v
    give (EvaluatedArgument (copied t x))
  argument around (Y.ByOffsetInParameter p parameter) = do
    n ← pointer around p
    give (NameInParameter n parameter)
  argument around (Y.ByOffsetInAutomatic p) = do
    n ← pointer around p
    give (NameInAutomatic n)

  -- a value of the kind that is due
  pub stored_value : Around → Y.Stored → Meaning BasicValue
  stored_value around (Y.StoredNumber precision e) = do
    z ← number around e
    z' ← value_of around (checked precision z)
    give (BasicNumber z')
  stored_value around (Y.StoredText e) = do
    t ← text around e
    give (BasicText t)
  stored_value around (Y.StoredBit e) = do
    b ← bit around e
    give (BasicBit b)
  stored_value around (Y.StoredPointer e) = do
    n ← pointer around e
    give (BasicPointer n)
  stored_value around (Y.StoredOffset e) = do
    o ← offset around e
    give (BasicOffset o)

-- ---- computational values (chapter 3, data types): they convert to numbers and to texts

-- a number has the places of its precision as a text
pub data Computational : Type 0 where
  ComputationalNumber : (precision : ℕ) → ℤ → Computational
  ComputationalText : List ℕ → Computational
  ComputationalBit : Bool → Computational

abbrev pub as_text : Computational → List ℕ
as_text (ComputationalNumber precision z) = number_text precision z
as_text (ComputationalText t) = t
as_text (ComputationalBit b) = bit_text b

abbrev pub as_number : Computational → Option ℤ
as_number (ComputationalNumber precision z) = Some z
as_number (ComputationalText t) = number_in_text t
as_number (ComputationalBit b) = Some (bit_number b)

unfoldable pub computational : Around → Y.Value → Meaning Computational
computational around (Y.NumberValue precision e) = do
  z ← number around e
  give (ComputationalNumber precision z)
computational around (Y.TextValue e) = do
  t ← text around e
  give (ComputationalText t)
computational around (Y.BitValue e) = do
  b ← bit around e
  give (ComputationalBit b)
computational around _ = stuck
