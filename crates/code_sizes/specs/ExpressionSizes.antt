-- How many words the code of an expression has at most, by its typed tree: whatever its program declares, and whatever
-- temporaries are in use.
use Rattle.std.specs.Prelude.{ℕ, ◌+◌, ◌≤◌, ℤ}
use Rattle.pli_typing.specs.TypedTree as Y
use Rattle.pli_coding.specs.Assembly.{size_of}
use Rattle.pli_coding.specs.Environments.{Environment, Taken}
use Rattle.pli_coding.specs.Expressions.{number_code, text_code, bit_code, pointer_to, offset_code, reference_code}
use Rattle.pli_coding.specs.Expressions.{call_code, stored_code}

-- a variable's element is reached without its subscripts: its name is found, and its leaf, with what REFER tells
abbrev pub reached_size : ℕ
reached_size = 62

-- a subscript is kept, counted within its bounds, and made a distance
abbrev pub subscript_size : ℕ
subscript_size = 37

-- a name is copied, word by word, from where it was found
abbrev pub name_size : ℕ
name_size = 16

-- a name is found to live, and is written
abbrev pub written_size : ℕ
written_size = 57

abbrev mutual
  pub number_size : Y.Number → ℕ
  number_size (Y.NumberConstant n) = 2
  number_size (Y.NumberIn r) = reference_size r + 3
  number_size (Y.NumberFrom c) = call_size c
  number_size (Y.NumberOfText x) = text_size x + 6
  number_size (Y.NumberOfBit b) = bit_size b
  number_size (Y.Signed sign x) = number_size x + 13
  number_size (Y.Calculated operator left right) = number_size left + (number_size right + 31)
  number_size (Y.Absolute x) = number_size x + 15
  number_size (Y.SignOf x) = number_size x + 3
  number_size (Y.Extreme extremum first more) = number_size first + numbers_size more
  number_size (Y.Modulo dividend divisor) = number_size dividend + (number_size divisor + 21)
  number_size (Y.Divided precision dividend divisor) = number_size dividend + (number_size divisor + 31)
  number_size (Y.LengthOf x) = text_size x + 3
  number_size (Y.IndexOf searched sought) = text_size searched + (text_size sought + 3)
  number_size (Y.VerifyOf searched allowed) = text_size searched + (text_size allowed + 3)
  number_size (Y.LowerBound r dimension) = asked_size r
  number_size (Y.UpperBound r dimension) = asked_size r
  number_size (Y.ElementsOf r dimension) = asked_size r
  number_size (Y.AllocationsOf v) = 4
  number_size Y.OnCode = 2

  -- each is kept or not
  pub numbers_size : Y.Numbers → ℕ
  numbers_size Y.NoNumber = 0
  numbers_size (Y.NumberThen first rest) = (number_size first + 8) + numbers_size rest

  pub text_size : Y.Text → ℕ
  text_size (Y.TextConstant bytes) = 7
  text_size (Y.TextIn r) = reference_size r + 12
  text_size (Y.TextFrom c) = call_size c
  text_size (Y.TextOfNumber precision x) = number_size x + 3
  text_size (Y.TextOfBit b) = bit_size b + 3
  text_size (Y.Joined left right) = text_size left + (text_size right + 5)
  text_size (Y.SubstringFrom x start) = text_size x + (number_size start + 6)
  text_size (Y.Substring x start count) = text_size x + (number_size start + (number_size count + 13))

  pub bit_size : Y.Bit → ℕ
  bit_size (Y.BitConstant b) = 1
  bit_size (Y.BitIn r) = reference_size r + 3
  bit_size (Y.BitFrom c) = call_size c
  bit_size (Y.BitOfText x) = text_size x + 6
  bit_size (Y.Negated x) = bit_size x + 1
  bit_size (Y.Combined operator left right) = bit_size left + (bit_size right + 7)
  bit_size (Y.NumbersCompared comparison left right) = number_size left + (number_size right + 8)
  bit_size (Y.TextsCompared comparison left right) = text_size left + (text_size right + 6)
  bit_size (Y.BitsCompared comparison left right) = bit_size left + (bit_size right + 8)
  bit_size (Y.PointersCompared equal left right) = pointer_size left + (pointer_size right + 37)
  bit_size (Y.OffsetsCompared equal left right) = offset_size left + (offset_size right + 8)

  pub pointer_size : Y.Pointer → ℕ
  pointer_size Y.NullPointer = 12
  pointer_size (Y.PointerIn r) = reference_size r + name_size
  pointer_size (Y.PointerFrom c) = call_size c + name_size
  pointer_size (Y.AddressOf r) = named_size r
  pointer_size (Y.PointerInto x area) = offset_size x + 14

  pub offset_size : Y.Offset → ℕ
  offset_size Y.NullOffset = 2
  offset_size (Y.OffsetIn r) = reference_size r + 3
  offset_size (Y.OffsetFrom c) = call_size c
  offset_size (Y.OffsetInto x area) = pointer_size x + 20

  pub reference_size : Y.Reference → ℕ
  reference_size (Y.Referring v locator part subscripts) =
      locator_size locator + (subscripts_size subscripts + reached_size)

  pub locator_size : Y.Locator → ℕ
  locator_size Y.NotLocated = 0
  locator_size (Y.LocatedBy p) = pointer_size p

  pub subscripts_size : Y.Numbers → ℕ
  subscripts_size Y.NoNumber = 0
  subscripts_size (Y.NumberThen first rest) = (number_size first + subscript_size) + subscripts_size rest

  -- what is asked of a dimension
  pub asked_size : Y.Reference → ℕ
  asked_size (Y.Referring v locator part subscripts) = locator_size locator + 78

  -- a generation's name
  pub named_size : Y.Reference → ℕ
  named_size (Y.Referring v locator part subscripts) = locator_size locator + written_size

  pub call_size : Y.Call → ℕ
  call_size (Y.Calling procedure level as') = arguments_size as' + 11

  pub arguments_size : Y.Arguments → ℕ
  arguments_size Y.NoArgument = 0
  arguments_size (Y.ArgumentThen first rest) = argument_size first + arguments_size rest

  pub argument_size : Y.Argument → ℕ
  argument_size (Y.ByReference r) = named_size r + 12
  argument_size (Y.ByCopy type v) = stored_size v + 28
  argument_size (Y.ByOffsetInParameter p parameter) = pointer_size p + 45
  argument_size (Y.ByOffsetInAutomatic p) = pointer_size p + 45

  pub stored_size : Y.Stored → ℕ
  stored_size (Y.StoredNumber precision x) = number_size x + 14
  stored_size (Y.StoredText x) = text_size x
  stored_size (Y.StoredBit x) = bit_size x
  stored_size (Y.StoredPointer x) = pointer_size x
  stored_size (Y.StoredOffset x) = offset_size x

-- the law: no expression's code is longer
abbrev pub NumbersSized : Type 0
NumbersSized = (e : Environment) (t : Taken) (x : Y.Number) → size_of (number_code e t x) ≤ number_size x

abbrev pub TextsSized : Type 0
TextsSized = (e : Environment) (t : Taken) (x : Y.Text) → size_of (text_code e t x) ≤ text_size x

abbrev pub BitsSized : Type 0
BitsSized = (e : Environment) (t : Taken) (x : Y.Bit) → size_of (bit_code e t x) ≤ bit_size x

abbrev pub PointersSized : Type 0
PointersSized =
    (e : Environment) (t : Taken) (place : ℤ) (x : Y.Pointer) → size_of (pointer_to e t place x) ≤ pointer_size x

abbrev pub OffsetsSized : Type 0
OffsetsSized = (e : Environment) (t : Taken) (x : Y.Offset) → size_of (offset_code e t x) ≤ offset_size x

abbrev pub ReferencesSized : Type 0
ReferencesSized = (e : Environment) (t : Taken) (x : Y.Reference) → size_of (reference_code e t x) ≤ reference_size x

abbrev pub CallsSized : Type 0
CallsSized = (e : Environment) (t : Taken) (x : Y.Call) → size_of (call_code e t x) ≤ call_size x

abbrev pub StoredSized : Type 0
StoredSized = (e : Environment) (t : Taken) (x : Y.Stored) → size_of (stored_code e t x) ≤ stored_size x

abbrev pub ExpressionsSized : Type 0
ExpressionsSized =
    ((NumbersSized × TextsSized) × (BitsSized × PointersSized))
    × ((OffsetsSized × ReferencesSized) × (CallsSized × StoredSized))
