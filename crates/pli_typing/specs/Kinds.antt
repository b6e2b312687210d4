-- The kinds of values, and which converts to which. (X3.53-1976, sections on conversion of data types, cut to these kinds.)
use Rattle.std.specs.Prelude.{ℕ, Bool, true, Option, Some, None, nat_le, if◌then◌else◌}

-- what an expression's value is, or what a value is stored into. Lengths and capacities are no part of it: text of any
-- length becomes text of any other, and so do areas. An OFFSET is known with its area, or is declared without one; NULL is
-- neither a POINTER nor an OFFSET, and fits both.
pub data Kind : Type 0 where
  NumberKind : (precision : ℕ) → Kind
  TextKind BitKind PointerKind : Kind
  OffsetKind : (has_area : Bool) → Kind
  NullKind AreaKind : Kind

-- what is done to a value on its way
pub data Conversion : Type 0 where
  -- nothing, but that it must fit: precision, length, capacity
  Keeps : Conversion
  -- decimal, at the right end of as many places as `converted_length` says
  NumberToText : (precision : ℕ) → Conversion
  TextToNumber BitToNumber BitToText TextToBit : Conversion
  -- as the built-ins POINTER and OFFSET do, with the declared area
  OffsetToPointer PointerToOffset : Conversion

-- the length of the text that a number of a precision is converted to
abbrev pub converted_length : ℕ → ℕ
converted_length precision = if nat_le precision 15 then 9 else 14

-- the pairs of kinds between which a value converts, and how: there are no others
pub data Converts : Kind → Kind → Conversion → Type 0 where
  number_number : (p q : ℕ) → Converts (NumberKind p) (NumberKind q) Keeps
  number_text : (p : ℕ) → Converts (NumberKind p) TextKind (NumberToText p)
  text_number : (q : ℕ) → Converts TextKind (NumberKind q) TextToNumber
  text_text : Converts TextKind TextKind Keeps
  text_bit : Converts TextKind BitKind TextToBit
  bit_number : (q : ℕ) → Converts BitKind (NumberKind q) BitToNumber
  bit_text : Converts BitKind TextKind BitToText
  bit_bit : Converts BitKind BitKind Keeps
  pointer_pointer : Converts PointerKind PointerKind Keeps
  pointer_offset : Converts PointerKind (OffsetKind true) PointerToOffset
  offset_pointer : Converts (OffsetKind true) PointerKind OffsetToPointer
  offset_offset : (a b : Bool) → Converts (OffsetKind a) (OffsetKind b) Keeps
  null_pointer : Converts NullKind PointerKind Keeps
  null_offset : (b : Bool) → Converts NullKind (OffsetKind b) Keeps
  area_area : Converts AreaKind AreaKind Keeps

-- no value of the one kind converts to the other: what needs it is a type mismatch
abbrev pub NeverConverts : Kind → Kind → Type 0
NeverConverts from to = (c : Conversion) → ¬ Converts from to c

-- the one conversion of a pair, as a function to compute with
abbrev pub conversion : Kind → Kind → Option Conversion
conversion (NumberKind p) (NumberKind q) = Some Keeps
conversion (NumberKind p) TextKind = Some (NumberToText p)
conversion TextKind (NumberKind q) = Some TextToNumber
conversion TextKind TextKind = Some Keeps
conversion TextKind BitKind = Some TextToBit
conversion BitKind (NumberKind q) = Some BitToNumber
conversion BitKind TextKind = Some BitToText
conversion BitKind BitKind = Some Keeps
conversion PointerKind PointerKind = Some Keeps
conversion PointerKind (OffsetKind true) = Some PointerToOffset
conversion (OffsetKind true) PointerKind = Some OffsetToPointer
conversion (OffsetKind a) (OffsetKind b) = Some Keeps
conversion NullKind PointerKind = Some Keeps
conversion NullKind (OffsetKind b) = Some Keeps
conversion AreaKind AreaKind = Some Keeps
conversion _ _ = None
