-- In what is evaluated for extents nothing is called.
use Rattle.std.proofs.Common.{ℕ}
use Rattle.pli_typing.specs.TypedTree as Y
use Rattle.well_formed_trees.specs.EarlyNumbers as N
use Rattle.meaning_runs.proofs.Calling as P
use Rattle.meaning_runs.proofs.Calling.{AnyCall, NoCall}

mutual
  pub number_uncalled : (b i : ℕ) (x : Y.Number) → N.Early b i x → P.AllowedNumber NoCall x
  number_uncalled b i (Y.NumberConstant n) h = tt
  number_uncalled b i (Y.NumberIn r) h = reference_uncalled b i r h
  number_uncalled b i (Y.NumberFrom c) h = absurd h
  number_uncalled b i (Y.NumberOfText t) h = text_uncalled b i t h
  number_uncalled b i (Y.NumberOfBit x) h = bit_uncalled b i x h
  number_uncalled b i (Y.Signed sign n) h = number_uncalled b i n h
  number_uncalled b i (Y.Calculated op x y) h = (number_uncalled b i x h.0, number_uncalled b i y h.1)
  number_uncalled b i (Y.Absolute n) h = number_uncalled b i n h
  number_uncalled b i (Y.SignOf n) h = number_uncalled b i n h
  number_uncalled b i (Y.Extreme which first more) h =
      (number_uncalled b i first h.0, numbers_uncalled b i more h.1)
  number_uncalled b i (Y.Modulo x y) h = (number_uncalled b i x h.0, number_uncalled b i y h.1)
  number_uncalled b i (Y.Divided precision x y) h = (number_uncalled b i x h.0, number_uncalled b i y h.1)
  number_uncalled b i (Y.LengthOf t) h = text_uncalled b i t h
  number_uncalled b i (Y.IndexOf s t) h = (text_uncalled b i s h.0, text_uncalled b i t h.1)
  number_uncalled b i (Y.VerifyOf s t) h = (text_uncalled b i s h.0, text_uncalled b i t h.1)
  number_uncalled b i (Y.LowerBound r dimension) h = reference_uncalled b i r h
  number_uncalled b i (Y.UpperBound r dimension) h = reference_uncalled b i r h
  number_uncalled b i (Y.ElementsOf r dimension) h = reference_uncalled b i r h
  number_uncalled b i (Y.AllocationsOf v) h = tt
  number_uncalled b i Y.OnCode h = tt

  pub numbers_uncalled : (b i : ℕ) (x : Y.Numbers)
      → N.EarlyNumbers b i x → P.AllowedNumbers NoCall x
  numbers_uncalled b i Y.NoNumber h = tt
  numbers_uncalled b i (Y.NumberThen first rest) h =
      (number_uncalled b i first h.0, numbers_uncalled b i rest h.1)

  pub text_uncalled : (b i : ℕ) (x : Y.Text) → N.EarlyText b i x → P.AllowedText NoCall x
  text_uncalled b i (Y.TextConstant bytes) h = tt
  text_uncalled b i (Y.TextIn r) h = reference_uncalled b i r h
  text_uncalled b i (Y.TextFrom c) h = absurd h
  text_uncalled b i (Y.TextOfNumber precision n) h = number_uncalled b i n h
  text_uncalled b i (Y.TextOfBit x) h = bit_uncalled b i x h
  text_uncalled b i (Y.Joined s t) h = (text_uncalled b i s h.0, text_uncalled b i t h.1)
  text_uncalled b i (Y.SubstringFrom t start) h = (text_uncalled b i t h.0, number_uncalled b i start h.1)
  text_uncalled b i (Y.Substring t start count) h =
      (text_uncalled b i t h.0, (number_uncalled b i start h.1.0, number_uncalled b i count h.1.1))

  pub bit_uncalled : (b i : ℕ) (x : Y.Bit) → N.EarlyBit b i x → P.AllowedBit NoCall x
  bit_uncalled b i (Y.BitConstant x) h = tt
  bit_uncalled b i (Y.BitIn r) h = reference_uncalled b i r h
  bit_uncalled b i (Y.BitFrom c) h = absurd h
  bit_uncalled b i (Y.BitOfText t) h = text_uncalled b i t h
  bit_uncalled b i (Y.Negated x) h = bit_uncalled b i x h
  bit_uncalled b i (Y.Combined op x y) h = (bit_uncalled b i x h.0, bit_uncalled b i y h.1)
  bit_uncalled b i (Y.NumbersCompared op x y) h = (number_uncalled b i x h.0, number_uncalled b i y h.1)
  bit_uncalled b i (Y.TextsCompared op x y) h = (text_uncalled b i x h.0, text_uncalled b i y h.1)
  bit_uncalled b i (Y.BitsCompared op x y) h = (bit_uncalled b i x h.0, bit_uncalled b i y h.1)
  bit_uncalled b i (Y.PointersCompared equal x y) h =
      (pointer_uncalled b i x h.0, pointer_uncalled b i y h.1)
  bit_uncalled b i (Y.OffsetsCompared equal x y) h = (offset_uncalled b i x h.0, offset_uncalled b i y h.1)

  pub pointer_uncalled : (b i : ℕ) (x : Y.Pointer)
      → N.EarlyPointer b i x → P.AllowedPointer NoCall x
  pointer_uncalled b i Y.NullPointer h = tt
  pointer_uncalled b i (Y.PointerIn r) h = reference_uncalled b i r h
  pointer_uncalled b i (Y.PointerFrom c) h = absurd h
  pointer_uncalled b i (Y.AddressOf r) h = reference_uncalled b i r h
  pointer_uncalled b i (Y.PointerInto o area) h = offset_uncalled b i o h.0

  pub offset_uncalled : (b i : ℕ) (x : Y.Offset)
      → N.EarlyOffset b i x → P.AllowedOffset NoCall x
  offset_uncalled b i Y.NullOffset h = tt
  offset_uncalled b i (Y.OffsetIn r) h = reference_uncalled b i r h
  offset_uncalled b i (Y.OffsetFrom c) h = absurd h
  offset_uncalled b i (Y.OffsetInto p area) h = pointer_uncalled b i p h.0

  pub reference_uncalled : (b i : ℕ) (x : Y.Reference)
      → N.EarlyReference b i x → P.AllowedReference NoCall x
  reference_uncalled b i (Y.Referring v locator part subscripts) h =
      (locator_uncalled b i locator h.1.0, numbers_uncalled b i subscripts h.1.1)

  pub locator_uncalled : (b i : ℕ) (x : Y.Locator)
      → N.EarlyLocator b i x → P.AllowedLocator NoCall x
  locator_uncalled b i Y.NotLocated h = tt
  locator_uncalled b i (Y.LocatedBy p) h = pointer_uncalled b i p h
