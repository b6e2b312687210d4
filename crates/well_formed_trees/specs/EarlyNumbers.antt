-- Numbers that can be had before a variable is made: no function is called in them, and no AUTOMATIC variable of the
-- block is named that isn't made yet.
use Rattle.std.specs.Prelude.{◌≡◌, ℕ, ◌<◌, ⊤}
use Rattle.pli_typing.specs.TypedTree as Y
use Rattle.well_formed_trees.specs.Surroundings.{Where, number_here}

-- a variable of another block or class, or one before the place
abbrev pub IsMade : (block index : ℕ) → Y.Variable → Type 0
IsMade block index v = (v.class ≡ Y.AutomaticClass) → (v.block ≡ block) → v.index < index

abbrev mutual
  pub Early : (block index : ℕ) → Y.Number → Type 0
  Early b i (Y.NumberConstant n) = ⊤
  Early b i (Y.NumberIn r) = EarlyReference b i r
  Early b i (Y.NumberFrom c) = ⊥
  Early b i (Y.NumberOfText t) = EarlyText b i t
  Early b i (Y.NumberOfBit x) = EarlyBit b i x
  Early b i (Y.Signed sign n) = Early b i n
  Early b i (Y.Calculated op x y) = Early b i x × Early b i y
  Early b i (Y.Absolute n) = Early b i n
  Early b i (Y.SignOf n) = Early b i n
  Early b i (Y.Extreme which first more) = Early b i first × EarlyNumbers b i more
  Early b i (Y.Modulo x y) = Early b i x × Early b i y
  Early b i (Y.Divided precision x y) = Early b i x × Early b i y
  Early b i (Y.LengthOf t) = EarlyText b i t
  Early b i (Y.IndexOf s t) = EarlyText b i s × EarlyText b i t
  Early b i (Y.VerifyOf s t) = EarlyText b i s × EarlyText b i t
  Early b i (Y.LowerBound r dimension) = EarlyReference b i r
  Early b i (Y.UpperBound r dimension) = EarlyReference b i r
  Early b i (Y.ElementsOf r dimension) = EarlyReference b i r
  Early b i (Y.AllocationsOf v) = ⊤
  Early b i Y.OnCode = ⊤

  pub EarlyNumbers : (block index : ℕ) → Y.Numbers → Type 0
  EarlyNumbers b i Y.NoNumber = ⊤
  EarlyNumbers b i (Y.NumberThen first rest) = Early b i first × EarlyNumbers b i rest

  pub EarlyText : (block index : ℕ) → Y.Text → Type 0
  EarlyText b i (Y.TextConstant bytes) = ⊤
  EarlyText b i (Y.TextIn r) = EarlyReference b i r
  EarlyText b i (Y.TextFrom c) = ⊥
  EarlyText b i (Y.TextOfNumber precision n) = Early b i n
  EarlyText b i (Y.TextOfBit x) = EarlyBit b i x
  EarlyText b i (Y.Joined s t) = EarlyText b i s × EarlyText b i t
  EarlyText b i (Y.SubstringFrom t start) = EarlyText b i t × Early b i start
  EarlyText b i (Y.Substring t start count) = EarlyText b i t × (Early b i start × Early b i count)

  pub EarlyBit : (block index : ℕ) → Y.Bit → Type 0
  EarlyBit b i (Y.BitConstant x) = ⊤
  EarlyBit b i (Y.BitIn r) = EarlyReference b i r
  EarlyBit b i (Y.BitFrom c) = ⊥
  EarlyBit b i (Y.BitOfText t) = EarlyText b i t
  EarlyBit b i (Y.Negated x) = EarlyBit b i x
  EarlyBit b i (Y.Combined op x y) = EarlyBit b i x × EarlyBit b i y
  EarlyBit b i (Y.NumbersCompared op x y) = Early b i x × Early b i y
  EarlyBit b i (Y.TextsCompared op x y) = EarlyText b i x × EarlyText b i y
  EarlyBit b i (Y.BitsCompared op x y) = EarlyBit b i x × EarlyBit b i y
  EarlyBit b i (Y.PointersCompared equal x y) = EarlyPointer b i x × EarlyPointer b i y
  EarlyBit b i (Y.OffsetsCompared equal x y) = EarlyOffset b i x × EarlyOffset b i y

  pub EarlyPointer : (block index : ℕ) → Y.Pointer → Type 0
  EarlyPointer b i Y.NullPointer = ⊤
  EarlyPointer b i (Y.PointerIn r) = EarlyReference b i r
  EarlyPointer b i (Y.PointerFrom c) = ⊥
  EarlyPointer b i (Y.AddressOf r) = EarlyReference b i r
  EarlyPointer b i (Y.PointerInto o area) = EarlyOffset b i o × IsMade b i area

  pub EarlyOffset : (block index : ℕ) → Y.Offset → Type 0
  EarlyOffset b i Y.NullOffset = ⊤
  EarlyOffset b i (Y.OffsetIn r) = EarlyReference b i r
  EarlyOffset b i (Y.OffsetFrom c) = ⊥
  EarlyOffset b i (Y.OffsetInto p area) = EarlyPointer b i p × IsMade b i area

  pub EarlyReference : (block index : ℕ) → Y.Reference → Type 0
  EarlyReference b i (Y.Referring v locator part subscripts) =
      IsMade b i v × (EarlyLocator b i locator × EarlyNumbers b i subscripts)

  pub EarlyLocator : (block index : ℕ) → Y.Locator → Type 0
  EarlyLocator b i Y.NotLocated = ⊤
  EarlyLocator b i (Y.LocatedBy p) = EarlyPointer b i p

-- in the block that is innermost there
abbrev pub IsEarly : Where → (index : ℕ) → Y.Number → Type 0
IsEarly w index n = Early (number_here w.around) index n
