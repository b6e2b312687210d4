-- Which calls may be evaluated: any, or none, as in what is evaluated for extents.
use Rattle.std.specs.Prelude.{List, [], ◌∷◌, Option, Some, None, ⊤}
use Rattle.well_formed_trees.specs.Every.{Every}
use Rattle.pli_typing.specs.TypedTree as Y

pub data Calls : Type 0 where
  AnyCall NoCall : Calls

abbrev pub MayCall : Calls → Type 0
MayCall AnyCall = ⊤
MayCall NoCall = ⊥

abbrev mutual
  pub AllowedNumber : Calls → Y.Number → Type 0
  AllowedNumber k (Y.NumberConstant n) = ⊤
  AllowedNumber k (Y.NumberIn r) = AllowedReference k r
  AllowedNumber k (Y.NumberFrom c) = AllowedCall k c
  AllowedNumber k (Y.NumberOfText t) = AllowedText k t
  AllowedNumber k (Y.NumberOfBit b) = AllowedBit k b
  AllowedNumber k (Y.Signed sign n) = AllowedNumber k n
  AllowedNumber k (Y.Calculated op a b) = AllowedNumber k a × AllowedNumber k b
  AllowedNumber k (Y.Absolute n) = AllowedNumber k n
  AllowedNumber k (Y.SignOf n) = AllowedNumber k n
  AllowedNumber k (Y.Extreme which first more) = AllowedNumber k first × AllowedNumbers k more
  AllowedNumber k (Y.Modulo a b) = AllowedNumber k a × AllowedNumber k b
  AllowedNumber k (Y.Divided precision a b) = AllowedNumber k a × AllowedNumber k b
  AllowedNumber k (Y.LengthOf t) = AllowedText k t
  AllowedNumber k (Y.IndexOf a b) = AllowedText k a × AllowedText k b
  AllowedNumber k (Y.VerifyOf a b) = AllowedText k a × AllowedText k b
  AllowedNumber k (Y.LowerBound r dimension) = AllowedReference k r
  AllowedNumber k (Y.UpperBound r dimension) = AllowedReference k r
  AllowedNumber k (Y.ElementsOf r dimension) = AllowedReference k r
  AllowedNumber k (Y.AllocationsOf v) = ⊤
  AllowedNumber k Y.OnCode = ⊤

  pub AllowedNumbers : Calls → Y.Numbers → Type 0
  AllowedNumbers k Y.NoNumber = ⊤
  AllowedNumbers k (Y.NumberThen first rest) = AllowedNumber k first × AllowedNumbers k rest

  pub AllowedText : Calls → Y.Text → Type 0
  AllowedText k (Y.TextConstant bytes) = ⊤
  AllowedText k (Y.TextIn r) = AllowedReference k r
  AllowedText k (Y.TextFrom c) = AllowedCall k c
  AllowedText k (Y.TextOfNumber precision n) = AllowedNumber k n
  AllowedText k (Y.TextOfBit b) = AllowedBit k b
  AllowedText k (Y.Joined a b) = AllowedText k a × AllowedText k b
  AllowedText k (Y.SubstringFrom t start) = AllowedText k t × AllowedNumber k start
  AllowedText k (Y.Substring t start count) = AllowedText k t × (AllowedNumber k start × AllowedNumber k count)

  pub AllowedBit : Calls → Y.Bit → Type 0
  AllowedBit k (Y.BitConstant b) = ⊤
  AllowedBit k (Y.BitIn r) = AllowedReference k r
  AllowedBit k (Y.BitFrom c) = AllowedCall k c
  AllowedBit k (Y.BitOfText t) = AllowedText k t
  AllowedBit k (Y.Negated b) = AllowedBit k b
  AllowedBit k (Y.Combined op a b) = AllowedBit k a × AllowedBit k b
  AllowedBit k (Y.NumbersCompared op a b) = AllowedNumber k a × AllowedNumber k b
  AllowedBit k (Y.TextsCompared op a b) = AllowedText k a × AllowedText k b
  AllowedBit k (Y.BitsCompared op a b) = AllowedBit k a × AllowedBit k b
  AllowedBit k (Y.PointersCompared equal a b) = AllowedPointer k a × AllowedPointer k b
  AllowedBit k (Y.OffsetsCompared equal a b) = AllowedOffset k a × AllowedOffset k b

  pub AllowedPointer : Calls → Y.Pointer → Type 0
  AllowedPointer k Y.NullPointer = ⊤
  AllowedPointer k (Y.PointerIn r) = AllowedReference k r
  AllowedPointer k (Y.PointerFrom c) = AllowedCall k c
  AllowedPointer k (Y.AddressOf r) = AllowedReference k r
  AllowedPointer k (Y.PointerInto o area) = AllowedOffset k o

  pub AllowedOffset : Calls → Y.Offset → Type 0
  AllowedOffset k Y.NullOffset = ⊤
  AllowedOffset k (Y.OffsetIn r) = AllowedReference k r
  AllowedOffset k (Y.OffsetFrom c) = AllowedCall k c
  AllowedOffset k (Y.OffsetInto p area) = AllowedPointer k p

  pub AllowedReference : Calls → Y.Reference → Type 0
  AllowedReference k (Y.Referring v locator part subscripts) = AllowedLocator k locator × AllowedNumbers k subscripts

  pub AllowedLocator : Calls → Y.Locator → Type 0
  AllowedLocator k Y.NotLocated = ⊤
  AllowedLocator k (Y.LocatedBy p) = AllowedPointer k p

  pub AllowedCall : Calls → Y.Call → Type 0
  AllowedCall k (Y.Calling number level arguments) = MayCall k × AllowedArguments k arguments

  pub AllowedArgument : Calls → Y.Argument → Type 0
  AllowedArgument k (Y.ByReference r) = AllowedReference k r
  AllowedArgument k (Y.ByCopy type s) = AllowedStored k s
  AllowedArgument k (Y.ByOffsetInParameter p place) = AllowedPointer k p
  AllowedArgument k (Y.ByOffsetInAutomatic p) = AllowedPointer k p

  pub AllowedArguments : Calls → Y.Arguments → Type 0
  AllowedArguments k Y.NoArgument = ⊤
  AllowedArguments k (Y.ArgumentThen first rest) = AllowedArgument k first × AllowedArguments k rest

  pub AllowedStored : Calls → Y.Stored → Type 0
  AllowedStored k (Y.StoredNumber precision n) = AllowedNumber k n
  AllowedStored k (Y.StoredText t) = AllowedText k t
  AllowedStored k (Y.StoredBit b) = AllowedBit k b
  AllowedStored k (Y.StoredPointer p) = AllowedPointer k p
  AllowedStored k (Y.StoredOffset o) = AllowedOffset k o

-- what isn't a number, a text or a bit is written nowhere
abbrev pub AllowedValue : Calls → Y.Value → Type 0
AllowedValue k (Y.NumberValue precision n) = AllowedNumber k n
AllowedValue k (Y.TextValue t) = AllowedText k t
AllowedValue k (Y.BitValue b) = AllowedBit k b
AllowedValue k _ = ⊤

abbrev pub AllowedNumberIf : Calls → Option Y.Number → Type 0
AllowedNumberIf k None = ⊤
AllowedNumberIf k (Some n) = AllowedNumber k n

abbrev pub AllowedBitIf : Calls → Option Y.Bit → Type 0
AllowedBitIf k None = ⊤
AllowedBitIf k (Some b) = AllowedBit k b

abbrev pub AllowedCounter : Calls → Y.Counter → Type 0
AllowedCounter k (Y.NumberCounter precision r) = AllowedReference k r
AllowedCounter k (Y.TextCounter r) = AllowedReference k r

-- ---- ALLOCATE, FREE, GET and PUT

abbrev pub AllowedTarget : Calls → Y.LocatorTarget → Type 0
AllowedTarget k (Y.SetPointer r) = AllowedReference k r
AllowedTarget k (Y.SetOffset r area) = AllowedReference k r

abbrev pub AllowedAllocation : Calls → Y.Allocation → Type 0
AllowedAllocation k (Y.AllocateBased v area target) = AllowedTarget k target
AllowedAllocation k (Y.AllocateControlled v) = ⊤

abbrev pub AllowedFreeing : Calls → Y.Freeing → Type 0
AllowedFreeing k (Y.FreeBased v locator area) = AllowedPointer k locator
AllowedFreeing k (Y.FreeControlled v) = ⊤

abbrev pub AllowedGetItem : Calls → Y.GetItem → Type 0
AllowedGetItem k (Y.GetScalar r) = AllowedReference k r
AllowedGetItem k (Y.GetAggregate r) = AllowedReference k r

abbrev pub AllowedPutItem : Calls → Y.PutItem → Type 0
AllowedPutItem k (Y.PutValue v) = AllowedValue k v
AllowedPutItem k (Y.PutAggregate r) = AllowedReference k r

abbrev pub AllowedGetPair : Calls → Y.GetPair → Type 0
AllowedGetPair k p = Every (AllowedGetItem k) p.items

abbrev pub AllowedPutPair : Calls → Y.PutPair → Type 0
AllowedPutPair k p = Every (AllowedPutItem k) p.items

abbrev pub AllowedVariable : Calls → Y.DeclaredVariable → Type 0
AllowedVariable k d = Every (λ e. AllowedNumber k e.value) d.evaluations

-- ---- where any may be

mutual
  pub any_number : (x : Y.Number) → AllowedNumber AnyCall x
  any_number (Y.NumberConstant n) = tt
  any_number (Y.NumberIn r) = any_reference r
  any_number (Y.NumberFrom c) = any_call c
  any_number (Y.NumberOfText t) = any_text t
  any_number (Y.NumberOfBit b) = any_bit b
  any_number (Y.Signed sign n) = any_number n
  any_number (Y.Calculated op a b) = (any_number a, any_number b)
  any_number (Y.Absolute n) = any_number n
  any_number (Y.SignOf n) = any_number n
  any_number (Y.Extreme which first more) = (any_number first, any_numbers more)
  any_number (Y.Modulo a b) = (any_number a, any_number b)
  any_number (Y.Divided precision a b) = (any_number a, any_number b)
  any_number (Y.LengthOf t) = any_text t
  any_number (Y.IndexOf a b) = (any_text a, any_text b)
  any_number (Y.VerifyOf a b) = (any_text a, any_text b)
  any_number (Y.LowerBound r dimension) = any_reference r
  any_number (Y.UpperBound r dimension) = any_reference r
  any_number (Y.ElementsOf r dimension) = any_reference r
  any_number (Y.AllocationsOf v) = tt
  any_number Y.OnCode = tt

  any_numbers : (x : Y.Numbers) → AllowedNumbers AnyCall x
  any_numbers Y.NoNumber = tt
  any_numbers (Y.NumberThen first rest) = (any_number first, any_numbers rest)

  any_text : (x : Y.Text) → AllowedText AnyCall x
  any_text (Y.TextConstant bytes) = tt
  any_text (Y.TextIn r) = any_reference r
  any_text (Y.TextFrom c) = any_call c
  any_text (Y.TextOfNumber precision n) = any_number n
  any_text (Y.TextOfBit b) = any_bit b
  any_text (Y.Joined a b) = (any_text a, any_text b)
  any_text (Y.SubstringFrom t start) = (any_text t, any_number start)
  any_text (Y.Substring t start count) = (any_text t, (any_number start, any_number count))

  pub any_bit : (x : Y.Bit) → AllowedBit AnyCall x
  any_bit (Y.BitConstant b) = tt
  any_bit (Y.BitIn r) = any_reference r
  any_bit (Y.BitFrom c) = any_call c
  any_bit (Y.BitOfText t) = any_text t
  any_bit (Y.Negated b) = any_bit b
  any_bit (Y.Combined op a b) = (any_bit a, any_bit b)
  any_bit (Y.NumbersCompared op a b) = (any_number a, any_number b)
  any_bit (Y.TextsCompared op a b) = (any_text a, any_text b)
  any_bit (Y.BitsCompared op a b) = (any_bit a, any_bit b)
  any_bit (Y.PointersCompared equal a b) = (any_pointer a, any_pointer b)
  any_bit (Y.OffsetsCompared equal a b) = (any_offset a, any_offset b)

  any_pointer : (x : Y.Pointer) → AllowedPointer AnyCall x
  any_pointer Y.NullPointer = tt
  any_pointer (Y.PointerIn r) = any_reference r
  any_pointer (Y.PointerFrom c) = any_call c
  any_pointer (Y.AddressOf r) = any_reference r
  any_pointer (Y.PointerInto o area) = any_offset o

  any_offset : (x : Y.Offset) → AllowedOffset AnyCall x
  any_offset Y.NullOffset = tt
  any_offset (Y.OffsetIn r) = any_reference r
  any_offset (Y.OffsetFrom c) = any_call c
  any_offset (Y.OffsetInto p area) = any_pointer p

  pub any_reference : (x : Y.Reference) → AllowedReference AnyCall x
  any_reference (Y.Referring v locator part subscripts) = (any_locator locator, any_numbers subscripts)

  any_locator : (x : Y.Locator) → AllowedLocator AnyCall x
  any_locator Y.NotLocated = tt
  any_locator (Y.LocatedBy p) = any_pointer p

  pub any_call : (x : Y.Call) → AllowedCall AnyCall x
  any_call (Y.Calling number level arguments) = (tt, any_arguments arguments)

  any_argument : (x : Y.Argument) → AllowedArgument AnyCall x
  any_argument (Y.ByReference r) = any_reference r
  any_argument (Y.ByCopy type s) = any_stored s
  any_argument (Y.ByOffsetInParameter p place) = any_pointer p
  any_argument (Y.ByOffsetInAutomatic p) = any_pointer p

  any_arguments : (x : Y.Arguments) → AllowedArguments AnyCall x
  any_arguments Y.NoArgument = tt
  any_arguments (Y.ArgumentThen first rest) = (any_argument first, any_arguments rest)

  pub any_stored : (x : Y.Stored) → AllowedStored AnyCall x
  any_stored (Y.StoredNumber precision n) = any_number n
  any_stored (Y.StoredText t) = any_text t
  any_stored (Y.StoredBit b) = any_bit b
  any_stored (Y.StoredPointer p) = any_pointer p
  any_stored (Y.StoredOffset o) = any_offset o

pub any_value : (x : Y.Value) → AllowedValue AnyCall x
any_value (Y.NumberValue precision n) = any_number n
any_value (Y.TextValue t) = any_text t
any_value (Y.BitValue b) = any_bit b
any_value (Y.PointerValue p) = tt
any_value (Y.OffsetValue area o) = tt
any_value Y.NullValue = tt

pub any_number_if : (x : Option Y.Number) → AllowedNumberIf AnyCall x
any_number_if None = tt
any_number_if (Some n) = any_number n

pub any_bit_if : (x : Option Y.Bit) → AllowedBitIf AnyCall x
any_bit_if None = tt
any_bit_if (Some b) = any_bit b

pub any_counter : (x : Y.Counter) → AllowedCounter AnyCall x
any_counter (Y.NumberCounter precision r) = any_reference r
any_counter (Y.TextCounter r) = any_reference r

any_target : (x : Y.LocatorTarget) → AllowedTarget AnyCall x
any_target (Y.SetPointer r) = any_reference r
any_target (Y.SetOffset r area) = any_reference r

-- each of a list
any_each : {X : Type 0} (P : X → Type 0) → ((x : X) → P x) → (xs : List X) → Every P xs
any_each P f [] = tt
any_each P f (x ∷ xs) = (f x, any_each P f xs)

pub any_allocations : (xs : List Y.Allocation) → Every (AllowedAllocation AnyCall) xs
any_allocations xs = any_each (AllowedAllocation AnyCall) one xs
  where
    one : (x : Y.Allocation) → AllowedAllocation AnyCall x
    one (Y.AllocateBased v area target) = any_target target
    one (Y.AllocateControlled v) = tt

pub any_freeings : (xs : List Y.Freeing) → Every (AllowedFreeing AnyCall) xs
any_freeings xs = any_each (AllowedFreeing AnyCall) one xs
  where
    one : (x : Y.Freeing) → AllowedFreeing AnyCall x
    one (Y.FreeBased v locator area) = any_pointer locator
    one (Y.FreeControlled v) = tt

pub any_get : (xs : List Y.GetPair) → Every (AllowedGetPair AnyCall) xs
any_get xs = any_each (AllowedGetPair AnyCall) (λ p. any_each (AllowedGetItem AnyCall) one p.items) xs
  where
    one : (x : Y.GetItem) → AllowedGetItem AnyCall x
    one (Y.GetScalar r) = any_reference r
    one (Y.GetAggregate r) = any_reference r

pub any_put : (xs : List Y.PutPair) → Every (AllowedPutPair AnyCall) xs
any_put xs = any_each (AllowedPutPair AnyCall) (λ p. any_each (AllowedPutItem AnyCall) one p.items) xs
  where
    one : (x : Y.PutItem) → AllowedPutItem AnyCall x
    one (Y.PutValue v) = any_value v
    one (Y.PutAggregate r) = any_reference r
