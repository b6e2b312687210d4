-- A form takes no less than what is taken before it, and more behind more.
use Rattle.std.proofs.Common.{ℕ, ◌+◌, ◌≤◌, max, Bool, true, false, cond, arith}
use Rattle.pli_typing.specs.TypedTree as Y
use Rattle.pli_coding.specs.Environments.{Taken, with_words, with_number}
use Rattle.pli_coding.specs.Locating.{locator_words, is_found_first, behind_locator}
use Rattle.pli_coding.specs.Expressions.{list_words}
use Rattle.pli_coding.specs.Temporaries.{number_takes, numbers_take, text_takes, bit_takes, pointer_takes, offset_takes}
use Rattle.pli_coding.specs.Temporaries.{reference_takes, locator_takes, subscripts_take, call_takes, arguments_take}
use Rattle.pli_coding.specs.Temporaries.{argument_takes, stored_takes}
use Rattle.temporary_bounds.proofs.Takes.{Fewer, number_least, number_fewer, words_fewer, most_fewer}

-- ---- no less than before

mutual
  pub number_grows : (t : Taken) (x : Y.Number) → t.words ≤ (number_takes t x).words
  number_grows t (Y.NumberConstant n) = omega arith
  number_grows t (Y.NumberIn r) = reference_grows t r
  number_grows t (Y.NumberFrom c) = call_grows t c
  number_grows t (Y.NumberOfText x) = text_grows t x
  number_grows t (Y.NumberOfBit b) = bit_grows t b
  number_grows t (Y.Signed sign x) = let a = number_least t in omega (arith, a)
  number_grows t (Y.Calculated operator left right) = let a = number_grows t left in omega (arith, a)
  number_grows t (Y.Absolute x) = let a = number_least t in omega (arith, a)
  number_grows t (Y.SignOf x) = number_grows t x
  number_grows t (Y.Extreme extremum first more) = let a = number_grows t first in omega (arith, a)
  number_grows t (Y.Modulo dividend divisor) = let a = number_grows t dividend in omega (arith, a)
  number_grows t (Y.Divided precision dividend divisor) = let a = number_grows t dividend in omega (arith, a)
  number_grows t (Y.LengthOf x) = text_grows t x
  number_grows t (Y.IndexOf searched sought) = let a = text_grows t searched in omega (arith, a)
  number_grows t (Y.VerifyOf searched allowed) = let a = text_grows t searched in omega (arith, a)
  number_grows t (Y.LowerBound r dimension) = reference_grows t r
  number_grows t (Y.UpperBound r dimension) = reference_grows t r
  number_grows t (Y.ElementsOf r dimension) = let a = number_least t in omega (arith, a)
  number_grows t (Y.AllocationsOf v) = omega arith
  number_grows t Y.OnCode = omega arith

  pub numbers_grow : (t : Taken) (x : Y.Numbers) → t.words ≤ (numbers_take t x).words
  numbers_grow t Y.NoNumber = omega arith
  numbers_grow t (Y.NumberThen first rest) = let a = number_grows t first in omega (arith, a)

  pub text_grows : (t : Taken) (x : Y.Text) → t.words ≤ (text_takes t x).words
  text_grows t (Y.TextConstant bytes) = omega arith
  text_grows t (Y.TextIn r) = reference_grows t r
  text_grows t (Y.TextFrom c) = call_grows t c
  text_grows t (Y.TextOfNumber precision x) = number_grows t x
  text_grows t (Y.TextOfBit b) = bit_grows t b
  text_grows t (Y.Joined left right) = let a = text_grows t left in omega (arith, a)
  text_grows t (Y.SubstringFrom x start) = let a = text_grows t x in omega (arith, a)
  text_grows t (Y.Substring x start count) = let a = text_grows t x in omega (arith, a)

  pub bit_grows : (t : Taken) (x : Y.Bit) → t.words ≤ (bit_takes t x).words
  bit_grows t (Y.BitConstant b) = omega arith
  bit_grows t (Y.BitIn r) = reference_grows t r
  bit_grows t (Y.BitFrom c) = call_grows t c
  bit_grows t (Y.BitOfText x) = text_grows t x
  bit_grows t (Y.Negated x) = bit_grows t x
  bit_grows t (Y.Combined operator left right) = let a = bit_grows t left in omega (arith, a)
  bit_grows t (Y.NumbersCompared comparison left right) = let a = number_grows t left in omega (arith, a)
  bit_grows t (Y.TextsCompared comparison left right) = let a = text_grows t left in omega (arith, a)
  bit_grows t (Y.BitsCompared comparison left right) = let a = bit_grows t left in omega (arith, a)
  bit_grows t (Y.PointersCompared equal left right) = let a = pointer_grows t left in omega (arith, a)
  bit_grows t (Y.OffsetsCompared equal left right) = let a = offset_grows t left in omega (arith, a)

  pub pointer_grows : (t : Taken) (x : Y.Pointer) → t.words ≤ (pointer_takes t x).words
  pointer_grows t Y.NullPointer = omega arith
  pointer_grows t (Y.PointerIn r) = omega arith
  pointer_grows t (Y.PointerFrom c) = omega arith
  pointer_grows t (Y.AddressOf r) = omega arith
  pointer_grows t (Y.PointerInto x area) = omega arith

  pub offset_grows : (t : Taken) (x : Y.Offset) → t.words ≤ (offset_takes t x).words
  offset_grows t Y.NullOffset = omega arith
  offset_grows t (Y.OffsetIn r) = reference_grows t r
  offset_grows t (Y.OffsetFrom c) = call_grows t c
  offset_grows t (Y.OffsetInto x area) = pointer_grows t x

  pub reference_grows : (t : Taken) (x : Y.Reference) → t.words ≤ (reference_takes t x).words
  reference_grows t (Y.Referring v locator part subscripts) = let a = locator_grows t locator in omega (arith, a)

  pub locator_grows : (t : Taken) (x : Y.Locator) → t.words ≤ (locator_takes t x).words
  locator_grows t Y.NotLocated = omega arith
  locator_grows t (Y.LocatedBy p) = pointer_grows t p

  pub subscripts_grow : (t : Taken) (x : Y.Numbers) → t.words ≤ (subscripts_take t x).words
  subscripts_grow t Y.NoNumber = omega arith
  subscripts_grow t (Y.NumberThen first rest) = let a = number_grows t first in omega (arith, a)

  pub call_grows : (t : Taken) (x : Y.Call) → t.words ≤ (call_takes t x).words
  call_grows t (Y.Calling procedure level as') =
      let a = arguments_grow (with_words (list_words as') t) as' in omega (arith, a)

  pub arguments_grow : (t : Taken) (x : Y.Arguments) → t.words ≤ (arguments_take t x).words
  arguments_grow t Y.NoArgument = omega arith
  arguments_grow t (Y.ArgumentThen first rest) = let a = argument_grows t first in omega (arith, a)

  pub argument_grows : (t : Taken) (x : Y.Argument) → t.words ≤ (argument_takes t x).words
  argument_grows t (Y.ByReference r) = reference_grows t r
  argument_grows t (Y.ByCopy type v) = stored_grows t v
  argument_grows t (Y.ByOffsetInParameter p parameter) = pointer_grows t p
  argument_grows t (Y.ByOffsetInAutomatic p) = pointer_grows t p

  pub stored_grows : (t : Taken) (x : Y.Stored) → t.words ≤ (stored_takes t x).words
  stored_grows t (Y.StoredNumber precision x) = let a = number_least t in omega (arith, a)
  stored_grows t (Y.StoredText x) = text_grows t x
  stored_grows t (Y.StoredBit x) = bit_grows t x
  stored_grows t (Y.StoredPointer x) = pointer_grows t x
  stored_grows t (Y.StoredOffset x) = offset_grows t x

-- ---- more behind more

locator_fewer_by : (q : Bool) (t u : Taken) → Fewer t u
    → Fewer (cond q (with_words locator_words t) t) (cond q (with_words locator_words u) u)
locator_fewer_by true t u less = words_fewer locator_words t u less
locator_fewer_by false t u less = less

pub locator_fewer : (v : Y.Variable) (t u : Taken) → Fewer t u → Fewer (behind_locator v t) (behind_locator v u)
locator_fewer v t u less = locator_fewer_by (is_found_first v.class) t u less

mutual
  pub number_takes_more : (t u : Taken) → Fewer t u → (x : Y.Number) → Fewer (number_takes t x) (number_takes u x)
  number_takes_more t u less (Y.NumberConstant n) = less
  number_takes_more t u less (Y.NumberIn r) = reference_takes_more t u less r
  number_takes_more t u less (Y.NumberFrom c) = call_takes_more t u less c
  number_takes_more t u less (Y.NumberOfText x) = text_takes_more t u less x
  number_takes_more t u less (Y.NumberOfBit b) = bit_takes_more t u less b
  number_takes_more t u less (Y.Signed sign x) =
      most_fewer _ _ _ _ (number_fewer t u less) (number_takes_more t u less x)
  number_takes_more t u less (Y.Calculated operator left right) =
      most_fewer _ _ _ _ (number_takes_more t u less left) (number_takes_more _ _ (number_fewer t u less) right)
  number_takes_more t u less (Y.Absolute x) = most_fewer _ _ _ _ (number_fewer t u less) (number_takes_more t u less x)
  number_takes_more t u less (Y.SignOf x) = number_takes_more t u less x
  number_takes_more t u less (Y.Extreme extremum first more) =
      most_fewer _ _ _ _ (number_takes_more t u less first) (numbers_take_more _ _ (number_fewer t u less) more)
  number_takes_more t u less (Y.Modulo dividend divisor) =
      most_fewer _ _ _ _ (number_takes_more t u less dividend) (number_takes_more _ _ (number_fewer t u less) divisor)
  number_takes_more t u less (Y.Divided precision dividend divisor) =
      most_fewer _ _ _ _ (number_takes_more t u less dividend) (number_takes_more _ _ (number_fewer t u less) divisor)
  number_takes_more t u less (Y.LengthOf x) = text_takes_more t u less x
  number_takes_more t u less (Y.IndexOf searched sought) =
      most_fewer _ _ _ _ (text_takes_more t u less searched) (text_takes_more t u less sought)
  number_takes_more t u less (Y.VerifyOf searched allowed) =
      most_fewer _ _ _ _ (text_takes_more t u less searched) (text_takes_more t u less allowed)
  number_takes_more t u less (Y.LowerBound r dimension) = reference_takes_more t u less r
  number_takes_more t u less (Y.UpperBound r dimension) = reference_takes_more t u less r
  number_takes_more t u less (Y.ElementsOf r dimension) =
      most_fewer _ _ _ _ (number_fewer t u less) (reference_takes_more t u less r)
  number_takes_more t u less (Y.AllocationsOf v) = less
  number_takes_more t u less Y.OnCode = less

  pub numbers_take_more : (t u : Taken) → Fewer t u → (x : Y.Numbers) → Fewer (numbers_take t x) (numbers_take u x)
  numbers_take_more t u less Y.NoNumber = less
  numbers_take_more t u less (Y.NumberThen first rest) =
      most_fewer _ _ _ _ (number_takes_more t u less first) (numbers_take_more t u less rest)

  pub text_takes_more : (t u : Taken) → Fewer t u → (x : Y.Text) → Fewer (text_takes t x) (text_takes u x)
  text_takes_more t u less (Y.TextConstant bytes) = less
  text_takes_more t u less (Y.TextIn r) = reference_takes_more t u less r
  text_takes_more t u less (Y.TextFrom c) = call_takes_more t u less c
  text_takes_more t u less (Y.TextOfNumber precision x) = number_takes_more t u less x
  text_takes_more t u less (Y.TextOfBit b) = bit_takes_more t u less b
  text_takes_more t u less (Y.Joined left right) =
      most_fewer _ _ _ _ (text_takes_more t u less left) (text_takes_more t u less right)
  text_takes_more t u less (Y.SubstringFrom x start) =
      most_fewer _ _ _ _ (text_takes_more t u less x) (number_takes_more t u less start)
  text_takes_more t u less (Y.Substring x start count) =
      most_fewer _ _ _ _ (text_takes_more t u less x)
      (most_fewer _ _ _ _ (number_takes_more t u less start) (number_takes_more _ _ (number_fewer t u less) count))

  pub bit_takes_more : (t u : Taken) → Fewer t u → (x : Y.Bit) → Fewer (bit_takes t x) (bit_takes u x)
  bit_takes_more t u less (Y.BitConstant b) = less
  bit_takes_more t u less (Y.BitIn r) = reference_takes_more t u less r
  bit_takes_more t u less (Y.BitFrom c) = call_takes_more t u less c
  bit_takes_more t u less (Y.BitOfText x) = text_takes_more t u less x
  bit_takes_more t u less (Y.Negated x) = bit_takes_more t u less x
  bit_takes_more t u less (Y.Combined operator left right) =
      most_fewer _ _ _ _ (bit_takes_more t u less left) (bit_takes_more _ _ (number_fewer t u less) right)
  bit_takes_more t u less (Y.NumbersCompared comparison left right) =
      most_fewer _ _ _ _ (number_takes_more t u less left) (number_takes_more _ _ (number_fewer t u less) right)
  bit_takes_more t u less (Y.TextsCompared comparison left right) =
      most_fewer _ _ _ _ (text_takes_more t u less left) (text_takes_more t u less right)
  bit_takes_more t u less (Y.BitsCompared comparison left right) =
      most_fewer _ _ _ _ (bit_takes_more t u less left) (bit_takes_more _ _ (number_fewer t u less) right)
  bit_takes_more t u less (Y.PointersCompared equal left right) =
      most_fewer _ _ _ _ (pointer_takes_more t u less left) (pointer_takes_more _ _ (words_fewer 4 t u less) right)
  bit_takes_more t u less (Y.OffsetsCompared equal left right) =
      most_fewer _ _ _ _ (offset_takes_more t u less left) (offset_takes_more _ _ (number_fewer t u less) right)

  pub pointer_takes_more : (t u : Taken) → Fewer t u → (x : Y.Pointer) → Fewer (pointer_takes t x) (pointer_takes u x)
  pointer_takes_more t u less Y.NullPointer = words_fewer 4 t u less
  pointer_takes_more t u less (Y.PointerIn r) =
      most_fewer _ _ _ _ (words_fewer 4 t u less) (reference_takes_more t u less r)
  pointer_takes_more t u less (Y.PointerFrom c) =
      most_fewer _ _ _ _ (words_fewer 4 t u less) (call_takes_more t u less c)
  pointer_takes_more t u less (Y.AddressOf r) =
      most_fewer _ _ _ _ (words_fewer 4 t u less) (reference_takes_more t u less r)
  pointer_takes_more t u less (Y.PointerInto x area) =
      most_fewer _ _ _ _ (words_fewer 4 t u less) (offset_takes_more t u less x)

  pub offset_takes_more : (t u : Taken) → Fewer t u → (x : Y.Offset) → Fewer (offset_takes t x) (offset_takes u x)
  offset_takes_more t u less Y.NullOffset = less
  offset_takes_more t u less (Y.OffsetIn r) = reference_takes_more t u less r
  offset_takes_more t u less (Y.OffsetFrom c) = call_takes_more t u less c
  offset_takes_more t u less (Y.OffsetInto x area) = pointer_takes_more t u less x

  pub reference_takes_more : (t u : Taken) → Fewer t u → (x : Y.Reference)
      → Fewer (reference_takes t x) (reference_takes u x)
  reference_takes_more t u less (Y.Referring v locator part subscripts) =
      most_fewer _ _ _ _ (locator_takes_more t u less locator)
      (subscripts_take_more _ _ (locator_fewer v t u less) subscripts)

  pub locator_takes_more : (t u : Taken) → Fewer t u → (x : Y.Locator) → Fewer (locator_takes t x) (locator_takes u x)
  locator_takes_more t u less Y.NotLocated = less
  locator_takes_more t u less (Y.LocatedBy p) = pointer_takes_more t u less p

  pub subscripts_take_more : (t u : Taken) → Fewer t u → (x : Y.Numbers)
      → Fewer (subscripts_take t x) (subscripts_take u x)
  subscripts_take_more t u less Y.NoNumber = less
  subscripts_take_more t u less (Y.NumberThen first rest) =
      most_fewer _ _ _ _ (number_takes_more t u less first) (subscripts_take_more _ _ (number_fewer t u less) rest)

  pub call_takes_more : (t u : Taken) → Fewer t u → (x : Y.Call) → Fewer (call_takes t x) (call_takes u x)
  call_takes_more t u less (Y.Calling procedure level as') =
      arguments_take_more _ _ (words_fewer (list_words as') t u less) as'

  pub arguments_take_more : (t u : Taken) → Fewer t u → (x : Y.Arguments)
      → Fewer (arguments_take t x) (arguments_take u x)
  arguments_take_more t u less Y.NoArgument = less
  arguments_take_more t u less (Y.ArgumentThen first rest) =
      most_fewer _ _ _ _ (argument_takes_more t u less first) (arguments_take_more t u less rest)

  pub argument_takes_more : (t u : Taken) → Fewer t u → (x : Y.Argument)
      → Fewer (argument_takes t x) (argument_takes u x)
  argument_takes_more t u less (Y.ByReference r) = reference_takes_more t u less r
  argument_takes_more t u less (Y.ByCopy type v) = stored_takes_more t u less v
  argument_takes_more t u less (Y.ByOffsetInParameter p parameter) = pointer_takes_more t u less p
  argument_takes_more t u less (Y.ByOffsetInAutomatic p) = pointer_takes_more t u less p

  pub stored_takes_more : (t u : Taken) → Fewer t u → (x : Y.Stored) → Fewer (stored_takes t x) (stored_takes u x)
  stored_takes_more t u less (Y.StoredNumber precision x) =
      most_fewer _ _ _ _ (number_fewer t u less) (number_takes_more t u less x)
  stored_takes_more t u less (Y.StoredText x) = text_takes_more t u less x
  stored_takes_more t u less (Y.StoredBit x) = bit_takes_more t u less x
  stored_takes_more t u less (Y.StoredPointer x) = pointer_takes_more t u less x
  stored_takes_more t u less (Y.StoredOffset x) = offset_takes_more t u less x
