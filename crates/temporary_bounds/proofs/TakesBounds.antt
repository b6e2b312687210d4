-- A form takes no more words than its bound, behind those that are taken already.
use Rattle.std.proofs.Common.{◌≡◌, ℕ, suc, ◌+◌, ◌≤◌, max, Bool, true, false, cond, arith}
use Rattle.pli_typing.specs.TypedTree as Y
use Rattle.pli_coding.specs.Environments.{Taken, with_words, with_number}
use Rattle.pli_coding.specs.Locating.{locator_words, is_found_first, behind_locator}
use Rattle.pli_coding.specs.Expressions.{list_words}
use Rattle.pli_coding.specs.Temporaries.{number_takes, numbers_take, text_takes, bit_takes, pointer_takes, offset_takes}
use Rattle.pli_coding.specs.Temporaries.{reference_takes, locator_takes, subscripts_take, call_takes, arguments_take}
use Rattle.pli_coding.specs.Temporaries.{argument_takes, stored_takes}
use Rattle.temporary_bounds.specs.WordBounds.{number_words, numbers_words, text_words, bit_words, pointer_words, offset_words}
use Rattle.temporary_bounds.specs.WordBounds.{reference_words, locator_value_words, subscripts_words, call_words}
use Rattle.temporary_bounds.specs.WordBounds.{located_words}
use Rattle.temporary_bounds.specs.WordBounds.{arguments_words, argument_words, stored_words}
use Rattle.temporary_bounds.proofs.Takes.{number_most}

locator_words_by : (q : Bool) (t : Taken)
    → (cond q (with_words locator_words t) t).words ≡ t.words + cond q locator_words 0
locator_words_by true t = omega arith
locator_words_by false t = omega arith

pub locator_words_are : (v : Y.Variable) (t : Taken) → (behind_locator v t).words ≡ t.words + located_words v
locator_words_are v t = locator_words_by (is_found_first v.class) t

mutual
  pub number_bound : (t : Taken) (x : Y.Number) → (number_takes t x).words ≤ t.words + number_words x
  number_bound t (Y.NumberConstant n) = omega arith
  number_bound t (Y.NumberIn r) = reference_bound t r
  number_bound t (Y.NumberFrom c) = call_bound t c
  number_bound t (Y.NumberOfText x) = text_bound t x
  number_bound t (Y.NumberOfBit b) = bit_bound t b
  number_bound t (Y.Signed sign x) = let m = number_most t in let a = number_bound t x in omega (arith, m, a)
  number_bound t (Y.Calculated operator left right) =
      let m = number_most t in
      let a = number_bound t left in
      let b = number_bound (with_number t) right in
      omega (arith, m, a, b)
  number_bound t (Y.Absolute x) = let m = number_most t in let a = number_bound t x in omega (arith, m, a)
  number_bound t (Y.SignOf x) = number_bound t x
  number_bound t (Y.Extreme extremum first more) =
      let m = number_most t in
      let a = number_bound t first in
      let b = numbers_bound (with_number t) more in
      omega (arith, m, a, b)
  number_bound t (Y.Modulo dividend divisor) =
      let m = number_most t in
      let a = number_bound t dividend in
      let b = number_bound (with_number t) divisor in
      omega (arith, m, a, b)
  number_bound t (Y.Divided precision dividend divisor) =
      let m = number_most t in
      let a = number_bound t dividend in
      let b = number_bound (with_number t) divisor in
      omega (arith, m, a, b)
  number_bound t (Y.LengthOf x) = text_bound t x
  number_bound t (Y.IndexOf searched sought) =
      let a = text_bound t searched in let b = text_bound t sought in omega (arith, a, b)
  number_bound t (Y.VerifyOf searched allowed) =
      let a = text_bound t searched in let b = text_bound t allowed in omega (arith, a, b)
  number_bound t (Y.LowerBound r dimension) = reference_bound t r
  number_bound t (Y.UpperBound r dimension) = reference_bound t r
  number_bound t (Y.ElementsOf r dimension) =
      let m = number_most t in let a = reference_bound t r in omega (arith, m, a)
  number_bound t (Y.AllocationsOf v) = omega arith
  number_bound t Y.OnCode = omega arith

  pub numbers_bound : (t : Taken) (x : Y.Numbers) → (numbers_take t x).words ≤ t.words + numbers_words x
  numbers_bound t Y.NoNumber = omega arith
  numbers_bound t (Y.NumberThen first rest) =
      let a = number_bound t first in let b = numbers_bound t rest in omega (arith, a, b)

  pub text_bound : (t : Taken) (x : Y.Text) → (text_takes t x).words ≤ t.words + text_words x
  text_bound t (Y.TextConstant bytes) = omega arith
  text_bound t (Y.TextIn r) = reference_bound t r
  text_bound t (Y.TextFrom c) = call_bound t c
  text_bound t (Y.TextOfNumber precision x) = number_bound t x
  text_bound t (Y.TextOfBit b) = bit_bound t b
  text_bound t (Y.Joined left right) = let a = text_bound t left in let b = text_bound t right in omega (arith, a, b)
  text_bound t (Y.SubstringFrom x start) = let a = text_bound t x in let b = number_bound t start in omega (arith, a, b)
  text_bound t (Y.Substring x start count) =
      let m = number_most t in
      let a = text_bound t x in
      let b = number_bound t start in
      let c = number_bound (with_number t) count in
      omega (arith, m, a, b, c)

  pub bit_bound : (t : Taken) (x : Y.Bit) → (bit_takes t x).words ≤ t.words + bit_words x
  bit_bound t (Y.BitConstant b) = omega arith
  bit_bound t (Y.BitIn r) = reference_bound t r
  bit_bound t (Y.BitFrom c) = call_bound t c
  bit_bound t (Y.BitOfText x) = text_bound t x
  bit_bound t (Y.Negated x) = bit_bound t x
  bit_bound t (Y.Combined operator left right) =
      let m = number_most t in
      let a = bit_bound t left in
      let b = bit_bound (with_number t) right in
      omega (arith, m, a, b)
  bit_bound t (Y.NumbersCompared comparison left right) =
      let m = number_most t in
      let a = number_bound t left in
      let b = number_bound (with_number t) right in
      omega (arith, m, a, b)
  bit_bound t (Y.TextsCompared comparison left right) =
      let a = text_bound t left in let b = text_bound t right in omega (arith, a, b)
  bit_bound t (Y.BitsCompared comparison left right) =
      let m = number_most t in
      let a = bit_bound t left in
      let b = bit_bound (with_number t) right in
      omega (arith, m, a, b)
  bit_bound t (Y.PointersCompared equal left right) =
      let a = pointer_bound t left in
      let b = pointer_bound (with_words 4 t) right in
      omega (arith, a, b)
  bit_bound t (Y.OffsetsCompared equal left right) =
      let m = number_most t in
      let a = offset_bound t left in
      let b = offset_bound (with_number t) right in
      omega (arith, m, a, b)

  pub pointer_bound : (t : Taken) (x : Y.Pointer) → (pointer_takes t x).words ≤ t.words + pointer_words x
  pointer_bound t Y.NullPointer = omega arith
  pointer_bound t (Y.PointerIn r) = let a = reference_bound t r in omega (arith, a)
  pointer_bound t (Y.PointerFrom c) = let a = call_bound t c in omega (arith, a)
  pointer_bound t (Y.AddressOf r) = let a = reference_bound t r in omega (arith, a)
  pointer_bound t (Y.PointerInto x area) = let a = offset_bound t x in omega (arith, a)

  pub offset_bound : (t : Taken) (x : Y.Offset) → (offset_takes t x).words ≤ t.words + offset_words x
  offset_bound t Y.NullOffset = omega arith
  offset_bound t (Y.OffsetIn r) = reference_bound t r
  offset_bound t (Y.OffsetFrom c) = call_bound t c
  offset_bound t (Y.OffsetInto x area) = pointer_bound t x

  pub reference_bound : (t : Taken) (x : Y.Reference) → (reference_takes t x).words ≤ t.words + reference_words x
  reference_bound t (Y.Referring v locator part subscripts) =
      let a = locator_bound t locator in
      let b = subscripts_bound (behind_locator v t) subscripts in
      let c = locator_words_are v t in
      omega (arith, a, b, c)

  pub locator_bound : (t : Taken) (x : Y.Locator) → (locator_takes t x).words ≤ t.words + locator_value_words x
  locator_bound t Y.NotLocated = omega arith
  locator_bound t (Y.LocatedBy p) = pointer_bound t p

  pub subscripts_bound : (t : Taken) (x : Y.Numbers) → (subscripts_take t x).words ≤ t.words + subscripts_words x
  subscripts_bound t Y.NoNumber = omega arith
  subscripts_bound t (Y.NumberThen first rest) =
      let m = number_most t in
      let a = number_bound t first in
      let b = subscripts_bound (with_number t) rest in
      omega (arith, m, a, b)

  pub call_bound : (t : Taken) (x : Y.Call) → (call_takes t x).words ≤ t.words + call_words x
  call_bound t (Y.Calling procedure level as') =
      let a = arguments_bound (with_words (list_words as') t) as' in omega (arith, a)

  pub arguments_bound : (t : Taken) (x : Y.Arguments) → (arguments_take t x).words ≤ t.words + arguments_words x
  arguments_bound t Y.NoArgument = omega arith
  arguments_bound t (Y.ArgumentThen first rest) =
      let a = argument_bound t first in let b = arguments_bound t rest in omega (arith, a, b)

  pub argument_bound : (t : Taken) (x : Y.Argument) → (argument_takes t x).words ≤ t.words + argument_words x
  argument_bound t (Y.ByReference r) = reference_bound t r
  argument_bound t (Y.ByCopy type v) = stored_bound t v
  argument_bound t (Y.ByOffsetInParameter p parameter) = pointer_bound t p
  argument_bound t (Y.ByOffsetInAutomatic p) = pointer_bound t p

  pub stored_bound : (t : Taken) (x : Y.Stored) → (stored_takes t x).words ≤ t.words + stored_words x
  stored_bound t (Y.StoredNumber precision x) = let m = number_most t in let a = number_bound t x in omega (arith, m, a)
  stored_bound t (Y.StoredText x) = text_bound t x
  stored_bound t (Y.StoredBit x) = bit_bound t x
  stored_bound t (Y.StoredPointer x) = pointer_bound t x
  stored_bound t (Y.StoredOffset x) = offset_bound t x
