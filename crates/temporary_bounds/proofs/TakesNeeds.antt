-- A form takes as many words as its bound counts, but for those numbers that registers hold.
use Rattle.std.proofs.Common.{◌≡◌, ℕ, suc, ◌+◌, ◌-◌, ◌≤◌, max, Bool, true, false, cond, refl, arith}
use Rattle.pli_typing.specs.TypedTree as Y
use Rattle.pli_coding.specs.Environments.{Taken, with_words, with_number}
use Rattle.pli_coding.specs.Locating.{locator_words, is_found_first, behind_locator}
use Rattle.pli_coding.specs.Expressions.{list_words}
use Rattle.pli_coding.specs.Temporaries.{number_takes, numbers_take, text_takes, bit_takes, pointer_takes, offset_takes}
use Rattle.pli_coding.specs.Temporaries.{reference_takes, locator_takes, subscripts_take, call_takes, arguments_take}
use Rattle.pli_coding.specs.Temporaries.{argument_takes, stored_takes}
use Rattle.temporary_bounds.specs.WordBounds.{number_words, numbers_words, text_words, bit_words, pointer_words, offset_words}
use Rattle.temporary_bounds.specs.WordBounds.{reference_words, locator_value_words, subscripts_words, call_words}
use Rattle.temporary_bounds.specs.WordBounds.{located_words}
use Rattle.temporary_bounds.specs.WordBounds.{arguments_words, argument_words, stored_words}
use Rattle.temporary_bounds.specs.Spare.{spare}
use Rattle.temporary_bounds.proofs.Takes.{number_counts}
use Rattle.temporary_bounds.proofs.TakesBounds.{locator_words_are}

locator_spares_by : (q : Bool) (t : Taken) → spare (cond q (with_words locator_words t) t) ≡ spare t
locator_spares_by true t = refl
locator_spares_by false t = refl

pub locator_spares : (v : Y.Variable) (t : Taken) → spare (behind_locator v t) ≡ spare t
locator_spares v t = locator_spares_by (is_found_first v.class) t

mutual
  pub number_needs : (t : Taken) (x : Y.Number) → t.words + number_words x ≤ (number_takes t x).words + spare t
  number_needs t (Y.NumberConstant n) = omega arith
  number_needs t (Y.NumberIn r) = reference_needs t r
  number_needs t (Y.NumberFrom c) = call_needs t c
  number_needs t (Y.NumberOfText x) = text_needs t x
  number_needs t (Y.NumberOfBit b) = bit_needs t b
  number_needs t (Y.Signed sign x) = let n = number_counts t in let a = number_needs t x in omega (arith, n, a)
  number_needs t (Y.Calculated operator left right) =
      let n = number_counts t in
      let a = number_needs t left in
      let b = number_needs (with_number t) right in
      omega (arith, n, a, b)
  number_needs t (Y.Absolute x) = let n = number_counts t in let a = number_needs t x in omega (arith, n, a)
  number_needs t (Y.SignOf x) = number_needs t x
  number_needs t (Y.Extreme extremum first more) =
      let n = number_counts t in
      let a = number_needs t first in
      let b = numbers_need (with_number t) more in
      omega (arith, n, a, b)
  number_needs t (Y.Modulo dividend divisor) =
      let n = number_counts t in
      let a = number_needs t dividend in
      let b = number_needs (with_number t) divisor in
      omega (arith, n, a, b)
  number_needs t (Y.Divided precision dividend divisor) =
      let n = number_counts t in
      let a = number_needs t dividend in
      let b = number_needs (with_number t) divisor in
      omega (arith, n, a, b)
  number_needs t (Y.LengthOf x) = text_needs t x
  number_needs t (Y.IndexOf searched sought) =
      let a = text_needs t searched in let b = text_needs t sought in omega (arith, a, b)
  number_needs t (Y.VerifyOf searched allowed) =
      let a = text_needs t searched in let b = text_needs t allowed in omega (arith, a, b)
  number_needs t (Y.LowerBound r dimension) = reference_needs t r
  number_needs t (Y.UpperBound r dimension) = reference_needs t r
  number_needs t (Y.ElementsOf r dimension) =
      let n = number_counts t in let a = reference_needs t r in omega (arith, n, a)
  number_needs t (Y.AllocationsOf v) = omega arith
  number_needs t Y.OnCode = omega arith

  pub numbers_need : (t : Taken) (x : Y.Numbers) → t.words + numbers_words x ≤ (numbers_take t x).words + spare t
  numbers_need t Y.NoNumber = omega arith
  numbers_need t (Y.NumberThen first rest) =
      let a = number_needs t first in let b = numbers_need t rest in omega (arith, a, b)

  pub text_needs : (t : Taken) (x : Y.Text) → t.words + text_words x ≤ (text_takes t x).words + spare t
  text_needs t (Y.TextConstant bytes) = omega arith
  text_needs t (Y.TextIn r) = reference_needs t r
  text_needs t (Y.TextFrom c) = call_needs t c
  text_needs t (Y.TextOfNumber precision x) = number_needs t x
  text_needs t (Y.TextOfBit b) = bit_needs t b
  text_needs t (Y.Joined left right) = let a = text_needs t left in let b = text_needs t right in omega (arith, a, b)
  text_needs t (Y.SubstringFrom x start) = let a = text_needs t x in let b = number_needs t start in omega (arith, a, b)
  text_needs t (Y.Substring x start count) =
      let n = number_counts t in
      let a = text_needs t x in
      let b = number_needs t start in
      let c = number_needs (with_number t) count in
      omega (arith, n, a, b, c)

  pub bit_needs : (t : Taken) (x : Y.Bit) → t.words + bit_words x ≤ (bit_takes t x).words + spare t
  bit_needs t (Y.BitConstant b) = omega arith
  bit_needs t (Y.BitIn r) = reference_needs t r
  bit_needs t (Y.BitFrom c) = call_needs t c
  bit_needs t (Y.BitOfText x) = text_needs t x
  bit_needs t (Y.Negated x) = bit_needs t x
  bit_needs t (Y.Combined operator left right) =
      let n = number_counts t in
      let a = bit_needs t left in
      let b = bit_needs (with_number t) right in
      omega (arith, n, a, b)
  bit_needs t (Y.NumbersCompared comparison left right) =
      let n = number_counts t in
      let a = number_needs t left in
      let b = number_needs (with_number t) right in
      omega (arith, n, a, b)
  bit_needs t (Y.TextsCompared comparison left right) =
      let a = text_needs t left in let b = text_needs t right in omega (arith, a, b)
  bit_needs t (Y.BitsCompared comparison left right) =
      let n = number_counts t in
      let a = bit_needs t left in
      let b = bit_needs (with_number t) right in
      omega (arith, n, a, b)
  bit_needs t (Y.PointersCompared equal left right) =
      let a = pointer_needs t left in
      let b = pointer_needs (with_words 4 t) right in
      omega (arith, a, b)
  bit_needs t (Y.OffsetsCompared equal left right) =
      let n = number_counts t in
      let a = offset_needs t left in
      let b = offset_needs (with_number t) right in
      omega (arith, n, a, b)

  pub pointer_needs : (t : Taken) (x : Y.Pointer) → t.words + pointer_words x ≤ (pointer_takes t x).words + spare t
  pointer_needs t Y.NullPointer = omega arith
  pointer_needs t (Y.PointerIn r) = let a = reference_needs t r in omega (arith, a)
  pointer_needs t (Y.PointerFrom c) = let a = call_needs t c in omega (arith, a)
  pointer_needs t (Y.AddressOf r) = let a = reference_needs t r in omega (arith, a)
  pointer_needs t (Y.PointerInto x area) = let a = offset_needs t x in omega (arith, a)

  pub offset_needs : (t : Taken) (x : Y.Offset) → t.words + offset_words x ≤ (offset_takes t x).words + spare t
  offset_needs t Y.NullOffset = omega arith
  offset_needs t (Y.OffsetIn r) = reference_needs t r
  offset_needs t (Y.OffsetFrom c) = call_needs t c
  offset_needs t (Y.OffsetInto x area) = pointer_needs t x

  pub reference_needs : (t : Taken) (x : Y.Reference)
      → t.words + reference_words x ≤ (reference_takes t x).words + spare t
  reference_needs t (Y.Referring v locator part subscripts) =
      let a = locator_needs t locator in
      let b = subscripts_need (behind_locator v t) subscripts in
      let c = locator_words_are v t in
      let d = locator_spares v t in
      omega (arith, a, b, c, d)

  pub locator_needs : (t : Taken) (x : Y.Locator) → t.words + locator_value_words x ≤
      (locator_takes t x).words + spare t
  locator_needs t Y.NotLocated = omega arith
  locator_needs t (Y.LocatedBy p) = pointer_needs t p

  pub subscripts_need : (t : Taken) (x : Y.Numbers)
      → t.words + subscripts_words x ≤ (subscripts_take t x).words + spare t
  subscripts_need t Y.NoNumber = omega arith
  subscripts_need t (Y.NumberThen first rest) =
      let n = number_counts t in
      let a = number_needs t first in
      let b = subscripts_need (with_number t) rest in
      omega (arith, n, a, b)

  pub call_needs : (t : Taken) (x : Y.Call) → t.words + call_words x ≤ (call_takes t x).words + spare t
  call_needs t (Y.Calling procedure level as') =
      let a = arguments_need (with_words (list_words as') t) as' in omega (arith, a)

  pub arguments_need : (t : Taken) (x : Y.Arguments)
      → t.words + arguments_words x ≤ (arguments_take t x).words + spare t
  arguments_need t Y.NoArgument = omega arith
  arguments_need t (Y.ArgumentThen first rest) =
      let a = argument_needs t first in let b = arguments_need t rest in omega (arith, a, b)

  pub argument_needs : (t : Taken) (x : Y.Argument) → t.words + argument_words x ≤ (argument_takes t x).words + spare t
  argument_needs t (Y.ByReference r) = reference_needs t r
  argument_needs t (Y.ByCopy type v) = stored_needs t v
  argument_needs t (Y.ByOffsetInParameter p parameter) = pointer_needs t p
  argument_needs t (Y.ByOffsetInAutomatic p) = pointer_needs t p

  pub stored_needs : (t : Taken) (x : Y.Stored) → t.words + stored_words x ≤ (stored_takes t x).words + spare t
  stored_needs t (Y.StoredNumber precision x) =
      let n = number_counts t in let a = number_needs t x in omega (arith, n, a)
  stored_needs t (Y.StoredText x) = text_needs t x
  stored_needs t (Y.StoredBit x) = bit_needs t x
  stored_needs t (Y.StoredPointer x) = pointer_needs t x
  stored_needs t (Y.StoredOffset x) = offset_needs t x
