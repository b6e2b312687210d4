-- Parts of statements take as many words as their bounds count, but for those numbers that registers hold.
use Rattle.std.proofs.Common.{◌≡◌, ℕ, suc, ◌+◌, ◌-◌, ◌≤◌, max, List, [], ◌∷◌, Option, Some, None, arith}
use Rattle.pli_typing.specs.TypedTree as Y
use Rattle.pli_coding.specs.Environments.{Taken, with_words, with_number}
use Rattle.pli_coding.specs.Storing.{record_words, behind_record, aggregate_takes}
use Rattle.pli_coding.specs.Streams.{free_in, elements_of, value_takes, elements_take, put_item_takes, put_items_take}
use Rattle.pli_coding.specs.Streams.{put_takes, get_item_takes, get_items_take, get_takes}
use Rattle.pli_coding.specs.Statements.{number_if_takes, bit_if_takes}
use Rattle.temporary_bounds.specs.WordBounds as W
use Rattle.temporary_bounds.specs.Spare.{spare}
use Rattle.temporary_bounds.proofs.Takes.{number_counts}
use Rattle.temporary_bounds.proofs.TakesBounds.{locator_words_are}
use Rattle.temporary_bounds.proofs.TakesNeeds.{number_needs, text_needs, bit_needs, reference_needs, locator_spares}

pub number_if_needs : (t : Taken) (x : Option Y.Number)
    → t.words + W.number_if x ≤ (number_if_takes t x).words + spare t
number_if_needs t None = omega arith
number_if_needs t (Some x) = number_needs t x

pub bit_if_needs : (t : Taken) (x : Option Y.Bit) → t.words + W.bit_if x ≤ (bit_if_takes t x).words + spare t
bit_if_needs t None = omega arith
bit_if_needs t (Some x) = bit_needs t x

pub value_needs : (t : Taken) (x : Y.Value) → t.words + W.value_words x ≤ (value_takes t x).words + spare t
value_needs t (Y.NumberValue precision x) =
    let n = number_counts t in let a = number_needs t x in omega (arith, n, a)
value_needs t (Y.TextValue x) = text_needs t x
value_needs t (Y.BitValue x) = let n = number_counts t in let a = bit_needs t x in omega (arith, n, a)
value_needs t (Y.PointerValue x) = omega arith
value_needs t (Y.OffsetValue area x) = omega arith
value_needs t Y.NullValue = omega arith

behind_record_is : (t : Taken) (r : Y.Reference) → (behind_record r t).words ≡ t.words + W.words_behind_record r
behind_record_is t (Y.Referring v locator part subscripts) =
    let a = locator_words_are v (with_words record_words t) in omega (arith, a)

record_spares : (t : Taken) (r : Y.Reference) → spare (behind_record r t) ≡ spare t
record_spares t (Y.Referring v locator part subscripts) = locator_spares v (with_words record_words t)

-- two words of the number, and two numbers
elements_need : (t : Taken) (r : Y.Reference) → t.words + W.streamed_words r ≤ (elements_take t r).words + spare t
elements_need t r =
    let a = reference_needs (with_words record_words t) r in
    let b = behind_record_is t r in
    let c = record_spares t r in
    let m = number_counts (free_in (elements_of t r)) in
    let n = number_counts (with_number (free_in (elements_of t r))) in
    omega (arith, a, b, c, m, n)

put_item_needs : (t : Taken) (x : Y.PutItem) → t.words + W.put_item_words x ≤ (put_item_takes t x).words + spare t
put_item_needs t (Y.PutValue v) = value_needs t v
put_item_needs t (Y.PutAggregate r) = elements_need t r

put_items_need : (t : Taken) (xs : List Y.PutItem)
    → t.words + W.put_items_words xs ≤ (put_items_take t xs).words + spare t
put_items_need t [] = omega arith
put_items_need t (x ∷ xs) = let a = put_item_needs t x in let b = put_items_need t xs in omega (arith, a, b)

pub put_needs : (t : Taken) (xs : List Y.PutPair) → t.words + W.put_words xs ≤ (put_takes t xs).words + spare t
put_needs t [] = omega arith
put_needs t (x ∷ xs) = let a = put_items_need t x.items in let b = put_needs t xs in omega (arith, a, b)

get_item_needs : (t : Taken) (x : Y.GetItem) → t.words + W.get_item_words x ≤ (get_item_takes t x).words + spare t
get_item_needs t (Y.GetScalar r) =
    let n = number_counts t in let a = reference_needs (with_number t) r in omega (arith, n, a)
get_item_needs t (Y.GetAggregate r) = elements_need t r

get_items_need : (t : Taken) (xs : List Y.GetItem)
    → t.words + W.get_items_words xs ≤ (get_items_take t xs).words + spare t
get_items_need t [] = omega arith
get_items_need t (x ∷ xs) = let a = get_item_needs t x in let b = get_items_need t xs in omega (arith, a, b)

pub get_needs : (t : Taken) (xs : List Y.GetPair) → t.words + W.get_words xs ≤ (get_takes t xs).words + spare t
get_needs t [] = omega arith
get_needs t (x ∷ xs) = let a = get_items_need t x.items in let b = get_needs t xs in omega (arith, a, b)
