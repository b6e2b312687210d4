-- The elements of a leaf in row-major order are those of the places 0, 1 and so on.
use Rattle.std.proofs.Common.{◌≡◌, ℕ, zero, suc, ◌+◌, ◌*◌, ℤ, pos, ◌+ℤ◌, ◌-ℤ◌, List, [], ◌∷◌, ◌++◌, Some, length, map, refl, sym, ap, ◌∙◌, arith, append_assoc, append-nil}
use Rattle.std.specs.Prelude.{slice_get}
use Rattle.std.specs.List.{flat_map, range_with_len}
use Rattle.std.proofs.lemmas.Int.{ints}
use Rattle.std.proofs.lemmas.List.{length-append, length-map}
use Rattle.std.proofs.lemmas.List.FromFn.{length-map-range_with_len}
use Rattle.pli_typing.specs.Signatures.{Bounds, element_count, natural, span}
use Rattle.pli_meaning.specs.Contents.{element_place}
use Rattle.pli_meaning.specs.StreamOrder.{numbers_from, subscripts_of, with_more}
use Rattle.pli_serving.specs.Values.{all_subscripts}
use Rattle.pli_aggregates.proofs.Lists.{map_flat}

got_behind : (pre bs : List Bounds) (b : Bounds) (n : ℕ) → n ≡ length pre → slice_get (pre ++ b ∷ bs) n ≡ Some b
got_behind [] bs b n e = ap (slice_get (b ∷ bs)) e
got_behind (p ∷ pre) bs b n e = ap (slice_get (p ∷ (pre ++ b ∷ bs))) e ∙ got_behind pre bs b (length pre) refl

next_number : (z : ℤ) (j : ℕ) → z +ℤ pos j +ℤ pos 1 ≡ z +ℤ pos (suc j)
next_number z j = omega (arith, ints)

distance : (z : ℤ) (j : ℕ) → natural (z +ℤ pos j -ℤ z) ≡ j
distance z j = ap natural d
  where
    d : z +ℤ pos j -ℤ z ≡ pos j
    d = omega (arith, ints)

no_distance : (z : ℤ) → z ≡ z +ℤ pos 0
no_distance z = omega (arith, ints)

row_more : (base j size : ℕ) → base + j * size + size ≡ base + suc j * size
row_more base j size = omega arith

rows_more : (count size : ℕ) → size + count * size ≡ suc count * size
rows_more count size = omega arith

place_under : (base j size n k : ℕ) → k ≡ j → base + (k * size + n) ≡ base + j * size + n
place_under base j size n k e = ap (λ i. base + (i * size + n)) e ∙ regroup base (j * size) n
  where
    regroup : (a b c : ℕ) → a + (b + c) ≡ a + b + c
    regroup a b c = omega arith

module _ {X : Type 0} where
  pub range_append : (g : ℕ → X) (first m n : ℕ) → map g (range_with_len first (m + n)) ≡ map g (range_with_len first m) ++ map g (range_with_len (first + m) n)
  range_append g first zero n =
      let e : 0 + n ≡ n = omega arith in
      let f : first ≡ first + 0 = omega arith in
      ap (λ k. map g (range_with_len first k)) e ∙ ap (λ k. map g (range_with_len k n)) f
  range_append g first (suc m) n =
      let e : suc m + n ≡ suc (m + n) = omega arith in
      let f : first + 1 + m ≡ first + suc m = omega arith in
      ap (λ k. map g (range_with_len first k)) e
      ∙ ap (λ xs. g first ∷ xs) (range_append g (first + 1) m n)
      ∙ ap (λ k. g first ∷ (map g (range_with_len (first + 1) m) ++ map g (range_with_len k n))) f

  rows_run : (g : ℕ → X) (row : ℤ → List X) (lower : ℤ) (size base : ℕ) → ((j : ℕ) → row (lower +ℤ pos j) ≡ map g (range_with_len (base + j * size) size)) → (j count : ℕ) → flat_map row (numbers_from (lower +ℤ pos j) count) ≡ map g (range_with_len (base + j * size) (count * size))
  rows_run g row lower size base inner j zero =
      let e : 0 ≡ 0 * size = omega arith in
      ap (λ k. map g (range_with_len (base + j * size) k)) e
  rows_run g row lower size base inner j (suc count) =
      ap (λ z. row (lower +ℤ pos j) ++ flat_map row (numbers_from z count)) (next_number lower j)
      ∙ ap (λ xs. row (lower +ℤ pos j) ++ xs) (rows_run g row lower size base inner (suc j) count)
      ∙ ap (λ xs. xs ++ map g (range_with_len (base + suc j * size) (count * size))) (inner j)
      ∙ ap (λ k. map g (range_with_len (base + j * size) size) ++ map g (range_with_len k (count * size))) (sym (row_more base j size))
      ∙ sym (range_append g (base + j * size) size (count * size))
      ∙ ap (λ k. map g (range_with_len (base + j * size) k)) (rows_more count size)

  pub rows : (g : ℕ → X) (place : List ℤ → ℕ) (bs pre : List Bounds) (is : List ℤ) (base : ℕ) → length is ≡ length pre → ((js : List ℤ) → place (is ++ js) ≡ base + element_place bs js) → map (λ js. g (place js)) (with_more (length bs) (pre ++ bs) is) ≡ map g (range_with_len base (element_count bs))
  rows g place [] pre is base l p =
      let e : base + 0 ≡ base = omega arith in
      ap (λ k. g k ∷ []) (ap place (sym (append-nil is)) ∙ p [] ∙ e)
  rows g place (b ∷ bs) pre is base l p =
      let more = λ (z : ℤ). with_more (length bs) (pre ++ b ∷ bs) (is ++ z ∷ []) in
      let row = λ (z : ℤ). map (λ js. g (place js)) (more z) in
      let size = element_count bs in
      let inner = λ (j : ℕ). (let z = b.lower +ℤ pos j in
      ap (λ xs. map (λ js. g (place js)) (with_more (length bs) xs (is ++ z ∷ []))) (sym (append_assoc pre (b ∷ []) bs))
      ∙ rows g place bs (pre ++ b ∷ []) (is ++ z ∷ []) (base + j * size) (length-append is (z ∷ []) ∙ ap (λ n. n + 1) l ∙ sym (length-append pre (b ∷ []))) (λ js. ap place (append_assoc is (z ∷ []) js) ∙ p (z ∷ js) ∙ place_under base j size (element_place bs js) (natural (z -ℤ b.lower)) (distance b.lower j))) in
      let start : base + 0 * size ≡ base = omega arith in
      ap (λ o. map (λ js. g (place js)) (flat_map more (subscripts_of o))) (got_behind pre bs b (length is) l)
      ∙ map_flat (λ js. g (place js)) more (numbers_from b.lower (span b))
      ∙ ap (λ z. flat_map row (numbers_from z (span b))) (no_distance b.lower)
      ∙ rows_run g row b.lower size base inner 0 (span b)
      ∙ ap (λ k. map g (range_with_len k (span b * size))) start

  -- what is told of each element by its place
  pub by_place : (g : ℕ → X) (bounds : List Bounds) → map (λ is. g (element_place bounds is)) (all_subscripts bounds) ≡ map g (range_with_len 0 (element_count bounds))
  by_place g bounds = rows g (element_place bounds) bounds [] [] 0 refl (λ js. at_zero (element_place bounds js))
    where
      at_zero : (n : ℕ) → n ≡ 0 + n
      at_zero n = omega arith

pub as_many_subscripts : (bounds : List Bounds) → length (all_subscripts bounds) ≡ element_count bounds
as_many_subscripts bounds =
    sym (length-map (all_subscripts bounds) (element_place bounds))
    ∙ ap length (by_place (λ n. n) bounds)
    ∙ length-map-range_with_len (λ n. n) 0 (element_count bounds)
