-- The elements of a leaf in row-major order are those of the places 0, 1 and so on.
use Rattle.std.proofs.Common.{zero, suc, ◌≡◌, ℕ, ℤ, pos, ◌+ℤ◌, ◌-ℤ◌, ◌+◌, ◌*◌, Some, slice_get, List, [], ◌∷◌, ◌++◌, length, refl, sym, ap, ◌∙◌, arith, append_assoc, append-nil}
use Rattle.std.specs.List.{flat_map}
use Rattle.std.proofs.lemmas.List.{length-append}
use Rattle.std.proofs.lemmas.List.Concat.{flat_map-append}
use Rattle.std.proofs.lemmas.Int.{ints}
use Rattle.pli_language.specs.Tree.{InitialValue}
use Rattle.pli_typing.specs.Signatures.{LeafKind, Bounds, natural, span, element_count}
use Rattle.pli_meaning.specs.StreamOrder.{numbers_from, subscripts_of, with_more}
use Rattle.pli_meaning.specs.Contents.{element_place, initial_of}
use Rattle.pli_serving.specs.Values.{leaf_data}
use Rattle.pli_values.specs.Runs.{fresh_element, run_of}

-- runs one behind the other
run_append : (piece : ℕ → List ℕ) (first m n : ℕ) → run_of piece first (m + n) ≡ run_of piece first m ++ run_of piece (first + m) n
run_append piece first zero n =
    let e : 0 + n ≡ n = omega arith in
    let f : first ≡ first + 0 = omega arith in
    ap (run_of piece first) e ∙ ap (λ k. run_of piece k n) f
run_append piece first (suc m) n =
    let e : suc m + n ≡ suc (m + n) = omega arith in
    let f : suc first + m ≡ first + suc m = omega arith in
    ap (run_of piece first) e
    ∙ ap (λ xs. piece first ++ xs) (run_append piece (suc first) m n)
    ∙ sym (append_assoc (piece first) (run_of piece (suc first) m) (run_of piece (suc first + m) n))
    ∙ ap (λ k. (piece first ++ run_of piece (suc first) m) ++ run_of piece k n) f

pub flat_flat : (f : ℤ → List (List ℤ)) (g : List ℤ → List ℕ) (zs : List ℤ) → flat_map g (flat_map f zs) ≡ flat_map (λ z. flat_map g (f z)) zs
flat_flat f g [] = refl
flat_flat f g (z ∷ zs) = flat_map-append g (f z) (flat_map f zs) ∙ ap (λ xs. flat_map g (f z) ++ xs) (flat_flat f g zs)

pub slice_get_behind : (pre bs : List Bounds) (b : Bounds) (n : ℕ) → n ≡ length pre → slice_get (pre ++ b ∷ bs) n ≡ Some b
slice_get_behind [] bs b n e = ap (slice_get (b ∷ bs)) e
slice_get_behind (p ∷ pre) bs b n e = ap (slice_get (p ∷ (pre ++ b ∷ bs))) e ∙ slice_get_behind pre bs b (length pre) refl

pub next_int : (z : ℤ) (j : ℕ) → z +ℤ pos j +ℤ pos 1 ≡ z +ℤ pos (suc j)
next_int z j = omega (arith, ints)

distance : (z : ℤ) (j : ℕ) → natural (z +ℤ pos j -ℤ z) ≡ j
distance z j = ap natural d
  where
    d : z +ℤ pos j -ℤ z ≡ pos j
    d = omega (arith, ints)

pub no_distance : (z : ℤ) → z ≡ z +ℤ pos 0
no_distance z = omega (arith, ints)

row_more : (base j size : ℕ) → base + j * size + size ≡ base + suc j * size
row_more base j size = omega arith

rows_more : (count size : ℕ) → size + count * size ≡ suc count * size
rows_more count size = omega arith

-- rows one behind the other, one for each number
numbers_run : (piece : ℕ → List ℕ) (row : ℤ → List ℕ) (lower : ℤ) (size base : ℕ) → ((j : ℕ) → row (lower +ℤ pos j) ≡ run_of piece (base + j * size) size) → (j count : ℕ) → flat_map row (numbers_from (lower +ℤ pos j) count) ≡ run_of piece (base + j * size) (count * size)
numbers_run piece row lower size base inner j zero =
    let e : 0 ≡ 0 * size = omega arith in
    ap (run_of piece (base + j * size)) e
numbers_run piece row lower size base inner j (suc count) =
    ap (λ z. row (lower +ℤ pos j) ++ flat_map row (numbers_from z count)) (next_int lower j)
    ∙ ap (λ xs. row (lower +ℤ pos j) ++ xs) (numbers_run piece row lower size base inner (suc j) count)
    ∙ ap (λ xs. xs ++ run_of piece (base + suc j * size) (count * size)) (inner j)
    ∙ ap (λ k. run_of piece (base + j * size) size ++ run_of piece k (count * size)) (sym (row_more base j size))
    ∙ sym (run_append piece (base + j * size) size (count * size))
    ∙ ap (run_of piece (base + j * size)) (rows_more count size)

place_under : (base j size n : ℕ) (k : ℕ) → k ≡ j → base + (k * size + n) ≡ base + j * size + n
place_under base j size n k e = ap (λ i. base + (i * size + n)) e ∙ regroup base (j * size) n
  where
    regroup : (a b c : ℕ) → a + (b + c) ≡ a + b + c
    regroup a b c = omega arith

rows : (piece : ℕ → List ℕ) (place : List ℤ → ℕ) (bs pre : List Bounds) (is : List ℤ) (base : ℕ) → length is ≡ length pre → ((js : List ℤ) → place (is ++ js) ≡ base + element_place bs js) → flat_map (λ js. piece (place js)) (with_more (length bs) (pre ++ bs) is) ≡ run_of piece base (element_count bs)
rows piece place [] pre is base l p =
    let e : base + 0 ≡ base = omega arith in
    ap (λ k. piece k ++ []) (ap place (sym (append-nil is)) ∙ p [] ∙ e)
rows piece place (b ∷ bs) pre is base l p =
    let more = λ (z : ℤ). with_more (length bs) (pre ++ b ∷ bs) (is ++ z ∷ []) in
    let row = λ (z : ℤ). flat_map (λ js. piece (place js)) (more z) in
    let size = element_count bs in
    let inner = λ (j : ℕ). (let z = b.lower +ℤ pos j in
    ap (λ xs. flat_map (λ js. piece (place js)) (with_more (length bs) xs (is ++ z ∷ []))) (sym (append_assoc pre (b ∷ []) bs))
    ∙ rows piece place bs (pre ++ b ∷ []) (is ++ z ∷ []) (base + j * size) (length-append is (z ∷ []) ∙ ap (λ n. n + 1) l ∙ sym (length-append pre (b ∷ []))) (λ js. ap place (append_assoc is (z ∷ []) js) ∙ p (z ∷ js) ∙ place_under base j size (element_place bs js) (natural (z -ℤ b.lower)) (distance b.lower j))) in
    let start : base + 0 * size ≡ base = omega arith in
    ap (λ o. flat_map (λ js. piece (place js)) (flat_map more (subscripts_of o))) (slice_get_behind pre bs b (length is) l)
    ∙ flat_flat more (λ js. piece (place js)) (numbers_from b.lower (span b))
    ∙ ap (λ z. flat_map row (numbers_from z (span b))) (no_distance b.lower)
    ∙ numbers_run piece row b.lower size base inner 0 (span b)
    ∙ ap (λ k. run_of piece k (span b * size)) start

-- a leaf's data is a run of its elements
pub leaf_run : (kind : LeafKind) (values : ℕ → InitialValue) (bounds : List Bounds) → run_of (fresh_element kind values) 0 (element_count bounds) ≡ leaf_data (record { kind = kind; bounds = bounds }) (λ is. initial_of kind (values (element_place bounds is)))
leaf_run kind values bounds =
    sym (rows (fresh_element kind values) (element_place bounds) bounds [] [] 0 refl (λ js. at_zero (element_place bounds js)))
  where
    at_zero : (n : ℕ) → n ≡ 0 + n
    at_zero n = omega arith
