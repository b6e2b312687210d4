-- The bounds of a part's own dimensions, and its rows by them.
use Rattle.std.proofs.Common.{zero, suc, ◌≡◌, ◌≤◌, ◌<◌, ℕ, ℤ, pos, ◌+ℤ◌, ◌+◌, ◌-◌, ◌*◌, slice_get, option_map, length, map, drop, take, Some, None, List, [], ◌∷◌, ◌++◌, refl, sym, ap, ◌∙◌, arith, append-nil}
use Rattle.std.proofs.lemmas.List.{drop_all, length-map, length-take-le}
use Rattle.std.proofs.lemmas.Option.{slice_get_past, slice_get-map}
use Rattle.pli_typing.specs.Signatures as S
use Rattle.pli_typing.specs.Signatures.{capped, element_count, span}
use Rattle.pli_types.specs.View.{pair_of}
use Rattle.pli_types.specs.declared.signature.Bounds.{Bounds}
use Rattle.pli_meaning.specs.StreamOrder.{bounds_of_leaf, numbers_from, subscripts_of, with_more}
use Rattle.pli_serving.specs.Values.{all_subscripts}
use Rattle.pli_signatures.specs.View.{leaf_in_force}
use Rattle.pli_signatures.specs.declared.element.LeafInForce.{LeafInForce}
use Rattle.pli_order.specs.Counts.{row_count}
use Rattle.pli_order.proofs.RowLists.{length_more, more_behind}

-- ---- the bounds of a leaf

pub bounds_there : (ls : List LeafInForce) (n : ℕ) (l : LeafInForce) → slice_get ls n ≡ Some l → map pair_of l.bounds.items ≡ bounds_of_leaf (map leaf_in_force ls) n
bounds_there [] n l e = absurd (cc)
bounds_there (k ∷ ls) zero l e = let same : k ≡ l = cc in ap (λ (m : LeafInForce). map pair_of m.bounds.items) (sym same)
bounds_there (k ∷ ls) (suc n) l e = bounds_there ls n l e

pub bounds_missing : (ls : List LeafInForce) (n : ℕ) → slice_get ls n ≡ None → [] ≡ bounds_of_leaf (map leaf_in_force ls) n
bounds_missing [] n e = refl
bounds_missing (k ∷ ls) zero e = absurd (cc)
bounds_missing (k ∷ ls) (suc n) e = bounds_missing ls n e

pub none_behind : (xs : List Bounds) (n : ℕ) → length xs < n → [] ≡ drop n xs
none_behind xs n h = sym (drop_all n xs (omega (arith, h)))

-- ---- rows

none_times : (n : ℕ) → 0 * n ≡ 0
none_times n = omega arith

times_none : (n : ℕ) → n * 0 ≡ 0
times_none n = omega arith

numbers_length : (z : ℤ) (n : ℕ) → length (numbers_from z n) ≡ n
numbers_length z zero = refl
numbers_length z (suc n) = ap suc (numbers_length (z +ℤ pos 1) n)

one_on : (d : ℕ) (b : S.Bounds) (bs : List S.Bounds) (k : ℕ) → row_count d (b ∷ bs) (suc k) ≡ row_count d bs k
one_on zero b bs k = refl
one_on (suc d) b bs k = ap (λ n. length (subscripts_of (slice_get bs k)) * n) (one_on d b bs (suc k))

rows_own : (xs : List Bounds) (k d : ℕ) → d ≤ length (drop k xs) → row_count d (map pair_of xs) k ≡ element_count (map pair_of (take d (drop k xs)))
rows_own [] zero zero h = refl
rows_own [] (suc k) zero h = refl
rows_own [] zero (suc d) h = absurd (omega (arith, h))
rows_own [] (suc k) (suc d) h = absurd (omega (arith, h))
rows_own (x ∷ xs) zero zero h = refl
rows_own (x ∷ xs) zero (suc d) h =
    ap (λ n. n * row_count d (map pair_of (x ∷ xs)) 1) (numbers_length (pair_of x).lower (span (pair_of x)))
    ∙ ap (λ n. span (pair_of x) * n) (one_on d (pair_of x) (map pair_of xs) 0 ∙ rows_own xs 0 d (omega (arith, h)))
rows_own (x ∷ xs) (suc k) d h = one_on d (pair_of x) (map pair_of xs) k ∙ rows_own xs k d h

rows_none : (xs : List Bounds) (k d : ℕ) → length (drop k xs) < d → row_count d (map pair_of xs) k ≡ 0
rows_none xs k zero h = absurd (omega (arith, h))
rows_none [] k (suc d) h = none_times (row_count d [] (suc k))
rows_none (x ∷ xs) zero (suc d) h =
    ap (λ n. length (subscripts_of (Some (pair_of x))) * n) (one_on d (pair_of x) (map pair_of xs) 0 ∙ rows_none xs 0 d (omega (arith, h)))
    ∙ times_none (length (subscripts_of (Some (pair_of x))))
rows_none (x ∷ xs) (suc k) (suc d) h = one_on (suc d) (pair_of x) (map pair_of xs) k ∙ rows_none xs k (suc d) h

pub rows_counted : (xs own left : List Bounds) (k d n : ℕ) → left ≡ drop k xs → d ≤ length left → own ≡ take d left → n ≡ capped (element_count (map pair_of own)) → n ≡ capped (row_count d (map pair_of xs) k)
rows_counted xs own left k d n l h o e =
    let low : d ≤ length (drop k xs) = omega (arith, h, ap length l) in
    e ∙ ap (λ bs. capped (element_count (map pair_of bs))) (o ∙ ap (take d) l) ∙ ap capped (sym (rows_own xs k d low))

pub rows_missing : (xs left : List Bounds) (k d : ℕ) → left ≡ drop k xs → length left < d → 0 ≡ capped (row_count d (map pair_of xs) k)
rows_missing xs left k d l h =
    let low : length (drop k xs) < d = omega (arith, h, ap length l) in
    let none = rows_none xs k d low in
    omega (arith, none)

-- ---- the subscripts of rows

own_get : (xs : List Bounds) (k d t : ℕ) → d ≤ length (drop k xs) → t < d → slice_get (map pair_of xs) (k + t) ≡ slice_get (map pair_of (take d (drop k xs))) t
own_get [] zero d t h less = absurd (omega (arith, h, less))
own_get [] (suc k) d t h less = absurd (omega (arith, h, less))
own_get (x ∷ xs) zero zero t h less = absurd (omega (arith, less))
own_get (x ∷ xs) zero (suc d) zero h less = refl
own_get (x ∷ xs) zero (suc d) (suc t) h less =
    let at : 0 + suc t ≡ suc (0 + t) = omega arith in
    ap (slice_get (map pair_of (x ∷ xs))) at ∙ own_get xs 0 d t (omega (arith, h)) (omega (arith, less))
own_get (x ∷ xs) (suc k) d t h less =
    let at : suc k + t ≡ suc (k + t) = omega arith in
    ap (slice_get (map pair_of (x ∷ xs))) at ∙ own_get xs k d t h less

more_own : (xs own : List Bounds) (d : ℕ) (is : List ℤ) → d ≤ length (drop (length is) xs) → own ≡ take d (drop (length is) xs)
    → with_more d (map pair_of xs) is ≡ map (λ ks. is ++ ks) (all_subscripts (map pair_of own))
more_own xs own d is low e =
    let many : length (map pair_of own) ≡ d = length-map own pair_of ∙ ap length e ∙ length-take-le d (drop (length is) xs) low in
    ap (with_more d (map pair_of xs)) (sym (append-nil is))
    ∙ more_behind d (map pair_of xs) (map pair_of own) is [] (λ t h. same t h)
    ∙ ap (λ n. map (λ ks. is ++ ks) (with_more n (map pair_of own) [])) (sym many)
  where
    same : (t : ℕ) → t < d → slice_get (map pair_of xs) (length is + (0 + t)) ≡ slice_get (map pair_of own) (0 + t)
    same t h =
        let none : 0 + t ≡ t = omega arith in
        ap (λ n. slice_get (map pair_of xs) (length is + n)) none
        ∙ own_get xs (length is) d t low h
        ∙ ap (λ bs. slice_get (map pair_of bs) t) (sym e)
        ∙ ap (slice_get (map pair_of own)) (sym none)

pub row_missing : (xs left : List Bounds) (d : ℕ) (is : List ℤ) (row : ℕ) → left ≡ drop (length is) xs → length left < d → None ≡ slice_get (with_more d (map pair_of xs) is) row
row_missing xs left d is row l h =
    let low : length (drop (length is) xs) < d = omega (arith, h, ap length l) in
    let none : length (with_more d (map pair_of xs) is) ≡ 0 = length_more d (map pair_of xs) is ∙ rows_none xs (length is) d low in
    sym (slice_get_past (with_more d (map pair_of xs) is) row (omega (arith, none)))

row_own : (xs own left : List Bounds) (d : ℕ) (is : List ℤ) (row : ℕ) → left ≡ drop (length is) xs → d ≤ length left → own ≡ take d left
    → slice_get (with_more d (map pair_of xs) is) row ≡ option_map (λ ks. is ++ ks) (slice_get (all_subscripts (map pair_of own)) row)
row_own xs own left d is row l h o =
    let low : d ≤ length (drop (length is) xs) = omega (arith, h, ap length l) in
    ap (λ ys. slice_get ys row) (more_own xs own d is low (o ∙ ap (take d) l))
    ∙ slice_get-map (λ ks. is ++ ks) (all_subscripts (map pair_of own)) row

pub row_past : (xs own left : List Bounds) (d : ℕ) (is : List ℤ) (row : ℕ) → left ≡ drop (length is) xs → d ≤ length left → own ≡ take d left → None ≡ slice_get (all_subscripts (map pair_of own)) row
    → None ≡ slice_get (with_more d (map pair_of xs) is) row
row_past xs own left d is row l h o e = ap (option_map (λ ks. is ++ ks)) e ∙ sym (row_own xs own left d is row l h o)

pub row_there : (xs own left : List Bounds) (d : ℕ) (is more all : List ℤ) (row : ℕ) → left ≡ drop (length is) xs → d ≤ length left → own ≡ take d left → Some more ≡ slice_get (all_subscripts (map pair_of own)) row → all ≡ is ++ more
    → Some all ≡ slice_get (with_more d (map pair_of xs) is) row
row_there xs own left d is more all row l h o e a = ap (λ js. Some js) a ∙ ap (option_map (λ ks. is ++ ks)) e ∙ sym (row_own xs own left d is row l h o)
