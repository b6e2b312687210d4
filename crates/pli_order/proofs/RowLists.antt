-- Lists of rows of equal length, and the subscripts of rows.
use Rattle.std.proofs.Common.{zero, suc, ◌≡◌, ◌≤◌, ◌<◌, ◌⊎◌, inl, inr, ℕ, ℤ, ◌+◌, ◌-◌, ◌*◌, ◌/◌, ◌%◌, slice_get, length, map, Option, Some, None, List, [], ◌∷◌, ◌++◌, refl, sym, ap, subst, ◌∙◌, arith, append_assoc}
use Rattle.std.specs.List.{flat_map}
use Rattle.std.proofs.lemmas.Bool.{cases_lt}
use Rattle.std.proofs.lemmas.List.{length-append}
use Rattle.std.proofs.Math.Nat.{add-mul-div_right, add-mul-mod_self_right, div-eq_of_lt, mod-eq_of_lt}
use Rattle.pli_typing.specs.Signatures.{Bounds}
use Rattle.pli_meaning.specs.StreamOrder.{subscripts_of, with_more}
use Rattle.pli_order.specs.Counts.{row_count}

-- what comes of what may be there
abbrev pub got : {A B : Type 0} → Option A → (A → Option B) → Option B
got None f = None
got (Some a) f = f a

-- ---- lists one behind the other

pub get_front : {A : Type 0} (xs ys : List A) (n : ℕ) → n < length xs → slice_get (xs ++ ys) n ≡ slice_get xs n
get_front [] ys n h = absurd (omega arith)
get_front (x ∷ xs) ys zero h = refl
get_front (x ∷ xs) ys (suc n) h = get_front xs ys n (omega arith)

get_further : {A : Type 0} (xs ys : List A) (n : ℕ) → slice_get (xs ++ ys) (length xs + n) ≡ slice_get ys n
get_further [] ys n = ap (slice_get ys) none
  where
    none : 0 + n ≡ n
    none = omega arith
get_further (x ∷ xs) ys n = ap (slice_get (x ∷ (xs ++ ys))) more ∙ get_further xs ys n
  where
    more : length (x ∷ xs) + n ≡ suc (length xs + n)
    more = omega arith

pub get_behind : {A : Type 0} (xs ys : List A) (n c : ℕ) → length xs ≡ c → c ≤ n → slice_get (xs ++ ys) n ≡ slice_get ys (n - c)
get_behind xs ys n c l h =
    let at : n ≡ length xs + (n - c) = omega (arith, l, h) in
    ap (slice_get (xs ++ ys)) at ∙ get_further xs ys (n - c)

-- ---- rows of one length

abbrev pub Even : ℕ → List (List ℤ) → Type 0
Even k [] = Unit {0}
Even k (x ∷ xs) = (length x ≡ k) × Even k xs

even_both : (k : ℕ) (xs ys : List (List ℤ)) → Even k xs → Even k ys → Even k (xs ++ ys)
even_both k [] ys e f = f
even_both k (x ∷ xs) ys e f = (e.0, even_both k xs ys e.1 f)

even_rows : (k : ℕ) (row : ℤ → List (List ℤ)) (zs : List ℤ) → ((z : ℤ) → Even k (row z)) → Even k (flat_map row zs)
even_rows k row [] e = tt
even_rows k row (z ∷ zs) e = even_both k (row z) (flat_map row zs) (e z) (even_rows k row zs e)

row_length : {A : Type 0} (row : ℤ → List A) (c : ℕ) (zs : List ℤ) → ((z : ℤ) → length (row z) ≡ c) → length (flat_map row zs) ≡ length zs * c
row_length row c [] e = none
  where
    none : 0 ≡ 0 * c
    none = omega arith
row_length row c (z ∷ zs) e =
    length-append (row z) (flat_map row zs) ∙ ap (λ n. n + length (flat_map row zs)) (e z) ∙ ap (λ n. c + n) (row_length row c zs e) ∙ more
  where
    more : c + length zs * c ≡ suc (length zs) * c
    more = omega arith

pub even_length : {A : Type 0} (f : List ℤ → List A) (k c : ℕ) (xs : List (List ℤ)) → Even k xs → ((x : List ℤ) → length x ≡ k → length (f x) ≡ c) → length (flat_map f xs) ≡ length xs * c
even_length f k c [] e l = none
  where
    none : 0 ≡ 0 * c
    none = omega arith
even_length f k c (x ∷ xs) e l =
    length-append (f x) (flat_map f xs) ∙ ap (λ n. n + length (flat_map f xs)) (l x e.0) ∙ ap (λ n. c + n) (even_length f k c xs e.1 l) ∙ more
  where
    more : c + length xs * c ≡ suc (length xs) * c
    more = omega arith

-- what stands at a place of them: a row, and a place in it
pub get_even : {A : Type 0} (f : List ℤ → List A) (k c : ℕ) (xs : List (List ℤ)) (n : ℕ) → Even k xs → ((x : List ℤ) → length x ≡ k → length (f x) ≡ c) → 0 < c
    → slice_get (flat_map f xs) n ≡ got (slice_get xs (n / c)) (λ x. slice_get (f x) (n % c))
get_even f k c [] n e l some = refl
get_even f k c (x ∷ xs) n e l some = go (cases_lt n c) (λ m. get_even f k c xs m e.1 l some)
  where
    go : (n < c) ⊎ (c ≤ n) → ((m : ℕ) → slice_get (flat_map f xs) m ≡ got (slice_get xs (m / c)) (λ y. slice_get (f y) (m % c)))
        → slice_get (f x ++ flat_map f xs) n ≡ got (slice_get (x ∷ xs) (n / c)) (λ y. slice_get (f y) (n % c))
    go (inl less) further =
        let long = l x e.0 in
        let q : 0 ≡ n / c = sym (div-eq_of_lt less) in
        let r : n ≡ n % c = sym (mod-eq_of_lt less) in
        get_front (f x) (flat_map f xs) n (omega (arith, long, less))
        ∙ ap (slice_get (f x)) r
        ∙ ap (λ j. got (slice_get (x ∷ xs) j) (λ y. slice_get (f y) (n % c))) q
    go (inr more) further =
        let m = n - c in
        let whole : n ≡ m + 1 * c = omega (arith, more) in
        let q : n / c ≡ m / c + 1 = ap (λ j. j / c) whole ∙ add-mul-div_right m 1 some in
        let r : n % c ≡ m % c = ap (λ j. j % c) whole ∙ add-mul-mod_self_right m 1 c in
        let s : suc (m / c) ≡ n / c = omega (arith, q) in
        get_behind (f x) (flat_map f xs) n c (l x e.0) more
        ∙ further m
        ∙ ap (λ j. got (slice_get xs (m / c)) (λ y. slice_get (f y) j)) (sym r)
        ∙ ap (λ j. got (slice_get (x ∷ xs) j) (λ y. slice_get (f y) (n % c))) s

pub even_get : (k : ℕ) (xs : List (List ℤ)) (n : ℕ) (x : List ℤ) → Even k xs → slice_get xs n ≡ Some x → length x ≡ k
even_get k [] n x e h = absurd (cc)
even_get k (y ∷ xs) zero x e h = let same : y ≡ x = cc in ap length (sym same) ∙ e.0
even_get k (y ∷ xs) (suc n) x e h = even_get k xs n x e.1 h

pub get_mapped : {A B : Type 0} (f : A → B) (xs : List A) (n : ℕ) → slice_get (map f xs) n ≡ got (slice_get xs n) (λ x. Some (f x))
get_mapped f [] n = refl
get_mapped f (x ∷ xs) zero = refl
get_mapped f (x ∷ xs) (suc n) = get_mapped f xs n

-- ---- subscripts

one_longer : (is : List ℤ) (z : ℤ) → length (is ++ z ∷ []) ≡ suc (length is)
one_longer is z = let l = length-append is (z ∷ []) in omega (arith, l)

pub length_more : (d : ℕ) (bs : List Bounds) (is : List ℤ) → length (with_more d bs is) ≡ row_count d bs (length is)
length_more zero bs is = refl
length_more (suc d) bs is =
    row_length (λ z. with_more d bs (is ++ z ∷ [])) (row_count d bs (suc (length is))) (subscripts_of (slice_get bs (length is)))
    (λ z. length_more d bs (is ++ z ∷ []) ∙ ap (row_count d bs) (one_longer is z))

pub even_more : (d : ℕ) (bs : List Bounds) (is : List ℤ) → Even (d + length is) (with_more d bs is)
even_more zero bs is = (none, tt)
  where
    none : length is ≡ 0 + length is
    none = omega arith
even_more (suc d) bs is =
    even_rows (suc d + length is) (λ z. with_more d bs (is ++ z ∷ [])) (subscripts_of (slice_get bs (length is)))
    (λ z. subst (λ k. Even k (with_more d bs (is ++ z ∷ []))) (one z) (even_more d bs (is ++ z ∷ [])))
  where
    one : (z : ℤ) → d + length (is ++ z ∷ []) ≡ suc d + length is
    one z = let l = one_longer is z in omega (arith, l)

-- behind others, by the bounds of these dimensions alone
map_flat : (f : List ℤ → List ℤ) (g : ℤ → List (List ℤ)) (zs : List ℤ) → flat_map (λ z. map f (g z)) zs ≡ map f (flat_map g zs)
map_flat f g [] = refl
map_flat f g (z ∷ zs) = ap (λ l. map f (g z) ++ l) (map_flat f g zs) ∙ sym (map_both (g z) (flat_map g zs))
  where
    map_both : (xs ys : List (List ℤ)) → map f (xs ++ ys) ≡ map f xs ++ map f ys
    map_both [] ys = refl
    map_both (x ∷ xs) ys = ap (λ l. f x ∷ l) (map_both xs ys)

pub flat_same : {A B : Type 0} (f g : A → List B) (zs : List A) → ((z : A) → f z ≡ g z) → flat_map f zs ≡ flat_map g zs
flat_same f g [] e = refl
flat_same f g (z ∷ zs) e = ap (λ l. l ++ flat_map f zs) (e z) ∙ ap (λ l. g z ++ l) (flat_same f g zs e)

pub more_behind : (d : ℕ) (bs own : List Bounds) (is js : List ℤ) → ((t : ℕ) → t < d → slice_get bs (length is + (length js + t)) ≡ slice_get own (length js + t))
    → with_more d bs (is ++ js) ≡ map (λ ks. is ++ ks) (with_more d own js)
more_behind zero bs own is js same = refl
more_behind (suc d) bs own is js same =
    ap (λ o. flat_map (λ z. with_more d bs ((is ++ js) ++ z ∷ [])) (subscripts_of o)) head
    ∙ flat_same (λ z. with_more d bs ((is ++ js) ++ z ∷ [])) (λ z. map (λ ks. is ++ ks) (with_more d own (js ++ z ∷ []))) (subscripts_of (slice_get own (length js)))
    (λ z. ap (with_more d bs) (append_assoc is js (z ∷ [])) ∙ more_behind d bs own is (js ++ z ∷ []) (λ t h. further z t h))
    ∙ map_flat (λ ks. is ++ ks) (λ z. with_more d own (js ++ z ∷ [])) (subscripts_of (slice_get own (length js)))
  where
    head : slice_get bs (length (is ++ js)) ≡ slice_get own (length js)
    head =
        let l = length-append is js in
        let at : length (is ++ js) ≡ length is + (length js + 0) = omega (arith, l) in
        let none : length js + 0 ≡ length js = omega arith in
        ap (slice_get bs) at ∙ same 0 (omega arith) ∙ ap (slice_get own) none

    further : (z : ℤ) (t : ℕ) → t < d → slice_get bs (length is + (length (js ++ z ∷ []) + t)) ≡ slice_get own (length (js ++ z ∷ []) + t)
    further z t h =
        let l = one_longer js z in
        let e : length (js ++ z ∷ []) + t ≡ length js + suc t = omega (arith, l) in
        ap (λ n. slice_get bs (length is + n)) e ∙ same (suc t) (omega (arith, h)) ∙ ap (slice_get own) (sym e)
