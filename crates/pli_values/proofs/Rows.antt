-- The subscripts of all elements in row-major order, by their places.
use Rattle.std.proofs.Common.{zero, suc, ◌≡◌, ◌≤◌, ◌<◌, ◌⊎◌, inl, inr, ℕ, ℤ, pos, ◌+ℤ◌, ◌+◌, ◌-◌, ◌*◌, ◌/◌, ◌%◌, slice_get, length, map, drop, take, get_or, reverse, Some, None, List, [], ◌∷◌, ◌++◌, refl, sym, ap, ◌∙◌, arith, append_assoc, append-nil}
use Rattle.std.specs.List.{flat_map}
use Rattle.std.proofs.lemmas.Bool.{cases_lt}
use Rattle.std.proofs.lemmas.Int.{ints}
use Rattle.std.proofs.lemmas.List.{at_drop_more, length-append, length-reverse, reverse-append, take_at}
use Rattle.std.proofs.lemmas.Option.{slice_get_past}
use Rattle.std.proofs.Math.Nat.{lt-div-mul-add, mul_comm, mul-pos, div-lt_iff_lt-mul, add-mul-div_right, add-mul-mod_self_right, div-div-eq-div-mul, mod-add-div', mod-lt, div-eq_of_lt, mod-eq_of_lt}
use Rattle.pli_typing.specs.Signatures as S
use Rattle.pli_typing.specs.Signatures.{span, element_count}
use Rattle.pli_types.specs.declared.signature.Bounds.{Bounds}
use Rattle.pli_types.specs.View.{pair_of}
use Rattle.pli_meaning.specs.StreamOrder.{numbers_from, subscripts_of, with_more}
use Rattle.pli_serving.specs.Values.{all_subscripts}
use Rattle.pli_values.proofs.LeafRuns.{slice_get_behind, no_distance}

-- ---- lists of lists

get_front : {A : Type 0} (xs ys : List A) (n : ℕ) → n < length xs → slice_get (xs ++ ys) n ≡ slice_get xs n
get_front [] ys n h = absurd (omega arith)
get_front (x ∷ xs) ys zero h = refl
get_front (x ∷ xs) ys (suc n) h = get_front xs ys n (omega arith)

get_further : {A : Type 0} (xs ys : List A) (n : ℕ) → slice_get (xs ++ ys) (length xs + n) ≡ slice_get ys n
get_further [] ys n = ap (slice_get ys) none
  where
    none : 0 + n ≡ n
    none = omega arith
get_further (x ∷ xs) ys n = ap (slice_get (x ∷ (xs ++ ys))) more ∙ get_further xs ys n
  where
    more : length (x ∷ xs) + n ≡ suc (length xs + n)
    more = omega arith

row_length : {A : Type 0} (row : ℤ → List A) (c : ℕ) (zs : List ℤ) → ((z : ℤ) → length (row z) ≡ c) → length (flat_map row zs) ≡ length zs * c
row_length row c [] e = none
  where
    none : 0 ≡ 0 * c
    none = omega arith
row_length row c (z ∷ zs) e =
    length-append (row z) (flat_map row zs) ∙ ap (λ n. n + length (flat_map row zs)) (e z) ∙ ap (λ n. c + n) (row_length row c zs e) ∙ more
  where
    more : c + length zs * c ≡ suc (length zs) * c
    more = omega arith

numbers_length : (z : ℤ) (n : ℕ) → length (numbers_from z n) ≡ n
numbers_length z zero = refl
numbers_length z (suc n) = ap suc (numbers_length (z +ℤ pos 1) n)

-- the nth of rows of equal length
get_row : {A : Type 0} (row : ℤ → List A) (c : ℕ) (z : ℤ) (k n : ℕ) → ((y : ℤ) → length (row y) ≡ c) → 0 < c → n < k * c → slice_get (flat_map row (numbers_from z k)) n ≡ slice_get (row (z +ℤ pos (n / c))) (n % c)
get_row row c z zero n e some h = absurd (omega (arith, h))
get_row row c z (suc k) n e some h = go (cases_lt n c) (λ m less. get_row row c (z +ℤ pos 1) k m e some less)
  where
    one_on : (y : ℤ) (j : ℕ) → y +ℤ pos 1 +ℤ pos j ≡ y +ℤ pos (suc j)
    one_on y j = omega (arith, ints)

    go : (n < c) ⊎ (c ≤ n) → ((m : ℕ) → m < k * c → slice_get (flat_map row (numbers_from (z +ℤ pos 1) k)) m ≡ slice_get (row (z +ℤ pos 1 +ℤ pos (m / c))) (m % c))
        → slice_get (flat_map row (numbers_from z (suc k))) n ≡ slice_get (row (z +ℤ pos (n / c))) (n % c)
    go (inl less) further =
        let l = e z in
        let q : 0 ≡ n / c = sym (div-eq_of_lt less) in
        let r : n ≡ n % c = sym (mod-eq_of_lt less) in
        get_front (row z) (flat_map row (numbers_from (z +ℤ pos 1) k)) n (omega (arith, l, less))
        ∙ ap (λ y. slice_get (row y) n) (no_distance z)
        ∙ ap (λ j. slice_get (row (z +ℤ pos j)) n) q
        ∙ ap (slice_get (row (z +ℤ pos (n / c)))) r
    go (inr more) further =
        let m = n - c in
        let l = e z in
        let whole : n ≡ m + 1 * c = omega (arith, more) in
        let q : n / c ≡ m / c + 1 = ap (λ j. j / c) whole ∙ add-mul-div_right m 1 some in
        let r : n % c ≡ m % c = ap (λ j. j % c) whole ∙ add-mul-mod_self_right m 1 c in
        let at : n ≡ length (row z) + m = omega (arith, l, more) in
        let s : n / c ≡ suc (m / c) = omega (arith, q) in
        ap (slice_get (row z ++ flat_map row (numbers_from (z +ℤ pos 1) k))) at
        ∙ get_further (row z) (flat_map row (numbers_from (z +ℤ pos 1) k)) m
        ∙ further m (omega (arith, h, more))
        ∙ ap (λ y. slice_get (row y) (m % c)) (one_on z (m / c))
        ∙ ap (λ j. slice_get (row (z +ℤ pos j)) (m % c)) (sym s)
        ∙ ap (slice_get (row (z +ℤ pos (n / c)))) (sym r)

-- ---- the subscripts at a place

abbrev pub digits : List S.Bounds → ℕ → List ℤ
digits [] n = []
digits (b ∷ bs) n = (b.lower +ℤ pos (n / element_count bs % span b)) ∷ digits bs n

-- they are alike after all rows
digits_again : (bs : List S.Bounds) (n k : ℕ) → 0 < element_count bs → digits bs (n + k * element_count bs) ≡ digits bs n
digits_again [] n k some = refl
digits_again (b ∷ bs) n k some =
    let c = element_count bs in
    let inner : 0 < c = factor (span b) c some in
    let whole : n + k * (span b * c) ≡ n + k * span b * c = omega arith in
    let q : (n + k * (span b * c)) / c ≡ n / c + k * span b = ap (λ j. j / c) whole ∙ add-mul-div_right n (k * span b) inner in
    let r : (n + k * (span b * c)) / c % span b ≡ n / c % span b = ap (λ j. j % span b) q ∙ add-mul-mod_self_right (n / c) k (span b) in
    ap (λ j. (b.lower +ℤ pos j) ∷ digits bs (n + k * (span b * c))) r
    ∙ ap (λ j. (b.lower +ℤ pos (n / c % span b)) ∷ digits bs j) whole
    ∙ ap (λ xs. (b.lower +ℤ pos (n / c % span b)) ∷ xs) (digits_again bs n (k * span b) inner)
  where
    factor : (a c : ℕ) → 0 < a * c → 0 < c
    factor a zero h = absurd (omega (arith, h))
    factor a (suc c) h = omega arith

digits_in_row : (bs : List S.Bounds) (n : ℕ) → 0 < element_count bs → digits bs (n % element_count bs) ≡ digits bs n
digits_in_row bs n some =
    sym (digits_again bs (n % element_count bs) (n / element_count bs) some) ∙ ap (digits bs) (mod-add-div' n (element_count bs))

more_length : (bs pre : List S.Bounds) (is : List ℤ) → length is ≡ length pre → length (with_more (length bs) (pre ++ bs) is) ≡ element_count bs
more_length [] pre is l = refl
more_length (b ∷ bs) pre is l =
    let row = λ (z : ℤ). with_more (length bs) (pre ++ b ∷ bs) (is ++ z ∷ []) in
    let first = λ (z : ℤ). ap (λ xs. length (with_more (length bs) xs (is ++ z ∷ []))) (sym (append_assoc pre (b ∷ []) bs))
    ∙ more_length bs (pre ++ b ∷ []) (is ++ z ∷ []) (length-append is (z ∷ []) ∙ ap (λ n. n + 1) l ∙ sym (length-append pre (b ∷ []))) in
    ap (λ o. length (flat_map row (subscripts_of o))) (slice_get_behind pre bs b (length is) l)
    ∙ row_length row (element_count bs) (numbers_from b.lower (span b)) first
    ∙ ap (λ n. n * element_count bs) (numbers_length b.lower (span b))

get_more : (bs pre : List S.Bounds) (is : List ℤ) (n : ℕ) → length is ≡ length pre → n < element_count bs → slice_get (with_more (length bs) (pre ++ bs) is) n ≡ Some (is ++ digits bs n)
get_more [] pre is zero l h = ap (λ xs. Some xs) (sym (append-nil is))
get_more [] pre is (suc n) l h = absurd (omega (arith, h))
get_more (b ∷ bs) pre is n l h =
    let c = element_count bs in
    let row = λ (z : ℤ). with_more (length bs) (pre ++ b ∷ bs) (is ++ z ∷ []) in
    let even = λ (z : ℤ). length-append is (z ∷ []) ∙ ap (λ n. n + 1) l ∙ sym (length-append pre (b ∷ [])) in
    let first = λ (z : ℤ). ap (λ xs. with_more (length bs) xs (is ++ z ∷ [])) (sym (append_assoc pre (b ∷ []) bs)) in
    let some : 0 < c = inner (span b) c n h in
    let z = b.lower +ℤ pos (n / c) in
    let within : n / c % span b ≡ n / c = mod-eq_of_lt (quotient n c (span b) some h) in
    ap (λ o. slice_get (flat_map row (subscripts_of o)) n) (slice_get_behind pre bs b (length is) l)
    ∙ get_row row c b.lower (span b) n (λ y. ap length (first y) ∙ more_length bs (pre ++ b ∷ []) (is ++ y ∷ []) (even y)) some h
    ∙ ap (λ xs. slice_get xs (n % c)) (first z)
    ∙ get_more bs (pre ++ b ∷ []) (is ++ z ∷ []) (n % c) (even z) (mod-lt n some)
    ∙ ap (λ xs. Some xs) (append_assoc is (z ∷ []) (digits bs (n % c)))
    ∙ ap (λ xs. Some (is ++ z ∷ xs)) (digits_in_row bs n some)
    ∙ ap (λ j. Some (is ++ (b.lower +ℤ pos j) ∷ digits bs n)) (sym within)
  where
    inner : (a c n : ℕ) → n < a * c → 0 < c
    inner a zero n h = absurd (omega (arith, h))
    inner a (suc c) n h = omega arith

    quotient : (n c a : ℕ) → 0 < c → n < a * c → n / c < a
    quotient n c a some h = (div-lt_iff_lt-mul some).1 h

pub subscripts_there : (bs : List S.Bounds) (n : ℕ) → n < element_count bs → slice_get (all_subscripts bs) n ≡ Some (digits bs n)
subscripts_there bs n h = get_more bs [] [] n refl h

pub subscripts_past : (bs : List S.Bounds) (n : ℕ) → element_count bs ≤ n → slice_get (all_subscripts bs) n ≡ None
subscripts_past bs n h = let l = more_length bs [] [] refl in slice_get_past (all_subscripts bs) n (omega (arith, l, h))

-- ---- from the last dimension on

pub one_back : (xs : List Bounds) (left : ℕ) (blank : Bounds) → 0 < left → left ≤ length xs → map pair_of (drop (left - 1) xs) ≡ pair_of (get_or xs (left - 1) blank) ∷ map pair_of (drop left xs)
one_back xs left blank some low =
    let e : left - 1 + 1 ≡ left = omega arith in
    at_drop_more (λ (ys : List Bounds). map pair_of ys) xs (left - 1) blank (omega (arith, some, low)) ∙ ap (λ j. pair_of (get_or xs (left - 1) blank) ∷ map pair_of (drop j xs)) e

pub some_back : (b : S.Bounds) (bs all : List S.Bounds) (elements : ℕ) → all ≡ b ∷ bs → elements ≡ span b → (elements ≡ 0 → ⊥) → 0 < element_count bs → 0 < element_count all
some_back b bs all elements e s h some =
    let f : 0 < elements = grind (arith, h) in
    let g : 0 < span b = omega (arith, s, f) in
    let k : element_count all ≡ span b * element_count bs = ap element_count e in
    let p = mul-pos g some in
    omega (arith, k, p)

pub rows_back : (b : S.Bounds) (bs all : List S.Bounds) (elements rows n : ℕ) → all ≡ b ∷ bs → elements ≡ span b → rows ≡ n / element_count bs → rows / elements ≡ n / element_count all
rows_back b bs all elements rows n e s r =
    ap (λ j. j / elements) r
    ∙ div-div-eq-div-mul n (element_count bs) elements
    ∙ ap (λ j. n / (element_count bs * j)) s
    ∙ ap (λ j. n / j) (mul_comm (element_count bs) (span b))
    ∙ ap (λ ys. n / element_count ys) (sym e)

pub digits_back : (b : S.Bounds) (bs all : List S.Bounds) (elements rows n : ℕ) (d : ℤ) (old new : List ℤ) → all ≡ b ∷ bs → elements ≡ span b → rows ≡ n / element_count bs → d ≡ b.lower +ℤ pos (rows % elements) → new ≡ old ++ d ∷ [] → reverse old ≡ digits bs n → reverse new ≡ digits all n
digits_back b bs all elements rows n d old new e s r f g h =
    ap reverse g
    ∙ reverse-append old (d ∷ [])
    ∙ ap (λ xs. d ∷ xs) h
    ∙ ap (λ j. j ∷ digits bs n) (f ∙ ap (λ j. b.lower +ℤ pos (rows % j)) s ∙ ap (λ j. b.lower +ℤ pos (j % span b)) r)
    ∙ ap (λ ys. digits ys n) (sym e)

none_in : (xs : List Bounds) (k : ℕ) (blank : Bounds) → k < length xs → span (pair_of (get_or xs k blank)) ≡ 0 → element_count (map pair_of xs) ≡ 0
none_in [] k blank h e = absurd (omega (arith, h))
none_in (x ∷ xs) zero blank h e = ap (λ j. j * element_count (map pair_of xs)) e ∙ none (element_count (map pair_of xs))
  where
    none : (n : ℕ) → 0 * n ≡ 0
    none n = omega arith
none_in (x ∷ xs) (suc k) blank h e = ap (λ j. span (pair_of x) * j) (none_in xs k blank (omega (arith, h)) e) ∙ none (span (pair_of x))
  where
    none : (n : ℕ) → n * 0 ≡ 0
    none n = omega arith

pub none_there : (xs : List Bounds) (k elements n : ℕ) (blank : Bounds) → k < length xs → elements ≡ span (pair_of (get_or xs k blank)) → elements ≡ 0 → None ≡ slice_get (all_subscripts (map pair_of xs)) n
none_there xs k elements n blank h s z =
    let c = none_in xs k blank h (sym s ∙ z) in
    sym (subscripts_past (map pair_of xs) n (omega (arith, c)))

pub rows_left : (xs : List Bounds) (left rows n : ℕ) → left ≤ 0 → rows ≡ n / element_count (map pair_of (drop left xs)) → 0 < rows → None ≡ slice_get (all_subscripts (map pair_of xs)) n
rows_left xs left rows n z r h =
    let e : left ≡ 0 = omega (arith, z) in
    let c = element_count (map pair_of xs) in
    let q : rows ≡ n / c = r ∙ ap (λ j. n / element_count (map pair_of (drop j xs))) e in
    sym (subscripts_past (map pair_of xs) n (go (cases_lt n c) q))
  where
    go : (n < element_count (map pair_of xs)) ⊎ (element_count (map pair_of xs) ≤ n) → rows ≡ n / element_count (map pair_of xs) → element_count (map pair_of xs) ≤ n
    go (inl less) q = let d = div-eq_of_lt less in absurd (omega (arith, d, q, h))
    go (inr more) q = more

pub no_rows_left : (xs : List Bounds) (left rows n : ℕ) (old turned : List ℤ) → left ≤ 0 → 0 < element_count (map pair_of (drop left xs)) → rows ≡ n / element_count (map pair_of (drop left xs)) → rows ≤ 0 → reverse old ≡ digits (map pair_of (drop left xs)) n → turned ≡ reverse old
    → Some (take (length old) (turned ++ drop (length turned) old)) ≡ slice_get (all_subscripts (map pair_of xs)) n
no_rows_left xs left rows n old turned z some r none f t =
    let e : left ≡ 0 = omega (arith, z) in
    let c = element_count (map pair_of xs) in
    let q : rows ≡ n / c = r ∙ ap (λ j. n / element_count (map pair_of (drop j xs))) e in
    let k : element_count (map pair_of (drop left xs)) ≡ c = ap (λ j. element_count (map pair_of (drop j xs))) e in
    let least : 0 < c = omega (arith, some, k) in
    let zero_rows : n / c ≡ 0 = omega (arith, q, none) in
    let less : n < c = inside n c least zero_rows in
    let even : length turned ≡ length old = ap length t ∙ length-reverse old in
    ap (λ ys. Some ys) (take_at turned (drop (length turned) old) (length old) even ∙ t ∙ f ∙ ap (λ j. digits (map pair_of (drop j xs)) n) e)
    ∙ sym (subscripts_there (map pair_of xs) n less)
  where
    inside : (n c : ℕ) → 0 < c → n / c ≡ 0 → n < c
    inside n c least e =
        let h : n < n / c * c + c = lt-div-mul-add least in
        let f : n / c * c ≡ 0 = ap (λ j. j * c) e ∙ nothing c in
        omega (arith, h, f)
      where
        nothing : (m : ℕ) → 0 * m ≡ 0
        nothing m = omega arith
