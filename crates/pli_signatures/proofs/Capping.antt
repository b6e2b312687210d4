-- Products and sums that are capped at each step.
use Rattle.std.proofs.Common.{◌≡◌, ◌<◌, ◌≤◌, ◌⊎◌, inl, inr, ℕ, zero, suc, ◌+◌, ◌-◌, ◌≢◌, List, [], ◌∷◌, Option, Some, None, get_or, length, drop, map, ◌*◌, ◌^◌, refl, sym, ap, ◌∙◌, arith, true, false, Bool}
use Rattle.std.specs.Prelude.{nat_lt, ℤ, ◌-ℤ◌, int_le, ◌&&◌}
use Rattle.std.proofs.lemmas.Bool.Decides.{nat_tests}
use Rattle.std.proofs.lemmas.List.{at_drop_more, drop_all}
use Rattle.pli_typing.specs.Signatures as S
use Rattle.pli_typing.specs.Signatures.{capped, element_count, natural, span}
use Rattle.pli_meaning.specs.Contents.{is_within, element_place}
use Rattle.pli_signatures.specs.Elements.{place_within}
use Rattle.pli_types.specs.declared.signature.Bounds.{Bounds}
use Rattle.pli_types.specs.Templates.{bounds_so_far}
use Rattle.pli_types.specs.View.{bounds_of, pair_of}

pub few_or_many : (a : ℕ) → (a < 2 ^ 64) ⊎ (2 ^ 64 ≤ a)
few_or_many a = go (nat_lt a (2 ^ 64)) refl
  where
    go : (t : Bool) → nat_lt a (2 ^ 64) ≡ t → (a < 2 ^ 64) ⊎ (2 ^ 64 ≤ a)
    go true e = inl (grind (arith, nat_tests))
    go false e = inr (grind (arith, nat_tests))

pub capped_few : (a : ℕ) → a < 2 ^ 64 → capped a ≡ a
capped_few a h = omega arith

pub capped_many : (a : ℕ) → 2 ^ 64 ≤ a → capped a ≡ 2 ^ 64 - 1
capped_many a h = omega arith

none_times : (a b c : ℕ) → capped (a * 0 + c) ≡ capped (b * 0 + c)
none_times a b c = omega arith

many_times : (a k c : ℕ) → 2 ^ 64 ≤ a → capped ((2 ^ 64 - 1) * suc k + c) ≡ capped (a * suc k + c)
many_times a k c h = omega arith

-- a factor counts as far as it is capped, also where the other one is 0
pub capped_times : (a b c : ℕ) → capped (capped a * b + c) ≡ capped (a * b + c)
capped_times a zero c = none_times (capped a) a c
capped_times a (suc k) c =
    elim (few_or_many a) [ inl h ↦ ap (λ n. capped (n * suc k + c)) (capped_few a h) | inr h ↦ ap (λ n. capped (n * suc k + c)) (capped_many a h) ∙ many_times a k c h ]

both_false : (r : Bool) → (r && false) ≡ false
both_false true = refl
both_false false = refl

regroup : (a b c : ℕ) → capped (a * b * c + 0) ≡ capped (a * (b * c))
regroup a b c = omega arith

plain : (a b : ℕ) → capped (a * b) ≡ capped (a * b + 0)
plain a b = omega arith

-- a product that goes on
next_factor : (before r factor rest whole target : ℕ) → r ≡ capped (before * factor) → whole ≡ factor * rest → capped (before * whole) ≡ target → capped (r * rest) ≡ target
next_factor before r factor rest whole target e w h =
    ap (λ n. capped (n * rest)) e
    ∙ plain (capped (before * factor)) rest
    ∙ capped_times (before * factor) rest 0
    ∙ regroup before factor rest
    ∙ ap (λ n. capped (before * n)) (sym w)
    ∙ h

-- the elements of one more dimension
pub next_dimension : (xs : List Bounds) (i before elements r target : ℕ) (blank : Bounds) → i < length xs → elements ≡ span (pair_of (get_or xs i blank)) → r ≡ capped (before * elements)
    → capped (before * element_count (map pair_of (drop i xs))) ≡ target → capped (r * element_count (map pair_of (drop (i + 1) xs))) ≡ target
next_dimension xs i before elements r target blank inside s e h =
    let count = λ (bs : List Bounds). element_count (map pair_of bs) in
    next_factor before r elements (count (drop (i + 1) xs)) _ target e (at_drop_more count xs i blank inside ∙ ap (λ n. n * count (drop (i + 1) xs)) (sym s)) h

pub next_open : (xs : List (Option Bounds)) (i before elements r target : ℕ) (b : Bounds) → i < length xs → pair_of b ≡ bounds_so_far (bounds_of (get_or xs i None)) → elements ≡ span (pair_of b) → r ≡ capped (before * elements)
    → capped (before * element_count (map bounds_so_far (map bounds_of (drop i xs)))) ≡ target → capped (r * element_count (map bounds_so_far (map bounds_of (drop (i + 1) xs)))) ≡ target
next_open xs i before elements r target b inside item s e h =
    let count = λ (bs : List (Option Bounds)). element_count (map bounds_so_far (map bounds_of bs)) in
    next_factor before r elements (count (drop (i + 1) xs)) _ target e
    (at_drop_more count xs i None inside ∙ ap (λ n. n * count (drop (i + 1) xs)) (ap span (sym item) ∙ sym s)) h

pub fits_capped : (n m : ℕ) → n ≡ capped m → n ≡ capped n
fits_capped n m e = omega (arith, e)

-- ---- places

-- the subscript of one more dimension
one_row : (before elements within rows count rest : ℕ) → capped ((before * elements + within) * count + rest) ≡ capped (before * (elements * count) + (within * count + rest))
one_row before elements within rows count rest = omega arith

sum_capped : (a b : ℕ) → capped (capped a + b) ≡ capped (a + b)
sum_capped a b = omega arith

pub next_row : (before elements within rows place count rest target : ℕ) → rows ≡ capped (before * elements) → place ≡ capped (rows + within)
    → capped (before * (elements * count) + (within * count + rest)) ≡ target → capped (place * count + rest) ≡ target
next_row before elements within rows place count rest target r p h =
    let here : place ≡ capped (before * elements + within) = p ∙ ap (λ n. capped (n + within)) r ∙ sum_capped (before * elements) within in
    ap (λ n. capped (n * count + rest)) here
    ∙ capped_times (before * elements + within) count rest
    ∙ one_row before elements within rows count rest
    ∙ h

abbrev pub left_over : (before : ℕ) → List Bounds → List ℤ → ℕ
left_over before bs is = capped (before * element_count (map pair_of bs) + element_place (map pair_of bs) is)

pub next_subscript : (xs : List Bounds) (is : List ℤ) (k before elements within rows place target : ℕ) (blank : Bounds) (none : ℤ) → k < length xs → length xs ≡ length is
    → elements ≡ span (pair_of (get_or xs k blank)) → within ≡ natural (get_or is k none -ℤ (pair_of (get_or xs k blank)).lower)
    → rows ≡ capped (before * elements) → place ≡ capped (rows + within)
    → left_over before (drop k xs) (drop k is) ≡ target → left_over place (drop (k + 1) xs) (drop (k + 1) is) ≡ target
next_subscript xs is k before elements within rows place target blank none inside even e w r p h =
    let count = element_count (map pair_of (drop (k + 1) xs)) in
    let rest = element_place (map pair_of (drop (k + 1) xs)) (drop (k + 1) is) in
    let open_xs = at_drop_more (λ (bs : List Bounds). left_over before bs (drop k is)) xs k blank inside in
    let open_is = at_drop_more (λ (js : List ℤ). left_over before (get_or xs k blank ∷ drop (k + 1) xs) js) is k none (omega (arith, inside, even)) in
    next_row before elements within rows place count rest target r p
    (ap (λ n. capped (before * (n * count) + (within * count + rest))) e
    ∙ ap (λ n. capped (before * (span (pair_of (get_or xs k blank)) * count) + (n * count + rest))) w
    ∙ sym open_is
    ∙ sym open_xs
    ∙ h)

pub no_subscript : (xs : List Bounds) (is : List ℤ) (k place target : ℕ) → length xs ≤ k → place ≡ capped place → left_over place (drop k xs) (drop k is) ≡ target → place ≡ target
no_subscript xs is k place target out fits h =
    let all = drop_all k xs out in
    let one : left_over place [] (drop k is) ≡ capped place = omega arith in
    fits ∙ sym one ∙ ap (λ (bs : List Bounds). left_over place bs (drop k is)) (sym all) ∙ h

pub all_subscripts_start : (xs : List Bounds) (is : List ℤ) → left_over 0 xs is ≡ capped (element_place (map pair_of xs) is)
all_subscripts_start xs is = omega arith

pub within_uneven : (xs : List Bounds) (is : List ℤ) → length xs ≢ length is → false ≡ is_within (map pair_of xs) is
within_uneven [] [] h = absurd (h refl)
within_uneven [] (i ∷ is) h = refl
within_uneven (b ∷ bs) [] h = refl
within_uneven (b ∷ bs) (i ∷ is) h =
    let low = int_le (pair_of b).lower i in
    let high = int_le i (pair_of b).upper in
    sym (both_false low) ∙ ap (λ t. low && t) (sym (both_false high) ∙ ap (λ t. high && t) (within_uneven bs is (λ e. h (ap suc e))))

pub place_outside : (bs : List S.Bounds) (is : List ℤ) → is_within bs is ≡ false → place_within bs is ≡ None
place_outside bs is h = rw h refl

pub place_inside : (bs : List S.Bounds) (is : List ℤ) → is_within bs is ≡ true → place_within bs is ≡ Some (capped (element_place bs is))
place_inside bs is h = rw h refl
