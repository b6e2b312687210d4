-- Elements of arrays: what the word of a subscript tells of its bounds, and the places of elements row by row.
use Rattle.std.proofs.Common.{◌≡◌, ℕ, suc, ◌+◌, ◌*◌, ◌^◌, ◌<◌, ◌≤◌, ◌⊎◌, inl, inr, List, [], ◌∷◌, Bool, true, false, refl, sym, ap, ◌∙◌, subst, arith}
use Rattle.std.specs.Prelude.{ℤ, pos, negsuc, neg_ℤ, ◌-ℤ◌, ◌+ℤ◌, int_le, nat_lt, not, ◌&&◌}
use Rattle.std.proofs.lemmas.Int.{ints}
use Rattle.std.proofs.lemmas.Bool.{cases_lt}
use Rattle.std.proofs.lemmas.Bool.Decides.{nat_tests}
use Rattle.std.proofs.Math.Nat.{add-mul, mul-le-mul_right}
use Rattle.rv_meaning.specs.Words.{word, sum}
use Rattle.pli_typing.specs.Signatures.{Bounds, natural, span, element_count}
use Rattle.pli_meaning.specs.Contents.{same_int, same_subscripts, is_within, element_place}
use Rattle.pli_headline.specs.ProvedSoFar.{IsBounds, AreBounds}
use Rattle.run_steps.specs.Numbers.{IsWide}

-- ---- bounds

-- a subscript of a dimension
abbrev pub is_between : Bounds → ℤ → Bool
is_between b i = int_le b.lower i && int_le i b.upper

abbrev pub AllWide : List ℤ → Type 0
AllWide [] = Unit {0}
AllWide (z ∷ zs) = IsWide z × AllWide zs

-- ---- one subscript

-- its distance from the lower bound, as the code leaves it
abbrev pub distance_word : Bounds → ℤ → ℕ
distance_word b i = sum (word i) (word (neg_ℤ b.lower))

tested_by : (i l u : ℤ) → IsWide i → IsWide l → IsWide u → int_le l u ≡ true → nat_lt (word (u -ℤ l)) (sum (word i) (word (neg_ℤ l))) ≡ not (int_le l i && int_le i u)
tested_by (pos i) (pos l) (pos u) wi wl wu e = grind (arith, ints, nat_tests)
tested_by (pos i) (pos l) (negsuc u) wi wl wu e = absurd (cc e)
tested_by (pos i) (negsuc l) (pos u) wi wl wu e = grind (arith, ints, nat_tests)
tested_by (pos i) (negsuc l) (negsuc u) wi wl wu e = grind (arith, ints, nat_tests)
tested_by (negsuc i) (pos l) (pos u) wi wl wu e = grind (arith, ints, nat_tests)
tested_by (negsuc i) (pos l) (negsuc u) wi wl wu e = absurd (cc e)
tested_by (negsuc i) (negsuc l) (pos u) wi wl wu e = grind (arith, ints, nat_tests)
tested_by (negsuc i) (negsuc l) (negsuc u) wi wl wu e = grind (arith, ints, nat_tests)

-- the code's test is that of the bounds
pub between_tested : (b : Bounds) (i : ℤ) → IsBounds b → IsWide i → nat_lt (word (b.upper -ℤ b.lower)) (distance_word b i) ≡ not (is_between b i)
between_tested b i is wide = tested_by i b.lower b.upper wide is.0 is.1.0 is.1.1

distance_by : (i l : ℤ) → IsWide i → IsWide l → int_le l i ≡ true → sum (word i) (word (neg_ℤ l)) ≡ natural (i -ℤ l)
distance_by (pos i) (pos l) wi wl e = grind (arith, ints, nat_tests)
distance_by (pos i) (negsuc l) wi wl e = grind (arith, ints, nat_tests)
distance_by (negsuc i) (pos l) wi wl e = absurd (cc e)
distance_by (negsuc i) (negsuc l) wi wl e = grind (arith, ints, nat_tests)

pub lower_first : (p q : Bool) → p && q ≡ true → p ≡ true
lower_first true q e = refl
lower_first false q e = e

pub upper_second : (p q : Bool) → p && q ≡ true → q ≡ true
upper_second true q e = e
upper_second false q e = absurd (cc e)

pub distance_is : (b : Bounds) (i : ℤ) → IsBounds b → IsWide i → is_between b i ≡ true → distance_word b i ≡ natural (i -ℤ b.lower)
distance_is b i is wide e = distance_by i b.lower wide is.0 (lower_first (int_le b.lower i) (int_le i b.upper) e)

pub opposite_small : (z : ℤ) → IsWide z → word (neg_ℤ z) < 2 ^ 32
opposite_small (pos n) h = grind (arith, ints, nat_tests)
opposite_small (negsuc n) h = grind (arith, ints, nat_tests)

range_by : (l u : ℤ) → IsWide l → IsWide u → int_le l u ≡ true → word (u -ℤ l) < 2 ^ 32
range_by (pos l) (pos u) wl wu e = grind (arith, ints, nat_tests)
range_by (pos l) (negsuc u) wl wu e = absurd (cc e)
range_by (negsuc l) (pos u) wl wu e = grind (arith, ints, nat_tests)
range_by (negsuc l) (negsuc u) wl wu e = grind (arith, ints, nat_tests)

pub range_small : (b : Bounds) → IsBounds b → word (b.upper -ℤ b.lower) < 2 ^ 32
range_small b is = range_by b.lower b.upper is.0 is.1.0 is.1.1

-- how many subscripts a dimension has
span_by : (l u : ℤ) → IsWide l → IsWide u → int_le l u ≡ true → natural (u -ℤ l +ℤ pos 1) ≡ word (u -ℤ l) + 1
span_by (pos l) (pos u) wl wu e = grind (arith, ints, nat_tests)
span_by (pos l) (negsuc u) wl wu e = absurd (cc e)
span_by (negsuc l) (pos u) wl wu e = grind (arith, ints, nat_tests)
span_by (negsuc l) (negsuc u) wl wu e = grind (arith, ints, nat_tests)

pub span_is : (b : Bounds) → IsBounds b → span b ≡ word (b.upper -ℤ b.lower) + 1
span_is b is = span_by b.lower b.upper is.0 is.1.0 is.1.1

inside_by : (i l u : ℤ) → int_le l i ≡ true → int_le i u ≡ true → natural (i -ℤ l) < natural (u -ℤ l +ℤ pos 1)
inside_by (pos i) (pos l) (pos u) e f = grind (arith, ints, nat_tests)
inside_by (pos i) (pos l) (negsuc u) e f = absurd (cc f)
inside_by (pos i) (negsuc l) (pos u) e f = grind (arith, ints, nat_tests)
inside_by (pos i) (negsuc l) (negsuc u) e f = absurd (cc f)
inside_by (negsuc i) (pos l) u e f = absurd (cc e)
inside_by (negsuc i) (negsuc l) (pos u) e f = grind (arith, ints, nat_tests)
inside_by (negsuc i) (negsuc l) (negsuc u) e f = grind (arith, ints, nat_tests)

pub inside_span : (b : Bounds) (i : ℤ) → is_between b i ≡ true → natural (i -ℤ b.lower) < span b
inside_span b i e =
    inside_by i b.lower b.upper (lower_first (int_le b.lower i) (int_le i b.upper) e) (upper_second (int_le b.lower i) (int_le i b.upper) e)

-- ---- row by row

pub suc-times : (x n : ℕ) → suc x * n ≡ x * n + n
suc-times x n = let e = add-mul x 1 n in let f : suc x ≡ x + 1 = omega arith in ap (λ u. u * n) f ∙ e ∙ omega arith

pub row_below : (x n y m : ℕ) → x < n → y < m → x * m + y < n * m
row_below x n y m h k =
    let rows : suc x * m ≤ n * m = mul-le-mul_right m (omega (arith, h)) in
    let one = suc-times x m in
    omega (arith, rows, one, k)

both_first : (p q r : Bool) → p && (q && r) ≡ (p && q) && r
both_first true q r = refl
both_first false q r = refl

product_some : (x n : ℕ) → 0 < n → suc x * n ≡ x * n + n → 0 < suc x * n
product_some x n h e = omega (arith, h, e)

-- no dimension is empty
pub span_some : (b : Bounds) → IsBounds b → 0 < span b
span_some b is = let spans = span_is b is in omega (arith, spans)

pub count_some : (bs : List Bounds) → AreBounds bs → 0 < element_count bs
count_some [] are = omega arith
count_some (b ∷ bs) are =
    let x = word (b.upper -ℤ b.lower) in
    let spans = span_is b are.0 in
    let more : span b ≡ suc x = omega (arith, spans) in
    let some = product_some x (element_count bs) (count_some bs are.1) (suc-times x (element_count bs)) in
    subst (λ u. 0 < u * element_count bs) (sym more) some

-- one dimension before the others
pub within_next : (b : Bounds) (bs : List Bounds) (i : ℤ) (is : List ℤ) → is_within (b ∷ bs) (i ∷ is) ≡ is_between b i && is_within bs is
within_next b bs i is = both_first (int_le b.lower i) (int_le i b.upper) (is_within bs is)

-- an element stands among those of its leaf
pub place_inside : (bs : List Bounds) (is : List ℤ) → is_within bs is ≡ true → element_place bs is < element_count bs
place_inside [] [] e = omega arith
place_inside [] (i ∷ is) e = absurd (cc e)
place_inside (b ∷ bs) [] e = absurd (cc e)
place_inside (b ∷ bs) (i ∷ is) e =
    let both = sym (within_next b bs i is) ∙ e in
    row_below (natural (i -ℤ b.lower)) (span b) (element_place bs is) (element_count bs) (inside_span b i (lower_first (is_between b i) (is_within bs is) both))
    (place_inside bs is (upper_second (is_between b i) (is_within bs is) both))

-- ---- each place is that of one element

row_before : (x x' y y' m : ℕ) → y < m → x < x' → x * m + y < x' * m + y'
row_before x x' y y' m h k =
    let rows : suc x * m ≤ x' * m = mul-le-mul_right m (omega (arith, k)) in
    let one = suc-times x m in
    omega (arith, rows, one, h)

pub row_same : (x x' y y' m : ℕ) → y < m → y' < m → x * m + y ≡ x' * m + y' → x ≡ x'
row_same x x' y y' m h k e = by_order (cases_lt x x') (cases_lt x' x)
  where
    by_order : (x < x') ⊎ (x' ≤ x) → (x' < x) ⊎ (x ≤ x') → x ≡ x'
    by_order (inl less) other = let r = row_before x x' y y' m h less in absurd (omega (arith, r, e))
    by_order (inr most) (inl less) = let r = row_before x' x y' y m k less in absurd (omega (arith, r, e))
    by_order (inr most) (inr least) = omega (arith, most, least)

pub column_same : (x x' y y' m : ℕ) → x ≡ x' → x * m + y ≡ x' * m + y' → y ≡ y'
column_same x x' y y' m e f = let g = ap (λ u. u * m) e in omega (arith, f, g)

same_distance : (i j l : ℤ) → int_le l i ≡ true → int_le l j ≡ true → natural (i -ℤ l) ≡ natural (j -ℤ l) → same_int i j ≡ true
same_distance (pos i) (pos j) (pos l) e f g = grind (arith, ints, nat_tests)
same_distance (pos i) (pos j) (negsuc l) e f g = grind (arith, ints, nat_tests)
same_distance (pos i) (negsuc j) (pos l) e f g = absurd (cc f)
same_distance (pos i) (negsuc j) (negsuc l) e f g = grind (arith, ints, nat_tests)
same_distance (negsuc i) j (pos l) e f g = absurd (cc e)
same_distance (negsuc i) (pos j) (negsuc l) e f g = grind (arith, ints, nat_tests)
same_distance (negsuc i) (negsuc j) (negsuc l) e f g = grind (arith, ints, nat_tests)

pub and_true : (p q : Bool) → p ≡ true → q ≡ true → p && q ≡ true
and_true p q e f = ap (λ u. u && q) e ∙ f

pub same_place : (bs : List Bounds) (is js : List ℤ) → is_within bs is ≡ true → is_within bs js ≡ true → element_place bs is ≡ element_place bs js → same_subscripts is js ≡ true
same_place [] [] [] e f g = refl
same_place [] [] (j ∷ js) e f g = absurd (cc f)
same_place [] (i ∷ is) js e f g = absurd (cc e)
same_place (b ∷ bs) [] js e f g = absurd (cc e)
same_place (b ∷ bs) (i ∷ is) [] e f g = absurd (cc f)
same_place (b ∷ bs) (i ∷ is) (j ∷ js) e f g =
    let m = element_count bs in
    let x = natural (i -ℤ b.lower) in
    let x' = natural (j -ℤ b.lower) in
    let first = sym (within_next b bs i is) ∙ e in
    let second = sym (within_next b bs j js) ∙ f in
    let rest = upper_second (is_between b i) (is_within bs is) first in
    let rest' = upper_second (is_between b j) (is_within bs js) second in
    let above = lower_first (int_le b.lower i) (int_le i b.upper) (lower_first (is_between b i) (is_within bs is) first) in
    let above' = lower_first (int_le b.lower j) (int_le j b.upper) (lower_first (is_between b j) (is_within bs js) second) in
    let row = row_same x x' (element_place bs is) (element_place bs js) m (place_inside bs is rest) (place_inside bs js rest') g in
    and_true (same_int i j) (same_subscripts is js) (same_distance i j b.lower above above' row)
    (same_place bs is js rest rest' (column_same x x' (element_place bs is) (element_place bs js) m row g))

pub same_number : (i j : ℤ) → same_int i j ≡ true → i ≡ j
same_number (pos i) (pos j) e = let f : i ≡ j = grind (arith, nat_tests) in ap pos f
same_number (pos i) (negsuc j) e = absurd (cc e)
same_number (negsuc i) (pos j) e = absurd (cc e)
same_number (negsuc i) (negsuc j) e = let f : i ≡ j = grind (arith, nat_tests) in ap negsuc f

pub subscripts_same : (is js : List ℤ) → same_subscripts is js ≡ true → is ≡ js
subscripts_same [] [] e = refl
subscripts_same [] (j ∷ js) e = absurd (cc e)
subscripts_same (i ∷ is) [] e = absurd (cc e)
subscripts_same (i ∷ is) (j ∷ js) e =
    ap (λ u. u ∷ is) (same_number i j (lower_first (same_int i j) (same_subscripts is js) e))
    ∙ ap (λ u. j ∷ u) (subscripts_same is js (upper_second (same_int i j) (same_subscripts is js) e))
