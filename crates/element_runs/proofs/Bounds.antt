-- What the word of a subscript tells of its bounds, and the places of elements.
use Rattle.std.proofs.Common.{◌≡◌, ℕ, ◌^◌, ◌<◌, [], ◌∷◌, Bool, true, false, refl, ap, arith}
use Rattle.std.specs.Prelude.{ℤ, pos, negsuc, neg_ℤ, ◌-ℤ◌, ◌+ℤ◌, int_le, nat_lt, not, ◌&&◌}
use Rattle.std.proofs.lemmas.Int.{ints}
use Rattle.std.proofs.lemmas.Bool.Decides.{nat_tests}
use Rattle.rv_meaning.specs.Words.{word, sum}
use Rattle.pli_typing.specs.Signatures.{Bounds, natural, span}
use Rattle.pli_meaning.specs.Contents.{is_within, same_int}
use Rattle.run_steps.specs.Numbers.{IsWide}
use Rattle.element_runs.specs.Arrays.{IsBounds}

abbrev pub is_between : Bounds → ℤ → Bool
is_between b i = int_le b.lower i && int_le i b.upper

-- its distance from the lower bound, as the code leaves it
abbrev pub distance_word : Bounds → ℤ → ℕ
distance_word b i = sum (word i) (word (neg_ℤ b.lower))

-- the place of its element
abbrev pub place_at : Bounds → ℤ → ℕ
place_at b i = natural (i -ℤ b.lower)

tested_by :
    (i l u : ℤ) → IsWide i → IsWide l → IsWide u → int_le l u ≡ true →
    nat_lt (word (u -ℤ l)) (sum (word i) (word (neg_ℤ l))) ≡ not (int_le l i && int_le i u)
tested_by (pos i) (pos l) (pos u) wi wl wu e = grind (arith, ints, nat_tests)
tested_by (pos i) (pos l) (negsuc u) wi wl wu e = absurd (cc e)
tested_by (pos i) (negsuc l) (pos u) wi wl wu e = grind (arith, ints, nat_tests)
tested_by (pos i) (negsuc l) (negsuc u) wi wl wu e = grind (arith, ints, nat_tests)
tested_by (negsuc i) (pos l) (pos u) wi wl wu e = grind (arith, ints, nat_tests)
tested_by (negsuc i) (pos l) (negsuc u) wi wl wu e = absurd (cc e)
tested_by (negsuc i) (negsuc l) (pos u) wi wl wu e = grind (arith, ints, nat_tests)
tested_by (negsuc i) (negsuc l) (negsuc u) wi wl wu e = grind (arith, ints, nat_tests)

-- the code's test is that of the bounds
pub between_tested :
    (b : Bounds) (i : ℤ) → IsBounds b → IsWide i →
    nat_lt (word (b.upper -ℤ b.lower)) (distance_word b i) ≡ not (is_between b i)
between_tested b i is wide = tested_by i b.lower b.upper wide is.lower is.upper is.order

distance_by :
    (i l : ℤ) → IsWide i → IsWide l → int_le l i ≡ true → sum (word i) (word (neg_ℤ l)) ≡ natural (i -ℤ l)
distance_by (pos i) (pos l) wi wl e = grind (arith, ints, nat_tests)
distance_by (pos i) (negsuc l) wi wl e = grind (arith, ints, nat_tests)
distance_by (negsuc i) (pos l) wi wl e = absurd (cc e)
distance_by (negsuc i) (negsuc l) wi wl e = grind (arith, ints, nat_tests)

lower_first : (p q : Bool) → p && q ≡ true → p ≡ true
lower_first true q e = refl
lower_first false q e = e

upper_second : (p q : Bool) → p && q ≡ true → q ≡ true
upper_second true q e = e
upper_second false q e = absurd (cc e)

pub distance_is :
    (b : Bounds) (i : ℤ) → IsBounds b → IsWide i → is_between b i ≡ true → distance_word b i ≡ place_at b i
distance_is b i is wide e = distance_by i b.lower wide is.lower (lower_first (int_le b.lower i) (int_le i b.upper) e)

opposite_by : (z : ℤ) → IsWide z → word (neg_ℤ z) < 2 ^ 32
opposite_by (pos n) h = grind (arith, ints, nat_tests)
opposite_by (negsuc n) h = grind (arith, ints, nat_tests)

pub opposite_small : (b : Bounds) → IsBounds b → word (neg_ℤ b.lower) < 2 ^ 32
opposite_small b is = opposite_by b.lower is.lower

range_by : (l u : ℤ) → IsWide l → IsWide u → int_le l u ≡ true → word (u -ℤ l) < 2 ^ 32
range_by (pos l) (pos u) wl wu e = grind (arith, ints, nat_tests)
range_by (pos l) (negsuc u) wl wu e = absurd (cc e)
range_by (negsuc l) (pos u) wl wu e = grind (arith, ints, nat_tests)
range_by (negsuc l) (negsuc u) wl wu e = grind (arith, ints, nat_tests)

pub range_small : (b : Bounds) → IsBounds b → word (b.upper -ℤ b.lower) < 2 ^ 32
range_small b is = range_by b.lower b.upper is.lower is.upper is.order

inside_by :
    (i l u : ℤ) → int_le l i ≡ true → int_le i u ≡ true → natural (i -ℤ l) < natural (u -ℤ l +ℤ pos 1)
inside_by (pos i) (pos l) (pos u) e f = grind (arith, ints, nat_tests)
inside_by (pos i) (pos l) (negsuc u) e f = absurd (cc f)
inside_by (pos i) (negsuc l) (pos u) e f = grind (arith, ints, nat_tests)
inside_by (pos i) (negsuc l) (negsuc u) e f = absurd (cc f)
inside_by (negsuc i) (pos l) u e f = absurd (cc e)
inside_by (negsuc i) (negsuc l) (pos u) e f = grind (arith, ints, nat_tests)
inside_by (negsuc i) (negsuc l) (negsuc u) e f = grind (arith, ints, nat_tests)

pub inside_span : (b : Bounds) (i : ℤ) → is_between b i ≡ true → place_at b i < span b
inside_span b i e =
    inside_by i b.lower b.upper (lower_first (int_le b.lower i) (int_le i b.upper) e)
    (upper_second (int_le b.lower i) (int_le i b.upper) e)

both_first : (p q : Bool) → p && (q && true) ≡ p && q
both_first true true = refl
both_first true false = refl
both_first false q = refl

-- one dimension
pub within_is : (b : Bounds) (i : ℤ) → is_within (b ∷ []) (i ∷ []) ≡ is_between b i
within_is b i = both_first (int_le b.lower i) (int_le i b.upper)

pub same_number : (i j : ℤ) → same_int i j ≡ true → i ≡ j
same_number (pos i) (pos j) e = let f : i ≡ j = grind (arith, nat_tests) in ap pos f
same_number (pos i) (negsuc j) e = absurd (cc e)
same_number (negsuc i) (pos j) e = absurd (cc e)
same_number (negsuc i) (negsuc j) e = let f : i ≡ j = grind (arith, nat_tests) in ap negsuc f

pub number_itself : (z : ℤ) → same_int z z ≡ true
number_itself (pos n) = grind (arith, nat_tests)
number_itself (negsuc n) = grind (arith, nat_tests)
