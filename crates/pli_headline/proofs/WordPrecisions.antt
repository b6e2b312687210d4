-- The lowest bits of a word, with their sign: they are the whole word just where its number has so few bits.
use Rattle.std.proofs.Common.{◌≡◌, ℕ, zero, suc, ◌+◌, ◌-◌, ◌*◌, ◌/◌, ◌%◌, ◌^◌, ◌<◌, ◌≤◌, ◌⊎◌, inl, inr, Bool, true, false, refl, sym, ap, ◌∙◌, arith}
use Rattle.std.specs.Prelude.{ℤ, pos, negsuc, neg_ℤ, int_div, nat_lt, ◌==◌}
use Rattle.std.proofs.Math.Nat.{add-mul, pow-le-pow_right, mod-eq_of_lt, mul-le-mul, mul-lt-mul_of_pos_right, mul-div_cancel, mul-add-div_right, div-eq_of_lt, div-le_self, div-lt_iff_lt-mul}
use Rattle.std.proofs.lemmas.Nat.{pow_pos, pow-add}
use Rattle.std.proofs.lemmas.Int.{ints}
use Rattle.std.proofs.lemmas.Bool.{eq-eqb}
use Rattle.std.proofs.lemmas.Bool.Decides.{nat_tests}
use Rattle.rv_meaning.specs.Words.{word, signed, shifted_left, shifted_down, shifted_right_signed}
use Rattle.pli_meaning.specs.Numbers.{is_of_precision}
use Rattle.run_steps.specs.Numbers.{IsWide}

-- the lowest 32 - k bits
abbrev pub narrowed : (k w : ℕ) → ℕ
narrowed k w = shifted_right_signed (shifted_left w k) k

-- a number that is a word, or the one above the greatest
abbrev pub IsWord : ℤ → Type 0
IsWord (pos n) = n ≤ 2 ^ 31
IsWord (negsuc n) = n < 2 ^ 31

pub wide_word : (z : ℤ) → IsWide z → IsWord z
wide_word (pos n) h = grind (arith, nat_tests)
wide_word (negsuc n) h = grind (arith, nat_tests)

-- ---- by a divisor

abbrev down_by : ℕ → ℤ → ℤ
down_by m (pos n) = pos (n / m)
down_by m (negsuc n) = negsuc (n / m)

abbrev lowest_by : (m w : ℕ) → ℕ
lowest_by m w = word (down_by m (signed (w * m % 2 ^ 32)))

down_is : (z : ℤ) (k : ℕ) → shifted_down z k ≡ down_by (2 ^ k) z
down_is (pos n) k = refl
down_is (negsuc n) k = refl

narrowed_is : (k w : ℕ) → narrowed k w ≡ lowest_by (2 ^ k) w
narrowed_is k w = ap word (down_is (signed (shifted_left w k)) k)

signed_low : (x : ℕ) → x < 2 ^ 31 → signed x ≡ pos x
signed_low x h = grind (arith, ints, nat_tests)

signed_high : (x : ℕ) → 2 ^ 31 ≤ x → x < 2 ^ 32 → signed x ≡ negsuc (2 ^ 32 - suc x)
signed_high x h i = grind (arith, ints, nat_tests)

-- ---- bits that are enough

positive_kept : (m p n : ℕ) → 0 < m → m * p ≡ 2 ^ 31 → n < p → lowest_by m n ≡ n
positive_kept m p n some all h =
    let l : n * m < p * m = mul-lt-mul_of_pos_right h some in
    let below : n * m < 2 ^ 31 = omega (arith, l, all) in
    let e : n * m % 2 ^ 32 ≡ n * m = mod-eq_of_lt (omega (arith, below)) in
    ap (λ u. word (down_by m (signed u))) e
    ∙ ap (λ u. word (down_by m u)) (signed_low (n * m) below)
    ∙ mul-div_cancel n some

turned_product : (u v m : ℕ) → u + v ≡ 2 ^ 32 * m → 0 < v → v ≤ 2 ^ 31 → 0 < m → u % 2 ^ 32 ≡ 2 ^ 32 - v
turned_product u v m e some most h = omega (arith, e, some, most, h)

next_product : (n m : ℕ) → suc n * m ≡ n * m + m
next_product n m = omega arith

lowest_left : (n m : ℕ) → 0 < m → (n * m + (m - 1)) / m ≡ n
lowest_left n m some =
    let z : (m - 1) / m ≡ 0 = div-eq_of_lt (omega (arith, some)) in
    mul-add-div_right some n (m - 1) ∙ ap (λ u. n + u) z ∙ omega arith

negative_kept : (m p n : ℕ) → 0 < m → m * p ≡ 2 ^ 31 → n < p → n < 2 ^ 31 → lowest_by m (2 ^ 32 - suc n) ≡ 2 ^ 32 - suc n
negative_kept m p n some all h small' =
    let c = suc n in
    let v = c * m in
    let u = (2 ^ 32 - c) * m in
    let most : v ≤ p * m = mul-le-mul h (omega arith) in
    let most' : v ≤ 2 ^ 31 = omega (arith, most, all) in
    let next' = next_product n m in
    let few : 0 < v = omega (arith, next', some) in
    let both : u + v ≡ (2 ^ 32 - c + c) * m = sym (add-mul (2 ^ 32 - c) c m) in
    let whole : (2 ^ 32 - c + c) * m ≡ 2 ^ 32 * m = ap (λ x. x * m) (omega (arith, small')) in
    let e = turned_product u v m (both ∙ whole) few most' some in
    let q : 2 ^ 32 - suc (2 ^ 32 - v) ≡ n * m + (m - 1) = omega (arith, next', few, most', some) in
    ap (λ x. word (down_by m (signed x))) e
    ∙ ap (λ x. word (down_by m x)) (signed_high (2 ^ 32 - v) (omega (arith, most')) (omega (arith, few)))
    ∙ ap (λ x. word (negsuc (x / m))) q
    ∙ ap (λ x. word (negsuc x)) (lowest_left n m some)

-- ---- bits that are too few

-- the lowest bits are a small number, or a small one below 0
lowest_bounds : (m p x : ℕ) → 0 < m → 0 < p → m * p ≡ 2 ^ 31 → x < 2 ^ 32 → (q : Bool) → nat_lt x (2 ^ 31) ≡ q → (word (down_by m (signed x)) < p) ⊎ (2 ^ 32 - p ≤ word (down_by m (signed x)))
lowest_bounds m p x some few all below true e =
    let low : x < 2 ^ 31 = grind (arith, nat_tests) in
    let l : x / m < p = (div-lt_iff_lt-mul some).1 (omega (arith, low, all)) in
    let s = signed_low x low in
    inl (rw s l)
lowest_bounds m p x some few all below false e =
    let high : 2 ^ 31 ≤ x = grind (arith, nat_tests) in
    let y = 2 ^ 32 - suc x in
    let l : y / m < p = (div-lt_iff_lt-mul some).1 (omega (arith, high, all, below)) in
    let s = signed_high x high below in
    inr (rw s (omega (arith, l)))

outside : (p w r : ℕ) → (r < p) ⊎ (2 ^ 32 - p ≤ r) → p ≤ w → w < 2 ^ 32 - p → (r == w) ≡ false
outside p w r (inl l) h i = grind (arith, nat_tests)
outside p w r (inr l) h i = grind (arith, nat_tests)

lost : (m p w : ℕ) → 0 < m → 0 < p → m * p ≡ 2 ^ 31 → p ≤ w → w < 2 ^ 32 - p → (lowest_by m w == w) ≡ false
lost m p w some few all h i =
    let x = w * m % 2 ^ 32 in
    outside p w (lowest_by m w) (lowest_bounds m p x some few all (omega arith) (nat_lt x (2 ^ 31)) refl) h i

-- ---- the test

abbrev pub below : ℕ → ℤ → Bool
below m (pos n) = nat_lt n m
below m (negsuc n) = nat_lt n m

tested_by : (m p : ℕ) (q : Bool) (z : ℤ) → 0 < m → 0 < p → p ≤ 2 ^ 30 → m * p ≡ 2 ^ 31 → IsWord z → below p z ≡ q → (lowest_by m (word z) == word z) ≡ q
tested_by m p true (pos n) some few most all w e =
    eq-eqb _ _ (positive_kept m p n some all (grind (arith, nat_tests)))
tested_by m p false (pos n) some few most all w e =
    lost m p n some few all (grind (arith, nat_tests)) (omega (arith, w, most))
tested_by m p true (negsuc n) some few most all w e =
    eq-eqb _ _ (negative_kept m p n some all (grind (arith, nat_tests)) w)
tested_by m p false (negsuc n) some few most all w e =
    let over : p ≤ n = grind (arith, nat_tests) in
    lost m p (2 ^ 32 - suc n) some few all (omega (arith, w, most)) (omega (arith, over, w, few))

pub below_is : (p : ℕ) (z : ℤ) → is_of_precision p z ≡ below (2 ^ p) z
below_is p (pos n) = refl
below_is p (negsuc n) = refl

pub narrowed_tested : (q : Bool) (p : ℕ) (z : ℤ) → nat_lt p 31 ≡ true → IsWord z → is_of_precision p z ≡ q → (narrowed (31 - p) (word z) == word z) ≡ q
narrowed_tested q p z less w e =
    let l : p < 31 = grind (arith, nat_tests) in
    let k = 31 - p in
    let total : k + p ≡ 31 = omega (arith, l) in
    let all : 2 ^ k * 2 ^ p ≡ 2 ^ 31 = sym (pow-add 2 k p) ∙ ap (λ u. 2 ^ u) total in
    let two : 0 < 2 = omega arith in
    let fewer : p ≤ 30 = omega (arith, l) in
    let most : 2 ^ p ≤ 2 ^ 30 = pow-le-pow_right two fewer in
    ap (λ u. u == word z) (narrowed_is k (word z))
    ∙ tested_by (2 ^ k) (2 ^ p) q z (pow_pos k) (pow_pos p) most all w (sym (below_is p z) ∙ e)

-- fewer bits than 31 are enough for 31
pub narrow_wide : (p : ℕ) (z : ℤ) → nat_lt p 31 ≡ true → is_of_precision p z ≡ true → IsWide z
narrow_wide p z less e =
    let l : p < 31 = grind (arith, nat_tests) in
    let two : 0 < 2 = omega arith in
    let fewer : p ≤ 31 = omega (arith, l) in
    let most : 2 ^ p ≤ 2 ^ 31 = pow-le-pow_right two fewer in
    by_size (2 ^ p) z most (sym (below_is p z) ∙ e)
  where
    by_size : (m : ℕ) (z : ℤ) → m ≤ 2 ^ 31 → below m z ≡ true → IsWide z
    by_size m (pos n) h e = grind (arith, nat_tests)
    by_size m (negsuc n) h e = grind (arith, nat_tests)

-- ---- quotients

opposite_word : (m : ℕ) → m ≤ 2 ^ 31 → IsWord (neg_ℤ (pos m))
opposite_word zero h = omega arith
opposite_word (suc m) h = omega (arith, h)

pub quotient_is_word : (x y : ℤ) → IsWide x → IsWord (int_div x y)
quotient_is_word (pos a) (pos b) w = let l = div-le_self a b in grind (arith, nat_tests)
quotient_is_word (pos a) (negsuc b) w = let l = div-le_self a (suc b) in opposite_word (a / suc b) (grind (arith, nat_tests))
quotient_is_word (negsuc a) (pos b) w = let l = div-le_self (suc a) b in opposite_word (suc a / b) (grind (arith, nat_tests))
quotient_is_word (negsuc a) (negsuc b) w = let l = div-le_self (suc a) (suc b) in grind (arith, nat_tests)
