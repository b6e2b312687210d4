-- Quotients of words, and the test of the one quotient that is too large.
use Rattle.std.proofs.Common.{◌≡◌, ℕ, zero, suc, ◌-◌, ◌*◌, ◌/◌, ◌^◌, ◌<◌, ◌≤◌, Bool, true, false, refl, sym, ap, ◌∙◌, subst, arith}
use Rattle.std.specs.Prelude.{ℤ, pos, negsuc, neg_ℤ, int_div, bit_or, bit_xor, ◌==◌, nat_lt, if◌then◌else◌}
use Rattle.std.proofs.Math.Nat.{div-le_self, div-mul-le_self}
use Rattle.std.proofs.lemmas.Nat.{and_le_l, and_le_r, le_or_l, le_or_r}
use Rattle.std.proofs.lemmas.Bool.Decides.{nat_tests}
use lib.Bits.{xor_add_and}
use Rattle.rv_meaning.specs.Words.{word, signed, sum, operated}
use Rattle.rv_meaning.specs.declared.instr.RegisterOp.TheVariants as Op
use Rattle.pli_meaning.specs.Numbers.{is_of_precision}
use Rattle.pli_meaning.specs.Contents.{same_int}
use Rattle.run_steps.specs.Numbers.{IsWide, least_word}
use Rattle.pli_headline.proofs.WordProducts.{signed_word}

-- ---- divisors

pub zero_word : (y : ℤ) → same_int y (pos 0) ≡ true → word y ≡ 0
zero_word (pos n) h = grind (arith, nat_tests)
zero_word (negsuc n) h = absurd (cc h)

pub other_word : (y : ℤ) → IsWide y → same_int y (pos 0) ≡ false → (word y == 0) ≡ false
other_word (pos n) w h = grind (arith, nat_tests)
other_word (negsuc n) w h = grind (arith, nat_tests)

pub quotient-word : (x y : ℤ) → IsWide x → IsWide y → same_int y (pos 0) ≡ false → operated Op.Divide (word x) (word y) ≡ word (int_div x y)
quotient-word x y wx wy h =
    ap (λ u. if u then 2 ^ 32 - 1 else word (int_div (signed (word x)) (signed (word y)))) (other_word y wy h)
    ∙ ap (λ u. word (int_div u (signed (word y)))) (signed_word x wx)
    ∙ ap (λ u. word (int_div x u)) (signed_word y wy)

-- ---- the test

pub xor_positive : (a b : ℕ) → (a == b) ≡ false → 0 < bit_xor a b
xor_positive a b h =
    let e = xor_add_and a b in
    let l = and_le_l a b in
    let r = and_le_r a b in
    grind (arith, nat_tests)

-- the bits of two words that are 0 at the divisor -1 and the quotient -2^31
abbrev pub quotient_bits : (divisor quotient : ℕ) → ℕ
quotient_bits d q = bit_or (sum d (word (pos 1))) (bit_xor least_word q)

abbrev pub is_set : ℕ → Bool
is_set n = if n == 0 then false else true

positive_set : (n : ℕ) → 0 < n → is_set n ≡ true
positive_set n h = let e : (n == 0) ≡ false = grind (arith, nat_tests) in ap (λ u. if u then false else true) e

by_divisor : (d q : ℕ) → 0 < sum d (word (pos 1)) → is_set (quotient_bits d q) ≡ true
by_divisor d q h =
    let l = le_or_l (sum d (word (pos 1))) (bit_xor least_word q) in
    positive_set (quotient_bits d q) (omega (arith, h, l))

by_quotient : (d q : ℕ) → (least_word == q) ≡ false → is_set (quotient_bits d q) ≡ true
by_quotient d q h =
    let l = le_or_r (sum d (word (pos 1))) (bit_xor least_word q) in
    let p = xor_positive least_word q h in
    positive_set (quotient_bits d q) (omega (arith, p, l))

by_positive_divisor : (b q : ℕ) → b < 2 ^ 31 → is_set (quotient_bits (word (pos b)) q) ≡ true
by_positive_divisor b q h = by_divisor b q (omega arith)

negative_small : (m : ℕ) → m < 2 ^ 31 → (least_word == word (neg_ℤ (pos m))) ≡ false
negative_small zero h = refl
negative_small (suc m) h = grind (arith, nat_tests)

both_negative : (t : Bool) (a b : ℕ) → a < 2 ^ 31 → b < 2 ^ 31 → nat_lt (suc a / suc b) (2 ^ 31) ≡ t → is_set (quotient_bits (word (negsuc b)) (suc a / suc b)) ≡ t
both_negative true a b h i e = by_quotient (word (negsuc b)) (suc a / suc b) (grind (arith, nat_tests))
both_negative false a b h i e =
    let d = suc a / suc b in
    let most = div-le_self (suc a) (suc b) in
    let over : d ≡ 2 ^ 31 = grind (arith, nat_tests) in
    let times = div-mul-le_self (suc a) (suc b) in
    let times' : 2 ^ 31 * suc b ≤ suc a = subst (λ u. u * suc b ≤ suc a) over times in
    let one : b ≡ 0 = omega (arith, times', h) in
    ap (λ u. is_set (quotient_bits (word (negsuc u)) d)) one ∙ ap (λ u. is_set (quotient_bits (word (negsuc 0)) u)) over

opposite_fits : (m : ℕ) → m ≤ 2 ^ 31 → is_of_precision 31 (neg_ℤ (pos m)) ≡ true
opposite_fits zero h = refl
opposite_fits (suc m) h = grind (arith, nat_tests)

pub quotient_tested : (t : Bool) (x y : ℤ) → IsWide x → IsWide y → same_int y (pos 0) ≡ false → is_of_precision 31 (int_div x y) ≡ t → is_set (quotient_bits (word y) (word (int_div x y))) ≡ t
quotient_tested t (pos a) (pos b) wx wy h e =
    let most = div-le_self a b in
    let fits : nat_lt (a / b) (2 ^ 31) ≡ true = grind (arith, nat_tests) in
    by_positive_divisor b (a / b) (grind (arith, nat_tests)) ∙ sym fits ∙ e
quotient_tested t (negsuc a) (pos b) wx wy h e =
    by_positive_divisor b (word (neg_ℤ (pos (suc a / b)))) (grind (arith, nat_tests)) ∙ sym (opposite_fits (suc a / b) (let most = div-le_self (suc a) b in grind (arith, nat_tests))) ∙ e
quotient_tested t (pos a) (negsuc b) wx wy h e =
    let most = div-le_self a (suc b) in
    let fits : a / suc b < 2 ^ 31 = grind (arith, nat_tests) in
    by_quotient (word (negsuc b)) (word (neg_ℤ (pos (a / suc b)))) (negative_small (a / suc b) fits) ∙ sym (opposite_fits (a / suc b) (omega (arith, fits))) ∙ e
quotient_tested t (negsuc a) (negsuc b) wx wy h e = both_negative t a b (grind (arith, nat_tests)) (grind (arith, nat_tests)) e

-- a quotient's word
quotient_small' : (m : ℕ) → word (neg_ℤ (pos m)) < 2 ^ 32
quotient_small' zero = omega arith
quotient_small' (suc m) = omega arith

pub quotient_small : (x y : ℤ) → IsWide x → word (int_div x y) < 2 ^ 32
quotient_small (pos a) (pos b) w = let most = div-le_self a b in grind (arith, nat_tests)
quotient_small (pos a) (negsuc b) w = quotient_small' (a / suc b)
quotient_small (negsuc a) (pos b) w = quotient_small' (suc a / b)
quotient_small (negsuc a) (negsuc b) w = let most = div-le_self (suc a) (suc b) in grind (arith, nat_tests)
