-- Absolute values and signs of words.
use Rattle.std.proofs.Common.{◌≡◌, ℕ, ◌-◌, ◌%◌, ◌^◌, ◌<◌, ◌≤◌, Bool, true, false, refl, sym, ap, ◌∙◌, arith}
use Rattle.std.specs.Prelude.{ℤ, pos, negsuc, nat_abs, int_lt, bit_xor, bit_and, ◌==◌, cond, if◌then◌else◌}
use Rattle.std.specs.Ordering.{is_eq}
use Rattle.std.specs.declared.cmp.Ordering.TheVariants.{Less, Equal, Greater}
use Rattle.std.proofs.lemmas.Int.{ints}
use Rattle.std.proofs.lemmas.Nat.{and_mask}
use Rattle.std.proofs.lemmas.Bool.Decides.{nat_tests}
use lib.Bits.{xor_add_and, xor_zero_r}
use Rattle.rv_meaning.specs.Words.{word, signed, flag, operated, shifted_right_signed}
use Rattle.rv_meaning.specs.declared.instr.RegisterOp.TheVariants as Op
use Rattle.pli_meaning.specs.Numbers.{is_of_precision}
use Rattle.pli_meaning.specs.Operations.{sign_of}
use Rattle.run_steps.specs.Numbers.{IsWide, least_word}
use Rattle.pli_headline.proofs.WordProducts.{signed_word}

-- ---- absolute values

pub xor_ones : (a : ℕ) → a < 2 ^ 32 → bit_xor a (2 ^ 32 - 1) ≡ 2 ^ 32 - 1 - a
xor_ones a h =
    let e = xor_add_and a (2 ^ 32 - 1) in
    let m : bit_and a (2 ^ 32 - 1) ≡ a % 2 ^ 32 = and_mask a 32 in
    omega (arith, e, m, h)

-- all bits are as the sign's
abbrev pub sign_bits : ℕ → ℕ
sign_bits w = shifted_right_signed w 31

abbrev pub absolute_bits_of : ℕ → ℕ
absolute_bits_of w = operated Op.Subtract (bit_xor w (sign_bits w)) (sign_bits w)

positive_bits : (n : ℕ) → n < 2 ^ 31 → sign_bits n ≡ 0
positive_bits n h = grind (arith, ints, nat_tests)

negative_bits : (n : ℕ) → n < 2 ^ 31 → sign_bits (word (negsuc n)) ≡ 2 ^ 32 - 1
negative_bits n h = grind (arith, ints, nat_tests)

by_bits : (w : ℕ) (bits : ℕ) → sign_bits w ≡ bits → absolute_bits_of w ≡ operated Op.Subtract (bit_xor w bits) bits
by_bits w bits e = ap (λ u. operated Op.Subtract (bit_xor w u) u) e

pub absolute-word : (z : ℤ) → IsWide z → absolute_bits_of (word z) ≡ nat_abs z
absolute-word (pos n) h =
    let below : n < 2 ^ 31 = grind (arith, nat_tests) in
    by_bits n 0 (positive_bits n below) ∙ ap (λ u. operated Op.Subtract u 0) (xor_zero_r n) ∙ omega (arith, below)
absolute-word (negsuc n) h =
    let below : n < 2 ^ 31 = grind (arith, nat_tests) in
    by_bits (word (negsuc n)) (2 ^ 32 - 1) (negative_bits n below)
    ∙ ap (λ u. operated Op.Subtract u (2 ^ 32 - 1)) (xor_ones (word (negsuc n)) (omega (arith, below)))
    ∙ omega (arith, below)

pub absolute_most : (z : ℤ) → IsWide z → nat_abs z ≤ 2 ^ 31
absolute_most (pos n) h = grind (arith, nat_tests)
absolute_most (negsuc n) h = grind (arith, nat_tests)

pub absolute_tested : (q : Bool) (m : ℕ) → m ≤ 2 ^ 31 → is_of_precision 31 (pos m) ≡ q → (if m == least_word then false else true) ≡ q
absolute_tested true m h e = let f : (m == least_word) ≡ false = grind (arith, nat_tests) in ap (λ u. if u then false else true) f
absolute_tested false m h e = let f : (m == least_word) ≡ true = grind (arith, nat_tests) in ap (λ u. if u then false else true) f

-- ---- signs

abbrev sign_by : (below above : Bool) → ℤ
sign_by true above = negsuc 0
sign_by false true = pos 1
sign_by false false = pos 0

tests_sign : (p q : Bool) → cond p (negsuc 0) (cond (is_eq (cond p Less (cond q Greater Equal))) (pos 0) (pos 1)) ≡ sign_by p q
tests_sign true q = refl
tests_sign false true = refl
tests_sign false false = refl

difference_sign : (p q : Bool) → (p ≡ true → q ≡ false) → operated Op.Subtract (flag q) (flag p) ≡ word (sign_by p q)
difference_sign true true one = absurd (cc (one refl))
difference_sign true false one = refl
difference_sign false true one = refl
difference_sign false false one = refl

below_not_above : (x : ℤ) → int_lt x (pos 0) ≡ true → int_lt (pos 0) x ≡ false
below_not_above (pos n) h = absurd (grind (arith, nat_tests))
below_not_above (negsuc n) h = refl

pub sign-word : (x : ℤ) → IsWide x → operated Op.Subtract (flag (int_lt (signed 0) (signed (word x)))) (flag (int_lt (signed (word x)) (signed (word (pos 0))))) ≡ word (sign_of x)
sign-word x h =
    ap (λ u. operated Op.Subtract (flag (int_lt (pos 0) u)) (flag (int_lt u (pos 0)))) (signed_word x h)
    ∙ difference_sign (int_lt x (pos 0)) (int_lt (pos 0) x) (below_not_above x)
    ∙ ap word (sym (tests_sign (int_lt x (pos 0)) (int_lt (pos 0) x)))

wide_by : (p q : Bool) → IsWide (cond p (negsuc 0) (cond (is_eq (cond p Less (cond q Greater Equal))) (pos 0) (pos 1)))
wide_by true q = refl
wide_by false true = refl
wide_by false false = refl

pub sign_wide : (x : ℤ) → IsWide (sign_of x)
sign_wide x = wide_by (int_lt x (pos 0)) (int_lt (pos 0) x)
