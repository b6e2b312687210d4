-- Arithmetic of words: displacements, and the tests of overflow.
use Rattle.std.proofs.Common.{◌≡◌, ℕ, ◌+◌, ◌-◌, ◌*◌, ◌^◌, ◌<◌, ◌≤◌, true, false, arith}
use Rattle.std.specs.Prelude.{ℤ, pos, neg_ℤ, ◌-ℤ◌, ◌+ℤ◌, ◌==◌}
use Rattle.std.proofs.lemmas.Int.{ints}
use Rattle.std.proofs.lemmas.Bool.Decides.{nat_tests}
use Rattle.rv_meaning.specs.Words.{word, sum, operated}
use Rattle.pli_meaning.specs.Numbers.{is_of_precision}
use Rattle.rv_meaning.specs.declared.instr.RegisterOp.TheVariants as Op
use Rattle.pli_coding.specs.Linking.{upper_part, lower_part}
use Rattle.run_steps.specs.Numbers.{IsWide, sum_test, difference_test, least_word}

-- ---- displacements

pub far_sum : (w x : ℕ) → w < 2 ^ 32 → x < 2 ^ 32 → sum (sum (upper_part w * 2 ^ 12) x) (word (lower_part w)) ≡ sum x w
far_sum w x h i = omega (arith, ints)

pub above_sum : (base fp n : ℕ) → base + 2 ^ 24 ≤ 2 ^ 32 → fp + n < 2 ^ 24 →
    sum (base + fp) (word (pos n)) ≡ base + (fp + n)
above_sum base fp n h i = omega (arith, ints)

pub below_sum : (base fp n : ℕ) → base + 2 ^ 24 ≤ 2 ^ 32 → fp < 2 ^ 24 → n ≤ fp →
    sum (base + fp) (word (neg_ℤ (pos n))) ≡ base + (fp - n)
below_sum base fp n h i j = omega (arith, ints)

pub above_small : (n : ℕ) → n < 2 ^ 24 → word (pos n) < 2 ^ 32
above_small n h = omega (arith, ints)

pub below_small : (n : ℕ) → n < 2 ^ 24 → word (neg_ℤ (pos n)) < 2 ^ 32
below_small n h = omega (arith, ints)

pub word_small : (z : ℤ) → IsWide z → word z < 2 ^ 32
word_small z h = grind (arith, nat_tests, ints)

pub sum-word : (x y : ℤ) → IsWide x → IsWide y → IsWide (x +ℤ y) → sum (word x) (word y) ≡ word (x +ℤ y)
sum-word x y h i j = grind (arith, ints, nat_tests)

pub difference-word : (x y : ℤ) → IsWide x → IsWide y → IsWide (x -ℤ y) →
    operated Op.Subtract (word x) (word y) ≡ word (x -ℤ y)
difference-word x y h i j = grind (arith, ints, nat_tests)

pub sum_fits : (x y : ℤ) → IsWide x → IsWide y → IsWide (x +ℤ y) → sum_test (word x) (word y) ≡ true
sum_fits x y h i j = grind (arith, ints, nat_tests)

pub sum_over : (x y : ℤ) → IsWide x → IsWide y → is_of_precision 31 (x +ℤ y) ≡ false →
    sum_test (word x) (word y) ≡ false
sum_over x y h i j = grind (arith, ints, nat_tests)

pub difference_fits : (x y : ℤ) → IsWide x → IsWide y → IsWide (x -ℤ y) → difference_test (word x) (word y) ≡ true
difference_fits x y h i j = grind (arith, ints, nat_tests)

pub difference_over : (x y : ℤ) → IsWide x → IsWide y → is_of_precision 31 (x -ℤ y) ≡ false →
    difference_test (word x) (word y) ≡ false
difference_over x y h i j = grind (arith, ints, nat_tests)

pub negated-word : (z : ℤ) → IsWide z → operated Op.Subtract 0 (word z) ≡ word (neg_ℤ z)
negated-word z h = grind (arith, ints, nat_tests)

pub negated_fits : (z : ℤ) → IsWide z → IsWide (neg_ℤ z) → (word (neg_ℤ z) == least_word) ≡ false
negated_fits z h i = grind (arith, ints, nat_tests)

pub negated_over : (z : ℤ) → IsWide z → is_of_precision 31 (neg_ℤ z) ≡ false → (word (neg_ℤ z) == least_word) ≡ true
negated_over z h i = grind (arith, ints, nat_tests)
