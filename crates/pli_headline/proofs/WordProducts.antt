-- Products of words: their two halves, and the test that tells whether the upper one is only the sign of the lower one.
use Rattle.std.proofs.Common.{◌≡◌, ◌-◌, ◌*◌, ◌%◌, ◌^◌, ◌<◌, ◌≤◌, Bool, true, false, sym, ap, ◌∙◌, arith}
use Rattle.std.specs.Prelude.{ℤ, pos, negsuc, ◌*ℤ◌, unsigned_abs, ◌==◌}
use Rattle.std.specs.Int.{w32, cast_unsigned, int_wrap}
use Rattle.std.proofs.Math.Nat.{mul-le-mul}
use Rattle.std.proofs.lemmas.Int.{ints, of_z-to_z, wrapping_mul-bits, unsigned_abs-mul}
use Rattle.std.proofs.lemmas.Bool.Decides.{nat_tests}
use Rattle.rv_meaning.specs.Words.{word, signed, upper_half, shifted_right_signed, operated}
use Rattle.rv_meaning.specs.declared.instr.RegisterOp.TheVariants as Op
use Rattle.pli_meaning.specs.Numbers.{is_of_precision, residue}
use Rattle.run_steps.specs.Numbers.{IsWide}
use Rattle.run_steps.proofs.Numbers.{word_small}

pub signed_word : (z : ℤ) → IsWide z → signed (word z) ≡ z
signed_word z h = grind (arith, ints, nat_tests)

wrapped_residue : (z : ℤ) → cast_unsigned w32 (int_wrap w32 z) ≡ residue (2 ^ 32) z
unfolding int_wrap
wrapped_residue (pos n) = of_z-to_z w32 (n % 2 ^ 32) (omega arith)
wrapped_residue (negsuc n) = of_z-to_z w32 (2 ^ 32 - 1 - n % 2 ^ 32) (omega arith)

-- the lower half
pub product-lower : (x y : ℤ) → IsWide x → IsWide y → operated Op.Multiply (word x) (word y) ≡ residue (2 ^ 32) (x *ℤ y)
product-lower x y h i =
    let m = word x in
    let n = word y in
    let l = m * n % 2 ^ 32 in
    let below : l < 2 ^ 32 = omega arith in
    sym (of_z-to_z w32 l below)
    ∙ ap (cast_unsigned w32) (wrapping_mul-bits w32 m n (word_small x h) (word_small y i))
    ∙ ap (λ u. cast_unsigned w32 (int_wrap w32 (u *ℤ signed n))) (signed_word x h)
    ∙ ap (λ u. cast_unsigned w32 (int_wrap w32 (x *ℤ u))) (signed_word y i)
    ∙ wrapped_residue (x *ℤ y)

-- the upper half
pub product-upper : (x y : ℤ) → IsWide x → IsWide y → operated Op.MultiplyHigh (word x) (word y) ≡ upper_half (x *ℤ y)
product-upper x y h i =
    ap (λ u. upper_half (u *ℤ signed (word y))) (signed_word x h) ∙ ap (λ u. upper_half (x *ℤ u)) (signed_word y i)

wide_size : (z : ℤ) → IsWide z → unsigned_abs z ≤ 2 ^ 31
wide_size (pos n) h = grind (arith, nat_tests)
wide_size (negsuc n) h = grind (arith, nat_tests)

pub product_size : (x y : ℤ) → IsWide x → IsWide y → unsigned_abs (x *ℤ y) ≤ 2 ^ 62
product_size x y h i =
    let m : unsigned_abs x * unsigned_abs y ≤ 2 ^ 31 * 2 ^ 31 = mul-le-mul (wide_size x h) (wide_size y i) in
    let e = unsigned_abs-mul x y in
    omega (arith, m, e)

pub residue_word : (z : ℤ) → IsWide z → residue (2 ^ 32) z ≡ word z
residue_word (pos n) h = grind (arith, nat_tests)
residue_word (negsuc n) h = grind (arith, nat_tests)

-- the upper half against the sign of the lower one
abbrev pub product_test : ℤ → Bool
product_test z = upper_half z == shifted_right_signed (residue (2 ^ 32) z) 31

pub product_fits : (z : ℤ) → IsWide z → product_test z ≡ true
product_fits (pos n) h = grind (arith, nat_tests, ints)
product_fits (negsuc n) h = grind (arith, nat_tests, ints)

pub product_over : (z : ℤ) → unsigned_abs z ≤ 2 ^ 62 → is_of_precision 31 z ≡ false → product_test z ≡ false
product_over (pos n) s h = grind (arith, nat_tests, ints)
product_over (negsuc n) s h = grind (arith, nat_tests, ints)
