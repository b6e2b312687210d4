-- Numbers in one instruction and in two.
use Rattle.std.proofs.Common.{◌≡◌, ℕ, ◌^◌, ◌<◌, true, refl, arith}
use Rattle.std.specs.Prelude.{ℤ, pos, negsuc}
use Rattle.std.proofs.lemmas.Int.{ints}
use Rattle.std.proofs.lemmas.Bool.Decides.{nat_tests}
use Rattle.rv_meaning.specs.Encoding.{IsWithin}
use Rattle.pli_coding.specs.Linking.{upper_part, lower_part}
use Rattle.pli_coding.specs.Instructions.{is_immediate}

within : (z : ℤ) (n : ℕ) → z ≡ lower_part n → IsWithin 11 z
within (pos a) n e = omega (arith, ints)
within (negsuc a) n e = omega (arith, ints)

pub lower_within : (n : ℕ) → IsWithin 11 (lower_part n)
lower_within n = within (lower_part n) n refl

pub immediate_within : (z : ℤ) → is_immediate z ≡ true → IsWithin 11 z
immediate_within (pos a) h = grind (arith, ints, nat_tests)
immediate_within (negsuc a) h = grind (arith, ints, nat_tests)

pub upper_narrow : (n : ℕ) → upper_part n < 2 ^ 20
upper_narrow n = omega arith
