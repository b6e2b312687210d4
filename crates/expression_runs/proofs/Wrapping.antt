-- Numbers that are cut to 31 bits and a sign, and the words of sums.
use Rattle.std.proofs.Common.{◌≡◌, ℕ, ◌+◌, ◌*◌, ◌^◌, ◌<◌, ◌≤◌, ◌-◌, Bool, true, false, refl, sym, ap, ◌∙◌, subst, arith}
use Rattle.std.proofs.lemmas.Bool.Decides.{nat_tests}
use Rattle.std.proofs.lemmas.Int.{ints}
use Rattle.std.specs.Prelude.{ℤ, ◌+ℤ◌, ◌-ℤ◌, cond, nat_lt, negsuc, pos}
use Rattle.rv_meaning.specs.declared.instr.RegisterOp.TheVariants as Op
use Rattle.rv_meaning.specs.Words.{operated, sum, word}
use Rattle.pli_meaning.specs.Numbers.{of_residue, residue, wrapped}
use Rattle.run_steps.specs.Numbers.{IsWide}

residue_less : (z : ℤ) → residue (2 ^ 32) z < 2 ^ 32
residue_less z = grind (arith, ints, nat_tests)

of_wide : (r : ℕ) → r < 2 ^ 32 → IsWide (of_residue 31 r)
of_wide r less = grind (arith, ints, nat_tests)

of_word : (r : ℕ) → r < 2 ^ 32 → word (of_residue 31 r) ≡ r
of_word r less = grind (arith, ints, nat_tests)

pub wrapped_wide : (z : ℤ) → IsWide (wrapped 31 z)
wrapped_wide z = of_wide (residue (2 ^ 32) z) (residue_less z)

pub wrapped_word : (z : ℤ) → word (wrapped 31 z) ≡ residue (2 ^ 32) z
wrapped_word z = of_word (residue (2 ^ 32) z) (residue_less z)

pub sum_residue : (x y : ℤ) → IsWide x → IsWide y → sum (word x) (word y) ≡ residue (2 ^ 32) (x +ℤ y)
sum_residue x y h i = grind (arith, ints, nat_tests)

pub difference_residue :
    (x y : ℤ) → IsWide x → IsWide y → operated Op.Subtract (word x) (word y) ≡ residue (2 ^ 32) (x -ℤ y)
difference_residue x y h i = grind (arith, ints, nat_tests)
