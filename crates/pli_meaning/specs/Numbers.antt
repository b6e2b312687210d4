-- Numbers: FIXED BINARY(p) holds -2^p to 2^p - 1. Results are exact whole numbers that are then checked against p.
use Rattle.std.specs.Prelude.{ℕ, ◌+◌, ◌-◌, ◌%◌, ◌^◌, ℤ, pos, negsuc, neg_ℤ, Bool, nat_lt, if◌then◌else◌}
use Rattle.pli_language.specs.declared.condition.Condition.{Condition}
use Rattle.pli_typing.specs.TypedTree.{Sign, Positive, Negative}
use Rattle.pli_meaning.specs.Codes.{fixed_overflow_code}
use Rattle.pli_language.specs.declared.condition.Condition.TheVariants.{FixedOverflow}

abbrev pub is_of_precision : ℕ → ℤ → Bool
is_of_precision p (pos n) = nat_lt n (2 ^ p)
is_of_precision p (negsuc n) = nat_lt n (2 ^ p)

-- what is left of z in p + 1 bits of two's complement
abbrev pub residue : ℕ → ℤ → ℕ
residue modulus (pos n) = n % modulus
residue modulus (negsuc n) = modulus - 1 - n % modulus

abbrev pub of_residue : ℕ → ℕ → ℤ
of_residue p r = if nat_lt r (2 ^ p) then pos r else negsuc (2 ^ (p + 1) - 1 - r)

abbrev pub wrapped : ℕ → ℤ → ℤ
wrapped p z = of_residue p (residue (2 ^ (p + 1)) z)

-- what an operator or a conversion comes to: a value, or a condition with its code and the value that a normal return
-- of its on-unit goes on with
pub data Checked : Type 0 where
  Gives : (value : ℤ) → Checked
  Raises : (condition : Condition) → (code : ℕ) → (after : ℤ) → Checked

-- a number where precision p is due
abbrev pub checked : ℕ → ℤ → Checked
checked p z = if is_of_precision p z then Gives z else Raises FixedOverflow fixed_overflow_code (wrapped p z)

-- operators and constants have this precision
abbrev pub operator_precision : ℕ
operator_precision = 31

abbrev pub signed_result : Sign → ℤ → ℤ
signed_result Positive z = z
signed_result Negative z = neg_ℤ z

abbrev pub sign_applied : Sign → ℤ → Checked
sign_applied s z = checked operator_precision (signed_result s z)
