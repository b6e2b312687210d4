-- What operators and built-ins on numbers come to. Results are exact whole numbers that are then checked. (X3.53-1976,
-- chapter 9.)
use Rattle.std.specs.Prelude.{ℕ, ℤ, pos, negsuc, ◌+ℤ◌, ◌-ℤ◌, ◌*ℤ◌, int_lt, int_div, nat_abs, List, [], ◌∷◌, if◌then◌else◌}
use Rattle.pli_language.specs.declared.condition.Condition.TheVariants.{ZeroDivide}
use Rattle.pli_meaning.specs.Numbers.{Checked, Gives, Raises, checked, operator_precision, residue}
use Rattle.pli_typing.specs.TypedTree.{ArithmeticOperator, Sum, Difference, Product, Quotient, Extremum, Greatest, Least}
use Rattle.pli_meaning.specs.Contents.{same_int}
use Rattle.pli_meaning.specs.Codes.{zero_divide_code}

abbrev pub zero_divisor : Checked
zero_divisor = Raises ZeroDivide zero_divide_code (pos 0)

-- the quotient is cut toward zero
abbrev pub divided : (precision : ℕ) → ℤ → ℤ → Checked
divided p a b = if same_int b (pos 0) then zero_divisor else checked p (int_div a b)

abbrev pub calculated : ArithmeticOperator → ℤ → ℤ → Checked
calculated Sum a b = checked operator_precision (a +ℤ b)
calculated Difference a b = checked operator_precision (a -ℤ b)
calculated Product a b = checked operator_precision (a *ℤ b)
calculated Quotient a b = divided operator_precision a b

-- the r from 0 below the absolute b with a - r a multiple of b
abbrev pub modulo : ℤ → ℤ → Checked
modulo a b = if same_int b (pos 0) then zero_divisor else Gives (pos (residue (nat_abs b) a))

abbrev pub absolute : ℤ → Checked
absolute a = checked operator_precision (pos (nat_abs a))

abbrev pub sign_of : ℤ → ℤ
sign_of a = if int_lt a (pos 0) then negsuc 0 else (if same_int a (pos 0) then pos 0 else pos 1)

abbrev pub further_extreme : Extremum → ℤ → ℤ → ℤ
further_extreme Greatest a b = if int_lt a b then b else a
further_extreme Least a b = if int_lt b a then b else a

abbrev pub extreme : Extremum → ℤ → List ℤ → ℤ
extreme e a [] = a
extreme e a (b ∷ bs) = extreme e (further_extreme e a b) bs
