-- Numbers of so many binary digits.
use Rattle.std.proofs.Common.{◌≡◌, ℤ, pos, negsuc, ◌<◌, ◌≤◌, ◌^◌, ℕ, refl, sym, ap, ◌∙◌, arith, true}
use Rattle.std.specs.Prelude.{nat_lt}
use Rattle.std.proofs.Math.Nat.{pow-le-pow_right}
use Rattle.std.proofs.lemmas.Bool.Decides.{nat_tests}
use Rattle.pli_language.specs.Declaring.{fits_digits}
use Rattle.pli_declaring.specs.Shown.{magnitude}

pub fits_by : (p : ℕ) (z : ℤ) → fits_digits p z ≡ nat_lt (magnitude z) (2 ^ p)
fits_by p (pos n) = refl
fits_by p (negsuc n) = refl

two_above : 0 < 2
two_above = omega arith

below_power : (p m q : ℕ) → m < 9223372036854775808 → 9223372036854775808 ≤ q → nat_lt m q ≡ true
below_power p m q h k = grind (arith, nat_tests)

pub fits_all : (p : ℕ) (z : ℤ) (m : ℕ) → m ≡ magnitude z → m < 9223372036854775808 → 63 ≤ p → true ≡ fits_digits p z
fits_all p z m e h k = sym (fits_by p z ∙ ap (λ n. nat_lt n (2 ^ p)) (sym e) ∙ below_power p m (2 ^ p) h (pow-le-pow_right two_above k))
