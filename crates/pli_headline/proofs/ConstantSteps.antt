-- A step of DO that is a constant: what it comes to, and how many words it takes.
use Rattle.std.proofs.Common.{◌≡◌, ℕ, ◌^◌, ◌<◌, ◌≤◌, Some, ap, ◌∙◌, subst, arith}
use Rattle.std.specs.Prelude.{ℤ, pos, neg_ℤ, cond}
use Rattle.std.proofs.lemmas.Option.{none-some, same_Some}
use Rattle.std.proofs.lemmas.Int.{ints}
use Rattle.std.proofs.lemmas.Bool.Decides.{nat_tests}
use Rattle.pli_language.specs.declared.condition.Condition.TheVariants as C
use Rattle.pli_typing.specs.TypedTree as Y
use Rattle.pli_meaning.specs.Numbers.{Gives, Raises, is_of_precision, wrapped, signed_result}
use Rattle.pli_meaning.specs.StorageState.{State}
use Rattle.pli_meaning.specs.Control.{give, ◌>>=◌}
use Rattle.pli_meaning.specs.Raising as R
use Rattle.pli_meaning.specs.Raising.{Around}
use Rattle.pli_meaning.specs.Evaluating as V
use Rattle.pli_coding.specs.Statements.{constant_step}
use Rattle.temporary_bounds.specs.WordBounds.{number_words}
use Rattle.pli_headline.specs.ProvedSoFar.{Names, Types, IsProvedNumber}
use Rattle.run_steps.specs.Numbers.{IsWide}

pub record Constant (x : Y.Number) (z : ℤ) : Type 0 where
  pub wide : IsWide z
  pub few : number_words x ≤ 1
  pub means : (around : Around) (k : ℕ) (s : State) → V.number around x k s ≡ give z k s

pos_wide : (n : ℕ) → n < 2 ^ 31 → IsWide (pos n)
pos_wide n h = grind (arith, nat_tests)

neg_wide : (n : ℕ) → n < 2 ^ 31 → IsWide (neg_ℤ (pos n))
neg_wide n h = grind (arith, nat_tests, ints)

-- a value that fits is what a check gives
fits_given : (around : Around) (z : ℤ) (k : ℕ) (s : State) → IsWide z
    → R.value_of around (cond (is_of_precision 31 z) (Gives z) (Raises C.FixedOverflow 20 (wrapped 31 z))) k s
    ≡ give z k s
unfolding R.value_of
fits_given around z k s e =
    ap (λ q. R.value_of around (cond q (Gives z) (Raises C.FixedOverflow 20 (wrapped 31 z))) k s) e

signed_wide : (sign : Y.Sign) (n : ℕ) → n < 2 ^ 31 → IsWide (signed_result sign (pos n))
signed_wide Y.Positive n h = pos_wide n h
signed_wide Y.Negative n h = neg_wide n h

pub constant_means : (names : Names) (types : Types) (x : Y.Number) (z : ℤ) → IsProvedNumber names types x
    → constant_step x ≡ Some z → Constant x z
unfolding V.number ◌>>=◌ give
constant_means names types (Y.NumberConstant n) z is e =
    let same = same_Some (pos n) z e in
    record {
      wide = subst IsWide same (pos_wide n is);
      few = omega arith;
      means = λ around k s. ap (λ u. give u k s) same;
    }
constant_means names types (Y.Signed sign (Y.NumberConstant n)) z is e =
    let same = same_Some (signed_result sign (pos n)) z e in
    let wide = signed_wide sign n is in
    record {
      wide = subst IsWide same wide;
      few = omega arith;
      means = λ around k s. fits_given around (signed_result sign (pos n)) k s wide ∙ ap (λ u. give u k s) same;
    }
constant_means names types _ z is e = absurd (none-some z e)
