-- Steps that are constants of the code: turns go up by one, or down.
use Rattle.std.proofs.Common.{◌≡◌, ℕ, ◌^◌, ◌<◌, refl, ap, arith}
use Rattle.std.proofs.lemmas.Bool.Decides.{nat_tests}
use Rattle.std.proofs.lemmas.Int.{ints}
use Rattle.std.specs.Prelude.{ℤ, cond, neg_ℤ, pos}
use Rattle.pli_language.specs.declared.condition.Condition.TheVariants as C
use Rattle.pli_typing.specs.TypedTree as Y
use Rattle.pli_meaning.specs.Control.{Normal, give, ◌>>=◌}
use Rattle.pli_meaning.specs.Evaluating as V
use Rattle.pli_meaning.specs.Numbers.{Gives, Raises, is_of_precision, wrapped}
use Rattle.pli_meaning.specs.Raising as R
use Rattle.pli_meaning.specs.Raising.{Around}
use Rattle.pli_meaning.specs.StorageState.{State}
use Rattle.run_steps.specs.Numbers.{IsWide}
use Rattle.counter_runs.specs.Counts.{IsStep}

up_wide : (n : ℕ) → n < 2 ^ 31 → IsWide (pos n)
up_wide n h = grind (arith, nat_tests)

down_wide : (n : ℕ) → n < 2 ^ 31 → IsWide (neg_ℤ (pos n))
down_wide n h = grind (arith, nat_tests, ints)

-- a value that fits is what a check gives
fits_given :
    (around : Around) (z : ℤ) (acts : ℕ) (s : State) → IsWide z →
    R.value_of around (cond (is_of_precision 31 z) (Gives z) (Raises C.FixedOverflow 20 (wrapped 31 z))) acts s
    ≡ Normal z s
unfolding R.value_of give
fits_given around z acts s e =
    ap (λ q. R.value_of around (cond q (Gives z) (Raises C.FixedOverflow 20 (wrapped 31 z))) acts s) e

pub up_step : (n : ℕ) → n < 2 ^ 31 → IsStep (Y.NumberConstant n) (pos n)
unfolding V.number give
up_step n few = record { constant = refl; wide = up_wide n few; means = λ around acts s. refl }

pub down_step : (n : ℕ) → n < 2 ^ 31 → IsStep (Y.Signed Y.Negative (Y.NumberConstant n)) (neg_ℤ (pos n))
unfolding V.number ◌>>=◌ give
down_step n few =
    let wide = down_wide n few in
    record {
      constant = refl;
      wide = wide;
      means = λ around acts s. fits_given around (neg_ℤ (pos n)) acts s wide;
    }
