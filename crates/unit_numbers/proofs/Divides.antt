-- ZERODIVIDE in an expression while a unit is in force for it: behind the unit the expression goes on with 0.
use Rattle.std.proofs.Common.{◌≡◌, ℕ, ◌+◌, [], ◌∷◌, false, refl, subst, arith}
use Rattle.std.specs.Prelude.{pos}
use Rattle.pli_language.specs.declared.condition.Condition.{Condition}
use Rattle.pli_language.specs.declared.condition.Condition.TheVariants as C
use Rattle.pli_meaning.specs.Codes.{zero_divide_code}
use Rattle.pli_meaning.specs.Raising as R
use Rattle.pli_coding.specs.Arithmetic as A
use Rattle.pli_coding.specs.Arithmetic.{zero_divide_raised}
use Rattle.pli_coding.specs.Assembly.{size_of}
use Rattle.pli_coding.specs.Instructions.{small}
use Rattle.pli_coding.specs.Registers.{a0}
use Rattle.run_steps.proofs.Bodies.{constant_piece}
use Rattle.run_steps.proofs.Jumps.{back_of, front_of}
use Rattle.run_steps.proofs.Linking.{size_append}
use Rattle.run_steps.specs.Reach.{reached}
use Rattle.run_steps.proofs.Reach.{reach_map, reach_then, reach_with, reached_holds}
use Rattle.run_steps.specs.Temporaries.{nothing}
use Rattle.block_runs.specs.Machines.{IsIn}
use Rattle.block_runs.proofs.CallStatements.{comes_map}
use Rattle.block_runs.proofs.PointGrounds.{in_known, known_in, point_frame}
use Rattle.expression_runs.specs.Values.{Setting, behind, word_aims}
use Rattle.operator_runs.specs.Divisors.{ZeroDivideComes}
use Rattle.error_units.proofs.Conditions.{divide_by}
use Rattle.unit_runs.specs.Raised.{IsRaised, IsRaisedAt, Standing, UnitDoes, raise_aims}
use Rattle.unit_runs.proofs.DeepRaises.{deep_raise_ends}
use Rattle.unit_runs.proofs.UnitRuns.{RaisesTo, raise_returns}

-- whatever the condition of the unit is called
divide_as :
    (k : Setting) (d : Condition) → d ≡ C.ZeroDivide → RaisesTo k d zero_divide_code →
    RaisesTo k C.ZeroDivide zero_divide_code
divide_as k d e raises = subst (λ c. RaisesTo k c zero_divide_code) e raises

pub divide_returns :
    (k : Setting) (x : Standing) (more : ℕ) (h : IsRaised k x more) → UnitDoes k x more h →
    x.unit.condition ≡ C.ZeroDivide → ZeroDivideComes k
divide_returns k x more h does condition =
    divide_by k
    (divide_as k x.unit.condition condition
    (λ p numbers credits wanted index f o line l paid there.
    raise_returns k x more h does zero_divide_code (omega arith, omega arith) p numbers credits wanted index f o line l
    paid there))

-- and where as many blocks are active as may be the raise ends the run
pub deep_divide_ends :
    (k : Setting) (x : Standing) (more : ℕ) → IsRaisedAt false k x more → x.unit.condition ≡ C.ZeroDivide →
    ZeroDivideComes k
deep_divide_ends k x more h condition =
    divide_by k
    (divide_as k x.unit.condition condition
    (λ p numbers credits wanted index f o line l paid there.
    deep_raise_ends k x more h zero_divide_code (omega arith, omega arith) p numbers credits wanted index f o l paid
    there))
