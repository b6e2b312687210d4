-- DO with a variable that counts, by its pieces.
use Rattle.std.proofs.Common.{◌≡◌, ℕ, [], ◌∷◌, ◌++◌, Option, None, refl, sym, append_assoc, append-nil}
use Rattle.std.specs.Prelude.{ℤ}
use Rattle.rv_meaning.specs.declared.instr.RegisterOp.TheVariants as Op
use Rattle.pli_typing.specs.TypedTree as Y
use Rattle.pli_coding.specs.Registers.{a0, a1, u1, u3}
use Rattle.pli_coding.specs.Instructions.{number, registers, service, small}
use Rattle.pli_coding.specs.Environments.{Environment, Taken}
use Rattle.pli_coding.specs.Arithmetic.{fitted_code}
use Rattle.pli_coding.specs.Statements.{counter_converted, counter_read, in_turns, number_started, passed_by}
use Rattle.pli_coding.specs.Statements.{step_added}
use Rattle.rv_statement.specs.Pieces.{act_begun, flag_tested, limit_compared, start_read, step_beside, stepped}
use Rattle.rv_statement.specs.Pieces.{summed_by, turned_if_negative}

pub number_started_is : (t : Taken) (p : ℕ) (v : Y.Value) → number_started t p v ≡ start_read t v ++ fitted_code (in_turns t) p
number_started_is t p (Y.NumberValue q x) = refl
number_started_is t p (Y.TextValue x) = refl
number_started_is t p (Y.BitValue x) = refl
number_started_is t p (Y.PointerValue x) = refl
number_started_is t p (Y.OffsetValue a x) = refl
number_started_is t p Y.NullValue = refl

pub stepped-is : (e : Environment) (t : Taken) (c : Y.Counter) (step : Option ℤ) (line : ℕ) → stepped e t c step line
    ≡ act_begun line ++ (counter_read e t c ++ (summed_by t step ++ counter_converted t c))
unfolding act_begun summed_by stepped
stepped-is e t c step line =
    sym (append_assoc (number a0 line) (small a1 1 ∷ service 1) (counter_read e t c
    ++ (step_added t step ++ counter_converted t c)))

pub ruleset steps = (stepped-is, append_assoc, append-nil)

-- ---- the limit

pub limit_is : (t : Taken) (n : ℕ) → limit_compared t ++ flag_tested n ≡ passed_by t None n
unfolding limit_compared
limit_is t n = append_assoc (step_beside t) (registers Op.SetLess u3 u1 a0 ∷ turned_if_negative) (flag_tested n)
