-- Around texts, where no unit is in force: raises and errors end the run, whatever waits.
use Rattle.std.proofs.Common.{◌≡◌, ℕ, Bool, List, [], true, arith}
use Rattle.std.specs.Prelude.{ℤ}
use Rattle.pli_meaning.specs.Control.{Label}
use Rattle.pli_serving.specs.ServiceState.{Entry}
use Rattle.program_runs.specs.Statements.{Block, waiting}
use Rattle.expression_runs.specs.Assignments.{setting_around}
use Rattle.expression_runs.specs.Laws as L
use Rattle.expression_runs.specs.Values.{Setting}
use Rattle.expression_runs.proofs.Raises.{overflow_ends}
use Rattle.operator_runs.proofs.Divisors.{zero_divide_ends}
use Rattle.element_runs.proofs.Outside.{subscripts_end}
use Rattle.text_runs.specs.Texts.{ErrorComes}
use Rattle.text_runs.specs.Waiting.{over}
use Rattle.text_runs.proofs.Errors.{error_ends}
use Rattle.number_runs.specs.Knowledge.{Includes, IsUnraised, KnowsAroundTexts, KnowsConstants, KnowsErrors, KnowsTexts}
use Rattle.number_runs.specs.Knowledge.{KnowsWaiting, MayBeSet, call_number}
use Rattle.number_runs.specs.Numbers.{Scope}

errors_end : (z : Setting) → IsUnraised z.block z.most → KnowsErrors z
errors_end z u =
    record { text = by (List ℕ); number = by ℤ; bit = by Bool }
  where
    by : (X : Type 0) → ErrorComes X z
    by X =
        let few = u.few in
        error_ends X z (record {
          routines = u.routines;
          raises = u.place;
          error = u.error;
          acts = u.acts;
          most = omega (arith, few);
        })

waiting_ends :
    (s : Scope) (z : Setting) → IsUnraised z.block z.most →
    (s.waits ≡ true → (level n : ℕ) → s.is_function level n ≡ true → L.Does z 0 (call_number level n)) →
    KnowsWaiting s z
waiting_ends s z u functions =
    record {
      overflow = λ may. overflow_ends z (record {
        routines = u.routines;
        overflow = u.overflow;
        error = u.error;
        acts = u.acts;
        most = u.few;
      });
      divisor = λ may. zero_divide_ends z (record {
        routines = u.routines;
        divisor = u.divisor;
        error = u.error;
        acts = u.acts;
        most = u.few;
      });
      subscript = λ may. subscripts_end z (record {
        routines = u.routines;
        place = u.place;
        error = u.error;
        acts = u.acts;
        most = u.few;
      });
      errors = errors_end z u;
      functions = functions;
    }

unraised_waits : (k : Block) (entries : List Entry) (most : ℕ) → IsUnraised k most → IsUnraised (waiting entries k) most
unraised_waits k entries most u =
    record {
      routines = u.routines;
      place = u.place;
      overflow = u.overflow;
      divisor = u.divisor;
      error = u.error;
      acts = u.acts;
      few = u.few;
    }

-- around an expression
pub texts_end :
    (s : Scope) (z : Setting) → IsUnraised z.block z.most → KnowsConstants z.block →
    ((entries : List Entry) → s.waits ≡ true → (level n : ℕ) → s.is_function level n ≡ true →
    L.Does (over entries z) 0 (call_number level n)) → KnowsTexts s z
texts_end s z u constants functions =
    record {
      constants = constants;
      errors = errors_end z u;
      waits = λ entries.
          waiting_ends s (over entries z) (unraised_waits z.block entries z.most u) (functions entries);
    }

-- and around the statements of a block
pub around_texts_end :
    (s : Scope) (k : Block) (own : List Label) (most : ℕ) → IsUnraised k most → KnowsConstants k →
    (s.waits ≡ true → (words : ℕ) → MayBeSet s words → (line : ℕ) (entries : List Entry) (level n : ℕ) →
    s.is_function level n ≡ true →
    L.Does (setting_around words (waiting entries k) [] line most) 0 (call_number level n)) →
    KnowsAroundTexts s k own most
around_texts_end s k own most u constants functions =
    record {
      constants = constants;
      errors = λ words set labels line includes. errors_end (setting_around words k labels line most) u;
      waits = λ words set line entries.
          waiting_ends s (setting_around words (waiting entries k) [] line most) (unraised_waits k entries most u)
          (λ may. functions may words set line entries);
    }
