-- The program whose jump is caught at the end of a function is well formed, and its run is computed.
use Rattle.std.proofs.Common.{◌≡◌, ℕ, zero, suc, ◌<◌, ◌≤◌, [], ◌∷◌, Some, refl, subst, arith, inl, inr}
use Rattle.std.proofs.lemmas.Bool.Decides.{nat_tests}
use Rattle.pli_language.specs.declared.condition.Condition.TheVariants as C
use Rattle.pli_language.specs.Formats as Q
use Rattle.pli_meaning.specs.declared.outcome.End.TheVariants as E
use Rattle.pli_typing.specs.TypedTree as Y
use Rattle.pli_meaning.specs.Control as F
use Rattle.pli_meaning.specs.Raising as R
use Rattle.pli_meaning.specs.Evaluating as V
use Rattle.pli_meaning.specs.Making as K
use Rattle.pli_meaning.specs.Streaming as S
use Rattle.pli_meaning.specs.Executing as M
use Rattle.well_formed_trees.specs.Surroundings.{Around, Table}
use Rattle.well_formed_trees.specs.Blocks.{times}
use Rattle.well_formed_trees.specs.Ranges.{IsFormatList}
use Rattle.well_formed_trees.specs.WellFormed as T
use Rattle.meaning_runs.specs.Caught.{head, formats, main_body, function_body, main, function, function_ends}
use Rattle.meaning_runs.specs.Caught.{JumpCaught}

caught :
    M.meaning function_ends [] 20
    ≡ Some (record { acts = 12; output = 65 ∷ 10 ∷ []; raised = (C.Error, 112) ∷ []; end = E.Finished })
unfolding F.give F.stuck F.◌>>=◌ F.◌>>◌ F.looked F.stored F.act F.finish F.returns F.jumps F.choose F.given F.list_from
    F.repeated_while F.leaving R.error_unit_run R.error V.all_passed_last V.procedure_entered V.returned V.bit V.text
    V.called V.arguments V.argument V.stored_value V.computational K.variables_made K.parameters_bound S.controls
    S.next_item S.control_put S.shown_by S.item_put S.items_put S.pairs_put S.put M.list_with M.established_by
    M.statement M.statements M.list M.block_variables_made M.entry_act M.block_list M.block_body M.block_run M.entered
    M.run M.meaning
caught = refl

-- ---- the blocks

abbrev main_around : Around
main_around = record { number = 1; level = 0; outermost = []; inner = [] }

abbrev function_around : Around
function_around = record { number = 2; level = 1; outermost = (76 ∷ []) ∷ (78 ∷ []) ∷ []; inner = [] }

abbrev table : Table
table = [] ∷ (main_around ∷ []) ∷ (function_around ∷ main_around ∷ []) ∷ []

once : (n : ℕ) → 1 ≤ n → n < 3 → times n (1 ∷ 2 ∷ []) ≡ 1
once zero h k = absurd (omega (arith, h))
once (suc zero) h k = refl
once (suc (suc zero)) h k = refl
once (suc (suc (suc n))) h k = absurd (omega (arith, k))

none : (n : ℕ) → 3 ≤ n → times n (1 ∷ 2 ∷ []) ≡ 0
none n h = grind (arith, nat_tests, h)

entries : (number : ℕ) → 1 ≤ number → number < 3 → T.IsEntry table number
entries zero h k = absurd (omega (arith, h))
entries (suc zero) h k =
    record { own = main_around; outer = []; entry = refl; number_is = refl; shallow = omega arith }
entries (suc (suc zero)) h k =
    record { own = function_around; outer = main_around ∷ []; entry = refl; number_is = refl; shallow = omega arith }
entries (suc (suc (suc n))) h k = absurd (omega (arith, k))

between : T.Between table 1 2 0
between zero a more h k e = absurd (omega (arith, h))
between (suc zero) a more h k e = absurd (omega (arith, h))
between (suc (suc zero)) a more h k e =
    let same : function_around ≡ a = cc e in subst (λ x. 0 < x.level) same (omega arith)
between (suc (suc (suc n))) a more h k e = absurd (omega (arith, k))

nested : T.AreNested table
nested zero own outer e = absurd (cc e)
nested (suc zero) own outer e = let none : [] ≡ outer = cc e in subst (T.IsBehind table 1) none tt
nested (suc (suc zero)) own outer e =
    let same : main_around ∷ [] ≡ outer = cc e in subst (T.IsBehind table 2) same (omega arith, between)
nested (suc (suc (suc n))) own outer e = absurd (cc e)

variables : (number : ℕ) → T.DeclaresSound table function_ends number
variables zero around e = tt
variables (suc zero) around e = tt
variables (suc (suc zero)) around e = tt
variables (suc (suc (suc n))) around e = absurd (cc e)

-- ---- the procedures

has_data : IsFormatList Q.Putting formats
unfolding Q.formats_move_data
has_data = record { formats_are = ((omega arith, omega arith), (tt, tt)); moves_data = refl }

main_sound : T.SoundProcedure table function_ends main
main_sound =
    record {
      head = head Y.ProcedureBlock 1 0;
      body = main_body;
      is = refl;
      kind = refl;
      line = omega arith;
      outer = [];
      held = refl;
      listed = refl;
      statements = (
        (
          (
            (function, refl, refl),
            (
              record {
                procedure = function;
                is = record {
                  found = refl;
                  level_is = refl;
                  kind = refl;
                  own = function_around;
                  holder = main_around;
                  outer = [];
                  entry = refl;
                  holder_around = inl (refl, refl);
                };
                passed = tt;
              },
              tt,
            ),
          ),
          (
            (tt, (((has_data, (omega arith, tt)), tt), omega arith)),
            omega arith,
          ),
        ),
        tt,
      );
      labels = (tt, (tt, tt));
      parameters = tt;
      apart = tt;
      result = tt;
    }

function_sound : T.SoundProcedure table function_ends function
function_sound =
    record {
      head = head Y.ProcedureBlock 2 1;
      body = function_body;
      is = refl;
      kind = refl;
      line = omega arith;
      outer = main_around ∷ [];
      held = (refl, refl);
      listed = refl;
      statements = (
        (
          (refl, (record { line = omega arith; level = refl }, tt)),
          (((inr (inl (refl, refl)), omega arith), tt), omega arith),
        ),
        ((inl (refl, refl), omega arith), ((refl, (tt, (tt, omega arith))), tt)),
      );
      labels = ((refl, (refl, tt)), ((tt, (tt, tt)), (tt, (tt, tt))));
      parameters = tt;
      apart = tt;
      result = tt;
    }

well_formed : T.IsWellFormed function_ends
well_formed =
    record {
      table = table;
      main = (refl, (refl, (omega arith, tt)));
      numbers = record { once = once; none = none; not_outermost = refl };
      entries = entries;
      nested = nested;
      procedures = (main_sound, (function_sound, tt));
      lists = refl;
      outermost = refl;
      variables = variables;
    }

pub jump_caught : JumpCaught
jump_caught = record { well_formed = well_formed; caught = caught }
