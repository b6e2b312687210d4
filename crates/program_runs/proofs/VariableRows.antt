-- The worked row with a variable: all that is premised of the program is computed.
use Rattle.std.proofs.Common.{◌≡◌, ℕ, zero, suc, ◌+◌, ◌^◌, ◌<◌, List, [], ◌∷◌, ◌++◌, length, map}
use Rattle.std.proofs.Common.{true, refl, sym, ap, ◌∙◌, subst, arith}
use Rattle.std.specs.Prelude.{ℤ}
use Rattle.rv_meaning.specs.Machine.{memory_size}
use Rattle.pli_typing.specs.TypedTree as Y
use Rattle.pli_meaning.specs.Executing.{run}
use Rattle.pli_meaning.specs.StorageState.{first_state}
use Rattle.pli_types.specs.Templates.{Template}
use Rattle.area_keeper.specs.KeeperLaws.{Keeps}
use Rattle.run_keeper.specs.RunKeeper.{run_keeper}
use Rattle.pli_serving.specs.SignatureService.{same_template}
use Rattle.pli_serving.specs.Templates.{template_of}
use Rattle.pli_coding.specs.Allocating.{act_code}
use Rattle.pli_coding.specs.Assembly.{CallTo, Mark, ProcedureEntry, ReturnPlace, size_of}
use Rattle.pli_coding.specs.Environments.{none_taken}
use Rattle.pli_coding.specs.Images.{first_frame, linked_code, raise_code}
use Rattle.pli_coding.specs.Linking.{links_of}
use Rattle.pli_coding.specs.SignatureTable.{table_of}
use Rattle.pli_coding.specs.Statements.{stmt_code, stmts_code}
use Rattle.storage_relation.specs.Served.{AllDiffer}
use Rattle.storage_relation.specs.Standing.{IsValued, leaf_in}
use Rattle.storage_relation.specs.Telling.{IsOf}
use Rattle.activation_relation.specs.Layers.{services_of}
use Rattle.run_steps.specs.Items.{Linked}
use Rattle.run_steps.proofs.Jumps.{back_of, first_of, front_of, rest_of}
use Rattle.run_steps.proofs.Linking.{has_items, linked_length}
use Rattle.run_steps.specs.Reach.{Comes}
use Rattle.program_runs.specs.Calls.{block_at, body_index, left_over}
use Rattle.program_runs.specs.Procedures.{begin_of, end_of, procedure_code}
use Rattle.program_runs.specs.Programs.{IsWhole, Whole, main_of}
use Rattle.program_runs.specs.Starts.{first_family, image_parts, main_called, no_numbers, start_of, never_in}
use Rattle.program_runs.specs.Starts.{start_point, surroundings_of}
use Rattle.program_runs.specs.Statements.{EachDoes}
use Rattle.program_runs.specs.VariableRows.{number_code, number_coded, number_declared, number_entry}
use Rattle.program_runs.specs.VariableRows.{number_environment, number_image, number_main, number_program}
use Rattle.program_runs.specs.Variables.{IsOnly, generation_for, newest_made}
use Rattle.program_runs.proofs.Programs.{program_runs}
use Rattle.program_runs.proofs.Rows.{is_datum, names_none, none_named}
use Rattle.program_runs.proofs.Statements.{null_does}
use Rattle.program_runs.proofs.VariableProcedures.{one_made}

-- ---- its code

number_linked : Linked (links_of number_code) (linked_code number_code) 0 number_code
unfolding names_none is_datum
number_linked =
    let n = linked_length (links_of number_code) 0 number_code in
    record {
      small' = omega (arith, n);
      inside = omega (arith, n);
      has = has_items (links_of number_code) number_code refl;
      named = λ d h. absurd (none_named d number_code refl h);
    }

start_linked : Linked (links_of number_code) (linked_code number_code) 0 (start_of 0)
start_linked = front_of (start_of 0) (raise_code ++ number_coded) number_linked

main_linked :
    Linked (links_of number_code) (linked_code number_code) number_entry
    (procedure_code number_environment number_main)
main_linked =
    rest_of (Mark (ProcedureEntry 0)) (procedure_code number_environment number_main)
    (back_of raise_code number_coded (back_of (start_of 0) (raise_code ++ number_coded) number_linked))

-- the index of its first statement, and of its end
abbrev pub number_start : ℕ
number_start =
    number_entry + size_of (begin_of number_main) + size_of number_main.variables + size_of (act_code 1)

abbrev pub number_end : ℕ
number_end = number_start + size_of (stmts_code number_environment none_taken number_main.body)

body_linked :
    Linked (links_of number_code) (linked_code number_code) number_start
    (stmts_code number_environment none_taken number_main.body)
body_linked =
    let one = act_code 1 in
    let body = stmts_code number_environment none_taken number_main.body in
    let tail = Mark (ReturnPlace 0) ∷ end_of number_main in
    let rest = one ++ (body ++ tail) in
    front_of body tail
    (back_of one (body ++ tail)
    (back_of number_main.variables rest (back_of (begin_of number_main) (number_main.variables ++ rest) main_linked)))

-- ---- its table

pub differs_alone : (ts : List Template) (t : Template) → ts ≡ t ∷ [] → same_template t t ≡ true → AllDiffer ts
differs_alone ts t is same = subst AllDiffer (sym is) alone
  where
    alone : AllDiffer (t ∷ [])
    alone zero zero a b e f =
        let ea : t ≡ a = cc e in
        let eb : t ≡ b = cc f in
        ap (λ u. same_template u b) (sym ea) ∙ ap (λ u. same_template t u) (sym eb) ∙ same
    alone zero (suc j) a b e f = absurd (cc f)
    alone (suc i) j a b e f = absurd (cc e)

one_differs : AllDiffer (map template_of (table_of number_program))
one_differs = differs_alone (map template_of (table_of number_program)) _ refl refl

-- ---- its variable

pub number_valued : IsValued (generation_for number_declared)
number_valued leaf is less within = by_leaf leaf is less
  where
    by_leaf :
        (leaf : ℕ) (is : List ℤ) → leaf < 1 →
        IsOf (leaf_in (generation_for number_declared) leaf).kind ((generation_for number_declared).values leaf is)
    by_leaf zero is less = (omega arith, refl)
    by_leaf (suc leaf) is less = absurd (omega (arith, less))

abbrev pub number_whole : (input : List ℕ) → (acts : ℕ) → Whole
number_whole input acts =
    record {
      image = number_image input acts;
      program = number_program;
      main = number_main;
      others = [];
      environment = number_environment;
      entry = number_entry;
      end = number_end;
      made = newest_made image_parts number_declared;
    }

number_only :
    (input : List ℕ) (acts : ℕ) →
    IsOnly (surroundings_of (number_image input acts)) (main_of (number_whole input acts))
    (start_point (number_image input acts)) no_numbers number_declared
number_only input acts =
    let n = linked_length (links_of number_code) 0 number_code in
    record {
      kind = refl;
      variables = refl;
      class = refl;
      evaluations = refl;
      first = refl;
      code = refl;
      made = refl;
      table = refl;
      parts = refl;
      few = omega arith;
      declared = record {
        newest = refl;
        here = refl;
        holds = omega arith;
        size = omega arith;
        fits = omega arith;
        even = refl;
        low = omega (arith, n);
        shape = refl;
        number = omega arith;
        initial = refl;
        none = refl;
        plain = refl;
        fixed = refl;
        values = (tt, tt);
        valued = number_valued;
        limit = refl;
      };
    }

-- ---- the whole

pub number_each :
    (input : List ℕ) (acts : ℕ) → acts + 1 < 2 ^ 64 →
    EachDoes
    (block_at (surroundings_of (number_image input acts)) (linked_code number_code) (main_of (number_whole input acts))
    (start_point (number_image input acts)) no_numbers)
    [] number_main.body (body_index (main_of (number_whole input acts))) left_over
number_each input acts few = (
  null_does _ 3 _ left_over (record { line_fits = omega arith; acts = few })
      (front_of (stmt_code number_environment none_taken (Y.Null 3)) [] body_linked) [],
  tt,
)

pub number_is : (input first : List ℕ) (acts : ℕ) → acts + 1 < 2 ^ 64 → length first ≡ memory_size →
    IsWhole (number_whole input acts) first
number_is input first acts few bytes =
    let l = back_of (first_frame image_parts) (main_called 0) start_linked in
    record {
      start = record { linked = start_linked; differ = one_differs; bytes = bytes; told = λ n v e. absurd (cc e) };
      made = one_made (surroundings_of (number_image input acts)) (linked_code number_code)
          (main_of (number_whole input acts)) (start_point (number_image input acts)) no_numbers number_declared
          (number_only input acts);
      callee = record {
        coded = record { level = omega arith; line = omega arith; saved = omega arith; back = omega arith };
        calls = first_of (CallTo (ProcedureEntry 0)) _ (rest_of _ _ (rest_of _ _ (rest_of _ _ l)));
        place = refl;
        stands = main_linked;
        end = refl;
        kind = refl;
        labels = (λ label e. absurd (cc e), λ label e. absurd (cc e));
        acts = few;
      };
      room = record { room = omega arith; shallow = refl; parent = tt; idle = refl };
      level = refl;
      procedures = refl;
      statics = refl;
    }

pub number_runs :
    Keeps run_keeper → (input first : List ℕ) (acts : ℕ) → acts + 1 < 2 ^ 64 → length first ≡ memory_size →
    Comes (linked_code number_code) 0 (first_family first (services_of (start_point (number_image input acts))))
    (services_of (start_point (number_image input acts))) (never_in (number_image input acts))
    (run number_program (suc acts) acts (first_state input))
number_runs keeps input first acts few bytes =
    program_runs keeps (number_whole input acts) first (number_is input first acts few bytes)
    (λ b. number_each input acts few)
