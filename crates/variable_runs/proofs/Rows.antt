-- The worked row with two variables: all that is premised of the program is computed.
use Rattle.std.proofs.Common.{◌≡◌, ℕ, suc, ◌+◌, ◌^◌, ◌<◌, List, [], ◌∷◌, ◌++◌, inl, inr, length, map, Some}
use Rattle.std.proofs.Common.{refl, arith}
use Rattle.rv_meaning.specs.Machine.{memory_size}
use Rattle.pli_language.specs.declared.condition.Condition.TheVariants as C
use Rattle.pli_typing.specs.TypedTree as Y
use Rattle.pli_meaning.specs.declared.outcome.End.TheVariants as E
use Rattle.pli_meaning.specs.Control as F
use Rattle.pli_meaning.specs.Evaluating as V
use Rattle.pli_meaning.specs.Executing as M
use Rattle.pli_meaning.specs.Executing.{run}
use Rattle.pli_meaning.specs.Making as K
use Rattle.pli_meaning.specs.Placing as P
use Rattle.pli_meaning.specs.Raising as R
use Rattle.pli_meaning.specs.StorageState.{first_state}
use Rattle.area_keeper.specs.KeeperLaws.{Keeps}
use Rattle.run_keeper.specs.RunKeeper.{run_keeper}
use Rattle.pli_serving.specs.Templates.{template_of}
use Rattle.pli_coding.specs.Allocating.{act_code}
use Rattle.pli_coding.specs.Assembly.{CallTo, Mark, ProcedureEntry, ReturnPlace, size_of}
use Rattle.pli_coding.specs.Environments.{none_taken}
use Rattle.pli_coding.specs.Images.{first_frame, linked_code, raise_code}
use Rattle.pli_coding.specs.Linking.{links_of}
use Rattle.pli_coding.specs.SignatureTable.{table_of}
use Rattle.pli_coding.specs.Statements.{stmt_code, stmts_code}
use Rattle.storage_relation.specs.Served.{AllDiffer}
use Rattle.activation_relation.specs.Layers.{services_of}
use Rattle.run_steps.specs.Items.{Linked}
use Rattle.run_steps.proofs.Jumps.{back_of, first_of, front_of, rest_of}
use Rattle.run_steps.proofs.Linking.{has_items, linked_length}
use Rattle.run_steps.specs.Reach.{Comes}
use Rattle.program_runs.specs.Calls.{block_at, body_index, left_over}
use Rattle.program_runs.specs.Procedures.{begin_of, end_of, procedure_code}
use Rattle.program_runs.specs.Programs.{IsWhole, Whole, main_of}
use Rattle.program_runs.specs.Starts.{first_family, image_parts, main_called, no_numbers, start_of, never_in}
use Rattle.program_runs.specs.Starts.{start_point, surroundings_of}
use Rattle.program_runs.specs.Statements.{Block, EachDoes, IsBegun, StandAt}
use Rattle.program_runs.proofs.Gotos.{goto_does}
use Rattle.program_runs.proofs.Programs.{program_runs}
use Rattle.program_runs.proofs.Rows.{is_datum, names_none, none_named}
use Rattle.program_runs.proofs.VariableRows.{differs_alone, number_valued}
use Rattle.program_runs.specs.Variables.{Declared}
use Rattle.expression_runs.specs.Assignments.{IsAssignment, setting_of}
use Rattle.expression_runs.specs.Raises.{IsUnraised}
use Rattle.expression_runs.specs.Values.{OverflowComes}
use Rattle.expression_runs.specs.Variables.{IsNumber, whole}
use Rattle.expression_runs.proofs.Assignments.{assign_does}
use Rattle.expression_runs.proofs.Operands.{constant_does}
use Rattle.expression_runs.proofs.Rows.{one_label_stands}
use Rattle.expression_runs.proofs.Raises.{overflow_ends}
use Rattle.expression_runs.proofs.Sums.{sum_does}
use Rattle.expression_runs.proofs.VariablePoints.{variable_does}
use Rattle.variable_runs.specs.Lists.{AreAll, newest_all}
use Rattle.variable_runs.specs.Rows.{other_declared, other_spot, pair_again, pair_back, pair_body, pair_code}
use Rattle.variable_runs.specs.Rows.{pair_coded}
use Rattle.variable_runs.specs.Rows.{pair_declared, pair_end, pair_entry, pair_environment, pair_first, pair_image}
use Rattle.variable_runs.specs.Rows.{pair_label, pair_last, pair_main, pair_other, pair_program, pair_rest, pair_spot}
use Rattle.variable_runs.specs.Rows.{pair_sum}
use Rattle.variable_runs.proofs.Known.{known_number, known_own}
use Rattle.variable_runs.proofs.Lists.{all_procedure}

-- ---- its code

pair_linked : Linked (links_of pair_code) (linked_code pair_code) 0 pair_code
unfolding names_none is_datum
pair_linked =
    let n = linked_length (links_of pair_code) 0 pair_code in
    record {
      small' = omega (arith, n);
      inside = omega (arith, n);
      has = has_items (links_of pair_code) pair_code refl;
      named = λ d h. absurd (none_named d pair_code refl h);
    }

start_linked : Linked (links_of pair_code) (linked_code pair_code) 0 (start_of 0)
start_linked = front_of (start_of 0) (raise_code ++ pair_coded) pair_linked

raise_linked : Linked (links_of pair_code) (linked_code pair_code) (size_of (start_of 0)) raise_code
raise_linked = front_of raise_code pair_coded (back_of (start_of 0) (raise_code ++ pair_coded) pair_linked)

main_linked :
    Linked (links_of pair_code) (linked_code pair_code) pair_entry
    (procedure_code pair_environment pair_main)
main_linked =
    rest_of (Mark (ProcedureEntry 0)) (procedure_code pair_environment pair_main)
    (back_of raise_code pair_coded (back_of (start_of 0) (raise_code ++ pair_coded) pair_linked))

abbrev pub pair_start : ℕ
pair_start =
    pair_entry + size_of (begin_of pair_main) + size_of pair_main.variables + size_of (act_code 1)

abbrev pub pair_finish : ℕ
pair_finish = pair_start + size_of (stmts_code pair_environment none_taken pair_main.body)

body_linked :
    Linked (links_of pair_code) (linked_code pair_code) pair_start
    (stmts_code pair_environment none_taken pair_main.body)
body_linked =
    let one = act_code 1 in
    let body = stmts_code pair_environment none_taken pair_main.body in
    let tail = Mark (ReturnPlace 0) ∷ end_of pair_main in
    let rest = one ++ (body ++ tail) in
    front_of body tail
    (back_of one (body ++ tail)
    (back_of pair_main.variables rest (back_of (begin_of pair_main) (pair_main.variables ++ rest) main_linked)))

-- ---- its variables

one_differs : AllDiffer (map template_of (table_of pair_program))
one_differs = differs_alone (map template_of (table_of pair_program)) _ refl refl

abbrev pub pair_variables : List Declared
pair_variables = pair_declared ∷ other_declared ∷ []

abbrev pub pair_whole : (input : List ℕ) → (acts : ℕ) → Whole
pair_whole input acts =
    record {
      image = pair_image input acts;
      program = pair_program;
      main = pair_main;
      others = [];
      environment = pair_environment;
      entry = pair_entry;
      end = pair_finish;
      made = newest_all image_parts pair_variables;
    }

pair_all :
    (input : List ℕ) (acts : ℕ) →
    AreAll (surroundings_of (pair_image input acts)) (main_of (pair_whole input acts))
    (start_point (pair_image input acts)) no_numbers pair_variables
pair_all input acts =
    let n = linked_length (links_of pair_code) 0 pair_code in
    record {
      kind = refl;
      those = inl (refl, refl, inl (refl, refl, tt));
      listed = (
        record { class = refl; evaluations = refl; late = omega arith; table = refl },
        (record { class = refl; evaluations = refl; late = omega arith; table = refl }, tt),
      );
      code = refl;
      made = refl;
      parts = refl;
      few = omega arith;
      declared = (
        inl (record {
          newest = refl;
          here = refl;
          holds = omega arith;
          size = omega arith;
          fits = omega arith;
          even = refl;
          low = omega (arith, n);
          shape = refl;
          number = omega arith;
          initial = refl;
          none = refl;
          plain = refl;
          fixed = refl;
          values = (tt, tt);
          valued = number_valued;
          limit = refl;
        }),
        (
          inl (record {
            newest = refl;
            here = refl;
            holds = omega arith;
            size = omega arith;
            fits = omega arith;
            even = refl;
            low = omega (arith, n);
            shape = refl;
            number = omega arith;
            initial = refl;
            none = refl;
            plain = refl;
            fixed = refl;
            values = (tt, tt);
            valued = number_valued;
            limit = refl;
          }),
          tt,
        ),
      );
    }

abbrev pub pair_block : (input : List ℕ) → (acts : ℕ) → Block
pair_block input acts =
    block_at (surroundings_of (pair_image input acts)) (linked_code pair_code) (main_of (pair_whole input acts))
    (start_point (pair_image input acts)) no_numbers

pair_number : (input : List ℕ) (acts : ℕ) → IsBegun (pair_block input acts) → IsNumber (pair_block input acts) pair_spot
pair_number input acts b =
    known_number (pair_block input acts) pair_spot []
    (known_own (surroundings_of (pair_image input acts)) (linked_code pair_code) (main_of (pair_whole input acts))
    (start_point (pair_image input acts)) no_numbers pair_variables pair_declared pair_spot
    (record { high = omega arith; inside = omega arith }) (pair_all input acts) (inl refl)
    (record { declared = refl; index = refl; level = refl; own = refl; place = refl }) b)

other_number :
    (input : List ℕ) (acts : ℕ) → IsBegun (pair_block input acts) → IsNumber (pair_block input acts) other_spot
other_number input acts b =
    known_number (pair_block input acts) other_spot []
    (known_own (surroundings_of (pair_image input acts)) (linked_code pair_code) (main_of (pair_whole input acts))
    (start_point (pair_image input acts)) no_numbers pair_variables other_declared other_spot
    (record { high = omega arith; inside = omega arith }) (pair_all input acts) (inr (inl refl))
    (record { declared = refl; index = refl; level = refl; own = refl; place = refl }) b)

-- ---- its statements

unraised :
    (input : List ℕ) (acts line : ℕ) → acts + 1 < 2 ^ 64 →
    IsUnraised (setting_of (pair_block input acts) (pair_label ∷ []) line 100)
unraised input acts line few =
    record {
      routines = record {
        at = size_of (start_of 0);
        linked = raise_linked;
        condition = refl;
        end = omega arith;
      };
      overflow = tt;
      error = tt;
      acts = few;
      most = omega arith;
    }

first_is :
    (input : List ℕ) (acts : ℕ) → acts + 1 < 2 ^ 64 → IsBegun (pair_block input acts) →
    IsAssignment (pair_block input acts) pair_spot (Y.NumberConstant 536870912) 3 pair_start 0 100
first_is input acts few b =
    let n = linked_length (links_of pair_code) 0 pair_code in
    record {
      act = record { line_fits = omega arith; acts = few };
      begun = b;
      number = pair_number input acts b;
      registers = omega arith;
      held = omega arith;
      statement = front_of (stmt_code pair_environment none_taken pair_first)
          (stmts_code pair_environment none_taken pair_rest) body_linked;
      paid = omega (arith, n);
    }

abbrev other_index : ℕ
other_index = pair_start + size_of (stmt_code pair_environment none_taken pair_first)

abbrev again_index : ℕ
again_index = other_index + size_of (stmt_code pair_environment none_taken pair_other)

abbrev back_index : ℕ
back_index = again_index + size_of (stmt_code pair_environment none_taken pair_again)

rest_linked :
    Linked (links_of pair_code) (linked_code pair_code) other_index (stmts_code pair_environment none_taken pair_rest)
rest_linked =
    back_of (stmt_code pair_environment none_taken pair_first) (stmts_code pair_environment none_taken pair_rest)
    body_linked

other_linked :
    Linked (links_of pair_code) (linked_code pair_code) other_index
    (stmt_code pair_environment none_taken pair_other ++ stmts_code pair_environment none_taken pair_last)
other_linked = rest_of _ _ rest_linked

last_linked :
    Linked (links_of pair_code) (linked_code pair_code) again_index (stmts_code pair_environment none_taken pair_last)
last_linked =
    back_of (stmt_code pair_environment none_taken pair_other) (stmts_code pair_environment none_taken pair_last)
    other_linked

other_is :
    (input : List ℕ) (acts : ℕ) → acts + 1 < 2 ^ 64 → IsBegun (pair_block input acts) →
    IsAssignment (pair_block input acts) other_spot pair_sum 4 other_index 1 100
other_is input acts few b =
    let n = linked_length (links_of pair_code) 0 pair_code in
    record {
      act = record { line_fits = omega arith; acts = few };
      begun = b;
      number = other_number input acts b;
      registers = omega arith;
      held = omega arith;
      statement = front_of (stmt_code pair_environment none_taken pair_other)
          (stmts_code pair_environment none_taken pair_last) other_linked;
      paid = omega (arith, n);
    }

again_is :
    (input : List ℕ) (acts : ℕ) → acts + 1 < 2 ^ 64 → IsBegun (pair_block input acts) →
    IsAssignment (pair_block input acts) pair_spot (Y.NumberIn (whole other_spot)) 5 again_index 0 100
again_is input acts few b =
    let n = linked_length (links_of pair_code) 0 pair_code in
    record {
      act = record { line_fits = omega arith; acts = few };
      begun = b;
      number = pair_number input acts b;
      registers = omega arith;
      held = omega arith;
      statement = front_of (stmt_code pair_environment none_taken pair_again)
          (stmts_code pair_environment none_taken pair_end) last_linked;
      paid = omega (arith, n);
    }

pub pair_each :
    (input : List ℕ) (acts : ℕ) → acts + 1 < 2 ^ 64 → IsBegun (pair_block input acts) →
    EachDoes (pair_block input acts) (pair_label ∷ []) pair_body
    (body_index (main_of (pair_whole input acts))) left_over
pair_each input acts few b =
    let k = pair_block input acts in
    let labels = pair_label ∷ [] in
    let four = setting_of k labels 4 100 in
    let over : OverflowComes four = overflow_ends four (unraised input acts 4 few) in
    let operand = variable_does four pair_spot b (pair_number input acts b) in (
      assign_does k labels pair_spot (Y.NumberConstant 536870912) 3 pair_start left_over 0 100
          (first_is input acts few b) (constant_does (setting_of k labels 3 100) 536870912 (omega arith)),
      (
        assign_does k labels other_spot pair_sum 4 other_index left_over 1 100 (other_is input acts few b)
            (sum_does four (Y.NumberIn (whole pair_spot)) (Y.NumberIn (whole pair_spot)) 0 0 over operand operand),
        (
          assign_does k labels pair_spot (Y.NumberIn (whole other_spot)) 5 again_index left_over 0 100
              (again_is input acts few b)
              (variable_does (setting_of k labels 5 100) other_spot b (other_number input acts b)),
          (
            goto_does k labels pair_label 6 back_index left_over (record { line_fits = omega arith; acts = few })
                (record {
                  begun = b;
                  carried = refl;
                  level = refl;
                  block = refl;
                  at = other_index;
                  place = refl;
                  near = omega arith;
                })
                (front_of (stmt_code pair_environment none_taken pair_back) []
                (back_of (stmt_code pair_environment none_taken pair_again)
                (stmts_code pair_environment none_taken pair_end) last_linked)),
            tt,
          ),
        ),
      ),
    )

-- ---- its label

labels_stand : StandAt (links_of pair_code) 0 (pair_label ∷ []) other_index
labels_stand = one_label_stands (links_of pair_code) other_index refl

-- ---- the whole

pub pair_is : (input first : List ℕ) (acts : ℕ) → acts + 1 < 2 ^ 64 → length first ≡ memory_size →
    IsWhole (pair_whole input acts) first
pair_is input first acts few bytes =
    let l = back_of (first_frame image_parts) (main_called 0) start_linked in
    record {
      start = record { linked = start_linked; differ = one_differs; bytes = bytes; told = λ n v e. absurd (cc e) };
      made = all_procedure (surroundings_of (pair_image input acts)) (linked_code pair_code)
          (main_of (pair_whole input acts)) (start_point (pair_image input acts)) no_numbers pair_variables
          (pair_all input acts);
      callee = record {
        coded = record { level = omega arith; line = omega arith; saved = omega arith; back = omega arith };
        calls = first_of (CallTo (ProcedureEntry 0)) _ (rest_of _ _ (rest_of _ _ (rest_of _ _ l)));
        place = refl;
        stands = main_linked;
        end = refl;
        kind = refl;
        labels = (
          λ label e. absurd (cc e),
          (labels_stand, (λ label e. absurd (cc e), (λ label e. absurd (cc e), λ label e. absurd (cc e)))),
        );
        acts = few;
      };
      room = record { room = omega arith; shallow = refl; parent = tt; idle = refl };
      level = refl;
      procedures = refl;
      statics = refl;
    }

pub pair_runs :
    Keeps run_keeper → (input first : List ℕ) (acts : ℕ) → acts + 1 < 2 ^ 64 → length first ≡ memory_size →
    Comes (linked_code pair_code) 0 (first_family first (services_of (start_point (pair_image input acts))))
    (services_of (start_point (pair_image input acts))) (never_in (pair_image input acts))
    (run pair_program (suc acts) acts (first_state input))
pair_runs keeps input first acts few bytes =
    program_runs keeps (pair_whole input acts) first (pair_is input first acts few bytes)
    (λ b. pair_each input acts few b)

-- ---- what the program comes to

unfoldable flows : Unit {0}
unfolding F.give F.◌>>=◌ F.◌>>◌ F.looked F.stored F.act F.finish F.returns F.jumps F.choose F.given F.list_from
    F.leaving
flows = tt

unfoldable values : Unit {0}
unfolding V.number V.designated V.located V.numbers V.variable_designated V.part_designated V.stored_value R.or_error
    R.demanded R.value_of R.raised R.unit_run R.error R.error_unit_run P.element_stored M.assigned
values = tt

unfoldable makings : Unit {0}
unfolding K.variables_made K.automatic_made K.extents K.variable_made K.parameters_bound
makings = tt

unfoldable statements : Unit {0}
unfolding M.statement M.statements M.list M.list_with M.block_variables_made M.entry_act M.block_list M.block_body
statements = tt

pub pair_ends :
    (input : List ℕ) →
    M.meaning pair_program input 9
    ≡ Some (record {
      acts = 9;
      output = [];
      raised = (C.FixedOverflow, 20) ∷ (C.Error, 20) ∷ [];
      end = E.Error 20 4;
    })
unfolding M.meaning M.run M.entered M.block_run flows values makings statements
pair_ends input = refl
