-- The worked row with two variables: all that is premised of the program is computed.
use Rattle.std.proofs.Common.{◌≡◌, ℕ, zero, suc, ◌+◌, ◌^◌, ◌<◌, List, [], ◌∷◌, ◌++◌, inl, inr, map, Some}
use Rattle.std.proofs.Common.{◌∙◌, refl, arith}
use Rattle.std.specs.Prelude.{ℤ}
use Rattle.pli_language.specs.declared.condition.Condition.TheVariants as C
use Rattle.pli_typing.specs.TypedTree as Y
use Rattle.pli_meaning.specs.declared.outcome.End.TheVariants as E
use Rattle.pli_meaning.specs.Control as F
use Rattle.pli_meaning.specs.Evaluating as V
use Rattle.pli_meaning.specs.Executing as M
use Rattle.pli_meaning.specs.Making as K
use Rattle.pli_meaning.specs.Pictures as Q
use Rattle.pli_meaning.specs.Placing as P
use Rattle.pli_meaning.specs.Raising as R
use Rattle.pli_serving.specs.Templates.{template_of}
use Rattle.pli_coding.specs.Allocating.{act_code}
use Rattle.pli_coding.specs.Assembly.{CallTo, Mark, ProcedureEntry, ReturnPlace, size_of}
use Rattle.pli_coding.specs.Environments.{none_taken}
use Rattle.pli_coding.specs.Images.{first_frame, linked_code, picture_of, raise_code}
use Rattle.pli_coding.specs.Linking.{data_start, links_of}
use Rattle.pli_coding.specs.SignatureTable.{table_of}
use Rattle.pli_coding.specs.Statements.{stmt_code, stmts_code}
use Rattle.pli_coding.specs.StaticData.{static_data}
use Rattle.pli_coding.specs.StaticForms.{items_bytes}
use Rattle.code_marks.proofs.DataOnce.{placed_same, static_has}
use Rattle.storage_relation.specs.Served.{AllDiffer}
use Rattle.storage_relation.specs.Standing.{IsValued, leaf_in}
use Rattle.storage_relation.specs.Telling.{IsOf}
use Rattle.run_steps.specs.Items.{Linked}
use Rattle.run_steps.proofs.Jumps.{back_of, first_of, front_of, rest_of}
use Rattle.run_steps.proofs.Linking.{has_items, linked_length}
use Rattle.program_runs.specs.Calls.{block_at, body_index, left_over}
use Rattle.program_runs.specs.Procedures.{begin_of, end_of, procedure_code}
use Rattle.program_runs.specs.Programs.{IsWhole, Whole, main_of}
use Rattle.program_runs.specs.Starts.{Image, image_parts, main_called, no_numbers, start_of}
use Rattle.program_runs.specs.Starts.{start_point, surroundings_of}
use Rattle.program_runs.specs.Statements.{Block, EachDoes, IsBegun, StandAt}
use Rattle.program_runs.proofs.Gotos.{goto_does}
use Rattle.program_runs.proofs.VariableRows.{differs_alone, number_valued}
use Rattle.program_runs.specs.Initial.{Begins}
use Rattle.program_runs.specs.Variables.{Declared, generation_for}
use Rattle.expression_runs.specs.Assignments.{IsAssignment, setting_of}
use Rattle.expression_runs.specs.Raises.{IsUnraised}
use Rattle.expression_runs.specs.Values.{OverflowComes}
use Rattle.expression_runs.specs.Variables.{IsNumber, whole}
use Rattle.expression_runs.proofs.Assignments.{assign_does}
use Rattle.expression_runs.proofs.Operands.{constant_does}
use Rattle.expression_runs.proofs.Rows.{one_label_stands}
use Rattle.expression_runs.proofs.Raises.{overflow_ends}
use Rattle.expression_runs.proofs.Sums.{sum_does}
use Rattle.expression_runs.proofs.VariablePoints.{variable_does}
use Rattle.variable_runs.specs.Lists.{AreAllBegun, newest_all}
use Rattle.variable_runs.proofs.Known.{known_begun, known_number}
use Rattle.variable_runs.proofs.Lists.{all_begun}
use Rattle.program_places.specs.Constants.{constants_in}
use Rattle.program_places.specs.Programs.{Run, image_for}
use Rattle.program_places.proofs.Marks.{named_has}
use Rattle.pli_headline.specs.Headline.{FitsMemory, parts}
use Rattle.pli_headline.proofs.WholeSizes.{first_length}
use Rattle.block_headlines.specs.Headlines.{Layout, Runs}
use Rattle.block_headlines.proofs.Constants.{constants_stand}
use Rattle.block_headlines.proofs.JumpRuns.{fits}
use Rattle.initial_headlines.specs.Rows.{other_declared, other_spot, reach_again, reach_back, reach_body, reach_code}
use Rattle.initial_headlines.specs.Rows.{reach_coded, reach_declared, reach_end, reach_entry, reach_environment}
use Rattle.initial_headlines.specs.Rows.{reach_items, reach_label, reach_last, reach_main, reach_other, reach_program}
use Rattle.initial_headlines.specs.Rows.{reach_spot, reach_sum, reach_variable}
use Rattle.initial_headlines.proofs.Told.{initial_told}

-- ---- its code

reach_linked : Linked (links_of reach_code) (linked_code reach_code) 0 reach_code
reach_linked =
    let n = linked_length (links_of reach_code) 0 reach_code in
    record {
      small' = omega (arith, n);
      inside = omega (arith, n);
      has = has_items (links_of reach_code) reach_code refl;
      named = λ d h.
          placed_same d (data_start reach_code) (static_data reach_code)
          ∙ static_has reach_code d (named_has d reach_code h);
    }

start_linked : Linked (links_of reach_code) (linked_code reach_code) 0 (start_of 0)
start_linked = front_of (start_of 0) (raise_code ++ reach_coded) reach_linked

raise_linked : Linked (links_of reach_code) (linked_code reach_code) (size_of (start_of 0)) raise_code
raise_linked = front_of raise_code reach_coded (back_of (start_of 0) (raise_code ++ reach_coded) reach_linked)

main_linked :
    Linked (links_of reach_code) (linked_code reach_code) reach_entry
    (procedure_code reach_environment reach_main)
main_linked =
    rest_of (Mark (ProcedureEntry 0)) (procedure_code reach_environment reach_main)
    (back_of raise_code reach_coded (back_of (start_of 0) (raise_code ++ reach_coded) reach_linked))

abbrev pub reach_start : ℕ
reach_start =
    reach_entry + size_of (begin_of reach_main) + size_of reach_main.variables + size_of (act_code 1)

abbrev pub reach_finish : ℕ
reach_finish = reach_start + size_of (stmts_code reach_environment none_taken reach_main.body)

body_linked :
    Linked (links_of reach_code) (linked_code reach_code) reach_start
    (stmts_code reach_environment none_taken reach_main.body)
body_linked =
    let one = act_code 1 in
    let body = stmts_code reach_environment none_taken reach_main.body in
    let tail = Mark (ReturnPlace 0) ∷ end_of reach_main in
    let rest = one ++ (body ++ tail) in
    front_of body tail
    (back_of one (body ++ tail)
    (back_of reach_main.variables rest (back_of (begin_of reach_main) (reach_main.variables ++ rest) main_linked)))

-- ---- its image

reach_fits : FitsMemory (picture_of parts reach_program)
reach_fits = fits reach_program (omega arith) (omega arith)

abbrev run_of : (input : List ℕ) → (acts : ℕ) → Run
run_of input acts = record { units = []; input = input; acts = acts; serials = 2 }

abbrev reach_image : (input : List ℕ) → (acts : ℕ) → Image
reach_image input acts = image_for reach_program (run_of input acts)

-- ---- its variables

one_differs : AllDiffer (map template_of (table_of reach_program))
one_differs = differs_alone (map template_of (table_of reach_program)) _ refl refl

abbrev pub reach_variables : List Declared
reach_variables = reach_declared ∷ other_declared ∷ []

abbrev pub reach_whole : (input : List ℕ) → (acts : ℕ) → Whole
reach_whole input acts =
    record {
      image = reach_image input acts;
      program = reach_program;
      main = reach_main;
      others = [];
      environment = reach_environment;
      entry = reach_entry;
      end = reach_finish;
      made = newest_all image_parts reach_variables;
    }

reach_valued : IsValued (generation_for reach_declared)
reach_valued leaf is less within = by_leaf leaf is less
  where
    by_leaf :
        (leaf : ℕ) (is : List ℤ) → leaf < 1 →
        IsOf (leaf_in (generation_for reach_declared) leaf).kind ((generation_for reach_declared).values leaf is)
    by_leaf zero is less = (omega arith, refl)
    by_leaf (suc leaf) is less = absurd (omega (arith, less))

reach_initial : Begins (constants_in reach_code) (linked_code reach_code) (links_of reach_code).data' reach_variable
reach_initial =
    initial_told reach_program reach_variable (record { leaf = 0; values = items_bytes reach_items }) reach_fits
    refl refl
    (((omega arith, (omega arith, refl)), tt), tt) ((tt, tt), tt) (omega arith)

reach_all :
    (input : List ℕ) (acts : ℕ) →
    AreAllBegun (surroundings_of (reach_image input acts)) (linked_code reach_code)
    (main_of (reach_whole input acts)) (start_point (reach_image input acts)) no_numbers reach_variables
reach_all input acts =
    let n = linked_length (links_of reach_code) 0 reach_code in
    record {
      kind = refl;
      those = inl (refl, refl, inl (refl, refl, tt));
      listed = (
        record { class = refl; evaluations = refl; late = omega arith; table = refl },
        (record { class = refl; evaluations = refl; late = omega arith; table = refl }, tt),
      );
      code = refl;
      made = refl;
      parts = refl;
      few = omega arith;
      declared = (
        inl (record {
          newest = refl;
          here = refl;
          holds = omega arith;
          size = omega arith;
          fits = omega arith;
          even = refl;
          low = omega (arith, n);
          shape = refl;
          number = omega arith;
          initial = reach_initial;
          plain = refl;
          fixed = refl;
          values = (tt, tt);
          valued = reach_valued;
          limit = refl;
        }),
        (
          inl (record {
            newest = refl;
            here = refl;
            holds = omega arith;
            size = omega arith;
            fits = omega arith;
            even = refl;
            low = omega (arith, n);
            shape = refl;
            number = omega arith;
            initial = refl;
            plain = refl;
            fixed = refl;
            values = (tt, tt);
            valued = number_valued;
            limit = refl;
          }),
          tt,
        ),
      );
    }

abbrev pub reach_block : (input : List ℕ) → (acts : ℕ) → Block
reach_block input acts =
    block_at (surroundings_of (reach_image input acts)) (linked_code reach_code) (main_of (reach_whole input acts))
    (start_point (reach_image input acts)) no_numbers

reach_number :
    (input : List ℕ) (acts : ℕ) → IsBegun (reach_block input acts) → IsNumber (reach_block input acts) reach_spot
reach_number input acts b =
    known_number (reach_block input acts) reach_spot reach_items
    (known_begun (surroundings_of (reach_image input acts)) (linked_code reach_code) (main_of (reach_whole input acts))
    (start_point (reach_image input acts)) no_numbers reach_variables reach_declared reach_spot
    (record { high = omega arith; inside = omega arith }) (reach_all input acts) (inl refl)
    (record { declared = refl; index = refl; level = refl; own = refl; place = refl }) b)

other_number :
    (input : List ℕ) (acts : ℕ) → IsBegun (reach_block input acts) → IsNumber (reach_block input acts) other_spot
other_number input acts b =
    known_number (reach_block input acts) other_spot []
    (known_begun (surroundings_of (reach_image input acts)) (linked_code reach_code) (main_of (reach_whole input acts))
    (start_point (reach_image input acts)) no_numbers reach_variables other_declared other_spot
    (record { high = omega arith; inside = omega arith }) (reach_all input acts) (inr (inl refl))
    (record { declared = refl; index = refl; level = refl; own = refl; place = refl }) b)

-- ---- its statements

unraised :
    (input : List ℕ) (acts line : ℕ) → acts + 1 < 2 ^ 64 →
    IsUnraised (setting_of (reach_block input acts) (reach_label ∷ []) line 100)
unraised input acts line few =
    record {
      routines = record {
        at = size_of (start_of 0);
        linked = raise_linked;
        condition = refl;
        end = omega arith;
      };
      overflow = tt;
      error = tt;
      acts = few;
      most = omega arith;
    }

abbrev again_index : ℕ
again_index = reach_start + size_of (stmt_code reach_environment none_taken reach_other)

abbrev back_index : ℕ
back_index = again_index + size_of (stmt_code reach_environment none_taken reach_again)

other_linked :
    Linked (links_of reach_code) (linked_code reach_code) reach_start
    (stmt_code reach_environment none_taken reach_other ++ stmts_code reach_environment none_taken reach_last)
other_linked = rest_of _ _ body_linked

last_linked :
    Linked (links_of reach_code) (linked_code reach_code) again_index
    (stmts_code reach_environment none_taken reach_last)
last_linked =
    back_of (stmt_code reach_environment none_taken reach_other) (stmts_code reach_environment none_taken reach_last)
    other_linked

other_is :
    (input : List ℕ) (acts : ℕ) → acts + 1 < 2 ^ 64 → IsBegun (reach_block input acts) →
    IsAssignment (reach_block input acts) other_spot reach_sum 3 reach_start 1 100
other_is input acts few b =
    let n = linked_length (links_of reach_code) 0 reach_code in
    record {
      act = record { line_fits = omega arith; acts = few };
      begun = b;
      number = other_number input acts b;
      registers = omega arith;
      held = omega arith;
      statement = front_of (stmt_code reach_environment none_taken reach_other)
          (stmts_code reach_environment none_taken reach_last) other_linked;
      paid = omega (arith, n);
    }

again_is :
    (input : List ℕ) (acts : ℕ) → acts + 1 < 2 ^ 64 → IsBegun (reach_block input acts) →
    IsAssignment (reach_block input acts) reach_spot (Y.NumberIn (whole other_spot)) 4 again_index 0 100
again_is input acts few b =
    let n = linked_length (links_of reach_code) 0 reach_code in
    record {
      act = record { line_fits = omega arith; acts = few };
      begun = b;
      number = reach_number input acts b;
      registers = omega arith;
      held = omega arith;
      statement = front_of (stmt_code reach_environment none_taken reach_again)
          (stmts_code reach_environment none_taken reach_end) last_linked;
      paid = omega (arith, n);
    }

pub reach_each :
    (input : List ℕ) (acts : ℕ) → acts + 1 < 2 ^ 64 → IsBegun (reach_block input acts) →
    EachDoes (reach_block input acts) (reach_label ∷ []) reach_body
    (body_index (main_of (reach_whole input acts))) left_over
reach_each input acts few b =
    let k = reach_block input acts in
    let labels = reach_label ∷ [] in
    let three = setting_of k labels 3 100 in
    let over : OverflowComes three = overflow_ends three (unraised input acts 3 few) in
    let operand = variable_does three reach_spot b (reach_number input acts b) in (
      assign_does k labels other_spot reach_sum 3 reach_start left_over 1 100 (other_is input acts few b)
          (sum_does three (Y.NumberIn (whole reach_spot)) (Y.NumberConstant 1) 0 0 over operand
          (constant_does three 1 (omega arith))),
      (
        assign_does k labels reach_spot (Y.NumberIn (whole other_spot)) 4 again_index left_over 0 100
            (again_is input acts few b)
            (variable_does (setting_of k labels 4 100) other_spot b (other_number input acts b)),
        (
          goto_does k labels reach_label 5 back_index left_over (record { line_fits = omega arith; acts = few })
              (record {
                begun = b;
                carried = refl;
                level = refl;
                block = refl;
                at = reach_start;
                place = refl;
                near = omega arith;
              })
              (front_of (stmt_code reach_environment none_taken reach_back) []
              (back_of (stmt_code reach_environment none_taken reach_again)
              (stmts_code reach_environment none_taken reach_end) last_linked)),
          tt,
        ),
      ),
    )

-- ---- its label

labels_stand : StandAt (links_of reach_code) 0 (reach_label ∷ []) reach_start
labels_stand = one_label_stands (links_of reach_code) reach_start refl

-- ---- the whole

reach_is :
    (input : List ℕ) (acts : ℕ) → acts + 1 < 2 ^ 64 →
    IsWhole (reach_whole input acts) (Q.first_bytes (picture_of parts reach_program))
reach_is input acts few =
    let l = back_of (first_frame image_parts) (main_called 0) start_linked in
    record {
      start = record {
        linked = start_linked;
        differ = one_differs;
        bytes = first_length (picture_of parts reach_program) reach_fits;
        told = constants_stand reach_code reach_fits;
      };
      made = all_begun (surroundings_of (reach_image input acts)) (linked_code reach_code)
          (main_of (reach_whole input acts)) (start_point (reach_image input acts)) no_numbers reach_variables
          (reach_all input acts);
      callee = record {
        coded = record { level = omega arith; line = omega arith; saved = omega arith; back = omega arith };
        calls = first_of (CallTo (ProcedureEntry 0)) _ (rest_of _ _ (rest_of _ _ (rest_of _ _ l)));
        place = refl;
        stands = main_linked;
        end = refl;
        kind = refl;
        labels = (labels_stand, (λ label e. absurd (cc e), (λ label e. absurd (cc e), λ label e. absurd (cc e))));
        acts = few;
      };
      room = record { room = omega arith; shallow = refl; parent = tt; idle = refl };
      level = refl;
      procedures = refl;
      statics = refl;
    }

abbrev pub reach_layout : Layout
reach_layout =
    record {
      main = reach_main;
      others = [];
      environment = reach_environment;
      entry = reach_entry;
      end = reach_finish;
      units = [];
      constants = constants_in reach_code;
      fills = [];
      serials = 2;
      made = newest_all parts reach_variables;
    }

pub reach_program_runs : Runs reach_program reach_layout
reach_program_runs =
    record {
      whole = λ input acts few. reach_is input acts few;
      each = λ input acts few b. reach_each input acts few b;
    }

-- ---- what the program comes to

unfoldable flows : Unit {0}
unfolding F.give F.◌>>=◌ F.◌>>◌ F.looked F.stored F.act F.finish F.returns F.jumps F.choose F.given F.list_from
    F.leaving
flows = tt

unfoldable values : Unit {0}
unfolding V.number V.designated V.located V.numbers V.variable_designated V.part_designated V.stored_value R.or_error
    R.demanded R.value_of R.raised R.unit_run R.error R.error_unit_run P.element_stored M.assigned
values = tt

unfoldable makings : Unit {0}
unfolding K.variables_made K.automatic_made K.extents K.variable_made K.parameters_bound
makings = tt

unfoldable statements : Unit {0}
unfolding M.statement M.statements M.list M.list_with M.block_variables_made M.entry_act M.block_list M.block_body
statements = tt

pub reach_ends :
    (input : List ℕ) →
    M.meaning reach_program input 8
    ≡ Some (record {
      acts = 8;
      output = [];
      raised = (C.FixedOverflow, 20) ∷ (C.Error, 20) ∷ [];
      end = E.Error 20 3;
    })
unfolding M.meaning M.run M.entered M.block_run flows values makings statements
reach_ends input = refl
