-- The worked row: all that is premised of the program is computed.
use Rattle.std.proofs.Common.{◌≡◌, ℕ, suc, ◌+◌, ◌^◌, ◌<◌, List, [], ◌∷◌, ◌++◌, inl, length, map, Some}
use Rattle.std.proofs.Common.{refl, arith}
use Rattle.rv_meaning.specs.Machine.{memory_size}
use Rattle.pli_language.specs.declared.condition.Condition.TheVariants as C
use Rattle.pli_typing.specs.TypedTree as Y
use Rattle.pli_meaning.specs.declared.outcome.End.TheVariants as E
use Rattle.pli_meaning.specs.Control as F
use Rattle.pli_meaning.specs.Control.{Label, is_among}
use Rattle.pli_meaning.specs.Evaluating as V
use Rattle.pli_meaning.specs.Executing as M
use Rattle.pli_meaning.specs.Executing.{run}
use Rattle.pli_meaning.specs.Making as K
use Rattle.pli_meaning.specs.Placing as P
use Rattle.pli_meaning.specs.Raising as R
use Rattle.pli_meaning.specs.StorageState.{first_state}
use Rattle.area_keeper.specs.KeeperLaws.{Keeps}
use Rattle.run_keeper.specs.RunKeeper.{run_keeper}
use Rattle.pli_serving.specs.Templates.{template_of}
use Rattle.pli_coding.specs.Allocating.{act_code}
use Rattle.pli_coding.specs.Assembly.{CallTo, Mark, ProcedureEntry, ReturnPlace, size_of}
use Rattle.pli_coding.specs.Environments.{none_taken}
use Rattle.pli_coding.specs.Images.{first_frame, linked_code, raise_code}
use Rattle.pli_coding.specs.Linking.{links_of}
use Rattle.pli_coding.specs.SignatureTable.{table_of}
use Rattle.pli_coding.specs.Statements.{stmt_code, stmts_code}
use Rattle.storage_relation.specs.Served.{AllDiffer}
use Rattle.activation_relation.specs.Layers.{services_of}
use Rattle.run_steps.specs.Items.{Linked}
use Rattle.run_steps.proofs.Jumps.{back_of, first_of, front_of, rest_of}
use Rattle.run_steps.proofs.Linking.{has_items, linked_length}
use Rattle.run_steps.specs.Reach.{Comes}
use Rattle.program_runs.specs.Calls.{block_at, body_index, left_over}
use Rattle.program_runs.specs.Procedures.{begin_of, end_of, procedure_code}
use Rattle.program_runs.specs.Programs.{IsWhole, Whole, main_of}
use Rattle.program_runs.specs.Starts.{first_family, image_parts, main_called, no_numbers, start_of, never_in}
use Rattle.program_runs.specs.Starts.{start_point, surroundings_of}
use Rattle.program_runs.specs.Statements.{Block, EachDoes, IsBegun, StandAt}
use Rattle.program_runs.specs.Variables as D
use Rattle.program_runs.specs.Variables.{IsOnly, newest_made}
use Rattle.program_runs.specs.VariableRows as W
use Rattle.program_runs.proofs.Gotos.{goto_does}
use Rattle.program_runs.proofs.Programs.{program_runs}
use Rattle.program_runs.proofs.Rows.{is_datum, names_none, none_named}
use Rattle.program_runs.proofs.VariableProcedures.{one_made}
use Rattle.program_runs.proofs.VariableRows.{differs_alone, number_valued}
use Rattle.expression_runs.specs.Assignments.{IsAssignment, setting_of}
use Rattle.expression_runs.specs.Raises.{IsUnraised}
use Rattle.group_runs.specs.Rows.{group_again, group_back, group_body, group_code, group_coded}
use Rattle.group_runs.specs.Rows.{group_end, group_entry, group_environment, group_first, group_image}
use Rattle.group_runs.specs.Rows.{group_label, group_main, group_program, group_rest, group_spot, group_sum}
use Rattle.expression_runs.specs.Values.{OverflowComes}
use Rattle.expression_runs.specs.Variables.{IsNumber, whole}
use Rattle.expression_runs.proofs.Assignments.{assign_does}
use Rattle.expression_runs.proofs.Operands.{constant_does}
use Rattle.expression_runs.proofs.Raises.{overflow_ends}
use Rattle.expression_runs.proofs.Sums.{sum_does}
use Rattle.expression_runs.proofs.VariablePoints.{variable_does}
use Rattle.expression_runs.proofs.Rows.{one_label_stands}
use Rattle.group_runs.specs.Groups.{IsGroup, list_index}
use Rattle.group_runs.specs.Rows.{group_done, group_inside}
use Rattle.group_runs.proofs.Groups.{group_does}

-- ---- its code

group_linked : Linked (links_of group_code) (linked_code group_code) 0 group_code
unfolding names_none is_datum
group_linked =
    let n = linked_length (links_of group_code) 0 group_code in
    record {
      small' = omega (arith, n);
      inside = omega (arith, n);
      has = has_items (links_of group_code) group_code refl;
      named = λ d h. absurd (none_named d group_code refl h);
    }

start_linked : Linked (links_of group_code) (linked_code group_code) 0 (start_of 0)
start_linked = front_of (start_of 0) (raise_code ++ group_coded) group_linked

raise_linked : Linked (links_of group_code) (linked_code group_code) (size_of (start_of 0)) raise_code
raise_linked = front_of raise_code group_coded (back_of (start_of 0) (raise_code ++ group_coded) group_linked)

main_linked :
    Linked (links_of group_code) (linked_code group_code) group_entry
    (procedure_code group_environment group_main)
main_linked =
    rest_of (Mark (ProcedureEntry 0)) (procedure_code group_environment group_main)
    (back_of raise_code group_coded (back_of (start_of 0) (raise_code ++ group_coded) group_linked))

abbrev pub group_start : ℕ
group_start =
    group_entry + size_of (begin_of group_main) + size_of group_main.variables + size_of (act_code 1)

abbrev pub group_finish : ℕ
group_finish = group_start + size_of (stmts_code group_environment none_taken group_main.body)

body_linked :
    Linked (links_of group_code) (linked_code group_code) group_start
    (stmts_code group_environment none_taken group_main.body)
body_linked =
    let one = act_code 1 in
    let body = stmts_code group_environment none_taken group_main.body in
    let tail = Mark (ReturnPlace 0) ∷ end_of group_main in
    let rest = one ++ (body ++ tail) in
    front_of body tail
    (back_of one (body ++ tail)
    (back_of group_main.variables rest (back_of (begin_of group_main) (group_main.variables ++ rest) main_linked)))

-- ---- its variable

one_differs : AllDiffer (map template_of (table_of group_program))
one_differs = differs_alone (map template_of (table_of group_program)) _ refl refl

abbrev pub group_whole : (input : List ℕ) → (acts : ℕ) → Whole
group_whole input acts =
    record {
      image = group_image input acts;
      program = group_program;
      main = group_main;
      others = [];
      environment = group_environment;
      entry = group_entry;
      end = group_finish;
      made = newest_made image_parts W.number_declared;
    }

group_only :
    (input : List ℕ) (acts : ℕ) →
    IsOnly (surroundings_of (group_image input acts)) (main_of (group_whole input acts))
    (start_point (group_image input acts)) no_numbers W.number_declared
group_only input acts =
    let n = linked_length (links_of group_code) 0 group_code in
    record {
      kind = refl;
      variables = refl;
      class = refl;
      evaluations = refl;
      first = refl;
      code = refl;
      made = refl;
      table = refl;
      parts = refl;
      few = omega arith;
      declared = record {
        newest = refl;
        here = refl;
        holds = omega arith;
        size = omega arith;
        fits = omega arith;
        even = refl;
        low = omega (arith, n);
        shape = refl;
        number = omega arith;
        initial = refl;
        none = refl;
        plain = refl;
        fixed = refl;
        values = (tt, tt);
        valued = number_valued;
        limit = refl;
      };
    }

abbrev pub group_block : (input : List ℕ) → (acts : ℕ) → Block
group_block input acts =
    block_at (surroundings_of (group_image input acts)) (linked_code group_code) (main_of (group_whole input acts))
    (start_point (group_image input acts)) no_numbers

group_number : (input : List ℕ) (acts : ℕ) → IsNumber (group_block input acts) group_spot
group_number input acts =
    record {
      initial = [];
      declared = refl;
      serial = 1;
      binding = refl;
      living = K.living_at 1 1 (D.generation_for W.number_declared);
      lives = refl;
      shape = refl;
      base = _;
      frame = inl (refl, refl);
      at = refl;
      low = omega arith;
      inside = omega arith;
    }

-- ---- its statements

unraised :
    (input : List ℕ) (acts line : ℕ) → acts + 1 < 2 ^ 64 →
    IsUnraised (setting_of (group_block input acts) (group_label ∷ []) line 100)
unraised input acts line few =
    record {
      routines = record {
        at = size_of (start_of 0);
        linked = raise_linked;
        condition = refl;
        end = omega arith;
      };
      overflow = tt;
      error = tt;
      acts = few;
      most = omega arith;
    }

first_is :
    (input : List ℕ) (acts : ℕ) → acts + 1 < 2 ^ 64 → IsBegun (group_block input acts) →
    IsAssignment (group_block input acts) group_spot (Y.NumberConstant 536870912) 3 group_start 0 100
first_is input acts few b =
    let n = linked_length (links_of group_code) 0 group_code in
    record {
      act = record { line_fits = omega arith; acts = few };
      begun = b;
      number = group_number input acts;
      registers = omega arith;
      held = omega arith;
      statement = front_of (stmt_code group_environment none_taken group_first)
          (stmts_code group_environment none_taken group_rest) body_linked;
      paid = omega (arith, n);
    }

abbrev done_index : ℕ
done_index = group_start + size_of (stmt_code group_environment none_taken group_first)

abbrev again_index : ℕ
again_index = list_index 4 done_index

abbrev back_index : ℕ
back_index = again_index + size_of (stmt_code group_environment none_taken group_again)

rest_linked :
    Linked (links_of group_code) (linked_code group_code) done_index
    (stmts_code group_environment none_taken group_rest)
rest_linked =
    back_of (stmt_code group_environment none_taken group_first) (stmts_code group_environment none_taken group_rest)
    body_linked

done_linked :
    Linked (links_of group_code) (linked_code group_code) done_index (stmt_code group_environment none_taken group_done)
done_linked = front_of (stmt_code group_environment none_taken group_done) [] (rest_of _ _ rest_linked)

again_linked :
    Linked (links_of group_code) (linked_code group_code) again_index
    (stmt_code group_environment none_taken group_again ++ stmts_code group_environment none_taken group_end)
again_linked = back_of (act_code 4) (stmts_code group_environment none_taken group_inside) done_linked

again_is :
    (input : List ℕ) (acts : ℕ) → acts + 1 < 2 ^ 64 → IsBegun (group_block input acts) →
    IsAssignment (group_block input acts) group_spot group_sum 5 again_index 1 100
again_is input acts few b =
    let n = linked_length (links_of group_code) 0 group_code in
    record {
      act = record { line_fits = omega arith; acts = few };
      begun = b;
      number = group_number input acts;
      registers = omega arith;
      held = omega arith;
      statement = front_of (stmt_code group_environment none_taken group_again)
          (stmts_code group_environment none_taken group_end) again_linked;
      paid = omega (arith, n);
    }

done_is :
    (input : List ℕ) (acts : ℕ) → acts + 1 < 2 ^ 64 → IsBegun (group_block input acts) →
    IsGroup (group_block input acts) group_inside 4 done_index
done_is input acts few b =
    record {
      act = record { line_fits = omega arith; acts = few };
      begun = b;
      statement = done_linked;
      marks = (λ label e. absurd (cc e), (λ label e. absurd (cc e), λ label e. absurd (cc e)));
      turns = omega arith;
    }

pub group_each :
    (input : List ℕ) (acts : ℕ) → acts + 1 < 2 ^ 64 → IsBegun (group_block input acts) →
    EachDoes (group_block input acts) (group_label ∷ []) group_body
    (body_index (main_of (group_whole input acts))) left_over
group_each input acts few b =
    let k = group_block input acts in
    let labels = group_label ∷ [] in
    let x = group_number input acts in
    let five = setting_of k labels 5 100 in
    let over : OverflowComes five = overflow_ends five (unraised input acts 5 few) in
    let operand = variable_does five group_spot b x in (
      assign_does k labels group_spot (Y.NumberConstant 536870912) 3 group_start left_over 0 100
          (first_is input acts few b) (constant_does (setting_of k labels 3 100) 536870912 (omega arith)),
      (
        group_does k labels group_inside 4 done_index left_over (done_is input acts few b) (
          assign_does k labels group_spot group_sum 5 again_index left_over 1 100 (again_is input acts few b)
              (sum_does five (Y.NumberIn (whole group_spot)) (Y.NumberIn (whole group_spot)) 0 0 over operand
              operand),
          (
            goto_does k labels group_label 6 back_index left_over (record { line_fits = omega arith; acts = few })
                (record {
                  begun = b;
                  carried = refl;
                  level = refl;
                  block = refl;
                  at = done_index;
                  place = refl;
                  near = omega arith;
                })
                (front_of (stmt_code group_environment none_taken group_back) []
                (back_of (stmt_code group_environment none_taken group_again)
                (stmts_code group_environment none_taken group_end) again_linked)),
            tt,
          ),
        ),
        tt,
      ),
    )

-- ---- its label

labels_stand : StandAt (links_of group_code) 0 (group_label ∷ []) done_index
labels_stand = one_label_stands (links_of group_code) done_index refl

-- ---- the whole

pub group_is : (input first : List ℕ) (acts : ℕ) → acts + 1 < 2 ^ 64 → length first ≡ memory_size →
    IsWhole (group_whole input acts) first
group_is input first acts few bytes =
    let l = back_of (first_frame image_parts) (main_called 0) start_linked in
    record {
      start = record { linked = start_linked; differ = one_differs; bytes = bytes; told = λ n v e. absurd (cc e) };
      made = one_made (surroundings_of (group_image input acts)) (linked_code group_code)
          (main_of (group_whole input acts)) (start_point (group_image input acts)) no_numbers W.number_declared
          (group_only input acts);
      callee = record {
        coded = record { level = omega arith; line = omega arith; saved = omega arith; back = omega arith };
        calls = first_of (CallTo (ProcedureEntry 0)) _ (rest_of _ _ (rest_of _ _ (rest_of _ _ l)));
        place = refl;
        stands = main_linked;
        end = refl;
        kind = refl;
        labels = (λ label e. absurd (cc e), (labels_stand, λ label e. absurd (cc e)));
        acts = few;
      };
      room = record { room = omega arith; shallow = refl; parent = tt; idle = refl };
      level = refl;
      procedures = refl;
      statics = refl;
    }

pub group_runs :
    Keeps run_keeper → (input first : List ℕ) (acts : ℕ) → acts + 1 < 2 ^ 64 → length first ≡ memory_size →
    Comes (linked_code group_code) 0 (first_family first (services_of (start_point (group_image input acts))))
    (services_of (start_point (group_image input acts))) (never_in (group_image input acts))
    (run group_program (suc acts) acts (first_state input))
group_runs keeps input first acts few bytes =
    program_runs keeps (group_whole input acts) first (group_is input first acts few bytes)
    (λ b. group_each input acts few b)

-- ---- what the program comes to

unfoldable flows : Unit {0}
unfolding F.give F.◌>>=◌ F.◌>>◌ F.looked F.stored F.act F.finish F.returns F.jumps F.choose F.given F.list_from
    F.leaving
flows = tt

unfoldable values : Unit {0}
unfolding V.number V.designated V.located V.numbers V.variable_designated V.part_designated V.stored_value R.or_error
    R.demanded R.value_of R.raised R.unit_run R.error R.error_unit_run P.element_stored M.assigned
values = tt

unfoldable makings : Unit {0}
unfolding K.variables_made K.automatic_made K.extents K.variable_made K.parameters_bound
makings = tt

unfoldable statements : Unit {0}
unfolding M.statement M.statements M.list M.list_with M.block_variables_made M.entry_act M.block_list M.block_body
statements = tt

pub group_ends :
    (input : List ℕ) →
    M.meaning group_program input 10
    ≡ Some (record {
      acts = 10;
      output = [];
      raised = (C.FixedOverflow, 20) ∷ (C.Error, 20) ∷ [];
      end = E.Error 20 5;
    })
unfolding M.meaning M.run M.entered M.block_run flows values makings statements
group_ends input = refl
