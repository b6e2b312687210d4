-- The worked row: all that is premised of the program is computed.
use Rattle.std.proofs.Common.{◌≡◌, ℕ, zero, suc, ◌+◌, ◌^◌, ◌<◌, List, [], ◌∷◌, ◌++◌, inl, length, map, Some}
use Rattle.std.proofs.Common.{refl, sym, subst, arith}
use Rattle.rv_meaning.specs.Machine.{memory_size}
use Rattle.pli_language.specs.declared.condition.Condition.{Condition}
use Rattle.pli_language.specs.declared.condition.Condition.TheVariants as C
use Rattle.pli_typing.specs.TypedTree as Y
use Rattle.pli_meaning.specs.declared.outcome.End.TheVariants as E
use Rattle.pli_meaning.specs.Control as F
use Rattle.pli_meaning.specs.Control.{Label}
use Rattle.pli_meaning.specs.Evaluating as V
use Rattle.pli_meaning.specs.Executing as M
use Rattle.pli_meaning.specs.Executing.{entered, run}
use Rattle.pli_meaning.specs.Making as K
use Rattle.pli_meaning.specs.Placing as P
use Rattle.pli_meaning.specs.Raising as R
use Rattle.pli_meaning.specs.StorageState.{first_state, force}
use Rattle.area_keeper.specs.KeeperLaws.{Keeps}
use Rattle.run_keeper.specs.RunKeeper.{run_keeper}
use Rattle.pli_serving.specs.ServiceState.{Entry, TextEntry}
use Rattle.pli_serving.specs.Templates.{template_of}
use Rattle.pli_coding.specs.Allocating.{act_code}
use Rattle.pli_coding.specs.Assembly.{CallTo, Mark, ProcedureEntry, ReturnPlace, size_of}
use Rattle.pli_coding.specs.Environments.{none_taken}
use Rattle.pli_coding.specs.Images.{first_frame, linked_code, raise_code}
use Rattle.pli_coding.specs.Linking.{links_of}
use Rattle.pli_coding.specs.Procedures.{no_value}
use Rattle.pli_coding.specs.SignatureTable.{table_of}
use Rattle.pli_coding.specs.Statements.{stmt_code, stmts_code}
use Rattle.storage_relation.specs.Served.{AllDiffer}
use Rattle.activation_relation.specs.Layers.{Point, services_of}
use Rattle.activation_relation.specs.ServiceLaws.{IsSystem}
use Rattle.run_steps.specs.Items.{Linked}
use Rattle.run_steps.proofs.Jumps.{back_of, first_of, front_of, rest_of}
use Rattle.run_steps.proofs.Linking.{has_items, linked_length}
use Rattle.run_steps.specs.Reach.{Comes}
use Rattle.program_runs.specs.Calls.{AreMade, Callee, block_at, body_index, left_over}
use Rattle.program_runs.specs.Procedures.{begin_of, end_of, procedure_code}
use Rattle.program_runs.specs.Programs.{IsWhole, Whole, main_of}
use Rattle.program_runs.specs.Starts.{first_family, image_parts, main_called, no_numbers, start_of, never_in}
use Rattle.program_runs.specs.Starts.{start_point, surroundings_of}
use Rattle.program_runs.specs.Statements.{Block, Does, EachDoes, IsAmong, IsBegun, waiting}
use Rattle.program_runs.specs.Variables as D
use Rattle.program_runs.specs.Variables.{IsOnly, newest_made}
use Rattle.program_runs.specs.VariableRows as W
use Rattle.program_runs.proofs.Calls.{none_made}
use Rattle.program_runs.proofs.Gotos.{goto_does}
use Rattle.program_runs.proofs.Programs.{program_runs}
use Rattle.program_runs.proofs.Rows.{is_datum, names_none, none_named}
use Rattle.program_runs.proofs.Statements.{none_does}
use Rattle.program_runs.proofs.VariableProcedures.{one_made}
use Rattle.program_runs.proofs.VariableRows.{differs_alone, number_valued}
use Rattle.program_runs.proofs.Waiting.{begun_waits}
use Rattle.expression_runs.specs.Assignments.{IsAssignment, setting_of}
use Rattle.expression_runs.specs.Raises.{IsUnraised, Routines}
use Rattle.expression_runs.specs.Values.{OverflowComes, Setting}
use Rattle.expression_runs.specs.Variables.{IsNumber}
use Rattle.expression_runs.proofs.Assignments.{assign_does}
use Rattle.expression_runs.proofs.Operands.{constant_does}
use Rattle.expression_runs.proofs.Raises.{overflow_ends}
use Rattle.expression_runs.proofs.Rows.{one_label_stands}
use Rattle.expression_runs.proofs.Sums.{sum_does}
use Rattle.expression_runs.proofs.VariablePoints.{variable_does}
use Rattle.function_runs.specs.FunctionCalls.{called_from}
use Rattle.function_runs.specs.Functions.{IsFunction, function_block, function_code}
use Rattle.function_runs.specs.Functions.{function_tail}
use Rattle.function_runs.proofs.FunctionCalls.{function_does}
use Rattle.function_runs.proofs.OuterVariables.{function_number}
use Rattle.function_runs.proofs.ReturnValues.{return_does}
use Rattle.text_runs.specs.Laws.{NumberDoes, TextDoes}
use Rattle.text_runs.specs.Rows.{inner_body, inner_coded, inner_entry, inner_environment, inner_first}
use Rattle.text_runs.specs.Rows.{inner_last, inner_rest, main_coded, wait_added, wait_again, wait_back, wait_body}
use Rattle.text_runs.specs.Rows.{wait_called, wait_code, wait_end, wait_entry, wait_environment, wait_first}
use Rattle.text_runs.specs.Rows.{wait_function, wait_image, wait_inner, wait_label, wait_main, wait_number}
use Rattle.text_runs.specs.Rows.{wait_program, wait_rest, wait_spot, wait_text, wait_twice}
use Rattle.text_runs.specs.Waiting.{over}
use Rattle.text_runs.proofs.Errors.{error_ends}
use Rattle.text_runs.proofs.Taking.{length_measures}
use Rattle.text_runs.proofs.Points.{above_does}
use Rattle.text_runs.proofs.Pushing.{joined_pushes, number_pushes}
use Rattle.text_runs.proofs.Waiting.{call_waits, number_waits}

-- ---- its code

wait_linked : Linked (links_of wait_code) (linked_code wait_code) 0 wait_code
unfolding names_none is_datum
wait_linked =
    let n = linked_length (links_of wait_code) 0 wait_code in
    record {
      small' = omega (arith, n);
      inside = omega (arith, n);
      has = has_items (links_of wait_code) wait_code refl;
      named = λ d h. absurd (none_named d wait_code refl h);
    }

start_linked : Linked (links_of wait_code) (linked_code wait_code) 0 (start_of 0)
start_linked = front_of (start_of 0) (raise_code ++ (main_coded ++ inner_coded)) wait_linked

raise_linked : Linked (links_of wait_code) (linked_code wait_code) (size_of (start_of 0)) raise_code
raise_linked =
    front_of raise_code (main_coded ++ inner_coded)
    (back_of (start_of 0) (raise_code ++ (main_coded ++ inner_coded)) wait_linked)

both_linked : Linked (links_of wait_code) (linked_code wait_code) wait_entry (main_coded ++ inner_coded)
both_linked =
    back_of raise_code (main_coded ++ inner_coded)
    (back_of (start_of 0) (raise_code ++ (main_coded ++ inner_coded)) wait_linked)

main_linked :
    Linked (links_of wait_code) (linked_code wait_code) wait_entry (procedure_code wait_environment wait_main)
main_linked =
    rest_of (Mark (ProcedureEntry 0)) (procedure_code wait_environment wait_main)
    (front_of main_coded inner_coded both_linked)

inner_linked :
    Linked (links_of wait_code) (linked_code wait_code) inner_entry (function_code inner_environment wait_inner)
inner_linked =
    rest_of (Mark (ProcedureEntry 1)) (function_code inner_environment wait_inner)
    (back_of main_coded inner_coded both_linked)

abbrev pub wait_start : ℕ
wait_start = wait_entry + size_of (begin_of wait_main) + size_of wait_main.variables + size_of (act_code 1)

abbrev pub wait_finish : ℕ
wait_finish = wait_start + size_of (stmts_code wait_environment none_taken wait_body)

abbrev inner_start : ℕ
inner_start = inner_entry + size_of (begin_of wait_inner) + 0 + size_of (act_code 2)

body_linked :
    Linked (links_of wait_code) (linked_code wait_code) wait_start
    (stmts_code wait_environment none_taken wait_body)
body_linked =
    let one = act_code 1 in
    let body = stmts_code wait_environment none_taken wait_body in
    let tail = Mark (ReturnPlace 0) ∷ end_of wait_main in
    let rest = one ++ (body ++ tail) in
    front_of body tail
    (back_of one (body ++ tail)
    (back_of wait_main.variables rest (back_of (begin_of wait_main) (wait_main.variables ++ rest) main_linked)))

inner_body_linked :
    Linked (links_of wait_code) (linked_code wait_code) inner_start
    (stmts_code inner_environment none_taken inner_body)
inner_body_linked =
    let one = act_code 2 in
    let body = stmts_code inner_environment none_taken inner_body in
    let tail = function_tail wait_inner in
    let rest = one ++ (body ++ tail) in
    front_of body tail
    (back_of one (body ++ tail) (back_of [] rest (back_of (begin_of wait_inner) rest inner_linked)))

-- ---- its variable

one_differs : AllDiffer (map template_of (table_of wait_program))
one_differs = differs_alone (map template_of (table_of wait_program)) _ refl refl

abbrev pub wait_whole : (input : List ℕ) → (acts : ℕ) → Whole
wait_whole input acts =
    record {
      image = wait_image input acts;
      program = wait_program;
      main = wait_main;
      others = wait_function ∷ [];
      environment = wait_environment;
      entry = wait_entry;
      end = wait_finish;
      made = newest_made image_parts W.number_declared;
    }

wait_only :
    (input : List ℕ) (acts : ℕ) →
    IsOnly (surroundings_of (wait_image input acts)) (main_of (wait_whole input acts))
    (start_point (wait_image input acts)) no_numbers W.number_declared
wait_only input acts =
    let n = linked_length (links_of wait_code) 0 wait_code in
    record {
      kind = refl;
      variables = refl;
      class = refl;
      evaluations = refl;
      first = refl;
      code = refl;
      made = refl;
      table = refl;
      parts = refl;
      few = omega arith;
      declared = record {
        newest = refl;
        here = refl;
        holds = omega arith;
        size = omega arith;
        fits = omega arith;
        even = refl;
        low = omega (arith, n);
        shape = refl;
        number = omega arith;
        initial = refl;
        none = refl;
        plain = refl;
        fixed = refl;
        values = (tt, tt);
        valued = number_valued;
        limit = refl;
      };
    }

abbrev pub wait_block : (input : List ℕ) → (acts : ℕ) → Block
wait_block input acts =
    block_at (surroundings_of (wait_image input acts)) (linked_code wait_code) (main_of (wait_whole input acts))
    (start_point (wait_image input acts)) no_numbers

wait_variable : (input : List ℕ) (acts : ℕ) → IsNumber (wait_block input acts) wait_spot
wait_variable input acts =
    record {
      initial = [];
      declared = refl;
      serial = 1;
      binding = refl;
      living = K.living_at 1 1 (D.generation_for W.number_declared);
      lives = refl;
      shape = refl;
      base = _;
      frame = inl (refl, refl);
      at = refl;
      low = omega arith;
      inside = omega arith;
    }

-- ---- its function

abbrev routines : Routines (links_of wait_code) (linked_code wait_code)
routines = record { at = size_of (start_of 0); linked = raise_linked; condition = refl; end = omega arith }

abbrev pub wait_callee : (more : ℕ) → Callee
wait_callee more =
    record {
      procedure = wait_inner;
      calling = record {
        parent = 1;
        call = 0;
        entry = inner_entry;
        end = inner_start + size_of (stmts_code inner_environment none_taken inner_body) + size_of (no_value 2);
      };
      environment = inner_environment;
      made = λ q. q;
      around = record { program = wait_program; enter = entered wait_program more; turns = suc more; line = 0 };
    }

inner_is :
    (input : List ℕ) (acts more : ℕ) → acts + 1 < 2 ^ 64 →
    IsFunction (surroundings_of (wait_image input acts)) (linked_code wait_code) (wait_callee more)
inner_is input acts more few =
    record {
      level = omega arith;
      line = omega arith;
      saved = omega arith;
      place = refl;
      stands = inner_linked;
      end = refl;
      kind = refl;
      labels = (λ label e. absurd (cc e), (λ label e. absurd (cc e), λ label e. absurd (cc e)));
      acts = few;
      routines = routines;
      raises = refl;
    }

abbrev inner_block : (input : List ℕ) → (acts more call : ℕ) → Point → (numbers : ℕ → ℕ) → Block
inner_block input acts more call p numbers =
    function_block (surroundings_of (wait_image input acts)) (linked_code wait_code)
    (called_from (wait_callee more) call) p numbers

inner_system :
    (input : List ℕ) (acts more call : ℕ) (entries : List Entry) (p : Point) (numbers : ℕ → ℕ)
    (condition : Condition) → IsAmong (waiting entries (wait_block input acts)) numbers p →
    IsSystem (force (wait_block input acts).first.state.activations condition) →
    IsSystem (force (inner_block input acts more call p numbers).first.state.activations condition)
inner_system input acts more call entries p numbers condition o h =
    subst (λ xs. IsSystem (force xs condition)) (sym o.later.activations) h

inner_made :
    (input : List ℕ) (acts more call : ℕ) (entries : List Entry) (p : Point) (numbers : ℕ → ℕ) →
    IsAmong (waiting entries (wait_block input acts)) numbers p →
    AreMade (surroundings_of (wait_image input acts)) (linked_code wait_code) (called_from (wait_callee more) call) p
    numbers
    × IsSystem (force (inner_block input acts more call p numbers).first.state.activations C.Error)
inner_made input acts more call entries p numbers o =
    let c = called_from (wait_callee more) call in (
      none_made (surroundings_of (wait_image input acts)) (linked_code wait_code) c p numbers refl refl (refl, refl),
      inner_system input acts more call entries p numbers C.Error o tt,
    )

abbrev last_index : ℕ
last_index = inner_start + size_of (stmt_code inner_environment none_taken inner_first)

-- what it knows of X, whatever waits where it is called
inner_number :
    (input : List ℕ) (acts more call : ℕ) (entries : List Entry) (p : Point) (numbers : ℕ → ℕ) →
    IsBegun (wait_block input acts) → IsAmong (waiting entries (wait_block input acts)) numbers p →
    IsBegun (inner_block input acts more call p numbers) →
    IsNumber (inner_block input acts more call p numbers) wait_spot
inner_number input acts more call entries p numbers b o b' =
    function_number (waiting entries (wait_block input acts)) (called_from (wait_callee more) call) wait_spot
    (record {
      begun = begun_waits (wait_block input acts) entries b;
      level = refl;
      parent = refl;
      inner = refl;
      further = omega arith;
      few = omega arith;
      program = refl;
      parts = refl;
    }) (number_waits (wait_block input acts) entries wait_spot (wait_variable input acts)) p numbers o
    (inner_made input acts more call entries p numbers o).0 b'

inner_each :
    (input : List ℕ) (acts more call : ℕ) (entries : List Entry) (p : Point) (numbers : ℕ → ℕ) → acts + 1 < 2 ^ 64 →
    IsBegun (wait_block input acts) → IsAmong (waiting entries (wait_block input acts)) numbers p →
    IsBegun (inner_block input acts more call p numbers) →
    EachDoes (inner_block input acts more call p numbers) [] inner_body (body_index (wait_callee more)) left_over
inner_each input acts more call entries p numbers few b o b' =
    let k = inner_block input acts more call p numbers in
    let n = linked_length (links_of wait_code) 0 wait_code in
    let three = setting_of k [] 3 100 in
    let x = inner_number input acts more call entries p numbers b o b' in
    let over' : OverflowComes three = overflow_ends three
    (record {
      routines = routines;
      overflow = inner_system input acts more call entries p numbers C.FixedOverflow o tt;
      error = inner_system input acts more call entries p numbers C.Error o tt;
      acts = few;
      most = omega arith;
    }) in
    let operand = variable_does three wait_spot b' x in (
      assign_does k [] wait_spot wait_twice 3 inner_start left_over 1 100
          (record {
            act = record { line_fits = omega arith; acts = few };
            begun = b';
            number = x;
            registers = omega arith;
            held = omega arith;
            statement = front_of (stmt_code inner_environment none_taken inner_first)
                (stmts_code inner_environment none_taken inner_rest) inner_body_linked;
            paid = omega (arith, n);
          })
          (sum_does three wait_number wait_number 0 0 over' operand operand),
      (
        return_does k [] wait_number 4 last_index left_over 0 100
            (record {
              act = record { line_fits = omega arith; acts = few };
              begun = b';
              owner = refl;
              end = refl;
              near = omega arith;
              enough = omega arith;
              function = refl;
              registers = omega arith;
              held = omega arith;
              kind = refl;
              saved = omega arith;
              statement = front_of (stmt_code inner_environment none_taken inner_last) []
                  (back_of (stmt_code inner_environment none_taken inner_first)
                  (stmts_code inner_environment none_taken inner_rest) inner_body_linked);
              paid = omega (arith, n);
            })
            (variable_does (setting_of k [] 4 100) wait_spot b' x),
        tt,
      ),
    )

-- ---- its statements

abbrev wait_labels : List Label
wait_labels = wait_label ∷ []

abbrev six : (input : List ℕ) → (acts : ℕ) → Setting
six input acts = setting_of (wait_block input acts) wait_labels 6 200

unraised : (input : List ℕ) (acts : ℕ) → acts + 1 < 2 ^ 64 → IsUnraised (six input acts)
unraised input acts few = record { routines = routines; overflow = tt; error = tt; acts = few; most = omega arith }

first_is :
    (input : List ℕ) (acts : ℕ) → acts + 1 < 2 ^ 64 → IsBegun (wait_block input acts) →
    IsAssignment (wait_block input acts) wait_spot (Y.NumberConstant 536870912) 5 wait_start 0 200
first_is input acts few b =
    let n = linked_length (links_of wait_code) 0 wait_code in
    record {
      act = record { line_fits = omega arith; acts = few };
      begun = b;
      number = wait_variable input acts;
      registers = omega arith;
      held = omega arith;
      statement = front_of (stmt_code wait_environment none_taken wait_first)
          (stmts_code wait_environment none_taken wait_rest) body_linked;
      paid = omega (arith, n);
    }

abbrev again_index : ℕ
again_index = wait_start + size_of (stmt_code wait_environment none_taken wait_first)

again_linked :
    Linked (links_of wait_code) (linked_code wait_code) again_index
    (stmt_code wait_environment none_taken wait_again ++ stmts_code wait_environment none_taken wait_end)
again_linked =
    rest_of _ _
    (back_of (stmt_code wait_environment none_taken wait_first) (stmts_code wait_environment none_taken wait_rest)
    body_linked)

again_is :
    (input : List ℕ) (acts : ℕ) → acts + 1 < 2 ^ 64 → IsBegun (wait_block input acts) →
    IsAssignment (wait_block input acts) wait_spot wait_added 6 again_index 1 200
again_is input acts few b =
    let n = linked_length (links_of wait_code) 0 wait_code in
    record {
      act = record { line_fits = omega arith; acts = few };
      begun = b;
      number = wait_variable input acts;
      registers = omega arith;
      held = omega arith;
      statement = front_of (stmt_code wait_environment none_taken wait_again)
          (stmts_code wait_environment none_taken wait_end) again_linked;
      paid = omega (arith, n);
    }

-- the function's value while the text of X waits
called_does :
    (input : List ℕ) (more : ℕ) → suc more + 1 < 2 ^ 64 → IsBegun (wait_block input (suc more)) →
    (entries : List Entry) → NumberDoes entries (six input (suc more)) 0 wait_called
called_does input more few b entries =
    above_does entries (six input (suc more)) wait_called 0
    (function_does (over entries (six input (suc more))) (wait_callee more) more
    (call_waits (six input (suc more)) entries (wait_callee more) more
    (record {
      begun = b;
      function = inner_is input (suc more) more few;
      room = record { room = omega arith; shallow = refl; parent = (omega arith, refl); idle = refl };
      level = refl;
      parent = refl;
      found = refl;
      enter = refl;
      around = refl;
      enough = omega arith;
      most = omega arith;
      words = omega arith;
    }))
    (λ call p numbers o. inner_made input (suc more) more call entries p numbers o)
    (λ call p numbers o b'. inner_each input (suc more) more call entries p numbers few b o b'))

text_does :
    (input : List ℕ) (more : ℕ) → suc more + 1 < 2 ^ 64 → IsBegun (wait_block input (suc more)) →
    TextDoes [] (six input (suc more)) 0 wait_text
text_does input more few b =
    let k = six input (suc more) in
    joined_pushes [] k (Y.TextOfNumber 31 wait_number) (Y.TextOfNumber 31 wait_called) 0 0
    (error_ends (List ℕ) k
    (record { routines = routines; raises = refl; error = tt; acts = few; most = omega arith }))
    (number_pushes [] k wait_number 31 0 (omega arith) (omega arith)
    (variable_does k wait_spot b (wait_variable input (suc more))))
    (λ s. number_pushes (TextEntry s ∷ []) k wait_called 31 0 (omega arith) (omega arith)
    (called_does input more few b (TextEntry s ∷ [])))

again_does :
    (input : List ℕ) (acts : ℕ) → acts + 1 < 2 ^ 64 → IsBegun (wait_block input acts) →
    Does (wait_block input acts) wait_labels wait_again again_index left_over
again_does input zero few b = none_does (wait_block input zero) wait_labels wait_again again_index left_over b refl
again_does input (suc more) few b =
    let k = wait_block input (suc more) in
    let s = six input (suc more) in
    let over' : OverflowComes s = overflow_ends s (unraised input (suc more) few) in
    assign_does k wait_labels wait_spot wait_added 6 again_index left_over 1 200 (again_is input (suc more) few b)
    (sum_does s (Y.LengthOf wait_text) wait_number 0 0 over'
    (length_measures [] s wait_text 0 (text_does input more few b))
    (variable_does s wait_spot b (wait_variable input (suc more))))

pub wait_each :
    (input : List ℕ) (acts : ℕ) → acts + 1 < 2 ^ 64 → IsBegun (wait_block input acts) →
    EachDoes (wait_block input acts) wait_labels wait_body (body_index (main_of (wait_whole input acts))) left_over
wait_each input acts few b =
    let k = wait_block input acts in (
      assign_does k wait_labels wait_spot (Y.NumberConstant 536870912) 5 wait_start left_over 0 200
          (first_is input acts few b) (constant_does (setting_of k wait_labels 5 200) 536870912 (omega arith)),
      (
        again_does input acts few b,
        (
          goto_does k wait_labels wait_label 7 _ left_over (record { line_fits = omega arith; acts = few })
              (record {
                begun = b;
                carried = refl;
                level = refl;
                block = refl;
                at = again_index;
                place = refl;
                near = omega arith;
              })
              (front_of (stmt_code wait_environment none_taken wait_back) []
              (back_of (stmt_code wait_environment none_taken wait_again)
              (stmts_code wait_environment none_taken wait_end) again_linked)),
          tt,
        ),
      ),
    )

-- ---- the whole

pub wait_is : (input first : List ℕ) (acts : ℕ) → acts + 1 < 2 ^ 64 → length first ≡ memory_size →
    IsWhole (wait_whole input acts) first
wait_is input first acts few bytes =
    let l = back_of (first_frame image_parts) (main_called 0) start_linked in
    record {
      start = record { linked = start_linked; differ = one_differs; bytes = bytes; told = λ n v e. absurd (cc e) };
      made = one_made (surroundings_of (wait_image input acts)) (linked_code wait_code)
          (main_of (wait_whole input acts)) (start_point (wait_image input acts)) no_numbers W.number_declared
          (wait_only input acts);
      callee = record {
        coded = record { level = omega arith; line = omega arith; saved = omega arith; back = omega arith };
        calls = first_of (CallTo (ProcedureEntry 0)) _ (rest_of _ _ (rest_of _ _ (rest_of _ _ l)));
        place = refl;
        stands = main_linked;
        end = refl;
        kind = refl;
        labels = (
          λ label e. absurd (cc e),
          (
            one_label_stands (links_of wait_code) again_index refl,
            (λ label e. absurd (cc e), λ label e. absurd (cc e)),
          ),
        );
        acts = few;
      };
      room = record { room = omega arith; shallow = refl; parent = tt; idle = refl };
      level = refl;
      procedures = refl;
      statics = refl;
    }

pub wait_runs :
    Keeps run_keeper → (input first : List ℕ) (acts : ℕ) → acts + 1 < 2 ^ 64 → length first ≡ memory_size →
    Comes (linked_code wait_code) 0 (first_family first (services_of (start_point (wait_image input acts))))
    (services_of (start_point (wait_image input acts))) (never_in (wait_image input acts))
    (run wait_program (suc acts) acts (first_state input))
wait_runs keeps input first acts few bytes =
    program_runs keeps (wait_whole input acts) first (wait_is input first acts few bytes)
    (λ b. wait_each input acts few b)

-- ---- what the program comes to

unfoldable flows : Unit {0}
unfolding F.give F.◌>>=◌ F.◌>>◌ F.looked F.stored F.act F.finish F.returns F.jumps F.choose F.given F.list_from
    F.leaving
flows = tt

unfoldable values : Unit {0}
unfolding V.number V.text V.designated V.located V.numbers V.variable_designated V.part_designated V.stored_value
    R.or_error R.demanded R.value_of R.raised R.unit_run R.error R.error_unit_run P.element_stored M.assigned
values = tt

unfoldable calls : Unit {0}
unfolding V.called V.arguments V.all_passed_last V.procedure_entered V.returned K.variables_made K.automatic_made
    K.extents K.variable_made K.parameters_bound
calls = tt

unfoldable statements : Unit {0}
unfolding M.statement M.statements M.list M.list_with M.block_variables_made M.entry_act M.block_list M.block_body
statements = tt

pub wait_ends :
    (input : List ℕ) →
    M.meaning wait_program input 13
    ≡ Some (record {
      acts = 13;
      output = [];
      raised = (C.FixedOverflow, 20) ∷ (C.Error, 20) ∷ [];
      end = E.Error 20 3;
    })
unfolding M.meaning M.run M.entered M.block_run flows values calls statements
wait_ends input = refl
