-- The worked row: all that is premised of the program is computed.
use Rattle.std.proofs.Common.{◌≡◌, ℕ, zero, suc, ◌+◌, ◌*◌, ◌^◌, ◌<◌, List, [], ◌∷◌, ◌++◌, inl, length, map, Some}
use Rattle.std.proofs.Common.{refl, sym, subst, arith}
use Rattle.rv_meaning.specs.Machine.{memory_size}
use Rattle.pli_language.specs.declared.condition.Condition.{Condition}
use Rattle.pli_language.specs.declared.condition.Condition.TheVariants as C
use Rattle.pli_typing.specs.TypedTree as Y
use Rattle.pli_meaning.specs.declared.outcome.End.TheVariants as E
use Rattle.pli_meaning.specs.Control as F
use Rattle.pli_meaning.specs.Evaluating as V
use Rattle.pli_meaning.specs.Executing as M
use Rattle.pli_meaning.specs.Executing.{entered, run}
use Rattle.pli_meaning.specs.Making as K
use Rattle.pli_meaning.specs.Placing as P
use Rattle.pli_meaning.specs.Raising as R
use Rattle.pli_meaning.specs.StorageState.{first_state, force}
use Rattle.area_keeper.specs.KeeperLaws.{Keeps}
use Rattle.run_keeper.specs.RunKeeper.{run_keeper}
use Rattle.pli_serving.specs.Templates.{template_of}
use Rattle.pli_coding.specs.Allocating.{act_code}
use Rattle.pli_coding.specs.Assembly.{CallTo, Mark, ProcedureEntry, ReturnPlace, size_of}
use Rattle.pli_coding.specs.Environments.{none_taken}
use Rattle.pli_coding.specs.Images.{first_frame, linked_code, raise_code}
use Rattle.pli_coding.specs.Linking.{links_of}
use Rattle.pli_coding.specs.Procedures.{no_value}
use Rattle.pli_coding.specs.SignatureTable.{table_of}
use Rattle.pli_coding.specs.Statements.{stmt_code, stmts_code}
use Rattle.storage_relation.specs.Served.{AllDiffer}
use Rattle.activation_relation.specs.Layers.{Point, services_of}
use Rattle.activation_relation.specs.ServiceLaws.{IsSystem}
use Rattle.run_steps.specs.Items.{Linked}
use Rattle.run_steps.proofs.Jumps.{back_of, first_of, front_of, rest_of}
use Rattle.run_steps.proofs.Linking.{has_items, linked_length}
use Rattle.run_steps.specs.Reach.{Comes}
use Rattle.program_runs.specs.Calls.{AreMade, Callee, block_at, body_index, left_over}
use Rattle.program_runs.specs.Procedures.{begin_of, end_of, procedure_code}
use Rattle.program_runs.specs.Programs.{IsWhole, Whole, main_of}
use Rattle.program_runs.specs.Rows.{row_head}
use Rattle.program_runs.specs.Starts.{first_family, image_parts, main_called, no_numbers, start_of, never_in}
use Rattle.program_runs.specs.Starts.{start_point, surroundings_of}
use Rattle.program_runs.specs.Statements.{Block, Does, EachDoes, IsAmong, IsBegun}
use Rattle.program_runs.specs.Variables as D
use Rattle.program_runs.specs.Variables.{IsOnly, newest_made}
use Rattle.program_runs.specs.VariableRows as W
use Rattle.program_runs.proofs.Calls.{none_made}
use Rattle.program_runs.proofs.Programs.{program_runs}
use Rattle.program_runs.proofs.Rows.{is_datum, names_none, none_named}
use Rattle.program_runs.proofs.Statements.{none_does}
use Rattle.program_runs.proofs.VariableProcedures.{one_made}
use Rattle.program_runs.proofs.VariableRows.{differs_alone, number_valued}
use Rattle.expression_runs.specs.Assignments.{IsAssignment, setting_of}
use Rattle.expression_runs.specs.Laws as L
use Rattle.expression_runs.specs.Raises.{IsUnraised, Routines}
use Rattle.expression_runs.specs.Values.{OverflowComes}
use Rattle.expression_runs.specs.Variables.{IsNumber, whole}
use Rattle.expression_runs.proofs.Assignments.{assign_does}
use Rattle.expression_runs.proofs.Operands.{constant_does}
use Rattle.expression_runs.proofs.Raises.{overflow_ends}
use Rattle.expression_runs.proofs.Sums.{sum_does}
use Rattle.expression_runs.proofs.VariablePoints.{variable_does}
use Rattle.function_runs.specs.FunctionCalls.{IsFunctionCall, called_from}
use Rattle.function_runs.specs.Functions.{IsFunction, function_block, function_code, function_entry}
use Rattle.function_runs.specs.Functions.{function_tail}
use Rattle.function_runs.specs.Rows.{FetchRan, fetch_added, fetch_again, fetch_body, fetch_code, fetch_entry}
use Rattle.function_runs.specs.Rows.{fetch_environment, fetch_first, fetch_image, fetch_inner, fetch_main}
use Rattle.function_runs.specs.Rows.{fetch_program, fetch_rest, fetch_return, fetch_spot, fetch_twice, fetched}
use Rattle.function_runs.specs.Rows.{inner_body, inner_coded, inner_entry, inner_environment, inner_procedure}
use Rattle.function_runs.specs.Rows.{main_coded}
use Rattle.function_runs.proofs.FunctionCalls.{function_does}
use Rattle.function_runs.proofs.OuterVariables.{function_number}
use Rattle.function_runs.proofs.ReturnValues.{return_does}

-- ---- its code

fetch_linked : Linked (links_of fetch_code) (linked_code fetch_code) 0 fetch_code
unfolding names_none is_datum
fetch_linked =
    let n = linked_length (links_of fetch_code) 0 fetch_code in
    record {
      small' = omega (arith, n);
      inside = omega (arith, n);
      has = has_items (links_of fetch_code) fetch_code refl;
      named = λ d h. absurd (none_named d fetch_code refl h);
    }

start_linked : Linked (links_of fetch_code) (linked_code fetch_code) 0 (start_of 0)
start_linked = front_of (start_of 0) (raise_code ++ (main_coded ++ inner_coded)) fetch_linked

raise_linked : Linked (links_of fetch_code) (linked_code fetch_code) (size_of (start_of 0)) raise_code
raise_linked =
    front_of raise_code (main_coded ++ inner_coded)
    (back_of (start_of 0) (raise_code ++ (main_coded ++ inner_coded)) fetch_linked)

both_linked : Linked (links_of fetch_code) (linked_code fetch_code) fetch_entry (main_coded ++ inner_coded)
both_linked =
    back_of raise_code (main_coded ++ inner_coded)
    (back_of (start_of 0) (raise_code ++ (main_coded ++ inner_coded)) fetch_linked)

main_linked :
    Linked (links_of fetch_code) (linked_code fetch_code) fetch_entry (procedure_code fetch_environment fetch_main)
main_linked =
    rest_of (Mark (ProcedureEntry 0)) (procedure_code fetch_environment fetch_main)
    (front_of main_coded inner_coded both_linked)

inner_linked :
    Linked (links_of fetch_code) (linked_code fetch_code) inner_entry (function_code inner_environment fetch_inner)
inner_linked =
    rest_of (Mark (ProcedureEntry 1)) (function_code inner_environment fetch_inner)
    (back_of main_coded inner_coded both_linked)

abbrev pub fetch_start : ℕ
fetch_start = fetch_entry + size_of (begin_of fetch_main) + size_of fetch_main.variables + size_of (act_code 1)

abbrev pub fetch_finish : ℕ
fetch_finish = fetch_start + size_of (stmts_code fetch_environment none_taken fetch_body)

abbrev inner_start : ℕ
inner_start = inner_entry + size_of (begin_of fetch_inner) + 0 + size_of (act_code 2)

body_linked :
    Linked (links_of fetch_code) (linked_code fetch_code) fetch_start
    (stmts_code fetch_environment none_taken fetch_body)
body_linked =
    let one = act_code 1 in
    let body = stmts_code fetch_environment none_taken fetch_body in
    let tail = Mark (ReturnPlace 0) ∷ end_of fetch_main in
    let rest = one ++ (body ++ tail) in
    front_of body tail
    (back_of one (body ++ tail)
    (back_of fetch_main.variables rest (back_of (begin_of fetch_main) (fetch_main.variables ++ rest) main_linked)))

inner_body_linked :
    Linked (links_of fetch_code) (linked_code fetch_code) inner_start
    (stmts_code inner_environment none_taken inner_body)
inner_body_linked =
    let one = act_code 2 in
    let body = stmts_code inner_environment none_taken inner_body in
    let tail = function_tail fetch_inner in
    let rest = one ++ (body ++ tail) in
    front_of body tail
    (back_of one (body ++ tail) (back_of [] rest (back_of (begin_of fetch_inner) rest inner_linked)))

-- ---- its variable

one_differs : AllDiffer (map template_of (table_of fetch_program))
one_differs = differs_alone (map template_of (table_of fetch_program)) _ refl refl

abbrev pub fetch_whole : (input : List ℕ) → (acts : ℕ) → Whole
fetch_whole input acts =
    record {
      image = fetch_image input acts;
      program = fetch_program;
      main = fetch_main;
      others = inner_procedure ∷ [];
      environment = fetch_environment;
      entry = fetch_entry;
      end = fetch_finish;
      made = newest_made image_parts W.number_declared;
    }

fetch_only :
    (input : List ℕ) (acts : ℕ) →
    IsOnly (surroundings_of (fetch_image input acts)) (main_of (fetch_whole input acts))
    (start_point (fetch_image input acts)) no_numbers W.number_declared
fetch_only input acts =
    let n = linked_length (links_of fetch_code) 0 fetch_code in
    record {
      kind = refl;
      variables = refl;
      class = refl;
      evaluations = refl;
      first = refl;
      code = refl;
      made = refl;
      table = refl;
      parts = refl;
      few = omega arith;
      declared = record {
        newest = refl;
        here = refl;
        holds = omega arith;
        size = omega arith;
        fits = omega arith;
        even = refl;
        low = omega (arith, n);
        shape = refl;
        number = omega arith;
        initial = refl;
        none = refl;
        plain = refl;
        fixed = refl;
        values = (tt, tt);
        valued = number_valued;
        limit = refl;
      };
    }

abbrev pub fetch_block : (input : List ℕ) → (acts : ℕ) → Block
fetch_block input acts =
    block_at (surroundings_of (fetch_image input acts)) (linked_code fetch_code) (main_of (fetch_whole input acts))
    (start_point (fetch_image input acts)) no_numbers

fetch_number : (input : List ℕ) (acts : ℕ) → IsNumber (fetch_block input acts) fetch_spot
fetch_number input acts =
    record {
      initial = [];
      declared = refl;
      serial = 1;
      binding = refl;
      living = K.living_at 1 1 (D.generation_for W.number_declared);
      lives = refl;
      shape = refl;
      base = _;
      frame = inl (refl, refl);
      at = refl;
      low = omega arith;
      inside = omega arith;
    }

-- ---- its function

abbrev routines : Routines (links_of fetch_code) (linked_code fetch_code)
routines = record { at = size_of (start_of 0); linked = raise_linked; condition = refl; end = omega arith }

abbrev pub fetch_callee : (more : ℕ) → Callee
fetch_callee more =
    record {
      procedure = fetch_inner;
      calling = record {
        parent = 1;
        call = 0;
        entry = inner_entry;
        end = inner_start + size_of (stmts_code inner_environment none_taken inner_body) + size_of (no_value 2);
      };
      environment = inner_environment;
      made = λ q. q;
      around = record { program = fetch_program; enter = entered fetch_program more; turns = suc more; line = 0 };
    }

inner_is :
    (input : List ℕ) (acts more : ℕ) → acts + 1 < 2 ^ 64 →
    IsFunction (surroundings_of (fetch_image input acts)) (linked_code fetch_code) (fetch_callee more)
inner_is input acts more few =
    record {
      level = omega arith;
      line = omega arith;
      saved = omega arith;
      place = refl;
      stands = inner_linked;
      end = refl;
      kind = refl;
      labels = (λ label e. absurd (cc e), λ label e. absurd (cc e));
      acts = few;
      routines = routines;
      raises = refl;
    }

abbrev inner_block : (input : List ℕ) → (acts more call : ℕ) → Point → (numbers : ℕ → ℕ) → Block
inner_block input acts more call p numbers =
    function_block (surroundings_of (fetch_image input acts)) (linked_code fetch_code)
    (called_from (fetch_callee more) call) p numbers

inner_system :
    (input : List ℕ) (acts more call : ℕ) (p : Point) (numbers : ℕ → ℕ) (condition : Condition) →
    IsAmong (fetch_block input acts) numbers p →
    IsSystem (force (fetch_block input acts).first.state.activations condition) →
    IsSystem (force (inner_block input acts more call p numbers).first.state.activations condition)
inner_system input acts more call p numbers condition o h =
    subst (λ xs. IsSystem (force xs condition)) (sym o.later.activations) h

inner_made :
    (input : List ℕ) (acts more call : ℕ) (p : Point) (numbers : ℕ → ℕ) → IsAmong (fetch_block input acts) numbers p →
    AreMade (surroundings_of (fetch_image input acts)) (linked_code fetch_code) (called_from (fetch_callee more) call) p
    numbers
    × IsSystem (force (inner_block input acts more call p numbers).first.state.activations C.Error)
inner_made input acts more call p numbers o =
    let c = called_from (fetch_callee more) call in (
      none_made (surroundings_of (fetch_image input acts)) (linked_code fetch_code) c p numbers refl refl (refl, refl),
      inner_system input acts more call p numbers C.Error o tt,
    )

inner_each :
    (input : List ℕ) (acts more call : ℕ) (p : Point) (numbers : ℕ → ℕ) → acts + 1 < 2 ^ 64 →
    IsBegun (fetch_block input acts) → IsAmong (fetch_block input acts) numbers p →
    IsBegun (inner_block input acts more call p numbers) →
    EachDoes (inner_block input acts more call p numbers) [] inner_body (body_index (fetch_callee more)) left_over
inner_each input acts more call p numbers few b o b' =
    let k = inner_block input acts more call p numbers in
    let n = linked_length (links_of fetch_code) 0 fetch_code in
    let three = setting_of k [] 3 100 in
    let x = function_number (fetch_block input acts) (called_from (fetch_callee more) call) fetch_spot
    (record {
      begun = b;
      level = refl;
      parent = refl;
      inner = refl;
      further = omega arith;
      few = omega arith;
      program = refl;
      parts = refl;
    }) (fetch_number input acts) p numbers o (inner_made input acts more call p numbers o).0 b' in
    let over : OverflowComes three = overflow_ends three
    (record {
      routines = routines;
      overflow = inner_system input acts more call p numbers C.FixedOverflow o tt;
      error = inner_system input acts more call p numbers C.Error o tt;
      acts = few;
      most = omega arith;
    }) in
    let operand = variable_does three fetch_spot b' x in (
      return_does k [] fetch_twice 3 _ left_over 1 100
          (record {
            act = record { line_fits = omega arith; acts = few };
            begun = b';
            owner = refl;
            end = refl;
            near = omega arith;
            enough = omega arith;
            function = refl;
            registers = omega arith;
            held = omega arith;
            kind = refl;
            saved = omega arith;
            statement = front_of (stmt_code inner_environment none_taken fetch_return) [] inner_body_linked;
            paid = omega (arith, n);
          })
          (sum_does three (Y.NumberIn (whole fetch_spot)) (Y.NumberIn (whole fetch_spot)) 0 0 over operand operand),
      tt,
    )

-- ---- its statements

unraised :
    (input : List ℕ) (acts line : ℕ) → acts + 1 < 2 ^ 64 →
    IsUnraised (setting_of (fetch_block input acts) [] line 200)
unraised input acts line few =
    record { routines = routines; overflow = tt; error = tt; acts = few; most = omega arith }

first_is :
    (input : List ℕ) (acts : ℕ) → acts + 1 < 2 ^ 64 → IsBegun (fetch_block input acts) →
    IsAssignment (fetch_block input acts) fetch_spot (Y.NumberConstant 715827883) 5 fetch_start 0 200
first_is input acts few b =
    let n = linked_length (links_of fetch_code) 0 fetch_code in
    record {
      act = record { line_fits = omega arith; acts = few };
      begun = b;
      number = fetch_number input acts;
      registers = omega arith;
      held = omega arith;
      statement = front_of (stmt_code fetch_environment none_taken fetch_first)
          (stmts_code fetch_environment none_taken fetch_rest) body_linked;
      paid = omega (arith, n);
    }

abbrev again_index : ℕ
again_index = fetch_start + size_of (stmt_code fetch_environment none_taken fetch_first)

again_is :
    (input : List ℕ) (acts : ℕ) → acts + 1 < 2 ^ 64 → IsBegun (fetch_block input acts) →
    IsAssignment (fetch_block input acts) fetch_spot fetch_added 6 again_index 1 200
again_is input acts few b =
    let n = linked_length (links_of fetch_code) 0 fetch_code in
    record {
      act = record { line_fits = omega arith; acts = few };
      begun = b;
      number = fetch_number input acts;
      registers = omega arith;
      held = omega arith;
      statement = front_of (stmt_code fetch_environment none_taken fetch_again) []
          (back_of (stmt_code fetch_environment none_taken fetch_first)
          (stmts_code fetch_environment none_taken fetch_rest) body_linked);
      paid = omega (arith, n);
    }

-- X waits in a register that the block saves while the function runs
fetched_is :
    (input : List ℕ) (more : ℕ) → suc more + 1 < 2 ^ 64 → IsBegun (fetch_block input (suc more)) →
    L.Does (setting_of (fetch_block input (suc more)) [] 6 200) 0 fetched
fetched_is input more few b =
    function_does (setting_of (fetch_block input (suc more)) [] 6 200) (fetch_callee more) more
    (record {
      begun = b;
      function = inner_is input (suc more) more few;
      room = record { room = omega arith; shallow = refl; parent = (omega arith, refl); idle = refl };
      level = refl;
      parent = refl;
      found = refl;
      enter = refl;
      around = refl;
      enough = omega arith;
      most = omega arith;
      words = omega arith;
    })
    (λ call p numbers o. inner_made input (suc more) more call p numbers o)
    (λ call p numbers o b'. inner_each input (suc more) more call p numbers few b o b')

again_does :
    (input : List ℕ) (acts : ℕ) → acts + 1 < 2 ^ 64 → IsBegun (fetch_block input acts) →
    Does (fetch_block input acts) [] fetch_again again_index left_over
again_does input zero few b = none_does (fetch_block input zero) [] fetch_again again_index left_over b refl
again_does input (suc more) few b =
    let k = fetch_block input (suc more) in
    let six = setting_of k [] 6 200 in
    let over : OverflowComes six = overflow_ends six (unraised input (suc more) 6 few) in
    assign_does k [] fetch_spot fetch_added 6 again_index left_over 1 200 (again_is input (suc more) few b)
    (sum_does six (Y.NumberIn (whole fetch_spot)) fetched 0 0 over
    (variable_does six fetch_spot b (fetch_number input (suc more))) (fetched_is input more few b))

pub fetch_each :
    (input : List ℕ) (acts : ℕ) → acts + 1 < 2 ^ 64 → IsBegun (fetch_block input acts) →
    EachDoes (fetch_block input acts) [] fetch_body (body_index (main_of (fetch_whole input acts))) left_over
fetch_each input acts few b = (
  assign_does (fetch_block input acts) [] fetch_spot (Y.NumberConstant 715827883) 5 fetch_start left_over 0 200
      (first_is input acts few b)
      (constant_does (setting_of (fetch_block input acts) [] 5 200) 715827883 (omega arith)),
  (again_does input acts few b, tt),
)

-- ---- the whole

pub fetch_is : (input first : List ℕ) (acts : ℕ) → acts + 1 < 2 ^ 64 → length first ≡ memory_size →
    IsWhole (fetch_whole input acts) first
fetch_is input first acts few bytes =
    let l = back_of (first_frame image_parts) (main_called 0) start_linked in
    record {
      start = record { linked = start_linked; differ = one_differs; bytes = bytes; told = λ n v e. absurd (cc e) };
      made = one_made (surroundings_of (fetch_image input acts)) (linked_code fetch_code)
          (main_of (fetch_whole input acts)) (start_point (fetch_image input acts)) no_numbers W.number_declared
          (fetch_only input acts);
      callee = record {
        coded = record { level = omega arith; line = omega arith; saved = omega arith; back = omega arith };
        calls = first_of (CallTo (ProcedureEntry 0)) _ (rest_of _ _ (rest_of _ _ (rest_of _ _ l)));
        place = refl;
        stands = main_linked;
        end = refl;
        kind = refl;
        labels = (λ label e. absurd (cc e), (λ label e. absurd (cc e), λ label e. absurd (cc e)));
        acts = few;
      };
      room = record { room = omega arith; shallow = refl; parent = tt; idle = refl };
      level = refl;
      procedures = refl;
      statics = refl;
    }

pub fetch_runs :
    Keeps run_keeper → (input first : List ℕ) (acts : ℕ) → acts + 1 < 2 ^ 64 → length first ≡ memory_size →
    Comes (linked_code fetch_code) 0 (first_family first (services_of (start_point (fetch_image input acts))))
    (services_of (start_point (fetch_image input acts))) (never_in (fetch_image input acts))
    (run fetch_program (suc acts) acts (first_state input))
fetch_runs keeps input first acts few bytes =
    program_runs keeps (fetch_whole input acts) first (fetch_is input first acts few bytes)
    (λ b. fetch_each input acts few b)

-- ---- what the program comes to

unfoldable flows : Unit {0}
unfolding F.give F.◌>>=◌ F.◌>>◌ F.looked F.stored F.act F.finish F.returns F.jumps F.choose F.given F.list_from
    F.leaving
flows = tt

unfoldable values : Unit {0}
unfolding V.number V.designated V.located V.numbers V.variable_designated V.part_designated V.stored_value R.or_error
    R.demanded R.value_of R.raised R.unit_run R.error R.error_unit_run P.element_stored M.assigned
values = tt

unfoldable calls : Unit {0}
unfolding V.called V.arguments V.all_passed_last V.procedure_entered V.returned K.variables_made K.automatic_made
    K.extents K.variable_made K.parameters_bound
calls = tt

unfoldable statements : Unit {0}
unfolding M.statement M.statements M.list M.list_with M.block_variables_made M.entry_act M.block_list M.block_body
statements = tt

pub fetch_ends :
    (input : List ℕ) →
    M.meaning fetch_program input 8
    ≡ Some (record {
      acts = 8;
      output = [];
      raised = (C.FixedOverflow, 20) ∷ (C.Error, 20) ∷ [];
      end = E.Error 20 6;
    })
unfolding M.meaning M.run M.entered M.block_run flows values calls statements
fetch_ends input = refl
