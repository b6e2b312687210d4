-- The worked row: all that is premised of the program is computed.
use Rattle.std.proofs.Common.{◌≡◌, ℕ, zero, suc, ◌+◌, ◌-◌, ◌^◌, ◌<◌, List, [], ◌∷◌, ◌++◌, inl, length, map, Some}
use Rattle.std.proofs.Common.{refl, sym, ap, subst, arith}
use Rattle.rv_meaning.specs.Machine.{memory_size}
use Rattle.pli_language.specs.declared.condition.Condition.{Condition}
use Rattle.pli_language.specs.declared.condition.Condition.TheVariants as C
use Rattle.pli_typing.specs.TypedTree as Y
use Rattle.pli_meaning.specs.declared.outcome.End.TheVariants as E
use Rattle.pli_meaning.specs.Control as F
use Rattle.pli_meaning.specs.Control.{Label}
use Rattle.pli_meaning.specs.Evaluating as V
use Rattle.pli_meaning.specs.Executing as M
use Rattle.pli_meaning.specs.Executing.{entered, run}
use Rattle.pli_meaning.specs.Making as K
use Rattle.pli_meaning.specs.Placing as Pl
use Rattle.pli_meaning.specs.Raising as R
use Rattle.pli_meaning.specs.StorageState.{first_state, force, height_of}
use Rattle.area_keeper.specs.KeeperLaws.{Keeps}
use Rattle.run_keeper.specs.RunKeeper.{run_keeper}
use Rattle.pli_serving.specs.Templates.{template_of}
use Rattle.pli_coding.specs.Allocating.{act_code}
use Rattle.pli_coding.specs.Assembly.{CallTo, Mark, ProcedureEntry, ReturnPlace, size_of}
use Rattle.pli_coding.specs.Environments.{none_taken}
use Rattle.pli_coding.specs.Images.{first_frame, linked_code, raise_code}
use Rattle.pli_coding.specs.Linking.{links_of}
use Rattle.pli_coding.specs.SignatureTable.{table_of}
use Rattle.pli_coding.specs.Statements.{stmt_code, stmts_code}
use Rattle.storage_relation.specs.Served.{AllDiffer}
use Rattle.activation_relation.specs.Layers.{Point, services_of}
use Rattle.activation_relation.specs.ServiceLaws.{IsSystem}
use Rattle.run_steps.specs.Items.{Linked}
use Rattle.run_steps.proofs.Jumps.{back_of, first_of, front_of, rest_of}
use Rattle.run_steps.proofs.Linking.{has_items, linked_length}
use Rattle.run_steps.specs.Reach.{Comes}
use Rattle.block_runs.proofs.CallStatements.{given_code}
use Rattle.program_runs.specs.Calls.{AreMade, Callee, IsCall, IsCallee, block_at, body_index, left_over}
use Rattle.program_runs.specs.Procedures.{begin_of, end_of, procedure_code}
use Rattle.program_runs.specs.Programs.{IsWhole, Whole, main_of}
use Rattle.program_runs.specs.Starts.{first_family, image_parts, main_called, no_numbers, start_of, never_in}
use Rattle.program_runs.specs.Starts.{start_point, surroundings_of}
use Rattle.program_runs.specs.Statements.{Block, Does, EachDoes, IsAmong, IsBegun, as_outer}
use Rattle.program_runs.specs.Variables as D
use Rattle.program_runs.specs.Variables.{IsOnly, newest_made}
use Rattle.program_runs.specs.VariableRows as W
use Rattle.program_runs.proofs.Calls as P
use Rattle.program_runs.proofs.CallStatements.{statement_at}
use Rattle.program_runs.proofs.Programs.{program_runs}
use Rattle.program_runs.proofs.Rows.{is_datum, names_none, none_named}
use Rattle.program_runs.proofs.Statements.{none_does}
use Rattle.program_runs.proofs.VariableProcedures.{one_made}
use Rattle.program_runs.proofs.VariableRows.{differs_alone, number_valued}
use Rattle.expression_runs.specs.Assignments.{IsAssignment, setting_of}
use Rattle.expression_runs.specs.Raises.{Routines}
use Rattle.expression_runs.specs.Values.{OverflowComes}
use Rattle.expression_runs.specs.Variables.{IsNumber, whole}
use Rattle.expression_runs.proofs.Assignments.{assign_does}
use Rattle.expression_runs.proofs.Operands.{constant_does}
use Rattle.expression_runs.proofs.Raises.{overflow_ends}
use Rattle.expression_runs.proofs.Rows.{one_label_stands}
use Rattle.expression_runs.proofs.Sums.{sum_does}
use Rattle.expression_runs.proofs.VariablePoints.{variable_does}
use Rattle.function_runs.specs.OuterVariables.{IsInside}
use Rattle.begin_runs.specs.FarGotos.{Far, IsFar}
use Rattle.begin_runs.proofs.FarGotos.{far_does}
use Rattle.unit_runs.proofs.InnerLists.{each_list}
use Rattle.jump_runs.specs.Calls.{block_in}
use Rattle.jump_runs.specs.Rows.{bolt_body, bolt_call, bolt_code, bolt_entry, bolt_environment, bolt_first, bolt_image}
use Rattle.jump_runs.specs.Rows.{bolt_inner, bolt_label, bolt_main, bolt_procedure, bolt_program, bolt_rest, bolt_spot}
use Rattle.jump_runs.specs.Rows.{bolt_twice, inner_body, inner_coded, inner_entry, inner_environment, inner_first}
use Rattle.jump_runs.specs.Rows.{inner_last, inner_rest, main_coded}
use Rattle.jump_runs.proofs.Calls.{jump_call_does}
use Rattle.jump_runs.proofs.Numbers.{called_ancestor, called_number}

-- ---- its code

bolt_linked : Linked (links_of bolt_code) (linked_code bolt_code) 0 bolt_code
unfolding names_none is_datum
bolt_linked =
    let n = linked_length (links_of bolt_code) 0 bolt_code in
    record {
      small' = omega (arith, n);
      inside = omega (arith, n);
      has = has_items (links_of bolt_code) bolt_code refl;
      named = λ d h. absurd (none_named d bolt_code refl h);
    }

start_linked : Linked (links_of bolt_code) (linked_code bolt_code) 0 (start_of 0)
start_linked = front_of (start_of 0) (raise_code ++ (main_coded ++ inner_coded)) bolt_linked

raise_linked : Linked (links_of bolt_code) (linked_code bolt_code) (size_of (start_of 0)) raise_code
raise_linked =
    front_of raise_code (main_coded ++ inner_coded)
    (back_of (start_of 0) (raise_code ++ (main_coded ++ inner_coded)) bolt_linked)

both_linked : Linked (links_of bolt_code) (linked_code bolt_code) bolt_entry (main_coded ++ inner_coded)
both_linked =
    back_of raise_code (main_coded ++ inner_coded)
    (back_of (start_of 0) (raise_code ++ (main_coded ++ inner_coded)) bolt_linked)

main_linked :
    Linked (links_of bolt_code) (linked_code bolt_code) bolt_entry (procedure_code bolt_environment bolt_main)
main_linked =
    rest_of (Mark (ProcedureEntry 0)) (procedure_code bolt_environment bolt_main)
    (front_of main_coded inner_coded both_linked)

inner_linked :
    Linked (links_of bolt_code) (linked_code bolt_code) inner_entry (procedure_code inner_environment bolt_inner)
inner_linked =
    rest_of (Mark (ProcedureEntry 1)) (procedure_code inner_environment bolt_inner)
    (back_of main_coded inner_coded both_linked)

abbrev pub bolt_start : ℕ
bolt_start = bolt_entry + size_of (begin_of bolt_main) + size_of bolt_main.variables + size_of (act_code 1)

abbrev pub bolt_finish : ℕ
bolt_finish = bolt_start + size_of (stmts_code bolt_environment none_taken bolt_body)

abbrev inner_start : ℕ
inner_start = inner_entry + size_of (begin_of bolt_inner) + size_of bolt_inner.variables + size_of (act_code 2)

body_linked :
    Linked (links_of bolt_code) (linked_code bolt_code) bolt_start
    (stmts_code bolt_environment none_taken bolt_body)
body_linked =
    let one = act_code 1 in
    let body = stmts_code bolt_environment none_taken bolt_body in
    let tail = Mark (ReturnPlace 0) ∷ end_of bolt_main in
    let rest = one ++ (body ++ tail) in
    front_of body tail
    (back_of one (body ++ tail)
    (back_of bolt_main.variables rest (back_of (begin_of bolt_main) (bolt_main.variables ++ rest) main_linked)))

inner_body_linked :
    Linked (links_of bolt_code) (linked_code bolt_code) inner_start
    (stmts_code inner_environment none_taken inner_body)
inner_body_linked =
    let one = act_code 2 in
    let body = stmts_code inner_environment none_taken inner_body in
    let tail = Mark (ReturnPlace 1) ∷ end_of bolt_inner in
    let rest = one ++ (body ++ tail) in
    front_of body tail
    (back_of one (body ++ tail)
    (back_of bolt_inner.variables rest (back_of (begin_of bolt_inner) (bolt_inner.variables ++ rest) inner_linked)))

-- ---- the main procedure's variable

one_differs : AllDiffer (map template_of (table_of bolt_program))
one_differs = differs_alone (map template_of (table_of bolt_program)) _ refl refl

abbrev pub bolt_whole : (input : List ℕ) → (acts : ℕ) → Whole
bolt_whole input acts =
    record {
      image = bolt_image input acts;
      program = bolt_program;
      main = bolt_main;
      others = bolt_procedure ∷ [];
      environment = bolt_environment;
      entry = bolt_entry;
      end = bolt_finish;
      made = newest_made image_parts W.number_declared;
    }

bolt_only :
    (input : List ℕ) (acts : ℕ) →
    IsOnly (surroundings_of (bolt_image input acts)) (main_of (bolt_whole input acts))
    (start_point (bolt_image input acts)) no_numbers W.number_declared
bolt_only input acts =
    let n = linked_length (links_of bolt_code) 0 bolt_code in
    record {
      kind = refl;
      variables = refl;
      class = refl;
      evaluations = refl;
      first = refl;
      code = refl;
      made = refl;
      table = refl;
      parts = refl;
      few = omega arith;
      declared = record {
        newest = refl;
        here = refl;
        holds = omega arith;
        size = omega arith;
        fits = omega arith;
        even = refl;
        low = omega (arith, n);
        shape = refl;
        number = omega arith;
        initial = refl;
        none = refl;
        plain = refl;
        fixed = refl;
        values = (tt, tt);
        valued = number_valued;
        limit = refl;
      };
    }

abbrev pub bolt_block : (input : List ℕ) → (acts : ℕ) → Block
bolt_block input acts =
    block_at (surroundings_of (bolt_image input acts)) (linked_code bolt_code) (main_of (bolt_whole input acts))
    (start_point (bolt_image input acts)) no_numbers

bolt_number : (input : List ℕ) (acts : ℕ) → IsNumber (bolt_block input acts) bolt_spot
bolt_number input acts =
    record {
      initial = [];
      declared = refl;
      serial = 1;
      binding = refl;
      living = K.living_at 1 1 (D.generation_for W.number_declared);
      lives = refl;
      shape = refl;
      base = _;
      frame = inl (refl, refl);
      at = refl;
      low = omega arith;
      inside = omega arith;
    }

-- ---- the procedure inside

abbrev routines : Routines (links_of bolt_code) (linked_code bolt_code)
routines = record { at = size_of (start_of 0); linked = raise_linked; condition = refl; end = omega arith }

abbrev call_index : ℕ
call_index = bolt_start + size_of (stmt_code bolt_environment none_taken bolt_first)

abbrev pub bolt_callee : (more : ℕ) → Callee
bolt_callee more =
    record {
      procedure = bolt_inner;
      calling = record {
        parent = 1;
        call = call_index + size_of (stmt_code bolt_environment none_taken bolt_call) - 2;
        entry = inner_entry;
        end = inner_start + size_of (stmts_code inner_environment none_taken inner_body);
      };
      environment = inner_environment;
      made = λ q. q;
      around = record { program = bolt_program; enter = entered bolt_program more; turns = suc more; line = 0 };
    }

inner_made :
    (input : List ℕ) (acts more : ℕ) (p : Point) (numbers : ℕ → ℕ) →
    AreMade (surroundings_of (bolt_image input acts)) (linked_code bolt_code) (bolt_callee more) p numbers
inner_made input acts more p numbers =
    P.none_made (surroundings_of (bolt_image input acts)) (linked_code bolt_code) (bolt_callee more) p numbers refl refl
    (refl, refl)

abbrev bolt_labels : List Label
bolt_labels = bolt_label ∷ []

abbrev inner_block : (input : List ℕ) → (acts more : ℕ) → Point → (numbers : ℕ → ℕ) → Block
inner_block input acts more p numbers = block_in (bolt_block input acts) bolt_labels (bolt_callee more) p numbers

inner_system :
    (input : List ℕ) (acts more : ℕ) (p : Point) (numbers : ℕ → ℕ) (condition : Condition) →
    IsAmong (bolt_block input acts) numbers p →
    IsSystem (force (bolt_block input acts).first.state.activations condition) →
    IsSystem (force (inner_block input acts more p numbers).first.state.activations condition)
inner_system input acts more p numbers condition o h =
    subst (λ xs. IsSystem (force xs condition)) (sym o.later.activations) h

-- the main procedure declares it
inside_is :
    (input : List ℕ) (acts more : ℕ) → IsBegun (bolt_block input acts) →
    IsInside (bolt_block input acts) (bolt_callee more) bolt_spot
inside_is input acts more b =
    record {
      begun = b;
      level = refl;
      parent = refl;
      inner = refl;
      further = omega arith;
      few = omega arith;
      program = refl;
      parts = refl;
    }

inner_number :
    (input : List ℕ) (acts more : ℕ) (p : Point) (numbers : ℕ → ℕ) → IsBegun (bolt_block input acts) →
    IsAmong (bolt_block input acts) numbers p → IsBegun (inner_block input acts more p numbers) →
    IsNumber (inner_block input acts more p numbers) bolt_spot
inner_number input acts more p numbers b o b' =
    called_number (bolt_block input acts) bolt_labels (bolt_callee more) bolt_spot (inside_is input acts more b)
    (bolt_number input acts) p numbers o (inner_made input acts more p numbers) b'

-- ---- its statements

abbrev last_index : ℕ
last_index = inner_start + size_of (stmt_code inner_environment none_taken inner_first)

first_is :
    (input : List ℕ) (acts more : ℕ) (p : Point) (numbers : ℕ → ℕ) → acts + 1 < 2 ^ 64 →
    IsBegun (bolt_block input acts) → IsAmong (bolt_block input acts) numbers p →
    IsBegun (inner_block input acts more p numbers) →
    IsAssignment (inner_block input acts more p numbers) bolt_spot bolt_twice 3 inner_start 1 200
first_is input acts more p numbers few b o b' =
    let n = linked_length (links_of bolt_code) 0 bolt_code in
    record {
      act = record { line_fits = omega arith; acts = few };
      begun = b';
      number = inner_number input acts more p numbers b o b';
      registers = omega arith;
      held = omega arith;
      statement = front_of (stmt_code inner_environment none_taken inner_first)
          (stmts_code inner_environment none_taken inner_rest) inner_body_linked;
      paid = omega (arith, n);
    }

abbrev bolt_far : (input : List ℕ) → (acts : ℕ) → Far
bolt_far input acts =
    record {
      behind = 0;
      outer = as_outer (bolt_block input acts) bolt_labels;
      rest = [];
      level = 0;
      label = bolt_label;
      at = call_index;
    }

far_is :
    (input : List ℕ) (acts more : ℕ) (p : Point) (numbers : ℕ → ℕ) → IsBegun (bolt_block input acts) →
    IsAmong (bolt_block input acts) numbers p → IsBegun (inner_block input acts more p numbers) →
    IsFar (inner_block input acts more p numbers) (bolt_far input acts)
far_is input acts more p numbers b o b' =
    record {
      begun = b';
      there = refl;
      carried = refl;
      own = refl;
      inner = omega arith;
      few = omega arith;
      found = ap height_of
          (called_ancestor (bolt_block input acts) bolt_labels (bolt_callee more) bolt_spot
          (inside_is input acts more b) p numbers o (inner_made input acts more p numbers) b');
      registers = omega arith;
      entries = refl;
      edits = refl;
      top = refl;
      block = refl;
      place = refl;
      near = omega arith;
    }

inner_each :
    (input : List ℕ) (acts more : ℕ) (p : Point) (numbers : ℕ → ℕ) → acts + 1 < 2 ^ 64 →
    IsBegun (bolt_block input acts) → IsAmong (bolt_block input acts) numbers p →
    IsBegun (inner_block input acts more p numbers) →
    EachDoes (inner_block input acts more p numbers) [] inner_body (body_index (bolt_callee more)) left_over
inner_each input acts more p numbers few b o b' =
    let k = inner_block input acts more p numbers in
    let three = setting_of k [] 3 200 in
    let over : OverflowComes three = overflow_ends three
    (record {
      routines = routines;
      overflow = inner_system input acts more p numbers C.FixedOverflow o tt;
      error = inner_system input acts more p numbers C.Error o tt;
      acts = few;
      most = omega arith;
    }) in
    let operand = variable_does three bolt_spot b' (inner_number input acts more p numbers b o b') in (
      assign_does k [] bolt_spot bolt_twice 3 inner_start left_over 1 200
          (first_is input acts more p numbers few b o b')
          (sum_does three (Y.NumberIn (whole bolt_spot)) (Y.NumberIn (whole bolt_spot)) 0 0 over operand operand),
      (
        far_does k [] (bolt_far input acts) 4 last_index left_over (record { line_fits = omega arith; acts = few })
            (far_is input acts more p numbers b o b')
            (front_of (stmt_code inner_environment none_taken inner_last) []
            (back_of (stmt_code inner_environment none_taken inner_first)
            (stmts_code inner_environment none_taken inner_rest) inner_body_linked)),
        tt,
      ),
    )

-- ---- the call

rest_linked :
    Linked (links_of bolt_code) (linked_code bolt_code) call_index
    (stmts_code bolt_environment none_taken bolt_rest)
rest_linked =
    back_of (stmt_code bolt_environment none_taken bolt_first)
    (stmts_code bolt_environment none_taken bolt_rest) body_linked

call_linked :
    Linked (links_of bolt_code) (linked_code bolt_code) call_index (stmt_code bolt_environment none_taken bolt_call)
call_linked = front_of (stmt_code bolt_environment none_taken bolt_call) [] (rest_of _ _ rest_linked)

callee_is :
    (input : List ℕ) (acts more : ℕ) → acts + 1 < 2 ^ 64 →
    IsCallee (surroundings_of (bolt_image input acts)) (linked_code bolt_code) (bolt_callee more)
callee_is input acts more few =
    let one = act_code 6 in
    let given' = given_code (statement_at (bolt_block input acts) (bolt_callee more) 6 0
    (start_point (bolt_image input acts)) no_numbers) in
    let last = CallTo (ProcedureEntry 1) ∷ [] in
    record {
      coded = record { level = omega arith; line = omega arith; saved = omega arith; back = omega arith };
      calls = back_of given' last (back_of one (given' ++ last) call_linked);
      place = refl;
      stands = inner_linked;
      end = refl;
      kind = refl;
      labels = (λ label e. absurd (cc e), (λ label e. absurd (cc e), λ label e. absurd (cc e)));
      acts = few;
    }

calls_is :
    (input : List ℕ) (more : ℕ) → suc more + 1 < 2 ^ 64 →
    IsCall (bolt_block input (suc more)) (bolt_callee more) 6 call_index more
calls_is input more few =
    record {
      line_fits = omega arith;
      callee = callee_is input (suc more) more few;
      room = record { room = omega arith; shallow = refl; parent = (omega arith, refl); idle = refl };
      statement = call_linked;
      call = refl;
      level = refl;
      parent = refl;
      found = refl;
      enter = refl;
      around = refl;
      enough = omega arith;
    }

call_by :
    (input : List ℕ) (acts : ℕ) → acts + 1 < 2 ^ 64 → IsBegun (bolt_block input acts) →
    Does (bolt_block input acts) bolt_labels bolt_call call_index left_over
call_by input zero few b = none_does (bolt_block input zero) bolt_labels bolt_call call_index left_over b refl
call_by input (suc more) few b =
    jump_call_does (bolt_block input (suc more)) bolt_labels (bolt_callee more) 6 call_index left_over more
    (calls_is input more few) (λ p numbers o. inner_made input (suc more) more p numbers)
    (λ p numbers o z.
    each_list (inner_block input (suc more) more p numbers) inner_body (body_index (bolt_callee more)) left_over z
    (λ label e. absurd (cc e), (λ label e. absurd (cc e), λ label e. absurd (cc e)))
    (inner_each input (suc more) more p numbers few b o z.begun)) b

-- ---- the main procedure

start_is :
    (input : List ℕ) (acts : ℕ) → acts + 1 < 2 ^ 64 → IsBegun (bolt_block input acts) →
    IsAssignment (bolt_block input acts) bolt_spot (Y.NumberConstant 536870912) 5 bolt_start 0 200
start_is input acts few b =
    let n = linked_length (links_of bolt_code) 0 bolt_code in
    record {
      act = record { line_fits = omega arith; acts = few };
      begun = b;
      number = bolt_number input acts;
      registers = omega arith;
      held = omega arith;
      statement = front_of (stmt_code bolt_environment none_taken bolt_first)
          (stmts_code bolt_environment none_taken bolt_rest) body_linked;
      paid = omega (arith, n);
    }

pub bolt_each :
    (input : List ℕ) (acts : ℕ) → acts + 1 < 2 ^ 64 → IsBegun (bolt_block input acts) →
    EachDoes (bolt_block input acts) (bolt_label ∷ []) bolt_body (body_index (main_of (bolt_whole input acts)))
    left_over
bolt_each input acts few b =
    let k = bolt_block input acts in (
      assign_does k bolt_labels bolt_spot (Y.NumberConstant 536870912) 5 bolt_start left_over 0 200
          (start_is input acts few b) (constant_does (setting_of k bolt_labels 5 200) 536870912 (omega arith)),
      (call_by input acts few b, tt),
    )

-- ---- the whole

pub bolt_is : (input first : List ℕ) (acts : ℕ) → acts + 1 < 2 ^ 64 → length first ≡ memory_size →
    IsWhole (bolt_whole input acts) first
bolt_is input first acts few bytes =
    let l = back_of (first_frame image_parts) (main_called 0) start_linked in
    record {
      start = record { linked = start_linked; differ = one_differs; bytes = bytes; told = λ n v e. absurd (cc e) };
      made = one_made (surroundings_of (bolt_image input acts)) (linked_code bolt_code)
          (main_of (bolt_whole input acts)) (start_point (bolt_image input acts)) no_numbers W.number_declared
          (bolt_only input acts);
      callee = record {
        coded = record { level = omega arith; line = omega arith; saved = omega arith; back = omega arith };
        calls = first_of (CallTo (ProcedureEntry 0)) _ (rest_of _ _ (rest_of _ _ (rest_of _ _ l)));
        place = refl;
        stands = main_linked;
        end = refl;
        kind = refl;
        labels = (
          λ label e. absurd (cc e),
          (one_label_stands (links_of bolt_code) call_index refl, λ label e. absurd (cc e)),
        );
        acts = few;
      };
      room = record { room = omega arith; shallow = refl; parent = tt; idle = refl };
      level = refl;
      procedures = refl;
      statics = refl;
    }

pub bolt_runs :
    Keeps run_keeper → (input first : List ℕ) (acts : ℕ) → acts + 1 < 2 ^ 64 → length first ≡ memory_size →
    Comes (linked_code bolt_code) 0 (first_family first (services_of (start_point (bolt_image input acts))))
    (services_of (start_point (bolt_image input acts))) (never_in (bolt_image input acts))
    (run bolt_program (suc acts) acts (first_state input))
bolt_runs keeps input first acts few bytes =
    program_runs keeps (bolt_whole input acts) first (bolt_is input first acts few bytes)
    (λ b. bolt_each input acts few b)

-- ---- what the program comes to

unfoldable flows : Unit {0}
unfolding F.give F.◌>>=◌ F.◌>>◌ F.looked F.stored F.act F.finish F.returns F.jumps F.choose F.given F.list_from
    F.leaving
flows = tt

unfoldable values : Unit {0}
unfolding V.number V.designated V.located V.numbers V.variable_designated V.part_designated V.stored_value R.or_error
    R.demanded R.value_of R.raised R.unit_run R.error R.error_unit_run Pl.element_stored M.assigned
values = tt

unfoldable calls : Unit {0}
unfolding V.called V.arguments V.all_passed_last V.procedure_entered V.returned K.variables_made K.automatic_made
    K.extents K.variable_made K.parameters_bound
calls = tt

unfoldable statements : Unit {0}
unfolding M.statement M.statements M.list M.list_with M.block_variables_made M.entry_act M.block_list M.block_body
statements = tt

pub bolt_ends :
    (input : List ℕ) →
    M.meaning bolt_program input 12
    ≡ Some (record {
      acts = 12;
      output = [];
      raised = (C.FixedOverflow, 20) ∷ (C.Error, 20) ∷ [];
      end = E.Error 20 3;
    })
unfolding M.meaning M.run M.entered M.block_run flows values calls statements
bolt_ends input = refl
