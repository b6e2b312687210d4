-- The worked row: all that is premised of the program is computed.
use Rattle.std.proofs.Common.{◌≡◌, ℕ, zero, suc, ◌+◌, ◌^◌, ◌<◌, List, [], ◌∷◌, ◌++◌, inl, length, map, Some}
use Rattle.std.proofs.Common.{refl, sym, ap, subst, arith}
use Rattle.rv_meaning.specs.Machine.{memory_size}
use Rattle.pli_language.specs.declared.condition.Condition.{Condition}
use Rattle.pli_language.specs.declared.condition.Condition.TheVariants as C
use Rattle.pli_typing.specs.TypedTree as Y
use Rattle.pli_meaning.specs.declared.outcome.End.TheVariants as E
use Rattle.pli_meaning.specs.Control as F
use Rattle.pli_meaning.specs.Control.{Label}
use Rattle.pli_meaning.specs.Evaluating as V
use Rattle.pli_meaning.specs.Executing as M
use Rattle.pli_meaning.specs.Executing.{entered, run}
use Rattle.pli_meaning.specs.Making as K
use Rattle.pli_meaning.specs.Placing as Pl
use Rattle.pli_meaning.specs.Raising as R
use Rattle.pli_meaning.specs.StorageState.{first_state, force, height_of}
use Rattle.area_keeper.specs.KeeperLaws.{Keeps}
use Rattle.run_keeper.specs.RunKeeper.{run_keeper}
use Rattle.pli_serving.specs.Templates.{template_of}
use Rattle.pli_coding.specs.Allocating.{act_code}
use Rattle.pli_coding.specs.Assembly.{CallTo, Mark, ProcedureEntry, ReturnPlace, size_of}
use Rattle.pli_coding.specs.Environments.{none_taken}
use Rattle.pli_coding.specs.Images.{first_frame, linked_code, raise_code}
use Rattle.pli_coding.specs.Linking.{links_of}
use Rattle.pli_coding.specs.Procedures.{no_value}
use Rattle.pli_coding.specs.SignatureTable.{table_of}
use Rattle.pli_coding.specs.Statements.{stmt_code, stmts_code}
use Rattle.storage_relation.specs.Served.{AllDiffer}
use Rattle.activation_relation.specs.Layers.{Point, services_of}
use Rattle.activation_relation.specs.ServiceLaws.{IsSystem}
use Rattle.run_steps.specs.Items.{Linked}
use Rattle.run_steps.proofs.Jumps.{back_of, first_of, front_of, rest_of}
use Rattle.run_steps.proofs.Linking.{has_items, linked_length}
use Rattle.run_steps.specs.Reach.{Comes}
use Rattle.program_runs.specs.Calls.{AreMade, Callee, block_at, body_index, left_over}
use Rattle.program_runs.specs.Procedures.{begin_of, end_of, procedure_code}
use Rattle.program_runs.specs.Programs.{IsWhole, Whole, main_of}
use Rattle.program_runs.specs.Starts.{first_family, image_parts, main_called, no_numbers, start_of, never_in}
use Rattle.program_runs.specs.Starts.{start_point, surroundings_of}
use Rattle.program_runs.specs.Statements.{Block, Does, EachDoes, IsAmong, IsBegun, as_outer}
use Rattle.program_runs.specs.Variables as D
use Rattle.program_runs.specs.Variables.{IsOnly, newest_made}
use Rattle.program_runs.specs.VariableRows as W
use Rattle.program_runs.proofs.Calls as P
use Rattle.program_runs.proofs.Programs.{program_runs}
use Rattle.program_runs.proofs.Rows.{is_datum, names_none, none_named}
use Rattle.program_runs.proofs.Statements.{none_does}
use Rattle.program_runs.proofs.VariableProcedures.{one_made}
use Rattle.program_runs.proofs.VariableRows.{differs_alone, number_valued}
use Rattle.expression_runs.specs.Assignments.{IsAssignment, setting_of}
use Rattle.expression_runs.specs.Laws as L
use Rattle.expression_runs.specs.Raises.{Routines}
use Rattle.expression_runs.specs.Values.{OverflowComes, Setting}
use Rattle.expression_runs.specs.Variables.{IsNumber, whole}
use Rattle.expression_runs.proofs.Assignments.{assign_does}
use Rattle.expression_runs.proofs.Operands.{constant_does}
use Rattle.expression_runs.proofs.Raises.{overflow_ends}
use Rattle.expression_runs.proofs.Rows.{one_label_stands}
use Rattle.expression_runs.proofs.Sums.{sum_does}
use Rattle.expression_runs.proofs.VariablePoints.{variable_does}
use Rattle.function_runs.specs.FunctionCalls.{called_from}
use Rattle.function_runs.specs.Functions.{IsFunction, function_code, function_tail}
use Rattle.function_runs.specs.OuterVariables.{IsInside}
use Rattle.begin_runs.specs.FarGotos.{Far, IsFar}
use Rattle.begin_runs.proofs.FarGotos.{far_does}
use Rattle.jump_runs.specs.FunctionRows.{inner_body, inner_coded, inner_entry, inner_environment, inner_first}
use Rattle.jump_runs.specs.FunctionRows.{inner_last, inner_rest, main_coded, shed_added, shed_again, shed_body}
use Rattle.jump_runs.specs.FunctionRows.{shed_called, shed_code, shed_entry, shed_environment, shed_first}
use Rattle.jump_runs.specs.FunctionRows.{shed_function, shed_image, shed_inner, shed_label, shed_main, shed_program}
use Rattle.jump_runs.specs.FunctionRows.{shed_rest, shed_spot, shed_twice}
use Rattle.jump_runs.specs.Functions.{function_in}
use Rattle.jump_runs.proofs.FunctionLists.{each_ends, system_ends}
use Rattle.jump_runs.proofs.Functions.{jump_function_does}
use Rattle.jump_runs.proofs.Numbers.{function_ancestor, function_number}

-- ---- its code

shed_linked : Linked (links_of shed_code) (linked_code shed_code) 0 shed_code
unfolding names_none is_datum
shed_linked =
    let n = linked_length (links_of shed_code) 0 shed_code in
    record {
      small' = omega (arith, n);
      inside = omega (arith, n);
      has = has_items (links_of shed_code) shed_code refl;
      named = λ d h. absurd (none_named d shed_code refl h);
    }

start_linked : Linked (links_of shed_code) (linked_code shed_code) 0 (start_of 0)
start_linked = front_of (start_of 0) (raise_code ++ (main_coded ++ inner_coded)) shed_linked

raise_linked : Linked (links_of shed_code) (linked_code shed_code) (size_of (start_of 0)) raise_code
raise_linked =
    front_of raise_code (main_coded ++ inner_coded)
    (back_of (start_of 0) (raise_code ++ (main_coded ++ inner_coded)) shed_linked)

both_linked : Linked (links_of shed_code) (linked_code shed_code) shed_entry (main_coded ++ inner_coded)
both_linked =
    back_of raise_code (main_coded ++ inner_coded)
    (back_of (start_of 0) (raise_code ++ (main_coded ++ inner_coded)) shed_linked)

main_linked :
    Linked (links_of shed_code) (linked_code shed_code) shed_entry (procedure_code shed_environment shed_main)
main_linked =
    rest_of (Mark (ProcedureEntry 0)) (procedure_code shed_environment shed_main)
    (front_of main_coded inner_coded both_linked)

inner_linked :
    Linked (links_of shed_code) (linked_code shed_code) inner_entry (function_code inner_environment shed_inner)
inner_linked =
    rest_of (Mark (ProcedureEntry 1)) (function_code inner_environment shed_inner)
    (back_of main_coded inner_coded both_linked)

abbrev pub shed_start : ℕ
shed_start = shed_entry + size_of (begin_of shed_main) + size_of shed_main.variables + size_of (act_code 1)

abbrev pub shed_finish : ℕ
shed_finish = shed_start + size_of (stmts_code shed_environment none_taken shed_body)

abbrev inner_start : ℕ
inner_start = inner_entry + size_of (begin_of shed_inner) + size_of shed_inner.variables + size_of (act_code 2)

body_linked :
    Linked (links_of shed_code) (linked_code shed_code) shed_start
    (stmts_code shed_environment none_taken shed_body)
body_linked =
    let one = act_code 1 in
    let body = stmts_code shed_environment none_taken shed_body in
    let tail = Mark (ReturnPlace 0) ∷ end_of shed_main in
    let rest = one ++ (body ++ tail) in
    front_of body tail
    (back_of one (body ++ tail)
    (back_of shed_main.variables rest (back_of (begin_of shed_main) (shed_main.variables ++ rest) main_linked)))

inner_body_linked :
    Linked (links_of shed_code) (linked_code shed_code) inner_start
    (stmts_code inner_environment none_taken inner_body)
inner_body_linked =
    let one = act_code 2 in
    let body = stmts_code inner_environment none_taken inner_body in
    let tail = function_tail shed_inner in
    let rest = one ++ (body ++ tail) in
    front_of body tail
    (back_of one (body ++ tail)
    (back_of shed_inner.variables rest (back_of (begin_of shed_inner) (shed_inner.variables ++ rest) inner_linked)))

-- ---- the main procedure's variable

one_differs : AllDiffer (map template_of (table_of shed_program))
one_differs = differs_alone (map template_of (table_of shed_program)) _ refl refl

abbrev pub shed_whole : (input : List ℕ) → (acts : ℕ) → Whole
shed_whole input acts =
    record {
      image = shed_image input acts;
      program = shed_program;
      main = shed_main;
      others = shed_function ∷ [];
      environment = shed_environment;
      entry = shed_entry;
      end = shed_finish;
      made = newest_made image_parts W.number_declared;
    }

shed_only :
    (input : List ℕ) (acts : ℕ) →
    IsOnly (surroundings_of (shed_image input acts)) (main_of (shed_whole input acts))
    (start_point (shed_image input acts)) no_numbers W.number_declared
shed_only input acts =
    let n = linked_length (links_of shed_code) 0 shed_code in
    record {
      kind = refl;
      variables = refl;
      class = refl;
      evaluations = refl;
      first = refl;
      code = refl;
      made = refl;
      table = refl;
      parts = refl;
      few = omega arith;
      declared = record {
        newest = refl;
        here = refl;
        holds = omega arith;
        size = omega arith;
        fits = omega arith;
        even = refl;
        low = omega (arith, n);
        shape = refl;
        number = omega arith;
        initial = refl;
        none = refl;
        plain = refl;
        fixed = refl;
        values = (tt, tt);
        valued = number_valued;
        limit = refl;
      };
    }

abbrev pub shed_block : (input : List ℕ) → (acts : ℕ) → Block
shed_block input acts =
    block_at (surroundings_of (shed_image input acts)) (linked_code shed_code) (main_of (shed_whole input acts))
    (start_point (shed_image input acts)) no_numbers

shed_number : (input : List ℕ) (acts : ℕ) → IsNumber (shed_block input acts) shed_spot
shed_number input acts =
    record {
      initial = [];
      declared = refl;
      serial = 1;
      binding = refl;
      living = K.living_at 1 1 (D.generation_for W.number_declared);
      lives = refl;
      shape = refl;
      base = _;
      frame = inl (refl, refl);
      at = refl;
      low = omega arith;
      inside = omega arith;
    }

-- ---- the procedure inside

abbrev routines : Routines (links_of shed_code) (linked_code shed_code)
routines = record { at = size_of (start_of 0); linked = raise_linked; condition = refl; end = omega arith }

abbrev again_index : ℕ
again_index = shed_start + size_of (stmt_code shed_environment none_taken shed_first)

abbrev pub shed_callee : (more : ℕ) → Callee
shed_callee more =
    record {
      procedure = shed_inner;
      calling = record {
        parent = 1;
        call = 0;
        entry = inner_entry;
        end = inner_start + size_of (stmts_code inner_environment none_taken inner_body) + size_of (no_value 2);
      };
      environment = inner_environment;
      made = λ q. q;
      around = record { program = shed_program; enter = entered shed_program more; turns = suc more; line = 0 };
    }

inner_is :
    (input : List ℕ) (acts more : ℕ) → acts + 1 < 2 ^ 64 →
    IsFunction (surroundings_of (shed_image input acts)) (linked_code shed_code) (shed_callee more)
inner_is input acts more few =
    record {
      level = omega arith;
      line = omega arith;
      saved = omega arith;
      place = refl;
      stands = inner_linked;
      end = refl;
      kind = refl;
      labels = (λ label e. absurd (cc e), (λ label e. absurd (cc e), λ label e. absurd (cc e)));
      acts = few;
      routines = routines;
      raises = refl;
    }

inner_made :
    (input : List ℕ) (acts more call : ℕ) (p : Point) (numbers : ℕ → ℕ) →
    AreMade (surroundings_of (shed_image input acts)) (linked_code shed_code) (called_from (shed_callee more) call) p
    numbers
inner_made input acts more call p numbers =
    let c = called_from (shed_callee more) call in
    P.none_made (surroundings_of (shed_image input acts)) (linked_code shed_code) c p numbers refl refl (refl, refl)

abbrev shed_labels : List Label
shed_labels = shed_label ∷ []

-- around the expression that calls it
abbrev six : (input : List ℕ) → (acts : ℕ) → Setting
six input acts = setting_of (shed_block input acts) shed_labels 6 200

abbrev inner_block : (input : List ℕ) → (acts more call : ℕ) → Point → (numbers : ℕ → ℕ) → Block
inner_block input acts more call p numbers =
    function_in (six input acts) (called_from (shed_callee more) call) p numbers

inner_system :
    (input : List ℕ) (acts more call : ℕ) (p : Point) (numbers : ℕ → ℕ) (condition : Condition) →
    IsAmong (shed_block input acts) numbers p →
    IsSystem (force (shed_block input acts).first.state.activations condition) →
    IsSystem (force (inner_block input acts more call p numbers).first.state.activations condition)
inner_system input acts more call p numbers condition o h =
    subst (λ xs. IsSystem (force xs condition)) (sym o.later.activations) h

-- the main procedure declares it
inside_is :
    (input : List ℕ) (acts more call : ℕ) → IsBegun (shed_block input acts) →
    IsInside (shed_block input acts) (called_from (shed_callee more) call) shed_spot
inside_is input acts more call b =
    record {
      begun = b;
      level = refl;
      parent = refl;
      inner = refl;
      further = omega arith;
      few = omega arith;
      program = refl;
      parts = refl;
    }

inner_number :
    (input : List ℕ) (acts more call : ℕ) (p : Point) (numbers : ℕ → ℕ) → IsBegun (shed_block input acts) →
    IsAmong (shed_block input acts) numbers p → IsBegun (inner_block input acts more call p numbers) →
    IsNumber (inner_block input acts more call p numbers) shed_spot
inner_number input acts more call p numbers b o b' =
    function_number [] (six input acts) (called_from (shed_callee more) call) shed_spot
    (inside_is input acts more call b) (shed_number input acts) p numbers o
    (inner_made input acts more call p numbers) b'

-- ---- its statements

abbrev last_index : ℕ
last_index = inner_start + size_of (stmt_code inner_environment none_taken inner_first)

first_is :
    (input : List ℕ) (acts more call : ℕ) (p : Point) (numbers : ℕ → ℕ) → acts + 1 < 2 ^ 64 →
    IsBegun (shed_block input acts) → IsAmong (shed_block input acts) numbers p →
    IsBegun (inner_block input acts more call p numbers) →
    IsAssignment (inner_block input acts more call p numbers) shed_spot shed_twice 3 inner_start 1 200
first_is input acts more call p numbers few b o b' =
    let n = linked_length (links_of shed_code) 0 shed_code in
    record {
      act = record { line_fits = omega arith; acts = few };
      begun = b';
      number = inner_number input acts more call p numbers b o b';
      registers = omega arith;
      held = omega arith;
      statement = front_of (stmt_code inner_environment none_taken inner_first)
          (stmts_code inner_environment none_taken inner_rest) inner_body_linked;
      paid = omega (arith, n);
    }

abbrev shed_far : (input : List ℕ) → (acts : ℕ) → Far
shed_far input acts =
    record {
      behind = 0;
      outer = as_outer (shed_block input acts) shed_labels;
      rest = [];
      level = 0;
      label = shed_label;
      at = again_index;
    }

far_is :
    (input : List ℕ) (acts more call : ℕ) (p : Point) (numbers : ℕ → ℕ) → IsBegun (shed_block input acts) →
    IsAmong (shed_block input acts) numbers p → IsBegun (inner_block input acts more call p numbers) →
    IsFar (inner_block input acts more call p numbers) (shed_far input acts)
far_is input acts more call p numbers b o b' =
    record {
      begun = b';
      there = refl;
      carried = refl;
      own = refl;
      inner = omega arith;
      few = omega arith;
      found = ap height_of
          (function_ancestor [] (six input acts) (called_from (shed_callee more) call) shed_spot
          (inside_is input acts more call b) p numbers o (inner_made input acts more call p numbers) b');
      registers = omega arith;
      entries = refl;
      edits = refl;
      top = refl;
      block = refl;
      place = refl;
      near = omega arith;
    }

inner_each :
    (input : List ℕ) (acts more call : ℕ) (p : Point) (numbers : ℕ → ℕ) → acts + 1 < 2 ^ 64 →
    IsBegun (shed_block input acts) → IsAmong (shed_block input acts) numbers p →
    IsBegun (inner_block input acts more call p numbers) →
    EachDoes (inner_block input acts more call p numbers) [] inner_body (body_index (shed_callee more)) left_over
inner_each input acts more call p numbers few b o b' =
    let k = inner_block input acts more call p numbers in
    let three = setting_of k [] 3 200 in
    let over : OverflowComes three = overflow_ends three
    (record {
      routines = routines;
      overflow = inner_system input acts more call p numbers C.FixedOverflow o tt;
      error = inner_system input acts more call p numbers C.Error o tt;
      acts = few;
      most = omega arith;
    }) in
    let operand = variable_does three shed_spot b' (inner_number input acts more call p numbers b o b') in (
      assign_does k [] shed_spot shed_twice 3 inner_start left_over 1 200
          (first_is input acts more call p numbers few b o b')
          (sum_does three (Y.NumberIn (whole shed_spot)) (Y.NumberIn (whole shed_spot)) 0 0 over operand operand),
      (
        far_does k [] (shed_far input acts) 4 last_index left_over (record { line_fits = omega arith; acts = few })
            (far_is input acts more call p numbers b o b')
            (front_of (stmt_code inner_environment none_taken inner_last) []
            (back_of (stmt_code inner_environment none_taken inner_first)
            (stmts_code inner_environment none_taken inner_rest) inner_body_linked)),
        tt,
      ),
    )

-- ---- the call

-- X waits in a register while the function runs
called_is :
    (input : List ℕ) (more : ℕ) → suc more + 1 < 2 ^ 64 → IsBegun (shed_block input (suc more)) →
    L.Does (six input (suc more)) 0 shed_called
called_is input more few b =
    jump_function_does [] (six input (suc more)) (shed_callee more) more
    (record {
      begun = b;
      function = inner_is input (suc more) more few;
      room = record { room = omega arith; shallow = refl; parent = (omega arith, refl); idle = refl };
      level = refl;
      parent = refl;
      found = refl;
      enter = refl;
      around = refl;
      enough = omega arith;
      most = omega arith;
      words = omega arith;
    })
    (λ call p numbers o. inner_made input (suc more) more call p numbers)
    (λ call p numbers o z.
    let k = inner_block input (suc more) more call p numbers in
    each_ends k inner_body (body_index (shed_callee more)) z
    (λ label e. absurd (cc e), (λ label e. absurd (cc e), λ label e. absurd (cc e)))
    (inner_each input (suc more) more call p numbers few b o z.begun)
    (system_ends k inner_body (body_index (shed_callee more)) [] z
    (inner_system input (suc more) more call p numbers C.Error o tt)))

rest_linked :
    Linked (links_of shed_code) (linked_code shed_code) again_index
    (stmts_code shed_environment none_taken shed_rest)
rest_linked =
    back_of (stmt_code shed_environment none_taken shed_first)
    (stmts_code shed_environment none_taken shed_rest) body_linked

again_is :
    (input : List ℕ) (acts : ℕ) → acts + 1 < 2 ^ 64 → IsBegun (shed_block input acts) →
    IsAssignment (shed_block input acts) shed_spot shed_added 6 again_index 1 200
again_is input acts few b =
    let n = linked_length (links_of shed_code) 0 shed_code in
    record {
      act = record { line_fits = omega arith; acts = few };
      begun = b;
      number = shed_number input acts;
      registers = omega arith;
      held = omega arith;
      statement = front_of (stmt_code shed_environment none_taken shed_again) [] (rest_of _ _ rest_linked);
      paid = omega (arith, n);
    }

again_does :
    (input : List ℕ) (acts : ℕ) → acts + 1 < 2 ^ 64 → IsBegun (shed_block input acts) →
    Does (shed_block input acts) shed_labels shed_again again_index left_over
again_does input zero few b = none_does (shed_block input zero) shed_labels shed_again again_index left_over b refl
again_does input (suc more) few b =
    let k = shed_block input (suc more) in
    let over : OverflowComes (six input (suc more)) = overflow_ends (six input (suc more))
    (record { routines = routines; overflow = tt; error = tt; acts = few; most = omega arith }) in
    assign_does k shed_labels shed_spot shed_added 6 again_index left_over 1 200 (again_is input (suc more) few b)
    (sum_does (six input (suc more)) (Y.NumberIn (whole shed_spot)) shed_called 0 0 over
    (variable_does (six input (suc more)) shed_spot b (shed_number input (suc more))) (called_is input more few b))

-- ---- the main procedure

start_is :
    (input : List ℕ) (acts : ℕ) → acts + 1 < 2 ^ 64 → IsBegun (shed_block input acts) →
    IsAssignment (shed_block input acts) shed_spot (Y.NumberConstant 536870912) 5 shed_start 0 200
start_is input acts few b =
    let n = linked_length (links_of shed_code) 0 shed_code in
    record {
      act = record { line_fits = omega arith; acts = few };
      begun = b;
      number = shed_number input acts;
      registers = omega arith;
      held = omega arith;
      statement = front_of (stmt_code shed_environment none_taken shed_first)
          (stmts_code shed_environment none_taken shed_rest) body_linked;
      paid = omega (arith, n);
    }

pub shed_each :
    (input : List ℕ) (acts : ℕ) → acts + 1 < 2 ^ 64 → IsBegun (shed_block input acts) →
    EachDoes (shed_block input acts) (shed_label ∷ []) shed_body (body_index (main_of (shed_whole input acts)))
    left_over
shed_each input acts few b =
    let k = shed_block input acts in (
      assign_does k shed_labels shed_spot (Y.NumberConstant 536870912) 5 shed_start left_over 0 200
          (start_is input acts few b) (constant_does (setting_of k shed_labels 5 200) 536870912 (omega arith)),
      (again_does input acts few b, tt),
    )

-- ---- the whole

pub shed_is : (input first : List ℕ) (acts : ℕ) → acts + 1 < 2 ^ 64 → length first ≡ memory_size →
    IsWhole (shed_whole input acts) first
shed_is input first acts few bytes =
    let l = back_of (first_frame image_parts) (main_called 0) start_linked in
    record {
      start = record { linked = start_linked; differ = one_differs; bytes = bytes; told = λ n v e. absurd (cc e) };
      made = one_made (surroundings_of (shed_image input acts)) (linked_code shed_code)
          (main_of (shed_whole input acts)) (start_point (shed_image input acts)) no_numbers W.number_declared
          (shed_only input acts);
      callee = record {
        coded = record { level = omega arith; line = omega arith; saved = omega arith; back = omega arith };
        calls = first_of (CallTo (ProcedureEntry 0)) _ (rest_of _ _ (rest_of _ _ (rest_of _ _ l)));
        place = refl;
        stands = main_linked;
        end = refl;
        kind = refl;
        labels = (
          λ label e. absurd (cc e),
          (one_label_stands (links_of shed_code) again_index refl, λ label e. absurd (cc e)),
        );
        acts = few;
      };
      room = record { room = omega arith; shallow = refl; parent = tt; idle = refl };
      level = refl;
      procedures = refl;
      statics = refl;
    }

pub shed_runs :
    Keeps run_keeper → (input first : List ℕ) (acts : ℕ) → acts + 1 < 2 ^ 64 → length first ≡ memory_size →
    Comes (linked_code shed_code) 0 (first_family first (services_of (start_point (shed_image input acts))))
    (services_of (start_point (shed_image input acts))) (never_in (shed_image input acts))
    (run shed_program (suc acts) acts (first_state input))
shed_runs keeps input first acts few bytes =
    program_runs keeps (shed_whole input acts) first (shed_is input first acts few bytes)
    (λ b. shed_each input acts few b)

-- ---- what the program comes to

unfoldable flows : Unit {0}
unfolding F.give F.◌>>=◌ F.◌>>◌ F.looked F.stored F.act F.finish F.returns F.jumps F.choose F.given F.list_from
    F.leaving
flows = tt

unfoldable values : Unit {0}
unfolding V.number V.designated V.located V.numbers V.variable_designated V.part_designated V.stored_value R.or_error
    R.demanded R.value_of R.raised R.unit_run R.error R.error_unit_run Pl.element_stored M.assigned
values = tt

unfoldable calls : Unit {0}
unfolding V.called V.arguments V.all_passed_last V.procedure_entered V.returned K.variables_made K.automatic_made
    K.extents K.variable_made K.parameters_bound
calls = tt

unfoldable statements : Unit {0}
unfolding M.statement M.statements M.list M.list_with M.block_variables_made M.entry_act M.block_list M.block_body
statements = tt

pub shed_ends :
    (input : List ℕ) →
    M.meaning shed_program input 12
    ≡ Some (record {
      acts = 12;
      output = [];
      raised = (C.FixedOverflow, 20) ∷ (C.Error, 20) ∷ [];
      end = E.Error 20 3;
    })
unfolding M.meaning M.run M.entered M.block_run flows values calls statements
shed_ends input = refl
