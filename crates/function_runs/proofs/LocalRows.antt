-- The worked row: all that is premised of the program is computed, and where the procedure is called it is known from
-- where the main one begins.
use Rattle.std.proofs.Common.{◌≡◌, ℕ, zero, suc, ◌+◌, ◌-◌, ◌^◌, ◌<◌, List, [], ◌∷◌, ◌++◌, inl, length, map, Some}
use Rattle.std.proofs.Common.{refl, sym, subst, arith}
use Rattle.rv_meaning.specs.Machine.{memory_size}
use Rattle.pli_language.specs.declared.condition.Condition.{Condition}
use Rattle.pli_language.specs.declared.condition.Condition.TheVariants as C
use Rattle.pli_typing.specs.TypedTree as Y
use Rattle.pli_meaning.specs.declared.outcome.End.TheVariants as E
use Rattle.pli_meaning.specs.Control as F
use Rattle.pli_meaning.specs.Evaluating as V
use Rattle.pli_meaning.specs.Executing as M
use Rattle.pli_meaning.specs.Executing.{entered, run}
use Rattle.pli_meaning.specs.Making as K
use Rattle.pli_meaning.specs.Placing as P
use Rattle.pli_meaning.specs.Raising as R
use Rattle.pli_meaning.specs.StorageState.{first_state, force}
use Rattle.area_keeper.specs.KeeperLaws.{Keeps}
use Rattle.run_keeper.specs.RunKeeper.{run_keeper}
use Rattle.pli_serving.specs.Templates.{template_of}
use Rattle.pli_coding.specs.Allocating.{act_code}
use Rattle.pli_coding.specs.Assembly.{CallTo, Mark, ProcedureEntry, ReturnPlace, size_of}
use Rattle.pli_coding.specs.Environments.{none_taken}
use Rattle.pli_coding.specs.Images.{first_frame, linked_code, raise_code}
use Rattle.pli_coding.specs.Linking.{links_of}
use Rattle.pli_coding.specs.SignatureTable.{table_of}
use Rattle.pli_coding.specs.Statements.{stmt_code, stmts_code}
use Rattle.storage_relation.specs.Served.{AllDiffer}
use Rattle.activation_relation.specs.Layers.{Point, services_of}
use Rattle.activation_relation.specs.ServiceLaws.{IsSystem}
use Rattle.run_steps.specs.Items.{Linked}
use Rattle.run_steps.proofs.Jumps.{back_of, first_of, front_of, rest_of}
use Rattle.run_steps.proofs.Linking.{has_items, linked_length}
use Rattle.run_steps.specs.Reach.{Comes}
use Rattle.block_runs.proofs.CallStatements.{given_code}
use Rattle.program_runs.specs.Calls.{AreMade, Callee, IsCall, IsCallee, block_at, body_index, left_over}
use Rattle.program_runs.specs.Procedures.{begin_of, end_of, procedure_code}
use Rattle.program_runs.specs.Programs.{IsWhole, Whole, main_of}
use Rattle.program_runs.specs.Starts.{first_family, image_parts, main_called, no_numbers, start_of, never_in}
use Rattle.program_runs.specs.Starts.{start_point, surroundings_of}
use Rattle.program_runs.specs.Statements.{Block, Does, EachDoes, IsAmong, IsBegun}
use Rattle.program_runs.specs.Variables as D
use Rattle.program_runs.specs.Variables.{IsOnly, newest_made}
use Rattle.program_runs.specs.VariableRows as W
use Rattle.program_runs.proofs.CallStatements.{call_does, statement_at}
use Rattle.program_runs.proofs.Gotos.{goto_does}
use Rattle.program_runs.proofs.Programs.{program_runs}
use Rattle.program_runs.proofs.Rows.{is_datum, names_none, none_named}
use Rattle.program_runs.proofs.Statements.{none_does}
use Rattle.program_runs.proofs.VariableProcedures.{one_made}
use Rattle.program_runs.proofs.VariableRows.{differs_alone, number_valued}
use Rattle.program_runs.proofs.VariablesAmong.{only_among}
use Rattle.expression_runs.specs.Assignments.{IsAssignment, setting_of}
use Rattle.expression_runs.specs.Raises.{Routines}
use Rattle.expression_runs.specs.Values.{OverflowComes}
use Rattle.expression_runs.specs.Variables.{IsNumber, whole}
use Rattle.expression_runs.proofs.Assignments.{assign_does}
use Rattle.expression_runs.proofs.Operands.{constant_does}
use Rattle.expression_runs.proofs.OwnVariables.{procedure_own}
use Rattle.expression_runs.proofs.Raises.{overflow_ends}
use Rattle.expression_runs.proofs.Rows.{one_label_stands}
use Rattle.expression_runs.proofs.Sums.{sum_does}
use Rattle.expression_runs.proofs.VariablePoints.{variable_does}
use Rattle.function_runs.specs.LocalRows.{inner_body, inner_coded, inner_entry, inner_environment, inner_first}
use Rattle.function_runs.specs.LocalRows.{inner_last, inner_rest, local_back, local_body, local_call, local_code}
use Rattle.function_runs.specs.LocalRows.{local_declared, local_end, local_entry, local_environment, local_first}
use Rattle.function_runs.specs.LocalRows.{local_image, local_inner, local_label, local_main, local_procedure}
use Rattle.function_runs.specs.LocalRows.{local_program, local_rest, local_spot, main_coded, outer_spot, twice}
use Rattle.function_runs.proofs.OuterVariables.{procedure_number}

-- ---- its code

local_linked : Linked (links_of local_code) (linked_code local_code) 0 local_code
unfolding names_none is_datum
local_linked =
    let n = linked_length (links_of local_code) 0 local_code in
    record {
      small' = omega (arith, n);
      inside = omega (arith, n);
      has = has_items (links_of local_code) local_code refl;
      named = λ d h. absurd (none_named d local_code refl h);
    }

start_linked : Linked (links_of local_code) (linked_code local_code) 0 (start_of 0)
start_linked = front_of (start_of 0) (raise_code ++ (main_coded ++ inner_coded)) local_linked

raise_linked : Linked (links_of local_code) (linked_code local_code) (size_of (start_of 0)) raise_code
raise_linked =
    front_of raise_code (main_coded ++ inner_coded)
    (back_of (start_of 0) (raise_code ++ (main_coded ++ inner_coded)) local_linked)

both_linked : Linked (links_of local_code) (linked_code local_code) local_entry (main_coded ++ inner_coded)
both_linked =
    back_of raise_code (main_coded ++ inner_coded)
    (back_of (start_of 0) (raise_code ++ (main_coded ++ inner_coded)) local_linked)

main_linked :
    Linked (links_of local_code) (linked_code local_code) local_entry (procedure_code local_environment local_main)
main_linked =
    rest_of (Mark (ProcedureEntry 0)) (procedure_code local_environment local_main)
    (front_of main_coded inner_coded both_linked)

inner_linked :
    Linked (links_of local_code) (linked_code local_code) inner_entry (procedure_code inner_environment local_inner)
inner_linked =
    rest_of (Mark (ProcedureEntry 1)) (procedure_code inner_environment local_inner)
    (back_of main_coded inner_coded both_linked)

abbrev pub local_start : ℕ
local_start = local_entry + size_of (begin_of local_main) + size_of local_main.variables + size_of (act_code 1)

abbrev pub local_finish : ℕ
local_finish = local_start + size_of (stmts_code local_environment none_taken local_body)

abbrev inner_start : ℕ
inner_start = inner_entry + size_of (begin_of local_inner) + size_of local_inner.variables + size_of (act_code 2)

body_linked :
    Linked (links_of local_code) (linked_code local_code) local_start
    (stmts_code local_environment none_taken local_body)
body_linked =
    let one = act_code 1 in
    let body = stmts_code local_environment none_taken local_body in
    let tail = Mark (ReturnPlace 0) ∷ end_of local_main in
    let rest = one ++ (body ++ tail) in
    front_of body tail
    (back_of one (body ++ tail)
    (back_of local_main.variables rest (back_of (begin_of local_main) (local_main.variables ++ rest) main_linked)))

inner_body_linked :
    Linked (links_of local_code) (linked_code local_code) inner_start
    (stmts_code inner_environment none_taken inner_body)
inner_body_linked =
    let one = act_code 2 in
    let body = stmts_code inner_environment none_taken inner_body in
    let tail = Mark (ReturnPlace 1) ∷ end_of local_inner in
    let rest = one ++ (body ++ tail) in
    front_of body tail
    (back_of one (body ++ tail)
    (back_of local_inner.variables rest (back_of (begin_of local_inner) (local_inner.variables ++ rest) inner_linked)))

-- ---- the main procedure's variable

one_differs : AllDiffer (map template_of (table_of local_program))
one_differs = differs_alone (map template_of (table_of local_program)) _ refl refl

abbrev pub local_whole : (input : List ℕ) → (acts : ℕ) → Whole
local_whole input acts =
    record {
      image = local_image input acts;
      program = local_program;
      main = local_main;
      others = local_procedure ∷ [];
      environment = local_environment;
      entry = local_entry;
      end = local_finish;
      made = newest_made image_parts W.number_declared;
    }

outer_only :
    (input : List ℕ) (acts : ℕ) →
    IsOnly (surroundings_of (local_image input acts)) (main_of (local_whole input acts))
    (start_point (local_image input acts)) no_numbers W.number_declared
outer_only input acts =
    let n = linked_length (links_of local_code) 0 local_code in
    record {
      kind = refl;
      variables = refl;
      class = refl;
      evaluations = refl;
      first = refl;
      code = refl;
      made = refl;
      table = refl;
      parts = refl;
      few = omega arith;
      declared = record {
        newest = refl;
        here = refl;
        holds = omega arith;
        size = omega arith;
        fits = omega arith;
        even = refl;
        low = omega (arith, n);
        shape = refl;
        number = omega arith;
        initial = refl;
        none = refl;
        plain = refl;
        fixed = refl;
        values = (tt, tt);
        valued = number_valued;
        limit = refl;
      };
    }

abbrev pub local_block : (input : List ℕ) → (acts : ℕ) → Block
local_block input acts =
    block_at (surroundings_of (local_image input acts)) (linked_code local_code) (main_of (local_whole input acts))
    (start_point (local_image input acts)) no_numbers

outer_number : (input : List ℕ) (acts : ℕ) → IsNumber (local_block input acts) outer_spot
outer_number input acts =
    record {
      initial = [];
      declared = refl;
      serial = 1;
      binding = refl;
      living = K.living_at 1 1 (D.generation_for W.number_declared);
      lives = refl;
      shape = refl;
      base = _;
      frame = inl (refl, refl);
      at = refl;
      low = omega arith;
      inside = omega arith;
    }

-- ---- the procedure inside

abbrev routines : Routines (links_of local_code) (linked_code local_code)
routines = record { at = size_of (start_of 0); linked = raise_linked; condition = refl; end = omega arith }

abbrev call_index : ℕ
call_index = local_start + size_of (stmt_code local_environment none_taken local_first)

abbrev pub local_callee : (more : ℕ) → Callee
local_callee more =
    record {
      procedure = local_inner;
      calling = record {
        parent = 1;
        call = call_index + size_of (stmt_code local_environment none_taken local_call) - 2;
        entry = inner_entry;
        end = inner_start + size_of (stmts_code inner_environment none_taken inner_body);
      };
      environment = inner_environment;
      made = newest_made image_parts local_declared;
      around = record { program = local_program; enter = entered local_program more; turns = suc more; line = 0 };
    }

-- where the main procedure begins its variable could be made
first_only :
    (input : List ℕ) (acts more : ℕ) (held : ℕ → ℕ) →
    IsOnly (surroundings_of (local_image input acts)) (local_callee more) (local_block input acts).first held
    local_declared
first_only input acts more held =
    let n = linked_length (links_of local_code) 0 local_code in
    record {
      kind = refl;
      variables = refl;
      class = refl;
      evaluations = refl;
      first = refl;
      code = refl;
      made = refl;
      table = refl;
      parts = refl;
      few = omega arith;
      declared = record {
        newest = refl;
        here = refl;
        holds = omega arith;
        size = omega arith;
        fits = omega arith;
        even = refl;
        low = omega (arith, n);
        shape = refl;
        number = omega arith;
        initial = refl;
        none = refl;
        plain = refl;
        fixed = refl;
        values = (tt, tt);
        valued = number_valued;
        limit = refl;
      };
    }

-- so it can wherever that calls the procedure
inner_only :
    (input : List ℕ) (acts more : ℕ) (p : Point) (numbers : ℕ → ℕ) → IsBegun (local_block input acts) →
    IsAmong (local_block input acts) numbers p →
    IsOnly (surroundings_of (local_image input acts)) (local_callee more) p numbers local_declared
inner_only input acts more p numbers b o =
    only_among (local_block input acts) (local_callee more) local_declared p numbers numbers b o
    (first_only input acts more numbers)

inner_made :
    (input : List ℕ) (acts more : ℕ) (p : Point) (numbers : ℕ → ℕ) → IsBegun (local_block input acts) →
    IsAmong (local_block input acts) numbers p →
    AreMade (surroundings_of (local_image input acts)) (linked_code local_code) (local_callee more) p numbers
inner_made input acts more p numbers b o =
    one_made (surroundings_of (local_image input acts)) (linked_code local_code) (local_callee more) p numbers
    local_declared (inner_only input acts more p numbers b o)

abbrev inner_block : (input : List ℕ) → (acts more : ℕ) → Point → (numbers : ℕ → ℕ) → Block
inner_block input acts more p numbers =
    block_at (surroundings_of (local_image input acts)) (linked_code local_code) (local_callee more) p numbers

inner_system :
    (input : List ℕ) (acts more : ℕ) (p : Point) (numbers : ℕ → ℕ) (condition : Condition) →
    IsAmong (local_block input acts) numbers p →
    IsSystem (force (local_block input acts).first.state.activations condition) →
    IsSystem (force (inner_block input acts more p numbers).first.state.activations condition)
inner_system input acts more p numbers condition o h =
    subst (λ xs. IsSystem (force xs condition)) (sym o.later.activations) h

-- what it knows of both variables
record Known (input : List ℕ) (acts more : ℕ) (p : Point) (numbers : ℕ → ℕ) : Type 0 where
  begun : IsBegun (inner_block input acts more p numbers)
  outer : IsNumber (inner_block input acts more p numbers) outer_spot
  own : IsNumber (inner_block input acts more p numbers) local_spot

known :
    (input : List ℕ) (acts more : ℕ) (p : Point) (numbers : ℕ → ℕ) → IsBegun (local_block input acts) →
    IsAmong (local_block input acts) numbers p → IsBegun (inner_block input acts more p numbers) →
    Known input acts more p numbers
known input acts more p numbers b o b' =
    record {
      begun = b';
      outer = procedure_number (local_block input acts) (local_callee more) outer_spot
          (record {
            begun = b;
            level = refl;
            parent = refl;
            inner = refl;
            further = omega arith;
            few = omega arith;
            program = refl;
            parts = refl;
          }) (outer_number input acts) p numbers o (inner_made input acts more p numbers b o) b';
      own = procedure_own (surroundings_of (local_image input acts)) (linked_code local_code) (local_callee more) p
          numbers local_declared local_spot o.image.parts (inner_only input acts more p numbers b o)
          (record {
            initial = [];
            declared = refl;
            shape = refl;
            index = refl;
            level = refl;
            own = refl;
            place = refl;
          }) b';
    }

-- ---- its statements

abbrev last_index : ℕ
last_index = inner_start + size_of (stmt_code inner_environment none_taken inner_first)

first_is :
    (input : List ℕ) (acts more : ℕ) (p : Point) (numbers : ℕ → ℕ) → acts + 1 < 2 ^ 64 →
    Known input acts more p numbers →
    IsAssignment (inner_block input acts more p numbers) local_spot twice 4 inner_start 1 200
first_is input acts more p numbers few h =
    let n = linked_length (links_of local_code) 0 local_code in
    record {
      act = record { line_fits = omega arith; acts = few };
      begun = h.begun;
      number = h.own;
      registers = omega arith;
      held = omega arith;
      statement = front_of (stmt_code inner_environment none_taken inner_first)
          (stmts_code inner_environment none_taken inner_rest) inner_body_linked;
      paid = omega (arith, n);
    }

last_is :
    (input : List ℕ) (acts more : ℕ) (p : Point) (numbers : ℕ → ℕ) → acts + 1 < 2 ^ 64 →
    Known input acts more p numbers →
    IsAssignment (inner_block input acts more p numbers) outer_spot (Y.NumberIn (whole local_spot)) 5 last_index 0 200
last_is input acts more p numbers few h =
    let n = linked_length (links_of local_code) 0 local_code in
    record {
      act = record { line_fits = omega arith; acts = few };
      begun = h.begun;
      number = h.outer;
      registers = omega arith;
      held = omega arith;
      statement = front_of (stmt_code inner_environment none_taken inner_last) []
          (back_of (stmt_code inner_environment none_taken inner_first)
          (stmts_code inner_environment none_taken inner_rest) inner_body_linked);
      paid = omega (arith, n);
    }

inner_each :
    (input : List ℕ) (acts more : ℕ) (p : Point) (numbers : ℕ → ℕ) → acts + 1 < 2 ^ 64 →
    IsBegun (local_block input acts) → IsAmong (local_block input acts) numbers p →
    IsBegun (inner_block input acts more p numbers) →
    EachDoes (inner_block input acts more p numbers) [] inner_body (body_index (local_callee more)) left_over
inner_each input acts more p numbers few b o b' =
    let k = inner_block input acts more p numbers in
    let h = known input acts more p numbers b o b' in
    let four = setting_of k [] 4 200 in
    let over : OverflowComes four = overflow_ends four
    (record {
      routines = routines;
      overflow = inner_system input acts more p numbers C.FixedOverflow o tt;
      error = inner_system input acts more p numbers C.Error o tt;
      acts = few;
      most = omega arith;
    }) in
    let operand = variable_does four outer_spot b' h.outer in (
      assign_does k [] local_spot twice 4 inner_start left_over 1 200 (first_is input acts more p numbers few h)
          (sum_does four (Y.NumberIn (whole outer_spot)) (Y.NumberIn (whole outer_spot)) 0 0 over operand operand),
      (
        assign_does k [] outer_spot (Y.NumberIn (whole local_spot)) 5 last_index left_over 0 200
            (last_is input acts more p numbers few h)
            (variable_does (setting_of k [] 5 200) local_spot b' h.own),
        tt,
      ),
    )

-- ---- the call

rest_linked :
    Linked (links_of local_code) (linked_code local_code) call_index
    (stmts_code local_environment none_taken local_rest)
rest_linked =
    back_of (stmt_code local_environment none_taken local_first)
    (stmts_code local_environment none_taken local_rest) body_linked

call_linked :
    Linked (links_of local_code) (linked_code local_code) call_index
    (stmt_code local_environment none_taken local_call ++ stmts_code local_environment none_taken local_end)
call_linked = rest_of _ _ rest_linked

callee_is :
    (input : List ℕ) (acts more : ℕ) → acts + 1 < 2 ^ 64 →
    IsCallee (surroundings_of (local_image input acts)) (linked_code local_code) (local_callee more)
callee_is input acts more few =
    let one = act_code 7 in
    let given' = given_code (statement_at (local_block input acts) (local_callee more) 7 0
    (start_point (local_image input acts)) no_numbers) in
    let last = CallTo (ProcedureEntry 1) ∷ [] in
    let l = front_of (stmt_code local_environment none_taken local_call)
    (stmts_code local_environment none_taken local_end) call_linked in
    record {
      coded = record { level = omega arith; line = omega arith; saved = omega arith; back = omega arith };
      calls = back_of given' last (back_of one (given' ++ last) l);
      place = refl;
      stands = inner_linked;
      end = refl;
      kind = refl;
      labels = (λ label e. absurd (cc e), (λ label e. absurd (cc e), λ label e. absurd (cc e)));
      acts = few;
    }

calls_is :
    (input : List ℕ) (more : ℕ) → suc more + 1 < 2 ^ 64 →
    IsCall (local_block input (suc more)) (local_callee more) 7 call_index more
calls_is input more few =
    record {
      line_fits = omega arith;
      callee = callee_is input (suc more) more few;
      room = record { room = omega arith; shallow = refl; parent = (omega arith, refl); idle = refl };
      statement = front_of (stmt_code local_environment none_taken local_call)
          (stmts_code local_environment none_taken local_end) call_linked;
      call = refl;
      level = refl;
      parent = refl;
      found = refl;
      enter = refl;
      around = refl;
      enough = omega arith;
    }

call_by :
    (input : List ℕ) (acts : ℕ) → acts + 1 < 2 ^ 64 → IsBegun (local_block input acts) →
    Does (local_block input acts) (local_label ∷ []) local_call call_index left_over
call_by input zero few b =
    none_does (local_block input zero) (local_label ∷ []) local_call call_index left_over b refl
call_by input (suc more) few b =
    call_does (local_block input (suc more)) (local_callee more) 7 call_index left_over more (calls_is input more few)
    (λ p numbers o. inner_made input (suc more) more p numbers b o)
    (λ p numbers o b'. inner_each input (suc more) more p numbers few b o b') b (local_label ∷ [])

-- ---- the main procedure

abbrev back_index : ℕ
back_index = call_index + size_of (stmt_code local_environment none_taken local_call)

start_is :
    (input : List ℕ) (acts : ℕ) → acts + 1 < 2 ^ 64 → IsBegun (local_block input acts) →
    IsAssignment (local_block input acts) outer_spot (Y.NumberConstant 536870912) 6 local_start 0 200
start_is input acts few b =
    let n = linked_length (links_of local_code) 0 local_code in
    record {
      act = record { line_fits = omega arith; acts = few };
      begun = b;
      number = outer_number input acts;
      registers = omega arith;
      held = omega arith;
      statement = front_of (stmt_code local_environment none_taken local_first)
          (stmts_code local_environment none_taken local_rest) body_linked;
      paid = omega (arith, n);
    }

pub local_each :
    (input : List ℕ) (acts : ℕ) → acts + 1 < 2 ^ 64 → IsBegun (local_block input acts) →
    EachDoes (local_block input acts) (local_label ∷ []) local_body (body_index (main_of (local_whole input acts)))
    left_over
local_each input acts few b =
    let k = local_block input acts in
    let labels = local_label ∷ [] in (
      assign_does k labels outer_spot (Y.NumberConstant 536870912) 6 local_start left_over 0 200
          (start_is input acts few b) (constant_does (setting_of k labels 6 200) 536870912 (omega arith)),
      (
        call_by input acts few b,
        (
          goto_does k labels local_label 8 back_index left_over (record { line_fits = omega arith; acts = few })
              (record {
                begun = b;
                carried = refl;
                level = refl;
                block = refl;
                at = call_index;
                place = refl;
                near = omega arith;
              })
              (front_of (stmt_code local_environment none_taken local_back) []
              (back_of (stmt_code local_environment none_taken local_call)
              (stmts_code local_environment none_taken local_end) call_linked)),
          tt,
        ),
      ),
    )

-- ---- the whole

pub local_is : (input first : List ℕ) (acts : ℕ) → acts + 1 < 2 ^ 64 → length first ≡ memory_size →
    IsWhole (local_whole input acts) first
local_is input first acts few bytes =
    let l = back_of (first_frame image_parts) (main_called 0) start_linked in
    record {
      start = record { linked = start_linked; differ = one_differs; bytes = bytes; told = λ n v e. absurd (cc e) };
      made = one_made (surroundings_of (local_image input acts)) (linked_code local_code)
          (main_of (local_whole input acts)) (start_point (local_image input acts)) no_numbers W.number_declared
          (outer_only input acts);
      callee = record {
        coded = record { level = omega arith; line = omega arith; saved = omega arith; back = omega arith };
        calls = first_of (CallTo (ProcedureEntry 0)) _ (rest_of _ _ (rest_of _ _ (rest_of _ _ l)));
        place = refl;
        stands = main_linked;
        end = refl;
        kind = refl;
        labels = (
          λ label e. absurd (cc e),
          (
            one_label_stands (links_of local_code) call_index refl,
            (λ label e. absurd (cc e), λ label e. absurd (cc e)),
          ),
        );
        acts = few;
      };
      room = record { room = omega arith; shallow = refl; parent = tt; idle = refl };
      level = refl;
      procedures = refl;
      statics = refl;
    }

pub local_runs :
    Keeps run_keeper → (input first : List ℕ) (acts : ℕ) → acts + 1 < 2 ^ 64 → length first ≡ memory_size →
    Comes (linked_code local_code) 0 (first_family first (services_of (start_point (local_image input acts))))
    (services_of (start_point (local_image input acts))) (never_in (local_image input acts))
    (run local_program (suc acts) acts (first_state input))
local_runs keeps input first acts few bytes =
    program_runs keeps (local_whole input acts) first (local_is input first acts few bytes)
    (λ b. local_each input acts few b)

-- ---- what the program comes to

unfoldable flows : Unit {0}
unfolding F.give F.◌>>=◌ F.◌>>◌ F.looked F.stored F.act F.finish F.returns F.jumps F.choose F.given F.list_from
    F.leaving
flows = tt

unfoldable values : Unit {0}
unfolding V.number V.designated V.located V.numbers V.variable_designated V.part_designated V.stored_value R.or_error
    R.demanded R.value_of R.raised R.unit_run R.error R.error_unit_run P.element_stored M.assigned
values = tt

unfoldable calls : Unit {0}
unfolding V.called V.arguments V.all_passed_last V.procedure_entered V.returned K.variables_made K.automatic_made
    K.extents K.variable_made K.parameters_bound
calls = tt

unfoldable statements : Unit {0}
unfolding M.statement M.statements M.list M.list_with M.block_variables_made M.entry_act M.block_list M.block_body
statements = tt

pub local_ends :
    (input : List ℕ) →
    M.meaning local_program input 13
    ≡ Some (record {
      acts = 13;
      output = [];
      raised = (C.FixedOverflow, 20) ∷ (C.Error, 20) ∷ [];
      end = E.Error 20 4;
    })
unfolding M.meaning M.run M.entered M.block_run flows values calls statements
local_ends input = refl
