-- The worked row: all that is premised of the program is computed, and where the procedure is called it is known from
-- where the main one begins.
use Rattle.std.proofs.Common.{◌≡◌, ℕ, ℤ, zero, suc, ◌+◌, ◌-◌, ◌^◌, ◌<◌, List, [], ◌∷◌, ◌++◌, inl, length, map}
use Rattle.std.proofs.Common.{Some, None, true, refl, sym, ap, subst, arith}
use Rattle.rv_meaning.specs.Machine.{memory_size}
use Rattle.pli_language.specs.declared.condition.Condition.{Condition}
use Rattle.pli_language.specs.declared.condition.Condition.TheVariants as C
use Rattle.pli_typing.specs.TypedTree as Y
use Rattle.pli_meaning.specs.declared.outcome.End.TheVariants as E
use Rattle.pli_meaning.specs.Control as F
use Rattle.pli_meaning.specs.DeclaredShapes.{variables_of_block}
use Rattle.pli_meaning.specs.Evaluating as V
use Rattle.pli_meaning.specs.Executing as M
use Rattle.pli_meaning.specs.Executing.{entered, run}
use Rattle.pli_meaning.specs.Making as K
use Rattle.pli_meaning.specs.Numbers.{is_of_precision}
use Rattle.pli_meaning.specs.Placing as P
use Rattle.pli_meaning.specs.Raising as R
use Rattle.pli_meaning.specs.StorageState.{State, first_state, force}
use Rattle.area_keeper.specs.KeeperLaws.{Keeps}
use Rattle.run_keeper.specs.RunKeeper.{run_keeper}
use Rattle.pli_serving.specs.Templates.{template_of}
use Rattle.pli_coding.specs.Allocating.{act_code}
use Rattle.pli_coding.specs.Assembly.{CallTo, Mark, ProcedureEntry, ReturnPlace, size_of}
use Rattle.pli_coding.specs.Entries.{arguments_copied}
use Rattle.pli_coding.specs.Environments.{none_taken}
use Rattle.pli_coding.specs.Images.{first_frame, linked_code, raise_code}
use Rattle.pli_coding.specs.Linking.{links_of}
use Rattle.pli_coding.specs.SignatureTable.{table_of}
use Rattle.pli_coding.specs.Statements.{stmt_code, stmts_code}
use Rattle.storage_relation.specs.Served.{AllDiffer}
use Rattle.activation_relation.specs.Layers.{Layer, Point, services_of}
use Rattle.activation_relation.specs.ServiceLaws.{IsSystem}
use Rattle.activation_relation.specs.Variables.{grown}
use Rattle.run_steps.specs.Items.{Linked}
use Rattle.run_steps.proofs.Jumps.{back_of, first_of, front_of, rest_of}
use Rattle.run_steps.proofs.Linking.{has_items, linked_length}
use Rattle.run_steps.specs.Reach.{Comes}
use Rattle.program_runs.specs.Calls as G
use Rattle.program_runs.specs.Calls.{block_at, left_over}
use Rattle.program_runs.specs.Procedures.{begin_of, end_of, layer_for, procedure_code}
use Rattle.program_runs.specs.Programs.{IsWhole, Whole, main_of}
use Rattle.program_runs.specs.Rows.{row_head}
use Rattle.program_runs.specs.Starts.{first_family, image_parts, main_called, no_numbers, start_of, never_in}
use Rattle.program_runs.specs.Starts.{start_point, surroundings_of}
use Rattle.program_runs.specs.Statements.{Block, Does, EachDoes, IsAmong, IsBegun}
use Rattle.program_runs.specs.Variables as D
use Rattle.program_runs.specs.Variables.{IsOnly, newest_made}
use Rattle.program_runs.specs.VariableRows as W
use Rattle.program_runs.proofs.Gotos.{goto_does}
use Rattle.program_runs.proofs.Programs.{program_runs}
use Rattle.program_runs.proofs.Rows.{is_datum, names_none, none_named}
use Rattle.program_runs.proofs.Statements.{none_does}
use Rattle.program_runs.proofs.VariableProcedures.{one_made}
use Rattle.program_runs.proofs.VariableRows.{differs_alone, number_valued}
use Rattle.expression_runs.specs.Assignments.{IsAssignment, setting_of}
use Rattle.expression_runs.specs.Raises.{Routines}
use Rattle.expression_runs.specs.Values.{OverflowComes}
use Rattle.expression_runs.specs.Variables.{IsNumber, whole}
use Rattle.expression_runs.proofs.Assignments.{assign_does}
use Rattle.expression_runs.proofs.Operands.{constant_does}
use Rattle.expression_runs.proofs.Raises.{overflow_ends}
use Rattle.expression_runs.proofs.Rows.{one_label_stands}
use Rattle.expression_runs.proofs.Sums.{sum_does}
use Rattle.expression_runs.proofs.VariablePoints.{variable_does}
use Rattle.argument_runs.specs.CopyCalls.{Copying, HasRoomFor, IsCopyCall, IsCopying, body_index, call_at}
use Rattle.argument_runs.specs.CopyCalls.{copy_block, copying_code, listing_of, setting_for}
use Rattle.argument_runs.specs.CopyRows.{given_back, given_body, given_call, given_code, given_end, given_entry}
use Rattle.argument_runs.specs.CopyRows.{given_environment, given_first, given_image, given_inner, given_label}
use Rattle.argument_runs.specs.CopyRows.{given_main, given_procedure, given_program, given_rest, given_spot}
use Rattle.argument_runs.specs.CopyRows.{inner_body, inner_coded, inner_entry, inner_environment, inner_only}
use Rattle.argument_runs.specs.CopyRows.{main_coded, one_more, outer_spot, twice}
use Rattle.argument_runs.specs.Lists.{list_given, value_given}
use Rattle.argument_runs.specs.Parameters.{parameter, parameter_declared}
use Rattle.argument_runs.proofs.CopyCalls.{calling, copy_call_does, value_of}
use Rattle.argument_runs.proofs.CopyKnown.{outer_known, own_known}
use Rattle.argument_runs.proofs.Parameters.{parameter_does}

-- ---- its code

given_linked : Linked (links_of given_code) (linked_code given_code) 0 given_code
unfolding names_none is_datum
given_linked =
    let n = linked_length (links_of given_code) 0 given_code in
    record {
      small' = omega (arith, n);
      inside = omega (arith, n);
      has = has_items (links_of given_code) given_code refl;
      named = λ d h. absurd (none_named d given_code refl h);
    }

start_linked : Linked (links_of given_code) (linked_code given_code) 0 (start_of 0)
start_linked = front_of (start_of 0) (raise_code ++ (main_coded ++ inner_coded)) given_linked

raise_linked : Linked (links_of given_code) (linked_code given_code) (size_of (start_of 0)) raise_code
raise_linked =
    front_of raise_code (main_coded ++ inner_coded)
    (back_of (start_of 0) (raise_code ++ (main_coded ++ inner_coded)) given_linked)

both_linked : Linked (links_of given_code) (linked_code given_code) given_entry (main_coded ++ inner_coded)
both_linked =
    back_of raise_code (main_coded ++ inner_coded)
    (back_of (start_of 0) (raise_code ++ (main_coded ++ inner_coded)) given_linked)

main_linked :
    Linked (links_of given_code) (linked_code given_code) given_entry (procedure_code given_environment given_main)
main_linked =
    rest_of (Mark (ProcedureEntry 0)) (procedure_code given_environment given_main)
    (front_of main_coded inner_coded both_linked)

inner_linked :
    Linked (links_of given_code) (linked_code given_code) inner_entry (copying_code inner_environment given_inner)
inner_linked =
    rest_of (Mark (ProcedureEntry 1)) (copying_code inner_environment given_inner)
    (back_of main_coded inner_coded both_linked)

abbrev pub given_start : ℕ
given_start = given_entry + size_of (begin_of given_main) + size_of given_main.variables + size_of (act_code 1)

abbrev pub given_finish : ℕ
given_finish = given_start + size_of (stmts_code given_environment none_taken given_body)

abbrev inner_start : ℕ
inner_start =
    inner_entry + size_of (listing_of given_inner) + size_of (arguments_copied inner_environment (0 ∷ []))
    + size_of (act_code 2)

body_linked :
    Linked (links_of given_code) (linked_code given_code) given_start
    (stmts_code given_environment none_taken given_body)
body_linked =
    let one = act_code 1 in
    let body = stmts_code given_environment none_taken given_body in
    let tail = Mark (ReturnPlace 0) ∷ end_of given_main in
    let rest = one ++ (body ++ tail) in
    front_of body tail
    (back_of one (body ++ tail)
    (back_of given_main.variables rest (back_of (begin_of given_main) (given_main.variables ++ rest) main_linked)))

inner_body_linked :
    Linked (links_of given_code) (linked_code given_code) inner_start
    (stmts_code inner_environment none_taken inner_body)
inner_body_linked =
    let one = act_code 2 in
    let body = stmts_code inner_environment none_taken inner_body in
    let tail = Mark (ReturnPlace 1) ∷ end_of given_inner in
    let copies = arguments_copied inner_environment (0 ∷ []) in
    let rest = one ++ (body ++ tail) in
    front_of body tail
    (back_of one (body ++ tail)
    (back_of copies rest (back_of (listing_of given_inner) (copies ++ rest) inner_linked)))

-- ---- the main procedure's variable

one_differs : AllDiffer (map template_of (table_of given_program))
one_differs = differs_alone (map template_of (table_of given_program)) _ refl refl

abbrev pub given_whole : (input : List ℕ) → (acts : ℕ) → Whole
given_whole input acts =
    record {
      image = given_image input acts;
      program = given_program;
      main = given_main;
      others = given_procedure ∷ [];
      environment = given_environment;
      entry = given_entry;
      end = given_finish;
      made = newest_made image_parts W.number_declared;
    }

outer_only :
    (input : List ℕ) (acts : ℕ) →
    IsOnly (surroundings_of (given_image input acts)) (main_of (given_whole input acts))
    (start_point (given_image input acts)) no_numbers W.number_declared
outer_only input acts =
    let n = linked_length (links_of given_code) 0 given_code in
    record {
      kind = refl;
      variables = refl;
      class = refl;
      evaluations = refl;
      first = refl;
      code = refl;
      made = refl;
      table = refl;
      parts = refl;
      few = omega arith;
      declared = record {
        newest = refl;
        here = refl;
        holds = omega arith;
        size = omega arith;
        fits = omega arith;
        even = refl;
        low = omega (arith, n);
        shape = refl;
        number = omega arith;
        initial = refl;
        none = refl;
        plain = refl;
        fixed = refl;
        values = (tt, tt);
        valued = number_valued;
        limit = refl;
      };
    }

abbrev pub given_block : (input : List ℕ) → (acts : ℕ) → Block
given_block input acts =
    block_at (surroundings_of (given_image input acts)) (linked_code given_code) (main_of (given_whole input acts))
    (start_point (given_image input acts)) no_numbers

outer_number : (input : List ℕ) (acts : ℕ) → IsNumber (given_block input acts) outer_spot
outer_number input acts =
    record {
      initial = [];
      declared = refl;
      serial = 1;
      binding = refl;
      living = K.living_at 1 1 (D.generation_for W.number_declared);
      lives = refl;
      shape = refl;
      base = _;
      frame = inl (refl, refl);
      at = refl;
      low = omega arith;
      inside = omega arith;
    }

-- ---- the procedure inside

abbrev routines : Routines (links_of given_code) (linked_code given_code)
routines = record { at = size_of (start_of 0); linked = raise_linked; condition = refl; end = omega arith }

abbrev call_index : ℕ
call_index = given_start + size_of (stmt_code given_environment none_taken given_first)

abbrev pub given_callee : (more : ℕ) → Copying
given_callee more =
    record {
      procedure = given_inner;
      calling = record {
        parent = 1;
        call = call_index + size_of (stmt_code given_environment none_taken given_call) - 2;
        entry = inner_entry;
        end = inner_start + size_of (stmts_code inner_environment none_taken inner_body);
      };
      environment = inner_environment;
      around = record { program = given_program; enter = entered given_program more; turns = suc more; line = 0 };
      declared = parameter_declared;
      number = 0;
    }

-- the layer that calls it, the oldest
abbrev main_layer : (input : List ℕ) → (acts : ℕ) → Layer
main_layer input acts =
    let w = surroundings_of (given_image input acts) in
    let φ = layer_for w (start_point (given_image input acts)) no_numbers given_main
    (main_of (given_whole input acts)).calling in
    grown (D.made_of image_parts φ W.number_declared) φ

-- where the main procedure begins there is room for it
first_room :
    (input : List ℕ) (acts more : ℕ) →
    HasRoomFor (surroundings_of (given_image input acts)) (given_block input acts).first (given_callee more)
    (main_layer input acts) []
first_room input acts more =
    let n = linked_length (links_of given_code) 0 given_code in
    record {
      newest = refl;
      words = omega arith;
      waits = refl;
      room = omega arith;
      even = refl;
      shallow = refl;
      parent = (omega arith, refl);
      idle = refl;
      low = omega (arith, n);
      shape = refl;
      number = omega arith;
      limit = refl;
    }

rest_linked :
    Linked (links_of given_code) (linked_code given_code) call_index
    (stmts_code given_environment none_taken given_rest)
rest_linked =
    back_of (stmt_code given_environment none_taken given_first)
    (stmts_code given_environment none_taken given_rest) body_linked

call_linked :
    Linked (links_of given_code) (linked_code given_code) call_index
    (stmt_code given_environment none_taken given_call ++ stmts_code given_environment none_taken given_end)
call_linked = rest_of _ _ rest_linked

only_linked :
    Linked (links_of given_code) (linked_code given_code) call_index
    (stmt_code given_environment none_taken given_call)
only_linked =
    front_of (stmt_code given_environment none_taken given_call) (stmts_code given_environment none_taken given_end)
    call_linked

no_variables :
    (around : R.Around) (k : ℕ) (s : State) → around.program ≡ given_program →
    M.block_variables_made around (row_head 1 1 2) Y.ProcedureBlock k s ≡ F.Normal tt s
unfolding M.block_variables_made K.variables_made K.automatic_made F.give F.◌>>◌ F.◌>>=◌
no_variables around k s e =
    ap (λ y. K.variables_made around 0 (variables_of_block y 1) k s) e

callee_is :
    (input : List ℕ) (acts more : ℕ) → acts + 1 < 2 ^ 64 →
    IsCopying (surroundings_of (given_image input acts)) (linked_code given_code) (given_callee more)
callee_is input acts more few =
    let k = given_block input acts in
    let c = given_callee more in
    let given' = value_given ++ list_given in
    record {
      coded = record { level = omega arith; line = omega arith; saved = omega arith; back = omega arith };
      calls = back_of given' (calling c)
          (back_of (value_of k one_more) (given' ++ calling c)
          (back_of (act_code 6) (value_of k one_more ++ (given' ++ calling c)) only_linked));
      place = refl;
      stands = inner_linked;
      end = refl;
      kind = refl;
      labels = (λ label e. absurd (cc e), λ label e. absurd (cc e));
      acts = few;
      copied = λ z. record { copies = refl; number = refl; leaves = refl };
      variables = λ j s. no_variables (R.at_line c.around 2) j s refl;
    }

call_is :
    (input : List ℕ) (more : ℕ) → suc more + 1 < 2 ^ 64 → IsBegun (given_block input (suc more)) →
    IsCopyCall (given_block input (suc more)) (given_callee more) one_more (main_layer input (suc more)) [] 6 call_index
    1 200 more
call_is input more few b =
    let n = linked_length (links_of given_code) 0 given_code in
    record {
      act = record { line_fits = omega arith; acts = few };
      begun = b;
      callee = callee_is input (suc more) more few;
      room = first_room input (suc more) more;
      registers = omega arith;
      held = omega arith;
      statement = only_linked;
      call = refl;
      paid = omega (arith, n);
      few = omega arith;
      small = omega (arith, few);
      level = refl;
      parent = refl;
      found = refl;
      enter = refl;
      around = refl;
      enough = omega arith;
    }

-- ---- its statement

abbrev inner_block : (input : List ℕ) → (more : ℕ) → Point → (numbers : ℕ → ℕ) → ℤ → Block
inner_block input more p numbers z =
    copy_block None
    (call_at (given_block input (suc more)) (given_callee more) (main_layer input (suc more)) [] p numbers z)

inner_system :
    (input : List ℕ) (more : ℕ) (p : Point) (numbers : ℕ → ℕ) (z : ℤ) (condition : Condition) →
    IsAmong (given_block input (suc more)) numbers p →
    IsSystem (force (given_block input (suc more)).first.state.activations condition) →
    IsSystem (force (inner_block input more p numbers z).first.state.activations condition)
inner_system input more p numbers z condition o h =
    subst (λ xs. IsSystem (force xs condition)) (sym o.later.activations) h

only_is :
    (input : List ℕ) (more : ℕ) (p : Point) (numbers : ℕ → ℕ) (z : ℤ) → suc more + 1 < 2 ^ 64 →
    IsBegun (inner_block input more p numbers z) → IsNumber (inner_block input more p numbers z) outer_spot →
    IsAssignment (inner_block input more p numbers z) outer_spot twice 4 inner_start 1 200
only_is input more p numbers z few b outer =
    let n = linked_length (links_of given_code) 0 given_code in
    record {
      act = record { line_fits = omega arith; acts = few };
      begun = b;
      number = outer;
      registers = omega arith;
      held = omega arith;
      statement = front_of (stmt_code inner_environment none_taken inner_only) [] inner_body_linked;
      paid = omega (arith, n);
    }

inner_each :
    (input : List ℕ) (more : ℕ) (p : Point) (numbers : ℕ → ℕ) (z : ℤ) → suc more + 1 < 2 ^ 64 →
    IsBegun (given_block input (suc more)) → IsAmong (given_block input (suc more)) numbers p →
    is_of_precision 31 z ≡ true → IsBegun (inner_block input more p numbers z) →
    EachDoes (inner_block input more p numbers z) [] inner_body (body_index (given_callee more)) left_over
inner_each input more p numbers z few b o wide b' =
    let m = given_block input (suc more) in
    let c = given_callee more in
    let k = inner_block input more p numbers z in
    let is = call_is input more few b in
    let outer = outer_known m c one_more (main_layer input (suc more)) [] 6 call_index 1 200 more p numbers z outer_spot
    is o wide (record { inner = refl; further = omega arith; program = refl; parts = refl })
    (outer_number input (suc more)) b' in
    let own = own_known m c one_more (main_layer input (suc more)) [] 6 call_index 1 200 more p numbers z given_spot is
    o wide (record { declared = refl; first = refl; index = refl; level = refl; own = refl }) b' in
    let four = setting_of k [] 4 200 in
    let over : OverflowComes four = overflow_ends four
    (record {
      routines = routines;
      overflow = inner_system input more p numbers z C.FixedOverflow o tt;
      error = inner_system input more p numbers z C.Error o tt;
      acts = few;
      most = omega arith;
    }) in
    let operand = parameter_does four given_spot own in (
      assign_does k [] outer_spot twice 4 inner_start left_over 1 200 (only_is input more p numbers z few b' outer)
          (sum_does four (Y.NumberIn (parameter given_spot)) (Y.NumberIn (parameter given_spot)) 0 0 over operand
          operand),
      tt,
    )

-- ---- the call

call_by :
    (input : List ℕ) (acts : ℕ) → acts + 1 < 2 ^ 64 → IsBegun (given_block input acts) →
    Does (given_block input acts) (given_label ∷ []) given_call call_index left_over
call_by input zero few b =
    none_does (given_block input zero) (given_label ∷ []) given_call call_index left_over b refl
call_by input (suc more) few b =
    let k = given_block input (suc more) in
    let labels = given_label ∷ [] in
    let six = setting_for k labels 6 200 in
    let over : OverflowComes six = overflow_ends six
    (record { routines = routines; overflow = tt; error = tt; acts = few; most = omega arith }) in
    copy_call_does k (given_callee more) labels one_more (main_layer input (suc more)) [] 6 call_index left_over 1 200
    more (call_is input more few b)
    (sum_does six (Y.NumberIn (whole outer_spot)) (Y.NumberConstant 1) 0 0 over
    (variable_does six outer_spot b (outer_number input (suc more))) (constant_does six 1 (omega arith)))
    (λ p numbers z o wide b'. inner_each input more p numbers z few b o wide b')

-- ---- the main procedure

abbrev back_index : ℕ
back_index = call_index + size_of (stmt_code given_environment none_taken given_call)

start_is :
    (input : List ℕ) (acts : ℕ) → acts + 1 < 2 ^ 64 → IsBegun (given_block input acts) →
    IsAssignment (given_block input acts) outer_spot (Y.NumberConstant 536870911) 5 given_start 0 200
start_is input acts few b =
    let n = linked_length (links_of given_code) 0 given_code in
    record {
      act = record { line_fits = omega arith; acts = few };
      begun = b;
      number = outer_number input acts;
      registers = omega arith;
      held = omega arith;
      statement = front_of (stmt_code given_environment none_taken given_first)
          (stmts_code given_environment none_taken given_rest) body_linked;
      paid = omega (arith, n);
    }

pub given_each :
    (input : List ℕ) (acts : ℕ) → acts + 1 < 2 ^ 64 → IsBegun (given_block input acts) →
    EachDoes (given_block input acts) (given_label ∷ []) given_body (G.body_index (main_of (given_whole input acts)))
    left_over
given_each input acts few b =
    let k = given_block input acts in
    let labels = given_label ∷ [] in (
      assign_does k labels outer_spot (Y.NumberConstant 536870911) 5 given_start left_over 0 200
          (start_is input acts few b) (constant_does (setting_of k labels 5 200) 536870911 (omega arith)),
      (
        call_by input acts few b,
        (
          goto_does k labels given_label 7 back_index left_over (record { line_fits = omega arith; acts = few })
              (record {
                begun = b;
                carried = refl;
                level = refl;
                block = refl;
                at = call_index;
                place = refl;
                near = omega arith;
              })
              (front_of (stmt_code given_environment none_taken given_back) []
              (back_of (stmt_code given_environment none_taken given_call)
              (stmts_code given_environment none_taken given_end) call_linked)),
          tt,
        ),
      ),
    )

-- ---- the whole

pub given_is : (input first : List ℕ) (acts : ℕ) → acts + 1 < 2 ^ 64 → length first ≡ memory_size →
    IsWhole (given_whole input acts) first
given_is input first acts few bytes =
    let l = back_of (first_frame image_parts) (main_called 0) start_linked in
    record {
      start = record { linked = start_linked; differ = one_differs; bytes = bytes; told = λ n v e. absurd (cc e) };
      made = one_made (surroundings_of (given_image input acts)) (linked_code given_code)
          (main_of (given_whole input acts)) (start_point (given_image input acts)) no_numbers W.number_declared
          (outer_only input acts);
      callee = record {
        coded = record { level = omega arith; line = omega arith; saved = omega arith; back = omega arith };
        calls = first_of (CallTo (ProcedureEntry 0)) _ (rest_of _ _ (rest_of _ _ (rest_of _ _ l)));
        place = refl;
        stands = main_linked;
        end = refl;
        kind = refl;
        labels = (
          λ label e. absurd (cc e),
          (
            one_label_stands (links_of given_code) call_index refl,
            (λ label e. absurd (cc e), λ label e. absurd (cc e)),
          ),
        );
        acts = few;
      };
      room = record { room = omega arith; shallow = refl; parent = tt; idle = refl };
      level = refl;
      procedures = refl;
      statics = refl;
    }

pub given_runs :
    Keeps run_keeper → (input first : List ℕ) (acts : ℕ) → acts + 1 < 2 ^ 64 → length first ≡ memory_size →
    Comes (linked_code given_code) 0 (first_family first (services_of (start_point (given_image input acts))))
    (services_of (start_point (given_image input acts))) (never_in (given_image input acts))
    (run given_program (suc acts) acts (first_state input))
given_runs keeps input first acts few bytes =
    program_runs keeps (given_whole input acts) first (given_is input first acts few bytes)
    (λ b. given_each input acts few b)

-- ---- what the program comes to

unfoldable flows : Unit {0}
unfolding F.give F.◌>>=◌ F.◌>>◌ F.looked F.stored F.act F.finish F.returns F.jumps F.choose F.given F.list_from
    F.leaving
flows = tt

unfoldable values : Unit {0}
unfolding V.number V.designated V.located V.numbers V.variable_designated V.part_designated V.stored_value R.or_error
    R.demanded R.value_of R.raised R.unit_run R.error R.error_unit_run P.element_stored M.assigned
values = tt

unfoldable calls : Unit {0}
unfolding V.called V.arguments V.argument V.all_passed_last V.passed_last V.procedure_entered V.returned
    K.variables_made K.automatic_made K.extents K.variable_made K.parameters_bound K.parameter_bound
calls = tt

unfoldable statements : Unit {0}
unfolding M.statement M.statements M.list M.list_with M.block_variables_made M.entry_act M.block_list M.block_body
statements = tt

pub given_ends :
    (input : List ℕ) →
    M.meaning given_program input 12
    ≡ Some (record {
      acts = 12;
      output = [];
      raised = (C.FixedOverflow, 20) ∷ (C.Error, 20) ∷ [];
      end = E.Error 20 4;
    })
unfolding M.meaning M.run M.entered M.block_run flows values calls statements
given_ends input = refl
