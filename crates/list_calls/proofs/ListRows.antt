-- The worked row: all that is premised of the program is computed, and where the procedure is called it is known from
-- where the main one begins.
use Rattle.std.proofs.Common.{◌≡◌, ℕ, zero, suc, ◌+◌, ◌-◌, ◌^◌, ◌<◌, ◌≤◌, List, [], ◌∷◌, ◌++◌, inl, length, map}
use Rattle.std.proofs.Common.{None, Some, refl, sym, ap, subst, arith}
use Rattle.rv_meaning.specs.Machine.{memory_size}
use Rattle.pli_language.specs.declared.condition.Condition.{Condition}
use Rattle.pli_language.specs.declared.condition.Condition.TheVariants as C
use Rattle.pli_typing.specs.TypedTree as Y
use Rattle.pli_meaning.specs.declared.outcome.End.TheVariants as E
use Rattle.pli_meaning.specs.Control as F
use Rattle.pli_meaning.specs.DeclaredShapes.{variables_of_block}
use Rattle.pli_meaning.specs.Evaluating as V
use Rattle.pli_meaning.specs.Executing as M
use Rattle.pli_meaning.specs.Executing.{entered, run}
use Rattle.pli_meaning.specs.Making as K
use Rattle.pli_meaning.specs.Placing as P
use Rattle.pli_meaning.specs.Raising as R
use Rattle.pli_meaning.specs.StorageState.{State, ancestor, ancestor_at, first_state, force, height_of}
use Rattle.area_keeper.specs.KeeperLaws.{Keeps}
use Rattle.run_keeper.specs.RunKeeper.{run_keeper}
use Rattle.pli_serving.specs.Templates.{template_of}
use Rattle.pli_coding.specs.Allocating.{act_code}
use Rattle.pli_coding.specs.Assembly.{CallTo, Mark, ProcedureEntry, ReturnPlace, size_of}
use Rattle.pli_coding.specs.Entries.{arguments_copied}
use Rattle.pli_coding.specs.Environments.{none_taken}
use Rattle.pli_coding.specs.Images.{first_frame, linked_code, raise_code}
use Rattle.pli_coding.specs.Linking.{links_of}
use Rattle.pli_coding.specs.SignatureTable.{table_of}
use Rattle.pli_coding.specs.Statements.{stmt_code, stmts_code}
use Rattle.storage_relation.specs.Served.{AllDiffer}
use Rattle.activation_relation.specs.Layers.{Layer, Point, services_of}
use Rattle.activation_relation.specs.ServiceLaws.{IsSystem}
use Rattle.activation_relation.specs.Variables.{grown}
use Rattle.run_steps.specs.Items.{Linked}
use Rattle.run_steps.proofs.Jumps.{back_of, first_of, front_of, rest_of}
use Rattle.run_steps.proofs.Linking.{has_items, linked_length}
use Rattle.run_steps.specs.Reach.{Comes}
use Rattle.program_runs.specs.Calls as G
use Rattle.program_runs.specs.Calls.{block_at, left_over}
use Rattle.program_runs.specs.Procedures.{begin_of, end_of, layer_for, procedure_code}
use Rattle.program_runs.specs.Programs.{IsWhole, Whole, main_of}
use Rattle.program_runs.specs.Rows.{row_head}
use Rattle.program_runs.specs.Starts.{first_family, image_parts, main_called, no_numbers, start_of, never_in}
use Rattle.program_runs.specs.Starts.{start_point, surroundings_of}
use Rattle.program_runs.specs.Statements.{Block, Does, EachDoes, IsAmong, IsBegun}
use Rattle.program_runs.specs.Variables as D
use Rattle.program_runs.specs.Names.{named_of, newest_named}
use Rattle.program_runs.specs.Variables.{IsOnly, newest_made}
use Rattle.program_runs.specs.VariableRows as W
use Rattle.program_runs.proofs.Gotos.{goto_does}
use Rattle.program_runs.proofs.Programs.{program_runs}
use Rattle.program_runs.proofs.Rows.{is_datum, names_none, none_named}
use Rattle.program_runs.proofs.Statements.{none_does}
use Rattle.program_runs.proofs.Names.{one_named}
use Rattle.program_runs.proofs.VariableRows.{differs_alone, number_valued}
use Rattle.expression_runs.specs.Assignments.{IsAssignment, setting_around, setting_of}
use Rattle.expression_runs.specs.Raises.{Routines}
use Rattle.expression_runs.specs.Values.{OverflowComes}
use Rattle.expression_runs.specs.Variables.{IsNumber}
use Rattle.expression_runs.proofs.Assignments.{assign_does}
use Rattle.expression_runs.proofs.Operands.{constant_does}
use Rattle.expression_runs.proofs.Raises.{overflow_ends}
use Rattle.expression_runs.proofs.Rows.{one_label_stands}
use Rattle.expression_runs.proofs.Sums.{sum_does}
use Rattle.expression_runs.proofs.VariablePoints.{variable_does}
use Rattle.argument_runs.specs.Parameters.{IsParameter, parameter, parameter_declared}
use Rattle.argument_runs.proofs.Parameters.{parameter_does}
use Rattle.given_calls.specs.Given.{procedure_tail}
use Rattle.nested_calls.specs.Nested.{IsNested}
use Rattle.reference_runs.specs.ParameterAssignments as N
use Rattle.reference_runs.proofs.ParameterAssignments as T
use Rattle.word_runs.proofs.Words.{begun_telling, number_told}
use Rattle.list_calls.specs.Arguments.{ComeTo, setting_told}
use Rattle.list_calls.specs.ListCalls.{ArgumentsGive, HasSpace, IsDeclared, IsListedCall, Listed, PassesNone}
use Rattle.list_calls.specs.ListCalls.{called_with}
use Rattle.list_calls.specs.ListKnown.{AreStored, Begins}
use Rattle.list_calls.specs.ListRows.{first_spot, given_back, given_body, given_call, given_code, given_end}
use Rattle.list_calls.specs.ListRows.{given_entry, given_environment, given_first, given_image, given_inner}
use Rattle.list_calls.specs.ListRows.{given_label, given_main, given_procedure, given_program, given_rest}
use Rattle.list_calls.specs.ListRows.{given_taking, given_ways, inner_body, inner_code, inner_coded, inner_entry}
use Rattle.list_calls.specs.ListRows.{inner_environment, inner_only, listing_code, main_coded, outer_spot}
use Rattle.list_calls.specs.ListRows.{outer_value, second_spot, together}
use Rattle.list_calls.specs.Lists.{Passing, PassesCopy, PassesName, Told, name_told}
use Rattle.list_calls.specs.Passed.{IsNamed}
use Rattle.list_calls.specs.Taking.{AreBeside, HasParameters, IsTaking, Taking, body_index, bound_point, list_block}
use Rattle.list_calls.proofs.ListCalls.{come_copies, listed_call_does}
use Rattle.list_calls.proofs.ListCode.{given_list, giving_in, last_of}
use Rattle.list_calls.proofs.ListGiving.{come_many}
use Rattle.list_calls.proofs.ListKnown.{list_parameter, none_beside}
use Rattle.list_calls.proofs.VariablesPassed.{variables_passed}

-- ---- its code

given_linked : Linked (links_of given_code) (linked_code given_code) 0 given_code
unfolding names_none is_datum
given_linked =
    let n = linked_length (links_of given_code) 0 given_code in
    record {
      small' = omega (arith, n);
      inside = omega (arith, n);
      has = has_items (links_of given_code) given_code refl;
      named = λ d h. absurd (none_named d given_code refl h);
    }

start_linked : Linked (links_of given_code) (linked_code given_code) 0 (start_of 0)
start_linked = front_of (start_of 0) (raise_code ++ (main_coded ++ inner_coded)) given_linked

raise_linked : Linked (links_of given_code) (linked_code given_code) (size_of (start_of 0)) raise_code
raise_linked =
    front_of raise_code (main_coded ++ inner_coded)
    (back_of (start_of 0) (raise_code ++ (main_coded ++ inner_coded)) given_linked)

both_linked : Linked (links_of given_code) (linked_code given_code) given_entry (main_coded ++ inner_coded)
both_linked =
    back_of raise_code (main_coded ++ inner_coded)
    (back_of (start_of 0) (raise_code ++ (main_coded ++ inner_coded)) given_linked)

main_linked :
    Linked (links_of given_code) (linked_code given_code) given_entry (procedure_code given_environment given_main)
main_linked =
    rest_of (Mark (ProcedureEntry 0)) (procedure_code given_environment given_main)
    (front_of main_coded inner_coded both_linked)

inner_linked :
    Linked (links_of given_code) (linked_code given_code) inner_entry (inner_code)
inner_linked =
    rest_of (Mark (ProcedureEntry 1)) (inner_code)
    (back_of main_coded inner_coded both_linked)

abbrev pub given_start : ℕ
given_start = given_entry + size_of (begin_of given_main) + size_of given_main.variables + size_of (act_code 1)

abbrev pub given_finish : ℕ
given_finish = given_start + size_of (stmts_code given_environment none_taken given_body)

abbrev inner_start : ℕ
inner_start =
    inner_entry + size_of listing_code + size_of (arguments_copied inner_environment (0 ∷ 1 ∷ []))
    + size_of (act_code 2)

body_linked :
    Linked (links_of given_code) (linked_code given_code) given_start
    (stmts_code given_environment none_taken given_body)
body_linked =
    let one = act_code 1 in
    let body = stmts_code given_environment none_taken given_body in
    let tail = Mark (ReturnPlace 0) ∷ end_of given_main in
    let rest = one ++ (body ++ tail) in
    front_of body tail
    (back_of one (body ++ tail)
    (back_of given_main.variables rest (back_of (begin_of given_main) (given_main.variables ++ rest) main_linked)))

inner_body_linked :
    Linked (links_of given_code) (linked_code given_code) inner_start
    (stmts_code inner_environment none_taken inner_body)
inner_body_linked =
    let one = act_code 2 in
    let body = stmts_code inner_environment none_taken inner_body in
    let tail = procedure_tail given_inner in
    let copies = arguments_copied inner_environment (0 ∷ 1 ∷ []) in
    let rest = one ++ (body ++ tail) in
    front_of body tail
    (back_of one (body ++ tail)
    (back_of copies rest (back_of listing_code (copies ++ rest) inner_linked)))

-- ---- the main procedure's variable

one_differs : AllDiffer (map template_of (table_of given_program))
one_differs = differs_alone (map template_of (table_of given_program)) _ refl refl

abbrev pub given_whole : (input : List ℕ) → (acts : ℕ) → Whole
given_whole input acts =
    record {
      image = given_image input acts;
      program = given_program;
      main = given_main;
      others = given_procedure ∷ [];
      environment = given_environment;
      entry = given_entry;
      end = given_finish;
      made = newest_named image_parts W.number_declared;
    }

outer_only :
    (input : List ℕ) (acts : ℕ) →
    IsOnly (surroundings_of (given_image input acts))
    (record (main_of (given_whole input acts)) { made = newest_made image_parts W.number_declared })
    (start_point (given_image input acts)) no_numbers W.number_declared
outer_only input acts =
    let n = linked_length (links_of given_code) 0 given_code in
    record {
      kind = refl;
      variables = refl;
      class = refl;
      evaluations = refl;
      first = refl;
      code = refl;
      made = refl;
      table = refl;
      parts = refl;
      few = omega arith;
      declared = record {
        newest = refl;
        here = refl;
        holds = omega arith;
        size = omega arith;
        fits = omega arith;
        even = refl;
        low = omega (arith, n);
        shape = refl;
        number = omega arith;
        initial = refl;
        none = refl;
        plain = refl;
        fixed = refl;
        values = (tt, tt);
        valued = number_valued;
        limit = refl;
      };
    }

abbrev pub given_block : (input : List ℕ) → (acts : ℕ) → Block
given_block input acts =
    block_at (surroundings_of (given_image input acts)) (linked_code given_code) (main_of (given_whole input acts))
    (start_point (given_image input acts)) no_numbers

outer_number : (input : List ℕ) (acts : ℕ) → IsNumber (given_block input acts) outer_spot
outer_number input acts =
    record {
      initial = [];
      declared = refl;
      serial = 1;
      binding = refl;
      living = K.living_at 1 1 (D.generation_for W.number_declared);
      lives = refl;
      shape = refl;
      base = _;
      frame = inl (refl, refl);
      at = refl;
      low = omega arith;
      inside = omega arith;
    }

-- ---- the procedure inside

abbrev routines : Routines (links_of given_code) (linked_code given_code)
routines = record { at = size_of (start_of 0); linked = raise_linked; condition = refl; end = omega arith }

abbrev call_index : ℕ
call_index = given_start + size_of (stmt_code given_environment none_taken given_first)

abbrev pub given_callee : (more : ℕ) → Taking
given_callee more =
    given_taking
    (record {
      parent = 1;
      call = call_index + size_of (stmt_code given_environment none_taken given_call) - 2;
      entry = inner_entry;
      end = inner_start + size_of (stmts_code inner_environment none_taken inner_body);
    }) (record { program = given_program; enter = entered given_program more; turns = suc more; line = 0 })

-- the layer that calls it, the oldest
abbrev main_layer : (input : List ℕ) → (acts : ℕ) → Layer
main_layer input acts =
    let w = surroundings_of (given_image input acts) in
    let φ = layer_for w (start_point (given_image input acts)) no_numbers given_main
    (main_of (given_whole input acts)).calling in
    grown (named_of image_parts ((start_point (given_image input acts)).state.serials + 1) φ W.number_declared) φ

abbrev pub given_listed : (input : List ℕ) → (acts more : ℕ) → Listed
given_listed input acts more =
    record {
      callee = given_callee more;
      level = 0;
      ways = given_ways;
      words = 0;
      layer = main_layer input acts;
      others = [];
      made = λ q. q;
    }

-- where the main procedure begins there is room for it
first_space :
    (input : List ℕ) (acts more : ℕ) →
    HasSpace (surroundings_of (given_image input acts)) (given_block input acts).first (given_listed input acts more)
first_space input acts more =
    record {
      newest = refl;
      words = omega arith;
      near = omega arith;
      free = λ n v e. absurd (cc e);
      room = omega arith;
      even = refl;
      idle = refl;
      low = omega arith;
      numbered = (refl, omega arith, (refl, omega arith, tt));
    }

outer_named : (input : List ℕ) (acts : ℕ) → IsNamed (given_block input acts) outer_spot 1 0
unfolding outer_number
outer_named input acts =
    record {
      number = outer_number input acts;
      serial_is = refl;
      told = inl (refl, record { kind = refl; second = refl; low = refl; high = refl });
      table = refl;
      numbered = refl;
      small = omega arith;
      few = omega arith;
    }

outer_stored : (input : List ℕ) (acts : ℕ) → AreStored (given_block input acts).first given_ways
outer_stored input acts = (
  record {
    old = omega arith;
    living = K.living_at 1 1 (D.generation_for W.number_declared);
    lives = refl;
    shape = refl;
    numbered = refl;
    small = omega arith;
    number = omega arith;
    low = omega arith;
    inside = omega arith;
  },
  tt,
)

rest_linked :
    Linked (links_of given_code) (linked_code given_code) call_index
    (stmts_code given_environment none_taken given_rest)
rest_linked =
    back_of (stmt_code given_environment none_taken given_first)
    (stmts_code given_environment none_taken given_rest) body_linked

call_linked :
    Linked (links_of given_code) (linked_code given_code) call_index
    (stmt_code given_environment none_taken given_call ++ stmts_code given_environment none_taken given_end)
call_linked = rest_of _ _ rest_linked

only_linked :
    Linked (links_of given_code) (linked_code given_code) call_index
    (stmt_code given_environment none_taken given_call)
only_linked =
    front_of (stmt_code given_environment none_taken given_call) (stmts_code given_environment none_taken given_end)
    call_linked

no_variables :
    (around : R.Around) (k : ℕ) (s : State) → around.program ≡ given_program →
    M.block_variables_made around (row_head 1 1 2) Y.ProcedureBlock k s ≡ F.Normal tt s
unfolding M.block_variables_made K.variables_made K.automatic_made F.give F.◌>>◌ F.◌>>=◌
no_variables around k s e =
    ap (λ y. K.variables_made around 0 (variables_of_block y 1) k s) e

has_parameters : (more : ℕ) → HasParameters (given_callee more)
has_parameters more =
    record {
      taken = record { copies = refl; signed = (refl, refl, (refl, refl, tt)) };
      some = omega arith;
      few = omega arith;
      apart = (((λ e. omega (arith, e)), tt), (tt, tt));
    }

callee_is :
    (input : List ℕ) (acts more : ℕ) → acts + 1 < 2 ^ 64 →
    IsTaking (surroundings_of (given_image input acts)) (linked_code given_code) (given_callee more)
callee_is input acts more few =
    let k = setting_around 0 (given_block input acts) (given_label ∷ []) 6 400 in
    let u = given_listed input acts more in
    record {
      coded = record { level = omega arith; line = omega arith; saved = omega arith; back = omega arith };
      calls = back_of (giving_in (given_block input acts) u) (last_of u)
          (back_of (given_list k u 0) (giving_in (given_block input acts) u ++ last_of u)
          (back_of (act_code 6) (given_list k u 0 ++ (giving_in (given_block input acts) u ++ last_of u))
          only_linked));
      place = refl;
      stands = inner_linked;
      end = refl;
      kind = refl;
      labels = (λ label e. absurd (cc e), λ label e. absurd (cc e));
      acts = few;
      parameters = has_parameters more;
    }

main_nested : (input : List ℕ) (acts : ℕ) → IsNested (given_block input acts)
main_nested input acts =
    record {
      own = refl;
      few = omega arith;
      some = λ n less. some_by n less;
      same = λ outer n less high. same_by outer n less high;
    }
  where
    some_by : (n : ℕ) → n ≤ 0 → 0 < height_of (ancestor_at (given_block input acts).first.state n)
    some_by zero less = omega arith
    some_by (suc n) less = absurd (omega (arith, less))

    same_by :
        (outer n : ℕ) → n ≤ outer → outer ≤ 0 →
        ancestor (given_block input acts).first.state.activations
        (height_of (ancestor_at (given_block input acts).first.state outer)) n
        ≡ ancestor_at (given_block input acts).first.state n
    same_by zero zero less high = refl
    same_by zero (suc n) less high = absurd (omega (arith, less))
    same_by (suc outer) n less high = absurd (omega (arith, high))

declared_is :
    (input : List ℕ) (more : ℕ) → suc more + 1 < 2 ^ 64 → IsBegun (given_block input (suc more)) →
    IsDeclared (given_block input (suc more)) (given_listed input (suc more) more) more
declared_is input more few b =
    record {
      begun = b;
      many = refl;
      space = first_space input (suc more) more;
      small = omega (arith, few);
      nested = main_nested input (suc more);
      around_it = omega arith;
      inner = refl;
      parent = refl;
      enough = omega arith;
    }

call_is :
    (input : List ℕ) (more : ℕ) → suc more + 1 < 2 ^ 64 → IsBegun (given_block input (suc more)) →
    IsListedCall (given_block input (suc more)) (given_listed input (suc more) more) 6 call_index 1 400 more
call_is input more few b =
    let n = linked_length (links_of given_code) 0 given_code in
    record {
      act = record { line_fits = omega arith; acts = few };
      callee = callee_is input (suc more) more few;
      declared = declared_is input more few b;
      found = refl;
      enter = refl;
      around = refl;
      registers = omega arith;
      held = omega arith;
      statement = only_linked;
      call = refl;
      paid = omega (arith, n);
    }

passes : (input : List ℕ) (acts : ℕ) → PassesNone (given_block input acts).first given_ways
passes input acts = record { shallow = refl; limit = refl }

-- ---- its arguments

arguments_give :
    (input : List ℕ) (more : ℕ) → suc more + 1 < 2 ^ 64 → IsBegun (given_block input (suc more)) →
    ArgumentsGive (given_block input (suc more)) (given_listed input (suc more) more) (given_label ∷ []) 6 1 400
arguments_give input more few b =
    let k = given_block input (suc more) in
    let φ = main_layer input (suc more) in
    let setting = setting_around 0 k (given_label ∷ []) 6 400 in
    let told : Told = name_told 6 1 0 0 φ.waits in
    let inner = setting_told setting 12 told φ [] in
    let begun = begun_telling k φ [] told refl b in
    let over : OverflowComes inner = overflow_ends inner
    (record { routines = routines; overflow = tt; error = tt; acts = few; most = omega arith }) in (
      variables_passed setting outer_spot φ [] 1 0 b refl (outer_named input (suc more)),
      (
        sum_does inner outer_value (Y.NumberConstant 0) 0 0 over
            (variable_does inner outer_spot begun
            (number_told k φ [] told refl outer_spot (outer_number input (suc more))))
            (constant_does inner 0 (omega arith)),
        λ z wide. tt,
      ),
    )

-- ---- its statement

abbrev inner_block : (input : List ℕ) → (more : ℕ) → Point → (numbers : ℕ → ℕ) → List Passing → Block
inner_block input more p numbers ys =
    list_block None
    (called_with (given_block input (suc more)) (given_listed input (suc more) more) p numbers ys) (λ q. q)

-- it declares its parameters alone
beside_none :
    (input : List ℕ) (more : ℕ) (p : Point) (numbers : ℕ → ℕ) (ys : List Passing) →
    IsAmong (given_block input (suc more)) numbers p → ComeTo given_ways ys →
    AreBeside None (called_with (given_block input (suc more)) (given_listed input (suc more) more) p numbers ys)
    (λ q. q)
beside_none input more p numbers ys o come =
    let y = called_with (given_block input (suc more)) (given_listed input (suc more) more) p numbers ys in
    let n = come_many given_ways ys come in
    let m = come_copies given_ways ys come in
    none_beside None y refl (sym n) (omega (arith, m))
    (no_variables (R.at_line (given_callee more).around 2) (suc more) (bound_point None y).state refl)

begins :
    (input : List ℕ) (more : ℕ) (p : Point) (numbers : ℕ → ℕ) (ys : List Passing) → suc more + 1 < 2 ^ 64 →
    IsBegun (given_block input (suc more)) → IsAmong (given_block input (suc more)) numbers p →
    ComeTo given_ways ys → IsBegun (inner_block input more p numbers ys) →
    Begins None (given_block input (suc more)) (given_listed input (suc more) more) more p numbers ys
begins input more p numbers ys few b o come b' =
    record {
      declared = declared_is input more few b;
      coded = record { level = omega arith; line = omega arith; saved = omega arith; back = omega arith };
      parameters = has_parameters more;
      inner = record { code = refl; few = omega arith; program = refl; parts = refl };
      among = o;
      come = come;
      beside = beside_none input more p numbers ys o come;
      begun = b';
    }

inner_system :
    (input : List ℕ) (more : ℕ) (p : Point) (numbers : ℕ → ℕ) (ys : List Passing) (condition : Condition) →
    IsAmong (given_block input (suc more)) numbers p → ComeTo given_ways ys →
    IsSystem (force (given_block input (suc more)).first.state.activations condition) →
    IsSystem (force (inner_block input more p numbers ys).first.state.activations condition)
inner_system input more p numbers [] condition o come h = absurd come
inner_system input more p numbers (PassesCopy z ∷ ys) condition o come h = absurd come.0
inner_system input more p numbers (PassesName s n ∷ []) condition o come h = absurd come.1
inner_system input more p numbers (PassesName s n ∷ PassesName s' n' ∷ ys) condition o come h = absurd come.1.0
inner_system input more p numbers (PassesName s n ∷ PassesCopy z ∷ y ∷ ys) condition o come h = absurd come.1.1
inner_system input more p numbers (PassesName s n ∷ PassesCopy z ∷ []) condition o come h =
    subst (λ xs. IsSystem (force xs condition)) (sym o.later.activations) h

only_is :
    (input : List ℕ) (more : ℕ) (p : Point) (numbers : ℕ → ℕ) (ys : List Passing) → suc more + 1 < 2 ^ 64 →
    IsParameter (inner_block input more p numbers ys) first_spot →
    N.IsAssignment (inner_block input more p numbers ys) first_spot together 4 inner_start 1 200
only_is input more p numbers ys few own =
    let n = linked_length (links_of given_code) 0 given_code in
    record {
      act = record { line_fits = omega arith; acts = few };
      number = own;
      registers = omega arith;
      some = omega arith;
      held = omega arith;
      statement = front_of (stmt_code inner_environment none_taken inner_only) [] inner_body_linked;
      paid = omega (arith, n);
    }

inner_each :
    (input : List ℕ) (more : ℕ) (p : Point) (numbers : ℕ → ℕ) (ys : List Passing) → suc more + 1 < 2 ^ 64 →
    IsBegun (given_block input (suc more)) → IsAmong (given_block input (suc more)) numbers p →
    ComeTo given_ways ys → IsBegun (inner_block input more p numbers ys) →
    EachDoes (inner_block input more p numbers ys) [] inner_body (body_index (given_callee more)) left_over
inner_each input more p numbers ys few b o come b' =
    let k = inner_block input more p numbers ys in
    let begun = begins input more p numbers ys few b o come b' in
    let stored = outer_stored input (suc more) in
    let first = list_parameter None (given_block input (suc more)) (given_listed input (suc more) more) more p numbers ys
    0 first_spot begun (passes input (suc more)) stored
    (record {
      parameter = record { index = 0; declared = parameter_declared; number = 0 };
      there = refl;
      declared = refl;
      numbered = refl;
      index = refl;
      level = refl;
      own = refl;
    }) in
    let second = list_parameter None (given_block input (suc more)) (given_listed input (suc more) more) more p numbers
    ys 1 second_spot begun (passes input (suc more)) stored
    (record {
      parameter = record { index = 1; declared = parameter_declared; number = 0 };
      there = refl;
      declared = refl;
      numbered = refl;
      index = refl;
      level = refl;
      own = refl;
    }) in
    let four = setting_of k [] 4 200 in
    let over : OverflowComes four = overflow_ends four
    (record {
      routines = routines;
      overflow = inner_system input more p numbers ys C.FixedOverflow o come tt;
      error = inner_system input more p numbers ys C.Error o come tt;
      acts = few;
      most = omega arith;
    }) in (
      T.assign_does k [] first_spot together 4 inner_start left_over 1 200 (only_is input more p numbers ys few first)
          (sum_does four (Y.NumberIn (parameter first_spot)) (Y.NumberIn (parameter second_spot)) 0 0 over
          (parameter_does four first_spot first) (parameter_does four second_spot second)),
      tt,
    )

-- ---- the call

call_by :
    (input : List ℕ) (acts : ℕ) → acts + 1 < 2 ^ 64 → IsBegun (given_block input acts) →
    Does (given_block input acts) (given_label ∷ []) given_call call_index left_over
call_by input zero few b =
    none_does (given_block input zero) (given_label ∷ []) given_call call_index left_over b refl
call_by input (suc more) few b =
    listed_call_does (given_block input (suc more)) (given_listed input (suc more) more) (given_label ∷ []) 6 call_index
    left_over 1 400 more (call_is input more few b) (passes input (suc more)) (arguments_give input more few b)
    (λ p numbers ys o come. beside_none input more p numbers ys o come)
    (λ p numbers ys o come b'. inner_each input more p numbers ys few b o come b')

-- ---- the main procedure

abbrev back_index : ℕ
back_index = call_index + size_of (stmt_code given_environment none_taken given_call)

start_is :
    (input : List ℕ) (acts : ℕ) → acts + 1 < 2 ^ 64 → IsBegun (given_block input acts) →
    IsAssignment (given_block input acts) outer_spot (Y.NumberConstant 536870912) 5 given_start 0 200
start_is input acts few b =
    let n = linked_length (links_of given_code) 0 given_code in
    record {
      act = record { line_fits = omega arith; acts = few };
      begun = b;
      number = outer_number input acts;
      registers = omega arith;
      held = omega arith;
      statement = front_of (stmt_code given_environment none_taken given_first)
          (stmts_code given_environment none_taken given_rest) body_linked;
      paid = omega (arith, n);
    }

pub given_each :
    (input : List ℕ) (acts : ℕ) → acts + 1 < 2 ^ 64 → IsBegun (given_block input acts) →
    EachDoes (given_block input acts) (given_label ∷ []) given_body
    (G.body_index (main_of (given_whole input acts))) left_over
given_each input acts few b =
    let k = given_block input acts in
    let labels = given_label ∷ [] in (
      assign_does k labels outer_spot (Y.NumberConstant 536870912) 5 given_start left_over 0 200
          (start_is input acts few b) (constant_does (setting_of k labels 5 200) 536870912 (omega arith)),
      (
        call_by input acts few b,
        (
          goto_does k labels given_label 7 back_index left_over (record { line_fits = omega arith; acts = few })
              (record {
                begun = b;
                carried = refl;
                level = refl;
                block = refl;
                at = call_index;
                place = refl;
                near = omega arith;
              })
              (front_of (stmt_code given_environment none_taken given_back) []
              (back_of (stmt_code given_environment none_taken given_call)
              (stmts_code given_environment none_taken given_end) call_linked)),
          tt,
        ),
      ),
    )

-- ---- the whole

pub given_is : (input first : List ℕ) (acts : ℕ) → acts + 1 < 2 ^ 64 → length first ≡ memory_size →
    IsWhole (given_whole input acts) first
given_is input first acts few bytes =
    let l = back_of (first_frame image_parts) (main_called 0) start_linked in
    record {
      start = record { linked = start_linked; differ = one_differs; bytes = bytes; told = λ n v e. absurd (cc e) };
      made = one_named (surroundings_of (given_image input acts)) (linked_code given_code)
          (main_of (given_whole input acts)) (start_point (given_image input acts)) no_numbers W.number_declared
          (record { only = outer_only input acts; made = refl; serial = omega arith });
      callee = record {
        coded = record { level = omega arith; line = omega arith; saved = omega arith; back = omega arith };
        calls = first_of (CallTo (ProcedureEntry 0)) _ (rest_of _ _ (rest_of _ _ (rest_of _ _ l)));
        place = refl;
        stands = main_linked;
        end = refl;
        kind = refl;
        labels = (
          λ label e. absurd (cc e),
          (
            one_label_stands (links_of given_code) call_index refl,
            (λ label e. absurd (cc e), λ label e. absurd (cc e)),
          ),
        );
        acts = few;
      };
      room = record { room = omega arith; shallow = refl; parent = tt; idle = refl };
      level = refl;
      procedures = refl;
      statics = refl;
    }

pub given_runs :
    Keeps run_keeper → (input first : List ℕ) (acts : ℕ) → acts + 1 < 2 ^ 64 → length first ≡ memory_size →
    Comes (linked_code given_code) 0 (first_family first (services_of (start_point (given_image input acts))))
    (services_of (start_point (given_image input acts))) (never_in (given_image input acts))
    (run given_program (suc acts) acts (first_state input))
given_runs keeps input first acts few bytes =
    program_runs keeps (given_whole input acts) first (given_is input first acts few bytes)
    (λ b. given_each input acts few b)

-- ---- what the program comes to

unfoldable flows : Unit {0}
unfolding F.give F.◌>>=◌ F.◌>>◌ F.looked F.stored F.act F.finish F.returns F.jumps F.choose F.given F.list_from
    F.leaving
flows = tt

unfoldable values : Unit {0}
unfolding V.number V.designated V.located V.numbers V.variable_designated V.part_designated V.stored_value R.or_error
    R.demanded R.value_of R.raised R.unit_run R.error R.error_unit_run P.element_stored M.assigned
values = tt

unfoldable calls : Unit {0}
unfolding V.called V.arguments V.argument V.all_passed_last V.passed_last V.procedure_entered V.returned
    K.variables_made K.automatic_made K.extents K.variable_made K.parameters_bound K.parameter_bound
calls = tt

unfoldable statements : Unit {0}
unfolding M.statement M.statements M.list M.list_with M.block_variables_made M.entry_act M.block_list M.block_body
statements = tt

pub given_ends :
    (input : List ℕ) →
    M.meaning given_program input 12
    ≡ Some (record {
      acts = 12;
      output = [];
      raised = (C.FixedOverflow, 20) ∷ (C.Error, 20) ∷ [];
      end = E.Error 20 4;
    })
unfolding M.meaning M.run M.entered M.block_run flows values calls statements
given_ends input = refl
