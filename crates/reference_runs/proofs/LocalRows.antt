-- The worked row: all that is premised of the program is computed, and where the procedure is called it is known from
-- where the main one begins.
use Rattle.std.proofs.Common.{◌≡◌, ℕ, zero, suc, ◌+◌, ◌-◌, ◌^◌, ◌<◌, List, [], ◌∷◌, ◌++◌, inl, length, map}
use Rattle.std.proofs.Common.{Some, refl, sym, subst, arith}
use Rattle.rv_meaning.specs.Machine.{memory_size}
use Rattle.pli_language.specs.declared.condition.Condition.{Condition}
use Rattle.pli_language.specs.declared.condition.Condition.TheVariants as C
use Rattle.pli_typing.specs.TypedTree as Y
use Rattle.pli_meaning.specs.declared.outcome.End.TheVariants as E
use Rattle.pli_meaning.specs.Control as F
use Rattle.pli_meaning.specs.Evaluating as V
use Rattle.pli_meaning.specs.Executing as M
use Rattle.pli_meaning.specs.Executing.{entered, run}
use Rattle.pli_meaning.specs.Making as K
use Rattle.pli_meaning.specs.Placing as P
use Rattle.pli_meaning.specs.Raising as R
use Rattle.pli_meaning.specs.StorageState.{first_state, force}
use Rattle.area_keeper.specs.KeeperLaws.{Keeps}
use Rattle.run_keeper.specs.RunKeeper.{run_keeper}
use Rattle.pli_serving.specs.Templates.{template_of}
use Rattle.pli_coding.specs.Allocating.{act_code}
use Rattle.pli_coding.specs.Assembly.{CallTo, Mark, ProcedureEntry, ReturnPlace, size_of}
use Rattle.pli_coding.specs.Entries.{arguments_copied}
use Rattle.pli_coding.specs.Environments.{none_taken}
use Rattle.pli_coding.specs.Images.{first_frame, linked_code, raise_code}
use Rattle.pli_coding.specs.Linking.{links_of}
use Rattle.pli_coding.specs.SignatureTable.{table_of}
use Rattle.pli_coding.specs.Statements.{stmt_code, stmts_code}
use Rattle.storage_relation.specs.Served.{AllDiffer}
use Rattle.activation_relation.specs.Layers.{Layer, Point, services_of}
use Rattle.activation_relation.specs.ServiceLaws.{IsSystem}
use Rattle.activation_relation.specs.Variables.{grown}
use Rattle.run_steps.specs.Items.{Linked}
use Rattle.run_steps.proofs.Jumps.{back_of, first_of, front_of, rest_of}
use Rattle.run_steps.proofs.Linking.{has_items, linked_length}
use Rattle.run_steps.specs.Reach.{Comes}
use Rattle.program_runs.specs.Calls as G
use Rattle.program_runs.specs.Calls.{block_at, left_over}
use Rattle.program_runs.specs.Procedures.{begin_of, end_of, layer_for, procedure_code}
use Rattle.program_runs.specs.Programs.{IsWhole, Whole, main_of}
use Rattle.program_runs.specs.Starts.{first_family, image_parts, main_called, no_numbers, start_of, never_in}
use Rattle.program_runs.specs.Starts.{start_point, surroundings_of}
use Rattle.program_runs.specs.Statements.{Block, Does, EachDoes, IsAmong, IsBegun}
use Rattle.program_runs.specs.Variables as D
use Rattle.program_runs.specs.Names.{named_of, newest_named}
use Rattle.program_runs.specs.Variables.{IsOnly, newest_made}
use Rattle.program_runs.specs.VariableRows as W
use Rattle.program_runs.proofs.Gotos.{goto_does}
use Rattle.program_runs.proofs.Programs.{program_runs}
use Rattle.program_runs.proofs.Rows.{is_datum, names_none, none_named}
use Rattle.program_runs.proofs.Statements.{none_does}
use Rattle.program_runs.proofs.Names.{one_named}
use Rattle.program_runs.proofs.VariableRows.{differs_alone, number_valued}
use Rattle.expression_runs.specs.Assignments.{IsAssignment, setting_of}
use Rattle.expression_runs.specs.Raises.{Routines}
use Rattle.expression_runs.specs.Values.{OverflowComes}
use Rattle.expression_runs.specs.Variables.{IsNumber, whole}
use Rattle.expression_runs.proofs.Assignments.{assign_does}
use Rattle.expression_runs.proofs.Operands.{constant_does}
use Rattle.expression_runs.proofs.Raises.{overflow_ends}
use Rattle.expression_runs.proofs.Rows.{one_label_stands}
use Rattle.expression_runs.proofs.Sums.{sum_does}
use Rattle.expression_runs.proofs.VariablePoints.{variable_does}
use Rattle.argument_runs.specs.CopyCalls.{listing_of}
use Rattle.argument_runs.specs.Lists.{list_given}
use Rattle.argument_runs.specs.Parameters.{IsParameter, parameter, parameter_declared}
use Rattle.argument_runs.proofs.Parameters.{parameter_does}
use Rattle.reference_runs.specs.LocalVariables.{IsLocalFirst}
use Rattle.reference_runs.specs.ParameterAssignments as N
use Rattle.reference_runs.specs.Receivers.{HasRoomFor, IsReceiver, Receiver, body_index}
use Rattle.reference_runs.specs.Receivers.{receiving_code, reference_block}
use Rattle.reference_runs.specs.ReferenceCalls.{IsNamed, IsReferenceCall, MadeWhere, call_at}
use Rattle.reference_runs.specs.LocalRows.{inner_body, inner_coded, inner_entry, inner_environment, inner_first}
use Rattle.reference_runs.specs.LocalRows.{main_coded, outer_spot, kept_back, kept_body, kept_call}
use Rattle.reference_runs.specs.LocalRows.{inner_rest, inner_second, local_declared, local_spot, kept_code}
use Rattle.reference_runs.specs.LocalRows.{kept_end, kept_entry, kept_environment, kept_first, kept_image}
use Rattle.reference_runs.specs.LocalRows.{kept_inner, kept_label, kept_main, kept_procedure}
use Rattle.reference_runs.specs.LocalRows.{kept_program}
use Rattle.reference_runs.specs.LocalRows.{kept_rest, kept_spot, twice}
use Rattle.reference_runs.specs.References.{Reference, reference_given}
use Rattle.reference_runs.proofs.LocalVariables.{local_number, local_where}
use Rattle.reference_runs.proofs.ParameterAssignments as T
use Rattle.reference_runs.proofs.ReferenceCalls.{reference_call_does}
use Rattle.reference_runs.proofs.ReferenceCode.{calling}
use Rattle.reference_runs.proofs.ReferencesKnown.{own_known}

-- ---- its code

kept_linked : Linked (links_of kept_code) (linked_code kept_code) 0 kept_code
unfolding names_none is_datum
kept_linked =
    let n = linked_length (links_of kept_code) 0 kept_code in
    record {
      small' = omega (arith, n);
      inside = omega (arith, n);
      has = has_items (links_of kept_code) kept_code refl;
      named = λ d h. absurd (none_named d kept_code refl h);
    }

start_linked : Linked (links_of kept_code) (linked_code kept_code) 0 (start_of 0)
start_linked = front_of (start_of 0) (raise_code ++ (main_coded ++ inner_coded)) kept_linked

raise_linked : Linked (links_of kept_code) (linked_code kept_code) (size_of (start_of 0)) raise_code
raise_linked =
    front_of raise_code (main_coded ++ inner_coded)
    (back_of (start_of 0) (raise_code ++ (main_coded ++ inner_coded)) kept_linked)

both_linked : Linked (links_of kept_code) (linked_code kept_code) kept_entry (main_coded ++ inner_coded)
both_linked =
    back_of raise_code (main_coded ++ inner_coded)
    (back_of (start_of 0) (raise_code ++ (main_coded ++ inner_coded)) kept_linked)

main_linked :
    Linked (links_of kept_code) (linked_code kept_code) kept_entry (procedure_code kept_environment kept_main)
main_linked =
    rest_of (Mark (ProcedureEntry 0)) (procedure_code kept_environment kept_main)
    (front_of main_coded inner_coded both_linked)

inner_linked :
    Linked (links_of kept_code) (linked_code kept_code) inner_entry (receiving_code inner_environment kept_inner)
inner_linked =
    rest_of (Mark (ProcedureEntry 1)) (receiving_code inner_environment kept_inner)
    (back_of main_coded inner_coded both_linked)

abbrev pub kept_start : ℕ
kept_start = kept_entry + size_of (begin_of kept_main) + size_of kept_main.variables + size_of (act_code 1)

abbrev pub kept_finish : ℕ
kept_finish = kept_start + size_of (stmts_code kept_environment none_taken kept_body)

abbrev inner_start : ℕ
inner_start =
    inner_entry + size_of (listing_of kept_inner) + size_of (arguments_copied inner_environment (0 ∷ []))
    + size_of kept_inner.variables + size_of (act_code 2)

body_linked :
    Linked (links_of kept_code) (linked_code kept_code) kept_start
    (stmts_code kept_environment none_taken kept_body)
body_linked =
    let one = act_code 1 in
    let body = stmts_code kept_environment none_taken kept_body in
    let tail = Mark (ReturnPlace 0) ∷ end_of kept_main in
    let rest = one ++ (body ++ tail) in
    front_of body tail
    (back_of one (body ++ tail)
    (back_of kept_main.variables rest (back_of (begin_of kept_main) (kept_main.variables ++ rest) main_linked)))

inner_body_linked :
    Linked (links_of kept_code) (linked_code kept_code) inner_start
    (stmts_code inner_environment none_taken inner_body)
inner_body_linked =
    let one = act_code 2 in
    let body = stmts_code inner_environment none_taken inner_body in
    let tail = Mark (ReturnPlace 1) ∷ end_of kept_inner in
    let copies = arguments_copied inner_environment (0 ∷ []) in
    let rest = one ++ (body ++ tail) in
    let made = kept_inner.variables in
    front_of body tail
    (back_of one (body ++ tail)
    (back_of made rest
    (back_of copies (made ++ rest) (back_of (listing_of kept_inner) (copies ++ (made ++ rest)) inner_linked))))

-- ---- the main procedure's variable

one_differs : AllDiffer (map template_of (table_of kept_program))
one_differs = differs_alone (map template_of (table_of kept_program)) _ refl refl

abbrev pub kept_whole : (input : List ℕ) → (acts : ℕ) → Whole
kept_whole input acts =
    record {
      image = kept_image input acts;
      program = kept_program;
      main = kept_main;
      others = kept_procedure ∷ [];
      environment = kept_environment;
      entry = kept_entry;
      end = kept_finish;
      made = newest_named image_parts W.number_declared;
    }

outer_only :
    (input : List ℕ) (acts : ℕ) →
    IsOnly (surroundings_of (kept_image input acts))
    (record (main_of (kept_whole input acts)) { made = newest_made image_parts W.number_declared })
    (start_point (kept_image input acts)) no_numbers W.number_declared
outer_only input acts =
    let n = linked_length (links_of kept_code) 0 kept_code in
    record {
      kind = refl;
      variables = refl;
      class = refl;
      evaluations = refl;
      first = refl;
      code = refl;
      made = refl;
      table = refl;
      parts = refl;
      few = omega arith;
      declared = record {
        newest = refl;
        here = refl;
        holds = omega arith;
        size = omega arith;
        fits = omega arith;
        even = refl;
        low = omega (arith, n);
        shape = refl;
        number = omega arith;
        initial = refl;
        none = refl;
        plain = refl;
        fixed = refl;
        values = (tt, tt);
        valued = number_valued;
        limit = refl;
      };
    }

abbrev pub kept_block : (input : List ℕ) → (acts : ℕ) → Block
kept_block input acts =
    block_at (surroundings_of (kept_image input acts)) (linked_code kept_code) (main_of (kept_whole input acts))
    (start_point (kept_image input acts)) no_numbers

outer_number : (input : List ℕ) (acts : ℕ) → IsNumber (kept_block input acts) outer_spot
outer_number input acts =
    record {
      initial = [];
      declared = refl;
      serial = 1;
      binding = refl;
      living = K.living_at 1 1 (D.generation_for W.number_declared);
      lives = refl;
      shape = refl;
      base = _;
      frame = inl (refl, refl);
      at = refl;
      low = omega arith;
      inside = omega arith;
    }

-- ---- the procedure inside

abbrev routines : Routines (links_of kept_code) (linked_code kept_code)
routines = record { at = size_of (start_of 0); linked = raise_linked; condition = refl; end = omega arith }

abbrev call_index : ℕ
call_index = kept_start + size_of (stmt_code kept_environment none_taken kept_first)

abbrev pub kept_callee : (more : ℕ) → Receiver
kept_callee more =
    record {
      procedure = kept_inner;
      calling = record {
        parent = 1;
        call = call_index + size_of (stmt_code kept_environment none_taken kept_call) - 2;
        entry = inner_entry;
        end = inner_start + size_of (stmts_code inner_environment none_taken inner_body);
      };
      environment = inner_environment;
      around = record { program = kept_program; enter = entered kept_program more; turns = suc more; line = 0 };
      declared = parameter_declared;
      number = 0;
      made = newest_made image_parts local_declared;
    }

-- what is passed: the one variable, by the first signature of the table
abbrev pub kept_reference : Reference
kept_reference = record { serial = 1; signature = 0; place = W.number_declared.place }

-- the layer that calls it, the oldest
abbrev main_layer : (input : List ℕ) → (acts : ℕ) → Layer
main_layer input acts =
    let w = surroundings_of (kept_image input acts) in
    let φ = layer_for w (start_point (kept_image input acts)) no_numbers kept_main
    (main_of (kept_whole input acts)).calling in
    grown (named_of image_parts ((start_point (kept_image input acts)).state.serials + 1) φ W.number_declared) φ

-- where the main procedure begins there is room for it
first_room :
    (input : List ℕ) (acts more : ℕ) →
    HasRoomFor (surroundings_of (kept_image input acts)) (kept_block input acts).first (kept_callee more)
    (main_layer input acts) []
first_room input acts more =
    record {
      newest = refl;
      words = omega arith;
      waits = refl;
      room = omega arith;
      shallow = refl;
      parent = (omega arith, refl);
      idle = refl;
    }

outer_named :
    (input : List ℕ) (acts : ℕ) →
    IsNamed (kept_block input acts) outer_spot (main_layer input acts) [] kept_reference
unfolding outer_number
outer_named input acts =
    record {
      number = outer_number input acts;
      own = refl;
      serial = refl;
      place = refl;
      table = refl;
      referred = record {
        newest = refl;
        words = omega arith;
        told = record { kind = refl; second = refl; low = refl; high = refl };
        living = K.living_at 1 1 (D.generation_for W.number_declared);
        lives = refl;
        shape = refl;
        numbered = refl;
        small = omega arith;
        serial = omega arith;
      };
    }

rest_linked :
    Linked (links_of kept_code) (linked_code kept_code) call_index
    (stmts_code kept_environment none_taken kept_rest)
rest_linked =
    back_of (stmt_code kept_environment none_taken kept_first)
    (stmts_code kept_environment none_taken kept_rest) body_linked

call_linked :
    Linked (links_of kept_code) (linked_code kept_code) call_index
    (stmt_code kept_environment none_taken kept_call ++ stmts_code kept_environment none_taken kept_end)
call_linked = rest_of _ _ rest_linked

only_linked :
    Linked (links_of kept_code) (linked_code kept_code) call_index
    (stmt_code kept_environment none_taken kept_call)
only_linked =
    front_of (stmt_code kept_environment none_taken kept_call) (stmts_code kept_environment none_taken kept_end)
    call_linked

callee_is :
    (input : List ℕ) (acts more : ℕ) → acts + 1 < 2 ^ 64 →
    IsReceiver (surroundings_of (kept_image input acts)) (linked_code kept_code) (kept_callee more)
callee_is input acts more few =
    let given' = reference_given kept_reference.place kept_reference.signature ++ list_given in
    record {
      coded = record { level = omega arith; line = omega arith; saved = omega arith; back = omega arith };
      calls = back_of given' (calling (kept_callee more))
          (back_of (act_code 7) (given' ++ calling (kept_callee more)) only_linked);
      place = refl;
      stands = inner_linked;
      end = refl;
      kind = refl;
      labels = (λ label e. absurd (cc e), (λ label e. absurd (cc e), λ label e. absurd (cc e)));
      acts = few;
      copied = record { copies = refl; number = refl; leaves = refl };
    }

call_is :
    (input : List ℕ) (more : ℕ) → suc more + 1 < 2 ^ 64 → IsBegun (kept_block input (suc more)) →
    IsReferenceCall (kept_block input (suc more)) (kept_callee more) outer_spot kept_reference
    (main_layer input (suc more)) [] 7 call_index more
call_is input more few b =
    record {
      act = record { line_fits = omega arith; acts = few };
      begun = b;
      callee = callee_is input (suc more) more few;
      room = first_room input (suc more) more;
      named = outer_named input (suc more);
      statement = only_linked;
      call = refl;
      level = refl;
      parent = refl;
      found = refl;
      enter = refl;
      around = refl;
      enough = omega arith;
    }

-- it makes its variable, as it would where the main procedure begins
local_first :
    (input : List ℕ) (more : ℕ) →
    IsLocalFirst (kept_block input (suc more)) (kept_callee more) kept_reference (main_layer input (suc more)) []
    no_numbers local_declared
local_first input more =
    let n = linked_length (links_of kept_code) 0 kept_code in
    record {
      kind = refl;
      parameter = parameter_declared;
      passed = refl;
      variables = refl;
      class = refl;
      evaluations = refl;
      second = refl;
      code = refl;
      made = refl;
      table = refl;
      parts = refl;
      few = omega arith;
      declared = record {
        newest = refl;
        here = refl;
        holds = omega arith;
        size = omega arith;
        fits = omega arith;
        even = refl;
        low = omega (arith, n);
        shape = refl;
        number = omega arith;
        initial = refl;
        none = refl;
        plain = refl;
        fixed = refl;
        values = (tt, tt);
        valued = number_valued;
        limit = refl;
      };
    }

made_where :
    (input : List ℕ) (more : ℕ) → suc more + 1 < 2 ^ 64 → IsBegun (kept_block input (suc more)) →
    MadeWhere (kept_block input (suc more)) (kept_callee more) kept_reference (main_layer input (suc more)) []
made_where input more few b =
    local_where (kept_block input (suc more)) (kept_callee more) outer_spot kept_reference
    (main_layer input (suc more)) [] 7 call_index more no_numbers local_declared (call_is input more few b)
    (local_first input more)

-- ---- its statement

abbrev inner_block : (input : List ℕ) → (more : ℕ) → Point → (numbers : ℕ → ℕ) → Block
inner_block input more p numbers =
    reference_block
    (call_at (kept_block input (suc more)) (kept_callee more) kept_reference (main_layer input (suc more)) [] p
    numbers)

inner_system :
    (input : List ℕ) (more : ℕ) (p : Point) (numbers : ℕ → ℕ) (condition : Condition) →
    IsAmong (kept_block input (suc more)) numbers p →
    IsSystem (force (kept_block input (suc more)).first.state.activations condition) →
    IsSystem (force (inner_block input more p numbers).first.state.activations condition)
inner_system input more p numbers condition o h =
    subst (λ xs. IsSystem (force xs condition)) (sym o.later.activations) h

first_is :
    (input : List ℕ) (more : ℕ) (p : Point) (numbers : ℕ → ℕ) → suc more + 1 < 2 ^ 64 →
    IsBegun (inner_block input more p numbers) → IsNumber (inner_block input more p numbers) local_spot →
    IsAssignment (inner_block input more p numbers) local_spot twice 4 inner_start 1 200
first_is input more p numbers few b local =
    let n = linked_length (links_of kept_code) 0 kept_code in
    record {
      act = record { line_fits = omega arith; acts = few };
      begun = b;
      number = local;
      registers = omega arith;
      held = omega arith;
      statement = front_of (stmt_code inner_environment none_taken inner_first)
          (stmts_code inner_environment none_taken inner_rest) inner_body_linked;
      paid = omega (arith, n);
    }

abbrev second_index : ℕ
second_index = inner_start + size_of (stmt_code inner_environment none_taken inner_first)

second_is :
    (input : List ℕ) (more : ℕ) (p : Point) (numbers : ℕ → ℕ) → suc more + 1 < 2 ^ 64 →
    IsParameter (inner_block input more p numbers) kept_spot →
    N.IsAssignment (inner_block input more p numbers) kept_spot (Y.NumberIn (whole local_spot)) 5 second_index 0 200
second_is input more p numbers few own =
    let n = linked_length (links_of kept_code) 0 kept_code in
    record {
      act = record { line_fits = omega arith; acts = few };
      number = own;
      registers = omega arith;
      some = omega arith;
      held = omega arith;
      statement = front_of (stmt_code inner_environment none_taken inner_second) []
          (back_of (stmt_code inner_environment none_taken inner_first)
          (stmts_code inner_environment none_taken inner_rest) inner_body_linked);
      paid = omega (arith, n);
    }

inner_each :
    (input : List ℕ) (more : ℕ) (p : Point) (numbers : ℕ → ℕ) → suc more + 1 < 2 ^ 64 →
    IsBegun (kept_block input (suc more)) → IsAmong (kept_block input (suc more)) numbers p →
    IsBegun (inner_block input more p numbers) →
    EachDoes (inner_block input more p numbers) [] inner_body (body_index (kept_callee more)) left_over
inner_each input more p numbers few b o b' =
    let m = kept_block input (suc more) in
    let c = kept_callee more in
    let φ = main_layer input (suc more) in
    let k = inner_block input more p numbers in
    let is = call_is input more few b in
    let own = own_known m c outer_spot kept_reference φ [] 7 call_index more p numbers kept_spot is
    (made_where input more few b) o
    (record { declared = refl; first = refl; index = refl; level = refl; own = refl }) b' in
    let local = local_number m c outer_spot kept_reference φ [] 7 call_index more no_numbers local_declared p numbers
    local_spot is (local_first input more) o
    (record { initial = []; declared = refl; shape = refl; index = refl; level = refl; own = refl; place = refl }) b' in
    let four = setting_of k [] 4 200 in
    let over : OverflowComes four = overflow_ends four
    (record {
      routines = routines;
      overflow = inner_system input more p numbers C.FixedOverflow o tt;
      error = inner_system input more p numbers C.Error o tt;
      acts = few;
      most = omega arith;
    }) in
    let operand = parameter_does four kept_spot own in (
      assign_does k [] local_spot twice 4 inner_start left_over 1 200 (first_is input more p numbers few b' local)
          (sum_does four (Y.NumberIn (parameter kept_spot)) (Y.NumberIn (parameter kept_spot)) 0 0 over operand
          operand),
      (
        T.assign_does k [] kept_spot (Y.NumberIn (whole local_spot)) 5 second_index left_over 0 200
            (second_is input more p numbers few own) (variable_does (setting_of k [] 5 200) local_spot b' local),
        tt,
      ),
    )

-- ---- the call

call_by :
    (input : List ℕ) (acts : ℕ) → acts + 1 < 2 ^ 64 → IsBegun (kept_block input acts) →
    Does (kept_block input acts) (kept_label ∷ []) kept_call call_index left_over
call_by input zero few b =
    none_does (kept_block input zero) (kept_label ∷ []) kept_call call_index left_over b refl
call_by input (suc more) few b =
    reference_call_does (kept_block input (suc more)) (kept_callee more) (kept_label ∷ []) outer_spot
    kept_reference
    (main_layer input (suc more)) [] 7 call_index left_over more (call_is input more few b) (made_where input more few b)
    (λ p numbers o b'. inner_each input more p numbers few b o b')

-- ---- the main procedure

abbrev back_index : ℕ
back_index = call_index + size_of (stmt_code kept_environment none_taken kept_call)

start_is :
    (input : List ℕ) (acts : ℕ) → acts + 1 < 2 ^ 64 → IsBegun (kept_block input acts) →
    IsAssignment (kept_block input acts) outer_spot (Y.NumberConstant 536870912) 6 kept_start 0 200
start_is input acts few b =
    let n = linked_length (links_of kept_code) 0 kept_code in
    record {
      act = record { line_fits = omega arith; acts = few };
      begun = b;
      number = outer_number input acts;
      registers = omega arith;
      held = omega arith;
      statement = front_of (stmt_code kept_environment none_taken kept_first)
          (stmts_code kept_environment none_taken kept_rest) body_linked;
      paid = omega (arith, n);
    }

pub kept_each :
    (input : List ℕ) (acts : ℕ) → acts + 1 < 2 ^ 64 → IsBegun (kept_block input acts) →
    EachDoes (kept_block input acts) (kept_label ∷ []) kept_body
    (G.body_index (main_of (kept_whole input acts))) left_over
kept_each input acts few b =
    let k = kept_block input acts in
    let labels = kept_label ∷ [] in (
      assign_does k labels outer_spot (Y.NumberConstant 536870912) 6 kept_start left_over 0 200
          (start_is input acts few b) (constant_does (setting_of k labels 6 200) 536870912 (omega arith)),
      (
        call_by input acts few b,
        (
          goto_does k labels kept_label 8 back_index left_over (record { line_fits = omega arith; acts = few })
              (record {
                begun = b;
                carried = refl;
                level = refl;
                block = refl;
                at = call_index;
                place = refl;
                near = omega arith;
              })
              (front_of (stmt_code kept_environment none_taken kept_back) []
              (back_of (stmt_code kept_environment none_taken kept_call)
              (stmts_code kept_environment none_taken kept_end) call_linked)),
          tt,
        ),
      ),
    )

-- ---- the whole

pub kept_is : (input first : List ℕ) (acts : ℕ) → acts + 1 < 2 ^ 64 → length first ≡ memory_size →
    IsWhole (kept_whole input acts) first
kept_is input first acts few bytes =
    let l = back_of (first_frame image_parts) (main_called 0) start_linked in
    record {
      start = record { linked = start_linked; differ = one_differs; bytes = bytes; told = λ n v e. absurd (cc e) };
      made = one_named (surroundings_of (kept_image input acts)) (linked_code kept_code)
          (main_of (kept_whole input acts)) (start_point (kept_image input acts)) no_numbers W.number_declared
          (record { only = outer_only input acts; made = refl; serial = omega arith });
      callee = record {
        coded = record { level = omega arith; line = omega arith; saved = omega arith; back = omega arith };
        calls = first_of (CallTo (ProcedureEntry 0)) _ (rest_of _ _ (rest_of _ _ (rest_of _ _ l)));
        place = refl;
        stands = main_linked;
        end = refl;
        kind = refl;
        labels = (
          λ label e. absurd (cc e),
          (
            one_label_stands (links_of kept_code) call_index refl,
            (λ label e. absurd (cc e), λ label e. absurd (cc e)),
          ),
        );
        acts = few;
      };
      room = record { room = omega arith; shallow = refl; parent = tt; idle = refl };
      level = refl;
      procedures = refl;
      statics = refl;
    }

pub kept_runs :
    Keeps run_keeper → (input first : List ℕ) (acts : ℕ) → acts + 1 < 2 ^ 64 → length first ≡ memory_size →
    Comes (linked_code kept_code) 0 (first_family first (services_of (start_point (kept_image input acts))))
    (services_of (start_point (kept_image input acts))) (never_in (kept_image input acts))
    (run kept_program (suc acts) acts (first_state input))
kept_runs keeps input first acts few bytes =
    program_runs keeps (kept_whole input acts) first (kept_is input first acts few bytes)
    (λ b. kept_each input acts few b)

-- ---- what the program comes to

unfoldable flows : Unit {0}
unfolding F.give F.◌>>=◌ F.◌>>◌ F.looked F.stored F.act F.finish F.returns F.jumps F.choose F.given F.list_from
    F.leaving
flows = tt

unfoldable values : Unit {0}
unfolding V.number V.designated V.located V.numbers V.variable_designated V.part_designated V.stored_value R.or_error
    R.demanded R.value_of R.raised R.unit_run R.error R.error_unit_run P.element_stored M.assigned
values = tt

unfoldable calls : Unit {0}
unfolding V.called V.arguments V.argument V.all_passed_last V.passed_last V.procedure_entered V.returned
    K.variables_made K.automatic_made K.extents K.variable_made K.parameters_bound K.parameter_bound
calls = tt

unfoldable statements : Unit {0}
unfolding M.statement M.statements M.list M.list_with M.block_variables_made M.entry_act M.block_list M.block_body
statements = tt

pub kept_ends :
    (input : List ℕ) →
    M.meaning kept_program input 13
    ≡ Some (record {
      acts = 13;
      output = [];
      raised = (C.FixedOverflow, 20) ∷ (C.Error, 20) ∷ [];
      end = E.Error 20 4;
    })
unfolding M.meaning M.run M.entered M.block_run flows values calls statements
kept_ends input = refl
