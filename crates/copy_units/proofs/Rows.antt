-- The worked row: all that is premised of the program is computed, and where the procedure is called it is known from
-- where the main one begins.
use Rattle.std.proofs.Common.{◌≡◌, ℕ, ℤ, zero, suc, ◌+◌, ◌*◌, ◌^◌, ◌<◌, List, [], ◌∷◌, ◌++◌, inl, inr, length, map}
use Rattle.std.proofs.Common.{Some, true, refl, sym, ap, ◌∙◌, subst, arith}
use Rattle.std.specs.Prelude.{nat_lt}
use Rattle.rv_meaning.specs.declared.instr.Instr.TheVariants as I
use Rattle.rv_meaning.specs.Machine.{memory_size}
use Rattle.pli_language.specs.declared.condition.Condition.{Condition}
use Rattle.pli_language.specs.declared.condition.Condition.TheVariants as C
use Rattle.pli_typing.specs.TypedTree as Y
use Rattle.pli_meaning.specs.declared.outcome.End.TheVariants as E
use Rattle.pli_meaning.specs.Control as F
use Rattle.pli_meaning.specs.DeclaredShapes.{variables_of_block}
use Rattle.pli_meaning.specs.Evaluating as V
use Rattle.pli_meaning.specs.Executing as M
use Rattle.pli_meaning.specs.Executing.{entered, run}
use Rattle.pli_meaning.specs.Making as K
use Rattle.pli_meaning.specs.Placing as P
use Rattle.pli_meaning.specs.Raising as R
use Rattle.pli_meaning.specs.StorageState.{State, first_state, force, most_activations}
use Rattle.area_keeper.specs.KeeperLaws.{Keeps}
use Rattle.run_keeper.specs.RunKeeper.{run_keeper}
use Rattle.pli_serving.specs.Templates.{template_of}
use Rattle.pli_coding.specs.Allocating.{act_code}
use Rattle.pli_coding.specs.Assembly.{CallTo, JumpAhead, Mark, OffsetAhead, Plain, ProcedureEntry, ReturnPlace, size_of}
use Rattle.pli_coding.specs.Entries.{arguments_copied}
use Rattle.pli_coding.specs.Environments.{none_taken}
use Rattle.pli_coding.specs.Images.{first_frame, linked_code, raise_code}
use Rattle.pli_coding.specs.Instructions.{small}
use Rattle.pli_coding.specs.Linking.{links_of}
use Rattle.pli_coding.specs.Procedures.{no_value}
use Rattle.pli_coding.specs.Registers.{a1, a7}
use Rattle.pli_coding.specs.SignatureTable.{table_of}
use Rattle.pli_coding.specs.Statements.{condition_given, stmt_code, stmts_code, unit_environment, unit_held, unit_left}
use Rattle.pli_coding.specs.Statements.{unit_mark, unit_variables, unit_words}
use Rattle.storage_relation.specs.Served.{AllDiffer}
use Rattle.activation_relation.specs.Layers.{Layer, Point, services_of}
use Rattle.activation_relation.specs.ServiceLaws.{IsSystem}
use Rattle.activation_relation.specs.Variables.{grown}
use Rattle.run_steps.specs.Items.{Linked}
use Rattle.run_steps.proofs.Jumps.{back_of, first_of, front_of, rest_of}
use Rattle.run_steps.proofs.Linking.{has_items, linked_length}
use Rattle.run_steps.specs.Reach.{Comes}
use Rattle.program_runs.specs.Calls as G
use Rattle.program_runs.specs.Calls.{block_at, left_over}
use Rattle.program_runs.specs.Procedures.{begin_of, end_of, layer_for, procedure_code}
use Rattle.program_runs.specs.Programs.{IsWhole, Whole, main_of}
use Rattle.program_runs.specs.Rows.{row_head}
use Rattle.program_runs.specs.Starts.{first_family, image_parts, main_called, no_numbers, start_of, never_in}
use Rattle.program_runs.specs.Starts.{start_point, surroundings_of}
use Rattle.program_runs.specs.Statements.{Block, Does, EachDoes, IsAmong, IsBegun}
use Rattle.program_runs.specs.Variables as D
use Rattle.program_runs.specs.Variables.{IsOnly, newest_made}
use Rattle.program_runs.specs.VariableRows as W
use Rattle.program_runs.proofs.Programs.{program_runs}
use Rattle.program_runs.proofs.Rows.{is_datum, names_none, none_named}
use Rattle.program_runs.proofs.Statements.{none_does, null_does}
use Rattle.program_runs.proofs.VariableProcedures.{one_made}
use Rattle.program_runs.proofs.VariableRows.{differs_alone, number_valued}
use Rattle.expression_runs.specs.Assignments.{IsAssignment, setting_of}
use Rattle.expression_runs.specs.Laws as L
use Rattle.expression_runs.specs.Raises.{Routines}
use Rattle.expression_runs.specs.Values.{OverflowComes, Setting}
use Rattle.expression_runs.specs.Variables.{IsNumber}
use Rattle.expression_runs.proofs.Assignments.{assign_does}
use Rattle.expression_runs.proofs.Operands.{constant_does}
use Rattle.expression_runs.proofs.Raises.{overflow_ends}
use Rattle.expression_runs.proofs.Sums.{sum_does}
use Rattle.expression_runs.proofs.VariablePoints.{variable_does}
use Rattle.function_runs.specs.Functions.{function_tail}
use Rattle.function_runs.proofs.ReturnValues.{return_does}
use Rattle.unit_runs.specs.Changing.{AllDo, IsOwnRaise, IsPast, Past, StandsIn, after}
use Rattle.unit_runs.specs.Establishing.{IsOn, OnUnit, on_of, unit_index, unit_of}
use Rattle.unit_runs.specs.Raised as S
use Rattle.unit_runs.specs.Raised.{IsRaised, Standing, UnitDoes, list_index, standing_code, unit_block}
use Rattle.unit_runs.proofs.Changing.{begun_after}
use Rattle.unit_runs.proofs.LoopRows.{unit_same}
use Rattle.unit_runs.proofs.OwnRaises.{own_raised}
use Rattle.unit_runs.proofs.Rows.{only_place}
use Rattle.unit_runs.proofs.UnitRuns.{overflow_returns}
use Rattle.unit_runs.proofs.UnitVariables.{none_made}
use Rattle.jump_runs.specs.Functions.{FunctionDoes, IsFunctionList}
use Rattle.jump_runs.proofs.Errors.{past_system}
use Rattle.jump_runs.proofs.FunctionLists.{all_ends, system_ends}
use Rattle.argument_runs.specs.CopyCalls.{Copying, HasRoomFor, body_index, listing_of}
use Rattle.argument_runs.specs.CopyFunctions.{IsCopyFunction, IsCopyFunctionCall, block_with, function_copying}
use Rattle.argument_runs.specs.CopyFunctions.{setting_in}
use Rattle.argument_runs.specs.Parameters.{IsParameter, parameter, parameter_declared}
use Rattle.argument_runs.proofs.CopyKnown.{function_own_known}
use Rattle.argument_runs.proofs.Parameters.{parameter_does}
use Rattle.copy_units.specs.Rows.{given_spot, inner_body, inner_coded, inner_entry, inner_environment, inner_rest}
use Rattle.copy_units.specs.Rows.{inner_return, main_coded, mute_again, mute_body, mute_called, mute_code, mute_entry}
use Rattle.copy_units.specs.Rows.{mute_environment, mute_first, mute_function, mute_given, mute_image, mute_inner}
use Rattle.copy_units.specs.Rows.{mute_main, mute_on, mute_program, mute_rest, mute_unit, outer_spot, twice}
use Rattle.copy_units.proofs.Calls.{function_does}
use Rattle.copy_units.proofs.Parameters.{past_parameter}

-- ---- its code

mute_linked : Linked (links_of mute_code) (linked_code mute_code) 0 mute_code
unfolding names_none is_datum
mute_linked =
    let n = linked_length (links_of mute_code) 0 mute_code in
    record {
      small' = omega (arith, n);
      inside = omega (arith, n);
      has = has_items (links_of mute_code) mute_code refl;
      named = λ d h. absurd (none_named d mute_code refl h);
    }

start_linked : Linked (links_of mute_code) (linked_code mute_code) 0 (start_of 0)
start_linked = front_of (start_of 0) (raise_code ++ (main_coded ++ inner_coded)) mute_linked

raise_linked : Linked (links_of mute_code) (linked_code mute_code) (size_of (start_of 0)) raise_code
raise_linked =
    front_of raise_code (main_coded ++ inner_coded)
    (back_of (start_of 0) (raise_code ++ (main_coded ++ inner_coded)) mute_linked)

both_linked : Linked (links_of mute_code) (linked_code mute_code) mute_entry (main_coded ++ inner_coded)
both_linked =
    back_of raise_code (main_coded ++ inner_coded)
    (back_of (start_of 0) (raise_code ++ (main_coded ++ inner_coded)) mute_linked)

main_linked :
    Linked (links_of mute_code) (linked_code mute_code) mute_entry
    (procedure_code mute_environment mute_main)
main_linked =
    rest_of (Mark (ProcedureEntry 0)) (procedure_code mute_environment mute_main)
    (front_of main_coded inner_coded both_linked)

inner_linked :
    Linked (links_of mute_code) (linked_code mute_code) inner_entry
    (function_copying inner_environment mute_inner)
inner_linked =
    rest_of (Mark (ProcedureEntry 1)) (function_copying inner_environment mute_inner)
    (back_of main_coded inner_coded both_linked)

abbrev pub mute_start : ℕ
mute_start = mute_entry + size_of (begin_of mute_main) + size_of mute_main.variables + size_of (act_code 1)

abbrev pub mute_finish : ℕ
mute_finish = mute_start + size_of (stmts_code mute_environment none_taken mute_body)

body_linked :
    Linked (links_of mute_code) (linked_code mute_code) mute_start
    (stmts_code mute_environment none_taken mute_body)
body_linked =
    let one = act_code 1 in
    let body = stmts_code mute_environment none_taken mute_body in
    let tail = Mark (ReturnPlace 0) ∷ end_of mute_main in
    let rest = one ++ (body ++ tail) in
    front_of body tail
    (back_of one (body ++ tail)
    (back_of mute_main.variables rest
    (back_of (begin_of mute_main) (mute_main.variables ++ rest) main_linked)))

inner_body_linked :
    Linked (links_of mute_code) (linked_code mute_code) mute_on
    (stmts_code inner_environment none_taken inner_body)
inner_body_linked =
    let one = act_code 2 in
    let body = stmts_code inner_environment none_taken inner_body in
    let tail = function_tail mute_inner in
    let copies = arguments_copied inner_environment (0 ∷ []) in
    let rest = one ++ (body ++ tail) in
    front_of body tail
    (back_of one (body ++ tail)
    (back_of copies rest (back_of (listing_of mute_inner) (copies ++ rest) inner_linked)))

-- ---- the main procedure's variable

one_differs : AllDiffer (map template_of (table_of mute_program))
one_differs = differs_alone (map template_of (table_of mute_program)) _ refl refl

abbrev pub mute_whole : (input : List ℕ) → (acts : ℕ) → Whole
mute_whole input acts =
    record {
      image = mute_image input acts;
      program = mute_program;
      main = mute_main;
      others = mute_function ∷ [];
      environment = mute_environment;
      entry = mute_entry;
      end = mute_finish;
      made = newest_made image_parts W.number_declared;
    }

outer_only :
    (input : List ℕ) (acts : ℕ) →
    IsOnly (surroundings_of (mute_image input acts)) (main_of (mute_whole input acts))
    (start_point (mute_image input acts)) no_numbers W.number_declared
outer_only input acts =
    let n = linked_length (links_of mute_code) 0 mute_code in
    record {
      kind = refl;
      variables = refl;
      class = refl;
      evaluations = refl;
      first = refl;
      code = refl;
      made = refl;
      table = refl;
      parts = refl;
      few = omega arith;
      declared = record {
        newest = refl;
        here = refl;
        holds = omega arith;
        size = omega arith;
        fits = omega arith;
        even = refl;
        low = omega (arith, n);
        shape = refl;
        number = omega arith;
        initial = refl;
        none = refl;
        plain = refl;
        fixed = refl;
        values = (tt, tt);
        valued = number_valued;
        limit = refl;
      };
    }

abbrev pub mute_block : (input : List ℕ) → (acts : ℕ) → Block
mute_block input acts =
    block_at (surroundings_of (mute_image input acts)) (linked_code mute_code)
    (main_of (mute_whole input acts))
    (start_point (mute_image input acts)) no_numbers

outer_number : (input : List ℕ) (acts : ℕ) → IsNumber (mute_block input acts) outer_spot
outer_number input acts =
    record {
      initial = [];
      declared = refl;
      serial = 1;
      binding = refl;
      living = K.living_at 1 1 (D.generation_for W.number_declared);
      lives = refl;
      shape = refl;
      base = _;
      frame = inl (refl, refl);
      at = refl;
      low = omega arith;
      inside = omega arith;
    }

abbrev again_index : ℕ
again_index = mute_start + size_of (stmt_code mute_environment none_taken mute_first)

-- ---- the function

abbrev routines : Routines (links_of mute_code) (linked_code mute_code)
routines = record { at = size_of (start_of 0); linked = raise_linked; condition = refl; end = omega arith }

abbrev pub mute_callee : (more : ℕ) → Copying
mute_callee more =
    record {
      procedure = mute_inner;
      calling = record {
        parent = 1;
        call = 0;
        entry = inner_entry;
        end = mute_on + size_of (stmts_code inner_environment none_taken inner_body) + size_of (no_value 2);
      };
      environment = inner_environment;
      around = record { program = mute_program; enter = entered mute_program more; turns = suc more; line = 0 };
      declared = parameter_declared;
      number = 0;
    }

-- the layer that calls it, the oldest
abbrev main_layer : (input : List ℕ) → (acts : ℕ) → Layer
main_layer input acts =
    let w = surroundings_of (mute_image input acts) in
    let φ = layer_for w (start_point (mute_image input acts)) no_numbers mute_main
    (main_of (mute_whole input acts)).calling in
    grown (D.made_of image_parts φ W.number_declared) φ

-- where the main procedure begins there is room for it
first_room :
    (input : List ℕ) (acts more : ℕ) →
    HasRoomFor (surroundings_of (mute_image input acts)) (mute_block input acts).first (mute_callee more)
    (main_layer input acts) []
first_room input acts more =
    let n = linked_length (links_of mute_code) 0 mute_code in
    record {
      newest = refl;
      words = omega arith;
      waits = refl;
      room = omega arith;
      even = refl;
      shallow = refl;
      parent = (omega arith, refl);
      idle = refl;
      low = omega (arith, n);
      shape = refl;
      number = omega arith;
      limit = refl;
    }

no_variables :
    (around : R.Around) (k : ℕ) (s : State) → around.program ≡ mute_program →
    M.block_variables_made around (row_head 1 1 2) Y.ProcedureBlock k s ≡ F.Normal tt s
unfolding M.block_variables_made K.variables_made K.automatic_made F.give F.◌>>◌ F.◌>>=◌
no_variables around k s e = ap (λ y. K.variables_made around 0 (variables_of_block y 1) k s) e

function_is :
    (input : List ℕ) (acts more : ℕ) → acts + 1 < 2 ^ 64 →
    IsCopyFunction (surroundings_of (mute_image input acts)) (linked_code mute_code) (mute_callee more)
function_is input acts more few =
    record {
      level = omega arith;
      line = omega arith;
      saved = omega arith;
      place = refl;
      stands = inner_linked;
      end = refl;
      kind = refl;
      labels = (λ label e. absurd (cc e), (λ label e. absurd (cc e), λ label e. absurd (cc e)));
      acts = few;
      routines = routines;
      raises = refl;
      copied = λ z. record { copies = refl; number = refl; leaves = refl };
      variables = λ j s. no_variables (R.at_line (mute_callee more).around 2) j s refl;
    }

abbrev six_in : (input : List ℕ) → (acts : ℕ) → Setting
six_in input acts = setting_of (mute_block input acts) [] 6 300

call_is :
    (input : List ℕ) (more : ℕ) → suc more + 1 < 2 ^ 64 → IsBegun (mute_block input (suc more)) →
    IsCopyFunctionCall (six_in input (suc more)) (mute_callee more) (main_layer input (suc more)) [] more
call_is input more few b =
    record {
      begun = b;
      function = function_is input (suc more) more few;
      room = first_room input (suc more) more;
      words = refl;
      few = omega arith;
      small = omega (arith, few);
      level = refl;
      parent = refl;
      found = refl;
      enter = refl;
      around = refl;
      enough = omega arith;
      most = omega arith;
    }

-- ---- its statement

abbrev inner_block : (input : List ℕ) → (more call : ℕ) → Point → (numbers : ℕ → ℕ) → ℤ → Block
inner_block input more call p numbers z =
    block_with (six_in input (suc more)) (mute_callee more) (main_layer input (suc more)) [] call p numbers z

inner_system :
    (input : List ℕ) (more call : ℕ) (p : Point) (numbers : ℕ → ℕ) (z : ℤ) (condition : Condition) →
    IsAmong (mute_block input (suc more)) numbers p →
    IsSystem (force (mute_block input (suc more)).first.state.activations condition) →
    IsSystem (force (inner_block input more call p numbers z).first.state.activations condition)
inner_system input more call p numbers z condition o h =
    subst (λ xs. IsSystem (force xs condition)) (sym o.later.activations) h

own_known :
    (input : List ℕ) (more call : ℕ) (p : Point) (numbers : ℕ → ℕ) (z : ℤ) → suc more + 1 < 2 ^ 64 →
    IsBegun (mute_block input (suc more)) → IsAmong (mute_block input (suc more)) numbers p →
    IsBegun (inner_block input more call p numbers z) → IsParameter (inner_block input more call p numbers z) given_spot
own_known input more call p numbers z few b o b' =
    function_own_known (six_in input (suc more)) (mute_callee more) (main_layer input (suc more)) [] more call p numbers
    z given_spot (call_is input more few b) o
    (record { declared = refl; first = refl; index = refl; level = refl; own = refl }) b'

-- ---- its block with the units that it has by then

abbrev past_block : (input : List ℕ) → (more call : ℕ) → Past → Point → (numbers : ℕ → ℕ) → ℤ → Block
past_block input more call past p numbers z = after (inner_block input more call p numbers z) past

abbrev Known : (input : List ℕ) → (more call : ℕ) → Past → Point → (numbers : ℕ → ℕ) → ℤ → Type 0
Known input more call past p numbers z = IsPast (inner_block input more call p numbers z) inner_body mute_on past

past_begun :
    (input : List ℕ) (more call : ℕ) (past : Past) (p : Point) (numbers : ℕ → ℕ) (z : ℤ) →
    IsBegun (inner_block input more call p numbers z) → Known input more call past p numbers z →
    IsBegun (past_block input more call past p numbers z)
past_begun input more call past p numbers z b known =
    begun_after (inner_block input more call p numbers z) inner_body mute_on past b known

on_linked :
    Linked (links_of mute_code) (linked_code mute_code) mute_on
    (stmt_code inner_environment none_taken (on_of mute_unit))
on_linked =
    front_of (stmt_code inner_environment none_taken (on_of mute_unit))
    (stmts_code inner_environment none_taken inner_rest) inner_body_linked

on_is :
    (input : List ℕ) (more call : ℕ) (past : Past) (p : Point) (numbers : ℕ → ℕ) (z : ℤ) → suc more + 1 < 2 ^ 64 →
    IsBegun (inner_block input more call p numbers z) → Known input more call past p numbers z →
    IsOn (past_block input more call past p numbers z) mute_unit mute_on
on_is input more call past p numbers z few b known =
    record {
      act = record { line_fits = omega arith; acts = few };
      begun = past_begun input more call past p numbers z b known;
      statement = on_linked;
      place = (0, refl);
    }

-- ---- its unit

abbrev mute_standing : (more : ℕ) → Standing
mute_standing more =
    record {
      unit = mute_unit;
      words = unit_words inner_environment mute_unit.head Y.SimpleUnit mute_unit.body;
      saved = unit_held inner_environment mute_unit.head Y.SimpleUnit mute_unit.body;
      variables = unit_variables (unit_environment mute_unit.head inner_environment) mute_unit.head Y.SimpleUnit;
      entry = unit_index mute_unit mute_on;
      environment = unit_environment mute_unit.head inner_environment;
      around = record { program = mute_program; enter = entered mute_program more; turns = suc more; line = 0 };
      made = λ q. q;
    }

unit_linked :
    (more : ℕ) →
    Linked (links_of mute_code) (linked_code mute_code) (unit_index mute_unit mute_on)
    (standing_code (mute_standing more))
unit_linked more =
    let over = OffsetAhead a1 5 ∷ condition_given C.FixedOverflow
    ∷ small a7 28 ∷ Plain I.Ecall ∷ JumpAhead (size_of (standing_code (mute_standing more))) ∷ [] in
    back_of over (standing_code (mute_standing more))
    (back_of (act_code 3) (over ++ standing_code (mute_standing more)) on_linked)

abbrev return_setting : (input : List ℕ) → (more call : ℕ) → Past → Point → (numbers : ℕ → ℕ) → ℤ → Setting
return_setting input more call past p numbers z =
    setting_of (past_block input (suc more) call past p numbers z) [] 4 200

abbrev with_on : Past → Past
with_on past = (mute_unit, mute_on) ∷ past

own_raise :
    (input : List ℕ) (more call : ℕ) (p : Point) (numbers : ℕ → ℕ) (z : ℤ) → suc (suc more) + 1 < 2 ^ 64 →
    IsAmong (mute_block input (suc (suc more))) numbers p →
    IsOwnRaise (inner_block input (suc more) call p numbers z) (mute_standing more) 200 more
own_raise input more call p numbers z few o =
    let as' = o.later.activations in
    let acts = o.later.acts in
    let x = mute_standing more in
    record {
      routines = routines;
      room = omega arith;
      shallow = subst (λ xs. nat_lt (suc (length xs)) most_activations ≡ true) (sym as') refl;
      only = λ at stands. only_place (unit_of mute_unit) (4 * unit_index mute_unit mute_on) at stands;
      some = omega arith;
      stands = unit_linked more;
      labels = (λ label e. absurd (cc e), λ label e. absurd (cc e));
      kind = inl refl;
      level = refl;
      few = omega arith;
      line = omega arith;
      saved = omega arith;
      acts = few;
      enter = refl;
      around = refl;
      enough = omega (arith, acts);
      paid = omega arith;
    }

unit_each :
    (input : List ℕ) (more call : ℕ) (past : Past) (p : Point) (numbers : ℕ → ℕ) (z : ℤ) →
    suc (suc more) + 1 < 2 ^ 64 →
    (h : IsRaised (return_setting input more call (with_on past) p numbers z) (mute_standing more) more) →
    UnitDoes (return_setting input more call (with_on past) p numbers z) (mute_standing more) more h
unit_each input more call past p numbers z few h r is =
    let k = return_setting input more call (with_on past) p numbers z in
    let x = mute_standing more in
    let u = unit_block k x r in (
      none_made k x r (record { kind = inl refl; code = refl; made = refl }),
      λ b. (
        null_does u 3 (list_index x) left_over (record { line_fits = omega arith; acts = few })
            (front_of (stmt_code x.environment none_taken (Y.Null 3)) []
            (front_of (S.list_code x) (unit_mark mute_unit.head Y.SimpleUnit ++ unit_left x.words x.saved)
            (back_of (act_code 3) _ (back_of x.variables _ (back_of (S.begin_of x) _ (unit_linked more)))))) [],
        tt,
      ),
    )

-- ---- its RETURN, with the unit in force or without one

one_on :
    (input : List ℕ) (more call : ℕ) (p : Point) (numbers : ℕ → ℕ) (z : ℤ) (e : OnUnit × ℕ) →
    StandsIn (inner_block input more call p numbers z) inner_body mute_on e → e ≡ (mute_unit, mute_on)
one_on input more call p numbers z e (inl here) =
    ap (λ x. (x, e.1)) (sym (unit_same mute_unit e.0 here.0)) ∙ ap (λ n. (mute_unit, n)) here.1
one_on input more call p numbers z e (inr (inl here)) = absurd (cc here.0)
one_on input more call p numbers z e (inr (inr none)) = absurd none

abbrev return_index : ℕ
return_index = mute_on + size_of (stmt_code inner_environment none_taken (on_of mute_unit))

return_by :
    (input : List ℕ) (more call : ℕ) (past : Past) (p : Point) (numbers : ℕ → ℕ) (z : ℤ) →
    suc (suc more) + 1 < 2 ^ 64 → IsBegun (past_block input (suc more) call past p numbers z) →
    IsParameter (past_block input (suc more) call past p numbers z) given_spot →
    OverflowComes (return_setting input more call past p numbers z) →
    Does (past_block input (suc more) call past p numbers z) [] inner_return return_index left_over
return_by input more call past p numbers z few b own over =
    let k = past_block input (suc more) call past p numbers z in
    let s = return_setting input more call past p numbers z in
    let n = linked_length (links_of mute_code) 0 mute_code in
    let operand = parameter_does s given_spot own in
    return_does k [] twice 4 return_index left_over 1 200
    (record {
      act = record { line_fits = omega arith; acts = few };
      begun = b;
      owner = refl;
      end = refl;
      near = omega arith;
      enough = omega arith;
      function = refl;
      registers = omega arith;
      held = omega arith;
      kind = refl;
      saved = omega arith;
      statement = front_of (stmt_code inner_environment none_taken inner_return) []
          (back_of (stmt_code inner_environment none_taken (on_of mute_unit))
          (stmts_code inner_environment none_taken inner_rest) inner_body_linked);
      paid = omega (arith, n);
    })
    (sum_does s (Y.NumberIn (parameter given_spot)) (Y.NumberIn (parameter given_spot)) 0 0 over operand operand)

return_with :
    (input : List ℕ) (more call : ℕ) (past : Past) (p : Point) (numbers : ℕ → ℕ) (z : ℤ) →
    suc (suc more) + 1 < 2 ^ 64 → IsBegun (mute_block input (suc (suc more))) →
    IsAmong (mute_block input (suc (suc more))) numbers p →
    IsBegun (inner_block input (suc more) call p numbers z) →
    Known input (suc more) call (with_on past) p numbers z →
    Does (past_block input (suc more) call (with_on past) p numbers z) [] inner_return return_index left_over
return_with input more call past p numbers z few b o b' known =
    let k = inner_block input (suc more) call p numbers z in
    let r = own_raised k inner_body mute_on [] (mute_standing more) mute_on 4 200 more past b' known
    (own_raise input more call p numbers z few o) in
    return_by input more call (with_on past) p numbers z few
    (past_begun input (suc more) call (with_on past) p numbers z b' known)
    (past_parameter k inner_body mute_on (with_on past) given_spot known
    (own_known input (suc more) call p numbers z few b o b'))
    (overflow_returns (return_setting input more call (with_on past) p numbers z) (mute_standing more) more r.0
    (unit_each input more call past p numbers z few r.0) refl)

inner_returns :
    (input : List ℕ) (more call : ℕ) (past : Past) (p : Point) (numbers : ℕ → ℕ) (z : ℤ) →
    suc (suc more) + 1 < 2 ^ 64 → IsBegun (mute_block input (suc (suc more))) →
    IsAmong (mute_block input (suc (suc more))) numbers p →
    IsBegun (inner_block input (suc more) call p numbers z) →
    Known input (suc more) call past p numbers z →
    Does (past_block input (suc more) call past p numbers z) [] inner_return return_index left_over
inner_returns input more call [] p numbers z few b o b' known =
    return_by input more call [] p numbers z few b' (own_known input (suc more) call p numbers z few b o b')
    (overflow_ends (return_setting input more call [] p numbers z)
    (record {
      routines = routines;
      overflow = inner_system input (suc more) call p numbers z C.FixedOverflow o tt;
      error = inner_system input (suc more) call p numbers z C.Error o tt;
      acts = few;
      most = omega arith;
    }))
inner_returns input more call (e ∷ past) p numbers z few b o b' known =
    subst (λ x. Known input (suc more) call (x ∷ past) p numbers z →
    Does (past_block input (suc more) call (x ∷ past) p numbers z) [] inner_return return_index left_over)
    (sym (one_on input (suc more) call p numbers z e known.1))
    (return_with input more call past p numbers z few b o b') known

inner_all :
    (input : List ℕ) (more call : ℕ) (p : Point) (numbers : ℕ → ℕ) (z : ℤ) → suc (suc more) + 1 < 2 ^ 64 →
    IsBegun (mute_block input (suc (suc more))) → IsAmong (mute_block input (suc (suc more))) numbers p →
    IsBegun (inner_block input (suc more) call p numbers z) →
    AllDo (inner_block input (suc more) call p numbers z) inner_body mute_on inner_body mute_on left_over
inner_all input more call p numbers z few b o b' = (
  inl (mute_unit, refl, λ past known. on_is input (suc more) call past p numbers z few b' known),
  (inr (λ past known. inner_returns input more call past p numbers z few b o b' known), tt),
)

-- where no second act is allowed it isn't called
inner_does :
    (input : List ℕ) (more call : ℕ) (p : Point) (numbers : ℕ → ℕ) (z : ℤ) → suc more + 1 < 2 ^ 64 →
    IsBegun (mute_block input (suc more)) → IsAmong (mute_block input (suc more)) numbers p →
    IsFunctionList (inner_block input more call p numbers z) inner_body (body_index (mute_callee more)) →
    FunctionDoes (inner_block input more call p numbers z) inner_body (body_index (mute_callee more))
inner_does input zero call p numbers z few b o is =
    let allowed = is.begun.resumes.stands.allowed in
    let acts = o.later.acts in
    absurd (omega (arith, allowed, acts))
inner_does input (suc more) call p numbers z few b o is =
    let k = inner_block input (suc more) call p numbers z in
    all_ends k inner_body mute_on is
    (λ label e. absurd (cc e), (λ label e. absurd (cc e), λ label e. absurd (cc e)))
    (inner_all input more call p numbers z few b o is.begun)
    (λ past known. system_ends k inner_body mute_on past is
    (past_system k inner_body mute_on past (tt, (tt, tt)) known
    (inner_system input (suc more) call p numbers z C.Error o tt)))

-- ---- the call

called_does :
    (input : List ℕ) (more : ℕ) → suc more + 1 < 2 ^ 64 → IsBegun (mute_block input (suc more)) →
    L.Does (six_in input (suc more)) 0 mute_called
called_does input more few b =
    let six = six_in input (suc more) in
    function_does six (mute_callee more) mute_given (main_layer input (suc more)) [] 0 more (call_is input more few b)
    (variable_does (setting_in six) outer_spot b (outer_number input (suc more)))
    (λ call p numbers z o wide is. inner_does input more call p numbers z few b o is)

rest_linked :
    Linked (links_of mute_code) (linked_code mute_code) again_index
    (stmts_code mute_environment none_taken mute_rest)
rest_linked =
    back_of (stmt_code mute_environment none_taken mute_first)
    (stmts_code mute_environment none_taken mute_rest) body_linked

again_is :
    (input : List ℕ) (acts : ℕ) → acts + 1 < 2 ^ 64 → IsBegun (mute_block input acts) →
    IsAssignment (mute_block input acts) outer_spot mute_called 6 again_index 0 300
again_is input acts few b =
    let n = linked_length (links_of mute_code) 0 mute_code in
    record {
      act = record { line_fits = omega arith; acts = few };
      begun = b;
      number = outer_number input acts;
      registers = omega arith;
      held = omega arith;
      statement = front_of (stmt_code mute_environment none_taken mute_again) [] rest_linked;
      paid = omega (arith, n);
    }

call_by :
    (input : List ℕ) (acts : ℕ) → acts + 1 < 2 ^ 64 → IsBegun (mute_block input acts) →
    Does (mute_block input acts) [] mute_again again_index left_over
call_by input zero few b = none_does (mute_block input zero) [] mute_again again_index left_over b refl
call_by input (suc more) few b =
    assign_does (mute_block input (suc more)) [] outer_spot mute_called 6 again_index left_over 0 300
    (again_is input (suc more) few b) (called_does input more few b)

-- ---- the main procedure

start_is :
    (input : List ℕ) (acts : ℕ) → acts + 1 < 2 ^ 64 → IsBegun (mute_block input acts) →
    IsAssignment (mute_block input acts) outer_spot (Y.NumberConstant 2147483647) 5 mute_start 0 200
start_is input acts few b =
    let n = linked_length (links_of mute_code) 0 mute_code in
    record {
      act = record { line_fits = omega arith; acts = few };
      begun = b;
      number = outer_number input acts;
      registers = omega arith;
      held = omega arith;
      statement = front_of (stmt_code mute_environment none_taken mute_first)
          (stmts_code mute_environment none_taken mute_rest) body_linked;
      paid = omega (arith, n);
    }

pub mute_each :
    (input : List ℕ) (acts : ℕ) → acts + 1 < 2 ^ 64 → IsBegun (mute_block input acts) →
    EachDoes (mute_block input acts) [] mute_body (G.body_index (main_of (mute_whole input acts))) left_over
mute_each input acts few b =
    let k = mute_block input acts in (
      assign_does k [] outer_spot (Y.NumberConstant 2147483647) 5 mute_start left_over 0 200 (start_is input acts few b)
          (constant_does (setting_of k [] 5 200) 2147483647 (omega arith)),
      (call_by input acts few b, tt),
    )

-- ---- the whole

pub mute_is : (input first : List ℕ) (acts : ℕ) → acts + 1 < 2 ^ 64 → length first ≡ memory_size →
    IsWhole (mute_whole input acts) first
mute_is input first acts few bytes =
    let l = back_of (first_frame image_parts) (main_called 0) start_linked in
    record {
      start = record { linked = start_linked; differ = one_differs; bytes = bytes; told = λ n v e. absurd (cc e) };
      made = one_made (surroundings_of (mute_image input acts)) (linked_code mute_code)
          (main_of (mute_whole input acts)) (start_point (mute_image input acts)) no_numbers W.number_declared
          (outer_only input acts);
      callee = record {
        coded = record { level = omega arith; line = omega arith; saved = omega arith; back = omega arith };
        calls = first_of (CallTo (ProcedureEntry 0)) _ (rest_of _ _ (rest_of _ _ (rest_of _ _ l)));
        place = refl;
        stands = main_linked;
        end = refl;
        kind = refl;
        labels = (λ label e. absurd (cc e), (λ label e. absurd (cc e), λ label e. absurd (cc e)));
        acts = few;
      };
      room = record { room = omega arith; shallow = refl; parent = tt; idle = refl };
      level = refl;
      procedures = refl;
      statics = refl;
    }

pub mute_runs :
    Keeps run_keeper → (input first : List ℕ) (acts : ℕ) → acts + 1 < 2 ^ 64 → length first ≡ memory_size →
    Comes (linked_code mute_code) 0 (first_family first (services_of (start_point (mute_image input acts))))
    (services_of (start_point (mute_image input acts))) (never_in (mute_image input acts))
    (run mute_program (suc acts) acts (first_state input))
mute_runs keeps input first acts few bytes =
    program_runs keeps (mute_whole input acts) first (mute_is input first acts few bytes)
    (λ b. mute_each input acts few b)

-- ---- what the program comes to

unfoldable flows : Unit {0}
unfolding F.give F.◌>>=◌ F.◌>>◌ F.looked F.stored F.act F.finish F.returns F.jumps F.choose F.given F.list_from
    F.leaving
flows = tt

unfoldable values : Unit {0}
unfolding V.number V.designated V.located V.numbers V.variable_designated V.part_designated V.stored_value R.or_error
    R.demanded R.value_of R.raised R.unit_run R.error R.error_unit_run P.element_stored M.assigned
values = tt

unfoldable calls : Unit {0}
unfolding V.called V.arguments V.argument V.all_passed_last V.passed_last V.procedure_entered V.returned
    K.variables_made K.automatic_made K.extents K.variable_made K.parameters_bound K.parameter_bound
calls = tt

unfoldable statements : Unit {0}
unfolding M.statement M.statements M.list M.list_with M.block_variables_made M.entry_act M.block_list M.block_body
    M.established_by
statements = tt

pub mute_ends :
    (input : List ℕ) →
    M.meaning mute_program input 10
    ≡ Some (record { acts = 10; output = []; raised = (C.FixedOverflow, 20) ∷ []; end = E.Finished })
unfolding M.meaning M.run M.entered M.block_run flows values calls statements
mute_ends input = refl
