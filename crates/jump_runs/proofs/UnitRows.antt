-- The worked row: all that is premised of the program is computed.
use Rattle.std.proofs.Common.{◌≡◌, ℕ, zero, suc, ◌+◌, ◌*◌, ◌^◌, ◌<◌, ◌≤◌, List, [], ◌∷◌, ◌++◌, inl, inr, length, map}
use Rattle.std.proofs.Common.{Some, true, refl, sym, ap, ◌∙◌, subst, arith}
use Rattle.std.specs.Prelude.{nat_lt}
use Rattle.rv_meaning.specs.declared.instr.Instr.TheVariants as I
use Rattle.rv_meaning.specs.Machine.{memory_size}
use Rattle.pli_language.specs.declared.condition.Condition.{Condition}
use Rattle.pli_language.specs.declared.condition.Condition.TheVariants as C
use Rattle.pli_typing.specs.TypedTree as Y
use Rattle.pli_meaning.specs.declared.outcome.End.TheVariants as E
use Rattle.pli_meaning.specs.Control as F
use Rattle.pli_meaning.specs.Control.{Label}
use Rattle.pli_meaning.specs.Evaluating as V
use Rattle.pli_meaning.specs.Executing as M
use Rattle.pli_meaning.specs.Executing.{entered, run}
use Rattle.pli_meaning.specs.Making as K
use Rattle.pli_meaning.specs.Placing as Pl
use Rattle.pli_meaning.specs.Raising as R
use Rattle.pli_meaning.specs.StorageState.{first_state, force, height_of, most_activations}
use Rattle.area_keeper.specs.KeeperLaws.{Keeps}
use Rattle.run_keeper.specs.RunKeeper.{run_keeper}
use Rattle.pli_serving.specs.Templates.{template_of}
use Rattle.pli_coding.specs.Allocating.{act_code}
use Rattle.pli_coding.specs.Assembly.{CallTo, JumpAhead, OffsetAhead, Plain, ProcedureEntry, size_of}
use Rattle.pli_coding.specs.Environments.{none_taken}
use Rattle.pli_coding.specs.Frames.{fixed_size, temporary_bytes}
use Rattle.pli_coding.specs.Images.{first_frame, linked_code}
use Rattle.pli_coding.specs.Instructions.{small}
use Rattle.pli_coding.specs.Linking.{links_of}
use Rattle.pli_coding.specs.Procedures.{no_value}
use Rattle.pli_coding.specs.Registers.{a1, a7}
use Rattle.pli_coding.specs.SignatureTable.{table_of}
use Rattle.pli_coding.specs.Statements.{condition_given, stmt_code, stmts_code, unit_environment, unit_held, unit_left}
use Rattle.pli_coding.specs.Statements.{unit_mark, unit_variables, unit_words}
use Rattle.storage_relation.specs.Served.{AllDiffer}
use Rattle.activation_relation.specs.Frames.{lower_end}
use Rattle.activation_relation.specs.Layers.{Point, services_of}
use Rattle.activation_relation.specs.ServiceLaws.{IsSystem}
use Rattle.run_steps.specs.Items.{Linked}
use Rattle.run_steps.proofs.Jumps.{back_of, first_of, front_of, rest_of}
use Rattle.run_steps.proofs.Linking.{linked_length}
use Rattle.run_steps.specs.Reach.{Comes}
use Rattle.program_runs.specs.Calls.{AreMade, Callee, block_at, body_index, left_over}
use Rattle.program_runs.specs.Procedures.{frame_for}
use Rattle.program_runs.specs.Programs.{IsWhole, Whole, main_of}
use Rattle.program_runs.specs.Starts.{first_family, image_parts, main_called, no_numbers, start_of, never_in}
use Rattle.program_runs.specs.Starts.{start_point, surroundings_of}
use Rattle.program_runs.specs.Statements.{Block, Does, EachDoes, IsAmong, IsBegun, as_outer, own_height}
use Rattle.program_runs.specs.Variables as D
use Rattle.program_runs.specs.Variables.{IsOnly, newest_made}
use Rattle.program_runs.specs.VariableRows as W
use Rattle.program_runs.proofs.Calls as P
use Rattle.program_runs.proofs.Programs.{program_runs}
use Rattle.program_runs.proofs.Statements.{none_does, null_does, stop_does}
use Rattle.program_runs.proofs.VariableProcedures.{one_made}
use Rattle.program_runs.proofs.VariableRows.{differs_alone, number_valued}
use Rattle.expression_runs.specs.Assignments.{IsAssignment, setting_of}
use Rattle.expression_runs.specs.Laws as L
use Rattle.expression_runs.specs.Raises.{Routines}
use Rattle.expression_runs.specs.Values.{OverflowComes, Setting}
use Rattle.expression_runs.specs.Variables.{IsNumber, whole}
use Rattle.expression_runs.proofs.Assignments.{assign_does}
use Rattle.expression_runs.proofs.Operands.{constant_does}
use Rattle.expression_runs.proofs.Raises.{overflow_ends}
use Rattle.expression_runs.proofs.Rows.{one_label_stands}
use Rattle.expression_runs.proofs.Sums.{sum_does}
use Rattle.expression_runs.proofs.VariablePoints.{variable_does}
use Rattle.function_runs.specs.FunctionCalls.{called_from}
use Rattle.function_runs.specs.Functions.{IsFunction}
use Rattle.function_runs.specs.OuterVariables.{IsInside}
use Rattle.function_runs.proofs.OuterVariables.{same_ancestor}
use Rattle.function_runs.proofs.ReturnValues.{return_does}
use Rattle.begin_runs.specs.FarGotos.{Far}
use Rattle.begin_runs.proofs.FarGotos.{far_does}
use Rattle.unit_runs.specs.Changing.{AllDo, IsOwnRaise, IsPast, Past, StandsIn, after}
use Rattle.unit_runs.specs.Establishing.{IsOn, OnUnit, on_of, unit_index, unit_of}
use Rattle.unit_runs.specs.Raised as S
use Rattle.unit_runs.specs.Raised.{IsRaised, Standing, UnitDoes, list_index, standing_code, unit_block}
use Rattle.unit_runs.proofs.Changing.{begun_after}
use Rattle.unit_runs.proofs.LoopRows.{unit_same}
use Rattle.unit_runs.proofs.OwnRaises.{own_raised, past_like, past_numbers}
use Rattle.unit_runs.proofs.Rows.{only_place}
use Rattle.unit_runs.proofs.UnitRuns.{overflow_returns}
use Rattle.unit_runs.proofs.UnitVariables.{none_made, unit_over}
use Rattle.jump_runs.specs.Functions.{FunctionDoes, IsFunctionList, function_in}
use Rattle.jump_runs.specs.UnitRows.{flee_added, flee_again, flee_body, flee_called, flee_code, flee_entry}
use Rattle.jump_runs.specs.UnitRows.{flee_environment, flee_first, flee_function, flee_image, flee_inner, flee_jump}
use Rattle.jump_runs.specs.UnitRows.{flee_label, flee_last, flee_main, flee_on, flee_program, flee_rest, flee_return}
use Rattle.jump_runs.specs.UnitRows.{flee_spot, flee_stop, flee_twice, flee_unit, inner_body, inner_entry}
use Rattle.jump_runs.specs.UnitRows.{inner_environment, inner_rest}
use Rattle.jump_runs.proofs.Errors.{past_system}
use Rattle.jump_runs.proofs.FunctionLists.{all_ends, system_ends}
use Rattle.jump_runs.proofs.Functions.{jump_function_does}
use Rattle.jump_runs.proofs.Numbers.{function_ancestor, function_number}
use Rattle.jump_runs.proofs.UnitRowCode.{flee_start, start_linked, raise_linked, main_linked}
use Rattle.jump_runs.proofs.UnitRowCode.{flee_finish, inner_linked, body_linked, inner_body_linked}

-- ---- the main procedure's variable

one_differs : AllDiffer (map template_of (table_of flee_program))
one_differs = differs_alone (map template_of (table_of flee_program)) _ refl refl

abbrev pub flee_whole : (input : List ℕ) → (acts : ℕ) → Whole
flee_whole input acts =
    record {
      image = flee_image input acts;
      program = flee_program;
      main = flee_main;
      others = flee_function ∷ [];
      environment = flee_environment;
      entry = flee_entry;
      end = flee_finish;
      made = newest_made image_parts W.number_declared;
    }

flee_only :
    (input : List ℕ) (acts : ℕ) →
    IsOnly (surroundings_of (flee_image input acts)) (main_of (flee_whole input acts))
    (start_point (flee_image input acts)) no_numbers W.number_declared
flee_only input acts =
    let n = linked_length (links_of flee_code) 0 flee_code in
    record {
      kind = refl;
      variables = refl;
      class = refl;
      evaluations = refl;
      first = refl;
      code = refl;
      made = refl;
      table = refl;
      parts = refl;
      few = omega arith;
      declared = record {
        newest = refl;
        here = refl;
        holds = omega arith;
        size = omega arith;
        fits = omega arith;
        even = refl;
        low = omega (arith, n);
        shape = refl;
        number = omega arith;
        initial = refl;
        none = refl;
        plain = refl;
        fixed = refl;
        values = (tt, tt);
        valued = number_valued;
        limit = refl;
      };
    }

abbrev pub flee_block : (input : List ℕ) → (acts : ℕ) → Block
flee_block input acts =
    block_at (surroundings_of (flee_image input acts)) (linked_code flee_code) (main_of (flee_whole input acts))
    (start_point (flee_image input acts)) no_numbers

flee_number : (input : List ℕ) (acts : ℕ) → IsNumber (flee_block input acts) flee_spot
flee_number input acts =
    record {
      initial = [];
      declared = refl;
      serial = 1;
      binding = refl;
      living = K.living_at 1 1 (D.generation_for W.number_declared);
      lives = refl;
      shape = refl;
      base = _;
      frame = inl (refl, refl);
      at = refl;
      low = omega arith;
      inside = omega arith;
    }

-- ---- the procedure inside

abbrev routines : Routines (links_of flee_code) (linked_code flee_code)
routines = record { at = size_of (start_of 0); linked = raise_linked; condition = refl; end = omega arith }

abbrev again_index : ℕ
again_index = flee_start + size_of (stmt_code flee_environment none_taken flee_first)

abbrev stop_index : ℕ
stop_index = again_index + size_of (stmt_code flee_environment none_taken flee_again)

abbrev last_index : ℕ
last_index = stop_index + size_of (stmt_code flee_environment none_taken (Y.Stop 7))

abbrev pub flee_callee : (more : ℕ) → Callee
flee_callee more =
    record {
      procedure = flee_inner;
      calling = record {
        parent = 1;
        call = 0;
        entry = inner_entry;
        end = flee_on + size_of (stmts_code inner_environment none_taken inner_body) + size_of (no_value 2);
      };
      environment = inner_environment;
      made = λ q. q;
      around = record { program = flee_program; enter = entered flee_program more; turns = suc more; line = 0 };
    }

inner_is :
    (input : List ℕ) (acts more : ℕ) → acts + 1 < 2 ^ 64 →
    IsFunction (surroundings_of (flee_image input acts)) (linked_code flee_code) (flee_callee more)
inner_is input acts more few =
    record {
      level = omega arith;
      line = omega arith;
      saved = omega arith;
      place = refl;
      stands = inner_linked;
      end = refl;
      kind = refl;
      labels = (λ label e. absurd (cc e), (λ label e. absurd (cc e), λ label e. absurd (cc e)));
      acts = few;
      routines = routines;
      raises = refl;
    }

inner_made :
    (input : List ℕ) (acts more call : ℕ) (p : Point) (numbers : ℕ → ℕ) →
    AreMade (surroundings_of (flee_image input acts)) (linked_code flee_code) (called_from (flee_callee more) call) p
    numbers
inner_made input acts more call p numbers =
    let c = called_from (flee_callee more) call in
    P.none_made (surroundings_of (flee_image input acts)) (linked_code flee_code) c p numbers refl refl (refl, refl)

abbrev flee_labels : List Label
flee_labels = flee_label ∷ []

-- around the expression that calls it
abbrev six : (input : List ℕ) → (acts : ℕ) → Setting
six input acts = setting_of (flee_block input acts) flee_labels 6 200

abbrev inner_block : (input : List ℕ) → (acts more call : ℕ) → Point → (numbers : ℕ → ℕ) → Block
inner_block input acts more call p numbers =
    function_in (six input acts) (called_from (flee_callee more) call) p numbers

inner_system :
    (input : List ℕ) (acts more call : ℕ) (p : Point) (numbers : ℕ → ℕ) (condition : Condition) →
    IsAmong (flee_block input acts) numbers p →
    IsSystem (force (flee_block input acts).first.state.activations condition) →
    IsSystem (force (inner_block input acts more call p numbers).first.state.activations condition)
inner_system input acts more call p numbers condition o h =
    subst (λ xs. IsSystem (force xs condition)) (sym o.later.activations) h

-- the main procedure declares it
inside_is :
    (input : List ℕ) (acts more call : ℕ) → IsBegun (flee_block input acts) →
    IsInside (flee_block input acts) (called_from (flee_callee more) call) flee_spot
inside_is input acts more call b =
    record {
      begun = b;
      level = refl;
      parent = refl;
      inner = refl;
      further = omega arith;
      few = omega arith;
      program = refl;
      parts = refl;
    }

inner_number :
    (input : List ℕ) (acts more call : ℕ) (p : Point) (numbers : ℕ → ℕ) → IsBegun (flee_block input acts) →
    IsAmong (flee_block input acts) numbers p → IsBegun (inner_block input acts more call p numbers) →
    IsNumber (inner_block input acts more call p numbers) flee_spot
inner_number input acts more call p numbers b o b' =
    function_number [] (six input acts) (called_from (flee_callee more) call) flee_spot
    (inside_is input acts more call b) (flee_number input acts) p numbers o
    (inner_made input acts more call p numbers) b'

-- ---- its block with the units that it has by then

abbrev past_block : (input : List ℕ) → (acts more call : ℕ) → Past → Point → (numbers : ℕ → ℕ) → Block
past_block input acts more call past p numbers = after (inner_block input acts more call p numbers) past

abbrev Known : (input : List ℕ) → (acts more call : ℕ) → Past → Point → (numbers : ℕ → ℕ) → Type 0
Known input acts more call past p numbers =
    IsPast (inner_block input acts more call p numbers) inner_body flee_on past

past_begun :
    (input : List ℕ) (acts more call : ℕ) (past : Past) (p : Point) (numbers : ℕ → ℕ) →
    IsBegun (inner_block input acts more call p numbers) → Known input acts more call past p numbers →
    IsBegun (past_block input acts more call past p numbers)
past_begun input acts more call past p numbers b known =
    begun_after (inner_block input acts more call p numbers) inner_body flee_on past b known

past_number :
    (input : List ℕ) (acts more call : ℕ) (past : Past) (p : Point) (numbers : ℕ → ℕ) →
    IsBegun (flee_block input acts) → IsAmong (flee_block input acts) numbers p →
    IsBegun (inner_block input acts more call p numbers) →
    IsNumber (past_block input acts more call past p numbers) flee_spot
past_number input acts more call past p numbers b o b' =
    past_numbers (inner_block input acts more call p numbers) past flee_spot
    (inner_number input acts more call p numbers b o b')

on_linked :
    Linked (links_of flee_code) (linked_code flee_code) flee_on
    (stmt_code inner_environment none_taken (on_of flee_unit))
on_linked =
    front_of (stmt_code inner_environment none_taken (on_of flee_unit))
    (stmts_code inner_environment none_taken inner_rest) inner_body_linked

on_is :
    (input : List ℕ) (acts more call : ℕ) (past : Past) (p : Point) (numbers : ℕ → ℕ) → acts + 1 < 2 ^ 64 →
    IsBegun (inner_block input acts more call p numbers) → Known input acts more call past p numbers →
    IsOn (past_block input acts more call past p numbers) flee_unit flee_on
on_is input acts more call past p numbers few b known =
    record {
      act = record { line_fits = omega arith; acts = few };
      begun = past_begun input acts more call past p numbers b known;
      statement = on_linked;
      place = (0, refl);
    }

-- ---- its unit

abbrev flee_standing : (more : ℕ) → Standing
flee_standing more =
    record {
      unit = flee_unit;
      words = unit_words inner_environment flee_unit.head Y.SimpleUnit flee_unit.body;
      saved = unit_held inner_environment flee_unit.head Y.SimpleUnit flee_unit.body;
      variables = unit_variables (unit_environment flee_unit.head inner_environment) flee_unit.head Y.SimpleUnit;
      entry = unit_index flee_unit flee_on;
      environment = unit_environment flee_unit.head inner_environment;
      around = record { program = flee_program; enter = entered flee_program more; turns = suc more; line = 0 };
      made = λ q. q;
    }

unit_linked :
    (more : ℕ) →
    Linked (links_of flee_code) (linked_code flee_code) (unit_index flee_unit flee_on)
    (standing_code (flee_standing more))
unit_linked more =
    let over = OffsetAhead a1 5 ∷ condition_given C.FixedOverflow
    ∷ small a7 28 ∷ Plain I.Ecall ∷ JumpAhead (size_of (standing_code (flee_standing more))) ∷ [] in
    back_of over (standing_code (flee_standing more))
    (back_of (act_code 3) (over ++ standing_code (flee_standing more)) on_linked)

abbrev return_setting : (input : List ℕ) → (more call : ℕ) → Past → Point → (numbers : ℕ → ℕ) → Setting
return_setting input more call past p numbers =
    setting_of (past_block input (suc (suc more)) (suc more) call past p numbers) [] 4 200

abbrev with_on : Past → Past
with_on past = (flee_unit, flee_on) ∷ past

own_raise :
    (input : List ℕ) (more call : ℕ) (p : Point) (numbers : ℕ → ℕ) → suc (suc more) + 1 < 2 ^ 64 →
    IsAmong (flee_block input (suc (suc more))) numbers p →
    IsOwnRaise (inner_block input (suc (suc more)) (suc more) call p numbers) (flee_standing more) 200 more
own_raise input more call p numbers few o =
    let as' = o.later.activations in
    let ls = o.later.layers in
    let acts = o.later.acts in
    let parts = image_parts in
    let x = flee_standing more in
    record {
      routines = routines;
      room = subst (λ φs. frame_for parts φs flee_inner + fixed_size 1 0 + temporary_bytes x.words + fixed_size 2 0
          ≤ lower_end parts φs) (sym ls) (omega arith);
      shallow = subst (λ xs. nat_lt (suc (length xs)) most_activations ≡ true) (sym as') refl;
      only = λ at stands. only_place (unit_of flee_unit) (4 * unit_index flee_unit flee_on) at stands;
      some = omega arith;
      stands = unit_linked more;
      labels = (λ label e. absurd (cc e), λ label e. absurd (cc e));
      kind = inl refl;
      level = refl;
      few = omega arith;
      line = omega arith;
      saved = omega arith;
      acts = few;
      enter = refl;
      around = refl;
      enough = omega (arith, acts);
      paid = omega arith;
    }

-- it jumps to the label of the main procedure
abbrev flee_far : (input : List ℕ) → (acts : ℕ) → Far
flee_far input acts =
    record {
      behind = 1;
      outer = as_outer (flee_block input acts) flee_labels;
      rest = [];
      level = 0;
      label = flee_label;
      at = last_index;
    }

unit_each :
    (input : List ℕ) (more call : ℕ) (past : Past) (p : Point) (numbers : ℕ → ℕ) → suc (suc more) + 1 < 2 ^ 64 →
    IsBegun (flee_block input (suc (suc more))) → IsAmong (flee_block input (suc (suc more))) numbers p →
    IsBegun (inner_block input (suc (suc more)) (suc more) call p numbers) →
    (h : IsRaised (return_setting input more call (with_on past) p numbers) (flee_standing more) more) →
    h.by.height ≡ own_height (inner_block input (suc (suc more)) (suc more) call p numbers) →
    UnitDoes (return_setting input more call (with_on past) p numbers) (flee_standing more) more h
unit_each input more call past p numbers few b o b' h own r is =
    let k = return_setting input more call (with_on past) p numbers in
    let acts = suc (suc more) in
    let inner = inner_block input acts (suc more) call p numbers in
    let x = flee_standing more in
    let u = unit_block k x r in
    let like = past_like inner (with_on past) in
    let made = none_made k x r (record { kind = inl refl; code = refl; made = refl }) in (
      made,
      λ b''. (
        far_does u [] (flee_far input acts) 3 (list_index x) left_over (record { line_fits = omega arith; acts = few })
            (record {
              begun = b'';
              there = refl;
              carried = refl;
              own = refl;
              inner = omega arith;
              few = omega arith;
              found = ap height_of (same_ancestor 0 (unit_over k x more h r
                  (record { own = own; level = refl; inner = refl; program = refl; parts = refl }) is made b'') h.begun
                  is.among (omega arith))
                  ∙ like.ancestors 0
                  ∙ ap height_of (function_ancestor [] (six input acts) (called_from (flee_callee (suc more)) call)
                  flee_spot (inside_is input acts (suc more) call b) p numbers o
                  (inner_made input acts (suc more) call p numbers) b');
              registers = omega arith;
              entries = refl;
              edits = refl;
              top = refl;
              block = refl;
              place = refl;
              near = omega arith;
            })
            (front_of (stmt_code x.environment none_taken flee_jump) []
            (front_of (S.list_code x) (unit_mark flee_unit.head Y.SimpleUnit ++ unit_left x.words x.saved)
            (back_of (act_code 3) _ (back_of x.variables _ (back_of (S.begin_of x) _ (unit_linked more)))))),
        tt,
      ),
    )

-- ---- its RETURN, with the unit in force or without one

one_on :
    (input : List ℕ) (acts more call : ℕ) (p : Point) (numbers : ℕ → ℕ) (e : OnUnit × ℕ) →
    StandsIn (inner_block input acts more call p numbers) inner_body flee_on e → e ≡ (flee_unit, flee_on)
one_on input acts more call p numbers e (inl here) =
    ap (λ x. (x, e.1)) (sym (unit_same flee_unit e.0 here.0)) ∙ ap (λ n. (flee_unit, n)) here.1
one_on input acts more call p numbers e (inr (inl here)) = absurd (cc here.0)
one_on input acts more call p numbers e (inr (inr none)) = absurd none

abbrev return_index : ℕ
return_index = flee_on + size_of (stmt_code inner_environment none_taken (on_of flee_unit))

return_by :
    (input : List ℕ) (more call : ℕ) (past : Past) (p : Point) (numbers : ℕ → ℕ) → suc (suc more) + 1 < 2 ^ 64 →
    IsBegun (past_block input (suc (suc more)) (suc more) call past p numbers) →
    IsNumber (past_block input (suc (suc more)) (suc more) call past p numbers) flee_spot →
    OverflowComes (return_setting input more call past p numbers) →
    Does (past_block input (suc (suc more)) (suc more) call past p numbers) [] flee_return return_index left_over
return_by input more call past p numbers few b number over =
    let k = past_block input (suc (suc more)) (suc more) call past p numbers in
    let s = return_setting input more call past p numbers in
    let n = linked_length (links_of flee_code) 0 flee_code in
    let operand = variable_does s flee_spot b number in
    return_does k [] flee_twice 4 return_index left_over 1 200
    (record {
      act = record { line_fits = omega arith; acts = few };
      begun = b;
      owner = refl;
      end = refl;
      near = omega arith;
      enough = omega arith;
      function = refl;
      registers = omega arith;
      held = omega arith;
      kind = refl;
      saved = omega arith;
      statement = front_of (stmt_code inner_environment none_taken flee_return) []
          (back_of (stmt_code inner_environment none_taken (on_of flee_unit))
          (stmts_code inner_environment none_taken inner_rest) inner_body_linked);
      paid = omega (arith, n);
    })
    (sum_does s (Y.NumberIn (whole flee_spot)) (Y.NumberIn (whole flee_spot)) 0 0 over operand operand)

return_with :
    (input : List ℕ) (more call : ℕ) (past : Past) (p : Point) (numbers : ℕ → ℕ) → suc (suc more) + 1 < 2 ^ 64 →
    IsBegun (flee_block input (suc (suc more))) → IsAmong (flee_block input (suc (suc more))) numbers p →
    IsBegun (inner_block input (suc (suc more)) (suc more) call p numbers) →
    Known input (suc (suc more)) (suc more) call (with_on past) p numbers →
    Does (past_block input (suc (suc more)) (suc more) call (with_on past) p numbers) [] flee_return return_index
    left_over
return_with input more call past p numbers few b o b' known =
    let acts = suc (suc more) in
    let r = own_raised (inner_block input acts (suc more) call p numbers) inner_body flee_on [] (flee_standing more)
    flee_on 4 200 more past b' known (own_raise input more call p numbers few o) in
    return_by input more call (with_on past) p numbers few
    (past_begun input acts (suc more) call (with_on past) p numbers b' known)
    (past_number input acts (suc more) call (with_on past) p numbers b o b')
    (overflow_returns (return_setting input more call (with_on past) p numbers) (flee_standing more) more r.0
    (unit_each input more call past p numbers few b o b' r.0 r.1) refl)

inner_returns :
    (input : List ℕ) (more call : ℕ) (past : Past) (p : Point) (numbers : ℕ → ℕ) → suc (suc more) + 1 < 2 ^ 64 →
    IsBegun (flee_block input (suc (suc more))) → IsAmong (flee_block input (suc (suc more))) numbers p →
    IsBegun (inner_block input (suc (suc more)) (suc more) call p numbers) →
    Known input (suc (suc more)) (suc more) call past p numbers →
    Does (past_block input (suc (suc more)) (suc more) call past p numbers) [] flee_return return_index left_over
inner_returns input more call [] p numbers few b o b' known =
    let acts = suc (suc more) in
    return_by input more call [] p numbers few b' (inner_number input acts (suc more) call p numbers b o b')
    (overflow_ends (return_setting input more call [] p numbers)
    (record {
      routines = routines;
      overflow = inner_system input acts (suc more) call p numbers C.FixedOverflow o tt;
      error = inner_system input acts (suc more) call p numbers C.Error o tt;
      acts = few;
      most = omega arith;
    }))
inner_returns input more call (e ∷ past) p numbers few b o b' known =
    subst (λ x. Known input (suc (suc more)) (suc more) call (x ∷ past) p numbers →
    Does (past_block input (suc (suc more)) (suc more) call (x ∷ past) p numbers) [] flee_return return_index left_over)
    (sym (one_on input (suc (suc more)) (suc more) call p numbers e known.1))
    (return_with input more call past p numbers few b o b') known

inner_all :
    (input : List ℕ) (more call : ℕ) (p : Point) (numbers : ℕ → ℕ) → suc (suc more) + 1 < 2 ^ 64 →
    IsBegun (flee_block input (suc (suc more))) → IsAmong (flee_block input (suc (suc more))) numbers p →
    IsBegun (inner_block input (suc (suc more)) (suc more) call p numbers) →
    AllDo (inner_block input (suc (suc more)) (suc more) call p numbers) inner_body flee_on inner_body flee_on left_over
inner_all input more call p numbers few b o b' =
    let acts = suc (suc more) in (
      inl (flee_unit, refl, λ past known. on_is input acts (suc more) call past p numbers few b' known),
      (inr (λ past known. inner_returns input more call past p numbers few b o b' known), tt),
    )

-- where no second act is allowed it isn't called
inner_does :
    (input : List ℕ) (more call : ℕ) (p : Point) (numbers : ℕ → ℕ) → suc more + 1 < 2 ^ 64 →
    IsBegun (flee_block input (suc more)) → IsAmong (flee_block input (suc more)) numbers p →
    IsFunctionList (inner_block input (suc more) more call p numbers) inner_body (body_index (flee_callee more)) →
    FunctionDoes (inner_block input (suc more) more call p numbers) inner_body (body_index (flee_callee more))
inner_does input zero call p numbers few b o z =
    let allowed = z.begun.resumes.stands.allowed in
    let acts = o.later.acts in
    absurd (omega (arith, allowed, acts))
inner_does input (suc more) call p numbers few b o z =
    let k = inner_block input (suc (suc more)) (suc more) call p numbers in
    all_ends k inner_body flee_on z
    (λ label e. absurd (cc e), (λ label e. absurd (cc e), λ label e. absurd (cc e)))
    (inner_all input more call p numbers few b o z.begun)
    (λ past known. system_ends k inner_body flee_on past z
    (past_system k inner_body flee_on past (tt, (tt, tt)) known
    (inner_system input (suc (suc more)) (suc more) call p numbers C.Error o tt)))

-- ---- the call

-- X waits in a register while the function runs
called_is :
    (input : List ℕ) (more : ℕ) → suc more + 1 < 2 ^ 64 → IsBegun (flee_block input (suc more)) →
    L.Does (six input (suc more)) 0 flee_called
called_is input more few b =
    jump_function_does [] (six input (suc more)) (flee_callee more) more
    (record {
      begun = b;
      function = inner_is input (suc more) more few;
      room = record { room = omega arith; shallow = refl; parent = (omega arith, refl); idle = refl };
      level = refl;
      parent = refl;
      found = refl;
      enter = refl;
      around = refl;
      enough = omega arith;
      most = omega arith;
      words = omega arith;
    })
    (λ call p numbers o. inner_made input (suc more) more call p numbers)
    (λ call p numbers o z. inner_does input more call p numbers few b o z)

rest_linked :
    Linked (links_of flee_code) (linked_code flee_code) again_index
    (stmts_code flee_environment none_taken flee_rest)
rest_linked =
    back_of (stmt_code flee_environment none_taken flee_first)
    (stmts_code flee_environment none_taken flee_rest) body_linked

stop_linked :
    Linked (links_of flee_code) (linked_code flee_code) stop_index
    (stmts_code flee_environment none_taken flee_stop)
stop_linked =
    back_of (stmt_code flee_environment none_taken flee_again) (stmts_code flee_environment none_taken flee_stop)
    rest_linked

again_is :
    (input : List ℕ) (acts : ℕ) → acts + 1 < 2 ^ 64 → IsBegun (flee_block input acts) →
    IsAssignment (flee_block input acts) flee_spot flee_added 6 again_index 1 200
again_is input acts few b =
    let n = linked_length (links_of flee_code) 0 flee_code in
    record {
      act = record { line_fits = omega arith; acts = few };
      begun = b;
      number = flee_number input acts;
      registers = omega arith;
      held = omega arith;
      statement = front_of (stmt_code flee_environment none_taken flee_again)
          (stmts_code flee_environment none_taken flee_stop) rest_linked;
      paid = omega (arith, n);
    }

again_does :
    (input : List ℕ) (acts : ℕ) → acts + 1 < 2 ^ 64 → IsBegun (flee_block input acts) →
    Does (flee_block input acts) flee_labels flee_again again_index left_over
again_does input zero few b = none_does (flee_block input zero) flee_labels flee_again again_index left_over b refl
again_does input (suc more) few b =
    let k = flee_block input (suc more) in
    let over : OverflowComes (six input (suc more)) = overflow_ends (six input (suc more))
    (record { routines = routines; overflow = tt; error = tt; acts = few; most = omega arith }) in
    assign_does k flee_labels flee_spot flee_added 6 again_index left_over 1 200 (again_is input (suc more) few b)
    (sum_does (six input (suc more)) (Y.NumberIn (whole flee_spot)) flee_called 0 0 over
    (variable_does (six input (suc more)) flee_spot b (flee_number input (suc more))) (called_is input more few b))

-- ---- the main procedure

start_is :
    (input : List ℕ) (acts : ℕ) → acts + 1 < 2 ^ 64 → IsBegun (flee_block input acts) →
    IsAssignment (flee_block input acts) flee_spot (Y.NumberConstant 2147483647) 5 flee_start 0 200
start_is input acts few b =
    let n = linked_length (links_of flee_code) 0 flee_code in
    record {
      act = record { line_fits = omega arith; acts = few };
      begun = b;
      number = flee_number input acts;
      registers = omega arith;
      held = omega arith;
      statement = front_of (stmt_code flee_environment none_taken flee_first)
          (stmts_code flee_environment none_taken flee_rest) body_linked;
      paid = omega (arith, n);
    }

pub flee_each :
    (input : List ℕ) (acts : ℕ) → acts + 1 < 2 ^ 64 → IsBegun (flee_block input acts) →
    EachDoes (flee_block input acts) (flee_label ∷ []) flee_body (body_index (main_of (flee_whole input acts)))
    left_over
flee_each input acts few b =
    let k = flee_block input acts in (
      assign_does k flee_labels flee_spot (Y.NumberConstant 2147483647) 5 flee_start left_over 0 200
          (start_is input acts few b) (constant_does (setting_of k flee_labels 5 200) 2147483647 (omega arith)),
      (
        again_does input acts few b,
        (
          stop_does k 7 stop_index left_over (record { line_fits = omega arith; acts = few })
              (front_of (stmt_code flee_environment none_taken (Y.Stop 7))
              (stmts_code flee_environment none_taken flee_last) stop_linked) flee_labels,
          (
            null_does k 8 last_index left_over (record { line_fits = omega arith; acts = few })
                (front_of (stmt_code flee_environment none_taken (Y.Null 8)) []
                (rest_of _ _
                (back_of (stmt_code flee_environment none_taken (Y.Stop 7))
                (stmts_code flee_environment none_taken flee_last) stop_linked))) flee_labels,
            tt,
          ),
        ),
      ),
    )

-- ---- the whole

pub flee_is : (input first : List ℕ) (acts : ℕ) → acts + 1 < 2 ^ 64 → length first ≡ memory_size →
    IsWhole (flee_whole input acts) first
flee_is input first acts few bytes =
    let l = back_of (first_frame image_parts) (main_called 0) start_linked in
    record {
      start = record { linked = start_linked; differ = one_differs; bytes = bytes; told = λ n v e. absurd (cc e) };
      made = one_made (surroundings_of (flee_image input acts)) (linked_code flee_code)
          (main_of (flee_whole input acts)) (start_point (flee_image input acts)) no_numbers W.number_declared
          (flee_only input acts);
      callee = record {
        coded = record { level = omega arith; line = omega arith; saved = omega arith; back = omega arith };
        calls = first_of (CallTo (ProcedureEntry 0)) _ (rest_of _ _ (rest_of _ _ (rest_of _ _ l)));
        place = refl;
        stands = main_linked;
        end = refl;
        kind = refl;
        labels = (
          λ label e. absurd (cc e),
          (
            λ label e. absurd (cc e),
            (
              λ label e. absurd (cc e),
              (one_label_stands (links_of flee_code) last_index refl, λ label e. absurd (cc e)),
            ),
          ),
        );
        acts = few;
      };
      room = record { room = omega arith; shallow = refl; parent = tt; idle = refl };
      level = refl;
      procedures = refl;
      statics = refl;
    }

pub flee_runs :
    Keeps run_keeper → (input first : List ℕ) (acts : ℕ) → acts + 1 < 2 ^ 64 → length first ≡ memory_size →
    Comes (linked_code flee_code) 0 (first_family first (services_of (start_point (flee_image input acts))))
    (services_of (start_point (flee_image input acts))) (never_in (flee_image input acts))
    (run flee_program (suc acts) acts (first_state input))
flee_runs keeps input first acts few bytes =
    program_runs keeps (flee_whole input acts) first (flee_is input first acts few bytes)
    (λ b. flee_each input acts few b)

-- ---- what the program comes to

unfoldable flows : Unit {0}
unfolding F.give F.◌>>=◌ F.◌>>◌ F.looked F.stored F.act F.finish F.returns F.jumps F.choose F.given F.list_from
    F.leaving
flows = tt

unfoldable values : Unit {0}
unfolding V.number V.designated V.located V.numbers V.variable_designated V.part_designated V.stored_value R.or_error
    R.demanded R.value_of R.raised R.unit_run R.error R.error_unit_run Pl.element_stored M.assigned
values = tt

unfoldable calls : Unit {0}
unfolding V.called V.arguments V.all_passed_last V.procedure_entered V.returned K.variables_made K.automatic_made
    K.extents K.variable_made K.parameters_bound
calls = tt

unfoldable statements : Unit {0}
unfolding M.statement M.statements M.list M.list_with M.block_variables_made M.entry_act M.block_list M.block_body
    M.established_by
statements = tt

pub flee_ends :
    (input : List ℕ) →
    M.meaning flee_program input 11
    ≡ Some (record { acts = 11; output = []; raised = (C.FixedOverflow, 20) ∷ []; end = E.Finished })
unfolding M.meaning M.run M.entered M.block_run flows values calls statements
flee_ends input = refl
