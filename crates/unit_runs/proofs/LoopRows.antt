-- The worked row: all that is premised of the program is computed.
use Rattle.std.proofs.Common.{◌≡◌, ℕ, zero, suc, ◌+◌, ◌*◌, ◌^◌, ◌<◌, List, [], ◌∷◌, ◌++◌, inl, inr, length, map, Some}
use Rattle.std.proofs.Common.{Bool, true, false, refl, sym, ap, ◌∙◌, subst, arith}
use Rattle.std.proofs.lemmas.Bool.{eqb-true}
use Rattle.std.specs.Prelude.{◌&&◌, ◌||◌, ◌==◌}
use Rattle.rv_meaning.specs.declared.instr.Instr.TheVariants as I
use Rattle.rv_meaning.specs.Machine.{memory_size}
use Rattle.pli_language.specs.declared.condition.Condition.TheVariants as C
use Rattle.pli_typing.specs.TypedTree as Y
use Rattle.pli_meaning.specs.declared.outcome.End.TheVariants as E
use Rattle.pli_meaning.specs.Control as F
use Rattle.pli_meaning.specs.Control.{Label, is_among}
use Rattle.pli_meaning.specs.Evaluating as V
use Rattle.pli_meaning.specs.Executing as M
use Rattle.pli_meaning.specs.Executing.{entered, run}
use Rattle.pli_meaning.specs.Making as K
use Rattle.pli_meaning.specs.Placing as P
use Rattle.pli_meaning.specs.Raising as R
use Rattle.pli_meaning.specs.StorageState.{first_state, height_of}
use Rattle.area_keeper.specs.KeeperLaws.{Keeps}
use Rattle.run_keeper.specs.RunKeeper.{run_keeper}
use Rattle.pli_serving.specs.Templates.{template_of}
use Rattle.pli_coding.specs.Allocating.{act_code}
use Rattle.pli_coding.specs.Assembly.{CallTo, JumpAhead, LabelPlace, Mark, OffsetAhead, Plain, ProcedureEntry}
use Rattle.pli_coding.specs.Assembly.{ReturnPlace, size_of}
use Rattle.pli_coding.specs.Environments.{none_taken}
use Rattle.pli_coding.specs.Images.{first_frame, linked_code, raise_code}
use Rattle.pli_coding.specs.Frames.{frame_end}
use Rattle.pli_coding.specs.Instructions.{small}
use Rattle.pli_coding.specs.Linking.{links_of, place_of}
use Rattle.pli_coding.specs.Registers.{a1, a7}
use Rattle.pli_coding.specs.SignatureTable.{table_of}
use Rattle.pli_coding.specs.Statements.{stmt_code, stmts_code, unit_environment, unit_held, unit_variables}
use Rattle.pli_coding.specs.Statements.{condition_given, unit_left, unit_mark, unit_words}
use Rattle.storage_relation.specs.Served.{AllDiffer}
use Rattle.activation_relation.specs.Layers.{services_of}
use Rattle.run_steps.specs.Items.{Linked}
use Rattle.run_steps.proofs.Jumps.{back_of, first_of, front_of, rest_of}
use Rattle.run_steps.proofs.Linking.{has_items, linked_length}
use Rattle.run_steps.specs.Reach.{Comes}
use Rattle.program_runs.specs.Calls.{block_at, left_over}
use Rattle.program_runs.specs.Procedures.{begin_of, end_of, procedure_code}
use Rattle.program_runs.specs.Programs.{IsWhole, Whole, main_of}
use Rattle.program_runs.specs.Starts.{first_family, image_parts, main_called, no_numbers, start_of, start_point}
use Rattle.program_runs.specs.Starts.{never_in}
use Rattle.program_runs.specs.Starts.{surroundings_of}
use Rattle.program_runs.specs.Statements.{AreMarked, Block, Does, IsBegun, StandAt, as_outer, own_height}
use Rattle.program_runs.specs.Variables as D
use Rattle.program_runs.specs.Variables.{IsOnly, newest_made}
use Rattle.program_runs.specs.VariableRows as W
use Rattle.program_runs.proofs.Rows.{is_datum, names_none, none_named}
use Rattle.program_runs.proofs.Statements.{none_does, null_does}
use Rattle.program_runs.proofs.Gotos.{goto_does}
use Rattle.program_runs.proofs.VariableProcedures.{one_made}
use Rattle.program_runs.proofs.VariableRows.{differs_alone, number_valued}
use Rattle.expression_runs.specs.Assignments.{setting_of}
use Rattle.expression_runs.specs.Raises.{Routines}
use Rattle.expression_runs.specs.Values.{OverflowComes, Setting}
use Rattle.expression_runs.specs.Variables.{IsNumber, whole}
use Rattle.expression_runs.proofs.Assignments.{assign_does}
use Rattle.expression_runs.proofs.Operands.{constant_does}
use Rattle.expression_runs.proofs.Raises.{overflow_ends}
use Rattle.expression_runs.proofs.Sums.{sum_does}
use Rattle.expression_runs.proofs.VariablePoints.{variable_does}
use Rattle.function_runs.proofs.OuterVariables.{same_ancestor}
use Rattle.begin_runs.specs.FarGotos.{Far}
use Rattle.begin_runs.proofs.FarGotos.{far_does}
use Rattle.unit_runs.specs.Bodies.{BodyDoes}
use Rattle.unit_runs.specs.Changing.{AllDo, IsOwnRaise, IsPast, Past, StandsIn, after}
use Rattle.unit_runs.specs.Establishing.{IsOn, OnUnit, on_of, unit_index, unit_of}
use Rattle.unit_runs.specs.LoopRows.{loop_again, loop_back, loop_body, loop_code, loop_coded, loop_end, loop_entry}
use Rattle.unit_runs.specs.LoopRows.{loop_environment, loop_first, loop_image, loop_jump, loop_label, loop_last}
use Rattle.unit_runs.specs.LoopRows.{loop_main, loop_on, loop_program, loop_rest, loop_spot, loop_start, loop_turn}
use Rattle.unit_runs.specs.LoopRows.{loop_twice, loop_unit, out_label}
use Rattle.unit_runs.specs.Raised as S
use Rattle.unit_runs.specs.Raised.{IsRaised, Standing, UnitDoes, list_index, standing_code, unit_block}
use Rattle.unit_runs.proofs.Bodies.{unit_program_runs}
use Rattle.unit_runs.proofs.Changing.{begun_after, changing_ends}
use Rattle.unit_runs.proofs.OwnRaises.{own_raised, past_like, past_numbers}
use Rattle.unit_runs.proofs.Rows.{only_place}
use Rattle.unit_runs.proofs.UnitRuns.{overflow_returns}
use Rattle.unit_runs.proofs.UnitVariables.{none_made, unit_over}

-- ---- its code

loop_linked : Linked (links_of loop_code) (linked_code loop_code) 0 loop_code
unfolding names_none is_datum
loop_linked =
    let n = linked_length (links_of loop_code) 0 loop_code in
    record {
      small' = omega (arith, n);
      inside = omega (arith, n);
      has = has_items (links_of loop_code) loop_code refl;
      named = λ d h. absurd (none_named d loop_code refl h);
    }

start_linked : Linked (links_of loop_code) (linked_code loop_code) 0 (start_of 0)
start_linked = front_of (start_of 0) (raise_code ++ loop_coded) loop_linked

raise_linked : Linked (links_of loop_code) (linked_code loop_code) (size_of (start_of 0)) raise_code
raise_linked = front_of raise_code loop_coded (back_of (start_of 0) (raise_code ++ loop_coded) loop_linked)

main_linked :
    Linked (links_of loop_code) (linked_code loop_code) loop_entry (procedure_code loop_environment loop_main)
main_linked =
    rest_of (Mark (ProcedureEntry 0)) (procedure_code loop_environment loop_main)
    (back_of raise_code loop_coded (back_of (start_of 0) (raise_code ++ loop_coded) loop_linked))

abbrev pub loop_finish : ℕ
loop_finish = loop_start + size_of (stmts_code loop_environment none_taken loop_body)

body_linked :
    Linked (links_of loop_code) (linked_code loop_code) loop_start
    (stmts_code loop_environment none_taken loop_body)
body_linked =
    let one = act_code 1 in
    let body = stmts_code loop_environment none_taken loop_body in
    let tail = Mark (ReturnPlace 0) ∷ end_of loop_main in
    let rest = one ++ (body ++ tail) in
    front_of body tail
    (back_of one (body ++ tail)
    (back_of loop_main.variables rest (back_of (begin_of loop_main) (loop_main.variables ++ rest) main_linked)))

rest_linked :
    Linked (links_of loop_code) (linked_code loop_code) loop_on (stmts_code loop_environment none_taken loop_rest)
rest_linked =
    back_of (stmt_code loop_environment none_taken loop_first) (stmts_code loop_environment none_taken loop_rest)
    body_linked

on_linked :
    Linked (links_of loop_code) (linked_code loop_code) loop_on
    (stmt_code loop_environment none_taken (on_of loop_unit))
on_linked =
    front_of (stmt_code loop_environment none_taken (on_of loop_unit))
    (stmts_code loop_environment none_taken loop_end) (rest_of _ _ rest_linked)

abbrev last_index : ℕ
last_index = loop_on + size_of (stmt_code loop_environment none_taken (on_of loop_unit))

last_linked :
    Linked (links_of loop_code) (linked_code loop_code) last_index (stmts_code loop_environment none_taken loop_end)
last_linked =
    back_of (stmt_code loop_environment none_taken (on_of loop_unit)) (stmts_code loop_environment none_taken loop_end)
    (rest_of _ _ rest_linked)

-- ---- its variable

one_differs : AllDiffer (map template_of (table_of loop_program))
one_differs = differs_alone (map template_of (table_of loop_program)) _ refl refl

abbrev pub loop_whole : (input : List ℕ) → (acts : ℕ) → Whole
loop_whole input acts =
    record {
      image = loop_image input acts;
      program = loop_program;
      main = loop_main;
      others = [];
      environment = loop_environment;
      entry = loop_entry;
      end = loop_finish;
      made = newest_made image_parts W.number_declared;
    }

loop_only :
    (input : List ℕ) (acts : ℕ) →
    IsOnly (surroundings_of (loop_image input acts)) (main_of (loop_whole input acts))
    (start_point (loop_image input acts)) no_numbers W.number_declared
loop_only input acts =
    let n = linked_length (links_of loop_code) 0 loop_code in
    record {
      kind = refl;
      variables = refl;
      class = refl;
      evaluations = refl;
      first = refl;
      code = refl;
      made = refl;
      table = refl;
      parts = refl;
      few = omega arith;
      declared = record {
        newest = refl;
        here = refl;
        holds = omega arith;
        size = omega arith;
        fits = omega arith;
        even = refl;
        low = omega (arith, n);
        shape = refl;
        number = omega arith;
        initial = refl;
        none = refl;
        plain = refl;
        fixed = refl;
        values = (tt, tt);
        valued = number_valued;
        limit = refl;
      };
    }

abbrev pub loop_block : (input : List ℕ) → (acts : ℕ) → Block
loop_block input acts =
    block_at (surroundings_of (loop_image input acts)) (linked_code loop_code) (main_of (loop_whole input acts))
    (start_point (loop_image input acts)) no_numbers

loop_number : (input : List ℕ) (acts : ℕ) → IsNumber (loop_block input acts) loop_spot
loop_number input acts =
    record {
      initial = [];
      declared = refl;
      serial = 1;
      binding = refl;
      living = K.living_at 1 1 (D.generation_for W.number_declared);
      lives = refl;
      shape = refl;
      base = _;
      frame = inl (refl, refl);
      at = refl;
      low = omega arith;
      inside = omega arith;
    }

-- ---- the block with the units that ON has established by then

abbrev loop_labels : List Label
loop_labels = loop_label ∷ out_label ∷ []

abbrev back_index : ℕ
back_index = last_index + size_of (stmt_code loop_environment none_taken loop_again)

abbrev out_index : ℕ
out_index = back_index + size_of (stmt_code loop_environment none_taken loop_back)

abbrev past_block : (input : List ℕ) → (acts : ℕ) → Past → Block
past_block input acts past = after (loop_block input acts) past

abbrev Known : (input : List ℕ) → (acts : ℕ) → Past → Type 0
Known input acts past = IsPast (loop_block input acts) loop_body loop_start past

past_begun :
    (input : List ℕ) (acts : ℕ) (past : Past) → IsBegun (loop_block input acts) → Known input acts past →
    IsBegun (past_block input acts past)
past_begun input acts past b known = begun_after (loop_block input acts) loop_body loop_start past b known

past_number : (input : List ℕ) (acts : ℕ) (past : Past) → IsNumber (past_block input acts past) loop_spot
past_number input acts past = past_numbers (loop_block input acts) past loop_spot (loop_number input acts)

on_is :
    (input : List ℕ) (acts : ℕ) (past : Past) → acts + 1 < 2 ^ 64 → IsBegun (loop_block input acts) →
    Known input acts past → IsOn (past_block input acts past) loop_unit loop_on
on_is input acts past few b known =
    record {
      act = record { line_fits = omega arith; acts = few };
      begun = past_begun input acts past b known;
      statement = on_linked;
      place = (0, refl);
    }

-- ---- its unit

abbrev pub loop_standing : (more : ℕ) → Standing
loop_standing more =
    record {
      unit = loop_unit;
      words = unit_words loop_environment loop_unit.head Y.SimpleUnit loop_unit.body;
      saved = unit_held loop_environment loop_unit.head Y.SimpleUnit loop_unit.body;
      variables = unit_variables (unit_environment loop_unit.head loop_environment) loop_unit.head Y.SimpleUnit;
      entry = unit_index loop_unit loop_on;
      environment = unit_environment loop_unit.head loop_environment;
      around = record { program = loop_program; enter = entered loop_program more; turns = suc more; line = 0 };
      made = λ q. q;
    }

abbrev routines : Routines (links_of loop_code) (linked_code loop_code)
routines = record { at = size_of (start_of 0); linked = raise_linked; condition = refl; end = omega arith }

unit_linked :
    (more : ℕ) →
    Linked (links_of loop_code) (linked_code loop_code) (unit_index loop_unit loop_on)
    (standing_code (loop_standing more))
unit_linked more =
    let over = OffsetAhead a1 5 ∷ condition_given C.FixedOverflow
    ∷ small a7 28 ∷ Plain I.Ecall ∷ JumpAhead (size_of (standing_code (loop_standing more))) ∷ [] in
    back_of over (standing_code (loop_standing more))
    (back_of (act_code 4) (over ++ standing_code (loop_standing more)) on_linked)

abbrev again_setting : (input : List ℕ) → (more : ℕ) → Past → Setting
again_setting input more past = setting_of (past_block input (suc more) past) loop_labels 5 200

abbrev with_on : Past → Past
with_on past = (loop_unit, loop_on) ∷ past

own_raise :
    (input : List ℕ) (more : ℕ) → suc more + 1 < 2 ^ 64 →
    IsOwnRaise (loop_block input (suc more)) (loop_standing more) 200 more
own_raise input more few =
    record {
      routines = routines;
      room = omega arith;
      shallow = refl;
      only = λ at stands. only_place (unit_of loop_unit) (4 * unit_index loop_unit loop_on) at stands;
      some = omega arith;
      stands = unit_linked more;
      labels = (λ label e. absurd (cc e), λ label e. absurd (cc e));
      kind = inl refl;
      level = refl;
      few = omega arith;
      line = omega arith;
      saved = omega arith;
      acts = few;
      enter = refl;
      around = refl;
      enough = omega arith;
      paid = omega arith;
    }

-- it jumps to the label behind the loop
abbrev loop_far : (input : List ℕ) → (more : ℕ) → Past → Far
loop_far input more past =
    record {
      behind = 0;
      outer = as_outer (past_block input (suc more) past) loop_labels;
      rest = [];
      level = 0;
      label = out_label;
      at = out_index;
    }

unit_each :
    (input : List ℕ) (more : ℕ) (past : Past) → suc more + 1 < 2 ^ 64 →
    (h : IsRaised (again_setting input more (with_on past)) (loop_standing more) more) →
    h.by.height ≡ own_height (loop_block input (suc more)) →
    UnitDoes (again_setting input more (with_on past)) (loop_standing more) more h
unit_each input more past few h own r is =
    let k = again_setting input more (with_on past) in
    let first = loop_block input (suc more) in
    let x = loop_standing more in
    let u = unit_block k x r in
    let like = past_like first (with_on past) in
    let made = none_made k x r (record { kind = inl refl; code = refl; made = refl }) in (
      made,
      λ b'. (
        far_does u [] (loop_far input more (with_on past)) 4 (list_index x) left_over
            (record { line_fits = omega arith; acts = few })
            (record {
              begun = b';
              there = refl;
              carried = refl;
              own = refl;
              inner = omega arith;
              few = omega arith;
              found = ap height_of (same_ancestor 0 (unit_over k x more h r
                  (record { own = own; level = refl; inner = refl; program = refl; parts = refl }) is made b') h.begun
                  is.among (omega arith))
                  ∙ like.ancestors 0;
              registers = omega arith;
              entries = like.entries;
              edits = like.edits;
              top = like.top ∙ sym (ap (λ n. n + frame_end (unit_environment loop_unit.head loop_environment).parts
                  loop_program 0 0) like.frame);
              block = refl;
              place = refl;
              near = omega arith;
            })
            (front_of (stmt_code x.environment none_taken loop_jump) []
            (front_of (S.list_code x) (unit_mark loop_unit.head Y.SimpleUnit ++ unit_left x.words x.saved)
            (back_of (act_code 4) _ (back_of x.variables _ (back_of (S.begin_of x) _ (unit_linked more)))))),
        tt,
      ),
    )

-- ---- the sum, with the unit in force or without one

-- there is one ON alone
pub unit_same : (x y : OnUnit) → on_of x ≡ on_of y → x ≡ y
unit_same x y e =
    let condition : x.condition ≡ y.condition = cc e in
    let head : x.head ≡ y.head = cc e in
    let body : x.body ≡ y.body = cc e in
    let line : x.line ≡ y.line = cc e in
    ap (λ c. record { condition = c; head = x.head; body = x.body; line = x.line }) condition
    ∙ ap (λ c. record { condition = y.condition; head = c; body = x.body; line = x.line }) head
    ∙ ap (λ c. record { condition = y.condition; head = y.head; body = c; line = x.line }) body
    ∙ ap (λ c. record { condition = y.condition; head = y.head; body = y.body; line = c }) line

one_on :
    (input : List ℕ) (acts : ℕ) (e : OnUnit × ℕ) → StandsIn (loop_block input acts) loop_body loop_start e →
    e ≡ (loop_unit, loop_on)
one_on input acts e (inl here) = absurd (cc here.0)
one_on input acts e (inr (inl here)) =
    ap (λ x. (x, e.1)) (sym (unit_same loop_unit e.0 here.0)) ∙ ap (λ n. (loop_unit, n)) here.1
one_on input acts e (inr (inr (inl here))) = absurd (cc here.0)
one_on input acts e (inr (inr (inr (inl here)))) = absurd (cc here.0)
one_on input acts e (inr (inr (inr (inr (inl here))))) = absurd (cc here.0)
one_on input acts e (inr (inr (inr (inr (inr none))))) = absurd none

again_by :
    (input : List ℕ) (more : ℕ) (past : Past) → suc more + 1 < 2 ^ 64 → IsBegun (loop_block input (suc more)) →
    Known input (suc more) past → OverflowComes (again_setting input more past) →
    Does (past_block input (suc more) past) loop_labels loop_again last_index left_over
again_by input more past few b known over =
    let k = past_block input (suc more) past in
    let s = again_setting input more past in
    let n = linked_length (links_of loop_code) 0 loop_code in
    let b' = past_begun input (suc more) past b known in
    let operand = variable_does s loop_spot b' (past_number input (suc more) past) in
    assign_does k loop_labels loop_spot loop_twice 5 last_index left_over 1 200
    (record {
      act = record { line_fits = omega arith; acts = few };
      begun = b';
      number = past_number input (suc more) past;
      registers = omega arith;
      held = omega arith;
      statement = front_of (stmt_code loop_environment none_taken loop_again)
          (stmts_code loop_environment none_taken loop_turn) last_linked;
      paid = omega (arith, n);
    })
    (sum_does s (Y.NumberIn (whole loop_spot)) (Y.NumberIn (whole loop_spot)) 0 0 over operand operand)

again_with :
    (input : List ℕ) (more : ℕ) (past : Past) → suc more + 1 < 2 ^ 64 → IsBegun (loop_block input (suc more)) →
    Known input (suc more) (with_on past) →
    Does (past_block input (suc more) (with_on past)) loop_labels loop_again last_index left_over
again_with input more past few b known =
    let r = own_raised (loop_block input (suc more)) loop_body loop_start loop_labels (loop_standing more) loop_on 5 200
    more past b known (own_raise input more few) in
    again_by input more (with_on past) few b known
    (overflow_returns (again_setting input more (with_on past)) (loop_standing more) more r.0
    (unit_each input more past few r.0 r.1) refl)

again_does :
    (input : List ℕ) (acts : ℕ) (past : Past) → acts + 1 < 2 ^ 64 → IsBegun (loop_block input acts) →
    Known input acts past → Does (past_block input acts past) loop_labels loop_again last_index left_over
again_does input zero past few b known =
    none_does (past_block input zero past) loop_labels loop_again last_index left_over
    (past_begun input zero past b known) refl
again_does input (suc more) [] few b known =
    again_by input more [] few b known
    (overflow_ends (again_setting input more [])
    (record { routines = routines; overflow = tt; error = tt; acts = few; most = omega arith }))
again_does input (suc more) (e ∷ past) few b known =
    subst (λ x. Known input (suc more) (x ∷ past) →
    Does (past_block input (suc more) (x ∷ past)) loop_labels loop_again last_index left_over)
    (sym (one_on input (suc more) e known.1)) (again_with input more past few b) known

-- ---- its other statements

first_does :
    (input : List ℕ) (acts : ℕ) (past : Past) → acts + 1 < 2 ^ 64 → IsBegun (loop_block input acts) →
    Known input acts past → Does (past_block input acts past) loop_labels loop_first loop_start left_over
first_does input acts past few b known =
    let k = past_block input acts past in
    let n = linked_length (links_of loop_code) 0 loop_code in
    assign_does k loop_labels loop_spot (Y.NumberConstant 536870912) 3 loop_start left_over 0 100
    (record {
      act = record { line_fits = omega arith; acts = few };
      begun = past_begun input acts past b known;
      number = past_number input acts past;
      registers = omega arith;
      held = omega arith;
      statement = front_of (stmt_code loop_environment none_taken loop_first)
          (stmts_code loop_environment none_taken loop_rest) body_linked;
      paid = omega (arith, n);
    })
    (constant_does (setting_of k loop_labels 3 100) 536870912 (omega arith))

turn_linked :
    Linked (links_of loop_code) (linked_code loop_code) back_index (stmts_code loop_environment none_taken loop_turn)
turn_linked =
    back_of (stmt_code loop_environment none_taken loop_again) (stmts_code loop_environment none_taken loop_turn)
    last_linked

null_linked :
    Linked (links_of loop_code) (linked_code loop_code) out_index (stmt_code loop_environment none_taken (Y.Null 7))
null_linked =
    front_of (stmt_code loop_environment none_taken (Y.Null 7)) []
    (rest_of _ _
    (back_of (stmt_code loop_environment none_taken loop_back) (stmts_code loop_environment none_taken loop_last)
    turn_linked))

back_does :
    (input : List ℕ) (acts : ℕ) (past : Past) → acts + 1 < 2 ^ 64 → IsBegun (loop_block input acts) →
    Known input acts past → Does (past_block input acts past) loop_labels loop_back back_index left_over
back_does input acts past few b known =
    goto_does (past_block input acts past) loop_labels loop_label 6 back_index left_over
    (record { line_fits = omega arith; acts = few })
    (record {
      begun = past_begun input acts past b known;
      carried = refl;
      level = refl;
      block = refl;
      at = loop_on;
      place = refl;
      near = omega arith;
    })
    (front_of (stmt_code loop_environment none_taken loop_back) (stmts_code loop_environment none_taken loop_last)
    turn_linked)

loop_all :
    (input : List ℕ) (acts : ℕ) → acts + 1 < 2 ^ 64 → IsBegun (loop_block input acts) →
    AllDo (loop_block input acts) loop_body loop_start loop_body loop_start left_over
loop_all input acts few b = (
  inr (λ past known. first_does input acts past few b known),
  (
    inl (loop_unit, refl, λ past known. on_is input acts past few b known),
    (
      inr (λ past known. again_does input acts past few b known),
      (
        inr (λ past known. back_does input acts past few b known),
        (
          inr (λ past known. null_does (past_block input acts past) 7 out_index left_over
              (record { line_fits = omega arith; acts = few }) null_linked loop_labels),
          tt,
        ),
      ),
    ),
  ),
)

-- ---- its labels

label_is :
    (name : ℕ) (label : Label) → is_among label ((name ∷ []) ∷ []) ≡ true → label ≡ name ∷ []
label_is name [] e = absurd (cc e)
label_is name (x ∷ []) e = by (x == name) refl e
  where
    by : (q : Bool) → (x == name) ≡ q → (q && true) || false ≡ true → x ∷ [] ≡ name ∷ []
    by true h e = ap (λ n. n ∷ []) (eqb-true x name h)
    by false h e = absurd (cc e)
label_is name (x ∷ y ∷ ys) e = by (x == name) e
  where
    by : (q : Bool) → (q && false) || false ≡ true → x ∷ y ∷ ys ≡ name ∷ []
    by true e = absurd (cc e)
    by false e = absurd (cc e)

loop_stands : StandAt (links_of loop_code) 0 (loop_label ∷ []) loop_on
loop_stands label e =
    subst (λ l. place_of (links_of loop_code) (LabelPlace 0 l) ≡ 4 * loop_on) (sym (label_is 76 label e)) refl

out_stands : StandAt (links_of loop_code) 0 (out_label ∷ []) out_index
out_stands label e =
    subst (λ l. place_of (links_of loop_code) (LabelPlace 0 l) ≡ 4 * out_index) (sym (label_is 77 label e)) refl

loop_marks : AreMarked (links_of loop_code) loop_environment loop_body loop_start
loop_marks = (
  λ label e. absurd (cc e),
  (
    loop_stands,
    (λ label e. absurd (cc e), (λ label e. absurd (cc e), (out_stands, λ label e. absurd (cc e)))),
  ),
)

-- ---- the list of the main procedure

pub loop_does :
    (input : List ℕ) (acts : ℕ) → acts + 1 < 2 ^ 64 → IsBegun (loop_block input acts) →
    BodyDoes (loop_block input acts) loop_body loop_start left_over
loop_does input acts few b =
    changing_ends (loop_block input acts) loop_body loop_start left_over
    (record {
      begun = b;
      linked = body_linked;
      end = refl;
      function = refl;
      kind = refl;
      registers = omega arith;
      outers = refl;
      enough = omega arith;
    })
    loop_marks (loop_all input acts few b)

-- ---- the whole

pub loop_is : (input first : List ℕ) (acts : ℕ) → acts + 1 < 2 ^ 64 → length first ≡ memory_size →
    IsWhole (loop_whole input acts) first
loop_is input first acts few bytes =
    let l = back_of (first_frame image_parts) (main_called 0) start_linked in
    record {
      start = record { linked = start_linked; differ = one_differs; bytes = bytes; told = λ n v e. absurd (cc e) };
      made = one_made (surroundings_of (loop_image input acts)) (linked_code loop_code)
          (main_of (loop_whole input acts)) (start_point (loop_image input acts)) no_numbers W.number_declared
          (loop_only input acts);
      callee = record {
        coded = record { level = omega arith; line = omega arith; saved = omega arith; back = omega arith };
        calls = first_of (CallTo (ProcedureEntry 0)) _ (rest_of _ _ (rest_of _ _ (rest_of _ _ l)));
        place = refl;
        stands = main_linked;
        end = refl;
        kind = refl;
        labels = loop_marks;
        acts = few;
      };
      room = record { room = omega arith; shallow = refl; parent = tt; idle = refl };
      level = refl;
      procedures = refl;
      statics = refl;
    }

pub loop_runs :
    Keeps run_keeper → (input first : List ℕ) (acts : ℕ) → acts + 1 < 2 ^ 64 → length first ≡ memory_size →
    Comes (linked_code loop_code) 0 (first_family first (services_of (start_point (loop_image input acts))))
    (services_of (start_point (loop_image input acts))) (never_in (loop_image input acts))
    (run loop_program (suc acts) acts (first_state input))
loop_runs keeps input first acts few bytes =
    unit_program_runs keeps (loop_whole input acts) first (loop_is input first acts few bytes)
    (λ b. loop_does input acts few b)

-- ---- what the program comes to

unfoldable flows : Unit {0}
unfolding F.give F.◌>>=◌ F.◌>>◌ F.looked F.stored F.act F.finish F.returns F.jumps F.choose F.given F.list_from
    F.leaving
flows = tt

unfoldable values : Unit {0}
unfolding V.number V.designated V.located V.numbers V.variable_designated V.part_designated V.stored_value R.or_error
    R.demanded R.value_of R.raised R.unit_run R.error R.error_unit_run P.element_stored M.assigned
values = tt

unfoldable makings : Unit {0}
unfolding K.variables_made K.automatic_made K.extents K.variable_made K.parameters_bound
makings = tt

unfoldable statements : Unit {0}
unfolding M.statement M.statements M.list M.list_with M.block_variables_made M.entry_act M.block_list M.block_body
    M.established_by
statements = tt

pub loop_ends :
    (input : List ℕ) →
    M.meaning loop_program input 12
    ≡ Some (record { acts = 12; output = []; raised = (C.FixedOverflow, 20) ∷ []; end = E.Finished })
unfolding M.meaning M.run M.entered M.block_run flows values makings statements
loop_ends input = refl
