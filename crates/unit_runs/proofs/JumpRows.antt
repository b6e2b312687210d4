-- The worked row: all that is premised of the program is computed.
use Rattle.std.proofs.Common.{◌≡◌, ℕ, zero, suc, ◌+◌, ◌*◌, ◌^◌, ◌<◌, List, [], ◌∷◌, ◌++◌, inl, inr, length, map, Some}
use Rattle.std.proofs.Common.{refl, ap, arith}
use Rattle.rv_meaning.specs.declared.instr.Instr.TheVariants as I
use Rattle.rv_meaning.specs.Machine.{memory_size}
use Rattle.pli_language.specs.declared.condition.Condition.TheVariants as C
use Rattle.pli_typing.specs.TypedTree as Y
use Rattle.pli_meaning.specs.declared.outcome.End.TheVariants as E
use Rattle.pli_meaning.specs.Control as F
use Rattle.pli_meaning.specs.Control.{Label}
use Rattle.pli_meaning.specs.Evaluating as V
use Rattle.pli_meaning.specs.Executing as M
use Rattle.pli_meaning.specs.Executing.{entered, run}
use Rattle.pli_meaning.specs.Making as K
use Rattle.pli_meaning.specs.Placing as P
use Rattle.pli_meaning.specs.Raising as R
use Rattle.pli_meaning.specs.StorageState.{first_state, height_of}
use Rattle.area_keeper.specs.KeeperLaws.{Keeps}
use Rattle.run_keeper.specs.RunKeeper.{run_keeper}
use Rattle.pli_serving.specs.Templates.{template_of}
use Rattle.pli_coding.specs.Allocating.{act_code}
use Rattle.pli_coding.specs.Assembly.{CallTo, JumpAhead, Mark, OffsetAhead, Plain, ProcedureEntry}
use Rattle.pli_coding.specs.Assembly.{ReturnPlace, size_of}
use Rattle.pli_coding.specs.Environments.{none_taken}
use Rattle.pli_coding.specs.Images.{first_frame, linked_code, raise_code}
use Rattle.pli_coding.specs.Instructions.{small}
use Rattle.pli_coding.specs.Linking.{links_of}
use Rattle.pli_coding.specs.Registers.{a1, a7}
use Rattle.pli_coding.specs.SignatureTable.{table_of}
use Rattle.pli_coding.specs.Statements.{stmt_code, stmts_code, unit_environment, unit_held, unit_variables}
use Rattle.pli_coding.specs.Statements.{condition_given, unit_left, unit_mark, unit_words}
use Rattle.storage_relation.specs.Served.{AllDiffer}
use Rattle.activation_relation.specs.Layers.{services_of}
use Rattle.run_steps.specs.Items.{Linked}
use Rattle.run_steps.proofs.Jumps.{back_of, first_of, front_of, rest_of}
use Rattle.run_steps.proofs.Linking.{has_items, linked_length}
use Rattle.run_steps.specs.Reach.{Comes}
use Rattle.program_runs.specs.Calls.{block_at, left_over}
use Rattle.program_runs.specs.Procedures.{begin_of, end_of, procedure_code}
use Rattle.program_runs.specs.Programs.{IsWhole, Whole, main_of}
use Rattle.program_runs.specs.Starts.{first_family, image_parts, main_called, no_numbers, start_of, start_point}
use Rattle.program_runs.specs.Starts.{never_in}
use Rattle.program_runs.specs.Starts.{surroundings_of}
use Rattle.program_runs.specs.Statements.{Block, Does, EachDoes, IsBegun, StandAt, as_outer}
use Rattle.program_runs.specs.Variables as D
use Rattle.program_runs.specs.Variables.{IsOnly, newest_made}
use Rattle.program_runs.specs.VariableRows as W
use Rattle.program_runs.proofs.Rows.{is_datum, names_none, none_named}
use Rattle.program_runs.proofs.Statements.{none_does, null_does, stop_does}
use Rattle.program_runs.proofs.VariableProcedures.{one_made}
use Rattle.program_runs.proofs.VariableRows.{differs_alone, number_valued}
use Rattle.expression_runs.specs.Assignments.{setting_of}
use Rattle.expression_runs.specs.Raises.{Routines}
use Rattle.expression_runs.specs.Values.{OverflowComes, Setting}
use Rattle.expression_runs.specs.Variables.{IsNumber, whole}
use Rattle.expression_runs.proofs.Assignments.{assign_does}
use Rattle.expression_runs.proofs.Operands.{constant_does}
use Rattle.expression_runs.proofs.Rows.{one_label_stands}
use Rattle.expression_runs.proofs.Sums.{sum_does}
use Rattle.expression_runs.proofs.VariablePoints.{variable_does}
use Rattle.function_runs.proofs.OuterVariables.{same_ancestor}
use Rattle.begin_runs.specs.FarGotos.{Far}
use Rattle.begin_runs.proofs.FarGotos.{far_does}
use Rattle.unit_runs.specs.Bodies.{BodyDoes}
use Rattle.unit_runs.specs.Establishing.{IsOn, behind_on, on_of, unit_index, unit_of}
use Rattle.unit_runs.specs.Raised as S
use Rattle.unit_runs.specs.Raised.{IsRaised, Standing, UnitDoes, list_index, standing_code, unit_block}
use Rattle.unit_runs.specs.JumpRows.{skip_again, skip_body, skip_code, skip_coded, skip_end, skip_entry}
use Rattle.unit_runs.specs.JumpRows.{skip_environment, skip_first, skip_image, skip_jump, skip_label, skip_last}
use Rattle.unit_runs.specs.JumpRows.{skip_main, skip_on, skip_program, skip_rest, skip_spot, skip_start, skip_stop}
use Rattle.unit_runs.specs.JumpRows.{skip_twice, skip_unit}
use Rattle.unit_runs.proofs.Bodies.{first_ends, list_ends, on_ends, unit_program_runs}
use Rattle.unit_runs.proofs.Establishing.{unit_begun, unit_numbers}
use Rattle.unit_runs.proofs.UnitRuns.{overflow_returns}
use Rattle.unit_runs.proofs.Rows.{only_place}
use Rattle.unit_runs.proofs.UnitVariables.{none_made, unit_over}

-- ---- its code

skip_linked : Linked (links_of skip_code) (linked_code skip_code) 0 skip_code
unfolding names_none is_datum
skip_linked =
    let n = linked_length (links_of skip_code) 0 skip_code in
    record {
      small' = omega (arith, n);
      inside = omega (arith, n);
      has = has_items (links_of skip_code) skip_code refl;
      named = λ d h. absurd (none_named d skip_code refl h);
    }

start_linked : Linked (links_of skip_code) (linked_code skip_code) 0 (start_of 0)
start_linked = front_of (start_of 0) (raise_code ++ skip_coded) skip_linked

raise_linked : Linked (links_of skip_code) (linked_code skip_code) (size_of (start_of 0)) raise_code
raise_linked = front_of raise_code skip_coded (back_of (start_of 0) (raise_code ++ skip_coded) skip_linked)

main_linked :
    Linked (links_of skip_code) (linked_code skip_code) skip_entry (procedure_code skip_environment skip_main)
main_linked =
    rest_of (Mark (ProcedureEntry 0)) (procedure_code skip_environment skip_main)
    (back_of raise_code skip_coded (back_of (start_of 0) (raise_code ++ skip_coded) skip_linked))

abbrev pub skip_finish : ℕ
skip_finish = skip_start + size_of (stmts_code skip_environment none_taken skip_body)

body_linked :
    Linked (links_of skip_code) (linked_code skip_code) skip_start
    (stmts_code skip_environment none_taken skip_body)
body_linked =
    let one = act_code 1 in
    let body = stmts_code skip_environment none_taken skip_body in
    let tail = Mark (ReturnPlace 0) ∷ end_of skip_main in
    let rest = one ++ (body ++ tail) in
    front_of body tail
    (back_of one (body ++ tail)
    (back_of skip_main.variables rest (back_of (begin_of skip_main) (skip_main.variables ++ rest) main_linked)))

rest_linked :
    Linked (links_of skip_code) (linked_code skip_code) skip_on (stmts_code skip_environment none_taken skip_rest)
rest_linked =
    back_of (stmt_code skip_environment none_taken skip_first) (stmts_code skip_environment none_taken skip_rest)
    body_linked

on_linked :
    Linked (links_of skip_code) (linked_code skip_code) skip_on
    (stmt_code skip_environment none_taken (on_of skip_unit))
on_linked =
    front_of (stmt_code skip_environment none_taken (on_of skip_unit))
    (stmts_code skip_environment none_taken skip_end) rest_linked

abbrev last_index : ℕ
last_index = skip_on + size_of (stmt_code skip_environment none_taken (on_of skip_unit))

last_linked :
    Linked (links_of skip_code) (linked_code skip_code) last_index (stmts_code skip_environment none_taken skip_end)
last_linked =
    back_of (stmt_code skip_environment none_taken (on_of skip_unit)) (stmts_code skip_environment none_taken skip_end)
    rest_linked

-- ---- its variable

one_differs : AllDiffer (map template_of (table_of skip_program))
one_differs = differs_alone (map template_of (table_of skip_program)) _ refl refl

abbrev pub skip_whole : (input : List ℕ) → (acts : ℕ) → Whole
skip_whole input acts =
    record {
      image = skip_image input acts;
      program = skip_program;
      main = skip_main;
      others = [];
      environment = skip_environment;
      entry = skip_entry;
      end = skip_finish;
      made = newest_made image_parts W.number_declared;
    }

skip_only :
    (input : List ℕ) (acts : ℕ) →
    IsOnly (surroundings_of (skip_image input acts)) (main_of (skip_whole input acts))
    (start_point (skip_image input acts)) no_numbers W.number_declared
skip_only input acts =
    let n = linked_length (links_of skip_code) 0 skip_code in
    record {
      kind = refl;
      variables = refl;
      class = refl;
      evaluations = refl;
      first = refl;
      code = refl;
      made = refl;
      table = refl;
      parts = refl;
      few = omega arith;
      declared = record {
        newest = refl;
        here = refl;
        holds = omega arith;
        size = omega arith;
        fits = omega arith;
        even = refl;
        low = omega (arith, n);
        shape = refl;
        number = omega arith;
        initial = refl;
        none = refl;
        plain = refl;
        fixed = refl;
        values = (tt, tt);
        valued = number_valued;
        limit = refl;
      };
    }

abbrev pub skip_block : (input : List ℕ) → (acts : ℕ) → Block
skip_block input acts =
    block_at (surroundings_of (skip_image input acts)) (linked_code skip_code) (main_of (skip_whole input acts))
    (start_point (skip_image input acts)) no_numbers

skip_number : (input : List ℕ) (acts : ℕ) → IsNumber (skip_block input acts) skip_spot
skip_number input acts =
    record {
      initial = [];
      declared = refl;
      serial = 1;
      binding = refl;
      living = K.living_at 1 1 (D.generation_for W.number_declared);
      lives = refl;
      shape = refl;
      base = _;
      frame = inl (refl, refl);
      at = refl;
      low = omega arith;
      inside = omega arith;
    }

-- ---- the block behind the ON

abbrev pub behind_block : (input : List ℕ) → (acts : ℕ) → Block
behind_block input acts = behind_on (skip_block input acts) skip_unit skip_on

on_is :
    (input : List ℕ) (acts : ℕ) → acts + 1 < 2 ^ 64 → IsBegun (skip_block input acts) →
    IsOn (skip_block input acts) skip_unit skip_on
on_is input acts few b =
    record {
      act = record { line_fits = omega arith; acts = few };
      begun = b;
      statement = on_linked;
      place = (0, refl);
    }

behind_number : (input : List ℕ) (acts : ℕ) → IsNumber (behind_block input acts) skip_spot
behind_number input acts = unit_numbers (skip_block input acts) skip_unit skip_on skip_spot (skip_number input acts)

-- ---- its unit

abbrev pub skip_standing : (more : ℕ) → Standing
skip_standing more =
    record {
      unit = skip_unit;
      words = unit_words skip_environment skip_unit.head Y.UnitBlock skip_unit.body;
      saved = unit_held skip_environment skip_unit.head Y.UnitBlock skip_unit.body;
      variables = unit_variables (unit_environment skip_unit.head skip_environment) skip_unit.head Y.UnitBlock;
      entry = unit_index skip_unit skip_on;
      environment = unit_environment skip_unit.head skip_environment;
      around = record { program = skip_program; enter = entered skip_program more; turns = suc more; line = 0 };
      made = λ q. q;
    }

abbrev skip_labels : List Label
skip_labels = skip_label ∷ []

abbrev stop_index : ℕ
stop_index = last_index + size_of (stmt_code skip_environment none_taken skip_again)

abbrev label_index : ℕ
label_index = stop_index + size_of (stmt_code skip_environment none_taken (Y.Stop 7))

abbrev routines : Routines (links_of skip_code) (linked_code skip_code)
routines = record { at = size_of (start_of 0); linked = raise_linked; condition = refl; end = omega arith }

unit_linked :
    (more : ℕ) →
    Linked (links_of skip_code) (linked_code skip_code) (unit_index skip_unit skip_on)
    (standing_code (skip_standing more))
unit_linked more =
    let over = OffsetAhead a1 5 ∷ condition_given C.FixedOverflow
    ∷ small a7 28 ∷ Plain I.Ecall ∷ JumpAhead (size_of (standing_code (skip_standing more))) ∷ [] in
    back_of over (standing_code (skip_standing more))
    (back_of (act_code 4) (over ++ standing_code (skip_standing more)) on_linked)

abbrev again_setting : (input : List ℕ) → (more : ℕ) → Setting
again_setting input more = setting_of (behind_block input (suc more)) skip_labels 6 200

raised_is :
    (input : List ℕ) (more : ℕ) → suc more + 1 < 2 ^ 64 → IsBegun (skip_block input (suc more)) →
    IsRaised (again_setting input more) (skip_standing more) more
raised_is input more few b =
    let k = skip_block input (suc more) in
    let h = on_is input (suc more) few b in
    record {
      begun = unit_begun k skip_unit skip_on h;
      routines = routines;
      by = _;
      force = refl;
      parent = (omega arith, refl);
      room = omega arith;
      shallow = refl;
      only = λ at stands. only_place (unit_of skip_unit) (4 * unit_index skip_unit skip_on) at stands;
      some = omega arith;
      stands = unit_linked more;
      labels = (λ label e. absurd (cc e), λ label e. absurd (cc e));
      kind = inr refl;
      level = omega arith;
      line = omega arith;
      saved = omega arith;
      acts = few;
      enter = refl;
      around = refl;
      enough = omega arith;
      most = omega arith;
    }

-- its statement jumps, wherever it is raised
abbrev skip_far : (input : List ℕ) → (more : ℕ) → Far
skip_far input more =
    record {
      behind = 0;
      outer = as_outer (behind_block input (suc more)) skip_labels;
      rest = [];
      level = 0;
      label = skip_label;
      at = label_index;
    }

unit_each :
    (input : List ℕ) (more : ℕ) (few : suc more + 1 < 2 ^ 64) (b : IsBegun (skip_block input (suc more))) →
    UnitDoes (again_setting input more) (skip_standing more) more (raised_is input more few b)
unfolding raised_is
unit_each input more few b r is =
    let k = again_setting input more in
    let x = skip_standing more in
    let h = raised_is input more few b in
    let u = unit_block k x r in
    let made = none_made k x r (record { kind = inr (refl, refl); code = refl; made = refl }) in (
      made,
      λ b'. (
        far_does u [] (skip_far input more) 5 (list_index x) left_over
            (record { line_fits = omega arith; acts = few })
            (record {
              begun = b';
              there = refl;
              carried = refl;
              own = refl;
              inner = omega arith;
              few = omega arith;
              found = ap height_of (same_ancestor 0 (unit_over k x more h r
                  (record { own = refl; level = refl; inner = refl; program = refl; parts = refl }) is made b') h.begun
                  is.among (omega arith));
              registers = omega arith;
              entries = refl;
              edits = refl;
              top = refl;
              block = refl;
              place = refl;
              near = omega arith;
            })
            (front_of (stmt_code x.environment none_taken skip_jump) []
            (front_of (S.list_code x) (unit_mark skip_unit.head Y.UnitBlock ++ unit_left x.words x.saved)
            (back_of (act_code 4) _ (back_of x.variables _ (back_of (S.begin_of x) _ (unit_linked more)))))),
        tt,
      ),
    )

-- ---- its statements

first_does :
    (input : List ℕ) (acts : ℕ) → acts + 1 < 2 ^ 64 → IsBegun (skip_block input acts) →
    Does (skip_block input acts) [] skip_first skip_start left_over
first_does input acts few b =
    let k = skip_block input acts in
    let n = linked_length (links_of skip_code) 0 skip_code in
    assign_does k [] skip_spot (Y.NumberConstant 2147483647) 3 skip_start left_over 0 100
    (record {
      act = record { line_fits = omega arith; acts = few };
      begun = b;
      number = skip_number input acts;
      registers = omega arith;
      held = omega arith;
      statement = front_of (stmt_code skip_environment none_taken skip_first)
          (stmts_code skip_environment none_taken skip_rest) body_linked;
      paid = omega (arith, n);
    })
    (constant_does (setting_of k [] 3 100) 2147483647 (omega arith))

again_does :
    (input : List ℕ) (acts : ℕ) → acts + 1 < 2 ^ 64 → IsBegun (skip_block input acts) →
    Does (behind_block input acts) skip_labels skip_again last_index left_over
again_does input zero few b =
    none_does (behind_block input zero) skip_labels skip_again last_index left_over
    (unit_begun (skip_block input zero) skip_unit skip_on (on_is input zero few b)) refl
again_does input (suc more) few b =
    let k = behind_block input (suc more) in
    let six = again_setting input more in
    let n = linked_length (links_of skip_code) 0 skip_code in
    let b' = unit_begun (skip_block input (suc more)) skip_unit skip_on (on_is input (suc more) few b) in
    let over : OverflowComes six = overflow_returns six (skip_standing more) more (raised_is input more few b)
    (unit_each input more few b) refl in
    let operand = variable_does six skip_spot b' (behind_number input (suc more)) in
    assign_does k skip_labels skip_spot skip_twice 6 last_index left_over 1 200
    (record {
      act = record { line_fits = omega arith; acts = few };
      begun = b';
      number = behind_number input (suc more);
      registers = omega arith;
      held = omega arith;
      statement = front_of (stmt_code skip_environment none_taken skip_again)
          (stmts_code skip_environment none_taken skip_stop) last_linked;
      paid = omega (arith, n);
    })
    (sum_does six (Y.NumberIn (whole skip_spot)) (Y.NumberIn (whole skip_spot)) 0 0 over operand operand)

stop_linked :
    Linked (links_of skip_code) (linked_code skip_code) stop_index (stmts_code skip_environment none_taken skip_stop)
stop_linked =
    back_of (stmt_code skip_environment none_taken skip_again) (stmts_code skip_environment none_taken skip_stop)
    last_linked

null_linked :
    Linked (links_of skip_code) (linked_code skip_code) label_index
    (stmt_code skip_environment none_taken (Y.Null 8))
null_linked =
    front_of (stmt_code skip_environment none_taken (Y.Null 8)) []
    (rest_of _ _
    (back_of (stmt_code skip_environment none_taken (Y.Stop 7)) (stmts_code skip_environment none_taken skip_last)
    stop_linked))

skip_each :
    (input : List ℕ) (acts : ℕ) → acts + 1 < 2 ^ 64 → IsBegun (skip_block input acts) →
    EachDoes (behind_block input acts) skip_labels skip_end last_index left_over
skip_each input acts few b =
    let k = behind_block input acts in (
      again_does input acts few b,
      (
        stop_does k 7 stop_index left_over (record { line_fits = omega arith; acts = few })
            (front_of (stmt_code skip_environment none_taken (Y.Stop 7))
            (stmts_code skip_environment none_taken skip_last) stop_linked)
            skip_labels,
        (
          null_does k 8 label_index left_over (record { line_fits = omega arith; acts = few }) null_linked skip_labels,
          tt,
        ),
      ),
    )

-- ---- its label

labels_stand : StandAt (links_of skip_code) 0 (skip_label ∷ []) label_index
labels_stand = one_label_stands (links_of skip_code) label_index refl

-- ---- the list of the main procedure

pub skip_does :
    (input : List ℕ) (acts : ℕ) → acts + 1 < 2 ^ 64 → IsBegun (skip_block input acts) →
    BodyDoes (skip_block input acts) skip_body skip_start left_over
skip_does input acts few b =
    let k = skip_block input acts in
    let h = on_is input acts few b in
    first_ends k skip_first skip_rest skip_start left_over
    (record {
      body = record {
        begun = b;
        linked = body_linked;
        end = refl;
        function = refl;
        kind = refl;
        registers = omega arith;
        outers = refl;
        enough = omega arith;
      };
      does = first_does input acts few b;
      goes = on_ends k skip_unit skip_end skip_on left_over
          (record {
            body = record {
              begun = b;
              linked = rest_linked;
              end = refl;
              function = refl;
              kind = refl;
              registers = omega arith;
              outers = refl;
              enough = omega arith;
            };
            on = h;
            goes = list_ends (behind_block input acts) skip_end last_index left_over
                (record {
                  begun = unit_begun k skip_unit skip_on h;
                  linked = last_linked;
                  end = refl;
                  function = refl;
                  kind = refl;
                  registers = omega arith;
                  outers = refl;
                  enough = omega arith;
                })
                (λ label e. absurd (cc e), (λ label e. absurd (cc e), (labels_stand, λ label e. absurd (cc e))))
                (skip_each input acts few b);
          });
    })

-- ---- the whole

pub skip_is : (input first : List ℕ) (acts : ℕ) → acts + 1 < 2 ^ 64 → length first ≡ memory_size →
    IsWhole (skip_whole input acts) first
skip_is input first acts few bytes =
    let l = back_of (first_frame image_parts) (main_called 0) start_linked in
    record {
      start = record { linked = start_linked; differ = one_differs; bytes = bytes; told = λ n v e. absurd (cc e) };
      made = one_made (surroundings_of (skip_image input acts)) (linked_code skip_code)
          (main_of (skip_whole input acts)) (start_point (skip_image input acts)) no_numbers W.number_declared
          (skip_only input acts);
      callee = record {
        coded = record { level = omega arith; line = omega arith; saved = omega arith; back = omega arith };
        calls = first_of (CallTo (ProcedureEntry 0)) _ (rest_of _ _ (rest_of _ _ (rest_of _ _ l)));
        place = refl;
        stands = main_linked;
        end = refl;
        kind = refl;
        labels = (
          λ label e. absurd (cc e),
          (
            λ label e. absurd (cc e),
            (λ label e. absurd (cc e), (λ label e. absurd (cc e), (labels_stand, λ label e. absurd (cc e)))),
          ),
        );
        acts = few;
      };
      room = record { room = omega arith; shallow = refl; parent = tt; idle = refl };
      level = refl;
      procedures = refl;
      statics = refl;
    }

pub skip_runs :
    Keeps run_keeper → (input first : List ℕ) (acts : ℕ) → acts + 1 < 2 ^ 64 → length first ≡ memory_size →
    Comes (linked_code skip_code) 0 (first_family first (services_of (start_point (skip_image input acts))))
    (services_of (start_point (skip_image input acts))) (never_in (skip_image input acts))
    (run skip_program (suc acts) acts (first_state input))
skip_runs keeps input first acts few bytes =
    unit_program_runs keeps (skip_whole input acts) first (skip_is input first acts few bytes)
    (λ b. skip_does input acts few b)

-- ---- what the program comes to

unfoldable flows : Unit {0}
unfolding F.give F.◌>>=◌ F.◌>>◌ F.looked F.stored F.act F.finish F.returns F.jumps F.choose F.given F.list_from
    F.leaving
flows = tt

unfoldable values : Unit {0}
unfolding V.number V.designated V.located V.numbers V.variable_designated V.part_designated V.stored_value R.or_error
    R.demanded R.value_of R.raised R.unit_run R.error R.error_unit_run P.element_stored M.assigned
values = tt

unfoldable makings : Unit {0}
unfolding K.variables_made K.automatic_made K.extents K.variable_made K.parameters_bound
makings = tt

unfoldable statements : Unit {0}
unfolding M.statement M.statements M.list M.list_with M.block_variables_made M.entry_act M.block_list M.block_body
    M.established_by
statements = tt

pub skip_ends :
    (input : List ℕ) →
    M.meaning skip_program input 9
    ≡ Some (record { acts = 9; output = []; raised = (C.FixedOverflow, 20) ∷ []; end = E.Finished })
unfolding M.meaning M.run M.entered M.block_run flows values makings statements
skip_ends input = refl
