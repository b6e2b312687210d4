-- The worked row: all that is premised of the program is computed.
use Rattle.std.proofs.Common.{◌≡◌, ℕ, zero, suc, ◌+◌, ◌*◌, ◌^◌, ◌<◌, List, [], ◌∷◌, ◌++◌, inl, inr, length, map, Some}
use Rattle.std.proofs.Common.{refl, arith}
use Rattle.rv_meaning.specs.declared.instr.Instr.TheVariants as I
use Rattle.rv_meaning.specs.Machine.{memory_size}
use Rattle.pli_language.specs.declared.condition.Condition.TheVariants as C
use Rattle.pli_typing.specs.TypedTree as Y
use Rattle.pli_meaning.specs.declared.outcome.End.TheVariants as E
use Rattle.pli_meaning.specs.Control as F
use Rattle.pli_meaning.specs.Evaluating as V
use Rattle.pli_meaning.specs.Executing as M
use Rattle.pli_meaning.specs.Executing.{entered, run}
use Rattle.pli_meaning.specs.Making as K
use Rattle.pli_meaning.specs.Placing as P
use Rattle.pli_meaning.specs.Raising as R
use Rattle.pli_meaning.specs.StorageState.{first_state}
use Rattle.area_keeper.specs.KeeperLaws.{Keeps}
use Rattle.run_keeper.specs.RunKeeper.{run_keeper}
use Rattle.pli_serving.specs.ServiceState.{Entry, TextEntry}
use Rattle.pli_serving.specs.Templates.{template_of}
use Rattle.pli_coding.specs.Allocating.{act_code}
use Rattle.pli_coding.specs.Assembly.{CallTo, JumpAhead, Mark, OffsetAhead, Plain, ProcedureEntry, ReturnPlace, size_of}
use Rattle.pli_coding.specs.Environments.{none_taken}
use Rattle.pli_coding.specs.Images.{first_frame, linked_code, raise_code}
use Rattle.pli_coding.specs.Instructions.{small}
use Rattle.pli_coding.specs.Linking.{links_of}
use Rattle.pli_coding.specs.Registers.{a1, a7}
use Rattle.pli_coding.specs.SignatureTable.{table_of}
use Rattle.pli_coding.specs.Statements.{stmt_code, stmts_code, unit_environment, unit_held, unit_variables}
use Rattle.pli_coding.specs.Statements.{condition_given, unit_left, unit_mark, unit_words}
use Rattle.storage_relation.specs.Served.{AllDiffer}
use Rattle.activation_relation.specs.Layers.{services_of}
use Rattle.run_steps.specs.Items.{Linked}
use Rattle.run_steps.proofs.Jumps.{back_of, first_of, front_of, rest_of}
use Rattle.run_steps.proofs.Linking.{has_items, linked_length}
use Rattle.run_steps.specs.Reach.{Comes}
use Rattle.program_runs.specs.Calls.{block_at, left_over}
use Rattle.program_runs.specs.Procedures.{begin_of, end_of, procedure_code}
use Rattle.program_runs.specs.Programs.{IsWhole, Whole, main_of}
use Rattle.program_runs.specs.Starts.{first_family, image_parts, main_called, no_numbers, start_of, start_point}
use Rattle.program_runs.specs.Starts.{never_in}
use Rattle.program_runs.specs.Starts.{surroundings_of}
use Rattle.program_runs.specs.Statements.{Block, Does, IsBegun}
use Rattle.program_runs.specs.Variables as D
use Rattle.program_runs.specs.Variables.{IsOnly, newest_made}
use Rattle.program_runs.specs.VariableRows as W
use Rattle.program_runs.proofs.Rows.{is_datum, names_none, none_named}
use Rattle.program_runs.proofs.Statements.{none_does}
use Rattle.program_runs.proofs.VariableProcedures.{one_made}
use Rattle.program_runs.proofs.VariableRows.{differs_alone, number_valued}
use Rattle.program_runs.proofs.Waiting.{begun_waits}
use Rattle.expression_runs.specs.Assignments.{setting_of}
use Rattle.expression_runs.specs.Raises.{Routines}
use Rattle.expression_runs.specs.Values.{OverflowComes, Setting}
use Rattle.expression_runs.specs.Variables.{IsNumber, whole}
use Rattle.expression_runs.proofs.Assignments.{assign_does}
use Rattle.expression_runs.proofs.Operands.{constant_does}
use Rattle.expression_runs.proofs.Sums.{sum_does}
use Rattle.expression_runs.proofs.VariablePoints.{variable_does}
use Rattle.text_runs.specs.Laws.{NumberDoes, TextDoes}
use Rattle.text_runs.specs.Waiting.{over}
use Rattle.text_runs.proofs.Errors.{error_ends}
use Rattle.text_runs.proofs.Points.{above_does}
use Rattle.text_runs.proofs.Pushing.{joined_pushes, number_pushes}
use Rattle.text_runs.proofs.Taking.{length_measures}
use Rattle.text_runs.proofs.Waiting.{number_waits}
use Rattle.unit_runs.specs.Bodies.{BodyDoes}
use Rattle.unit_runs.specs.Establishing.{IsOn, behind_on, on_of, unit_index, unit_of}
use Rattle.unit_runs.specs.Raised as S
use Rattle.unit_runs.specs.Raised.{IsRaised, Standing, UnitDoes, list_index, standing_code, unit_block}
use Rattle.unit_runs.proofs.Bodies.{first_ends, list_ends, on_ends, unit_program_runs}
use Rattle.unit_runs.proofs.Establishing.{unit_begun, unit_numbers}
use Rattle.unit_runs.proofs.Rows.{only_place}
use Rattle.unit_runs.proofs.UnitRuns.{overflow_returns}
use Rattle.unit_runs.proofs.UnitVariables.{none_made, outer_number}
use Rattle.text_units.specs.Rows.{rise_again, rise_body, rise_code, rise_coded, rise_end, rise_entry, rise_environment}
use Rattle.text_units.specs.Rows.{rise_first, rise_image, rise_main, rise_on, rise_one, rise_program, rise_rest}
use Rattle.text_units.specs.Rows.{rise_spot, rise_start, rise_text, rise_twice, rise_unit}
use Rattle.text_units.proofs.Raises.{raised_waits}

-- ---- its code

rise_linked : Linked (links_of rise_code) (linked_code rise_code) 0 rise_code
unfolding names_none is_datum
rise_linked =
    let n = linked_length (links_of rise_code) 0 rise_code in
    record {
      small' = omega (arith, n);
      inside = omega (arith, n);
      has = has_items (links_of rise_code) rise_code refl;
      named = λ d h. absurd (none_named d rise_code refl h);
    }

start_linked : Linked (links_of rise_code) (linked_code rise_code) 0 (start_of 0)
start_linked = front_of (start_of 0) (raise_code ++ rise_coded) rise_linked

raise_linked : Linked (links_of rise_code) (linked_code rise_code) (size_of (start_of 0)) raise_code
raise_linked = front_of raise_code rise_coded (back_of (start_of 0) (raise_code ++ rise_coded) rise_linked)

main_linked :
    Linked (links_of rise_code) (linked_code rise_code) rise_entry (procedure_code rise_environment rise_main)
main_linked =
    rest_of (Mark (ProcedureEntry 0)) (procedure_code rise_environment rise_main)
    (back_of raise_code rise_coded (back_of (start_of 0) (raise_code ++ rise_coded) rise_linked))

abbrev pub rise_finish : ℕ
rise_finish = rise_start + size_of (stmts_code rise_environment none_taken rise_body)

body_linked :
    Linked (links_of rise_code) (linked_code rise_code) rise_start
    (stmts_code rise_environment none_taken rise_body)
body_linked =
    let one = act_code 1 in
    let body = stmts_code rise_environment none_taken rise_body in
    let tail = Mark (ReturnPlace 0) ∷ end_of rise_main in
    let rest = one ++ (body ++ tail) in
    front_of body tail
    (back_of one (body ++ tail)
    (back_of rise_main.variables rest (back_of (begin_of rise_main) (rise_main.variables ++ rest) main_linked)))

rest_linked :
    Linked (links_of rise_code) (linked_code rise_code) rise_on (stmts_code rise_environment none_taken rise_rest)
rest_linked =
    back_of (stmt_code rise_environment none_taken rise_first) (stmts_code rise_environment none_taken rise_rest)
    body_linked

on_linked :
    Linked (links_of rise_code) (linked_code rise_code) rise_on
    (stmt_code rise_environment none_taken (on_of rise_unit))
on_linked =
    front_of (stmt_code rise_environment none_taken (on_of rise_unit))
    (stmts_code rise_environment none_taken rise_end) rest_linked

abbrev last_index : ℕ
last_index = rise_on + size_of (stmt_code rise_environment none_taken (on_of rise_unit))

last_linked :
    Linked (links_of rise_code) (linked_code rise_code) last_index (stmts_code rise_environment none_taken rise_end)
last_linked =
    back_of (stmt_code rise_environment none_taken (on_of rise_unit)) (stmts_code rise_environment none_taken rise_end)
    rest_linked

-- ---- its variable

one_differs : AllDiffer (map template_of (table_of rise_program))
one_differs = differs_alone (map template_of (table_of rise_program)) _ refl refl

abbrev pub rise_whole : (input : List ℕ) → (acts : ℕ) → Whole
rise_whole input acts =
    record {
      image = rise_image input acts;
      program = rise_program;
      main = rise_main;
      others = [];
      environment = rise_environment;
      entry = rise_entry;
      end = rise_finish;
      made = newest_made image_parts W.number_declared;
    }

rise_only :
    (input : List ℕ) (acts : ℕ) →
    IsOnly (surroundings_of (rise_image input acts)) (main_of (rise_whole input acts))
    (start_point (rise_image input acts)) no_numbers W.number_declared
rise_only input acts =
    let n = linked_length (links_of rise_code) 0 rise_code in
    record {
      kind = refl;
      variables = refl;
      class = refl;
      evaluations = refl;
      first = refl;
      code = refl;
      made = refl;
      table = refl;
      parts = refl;
      few = omega arith;
      declared = record {
        newest = refl;
        here = refl;
        holds = omega arith;
        size = omega arith;
        fits = omega arith;
        even = refl;
        low = omega (arith, n);
        shape = refl;
        number = omega arith;
        initial = refl;
        none = refl;
        plain = refl;
        fixed = refl;
        values = (tt, tt);
        valued = number_valued;
        limit = refl;
      };
    }

abbrev pub rise_block : (input : List ℕ) → (acts : ℕ) → Block
rise_block input acts =
    block_at (surroundings_of (rise_image input acts)) (linked_code rise_code) (main_of (rise_whole input acts))
    (start_point (rise_image input acts)) no_numbers

rise_number : (input : List ℕ) (acts : ℕ) → IsNumber (rise_block input acts) rise_spot
rise_number input acts =
    record {
      initial = [];
      declared = refl;
      serial = 1;
      binding = refl;
      living = K.living_at 1 1 (D.generation_for W.number_declared);
      lives = refl;
      shape = refl;
      base = _;
      frame = inl (refl, refl);
      at = refl;
      low = omega arith;
      inside = omega arith;
    }

-- ---- the block behind the ON

abbrev pub behind_block : (input : List ℕ) → (acts : ℕ) → Block
behind_block input acts = behind_on (rise_block input acts) rise_unit rise_on

on_is :
    (input : List ℕ) (acts : ℕ) → acts + 1 < 2 ^ 64 → IsBegun (rise_block input acts) →
    IsOn (rise_block input acts) rise_unit rise_on
on_is input acts few b =
    record {
      act = record { line_fits = omega arith; acts = few };
      begun = b;
      statement = on_linked;
      place = (0, refl);
    }

behind_number : (input : List ℕ) (acts : ℕ) → IsNumber (behind_block input acts) rise_spot
behind_number input acts = unit_numbers (rise_block input acts) rise_unit rise_on rise_spot (rise_number input acts)

-- ---- its unit

abbrev pub rise_standing : (more : ℕ) → Standing
rise_standing more =
    record {
      unit = rise_unit;
      words = unit_words rise_environment rise_unit.head Y.UnitBlock rise_unit.body;
      saved = unit_held rise_environment rise_unit.head Y.UnitBlock rise_unit.body;
      variables = unit_variables (unit_environment rise_unit.head rise_environment) rise_unit.head Y.UnitBlock;
      entry = unit_index rise_unit rise_on;
      environment = unit_environment rise_unit.head rise_environment;
      around = record { program = rise_program; enter = entered rise_program more; turns = suc more; line = 0 };
      made = λ q. q;
    }

abbrev routines : Routines (links_of rise_code) (linked_code rise_code)
routines = record { at = size_of (start_of 0); linked = raise_linked; condition = refl; end = omega arith }

unit_linked :
    (more : ℕ) →
    Linked (links_of rise_code) (linked_code rise_code) (unit_index rise_unit rise_on)
    (standing_code (rise_standing more))
unit_linked more =
    let over = OffsetAhead a1 5 ∷ condition_given C.FixedOverflow
    ∷ small a7 28 ∷ Plain I.Ecall ∷ JumpAhead (size_of (standing_code (rise_standing more))) ∷ [] in
    back_of over (standing_code (rise_standing more))
    (back_of (act_code 4) (over ++ standing_code (rise_standing more)) on_linked)

abbrev again_setting : (input : List ℕ) → (more : ℕ) → Setting
again_setting input more = setting_of (behind_block input (suc more)) [] 6 200

-- whatever waits where it is raised
raised_is :
    (input : List ℕ) (more : ℕ) (entries : List Entry) → suc more + 1 < 2 ^ 64 →
    IsBegun (rise_block input (suc more)) →
    IsRaised (over entries (again_setting input more)) (rise_standing more) more
raised_is input more entries few b =
    let k = rise_block input (suc more) in
    let h = on_is input (suc more) few b in
    raised_waits entries (again_setting input more) (rise_standing more) more
    (record {
      begun = unit_begun k rise_unit rise_on h;
      routines = routines;
      by = _;
      force = refl;
      parent = (omega arith, refl);
      room = omega arith;
      shallow = refl;
      only = λ at stands. only_place (unit_of rise_unit) (4 * unit_index rise_unit rise_on) at stands;
      some = omega arith;
      stands = unit_linked more;
      labels = (λ label e. absurd (cc e), λ label e. absurd (cc e));
      kind = inr refl;
      level = omega arith;
      line = omega arith;
      saved = omega arith;
      acts = few;
      enter = refl;
      around = refl;
      enough = omega arith;
      most = omega arith;
    })

-- its statement
unit_each :
    (input : List ℕ) (more : ℕ) (entries : List Entry) (few : suc more + 1 < 2 ^ 64)
    (b : IsBegun (rise_block input (suc more))) →
    UnitDoes (over entries (again_setting input more)) (rise_standing more) more (raised_is input more entries few b)
unfolding raised_is raised_waits
unit_each input more entries few b r is =
    let k = over entries (again_setting input more) in
    let x = rise_standing more in
    let h = raised_is input more entries few b in
    let u = unit_block k x r in
    let n = linked_length (links_of rise_code) 0 rise_code in
    let made = none_made k x r (record { kind = inr (refl, refl); code = refl; made = refl }) in (
      made,
      λ b'. (
        assign_does u [] rise_spot (Y.NumberConstant 1) 5 (list_index x) left_over 0 100
            (record {
              act = record { line_fits = omega arith; acts = few };
              begun = b';
              number = outer_number k x more h r rise_spot
                  (record { own = refl; level = refl; inner = refl; program = refl; parts = refl }) is made b'
                  (omega arith)
                  (number_waits (behind_block input (suc more)) entries rise_spot (behind_number input (suc more)));
              registers = omega arith;
              held = omega arith;
              statement = front_of (stmt_code x.environment none_taken rise_one) []
                  (front_of (S.list_code x) (unit_mark rise_unit.head Y.UnitBlock ++ unit_left x.words x.saved)
                  (back_of (act_code 4) _ (back_of x.variables _ (back_of (S.begin_of x) _ (unit_linked more)))));
              paid = omega (arith, n);
            })
            (constant_does (setting_of u [] 5 100) 1 (omega arith)),
        tt,
      ),
    )

-- ---- its statements

first_does :
    (input : List ℕ) (acts : ℕ) → acts + 1 < 2 ^ 64 → IsBegun (rise_block input acts) →
    Does (rise_block input acts) [] rise_first rise_start left_over
first_does input acts few b =
    let k = rise_block input acts in
    let n = linked_length (links_of rise_code) 0 rise_code in
    assign_does k [] rise_spot (Y.NumberConstant 2147483647) 3 rise_start left_over 0 100
    (record {
      act = record { line_fits = omega arith; acts = few };
      begun = b;
      number = rise_number input acts;
      registers = omega arith;
      held = omega arith;
      statement = front_of (stmt_code rise_environment none_taken rise_first)
          (stmts_code rise_environment none_taken rise_rest) body_linked;
      paid = omega (arith, n);
    })
    (constant_does (setting_of k [] 3 100) 2147483647 (omega arith))

-- the sum overflows while the text of X waits
twice_does :
    (input : List ℕ) (more : ℕ) → suc more + 1 < 2 ^ 64 → IsBegun (rise_block input (suc more)) →
    (entries : List Entry) → NumberDoes entries (again_setting input more) 1 rise_twice
twice_does input more few b entries =
    let k = behind_block input (suc more) in
    let six = over entries (again_setting input more) in
    let b' = begun_waits k entries (unit_begun (rise_block input (suc more)) rise_unit rise_on
    (on_is input (suc more) few b)) in
    let over' : OverflowComes six = overflow_returns six (rise_standing more) more (raised_is input more entries few b)
    (unit_each input more entries few b) refl in
    let operand = variable_does six rise_spot b' (number_waits k entries rise_spot (behind_number input (suc more))) in
    above_does entries (again_setting input more) rise_twice 1
    (sum_does six (Y.NumberIn (whole rise_spot)) (Y.NumberIn (whole rise_spot)) 0 0 over' operand operand)

text_does :
    (input : List ℕ) (more : ℕ) → suc more + 1 < 2 ^ 64 → IsBegun (rise_block input (suc more)) →
    TextDoes [] (again_setting input more) 1 rise_text
text_does input more few b =
    let k = again_setting input more in
    let b' = unit_begun (rise_block input (suc more)) rise_unit rise_on (on_is input (suc more) few b) in
    joined_pushes [] k (Y.TextOfNumber 31 (Y.NumberIn (whole rise_spot))) (Y.TextOfNumber 31 rise_twice) 0 1
    (error_ends (List ℕ) k
    (record { routines = routines; raises = refl; error = tt; acts = few; most = omega arith }))
    (number_pushes [] k (Y.NumberIn (whole rise_spot)) 31 0 (omega arith) (omega arith)
    (variable_does k rise_spot b' (behind_number input (suc more))))
    (λ s. number_pushes (TextEntry s ∷ []) k rise_twice 31 1 (omega arith) (omega arith)
    (twice_does input more few b (TextEntry s ∷ [])))

again_does :
    (input : List ℕ) (acts : ℕ) → acts + 1 < 2 ^ 64 → IsBegun (rise_block input acts) →
    Does (behind_block input acts) [] rise_again last_index left_over
again_does input zero few b =
    none_does (behind_block input zero) [] rise_again last_index left_over
    (unit_begun (rise_block input zero) rise_unit rise_on (on_is input zero few b)) refl
again_does input (suc more) few b =
    let k = behind_block input (suc more) in
    let n = linked_length (links_of rise_code) 0 rise_code in
    let b' = unit_begun (rise_block input (suc more)) rise_unit rise_on (on_is input (suc more) few b) in
    assign_does k [] rise_spot (Y.LengthOf rise_text) 6 last_index left_over 1 200
    (record {
      act = record { line_fits = omega arith; acts = few };
      begun = b';
      number = behind_number input (suc more);
      registers = omega arith;
      held = omega arith;
      statement = front_of (stmt_code rise_environment none_taken rise_again) [] last_linked;
      paid = omega (arith, n);
    })
    (length_measures [] (again_setting input more) rise_text 1 (text_does input more few b))

pub rise_does :
    (input : List ℕ) (acts : ℕ) → acts + 1 < 2 ^ 64 → IsBegun (rise_block input acts) →
    BodyDoes (rise_block input acts) rise_body rise_start left_over
rise_does input acts few b =
    let k = rise_block input acts in
    let h = on_is input acts few b in
    first_ends k rise_first rise_rest rise_start left_over
    (record {
      body = record {
        begun = b;
        linked = body_linked;
        end = refl;
        function = refl;
        kind = refl;
        registers = omega arith;
        outers = refl;
        enough = omega arith;
      };
      does = first_does input acts few b;
      goes = on_ends k rise_unit rise_end rise_on left_over
          (record {
            body = record {
              begun = b;
              linked = rest_linked;
              end = refl;
              function = refl;
              kind = refl;
              registers = omega arith;
              outers = refl;
              enough = omega arith;
            };
            on = h;
            goes = list_ends (behind_block input acts) rise_end last_index left_over
                (record {
                  begun = unit_begun k rise_unit rise_on h;
                  linked = last_linked;
                  end = refl;
                  function = refl;
                  kind = refl;
                  registers = omega arith;
                  outers = refl;
                  enough = omega arith;
                })
                (λ label e. absurd (cc e), λ label e. absurd (cc e)) (again_does input acts few b, tt);
          });
    })

-- ---- the whole

pub rise_is : (input first : List ℕ) (acts : ℕ) → acts + 1 < 2 ^ 64 → length first ≡ memory_size →
    IsWhole (rise_whole input acts) first
rise_is input first acts few bytes =
    let l = back_of (first_frame image_parts) (main_called 0) start_linked in
    record {
      start = record { linked = start_linked; differ = one_differs; bytes = bytes; told = λ n v e. absurd (cc e) };
      made = one_made (surroundings_of (rise_image input acts)) (linked_code rise_code)
          (main_of (rise_whole input acts)) (start_point (rise_image input acts)) no_numbers W.number_declared
          (rise_only input acts);
      callee = record {
        coded = record { level = omega arith; line = omega arith; saved = omega arith; back = omega arith };
        calls = first_of (CallTo (ProcedureEntry 0)) _ (rest_of _ _ (rest_of _ _ (rest_of _ _ l)));
        place = refl;
        stands = main_linked;
        end = refl;
        kind = refl;
        labels = (
          λ label e. absurd (cc e),
          (λ label e. absurd (cc e), (λ label e. absurd (cc e), λ label e. absurd (cc e))),
        );
        acts = few;
      };
      room = record { room = omega arith; shallow = refl; parent = tt; idle = refl };
      level = refl;
      procedures = refl;
      statics = refl;
    }

pub rise_runs :
    Keeps run_keeper → (input first : List ℕ) (acts : ℕ) → acts + 1 < 2 ^ 64 → length first ≡ memory_size →
    Comes (linked_code rise_code) 0 (first_family first (services_of (start_point (rise_image input acts))))
    (services_of (start_point (rise_image input acts))) (never_in (rise_image input acts))
    (run rise_program (suc acts) acts (first_state input))
rise_runs keeps input first acts few bytes =
    unit_program_runs keeps (rise_whole input acts) first (rise_is input first acts few bytes)
    (λ b. rise_does input acts few b)

-- ---- what the program comes to

unfoldable flows : Unit {0}
unfolding F.give F.◌>>=◌ F.◌>>◌ F.looked F.stored F.act F.finish F.returns F.jumps F.choose F.given F.list_from
    F.leaving
flows = tt

unfoldable values : Unit {0}
unfolding V.number V.text V.designated V.located V.numbers V.variable_designated V.part_designated V.stored_value
    R.or_error R.demanded R.value_of R.raised R.unit_run R.error R.error_unit_run P.element_stored M.assigned
values = tt

unfoldable makings : Unit {0}
unfolding K.variables_made K.automatic_made K.extents K.variable_made K.parameters_bound
makings = tt

unfoldable statements : Unit {0}
unfolding M.statement M.statements M.list M.list_with M.block_variables_made M.entry_act M.block_list M.block_body
    M.established_by
statements = tt

pub rise_ends :
    (input : List ℕ) →
    M.meaning rise_program input 8
    ≡ Some (record { acts = 8; output = []; raised = (C.FixedOverflow, 20) ∷ []; end = E.Finished })
unfolding M.meaning M.run M.entered M.block_run flows values makings statements
rise_ends input = refl
