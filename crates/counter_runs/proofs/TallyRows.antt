-- The worked row of a DO that counts in an element: its statements, and the whole.
use Rattle.std.proofs.Common.{List, None, Option, Some}
use Rattle.std.proofs.Common.{[], arith}
use Rattle.std.proofs.Common.{inl, length}
use Rattle.std.proofs.Common.{refl, suc}
use Rattle.std.proofs.Common.{zero, ℕ}
use Rattle.std.proofs.Common.{◌++◌, ◌+◌, ◌<◌}
use Rattle.std.proofs.Common.{◌^◌, ◌∷◌, ◌≡◌}
use Rattle.std.specs.Prelude.{pos}
use Rattle.rv_meaning.specs.Machine.{memory_size}
use Rattle.pli_meaning.specs.Executing.{begun, entered, run}
use Rattle.pli_meaning.specs.StorageState.{first_state}
use Rattle.area_keeper.specs.KeeperLaws.{Keeps}
use Rattle.run_keeper.specs.RunKeeper.{run_keeper}
use Rattle.pli_coding.specs.Allocating.{act_code}
use Rattle.pli_coding.specs.Assembly.{CallTo, Code, JumpBack}
use Rattle.pli_coding.specs.Assembly.{ProcedureEntry}
use Rattle.pli_coding.specs.Assembly.{size_of}
use Rattle.pli_coding.specs.Environments.{none_taken}
use Rattle.pli_coding.specs.Images.{first_frame, linked_code}
use Rattle.pli_coding.specs.Linking.{links_of}
use Rattle.pli_coding.specs.Statements.{Turn, count_begun, in_turns}
use Rattle.pli_coding.specs.Statements.{stmts_code, turn_of, turns_code}
use Rattle.pli_coding.specs.Statements.{words_back, words_behind_limit}
use Rattle.activation_relation.specs.Layers.{services_of}
use Rattle.run_steps.proofs.Jumps.{back_of, first_of, front_of, rest_of}
use Rattle.run_steps.proofs.Linking.{linked_length}
use Rattle.run_steps.specs.Reach.{Comes}
use Rattle.program_runs.specs.Calls.{left_over}
use Rattle.program_runs.specs.Programs.{IsWhole, main_of}
use Rattle.program_runs.specs.Starts.{first_family, image_parts, main_called, no_numbers, never_in}
use Rattle.program_runs.specs.Starts.{start_point, surroundings_of}
use Rattle.program_runs.specs.Statements.{Does}
use Rattle.program_runs.specs.Statements.{IsBegun}
use Rattle.program_runs.proofs.Statements.{none_does}
use Rattle.expression_runs.specs.Assignments.{setting_of}
use Rattle.expression_runs.proofs.Operands.{constant_does}
use Rattle.expression_runs.proofs.Sums.{sum_does}
use Rattle.expression_runs.proofs.VariablePoints.{variable_does}
use Rattle.variable_runs.proofs.Lists.{all_procedure}
use Rattle.element_runs.specs.Arrays.{element}
use Rattle.element_runs.proofs.Outside.{subscripts_end}
use Rattle.unit_runs.specs.Bodies.{BodyDoes}
use Rattle.unit_runs.proofs.Bodies.{first_ends, list_ends, on_ends, unit_program_runs}
use Rattle.unit_runs.proofs.Establishing.{unit_begun}
use Rattle.rv_meaning.specs.Words.{word}
use Rattle.pli_meaning.specs.Control.{Normal}
use Rattle.pli_meaning.specs.Raising.{Around}
use Rattle.counter_runs.specs.Counts.{TurnDoes, counter_of, setting_with}
use Rattle.counter_runs.specs.Counts.{starting, value_of_start}
use Rattle.counter_runs.specs.Words.{with_word}
use Rattle.counter_runs.proofs.Bodies.{turn_does}
use Rattle.counter_runs.proofs.Counts.{count_does}
use Rattle.counter_runs.proofs.Needs.{does_more}
use Rattle.counter_runs.proofs.StepConstants.{up_step}
use Rattle.counter_runs.proofs.Elements.{element_counts}
use Rattle.counter_runs.specs.Counters.{IsCounter}
use Rattle.counter_runs.specs.TallyRows.{tally_array, tally_body}
use Rattle.counter_runs.specs.TallyRows.{tally_bounds, tally_code, tally_double, tally_end}
use Rattle.counter_runs.specs.TallyRows.{tally_environment, tally_first, tally_image, tally_loop}
use Rattle.counter_runs.specs.TallyRows.{tally_on, tally_program, tally_rest}
use Rattle.counter_runs.specs.TallyRows.{tally_spot, tally_start, tally_turn, tally_twice}
use Rattle.counter_runs.specs.TallyRows.{tally_unit, tally_value, tallying}
use Rattle.counter_runs.specs.TallyRows.{told_by_function}
use Rattle.pli_language.specs.declared.condition.Condition.TheVariants as C
use Rattle.pli_typing.specs.TypedTree as Y
use Rattle.pli_meaning.specs.declared.outcome.End.TheVariants as E
use Rattle.pli_meaning.specs.Control as F
use Rattle.pli_meaning.specs.Evaluating as V
use Rattle.pli_meaning.specs.Executing as M
use Rattle.pli_meaning.specs.Making as K
use Rattle.pli_meaning.specs.Raising as R
use Rattle.expression_runs.proofs.Assignments as X
use Rattle.pli_meaning.specs.Placing as Pl
use Rattle.counter_runs.proofs.TallyCode.{StandsAt}
use Rattle.counter_runs.proofs.TallyCode.{behind_block, body_linked, both_differ}
use Rattle.counter_runs.proofs.TallyCode.{coded, end_linked, first_number}
use Rattle.counter_runs.proofs.TallyCode.{listed, loop_index, loop_linked, main_layer}
use Rattle.counter_runs.proofs.TallyCode.{main_linked, on_is}
use Rattle.counter_runs.proofs.TallyCode.{rest_linked, start_linked, tally_all, tally_block}
use Rattle.counter_runs.proofs.TallyCode.{tally_variables, tally_whole, told, told_array}
use Rattle.counter_runs.proofs.TallyCode.{told_begun, told_number}
use Rattle.counter_runs.proofs.TallyRaises.{function_is}
use Rattle.counter_runs.proofs.TallyRaises.{main_over}
use Rattle.counter_runs.proofs.TallyRaises.{main_setting, routines}

-- ---- the statements of the main procedure

first_does :
    (input : List ℕ) (acts : ℕ) → acts + 1 < 2 ^ 64 → IsBegun (tally_block input acts) →
    Does (tally_block input acts) [] tally_first tally_start left_over
first_does input acts few b =
    let k = tally_block input acts in
    let n = linked_length (links_of tally_code) 0 tally_code in
    X.assign_does k [] tally_spot (Y.NumberConstant 2147483647) 4 tally_start left_over 0 100
    (record {
      act = record { line_fits = omega arith; acts = few };
      begun = b;
      number = first_number input acts;
      registers = omega arith;
      held = omega arith;
      statement = front_of (coded tally_first) (listed tally_rest) body_linked;
      paid = omega (arith, n);
    })
    (constant_does (setting_of k [] 4 100) 2147483647 (omega arith))

abbrev tally_turns : Turn
tally_turns =
    turn_of tally_environment none_taken (counter_of tallying) (Some tallying.limit) (Some (pos 1)) None 7
    (stmts_code tally_environment (in_turns none_taken) tally_turn)

abbrev turn_limit : Code
turn_limit = tally_turns.limit (words_behind_limit tally_turns)

abbrev turn_last : Code
turn_last = tally_turns.stepped ++ JumpBack (words_back tally_turns) ∷ []

abbrev tally_starts : Code
tally_starts =
    count_begun tally_environment none_taken (counter_of tallying) (value_of_start tallying) (Some tallying.limit)
    tallying.step

abbrev turn_index : ℕ
turn_index =
    loop_index + size_of (act_code 7) + size_of tally_starts + size_of tally_turns.begun + size_of turn_limit

turn_linked : StandsAt turn_index (listed tally_turn)
turn_linked =
    let part = tally_turns.body in
    front_of part turn_last
    (back_of turn_limit (part ++ turn_last)
    (back_of tally_turns.begun (turn_limit ++ (part ++ turn_last))
    (back_of tally_starts (turns_code tally_turns)
    (back_of (act_code 7) (tally_starts ++ turns_code tally_turns) loop_linked))))

turn_each :
    (waits : ℕ → Option ℕ) (input : List ℕ) (more : ℕ) → suc more + 1 < 2 ^ 64 →
    IsBegun (behind_block input (suc more)) →
    TurnDoes 0 (told waits input (suc more)) [] tally_turn turn_index left_over
turn_each waits input more few b =
    let k = told waits input (suc more) in
    let eight = main_setting waits input more 8 0 in
    let n = linked_length (links_of tally_code) 0 tally_code in
    let operand = variable_does eight tally_spot (told_begun waits input (suc more) b)
    (told_number waits input (suc more)) in
    turn_does 0 k [] tally_turn turn_index left_over
    (record {
      begun = told_begun waits input (suc more) b;
      turns = omega arith;
      marked = (λ label e. absurd (cc e), λ label e. absurd (cc e));
    }) (
      X.assign_does k [] tally_spot tally_twice 8 turn_index left_over 1 400
          (record {
            act = record { line_fits = omega arith; acts = few };
            begun = told_begun waits input (suc more) b;
            number = told_number waits input (suc more);
            registers = omega arith;
            held = omega arith;
            statement = front_of (coded tally_double) [] turn_linked;
            paid = omega (arith, n);
          })
          (sum_does eight tally_value tally_value 0 0 (main_over waits input more 8 0 few b) operand operand),
      tt,
    )

counter_is :
    (waits : ℕ → Option ℕ) (input : List ℕ) (more : ℕ) → suc more + 1 < 2 ^ 64 →
    IsBegun (behind_block input (suc more)) →
    IsCounter (main_setting waits input more 7 2) 2 (element tally_array told_by_function)
counter_is waits input more few b =
    let k = main_setting waits input more 7 2 in
    let does = function_is waits input more 7 2 few (omega arith) b in
    element_counts k tally_array tally_bounds told_by_function 2 (told_begun waits input (suc more) b)
    (told_array waits input (suc more))
    (subscripts_end k (record { routines = routines; place = refl; error = tt; acts = few; most = omega arith }))
    (inl (record { waits = refl; first = 0; does = does; enough = omega arith }))
    (inl (record { waits = refl; first = 0; does = does; enough = omega arith }))

loop_does :
    (input : List ℕ) (acts : ℕ) → acts + 1 < 2 ^ 64 → IsBegun (behind_block input acts) →
    Does (behind_block input acts) [] tally_loop loop_index left_over
loop_does input zero few b = none_does (behind_block input zero) [] tally_loop loop_index left_over b refl
loop_does input (suc more) few b =
    let k = behind_block input (suc more) in
    let φ = main_layer input (suc more) in
    let n = linked_length (links_of tally_code) 0 tally_code in
    count_does 0 k tallying φ [] [] loop_index left_over 2 400
    (record {
      act = record { line_fits = omega arith; acts = few };
      begun = b;
      turns = omega arith;
      newest = refl;
      inside = omega arith;
      low = omega arith;
      free = (refl, refl);
      step = up_step 1 (omega arith);
      some = omega arith;
      registers = omega arith;
      held = omega arith;
      statement = loop_linked;
      paid = omega (arith, n);
    })
    (does_more (setting_with k [] 7 400 3) 0 2 (Y.NumberConstant 1) (omega arith)
    (constant_does (setting_with k [] 7 400 3) 1 (omega arith)))
    (λ z wide. does_more (setting_with (starting 0 φ [] k z) [] 7 400 3) 0 2 (Y.NumberConstant 3) (omega arith)
    (constant_does (setting_with (starting 0 φ [] k z) [] 7 400 3) 3 (omega arith)))
    (λ y wide. counter_is (with_word 0 (word y) φ.waits) input more few b)
    (λ y wide. main_over (with_word 0 (word y) φ.waits) input more 7 2 few b) (λ y wide. tt)
    (λ y wide. turn_each (with_word 0 (word y) φ.waits) input more few b)

pub tally_does :
    (input : List ℕ) (acts : ℕ) → acts + 1 < 2 ^ 64 → IsBegun (tally_block input acts) →
    BodyDoes (tally_block input acts) tally_body tally_start left_over
tally_does input acts few b =
    let k = tally_block input acts in
    let h = on_is input acts few b in
    first_ends k tally_first tally_rest tally_start left_over
    (record {
      body = record {
        begun = b;
        linked = body_linked;
        end = refl;
        function = refl;
        kind = refl;
        registers = omega arith;
        outers = refl;
        enough = omega arith;
      };
      does = first_does input acts few b;
      goes = on_ends k tally_unit tally_end tally_on left_over
          (record {
            body = record {
              begun = b;
              linked = rest_linked;
              end = refl;
              function = refl;
              kind = refl;
              registers = omega arith;
              outers = refl;
              enough = omega arith;
            };
            on = h;
            goes = list_ends (behind_block input acts) tally_end loop_index left_over
                (record {
                  begun = unit_begun k tally_unit tally_on h;
                  linked = end_linked;
                  end = refl;
                  function = refl;
                  kind = refl;
                  registers = omega arith;
                  outers = refl;
                  enough = omega arith;
                })
                (λ label e. absurd (cc e), λ label e. absurd (cc e))
                (loop_does input acts few (unit_begun k tally_unit tally_on h), tt);
          });
    })

-- ---- the whole

pub tally_is : (input first : List ℕ) (acts : ℕ) → acts + 1 < 2 ^ 64 → length first ≡ memory_size →
    IsWhole (tally_whole input acts) first
tally_is input first acts few bytes =
    let l = back_of (first_frame image_parts) (main_called 0) start_linked in
    record {
      start = record { linked = start_linked; differ = both_differ; bytes = bytes; told = λ n v e. absurd (cc e) };
      made = all_procedure (surroundings_of (tally_image input acts)) (linked_code tally_code)
          (main_of (tally_whole input acts)) (start_point (tally_image input acts)) no_numbers tally_variables
          (tally_all input acts);
      callee = record {
        coded = record { level = omega arith; line = omega arith; saved = omega arith; back = omega arith };
        calls = first_of (CallTo (ProcedureEntry 0)) _ (rest_of _ _ (rest_of _ _ (rest_of _ _ l)));
        place = refl;
        stands = main_linked;
        end = refl;
        kind = refl;
        labels = (
          λ label e. absurd (cc e),
          (λ label e. absurd (cc e), (λ label e. absurd (cc e), λ label e. absurd (cc e))),
        );
        acts = few;
      };
      room = record { room = omega arith; shallow = refl; parent = tt; idle = refl };
      level = refl;
      procedures = refl;
      statics = refl;
    }

pub tally_runs :
    Keeps run_keeper → (input first : List ℕ) (acts : ℕ) → acts + 1 < 2 ^ 64 → length first ≡ memory_size →
    Comes (linked_code tally_code) 0 (first_family first (services_of (start_point (tally_image input acts))))
    (services_of (start_point (tally_image input acts))) (never_in (tally_image input acts))
    (run tally_program (suc acts) acts (first_state input))
tally_runs keeps input first acts few bytes =
    unit_program_runs keeps (tally_whole input acts) first (tally_is input first acts few bytes)
    (λ b. tally_does input acts few b)

-- ---- what the program comes to

unfoldable flows : Unit {0}
unfolding F.give F.◌>>=◌ F.◌>>◌ F.looked F.stored F.act F.finish F.returns F.jumps F.choose F.given F.list_from
    F.leaving F.repeated_while
flows = tt

unfoldable values : Unit {0}
unfolding V.number V.computational V.designated V.located V.numbers V.variable_designated V.part_designated
    V.stored_value R.or_error R.demanded R.value_of R.raised R.unit_run R.error R.error_unit_run
    Pl.element_stored M.assigned
values = tt

unfoldable calls : Unit {0}
unfolding V.called V.arguments V.all_passed_last V.procedure_entered V.returned K.variables_made K.automatic_made
    K.extents K.variable_made K.parameters_bound
calls = tt

unfoldable statements : Unit {0}
unfolding M.statement M.statements M.list M.list_with M.block_variables_made M.entry_act M.block_list M.block_body
    M.established_by M.turn_due M.within_limit M.condition_met M.counter_number M.counter_value M.counter_started
    M.stepped M.limit_of
statements = tt

pub tally_ends :
    (input : List ℕ) →
    M.meaning tally_program input 45
    ≡ Some (record { acts = 45; output = []; raised = (C.FixedOverflow, 20) ∷ []; end = E.Finished })
unfolding M.meaning M.run M.entered M.block_run flows values calls statements
tally_ends input = refl
