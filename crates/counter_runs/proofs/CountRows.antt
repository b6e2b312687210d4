-- The worked row of a DO that counts: all that is premised of the program is computed.
use Rattle.std.proofs.Common.{◌≡◌, ℕ, suc, ◌+◌, ◌^◌, ◌<◌, List, [], ◌∷◌, ◌++◌, inl, inr, length, map, None, Option}
use Rattle.std.proofs.Common.{Some}
use Rattle.std.proofs.Common.{refl, arith}
use Rattle.std.specs.Prelude.{pos}
use Rattle.rv_meaning.specs.Machine.{memory_size}
use Rattle.rv_meaning.specs.Words.{word}
use Rattle.pli_language.specs.declared.condition.Condition.TheVariants as C
use Rattle.pli_typing.specs.TypedTree as Y
use Rattle.pli_meaning.specs.declared.outcome.End.TheVariants as E
use Rattle.pli_meaning.specs.Control as F
use Rattle.pli_meaning.specs.Control.{Normal}
use Rattle.pli_meaning.specs.Evaluating as V
use Rattle.pli_meaning.specs.Executing as M
use Rattle.pli_meaning.specs.Executing.{run}
use Rattle.pli_meaning.specs.Making as K
use Rattle.pli_meaning.specs.Placing as P
use Rattle.pli_meaning.specs.Raising as R
use Rattle.pli_meaning.specs.Raising.{Around}
use Rattle.pli_meaning.specs.StorageState.{first_state}
use Rattle.area_keeper.specs.KeeperLaws.{Keeps}
use Rattle.run_keeper.specs.RunKeeper.{run_keeper}
use Rattle.pli_serving.specs.Templates.{template_of}
use Rattle.pli_coding.specs.Allocating.{act_code}
use Rattle.pli_coding.specs.Assembly.{CallTo, Code, JumpBack, Mark, ProcedureEntry, ReturnPlace, size_of}
use Rattle.pli_coding.specs.Environments.{none_taken}
use Rattle.pli_coding.specs.Images.{first_frame, linked_code, raise_code}
use Rattle.pli_coding.specs.Linking.{links_of}
use Rattle.pli_coding.specs.SignatureTable.{table_of}
use Rattle.pli_coding.specs.Statements.{Turn, count_begun, in_turns, stmt_code, stmts_code, turn_of, turns_code}
use Rattle.pli_coding.specs.Statements.{words_back, words_behind_limit}
use Rattle.storage_relation.specs.Served.{AllDiffer}
use Rattle.activation_relation.specs.Layers.{Layer, services_of}
use Rattle.run_steps.specs.Items.{Linked}
use Rattle.run_steps.proofs.Jumps.{back_of, first_of, front_of, rest_of}
use Rattle.run_steps.proofs.Linking.{has_items, linked_length}
use Rattle.run_steps.specs.Reach.{Comes}
use Rattle.program_runs.specs.Calls.{block_at, body_index, left_over}
use Rattle.program_runs.specs.Procedures.{begin_of, end_of, layer_for, procedure_code}
use Rattle.program_runs.specs.Programs.{IsWhole, Whole, main_of}
use Rattle.program_runs.specs.Starts.{first_family, image_parts, main_called, no_numbers, start_of, never_in}
use Rattle.program_runs.specs.Starts.{start_point, surroundings_of}
use Rattle.program_runs.specs.Statements.{Block, EachDoes, IsBegun}
use Rattle.program_runs.proofs.Programs.{program_runs}
use Rattle.program_runs.proofs.Rows.{is_datum, names_none, none_named}
use Rattle.program_runs.proofs.VariableRows.{differs_alone, number_valued}
use Rattle.program_runs.specs.Variables.{Declared}
use Rattle.expression_runs.specs.Assignments.{IsAssignment, setting_of}
use Rattle.expression_runs.specs.Raises.{IsUnraised}
use Rattle.expression_runs.specs.Variables.{IsNumber}
use Rattle.expression_runs.proofs.Assignments.{assign_does}
use Rattle.expression_runs.proofs.Operands.{constant_does}
use Rattle.expression_runs.proofs.Raises.{overflow_ends}
use Rattle.expression_runs.proofs.Sums.{sum_does}
use Rattle.expression_runs.proofs.VariablePoints.{variable_does}
use Rattle.variable_runs.specs.Lists.{AreAll, layer_after, newest_all}
use Rattle.counter_runs.specs.CountRows.{count_body, count_code, count_coded, count_declared, count_double, count_entry}
use Rattle.counter_runs.specs.CountRows.{count_environment, count_first, count_image, count_loop, count_main}
use Rattle.counter_runs.specs.CountRows.{count_program, count_rest, count_spot, count_sum, count_turn, count_value}
use Rattle.counter_runs.specs.CountRows.{counter_declared, counter_spot, counting}
use Rattle.counter_runs.specs.Counts.{IsCount, TurnDoes, counter_of, setting_with, starting, value_of_start}
use Rattle.counter_runs.specs.Words.{telling, with_word}
use Rattle.counter_runs.proofs.Bodies.{turn_does}
use Rattle.counter_runs.proofs.Counts.{count_does}
use Rattle.counter_runs.proofs.Known.{number_told}
use Rattle.counter_runs.proofs.Needs.{does_more}
use Rattle.counter_runs.proofs.StepConstants.{up_step}
use Rattle.counter_runs.proofs.Scalars.{number_counts}
use Rattle.counter_runs.proofs.Words.{begun_telling}
use Rattle.variable_runs.proofs.Known.{known_number, known_own}
use Rattle.variable_runs.proofs.Lists.{all_procedure}

-- ---- its code

count_linked : Linked (links_of count_code) (linked_code count_code) 0 count_code
unfolding names_none is_datum
count_linked =
    let n = linked_length (links_of count_code) 0 count_code in
    record {
      small' = omega (arith, n);
      inside = omega (arith, n);
      has = has_items (links_of count_code) count_code refl;
      named = λ d h. absurd (none_named d count_code refl h);
    }

start_linked : Linked (links_of count_code) (linked_code count_code) 0 (start_of 0)
start_linked = front_of (start_of 0) (raise_code ++ count_coded) count_linked

raise_linked : Linked (links_of count_code) (linked_code count_code) (size_of (start_of 0)) raise_code
raise_linked = front_of raise_code count_coded (back_of (start_of 0) (raise_code ++ count_coded) count_linked)

main_linked :
    Linked (links_of count_code) (linked_code count_code) count_entry
    (procedure_code count_environment count_main)
main_linked =
    rest_of (Mark (ProcedureEntry 0)) (procedure_code count_environment count_main)
    (back_of raise_code count_coded (back_of (start_of 0) (raise_code ++ count_coded) count_linked))

abbrev pub count_start : ℕ
count_start =
    count_entry + size_of (begin_of count_main) + size_of count_main.variables + size_of (act_code 1)

abbrev pub count_finish : ℕ
count_finish = count_start + size_of (stmts_code count_environment none_taken count_main.body)

body_linked :
    Linked (links_of count_code) (linked_code count_code) count_start
    (stmts_code count_environment none_taken count_main.body)
body_linked =
    let one = act_code 1 in
    let body = stmts_code count_environment none_taken count_main.body in
    let tail = Mark (ReturnPlace 0) ∷ end_of count_main in
    let rest = one ++ (body ++ tail) in
    front_of body tail
    (back_of one (body ++ tail)
    (back_of count_main.variables rest (back_of (begin_of count_main) (count_main.variables ++ rest) main_linked)))

-- ---- its variables

one_differs : AllDiffer (map template_of (table_of count_program))
one_differs = differs_alone (map template_of (table_of count_program)) _ refl refl

abbrev pub count_variables : List Declared
count_variables = count_declared ∷ counter_declared ∷ []

abbrev pub count_whole : (input : List ℕ) → (acts : ℕ) → Whole
count_whole input acts =
    record {
      image = count_image input acts;
      program = count_program;
      main = count_main;
      others = [];
      environment = count_environment;
      entry = count_entry;
      end = count_finish;
      made = newest_all image_parts count_variables;
    }

count_all :
    (input : List ℕ) (acts : ℕ) →
    AreAll (surroundings_of (count_image input acts)) (main_of (count_whole input acts))
    (start_point (count_image input acts)) no_numbers count_variables
count_all input acts =
    let n = linked_length (links_of count_code) 0 count_code in
    record {
      kind = refl;
      those = inl (refl, refl, inl (refl, refl, tt));
      listed = (
        record { class = refl; evaluations = refl; late = omega arith; table = refl },
        (record { class = refl; evaluations = refl; late = omega arith; table = refl }, tt),
      );
      code = refl;
      made = refl;
      parts = refl;
      few = omega arith;
      declared = (
        inl (record {
          newest = refl;
          here = refl;
          holds = omega arith;
          size = omega arith;
          fits = omega arith;
          even = refl;
          low = omega (arith, n);
          shape = refl;
          number = omega arith;
          initial = refl;
          none = refl;
          plain = refl;
          fixed = refl;
          values = (tt, tt);
          valued = number_valued;
          limit = refl;
        }),
        (
          inl (record {
            newest = refl;
            here = refl;
            holds = omega arith;
            size = omega arith;
            fits = omega arith;
            even = refl;
            low = omega (arith, n);
            shape = refl;
            number = omega arith;
            initial = refl;
            none = refl;
            plain = refl;
            fixed = refl;
            values = (tt, tt);
            valued = number_valued;
            limit = refl;
          }),
          tt,
        ),
      );
    }

abbrev pub count_block : (input : List ℕ) → (acts : ℕ) → Block
count_block input acts =
    block_at (surroundings_of (count_image input acts)) (linked_code count_code) (main_of (count_whole input acts))
    (start_point (count_image input acts)) no_numbers

count_number :
    (input : List ℕ) (acts : ℕ) → IsBegun (count_block input acts) → IsNumber (count_block input acts) count_spot
count_number input acts b =
    known_number (count_block input acts) count_spot []
    (known_own (surroundings_of (count_image input acts)) (linked_code count_code) (main_of (count_whole input acts))
    (start_point (count_image input acts)) no_numbers count_variables count_declared count_spot
    (record { high = omega arith; inside = omega arith }) (count_all input acts) (inl refl)
    (record { declared = refl; index = refl; level = refl; own = refl; place = refl }) b)

counter_number :
    (input : List ℕ) (acts : ℕ) → IsBegun (count_block input acts) → IsNumber (count_block input acts) counter_spot
counter_number input acts b =
    known_number (count_block input acts) counter_spot []
    (known_own (surroundings_of (count_image input acts)) (linked_code count_code) (main_of (count_whole input acts))
    (start_point (count_image input acts)) no_numbers count_variables counter_declared counter_spot
    (record { high = omega arith; inside = omega arith }) (count_all input acts) (inr (inl refl))
    (record { declared = refl; index = refl; level = refl; own = refl; place = refl }) b)

-- ---- its statements

abbrev coded : Y.Stmt → Code
coded stmt = stmt_code count_environment none_taken stmt

abbrev listed : Y.Stmts → Code
listed body = stmts_code count_environment none_taken body

abbrev StandsAt : ℕ → Code → Type 0
StandsAt index part = Linked (links_of count_code) (linked_code count_code) index part

abbrev loop_index : ℕ
loop_index = count_start + size_of (coded count_first)

first_linked : StandsAt count_start (coded count_first)
first_linked = front_of (coded count_first) (listed count_rest) body_linked

loop_linked : StandsAt loop_index (coded count_loop)
loop_linked = front_of (coded count_loop) [] (back_of (coded count_first) (listed count_rest) body_linked)

-- ---- the block in a turn

-- its layer, the oldest
abbrev main_layer : (input : List ℕ) → (acts : ℕ) → Layer
main_layer input acts =
    layer_after image_parts 1
    (layer_for (surroundings_of (count_image input acts)) (start_point (count_image input acts)) no_numbers count_main
    (main_of (count_whole input acts)).calling) count_variables

abbrev told : (waits : ℕ → Option ℕ) → (input : List ℕ) → (acts : ℕ) → Block
told waits input acts = telling waits (main_layer input acts) [] (count_block input acts)

told_begun :
    (waits : ℕ → Option ℕ) (input : List ℕ) (acts : ℕ) → IsBegun (count_block input acts) →
    IsBegun (told waits input acts)
told_begun waits input acts b = begun_telling (count_block input acts) (main_layer input acts) [] waits refl b

unraised :
    (waits : ℕ → Option ℕ) (input : List ℕ) (acts line words : ℕ) → acts + 1 < 2 ^ 64 →
    IsUnraised (setting_with (told waits input acts) [] line 100 words)
unraised waits input acts line words few =
    record {
      routines = record {
        at = size_of (start_of 0);
        linked = raise_linked;
        condition = refl;
        end = omega arith;
      };
      overflow = tt;
      error = tt;
      acts = few;
      most = omega arith;
    }

-- ---- its statements

abbrev count_turns : Turn
count_turns =
    turn_of count_environment none_taken (counter_of counting) (Some counting.limit) (Some (pos 1)) None 4
    (stmts_code count_environment (in_turns none_taken) count_turn)

abbrev turn_limit : Code
turn_limit = count_turns.limit (words_behind_limit count_turns)

abbrev turn_last : Code
turn_last = count_turns.stepped ++ JumpBack (words_back count_turns) ∷ []

abbrev count_starts : Code
count_starts =
    count_begun count_environment none_taken (counter_of counting) (value_of_start counting) (Some counting.limit)
    counting.step

abbrev turn_index : ℕ
turn_index =
    loop_index + size_of (act_code 4) + size_of count_starts + size_of count_turns.begun + size_of turn_limit

turn_linked : StandsAt turn_index (listed count_turn)
turn_linked =
    let part = count_turns.body in
    front_of part turn_last
    (back_of turn_limit (part ++ turn_last)
    (back_of count_turns.begun (turn_limit ++ (part ++ turn_last))
    (back_of count_starts (turns_code count_turns)
    (back_of (act_code 4) (count_starts ++ turns_code count_turns) loop_linked))))

first_is :
    (input : List ℕ) (acts : ℕ) → acts + 1 < 2 ^ 64 → IsBegun (count_block input acts) →
    IsAssignment (count_block input acts) count_spot (Y.NumberConstant 268435456) 3 count_start 0 100
first_is input acts few b =
    let n = linked_length (links_of count_code) 0 count_code in
    record {
      act = record { line_fits = omega arith; acts = few };
      begun = b;
      number = count_number input acts b;
      registers = omega arith;
      held = omega arith;
      statement = first_linked;
      paid = omega (arith, n);
    }

double_is :
    (waits : ℕ → Option ℕ) (input : List ℕ) (acts : ℕ) → acts + 1 < 2 ^ 64 → IsBegun (count_block input acts) →
    IsAssignment (told waits input acts) count_spot count_sum 5 turn_index 1 100
double_is waits input acts few b =
    let n = linked_length (links_of count_code) 0 count_code in
    record {
      act = record { line_fits = omega arith; acts = few };
      begun = told_begun waits input acts b;
      number = number_told (count_block input acts) (main_layer input acts) [] waits refl count_spot
          (count_number input acts b);
      registers = omega arith;
      held = omega arith;
      statement = front_of (coded count_double) [] turn_linked;
      paid = omega (arith, n);
    }

turn_each :
    (waits : ℕ → Option ℕ) (input : List ℕ) (acts : ℕ) → acts + 1 < 2 ^ 64 → IsBegun (count_block input acts) →
    TurnDoes 0 (told waits input acts) [] count_turn turn_index left_over
turn_each waits input acts few b =
    let k = told waits input acts in
    let five = setting_of k [] 5 100 in
    let number = number_told (count_block input acts) (main_layer input acts) [] waits refl count_spot
    (count_number input acts b) in
    let operand = variable_does five count_spot (told_begun waits input acts b) number in
    turn_does 0 k [] count_turn turn_index left_over
    (record {
      begun = told_begun waits input acts b;
      turns = omega arith;
      marked = (λ label e. absurd (cc e), λ label e. absurd (cc e));
    }) (
      assign_does k [] count_spot count_sum 5 turn_index left_over 1 100 (double_is waits input acts few b)
          (sum_does five count_value count_value 0 0 (overflow_ends five (unraised waits input acts 5 0 few)) operand
          operand),
      tt,
    )

loop_is :
    (input : List ℕ) (acts : ℕ) → acts + 1 < 2 ^ 64 → IsBegun (count_block input acts) →
    IsCount 0 (count_block input acts) counting (main_layer input acts) [] loop_index 1 100
loop_is input acts few b =
    let n = linked_length (links_of count_code) 0 count_code in
    record {
      act = record { line_fits = omega arith; acts = few };
      begun = b;
      turns = omega arith;
      newest = refl;
      inside = omega arith;
      low = omega arith;
      free = (refl, refl);
      step = up_step 1 (omega arith);
      some = omega arith;
      registers = omega arith;
      held = omega arith;
      statement = loop_linked;
      paid = omega (arith, n);
    }

pub count_each :
    (input : List ℕ) (acts : ℕ) → acts + 1 < 2 ^ 64 → IsBegun (count_block input acts) →
    EachDoes (count_block input acts) [] count_body (body_index (main_of (count_whole input acts))) left_over
count_each input acts few b =
    let k = count_block input acts in
    let φ = main_layer input acts in (
      assign_does k [] count_spot (Y.NumberConstant 268435456) 3 count_start left_over 0 100
          (first_is input acts few b) (constant_does (setting_of k [] 3 100) 268435456 (omega arith)),
      (
        count_does 0 k counting φ [] [] loop_index left_over 1 100 (loop_is input acts few b)
            (does_more (setting_with k [] 4 100 3) 0 1 (Y.NumberConstant 1) (omega arith)
            (constant_does (setting_with k [] 4 100 3) 1 (omega arith)))
            (λ z wide. does_more (setting_with (starting 0 φ [] k z) [] 4 100 3) 0 1 (Y.NumberConstant 3) (omega arith)
            (constant_does (setting_with (starting 0 φ [] k z) [] 4 100 3) 3 (omega arith)))
            (λ y wide. let waits = with_word 0 (word y) φ.waits in
            number_counts (setting_with (told waits input acts) [] 4 100 2) counter_spot 1
            (told_begun waits input acts b)
            (number_told k φ [] waits refl counter_spot (counter_number input acts b)))
            (λ y wide. let waits = with_word 0 (word y) φ.waits in
            overflow_ends (setting_with (told waits input acts) [] 4 100 2) (unraised waits input acts 4 2 few))
            (λ y wide. tt)
            (λ y wide. turn_each (with_word 0 (word y) φ.waits) input acts few b),
        tt,
      ),
    )

-- ---- the whole

pub count_is : (input first : List ℕ) (acts : ℕ) → acts + 1 < 2 ^ 64 → length first ≡ memory_size →
    IsWhole (count_whole input acts) first
count_is input first acts few bytes =
    let l = back_of (first_frame image_parts) (main_called 0) start_linked in
    record {
      start = record { linked = start_linked; differ = one_differs; bytes = bytes; told = λ n v e. absurd (cc e) };
      made = all_procedure (surroundings_of (count_image input acts)) (linked_code count_code)
          (main_of (count_whole input acts)) (start_point (count_image input acts)) no_numbers count_variables
          (count_all input acts);
      callee = record {
        coded = record { level = omega arith; line = omega arith; saved = omega arith; back = omega arith };
        calls = first_of (CallTo (ProcedureEntry 0)) _ (rest_of _ _ (rest_of _ _ (rest_of _ _ l)));
        place = refl;
        stands = main_linked;
        end = refl;
        kind = refl;
        labels = (λ label e. absurd (cc e), (λ label e. absurd (cc e), λ label e. absurd (cc e)));
        acts = few;
      };
      room = record { room = omega arith; shallow = refl; parent = tt; idle = refl };
      level = refl;
      procedures = refl;
      statics = refl;
    }

pub count_runs :
    Keeps run_keeper → (input first : List ℕ) (acts : ℕ) → acts + 1 < 2 ^ 64 → length first ≡ memory_size →
    Comes (linked_code count_code) 0 (first_family first (services_of (start_point (count_image input acts))))
    (services_of (start_point (count_image input acts))) (never_in (count_image input acts))
    (run count_program (suc acts) acts (first_state input))
count_runs keeps input first acts few bytes =
    program_runs keeps (count_whole input acts) first (count_is input first acts few bytes)
    (λ b. count_each input acts few b)

-- ---- what the program comes to

unfoldable flows : Unit {0}
unfolding F.give F.◌>>=◌ F.◌>>◌ F.looked F.stored F.act F.finish F.returns F.jumps F.choose F.given F.list_from
    F.leaving F.repeated_while
flows = tt

unfoldable values : Unit {0}
unfolding V.number V.computational V.designated V.located V.numbers V.variable_designated V.part_designated
    V.stored_value R.or_error R.demanded R.value_of R.raised R.unit_run R.error R.error_unit_run
    P.element_stored M.assigned
values = tt

unfoldable makings : Unit {0}
unfolding K.variables_made K.automatic_made K.extents K.variable_made K.parameters_bound
makings = tt

unfoldable statements : Unit {0}
unfolding M.statement M.turn_due M.within_limit M.condition_met M.counter_number M.counter_value M.counter_started
    M.stepped M.limit_of M.statements M.list M.list_with M.block_variables_made M.entry_act M.block_list M.block_body
statements = tt

pub count_ends :
    (input : List ℕ) →
    M.meaning count_program input 12
    ≡ Some (record {
      acts = 12;
      output = [];
      raised = (C.FixedOverflow, 20) ∷ (C.Error, 20) ∷ [];
      end = E.Error 20 5;
    })
unfolding M.meaning M.run M.entered M.block_run flows values makings statements
count_ends input = refl
