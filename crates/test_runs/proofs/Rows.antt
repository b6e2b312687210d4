-- The worked row: all that is premised of the program is computed.
use Rattle.std.proofs.Common.{◌≡◌, ℕ, suc, ◌+◌, ◌^◌, ◌<◌, ◌≤◌, List, [], ◌∷◌, ◌++◌, inl, length, map, Some}
use Rattle.std.proofs.Common.{refl, arith}
use Rattle.rv_meaning.specs.Machine.{memory_size}
use Rattle.pli_language.specs.declared.condition.Condition.TheVariants as C
use Rattle.pli_typing.specs.TypedTree as Y
use Rattle.pli_meaning.specs.declared.outcome.End.TheVariants as E
use Rattle.pli_meaning.specs.Control as F
use Rattle.pli_meaning.specs.Control.{Label, is_among}
use Rattle.pli_meaning.specs.Evaluating as V
use Rattle.pli_meaning.specs.Executing as M
use Rattle.pli_meaning.specs.Executing.{run}
use Rattle.pli_meaning.specs.Making as K
use Rattle.pli_meaning.specs.Placing as P
use Rattle.pli_meaning.specs.Raising as R
use Rattle.pli_meaning.specs.StorageState.{first_state}
use Rattle.area_keeper.specs.KeeperLaws.{Keeps}
use Rattle.run_keeper.specs.RunKeeper.{run_keeper}
use Rattle.pli_serving.specs.Templates.{template_of}
use Rattle.pli_coding.specs.Allocating.{act_code}
use Rattle.pli_coding.specs.Assembly.{CallTo, Mark, ProcedureEntry, ReturnPlace, size_of}
use Rattle.pli_coding.specs.Environments.{none_taken}
use Rattle.pli_coding.specs.Images.{first_frame, linked_code, raise_code}
use Rattle.pli_coding.specs.Linking.{links_of}
use Rattle.pli_coding.specs.SignatureTable.{table_of}
use Rattle.pli_coding.specs.Statements.{stmt_code, stmts_code}
use Rattle.storage_relation.specs.Served.{AllDiffer}
use Rattle.activation_relation.specs.Layers.{services_of}
use Rattle.run_steps.specs.Items.{Linked}
use Rattle.run_steps.proofs.Jumps.{back_of, first_of, front_of, rest_of}
use Rattle.run_steps.proofs.Linking.{has_items, linked_length}
use Rattle.run_steps.specs.Reach.{Comes}
use Rattle.program_runs.specs.Calls.{block_at, body_index, left_over}
use Rattle.program_runs.specs.Procedures.{begin_of, end_of, procedure_code}
use Rattle.program_runs.specs.Programs.{IsWhole, Whole, main_of}
use Rattle.program_runs.specs.Starts.{first_family, image_parts, main_called, no_numbers, start_of, never_in}
use Rattle.program_runs.specs.Starts.{start_point, surroundings_of}
use Rattle.program_runs.specs.Statements.{Block, EachDoes, IsBegun}
use Rattle.program_runs.specs.Variables as D
use Rattle.program_runs.specs.Variables.{IsOnly, newest_made}
use Rattle.program_runs.specs.VariableRows as W
use Rattle.program_runs.proofs.Programs.{program_runs}
use Rattle.program_runs.proofs.Rows.{is_datum, names_none, none_named}
use Rattle.program_runs.proofs.VariableProcedures.{one_made}
use Rattle.program_runs.proofs.VariableRows.{differs_alone, number_valued}
use Rattle.expression_runs.specs.Assignments.{IsAssignment, setting_of}
use Rattle.expression_runs.specs.Raises.{IsUnraised}
use Rattle.group_runs.proofs.Groups.{group_does}
use Rattle.test_runs.specs.Rows.{below, turn_body, turn_choice, turn_code, turn_coded, turn_end, turn_entry}
use Rattle.test_runs.specs.Rows.{turn_environment, turn_first, turn_group, turn_image, turn_last, turn_loop, turn_main}
use Rattle.test_runs.specs.Rows.{turn_other, turn_program, turn_rest, turn_spot, turn_sum, turn_turns, turn_unit}
use Rattle.test_runs.specs.Rows.{turn_value}
use Rattle.test_runs.proofs.Bits.{numbers_tests}
use Rattle.test_runs.proofs.Chosen.{past}
use Rattle.test_runs.proofs.Loops.{loop_does}
use Rattle.test_runs.proofs.Ifs.{one_of_does}
use Rattle.pli_coding.specs.Assembly.{Code, JumpAhead, JumpBack}
use Rattle.pli_coding.specs.Expressions.{bit_code}
use Rattle.pli_coding.specs.Statements.{if_met, one_of, while_met}
use Rattle.expression_runs.specs.Laws as L
use Rattle.test_runs.specs.Tests.{Tests}
use Rattle.expression_runs.specs.Assignments.{assignment}
use Rattle.expression_runs.specs.Variables.{IsNumber}
use Rattle.expression_runs.proofs.Assignments.{assign_does}
use Rattle.expression_runs.proofs.Operands.{constant_does}
use Rattle.expression_runs.proofs.Raises.{overflow_ends}
use Rattle.expression_runs.proofs.Sums.{sum_does}
use Rattle.expression_runs.proofs.VariablePoints.{variable_does}

-- ---- its code

turn_linked : Linked (links_of turn_code) (linked_code turn_code) 0 turn_code
unfolding names_none is_datum
turn_linked =
    let n = linked_length (links_of turn_code) 0 turn_code in
    record {
      small' = omega (arith, n);
      inside = omega (arith, n);
      has = has_items (links_of turn_code) turn_code refl;
      named = λ d h. absurd (none_named d turn_code refl h);
    }

start_linked : Linked (links_of turn_code) (linked_code turn_code) 0 (start_of 0)
start_linked = front_of (start_of 0) (raise_code ++ turn_coded) turn_linked

raise_linked : Linked (links_of turn_code) (linked_code turn_code) (size_of (start_of 0)) raise_code
raise_linked = front_of raise_code turn_coded (back_of (start_of 0) (raise_code ++ turn_coded) turn_linked)

main_linked :
    Linked (links_of turn_code) (linked_code turn_code) turn_entry
    (procedure_code turn_environment turn_main)
main_linked =
    rest_of (Mark (ProcedureEntry 0)) (procedure_code turn_environment turn_main)
    (back_of raise_code turn_coded (back_of (start_of 0) (raise_code ++ turn_coded) turn_linked))

abbrev pub turn_start : ℕ
turn_start =
    turn_entry + size_of (begin_of turn_main) + size_of turn_main.variables + size_of (act_code 1)

abbrev pub turn_finish : ℕ
turn_finish = turn_start + size_of (stmts_code turn_environment none_taken turn_main.body)

body_linked :
    Linked (links_of turn_code) (linked_code turn_code) turn_start
    (stmts_code turn_environment none_taken turn_main.body)
body_linked =
    let one = act_code 1 in
    let body = stmts_code turn_environment none_taken turn_main.body in
    let tail = Mark (ReturnPlace 0) ∷ end_of turn_main in
    let rest = one ++ (body ++ tail) in
    front_of body tail
    (back_of one (body ++ tail)
    (back_of turn_main.variables rest (back_of (begin_of turn_main) (turn_main.variables ++ rest) main_linked)))

-- ---- its variable

one_differs : AllDiffer (map template_of (table_of turn_program))
one_differs = differs_alone (map template_of (table_of turn_program)) _ refl refl

abbrev pub turn_whole : (input : List ℕ) → (acts : ℕ) → Whole
turn_whole input acts =
    record {
      image = turn_image input acts;
      program = turn_program;
      main = turn_main;
      others = [];
      environment = turn_environment;
      entry = turn_entry;
      end = turn_finish;
      made = newest_made image_parts W.number_declared;
    }

turn_only :
    (input : List ℕ) (acts : ℕ) →
    IsOnly (surroundings_of (turn_image input acts)) (main_of (turn_whole input acts))
    (start_point (turn_image input acts)) no_numbers W.number_declared
turn_only input acts =
    let n = linked_length (links_of turn_code) 0 turn_code in
    record {
      kind = refl;
      variables = refl;
      class = refl;
      evaluations = refl;
      first = refl;
      code = refl;
      made = refl;
      table = refl;
      parts = refl;
      few = omega arith;
      declared = record {
        newest = refl;
        here = refl;
        holds = omega arith;
        size = omega arith;
        fits = omega arith;
        even = refl;
        low = omega (arith, n);
        shape = refl;
        number = omega arith;
        initial = refl;
        none = refl;
        plain = refl;
        fixed = refl;
        values = (tt, tt);
        valued = number_valued;
        limit = refl;
      };
    }

abbrev pub turn_block : (input : List ℕ) → (acts : ℕ) → Block
turn_block input acts =
    block_at (surroundings_of (turn_image input acts)) (linked_code turn_code) (main_of (turn_whole input acts))
    (start_point (turn_image input acts)) no_numbers

turn_number : (input : List ℕ) (acts : ℕ) → IsNumber (turn_block input acts) turn_spot
turn_number input acts =
    record {
      initial = [];
      declared = refl;
      serial = 1;
      binding = refl;
      living = K.living_at 1 1 (D.generation_for W.number_declared);
      lives = refl;
      shape = refl;
      base = _;
      frame = inl (refl, refl);
      at = refl;
      low = omega arith;
      inside = omega arith;
    }

-- ---- its statements

unraised :
    (input : List ℕ) (acts line : ℕ) → acts + 1 < 2 ^ 64 → IsUnraised (setting_of (turn_block input acts) [] line 100)
unraised input acts line few =
    record {
      routines = record {
        at = size_of (start_of 0);
        linked = raise_linked;
        condition = refl;
        end = omega arith;
      };
      overflow = tt;
      error = tt;
      acts = few;
      most = omega arith;
    }

sum_of :
    (input : List ℕ) (acts line : ℕ) → acts + 1 < 2 ^ 64 → IsBegun (turn_block input acts) →
    L.Does (setting_of (turn_block input acts) [] line 100) 1 turn_sum
sum_of input acts line few b =
    let k = setting_of (turn_block input acts) [] line 100 in
    let operand = variable_does k turn_spot b (turn_number input acts) in
    sum_does k turn_value turn_value 0 0 (overflow_ends k (unraised input acts line few)) operand operand

below_tests :
    (input : List ℕ) (acts line n : ℕ) → n < 2 ^ 31 → IsBegun (turn_block input acts) →
    Tests (setting_of (turn_block input acts) [] line 100) 1 (below n)
below_tests input acts line n few b =
    let k = setting_of (turn_block input acts) [] line 100 in
    numbers_tests k Y.IsLess turn_value (Y.NumberConstant n) 0 0
    (variable_does k turn_spot b (turn_number input acts)) (constant_does k n few)

abbrev coded : Y.Stmt → Code
coded stmt = stmt_code turn_environment none_taken stmt

abbrev listed : Y.Stmts → Code
listed body = stmts_code turn_environment none_taken body

abbrev StandsAt : ℕ → Code → Type 0
StandsAt index part = Linked (links_of turn_code) (linked_code turn_code) index part

abbrev loop_index : ℕ
loop_index = turn_start + size_of (coded turn_first)

abbrev last_index : ℕ
last_index = loop_index + size_of (coded turn_loop)

abbrev loop_test : Code
loop_test = act_code 4 ++ bit_code turn_environment none_taken (below 1000000000)

abbrev choice_index : ℕ
choice_index = loop_index + size_of (act_code 4) + size_of loop_test + 3

abbrev choice_test : Code
choice_test = bit_code turn_environment none_taken (below 300000000)

abbrev unit_index : ℕ
unit_index = choice_index + size_of (act_code 5) + size_of choice_test + 3

abbrev other_index : ℕ
other_index = unit_index + size_of (coded turn_unit) + 2

abbrev group_index : ℕ
group_index = other_index + size_of (act_code 6)

first_linked : StandsAt turn_start (coded turn_first)
first_linked = front_of (coded turn_first) (listed turn_rest) body_linked

rest_linked : StandsAt loop_index (listed turn_rest)
rest_linked = back_of (coded turn_first) (listed turn_rest) body_linked

loop_linked : StandsAt loop_index (coded turn_loop)
loop_linked = front_of (coded turn_loop) (listed turn_end) rest_linked

last_linked : StandsAt last_index (coded turn_last)
last_linked = front_of (coded turn_last) [] (back_of (coded turn_loop) (listed turn_end) rest_linked)

turns_linked : StandsAt choice_index (listed turn_turns)
turns_linked =
    let part = listed turn_turns in
    let jump = JumpBack (size_of loop_test + (3 + size_of part)) ∷ [] in
    front_of part jump
    (back_of (past (part ++ jump)) (part ++ jump)
    (back_of loop_test (if_met (part ++ jump)) (back_of (act_code 4) (while_met loop_test part) loop_linked)))

choice_linked : StandsAt choice_index (coded turn_choice)
choice_linked = front_of (coded turn_choice) [] turns_linked

chosen_linked :
    StandsAt (choice_index + size_of (act_code 5) + size_of choice_test) (one_of (coded turn_unit) (coded turn_other))
chosen_linked =
    let both = one_of (coded turn_unit) (coded turn_other) in
    back_of choice_test both (back_of (act_code 5) (choice_test ++ both) choice_linked)

abbrev met : Code
met = coded turn_unit ++ JumpAhead (size_of (coded turn_other)) ∷ []

unit_linked : StandsAt unit_index (coded turn_unit)
unit_linked =
    front_of (coded turn_unit) (JumpAhead (size_of (coded turn_other)) ∷ [])
    (back_of (past met) met (front_of (if_met met) (coded turn_other) chosen_linked))

other_linked : StandsAt other_index (coded turn_other)
other_linked = back_of (if_met met) (coded turn_other) chosen_linked

inner_linked : StandsAt group_index (coded (assignment turn_spot turn_sum 7))
inner_linked =
    front_of (coded (assignment turn_spot turn_sum 7)) []
    (back_of (act_code 6) (listed turn_group) other_linked)

assigns :
    (input : List ℕ) (acts line index need : ℕ) (source : Y.Number) → acts + 1 < 2 ^ 64 →
    IsBegun (turn_block input acts) → line < 2 ^ 31 → need ≤ 1 →
    StandsAt index (coded (assignment turn_spot source line)) →
    size_of (coded (assignment turn_spot source line)) + 100 ≤ length (linked_code turn_code) →
    IsAssignment (turn_block input acts) turn_spot source line index need 100
assigns input acts line index need source few b low one l paid =
    record {
      act = record { line_fits = low; acts = few };
      begun = b;
      number = turn_number input acts;
      registers = omega (arith, one);
      held = omega arith;
      statement = l;
      paid = omega (arith, paid);
    }

pub turn_each :
    (input : List ℕ) (acts : ℕ) → acts + 1 < 2 ^ 64 → IsBegun (turn_block input acts) →
    EachDoes (turn_block input acts) [] turn_body (body_index (main_of (turn_whole input acts))) left_over
turn_each input acts few b =
    let k = turn_block input acts in
    let n = linked_length (links_of turn_code) 0 turn_code in
    let unit' = assign_does k [] turn_spot turn_sum 5 unit_index left_over 1 100
    (assigns input acts 5 unit_index 1 turn_sum few b (omega arith) (omega arith) unit_linked (omega (arith, n)))
    (sum_of input acts 5 few b) in
    let inner' = assign_does k [] turn_spot turn_sum 7 group_index left_over 1 100
    (assigns input acts 7 group_index 1 turn_sum few b (omega arith) (omega arith) inner_linked (omega (arith, n)))
    (sum_of input acts 7 few b) in
    let other' = group_does k [] turn_group 6 other_index left_over
    (record {
      act = record { line_fits = omega arith; acts = few };
      begun = b;
      statement = other_linked;
      marks = (λ label e. absurd (cc e), λ label e. absurd (cc e));
      turns = omega arith;
    })
    (inner', tt) in
    let choice' = one_of_does k [] (below 300000000) turn_unit turn_other 5 choice_index left_over 1 100
    (record {
      act = record { line_fits = omega arith; acts = few };
      registers = omega arith;
      held = omega arith;
      statement = choice_linked;
      paid = omega (arith, n);
    })
    (below_tests input acts 5 300000000 (omega arith) b) unit' other' in (
      assign_does k [] turn_spot (Y.NumberConstant 100000000) 3 turn_start left_over 0 100
          (assigns input acts 3 turn_start 0 (Y.NumberConstant 100000000) few b (omega arith) (omega arith) first_linked
          (omega (arith, n)))
          (constant_does (setting_of k [] 3 100) 100000000 (omega arith)),
      (
        loop_does k [] (below 1000000000) turn_turns 4 loop_index left_over 1 100
            (record {
              act = record { line_fits = omega arith; acts = few };
              registers = omega arith;
              held = omega arith;
              statement = loop_linked;
              paid = omega (arith, n);
            })
            (below_tests input acts 4 1000000000 (omega arith) b)
            (record { begun = b; turns = omega arith; marked = (λ label e. absurd (cc e), λ label e. absurd (cc e)) })
            (choice', tt),
        (
          assign_does k [] turn_spot turn_sum 8 last_index left_over 1 100
              (assigns input acts 8 last_index 1 turn_sum few b (omega arith) (omega arith) last_linked
              (omega (arith, n)))
              (sum_of input acts 8 few b),
          tt,
        ),
      ),
    )

-- ---- the whole

pub turn_is : (input first : List ℕ) (acts : ℕ) → acts + 1 < 2 ^ 64 → length first ≡ memory_size →
    IsWhole (turn_whole input acts) first
turn_is input first acts few bytes =
    let l = back_of (first_frame image_parts) (main_called 0) start_linked in
    record {
      start = record { linked = start_linked; differ = one_differs; bytes = bytes; told = λ n v e. absurd (cc e) };
      made = one_made (surroundings_of (turn_image input acts)) (linked_code turn_code)
          (main_of (turn_whole input acts)) (start_point (turn_image input acts)) no_numbers W.number_declared
          (turn_only input acts);
      callee = record {
        coded = record { level = omega arith; line = omega arith; saved = omega arith; back = omega arith };
        calls = first_of (CallTo (ProcedureEntry 0)) _ (rest_of _ _ (rest_of _ _ (rest_of _ _ l)));
        place = refl;
        stands = main_linked;
        end = refl;
        kind = refl;
        labels = (
          λ label e. absurd (cc e),
          (λ label e. absurd (cc e), (λ label e. absurd (cc e), λ label e. absurd (cc e))),
        );
        acts = few;
      };
      room = record { room = omega arith; shallow = refl; parent = tt; idle = refl };
      level = refl;
      procedures = refl;
      statics = refl;
    }

pub turn_runs :
    Keeps run_keeper → (input first : List ℕ) (acts : ℕ) → acts + 1 < 2 ^ 64 → length first ≡ memory_size →
    Comes (linked_code turn_code) 0 (first_family first (services_of (start_point (turn_image input acts))))
    (services_of (start_point (turn_image input acts))) (never_in (turn_image input acts))
    (run turn_program (suc acts) acts (first_state input))
turn_runs keeps input first acts few bytes =
    program_runs keeps (turn_whole input acts) first (turn_is input first acts few bytes)
    (λ b. turn_each input acts few b)

-- ---- what the program comes to

unfoldable flows : Unit {0}
unfolding F.give F.◌>>=◌ F.◌>>◌ F.looked F.stored F.act F.finish F.returns F.jumps F.choose F.given F.list_from
    F.leaving F.repeated_while M.met_after_act
flows = tt

unfoldable values : Unit {0}
unfolding V.number V.bit V.designated V.located V.numbers V.variable_designated V.part_designated V.stored_value
    R.or_error R.demanded R.value_of R.raised R.unit_run R.error R.error_unit_run P.element_stored M.assigned
values = tt

unfoldable makings : Unit {0}
unfolding K.variables_made K.automatic_made K.extents K.variable_made K.parameters_bound
makings = tt

unfoldable statements : Unit {0}
unfolding M.statement M.statements M.list M.list_with M.block_variables_made M.entry_act M.block_list M.block_body
statements = tt

pub turn_ends :
    (input : List ℕ) →
    M.meaning turn_program input 22
    ≡ Some (record {
      acts = 22;
      output = [];
      raised = (C.FixedOverflow, 20) ∷ (C.Error, 20) ∷ [];
      end = E.Error 20 8;
    })
unfolding M.meaning M.run M.entered M.block_run flows values makings statements
turn_ends input = refl
