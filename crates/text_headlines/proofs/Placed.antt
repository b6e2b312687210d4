-- The code of the worked row, and where its parts stand.
use Rattle.std.proofs.Common.{ℕ, ◌+◌, [], ◌∷◌, ◌++◌, ◌∙◌, refl, arith}
use Rattle.pli_typing.specs.TypedTree as Y
use Rattle.pli_coding.specs.Allocating.{act_code}
use Rattle.pli_coding.specs.Assembly.{Code, JumpBack, Mark, ProcedureEntry, ReturnPlace, size_of}
use Rattle.pli_coding.specs.Environments.{none_taken}
use Rattle.pli_coding.specs.Expressions.{bit_code}
use Rattle.pli_coding.specs.Images.{linked_code, raise_code}
use Rattle.pli_coding.specs.Linking.{data_start, links_of}
use Rattle.pli_coding.specs.StaticData.{static_data}
use Rattle.pli_coding.specs.Statements.{if_met, stmt_code, stmts_code, while_met}
use Rattle.code_marks.proofs.DataOnce.{placed_same, static_has}
use Rattle.run_steps.specs.Items.{Linked}
use Rattle.run_steps.proofs.Jumps.{back_of, front_of, rest_of}
use Rattle.run_steps.proofs.Linking.{has_items, linked_length}
use Rattle.program_places.specs.Programs.{code_for}
use Rattle.program_places.proofs.Marks.{named_has}
use Rattle.program_runs.specs.Procedures.{begin_of, end_of, procedure_code}
use Rattle.program_runs.specs.Starts.{start_of}
use Rattle.test_runs.proofs.Chosen.{past}
use Rattle.text_headlines.specs.Rows.{grow_choice, grow_end, grow_entry, grow_environment, grow_first, grow_loop}
use Rattle.text_headlines.specs.Rows.{grow_main, grow_program, grow_rest, grow_turn, grow_turns, grow_unit}
use Rattle.text_headlines.specs.Rows.{is_grown, is_short}

abbrev pub grow_code : Code
grow_code = code_for grow_program

abbrev pub grow_coded : Code
grow_coded = Mark (ProcedureEntry 0) ∷ procedure_code grow_environment grow_main

abbrev pub StandsAt : ℕ → Code → Type 0
StandsAt index part = Linked (links_of grow_code) (linked_code grow_code) index part

pub grow_linked : StandsAt 0 grow_code
grow_linked =
    let n = linked_length (links_of grow_code) 0 grow_code in
    record {
      small' = omega (arith, n);
      inside = omega (arith, n);
      has = has_items (links_of grow_code) grow_code refl;
      named = λ d h.
          placed_same d (data_start grow_code) (static_data grow_code)
          ∙ static_has grow_code d (named_has d grow_code h);
    }

pub start_linked : StandsAt 0 (start_of 0)
start_linked = front_of (start_of 0) (raise_code ++ grow_coded) grow_linked

pub raise_linked : StandsAt (size_of (start_of 0)) raise_code
raise_linked = front_of raise_code grow_coded (back_of (start_of 0) (raise_code ++ grow_coded) grow_linked)

pub main_linked : StandsAt grow_entry (procedure_code grow_environment grow_main)
main_linked =
    rest_of (Mark (ProcedureEntry 0)) (procedure_code grow_environment grow_main)
    (back_of raise_code grow_coded (back_of (start_of 0) (raise_code ++ grow_coded) grow_linked))

-- ---- its statements

abbrev pub coded : Y.Stmt → Code
coded stmt = stmt_code grow_environment none_taken stmt

abbrev pub listed : Y.Stmts → Code
listed body = stmts_code grow_environment none_taken body

abbrev pub tested : Y.Bit → Code
tested x = bit_code grow_environment none_taken x

abbrev pub grow_start : ℕ
grow_start = grow_entry + size_of (begin_of grow_main) + size_of grow_main.variables + size_of (act_code 1)

abbrev pub grow_finish : ℕ
grow_finish = grow_start + size_of (listed grow_main.body)

body_linked : StandsAt grow_start (listed grow_main.body)
body_linked =
    let one = act_code 1 in
    let body = listed grow_main.body in
    let tail = Mark (ReturnPlace 0) ∷ end_of grow_main in
    let rest = one ++ (body ++ tail) in
    front_of body tail
    (back_of one (body ++ tail)
    (back_of grow_main.variables rest (back_of (begin_of grow_main) (grow_main.variables ++ rest) main_linked)))

abbrev pub loop_index : ℕ
loop_index = grow_start + size_of (coded grow_first)

abbrev pub choice_index : ℕ
choice_index = loop_index + size_of (coded grow_loop)

abbrev pub loop_test : Code
loop_test = act_code 4 ++ tested is_short

abbrev pub turn_index : ℕ
turn_index = loop_index + size_of (act_code 4) + size_of loop_test + 3

abbrev pub unit_index : ℕ
unit_index = choice_index + size_of (act_code 7) + size_of (tested is_grown) + 3

pub first_linked : StandsAt grow_start (coded grow_first)
first_linked = front_of (coded grow_first) (listed grow_rest) body_linked

rest_linked : StandsAt loop_index (listed grow_rest)
rest_linked = back_of (coded grow_first) (listed grow_rest) body_linked

pub loop_linked : StandsAt loop_index (coded grow_loop)
loop_linked = front_of (coded grow_loop) (listed grow_end) rest_linked

pub choice_linked : StandsAt choice_index (coded grow_choice)
choice_linked = front_of (coded grow_choice) [] (back_of (coded grow_loop) (listed grow_end) rest_linked)

pub turn_linked : StandsAt turn_index (coded grow_turn)
turn_linked =
    let part = listed grow_turns in
    let jump = JumpBack (size_of loop_test + (3 + size_of part)) ∷ [] in
    front_of (coded grow_turn) []
    (front_of part jump
    (back_of (past (part ++ jump)) (part ++ jump)
    (back_of loop_test (if_met (part ++ jump)) (back_of (act_code 4) (while_met loop_test part) loop_linked))))

pub unit_linked : StandsAt unit_index (coded grow_unit)
unit_linked =
    let part = coded grow_unit in
    back_of (past part) part
    (back_of (tested is_grown) (if_met part) (back_of (act_code 7) (tested is_grown ++ if_met part) choice_linked))
