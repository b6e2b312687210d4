-- The code of the worked row, and where its parts stand.
use Rattle.std.proofs.Common.{ℕ, ◌+◌, [], ◌∷◌, ◌++◌, ◌∙◌, refl, arith}
use Rattle.pli_typing.specs.TypedTree as Y
use Rattle.pli_coding.specs.Allocating.{act_code}
use Rattle.pli_coding.specs.Assembly.{Code, JumpBack, Mark, ProcedureEntry, ReturnPlace, size_of}
use Rattle.pli_coding.specs.Environments.{none_taken}
use Rattle.pli_coding.specs.Expressions.{bit_code}
use Rattle.pli_coding.specs.Images.{linked_code, raise_code}
use Rattle.pli_coding.specs.Linking.{data_start, links_of}
use Rattle.pli_coding.specs.StaticData.{static_data}
use Rattle.pli_coding.specs.Statements.{if_met, stmt_code, stmts_code, while_met}
use Rattle.code_marks.proofs.DataOnce.{placed_same, static_has}
use Rattle.run_steps.specs.Items.{Linked}
use Rattle.run_steps.proofs.Jumps.{back_of, front_of, rest_of}
use Rattle.run_steps.proofs.Linking.{has_items, linked_length}
use Rattle.program_places.specs.Programs.{code_for}
use Rattle.program_places.proofs.Marks.{named_has}
use Rattle.program_runs.specs.Procedures.{begin_of, end_of, procedure_code}
use Rattle.program_runs.specs.Starts.{start_of}
use Rattle.test_runs.proofs.Chosen.{past}
use Rattle.walked_headlines.specs.Rows.{seen_3, seen_4, walk_free, walk_next_head}
use Rattle.walked_headlines.specs.Rows.{made_2, made_3, made_4, made_5, made_turns, seen_2, seen_turns, walk_2, walk_3}
use Rattle.walked_headlines.specs.Rows.{walk_4, walk_5, walk_allocate, walk_back, walk_count, walk_entry}
use Rattle.walked_headlines.specs.Rows.{walk_environment, walk_few, walk_head, walk_link, walk_main, walk_make}
use Rattle.walked_headlines.specs.Rows.{walk_null}
use Rattle.walked_headlines.specs.Rows.{walk_on, walk_program, walk_see, walk_some, walk_value, walk_write, walk_zero}

abbrev pub walk_code : Code
walk_code = code_for walk_program

abbrev pub walk_coded : Code
walk_coded = Mark (ProcedureEntry 0) ∷ procedure_code walk_environment walk_main

abbrev pub StandsAt : ℕ → Code → Type 0
StandsAt index part = Linked (links_of walk_code) (linked_code walk_code) index part

pub walk_linked : StandsAt 0 walk_code
walk_linked =
    let n = linked_length (links_of walk_code) 0 walk_code in
    record {
      small' = omega (arith, n);
      inside = omega (arith, n);
      has = has_items (links_of walk_code) walk_code refl;
      named = λ d h.
          placed_same d (data_start walk_code) (static_data walk_code)
          ∙ static_has walk_code d (named_has d walk_code h);
    }

pub start_linked : StandsAt 0 (start_of 0)
start_linked = front_of (start_of 0) (raise_code ++ walk_coded) walk_linked

pub raise_linked : StandsAt (size_of (start_of 0)) raise_code
raise_linked = front_of raise_code walk_coded (back_of (start_of 0) (raise_code ++ walk_coded) walk_linked)

pub main_linked : StandsAt walk_entry (procedure_code walk_environment walk_main)
main_linked =
    rest_of (Mark (ProcedureEntry 0)) (procedure_code walk_environment walk_main)
    (back_of raise_code walk_coded (back_of (start_of 0) (raise_code ++ walk_coded) walk_linked))

-- ---- its statements

abbrev pub coded : Y.Stmt → Code
coded stmt = stmt_code walk_environment none_taken stmt

abbrev pub listed : Y.Stmts → Code
listed body = stmts_code walk_environment none_taken body

abbrev pub tested : Y.Bit → Code
tested x = bit_code walk_environment none_taken x

abbrev pub walk_start : ℕ
walk_start = walk_entry + size_of (begin_of walk_main) + size_of walk_main.variables + size_of (act_code 1)

abbrev pub walk_finish : ℕ
walk_finish = walk_start + size_of (listed walk_main.body)

body_linked : StandsAt walk_start (listed walk_main.body)
body_linked =
    let one = act_code 1 in
    let body = listed walk_main.body in
    let tail = Mark (ReturnPlace 0) ∷ end_of walk_main in
    let rest = one ++ (body ++ tail) in
    front_of body tail
    (back_of one (body ++ tail)
    (back_of walk_main.variables rest (back_of (begin_of walk_main) (walk_main.variables ++ rest) main_linked)))

abbrev pub zero_index : ℕ
zero_index = walk_start + size_of (coded walk_null)

abbrev pub make_index : ℕ
make_index = zero_index + size_of (coded walk_zero)

abbrev pub back_index : ℕ
back_index = make_index + size_of (coded walk_make)

abbrev pub see_index : ℕ
see_index = back_index + size_of (coded walk_back)

pub null_linked : StandsAt walk_start (coded walk_null)
null_linked = front_of (coded walk_null) (listed walk_2) body_linked

linked_2 : StandsAt zero_index (listed walk_2)
linked_2 = back_of (coded walk_null) (listed walk_2) body_linked

pub zero_linked : StandsAt zero_index (coded walk_zero)
zero_linked = front_of (coded walk_zero) (listed walk_3) linked_2

linked_3 : StandsAt make_index (listed walk_3)
linked_3 = back_of (coded walk_zero) (listed walk_3) linked_2

pub make_linked : StandsAt make_index (coded walk_make)
make_linked = front_of (coded walk_make) (listed walk_4) linked_3

linked_4 : StandsAt back_index (listed walk_4)
linked_4 = back_of (coded walk_make) (listed walk_4) linked_3

pub back_linked : StandsAt back_index (coded walk_back)
back_linked = front_of (coded walk_back) (listed walk_5) linked_4

pub see_linked : StandsAt see_index (coded walk_see)
see_linked = front_of (coded walk_see) [] (back_of (coded walk_back) (listed walk_5) linked_4)

-- what is repeated stands behind the test
abbrev pub turn_test : (line : ℕ) → Y.Bit → Code
turn_test line x = act_code line ++ tested x

abbrev pub turn_index : (index line : ℕ) → Y.Bit → ℕ
turn_index index line x = index + size_of (act_code line) + size_of (turn_test line x) + 3

turns_linked :
    (index line : ℕ) (x : Y.Bit) (body : Y.Stmts) → StandsAt index (coded (Y.DoWhile x body line)) →
    StandsAt (turn_index index line x) (listed body)
turns_linked index line x body l =
    let part = listed body in
    let test = turn_test line x in
    let jump = JumpBack (size_of test + (3 + size_of part)) ∷ [] in
    front_of part jump
    (back_of (past (part ++ jump)) (part ++ jump)
    (back_of test (if_met (part ++ jump)) (back_of (act_code line) (while_met test part) l)))

-- ---- the first loop

abbrev pub count_index : ℕ
count_index = turn_index make_index 5 walk_few

abbrev pub allocate_index : ℕ
allocate_index = count_index + size_of (coded walk_count)

abbrev pub value_index : ℕ
value_index = allocate_index + size_of (coded walk_allocate)

abbrev pub link_index : ℕ
link_index = value_index + size_of (coded walk_value)

abbrev pub head_index : ℕ
head_index = link_index + size_of (coded walk_link)

made_linked : StandsAt count_index (listed made_turns)
made_linked = turns_linked make_index 5 walk_few made_turns make_linked

pub count_linked : StandsAt count_index (coded walk_count)
count_linked = front_of (coded walk_count) (listed made_2) made_linked

made_linked_2 : StandsAt allocate_index (listed made_2)
made_linked_2 = back_of (coded walk_count) (listed made_2) made_linked

pub allocate_linked : StandsAt allocate_index (coded walk_allocate)
allocate_linked = front_of (coded walk_allocate) (listed made_3) made_linked_2

made_linked_3 : StandsAt value_index (listed made_3)
made_linked_3 = back_of (coded walk_allocate) (listed made_3) made_linked_2

pub value_linked : StandsAt value_index (coded walk_value)
value_linked = front_of (coded walk_value) (listed made_4) made_linked_3

made_linked_4 : StandsAt link_index (listed made_4)
made_linked_4 = back_of (coded walk_value) (listed made_4) made_linked_3

pub link_linked : StandsAt link_index (coded walk_link)
link_linked = front_of (coded walk_link) (listed made_5) made_linked_4

pub head_linked : StandsAt head_index (coded walk_head)
head_linked = front_of (coded walk_head) [] (back_of (coded walk_link) (listed made_5) made_linked_4)

-- ---- the second one

abbrev pub write_index : ℕ
write_index = turn_index see_index 13 walk_some

abbrev pub next_index : ℕ
next_index = write_index + size_of (coded walk_write)

abbrev pub free_index : ℕ
free_index = next_index + size_of (coded walk_next_head)

abbrev pub on_index : ℕ
on_index = free_index + size_of (coded walk_free)

seen_linked : StandsAt write_index (listed seen_turns)
seen_linked = turns_linked see_index 13 walk_some seen_turns see_linked

pub write_linked : StandsAt write_index (coded walk_write)
write_linked = front_of (coded walk_write) (listed seen_2) seen_linked

seen_linked_2 : StandsAt next_index (listed seen_2)
seen_linked_2 = back_of (coded walk_write) (listed seen_2) seen_linked

pub next_linked : StandsAt next_index (coded walk_next_head)
next_linked = front_of (coded walk_next_head) (listed seen_3) seen_linked_2

seen_linked_3 : StandsAt free_index (listed seen_3)
seen_linked_3 = back_of (coded walk_next_head) (listed seen_3) seen_linked_2

pub free_linked : StandsAt free_index (coded walk_free)
free_linked = front_of (coded walk_free) (listed seen_4) seen_linked_3

pub on_linked : StandsAt on_index (coded walk_on)
on_linked = front_of (coded walk_on) [] (back_of (coded walk_free) (listed seen_4) seen_linked_3)
