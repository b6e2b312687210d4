-- The code of the worked row, and where its parts stand.
use Rattle.std.proofs.Common.{ℕ, ◌+◌, [], ◌∷◌, ◌++◌, ◌∙◌, refl, arith}
use Rattle.pli_typing.specs.TypedTree as Y
use Rattle.pli_coding.specs.Allocating.{act_code}
use Rattle.pli_coding.specs.Assembly.{Code, JumpBack, Mark, ProcedureEntry, ReturnPlace, size_of}
use Rattle.pli_coding.specs.Environments.{none_taken}
use Rattle.pli_coding.specs.Expressions.{bit_code}
use Rattle.pli_coding.specs.Images.{linked_code, raise_code}
use Rattle.pli_coding.specs.Linking.{data_start, links_of}
use Rattle.pli_coding.specs.StaticData.{static_data}
use Rattle.pli_coding.specs.Statements.{if_met, stmt_code, stmts_code, while_met}
use Rattle.code_marks.proofs.DataOnce.{placed_same, static_has}
use Rattle.run_steps.specs.Items.{Linked}
use Rattle.run_steps.proofs.Jumps.{back_of, front_of, rest_of}
use Rattle.run_steps.proofs.Linking.{has_items, linked_length}
use Rattle.program_places.specs.Programs.{code_for}
use Rattle.program_places.proofs.Marks.{named_has}
use Rattle.program_runs.specs.Procedures.{begin_of, end_of, procedure_code}
use Rattle.program_runs.specs.Starts.{start_of}
use Rattle.test_runs.proofs.Chosen.{past}
use Rattle.offset_headlines.specs.Rows.{made_2, made_3, made_4, made_5, made_turns, seen_2, seen_3, seen_turns, twin_10}
use Rattle.offset_headlines.specs.Rows.{twin_11, twin_2, twin_3}
use Rattle.offset_headlines.specs.Rows.{twin_4, twin_5, twin_6, twin_7, twin_8, twin_9, twin_allocate, twin_back}
use Rattle.offset_headlines.specs.Rows.{twin_before, twin_change}
use Rattle.offset_headlines.specs.Rows.{twin_copy, twin_count, twin_entry, twin_environment, twin_few, twin_first}
use Rattle.offset_headlines.specs.Rows.{twin_follow, twin_free, twin_head, twin_last, twin_link, twin_main, twin_make}
use Rattle.offset_headlines.specs.Rows.{twin_next}
use Rattle.offset_headlines.specs.Rows.{twin_null, twin_program, twin_see, twin_some, twin_value, twin_write, twin_zero}

abbrev pub twin_code : Code
twin_code = code_for twin_program

abbrev pub twin_coded : Code
twin_coded = Mark (ProcedureEntry 0) ∷ procedure_code twin_environment twin_main

abbrev pub StandsAt : ℕ → Code → Type 0
StandsAt index part = Linked (links_of twin_code) (linked_code twin_code) index part

pub twin_linked : StandsAt 0 twin_code
twin_linked =
    let n = linked_length (links_of twin_code) 0 twin_code in
    record {
      small' = omega (arith, n);
      inside = omega (arith, n);
      has = has_items (links_of twin_code) twin_code refl;
      named = λ d h.
          placed_same d (data_start twin_code) (static_data twin_code)
          ∙ static_has twin_code d (named_has d twin_code h);
    }

pub start_linked : StandsAt 0 (start_of 0)
start_linked = front_of (start_of 0) (raise_code ++ twin_coded) twin_linked

pub raise_linked : StandsAt (size_of (start_of 0)) raise_code
raise_linked = front_of raise_code twin_coded (back_of (start_of 0) (raise_code ++ twin_coded) twin_linked)

pub main_linked : StandsAt twin_entry (procedure_code twin_environment twin_main)
main_linked =
    rest_of (Mark (ProcedureEntry 0)) (procedure_code twin_environment twin_main)
    (back_of raise_code twin_coded (back_of (start_of 0) (raise_code ++ twin_coded) twin_linked))

-- ---- its statements

abbrev pub coded : Y.Stmt → Code
coded stmt = stmt_code twin_environment none_taken stmt

abbrev pub listed : Y.Stmts → Code
listed body = stmts_code twin_environment none_taken body

abbrev pub tested : Y.Bit → Code
tested x = bit_code twin_environment none_taken x

abbrev pub twin_start : ℕ
twin_start = twin_entry + size_of (begin_of twin_main) + size_of twin_main.variables + size_of (act_code 1)

abbrev pub twin_finish : ℕ
twin_finish = twin_start + size_of (listed twin_main.body)

body_linked : StandsAt twin_start (listed twin_main.body)
body_linked =
    let one = act_code 1 in
    let body = listed twin_main.body in
    let tail = Mark (ReturnPlace 0) ∷ end_of twin_main in
    let rest = one ++ (body ++ tail) in
    front_of body tail
    (back_of one (body ++ tail)
    (back_of twin_main.variables rest (back_of (begin_of twin_main) (twin_main.variables ++ rest) main_linked)))

abbrev pub zero_index : ℕ
zero_index = twin_start + size_of (coded twin_null)

abbrev pub before_index : ℕ
before_index = zero_index + size_of (coded twin_zero)

abbrev pub make_index : ℕ
make_index = before_index + size_of (coded twin_before)

abbrev pub first_index : ℕ
first_index = make_index + size_of (coded twin_make)

abbrev pub free_index : ℕ
free_index = first_index + size_of (coded twin_first)

abbrev pub copy_index : ℕ
copy_index = free_index + size_of (coded twin_free)

abbrev pub change_index : ℕ
change_index = copy_index + size_of (coded twin_copy)

abbrev pub see_index : ℕ
see_index = change_index + size_of (coded twin_change)

abbrev pub back_index : ℕ
back_index = see_index + size_of (coded twin_see)

abbrev pub last_index : ℕ
last_index = back_index + size_of (coded twin_back)

pub null_linked : StandsAt twin_start (coded twin_null)
null_linked = front_of (coded twin_null) (listed twin_2) body_linked

linked_2 : StandsAt zero_index (listed twin_2)
linked_2 = back_of (coded twin_null) (listed twin_2) body_linked

pub zero_linked : StandsAt zero_index (coded twin_zero)
zero_linked = front_of (coded twin_zero) (listed twin_3) linked_2

linked_3 : StandsAt before_index (listed twin_3)
linked_3 = back_of (coded twin_zero) (listed twin_3) linked_2

pub before_linked : StandsAt before_index (coded twin_before)
before_linked = front_of (coded twin_before) (listed twin_4) linked_3

linked_4 : StandsAt make_index (listed twin_4)
linked_4 = back_of (coded twin_before) (listed twin_4) linked_3

pub make_linked : StandsAt make_index (coded twin_make)
make_linked = front_of (coded twin_make) (listed twin_5) linked_4

linked_5 : StandsAt first_index (listed twin_5)
linked_5 = back_of (coded twin_make) (listed twin_5) linked_4

pub first_linked : StandsAt first_index (coded twin_first)
first_linked = front_of (coded twin_first) (listed twin_6) linked_5

linked_6 : StandsAt free_index (listed twin_6)
linked_6 = back_of (coded twin_first) (listed twin_6) linked_5

pub free_linked : StandsAt free_index (coded twin_free)
free_linked = front_of (coded twin_free) (listed twin_7) linked_6

linked_7 : StandsAt copy_index (listed twin_7)
linked_7 = back_of (coded twin_free) (listed twin_7) linked_6

pub copy_linked : StandsAt copy_index (coded twin_copy)
copy_linked = front_of (coded twin_copy) (listed twin_8) linked_7

linked_8 : StandsAt change_index (listed twin_8)
linked_8 = back_of (coded twin_copy) (listed twin_8) linked_7

pub change_linked : StandsAt change_index (coded twin_change)
change_linked = front_of (coded twin_change) (listed twin_9) linked_8

linked_9 : StandsAt see_index (listed twin_9)
linked_9 = back_of (coded twin_change) (listed twin_9) linked_8

pub see_linked : StandsAt see_index (coded twin_see)
see_linked = front_of (coded twin_see) (listed twin_10) linked_9

linked_10 : StandsAt back_index (listed twin_10)
linked_10 = back_of (coded twin_see) (listed twin_10) linked_9

pub back_linked : StandsAt back_index (coded twin_back)
back_linked = front_of (coded twin_back) (listed twin_11) linked_10

linked_11 : StandsAt last_index (listed twin_11)
linked_11 = back_of (coded twin_back) (listed twin_11) linked_10

pub last_linked : StandsAt last_index (coded twin_last)
last_linked = front_of (coded twin_last) [] linked_11

-- what is repeated stands behind the test
abbrev pub turn_test : (line : ℕ) → Y.Bit → Code
turn_test line x = act_code line ++ tested x

abbrev pub turn_index : (index line : ℕ) → Y.Bit → ℕ
turn_index index line x = index + size_of (act_code line) + size_of (turn_test line x) + 3

turns_linked :
    (index line : ℕ) (x : Y.Bit) (body : Y.Stmts) → StandsAt index (coded (Y.DoWhile x body line)) →
    StandsAt (turn_index index line x) (listed body)
turns_linked index line x body l =
    let part = listed body in
    let test = turn_test line x in
    let jump = JumpBack (size_of test + (3 + size_of part)) ∷ [] in
    front_of part jump
    (back_of (past (part ++ jump)) (part ++ jump)
    (back_of test (if_met (part ++ jump)) (back_of (act_code line) (while_met test part) l)))

-- ---- the first loop

abbrev pub count_index : ℕ
count_index = turn_index make_index 6 twin_few

abbrev pub allocate_index : ℕ
allocate_index = count_index + size_of (coded twin_count)

abbrev pub value_index : ℕ
value_index = allocate_index + size_of (coded twin_allocate)

abbrev pub link_index : ℕ
link_index = value_index + size_of (coded twin_value)

abbrev pub head_index : ℕ
head_index = link_index + size_of (coded twin_link)

made_linked : StandsAt count_index (listed made_turns)
made_linked = turns_linked make_index 6 twin_few made_turns make_linked

pub count_linked : StandsAt count_index (coded twin_count)
count_linked = front_of (coded twin_count) (listed made_2) made_linked

made_linked_2 : StandsAt allocate_index (listed made_2)
made_linked_2 = back_of (coded twin_count) (listed made_2) made_linked

pub allocate_linked : StandsAt allocate_index (coded twin_allocate)
allocate_linked = front_of (coded twin_allocate) (listed made_3) made_linked_2

made_linked_3 : StandsAt value_index (listed made_3)
made_linked_3 = back_of (coded twin_allocate) (listed made_3) made_linked_2

pub value_linked : StandsAt value_index (coded twin_value)
value_linked = front_of (coded twin_value) (listed made_4) made_linked_3

made_linked_4 : StandsAt link_index (listed made_4)
made_linked_4 = back_of (coded twin_value) (listed made_4) made_linked_3

pub link_linked : StandsAt link_index (coded twin_link)
link_linked = front_of (coded twin_link) (listed made_5) made_linked_4

made_linked_5 : StandsAt head_index (listed made_5)
made_linked_5 = back_of (coded twin_link) (listed made_5) made_linked_4

pub head_linked : StandsAt head_index (coded twin_head)
head_linked = front_of (coded twin_head) [] made_linked_5

-- ---- the second one

abbrev pub follow_index : ℕ
follow_index = turn_index see_index 17 twin_some

abbrev pub write_index : ℕ
write_index = follow_index + size_of (coded twin_follow)

abbrev pub next_index : ℕ
next_index = write_index + size_of (coded twin_write)

seen_linked : StandsAt follow_index (listed seen_turns)
seen_linked = turns_linked see_index 17 twin_some seen_turns see_linked

pub follow_linked : StandsAt follow_index (coded twin_follow)
follow_linked = front_of (coded twin_follow) (listed seen_2) seen_linked

seen_linked_2 : StandsAt write_index (listed seen_2)
seen_linked_2 = back_of (coded twin_follow) (listed seen_2) seen_linked

pub write_linked : StandsAt write_index (coded twin_write)
write_linked = front_of (coded twin_write) (listed seen_3) seen_linked_2

seen_linked_3 : StandsAt next_index (listed seen_3)
seen_linked_3 = back_of (coded twin_write) (listed seen_3) seen_linked_2

pub next_linked : StandsAt next_index (coded twin_next)
next_linked = front_of (coded twin_next) [] seen_linked_3
