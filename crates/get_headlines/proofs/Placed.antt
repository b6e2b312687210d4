-- The code of the worked row, and where its parts stand.
use Rattle.std.proofs.Common.{ℕ, ◌+◌, [], ◌∷◌, ◌++◌, ◌∙◌, refl, arith}
use Rattle.pli_typing.specs.TypedTree as Y
use Rattle.pli_coding.specs.Allocating.{act_code}
use Rattle.pli_coding.specs.Assembly.{Code, Mark, ProcedureEntry, ReturnPlace, size_of}
use Rattle.pli_coding.specs.Environments.{none_taken}
use Rattle.pli_coding.specs.Expressions.{bit_code}
use Rattle.pli_coding.specs.Images.{linked_code, raise_code}
use Rattle.pli_coding.specs.Linking.{data_start, links_of}
use Rattle.pli_coding.specs.StaticData.{static_data}
use Rattle.pli_coding.specs.Statements.{if_met, stmt_code, stmts_code}
use Rattle.code_marks.proofs.DataOnce.{placed_same, static_has}
use Rattle.run_steps.specs.Items.{Linked}
use Rattle.run_steps.proofs.Jumps.{back_of, front_of, rest_of}
use Rattle.run_steps.proofs.Linking.{has_items, linked_length}
use Rattle.program_places.specs.Programs.{code_for}
use Rattle.program_places.proofs.Marks.{named_has}
use Rattle.program_runs.specs.Procedures.{begin_of, end_of, procedure_code}
use Rattle.program_runs.specs.Starts.{start_of}
use Rattle.test_runs.proofs.Chosen.{past}
use Rattle.get_headlines.specs.Rows.{is_small, sum_added, sum_again, sum_back, sum_end, sum_entry, sum_environment}
use Rattle.get_headlines.specs.Rows.{sum_first, sum_last, sum_main, sum_next, sum_program, sum_read, sum_rest}
use Rattle.get_headlines.specs.Rows.{sum_written}

abbrev pub sum_code : Code
sum_code = code_for sum_program

abbrev pub sum_coded : Code
sum_coded = Mark (ProcedureEntry 0) ∷ procedure_code sum_environment sum_main

abbrev pub StandsAt : ℕ → Code → Type 0
StandsAt index part = Linked (links_of sum_code) (linked_code sum_code) index part

pub sum_linked : StandsAt 0 sum_code
sum_linked =
    let n = linked_length (links_of sum_code) 0 sum_code in
    record {
      small' = omega (arith, n);
      inside = omega (arith, n);
      has = has_items (links_of sum_code) sum_code refl;
      named = λ d h.
          placed_same d (data_start sum_code) (static_data sum_code)
          ∙ static_has sum_code d (named_has d sum_code h);
    }

pub start_linked : StandsAt 0 (start_of 0)
start_linked = front_of (start_of 0) (raise_code ++ sum_coded) sum_linked

pub raise_linked : StandsAt (size_of (start_of 0)) raise_code
raise_linked = front_of raise_code sum_coded (back_of (start_of 0) (raise_code ++ sum_coded) sum_linked)

pub main_linked : StandsAt sum_entry (procedure_code sum_environment sum_main)
main_linked =
    rest_of (Mark (ProcedureEntry 0)) (procedure_code sum_environment sum_main)
    (back_of raise_code sum_coded (back_of (start_of 0) (raise_code ++ sum_coded) sum_linked))

-- ---- its statements

abbrev pub coded : Y.Stmt → Code
coded stmt = stmt_code sum_environment none_taken stmt

abbrev pub listed : Y.Stmts → Code
listed body = stmts_code sum_environment none_taken body

abbrev pub tested : Y.Bit → Code
tested x = bit_code sum_environment none_taken x

abbrev pub sum_start : ℕ
sum_start = sum_entry + size_of (begin_of sum_main) + size_of sum_main.variables + size_of (act_code 1)

abbrev pub sum_finish : ℕ
sum_finish = sum_start + size_of (listed sum_main.body)

body_linked : StandsAt sum_start (listed sum_main.body)
body_linked =
    let one = act_code 1 in
    let body = listed sum_main.body in
    let tail = Mark (ReturnPlace 0) ∷ end_of sum_main in
    let rest = one ++ (body ++ tail) in
    front_of body tail
    (back_of one (body ++ tail)
    (back_of sum_main.variables rest (back_of (begin_of sum_main) (sum_main.variables ++ rest) main_linked)))

abbrev pub read_index : ℕ
read_index = sum_start + size_of (coded sum_first)

abbrev pub added_index : ℕ
added_index = read_index + size_of (coded sum_read)

abbrev pub written_index : ℕ
written_index = added_index + size_of (coded sum_added)

abbrev pub again_index : ℕ
again_index = written_index + size_of (coded sum_written)

abbrev pub back_index : ℕ
back_index = again_index + size_of (act_code 7) + size_of (tested is_small) + 3

pub first_linked : StandsAt sum_start (coded sum_first)
first_linked = front_of (coded sum_first) (listed sum_rest) body_linked

rest_linked : StandsAt read_index (listed sum_rest)
rest_linked = back_of (coded sum_first) (listed sum_rest) body_linked

labelled_linked : StandsAt read_index (coded sum_read ++ listed sum_next)
labelled_linked = rest_of _ _ rest_linked

pub read_linked : StandsAt read_index (coded sum_read)
read_linked = front_of (coded sum_read) (listed sum_next) labelled_linked

next_linked : StandsAt added_index (listed sum_next)
next_linked = back_of (coded sum_read) (listed sum_next) labelled_linked

pub added_linked : StandsAt added_index (coded sum_added)
added_linked = front_of (coded sum_added) (listed sum_last) next_linked

last_linked : StandsAt written_index (listed sum_last)
last_linked = back_of (coded sum_added) (listed sum_last) next_linked

pub written_linked : StandsAt written_index (coded sum_written)
written_linked = front_of (coded sum_written) (listed sum_end) last_linked

pub again_linked : StandsAt again_index (coded sum_again)
again_linked = front_of (coded sum_again) [] (back_of (coded sum_written) (listed sum_end) last_linked)

pub back_linked : StandsAt back_index (coded sum_back)
back_linked =
    let part = coded sum_back in
    back_of (past part) part
    (back_of (tested is_small) (if_met part) (back_of (act_code 7) (tested is_small ++ if_met part) again_linked))
