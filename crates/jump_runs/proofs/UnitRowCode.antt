-- The worked row with a unit: where the parts of its code stand.
use Rattle.std.proofs.Common.{ℕ, ◌+◌, ◌∷◌, ◌++◌}
use Rattle.std.proofs.Common.{refl, arith}
use Rattle.pli_coding.specs.Allocating.{act_code}
use Rattle.pli_coding.specs.Assembly.{Mark, ProcedureEntry, ReturnPlace, size_of}
use Rattle.pli_coding.specs.Environments.{none_taken}
use Rattle.pli_coding.specs.Images.{linked_code, raise_code}
use Rattle.pli_coding.specs.Linking.{links_of}
use Rattle.pli_coding.specs.Statements.{stmts_code}
use Rattle.run_steps.specs.Items.{Linked}
use Rattle.run_steps.proofs.Jumps.{back_of, front_of, rest_of}
use Rattle.run_steps.proofs.Linking.{has_items, linked_length}
use Rattle.program_runs.specs.Procedures.{begin_of, end_of, procedure_code}
use Rattle.program_runs.specs.Starts.{start_of}
use Rattle.program_runs.proofs.Rows.{is_datum, names_none, none_named}
use Rattle.function_runs.specs.Functions.{function_code, function_tail}
use Rattle.jump_runs.specs.UnitRows.{flee_body, flee_code, flee_entry}
use Rattle.jump_runs.specs.UnitRows.{flee_environment, flee_inner}
use Rattle.jump_runs.specs.UnitRows.{flee_main, flee_on}
use Rattle.jump_runs.specs.UnitRows.{inner_body, inner_coded, inner_entry}
use Rattle.jump_runs.specs.UnitRows.{inner_environment, main_coded}

pub flee_linked : Linked (links_of flee_code) (linked_code flee_code) 0 flee_code
unfolding names_none is_datum
flee_linked =
    let n = linked_length (links_of flee_code) 0 flee_code in
    record {
      small' = omega (arith, n);
      inside = omega (arith, n);
      has = has_items (links_of flee_code) flee_code refl;
      named = λ d h. absurd (none_named d flee_code refl h);
    }

pub start_linked : Linked (links_of flee_code) (linked_code flee_code) 0 (start_of 0)
start_linked = front_of (start_of 0) (raise_code ++ (main_coded ++ inner_coded)) flee_linked

pub raise_linked : Linked (links_of flee_code) (linked_code flee_code) (size_of (start_of 0)) raise_code
raise_linked =
    front_of raise_code (main_coded ++ inner_coded)
    (back_of (start_of 0) (raise_code ++ (main_coded ++ inner_coded)) flee_linked)

pub both_linked : Linked (links_of flee_code) (linked_code flee_code) flee_entry (main_coded ++ inner_coded)
both_linked =
    back_of raise_code (main_coded ++ inner_coded)
    (back_of (start_of 0) (raise_code ++ (main_coded ++ inner_coded)) flee_linked)

pub main_linked :
    Linked (links_of flee_code) (linked_code flee_code) flee_entry (procedure_code flee_environment flee_main)
main_linked =
    rest_of (Mark (ProcedureEntry 0)) (procedure_code flee_environment flee_main)
    (front_of main_coded inner_coded both_linked)

pub inner_linked :
    Linked (links_of flee_code) (linked_code flee_code) inner_entry (function_code inner_environment flee_inner)
inner_linked =
    rest_of (Mark (ProcedureEntry 1)) (function_code inner_environment flee_inner)
    (back_of main_coded inner_coded both_linked)

abbrev pub flee_start : ℕ
flee_start = flee_entry + size_of (begin_of flee_main) + size_of flee_main.variables + size_of (act_code 1)

abbrev pub flee_finish : ℕ
flee_finish = flee_start + size_of (stmts_code flee_environment none_taken flee_body)

pub body_linked :
    Linked (links_of flee_code) (linked_code flee_code) flee_start
    (stmts_code flee_environment none_taken flee_body)
body_linked =
    let one = act_code 1 in
    let body = stmts_code flee_environment none_taken flee_body in
    let tail = Mark (ReturnPlace 0) ∷ end_of flee_main in
    let rest = one ++ (body ++ tail) in
    front_of body tail (back_of one (body ++ tail)
    (back_of flee_main.variables rest (back_of (begin_of flee_main) (flee_main.variables ++ rest) main_linked)))

pub inner_body_linked :
    Linked (links_of flee_code) (linked_code flee_code) flee_on
    (stmts_code inner_environment none_taken inner_body)
inner_body_linked =
    let one = act_code 2 in
    let body = stmts_code inner_environment none_taken inner_body in
    let tail = function_tail flee_inner in
    let rest = one ++ (body ++ tail) in
    front_of body tail
    (back_of one (body ++ tail)
    (back_of flee_inner.variables rest (back_of (begin_of flee_inner) (flee_inner.variables ++ rest) inner_linked)))
