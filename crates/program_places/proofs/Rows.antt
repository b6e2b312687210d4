-- The worked row: the laws say where its code stands.
use Rattle.std.proofs.Common.{◌≡◌, ℕ, zero, suc, ◌+◌, ◌-◌, ◌^◌, ◌<◌, List, [], ◌∷◌, ◌++◌, length, Some, None, refl}
use Rattle.std.proofs.Common.{arith}
use Rattle.rv_meaning.specs.Machine.{memory_size}
use Rattle.pli_typing.specs.TypedTree as Y
use Rattle.pli_meaning.specs.declared.outcome.End.TheVariants as N
use Rattle.pli_meaning.specs.Control as F
use Rattle.pli_meaning.specs.Control.{Label}
use Rattle.pli_meaning.specs.Evaluating as V
use Rattle.pli_meaning.specs.Executing as M
use Rattle.pli_meaning.specs.Executing.{entered, run}
use Rattle.pli_meaning.specs.Making as K
use Rattle.pli_meaning.specs.StorageState.{first_state}
use Rattle.area_keeper.specs.KeeperLaws.{Keeps}
use Rattle.run_keeper.specs.RunKeeper.{run_keeper}
use Rattle.pli_coding.specs.Allocating.{act_code}
use Rattle.pli_coding.specs.Assembly.{CallTo, ProcedureEntry, size_of}
use Rattle.pli_coding.specs.Environments.{none_taken}
use Rattle.pli_coding.specs.Images.{linked_code}
use Rattle.pli_coding.specs.Statements.{marked, stmt_code, stmts_code}
use Rattle.code_marks.specs.CodeMarks.{MarkedOnce}
use Rattle.storage_relation.specs.ServiceLaws.{TableDiffers}
use Rattle.activation_relation.specs.Layers.{Point, services_of}
use Rattle.run_steps.specs.Items.{Linked}
use Rattle.run_steps.proofs.Jumps.{back_of, front_of}
use Rattle.run_steps.specs.Reach.{Comes}
use Rattle.block_runs.proofs.CallStatements.{given_code}
use Rattle.program_runs.specs.Calls.{Callee, IsCall, block_at, body_index, labels_of, left_over}
use Rattle.program_runs.specs.Programs.{IsWhole, Whole, main_of}
use Rattle.program_runs.specs.Starts.{first_family, no_numbers, start_point, surroundings_of, never_in}
use Rattle.program_runs.specs.Statements.{Block, Does, EachDoes, IsBegun, IsOwn}
use Rattle.program_runs.proofs.Calls.{none_made}
use Rattle.program_runs.proofs.CallStatements.{call_does, statement_at}
use Rattle.program_runs.proofs.Gotos.{goto_does}
use Rattle.program_runs.proofs.Programs.{program_runs}
use Rattle.program_runs.proofs.Statements.{none_does, return_does}
use Rattle.program_places.specs.Placed.{Placed}
use Rattle.program_places.specs.Programs.{Site, body_for, callee_for, code_for, environment_for, image_for}
use Rattle.program_places.specs.Programs.{links_for, whole_for}
use Rattle.program_places.specs.Rows.{called_body, called_head, turning_body, turning_call, turning_head, turning_label}
use Rattle.program_places.specs.Rows.{turning_procedure, turning_program, turning_rest, turning_run}
use Rattle.program_places.proofs.Callees.{callee_stands, end_is}
use Rattle.program_places.proofs.Labels.{label_of}
use Rattle.program_places.proofs.Marks.{placed_back}
use Rattle.program_places.proofs.Procedures.{body_placed}
use Rattle.program_places.proofs.Starts.{main_found, whole_stands}
use Rattle.program_places.proofs.WellFormedRow.{turning_found, turning_loadable, turning_main, turning_starts}

-- ---- its code

abbrev turning_whole : (input : List ℕ) → (acts : ℕ) → Whole
turning_whole input acts =
    whole_for turning_program turning_procedure (turning_run input acts) (λ q. q)

abbrev turning_block : (input : List ℕ) → (acts : ℕ) → Block
turning_block input acts =
    block_at (surroundings_of (image_for turning_program (turning_run input acts)))
    (linked_code (code_for turning_program)) (main_of (turning_whole input acts))
    (start_point (image_for turning_program (turning_run input acts))) no_numbers

abbrev body_start : ℕ
body_start = body_for turning_program turning_head turning_body

abbrev call_size : ℕ
call_size = size_of (stmt_code (environment_for turning_program turning_head) none_taken turning_call)

main_placed :
    MarkedOnce →
    Placed (links_for turning_program) (linked_code (code_for turning_program)) body_start
    (stmts_code (environment_for turning_program turning_head) none_taken turning_body)
main_placed once =
    body_placed once turning_program turning_head turning_body None turning_loadable
    (main_found turning_program turning_procedure turning_main)

abbrev call_at : ℕ
call_at = body_start + size_of (marked 1 (turning_label ∷ []))

behind_label :
    MarkedOnce →
    Linked (links_for turning_program) (linked_code (code_for turning_program)) call_at
    (stmt_code (environment_for turning_program turning_head) none_taken turning_call
    ++ stmts_code (environment_for turning_program turning_head) none_taken turning_rest)
behind_label once =
    let e = environment_for turning_program turning_head in
    (placed_back (marked 1 (turning_label ∷ []))
    (stmt_code e none_taken turning_call ++ stmts_code e none_taken turning_rest) (main_placed once)).linked

call_linked :
    MarkedOnce →
    Linked (links_for turning_program) (linked_code (code_for turning_program)) call_at
    (stmt_code (environment_for turning_program turning_head) none_taken turning_call)
call_linked once =
    let e = environment_for turning_program turning_head in
    front_of (stmt_code e none_taken turning_call) (stmts_code e none_taken turning_rest) (behind_label once)

goto_linked :
    MarkedOnce →
    Linked (links_for turning_program) (linked_code (code_for turning_program)) (call_at + call_size)
    (stmt_code (environment_for turning_program turning_head) none_taken (Y.Goto 0 turning_label 3))
goto_linked once =
    let e = environment_for turning_program turning_head in
    front_of (stmt_code e none_taken (Y.Goto 0 turning_label 3)) []
    (back_of (stmt_code e none_taken turning_call) (stmts_code e none_taken turning_rest) (behind_label once))

-- ---- the procedure inside

abbrev turning_site : (more : ℕ) → Site
turning_site more =
    record {
      parent = 1;
      call = call_at + call_size - 2;
      around = record { program = turning_program; enter = entered turning_program more; turns = suc more; line = 0 };
      made = λ q. q;
    }

abbrev turning_callee : (more : ℕ) → Callee
turning_callee more = callee_for turning_program called_head called_body (turning_site more)

called_own :
    MarkedOnce → (input : List ℕ) (acts more : ℕ) (p : Point) (numbers : ℕ → ℕ) →
    IsBegun
    (block_at (surroundings_of (image_for turning_program (turning_run input acts)))
    (linked_code (code_for turning_program)) (turning_callee more) p numbers) →
    IsOwn
    (block_at (surroundings_of (image_for turning_program (turning_run input acts)))
    (linked_code (code_for turning_program)) (turning_callee more) p numbers)
    left_over
called_own once input acts more p numbers b =
    let end = end_is once turning_program called_head called_body turning_loadable turning_found in
    record {
      owner = refl;
      end = end.place;
      near = end.near;
      enough = omega arith;
      function = refl;
      begun = b;
      kind = refl;
      registers = omega arith;
    }

called_each :
    MarkedOnce → (input : List ℕ) (acts more : ℕ) (p : Point) (numbers : ℕ → ℕ) → acts + 1 < 2 ^ 64 →
    IsBegun
    (block_at (surroundings_of (image_for turning_program (turning_run input acts)))
    (linked_code (code_for turning_program)) (turning_callee more) p numbers) →
    EachDoes
    (block_at (surroundings_of (image_for turning_program (turning_run input acts)))
    (linked_code (code_for turning_program)) (turning_callee more) p numbers)
    [] called_body (body_index (turning_callee more)) left_over
called_each once input acts more p numbers few b =
    let k = block_at (surroundings_of (image_for turning_program (turning_run input acts)))
    (linked_code (code_for turning_program)) (turning_callee more) p numbers in
    let e = environment_for turning_program called_head in
    let placed = body_placed once turning_program called_head called_body None turning_loadable turning_found in (
      return_does k 5 _ left_over (record { line_fits = omega arith; acts = few })
          (called_own once input acts more p numbers b)
          (front_of (stmt_code e none_taken (Y.Return 5)) [] placed.linked)
          [],
      tt,
    )

-- ---- the main procedure

turning_calls :
    MarkedOnce → (input : List ℕ) (more : ℕ) → suc more + 1 < 2 ^ 64 →
    IsCall (turning_block input (suc more)) (turning_callee more) 2 call_at more
turning_calls once input more few =
    let given' = given_code (statement_at (turning_block input (suc more)) (turning_callee more) 2 0
    (start_point (image_for turning_program (turning_run input (suc more)))) no_numbers) in
    let last = CallTo (ProcedureEntry 2) ∷ [] in
    record {
      line_fits = omega arith;
      callee = callee_stands once turning_program called_head called_body (turning_run input (suc more))
          (turning_site more) turning_loadable turning_found
          (back_of given' last (back_of (act_code 2) (given' ++ last) (call_linked once))) few;
      room = record { room = omega arith; shallow = refl; parent = (omega arith, refl); idle = refl };
      statement = call_linked once;
      call = refl;
      level = refl;
      parent = refl;
      found = refl;
      enter = refl;
      around = refl;
      enough = omega arith;
    }

call_by :
    MarkedOnce → (input : List ℕ) (acts : ℕ) → acts + 1 < 2 ^ 64 → IsBegun (turning_block input acts) →
    (labels : List Label) → Does (turning_block input acts) labels turning_call call_at left_over
call_by once input zero few b labels =
    none_does (turning_block input zero) labels turning_call call_at left_over b refl
call_by once input (suc more) few b labels =
    let w = surroundings_of (image_for turning_program (turning_run input (suc more))) in
    call_does (turning_block input (suc more)) (turning_callee more) 2 call_at left_over more
    (turning_calls once input more few)
    (λ p numbers o.
    none_made w (linked_code (code_for turning_program)) (turning_callee more) p numbers refl refl (refl, refl))
    (λ p numbers o. called_each once input (suc more) more p numbers few) b labels

goto_by :
    MarkedOnce → (input : List ℕ) (acts : ℕ) → acts + 1 < 2 ^ 64 → IsBegun (turning_block input acts) →
    Does (turning_block input acts) (turning_label ∷ []) (Y.Goto 0 turning_label 3) (call_at + call_size) left_over
goto_by once input acts few b =
    let k = turning_block input acts in
    let label = label_of (links_for turning_program) (linked_code (code_for turning_program)) body_start
    (environment_for turning_program turning_head) none_taken turning_body (main_placed once) turning_label refl in
    goto_does k (turning_label ∷ []) turning_label 3 (call_at + call_size) left_over
    (record { line_fits = omega arith; acts = few })
    (record {
      begun = b;
      carried = refl;
      level = refl;
      block = refl;
      at = label.at;
      place = label.place;
      near = label.near;
    }) (goto_linked once)

pub turning_each :
    MarkedOnce → (input : List ℕ) (acts : ℕ) → acts + 1 < 2 ^ 64 → IsBegun (turning_block input acts) →
    EachDoes (turning_block input acts) (labels_of (main_of (turning_whole input acts))) turning_body
    (body_index (main_of (turning_whole input acts))) left_over
turning_each once input acts few b =
    (call_by once input acts few b (turning_label ∷ []), (goto_by once input acts few b, tt))

pub turning_is :
    MarkedOnce → TableDiffers → (input first : List ℕ) (acts : ℕ) → acts + 1 < 2 ^ 64 → length first ≡ memory_size →
    IsWhole (turning_whole input acts) first
turning_is once tables input first acts few bytes =
    let i = image_for turning_program (turning_run input acts) in
    whole_stands once tables turning_program turning_procedure (turning_run input acts) (λ q. q) first turning_loadable
    turning_starts turning_main bytes (λ n v e. absurd (cc e)) few
    (none_made (surroundings_of i) (linked_code (code_for turning_program)) (main_of (turning_whole input acts))
    (start_point i) no_numbers refl refl (refl, refl))
    (record { room = omega arith; shallow = refl; parent = tt; idle = refl })

pub turning_runs :
    Keeps run_keeper → MarkedOnce → TableDiffers → (input first : List ℕ) (acts : ℕ) → acts + 1 < 2 ^ 64 →
    length first ≡ memory_size →
    Comes (linked_code (code_for turning_program)) 0
    (first_family first (services_of (start_point (image_for turning_program (turning_run input acts)))))
    (services_of (start_point (image_for turning_program (turning_run input acts))))
    (never_in (image_for turning_program (turning_run input acts)))
    (run turning_program (suc acts) acts (first_state input))
turning_runs keeps once tables input first acts few bytes =
    program_runs keeps (turning_whole input acts) first (turning_is once tables input first acts few bytes)
    (turning_each once input acts few)

-- ---- what the program comes to

unfoldable flows : Unit {0}
unfolding F.give F.◌>>=◌ F.◌>>◌ F.looked F.stored F.act F.finish F.returns F.choose F.given F.list_from F.leaving
    F.jumps
flows = tt

unfoldable calls : Unit {0}
unfolding V.called V.arguments V.all_passed_last V.procedure_entered K.variables_made K.parameters_bound
calls = tt

unfoldable statements : Unit {0}
unfolding M.statement M.statements M.list M.list_with M.block_variables_made M.entry_act M.block_list M.block_body
statements = tt

pub turning_goes_on :
    (input : List ℕ) →
    M.meaning turning_program input 9 ≡ Some (record { acts = 9; output = []; raised = []; end = N.Running })
unfolding M.meaning M.run M.entered M.block_run flows calls statements
turning_goes_on input = refl
