-- Procedures and functions where they are called.
use Rattle.std.proofs.Common.{ℕ, ◌+◌, ◌^◌, ◌<◌, ◌≤◌, [], ◌∷◌, None}
use Rattle.std.proofs.Common.{refl, arith}
use Rattle.std.specs.Prelude.{min}
use Rattle.pli_typing.specs.TypedTree as Y
use Rattle.pli_coding.specs.Assembly.{CallTo, Mark, ProcedureEntry, ReturnPlace}
use Rattle.pli_coding.specs.Environments.{none_taken}
use Rattle.pli_coding.specs.Images.{linked_code}
use Rattle.pli_coding.specs.Registers.{held_registers}
use Rattle.pli_coding.specs.Statements.{stmts_code}
use Rattle.code_marks.specs.CodeMarks.{MarkedOnce}
use Rattle.run_steps.specs.Items.{Linked}
use Rattle.program_runs.specs.Calls.{IsCallee}
use Rattle.program_runs.specs.Procedures.{end_of}
use Rattle.program_runs.specs.Starts.{surroundings_of}
use Rattle.program_places.specs.Laws.{IsEnd}
use Rattle.program_places.specs.Placed.{Placed}
use Rattle.program_places.specs.Programs.{IsLoadable, IsProcedure, Run, Site, behind_body, body_for, callee_for}
use Rattle.program_places.specs.Programs.{code_for}
use Rattle.program_places.specs.Programs.{environment_for, image_for, links_for, procedure_for}
use Rattle.program_places.proofs.Found.{known}
use Rattle.program_places.proofs.Labels.{are_marked}
use Rattle.program_places.proofs.Marks.{behind_mark, mark_place, placed_back}
use Rattle.program_places.proofs.Procedures.{behind_entry, body_placed, ended_code, entry_placed, rest_placed}

least_left : (m n : ℕ) → min m n ≤ m
least_left m n = grind (arith)

pub few_saved :
    (program : Y.Program) (head : Y.BlockHead) (body : Y.Stmts) →
    (procedure_for program head body).saved ≤ held_registers
few_saved program head body = least_left held_registers _

-- ---- procedures

-- behind its statements stands its end
pub end_placed :
    MarkedOnce → (program : Y.Program) (head : Y.BlockHead) (body : Y.Stmts) → IsLoadable program →
    IsProcedure program head body None →
    Placed (links_for program) (linked_code (code_for program)) (behind_body program head body)
    (Mark (ReturnPlace head.number) ∷ end_of (procedure_for program head body))
end_placed once program head body h is =
    placed_back (stmts_code (environment_for program head) none_taken body)
    (ended_code (environment_for program head) (procedure_for program head body) None)
    (rest_placed once program head body None h is)

pub end_is :
    MarkedOnce → (program : Y.Program) (head : Y.BlockHead) (body : Y.Stmts) → IsLoadable program →
    IsProcedure program head body None → IsEnd (links_for program) head.number (behind_body program head body)
end_is once program head body h is =
    let p = end_placed once program head body h is in
    let inside = p.linked.inside in
    let small' = p.linked.small' in
    record {
      place = mark_place (ReturnPlace head.number) (end_of (procedure_for program head body)) p;
      near = omega (arith, inside, small');
    }

pub callee_stands :
    MarkedOnce → (program : Y.Program) (head : Y.BlockHead) (body : Y.Stmts) (r : Run) (s : Site) →
    IsLoadable program → IsProcedure program head body None →
    Linked (links_for program) (linked_code (code_for program)) s.call (CallTo (ProcedureEntry head.number) ∷ []) →
    r.acts + 1 < 2 ^ 64 →
    IsCallee (surroundings_of (image_for program r)) (linked_code (code_for program)) (callee_for program head body s)
callee_stands once program head body r s h is calls acts =
    let k = known program head body None h.well_formed is in
    let level = k.level in
    let inside = calls.inside in
    let small' = calls.small' in
    let e = environment_for program head in
    let code = behind_entry e (procedure_for program head body) None in
    let p = entry_placed once program head body None h is in
    record {
      coded = record {
        level = omega (arith, level);
        line = k.line;
        saved = few_saved program head body;
        back = omega (arith, inside, small');
      };
      calls = calls;
      place = mark_place (ProcedureEntry head.number) code p;
      stands = (behind_mark (ProcedureEntry head.number) code p).linked;
      end = refl;
      kind = k.kind;
      labels = are_marked (links_for program) (linked_code (code_for program)) (body_for program head body) e body
          (body_placed once program head body None h is);
      acts = acts;
    }
