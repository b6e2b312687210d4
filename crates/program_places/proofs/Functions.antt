-- Functions without parameters that return FIXED BINARY, wherever they are called.
use Rattle.std.proofs.Common.{◌≡◌, ℕ, ◌+◌, ◌^◌, ◌<◌, ◌≤◌, List, [], ◌∷◌, ◌++◌, Some, Option, Bool, true, false, refl}
use Rattle.std.proofs.Common.{ap, ◌∙◌, arith}
use Rattle.std.specs.Prelude.{cond, ◌==◌, pos}
use Rattle.std.proofs.lemmas.List.{append_assoc}
use Rattle.std.proofs.lemmas.Option.{same_Some}
use Rattle.pli_typing.specs.TypedTree as Y
use Rattle.pli_meaning.specs.DeclaredShapes.{head_of, procedure_numbered}
use Rattle.pli_coding.specs.Assembly.{Code, Mark, ProcedureEntry, ReturnPlace, size_of}
use Rattle.pli_coding.specs.Entries.{block_left}
use Rattle.pli_coding.specs.Environments.{none_taken}
use Rattle.pli_coding.specs.Frames.{result}
use Rattle.pli_coding.specs.Images.{linked_code}
use Rattle.pli_coding.specs.Instructions.{load_word}
use Rattle.pli_coding.specs.Procedures.{finish_code, frame_returned, is_main, no_value}
use Rattle.pli_coding.specs.Registers.{a0, frame_register}
use Rattle.pli_coding.specs.Statements.{stmts_code}
use Rattle.code_marks.specs.CodeMarks.{MarkedOnce}
use Rattle.well_formed_trees.specs.WellFormed.{HasMain}
use Rattle.program_runs.specs.Procedures.{begin_of}
use Rattle.program_runs.specs.Starts.{surroundings_of}
use Rattle.pli_coding.specs.Allocating.{act_code}
use Rattle.function_runs.specs.Functions.{IsFunction, function_code, function_end, function_tail}
use Rattle.program_places.specs.Laws.{IsEnd}
use Rattle.program_places.specs.Placed.{Placed}
use Rattle.program_places.specs.Programs.{IsLoadable, IsProcedure, IsReceiving, Run, Site, behind_body, body_for}
use Rattle.program_places.specs.Programs.{code_for, entry_for, environment_for, function_for, image_for, links_for}
use Rattle.program_places.specs.Programs.{procedure_for}
use Rattle.program_places.proofs.Callees.{few_saved}
use Rattle.program_places.proofs.Found.{known}
use Rattle.program_places.proofs.Labels.{are_marked}
use Rattle.program_places.proofs.Marks.{behind_mark, mark_place, placed_as, placed_back}
use Rattle.program_places.proofs.Procedures.{behind_entry, body_placed, ended_code, entry_placed, error_place}
use Rattle.program_places.proofs.Procedures.{raise_routines, rest_placed, routines_at}

-- ---- it isn't the main procedure, whose level is 0

first_is :
    (q : Bool) (p x : Y.Procedure) (o : Option Y.Procedure) → cond q (Some p) o ≡ Some x →
    (head_of p.block).level ≡ 0 → 1 ≤ (head_of x.block).level → q ≡ false
first_is true p x o e main inner =
    let same = ap (λ (u : Y.Procedure). (head_of u.block).level) (same_Some p x e) in
    absurd (omega (arith, same, main, inner))
first_is false p x o e main inner = refl

main_block :
    (variables : List (List Y.DeclaredVariable)) (number : ℕ) (b : Y.Block) (ns : List ℕ) (t : Option Y.LeafType)
    (ps : List Y.Procedure) →
    is_main (record { variables = variables; procedures = record { block = b; parameters = ns; result = t } ∷ ps })
    number
    ≡ ((head_of b).number == number)
main_block variables number (Y.BlockOf head body) ns t ps = refl

no_main :
    (variables : List (List Y.DeclaredVariable)) (number : ℕ) (x : Y.Procedure) (ps : List Y.Procedure) → HasMain ps →
    procedure_numbered number ps ≡ Some x → 1 ≤ (head_of x.block).level →
    is_main (record { variables = variables; procedures = ps }) number ≡ false
no_main variables number x [] main e inner = absurd main
no_main variables number x (p ∷ ps) main e inner =
    main_block variables number p.block p.parameters p.result ps
    ∙ first_is ((head_of p.block).number == number) p x (procedure_numbered number ps) e main.0 inner

-- ---- its end

pub function_ended :
    (program : Y.Program) (head : Y.BlockHead) (body : Y.Stmts) {parameters : List ℕ} (precision : ℕ) →
    IsLoadable program → IsReceiving program head body parameters (Some (Y.FixedLeaf precision)) → 1 ≤ head.level →
    ended_code (environment_for program head) (procedure_for program head body) (Some (Y.FixedLeaf precision))
    ≡ function_tail (procedure_for program head body)
function_ended program head body {parameters} precision h is inner =
    let x = procedure_for program head body in
    let load = load_word a0 frame_register (pos result) in
    let last : Code = frame_returned x.words x.saved in
    ap (λ q. cond q finish_code (no_value head.line)
    ++ (Mark (ReturnPlace head.number) ∷ ((block_left 0 ++ load) ++ last)))
    (no_main program.variables head.number _ program.procedures h.well_formed.main is inner)
    ∙ ap (λ u. no_value head.line ++ (Mark (ReturnPlace head.number) ∷ u)) (append_assoc (block_left 0) load last)

tail_placed :
    MarkedOnce → (program : Y.Program) (head : Y.BlockHead) (body : Y.Stmts) (precision : ℕ) → IsLoadable program →
    IsProcedure program head body (Some (Y.FixedLeaf precision)) → 1 ≤ head.level →
    Placed (links_for program) (linked_code (code_for program))
    (behind_body program head body + size_of (no_value head.line))
    (Mark (ReturnPlace head.number) ∷ function_end (procedure_for program head body))
tail_placed once program head body precision h is inner =
    let x = procedure_for program head body in
    let body' = stmts_code (environment_for program head) none_taken body in
    let type = Some (Y.FixedLeaf precision) in
    placed_back (no_value head.line) (Mark (ReturnPlace head.number) ∷ function_end x)
    (placed_as (function_tail x) (function_ended program head body precision h is inner)
    (placed_back body' (ended_code (environment_for program head) x type)
    (rest_placed once program head body type h is)))

pub function_end_is :
    MarkedOnce → (program : Y.Program) (head : Y.BlockHead) (body : Y.Stmts) (precision : ℕ) → IsLoadable program →
    IsProcedure program head body (Some (Y.FixedLeaf precision)) → 1 ≤ head.level →
    IsEnd (links_for program) head.number (behind_body program head body + size_of (no_value head.line))
function_end_is once program head body precision h is inner =
    let p = tail_placed once program head body precision h is inner in
    let inside = p.linked.inside in
    let small' = p.linked.small' in
    record {
      place = mark_place (ReturnPlace head.number) (function_end (procedure_for program head body)) p;
      near = omega (arith, inside, small');
    }

-- ---- the whole

function_placed :
    MarkedOnce → (program : Y.Program) (head : Y.BlockHead) (body : Y.Stmts) (precision : ℕ) → IsLoadable program →
    IsProcedure program head body (Some (Y.FixedLeaf precision)) → 1 ≤ head.level →
    Placed (links_for program) (linked_code (code_for program)) (entry_for program head.number)
    (function_code (environment_for program head) (procedure_for program head body))
function_placed once program head body precision h is inner =
    let e = environment_for program head in
    let x = procedure_for program head body in
    let type = Some (Y.FixedLeaf precision) in
    placed_as (function_code e x)
    (ap (λ u. begin_of x ++ (x.variables ++ (act_code head.line ++ (stmts_code e none_taken body ++ u))))
    (function_ended program head body precision h is inner))
    (behind_mark (ProcedureEntry head.number) (behind_entry e x type)
    (entry_placed once program head body type h is))

pub function_stands :
    MarkedOnce → (program : Y.Program) (head : Y.BlockHead) (body : Y.Stmts) (precision : ℕ) (r : Run) (s : Site) →
    IsLoadable program → IsProcedure program head body (Some (Y.FixedLeaf precision)) → 1 ≤ head.level →
    r.acts + 1 < 2 ^ 64 →
    IsFunction (surroundings_of (image_for program r)) (linked_code (code_for program))
    (function_for program head body s)
function_stands once program head body precision r s h is inner acts =
    let type = Some (Y.FixedLeaf precision) in
    let k = known program head body type h.well_formed is in
    let level = k.level in
    let e = environment_for program head in
    let error = error_place once program h in
    let at = routines_at once program h in
    record {
      level = omega (arith, level);
      line = k.line;
      saved = few_saved program head body;
      place = mark_place (ProcedureEntry head.number) (behind_entry e (procedure_for program head body) type)
          (entry_placed once program head body type h is);
      stands = (function_placed once program head body precision h is inner).linked;
      end = refl;
      kind = k.kind;
      labels = are_marked (links_for program) (linked_code (code_for program)) (body_for program head body) e body
          (body_placed once program head body type h is);
      acts = acts;
      routines = raise_routines once program h;
      raises = omega (arith, error, at);
    }
