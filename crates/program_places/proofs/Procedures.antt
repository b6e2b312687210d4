-- Where the parts of a program's code stand: the routines of raises, and each procedure and function.
use Rattle.std.proofs.Common.{◌≡◌, ℕ, ◌+◌, ◌*◌, List, [], ◌∷◌, ◌++◌, Some, Option, Bool, true, false, refl, ap, ◌∙◌}
use Rattle.std.proofs.Common.{subst, arith}
use Rattle.std.specs.Prelude.{cond, ◌==◌}
use Rattle.std.proofs.lemmas.List.{append_assoc}
use Rattle.std.proofs.lemmas.Option.{same_Some}
use Rattle.rv_meaning.specs.declared.instr.Instr.{Instr}
use Rattle.pli_typing.specs.TypedTree as Y
use Rattle.pli_meaning.specs.DeclaredShapes.{head_of, procedure_numbered}
use Rattle.pli_coding.specs.Allocating.{act_code}
use Rattle.pli_coding.specs.Assembly.{Code, Mark, OffsetOf, ProcedureEntry, RaiseCondition, RaiseError, ErrorEnd}
use Rattle.pli_coding.specs.Assembly.{size_of}
use Rattle.pli_coding.specs.Entries.{block_entered, frame_begun, variables_code}
use Rattle.pli_coding.specs.Environments.{Environment, none_taken}
use Rattle.pli_coding.specs.Images.{condition_code, error_code, error_end, linked_code, raise_code, start_code, to_unit}
use Rattle.pli_coding.specs.Images.{unit_begun}
use Rattle.pli_coding.specs.Instructions.{move, service, small}
use Rattle.pli_coding.specs.Linking.{Links, place_of}
use Rattle.pli_coding.specs.Procedures.{procedure_ended, procedure_of_block, procedure_with, procedures_code}
use Rattle.pli_coding.specs.Procedures.{routines_code}
use Rattle.pli_coding.specs.Registers.{a0, a1, a2, a3, u5}
use Rattle.pli_coding.specs.Statements.{stmts_code}
use Rattle.code_marks.specs.CodeMarks.{MarkedOnce}
use Rattle.block_runs.proofs.EmptyMeaning.{join_code}
use Rattle.program_runs.specs.Procedures.{Procedure, begin_of}
use Rattle.program_runs.specs.Starts.{image_parts}
use Rattle.expression_runs.specs.Raises.{Routines}
use Rattle.program_places.specs.Placed.{Placed}
use Rattle.program_places.specs.Programs.{IsLoadable, IsProcedure, IsReceiving, body_for, code_for, entry_among}
use Rattle.program_places.specs.Programs.{entry_for, environment_for, links_for, procedure_for, procedures_index}
use Rattle.program_places.specs.Programs.{program_environment, raises_index}
use Rattle.program_places.proofs.Marks.{behind_mark, placed_as, placed_at, placed_back, placed_front, whole_placed}

-- ---- the whole

pub code_placed :
    MarkedOnce → (program : Y.Program) → IsLoadable program →
    Placed (links_for program) (linked_code (code_for program)) 0 (code_for program)
code_placed once program h =
    whole_placed (code_for program) h.fits (once image_parts program h.well_formed)

-- behind the start, the routines of raises and those of extents
abbrev routines_of : Y.Program → Code
routines_of program = routines_code (program_environment program) (program_environment program).blocks

abbrev procedures_of : Y.Program → Code
procedures_of program = procedures_code (program_environment program) program.procedures

raises_behind :
    MarkedOnce → (program : Y.Program) → IsLoadable program →
    Placed (links_for program) (linked_code (code_for program)) (raises_index program)
    (raise_code ++ (routines_of program ++ procedures_of program))
raises_behind once program h =
    placed_at (raises_index program) (raise_code ++ (routines_of program ++ procedures_of program)) (omega arith)
    (placed_back (start_code (program_environment program))
    (raise_code ++ (routines_of program ++ procedures_of program)) (code_placed once program h))

pub raises_placed :
    MarkedOnce → (program : Y.Program) → IsLoadable program →
    Placed (links_for program) (linked_code (code_for program)) (raises_index program) raise_code
raises_placed once program h =
    placed_front raise_code (routines_of program ++ procedures_of program) (raises_behind once program h)

procedures_placed :
    MarkedOnce → (program : Y.Program) → IsLoadable program →
    Placed (links_for program) (linked_code (code_for program)) (procedures_index program) (procedures_of program)
procedures_placed once program h =
    placed_back (routines_of program) (procedures_of program)
    (placed_back raise_code (routines_of program ++ procedures_of program) (raises_behind once program h))

-- ---- one of the procedures

placed_by :
    (P : Y.Procedure → ℕ → Type 0) (q : Bool) (p x : Y.Procedure) (o : Option Y.Procedure) (here there : ℕ) →
    cond q (Some p) o ≡ Some x → P p here → (o ≡ Some x → P x there) → P x (cond q here there)
placed_by P true p x o here there e h rest = subst (λ u. P u here) (same_Some p x e) h
placed_by P false p x o here there e h rest = rest e

found_placed :
    {links : Links} {code : List Instr} (e : Environment) (number : ℕ) (x : Y.Procedure) (ps : List Y.Procedure)
    (i : ℕ) → procedure_numbered number ps ≡ Some x → Placed links code i (procedures_code e ps) →
    Placed links code (entry_among e number ps i) (procedure_of_block e x.block x.parameters x.result)
found_placed e number x [] i is p = absurd (cc is)
found_placed {links} {code} e number x (y ∷ ps) i is p =
    let mine = procedure_of_block e y.block y.parameters y.result in
    placed_by (λ u at. Placed links code at (procedure_of_block e u.block u.parameters u.result))
    ((head_of y.block).number == number) y x (procedure_numbered number ps) i
    (entry_among e number ps (i + size_of mine)) is (placed_front mine (procedures_code e ps) p)
    (λ is'. found_placed e number x ps (i + size_of mine) is' (placed_back mine (procedures_code e ps) p))

-- its code: its beginning, its variables, the act of its entry, its statements, and its end
abbrev pub ended_code : Environment → Procedure → Option Y.LeafType → Code
ended_code e x result = procedure_ended e x.head x.words x.saved result

abbrev pub behind_entry : Environment → Procedure → Option Y.LeafType → Code
behind_entry e x result =
    begin_of x
    ++ (x.variables ++ (act_code x.head.line ++ (stmts_code e none_taken x.body ++ ended_code e x result)))

procedure_is :
    (e : Environment) (x : Procedure) (result : Option Y.LeafType) → variables_code e x.head.line ≡ x.variables →
    procedure_with e x.head x.body x.words x.saved [] result
    ≡ Mark (ProcedureEntry x.head.number) ∷ behind_entry e x result
procedure_is e x result same =
    let line = x.head.line in
    let entry = Mark (ProcedureEntry x.head.number) in
    let frame = frame_begun x.words x.head.level 0 (Some x.saved) in
    let rest = stmts_code e none_taken x.body ++ ended_code e x result in
    ap (λ u. entry ∷ ((frame ++ (move u5 a1 ∷ move a3 a2 ∷ (block_entered 0 line ++ (u ++ act_code line)))) ++ rest))
    same
    ∙ ap (λ u. entry ∷ u)
    (join_code frame (move u5 a1) (move a3 a2) (block_entered 0 line) (x.variables ++ act_code line) rest)
    ∙ ap (λ u. entry ∷ (begin_of x ++ u)) (append_assoc x.variables (act_code line) rest)

-- as it stands with any parameters
pub receiving_placed :
    MarkedOnce → (program : Y.Program) (head : Y.BlockHead) (body : Y.Stmts) (parameters : List ℕ)
    (result : Option Y.LeafType) → IsLoadable program → IsReceiving program head body parameters result →
    Placed (links_for program) (linked_code (code_for program)) (entry_for program head.number)
    (procedure_of_block (program_environment program) (Y.BlockOf head body) parameters result)
receiving_placed once program head body parameters result h is =
    found_placed (program_environment program) head.number _ program.procedures (procedures_index program) is
    (procedures_placed once program h)

pub entry_placed :
    MarkedOnce → (program : Y.Program) (head : Y.BlockHead) (body : Y.Stmts) (result : Option Y.LeafType) →
    IsLoadable program → IsProcedure program head body result →
    Placed (links_for program) (linked_code (code_for program)) (entry_for program head.number)
    (Mark (ProcedureEntry head.number)
    ∷ behind_entry (environment_for program head) (procedure_for program head body) result)
entry_placed once program head body result h is =
    placed_as
    (Mark (ProcedureEntry head.number)
    ∷ behind_entry (environment_for program head) (procedure_for program head body) result)
    (procedure_is (environment_for program head) (procedure_for program head body) result refl)
    (receiving_placed once program head body [] result h is)

-- its statements and its end
pub rest_placed :
    MarkedOnce → (program : Y.Program) (head : Y.BlockHead) (body : Y.Stmts) (result : Option Y.LeafType) →
    IsLoadable program → IsProcedure program head body result →
    Placed (links_for program) (linked_code (code_for program)) (body_for program head body)
    (stmts_code (environment_for program head) none_taken body
    ++ ended_code (environment_for program head) (procedure_for program head body) result)
rest_placed once program head body result h is =
    let e = environment_for program head in
    let x = procedure_for program head body in
    let one = act_code head.line in
    let rest = stmts_code e none_taken body ++ ended_code e x result in
    placed_back one rest
    (placed_back x.variables (one ++ rest)
    (placed_back (begin_of x) (x.variables ++ (one ++ rest))
    (behind_mark (ProcedureEntry head.number) (behind_entry e x result)
    (entry_placed once program head body result h is))))

pub body_placed :
    MarkedOnce → (program : Y.Program) (head : Y.BlockHead) (body : Y.Stmts) (result : Option Y.LeafType) →
    IsLoadable program → IsProcedure program head body result →
    Placed (links_for program) (linked_code (code_for program)) (body_for program head body)
    (stmts_code (environment_for program head) none_taken body)
body_placed once program head body result h is =
    placed_front (stmts_code (environment_for program head) none_taken body)
    (ended_code (environment_for program head) (procedure_for program head body) result)
    (rest_placed once program head body result h is)

-- ---- the routines of raises

abbrev before_end : Code
before_end = Mark RaiseError ∷ small a0 5 ∷ OffsetOf a2 ErrorEnd ∷ (service 30 ++ to_unit (size_of error_end))

raise_sizes : (size_of condition_code ≡ 8) × (size_of before_end ≡ 8)
raise_sizes = (refl, refl)

pub condition_place :
    MarkedOnce → (program : Y.Program) → IsLoadable program →
    place_of (links_for program) RaiseCondition ≡ 4 * raises_index program
condition_place once program h = (raises_placed once program h).marks.0

errors_placed :
    MarkedOnce → (program : Y.Program) → IsLoadable program →
    Placed (links_for program) (linked_code (code_for program)) (raises_index program + 8) (error_code ++ unit_begun)
errors_placed once program h =
    let size = raise_sizes.0 in
    placed_at (raises_index program + 8) (error_code ++ unit_begun) (omega (arith, size))
    (placed_back condition_code (error_code ++ unit_begun) (raises_placed once program h))

pub error_place :
    MarkedOnce → (program : Y.Program) → IsLoadable program →
    place_of (links_for program) RaiseError ≡ 4 * (raises_index program + 8)
error_place once program h = (errors_placed once program h).marks.0

pub end_place :
    MarkedOnce → (program : Y.Program) → IsLoadable program →
    place_of (links_for program) ErrorEnd ≡ 4 * (raises_index program + 16)
end_place once program h =
    let size = raise_sizes.1 in
    let e = (placed_back before_end (error_end ++ unit_begun) (errors_placed once program h)).marks.0 in
    omega (arith, size, e)

pub raise_routines :
    MarkedOnce → (program : Y.Program) → IsLoadable program →
    Routines (links_for program) (linked_code (code_for program))
raise_routines once program h =
    let p = raises_placed once program h in
    let inside = p.linked.inside in
    let small' = p.linked.small' in
    let end = end_place once program h in
    record {
      at = raises_index program;
      linked = p.linked;
      condition = condition_place once program h;
      end = omega (arith, end, inside, small');
    }

pub routines_at :
    (once : MarkedOnce) (program : Y.Program) (h : IsLoadable program) →
    (raise_routines once program h).at ≡ raises_index program
unfolding raise_routines
routines_at once program h = refl
