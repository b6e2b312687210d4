-- The code of ALLOCATE of a structure in an area, where it sets a pointer variable of the running frame.
use Rattle.std.proofs.Common.{◌≡◌, ℕ, ◌+◌, [], ◌++◌, Option, Some, None, Bool, true, ap, ◌∙◌}
use Rattle.std.specs.Prelude.{cond, negsuc, pos, ◌==◌, unwrap_or, if◌then◌else◌}
use Rattle.rv_meaning.specs.declared.instr.Register.{Register}
use Rattle.pli_typing.specs.TypedTree as Y
use Rattle.pli_meaning.specs.DeclaredShapes.{declared_variable}
use Rattle.pli_coding.specs.Allocating.{act_code, amounts_found, behind_amounts, both_kept, placing_code}
use Rattle.pli_coding.specs.Assembly.{Code}
use Rattle.pli_coding.specs.Environments.{Environment, no_declaration, none_taken}
use Rattle.pli_coding.specs.Extents.{initial_code}
use Rattle.pli_coding.specs.Frames.{display, has_constant_size, own_offset}
use Rattle.pli_coding.specs.Instructions.{load_word, plus, service}
use Rattle.pli_coding.specs.Locating.{FrameName, NamePlace, leaf_place, name_offset, table_number, waiting_name}
use Rattle.pli_coding.specs.Locating.{where_standing}
use Rattle.pli_coding.specs.Registers.{a0, a1, a2, a3, a4, frame_register}
use Rattle.pli_coding.specs.Statements.{stmt_code}
use Rattle.pli_coding.specs.Storing.{name_stored}
use Rattle.expression_runs.specs.Variables.{Spot, variable_of, whole}
use Rattle.variable_runs.specs.Known.{place_of}
use Rattle.area_runs.specs.Allocations.{allocation}
use Rattle.area_runs.proofs.BasedCode.{name_at_place}
use Rattle.std.proofs.Common.{List}
use Rattle.pli_coding.specs.Assembly.{Datum}
use Rattle.pli_coding.specs.Extents.{initial_given}
use Rattle.pli_coding.specs.StaticForms.{initial_datum}
use Rattle.area_runs.specs.Based.{based_of, pointer_declared}
use Rattle.area_runs.proofs.AllocationCode.{allocating_code, amounts_code, placed_code}
use Rattle.member_runs.specs.Allocations.{IsUninitialized}
use Rattle.member_runs.specs.Members.{structure_declared}

abbrev declared_in : Option Y.DeclaredVariable → Y.DeclaredVariable
declared_in o = unwrap_or o no_declaration

abbrev standing : Environment → Spot → Option Y.DeclaredVariable → Option NamePlace
standing e p o =
    if has_constant_size (declared_in o)
    then Some (FrameName p.level (pos (place_of e p + 16 + leaf_place (declared_in o) 0))) else None

-- a place of a frame, by whether that is the running one
abbrev place_code : Register → (level : ℕ) → Bool → (place : ℕ) → Code
place_code r level q place =
    cond q [] (load_word r frame_register (display level))
    ++ (load_word r (cond q frame_register r) own_offset ++ plus r r (pos place))

abbrev by_amounts : Environment → (line : ℕ) → Spot → Option Y.DeclaredVariable → Code
by_amounts e line n o =
    amounts_found e none_taken line (based_of n) (declared_in o) (declared_in o).evaluations ++ both_kept none_taken

abbrev by_pointer : Environment → (line : ℕ) → (n p x : Spot) → (on op : Option Y.DeclaredVariable) → Code
by_pointer e line n p x on op =
    act_code line
    ++ ((by_amounts e line n on
    ++ (placing_code
    (place_code a0 x.level (x.level == e.level) (place_of e x)
    ++ (load_word a1 frame_register (negsuc 3)
    ++ (load_word a2 frame_register (negsuc 7)
    ++ (initial_code a3 (declared_in on)
    ++ (name_offset e a4 (unwrap_or (standing e p op) (FrameName e.level (waiting_name (behind_amounts none_taken))))
    ++ service 10)))))
    (Some (variable_of x))
    ++ where_standing (standing e p op) (λ name. []) (name_stored e (behind_amounts none_taken) (whole p)))) ++ [])

abbrev by_frames : (line signature : ℕ) → Environment → (p x : Spot) → (qx qp : Bool) → Option Datum → Code
by_frames line signature e p x qx qp initial =
    act_code line
    ++ ((amounts_code signature
    ++ (placed_code
    (place_code a0 x.level qx (place_of e x)
    ++ (load_word a1 frame_register (negsuc 3)
    ++ (load_word a2 frame_register (negsuc 7)
    ++ (initial_given a3 initial ++ (place_code a4 p.level qp (name_at_place e p) ++ service 10)))))
    ++ [])) ++ [])

pub allocation_coded :
    (e : Environment) (n p x : Spot) (members : List Y.Member) (leaves : List Y.Leaf) (line signature : ℕ) →
    IsUninitialized members leaves →
    declared_variable e.program (variable_of p) ≡ Some pointer_declared →
    declared_variable e.program (based_of n) ≡ Some (structure_declared members leaves) →
    table_number e (structure_declared members leaves) ≡ signature →
    (p.level == e.level) ≡ true → (x.level == e.level) ≡ true →
    stmt_code e none_taken (allocation n p x line)
    ≡ act_code line ++ allocating_code signature (place_of e x) (name_at_place e p)
allocation_coded e n p x members leaves line signature new pointer declared table own mine =
    let d = structure_declared members leaves in
    ap (λ op. by_pointer e line n p x (declared_variable e.program (based_of n)) op) pointer
    ∙ ap (λ on. by_pointer e line n p x on (Some pointer_declared)) declared
    ∙ ap (λ i. by_frames line i e p x (x.level == e.level) (p.level == e.level) (initial_datum d)) table
    ∙ ap (λ q. by_frames line signature e p x q (p.level == e.level) (initial_datum d)) mine
    ∙ ap (λ q. by_frames line signature e p x true q (initial_datum d)) own
    ∙ ap (λ o. by_frames line signature e p x true true o) new.none
