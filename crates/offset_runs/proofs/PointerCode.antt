-- The code of an assignment of a pointer into an area to a POINTER variable of the running frame.
use Rattle.std.proofs.Common.{◌≡◌, ℕ, [], ◌∷◌, ◌++◌, Bool, Some, true, ap, ◌∙◌}
use Rattle.std.specs.Prelude.{cond, pos, ◌==◌}
use Rattle.rv_meaning.specs.declared.instr.Instr.TheVariants as I
use Rattle.rv_meaning.specs.declared.instr.Register.{Register}
use Rattle.pli_typing.specs.TypedTree as Y
use Rattle.pli_meaning.specs.DeclaredShapes.{declared_variable}
use Rattle.pli_coding.specs.Allocating.{act_code}
use Rattle.pli_coding.specs.Assembly.{Code, Plain}
use Rattle.pli_coding.specs.Environments.{Environment, none_taken}
use Rattle.pli_coding.specs.Expressions.{offset_code}
use Rattle.pli_coding.specs.Frames.{display, own_offset}
use Rattle.pli_coding.specs.Instructions.{load_word, plus, small}
use Rattle.pli_coding.specs.Locating.{own_place}
use Rattle.pli_coding.specs.Registers.{a1, a2, a3, a7, frame_register}
use Rattle.pli_coding.specs.Statements.{stmt_code}
use Rattle.pli_coding.specs.Storing.{name_assigned}
use Rattle.program_runs.proofs.Variables.{own_code, own_coded}
use Rattle.expression_runs.specs.Variables.{Spot, variable_of, whole}
use Rattle.variable_runs.specs.Known.{place_of}
use Rattle.area_runs.specs.Based.{pointer_declared}
use Rattle.area_runs.proofs.BasedCode.{name_at_place}
use Rattle.locator_runs.proofs.PointerCode.{own_placed}
use Rattle.offset_runs.specs.OffsetPointers.{pointing}

-- a place of a frame, by whether that is the running one
abbrev pub place_code : Register → (level : ℕ) → Bool → (place : ℕ) → Code
place_code r level q place =
    cond q [] (load_word r frame_register (display level))
    ++ (load_word r (cond q frame_register r) own_offset ++ plus r r (pos place))

-- service 14 writes the name of an offset in an area
abbrev pub given_code : (area place : ℕ) → Code
given_code area place = own_code a1 area ++ (own_code a2 place ++ (small a3 0 ∷ small a7 14 ∷ []))

abbrev pub into_code : (area place : ℕ) → Code
into_code area place =
    own_code a1 area ++ (own_code a2 place ++ (small a3 0 ∷ small a7 14 ∷ Plain I.Ecall ∷ []))

pub pointing_coded :
    (e : Environment) (x : Spot) (source : Y.Offset) (a : Spot) (line : ℕ) →
    declared_variable e.program (variable_of x) ≡ Some pointer_declared → (x.level == e.level) ≡ true →
    (a.level == e.level) ≡ true →
    stmt_code e none_taken (pointing x source a line)
    ≡ act_code line ++ (offset_code e none_taken source ++ into_code (place_of e a) (name_at_place e x))
pointing_coded e x source a line declared own mine =
    let asks = small a3 0 ∷ small a7 14 ∷ Plain I.Ecall ∷ [] in
    ap (λ o. act_code line
    ++ name_assigned e none_taken (whole x) (Y.PointerInto source (variable_of a)) o) (own_placed e x declared own)
    ∙ ap (λ q. act_code line
    ++ (offset_code e none_taken source
    ++ (place_code a1 a.level q (place_of e a) ++ (own_place e a2 (pos (name_at_place e x)) ++ asks)))) mine
    ∙ ap (λ u. act_code line
    ++ (offset_code e none_taken source ++ (own_code a1 (place_of e a) ++ (u ++ asks))))
    (own_coded e a2 (name_at_place e x))
