-- The code of FREE of a structure by way of a pointer variable of the running frame.
use Rattle.std.proofs.Common.{◌≡◌, ℕ, ◌+◌, [], ◌∷◌, ◌++◌, Bool, Option, Some, None, true, refl, ap, ◌∙◌}
use Rattle.std.specs.Prelude.{cond, pos, ◌==◌, unwrap_or, if◌then◌else◌}
use Rattle.rv_meaning.specs.declared.instr.Instr.TheVariants as I
use Rattle.pli_typing.specs.TypedTree as Y
use Rattle.pli_meaning.specs.DeclaredShapes.{declared_variable}
use Rattle.pli_coding.specs.Allocating.{act_code, generation_freed}
use Rattle.pli_coding.specs.Assembly.{Code, Plain}
use Rattle.pli_coding.specs.Environments.{Environment, no_declaration, none_taken}
use Rattle.pli_coding.specs.Expressions.{pointer_code}
use Rattle.pli_coding.specs.Frames.{display, has_constant_size, own_offset}
use Rattle.pli_coding.specs.Instructions.{load_word, number, plus, small, status_tested, tested_service}
use Rattle.pli_coding.specs.Locating.{FrameName, based_number, leaf_place, number_loaded, table_number, waiting_name}
use Rattle.pli_coding.specs.Locating.{where_standing}
use Rattle.pli_coding.specs.Registers.{a0, a1, a2, a7, frame_register}
use Rattle.pli_coding.specs.Statements.{stmt_code}
use Rattle.program_runs.proofs.Variables.{own_code}
use Rattle.expression_runs.specs.Variables.{Spot, variable_of, whole}
use Rattle.variable_runs.specs.Known.{place_of}
use Rattle.area_runs.proofs.BasedCode.{name_at_place}
use Rattle.area_freeings.specs.Freeing.{freeing}
use Rattle.std.proofs.Common.{List}
use Rattle.area_runs.specs.Based.{based_of, pointer_declared}
use Rattle.member_runs.specs.Members.{structure_declared}

-- what service 11 is given
abbrev pub given_code : (place signature : ℕ) → Code
given_code place signature = own_code a0 place ++ (number a1 signature ++ (small a2 0 ∷ small a7 11 ∷ []))

abbrev pub freed_code : (place signature : ℕ) → Code
freed_code place signature =
    own_code a0 place ++ (number a1 signature ++ (small a2 0 ∷ small a7 11 ∷ Plain I.Ecall ∷ status_tested))

abbrev declared_in : Option Y.DeclaredVariable → Y.DeclaredVariable
declared_in o = unwrap_or o no_declaration

abbrev by_pointer : Environment → (p n : Spot) → Option Y.DeclaredVariable → Code
by_pointer e p n o =
    where_standing (if has_constant_size (declared_in o)
    then Some (FrameName p.level (pos (place_of e p + 16 + leaf_place (declared_in o) 0))) else None)
    (λ name. generation_freed e none_taken name (based_of n) None)
    (pointer_code e none_taken (Y.PointerIn (whole p))
    ++ generation_freed e none_taken (FrameName e.level (waiting_name none_taken)) (based_of n) None)

abbrev by_based : Environment → (p n : Spot) → Option Y.DeclaredVariable → Bool → Code
by_based e p n o q =
    (cond q [] (load_word a0 frame_register (display p.level))
    ++ (load_word a0 (cond q frame_register a0) own_offset ++ plus a0 a0 (pos (name_at_place e p))))
    ++ (number_loaded e a1 (based_number e (based_of n) (declared_in o)) ++ (small a2 0 ∷ tested_service 11))

append_nil : (xs : Code) → xs ++ [] ≡ xs
append_nil [] = refl
append_nil (x ∷ xs) = ap (λ u. x ∷ u) (append_nil xs)

pub freeing_coded :
    (e : Environment) (p n : Spot) (members : List Y.Member) (leaves : List Y.Leaf) (line signature : ℕ) →
    declared_variable e.program (variable_of p) ≡ Some pointer_declared →
    declared_variable e.program (based_of n) ≡ Some (structure_declared members leaves) →
    table_number e (structure_declared members leaves) ≡ signature →
    (p.level == e.level) ≡ true →
    stmt_code e none_taken (freeing p n line) ≡ act_code line ++ freed_code (name_at_place e p) signature
freeing_coded e p n members leaves line signature pointer declared table own =
    ap (λ o. act_code line ++ (by_pointer e p n o ++ [])) pointer
    ∙ ap (λ o. act_code line ++ (by_based e p n o (p.level == e.level) ++ [])) declared
    ∙ ap (λ q. act_code line ++ (by_based e p n (Some (structure_declared members leaves)) q ++ [])) own
    ∙ ap (λ i. act_code line
    ++ ((own_code a0 (name_at_place e p) ++ (number a1 i ++ (small a2 0 ∷ tested_service 11))) ++ [])) table
    ∙ ap (λ u. act_code line ++ u) (append_nil (freed_code (name_at_place e p) signature))
