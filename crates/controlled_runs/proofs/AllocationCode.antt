-- The code of ALLOCATE of a CONTROLLED number.
use Rattle.std.proofs.Common.{◌≡◌, ℕ, ◌+◌, [], ◌∷◌, ◌++◌, Option, Some, ap, refl, ◌∙◌}
use Rattle.std.specs.Prelude.{negsuc, unwrap_or}
use Rattle.rv_meaning.specs.declared.instr.Instr.TheVariants as I
use Rattle.pli_typing.specs.TypedTree as Y
use Rattle.pli_meaning.specs.DeclaredShapes.{declared_variable}
use Rattle.pli_coding.specs.Allocating.{act_code, allocated_number, amounts_found, both_kept}
use Rattle.pli_coding.specs.Assembly.{Code, Plain}
use Rattle.pli_coding.specs.Environments.{Environment, no_declaration, none_taken}
use Rattle.pli_coding.specs.Extents.{initial_code}
use Rattle.pli_coding.specs.Instructions.{load_word, number, small, status_tested, tested_service}
use Rattle.pli_coding.specs.Locating.{controlled_number, table_number}
use Rattle.pli_coding.specs.Registers.{a0, a1, a2, a7, frame_register}
use Rattle.pli_coding.specs.Statements.{stmt_code}
use Rattle.expression_runs.specs.Variables.{Spot}
use Rattle.area_runs.proofs.AllocationCode.{amounts_code}
use Rattle.controlled_runs.specs.Allocations.{allocation, controlled_declared}
use Rattle.controlled_runs.specs.Lists.{controlled_of}

abbrev pub loaded_code : Code
loaded_code = load_word a1 frame_register (negsuc 3)

-- what service 16 is given behind the two words, its call, and the test of its status
abbrev pub pushing_code : (n : ℕ) → Code
pushing_code n =
    number a0 n ++ (loaded_code ++ (small a2 0 ∷ small a7 16 ∷ Plain I.Ecall ∷ status_tested))

abbrev pub allocated_code : (signature n : ℕ) → Code
allocated_code signature n = amounts_code signature ++ pushing_code n

abbrev declared_in : Option Y.DeclaredVariable → Y.DeclaredVariable
declared_in o = unwrap_or o no_declaration

abbrev by_declared : Environment → (line : ℕ) → Spot → Option Y.DeclaredVariable → Code
by_declared e line x o =
    (amounts_found e none_taken line (controlled_of x) (declared_in o) (declared_in o).evaluations ++ both_kept
    none_taken)
    ++ (number a0 (controlled_number e (controlled_of x))
    ++ (load_word a1 frame_register (allocated_number none_taken)
    ++ (initial_code a2 (declared_in o) ++ tested_service 16)))

pub append_nil : (xs : Code) → xs ++ [] ≡ xs
append_nil [] = refl
append_nil (x ∷ xs) = ap (λ u. x ∷ u) (append_nil xs)

pub allocation_coded :
    (e : Environment) (x : Spot) (line signature : ℕ) →
    declared_variable e.program (controlled_of x) ≡ Some controlled_declared →
    table_number e controlled_declared ≡ signature →
    stmt_code e none_taken (allocation x line)
    ≡ act_code line ++ allocated_code signature (controlled_number e (controlled_of x))
allocation_coded e x line signature declared table =
    ap (λ o. act_code line ++ (by_declared e line x o ++ [])) declared
    ∙ ap (λ i. act_code line
    ++ ((amounts_code i ++ pushing_code (controlled_number e (controlled_of x))) ++ [])) table
    ∙ ap (λ u. act_code line ++ u) (append_nil _)
