-- Programs of numbers with ON, as a class that is computed from typed trees.
use Rattle.std.specs.Prelude.{ℕ, ◌&&◌, ◌||◌, ◌==◌, Bool, true, false, List, [], ◌∷◌, ◌++◌, nat_le, not}
use Rattle.pli_typing.specs.TypedTree as Y
use Rattle.pli_meaning.specs.DeclaredShapes.{head_of}
use Rattle.pli_meaning.specs.Executing.{labels_in}
use Rattle.pli_coding.specs.Registers.{held_registers}
use Rattle.unit_runs.specs.Establishing.{OnUnit}
use Rattle.number_runs.specs.Numbers.{has_none}
use Rattle.number_runs.specs.Statements.{statements_need, statements_set}
use Rattle.number_headlines.specs.Programs.{are_all_plain, body_of, has_result, most_waiting}
use Rattle.unit_numbers.specs.Called.{are_called, called_ones, called_units}
use Rattle.unit_numbers.specs.Calls.{all_units_in}
use Rattle.unit_numbers.specs.Steps.{are_steps}

-- ---- the code of a unit is found by its tree, so no two of a program may be alike: they differ in number or line

abbrev pub is_alike : (head : Y.BlockHead) → OnUnit → Bool
is_alike head x = (head.number == x.head.number) && (head.line == x.head.line)

abbrev pub has_alike : (head : Y.BlockHead) → List OnUnit → Bool
has_alike head [] = false
has_alike head (x ∷ xs) = is_alike head x || has_alike head xs

abbrev pub are_apart : List OnUnit → Bool
are_apart [] = true
are_apart (x ∷ xs) = not (has_alike x.head xs) && are_apart xs

-- ---- programs

-- a list that calls these, which call one another
abbrev pub is_unit_body : Y.Program → List ℕ → (main : Y.BlockHead) → Y.Stmts → Bool
is_unit_body program ns main body =
    are_steps program ns main body false (labels_in body ++ []) body
    && (are_apart (all_units_in body ++ called_units program ns)
    && (nat_le (statements_need body) held_registers
    && (nat_le (statements_set body) most_waiting && are_called program ns ns)))

abbrev pub is_unit_list : Y.Program → (main : Y.BlockHead) → Y.Stmts → Bool
is_unit_list program main body = is_unit_body program (called_ones program) main body

abbrev pub is_unit_main : Y.Program → Y.Procedure → Bool
is_unit_main program p =
    has_none p.parameters
    && (has_result false p.result && is_unit_list program (head_of p.block) (body_of p.block))

-- the first one is the main procedure; what it doesn't call may be any
abbrev pub has_unit_main : Y.Program → List Y.Procedure → Bool
has_unit_main program [] = false
has_unit_main program (p ∷ ps) = is_unit_main program p

abbrev pub is_unit_program : Y.Program → Bool
is_unit_program program = are_all_plain program.variables && has_unit_main program program.procedures
