-- On-units over numbers, as a class that is computed from typed trees.
use Rattle.std.specs.Prelude.{ℕ, suc, ◌&&◌, ◌==◌, Bool, true, false, List}
use Rattle.pli_typing.specs.TypedTree as Y
use Rattle.pli_meaning.specs.DeclaredShapes.{variables_of_block}
use Rattle.pli_coding.specs.Environments.{block_around}
use Rattle.pli_coding.specs.Statements.{unit_environment}
use Rattle.program_places.specs.Programs.{environment_for}
use Rattle.unit_runs.specs.Establishing.{OnUnit}
use Rattle.number_runs.specs.Numbers.{has_none}
use Rattle.number_runs.specs.Statements.{is_line}
use Rattle.unit_numbers.specs.Calls.{is_body_in}

-- a single statement, or a BEGIN block that declares nothing
abbrev pub is_bare : Y.Program → Y.BlockHead → Y.BlockKind → Bool
is_bare program head Y.SimpleUnit = true
is_bare program head Y.UnitBlock = has_none (variables_of_block program head.number)
is_bare program head _ = false

-- the block around it of the level of the procedure that establishes it is that
abbrev pub is_around : Y.Program → (main : Y.BlockHead) → Y.BlockHead → Bool
is_around program main head =
    block_around (unit_environment head (environment_for program main)) main.level == main.number

-- a unit of the main procedure, or of a procedure or function that is called, for whichever condition: it may name what
-- that names, and call these, and jump to labels of its list
abbrev pub is_unit : Y.Program → List ℕ → (main : Y.BlockHead) → (all : Y.Stmts) → OnUnit → Bool
is_unit program ns main all x =
    is_line x.line
    && (is_line x.head.line
    && ((x.head.level == suc main.level)
    && (is_around program main x.head
    && (is_bare program x.head x.head.kind && is_body_in program ns all main true false x.body))))
