-- Assignments of numbers to FIXED BINARY(31) variables.
use Rattle.std.specs.Prelude.{ℕ, ◌+◌, ◌≤◌, List}
use Rattle.pli_typing.specs.TypedTree as Y
use Rattle.pli_meaning.specs.Control.{Label}
use Rattle.pli_meaning.specs.Raising.{at_line}
use Rattle.pli_coding.specs.Registers.{held_registers}
use Rattle.pli_coding.specs.Statements.{stmt_code}
use Rattle.run_steps.specs.Items.{Linked}
use Rattle.run_steps.specs.Reach.{cost}
use Rattle.program_runs.specs.Statements.{Block, DoesWith, HasAct, IsBegun, set_aside, size_with}
use Rattle.expression_runs.specs.Laws as L
use Rattle.expression_runs.specs.Values.{Setting}
use Rattle.expression_runs.specs.Variables.{IsNumber, Spot, whole}

-- around the expressions of a statement, with so many words set aside
abbrev pub setting_around : (words : ℕ) → Block → List Label → (line most : ℕ) → Setting
setting_around words k labels line most =
    record { block = k; labels = labels; around = at_line k.around line; most = most; words = words }

abbrev pub setting_of : Block → List Label → (line most : ℕ) → Setting
setting_of k labels line most = setting_around 0 k labels line most

abbrev pub assignment : Spot → Y.Number → (line : ℕ) → Y.Stmt
assignment x source line = Y.Assign (whole x) (Y.StoredNumber 31 source) line

-- where it stands, how many registers its expression needs, and that one act pays for it
pub record IsAssignmentWith (words : ℕ) (k : Block) (x : Spot) (source : Y.Number) (line index need most : ℕ) : Type 0
  where
    pub act : HasAct k line
    pub begun : IsBegun k
    pub number : IsNumber k x
    pub registers : need ≤ k.registers
    pub held : k.registers ≤ held_registers
    pub statement :
        Linked k.call.surroundings.links k.call.code index
        (stmt_code k.environment (set_aside words) (assignment x source line))
    pub paid : size_with words k (assignment x source line) + most ≤ cost k.call.code

abbrev pub IsAssignment : Block → Spot → Y.Number → (line index need most : ℕ) → Type 0
IsAssignment k x source line index need most = IsAssignmentWith 0 k x source line index need most

-- it does what it means if its expression does
abbrev pub AssignmentsDo : Type 0
AssignmentsDo =
    (words : ℕ) (k : Block) (labels : List Label) (x : Spot) (source : Y.Number) (line index left' need most : ℕ) →
    IsAssignmentWith words k x source line index need most →
    L.Does (setting_around words k labels line most) need source →
    DoesWith words k labels (assignment x source line) index left'
