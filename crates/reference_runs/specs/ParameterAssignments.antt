-- Assignments of numbers to FIXED BINARY(31) parameters: what the parameter stands for has the value then.
use Rattle.std.specs.Prelude.{ℕ, ◌+◌, ◌≤◌, List}
use Rattle.pli_typing.specs.TypedTree as Y
use Rattle.pli_meaning.specs.Control.{Label}
use Rattle.pli_coding.specs.Registers.{held_registers}
use Rattle.pli_coding.specs.Statements.{stmt_code}
use Rattle.run_steps.specs.Items.{Linked}
use Rattle.run_steps.specs.Reach.{cost}
use Rattle.program_runs.specs.Statements.{Block, DoesWith, HasAct, set_aside, size_with}
use Rattle.expression_runs.specs.Assignments.{setting_around}
use Rattle.expression_runs.specs.Laws as L
use Rattle.expression_runs.specs.Variables.{Spot}
use Rattle.argument_runs.specs.Parameters.{IsParameter, parameter}

abbrev pub assignment : Spot → Y.Number → (line : ℕ) → Y.Stmt
assignment n source line = Y.Assign (parameter n) (Y.StoredNumber 31 source) line

-- where it stands, how many registers its expression needs, and that one act pays for it; the value waits in a register
-- while the parameter is found
pub record IsAssignmentWith (words : ℕ) (k : Block) (n : Spot) (source : Y.Number) (line index need most : ℕ) : Type 0
  where
    pub act : HasAct k line
    pub number : IsParameter k n
    pub registers : need ≤ k.registers
    pub some : 1 ≤ k.registers
    pub held : k.registers ≤ held_registers
    pub statement :
        Linked k.call.surroundings.links k.call.code index
        (stmt_code k.environment (set_aside words) (assignment n source line))
    pub paid : size_with words k (assignment n source line) + most ≤ cost k.call.code

abbrev pub IsAssignment : Block → Spot → Y.Number → (line index need most : ℕ) → Type 0
IsAssignment k n source line index need most = IsAssignmentWith 0 k n source line index need most

-- it does what it means if its expression does, whatever words are set aside
abbrev pub ParametersAssigned : Type 0
ParametersAssigned =
    (words : ℕ) (k : Block) (labels : List Label) (n : Spot) (source : Y.Number) (line index left' need most : ℕ) →
    IsAssignmentWith words k n source line index need most →
    L.Does (setting_around words k labels line most) need source →
    DoesWith words k labels (assignment n source line) index left'
