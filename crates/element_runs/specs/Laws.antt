-- The laws of elements of arrays, at the points of a block.
use Rattle.std.specs.Prelude.{ℕ, ◌+◌, ◌≤◌, List, max}
use Rattle.pli_typing.specs.Signatures.{Bounds}
use Rattle.pli_typing.specs.TypedTree as Y
use Rattle.pli_meaning.specs.Control.{Label}
use Rattle.pli_coding.specs.Registers.{held_registers}
use Rattle.pli_coding.specs.Statements.{stmt_code}
use Rattle.run_steps.specs.Items.{Linked}
use Rattle.run_steps.specs.Reach.{cost}
use Rattle.program_runs.specs.Statements.{Block, DoesWith, HasAct, IsBegun, set_aside, size_with}
use Rattle.expression_runs.specs.Assignments.{setting_around}
use Rattle.expression_runs.specs.Laws as L
use Rattle.expression_runs.specs.Values.{Setting}
use Rattle.expression_runs.specs.Variables.{Spot}
use Rattle.element_runs.specs.Arrays.{IsArray, element}
use Rattle.element_runs.specs.Subscripts.{IsSubscript, IsUncaught, SubscriptComes}

-- an element in an expression: its subscript is evaluated and waits in a register until it is tested
abbrev pub ElementsDo : Type 0
ElementsDo =
    (k : Setting) (x : Spot) (b : Bounds) (subscript : Y.Number) (need : ℕ) → IsBegun k.block →
    IsArray k.block x b → SubscriptComes k → IsSubscript k 0 need subscript →
    L.Does k need (Y.NumberIn (element x subscript))

-- without a unit in force a subscript outside its bounds ends the run
abbrev pub SubscriptsEnd : Type 0
SubscriptsEnd = (k : Setting) → IsUncaught k → SubscriptComes k

-- ---- assignments

abbrev pub element_assigned : Spot → (subscript source : Y.Number) → (line : ℕ) → Y.Stmt
element_assigned x subscript source line = Y.Assign (element x subscript) (Y.StoredNumber 31 source) line

-- where it stands while so many words are set aside, how many registers its expressions need, and that one act pays for
-- it
pub record IsElementAssignmentWith (words : ℕ) (k : Block) (x : Spot) (b : Bounds) (subscript source : Y.Number)
    (line index need most : ℕ) : Type 0
  where
    pub act : HasAct k line
    pub begun : IsBegun k
    pub array : IsArray k x b
    pub registers : need ≤ k.registers
    pub held : k.registers ≤ held_registers
    pub statement :
        Linked k.call.surroundings.links k.call.code index
        (stmt_code k.environment (set_aside words) (element_assigned x subscript source line))
    pub paid : size_with words k (element_assigned x subscript source line) + most ≤ cost k.call.code

abbrev pub IsElementAssignment :
    Block → Spot → Bounds → (subscript source : Y.Number) → (line index need most : ℕ) → Type 0
IsElementAssignment k x b subscript source line index need most =
    IsElementAssignmentWith 0 k x b subscript source line index need most

-- it does what it means if its expressions do: the value waits in a register while a subscript is evaluated
abbrev pub ElementAssignmentsDo : Type 0
ElementAssignmentsDo =
    (words : ℕ) (k : Block) (labels : List Label) (x : Spot) (b : Bounds) (subscript source : Y.Number)
    (line index left' first second most : ℕ) →
    IsElementAssignmentWith words k x b subscript source line index (max first second) most →
    SubscriptComes (setting_around words k labels line most) →
    L.Does (setting_around words k labels line most) first source →
    IsSubscript (setting_around words k labels line most) 1 second subscript →
    DoesWith words k labels (element_assigned x subscript source line) index left'
