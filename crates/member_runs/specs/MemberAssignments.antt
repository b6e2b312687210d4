-- Assignments of numbers to members of what a pointer variable points to. (X3.53-1976, chapter 7, assignment.)
use Rattle.std.specs.Prelude.{ℕ, ◌+◌, ◌≤◌, List}
use Rattle.pli_typing.specs.TypedTree as Y
use Rattle.pli_meaning.specs.Control.{Label}
use Rattle.pli_coding.specs.Environments.{none_taken}
use Rattle.pli_coding.specs.Registers.{held_registers}
use Rattle.pli_coding.specs.Statements.{stmt_code}
use Rattle.run_steps.specs.Items.{Linked}
use Rattle.run_steps.specs.Reach.{cost}
use Rattle.program_runs.specs.Statements.{Block, Does, HasAct, size_in}
use Rattle.expression_runs.specs.Assignments.{setting_of}
use Rattle.expression_runs.specs.Laws as L
use Rattle.expression_runs.specs.Variables.{Spot}
use Rattle.area_runs.specs.Based.{Ends}
use Rattle.member_runs.specs.Members.{IsMember, IsStructure, member_of}

abbrev pub assignment : (pointer based : Spot) → (member : ℕ) → Y.Number → (line : ℕ) → Y.Stmt
assignment p n member source line = Y.Assign (member_of p n member) (Y.StoredNumber 31 source) line

-- where it stands, how many registers its expression needs, and that one act pays for it; the value waits in a register
-- while the member is found, and where what is pointed to doesn't live ERROR ends the run
pub record IsAssignment (k : Block) (labels : List Label) (p n : Spot) (members : List Y.Member) (leaves : List Y.Leaf)
    (member : ℕ) (source : Y.Number) (line index need most : ℕ) : Type 0
  where
    pub act : HasAct k line
    pub structure : IsStructure k p n members leaves
    pub own : IsMember leaves member (Y.FixedLeaf 31)
    pub ends : Ends (setting_of k labels line most)
    pub registers : need ≤ k.registers
    pub some : 1 ≤ k.registers
    pub held : k.registers ≤ held_registers
    pub statement :
        Linked k.call.surroundings.links k.call.code index
        (stmt_code k.environment none_taken (assignment p n member source line))
    pub paid : size_in k (assignment p n member source line) + most ≤ cost k.call.code

-- it does what it means if its expression does
abbrev pub MemberAssigned : Type 0
MemberAssigned =
    (k : Block) (labels : List Label) (p n : Spot) (members : List Y.Member) (leaves : List Y.Leaf) (member : ℕ)
    (source : Y.Number) (line index left' need most : ℕ) →
    IsAssignment k labels p n members leaves member source line index need most →
    L.Does (setting_of k labels line most) need source → Does k labels (assignment p n member source line) index left'
