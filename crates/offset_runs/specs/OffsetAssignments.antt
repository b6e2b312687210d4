-- Assignments of offsets, to OFFSET variables and to OFFSET members of what a pointer variable points to. (X3.53-1976,
-- chapter 7, assignment.)
use Rattle.std.specs.Prelude.{ℕ, ◌+◌, ◌≤◌, List, Option}
use Rattle.pli_typing.specs.TypedTree as Y
use Rattle.pli_meaning.specs.Control.{Label}
use Rattle.pli_coding.specs.Environments.{none_taken}
use Rattle.pli_coding.specs.Registers.{held_registers}
use Rattle.pli_coding.specs.Statements.{stmt_code}
use Rattle.run_steps.specs.Items.{Linked}
use Rattle.run_steps.specs.Reach.{cost}
use Rattle.program_runs.specs.Statements.{Block, Does, DoesWith, HasAct, size_in}
use Rattle.expression_runs.specs.Assignments.{setting_around, setting_of}
use Rattle.expression_runs.specs.Variables.{Spot, whole}
use Rattle.area_runs.specs.Based.{Ends}
use Rattle.scalar_runs.specs.Assignments.{IsPlacedWith}
use Rattle.member_runs.specs.Members.{IsMember, IsStructure, member_of}
use Rattle.offset_runs.specs.Offsets.{Gives, IsOffsetVariable}

abbrev pub assignment : Spot → Y.Offset → (line : ℕ) → Y.Stmt
assignment x source line = Y.Assign (whole x) (Y.StoredOffset source) line

-- it does what it means if its value does
abbrev pub OffsetAssigned : Type 0
OffsetAssigned =
    (words : ℕ) (k : Block) (labels : List Label) (x : Spot) (area : Option Y.Variable) (source : Y.Offset)
    (line index left' need most : ℕ) → IsPlacedWith words k (assignment x source line) line index need most →
    IsOffsetVariable k x area → Gives (setting_around words k labels line most) need source →
    DoesWith words k labels (assignment x source line) index left'

-- ---- members

abbrev pub keeping : (pointer based : Spot) → (member : ℕ) → Y.Offset → (line : ℕ) → Y.Stmt
keeping p n member source line = Y.Assign (member_of p n member) (Y.StoredOffset source) line

-- where it stands, how many registers its value needs, and that one act pays for it; the value waits in a register
-- while the member is found, and where what is pointed to doesn't live ERROR ends the run
pub record IsKeeping (k : Block) (labels : List Label) (p n : Spot) (members : List Y.Member) (leaves : List Y.Leaf)
    (member : ℕ) (area : Option Y.Variable) (source : Y.Offset) (line index need most : ℕ) : Type 0
  where
    pub act : HasAct k line
    pub structure : IsStructure k p n members leaves
    pub own : IsMember leaves member (Y.OffsetLeaf area)
    pub ends : Ends (setting_of k labels line most)
    pub registers : need ≤ k.registers
    pub some : 1 ≤ k.registers
    pub held : k.registers ≤ held_registers
    pub statement :
        Linked k.call.surroundings.links k.call.code index
        (stmt_code k.environment none_taken (keeping p n member source line))
    pub paid : size_in k (keeping p n member source line) + most ≤ cost k.call.code

abbrev pub OffsetKept : Type 0
OffsetKept =
    (k : Block) (labels : List Label) (p n : Spot) (members : List Y.Member) (leaves : List Y.Leaf) (member : ℕ)
    (area : Option Y.Variable) (source : Y.Offset) (line index left' need most : ℕ) →
    IsKeeping k labels p n members leaves member area source line index need most →
    Gives (setting_of k labels line most) need source → Does k labels (keeping p n member source line) index left'
