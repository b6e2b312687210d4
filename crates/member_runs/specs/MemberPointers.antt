-- POINTER variables that are assigned what a member holds, and members that are assigned what a POINTER variable holds.
-- (X3.53-1976, chapter 7, assignment.)
use Rattle.std.specs.Prelude.{ℕ, ◌+◌, ◌≤◌, ◌≡◌, List, ◌∷◌, None}
use Rattle.pli_typing.specs.TypedTree as Y
use Rattle.pli_meaning.specs.Control.{Label}
use Rattle.pli_coding.specs.Environments.{none_taken}
use Rattle.pli_coding.specs.Statements.{stmt_code}
use Rattle.activation_relation.specs.Layers.{Layer}
use Rattle.run_steps.specs.Items.{Linked}
use Rattle.run_steps.specs.Reach.{cost}
use Rattle.program_runs.specs.Statements.{Block, Does, HasAct, size_in}
use Rattle.expression_runs.specs.Assignments.{setting_of}
use Rattle.expression_runs.specs.Variables.{Spot, whole}
use Rattle.area_runs.specs.Based.{Ends}
use Rattle.locator_runs.specs.Pointers.{IsPointer}
use Rattle.member_runs.specs.Members.{IsMember, IsStructure, member_of}

-- ---- a variable that follows a member

abbrev pub following : (target pointer based : Spot) → (member line : ℕ) → Y.Stmt
following x p n member line = Y.Assign (whole x) (Y.StoredPointer (Y.PointerIn (member_of p n member))) line

-- where it stands, and that one act pays for it; where what is pointed to doesn't live ERROR ends the run
pub record IsFollowing (k : Block) (labels : List Label) (x p n : Spot) (members : List Y.Member) (leaves : List Y.Leaf)
    (member line index most : ℕ) : Type 0
  where
    pub act : HasAct k line
    pub target : IsPointer k x
    pub structure : IsStructure k p n members leaves
    pub own : IsMember leaves member Y.PointerLeaf
    pub ends : Ends (setting_of k labels line most)
    pub statement :
        Linked k.call.surroundings.links k.call.code index
        (stmt_code k.environment none_taken (following x p n member line))
    pub paid : size_in k (following x p n member line) + most ≤ cost k.call.code

-- it does what it means, also where the variable is the pointer
abbrev pub MemberFollowed : Type 0
MemberFollowed =
    (k : Block) (labels : List Label) (x p n : Spot) (members : List Y.Member) (leaves : List Y.Leaf)
    (member line index left' most : ℕ) → IsFollowing k labels x p n members leaves member line index most →
    Does k labels (following x p n member line) index left'

-- ---- a member that is linked to what a variable points to

abbrev pub linking : (pointer based : Spot) → (member : ℕ) → (source : Spot) → (line : ℕ) → Y.Stmt
linking p n member y line = Y.Assign (member_of p n member) (Y.StoredPointer (Y.PointerIn (whole y))) line

-- where it stands, and that one act pays for it. The name waits in four words of the frame, in which nothing else does,
-- while the member is found; where what is pointed to doesn't live ERROR ends the run.
pub record IsLinking (k : Block) (labels : List Label) (p n y : Spot) (members : List Y.Member) (leaves : List Y.Leaf)
    (member line index most : ℕ) : Type 0
  where
    pub act : HasAct k line
    pub structure : IsStructure k p n members leaves
    pub own : IsMember leaves member Y.PointerLeaf
    pub source : IsPointer k y
    pub ends : Ends (setting_of k labels line most)
    pub layer : Layer
    pub others : List Layer
    pub layers : k.first.control.layers ≡ layer ∷ others
    pub words : 4 ≤ layer.words
    pub waits : (i : ℕ) → layer.waits i ≡ None
    pub statement :
        Linked k.call.surroundings.links k.call.code index
        (stmt_code k.environment none_taken (linking p n member y line))
    pub paid : size_in k (linking p n member y line) + most ≤ cost k.call.code

-- it does what it means, also where both variables are one
abbrev pub MemberLinked : Type 0
MemberLinked =
    (k : Block) (labels : List Label) (p n y : Spot) (members : List Y.Member) (leaves : List Y.Leaf)
    (member line index left' most : ℕ) → IsLinking k labels p n y members leaves member line index most →
    Does k labels (linking p n member y line) index left'
