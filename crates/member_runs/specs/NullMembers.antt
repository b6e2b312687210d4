-- Members that are assigned NULL. (X3.53-1976, chapter 7, assignment.)
use Rattle.std.specs.Prelude.{ℕ, ◌+◌, ◌≤◌, ◌≡◌, List, ◌∷◌, None}
use Rattle.pli_typing.specs.TypedTree as Y
use Rattle.pli_meaning.specs.Control.{Label}
use Rattle.pli_coding.specs.Environments.{none_taken}
use Rattle.pli_coding.specs.Statements.{stmt_code}
use Rattle.activation_relation.specs.Layers.{Layer}
use Rattle.run_steps.specs.Items.{Linked}
use Rattle.run_steps.specs.Reach.{cost}
use Rattle.program_runs.specs.Statements.{Block, Does, HasAct, size_in}
use Rattle.expression_runs.specs.Assignments.{setting_of}
use Rattle.expression_runs.specs.Variables.{Spot}
use Rattle.area_runs.specs.Based.{Ends}
use Rattle.member_runs.specs.Members.{IsMember, IsStructure, member_of}

abbrev pub nulling : (pointer based : Spot) → (member line : ℕ) → Y.Stmt
nulling p n member line = Y.Assign (member_of p n member) (Y.StoredPointer Y.NullPointer) line

-- where it stands, and that one act pays for it. NULL waits in four words of the frame, in which nothing else does,
-- while the member is found; where what is pointed to doesn't live ERROR ends the run.
pub record IsNulling (k : Block) (labels : List Label) (p n : Spot) (members : List Y.Member) (leaves : List Y.Leaf)
    (member line index most : ℕ) : Type 0
  where
    pub act : HasAct k line
    pub structure : IsStructure k p n members leaves
    pub own : IsMember leaves member Y.PointerLeaf
    pub ends : Ends (setting_of k labels line most)
    pub layer : Layer
    pub others : List Layer
    pub layers : k.first.control.layers ≡ layer ∷ others
    pub words : 4 ≤ layer.words
    pub waits : (i : ℕ) → layer.waits i ≡ None
    pub statement :
        Linked k.call.surroundings.links k.call.code index
        (stmt_code k.environment none_taken (nulling p n member line))
    pub paid : size_in k (nulling p n member line) + most ≤ cost k.call.code

-- it does what it means
abbrev pub MemberNulled : Type 0
MemberNulled =
    (k : Block) (labels : List Label) (p n : Spot) (members : List Y.Member) (leaves : List Y.Leaf)
    (member line index left' most : ℕ) → IsNulling k labels p n members leaves member line index most →
    Does k labels (nulling p n member line) index left'
