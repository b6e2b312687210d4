-- ALLOCATE of a BASED structure in an area, which sets a pointer variable. (X3.53-1976, chapter 7, allocation.)
use Rattle.std.specs.Prelude.{ℕ, suc, ◌≤◌, ◌≡◌, List, None}
use Rattle.pli_language.specs.declared.condition.Condition.TheVariants as C
use Rattle.pli_typing.specs.TypedTree as Y
use Rattle.pli_meaning.specs.Control.{Label}
use Rattle.pli_meaning.specs.StorageState.{force}
use Rattle.pli_coding.specs.Environments.{none_taken}
use Rattle.pli_coding.specs.StaticForms.{initial_datum}
use Rattle.pli_coding.specs.Statements.{stmt_code}
use Rattle.storage_relation.specs.Keeping.{AreSound}
use Rattle.activation_relation.specs.ServiceLaws.{IsSystem}
use Rattle.run_steps.specs.Items.{Linked}
use Rattle.program_runs.specs.Statements.{Block, Does, HasAct}
use Rattle.expression_runs.specs.Assignments.{setting_of}
use Rattle.expression_runs.specs.Variables.{Spot}
use Rattle.area_runs.specs.Allocations.{HasArea, allocation}
use Rattle.area_runs.specs.Based.{Ends}
use Rattle.member_runs.specs.Members.{IsStructure, structure_declared, structure_shape}

-- no leaf has INITIAL, and none is an area
pub record IsUninitialized (members : List Y.Member) (leaves : List Y.Leaf) : Type 0 where
  pub none : initial_datum (structure_declared members leaves) ≡ None
  pub sound : AreSound (structure_shape members leaves).signature.leaves

-- where it stands. Two words of the frame, in which nothing waits, hold what service 10 is given. No unit is in force
-- for AREA, so it ends the run where the area has no gap.
pub record IsAllocation (k : Block) (labels : List Label) (n p x : Spot) (members : List Y.Member) (leaves : List
    Y.Leaf)
    (line index most : ℕ) : Type 0
  where
    pub act : HasAct k line
    pub structure : IsStructure k p n members leaves
    pub new : IsUninitialized members leaves
    pub area : HasArea k x
    pub ends : Ends (setting_of k labels line most)
    pub full : IsSystem (force k.first.state.activations C.Area)
    pub words : 2 ≤ area.layer.words
    pub waits : (i : ℕ) → area.layer.waits i ≡ None
    pub turns : ℕ
    pub some : k.around.turns ≡ suc turns
    pub statement :
        Linked k.call.surroundings.links k.call.code index (stmt_code k.environment none_taken (allocation n p x line))

-- it does what it means
abbrev pub StructureAllocated : Type 0
StructureAllocated =
    (k : Block) (labels : List Label) (n p x : Spot) (members : List Y.Member) (leaves : List Y.Leaf)
    (line index left' most : ℕ) → IsAllocation k labels n p x members leaves line index most →
    Does k labels (allocation n p x line) index left'
