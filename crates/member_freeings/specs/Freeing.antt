-- FREE of a structure that a pointer variable of a block points to. (X3.53-1976, chapter 7, FREE.)
use Rattle.std.specs.Prelude.{ℕ, List}
use Rattle.pli_typing.specs.TypedTree as Y
use Rattle.pli_meaning.specs.Control.{Label}
use Rattle.pli_coding.specs.Environments.{none_taken}
use Rattle.pli_coding.specs.Statements.{stmt_code}
use Rattle.run_steps.specs.Items.{Linked}
use Rattle.program_runs.specs.Statements.{Block, Does, HasAct}
use Rattle.expression_runs.specs.Assignments.{setting_of}
use Rattle.expression_runs.specs.Variables.{Spot}
use Rattle.area_runs.specs.Based.{Ends}
use Rattle.area_freeings.specs.Freeing.{freeing}
use Rattle.member_runs.specs.Members.{IsStructure}

-- where it stands. No unit is in force for ERROR, which ends the run where the pointer points to nothing that lives, or
-- to a variable.
pub record IsFreeing (k : Block) (labels : List Label) (p n : Spot) (members : List Y.Member) (leaves : List Y.Leaf)
    (line index most : ℕ) : Type 0
  where
    pub act : HasAct k line
    pub structure : IsStructure k p n members leaves
    pub ends : Ends (setting_of k labels line most)
    pub statement :
        Linked k.call.surroundings.links k.call.code index (stmt_code k.environment none_taken (freeing p n line))

-- it does what it means: what was pointed to lives no longer, and all else does
abbrev pub StructureFreed : Type 0
StructureFreed =
    (k : Block) (labels : List Label) (p n : Spot) (members : List Y.Member) (leaves : List Y.Leaf)
    (line index left' most : ℕ) → IsFreeing k labels p n members leaves line index most →
    Does k labels (freeing p n line) index left'
