-- FREE of what a pointer variable of a block points to. (X3.53-1976, chapter 7, FREE.)
use Rattle.std.specs.Prelude.{ℕ, ◌+◌, List, [], ◌∷◌, None}
use Rattle.pli_typing.specs.TypedTree as Y
use Rattle.pli_meaning.specs.Control.{Label}
use Rattle.pli_coding.specs.Environments.{none_taken}
use Rattle.pli_coding.specs.Statements.{stmt_code}
use Rattle.run_steps.specs.Items.{Linked}
use Rattle.program_runs.specs.Statements.{Block, Does, HasAct}
use Rattle.expression_runs.specs.Assignments.{setting_of}
use Rattle.expression_runs.specs.Variables.{Spot, whole}
use Rattle.area_runs.specs.Based.{Ends, IsBased, based_of}

-- in whichever area it lives, or in the heap
abbrev pub freed_by : (pointer based : Spot) → Y.Freeing
freed_by p n = Y.FreeBased (based_of n) (Y.PointerIn (whole p)) None

abbrev pub freeing : (pointer based : Spot) → (line : ℕ) → Y.Stmt
freeing p n line = Y.Free (freed_by p n ∷ []) line

-- where it stands. No unit is in force for ERROR, which ends the run where the pointer points to nothing that lives, or
-- to a variable.
pub record IsFreeing (k : Block) (labels : List Label) (p n : Spot) (line index most : ℕ) : Type 0 where
  pub act : HasAct k line
  pub based : IsBased k p n
  pub ends : Ends (setting_of k labels line most)
  pub statement :
      Linked k.call.surroundings.links k.call.code index (stmt_code k.environment none_taken (freeing p n line))

-- it does what it means: what was pointed to lives no longer, and all else does
abbrev pub BasedFreed : Type 0
BasedFreed =
    (k : Block) (labels : List Label) (p n : Spot) (line index left' most : ℕ) →
    IsFreeing k labels p n line index most → Does k labels (freeing p n line) index left'
