-- FREE of a CONTROLLED variable. (X3.53-1976, chapter 7, FREE.)
use Rattle.std.specs.Prelude.{ℕ, List, [], ◌∷◌, Option}
use Rattle.pli_typing.specs.TypedTree as Y
use Rattle.pli_meaning.specs.Control.{Label}
use Rattle.pli_coding.specs.Environments.{none_taken}
use Rattle.pli_coding.specs.Statements.{stmt_code}
use Rattle.storage_relation.specs.Controlled.{Variable}
use Rattle.run_steps.specs.Items.{Linked}
use Rattle.program_runs.specs.Statements.{Block, HasAct}
use Rattle.expression_runs.specs.Variables.{Spot}
use Rattle.controlled_runs.specs.Lists.{DoesListed, IsListed, controlled_of}

abbrev pub freeing : Spot → (line : ℕ) → Y.Stmt
freeing x line = Y.Free (Y.FreeControlled (controlled_of x) ∷ []) line

-- where it stands
pub record IsFreeing (of : ℕ → Option Variable) (k : Block) (x : Spot) (line index : ℕ) : Type 0 where
  pub act : HasAct k line
  pub variable : IsListed of k x
  pub statement :
      Linked k.call.surroundings.links k.call.code index (stmt_code k.environment none_taken (freeing x line))

-- it does what it means: the newest generation is no more, if there is one
abbrev pub ControlledFreed : Type 0
ControlledFreed =
    (of : ℕ → Option Variable) (k : Block) (labels : List Label) (x : Spot) (line index left' : ℕ) →
    IsFreeing of k x line index → DoesListed of k labels (freeing x line) index left'
