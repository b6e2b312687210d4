-- An area variable of a block assigned to another. (X3.53-1976, chapter 7, area assignment.)
use Rattle.std.specs.Prelude.{ℕ, ◌+◌, List}
use Rattle.pli_language.specs.declared.condition.Condition.TheVariants as C
use Rattle.pli_typing.specs.TypedTree as Y
use Rattle.pli_meaning.specs.Control.{Label}
use Rattle.pli_meaning.specs.StorageState.{force}
use Rattle.pli_coding.specs.Environments.{none_taken}
use Rattle.pli_coding.specs.Statements.{stmt_code}
use Rattle.activation_relation.specs.ServiceLaws.{IsSystem}
use Rattle.run_steps.specs.Items.{Linked}
use Rattle.program_runs.specs.Statements.{Block, Does, HasAct}
use Rattle.expression_runs.specs.Assignments.{setting_of}
use Rattle.expression_runs.specs.Variables.{Spot, variable_of}
use Rattle.area_runs.specs.Allocations.{HasArea}
use Rattle.area_runs.specs.Based.{Ends}

abbrev pub copying : (target source : Spot) → (line : ℕ) → Y.Stmt
copying x y line = Y.AssignArea (variable_of x) (variable_of y) line

-- where it stands. No unit is in force for AREA, so it ends the run where the target is too small, and stays as it was.
pub record IsCopying (k : Block) (labels : List Label) (x y : Spot) (line index most : ℕ) : Type 0 where
  pub act : HasAct k line
  pub target : HasArea k x
  pub source : HasArea k y
  pub ends : Ends (setting_of k labels line most)
  pub full : IsSystem (force k.first.state.activations C.Area)
  pub statement :
      Linked k.call.surroundings.links k.call.code index (stmt_code k.environment none_taken (copying x y line))

-- it does what it means: all that lives in the source lives in the target too, at the same offsets, and nothing else
abbrev pub AreasCopied : Type 0
AreasCopied =
    (k : Block) (labels : List Label) (x y : Spot) (line index left' most : ℕ) →
    IsCopying k labels x y line index most → Does k labels (copying x y line) index left'
