-- EMPTY of an area variable of a block. (X3.53-1976, chapter 7, EMPTY.)
use Rattle.std.specs.Prelude.{ℕ, ◌+◌, List}
use Rattle.pli_typing.specs.TypedTree as Y
use Rattle.pli_meaning.specs.Control.{Label}
use Rattle.pli_coding.specs.Environments.{none_taken}
use Rattle.pli_coding.specs.Statements.{stmt_code}
use Rattle.run_steps.specs.Items.{Linked}
use Rattle.program_runs.specs.Statements.{Block, Does, HasAct}
use Rattle.expression_runs.specs.Variables.{Spot, variable_of}
use Rattle.area_runs.specs.Allocations.{HasArea}

abbrev pub emptying : Spot → (line : ℕ) → Y.Stmt
emptying x line = Y.EmptyArea (variable_of x) line

-- where it stands
pub record IsEmptying (k : Block) (x : Spot) (line index : ℕ) : Type 0 where
  pub act : HasAct k line
  pub area : HasArea k x
  pub statement :
      Linked k.call.surroundings.links k.call.code index (stmt_code k.environment none_taken (emptying x line))

-- it does what it means: nothing lives in the area behind it
abbrev pub AreasEmptied : Type 0
AreasEmptied =
    (k : Block) (labels : List Label) (x : Spot) (line index left' : ℕ) → IsEmptying k x line index →
    Does k labels (emptying x line) index left'
