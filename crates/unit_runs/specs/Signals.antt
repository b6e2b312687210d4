-- SIGNAL of a condition other than ERROR, while a unit is in force. (X3.53-1976, chapter 6, SIGNAL.)
use Rattle.std.specs.Prelude.{ℕ, ◌+◌, ◌≤◌, List, ⊤}
use Rattle.pli_language.specs.declared.condition.Condition.{Condition}
use Rattle.pli_language.specs.declared.condition.Condition.TheVariants as C
use Rattle.pli_typing.specs.TypedTree as Y
use Rattle.pli_meaning.specs.Control.{Label}
use Rattle.pli_coding.specs.Environments.{none_taken}
use Rattle.pli_coding.specs.Statements.{stmt_code}
use Rattle.run_steps.specs.Items.{Linked}
use Rattle.run_steps.specs.Reach.{cost}
use Rattle.program_runs.specs.Statements.{Block, Does, HasAct, size_in}
use Rattle.expression_runs.specs.Assignments.{setting_of}
use Rattle.unit_runs.specs.Raised.{IsRaised, Standing, UnitDoes}

-- behind the unit of ERROR the run ends
abbrev pub IsResumed : Condition → Type 0
IsResumed C.Error = ⊥
IsResumed _ = ⊤

abbrev pub signal_of : Standing → (line : ℕ) → Y.Stmt
signal_of x line = Y.Signal x.unit.condition line

-- where it stands, and that one act pays for it
pub record IsSignal (k : Block) (x : Standing) (line index most : ℕ) : Type 0 where
  pub act : HasAct k line
  pub resumed : IsResumed x.unit.condition
  pub statement :
      Linked k.call.surroundings.links k.call.code index (stmt_code k.environment none_taken (signal_of x line))
  pub paid : size_in k (signal_of x line) + most ≤ cost k.call.code

-- it does what it means if the unit does
abbrev pub SignalsDo : Type 0
SignalsDo =
    (k : Block) (labels : List Label) (x : Standing) (line index left' most more : ℕ) → IsSignal k x line index most →
    (h : IsRaised (setting_of k labels line most) x more) → UnitDoes (setting_of k labels line most) x more h →
    Does k labels (signal_of x line) index left'
