-- SIGNAL of any condition where no unit is in force, and where one is but no block more may be active: it ends the run.
-- (X3.53-1976, chapter 6, SIGNAL.)
use Rattle.std.specs.Prelude.{ℕ, ◌+◌, ◌*◌, ◌≡◌, ◌<◌, ◌≤◌, List, false}
use Rattle.pli_language.specs.declared.condition.Condition.{Condition}
use Rattle.pli_language.specs.declared.condition.Condition.TheVariants as C
use Rattle.pli_typing.specs.TypedTree as Y
use Rattle.pli_meaning.specs.Control.{Label}
use Rattle.pli_meaning.specs.StorageState.{force}
use Rattle.pli_coding.specs.Assembly.{RaiseError}
use Rattle.pli_coding.specs.Environments.{none_taken}
use Rattle.pli_coding.specs.Linking.{place_of}
use Rattle.pli_coding.specs.Statements.{stmt_code}
use Rattle.activation_relation.specs.ServiceLaws.{IsSystem}
use Rattle.run_steps.specs.Items.{Linked}
use Rattle.run_steps.specs.Reach.{cost}
use Rattle.program_runs.specs.Statements.{Block, Does, HasAct, size_in}
use Rattle.expression_runs.specs.Assignments.{setting_of}
use Rattle.expression_runs.specs.Raises.{Routines}
use Rattle.unit_runs.specs.Raised.{IsRaisedAt, Standing}
use Rattle.unit_runs.specs.Signals.{IsSignal, signal_of}

-- where it stands, and that an act pays for it
pub record IsSignalled (k : Block) (c : Condition) (line index : ℕ) : Type 0 where
  pub act : HasAct k line
  pub statement :
      Linked k.call.surroundings.links k.call.code index (stmt_code k.environment none_taken (Y.Signal c line))
  pub paid : size_in k (Y.Signal c line) + 18 < cost k.call.code
  pub routines : Routines k.call.surroundings.links k.call.code
  pub place : place_of k.call.surroundings.links RaiseError ≡ 4 * (routines.at + 8)

pub record SignalsEnd : Type 0 where
  pub system :
      (k : Block) (labels : List Label) (c : Condition) (line index left' : ℕ) → IsSignalled k c line index →
      IsSystem (force k.first.state.activations c) → IsSystem (force k.first.state.activations C.Error) →
      Does k labels (Y.Signal c line) index left'
  pub deep :
      (k : Block) (labels : List Label) (x : Standing) (line index left' most more : ℕ) →
      IsSignal k x line index most → IsRaisedAt false (setting_of k labels line most) x more →
      Does k labels (signal_of x line) index left'
