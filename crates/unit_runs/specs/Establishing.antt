-- ON with a unit of the program: the unit is the newest block's own, and the run goes on over its code. (X3.53-1976,
-- chapter 6, on-units.)
use Rattle.std.specs.Prelude.{ℕ, ◌+◌, ◌*◌, ◌≤◌, ◌≡◌, List, Some}
use Rattle.pli_language.specs.declared.condition.Condition.{Condition}
use Rattle.pli_typing.specs.TypedTree as Y
use Rattle.pli_meaning.specs.Control.{Label}
use Rattle.pli_meaning.specs.Executing.{statement}
use Rattle.pli_meaning.specs.StorageState.{Activation, BlockUnit, force}
use Rattle.pli_serving.specs.ServiceState.{CodeUnit}
use Rattle.pli_coding.specs.Allocating.{act_code}
use Rattle.pli_coding.specs.Assembly.{size_of}
use Rattle.pli_coding.specs.Environments.{none_taken}
use Rattle.pli_coding.specs.Statements.{stmt_code}
use Rattle.activation_relation.specs.Chains.{StandsAt}
use Rattle.activation_relation.specs.Changes.{established}
use Rattle.activation_relation.specs.Layers.{Point, services_of}
use Rattle.run_steps.specs.Items.{Linked}
use Rattle.run_steps.specs.Reach.{Comes, Family, cost}
use Rattle.block_runs.specs.Machines.{AreIn}
use Rattle.program_runs.specs.Statements.{Block, HasAct, IsAmong, IsBegun, own_height, size_in, statement_aims}
use Rattle.expression_runs.specs.Variables.{IsNumber, Spot}

-- a unit as its ON has it: the condition, its block, and the line of the statement
pub record OnUnit : Type 0 where
  pub condition : Condition
  pub head : Y.BlockHead
  pub body : Y.Stmts
  pub line : ℕ

abbrev pub unit_of : OnUnit → Y.Block
unit_of x = Y.BlockOf x.head x.body

abbrev pub on_of : OnUnit → Y.Stmt
on_of x = Y.OnUnit x.condition (unit_of x) x.line

-- its code stands behind the act, the call of service 28 and the jump over it
abbrev pub unit_index : OnUnit → (index : ℕ) → ℕ
unit_index x index = index + size_of (act_code x.line) + 7

-- the newest block's own from now on, in place of an older one for the condition
abbrev pub with_unit : OnUnit → (at : ℕ) → Point → Point
with_unit x at p = established x.condition (BlockUnit (unit_of x)) (CodeUnit (4 * at)) p

-- the same block, as it is behind the statement
abbrev pub behind_on : Block → OnUnit → (index : ℕ) → Block
behind_on k x index = record k { first = with_unit x (unit_index x index) k.first }

-- where it stands, and that the program has the unit there
pub record IsOn (k : Block) (x : OnUnit) (index : ℕ) : Type 0 where
  pub act : HasAct k x.line
  pub begun : IsBegun k
  pub statement : Linked k.call.surroundings.links k.call.code index (stmt_code k.environment none_taken (on_of x))
  pub place : StandsAt k.call.surroundings.units (unit_of x) (4 * unit_index x index)

-- the unit in force is one that a block established
pub record IsInForce (k : Block) (x : OnUnit) : Type 0 where
  pub by : Activation
  pub own : by.height ≡ own_height k
  pub force : force k.first.state.activations x.condition ≡ Some (by, BlockUnit (unit_of x))

pub record UnitsEstablished : Type 0 where
  -- from any point of the block the statement comes to one of the block that has the unit
  pub does :
      (k : Block) (labels : List Label) (x : OnUnit) (index left' : ℕ) → IsOn k x index → (p : Point)
      (numbers : ℕ → ℕ) (credits wanted : ℕ) (f : Family) → IsAmong k numbers p →
      credits + size_in k (on_of x) ≤ cost k.call.code → AreIn k.call.surroundings p numbers index f →
      Comes k.call.code credits f (services_of p)
      (statement_aims (behind_on k x index) labels p.state.world.acts (index + size_in k (on_of x)) wanted left')
      (statement k.around (on_of x) k.call.surroundings.acts p.state)
  -- there it is in force, and all else is as it was
  pub begun : (k : Block) (x : OnUnit) (index : ℕ) → IsOn k x index → IsBegun (behind_on k x index)
  pub force : (k : Block) (x : OnUnit) (index : ℕ) → IsOn k x index → IsInForce (behind_on k x index) x
  pub numbers :
      (k : Block) (x : OnUnit) (index : ℕ) (spot : Spot) → IsNumber k spot → IsNumber (behind_on k x index) spot
