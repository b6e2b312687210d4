-- Points at which the services' lists of CONTROLLED generations are the storage machine's, and statements between them.
use Rattle.std.specs.Prelude.{ℕ, ◌+◌, ◌^◌, ◌<◌, ◌≤◌, ◌≡◌, List, [], Option, Some, ⊤}
use Rattle.pli_typing.specs.TypedTree as Y
use Rattle.pli_meaning.specs.Control.{Label}
use Rattle.pli_meaning.specs.Executing.{statement}
use Rattle.pli_meaning.specs.StorageState.{State}
use Rattle.pli_serving.specs.ServiceState.{Services}
use Rattle.pli_coding.specs.Assembly.{size_of}
use Rattle.pli_coding.specs.Locating.{controlled_number}
use Rattle.pli_coding.specs.Statements.{marked}
use Rattle.storage_relation.specs.Controlled.{StacksStand, Variable}
use Rattle.activation_relation.specs.Layers.{Point, now, services_of}
use Rattle.run_steps.specs.Reach.{Aims, Comes, Family, cost}
use Rattle.block_runs.specs.Machines.{AreIn, limits_of}
use Rattle.program_runs.specs.Statements.{Block, GoesOn, IsAmong, JumpsTo, ReturnsTo, size_in}
use Rattle.expression_runs.specs.Variables.{Spot}

-- the lists, by the variable of each number, are the storage machine's, whatever memory is
abbrev pub ListsStand : (of : ℕ → Option Variable) → Point → Type 0
ListsStand of p = StacksStand (now p []) of

-- ---- CONTROLLED variables

abbrev pub controlled_of : Spot → Y.Variable
controlled_of x = record { class = Y.ControlledClass; block = x.block; level = x.level; index = x.index }

abbrev pub listed : Spot → Variable
listed x = record { block = x.block; index = x.index }

abbrev pub number_of : Block → Spot → ℕ
number_of k x = controlled_number k.environment (controlled_of x)

-- a variable has the number that its block's code gives
pub record IsListed (of : ℕ → Option Variable) (k : Block) (x : Spot) : Type 0 where
  pub named : of (number_of k x) ≡ Some (listed x)
  pub few : number_of k x < 2 ^ 16

-- ---- statements

-- a point of the block as `GoesOn` says, at which the lists stand
pub record GoesOnListed (of : ℕ → Option Variable) (k : Block) (acts index wanted credits : ℕ) (f : Family)
    (v : Services) (s : State) : Type 0
  where
    pub goes : GoesOn k acts index wanted credits f v s
    pub lists : ListsStand of goes.point

abbrev pub listed_aims :
    (of : ℕ → Option Variable) → Block → List Label → (acts index wanted left' : ℕ) → Aims (Unit {0})
listed_aims of k labels acts index wanted left' =
    record {
      limits = limits_of k.call.surroundings;
      done = λ c f v r s. GoesOnListed of k acts index wanted c f v s;
      jumped = λ c f v height label s. JumpsTo k labels acts c f v height label s;
      returned = λ c f v r s. ReturnsTo k left' c f v r s;
    }

-- from any point of the block at which the lists stand its code does what it means, and comes to such a point behind it
abbrev pub DoesListed : (of : ℕ → Option Variable) → Block → List Label → Y.Stmt → (index left' : ℕ) → Type 0
DoesListed of k labels stmt index left' =
    (p : Point) (numbers : ℕ → ℕ) (credits wanted : ℕ) (f : Family) → IsAmong k numbers p → ListsStand of p →
    credits + size_in k stmt ≤ cost k.call.code → AreIn k.call.surroundings p numbers index f →
    Comes k.call.code credits f (services_of p)
    (listed_aims of k labels p.state.world.acts (index + size_in k stmt) wanted left')
    (statement k.around stmt k.call.surroundings.acts p.state)

-- each statement of a list
abbrev pub EachDoesListed :
    (of : ℕ → Option Variable) → Block → List Label → Y.Stmts → (index left' : ℕ) → Type 0
EachDoesListed of k labels (Y.EndOfList own) index left' = ⊤
EachDoesListed of k labels (Y.StmtThen own first rest) index left' =
    DoesListed of k labels first (index + size_of (marked k.environment.block own)) left'
    × EachDoesListed of k labels rest (index + size_of (marked k.environment.block own) + size_in k first) left'
