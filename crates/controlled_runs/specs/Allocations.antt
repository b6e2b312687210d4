-- ALLOCATE of a CONTROLLED number. (X3.53-1976, chapter 7, allocation.)
use Rattle.std.specs.Prelude.{ℕ, suc, ◌^◌, ◌<◌, ◌≤◌, ◌≡◌, List, [], ◌∷◌, None, Option, Some}
use Rattle.pli_typing.specs.TypedTree as Y
use Rattle.pli_meaning.specs.Contents.{Shape}
use Rattle.pli_meaning.specs.Control.{Label}
use Rattle.pli_meaning.specs.DeclaredShapes.{declared_variable, shape_of}
use Rattle.pli_serving.specs.Templates.{shape_at}
use Rattle.pli_coding.specs.Environments.{none_taken}
use Rattle.pli_coding.specs.Locating.{table_number}
use Rattle.pli_coding.specs.Statements.{stmt_code}
use Rattle.storage_relation.specs.Controlled.{Variable}
use Rattle.activation_relation.specs.Layers.{Layer}
use Rattle.run_steps.specs.Items.{Linked}
use Rattle.program_runs.specs.Statements.{Block, HasAct}
use Rattle.expression_runs.specs.Assignments.{setting_of}
use Rattle.expression_runs.specs.Variables.{Spot, number_leaf}
use Rattle.area_runs.specs.Based.{Ends}
use Rattle.controlled_runs.specs.Lists.{DoesListed, IsListed, controlled_of}

-- ---- the variable

abbrev pub controlled_declared : Y.DeclaredVariable
controlled_declared =
    record {
      class = Y.ControlledClass;
      members = record { depth = 0; dimensions = 0 } ∷ [];
      leaves = number_leaf [] ∷ [];
      refer = None;
      evaluations = [];
    }

abbrev pub controlled_shape : Shape
controlled_shape = shape_of [] controlled_declared

-- a FIXED BINARY(31) variable that is CONTROLLED, without INITIAL; the table has its signature
pub record IsNumber (of : ℕ → Option Variable) (k : Block) (x : Spot) : Type 0 where
  pub listed : IsListed of k x
  pub declared : declared_variable k.environment.program (controlled_of x) ≡ Some controlled_declared
  pub meant : declared_variable k.around.program (controlled_of x) ≡ Some controlled_declared
  pub signature : ℕ
  pub table : table_number k.environment controlled_declared ≡ signature
  pub number : signature < 2 ^ 31
  pub numbered : shape_at k.first.places.signatures signature ≡ Some controlled_shape

-- two words of the frame in which nothing waits
pub record HasWords (k : Block) : Type 0 where
  pub layer : Layer
  pub others : List Layer
  pub layers : k.first.control.layers ≡ layer ∷ others
  pub words : 2 ≤ layer.words
  pub waits : (i : ℕ) → layer.waits i ≡ None

-- ---- the statement

abbrev pub allocation : Spot → (line : ℕ) → Y.Stmt
allocation x line = Y.Allocate (Y.AllocateControlled (controlled_of x) ∷ []) line

-- where it stands. The words hold what service 16 is given. No unit is in force for ERROR, which ends the run where the
-- heap has no gap.
pub record IsAllocation (of : ℕ → Option Variable) (k : Block) (labels : List Label) (x : Spot)
    (line index most : ℕ) : Type 0
  where
    pub act : HasAct k line
    pub variable : IsNumber of k x
    pub words : HasWords k
    pub ends : Ends (setting_of k labels line most)
    pub turns : ℕ
    pub some : k.around.turns ≡ suc turns
    pub statement :
        Linked k.call.surroundings.links k.call.code index (stmt_code k.environment none_taken (allocation x line))

-- it does what it means: a generation in the heap is the variable's newest
abbrev pub ControlledAllocated : Type 0
ControlledAllocated =
    (of : ℕ → Option Variable) (k : Block) (labels : List Label) (x : Spot) (line index left' most : ℕ) →
    IsAllocation of k labels x line index most → DoesListed of k labels (allocation x line) index left'
