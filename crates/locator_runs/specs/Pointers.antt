-- Assignments to POINTER variables of a block: NULL, or what another one of its POINTER variables holds.
-- (X3.53-1976, chapter 7, assignment.)
use Rattle.std.specs.Prelude.{ℕ, ◌+◌, ◌≡◌, ◌==◌, List, [], Some, true}
use Rattle.pli_typing.specs.Signatures.{Pointer}
use Rattle.pli_typing.specs.TypedTree as Y
use Rattle.pli_meaning.specs.BasicValues.{BasicPointer, Name, VariableName}
use Rattle.pli_meaning.specs.Contents.{Generation}
use Rattle.pli_meaning.specs.Control.{Label}
use Rattle.pli_meaning.specs.StorageState.{generation_at}
use Rattle.pli_coding.specs.Environments.{none_taken}
use Rattle.pli_coding.specs.Statements.{stmt_code}
use Rattle.pli_coding.specs.Frames.{name_bytes}
use Rattle.storage_relation.specs.Served.{Holds}
use Rattle.storage_relation.specs.Telling.{Tells}
use Rattle.activation_relation.specs.Layers.{Point, now}
use Rattle.run_steps.specs.Items.{Linked}
use Rattle.program_runs.specs.Statements.{Block, Does, HasAct, IsAmong, IsBegun}
use Rattle.expression_runs.specs.Variables.{Spot, whole}
use Rattle.variable_runs.specs.Known.{IsKnown, place_of}
use Rattle.area_runs.specs.Based.{pointer_declared}

-- an AUTOMATIC POINTER variable of the block itself
pub record IsPointer (k : Block) (x : Spot) : Type 0 where
  pub begun : IsBegun k
  pub known : IsKnown k x pointer_declared
  pub own : (x.level == k.environment.level) ≡ true

-- ---- what it holds

-- a name, which the sixteen bytes in the frame tell
pub record IsTold (k : Block) (x : Spot) (is : IsPointer k x) (p : Point) (m : List ℕ) : Type 0 where
  pub generation : Generation
  pub lives : generation_at p.state (VariableName is.known.serial) ≡ Some generation
  pub name : Name
  pub value : generation.values 0 [] ≡ BasicPointer name
  pub tells : Tells Pointer (BasicPointer name) (is.known.base + (place_of k.environment x + name_bytes)) m

-- at each point of the block, so also behind an assignment
abbrev pub PointersTold : Type 0
PointersTold =
    (k : Block) (x : Spot) (is : IsPointer k x) (p : Point) (numbers : ℕ → ℕ) (m : List ℕ) → IsAmong k numbers p →
    Holds (now p m) → IsTold k x is p m

-- ---- assignments

abbrev pub assignment : Spot → Y.Pointer → (line : ℕ) → Y.Stmt
assignment x source line = Y.Assign (whole x) (Y.StoredPointer source) line

-- where it stands
pub record IsAssignment (k : Block) (x : Spot) (source : Y.Pointer) (line index : ℕ) : Type 0 where
  pub act : HasAct k line
  pub pointer : IsPointer k x
  pub statement :
      Linked k.call.surroundings.links k.call.code index (stmt_code k.environment none_taken (assignment x source line))

-- it does what it means
abbrev pub NullAssigned : Type 0
NullAssigned =
    (k : Block) (labels : List Label) (x : Spot) (line index left' : ℕ) → IsAssignment k x Y.NullPointer line index →
    Does k labels (assignment x Y.NullPointer line) index left'

-- also where both are one variable
abbrev pub PointerAssigned : Type 0
PointerAssigned =
    (k : Block) (labels : List Label) (x y : Spot) (line index left' : ℕ) →
    IsAssignment k x (Y.PointerIn (whole y)) line index → IsPointer k y →
    Does k labels (assignment x (Y.PointerIn (whole y)) line) index left'
