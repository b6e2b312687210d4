-- FIXED BINARY(31) variables of a block and of those around it: what they stand for, and where code finds them.
use Rattle.std.specs.Prelude.{ℕ, ◌+◌, ◌*◌, ◌^◌, ◌<◌, ◌≤◌, ◌≡◌, ◌⊎◌, ◌==◌, true, false, List, [], ◌∷◌, Some, None}
use Rattle.pli_language.specs.Tree as T
use Rattle.pli_typing.specs.TypedTree as Y
use Rattle.pli_meaning.specs.BasicValues.{VariableName}
use Rattle.pli_meaning.specs.Contents.{Shape}
use Rattle.pli_meaning.specs.DeclaredShapes.{declared_variable, shape_of}
use Rattle.pli_meaning.specs.StorageState.{Binding, Living, ancestor_at, binding_in, height_of, living_of}
use Rattle.pli_coding.specs.Environments.{Environment}
use Rattle.pli_coding.specs.Frames.{automatic_place}
use Rattle.activation_relation.specs.Chains.{frame_at}
use Rattle.activation_relation.specs.CodeStores.{most_levels}
use Rattle.activation_relation.specs.Frames.{frame_under}
use Rattle.program_runs.specs.Statements.{Block}

-- its block, the level of that, and its place among the block's variables
pub record Spot : Type 0 where
  pub block : ℕ
  pub level : ℕ
  pub index : ℕ

abbrev pub variable_of : Spot → Y.Variable
variable_of x = record { class = Y.AutomaticClass; block = x.block; level = x.level; index = x.index }

abbrev pub whole_part : Y.Part
whole_part = record { first = 0; count = 1 }

-- all of it
abbrev pub whole : Spot → Y.Reference
whole x = Y.Referring (variable_of x) Y.NotLocated whole_part Y.NoNumber

abbrev pub number_leaf : List T.InitialItem → Y.Leaf
number_leaf initial = record { type = Y.FixedLeaf 31; bounds = []; initial = initial }

abbrev pub number_declared : List T.InitialItem → Y.DeclaredVariable
number_declared initial =
    record {
      class = Y.AutomaticClass;
      members = record { depth = 0; dimensions = 0 } ∷ [];
      leaves = number_leaf initial ∷ [];
      refer = None;
      evaluations = [];
    }

abbrev pub number_shape : Shape
number_shape = shape_of [] (number_declared [])

-- behind its name, in the frame of its block
abbrev pub number_place : Environment → Spot → ℕ
number_place e x = automatic_place e.parts e.program x.block x.level x.index + 16 + 0

abbrev pub number_binding : Spot → (serial : ℕ) → Binding
number_binding x serial = record { variable = x.index; name = VariableName serial; shape = number_shape }

-- the frame of a level is the block's own, or one that its display has
abbrev pub IsFrameOf : Block → (level base : ℕ) → Type 0
IsFrameOf k level base =
    (((level == k.environment.level) ≡ true)
    × (base ≡ frame_under k.call.surroundings.parts k.first.control.layers))
    ⊎ (((level == k.environment.level) ≡ false) × (level < k.call.beginning.layer.level)
    × (0 < height_of (ancestor_at k.first.state level))
    × (k.call.beginning.layer.level < most_levels)
    × (base ≡ frame_at k.first.control.layers (height_of (ancestor_at k.first.state level))))

-- where the block's first statement begins it stands for a generation that lives, and stands where code looks for it
pub record IsNumber (k : Block) (x : Spot) : Type 0 where
  pub initial : List T.InitialItem
  pub declared : declared_variable k.environment.program (variable_of x) ≡ Some (number_declared initial)
  pub serial : ℕ
  pub binding : binding_in (ancestor_at k.first.state x.level) x.index ≡ Some (number_binding x serial)
  pub living : Living
  pub lives : living_of k.first.state.living serial ≡ Some living
  pub shape : living.generation.shape ≡ number_shape
  pub base : ℕ
  pub frame : IsFrameOf k x.level base
  pub at : k.first.places.at serial ≡ base + number_place k.environment x
  pub low : 2 ^ 22 ≤ base + number_place k.environment x
  pub inside : base + number_place k.environment x + 4 ≤ 15 * 2 ^ 20
