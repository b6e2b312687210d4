-- Arrays of FIXED BINARY of any precision and of BIT(1), with one dimension or more of constant bounds, and their
-- elements.
use Rattle.std.specs.Prelude.{ℕ, ◌≡◌, ◌<◌, ◌≤◌, List, [], ◌∷◌, length, map, None, slice_get, Some, ⊤}
use Rattle.pli_language.specs.Tree as T
use Rattle.pli_typing.specs.Signatures.{Bounds}
use Rattle.pli_typing.specs.TypedTree as Y
use Rattle.pli_meaning.specs.Contents.{Shape}
use Rattle.pli_meaning.specs.DeclaredShapes.{shape_of}
use Rattle.program_runs.specs.Statements.{Block}
use Rattle.expression_runs.specs.Variables.{Spot, variable_of, whole_part}
use Rattle.variable_runs.specs.Known.{IsKnown}
use Rattle.element_runs.specs.Arrays.{IsBounds, constant_bounds}

-- what the elements are, and the bounds of each dimension
pub record Grid : Type 0 where
  pub type : Y.LeafType
  pub bounds : List Bounds

abbrev pub grid_leaf : Grid → List T.InitialItem → Y.Leaf
grid_leaf g initial = record { type = g.type; bounds = map constant_bounds g.bounds; initial = initial }

abbrev pub grid_declared : Grid → List T.InitialItem → Y.DeclaredVariable
grid_declared g initial =
    record {
      class = Y.AutomaticClass;
      members = record { depth = 0; dimensions = length g.bounds } ∷ [];
      leaves = grid_leaf g initial ∷ [];
      refer = None;
      evaluations = [];
    }

abbrev pub grid_shape : Grid → Shape
grid_shape g = shape_of [] (grid_declared g [])

-- the element at subscripts
abbrev pub element : Spot → Y.Numbers → Y.Reference
element x subscripts = Y.Referring (variable_of x) Y.NotLocated whole_part subscripts

-- numbers of 31 bits and a sign, in order, in each dimension
abbrev pub AreBounds : List Bounds → Type 0
AreBounds [] = ⊤
AreBounds (b ∷ bs) = IsBounds b × AreBounds bs

-- those of one dimension, from 0
abbrev pub IsDimension : List Bounds → (dimension : ℕ) → Bounds → Type 0
IsDimension bs dimension b = slice_get bs dimension ≡ Some b

-- FIXED BINARY of at most 31 bits, or BIT(1)
abbrev pub IsElementType : Y.LeafType → Type 0
IsElementType (Y.FixedLeaf precision) = precision ≤ 31
IsElementType Y.BitLeaf = ⊤
IsElementType _ = ⊥

-- an array that the statements of the block know
pub record IsArray (k : Block) (x : Spot) (g : Grid) : Type 0 where
  pub initial : List T.InitialItem
  pub known : IsKnown k x (grid_declared g initial)
  pub type : IsElementType g.type
  pub bounds : AreBounds g.bounds
  pub some : 0 < length g.bounds
