-- Arrays of FIXED BINARY(31) with constant bounds of one dimension, and their elements.
use Rattle.std.specs.Prelude.{◌≡◌, List, [], ◌∷◌, None, true, int_le}
use Rattle.pli_language.specs.Tree as T
use Rattle.pli_typing.specs.Signatures.{Bounds}
use Rattle.pli_typing.specs.TypedTree as Y
use Rattle.pli_meaning.specs.Contents.{Shape}
use Rattle.pli_meaning.specs.DeclaredShapes.{shape_of}
use Rattle.run_steps.specs.Numbers.{IsWide}
use Rattle.program_runs.specs.Statements.{Block}
use Rattle.expression_runs.specs.Variables.{Spot, variable_of, whole_part}
use Rattle.variable_runs.specs.Known.{IsKnown}

abbrev pub constant_bounds : Bounds → Y.Bounds
constant_bounds b = record { lower = Y.ConstantExtent b.lower; upper = Y.ConstantExtent b.upper }

abbrev pub array_leaf : Bounds → List T.InitialItem → Y.Leaf
array_leaf b initial = record { type = Y.FixedLeaf 31; bounds = constant_bounds b ∷ []; initial = initial }

abbrev pub array_declared : Bounds → List T.InitialItem → Y.DeclaredVariable
array_declared b initial =
    record {
      class = Y.AutomaticClass;
      members = record { depth = 0; dimensions = 1 } ∷ [];
      leaves = array_leaf b initial ∷ [];
      refer = None;
      evaluations = [];
    }

abbrev pub array_shape : Bounds → Shape
array_shape b = shape_of [] (array_declared b [])

-- the element at a subscript
abbrev pub element : Spot → Y.Number → Y.Reference
element x subscript = Y.Referring (variable_of x) Y.NotLocated whole_part (Y.NumberThen subscript Y.NoNumber)

-- numbers of 31 bits and a sign, in order
pub record IsBounds (b : Bounds) : Type 0 where
  pub lower : IsWide b.lower
  pub upper : IsWide b.upper
  pub order : int_le b.lower b.upper ≡ true

-- an array that the statements of the block know
pub record IsArray (k : Block) (x : Spot) (b : Bounds) : Type 0 where
  pub initial : List T.InitialItem
  pub known : IsKnown k x (array_declared b initial)
  pub bounds : IsBounds b
