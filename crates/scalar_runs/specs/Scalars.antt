-- FIXED BINARY variables of any precision, and BIT(1) variables, of a block and of those around it.
use Rattle.std.specs.Prelude.{ℕ, List, [], ◌∷◌, None}
use Rattle.pli_language.specs.Tree as T
use Rattle.pli_typing.specs.TypedTree as Y
use Rattle.program_runs.specs.Statements.{Block}
use Rattle.expression_runs.specs.Variables.{Spot}
use Rattle.variable_runs.specs.Known.{IsKnown}

abbrev pub scalar_leaf : Y.LeafType → List T.InitialItem → Y.Leaf
scalar_leaf type initial = record { type = type; bounds = []; initial = initial }

abbrev pub scalar_declared : Y.LeafType → List T.InitialItem → Y.DeclaredVariable
scalar_declared type initial =
    record {
      class = Y.AutomaticClass;
      members = record { depth = 0; dimensions = 0 } ∷ [];
      leaves = scalar_leaf type initial ∷ [];
      refer = None;
      evaluations = [];
    }

-- where the block's first statement begins one of this type lives, and stands where code looks for it
pub record IsScalar (k : Block) (x : Spot) (type : Y.LeafType) : Type 0 where
  pub initial : List T.InitialItem
  pub known : IsKnown k x (scalar_declared type initial)

abbrev pub IsFixed : Block → Spot → (precision : ℕ) → Type 0
IsFixed k x precision = IsScalar k x (Y.FixedLeaf precision)

abbrev pub IsBit : Block → Spot → Type 0
IsBit k x = IsScalar k x Y.BitLeaf
