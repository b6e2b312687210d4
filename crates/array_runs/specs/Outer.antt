-- Arrays wherever variables are known: in the procedures and functions that a block declares, and those of one
-- dimension as they are known already.
use Rattle.std.specs.Prelude.{[], ◌∷◌}
use Rattle.pli_typing.specs.Signatures.{Bounds}
use Rattle.pli_typing.specs.TypedTree as Y
use Rattle.program_runs.specs.Statements.{Block}
use Rattle.expression_runs.specs.Variables.{Spot}
use Rattle.variable_runs.specs.Known.{IsKnown}
use Rattle.element_runs.specs.Arrays as E
use Rattle.array_runs.specs.Arrays.{Grid, IsArray}

abbrev pub row_of : Bounds → Grid
row_of b = record { type = Y.FixedLeaf 31; bounds = b ∷ [] }

pub record ArraysKnown : Type 0 where
  pub inside :
      (k inner : Block) (x : Spot) (g : Grid) →
      ((d : Y.DeclaredVariable) → IsKnown k x d → IsKnown inner x d) → IsArray k x g → IsArray inner x g
  -- FIXED BINARY(31) with one dimension
  pub row : (k : Block) (x : Spot) (b : Bounds) → E.IsArray k x b → IsArray k x (row_of b)
  pub array : (k : Block) (x : Spot) (b : Bounds) → IsArray k x (row_of b) → E.IsArray k x b
