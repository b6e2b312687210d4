-- Arrays wherever variables are known.
use Rattle.std.proofs.Common.{arith}
use Rattle.pli_typing.specs.Signatures.{Bounds}
use Rattle.pli_typing.specs.TypedTree as Y
use Rattle.program_runs.specs.Statements.{Block}
use Rattle.expression_runs.specs.Variables.{Spot}
use Rattle.variable_runs.specs.Known.{IsKnown}
use Rattle.element_runs.specs.Arrays as E
use Rattle.array_runs.specs.Arrays.{Grid, IsArray}
use Rattle.array_runs.specs.Outer.{ArraysKnown, row_of}

pub outer_array :
    (k inner : Block) (x : Spot) (g : Grid) →
    ((d : Y.DeclaredVariable) → IsKnown k x d → IsKnown inner x d) → IsArray k x g → IsArray inner x g
outer_array k inner x g known is =
    record { initial = is.initial; known = known _ is.known; type = is.type; bounds = is.bounds; some = is.some }

row_known : (k : Block) (x : Spot) (b : Bounds) → E.IsArray k x b → IsArray k x (row_of b)
row_known k x b is =
    record { initial = is.initial; known = is.known; type = omega arith; bounds = (is.bounds, tt); some = omega arith }

row_array : (k : Block) (x : Spot) (b : Bounds) → IsArray k x (row_of b) → E.IsArray k x b
row_array k x b is = record { initial = is.initial; known = is.known; bounds = is.bounds.0 }

pub arrays_known : ArraysKnown
arrays_known = record { inside = outer_array; row = row_known; array = row_array }
