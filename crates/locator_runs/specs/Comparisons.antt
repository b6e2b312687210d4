-- Comparisons of what POINTER variables of a block hold. (X3.53-1976, chapter 9, comparison.)
use Rattle.std.specs.Prelude.{Bool}
use Rattle.pli_typing.specs.TypedTree as Y
use Rattle.expression_runs.specs.Values.{Setting}
use Rattle.expression_runs.specs.Variables.{Spot, whole}
use Rattle.test_runs.specs.Tests.{Tests}
use Rattle.locator_runs.specs.Pointers.{IsPointer}

-- whether they are equal, or whether they differ
abbrev pub comparison : (equal : Bool) → (left : Spot) → Y.Pointer → Y.Bit
comparison equal x right = Y.PointersCompared equal (Y.PointerIn (whole x)) right

-- each does what it means, with no register beside those in use
pub record PointersCompare : Type 0 where
  pub null :
      (k : Setting) (equal : Bool) (x : Spot) → IsPointer k.block x → Tests k 0 (comparison equal x Y.NullPointer)
  pub both :
      (k : Setting) (equal : Bool) (x y : Spot) → IsPointer k.block x → IsPointer k.block y →
      Tests k 0 (comparison equal x (Y.PointerIn (whole y)))
