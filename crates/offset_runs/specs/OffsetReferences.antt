-- Members of a BASED structure by way of an offset, which is converted to a pointer into an area. (X3.53-1976,
-- chapter 7, storage; chapter 9, POINTER.)
use Rattle.std.specs.Prelude.{ℕ, ◌^◌, ◌<◌, ◌≤◌, ◌≡◌, List, [], None, Some}
use Rattle.pli_typing.specs.TypedTree as Y
use Rattle.pli_meaning.specs.DeclaredShapes.{declared_variable}
use Rattle.pli_meaning.specs.StorageState.{area_of_leaves}
use Rattle.pli_serving.specs.Templates.{shape_at}
use Rattle.pli_coding.specs.Locating.{table_number}
use Rattle.expression_runs.specs.Laws as L
use Rattle.expression_runs.specs.Values.{Setting}
use Rattle.expression_runs.specs.Variables.{Spot, variable_of}
use Rattle.area_runs.specs.Allocations.{HasArea}
use Rattle.area_runs.specs.Based.{Ends, based_of}
use Rattle.member_runs.specs.Members.{IsMember, member_part, structure_declared, structure_shape}
use Rattle.offset_runs.specs.Offsets.{Gives}

-- of what an offset in an area names
abbrev pub member_by : Y.Offset → (area based : Spot) → (member : ℕ) → Y.Reference
member_by x a n member =
    Y.Referring (based_of n) (Y.LocatedBy (Y.PointerInto x (variable_of a))) (member_part member) Y.NoNumber

-- the table has the signature of the structure, which is no area. The name waits in four words of the frame, in which
-- nothing else does; where nothing lives by it, ERROR ends the run.
pub record IsLocated (k : Setting) (n : Spot) (members : List Y.Member) (leaves : List Y.Leaf) (a : Spot) : Type 0 where
  pub declared : declared_variable k.block.environment.program (based_of n) ≡ Some (structure_declared members leaves)
  pub meant : declared_variable k.around.program (based_of n) ≡ Some (structure_declared members leaves)
  pub plain : area_of_leaves (structure_shape members leaves).signature.leaves [] ≡ None
  pub signature : ℕ
  pub table : table_number k.block.environment (structure_declared members leaves) ≡ signature
  pub number : signature < 2 ^ 31
  pub numbered : shape_at k.block.first.places.signatures signature ≡ Some (structure_shape members leaves)
  pub area : HasArea k.block a
  pub ends : Ends k
  pub none : k.words ≡ 0
  pub words : 4 ≤ area.layer.words
  pub waits : (i : ℕ) → area.layer.waits i ≡ None

-- a number is what the code leaves, if the offset is
abbrev pub NumberByOffset : Type 0
NumberByOffset =
    (k : Setting) (x : Y.Offset) (a n : Spot) (members : List Y.Member) (leaves : List Y.Leaf) (member need : ℕ) →
    IsLocated k n members leaves a → IsMember leaves member (Y.FixedLeaf 31) → Gives k need x →
    L.Does k need (Y.NumberIn (member_by x a n member))
