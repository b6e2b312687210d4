-- Members of a BASED structure, by way of a POINTER variable of the block itself: what code finds by the name that this
-- holds. (X3.53-1976, chapter 7, storage.)
use Rattle.std.specs.Prelude.{ℕ, ◌*◌, ◌^◌, ◌<◌, ◌≤◌, ◌≡◌, List, [], length, None, Some, slice_get}
use Rattle.pli_language.specs.Tree as T
use Rattle.pli_typing.specs.TypedTree as Y
use Rattle.pli_meaning.specs.Contents.{Shape}
use Rattle.pli_meaning.specs.DeclaredShapes.{declared_variable, shape_of}
use Rattle.pli_meaning.specs.StorageState.{area_of_leaves}
use Rattle.pli_serving.specs.Templates.{shape_at}
use Rattle.pli_coding.specs.Locating.{table_number}
use Rattle.program_runs.specs.Statements.{Block}
use Rattle.expression_runs.specs.Laws as L
use Rattle.expression_runs.specs.Values.{Setting}
use Rattle.expression_runs.specs.Variables.{Spot, whole}
use Rattle.area_runs.specs.Based.{Ends, based_of}
use Rattle.locator_runs.specs.Pointers.{IsPointer}

-- ---- the structure

-- without REFER, and with no extent that is evaluated
abbrev pub structure_declared : List Y.Member → List Y.Leaf → Y.DeclaredVariable
structure_declared members leaves =
    record { class = Y.BasedClass; members = members; leaves = leaves; refer = None; evaluations = [] }

abbrev pub structure_shape : List Y.Member → List Y.Leaf → Shape
structure_shape members leaves = shape_of [] (structure_declared members leaves)

-- the pointer is a variable of the block itself, and the table has the signature of what it points to, which is no area
pub record IsStructure (k : Block) (p n : Spot) (members : List Y.Member) (leaves : List Y.Leaf) : Type 0 where
  pub pointer : IsPointer k p
  pub declared : declared_variable k.environment.program (based_of n) ≡ Some (structure_declared members leaves)
  pub meant : declared_variable k.around.program (based_of n) ≡ Some (structure_declared members leaves)
  pub plain : area_of_leaves (structure_shape members leaves).signature.leaves [] ≡ None
  pub signature : ℕ
  pub table : table_number k.environment (structure_declared members leaves) ≡ signature
  pub number : signature < 2 ^ 31
  pub numbered : shape_at k.first.places.signatures signature ≡ Some (structure_shape members leaves)
  -- data begin behind the code
  pub low : 4 * length k.call.code ≤ k.first.places.low

-- ---- its members

-- a scalar among its leaves
pub record IsMember (leaves : List Y.Leaf) (member : ℕ) (type : Y.LeafType) : Type 0 where
  pub initial : List T.InitialItem
  pub there : slice_get leaves member ≡ Some (record { type = type; bounds = []; initial = initial })
  pub few : member < 2 ^ 31

abbrev pub member_part : ℕ → Y.Part
member_part member = record { first = member; count = 1 }

-- of what a pointer variable points to
abbrev pub member_of : (pointer based : Spot) → (member : ℕ) → Y.Reference
member_of p n member =
    Y.Referring (based_of n) (Y.LocatedBy (Y.PointerIn (whole p))) (member_part member) Y.NoNumber

-- ---- the law

-- a number is what the code leaves; where what the pointer points to doesn't live, ERROR ends the run
abbrev pub MemberRead : Type 0
MemberRead =
    (k : Setting) (p n : Spot) (members : List Y.Member) (leaves : List Y.Leaf) (member : ℕ) →
    IsStructure k.block p n members leaves → IsMember leaves member (Y.FixedLeaf 31) → Ends k →
    k.around.program ≡ k.block.around.program → L.Does k 0 (Y.NumberIn (member_of p n member))
