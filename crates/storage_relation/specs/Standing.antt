-- What stands in bytes of its own: a generation, an area with its generations, and all that lives, by its serial.
use Rattle.std.specs.Prelude.{List, ℕ, ℤ, ◌<◌, ◌≡◌, true, length, Some, [], ◌∷◌, ⊤, Option, None, ◌==◌, if◌then◌else◌}
use Rattle.std.specs.Prelude.{int_le}
use Rattle.pli_typing.specs.Signatures.{Leaf, data_size, LeafKind}
use Rattle.pli_meaning.specs.Contents.{leaves_with, Generation, signature_of, is_within, Placed}
use Rattle.pli_meaning.specs.Evaluating.{leaf_at}
use Rattle.pli_meaning.specs.StorageState.{AreaContents, Living, area_of_leaves, heap_capacity, State, living_of}
use Rattle.pli_meaning.specs.StorageState.{heap_serial}
use Rattle.pli_types.specs.Templates.{Template}
use Rattle.area_keeper.specs.Keeper.{Kept, Keeper}
use Rattle.area_keeper.specs.KeeperLaws.{data_of}
use Rattle.pli_serving.specs.Templates.{shape_at}
use Rattle.pli_serving.specs.Values.{element_address}
use Rattle.storage_relation.specs.Telling.{Tells, IsOf}

-- ---- a generation

-- with the extent with which it was allocated: its leaves, where an element stands, and how many bytes it takes
abbrev pub leaves_of : Generation → List Leaf
leaves_of g = leaves_with g.extent g.shape

abbrev pub leaf_in : Generation → ℕ → Leaf
leaf_in g leaf = leaf_at g.shape g.extent leaf

abbrev pub place_in : Generation → (leaf : ℕ) → List ℤ → ℕ
place_in g leaf is = element_address (leaves_of g) leaf (leaf_in g leaf) is 0

abbrev pub size_of : Generation → ℕ
size_of g = data_size (signature_of g)

-- each element within the bounds is told where it stands
pub record Reads (g : Generation) (bytes : List ℕ) : Type 0 where
  pub elements :
      (leaf : ℕ) (is : List ℤ) → leaf < length (leaves_of g) → is_within (leaf_in g leaf).bounds is ≡ true →
      Tells (leaf_in g leaf).kind (g.values leaf is) (place_in g leaf is) bytes

-- ---- an area

-- a generation of the storage machine as the keeper has it, and its data
pub record IsKept (k : Keeper) (signatures : List Template) (bytes : List ℕ) (g : Kept) (p : Placed) : Type 0 where
  pub offset : g.offset ≡ p.offset
  pub size : g.size ≡ size_of p.generation
  pub extent : g.extent ≡ p.generation.extent
  pub shape : shape_at signatures g.signature ≡ Some p.generation.shape
  pub reads : Reads p.generation (data_of k g bytes)

abbrev pub AreKept : Keeper → List Template → List ℕ → List Kept → List Placed → Type 0
AreKept k signatures bytes [] [] = ⊤
AreKept k signatures bytes (g ∷ gs) (p ∷ ps) = IsKept k signatures bytes g p × AreKept k signatures bytes gs ps
AreKept k signatures bytes _ _ = ⊥

-- the bytes are an area's, of this capacity and with these generations
pub record AreaStands (k : Keeper) (signatures : List Template) (a : AreaContents) (bytes : List ℕ) : Type 0 where
  pub kept : List Kept
  pub stands : k.area_of bytes ≡ Some (record { capacity = a.capacity; placed = kept })
  pub are : AreKept k signatures bytes kept a.placed

-- ---- what lives, by its serial

-- a generation by itself, or an area; the heap is the area of serial 0
pub data Holder : Type 0 where
  Alone : Generation → Holder
  AreaOf : AreaContents → Holder

abbrev pub holder_by : Generation → Option AreaContents → Holder
holder_by g None = Alone g
holder_by g (Some a) = AreaOf a

abbrev pub holder_of : Living → Holder
holder_of l = holder_by l.generation (area_of_leaves l.generation.shape.signature.leaves l.placed)

abbrev pub holder_in : Option Living → Option Holder
holder_in None = None
holder_in (Some l) = Some (holder_of l)

abbrev pub heap_holder : List Placed → Holder
heap_holder placed = AreaOf (record { capacity = heap_capacity; placed = placed })

abbrev pub held : State → (serial : ℕ) → Option Holder
held s serial = if serial == heap_serial then Some (heap_holder s.heap) else holder_in (living_of s.living serial)

abbrev pub bytes_of : Keeper → Holder → ℕ
bytes_of k (Alone g) = size_of g
bytes_of k (AreaOf a) = k.bytes_for a.capacity

abbrev pub Stands : Keeper → List Template → Holder → List ℕ → Type 0
Stands k signatures (Alone g) bytes = Reads g bytes
Stands k signatures (AreaOf a) bytes = AreaStands k signatures a bytes

-- a generation of values, no area
abbrev pub IsPlain : Generation → Type 0
IsPlain g = area_of_leaves g.shape.signature.leaves [] ≡ None

-- each element has a value that it can keep
abbrev pub IsValued : Generation → Type 0
IsValued g =
    (leaf : ℕ) (is : List ℤ) → leaf < length (leaves_of g) → is_within (leaf_in g leaf).bounds is ≡ true →
    IsOf (leaf_in g leaf).kind (g.values leaf is)

abbrev pub IsElement : Generation → ℕ → List ℤ → Type 0
IsElement g leaf is = (leaf < length (leaves_of g)) × (is_within (leaf_in g leaf).bounds is ≡ true)

abbrev pub now_in : Generation → ℤ → ℕ → LeafKind
now_in g z leaf = (leaf_at g.shape z leaf).kind

abbrev pub address_now : Generation → ℤ → (leaf : ℕ) → List ℤ → (at : ℕ) → ℕ
address_now g z leaf is at = element_address (leaves_with z g.shape) leaf (leaf_at g.shape z leaf) is at

-- an element of the generation in the extent in force, which is no greater than that allocated
pub record IsElementNow (g : Generation) (z : ℤ) (leaf : ℕ) (is : List ℤ) : Type 0 where
  pub less : int_le z g.extent ≡ true
  pub leaf_there : leaf < length g.shape.signature.leaves
  pub within : is_within (leaf_at g.shape z leaf).bounds is ≡ true
