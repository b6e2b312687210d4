-- What every keeper promises: its functions on bytes do what the storage machine's functions do with generations, and no data of
-- another generation change. Where bytes stand for no area nothing is promised.
use Rattle.std.specs.Prelude.{ℕ, ◌+◌, ◌*◌, ◌^◌, ◌%◌, ◌≤◌, ◌<◌, ◌≡◌, ◌≢◌, ◌⊎◌, ◌↔◌, ℤ, FitsSigned, List, [], ◌∷◌, length, Some, None, ⊤}
use Rattle.std.specs.Int.{w32}
use Rattle.rv_meaning.specs.Images.{AreBelow}
use Rattle.pli_typing.specs.Signatures.{footprint}
use Rattle.pli_meaning.specs.Contents.{Placed, gap, with_placed, without_offset, placed_at, greatest_end, IsOrdered, IsGap}
use Rattle.area_keeper.specs.Keeper.{Kept, KeptArea, Keeper}
use Rattle.area_keeper.specs.KeptAreas.{kept_as, InOrder, kept_at, with_kept, without_kept, Alike, part, with_part}

-- the greatest capacity of an area, 4 MiB
abbrev pub greatest_capacity : ℕ
greatest_capacity = 2 ^ 22

-- the data of a generation
abbrev pub data_of : Keeper → Kept → List ℕ → List ℕ
data_of k g bytes = part (k.data_at g.offset bytes) g.size bytes

-- these generations have the same data in other bytes
abbrev pub SameData : Keeper → List Kept → (old new : List ℕ) → Type 0
SameData k [] old new = ⊤
SameData k (g ∷ gs) old new = (data_of k g new ≡ data_of k g old) × SameData k gs old new

-- their data begin at the same places, so that an address of them stays good
abbrev pub SamePlaces : Keeper → List Kept → (old new : List ℕ) → Type 0
SamePlaces k [] old new = ⊤
SamePlaces k (g ∷ gs) old new = (k.data_at g.offset new ≡ k.data_at g.offset old) × SamePlaces k gs old new

-- bytes become others, as many, that stand for an area
pub record Becomes (k : Keeper) (capacity : ℕ) (placed : List Kept) (old new : List ℕ) : Type 0 where
  pub as_many : length new ≡ length old
  pub stands : k.area_of new ≡ Some (record { capacity = capacity; placed = placed })

-- the same, where the data of some generations stay what they are and where they are
pub record Leaves (k : Keeper) (same : List Kept) (capacity : ℕ) (placed : List Kept) (old new : List ℕ) : Type 0 where
  pub becomes : Becomes k capacity placed old new
  pub data_stay : SameData k same old new
  pub places_stay : SamePlaces k same old new

-- ---- the laws by subject

-- which bytes an area takes, and how it begins
pub record KeepsMaking (k : Keeper) : Type 0 where
  -- what an area takes beside its capacity is a fourth of it at most, and 32 bytes: so much is reserved
  pub few : (capacity : ℕ) → 4 * k.bytes_for capacity ≤ 5 * capacity + 4 * 32
  -- storage that was never an area becomes one, whatever its bytes
  pub made :
      (capacity : ℕ) (bytes : List ℕ) →
      capacity % 16 ≡ 0 → capacity ≤ greatest_capacity → length bytes ≡ k.bytes_for capacity →
      Becomes k capacity [] bytes (k.made capacity bytes)
  -- EMPTY takes all that is placed, and no capacity
  pub emptied : (bytes : List ℕ) (a : KeptArea) → k.area_of bytes ≡ Some a → Becomes k a.capacity [] bytes (k.emptied bytes)

-- what bytes can stand for, whoever wrote them
pub record KeepsOrder (k : Keeper) : Type 0 where
  -- the storage machine's gap is the least where generations stand in order, and no two share a byte
  pub ordered : (bytes : List ℕ) (a : KeptArea) → k.area_of bytes ≡ Some a → InOrder 0 a.capacity a.placed
  -- the capacity is one that an area can be declared with
  pub rounded : (bytes : List ℕ) (a : KeptArea) → k.area_of bytes ≡ Some a → a.capacity % 16 ≡ 0
  pub bounded : (bytes : List ℕ) (a : KeptArea) → k.area_of bytes ≡ Some a → a.capacity ≤ greatest_capacity
  -- an area is as long as its capacity takes, no more and no less
  pub as_many : (bytes : List ℕ) (a : KeptArea) → k.area_of bytes ≡ Some a → length bytes ≡ k.bytes_for a.capacity

-- ALLOCATE: a signature's number and an extent are words; a size that has a gap is one
pub record KeepsAllocating (k : Keeper) : Type 0 where
  -- where the storage machine finds a gap, the generation is placed there, and all others stay
  pub placed :
      (size signature : ℕ) (extent : ℤ) (bytes : List ℕ) (a : KeptArea) (placed : List Placed) (o : ℕ) →
      k.area_of bytes ≡ Some a → Alike a.placed placed → signature < 2 ^ 32 → FitsSigned w32 extent →
      gap a.capacity (footprint size) placed ≡ Some o →
      (new : List ℕ) × (k.allocated size signature extent bytes ≡ Some (o, new)) ×
      Leaves k a.placed a.capacity (with_kept (kept_as o size signature extent) a.placed) bytes new
  -- where it finds none, AREA is raised, and never elsewhere
  pub refused :
      (size signature : ℕ) (extent : ℤ) (bytes : List ℕ) (a : KeptArea) (placed : List Placed) →
      k.area_of bytes ≡ Some a → Alike a.placed placed → gap a.capacity (footprint size) placed ≡ None →
      k.allocated size signature extent bytes ≡ None

-- FREE
pub record KeepsFreeing (k : Keeper) : Type 0 where
  -- the generation at the offset goes, and all others stay
  pub freed :
      (offset signature : ℕ) (bytes : List ℕ) (a : KeptArea) (g : Kept) →
      k.area_of bytes ≡ Some a → kept_at a.placed offset ≡ Some g → g.signature ≡ signature →
      (new : List ℕ) × (k.freed offset signature bytes ≡ Some new) ×
      Leaves k (without_kept offset a.placed) a.capacity (without_kept offset a.placed) bytes new
  -- a generation that was freed already isn't freed again
  pub absent :
      (offset signature : ℕ) (bytes : List ℕ) (a : KeptArea) →
      k.area_of bytes ≡ Some a → kept_at a.placed offset ≡ None → k.freed offset signature bytes ≡ None
  -- nor is another that stands in its place
  pub another :
      (offset signature : ℕ) (bytes : List ℕ) (a : KeptArea) (g : Kept) →
      k.area_of bytes ≡ Some a → kept_at a.placed offset ≡ Some g → g.signature ≢ signature →
      k.freed offset signature bytes ≡ None

-- an area assigned to an area
pub record KeepsCopying (k : Keeper) : Type 0 where
  -- the target takes the source's generations, at their offsets and with their data, and keeps its capacity
  pub copied :
      (from to : List ℕ) (s t : KeptArea) (placed : List Placed) →
      k.area_of from ≡ Some s → k.area_of to ≡ Some t → Alike s.placed placed → greatest_end placed ≤ t.capacity →
      (new : List ℕ) × (k.copied from to ≡ Some new) × Becomes k t.capacity s.placed to new × SameData k s.placed from new
  -- where the last of them would end outside, AREA is raised, and never elsewhere
  pub refused :
      (from to : List ℕ) (s t : KeptArea) (placed : List Placed) →
      k.area_of from ≡ Some s → k.area_of to ≡ Some t → Alike s.placed placed → t.capacity < greatest_end placed →
      k.copied from to ≡ None

-- what a program writes in a generation
pub record KeepsWriting (k : Keeper) : Type 0 where
  -- all of its data are bytes of the area
  pub within :
      (bytes : List ℕ) (a : KeptArea) (offset : ℕ) (g : Kept) →
      k.area_of bytes ≡ Some a → kept_at a.placed offset ≡ Some g → k.data_at offset bytes + g.size ≤ length bytes
  -- so that words in data are where the machine can load and store them
  pub aligned :
      (bytes : List ℕ) (a : KeptArea) (offset : ℕ) (g : Kept) →
      k.area_of bytes ≡ Some a → kept_at a.placed offset ≡ Some g → k.data_at offset bytes % 4 ≡ 0
  -- no byte is data of two
  pub apart :
      (bytes : List ℕ) (a : KeptArea) (o p : ℕ) (g h : Kept) →
      k.area_of bytes ≡ Some a → kept_at a.placed o ≡ Some g → kept_at a.placed p ≡ Some h → o ≢ p →
      (k.data_at o bytes + g.size ≤ k.data_at p bytes) ⊎ (k.data_at p bytes + h.size ≤ k.data_at o bytes)
  -- what is written inside its data changes no other data, and no header: the area is the same
  pub written :
      (bytes : List ℕ) (a : KeptArea) (offset : ℕ) (g : Kept) (new : List ℕ) (at : ℕ) →
      k.area_of bytes ≡ Some a → kept_at a.placed offset ≡ Some g →
      k.data_at offset bytes ≤ at → at + length new ≤ k.data_at offset bytes + g.size →
      Leaves k (without_kept offset a.placed) a.capacity a.placed bytes (with_part new at bytes)
      × (k.data_at offset (with_part new at bytes) ≡ k.data_at offset bytes)

-- bytes are numbers below 256: memory stays a machine's memory, and what headers of bytes hold are words
pub record KeepsBytes (k : Keeper) : Type 0 where
  pub made : (capacity : ℕ) (bytes : List ℕ) → AreBelow 256 bytes → AreBelow 256 (k.made capacity bytes)
  pub emptied : (bytes : List ℕ) → AreBelow 256 bytes → AreBelow 256 (k.emptied bytes)
  pub allocated :
      (size signature : ℕ) (extent : ℤ) (bytes : List ℕ) (o : ℕ) (new : List ℕ) →
      AreBelow 256 bytes → k.allocated size signature extent bytes ≡ Some (o, new) → AreBelow 256 new
  pub freed :
      (offset signature : ℕ) (bytes new : List ℕ) →
      AreBelow 256 bytes → k.freed offset signature bytes ≡ Some new → AreBelow 256 new
  pub copied :
      (from to new : List ℕ) → AreBelow 256 from → AreBelow 256 to → k.copied from to ≡ Some new → AreBelow 256 new
  -- what ALLOCATE was given fits a word, so what is found does
  pub words :
      (bytes : List ℕ) (a : KeptArea) (offset : ℕ) (g : Kept) →
      AreBelow 256 bytes → k.area_of bytes ≡ Some a → kept_at a.placed offset ≡ Some g →
      (g.signature < 2 ^ 32) × FitsSigned w32 g.extent

pub record Keeps (k : Keeper) : Type 0 where
  pub making : KeepsMaking k
  pub order : KeepsOrder k
  pub allocating : KeepsAllocating k
  pub freeing : KeepsFreeing k
  pub copying : KeepsCopying k
  pub writing : KeepsWriting k
  pub bytes : KeepsBytes k

-- ---- laws of all keepers

-- where a generation is placed, no lower offset fits
abbrev pub PlacesAtLeast : Type 0
PlacesAtLeast =
    (k : Keeper) → Keeps k →
    (size signature : ℕ) (extent : ℤ) (bytes : List ℕ) (a : KeptArea) (placed : List Placed) (o : ℕ) (new : List ℕ) →
    k.area_of bytes ≡ Some a → Alike a.placed placed → signature < 2 ^ 32 → FitsSigned w32 extent →
    k.allocated size signature extent bytes ≡ Some (o, new) → IsGap a.capacity (footprint size) placed o

-- what is kept and what the storage machine has in its place go on alike
pub record KeepsAlike : Type 0 where
  -- so no law speaks of nothing: each list that is kept is alike to one
  pub some : (gs : List Kept) → (ps : List Placed) × Alike gs ps
  pub ordered :
      (capacity : ℕ) (gs : List Kept) (ps : List Placed) → Alike gs ps → InOrder 0 capacity gs → IsOrdered 0 capacity ps
  pub placed :
      (g : Kept) (p : Placed) (gs : List Kept) (ps : List Placed) →
      Alike (g ∷ []) (p ∷ []) → Alike gs ps → Alike (with_kept g gs) (with_placed p ps)
  pub freed :
      (offset : ℕ) (gs : List Kept) (ps : List Placed) →
      Alike gs ps → Alike (without_kept offset gs) (without_offset offset ps)
  pub found :
      (offset : ℕ) (gs : List Kept) (ps : List Placed) →
      Alike gs ps → (kept_at gs offset ≡ None) ↔ (placed_at ps offset ≡ None)
