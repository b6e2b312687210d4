-- Frames beside storage: what an activation owns lies in its own bytes of either stack, and what all of them take is
-- bounded.
use Rattle.std.specs.Prelude.{ℕ, suc, ◌+◌, ◌-◌, ◌<◌, ◌≤◌, ◌≡◌, ◌⊎◌, ◌==◌, Bool, true, false, List, [], ◌∷◌, length}
use Rattle.std.specs.Prelude.{Some, ⊤}
use Rattle.pli_meaning.specs.StorageState.{State, Living, living_of, heap_serial}
use Rattle.area_keeper.specs.Keeper.{Keeper}
use Rattle.pli_coding.specs.Frames.{MemoryParts, fixed_size}
use Rattle.storage_relation.specs.Changes.{with_memory}
use Rattle.storage_relation.specs.Served.{Now, Holds}
use Rattle.storage_relation.specs.Standing.{Holder, held, holder_of, bytes_of}
use Rattle.storage_relation.specs.Stored.{Places, IsClear}
use Rattle.activation_relation.specs.Layers.{Layer}
use Rattle.activation_relation.specs.Frames.{AreLaid, AreBeside, BesideTold, upper_top, lower_end, Stores, stored}
use Rattle.activation_relation.specs.Frames.{frame_bytes, frame_start}

-- ---- what an activation owns

-- above its frame's fixed part, beside what is told of words there, or on the lower stack
abbrev pub IsOwnPlace : MemoryParts → Layer → List Layer → (at count : ℕ) → Type 0
IsOwnPlace parts φ φs at count =
    ((φ.at + fixed_size φ.level φ.parameters ≤ at) × (at + count ≤ φ.top) × BesideTold at count φ)
    ⊎ ((φ.lower ≤ at) × (at + count ≤ lower_end parts φs))

abbrev pub owns_by : Bool → Type 0 → Type 0 → Type 0
owns_by true own others = own
owns_by false own others = others

-- by the height of the owner; what no activation owns, STATIC variables, lies before the stacks
abbrev pub IsPlaceOf : MemoryParts → List Layer → (owner at count : ℕ) → Type 0
IsPlaceOf parts [] owner at count = at + count ≤ parts.stack_start
IsPlaceOf parts (φ ∷ φs) owner at count =
    owns_by (owner == suc (length φs)) (IsOwnPlace parts φ φs at count) (IsPlaceOf parts φs owner at count)

pub record AreOwned (k : Keeper) (π : Places) (s : State) (parts : MemoryParts) (φs : List Layer) : Type 0 where
  pub living :
      (n : ℕ) (l : Living) → living_of s.living n ≡ Some l →
      IsPlaceOf parts φs l.owner (π.at n) (bytes_of k (holder_of l))
  -- the heap lies behind the stacks
  pub heap : parts.stack_end ≤ π.at heap_serial
  -- and what is told of static data before them
  pub constants : (n v : ℕ) → π.constants n ≡ Some v → n < parts.stack_start

-- no activation above a height owns anything
abbrev pub AreOwnersLow : (most : ℕ) → State → Type 0
AreOwnersLow most s = (n : ℕ) (l : Living) → living_of s.living n ≡ Some l → l.owner ≤ most

-- words that lie in so many bytes from a place on
abbrev pub AreWithin : (at count : ℕ) → Stores → Type 0
AreWithin at count [] = ⊤
AreWithin at count (x ∷ xs) = ((at ≤ x.0) × (x.0 + 4 ≤ at + count)) × AreWithin at count xs

-- ---- the laws

pub record FramesApart : Type 0 where
  -- all that is stored lies beside all frames
  pub storage :
      (k : Keeper) (π : Places) (s : State) (parts : MemoryParts) (φs : List Layer) (n : ℕ) (h : Holder) →
      AreOwned k π s parts φs → AreLaid parts φs → held s n ≡ Some h → AreBeside parts (π.at n) (bytes_of k h) φs
  -- the newest frame's bytes, and all between the two stacks, are no storage's, and none of them is told
  pub frame :
      (k : Keeper) (π : Places) (s : State) (parts : MemoryParts) (φ : Layer) (φs : List Layer) →
      AreOwned k π s parts (φ ∷ φs) → AreLaid parts (φ ∷ φs) → IsClear k π s (frame_start φ) (frame_bytes φ)
  pub free :
      (k : Keeper) (π : Places) (s : State) (parts : MemoryParts) (φs : List Layer) → AreOwned k π s parts φs →
      AreLaid parts φs → IsClear k π s (upper_top parts φs) (lower_end parts φs - upper_top parts φs)
  -- so what code stores there leaves all that is stored
  pub stored_apart :
      (w : Now) (at count : ℕ) (xs : Stores) → Holds w → IsClear w.keeper w.places w.state at count →
      at + count ≤ length w.memory → AreWithin at count xs → Holds (with_memory (stored xs w.memory) w)
  -- a block that is entered owns nothing yet, and what it owned is gone with it
  pub entered :
      (k : Keeper) (π : Places) (s : State) (parts : MemoryParts) (φ : Layer) (φs : List Layer) →
      AreOwned k π s parts φs → AreOwnersLow (length φs) s → AreOwned k π s parts (φ ∷ φs)
  pub left :
      (k : Keeper) (π : Places) (s : State) (parts : MemoryParts) (φ : Layer) (φs : List Layer) →
      AreOwned k π s parts (φ ∷ φs) → AreOwnersLow (length φs) s → AreOwned k π s parts φs
