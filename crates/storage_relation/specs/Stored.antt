-- What is stored: where all that lives stands in memory, side by side, and what the storage machine keeps of it.
use Rattle.std.specs.Prelude.{ℕ, Bool, List, true, false, ◌==◌, if◌then◌else◌, ◌+◌, ◌≤◌, ◌⊎◌, ◌%◌, ◌≡◌, ◌≢◌, length}
use Rattle.std.specs.Prelude.{Some, Option, None, ◌<◌, [], ◌∷◌, ⊤, pos, slice_get, slice_index}
use Rattle.pli_meaning.specs.BasicValues.{Name, NullName, VariableName, BasedName}
use Rattle.pli_meaning.specs.Contents as C
use Rattle.pli_meaning.specs.Contents.{Placed}
use Rattle.pli_meaning.specs.StorageState.{heap_capacity, heap_serial, State, Living, living_of, AreaContents}
use Rattle.pli_types.specs.Templates.{Template}
use Rattle.area_keeper.specs.Keeper.{Keeper}
use Rattle.area_keeper.specs.KeptAreas.{part}
use Rattle.pli_serving.specs.Templates.{shape_at}
use Rattle.storage_relation.specs.Fills.{Fills}
use Rattle.storage_relation.specs.Standing.{Holder, bytes_of, held, Stands, Alone, AreaOf, holder_of}

-- ---- where it stands

-- the ghost: what memory and services have that the state doesn't tell
pub record Places : Type 0 where
  -- where the data of each serial begin, and the number of its signature
  pub at : (serial : ℕ) → ℕ
  pub number : (serial : ℕ) → ℕ
  -- where data may begin, behind the code
  pub low : ℕ
  -- the signatures by number, also those that the run filled in
  pub signatures : List Template
  -- whether the heap's bytes are an area's
  pub heap_made : Bool
  -- bytes of static data that no run changes, by place
  pub constants : (place : ℕ) → Option ℕ
  -- the signatures that a run may fill in
  pub fills : List Fills

-- a heap in which nothing was placed yet is empty, whatever its bytes
abbrev pub made_if : Keeper → (is_made : Bool) → List ℕ → List ℕ
made_if k true bytes = bytes
made_if k false bytes = k.made heap_capacity bytes

abbrev pub taken_as : Keeper → Places → (serial : ℕ) → List ℕ → List ℕ
taken_as k π serial bytes = if serial == heap_serial then made_if k π.heap_made bytes else bytes

-- so many bytes from a place on, and so many from another, share none
abbrev pub Beside : (at count from other : ℕ) → Type 0
Beside at count from other = (at + count ≤ from) ⊎ (from + other ≤ at)

-- the bytes of a holder
abbrev pub slice : Keeper → Places → (serial : ℕ) → Holder → List ℕ → List ℕ
slice k π serial h m = part (π.at serial) (bytes_of k h) m

-- the bytes that are told of static data stand in memory, from one place up to another
abbrev pub AreTold : (constants : ℕ → Option ℕ) → (from to : ℕ) → List ℕ → Type 0
AreTold constants from to m = (n v : ℕ) → constants n ≡ Some v → (from ≤ n) × (n < to) × (slice_index m n ≡ v)

-- of so many bytes from a place on none is told
abbrev pub IsUntold : Places → (at count : ℕ) → Type 0
IsUntold π at count = (n v : ℕ) → π.constants n ≡ Some v → (n < at) ⊎ (at + count ≤ n)

-- memory has all that lives: each holder in its own bytes, within memory, where words can be loaded, and beside all
-- others; and behind the code the bytes that are told of static data, beside all holders
pub record StoredAs (k : Keeper) (π : Places) (s : State) (m : List ℕ) : Type 0 where
  pub stands : (n : ℕ) (h : Holder) → held s n ≡ Some h → Stands k π.signatures h (taken_as k π n (slice k π n h m))
  pub inside : (n : ℕ) (h : Holder) → held s n ≡ Some h → π.at n + bytes_of k h ≤ length m
  pub placed : (n : ℕ) (h : Holder) → held s n ≡ Some h → (π.low ≤ π.at n) × (π.at n % 4 ≡ 0)
  pub apart :
      (i j : ℕ) (g h : Holder) → i ≢ j → held s i ≡ Some g → held s j ≡ Some h →
      Beside (π.at i) (bytes_of k g) (π.at j) (bytes_of k h)
  pub told : AreTold π.constants π.low (length m) m
  pub untold : (n : ℕ) (h : Holder) → held s n ≡ Some h → IsUntold π (π.at n) (bytes_of k h)

-- ---- where what a name names stands

abbrev pub place_held : Keeper → Places → List ℕ → (serial offset : ℕ) → Option Holder → ℕ
place_held k π m n o None = 0
place_held k π m n o (Some (Alone g)) = 0
place_held k π m n o (Some (AreaOf a)) = π.at n + k.data_at o (slice k π n (AreaOf a) m)

abbrev pub place_of : Keeper → Places → State → List ℕ → Name → ℕ
place_of k π s m NullName = 0
place_of k π s m (VariableName n) = π.at n
place_of k π s m (BasedName n o) = place_held k π m n o (held s n)

-- ---- what lives, memory aside

-- serials fall from the newest on, and none is 0
abbrev pub AreFalling : (above : ℕ) → List Living → Type 0
AreFalling above [] = ⊤
AreFalling above (l ∷ ls) = (l.serial < above) × (0 < l.serial) × AreFalling l.serial ls

-- what lives has a signature by number, and no REFER extent: that only BASED and CONTROLLED generations have
pub record Lives (π : Places) (s : State) : Type 0 where
  pub falling : AreFalling (s.serials + 1) s.living
  pub numbered :
      (n : ℕ) (l : Living) → living_of s.living n ≡ Some l →
      shape_at π.signatures (π.number n) ≡ Some l.generation.shape
  pub extents : (n : ℕ) (l : Living) → living_of s.living n ≡ Some l → l.generation.extent ≡ pos 0

-- memory becomes another, the same but for so many bytes from a place on
pub record IsBeside (at count : ℕ) (old new : List ℕ) : Type 0 where
  pub as_many : length new ≡ length old
  pub same : (j : ℕ) → (j < at) ⊎ (at + count ≤ j) → slice_index new j ≡ slice_index old j

abbrev pub with_placed_in : AreaContents → List Placed → AreaContents
with_placed_in a placed = record { capacity = a.capacity; placed = placed }

-- ---- changes of the ghost

abbrev pub with_heap_made : Places → Places
with_heap_made π = record π { heap_made = true }

abbrev pub with_place : (serial at number : ℕ) → Places → Places
with_place serial at number π =
    record π {
      at = λ j. if j == serial then at else π.at j;
      number = λ j. if j == serial then number else π.number j;
    }

abbrev pub with_living : Living → State → State
with_living l s = record s { living = l ∷ s.living }

abbrev pub Extends : (old new : List Template) → Type 0
Extends old new = (n : ℕ) (s : C.Shape) → shape_at old n ≡ Some s → shape_at new n ≡ Some s

-- each template keeps its number, with open extents or without: so a number means its shape, too
abbrev pub KeepNumbers : (old new : List Template) → Type 0
KeepNumbers old new = (n : ℕ) (t : Template) → slice_get old n ≡ Some t → slice_get new n ≡ Some t

abbrev pub with_signatures : List Template → Places → Places
with_signatures t π = record π { signatures = t }

-- ---- bytes that no storage takes, and of which none is told

abbrev pub IsClear : Keeper → Places → State → (at count : ℕ) → Type 0
IsClear k π s at count =
    ((n : ℕ) (h : Holder) → held s n ≡ Some h → Beside (π.at n) (bytes_of k h) at count) × IsUntold π at count

-- ---- regions of the stack

pub record Region : Type 0 where
  pub from : ℕ
  pub to : ℕ

pub record InRegions (k : Keeper) (π : Places) (s : State) (region : ℕ → Region) : Type 0 where
  pub living :
      (n : ℕ) (l : Living) → living_of s.living n ≡ Some l → ((region l.owner).from ≤ π.at n)
      × (π.at n + bytes_of k (holder_of l) ≤ (region l.owner).to)

abbrev pub AreLow : (most : ℕ) → List Living → Type 0
AreLow most [] = ⊤
AreLow most (l ∷ ls) = (l.owner ≤ most) × AreLow most ls
