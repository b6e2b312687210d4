-- An area that gets other bytes, as ALLOCATE and FREE leave it, and where what a name names stands then.
use Rattle.std.specs.Int.{w32}
use Rattle.std.specs.Prelude.{ℕ, List, ◌≡◌, length, Some, ◌^◌, ◌<◌, FitsSigned}
use Rattle.pli_meaning.specs.BasicValues.{Name, BasedName}
use Rattle.pli_meaning.specs.Contents.{Placed, Generation, placed_at, footprint_of, gap}
use Rattle.pli_meaning.specs.StorageState.{AreaContents, area_at, with_area}
use Rattle.area_keeper.specs.KeptAreas.{with_part}
use Rattle.storage_relation.specs.Served.{Now}
use Rattle.storage_relation.specs.Standing.{AreaOf, size_of}
use Rattle.storage_relation.specs.Stored.{slice, place_of}

-- ---- other bytes

abbrev pub bytes_now : (w : Now) → ℕ → AreaContents → List ℕ
bytes_now w n a = slice w.keeper w.places n (AreaOf a) w.memory

-- an area, its other bytes, and what becomes of its generations
pub record Turn (w : Now) (n : ℕ) : Type 0 where
  pub area : AreaContents
  pub was : area_at w.state n ≡ Some area
  pub bytes : List ℕ
  pub long : length bytes ≡ w.keeper.bytes_for area.capacity
  pub change : List Placed → List Placed

-- where a name's generation stands then
abbrev pub place_then : (w : Now) (n : ℕ) → Turn w n → Name → ℕ
place_then w n t p =
    place_of w.keeper w.places (with_area n t.change w.state) (with_part t.bytes (w.places.at n) w.memory) p

-- its data begin in the bytes where they began
abbrev pub StaysIn : (w : Now) (n : ℕ) → Turn w n → Name → Type 0
StaysIn w n t p =
    (q : ℕ) (h : Generation) → p ≡ BasedName n q → placed_at t.area.placed q ≡ Some h →
    w.keeper.data_at q t.bytes ≡ w.keeper.data_at q (bytes_now w n t.area)

-- ---- FREE

-- the generation that goes, by its offset and the number of its signature
pub record Freeing (w : Now) (n : ℕ) (t : Turn w n) : Type 0 where
  pub offset : ℕ
  pub signature : ℕ
  pub generation : Generation
  pub there : placed_at t.area.placed offset ≡ Some generation
  pub freed_so : w.keeper.freed offset signature (bytes_now w n t.area) ≡ Some t.bytes

-- ---- ALLOCATE

-- what is given to the keeper for a new generation, the bytes that it makes of the area's, and those with the data
pub record Placing (w : Now) (n : ℕ) (t : Turn w n) : Type 0 where
  pub offset : ℕ
  pub signature : ℕ
  pub generation : Generation
  pub spelled : List ℕ
  pub headed : List ℕ
  pub free : gap t.area.capacity (footprint_of generation) t.area.placed ≡ Some offset
  pub small : signature < 2 ^ 32
  pub fits : FitsSigned w32 generation.extent
  pub length_same : length spelled ≡ size_of generation
  pub allocated_so :
      w.keeper.allocated (size_of generation) signature generation.extent (bytes_now w n t.area) ≡ Some (offset, headed)
  pub written : t.bytes ≡ with_part spelled (w.keeper.data_at offset headed) headed
