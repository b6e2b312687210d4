-- How far a walk along a chain has come, and what is left of what is asked.
use Rattle.std.specs.Prelude.{ℕ, suc, ◌+◌, ◌^◌, ◌≤◌, ◌<◌, ◌≡◌, ◌≢◌, max, length, nat_lt, List, [], ◌∷◌, if◌then◌else◌, Option, Some, None}
use Rattle.area_keeper.specs.Keeper.{Kept, KeptArea}
use Rattle.area_keeper.specs.KeptAreas.{kept_at}
use Rattle.area_keeper.specs.KeeperLaws.{greatest_capacity}
use Rattle.area_keeper.specs.Chain.{word_at, capacity_in, walked, link_before, link_from, last_end, first_link, room_from, chain_area, kept_in, link_of}
use Rattle.area_heap.specs.Answers.{kept_of}

abbrev pub placed_of : Option KeptArea → List Kept
placed_of None = []
placed_of (Some a) = a.placed

-- the generations of a chain
abbrev pub generations : List ℕ → List Kept
generations bytes = placed_of (chain_area bytes)

-- those at an offset and behind it
abbrev pub rest_from : (offset : ℕ) → List Kept → List Kept
rest_from o [] = []
rest_from o (g ∷ gs) = if nat_lt g.offset o then rest_from o gs else g ∷ gs

-- a walk has come to a link that stands at a place, and what it passed ends at another; of what lies behind all that was passed, the
-- rest tells what the whole chain tells
pub record IsReached (bytes : List ℕ) (link_at end link : ℕ) : Type 0 where
  pub number : ℕ
  pub reads : walked number end (capacity_in bytes) link bytes ≡ Some (rest_from end (generations bytes))
  pub linked : word_at link_at bytes ≡ link
  pub behind_front : 12 ≤ link_at
  pub before_end : link_at ≤ 12 + end
  pub within : end ≤ capacity_in bytes
  pub as_many : length bytes ≡ 16 + capacity_in bytes
  pub bounded : capacity_in bytes ≤ greatest_capacity
  pub before :
      (o : ℕ) → link_at < 28 + o →
      link_before first_link o (generations bytes) ≡ link_before link_at o (rest_from end (generations bytes))
  pub from : (o : ℕ) → link_at < 28 + o → link_from o (generations bytes) ≡ link_from o (rest_from end (generations bytes))
  pub kept : (o : ℕ) → link_at < 28 + o → kept_at (generations bytes) o ≡ kept_at (rest_from end (generations bytes)) o
  pub ends : last_end (generations bytes) ≡ max end (last_end (rest_from end (generations bytes)))

-- the walk has come to the first gap of so many bytes
pub record IsGapAt (bytes : List ℕ) (needed link_at end link : ℕ) : Type 0 where
  pub reached : IsReached bytes link_at end link
  pub in_front : link ≢ 0 → end < link
  pub enough : end + needed ≤ capacity_in bytes
  pub room : room_from 0 (capacity_in bytes) needed (generations bytes) ≡ Some end

-- the generation of a signature at an offset is there, and the link to it stands at a place
pub record IsFound (bytes : List ℕ) (offset signature link_at : ℕ) : Type 0 where
  pub is : kept_of offset signature (chain_area bytes) ≡ Some (kept_in offset bytes)
  pub before : link_before first_link offset (generations bytes) ≡ link_at
  pub from : link_from (suc offset) (generations bytes) ≡ word_at (link_of offset) bytes
  pub front : 12 ≤ link_at
  pub below : link_at < 28 + offset
  pub inside : 32 + offset ≤ length bytes
  pub small : length bytes < 2 ^ 32
