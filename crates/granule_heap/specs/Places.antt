-- Where a generation begins among marks, and what is known of one that is found.
use Rattle.std.specs.Prelude.{ℕ, suc, ◌+◌, ◌-◌, ◌/◌, ◌^◌, ◌<◌, ◌≤◌, ◌≡◌, Bool, ◌&&◌, ◌||◌, not, ◌==◌, List, length, drop, slice_index, Some}
use Rattle.area_keeper.specs.Chain.{capacity_in}
use Rattle.area_heap.specs.Answers.{kept_of}
use Rattle.granule_keeper.specs.Marks.{insides}
use Rattle.granule_keeper.specs.Granules.{front_for, marks_in, kept_in, granules_area}

-- by its mark, or as one that isn't free behind one that is
abbrev pub begins_at : (place : ℕ) → List ℕ → Bool
begins_at i ms =
    (slice_index ms i == 1) || (not (slice_index ms i == 0) && ((i == 0) || (slice_index ms (i - 1) == 0)))

-- the generation of a signature at an offset is there, and its header stands at a place
pub record IsFound (bytes : List ℕ) (offset signature header : ℕ) : Type 0 where
  pub stands : header ≡ front_for (capacity_in bytes) + offset
  pub is :
      kept_of offset signature (granules_area bytes)
      ≡ Some (kept_in header offset (suc (insides (drop (suc (offset / 16)) (marks_in bytes)))) bytes)
  pub among : offset / 16 < length (marks_in bytes)
  pub inside : header + 16 ≤ length bytes
  pub small : length bytes < 2 ^ 32
