-- What calls on free blocks answer, and what is known where something is found.
use Rattle.std.specs.Prelude.{ℕ, ◌+◌, ◌-◌, ◌^◌, ◌<◌, ◌≤◌, ◌≡◌, ◌⊎◌, Bool, false, List, length, Option, Some, None}
use Rattle.area_keeper.specs.Chain.{capacity_in}
use Rattle.area_heap.specs.Answers.{kept_of}
use Rattle.free_keeper.specs.FreeList.{Free, free, front_for, link_place, link_behind, size_of, kept_in, is_listed}
use Rattle.free_keeper.specs.FreeList.{Joined, free_list_area}

abbrev pub as_joined : (before offset size link : ℕ) → Joined
as_joined before offset size link = record { before = before; block = free offset size; link = link }

-- whether links lead along free blocks, from a link on, where there is one
abbrev pub is_listed_from : (front : ℕ) → List ℕ → List Free → Option ℕ → Bool
is_listed_from front bytes fs None = false
is_listed_from front bytes fs (Some link) = is_listed front link bytes fs

-- what leads to a free block of so many bytes or more
pub record IsRoom (bytes : List ℕ) (front needed before : ℕ) : Type 0 where
  pub place : link_place front before + 4 ≤ length bytes
  pub some : 1 ≤ link_behind front before bytes
  pub inside :
      front + (link_behind front before bytes - 1) + size_of front (link_behind front before bytes - 1) bytes ≤ length
      bytes
  pub fits :
      (size_of front (link_behind front before bytes - 1) bytes ≡ needed)
      ⊎ (needed + 16 ≤ size_of front (link_behind front before bytes - 1) bytes)
  pub wide : 16 ≤ needed
  pub small : length bytes < 2 ^ 31

-- the generation of a signature at an offset is there, and its header stands at a place
pub record IsFound (bytes : List ℕ) (offset signature header : ℕ) : Type 0 where
  pub stands : header ≡ front_for (capacity_in bytes) + offset
  pub is : kept_of offset signature (free_list_area bytes) ≡ Some (kept_in header offset bytes)
  pub inside : header + 16 ≤ length bytes
  pub small : length bytes < 2 ^ 31
