-- The second keeper: a mark for each granule of 16 bytes tells where generations lie. The area's mark word stands first, then its
-- capacity, the marks, and the granules, from the next place on that is a multiple of 16. A generation's first granule is its header:
-- its size, signature and extent, a word each. Where the front is right the bytes stand for an area, whatever the marks are: each
-- granule that isn't free belongs to one generation.
use Rattle.std.specs.Prelude.{ℕ, zero, suc, ◌+◌, ◌-◌, ◌*◌, ◌/◌, ◌%◌, ℤ, Bool, true, false, ◌&&◌, ◌==◌, nat_le, List, [], ◌∷◌, ◌++◌, length, take, replicate, Option, Some, None, if◌then◌else◌}
use Rattle.rv_meaning.specs.Words.{signed, word}
use Rattle.pli_typing.specs.Signatures.{rounded_up, footprint}
use Rattle.area_keeper.specs.Keeper.{Kept, KeptArea, Keeper}
use Rattle.area_keeper.specs.KeptAreas.{kept_as, kept_at, part, with_part}
use Rattle.area_keeper.specs.KeeperLaws.{greatest_capacity}
use Rattle.area_keeper.specs.Chain.{word_at, with_word, capacity_in}
use Rattle.granule_keeper.specs.Marks.{insides, room_in, with_run, without_run, used}

-- ---- the front

-- what tells such an area from other bytes: the letters GRAN
abbrev pub mark : ℕ
mark = 0x4e415247

-- how many bytes stand in front of the granules
abbrev pub front_for : (capacity : ℕ) → ℕ
front_for capacity = rounded_up 16 (8 + capacity / 16)

abbrev pub bytes_for : (capacity : ℕ) → ℕ
bytes_for capacity = front_for capacity + capacity

abbrev pub marks_in : List ℕ → List ℕ
marks_in bytes = part 8 (capacity_in bytes / 16) bytes

abbrev pub with_marks : List ℕ → List ℕ → List ℕ
with_marks marks bytes = with_part marks 8 bytes

-- whether bytes begin with an area's words, and are as many as its capacity takes
abbrev pub has_front : List ℕ → Bool
has_front bytes =
    (word_at 0 bytes == mark)
    && ((capacity_in bytes % 16 == 0)
    && (nat_le (capacity_in bytes) greatest_capacity && (length bytes == bytes_for (capacity_in bytes))))

-- ---- what bytes stand for

-- the size in a header where a footprint of that size has so many granules, else what these hold
abbrev pub fitted : (size number : ℕ) → ℕ
fitted size n = if footprint size == 16 * n then size else 16 * (n - 1)

-- the generation of so many granules whose header stands at a place
abbrev pub kept_in : (header offset number : ℕ) → List ℕ → Kept
kept_in at o n bytes =
    kept_as o (fitted (word_at at bytes) n) (word_at (4 + at) bytes) (signed (word_at (8 + at) bytes))

-- the generations that marks tell from an offset on, behind a granule that is free or not
abbrev pub placed_from : (front : ℕ) → List ℕ → (offset : ℕ) → (behind_free : Bool) → (marks : List ℕ) → List Kept
placed_from front bytes o free [] = []
placed_from front bytes o free (zero ∷ ms) = placed_from front bytes (16 + o) true ms
placed_from front bytes o free (suc zero ∷ ms) =
    kept_in (front + o) o (suc (insides ms)) bytes ∷ placed_from front bytes (16 + o) false ms
placed_from front bytes o true (suc (suc m) ∷ ms) =
    kept_in (front + o) o (suc (insides ms)) bytes ∷ placed_from front bytes (16 + o) false ms
placed_from front bytes o false (suc (suc m) ∷ ms) = placed_from front bytes (16 + o) false ms

abbrev pub area_behind : (has_front : Bool) → List ℕ → Option KeptArea
area_behind true bytes =
    Some (record {
      capacity = capacity_in bytes;
      placed = placed_from (front_for (capacity_in bytes)) bytes 0 true (marks_in bytes);
    })
area_behind false bytes = None

abbrev pub granules_area : List ℕ → Option KeptArea
granules_area bytes = area_behind (has_front bytes) bytes

-- ---- what changes bytes

-- every granule is free
abbrev pub freed_all : (capacity : ℕ) → List ℕ → List ℕ
freed_all capacity bytes = with_marks (replicate (capacity / 16) 0) bytes

abbrev pub granules_made : (capacity : ℕ) → List ℕ → List ℕ
granules_made capacity bytes = freed_all capacity (with_word 4 capacity (with_word 0 mark bytes))

abbrev pub granules_emptied : List ℕ → List ℕ
granules_emptied bytes = freed_all (capacity_in bytes) bytes

abbrev pub with_header : (at : ℕ) → Kept → List ℕ → List ℕ
with_header at g bytes = with_word (8 + at) (word g.extent) (with_word (4 + at) g.signature (with_word at g.size bytes))

-- how many granules a generation takes
abbrev pub granules_of : (size : ℕ) → ℕ
granules_of size = footprint size / 16

-- a generation's marks and its header; its data stay what the bytes were
abbrev pub with_generation : Kept → List ℕ → List ℕ
with_generation g bytes =
    with_header (front_for (capacity_in bytes) + g.offset) g
    (with_marks (with_run (g.offset / 16) (granules_of g.size) (marks_in bytes)) bytes)

abbrev pub placed_at : (size signature : ℕ) → (extent : ℤ) → List ℕ → Option ℕ → Option (ℕ × List ℕ)
placed_at size signature extent bytes None = None
placed_at size signature extent bytes (Some o) = Some (o, with_generation (kept_as o size signature extent) bytes)

abbrev pub granules_allocated : (size signature : ℕ) → (extent : ℤ) → List ℕ → Option (ℕ × List ℕ)
granules_allocated size signature extent bytes =
    placed_at size signature extent bytes (room_in 0 (granules_of size) (marks_in bytes))

-- a generation's granules are free; its header stays, and isn't reached
abbrev pub without_generation : Kept → List ℕ → List ℕ
without_generation g bytes = with_marks (without_run (g.offset / 16) (granules_of g.size) (marks_in bytes)) bytes

-- a generation of another signature stays
abbrev pub freed_if : (signature : ℕ) → List ℕ → Option Kept → Option (List ℕ)
freed_if signature bytes None = None
freed_if signature bytes (Some g) = if g.signature == signature then Some (without_generation g bytes) else None

abbrev pub freed_in : (offset signature : ℕ) → List ℕ → Option KeptArea → Option (List ℕ)
freed_in o signature bytes None = None
freed_in o signature bytes (Some a) = freed_if signature bytes (kept_at a.placed o)

-- marks and granules of another area as far as its last generation ends; the further marks are 0
abbrev pub with_copy : (number : ℕ) → (from : List ℕ) → List ℕ → List ℕ
with_copy n from bytes =
    with_part (part (front_for (capacity_in from)) (16 * n) from) (front_for (capacity_in bytes))
    (with_marks (take n (marks_in from) ++ replicate (capacity_in bytes / 16 - n) 0) bytes)

abbrev pub granules_copied : (from : List ℕ) → List ℕ → Option (List ℕ)
granules_copied from bytes =
    if nat_le (16 * used (marks_in from)) (capacity_in bytes) then Some (with_copy (used (marks_in from)) from bytes) else None

abbrev pub granules : Keeper
granules =
    record {
      bytes_for = bytes_for;
      made = granules_made;
      area_of = granules_area;
      data_at = λ offset bytes. 16 + front_for (capacity_in bytes) + offset;
      emptied = granules_emptied;
      allocated = granules_allocated;
      freed = λ offset signature bytes. freed_in offset signature bytes (granules_area bytes);
      copied = granules_copied;
    }
