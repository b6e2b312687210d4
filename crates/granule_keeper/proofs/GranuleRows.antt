-- What the granules do with small areas, computed.
use Rattle.std.proofs.Common.{◌≡◌, ℕ, ℤ, pos, negsuc, List, [], ◌∷◌, Option, Some, None, refl}
use Rattle.std.specs.Prelude.{replicate}
use Rattle.area_keeper.specs.Keeper.{Kept, KeptArea}
use Rattle.area_keeper.specs.KeptAreas.{part, with_part}
use Rattle.granule_keeper.specs.Granules.{granules}

abbrev pub generation : (offset size signature : ℕ) → ℤ → Kept
generation o n s z = record { offset = o; size = n; signature = s; extent = z }

abbrev pub area : ℕ → List Kept → Option KeptArea
area c gs = Some (record { capacity = c; placed = gs })

-- the bytes after something, and nothing where it wasn't done
abbrev pub placed : Option (ℕ × List ℕ) → List ℕ
placed None = []
placed (Some r) = r.1

abbrev pub offset : Option (ℕ × List ℕ) → Option ℕ
offset None = None
offset (Some r) = Some r.0

abbrev pub done : Option (List ℕ) → List ℕ
done None = []
done (Some bytes) = bytes

abbrev pub empty : List ℕ
empty = granules.made 96 (replicate 112 7)

abbrev pub one : List ℕ
one = placed (granules.allocated 16 5 (pos 3) empty)

abbrev pub two : List ℕ
two = placed (granules.allocated 16 6 (pos 0) one)

abbrev pub full : List ℕ
full = placed (granules.allocated 13 5 (negsuc 1) two)

-- the first and the last are freed
abbrev pub holed : List ℕ
holed = done (granules.freed 64 5 (done (granules.freed 0 5 full)))

empty_stands : granules.area_of empty ≡ area 96 []
empty_stands = refl

first_at : offset (granules.allocated 16 5 (pos 3) empty) ≡ Some 0
first_at = refl

second_at : offset (granules.allocated 16 6 (pos 0) one) ≡ Some 32
second_at = refl

third_at : offset (granules.allocated 13 5 (negsuc 1) two) ≡ Some 64
third_at = refl

full_stands :
    granules.area_of full ≡ area 96 (generation 0 16 5 (pos 3) ∷ generation 32 16 6 (pos 0) ∷ generation 64 13 5 (negsuc 1) ∷ [])
full_stands = refl

no_room : granules.allocated 0 5 (pos 0) full ≡ None
no_room = refl

holed_stands : granules.area_of holed ≡ area 96 (generation 32 16 6 (pos 0) ∷ [])
holed_stands = refl

-- two gaps of 32 bytes, where 48 are wanted
gaps_apart : granules.allocated 32 5 (pos 0) holed ≡ None
gaps_apart = refl

least_gap : offset (granules.allocated 16 5 (pos 0) holed) ≡ Some 0
least_gap = refl

another_signature : granules.freed 32 5 full ≡ None
another_signature = refl

nothing_there : granules.freed 16 5 full ≡ None
nothing_there = refl

emptied_stands : granules.area_of (granules.emptied full) ≡ area 96 []
emptied_stands = refl

-- ---- copies

-- a generation at 32 with its data written
abbrev pub written : List ℕ
written = with_part (replicate 16 9) (granules.data_at 32 holed) holed

too_small : granules.copied written (granules.made 32 (replicate 48 0)) ≡ None
too_small = refl

-- of the capacity that its last one needs
abbrev copy : List ℕ
copy = done (granules.copied written (granules.made 64 (replicate 80 0)))

copy_stands : granules.area_of copy ≡ area 64 (generation 32 16 6 (pos 0) ∷ [])
copy_stands = refl

copy_data : part (granules.data_at 32 copy) 16 copy ≡ replicate 16 9
copy_data = refl

-- ---- bytes that stand for no area

zeros : granules.area_of (replicate 112 0) ≡ None
zeros = refl

-- one byte more than the capacity
too_long : granules.area_of (7 ∷ full) ≡ None
too_long = refl

unmarked : granules.area_of (with_part (0 ∷ []) 0 full) ≡ None
unmarked = refl

-- a capacity that isn't that of so many bytes
another_capacity : granules.area_of (with_part (80 ∷ []) 4 full) ≡ None
another_capacity = refl

-- the words of a chain
another_mark : granules.area_of (with_part (67 ∷ 72 ∷ 65 ∷ 78 ∷ []) 0 full) ≡ None
another_mark = refl

-- ---- bytes that something else wrote

-- other marks
abbrev marked : List ℕ → List ℕ
marked marks = with_part marks 8 full

-- what begins behind nothing, or behind what is free, has a mark of its own or not
begins_behind_free :
    granules.area_of (marked (3 ∷ 2 ∷ 0 ∷ 200 ∷ 1 ∷ 2 ∷ []))
    ≡ area 96 (generation 0 16 5 (pos 3) ∷ generation 48 0 0x07070707 (pos 0x07070707) ∷ generation 64 13 5 (negsuc 1) ∷ [])
begins_behind_free = refl

-- a size that isn't that of so many granules is what these hold
joined : granules.area_of (marked (1 ∷ 2 ∷ 2 ∷ 2 ∷ 1 ∷ 2 ∷ [])) ≡ area 96 (generation 0 48 5 (pos 3) ∷ generation 64 13 5 (negsuc 1) ∷ [])
joined = refl

overlong : granules.area_of (with_part (17 ∷ []) 48 full) ≡ granules.area_of full
overlong = refl

-- what is placed in front of a generation that has no mark of its own doesn't join it
unjoined :
    granules.area_of (placed (granules.allocated 0 7 (pos 1) (marked (0 ∷ 2 ∷ 2 ∷ 2 ∷ 0 ∷ 0 ∷ []))))
    ≡ area 96 (generation 0 0 7 (pos 1) ∷ generation 16 32 0x07070707 (pos 0x07070707) ∷ [])
unjoined = refl

-- what isn't marked as free is no gap
no_gap : granules.allocated 0 7 (pos 1) (marked (9 ∷ 9 ∷ 9 ∷ 9 ∷ 9 ∷ 9 ∷ [])) ≡ None
no_gap = refl

-- data that look like a header are data
header_in_data : granules.area_of (with_part (part 16 16 full) (granules.data_at 32 full) full) ≡ granules.area_of full
header_in_data = refl
