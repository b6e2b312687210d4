-- What the list of free blocks does with small areas, computed.
use Rattle.std.proofs.Common.{◌≡◌, ℕ, ℤ, pos, negsuc, List, [], ◌∷◌, Option, Some, None, refl}
use Rattle.std.specs.Prelude.{replicate}
use Rattle.area_keeper.specs.Keeper.{Kept, KeptArea}
use Rattle.area_keeper.specs.KeptAreas.{part, with_part}
use Rattle.area_keeper.specs.Chain.{chain}
use Rattle.granule_keeper.specs.Granules.{granules}
use Rattle.free_keeper.specs.FreeList.{free_list}

abbrev pub generation : (offset size signature : ℕ) → ℤ → Kept
generation o n s z = record { offset = o; size = n; signature = s; extent = z }

abbrev pub area : ℕ → List Kept → Option KeptArea
area c gs = Some (record { capacity = c; placed = gs })

-- the bytes after something, and nothing where it wasn't done
abbrev pub placed : Option (ℕ × List ℕ) → List ℕ
placed None = []
placed (Some r) = r.1

abbrev pub offset : Option (ℕ × List ℕ) → Option ℕ
offset None = None
offset (Some r) = Some r.0

abbrev pub done : Option (List ℕ) → List ℕ
done None = []
done (Some bytes) = bytes

abbrev pub empty : List ℕ
empty = free_list.made 96 (replicate 112 7)

abbrev pub one : List ℕ
one = placed (free_list.allocated 16 5 (pos 3) empty)

abbrev pub two : List ℕ
two = placed (free_list.allocated 16 6 (pos 0) one)

abbrev pub full : List ℕ
full = placed (free_list.allocated 13 5 (negsuc 1) two)

-- the first and the last are freed
abbrev pub holed : List ℕ
holed = done (free_list.freed 64 5 (done (free_list.freed 0 5 full)))

-- the area's words and the map: the capacity of 96 is one free block
empty_front : part 0 16 empty ≡ 70 ∷ 82 ∷ 69 ∷ 69 ∷ 96 ∷ 0 ∷ 0 ∷ 0 ∷ 1 ∷ 0 ∷ 0 ∷ 0 ∷ 0 ∷ 7 ∷ 7 ∷ 7 ∷ []
empty_front = refl

empty_block : part 16 8 empty ≡ 96 ∷ 0 ∷ 0 ∷ 0 ∷ 0 ∷ 0 ∷ 0 ∷ 0 ∷ []
empty_block = refl

empty_stands : free_list.area_of empty ≡ area 96 []
empty_stands = refl

first_at : offset (free_list.allocated 16 5 (pos 3) empty) ≡ Some 0
first_at = refl

second_at : offset (free_list.allocated 16 6 (pos 0) one) ≡ Some 32
second_at = refl

third_at : offset (free_list.allocated 13 5 (negsuc 1) two) ≡ Some 64
third_at = refl

-- bits of the places 0, 2 and 4, and no free block
full_front : part 8 5 full ≡ 0 ∷ 0 ∷ 0 ∷ 0 ∷ 21 ∷ []
full_front = refl

full_stands :
    free_list.area_of full ≡ area 96 (generation 0 16 5 (pos 3) ∷ generation 32 16 6 (pos 0) ∷ generation 64 13 5
    (negsuc 1) ∷ [])
full_stands = refl

no_room : free_list.allocated 0 5 (pos 0) full ≡ None
no_room = refl

holed_stands : free_list.area_of holed ≡ area 96 (generation 32 16 6 (pos 0) ∷ [])
holed_stands = refl

-- the block at 0 leads to the one at 64
holed_blocks : (part 8 5 holed ≡ 1 ∷ 0 ∷ 0 ∷ 0 ∷ 4 ∷ []) × (part 16 8 holed ≡ 32 ∷ 0 ∷ 0 ∷ 0 ∷ 65 ∷ 0 ∷ 0 ∷ 0 ∷ [])
holed_blocks = (refl, refl)

-- two gaps of 32 bytes, where 48 are wanted
gaps_apart : free_list.allocated 32 5 (pos 0) holed ≡ None
gaps_apart = refl

least_gap : offset (free_list.allocated 16 5 (pos 0) holed) ≡ Some 0
least_gap = refl

-- the larger of two gaps, where it is the first: 48 bytes at 0, 16 at 80
abbrev pub uneven : List ℕ
uneven =
    done (free_list.freed 80 4 (done (free_list.freed 0 4
    (placed (free_list.allocated 0 4 (pos 0) (placed (free_list.allocated 16 6 (pos 0) (placed (free_list.allocated 32
    4 (pos 0) empty)))))))))

uneven_stands : free_list.area_of uneven ≡ area 96 (generation 48 16 6 (pos 0) ∷ [])
uneven_stands = refl

first_of_two : offset (free_list.allocated 0 5 (pos 0) uneven) ≡ Some 0
first_of_two = refl

-- what is left of the first gap is in the list
left_over : offset (free_list.allocated 16 5 (pos 0) (placed (free_list.allocated 0 5 (pos 0) uneven))) ≡ Some 16
left_over = refl

-- ---- what is freed

another_signature : free_list.freed 32 5 full ≡ None
another_signature = refl

nothing_there : free_list.freed 16 5 full ≡ None
nothing_there = refl

-- the one between two free blocks: all three are one
joined_both : part 8 13 (done (free_list.freed 32 6 holed)) ≡ 1 ∷ 0 ∷ 0 ∷ 0 ∷ 0 ∷ 7 ∷ 7 ∷ 7 ∷ 96 ∷ 0 ∷ 0 ∷ 0 ∷ 0 ∷ []
joined_both = refl

-- the first where the second is free, the second where the first is
joined_with_next :
    free_list.area_of (done (free_list.freed 0 5 (done (free_list.freed 32 6 full)))) ≡ area 96 (generation 64 13 5
    (negsuc 1) ∷ [])
joined_with_next = refl

joined_with_last :
    free_list.area_of (done (free_list.freed 32 6 (done (free_list.freed 0 5 full)))) ≡ area 96 (generation 64 13 5
    (negsuc 1) ∷ [])
joined_with_last = refl

joined_holds :
    offset (free_list.allocated 48 5 (pos 0) (done (free_list.freed 32 6 (done (free_list.freed 0 5 full))))) ≡ Some 0
joined_holds = refl

emptied_stands : free_list.area_of (free_list.emptied full) ≡ area 96 []
emptied_stands = refl

-- ---- copies

-- a generation at 32 with its data written
abbrev pub written : List ℕ
written = with_part (replicate 16 9) (free_list.data_at 32 holed) holed

too_small : free_list.copied written (free_list.made 32 (replicate 48 0)) ≡ None
too_small = refl

-- of the capacity that its last one needs: no free block is behind it
abbrev copy : List ℕ
copy = done (free_list.copied written (free_list.made 64 (replicate 80 0)))

copy_stands : free_list.area_of copy ≡ area 64 (generation 32 16 6 (pos 0) ∷ [])
copy_stands = refl

copy_data : part (free_list.data_at 32 copy) 16 copy ≡ replicate 16 9
copy_data = refl

copy_blocks : part 16 8 copy ≡ 32 ∷ 0 ∷ 0 ∷ 0 ∷ 0 ∷ 0 ∷ 0 ∷ 0 ∷ []
copy_blocks = refl

-- of a larger capacity, whose map has another byte: the last free block grows
abbrev large : List ℕ
large = done (free_list.copied written (free_list.made 144 (replicate 160 0)))

large_stands : free_list.area_of large ≡ area 144 (generation 32 16 6 (pos 0) ∷ [])
large_stands = refl

large_block : part 80 8 large ≡ 80 ∷ 0 ∷ 0 ∷ 0 ∷ 0 ∷ 0 ∷ 0 ∷ 0 ∷ []
large_block = refl

-- a full area is copied into a larger one
grown :
    offset (free_list.allocated 0 1 (pos 0) (done (free_list.copied full (free_list.made 112 (replicate 128 0))))) ≡
    Some 96
grown = refl

-- ---- bytes that stand for no area

zeros : free_list.area_of (replicate 112 0) ≡ None
zeros = refl

-- one byte more than the capacity
too_long : free_list.area_of (7 ∷ full) ≡ None
too_long = refl

unmarked : free_list.area_of (with_part (0 ∷ []) 0 full) ≡ None
unmarked = refl

-- a capacity that isn't that of so many bytes
another_capacity : free_list.area_of (with_part (80 ∷ []) 4 full) ≡ None
another_capacity = refl

-- the other keepers' areas
chain_refused : free_list.area_of (chain.made 96 (replicate 112 0)) ≡ None
chain_refused = refl

granules_refused : free_list.area_of (granules.made 96 (replicate 112 0)) ≡ None
granules_refused = refl

refused_by_others : (chain.area_of empty ≡ None) × (granules.area_of empty ≡ None)
refused_by_others = (refl, refl)

-- the second free block leads back to the first
abbrev ring : List ℕ
ring = with_part (1 ∷ []) 84 holed

around : free_list.area_of ring ≡ None
around = refl

-- a walk along them ends none the less
around_ends : free_list.allocated 32 5 (pos 0) ring ≡ None
around_ends = refl

-- the first free block leads to itself
to_itself : free_list.area_of (with_part (1 ∷ []) 20 holed) ≡ None
to_itself = refl

-- the list misses what is free
nothing_listed : free_list.area_of (with_part (0 ∷ []) 8 holed) ≡ None
nothing_listed = refl

-- a free block that reaches into a generation
overlong : free_list.area_of (with_part (48 ∷ []) 16 holed) ≡ None
overlong = refl

-- free blocks that touch and aren't one
unjoined :
    free_list.area_of (with_part (1 ∷ []) 8 (with_part (48 ∷ 0 ∷ 0 ∷ 0 ∷ 49 ∷ []) 16 (with_part (48 ∷ 0 ∷ 0 ∷ 0 ∷ 0 ∷
    []) 64 empty))) ≡ None
unjoined = refl

-- a bit inside the first's data: what stands there would be taken for a header
inside : free_list.area_of (with_part (23 ∷ []) 12 full) ≡ None
inside = refl

-- a bit in free storage, and one behind the capacity
begins_in_free : free_list.area_of (with_part (5 ∷ []) 12 holed) ≡ None
begins_in_free = refl

begins_outside : free_list.area_of (with_part (85 ∷ []) 12 full) ≡ None
begins_outside = refl

-- the first's size reaches the second
large_size : free_list.area_of (with_part (17 ∷ []) 16 full) ≡ None
large_size = refl

-- data that look like a header are data
header_in_data :
    free_list.area_of (with_part (part 16 16 full) (free_list.data_at 32 full) full) ≡ free_list.area_of full
header_in_data = refl
