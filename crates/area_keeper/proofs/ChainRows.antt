-- What the chain does with small areas, computed.
use Rattle.std.proofs.Common.{◌≡◌, ℕ, ℤ, pos, negsuc, List, [], ◌∷◌, Option, Some, None, refl}
use Rattle.std.specs.Prelude.{replicate}
use Rattle.area_keeper.specs.Keeper.{Kept, KeptArea}
use Rattle.area_keeper.specs.KeptAreas.{part, with_part}
use Rattle.area_keeper.specs.Chain.{chain}

abbrev pub generation : (offset size signature : ℕ) → ℤ → Kept
generation o n s z = record { offset = o; size = n; signature = s; extent = z }

abbrev pub area : ℕ → List Kept → Option KeptArea
area c gs = Some (record { capacity = c; placed = gs })

-- the bytes after something, and nothing where it wasn't done
abbrev pub placed : Option (ℕ × List ℕ) → List ℕ
placed None = []
placed (Some r) = r.1

abbrev pub offset : Option (ℕ × List ℕ) → Option ℕ
offset None = None
offset (Some r) = Some r.0

abbrev pub done : Option (List ℕ) → List ℕ
done None = []
done (Some bytes) = bytes

abbrev pub empty : List ℕ
empty = chain.made 96 (replicate 112 7)

abbrev pub one : List ℕ
one = placed (chain.allocated 16 5 (pos 3) empty)

abbrev pub two : List ℕ
two = placed (chain.allocated 16 6 (pos 0) one)

abbrev pub full : List ℕ
full = placed (chain.allocated 13 5 (negsuc 1) two)

-- the first and the last are freed
abbrev pub holed : List ℕ
holed = done (chain.freed 64 5 (done (chain.freed 0 5 full)))

empty_stands : chain.area_of empty ≡ area 96 []
empty_stands = refl

first_at : offset (chain.allocated 16 5 (pos 3) empty) ≡ Some 0
first_at = refl

second_at : offset (chain.allocated 16 6 (pos 0) one) ≡ Some 32
second_at = refl

third_at : offset (chain.allocated 13 5 (negsuc 1) two) ≡ Some 64
third_at = refl

full_stands :
    chain.area_of full ≡ area 96 (generation 0 16 5 (pos 3) ∷ generation 32 16 6 (pos 0) ∷ generation 64 13 5 (negsuc 1) ∷ [])
full_stands = refl

no_room : chain.allocated 0 5 (pos 0) full ≡ None
no_room = refl

holed_stands : chain.area_of holed ≡ area 96 (generation 32 16 6 (pos 0) ∷ [])
holed_stands = refl

-- two gaps of 32 bytes, where 48 are wanted
gaps_apart : chain.allocated 32 5 (pos 0) holed ≡ None
gaps_apart = refl

least_gap : offset (chain.allocated 16 5 (pos 0) holed) ≡ Some 0
least_gap = refl

another_signature : chain.freed 32 5 full ≡ None
another_signature = refl

nothing_there : chain.freed 16 5 full ≡ None
nothing_there = refl

emptied_stands : chain.area_of (chain.emptied full) ≡ area 96 []
emptied_stands = refl

-- ---- copies

-- a generation at 32 with its data written
abbrev pub written : List ℕ
written = with_part (replicate 16 9) (chain.data_at 32 holed) holed

too_small : chain.copied written (chain.made 32 (replicate 48 0)) ≡ None
too_small = refl

-- of the capacity that its last one needs
abbrev copy : List ℕ
copy = done (chain.copied written (chain.made 64 (replicate 80 0)))

copy_stands : chain.area_of copy ≡ area 64 (generation 32 16 6 (pos 0) ∷ [])
copy_stands = refl

copy_data : part (chain.data_at 32 copy) 16 copy ≡ replicate 16 9
copy_data = refl

-- ---- bytes that stand for no area

zeros : chain.area_of (replicate 112 0) ≡ None
zeros = refl

-- one byte more than the capacity
too_long : chain.area_of (7 ∷ full) ≡ None
too_long = refl

unmarked : chain.area_of (with_part (0 ∷ []) 0 full) ≡ None
unmarked = refl

-- a capacity that isn't that of so many bytes
another_capacity : chain.area_of (with_part (80 ∷ []) 4 full) ≡ None
another_capacity = refl

-- the first generation's link leads to itself
around : chain.area_of (with_part (1 ∷ []) 28 full) ≡ None
around = refl

-- it leads into the second's footprint
inside : chain.area_of (with_part (17 ∷ []) 28 full) ≡ None
inside = refl

-- it leads to an offset that isn't rounded
crooked : chain.area_of (with_part (34 ∷ []) 28 full) ≡ None
crooked = refl

-- it leads to the end
outside : chain.area_of (with_part (97 ∷ []) 28 full) ≡ None
outside = refl

-- the second's size reaches the third
overlong : chain.area_of (with_part (17 ∷ []) 48 full) ≡ None
overlong = refl

-- data that look like a header are data
header_in_data : chain.area_of (with_part (part 16 16 full) (chain.data_at 32 full) full) ≡ chain.area_of full
header_in_data = refl
