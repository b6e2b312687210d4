-- What an area keeps: lists of generations, with the storage machine's functions on them, and parts of bytes.
use Rattle.std.specs.Prelude.{ℕ, ◌+◌, ◌≤◌, ◌%◌, ◌≡◌, ◌==◌, nat_lt, ℤ, List, [], ◌∷◌, ◌++◌, length, take, drop, Option, Some, None, if◌then◌else◌, ⊤}
use Rattle.pli_typing.specs.Signatures.{footprint}
use Rattle.pli_meaning.specs.Contents.{Placed, footprint_of}
use Rattle.area_keeper.specs.Keeper.{Kept}

-- ---- generations in the order of their offsets

-- what ALLOCATE makes of its arguments
abbrev pub kept_as : (offset size signature : ℕ) → (extent : ℤ) → Kept
kept_as offset size signature extent = record { offset = offset; size = size; signature = signature; extent = extent }

-- where a footprint ends
abbrev pub kept_end : Kept → ℕ
kept_end g = g.offset + footprint g.size

-- from a place on: all are aligned, none meets another, and all end within the capacity
abbrev pub InOrder : (start capacity : ℕ) → List Kept → Type 0
InOrder start capacity [] = start ≤ capacity
InOrder start capacity (g ∷ gs) =
    (start ≤ g.offset) × (g.offset % 16 ≡ 0) × (kept_end g ≤ capacity) × InOrder (kept_end g) capacity gs

-- the generation at an offset
abbrev pub kept_at : List Kept → (offset : ℕ) → Option Kept
kept_at [] o = None
kept_at (g ∷ gs) o = if g.offset == o then Some g else kept_at gs o

-- with another in its order, and without the one at an offset
abbrev pub with_kept : Kept → List Kept → List Kept
with_kept n [] = n ∷ []
with_kept n (g ∷ gs) = if nat_lt n.offset g.offset then n ∷ g ∷ gs else g ∷ with_kept n gs

abbrev pub without_kept : (offset : ℕ) → List Kept → List Kept
without_kept o [] = []
without_kept o (g ∷ gs) = if g.offset == o then gs else g ∷ without_kept o gs

-- the storage machine's generations at the same offsets, with the same footprints
abbrev pub Alike : List Kept → List Placed → Type 0
Alike [] [] = ⊤
Alike (g ∷ gs) (p ∷ ps) = (g.offset ≡ p.offset) × (footprint g.size ≡ footprint_of p.generation) × Alike gs ps
Alike _ _ = ⊥

-- ---- bytes

-- so many bytes from a place on
abbrev pub part : (at count : ℕ) → List ℕ → List ℕ
part at count bytes = take count (drop at bytes)

-- the bytes with others written over them from a place on
abbrev pub with_part : List ℕ → (at : ℕ) → List ℕ → List ℕ
with_part new at bytes = take at bytes ++ (new ++ drop (at + length new) bytes)
