-- Marks: a byte for each granule of 16 bytes of a capacity. A granule is free where its mark is 0, a generation begins where it is 1,
-- and each other number goes on with the generation of the granule before; where that is free, or there is none, it begins one.
use Rattle.std.specs.Prelude.{ℕ, zero, suc, ◌+◌, nat_le, List, [], ◌∷◌, ◌++◌, length, take, drop, replicate, Option, Some, None, if◌then◌else◌}

-- how many marks at the front go on with a generation that began before them
abbrev pub insides : List ℕ → ℕ
insides [] = 0
insides (zero ∷ ms) = 0
insides (suc zero ∷ ms) = 0
insides (suc (suc m) ∷ ms) = suc (insides ms)

-- ---- room

-- how many are free at the front
abbrev pub free_run : List ℕ → ℕ
free_run [] = 0
free_run (zero ∷ ms) = suc (free_run ms)
free_run (suc m ∷ ms) = 0

-- the offset of the first place from which on so many are free, where the marks begin at an offset
abbrev pub room_in : (offset number : ℕ) → List ℕ → Option ℕ
room_in o n [] = None
room_in o n (m ∷ ms) = if nat_le n (free_run (m ∷ ms)) then Some o else room_in (16 + o) n ms

-- ---- what changes marks

-- a generation of so many granules
abbrev pub run : (number : ℕ) → List ℕ
run zero = []
run (suc n) = 1 ∷ replicate n 2

-- a granule that isn't free begins a generation, as it did where the one before it was free
abbrev pub begun : List ℕ → List ℕ
begun [] = []
begun (zero ∷ ms) = zero ∷ ms
begun (suc m ∷ ms) = 1 ∷ ms

-- so many granules from a place on become a generation, or free
abbrev pub with_run : (place number : ℕ) → List ℕ → List ℕ
with_run i n ms = take i ms ++ (run n ++ begun (drop n (drop i ms)))

abbrev pub without_run : (place number : ℕ) → List ℕ → List ℕ
without_run i n ms = take i ms ++ (replicate n 0 ++ drop n (drop i ms))

-- ---- where the last generation ends

abbrev pub used_with : (mark used : ℕ) → ℕ
used_with zero zero = 0
used_with zero (suc n) = suc (suc n)
used_with (suc m) n = suc n

-- how many there are as far as the last that isn't free
abbrev pub used : List ℕ → ℕ
used [] = 0
used (m ∷ ms) = used_with m (used ms)
