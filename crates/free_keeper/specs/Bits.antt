-- The bits of a byte, the lowest first, and of a run of bytes, byte by byte.
use Rattle.std.specs.Prelude.{ℕ, zero, suc, ◌+◌, ◌*◌, ◌/◌, ◌%◌, List, slice_index, slice_set}

abbrev pub bit : (place byte : ℕ) → ℕ
bit zero b = b % 2
bit (suc k) b = bit k (b / 2)

-- with a bit that is 0 or 1, and the others as they were
abbrev pub with_bit : (place value byte : ℕ) → ℕ
with_bit zero v b = v + 2 * (b / 2)
with_bit (suc k) v b = b % 2 + 2 * with_bit k v (b / 2)

-- the bit of a place among those of the bytes from another place on
abbrev pub bit_at : (from place : ℕ) → List ℕ → ℕ
bit_at from i bytes = bit (i % 8) (slice_index bytes (from + i / 8))

abbrev pub with_bit_at : (from place value : ℕ) → List ℕ → List ℕ
with_bit_at from i v bytes = slice_set bytes (from + i / 8) (with_bit (i % 8) v (slice_index bytes (from + i / 8)))
