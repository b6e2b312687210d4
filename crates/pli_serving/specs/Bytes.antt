-- Parts of a machine's memory, and the values that stand in them. Addresses are counted from the base.
use Rattle.std.specs.Prelude.{ℕ, zero, suc, ◌+◌, ◌-◌, ◌/◌, ◌%◌, ◌^◌, Bool, ◌&&◌, ◌==◌, nat_le, List, [], ◌∷◌, ◌++◌, length, take, drop, replicate, Option, Some, None, if◌then◌else◌}
use Rattle.rv_meaning.specs.Memory.{load}
use Rattle.pli_meaning.specs.BasicValues.{Name, NullName, VariableName, BasedName}

-- where the parts of memory lie: the code from 0 on, which is never written, the heap from a place on, and the end of all
pub record Layout : Type 0 where
  pub code_bytes : ℕ
  pub heap_at : ℕ
  pub heap_capacity : ℕ
  pub end : ℕ

-- so many bytes from an address on are data
abbrev pub is_data : Layout → (at bytes : ℕ) → Bool
is_data layout at bytes = nat_le layout.code_bytes at && nat_le (at + bytes) layout.end

abbrev pub bytes_at : (count at : ℕ) → List ℕ → List ℕ
bytes_at count at m = take count (drop at m)

-- the memory with these bytes from an address on
abbrev pub with_bytes : List ℕ → (at : ℕ) → List ℕ → List ℕ
with_bytes bytes at m = take at m ++ (bytes ++ drop (at + length bytes) m)

-- the n lowest bytes of a number, the lowest first
abbrev pub number_bytes : ℕ → ℕ → List ℕ
number_bytes zero v = []
number_bytes (suc n) v = v % 256 ∷ number_bytes n (v / 256)

abbrev pub word_at : ℕ → List ℕ → ℕ
word_at at m = load 4 m at

-- ---- names: a kind (0 null, 1 variable, 2 based), an offset, a serial, in 4, 4 and 8 bytes

abbrev pub name_size : ℕ
name_size = 16

abbrev pub name_bytes : Name → List ℕ
name_bytes NullName = replicate 16 0
name_bytes (VariableName serial) = number_bytes 4 1 ++ (number_bytes 4 0 ++ number_bytes 8 serial)
name_bytes (BasedName area offset) = number_bytes 4 2 ++ (number_bytes 4 offset ++ number_bytes 8 area)

abbrev pub name_of : (kind offset serial : ℕ) → Option Name
name_of kind offset serial =
    if kind == 0 then Some NullName
    else (if kind == 1 then Some (VariableName serial)
    else (if kind == 2 then Some (BasedName serial offset) else None))

-- the name at an address, none where its kind is none of these
abbrev pub name_at : ℕ → List ℕ → Option Name
name_at at m = name_of (load 4 m at) (load 4 m (at + 4)) (load 8 m (at + 8))

-- ---- OFFSET values in 4 bytes

abbrev pub null_offset : ℕ
null_offset = 2 ^ 32 - 1

abbrev pub offset_word : Option ℕ → ℕ
offset_word None = null_offset
offset_word (Some o) = o

abbrev pub offset_of : ℕ → Option ℕ
offset_of w = if w == null_offset then None else Some w
