-- A memory in three parts, and ranges of its bytes that are copied, filled and replaced.
use Rattle.std.specs.Prelude.{ℕ, ◌+◌, ◌-◌, List, ◌++◌, take, drop, length, replicate, refl}
use Rattle.std.specs.Coded.{Coded, code_by, coded×, coded_ℕ, coded_list}

-- its bytes, and where its stack and its heap begin: what lies before the stack is static
pub record Parted : Type 0 where
  pub bytes : List ℕ
  pub stack_at : ℕ
  pub heap_at : ℕ

abbrev pub parted_code : Coded Parted
parted_code =
    code_by
    (List ℕ × (ℕ × ℕ))
    (coded× (coded_list coded_ℕ) (coded× coded_ℕ coded_ℕ))
    (λ s. (s.bytes, (s.stack_at, s.heap_at)))
    (λ p. record { bytes = p.0; stack_at = p.1.0; heap_at = p.1.1 })
    (λ _. refl)

-- all bytes are 0
abbrev pub empty : (static_len stack_len heap_len : ℕ) → Parted
empty static_len stack_len heap_len =
    record {
      bytes = replicate (static_len + stack_len + heap_len) 0;
      stack_at = static_len;
      heap_at = static_len + stack_len;
    }

abbrev pub with_bytes : List ℕ → Parted → Parted
with_bytes bytes s = record s { bytes = bytes }

-- ---- ranges

-- other bytes over so many from a place on
abbrev pub replaced : (at : ℕ) (len : ℕ) → List ℕ → List ℕ → List ℕ
replaced at len new bytes = take at bytes ++ (new ++ drop (at + len) bytes)

abbrev pub range : (at len : ℕ) → List ℕ → List ℕ
range at len bytes = take len (drop at bytes)

-- the range from one place on, as it was, from another place on
abbrev pub moved : (from to len : ℕ) → List ℕ → List ℕ
moved from to len bytes = replaced to len (range from len bytes) bytes

abbrev pub filled : (at len byte : ℕ) → List ℕ → List ℕ
filled at len byte bytes = replaced at len (replicate len byte) bytes

-- others over as many from a place on, as far as there are bytes
abbrev pub written_from : (at : ℕ) → List ℕ → List ℕ → List ℕ
written_from at new bytes = take (length bytes) (take at bytes ++ (new ++ drop (at + length new) bytes))

-- ---- parts

abbrev pub static_part : Parted → List ℕ
static_part s = take s.stack_at s.bytes

abbrev pub stack_part : Parted → List ℕ
stack_part s = range s.stack_at (s.heap_at - s.stack_at) s.bytes

abbrev pub heap_part : Parted → List ℕ
heap_part s = drop s.heap_at s.bytes
