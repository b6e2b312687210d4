-- What a storage becomes where its bytes, or a range of them, are lent.
use Rattle.std.specs.Prelude.{ℕ, List, length}
use Rattle.std.specs.List.{refill}
use Rattle.std.specs.Borrow.{Lends, MutBor, Fml, Array, u8}
use Rattle.raw_storage.specs.contracts.storage.Storage.{the_row}
use Rattle.raw_storage.specs.Parts.{Parted, with_bytes, written_from}

-- the bytes end as they are left, which are as many
abbrev pub LendsBytes : MutBor Parted → MutBor (List ℕ) → Fml
LendsBytes s r = Lends the_row (Array u8 0) s r (λ new. with_bytes (refill (length s.now.bytes) s.now.bytes new) s.now)

abbrev pub LendsRange : MutBor Parted → (at : ℕ) → MutBor (List ℕ) → Fml
LendsRange s at r = Lends the_row (Array u8 0) s r (λ new. with_bytes (written_from at new s.now.bytes) s.now)
