-- What the machine's stores write of numbers and bits, and that bytes stay bytes.
use Rattle.std.proofs.Common.{◌≡◌, ◌⊎◌, inl, inr, ℕ, ◌+◌, ◌<◌, ◌≤◌, ℤ, List, ◌++◌, take, drop, length, Bool, true}
use Rattle.std.proofs.Common.{false, ap, ◌∙◌, arith}
use Rattle.std.proofs.lemmas.Bool.{cases_lt}
use Rattle.std.proofs.lemmas.List.{get_or_past}
use Rattle.std.proofs.lemmas.List.Elements.{All-get_or, All-from_get_or, All-append, All-take, All-drop}
use Rattle.std.specs.List.{All}
use Rattle.std.specs.Prelude.{cond, nat_le, slice_index}
use Rattle.rv_meaning.specs.Images.{AreBelow}
use Rattle.rv_meaning.specs.Memory.{store}
use Rattle.rv_meaning.specs.Words.{word, flag}
use Rattle.pli_typing.specs.Signatures.{Fixed, Bit}
use Rattle.pli_meaning.specs.BasicValues.{BasicNumber, BasicBit}
use Rattle.area_keeper.specs.KeptAreas.{part, with_part}
use Rattle.pli_serving.specs.Bytes.{number_bytes}
use Rattle.pli_serving.specs.Stored.{kept_bytes}
use Rattle.storage_relation.proofs.Values.{store_is}

pub half_stored :
    (p : ℕ) (z : ℤ) (at : ℕ) (m : List ℕ) → nat_le p 15 ≡ true → at + 2 ≤ length m →
    with_part (kept_bytes (Fixed p) (BasicNumber z)) at m ≡ store 2 m at (word z)
half_stored p z at m e h = ap (λ q. with_part (number_bytes (cond q 2 4) (word z)) at m) e ∙ store_is 2 (word z) at m h

pub word_stored :
    (p : ℕ) (z : ℤ) (at : ℕ) (m : List ℕ) → nat_le p 15 ≡ false → at + 4 ≤ length m →
    with_part (kept_bytes (Fixed p) (BasicNumber z)) at m ≡ store 4 m at (word z)
word_stored p z at m e h = ap (λ q. with_part (number_bytes (cond q 2 4) (word z)) at m) e ∙ store_is 4 (word z) at m h

pub bit_stored :
    (b : Bool) (at : ℕ) (m : List ℕ) → at + 1 ≤ length m →
    with_part (kept_bytes Bit (BasicBit b)) at m ≡ store 1 m at (flag b)
bit_stored b at m h = store_is 1 (flag b) at m h

abbrev IsByte : ℕ → Type 0
IsByte b = b < 256

to_all : (m : List ℕ) → AreBelow 256 m → All IsByte m
to_all m h = All-from_get_or IsByte m 0 (λ i _. h i)

from_all : (m : List ℕ) → All IsByte m → AreBelow 256 m
from_all m h k = by_case (cases_lt k (length m))
  where
    by_case : (k < length m) ⊎ (length m ≤ k) → slice_index m k < 256
    by_case (inl i) = All-get_or IsByte m k 0 i h
    by_case (inr i) = omega (arith, get_or_past m k 0 i)

pub bytes_written :
    (new : List ℕ) (at : ℕ) (m : List ℕ) → AreBelow 256 new → AreBelow 256 m → AreBelow 256 (with_part new at m)
bytes_written new at m g h =
    from_all (with_part new at m) (All-append IsByte (take at m) (new ++ drop (at + length new) m)
    (All-take IsByte at m (to_all m h)) (All-append IsByte new (drop (at + length new) m) (to_all new g)
    (All-drop IsByte (at + length new) m (to_all m h))))

pub bytes_part : (at count : ℕ) (m : List ℕ) → AreBelow 256 m → AreBelow 256 (part at count m)
bytes_part at count m h =
    from_all (part at count m) (All-take IsByte count (drop at m) (All-drop IsByte at m (to_all m h)))
