-- Elements of memory one behind the other in a buffer.
use Rattle.std.specs.Prelude.{◌≡◌, ℕ, ◌+◌, ◌*◌, ◌<◌, Bool, true, nat_le, List, length, Option, Some, None}
use Rattle.std.specs.List.{list_all}
use Rattle.rv_meaning.specs.Memory.{load}
use Rattle.pli_typing.specs.Signatures.{LeafKind, Varying, leaf_bytes}
use Rattle.pli_serving.specs.Bytes.{bytes_at}
use Rattle.pli_serving.specs.Values.{element_size}
use Rattle.pli_aggregates.specs.Runs.{standing}
use Rattle.pli_aggregates.specs.declared.runs.Run.{Run}

-- bytes that stand in two memories alike
abbrev pub AreSame : (count a : ℕ) → List ℕ → (b : ℕ) → List ℕ → Type 0
AreSame count a m b x = bytes_at count a m ≡ bytes_at count b x

-- whether a varying text is no longer than its kind lets it be
abbrev pub is_in_element : LeafKind → (memory : List ℕ) → (at : ℕ) → Bool
is_in_element (Varying n) m at = nat_le (load 2 m at) n
is_in_element kind m at = true

abbrev pub longest : LeafKind → Option ℕ
longest (Varying n) = Some n
longest kind = None

abbrev pub are_short : (most : ℕ) → (memory addresses : List ℕ) → Bool
are_short most m = list_all (λ at. nat_le (load 2 m at) most)

-- the value of each element of a run stands at its place in a buffer
abbrev pub IsCopiedOf : LeafKind → (memory : List ℕ) → Run → (count : ℕ) → (buffer : List ℕ) → Type 0
IsCopiedOf kind m r n buffer = (p : ℕ) → p < n
    → AreSame (leaf_bytes kind) (r.at + r.step * p) m (element_size kind * p) buffer

-- and the buffer has room for all
pub record IsCopied (kind : LeafKind) (memory : List ℕ) (r : Run) (buffer : List ℕ) : Type 0 where
  pub same : IsCopiedOf kind memory r r.count buffer
  pub long : length buffer ≡ element_size kind * r.count

-- the buffer of so many elements in which all varying texts are
pub record IsGathered (kind : LeafKind) (memory : List ℕ) (r : Run) (count : ℕ) (buffer : List ℕ) : Type 0 where
  pub same : IsCopiedOf kind memory r count buffer
  pub fit : list_all (is_in_element kind memory) (standing r.at r.step count) ≡ true
