-- Bytes that are stored at addresses, one after the other.
use Rattle.std.specs.Prelude.{ℕ, List, [], ◌∷◌}
use Rattle.pli_serving.specs.Bytes.{with_bytes}

abbrev pub written_at : (bytes : List ℕ) → (addresses : List ℕ) → List ℕ → List ℕ
written_at bytes [] m = m
written_at bytes (a ∷ as') m = written_at bytes as' (with_bytes bytes a m)
