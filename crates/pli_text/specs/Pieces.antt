-- Texts that stand one behind the other, by where they begin.
use Rattle.std.specs.Prelude.{◌≡◌, ◌≤◌, ℕ, List, [], ◌∷◌, length, take, drop, reverse, slice_range, Option, Some, None}

-- by their starts, newest first
abbrev pub cut_at : (starts bytes : List ℕ) → List (List ℕ)
cut_at [] bytes = []
cut_at (s ∷ ss) bytes = drop s bytes ∷ cut_at ss (take s bytes)

-- no text begins behind the one above it, or behind the end
abbrev pub IsInOrder : (starts : List ℕ) (end : ℕ) → Type 0
IsInOrder [] end = Unit {0}
IsInOrder (s ∷ ss) end = (s ≤ end) × IsInOrder ss s

-- the same by starts that are kept oldest first
abbrev pub pieces : (starts bytes : List ℕ) → List (List ℕ)
pieces starts bytes = cut_at (reverse starts) bytes

abbrev pub AreInOrder : (starts bytes : List ℕ) → Type 0
AreInOrder starts bytes = IsInOrder (reverse starts) (length bytes)

-- a part of a text, by its two ends
abbrev pub IsPart : Option (List ℕ) → List ℕ → Option (ℕ × ℕ) → Type 0
IsPart part t None = part ≡ None
IsPart part t (Some (from, to)) = (from ≤ to) × (to ≤ length t) × (part ≡ Some (slice_range t from to))
