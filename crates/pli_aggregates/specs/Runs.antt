-- Elements that stand one behind the other.
use Rattle.std.specs.Prelude.{◌≡◌, ℕ, ◌+◌, ◌*◌, int_le, Bool, true, false, ◌&&◌, List, [], ◌∷◌, map}
use Rattle.std.specs.List.{range_with_len}
use Rattle.pli_typing.specs.Signatures.{Bounds}
use Rattle.pli_meaning.specs.Contents.{same_int}
use Rattle.pli_aggregates.specs.declared.bounds.Lying.{Lying}
use Rattle.pli_aggregates.specs.declared.bounds.Lying.TheVariants as L

-- so many addresses, each so far behind the one before
abbrev pub standing : (at step count : ℕ) → List ℕ
standing at step count = map (λ n. at + step * n) (range_with_len 0 count)

-- bounds of a leaf as it was allocated and as it is in force: the first upper one alone may differ
abbrev pub Alike : (own left : List Bounds) → Type 0
Alike [] [] = Unit {0}
Alike (o ∷ os) (l ∷ ls) = (o.lower ≡ l.lower) × (os ≡ ls)
Alike _ _ = ⊥

-- and it is no lower
abbrev pub Reaches : (own left : List Bounds) → Type 0
Reaches (o ∷ os) (l ∷ ls) = int_le l.upper o.upper ≡ true
Reaches _ _ = Unit {0}

-- or lower
abbrev pub IsShorter : (own left : List Bounds) → Type 0
IsShorter (o ∷ os) (l ∷ ls) = int_le l.upper o.upper ≡ false
IsShorter _ _ = ⊥

abbrev pub IsLying : (own left : List Bounds) → Lying → Type 0
IsLying own left L.Within = Alike own left × Reaches own left
IsLying own left L.Past = Alike own left × IsShorter own left
IsLying own left L.Unlike = Unit {0}

abbrev pub same_pair : Bounds → Bounds → Bool
same_pair a b = same_int a.lower b.lower && same_int a.upper b.upper
