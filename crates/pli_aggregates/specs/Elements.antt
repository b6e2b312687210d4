-- The elements of a leaf, by where they stand.
use Rattle.std.specs.Prelude.{ℕ, ◌+◌, ◌*◌, ◌≤◌, ℤ, Bool, List, [], ◌∷◌, ◌++◌}
use Rattle.std.specs.List.{list_all}
use Rattle.pli_meaning.specs.Contents.{element_place, is_within}
use Rattle.pli_serving.specs.Values.{element_size}
use Rattle.pli_typing.specs.Signatures.{Leaf}

-- where the element of these subscripts stands, of a leaf whose data begin at a place
abbrev pub stands_in : (base : ℕ) → Leaf → List ℤ → ℕ
stands_in base l is = base + element_size l.kind * element_place l.bounds is

-- so many bytes from each address on are before the end
abbrev pub AreWithin : (bytes end : ℕ) → List ℕ → Type 0
AreWithin bytes end [] = Unit {0}
AreWithin bytes end (a ∷ as') = (a + bytes ≤ end) × AreWithin bytes end as'

-- whether the elements of these subscripts, behind those given, are there
abbrev pub are_there : Leaf → (given : List ℤ) → List (List ℤ) → Bool
are_there l given = list_all (λ is. is_within l.bounds (given ++ is))
