-- Parts with the number of all those inside in place of that of those directly in them.
use Rattle.std.specs.Prelude.{ℕ, zero, suc, ◌+◌, ◌≤◌, List, [], ◌∷◌, length, drop}
use Rattle.pli_shapes.specs.declared.part.Part.{Part}

-- how many so many are, with those inside
abbrev pub parts_in : (count : ℕ) → List Part → ℕ
parts_in zero ps = 0
parts_in (suc k) [] = 0
parts_in (suc k) (p ∷ ps) = suc p.inside + parts_in k (drop p.inside ps)

abbrev pub with_sizes : List Part → List Part
with_sizes [] = []
with_sizes (p ∷ ps) = record { dimensions = p.dimensions; inside = parts_in p.inside (with_sizes ps) } ∷ with_sizes ps

-- none goes on behind the end
abbrev pub AreWithin : List Part → Type 0
AreWithin [] = Unit {0}
AreWithin (p ∷ ps) = (p.inside ≤ length ps) × AreWithin ps
