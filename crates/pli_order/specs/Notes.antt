-- The parts of a shape as they are noted, each with where it stands.
use Rattle.std.specs.Prelude.{◌≡◌, ℕ, zero, suc, ◌+◌, ◌-◌, ◌≤◌, ◌<◌, List, [], ◌∷◌, map, drop}
use Rattle.pli_meaning.specs.StreamOrder.{Nest, NoNest, NestOf, leaves_inside}
use Rattle.pli_shapes.specs.declared.part.Part.{Part}
use Rattle.pli_order.specs.Counts.{leaves_each}
use Rattle.pli_order.specs.declared.note.Note.{Note}
use Rattle.pli_order.specs.declared.notes.Range.{Range}

abbrev pub parts_of : List Note → List Part
parts_of ns = map (λ (n : Note). n.part) ns

-- the nest of so many parts, all that are inside counted; some are skipped first. Its depths don't matter.
abbrev pub noted : List Note → (skip size : ℕ) → Nest
noted [] skip size = NoNest
noted (n ∷ ns) (suc skip) size = noted ns skip size
noted (n ∷ ns) zero zero = NoNest
noted (n ∷ ns) zero (suc size) = NestOf 0 n.part.dimensions (noted ns zero n.part.inside) (noted ns n.part.inside (size - n.part.inside))

-- each of these parts tells how many stand from it on beside it, how many subscripts stand before its own, and its first leaf
abbrev pub AreNoted : List Note → (skip size before leaf : ℕ) → Type 0
AreNoted [] skip zero before leaf = Unit {0}
AreNoted [] skip (suc size) before leaf = ⊥
AreNoted (n ∷ ns) (suc skip) size before leaf = AreNoted ns skip size before leaf
AreNoted (n ∷ ns) zero zero before leaf = Unit {0}
AreNoted (n ∷ ns) zero (suc size) before leaf =
    (n.size ≡ suc size) × (n.before ≡ before) × (n.leaf ≡ leaf) × (n.part.inside ≤ size)
    × AreNoted ns zero n.part.inside (n.part.dimensions + before) leaf
    × AreNoted ns n.part.inside (size - n.part.inside) before (leaves_each (noted ns zero n.part.inside) + leaf)

-- ---- what is still to come: ranges of parts, one behind the other

-- with one more before them, unless it is empty
abbrev pub opened : (size before : ℕ) → List Range → List Range
opened zero before ranges = ranges
opened (suc size) before ranges = record { size = suc size; before = before } ∷ ranges

-- the number of the leaf behind a part, if that is one
abbrev pub leaf_behind : (inside leaf : ℕ) → ℕ
leaf_behind zero leaf = 1 + leaf
leaf_behind (suc inside) leaf = leaf

-- the note of the part that begins the first range, and the ranges behind it
pub record IsNext (part : Part) (leaf : ℕ) (old new : List Range) (n : Note) : Type 0 where
  pub under : List Range
  pub was : old ≡ record { size = n.size; before = n.before } ∷ under
  pub left : new ≡ opened n.part.inside (n.part.dimensions + n.before) (opened (n.size - 1 - n.part.inside) n.before under)
  pub low : n.part.inside < n.size
  pub part_is : n.part ≡ part
  pub leaf_is : n.leaf ≡ leaf

-- the parts of ranges are noted, and there are so many leaves behind all
abbrev pub AllNoted : List Note → List Range → (leaf total : ℕ) → Type 0
AllNoted ns [] leaf total = leaf ≡ total
AllNoted ns (r ∷ rs) leaf total =
    AreNoted ns 0 r.size r.before leaf × AllNoted (drop r.size ns) rs (leaves_inside (noted ns 0 r.size) + leaf) total
