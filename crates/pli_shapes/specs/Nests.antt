-- The nest that parts stand for.
use Rattle.std.specs.Prelude.{ℕ, zero, suc, ◌-◌, List, [], ◌∷◌, length}
use Rattle.pli_meaning.specs.StreamOrder.{Nest, NoNest, NestOf}
use Rattle.pli_shapes.specs.declared.part.Part.{Part}

-- that of so many parts, all that are inside counted; some parts are skipped first
abbrev pub nest_from : (depth : ℕ) → List Part → (skip size : ℕ) → Nest
nest_from depth [] skip size = NoNest
nest_from depth (p ∷ ps) (suc skip) size = nest_from depth ps skip size
nest_from depth (p ∷ ps) zero zero = NoNest
nest_from depth (p ∷ ps) zero (suc size) =
    NestOf depth p.dimensions (nest_from (suc depth) ps zero p.inside) (nest_from depth ps p.inside (size - p.inside))

abbrev pub nest_in : List Part → Nest
nest_in parts = nest_from 0 parts 0 (length parts)
