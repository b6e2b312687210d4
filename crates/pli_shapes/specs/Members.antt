-- The members that parts stand for, in declared order with their depths.
use Rattle.std.specs.Prelude.{ℕ, zero, suc, ◌-◌, List, [], ◌∷◌, ◌++◌, length}
use Rattle.pli_typing.specs.TypedTree as Y
use Rattle.pli_serving.specs.ElementService as E
use Rattle.pli_shapes.specs.declared.part.Part.{Part}
use Rattle.pli_shapes.specs.declared.shape.ItemShape.{ItemShape}
use Rattle.pli_shapes.specs.declared.shape.LeafShape.{LeafShape}

-- those of so many parts, all that are inside counted; some parts are skipped first
abbrev pub members_from : (depth : ℕ) → List Part → (skip size : ℕ) → List Y.Member
members_from depth [] skip size = []
members_from depth (p ∷ ps) (suc skip) size = members_from depth ps skip size
members_from depth (p ∷ ps) zero zero = []
members_from depth (p ∷ ps) zero (suc size) =
    record { depth = depth; dimensions = p.dimensions } ∷ members_from (suc depth) ps zero p.inside ++ members_from depth ps p.inside (size - p.inside)

abbrev pub members_of : List Part → List Y.Member
members_of parts = members_from 0 parts 0 (length parts)

abbrev pub shape_of : ItemShape → E.ItemShape
shape_of i = record { given = i.given; first = i.first; members = members_of i.parts.items }

-- that of one leaf
abbrev pub one_leaf : LeafShape → E.ItemShape
one_leaf l = record { given = l.given; first = l.leaf; members = record { depth = 0; dimensions = l.dimensions } ∷ [] }
