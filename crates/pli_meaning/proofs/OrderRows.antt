-- The order in which GET and PUT go through aggregates, computed.
use Rattle.std.proofs.Common.{◌≡◌, ℕ, pos, List, [], ◌∷◌, refl}
use Rattle.pli_typing.specs.Signatures.{Bounds, Leaf, Fixed}
use Rattle.pli_meaning.specs.StreamOrder.{elements_in_order}
use Rattle.pli_meaning.proofs.RowPieces.{member}

abbrev up_to : ℕ → Bounds
up_to n = record { lower = pos 1; upper = pos n }

abbrev numbers : List Bounds → Leaf
numbers bounds = record { kind = Fixed 31; bounds = bounds }

-- 1 S(2), 2 A, 2 T(2), 3 B, 3 C, 2 D: structure by structure
structure_by_structure :
    elements_in_order (member 0 1 ∷ member 1 0 ∷ member 1 1 ∷ member 2 0 ∷ member 2 0 ∷ member 1 0 ∷ [])
    (numbers (up_to 2 ∷ []) ∷ numbers (up_to 2 ∷ up_to 2 ∷ []) ∷ numbers (up_to 2 ∷ up_to 2 ∷ []) ∷ numbers (up_to 2 ∷ []) ∷ [])
    ≡ (0, pos 1 ∷ []) ∷ (1, pos 1 ∷ pos 1 ∷ []) ∷ (2, pos 1 ∷ pos 1 ∷ []) ∷ (1, pos 1 ∷ pos 2 ∷ []) ∷ (2, pos 1 ∷ pos 2 ∷ []) ∷ (3, pos 1 ∷ [])
    ∷ (0, pos 2 ∷ []) ∷ (1, pos 2 ∷ pos 1 ∷ []) ∷ (2, pos 2 ∷ pos 1 ∷ []) ∷ (1, pos 2 ∷ pos 2 ∷ []) ∷ (2, pos 2 ∷ pos 2 ∷ []) ∷ (3, pos 2 ∷ [])
    ∷ []
structure_by_structure = refl

-- 1 S, 2 A(2), 2 B(2, 2): leaf by leaf, each row by row
leaf_by_leaf :
    elements_in_order (member 0 0 ∷ member 1 1 ∷ member 1 2 ∷ []) (numbers (up_to 2 ∷ []) ∷ numbers (up_to 2 ∷ up_to 2 ∷ []) ∷ [])
    ≡ (0, pos 1 ∷ []) ∷ (0, pos 2 ∷ [])
    ∷ (1, pos 1 ∷ pos 1 ∷ []) ∷ (1, pos 1 ∷ pos 2 ∷ []) ∷ (1, pos 2 ∷ pos 1 ∷ []) ∷ (1, pos 2 ∷ pos 2 ∷ [])
    ∷ []
leaf_by_leaf = refl
