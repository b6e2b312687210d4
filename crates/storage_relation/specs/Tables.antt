-- The table of an image: signatures whose words differ, each by the rules of tables.
use Rattle.std.specs.Prelude.{ℕ, ◌^◌, ◌<◌, ◌≡◌, ◌==◌, List, [], ◌∷◌, Some, ⊤, slice_get}
use Rattle.rv_meaning.specs.Tables.{Pair, TableLeaf, TableSignature, IsSignature}
use Rattle.pli_coding.specs.SignatureTable.{same_signature}

-- each of other words than all others
abbrev pub AllOnce : List TableSignature → Type 0
AllOnce t =
    (i j : ℕ) (g h : TableSignature) → slice_get t i ≡ Some g → slice_get t j ≡ Some h →
    same_signature g h ≡ (i == j)

-- bounds are words
abbrev pub ArePairs : List Pair → Type 0
ArePairs [] = ⊤
ArePairs (p ∷ ps) = (p.lower < 2 ^ 32) × (p.upper < 2 ^ 32) × ArePairs ps

abbrev pub AreLeaves : List TableLeaf → Type 0
AreLeaves [] = ⊤
AreLeaves (l ∷ ls) = ArePairs l.pairs × AreLeaves ls

abbrev pub AreRuled : List TableSignature → Type 0
AreRuled [] = ⊤
AreRuled (g ∷ gs) = IsSignature g × AreLeaves g.leaves × AreRuled gs
