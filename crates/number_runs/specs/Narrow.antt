-- Scalars of other types than FIXED BINARY(31), which a block may declare beside its numbers: FIXED BINARY of a lower
-- precision, BIT(1), and CHARACTER of a constant length, VARYING or not.
use Rattle.std.specs.Prelude.{ℕ, ◌==◌, ◌&&◌, Bool, false, true, List, [], ◌∷◌, nat_le, nat_lt, Option, None, Some, pos}
use Rattle.pli_language.specs.Tree as T
use Rattle.pli_typing.specs.TypedTree as Y
use Rattle.pli_meaning.specs.Texts.{most_text}
use Rattle.number_runs.specs.Initial.{are_values}

-- a length that a text may have
abbrev pub is_length : Y.Extent → Bool
is_length (Y.ConstantExtent (pos n)) = nat_lt 0 n && nat_le n most_text
is_length _ = false

abbrev pub is_text_type : Y.LeafType → Bool
is_text_type (Y.CharacterLeaf size) = is_length size
is_text_type (Y.VaryingLeaf size) = is_length size
is_text_type _ = false

abbrev pub is_narrow_type : Y.LeafType → Bool
is_narrow_type (Y.FixedLeaf precision) = nat_lt 0 precision && nat_lt precision 31
is_narrow_type Y.BitLeaf = true
is_narrow_type t = is_text_type t

abbrev pub is_narrow_leaf : Y.LeafType → List Y.Bounds → List T.InitialItem → Bool
is_narrow_leaf type [] initial = is_narrow_type type && are_values type initial
is_narrow_leaf _ _ _ = false

-- one of level 1 that is no structure
abbrev pub is_narrow_of :
    Y.StorageClass → List Y.Member → List Y.Leaf → Option Y.ReferMember → List Y.Evaluation → Bool
is_narrow_of Y.AutomaticClass (m ∷ []) (l ∷ []) None [] =
    (m.depth == 0) && ((m.dimensions == 0) && is_narrow_leaf l.type l.bounds l.initial)
is_narrow_of _ _ _ _ _ = false

-- AUTOMATIC
abbrev pub is_narrow : Y.DeclaredVariable → Bool
is_narrow d = is_narrow_of d.class d.members d.leaves d.refer d.evaluations

-- ---- its type

abbrev pub type_in : List Y.Leaf → Y.LeafType
type_in [] = Y.BitLeaf
type_in (l ∷ ls) = l.type

abbrev pub narrow_type : Y.DeclaredVariable → Y.LeafType
narrow_type d = type_in d.leaves

abbrev pub is_bit : Y.LeafType → Bool
is_bit Y.BitLeaf = true
is_bit _ = false

abbrev pub is_number_type : Y.LeafType → Bool
is_number_type (Y.FixedLeaf precision) = true
is_number_type _ = false

abbrev pub has_precision : ℕ → Y.LeafType → Bool
has_precision precision (Y.FixedLeaf p) = p == precision
has_precision precision _ = false

-- ---- where there may be none

abbrev pub is_narrow_if : Option Y.DeclaredVariable → Bool
is_narrow_if None = false
is_narrow_if (Some d) = is_narrow d

abbrev pub type_if : Option Y.DeclaredVariable → Y.LeafType
type_if None = Y.BitLeaf
type_if (Some d) = narrow_type d
