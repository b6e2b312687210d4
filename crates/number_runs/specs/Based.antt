-- What pointers lead to: BASED variables, FIXED BINARY(31) ones or structures of such members and pointers, the POINTER
-- variables that locate them, and the areas of constant size in which they are allocated.
use Rattle.std.specs.Prelude.{ℕ, ◌^◌, ◌==◌, ◌&&◌, ◌||◌, Bool, false, true, List, [], ◌∷◌, nat_le, nat_lt, slice_get}
use Rattle.std.specs.Prelude.{Option, None, Some, pos}
use Rattle.pli_language.specs.Tree as T
use Rattle.pli_typing.specs.TypedTree as Y

-- to which nothing is given
abbrev pub is_one_leaf : (Y.LeafType → Bool) → Y.LeafType → List Y.Bounds → List T.InitialItem → Bool
is_one_leaf test type [] [] = test type
is_one_leaf test _ _ _ = false

-- one of level 1 that is no structure, whose type passes a test
abbrev pub is_one_of :
    (Y.LeafType → Bool) → List Y.Member → List Y.Leaf → Option Y.ReferMember → List Y.Evaluation → Bool
is_one_of test (m ∷ []) (l ∷ []) None [] =
    (m.depth == 0) && ((m.dimensions == 0) && is_one_leaf test l.type l.bounds l.initial)
is_one_of test _ _ _ _ = false

abbrev pub is_made_class : Y.StorageClass → Bool
is_made_class Y.AutomaticClass = true
is_made_class _ = false

abbrev pub is_based_class : Y.StorageClass → Bool
is_based_class Y.BasedClass = true
is_based_class _ = false

-- ---- their types

abbrev pub is_pointer_type : Y.LeafType → Bool
is_pointer_type Y.PointerLeaf = true
is_pointer_type _ = false

-- an area has room for one granule at least
abbrev pub is_area_type : Y.LeafType → Bool
is_area_type (Y.AreaLeaf (Y.ConstantExtent (pos n))) = nat_le 16 n && nat_le n (2 ^ 20)
is_area_type _ = false

abbrev pub is_word_type : Y.LeafType → Bool
is_word_type (Y.FixedLeaf precision) = precision == 31
is_word_type _ = false

-- ---- their members

-- to which nothing is given
abbrev pub are_members : List Y.Leaf → Bool
are_members [] = true
are_members (l ∷ ls) =
    is_one_leaf (λ t. is_word_type t || is_pointer_type t) l.type l.bounds l.initial && are_members ls

-- one at least
abbrev pub are_some_members : List Y.Leaf → Bool
are_some_members [] = false
are_some_members (l ∷ ls) = are_members (l ∷ ls)

-- no extent is told by REFER, or evaluated
abbrev pub is_closed : Option Y.ReferMember → List Y.Evaluation → Bool
is_closed None [] = true
is_closed _ _ = false

-- ---- what is declared

abbrev pub is_pointer : Y.DeclaredVariable → Bool
is_pointer d = is_made_class d.class && is_one_of is_pointer_type d.members d.leaves d.refer d.evaluations

abbrev pub is_area : Y.DeclaredVariable → Bool
is_area d = is_made_class d.class && is_one_of is_area_type d.members d.leaves d.refer d.evaluations

abbrev pub is_based : Y.DeclaredVariable → Bool
is_based d = is_based_class d.class && (are_some_members d.leaves && is_closed d.refer d.evaluations)

-- a member of one, by its number, whose type passes a test
abbrev pub passes : (Y.LeafType → Bool) → Option Y.Leaf → Bool
passes test None = false
passes test (Some l) = test l.type

abbrev pub has_member : (Y.LeafType → Bool) → ℕ → Y.DeclaredVariable → Bool
has_member test n d = is_based d && (nat_lt n (2 ^ 31) && passes test (slice_get d.leaves n))

-- ---- where there may be none

abbrev pub is_pointer_if : Option Y.DeclaredVariable → Bool
is_pointer_if None = false
is_pointer_if (Some d) = is_pointer d

abbrev pub is_area_if : Option Y.DeclaredVariable → Bool
is_area_if None = false
is_area_if (Some d) = is_area d

abbrev pub is_based_if : Option Y.DeclaredVariable → Bool
is_based_if None = false
is_based_if (Some d) = is_based d

abbrev pub has_member_if : (Y.LeafType → Bool) → ℕ → Option Y.DeclaredVariable → Bool
has_member_if test n None = false
has_member_if test n (Some d) = has_member test n d
