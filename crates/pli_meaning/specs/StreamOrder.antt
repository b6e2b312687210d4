-- In which order GET and PUT go through an aggregate: arrays row by row, an array of structures structure by structure.
-- (X3.53-1976, chapter 8, the transmission of aggregates.)
use Rattle.std.specs.Prelude.{ℕ, zero, suc, ◌+◌, ℤ, pos, ◌+ℤ◌, nat_lt, List, [], ◌∷◌, ◌++◌, length, map, Option, Some, None, slice_get, if◌then◌else◌}
use Rattle.std.specs.List.{flat_map}
use Rattle.pli_typing.specs.Signatures.{Bounds, Leaf, span}
use Rattle.pli_typing.specs.TypedTree as Y

-- a variable's structure as a tree: what stands in it, and what stands behind it in the same structure; a leaf holds nothing
pub data Nest : Type 0 where
  NoNest : Nest
  NestOf : (depth dimensions : ℕ) → (inside behind : Nest) → Nest

abbrev pub deeper : ℕ → Nest → Nest
deeper depth NoNest = NoNest
deeper depth (NestOf d dimensions inside behind) =
    if nat_lt depth d then NestOf d dimensions inside (deeper depth behind) else NoNest

abbrev pub behind_deeper : ℕ → Nest → Nest
behind_deeper depth NoNest = NoNest
behind_deeper depth (NestOf d dimensions inside behind) =
    if nat_lt depth d then behind_deeper depth behind else NestOf d dimensions inside behind

-- members in declared order: what is deeper stands in what it follows
abbrev pub nest_of : List Y.Member → Nest
nest_of [] = NoNest
nest_of (m ∷ ms) = NestOf m.depth m.dimensions (deeper m.depth (nest_of ms)) (behind_deeper m.depth (nest_of ms))

abbrev pub leaves_inside : Nest → ℕ
leaves_inside NoNest = 0
leaves_inside (NestOf d dimensions NoNest behind) = 1 + leaves_inside behind
leaves_inside (NestOf d dimensions (NestOf e more inside next) behind) =
    leaves_inside (NestOf e more inside next) + leaves_inside behind

-- so many whole numbers, from one on
abbrev pub numbers_from : ℤ → ℕ → List ℤ
numbers_from z zero = []
numbers_from z (suc n) = z ∷ numbers_from (z +ℤ pos 1) n

abbrev pub subscripts_of : Option Bounds → List ℤ
subscripts_of None = []
subscripts_of (Some b) = numbers_from b.lower (span b)

-- subscripts with so many more behind them, the last going fastest
abbrev pub with_more : ℕ → List Bounds → List ℤ → List (List ℤ)
with_more zero bounds is = is ∷ []
with_more (suc n) bounds is = flat_map (λ i. with_more n bounds (is ++ i ∷ [])) (subscripts_of (slice_get bounds (length is)))

abbrev pub bounds_of_leaf : List Leaf → ℕ → List Bounds
bounds_of_leaf [] leaf = []
bounds_of_leaf (l ∷ ls) zero = l.bounds
bounds_of_leaf (l ∷ ls) (suc leaf) = bounds_of_leaf ls leaf

-- an element by its leaf and its subscripts
abbrev pub Element : Type 0
Element = ℕ × List ℤ

abbrev pub elements_inside : Nest → (leaf : ℕ) → List Leaf → List ℤ → List Element
elements_inside NoNest leaf leaves is = []
elements_inside (NestOf d dimensions NoNest behind) leaf leaves is =
    map (λ js. (leaf, js)) (with_more dimensions (bounds_of_leaf leaves leaf) is) ++ elements_inside behind (1 + leaf) leaves is
elements_inside (NestOf d dimensions (NestOf e more inside next) behind) leaf leaves is =
    flat_map (λ js. elements_inside (NestOf e more inside next) leaf leaves js) (with_more dimensions (bounds_of_leaf leaves leaf) is)
    ++ elements_inside behind (leaves_inside (NestOf e more inside next) + leaf) leaves is

-- the elements of a variable with these members and leaves
abbrev pub elements_in_order : List Y.Member → List Leaf → List Element
elements_in_order members leaves = elements_inside (nest_of members) 0 leaves []
