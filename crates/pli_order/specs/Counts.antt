-- How many elements there are in the parts of an aggregate, behind so many subscripts.
use Rattle.std.specs.Prelude.{ℕ, zero, suc, ◌+◌, ◌*◌, List, length, slice_get}
use Rattle.pli_typing.specs.Signatures.{Bounds, Leaf}
use Rattle.pli_meaning.specs.StreamOrder.{Nest, NoNest, NestOf, bounds_of_leaf, leaves_inside, subscripts_of}

-- the rows of so many dimensions behind others, none where one has no bounds
abbrev pub row_count : (dimensions : ℕ) → List Bounds → (before : ℕ) → ℕ
row_count zero bounds before = 1
row_count (suc n) bounds before = length (subscripts_of (slice_get bounds before)) * row_count n bounds (suc before)

abbrev pub count_in : Nest → (leaf : ℕ) → List Leaf → (before : ℕ) → ℕ
count_in NoNest leaf leaves before = 0
count_in (NestOf d dimensions NoNest behind) leaf leaves before =
    row_count dimensions (bounds_of_leaf leaves leaf) before * 1 + count_in behind (1 + leaf) leaves before
count_in (NestOf d dimensions (NestOf e more inside next) behind) leaf leaves before =
    row_count dimensions (bounds_of_leaf leaves leaf) before * count_in (NestOf e more inside next) leaf leaves (dimensions + before)
    + count_in behind (leaves_inside (NestOf e more inside next) + leaf) leaves before

-- in one row of what has this inside: a leaf is one element
abbrev pub count_each : Nest → (leaf : ℕ) → List Leaf → (before : ℕ) → ℕ
count_each NoNest leaf leaves before = 1
count_each (NestOf d dimensions inside behind) leaf leaves before = count_in (NestOf d dimensions inside behind) leaf leaves before

-- and how many leaves
abbrev pub leaves_each : Nest → ℕ
leaves_each NoNest = 1
leaves_each (NestOf d dimensions inside behind) = leaves_inside (NestOf d dimensions inside behind)
