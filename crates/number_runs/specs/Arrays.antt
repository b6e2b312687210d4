-- Arrays of FIXED BINARY of 1 to 31 bits and of BIT(1), with one dimension to eight of constant bounds, which a block
-- may declare beside its numbers.
use Rattle.std.specs.Prelude.{◌==◌, ◌&&◌, Bool, false, true, List, [], ◌∷◌, int_le, length, map, nat_le, nat_lt}
use Rattle.std.specs.Prelude.{Option, None, Some}
use Rattle.pli_language.specs.Tree as T
use Rattle.pli_typing.specs.TypedTree as Y
use Rattle.pli_meaning.specs.DeclaredShapes.{bounds_of}
use Rattle.pli_meaning.specs.Numbers.{is_of_precision}
use Rattle.array_runs.specs.Arrays.{Grid}
use Rattle.number_runs.specs.Initial.{are_values}

-- constants of 31 bits and a sign, in order
abbrev pub are_bounds : (lower upper : Y.Extent) → Bool
are_bounds (Y.ConstantExtent l) (Y.ConstantExtent u) =
    is_of_precision 31 l && (is_of_precision 31 u && int_le l u)
are_bounds _ _ = false

abbrev pub are_all_bounds : List Y.Bounds → Bool
are_all_bounds [] = true
are_all_bounds (b ∷ bs) = are_bounds b.lower b.upper && are_all_bounds bs

-- FIXED BINARY, or BIT(1)
abbrev pub is_element_type : Y.LeafType → Bool
is_element_type (Y.FixedLeaf precision) = nat_lt 0 precision && nat_le precision 31
is_element_type Y.BitLeaf = true
is_element_type _ = false

-- one dimension to eight
abbrev pub has_dimensions : List Y.Bounds → Bool
has_dimensions bs = nat_lt 0 (length bs) && nat_le (length bs) 8

abbrev pub is_grid : Y.LeafType → List Y.Bounds → List T.InitialItem → Bool
is_grid type bs initial =
    is_element_type type && (has_dimensions bs && (are_all_bounds bs && are_values type initial))

-- one of level 1 that is no structure
abbrev pub is_array_of :
    Y.StorageClass → List Y.Member → List Y.Leaf → Option Y.ReferMember → List Y.Evaluation → Bool
is_array_of Y.AutomaticClass (m ∷ []) (l ∷ []) None [] =
    (m.depth == 0) && ((m.dimensions == length l.bounds) && is_grid l.type l.bounds l.initial)
is_array_of _ _ _ _ _ = false

-- AUTOMATIC, of such a type and with such bounds
abbrev pub is_array : Y.DeclaredVariable → Bool
is_array d = is_array_of d.class d.members d.leaves d.refer d.evaluations

-- ---- its type and its bounds

abbrev pub no_grid : Grid
no_grid = record { type = Y.BitLeaf; bounds = [] }

abbrev pub grid_in : List Y.Leaf → Grid
grid_in [] = no_grid
grid_in (l ∷ ls) = record { type = l.type; bounds = map (bounds_of []) l.bounds }

abbrev pub declared_grid : Y.DeclaredVariable → Grid
declared_grid d = grid_in d.leaves

-- ---- where there may be none

abbrev pub is_array_if : Option Y.DeclaredVariable → Bool
is_array_if None = false
is_array_if (Some d) = is_array d

abbrev pub grid_if : Option Y.DeclaredVariable → Grid
grid_if None = no_grid
grid_if (Some d) = declared_grid d
