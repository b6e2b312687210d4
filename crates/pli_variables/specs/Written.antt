-- Extents as they are written, shown as the definitions have them.
use Rattle.std.specs.Prelude.{ℕ, Bool, List, [], ◌∷◌, ◌++◌, take, drop, map, Option, Some, None, if◌then◌else◌}
use Rattle.pli_language.specs.declared.expr.Place.{Place}
use Rattle.pli_language.specs.Tree.{Name, Expr, Bound, Attribute, Character, Area, Offset, Size, StarSize, Given}
use Rattle.pli_language.specs.View.{expr_of, bound_of}
use Rattle.pli_language.specs.Declaring.{has, place_of_expr, precision_of, precisions_in, same_place}
use Rattle.pli_typing.specs.TypedTree as Y
use Rattle.pli_typing.specs.Variables as M
use Rattle.pli_variables.specs.declared.extent.WrittenCheck.{WrittenCheck as WrittenCheckHeld}
use Rattle.pli_variables.specs.declared.extent.WrittenCheck.TheVariants as C
use Rattle.pli_variables.specs.declared.extent.WrittenExtent.{WrittenExtent as WrittenExtentHeld}

abbrev pub check_shown : WrittenCheckHeld → M.WrittenCheck
check_shown C.Nothing = M.WrittenNothing
check_shown C.Length = M.WrittenLength
check_shown C.Size = M.WrittenSize
check_shown (C.Bounds b) = M.WrittenBounds (bound_of b.now)

abbrev pub extent_shown : WrittenExtentHeld → M.WrittenExtent
extent_shown w = record { value = expr_of w.value.now; check = check_shown w.check }

abbrev pub all_shown : List WrittenExtentHeld → List M.WrittenExtent
all_shown ws = map extent_shown ws

-- these with an extent put before the one at a place, or as they are where it is one of them
abbrev pub put_at : Option ℕ → M.WrittenExtent → List M.WrittenExtent → List M.WrittenExtent
put_at None w vs = vs
put_at (Some i) w vs = take i vs ++ w ∷ drop i vs

-- the first is written before the second
abbrev pub goes_before : M.WrittenExtent → M.WrittenExtent → Bool
goes_before w v = M.stands_before (place_of_expr w.value) (place_of_expr v.value)

-- an extent is written at this place
abbrev pub stands_at : Place → M.WrittenExtent → Bool
stands_at place w = same_place (place_of_expr w.value) place

-- what a length or a size is, where one is written
abbrev pub given_size : List M.WrittenExtent → Option Size → Option Y.Extent
given_size written None = None
given_size written (Some (StarSize p)) = Some Y.StarExtent
given_size written (Some (Given e)) = Some (M.extent_of written e)

-- the size that an attribute gives a text, or an area
abbrev pub text_size : List M.WrittenExtent → Attribute → Option Y.Extent
text_size written (Character size) = given_size written size
text_size written _ = None

abbrev pub area_size : List M.WrittenExtent → Attribute → Option Y.Extent
area_size written (Area size) = given_size written size
area_size written _ = None

-- what an attribute that is OFFSET names
abbrev pub offset_in : Attribute → Option (Option Name)
offset_in (Offset name) = Some name
offset_in _ = None

-- what is checked behind a lower bound, where this is the upper one
abbrev pub check_behind : Bound → Expr → M.WrittenCheck
check_behind b upper = if M.is_open upper then M.WrittenNothing else M.WrittenBounds b

-- these extents put in order, the last first, among those that were
abbrev pub ordered_on : List M.WrittenExtent → List M.WrittenExtent → List M.WrittenExtent
ordered_on [] done = done
ordered_on (w ∷ ws) done = M.with_extent w (ordered_on ws done)

-- the kind that attributes say, where an OFFSET is one of this area, or of none
abbrev pub text_type : List M.WrittenExtent → List Attribute → Y.LeafType
text_type written all = if has 3 all then Y.VaryingLeaf (M.size_of_text written all) else Y.CharacterLeaf (M.size_of_text written all)

abbrev pub type_with : List M.WrittenExtent → List Attribute → Option Y.Variable → Y.LeafType
type_with written all area =
    if has 2 all then text_type written all
    else (if has 4 all then Y.BitLeaf else (if has 5 all then Y.PointerLeaf
    else (if has 6 all then Y.OffsetLeaf area else (if has 7 all then Y.AreaLeaf (M.size_of_area written all)
    else Y.FixedLeaf (precision_of (precisions_in all))))))
