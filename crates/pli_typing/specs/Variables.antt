-- The variables of level 1 that a block declares, with their leaves, and which part of them a declaration is.
-- (X3.53-1976, chapter 4, the declarations of the concrete program, and chapter 7, storage.)
use Rattle.std.specs.Prelude.{ℕ, ◌+◌, ◌-◌, ℤ, pos, Bool, false, not, ◌&&◌, ◌==◌, nat_lt, List, [], ◌∷◌, ◌++◌, map, length, Option, Some, None, is_some, unwrap_or, if◌then◌else◌, slice_get}
use Rattle.std.specs.List.{flat_map}
use Rattle.pli_language.specs.declared.expr.Place.{Place}
use Rattle.pli_language.specs.declared.scope.Found.{Found}
use Rattle.pli_language.specs.declared.scope.Found.TheVariants as F
use Rattle.pli_language.specs.declared.scope.DeclarationAt.{DeclarationAt}
use Rattle.pli_language.specs.Tree.{Name, Expr, Extent, Bound, StarBound, Upper, Both, Size, StarSize, Given, InitialItem, Attribute, Character, Offset, Area, Based, Initial, ProcedureHead}
use Rattle.pli_language.specs.Declarations.{dimensions_of, Held, What, Variable', Label, ProcedureName, Declaration, Block}
use Rattle.pli_language.specs.Means.{declarations_of, means}
use Rattle.pli_language.specs.Declaring.{has, own_attributes, root_of, stands_alone, is_deeper, is_parameter, names_of, precision_of, precisions_in, constant, place_of_expr, same_place}
use Rattle.pli_typing.specs.TypedTree as Y

-- ---- structures (chapter 4)

-- the members at the head of what is declared
abbrev pub member_then : What → List Held → List Held
member_then (Variable' h) rest = if stands_alone h then [] else h ∷ rest
member_then Label rest = []
member_then (ProcedureName head) rest = []

abbrev pub members_first : List Declaration → List Held
members_first [] = []
members_first (d ∷ ds) = member_then d.what (members_first ds)

abbrev pub variable_then : What → List Held → List (List Held) → List (List Held)
variable_then (Variable' h) members rest = if stands_alone h && not (has 13 (own_attributes h)) then (h ∷ members) ∷ rest else rest
variable_then Label members rest = rest
variable_then (ProcedureName head) members rest = rest

-- the variables of level 1, built-ins aside, each before its members
abbrev pub variables_in : List Declaration → List (List Held)
variables_in [] = []
variables_in (d ∷ ds) = variable_then d.what (members_first ds) (variables_in ds)

-- those without members
abbrev pub leaves_in : List Held → List Held
leaves_in [] = []
leaves_in (a ∷ []) = a ∷ []
leaves_in (a ∷ b ∷ more) = if is_deeper a b then leaves_in (b ∷ more) else a ∷ leaves_in (b ∷ more)

abbrev pub is_at : Place → Held → Bool
is_at place h = same_place place h.variable.declared.name.place

-- a variable with its members, where it stands among these, and what stands behind
abbrev pub from_place : Place → List Held → List Held
from_place place [] = []
from_place place (h ∷ hs) = if is_at place h then h ∷ hs else from_place place hs

abbrev pub while_deeper : Held → List Held → List Held
while_deeper h [] = []
while_deeper h (m ∷ ms) = if is_deeper h m then m ∷ while_deeper h ms else []

abbrev pub with_members : List Held → List Held
with_members [] = []
with_members (h ∷ hs) = h ∷ while_deeper h hs

-- the part that a variable is of the one that it belongs to: its leaves
abbrev pub part_from : List Held → List Held → Y.Part
part_from all from = record { first = length (leaves_in all) - length (leaves_in from); count = length (leaves_in (with_members from)) }

abbrev pub part_of : List Held → Held → Y.Part
part_of all h = part_from all (from_place h.variable.declared.name.place all)

abbrev pub is_structure : List Held → Held → Bool
is_structure all h = nat_lt 1 (length (with_members (from_place h.variable.declared.name.place all)))

-- the place of the first that passes the test
abbrev pub index_where : {X : Type 0} → (X → Bool) → List X → ℕ
index_where test [] = 0
index_where test (x ∷ xs) = if test x then 0 else index_where test xs + 1

abbrev pub begins_at : Place → List Held → Bool
begins_at place [] = false
begins_at place (h ∷ hs) = is_at place h

abbrev pub root_place : Held → Place
root_place h = (root_of h).declared.name.place

abbrev pub declarations_at : List Block → ℕ → List Declaration
declarations_at blocks b = declarations_of (slice_get blocks b)

-- the place of the variable among those of its block, and that variable with its members
abbrev pub index_of_variable : List Block → ℕ → Held → ℕ
index_of_variable blocks b h = index_where (begins_at (root_place h)) (variables_in (declarations_at blocks b))

abbrev pub members_of : List Block → ℕ → Held → List Held
members_of blocks b h = unwrap_or (slice_get (variables_in (declarations_at blocks b)) (index_of_variable blocks b h)) []

-- ---- blocks and storage classes (chapters 4 and 7)

abbrev pub head_of_block : Option Block → Option ProcedureHead
head_of_block None = None
head_of_block (Some block) = block.head

abbrev pub depth_of_block : Option Block → ℕ
depth_of_block None = 0
depth_of_block (Some block) = length block.around

-- how many blocks hold a block, but for the whole program
abbrev pub level_of_block : List Block → ℕ → ℕ
level_of_block blocks b = depth_of_block (slice_get blocks b) - 2

abbrev pub class_of : List Name → Held → List Attribute → Y.StorageClass
class_of parameters h attributes =
    if is_parameter parameters h then Y.ParameterClass
    else (if has 9 attributes then Y.StaticClass else (if has 10 attributes then Y.ControlledClass else (if has 11 attributes then Y.BasedClass else Y.AutomaticClass)))

abbrev pub variable_meant : List Block → ℕ → Held → Y.Variable
variable_meant blocks b h =
    record {
      class = class_of (names_of (head_of_block (slice_get blocks b))) h (root_of h).item.attributes;
      block = b;
      level = level_of_block blocks b;
      index = index_of_variable blocks b h;
    }

-- ---- extents as they are written (chapter 7)

-- what is checked behind an extent: a length, a size, or the bounds of a dimension where the last open one of them is known
pub data WrittenCheck : Type 0 where
  WrittenNothing WrittenLength WrittenSize : WrittenCheck
  WrittenBounds : Bound → WrittenCheck

pub record WrittenExtent : Type 0 where
  pub value : Expr
  pub check : WrittenCheck

abbrev pub is_open : Expr → Bool
is_open e = not (is_some (constant e))

abbrev pub if_open : Expr → WrittenCheck → List WrittenExtent
if_open e check = if is_open e then record { value = e; check = check } ∷ [] else []

abbrev pub open_in_bound : Bound → List WrittenExtent
open_in_bound (StarBound place) = []
open_in_bound (Upper u) = if_open u.value (WrittenBounds (Upper u))
open_in_bound (Both l u) = if_open l.value (if is_open u.value then WrittenNothing else WrittenBounds (Both l u)) ++ if_open u.value (WrittenBounds (Both l u))

abbrev pub open_in_size : WrittenCheck → Option Size → List WrittenExtent
open_in_size check (Some (Given e)) = if_open e.value check
open_in_size check _ = []

abbrev pub open_in_attribute : Attribute → List WrittenExtent
open_in_attribute (Character size) = open_in_size WrittenLength size
open_in_attribute (Area size) = open_in_size WrittenSize size
open_in_attribute _ = []

abbrev pub open_in : Held → List WrittenExtent
open_in h = flat_map open_in_bound (dimensions_of h.variable) ++ flat_map open_in_attribute (own_attributes h)

abbrev pub stands_before : Place → Place → Bool
stands_before p q = if p.line == q.line then nat_lt p.column q.column else nat_lt p.line q.line

-- each once, in source order
abbrev pub with_extent : WrittenExtent → List WrittenExtent → List WrittenExtent
with_extent w [] = w ∷ []
with_extent w (v ∷ vs) =
    if stands_before (place_of_expr w.value) (place_of_expr v.value) then w ∷ v ∷ vs
    else (if same_place (place_of_expr w.value) (place_of_expr v.value) then v ∷ vs else v ∷ with_extent w vs)

abbrev pub in_order : List WrittenExtent → List WrittenExtent
in_order [] = []
in_order (w ∷ ws) = with_extent w (in_order ws)

-- the open extents of a variable with its members
abbrev pub written_extents : List Held → List WrittenExtent
written_extents all = in_order (flat_map open_in all)

-- ---- leaves (chapter 4)

abbrev pub evaluated : List WrittenExtent → Expr → Option ℤ → Y.Extent
evaluated written e (Some z) = Y.ConstantExtent z
evaluated written e None = Y.EvaluatedExtent (index_where (λ w. same_place (place_of_expr w.value) (place_of_expr e)) written)

-- what is evaluated for an extent, and where it is found afterwards
abbrev pub amount_of : List WrittenExtent → Extent → Y.Extent
amount_of written e = evaluated written e.value (constant e.value)

abbrev pub extent_of : List WrittenExtent → Extent → Y.Extent
extent_of written e = if is_some e.refer then Y.ReferExtent else amount_of written e

-- a lower bound is 1 where none is written
abbrev pub bounds_of : (Extent → Y.Extent) → Bound → Y.Bounds
bounds_of extent (StarBound place) = record { lower = Y.StarExtent; upper = Y.StarExtent }
bounds_of extent (Upper u) = record { lower = Y.ConstantExtent (pos 1); upper = extent u }
bounds_of extent (Both l u) = record { lower = extent l; upper = extent u }

abbrev pub check_of : List WrittenExtent → WrittenCheck → Y.Check
check_of written WrittenNothing = Y.NoCheck
check_of written WrittenLength = Y.LengthCheck
check_of written WrittenSize = Y.SizeCheck
check_of written (WrittenBounds b) = Y.BoundsCheck (bounds_of (amount_of written) b)

abbrev pub size_of_text : List WrittenExtent → List Attribute → Y.Extent
size_of_text written [] = Y.ConstantExtent (pos 1)
size_of_text written (Character (Some (Given e)) ∷ all) = extent_of written e
size_of_text written (Character (Some (StarSize p)) ∷ all) = Y.StarExtent
size_of_text written (_ ∷ all) = size_of_text written all

abbrev pub size_of_area : List WrittenExtent → List Attribute → Y.Extent
size_of_area written [] = Y.ConstantExtent (pos 1000)
size_of_area written (Area (Some (Given e)) ∷ all) = extent_of written e
size_of_area written (Area (Some (StarSize p)) ∷ all) = Y.StarExtent
size_of_area written (_ ∷ all) = size_of_area written all

-- the name in OFFSET(name), and in BASED(name)
abbrev pub area_name : List Attribute → Option Name
area_name [] = None
area_name (Offset name ∷ all) = name
area_name (_ ∷ all) = area_name all

abbrev pub locator_name : List Attribute → Option Name
locator_name [] = None
locator_name (Based name ∷ all) = name
locator_name (_ ∷ all) = locator_name all

-- what one name means in a block
abbrev pub name_means : List Block → ℕ → Name → Found
name_means blocks b name = means blocks b [] name.letters

abbrev pub what_of : Option Declaration → Option What
what_of None = None
what_of (Some d) = Some d.what

abbrev pub what_at : List Block → DeclarationAt → Option What
what_at blocks at = what_of (slice_get (declarations_at blocks at.block) at.index)

-- areas are neither members nor arrays
abbrev pub area_in : List Block → ℕ → Option What → Option Y.Variable
area_in blocks b (Some (Variable' h)) = if has 7 (own_attributes h) then Some (variable_meant blocks b h) else None
area_in blocks b _ = None

abbrev pub area_found : List Block → Found → Option Y.Variable
area_found blocks (F.One at) = area_in blocks at.block (what_at blocks at)
area_found blocks F.None = None
area_found blocks F.Ambiguous = None

abbrev pub area_named : List Block → ℕ → Option Name → Option Y.Variable
area_named blocks b None = None
area_named blocks b (Some name) = area_found blocks (name_means blocks b name)

-- the kind that attributes say, where their names are looked up from a block; FIXED where they say none
abbrev pub type_of : List Block → ℕ → List WrittenExtent → List Attribute → Y.LeafType
type_of blocks b written all =
    if has 2 all then (if has 3 all then Y.VaryingLeaf (size_of_text written all) else Y.CharacterLeaf (size_of_text written all))
    else (if has 4 all then Y.BitLeaf else (if has 5 all then Y.PointerLeaf
    else (if has 6 all then Y.OffsetLeaf (area_named blocks b (area_name all)) else (if has 7 all then Y.AreaLeaf (size_of_area written all)
    else Y.FixedLeaf (precision_of (precisions_in all))))))

abbrev pub initial_items : Attribute → List InitialItem
initial_items (Initial items) = items
initial_items _ = []

-- the bounds of the structures that hold it come first
abbrev pub all_dimensions : Held → List Bound
all_dimensions h = flat_map dimensions_of h.above ++ dimensions_of h.variable

abbrev pub leaf_of : List Block → ℕ → List WrittenExtent → Held → Y.Leaf
leaf_of blocks b written h =
    record {
      type = type_of blocks b written (own_attributes h);
      bounds = map (bounds_of (extent_of written)) (all_dimensions h);
      initial = flat_map initial_items (own_attributes h);
    }

-- the leaves of these members of a variable
abbrev pub leaves_of : List Block → ℕ → List Held → List Held → List Y.Leaf
leaves_of blocks b all members = map (leaf_of blocks b (written_extents all)) (leaves_in members)
