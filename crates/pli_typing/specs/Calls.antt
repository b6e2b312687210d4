-- References to parts of variables, and calls of procedures with their arguments.
-- (X3.53-1976, chapter 6, procedure references and the passing of arguments.)
use Rattle.std.specs.Prelude.{ℕ, ◌/◌, ℤ, pos, negsuc, Bool, true, false, not, ◌&&◌, ◌==◌, List, [], ◌∷◌, ◌++◌, map, length, Option, Some, None, if◌then◌else◌, unwrap_or, slice_get}
use Rattle.pli_language.specs.declared.expr.Place.{Place}
use Rattle.pli_language.specs.declared.fault.SourceKind.TheVariants.{TypeMismatch, BadArguments}
use Rattle.pli_language.specs.Keywords.{same_bytes}
use Rattle.pli_language.specs.Tree.{Name, Attribute, ProcedureOption, Main, Recursive, Returns, ProcedureHead}
use Rattle.pli_language.specs.Declarations.{Held, Block}
use Rattle.pli_language.specs.Declaring.{is_below, same_place, stands_alone}
use Rattle.pli_typing.specs.Judging.{Judged, fine, broken, ◌>>=◌}
use Rattle.pli_typing.specs.TypedTree as Y
use Rattle.pli_typing.specs.Variables.{variable_meant, members_of, part_of, is_structure, from_place, with_members, leaves_of, all_dimensions, variables_in, declarations_at, index_where, level_of_block, type_of}
use Rattle.pli_typing.specs.Converting.{Designated, Referent, Designates, Gives, GivesUnknown, GivesEmptyArea, GivesNothing, NotKnown, Operand, scalar_type, value_with_type, stored_as}

-- ---- parts of variables

abbrev pub without_first : {X : Type 0} → List Y.Bounds → List X → List Y.Bounds
without_first bounds [] = bounds
without_first [] (x ∷ xs) = []
without_first (b ∷ bounds) (x ∷ xs) = without_first bounds xs

-- a leaf of an element, whose subscripts stand for the outer dimensions
abbrev pub leaf_of_element : Held → Y.Leaf → Y.Leaf
leaf_of_element h l = record { type = l.type; bounds = without_first l.bounds (all_dimensions h); initial = l.initial }

abbrev pub part_leaves : Bool → Held → List Y.Leaf → List Y.Leaf
part_leaves true h leaves = map (leaf_of_element h) leaves
part_leaves false h leaves = leaves

-- the part of a variable that a declaration of block b is, located so; with subscripts it is an element
abbrev pub part_among : List Block → ℕ → List Held → Held → Y.Locator → Bool → Y.Numbers → Designated
part_among blocks b all h locator is_element subscripts =
    record {
      reference = Y.Referring (variable_meant blocks b h) locator (part_of all h) subscripts;
      leaves = part_leaves is_element h (leaves_of blocks b all (with_members (from_place h.variable.declared.name.place all)));
      dimensions = if is_element then 0 else length (all_dimensions h);
      has_members = is_structure all h;
      is_whole = stands_alone h && not is_element;
    }

abbrev pub part_designated : List Block → ℕ → Held → Y.Locator → Bool → Y.Numbers → Designated
part_designated blocks b h = part_among blocks b (members_of blocks b h) h

-- ---- procedures

abbrev pub is_block_of : ProcedureHead → Option ProcedureHead → Bool
is_block_of head None = false
is_block_of head (Some other) = same_place head.place other.place

-- the number of a procedure's block
abbrev pub block_of_procedure : List Block → ProcedureHead → ℕ
block_of_procedure blocks head = index_where (λ block. is_block_of head block.head) blocks

abbrev pub returns_in : List ProcedureOption → Option (List Attribute)
returns_in [] = None
returns_in (Returns attributes ∷ more) = Some attributes
returns_in (Main ∷ more) = returns_in more
returns_in (Recursive ∷ more) = returns_in more

abbrev pub type_returned : List Block → ℕ → Option (List Attribute) → Option Y.LeafType
type_returned blocks holder None = None
type_returned blocks holder (Some attributes) = Some (type_of blocks holder [] attributes)

-- what a procedure returns; a name among the attributes is looked up from the block that declares the procedure
abbrev pub result_type : List Block → ℕ → ProcedureHead → Option Y.LeafType
result_type blocks holder head = type_returned blocks holder (returns_in head.options)

-- ---- parameters

abbrev pub begins_named : Name → List Held → Bool
begins_named name [] = false
begins_named name (h ∷ hs) = same_bytes h.variable.declared.name.letters name.letters

-- the places of a procedure's parameters among its block's variables
abbrev pub parameter_indices : List Block → ℕ → List Name → List ℕ
parameter_indices blocks b names = map (λ n. index_where (begins_named n) (variables_in (declarations_at blocks b))) names

abbrev pub whole_of : List Block → ℕ → List Held → List Designated
whole_of blocks b [] = []
whole_of blocks b (h ∷ members) = part_designated blocks b h Y.NotLocated false Y.NoNumber ∷ []

-- the parameters, as the procedure's own block sees them
abbrev pub parameters_at : List Block → ℕ → List ℕ → List Designated
parameters_at blocks b [] = []
parameters_at blocks b (i ∷ is) = whole_of blocks b (unwrap_or (slice_get (variables_in (declarations_at blocks b)) i) []) ++ parameters_at blocks b is

abbrev pub parameters_of : List Block → ℕ → List Name → List Designated
parameters_of blocks b names = parameters_at blocks b (parameter_indices blocks b names)

-- ---- arguments by reference

abbrev pub same_number : ℤ → ℤ → Bool
same_number a b = not (is_below a b) && not (is_below b a)

-- `*` takes any extent, a constant one that is equal
abbrev pub extent_passes : Y.Extent → Y.Extent → Bool
extent_passes Y.StarExtent given = true
extent_passes (Y.ConstantExtent a) (Y.ConstantExtent b) = same_number a b
extent_passes _ _ = false

-- capacities are sizes in whole multiples of 16
abbrev pub capacity_extent : Y.Extent → Y.Extent
capacity_extent (Y.ConstantExtent (pos n)) = Y.ConstantExtent (pos (n / 16))
capacity_extent (Y.ConstantExtent (negsuc n)) = Y.ConstantExtent (negsuc n)
capacity_extent Y.StarExtent = Y.StarExtent
capacity_extent Y.ReferExtent = Y.ReferExtent
capacity_extent (Y.EvaluatedExtent k) = Y.EvaluatedExtent k

-- a leaf of the first kind takes one of the second
abbrev pub type_passes : Y.LeafType → Y.LeafType → Bool
type_passes (Y.FixedLeaf p) (Y.FixedLeaf q) = p == q
type_passes (Y.CharacterLeaf n) (Y.CharacterLeaf m) = extent_passes n m
type_passes (Y.VaryingLeaf n) (Y.VaryingLeaf m) = extent_passes n m
type_passes Y.BitLeaf Y.BitLeaf = true
type_passes Y.PointerLeaf Y.PointerLeaf = true
type_passes (Y.OffsetLeaf a) (Y.OffsetLeaf b) = true
type_passes (Y.AreaLeaf n) (Y.AreaLeaf m) = extent_passes (capacity_extent n) (capacity_extent m)
type_passes _ _ = false

abbrev pub bounds_pass : List Y.Bounds → List Y.Bounds → Bool
bounds_pass [] [] = true
bounds_pass (a ∷ as') (b ∷ bs) = extent_passes a.lower b.lower && extent_passes a.upper b.upper && bounds_pass as' bs
bounds_pass _ _ = false

abbrev pub leaves_pass : List Y.Leaf → List Y.Leaf → Bool
leaves_pass [] [] = true
leaves_pass (a ∷ as') (b ∷ bs) = type_passes a.type b.type && bounds_pass a.bounds b.bounds && leaves_pass as' bs
leaves_pass _ _ = false

-- ---- arguments

abbrev pub no_argument : Y.Argument
no_argument = Y.ByCopy Y.BitLeaf (Y.StoredBit (Y.BitConstant false))

-- what a call is made of: the procedure's block, its parameters, and the place of the name
pub record Callee : Type 0 where
  pub block : ℕ
  pub parameters : List Designated
  pub place : Place

abbrev pub copied : Y.LeafType → Place → Y.Value → Judged Y.Argument
copied t place v = do
  s ← stored_as t place (Some v)
  fine (Y.ByCopy t s)

abbrev pub index_in : Y.Reference → ℕ
index_in (Y.Referring v locator part subscripts) = v.index

-- the place of a variable among the parameters
abbrev pub parameter_place : Y.Variable → List Designated → ℕ
parameter_place v parameters = index_where (λ d. index_in d.reference == v.index) parameters

-- a POINTER for an OFFSET whose area the procedure's own block declares
abbrev pub offset_argument : Callee → Y.Variable → Y.StorageClass → Place → Y.Pointer → Judged Y.Argument
offset_argument callee area Y.ParameterClass place p = fine (Y.ByOffsetInParameter p (parameter_place area callee.parameters))
offset_argument callee area Y.AutomaticClass place p = fine (Y.ByOffsetInAutomatic p)
offset_argument callee area _ place p = copied (Y.OffsetLeaf (Some area)) place (Y.PointerValue p)

abbrev pub scalar_argument : Callee → Option Y.LeafType → Place → Y.Value → Judged Y.Argument
scalar_argument callee None place v = broken place TypeMismatch no_argument
scalar_argument callee (Some (Y.OffsetLeaf (Some area))) place (Y.PointerValue p) =
    if area.block == callee.block then offset_argument callee area area.class place p else copied (Y.OffsetLeaf (Some area)) place (Y.PointerValue p)
scalar_argument callee (Some t) place v = copied t place v

-- a scalar goes by a copy; an aggregate or an area, which has no value, can't
abbrev pub argument_by_copy : Callee → Designated → Place → Option Y.Value → Judged Y.Argument
argument_by_copy callee parameter place (Some v) = scalar_argument callee (scalar_type parameter) place v
argument_by_copy callee parameter place None = broken callee.place BadArguments no_argument

abbrev pub referent_argument : Callee → Designated → Place → Referent → Judged Y.Argument
referent_argument callee parameter place (Designates d) =
    if d.is_whole && leaves_pass parameter.leaves d.leaves
    then fine (Y.ByReference d.reference)
    else argument_by_copy callee parameter place (value_with_type d.reference (scalar_type d))
referent_argument callee parameter place (Gives v) = scalar_argument callee (scalar_type parameter) place v
referent_argument callee parameter place GivesUnknown = fine no_argument
referent_argument callee parameter place GivesEmptyArea = broken place TypeMismatch no_argument
referent_argument callee parameter place GivesNothing = broken place TypeMismatch no_argument
referent_argument callee parameter place NotKnown = fine no_argument

-- as many arguments as parameters
abbrev pub arguments_judged : Callee → List Designated → List Operand → Judged Y.Arguments
arguments_judged callee [] [] = fine Y.NoArgument
arguments_judged callee (p ∷ ps) (o ∷ os) = do
  a ← referent_argument callee p o.place o.referent
  as' ← arguments_judged callee ps os
  fine (Y.ArgumentThen a as')
arguments_judged callee _ _ = broken callee.place BadArguments Y.NoArgument

-- a call of a procedure that block `holder` declares, by a name at a place
abbrev pub call_of : List Block → ℕ → Callee → List Operand → Judged Y.Call
call_of blocks holder callee operands = do
  arguments ← arguments_judged callee callee.parameters operands
  fine (Y.Calling callee.block (level_of_block blocks holder) arguments)

abbrev pub callee_of : List Block → ProcedureHead → Place → Callee
callee_of blocks head place =
    record {
      block = block_of_procedure blocks head;
      parameters = parameters_of blocks (block_of_procedure blocks head) head.parameters;
      place = place;
    }

abbrev pub procedure_called : List Block → ℕ → ProcedureHead → Place → List Operand → Judged Y.Call
procedure_called blocks holder head place operands = call_of blocks holder (callee_of blocks head place) operands
