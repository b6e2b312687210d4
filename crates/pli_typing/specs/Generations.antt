-- ALLOCATE and FREE, and the variables of level 1 with their extents, which every generation begins with.
-- (X3.53-1976, chapter 7, the allocation of storage, and chapter 6, the ALLOCATE and FREE statements.)
use Rattle.std.specs.Prelude.{ℕ, Bool, true, false, not, ◌&&◌, ◌||◌, ◌==◌, nat_le, List, [], ◌∷◌, ◌++◌, map, length, Option, Some, None, is_some, if◌then◌else◌}
use Rattle.std.specs.List.{flat_map, list_any}
use Rattle.pli_language.specs.declared.expr.Place.{Place}
use Rattle.pli_language.specs.declared.scope.Found.{Found}
use Rattle.pli_language.specs.declared.scope.Found.TheVariants as F
use Rattle.pli_language.specs.declared.fault.SourceKind.TheVariants.{Undeclared, Ambiguous, BadAttributes, TypeMismatch, BadExtent}
use Rattle.pli_language.specs.Keywords.{same_bytes}
use Rattle.pli_language.specs.Tree as T
use Rattle.pli_language.specs.Declarations.{dimensions_of, Held, What, Variable', Block}
use Rattle.pli_language.specs.Declaring.{own_attributes, class_attributes, stands_alone, is_builtin, place_of_expr}
use Rattle.pli_typing.specs.Judging.{Scope, Judged, Mention, MentionsFunction, MentionsVariable, fine, broken, demand, each, ◌>>=◌, ◌>>◌}
use Rattle.pli_typing.specs.TypedTree as Y
use Rattle.pli_typing.specs.Variables.{WrittenExtent, written_extents, leaves_in, leaves_of, index_where, amount_of, check_of, variables_in, declarations_at, variable_meant, area_found, area_name, locator_name, name_means, what_at}
use Rattle.pli_typing.specs.Converting.{Designated, Referent, Designates, NotKnown, scalar_type, number_operand, area_operand, no_reference, no_variable}
use Rattle.pli_typing.specs.References.{locator_found, operand, referred}

abbrev pub judged_if : {X Z : Type 0} → (X → Judged Z) → Option X → Judged (Option Z)
judged_if judge None = fine None
judged_if judge (Some x) = do
  z ← judge x
  fine (Some z)

-- ---- the names in attributes (chapter 4)

-- a name that must mean something of one kind; a built-in has another
abbrev pub name_demanded : Found → Bool → T.Name → Judged (Unit {0})
name_demanded (F.One at) is_one name = demand is_one name.place TypeMismatch
name_demanded F.None is_one name = broken name.place (if is_builtin name.word then TypeMismatch else Undeclared) tt
name_demanded F.Ambiguous is_one name = broken name.place Ambiguous tt

-- OFFSET(name) names an area
abbrev pub area_demanded : List Block → ℕ → Option T.Name → Judged (Unit {0})
area_demanded blocks b None = fine tt
area_demanded blocks b (Some name) = name_demanded (name_means blocks b name) (is_some (area_found blocks (name_means blocks b name))) name

-- BASED(name) names a locator
abbrev pub locator_demanded : List Block → ℕ → Option T.Name → Judged (Unit {0})
locator_demanded blocks b None = fine tt
locator_demanded blocks b (Some name) = name_demanded (name_means blocks b name) (is_some (locator_found blocks (name_means blocks b name))) name

abbrev pub names_demanded : List Block → ℕ → List T.Attribute → Judged (Unit {0})
names_demanded blocks b attributes = do
  area_demanded blocks b (area_name attributes)
  locator_demanded blocks b (locator_name attributes)

-- ---- extents (chapter 7)

abbrev pub is_automatic : Y.StorageClass → Bool
is_automatic Y.AutomaticClass = true
is_automatic _ = false

-- an extent of a variable contains no function, and no AUTOMATIC variable of its block from this one on, which isn't made yet
abbrev pub is_forbidden : Y.Variable → Mention → Bool
is_forbidden own MentionsFunction = true
is_forbidden own (MentionsVariable v) = is_automatic v.class && (v.block == own.block) && nat_le own.index v.index

abbrev pub extent_demanded : Y.Variable → T.Expr → Judged Y.Number → Judged Y.Number
extent_demanded own e j = do
  n ← j
  demand (not (list_any (is_forbidden own) j.mentions)) (place_of_expr e) BadExtent
  fine n

abbrev pub extent_number : Scope → T.Expr → Judged Y.Number
extent_number scope e = do
  o ← operand scope e
  number_operand o

abbrev pub evaluation : Scope → Y.Variable → List WrittenExtent → WrittenExtent → Judged Y.Evaluation
evaluation scope own written w = do
  n ← extent_demanded own w.value (extent_number scope w.value)
  fine (record { value = n; check = check_of written w.check })

-- ---- REFER

-- an extent that a member keeps
pub record Kept : Type 0 where
  pub member : T.Name
  pub extent : T.Extent

abbrev pub kept_with : T.Extent → Option T.Refer → List Kept
kept_with e None = []
kept_with e (Some r) = record { member = r.member; extent = e } ∷ []

abbrev pub kept_extent : T.Extent → List Kept
kept_extent e = kept_with e e.refer

abbrev pub kept_in_bound : T.Bound → List Kept
kept_in_bound (T.StarBound p) = []
kept_in_bound (T.Upper u) = kept_extent u
kept_in_bound (T.Both l u) = kept_extent u

abbrev pub kept_in_attribute : T.Attribute → List Kept
kept_in_attribute (T.Character (Some (T.Given e))) = kept_extent e
kept_in_attribute _ = []

abbrev pub kept_in : Held → List Kept
kept_in h = flat_map kept_in_bound (dimensions_of h.variable) ++ flat_map kept_in_attribute (own_attributes h)

abbrev pub is_named : T.Name → Held → Bool
is_named name h = same_bytes h.variable.declared.name.letters name.letters

abbrev pub refer_among : List Held → List Kept → Option Y.ReferMember
refer_among all [] = None
refer_among all (k ∷ ks) = Some (record { member = index_where (is_named k.member) (leaves_in all); amount = amount_of (written_extents all) k.extent })

abbrev pub refer_of : List Held → Option Y.ReferMember
refer_of all = refer_among all (flat_map kept_in all)

-- ---- variables of level 1 (chapter 4)

abbrev pub member_held : Held → Y.Member
member_held h = record { depth = length h.above; dimensions = length (dimensions_of h.variable) }

-- a variable with its members
abbrev pub declared_with : Scope → Y.Variable → List Held → Judged Y.DeclaredVariable
declared_with scope own all = do
  each (λ h. names_demanded scope.blocks scope.block (own_attributes h)) all
  evaluations ← each (evaluation scope own (written_extents all)) (written_extents all)
  fine (record {
    class = own.class;
    members = map member_held all;
    leaves = leaves_of scope.blocks scope.block all all;
    refer = refer_of all;
    evaluations = evaluations;
  })

abbrev pub declared_first : Scope → List Held → List Held → Judged Y.DeclaredVariable
declared_first scope all [] = declared_with scope no_variable all
declared_first scope all (h ∷ members) = declared_with scope (variable_meant scope.blocks scope.block h) all

abbrev pub declared_variable : Scope → List Held → Judged Y.DeclaredVariable
declared_variable scope all = declared_first scope all all

-- the variables of a block, in declared order
abbrev pub declared_variables : Scope → Judged (List Y.DeclaredVariable)
declared_variables scope = each (declared_variable scope) (variables_in (declarations_at scope.blocks scope.block))

-- ---- ALLOCATE

abbrev pub no_target : Y.LocatorTarget
no_target = Y.SetPointer no_reference

abbrev pub target_with : Y.Reference → Option Y.LeafType → Option Y.LocatorTarget
target_with r (Some Y.PointerLeaf) = Some (Y.SetPointer r)
target_with r (Some (Y.OffsetLeaf (Some area))) = Some (Y.SetOffset r area)
target_with r _ = None

abbrev pub target_or_mismatch : Place → Option Y.LocatorTarget → Judged Y.LocatorTarget
target_or_mismatch place None = broken place TypeMismatch no_target
target_or_mismatch place (Some t) = fine t

-- SET names a locator
abbrev pub locator_target : Place → Referent → Judged Y.LocatorTarget
locator_target place (Designates d) = target_or_mismatch place (target_with d.reference (scalar_type d))
locator_target place NotKnown = fine no_target
locator_target place _ = broken place TypeMismatch no_target

abbrev pub set_target : Scope → T.Reference → Judged Y.LocatorTarget
set_target scope r = do
  o ← referred scope r
  locator_target o.place o.referent

abbrev pub in_area : Scope → T.Reference → Judged Y.Variable
in_area scope r = do
  o ← referred scope r
  area_operand o

abbrev pub target_or : Option Y.LocatorTarget → Y.LocatorTarget
target_or None = no_target
target_or (Some t) = t

-- without SET the locator of BASED(name) is set; a bad name there is told where it stands
abbrev pub declared_target : Option Designated → Y.LocatorTarget
declared_target None = no_target
declared_target (Some d) = target_or (target_with d.reference (scalar_type d))

abbrev pub based_target : List Block → ℕ → Place → Option T.Name → Judged Y.LocatorTarget
based_target blocks b place None = broken place BadAttributes no_target
based_target blocks b place (Some name) = fine (declared_target (locator_found blocks (name_means blocks b name)))

abbrev pub target_given : List Block → ℕ → Held → Place → Option Y.LocatorTarget → Judged Y.LocatorTarget
target_given blocks b h place (Some t) = fine t
target_given blocks b h place None = based_target blocks b place (locator_name (class_attributes h))

-- without IN the area of an OFFSET is meant
abbrev pub area_of_target : Y.LocatorTarget → Option Y.Variable
area_of_target (Y.SetPointer r) = None
area_of_target (Y.SetOffset r area) = Some area

abbrev pub area_given : Option Y.Variable → Y.LocatorTarget → Option Y.Variable
area_given (Some area) t = Some area
area_given None t = area_of_target t

-- where ALLOCATE or FREE stands, the variable's name, and what IN and SET say
pub record Allocating : Type 0 where
  pub place : Place
  pub name : T.Name
  pub area : Option Y.Variable
  pub target : Option Y.LocatorTarget

abbrev pub no_allocation : Y.Allocation
no_allocation = Y.AllocateControlled no_variable

abbrev pub bad_allocation : Allocating → Judged Y.Allocation
bad_allocation a = broken a.place TypeMismatch no_allocation

abbrev pub allocated_based : List Block → ℕ → Held → Allocating → Judged Y.Allocation
allocated_based blocks b h a = do
  t ← target_given blocks b h a.name.place a.target
  fine (Y.AllocateBased (variable_meant blocks b h) (area_given a.area t) t)

abbrev pub allocated_controlled : Y.Variable → Allocating → Judged Y.Allocation
allocated_controlled v a = if is_some a.area || is_some a.target then bad_allocation a else fine (Y.AllocateControlled v)

abbrev pub allocated_class : List Block → ℕ → Held → Y.StorageClass → Allocating → Judged Y.Allocation
allocated_class blocks b h Y.BasedClass a = allocated_based blocks b h a
allocated_class blocks b h Y.ControlledClass a = allocated_controlled (variable_meant blocks b h) a
allocated_class blocks b h _ a = bad_allocation a

-- a variable of level 1 that is BASED or CONTROLLED
abbrev pub allocated_what : List Block → ℕ → Option What → Allocating → Judged Y.Allocation
allocated_what blocks b (Some (Variable' h)) a = if stands_alone h then allocated_class blocks b h (variable_meant blocks b h).class a else bad_allocation a
allocated_what blocks b _ a = bad_allocation a

abbrev pub allocated_found : List Block → Found → Allocating → Judged Y.Allocation
allocated_found blocks (F.One at) a = allocated_what blocks at.block (what_at blocks at) a
allocated_found blocks F.None a = if is_builtin a.name.word then bad_allocation a else broken a.name.place Undeclared no_allocation
allocated_found blocks F.Ambiguous a = broken a.name.place Ambiguous no_allocation

abbrev pub allocation : Scope → Place → T.Allocation → Judged Y.Allocation
allocation scope place a = do
  area ← judged_if (in_area scope) a.area
  target ← judged_if (set_target scope) a.locator
  allocated_found scope.blocks (name_means scope.blocks scope.block a.variable) (record { place = place; name = a.variable; area = area; target = target })

-- ---- FREE

abbrev pub no_freeing : Y.Freeing
no_freeing = Y.FreeControlled no_variable

abbrev pub pointer_to : Y.Locator → Y.Pointer
pointer_to Y.NotLocated = Y.NullPointer
pointer_to (Y.LocatedBy p) = p

abbrev pub freed_class : Place → Y.Variable → Y.StorageClass → Y.Locator → Option Y.Variable → Judged Y.Freeing
freed_class place v Y.BasedClass locator area = fine (Y.FreeBased v (pointer_to locator) area)
freed_class place v Y.ControlledClass locator None = fine (Y.FreeControlled v)
freed_class place v _ locator area = broken place TypeMismatch no_freeing

-- a whole variable
abbrev pub freed_whole : Place → Place → Bool → Judged Y.Freeing → Judged Y.Freeing
freed_whole place reference_place true j = j
freed_whole place reference_place false j = do
  j
  broken reference_place TypeMismatch no_freeing

abbrev pub freed_reference : Place → Y.Reference → Option Y.Variable → Judged Y.Freeing
freed_reference place (Y.Referring v locator part subscripts) area = freed_class place v v.class locator area

abbrev pub freed_referent : Place → Place → Referent → Option Y.Variable → Judged Y.Freeing
freed_referent place reference_place (Designates d) area = freed_whole place reference_place d.is_whole (freed_reference place d.reference area)
freed_referent place reference_place NotKnown area = fine no_freeing
freed_referent place reference_place _ area = broken place TypeMismatch no_freeing

abbrev pub freeing : Scope → Place → T.Freeing → Judged Y.Freeing
freeing scope place f = do
  o ← referred scope f.generation
  area ← judged_if (in_area scope) f.area
  freed_referent place o.place o.referent area
