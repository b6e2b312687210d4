-- The storage machine's state: the world, the input, what lives by its serial, the heap, and the activations, newest first.
-- (X3.53-1976, chapter 5, the state of the interpreter, and chapter 7.)
use Rattle.std.specs.Prelude.{ℕ, ◌+◌, ◌^◌, Bool, true, false, ◌&&◌, ◌==◌, List, [], ◌∷◌, Option, Some, None, if◌then◌else◌}
use Rattle.pli_language.specs.declared.condition.Condition.{Condition}
use Rattle.pli_language.specs.declared.condition.Condition.TheVariants as C
use Rattle.pli_meaning.specs.World.{World, first_world}
use Rattle.pli_typing.specs.Signatures.{LeafKind, Area, Leaf}
use Rattle.pli_typing.specs.TypedTree as Y
use Rattle.pli_meaning.specs.InputLines.{Input, first_input}
use Rattle.pli_meaning.specs.BasicValues.{Name, NullName, VariableName, BasedName}
use Rattle.pli_meaning.specs.Unreachable.{unreachable_height}
use Rattle.pli_meaning.specs.Contents.{Shape, same_shape, Generation, footprint_of, Placed, placed_at, changed_at}

-- ---- what lives

-- an AUTOMATIC or STATIC variable's generation or an argument's copy, with the height of the activation in which it was made
-- and with which it ends (0 for a STATIC one), and, where it is an area, the generations in it
pub record Living : Type 0 where
  pub serial : ℕ
  pub owner : ℕ
  pub generation : Generation
  pub placed : List Placed

-- what a variable of level 1, by its place among those of its block, stands for
pub record Binding : Type 0 where
  pub variable : ℕ
  pub name : Name
  pub shape : Shape

pub record StaticBinding : Type 0 where
  pub block : ℕ
  pub binding : Binding

-- the offsets of a CONTROLLED variable's generations in the heap, newest first
pub record Stack : Type 0 where
  pub block : ℕ
  pub variable : ℕ
  pub offsets : List ℕ

-- ---- activations (chapter 6)

-- what an ON statement establishes
pub data OnUnit : Type 0 where
  SystemUnit : OnUnit
  BlockUnit : Y.Block → OnUnit

-- an entered block: its height among the activations, its level, the height of its static parent, the code of the condition
-- for which it runs (0 where it is no on-unit), what its variables stand for, and its own on-units
pub record Activation : Type 0 where
  pub height : ℕ
  pub level : ℕ
  pub parent : ℕ
  pub oncode : ℕ
  pub bindings : List Binding
  pub units : List (Condition × OnUnit)

pub record State : Type 0 where
  pub world : World
  pub input : Input
  pub serials : ℕ
  pub living : List Living
  pub heap : List Placed
  pub statics : List StaticBinding
  pub controlled : List Stack
  pub activations : List Activation

-- nothing has happened, and serials begin at 1
abbrev pub first_state : List ℕ → State
first_state input =
    record {
      world = first_world;
      input = first_input input;
      serials = 0;
      living = [];
      heap = [];
      statics = [];
      controlled = [];
      activations = [];
    }

-- ---- changes of one part

abbrev pub with_world : World → State → State
with_world w s = record s { world = w }

abbrev pub with_input : (Input → Input) → State → State
with_input change s = record s { input = change s.input }

abbrev pub with_activations : List Activation → State → State
with_activations as' s = record s { activations = as' }

-- ---- areas by serial; the heap is the area of serial 0 (chapter 7)

abbrev pub heap_serial : ℕ
heap_serial = 0

abbrev pub heap_capacity : ℕ
heap_capacity = 2 ^ 20

pub record AreaContents : Type 0 where
  pub capacity : ℕ
  pub placed : List Placed

abbrev pub area_of_kind : LeafKind → List Placed → Option AreaContents
area_of_kind (Area n) placed = Some (record { capacity = n; placed = placed })
area_of_kind _ placed = None

abbrev pub living_of : List Living → ℕ → Option Living
living_of [] serial = None
living_of (l ∷ ls) serial = if l.serial == serial then Some l else living_of ls serial

-- an area is a generation of one leaf
abbrev pub area_of_leaves : List Leaf → List Placed → Option AreaContents
area_of_leaves (l ∷ []) placed = area_of_kind l.kind placed
area_of_leaves _ placed = None

abbrev pub area_in : Option Living → Option AreaContents
area_in None = None
area_in (Some l) = area_of_leaves l.generation.shape.signature.leaves l.placed

abbrev pub area_at : State → ℕ → Option AreaContents
area_at s serial =
    if serial == heap_serial then Some (record { capacity = heap_capacity; placed = s.heap })
    else area_in (living_of s.living serial)

abbrev pub living_changed : ℕ → (Living → Living) → List Living → List Living
living_changed serial change [] = []
living_changed serial change (l ∷ ls) =
    if l.serial == serial then change l ∷ ls else l ∷ living_changed serial change ls

abbrev pub area_changed : (List Placed → List Placed) → Living → Living
area_changed change l = record l { placed = change l.placed }

abbrev pub with_area : ℕ → (List Placed → List Placed) → State → State
with_area serial change s =
    if serial == heap_serial then record s { heap = change s.heap }
    else record s { living = living_changed serial (area_changed change) s.living }

-- ---- generations by name

abbrev pub generation_of : Option Living → Option Generation
generation_of None = None
generation_of (Some l) = Some l.generation

abbrev pub generation_in : Option AreaContents → ℕ → Option Generation
generation_in None offset = None
generation_in (Some a) offset = placed_at a.placed offset

abbrev pub generation_at : State → Name → Option Generation
generation_at s NullName = None
generation_at s (VariableName serial) = generation_of (living_of s.living serial)
generation_at s (BasedName area offset) = generation_in (area_at s area) offset

abbrev pub if_same_shape : Shape → Option Generation → Option Generation
if_same_shape shape None = None
if_same_shape shape (Some g) = if same_shape g.shape shape then Some g else None

-- the generation that a name names, where it lives and has this signature
abbrev pub named : State → Name → Shape → Option Generation
named s n shape = if_same_shape shape (generation_at s n)

abbrev pub generation_changed : (Generation → Generation) → Living → Living
generation_changed change l = record l { generation = change l.generation }

abbrev pub with_generation : Name → (Generation → Generation) → State → State
with_generation NullName change s = s
with_generation (VariableName serial) change s = record s { living = living_changed serial (generation_changed change) s.living }
with_generation (BasedName area offset) change s = with_area area (changed_at offset change) s

-- ---- what variables stand for

-- the static ancestor at a level of the activation at a height: each step goes to the static parent
abbrev pub ancestor : List Activation → ℕ → ℕ → Option Activation
ancestor [] height level = None
ancestor (a ∷ as') height level =
    if a.height == height
    then (if a.level == level then Some a else ancestor as' a.parent level)
    else ancestor as' height level

abbrev pub newest_height : List Activation → ℕ
newest_height [] = unreachable_height
newest_height (a ∷ as') = a.height

-- the static ancestor of the running block at a level
abbrev pub ancestor_at : State → ℕ → Option Activation
ancestor_at s level = ancestor s.activations (newest_height s.activations) level

abbrev pub height_of : Option Activation → ℕ
height_of None = unreachable_height
height_of (Some a) = a.height

abbrev pub binding_of : List Binding → ℕ → Option Binding
binding_of [] variable = None
binding_of (b ∷ bs) variable = if b.variable == variable then Some b else binding_of bs variable

abbrev pub binding_in : Option Activation → ℕ → Option Binding
binding_in None variable = None
binding_in (Some a) variable = binding_of a.bindings variable

abbrev pub static_binding : List StaticBinding → (block variable : ℕ) → Option Binding
static_binding [] block variable = None
static_binding (b ∷ bs) block variable =
    if (b.block == block) && (b.binding.variable == variable) then Some b.binding else static_binding bs block variable

abbrev pub offsets_of : List Stack → (block variable : ℕ) → List ℕ
offsets_of [] block variable = []
offsets_of (k ∷ ks) block variable =
    if (k.block == block) && (k.variable == variable) then k.offsets else offsets_of ks block variable

abbrev pub with_offsets : (block variable : ℕ) → List ℕ → List Stack → List Stack
with_offsets block variable offsets [] = record { block = block; variable = variable; offsets = offsets } ∷ []
with_offsets block variable offsets (k ∷ ks) =
    if (k.block == block) && (k.variable == variable) then record k { offsets = offsets } ∷ ks
    else k ∷ with_offsets block variable offsets ks

-- the newest generation of a CONTROLLED variable, with the signature that it was given
abbrev pub newest_placed : (variable offset : ℕ) → Option Generation → Option Binding
newest_placed variable offset None = None
newest_placed variable offset (Some g) = Some (record { variable = variable; name = BasedName heap_serial offset; shape = g.shape })

abbrev pub newest_in : List Placed → (variable : ℕ) → List ℕ → Option Binding
newest_in heap variable [] = None
newest_in heap variable (o ∷ os) = newest_placed variable o (placed_at heap o)

-- what a variable stands for now; a BASED one stands for nothing of its own
abbrev pub binding_at : State → Y.StorageClass → Y.Variable → Option Binding
binding_at s Y.AutomaticClass v = binding_in (ancestor_at s v.level) v.index
binding_at s Y.ParameterClass v = binding_in (ancestor_at s v.level) v.index
binding_at s Y.StaticClass v = static_binding s.statics v.block v.index
binding_at s Y.BasedClass v = None
binding_at s Y.ControlledClass v = newest_in s.heap v.index (offsets_of s.controlled v.block v.index)

abbrev pub standing_for : State → Y.Variable → Option Binding
standing_for s v = binding_at s v.class v

-- ---- the unit in force (chapter 6), whatever a unit is: a block of the program here, the address of its code for the services

abbrev pub same_condition : Condition → Condition → Bool
same_condition C.Area C.Area = true
same_condition C.FixedOverflow C.FixedOverflow = true
same_condition C.ZeroDivide C.ZeroDivide = true
same_condition C.Endfile C.Endfile = true
same_condition C.Error C.Error = true
same_condition _ _ = false

abbrev pub unit_for : {U : Type 0} → List (Condition × U) → Condition → Option U
unit_for [] c = None
unit_for (u ∷ us) c = if same_condition u.0 c then Some u.1 else unit_for us c

abbrev pub without_unit : {U : Type 0} → Condition → List (Condition × U) → List (Condition × U)
without_unit c [] = []
without_unit c (u ∷ us) = if same_condition u.0 c then us else u ∷ without_unit c us

-- an activation with its own unit, else what is found further down
abbrev pub first_unit : {A U : Type 0} → A → Option U → Option (A × U) → Option (A × U)
first_unit a None further = further
first_unit a (Some u) further = Some (a, u)

-- the newest activation with an entry for the condition, and its unit: dynamic order, whatever the blocks' nesting
abbrev pub force : List Activation → Condition → Option (Activation × OnUnit)
force [] c = None
force (a ∷ as') c = first_unit a (unit_for a.units c) (force as' c)

-- the newest activation's own entry, replaced
abbrev pub established : Condition → OnUnit → List Activation → List Activation
established c u [] = []
established c u (a ∷ as') = record a { units = (c, u) ∷ without_unit c a.units } ∷ as'

abbrev pub reverted : Condition → List Activation → List Activation
reverted c [] = []
reverted c (a ∷ as') = record a { units = without_unit c a.units } ∷ as'

-- the code of the newest active on-unit, 0 with none
abbrev pub oncode_of : List Activation → ℕ
oncode_of [] = 0
oncode_of (a ∷ as') = if a.oncode == 0 then oncode_of as' else a.oncode

-- ---- limits

abbrev pub most_activations : ℕ
most_activations = 500

abbrev pub most_automatic : ℕ
most_automatic = 2 ^ 20

-- each counts for as much as it would take in an area
abbrev pub automatic_in_use : List Living → ℕ
automatic_in_use [] = 0
automatic_in_use (l ∷ ls) = if l.owner == 0 then automatic_in_use ls else footprint_of l.generation + automatic_in_use ls

-- ---- the end of an activation

abbrev pub without_owner : ℕ → List Living → List Living
without_owner height [] = []
without_owner height (l ∷ ls) = if l.owner == height then without_owner height ls else l ∷ without_owner height ls

-- the newest activation ends, with its storage and on-units
abbrev pub without_newest : List Activation → State → State
without_newest [] s = s
without_newest (a ∷ as') s = record s { living = without_owner a.height s.living; activations = as' }

abbrev pub newest_ended : State → State
newest_ended s = without_newest s.activations s
