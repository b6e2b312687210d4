-- Services 10 to 13: generations are placed in areas and in the heap and are removed, and areas are assigned and emptied.
use Rattle.std.specs.Prelude.{ℕ, ◌+◌, ℤ, pos, int_le, Bool, true, false, ◌&&◌, ◌==◌, List, [], ◌∷◌, Option, Some, None, is_none, slice_get, if◌then◌else◌}
use Rattle.rv_meaning.specs.Words.{signed}
use Rattle.pli_typing.specs.Signatures.{LeafKind, Fixed, Bounds, Leaf, data_size}
use Rattle.pli_meaning.specs.Codes.{no_generation_code, area_code, heap_full_code, not_in_area_code}
use Rattle.pli_meaning.specs.BasicValues.{Name, BasedName, BasicNumber}
use Rattle.pli_meaning.specs.Numbers.{is_of_precision}
use Rattle.pli_meaning.specs.Contents.{Shape, Generation, signature_of, fresh, with_value}
use Rattle.pli_meaning.specs.Making.{is_length}
use Rattle.pli_meaning.specs.StorageState.{heap_serial}
use Rattle.pli_serving.specs.Bytes.{is_data, with_bytes, name_size, name_bytes}
use Rattle.pli_serving.specs.Values.{generation_bytes}
use Rattle.pli_serving.specs.ServiceState.{Services}
use Rattle.pli_serving.specs.Answers.{Answer, Done}
use Rattle.pli_serving.specs.Finding.{Call, AreaBytes, area_at}
use Rattle.pli_serving.specs.Arguments.{name_in, asked, where_found, area_named, area_or_heap, area_if, is_area, capacity_of, shape_of_number}
use Rattle.pli_serving.specs.Outcomes.{or_bad, bad_unless}
use Rattle.pli_serving.specs.InitialValues.{Initial, initial_values}

-- ---- how a generation begins

-- the REFER extent that is given, 0 where the signature has none
abbrev pub extent_of : Shape → ℕ → ℤ
extent_of s extent = if is_none s.refer then pos 0 else signed extent

abbrev pub kind_keeps : ℤ → LeafKind → Bool
kind_keeps z (Fixed p) = is_of_precision p z
kind_keeps z _ = false

abbrev pub leaf_keeps : ℤ → Option Leaf → Bool
leaf_keeps z None = false
leaf_keeps z (Some l) = kind_keeps z l.kind

abbrev pub bounds_take : ℤ → List Bounds → Bool
bounds_take z [] = is_length z
bounds_take z (b ∷ bs) = int_le b.lower z

-- the last leaf's length may be so much, or its upper bound
abbrev pub last_takes : ℤ → List Leaf → Bool
last_takes z [] = false
last_takes z (l ∷ []) = bounds_take z l.bounds
last_takes z (l ∷ m ∷ ls) = last_takes z (m ∷ ls)

-- a REFER extent is one that the member keeps and the last leaf takes
abbrev pub extent_fits : ℤ → List Leaf → (refer : Option ℕ) → Bool
extent_fits z leaves None = true
extent_fits z leaves (Some member) = leaf_keeps z (slice_get leaves member) && last_takes z leaves

abbrev pub with_member : ℤ → (refer : Option ℕ) → Generation → Generation
with_member z None g = g
with_member z (Some member) g = with_value member [] (BasicNumber z) g

abbrev pub begun_with : Shape → ℤ → Option Initial → Option Generation
begun_with s z None = None
begun_with s z (Some initial) =
    if is_none (capacity_of s) && extent_fits z s.signature.leaves s.refer
    then Some (with_member z s.refer (fresh s z initial))
    else None

abbrev pub begun_of : Call → Option Shape → (extent initial : ℕ) → Option Generation
begun_of c None extent initial = None
begun_of c (Some s) extent initial = begun_with s (extent_of s extent) (initial_values c s.signature.leaves initial)

-- a generation with defaults, INITIAL values and the REFER member's extent; none where these can't be, or it is an area
abbrev pub begun : Call → (signature extent initial : ℕ) → Option Generation
begun c signature extent initial = begun_of c (shape_of_number c signature) extent initial

-- ---- placing

-- the offset of a generation that was placed, and the memory with its data
pub record PlacedData : Type 0 where
  pub offset : ℕ
  pub memory : List ℕ

abbrev pub with_data : Call → AreaBytes → Generation → Option (ℕ × List ℕ) → Option PlacedData
with_data c a g None = None
with_data c a g (Some p) =
    Some (record {
      offset = p.0;
      memory = with_bytes (generation_bytes g) (a.at + c.keeper.data_at p.0 p.1) (with_bytes p.1 a.at c.memory);
    })

-- a generation in the least gap of an area, none without a gap
abbrev pub placed_in : Call → AreaBytes → (signature : ℕ) → Generation → Option PlacedData
placed_in c a signature g = with_data c a g (c.keeper.allocated (data_size (signature_of g)) signature g.extent a.bytes)

-- ---- 10: allocate

abbrev pub is_heap : (serial : ℕ) → Bool
is_heap serial = serial == heap_serial

abbrev pub with_heap : (serial : ℕ) → Services → Services
with_heap serial v = if is_heap serial then record v { heap_made = true } else v

abbrev pub allocation_answered : Call → (area destination serial : ℕ) → Option PlacedData → Answer
allocation_answered c area destination serial None =
    Done c.services c.memory area (if is_heap serial then heap_full_code else area_code)
allocation_answered c area destination serial (Some p) =
    Done (with_heap serial c.services) (with_bytes (name_bytes (BasedName serial p.offset)) destination p.memory) area 0

-- a generation is placed in an area or in the heap, and its name is written
abbrev pub allocate_served : Call → (area signature extent initial destination : ℕ) → Answer
allocate_served c area signature extent initial destination =
    or_bad (area_or_heap c area) (λ a.
    or_bad (begun c signature extent initial) (λ g.
    bad_unless (is_area c a && is_data c.layout destination name_size)
    (allocation_answered c area destination a.serial (placed_in c a.area signature g))))

-- ---- 11: free

abbrev pub without_kept : Call → (name offset signature : ℕ) → AreaBytes → Answer
without_kept c name offset signature a =
    or_bad (c.keeper.freed offset signature a.bytes) (λ bytes.
    Done c.services (with_bytes bytes a.at c.memory) name 0)

-- whether an area is the one that is given, if one is
abbrev pub is_given : (area : ℕ) → Option ℕ → Bool
is_given area None = true
is_given area (Some given') = area == given'

-- a variable can't be freed, and with an area the name must be one of that area
abbrev pub name_freed : Call → (name : ℕ) → Name → (signature : ℕ) → Option ℕ → Answer
name_freed c name (BasedName area offset) signature within =
    if is_given area within
    then or_bad (area_at c area) (λ a. without_kept c name offset signature a)
    else Done c.services c.memory name not_in_area_code
name_freed c name _ signature within = Done c.services c.memory name not_in_area_code

-- the generation that a name names is removed
abbrev pub free_served : Call → (name signature area : ℕ) → Answer
free_served c name signature area =
    or_bad (name_in c name) (λ n.
    or_bad (area_if c area) (λ within.
    where_found (asked c n signature)
    (Done c.services c.memory name no_generation_code)
    (λ f. name_freed c name n f.signature within)))

-- ---- 12: area assignment

abbrev pub assignment_answered : Call → (target at : ℕ) → Option (List ℕ) → Answer
assignment_answered c target at None = Done c.services c.memory target area_code
assignment_answered c target at (Some bytes) = Done c.services (with_bytes bytes at c.memory) target 0

-- an area holds what another holds; one that is too small stays as it was
abbrev pub area_assignment_served : Call → (target source : ℕ) → Answer
area_assignment_served c target source =
    or_bad (area_named c target) (λ into.
    or_bad (area_named c source) (λ from.
    bad_unless (is_area c into && is_area c from)
    (if into.serial == from.serial then Done c.services c.memory target 0
    else assignment_answered c target into.area.at (c.keeper.copied from.area.bytes into.area.bytes))))

-- ---- 13: empty

-- an area holds nothing
abbrev pub empty_served : Call → (area a1 : ℕ) → Answer
empty_served c area a1 =
    or_bad (area_named c area) (λ a.
    bad_unless (is_area c a)
    (Done c.services (with_bytes (c.keeper.emptied a.area.bytes) a.area.at c.memory) area a1))
