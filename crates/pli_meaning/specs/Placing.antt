-- What becomes of storage: assignment to elements, aggregates and areas, ALLOCATE and FREE. (X3.53-1976, chapter 7.)
use Rattle.std.specs.Prelude.{ℕ, zero, suc, ◌+◌, ◌-◌, ℤ, pos, Bool, true, false, ◌&&◌, ◌==◌, nat_le, nat_lt, List, [], ◌∷◌, ◌++◌, take, drop, length, Option, Some, None, slice_get, if◌then◌else◌}
use Rattle.pli_language.specs.declared.condition.Condition.TheVariants as C
use Rattle.pli_meaning.specs.Codes.{no_generation_code, area_code, heap_full_code, extent_code, shape_code, not_in_area_code}
use Rattle.pli_meaning.specs.World.{counted}
use Rattle.pli_meaning.specs.Numbers.{is_of_precision}
use Rattle.pli_typing.specs.Signatures.{Bounds, Leaf}
use Rattle.pli_typing.specs.TypedTree as Y
use Rattle.pli_meaning.specs.BasicValues.{Name, NullName, VariableName, BasedName, BasicValue, BasicNumber, BasicPointer, BasicOffset}
use Rattle.pli_meaning.specs.Contents.{leaves_with, Generation, footprint_of, fresh, is_within, same_subscripts, same_bounds, kept, seen, with_value, Placed, gap, with_placed, without_offset, greatest_end}
use Rattle.pli_meaning.specs.StorageState.{State, AreaContents, area_at, with_area, with_generation, named, heap_serial, offsets_of, with_offsets}
use Rattle.pli_meaning.specs.Control.{Meaning, give, stuck, ◌>>=◌, ◌>>◌, looked, stored, act, choose, given}
use Rattle.pli_meaning.specs.Raising.{Around, error, raised, or_error, demanded}
use Rattle.pli_meaning.specs.DeclaredShapes.{amount_of, shape_of, initial_of, declared_variable}
use Rattle.pli_meaning.specs.Evaluating.{Designated, leaf_at, first_leaf, area_meant, offset_within, designated, pointer}
use Rattle.pli_meaning.specs.Making.{extents}

-- ---- elements

abbrev pub with_element : Designated → BasicValue → Generation → Generation
with_element d v g = with_value d.part.first d.subscripts (kept (first_leaf d).kind (g.values d.part.first d.subscripts) v) g

unfoldable pub element_stored : Designated → BasicValue → Meaning (Unit {0})
element_stored d v = stored (with_generation d.name (with_element d v))

-- ---- aggregates

-- whether subscripts go on from those that are given
abbrev pub goes_on_from : List ℤ → List ℤ → Bool
goes_on_from given' is = same_subscripts (take (length given') is) given'

-- the elements of a part, by leaves counted from its first one and subscripts behind those that are given
abbrev pub is_in_part : Designated → ℕ → List ℤ → Bool
is_in_part d leaf is =
    nat_le d.part.first leaf
    && (nat_lt leaf (d.part.first + d.part.count)
    && (goes_on_from d.subscripts is && is_within (leaf_at d.generation.shape d.extent leaf).bounds is))

abbrev pub with_elements : Designated → (ℕ → List ℤ → BasicValue) → Generation → Generation
with_elements d values g =
    record g {
      values = λ leaf is.
          if is_in_part d leaf is
          then kept (leaf_at d.generation.shape d.extent leaf).kind (g.values leaf is) (values (leaf - d.part.first) (drop (length d.subscripts) is))
          else g.values leaf is;
    }

unfoldable pub elements_stored : Designated → (ℕ → List ℤ → BasicValue) → Meaning (Unit {0})
elements_stored d values = stored (with_generation d.name (with_elements d values))

-- what a part holds, as it was when it was taken
abbrev pub elements_of : Designated → ℕ → List ℤ → BasicValue
elements_of d n is =
    seen (leaf_at d.generation.shape d.extent (d.part.first + n)).kind (d.generation.values (d.part.first + n) (d.subscripts ++ is))

abbrev pub bounds_left : ℕ → List Leaf → List (List Bounds)
bounds_left dropped [] = []
bounds_left dropped (l ∷ ls) = drop dropped l.bounds ∷ bounds_left dropped ls

abbrev pub part_bounds : Designated → List (List Bounds)
part_bounds d = bounds_left (length d.subscripts) (take d.part.count (drop d.part.first (leaves_with d.extent d.generation.shape)))

abbrev pub all_same_bounds : List (List Bounds) → List (List Bounds) → Bool
all_same_bounds [] [] = true
all_same_bounds (a ∷ as') (b ∷ bs) = same_bounds a b && all_same_bounds as' bs
all_same_bounds _ _ = false

-- the source is taken whole before the target is evaluated
unfoldable pub aggregate_assigned : Around → (target source : Y.Reference) → Meaning (Unit {0})
aggregate_assigned around target source = do
  e ← designated around source
  d ← designated around target
  demanded around shape_code (all_same_bounds (part_bounds d) (part_bounds e))
  elements_stored d (elements_of e)

-- ---- areas

-- an area that is too small stays as it was
unfoldable pub area_copied : Around → ℕ → AreaContents → AreaContents → Meaning (Unit {0})
area_copied around target into from =
    choose (nat_le (greatest_end from.placed) into.capacity)
    (stored (with_area target (λ placed. from.placed)))
    (raised around C.Area area_code)

unfoldable pub area_assigned : Around → (target source : Y.Variable) → Meaning (Unit {0})
area_assigned around target source = do
  a ← area_meant around source
  b ← area_meant around target
  s ← looked
  from ← or_error around no_generation_code (area_at s a)
  into ← or_error around no_generation_code (area_at s b)
  choose (a == b) (give tt) (area_copied around b into from)

unfoldable pub area_emptied : Around → Y.Variable → Meaning (Unit {0})
area_emptied around target = do
  a ← area_meant around target
  stored (with_area a (λ placed. []))

-- ---- ALLOCATE

abbrev pub placed_with : ℕ → Generation → List Placed → List Placed
placed_with o g = with_placed (record { offset = o; generation = g })

-- AREA is raised where there is no gap, and the placing is tried again; the heap has no such condition
unfoldable pub placing : (turns : ℕ) → Around → (area : ℕ) → Generation → Meaning ℕ
placing zero around area g = stuck
placing (suc turns) around area g = do
  s ← looked
  a ← or_error around no_generation_code (area_at s area)
  given (gap a.capacity (footprint_of g) a.placed)
      (λ o. do
        stored (with_area area (placed_with o g))
        give o)
      (choose (area == heap_serial)
      (error around heap_full_code)
      (do
        raised around C.Area area_code
        act counted
        placing turns around area g))

unfoldable pub area_or_heap : Around → Option Y.Variable → Meaning ℕ
area_or_heap around None = give heap_serial
area_or_heap around (Some area) = area_meant around area

unfoldable pub locator_set : Around → Y.LocatorTarget → Name → Meaning (Unit {0})
locator_set around (Y.SetPointer r) n = do
  d ← designated around r
  element_stored d (BasicPointer n)
locator_set around (Y.SetOffset r area) n = do
  a ← area_meant around area
  o ← or_error around not_in_area_code (offset_within a n)
  d ← designated around r
  element_stored d (BasicOffset o)

-- whether a member can keep an extent
abbrev pub type_keeps : ℤ → Option Y.Leaf → Bool
type_keeps z None = false
type_keeps z (Some l) = leaf_keeps z l.type
  where
    leaf_keeps : ℤ → Y.LeafType → Bool
    leaf_keeps z (Y.FixedLeaf p) = is_of_precision p z
    leaf_keeps z _ = false

abbrev pub refer_extent : List ℤ → Option Y.ReferMember → ℤ
refer_extent values None = pos 0
refer_extent values (Some r) = amount_of values r.amount

abbrev pub refer_fits : Y.DeclaredVariable → ℤ → Option Y.ReferMember → Bool
refer_fits d z None = true
refer_fits d z (Some r) = type_keeps z (slice_get d.leaves r.member)

abbrev pub with_member : ℤ → Option Y.ReferMember → Generation → Generation
with_member z None g = g
with_member z (Some r) g = with_value r.member [] (BasicNumber z) g

abbrev pub first_generation : List ℤ → Y.DeclaredVariable → ℤ → Generation
first_generation values d z = with_member z d.refer (fresh (shape_of values d) z (initial_of d))

unfoldable pub based_allocated : Around → Y.DeclaredVariable → Option Y.Variable → Y.LocatorTarget → Meaning (Unit {0})
based_allocated around d area target = do
  values ← extents around d.evaluations
  demanded around extent_code (refer_fits d (refer_extent values d.refer) d.refer)
  a ← area_or_heap around area
  o ← placing around.turns around a (first_generation values d (refer_extent values d.refer))
  locator_set around target (BasedName a o)

abbrev pub with_newest : Y.Variable → ℕ → State → State
with_newest v o s = record s { controlled = with_offsets v.block v.index (o ∷ offsets_of s.controlled v.block v.index) s.controlled }

unfoldable pub controlled_allocated : Around → Y.Variable → Y.DeclaredVariable → Meaning (Unit {0})
controlled_allocated around v d = do
  values ← extents around d.evaluations
  o ← placing around.turns around heap_serial (first_generation values d (pos 0))
  stored (with_newest v o)

unfoldable pub allocation : Around → Y.Allocation → Meaning (Unit {0})
allocation around (Y.AllocateBased v area target) =
    given (declared_variable around.program v) (λ d. based_allocated around d area target) stuck
allocation around (Y.AllocateControlled v) =
    given (declared_variable around.program v) (λ d. controlled_allocated around v d) stuck

unfoldable pub allocations : Around → List Y.Allocation → Meaning (Unit {0})
allocations around [] = give tt
allocations around (a ∷ as') = do
  allocation around a
  allocations around as'

-- ---- FREE

-- a variable can't be freed, and with an area the name must be one of that area
unfoldable pub name_freed : Around → Name → Option ℕ → Meaning (Unit {0})
name_freed around NullName area = error around no_generation_code
name_freed around (VariableName serial) area = error around not_in_area_code
name_freed around (BasedName a o) None = stored (with_area a (without_offset o))
name_freed around (BasedName a o) (Some area) =
    choose (a == area) (stored (with_area a (without_offset o))) (error around not_in_area_code)

unfoldable pub area_if : Around → Option Y.Variable → Meaning (Option ℕ)
area_if around None = give None
area_if around (Some v) = do
  a ← area_meant around v
  give (Some a)

unfoldable pub based_freed : Around → Y.DeclaredVariable → Y.Pointer → Option Y.Variable → Meaning (Unit {0})
based_freed around d locator area = do
  n ← pointer around locator
  s ← looked
  or_error around no_generation_code (named s n (shape_of [] d))
  a ← area_if around area
  name_freed around n a

abbrev pub without_newest_of : Y.Variable → List ℕ → State → State
without_newest_of v [] s = s
without_newest_of v (o ∷ os) s =
    record s { heap = without_offset o s.heap; controlled = with_offsets v.block v.index os s.controlled }

abbrev pub controlled_freed : Y.Variable → State → State
controlled_freed v s = without_newest_of v (offsets_of s.controlled v.block v.index) s

unfoldable pub freeing : Around → Y.Freeing → Meaning (Unit {0})
freeing around (Y.FreeBased v locator area) =
    given (declared_variable around.program v) (λ d. based_freed around d locator area) stuck
freeing around (Y.FreeControlled v) = stored (controlled_freed v)

unfoldable pub freeings : Around → List Y.Freeing → Meaning (Unit {0})
freeings around [] = give tt
freeings around (f ∷ fs) = do
  freeing around f
  freeings around fs
