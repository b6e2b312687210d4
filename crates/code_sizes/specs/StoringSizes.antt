-- How many words the code of assignments, ALLOCATE and FREE has at most, by their typed trees.
use Rattle.std.specs.Prelude.{ℕ, ◌+◌, ◌≤◌, List, [], ◌∷◌}
use Rattle.pli_typing.specs.TypedTree as Y
use Rattle.pli_coding.specs.Assembly.{size_of}
use Rattle.pli_coding.specs.Environments.{Environment, Taken}
use Rattle.pli_coding.specs.Storing.{assignment_code, elements_code, aggregate_code, area_code', emptied_code}
use Rattle.pli_coding.specs.Allocating.{allocations_code, freeings_code}
use Rattle.code_sizes.specs.ExpressionSizes.{pointer_size, reference_size, locator_size, subscripts_size, stored_size}

-- ---- scalars

-- a number, a bit or an OFFSET waits while its target is reached
abbrev pub word_put_size : ℕ
word_put_size = 9

abbrev pub text_put_size : ℕ
text_put_size = 12

abbrev pub name_put_size : ℕ
name_put_size = 24

-- a value is put into what was reached
abbrev pub put_size : Y.Stored → ℕ
put_size (Y.StoredNumber precision x) = word_put_size
put_size (Y.StoredText x) = text_put_size
put_size (Y.StoredBit x) = word_put_size
put_size (Y.StoredPointer x) = name_put_size
put_size (Y.StoredOffset x) = word_put_size

abbrev pub assignment_size : (target : Y.Reference) (source : Y.Stored) → ℕ
assignment_size target source = stored_size source + (reference_size target + put_size source)

-- ---- arrays, structures and areas

-- the record of an aggregate is filled
abbrev pub record_size : Y.Reference → ℕ
record_size (Y.Referring v locator part subscripts) = locator_size locator + (subscripts_size subscripts + 84)

abbrev pub elements_size : (target : Y.Reference) (source : Y.Stored) → ℕ
elements_size target source = stored_size source + (record_size target + 15)

abbrev pub aggregate_size : (target source : Y.Reference) → ℕ
aggregate_size target source = record_size source + (record_size target + 29)

abbrev pub area_size : ℕ
area_size = 21

abbrev pub emptied_size : ℕ
emptied_size = 9

-- ---- ALLOCATE and FREE

-- where a generation is found room for
abbrev pub placed_size : ℕ
placed_size = 56

abbrev pub target_size : Y.LocatorTarget → ℕ
target_size (Y.SetPointer r) = reference_size r + name_put_size
target_size (Y.SetOffset r area) = reference_size r + 26

abbrev pub allocation_size : Y.Allocation → ℕ
allocation_size (Y.AllocateBased v area target) = target_size target + placed_size
allocation_size (Y.AllocateControlled v) = 35

abbrev pub allocations_size : List Y.Allocation → ℕ
allocations_size [] = 0
allocations_size (a ∷ as') = allocation_size a + allocations_size as'

abbrev pub freeing_size : Y.Freeing → ℕ
freeing_size (Y.FreeBased v locator area) = pointer_size locator + 25
freeing_size (Y.FreeControlled v) = 4

abbrev pub freeings_size : List Y.Freeing → ℕ
freeings_size [] = 0
freeings_size (f ∷ fs) = freeing_size f + freeings_size fs

-- ---- the law: none is longer

abbrev pub AssignmentsSized : Type 0
AssignmentsSized =
    (e : Environment) (t : Taken) (target : Y.Reference) (source : Y.Stored)
    → size_of (assignment_code e t target source) ≤ assignment_size target source

abbrev pub ElementsSized : Type 0
ElementsSized =
    (e : Environment) (t : Taken) (target : Y.Reference) (source : Y.Stored)
    → size_of (elements_code e t target source) ≤ elements_size target source

abbrev pub AggregatesSized : Type 0
AggregatesSized =
    (e : Environment) (t : Taken) (target source : Y.Reference)
    → size_of (aggregate_code e t target source) ≤ aggregate_size target source

abbrev pub AreasSized : Type 0
AreasSized =
    (e : Environment) (t : Taken) (target source : Y.Variable)
    → (size_of (area_code' e t target source) ≤ area_size) × (size_of (emptied_code e t target) ≤ emptied_size)

abbrev pub AllocationsSized : Type 0
AllocationsSized =
    (e : Environment) (t : Taken) (line : ℕ) (all : List Y.Allocation)
    → size_of (allocations_code e t line all) ≤ allocations_size all

abbrev pub FreeingsSized : Type 0
FreeingsSized =
    (e : Environment) (t : Taken) (all : List Y.Freeing) → size_of (freeings_code e t all) ≤ freeings_size all

abbrev pub StoringSized : Type 0
StoringSized =
    ((AssignmentsSized × ElementsSized) × (AggregatesSized × AreasSized)) × (AllocationsSized × FreeingsSized)
