-- Where what a name names stands in memory: a variable's generation by its serial, or a generation in an area's bytes.
use Rattle.std.specs.Prelude.{ℕ, ◌+◌, ℤ, pos, Bool, true, false, ◌==◌, List, [], ◌∷◌, Option, Some, None, if◌then◌else◌}
use Rattle.pli_typing.specs.Signatures.{LeafKind, Area, Leaf}
use Rattle.pli_meaning.specs.BasicValues.{Name, NullName, VariableName, BasedName}
use Rattle.pli_meaning.specs.Contents.{Shape}
use Rattle.pli_meaning.specs.StorageState.{heap_serial}
use Rattle.area_keeper.specs.Keeper.{Kept, KeptArea, Keeper}
use Rattle.pli_serving.specs.Bytes.{Layout, bytes_at}
use Rattle.pli_serving.specs.Templates.{shape_at}
use Rattle.pli_serving.specs.ServiceState.{Services, Living, living_of}

-- what a service is called with beside its registers: the keeper, where the parts of memory lie, the state, and the bytes
pub record Call : Type 0 where
  pub keeper : Keeper
  pub layout : Layout
  pub services : Services
  pub memory : List ℕ

-- ---- areas

-- where an area's bytes begin, and these
pub record AreaBytes : Type 0 where
  pub at : ℕ
  pub bytes : List ℕ

abbrev pub area_bytes : Call → (capacity at : ℕ) → AreaBytes
area_bytes c capacity at = record { at = at; bytes = bytes_at (c.keeper.bytes_for capacity) at c.memory }

-- a heap in which nothing was placed yet is empty, whatever its bytes
abbrev pub heap_if : Call → (is_made : Bool) → AreaBytes → AreaBytes
heap_if c true a = a
heap_if c false a = record { at = a.at; bytes = c.keeper.made c.layout.heap_capacity a.bytes }

abbrev pub heap_bytes : Call → AreaBytes
heap_bytes c = heap_if c c.services.heap_made (area_bytes c c.layout.heap_capacity c.layout.heap_at)

abbrev pub area_of_kind : Call → LeafKind → (at : ℕ) → Option AreaBytes
area_of_kind c (Area capacity) at = Some (area_bytes c capacity at)
area_of_kind c _ at = None

abbrev pub area_of_leaves : Call → List Leaf → (at : ℕ) → Option AreaBytes
area_of_leaves c (l ∷ []) at = area_of_kind c l.kind at
area_of_leaves c _ at = None

abbrev pub area_of_shape : Call → Option Shape → (at : ℕ) → Option AreaBytes
area_of_shape c None at = None
area_of_shape c (Some s) at = area_of_leaves c s.signature.leaves at

abbrev pub area_living : Call → Option Living → Option AreaBytes
area_living c None = None
area_living c (Some l) = area_of_shape c (shape_at c.services.signatures l.signature) l.at

-- the bytes of the area of a serial, none where no area lives by it
abbrev pub area_at : Call → (serial : ℕ) → Option AreaBytes
area_at c serial =
    if serial == heap_serial then Some (heap_bytes c) else area_living c (living_of c.services.living serial)

-- ---- generations

-- where a generation's data begins, the number of its signature, and the REFER extent with which it was allocated
pub record Found : Type 0 where
  pub at : ℕ
  pub signature : ℕ
  pub extent : ℤ

-- a generation; none that lives; or bytes that should be an area's and are not
pub data Finding : Type 0 where
  FoundAt : Found → Finding
  NotLiving : Finding
  NoArea : Finding

abbrev pub found_living : Option Living → Finding
found_living None = NotLiving
found_living (Some l) = FoundAt (record { at = l.at; signature = l.signature; extent = pos 0 })

abbrev pub found_kept : Call → AreaBytes → (offset : ℕ) → List Kept → Finding
found_kept c a offset [] = NotLiving
found_kept c a offset (k ∷ ks) =
    if k.offset == offset
    then FoundAt (record { at = a.at + c.keeper.data_at offset a.bytes; signature = k.signature; extent = k.extent })
    else found_kept c a offset ks

abbrev pub found_in_area : Call → AreaBytes → (offset : ℕ) → Option KeptArea → Finding
found_in_area c a offset None = NoArea
found_in_area c a offset (Some area) = found_kept c a offset area.placed

abbrev pub found_based : Call → (offset : ℕ) → Option AreaBytes → Finding
found_based c offset None = NotLiving
found_based c offset (Some a) = found_in_area c a offset (c.keeper.area_of a.bytes)

-- what a name names now, whatever its signature
abbrev pub found : Call → Name → Finding
found c NullName = NotLiving
found c (VariableName serial) = found_living (living_of c.services.living serial)
found c (BasedName area offset) = found_based c offset (area_at c area)

abbrev pub if_of_signature : (signature : ℕ) → Finding → Finding
if_of_signature signature (FoundAt f) = if f.signature == signature then FoundAt f else NotLiving
if_of_signature signature NotLiving = NotLiving
if_of_signature signature NoArea = NoArea

-- what it names now, where that has the signature of this number
abbrev pub named : Call → Name → (signature : ℕ) → Finding
named c n signature = if_of_signature signature (found c n)
