-- What the arguments of services mean: names, signatures and areas, each by the address or the number that a register holds.
use Rattle.std.specs.Prelude.{ℕ, ◌-◌, ◌^◌, Bool, ◌==◌, List, [], ◌∷◌, Option, Some, None, slice_get, is_some, option_map, if◌then◌else◌}
use Rattle.pli_typing.specs.Signatures.{LeafKind, Area, Leaf, data_size}
use Rattle.pli_meaning.specs.BasicValues.{Name, VariableName}
use Rattle.pli_meaning.specs.Contents.{Shape}
use Rattle.pli_meaning.specs.StorageState.{heap_serial}
use Rattle.area_keeper.specs.Keeper.{Keeper}
use Rattle.pli_serving.specs.Bytes.{is_data, name_size, name_at}
use Rattle.pli_serving.specs.Templates.{shape_at}
use Rattle.pli_serving.specs.ServiceState.{living_of}
use Rattle.pli_serving.specs.Answers.{Answer, Bad}
use Rattle.pli_serving.specs.Finding.{Call, AreaBytes, heap_bytes, area_living, Found, Finding, FoundAt, NotLiving, found, named}

-- ---- names

-- the name that stands at an address, none where that isn't data or its kind is none
abbrev pub name_in : Call → (at : ℕ) → Option Name
name_in c at = if is_data c.layout at name_size then name_at at c.memory else None

-- the number that means the signature that a variable's generation has
abbrev pub own_signature : ℕ
own_signature = 2 ^ 32 - 1

abbrev pub variable_asked : Call → Name → Option Finding
variable_asked c (VariableName serial) = Some (found c (VariableName serial))
variable_asked c _ = None

-- what a name names now, where that has the signature of this number; none where no signature has the number
abbrev pub asked : Call → Name → (signature : ℕ) → Option Finding
asked c n signature =
    if signature == own_signature then variable_asked c n
    else (if is_some (slice_get c.services.signatures signature) then Some (named c n signature) else None)

abbrev pub asked_by : Call → Option Name → (signature : ℕ) → Option Finding
asked_by c None signature = None
asked_by c (Some n) signature = asked c n signature

-- the generation of this signature that the name at an address names
abbrev pub asked_at : Call → (at signature : ℕ) → Option Finding
asked_at c at signature = asked_by c (name_in c at) signature

-- goes on with the generation, or answers that none lives; bytes that are no area make the call bad
abbrev pub where_found : Option Finding → (otherwise : Answer) → (Found → Answer) → Answer
where_found (Some (FoundAt f)) otherwise served = served f
where_found (Some NotLiving) otherwise served = otherwise
where_found _ otherwise served = Bad

-- ---- areas

-- an area that lives: its serial and its bytes
pub record AreaArgument : Type 0 where
  pub serial : ℕ
  pub area : AreaBytes

abbrev pub area_argument : (serial : ℕ) → Option AreaBytes → Option AreaArgument
area_argument serial None = None
area_argument serial (Some a) = Some (record { serial = serial; area = a })

-- the area that a name names; the heap has none
abbrev pub area_of_name : Call → Option Name → Option AreaArgument
area_of_name c (Some (VariableName serial)) = area_argument serial (area_living c (living_of c.services.living serial))
area_of_name c _ = None

-- the area whose name stands at an address
abbrev pub area_named : Call → (at : ℕ) → Option AreaArgument
area_named c at = area_of_name c (name_in c at)

-- the serial of the area whose name stands at an address, with 0 of none
abbrev pub area_if : Call → (at : ℕ) → Option (Option ℕ)
area_if c at = if at == 0 then Some None else option_map (λ a. Some a.serial) (area_named c at)

-- the area whose name stands at an address, or with 0 the heap
abbrev pub area_or_heap : Call → (at : ℕ) → Option AreaArgument
area_or_heap c at = if at == 0 then Some (record { serial = heap_serial; area = heap_bytes c }) else area_named c at

-- whether the bytes are those of an area
abbrev pub is_area : Call → AreaArgument → Bool
is_area c a = is_some (c.keeper.area_of a.area.bytes)

-- ---- signatures

abbrev pub capacity_of_kind : LeafKind → Option ℕ
capacity_of_kind (Area n) = Some n
capacity_of_kind _ = None

abbrev pub capacity_of_leaves : List Leaf → Option ℕ
capacity_of_leaves (l ∷ []) = capacity_of_kind l.kind
capacity_of_leaves _ = None

-- the capacity of a signature that is an area's
abbrev pub capacity_of : Shape → Option ℕ
capacity_of s = capacity_of_leaves s.signature.leaves

-- a whole signature by its number
abbrev pub shape_of_number : Call → ℕ → Option Shape
shape_of_number c number = shape_at c.services.signatures number

abbrev pub bytes_taken : Keeper → Shape → Option ℕ → ℕ
bytes_taken keeper s None = data_size s.signature
bytes_taken keeper s (Some capacity) = keeper.bytes_for capacity

-- the bytes of a generation's data, an area's with what its keeper adds
abbrev pub data_bytes : Keeper → Shape → ℕ
data_bytes keeper s = bytes_taken keeper s (capacity_of s)
