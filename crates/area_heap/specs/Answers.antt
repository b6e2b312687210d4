-- What calls on an area's bytes answer, by what a keeper's functions make of the bytes.
use Rattle.std.specs.Prelude.{ℕ, ℤ, ◌==◌, List, Option, Some, None, Result, Ok, Err, if◌then◌else◌}
use Rattle.area_keeper.specs.Keeper.{Kept, KeptArea, Keeper}
use Rattle.area_keeper.specs.KeptAreas.{kept_at}
use Rattle.area_heap.specs.declared.fault.AreaFault.{AreaFault}
use Rattle.area_heap.specs.declared.fault.AreaFault.TheVariants.{NoGap, NoGeneration}

-- that something was done, or else why it wasn't
abbrev pub done_or : {X : Type 0} → AreaFault → Option X → Result (Unit {0}) AreaFault
done_or fault None = Err fault
done_or fault (Some x) = Ok tt

-- the bytes afterwards, the old ones where nothing was done
abbrev pub bytes_or : (old : List ℕ) → Option (List ℕ) → List ℕ
bytes_or old None = old
bytes_or old (Some new) = new

-- the same where an offset comes with the bytes
abbrev pub offset_or_fault : Option (ℕ × List ℕ) → Result ℕ AreaFault
offset_or_fault None = Err NoGap
offset_or_fault (Some p) = Ok p.0

abbrev pub placed_or : (old : List ℕ) → Option (ℕ × List ℕ) → List ℕ
placed_or old None = old
placed_or old (Some p) = p.1

-- ---- what is found

abbrev pub of_signature : (signature : ℕ) → Option Kept → Option Kept
of_signature signature None = None
of_signature signature (Some g) = if g.signature == signature then Some g else None

-- the generation at an offset, where it has the signature
abbrev pub kept_of : (offset signature : ℕ) → Option KeptArea → Option Kept
kept_of offset signature None = None
kept_of offset signature (Some a) = of_signature signature (kept_at a.placed offset)

abbrev pub start_or_fault : Keeper → List ℕ → Option Kept → Result ℕ AreaFault
start_or_fault k bytes None = Err NoGeneration
start_or_fault k bytes (Some g) = Ok (k.data_at g.offset bytes)

abbrev pub extent_or_fault : Option Kept → Result ℤ AreaFault
extent_or_fault None = Err NoGeneration
extent_or_fault (Some g) = Ok g.extent
