-- Areas that are named, and what is written of their bytes.
use Rattle.std.specs.Prelude.{ℕ, List, Option, Some, None}
use Rattle.area_keeper.specs.Keeper.{Keeper}
use Rattle.pli_serving.specs.Bytes.{bytes_at, with_bytes}
use Rattle.pli_serving.specs.Finding.{Call, area_bytes}
use Rattle.pli_serving.specs.Arguments.{AreaArgument}
use Rattle.pli_storage.specs.declared.held.AreaPlace.{AreaPlace}
use Rattle.pli_storage.specs.declared.named_areas.NamedArea.{NamedArea}

abbrev pub bytes_of : Keeper → AreaPlace → List ℕ → List ℕ
bytes_of k place m = bytes_at (k.bytes_for place.capacity) place.at m

abbrev pub area_argument : Call → NamedArea → AreaArgument
area_argument c a = record { serial = a.serial; area = area_bytes c a.place.capacity a.place.at }

-- the memory with an area's new bytes, if there are any
abbrev pub written_or : (at : ℕ) → List ℕ → Option (List ℕ) → List ℕ
written_or at m None = m
written_or at m (Some bytes) = with_bytes bytes at m
