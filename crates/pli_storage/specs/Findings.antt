-- What a name names, as code holds it.
use Rattle.std.specs.Prelude.{ℕ, List}
use Rattle.pli_serving.specs.Finding as F
use Rattle.pli_storage.specs.declared.finding.Found.{Found}
use Rattle.pli_storage.specs.declared.finding.Finding.{Finding}
use Rattle.pli_storage.specs.declared.finding.Finding.TheVariants.{At, NotLiving, NoArea}

abbrev pub found_of : Found → F.Found
found_of f = record { at = f.at; signature = f.signature; extent = f.extent }

abbrev pub finding_of : Finding → F.Finding
finding_of (At f) = F.FoundAt (found_of f)
finding_of NotLiving = F.NotLiving
finding_of NoArea = F.NoArea

-- the bytes of an area from an address on
abbrev pub area_with : (at : ℕ) → List ℕ → F.AreaBytes
area_with at bytes = record { at = at; bytes = bytes }
