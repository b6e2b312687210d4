-- What the calls of output streams write.
use Rattle.std.specs.Prelude.{◌≡◌, ◌++◌, ℕ, List, ◌∷◌, Option, Some, None, Result, Ok, Err}
use Rattle.pli_meaning.specs.Stream.{with_field}
use Rattle.pli_edit.specs.declared.fault.EditFault.{EditFault}
use Rattle.pli_edit.specs.declared.fault.EditFault.TheVariants as E

-- this output, also where a write fails, with what is still to be handed over; without memory the output stays
abbrev pub IsWrittenOn : (output old : List ℕ) → Result (Unit {0}) EditFault → (new : List ℕ) → Type 0
IsWrittenOn output old (Ok done) new = new ≡ output
IsWrittenOn output old (Err E.Memory) new = new ≡ old
IsWrittenOn output old (Err fault) new = (fault ≡ E.Write) × (new ≡ output)

-- a number's field behind the output, where it is wide enough
abbrev pub IsFieldWrittenOn : Option (List ℕ) → (old : List ℕ) → Result (Unit {0}) EditFault → (new : List ℕ) → Type 0
IsFieldWrittenOn (Some field) old result new = IsWrittenOn (with_field field old) old result new
IsFieldWrittenOn None old result new = (result ≡ Err E.TooWide) × (new ≡ old)

-- what was taken begins with all of the old output, and something of the new one is left behind it
abbrev pub IsCut : (old new taken : List ℕ) → Type 0
IsCut old new taken =
    ((more : List ℕ) × (taken ≡ old ++ more)) × ((first : ℕ) × (rest : List ℕ) × (new ≡ taken ++ first ∷ rest))
