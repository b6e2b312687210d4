-- Places as maps give them, and as the definitions look for them in lists.
use Rattle.std.specs.Prelude.{◌≡◌, ℕ, List, [], ◌∷◌, map, Option, Some, None, if◌then◌else◌}
use Rattle.std.specs.Borrow.{Bor}
use Rattle.indexmap.specs.IndexMap.{IndexMap, get_by}
use Rattle.pli_coding.specs.Assembly as A
use Rattle.pli_coding.specs.StaticData as D
use Rattle.pli_coding.specs.Linking as L
use Rattle.rv_assembly.specs.declared.item.Symbol.{Symbol}
use Rattle.rv_assembly.specs.declared.statics.DatumRef.{DatumRef}
use Rattle.rv_assembly.specs.declared.marks.MarkedPlace.{MarkedPlace}
use Rattle.rv_assembly.specs.declared.placing.PlacedDatum.{PlacedDatum}
use Rattle.rv_assembly.specs.View.{symbol_of}
use Rattle.rv_assembly.specs.Borrowed.{datum}
use Rattle.rv_assembly.specs.Marks.{mark_of}
use Rattle.rv_assembly.specs.Placed.{placed_of}

abbrev pub first_of : Option ℕ → Option ℕ → Option ℕ
first_of (Some n) other = Some n
first_of None other = other

abbrev pub mark_found : A.Symbol → List L.MarkedPlace → Option ℕ
mark_found s [] = None
mark_found s (m ∷ ms) = if A.same_symbol s m.symbol then Some m.place else mark_found s ms

abbrev pub datum_found : A.Datum → List D.PlacedDatum → Option ℕ
datum_found d [] = None
datum_found d (p ∷ ps) = if A.same_datum d p.datum then Some p.place else datum_found d ps

-- the map has the place of each symbol's first mark
abbrev pub FindsMarks : {S : Type 0} → IndexMap (Bor Symbol) ℕ S → List L.MarkedPlace → Type 0
FindsMarks m ms =
    (q : Bor Symbol) → get_by (λ k. A.same_symbol (symbol_of q.now) (symbol_of k.now)) m ≡ mark_found (symbol_of q.now) ms

-- the map has the place of each datum
abbrev pub FindsData : {S : Type 0} → IndexMap DatumRef ℕ S → List D.PlacedDatum → Type 0
FindsData m ps = (q : DatumRef) → get_by (λ k. A.same_datum (datum q) (datum k)) m ≡ datum_found (datum q) ps

abbrev pub shown : List MarkedPlace → List PlacedDatum → L.Links
shown marks placed = record { marks = map mark_of marks; data' = map placed_of placed }
