-- The loop over data that is placed.
use Rattle.std.proofs.Common.{◌≡◌, ℕ, ◌+◌, ◌<◌, List, [], ◌∷◌, ◌++◌, map, length, drop, get_or, sym, ap, ◌∙◌, append_assoc}
use Rattle.pli_coding.specs.Assembly.{Datum}
use Rattle.pli_coding.specs.StaticData.{PlacedDatum, datum_size, begins_at, placed_from}
use Rattle.rv_assembly.specs.declared.statics.DatumRef.{DatumRef}
use Rattle.rv_assembly.specs.Borrowed.{datum}
use Rattle.rv_assembly.proofs.Naming.{shown_from}

placed_next : (at place next : ℕ) (d : Datum) (ds : List Datum) → place ≡ begins_at d at → next ≡ place + datum_size d → placed_from at (d ∷ ds) ≡ record { datum = d; place = place } ∷ placed_from next ds
placed_next at place next d ds e n =
    ap (λ p. record { datum = d; place = p } ∷ placed_from (p + datum_size d) ds) (sym e) ∙ ap (λ m. record { datum = d; place = place } ∷ placed_from m ds) (sym n)

pub next_placed : (done target : List PlacedDatum) (xs : List DatumRef) (i at place next : ℕ) (x : DatumRef) → i < length xs → x ≡ get_or xs i x → place ≡ begins_at (datum x) at → next ≡ place + datum_size (datum x)
    → done ++ placed_from at (map datum (drop i xs)) ≡ target
    → (done ++ record { datum = datum x; place = place } ∷ []) ++ placed_from next (map datum (drop (i + 1) xs)) ≡ target
next_placed done target xs i at place next x h e p n is =
    append_assoc done (record { datum = datum x; place = place } ∷ []) (placed_from next (map datum (drop (i + 1) xs)))
    ∙ ap (λ u. done ++ u) (sym (ap (placed_from at) (shown_from datum xs i x h e) ∙ placed_next at place next (datum x) (map datum (drop (i + 1) xs)) p n))
    ∙ is
