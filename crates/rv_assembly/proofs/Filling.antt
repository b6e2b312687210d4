-- The loops that write the bytes of data.
use Rattle.std.proofs.Common.{◌≡◌, ℕ, ◌+◌, ◌-◌, ◌<◌, List, [], ◌∷◌, ◌++◌, map, length, drop, get_or, sym, ap, ◌∙◌, append_assoc, arith}
use Rattle.std.specs.Prelude.{replicate}
use Rattle.std.proofs.lemmas.List.{replicate-append-replicate}
use Rattle.pli_coding.specs.StaticData.{PlacedDatum, datum_size, datum_bytes, bytes_from}
use Rattle.rv_assembly.specs.declared.placing.PlacedDatum.{PlacedDatum as Held}
use Rattle.rv_assembly.specs.Borrowed.{datum}
use Rattle.rv_assembly.specs.Placed.{placed_of}
use Rattle.rv_assembly.proofs.Naming.{shown_from}

pub next_zero : (now target : List ℕ) (n : ℕ) → 0 < n → now ++ replicate n 0 ≡ target → (now ++ 0 ∷ []) ++ replicate (n - 1) 0 ≡ target
next_zero now target n h e =
    let less : 1 + (n - 1) ≡ n = omega arith in
    append_assoc now (0 ∷ []) (replicate (n - 1) 0)
    ∙ ap (λ u. now ++ u) (replicate-append-replicate 1 (n - 1) 0 ∙ ap (λ k. replicate k 0) less)
    ∙ e

pub next_bytes : (all : List PlacedDatum) (done target : List ℕ) (xs : List Held) (i at gap next : ℕ) (x : Held) → i < length xs → x ≡ get_or xs i x → gap ≡ x.place - at → next ≡ x.place + datum_size (datum x.datum)
    → done ++ bytes_from all at (map placed_of (drop i xs)) ≡ target
    → ((done ++ replicate gap 0) ++ datum_bytes all x.place (datum x.datum)) ++ bytes_from all next (map placed_of (drop (i + 1) xs)) ≡ target
next_bytes all done target xs i at gap next x h e g n is =
    let here : List ℕ = datum_bytes all x.place (datum x.datum) in
    let rest : List PlacedDatum = map placed_of (drop (i + 1) xs) in
    append_assoc (done ++ replicate gap 0) here (bytes_from all next rest)
    ∙ append_assoc done (replicate gap 0) (here ++ bytes_from all next rest)
    ∙ ap (λ k. done ++ (replicate k 0 ++ (here ++ bytes_from all next rest))) g
    ∙ ap (λ k. done ++ (replicate (x.place - at) 0 ++ (here ++ bytes_from all k rest))) n
    ∙ ap (λ u. done ++ u) (sym (ap (bytes_from all at) (shown_from placed_of xs i x h e)))
    ∙ is
