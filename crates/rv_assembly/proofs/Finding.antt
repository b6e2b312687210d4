-- Maps of places, as places are put into them.
use Rattle.std.proofs.Common.{◌≡◌, ℕ, ◌+◌, ◌<◌, Bool, true, false, cond, List, [], ◌∷◌, ◌++◌, map, length, take, get_or, Option, Some, None, is_some, refl, sym, ap, ◌∙◌, true≢false, Bor}
use Rattle.std.specs.Prelude.{if◌then◌else◌}
use Rattle.std.specs.Map.{lookup}
use Rattle.std.specs.Cmp.{IsEquivalence}
use Rattle.std.specs.Option.{option_map_or}
use Rattle.std.proofs.lemmas.List.{take_more, map_push}
use Rattle.std.proofs.Math.Logic.{∥∥₁_elim}
use Rattle.std.proofs.Props.{props}
use Rattle.indexmap.specs.IndexMap.{IndexMap, get, get_by}
use Rattle.pli_coding.specs.Assembly.{Symbol, same_symbol, Datum, same_datum}
use Rattle.pli_coding.specs.StaticData.{PlacedDatum, datum_place}
use Rattle.pli_coding.specs.Linking.{MarkedPlace, marked_place}
use Rattle.rv_assembly.specs.declared.item.Symbol.{Symbol as Held}
use Rattle.rv_assembly.specs.declared.statics.DatumRef.{DatumRef}
use Rattle.rv_assembly.specs.View.{symbol_of}
use Rattle.rv_assembly.specs.Borrowed.{datum}
use Rattle.rv_assembly.specs.Found.{first_of, mark_found, datum_found, FindsMarks, FindsData}

-- ---- the first of a key stays

pub lookup_alike : {K : Type 0} (t u : K → Bool) → ((k : K) → t k ≡ u k) → (es : List (K × ℕ)) → lookup t es ≡ lookup u es
lookup_alike t u h [] = refl
lookup_alike t u h (e ∷ es) = ap (λ b. cond b (Some e.1) (lookup t es)) (h e.0) ∙ ap (λ o. cond (u e.0) (Some e.1) o) (lookup_alike t u h es)

first_none : (o : Option ℕ) → o ≡ first_of o None
first_none (Some n) = refl
first_none None = refl

first_some : (o p : Option ℕ) → is_some o ≡ true → o ≡ first_of o p
first_some (Some n) p h = refl
first_some None p h = absurd (true≢false (sym h))

-- a key that has a place
pub first_kept : {K : Type 0} (eq : K → K → Bool) → IsEquivalence eq → (es : List (K × ℕ)) (k q : K) (v : ℕ) → is_some (lookup (eq k) es) ≡ true → lookup (eq q) es ≡ first_of (lookup (eq q) es) (cond (eq q k) (Some v) None)
first_kept eq laws es k q v h = go (eq k q) refl
  where
    go : (b : Bool) → eq k q ≡ b → lookup (eq q) es ≡ first_of (lookup (eq q) es) (cond (eq q k) (Some v) None)
    go true e =
        let same : lookup (eq k) es ≡ lookup (eq q) es = lookup_alike (eq k) (eq q) (λ z. laws.congr k q z e) es in
        first_some (lookup (eq q) es) (cond (eq q k) (Some v) None) (ap is_some (sym same) ∙ h)
    go false e = first_none (lookup (eq q) es) ∙ ap (λ b. first_of (lookup (eq q) es) (cond b (Some v) None)) (sym (laws.symm q k ∙ e))

-- and one that has none
pub first_put : {K : Type 0} (eq : K → K → Bool) → IsEquivalence eq → (es : List (K × ℕ)) (k q : K) (v : ℕ) (after : Option ℕ) → is_some (lookup (eq k) es) ≡ false → after ≡ cond (eq k q) (Some v) (lookup (eq q) es) → after ≡ first_of (lookup (eq q) es) (cond (eq q k) (Some v) None)
first_put eq laws es k q v after h a = a ∙ go (eq k q) refl
  where
    none : (o : Option ℕ) → is_some o ≡ false → o ≡ None
    none None e = refl
    none (Some n) e = absurd (true≢false e)

    go : (b : Bool) → eq k q ≡ b → cond (eq k q) (Some v) (lookup (eq q) es) ≡ first_of (lookup (eq q) es) (cond (eq q k) (Some v) None)
    go true e =
        let same : lookup (eq k) es ≡ lookup (eq q) es = lookup_alike (eq k) (eq q) (λ z. laws.congr k q z e) es in
        let empty : lookup (eq q) es ≡ None = none (lookup (eq q) es) (ap is_some (sym same) ∙ h) in
        ap (λ b. cond b (Some v) (lookup (eq q) es)) e ∙ sym (ap (λ o. first_of o (cond (eq q k) (Some v) None)) empty ∙ ap (λ b. cond b (Some v) None) (laws.symm q k ∙ e))
    go false e = ap (λ b. cond b (Some v) (lookup (eq q) es)) e ∙ first_none (lookup (eq q) es) ∙ ap (λ b. first_of (lookup (eq q) es) (cond b (Some v) None)) (sym (laws.symm q k ∙ e))

-- ---- marks

if_cond : (b : Bool) (o p : Option ℕ) → (if b then o else p) ≡ cond b o p
if_cond true o p = refl
if_cond false o p = refl

first_if : (b : Bool) (n : ℕ) (o p : Option ℕ) → (if b then Some n else first_of o p) ≡ first_of (if b then Some n else o) p
first_if true n o p = refl
first_if false n o p = refl

mark_push : (s : Symbol) (ms : List MarkedPlace) (m : MarkedPlace) → mark_found s (ms ++ m ∷ []) ≡ first_of (mark_found s ms) (cond (same_symbol s m.symbol) (Some m.place) None)
mark_push s [] m = if_cond (same_symbol s m.symbol) (Some m.place) None
mark_push s (x ∷ ms) m =
    ap (λ o. if same_symbol s x.symbol then Some x.place else o) (mark_push s ms m)
    ∙ first_if (same_symbol s x.symbol) x.place (mark_found s ms) (cond (same_symbol s m.symbol) (Some m.place) None)

pub marks_put : {S : Type 0} (eq : Bor Held → Bor Held → Bool) → ((a b : Bor Held) → eq a b ≡ same_symbol (symbol_of a.now) (symbol_of b.now))
    → (m n : IndexMap (Bor Held) ℕ S) (key : Bor Held) (place : ℕ) (ms : List MarkedPlace)
    → ((q : Bor Held) → get eq n q ≡ first_of (get eq m q) (cond (eq q key) (Some place) None))
    → FindsMarks m ms
    → FindsMarks n (ms ++ record { symbol = symbol_of key.now; place = place } ∷ [])
marks_put {S} eq is m n key place ms after finds q =
    let test : Bor Held → Bool = λ k. same_symbol (symbol_of q.now) (symbol_of k.now) in
    lookup_alike test (eq q) (λ k. sym (is q k)) n.entries
    ∙ after q
    ∙ ap (λ o. first_of o (cond (eq q key) (Some place) None)) (lookup_alike (eq q) test (is q) m.entries ∙ finds q)
    ∙ ap (λ b. first_of (mark_found (symbol_of q.now) ms) (cond b (Some place) None)) (is q key)
    ∙ sym (mark_push (symbol_of q.now) ms (record { symbol = symbol_of key.now; place = place }))

pub marks_none : {S : Type 0} (m : IndexMap (Bor Held) ℕ S) → m.entries ≡ [] → FindsMarks m []
marks_none m e q = ap (lookup (λ k. same_symbol (symbol_of q.now) (symbol_of k.now))) e

choice_kept : (b : Bool) (n m : ℕ) (o : Option ℕ) → option_map_or (λ n. n) o 0 ≡ m → option_map_or (λ n. n) (if b then Some n else o) 0 ≡ (if b then n else m)
choice_kept true n m o e = refl
choice_kept false n m o e = e

pub mark_place : (s : Symbol) (ms : List MarkedPlace) → option_map_or (λ n. n) (mark_found s ms) 0 ≡ marked_place s ms
mark_place s [] = refl
mark_place s (m ∷ ms) = choice_kept (same_symbol s m.symbol) m.place (marked_place s ms) (mark_found s ms) (mark_place s ms)

-- ---- data

datum_push : (d : Datum) (ps : List PlacedDatum) (p : PlacedDatum) → datum_found d (ps ++ p ∷ []) ≡ first_of (datum_found d ps) (cond (same_datum d p.datum) (Some p.place) None)
datum_push d [] p = if_cond (same_datum d p.datum) (Some p.place) None
datum_push d (x ∷ ps) p =
    ap (λ o. if same_datum d x.datum then Some x.place else o) (datum_push d ps p)
    ∙ first_if (same_datum d x.datum) x.place (datum_found d ps) (cond (same_datum d p.datum) (Some p.place) None)

pub data_put : {S : Type 0} (eq : DatumRef → DatumRef → Bool) → ((a b : DatumRef) → eq a b ≡ same_datum (datum a) (datum b))
    → (m n : IndexMap DatumRef ℕ S) (key : DatumRef) (place : ℕ) (ps : List PlacedDatum)
    → ((q : DatumRef) → get eq n q ≡ first_of (get eq m q) (cond (eq q key) (Some place) None))
    → FindsData m ps
    → FindsData n (ps ++ record { datum = datum key; place = place } ∷ [])
data_put {S} eq is m n key place ps after finds q =
    let test : DatumRef → Bool = λ k. same_datum (datum q) (datum k) in
    lookup_alike test (eq q) (λ k. sym (is q k)) n.entries
    ∙ after q
    ∙ ap (λ o. first_of o (cond (eq q key) (Some place) None)) (lookup_alike (eq q) test (is q) m.entries ∙ finds q)
    ∙ ap (λ b. first_of (datum_found (datum q) ps) (cond b (Some place) None)) (is q key)
    ∙ sym (datum_push (datum q) ps (record { datum = datum key; place = place }))

pub data_none : {S : Type 0} (m : IndexMap DatumRef ℕ S) → m.entries ≡ [] → FindsData m []
data_none m e q = ap (lookup (λ k. same_datum (datum q) (datum k))) e

pub placed_at : (d : Datum) (ps : List PlacedDatum) → option_map_or (λ n. n) (datum_found d ps) 0 ≡ datum_place d ps
placed_at d [] = refl
placed_at d (p ∷ ps) = choice_kept (same_datum d p.datum) p.place (datum_place d ps) (datum_found d ps) (placed_at d ps)

-- the elements up to a place and the one there
pub shown_to : {X Y : Type 0} (f : X → Y) (xs : List X) (i : ℕ) (x : X) → i < length xs → x ≡ get_or xs i x → map f (take (i + 1) xs) ≡ map f (take i xs) ++ f x ∷ []
shown_to f xs i x h e = ap (map f) (take_more xs i x h ∙ ap (λ y. take i xs ++ y ∷ []) (sym e)) ∙ map_push f (take i xs) x

-- ---- what maps answer

pub marks_answer : {S : Type 0} (eq : Bor Held → Bor Held → Bool) → ((a b : Bor Held) → eq a b ≡ same_symbol (symbol_of a.now) (symbol_of b.now))
    → (m : IndexMap (Bor Held) ℕ S) (ms : List MarkedPlace) (q : Bor Held) (found : Option ℕ) → ∥ FindsMarks m ms ∥₁ → found ≡ get_by (eq q) m → option_map_or (λ n. n) found 0 ≡ marked_place (symbol_of q.now) ms
marks_answer {S} eq is m ms q found h e =
    ∥∥₁_elim h (hlevel props) (λ finds.
    ap (λ o. option_map_or (λ n. n) o 0) (e ∙ lookup_alike (eq q) (λ k. same_symbol (symbol_of q.now) (symbol_of k.now)) (is q) m.entries ∙ finds q) ∙ mark_place (symbol_of q.now) ms)

pub data_answer : {S : Type 0} (eq : DatumRef → DatumRef → Bool) → ((a b : DatumRef) → eq a b ≡ same_datum (datum a) (datum b))
    → (m : IndexMap DatumRef ℕ S) (ps : List PlacedDatum) (q : DatumRef) (found : Option ℕ) → ∥ FindsData m ps ∥₁ → found ≡ get_by (eq q) m → option_map_or (λ n. n) found 0 ≡ datum_place (datum q) ps
data_answer {S} eq is m ps q found h e =
    ∥∥₁_elim h (hlevel props) (λ finds.
    ap (λ o. option_map_or (λ n. n) o 0) (e ∙ lookup_alike (eq q) (λ k. same_datum (datum q) (datum k)) (is q) m.entries ∙ finds q) ∙ placed_at (datum q) ps)
