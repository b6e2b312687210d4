-- Static data that is constant bytes takes no more than what the code names.
use Rattle.std.proofs.Common.{◌≡◌, ℕ, ◌+◌, ◌-◌, ◌≤◌, List, [], ◌∷◌, ◌++◌, length, Bool, true, false, refl, sym, ap, ◌∙◌, subst, append-nil, length-append, arith}
use Rattle.std.specs.Prelude.{replicate, cond, ⊤}
use Rattle.std.specs.List.{flat_map, filter, list_any}
use Rattle.std.proofs.lemmas.List.{length-replicate}
use Rattle.pli_typing.specs.Signatures.{rounded_up}
use Rattle.pli_coding.specs.Assembly.{Datum, ConstantBytes, same_datum, Code}
use Rattle.pli_coding.specs.StaticData.{PlacedDatum, data_named, once, is_initial, is_constant, is_word, is_storage, values_of, ordered, static_data, datum_size, placed_from, bytes_from}
use Rattle.pli_coding.specs.Linking.{data_start, data_bytes}

-- ---- data that is constant bytes

abbrev pub AreConstant : List Datum → Type 0
AreConstant [] = ⊤
AreConstant (ConstantBytes bytes ∷ ds) = AreConstant ds
AreConstant (_ ∷ ds) = ⊥

-- the bytes that it takes
abbrev pub data_size : List Datum → ℕ
data_size [] = 0
data_size (d ∷ ds) = datum_size d + data_size ds

-- data behind data
pub constant_append : (ds es : List Datum) → AreConstant ds → AreConstant es → AreConstant (ds ++ es)
constant_append [] es h k = k
constant_append (ConstantBytes bytes ∷ ds) es h k = constant_append ds es h k
constant_append (_ ∷ ds) es h k = absurd h

pub size_behind : (ds es : List Datum) → data_size (ds ++ es) ≡ data_size ds + data_size es
size_behind [] es = omega arith
size_behind (d ∷ ds) es = let e = size_behind ds es in omega (arith, e)

-- ---- each datum once

abbrev OnceIsSmall : List Datum → List Datum → Type 0
OnceIsSmall ds es = AreConstant es × (data_size es ≤ data_size ds)

once_if : (seen ds : List Datum) (bytes : List ℕ) (t : Bool) → ((s : List Datum) → OnceIsSmall ds (once s ds)) → OnceIsSmall (ConstantBytes bytes ∷ ds) (cond t (once seen ds) (ConstantBytes bytes ∷ once (ConstantBytes bytes ∷ seen) ds))
once_if seen ds bytes true h = let k = (h seen).1 in ((h seen).0, omega (arith, k))
once_if seen ds bytes false h =
    let k = (h (ConstantBytes bytes ∷ seen)).1 in ((h (ConstantBytes bytes ∷ seen)).0, omega (arith, k))

once_small : (seen ds : List Datum) → AreConstant ds → OnceIsSmall ds (once seen ds)
once_small seen [] h = (tt, omega arith)
once_small seen (ConstantBytes bytes ∷ ds) h =
    once_if seen ds bytes (list_any (same_datum (ConstantBytes bytes)) seen) (λ s. once_small s ds h)
once_small seen (_ ∷ ds) h = absurd h

-- ---- their order

no_initial : (ds : List Datum) → AreConstant ds → filter is_initial ds ≡ []
no_initial [] h = refl
no_initial (ConstantBytes bytes ∷ ds) h = no_initial ds h
no_initial (_ ∷ ds) h = absurd h

all_constant : (ds : List Datum) → AreConstant ds → filter is_constant ds ≡ ds
all_constant [] h = refl
all_constant (ConstantBytes bytes ∷ ds) h = ap (λ es. ConstantBytes bytes ∷ es) (all_constant ds h)
all_constant (_ ∷ ds) h = absurd h

no_values : (ds : List Datum) → AreConstant ds → flat_map values_of ds ≡ []
no_values [] h = refl
no_values (ConstantBytes bytes ∷ ds) h = no_values ds h
no_values (_ ∷ ds) h = absurd h

no_word : (ds : List Datum) → AreConstant ds → filter is_word ds ≡ []
no_word [] h = refl
no_word (ConstantBytes bytes ∷ ds) h = no_word ds h
no_word (_ ∷ ds) h = absurd h

no_storage : (ds : List Datum) → AreConstant ds → filter is_storage ds ≡ []
no_storage [] h = refl
no_storage (ConstantBytes bytes ∷ ds) h = no_storage ds h
no_storage (_ ∷ ds) h = absurd h

-- the parts of an order
abbrev parted : (initial constants values words storage : List Datum) → List Datum
parted initial constants values words storage = initial ++ (once [] (constants ++ values) ++ (words ++ storage))

ordered_is : (ds : List Datum) → AreConstant ds → ordered ds ≡ once [] ds
ordered_is ds h =
    ap (λ u. parted u (filter is_constant ds) (flat_map values_of ds) (filter is_word ds) (filter is_storage ds)) (no_initial ds h)
    ∙ ap (λ u. parted [] u (flat_map values_of ds) (filter is_word ds) (filter is_storage ds)) (all_constant ds h)
    ∙ ap (λ u. parted [] ds u (filter is_word ds) (filter is_storage ds)) (no_values ds h)
    ∙ ap (λ u. parted [] ds [] u (filter is_storage ds)) (no_word ds h)
    ∙ ap (λ u. parted [] ds [] [] u) (no_storage ds h)
    ∙ append-nil (once [] (ds ++ []))
    ∙ ap (λ es. once [] es) (append-nil ds)

-- ---- their bytes

bytes_length : (all : List PlacedDatum) (at : ℕ) (ds : List Datum) → AreConstant ds → length (bytes_from all at (placed_from at ds)) ≡ data_size ds
bytes_length all at [] h = refl
bytes_length all at (ConstantBytes bytes ∷ ds) h =
    let n = length bytes in
    let zeros : List ℕ = replicate (rounded_up 4 n - n) 0 in
    let rest = bytes_from all (at + rounded_up 4 n) (placed_from (at + rounded_up 4 n) ds) in
    let a = length-append (replicate (at - at) 0) ((bytes ++ zeros) ++ rest) in
    let b = length-append (bytes ++ zeros) rest in
    let c = length-append bytes zeros in
    let d = length-replicate {A = ℕ} (at - at) 0 in
    let e = length-replicate {A = ℕ} (rounded_up 4 n - n) 0 in
    let f = bytes_length all (at + rounded_up 4 n) ds h in
    omega (arith, a, b, c, d, e, f)
bytes_length all at (_ ∷ ds) h = absurd h

pub statics_most : (code : Code) (ds : List Datum) → data_named code ≡ ds → AreConstant ds → length (data_bytes code) ≤ data_size ds
statics_most code ds is h =
    let named = once [] ds in
    let a = once_small [] ds h in
    let b = once_small [] named a.0 in
    let same : static_data code ≡ once [] named = ap (λ es. ordered (once [] es)) is ∙ ordered_is named a.0 in
    let all = placed_from (data_start code) (static_data code) in
    let bytes : length (data_bytes code) ≡ data_size (once [] named) =
    bytes_length all (data_start code) (static_data code) (subst AreConstant (sym same) b.0) ∙ ap data_size same in
    let a' = a.1 in
    let b' = b.1 in
    omega (arith, a', b', bytes)
