-- The data that stands behind the code: what the code names, each thing once, at its place and with its bytes.
use Rattle.std.specs.Prelude.{ℕ, ◌+◌, ◌-◌, ◌*◌, Bool, true, false, List, [], ◌∷◌, ◌++◌, length, map, replicate}
use Rattle.std.specs.Prelude.{if◌then◌else◌}
use Rattle.std.specs.List.{flat_map, filter, list_any}
use Rattle.rv_meaning.specs.Memory.{bytes_of_word}
use Rattle.pli_typing.specs.Signatures.{rounded_up}
use Rattle.pli_coding.specs.Assembly.{InitialLeaf, Datum, ConstantBytes, InitialValues, NumberWord, StaticStorage}
use Rattle.pli_coding.specs.Assembly.{same_datum, Symbol, DataPlace, OffsetOf, Code}

-- ---- what the code names

abbrev pub data_of_symbol : Symbol → List Datum
data_of_symbol (DataPlace d) = d ∷ []
data_of_symbol _ = []

abbrev pub data_named : Code → List Datum
data_named [] = []
data_named (OffsetOf r s ∷ is) = data_of_symbol s ++ data_named is
data_named (i ∷ is) = data_named is

-- each datum where it first stands
abbrev pub once : (seen rest : List Datum) → List Datum
once seen [] = []
once seen (d ∷ ds) = if list_any (same_datum d) seen then once seen ds else d ∷ once (d ∷ seen) ds

abbrev pub is_initial : Datum → Bool
is_initial (InitialValues leaves) = true
is_initial _ = false

abbrev pub is_constant : Datum → Bool
is_constant (ConstantBytes bytes) = true
is_constant _ = false

abbrev pub is_word : Datum → Bool
is_word (NumberWord block index) = true
is_word _ = false

abbrev pub is_storage : Datum → Bool
is_storage (StaticStorage block index bytes) = true
is_storage _ = false

-- the bytes to which lists of INITIAL values lead
abbrev pub values_of : Datum → List Datum
values_of (InitialValues leaves) = map (λ l. ConstantBytes l.values) leaves
values_of _ = []

-- lists of INITIAL values stand before the values, so that distances aren't negative; storage comes last
abbrev pub ordered : List Datum → List Datum
ordered named =
    filter is_initial named
    ++ (once [] (filter is_constant named ++ flat_map values_of named)
    ++ (filter is_word named ++ filter is_storage named))

abbrev pub static_data : Code → List Datum
static_data code = ordered (once [] (data_named code))

-- ---- places

abbrev pub datum_size : Datum → ℕ
datum_size (ConstantBytes bytes) = rounded_up 4 (length bytes)
datum_size (InitialValues leaves) = 4 + 8 * length leaves
datum_size (NumberWord block index) = 4
datum_size (StaticStorage block index bytes) = 16 + bytes

-- storage begins at a multiple of 16
abbrev pub begins_at : Datum → ℕ → ℕ
begins_at d at = if is_storage d then rounded_up 16 at else at

pub record PlacedDatum : Type 0 where
  pub datum : Datum
  pub place : ℕ

abbrev pub placed_from : ℕ → List Datum → List PlacedDatum
placed_from at [] = []
placed_from at (d ∷ ds) = record { datum = d; place = begins_at d at } ∷ placed_from (begins_at d at + datum_size d) ds

-- the place of a datum that stands there
abbrev pub datum_place : Datum → List PlacedDatum → ℕ
datum_place d [] = 0
datum_place d (p ∷ ps) = if same_datum d p.datum then p.place else datum_place d ps

-- ---- bytes

abbrev pub leaf_bytes : List PlacedDatum → (start : ℕ) → InitialLeaf → List ℕ
leaf_bytes all start l = bytes_of_word l.leaf ++ bytes_of_word (datum_place (ConstantBytes l.values) all - start)

abbrev pub datum_bytes : List PlacedDatum → (start : ℕ) → Datum → List ℕ
datum_bytes all start (ConstantBytes bytes) = bytes ++ replicate (rounded_up 4 (length bytes) - length bytes) 0
datum_bytes all start (InitialValues leaves) = bytes_of_word (length leaves) ++ flat_map (leaf_bytes all start) leaves
datum_bytes all start (NumberWord block index) = bytes_of_word 0
datum_bytes all start (StaticStorage block index bytes) = replicate (16 + bytes) 0

abbrev pub bytes_from : (all : List PlacedDatum) → ℕ → List PlacedDatum → List ℕ
bytes_from all at [] = []
bytes_from all at (p ∷ ps) =
    replicate (p.place - at) 0 ++ (datum_bytes all p.place p.datum ++ bytes_from all (p.place + datum_size p.datum) ps)
