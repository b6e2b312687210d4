-- The data that code names stand behind it.
use Rattle.std.specs.Prelude.{◌≡◌, List, true}
use Rattle.std.specs.List.{list_any}
use Rattle.pli_coding.specs.Assembly.{Datum, InitialLeaf, InitialValues, same_datum, Code}
use Rattle.pli_coding.specs.StaticData.{data_named, values_of, static_data, PlacedDatum, placed_from}
use Rattle.pli_coding.specs.Linking.{data_start}

-- a datum among others
abbrev pub Has : List Datum → Datum → Type 0
Has ds d = list_any (same_datum d) ds ≡ true

-- what code names is among its static data, and so are the values to which lists of INITIAL values lead; and what is
-- among these has a place
pub record DataStand : Type 0 where
  pub named : (code : Code) (d : Datum) → Has (data_named code) d → Has (static_data code) d
  pub values :
      (code : Code) (leaves : List InitialLeaf) (v : Datum) → Has (data_named code) (InitialValues leaves)
      → Has (values_of (InitialValues leaves)) v → Has (static_data code) v
  pub placed :
      (code : Code) (d : Datum) → Has (static_data code) d
      → list_any (λ (p : PlacedDatum). same_datum d p.datum) (placed_from (data_start code) (static_data code)) ≡ true
