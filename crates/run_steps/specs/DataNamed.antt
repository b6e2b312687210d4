-- The data that code names, the data that have places, and bytes that stand in the first memory.
use Rattle.std.specs.Prelude.{◌≡◌, ℕ, ◌+◌, ◌*◌, ◌^◌, ◌<◌, ◌≤◌, ◌⊎◌, List, [], ◌∷◌, length, true, slice_index}
use Rattle.std.specs.List.{list_any}
use Rattle.rv_meaning.specs.declared.instr.Instr.{Instr}
use Rattle.pli_coding.specs.Assembly.{Datum, same_datum, DataPlace, Item, OffsetOf, Code}
use Rattle.pli_coding.specs.StaticData.{PlacedDatum}

abbrev pub Names : Datum → Item → Type 0
Names d (OffsetOf r s) = s ≡ DataPlace d
Names d _ = ⊥

-- a datum that code names
abbrev pub IsNamed : Datum → Code → Type 0
IsNamed d [] = ⊥
IsNamed d (i ∷ is) = Names d i ⊎ IsNamed d is

-- a datum that has a place behind the code
abbrev pub IsPlaced : Datum → List PlacedDatum → Type 0
IsPlaced d ps = list_any (λ (p : PlacedDatum). same_datum d p.datum) ps ≡ true

-- bytes that stand in the first memory, behind the code and below the stacks
pub record BytesStand (code : List Instr) (first : List ℕ) (at : ℕ) (bytes : List ℕ) : Type 0 where
  pub behind_code : 4 * length code ≤ at
  pub inside : at + length bytes ≤ 7 * 2 ^ 20
  pub bytes_are : (k : ℕ) → k < length bytes → slice_index first (at + k) ≡ slice_index bytes k
