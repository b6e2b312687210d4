-- INITIAL values in static data, and the generations that services begin with them.
use Rattle.std.specs.Prelude.{◌≡◌, ℕ, ◌+◌, ◌≤◌, List, length, true, ⊤, ◌^◌, ◌<◌, [], ◌∷◌, ℤ, map, Option, Some, None}
use Rattle.std.specs.Prelude.{Bool, int_le, false}
use Rattle.pli_language.specs.Tree.{InitialValue, InitialSkip, InitialEmpty, InitialItem, InitialNumber, InitialText}
use Rattle.pli_language.specs.Tree.{InitialBit, InitialNull}
use Rattle.pli_typing.specs.Signatures.{LeafKind, Fixed, Character, Varying, Bit, Pointer, Offset}
use Rattle.pli_typing.specs.TypedTree as Y
use Rattle.pli_meaning.specs.Contents.{Generation, fresh}
use Rattle.pli_meaning.specs.DeclaredShapes.{kind_of, bounds_of, shape_of, initial_of}
use Rattle.pli_meaning.specs.Making.{is_length}
use Rattle.pli_meaning.specs.Numbers.{is_of_precision}
use Rattle.pli_meaning.specs.Placing.{refer_extent, with_member}
use Rattle.area_keeper.specs.KeptAreas.{part}
use Rattle.pli_serving.specs.AreaServices as A
use Rattle.pli_serving.specs.Arguments.{capacity_of, shape_of_number}
use Rattle.pli_serving.specs.Finding.{Call}
use Rattle.pli_serving.specs.InitialValues.{Initial, initial_values}
use Rattle.pli_coding.specs.Assembly.{InitialLeaf, ConstantBytes, Datum, InitialValues}
use Rattle.pli_coding.specs.StaticData.{PlacedDatum, datum_place, datum_bytes}
use Rattle.pli_coding.specs.StaticForms.{initial_datum}

-- ---- bytes that stand in data

pub record HasBytes (c : Call) (at : ℕ) (bytes : List ℕ) : Type 0 where
  pub low : c.layout.code_bytes ≤ at
  pub high : at + length bytes ≤ c.layout.end
  pub are : part at (length bytes) c.memory ≡ bytes

-- ---- items

-- EMPTY, which only areas have, is written as what is skipped
abbrev pub read_value : InitialValue → InitialValue
read_value InitialEmpty = InitialSkip
read_value v = v

abbrev pub read_item : InitialItem → InitialItem
read_item i = record { repetition = i.repetition; value = read_value i.value }

-- a value that a leaf can be given
abbrev pub IsGiven : LeafKind → InitialValue → Type 0
IsGiven (Fixed p) (InitialNumber z) = (p ≤ 31) × (is_of_precision p z ≡ true)
IsGiven (Character n) (InitialText t) = ⊤
IsGiven (Varying n) (InitialText t) = ⊤
IsGiven Bit (InitialBit b) = ⊤
IsGiven Pointer InitialNull = ⊤
IsGiven Offset InitialNull = ⊤
IsGiven kind InitialSkip = ⊤
IsGiven kind InitialEmpty = ⊤
IsGiven _ _ = ⊥

abbrev pub AreGiven : LeafKind → List InitialItem → Type 0
AreGiven kind [] = ⊤
AreGiven kind (i ∷ is) = ((i.repetition < 2 ^ 32) × IsGiven kind i.value) × AreGiven kind is

abbrev pub AllGiven : List ℤ → List Y.Leaf → Type 0
AllGiven values [] = ⊤
AllGiven values (l ∷ ls) = AreGiven (kind_of values l.type) l.initial × AllGiven values ls

abbrev pub read_items : List InitialItem → List InitialItem
read_items items = map read_item items

-- ---- a datum

-- each leaf's values stand where the datum of these bytes has its place, behind the start of the whole
abbrev pub AllStand : Call → List PlacedDatum → (start : ℕ) → List InitialLeaf → Type 0
AllStand c all start [] = ⊤
AllStand c all start (l ∷ ls) =
    ((start ≤ datum_place (ConstantBytes l.values) all)
    × HasBytes c (datum_place (ConstantBytes l.values) all)
    (datum_bytes all (datum_place (ConstantBytes l.values) all) (ConstantBytes l.values)))
    × AllStand c all start ls

-- where it stands, 0 without one
abbrev pub place_if : List PlacedDatum → Option Datum → ℕ
place_if all None = 0
place_if all (Some d) = datum_place d all

-- the datum and the values to which it leads stand as their bytes
abbrev pub DatumStands : Call → List PlacedDatum → Option Datum → Type 0
DatumStands c all (Some (InitialValues ls)) =
    HasBytes c (datum_place (InitialValues ls) all)
    (datum_bytes all (datum_place (InitialValues ls) all) (InitialValues ls))
    × AllStand c all (datum_place (InitialValues ls) all) ls
DatumStands c all _ = ⊤

pub record IsLaid (c : Call) (all : List PlacedDatum) (values : List ℤ) (d : Y.DeclaredVariable) : Type 0 where
  pub end : c.layout.end ≤ 2 ^ 32
  pub code : 0 < c.layout.code_bytes
  pub few : length d.leaves ≤ 2 ^ 32
  pub given : AllGiven values d.leaves
  pub stands : DatumStands c all (initial_datum d)

-- ---- EMPTY

-- without EMPTY, which only areas have, they are the same lists
abbrev pub IsNoEmpty : InitialValue → Type 0
IsNoEmpty InitialEmpty = ⊥
IsNoEmpty v = ⊤

abbrev pub AreNoEmpty : List InitialItem → Type 0
AreNoEmpty [] = ⊤
AreNoEmpty (i ∷ is) = IsNoEmpty i.value × AreNoEmpty is

abbrev pub AllNoEmpty : Initial → Type 0
AllNoEmpty [] = ⊤
AllNoEmpty (i ∷ is) = AreNoEmpty i × AllNoEmpty is

-- ---- extents

-- what the last leaf's length or upper bound may be, where REFER tells it: what is checked where the extent is
-- evaluated
abbrev pub bounds_allow : List ℤ → ℤ → List Y.Bounds → Bool
bounds_allow values z [] = is_length z
bounds_allow values z (b ∷ bs) = int_le (bounds_of values b).lower z

abbrev pub last_allows : List ℤ → ℤ → List Y.Leaf → Bool
last_allows values z [] = false
last_allows values z (l ∷ []) = bounds_allow values z l.bounds
last_allows values z (l ∷ m ∷ ls) = last_allows values z (m ∷ ls)

abbrev pub refer_allows : List ℤ → ℤ → Y.DeclaredVariable → Option Y.ReferMember → Bool
refer_allows values z d None = true
refer_allows values z d (Some r) = last_allows values z d.leaves

-- ---- the generation

-- what service 10 is given for a declared variable whose extents have these values
pub record IsAsked (c : Call) (values : List ℤ) (d : Y.DeclaredVariable) (signature extent initial : ℕ) : Type 0 where
  pub shape : shape_of_number c signature ≡ Some (shape_of values d)
  pub extent_same : A.extent_of (shape_of values d) extent ≡ refer_extent values d.refer
  pub read : initial_values c (shape_of values d).signature.leaves initial ≡ Some (map read_items (initial_of d))
  pub plain : capacity_of (shape_of values d) ≡ None
  pub allowed : refer_allows values (refer_extent values d.refer) d d.refer ≡ true

-- the meaning's first generation, with the values as they are read
abbrev pub generation_read : List ℤ → Y.DeclaredVariable → ℤ → Generation
generation_read values d z = with_member z d.refer (fresh (shape_of values d) z (map read_items (initial_of d)))
