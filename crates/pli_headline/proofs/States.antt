-- The state of a block whose variables are scalars, each with its serial number.
use Rattle.std.proofs.Common.{◌≡◌, ℕ, List, [], None, Some, Bool, true, false, refl, sym, ap, ◌∙◌, subst}
use Rattle.std.specs.Prelude.{ℤ, cond, ◌==◌, slice_get, if◌then◌else◌}
use Rattle.std.proofs.lemmas.Bool.{eqb-true}
use Rattle.pli_typing.specs.TypedTree as Y
use Rattle.pli_meaning.specs.BasicValues.{BasicValue}
use Rattle.pli_meaning.specs.StorageState.{State, generation_of, living_of, standing_for, if_same_shape}
use Rattle.pli_meaning.specs.Placing as P
use Rattle.pli_headline.specs.ProvedSoFar.{Names, Types, Kind, alone}
use Rattle.pli_headline.proofs.Changes.{changed_same, changed_other}
use Rattle.pli_headline.proofs.Scalars.{IsNumeric, Values, Typed, by_type, value_as, Fits, fits_numeric}
use Rattle.pli_headline.proofs.Variables.{HoldsScalar, own, scalar_binding, scalar_generation, scalar_shape, same_scalar, designated_scalar}
use Rattle.pli_headline.proofs.Assignments.{assigned_state}

-- what variables hold when one is assigned a number, or a text
abbrev pub with_number_at : Values → ℕ → ℤ → Values
with_number_at n j z =
    record { numbers = λ i. if i == j then z else n.numbers i; texts = n.texts; arrays = n.arrays; text_arrays = n.text_arrays }

abbrev pub with_text_at : Values → ℕ → List ℕ → Values
with_text_at n j text =
    record { numbers = n.numbers; texts = λ i. if i == j then text else n.texts i; arrays = n.arrays; text_arrays = n.text_arrays }

-- a variable of the block stands for a generation that holds the value of a number
pub record Holds (s : State) (block : Names) (j serial : ℕ) (type : Y.LeafType) (z : ℤ) : Type 0 where
  pub values : ℕ → List ℤ → BasicValue
  pub stands : standing_for s (own block j) ≡ Some (scalar_binding type (block.at j).index serial)
  pub lives : generation_of (living_of s.living serial) ≡ Some (scalar_generation type values)
  pub value : values 0 [] ≡ value_as type z
  pub fits : Fits type z

abbrev pub holds_scalar : {s : State} {block : Names} {j serial : ℕ} {type : Y.LeafType} {z : ℤ} → Holds s block j serial type z → HoldsScalar s (own block j) type z
holds_scalar {serial = serial} {type = type} {z = z} h =
    record { serial = serial; values = h.values; stands = h.stands; lives = ap (if_same_shape (scalar_shape type)) h.lives ∙ ap (λ t. cond t (Some (scalar_generation type h.values)) None) (same_scalar type (fits_numeric type z h.fits)); value = h.value; fits = h.fits }

-- ---- assignment

-- what an element of a scalar holds once it is stored
element_is : (type : Y.LeafType) → IsNumeric type → (serial : ℕ) (values : ℕ → List ℤ → BasicValue) (z : ℤ) → (P.with_element (designated_scalar type serial values) (value_as type z) (scalar_generation type values)).values 0 [] ≡ value_as type z
element_is type is serial values z =
    by_type (λ t. (P.with_element (designated_scalar t serial values) (value_as t z) (scalar_generation t values)).values 0 [] ≡ value_as t z) (λ p. refl) refl type is

holds_by : {s : State} {block : Names} {j serial : ℕ} {type : Y.LeafType} (q : Bool) (i other' : ℕ) (other : Y.LeafType) (x z : ℤ) → (i == j) ≡ q → (i ≡ j → other ≡ type) → (i ≡ j → other' ≡ serial) → ((i == j) ≡ false → (serial == other') ≡ false) → Fits type z → (h : Holds s block j serial type x) (y : ℤ) → Holds s block i other' other y → Holds (assigned_state s type serial h.values z) block i other' other (cond q z y)
holds_by {s} {block} {j} {serial} {type} true i other' other x z e alike same' apart fits h y o =
    let same : i ≡ j = eqb-true i j e in
    let change = P.with_element (designated_scalar type serial h.values) (value_as type z) in
    let s' = assigned_state s type serial h.values z in
    subst (λ w. Holds s' block i other' w z) (sym (alike same))
    (subst (λ m. Holds s' block i m type z) (sym (same' same))
    (subst (λ u. Holds s' block u serial type z) (sym same)
    (record {
      values = (change (scalar_generation type h.values)).values;
      stands = h.stands;
      lives = changed_same s.living serial change (scalar_generation type h.values) h.lives;
      value = element_is type (fits_numeric type z fits) serial h.values z;
      fits = fits;
    })))
holds_by {s} {block} {j} {serial} {type} false i other' other x z e alike same' apart fits h y o =
    let change = P.with_element (designated_scalar type serial h.values) (value_as type z) in
    record { values = o.values; stands = o.stands; lives = changed_other s.living serial other' change (apart e) ∙ o.lives; value = o.value; fits = o.fits }

-- the types of a place are one
pub one_type : (types : Types) (i j : ℕ) (type other : Kind) → slice_get types j ≡ Some type → slice_get types i ≡ Some other → i ≡ j → other ≡ type
one_type types i j type other h k e =
    let both : Some other ≡ Some type = sym k ∙ ap (λ n. slice_get types n) e ∙ h in
    cc both

-- and so of two scalars
pub one_alone : (types : Types) (i j : ℕ) (type other : Y.LeafType) → slice_get types j ≡ Some (alone type) → slice_get types i ≡ Some (alone other) → i ≡ j → other ≡ type
one_alone types i j type other h k e = ap (λ (u : Kind). u.type) (one_type types i j (alone type) (alone other) h k e)

-- the numbers after one is assigned, where others have other serial numbers
pub holds_assigned : {s : State} {block : Names} {j : ℕ} (serials : ℕ → ℕ) (types : Types) {type : Y.LeafType} (n : Values) (z : ℤ) (below : slice_get types j ≡ Some (alone type)) → Fits type z → (h : Holds s block j (serials j) type (n.numbers j)) → ((i : ℕ) (b : Typed types i) → (i == j) ≡ false → (serials j == serials i) ≡ false) → ((i : ℕ) (b : Typed types i) → IsNumeric b.0 → Holds s block i (serials i) b.0 (n.numbers i)) → (i : ℕ) (b : Typed types i) → IsNumeric b.0 → Holds (assigned_state s type (serials j) h.values z) block i (serials i) b.0 ((with_number_at n j z).numbers i)
holds_assigned {j = j} serials types {type} n z below fits h apart all i b numeric =
    holds_by (i == j) i (serials i) b.0 (n.numbers j) z refl (one_alone types i j type b.0 below b.1) (λ e. ap serials e) (apart i b) fits h (n.numbers i) (all i b numeric)
