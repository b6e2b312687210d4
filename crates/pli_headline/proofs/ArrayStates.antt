-- What variables of a block hold after an element of an array is assigned, and arrays after a scalar or a text is.
use Rattle.std.proofs.Common.{◌≡◌, ℕ, List, [], ◌∷◌, Some, Bool, true, false, refl, sym, ap, ◌∙◌, subst}
use Rattle.std.specs.Prelude.{ℤ, cond, ◌==◌, slice_get}
use Rattle.std.proofs.lemmas.Bool.{eqb-true}
use Rattle.pli_typing.specs.Signatures.{Bounds}
use Rattle.pli_typing.specs.TypedTree as Y
use Rattle.pli_meaning.specs.BasicValues.{VariableName, BasicValue, BasicText}
use Rattle.pli_meaning.specs.Contents.{Generation, is_within, element_place}
use Rattle.pli_meaning.specs.StorageState.{State, with_world, with_generation}
use Rattle.pli_meaning.specs.Placing as P
use Rattle.pli_headline.specs.ProvedSoFar.{Names, Types, Kind, alone}
use Rattle.pli_headline.proofs.Scalars.{Values, value_as, Fits}
use Rattle.pli_headline.proofs.Assignments.{assigned_state}
use Rattle.pli_headline.proofs.Changes.{changed_other}
use Rattle.pli_headline.proofs.States.{Holds, one_type}
use Rattle.pli_headline.proofs.Variables.{designated_scalar}
use Rattle.pli_headline.proofs.TextVariables.{text_state}
use Rattle.pli_headline.proofs.TextStates.{KeepsText}
use Rattle.pli_headline.proofs.ElementsStay.{with_element_at}
use Rattle.pli_headline.proofs.ArrayMeant.{HoldsArray, designated_element, element_state, array_assigned, array_beside}
use Rattle.pli_headline.proofs.ArrayScopes.{IsArrayAt, with_element_of}

-- ---- a place is that of one variable

abbrev pub kind_with : Y.LeafType → List Bounds → Kind
kind_with type bs = record { type = type; bounds = bs }

alone_apart : (type other : Y.LeafType) (b : Bounds) (bs : List Bounds) → alone type ≡ kind_with other (b ∷ bs) → ⊥
alone_apart type other b bs e =
    let f : [] ≡ b ∷ bs = ap (λ (k : Kind). k.bounds) e in
    absurd (cc f)

pub apart_by : (q : Bool) (types : Types) (i j : ℕ) (kind other : Kind) → (i == j) ≡ q → slice_get types j ≡ Some kind → slice_get types i ≡ Some other → (other ≡ kind → ⊥) → q ≡ false
apart_by true types i j kind other e h k never =
    absurd (never (one_type types i j kind other h k (eqb-true i j e)))
apart_by false types i j kind other e h k never = refl

-- a scalar is no array
pub scalar_apart : (types : Types) (i j : ℕ) (other type : Y.LeafType) (b : Bounds) (bs : List Bounds) → slice_get types j ≡ Some (kind_with type (b ∷ bs)) → slice_get types i ≡ Some (alone other) → (i == j) ≡ false
scalar_apart types i j other type b bs h k =
    apart_by (i == j) types i j (kind_with type (b ∷ bs)) (alone other) refl h k (λ e. alone_apart other type b bs e)

pub array_apart : (types : Types) (i j : ℕ) (other type : Y.LeafType) (b : Bounds) (bs : List Bounds) → slice_get types j ≡ Some (alone other) → slice_get types i ≡ Some (kind_with type (b ∷ bs)) → (i == j) ≡ false
array_apart types i j other type b bs h k =
    apart_by (i == j) types i j (alone other) (kind_with type (b ∷ bs)) refl h k (λ e. alone_apart other type b bs (sym e))

-- ---- an element is assigned

-- a text stays where another variable is changed, and so does a number
pub text_beside : {s : State} {block : Names} {i other' : ℕ} {varying : Bool} {most : ℕ} {text : List ℕ} (serial : ℕ) (change : Generation → Generation) → (serial == other') ≡ false → KeepsText s block i other' varying most text → KeepsText (with_world s.world (with_generation (VariableName serial) change s)) block i other' varying most text
text_beside {s = s} {other' = other'} serial change apart h =
    record { values = h.values; stands = h.stands; lives = changed_other s.living serial other' change apart ∙ h.lives; value = h.value; short = h.short }

pub scalar_beside : {s : State} {block : Names} {i other' : ℕ} {other : Y.LeafType} {x : ℤ} (serial : ℕ) (change : Generation → Generation) → (serial == other') ≡ false → Holds s block i other' other x → Holds (with_world s.world (with_generation (VariableName serial) change s)) block i other' other x
scalar_beside {s = s} {other' = other'} serial change apart h =
    record { values = h.values; stands = h.stands; lives = changed_other s.living serial other' change apart ∙ h.lives; value = h.value; fits = h.fits }

kind_parts : (type other : Y.LeafType) (bs cs : List Bounds) → kind_with other cs ≡ kind_with type bs → (other ≡ type) × (cs ≡ bs)
kind_parts type other bs cs e = (ap (λ (k : Kind). k.type) e, ap (λ (k : Kind). k.bounds) e)

after_by : {s : State} {block : Names} {j serial : ℕ} {type : Y.LeafType} {bs : List Bounds} (q : Bool) (i other' : ℕ) (other : Y.LeafType) (cs : List Bounds) (n : Values) (is : List ℤ) (z : ℤ) → (i == j) ≡ q → (i ≡ j → kind_with other cs ≡ kind_with type bs) → (i ≡ j → other' ≡ serial) → ((i == j) ≡ false → (serial == other') ≡ false) → is_within bs is ≡ true → Fits type z → (h : HoldsArray s block j serial type bs (n.arrays j)) → HoldsArray s block i other' other cs (n.arrays i) → HoldsArray (element_state s type bs serial h.values is z) block i other' other cs (cond q (with_element_at (n.arrays i) (element_place bs is) z) (n.arrays i))
after_by {s} {block} {j} {serial} {type} {bs} true i other' other cs n is z e alike same' apart within fits h o =
    let same : i ≡ j = eqb-true i j e in
    let parts = kind_parts type other bs cs (alike same) in
    let s' = element_state s type bs serial h.values is z in
    let p = element_place bs is in
    subst (λ m. HoldsArray s' block i m other cs (with_element_at (n.arrays i) p z)) (sym (same' same))
    (subst (λ t. HoldsArray s' block i serial t cs (with_element_at (n.arrays i) p z)) (sym parts.0)
    (subst (λ ds. HoldsArray s' block i serial type ds (with_element_at (n.arrays i) p z)) (sym parts.1)
    (subst (λ u. HoldsArray s' block u serial type bs (with_element_at (n.arrays u) p z)) (sym same) (array_assigned is z within fits h))))
after_by {s} {block} {j} {serial} {type} {bs} false i other' other cs n is z e alike same' apart within fits h o =
    array_beside serial (P.with_element (designated_element type bs serial h.values is) (value_as type z)) (apart e) o

-- all arrays
pub arrays_after : {s : State} {block : Names} {j : ℕ} {type : Y.LeafType} {b : Bounds} {bs : List Bounds} (serials : ℕ → ℕ) (types : Types) (n : Values) (is : List ℤ) (z : ℤ) → IsArrayAt types j type b bs → is_within (b ∷ bs) is ≡ true → Fits type z → (h : HoldsArray s block j (serials j) type (b ∷ bs) (n.arrays j)) → (i : ℕ) (other : Y.LeafType) (c : Bounds) (cs : List Bounds) → IsArrayAt types i other c cs → ((i == j) ≡ false → (serials j == serials i) ≡ false) → HoldsArray s block i (serials i) other (c ∷ cs) (n.arrays i) → HoldsArray (element_state s type (b ∷ bs) (serials j) h.values is z) block i (serials i) other (c ∷ cs) ((with_element_of n j (element_place (b ∷ bs) is) z).arrays i)
arrays_after {j = j} {type = type} {b = b} {bs = bs} serials types n is z at within fits h i other c cs at' apart o =
    after_by (i == j) i (serials i) other (c ∷ cs) n is z refl (one_type types i j (kind_with type (b ∷ bs)) (kind_with other (c ∷ cs)) at.0 at'.0) (λ e. ap serials e) apart within fits h o

-- ---- something else is assigned

pub arrays_beside : {s : State} {block : Names} {i other' : ℕ} {type : Y.LeafType} {bs : List Bounds} {n : ℕ → ℤ} (other : Y.LeafType) (serial : ℕ) (values : ℕ → List ℤ → BasicValue) (z : ℤ) → (serial == other') ≡ false → HoldsArray s block i other' type bs n → HoldsArray (assigned_state s other serial values z) block i other' type bs n
arrays_beside other serial values z apart h =
    array_beside serial (P.with_element (designated_scalar other serial values) (value_as other z)) apart h

pub arrays_beside_text : {s : State} {block : Names} {i other' : ℕ} {type : Y.LeafType} {bs : List Bounds} {n : ℕ → ℤ} (other : Y.LeafType) (serial : ℕ) (values : ℕ → List ℤ → BasicValue) (text : List ℕ) → (serial == other') ≡ false → HoldsArray s block i other' type bs n → HoldsArray (text_state s other serial values text) block i other' type bs n
arrays_beside_text other serial values text apart h =
    array_beside serial (P.with_element (designated_scalar other serial values) (BasicText text)) apart h
