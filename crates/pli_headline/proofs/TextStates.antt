-- Variables of a block that hold texts, and what they hold after a text is assigned to one of them.
use Rattle.std.proofs.Common.{◌≡◌, ℕ, ◌≤◌, List, [], None, Some, Bool, true, false, refl, sym, ap, ◌∙◌, subst}
use Rattle.std.specs.Prelude.{ℤ, pos, cond, ◌==◌, ◌&&◌, slice_get}
use Rattle.std.proofs.lemmas.Bool.{eq-eqb, eqb-true}
use Rattle.pli_typing.specs.TypedTree as Y
use Rattle.pli_meaning.specs.StorageState.{State, generation_of, living_of, standing_for, if_same_shape}
use Rattle.pli_meaning.specs.Placing as P
use Rattle.pli_headline.proofs.Variables.{own, scalar_binding, scalar_generation, scalar_shape, designated_scalar}
use Rattle.pli_meaning.specs.BasicValues.{BasicValue}
use Rattle.pli_meaning.specs.BasicValues.{BasicText}
use Rattle.pli_meaning.specs.Contents.{Generation}
use Rattle.pli_meaning.specs.Contents.{seen, same_shape}
use Rattle.pli_headline.proofs.TextLengths.{IsShort}
use Rattle.pli_headline.specs.ProvedSoFar.{Names, Types, alone, text_leaf}
use Rattle.pli_headline.proofs.Scalars.{IsNumeric, Values, value_as}
use Rattle.pli_headline.proofs.Assignments.{assigned_state}
use Rattle.pli_headline.proofs.TextPlaces.{text_kind_of}
use Rattle.pli_headline.proofs.TextScopes.{IsTextAt}
use Rattle.pli_headline.proofs.TextsKept.{text_kept_as, kept_seen, kept_short}
use Rattle.pli_headline.proofs.TextVariables.{HoldsText, text_state}
use Rattle.pli_headline.proofs.Changes.{changed_same, changed_other}
use Rattle.pli_headline.proofs.States.{Holds, one_alone, with_text_at}

-- a shape is the same as itself
pub same_text : (varying : Bool) (most : ℕ) → same_shape (scalar_shape (text_leaf varying most)) (scalar_shape (text_leaf varying most)) ≡ true
same_text false most = ap (λ t. (t && true) && true) (eq-eqb most most refl)
same_text true most = ap (λ t. (t && true) && true) (eq-eqb most most refl)

-- a variable of the block holds a text, and its generation has its serial
pub record KeepsText (s : State) (block : Names) (j serial : ℕ) (varying : Bool) (most : ℕ) (text : List ℕ) : Type 0 where
  pub values : ℕ → List ℤ → BasicValue
  pub stands : standing_for s (own block j) ≡ Some (scalar_binding (text_leaf varying most) (block.at j).index serial)
  pub lives : generation_of (living_of s.living serial) ≡ Some (scalar_generation (text_leaf varying most) values)
  pub value : seen (text_kind_of varying most) (values 0 []) ≡ BasicText text
  pub short : IsShort text

abbrev pub holds_text : {s : State} {block : Names} {j serial : ℕ} {varying : Bool} {most : ℕ} {text : List ℕ} → KeepsText s block j serial varying most text → HoldsText s (own block j) varying most text
holds_text {serial = serial} {varying = varying} {most = most} h =
    let type = text_leaf varying most in
    record {
      serial = serial;
      values = h.values;
      stands = h.stands;
      lives = ap (if_same_shape (scalar_shape type)) h.lives ∙ ap (λ t. cond t (Some (scalar_generation type h.values)) None) (same_text varying most);
      value = h.value;
      short = h.short;
    }

-- ---- assignment

abbrev assigned_to : (varying : Bool) → (most serial : ℕ) → (ℕ → List ℤ → BasicValue) → List ℕ → Generation → Generation
assigned_to varying most serial values text =
    P.with_element (designated_scalar (text_leaf varying most) serial values) (BasicText text)

element_seen : (varying : Bool) (most serial : ℕ) (values : ℕ → List ℤ → BasicValue) (text : List ℕ) → seen (text_kind_of varying most) ((assigned_to varying most serial values text (scalar_generation (text_leaf varying most) values)).values 0 []) ≡ BasicText (text_kept_as varying most text)
element_seen false most serial values text = kept_seen false most (values 0 []) text
element_seen true most serial values text = kept_seen true most (values 0 []) text

-- the variable itself
pub keeps_assigned : {s : State} {block : Names} {j serial : ℕ} {varying : Bool} {most : ℕ} {old : List ℕ} (text : List ℕ) → most ≤ 1024 → (h : KeepsText s block j serial varying most old) → KeepsText (text_state s (text_leaf varying most) serial h.values text) block j serial varying most (text_kept_as varying most text)
keeps_assigned {s} {block} {j} {serial} {varying} {most} text few h =
    let type = text_leaf varying most in
    let change = assigned_to varying most serial h.values text in
    record {
      values = (change (scalar_generation type h.values)).values;
      stands = h.stands;
      lives = changed_same s.living serial change (scalar_generation type h.values) h.lives;
      value = element_seen varying most serial h.values text;
      short = kept_short varying most text few;
    }

-- another one that holds a text
pub keeps_other : {s : State} {block : Names} {i j serial other' : ℕ} {varying other : Bool} {most most' : ℕ} {old text' : List ℕ} (text : List ℕ) → (serial == other') ≡ false → (h : KeepsText s block j serial varying most old) → KeepsText s block i other' other most' text' → KeepsText (text_state s (text_leaf varying most) serial h.values text) block i other' other most' text'
keeps_other {s} {serial = serial} {other' = other'} {varying} {most = most} text e h o =
    let change = assigned_to varying most serial h.values text in
    record { values = o.values; stands = o.stands; lives = changed_other s.living serial other' change e ∙ o.lives; value = o.value; short = o.short }

-- one that holds a number
pub holds_other : {s : State} {block : Names} {i j serial other' : ℕ} {varying : Bool} {most : ℕ} {old : List ℕ} {type : Y.LeafType} {z : ℤ} (text : List ℕ) → (serial == other') ≡ false → (h : KeepsText s block j serial varying most old) → Holds s block i other' type z → Holds (text_state s (text_leaf varying most) serial h.values text) block i other' type z
holds_other {s} {serial = serial} {other' = other'} {varying} {most} text e h o =
    let change = assigned_to varying most serial h.values text in
    record { values = o.values; stands = o.stands; lives = changed_other s.living serial other' change e ∙ o.lives; value = o.value; fits = o.fits }

-- ---- among the variables of a block

pub not_numeric : (varying : Bool) (most : ℕ) → IsNumeric (text_leaf varying most) → ⊥
not_numeric false most h = h
not_numeric true most h = h

apart_by : (q : Bool) (types : Types) (i j : ℕ) (type other : Y.LeafType) → (i == j) ≡ q → slice_get types j ≡ Some (alone type) → slice_get types i ≡ Some (alone other) → (other ≡ type → ⊥) → q ≡ false
apart_by true types i j type other e h k never =
    absurd (never (one_alone types i j type other h k (eqb-true i j e)))
apart_by false types i j type other e h k never = refl

-- no variable holds a number and a text
pub number_apart : (types : Types) (i j : ℕ) (type : Y.LeafType) (varying : Bool) (most : ℕ) → IsTextAt types j varying most → slice_get types i ≡ Some (alone type) → IsNumeric type → (i == j) ≡ false
number_apart types i j type varying most h k numeric =
    apart_by (i == j) types i j (text_leaf varying most) type refl h k (λ e. not_numeric varying most (subst IsNumeric e numeric))

pub text_apart : (types : Types) (i j : ℕ) (type : Y.LeafType) (varying : Bool) (most : ℕ) → slice_get types j ≡ Some (alone type) → IsNumeric type → IsTextAt types i varying most → (i == j) ≡ false
text_apart types i j type varying most h numeric k =
    apart_by (i == j) types i j type (text_leaf varying most) refl h k (λ e. not_numeric varying most (subst IsNumeric (sym e) numeric))

-- texts stay where a number is assigned
pub keeps_beside : {s : State} {block : Names} {i j serial other' : ℕ} {type : Y.LeafType} {x : ℤ} {varying : Bool} {most : ℕ} {text : List ℕ} (z : ℤ) → (serial == other') ≡ false → (h : Holds s block j serial type x) → KeepsText s block i other' varying most text → KeepsText (assigned_state s type serial h.values z) block i other' varying most text
keeps_beside {s} {serial = serial} {other' = other'} {type} z apart h o =
    let change = P.with_element (designated_scalar type serial h.values) (value_as type z) in
    record { values = o.values; stands = o.stands; lives = changed_other s.living serial other' change apart ∙ o.lives; value = o.value; short = o.short }

pub leaf_same : (varying other : Bool) (most most' : ℕ) → text_leaf varying most ≡ text_leaf other most' → (varying ≡ other) × (most ≡ most')
leaf_same false false most most' e =
    let f : Y.CharacterLeaf (Y.ConstantExtent (pos most)) ≡ Y.CharacterLeaf (Y.ConstantExtent (pos most')) = e in
    (refl, cc f)
leaf_same false true most most' e =
    let f : Y.CharacterLeaf (Y.ConstantExtent (pos most)) ≡ Y.VaryingLeaf (Y.ConstantExtent (pos most')) = e in
    absurd (cc f)
leaf_same true false most most' e =
    let f : Y.VaryingLeaf (Y.ConstantExtent (pos most)) ≡ Y.CharacterLeaf (Y.ConstantExtent (pos most')) = e in
    absurd (cc f)
leaf_same true true most most' e =
    let f : Y.VaryingLeaf (Y.ConstantExtent (pos most)) ≡ Y.VaryingLeaf (Y.ConstantExtent (pos most')) = e in
    (refl, cc f)

keeps_by : {s : State} {block : Names} {j serial : ℕ} {varying : Bool} {most : ℕ} {old : List ℕ} (q : Bool) (i other' : ℕ) (other : Bool) (most' : ℕ) (text text' : List ℕ) → (i == j) ≡ q → (i ≡ j → text_leaf other most' ≡ text_leaf varying most) → (i ≡ j → other' ≡ serial) → ((i == j) ≡ false → (serial == other') ≡ false) → most ≤ 1024 → (h : KeepsText s block j serial varying most old) → KeepsText s block i other' other most' text' → KeepsText (text_state s (text_leaf varying most) serial h.values text) block i other' other most' (cond q (text_kept_as varying most text) text')
keeps_by {s} {block} {j} {serial} {varying} {most} true i other' other most' text text' e alike same' apart few h o =
    let same : i ≡ j = eqb-true i j e in
    let leaf = leaf_same other varying most' most (alike same) in
    let s' = text_state s (text_leaf varying most) serial h.values text in
    let kept = text_kept_as varying most text in
    subst (λ u. KeepsText s' block u other' other most' kept) (sym same)
    (subst (λ m. KeepsText s' block j m other most' kept) (sym (same' same))
    (subst (λ u. KeepsText s' block j serial u most' kept) (sym leaf.0)
    (subst (λ u. KeepsText s' block j serial varying u kept) (sym leaf.1) (keeps_assigned text few h))))
keeps_by false i other' other most' text text' e alike same' apart few h o = keeps_other text (apart e) h o

-- the texts after one is assigned
pub keeps_all : {s : State} {block : Names} {j : ℕ} {varying : Bool} {most : ℕ} (serials : ℕ → ℕ) (types : Types) (n : Values) (text : List ℕ) → IsTextAt types j varying most → most ≤ 1024 → (h : KeepsText s block j (serials j) varying most (n.texts j)) → (i : ℕ) (other : Bool) (most' : ℕ) → IsTextAt types i other most' → ((i == j) ≡ false → (serials j == serials i) ≡ false) → KeepsText s block i (serials i) other most' (n.texts i) → KeepsText (text_state s (text_leaf varying most) (serials j) h.values text) block i (serials i) other most' ((with_text_at n j (text_kept_as varying most text)).texts i)
keeps_all {j = j} {varying} {most} serials types n text at few h i other most' there apart o =
    keeps_by (i == j) i (serials i) other most' text (n.texts i) refl (one_alone types i j (text_leaf varying most) (text_leaf other most') at there) (λ e. ap serials e) apart few h o
