-- Arrays of texts in the meaning: what stands for one, what a reference to an element gives, and the state after one is assigned.
use Rattle.std.proofs.Common.{◌≡◌, ℕ, ◌<◌, ◌≤◌, List, Some, Bool, true, false, refl, sym, ap, ◌∙◌}
use Rattle.std.specs.Prelude.{ℤ, cond, ◌==◌, ◌&&◌}
use Rattle.std.proofs.lemmas.Bool.{eqb-true, eq-eqb}
use Rattle.pli_typing.specs.Signatures.{Bounds, element_count}
use Rattle.pli_meaning.specs.BasicValues.{VariableName, BasicValue, BasicText}
use Rattle.pli_meaning.specs.Contents.{Generation, same_bounds, same_shape, same_subscripts, is_within, element_place, kept, seen}
use Rattle.pli_meaning.specs.StorageState.{State, generation_of, living_of, standing_for, with_world, with_generation}
use Rattle.pli_meaning.specs.Control.{Normal, stored}
use Rattle.pli_meaning.specs.Evaluating as V
use Rattle.pli_meaning.specs.Placing as P
use Rattle.pli_headline.specs.ProvedSoFar.{Names, text_leaf}
use Rattle.pli_headline.proofs.Variables.{own}
use Rattle.pli_headline.proofs.Changes.{changed_same, changed_other}
use Rattle.pli_headline.proofs.ArrayPlaces.{same_place, subscripts_same}
use Rattle.pli_headline.proofs.ArrayMeant.{array_shape, array_binding, array_generation, bounds_itself, designated_element}
use Rattle.pli_headline.proofs.TextLengths.{IsShort}
use Rattle.pli_headline.proofs.TextPlaces.{text_kind_of}
use Rattle.pli_headline.proofs.TextsKept.{text_kept_as, kept_seen, kept_short}
use Rattle.pli_headline.proofs.TextArraysStay.{with_text_in}

-- a shape is the same as itself
pub same_text_array : (varying : Bool) (most : ℕ) (bs : List Bounds) → same_shape (array_shape (text_leaf varying most) bs) (array_shape (text_leaf varying most) bs) ≡ true
same_text_array false most bs =
    ap (λ t. (t && (same_bounds bs bs && true)) && true) (eq-eqb most most refl) ∙ ap (λ t. (t && true) && true) (bounds_itself bs)
same_text_array true most bs =
    ap (λ t. (t && (same_bounds bs bs && true)) && true) (eq-eqb most most refl) ∙ ap (λ t. (t && true) && true) (bounds_itself bs)

-- an array of the block stands for a generation whose elements hold texts, by their places
pub record HoldsTexts (s : State) (block : Names) (j serial : ℕ) (varying : Bool) (most : ℕ) (bs : List Bounds) (texts : ℕ → List ℕ) : Type 0 where
  pub values : ℕ → List ℤ → BasicValue
  pub stands : standing_for s (own block j) ≡ Some (array_binding (text_leaf varying most) bs (block.at j).index serial)
  pub lives : generation_of (living_of s.living serial) ≡ Some (array_generation (text_leaf varying most) bs values)
  pub value : (is : List ℤ) → is_within bs is ≡ true → seen (text_kind_of varying most) (values 0 is) ≡ BasicText (texts (element_place bs is))
  pub short : (p : ℕ) → p < element_count bs → IsShort (texts p)

-- ---- references to elements

abbrev pub designated_text : (varying : Bool) → (most : ℕ) → List Bounds → (serial : ℕ) → (ℕ → List ℤ → BasicValue) → List ℤ → V.Designated
designated_text varying most bs serial values is = designated_element (text_leaf varying most) bs serial values is

-- what an element holds is seen as the array's kind says
pub text_element_seen : (varying : Bool) (most : ℕ) (bs : List Bounds) (serial : ℕ) (values : ℕ → List ℤ → BasicValue) (is : List ℤ) → V.value_in (designated_text varying most bs serial values is) ≡ seen (text_kind_of varying most) (values 0 is)
text_element_seen false most bs serial values is = refl
text_element_seen true most bs serial values is = refl

-- ---- assignment

-- the state after a text is assigned to an element
abbrev pub text_element_state : State → (varying : Bool) → (most : ℕ) → List Bounds → (serial : ℕ) → (ℕ → List ℤ → BasicValue) → List ℤ → List ℕ → State
text_element_state s varying most bs serial values is text =
    with_world s.world (with_generation (VariableName serial) (P.with_element (designated_text varying most bs serial values is) (BasicText text)) s)

pub text_element_stored : (varying : Bool) (most : ℕ) (bs : List Bounds) (serial : ℕ) (values : ℕ → List ℤ → BasicValue) (is : List ℤ) (text : List ℕ) (k : ℕ) (s : State) → P.element_stored (designated_text varying most bs serial values is) (BasicText text) k s ≡ Normal tt (text_element_state s varying most bs serial values is text)
unfolding P.element_stored stored
text_element_stored varying most bs serial values is text k s = refl

-- the value of each element then
new_text : (varying : Bool) (most : ℕ) (bs : List Bounds) (serial : ℕ) (values : ℕ → List ℤ → BasicValue) (is js : List ℤ) (text : List ℕ) → (P.with_element (designated_text varying most bs serial values is) (BasicText text) (array_generation (text_leaf varying most) bs values)).values 0 js ≡ cond (same_subscripts js is) (kept (text_kind_of varying most) (values 0 is) (BasicText text)) (values 0 js)
new_text false most bs serial values is js text = refl
new_text true most bs serial values is js text = refl

value_by : (q r : Bool) (varying : Bool) (most : ℕ) (bs : List Bounds) (is js : List ℤ) (texts : ℕ → List ℕ) (text : List ℕ) (old mine : BasicValue) → same_subscripts js is ≡ q → (element_place bs js == element_place bs is) ≡ r → is_within bs is ≡ true → is_within bs js ≡ true → seen (text_kind_of varying most) mine ≡ BasicText (texts (element_place bs js)) → seen (text_kind_of varying most) (cond q (kept (text_kind_of varying most) old (BasicText text)) mine) ≡ BasicText (cond r (text_kept_as varying most text) (texts (element_place bs js)))
value_by true true varying most bs is js texts text old mine e f w w' o = kept_seen varying most old text
value_by false false varying most bs is js texts text old mine e f w w' o = o
value_by true false varying most bs is js texts text old mine e f w w' o =
    let g : element_place bs js ≡ element_place bs is = ap (element_place bs) (subscripts_same js is e) in
    absurd (cc (sym (eq-eqb (element_place bs js) (element_place bs is) g) ∙ f))
value_by false true varying most bs is js texts text old mine e f w w' o =
    let g = same_place bs js is w' w (eqb-true (element_place bs js) (element_place bs is) f) in
    absurd (cc (sym g ∙ e))

short_by : (q : Bool) (x y : List ℕ) → IsShort x → IsShort y → IsShort (cond q x y)
short_by true x y h i = h
short_by false x y h i = i

-- the array after a text is assigned to one of its elements
pub texts_assigned : {s : State} {block : Names} {j serial : ℕ} {varying : Bool} {most : ℕ} {bs : List Bounds} {texts : ℕ → List ℕ} (is : List ℤ) (text : List ℕ) → is_within bs is ≡ true → most ≤ 1024 → (h : HoldsTexts s block j serial varying most bs texts) → HoldsTexts (text_element_state s varying most bs serial h.values is text) block j serial varying most bs (with_text_in texts (element_place bs is) (text_kept_as varying most text))
texts_assigned {s = s} {serial = serial} {varying = varying} {most = most} {bs = bs} {texts = texts} is text within few h =
    let change = P.with_element (designated_text varying most bs serial h.values is) (BasicText text) in
    let generation = array_generation (text_leaf varying most) bs h.values in
    record {
      values = (change generation).values;
      stands = h.stands;
      lives = changed_same s.living serial change generation h.lives;
      value = λ js inside.
          ap (seen (text_kind_of varying most)) (new_text varying most bs serial h.values is js text)
          ∙ value_by (same_subscripts js is) (element_place bs js == element_place bs is) varying most bs is js texts text (h.values 0 is) (h.values 0 js) refl refl within inside (h.value js inside);
      short = λ p below. short_by (p == element_place bs is) (text_kept_as varying most text) (texts p) (kept_short varying most text few) (h.short p below);
    }

-- other variables stay as they are
pub texts_aside : {s : State} {block : Names} {i other' : ℕ} {varying : Bool} {most : ℕ} {bs : List Bounds} {texts : ℕ → List ℕ} (serial : ℕ) (change : Generation → Generation) → (serial == other') ≡ false → HoldsTexts s block i other' varying most bs texts → HoldsTexts (with_world s.world (with_generation (VariableName serial) change s)) block i other' varying most bs texts
texts_aside {s = s} {other' = other'} serial change apart h =
    record { values = h.values; stands = h.stands; lives = changed_other s.living serial other' change apart ∙ h.lives; value = h.value; short = h.short }
