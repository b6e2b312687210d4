-- Texts for all elements of an array: what variables hold then, in the meaning and in memory.
use Rattle.std.proofs.Common.{◌≡◌, ℕ, zero, suc, ◌+◌, ◌*◌, ◌<◌, ◌≤◌, ◌⊎◌, inl, inr, List, [], length, Bool, true, false, refl, sym, ap, ◌∙◌, subst, arith}
use Rattle.std.specs.Prelude.{ℤ, cond, ◌==◌}
use Rattle.std.proofs.lemmas.Bool.{eq-eqb, cases_lt}
use Rattle.std.proofs.lemmas.Bool.Decides.{nat_tests}
use Rattle.rv_meaning.specs.Machine.{memory_size}
use Rattle.pli_typing.specs.Signatures.{Bounds, element_count}
use Rattle.pli_meaning.specs.BasicValues.{VariableName, BasicValue, BasicText}
use Rattle.pli_meaning.specs.Contents.{Generation, is_within, element_place, kept, seen}
use Rattle.pli_meaning.specs.StorageState.{State, with_world, with_generation}
use Rattle.pli_meaning.specs.Control.{Normal, flow_on, stored, give, ◌>>=◌}
use Rattle.pli_meaning.specs.Raising.{Around}
use Rattle.pli_meaning.specs.Placing as P
use Rattle.pli_meaning.specs.Executing as M
use Rattle.pli_serving.specs.Bytes.{with_bytes}
use Rattle.pli_serving.specs.Stored.{kept_bytes}
use Rattle.pli_coding.specs.Environments.{Environment}
use Rattle.pli_headline.specs.ProvedSoFar.{Names, text_leaf}
use Rattle.run_steps.specs.Engine.{Base}
use Rattle.run_steps.specs.Bodies.{Ground}
use Rattle.pli_headline.proofs.Scalars.{Values}
use Rattle.pli_headline.proofs.Variables.{own, whole, data_place}
use Rattle.pli_headline.proofs.Changes.{changed_same}
use Rattle.pli_headline.proofs.WrittenBytes.{length-with_bytes}
use Rattle.pli_headline.proofs.ArrayPlaces.{place_inside}
use Rattle.pli_headline.proofs.ArrayMeant.{array_generation}
use Rattle.pli_headline.proofs.TextPlaces.{text_kind_of}
use Rattle.pli_headline.proofs.TextsKept.{text_kept_as, kept_seen, kept_short, kept_length}
use Rattle.pli_headline.proofs.TextArraysStay.{text_stride, text_within, with_text_in}
use Rattle.pli_headline.proofs.TextArrayMeant.{HoldsTexts, same_text_array, designated_text}
use Rattle.pli_headline.proofs.TextArrayScopes.{TextArrayOn, with_text_of}
use Rattle.pli_headline.proofs.ElementsFilled.{whole_designated}

-- ---- values

-- what variables hold when the elements at so many places, from one on, are assigned their texts one after the other
abbrev pub texts_filled : Values → (j : ℕ) → (varying : Bool) → (most : ℕ) → (ℕ → List ℕ) → (first count : ℕ) → Values
texts_filled n j varying most x first zero = n
texts_filled n j varying most x first (suc c) =
    texts_filled (with_text_of n j first (text_kept_as varying most (x first))) j varying most x (suc first) c

pub filled_numbers : (n : Values) (j : ℕ) (varying : Bool) (most : ℕ) (x : ℕ → List ℕ) (first count : ℕ) → (texts_filled n j varying most x first count).numbers ≡ n.numbers
filled_numbers n j varying most x first zero = refl
filled_numbers n j varying most x first (suc c) =
    filled_numbers (with_text_of n j first (text_kept_as varying most (x first))) j varying most x (suc first) c

pub filled_texts : (n : Values) (j : ℕ) (varying : Bool) (most : ℕ) (x : ℕ → List ℕ) (first count : ℕ) → (texts_filled n j varying most x first count).texts ≡ n.texts
filled_texts n j varying most x first zero = refl
filled_texts n j varying most x first (suc c) =
    filled_texts (with_text_of n j first (text_kept_as varying most (x first))) j varying most x (suc first) c

pub filled_arrays : (n : Values) (j : ℕ) (varying : Bool) (most : ℕ) (x : ℕ → List ℕ) (first count : ℕ) → (texts_filled n j varying most x first count).arrays ≡ n.arrays
filled_arrays n j varying most x first zero = refl
filled_arrays n j varying most x first (suc c) =
    filled_arrays (with_text_of n j first (text_kept_as varying most (x first))) j varying most x (suc first) c

-- other arrays stay
pub filled_other : (n : Values) (j : ℕ) (varying : Bool) (most : ℕ) (x : ℕ → List ℕ) (first count i : ℕ) → (i == j) ≡ false → (texts_filled n j varying most x first count).text_arrays i ≡ n.text_arrays i
filled_other n j varying most x first zero i e = refl
filled_other n j varying most x first (suc c) i e =
    let kept' = text_kept_as varying most (x first) in
    filled_other (with_text_of n j first kept') j varying most x (suc first) c i e
    ∙ ap (λ q. cond q (with_text_in (n.text_arrays i) first kept') (n.text_arrays i)) e

one_more : (n : Values) (j first : ℕ) (text : List ℕ) → (with_text_of n j first text).text_arrays j ≡ with_text_in (n.text_arrays j) first text
one_more n j first text = ap (λ q. cond q (with_text_in (n.text_arrays j) first text) (n.text_arrays j)) (eq-eqb j j refl)

before_not : (p first : ℕ) → p < first → (p == first) ≡ false
before_not p first h = grind (arith, nat_tests)

-- places before these stay
filled_before : (n : Values) (j : ℕ) (varying : Bool) (most : ℕ) (x : ℕ → List ℕ) (first count p : ℕ) → p < first → (texts_filled n j varying most x first count).text_arrays j p ≡ n.text_arrays j p
filled_before n j varying most x first zero p below = refl
filled_before n j varying most x first (suc c) p below =
    let kept' = text_kept_as varying most (x first) in
    filled_before (with_text_of n j first kept') j varying most x (suc first) c p (omega (arith, below))
    ∙ ap (λ (u : ℕ → List ℕ). u p) (one_more n j first kept')
    ∙ ap (λ q. cond q kept' (n.text_arrays j p)) (before_not p first below)

filled_by : (n : Values) (j : ℕ) (varying : Bool) (most : ℕ) (x : ℕ → List ℕ) (first c p : ℕ) → first ≤ p → (p < suc first) ⊎ (suc first ≤ p) → (suc first ≤ p → (texts_filled (with_text_of n j first (text_kept_as varying most (x first))) j varying most x (suc first) c).text_arrays j p ≡ text_kept_as varying most (x p)) → (texts_filled (with_text_of n j first (text_kept_as varying most (x first))) j varying most x (suc first) c).text_arrays j p ≡ text_kept_as varying most (x p)
filled_by n j varying most x first c p from (inl here) later =
    let same : p ≡ first = omega (arith, from, here) in
    let kept' = text_kept_as varying most (x first) in
    filled_before (with_text_of n j first kept') j varying most x (suc first) c p here
    ∙ ap (λ (u : ℕ → List ℕ). u p) (one_more n j first kept')
    ∙ ap (λ q. cond q kept' (n.text_arrays j p)) (eq-eqb p first same)
    ∙ ap (λ u. text_kept_as varying most (x u)) (sym same)
filled_by n j varying most x first c p from (inr behind) later = later behind

-- these hold their texts, as the array keeps them
pub filled_at : (n : Values) (j : ℕ) (varying : Bool) (most : ℕ) (x : ℕ → List ℕ) (first count p : ℕ) → first ≤ p → p < first + count → (texts_filled n j varying most x first count).text_arrays j p ≡ text_kept_as varying most (x p)
filled_at n j varying most x first zero p from below = absurd (omega (arith, from, below))
filled_at n j varying most x first (suc c) p from below =
    filled_by n j varying most x first c p from (cases_lt p (suc first)) (λ behind. filled_at (with_text_of n j first (text_kept_as varying most (x first))) j varying most x (suc first) c p behind (omega (arith, below)))

-- ---- in memory

-- the texts are stored at one place after the other
abbrev pub texts_from : (varying : Bool) → (most : ℕ) → (ℕ → List ℕ) → (at first count : ℕ) → List ℕ → List ℕ
texts_from varying most x at first zero m = m
texts_from varying most x at first (suc c) m =
    texts_from varying most x at (suc first) c (with_bytes (kept_bytes (text_kind_of varying most) (BasicText (x first))) (at + first * text_stride varying most) m)

pub texts_stand : {e : Environment} {block : Names} {base free : ℕ} {ground : Values → Ground} {j : ℕ} {varying : Bool} {most : ℕ} {bs : List Bounds} (on : TextArrayOn e block base free ground j varying most bs) (x : ℕ → List ℕ) (n : Values) (first count : ℕ) → first + count ≡ element_count bs → (t : ℕ → ℕ) (b : Base) (m : List ℕ) → length m ≡ memory_size → (ground n).memory t b m → (length (texts_from varying most x (base + data_place e block j) first count m) ≡ memory_size) × (ground (texts_filled n j varying most x first count)).memory t b (texts_from varying most x (base + data_place e block j) first count m)
texts_stand on x n first zero all t b m len held = (len, held)
texts_stand {e} {block} {base} {free} {ground} {j} {varying} {most} {bs} on x n first (suc c) all t b m len held =
    let stride = text_stride varying most in
    let bytes = kept_bytes (text_kind_of varying most) (BasicText (x first)) in
    let here : base + first * stride + data_place e block j ≡ base + data_place e block j + first * stride = omega arith in
    let inside : first < element_count bs = omega (arith, all) in
    let row = text_within varying most first (element_count bs) inside in
    let within = on.within in
    let long = kept_length varying most (x first) in
    let n' = with_text_of n j first (text_kept_as varying most (x first)) in
    let next' : (ground n').memory t b (with_bytes bytes (base + data_place e block j + first * stride) m) = subst (λ u. (ground n').memory t b (with_bytes bytes u m)) here (on.writes n first (x first) inside t b m len held) in
    texts_stand {ground = ground} on x n' (suc first) c (omega (arith, all)) t b (with_bytes bytes (base + data_place e block j + first * stride) m)
    (length-with_bytes bytes m (base + data_place e block j + first * stride) (omega (arith, within, row, long, len)) ∙ len) next'

-- ---- in the meaning

-- the change of the array's generation
abbrev pub texts_changed : (varying : Bool) → (most : ℕ) → List Bounds → (serial : ℕ) → (ℕ → List ℤ → BasicValue) → (ℕ → List ℤ → BasicValue) → Generation → Generation
texts_changed varying most bs serial values given = P.with_elements (designated_text varying most bs serial values []) given

abbrev pub texts_state : State → (varying : Bool) → (most : ℕ) → List Bounds → (serial : ℕ) → (ℕ → List ℤ → BasicValue) → (ℕ → List ℤ → BasicValue) → State
texts_state s varying most bs serial values given =
    with_world s.world (with_generation (VariableName serial) (texts_changed varying most bs serial values given) s)

pub texts_meant : {s : State} {block : Names} {j serial : ℕ} {varying : Bool} {most : ℕ} {bs : List Bounds} {texts : ℕ → List ℕ} (around : Around) (v : BasicValue) (k : ℕ) (h : HoldsTexts s block j serial varying most bs texts) → M.elements_assigned around (whole (own block j)) v k s ≡ Normal tt (texts_state s varying most bs serial h.values (λ leaf is. v))
unfolding M.elements_assigned P.elements_stored stored ◌>>=◌ give
texts_meant {s = s} {block} {j} {serial} {varying} {most} {bs} around v k h =
    ap (λ q. flow_on k q (λ d. P.elements_stored d (λ leaf is. v))) (whole_designated around s (own block j) (text_leaf varying most) bs serial h.values k (same_text_array varying most bs) h.stands h.lives)

new_value : (varying : Bool) (most : ℕ) (bs : List Bounds) (serial : ℕ) (values given : ℕ → List ℤ → BasicValue) (is : List ℤ) → (texts_changed varying most bs serial values given (array_generation (text_leaf varying most) bs values)).values 0 is ≡ cond (is_within bs is) (kept (text_kind_of varying most) (values 0 is) (given 0 is)) (values 0 is)
new_value false most bs serial values given is = refl
new_value true most bs serial values given is = refl

-- the array then
pub texts_array_filled : {s : State} {block : Names} {j serial : ℕ} {varying : Bool} {most : ℕ} {bs : List Bounds} {texts : ℕ → List ℕ} (x : ℕ → List ℕ) (given : ℕ → List ℤ → BasicValue) → most ≤ 1024 → ((is : List ℤ) → is_within bs is ≡ true → given 0 is ≡ BasicText (x (element_place bs is))) → (h : HoldsTexts s block j serial varying most bs texts) (n' : ℕ → List ℕ) → ((p : ℕ) → p < element_count bs → n' p ≡ text_kept_as varying most (x p)) → HoldsTexts (texts_state s varying most bs serial h.values given) block j serial varying most bs n'
texts_array_filled {s = s} {block} {j} {serial} {varying} {most} {bs} x given few each h n' same =
    let change = texts_changed varying most bs serial h.values given in
    let generation = array_generation (text_leaf varying most) bs h.values in
    let kind = text_kind_of varying most in
    record {
      values = (change generation).values;
      stands = h.stands;
      lives = changed_same s.living serial change generation h.lives;
      value = λ is inside.
          ap (seen kind) (new_value varying most bs serial h.values given is ∙ ap (λ q. cond q (kept kind (h.values 0 is) (given 0 is)) (h.values 0 is)) inside ∙ ap (kept kind (h.values 0 is)) (each is inside))
          ∙ kept_seen varying most (h.values 0 is) (x (element_place bs is))
          ∙ ap BasicText (sym (same (element_place bs is) (place_inside bs is inside)));
      short = λ p below. subst (λ u. length u ≤ 1024) (sym (same p below)) (kept_short varying most (x p) few);
    }
