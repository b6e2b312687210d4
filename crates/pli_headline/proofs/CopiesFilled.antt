-- Numbers for all elements of an array, one for each place: what variables hold then, in the meaning and in memory.
use Rattle.std.proofs.Common.{◌≡◌, ℕ, zero, suc, ◌+◌, ◌*◌, ◌<◌, ◌≤◌, ◌⊎◌, inl, inr, List, [], length, Some, Bool, true, false, refl, sym, ap, ◌∙◌, subst, arith}
use Rattle.std.specs.Prelude.{ℤ, cond, ◌==◌, ◌&&◌}
use Rattle.std.proofs.lemmas.Bool.{eq-eqb, cases_lt}
use Rattle.std.proofs.lemmas.Bool.Decides.{nat_tests}
use Rattle.rv_meaning.specs.Words.{word}
use Rattle.rv_meaning.specs.Memory.{store}
use Rattle.rv_meaning.specs.Machine.{memory_size, store_width}
use Rattle.rv_meaning.proofs.MemoryLaws.{length-store}
use Rattle.pli_typing.specs.Signatures.{Bounds, element_count}
use Rattle.pli_typing.specs.TypedTree as Y
use Rattle.pli_meaning.specs.BasicValues.{VariableName, BasicValue}
use Rattle.pli_meaning.specs.Contents.{Generation, is_within, element_place, same_shape}
use Rattle.pli_meaning.specs.StorageState.{State, with_world, with_generation, standing_for, generation_of, living_of}
use Rattle.pli_meaning.specs.Control.{Normal, flow_on, stored, choose, give, ◌>>=◌, ◌>>◌}
use Rattle.pli_meaning.specs.Raising as R
use Rattle.pli_meaning.specs.Raising.{Around}
use Rattle.pli_meaning.specs.Evaluating as V
use Rattle.pli_meaning.specs.Placing as P
use Rattle.pli_coding.specs.Environments.{Environment}
use Rattle.pli_headline.specs.ProvedSoFar.{Names}
use Rattle.run_steps.specs.Engine.{Base}
use Rattle.run_steps.specs.Bodies.{Ground}
use Rattle.pli_headline.proofs.Scalars.{IsNumeric, by_type, Values, value_as, Fits, store_kind}
use Rattle.pli_headline.proofs.Variables.{whole, data_place}
use Rattle.pli_headline.proofs.Changes.{changed_same}
use Rattle.pli_headline.proofs.ArrayPlaces.{place_inside}
use Rattle.pli_headline.proofs.ElementsStay.{with_element_at}
use Rattle.pli_headline.proofs.ArrayMeant.{HoldsArray, array_shape, array_binding, array_generation, bounds_itself, designated_element}
use Rattle.pli_headline.proofs.ArrayScopes.{with_element_of, ArrayOn}
use Rattle.pli_headline.proofs.ElementsFilled.{whole_designated}

-- ---- values

-- what variables hold when the elements at so many places, from one on, are assigned their numbers one after the other
abbrev pub copied : Values → (j : ℕ) → (ℕ → ℤ) → (first count : ℕ) → Values
copied n j x first zero = n
copied n j x first (suc c) = copied (with_element_of n j first (x first)) j x (suc first) c

pub copied_numbers : (n : Values) (j : ℕ) (x : ℕ → ℤ) (first count : ℕ) → (copied n j x first count).numbers ≡ n.numbers
copied_numbers n j x first zero = refl
copied_numbers n j x first (suc c) = copied_numbers (with_element_of n j first (x first)) j x (suc first) c

pub copied_texts : (n : Values) (j : ℕ) (x : ℕ → ℤ) (first count : ℕ) → (copied n j x first count).texts ≡ n.texts
copied_texts n j x first zero = refl
copied_texts n j x first (suc c) = copied_texts (with_element_of n j first (x first)) j x (suc first) c

pub copied_text_arrays : (n : Values) (j : ℕ) (x : ℕ → ℤ) (first count : ℕ) → (copied n j x first count).text_arrays ≡ n.text_arrays
copied_text_arrays n j x first zero = refl
copied_text_arrays n j x first (suc c) = copied_text_arrays (with_element_of n j first (x first)) j x (suc first) c

-- other arrays stay
pub copied_other : (n : Values) (j : ℕ) (x : ℕ → ℤ) (first count i : ℕ) → (i == j) ≡ false → (copied n j x first count).arrays i ≡ n.arrays i
copied_other n j x first zero i e = refl
copied_other n j x first (suc c) i e =
    copied_other (with_element_of n j first (x first)) j x (suc first) c i e
    ∙ ap (λ q. cond q (with_element_at (n.arrays i) first (x first)) (n.arrays i)) e

one_more : (n : Values) (j first : ℕ) (z : ℤ) → (with_element_of n j first z).arrays j ≡ with_element_at (n.arrays j) first z
one_more n j first z = ap (λ q. cond q (with_element_at (n.arrays j) first z) (n.arrays j)) (eq-eqb j j refl)

before_not : (p first : ℕ) → p < first → (p == first) ≡ false
before_not p first h = grind (arith, nat_tests)

-- places before these stay
copied_before : (n : Values) (j : ℕ) (x : ℕ → ℤ) (first count p : ℕ) → p < first → (copied n j x first count).arrays j p ≡ n.arrays j p
copied_before n j x first zero p below = refl
copied_before n j x first (suc c) p below =
    copied_before (with_element_of n j first (x first)) j x (suc first) c p (omega (arith, below))
    ∙ ap (λ (u : ℕ → ℤ). u p) (one_more n j first (x first))
    ∙ ap (λ q. cond q (x first) (n.arrays j p)) (before_not p first below)

copied_by : (n : Values) (j : ℕ) (x : ℕ → ℤ) (first c p : ℕ) → first ≤ p → (p < suc first) ⊎ (suc first ≤ p) → (suc first ≤ p → (copied (with_element_of n j first (x first)) j x (suc first) c).arrays j p ≡ x p) → (copied (with_element_of n j first (x first)) j x (suc first) c).arrays j p ≡ x p
copied_by n j x first c p from (inl here) later =
    let same : p ≡ first = omega (arith, from, here) in
    copied_before (with_element_of n j first (x first)) j x (suc first) c p here
    ∙ ap (λ (u : ℕ → ℤ). u p) (one_more n j first (x first))
    ∙ ap (λ q. cond q (x first) (n.arrays j p)) (eq-eqb p first same)
    ∙ ap x (sym same)
copied_by n j x first c p from (inr behind) later = later behind

-- these hold their numbers
pub copied_at : (n : Values) (j : ℕ) (x : ℕ → ℤ) (first count p : ℕ) → first ≤ p → p < first + count → (copied n j x first count).arrays j p ≡ x p
copied_at n j x first zero p from below = absurd (omega (arith, from, below))
copied_at n j x first (suc c) p from below =
    copied_by n j x first c p from (cases_lt p (suc first)) (λ behind. copied_at (with_element_of n j first (x first)) j x (suc first) c p behind (omega (arith, below)))

fits_by : (q : Bool) (type : Y.LeafType) (z y : ℤ) → Fits type z → Fits type y → Fits type (cond q z y)
fits_by true type z y h i = h
fits_by false type z y h i = i

-- ---- in memory

-- the numbers are stored at one place after the other
abbrev pub numbers_from : (width at : ℕ) → (ℕ → ℤ) → (first count : ℕ) → List ℕ → List ℕ
numbers_from width at x first zero m = m
numbers_from width at x first (suc c) m = numbers_from width at x (suc first) c (store width m (at + 4 * first) (word (x first)))

pub numbers_stand : {e : Environment} {block : Names} {base free : ℕ} {ground : Values → Ground} {j : ℕ} {type : Y.LeafType} {bs : List Bounds} (on : ArrayOn e block base free ground j type bs) (x : ℕ → ℤ) → ((p : ℕ) → p < element_count bs → Fits type (x p)) → (n : Values) (first count : ℕ) → first + count ≡ element_count bs → ((p : ℕ) → p < element_count bs → Fits type (n.arrays j p)) → (t : ℕ → ℕ) (b : Base) (m : List ℕ) → length m ≡ memory_size → (ground n).memory t b m → (length (numbers_from (store_width (store_kind type)) (base + data_place e block j) x first count m) ≡ memory_size) × (ground (copied n j x first count)).memory t b (numbers_from (store_width (store_kind type)) (base + data_place e block j) x first count m)
numbers_stand on x fits n first zero all old t b m len held = (len, held)
numbers_stand {e} {block} {base} {free} {ground} {j} {type} {bs} on x fits n first (suc c) all old t b m len held =
    let width = store_width (store_kind type) in
    let here : base + 4 * first + data_place e block j ≡ base + data_place e block j + 4 * first = omega arith in
    let inside : first < element_count bs = omega (arith, all) in
    let n' = with_element_of n j first (x first) in
    let next' : (ground n').memory t b (store width m (base + data_place e block j + 4 * first) (word (x first))) = subst (λ u. (ground n').memory t b (store width m u (word (x first)))) here (on.writes n first (x first) inside (old first inside) (fits first inside) t b m len held) in
    numbers_stand {ground = ground} on x fits n' (suc first) c (omega (arith, all))
    (λ p below. subst (Fits type) (sym (ap (λ (u : ℕ → ℤ). u p) (one_more n j first (x first)))) (fits_by (p == first) type (x first) (n.arrays j p) (fits first inside) (old p below)))
    t b (store width m (base + data_place e block j + 4 * first) (word (x first))) (length-store width m (base + data_place e block j + 4 * first) (word (x first)) ∙ len) next'

-- ---- in the meaning

abbrev pub copy_changed : Y.LeafType → List Bounds → (serial : ℕ) → (values given : ℕ → List ℤ → BasicValue) → Generation → Generation
copy_changed type bs serial values given = P.with_elements (designated_element type bs serial values []) given

abbrev pub copy_state : State → Y.LeafType → List Bounds → (serial : ℕ) → (values given : ℕ → List ℤ → BasicValue) → State
copy_state s type bs serial values given =
    with_world s.world (with_generation (VariableName serial) (copy_changed type bs serial values given) s)

-- what the other array's elements hold
abbrev pub given_by_source : Y.LeafType → List Bounds → (serial : ℕ) → (values : ℕ → List ℤ → BasicValue) → ℕ → List ℤ → BasicValue
given_by_source type bs serial values = P.elements_of (designated_element type bs serial values [])

pub copy_meant : (s : State) (around : Around) (v w : Y.Variable) (type other : Y.LeafType) (bs : List Bounds) (serial serial' : ℕ) (values values' : ℕ → List ℤ → BasicValue) (k : ℕ) → same_shape (array_shape type bs) (array_shape type bs) ≡ true → same_shape (array_shape other bs) (array_shape other bs) ≡ true → standing_for s v ≡ Some (array_binding type bs v.index serial) → generation_of (living_of s.living serial) ≡ Some (array_generation type bs values) → standing_for s w ≡ Some (array_binding other bs w.index serial') → generation_of (living_of s.living serial') ≡ Some (array_generation other bs values') → P.aggregate_assigned around (whole v) (whole w) k s ≡ Normal tt (copy_state s type bs serial values (given_by_source other bs serial' values'))
unfolding P.aggregate_assigned P.elements_stored R.demanded choose stored ◌>>=◌ ◌>>◌ give
copy_meant s around v w type other bs serial serial' values values' k same same' stands lives stands' lives' =
    let d = designated_element type bs serial values [] in
    let e = designated_element other bs serial' values' [] in
    let last : V.Designated → V.Designated → _ = λ e' d'. ◌>>◌ (R.demanded around 109 (P.all_same_bounds (P.part_bounds d') (P.part_bounds e'))) (P.elements_stored d' (P.elements_of e')) in
    ap (λ q. flow_on k q (λ e'. ◌>>=◌ (V.designated around (whole v)) (λ d'. last e' d'))) (whole_designated around s w other bs serial' values' k same' stands' lives')
    ∙ ap (λ q. flow_on k q (λ d'. last e d')) (whole_designated around s v type bs serial values k same stands lives)
    ∙ ap (λ q. flow_on k (R.demanded around 109 (q && true) k s) (λ u. P.elements_stored d (P.elements_of e))) (bounds_itself bs)

new_value : (type : Y.LeafType) → IsNumeric type → (bs : List Bounds) (serial : ℕ) (values given : ℕ → List ℤ → BasicValue) (is : List ℤ) → (copy_changed type bs serial values given (array_generation type bs values)).values 0 is ≡ cond (is_within bs is) (given 0 is) (values 0 is)
new_value type numeric bs serial values given is =
    by_type (λ t. (copy_changed t bs serial values given (array_generation t bs values)).values 0 is ≡ cond (is_within bs is) (given 0 is) (values 0 is)) (λ p. refl) refl type numeric

-- the array then
pub array_copied : {s : State} {block : Names} {j serial : ℕ} {type : Y.LeafType} {bs : List Bounds} {n : ℕ → ℤ} (x : ℕ → ℤ) (given : ℕ → List ℤ → BasicValue) → ((p : ℕ) → p < element_count bs → Fits type (x p)) → ((is : List ℤ) → is_within bs is ≡ true → given 0 is ≡ value_as type (x (element_place bs is))) → (h : HoldsArray s block j serial type bs n) (n' : ℕ → ℤ) → ((p : ℕ) → p < element_count bs → n' p ≡ x p) → HoldsArray (copy_state s type bs serial h.values given) block j serial type bs n'
array_copied {s = s} {block} {j} {serial} {type} {bs} x given fits each h n' same =
    let change = copy_changed type bs serial h.values given in
    record {
      values = (change (array_generation type bs h.values)).values;
      numeric = h.numeric;
      stands = h.stands;
      lives = changed_same s.living serial change (array_generation type bs h.values) h.lives;
      value = λ is inside.
          new_value type h.numeric bs serial h.values given is
          ∙ ap (λ q. cond q (given 0 is) (h.values 0 is)) inside
          ∙ each is inside
          ∙ ap (value_as type) (sym (same (element_place bs is) (place_inside bs is inside)));
      fits = λ p below. subst (Fits type) (sym (same p below)) (fits p below);
    }
