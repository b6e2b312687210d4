-- One number for all elements of an array: what variables hold then, in the meaning and in memory.
use Rattle.std.proofs.Common.{◌≡◌, ℕ, zero, suc, ◌+◌, ◌*◌, ◌<◌, ◌≤◌, ◌⊎◌, inl, inr, List, [], length, Some, None, Bool, true, false, refl, sym, ap, ◌∙◌, subst, arith}
use Rattle.std.specs.Prelude.{ℤ, cond, ◌==◌, take}
use Rattle.std.proofs.lemmas.Bool.{eq-eqb, cases_lt}
use Rattle.std.proofs.lemmas.Bool.Decides.{nat_tests}
use Rattle.rv_meaning.specs.Words.{word}
use Rattle.rv_meaning.specs.Memory.{store}
use Rattle.rv_meaning.specs.Machine.{memory_size, store_width}
use Rattle.rv_meaning.proofs.MemoryLaws.{length-store}
use Rattle.pli_typing.specs.Signatures.{Bounds, element_count}
use Rattle.pli_typing.specs.TypedTree as Y
use Rattle.pli_meaning.specs.BasicValues.{VariableName, BasicValue}
use Rattle.pli_meaning.specs.Contents.{Generation, is_within, element_place, same_shape}
use Rattle.pli_meaning.specs.StorageState.{State, with_world, with_generation, standing_for, generation_of, living_of, named, if_same_shape}
use Rattle.pli_meaning.specs.Control.{Normal, flow_on, looked, stored, give, choose, ◌>>=◌, ◌>>◌}
use Rattle.pli_meaning.specs.Raising as R
use Rattle.pli_meaning.specs.Raising.{Around}
use Rattle.pli_meaning.specs.Evaluating as V
use Rattle.pli_meaning.specs.Placing as P
use Rattle.pli_meaning.specs.Executing as M
use Rattle.pli_coding.specs.Environments.{Environment}
use Rattle.pli_headline.specs.ProvedSoFar.{Names}
use Rattle.run_steps.specs.Engine.{Base}
use Rattle.run_steps.specs.Bodies.{Ground}
use Rattle.pli_headline.proofs.Scalars.{IsNumeric, by_type, Values, value_as, Fits, store_kind}
use Rattle.pli_headline.proofs.Variables.{whole_part, own, whole, data_place}
use Rattle.pli_headline.proofs.Changes.{changed_same}
use Rattle.pli_headline.proofs.ArrayPlaces.{place_inside}
use Rattle.pli_headline.proofs.ElementsStay.{with_element_at}
use Rattle.pli_headline.proofs.ArrayMeant.{HoldsArray, array_shape, array_binding, array_generation, designated_element, same_array}
use Rattle.pli_headline.proofs.ArrayScopes.{with_element_of, ArrayOn}

-- ---- values

-- what variables hold when the elements at so many places, from one on, are assigned one after the other
abbrev pub filled : Values → (j : ℕ) → ℤ → (first count : ℕ) → Values
filled n j z first zero = n
filled n j z first (suc c) = filled (with_element_of n j first z) j z (suc first) c

pub filled_numbers : (n : Values) (j : ℕ) (z : ℤ) (first count : ℕ) → (filled n j z first count).numbers ≡ n.numbers
filled_numbers n j z first zero = refl
filled_numbers n j z first (suc c) = filled_numbers (with_element_of n j first z) j z (suc first) c

pub filled_texts : (n : Values) (j : ℕ) (z : ℤ) (first count : ℕ) → (filled n j z first count).texts ≡ n.texts
filled_texts n j z first zero = refl
filled_texts n j z first (suc c) = filled_texts (with_element_of n j first z) j z (suc first) c

pub filled_text_arrays : (n : Values) (j : ℕ) (z : ℤ) (first count : ℕ) → (filled n j z first count).text_arrays ≡ n.text_arrays
filled_text_arrays n j z first zero = refl
filled_text_arrays n j z first (suc c) = filled_text_arrays (with_element_of n j first z) j z (suc first) c

-- other arrays stay
pub filled_other : (n : Values) (j : ℕ) (z : ℤ) (first count i : ℕ) → (i == j) ≡ false → (filled n j z first count).arrays i ≡ n.arrays i
filled_other n j z first zero i e = refl
filled_other n j z first (suc c) i e =
    filled_other (with_element_of n j first z) j z (suc first) c i e
    ∙ ap (λ q. cond q (with_element_at (n.arrays i) first z) (n.arrays i)) e

one_more : (n : Values) (j : ℕ) (z : ℤ) (first : ℕ) → (with_element_of n j first z).arrays j ≡ with_element_at (n.arrays j) first z
one_more n j z first = ap (λ q. cond q (with_element_at (n.arrays j) first z) (n.arrays j)) (eq-eqb j j refl)

before_not : (p first : ℕ) → p < first → (p == first) ≡ false
before_not p first h = grind (arith, nat_tests)

-- places before these stay
filled_before : (n : Values) (j : ℕ) (z : ℤ) (first count p : ℕ) → p < first → (filled n j z first count).arrays j p ≡ n.arrays j p
filled_before n j z first zero p below = refl
filled_before n j z first (suc c) p below =
    filled_before (with_element_of n j first z) j z (suc first) c p (omega (arith, below))
    ∙ ap (λ (u : ℕ → ℤ). u p) (one_more n j z first)
    ∙ ap (λ q. cond q z (n.arrays j p)) (before_not p first below)

filled_by : (n : Values) (j : ℕ) (z : ℤ) (first c p : ℕ) → first ≤ p → (p < suc first) ⊎ (suc first ≤ p) → (suc first ≤ p → (filled (with_element_of n j first z) j z (suc first) c).arrays j p ≡ z) → (filled (with_element_of n j first z) j z (suc first) c).arrays j p ≡ z
filled_by n j z first c p from (inl here) later =
    let same : p ≡ first = omega (arith, from, here) in
    filled_before (with_element_of n j first z) j z (suc first) c p here
    ∙ ap (λ (u : ℕ → ℤ). u p) (one_more n j z first)
    ∙ ap (λ q. cond q z (n.arrays j p)) (eq-eqb p first same)
filled_by n j z first c p from (inr behind) later = later behind

-- these hold the number
pub filled_at : (n : Values) (j : ℕ) (z : ℤ) (first count p : ℕ) → first ≤ p → p < first + count → (filled n j z first count).arrays j p ≡ z
filled_at n j z first zero p from below = absurd (omega (arith, from, below))
filled_at n j z first (suc c) p from below =
    filled_by n j z first c p from (cases_lt p (suc first)) (λ behind. filled_at (with_element_of n j first z) j z (suc first) c p behind (omega (arith, below)))

fits_by : (q : Bool) (type : Y.LeafType) (z y : ℤ) → Fits type z → Fits type y → Fits type (cond q z y)
fits_by true type z y h i = h
fits_by false type z y h i = i

-- ---- in memory

-- the number is stored at one place after the other
abbrev pub stored_from : (width base w : ℕ) → (first count : ℕ) → List ℕ → List ℕ
stored_from width base w first zero m = m
stored_from width base w first (suc c) m = stored_from width base w (suc first) c (store width m (base + 4 * first) w)

pub stands_filled : {e : Environment} {block : Names} {base free : ℕ} {ground : Values → Ground} {j : ℕ} {type : Y.LeafType} {bs : List Bounds} (on : ArrayOn e block base free ground j type bs) (z : ℤ) → Fits type z → (n : Values) (first count : ℕ) → first + count ≡ element_count bs → ((p : ℕ) → p < element_count bs → Fits type (n.arrays j p)) → (t : ℕ → ℕ) (b : Base) (m : List ℕ) → length m ≡ memory_size → (ground n).memory t b m → (length (stored_from (store_width (store_kind type)) (base + data_place e block j) (word z) first count m) ≡ memory_size) × (ground (filled n j z first count)).memory t b (stored_from (store_width (store_kind type)) (base + data_place e block j) (word z) first count m)
stands_filled on z fits n first zero all old t b m len held = (len, held)
stands_filled {e} {block} {base} {free} {ground} {j} {type} {bs} on z fits n first (suc c) all old t b m len held =
    let width = store_width (store_kind type) in
    let here : base + 4 * first + data_place e block j ≡ base + data_place e block j + 4 * first = omega arith in
    let inside : first < element_count bs = omega (arith, all) in
    let n' = with_element_of n j first z in
    let next' : (ground n').memory t b (store width m (base + data_place e block j + 4 * first) (word z)) = subst (λ u. (ground n').memory t b (store width m u (word z))) here (on.writes n first z inside (old first inside) fits t b m len held) in
    stands_filled {ground = ground} on z fits n' (suc first) c (omega (arith, all))
    (λ p below. subst (Fits type) (sym (ap (λ (u : ℕ → ℤ). u p) (one_more n j z first))) (fits_by (p == first) type z (n.arrays j p) fits (old p below)))
    t b (store width m (base + data_place e block j + 4 * first) (word z)) (length-store width m (base + data_place e block j + 4 * first) (word z) ∙ len) next'

-- ---- in the meaning

-- the change of the array's generation
abbrev pub all_changed : Y.LeafType → List Bounds → (serial : ℕ) → (ℕ → List ℤ → BasicValue) → ℤ → Generation → Generation
all_changed type bs serial values z =
    P.with_elements (designated_element type bs serial values []) (λ leaf is. value_as type z)

abbrev pub all_state : State → Y.LeafType → List Bounds → (serial : ℕ) → (ℕ → List ℤ → BasicValue) → ℤ → State
all_state s type bs serial values z =
    with_world s.world (with_generation (VariableName serial) (all_changed type bs serial values z) s)

pub whole_designated : (around : Around) (s : State) (v : Y.Variable) (type : Y.LeafType) (bs : List Bounds) (serial : ℕ) (values : ℕ → List ℤ → BasicValue) (k : ℕ) → same_shape (array_shape type bs) (array_shape type bs) ≡ true → standing_for s v ≡ Some (array_binding type bs v.index serial) → generation_of (living_of s.living serial) ≡ Some (array_generation type bs values) → V.designated around (whole v) k s ≡ give (designated_element type bs serial values []) k s
unfolding V.designated V.located V.numbers V.variable_designated V.part_designated looked ◌>>=◌ ◌>>◌ R.or_error R.demanded choose give
whole_designated around s v type bs serial values k same stands living =
    let lives : named s (VariableName serial) (array_shape type bs) ≡ Some (array_generation type bs values) = ap (if_same_shape (array_shape type bs)) living ∙ ap (λ t. cond t (Some (array_generation type bs values)) None) same in
    ap (λ o. flow_on k (R.or_error around 101 o k s) (λ b. V.part_designated around b.name b.shape whole_part [])) stands
    ∙ ap (λ o. flow_on k (R.or_error around 101 o k s) (λ g. ◌>>=◌ (R.or_error around 107 (V.extent_in_force g whole_part)) (λ e. ◌>>◌ (R.demanded around 102 (is_within (take 0 (V.leaf_at (array_shape type bs) e 0).bounds) [])) (give (record { name = VariableName serial; generation = g; extent = e; part = whole_part; subscripts = [] }))))) lives

pub elements_meant : {s : State} {block : Names} {j serial : ℕ} {type : Y.LeafType} {bs : List Bounds} {n : ℕ → ℤ} (around : Around) (z : ℤ) (k : ℕ) (h : HoldsArray s block j serial type bs n) → M.elements_assigned around (whole (own block j)) (value_as type z) k s ≡ Normal tt (all_state s type bs serial h.values z)
unfolding M.elements_assigned P.elements_stored stored ◌>>=◌ give
elements_meant {s = s} {block} {j} {serial} {type} {bs} around z k h =
    ap (λ q. flow_on k q (λ d. P.elements_stored d (λ leaf is. value_as type z))) (whole_designated around s (own block j) type bs serial h.values k (same_array type bs h.numeric) h.stands h.lives)

new_value : (type : Y.LeafType) → IsNumeric type → (bs : List Bounds) (serial : ℕ) (values : ℕ → List ℤ → BasicValue) (z : ℤ) (is : List ℤ) → is_within bs is ≡ true → (all_changed type bs serial values z (array_generation type bs values)).values 0 is ≡ value_as type z
new_value type numeric bs serial values z is inside =
    by_type (λ t. (all_changed t bs serial values z (array_generation t bs values)).values 0 is ≡ cond (is_within bs is) (value_as t z) (values 0 is)) (λ p. refl) refl type numeric
    ∙ ap (λ q. cond q (value_as type z) (values 0 is)) inside

-- the array then
pub array_filled : {s : State} {block : Names} {j serial : ℕ} {type : Y.LeafType} {bs : List Bounds} {n : ℕ → ℤ} (z : ℤ) → Fits type z → (h : HoldsArray s block j serial type bs n) (n' : ℕ → ℤ) → ((p : ℕ) → p < element_count bs → n' p ≡ z) → HoldsArray (all_state s type bs serial h.values z) block j serial type bs n'
array_filled {s = s} {block} {j} {serial} {type} {bs} z fits h n' same =
    let change = all_changed type bs serial h.values z in
    record {
      values = (change (array_generation type bs h.values)).values;
      numeric = h.numeric;
      stands = h.stands;
      lives = changed_same s.living serial change (array_generation type bs h.values) h.lives;
      value = λ is inside. new_value type h.numeric bs serial h.values z is inside ∙ ap (value_as type) (sym (same (element_place bs is) (place_inside bs is inside)));
      fits = λ p below. subst (Fits type) (sym (same p below)) fits;
    }
