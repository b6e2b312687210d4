-- Arrays of numbers and bits in the meaning: what a reference to an element designates, and the state after one is assigned.
use Rattle.std.proofs.Common.{◌≡◌, ℕ, zero, suc, ◌<◌, List, [], ◌∷◌, length, Some, None, Bool, true, false, refl, sym, ap, ◌∙◌, arith}
use Rattle.std.specs.Prelude.{ℤ, pos, negsuc, cond, ◌==◌, ◌&&◌, take, map}
use Rattle.std.proofs.lemmas.Bool.{eqb-true, eq-eqb}
use Rattle.std.proofs.lemmas.Bool.Decides.{nat_tests}
use Rattle.pli_typing.specs.Signatures.{Bounds, PlainClass, element_count}
use Rattle.pli_typing.specs.TypedTree as Y
use Rattle.pli_language.specs.Tree as T
use Rattle.pli_meaning.specs.BasicValues.{VariableName, BasicValue}
use Rattle.pli_meaning.specs.Contents.{Shape, Generation, same_int, same_bounds, same_shape, same_subscripts, is_within, element_place}
use Rattle.pli_meaning.specs.DeclaredShapes.{kind_of, bounds_of, shape_of}
use Rattle.pli_meaning.specs.StorageState.{State, Binding, generation_of, living_of, standing_for, named, if_same_shape, with_world, with_generation}
use Rattle.pli_meaning.specs.Control.{Normal, give, flow_on, looked, stored, ◌>>=◌, ◌>>◌}
use Rattle.pli_meaning.specs.Raising as R
use Rattle.pli_meaning.specs.Raising.{Around}
use Rattle.pli_meaning.specs.Evaluating as V
use Rattle.pli_meaning.specs.Placing as P
use Rattle.pli_headline.specs.ProvedSoFar.{Names, constant_bounds, array_variable}
use Rattle.pli_headline.proofs.Scalars.{IsNumeric, by_type, value_as, Fits}
use Rattle.pli_headline.proofs.Variables.{whole_part, own}
use Rattle.pli_headline.proofs.Changes.{changed_same, changed_other}
use Rattle.pli_headline.proofs.ElementsStay.{with_element_at}
use Rattle.pli_headline.proofs.ArrayPlaces.{same_place, subscripts_same}

-- ---- declarations and shapes

abbrev pub array_shape : Y.LeafType → List Bounds → Shape
array_shape type bs =
    record {
      signature = record { class = PlainClass; leaves = record { kind = kind_of [] type; bounds = bs } ∷ [] };
      refer = None;
    }

pub bounds_back : (bs : List Bounds) → map (bounds_of []) (map constant_bounds bs) ≡ bs
bounds_back [] = refl
bounds_back (b ∷ bs) = ap (λ u. b ∷ u) (bounds_back bs)

pub shape_is : (type : Y.LeafType) (bs : List Bounds) (initial : List T.InitialItem) → shape_of [] (array_variable type bs initial) ≡ array_shape type bs
shape_is type bs initial = ap (array_shape type) (bounds_back bs)

number_itself : (z : ℤ) → same_int z z ≡ true
number_itself (pos n) = grind (arith, nat_tests)
number_itself (negsuc n) = grind (arith, nat_tests)

pub bounds_itself : (bs : List Bounds) → same_bounds bs bs ≡ true
bounds_itself [] = refl
bounds_itself (b ∷ bs) =
    ap (λ t. t && (same_int b.upper b.upper && same_bounds bs bs)) (number_itself b.lower)
    ∙ ap (λ t. t && same_bounds bs bs) (number_itself b.upper)
    ∙ bounds_itself bs

-- a shape is the same as itself
pub same_array : (type : Y.LeafType) (bs : List Bounds) → IsNumeric type → same_shape (array_shape type bs) (array_shape type bs) ≡ true
same_array type bs is =
    by_type (λ t. same_shape (array_shape t bs) (array_shape t bs) ≡ true)
    (λ p. ap (λ t. (t && (same_bounds bs bs && true)) && true) (eq-eqb p p refl) ∙ ap (λ t. (t && true) && true) (bounds_itself bs))
    (ap (λ t. (t && true) && true) (bounds_itself bs))
    type is

-- ---- what an array stands for

abbrev pub array_binding : Y.LeafType → List Bounds → (index serial : ℕ) → Binding
array_binding type bs index serial = record { variable = index; name = VariableName serial; shape = array_shape type bs }

abbrev pub array_generation : Y.LeafType → List Bounds → (ℕ → List ℤ → BasicValue) → Generation
array_generation type bs values = record { shape = array_shape type bs; extent = pos 0; values = values }

-- an array of the block stands for a generation whose elements hold the values of numbers, by their places
pub record HoldsArray (s : State) (block : Names) (j serial : ℕ) (type : Y.LeafType) (bs : List Bounds) (n : ℕ → ℤ) : Type 0 where
  pub values : ℕ → List ℤ → BasicValue
  pub numeric : IsNumeric type
  pub stands : standing_for s (own block j) ≡ Some (array_binding type bs (block.at j).index serial)
  pub lives : generation_of (living_of s.living serial) ≡ Some (array_generation type bs values)
  pub value : (is : List ℤ) → is_within bs is ≡ true → values 0 is ≡ value_as type (n (element_place bs is))
  pub fits : (p : ℕ) → p < element_count bs → Fits type (n p)

-- ---- references to elements

abbrev pub element : (block : Names) (index : ℕ) → Y.Number → Y.Numbers → Y.Reference
element block index first rest = Y.Referring (own block index) Y.NotLocated whole_part (Y.NumberThen first rest)

abbrev pub designated_element : Y.LeafType → List Bounds → (serial : ℕ) → (ℕ → List ℤ → BasicValue) → List ℤ → V.Designated
designated_element type bs serial values is =
    record { name = VariableName serial; generation = array_generation type bs values; extent = pos 0; part = whole_part; subscripts = is }

-- the subscripts, and then the checks
pub element_meant : (around : Around) (block : Names) (j : ℕ) (first : Y.Number) (rest : Y.Numbers) (k : ℕ) (s : State) → V.designated around (element block j first rest) k s ≡ flow_on k (V.numbers around (Y.NumberThen first rest) k s) (λ is. V.variable_designated around (own block j) None whole_part is)
unfolding V.designated V.located ◌>>=◌ give
element_meant around block j first rest k s = refl

all_taken : {A : Type 0} (xs : List A) (n : ℕ) → n ≡ length xs → take n xs ≡ xs
all_taken [] zero e = refl
all_taken [] (suc n) e = absurd (omega (arith, e))
all_taken (x ∷ xs) zero e = absurd (omega (arith, e))
all_taken (x ∷ xs) (suc n) e = ap (λ u. x ∷ u) (all_taken xs n (omega (arith, e)))

pub checked_by : (s : State) (block : Names) (j : ℕ) (around : Around) (is : List ℤ) (k : ℕ) (type : Y.LeafType) (bs : List Bounds) (serial : ℕ) (values : ℕ → List ℤ → BasicValue) → same_shape (array_shape type bs) (array_shape type bs) ≡ true → standing_for s (own block j) ≡ Some (array_binding type bs (block.at j).index serial) → generation_of (living_of s.living serial) ≡ Some (array_generation type bs values) → length is ≡ length bs → V.variable_designated around (own block j) None whole_part is k s ≡ flow_on k (R.demanded around 102 (is_within bs is) k s) (λ u. give (designated_element type bs serial values is))
unfolding V.variable_designated V.part_designated looked ◌>>=◌ ◌>>◌ R.or_error give
checked_by s block j around is k type bs serial values same stands living all =
    let lives : named s (VariableName serial) (array_shape type bs) ≡ Some (array_generation type bs values) = ap (if_same_shape (array_shape type bs)) living ∙ ap (λ t. cond t (Some (array_generation type bs values)) None) same in
    ap (λ o. flow_on k (R.or_error around 101 o k s) (λ b. V.part_designated around b.name b.shape whole_part is)) stands
    ∙ ap (λ o. flow_on k (R.or_error around 101 o k s) (λ g. ◌>>=◌ (R.or_error around 107 (V.extent_in_force g whole_part)) (λ e. ◌>>◌ (R.demanded around 102 (is_within (take (length is) (V.leaf_at (array_shape type bs) e 0).bounds) is)) (give (record { name = VariableName serial; generation = g; extent = e; part = whole_part; subscripts = is }))))) lives
    ∙ ap (λ u. flow_on k (R.demanded around 102 (is_within u is) k s) (λ r. give (designated_element type bs serial values is))) (all_taken bs (length is) all)

pub element_checked : {s : State} {block : Names} {j serial : ℕ} {type : Y.LeafType} {bs : List Bounds} {n : ℕ → ℤ} (around : Around) (is : List ℤ) (k : ℕ) (h : HoldsArray s block j serial type bs n) → length is ≡ length bs → V.variable_designated around (own block j) None whole_part is k s ≡ flow_on k (R.demanded around 102 (is_within bs is) k s) (λ u. give (designated_element type bs serial h.values is))
element_checked {s = s} {block = block} {j = j} {serial = serial} {type = type} {bs = bs} around is k h all =
    checked_by s block j around is k type bs serial h.values (same_array type bs h.numeric) h.stands h.lives all

-- what an element holds is seen as it is
pub element_seen : (type : Y.LeafType) (bs : List Bounds) (serial : ℕ) (values : ℕ → List ℤ → BasicValue) (is : List ℤ) → IsNumeric type → V.value_in (designated_element type bs serial values is) ≡ values 0 is
element_seen type bs serial values is numeric =
    by_type (λ t. V.value_in (designated_element t bs serial values is) ≡ values 0 is) (λ p. refl) refl type numeric

-- ---- assignment

-- the state after a value is assigned to an element
abbrev pub element_state : State → Y.LeafType → List Bounds → (serial : ℕ) → (ℕ → List ℤ → BasicValue) → List ℤ → ℤ → State
element_state s type bs serial values is z =
    with_world s.world (with_generation (VariableName serial) (P.with_element (designated_element type bs serial values is) (value_as type z)) s)

pub element_stored : (type : Y.LeafType) (bs : List Bounds) (serial : ℕ) (values : ℕ → List ℤ → BasicValue) (is : List ℤ) (z : ℤ) (k : ℕ) (s : State) → P.element_stored (designated_element type bs serial values is) (value_as type z) k s ≡ Normal tt (element_state s type bs serial values is z)
unfolding P.element_stored stored
element_stored type bs serial values is z k s = refl

-- the value of each element then
new_value : (type : Y.LeafType) → IsNumeric type → (bs : List Bounds) (serial : ℕ) (values : ℕ → List ℤ → BasicValue) (is js : List ℤ) (z : ℤ) → (P.with_element (designated_element type bs serial values is) (value_as type z) (array_generation type bs values)).values 0 js ≡ cond (same_subscripts js is) (value_as type z) (values 0 js)
new_value type numeric bs serial values is js z =
    by_type (λ t. (P.with_element (designated_element t bs serial values is) (value_as t z) (array_generation t bs values)).values 0 js ≡ cond (same_subscripts js is) (value_as t z) (values 0 js)) (λ p. refl) refl type numeric

value_by : (q r : Bool) (type : Y.LeafType) (bs : List Bounds) (is js : List ℤ) (n : ℕ → ℤ) (z : ℤ) (old : BasicValue) → same_subscripts js is ≡ q → (element_place bs js == element_place bs is) ≡ r → is_within bs is ≡ true → is_within bs js ≡ true → old ≡ value_as type (n (element_place bs js)) → cond q (value_as type z) old ≡ value_as type (cond r z (n (element_place bs js)))
value_by true true type bs is js n z old e f w w' o = refl
value_by false false type bs is js n z old e f w w' o = o
value_by true false type bs is js n z old e f w w' o =
    let g : element_place bs js ≡ element_place bs is = ap (element_place bs) (subscripts_same js is e) in
    absurd (cc (sym (eq-eqb (element_place bs js) (element_place bs is) g) ∙ f))
value_by false true type bs is js n z old e f w w' o =
    let g = same_place bs js is w' w (eqb-true (element_place bs js) (element_place bs is) f) in
    absurd (cc (sym g ∙ e))

fits_by : (q : Bool) (type : Y.LeafType) (z y : ℤ) → Fits type z → Fits type y → Fits type (cond q z y)
fits_by true type z y h i = h
fits_by false type z y h i = i

-- the array after one of its elements is assigned
pub array_assigned : {s : State} {block : Names} {j serial : ℕ} {type : Y.LeafType} {bs : List Bounds} {n : ℕ → ℤ} (is : List ℤ) (z : ℤ) → is_within bs is ≡ true → Fits type z → (h : HoldsArray s block j serial type bs n) → HoldsArray (element_state s type bs serial h.values is z) block j serial type bs (with_element_at n (element_place bs is) z)
array_assigned {s = s} {block = block} {j = j} {serial = serial} {type = type} {bs = bs} {n = n} is z within fits h =
    let change = P.with_element (designated_element type bs serial h.values is) (value_as type z) in
    record {
      values = (change (array_generation type bs h.values)).values;
      numeric = h.numeric;
      stands = h.stands;
      lives = changed_same s.living serial change (array_generation type bs h.values) h.lives;
      value = λ js inside.
          new_value type h.numeric bs serial h.values is js z
          ∙ value_by (same_subscripts js is) (element_place bs js == element_place bs is) type bs is js n z (h.values 0 js) refl refl within inside (h.value js inside);
      fits = λ p below. fits_by (p == element_place bs is) type z (n p) fits (h.fits p below);
    }

-- other variables stay as they are
pub array_beside : {s : State} {block : Names} {i other' : ℕ} {other : Y.LeafType} {cs : List Bounds} {m : ℕ → ℤ} (serial : ℕ) (change : Generation → Generation) → (serial == other') ≡ false → HoldsArray s block i other' other cs m → HoldsArray (with_world s.world (with_generation (VariableName serial) change s)) block i other' other cs m
array_beside {s = s} {other' = other'} serial change apart h =
    record { values = h.values; numeric = h.numeric; stands = h.stands; lives = changed_other s.living serial other' change apart ∙ h.lives; value = h.value; fits = h.fits }
