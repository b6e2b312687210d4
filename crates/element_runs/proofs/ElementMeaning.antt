-- What an element of an array means at a point of a block: the number that it holds, and the state after an
-- assignment.
use Rattle.std.proofs.Common.{◌≡◌, ℕ, List, [], ◌∷◌, Some, None, true, refl, ap, ◌∙◌}
use Rattle.std.specs.Prelude.{ℤ, pos, cond, take, ◌&&◌}
use Rattle.pli_typing.specs.Signatures.{Bounds}
use Rattle.pli_typing.specs.TypedTree as Y
use Rattle.pli_meaning.specs.BasicValues.{BasicNumber, BasicValue, VariableName}
use Rattle.pli_meaning.specs.Contents.{Generation, is_within, number_in, same_int, same_shape}
use Rattle.pli_meaning.specs.Control.{Meaning, Normal, flow_on, give, looked, stored, ◌>>=◌, ◌>>◌}
use Rattle.pli_meaning.specs.Evaluating as V
use Rattle.pli_meaning.specs.Executing as M
use Rattle.pli_meaning.specs.Placing as P
use Rattle.pli_meaning.specs.Raising as R
use Rattle.pli_meaning.specs.Raising.{Around}
use Rattle.pli_meaning.specs.StorageState.{Binding, Living, State, generation_of, if_same_shape, living_of, named}
use Rattle.pli_meaning.specs.StorageState.{standing_for, with_generation}
use Rattle.expression_runs.specs.Variables.{Spot, variable_of, whole_part}
use Rattle.element_runs.specs.Arrays.{array_shape, element}
use Rattle.element_runs.proofs.Bounds.{is_between, number_itself, within_is}

abbrev pub array_generation : Bounds → (ℕ → List ℤ → BasicValue) → Generation
array_generation b values = record { shape = array_shape b; extent = pos 0; values = values }

abbrev pub array_binding : Spot → Bounds → (serial : ℕ) → Binding
array_binding x b serial = record { variable = x.index; name = VariableName serial; shape = array_shape b }

-- what stands in the state
pub record Holds (s : State) (x : Spot) (b : Bounds) : Type 0 where
  pub serial : ℕ
  pub stands : standing_for s (variable_of x) ≡ Some (array_binding x b serial)
  pub values : ℕ → List ℤ → BasicValue
  pub living : Living
  pub lives : living_of s.living serial ≡ Some living
  pub generation : living.generation ≡ array_generation b values

same_array : (b : Bounds) → same_shape (array_shape b) (array_shape b) ≡ true
same_array b =
    ap (λ t. ((t && (same_int b.upper b.upper && true)) && true) && true) (number_itself b.lower)
    ∙ ap (λ t. ((t && true) && true) && true) (number_itself b.upper)

pub named_is : {s : State} {x : Spot} {b : Bounds} (h : Holds s x b) →
    named s (VariableName h.serial) (array_shape b) ≡ Some (array_generation b h.values)
named_is {s} {b = b} h =
    ap (λ o. if_same_shape (array_shape b) (generation_of o)) h.lives
    ∙ ap (λ g. if_same_shape (array_shape b) (Some g)) h.generation
    ∙ ap (λ t. cond t (Some (array_generation b h.values)) None) (same_array b)

abbrev pub designated_element : Bounds → (serial : ℕ) → (ℕ → List ℤ → BasicValue) → ℤ → V.Designated
designated_element b serial values i =
    record {
      name = VariableName serial;
      generation = array_generation b values;
      extent = pos 0;
      part = whole_part;
      subscripts = i ∷ [];
    }

-- the subscript comes first
pub element_meant :
    (around : Around) (x : Spot) (s : Y.Number) (k : ℕ) (u : State) →
    V.designated around (element x s) k u
    ≡ flow_on k (V.numbers around (Y.NumberThen s Y.NoNumber) k u)
    (λ is. V.variable_designated around (variable_of x) None whole_part is)
unfolding V.designated V.located ◌>>=◌ give
element_meant around x s k u = refl

abbrev pub only : Around → ℤ → Meaning (List ℤ)
only around z = (V.numbers around Y.NoNumber) >>= (λ zs. give (z ∷ zs))

pub numbers_meant :
    (around : Around) (s : Y.Number) (k : ℕ) (u : State) →
    V.numbers around (Y.NumberThen s Y.NoNumber) k u ≡ flow_on k (V.number around s k u) (λ z. only around z)
unfolding V.numbers ◌>>=◌
numbers_meant around s k u = refl

pub only_is : (around : Around) (z : ℤ) (k : ℕ) (u : State) → only around z k u ≡ Normal (z ∷ []) u
unfolding V.numbers ◌>>=◌ give
only_is around z k u = refl

-- then the test of its bounds
pub designated_is :
    (around : Around) {s : State} {x : Spot} {b : Bounds} (k : ℕ) (i : ℤ) (h : Holds s x b) →
    V.variable_designated around (variable_of x) None whole_part (i ∷ []) k s
    ≡ flow_on k (R.demanded around 102 (is_between b i) k s) (λ u. give (designated_element b h.serial h.values i))
unfolding V.variable_designated V.part_designated looked ◌>>=◌ ◌>>◌ R.or_error give
designated_is around {s} {x} {b} k i h =
    ap (λ o. flow_on k (R.or_error around 101 o k s)
    (λ n. V.part_designated around n.name n.shape whole_part (i ∷ []))) h.stands
    ∙ ap (λ o. flow_on k (R.or_error around 101 o k s)
    (λ g. ◌>>=◌ (R.or_error around 107 (V.extent_in_force g whole_part))
    (λ e. ◌>>◌ (R.demanded around 102 (is_within (take 1 (V.leaf_at (array_shape b) e 0).bounds) (i ∷ [])))
    (give (record {
      name = VariableName h.serial;
      generation = g;
      extent = e;
      part = whole_part;
      subscripts = i ∷ [];
    }))))) (named_is h)
    ∙ ap (λ q. flow_on k (R.demanded around 102 q k s) (λ u. give (designated_element b h.serial h.values i)))
    (within_is b i)

-- its value
abbrev pub number_of : V.Designated → Meaning ℤ
number_of d = give (number_in (V.value_in d))

pub number_meant :
    (around : Around) (x : Spot) (s : Y.Number) (k : ℕ) (u : State) →
    V.number around (Y.NumberIn (element x s)) k u
    ≡ flow_on k (V.designated around (element x s) k u) (λ d. number_of d)
unfolding V.number ◌>>=◌
number_meant around x s k u = refl

pub number_is :
    (b : Bounds) (serial : ℕ) (values : ℕ → List ℤ → BasicValue) (i y : ℤ) (k : ℕ) (u : State) →
    values 0 (i ∷ []) ≡ BasicNumber y → number_of (designated_element b serial values i) k u ≡ Normal y u
unfolding give
number_is b serial values i y k u e = ap (λ v. Normal (number_in v) u) e

-- ---- an assignment

abbrev pub assigned_state : State → Bounds → (serial : ℕ) → (ℕ → List ℤ → BasicValue) → (i z : ℤ) → State
assigned_state s b serial values i z =
    with_generation (VariableName serial) (P.with_element (designated_element b serial values i) (BasicNumber z)) s

abbrev pub stored_in : ℤ → V.Designated → Meaning (Unit {0})
stored_in z d = P.element_stored d (BasicNumber z)

pub assigned_meant :
    (around : Around) (x : Spot) (s : Y.Number) (z : ℤ) (k : ℕ) (u : State) →
    M.assigned around (element x s) (BasicNumber z) k u
    ≡ flow_on k (V.designated around (element x s) k u) (λ d. stored_in z d)
unfolding M.assigned ◌>>=◌
assigned_meant around x s z k u = refl

pub assigned_is :
    (b : Bounds) (serial : ℕ) (values : ℕ → List ℤ → BasicValue) (i z : ℤ) (k : ℕ) (u : State) →
    stored_in z (designated_element b serial values i) k u ≡ Normal tt (assigned_state u b serial values i z)
unfolding P.element_stored stored
assigned_is b serial values i z k u = refl
