-- What a FIXED BINARY(31) variable means at a point of a block: the number that it holds, and the state after an
-- assignment.
use Rattle.std.proofs.Common.{◌≡◌, ℕ, ◌+◌, List, [], Some, true, refl, sym, ap, ◌∙◌, subst}
use Rattle.std.specs.Prelude.{ℤ, pos, cond, take}
use Rattle.pli_meaning.specs.BasicValues.{BasicValue, BasicNumber, VariableName}
use Rattle.pli_meaning.specs.Contents.{Generation, Shape, is_within, number_in, same_shape}
use Rattle.pli_meaning.specs.Control.{Normal, choose, flow_on, give, looked, stored, ◌>>=◌, ◌>>◌}
use Rattle.pli_meaning.specs.Evaluating as V
use Rattle.pli_meaning.specs.Executing as M
use Rattle.pli_meaning.specs.Placing as P
use Rattle.pli_meaning.specs.Raising as R
use Rattle.pli_meaning.specs.Raising.{Around}
use Rattle.pli_meaning.specs.StorageState.{Living, State, binding_in, ancestor_at, generation_of, if_same_shape}
use Rattle.pli_meaning.specs.StorageState.{living_of, named, standing_for, with_generation, with_world}
use Rattle.pli_typing.specs.TypedTree as Y
use Rattle.expression_runs.specs.Variables.{Spot, number_binding, number_shape, variable_of, whole, whole_part}

abbrev pub number_generation : (ℕ → List ℤ → BasicValue) → Generation
number_generation values = record { shape = number_shape; extent = pos 0; values = values }

-- what stands in the state
pub record Holds (s : State) (x : Spot) : Type 0 where
  pub serial : ℕ
  pub stands : standing_for s (variable_of x) ≡ Some (number_binding x serial)
  pub values : ℕ → List ℤ → BasicValue
  pub living : Living
  pub lives : living_of s.living serial ≡ Some living
  pub generation : living.generation ≡ number_generation values

pub named_is : {s : State} {x : Spot} (h : Holds s x) →
    named s (VariableName h.serial) number_shape ≡ Some (number_generation h.values)
named_is {s} h =
    ap (λ o. if_same_shape number_shape (generation_of o)) h.lives
    ∙ ap (λ g. if_same_shape number_shape (Some g)) h.generation

abbrev pub designated_number : (serial : ℕ) → (ℕ → List ℤ → BasicValue) → V.Designated
designated_number serial values =
    record {
      name = VariableName serial;
      generation = number_generation values;
      extent = pos 0;
      part = whole_part;
      subscripts = [];
    }

pub designated_is :
    (around : Around) {s : State} {x : Spot} (k : ℕ) (h : Holds s x) →
    V.designated around (whole x) k s ≡ give (designated_number h.serial h.values) k s
unfolding V.designated V.located V.numbers V.variable_designated V.part_designated looked ◌>>=◌ ◌>>◌ R.or_error
    R.demanded choose give
designated_is around {s} {x} k h =
    ap (λ o. flow_on k (R.or_error around 101 o k s)
    (λ b. V.part_designated around b.name b.shape whole_part [])) h.stands
    ∙ ap (λ o. flow_on k (R.or_error around 101 o k s)
    (λ g. ◌>>=◌ (R.or_error around 107 (V.extent_in_force g whole_part))
    (λ e. ◌>>◌ (R.demanded around 102 (is_within (take 0 (V.leaf_at number_shape e 0).bounds) []))
    (give (record {
      name = VariableName h.serial;
      generation = g;
      extent = e;
      part = whole_part;
      subscripts = [];
    }))))) (named_is h)

-- its value
pub number_is :
    (around : Around) {s : State} {x : Spot} (k : ℕ) (z : ℤ) (h : Holds s x) → h.values 0 [] ≡ BasicNumber z →
    V.number around (Y.NumberIn (whole x)) k s ≡ Normal z s
unfolding V.number ◌>>=◌ give
number_is around {s} k z h value =
    ap (λ q. flow_on k q (λ d. give (number_in (V.value_in d)))) (designated_is around k h)
    ∙ ap (λ v. Normal (number_in v) s) value

-- ---- an assignment

abbrev pub assigned_state : State → (serial : ℕ) → (ℕ → List ℤ → BasicValue) → ℤ → State
assigned_state s serial values z =
    with_generation (VariableName serial) (P.with_element (designated_number serial values) (BasicNumber z)) s

pub assigned_is :
    (around : Around) {s : State} {x : Spot} (k : ℕ) (z : ℤ) (h : Holds s x) →
    M.assigned around (whole x) (BasicNumber z) k s ≡ Normal tt (assigned_state s h.serial h.values z)
unfolding M.assigned P.element_stored stored ◌>>=◌ give
assigned_is around {s} k z h =
    ap (λ q. flow_on k q (λ d. P.element_stored d (BasicNumber z))) (designated_is around k h)
