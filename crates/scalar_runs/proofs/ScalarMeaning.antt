-- What a scalar means at a point of a block: the value that it holds, and the state after an assignment.
use Rattle.std.proofs.Common.{◌≡◌, ℕ, List, [], Some, None, Bool, true, refl, ap, ◌∙◌}
use Rattle.std.proofs.lemmas.Bool.{eq-eqb}
use Rattle.std.specs.Prelude.{ℤ, pos, cond, take, ◌&&◌}
use Rattle.pli_typing.specs.Signatures.{Bit, Fixed, LeafKind, scalar}
use Rattle.pli_typing.specs.TypedTree as Y
use Rattle.pli_meaning.specs.BasicValues.{BasicBit, BasicNumber, BasicValue, VariableName}
use Rattle.pli_meaning.specs.Contents.{Generation, Shape, bit_in, is_within, number_in, same_shape}
use Rattle.pli_meaning.specs.Control.{Normal, choose, flow_on, give, looked, stored, ◌>>=◌, ◌>>◌}
use Rattle.pli_meaning.specs.Evaluating as V
use Rattle.pli_meaning.specs.Executing as M
use Rattle.pli_meaning.specs.Placing as P
use Rattle.pli_meaning.specs.Raising as R
use Rattle.pli_meaning.specs.Raising.{Around}
use Rattle.pli_meaning.specs.StorageState.{Binding, Living, State, generation_of, if_same_shape, living_of, named}
use Rattle.pli_meaning.specs.StorageState.{standing_for, with_generation}
use Rattle.expression_runs.specs.Variables.{Spot, variable_of, whole, whole_part}

abbrev pub scalar_shape : LeafKind → Shape
scalar_shape kind = record { signature = scalar kind; refer = None }

abbrev pub scalar_generation : LeafKind → (ℕ → List ℤ → BasicValue) → Generation
scalar_generation kind values = record { shape = scalar_shape kind; extent = pos 0; values = values }

abbrev pub scalar_binding : Spot → LeafKind → (serial : ℕ) → Binding
scalar_binding x kind serial = record { variable = x.index; name = VariableName serial; shape = scalar_shape kind }

-- a kind of numbers or bits
abbrev pub IsWorded : LeafKind → Type 0
IsWorded (Fixed p) = Unit {0}
IsWorded Bit = Unit {0}
IsWorded _ = ⊥

-- what stands in the state
pub record Holds (s : State) (x : Spot) (kind : LeafKind) : Type 0 where
  pub serial : ℕ
  pub stands : standing_for s (variable_of x) ≡ Some (scalar_binding x kind serial)
  pub values : ℕ → List ℤ → BasicValue
  pub living : Living
  pub lives : living_of s.living serial ≡ Some living
  pub generation : living.generation ≡ scalar_generation kind values

same_scalar : (kind : LeafKind) → IsWorded kind → same_shape (scalar_shape kind) (scalar_shape kind) ≡ true
same_scalar (Fixed p) is = ap (λ (q : Bool). (q && true) && true) (eq-eqb p p refl)
same_scalar Bit is = refl
same_scalar _ is = absurd is

named_is :
    {s : State} {x : Spot} {kind : LeafKind} → IsWorded kind → (h : Holds s x kind) →
    named s (VariableName h.serial) (scalar_shape kind) ≡ Some (scalar_generation kind h.values)
named_is {s} {kind = kind} is h =
    ap (λ o. if_same_shape (scalar_shape kind) (generation_of o)) h.lives
    ∙ ap (λ g. if_same_shape (scalar_shape kind) (Some g)) h.generation
    ∙ ap (λ t. cond t (Some (scalar_generation kind h.values)) None) (same_scalar kind is)

abbrev pub designated_scalar : LeafKind → (serial : ℕ) → (ℕ → List ℤ → BasicValue) → V.Designated
designated_scalar kind serial values =
    record {
      name = VariableName serial;
      generation = scalar_generation kind values;
      extent = pos 0;
      part = whole_part;
      subscripts = [];
    }

pub designated_is :
    (around : Around) {s : State} {x : Spot} {kind : LeafKind} (k : ℕ) → IsWorded kind → (h : Holds s x kind) →
    V.designated around (whole x) k s ≡ give (designated_scalar kind h.serial h.values) k s
unfolding V.designated V.located V.numbers V.variable_designated V.part_designated looked ◌>>=◌ ◌>>◌ R.or_error
    R.demanded choose give
designated_is around {s} {x} {kind} k is h =
    ap (λ o. flow_on k (R.or_error around 101 o k s)
    (λ b. V.part_designated around b.name b.shape whole_part [])) h.stands
    ∙ ap (λ o. flow_on k (R.or_error around 101 o k s)
    (λ g. ◌>>=◌ (R.or_error around 107 (V.extent_in_force g whole_part))
    (λ e. ◌>>◌ (R.demanded around 102 (is_within (take 0 (V.leaf_at (scalar_shape kind) e 0).bounds) []))
    (give (record {
      name = VariableName h.serial;
      generation = g;
      extent = e;
      part = whole_part;
      subscripts = [];
    }))))) (named_is is h)

-- its value
pub number_is :
    (around : Around) {s : State} {x : Spot} (precision k : ℕ) (z : ℤ) (h : Holds s x (Fixed precision)) →
    h.values 0 [] ≡ BasicNumber z → V.number around (Y.NumberIn (whole x)) k s ≡ Normal z s
unfolding V.number ◌>>=◌ give
number_is around {s} precision k z h value =
    ap (λ q. flow_on k q (λ d. give (number_in (V.value_in d)))) (designated_is around k tt h)
    ∙ ap (λ v. Normal (number_in v) s) value

pub bit_is :
    (around : Around) {s : State} {x : Spot} (k : ℕ) (b : Bool) (h : Holds s x Bit) → h.values 0 [] ≡ BasicBit b →
    V.bit around (Y.BitIn (whole x)) k s ≡ Normal b s
unfolding V.bit ◌>>=◌ give
bit_is around {s} k b h value =
    ap (λ q. flow_on k q (λ d. give (bit_in (V.value_in d)))) (designated_is around k tt h)
    ∙ ap (λ v. Normal (bit_in v) s) value

-- ---- an assignment

abbrev pub assigned_state : LeafKind → State → (serial : ℕ) → (ℕ → List ℤ → BasicValue) → BasicValue → State
assigned_state kind s serial values v =
    with_generation (VariableName serial) (P.with_element (designated_scalar kind serial values) v) s

pub assigned_is :
    (around : Around) {s : State} {x : Spot} {kind : LeafKind} (k : ℕ) (v : BasicValue) → IsWorded kind →
    (h : Holds s x kind) →
    M.assigned around (whole x) v k s ≡ Normal tt (assigned_state kind s h.serial h.values v)
unfolding M.assigned P.element_stored stored ◌>>=◌ give
assigned_is around {s} k v is h =
    ap (λ q. flow_on k q (λ d. P.element_stored d v)) (designated_is around k is h)
