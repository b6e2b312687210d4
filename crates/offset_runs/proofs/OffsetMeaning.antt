-- What an OFFSET variable means at a point of a block: the offset that it holds, and the state after an assignment.
use Rattle.std.proofs.Common.{◌≡◌, ℕ, List, [], Some, None, Option, ap, ◌∙◌}
use Rattle.std.specs.Prelude.{ℤ, pos, take}
use Rattle.pli_typing.specs.Signatures.{Offset, scalar}
use Rattle.pli_typing.specs.TypedTree as Y
use Rattle.pli_meaning.specs.BasicValues.{BasicOffset, BasicValue, VariableName}
use Rattle.pli_meaning.specs.Contents.{Generation, Shape, is_within, offset_in}
use Rattle.pli_meaning.specs.Control.{Normal, choose, flow_on, give, looked, stored, ◌>>=◌, ◌>>◌}
use Rattle.pli_meaning.specs.Evaluating as V
use Rattle.pli_meaning.specs.Executing as M
use Rattle.pli_meaning.specs.Placing as P
use Rattle.pli_meaning.specs.Raising as R
use Rattle.pli_meaning.specs.Raising.{Around}
use Rattle.pli_meaning.specs.StorageState.{Binding, Living, State, generation_of, if_same_shape, living_of, named}
use Rattle.pli_meaning.specs.StorageState.{standing_for, with_generation}
use Rattle.expression_runs.specs.Variables.{Spot, variable_of, whole, whole_part}

abbrev pub offset_shape : Shape
offset_shape = record { signature = scalar Offset; refer = None }

abbrev pub offset_generation : (ℕ → List ℤ → BasicValue) → Generation
offset_generation values = record { shape = offset_shape; extent = pos 0; values = values }

abbrev pub offset_binding : Spot → (serial : ℕ) → Binding
offset_binding x serial = record { variable = x.index; name = VariableName serial; shape = offset_shape }

-- what stands in the state
pub record Holds (s : State) (x : Spot) : Type 0 where
  pub serial : ℕ
  pub stands : standing_for s (variable_of x) ≡ Some (offset_binding x serial)
  pub values : ℕ → List ℤ → BasicValue
  pub living : Living
  pub lives : living_of s.living serial ≡ Some living
  pub generation : living.generation ≡ offset_generation values
  pub offset : Option ℕ
  pub value : values 0 [] ≡ BasicOffset offset

named_is : {s : State} {x : Spot} (h : Holds s x) →
    named s (VariableName h.serial) offset_shape ≡ Some (offset_generation h.values)
named_is {s} h =
    ap (λ o. if_same_shape offset_shape (generation_of o)) h.lives
    ∙ ap (λ g. if_same_shape offset_shape (Some g)) h.generation

abbrev pub designated_offset : (serial : ℕ) → (ℕ → List ℤ → BasicValue) → V.Designated
designated_offset serial values =
    record {
      name = VariableName serial;
      generation = offset_generation values;
      extent = pos 0;
      part = whole_part;
      subscripts = [];
    }

pub designated_is :
    (around : Around) {s : State} {x : Spot} (k : ℕ) (h : Holds s x) →
    V.designated around (whole x) k s ≡ give (designated_offset h.serial h.values) k s
unfolding V.designated V.located V.numbers V.variable_designated V.part_designated looked ◌>>=◌ ◌>>◌ R.or_error
    R.demanded choose give
designated_is around {s} {x} k h =
    ap (λ o. flow_on k (R.or_error around 101 o k s)
    (λ b. V.part_designated around b.name b.shape whole_part [])) h.stands
    ∙ ap (λ o. flow_on k (R.or_error around 101 o k s)
    (λ g. ◌>>=◌ (R.or_error around 107 (V.extent_in_force g whole_part))
    (λ e. ◌>>◌ (R.demanded around 102 (is_within (take 0 (V.leaf_at offset_shape e 0).bounds) []))
    (give (record {
      name = VariableName h.serial;
      generation = g;
      extent = e;
      part = whole_part;
      subscripts = [];
    }))))) (named_is h)

-- the offset that it holds
pub offset_is :
    (around : Around) {s : State} {x : Spot} (k : ℕ) (h : Holds s x) →
    V.offset around (Y.OffsetIn (whole x)) k s ≡ Normal h.offset s
unfolding V.offset ◌>>=◌ give
offset_is around {s} k h =
    ap (λ q. flow_on k q (λ d. give (offset_in (V.value_in d)))) (designated_is around k h)
    ∙ ap (λ v. Normal (offset_in v) s) h.value

-- ---- an assignment

abbrev pub assigned_state : (s : State) {x : Spot} → Holds s x → Option ℕ → State
assigned_state s h o =
    with_generation (VariableName h.serial) (P.with_element (designated_offset h.serial h.values) (BasicOffset o)) s

pub assigned_is :
    (around : Around) {s : State} {x : Spot} (k : ℕ) (o : Option ℕ) (h : Holds s x) →
    M.assigned around (whole x) (BasicOffset o) k s ≡ Normal tt (assigned_state s h o)
unfolding M.assigned P.element_stored stored ◌>>=◌ give
assigned_is around {s} k o h =
    ap (λ q. flow_on k q (λ d. P.element_stored d (BasicOffset o))) (designated_is around k h)
