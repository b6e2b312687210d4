-- What an element of an array means at a point of a block: the value that it holds, and the state after an assignment.
use Rattle.std.proofs.Common.{◌≡◌, ℕ, List, [], ◌∷◌, length, Some, None, Bool, true, refl, ap, ◌∙◌}
use Rattle.std.proofs.lemmas.Bool.{eq-eqb}
use Rattle.std.specs.Prelude.{ℤ, pos, cond, map, take, ◌&&◌}
use Rattle.pli_language.specs.Tree as T
use Rattle.pli_typing.specs.Signatures.{Bounds, PlainClass}
use Rattle.pli_typing.specs.TypedTree as Y
use Rattle.pli_meaning.specs.BasicValues.{BasicBit, BasicNumber, BasicValue, VariableName}
use Rattle.pli_meaning.specs.Contents.{Generation, Shape, bit_in, is_within, number_in, same_bounds, same_int}
use Rattle.pli_meaning.specs.Contents.{same_kind, same_shape}
use Rattle.pli_meaning.specs.Control.{Meaning, Normal, flow_on, give, looked, stored, ◌>>=◌, ◌>>◌}
use Rattle.pli_meaning.specs.DeclaredShapes.{bounds_of, shape_of}
use Rattle.pli_meaning.specs.Evaluating as V
use Rattle.pli_meaning.specs.Executing as M
use Rattle.pli_meaning.specs.Placing as P
use Rattle.pli_meaning.specs.Raising as R
use Rattle.pli_meaning.specs.Raising.{Around}
use Rattle.pli_meaning.specs.StorageState.{Binding, Living, State, generation_of, if_same_shape, living_of, named}
use Rattle.pli_meaning.specs.StorageState.{standing_for, with_generation}
use Rattle.pli_headline.proofs.Scalars.{IsNumeric}
use Rattle.expression_runs.specs.Variables.{Spot, variable_of, whole_part}
use Rattle.element_runs.specs.Arrays.{constant_bounds}
use Rattle.element_runs.proofs.Bounds.{number_itself}
use Rattle.scalar_runs.proofs.ScalarWords.{kind_for}
use Rattle.array_runs.specs.Arrays.{Grid, element, grid_declared}

-- ---- its shape

abbrev pub held_shape : Grid → Shape
held_shape g =
    record {
      signature = record {
        class = PlainClass;
        leaves = record { kind = kind_for g.type; bounds = g.bounds } ∷ [];
      };
      refer = None;
    }

bounds_same : (bs : List Bounds) → map (bounds_of []) (map constant_bounds bs) ≡ bs
bounds_same [] = refl
bounds_same (b ∷ bs) = ap (λ cs. b ∷ cs) (bounds_same bs)

pub shape_is : (g : Grid) (initial : List T.InitialItem) → shape_of [] (grid_declared g initial) ≡ held_shape g
shape_is g initial =
    ap (λ bs. record {
      signature = record {
        class = PlainClass;
        leaves = record { kind = kind_for g.type; bounds = bs } ∷ [];
      };
      refer = None;
    }) (bounds_same g.bounds)

abbrev pub held_generation : Grid → (ℕ → List ℤ → BasicValue) → Generation
held_generation g values = record { shape = held_shape g; extent = pos 0; values = values }

abbrev pub held_binding : Spot → Grid → (serial : ℕ) → Binding
held_binding x g serial = record { variable = x.index; name = VariableName serial; shape = held_shape g }

-- what stands in the state
pub record Holds (s : State) (x : Spot) (g : Grid) : Type 0 where
  pub serial : ℕ
  pub stands : standing_for s (variable_of x) ≡ Some (held_binding x g serial)
  pub values : ℕ → List ℤ → BasicValue
  pub living : Living
  pub lives : living_of s.living serial ≡ Some living
  pub generation : living.generation ≡ held_generation g values

bounds_themselves : (bs : List Bounds) → same_bounds bs bs ≡ true
bounds_themselves [] = refl
bounds_themselves (b ∷ bs) =
    ap (λ q. q && (same_int b.upper b.upper && same_bounds bs bs)) (number_itself b.lower)
    ∙ ap (λ q. q && same_bounds bs bs) (number_itself b.upper)
    ∙ bounds_themselves bs

kind_itself : (type : Y.LeafType) → IsNumeric type → same_kind (kind_for type) (kind_for type) ≡ true
kind_itself (Y.FixedLeaf p) is = eq-eqb p p refl
kind_itself Y.BitLeaf is = refl
kind_itself _ is = absurd is

same_grid : (g : Grid) → IsNumeric g.type → same_shape (held_shape g) (held_shape g) ≡ true
same_grid g is =
    ap (λ (q : Bool). (q && (same_bounds g.bounds g.bounds && true)) && true) (kind_itself g.type is)
    ∙ ap (λ (q : Bool). (q && true) && true) (bounds_themselves g.bounds)

pub named_is : {s : State} {x : Spot} {g : Grid} → IsNumeric g.type → (h : Holds s x g) →
    named s (VariableName h.serial) (held_shape g) ≡ Some (held_generation g h.values)
named_is {s} {g = g} is h =
    ap (λ o. if_same_shape (held_shape g) (generation_of o)) h.lives
    ∙ ap (λ c. if_same_shape (held_shape g) (Some c)) h.generation
    ∙ ap (λ t. cond t (Some (held_generation g h.values)) None) (same_grid g is)

abbrev pub designated_element : Grid → (serial : ℕ) → (ℕ → List ℤ → BasicValue) → List ℤ → V.Designated
designated_element g serial values zs =
    record {
      name = VariableName serial;
      generation = held_generation g values;
      extent = pos 0;
      part = whole_part;
      subscripts = zs;
    }

-- the subscripts come first
pub element_meant :
    (around : Around) (x : Spot) (xs : Y.Numbers) (k : ℕ) (u : State) →
    V.designated around (element x xs) k u
    ≡ flow_on k (V.numbers around xs k u) (λ zs. V.variable_designated around (variable_of x) None whole_part zs)
unfolding V.designated V.located ◌>>=◌ give
element_meant around x xs k u = refl

pub numbers_meant :
    (around : Around) (s : Y.Number) (rest : Y.Numbers) (k : ℕ) (u : State) →
    V.numbers around (Y.NumberThen s rest) k u
    ≡ flow_on k (V.number around s k u) (λ z. (V.numbers around rest) >>= (λ zs. give (z ∷ zs)))
unfolding V.numbers ◌>>=◌
numbers_meant around s rest k u = refl

pub rest_meant :
    (around : Around) (z : ℤ) (rest : Y.Numbers) (k : ℕ) (u : State) →
    ((V.numbers around rest) >>= (λ zs. give (z ∷ zs))) k u
    ≡ flow_on k (V.numbers around rest k u) (λ zs. give (z ∷ zs))
unfolding ◌>>=◌
rest_meant around z rest k u = refl

pub none_meant : (around : Around) (k : ℕ) (u : State) → V.numbers around Y.NoNumber k u ≡ Normal [] u
unfolding V.numbers give
none_meant around k u = refl

pub given_meant : (z : ℤ) (zs : List ℤ) (k : ℕ) (u : State) → give (z ∷ zs) k u ≡ Normal (z ∷ zs) u
unfolding give
given_meant z zs k u = refl

-- then the tests of their bounds
pub designated_is :
    (around : Around) {s : State} {x : Spot} {g : Grid} (k : ℕ) (zs : List ℤ) → IsNumeric g.type →
    take (length zs) g.bounds ≡ g.bounds → (h : Holds s x g) →
    V.variable_designated around (variable_of x) None whole_part zs k s
    ≡ flow_on k (R.demanded around 102 (is_within g.bounds zs) k s)
    (λ u. give (designated_element g h.serial h.values zs))
unfolding V.variable_designated V.part_designated looked ◌>>=◌ ◌>>◌ R.or_error give
designated_is around {s} {x} {g} k zs is all h =
    ap (λ o. flow_on k (R.or_error around 101 o k s)
    (λ n. V.part_designated around n.name n.shape whole_part zs)) h.stands
    ∙ ap (λ o. flow_on k (R.or_error around 101 o k s)
    (λ c. ◌>>=◌ (R.or_error around 107 (V.extent_in_force c whole_part))
    (λ e. ◌>>◌ (R.demanded around 102 (is_within (take (length zs) (V.leaf_at (held_shape g) e 0).bounds) zs))
    (give (record {
      name = VariableName h.serial;
      generation = c;
      extent = e;
      part = whole_part;
      subscripts = zs;
    }))))) (named_is is h)
    ∙ ap (λ bs. flow_on k (R.demanded around 102 (is_within bs zs) k s)
    (λ u. give (designated_element g h.serial h.values zs))) all

-- ---- its value

abbrev pub number_of : V.Designated → Meaning ℤ
number_of d = give (number_in (V.value_in d))

abbrev pub bit_of : V.Designated → Meaning Bool
bit_of d = give (bit_in (V.value_in d))

pub number_meant :
    (around : Around) (x : Spot) (xs : Y.Numbers) (k : ℕ) (u : State) →
    V.number around (Y.NumberIn (element x xs)) k u
    ≡ flow_on k (V.designated around (element x xs) k u) (λ d. number_of d)
unfolding V.number ◌>>=◌
number_meant around x xs k u = refl

pub bit_meant :
    (around : Around) (x : Spot) (xs : Y.Numbers) (k : ℕ) (u : State) →
    V.bit around (Y.BitIn (element x xs)) k u
    ≡ flow_on k (V.designated around (element x xs) k u) (λ d. bit_of d)
unfolding V.bit ◌>>=◌
bit_meant around x xs k u = refl

seen_number :
    (type : Y.LeafType) (bs : List Bounds) (serial : ℕ) (values : ℕ → List ℤ → BasicValue) (zs : List ℤ) (y : ℤ)
    (k : ℕ) (u : State) → IsNumeric type → values 0 zs ≡ BasicNumber y →
    number_of (designated_element (record { type = type; bounds = bs }) serial values zs) k u ≡ Normal y u
unfolding give
seen_number (Y.FixedLeaf p) bs serial values zs y k u is e = ap (λ v. Normal (number_in v) u) e
seen_number Y.BitLeaf bs serial values zs y k u is e = ap (λ v. Normal (number_in v) u) e
seen_number _ bs serial values zs y k u is e = absurd is

pub number_is :
    (g : Grid) (serial : ℕ) (values : ℕ → List ℤ → BasicValue) (zs : List ℤ) (y : ℤ) (k : ℕ) (u : State) →
    IsNumeric g.type → values 0 zs ≡ BasicNumber y →
    number_of (designated_element g serial values zs) k u ≡ Normal y u
number_is g serial values zs y k u is e = seen_number g.type g.bounds serial values zs y k u is e

seen_bit :
    (type : Y.LeafType) (bs : List Bounds) (serial : ℕ) (values : ℕ → List ℤ → BasicValue) (zs : List ℤ) (y : Bool)
    (k : ℕ) (u : State) → IsNumeric type → values 0 zs ≡ BasicBit y →
    bit_of (designated_element (record { type = type; bounds = bs }) serial values zs) k u ≡ Normal y u
unfolding give
seen_bit (Y.FixedLeaf p) bs serial values zs y k u is e = ap (λ v. Normal (bit_in v) u) e
seen_bit Y.BitLeaf bs serial values zs y k u is e = ap (λ v. Normal (bit_in v) u) e
seen_bit _ bs serial values zs y k u is e = absurd is

pub bit_is :
    (g : Grid) (serial : ℕ) (values : ℕ → List ℤ → BasicValue) (zs : List ℤ) (y : Bool) (k : ℕ) (u : State) →
    IsNumeric g.type → values 0 zs ≡ BasicBit y →
    bit_of (designated_element g serial values zs) k u ≡ Normal y u
bit_is g serial values zs y k u is e = seen_bit g.type g.bounds serial values zs y k u is e

-- ---- an assignment

abbrev pub assigned_state : State → Grid → (serial : ℕ) → (ℕ → List ℤ → BasicValue) → List ℤ → BasicValue → State
assigned_state s g serial values zs v =
    with_generation (VariableName serial) (P.with_element (designated_element g serial values zs) v) s

abbrev pub stored_in : BasicValue → V.Designated → Meaning (Unit {0})
stored_in v d = P.element_stored d v

pub assigned_meant :
    (around : Around) (x : Spot) (xs : Y.Numbers) (v : BasicValue) (k : ℕ) (u : State) →
    M.assigned around (element x xs) v k u
    ≡ flow_on k (V.designated around (element x xs) k u) (λ d. stored_in v d)
unfolding M.assigned ◌>>=◌
assigned_meant around x xs v k u = refl

pub assigned_is :
    (g : Grid) (serial : ℕ) (values : ℕ → List ℤ → BasicValue) (zs : List ℤ) (v : BasicValue) (k : ℕ) (u : State) →
    stored_in v (designated_element g serial values zs) k u ≡ Normal tt (assigned_state u g serial values zs v)
unfolding P.element_stored stored
assigned_is g serial values zs v k u = refl
