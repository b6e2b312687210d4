-- What a variable begins with: nothing is given to it, or INITIAL values, whose lists are told at their places in
-- static data, so they stand at each point. Such a variable is made in the newest block, where service 7 is given that place.
use Rattle.std.specs.Prelude.{ℕ, ◌+◌, ◌*◌, ◌%◌, ◌^◌, ◌<◌, ◌≤◌, ◌≡◌, List, [], ◌∷◌, length, Option, None, Some, true, ⊤}
use Rattle.std.specs.Prelude.{nat_le, slice_index}
use Rattle.rv_meaning.specs.declared.instr.Instr.{Instr}
use Rattle.rv_meaning.specs.Machine.{memory_size}
use Rattle.pli_typing.specs.Signatures.{data_size}
use Rattle.pli_typing.specs.TypedTree as Y
use Rattle.pli_meaning.specs.Contents.{footprint_of}
use Rattle.pli_meaning.specs.Control.{Normal}
use Rattle.pli_meaning.specs.DeclaredShapes.{initial_of, shape_of}
use Rattle.pli_meaning.specs.Making.{variable_made}
use Rattle.pli_meaning.specs.StorageState.{automatic_in_use, most_automatic}
use Rattle.pli_serving.specs.Arguments.{capacity_of}
use Rattle.pli_serving.specs.InitialValues.{initial_values, none_initial}
use Rattle.pli_serving.specs.Templates.{shape_at}
use Rattle.pli_serving.specs.Values.{generation_bytes}
use Rattle.pli_coding.specs.Assembly.{ConstantBytes, Datum, InitialLeaf, InitialValues, NumberWord, StaticStorage}
use Rattle.pli_coding.specs.Assembly.{size_of}
use Rattle.pli_coding.specs.Entries.{constant_made}
use Rattle.pli_coding.specs.Environments.{Environment}
use Rattle.pli_coding.specs.Frames.{name_bytes}
use Rattle.pli_coding.specs.Locating.{table_number}
use Rattle.pli_coding.specs.StaticData.{PlacedDatum, datum_bytes, datum_place}
use Rattle.pli_coding.specs.StaticForms.{initial_datum}
use Rattle.storage_relation.specs.Beginning.{AllGiven, AllNoEmpty, place_if}
use Rattle.storage_relation.specs.Served.{Holds}
use Rattle.storage_relation.specs.Standing.{IsPlain, IsValued, leaves_of}
use Rattle.storage_relation.specs.Telling.{AllHaveValues}
use Rattle.activation_relation.specs.Layers.{Layer, Point, now, services_of}
use Rattle.activation_relation.specs.Points.{Surroundings, Stands}
use Rattle.activation_relation.specs.Variables.{with_made}
use Rattle.run_steps.specs.Engine.{call_at}
use Rattle.run_steps.specs.Items.{Linked}
use Rattle.run_steps.specs.Reach.{Family, Reach}
use Rattle.block_runs.specs.Machines.{AreIn, IsImage, IsIn}
use Rattle.program_runs.specs.Variables.{Declared, IsDeclared, generation_for, made_of, place_behind}

-- ---- what is told of static data

-- bytes are told from a place on, behind the code and before the stacks
pub record BytesTold (constants : ℕ → Option ℕ) (code : List Instr) (at : ℕ) (bytes : List ℕ) : Type 0 where
  pub behind_code : 4 * length code ≤ at
  pub inside : at + length bytes ≤ 7 * 2 ^ 20
  pub told : (n : ℕ) → n < length bytes → constants (at + n) ≡ Some (slice_index bytes n)

-- the values of each leaf that has some are told behind the start of the whole
abbrev pub ValuesTold :
    (ℕ → Option ℕ) → List Instr → (all : List PlacedDatum) → (start : ℕ) → List InitialLeaf → Type 0
ValuesTold constants code all start [] = ⊤
ValuesTold constants code all start (l ∷ ls) =
    ((start ≤ datum_place (ConstantBytes l.values) all)
    × BytesTold constants code (datum_place (ConstantBytes l.values) all)
    (datum_bytes all (datum_place (ConstantBytes l.values) all) (ConstantBytes l.values)))
    × ValuesTold constants code all start ls

-- INITIAL values that the leaves of a variable can be given: their lists, and the values to which these lead, are told
pub record HasInitial (constants : ℕ → Option ℕ) (code : List Instr) (all : List PlacedDatum) (d : Y.DeclaredVariable)
    (lists : List InitialLeaf) : Type 0 where
  pub given : AllGiven [] d.leaves
  pub some : AllNoEmpty (initial_of d)
  pub few : length d.leaves ≤ 2 ^ 32
  pub whole :
      BytesTold constants code (datum_place (InitialValues lists) all)
      (datum_bytes all (datum_place (InitialValues lists) all) (InitialValues lists))
  pub values : ValuesTold constants code all (datum_place (InitialValues lists) all) lists

-- by the datum that its code names
abbrev pub BeginsWith :
    (ℕ → Option ℕ) → List Instr → (all : List PlacedDatum) → Y.DeclaredVariable → Option Datum → Type 0
BeginsWith constants code all d None = none_initial (shape_of [] d).signature.leaves ≡ initial_of d
BeginsWith constants code all d (Some (InitialValues lists)) = HasInitial constants code all d lists
BeginsWith constants code all d (Some (ConstantBytes bytes)) = ⊥
BeginsWith constants code all d (Some (NumberWord block index)) = ⊥
BeginsWith constants code all d (Some (StaticStorage block index bytes)) = ⊥

abbrev pub Begins : (ℕ → Option ℕ) → List Instr → (all : List PlacedDatum) → Y.DeclaredVariable → Type 0
Begins constants code all d = BeginsWith constants code all d (initial_datum d)

-- ---- a variable

-- its name stands at the end of the frame, its data behind that, and the frame still fits between the stacks
pub record MayBeMade (w : Surroundings) (code : List Instr) (p : Point) (x : Declared) (φ : Layer) (φs : List Layer) :
    Type 0 where
  pub newest : p.control.layers ≡ φ ∷ φs
  pub here : φ.at + x.place ≡ φ.top
  pub holds : x.place + name_bytes + length (generation_bytes (generation_for x)) ≤ place_behind w.parts x
  pub size : x.place + name_bytes + data_size (shape_of [] x.declared).signature ≤ place_behind w.parts x
  pub fits : φ.at + place_behind w.parts x ≤ φ.lower
  pub even : (φ.at + place_behind w.parts x) % 16 ≡ 0
  pub low : p.places.low ≤ w.parts.stack_start
  -- the table has its signature, and what it begins with is told
  pub shape : shape_at p.places.signatures x.number ≡ Some (shape_of [] x.declared)
  pub number : x.number < 2 ^ 31
  pub initial : Begins p.places.constants code w.links.data' x.declared
  -- it is no area, and begins with values that it can keep
  pub plain : IsPlain (generation_for x)
  pub fixed : capacity_of (shape_of [] x.declared) ≡ None
  pub values : AllHaveValues (leaves_of (generation_for x))
  pub valued : IsValued (generation_for x)
  -- and doesn't pass the limit on what is AUTOMATIC
  pub limit : nat_le (automatic_in_use p.state.living + footprint_of (generation_for x)) most_automatic ≡ true

-- ---- the laws

-- service 7 reads what it begins with at the place of its datum, which is 0 where nothing is given to it
abbrev pub InitialRead : Type 0
InitialRead =
    (code : List Instr) (p : Point) (all : List PlacedDatum) (d : Y.DeclaredVariable) (m : List ℕ) →
    Begins p.places.constants code all d → 0 < length code → length m ≡ memory_size → Holds (now p m) →
    initial_values (call_at code (services_of p) m) (shape_of [] d).signature.leaves (place_if all (initial_datum d))
    ≡ Some (initial_of d)

pub record VariablesBegin : Type 0 where
  pub comes :
      (w : Surroundings) (code : List Instr) (e : Environment) (p : Point) (numbers : ℕ → ℕ) (x : Declared) (φ : Layer)
      (φs : List Layer) (credits index : ℕ) (f : Family) → Stands w p × IsImage w code p →
      MayBeMade w code p x φ φs → (table_number e x.declared ≡ x.number) × (e.parts ≡ w.parts) →
      Linked w.links code index (constant_made e x.place x.declared) → AreIn w p numbers index f →
      Reach code credits f (services_of p) (credits + size_of (constant_made e x.place x.declared))
      (services_of (with_made (made_of w.parts φ x) p))
      (λ b y. IsIn w (with_made (made_of w.parts φ x) p) numbers
      (index + size_of (constant_made e x.place x.declared)) b y)
  pub stands :
      (w : Surroundings) (code : List Instr) (p : Point) (x : Declared) (φ : Layer) (φs : List Layer) →
      Stands w p × IsImage w code p → MayBeMade w code p x φ φs →
      Stands w (with_made (made_of w.parts φ x) p) × IsImage w code (with_made (made_of w.parts φ x) p)
  -- that is what making it means
  pub means :
      (w : Surroundings) (code : List Instr) (p : Point) (x : Declared) (φ : Layer) (φs : List Layer) (acts : ℕ) →
      MayBeMade w code p x φ φs →
      variable_made x.index (generation_for x) acts p.state ≡ Normal tt (with_made (made_of w.parts φ x) p).state
  -- one to which nothing is given is one of these
  pub without :
      (w : Surroundings) (code : List Instr) (p : Point) (x : Declared) (φ : Layer) (φs : List Layer) →
      IsDeclared w p x φ φs → MayBeMade w code p x φ φs
