-- A variable of constant size and without INITIAL values is made in the newest block.
use Rattle.std.specs.Prelude.{ℕ, ◌+◌, ◌%◌, ◌^◌, ◌<◌, ◌≤◌, ◌≡◌, List, [], ◌∷◌, length, pos, min, true, None, Some}
use Rattle.std.specs.Prelude.{nat_le}
use Rattle.rv_meaning.specs.declared.instr.Instr.{Instr}
use Rattle.pli_typing.specs.Signatures.{data_size}
use Rattle.pli_typing.specs.TypedTree as Y
use Rattle.pli_meaning.specs.Contents.{Generation, fresh, footprint_of}
use Rattle.pli_meaning.specs.Control.{Normal}
use Rattle.pli_meaning.specs.DeclaredShapes.{initial_of, shape_of, variables_of_block}
use Rattle.pli_meaning.specs.Making.{variable_made}
use Rattle.pli_meaning.specs.StorageState.{automatic_in_use, most_automatic}
use Rattle.pli_serving.specs.Arguments.{capacity_of}
use Rattle.pli_serving.specs.InitialValues.{none_initial}
use Rattle.pli_serving.specs.Templates.{shape_at}
use Rattle.pli_serving.specs.Values.{generation_bytes}
use Rattle.pli_coding.specs.Assembly.{size_of}
use Rattle.pli_coding.specs.Entries.{constant_made}
use Rattle.pli_coding.specs.Environments.{Environment}
use Rattle.pli_coding.specs.Frames.{MemoryParts, frame_bytes, last_place, name_bytes}
use Rattle.pli_coding.specs.Locating.{table_number}
use Rattle.pli_coding.specs.StaticForms.{initial_datum}
use Rattle.storage_relation.specs.Standing.{IsPlain, IsValued, leaves_of}
use Rattle.storage_relation.specs.Telling.{AllHaveValues}
use Rattle.activation_relation.specs.Layers.{Layer, Point, services_of}
use Rattle.activation_relation.specs.Points.{Surroundings, Stands}
use Rattle.activation_relation.specs.Variables.{Made, with_made}
use Rattle.run_steps.specs.Items.{Linked}
use Rattle.run_steps.specs.Reach.{Family, Reach}
use Rattle.block_runs.specs.Machines.{AreIn, IsImage, IsIn}
use Rattle.program_runs.specs.Calls.{AreMade, Callee, begun_at}
use Rattle.program_runs.specs.Procedures.{layer_for}
use Rattle.program_runs.specs.Statements.{Block, IsAmong, IsBegun}

-- its index among the variables of its block, its declaration, the number of its signature, and where its name stands
-- in the frame
pub record Declared : Type 0 where
  pub index : ℕ
  pub declared : Y.DeclaredVariable
  pub number : ℕ
  pub place : ℕ

abbrev pub generation_for : Declared → Generation
generation_for x = fresh (shape_of [] x.declared) (pos 0) (initial_of x.declared)

-- where the frame goes on behind it
abbrev pub place_behind : MemoryParts → Declared → ℕ
place_behind parts x = min last_place (x.place + frame_bytes parts x.declared)

-- what becomes of the newest block, whose layer is given
abbrev pub made_of : MemoryParts → Layer → Declared → Made
made_of parts φ x =
    record {
      variable = x.index;
      generation = generation_for x;
      place = φ.at + (x.place + name_bytes);
      number = x.number;
      top = φ.at + place_behind parts x;
      lower = φ.lower;
      told = φ.told;
    }

-- its name stands at the end of the frame, its data behind that, and the frame still fits between the stacks
pub record IsDeclared (w : Surroundings) (p : Point) (x : Declared) (φ : Layer) (φs : List Layer) : Type 0 where
  pub newest : p.control.layers ≡ φ ∷ φs
  pub here : φ.at + x.place ≡ φ.top
  pub holds : x.place + name_bytes + length (generation_bytes (generation_for x)) ≤ place_behind w.parts x
  pub size : x.place + name_bytes + data_size (shape_of [] x.declared).signature ≤ place_behind w.parts x
  pub fits : φ.at + place_behind w.parts x ≤ φ.lower
  pub even : (φ.at + place_behind w.parts x) % 16 ≡ 0
  pub low : p.places.low ≤ w.parts.stack_start
  -- the table has its signature, and nothing is given to it
  pub shape : shape_at p.places.signatures x.number ≡ Some (shape_of [] x.declared)
  pub number : x.number < 2 ^ 31
  pub initial : initial_datum x.declared ≡ None
  pub none : none_initial (shape_of [] x.declared).signature.leaves ≡ initial_of x.declared
  -- it is no area, and begins with values that it can keep
  pub plain : IsPlain (generation_for x)
  pub fixed : capacity_of (shape_of [] x.declared) ≡ None
  pub values : AllHaveValues (leaves_of (generation_for x))
  pub valued : IsValued (generation_for x)
  -- and doesn't pass the limit on what is AUTOMATIC
  pub limit : nat_le (automatic_in_use p.state.living + footprint_of (generation_for x)) most_automatic ≡ true

pub record VariablesMade : Type 0 where
  pub comes :
      (w : Surroundings) (code : List Instr) (e : Environment) (p : Point) (numbers : ℕ → ℕ) (x : Declared) (φ : Layer)
      (φs : List Layer) (credits index : ℕ) (f : Family) → Stands w p × IsImage w code p → IsDeclared w p x φ φs →
      (table_number e x.declared ≡ x.number) × (e.parts ≡ w.parts) →
      Linked w.links code index (constant_made e x.place x.declared) → AreIn w p numbers index f →
      Reach code credits f (services_of p) (credits + size_of (constant_made e x.place x.declared))
      (services_of (with_made (made_of w.parts φ x) p))
      (λ b y. IsIn w (with_made (made_of w.parts φ x) p) numbers
      (index + size_of (constant_made e x.place x.declared)) b y)
  pub stands :
      (w : Surroundings) (code : List Instr) (p : Point) (x : Declared) (φ : Layer) (φs : List Layer) →
      Stands w p × IsImage w code p → IsDeclared w p x φ φs →
      Stands w (with_made (made_of w.parts φ x) p) × IsImage w code (with_made (made_of w.parts φ x) p)
  -- that is what making it means
  pub means :
      (w : Surroundings) (p : Point) (x : Declared) (φ : Layer) (φs : List Layer) (acts : ℕ) → IsDeclared w p x φ φs →
      variable_made x.index (generation_for x) acts p.state ≡ Normal tt (with_made (made_of w.parts φ x) p).state

-- ---- a procedure with one variable

abbrev pub first_made : MemoryParts → Declared → List Layer → Point → Point
first_made parts x [] p = p
first_made parts x (φ ∷ φs) p = with_made (made_of parts φ x) p

abbrev pub newest_made : MemoryParts → Declared → Point → Point
newest_made parts x p = first_made parts x p.control.layers p

-- the program declares it so, and its code is that
pub record IsOnly (w : Surroundings) (c : Callee) (p : Point) (numbers : ℕ → ℕ) (x : Declared) : Type 0 where
  pub kind : c.procedure.head.kind ≡ Y.ProcedureBlock
  pub variables : variables_of_block c.around.program c.procedure.head.number ≡ x.declared ∷ []
  pub class : x.declared.class ≡ Y.AutomaticClass
  pub evaluations : x.declared.evaluations ≡ []
  pub first : x.index ≡ 0
  pub code : c.procedure.variables ≡ constant_made c.environment x.place x.declared
  pub made : c.made ≡ newest_made w.parts x
  pub table : table_number c.environment x.declared ≡ x.number
  pub parts : c.environment.parts ≡ w.parts
  pub few : 1 ≤ w.serials
  pub declared :
      IsDeclared w (begun_at w c p numbers) x (layer_for w p numbers c.procedure c.calling) p.control.layers

abbrev pub OneMade : Type 0
OneMade =
    (w : Surroundings) (code : List Instr) (c : Callee) (p : Point) (numbers : ℕ → ℕ) (x : Declared) →
    IsOnly w c p numbers x → AreMade w code c p numbers

-- what holds of it at a block's first statement holds at each of the block's points
abbrev pub OneAmong : Type 0
OneAmong =
    (k : Block) (c : Callee) (x : Declared) (p : Point) (numbers held : ℕ → ℕ) → IsBegun k → IsAmong k numbers p →
    IsOnly k.call.surroundings c k.first held x → IsOnly k.call.surroundings c p held x
