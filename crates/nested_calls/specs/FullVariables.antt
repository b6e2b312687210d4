-- Variables that pass the limit on what is AUTOMATIC: the run ends where the first of them would be made.
use Rattle.std.specs.Prelude.{ℕ, ◌+◌, ◌^◌, ◌<◌, ◌≤◌, ◌≡◌, List, [], ◌∷◌, Some, None, nat_le, false}
use Rattle.rv_meaning.specs.declared.instr.Instr.{Instr}
use Rattle.pli_meaning.specs.Contents.{footprint_of}
use Rattle.pli_meaning.specs.Control.{finish}
use Rattle.pli_meaning.specs.DeclaredShapes.{shape_of}
use Rattle.pli_meaning.specs.Executing.{block_variables_made}
use Rattle.pli_meaning.specs.Raising.{at_line}
use Rattle.pli_meaning.specs.StorageState.{State, automatic_in_use, most_automatic}
use Rattle.pli_meaning.specs.World.{ending}
use Rattle.pli_meaning.specs.declared.outcome.End.{End}
use Rattle.pli_meaning.specs.declared.outcome.End.TheVariants as E
use Rattle.pli_meaning.specs.declared.outcome.Limit.TheVariants as L
use Rattle.pli_serving.specs.ServiceState.{Services}
use Rattle.pli_serving.specs.Templates.{shape_at}
use Rattle.pli_coding.specs.Assembly.{size_of}
use Rattle.pli_coding.specs.Entries.{constant_made}
use Rattle.pli_coding.specs.Environments.{Environment}
use Rattle.pli_coding.specs.Frames.{name_bytes}
use Rattle.pli_coding.specs.Locating.{table_number}
use Rattle.activation_relation.specs.Layers.{Layer, Point, services_of}
use Rattle.activation_relation.specs.Points.{Stands, Surroundings}
use Rattle.run_steps.specs.Items.{Linked}
use Rattle.run_steps.specs.Reach.{Ending, Family, Pausing, cost}
use Rattle.block_runs.specs.Machines.{AreIn, IsImage}
use Rattle.program_runs.specs.Calls.{Callee, begun_at, variables_index}
use Rattle.program_runs.specs.Initial.{Begins}
use Rattle.program_runs.specs.Variables.{Declared, generation_for}

-- ---- the end of a run

-- it ends, or pauses before its last act, as the meaning does
pub record Over (code : List Instr) (credits : ℕ) (f : Family) (v : Services) (end : End) (s : State) : Type 0 where
  pub paused : Services
  pub paused_is : paused.world ≡ s.world
  pub pausing : Pausing code credits f v paused
  pub ended : Services
  pub ended_is : ended.world ≡ ending end s.world
  pub ending_there : Ending code credits f v ended

-- ---- one variable

-- as it is declared, in the newest block, where it passes the limit
pub record PassesLimit (w : Surroundings) (code : List Instr) (p : Point) (x : Declared) (φ : Layer) (φs : List Layer) :
    Type 0 where
  pub newest : p.control.layers ≡ φ ∷ φs
  pub inside : φ.at + (x.place + name_bytes) < 2 ^ 24
  pub shape : shape_at p.places.signatures x.number ≡ Some (shape_of [] x.declared)
  pub number : x.number < 2 ^ 31
  pub initial : Begins p.places.constants code w.links.data' x.declared
  pub limit : nat_le (automatic_in_use p.state.living + footprint_of (generation_for x)) most_automatic ≡ false

abbrev pub VariablesEnd : Type 0
VariablesEnd =
    (w : Surroundings) (code : List Instr) (e : Environment) (p : Point) (numbers : ℕ → ℕ) (x : Declared) (φ : Layer)
    (φs : List Layer) (credits index : ℕ) (f : Family) → Stands w p × IsImage w code p →
    PassesLimit w code p x φ φs →
    (table_number e x.declared ≡ x.number) × (e.parts ≡ w.parts) →
    (credits + size_of (constant_made e x.place x.declared) ≤ cost code) × (w.acts + 1 < 2 ^ 64) →
    Linked w.links code index (constant_made e x.place x.declared) → AreIn w p numbers index f →
    Over code credits f (services_of p) (E.Limit L.Automatic) p.state

-- ---- those of a procedure, where it is called

pub record AreFull (w : Surroundings) (code : List Instr) (c : Callee) (p : Point) (numbers : ℕ → ℕ) : Type 0 where
  pub state : State
  pub means :
      block_variables_made (at_line c.around c.procedure.head.line) c.procedure.head c.procedure.head.kind w.acts
      (begun_at w c p numbers).state
      ≡ finish (E.Limit L.Automatic) w.acts state
  pub ends :
      (credits : ℕ) (f : Family) → Stands w (begun_at w c p numbers) × IsImage w code (begun_at w c p numbers) →
      credits + size_of c.procedure.variables ≤ cost code →
      Linked w.links code (variables_index c) c.procedure.variables →
      AreIn w (begun_at w c p numbers) numbers (variables_index c) f →
      Over code credits f (services_of (begun_at w c p numbers)) (E.Limit L.Automatic) state
