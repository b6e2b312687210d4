-- A variable whose size the run tells passes the limit on what is AUTOMATIC: the run ends where it would be made,
-- whether the stacks have room for it or not.
use Rattle.std.specs.Prelude.{ℕ, ◌+◌, ◌^◌, ◌<◌, ◌≤◌, ◌≡◌, List, ◌∷◌, ◌++◌, nat_le, false, None, Some}
use Rattle.rv_meaning.specs.declared.instr.Instr.{Instr}
use Rattle.rv_meaning.specs.Machine.{value}
use Rattle.pli_meaning.specs.Contents.{footprint_of}
use Rattle.pli_meaning.specs.Control.{finish}
use Rattle.pli_meaning.specs.Making.{variable_made}
use Rattle.pli_meaning.specs.StorageState.{automatic_in_use, most_automatic}
use Rattle.pli_meaning.specs.declared.outcome.End.TheVariants as E
use Rattle.pli_meaning.specs.declared.outcome.Limit.TheVariants as L
use Rattle.pli_serving.specs.Templates.{shape_at}
use Rattle.pli_coding.specs.Assembly.{DataPlace, Datum, size_of}
use Rattle.pli_coding.specs.Environments.{none_taken}
use Rattle.pli_coding.specs.Extents.{filled_in}
use Rattle.pli_coding.specs.Linking.{place_of}
use Rattle.pli_coding.specs.Registers.{a2, a3}
use Rattle.pli_coding.specs.StaticForms.{initial_datum}
use Rattle.activation_relation.specs.Layers.{Layer, Point, services_of}
use Rattle.activation_relation.specs.Points.{Stands, Surroundings}
use Rattle.run_steps.specs.Engine.{Base}
use Rattle.run_steps.specs.Items.{Linked}
use Rattle.run_steps.specs.Reach.{Family, cost}
use Rattle.block_runs.specs.Machines.{AreIn, IsImage, IsIn}
use Rattle.program_runs.specs.Statements.{Block, IsAmong}
use Rattle.nested_calls.specs.FullVariables.{Over}
use Rattle.extent_runs.specs.Lists.{HasPlaces}
use Rattle.extent_runs.specs.Placing.{Adjustable, Placement, generation_of, placing_code}
use Rattle.extent_runs.specs.Signatures.{Filling, IsFilling}
use Rattle.extent_runs.specs.Words.{IsWaiting, answered_point}

pub record PassesLimit (p : Point) (x : Adjustable) (φ : Layer) (φs : List Layer) : Type 0 where
  pub newest : p.control.layers ≡ φ ∷ φs
  pub here : φ.at + x.place ≡ φ.top
  pub shape : shape_at p.places.signatures x.number ≡ Some x.shape
  pub limit : nat_le (automatic_in_use p.state.living + footprint_of (generation_of x)) most_automatic ≡ false

-- number and bytes wait in words of the frame, as where it fits
pub record IsPassing (p : Point) (z : Placement) : Type 0 where
  pub is : PassesLimit p z.variable z.layer z.others
  pub initial : initial_datum z.declared ≡ None
  pub words : 2 ≤ z.layer.words
  pub number : z.layer.waits 0 ≡ Some z.variable.number
  pub bytes : z.layer.waits 1 ≡ Some z.variable.bytes

pub record AdjustablesEnd : Type 0 where
  -- that is what making it means
  pub means :
      (p : Point) (x : Adjustable) (φ : Layer) (φs : List Layer) (acts : ℕ) → PassesLimit p x φ φs →
      variable_made x.index (generation_of x) acts p.state ≡ finish (E.Limit L.Automatic) acts p.state
  -- and what its code does
  pub ends :
      (w : Surroundings) (code : List Instr) (p : Point) (numbers : ℕ → ℕ) (z : Placement) (credits index : ℕ)
      (f : Family) → Stands w p × IsImage w code p → IsPassing p z →
      (credits + size_of (placing_code z) ≤ cost code) × (w.acts + 1 < 2 ^ 64) →
      Linked w.links code index (placing_code z) → AreIn w p numbers index f →
      Over code credits f (services_of p) (E.Limit L.Automatic) p.state
  -- from both bounds in registers on, where the list of the extent's places stands in static data
  pub bounds :
      (k : Block) (p : Point) (x : Filling) (φ : Layer) (φs : List Layer) (z : Placement) (numbers : ℕ → ℕ)
      (places : Datum) (credits index : ℕ) (f : Family) → IsAmong k numbers p → HasPlaces k x →
      IsFilling p x × IsWaiting p x φ φs → IsPassing (answered_point x φ φs p) z →
      place_of k.call.surroundings.links (DataPlace places) ≡ x.at →
      (credits + size_of (filled_in none_taken places ++ placing_code z) ≤ cost k.call.code)
      × (k.call.surroundings.acts + 1 < 2 ^ 64) →
      Linked k.call.surroundings.links k.call.code index (filled_in none_taken places ++ placing_code z) →
      ((b : Base) → IsIn k.call.surroundings p numbers index b (f b)
      × (value (f b).machine a2 ≡ x.lower) × (value (f b).machine a3 ≡ x.upper)) →
      Over k.call.code credits f (services_of p) (E.Limit L.Automatic) p.state
