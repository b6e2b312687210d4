-- What an adjustable variable is made by, in two stretches: up to the bounds in registers, and from there on. Between
-- them the list of the extent's places has to stand in static data.
use Rattle.std.specs.Prelude.{ℕ, ◌+◌, ◌^◌, ◌<◌, ◌≤◌, ◌≡◌, List, [], ◌∷◌, ◌++◌}
use Rattle.rv_meaning.specs.declared.instr.Instr.{Instr}
use Rattle.pli_meaning.specs.Making.{extents}
use Rattle.pli_coding.specs.Allocating.{act_code}
use Rattle.pli_coding.specs.Assembly.{Code, DataPlace, Datum, size_of}
use Rattle.pli_coding.specs.Environments.{none_taken}
use Rattle.pli_coding.specs.Extents.{extent_words, filled_in}
use Rattle.pli_coding.specs.Linking.{place_of}
use Rattle.activation_relation.specs.Layers.{Layer, Point, services_of}
use Rattle.activation_relation.specs.Points.{Stands, Surroundings}
use Rattle.run_steps.specs.Engine.{Base}
use Rattle.run_steps.specs.Items.{Linked}
use Rattle.run_steps.specs.Numbers.{IsWide}
use Rattle.run_steps.specs.Reach.{Comes, Family, Reach, cost}
use Rattle.block_runs.specs.Machines.{AreIn, IsImage, IsIn, acted}
use Rattle.program_runs.specs.Statements.{Block, IsAmong, IsBegun}
use Rattle.expression_runs.specs.Laws as L
use Rattle.expression_runs.specs.Values.{HasRegisters, Setting, behind}
use Rattle.begin_runs.specs.BehindLists.{from_point}
use Rattle.argument_runs.specs.Lists.{with_list}
use Rattle.extent_runs.specs.Extents.{Extent, ExtentComes, bounded_code, evaluation_of, extent_aims}
use Rattle.extent_runs.specs.Placing.{IsPlacement, Placement, adjusted, placing_code}
use Rattle.extent_runs.specs.Signatures.{Filling, IsFilling}
use Rattle.extent_runs.specs.Words.{HasExtent, IsWaiting, answered_point, number_kept, number_waits}

-- ---- up to the bounds

-- the newest block's layer where its beginning ends, the line of its act, the number of the template, and the extent
pub record Evaluated : Type 0 where
  pub layer : Layer
  pub others : List Layer
  pub line : ℕ
  pub signature : ℕ
  pub extent : Extent

-- the point at which the extent is evaluated: behind the act, with the number in its word
abbrev pub evaluated_from : Evaluated → Point → Point
evaluated_from x p = with_list (number_waits x.signature) x.layer x.others (acted x.line p)

abbrev pub evaluating_code : Setting → Evaluated → Code
evaluating_code k x = act_code x.line ++ (number_kept x.signature ++ bounded_code k x.extent)

-- the block has begun where the act has been made, and its expression does what it means from the point that has the
-- number
pub record IsEvaluated (i : Block) (k : Setting) (x : Evaluated) (p : Point) (numbers : ℕ → ℕ) : Type 0 where
  pub begun :
      p.state.world.acts < i.call.surroundings.acts →
      IsBegun (from_point i (acted x.line p)) × IsAmong (from_point i (acted x.line p)) numbers (acted x.line p)
  pub newest : p.control.layers ≡ x.layer ∷ x.others
  pub block : k.block ≡ from_point i (evaluated_from x p)
  pub line : k.around.line ≡ x.line
  pub words : k.words ≡ extent_words
  pub room : 1 ≤ x.layer.words
  pub signature : x.signature < 2 ^ 31
  pub line_fits : x.line < 2 ^ 31
  pub acts : i.call.surroundings.acts + 1 < 2 ^ 64
  pub lower : IsWide x.extent.lower
  pub registers : HasRegisters k 0 x.extent.need
  pub errors : ExtentComes k
  pub does : L.Does k x.extent.need x.extent.value

-- the extents are their value, behind the act; or a raise has left them
abbrev pub ExtentsEvaluated : Type 0
ExtentsEvaluated =
    (i : Block) (k : Setting) (x : Evaluated) (p : Point) (numbers : ℕ → ℕ) (credits again index : ℕ) (f : Family) →
    Stands i.call.surroundings p × IsImage i.call.surroundings i.call.code p → IsEvaluated i k x p numbers →
    Linked i.call.surroundings.links i.call.code index (evaluating_code k x) →
    (credits + size_of (act_code x.line) ≤ cost i.call.code)
    × (again + size_of (number_kept x.signature) + size_of (bounded_code k x.extent) + k.most ≤ cost i.call.code) →
    AreIn i.call.surroundings p numbers index f →
    Comes i.call.code credits f (services_of p)
    (extent_aims k.block k.labels
    (behind (evaluated_from x p) numbers 0 (again + size_of (number_kept x.signature))
    (index + size_of (act_code x.line) + size_of (number_kept x.signature)) (bounded_code k x.extent))
    x.extent.lower)
    (extents k.around (evaluation_of x.extent ∷ []) i.call.surroundings.acts p.state)

-- ---- from there on

abbrev pub placed_from : Filling → Layer → List Layer → Placement → Point → Point
placed_from x φ φs z p = adjusted z.layer z.variable (answered_point x φ φs p)

abbrev pub ExtentsPlaced : Type 0
ExtentsPlaced =
    (w : Surroundings) (code : List Instr) (p : Point) (x : Filling) (φ : Layer) (φs : List Layer) (z : Placement)
    (numbers : ℕ → ℕ) (places : Datum) (credits index : ℕ) (f : Family) → Stands w p × IsImage w code p →
    IsFilling p x × IsWaiting p x φ φs → IsPlacement w (answered_point x φ φs p) z →
    (place_of w.links (DataPlace places) ≡ x.at) × (x.at < 2 ^ 32) →
    Linked w.links code index (filled_in none_taken places ++ placing_code z) →
    ((b : Base) → IsIn w p numbers index b (f b) × HasExtent p x (f b)) →
    Reach code credits f (services_of p) (credits + size_of (filled_in none_taken places ++ placing_code z))
    (services_of (placed_from x φ φs z p))
    (λ b y. IsIn w (placed_from x φ φs z p) numbers (index + size_of (filled_in none_taken places ++ placing_code z)) b
    y)
