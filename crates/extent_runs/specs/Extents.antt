-- An upper bound that is evaluated: its value, and that it is no less than the lower one. Four words of the frame are
-- set aside meanwhile.
use Rattle.std.specs.Prelude.{ℕ, ℤ, ◌+◌, ◌≤◌, ◌≡◌, int_le, List, [], ◌∷◌, ◌++◌, true}
use Rattle.rv_meaning.specs.Machine.{value}
use Rattle.rv_meaning.specs.Words.{word}
use Rattle.pli_typing.specs.TypedTree as Y
use Rattle.pli_meaning.specs.Codes.{extent_code}
use Rattle.pli_meaning.specs.Control.{Label}
use Rattle.pli_meaning.specs.Making.{evaluations}
use Rattle.pli_meaning.specs.Raising.{error}
use Rattle.pli_meaning.specs.StorageState.{State}
use Rattle.pli_serving.specs.ServiceState.{Services}
use Rattle.pli_coding.specs.Assembly.{Code, size_of}
use Rattle.pli_coding.specs.Environments.{none_taken, with_words}
use Rattle.pli_coding.specs.Expressions.{number_code}
use Rattle.pli_coding.specs.Extents.{bounds_checked, extent_words}
use Rattle.pli_coding.specs.Instructions.{error_raised}
use Rattle.pli_coding.specs.Registers.{a2, a3}
use Rattle.activation_relation.specs.Layers.{Point, services_of}
use Rattle.run_steps.specs.Items.{Linked}
use Rattle.run_steps.specs.Numbers.{IsWide}
use Rattle.run_steps.specs.Reach.{Aims, Comes, Family, Reach, cost}
use Rattle.block_runs.specs.Machines.{AreIn, IsIn, limits_of}
use Rattle.program_runs.specs.Statements.{Block, IsAmong, JumpsTo}
use Rattle.expression_runs.specs.Laws as L
use Rattle.expression_runs.specs.Values.{HasRegisters, Setting, Stretch, behind}
use Rattle.element_runs.specs.Subscripts.{IsUncaught, error_aims}

-- ---- one extent

-- its expression, the constant lower bound, and the registers that the expression needs
pub record Extent : Type 0 where
  pub value : Y.Number
  pub lower : ℤ
  pub need : ℕ

abbrev pub bounds_of : Extent → Y.Bounds
bounds_of x = record { lower = Y.ConstantExtent x.lower; upper = Y.EvaluatedExtent 0 }

abbrev pub evaluation_of : Extent → Y.Evaluation
evaluation_of x = record { value = x.value; check = Y.BoundsCheck (bounds_of x) }

-- ---- both bounds in registers

-- at a point of the block; no fewer acts have been made
pub record HasBounds (k : Block) (x : Stretch) (lower upper : ℕ) (credits : ℕ) (f : Family) (v : Services)
    (s : State) : Type 0 where
  pub point : Point
  pub numbers : ℕ → ℕ
  pub among : IsAmong k numbers point
  pub since : x.acts ≤ point.state.world.acts
  pub line : point.control.line ≡ x.line
  pub state : s ≡ point.state
  pub reach :
      Reach k.call.code credits f v x.wanted (services_of point)
      (λ b y. IsIn k.call.surroundings point numbers x.index b y
      × (value y.machine a2 ≡ lower) × (value y.machine a3 ≡ upper))

-- the extent is its value, which is no less than the lower bound; or it is left by a jump
abbrev pub extent_aims : Block → List Label → Stretch → (lower : ℤ) → Aims (List ℤ)
extent_aims k labels x lower =
    record {
      limits = limits_of k.call.surroundings;
      done = λ c f v values s.
          (z : ℤ) × (values ≡ z ∷ []) × IsWide z × (int_le lower z ≡ true)
          × HasBounds k x (word lower) (word z) c f v s;
      jumped = λ c f v height label s. JumpsTo k labels x.acts c f v height label s;
      returned = λ c f v values s. ⊥;
    }

abbrev pub tested_code : Extent → Code
tested_code x = bounds_checked (with_words extent_words none_taken) 0 (bounds_of x)

abbrev pub bounded_code : Setting → Extent → Code
bounded_code k x =
    number_code k.block.environment (with_words extent_words none_taken) x.value ++ tested_code x

-- ---- ERROR

-- an extent that can't be one comes to where a unit for ERROR jumps, or the run ends: as it means
abbrev pub ExtentComes : Setting → Type 0
ExtentComes k =
    (p : Point) (numbers : ℕ → ℕ) (credits index : ℕ) (f : Family) → IsAmong k.block numbers p →
    p.control.line ≡ k.around.line →
    Linked k.block.call.surroundings.links k.block.call.code index (error_raised extent_code) →
    credits + size_of (error_raised extent_code) + k.most ≤ cost k.block.call.code →
    AreIn k.block.call.surroundings p numbers index f →
    Comes k.block.call.code credits f (services_of p) (error_aims k.block k.labels p.state.world.acts)
    (error {R = Unit {0}} k.around extent_code k.block.call.surroundings.acts p.state)

-- where no unit is in force for it the run ends
abbrev pub ExtentsEnd : Type 0
ExtentsEnd = (k : Setting) → IsUncaught k → ExtentComes k

-- ---- the law

-- if its expression does what it means, so does the extent: a call or a raise in it comes behind it, or leaves it
abbrev pub ExtentsDo : Type 0
ExtentsDo =
    (k : Setting) (x : Extent) → k.words ≡ extent_words → IsWide x.lower → ExtentComes k → L.Does k x.need x.value →
    (p : Point) (numbers : ℕ → ℕ) (credits index : ℕ) (f : Family) → IsAmong k.block numbers p →
    p.control.line ≡ k.around.line → HasRegisters k 0 x.need →
    Linked k.block.call.surroundings.links k.block.call.code index (bounded_code k x) →
    credits + size_of (bounded_code k x) + k.most ≤ cost k.block.call.code →
    AreIn k.block.call.surroundings p numbers index f →
    Comes k.block.call.code credits f (services_of p)
    (extent_aims k.block k.labels (behind p numbers 0 credits index (bounded_code k x)) x.lower)
    (evaluations k.around [] (evaluation_of x ∷ []) k.block.call.surroundings.acts p.state)
