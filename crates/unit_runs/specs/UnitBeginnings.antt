-- Where a unit's block begins and ends: its code, and what is known where its raise comes to it. (X3.53-1976,
-- chapter 6, on-units.)
use Rattle.std.specs.Prelude.{ℕ, List, ◌+◌, ◌*◌, ◌^◌, ◌<◌, ◌≤◌, ◌≡◌, nat_lt, Bool, true, [], ◌∷◌, ◌++◌, length}
use Rattle.std.specs.Prelude.{Some, None}
use Rattle.rv_meaning.specs.declared.instr.Instr.{Instr}
use Rattle.rv_meaning.specs.Machine.{value}
use Rattle.image_runs.specs.Runs.{Whole}
use Rattle.pli_meaning.specs.StorageState.{most_activations}
use Rattle.pli_serving.specs.ServiceState as S
use Rattle.pli_coding.specs.Assembly.{Code, size_of}
use Rattle.pli_coding.specs.Entries.{entered_without_texts, frame_begun}
use Rattle.pli_coding.specs.Frames.{fixed_size}
use Rattle.pli_coding.specs.Registers.{a0, return_register}
use Rattle.pli_coding.specs.Statements.{unit_left}
use Rattle.activation_relation.specs.Chains.{frame_at}
use Rattle.activation_relation.specs.Changes.{Keeps, popped}
use Rattle.activation_relation.specs.CodeStores.{most_levels}
use Rattle.activation_relation.specs.Entering.{BlockEnd, HoldsBefore}
use Rattle.activation_relation.specs.Frames.{lower_end}
use Rattle.activation_relation.specs.Layers.{Layer, Point, services_of}
use Rattle.activation_relation.specs.PointLaws.{IsNext}
use Rattle.activation_relation.specs.Points.{Stands, Surroundings}
use Rattle.activation_relation.specs.ServiceLaws.{IsEntering}
use Rattle.run_steps.specs.Engine.{Base, address, most_code}
use Rattle.run_steps.specs.Items.{Linked}
use Rattle.run_steps.specs.Reach.{Family, Reach}
use Rattle.block_runs.specs.Beginnings.{Beginning, begun_point}
use Rattle.block_runs.specs.Machines.{AreIn, IsImage, IsIn}

-- ---- its beginning

-- the layer is what its code makes, above all others, while its raise waits; one more block may be active, or not
pub record IsUnitAt (may : Bool) (w : Surroundings) (p : Point) (numbers : ℕ → ℕ) (x : Beginning) : Type 0 where
  pub next : IsNext w p x.head x.entry x.layer
  pub entering : IsEntering p x.layer 2 0
  pub shallow : nat_lt (length p.state.activations) most_activations ≡ may
  -- for its condition's code, and it goes on where the raise said
  pub code : ℕ
  pub kind : x.layer.kind ≡ S.OnUnitBlock code (4 * x.layer.back)
  pub level : x.layer.level < most_levels
  pub line : x.head.line < 2 ^ 31
  pub back : x.layer.back ≤ most_code
  -- the numbers that wait in registers, of which it saves some
  pub held : x.layer.held ≡ numbers
  pub words : (n : ℕ) → n < x.layer.saved → numbers n < 2 ^ 32
  -- nothing waits in its own words, and its part of the stacks is its frame
  pub waits : (n : ℕ) → x.layer.waits n ≡ None
  pub told : (n : ℕ) → x.layer.told n ≡ None
  pub list : x.layer.list ≡ None
  pub top : x.layer.top ≡ x.layer.at + fixed_size x.layer.level x.layer.parameters
  pub lower : x.layer.lower ≡ lower_end w.parts p.control.layers

abbrev pub IsUnit : Surroundings → Point → (numbers : ℕ → ℕ) → Beginning → Type 0
IsUnit w p numbers x = IsUnitAt true w p numbers x

abbrev pub unit_beginning_code : Beginning → Code
unit_beginning_code x =
    frame_begun x.layer.words x.layer.level x.layer.parameters (Some x.layer.saved)
    ++ entered_without_texts 2 x.head.line

-- a machine at its first instruction: in a0 the frame of the block that established it, and where its raise goes on
pub record IsAtUnit (p : Point) (x : Beginning) (b : Base) (y : Whole) : Type 0 where
  pub parent : value y.machine a0 ≡ b.at + frame_at p.control.layers x.entry.parent
  pub return : value y.machine return_register ≡ address b x.layer.back

pub record UnitsBegin : Type 0 where
  -- from there to its variables: each word costs one credit
  pub comes :
      (w : Surroundings) (code : List Instr) (p : Point) (numbers : ℕ → ℕ) (x : Beginning) (credits index : ℕ)
      (f : Family) → Stands w p × IsImage w code p × IsUnit w p numbers x →
      Linked w.links code index (unit_beginning_code x) →
      ((b : Base) → IsIn w p numbers index b (f b) × IsAtUnit p x b (f b)) →
      Reach code credits f (services_of p) (credits + size_of (unit_beginning_code x)) (services_of (begun_point x p))
      (λ b y. IsIn w (begun_point x p) numbers (index + size_of (unit_beginning_code x)) b y)
  -- and what holds at a point holds at the new one
  pub stands :
      (w : Surroundings) (code : List Instr) (p : Point) (numbers : ℕ → ℕ) (x : Beginning) →
      Stands w p × IsImage w code p × IsUnit w p numbers x →
      Stands w (begun_point x p) × IsImage w code (begun_point x p)

-- ---- its end

abbrev pub unit_ending_code : Layer → Code
unit_ending_code φ = unit_left φ.words φ.saved

-- it goes back where its raise said, above the others
pub record IsUnitEnding (q : Point) (e : BlockEnd) : Type 0 where
  pub newest : q.control.layers ≡ e.layer ∷ e.others
  pub code : ℕ
  pub kind : e.layer.kind ≡ S.OnUnitBlock code (4 * e.back)
  pub back : e.back ≤ most_code
  pub holds : HoldsBefore e.layer e.before e.after
  pub texts : Keeps 0 e.layer.entries q.control.entries []
  pub kept : e.kept ≡ []

pub record UnitsEnd : Type 0 where
  -- from the code of its end to the instruction behind the raise: the numbers in registers are those that they were
  pub comes :
      (w : Surroundings) (code : List Instr) (q : Point) (e : BlockEnd) (credits : ℕ) (f : Family) →
      Stands w q × IsImage w code q × IsUnitEnding q e → AreIn w q e.after e.index f →
      Linked w.links code e.index (unit_ending_code e.layer) →
      Reach code credits f (services_of q) (credits + size_of (unit_ending_code e.layer))
      (services_of (popped e.kept q)) (λ b y. IsIn w (popped e.kept q) e.before e.back b y)
  pub stands :
      (w : Surroundings) (code : List Instr) (q : Point) (e : BlockEnd) →
      Stands w q × IsImage w code q × IsUnitEnding q e →
      Stands w (popped e.kept q) × IsImage w code (popped e.kept q)
