-- A begin block where it stands: its code up to where it is entered, and what is known there.
use Rattle.std.specs.Prelude.{ℕ, ◌+◌, ◌^◌, ◌<◌, ◌≤◌, ◌≡◌, nat_lt, true, List, ◌∷◌, ◌++◌, length, None}
use Rattle.rv_meaning.specs.declared.instr.Instr.{Instr}
use Rattle.pli_meaning.specs.StorageState.{most_activations}
use Rattle.pli_serving.specs.ServiceState as S
use Rattle.pli_coding.specs.Assembly.{Code, size_of}
use Rattle.pli_coding.specs.Entries.{block_left, entered_without_texts, frame_begun, frame_ended}
use Rattle.pli_coding.specs.Frames.{fixed_size}
use Rattle.pli_coding.specs.Instructions.{move}
use Rattle.pli_coding.specs.Registers.{a0, frame_register}
use Rattle.run_steps.specs.Engine.{Base, most_code}
use Rattle.run_steps.specs.Items.{Linked}
use Rattle.run_steps.specs.Reach.{Family, Reach}
use Rattle.activation_relation.specs.Chains.{frame_at}
use Rattle.activation_relation.specs.Changes.{Keeps, popped}
use Rattle.activation_relation.specs.CodeStores.{most_levels}
use Rattle.activation_relation.specs.Entering.{BlockEnd, HoldsBefore}
use Rattle.activation_relation.specs.Frames.{frame_under, lower_end}
use Rattle.activation_relation.specs.Layers.{Layer, Point, services_of}
use Rattle.activation_relation.specs.PointLaws.{IsNext}
use Rattle.activation_relation.specs.Points.{Stands, Surroundings}
use Rattle.activation_relation.specs.ServiceLaws.{IsEntering}
use Rattle.block_runs.specs.Beginnings.{Beginning, begun_point}
use Rattle.block_runs.specs.Machines.{AreIn, IsImage, IsIn}

-- the layer is what its code makes, above all others; it saves no registers and goes nowhere back
pub record IsInner (w : Surroundings) (p : Point) (numbers : ℕ → ℕ) (x : Beginning) : Type 0 where
  pub next : IsNext w p x.head x.entry x.layer
  pub entering : IsEntering p x.layer 1 0
  pub shallow : nat_lt (length p.state.activations) most_activations ≡ true
  pub kind : x.layer.kind ≡ S.BeginBlock
  pub level : x.layer.level < most_levels
  pub line : x.head.line < 2 ^ 31
  pub back : x.layer.back ≤ most_code
  -- its static parent is the running block
  pub parent : frame_at p.control.layers x.entry.parent ≡ frame_under w.parts p.control.layers
  pub held : x.layer.held ≡ numbers
  pub saved : x.layer.saved ≡ 0
  -- nothing waits in its own words, and its part of the stacks is its frame
  pub waits : (n : ℕ) → x.layer.waits n ≡ None
  pub told : (n : ℕ) → x.layer.told n ≡ None
  pub list : x.layer.list ≡ None
  pub top : x.layer.top ≡ x.layer.at + fixed_size x.layer.level x.layer.parameters
  pub lower : x.layer.lower ≡ lower_end w.parts p.control.layers

abbrev pub inner_code : Beginning → Code
inner_code x =
    move a0 frame_register
    ∷ (frame_begun x.layer.words x.layer.level x.layer.parameters None ++ entered_without_texts 1 x.head.line)

pub record InnerBlocksBegin : Type 0 where
  -- from its code to its variables: each word costs one credit
  pub comes :
      (w : Surroundings) (code : List Instr) (p : Point) (numbers : ℕ → ℕ) (x : Beginning) (credits index : ℕ)
      (f : Family) → Stands w p × IsImage w code p × IsInner w p numbers x →
      Linked w.links code index (inner_code x) → AreIn w p numbers index f →
      Reach code credits f (services_of p) (credits + size_of (inner_code x)) (services_of (begun_point x p))
      (λ b y. IsIn w (begun_point x p) numbers (index + size_of (inner_code x)) b y)
  -- and what holds at a point holds at the new one
  pub stands :
      (w : Surroundings) (code : List Instr) (p : Point) (numbers : ℕ → ℕ) (x : Beginning) →
      Stands w p × IsImage w code p × IsInner w p numbers x →
      Stands w (begun_point x p) × IsImage w code (begun_point x p)

-- ---- its end

-- it goes on behind it, in the block around
abbrev pub inner_ending_code : Layer → Code
inner_ending_code φ = block_left 0 ++ frame_ended φ.words

-- above the others; what waits in registers stays
pub record IsInnerEnding (q : Point) (e : BlockEnd) : Type 0 where
  pub newest : q.control.layers ≡ e.layer ∷ e.others
  pub saved : e.layer.saved ≡ 0
  pub back : e.back ≡ e.index + size_of (inner_ending_code e.layer)
  pub holds : HoldsBefore e.layer e.before e.after
  pub texts : Keeps 0 e.layer.entries q.control.entries e.kept

pub record InnerBlocksEnd : Type 0 where
  -- from the code of its end to the instruction behind it
  pub comes :
      (w : Surroundings) (code : List Instr) (q : Point) (e : BlockEnd) (credits : ℕ) (f : Family) →
      Stands w q × IsImage w code q × IsInnerEnding q e → AreIn w q e.after e.index f →
      Linked w.links code e.index (inner_ending_code e.layer) →
      Reach code credits f (services_of q) (credits + size_of (inner_ending_code e.layer))
      (services_of (popped e.kept q)) (λ b y. IsIn w (popped e.kept q) e.before e.back b y)
  pub stands :
      (w : Surroundings) (code : List Instr) (q : Point) (e : BlockEnd) →
      Stands w q × IsImage w code q × IsInnerEnding q e →
      Stands w (popped e.kept q) × IsImage w code (popped e.kept q)
