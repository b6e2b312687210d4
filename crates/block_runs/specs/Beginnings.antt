-- A procedure that a call enters: its code up to where its block is entered, and what is known where it is called.
use Rattle.std.specs.Prelude.{ℕ, List, ◌+◌, ◌*◌, ◌^◌, ◌<◌, ◌≤◌, ◌≡◌, nat_lt, true, [], ◌∷◌, ◌++◌, length, Some}
use Rattle.std.specs.Prelude.{None}
use Rattle.pli_typing.specs.TypedTree as Y
use Rattle.pli_meaning.specs.StorageState.{most_activations}
use Rattle.pli_meaning.specs.Raising.{Entry}
use Rattle.pli_serving.specs.ServiceState as S
use Rattle.pli_coding.specs.Assembly.{Code, CallTo, ProcedureEntry}
use Rattle.pli_coding.specs.Linking.{place_of}
use Rattle.run_steps.specs.Items.{Linked}
use Rattle.rv_meaning.specs.declared.instr.Instr.{Instr}
use Rattle.pli_coding.specs.Entries.{frame_begun, block_entered}
use Rattle.pli_coding.specs.Frames.{fixed_size}
use Rattle.pli_coding.specs.Instructions.{move}
use Rattle.pli_coding.specs.Registers.{a0, a1, a2, a3, u5, return_register}
use Rattle.rv_meaning.specs.Machine.{value}
use Rattle.image_runs.specs.Runs.{Whole}
use Rattle.run_steps.specs.Engine.{Base, most_code, address}
use Rattle.activation_relation.specs.Chains.{frame_at}
use Rattle.activation_relation.specs.Changes.{pushed}
use Rattle.activation_relation.specs.CodeStores.{most_levels}
use Rattle.activation_relation.specs.Frames.{lower_end}
use Rattle.activation_relation.specs.Layers.{Layer, Point}
use Rattle.activation_relation.specs.PointLaws.{IsNext}
use Rattle.activation_relation.specs.Points.{Surroundings}
use Rattle.activation_relation.specs.ServiceLaws.{IsEntering}

-- its head, what it is entered with, its layer, and how many texts its arguments have
pub record Beginning : Type 0 where
  pub head : Y.BlockHead
  pub entry : Entry
  pub layer : Layer
  pub texts : ℕ

-- the layer is what the code of the beginning makes, above all others
pub record IsBeginning (w : Surroundings) (p : Point) (numbers : ℕ → ℕ) (x : Beginning) : Type 0 where
  pub next : IsNext w p x.head x.entry x.layer
  pub entering : IsEntering p x.layer 0 x.texts
  pub shallow : nat_lt (length p.state.activations) most_activations ≡ true
  pub kind : x.layer.kind ≡ S.ProcedureBlock
  pub level : x.layer.level < most_levels
  pub line : x.head.line < 2 ^ 31
  pub few : x.texts < 2 ^ 32
  pub back : x.layer.back ≤ most_code
  -- the numbers that wait in registers, of which it saves some
  pub held : x.layer.held ≡ numbers
  pub words : (n : ℕ) → n < x.layer.saved → numbers n < 2 ^ 32
  -- nothing waits in its own words, and its part of the stacks is its frame
  pub waits : (n : ℕ) → x.layer.waits n ≡ None
  pub told : (n : ℕ) → x.layer.told n ≡ None
  pub list : x.layer.list ≡ None
  pub top : x.layer.top ≡ x.layer.at + fixed_size x.layer.level x.layer.parameters
  pub lower : x.layer.lower ≡ lower_end w.parts p.control.layers

abbrev pub begun_point : Beginning → Point → Point
begun_point x p = pushed x.head x.entry x.layer x.head.line p

-- a machine where it is called: in a0 the frame of its static parent, if it has one, and in a2 the number of texts
pub record IsCalling (p : Point) (x : Beginning) (b : Base) (y : Whole) : Type 0 where
  pub parent : 0 < x.layer.level → value y.machine a0 ≡ b.at + frame_at p.control.layers x.entry.parent
  pub texts : value y.machine a2 ≡ x.texts

-- and where it begins: it is told where it goes back
pub record IsCalled (p : Point) (x : Beginning) (b : Base) (y : Whole) : Type 0 where
  pub calling : IsCalling p x b y
  pub return : value y.machine return_register ≡ address b x.layer.back

-- its code, where it has no parameters
abbrev pub beginning_code : Beginning → Code
beginning_code x =
    frame_begun x.layer.words x.layer.level x.layer.parameters (Some x.layer.saved)
    ++ (move u5 a1 ∷ move a3 a2 ∷ block_entered 0 x.head.line)

-- it stands at an index, and so does the call, behind which the layer goes back
pub record CallStands (w : Surroundings) (code : List Instr) (x : Beginning) (call entry : ℕ) : Type 0 where
  pub calls : Linked w.links code call (CallTo (ProcedureEntry x.head.number) ∷ [])
  pub place : place_of w.links (ProcedureEntry x.head.number) ≡ 4 * entry
  pub begins : Linked w.links code entry (beginning_code x)
  pub back : x.layer.back ≡ call + 2
