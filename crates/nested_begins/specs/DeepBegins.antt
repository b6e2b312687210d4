-- BEGIN where as many blocks are active as may be.
use Rattle.std.specs.Prelude.{ℕ, suc, ◌+◌, ◌^◌, ◌<◌, ◌≤◌, ◌≡◌, nat_lt, false, length, None, List}
use Rattle.pli_meaning.specs.Control.{Label}
use Rattle.pli_meaning.specs.Executing.{entered}
use Rattle.pli_meaning.specs.StorageState.{most_activations}
use Rattle.pli_serving.specs.ServiceState as S
use Rattle.pli_coding.specs.Entries.{variables_code}
use Rattle.pli_coding.specs.Environments.{none_taken}
use Rattle.pli_coding.specs.Frames.{fixed_size, temporary_bytes}
use Rattle.pli_coding.specs.Statements.{block_words, stmt_code}
use Rattle.activation_relation.specs.Chains.{frame_at}
use Rattle.activation_relation.specs.CodeStores.{most_levels}
use Rattle.activation_relation.specs.Frames.{frame_under, lower_end, upper_top}
use Rattle.activation_relation.specs.Layers.{Point}
use Rattle.activation_relation.specs.PointLaws.{IsNext}
use Rattle.activation_relation.specs.Points.{Surroundings}
use Rattle.activation_relation.specs.ServiceLaws.{IsEntering}
use Rattle.run_steps.specs.Engine.{most_code}
use Rattle.run_steps.specs.Items.{Linked}
use Rattle.block_runs.specs.Beginnings.{Beginning}
use Rattle.program_runs.specs.Statements.{Block, Does, HasAct, IsBegun}
use Rattle.begin_runs.specs.BeginBlocks.{Inner, begin_of, environment_of}

-- all that the beginning of a begin block asks of a point, but that one more block may be active
pub record IsDeepInner (w : Surroundings) (p : Point) (numbers : ℕ → ℕ) (x : Beginning) : Type 0 where
  pub next : IsNext w p x.head x.entry x.layer
  pub entering : IsEntering p x.layer 1 0
  pub full : nat_lt (length p.state.activations) most_activations ≡ false
  pub kind : x.layer.kind ≡ S.BeginBlock
  pub level : x.layer.level < most_levels
  pub line : x.head.line < 2 ^ 31
  pub back : x.layer.back ≤ most_code
  pub parent : frame_at p.control.layers x.entry.parent ≡ frame_under w.parts p.control.layers
  pub held : x.layer.held ≡ numbers
  pub saved : x.layer.saved ≡ 0
  pub waits : (n : ℕ) → x.layer.waits n ≡ None
  pub told : (n : ℕ) → x.layer.told n ≡ None
  pub list : x.layer.list ≡ None
  pub top : x.layer.top ≡ x.layer.at + fixed_size x.layer.level x.layer.parameters
  pub lower : x.layer.lower ≡ lower_end w.parts p.control.layers

-- the statement where its frame has room
pub record IsDeepBegin (k : Block) (x : Inner) (index more : ℕ) : Type 0 where
  pub act : HasAct k x.head.line
  pub begun : IsBegun k
  pub statement :
      Linked k.call.surroundings.links k.call.code index (stmt_code k.environment none_taken (begin_of x))
  pub words : block_words k.environment x.head.number x.body ≡ x.words
  pub variables : variables_code (environment_of k x) x.head.line ≡ x.variables
  pub level : x.head.level ≡ suc k.call.beginning.layer.level
  pub few : x.head.level < most_levels
  pub room :
      upper_top k.call.surroundings.parts k.first.control.layers + temporary_bytes x.words + fixed_size x.head.level 0
      ≤ lower_end k.call.surroundings.parts k.first.control.layers
  pub deep : nat_lt (length k.first.state.activations) most_activations ≡ false
  pub enter : k.around.enter ≡ entered k.around.program (suc more)

-- it ends the run
abbrev pub DeepBeginsEnd : Type 0
DeepBeginsEnd =
    (k : Block) (labels : List Label) (x : Inner) (index left' more : ℕ) → IsDeepBegin k x index more →
    Does k labels (begin_of x) index left'
