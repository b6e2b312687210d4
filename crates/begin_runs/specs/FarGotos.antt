-- GOTO to a label of a block further out.
use Rattle.std.specs.Prelude.{ℕ, ◌+◌, ◌*◌, ◌<◌, ◌≤◌, ◌≡◌, true, List, ◌∷◌, length, drop}
use Rattle.pli_typing.specs.TypedTree as Y
use Rattle.pli_meaning.specs.Control.{Label, is_among}
use Rattle.pli_meaning.specs.StorageState.{ancestor_at, height_of}
use Rattle.pli_coding.specs.Assembly.{LabelPlace}
use Rattle.pli_coding.specs.Environments.{block_around, none_taken}
use Rattle.pli_coding.specs.Frames.{frame_end}
use Rattle.pli_coding.specs.Linking.{place_of}
use Rattle.pli_coding.specs.Registers.{held_registers}
use Rattle.pli_coding.specs.Statements.{stmt_code}
use Rattle.activation_relation.specs.CodeStores.{most_levels}
use Rattle.activation_relation.specs.Frames.{frame_under, upper_top}
use Rattle.run_steps.specs.Engine.{most_code}
use Rattle.run_steps.specs.Items.{Linked}
use Rattle.program_runs.specs.Statements.{Block, Does, HasAct, IsBegun, Outer}

-- a block further out, behind so many others, the level of its frame, a label of it and where that stands
pub record Far : Type 0 where
  pub behind : ℕ
  pub outer : Outer
  pub rest : List Outer
  pub level : ℕ
  pub label : Label
  pub at : ℕ

-- it is carrying out a list with the label, and is the static ancestor of the running block at that level
pub record IsFar (k : Block) (x : Far) : Type 0 where
  pub begun : IsBegun k
  pub there : drop x.behind k.outers ≡ x.outer ∷ x.rest
  pub carried : is_among x.label x.outer.labels ≡ true
  pub own : k.environment.level ≡ k.call.beginning.layer.level
  pub inner : x.level < k.call.beginning.layer.level
  pub few : k.call.beginning.layer.level < most_levels
  pub found : height_of (ancestor_at k.first.state x.level) ≡ length x.outer.point.state.activations + 1
  -- whose procedure saves all registers, since nothing restores them
  pub registers : held_registers ≤ x.outer.registers
  -- nothing stands on the stacks of texts and formats but what stood below it
  pub entries : x.outer.first.control.entries ≡ x.outer.beginning.layer.entries
  pub edits : x.outer.first.control.edits ≡ x.outer.beginning.layer.edits
  -- the stack goes back to the end of its frame
  pub top :
      upper_top k.call.surroundings.parts x.outer.first.control.layers
      ≡ frame_under k.call.surroundings.parts x.outer.first.control.layers
      + frame_end k.environment.parts k.environment.program (block_around k.environment x.level) x.level
  pub block : block_around k.environment x.level ≡ x.outer.environment.block
  pub place : place_of k.call.surroundings.links (LabelPlace x.outer.environment.block x.label) ≡ 4 * x.at
  pub near : x.at ≤ most_code

-- the blocks inside it end, and it goes on there
abbrev pub FarGotosDo : Type 0
FarGotosDo =
    (k : Block) (labels : List Label) (x : Far) (line index left' : ℕ) → HasAct k line → IsFar k x →
    Linked k.call.surroundings.links k.call.code index
    (stmt_code k.environment none_taken (Y.Goto x.level x.label line)) →
    Does k labels (Y.Goto x.level x.label line) index left'
