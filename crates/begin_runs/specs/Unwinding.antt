-- Where control goes on in a block further out: the blocks above it end together.
use Rattle.std.specs.Prelude.{ℕ, ◌+◌, ◌<◌, ◌≡◌, List, [], ◌∷◌, length, drop}
use Rattle.rv_meaning.specs.declared.instr.Instr.{Instr}
use Rattle.pli_meaning.specs.StorageState.{ancestor_at, height_of}
use Rattle.activation_relation.specs.Changes.{unwound}
use Rattle.activation_relation.specs.CodeStores.{most_levels}
use Rattle.activation_relation.specs.Layers.{Layer, Point}
use Rattle.activation_relation.specs.Points.{Surroundings, Stands}
use Rattle.block_runs.specs.Machines.{IsImage}

-- how many blocks end, the level of the block that goes on, its layer, and those below it
pub record Target : Type 0 where
  pub count : ℕ
  pub level : ℕ
  pub layer : Layer
  pub others : List Layer

-- it is a static ancestor of the newest block, whose display has its frame
pub record IsTarget (w : Surroundings) (code : List Instr) (p : Point) (x : Target) : Type 0 where
  pub stands : Stands w p
  pub image : IsImage w code p
  pub there : drop x.count p.control.layers ≡ x.layer ∷ x.others
  pub newest : Layer
  pub below : List Layer
  pub layers : p.control.layers ≡ newest ∷ below
  pub inner : x.level < newest.level
  pub few : newest.level < most_levels
  pub found : height_of (ancestor_at p.state x.level) ≡ length x.others + 1

abbrev pub unwound_point : Target → Point → Point
unwound_point x p = unwound x.count [] x.layer p
