-- The laws of points: what holds at one holds at those to which acts, blocks and on-units lead, with their memories.
use Rattle.std.specs.Prelude.{ℕ, ◌+◌, ◌*◌, ◌^◌, ◌<◌, ◌≤◌, ◌≡◌, ◌∷◌, List, length, drop, None}
use Rattle.pli_language.specs.declared.condition.Condition.{Condition}
use Rattle.pli_typing.specs.TypedTree as Y
use Rattle.pli_meaning.specs.World.{counted, raising}
use Rattle.pli_meaning.specs.StorageState as M
use Rattle.pli_meaning.specs.Raising.{Entry}
use Rattle.pli_serving.specs.ServiceState as S
use Rattle.storage_relation.specs.Served.{Holds}
use Rattle.activation_relation.specs.Layers.{Layer, Point, now}
use Rattle.activation_relation.specs.Chains.{IsUnit}
use Rattle.activation_relation.specs.Changes.{with_line, with_act, pushed, popped, unwound, established, reverted}
use Rattle.activation_relation.specs.Changes.{awaiting}
use Rattle.activation_relation.specs.Changes.{StandsOver}
use Rattle.activation_relation.specs.Frames.{FramesStand, IsLaid, frame_stores, stored}
use Rattle.activation_relation.specs.FrameLaws.{AreWords}
use Rattle.activation_relation.specs.Points.{AreFew, AreOver, IsEarly, Stands, Surroundings}
use Rattle.activation_relation.specs.ServiceLaws.{IsLayerOf}

-- a block that is entered has its place above all others, and finds on the stacks what its arguments left there
pub record IsNext (w : Surroundings) (p : Point) (head : Y.BlockHead) (entry : Entry) (φ : Layer) : Type 0 where
  pub layer : IsLayerOf head entry φ p.state.activations
  pub laid : IsLaid w.parts φ p.control.layers
  pub entries : StandsOver φ.entries p.control.entries
  pub edits : φ.edits ≡ p.control.edits
  pub over : AreOver φ.entries φ.edits p.control.layers

pub record PointsGo : Type 0 where
  pub acted :
      (w : Surroundings) (p : Point) (line : ℕ) → Stands w p → p.state.world.acts < w.acts →
      Stands w (with_act counted (with_line line p))
  pub raised :
      (w : Surroundings) (p : Point) (c : Condition) (code : ℕ) → Stands w p → p.state.world.acts < w.acts →
      Stands w (with_act (raising c code) p)
  -- while a raise waits for its unit
  pub awaited : (w : Surroundings) (p : Point) (code resume : ℕ) → Stands w p → Stands w (awaiting code resume p)
  pub entered :
      (w : Surroundings) (p : Point) (head : Y.BlockHead) (entry : Entry) (φ : Layer) (line : ℕ) → Stands w p →
      IsNext w p head entry φ → Stands w (pushed head entry φ line p)
  pub left :
      (w : Surroundings) (p : Point) (φ : Layer) (φs : List Layer) (kept : List S.Entry) → Stands w p →
      p.control.layers ≡ φ ∷ φs → Stands w (popped kept p)
  pub unwound :
      (w : Surroundings) (p : Point) (count : ℕ) (φ : Layer) (φs : List Layer) (kept : List S.Entry) → Stands w p →
      drop count p.control.layers ≡ φ ∷ φs → Stands w (unwound count kept φ p)
  pub established :
      (w : Surroundings) (p : Point) (c : Condition) (u : M.OnUnit) (x : S.OnUnit) → Stands w p →
      IsUnit w.units u x → Stands w (established c u x p)
  pub reverted : (w : Surroundings) (p : Point) (c : Condition) → Stands w p → Stands w (reverted c p)
  -- each block has on the stacks what stood below it, whatever came since
  pub over :
      (w : Surroundings) (p : Point) (count : ℕ) (φ : Layer) (φs : List Layer) → Stands w p →
      drop count p.control.layers ≡ φ ∷ φs →
      StandsOver φ.entries p.control.entries × StandsOver φ.edits p.control.edits

-- how many serials there are
pub record SerialsCount : Type 0 where
  pub acted : (w : Surroundings) (p : Point) (line : ℕ) → AreFew w p → AreFew w (with_act counted (with_line line p))
  -- so many may come where an act was left
  pub made :
      (w : Surroundings) (p q : Point) → IsEarly w p → q.state.serials ≤ p.state.serials + w.serials →
      p.state.world.acts < w.acts → AreFew w q
  pub left : (w : Surroundings) (p : Point) (kept : List S.Entry) → AreFew w p → AreFew w (popped kept p)
  pub unwound :
      (w : Surroundings) (p : Point) (count : ℕ) (φ : Layer) (kept : List S.Entry) → AreFew w p →
      AreFew w (unwound count kept φ p)
  -- the next ones fit 64 bits, however many acts were made
  pub small :
      (w : Surroundings) (p : Point) (n : ℕ) → AreFew w p → w.serials + n < 2 ^ 40 →
      p.state.serials + n < 2 ^ 64

pub record MemoriesGo : Type 0 where
  -- the stores of a block's beginning leave a memory in which its frame stands with all others, and all that is stored
  pub entered :
      (w : Surroundings) (p : Point) (base : ℕ) (m : List ℕ) (head : Y.BlockHead) (entry : Entry) (φ : Layer)
      (line : ℕ) → Stands w p × Holds (now p m)
      × FramesStand w.parts base m p.state.activations p.control.layers →
      IsLaid w.parts φ p.control.layers × AreWords base φ × (φ.lower ≤ length m)
      × ((n : ℕ) → φ.waits n ≡ None) × (φ.list ≡ None) × ((n : ℕ) → φ.told n ≡ None) →
      Holds (now (pushed head entry φ line p)
      (stored (frame_stores w.parts base entry.parent p.state.activations φ p.control.layers) m))
      × FramesStand w.parts base (stored (frame_stores w.parts base entry.parent p.state.activations φ
      p.control.layers) m) (pushed head entry φ line p).state.activations (pushed head entry φ line p).control.layers
  -- the end of blocks writes nothing
  pub left :
      (w : Surroundings) (p : Point) (base : ℕ) (m : List ℕ) (φ : Layer) (φs : List Layer) (kept : List S.Entry) →
      Stands w p × Holds (now p m) × FramesStand w.parts base m p.state.activations p.control.layers →
      p.control.layers ≡ φ ∷ φs →
      Holds (now (popped kept p) m)
      × FramesStand w.parts base m (popped kept p).state.activations (popped kept p).control.layers
  pub unwound :
      (w : Surroundings) (p : Point) (base : ℕ) (m : List ℕ) (count : ℕ) (φ : Layer) (kept : List S.Entry) →
      Holds (now p m) × FramesStand w.parts base m p.state.activations p.control.layers →
      Holds (now (unwound count kept φ p) m)
      × FramesStand w.parts base m (unwound count kept φ p).state.activations
      (unwound count kept φ p).control.layers
