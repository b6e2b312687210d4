-- The laws of services at a point: what they answer is the point that the storage machine comes to.
use Rattle.std.specs.Prelude.{ℕ, ◌+◌, ◌^◌, ◌≡◌, ◌<◌, ⊤, Option, nat_lt, true, false, List, [], ◌∷◌, ◌++◌, length, drop}
use Rattle.std.specs.Prelude.{Some, None}
use Rattle.pli_language.specs.declared.condition.Condition.{Condition}
use Rattle.pli_typing.specs.TypedTree as Y
use Rattle.pli_meaning.specs.declared.outcome.End.TheVariants as E
use Rattle.pli_meaning.specs.declared.outcome.Limit.TheVariants as L
use Rattle.pli_meaning.specs.World.{counted, raising}
use Rattle.pli_meaning.specs.StorageState as M
use Rattle.pli_meaning.specs.StorageState.{Activation, most_activations}
use Rattle.pli_meaning.specs.Raising.{Entry}
use Rattle.pli_serving.specs.ActsAndEnds as W
use Rattle.pli_serving.specs.ActsAndEnds.{run_ended}
use Rattle.pli_serving.specs.Answers.{Done}
use Rattle.pli_serving.specs.Blocks as B
use Rattle.pli_serving.specs.Blocks.{are_texts}
use Rattle.pli_serving.specs.OnUnits as U
use Rattle.pli_serving.specs.ServiceState as S
use Rattle.pli_serving.specs.Finding.{Call}
use Rattle.storage_relation.specs.Served.{call}
use Rattle.storage_relation.specs.Stored.{AreLow}
use Rattle.activation_relation.specs.Layers.{Layer, Point, services_of, now}
use Rattle.activation_relation.specs.Chains.{UnitPlaces, AreActive, RunsFor, IsUnit}
use Rattle.activation_relation.specs.Chains.{HasParent, StandsAt, frame_at}
use Rattle.activation_relation.specs.Changes.{with_line, with_act, pushed, popped, Keeps, StandsOver, unwound}
use Rattle.activation_relation.specs.Changes.{established}
use Rattle.activation_relation.specs.Changes.{reverted, awaiting}

-- a call at a point, with a memory
abbrev pub at_point : Point → List ℕ → Call
at_point p m = call (now p m)

-- acts have 64 bits
abbrev pub HasActLeft : Point → Type 0
HasActLeft p = nat_lt (p.state.world.acts + 1) (2 ^ 64) ≡ true

-- ---- acts

pub record ActsServed : Type 0 where
  pub act :
      (p : Point) (m : List ℕ) (line : ℕ) → HasActLeft p →
      W.act_served (at_point p m) line 0 ≡ Done (services_of (with_act counted (with_line line p))) m line 0
  -- a line alone is none
  pub line :
      (p : Point) (m : List ℕ) (line : ℕ) →
      W.act_served (at_point p m) line 1 ≡ Done (services_of (with_line line p)) m line 1

-- ---- blocks

-- the layer that service 4 makes of its kind, frame and count of argument texts
pub record IsEntering (p : Point) (φ : Layer) (kind texts : ℕ) : Type 0 where
  pub entered :
      B.entered_of kind p.control.line p.control.waiting ≡ Some (record { kind = φ.kind; line = φ.line })
  pub given : are_texts texts p.control.entries ≡ true
  -- what stands below it: all but the texts of its arguments
  pub arguments : List S.Entry
  pub below : p.control.entries ≡ arguments ++ φ.entries
  pub many : length arguments ≡ texts
  pub places : φ.edits ≡ p.control.edits
  pub units : φ.units ≡ []

-- what is newest, with as much storage as its activations own
pub record IsNewest (units : UnitPlaces) (p : Point) (φ : Layer) (φs : List Layer) : Type 0 where
  pub active : AreActive units p.state.activations p.control.layers
  pub newest : p.control.layers ≡ φ ∷ φs
  pub low : AreLow (length p.state.activations) p.state.living

-- each frame lies above those of the blocks below it
abbrev pub FramesFall : (above : ℕ) → List Layer → Type 0
FramesFall above [] = ⊤
FramesFall above (φ ∷ φs) = (φ.at < above) × FramesFall φ.at φs

pub record BlocksServed : Type 0 where
  pub entered :
      (units : UnitPlaces) (p : Point) (m : List ℕ) (head : Y.BlockHead) (entry : Entry) (φ : Layer)
      (kind texts line : ℕ) → AreActive units p.state.activations p.control.layers →
      IsEntering p φ kind texts → nat_lt (length p.state.activations) most_activations ≡ true →
      B.enter_served (at_point p m) kind φ.at line texts
      ≡ Done (services_of (pushed head entry φ line p)) m kind φ.at
  -- one block too many ends the run, as in the storage machine
  pub too_deep :
      (units : UnitPlaces) (p : Point) (m : List ℕ) (φ : Layer) (kind texts line : ℕ) →
      AreActive units p.state.activations p.control.layers → IsEntering p φ kind texts →
      nat_lt (length p.state.activations) most_activations ≡ false →
      B.enter_served (at_point p m) kind φ.at line texts ≡ run_ended (E.Limit L.Depth) (services_of p)
  pub left :
      (units : UnitPlaces) (p : Point) (m : List ℕ) (φ : Layer) (φs : List Layer) (keep a1 : ℕ)
      (kept : List S.Entry) → IsNewest units p φ φs → Keeps keep φ.entries p.control.entries kept →
      StandsOver φ.edits p.control.edits →
      B.leave_served (at_point p m) keep a1 ≡ Done (services_of (popped kept p)) m keep a1
  -- the end of an on-unit, which goes on where its raise said
  pub returned :
      (units : UnitPlaces) (p : Point) (m : List ℕ) (φ : Layer) (φs : List Layer) (code resume : ℕ) →
      IsNewest units p φ φs → φ.kind ≡ S.OnUnitBlock code resume → Keeps 0 φ.entries p.control.entries [] →
      StandsOver φ.edits p.control.edits →
      B.return_served (at_point p m) ≡ Done (services_of (popped [] p)) m resume code
  -- where the program goes on in a block further out, by its frame, those above it have ended
  pub unwound :
      (units : UnitPlaces) (p : Point) (m : List ℕ) (count above keep : ℕ) (φ : Layer) (φs : List Layer)
      (kept : List S.Entry) → AreActive units p.state.activations p.control.layers →
      AreLow (length p.state.activations) p.state.living → FramesFall above p.control.layers →
      drop count p.control.layers ≡ φ ∷ φs → Keeps keep φ.entries p.control.entries kept →
      StandsOver φ.edits p.control.edits →
      B.unwind_served (at_point p m) φ.at keep ≡ Done (services_of (unwound count kept φ p)) m φ.at keep

-- ---- on-units

abbrev pub IsSystem : Option (Activation × M.OnUnit) → Type 0
IsSystem None = ⊤
IsSystem (Some (a, M.SystemUnit)) = ⊤
IsSystem (Some (a, M.BlockUnit unit)) = ⊥

pub record UnitsServed : Type 0 where
  pub established :
      (p : Point) (m : List ℕ) (φ : Layer) (φs : List Layer) (c : Condition) (u : M.OnUnit) (n at : ℕ) →
      p.control.layers ≡ φ ∷ φs → U.condition_of n ≡ Some c →
      U.on_served (at_point p m) n at ≡ Done (services_of (established c u (U.unit_of at) p)) m n at
  pub reverted :
      (p : Point) (m : List ℕ) (φ : Layer) (φs : List Layer) (c : Condition) (n a1 : ℕ) →
      p.control.layers ≡ φ ∷ φs → U.condition_of n ≡ Some c →
      U.revert_served (at_point p m) n a1 ≡ Done (services_of (reverted c p)) m n a1
  -- a raise finds the unit in force by the place of its code and the frame of the block that established it
  pub raised :
      (units : UnitPlaces) (p : Point) (m : List ℕ) (c : Condition) (n code resume : ℕ) (a : Activation)
      (unit : Y.Block) → AreActive units p.state.activations p.control.layers → HasActLeft p →
      U.condition_of n ≡ Some c → W.is_code code ≡ true →
      M.force p.state.activations c ≡ Some (a, M.BlockUnit unit) →
      (at : ℕ) × StandsAt units unit at
      × (U.raise_served (at_point p m) n code resume
      ≡ Done (services_of (awaiting code resume (with_act (raising c code) p))) m at
      (frame_at p.control.layers a.height))
  -- or that there is none but the system's
  pub unraised :
      (units : UnitPlaces) (p : Point) (m : List ℕ) (c : Condition) (n code resume : ℕ) →
      AreActive units p.state.activations p.control.layers → HasActLeft p → U.condition_of n ≡ Some c →
      W.is_code code ≡ true → IsSystem (M.force p.state.activations c) →
      U.raise_served (at_point p m) n code resume ≡ Done (services_of (with_act (raising c code) p)) m 0 code
  -- the code for which the newest on-unit runs
  pub oncode :
      (units : UnitPlaces) (p : Point) (m : List ℕ) (a1 : ℕ) →
      AreActive units p.state.activations p.control.layers →
      W.oncode_served (at_point p m) a1 ≡ Done (services_of p) m (M.oncode_of p.state.activations) a1

-- ---- the storage machine's activations and the layers

-- the layer of a block that is entered: no units yet, and its static parent is of the level around
pub record IsLayerOf (head : Y.BlockHead) (entry : Entry) (φ : Layer) (as' : List Activation) : Type 0 where
  pub level : φ.level ≡ head.level
  pub runs : RunsFor φ.kind entry.oncode
  pub units : φ.units ≡ []
  pub parent : HasParent head.level entry.parent as'

pub record ChainsKept : Type 0 where
  pub pushed :
      (units : UnitPlaces) (p : Point) (head : Y.BlockHead) (entry : Entry) (φ : Layer) (line : ℕ) →
      AreActive units p.state.activations p.control.layers → IsLayerOf head entry φ p.state.activations →
      AreActive units (pushed head entry φ line p).state.activations (pushed head entry φ line p).control.layers
  pub popped :
      (units : UnitPlaces) (p : Point) (φ : Layer) (φs : List Layer) (kept : List S.Entry) →
      IsNewest units p φ φs →
      AreActive units (popped kept p).state.activations (popped kept p).control.layers
      × AreLow (length (popped kept p).state.activations) (popped kept p).state.living
  pub unwound :
      (units : UnitPlaces) (p : Point) (count : ℕ) (φ : Layer) (kept : List S.Entry) →
      AreActive units p.state.activations p.control.layers →
      AreLow (length p.state.activations) p.state.living →
      AreActive units (unwound count kept φ p).state.activations (unwound count kept φ p).control.layers
      × AreLow (length (unwound count kept φ p).state.activations) (unwound count kept φ p).state.living
  pub established :
      (units : UnitPlaces) (p : Point) (c : Condition) (u : M.OnUnit) (x : S.OnUnit) →
      AreActive units p.state.activations p.control.layers → IsUnit units u x →
      AreActive units (established c u x p).state.activations (established c u x p).control.layers
  pub reverted :
      (units : UnitPlaces) (p : Point) (c : Condition) → AreActive units p.state.activations p.control.layers →
      AreActive units (reverted c p).state.activations (reverted c p).control.layers
