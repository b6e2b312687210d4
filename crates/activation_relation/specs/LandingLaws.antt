-- The laws of landing and leaving, for aims that are told by a test; the proofs have them for any aims.
use Rattle.std.specs.Prelude.{ℕ, suc, ◌≤◌, ◌≡◌, Bool, true, List, ◌∷◌, length, Option, None}
use Rattle.pli_language.specs.declared.condition.Condition.{Condition}
use Rattle.pli_meaning.specs.BasicValues.{BasicValue}
use Rattle.pli_meaning.specs.Control.{Label, is_among}
use Rattle.pli_meaning.specs.StorageState as M
use Rattle.pli_meaning.specs.StorageState.{State, Activation}
use Rattle.pli_serving.specs.ServiceState as S
use Rattle.pli_coding.specs.Assembly.{LabelPlace}
use Rattle.activation_relation.specs.Layers.{Layer, Carried, services_of}
use Rattle.activation_relation.specs.Landing.{Jumps, Returns, LandsFrom, LeavesFrom, closed_jumps, closed_returns}
use Rattle.activation_relation.specs.Landing.{Arrives}
use Rattle.activation_relation.specs.Landing.{caught_jumps, with_list, same_lists, with_units, Changed, resumed}
use Rattle.activation_relation.specs.Landing.{Coming, HasCome}
use Rattle.activation_relation.specs.Points.{Surroundings, Machines}

abbrev pub JumpTest : Type 0
JumpTest = ℕ → Machines → S.Services → (height : ℕ) → Label → State → Bool

abbrev pub LabelTest : Type 0
LabelTest = ℕ → Machines → S.Services → Label → State → Bool

abbrev pub ReturnTest : Type 0
ReturnTest = ℕ → Machines → S.Services → Option BasicValue → State → Bool

abbrev pub jumps_by : JumpTest → Jumps
jumps_by J = λ c f v height label s. J c f v height label s ≡ true

abbrev pub returns_by : ReturnTest → Returns
returns_by R = λ c f v r s. R c f v r s ≡ true

abbrev pub labels_by : LabelTest → ℕ → Machines → S.Services → Label → State → Type 0
labels_by K = λ c f v label s. K c f v label s ≡ true

pub record JumpsLand : Type 0 where
  pub later :
      (w : Surroundings) (J : JumpTest) (acts more count : ℕ) (as' : List Activation) (φs : List Layer) →
      acts ≤ more → LandsFrom w (jumps_by J) acts count as' φs → LandsFrom w (jumps_by J) more count as' φs
  pub entered :
      (w : Surroundings) (J : JumpTest) (acts more : ℕ) (a : Activation) (as' : List Activation) (φ : Layer)
      (φs : List Layer) → acts ≤ more → ((label : Label) → φ.carried label ≡ None) →
      LandsFrom w (jumps_by J) acts 0 as' φs →
      LandsFrom w (closed_jumps (jumps_by J)) more 0 (a ∷ as') (φ ∷ φs)
  pub moved :
      (w : Surroundings) (J : JumpTest) (acts : ℕ) (a : Activation) (as' : List Activation) (φ : Layer)
      (φs : List Layer) (own : List (Condition × M.OnUnit)) (x : Changed) →
      LandsFrom w (jumps_by J) acts 0 (a ∷ as') (φ ∷ φs) →
      LandsFrom w (jumps_by J) acts 0 (with_units own a ∷ as') (same_lists x φ ∷ φs)
  pub listed :
      (w : Surroundings) (J : JumpTest) (own : LabelTest) (acts : ℕ) (labels : List Label) (c : Carried)
      (a : Activation) (as' : List Activation) (φ : Layer) (φs : List Layer) →
      LandsFrom w (jumps_by J) acts 0 (a ∷ as') (φ ∷ φs) →
      ((label : Label) (x : Coming) → is_among label labels ≡ true →
      HasCome w 0 (LabelPlace φ.block label) x → Arrives w acts a as' φ φs c x.point →
      labels_by own x.index x.machines (services_of x.point) label x.state) →
      LandsFrom w (caught_jumps (suc (length φs)) labels (labels_by own) (jumps_by J)) acts 0 (a ∷ as')
      (with_list labels c φ ∷ φs)

pub record ReturnsLeave : Type 0 where
  pub later :
      (w : Surroundings) (R : ReturnTest) (acts more count : ℕ) (as' : List Activation) (φs : List Layer) →
      acts ≤ more → LeavesFrom w (returns_by R) acts count as' φs → LeavesFrom w (returns_by R) more count as' φs
  pub begun :
      (w : Surroundings) (R : ReturnTest) (acts more : ℕ) (a : Activation) (as' : List Activation) (φ : Layer)
      (φs : List Layer) → acts ≤ more → φ.kind ≡ S.BeginBlock → LeavesFrom w (returns_by R) acts 0 as' φs →
      LeavesFrom w (closed_returns (returns_by R)) more 0 (a ∷ as') (φ ∷ φs)
  pub moved :
      (w : Surroundings) (R : ReturnTest) (acts : ℕ) (a : Activation) (as' : List Activation) (φ : Layer)
      (φs : List Layer) (own : List (Condition × M.OnUnit)) (x : Changed) →
      LeavesFrom w (returns_by R) acts 0 (a ∷ as') (φ ∷ φs) →
      LeavesFrom w (returns_by R) acts 0 (with_units own a ∷ as') (resumed x φ ∷ φs)
