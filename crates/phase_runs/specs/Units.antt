-- ON, ON with SYSTEM and REVERT: the block's own units change. (X3.53-1976, chapter 6, on-units.)
use Rattle.std.specs.Prelude.{ℕ, ◌*◌, ◌≡◌, ◌⊎◌, List, [], ◌∷◌, ⊤}
use Rattle.pli_language.specs.declared.condition.Condition.{Condition}
use Rattle.pli_typing.specs.TypedTree as Y
use Rattle.pli_meaning.specs.Control.{Label}
use Rattle.pli_meaning.specs.StorageState as M
use Rattle.pli_meaning.specs.StorageState.{Activation, with_activations, without_unit}
use Rattle.pli_serving.specs.ServiceState as S
use Rattle.pli_coding.specs.Statements.{stmt_code}
use Rattle.activation_relation.specs.Chains.{UnitPlaces, StandsAt}
use Rattle.activation_relation.specs.Changes.{newest_with, units_of}
use Rattle.activation_relation.specs.Landing.{with_units}
use Rattle.activation_relation.specs.Layers.{Point}
use Rattle.run_steps.specs.Items.{Linked}
use Rattle.program_runs.specs.Statements.{Block, HasAct, IsBegun, set_aside}
use Rattle.unit_runs.specs.Establishing.{OnUnit, on_of, unit_index, unit_of}
use Rattle.phase_runs.specs.Phases.{AreBegun, DoesThrough, Phases}

-- ---- what such a statement makes of them

-- by the ON that stands at an index, by ON with SYSTEM, or by REVERT
pub data Change : Type 0 where
  ByUnit : OnUnit → (index : ℕ) → Change
  BySystem : Condition → Change
  ByRevert : Condition → Change

-- as the program means them
abbrev pub meant_by : Change → List (Condition × M.OnUnit) → List (Condition × M.OnUnit)
meant_by (ByUnit x index) us = (x.condition, M.BlockUnit (unit_of x)) ∷ without_unit x.condition us
meant_by (BySystem c) us = (c, M.SystemUnit) ∷ without_unit c us
meant_by (ByRevert c) us = without_unit c us

-- and as the services know them, by the places of their code
abbrev pub coded_by : Change → List (Condition × S.OnUnit) → List (Condition × S.OnUnit)
coded_by (ByUnit x index) xs = (x.condition, S.CodeUnit (4 * unit_index x index)) ∷ without_unit x.condition xs
coded_by (BySystem c) xs = (c, S.SystemUnit) ∷ without_unit c xs
coded_by (ByRevert c) xs = without_unit c xs

abbrev pub own_units : List Activation → List (Condition × M.OnUnit)
own_units [] = []
own_units (a ∷ as') = a.units

abbrev pub newest_units : List (Condition × M.OnUnit) → List Activation → List Activation
newest_units us [] = []
newest_units us (a ∷ as') = with_units us a ∷ as'

abbrev pub changed : Change → List Activation → List Activation
changed e as' = newest_units (meant_by e (own_units as')) as'

abbrev pub with_change : Change → Point → Point
with_change e p =
    record p {
      state = with_activations (changed e p.state.activations) p.state;
      control = record p.control { layers = newest_with (coded_by e (units_of p.control.layers)) p.control.layers };
    }

-- ---- the phases that a block can have

-- what has been done to its units since its first statement, the newest first
abbrev pub Past : Type 0
Past = List Change

abbrev pub past_point : Past → Point → Point
past_point [] p = p
past_point (e ∷ past) p = with_change e (past_point past p)

-- one of these ONs, each with the index at which it stands
abbrev pub IsListed : OnUnit × ℕ → List (OnUnit × ℕ) → Type 0
IsListed e [] = ⊥
IsListed e (on ∷ ons) = (on ≡ e) ⊎ IsListed e ons

-- by one of them, or by no unit of the program
abbrev pub IsBy : List (OnUnit × ℕ) → Change → Type 0
IsBy ons (ByUnit x index) = IsListed (x, index) ons
IsBy ons _ = ⊤

abbrev pub AreBy : List (OnUnit × ℕ) → Past → Type 0
AreBy ons [] = ⊤
AreBy ons (e ∷ past) = IsBy ons e × AreBy ons past

-- the phases of a block with these ONs: its units are those of some of them, whichever and in whatever order
abbrev pub phases_of : Block → List (OnUnit × ℕ) → Phases
phases_of k ons first = (past : Past) × AreBy ons past × (first ≡ past_point past k.first)

-- the program has the unit of each of them at one place
abbrev pub ArePlaced : UnitPlaces → List (OnUnit × ℕ) → Type 0
ArePlaced units [] = ⊤
ArePlaced units (on ∷ ons) = StandsAt units (unit_of on.0) (4 * unit_index on.0 on.1) × ArePlaced units ons

-- ---- the statements

-- where such a statement stands
pub record IsAlone (words : ℕ) (k : Block) (stmt : Y.Stmt) (line index : ℕ) : Type 0 where
  pub act : HasAct k line
  pub statement :
      Linked k.call.surroundings.links k.call.code index (stmt_code k.environment (set_aside words) stmt)

-- a change comes to a phase
abbrev pub IsKept : Phases → Change → Type 0
IsKept ps e = (first : Point) → ps first → ps (with_change e first)

pub record UnitsChange (k : Block) (ps : Phases) : Type 0 where
  -- with a unit of the program
  pub on :
      (words : ℕ) (labels : List Label) (x : OnUnit) (index left' : ℕ) → IsAlone words k (on_of x) x.line index →
      AreBegun k ps → StandsAt k.call.surroundings.units (unit_of x) (4 * unit_index x index) →
      IsKept ps (ByUnit x index) → DoesThrough words k ps labels (on_of x) index left'
  -- with the system's
  pub system :
      (words : ℕ) (labels : List Label) (c : Condition) (line index left' : ℕ) →
      IsAlone words k (Y.OnSystem c line) line index → AreBegun k ps → IsKept ps (BySystem c) →
      DoesThrough words k ps labels (Y.OnSystem c line) index left'
  -- or with none
  pub revert :
      (words : ℕ) (labels : List Label) (c : Condition) (line index left' : ℕ) →
      IsAlone words k (Y.Revert c line) line index → AreBegun k ps → IsKept ps (ByRevert c) →
      DoesThrough words k ps labels (Y.Revert c line) index left'

-- what is known of those phases
pub record PhasesChange (k : Block) (ons : List (OnUnit × ℕ)) : Type 0 where
  pub first : phases_of k ons k.first
  pub kept : (e : Change) → IsBy ons e → IsKept (phases_of k ons) e
  pub begun : IsBegun k → ArePlaced k.call.surroundings.units ons → AreBegun k (phases_of k ons)
