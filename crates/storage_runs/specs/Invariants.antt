-- Invariants of the storage machine: what every change of its state keeps, every state that a run comes to has.
use Rattle.std.specs.Prelude.{◌≡◌, ℕ, suc, ◌≤◌, List, [], Option, Some, None}
use Rattle.pli_language.specs.declared.condition.Condition.{Condition}
use Rattle.pli_typing.specs.TypedTree as Y
use Rattle.pli_meaning.specs.World.{World}
use Rattle.pli_meaning.specs.InputLines.{Input}
use Rattle.pli_meaning.specs.BasicValues.{Name}
use Rattle.pli_meaning.specs.Contents.{Shape, Generation, footprint_of, gap, without_offset, greatest_end}
use Rattle.pli_meaning.specs.StorageState.{State, AreaContents, OnUnit, first_state, with_world, with_input}
use Rattle.pli_meaning.specs.StorageState.{with_activations, area_at, with_area, with_generation}
use Rattle.pli_meaning.specs.StorageState.{established, reverted, newest_ended}
use Rattle.pli_meaning.specs.Raising.{Entry}
use Rattle.pli_meaning.specs.Control.{Flow, Normal, Jump, Return, Ended, Paused, Stuck}
use Rattle.pli_meaning.specs.Making.{bound, with_variable, statics_from}
use Rattle.pli_meaning.specs.Placing.{placed_with, with_newest, controlled_freed}
use Rattle.pli_meaning.specs.Executing.{with_activation, run}

-- a change of a generation's values alone
abbrev pub KeepsShape : (Generation → Generation) → Type 0
KeepsShape change = (g : Generation) → ((change g).shape ≡ g.shape) × ((change g).extent ≡ g.extent)

-- ---- the changes of a state, each as a run makes it

-- what every change keeps
pub record Invariant (P : State → Type 0) : Type 0 where
  pub begun : (input : List ℕ) → P (first_state input)
  -- the world and the input
  pub shown : (w : World) (s : State) → P s → P (with_world w s)
  pub read : (change : Input → Input) (s : State) → P s → P (with_input change s)
  -- activations, their bindings and their on-units
  pub entered : (head : Y.BlockHead) (entry : Entry) (s : State) → P s → P (with_activation head entry s)
  pub ended : (s : State) → P s → P (newest_ended s)
  pub bound : (variable : ℕ) (n : Name) (shape : Shape) (s : State) → P s → P (bound variable n shape s)
  pub established : (c : Condition) (u : OnUnit) (s : State) → P s
      → P (with_activations (established c u s.activations) s)
  pub reverted : (c : Condition) (s : State) → P s → P (with_activations (reverted c s.activations) s)
  -- generations
  pub made : (variable : ℕ) (g : Generation) (s : State) → P s → P (with_variable variable g s)
  pub fixed : (vs : List (List Y.DeclaredVariable)) (s : State) → P s → P (statics_from 0 vs s)
  pub valued : (n : Name) (change : Generation → Generation) (s : State) → KeepsShape change → P s
      → P (with_generation n change s)
  -- generations in areas: placed where a gap was found, freed, assigned whole where there is room
  pub placed : (area offset : ℕ) (g : Generation) (a : AreaContents) (s : State) → P s → area_at s area ≡ Some a
      → gap a.capacity (footprint_of g) a.placed ≡ Some offset → P (with_area area (placed_with offset g) s)
  pub freed : (area offset : ℕ) (s : State) → P s → P (with_area area (without_offset offset) s)
  pub assigned : (source target : ℕ) (from into : AreaContents) (s : State) → P s → area_at s source ≡ Some from
      → area_at s target ≡ Some into → greatest_end from.placed ≤ into.capacity
      → P (with_area target (λ placed. from.placed) s)
  pub emptied : (area : ℕ) (s : State) → P s → P (with_area area (λ placed. []) s)
  -- the stacks of CONTROLLED variables
  pub pushed : (v : Y.Variable) (offset : ℕ) (s : State) → P s → P (with_newest v offset s)
  pub popped : (v : Y.Variable) (s : State) → P s → P (controlled_freed v s)

-- ---- the states that a run comes to

abbrev pub state_in : {R : Type 0} → Flow R → Option State
state_in (Normal r s) = Some s
state_in (Jump height label s) = Some s
state_in (Return v s) = Some s
state_in (Ended s) = Some s
state_in (Paused s) = Some s
state_in Stuck = None

-- the state of a program on an input where so many acts are allowed: as it ended, or paused before the next act
abbrev pub state_after : Y.Program → (input : List ℕ) → (acts : ℕ) → Option State
state_after program input k = state_in (run program (suc k) k (first_state input))
