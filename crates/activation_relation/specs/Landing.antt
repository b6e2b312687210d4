-- Where jumps land, and where returns go on: by layers, for every machine that comes there.
use Rattle.std.specs.Prelude.{ℕ, suc, ◌+◌, ◌*◌, ◌<◌, ◌≤◌, ◌≡◌, ◌==◌, Bool, true, false, ◌&&◌, List, [], ◌∷◌, length}
use Rattle.std.specs.Prelude.{⊤, None}
use Rattle.std.specs.Prelude.{Some, Option, if◌then◌else◌}
use Rattle.rv_meaning.specs.Machine as V
use Rattle.rv_meaning.specs.Memory.{load}
use Rattle.rv_meaning.specs.Words.{word, flag}
use Rattle.pli_language.specs.declared.condition.Condition.{Condition}
use Rattle.pli_typing.specs.Signatures.{Pointer}
use Rattle.pli_meaning.specs.BasicValues.{BasicValue, BasicNumber, BasicText, BasicBit, BasicPointer, BasicOffset}
use Rattle.pli_meaning.specs.Control.{Label, is_among}
use Rattle.pli_meaning.specs.StorageState as M
use Rattle.pli_meaning.specs.StorageState.{State, Activation, with_world, newest_ended}
use Rattle.pli_serving.specs.Bytes.{offset_word}
use Rattle.pli_serving.specs.ServiceState as S
use Rattle.pli_coding.specs.Assembly.{Symbol, LabelPlace, ReturnPlace}
use Rattle.pli_coding.specs.Frames.{result}
use Rattle.pli_coding.specs.Linking.{place_of}
use Rattle.storage_relation.specs.Telling.{Tells}
use Rattle.activation_relation.specs.Layers.{Layer, Carried, Point, services_of}
use Rattle.activation_relation.specs.Changes.{ended_times}
use Rattle.activation_relation.specs.Points.{Surroundings, Stands, Machines, AreAt}

-- ---- a block goes on

-- what its own code may have changed since: its units, its words and what is told of them, the ends of both stacks, and
-- which lists it carries out
pub record Changed : Type 0 where
  pub units : List (Condition × S.OnUnit)
  pub waits : ℕ → Option ℕ
  pub told : ℕ → Option ℕ
  pub top : ℕ
  pub lower : ℕ
  pub carried : Label → Option Carried

abbrev pub resumed : Changed → Layer → Layer
resumed x φ =
    record φ {
      units = x.units;
      waits = x.waits;
      told = x.told;
      top = x.top;
      lower = x.lower;
      carried = x.carried;
    }

abbrev pub with_units : List (Condition × M.OnUnit) → Activation → Activation
with_units own a = record a { units = own }

-- a point at which it is the newest again, with all blocks below it as they were
pub record Resumes (w : Surroundings) (acts : ℕ) (a : Activation) (as' : List Activation) (φ : Layer) (φs : List Layer)
    (q : Point) : Type 0 where
  pub stands : Stands w q
  pub idle : q.control.waiting ≡ None
  pub changed : Changed
  pub layers : q.control.layers ≡ resumed changed φ ∷ φs
  pub own : List (Condition × M.OnUnit)
  pub activations : q.state.activations ≡ with_units own a ∷ as'
  pub more : acts ≤ q.state.world.acts

-- it still carries out the same lists
abbrev pub same_lists : Changed → Layer → Layer
same_lists x φ = resumed (record x { carried = φ.carried }) φ

-- ---- GOTO

-- what is aimed at by a jump: of credits, machines and services, a height and a label, and the state where it was made
abbrev pub Jumps : Type 1
Jumps = ℕ → Machines → S.Services → (height : ℕ) → Label → State → Type 0

-- at a label of a list that it is carrying out: what waits there is as it was, and nothing stands on the stacks of
-- texts and formats but what stood below the block
pub record Arrives (w : Surroundings) (acts : ℕ) (a : Activation) (as' : List Activation) (φ : Layer) (φs : List Layer)
    (c : Carried) (q : Point) : Type 0 where
  pub resumes : Resumes w (suc acts) a as' φ φs q
  pub top : resumes.changed.top ≡ c.top
  pub same : (n : ℕ) → n < c.words → resumes.changed.waits n ≡ c.values n
  pub entries : q.control.entries ≡ φ.entries
  pub edits : q.control.edits ≡ φ.edits

-- a run that has come to an instruction: where it left the blocks further in, the point now, and its machines
pub record Coming : Type 0 where
  pub index : ℕ
  pub state : State
  pub point : Point
  pub numbers : ℕ → ℕ
  pub machines : Machines

-- it is that of a symbol, and each of so many blocks further in has ended
pub record HasCome (w : Surroundings) (count : ℕ) (to : Symbol) (x : Coming) : Type 0 where
  pub place : place_of w.links to ≡ 4 * x.index
  pub ended : x.point.state ≡ ended_times count x.state
  pub at : AreAt w x.point x.numbers x.index x.machines

abbrev pub Landing :
    Surroundings → Jumps → (acts count : ℕ) → Activation → List Activation → Layer → List Layer → Type 0
Landing w J acts count a as' φ φs =
    (label : Label) (c : Carried) (x : Coming) → φ.carried label ≡ Some c →
    HasCome w count (LabelPlace φ.block label) x → Arrives w acts a as' φ φs c x.point →
    J x.index x.machines (services_of x.point) (suc (length φs)) label x.state

abbrev pub LandsFrom : Surroundings → Jumps → (acts count : ℕ) → List Activation → List Layer → Type 0
LandsFrom w J acts count [] φs = ⊤
LandsFrom w J acts count (a ∷ as') [] = ⊤
LandsFrom w J acts count (a ∷ as') (φ ∷ φs) =
    Landing w J acts count a as' φ φs × LandsFrom w J acts (suc count) as' φs

-- a jump to any label of a list that is being carried out, in any block that is active, comes to what is aimed at
abbrev pub Lands : Surroundings → Jumps → Point → Type 0
Lands w J p = LandsFrom w J p.state.world.acts 0 p.state.activations p.control.layers

-- what is aimed at from within a block: it ends first
abbrev pub closed : State → State
closed s = with_world s.world (newest_ended s)

abbrev pub closed_jumps : Jumps → Jumps
closed_jumps J = λ c f v height label s. J c f v height label (closed s)

-- ---- lists of statements

-- the newest block carries out one more list
abbrev pub with_list : List Label → Carried → Layer → Layer
with_list labels c φ = record φ { carried = λ label. if is_among label labels then Some c else φ.carried label }

abbrev pub newest_list : List Label → Carried → List Layer → List Layer
newest_list labels c [] = []
newest_list labels c (φ ∷ φs) = with_list labels c φ ∷ φs

abbrev pub listing : List Label → Carried → Point → Point
listing labels c p = record p { control = record p.control { layers = newest_list labels c p.control.layers } }

abbrev pub either : Bool → Type 0 → Type 0 → Type 0
either true yes' no' = yes'
either false yes' no' = no'

-- what a list aims at: it goes on itself at its own labels
abbrev pub caught_jumps :
    (height : ℕ) → List Label → (ℕ → Machines → S.Services → Label → State → Type 0) → Jumps → Jumps
caught_jumps height labels own J =
    λ c f v h label s. either ((h == height) && is_among label labels) (own c f v label s) (J c f v h label s)

-- ---- RETURN

abbrev pub Returns : Type 1
Returns = ℕ → Machines → S.Services → Option BasicValue → State → Type 0

-- where a block leaves its result: a text on the stack, all others in its frame
abbrev pub HasResult : Option BasicValue → Layer → List S.Entry → List ℕ → Type 0
HasResult None φ entries m = entries ≡ φ.entries
HasResult (Some (BasicNumber z)) φ entries m = (entries ≡ φ.entries) × (load 4 m (φ.at + result) ≡ word z)
HasResult (Some (BasicBit b)) φ entries m = (entries ≡ φ.entries) × (load 4 m (φ.at + result) ≡ flag b)
HasResult (Some (BasicOffset o)) φ entries m = (entries ≡ φ.entries) × (load 4 m (φ.at + result) ≡ offset_word o)
HasResult (Some (BasicPointer n)) φ entries m =
    (entries ≡ φ.entries) × Tells Pointer (BasicPointer n) (φ.at + result) m
HasResult (Some (BasicText t)) φ entries m = entries ≡ S.TextEntry t ∷ φ.entries

-- at its return place, with its result; no credits are left there, since those of the call are paid back
abbrev pub Returning :
    Surroundings → Returns → (acts count : ℕ) → Activation → List Activation → Layer → List Layer → Type 0
Returning w R acts count a as' φ φs =
    (v : Option BasicValue) (x : Coming) → HasCome w count (ReturnPlace φ.block) x →
    Resumes w acts a as' φ φs x.point →
    ((base : ℕ) (valid : V.IsValidBase base) →
    HasResult v φ x.point.control.entries (x.machines base valid).memory) →
    R 0 x.machines (services_of x.point) v x.state

abbrev pub is_begin : S.BlockKind → Bool
is_begin S.BeginBlock = true
is_begin _ = false

-- out of a begin block a RETURN goes on in the block around it, and ends at the nearest that is none
abbrev pub LeavesFrom : Surroundings → Returns → (acts count : ℕ) → List Activation → List Layer → Type 0
LeavesFrom w R acts count [] φs = ⊤
LeavesFrom w R acts count (a ∷ as') [] = ⊤
LeavesFrom w R acts count (a ∷ as') (φ ∷ φs) =
    either (is_begin φ.kind) (LeavesFrom w R acts (suc count) as' φs) (Returning w R acts count a as' φ φs)

abbrev pub Leaves : Surroundings → Returns → Point → Type 0
Leaves w R p = LeavesFrom w R p.state.world.acts 0 p.state.activations p.control.layers

abbrev pub closed_returns : Returns → Returns
closed_returns R = λ c f v r s. R c f v r (closed s)

-- ---- the laws

pub record LandingLaws : Type 1 where
  -- later, after more acts
  pub later :
      (w : Surroundings) (J : Jumps) (acts more count : ℕ) (as' : List Activation) (φs : List Layer) → acts ≤ more →
      LandsFrom w J acts count as' φs → LandsFrom w J more count as' φs
  -- whatever more is aimed at
  pub mapped :
      (w : Surroundings) (J K : Jumps) (acts count : ℕ) (as' : List Activation) (φs : List Layer) →
      ((c : ℕ) (f : Machines) (v : S.Services) (height : ℕ) (label : Label) (s : State) → height ≤ length φs →
      J c f v height label s → K c f v height label s) →
      LandsFrom w J acts count as' φs → LandsFrom w K acts count as' φs
  -- from within a block that is entered, which carries out no list yet
  pub entered :
      (w : Surroundings) (J : Jumps) (acts more : ℕ) (a : Activation) (as' : List Activation) (φ : Layer)
      (φs : List Layer) → acts ≤ more → ((label : Label) → φ.carried label ≡ None) → LandsFrom w J acts 0 as' φs →
      LandsFrom w (closed_jumps J) more 0 (a ∷ as') (φ ∷ φs)
  -- whatever the newest block did to its units, its words and the stack
  pub moved :
      (w : Surroundings) (J : Jumps) (acts : ℕ) (a : Activation) (as' : List Activation) (φ : Layer)
      (φs : List Layer) (own : List (Condition × M.OnUnit)) (x : Changed) → LandsFrom w J acts 0 (a ∷ as') (φ ∷ φs) →
      LandsFrom w J acts 0 (with_units own a ∷ as') (same_lists x φ ∷ φs)
  -- in a list, which goes on itself at its own labels
  pub listed :
      (w : Surroundings) (J : Jumps) (own : ℕ → Machines → S.Services → Label → State → Type 0) (acts : ℕ)
      (labels : List Label) (c : Carried) (a : Activation) (as' : List Activation) (φ : Layer) (φs : List Layer) →
      LandsFrom w J acts 0 (a ∷ as') (φ ∷ φs) →
      ((label : Label) (x : Coming) → is_among label labels ≡ true →
      HasCome w 0 (LabelPlace φ.block label) x → Arrives w acts a as' φ φs c x.point →
      own x.index x.machines (services_of x.point) label x.state) →
      LandsFrom w (caught_jumps (suc (length φs)) labels own J) acts 0 (a ∷ as') (with_list labels c φ ∷ φs)

pub record LeavingLaws : Type 1 where
  pub later :
      (w : Surroundings) (R : Returns) (acts more count : ℕ) (as' : List Activation) (φs : List Layer) → acts ≤ more →
      LeavesFrom w R acts count as' φs → LeavesFrom w R more count as' φs
  pub mapped :
      (w : Surroundings) (R S' : Returns) (acts count : ℕ) (as' : List Activation) (φs : List Layer) →
      ((f : Machines) (v : S.Services) (r : Option BasicValue) (s : State) → R 0 f v r s → S' 0 f v r s) →
      LeavesFrom w R acts count as' φs → LeavesFrom w S' acts count as' φs
  -- from within a begin block
  pub begun :
      (w : Surroundings) (R : Returns) (acts more : ℕ) (a : Activation) (as' : List Activation) (φ : Layer)
      (φs : List Layer) → acts ≤ more → φ.kind ≡ S.BeginBlock → LeavesFrom w R acts 0 as' φs →
      LeavesFrom w (closed_returns R) more 0 (a ∷ as') (φ ∷ φs)
  pub moved :
      (w : Surroundings) (R : Returns) (acts : ℕ) (a : Activation) (as' : List Activation) (φ : Layer)
      (φs : List Layer) (own : List (Condition × M.OnUnit)) (x : Changed) → LeavesFrom w R acts 0 (a ∷ as') (φ ∷ φs) →
      LeavesFrom w R acts 0 (with_units own a ∷ as') (resumed x φ ∷ φs)
