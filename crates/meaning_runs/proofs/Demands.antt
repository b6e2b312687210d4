-- What is asked of a part of a run, and what is kept meanwhile: each activation is of a block, its on-units are sound
-- blocks that stand in it, and what its variables stand for has the shapes that are declared.
use Rattle.std.proofs.Common.{◌≡◌, ℕ, suc, ◌+◌, ◌≤◌, List, [], ◌∷◌, Option, Some, None, Bool, true, false, refl, ◌∙◌}
use Rattle.std.proofs.Common.{ap, sym, subst}
use Rattle.std.specs.Prelude.{cond, ⊤, ◌⊎◌, length}
use Rattle.pli_language.specs.declared.condition.Condition.{Condition}
use Rattle.pli_typing.specs.TypedTree as Y
use Rattle.pli_meaning.specs.BasicValues.{BasicValue}
use Rattle.pli_meaning.specs.StorageState.{State, OnUnit, SystemUnit, BlockUnit, Activation, same_condition, unit_for}
use Rattle.pli_meaning.specs.StorageState.{without_unit, first_unit, force, established, reverted, without_newest}
use Rattle.pli_meaning.specs.StorageState.{newest_ended, with_activations}
use Rattle.pli_meaning.specs.Control.{Label, is_among, Flow, Normal, Jump, Return, Ended, Paused, Stuck, Meaning}
use Rattle.pli_meaning.specs.Executing.{is_own_return}
use Rattle.well_formed_trees.specs.Every.{Every}
use Rattle.well_formed_trees.specs.Surroundings.{Table, Where, Returning, Returns, NoReturn}
use Rattle.well_formed_trees.specs.Surroundings as W
use Rattle.well_formed_trees.specs.Statements.{SoundStmts, IsListedUnit}
use Rattle.well_formed_trees.specs.Statements as T
use Rattle.meaning_runs.specs.Present.{IsOver}
use Rattle.meaning_runs.proofs.Frames.{Frame, outlines, skeleton, closed, IsOpen, Chain, Stands}
use Rattle.meaning_runs.proofs.Heaps.{HasHeap}
use Rattle.meaning_runs.proofs.Values.{HasStored, owner_ended}
use Rattle.meaning_runs.proofs.Bindings.{HasBindings, HasStatics, HasShapes, established_bindings, reverted_bindings}
use Rattle.meaning_runs.proofs.Frames.{stands_under, stands_wider, first_outline, rest_outlines}

-- ---- blocks

abbrev pub placed : Y.Program → Table → List W.Around → Returning → Where
placed p table blocks returning =
    record { program = p; table = table; around = blocks; returning = returning }

-- a block itself, as it stands around its own list
abbrev pub block_around : Y.BlockHead → Y.Stmts → W.Around
block_around head body =
    record { number = head.number; level = head.level; outermost = T.labels_in body; inner = [] }

-- the statements of a block are sound, somewhere in the program
pub record SoundBlock (p : Y.Program) (table : Table) (b : Y.Block) : Type 0 where
  pub head : Y.BlockHead
  pub body : Y.Stmts
  pub is : b ≡ Y.BlockOf head body
  pub outer : List W.Around
  pub returning : Returning
  pub statements : SoundStmts (placed p table (block_around head body ∷ outer) returning) body

-- a unit takes a RETURN in it for its own; where it is established, the blocks around it stand at a height
pub record SoundUnit (p : Y.Program) (table : Table) (fs : List Frame) (height : ℕ) (b : Y.Block) : Type 0 where
  pub block : SoundBlock p table b
  pub own : is_own_return block.head.kind ≡ true
  pub chain : Chain table (block_around block.head block.body ∷ block.outer)
  pub listed : IsListedUnit table block.head (block_around block.head block.body ∷ block.outer) block.head.kind
  pub stands : Stands fs height block.outer

abbrev pub SoundOnUnit : Y.Program → Table → (fs : List Frame) → (height : ℕ) → OnUnit → Type 0
SoundOnUnit p table fs height SystemUnit = ⊤
SoundOnUnit p table fs height (BlockUnit b) = SoundUnit p table fs height b

-- each unit is one of its own activation's block, whichever of its lists are carried out
abbrev pub HasUnits : Y.Program → Table → List Frame → List Activation → Type 0
HasUnits p table [] as' = ⊤
HasUnits p table (f ∷ fs) [] = ⊤
HasUnits p table (f ∷ fs) (a ∷ as') =
    Every (λ u. SoundOnUnit p table (closed f ∷ fs) (suc (length fs)) u.1) a.units × HasUnits p table fs as'

-- ---- what is asked

-- what a RETURN gives where it goes out of a block: nothing where none does, and in a function a value
abbrev pub IsThere : Option BasicValue → Type 0
IsThere None = ⊥
IsThere (Some v) = ⊤

abbrev pub Answered : Returning → Option BasicValue → Type 0
Answered (Returns (Some type)) v = IsThere v
Answered (Returns None) v = ⊤
Answered NoReturn v = ⊤

abbrev pub Answers : Option Returning → Option BasicValue → Type 0
Answers None v = ⊥
Answers (Some r) v = Answered r v

-- what is asked of RETURN, and the frames of the activations
pub record Bearing : Type 0 where
  pub answers : Option Returning
  pub frames : List Frame

pub record Demand : Type 0 where
  pub program : Y.Program
  pub table : Table
  pub bearing : Bearing

abbrev pub Kept : Demand → State → Type 0
Kept d s =
    (HasUnits d.program d.table d.bearing.frames s.activations × HasShapes d.program d.bearing.frames s)
    × (skeleton s.activations ≡ outlines d.bearing.frames)

-- a jump goes to a label of a list that is carried out
abbrev pub Jumps : List Frame → (height : ℕ) → Label → Type 0
Jumps [] height label = ⊥
Jumps (f ∷ fs) height label = ((height ≡ suc (length fs)) × (is_among label f.labels ≡ true)) ⊎ Jumps fs height label

abbrev pub Anything : {R : Type 0} → R → Type 0
Anything r = ⊤

-- a flow has made so many acts at least, of those that are allowed: a result so many, a jump so many; results and
-- returned values are as is asked
abbrev pub Comes : {R : Type 0} → Demand → (after : R → Type 0) → (by jumping acts allowed : ℕ) → Flow R → Type 0
Comes d after by jumping acts k (Normal r s) =
    (acts + by ≤ s.world.acts) × ((s.world.acts ≤ k) × (Kept d s × after r))
Comes d after by jumping acts k (Jump height label s) =
    (acts + jumping ≤ s.world.acts)
    × ((s.world.acts ≤ k) × (Kept d s × Jumps d.bearing.frames height label))
Comes d after by jumping acts k (Return v s) =
    (acts ≤ s.world.acts) × ((s.world.acts ≤ k) × (Kept d s × Answers d.bearing.answers v))
Comes d after by jumping acts k (Ended s) = (s.world.acts ≤ k) × IsOver s.world.end
Comes d after by jumping acts k (Paused s) = s.world.acts ≡ k
Comes d after by jumping acts k Stuck = ⊥

-- so is what a part comes to where at most so many acts are left
pub record There (d : Demand) (by jumping left : ℕ) {R : Type 0} (after : R → Type 0) (m : Meaning R) : Type 0 where
  pub comes : (k : ℕ) (s : State) → s.world.acts ≤ k → k ≤ s.world.acts + left → Kept d s
      → Comes d after by jumping s.world.acts k (m k s)

-- ---- units that are kept

-- the newest activation ends
pub ended_kept : (d : Demand) (f : Frame) (s : State)
    → HasUnits d.program d.table (f ∷ d.bearing.frames) s.activations × HasShapes d.program (f ∷ d.bearing.frames) s
    → skeleton s.activations ≡ outlines (f ∷ d.bearing.frames) → Kept d (newest_ended s)
ended_kept d f s h e = of_list s.activations s h e
  where
    of_list : (as' : List Activation) (s : State)
        → HasUnits d.program d.table (f ∷ d.bearing.frames) as'
        × (HasBindings d.program (f ∷ d.bearing.frames) as'
        × ((HasStatics d.program s.statics × HasStored s) × HasHeap d.program s.heap s.controlled))
        → skeleton as' ≡ outlines (f ∷ d.bearing.frames) → Kept d (without_newest as' s)
    of_list [] s a e = absurd (cc e)
    of_list (y ∷ ys) s a e =
        let stored = a.1.1.0.1 in (
          (a.0.1, (a.1.0.1, ((a.1.1.0.0, (owner_ended y.height s.living stored.0, stored.1)), a.1.1.1))),
          cc e,
        )

established_heights : (c : Condition) (u : OnUnit) (as' : List Activation)
    → skeleton (established c u as') ≡ skeleton as'
established_heights c u [] = refl
established_heights c u (a ∷ as') = refl

reverted_heights : (c : Condition) (as' : List Activation) → skeleton (reverted c as') ≡ skeleton as'
reverted_heights c [] = refl
reverted_heights c (a ∷ as') = refl

without_kept : (Q : OnUnit → Type 0) (c : Condition) (us : List (Condition × OnUnit))
    → Every (λ u. Q u.1) us → Every (λ u. Q u.1) (without_unit c us)
without_kept Q c [] h = tt
without_kept Q c (u ∷ us) h =
    by_test (same_condition u.0 c) us (u ∷ without_unit c us) h.1 (h.0, without_kept Q c us h.1)
  where
    by_test : (t : Bool) (xs ys : List (Condition × OnUnit)) → Every (λ u. Q u.1) xs
        → Every (λ u. Q u.1) ys → Every (λ u. Q u.1) (cond t xs ys)
    by_test true xs ys a b = a
    by_test false xs ys a b = b

-- a unit that the newest activation may establish
abbrev pub IsOfNewest : Y.Program → Table → List Frame → OnUnit → Type 0
IsOfNewest p table [] u = ⊤
IsOfNewest p table (f ∷ fs) u = SoundOnUnit p table (closed f ∷ fs) (suc (length fs)) u

established_units : (p : Y.Program) (table : Table) (c : Condition) (u : OnUnit) (fs : List Frame)
    (as' : List Activation) → IsOfNewest p table fs u → HasUnits p table fs as'
    → HasUnits p table fs (established c u as')
established_units p table c u [] as' a h = tt
established_units p table c u (f ∷ fs) [] a h = tt
established_units p table c u (f ∷ fs) (x ∷ xs) a h =
    ((a, without_kept (SoundOnUnit p table (closed f ∷ fs) (suc (length fs))) c x.units h.0), h.1)

reverted_units : (p : Y.Program) (table : Table) (c : Condition) (fs : List Frame) (as' : List Activation)
    → HasUnits p table fs as' → HasUnits p table fs (reverted c as')
reverted_units p table c [] as' h = tt
reverted_units p table c (f ∷ fs) [] h = tt
reverted_units p table c (f ∷ fs) (x ∷ xs) h =
    (without_kept (SoundOnUnit p table (closed f ∷ fs) (suc (length fs))) c x.units h.0, h.1)

pub established_kept : (d : Demand) (c : Condition) (u : OnUnit) (s : State)
    → IsOfNewest d.program d.table d.bearing.frames u → Kept d s
    → Kept d (with_activations (established c u s.activations) s)
established_kept d c u s a h = (
  (
    established_units d.program d.table c u d.bearing.frames s.activations a h.0.0,
    (established_bindings d.program c u d.bearing.frames s.activations h.0.1.0, h.0.1.1),
  ),
  established_heights c u s.activations ∙ h.1,
)

pub reverted_kept : (d : Demand) (c : Condition) (s : State) → Kept d s
    → Kept d (with_activations (reverted c s.activations) s)
reverted_kept d c s h = (
  (
    reverted_units d.program d.table c d.bearing.frames s.activations h.0.0,
    (reverted_bindings d.program c d.bearing.frames s.activations h.0.1.0, h.0.1.1),
  ),
  reverted_heights c s.activations ∙ h.1,
)

-- ---- the unit in force is one of them

abbrev pub IsForced : Y.Program → Table → List Frame → Option (Activation × OnUnit) → Type 0
IsForced p table fs None = ⊤
IsForced p table fs (Some x) = SoundOnUnit p table fs x.0.height x.1

abbrev IsUnitIf : (OnUnit → Type 0) → Option OnUnit → Type 0
IsUnitIf Q None = ⊤
IsUnitIf Q (Some u) = Q u

unit_sound : (Q : OnUnit → Type 0) (us : List (Condition × OnUnit)) (c : Condition) → Every (λ u. Q u.1) us
    → IsUnitIf Q (unit_for us c)
unit_sound Q [] c h = tt
unit_sound Q (u ∷ us) c h = by_test (same_condition u.0 c) (unit_for us c) (unit_sound Q us c h.1)
  where
    by_test : (t : Bool) (o : Option OnUnit) → IsUnitIf Q o → IsUnitIf Q (cond t (Some u.1) o)
    by_test true o b = h.0
    by_test false o b = b

-- under one more activation
forced_under : (p : Y.Program) (table : Table) (f : Frame) (fs : List Frame) (o : Option (Activation × OnUnit))
    → IsForced p table fs o → IsForced p table (f ∷ fs) o
forced_under p table f fs None h = tt
forced_under p table f fs (Some (a, SystemUnit)) h = tt
forced_under p table f fs (Some (a, BlockUnit b)) h =
    record {
      block = h.block;
      own = h.own;
      chain = h.chain;
      listed = h.listed;
      stands = stands_under f fs a.height h.block.outer h.stands;
    }

-- where the lists are carried out that it may count on
unit_opened : (p : Y.Program) (table : Table) (f : Frame) (fs : List Frame) (height : ℕ) (u : OnUnit) → IsOpen f
    → height ≡ suc (length fs) → SoundOnUnit p table (closed f ∷ fs) (suc (length fs)) u
    → SoundOnUnit p table (f ∷ fs) height u
unit_opened p table f fs height SystemUnit o e h = tt
unit_opened p table f fs height (BlockUnit b) o e h =
    record {
      block = h.block;
      own = h.own;
      chain = h.chain;
      listed = h.listed;
      stands =
          subst (λ z. Stands (f ∷ fs) z h.block.outer) (sym e)
          (stands_wider (closed f) f fs (suc (length fs)) h.block.outer refl refl refl o h.stands);
    }

pub force_sound : (p : Y.Program) (table : Table) (fs : List Frame) (as' : List Activation) (c : Condition)
    → Every IsOpen fs → HasUnits p table fs as' → skeleton as' ≡ outlines fs → IsForced p table fs (force as' c)
force_sound p table [] [] c o h e = tt
force_sound p table [] (a ∷ as') c o h e = absurd (cc e)
force_sound p table (f ∷ fs) [] c o h e = tt
force_sound p table (f ∷ fs) (a ∷ as') c o h e =
    let further : IsForced p table fs (force as' c) = force_sound p table fs as' c o.1 h.1 (ap rest_outlines e) in
    first (unit_for a.units c) further
    (unit_sound (SoundOnUnit p table (closed f ∷ fs) (suc (length fs))) a.units c h.0)
  where
    first : (x : Option OnUnit) → IsForced p table fs (force as' c)
        → IsUnitIf (SoundOnUnit p table (closed f ∷ fs) (suc (length fs))) x
        → IsForced p table (f ∷ fs) (first_unit a x (force as' c))
    first None k u = forced_under p table f fs (force as' c) k
    first (Some x) k u = unit_opened p table f fs a.height x o.0 (ap (λ os. (first_outline os).height) e) u
