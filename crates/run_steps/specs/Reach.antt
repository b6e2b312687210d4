-- From one place of a run to another, at every base at once. Instructions are paid by credits: a place has some, as
-- many as its index in straight code, and an act gives twice the code and 2.
use Rattle.std.specs.Prelude.{◌≡◌, ◌≢◌, ℕ, suc, ◌+◌, ◌*◌, ◌<◌, ◌≤◌, List, length, Option, Some, None}
use Rattle.rv_meaning.specs.declared.instr.Instr.{Instr}
use Rattle.pli_meaning.specs.declared.outcome.End.TheVariants.{Running}
use Rattle.pli_serving.specs.ServiceState.{Services}
use Rattle.pli_meaning.specs.BasicValues.{BasicValue}
use Rattle.pli_meaning.specs.StorageState.{State}
use Rattle.pli_meaning.specs.Control as F
use Rattle.pli_meaning.specs.Control.{Flow, Normal, Jump, Return, Paused, Stuck, Label, Meaning}
use Rattle.image_runs.specs.Runs.{Whole, Run, Runs, Ended, Stopped}
use Rattle.run_steps.specs.Unlimited.{next, run_on}
use Rattle.run_steps.specs.Engine.{Base, at_base}
use Rattle.run_steps.specs.Giving.{GivesFew, Limits}

-- a machine with its services at each base
abbrev pub Family : Type 0
Family = Base → Whole

abbrev pub cost : List Instr → ℕ
cost code = 2 * length code + 2

-- ---- reaching

-- after this many instructions from a machine on, something holds
pub record Going (code : List Instr) (b : Base) (count : ℕ) (w : Whole) (Q : Whole → Type 0) : Type 0 where
  pub after : Whole
  pub ran : run_on count (at_base code b) (Runs w) ≡ Runs after
  pub holds : Q after

-- from credits i with services v to credits i' with services v', the same number of instructions at every base
pub record Reach (code : List Instr) (i : ℕ) (f : Family) (v : Services) (i' : ℕ) (v' : Services)
    (Q : Base → Whole → Type 0) : Type 0 where
  pub count : ℕ
  pub paid : count + i + cost code * v.world.acts ≤ i' + cost code * v'.world.acts
  pub grows : v.world.acts ≤ v'.world.acts
  pub goes : (b : Base) → Going code b count (f b) (Q b)

unfoldable pub reached : {code : List Instr} {i : ℕ} {f : Family} {v : Services} {i' : ℕ} {v' : Services}
    {Q : Base → Whole → Type 0} → Reach code i f v i' v' Q → Family
reached r b = (r.goes b).after

-- ---- pauses and ends

-- the acts of a run, where it met no fault
abbrev pub acts_of : Run → Option ℕ
acts_of (Runs w) = Some w.services.world.acts
acts_of (Ended w) = Some w.services.world.acts
acts_of (Stopped fault) = None

-- the next instruction makes an act
pub record ActNext (code : List Instr) (b : Base) (v : Services) (w : Whole) : Type 0 where
  pub services : w.services ≡ v
  pub act : acts_of (next (at_base code b) w) ≡ Some (suc v.world.acts)

-- a place is reached whose next instruction makes an act; its credits are less than those of an act
pub record Pausing (code : List Instr) (i : ℕ) (f : Family) (v : Services) (v' : Services) : Type 0 where
  pub at : ℕ
  pub inside : at < cost code
  pub running : v'.world.end ≡ Running
  pub to : Reach code i f v at v' (λ b w. ActNext code b v' w)

-- the run has ended after this many instructions
pub record Gone (code : List Instr) (b : Base) (count : ℕ) (w : Whole) (v' : Services) : Type 0 where
  pub after : Whole
  pub ran : run_on count (at_base code b) (Runs w) ≡ Ended after
  pub services : after.services ≡ v'

pub record Ending (code : List Instr) (i : ℕ) (f : Family) (v : Services) (v' : Services) : Type 0 where
  pub count : ℕ
  pub over : v'.world.end ≢ Running
  pub goes : (b : Base) → Gone code b count (f b) v'

-- ---- flows

-- where a part's code leads, as what holds of credits, machines and services: behind it with a result, and where a
-- jump or a return goes on; and how many serials the run gives before its last act
pub record Aims (R : Type 0) : Type 1 where
  pub limits : Limits
  pub done : ℕ → Family → Services → R → State → Type 0
  pub jumped : ℕ → Family → Services → (height : ℕ) → Label → State → Type 0
  pub returned : ℕ → Family → Services → Option BasicValue → State → Type 0

-- a part that is never left but by a pause or the end of the run
abbrev pub never : {R : Type 0} → Limits → Aims R
never limits =
    record {
      limits = limits;
      done = λ c f v r s. ⊥;
      jumped = λ c f v height label s. ⊥;
      returned = λ c f v r s. ⊥;
    }

-- what a flow of the meaning comes to in a run
abbrev pub ComesTo : {R : Type 0} → List Instr → ℕ → Family → Services → Aims R → Flow R → Type 0
ComesTo code i f v aims (Normal r s) = aims.done i f v r s
ComesTo code i f v aims (Jump height label s) = aims.jumped i f v height label s
ComesTo code i f v aims (Return r s) = aims.returned i f v r s
ComesTo code i f v aims (F.Ended s) = (v' : Services) × (v'.world ≡ s.world) × Ending code i f v v'
ComesTo code i f v aims (Paused s) = (v' : Services) × (v'.world ≡ s.world) × Pausing code i f v v'
ComesTo code i f v aims Stuck = ⊥

-- no more serials come before the last act than the limit
abbrev pub GiveFew : List Instr → Limits → Family → Type 0
GiveFew code limits f = (b : Base) → GivesFew code limits b (f b)

pub record Comes {R : Type 0} (code : List Instr) (i : ℕ) (f : Family) (v : Services) (aims : Aims R)
    (flow : Flow R) : Type 0 where
  pub to : GiveFew code aims.limits f → ComesTo code i f v aims flow

-- what is aimed at may be reached later
pub record Closed {R : Type 0} (code : List Instr) (aims : Aims R) : Type 1 where
  pub done : {i : ℕ} {f : Family} {v : Services} {i' : ℕ} {v' : Services} {Q : Base → Whole → Type 0}
      (r : Reach code i f v i' v' Q) (x : R) (s : State) → aims.done i' (reached r) v' x s → aims.done i f v x s
  pub jumped : {i : ℕ} {f : Family} {v : Services} {i' : ℕ} {v' : Services} {Q : Base → Whole → Type 0}
      (r : Reach code i f v i' v' Q) (height : ℕ) (label : Label) (s : State) →
      aims.jumped i' (reached r) v' height label s → aims.jumped i f v height label s
  pub returned : {i : ℕ} {f : Family} {v : Services} {i' : ℕ} {v' : Services} {Q : Base → Whole → Type 0}
      (r : Reach code i f v i' v' Q) (x : Option BasicValue) (s : State) → aims.returned i' (reached r) v' x s →
      aims.returned i f v x s

-- a part whose result another part goes on with
abbrev pub before : {Q R : Type 0} → List Instr → Aims R → ℕ → (Q → Meaning R) → Aims Q
before code aims k next' =
    record {
      limits = aims.limits;
      done = λ i f v q s. Comes code i f v aims (next' q k s);
      jumped = aims.jumped;
      returned = aims.returned;
    }
