-- A part that runs with credits which are paid back at its end: so a call leaves its caller with the credits of the
-- place behind it, however long the called procedure runs from its last act on, and however many calls end together.
use Rattle.std.specs.Prelude.{◌≡◌, ℕ, ◌+◌, ◌*◌, ◌≤◌, List}
use Rattle.rv_meaning.specs.declared.instr.Instr.{Instr}
use Rattle.pli_serving.specs.ServiceState.{Services}
use Rattle.image_runs.specs.Runs.{Runs}
use Rattle.run_steps.specs.Unlimited.{run_on}
use Rattle.run_steps.specs.Engine.{Base, at_base}
use Rattle.run_steps.specs.Reach.{Family, cost, Aims}

-- from credits, a machine and services to others, whatever holds there
pub record Between (code : List Instr) (i : ℕ) (f : Family) (v : Services) (i' : ℕ) (f' : Family)
    (v' : Services) : Type 0 where
  pub count : ℕ
  pub paid : count + i + cost code * v.world.acts ≤ i' + cost code * v'.world.acts
  pub grows : v.world.acts ≤ v'.world.acts
  pub goes : (b : Base) → run_on count (at_base code b) (Runs (f b)) ≡ Runs (f' b)

-- ---- what is aimed at, for whoever began with so many credits less

abbrev pub owing : {R : Type 0} → List Instr → (debt : ℕ) → Aims R → Aims R
owing code debt aims =
    record {
      limits = aims.limits;
      done = λ i f v x s. (i0 : ℕ) (f0 : Family) (v0 : Services) → Between code (i0 + debt) f0 v0 i f v →
          aims.done i0 f0 v0 x s;
      jumped = λ i f v height label s. (i0 : ℕ) (f0 : Family) (v0 : Services) → Between code (i0 + debt) f0 v0 i f v →
          aims.jumped i0 f0 v0 height label s;
      returned = λ i f v x s. (i0 : ℕ) (f0 : Family) (v0 : Services) → Between code (i0 + debt) f0 v0 i f v →
          aims.returned i0 f0 v0 x s;
    }
