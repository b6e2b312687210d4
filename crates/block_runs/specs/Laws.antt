-- The laws of blocks in a run, at every base and with any credits.
use Rattle.std.specs.Prelude.{ℕ, ◌+◌, ◌^◌, ◌<◌, ◌≤◌, ◌≡◌, List, Option}
use Rattle.rv_meaning.specs.declared.instr.Instr.{Instr}
use Rattle.pli_coding.specs.Assembly.{size_of}
use Rattle.run_steps.specs.Engine.{Base, most_code}
use Rattle.run_steps.specs.Items.{Linked}
use Rattle.run_steps.specs.Reach.{Family, Reach, Aims, Comes, cost}
use Rattle.pli_meaning.specs.Control.{act}
use Rattle.pli_meaning.specs.World.{counted}
use Rattle.pli_coding.specs.Allocating.{act_code}
use Rattle.activation_relation.specs.Changes.{popped}
use Rattle.activation_relation.specs.Entering.{BlockEnd}
use Rattle.activation_relation.specs.Layers.{Point, services_of}
use Rattle.activation_relation.specs.Points.{Surroundings, Stands}
use Rattle.block_runs.specs.Machines.{IsImage, IsIn, AreIn, acted, limits_of}
use Rattle.block_runs.specs.Endings.{IsEnding, IsWord, HasGiven, ending_code}
use Rattle.block_runs.specs.Beginnings.{Beginning, IsBeginning, IsCalled, IsCalling, CallStands, begun_point}
use Rattle.block_runs.specs.Beginnings.{beginning_code}

pub record BlocksBegin : Type 0 where
  -- from a call to the new block's own code: each word costs one credit
  pub comes :
      (w : Surroundings) (code : List Instr) (p : Point) (numbers : ℕ → ℕ) (x : Beginning) (credits index : ℕ)
      (f : Family) → Stands w p × IsImage w code p × IsBeginning w p numbers x →
      Linked w.links code index (beginning_code x) →
      ((b : Base) → IsIn w p numbers index b (f b) × IsCalled p x b (f b)) →
      Reach code credits f (services_of p) (credits + size_of (beginning_code x)) (services_of (begun_point x p))
      (λ b y. IsIn w (begun_point x p) numbers (index + size_of (beginning_code x)) b y)
  -- and so it does from the instruction that calls it
  pub called :
      (w : Surroundings) (code : List Instr) (p : Point) (numbers : ℕ → ℕ) (x : Beginning) (credits call entry : ℕ)
      (f : Family) → Stands w p × IsImage w code p × IsBeginning w p numbers x → CallStands w code x call entry →
      AreIn w p numbers call f → ((b : Base) → IsCalling p x b (f b)) →
      Reach code credits f (services_of p) (credits + 2 + size_of (beginning_code x)) (services_of (begun_point x p))
      (λ b y. IsIn w (begun_point x p) numbers (entry + size_of (beginning_code x)) b y)
  -- and what holds at a point holds at the new one
  pub stands :
      (w : Surroundings) (code : List Instr) (p : Point) (numbers : ℕ → ℕ) (x : Beginning) →
      Stands w p × IsImage w code p × IsBeginning w p numbers x →
      Stands w (begun_point x p) × IsImage w code (begun_point x p)

pub record BlocksEnd : Type 0 where
  -- from the code of its end to the instruction behind its call: the numbers in registers are those that they were
  -- where it was called, and a function's word is in a0
  pub comes :
      (w : Surroundings) (code : List Instr) (q : Point) (e : BlockEnd) (function : Option ℕ) (given : Base → ℕ)
      (credits : ℕ) (f : Family) →
      Stands w q × IsImage w code q × IsEnding q e × (e.back ≤ most_code) × IsWord function →
      ((b : Base) → IsIn w q e.after e.index b (f b) × HasGiven e.layer function (given b) (f b)) →
      Linked w.links code e.index (ending_code e.layer function) →
      Reach code credits f (services_of q) (credits + size_of (ending_code e.layer function))
      (services_of (popped e.kept q))
      (λ b y. IsIn w (popped e.kept q) e.before e.back b y × (y.machine.registers 10 ≡ given b))
  pub stands :
      (w : Surroundings) (code : List Instr) (q : Point) (e : BlockEnd) →
      Stands w q × IsImage w code q × IsEnding q e → Stands w (popped e.kept q) × IsImage w code (popped e.kept q)

-- where an act goes on: the run comes, with as many credits as are wanted, to machines at the point behind it
abbrev pub act_aims :
    Surroundings → List Instr → Point → (numbers : ℕ → ℕ) → (line wanted index : ℕ) → Aims (Unit {0})
act_aims w code p numbers line wanted index =
    record {
      limits = limits_of w;
      done = λ c f v r s.
          (s ≡ (acted line p).state)
          × Reach code c f v wanted (services_of (acted line p)) (λ b y. IsIn w (acted line p) numbers index b y);
      jumped = λ c f v height label s. ⊥;
      returned = λ c f v r s. ⊥;
    }

pub record ActsCome : Type 0 where
  -- the run pauses before an act that isn't allowed any more
  pub comes :
      (w : Surroundings) (code : List Instr) (p : Point) (numbers : ℕ → ℕ) (line credits wanted index : ℕ)
      (f : Family) → Stands w p × IsImage w code p →
      (line < 2 ^ 31) × (w.acts + 1 < 2 ^ 64) × (credits + size_of (act_code line) ≤ cost code) →
      Linked w.links code index (act_code line) → AreIn w p numbers index f →
      Comes code credits f (services_of p) (act_aims w code p numbers line wanted (index + size_of (act_code line)))
      (act counted w.acts p.state)
  pub stands :
      (w : Surroundings) (code : List Instr) (p : Point) (line : ℕ) → Stands w p → IsImage w code p →
      p.state.world.acts < w.acts → Stands w (acted line p) × IsImage w code (acted line p)
