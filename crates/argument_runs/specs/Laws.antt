-- The laws of lists of arguments.
use Rattle.std.specs.Prelude.{ℕ, ◌+◌, ◌^◌, ◌<◌, ◌≤◌, ◌≡◌, ◌∷◌, ◌++◌, List, Option}
use Rattle.rv_meaning.specs.declared.instr.Instr.{Instr}
use Rattle.rv_meaning.specs.Machine as V
use Rattle.rv_meaning.specs.Machine.{value}
use Rattle.pli_coding.specs.Assembly.{size_of}
use Rattle.pli_coding.specs.Registers.{a0, a1, a2}
use Rattle.activation_relation.specs.Layers.{Layer, Point, services_of}
use Rattle.activation_relation.specs.Points.{Stands, Surroundings}
use Rattle.run_steps.specs.Engine.{Base}
use Rattle.run_steps.specs.Items.{Linked}
use Rattle.run_steps.specs.Reach.{Family, Reach}
use Rattle.block_runs.specs.Machines.{IsImage, IsIn}
use Rattle.argument_runs.specs.Lists.{given_waits, list_given, list_under, value_given, with_list}

-- what a procedure with a list of arguments is given in registers: the newest frame, the list, and no texts
pub record HasList (φ : Layer) (b : Base) (y : V.State) : Type 0 where
  pub frame : value y a0 ≡ b.at + φ.at
  pub list : value y a1 ≡ b.at + list_under φ.at
  pub texts : value y a2 ≡ 0

pub record ArgumentsGiven : Type 0 where
  -- a value in a0 goes into the list, which the procedure is given
  pub comes :
      (w : Surroundings) (code : List Instr) (p : Point) (φ : Layer) (φs : List Layer) (numbers : ℕ → ℕ)
      (given credits index : ℕ) (f : Family) → Stands w p × IsImage w code p → p.control.layers ≡ φ ∷ φs →
      (6 ≤ φ.words) × (given < 2 ^ 32) → Linked w.links code index (value_given ++ list_given) →
      ((b : Base) → IsIn w p numbers index b (f b) × (value (f b).machine a0 ≡ given)) →
      Reach code credits f (services_of p) (credits + size_of (value_given ++ list_given))
      (services_of (with_list (given_waits given) φ φs p))
      (λ b y. IsIn w (with_list (given_waits given) φ φs p) numbers (index + size_of (value_given ++ list_given)) b y
      × HasList φ b y.machine)
  pub stands :
      (w : Surroundings) (code : List Instr) (p : Point) (φ : Layer) (φs : List Layer) (waits : ℕ → Option ℕ) →
      Stands w p × IsImage w code p → p.control.layers ≡ φ ∷ φs →
      Stands w (with_list waits φ φs p) × IsImage w code (with_list waits φ φs p)
