-- How many serials the machines of a run have that have made fewer acts than are allowed.
use Rattle.std.specs.Prelude.{◌≡◌, ℕ, ◌<◌, ◌≤◌, List}
use Rattle.rv_meaning.specs.declared.instr.Instr.{Instr}
use Rattle.image_runs.specs.Runs.{Whole, Runs}
use Rattle.run_steps.specs.Unlimited.{run_on}
use Rattle.run_steps.specs.Engine.{Base, at_base}

-- how many acts are allowed, and how many serials there are at most before the last of them
pub record Limits : Type 0 where
  pub acts : ℕ
  pub serials : ℕ

-- from a machine on, none that has an act left has more serials
abbrev pub GivesFew : List Instr → Limits → Base → Whole → Type 0
GivesFew code limits b w =
    (n : ℕ) (x : Whole) → run_on n (at_base code b) (Runs w) ≡ Runs x → x.services.world.acts < limits.acts →
    x.services.serials ≤ limits.serials
