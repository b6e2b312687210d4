-- While an act is left, few serials have come.
use Rattle.std.proofs.Common.{◌≡◌, ℕ, ◌+◌, ◌<◌, ◌≤◌, List, refl, sym, ap, subst, arith}
use Rattle.rv_meaning.specs.declared.instr.Instr.{Instr}
use Rattle.pli_serving.specs.ServiceState.{Services}
use Rattle.pli_meaning.specs.Control.{Flow}
use Rattle.run_steps.specs.Unlimited.{run_on}
use Rattle.run_steps.specs.Engine.{Base}
use Rattle.run_steps.specs.Reach.{Aims, Comes, Family, GiveFew}
use Rattle.activation_relation.specs.Layers.{Point, services_of}
use Rattle.activation_relation.specs.Points.{IsEarly, Surroundings, early_serials}
use Rattle.block_runs.specs.Machines.{AreIn, limits_of}

-- one of the bases
some_base : Base
some_base = record { at = 0; valid = (refl, omega arith) }

pub known_early :
    {w : Surroundings} {p : Point} {numbers : ℕ → ℕ} {index : ℕ} {f : Family} (code : List Instr) →
    AreIn w p numbers index f → GiveFew code (limits_of w) f → IsEarly w p
unfolding run_on
known_early {w = w} {p = p} {f = f} code there few less =
    let same = (there some_base).services in
    subst (λ (v : Services). v.serials ≤ early_serials) same
    (few some_base 0 (f some_base) refl (subst (λ (v : Services). v.world.acts < w.acts) (sym same) less))

-- so that may be taken for granted where the run is to come to something
pub comes_early :
    {R : Type 0} {code : List Instr} {c : ℕ} {f : Family} {aims : Aims R} {flow : Flow R} {p : Point}
    {numbers : ℕ → ℕ} {index : ℕ} (w : Surroundings) → aims.limits ≡ limits_of w → AreIn w p numbers index f →
    (IsEarly w p → Comes code c f (services_of p) aims flow) → Comes code c f (services_of p) aims flow
comes_early {code = code} {f = f} w same there goal =
    record { to = λ early. (goal (known_early code there (subst (λ n. GiveFew code n f) same early))).to early }
