-- Runs of a machine with the services of images: what is shown changes with an act alone, and acts only grow.
use Rattle.std.proofs.Common.{◌≡◌, ℕ, zero, suc, ◌⊎◌, inl, inr, List, refl, sym, ap, ◌∙◌, subst, arith}
use Rattle.rv_meaning.specs.declared.instr.Instr.{Instr}
use Rattle.rv_meaning.specs.Machine.{Loaded, Effect, Goes, Faults, Calls, effect}
use Rattle.pli_meaning.specs.World.{World}
use Rattle.pli_serving.specs.Answers.{Answer, Done, Ends, Bad}
use Rattle.image_runs.specs.Runs.{Whole, Run, Runs, Ended, Stopped, answered}
use Rattle.run_steps.specs.Unlimited.{next, of_effect, run_on}
use Rattle.run_steps.proofs.Unlimited.{unlimited_shows}
use Rattle.run_steps.specs.Engine.{call_at, served}
use Rattle.run_steps.proofs.Engine.{run_on-ended, run_on-stopped}
use Rattle.run_steps.specs.Showing.{Shows}
use Rattle.run_steps.specs.Growing.{After, Grows}

pub served_shows : (code : List Instr) (w : Whole) → Shows w.services (served code w)
unfolding served
served_shows code w = unlimited_shows (call_at code w.services w.machine.memory) w.machine.registers

answered_after : (w : Whole) (a : Answer) → Shows w.services a → After w (answered w.machine a)
answered_after w (Done v m x y) h = h.is.0
answered_after w (Ends v) h = h.is
answered_after w Bad h = tt

of_effect_after : (p : Loaded) (w : Whole) (e : Effect) → After w (of_effect p w e)
unfolding served
of_effect_after p w (Goes s) = inl refl
of_effect_after p w (Faults fault) = tt
of_effect_after p w Calls = answered_after w (served p.code w) (served_shows p.code w)

next_after : (p : Loaded) (w : Whole) → After w (next p w)
next_after p w = of_effect_after p w (effect p w.machine)

grows_first : (n : ℕ) (w w' : Whole) (r : Run) →
    (w'.services.world ≡ w.services.world) ⊎ (w'.services.world.acts ≡ suc w.services.world.acts) → Grows n w' r →
    Grows (suc n) w r
grows_first n w w' (Runs u) (inl e) h =
    let a = ap (λ (x : World). x.acts) e in
    (omega (arith, a, h.0), λ same. h.1 (same ∙ sym a) ∙ e, omega (arith, a, h.2))
grows_first n w w' (Runs u)
    (inr e) h = (omega (arith, e, h.0), λ same. absurd (omega (arith, e, h.0, same)), omega (arith, e, h.2))
grows_first n w w' (Ended u) (inl e) h = let a = ap
    (λ (x : World). x.acts) e in (omega (arith, a, h.0), omega (arith, a, h.1))
grows_first n w w' (Ended u) (inr e) h = (omega (arith, e, h.0), omega (arith, e, h.1))
grows_first n w w' (Stopped fault) e h = tt

pub runs_grow : (n : ℕ) (p : Loaded) (w : Whole) → Grows n w (run_on n p (Runs w))
unfolding run_on
runs_grow zero p w = (omega arith, λ e. refl, omega arith)
runs_grow (suc n) p w = by_next n p w (next p w) (next_after p w) (λ u. runs_grow n p u)
  where
    by_next : (n : ℕ) (p : Loaded) (w : Whole) (r : Run) → After w r →
        ((u : Whole) → Grows n u (run_on n p (Runs u))) → Grows (suc n) w (run_on n p r)
    by_next n p w (Runs u) a ih = grows_first n w u (run_on n p (Runs u)) a (ih u)
    by_next n p w (Ended u) a ih = subst (Grows (suc n) w) (sym (run_on-ended n p u))
        (omega (arith, a), omega (arith, a))
    by_next n p w (Stopped fault) a ih = subst (Grows (suc n) w) (sym (run_on-stopped n p fault)) tt
