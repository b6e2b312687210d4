-- How many serials the machines of a run have, where acts are counted with them.
use Rattle.std.proofs.Common.{◌≡◌, ℕ, zero, suc, ◌+◌, ◌≤◌, List, ap, ◌∙◌, arith}
use Rattle.rv_meaning.specs.declared.instr.Instr.{Instr}
use Rattle.rv_meaning.specs.Machine.{Loaded, Effect, Goes, Faults, Calls, effect}
use Rattle.pli_serving.specs.ServiceState.{Services}
use Rattle.pli_serving.specs.Answers.{Answer, Done, Ends, Bad}
use Rattle.image_runs.specs.Runs.{Whole, Run, Runs, Ended, Stopped, answered}
use Rattle.run_steps.specs.Showing.{Shows}
use Rattle.run_steps.specs.Unlimited.{next, of_effect, run_on}
use Rattle.run_steps.specs.Engine.{Base, at_base, served}
use Rattle.run_steps.proofs.Engine.{run_on-add, run_on-ended, run_on-stopped}
use Rattle.run_steps.proofs.Growing.{served_shows}
use Rattle.run_steps.specs.Giving.{GivesFew, Limits}
use Rattle.run_steps.specs.Reach.{Family, GiveFew, Reach, reached}

-- serials and acts together
abbrev together : Whole → ℕ
together w = w.services.serials + w.services.world.acts

abbrev Together : ℕ → Run → Type 0
Together n (Runs w) = together w ≤ n
Together n (Ended w) = Unit {0}
Together n (Stopped fault) = Unit {0}

answered_together : (w : Whole) (a : Answer) → Shows w.services a → Together (suc (together w)) (answered w.machine a)
answered_together w (Done v m x y) h = h.is.2
answered_together w (Ends v) h = tt
answered_together w Bad h = tt

effect_together : (p : Loaded) (w : Whole) (e : Effect) → Together (suc (together w)) (of_effect p w e)
unfolding served
effect_together p w (Goes s) = omega arith
effect_together p w (Faults fault) = tt
effect_together p w Calls = answered_together w (served p.code w) (served_shows p.code w)

pub together_within :
    (n : ℕ) (p : Loaded) (w x : Whole) → run_on n p (Runs w) ≡ Runs x →
    x.services.serials + x.services.world.acts ≤ w.services.serials + w.services.world.acts + n
unfolding run_on
together_within zero p w x e =
    let same : w ≡ x = cc e in
    let n = ap together same in
    omega (arith, n)
together_within (suc n) p w x e =
    by_next (next p w) (effect_together p w (effect p w.machine)) (λ u. together_within n p u x) e
  where
    by_next :
        (r : Run) → Together (suc (together w)) r →
        ((u : Whole) → run_on n p (Runs u) ≡ Runs x → together x ≤ together u + n) → run_on n p r ≡ Runs x →
        together x ≤ together w + suc n
    by_next (Runs u) h ih e' = let more = ih u e' in omega (arith, h, more)
    by_next (Ended u) h ih e' = let over = run_on-ended n p u in absurd (cc (over, e'))
    by_next (Stopped fault) h ih e' = let over = run_on-stopped n p fault in absurd (cc (over, e'))

pub gives_later :
    (code : List Instr) (limits : Limits) (b : Base) (count : ℕ) (w x : Whole) →
    run_on count (at_base code b) (Runs w) ≡ Runs x → GivesFew code limits b w → GivesFew code limits b x
gives_later code limits b count w x ran few n y e less =
    few (count + n) y
    (run_on-add count n (at_base code b) (Runs w) ∙ ap (run_on n (at_base code b)) ran ∙ e)
    less

pub give_later :
    {code : List Instr} {i : ℕ} {f : Family} {v : Services} {i' : ℕ} {v' : Services} {Q : Base → Whole → Type 0}
    (limits : Limits) (r : Reach code i f v i' v' Q) → GiveFew code limits f → GiveFew code limits (reached r)
unfolding reached
give_later {code = code} {f = f} limits r few b =
    gives_later code limits b r.count (f b) (r.goes b).after (r.goes b).ran (few b)
