-- Runs count no further than their instructions, since a call of a service counts at most one.
use Rattle.std.proofs.Common.{◌≡◌, ℕ, zero, suc, ◌+◌, ◌≤◌, ◌⊎◌, inl, inr, ap, arith}
use Rattle.rv_meaning.specs.Machine.{Loaded, Effect, Goes, Faults, Calls, effect}
use Rattle.pli_meaning.specs.World.{World}
use Rattle.pli_serving.specs.ServiceState.{Services}
use Rattle.pli_serving.specs.Answers.{Answer, Done, Ends, Bad}
use Rattle.pli_serving.specs.Finding.{Call}
use Rattle.pli_serving.specs.Serving.{serves}
use Rattle.image_runs.specs.Runs.{Whole, Run, Runs, Ended, Stopped, answered, called, of_effect, next, run_on}
use Rattle.run_steps.specs.Counting.{CountsOnce, CallsCountOnce, CountsWithin, RunCountsWithin, RunsCountWithin}
use Rattle.run_steps.specs.Engine.{call_at}
use Rattle.run_steps.specs.Showing.{Shows}
use Rattle.run_steps.proofs.Showing.{serves_shows}

pub calls_count_once : CallsCountOnce
calls_count_once c x = once (serves c x) (serves_shows c x)
  where
    once : {v : Services} (a : Answer) → Shows v a → CountsOnce v a
    once (Done v' m x y) h = h.is
    once (Ends v') h = h.is
    once Bad h = tt

-- one act more at most
few_acts : {v v' : World} → (v' ≡ v) ⊎ (v'.acts ≡ suc v.acts) → v'.acts ≤ v.acts + 1
few_acts (inl e) = let same = ap (λ (x : World). x.acts) e in omega (arith, same)
few_acts (inr e) = omega (arith, e)

answer_counts : (w : Whole) (a : Answer) → CountsOnce w.services a → RunCountsWithin 1 w.services (answered w.machine a)
answer_counts w (Done v m x y) h =
    let few = h.1 in
    let both = h.2 in
    (few_acts h.0, omega (arith, few), omega (arith, both))
answer_counts w (Ends v) h = omega (arith, h)
answer_counts w Bad h = tt

effect_counts : (p : Loaded) (w : Whole) (e : Effect) → RunCountsWithin 1 w.services (of_effect p w e)
effect_counts p w (Goes s) = (omega arith, omega arith, omega arith)
effect_counts p w (Faults fault) = tt
effect_counts p w Calls =
    answer_counts w (called p w)
    (calls_count_once (call_at p.code w.services w.machine.memory) w.machine.registers)

-- one instruction and so many behind it
counts_on : (n : ℕ) (u v v' : Services) → CountsWithin 1 u v → CountsWithin n v v' → CountsWithin (suc n) u v'
counts_on n u v v' h i =
    let a = h.0 in
    let b = h.1 in
    let both = h.2 in
    let c = i.0 in
    let d = i.1 in
    let all = i.2 in
    (omega (arith, a, c), omega (arith, b, d), omega (arith, both, all))

pub runs_count_within : RunsCountWithin
unfolding run_on
runs_count_within zero p w = (omega arith, omega arith, omega arith)
runs_count_within (suc n) p w =
    behind n p w (next p w) (effect_counts p w (effect p w.machine)) (λ u. runs_count_within n p u)
  where
    joined : (n : ℕ) (w u : Whole) (r : Run) → CountsWithin 1 w.services u.services → RunCountsWithin n u.services r
        → RunCountsWithin (suc n) w.services r
    joined n w u (Runs x) h i = counts_on n w.services u.services x.services h i
    joined n w u (Ended x) h i = let a = h.0 in omega (arith, a, i)
    joined n w u (Stopped fault) h i = tt

    behind : (n : ℕ) (p : Loaded) (w : Whole) (r : Run) → RunCountsWithin 1 w.services r
        → ((u : Whole) → RunCountsWithin n u.services (run_on n p (Runs u)))
        → RunCountsWithin (suc n) w.services (run_on n p r)
    behind zero p w (Ended x) h ih = h
    behind (suc n) p w (Ended x) h ih = omega (arith, h)
    behind zero p w (Stopped fault) h ih = tt
    behind (suc n) p w (Stopped fault) h ih = tt
    behind n p w (Runs u) h ih = joined n w u (run_on n p (Runs u)) h (ih u)
