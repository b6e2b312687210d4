-- Runs of images: what is shown goes on with each instruction.
use Rattle.std.proofs.Common.{◌≡◌, ℕ, zero, suc, ◌+◌, ◌-◌, ◌*◌, ◌≤◌, length, Some}
use Rattle.std.proofs.Common.{refl, sym, ap, ◌∙◌, subst, arith, zero-add}
use Rattle.rv_meaning.specs.declared.instr.Fault.{Fault}
use Rattle.rv_meaning.specs.Machine.{Loaded, Effect, Goes, Faults, Calls, effect}
use Rattle.pli_meaning.specs.Laws.{Extends}
use Rattle.pli_meaning.specs.Pictures.{loaded_at}
use Rattle.pli_meaning.specs.World.{World}
use Rattle.pli_serving.specs.Answers.{Answer, Done, Ends, Bad}
use Rattle.pli_serving.specs.Finding.{Call}
use Rattle.run_keeper.specs.RunKeeper.{run_keeper}
use Rattle.image_runs.specs.Runs.{Whole, Run, Runs, Ended, Stopped}
use Rattle.image_runs.specs.Runs.{answered, called, layout_of, of_effect, next, run_on, shown_by}
use Rattle.cut_runs.specs.Continuing.{Continues}
use Rattle.cut_runs.specs.Fronts.{RunsContinue, ShowsOn}
use Rattle.cut_runs.proofs.Extending.{extends_refl, extends_trans, same_world}
use Rattle.cut_runs.proofs.Serving.{serves_continues}

-- what a run shows goes on behind a world
abbrev Behind : World → Run → Type 0
Behind w (Runs u) = Extends w u.services.world
Behind w (Ended u) = Extends w u.services.world
Behind w (Stopped fault) = Unit {0}

behind_trans : (u w : World) (r : Run) → Extends u w → Behind w r → Behind u r
behind_trans u w (Runs x) e b = extends_trans e b
behind_trans u w (Ended x) e b = extends_trans e b
behind_trans u w (Stopped fault) e b = tt

-- ---- one instruction

answered_behind : (w : Whole) (a : Answer) → Continues w.services a → Behind w.services.world (answered w.machine a)
answered_behind w (Done v m x y) h = h.is
answered_behind w (Ends v) h = h.is
answered_behind w Bad h = tt

-- what a service is told
abbrev call_of : Loaded → Whole → Call
call_of p w =
    record {
      keeper = run_keeper;
      layout = layout_of (4 * length p.code);
      services = w.services;
      memory = w.machine.memory;
    }

effect_behind : (p : Loaded) (w : Whole) (e : Effect) → Behind w.services.world (of_effect p w e)
effect_behind p w (Goes s) = extends_refl w.services.world
effect_behind p w (Faults fault) = tt
effect_behind p w Calls = answered_behind w (called p w) (serves_continues (call_of p w) w.machine.registers)

-- ---- many

on_ended : (n : ℕ) (p : Loaded) (w : Whole) → run_on n p (Ended w) ≡ Ended w
unfolding run_on
on_ended zero p w = refl
on_ended (suc n) p w = refl

on_stopped : (n : ℕ) (p : Loaded) (fault : Fault) → run_on n p (Stopped fault) ≡ Stopped fault
unfolding run_on
on_stopped zero p fault = refl
on_stopped (suc n) p fault = refl

on_behind : (n : ℕ) (p : Loaded) (w : Whole) → Behind w.services.world (run_on n p (Runs w))
unfolding run_on
on_behind zero p w = extends_refl w.services.world
on_behind (suc n) p w = by_next n p w (next p w) (effect_behind p w (effect p w.machine)) (λ u. on_behind n p u)
  where
    by_next : (n : ℕ) (p : Loaded) (w : Whole) (r : Run) → Behind w.services.world r →
        ((u : Whole) → Behind u.services.world (run_on n p (Runs u))) → Behind w.services.world (run_on n p r)
    by_next n p w (Runs u) b on = behind_trans w.services.world u.services.world (run_on n p (Runs u)) b (on u)
    by_next n p w (Ended u) b on = subst (Behind w.services.world) (sym (on_ended n p u)) b
    by_next n p w (Stopped fault) b on = subst (Behind w.services.world) (sym (on_stopped n p fault)) tt

on_added : (m n : ℕ) (p : Loaded) (r : Run) → run_on (m + n) p r ≡ run_on n p (run_on m p r)
unfolding run_on
on_added zero n p r = ap (λ k. run_on k p r) (zero-add n)
on_added (suc m) n p (Runs w) = ap (λ k. run_on k p (Runs w)) (suc_added m n) ∙ on_added m n p (next p w)
  where
    suc_added : (m n : ℕ) → suc m + n ≡ suc (m + n)
    suc_added m n = omega arith
on_added (suc m) n p (Ended w) = on_ended (suc m + n) p w ∙ sym (on_ended n p w)
on_added (suc m) n p (Stopped fault) = on_stopped (suc m + n) p fault ∙ sym (on_stopped n p fault)

-- ---- what is shown

shown_behind : (w v : World) (r : Run) → Behind w r → shown_by r ≡ Some v → Extends w v
shown_behind w v (Runs u) b e = subst (λ x. Extends w x) (same_world u.services.world v e) b
shown_behind w v (Ended u) b e = subst (λ x. Extends w x) (same_world u.services.world v e) b
shown_behind w v (Stopped fault) b e = absurd (cc e)

shown_later : (n : ℕ) (p : Loaded) (r : Run) (w v : World) → shown_by r ≡ Some w →
    shown_by (run_on n p r) ≡ Some v → Extends w v
shown_later n p (Runs u) w v h e =
    subst (λ x. Extends x v) (same_world u.services.world w h)
    (shown_behind u.services.world v (run_on n p (Runs u)) (on_behind n p u) e)
shown_later n p (Ended u) w v h e =
    subst (λ x. Extends x v) (same_world u.services.world w h)
    (shown_behind u.services.world v (Ended u) (extends_refl u.services.world) (ap shown_by (sym (on_ended n p u)) ∙ e))
shown_later n p (Stopped fault) w v h e = absurd (cc h)

further : (n m : ℕ) → n ≤ m → n + (m - n) ≡ m
further n m h = omega (arith, h)

-- wherever it begins
pub on_continues : (p : Loaded) (r : Run) → ShowsOn (λ n. run_on n p r)
on_continues p r n m w v h a b =
    let split = ap (λ k. run_on k p r) (sym (further n m h)) ∙ on_added n (m - n) p r in
    shown_later (m - n) p (run_on n p r) w v a (ap shown_by (sym split) ∙ b)

pub runs_continue : RunsContinue
runs_continue image signatures base input = on_continues (loaded_at image base) _
