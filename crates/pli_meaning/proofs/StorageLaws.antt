-- The laws of the storage machine: what is shown grows, an ended run stays as it is, and a run does at most the acts allowed.
use Rattle.std.proofs.Common.{◌≡◌, ◌≢◌, ℕ, suc, ◌≤◌, List, Some, refl, sym, ap, ◌∙◌, subst, arith}
use Rattle.pli_meaning.specs.declared.outcome.End.TheVariants as E
use Rattle.pli_meaning.specs.Laws.{Extends}
use Rattle.pli_typing.specs.TypedTree as Y
use Rattle.pli_meaning.specs.World.{World, first_world}
use Rattle.pli_meaning.specs.StorageState.{State, first_state}
use Rattle.pli_meaning.specs.Control.{Flow, Normal, Jump, Return, Ended, Paused, Stuck}
use Rattle.pli_meaning.specs.Executing as M
use Rattle.pli_meaning.proofs.StorageSteps.{extends_refl, Later, Follows, Kept}
use Rattle.pli_meaning.proofs.StorageGrowth.{run_agrees}

-- what is shown, from a flow
later_shown : {R : Type 0} (s : State) (w w' : World) (g : Flow R) → w ≡ s.world → Later s.world g → M.shown g ≡ Some w' → Extends w w'
later_shown s w w' (Normal r t) e l h = absurd (cc h)
later_shown s w w' (Jump height label t) e l h = absurd (cc h)
later_shown s w w' (Return v t) e l h = absurd (cc h)
later_shown s w w' (Ended t) e l h = let f : t.world ≡ w' = cc h in subst (λ u. Extends w u) f (subst (λ u. Extends u t.world) (sym e) l)
later_shown s w w' (Paused t) e l h = let f : t.world ≡ w' = cc h in subst (λ u. Extends w u) f (subst (λ u. Extends u t.world) (sym e) l)
later_shown s w w' Stuck e l h = absurd (cc h)

extends_along : (s t : State) (w w' : World) → Some s.world ≡ Some w → Some t.world ≡ Some w' → t.world ≡ s.world → Extends w w'
extends_along s t w w' h h' e =
    let f : w ≡ w' = cc in
    subst (λ u. Extends w u) f (extends_refl w)

-- a flow and what comes in its place
follows_shown : {R : Type 0} (w w' : World) (f g : Flow R) → Follows f g → M.shown f ≡ Some w → M.shown g ≡ Some w' → Extends w w'
follows_shown w w' (Normal r s) g e h h' = absurd (cc h)
follows_shown w w' (Jump height label s) g e h h' = absurd (cc h)
follows_shown w w' (Return v s) g e h h' = absurd (cc h)
follows_shown w w' (Ended s) g e h h' =
    let i : Some s.world ≡ Some w' = ap M.shown (sym e) ∙ h' in
    extends_along s s w w' h i refl
follows_shown w w' (Paused s) g e h h' = let f : w ≡ s.world = cc h in later_shown s w w' g f e h'
follows_shown w w' Stuck g e h h' = absurd (cc h)

ended_shown : {R : Type 0} (u w : World) (k : ℕ) (f g : Flow R) → Follows f g → Kept u k f → u.end ≡ E.Running → M.shown f ≡ Some w → w.end ≢ E.Running → M.shown g ≡ Some w
ended_shown u w k (Normal r s) g e d r' h n = absurd (cc h)
ended_shown u w k (Jump height label s) g e d r' h n = absurd (cc h)
ended_shown u w k (Return v s) g e d r' h n = absurd (cc h)
ended_shown u w k (Ended s) g e d r' h n = ap M.shown e ∙ h
ended_shown u w k (Paused s) g e d r' h n =
    let f : s.world ≡ w = cc h in
    absurd (n (ap (λ (x : World). x.end) (sym f) ∙ d.1 ∙ r'))
ended_shown u w k Stuck g e d r' h n = absurd (cc h)

allowed_shown : {R : Type 0} (u w : World) (k : ℕ) (f : Flow R) → Kept u k f → M.shown f ≡ Some w → (w.acts ≤ k) × (w.end ≡ E.Running → w.acts ≡ k)
allowed_shown u w k (Normal r s) d h = absurd (cc h)
allowed_shown u w k (Jump height label s) d h = absurd (cc h)
allowed_shown u w k (Return v s) d h = absurd (cc h)
allowed_shown u w k (Ended s) d h =
    let f : s.world ≡ w = cc h in
    let a = ap (λ (x : World). x.acts) f in
    (omega (arith, a, d.0), λ r. absurd (d.1 (ap (λ (x : World). x.end) f ∙ r)))
allowed_shown u w k (Paused s) d h =
    let f : s.world ≡ w = cc h in
    let a = ap (λ (x : World). x.acts) f in
    (omega (arith, a, d.0), λ r. sym a ∙ d.0)
allowed_shown u w k Stuck d h = absurd (cc h)

pub grows : (p : Y.Program) (input : List ℕ) (k : ℕ) (w w' : World) → M.meaning p input k ≡ Some w → M.meaning p input (suc k) ≡ Some w' → Extends w w'
unfolding M.meaning
grows p input k w w' h h' =
    let a = run_agrees p (suc k) (suc (suc k)) (omega arith) in
    follows_shown w w' _ _ (a.follows k (suc k) (first_state input) (omega arith)) h h'

pub ended_stays : (p : Y.Program) (input : List ℕ) (k : ℕ) (w : World) → M.meaning p input k ≡ Some w → w.end ≢ E.Running → M.meaning p input (suc k) ≡ Some w
unfolding M.meaning
ended_stays p input k w h n =
    let a = run_agrees p (suc k) (suc (suc k)) (omega arith) in
    ended_shown first_world w k _ _ (a.follows k (suc k) (first_state input) (omega arith)) (a.kept k (first_state input) (omega arith)) refl h n

pub acts_allowed : (p : Y.Program) (input : List ℕ) (k : ℕ) (w : World) → M.meaning p input k ≡ Some w → (w.acts ≤ k) × (w.end ≡ E.Running → w.acts ≡ k)
unfolding M.meaning
acts_allowed p input k w h =
    let a = run_agrees p (suc k) (suc k) (omega arith) in
    allowed_shown first_world w k _ (a.kept k (first_state input) (omega arith)) h
