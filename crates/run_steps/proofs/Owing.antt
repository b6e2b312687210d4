-- A part that runs with credits which are paid back at its end: so a call leaves its caller with the credits of the
-- place behind it, however long the called procedure runs from its last act on, and however many calls end together.
use Rattle.std.proofs.Common.{◌≡◌, ℕ, ◌+◌, ◌*◌, ◌≤◌, List, refl, ap, ◌∙◌, arith, subst}
use Rattle.rv_meaning.specs.declared.instr.Instr.{Instr}
use Rattle.pli_serving.specs.ServiceState.{Services}
use Rattle.pli_meaning.specs.StorageState.{State}
use Rattle.pli_meaning.specs.Control as F
use Rattle.pli_meaning.specs.Control.{Flow, Normal, Jump, Return, Paused, Stuck}
use Rattle.image_runs.specs.Runs.{Whole, Runs}
use Rattle.run_steps.specs.Unlimited.{run_on}
use Rattle.run_steps.specs.Engine.{Base, at_base}
use Rattle.run_steps.proofs.Engine.{run_on-add}
use Rattle.run_steps.specs.Reach.{cost, Family, Reach, reached, Aims, Comes, Closed}
use Rattle.run_steps.proofs.Reach.{stay, reach_then, reached_holds}
use Rattle.run_steps.specs.Owing.{Between, owing}

pub between_same : (code : List Instr) (i : ℕ) (f : Family) (v : Services) → Between code i f v i f v
unfolding run_on
between_same code i f v = record { count = 0; paid = omega arith; grows = omega arith; goes = λ b. refl }

-- a reach says where it comes to
reach_to : {code : List Instr} {i : ℕ} {f : Family} {v : Services} {i' : ℕ} {v' : Services}
    {Q : Base → Whole → Type 0} (r : Reach code i f v i' v' Q) → Reach code i f v i' v' (λ b w. w ≡ reached r b)
reach_to {code} {i' = i'} {v' = v'} r =
    reach_then r (stay code i' (reached r) v' (λ b w. w ≡ reached r b) (λ b. refl))

pub between_then : {code : List Instr} {i : ℕ} {f : Family} {v : Services} {i' : ℕ} {f' : Family} {v' : Services}
    {i'' : ℕ} {v'' : Services} {Q : Base → Whole → Type 0} → Between code i f v i' f' v' →
    (r : Reach code i' f' v' i'' v'' Q) → Between code i f v i'' (reached r) v''
between_then {code} {i} {f} {v} a r =
    let q = reach_to r in
    let p1 = a.paid in
    let p2 = q.paid in
    let g1 = a.grows in
    let g2 = q.grows in
    record {
      count = a.count + q.count;
      paid = omega (arith, p1, p2);
      grows = omega (arith, g1, g2);
      goes = λ b.
          run_on-add a.count q.count (at_base code b) (Runs (f b))
          ∙ ap (run_on q.count (at_base code b)) (a.goes b)
          ∙ (q.goes b).ran
          ∙ ap Runs (q.goes b).holds;
    }

pub owing_closed : {R : Type 0} (code : List Instr) (debt : ℕ) (aims : Aims R) → Closed code (owing code debt aims)
owing_closed code debt aims =
    record {
      done = λ r x s a i0 f0 v0 from. a i0 f0 v0 (between_then from r);
      jumped = λ r height label s a i0 f0 v0 from. a i0 f0 v0 (between_then from r);
      returned = λ r x s a i0 f0 v0 from. a i0 f0 v0 (between_then from r);
    }

-- ---- the debt is made

-- with less to begin with
reach_less : {code : List Instr} {i : ℕ} {f : Family} {v : Services} {i' : ℕ} {v' : Services}
    {Q : Base → Whole → Type 0} (debt : ℕ) → Reach code (i + debt) f v i' v' Q → Reach code i f v i' v' Q
reach_less debt r =
    record { count = r.count; paid = (let p = r.paid in omega (arith, p)); grows = r.grows; goes = r.goes }

pub comes_owing : {R : Type 0} {code : List Instr} {i : ℕ} {f : Family} {v : Services} {aims : Aims R} (debt : ℕ)
    (flow : Flow R) → Comes code (i + debt) f v (owing code debt aims) flow → Comes code i f v aims flow
comes_owing {code = code} {i = i} {f = f} {v = v} debt
    (Normal x s) c = record { to = λ early. c.to early i f v (between_same code (i + debt) f v) }
comes_owing {code = code} {i = i} {f = f} {v = v} debt
    (Jump height label s) c = record { to = λ early. c.to early i f v (between_same code (i + debt) f v) }
comes_owing {code = code} {i = i} {f = f} {v = v} debt
    (Return x s) c = record { to = λ early. c.to early i f v (between_same code (i + debt) f v) }
comes_owing debt (F.Ended s) c =
    record {
      to = λ early.
          let e = (c.to early).2 in
          ((c.to early).0, (c.to early).1, record { count = e.count; over = e.over; goes = e.goes });
    }
comes_owing debt (Paused s) c =
    record {
      to = λ early.
          let p = (c.to early).2 in (
            (c.to early).0,
            (c.to early).1,
            record { at = p.at; inside = p.inside; running = p.running; to = reach_less debt p.to },
          );
    }
comes_owing debt Stuck c = record { to = c.to }

-- ---- and paid back

-- on the way on, with fewer credits than the debt and the place's
pub repaid : {code : List Instr} {i0 : ℕ} {f0 : Family} {v0 : Services} {i : ℕ} {f : Family} {v : Services} {i' : ℕ}
    {v' : Services} {Q : Base → Whole → Type 0} (debt j : ℕ) → i' ≤ j + debt → (r : Reach code i f v i' v' Q) →
    Between code (i0 + debt) f0 v0 i f v → Reach code i0 f0 v0 j v' Q
repaid debt j few r from =
    let a = between_then from r in
    record {
      count = a.count;
      paid = (let p = a.paid in omega (arith, p, few));
      grows = a.grows;
      goes = λ b. record { after = reached r b; ran = a.goes b; holds = reached_holds r b };
    }

pub done_owing : {R : Type 0} {code : List Instr} {aims : Aims R} {i : ℕ} {f : Family} {v : Services} {i' : ℕ}
    {v' : Services} {Q : Base → Whole → Type 0} (closed : Closed code aims) (debt j : ℕ) → i' ≤ j + debt →
    (r : Reach code i f v i' v' Q) → (x : R) (s : _) →
    ((f' : Family) → ((b : Base) → Q b (f' b)) → aims.done j f' v' x s) → (owing code debt aims).done i f v x s
done_owing closed debt j few r x s goal i0 f0 v0 from =
    let q = repaid debt j few r from in
    closed.done q x s (goal (reached q) (reached_holds q))

pub jumped_owing : {R : Type 0} {code : List Instr} {aims : Aims R} {i : ℕ} {f : Family} {v : Services}
    (Q : Base → Whole → Type 0) (closed : Closed code aims) (debt : ℕ) → ((b : Base) → Q b (f b)) →
    (height : ℕ) (label : F.Label) (s : State) →
    ((f' : Family) → ((b : Base) → Q b (f' b)) → aims.jumped i f' v height label s) →
    (owing code debt aims).jumped i f v height label s
jumped_owing {code = code} {i = i} {f = f} {v = v} Q closed debt holds height label s goal i0 f0 v0 from =
    let q = repaid debt i (omega arith) (stay code i f v Q holds) from in
    closed.jumped q height label s (goal (reached q) (reached_holds q))

-- ---- what credits count

pub reach_counted : {code : List Instr} {i : ℕ} {f : Family} {v : Services} {i' : ℕ} {v' : Services}
    {Q : Base → Whole → Type 0} (r : Reach code i f v i' v' Q) → v'.world.acts ≡ v.world.acts → r.count + i ≤ i'
reach_counted {code} {i = i} {v = v} {i' = i'} r same =
    let p = subst (λ n. r.count + i + cost code * v.world.acts ≤ i' + cost code * n) same r.paid in omega (arith, p)

pub between_repaid : {code : List Instr} {i : ℕ} {f : Family} {v : Services} {i' : ℕ} {f' : Family} {v' : Services}
    (debt wanted : ℕ) → i' ≤ wanted + debt → Between code (i + debt) f v i' f' v' → Between code i f v wanted f' v'
between_repaid debt wanted few from =
    let p = from.paid in
    record { count = from.count; paid = omega (arith, p, few); grows = from.grows; goes = from.goes }
