-- From one place of a run to another, at every base at once. Instructions are paid by credits: a place has some, as
-- many as its index in straight code, and an act gives twice the code and 2.
use Rattle.std.proofs.Common.{◌≡◌, ℕ, ◌+◌, ◌≤◌, List, refl, ap, ◌∙◌, arith}
use Rattle.rv_meaning.specs.declared.instr.Instr.{Instr}
use Rattle.pli_serving.specs.ServiceState.{Services}
use Rattle.pli_meaning.specs.Control as F
use Rattle.pli_meaning.specs.Control.{Flow, Normal, Jump, Return, Paused, Stuck, flow_on, Meaning}
use Rattle.image_runs.specs.Runs.{Whole, Runs, Ended}
use Rattle.run_steps.specs.Unlimited.{run_on}
use Rattle.run_steps.specs.Engine.{Base, at_base}
use Rattle.run_steps.proofs.Engine.{run_on-add}
use Rattle.run_steps.specs.Giving.{Limits}
use Rattle.run_steps.specs.Reach.{Family, Reach, reached, Pausing, Ending, Aims, never, ComesTo, Comes, Closed}
use Rattle.run_steps.specs.Reach.{GiveFew, before}
use Rattle.run_steps.proofs.Giving.{give_later}

pub reached_holds : {code : List Instr} {i : ℕ} {f : Family} {v : Services} {i' : ℕ} {v' : Services}
    {Q : Base → Whole → Type 0} (r : Reach code i f v i' v' Q) (b : Base) → Q b (reached r b)
unfolding reached
reached_holds r b = (r.goes b).holds

-- nothing has run
pub stay : (code : List Instr) (i : ℕ) (f : Family) (v : Services) (Q : Base → Whole → Type 0) →
    ((b : Base) → Q b (f b)) → Reach code i f v i v Q
unfolding run_on
stay code i f v Q h = record
    { count = 0; paid = omega arith; grows = omega arith; goes = λ b. record { after = f b; ran = refl; holds = h b } }

-- one stretch behind the other
pub reach_then : {code : List Instr} {i : ℕ} {f : Family} {v : Services} {i' : ℕ} {v' : Services}
    {Q : Base → Whole → Type 0} {i'' : ℕ} {v'' : Services} {P : Base → Whole → Type 0}
    (r : Reach code i f v i' v' Q) → Reach code i' (reached r) v' i'' v'' P → Reach code i f v i'' v'' P
unfolding reached
reach_then {code} {i} {f} {v} r q =
    record {
      count = r.count + q.count;
      paid = omega (arith, r.paid, q.paid);
      grows = omega (arith, r.grows, q.grows);
      goes = λ b. record {
        after = (q.goes b).after;
        ran = run_on-add r.count q.count (at_base code b) (Runs (f b)) ∙ ap (run_on q.count (at_base code b))
            ((r.goes b).ran) ∙ (q.goes b).ran;
        holds = (q.goes b).holds;
      };
    }

pub pausing_then : {code : List Instr} {i : ℕ} {f : Family} {v : Services} {i' : ℕ} {v' : Services}
    {Q : Base → Whole → Type 0} {v'' : Services} (r : Reach code i f v i' v' Q) → Pausing code i' (reached r) v' v'' →
    Pausing code i f v v''
pausing_then r p = record { at = p.at; inside = p.inside; running = p.running; to = reach_then r p.to }

pub ending_then : {code : List Instr} {i : ℕ} {f : Family} {v : Services} {i' : ℕ} {v' : Services}
    {Q : Base → Whole → Type 0} {v'' : Services} (r : Reach code i f v i' v' Q) → Ending code i' (reached r) v' v'' →
    Ending code i f v v''
unfolding reached
ending_then {code} {i} {f} r e =
    record {
      count = r.count + e.count;
      over = e.over;
      goes = λ b. record {
        after = (e.goes b).after;
        ran = run_on-add r.count e.count (at_base code b) (Runs (f b)) ∙ ap (run_on e.count (at_base code b))
            ((r.goes b).ran) ∙ (e.goes b).ran;
        services = (e.goes b).services;
      };
    }

pub never_closed : {R : Type 0} (code : List Instr) (limits : Limits) → Closed {R = R} code (never limits)
never_closed code limits =
    record { done = λ r x s a. absurd a; jumped = λ r height label s a. absurd a; returned = λ r x s a. absurd a }

-- a flow that comes from a place which is reached
comes_to_from : {R : Type 0} {code : List Instr} {i : ℕ} {f : Family} {v : Services} {i' : ℕ} {v' : Services}
    {Q : Base → Whole → Type 0} {aims : Aims R} (closed : Closed code aims) (flow : Flow R)
    (r : Reach code i f v i' v' Q) → ComesTo code i' (reached r) v' aims flow → ComesTo code i f v aims flow
comes_to_from closed (Normal x s) r c = closed.done r x s c
comes_to_from closed (Jump height label s) r c = closed.jumped r height label s c
comes_to_from closed (Return x s) r c = closed.returned r x s c
comes_to_from closed (F.Ended s) r c = (c.0, c.1, ending_then r c.2)
comes_to_from closed (Paused s) r c = (c.0, c.1, pausing_then r c.2)
comes_to_from closed Stuck r c = c

pub comes_from : {R : Type 0} {code : List Instr} {i : ℕ} {f : Family} {v : Services} {i' : ℕ} {v' : Services}
    {Q : Base → Whole → Type 0} {aims : Aims R} {flow : Flow R} (closed : Closed code aims)
    (r : Reach code i f v i' v' Q) → Comes code i' (reached r) v' aims flow → Comes code i f v aims flow
comes_from {aims = aims} {flow = flow} closed r c =
    record { to = λ early. comes_to_from closed flow r (c.to (give_later aims.limits r early)) }

-- the same, from any machine of which holds what is reached
pub onward : {R : Type 0} {code : List Instr} {i : ℕ} {f : Family} {v : Services} {i' : ℕ} {v' : Services}
    {Q : Base → Whole → Type 0} {aims : Aims R} {flow : Flow R} (closed : Closed code aims) →
    Reach code i f v i' v' Q → ((f' : Family) → ((b : Base) → Q b (f' b)) → Comes code i' f' v' aims flow) →
    Comes code i f v aims flow
onward closed r next' = comes_from closed r (next' (reached r) (reached_holds r))

pub before_closed : {Q R : Type 0} {code : List Instr} {aims : Aims R} (k : ℕ) (next' : Q → Meaning R) →
    Closed code aims → Closed code (before code aims k next')
before_closed k next' closed =
    record { done = λ r q s c. comes_from closed r c; jumped = closed.jumped; returned = closed.returned }

comes_to_on : {Q R : Type 0} (code : List Instr) (i : ℕ) (f : Family) (v : Services) (aims : Aims R) (k : ℕ)
    (flow : Flow Q) (next' : Q → Meaning R) → ComesTo code i f v (before code aims k next') flow →
    GiveFew code aims.limits f → ComesTo code i f v aims (flow_on k flow next')
comes_to_on code i f v aims k (Normal q s) next' c early = c.to early
comes_to_on code i f v aims k (Jump height label s) next' c early = c
comes_to_on code i f v aims k (Return r s) next' c early = c
comes_to_on code i f v aims k (F.Ended s) next' c early = c
comes_to_on code i f v aims k (Paused s) next' c early = c
comes_to_on code i f v aims k Stuck next' c early = c

pub comes_on : {Q R : Type 0} {code : List Instr} {i : ℕ} {f : Family} {v : Services} {aims : Aims R} (k : ℕ)
    (flow : Flow Q) (next' : Q → Meaning R) → Comes code i f v (before code aims k next') flow →
    Comes code i f v aims (flow_on k flow next')
comes_on {code = code} {i = i} {f = f} {v = v} {aims = aims} k flow next' c =
    record { to = λ early. comes_to_on code i f v aims k flow next' (c.to early) early }

-- less holds
pub reach_map : {code : List Instr} {i : ℕ} {f : Family} {v : Services} {i' : ℕ} {v' : Services}
    {Q : Base → Whole → Type 0} (P : Base → Whole → Type 0) → Reach code i f v i' v' Q →
    ((b : Base) (w : Whole) → Q b w → P b w) → Reach code i f v i' v' P
reach_map P r h =
    record {
      count = r.count;
      paid = r.paid;
      grows = r.grows;
      goes = λ b. record {
        after = (r.goes b).after;
        ran = (r.goes b).ran;
        holds = h b (r.goes b).after (r.goes b).holds;
      };
    }

-- with more credits
pub reach_with : {code : List Instr} {i : ℕ} {f : Family} {v : Services} {i' : ℕ} {v' : Services}
    {Q : Base → Whole → Type 0} (i'' : ℕ) → i' ≤ i'' → Reach code i f v i' v' Q → Reach code i f v i'' v' Q
reach_with i'' h r = record { count = r.count; paid = omega (arith, r.paid, h); grows = r.grows; goes = r.goes }

-- with so many more on the whole way
pub reach_later : {code : List Instr} {i : ℕ} {f : Family} {v : Services} {i' : ℕ} {v' : Services}
    {Q : Base → Whole → Type 0} (more : ℕ) → Reach code i f v i' v' Q → Reach code (i + more) f v (i' + more) v' Q
reach_later more r =
    record { count = r.count; paid = (let p = r.paid in omega (arith, p)); grows = r.grows; goes = r.goes }

pub reached_later : {code : List Instr} {i : ℕ} {f : Family} {v : Services} {i' : ℕ} {v' : Services}
    {Q : Base → Whole → Type 0} (more : ℕ) (r : Reach code i f v i' v' Q) → reached r ≡ reached (reach_later more r)
unfolding reached reach_later
reached_later more r = refl
