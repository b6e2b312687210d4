-- Parts that begin with more credits than the place of their code has: they may, where they never pause; and an assignment to what was
-- read just before never does.
use Rattle.std.proofs.Common.{ℕ, ◌+◌, List, subst}
use Rattle.rv_meaning.specs.declared.instr.Instr.{Instr}
use Rattle.pli_serving.specs.ServiceState.{Services}
use Rattle.pli_typing.specs.TypedTree as Y
use Rattle.pli_meaning.specs.BasicValues.{BasicValue}
use Rattle.pli_meaning.specs.Contents.{number_in}
use Rattle.pli_meaning.specs.StorageState.{State}
use Rattle.pli_meaning.specs.Control as F
use Rattle.pli_meaning.specs.Control.{Flow, Normal, Jump, Return, Paused, Stuck, Meaning, flow_on, give, stored, ◌>>=◌}
use Rattle.pli_meaning.specs.Raising.{Around}
use Rattle.pli_meaning.specs.Evaluating as V
use Rattle.pli_meaning.specs.Placing as P
use Rattle.pli_meaning.specs.Executing as M
use Rattle.run_steps.specs.Reach.{Family, Aims, Comes, Closed}
use Rattle.run_steps.proofs.Reach.{reach_later, reached_later}

-- ---- what is aimed at, with so many more credits

abbrev pub later : {R : Type 0} → (more : ℕ) → Aims R → Aims R
later more aims =
    record {
      limits = aims.limits;
      done = λ i f v x s. aims.done (i + more) f v x s;
      jumped = λ i f v height label s. aims.jumped (i + more) f v height label s;
      returned = λ i f v x s. aims.returned (i + more) f v x s;
    }

pub later_closed : {R : Type 0} {code : List Instr} {aims : Aims R} (more : ℕ) → Closed code aims → Closed code (later more aims)
later_closed {aims = aims} more closed =
    record {
      done = λ {i} {f} {v} {i'} {v'} r x s a. closed.done (reach_later more r) x s (subst (λ f'. aims.done (i' + more) f' v' x s) (reached_later more r) a);
      jumped = λ {i} {f} {v} {i'} {v'} r height label s a. closed.jumped (reach_later more r) height label s (subst (λ f'. aims.jumped (i' + more) f' v' height label s) (reached_later more r) a);
      returned = λ {i} {f} {v} {i'} {v'} r x s a. closed.returned (reach_later more r) x s (subst (λ f'. aims.returned (i' + more) f' v' x s) (reached_later more r) a);
    }

-- ---- flows without a pause

abbrev pub IsUnpaused : {R : Type 0} → Flow R → Type 0
IsUnpaused (Paused s) = ⊥
IsUnpaused _ = Unit {0}

pub comes_later : {R : Type 0} {code : List Instr} {i : ℕ} {f : Family} {v : Services} {aims : Aims R} (more : ℕ) (flow : Flow R) → IsUnpaused flow → Comes code i f v (later more aims) flow → Comes code (i + more) f v aims flow
comes_later more (Normal x s) unpaused c = record { to = c.to }
comes_later more (Jump height label s) unpaused c = record { to = c.to }
comes_later more (Return x s) unpaused c = record { to = c.to }
comes_later more (F.Ended s) unpaused c =
    record {
      to = λ early.
          let e = (c.to early).2 in
          ((c.to early).0, (c.to early).1, record { count = e.count; over = e.over; goes = e.goes });
    }
comes_later more (Paused s) unpaused c = absurd unpaused
comes_later more Stuck unpaused c = record { to = c.to }

-- ---- flows with a result

abbrev pub IsNormal : {R : Type 0} → Flow R → Type 0
IsNormal (Normal x s) = Unit {0}
IsNormal _ = ⊥

-- any result will do
abbrev pub idle : {R : Type 0} → Aims R → Aims R
idle aims =
    record {
      limits = aims.limits;
      done = λ i f v x s. Unit {0};
      jumped = aims.jumped;
      returned = aims.returned;
    }

pub idle_closed : {R : Type 0} {code : List Instr} {aims : Aims R} → Closed code aims → Closed code (idle aims)
idle_closed closed = record { done = λ r x s a. tt; jumped = closed.jumped; returned = closed.returned }

-- what a flow comes to may be shown as for one with a result
pub comes_known : {R : Type 0} {code : List Instr} {i : ℕ} {f : Family} {v : Services} {aims : Aims R} (flow : Flow R) → Comes code i f v (idle aims) flow → (IsNormal flow → Comes code i f v aims flow) → Comes code i f v aims flow
comes_known (Normal x s) c known = known tt
comes_known (Jump height label s) c known = record { to = c.to }
comes_known (Return x s) c known = record { to = c.to }
comes_known (F.Ended s) c known = record { to = c.to }
comes_known (Paused s) c known = record { to = c.to }
comes_known Stuck c known = record { to = c.to }

first_normal : {Q R : Type 0} (k : ℕ) (flow : Flow Q) (next' : Q → Meaning R) → IsNormal (flow_on k flow next') → IsNormal flow
first_normal k (Normal q s) next' h = tt
first_normal k (Jump height label s) next' h = absurd h
first_normal k (Return x s) next' h = absurd h
first_normal k (F.Ended s) next' h = absurd h
first_normal k (Paused s) next' h = absurd h
first_normal k Stuck next' h = absurd h

unpaused_on : {Q R : Type 0} (k : ℕ) (flow : Flow Q) (next' : Q → Meaning R) → IsNormal flow → ((q : Q) (s : State) → IsUnpaused (next' q k s)) → IsUnpaused (flow_on k flow next')
unpaused_on k (Normal q s) next' normal h = h q s
unpaused_on k (Jump height label s) next' normal h = absurd normal
unpaused_on k (Return x s) next' normal h = absurd normal
unpaused_on k (F.Ended s) next' normal h = absurd normal
unpaused_on k (Paused s) next' normal h = absurd normal
unpaused_on k Stuck next' normal h = absurd normal

-- ---- what was read is assigned to

pub assigned_unpaused : (around : Around) (r : Y.Reference) (x : BasicValue) (k : ℕ) (s : State) → IsNormal (V.number around (Y.NumberIn r) k s) → IsUnpaused (M.assigned around r x k s)
unfolding V.number M.assigned P.element_stored stored ◌>>=◌
assigned_unpaused around r x k s normal =
    unpaused_on k (V.designated around r k s) (λ d. P.element_stored d x)
    (first_normal k (V.designated around r k s) (λ d. give (number_in (V.value_in d))) normal) (λ d s'. tt)
