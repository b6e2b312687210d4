-- What a part comes to at a state of which more is known: what was looked up there is still so where it is stored.
use Rattle.std.proofs.Common.{◌≡◌, ℕ, ◌+◌, ◌≤◌, Option, Some, None, Bool, true, false, refl, arith}
use Rattle.pli_typing.specs.TypedTree as Y
use Rattle.pli_meaning.specs.StorageState.{State, standing_for}
use Rattle.pli_meaning.specs.Codes.{no_generation_code}
use Rattle.pli_meaning.specs.Control.{Meaning, give, ◌>>=◌, ◌>>◌, looked, stored, choose}
use Rattle.pli_meaning.specs.Raising as G
use Rattle.pli_meaning.specs.Evaluating as V
use Rattle.pli_meaning.specs.Placing as A
use Rattle.meaning_runs.proofs.Demands.{Demand, Kept, Anything, Comes, There}
use Rattle.meaning_runs.proofs.Steps.{bind_there}
use Rattle.meaning_runs.proofs.Ways.{Ways, demand, around}
use Rattle.meaning_runs.proofs.Expressions.{error_there}

pub record AtState (d : Demand) (left : ℕ) {R : Type 0} (after : R → Type 0) (s : State) (m : Meaning R) : Type 0 where
  pub comes : (k : ℕ) → s.world.acts ≤ k → k ≤ s.world.acts + left → Kept d s
      → Comes d after 0 1 s.world.acts k (m k s)

-- what is there is so at each state
pub at_state : {R : Type 0} {d : Demand} {left : ℕ} {after : R → Type 0} {m : Meaning R} (s : State)
    → There d 0 1 left after m → AtState d left after s m
at_state s a = record { comes = λ k h r c. a.comes k s h r c }

pub at_each : {R : Type 0} {d : Demand} {left : ℕ} {after : R → Type 0} {m : Meaning R}
    → ((s : State) → AtState d left after s m) → There d 0 1 left after m
at_each a = record { comes = λ k s h r c. (a s).comes k h r c }

pub looked_at : {R : Type 0} {d : Demand} {left : ℕ} {after : R → Type 0} (s : State) (next : State → Meaning R)
    → AtState d left after s (next s) → AtState d left after s (looked >>= next)
unfolding looked ◌>>=◌
looked_at s next a = record { comes = a.comes }

pub or_error_at : {X R : Type 0} {after : R → Type 0} {next : X → Meaning R} (w : Ways) (s : State) (code : ℕ)
    (o : Option X) → ((x : X) → o ≡ Some x → AtState (demand w) w.left after s (next x))
    → AtState (demand w) w.left after s (G.or_error (around w) code o >>= next)
unfolding G.or_error give ◌>>=◌
or_error_at w s code None a = at_state s (bind_there (error_there {after = λ x. ⊥} code w) (λ x f. absurd f))
or_error_at w s code (Some x) a = record { comes = (a x refl).comes }

pub or_error_then_at : {X R : Type 0} {after : R → Type 0} {next : Meaning R} (w : Ways) (s : State) (code : ℕ)
    (o : Option X) → ((x : X) → o ≡ Some x → AtState (demand w) w.left after s next)
    → AtState (demand w) w.left after s (G.or_error (around w) code o >> next)
unfolding ◌>>=◌ ◌>>◌
or_error_then_at {next = next} w s code o a =
    let r = or_error_at {next = λ x. next} w s code o a in record { comes = r.comes }

pub stored_at : {d : Demand} {left : ℕ} (s : State) (change : State → State) → (Kept d s → Kept d (change s))
    → AtState d left Anything s (stored change)
unfolding stored
stored_at s change kept = record { comes = λ k h r c. (omega arith, (h, (kept c, tt))) }

pub stored_give_at : {R : Type 0} {d : Demand} {left : ℕ} (s : State) (change : State → State) (x : R)
    → (Kept d s → Kept d (change s)) → AtState d left Anything s (stored change >> give x)
unfolding stored give ◌>>◌
stored_give_at s change x kept = record { comes = λ k h r c. (omega arith, (h, (kept c, tt))) }

pub choose_at : {R : Type 0} {d : Demand} {left : ℕ} {after : R → Type 0} {m n : Meaning R} (s : State) (t : Bool)
    → AtState d left after s m → AtState d left after s n → AtState d left after s (choose t m n)
unfolding choose
choose_at s true a c = record { comes = a.comes }
choose_at s false a c = record { comes = c.comes }

-- the area of FREE is looked up without a change
pub area_if_at : {R : Type 0} {after : R → Type 0} {next : Option ℕ → Meaning R} (w : Ways) (s : State)
    (area : Option Y.Variable) → ((x : Option ℕ) → AtState (demand w) w.left after s (next x))
    → AtState (demand w) w.left after s (A.area_if (around w) area >>= next)
unfolding A.area_if V.area_meant looked G.or_error give ◌>>=◌
area_if_at w s None a = record { comes = (a None).comes }
area_if_at {after = after} {next} w s (Some v) a =
    let r = by_serial (V.serial_of (standing_for s v)) in record { comes = r.comes }
  where
    by_serial : (o : Option ℕ)
        → AtState (demand w) w.left after s
        ((G.or_error (around w) no_generation_code o >>= λ x. give (Some x)) >>= next)
    by_serial None =
        at_state s (bind_there (bind_there (error_there {after = λ x. ⊥} no_generation_code w)
        (λ x f. absurd f)) (λ x f. absurd f))
    by_serial (Some x) = record { comes = (a (Some x)).comes }
