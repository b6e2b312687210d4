-- The steps of the storage machine keep an invariant of its states.
use Rattle.std.proofs.Common.{◌≡◌, ℕ, zero, suc, List, Option, Some, None, Bool, true, false, refl, subst}
use Rattle.std.specs.Prelude.{◌==◌, ◌&&◌, nat_lt, cond, ⊤}
use Rattle.pli_meaning.specs.declared.outcome.End.{End}
use Rattle.pli_meaning.specs.World.{World, ending}
use Rattle.pli_meaning.specs.BasicValues.{BasicValue}
use Rattle.pli_meaning.specs.StorageState.{State, with_world, newest_ended}
use Rattle.pli_meaning.specs.Control.{Label, Flow, Normal, Jump, Return, Ended, Paused, Stuck, Meaning}
use Rattle.pli_meaning.specs.Control.{give, stuck, flow_on, ◌>>=◌, ◌>>◌, looked, stored, act, finish, returns, jumps}
use Rattle.pli_meaning.specs.Control.{choose, given, is_among, caught, list_from, repeated_while, left, leaving}
use Rattle.storage_runs.specs.Invariants.{Invariant, state_in}

-- what a flow comes to has the invariant, and a result has a fact of its own
abbrev pub Comes : {R : Type 0} → (P : State → Type 0) → (after : R → State → Type 0) → Flow R → Type 0
Comes P after (Normal r s) = P s × after r s
Comes P after (Jump height label s) = P s
Comes P after (Return v s) = P s
Comes P after (Ended s) = P s
Comes P after (Paused s) = P s
Comes P after Stuck = ⊤

abbrev pub Anything : {R : Type 0} → R → State → Type 0
Anything r s = ⊤

abbrev pub Nothing : {R : Type 0} → R → State → Type 0
Nothing r s = ⊥

-- a part keeps the invariant
pub record Keeps (P : State → Type 0) {R : Type 0} (m : Meaning R) : Type 0 where
  pub comes : (k : ℕ) (s : State) → P s → Comes P Anything (m k s)

-- and it has no result: the run ends in it, or goes on elsewhere
pub record Leaves (P : State → Type 0) {R : Type 0} (m : Meaning R) : Type 0 where
  pub comes : (k : ℕ) (s : State) → P s → Comes P Nothing (m k s)

pub state_kept : {R : Type 0} (P : State → Type 0) (f : Flow R) (s : State) → Comes P Anything f → state_in f ≡ Some s
    → P s
state_kept P (Normal r t) s h e = let f : t ≡ s = cc e in subst P f h.0
state_kept P (Jump height label t) s h e = let f : t ≡ s = cc e in subst P f h
state_kept P (Return v t) s h e = let f : t ≡ s = cc e in subst P f h
state_kept P (Ended t) s h e = let f : t ≡ s = cc e in subst P f h
state_kept P (Paused t) s h e = let f : t ≡ s = cc e in subst P f h
state_kept P Stuck s h e = absurd (cc e)

-- ---- parts one behind the other

pub flow_comes : {Q R : Type 0} (P : State → Type 0) (between : Q → State → Type 0) (after : R → State → Type 0) (k : ℕ)
    (f : Flow Q) (next : Q → Meaning R) → Comes P between f
    → ((q : Q) (s : State) → P s → between q s → Comes P after (next q k s)) → Comes P after (flow_on k f next)
flow_comes P between after k (Normal q s) next h n = n q s h.0 h.1
flow_comes P between after k (Jump height label s) next h n = h
flow_comes P between after k (Return v s) next h n = h
flow_comes P between after k (Ended s) next h n = h
flow_comes P between after k (Paused s) next h n = h
flow_comes P between after k Stuck next h n = tt

-- what has no result isn't gone on from
pub leaves_on : {Q R : Type 0} (P : State → Type 0) (after : R → State → Type 0) (k : ℕ) (f : Flow Q)
    (next : Q → Meaning R) → Comes P Nothing f → Comes P after (flow_on k f next)
leaves_on P after k f next h = flow_comes P Nothing after k f next h (λ q s i bad. absurd bad)

pub left_keeps : {R : Type 0} {P : State → Type 0} {m : Meaning R} → Leaves P m → Keeps P m
left_keeps {P = P} {m = m} l = record { comes = λ k s h. weaker P (m k s) (l.comes k s h) }
  where
    weaker : {R : Type 0} (P : State → Type 0) (f : Flow R) → Comes P Nothing f → Comes P Anything f
    weaker P (Normal r s) h = absurd h.1
    weaker P (Jump height label s) h = h
    weaker P (Return v s) h = h
    weaker P (Ended s) h = h
    weaker P (Paused s) h = h
    weaker P Stuck h = tt

module _ {P : State → Type 0} (i : Invariant P) where
  pub give_keeps : {R : Type 0} (r : R) → Keeps P (give r)
  unfolding give
  give_keeps r = record { comes = λ k s h. (h, tt) }

  pub stuck_keeps : {R : Type 0} → Keeps P (stuck {R = R})
  unfolding stuck
  stuck_keeps = record { comes = λ k s h. tt }

  pub bind_keeps : {Q R : Type 0} {m : Meaning Q} {next : Q → Meaning R} → Keeps P m → ((q : Q) → Keeps P (next q))
      → Keeps P (m >>= next)
  unfolding ◌>>=◌
  bind_keeps {m = m} {next = next} a n =
      record {
        comes = λ k s h.
            flow_comes P Anything Anything k (m k s) next (a.comes k s h) (λ q t j any. (n q).comes k t j);
      }

  pub then_keeps : {Q R : Type 0} {m : Meaning Q} {next : Meaning R} → Keeps P m → Keeps P next → Keeps P (m >> next)
  unfolding ◌>>◌
  then_keeps {Q} {R} {m} {next} a n =
      record {
        comes = λ k s h.
            flow_comes P Anything Anything k (m k s) (λ q. next) (a.comes k s h) (λ q t j any. n.comes k t j);
      }

  -- what stands last has no result
  pub then_leaves : {Q R : Type 0} {m : Meaning Q} {next : Meaning R} → Keeps P m → Leaves P next → Leaves P (m >> next)
  unfolding ◌>>◌
  then_leaves {Q} {R} {m} {next} a n =
      record {
        comes = λ k s h.
            flow_comes P Anything Nothing k (m k s) (λ q. next) (a.comes k s h) (λ q t j any. n.comes k t j);
      }

  pub looked_keeps : Keeps P looked
  unfolding looked
  looked_keeps = record { comes = λ k s h. (h, tt) }

  pub looked_leaves : {R : Type 0} {next : State → Meaning R} → ((s : State) → Leaves P (next s))
      → Leaves P (looked >>= next)
  unfolding looked ◌>>=◌
  looked_leaves n = record { comes = λ k s h. (n s).comes k s h }

  pub stored_keeps : (change : State → State) → ((s : State) → P s → P (change s)) → Keeps P (stored change)
  unfolding stored
  stored_keeps change c = record { comes = λ k s h. (i.shown s.world (change s) (c s h), tt) }

  pub act_keeps : (change : World → World) → Keeps P (act change)
  unfolding act
  act_keeps change = record { comes = λ k s h. by_test (nat_lt s.world.acts k) s h }
    where
      by_test : (t : Bool) (s : State) → P s
          → Comes {R = Unit {0}} P Anything (cond t (Normal tt (with_world (change s.world) s)) (Paused s))
      by_test true s h = (i.shown (change s.world) s h, tt)
      by_test false s h = h

  pub finish_leaves : {R : Type 0} (end : End) → Leaves P (finish {R = R} end)
  unfolding finish
  finish_leaves {R} end = record { comes = λ k s h. by_test (nat_lt s.world.acts k) s h }
    where
      by_test : (t : Bool) (s : State) → P s
          → Comes {R = R} P Nothing (cond t (Ended (with_world (ending end s.world) s)) (Paused s))
      by_test true s h = i.shown (ending end s.world) s h
      by_test false s h = h

  pub finish_keeps : {R : Type 0} (end : End) → Keeps P (finish {R = R} end)
  finish_keeps end = left_keeps (finish_leaves end)

  pub returns_keeps : {R : Type 0} (v : Option BasicValue) → Keeps P (returns {R = R} v)
  unfolding returns
  returns_keeps v = record { comes = λ k s h. h }

  pub jumps_keeps : {R : Type 0} (height : ℕ) (label : Label) → Keeps P (jumps {R = R} height label)
  unfolding jumps
  jumps_keeps height label = record { comes = λ k s h. h }

  pub choose_keeps : {R : Type 0} (b : Bool) {m n : Meaning R} → Keeps P m → Keeps P n → Keeps P (choose b m n)
  unfolding choose
  choose_keeps true {m} {n} a c = record { comes = a.comes }
  choose_keeps false {m} {n} a c = record { comes = c.comes }

  -- one of two parts, where the test is known in the first
  pub choose_known : {R : Type 0} (b : Bool) (m n : Meaning R) (k : ℕ) (s : State)
      → (b ≡ true → Comes P Anything (m k s)) → Comes P Anything (n k s) → Comes P Anything (choose b m n k s)
  unfolding choose
  choose_known true m n k s a c = a refl
  choose_known false m n k s a c = c

  pub given_keeps : {X R : Type 0} (o : Option X) {next : X → Meaning R} {m : Meaning R} → ((x : X) → Keeps P (next x))
      → Keeps P m → Keeps P (given o next m)
  unfolding given
  given_keeps None n a = a
  given_keeps (Some x) n a = n x

  -- what is there is known in what follows
  pub given_known : {X R : Type 0} (o : Option X) (next : X → Meaning R) (m : Meaning R) (k : ℕ) (s : State)
      → ((x : X) → o ≡ Some x → Comes P Anything (next x k s)) → Comes P Anything (m k s)
      → Comes P Anything (given o next m k s)
  unfolding given
  given_known None next m k s n a = a
  given_known (Some x) next m k s n a = n x refl

  pub leaving_keeps : (own : Bool) {m : Meaning (Unit {0})} → Keeps P m → Keeps P (leaving own newest_ended m)
  unfolding leaving
  leaving_keeps own {m} a = record { comes = λ k s h. closed own (m k s) (a.comes k s h) }
    where
      closed : (own : Bool) (f : Flow (Unit {0})) → Comes P Anything f → Comes P Anything (left own newest_ended f)
      closed own (Normal r s) h = (i.shown s.world (newest_ended s) (i.ended s h.0), tt)
      closed own (Jump height label s) h = i.shown s.world (newest_ended s) (i.ended s h)
      closed true (Return v s) h = (i.shown s.world (newest_ended s) (i.ended s h), tt)
      closed false (Return v s) h = i.shown s.world (newest_ended s) (i.ended s h)
      closed own (Ended s) h = h
      closed own (Paused s) h = h
      closed own Stuck h = tt

  -- ---- turns and jumps

  pub while_keeps : (n : ℕ) {test : Meaning Bool} {part : Meaning (Unit {0})} → Keeps P test → Keeps P part
      → Keeps P (repeated_while n test part)
  unfolding repeated_while
  while_keeps zero t p = stuck_keeps
  while_keeps (suc n) t p =
      bind_keeps t (λ met. choose_keeps met (then_keeps p (while_keeps n t p)) (give_keeps tt))

  caught_comes : (k height : ℕ) (labels : List Label) (f : Flow (Unit {0})) (next : Label → Meaning (Unit {0}))
      → Comes P Anything f → ((label : Label) → Keeps P (next label)) → Comes P Anything (caught k height labels f next)
  caught_comes k height labels (Normal q s) next h n = h
  caught_comes k height labels (Jump at label s) next h n =
      by_test ((at == height) && is_among label labels) (next label k s) ((n label).comes k s h)
    where
      by_test : (t : Bool) (f : Flow (Unit {0})) → Comes P Anything f → Comes P Anything (cond t f (Jump at label s))
      by_test true f c = c
      by_test false f c = h
  caught_comes k height labels (Return v s) next h n = h
  caught_comes k height labels (Ended s) next h n = h
  caught_comes k height labels (Paused s) next h n = h
  caught_comes k height labels Stuck next h n = tt

  pub list_keeps : (n height : ℕ) (labels : List Label) {part : Option Label → Meaning (Unit {0})} (from : Option Label)
      → ((x : Option Label) → Keeps P (part x)) → Keeps P (list_from n height labels part from)
  unfolding list_from stuck
  list_keeps zero height labels from a = record { comes = λ k s h. tt }
  list_keeps (suc n) height labels {part} from a =
      record {
        comes = λ k s h.
            caught_comes k height labels (part from k s) (λ label. list_from n height labels part (Some label))
            ((a from).comes k s h) (λ label. list_keeps n height labels (Some label) a);
      }
