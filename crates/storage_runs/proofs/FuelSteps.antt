-- The steps of the storage machine with fewer turns and levels and with more: the same, as long as these are enough for
-- the acts that are allowed.
use Rattle.std.proofs.Common.{◌≡◌, ℕ, zero, suc, ◌+◌, ◌<◌, ◌≤◌, List, Option, Some, None, Bool, true, false, refl, ap}
use Rattle.std.proofs.Common.{◌∙◌, arith}
use Rattle.std.specs.Prelude.{◌==◌, ◌&&◌, nat_lt, cond, ⊤}
use Rattle.std.proofs.lemmas.Bool.Decides.{nat_tests}
use Rattle.pli_meaning.specs.declared.outcome.End.{End}
use Rattle.pli_meaning.specs.World.{World, ending}
use Rattle.pli_meaning.specs.BasicValues.{BasicValue}
use Rattle.pli_meaning.specs.StorageState.{State, with_world, newest_ended}
use Rattle.pli_meaning.specs.Control.{Label, Flow, Normal, Jump, Return, Ended, Paused, Stuck, Meaning}
use Rattle.pli_meaning.specs.Control.{give, stuck, flow_on, ◌>>=◌, ◌>>◌, looked, stored, act, finish, returns, jumps}
use Rattle.pli_meaning.specs.Control.{choose, given, is_among, caught, list_from, repeated_while, left, leaving}

-- how many acts a flow has made, of those that are allowed: a result so many at least, a jump so many
abbrev pub Grows : {R : Type 0} → (by jumping acts allowed : ℕ) → Flow R → Type 0
Grows by jumping acts k (Normal r s) = (acts + by ≤ s.world.acts) × (s.world.acts ≤ k)
Grows by jumping acts k (Jump height label s) = (acts + jumping ≤ s.world.acts) × (s.world.acts ≤ k)
Grows by jumping acts k (Return v s) = (acts ≤ s.world.acts) × (s.world.acts ≤ k)
Grows by jumping acts k (Ended s) = ⊤
Grows by jumping acts k (Paused s) = ⊤
Grows by jumping acts k Stuck = ⊤

-- two parts are the same where at most so many acts are still allowed
pub record Same (by jumping left : ℕ) {R : Type 0} (m m' : Meaning R) : Type 0 where
  pub same : (k : ℕ) (s : State) → s.world.acts ≤ k → k ≤ s.world.acts + left → m k s ≡ m' k s
  pub grows : (k : ℕ) (s : State) → s.world.acts ≤ k → k ≤ s.world.acts + left
      → Grows by jumping s.world.acts k (m k s)

-- an act counts one
abbrev pub Counts : (World → World) → Type 0
Counts change = (w : World) → (change w).acts ≡ w.acts + 1

-- ---- flows

weaker : {R : Type 0} (by jumping acts k : ℕ) (f : Flow R) → Grows by jumping acts k f → Grows 0 0 acts k f
weaker by jumping acts k (Normal r s) h = (omega (arith, h.0), h.1)
weaker by jumping acts k (Jump height label s) h = (omega (arith, h.0), h.1)
weaker by jumping acts k (Return v s) h = h
weaker by jumping acts k (Ended s) h = tt
weaker by jumping acts k (Paused s) h = tt
weaker by jumping acts k Stuck h = tt

-- what is said of a part is said less exactly
pub loose : {R : Type 0} {by jumping left : ℕ} {m m' : Meaning R} → Same by jumping left m m' → Same 0 0 left m m'
loose {R} {by} {jumping} {left} {m} {m'} a =
    record { same = a.same; grows = λ k s h r. weaker by jumping s.world.acts k (m k s) (a.grows k s h r) }

slower : {R : Type 0} (by jumping acts k : ℕ) (f : Flow R) → Grows by jumping acts k f → Grows 0 jumping acts k f
slower by jumping acts k (Normal r s) h = (omega (arith, h.0), h.1)
slower by jumping acts k (Jump height label s) h = h
slower by jumping acts k (Return v s) h = h
slower by jumping acts k (Ended s) h = tt
slower by jumping acts k (Paused s) h = tt
slower by jumping acts k Stuck h = tt

pub slow : {R : Type 0} {by jumping left : ℕ} {m m' : Meaning R} → Same by jumping left m m' → Same 0 jumping left m m'
slow {R} {by} {jumping} {left} {m} {m'} a =
    record { same = a.same; grows = λ k s h r. slower by jumping s.world.acts k (m k s) (a.grows k s h r) }

-- where fewer acts are left
pub fewer_left : {R : Type 0} {by jumping : ℕ} (few left : ℕ) {m m' : Meaning R} → few ≤ left
    → Same by jumping left m m' → Same by jumping few m m'
fewer_left {R} {by} {jumping} few left {m} {m'} r a =
    record {
      same = λ k s h q. a.same k s h (omega (arith, q, r));
      grows = λ k s h q. a.grows k s h (omega (arith, q, r));
    }

same_on : {Q R : Type 0} (by jumping left acts k : ℕ) (f f' : Flow Q) (next next' : Q → Meaning R) → f ≡ f'
    → Grows by jumping acts k f → k ≤ acts + left
    → ((q : Q) (t : State) → t.world.acts ≤ k → k ≤ t.world.acts + left → next q k t ≡ next' q k t)
    → flow_on k f next ≡ flow_on k f' next'
same_on by jumping left acts k f f' next next' e h r n = both f h ∙ ap (λ g. flow_on k g next') e
  where
    both : (g : Flow _) → Grows by jumping acts k g → flow_on k g next ≡ flow_on k g next'
    both (Normal q s) h = n q s h.1 (omega (arith, h.0, r))
    both (Jump height label s) h = refl
    both (Return v s) h = refl
    both (Ended s) h = refl
    both (Paused s) h = refl
    both Stuck h = refl

from_later : {R : Type 0} (by jumping acts later k : ℕ) (f : Flow R) → acts + by ≤ later → Grows 0 jumping later k f
    → Grows by jumping acts k f
from_later by jumping acts later k (Normal r s) e h = (omega (arith, e, h.0), h.1)
from_later by jumping acts later k (Jump height label s) e h = (omega (arith, e, h.0), h.1)
from_later by jumping acts later k (Return v s) e h = (omega (arith, e, h.0), h.1)
from_later by jumping acts later k (Ended s) e h = tt
from_later by jumping acts later k (Paused s) e h = tt
from_later by jumping acts later k Stuck e h = tt

grows_on : {Q R : Type 0} (by jumping left acts k : ℕ) (f : Flow Q) (next : Q → Meaning R)
    → Grows by jumping acts k f → k ≤ acts + left
    → ((q : Q) (t : State) → t.world.acts ≤ k → k ≤ t.world.acts + left → Grows 0 jumping t.world.acts k (next q k t))
    → Grows by jumping acts k (flow_on k f next)
grows_on by jumping left acts k (Normal q s) next h r n =
    from_later by jumping acts s.world.acts k (next q k s) h.0 (n q s h.1 (omega (arith, h.0, r)))
grows_on by jumping left acts k (Jump height label s) next h r n = h
grows_on by jumping left acts k (Return v s) next h r n = h
grows_on by jumping left acts k (Ended s) next h r n = tt
grows_on by jumping left acts k (Paused s) next h r n = tt
grows_on by jumping left acts k Stuck next h r n = tt

-- ---- the steps

pub give_same : {R : Type 0} {jumping left : ℕ} (r : R) → Same 0 jumping left (give r) (give r)
unfolding give
give_same r = record { same = λ k s h r. refl; grows = λ k s h r. (omega arith, h) }

pub stuck_same : {R : Type 0} {by jumping left : ℕ} → Same by jumping left (stuck {R = R}) (stuck {R = R})
unfolding stuck
stuck_same = record { same = λ k s h r. refl; grows = λ k s h r. tt }

pub bind_same : {Q R : Type 0} {by jumping left : ℕ} {m m' : Meaning Q} {next next' : Q → Meaning R}
    → Same by jumping left m m' → ((q : Q) → Same 0 jumping left (next q) (next' q))
    → Same by jumping left (m >>= next) (m' >>= next')
unfolding ◌>>=◌
bind_same {Q} {R} {by} {jumping} {left} {m} {m'} {next} {next'} a n =
    record {
      same = λ k s h r.
          same_on by jumping left s.world.acts k (m k s) (m' k s) next next' (a.same k s h r) (a.grows k s h r) r
          (λ q. (n q).same k);
      grows = λ k s h r.
          grows_on by jumping left s.world.acts k (m k s) next (a.grows k s h r) r (λ q. (n q).grows k);
    }

pub then_same : {Q R : Type 0} {by jumping left : ℕ} {m m' : Meaning Q} {next next' : Meaning R}
    → Same by jumping left m m' → Same 0 jumping left next next' → Same by jumping left (m >> next) (m' >> next')
unfolding ◌>>◌
then_same {Q} {R} {by} {jumping} {left} {m} {m'} {next} {next'} a n =
    record {
      same = λ k s h r.
          same_on by jumping left s.world.acts k (m k s) (m' k s) (λ q. next) (λ q. next') (a.same k s h r)
          (a.grows k s h r) r (λ q. n.same k);
      grows = λ k s h r.
          grows_on by jumping left s.world.acts k (m k s) (λ q. next) (a.grows k s h r) r (λ q. n.grows k);
    }

pub looked_same : {jumping left : ℕ} → Same 0 jumping left looked looked
unfolding looked
looked_same = record { same = λ k s h r. refl; grows = λ k s h r. (omega arith, h) }

pub stored_same : {jumping left : ℕ} (change : State → State) → Same 0 jumping left (stored change) (stored change)
unfolding stored
stored_same change = record { same = λ k s h r. refl; grows = λ k s h r. (omega arith, h) }

acted_grows : (by jumping k : ℕ) (t : Bool) (change : World → World) (s : State) → by ≤ 1 → nat_lt s.world.acts k ≡ t
    → Counts change → Grows {R = Unit {0}} by jumping s.world.acts k
    (cond t (Normal tt (with_world (change s.world) s)) (Paused s))
acted_grows by jumping k true change s few e counts =
    let below : s.world.acts < k = grind (arith, nat_tests) in
    let one = counts s.world in
    (omega (arith, few, one), omega (arith, one, below))
acted_grows by jumping k false change s few e counts = tt

-- an act, of which it isn't said that it is one
pub act_same : {jumping left : ℕ} (change : World → World) → Counts change
    → Same 0 jumping left (act change) (act change)
unfolding act
act_same {jumping} {left} change counts =
    record {
      same = λ k s h r. refl;
      grows = λ k s h r.
          acted_grows 0 jumping k (nat_lt s.world.acts k) change s (omega arith) refl counts;
    }

-- what an act is made of
pub act_made : {left : ℕ} (change : World → World) → Counts change → Same 1 1 left (act change) (act change)
unfolding act
act_made {left} change counts =
    record {
      same = λ k s h r. refl;
      grows = λ k s h r. acted_grows 1 1 k (nat_lt s.world.acts k) change s (omega arith) refl counts;
    }

-- behind a part that makes an act one less is allowed
less_left : (left acts later k : ℕ) → acts + 1 ≤ later → later ≤ k → k ≤ acts + left
    → (c : ℕ) × (suc c ≡ left) × (k ≤ later + c)
less_left zero acts later k e h r = absurd (omega (arith, e, h, r))
less_left (suc c) acts later k e h r = (c, refl, omega (arith, e, r))

pub behind_act : {Q R : Type 0} {left : ℕ} {m m' : Meaning Q} {next next' : Q → Meaning R} → Same 1 1 left m m'
    → ((q : Q) (c : ℕ) → suc c ≡ left → Same 0 0 c (next q) (next' q))
    → Same 1 1 left (m >>= next) (m' >>= next')
unfolding ◌>>=◌
behind_act {Q} {R} {left} {m} {m'} {next} {next'} a n =
    record {
      same = λ k s h r.
          both k s.world.acts r (m k s) (a.grows k s h r) ∙ ap (λ g. flow_on k g next') (a.same k s h r);
      grows = λ k s h r. grown k s.world.acts r (m k s) (a.grows k s h r);
    }
  where
    both : (k acts : ℕ) → k ≤ acts + left → (g : Flow Q) → Grows 1 1 acts k g → flow_on k g next ≡ flow_on k g next'
    both k acts r (Normal q s) h =
        let less = less_left left acts s.world.acts k h.0 h.1 r in
        (n q less.0 less.1).same k s h.1 less.2
    both k acts r (Jump height label s) h = refl
    both k acts r (Return v s) h = refl
    both k acts r (Ended s) h = refl
    both k acts r (Paused s) h = refl
    both k acts r Stuck h = refl

    later : (acts now k : ℕ) (f : Flow R) → acts + 1 ≤ now → Grows 0 0 now k f → Grows 1 1 acts k f
    later acts now k (Normal q s) e h = (omega (arith, e, h.0), h.1)
    later acts now k (Jump height label s) e h = (omega (arith, e, h.0), h.1)
    later acts now k (Return v s) e h = (omega (arith, e, h.0), h.1)
    later acts now k (Ended s) e h = tt
    later acts now k (Paused s) e h = tt
    later acts now k Stuck e h = tt

    grown : (k acts : ℕ) → k ≤ acts + left → (g : Flow Q) → Grows 1 1 acts k g → Grows 1 1 acts k (flow_on k g next)
    grown k acts r (Normal q s) h =
        let less = less_left left acts s.world.acts k h.0 h.1 r in
        later acts s.world.acts k (next q k s) h.0 ((n q less.0 less.1).grows k s h.1 less.2)
    grown k acts r (Jump height label s) h = h
    grown k acts r (Return v s) h = h
    grown k acts r (Ended s) h = tt
    grown k acts r (Paused s) h = tt
    grown k acts r Stuck h = tt

pub act_then : {R : Type 0} {left : ℕ} {next next' : Meaning R} (change : World → World) → Counts change
    → ((c : ℕ) → suc c ≡ left → Same 0 0 c next next') → Same 1 1 left (act change >> next) (act change >> next')
unfolding ◌>>=◌ ◌>>◌
act_then {R} {left} {next} {next'} change counts n =
    let made = act_made {left = left} change counts in
    let a = behind_act {next = λ q. next} {next' = λ q. next'} made (λ q c e. n c e) in
    record { same = a.same; grows = a.grows }

ended_grows : (R : Type 0) (by jumping acts k : ℕ) (t : Bool) (s u : State)
    → Grows {R = R} by jumping acts k (cond t (Ended s) (Paused u))
ended_grows R by jumping acts k true s u = tt
ended_grows R by jumping acts k false s u = tt

pub finish_same : {R : Type 0} {by jumping left : ℕ} (end : End)
    → Same by jumping left (finish {R = R} end) (finish {R = R} end)
unfolding finish
finish_same {R} {by} {jumping} {left} end =
    record {
      same = λ k s h r. refl;
      grows = λ k s h r.
          ended_grows R by jumping s.world.acts k (nat_lt s.world.acts k) (with_world (ending end s.world) s) s;
    }

pub returns_same : {R : Type 0} {by jumping left : ℕ} (v : Option BasicValue)
    → Same by jumping left (returns {R = R} v) (returns {R = R} v)
unfolding returns
returns_same v = record { same = λ k s h r. refl; grows = λ k s h r. (omega arith, h) }

pub jumps_same : {R : Type 0} {by left : ℕ} (height : ℕ) (label : Label)
    → Same by 0 left (jumps {R = R} height label) (jumps {R = R} height label)
unfolding jumps
jumps_same height label = record { same = λ k s h r. refl; grows = λ k s h r. (omega arith, h) }

pub choose_same : {R : Type 0} {by jumping left : ℕ} (b : Bool) {m m' n n' : Meaning R} → Same by jumping left m m'
    → Same by jumping left n n' → Same by jumping left (choose b m n) (choose b m' n')
unfolding choose
choose_same true {m} {m'} {n} {n'} a c = record { same = a.same; grows = a.grows }
choose_same false {m} {m'} {n} {n'} a c = record { same = c.same; grows = c.grows }

pub given_same : {X R : Type 0} {by jumping left : ℕ} (o : Option X) {next next' : X → Meaning R} {m m' : Meaning R}
    → ((x : X) → Same by jumping left (next x) (next' x)) → Same by jumping left m m'
    → Same by jumping left (given o next m) (given o next' m')
unfolding given
given_same None n a = a
given_same (Some x) n a = n x

pub leaving_same : {jumping few : ℕ} (own : Bool) {m m' : Meaning (Unit {0})} → Same 0 jumping few m m'
    → Same 0 jumping few (leaving own newest_ended m) (leaving own newest_ended m')
unfolding leaving
leaving_same {jumping} {few} own {m} {m'} a =
    record {
      same = λ k s h r. ap (left own newest_ended) (a.same k s h r);
      grows = λ k s h r. closed own s.world.acts k (m k s) (a.grows k s h r);
    }
  where
    closed : (own : Bool) (acts k : ℕ) (f : Flow (Unit {0})) → Grows 0 jumping acts k f
        → Grows 0 jumping acts k (left own newest_ended f)
    closed own acts k (Normal r s) h = h
    closed own acts k (Jump height label s) h = h
    closed true acts k (Return v s) h = (omega (arith, h.0), h.1)
    closed false acts k (Return v s) h = h
    closed own acts k (Ended s) h = tt
    closed own acts k (Paused s) h = tt
    closed own acts k Stuck h = tt

-- ---- turns

-- a loop in which each test makes an act
pub while_same : (n n' left : ℕ) {test test' : Meaning Bool} {part part' : Meaning (Unit {0})} → left < n → left < n'
    → ((c : ℕ) → c ≤ left → Same 1 1 c test test') → ((c : ℕ) → c ≤ left → Same 0 1 c part part')
    → Same 0 1 left (repeated_while n test part) (repeated_while n' test' part')
unfolding repeated_while
while_same zero n' left few more t p = absurd (omega (arith, few))
while_same (suc n) zero left few more t p = absurd (omega (arith, more))
while_same (suc n) (suc n') left few more t p =
    slow (behind_act (t left (omega arith)) (λ met c e.
    loose (choose_same met
    (then_same (p c (omega (arith, e)))
    (while_same n n' c (omega (arith, e, few)) (omega (arith, e, more)) (λ d r. t d (omega (arith, r, e)))
    (λ d r. p d (omega (arith, r, e)))))
    (give_same tt))))

-- ---- jumps: each has made an act

caught_same : (k acts left height : ℕ) (labels : List Label) (f f' : Flow (Unit {0}))
    (next next' : Label → Meaning (Unit {0})) → f ≡ f' → Grows 0 1 acts k f → k ≤ acts + left
    → ((label : Label) (c : ℕ) → suc c ≡ left → Same 0 1 c (next label) (next' label))
    → caught k height labels f next ≡ caught k height labels f' next'
caught_same k acts left height labels f f' next next' e h r n =
    both f h ∙ ap (λ g. caught k height labels g next') e
  where
    both : (g : Flow (Unit {0})) → Grows 0 1 acts k g → caught k height labels g next ≡ caught k height labels g next'
    both (Normal q s) h = refl
    both (Jump at label s) h =
        let less = less_left left acts s.world.acts k h.0 h.1 r in
        ap (λ g. cond ((at == height) && is_among label labels) g (Jump at label s))
        ((n label less.0 less.1).same k s h.1 less.2)
    both (Return v s) h = refl
    both (Ended s) h = refl
    both (Paused s) h = refl
    both Stuck h = refl

caught_grows : (k acts left height : ℕ) (labels : List Label) (f : Flow (Unit {0}))
    (next next' : Label → Meaning (Unit {0})) → Grows 0 1 acts k f → k ≤ acts + left
    → ((label : Label) (c : ℕ) → suc c ≡ left → Same 0 1 c (next label) (next' label))
    → Grows 0 1 acts k (caught k height labels f next)
caught_grows k acts left height labels (Normal q s) next next' h r n = h
caught_grows k acts left height labels (Jump at label s) next next' h r n =
    let less = less_left left acts s.world.acts k h.0 h.1 r in
    by_test ((at == height) && is_among label labels) (next label k s)
    (from_later 0 1 acts s.world.acts k (next label k s) (omega (arith, h.0))
    ((n label less.0 less.1).grows k s h.1 less.2))
  where
    by_test : (t : Bool) (f : Flow (Unit {0})) → Grows 0 1 acts k f → Grows 0 1 acts k (cond t f (Jump at label s))
    by_test true f g = g
    by_test false f g = h
caught_grows k acts left height labels (Return v s) next next' h r n = h
caught_grows k acts left height labels (Ended s) next next' h r n = tt
caught_grows k acts left height labels (Paused s) next next' h r n = tt
caught_grows k acts left height labels Stuck next next' h r n = tt

pub list_same : (n n' left height : ℕ) (labels : List Label) {part part' : Option Label → Meaning (Unit {0})}
    (from : Option Label) → left < n → left < n'
    → ((x : Option Label) (c : ℕ) → c ≤ left → Same 0 1 c (part x) (part' x))
    → Same 0 1 left (list_from n height labels part from) (list_from n' height labels part' from)
unfolding list_from
list_same zero n' left height labels from few more a = absurd (omega (arith, few))
list_same (suc n) zero left height labels from few more a = absurd (omega (arith, more))
list_same (suc n) (suc n') left height labels {part} {part'} from few more a =
    let rest : (label : Label) (c : ℕ) → suc c ≡ left
    → Same 0 1 c (list_from n height labels part (Some label)) (list_from n' height labels part' (Some label)) =
    λ label c e.
    list_same n n' c height labels (Some label) (omega (arith, e, few)) (omega (arith, e, more))
    (λ x d r. a x d (omega (arith, e, r))) in
    let first = a from left (omega arith) in
    record {
      same = λ k s h r.
          caught_same k s.world.acts left height labels (part from k s) (part' from k s) _ _ (first.same k s h r)
          (first.grows k s h r) r rest;
      grows = λ k s h r.
          caught_grows k s.world.acts left height labels (part from k s) _ _ (first.grows k s h r) r rest;
    }
