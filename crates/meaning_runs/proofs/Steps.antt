-- The steps of the storage machine are there: none of them is stuck, as long as turns and levels are enough for the
-- acts that are allowed.
use Rattle.std.proofs.Common.{◌≡◌, ℕ, zero, suc, ◌+◌, ◌<◌, ◌≤◌, List, [], ◌∷◌, ◌++◌, Option, Some, None, Bool, true}
use Rattle.std.proofs.Common.{false, refl, ap, sym, ◌∙◌, subst, arith, inl, inr}
use Rattle.std.specs.Prelude.{◌==◌, ◌&&◌, ◌||◌, nat_lt, cond, ⊤, length}
use Rattle.std.proofs.lemmas.Bool.Decides.{nat_tests}
use Rattle.pli_meaning.specs.declared.outcome.End.{End}
use Rattle.pli_meaning.specs.World.{World, ending}
use Rattle.pli_meaning.specs.BasicValues.{BasicValue}
use Rattle.pli_meaning.specs.StorageState.{State, Activation, with_world, newest_ended}
use Rattle.pli_meaning.specs.Control.{Label, Flow, Normal, Jump, Return, Ended, Paused, Stuck, Meaning}
use Rattle.pli_meaning.specs.Control.{give, flow_on, ◌>>=◌, ◌>>◌, looked, stored, act, finish, returns, jumps}
use Rattle.pli_meaning.specs.Control.{choose, given, is_among, caught, list_from, repeated_while, left, leaving}
use Rattle.std.proofs.lemmas.List.Folds.{list_any-append}
use Rattle.pli_language.specs.Keywords.{same_bytes}
use Rattle.meaning_runs.proofs.Frames.{Frame, outlines, with_labels}
use Rattle.meaning_runs.specs.Present.{IsOver}
use Rattle.well_formed_trees.specs.Surroundings.{Returning}
use Rattle.meaning_runs.proofs.Demands.{Demand, HasUnits, Kept, Anything, Comes, There, Answers, Jumps}
use Rattle.meaning_runs.proofs.Demands.{ended_kept}
use Rattle.meaning_runs.proofs.Bindings.{labelled_bindings, unlabelled_bindings}

-- an act counts one
abbrev pub Counts : (World → World) → Type 0
Counts change = (w : World) → (change w).acts ≡ w.acts + 1

pub nat_same : (a b : ℕ) → a ≡ b → (a == b) ≡ true
nat_same a b e = grind (arith, nat_tests, e)

-- ---- flows

weaker : {R : Type 0} (d : Demand) (after : R → Type 0) (by jumping acts k : ℕ) (f : Flow R)
    → Comes d after by jumping acts k f → Comes d after 0 0 acts k f
weaker d after by jumping acts k (Normal r s) h = (omega (arith, h.0), h.1)
weaker d after by jumping acts k (Jump height label s) h = (omega (arith, h.0), h.1)
weaker d after by jumping acts k (Return v s) h = h
weaker d after by jumping acts k (Ended s) h = h
weaker d after by jumping acts k (Paused s) h = h
weaker d after by jumping acts k Stuck h = h

-- what is said of a part is said less exactly
pub loose : {R : Type 0} {d : Demand} {by jumping left : ℕ} {after : R → Type 0} {m : Meaning R}
    → There d by jumping left after m → There d 0 0 left after m
loose {R} {d} {by} {jumping} {left} {after} {m} a =
    record { comes = λ k s h r c. weaker d after by jumping s.world.acts k (m k s) (a.comes k s h r c) }

slower : {R : Type 0} (d : Demand) (after : R → Type 0) (by jumping acts k : ℕ) (f : Flow R)
    → Comes d after by jumping acts k f → Comes d after 0 jumping acts k f
slower d after by jumping acts k (Normal r s) h = (omega (arith, h.0), h.1)
slower d after by jumping acts k (Jump height label s) h = h
slower d after by jumping acts k (Return v s) h = h
slower d after by jumping acts k (Ended s) h = h
slower d after by jumping acts k (Paused s) h = h
slower d after by jumping acts k Stuck h = h

pub slow : {R : Type 0} {d : Demand} {by jumping left : ℕ} {after : R → Type 0} {m : Meaning R}
    → There d by jumping left after m → There d 0 jumping left after m
slow {R} {d} {by} {jumping} {left} {after} {m} a =
    record { comes = λ k s h r c. slower d after by jumping s.world.acts k (m k s) (a.comes k s h r c) }

-- what is known of a result tells something else of it
pub told : {R : Type 0} {d : Demand} {by jumping left : ℕ} {first after : R → Type 0} {m : Meaning R}
    → ((r : R) → first r → after r) → There d by jumping left first m → There d by jumping left after m
told {R} {d} {by} {jumping} {left} {first} {after} {m} t a =
    record { comes = λ k s h r c. of_flow s.world.acts k (m k s) (a.comes k s h r c) }
  where
    of_flow : (acts k : ℕ) (f : Flow R) → Comes d first by jumping acts k f → Comes d after by jumping acts k f
    of_flow acts k (Normal r s) h = (h.0, (h.1.0, (h.1.1.0, t r h.1.1.1)))
    of_flow acts k (Jump height label s) h = h
    of_flow acts k (Return v s) h = h
    of_flow acts k (Ended s) h = h
    of_flow acts k (Paused s) h = h
    of_flow acts k Stuck h = h

-- where fewer acts are left
pub fewer_left : {R : Type 0} {d : Demand} {by jumping : ℕ} (few left : ℕ) {after : R → Type 0} {m : Meaning R}
    → few ≤ left → There d by jumping left after m → There d by jumping few after m
fewer_left few left r a = record { comes = λ k s h q c. a.comes k s h (omega (arith, q, r)) c }

from_later : {R : Type 0} (d : Demand) (after : R → Type 0) (by jumping acts later k : ℕ) (f : Flow R)
    → acts + by ≤ later → Comes d after 0 jumping later k f → Comes d after by jumping acts k f
from_later d after by jumping acts later k (Normal r s) e h = (omega (arith, e, h.0), h.1)
from_later d after by jumping acts later k (Jump height label s) e h = (omega (arith, e, h.0), h.1)
from_later d after by jumping acts later k (Return v s) e h = (omega (arith, e, h.0), h.1)
from_later d after by jumping acts later k (Ended s) e h = h
from_later d after by jumping acts later k (Paused s) e h = h
from_later d after by jumping acts later k Stuck e h = h

on_from : {Q R : Type 0} (d : Demand) (between : Q → Type 0) (after : R → Type 0) (by jumping left acts k : ℕ)
    (f : Flow Q) (next : Q → Meaning R) → Comes d between by jumping acts k f → k ≤ acts + left
    → ((q : Q) → between q → There d 0 jumping left after (next q))
    → Comes d after by jumping acts k (flow_on k f next)
on_from d between after by jumping left acts k (Normal q s) next h r n =
    from_later d after by jumping acts s.world.acts k (next q k s) h.0
    ((n q h.1.1.1).comes k s h.1.0 (omega (arith, h.0, r)) h.1.1.0)
on_from d between after by jumping left acts k (Jump height label s) next h r n = h
on_from d between after by jumping left acts k (Return v s) next h r n = h
on_from d between after by jumping left acts k (Ended s) next h r n = h
on_from d between after by jumping left acts k (Paused s) next h r n = h
on_from d between after by jumping left acts k Stuck next h r n = h

-- ---- the steps

pub give_there : {R : Type 0} {d : Demand} {jumping left : ℕ} {after : R → Type 0} (r : R) → after r
    → There d 0 jumping left after (give r)
unfolding give
give_there r a = record { comes = λ k s h r c. (omega arith, (h, (c, a))) }

pub bind_there : {Q R : Type 0} {d : Demand} {by jumping left : ℕ} {between : Q → Type 0} {after : R → Type 0}
    {m : Meaning Q} {next : Q → Meaning R} → There d by jumping left between m
    → ((q : Q) → between q → There d 0 jumping left after (next q)) → There d by jumping left after (m >>= next)
unfolding ◌>>=◌
bind_there {Q} {R} {d} {by} {jumping} {left} {between} {after} {m} {next} a n =
    record {
      comes = λ k s h r c.
          on_from d between after by jumping left s.world.acts k (m k s) next (a.comes k s h r c) r n;
    }

pub then_there : {Q R : Type 0} {d : Demand} {by jumping left : ℕ} {between : Q → Type 0} {after : R → Type 0}
    {m : Meaning Q} {next : Meaning R} → There d by jumping left between m → There d 0 jumping left after next
    → There d by jumping left after (m >> next)
unfolding ◌>>◌
then_there {Q} {R} {d} {by} {jumping} {left} {between} {after} {m} {next} a n =
    record {
      comes = λ k s h r c.
          on_from d between after by jumping left s.world.acts k (m k s) (λ q. next) (a.comes k s h r c) r (λ q b. n);
    }

pub looked_there : {d : Demand} {jumping left : ℕ} → There d 0 jumping left (Kept d) looked
unfolding looked
looked_there = record { comes = λ k s h r c. (omega arith, (h, (c, c))) }

pub stored_there : {d : Demand} {jumping left : ℕ} (change : State → State)
    → ((s : State) → Kept d s → Kept d (change s)) → There d 0 jumping left Anything (stored change)
unfolding stored
stored_there change kept = record { comes = λ k s h r c. (omega arith, (h, (kept s c, tt))) }

acted_comes : (d : Demand) (by jumping k : ℕ) (t : Bool) (change : World → World) (s : State) → by ≤ 1
    → nat_lt s.world.acts k ≡ t → Counts change → s.world.acts ≤ k → Kept d s
    → Comes {R = Unit {0}} d Anything by jumping s.world.acts k
    (cond t (Normal tt (with_world (change s.world) s)) (Paused s))
acted_comes d by jumping k true change s few e counts h c =
    let below : s.world.acts < k = grind (arith, nat_tests) in
    let one = counts s.world in
    (omega (arith, few, one), (omega (arith, one, below), (c, tt)))
acted_comes d by jumping k false change s few e counts h c =
    let above : k ≤ s.world.acts = grind (arith, nat_tests) in
    omega (arith, above, h)

-- an act, of which it isn't said that it is one
pub act_there : {d : Demand} {jumping left : ℕ} (change : World → World) → Counts change
    → There d 0 jumping left Anything (act change)
unfolding act
act_there {d} {jumping} change counts =
    record {
      comes = λ k s h r c.
          acted_comes d 0 jumping k (nat_lt s.world.acts k) change s (omega arith) refl counts h c;
    }

-- what an act is made of
pub act_made : {d : Demand} {left : ℕ} (change : World → World) → Counts change
    → There d 1 1 left Anything (act change)
unfolding act
act_made {d} change counts =
    record {
      comes = λ k s h r c. acted_comes d 1 1 k (nat_lt s.world.acts k) change s (omega arith) refl counts h c;
    }

-- behind a part that makes an act one less is allowed
less_left : (left acts later k : ℕ) → acts + 1 ≤ later → later ≤ k → k ≤ acts + left
    → (c : ℕ) × (suc c ≡ left) × (k ≤ later + c)
less_left zero acts later k e h r = absurd (omega (arith, e, h, r))
less_left (suc c) acts later k e h r = (c, refl, omega (arith, e, r))

pub behind_act : {Q R : Type 0} {d : Demand} {left : ℕ} {between : Q → Type 0} {after : R → Type 0} {m : Meaning Q}
    {next : Q → Meaning R} → There d 1 1 left between m
    → ((q : Q) (c : ℕ) → suc c ≡ left → between q → There d 0 0 c after (next q))
    → There d 1 1 left after (m >>= next)
unfolding ◌>>=◌
behind_act {Q} {R} {d} {left} {between} {after} {m} {next} a n =
    record { comes = λ k s h r c. grown k s.world.acts r (m k s) (a.comes k s h r c) }
  where
    later : (acts now k : ℕ) (f : Flow R) → acts + 1 ≤ now → Comes d after 0 0 now k f → Comes d after 1 1 acts k f
    later acts now k (Normal q s) e h = (omega (arith, e, h.0), h.1)
    later acts now k (Jump height label s) e h = (omega (arith, e, h.0), h.1)
    later acts now k (Return v s) e h = (omega (arith, e, h.0), h.1)
    later acts now k (Ended s) e h = h
    later acts now k (Paused s) e h = h
    later acts now k Stuck e h = h

    grown : (k acts : ℕ) → k ≤ acts + left → (g : Flow Q) → Comes d between 1 1 acts k g
        → Comes d after 1 1 acts k (flow_on k g next)
    grown k acts r (Normal q s) h =
        let less = less_left left acts s.world.acts k h.0 h.1.0 r in
        later acts s.world.acts k (next q k s) h.0 ((n q less.0 less.1 h.1.1.1).comes k s h.1.0 less.2 h.1.1.0)
    grown k acts r (Jump height label s) h = h
    grown k acts r (Return v s) h = h
    grown k acts r (Ended s) h = h
    grown k acts r (Paused s) h = h
    grown k acts r Stuck h = h

pub act_then : {R : Type 0} {d : Demand} {left : ℕ} {after : R → Type 0} {next : Meaning R} (change : World → World)
    → Counts change → ((c : ℕ) → suc c ≡ left → There d 0 0 c after next)
    → There d 1 1 left after (act change >> next)
unfolding ◌>>=◌ ◌>>◌
act_then {R} {d} {left} {after} {next} change counts n =
    let made = act_made {d = d} {left = left} change counts in
    let a = behind_act {next = λ q. next} made (λ q c e b. n c e) in
    record { comes = a.comes }

finish_comes : (R : Type 0) (d : Demand) (after : R → Type 0) (by jumping k : ℕ) (t : Bool) (end : End) (s : State)
    → nat_lt s.world.acts k ≡ t → IsOver end → s.world.acts ≤ k
    → Comes {R = R} d after by jumping s.world.acts k (cond t (Ended (with_world (ending end s.world) s)) (Paused s))
finish_comes R d after by jumping k true end s e over h =
    let below : s.world.acts < k = grind (arith, nat_tests) in
    (omega (arith, below), over)
finish_comes R d after by jumping k false end s e over h =
    let above : k ≤ s.world.acts = grind (arith, nat_tests) in
    omega (arith, above, h)

-- what ends the run has no result
pub finish_there : {R : Type 0} {d : Demand} {by jumping left : ℕ} {after : R → Type 0} (end : End) → IsOver end
    → There d by jumping left after (finish {R = R} end)
unfolding finish
finish_there {R} {d} {by} {jumping} {left} {after} end over =
    record {
      comes = λ k s h r c. finish_comes R d after by jumping k (nat_lt s.world.acts k) end s refl over h;
    }

pub returns_there : {R : Type 0} {d : Demand} {by jumping left : ℕ} {after : R → Type 0} (v : Option BasicValue)
    → Answers d.bearing.answers v → There d by jumping left after (returns {R = R} v)
unfolding returns
returns_there v a = record { comes = λ k s h r c. (omega arith, (h, (c, a))) }

pub jumps_there : {R : Type 0} {d : Demand} {by left : ℕ} {after : R → Type 0} (height : ℕ) (label : Label)
    → Jumps d.bearing.frames height label
    → There d by 0 left after (jumps {R = R} height label)
unfolding jumps
jumps_there height label a = record { comes = λ k s h r c. (omega arith, (h, (c, a))) }

pub choose_there : {R : Type 0} {d : Demand} {by jumping left : ℕ} {after : R → Type 0} (b : Bool) {m n : Meaning R}
    → There d by jumping left after m → There d by jumping left after n
    → There d by jumping left after (choose b m n)
unfolding choose
choose_there true {m} {n} a c = record { comes = a.comes }
choose_there false {m} {n} a c = record { comes = c.comes }

pub given_there : {X R : Type 0} {d : Demand} {by jumping left : ℕ} {after : R → Type 0} (o : Option X)
    {next : X → Meaning R} {m : Meaning R} → ((x : X) → There d by jumping left after (next x))
    → There d by jumping left after m → There d by jumping left after (given o next m)
unfolding given
given_there None n a = a
given_there (Some x) n a = n x

-- what is there, whatever stands for its lack
pub found_there : {X R : Type 0} {d : Demand} {by jumping left : ℕ} {after : R → Type 0} (o : Option X) (x : X)
    (next : X → Meaning R) (m : Meaning R) → o ≡ Some x → There d by jumping left after (next x)
    → There d by jumping left after (given o next m)
unfolding given
found_there None x next m e a = absurd (cc e)
found_there {d = d} {by} {jumping} {left} {after} (Some y) x next m e a =
    let same : x ≡ y = cc e in
    subst (λ z. There d by jumping left after (next z)) same a

-- ---- turns

-- a loop in which each test makes an act
pub while_there : {d : Demand} (n left : ℕ) {test : Meaning Bool} {part : Meaning (Unit {0})} → left < n
    → ((c : ℕ) → c ≤ left → There d 1 1 c Anything test) → ((c : ℕ) → c ≤ left → There d 0 1 c Anything part)
    → There d 0 1 left Anything (repeated_while n test part)
unfolding repeated_while
while_there zero left few t p = absurd (omega (arith, few))
while_there (suc n) left few t p =
    slow (behind_act (t left (omega arith)) (λ met c e any.
    loose (choose_there met
    (then_there (p c (omega (arith, e)))
    (while_there n c (omega (arith, e, few)) (λ d r. t d (omega (arith, r, e))) (λ d r. p d (omega (arith, r, e)))))
    (give_there tt tt))))

-- ---- jumps: each has made an act

-- where one more list is carried out in the newest activation
abbrev pub labelled : List Label → Demand → Demand
labelled labels d =
    record {
      program = d.program;
      table = d.table;
      bearing = record { answers = d.bearing.answers; frames = with_labels labels d.bearing.frames };
    }

-- a height is that of the newest activation, if there is one
abbrev pub IsNewest : List Frame → ℕ → Type 0
IsNewest [] height = ⊤
IsNewest (f ∷ fs) height = height ≡ suc (length fs)

-- the list behind it keeps what it keeps
unlabelled_units : (d : Demand) (labels : List Label) (fs : List Frame) (as' : List Activation)
    → HasUnits d.program d.table (with_labels labels fs) as' → HasUnits d.program d.table fs as'
unlabelled_units d labels [] as' h = h
unlabelled_units d labels (f ∷ fs) [] h = h
unlabelled_units d labels (f ∷ fs) (a ∷ as') h = h

labelled_units : (d : Demand) (labels : List Label) (fs : List Frame) (as' : List Activation)
    → HasUnits d.program d.table fs as' → HasUnits d.program d.table (with_labels labels fs) as'
labelled_units d labels [] as' h = h
labelled_units d labels (f ∷ fs) [] h = h
labelled_units d labels (f ∷ fs) (a ∷ as') h = h

labelled_outlines : (labels : List Label) (fs : List Frame) → outlines (with_labels labels fs) ≡ outlines fs
labelled_outlines labels [] = refl
labelled_outlines labels (f ∷ fs) = refl

unlabelled : (d : Demand) (labels : List Label) (s : State) → Kept (labelled labels d) s → Kept d s
unlabelled d labels s h = (
  (
    unlabelled_units d labels d.bearing.frames s.activations h.0.0,
    (unlabelled_bindings d.program labels d.bearing.frames s.activations h.0.1.0, h.0.1.1),
  ),
  h.1 ∙ labelled_outlines labels d.bearing.frames,
)

labelled_kept : (d : Demand) (labels : List Label) (s : State) → Kept d s → Kept (labelled labels d) s
labelled_kept d labels s h = (
  (
    labelled_units d labels d.bearing.frames s.activations h.0.0,
    (labelled_bindings d.program labels d.bearing.frames s.activations h.0.1.0, h.0.1.1),
  ),
  h.1 ∙ sym (labelled_outlines labels d.bearing.frames),
)

among_rest : (label : Label) (labels outer : List Label) → is_among label labels ≡ false
    → is_among label (labels ++ outer) ≡ true → is_among label outer ≡ true
among_rest label labels outer e h =
    ap (λ t. t || is_among label outer) (sym e) ∙ (sym (list_any-append (same_bytes label) labels outer) ∙ h)

-- a jump that a list doesn't catch goes to a label further out
jump_on : (fs : List Frame) (labels : List Label) (at height : ℕ) (label : Label) → IsNewest fs height
    → Jumps (with_labels labels fs) at label → ((at == height) && is_among label labels) ≡ false
    → Jumps fs at label
jump_on [] labels at height label n h e = absurd h
jump_on (f ∷ fs) labels at height label n (inl h) e =
    let same : (at == height) ≡ true = nat_same at height (h.0 ∙ sym n) in
    let none : is_among label labels ≡ false = ap (λ t. t && is_among label labels) (sym same) ∙ e in
    inl (h.0, among_rest label labels f.labels none h.1)
jump_on (f ∷ fs) labels at height label n (inr h) e = inr h

caught_comes : (d : Demand) (after : Unit {0} → Type 0) (k acts left height : ℕ) (labels : List Label)
    (f : Flow (Unit {0})) (next : Label → Meaning (Unit {0})) → IsNewest d.bearing.frames height
    → Comes (labelled labels d) after 0 1 acts k f → k ≤ acts + left
    → ((label : Label) (c : ℕ) → suc c ≡ left → There d 0 1 c after (next label))
    → Comes d after 0 1 acts k (caught k height labels f next)
caught_comes d after k acts left height labels (Normal q s) next newest h r n =
    (h.0, (h.1.0, (unlabelled d labels s h.1.1.0, h.1.1.1)))
caught_comes d after k acts left height labels (Jump at label s) next newest h r n =
    let less = less_left left acts s.world.acts k h.0 h.1.0 r in
    let kept : Kept d s = unlabelled d labels s h.1.1.0 in
    by_test ((at == height) && is_among label labels) (next label k s) refl
    (from_later d after 0 1 acts s.world.acts k (next label k s) (omega (arith, h.0))
    ((n label less.0 less.1).comes k s h.1.0 less.2 kept))
  where
    by_test : (t : Bool) (f : Flow (Unit {0})) → ((at == height) && is_among label labels) ≡ t
        → Comes d after 0 1 acts k f → Comes d after 0 1 acts k (cond t f (Jump at label s))
    by_test true f e g = g
    by_test false f e g = (
      h.0,
      (
        h.1.0,
        (
          unlabelled d labels s h.1.1.0,
          jump_on d.bearing.frames labels at height label newest h.1.1.1 e,
        ),
      ),
    )
caught_comes d after k acts left height labels (Return v s) next newest h r n =
    (h.0, (h.1.0, (unlabelled d labels s h.1.1.0, h.1.1.1)))
caught_comes d after k acts left height labels (Ended s) next newest h r n = h
caught_comes d after k acts left height labels (Paused s) next newest h r n = h
caught_comes d after k acts left height labels Stuck next newest h r n = h

pub list_there : {d : Demand} {after : Unit {0} → Type 0} (n left height : ℕ) (labels : List Label)
    {part : Option Label → Meaning (Unit {0})} (from : Option Label) → left < n → IsNewest d.bearing.frames height
    → ((x : Option Label) (c : ℕ) → c ≤ left → There (labelled labels d) 0 1 c after (part x))
    → There d 0 1 left after (list_from n height labels part from)
unfolding list_from
list_there zero left height labels from few newest a = absurd (omega (arith, few))
list_there {d} {after} (suc n) left height labels {part} from few newest a =
    let first = a from left (omega arith) in
    let rest : (label : Label) (c : ℕ) → suc c ≡ left
    → There d 0 1 c after (list_from n height labels part (Some label)) =
    λ label c e.
    list_there n c height labels (Some label) (omega (arith, e, few)) newest (λ x b r. a x b (omega (arith, r, e))) in
    record {
      comes = λ k s h r c.
          caught_comes d after k s.world.acts left height labels (part from k s) _ newest
          (first.comes k s h r (labelled_kept d labels s c)) r rest;
    }

-- ---- a block is entered and left

-- what is asked of a block's own statements, whose RETURN answers so, in an activation of its own
abbrev pub entering : Option Returning → Frame → Demand → Demand
entering inner f d =
    record {
      program = d.program;
      table = d.table;
      bearing = record { answers = inner; frames = f ∷ d.bearing.frames };
    }

-- a RETURN is the block's result or goes on
abbrev pub Passes : (own : Bool) → (after : Option BasicValue → Type 0) → (inner outer : Option Returning) → Type 0
Passes true after inner outer = (v : Option BasicValue) → Answers inner v → after v
Passes false after inner outer = (v : Option BasicValue) → Answers inner v → Answers outer v

-- a part at whose end something else is kept than at its begin
pub record Leads (d e : Demand) (left : ℕ) (after : Unit {0} → Type 0) (m : Meaning (Unit {0})) : Type 0 where
  pub comes : (k : ℕ) (s : State) → s.world.acts ≤ k → k ≤ s.world.acts + left → Kept d s
      → Comes e after 0 1 s.world.acts k (m k s)

pub leads_there : (d : Demand) {few : ℕ} (inner : Option Returning) (f e : Frame) (after : Unit {0} → Type 0)
    {m : Meaning (Unit {0})} → ((s : State) → Kept (entering inner f d) s → Kept (entering inner e d) s)
    → There (entering inner e d) 0 1 few after m → Leads (entering inner f d) (entering inner e d) few after m
leads_there d inner f e after widens a = record { comes = λ k s h r c. a.comes k s h r (widens s c) }

-- a jump goes to the lists of the activations further down where none is carried out in the newest one
jump_out : (f e : Frame) (fs : List Frame) (height : ℕ) (label : Label) → f.labels ≡ []
    → Jumps (f ∷ fs) height label → Jumps (e ∷ fs) height label × Jumps fs height label
jump_out f e fs height label n (inl h) =
    absurd (cc (ap (λ ls. is_among label ls) (sym n) ∙ h.1))
jump_out f e fs height label n (inr h) = (inr h, h)

pub leads_then : (d : Demand) {few : ℕ} (inner : Option Returning) (f e : Frame) (after : Unit {0} → Type 0)
    {m n : Meaning (Unit {0})} → ((s : State) → Kept (entering inner f d) s → Kept (entering inner e d) s)
    → f.labels ≡ [] → There (entering inner f d) 0 1 few Anything m
    → Leads (entering inner f d) (entering inner e d) few after n
    → Leads (entering inner f d) (entering inner e d) few after (m >> n)
unfolding ◌>>◌
leads_then d {few} inner f e after {m} {n} widens none a b =
    record { comes = λ k s h r c. of_flow k s.world.acts r (m k s) (a.comes k s h r c) }
  where
    of_flow : (k acts : ℕ) → k ≤ acts + few → (g : Flow (Unit {0}))
        → Comes (entering inner f d) Anything 0 1 acts k g
        → Comes (entering inner e d) after 0 1 acts k (flow_on k g (λ q. n))
    of_flow k acts r (Normal q s) h =
        from_later (entering inner e d) after 0 1 acts s.world.acts k (n k s) (omega (arith, h.0))
        (b.comes k s h.1.0 (omega (arith, h.0, r)) h.1.1.0)
    of_flow k acts r (Jump height label s) h = (
      h.0,
      (
        h.1.0,
        (widens s h.1.1.0, (jump_out f e d.bearing.frames height label none h.1.1.1).0),
      ),
    )
    of_flow k acts r (Return v s) h = (h.0, (h.1.0, (widens s h.1.1.0, h.1.1.1)))
    of_flow k acts r (Ended s) h = h
    of_flow k acts r (Paused s) h = h
    of_flow k acts r Stuck h = h

pub block_there : {d : Demand} {few : ℕ} (own : Bool) (after : Option BasicValue → Type 0)
    (inner : Option Returning) (f e : Frame) (result : Unit {0} → Type 0) (change : State → State)
    {m : Meaning (Unit {0})} → ((s : State) → Kept d s → Kept (entering inner f d) (change s)) → e.labels ≡ []
    → Leads (entering inner f d) (entering inner e d) few result m → ((r : Unit {0}) → result r → after None)
    → Passes own after inner d.bearing.answers
    → There d 0 1 few after (stored change >> leaving own newest_ended m)
unfolding leaving stored ◌>>◌
block_there {d} {few} own after inner f e result change {m} kept bare a none p =
    record {
      comes = λ k s h r c.
          closed own p s.world.acts k (m k (with_world s.world (change s)))
          (a.comes k (with_world s.world (change s)) h r (kept s c));
    }
  where
    closed : (own : Bool) → Passes own after inner d.bearing.answers → (acts k : ℕ) (g : Flow (Unit {0}))
        → Comes (entering inner e d) result 0 1 acts k g → Comes d after 0 1 acts k (left own newest_ended g)
    closed own p acts k (Normal r s) h =
        (h.0, (h.1.0, (ended_kept d e s h.1.1.0.0 h.1.1.0.1, none r h.1.1.1)))
    closed own p acts k (Jump height label s) h = (
      h.0,
      (
        h.1.0,
        (
          ended_kept d e s h.1.1.0.0 h.1.1.0.1,
          (jump_out e e d.bearing.frames height label bare h.1.1.1).1,
        ),
      ),
    )
    closed true p acts k (Return v s) h =
        (omega (arith, h.0), (h.1.0, (ended_kept d e s h.1.1.0.0 h.1.1.0.1, p v h.1.1.1)))
    closed false p acts k (Return v s) h = (h.0, (h.1.0, (ended_kept d e s h.1.1.0.0 h.1.1.0.1, p v h.1.1.1)))
    closed own p acts k (Ended s) h = h
    closed own p acts k (Paused s) h = h
    closed own p acts k Stuck h = h
