-- The steps of the storage machine, compared at two numbers of acts allowed: up to a pause they come to the same, and what
-- follows a pause shows all that was shown before it.
use Rattle.std.proofs.Common.{◌≡◌, ◌≢◌, ℕ, zero, suc, ◌+◌, ◌<◌, ◌≤◌, List, [], ◌∷◌, ◌++◌, Option, Some, None, Bool, true, false, refl, sym, ap, ◌∙◌, subst, arith, append_assoc, append-nil}
use Rattle.std.specs.Prelude.{◌==◌, ◌&&◌, nat_lt, cond}
use Rattle.std.proofs.lemmas.Bool.Decides.{nat_tests}
use Rattle.pli_language.specs.declared.condition.Condition.{Condition}
use Rattle.pli_meaning.specs.declared.outcome.End.{End}
use Rattle.pli_meaning.specs.declared.outcome.End.TheVariants.{Running}
use Rattle.pli_meaning.specs.Stream.{with_field, column_of, line_feed}
use Rattle.pli_meaning.specs.World.{World, counted, written, raising, ending}
use Rattle.pli_meaning.specs.Laws.{IsPrefix, Extends}
use Rattle.pli_meaning.specs.BasicValues.{BasicValue}
use Rattle.pli_meaning.specs.StorageState.{State, with_world}
use Rattle.pli_meaning.specs.Control.{Label, Flow, Normal, Jump, Return, Ended, Paused, Stuck, Meaning, give, stuck, flow_on, ◌>>=◌, ◌>>◌, looked, stored, act, finish, returns, jumps, choose, given, is_among, caught, list_from, repeated_while, left, leaving}

-- ---- worlds

prefix_refl : {X : Type 0} (xs : List X) → IsPrefix xs xs
prefix_refl xs = record { rest = []; joined = sym (append-nil xs) }

pub prefix_append : {X : Type 0} (xs ys : List X) → IsPrefix xs (xs ++ ys)
prefix_append xs ys = record { rest = ys; joined = refl }

prefix_trans : {X : Type 0} {xs ys zs : List X} → IsPrefix xs ys → IsPrefix ys zs → IsPrefix xs zs
prefix_trans {xs = xs} p q =
    record {
      rest = p.rest ++ q.rest;
      joined = q.joined ∙ ap (λ u. u ++ q.rest) p.joined ∙ append_assoc xs p.rest q.rest;
    }

pub extends_refl : (w : World) → Extends w w
extends_refl w = record { acts = omega arith; output = prefix_refl w.output; raised = prefix_refl w.raised }

extends_trans : {u v w : World} → Extends u v → Extends v w → Extends u w
extends_trans p q =
    record {
      acts = omega (arith, p.acts, q.acts);
      output = prefix_trans p.output q.output;
      raised = prefix_trans p.raised q.raised;
    }

-- a change of the world that an act may make: it shows more, and counts one
pub record Shows (change : World → World) : Type 0 where
  pub more : (w : World) → Extends w (change w)
  pub one : (w : World) → (change w).acts ≡ w.acts + 1
  pub going : (w : World) → (change w).end ≡ w.end

pub counted_shows : Shows counted
counted_shows =
    record {
      more = λ w. record { acts = omega arith; output = prefix_refl w.output; raised = prefix_refl w.raised };
      one = λ w. refl;
      going = λ w. refl;
    }

pub raising_shows : (c : Condition) (code : ℕ) → Shows (raising c code)
raising_shows c code =
    record {
      more = λ w. record { acts = omega arith; output = prefix_refl w.output; raised = prefix_append w.raised ((c, code) ∷ []) };
      one = λ w. refl;
      going = λ w. refl;
    }

-- an item that writes shows more
pub written_shows : (item : List ℕ → List ℕ) → ((output : List ℕ) → IsPrefix output (item output)) → Shows (written item)
written_shows item longer =
    record {
      more = λ w. record { acts = omega arith; output = longer w.output; raised = prefix_refl w.raised };
      one = λ w. refl;
      going = λ w. refl;
    }

pub field_shows : (field : List ℕ) → Shows (written (with_field field))
field_shows field = written_shows (with_field field) (λ output. prefix_append output field)

finished_by : (t : Bool) (output : List ℕ) → IsPrefix output (cond t output (output ++ line_feed ∷ []))
finished_by true output = prefix_refl output
finished_by false output = prefix_append output (line_feed ∷ [])

ending_extends : (end : End) (w : World) → Extends w (ending end w)
ending_extends end w =
    record {
      acts = omega arith;
      output = finished_by (column_of w.output == 1) w.output;
      raised = prefix_refl w.raised;
    }

-- ---- flows

-- what a flow shows is at least this
abbrev pub Later : {R : Type 0} → World → Flow R → Type 0
Later w (Normal r s) = Extends w s.world
Later w (Jump height label s) = Extends w s.world
Later w (Return v s) = Extends w s.world
Later w (Ended s) = Extends w s.world
Later w (Paused s) = Extends w s.world
Later w Stuck = Unit {0}

-- g is what comes in place of f where more acts are allowed
abbrev pub Follows : {R : Type 0} → Flow R → Flow R → Type 0
Follows (Paused s) g = Later s.world g
Follows Stuck g = Unit {0}
Follows (Normal r s) g = g ≡ Normal r s
Follows (Jump height label s) g = g ≡ Jump height label s
Follows (Return v s) g = g ≡ Return v s
Follows (Ended s) g = g ≡ Ended s

-- with k acts allowed a flow that began in w keeps to them, is running until it ends, and pauses where they are done
abbrev pub Kept : {R : Type 0} → World → ℕ → Flow R → Type 0
Kept w k (Normal r s) = (s.world.acts ≤ k) × (s.world.end ≡ w.end)
Kept w k (Jump height label s) = (s.world.acts ≤ k) × (s.world.end ≡ w.end)
Kept w k (Return v s) = (s.world.acts ≤ k) × (s.world.end ≡ w.end)
Kept w k (Ended s) = (s.world.acts ≤ k) × (s.world.end ≢ Running)
Kept w k (Paused s) = (s.world.acts ≡ k) × (s.world.end ≡ w.end)
Kept w k Stuck = Unit {0}

later_from : {R : Type 0} (u w : World) (f : Flow R) → Extends u w → Later w f → Later u f
later_from u w (Normal r s) e l = extends_trans e l
later_from u w (Jump height label s) e l = extends_trans e l
later_from u w (Return v s) e l = extends_trans e l
later_from u w (Ended s) e l = extends_trans e l
later_from u w (Paused s) e l = extends_trans e l
later_from u w Stuck e l = tt

kept_from : {R : Type 0} (k : ℕ) (u w : World) (f : Flow R) → w.end ≡ u.end → Kept w k f → Kept u k f
kept_from k u w (Normal r s) e h = (h.0, h.1 ∙ e)
kept_from k u w (Jump height label s) e h = (h.0, h.1 ∙ e)
kept_from k u w (Return v s) e h = (h.0, h.1 ∙ e)
kept_from k u w (Ended s) e h = h
kept_from k u w (Paused s) e h = (h.0, h.1 ∙ e)
kept_from k u w Stuck e h = tt

-- two parts agree: with more acts allowed the second follows the first, and it shows all that was shown before it; the
-- first keeps to the acts that are allowed
pub record Agree {R : Type 0} (m m' : Meaning R) : Type 0 where
  pub follows : (k l : ℕ) (s : State) → k ≤ l → Follows (m k s) (m' l s)
  pub later : (l : ℕ) (s : State) → Later s.world (m' l s)
  pub kept : (k : ℕ) (s : State) → s.world.acts ≤ k → Kept s.world k (m k s)

-- ---- the steps

pub give_agrees : {R : Type 0} (r : R) → Agree (give r) (give r)
unfolding give
give_agrees r =
    record { follows = λ k l s h. refl; later = λ l s. extends_refl s.world; kept = λ k s h. (h, refl) }

pub stuck_agrees : {R : Type 0} (m : Meaning R) → ((l : ℕ) (s : State) → Later s.world (m l s)) → Agree stuck m
unfolding stuck
stuck_agrees m later = record { follows = λ k l s h. tt; later = later; kept = λ k s h. tt }

later_on : {Q R : Type 0} (w : World) (l : ℕ) (f : Flow Q) (next : Q → Meaning R) → Later w f → ((q : Q) (s : State) → Later s.world (next q l s)) → Later w (flow_on l f next)
later_on w l (Normal q s) next h n = later_from w s.world (next q l s) h (n q s)
later_on w l (Jump height label s) next h n = h
later_on w l (Return v s) next h n = h
later_on w l (Ended s) next h n = h
later_on w l (Paused s) next h n = h
later_on w l Stuck next h n = tt

follows_on : {Q R : Type 0} (k l : ℕ) (f g : Flow Q) (next next' : Q → Meaning R) → k ≤ l → Follows f g → ((q : Q) → Agree (next q) (next' q)) → Follows (flow_on k f next) (flow_on l g next')
follows_on k l (Normal q s) g next next' h e n =
    let P : Flow _ → Type 0 = λ u. Follows (next q k s) (flow_on l u next') in
    subst P (sym e) ((n q).follows k l s h)
follows_on k l (Jump height label s) g next next' h e n = ap (λ u. flow_on l u next') e
follows_on k l (Return v s) g next next' h e n = ap (λ u. flow_on l u next') e
follows_on k l (Ended s) g next next' h e n = ap (λ u. flow_on l u next') e
follows_on k l (Paused s) g next next' h e n = later_on s.world l g next' e (λ q t. (n q).later l t)
follows_on k l Stuck g next next' h e n = tt

kept_on : {Q R : Type 0} (w : World) (k : ℕ) (f : Flow Q) (next : Q → Meaning R) → Kept w k f → ((q : Q) (s : State) → s.world.acts ≤ k → Kept s.world k (next q k s)) → Kept w k (flow_on k f next)
kept_on w k (Normal q s) next h n = kept_from k w s.world (next q k s) h.1 (n q s h.0)
kept_on w k (Jump height label s) next h n = h
kept_on w k (Return v s) next h n = h
kept_on w k (Ended s) next h n = h
kept_on w k (Paused s) next h n = h
kept_on w k Stuck next h n = tt

pub bind_agrees : {Q R : Type 0} {m m' : Meaning Q} {next next' : Q → Meaning R} → Agree m m' → ((q : Q) → Agree (next q) (next' q)) → Agree (m >>= next) (m' >>= next')
unfolding ◌>>=◌
bind_agrees {m = m} {m' = m'} {next = next} {next' = next'} a n =
    record {
      follows = λ k l s h. follows_on k l (m k s) (m' l s) next next' h (a.follows k l s h) n;
      later = λ l s. later_on s.world l (m' l s) next' (a.later l s) (λ q t. (n q).later l t);
      kept = λ k s h. kept_on s.world k (m k s) next (a.kept k s h) (λ q t i. (n q).kept k t i);
    }

pub then_agrees : {Q R : Type 0} {m m' : Meaning Q} {next next' : Meaning R} → Agree m m' → Agree next next' → Agree (m >> next) (m' >> next')
unfolding ◌>>◌
then_agrees {Q} {R} {m} {m'} {next} {next'} a n =
    record {
      follows = λ k l s h. follows_on k l (m k s) (m' l s) (λ q. next) (λ q. next') h (a.follows k l s h) (λ q. n);
      later = λ l s. later_on s.world l (m' l s) (λ q. next') (a.later l s) (λ q t. n.later l t);
      kept = λ k s h. kept_on s.world k (m k s) (λ q. next) (a.kept k s h) (λ q t i. n.kept k t i);
    }

pub looked_agrees : Agree looked looked
unfolding looked
looked_agrees =
    record { follows = λ k l s h. refl; later = λ l s. extends_refl s.world; kept = λ k s h. (h, refl) }

pub stored_agrees : (change : State → State) → Agree (stored change) (stored change)
unfolding stored
stored_agrees change =
    record { follows = λ k l s h. refl; later = λ l s. extends_refl s.world; kept = λ k s h. (h, refl) }

-- a flow, or a pause
abbrev or_pause : {R : Type 0} → Bool → Flow R → State → Flow R
or_pause t f s = cond t f (Paused s)

act_by : (t t' : Bool) (change : World → World) (s : State) → (t ≡ true → t' ≡ true) → Extends s.world (change s.world) → Follows {R = Unit {0}} (or_pause t (Normal tt (with_world (change s.world) s)) s) (or_pause t' (Normal tt (with_world (change s.world) s)) s)
act_by true true change s h e = refl
act_by true false change s h e = let bad = h refl in absurd (cc bad)
act_by false true change s h e = e
act_by false false change s h e = extends_refl s.world

act_later : {R : Type 0} (t : Bool) (f : Flow R) (s : State) → Later s.world f → Later s.world (cond t f (Paused s))
act_later true f s e = e
act_later false f s e = extends_refl s.world

act_kept : (t : Bool) (k : ℕ) (change : World → World) (s : State) → nat_lt s.world.acts k ≡ t → Shows change → s.world.acts ≤ k → Kept {R = Unit {0}} s.world k (or_pause t (Normal tt (with_world (change s.world) s)) s)
act_kept true k change s e shows h =
    let one = shows.one s.world in
    let below : s.world.acts < k = grind (arith, nat_tests) in
    (omega (arith, one, below), shows.going s.world)
act_kept false k change s e shows h =
    let past : k ≤ s.world.acts = grind (arith, nat_tests) in
    (omega (arith, past, h), refl)

lt_more : (a k l : ℕ) → k ≤ l → nat_lt a k ≡ true → nat_lt a l ≡ true
lt_more a k l h e = grind (arith, nat_tests)

pub act_agrees : {change : World → World} → Shows change → Agree (act change) (act change)
unfolding act
act_agrees {change} shows =
    record {
      follows = λ k l s h. act_by (nat_lt s.world.acts k) (nat_lt s.world.acts l) change s (lt_more s.world.acts k l h) (shows.more s.world);
      later = λ l s. act_later (nat_lt s.world.acts l) (Normal tt (with_world (change s.world) s)) s (shows.more s.world);
      kept = λ k s h. act_kept (nat_lt s.world.acts k) k change s refl shows h;
    }

finish_by : (R : Type 0) (t t' : Bool) (change : World → World) (s : State) → (t ≡ true → t' ≡ true) → Extends s.world (change s.world) → Follows {R = R} (or_pause t (Ended (with_world (change s.world) s)) s) (or_pause t' (Ended (with_world (change s.world) s)) s)
finish_by R true true change s h e = refl
finish_by R true false change s h e = let bad = h refl in absurd (cc bad)
finish_by R false true change s h e = e
finish_by R false false change s h e = extends_refl s.world

finish_kept : (R : Type 0) (t : Bool) (k : ℕ) (end : End) (s : State) → nat_lt s.world.acts k ≡ t → end ≢ Running → s.world.acts ≤ k → Kept {R = R} s.world k (or_pause t (Ended (with_world (ending end s.world) s)) s)
finish_kept R true k end s e ends h =
    let below : s.world.acts < k = grind (arith, nat_tests) in
    (omega (arith, below), ends)
finish_kept R false k end s e ends h =
    let past : k ≤ s.world.acts = grind (arith, nat_tests) in
    (omega (arith, past, h), refl)

pub finish_agrees : {R : Type 0} (end : End) → end ≢ Running → Agree {R = R} (finish end) (finish end)
unfolding finish
finish_agrees {R} end ends =
    record {
      follows = λ k l s h. finish_by R (nat_lt s.world.acts k) (nat_lt s.world.acts l) (ending end) s (lt_more s.world.acts k l h) (ending_extends end s.world);
      later = λ l s. act_later {R = R} (nat_lt s.world.acts l) (Ended (with_world (ending end s.world) s)) s (ending_extends end s.world);
      kept = λ k s h. finish_kept R (nat_lt s.world.acts k) k end s refl ends h;
    }

pub choose_agrees : {R : Type 0} (b : Bool) {m m' n n' : Meaning R} → Agree m m' → Agree n n' → Agree (choose b m n) (choose b m' n')
unfolding choose
choose_agrees true {m} {m'} {n} {n'} a c = record { follows = a.follows; later = a.later; kept = a.kept }
choose_agrees false {m} {m'} {n} {n'} a c = record { follows = c.follows; later = c.later; kept = c.kept }

later_left : (own : Bool) (close : State → State) (w : World) (f : Flow (Unit {0})) → Later w f → Later w (left own close f)
later_left own close w (Normal r s) h = h
later_left own close w (Jump height label s) h = h
later_left true close w (Return v s) h = h
later_left false close w (Return v s) h = h
later_left own close w (Ended s) h = h
later_left own close w (Paused s) h = h
later_left own close w Stuck h = h

follows_left : (own : Bool) (close : State → State) (f g : Flow (Unit {0})) → Follows f g → Follows (left own close f) (left own close g)
follows_left own close (Normal r s) g e = ap (left own close) e
follows_left own close (Jump height label s) g e = ap (left own close) e
follows_left true close (Return v s) g e = ap (left true close) e
follows_left false close (Return v s) g e = ap (left false close) e
follows_left own close (Ended s) g e = ap (left own close) e
follows_left own close (Paused s) g e = later_left own close s.world g e
follows_left own close Stuck g e = tt

kept_left : (own : Bool) (close : State → State) (w : World) (k : ℕ) (f : Flow (Unit {0})) → Kept w k f → Kept w k (left own close f)
kept_left own close w k (Normal r s) h = h
kept_left own close w k (Jump height label s) h = h
kept_left true close w k (Return v s) h = h
kept_left false close w k (Return v s) h = h
kept_left own close w k (Ended s) h = h
kept_left own close w k (Paused s) h = h
kept_left own close w k Stuck h = h

pub leaving_agrees : (own : Bool) (close : State → State) {m m' : Meaning (Unit {0})} → Agree m m' → Agree (leaving own close m) (leaving own close m')
unfolding leaving
leaving_agrees own close {m} {m'} a =
    record {
      follows = λ k l s h. follows_left own close (m k s) (m' l s) (a.follows k l s h);
      later = λ l s. later_left own close s.world (m' l s) (a.later l s);
      kept = λ k s h. kept_left own close s.world k (m k s) (a.kept k s h);
    }

-- ---- what else there is

pub returns_agrees : {R : Type 0} (v : Option BasicValue) → Agree {R = R} (returns v) (returns v)
unfolding returns
returns_agrees v =
    record { follows = λ k l s h. refl; later = λ l s. extends_refl s.world; kept = λ k s h. (h, refl) }

pub jumps_agrees : {R : Type 0} (height : ℕ) (label : Label) → Agree {R = R} (jumps height label) (jumps height label)
unfolding jumps
jumps_agrees height label =
    record { follows = λ k l s h. refl; later = λ l s. extends_refl s.world; kept = λ k s h. (h, refl) }

pub stuck_self : {R : Type 0} → Agree {R = R} stuck stuck
unfolding stuck
stuck_self = stuck_agrees stuck (λ l s. tt)

pub given_agrees : {X R : Type 0} (o : Option X) {next next' : X → Meaning R} {m m' : Meaning R} → ((x : X) → Agree (next x) (next' x)) → Agree m m' → Agree (given o next m) (given o next' m')
unfolding given
given_agrees None n a = a
given_agrees (Some x) n a = n x

-- ---- turns

-- a loop with more turns allowed follows one with fewer
pub while_agrees : (n n' : ℕ) {test test' : Meaning Bool} {part part' : Meaning (Unit {0})} → n ≤ n' → Agree test test' → Agree part part' → Agree test' test' → Agree part' part' → Agree (repeated_while n test part) (repeated_while n' test' part')
unfolding repeated_while
while_agrees zero zero h t p t' p' = stuck_self
while_agrees zero (suc n') {test} {test'} {part} {part'} h t p t' p' =
    stuck_agrees _ ((bind_agrees t' (λ met. choose_agrees met (then_agrees p' (while_agrees n' n' (omega arith) t' p' t' p')) (give_agrees tt))).later)
while_agrees (suc n) zero h t p t' p' = absurd (omega arith)
while_agrees (suc n) (suc n') h t p t' p' =
    bind_agrees t (λ met. choose_agrees met (then_agrees p (while_agrees n n' (omega arith) t p t' p')) (give_agrees tt))

-- ---- jumps

-- either of two flows
abbrev either : {R : Type 0} → Bool → Flow R → Flow R → Flow R
either t f g = cond t f g

later_either : {R : Type 0} (t : Bool) (w : World) (f g : Flow R) → Later w f → Later w g → Later w (either t f g)
later_either true w f g a b = a
later_either false w f g a b = b

follows_either : {R : Type 0} (t : Bool) (f f' g g' : Flow R) → Follows f f' → Follows g g' → Follows (either t f g) (either t f' g')
follows_either true f f' g g' a b = a
follows_either false f f' g g' a b = b

kept_either : {R : Type 0} (t : Bool) (w : World) (k : ℕ) (f g : Flow R) → Kept w k f → Kept w k g → Kept w k (either t f g)
kept_either true w k f g a b = a
kept_either false w k f g a b = b

later_caught : (w : World) (l height : ℕ) (labels : List Label) (f : Flow (Unit {0})) (next : Label → Meaning (Unit {0})) → Later w f → ((label : Label) (s : State) → Later s.world (next label l s)) → Later w (caught l height labels f next)
later_caught w l height labels (Normal q s) next h n = h
later_caught w l height labels (Jump at label s) next h n =
    later_either ((at == height) && is_among label labels) w (next label l s) (Jump at label s) (later_from w s.world (next label l s) h (n label s)) h
later_caught w l height labels (Return v s) next h n = h
later_caught w l height labels (Ended s) next h n = h
later_caught w l height labels (Paused s) next h n = h
later_caught w l height labels Stuck next h n = tt

follows_caught : (k l height : ℕ) (labels : List Label) (f g : Flow (Unit {0})) (next next' : Label → Meaning (Unit {0})) → k ≤ l → Follows f g → ((label : Label) → Agree (next label) (next' label)) → Follows (caught k height labels f next) (caught l height labels g next')
follows_caught k l height labels (Normal q s) g next next' h e n = ap (λ u. caught l height labels u next') e
follows_caught k l height labels (Jump at label s) g next next' h e n =
    let t = (at == height) && is_among label labels in
    let P : Flow _ → Type 0 = λ u. Follows (either t (next label k s) (Jump at label s)) (caught l height labels u next') in
    subst P (sym e) (follows_either t (next label k s) (next' label l s) (Jump at label s) (Jump at label s) ((n label).follows k l s h) refl)
follows_caught k l height labels (Return v s) g next next' h e n = ap (λ u. caught l height labels u next') e
follows_caught k l height labels (Ended s) g next next' h e n = ap (λ u. caught l height labels u next') e
follows_caught k l height labels (Paused s) g next next' h e n = later_caught s.world l height labels g next' e (λ label t. (n label).later l t)
follows_caught k l height labels Stuck g next next' h e n = tt

kept_caught : (w : World) (k height : ℕ) (labels : List Label) (f : Flow (Unit {0})) (next : Label → Meaning (Unit {0})) → Kept w k f → ((label : Label) (s : State) → s.world.acts ≤ k → Kept s.world k (next label k s)) → Kept w k (caught k height labels f next)
kept_caught w k height labels (Normal q s) next h n = h
kept_caught w k height labels (Jump at label s) next h n =
    kept_either ((at == height) && is_among label labels) w k (next label k s) (Jump at label s) (kept_from k w s.world (next label k s) h.1 (n label s h.0)) h
kept_caught w k height labels (Return v s) next h n = h
kept_caught w k height labels (Ended s) next h n = h
kept_caught w k height labels (Paused s) next h n = h
kept_caught w k height labels Stuck next h n = tt

-- a list with more turns allowed follows one with fewer
pub list_agrees : (n n' height : ℕ) (labels : List Label) {part part' : Option Label → Meaning (Unit {0})} (from : Option Label) → n ≤ n' → ((x : Option Label) → Agree (part x) (part' x)) → ((x : Option Label) → Agree (part' x) (part' x)) → Agree (list_from n height labels part from) (list_from n' height labels part' from)
unfolding list_from stuck
list_agrees zero zero height labels from h a a' = stuck_self
list_agrees zero (suc n') height labels {part} {part'} from h a a' =
    stuck_agrees (list_from (suc n') height labels part' from)
    (λ l s. later_caught s.world l height labels (part' from l s) (λ label. list_from n' height labels part' (Some label)) ((a' from).later l s) (λ label t. (list_agrees n' n' height labels (Some label) (omega arith) a' a').later l t))
list_agrees (suc n) zero height labels from h a a' = absurd (omega arith)
list_agrees (suc n) (suc n') height labels {part} {part'} from h a a' =
    record {
      follows = λ k l s i. follows_caught k l height labels (part from k s) (part' from l s) (λ label. list_from n height labels part (Some label)) (λ label. list_from n' height labels part' (Some label)) i ((a from).follows k l s i) (λ label. list_agrees n n' height labels (Some label) (omega arith) a a');
      later = λ l s. later_caught s.world l height labels (part' from l s) (λ label. list_from n' height labels part' (Some label)) ((a' from).later l s) (λ label t. (list_agrees n' n' height labels (Some label) (omega arith) a' a').later l t);
      kept = λ k s i. kept_caught s.world k height labels (part from k s) (λ label. list_from n height labels part (Some label)) ((a from).kept k s i) (λ label t j. (list_agrees n n' height labels (Some label) (omega arith) a a').kept k t j);
    }
