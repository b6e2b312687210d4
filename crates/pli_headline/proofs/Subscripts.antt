-- Subscripts are evaluated one after the other, and each waits until it comes into a register; those that are simple,
-- with all behind them, are loaded only then.
use Rattle.std.proofs.Common.{◌≡◌, ℕ, suc, ◌+◌, ◌<◌, ◌≤◌, List, [], ◌∷◌, ◌++◌, length, Bool, true, false, refl, sym}
use Rattle.std.proofs.Common.{ap, ◌∙◌, subst, arith}
use Rattle.std.specs.Prelude.{ℤ, max, cond, ◌&&◌}
use Rattle.std.proofs.Math.Nat.{le-max_left, le-max_right}
use Rattle.rv_meaning.specs.declared.instr.Instr.{Instr}
use Rattle.rv_meaning.specs.Words.{word}
use Rattle.pli_typing.specs.TypedTree as Y
use Rattle.pli_meaning.specs.StorageState.{State}
use Rattle.pli_meaning.specs.Control.{Meaning, give, flow_on, ◌>>=◌}
use Rattle.pli_meaning.specs.Raising.{Around}
use Rattle.pli_meaning.specs.Evaluating as V
use Rattle.pli_serving.specs.ServiceState.{Services}
use Rattle.pli_coding.specs.Registers.{a0, u1}
use Rattle.pli_coding.specs.Assembly.{Code, size_of}
use Rattle.pli_coding.specs.Environments.{Environment, Taken, is_register_left, with_number, save, fetch}
use Rattle.pli_coding.specs.Locating.{is_simple, are_simple, simple_loaded, subscript_given}
use Rattle.pli_coding.specs.Expressions.{given_in, number_code, subscripts_code}
use Rattle.pli_coding.specs.Linking.{Links}
use Rattle.temporary_bounds.specs.Spare.{spare}
use Rattle.temporary_bounds.proofs.Takes.{none_spare, number_counts}
use Rattle.run_steps.specs.Engine.{Base, address}
use Rattle.run_steps.proofs.Linking.{size_append}
use Rattle.run_steps.specs.Items.{Linked, At}
use Rattle.run_steps.specs.Numbers.{IsWide}
use Rattle.run_steps.proofs.Numbers.{word_small}
use Rattle.run_steps.specs.Bodies.{Ground, Known, Free, with'}
use Rattle.run_steps.proofs.Jumps.{front_of, back_of}
use Rattle.run_steps.specs.Temporaries.{Temporaries, Stays}
use Rattle.run_steps.proofs.Temporaries.{stays_same, stays_then, stays_saved, stays_less}
use Rattle.run_steps.specs.Temporaries.{held_with, words_with, nothing}
use Rattle.run_steps.proofs.Temporaries.{waiting_saved, waiting_kept, save_piece}
use Rattle.run_steps.proofs.Temporaries.{fetch_piece}
use Rattle.pli_headline.proofs.Evaluations.{number_kind, Evaluates}
use Rattle.pli_headline.proofs.ArrayPlaces.{AllWide, lower_first, upper_second}
use Rattle.run_steps.specs.Reach.{Family, Reach, Aims, Comes, Closed}
use Rattle.run_steps.proofs.Reach.{before_closed, comes_on, onward}

-- ---- how a subscript comes into its register

-- code that brings a number into u1, while all else stays
pub record Gives (links : Links) (code : List Instr) (g : Ground) (v : Services) (h t : ℕ → ℕ) (part : Code) (z : ℤ) :
    Type 1 where
  pub comes : {i : ℕ} {rs : Base → List (ℕ × ℕ)} (c : ℕ) (f : Family) → Free rs 6 → Free rs 31
      → Linked links code i part → ((b : Base) → At b i (Known g v h t rs b) (f b))
      → Reach code c f v (c + size_of part) v
      (λ b w. At b (i + size_of part) (Known g v h t (with' 6 (λ b'. word z) rs) b) w)

-- each of these numbers
abbrev pub AllGive : Links → List Instr → Ground → Services → Environment → Taken → (h t : ℕ → ℕ) → Y.Numbers → List ℤ
    → Type 1
AllGive links code g v e k h t Y.NoNumber zs = Unit {1}
AllGive links code g v e k h t (Y.NumberThen first rest) [] = Unit {1}
AllGive links code g v e k h t (Y.NumberThen first rest) (z ∷ zs) =
    Gives links code g v h t (subscript_given e k first rest) z × AllGive links code g v e (with_number k) h t rest zs

-- a simple number means what its code brings
pub record Simple (links : Links) (code : List Instr) (g : Ground) (v : Services) (s : State) (k : ℕ) (part :
    Code) (meaning : Meaning ℤ) : Type 1 where
  pub value : ℤ
  pub wide : IsWide value
  pub meant : meaning k s ≡ give value k s
  pub gives : (h t : ℕ → ℕ) → Gives links code g v h t part value

pub record AllSimple (links : Links) (code : List Instr) (g : Ground) (v : Services) (s : State) (k : ℕ) (e :
    Environment) (around : Around) (xs : Y.Numbers) : Type 1 where
  pub values : List ℤ
  pub wide : AllWide values
  pub many : length values ≡ given_in xs
  pub meant : V.numbers around xs k s ≡ give values k s
  pub gives : (taken : Taken) (h t : ℕ → ℕ) → AllGive links code g v e taken h t xs values

-- ---- subscripts

-- they are evaluated, and then come into a register one after the other
pub record EvaluatesAll (links : Links) (code : List Instr) (g : Ground) (v : Services) (s : State) (k : ℕ) (words :
    ℕ) (e : Environment) (around : Around) (xs : Y.Numbers) : Type 1 where
  pub does : {i : ℕ} {h t : ℕ → ℕ} {aims : Aims (List ℤ)} (closed : Closed code aims) (f : Family) (taken : Taken)
      → taken.words + words ≤ g.words + spare taken → Linked links code i (subscripts_code e taken xs)
      → ((b : Base) → At b i (Known g v h t nothing b) (f b))
      → ((zs : List ℤ) (f' : Family) (h' t' : ℕ → ℕ) → AllWide zs → length zs ≡ given_in xs → Stays taken h t h' t'
      → AllGive links code g v e taken h' t' xs zs
      → ((b : Base) → At b (i + size_of (subscripts_code e taken xs)) (Known g v h' t' nothing b) (f' b))
      → aims.done (i + size_of (subscripts_code e taken xs)) f' v zs s)
      → Comes code i f v aims (V.numbers around xs k s)
  pub simple : are_simple e xs ≡ true → AllSimple links code g v s k e around xs

pub none_evaluate : {links : Links} {code : List Instr} {g : Ground} {v : Services} {s : State} {k : ℕ} {e :
    Environment} {around : Around} → EvaluatesAll links code g v s k 0 e around Y.NoNumber
unfolding V.numbers give
none_evaluate {v = v} {s = s} =
    record {
      does = λ {i} {h} {t} {aims} closed f taken room l at goal.
          let e : i ≡ i + 0 = omega arith in
          record {
            to = λ early. subst (λ u. aims.done u f v [] s) (sym e) (goal [] f h t tt refl
                (stays_same taken h t) tt (λ b. record { pc = (at b).pc ∙ ap (address b) e; holds = (at b).holds }));
          };
      simple = λ q. record { values = []; wide = tt; many = refl; meant = refl; gives = λ taken h t. tt };
    }

-- one before the others
abbrev both_code : Bool → Environment → Taken → Y.Number → Y.Numbers → Code
both_code q e taken first rest =
    cond q [] (number_code e taken first ++ (save a0 taken ++ subscripts_code e (with_number taken) rest))

abbrev first_given : Bool → Environment → Taken → Y.Number → Code
first_given q e taken first = cond q (simple_loaded e u1 first) (fetch u1 taken)

simple_meant : {links : Links} {code : List Instr} {g : Ground} {v : Services} {s : State} {k : ℕ} {e :
    Environment} {around : Around} (first : Y.Number) (rest : Y.Numbers) (one :
    Simple links code g v s k (simple_loaded e u1 first) (V.number around first)) (others :
    AllSimple links code g v s k e around rest) → V.numbers around (Y.NumberThen first rest) k s
    ≡ give (one.value ∷ others.values) k s
unfolding V.numbers ◌>>=◌ give
simple_meant {k = k} {around = around} first rest one others =
    ap (λ q. flow_on k q (λ z. (V.numbers around rest) >>= (λ zs. give (z ∷ zs)))) one.meant
    ∙ ap (λ q. flow_on k q (λ zs. give (one.value ∷ zs))) others.meant

next_does : (q : Bool) {links : Links} {code : List Instr} {g : Ground} {v : Services} {s : State} {k : ℕ} {e :
    Environment} {around : Around} (temps : Temporaries g) (m n : ℕ) (first : Y.Number) (rest : Y.Numbers)
    → (q ≡ true → Simple links code g v s k (simple_loaded e u1 first) (V.number around first))
    → (q ≡ true → AllSimple links code g v s k e around rest)
    → Evaluates number_kind links code g v s k m (λ taken. number_code e taken first) (V.number around first)
    → EvaluatesAll links code g v s k n e around rest → {i : ℕ} {h t : ℕ → ℕ} {aims : Aims (List ℤ)} (closed :
    Closed code aims) (f : Family) (taken : Taken) → taken.words + max m (suc n) ≤ g.words + spare taken
    → Linked links code i (both_code q e taken first rest) → ((b : Base) → At b i (Known g v h t nothing b) (f b))
    → ((z : ℤ) (zs : List ℤ) (f' : Family) (h' t' : ℕ → ℕ) → IsWide z → AllWide zs → length zs ≡ given_in rest
    → Stays taken h t h' t' → Gives links code g v h' t' (first_given q e taken first) z
    → AllGive links code g v e (with_number taken) h' t' rest zs
    → ((b : Base) → At b (i + size_of (both_code q e taken first rest)) (Known g v h' t' nothing b) (f' b))
    → aims.done (i + size_of (both_code q e taken first rest)) f' v (z ∷ zs) s)
    → Comes code i f v aims (V.numbers around (Y.NumberThen first rest) k s)
unfolding V.numbers ◌>>=◌ give
next_does true {code = code} {v = v} {s = s} temps m n first rest ones others e es {i} {h} {t} {aims} closed f taken
    room l at goal =
    let one = ones refl in
    let more = others refl in
    let same : i ≡ i + 0 = omega arith in
    subst (Comes code i f v aims) (sym (simple_meant first rest one more))
    (record {
      to = λ early.
          subst (λ u. aims.done u f v (one.value ∷ more.values) s) (sym same)
          (goal one.value more.values f h t one.wide more.wide more.many (stays_same taken h t) (one.gives h t)
          (more.gives (with_number taken) h t)
          (λ b. record { pc = (at b).pc ∙ ap (address b) same; holds = (at b).holds }));
    })
next_does false {g = g} {v = v} {s = s} {k = k} {e = e'} {around = around} temps m n first rest ones others e es {i}
    {h} {t} {aims} closed f taken room l at goal =
    let a = number_code e' taken first in
    let put' = save a0 taken in
    let c = subscripts_code e' (with_number taken) rest in
    let m1 = le-max_left m (suc n) in
    let m2 = le-max_right m (suc n) in
    let more = number_counts taken in
    let l2 = back_of a (put' ++ c) l in
    let e1 = size_append a (put' ++ c) in
    let e2 = size_append put' c in
    let place : i + size_of a + size_of put' + size_of c ≡ i + size_of (a ++ (put' ++ c)) = omega (arith, e1, e2) in
    let some : is_register_left taken ≡ false → taken.words < g.words = λ none. let z = none_spare taken none in omega
    (arith, z, room, m2) in
    let behind : ℤ → Meaning (List ℤ) = λ z. (V.numbers around rest) >>= (λ zs. give (z ∷ zs)) in
    comes_on k (V.number around first k s) behind
    (e.does (before_closed k behind closed) f taken (omega (arith, room, m1)) (front_of a (put' ++ c) l) at
    (λ z f1 h1 t1 wz stays1 at1.
    let h2 = held_with taken (word z) h1 in
    let t2 = words_with taken (word z) t1 in
    onward closed (save_piece temps (i + size_of a) f1 a0 taken (word z) some (word_small z wz) (λ y u. refl)
    (λ b w q. q.regs.0) (record { reserved_stay = λ y u. refl; known_stay = λ b y u q. q; set = λ y u. refl })
    (front_of put' c l2) at1)
    (λ f2 at2.
    comes_on k (V.numbers around rest k s) (λ zs. give (z ∷ zs))
    (es.does (before_closed k (λ zs. give (z ∷ zs)) closed) f2 (with_number taken) (omega (arith, room, m2, more))
    (back_of put' c l2) at2
    (λ zs f3 h3 t3 wide same stays3 gives at3.
    let waits = waiting_kept taken stays3 ∙ waiting_saved taken h1 t1 (word z) in
    record {
      to = λ early.
          subst (λ u. aims.done u f3 v (z ∷ zs) s) (sym place)
          (goal z zs f3 h3 t3 wz wide same
          (stays_then stays1 (stays_then (stays_saved taken h1 t1 (word z)) (stays_less stays3)))
          (record {
            comes = λ d p free far l' at'. fetch_piece temps d p u1 taken (word z) some (word_small z wz)
                waits free far l' at';
          })
          gives
          (λ b. record { pc = (at3 b).pc ∙ ap (address b) place; holds = (at3 b).holds }));
    })))))

pub next_evaluate : {links : Links} {code : List Instr} {g : Ground} {v : Services} {s : State} {k : ℕ} {e :
    Environment} {around : Around} (temps : Temporaries g) (m n : ℕ) (first : Y.Number) (rest : Y.Numbers)
    → (is_simple e first ≡ true → Simple links code g v s k (simple_loaded e u1 first) (V.number around first))
    → Evaluates number_kind links code g v s k m (λ taken. number_code e taken first) (V.number around first)
    → EvaluatesAll links code g v s k n e around rest
    → EvaluatesAll links code g v s k (max m (suc n)) e around (Y.NumberThen first rest)
next_evaluate {links} {code} {g} {v} {s} {k} {e} {around} temps m n first rest ones one others =
    record {
      does = λ {i} {h} {t} {aims} closed f taken room l at goal.
          let p = is_simple e first in
          let q = are_simple e rest in
          next_does (p && q) temps m n first rest (λ is. ones (lower_first p q is))
          (λ is. others.simple (upper_second p q is)) one others closed f taken room l at
          (λ z zs f1 h1 t1 wz wide many stays given all at1. goal (z ∷ zs) f1 h1 t1 (wz, wide) (ap suc many) stays
          (given, all) at1);
      simple = λ is.
          let p = is_simple e first in
          let q = are_simple e rest in
          let x = ones (lower_first p q is) in
          let xs = others.simple (upper_second p q is) in
          record {
            values = x.value ∷ xs.values;
            wide = (x.wide, xs.wide);
            many = ap suc xs.many;
            meant = simple_meant first rest x xs;
            gives = λ taken h t. (
              subst (λ u. Gives links code g v h t (first_given u e taken first) x.value) (sym is)
                  (x.gives h t),
              xs.gives (with_number taken) h t,
            );
          };
    }
