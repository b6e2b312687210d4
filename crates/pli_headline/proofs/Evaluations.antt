-- What the code of an expression does: a word in a0 for the value that the expression means, or the run ends with it. Forms are
-- put together from those of their operands.
use Rattle.std.proofs.Common.{◌≡◌, ℕ, suc, ◌+◌, ◌^◌, ◌<◌, ◌≤◌, List, ◌++◌, Bool, true, false, refl, sym, ap, ◌∙◌, subst, arith}
use Rattle.std.specs.Prelude.{ℤ, cond, max}
use Rattle.std.proofs.Math.Nat.{le-max_left, le-max_right}
use Rattle.rv_meaning.specs.declared.instr.Instr.{Instr}
use Rattle.rv_meaning.specs.Words.{word, flag}
use Rattle.pli_meaning.specs.StorageState.{State}
use Rattle.pli_meaning.specs.Control.{Meaning, give, ◌>>=◌}
use Rattle.pli_serving.specs.ServiceState.{Services}
use Rattle.pli_coding.specs.Registers.{a0, u1}
use Rattle.pli_coding.specs.Assembly.{Code, size_of}
use Rattle.pli_coding.specs.Environments.{Taken, is_register_left, with_number, save, fetch}
use Rattle.pli_coding.specs.Linking.{Links}
use Rattle.temporary_bounds.specs.Spare.{spare}
use Rattle.temporary_bounds.proofs.Takes.{none_spare, number_counts}
use Rattle.image_runs.specs.Runs.{Whole}
use Rattle.run_steps.specs.Engine.{Base, address}
use Rattle.run_steps.proofs.Linking.{size_append}
use Rattle.run_steps.specs.Items.{Linked, At, Items}
use Rattle.run_steps.proofs.Items.{straight}
use Rattle.run_steps.specs.Numbers.{IsWide}
use Rattle.run_steps.proofs.Numbers.{word_small}
use Rattle.run_steps.specs.Bodies.{Ground, Known}
use Rattle.run_steps.proofs.Jumps.{front_of, back_of}
use Rattle.run_steps.specs.Temporaries.{Temporaries, Stays, held_with, words_with, nothing}
use Rattle.run_steps.proofs.Temporaries.{stays_then, stays_saved, stays_less, waiting_saved, waiting_kept}
use Rattle.run_steps.proofs.Temporaries.{save_piece, fetch_piece}
use Rattle.pli_headline.proofs.Operators.{valued, paired}
use Rattle.run_steps.specs.Reach.{Family, Aims, Comes, Closed}
use Rattle.run_steps.proofs.Reach.{before_closed, comes_on, onward}

-- ---- kinds of values

-- values as words, and which of them expressions come to
pub record Kind (X : Type 0) : Type 1 where
  pub word_of : X → ℕ
  pub Fits : X → Type 0
  pub small' : (x : X) → Fits x → word_of x < 2 ^ 32

pub flag_small : (b : Bool) → flag b < 2 ^ 32
flag_small true = omega arith
flag_small false = omega arith

abbrev pub number_kind : Kind ℤ
number_kind = record { word_of = word; Fits = IsWide; small' = word_small }

abbrev pub bit_kind : Kind Bool
bit_kind = record { word_of = flag; Fits = λ b. Unit {0}; small' = λ b fits. flag_small b }

-- ---- what code does

-- an operation leaves its result, while everything that waits stays
abbrev pub Resulting : {X : Type 0} → Kind X → List Instr → Ground → (h t : ℕ → ℕ) → Services → State → ℕ → Aims X → Type 0
Resulting {X} kind code g h t v s i aims =
    (z : X) (f' : Family) → kind.Fits z → ((b : Base) → At b i (Known g v h t (valued (kind.word_of z)) b) (f' b)) → aims.done i f' v z s

-- an operation on what some registers hold, with so many words that it may take
pub record Operates {X : Type 0} (kind : Kind X) (links : Links) (code : List Instr) (g : Ground) (v : Services) (s : State) (k : ℕ) (words : ℕ) (rs : Base → List (ℕ × ℕ)) (part : Taken → Code) (meaning : Meaning X) : Type 1 where
  pub does : {i : ℕ} {h t : ℕ → ℕ} {aims : Aims X} (closed : Closed code aims) (f : Family) (taken : Taken)
      → taken.words + words ≤ g.words + spare taken → Linked links code i (part taken)
      → ((b : Base) → At b i (Known g v h t rs b) (f b))
      → Resulting kind code g h t v s (i + size_of (part taken)) aims → Comes code i f v aims (meaning k s)

-- an expression leaves its value, while everything that waited before it stays
abbrev pub Valued : {X : Type 0} → Kind X → Ground → Taken → (h t : ℕ → ℕ) → Services → State → ℕ → Aims X → Type 0
Valued {X} kind g k h t v s i aims =
    (z : X) (f' : Family) (h' t' : ℕ → ℕ) → kind.Fits z → Stays k h t h' t' → ((b : Base) → At b i (Known g v h' t' (valued (kind.word_of z)) b) (f' b)) → aims.done i f' v z s

pub record Evaluates {X : Type 0} (kind : Kind X) (links : Links) (code : List Instr) (g : Ground) (v : Services) (s : State) (k : ℕ) (words : ℕ) (part : Taken → Code) (meaning : Meaning X) : Type 1 where
  pub does : {i : ℕ} {h t : ℕ → ℕ} {aims : Aims X} (closed : Closed code aims) (f : Family) (taken : Taken)
      → taken.words + words ≤ g.words + spare taken → Linked links code i (part taken)
      → ((b : Base) → At b i (Known g v h t nothing b) (f b))
      → Valued kind g taken h t v s (i + size_of (part taken)) aims → Comes code i f v aims (meaning k s)

-- straight code leaves a value that needs no temporary
pub straight_operates : {X : Type 0} {kind : Kind X} {links : Links} {code : List Instr} {g : Ground} {v : Services} {s : State} {k words : ℕ} {rs : Base → List (ℕ × ℕ)} {part : Code} (z : X) → kind.Fits z → ((h t : ℕ → ℕ) (b : Base) (i : ℕ) (w : Whole) → Known g v h t rs b w → Items links code b i part w (Known g v h t (valued (kind.word_of z)) b)) → Operates kind links code g v s k words rs (λ taken. part) (give z)
unfolding give
straight_operates {kind = kind} {g = g} {v = v} z fits items =
    record {
      does = λ {i} {h} {t} {aims} closed f taken room l at goal.
          onward closed (straight i f v v (λ b. Known g v h t (valued (kind.word_of z)) b) l (omega arith) (λ b. (at b).pc) (λ b. items h t b i (f b) (at b).holds))
          (λ f' at'. record { to = λ early. goal z f' fits at' });
    }

-- ---- one operand

-- a value is read otherwise, by the same word
pub read_evaluates : {X Z : Type 0} {kx : Kind X} {kz : Kind Z} {links : Links} {code : List Instr} {g : Ground} {v : Services} {s : State} {k words : ℕ} {part : Taken → Code} {meaning : Meaning X} (read : X → Z) → ((x : X) → kx.Fits x → kz.Fits (read x)) → ((x : X) → kx.word_of x ≡ kz.word_of (read x)) → Evaluates kx links code g v s k words part meaning → Evaluates kz links code g v s k words part (meaning >>= (λ x. give (read x)))
unfolding ◌>>=◌ give
read_evaluates {v = v} {s = s} {k = k} {meaning = meaning} read fit same e =
    record {
      does = λ {i} {h} {t} {aims} closed f taken room l at goal.
          comes_on k (meaning k s) (λ x. give (read x))
          (e.does (before_closed k (λ x. give (read x)) closed) f taken room l at
          (λ x f' h' t' fits stays at'. record {
            to = λ early. goal (read x) f' h' t' (fit x fits) stays
                (λ b. record {
                  pc = (at' b).pc;
                  holds = record
                      { body = (at' b).holds.body; regs = ((at' b).holds.regs.0 ∙ same x, tt) };
                });
          }));
    }

-- an operation behind its operand
pub operated_evaluates : {X Z : Type 0} {kx : Kind X} {kz : Kind Z} {links : Links} {code : List Instr} {g : Ground} {v : Services} {s : State} {k : ℕ} {m n : ℕ} (words : ℕ) {part last : Taken → Code} {meaning : Meaning X} {next' : X → Meaning Z} → m ≤ words → n ≤ words → Evaluates kx links code g v s k m part meaning → ((x : X) → kx.Fits x → Operates kz links code g v s k n (valued (kx.word_of x)) last (next' x)) → Evaluates kz links code g v s k words (λ taken. part taken ++ last taken) (meaning >>= next')
unfolding ◌>>=◌
operated_evaluates {v = v} {s = s} {k = k} words {part = part} {last = last} {meaning = meaning} {next' = next'} p q e o =
    record {
      does = λ {i} {h} {t} {aims} closed f taken room l at goal.
          let first = part taken in
          let second = last taken in
          let size = size_append first second in
          let n : i + size_of first + size_of second ≡ i + size_of (first ++ second) = omega (arith, size) in
          comes_on k (meaning k s) next'
          (e.does (before_closed k next' closed) f taken (omega (arith, room, p)) (front_of first second l) at
          (λ x f1 h1 t1 fits stays at1.
          (o x fits).does closed f1 taken (omega (arith, room, q)) (back_of first second l) at1
          (λ z f2 fits' at2.
          subst (λ u. aims.done u f2 v z s) (sym n)
          (goal z f2 h1 t1 fits' stays (λ b. record { pc = (at2 b).pc ∙ ap (address b) n; holds = (at2 b).holds })))));
    }

-- ---- two operands

-- the left operand waits in a temporary, and stands in u1 beside the right one
abbrev pub both_parts : (left right last : Taken → Code) → Taken → Code
both_parts left right last taken =
    left taken ++ (save a0 taken ++ (right (with_number taken) ++ (fetch u1 taken ++ last taken)))

pub both_evaluate : {X Y Z : Type 0} {kx : Kind X} {ky : Kind Y} {kz : Kind Z} {links : Links} {code : List Instr} {g : Ground} {v : Services} {s : State} {k : ℕ} (temps : Temporaries g) (m n : ℕ) {left right last : Taken → Code} {first : Meaning X} {second : Meaning Y} {next' : X → Y → Meaning Z} → Evaluates kx links code g v s k m left first → Evaluates ky links code g v s k n right second → ((x : X) (y : Y) → kx.Fits x → ky.Fits y → Operates kz links code g v s k 1 (paired (kx.word_of x) (ky.word_of y)) last (next' x y)) → Evaluates kz links code g v s k (max m (suc n)) (both_parts left right last) (first >>= (λ x. second >>= (λ y. next' x y)))
unfolding ◌>>=◌
both_evaluate {X = X} {Z = Z} {kx = kx} {g = g} {v = v} {s = s} {k = k} temps m n {left = left} {right = right} {last = last} {first = first} {second = second} {next' = next'} el er o =
    record {
      does = λ {i} {h} {t} {aims} closed f taken room l at goal.
          let a = left taken in
          let c = right (with_number taken) in
          let put' = save a0 taken in
          let back = fetch u1 taken in
          let d = last taken in
          let m1 = le-max_left m (suc n) in
          let m2 = le-max_right m (suc n) in
          let more = number_counts taken in
          let l2 = back_of a (put' ++ (c ++ (back ++ d))) l in
          let l3 = back_of put' (c ++ (back ++ d)) l2 in
          let l4 = back_of c (back ++ d) l3 in
          let l5 = back_of back d l4 in
          let e1 = size_append a (put' ++ (c ++ (back ++ d))) in
          let e2 = size_append put' (c ++ (back ++ d)) in
          let e3 = size_append c (back ++ d) in
          let e4 = size_append back d in
          let place : i + size_of a + size_of put' + size_of c + size_of back + size_of d ≡ i + size_of (a ++ (put' ++ (c ++ (back ++ d)))) = omega (arith, e1, e2, e3, e4) in
          let one : is_register_left taken ≡ false
          → taken.words < g.words = λ none. let z = none_spare taken none in omega (arith, z, room, m2) in
          let rest : X → Meaning Z = λ x. second >>= (λ y. next' x y) in
          comes_on k (first k s) rest
          (el.does (before_closed k rest closed) f taken (omega (arith, room, m1)) (front_of a (put' ++ (c ++ (back ++ d))) l) at
          (λ x f1 h1 t1 wx stays1 at1.
          let h2 = held_with taken (kx.word_of x) h1 in
          let t2 = words_with taken (kx.word_of x) t1 in
          onward closed (save_piece temps (i + size_of a) f1 a0 taken (kx.word_of x) one (kx.small' x wx) (λ y u. refl) (λ b w q. q.regs.0) (record { reserved_stay = λ y u. refl; known_stay = λ b y u q. q; set = λ y u. refl }) (front_of put' (c ++ (back ++ d)) l2) at1)
          (λ f2 at2.
          comes_on k (second k s) (λ y. next' x y)
          (er.does (before_closed k (λ y. next' x y) closed) f2 (with_number taken) (omega (arith, room, m2, more)) (front_of c (back ++ d) l3) at2
          (λ y f3 h3 t3 wy stays3 at3.
          onward closed (fetch_piece temps (i + size_of a + size_of put' + size_of c) f3 u1 taken (kx.word_of x) one (kx.small' x wx) (waiting_kept taken stays3 ∙ waiting_saved taken h1 t1 (kx.word_of x)) (record { reserved_stay = λ z u. refl; known_stay = λ b z u q. q; set = λ z u. refl }) (record { reserved_stay = λ z u. refl; known_stay = λ b z u q. q; set = λ z u. refl }) (front_of back d l4) at3)
          (λ f4 at4.
          (o x y wx wy).does closed f4 taken (omega (arith, room, m2)) l5 at4
          (λ z f5 wz at5.
          subst (λ u. aims.done u f5 v z s) (sym place)
          (goal z f5 h3 t3 wz (stays_then stays1 (stays_then (stays_saved taken h1 t1 (kx.word_of x)) (stays_less stays3))) (λ b. record { pc = (at5 b).pc ∙ ap (address b) place; holds = (at5 b).holds })))))))));
    }
