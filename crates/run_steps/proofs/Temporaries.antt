-- Temporaries: values that wait in registers while some are left, else in words below the frame.
use Rattle.std.proofs.Common.{◌≡◌, ℕ, zero, suc, ◌+◌, ◌-◌, ◌*◌, ◌^◌, ◌<◌, List, [], ◌∷◌, Bool, true, false, refl, sym}
use Rattle.std.proofs.Common.{ap, ◌∙◌, subst, arith}
use Rattle.std.specs.Prelude.{pos, cond, ◌==◌}
use Rattle.std.proofs.lemmas.Bool.{eq-eqb, ltb-true}
use Rattle.std.proofs.lemmas.Bool.Decides.{nat_tests}
use Rattle.rv_meaning.specs.declared.instr.Instr.{Instr}
use Rattle.rv_meaning.specs.declared.instr.Register.{Register}
use Rattle.rv_meaning.specs.Words.{word, sum}
use Rattle.rv_meaning.specs.Machine.{written}
use Rattle.pli_serving.specs.ServiceState.{Services}
use Rattle.pli_coding.specs.Registers.{held, frame_register}
use Rattle.pli_coding.specs.Assembly.{size_of}
use Rattle.pli_coding.specs.Instructions.{move, load_word, store_word}
use Rattle.pli_coding.specs.Frames.{words_place}
use Rattle.pli_coding.specs.Environments.{Taken, is_register_left, with_number, save, fetch}
use Rattle.pli_coding.specs.Linking.{Links}
use Rattle.image_runs.specs.Runs.{Whole}
use Rattle.run_steps.specs.Engine.{Base}
use Rattle.run_steps.specs.Items.{Linked, At}
use Rattle.run_steps.proofs.Items.{straight}
use Rattle.run_steps.proofs.Numbers.{below_sum, below_small}
use Rattle.run_steps.specs.Bodies.{Ground, Known, Free, PlaceOf, with', nth, reserved, reserved_are}
use Rattle.run_steps.proofs.Bodies.{set_known, load_piece, store_piece}
use Rattle.run_steps.specs.Reach.{Family, Reach}
use Rattle.run_steps.proofs.Reach.{reach_map}
use Rattle.run_steps.specs.Temporaries.{put, Temporaries, waiting, held_with, words_with, Stays, nothing}

pub stays_same : (k : Taken) (h t : ℕ → ℕ) → Stays k h t h t
stays_same k h t = record { registers = λ i e. refl; words = λ j e. refl }

pub stays_then : {k : Taken} {h t h' t' h'' t'' : ℕ → ℕ} → Stays k h t h' t' → Stays k h' t' h'' t'' →
    Stays k h t h'' t''
stays_then a c =
    record { registers = λ i e. c.registers i e ∙ a.registers i e; words = λ j e. c.words j e ∙ a.words j e }

pub put_other : (xs : ℕ → ℕ) (k x i : ℕ) → i < k → put xs k x i ≡ xs i
put_other xs k x i h =
    let e : (i == k) ≡ false = grind (arith, nat_tests) in
    ap (λ u. cond u x (xs i)) e

pub put_same : (xs : ℕ → ℕ) (k x : ℕ) → put xs k x k ≡ x
put_same xs k x = ap (λ u. cond u x (xs k)) (eq-eqb k k refl)

stays_by : (q : Bool) (k : Taken) (h t : ℕ → ℕ) (x : ℕ) →
    Stays k h t (cond q (put h k.registers x) h) (cond q t (put t k.words x))
stays_by true k h t x = record { registers = λ i e. put_other h k.registers x i e; words = λ j e. refl }
stays_by false k h t x = record { registers = λ i e. refl; words = λ j e. put_other t k.words x j e }

pub stays_saved : (k : Taken) (h t : ℕ → ℕ) (x : ℕ) → Stays k h t (held_with k x h) (words_with k x t)
stays_saved k h t x = stays_by (is_register_left k) k h t x

waiting_by : (q : Bool) (k : Taken) (h t : ℕ → ℕ) (x : ℕ) →
    cond q (cond q (put h k.registers x) h k.registers) (cond q t (put t k.words x) k.words) ≡ x
waiting_by true k h t x = put_same h k.registers x
waiting_by false k h t x = put_same t k.words x

pub waiting_saved : (k : Taken) (h t : ℕ → ℕ) (x : ℕ) → waiting k (held_with k x h) (words_with k x t) ≡ x
waiting_saved k h t x = waiting_by (is_register_left k) k h t x

with_by : (q : Bool) (k : Taken) (h t h' t' : ℕ → ℕ) →
    Stays (cond q (record k { registers = k.registers + 1 }) (record k { words = k.words + 1 })) h t h' t' →
    Stays k h t h' t'
with_by true k h t h' t' a = record { registers = λ i e. a.registers i (omega (arith, e)); words = a.words }
with_by false k h t h' t' a = record { registers = a.registers; words = λ j e. a.words j (omega (arith, e)) }

pub stays_less : {k : Taken} {h t h' t' : ℕ → ℕ} → Stays (with_number k) h t h' t' → Stays k h t h' t'
stays_less {k} {h} {t} {h'} {t'} a = with_by (is_register_left k) k h t h' t' a

kept_by : (q : Bool) (k : Taken) (h t h' t' : ℕ → ℕ) →
    Stays (cond q (record k { registers = k.registers + 1 }) (record k { words = k.words + 1 })) h t h' t' →
    cond q (h' k.registers) (t' k.words) ≡ cond q (h k.registers) (t k.words)
kept_by true k h t h' t' a = a.registers k.registers (omega arith)
kept_by false k h t h' t' a = a.words k.words (omega arith)

pub waiting_kept : (k : Taken) {h t h' t' : ℕ → ℕ} → Stays (with_number k) h t h' t' → waiting k h' t' ≡ waiting k h t
waiting_kept k {h} {t} {h'} {t'} a = kept_by (is_register_left k) k h t h' t' a

-- ---- registers

abbrev replaced : ℕ → ℕ → List ℕ → List ℕ
replaced n v [] = []
replaced zero v (x ∷ xs) = v ∷ xs
replaced (suc n) v (x ∷ xs) = x ∷ replaced n v xs

-- a register that holds temporaries gets a value
pub held_put : (n : ℕ) (g : Ground) (b : Base) (h x : ℕ → ℕ) (v : ℕ) → n < 7 → reserved x ≡ reserved_are b g h →
    reserved (written x (held n).index v) ≡ reserved_are b g (put h n v)
held_put (zero) g b h x v l e = ap (replaced 3 v) e
held_put (suc zero) g b h x v l e = ap (replaced 4 v) e
held_put (suc (suc zero)) g b h x v l e = ap (replaced 5 v) e
held_put (suc (suc (suc zero))) g b h x v l e = ap (replaced 6 v) e
held_put (suc (suc (suc (suc zero)))) g b h x v l e = ap (replaced 7 v) e
held_put (suc (suc (suc (suc (suc zero))))) g b h x v l e = ap (replaced 8 v) e
held_put (suc (suc (suc (suc (suc (suc zero)))))) g b h x v l e = ap (replaced 9 v) e
held_put (suc (suc (suc (suc (suc (suc (suc n))))))) g b h x v l e = absurd (omega (arith, l))

pub held_is : (n : ℕ) (g : Ground) (b : Base) (h x : ℕ → ℕ) → n < 7 → reserved x ≡ reserved_are b g h →
    x (held n).index ≡ h n
held_is (zero) g b h x l e = ap (nth 3) e
held_is (suc zero) g b h x l e = ap (nth 4) e
held_is (suc (suc zero)) g b h x l e = ap (nth 5) e
held_is (suc (suc (suc zero))) g b h x l e = ap (nth 6) e
held_is (suc (suc (suc (suc zero)))) g b h x l e = ap (nth 7) e
held_is (suc (suc (suc (suc (suc zero))))) g b h x l e = ap (nth 8) e
held_is (suc (suc (suc (suc (suc (suc zero)))))) g b h x l e = ap (nth 9) e
held_is (suc (suc (suc (suc (suc (suc (suc n))))))) g b h x l e = absurd (omega (arith, l))

sum_zero : (y x : ℕ) → y ≡ x → x < 2 ^ 32 → sum y (word (pos 0)) ≡ x
sum_zero y x e h = omega (arith, e, h)

pub word_place : (g : Ground) (j : ℕ) → j < g.words → PlaceOf g (words_place j 1) (g.frame - 4 * suc j)
word_place g j h =
    let above = g.above_code in
    let inside = g.inside in
    let whole = g.whole in
    record {
      small' = below_small (4 * (j + 1)) (omega (arith, above, inside, h));
      sums = λ b. below_sum b.at g.frame (4 * (j + 1)) b.valid.1 (omega (arith, inside))
          (omega (arith, above, h)) ∙ ap (λ n. b.at + (g.frame - n)) (omega arith);
      aligned = omega (arith, whole, above, h);
      inside = omega (arith, inside);
      above_code = omega (arith, above, h);
    }

save_by : (q : Bool) {links : Links} {code : List Instr} {i : ℕ} {g : Ground} {v : Services} {h t : ℕ → ℕ}
    {rs : Base → List (ℕ × ℕ)} (temps : Temporaries g) (c : ℕ) (f : Family) (r : Register) (k : Taken) (x : ℕ) →
    q ≡ is_register_left k → (q ≡ false → k.words < g.words) → x < 2 ^ 32 →
    ((y : ℕ → ℕ) (u : ℕ) → written y 31 u r.index ≡ y r.index) →
    ((b : Base) (w : Whole) → Known g v h t rs b w → w.machine.registers r.index ≡ x) → Free rs 31 →
    Linked links code i (cond q (move (held k.registers) r ∷ [])
    (store_word frame_register r (words_place k.words 1))) → ((b : Base) → At b i (Known g v h t rs b) (f b)) →
    Reach code c f v (c + size_of
    (cond q (move (held k.registers) r ∷ []) (store_word frame_register r (words_place k.words 1)))) v
    (λ b w. At b (i + size_of
    (cond q (move (held k.registers) r ∷ []) (store_word frame_register r (words_place k.words 1))))
    (Known g v (cond q (put h k.registers x) h) (cond q t (put t k.words x)) nothing b) w)
save_by true {g = g} {v = v} {h = h} {t = t} temps c f r k x left room fits near value free l at =
    let below : k.registers < 7 = ltb-true k.registers 7 (sym left) in
    straight c f v v (λ b. Known g v (put h k.registers x) t nothing b) l (omega arith) (λ b. (at b).pc)
    (λ b.
    let o = (at b).holds.body in
    let e = sum_zero ((f b).machine.registers r.index) x (value b (f b) (at b).holds) fits in
    record {
      body = record {
        services = o.services;
        registers = ap (λ u. reserved (written (f b).machine.registers (held k.registers).index u)) e ∙ held_put
            k.registers g b h (f b).machine.registers x below o.registers;
        bytes = o.bytes;
        memory = o.memory;
      };
      regs = tt;
    })
save_by false {g = g} {v = v} {h = h} {t = t} {rs = rs} temps c f r k x left room fits near value free l at =
    let j = k.words in
    let s = store_piece g (put t j x) c f r (words_place j 1) (g.frame - 4 * suc j) (λ b. x)
    (word_place g j (room refl)) near value (λ b. refl)
    (λ b m len o. temps.kept t b m j x (room refl) len fits o) free l at in
    reach_map (λ b w. At b _ (Known g v h (put t j x) nothing b) w) s
    (λ b w o. record { pc = o.pc; holds = record { body = o.holds.body; regs = tt } })

-- a register's value waits
pub save_piece : {links : Links} {code : List Instr} {i : ℕ} {g : Ground} {v : Services} {h t : ℕ → ℕ}
    {rs : Base → List (ℕ × ℕ)} (temps : Temporaries g) (c : ℕ) (f : Family) (r : Register) (k : Taken) (x : ℕ) →
    (is_register_left k ≡ false → k.words < g.words) → x < 2 ^ 32 →
    ((y : ℕ → ℕ) (u : ℕ) → written y 31 u r.index ≡ y r.index) →
    ((b : Base) (w : Whole) → Known g v h t rs b w → w.machine.registers r.index ≡ x) → Free rs 31 →
    Linked links code i (save r k) → ((b : Base) → At b i (Known g v h t rs b) (f b)) →
    Reach code c f v (c + size_of (save r k)) v
    (λ b w. At b (i + size_of (save r k)) (Known g v (held_with k x h) (words_with k x t) nothing b) w)
save_piece temps c f r k x = save_by (is_register_left k) temps c f r k x refl

fetch_by : (q : Bool) {links : Links} {code : List Instr} {i : ℕ} {g : Ground} {v : Services} {h t : ℕ → ℕ}
    {rs : Base → List (ℕ × ℕ)} (temps : Temporaries g) (c : ℕ) (f : Family) (r : Register) (k : Taken) (x : ℕ) →
    q ≡ is_register_left k → (q ≡ false → k.words < g.words) → x < 2 ^ 32 → cond q (h k.registers) (t k.words) ≡ x →
    Free rs r.index → Free rs 31 →
    Linked links code i (cond q (move r (held k.registers) ∷ []) (load_word r frame_register (words_place k.words 1)))
    → ((b : Base) → At b i (Known g v h t rs b) (f b)) →
    Reach code c f v (c + size_of
    (cond q (move r (held k.registers) ∷ []) (load_word r frame_register (words_place k.words 1)))) v
    (λ b w. At b (i + size_of
    (cond q (move r (held k.registers) ∷ []) (load_word r frame_register (words_place k.words 1))))
    (Known g v h t (with' r.index (λ b'. x) rs) b) w)
fetch_by true {g = g} {v = v} {h = h} {t = t} {rs = rs} temps c f r k x left room fits value free far l at =
    let below : k.registers < 7 = ltb-true k.registers 7 (sym left) in
    straight c f v v (λ b. Known g v h t (with' r.index (λ b'. x) rs) b) l (omega arith) (λ b. (at b).pc)
    (λ b.
    let o = (at b).holds in
    set_known (f b) r.index _ _ (λ b'. x) free
    (sum_zero ((f b).machine.registers (held k.registers).index) x
    (held_is k.registers g b h (f b).machine.registers below o.body.registers ∙ value) fits) o)
fetch_by false {g = g} {t = t} temps c f r k x left room fits value free far l at =
    let j = k.words in
    load_piece c f r (words_place j 1) (g.frame - 4 * suc j) (λ b. x) (word_place g j (room refl))
    (λ b m o. temps.found t b m j (room refl) (subst (λ u. u < 2 ^ 32) (sym value) fits) o ∙ value) free far l at

-- what waits comes into a register
pub fetch_piece : {links : Links} {code : List Instr} {i : ℕ} {g : Ground} {v : Services} {h t : ℕ → ℕ}
    {rs : Base → List (ℕ × ℕ)} (temps : Temporaries g) (c : ℕ) (f : Family) (r : Register) (k : Taken) (x : ℕ) →
    (is_register_left k ≡ false → k.words < g.words) → x < 2 ^ 32 → waiting k h t ≡ x → Free rs r.index → Free rs 31 →
    Linked links code i (fetch r k) → ((b : Base) → At b i (Known g v h t rs b) (f b)) →
    Reach code c f v (c + size_of (fetch r k)) v
    (λ b w. At b (i + size_of (fetch r k)) (Known g v h t (with' r.index (λ b'. x) rs) b) w)
fetch_piece temps c f r k x = fetch_by (is_register_left k) temps c f r k x refl
