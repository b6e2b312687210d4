-- Numbers and bits that come from texts: lengths, places, conversions and comparisons.
use Rattle.std.proofs.Common.{◌≡◌, ℕ, ◌+◌, ◌^◌, ◌<◌, ◌≤◌, List, [], ◌∷◌, ◌++◌, length, refl, sym, ap, ◌∙◌, subst, arith, lit<}
use Rattle.std.specs.Prelude.{pos, max}
use Rattle.std.specs.Ordering.{int_cmp}
use Rattle.std.specs.declared.cmp.Ordering.{Ordering}
use Rattle.std.specs.declared.cmp.Ordering.TheVariants.{Less, Equal, Greater}
use Rattle.std.proofs.Math.Nat.{le-max_left, le-max_right}
use Rattle.rv_meaning.specs.declared.instr.Instr.{Instr}
use Rattle.rv_meaning.specs.Words.{word, flag, sum}
use Rattle.pli_typing.specs.TypedTree as Y
use Rattle.pli_meaning.specs.Codes.{conversion_code}
use Rattle.pli_meaning.specs.Texts.{number_in_text, bit_in_text, holds, text_order, index_of, verify_of}
use Rattle.pli_meaning.specs.StorageState.{State}
use Rattle.pli_meaning.specs.Control.{Meaning, give, ◌>>=◌}
use Rattle.pli_meaning.specs.Raising as R
use Rattle.pli_meaning.specs.Raising.{Around}
use Rattle.pli_serving.specs.ServiceState.{Services, TextEntry}
use Rattle.pli_serving.specs.Answers.{Done}
use Rattle.pli_serving.specs.Outcomes.{pushed}
use Rattle.pli_serving.specs.TextServices as X
use Rattle.pli_coding.specs.Registers.{a0, a2, u1}
use Rattle.pli_coding.specs.Assembly.{Code, size_of}
use Rattle.pli_coding.specs.Instructions.{small, move, service, tested_service}
use Rattle.pli_coding.specs.Environments.{Taken}
use Rattle.pli_coding.specs.Arithmetic.{compared_code}
use Rattle.pli_coding.specs.Linking.{Links}
use Rattle.temporary_bounds.specs.Spare.{spare}
use Rattle.run_steps.specs.Engine.{Base, address, call_at}
use Rattle.run_steps.proofs.Linking.{size_append}
use Rattle.run_steps.specs.Items.{Linked, At}
use Rattle.run_steps.proofs.Items.{straight}
use Rattle.run_steps.specs.Numbers.{IsWide}
use Rattle.run_steps.proofs.Numbers.{word_small}
use Rattle.run_steps.specs.Bodies.{Ground, Known}
use Rattle.run_steps.proofs.Bodies.{zero_is}
use Rattle.run_steps.proofs.Jumps.{front_of, back_of}
use Rattle.run_steps.specs.Temporaries.{nothing}
use Rattle.run_steps.proofs.Temporaries.{stays_then}
use Rattle.pli_headline.proofs.Serving.{Serving}
use Rattle.pli_headline.proofs.Raising.{Routines, small_is}
use Rattle.pli_headline.proofs.Acts.{word_is}
use Rattle.pli_headline.proofs.Operators.{paired}
use Rattle.pli_headline.proofs.Comparisons.{numbers_operate}
use Rattle.pli_headline.proofs.Evaluations.{Kind, number_kind, bit_kind, Resulting, Operates, Evaluates}
use Rattle.pli_headline.proofs.EditTexts.{at_other_texts}
use Rattle.pli_headline.proofs.TextCalls.{three, asking_piece, tested_call}
use Rattle.pli_headline.proofs.TextLengths.{IsShort, index_most, verify_most, small_wide}
use Rattle.pli_headline.proofs.TextNumbers.{number_wide, number_answer, bit_answer}
use Rattle.pli_headline.proofs.Texts.{EvaluatesText}
use Rattle.run_steps.specs.Reach.{Family, Aims, Comes, Closed}
use Rattle.run_steps.proofs.Reach.{before_closed, comes_on, onward}

-- ---- behind texts

-- code that takes texts from the stack, which others stood on, and leaves a value
pub record Finishes {X : Type 0} (kind : Kind X) (links : Links) (code : List Instr) (g : Ground) (v' v : Services) (s : State) (k : ℕ) (part : Code) (meaning : Meaning X) : Type 1 where
  pub does : {i : ℕ} {h t : ℕ → ℕ} {aims : Aims X} (closed : Closed code aims) (f : Family) (taken : Taken)
      → taken.words ≤ g.words + spare taken → Linked links code i part
      → ((b : Base) → At b i (Known g v' h t nothing b) (f b)) → Resulting kind code g h t v s (i + size_of part) aims
      → Comes code i f v' aims (meaning k s)

pub one_finishes : {X : Type 0} {kind : Kind X} {links : Links} {code : List Instr} {g : Ground} {v : Services} {s : State} {k n : ℕ} {part : Taken → Code} {last : Code} {meaning : Meaning (List ℕ)} {next' : List ℕ → Meaning X} → EvaluatesText links code g v s k n part meaning → ((text : List ℕ) → IsShort text → Finishes kind links code g (pushed (TextEntry text) v) v s k last (next' text)) → Evaluates kind links code g v s k n (λ taken. part taken ++ last) (meaning >>= next')
unfolding ◌>>=◌
one_finishes {v = v} {s = s} {k = k} {part = part} {last = last} {meaning = meaning} {next' = next'} x o =
    record {
      does = λ {i} {h} {t} {aims} closed f taken room l at goal.
          let a = part taken in
          let e1 = size_append a last in
          let place : i + size_of a + size_of last ≡ i + size_of (a ++ last) = omega (arith, e1) in
          comes_on k (meaning k s) next'
          (x.does (before_closed k next' closed) f taken room (front_of a last l) at
          (λ text f1 h1 t1 short stays1 at1.
          (o text short).does closed f1 taken (omega (arith, room)) (back_of a last l) at1
          (λ z f2 fits at2.
          subst (λ u. aims.done u f2 v z s) (sym place)
          (goal z f2 h1 t1 fits stays1 (λ b. record { pc = (at2 b).pc ∙ ap (address b) place; holds = (at2 b).holds })))));
    }

pub two_finish : {X : Type 0} {kind : Kind X} {links : Links} {code : List Instr} {g : Ground} {v : Services} {s : State} {k : ℕ} (m n : ℕ) {left right : Taken → Code} {last : Code} {first second : Meaning (List ℕ)} {next' : List ℕ → List ℕ → Meaning X} → EvaluatesText links code g v s k m left first → ((text : List ℕ) → EvaluatesText links code g (pushed (TextEntry text) v) s k n right second) → ((x y : List ℕ) → IsShort x → IsShort y → Finishes kind links code g (pushed (TextEntry y) (pushed (TextEntry x) v)) v s k last (next' x y)) → Evaluates kind links code g v s k (max m n) (λ taken. left taken ++ (right taken ++ last)) (first >>= (λ x. second >>= (λ y. next' x y)))
unfolding ◌>>=◌
two_finish {X = X} {v = v} {s = s} {k = k} m n {left = left} {right = right} {last = last} {first = first} {second = second} {next' = next'} x y o =
    record {
      does = λ {i} {h} {t} {aims} closed f taken room l at goal.
          let a = left taken in
          let c = right taken in
          let m1 = le-max_left m n in
          let m2 = le-max_right m n in
          let l1 = back_of a (c ++ last) l in
          let e1 = size_append a (c ++ last) in
          let e2 = size_append c last in
          let place : i + size_of a + size_of c + size_of last ≡ i + size_of (a ++ (c ++ last)) = omega (arith, e1, e2) in
          let rest : List ℕ → Meaning X = λ p. second >>= (λ q. next' p q) in
          comes_on k (first k s) rest
          (x.does (before_closed k rest closed) f taken (omega (arith, room, m1)) (front_of a (c ++ last) l) at
          (λ p f1 h1 t1 short1 stays1 at1.
          comes_on k (second k s) (λ q. next' p q)
          ((y p).does (before_closed k (λ q. next' p q) closed) f1 taken (omega (arith, room, m2)) (front_of c last l1) at1
          (λ q f2 h2 t2 short2 stays2 at2.
          (o p q short1 short2).does closed f2 taken (omega (arith, room)) (back_of c last l1) at2
          (λ z f3 fits at3.
          subst (λ u. aims.done u f3 v z s) (sym place)
          (goal z f3 h2 t2 fits (stays_then stays1 stays2) (λ b. record { pc = (at3 b).pc ∙ ap (address b) place; holds = (at3 b).holds })))))));
    }

-- ---- 27: the length of a text

pub length_finishes : {links : Links} {code : List Instr} {g : Ground} {v : Services} {s : State} {k : ℕ} (text : List ℕ) → IsShort text → Finishes number_kind links code g (pushed (TextEntry text) v) v s k (small a2 3 ∷ service 27) (give (pos (length text)))
unfolding give
length_finishes {code = code} {g = g} {v = v} {s = s} text short =
    record {
      does = λ {i} {h} {t} {aims} closed f taken room l at goal.
          let n = length text in
          let few : n < 2 ^ 31 = omega (arith, short) in
          let v' = pushed (TextEntry text) v in
          let x : Base → ℕ = λ b. (f b).machine.registers 10 in
          let y : Base → ℕ = λ b. (f b).machine.registers 11 in
          let front = small a2 3 ∷ [] in
          let place : i + 1 + 2 ≡ i + 3 = omega arith in
          let r = straight i f v' v' (λ b. Known g v' h t (three x y (λ b'. 3)) b) (front_of front (service 27) l) (omega arith) (λ b. (at b).pc)
          (λ b. let o = (at b).holds in record {
            body = record { services = o.body.services; registers = o.body.registers; bytes = o.body.bytes; memory = o.body.memory };
            regs = (refl, (refl, (small_is _ 3 (zero_is o.body) (lit< tt), tt)));
          }) in
          onward closed r (λ f1 at1.
          asking_piece closed f1 v 27 x y (λ b. 3) (λ b. n) y (λ c x0 x1 x2 x3 x4. X.store_served c x0 x1 x2) (lit< tt) (λ c u. refl) (omega arith)
          (λ b m x3 x4. refl) (back_of front (service 27) l) at1
          (λ f2 at2.
          record {
            to = λ early.
                subst (λ u. aims.done u f2 v (pos n) s) (sym place)
                (goal (pos n) f2 (small_wide n few) (λ b. record { pc = (at2 b).pc ∙ ap (address b) place; holds = record { body = (at2 b).holds.body; regs = ((at2 b).holds.regs.0 ∙ sym (word_is n few), tt) } }));
          }));
    }

-- ---- 25: a place in a text

found_finishes : {links : Links} {code : List Instr} {g : Ground} {v : Services} {s : State} {k : ℕ} (mode n : ℕ) (left right : List ℕ) → mode < 2 ^ 16 → n < 2 ^ 31 → ((m : List ℕ) (y : ℕ) → X.find_served (call_at code (pushed (TextEntry right) (pushed (TextEntry left) v)) m) mode y ≡ Done v m n y) → Finishes number_kind links code g (pushed (TextEntry right) (pushed (TextEntry left) v)) v s k (small a0 mode ∷ service 25) (give (pos n))
unfolding give
found_finishes {code = code} {g = g} {v = v} {s = s} mode n left right low few answers =
    record {
      does = λ {i} {h} {t} {aims} closed f taken room l at goal.
          let v' = pushed (TextEntry right) (pushed (TextEntry left) v) in
          let y : Base → ℕ = λ b. (f b).machine.registers 11 in
          let z : Base → ℕ = λ b. (f b).machine.registers 12 in
          let front = small a0 mode ∷ [] in
          let place : i + 1 + 2 ≡ i + 3 = omega arith in
          let r = straight i f v' v' (λ b. Known g v' h t (three (λ b'. mode) y z) b) (front_of front (service 25) l) (omega arith) (λ b. (at b).pc)
          (λ b. let o = (at b).holds in record {
            body = record { services = o.body.services; registers = o.body.registers; bytes = o.body.bytes; memory = o.body.memory };
            regs = (small_is _ mode (zero_is o.body) (omega (arith, low)), (refl, (refl, tt)));
          }) in
          onward closed r (λ f1 at1.
          asking_piece closed f1 v 25 (λ b. mode) y z (λ b. n) y (λ c x0 x1 x2 x3 x4. X.find_served c x0 x1) (lit< tt) (λ c u. refl) (omega arith)
          (λ b m x3 x4. answers m (y b)) (back_of front (service 25) l) at1
          (λ f2 at2.
          record {
            to = λ early.
                subst (λ u. aims.done u f2 v (pos n) s) (sym place)
                (goal (pos n) f2 (small_wide n few) (λ b. record { pc = (at2 b).pc ∙ ap (address b) place; holds = record { body = (at2 b).holds.body; regs = ((at2 b).holds.regs.0 ∙ sym (word_is n few), tt) } }));
          }));
    }

pub index_finishes : {links : Links} {code : List Instr} {g : Ground} {v : Services} {s : State} {k : ℕ} (left right : List ℕ) → IsShort left → Finishes number_kind links code g (pushed (TextEntry right) (pushed (TextEntry left) v)) v s k (small a0 0 ∷ service 25) (give (pos (index_of left right)))
index_finishes left right short =
    let most = index_most left right in
    found_finishes 0 (index_of left right) left right (lit< tt) (omega (arith, most, short)) (λ m y. refl)

pub verify_finishes : {links : Links} {code : List Instr} {g : Ground} {v : Services} {s : State} {k : ℕ} (left right : List ℕ) → IsShort left → Finishes number_kind links code g (pushed (TextEntry right) (pushed (TextEntry left) v)) v s k (small a0 1 ∷ service 25) (give (pos (verify_of left right)))
verify_finishes left right short =
    let most = verify_most left right in
    found_finishes 1 (verify_of left right) left right (lit< tt) (omega (arith, most, short)) (λ m y. refl)

-- ---- 26: a text as a number or a bit

pub number_finishes : {links : Links} {code : List Instr} {g : Ground} {v : Services} {s : State} {k : ℕ} (routines : Routines links code) (around : Around) → Serving k s v around.line → (text : List ℕ) → Finishes number_kind links code g (pushed (TextEntry text) v) v s k (small a0 0 ∷ tested_service 26) (R.or_error around conversion_code (number_in_text text))
number_finishes {code = code} {g = g} {v = v} {s = s} {k = k} routines around serving text =
    record {
      does = λ {i} {h} {t} {aims} closed f taken room l at goal.
          let v' = pushed (TextEntry text) v in
          let y : Base → ℕ = λ b. (f b).machine.registers 11 in
          let z : Base → ℕ = λ b. (f b).machine.registers 12 in
          let front = small a0 0 ∷ [] in
          let call = tested_service 26 in
          let place : i + 1 + 5 ≡ i + 6 = omega arith in
          let r = straight i f v' v' (λ b. Known g v' h t (three (λ b'. 0) y z) b) (front_of front call l) (omega arith) (λ b. (at b).pc)
          (λ b. let o = (at b).holds in record {
            body = record { services = o.body.services; registers = o.body.registers; bytes = o.body.bytes; memory = o.body.memory };
            regs = (small_is _ 0 (zero_is o.body) (lit< tt), (refl, (refl, tt)));
          }) in
          onward closed r (λ f1 at1.
          tested_call (number_in_text text) closed routines f1 around 26 conversion_code k (λ b. 0) y z (λ n. v) (λ n b. word n) (λ c x0 x1 x2 x3 x4. X.to_number_served c x0) (lit< tt) (lit< tt) refl (λ c u. refl) (λ n. omega arith)
          (λ b m x3 x4. number_answer code v' m text v.entries refl) (back_of front call l) (at_other_texts (TextEntry text ∷ v.entries) serving) at1
          (λ n f2 found at2.
          subst (λ u. aims.done u f2 v n s) (sym place)
          (goal n f2 (number_wide text n found) (λ b. record { pc = (at2 b).pc ∙ ap (address b) place; holds = (at2 b).holds }))));
    }

pub bit_finishes : {links : Links} {code : List Instr} {g : Ground} {v : Services} {s : State} {k : ℕ} (routines : Routines links code) (around : Around) → Serving k s v around.line → (text : List ℕ) → Finishes bit_kind links code g (pushed (TextEntry text) v) v s k (small a0 1 ∷ tested_service 26) (R.or_error around conversion_code (bit_in_text text))
bit_finishes {code = code} {g = g} {v = v} {s = s} {k = k} routines around serving text =
    record {
      does = λ {i} {h} {t} {aims} closed f taken room l at goal.
          let v' = pushed (TextEntry text) v in
          let y : Base → ℕ = λ b. (f b).machine.registers 11 in
          let z : Base → ℕ = λ b. (f b).machine.registers 12 in
          let front = small a0 1 ∷ [] in
          let call = tested_service 26 in
          let place : i + 1 + 5 ≡ i + 6 = omega arith in
          let r = straight i f v' v' (λ b. Known g v' h t (three (λ b'. 1) y z) b) (front_of front call l) (omega arith) (λ b. (at b).pc)
          (λ b. let o = (at b).holds in record {
            body = record { services = o.body.services; registers = o.body.registers; bytes = o.body.bytes; memory = o.body.memory };
            regs = (small_is _ 1 (zero_is o.body) (lit< tt), (refl, (refl, tt)));
          }) in
          onward closed r (λ f1 at1.
          tested_call (bit_in_text text) closed routines f1 around 26 conversion_code k (λ b. 1) y z (λ n. v) (λ n b. flag n) (λ c x0 x1 x2 x3 x4. X.to_number_served c x0) (lit< tt) (lit< tt) refl (λ c u. refl) (λ n. omega arith)
          (λ b m x3 x4. bit_answer code v' m text v.entries refl) (back_of front call l) (at_other_texts (TextEntry text ∷ v.entries) serving) at1
          (λ n f2 found at2.
          subst (λ u. aims.done u f2 v n s) (sym place)
          (goal n f2 tt (λ b. record { pc = (at2 b).pc ∙ ap (address b) place; holds = (at2 b).holds }))));
    }

-- ---- 24: two texts are compared

order_wide : (o : Ordering) → IsWide (X.order_number o)
order_wide Less = refl
order_wide Equal = refl
order_wide Greater = refl

order_is : (o : Ordering) → int_cmp (X.order_number o) (pos 0) ≡ o
order_is Less = refl
order_is Equal = refl
order_is Greater = refl

order_operates : {links : Links} {code : List Instr} {g : Ground} {v : Services} {s : State} {k : ℕ} (c : Y.Comparison) (o : Ordering) → Operates bit_kind links code g v s k 0 (paired (word (X.order_number o)) 0) (λ taken. compared_code c) (give (holds c o))
order_operates {links} {code} {g} {v} {s} {k} c o =
    let z = X.order_number o in
    subst (λ u. Operates bit_kind links code g v s k 0 (paired (word z) 0) (λ taken. compared_code c) (give (holds c u))) (order_is o)
    (numbers_operate c z (pos 0) (order_wide o) refl)

same_sum : (x n : ℕ) → x ≡ n → n < 2 ^ 32 → sum x (word (pos 0)) ≡ n
same_sum x n e h = omega (arith, e, h)

pub compare_finishes : {links : Links} {code : List Instr} {g : Ground} {v : Services} {s : State} {k : ℕ} (c : Y.Comparison) (left right : List ℕ) → Finishes bit_kind links code g (pushed (TextEntry right) (pushed (TextEntry left) v)) v s k (service 24 ++ (move u1 a0 ∷ small a0 0 ∷ compared_code c)) (give (holds c (text_order left right)))
compare_finishes {code = code} {g = g} {v = v} {s = s} c left right =
    record {
      does = λ {i} {h} {t} {aims} closed f taken room l at goal.
          let o = text_order left right in
          let z = X.order_number o in
          let x0 : Base → ℕ = λ b. (f b).machine.registers 10 in
          let y0 : Base → ℕ = λ b. (f b).machine.registers 11 in
          let z0 : Base → ℕ = λ b. (f b).machine.registers 12 in
          let moves = move u1 a0 ∷ small a0 0 ∷ [] in
          let rest = moves ++ compared_code c in
          let l1 = back_of (service 24) rest l in
          let e1 = size_append (service 24) rest in
          let e2 = size_append moves (compared_code c) in
          let place : i + 2 + 2 + size_of (compared_code c) ≡ i + size_of (service 24 ++ rest) = omega (arith, e1, e2) in
          asking_piece closed f v 24 x0 y0 z0 (λ b. word z) y0 (λ q x1 x2 x3 x4 x5. X.compare_served q x2) (lit< tt) (λ q u. refl) (omega arith)
          (λ b m x3 x4. refl) (front_of (service 24) rest l)
          (λ b. record { pc = (at b).pc; holds = record { body = (at b).holds.body; regs = (refl, (refl, (refl, tt))) } })
          (λ f1 at1.
          let r = straight (i + 2) f1 v v (λ b. Known g v h t (paired (word z) 0) b) (front_of moves (compared_code c) l1) (omega arith) (λ b. (at1 b).pc)
          (λ b. let q = (at1 b).holds in record {
            body = record { services = q.body.services; registers = q.body.registers; bytes = q.body.bytes; memory = q.body.memory };
            regs = (same_sum _ (word z) q.regs.0 (word_small z (order_wide o)), (small_is _ 0 (zero_is q.body) (lit< tt), tt));
          }) in
          onward closed r (λ f2 at2.
          (order_operates c o).does closed f2 taken (omega (arith, room)) (back_of moves (compared_code c) l1) at2
          (λ met f3 fits at3.
          subst (λ u. aims.done u f3 v met s) (sym place)
          (goal met f3 fits (λ b. record { pc = (at3 b).pc ∙ ap (address b) place; holds = (at3 b).holds })))));
    }
