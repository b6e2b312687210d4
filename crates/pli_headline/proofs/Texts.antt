-- What the code of a text does: it leaves the text on the stack of texts, while everything that waits stays. Forms are put
-- together from those of their operands.
use Rattle.std.proofs.Common.{◌≡◌, ℕ, suc, ◌+◌, ◌^◌, ◌<◌, ◌≤◌, inl, List, [], ◌∷◌, ◌++◌, Option, Bool, false, refl, sym, ap, ◌∙◌, subst, arith, lit<, length}
use Rattle.std.specs.Prelude.{ℤ, pos, max}
use Rattle.std.proofs.Math.Nat.{le-max_left, le-max_right}
use Rattle.rv_meaning.specs.declared.instr.Instr.{Instr}
use Rattle.rv_meaning.specs.Words.{word, signed, sum}
use Rattle.pli_meaning.specs.Codes.{substring_code, too_long_code}
use Rattle.pli_meaning.specs.Texts.{number_text, bit_text, bit_number, joined, substring_from, substring}
use Rattle.pli_meaning.specs.StorageState.{State}
use Rattle.pli_meaning.specs.Control.{Meaning, give, ◌>>=◌}
use Rattle.pli_meaning.specs.Raising as R
use Rattle.pli_meaning.specs.Raising.{Around}
use Rattle.pli_serving.specs.ServiceState.{Services, TextEntry}
use Rattle.pli_serving.specs.Answers.{Answer, Done}
use Rattle.pli_serving.specs.Outcomes.{pushed, or_status}
use Rattle.pli_serving.specs.TextServices as X
use Rattle.pli_coding.specs.Registers.{a0, a1, a2}
use Rattle.pli_coding.specs.Assembly.{ConstantBytes, Code, size_of}
use Rattle.pli_coding.specs.Instructions.{small, move, tested_service}
use Rattle.pli_coding.specs.Environments.{Taken, save, fetch, with_number, is_register_left}
use Rattle.pli_coding.specs.Expressions.{constant_pushed}
use Rattle.pli_coding.specs.Streams as C
use Rattle.pli_coding.specs.Linking.{Links}
use Rattle.temporary_bounds.specs.Spare.{spare}
use Rattle.temporary_bounds.proofs.Takes.{none_spare, number_counts}
use Rattle.pli_headline.specs.ProvedSoFar.{IsPrecision}
use Rattle.run_steps.specs.Engine.{Base, address, call_at}
use Rattle.run_steps.proofs.Linking.{size_append}
use Rattle.run_steps.specs.Items.{Linked, At}
use Rattle.run_steps.proofs.Items.{straight}
use Rattle.run_steps.specs.Numbers.{IsWide}
use Rattle.run_steps.proofs.Numbers.{word_small}
use Rattle.run_steps.specs.Bodies.{Ground, Known}
use Rattle.run_steps.proofs.Bodies.{zero_is}
use Rattle.run_steps.proofs.Jumps.{front_of, back_of}
use Rattle.run_steps.specs.Temporaries.{Temporaries, nothing, held_with, words_with, Stays}
use Rattle.run_steps.proofs.Temporaries.{waiting_kept, waiting_saved, save_piece, fetch_piece, stays_same}
use Rattle.run_steps.proofs.Temporaries.{stays_then, stays_saved, stays_less}
use Rattle.pli_headline.proofs.Serving.{Serving}
use Rattle.pli_headline.proofs.Raising.{Routines, small_is}
use Rattle.pli_headline.proofs.Evaluations.{number_kind, bit_kind, Evaluates}
use Rattle.pli_headline.proofs.StandingBytes.{ConstantsStand}
use Rattle.pli_headline.proofs.EditItems.{signed-word}
use Rattle.pli_headline.proofs.EditTexts.{at_other_texts, number_text_is, bit_text_is, word_as_text}
use Rattle.pli_headline.proofs.EditConstants.{constant_text}
use Rattle.pli_headline.proofs.TextCalls.{told, status_told, tested_call}
use Rattle.pli_headline.proofs.TextLengths.{IsShort, number_short, bit_short, joined_short, from_short, part_short}
use Rattle.pli_headline.proofs.Scalars.{bit_word}
use Rattle.run_steps.specs.Reach.{Family, Aims, Comes, Closed}
use Rattle.run_steps.proofs.Reach.{before_closed, comes_on, onward}

-- ---- what its code does

abbrev pub Texted : Ground → Taken → (h t : ℕ → ℕ) → Services → State → ℕ → Aims (List ℕ) → Type 0
Texted g k h t v s i aims =
    (text : List ℕ) (f' : Family) (h' t' : ℕ → ℕ) → IsShort text → Stays k h t h' t' → ((b : Base) → At b i (Known g (pushed (TextEntry text) v) h' t' nothing b) (f' b)) → aims.done i f' (pushed (TextEntry text) v) text s

pub record EvaluatesText (links : Links) (code : List Instr) (g : Ground) (v : Services) (s : State) (k : ℕ) (words : ℕ) (part : Taken → Code) (meaning : Meaning (List ℕ)) : Type 1 where
  pub does : {i : ℕ} {h t : ℕ → ℕ} {aims : Aims (List ℕ)} (closed : Closed code aims) (f : Family) (taken : Taken)
      → taken.words + words ≤ g.words + spare taken → Linked links code i (part taken)
      → ((b : Base) → At b i (Known g v h t nothing b) (f b)) → Texted g taken h t v s (i + size_of (part taken)) aims
      → Comes code i f v aims (meaning k s)

-- ---- what services 22 and 23 answer

join_answer : (code : List Instr) (v : Services) (m : List ℕ) (left right : List ℕ) (x : ℕ) → X.join_served (call_at code (pushed (TextEntry right) (pushed (TextEntry left) v)) m) x ≡ told (pushed (TextEntry right) (pushed (TextEntry left) v)) m x too_long_code (λ whole. pushed (TextEntry whole) v) (λ whole. x) (joined left right)
join_answer code v m left right x =
    let v' = pushed (TextEntry right) (pushed (TextEntry left) v) in
    status_told (call_at code v' m) x too_long_code (λ whole. pushed (TextEntry whole) v) (λ whole. x) (joined left right)

cut_answer : (code : List Instr) (v : Services) (m : List ℕ) (text : List ℕ) (i : ℤ) (y : ℕ) → IsWide i → X.cut_served (call_at code (pushed (TextEntry text) v) m) (word i) y 0 ≡ told (pushed (TextEntry text) v) m (word i) substring_code (λ part. pushed (TextEntry part) v) (λ part. word i) (substring_from text i)
cut_answer code v m text i y wide =
    let v' = pushed (TextEntry text) v in
    let c = call_at code v' m in
    ap (λ u. or_status c (word i) substring_code (substring_from text u) (λ part. Done (pushed (TextEntry part) v) m (word i) 0)) (signed-word i wide)
    ∙ status_told c (word i) substring_code (λ part. pushed (TextEntry part) v) (λ part. word i) (substring_from text i)

part_answer : (code : List Instr) (v : Services) (m : List ℕ) (text : List ℕ) (i j : ℤ) → IsWide i → IsWide j → X.cut_served (call_at code (pushed (TextEntry text) v) m) (word i) (word j) 1 ≡ told (pushed (TextEntry text) v) m (word i) substring_code (λ part. pushed (TextEntry part) v) (λ part. word i) (substring text i j)
part_answer code v m text i j wi wj =
    let v' = pushed (TextEntry text) v in
    let c = call_at code v' m in
    let told' : Option (List ℕ) → Answer = λ o. or_status c (word i) substring_code o (λ part. Done (pushed (TextEntry part) v) m (word i) 0) in
    ap (λ u. told' (substring text u (signed (word j)))) (signed-word i wi)
    ∙ ap (λ u. told' (substring text i u)) (signed-word j wj)
    ∙ status_told c (word i) substring_code (λ part. pushed (TextEntry part) v) (λ part. word i) (substring text i j)

same_word : (x : ℕ) → x < 2 ^ 32 → sum x (word (pos 0)) ≡ x
same_word x h = omega (arith, h)

-- ---- constants, numbers and bits

pub constant_evaluates : {links : Links} {code : List Instr} {g : Ground} {v : Services} {s : State} {k : ℕ} (bytes : List ℕ) → ConstantsStand links code g → length bytes ≤ 1024 → EvaluatesText links code g v s k 0 (λ taken. constant_pushed bytes) (give bytes)
unfolding give
constant_evaluates bytes constants short =
    record {
      does = λ {i} {h} {t} {aims} closed f taken room l at goal.
          constant_text closed f bytes short (λ b m o. constants.stand bytes (l.named (ConstantBytes bytes) (inl refl)) t b m o) l at
          (λ f1 at1. record { to = λ early. goal bytes f1 h t short (stays_same taken h t) at1 });
    }

pub number_evaluates_text : {links : Links} {code : List Instr} {g : Ground} {v : Services} {s : State} {k : ℕ} {n : ℕ} {part : Taken → Code} {meaning : Meaning ℤ} (precision : ℕ) → IsPrecision precision → Evaluates number_kind links code g v s k n part meaning → EvaluatesText links code g v s k n (λ taken. part taken ++ C.as_text precision) (meaning >>= (λ z. give (number_text precision z)))
unfolding ◌>>=◌ give
number_evaluates_text {v = v} {s = s} {k = k} {part = part} {meaning = meaning} precision is x =
    record {
      does = λ {i} {h} {t} {aims} closed f taken room l at goal.
          let a = part taken in
          let d = C.as_text precision in
          let e1 = size_append a d in
          let place : i + size_of a + 3 ≡ i + size_of (a ++ d) = omega (arith, e1) in
          let next' : ℤ → Meaning (List ℕ) = λ z. give (number_text precision z) in
          comes_on k (meaning k s) next'
          (x.does (before_closed k next' closed) f taken room (front_of a d l) at
          (λ z f1 h1 t1 wide stays at1.
          let text = number_text precision z in
          word_as_text closed f1 (word z) precision text is.1 (number_text_is precision z is.0 wide) (back_of a d l) at1
          (λ f2 at2.
          record {
            to = λ early.
                subst (λ u. aims.done u f2 (pushed (TextEntry text) v) text s) (sym place)
                (goal text f2 h1 t1 (number_short precision z) stays (λ b. record { pc = (at2 b).pc ∙ ap (address b) place; holds = (at2 b).holds }));
          })));
    }

pub bit_evaluates_text : {links : Links} {code : List Instr} {g : Ground} {v : Services} {s : State} {k : ℕ} {n : ℕ} {part : Taken → Code} {meaning : Meaning Bool} → Evaluates bit_kind links code g v s k n part meaning → EvaluatesText links code g v s k n (λ taken. part taken ++ C.as_text 0) (meaning >>= (λ met. give (bit_text met)))
unfolding ◌>>=◌ give
bit_evaluates_text {v = v} {s = s} {k = k} {part = part} {meaning = meaning} x =
    record {
      does = λ {i} {h} {t} {aims} closed f taken room l at goal.
          let a = part taken in
          let d = C.as_text 0 in
          let e1 = size_append a d in
          let place : i + size_of a + 3 ≡ i + size_of (a ++ d) = omega (arith, e1) in
          let next' : Bool → Meaning (List ℕ) = λ met. give (bit_text met) in
          comes_on k (meaning k s) next'
          (x.does (before_closed k next' closed) f taken room (front_of a d l) at
          (λ met f1 h1 t1 fits stays at1.
          let text = bit_text met in
          word_as_text closed f1 (word (bit_number met)) 0 text (omega arith) (bit_text_is met) (back_of a d l)
          (λ b. record { pc = (at1 b).pc; holds = record { body = (at1 b).holds.body; regs = ((at1 b).holds.regs.0 ∙ bit_word met, tt) } })
          (λ f2 at2.
          record {
            to = λ early.
                subst (λ u. aims.done u f2 (pushed (TextEntry text) v) text s) (sym place)
                (goal text f2 h1 t1 (bit_short met) stays (λ b. record { pc = (at2 b).pc ∙ ap (address b) place; holds = (at2 b).holds }));
          })));
    }

-- ---- texts that are joined, and parts

pub joined_evaluates : {links : Links} {code : List Instr} {g : Ground} {v : Services} {s : State} {k : ℕ} (m n : ℕ) (routines : Routines links code) (around : Around) → Serving k s v around.line → {left right : Taken → Code} {first second : Meaning (List ℕ)} → EvaluatesText links code g v s k m left first → ((text : List ℕ) → EvaluatesText links code g (pushed (TextEntry text) v) s k n right second) → EvaluatesText links code g v s k (max m n) (λ taken. left taken ++ (right taken ++ tested_service 22)) (first >>= (λ x. second >>= (λ y. R.or_error around too_long_code (joined x y))))
unfolding ◌>>=◌
joined_evaluates {code = code} {v = v} {s = s} {k = k} m n routines around serving {left = left} {right = right} {first = one} {second = two} x y =
    record {
      does = λ {i} {h} {t} {aims} closed f taken room l at goal.
          let a = left taken in
          let c = right taken in
          let d = tested_service 22 in
          let m1 = le-max_left m n in
          let m2 = le-max_right m n in
          let l1 = back_of a (c ++ d) l in
          let e1 = size_append a (c ++ d) in
          let e2 = size_append c d in
          let place : i + size_of a + size_of c + 5 ≡ i + size_of (a ++ (c ++ d)) = omega (arith, e1, e2) in
          let rest : List ℕ → Meaning (List ℕ) = λ first. two >>= (λ second. R.or_error around too_long_code (joined first second)) in
          comes_on k (one k s) rest
          (x.does (before_closed k rest closed) f taken (omega (arith, room, m1)) (front_of a (c ++ d) l) at
          (λ first f1 h1 t1 short1 stays1 at1.
          let next' : List ℕ → Meaning (List ℕ) = λ second. R.or_error around too_long_code (joined first second) in
          comes_on k (two k s) next'
          ((y first).does (before_closed k next' closed) f1 taken (omega (arith, room, m2)) (front_of c d l1) at1
          (λ second f2 h2 t2 short2 stays2 at2.
          let x' : Base → ℕ = λ b. (f2 b).machine.registers 10 in
          let y' : Base → ℕ = λ b. (f2 b).machine.registers 11 in
          let z' : Base → ℕ = λ b. (f2 b).machine.registers 12 in
          tested_call (joined first second) closed routines f2 around 22 too_long_code k x' y' z' (λ whole. pushed (TextEntry whole) v) (λ whole b. x' b) (λ q x0 x1 x2 x3 x4. X.join_served q x0) (lit< tt) (lit< tt) refl (λ q r. refl) (λ whole. omega arith)
          (λ b m x3 x4. join_answer code v m first second (x' b)) (back_of c d l1) (at_other_texts (TextEntry second ∷ TextEntry first ∷ v.entries) serving)
          (λ b. record { pc = (at2 b).pc; holds = record { body = (at2 b).holds.body; regs = (refl, (refl, (refl, tt))) } })
          (λ whole f3 found at3.
          subst (λ u. aims.done u f3 (pushed (TextEntry whole) v) whole s) (sym place)
          (goal whole f3 h2 t2 (joined_short first second whole found) (stays_then stays1 stays2) (λ b. record { pc = (at3 b).pc ∙ ap (address b) place; holds = record { body = (at3 b).holds.body; regs = tt } })))))));
    }

pub from_evaluates : {links : Links} {code : List Instr} {g : Ground} {v : Services} {s : State} {k : ℕ} (m n : ℕ) (routines : Routines links code) (around : Around) → Serving k s v around.line → {text start : Taken → Code} {first : Meaning (List ℕ)} {second : Meaning ℤ} → EvaluatesText links code g v s k m text first → ((whole : List ℕ) → Evaluates number_kind links code g (pushed (TextEntry whole) v) s k n start second) → EvaluatesText links code g v s k (max m n) (λ taken. text taken ++ (start taken ++ (small a2 0 ∷ tested_service 23))) (first >>= (λ whole. second >>= (λ from. R.or_error around substring_code (substring_from whole from))))
unfolding ◌>>=◌
from_evaluates {code = code} {g = g} {v = v} {s = s} {k = k} m n routines around serving {text = text} {start = start} {first = one} {second = two} x y =
    record {
      does = λ {i} {h} {t} {aims} closed f taken room l at goal.
          let a = text taken in
          let c = start taken in
          let mode = small a2 0 ∷ [] in
          let d = tested_service 23 in
          let m1 = le-max_left m n in
          let m2 = le-max_right m n in
          let l1 = back_of a (c ++ (mode ++ d)) l in
          let l2 = back_of c (mode ++ d) l1 in
          let e1 = size_append a (c ++ (mode ++ d)) in
          let e2 = size_append c (mode ++ d) in
          let place : i + size_of a + size_of c + 1 + 5 ≡ i + size_of (a ++ (c ++ (mode ++ d))) = omega (arith, e1, e2) in
          let rest : List ℕ → Meaning (List ℕ) = λ whole. two >>= (λ from. R.or_error around substring_code (substring_from whole from)) in
          comes_on k (one k s) rest
          (x.does (before_closed k rest closed) f taken (omega (arith, room, m1)) (front_of a (c ++ (mode ++ d)) l) at
          (λ whole f1 h1 t1 short stays1 at1.
          let v1 = pushed (TextEntry whole) v in
          let next' : ℤ → Meaning (List ℕ) = λ from. R.or_error around substring_code (substring_from whole from) in
          comes_on k (two k s) next'
          ((y whole).does (before_closed k next' closed) f1 taken (omega (arith, room, m2)) (front_of c (mode ++ d) l1) at1
          (λ from f2 h2 t2 wide stays2 at2.
          let y' : Base → ℕ = λ b. (f2 b).machine.registers 11 in
          let r = straight (i + size_of a + size_of c) f2 v1 v1 (λ b. Known g v1 h2 t2 (λ b'. (10, word from) ∷ (11, y' b') ∷ (12, 0) ∷ []) b) (front_of mode d l2) (omega arith) (λ b. (at2 b).pc)
          (λ b. let o = (at2 b).holds in record {
            body = record { services = o.body.services; registers = o.body.registers; bytes = o.body.bytes; memory = o.body.memory };
            regs = (o.regs.0, (refl, (small_is _ 0 (zero_is o.body) (lit< tt), tt)));
          }) in
          onward closed r (λ f3 at3.
          tested_call (substring_from whole from) closed routines f3 around 23 substring_code k (λ b. word from) y' (λ b. 0) (λ part. pushed (TextEntry part) v) (λ part b. word from) (λ q x0 x1 x2 x3 x4. X.cut_served q x0 x1 x2) (lit< tt) (lit< tt) refl (λ q r'. refl) (λ part. omega arith)
          (λ b m x3 x4. cut_answer code v m whole from (y' b) wide) (back_of mode d l2) (at_other_texts (TextEntry whole ∷ v.entries) serving) at3
          (λ part f4 found at4.
          subst (λ u. aims.done u f4 (pushed (TextEntry part) v) part s) (sym place)
          (goal part f4 h2 t2 (from_short whole from part short found) (stays_then stays1 stays2) (λ b. record { pc = (at4 b).pc ∙ ap (address b) place; holds = record { body = (at4 b).holds.body; regs = tt } }))))))));
    }

pub part_evaluates : {links : Links} {code : List Instr} {g : Ground} {v : Services} {s : State} {k : ℕ} (temps : Temporaries g) (m n p : ℕ) (routines : Routines links code) (around : Around) → Serving k s v around.line → {text start count : Taken → Code} {first : Meaning (List ℕ)} {second third : Meaning ℤ} → EvaluatesText links code g v s k m text first → ((whole : List ℕ) → Evaluates number_kind links code g (pushed (TextEntry whole) v) s k n start second) → ((whole : List ℕ) → Evaluates number_kind links code g (pushed (TextEntry whole) v) s k p count third) → EvaluatesText links code g v s k (max m (max n (suc p))) (λ taken. text taken ++ (start taken ++ (save a0 taken ++ (count (with_number taken) ++ (move a1 a0 ∷ (fetch a0 taken ++ (small a2 1 ∷ tested_service 23))))))) (first >>= (λ whole. second >>= (λ from. third >>= (λ many. R.or_error around substring_code (substring whole from many)))))
unfolding ◌>>=◌
part_evaluates {code = code} {g = g} {v = v} {s = s} {k = k} temps m n p routines around serving {text = text} {start = start} {count = count} {first = meant} {second = two} {third = three'} x y z =
    record {
      does = λ {i} {h} {t} {aims} closed f taken room l at goal.
          let a = text taken in
          let c = start taken in
          let put' = save a0 taken in
          let d = count (with_number taken) in
          let moved' = move a1 a0 ∷ [] in
          let back = fetch a0 taken in
          let mode = small a2 1 ∷ [] in
          let cut = tested_service 23 in
          let r5 = back ++ (mode ++ cut) in
          let r4 = moved' ++ r5 in
          let r3 = d ++ r4 in
          let r2 = put' ++ r3 in
          let r1 = c ++ r2 in
          let m1 = le-max_left m (max n (suc p)) in
          let m2 = le-max_right m (max n (suc p)) in
          let m3 = le-max_left n (suc p) in
          let m4 = le-max_right n (suc p) in
          let more = number_counts taken in
          let l1 = back_of a r1 l in
          let l2 = back_of c r2 l1 in
          let l3 = back_of put' r3 l2 in
          let l4 = back_of d r4 l3 in
          let l5 = back_of moved' r5 l4 in
          let l6 = back_of back (mode ++ cut) l5 in
          let e1 = size_append a r1 in
          let e2 = size_append c r2 in
          let e3 = size_append put' r3 in
          let e4 = size_append d r4 in
          let e5 = size_append back (mode ++ cut) in
          let place : i + size_of a + size_of c + size_of put' + size_of d + 1 + size_of back + 1 + 5 ≡ i + size_of (a ++ r1) = omega (arith, e1, e2, e3, e4, e5) in
          let one : is_register_left taken ≡ false
          → taken.words < g.words = λ none. let z = none_spare taken none in omega (arith, z, room, m2, m4) in
          let rest : List ℕ → Meaning (List ℕ) = λ whole. two >>= (λ from. three' >>= (λ many. R.or_error around substring_code (substring whole from many))) in
          comes_on k (meant k s) rest
          (x.does (before_closed k rest closed) f taken (omega (arith, room, m1)) (front_of a r1 l) at
          (λ whole f1 h1 t1 short stays1 at1.
          let v1 = pushed (TextEntry whole) v in
          let next' : ℤ → Meaning (List ℕ) = λ from. three' >>= (λ many. R.or_error around substring_code (substring whole from many)) in
          comes_on k (two k s) next'
          ((y whole).does (before_closed k next' closed) f1 taken (omega (arith, room, m2, m3)) (front_of c r2 l1) at1
          (λ from f2 h2 t2 wi stays2 at2.
          let h3 = held_with taken (word from) h2 in
          let t3 = words_with taken (word from) t2 in
          let last : ℤ → Meaning (List ℕ) = λ many. R.or_error around substring_code (substring whole from many) in
          onward closed (save_piece temps (i + size_of a + size_of c) f2 a0 taken (word from) one (word_small from wi) (λ y u. refl) (λ b w q. q.regs.0) (record { reserved_stay = λ y u. refl; known_stay = λ b y u q. q; set = λ y u. refl }) (front_of put' r3 l2) at2)
          (λ f3 at3.
          comes_on k (three' k s) last
          ((z whole).does (before_closed k last closed) f3 (with_number taken) (omega (arith, room, m2, m4, more)) (front_of d r4 l3) at3
          (λ many f4 h4 t4 wj stays4 at4.
          let r6 = straight (i + size_of a + size_of c + size_of put' + size_of d) f4 v1 v1 (λ b. Known g v1 h4 t4 (λ b'. (11, word many) ∷ []) b) (front_of moved' r5 l4) (omega arith) (λ b. (at4 b).pc)
          (λ b. let o = (at4 b).holds in record {
            body = record { services = o.body.services; registers = o.body.registers; bytes = o.body.bytes; memory = o.body.memory };
            regs = (ap (λ u. sum u (word (pos 0))) o.regs.0 ∙ same_word (word many) (word_small many wj), tt);
          }) in
          onward closed r6 (λ f5 at5.
          onward closed (fetch_piece temps (i + size_of a + size_of c + size_of put' + size_of d + 1) f5 a0 taken (word from) one (word_small from wi) (waiting_kept taken stays4 ∙ waiting_saved taken h2 t2 (word from)) (record { reserved_stay = λ z u. refl; known_stay = λ b z u q. q; set = λ z u. refl }) (record { reserved_stay = λ z u. refl; known_stay = λ b z u q. q; set = λ z u. refl }) (front_of back (mode ++ cut) l5) at5)
          (λ f6 at6.
          let r7 = straight (i + size_of a + size_of c + size_of put' + size_of d + 1 + size_of back) f6 v1 v1 (λ b. Known g v1 h4 t4 (λ b'. (10, word from) ∷ (11, word many) ∷ (12, 1) ∷ []) b) (front_of mode cut l6) (omega arith) (λ b. (at6 b).pc)
          (λ b. let o = (at6 b).holds in record {
            body = record { services = o.body.services; registers = o.body.registers; bytes = o.body.bytes; memory = o.body.memory };
            regs = (o.regs.0, (o.regs.1.0, (small_is _ 1 (zero_is o.body) (lit< tt), tt)));
          }) in
          onward closed r7 (λ f7 at7.
          tested_call (substring whole from many) closed routines f7 around 23 substring_code k (λ b. word from) (λ b. word many) (λ b. 1) (λ part. pushed (TextEntry part) v) (λ part b. word from) (λ q x0 x1 x2 x3 x4. X.cut_served q x0 x1 x2) (lit< tt) (lit< tt) refl (λ q r'. refl) (λ part. omega arith)
          (λ b m x3 x4. part_answer code v m whole from many wi wj) (back_of mode cut l6) (at_other_texts (TextEntry whole ∷ v.entries) serving) at7
          (λ part f8 found at8.
          subst (λ u. aims.done u f8 (pushed (TextEntry part) v) part s) (sym place)
          (goal part f8 h4 t4 (part_short whole from many part short found) (stays_then stays1 (stays_then stays2 (stays_then (stays_saved taken h2 t2 (word from)) (stays_less stays4)))) (λ b. record { pc = (at8 b).pc ∙ ap (address b) place; holds = record { body = (at8 b).holds.body; regs = tt } })))))))))))));
    }
