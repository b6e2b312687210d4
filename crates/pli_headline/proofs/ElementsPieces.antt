-- One number is stored in all elements of an array: the value waits, the record of the array is written, and service 41 is called.
use Rattle.std.proofs.Common.{◌≡◌, ℕ, suc, ◌+◌, ◌-◌, ◌*◌, ◌^◌, ◌<◌, ◌≤◌, List, [], ◌∷◌, ◌++◌, length, Bool, false, refl, sym, ap, ◌∙◌, subst, arith}
use Rattle.std.specs.Prelude.{pos, neg_ℤ, cond, ◌==◌}
use Rattle.std.proofs.lemmas.Bool.Decides.{nat_tests}
use Rattle.rv_meaning.specs.declared.instr.Instr.{Instr}
use Rattle.rv_meaning.specs.declared.instr.Instr.TheVariants as I
use Rattle.rv_meaning.specs.Words.{word, sum}
use Rattle.rv_meaning.specs.Memory.{load}
use Rattle.rv_meaning.specs.Machine.{memory_size}
use Rattle.pli_meaning.specs.Control.{Flow}
use Rattle.pli_serving.specs.ServiceState.{Services}
use Rattle.pli_serving.specs.Answers.{Done}
use Rattle.pli_serving.specs.AggregateServices as W
use Rattle.pli_coding.specs.Registers.{zero_register, frame_register, a0, a1, a2, a7}
use Rattle.pli_coding.specs.Assembly.{Plain, size_of}
use Rattle.pli_coding.specs.Instructions.{number, plus, small, load_word, service}
use Rattle.pli_coding.specs.Frames.{own_offset}
use Rattle.pli_coding.specs.Environments.{Taken, is_register_left, with_number, save, fetch}
use Rattle.pli_coding.specs.Storing as K
use Rattle.pli_coding.specs.Linking.{Links}
use Rattle.run_steps.specs.Engine.{Base, address, call_at}
use Rattle.run_steps.proofs.Linking.{size_append}
use Rattle.run_steps.specs.Items.{Linked, At}
use Rattle.run_steps.proofs.Items.{straight}
use Rattle.run_steps.proofs.Jumps.{front_of, back_of}
use Rattle.run_steps.proofs.Numbers.{below_small, below_sum}
use Rattle.pli_headline.proofs.Acts.{word_is, word_fits}
use Rattle.pli_headline.proofs.Raising.{small_is}
use Rattle.run_steps.specs.Bodies.{Ground, Known, PlaceFrom, reserved_are}
use Rattle.run_steps.proofs.Bodies.{zero_is, frame_is, constant_piece}
use Rattle.run_steps.proofs.Increments.{plus_own}
use Rattle.pli_headline.proofs.Operators.{valued}
use Rattle.run_steps.specs.Temporaries.{Temporaries, Stays, nothing, put, held_with, words_with}
use Rattle.run_steps.proofs.Temporaries.{stays_then, stays_saved, stays_less, put_same, put_other, waiting_kept}
use Rattle.run_steps.proofs.Temporaries.{save_piece, fetch_piece, waiting_saved}
use Rattle.run_steps.specs.Calls.{Calling}
use Rattle.run_steps.proofs.Calls.{called, call_done}
use Rattle.run_steps.specs.Reaching.{Reaches}
use Rattle.pli_headline.proofs.ElementsServed.{RecordThere}
use Rattle.pli_headline.proofs.ElementsCode.{offset_by, record_by, given_by, filling, word_kept, record_word, free_in, far_in, far_none, own_piece, place_piece}
use Rattle.run_steps.specs.Reach.{Family, Aims, Comes, Closed}
use Rattle.run_steps.proofs.Reach.{onward}

-- ---- the record

-- the temporaries with a record behind so many words: where the name stands, and the number of the signature
abbrev pub recorded : (t : ℕ → ℕ) (words name n : ℕ) → ℕ → ℕ
recorded t words name n = put (put (put (put t words 0) (words + 1) 0) (words + 3) name) (words + 2) n

record_above : (t : ℕ → ℕ) (words name n j : ℕ) → j < words → recorded t words name n j ≡ t j
record_above t words name n j below =
    put_other (put (put (put t words 0) (words + 1) 0) (words + 3) name) (words + 2) n j (omega (arith, below))
    ∙ put_other (put (put t words 0) (words + 1) 0) (words + 3) name j (omega (arith, below))
    ∙ put_other (put t words 0) (words + 1) 0 j (omega (arith, below))
    ∙ put_other t words 0 j below

pub record_stays : (k : Taken) (h t : ℕ → ℕ) (name n : ℕ) → Stays k h t h (recorded t k.words name n)
record_stays k h t name n = record { registers = λ i e. refl; words = λ j e. record_above t k.words name n j e }

put_apart : (xs : ℕ → ℕ) (k x i : ℕ) → (i == k) ≡ false → put xs k x i ≡ xs i
put_apart xs k x i e = ap (λ q. cond q x (xs i)) e

further : (words a b : ℕ) → b < a → (words + a == words + b) ≡ false
further words a b h = grind (arith, nat_tests)

record_name : (t : ℕ → ℕ) (words name n : ℕ) → recorded t words name n (words + 3) ≡ name
record_name t words name n =
    put_apart (put (put (put t words 0) (words + 1) 0) (words + 3) name) (words + 2) n (words + 3) (further words 3 2 (omega arith))
    ∙ put_same (put (put t words 0) (words + 1) 0) (words + 3) name

record_number : (t : ℕ → ℕ) (words name n : ℕ) → recorded t words name n (words + 2) ≡ n
record_number t words name n = put_same (put (put (put t words 0) (words + 1) 0) (words + 3) name) (words + 2) n

record_extent : (t : ℕ → ℕ) (words name n : ℕ) → recorded t words name n words ≡ 0
record_extent t words name n =
    put_other (put (put (put t words 0) (words + 1) 0) (words + 3) name) (words + 2) n words (omega arith)
    ∙ put_other (put (put t words 0) (words + 1) 0) (words + 3) name words (omega arith)
    ∙ put_other (put t words 0) (words + 1) 0 words (omega arith)
    ∙ put_same t words 0

-- it stands in memory
pub record_there : {g : Ground} (temps : Temporaries g) (t : ℕ → ℕ) (words name n : ℕ) → words + 4 ≤ g.words → name < 2 ^ 32 → n < 2 ^ 32 → (b : Base) (m : List ℕ) → g.memory (recorded t words name n) b m → RecordThere m (g.frame - 4 * (words + 4)) name n
record_there {g} temps t words name n room few few' b m held =
    let above = g.above_code in
    let r = recorded t words name n in
    let e0 : g.frame - 4 * suc (words + 3) ≡ g.frame - 4 * (words + 4) = omega (arith, above, room) in
    let e1 : g.frame - 4 * suc (words + 2) ≡ g.frame - 4 * (words + 4) + 4 = omega (arith, above, room) in
    let e3 : g.frame - 4 * suc words ≡ g.frame - 4 * (words + 4) + 12 = omega (arith, above, room) in
    record {
      name_is = ap (load 4 m) (sym e0) ∙ temps.found r b m (words + 3) (omega (arith, room)) (subst (λ u. u < 2 ^ 32) (sym (record_name t words name n)) few) held ∙ record_name t words name n;
      signature_is = ap (load 4 m) (sym e1) ∙ temps.found r b m (words + 2) (omega (arith, room)) (subst (λ u. u < 2 ^ 32) (sym (record_number t words name n)) few') held ∙ record_number t words name n;
      extent_is = ap (load 4 m) (sym e3) ∙ temps.found r b m words (omega (arith, room)) (subst (λ u. u < 2 ^ 32) (sym (record_extent t words name n)) (omega arith)) held ∙ record_extent t words name n;
    }

-- it is written
pub record_piece : {R : Type 0} {links : Links} {code : List Instr} {i : ℕ} {g : Ground} {v : Services} {h t : ℕ → ℕ} {aims : Aims R} {flow : Flow R} (closed : Closed code aims) (temps : Temporaries g) (f : Family) (taken : Taken) (q : Bool) (level base place n : ℕ) → taken.words + 4 ≤ g.words → n < 2 ^ 24 → Reaches q level g base → PlaceFrom base (pos 36) (base + 36) → base + place < 2 ^ 24 → ((t' : ℕ → ℕ) (b : Base) (m : List ℕ) → g.memory t' b m → load 4 m (base + 36) ≡ base) → Linked links code i (record_by taken q level place n) → ((b : Base) → At b i (Known g v h t nothing b) (f b)) → ((f' : Family) → ((b : Base) → At b (i + size_of (record_by taken q level place n)) (Known g v h (recorded t taken.words (base + place) n) nothing b) (f' b)) → Comes code (i + size_of (record_by taken q level place n)) f' v aims flow) → Comes code i f v aims flow
record_piece {code = code} {i = i} {g = g} {v = v} {h = h} {t = t} {aims = aims} {flow = flow} closed temps f taken q level base place n room few reaches at36 near own l at next' =
    let w = taken.words in
    let p1 = K.record_stored taken 3 zero_register in
    let p2 = K.record_stored taken 2 zero_register in
    let p3 = offset_by q level place in
    let p4 = K.record_stored taken 0 a0 in
    let p5 = number a0 n in
    let p6 = K.record_stored taken 1 a0 in
    let l1 = back_of p1 (p2 ++ (p3 ++ (p4 ++ (p5 ++ p6)))) l in
    let l2 = back_of p2 (p3 ++ (p4 ++ (p5 ++ p6))) l1 in
    let l3 = back_of p3 (p4 ++ (p5 ++ p6)) l2 in
    let l4 = back_of p4 (p5 ++ p6) l3 in
    let e1 = size_append p1 (p2 ++ (p3 ++ (p4 ++ (p5 ++ p6)))) in
    let e2 = size_append p2 (p3 ++ (p4 ++ (p5 ++ p6))) in
    let e3 = size_append p3 (p4 ++ (p5 ++ p6)) in
    let e4 = size_append p4 (p5 ++ p6) in
    let e5 = size_append p5 p6 in
    let there : i + size_of p1 + size_of p2 + size_of p3 + size_of p4 + size_of p5 + size_of p6 ≡ i + size_of (record_by taken q level place n) = omega (arith, e1, e2, e3, e4, e5) in
    onward closed (word_kept temps f zero_register (K.record_place taken 3) w 0 (record_word w 3 w (omega arith)) (omega (arith, room)) (omega arith) (λ y u. refl) (λ b w' o. zero_is o.body) far_none (front_of p1 (p2 ++ (p3 ++ (p4 ++ (p5 ++ p6)))) l) at) (λ f1 at1.
    onward closed (word_kept temps f1 zero_register (K.record_place taken 2) (w + 1) 0 (record_word w 2 (w + 1) (omega arith)) (omega (arith, room)) (omega arith) (λ y u. refl) (λ b w' o. zero_is o.body) far_none (front_of p2 (p3 ++ (p4 ++ (p5 ++ p6))) l1) at1) (λ f2 at2.
    place_piece q level closed f2 base place reaches at36 near (λ b m o. own _ b m o) (front_of p3 (p4 ++ (p5 ++ p6)) l2) at2 (λ f3 at3.
    onward closed (word_kept temps f3 a0 (K.record_place taken 0) (w + 3) (base + place) (record_word w 0 (w + 3) (omega arith)) (omega (arith, room)) (omega (arith, near)) (λ y u. refl) (λ b w' o. o.regs.0) (far_in (λ b. base + place)) (front_of p4 (p5 ++ p6) l3) at3) (λ f4 at4.
    onward closed (constant_piece (i + size_of p1 + size_of p2 + size_of p3 + size_of p4) f4 a0 (pos n) (word_fits n (omega (arith, few))) free_in (front_of p5 p6 l4) (λ b. record { pc = (at4 b).pc; holds = record { body = (at4 b).holds.body; regs = tt } })) (λ f5 at5.
    onward closed (word_kept temps f5 a0 (K.record_place taken 1) (w + 2) n (record_word w 1 (w + 2) (omega arith)) (omega (arith, room)) (omega (arith, few)) (λ y u. refl) (λ b w' o. o.regs.0 ∙ word_is n (omega (arith, few))) (far_in (λ b. word (pos n))) (back_of p5 p6 l4) at5) (λ f6 at6.
    subst (λ u. Comes code u f6 v aims flow) (sym there)
    (next' f6 (λ b. record { pc = (at6 b).pc ∙ ap (address b) there; holds = record { body = (at6 b).holds.body; regs = tt } }))))))))

-- ---- its offset

below_by : (at n : ℕ) → at < 2 ^ 24 → n ≤ at → sum at (word (neg_ℤ (pos n))) ≡ at - n
below_by at n few less =
    let e = below_sum 0 at n (omega arith) few less in
    let f : 0 + at ≡ at = omega arith in
    let k : 0 + (at - n) ≡ at - n = omega arith in
    ap (λ u. sum u (word (neg_ℤ (pos n)))) (sym f) ∙ e ∙ k

pub given_piece : {R : Type 0} {links : Links} {code : List Instr} {i : ℕ} {g : Ground} {v : Services} {h t : ℕ → ℕ} {aims : Aims R} {flow : Flow R} (closed : Closed code aims) (f : Family) (taken : Taken) → taken.words + 4 ≤ g.words → PlaceFrom g.frame (pos 36) (g.frame + 36) → ((t' : ℕ → ℕ) (b : Base) (m : List ℕ) → g.memory t' b m → load 4 m (g.frame + 36) ≡ g.frame) → Linked links code i (given_by taken) → ((b : Base) → At b i (Known g v h t nothing b) (f b)) → ((f' : Family) → ((b : Base) → At b (i + size_of (given_by taken)) (Known g v h t (valued (g.frame - 4 * (taken.words + 4))) b) (f' b)) → Comes code (i + size_of (given_by taken)) f' v aims flow) → Comes code i f v aims flow
given_piece {code = code} {i = i} {g = g} {v = v} {aims = aims} {flow = flow} closed f taken room at36 own l at next' =
    let n = 4 * (taken.words + 4) in
    let first = load_word a0 frame_register own_offset in
    let last = plus a0 a0 (K.record_place taken 0) in
    let size = size_append first last in
    let there : i + 1 + size_of last ≡ i + size_of (first ++ last) = omega (arith, size) in
    let above = g.above_code in
    let inside = g.inside in
    let same : 4 * (taken.words + 4 - 0) ≡ n = omega arith in
    onward closed (own_piece i f frame_register g.frame at36 (λ b w o. frame_is o.body) (λ b m o. own _ b m o) (front_of first last l) at) (λ f1 at1.
    onward closed (plus_own (i + 1) f1 a0 (K.record_place taken 0) (λ b. g.frame) (λ b. g.frame - n) (subst (λ u. word (neg_ℤ (pos u)) < 2 ^ 32) (sym same) (below_small n (omega (arith, above, inside, room)))) (λ b. omega (arith, inside)) (λ y u. refl) (λ b. ap (λ u. sum g.frame (word (neg_ℤ (pos u)))) same ∙ below_by g.frame n (omega (arith, inside)) (omega (arith, above, room))) free_in (far_in (λ b. g.frame)) (back_of first last l) at1) (λ f2 at2.
    subst (λ u. Comes code u f2 v aims flow) (sym there)
    (next' f2 (λ b. record { pc = (at2 b).pc ∙ ap (address b) there; holds = (at2 b).holds }))))

-- ---- the whole

-- the temporaries when the service is called
abbrev pub filling_words : Taken → (behind : Taken) → (x : ℕ) → (t : ℕ → ℕ) → (name n : ℕ) → ℕ → ℕ
filling_words taken behind x t name n = recorded (words_with taken x t) behind.words name n

pub filling_piece : {R : Type 0} {links : Links} {code : List Instr} {i : ℕ} {g : Ground} (g' : Ground) {v : Services} {h t : ℕ → ℕ} {aims : Aims R} {flow : Flow R} (closed : Closed code aims) (temps : Temporaries g) (f : Family) (taken : Taken) (q : Bool) (level base place n x : ℕ) (change : List ℕ → List ℕ) → (is_register_left taken ≡ false → taken.words < g.words) → (with_number taken).words + 4 ≤ g.words → n < 2 ^ 24 → x < 2 ^ 32 → Reaches q level g base → PlaceFrom base (pos 36) (base + 36) → base + place < 2 ^ 24 → PlaceFrom g.frame (pos 36) (g.frame + 36) → ((t' : ℕ → ℕ) (b : Base) (m : List ℕ) → g.memory t' b m → load 4 m (base + 36) ≡ base) → ((t' : ℕ → ℕ) (b : Base) (m : List ℕ) → g.memory t' b m → load 4 m (g.frame + 36) ≡ g.frame) → ((b : Base) (h' : ℕ → ℕ) → reserved_are b g h' ≡ reserved_are b g' h') → ((b : Base) (m : List ℕ) → length m ≡ memory_size → g.memory (filling_words taken (with_number taken) x t (base + place) n) b m → W.scalar_served (call_at code v m) (g.frame - 4 * ((with_number taken).words + 4)) 0 x ≡ Done v (change m) (g.frame - 4 * ((with_number taken).words + 4)) 0) → ((b : Base) (m : List ℕ) → length m ≡ memory_size → g.memory (filling_words taken (with_number taken) x t (base + place) n) b m → (length (change m) ≡ memory_size) × g'.memory (filling_words taken (with_number taken) x t (base + place) n) b (change m)) → Linked links code i (filling taken (with_number taken) q level place n) → ((b : Base) → At b i (Known g v h t (valued x) b) (f b)) → ((f' : Family) → Stays taken h t (held_with taken x h) (filling_words taken (with_number taken) x t (base + place) n) → ((b : Base) → At b (i + size_of (filling taken (with_number taken) q level place n)) (Known g' v (held_with taken x h) (filling_words taken (with_number taken) x t (base + place) n) nothing b) (f' b)) → Comes code (i + size_of (filling taken (with_number taken) q level place n)) f' v aims flow) → Comes code i f v aims flow
filling_piece {code = code} {i = i} {g = g} g' {v = v} {h = h} {t = t} {aims = aims} {flow = flow} closed temps f taken q level base place n x change left room few fits reaches at36 near own36 own mine same answers changed l at next' =
    let k = with_number taken in
    let h1 = held_with taken x h in
    let t1 = words_with taken x t in
    let t2 = recorded t1 k.words (base + place) n in
    let r = g.frame - 4 * (k.words + 4) in
    let p0 = save a0 taken in
    let p1 = record_by k q level place n in
    let p2 = given_by k in
    let p3 = number a1 0 in
    let p4 = fetch a2 taken in
    let p5 = small a7 41 ∷ [] in
    let p6 = Plain I.Ecall ∷ [] in
    let rest1 = p1 ++ (p2 ++ (p3 ++ (p4 ++ service 41))) in
    let rest2 = p2 ++ (p3 ++ (p4 ++ service 41)) in
    let rest3 = p3 ++ (p4 ++ service 41) in
    let rest4 = p4 ++ service 41 in
    let l1 = back_of p0 rest1 l in
    let l2 = back_of p1 rest2 l1 in
    let l3 = back_of p2 rest3 l2 in
    let l4 = back_of p3 rest4 l3 in
    let l5 = back_of p4 (service 41) l4 in
    let l6 = back_of p5 p6 l5 in
    let e0 = size_append p0 rest1 in
    let e1 = size_append p1 rest2 in
    let e2 = size_append p2 rest3 in
    let e3 = size_append p3 rest4 in
    let e4 = size_append p4 (service 41) in
    let stays : Stays k h1 t1 h1 t2 = record_stays k h1 t1 (base + place) n in
    let there : i + size_of p0 + size_of p1 + size_of p2 + size_of p3 + size_of p4 + 1 + 1 ≡ i + size_of (filling taken k q level place n) = omega (arith, e0, e1, e2, e3, e4) in
    onward closed (save_piece temps i f a0 taken x left fits (λ y u. refl) (λ b w' o. o.regs.0) (far_in (λ b. x)) (front_of p0 rest1 l) at) (λ f0 at0.
    record_piece closed temps f0 k q level base place n room few reaches at36 near own (front_of p1 rest2 l1) at0 (λ f1 at1.
    given_piece closed f1 k room own36 mine (front_of p2 rest3 l2) at1 (λ f2 at2.
    onward closed (constant_piece (i + size_of p0 + size_of p1 + size_of p2) f2 a1 (pos 0) (word_fits 0 (omega arith)) (record { reserved_stay = λ y u. refl; known_stay = λ b y u o. o; set = λ y u. refl }) (front_of p3 rest4 l3) at2) (λ f3 at3.
    onward closed (fetch_piece temps (i + size_of p0 + size_of p1 + size_of p2 + size_of p3) f3 a2 taken x left fits (waiting_kept taken stays ∙ waiting_saved taken h t x) (record { reserved_stay = λ y u. refl; known_stay = λ b y u o. o; set = λ y u. refl }) (record { reserved_stay = λ y u. refl; known_stay = λ b y u o. o; set = λ y u. refl }) (front_of p4 (service 41) l4) at3) (λ f4 at4.
    let start = i + size_of p0 + size_of p1 + size_of p2 + size_of p3 + size_of p4 in
    let asked = straight start f4 v v (λ b. Known g v h1 t2 (λ b'. (10, r) ∷ (11, 0) ∷ (12, x) ∷ (17, 41) ∷ []) b) (front_of p5 p6 l5) (omega arith) (λ b. (at4 b).pc)
    (λ b. let o = (at4 b).holds in let z = zero_is o.body in record {
      body = record { services = o.body.services; registers = o.body.registers; bytes = o.body.bytes; memory = o.body.memory };
      regs = (o.regs.1.1.0, (o.regs.1.0 ∙ word_is 0 (omega arith), (o.regs.0, (small_is _ 41 z (omega arith), tt))));
    }) in
    onward closed asked (λ f5 at5.
    let calling : Calling _ code (start + 1) f5 (λ b. Done v (change (f5 b).machine.memory) r 0) = record {
      linked = l6;
      pc = λ b. (at5 b).pc;
      answers = λ b.
          let o = (at5 b).holds in
          called code (f5 b) v 41 r 0 x _ _ (λ c x0 x1 x2 x3 x4. W.scalar_served c x0 x1 x2) o.body.services o.regs.1.1.1.0 o.regs.0 o.regs.1.0 o.regs.1.1.0 refl refl (λ c u. refl)
          ∙ answers b (f5 b).machine.memory o.body.bytes o.body.memory;
    } in
    let done = call_done (start + 1) f5 v v (λ b. change (f5 b).machine.memory) (λ b. r) (λ b. 0) (λ b. Known g' v h1 t2 nothing b) (omega arith) calling
    (λ b. let o = (at5 b).holds.body in let c = changed b (f5 b).machine.memory o.bytes o.memory in record { body = record { services = refl; registers = o.registers ∙ same b h1; bytes = c.0; memory = c.1 }; regs = tt }) in
    onward closed done (λ f6 at6.
    subst (λ u. Comes code u f6 v aims flow) (sym there)
    (next' f6 (stays_then (stays_saved taken h t x) (stays_less stays)) (λ b. record { pc = (at6 b).pc ∙ ap (address b) there; holds = (at6 b).holds })))))))))
