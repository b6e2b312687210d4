-- Texts in PUT: a number or a bit becomes a text, and a text is shown by an A item.
use Rattle.std.proofs.Common.{◌≡◌, ℕ, suc, ◌+◌, ◌^◌, ◌<◌, ◌≤◌, List, [], ◌∷◌, Option, Some, None, Bool, true, false, refl, sym, ap, ◌∙◌, subst, arith, lit<, add-one}
use Rattle.std.specs.Prelude.{ℤ, cond, ◌==◌}
use Rattle.std.proofs.lemmas.Bool.Decides.{nat_tests}
use Rattle.rv_meaning.specs.declared.instr.Instr.{Instr}
use Rattle.rv_meaning.specs.declared.instr.Instr.TheVariants as I
use Rattle.rv_meaning.specs.Words.{word, signed}
use Rattle.pli_meaning.specs.World.{written}
use Rattle.pli_meaning.specs.Stream.{with_field}
use Rattle.pli_meaning.specs.Texts.{number_text, bit_text, bit_number}
use Rattle.pli_meaning.specs.StorageState.{State}
use Rattle.pli_meaning.specs.Control.{Flow, act}
use Rattle.pli_meaning.specs.Raising.{Around}
use Rattle.pli_meaning.specs.Evaluating.{Computational, as_text}
use Rattle.pli_meaning.specs.Streaming as P
use Rattle.pli_meaning.specs.Streaming.{FormatItem, DataFormat, TextItem}
use Rattle.pli_serving.specs.ServiceState.{Services, EditPlace, Entry, TextEntry}
use Rattle.pli_serving.specs.Answers.{Done}
use Rattle.pli_serving.specs.Outcomes.{with_entries, pushed, on_text}
use Rattle.pli_serving.specs.Edits as E
use Rattle.pli_serving.specs.TextServices as X
use Rattle.pli_coding.specs.Registers.{a1, a7}
use Rattle.pli_coding.specs.Assembly.{Plain}
use Rattle.pli_coding.specs.Instructions.{small, service}
use Rattle.pli_coding.specs.Streams as C
use Rattle.pli_coding.specs.Linking.{Links}
use Rattle.pli_headline.proofs.HeldPlaces.{places_next}
use Rattle.run_steps.specs.Engine.{Base, address, call_at}
use Rattle.run_steps.specs.Items.{Linked, At}
use Rattle.run_steps.proofs.Items.{straight}
use Rattle.run_steps.specs.Numbers.{IsWide}
use Rattle.run_steps.specs.Bodies.{Ground, Known}
use Rattle.run_steps.proofs.Bodies.{zero_is}
use Rattle.run_steps.proofs.Jumps.{front_of, back_of}
use Rattle.run_steps.specs.Temporaries.{nothing}
use Rattle.run_steps.specs.Calls.{Calling}
use Rattle.run_steps.proofs.Calls.{comes_act, called, call_acts, call_pauses, acts}
use Rattle.pli_headline.proofs.Serving.{Serving}
use Rattle.pli_headline.proofs.Raising.{small_is, with_act}
use Rattle.pli_headline.proofs.Operators.{valued}
use Rattle.pli_headline.proofs.EditItems.{putting, at_places, Finds, signed-word}
use Rattle.pli_headline.proofs.EditPieces.{argued, quiet_piece, at_other_places, shown_state}
use Rattle.run_steps.specs.Reach.{Family, Aims, Comes, Closed, cost, reached}
use Rattle.run_steps.proofs.Reach.{onward, reached_holds}

-- ---- the stack of texts

pub at_other_texts : {k : ℕ} {s : State} {v : Services} {line : ℕ} (texts : List Entry) → Serving k s v line → Serving k s (with_entries texts v) line
at_other_texts texts o =
    record {
      world = o.world;
      running = o.running;
      line_is = o.line_is;
      input = o.input;
      allowed = o.allowed;
      fits = o.fits;
      nested = o.nested;
      waiting = o.waiting;
      places = o.places;
    }

-- ---- 21: a number or a bit as a text

word_answer : (code : List Instr) (v : Services) (m : List ℕ) (x p : ℕ) (text : List ℕ) → X.number_or_bit_text x p ≡ text → X.push_number_served (call_at code v m) x p ≡ Done (pushed (TextEntry text) v) m x p
word_answer code v m x p text is = ap (λ u. Done (pushed (TextEntry u) v) m x p) is

some_places : (p : ℕ) → 1 ≤ p → (p == 0) ≡ false
some_places p h = grind (arith, nat_tests)

-- a number has a precision, and a bit none
pub number_text_is : (p : ℕ) (z : ℤ) → 1 ≤ p → IsWide z → X.number_or_bit_text (word z) p ≡ number_text p z
number_text_is p z some wide =
    ap (λ u. cond u (bit_text (word z == 1)) (number_text p (signed (word z)))) (some_places p some)
    ∙ ap (number_text p) (signed-word z wide)

pub bit_text_is : (b : Bool) → X.number_or_bit_text (word (bit_number b)) 0 ≡ bit_text b
bit_text_is true = refl
bit_text_is false = refl

pub word_as_text : {R : Type 0} {links : Links} {code : List Instr} {i : ℕ} {g : Ground} {v : Services} {h t : ℕ → ℕ} {aims : Aims R} {flow : Flow R} (closed : Closed code aims) (f : Family) (x p : ℕ) (text : List ℕ) → p ≤ 31 → X.number_or_bit_text x p ≡ text → Linked links code i (C.as_text p) → ((b : Base) → At b i (Known g v h t (valued x) b) (f b)) → ((f' : Family) → ((b : Base) → At b (i + 3) (Known g (pushed (TextEntry text) v) h t nothing b) (f' b)) → Comes code (i + 3) f' (pushed (TextEntry text) v) aims flow) → Comes code i f v aims flow
word_as_text {code = code} {i = i} {g = g} {v = v} {h = h} {t = t} {aims = aims} {flow = flow} closed f x p text most is l at next' =
    let v' = pushed (TextEntry text) v in
    let front = small a1 p ∷ [] in
    let r = straight i f v v (λ b. Known g v h t (argued (λ b'. x) (λ b'. p)) b) (front_of front (service 21) l) (omega arith) (λ b. (at b).pc)
    (λ b. let o = (at b).holds in record {
      body = record { services = o.body.services; registers = o.body.registers; bytes = o.body.bytes; memory = o.body.memory };
      regs = (o.regs.0, (small_is _ p (zero_is o.body) (omega (arith, most)), tt));
    }) in
    onward closed r (λ f1 at1.
    quiet_piece closed f1 v' 21 (λ b. x) (λ b. p) (λ b. x) (λ b. p) (λ c x0 x1 x2 x3 x4. X.push_number_served c x0 x1) (lit< tt) (λ c u. refl) (omega arith)
    (λ b m x2 x3 x4 o. word_answer code v m x p text is) (back_of front (service 21) l) at1
    (λ f2 at2.
    let e : i + 1 + 2 ≡ i + 3 = omega arith in
    subst (λ u. Comes code u f2 v' aims flow) (sym e)
    (next' f2 (λ b. record { pc = (at2 b).pc ∙ ap (address b) e; holds = record { body = (at2 b).holds.body; regs = tt } }))))

-- ---- 37: the top text is shown

-- the services behind it
abbrev pub texted : (field : List ℕ) → List EditPlace → List Entry → Services → Services
texted field places texts v = E.written_by (with_field field) (with_entries texts (at_places places v))

text_answer : (code : List Instr) (v : Services) (m : List ℕ) (width : Option ℕ) (whole left : List FormatItem) (below : List EditPlace) (text : List ℕ) (texts : List Entry) (x y k : ℕ) → Finds v.edits (DataFormat (TextItem width)) whole left below → v.entries ≡ TextEntry text ∷ texts → v.world.acts ≤ k → k + 1 < 2 ^ 64 → E.text_served (call_at code v m) x y ≡ Done (texted (E.text_field width text) (putting whole left ∷ below) texts v) m x y
text_answer code v m width whole left below text texts x y k found top allowed fits =
    let c = call_at code v m in
    let places = putting whole left ∷ below in
    found (λ n below'. E.text_by c x y n.behind.direction n.item (n.behind ∷ below'))
    ∙ ap (λ u. on_text u (λ t others. E.field_written c x y (with_entries others (at_places places v)) (E.text_field width t))) top
    ∙ acts v k _ allowed fits

shown_text : (around : Around) (u : Computational) (width : Option ℕ) (k : ℕ) (s : State) → P.shown_by around u (TextItem width) k s ≡ act (written (with_field (E.text_field width (as_text u)))) k s
unfolding P.shown_by
shown_text around u None k s = refl
shown_text around u (Some width) k s = refl

pub text_piece : {links : Links} {code : List Instr} {i : ℕ} {g : Ground} {v : Services} {h t : ℕ → ℕ} {rs : Base → List (ℕ × ℕ)} {s : State} {aims : Aims (Unit {0})} (closed : Closed code aims) (f : Family) (around : Around) (shown : Computational) (width : Option ℕ) (whole left : List FormatItem) (below : List EditPlace) (texts : List Entry) (k : ℕ) → Finds v.edits (DataFormat (TextItem width)) whole left below → v.entries ≡ TextEntry (as_text shown) ∷ texts → Linked links code i C.text_written → Serving k s v around.line → ((b : Base) → At b i (Known g v h t rs b) (f b)) → ((field : List ℕ) (f' : Family) → Serving k (shown_state field s) (texted field (putting whole left ∷ below) texts v) around.line → ((b : Base) → At b (i + 2) (Known g (texted field (putting whole left ∷ below) texts v) h t nothing b) (f' b)) → aims.done (i + 2) f' (texted field (putting whole left ∷ below) texts v) tt (shown_state field s)) → Comes code i f v aims (P.shown_by around shown (TextItem width) k s)
text_piece {code = code} {i = i} {g = g} {v = v} {h = h} {t = t} {s = s} {aims = aims} closed f around shown width whole left below texts k found top l serving at goal =
    let front = small a7 37 ∷ [] in
    let last = Plain I.Ecall ∷ [] in
    let places = putting whole left ∷ below in
    let field = E.text_field width (as_text shown) in
    let v' = texted field places texts v in
    let x : Base → ℕ = λ b. (f b).machine.registers 10 in
    let y : Base → ℕ = λ b. (f b).machine.registers 11 in
    let r = straight i f v v (λ b. Known g v h t (λ b'. (10, x b') ∷ (11, y b') ∷ (17, 37) ∷ []) b) (front_of front last l) (omega arith) (λ b. (at b).pc)
    (λ b. let o = (at b).holds in let z = zero_is o.body in record {
      body = record { services = o.body.services; registers = o.body.registers; bytes = o.body.bytes; memory = o.body.memory };
      regs = (refl, (refl, (small_is _ 37 z (lit< tt), tt)));
    }) in
    subst (Comes code i f v aims) (sym (shown_text around shown width k s))
    (onward closed r (λ f1 at1.
    let l2 = back_of front last l in
    let calling : Calling _ code (i + 1) f1 (λ b. Done v' (f1 b).machine.memory (x b) (y b)) = record {
      linked = l2;
      pc = λ b. (at1 b).pc;
      answers = λ b.
          let o = (at1 b).holds in
          called code (f1 b) v 37 (x b) (y b) _ _ _ (λ c x0 x1 x2 x3 x4. E.text_served c x0 x1) o.body.services o.regs.1.1.0 o.regs.0 o.regs.1.0 refl refl refl (λ c u. refl)
          ∙ text_answer code v (f1 b).machine.memory width whole left below (as_text shown) texts (x b) (y b) k found top serving.allowed serving.fits;
    } in
    let few : i + 1 < cost code = let n = l2.inside in omega (arith, n) in
    let counts : v'.world.acts ≡ suc v.world.acts = add-one v.world.acts in
    let pauses = call_pauses (i + 1) f1 v v' (λ b. (f1 b).machine.memory) x y few serving.running (λ b. (at1 b).holds.body.services) counts calling in
    let q = call_acts (i + 1) (i + 2) f1 v v' (λ b. (f1 b).machine.memory) x y (λ b. Known g v' h t nothing b) few counts calling
    (λ b. let o = (at1 b).holds.body in record { body = record { services = refl; registers = o.registers; bytes = o.bytes; memory = o.memory }; regs = tt }) in
    let e : i + 1 + 1 ≡ i + 2 = omega arith in
    comes_act (written (with_field field)) k s serving.world pauses
    (λ allowed.
    closed.done q tt _
    (goal field (reached q) (with_act (written (with_field field)) (λ w. refl) (λ w. refl) (at_other_texts texts (at_other_places places (places_next v _ below found serving.places) serving)) allowed)
    (λ b. record { pc = (reached_holds q b).pc ∙ ap (address b) e; holds = (reached_holds q b).holds })))))
