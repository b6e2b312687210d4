-- One text is stored in all elements of an array: the text waits on the stack of texts, the record of the array is written, and service 41 is
-- called, which drops the text.
use Rattle.std.proofs.Common.{◌≡◌, ℕ, ◌+◌, ◌-◌, ◌*◌, ◌^◌, ◌<◌, ◌≤◌, List, [], ◌∷◌, ◌++◌, length, Bool, refl, sym, ap, ◌∙◌, subst, arith}
use Rattle.std.specs.Prelude.{pos}
use Rattle.rv_meaning.specs.declared.instr.Instr.{Instr}
use Rattle.rv_meaning.specs.declared.instr.Instr.TheVariants as I
use Rattle.rv_meaning.specs.Memory.{load}
use Rattle.rv_meaning.specs.Machine.{memory_size}
use Rattle.pli_meaning.specs.Control.{Flow}
use Rattle.pli_serving.specs.ServiceState.{Services, TextEntry}
use Rattle.pli_serving.specs.Outcomes.{pushed}
use Rattle.pli_serving.specs.Answers.{Done}
use Rattle.pli_serving.specs.AggregateServices as W
use Rattle.pli_coding.specs.Registers.{a1, a7}
use Rattle.pli_coding.specs.Assembly.{Plain, size_of}
use Rattle.pli_coding.specs.Instructions.{number, small, service}
use Rattle.pli_coding.specs.Environments.{Taken}
use Rattle.pli_coding.specs.Linking.{Links}
use Rattle.run_steps.specs.Engine.{Base, address, call_at}
use Rattle.run_steps.proofs.Linking.{size_append}
use Rattle.run_steps.specs.Items.{Linked, At}
use Rattle.run_steps.proofs.Items.{straight}
use Rattle.run_steps.proofs.Jumps.{front_of, back_of}
use Rattle.pli_headline.proofs.Acts.{word_is, word_fits}
use Rattle.pli_headline.proofs.Raising.{small_is}
use Rattle.run_steps.specs.Bodies.{Ground, Known, PlaceFrom, reserved_are}
use Rattle.run_steps.proofs.Bodies.{zero_is, constant_piece}
use Rattle.run_steps.specs.Temporaries.{Temporaries, Stays, nothing}
use Rattle.run_steps.specs.Calls.{Calling}
use Rattle.run_steps.proofs.Calls.{called, call_done}
use Rattle.run_steps.specs.Reaching.{Reaches}
use Rattle.pli_headline.proofs.ElementsCode.{record_by, given_by}
use Rattle.pli_headline.proofs.ElementsPieces.{recorded, record_stays, record_piece, given_piece}
use Rattle.pli_headline.proofs.TextsCode.{text_filling}
use Rattle.run_steps.specs.Reach.{Family, Aims, Comes, Closed}
use Rattle.run_steps.proofs.Reach.{onward}

pub text_filling_piece : {R : Type 0} {links : Links} {code : List Instr} {i : ℕ} {g : Ground} (g' : Ground) {v : Services} {h t : ℕ → ℕ} {aims : Aims R} {flow : Flow R} (closed : Closed code aims) (temps : Temporaries g) (f : Family) (taken : Taken) (text : List ℕ) (q : Bool) (level base place n : ℕ) (change : List ℕ → List ℕ) → taken.words + 4 ≤ g.words → n < 2 ^ 24 → Reaches q level g base → PlaceFrom base (pos 36) (base + 36) → base + place < 2 ^ 24 → PlaceFrom g.frame (pos 36) (g.frame + 36) → ((t' : ℕ → ℕ) (b : Base) (m : List ℕ) → g.memory t' b m → load 4 m (base + 36) ≡ base) → ((t' : ℕ → ℕ) (b : Base) (m : List ℕ) → g.memory t' b m → load 4 m (g.frame + 36) ≡ g.frame) → ((b : Base) (h' : ℕ → ℕ) → reserved_are b g h' ≡ reserved_are b g' h') → ((b : Base) (m : List ℕ) (x : ℕ) → length m ≡ memory_size → g.memory (recorded t taken.words (base + place) n) b m → W.scalar_served (call_at code (pushed (TextEntry text) v) m) (g.frame - 4 * (taken.words + 4)) 0 x ≡ Done v (change m) (g.frame - 4 * (taken.words + 4)) 0) → ((b : Base) (m : List ℕ) → length m ≡ memory_size → g.memory (recorded t taken.words (base + place) n) b m → (length (change m) ≡ memory_size) × g'.memory (recorded t taken.words (base + place) n) b (change m)) → Linked links code i (text_filling taken q level place n) → ((b : Base) → At b i (Known g (pushed (TextEntry text) v) h t nothing b) (f b)) → ((f' : Family) → Stays taken h t h (recorded t taken.words (base + place) n) → ((b : Base) → At b (i + size_of (text_filling taken q level place n)) (Known g' v h (recorded t taken.words (base + place) n) nothing b) (f' b)) → Comes code (i + size_of (text_filling taken q level place n)) f' v aims flow) → Comes code i f (pushed (TextEntry text) v) aims flow
text_filling_piece {code = code} {i = i} {g = g} g' {v = v} {h = h} {t = t} {aims = aims} {flow = flow} closed temps f taken text q level base place n change room few reaches at36 near own36 own mine same answers changed l at next' =
    let w = pushed (TextEntry text) v in
    let t2 = recorded t taken.words (base + place) n in
    let r = g.frame - 4 * (taken.words + 4) in
    let p1 = record_by taken q level place n in
    let p2 = given_by taken in
    let p3 = number a1 0 in
    let p4 = small a7 41 ∷ [] in
    let p5 = Plain I.Ecall ∷ [] in
    let rest1 = p2 ++ (p3 ++ service 41) in
    let rest2 = p3 ++ service 41 in
    let l1 = back_of p1 rest1 l in
    let l2 = back_of p2 rest2 l1 in
    let l3 = back_of p3 (service 41) l2 in
    let l4 = back_of p4 p5 l3 in
    let e1 = size_append p1 rest1 in
    let e2 = size_append p2 rest2 in
    let e3 = size_append p3 (service 41) in
    let there : i + size_of p1 + size_of p2 + size_of p3 + 1 + 1 ≡ i + size_of (text_filling taken q level place n) = omega (arith, e1, e2, e3) in
    record_piece closed temps f taken q level base place n room few reaches at36 near own (front_of p1 rest1 l) at (λ f1 at1.
    given_piece closed f1 taken room own36 mine (front_of p2 rest2 l1) at1 (λ f2 at2.
    onward closed (constant_piece (i + size_of p1 + size_of p2) f2 a1 (pos 0) (word_fits 0 (omega arith)) (record { reserved_stay = λ y u. refl; known_stay = λ b y u o. o; set = λ y u. refl }) (front_of p3 (service 41) l2) at2) (λ f3 at3.
    let start = i + size_of p1 + size_of p2 + size_of p3 in
    let asked = straight start f3 w w (λ b. Known g w h t2 (λ b'. (10, r) ∷ (11, 0) ∷ (17, 41) ∷ []) b) (front_of p4 p5 l3) (omega arith) (λ b. (at3 b).pc)
    (λ b. let o = (at3 b).holds in let z = zero_is o.body in record {
      body = record { services = o.body.services; registers = o.body.registers; bytes = o.body.bytes; memory = o.body.memory };
      regs = (o.regs.1.0, (o.regs.0 ∙ word_is 0 (omega arith), (small_is _ 41 z (omega arith), tt)));
    }) in
    onward closed asked (λ f4 at4.
    let calling : Calling _ code (start + 1) f4 (λ b. Done v (change (f4 b).machine.memory) r 0) = record {
      linked = l4;
      pc = λ b. (at4 b).pc;
      answers = λ b.
          let o = (at4 b).holds in
          called code (f4 b) w 41 r 0 _ _ _ (λ c x0 x1 x2 x3 x4. W.scalar_served c x0 x1 x2) o.body.services o.regs.1.1.0 o.regs.0 o.regs.1.0 refl refl refl (λ c u. refl)
          ∙ answers b (f4 b).machine.memory _ o.body.bytes o.body.memory;
    } in
    let done = call_done (start + 1) f4 w v (λ b. change (f4 b).machine.memory) (λ b. r) (λ b. 0) (λ b. Known g' v h t2 nothing b) (omega arith) calling
    (λ b. let o = (at4 b).holds.body in let c = changed b (f4 b).machine.memory o.bytes o.memory in record { body = record { services = refl; registers = o.registers ∙ same b h; bytes = c.0; memory = c.1 }; regs = tt }) in
    onward closed done (λ f5 at5.
    subst (λ u. Comes code u f5 v aims flow) (sym there)
    (next' f5 (record_stays taken h t (base + place) n) (λ b. record { pc = (at5 b).pc ∙ ap (address b) there; holds = (at5 b).holds })))))))
