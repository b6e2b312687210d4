-- Texts at places of the frame that holds the variables: they are pushed, and the top text is stored there.
use Rattle.std.proofs.Common.{◌≡◌, ℕ, ◌+◌, ◌-◌, ◌*◌, ◌%◌, ◌^◌, ◌<◌, ◌≤◌, List, [], ◌∷◌, ◌++◌, length, Some, None, Bool, true, false, refl, sym, ap, ◌∙◌, subst, arith}
use Rattle.std.specs.Prelude.{pos, cond, ◌&&◌, nat_le}
use Rattle.std.proofs.lemmas.Bool.{le-leb}
use Rattle.std.proofs.lemmas.List.{append_assoc}
use Rattle.rv_meaning.specs.declared.instr.Instr.{Instr}
use Rattle.rv_meaning.specs.declared.instr.Instr.TheVariants as I
use Rattle.rv_meaning.specs.declared.instr.ImmediateOp.TheVariants as Imm
use Rattle.rv_meaning.specs.Words.{word, sum}
use Rattle.rv_meaning.specs.Memory.{load}
use Rattle.rv_meaning.specs.Machine.{memory_size}
use Rattle.pli_typing.specs.Signatures.{LeafKind, Character, Varying}
use Rattle.pli_meaning.specs.BasicValues.{BasicText}
use Rattle.pli_meaning.specs.Control.{Flow}
use Rattle.pli_serving.specs.Bytes.{bytes_at, with_bytes}
use Rattle.pli_serving.specs.Stored.{kept_bytes}
use Rattle.pli_serving.specs.Finding.{Call}
use Rattle.run_steps.specs.Unlimited as S
use Rattle.pli_serving.specs.ServiceState.{Services, TextEntry}
use Rattle.pli_serving.specs.Answers.{Answer, Done}
use Rattle.pli_serving.specs.Outcomes.{or_bad, bad_unless, pushed}
use Rattle.pli_serving.specs.TextServices as W
use Rattle.pli_coding.specs.Registers.{frame_register, a0, a1, a2, a7, u0, u3}
use Rattle.pli_coding.specs.Assembly.{BaseIn, Plain, Code, size_of}
use Rattle.pli_coding.specs.Instructions.{is_immediate, small, subtract, plus, number, load_word, service}
use Rattle.pli_coding.specs.Frames.{display}
use Rattle.pli_coding.specs.Locating.{address_offset}
use Rattle.pli_coding.specs.Linking.{Links}
use Rattle.run_steps.specs.Engine.{Base, address, call_at}
use Rattle.run_steps.proofs.Linking.{size_append}
use Rattle.run_steps.specs.Items.{Linked, At}
use Rattle.run_steps.proofs.Items.{straight}
use Rattle.run_steps.specs.Bodies.{Ground, Known, Free, reserved_are}
use Rattle.run_steps.proofs.Bodies.{zero_is, frame_is, set_known, lose_known, displaced_by, constant_piece, load_piece}
use Rattle.run_steps.proofs.Jumps.{front_of, back_of}
use Rattle.run_steps.specs.Temporaries.{nothing}
use Rattle.run_steps.specs.Reaching.{Reaches, found_by, register_by}
use Rattle.run_steps.proofs.Reaching.{reach_moved}
use Rattle.run_steps.specs.Calls.{Calling}
use Rattle.run_steps.proofs.Calls.{called, call_done}
use Rattle.pli_headline.proofs.Raising.{small_is}
use Rattle.pli_headline.proofs.Acts.{word_is, word_fits}
use Rattle.pli_headline.proofs.Operators.{valued}
use Rattle.pli_headline.proofs.FormatsRead.{is_data_there}
use Rattle.run_steps.specs.Reach.{Family, Reach, reached, Aims, Comes, Closed}
use Rattle.run_steps.proofs.Reach.{reach_then, reached_holds, onward}

abbrev pub text_mode : (varying : Bool) → ℕ
text_mode false = 0
text_mode true = 1

abbrev pub text_kind_of : (varying : Bool) → (most : ℕ) → LeafKind
text_kind_of false most = Character most
text_kind_of true most = Varying most

-- the offset of a place of the frame that holds the variables
abbrev pub based_offset : Bool → (level place : ℕ) → Code
based_offset q level place = found_by q level ++ address_offset (record { register = register_by q; displacement = pos place })

-- what asks a service about the text at a place of it
abbrev pub kind_asked : (n : ℕ) → (varying : Bool) → (most : ℕ) → Code
kind_asked n varying most = (number a1 most ++ small a2 (text_mode varying) ∷ []) ++ service n

abbrev pub text_asked : Bool → (level n : ℕ) → (varying : Bool) → (most place : ℕ) → Code
text_asked q level n varying most place =
    found_by q level ++ (address_offset (record { register = register_by q; displacement = pos place }) ++ kind_asked n varying most)

-- ---- what service 20 answers

-- the bytes of a variable
abbrev pub text_bytes : (varying : Bool) → (most : ℕ) → ℕ
text_bytes false most = most
text_bytes true most = 2 + most

-- a text stands at a place: behind its length where it varies
abbrev pub TextThere : (varying : Bool) → (most at : ℕ) → (m : List ℕ) → List ℕ → Type 0
TextThere false most at m text = bytes_at most at m ≡ text
TextThere true most at m text = (load 2 m at ≤ most) × (bytes_at (load 2 m at) (at + 2) m ≡ text)

pub read_answer : (varying : Bool) (code : List Instr) (v : Services) (m : List ℕ) (at most : ℕ) (text : List ℕ) → most ≤ 1024 → 4 * length code ≤ at → at + text_bytes varying most ≤ memory_size → TextThere varying most at m text → W.push_served (call_at code v m) at most (text_mode varying) ≡ Done (pushed (TextEntry text) v) m at most
read_answer false code v m at most text few low high there =
    let c = call_at code v m in
    ap (λ u. or_bad (cond u (Some (Character most)) None) (W.text_pushed c at most)) (le-leb most 1024 few)
    ∙ ap (λ u. bad_unless (u && true) (Done (pushed (TextEntry (bytes_at most at m)) v) m at most)) (is_data_there c.layout at most low high)
    ∙ ap (λ u. Done (pushed (TextEntry u) v) m at most) there
read_answer true code v m at most text few low high there =
    let c = call_at code v m in
    let n = load 2 m at in
    let answer = Done (pushed (TextEntry (bytes_at n (at + 2) m)) v) m at most in
    ap (λ u. or_bad (cond u (Some (Varying most)) None) (W.text_pushed c at most)) (le-leb most 1024 few)
    ∙ ap (λ u. bad_unless (u && nat_le n most) answer) (is_data_there c.layout at (2 + most) low high)
    ∙ ap (λ u. bad_unless u answer) (le-leb n most there.0)
    ∙ ap (λ u. Done (pushed (TextEntry u) v) m at most) there.1

-- ---- what service 27 answers

pub kept_answer : (varying : Bool) (code : List Instr) (v : Services) (m : List ℕ) (at most : ℕ) (text : List ℕ) → most ≤ 1024 → 4 * length code ≤ at → at + text_bytes varying most ≤ memory_size → W.store_served (call_at code (pushed (TextEntry text) v) m) at most (text_mode varying) ≡ Done v (with_bytes (kept_bytes (text_kind_of varying most) (BasicText text)) at m) (length text) most
kept_answer false code v m at most text few low high =
    let c = call_at code (pushed (TextEntry text) v) m in
    ap (λ u. or_bad (cond u (Some (Character most)) None) (W.text_stored c at most)) (le-leb most 1024 few)
    ∙ ap (λ u. bad_unless u (Done v (with_bytes (kept_bytes (Character most) (BasicText text)) at m) (length text) most)) (is_data_there c.layout at most low high)
kept_answer true code v m at most text few low high =
    let c = call_at code (pushed (TextEntry text) v) m in
    ap (λ u. or_bad (cond u (Some (Varying most)) None) (W.text_stored c at most)) (le-leb most 1024 few)
    ∙ ap (λ u. bad_unless u (Done v (with_bytes (kept_bytes (Varying most) (BasicText text)) at m) (length text) most)) (is_data_there c.layout at (2 + most) low high)

-- ---- pieces

pub offset_is : (x base frame : ℕ) → x ≡ base + frame → base + frame < 2 ^ 32 → (x + (2 ^ 32 - base)) % 2 ^ 32 ≡ frame
offset_is x base frame e h = omega (arith, e, h)

summed : (x y z : ℕ) → y ≡ z → x + z < 2 ^ 32 → sum x y ≡ x + z
summed x y z e h = omega (arith, e, h)

-- the offset of that frame comes into a0
base_piece : {links : Links} {code : List Instr} {i : ℕ} {g : Ground} {v : Services} {h t : ℕ → ℕ} (q : Bool) (level : ℕ) (c : ℕ) (f : Family) (base : ℕ) → Reaches q level g base → base < memory_size → Linked links code i (found_by q level ++ (BaseIn u0 ∷ subtract a0 (register_by q) u0 ∷ [])) → ((b : Base) → At b i (Known g v h t nothing b) (f b)) → Reach code c f v (c + size_of (found_by q level ++ (BaseIn u0 ∷ subtract a0 (register_by q) u0 ∷ []))) v (λ b w. At b (i + size_of (found_by q level ++ (BaseIn u0 ∷ subtract a0 (register_by q) u0 ∷ []))) (Known g v h t (valued base) b) w)
base_piece {g = g} {v = v} {h = h} {t = t} true level c f base reaches within l at =
    straight c f v v (λ b. Known g v h t (valued base) b) l (omega arith) (λ b. (at b).pc)
    (λ b. let o = (at b).holds in let valid = b.valid.1 in (
      refl,
      record {
        body = record { services = o.body.services; registers = o.body.registers; bytes = o.body.bytes; memory = o.body.memory };
        regs = (offset_is _ b.at base (frame_is o.body ∙ ap (λ u. b.at + u) reaches) (omega (arith, within, valid)), tt);
      },
    ))
base_piece {i = i} {g = g} {v = v} {h = h} {t = t} false level c f base reaches within l at =
    let word' = load_word u3 frame_register (display level) in
    let first = word' ++ [] in
    let size' = size_append word' [] in
    let second = BaseIn u0 ∷ subtract a0 u3 u0 ∷ [] in
    let size = size_append first second in
    let r1 = reach_moved {c'' = c + size_of first} {i'' = i + size_of first} (omega (arith, size')) (omega (arith, size')) (load_piece c f u3 (display level) (g.frame + (144 + 4 * level)) (λ b. b.at + base) reaches.0 (λ b m k. reaches.1 t b m k)
    (record { reserved_stay = λ y u. refl; known_stay = λ b y u k. k; set = λ y u. refl })
    (record { reserved_stay = λ y u. refl; known_stay = λ b y u k. k; set = λ y u. refl })
    (front_of word' [] (front_of first second l)) at) in
    let r2 = straight (c + size_of first) (reached r1) v v (λ b. Known g v h t (valued base) b) (back_of first second l) (omega arith) (λ b. (reached_holds r1 b).pc)
    (λ b. let o = (reached_holds r1 b).holds in let valid = b.valid.1 in (
      refl,
      record {
        body = record { services = o.body.services; registers = o.body.registers; bytes = o.body.bytes; memory = o.body.memory };
        regs = (offset_is _ b.at base o.regs.0 (omega (arith, within, valid)), tt);
      },
    )) in
    reach_moved (omega (arith, size)) (omega (arith, size)) (reach_then r1 r2)

-- that of a place behind an offset in a0
pub behind_piece : {X : Type 0} {links : Links} {code : List Instr} {i : ℕ} {g : Ground} {v : Services} {h t : ℕ → ℕ} {aims : Aims X} {flow : Flow X} (closed : Closed code aims) (f : Family) (base place : ℕ) → base + place < memory_size → Linked links code i (plus a0 a0 (pos place)) → ((b : Base) → At b i (Known g v h t (valued base) b) (f b)) → ((f' : Family) → ((b : Base) → At b (i + size_of (plus a0 a0 (pos place))) (Known g v h t (valued (base + place)) b) (f' b)) → Comes code (i + size_of (plus a0 a0 (pos place))) f' v aims flow) → Comes code i f v aims flow
behind_piece {i = i} {g = g} {v = v} {h = h} {t = t} closed f base place inside l at next' =
    let few : place < 2 ^ 31 = omega (arith, inside) in
    let free_a0 : Free nothing 10 = record { reserved_stay = λ y u. refl; known_stay = λ b y u k. k; set = λ y u. refl } in
    let free_far : Free (valued base) 31 = record { reserved_stay = λ y u. refl; known_stay = λ b y u k. k; set = λ y u. refl } in
    onward closed (displaced_by (is_immediate (pos place)) i f (λ s d. I.Immediate Imm.Add a0 s d) a0 (pos place) (λ b. base) (λ b. Known g v h t (valued base) b) (λ b. Known g v h t (valued (base + place)) b) (word_fits place few) (λ b. omega (arith, inside)) (λ y u. refl) (λ b. (at b).holds.regs.0) (omega arith)
    (record {
      does = λ b j w s d o e. set_known w 10 (sum (w.machine.registers s.index) (word d)) _ (λ b'. base + place) free_a0 (e ∙ summed base (word (pos place)) place (word_is place few) (omega (arith, inside))) (record { body = o.body; regs = tt });
      lost = λ b w u j o. lose_known w 31 u j free_far o;
    })
    l at)
    next'

-- that of a place of the frame
pub offset_piece : {X : Type 0} {links : Links} {code : List Instr} {i : ℕ} {g : Ground} {v : Services} {h t : ℕ → ℕ} {aims : Aims X} {flow : Flow X} (q : Bool) (level : ℕ) (closed : Closed code aims) (f : Family) (base place : ℕ) → Reaches q level g base → base + place < memory_size → Linked links code i (based_offset q level place) → ((b : Base) → At b i (Known g v h t nothing b) (f b)) → ((f' : Family) → ((b : Base) → At b (i + size_of (based_offset q level place)) (Known g v h t (valued (base + place)) b) (f' b)) → Comes code (i + size_of (based_offset q level place)) f' v aims flow) → Comes code i f v aims flow
offset_piece {links = links} {code = code} {i = i} {g = g} {v = v} {h = h} {t = t} {aims = aims} {flow = flow} q level closed f base place reaches inside l at next' =
    let front = found_by q level ++ (BaseIn u0 ∷ subtract a0 (register_by q) u0 ∷ []) in
    let last = plus a0 a0 (pos place) in
    let nested = append_assoc (found_by q level) (BaseIn u0 ∷ subtract a0 (register_by q) u0 ∷ []) last in
    let l' = subst (Linked links code i) (sym nested) l in
    let e1 = size_append front last in
    let e2 = ap size_of nested in
    let there : i + size_of front + size_of last ≡ i + size_of (based_offset q level place) = omega (arith, e1, e2) in
    onward closed (base_piece q level i f base reaches (omega (arith, inside)) (front_of front last l') at)
    (λ f1 at1.
    behind_piece closed f1 base place inside (back_of front last l') at1
    (λ f2 at2.
    subst (λ n. Comes code n f2 v aims flow) (sym there)
    (next' f2 (λ b. record { pc = (at2 b).pc ∙ ap (address b) there; holds = (at2 b).holds }))))

mode_small : (varying : Bool) → text_mode varying < 2 ^ 32
mode_small false = omega arith
mode_small true = omega arith

-- a service is asked about the text at an offset in a0, which may change memory
pub kind_piece : {R : Type 0} {links : Links} {code : List Instr} {i : ℕ} {g : Ground} (g' : Ground) {v : Services} (v' : Services) {h t : ℕ → ℕ} {aims : Aims R} {flow : Flow R} (closed : Closed code aims) (f : Family) (n : ℕ) (G : Call → ℕ → ℕ → ℕ → ℕ → ℕ → Answer) (varying : Bool) (most o : ℕ) (change : List ℕ → List ℕ) (x y : ℕ) → n < 2 ^ 31 → ((c : Call) (r : ℕ → ℕ) → S.served n c r ≡ G c (r 10) (r 11) (r 12) (r 13) (r 14)) → v.world.acts ≤ v'.world.acts → most ≤ 1024 → ((b : Base) (h' : ℕ → ℕ) → reserved_are b g h' ≡ reserved_are b g' h') → ((b : Base) (m : List ℕ) (x3 x4 : ℕ) → g.memory t b m → G (call_at code v m) o most (text_mode varying) x3 x4 ≡ Done v' (change m) x y) → ((b : Base) (m : List ℕ) → length m ≡ memory_size → g.memory t b m → (length (change m) ≡ memory_size) × g'.memory t b (change m)) → Linked links code i (kind_asked n varying most) → ((b : Base) → At b i (Known g v h t (valued o) b) (f b)) → ((f' : Family) → ((b : Base) → At b (i + size_of (kind_asked n varying most)) (Known g' v' h t nothing b) (f' b)) → Comes code (i + size_of (kind_asked n varying most)) f' v' aims flow) → Comes code i f v aims flow
kind_piece {links = links} {code = code} {i = i} {g = g} g' {v = v} v' {h = h} {t = t} {aims = aims} {flow = flow} closed f n G varying most o change x y fits is more short same answers changed l at next' =
    let mode = text_mode varying in
    let second = number a1 most in
    let third = small a2 mode ∷ small a7 n ∷ [] in
    let last = Plain I.Ecall ∷ [] in
    let nested = append_assoc second (small a2 mode ∷ []) (service n) in
    let l1 = subst (Linked links code i) nested l in
    let l2 = back_of second (third ++ last) l1 in
    let e2 = size_append second (third ++ last) in
    let e3 = ap size_of nested in
    let few : most < 2 ^ 31 = omega (arith, short) in
    onward closed (constant_piece i f a1 (pos most) (word_fits most few) (record { reserved_stay = λ z u. refl; known_stay = λ b z u k. k; set = λ z u. refl }) (front_of second (third ++ last) l1) at)
    (λ f2 at2.
    let r3 = straight (i + size_of second) f2 v v (λ b. Known g v h t (λ b'. (10, o) ∷ (11, most) ∷ (12, mode) ∷ (17, n) ∷ []) b) (front_of third last l2) (omega arith) (λ b. (at2 b).pc)
    (λ b. let k = (at2 b).holds in let z = zero_is k.body in record {
      body = record { services = k.body.services; registers = k.body.registers; bytes = k.body.bytes; memory = k.body.memory };
      regs = (k.regs.1.0, (k.regs.0 ∙ word_is most few, (small_is _ mode z (mode_small varying), (small_is _ n z (omega (arith, fits)), tt))));
    }) in
    onward closed r3 (λ f3 at3.
    let calling : Calling _ code (i + size_of second + 2) f3 (λ b. Done v' (change (f3 b).machine.memory) x y) = record {
      linked = back_of third last l2;
      pc = λ b. (at3 b).pc;
      answers = λ b.
          let k = (at3 b).holds in
          called code (f3 b) v n o most mode _ _ G k.body.services k.regs.1.1.1.0 k.regs.0 k.regs.1.0 k.regs.1.1.0 refl refl is
          ∙ answers b (f3 b).machine.memory _ _ k.body.memory;
    } in
    let done = call_done (i + size_of second + 2) f3 v v' (λ b. change (f3 b).machine.memory) (λ b. x) (λ b. y) (λ b. Known g' v' h t nothing b) more calling
    (λ b. let p = (at3 b).holds.body in let c = changed b (f3 b).machine.memory p.bytes p.memory in record { body = record { services = refl; registers = p.registers ∙ same b h; bytes = c.0; memory = c.1 }; regs = tt }) in
    onward closed done (λ f4 at4.
    let there : i + size_of second + 2 + 1 ≡ i + size_of (kind_asked n varying most) = omega (arith, e2, e3) in
    subst (λ u. Comes code u f4 v' aims flow) (sym there)
    (next' f4 (λ b. record { pc = (at4 b).pc ∙ ap (address b) there; holds = (at4 b).holds })))))

-- about the text at a place of the frame
pub asked_piece : {R : Type 0} {links : Links} {code : List Instr} {i : ℕ} {g : Ground} (g' : Ground) {v : Services} (v' : Services) {h t : ℕ → ℕ} {aims : Aims R} {flow : Flow R} (q : Bool) (level : ℕ) (closed : Closed code aims) (f : Family) (n : ℕ) (G : Call → ℕ → ℕ → ℕ → ℕ → ℕ → Answer) (varying : Bool) (most base place : ℕ) (change : List ℕ → List ℕ) (x y : ℕ) → n < 2 ^ 31 → ((c : Call) (r : ℕ → ℕ) → S.served n c r ≡ G c (r 10) (r 11) (r 12) (r 13) (r 14)) → v.world.acts ≤ v'.world.acts → most ≤ 1024 → Reaches q level g base → base + place < memory_size → ((b : Base) (h' : ℕ → ℕ) → reserved_are b g h' ≡ reserved_are b g' h') → ((b : Base) (m : List ℕ) (x3 x4 : ℕ) → g.memory t b m → G (call_at code v m) (base + place) most (text_mode varying) x3 x4 ≡ Done v' (change m) x y) → ((b : Base) (m : List ℕ) → length m ≡ memory_size → g.memory t b m → (length (change m) ≡ memory_size) × g'.memory t b (change m)) → Linked links code i (text_asked q level n varying most place) → ((b : Base) → At b i (Known g v h t nothing b) (f b)) → ((f' : Family) → ((b : Base) → At b (i + size_of (text_asked q level n varying most place)) (Known g' v' h t nothing b) (f' b)) → Comes code (i + size_of (text_asked q level n varying most place)) f' v' aims flow) → Comes code i f v aims flow
asked_piece {links = links} {code = code} {i = i} g' v' {aims = aims} {flow = flow} q level closed f n G varying most base place change x y fits is more short reaches inside same answers changed l at next' =
    let first = based_offset q level place in
    let rest = kind_asked n varying most in
    let joined = append_assoc (found_by q level) (address_offset (record { register = register_by q; displacement = pos place })) rest in
    let l0 = subst (Linked links code i) (sym joined) l in
    let e0 = ap size_of joined in
    let e1 = size_append first rest in
    let there : i + size_of first + size_of rest ≡ i + size_of (text_asked q level n varying most place) = omega (arith, e0, e1) in
    offset_piece q level closed f base place reaches inside (front_of first rest l0) at
    (λ f1 at1.
    kind_piece g' v' closed f1 n G varying most (base + place) change x y fits is more short same answers changed (back_of first rest l0) at1
    (λ f2 at2.
    subst (λ u. Comes code u f2 v' aims flow) (sym there)
    (next' f2 (λ b. record { pc = (at2 b).pc ∙ ap (address b) there; holds = (at2 b).holds }))))
