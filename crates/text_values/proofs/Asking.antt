-- Calls of services about texts in memory: where they stand, and how long they may be, comes into registers first.
use Rattle.std.proofs.Common.{◌≡◌, ℕ, ◌+◌, ◌*◌, ◌^◌, ◌<◌, ◌≤◌, List, [], ◌∷◌, ◌++◌, length, Bool, true, false}
use Rattle.std.proofs.Common.{refl, sym, ap, ◌∙◌, subst, arith}
use Rattle.std.specs.Prelude.{pos}
use Rattle.std.proofs.lemmas.List.{append_assoc}
use Rattle.rv_meaning.specs.declared.instr.ImmediateOp.TheVariants as Imm
use Rattle.rv_meaning.specs.declared.instr.Instr.{Instr}
use Rattle.rv_meaning.specs.declared.instr.Instr.TheVariants as I
use Rattle.rv_meaning.specs.Machine.{memory_size}
use Rattle.rv_meaning.specs.Words.{sum, word}
use Rattle.pli_serving.specs.Answers.{Done}
use Rattle.pli_serving.specs.Finding.{Call}
use Rattle.pli_serving.specs.ServiceState.{Services}
use Rattle.pli_coding.specs.Assembly.{BaseIn, Plain, size_of}
use Rattle.pli_coding.specs.Frames.{display}
use Rattle.pli_coding.specs.Instructions.{is_immediate, load_word, number, plus, service, small, subtract}
use Rattle.pli_coding.specs.Linking.{Links}
use Rattle.pli_coding.specs.Registers.{a0, a1, a2, a7, frame_register, u0, u3}
use Rattle.run_steps.specs.Bodies.{Free, Ground, Known, reserved_are}
use Rattle.run_steps.proofs.Bodies.{constant_piece, displaced_by, frame_is, load_piece, lose_known, set_known, zero_is}
use Rattle.run_steps.specs.Calls.{Calling}
use Rattle.run_steps.proofs.Calls.{call_done, called}
use Rattle.run_steps.specs.Engine.{Base, call_at}
use Rattle.run_steps.specs.Items.{At, Linked}
use Rattle.run_steps.proofs.Items.{straight}
use Rattle.run_steps.proofs.Jumps.{back_of, front_of}
use Rattle.run_steps.proofs.Linking.{size_append}
use Rattle.run_steps.specs.Reach.{Family, Reach, reached}
use Rattle.run_steps.proofs.Reach.{reach_then, reached_holds}
use Rattle.run_steps.specs.Reaching.{Reaches, found_by, register_by}
use Rattle.run_steps.proofs.Reaching.{reach_moved}
use Rattle.run_steps.specs.Temporaries.{nothing}
use Rattle.run_steps.specs.Unlimited as V
use Rattle.block_runs.proofs.BlockEntries.{small_is, word_fits, word_is}
use Rattle.pli_headline.proofs.TextPlaces.{based_offset, kind_asked, offset_is, text_mode}
use Rattle.expression_runs.proofs.Words.{valued}
use Rattle.text_runs.proofs.TextCalls.{Asking, three, two}

-- ---- a service that reads memory, or changes it

-- from services on one ground to others on another, with what becomes of memory
pub record IsTold (code : List Instr) (v v' : Services) (g g' : Ground) (h t : ℕ → ℕ) (change : List ℕ → List ℕ)
    (a : Asking) : Type 0
  where
    pub small' : a.number < 2 ^ 31
    pub serves : (c : Call) (r : ℕ → ℕ) → V.served a.number c r ≡ a.answer c (r 10) (r 11) (r 12)
    pub answers :
        (b : Base) (m : List ℕ) → length m ≡ memory_size → g.memory t b m →
        a.answer (call_at code v m) (a.x b) (a.y b) (a.z b) ≡ Done v' (change m) (a.first b) (a.second b)
    pub more : v.world.acts ≤ v'.world.acts
    pub reserved : (b : Base) → reserved_are b g h ≡ reserved_are b g' h
    pub changed :
        (b : Base) (m : List ℕ) → length m ≡ memory_size → g.memory t b m →
        (length (change m) ≡ memory_size) × g'.memory t b (change m)

abbrev asked : Asking → Base → List (ℕ × ℕ)
asked a b = (10, a.x b) ∷ (11, a.y b) ∷ (12, a.z b) ∷ (17, a.number) ∷ []

pub asks_there :
    {links : Links} {code : List Instr} {i : ℕ} {g g' : Ground} {v v' : Services} {h t : ℕ → ℕ} (a : Asking)
    (change : List ℕ → List ℕ) (c : ℕ) (f : Family) → IsTold code v v' g g' h t change a →
    Linked links code i (service a.number) → ((b : Base) → At b i (Known g v h t (three a.x a.y a.z) b) (f b)) →
    Reach code c f v (c + 2) v' (λ b y. At b (i + 2) (Known g' v' h t (two a.first a.second) b) y)
asks_there {links} {code} {i} {g} {g'} {v} {v'} {h} {t} a change c f is l at =
    let fits = is.small' in
    let front = small a7 a.number ∷ [] in
    let last = Plain I.Ecall ∷ [] in
    let r = straight c f v v (λ b. Known g v h t (asked a) b) (front_of front last l) (omega arith) (λ b. (at b).pc)
    (λ b. let o = (at b).holds in record {
      body = record {
        services = o.body.services;
        registers = o.body.registers;
        bytes = o.body.bytes;
        memory = o.body.memory;
      };
      regs = (
        o.regs.0,
        (o.regs.1.0, (o.regs.1.1.0, (small_is _ a.number (zero_is o.body) (omega (arith, fits)), tt))),
      );
    }) in
    let f' = reached r in
    let calling : Calling links code (i + 1) f' (λ b. Done v' (change (f' b).machine.memory) (a.first b) (a.second b)) =
    record {
      linked = back_of front last l;
      pc = λ b. (reached_holds r b).pc;
      answers = λ b.
          let o = (reached_holds r b).holds in
          called code (f' b) v a.number (a.x b) (a.y b) (a.z b) _ _ (λ q x0 x1 x2 x3 x4. a.answer q x0 x1 x2)
          o.body.services o.regs.1.1.1.0 o.regs.0 o.regs.1.0 o.regs.1.1.0 refl refl is.serves
          ∙ is.answers b (f' b).machine.memory o.body.bytes o.body.memory;
    } in
    let q = call_done (c + 1) f' v v' (λ b. change (f' b).machine.memory) a.first a.second
    (λ b. Known g' v' h t (two a.first a.second) b) is.more calling
    (λ b.
    let o = (reached_holds r b).holds.body in
    let new = is.changed b (f' b).machine.memory o.bytes o.memory in
    record {
      body = record {
        services = refl;
        registers = o.registers ∙ is.reserved b;
        bytes = new.0;
        memory = new.1;
      };
      regs = (refl, (refl, tt));
    }) in
    reach_moved (omega arith) (omega arith) (reach_then r q)

-- ---- the offset of a place of a frame, in a0

summed : (x y z : ℕ) → y ≡ z → x + z < 2 ^ 32 → sum x y ≡ x + z
summed x y z e h = omega (arith, e, h)

base_reach :
    {links : Links} {code : List Instr} {i : ℕ} {g : Ground} {v : Services} {h t : ℕ → ℕ} (q : Bool) (level c : ℕ)
    (f : Family) (base : ℕ) → Reaches q level g base → base < memory_size →
    Linked links code i (found_by q level ++ (BaseIn u0 ∷ subtract a0 (register_by q) u0 ∷ [])) →
    ((b : Base) → At b i (Known g v h t nothing b) (f b)) →
    Reach code c f v (c + size_of (found_by q level ++ (BaseIn u0 ∷ subtract a0 (register_by q) u0 ∷ []))) v
    (λ b y. At b (i + size_of (found_by q level ++ (BaseIn u0 ∷ subtract a0 (register_by q) u0 ∷ [])))
    (Known g v h t (valued base) b) y)
base_reach {g = g} {v} {h} {t} true level c f base reaches within l at =
    straight c f v v (λ b. Known g v h t (valued base) b) l (omega arith) (λ b. (at b).pc)
    (λ b. let o = (at b).holds in let valid = b.valid.1 in (
      refl,
      record {
        body = record {
          services = o.body.services;
          registers = o.body.registers;
          bytes = o.body.bytes;
          memory = o.body.memory;
        };
        regs = (
          offset_is _ b.at base (frame_is o.body ∙ ap (λ u. b.at + u) reaches) (omega (arith, within, valid)),
          tt,
        );
      },
    ))
base_reach {i = i} {g} {v} {h} {t} false level c f base reaches within l at =
    let word' = load_word u3 frame_register (display level) in
    let first = word' ++ [] in
    let size' = size_append word' [] in
    let second = BaseIn u0 ∷ subtract a0 u3 u0 ∷ [] in
    let size = size_append first second in
    let r1 = reach_moved {c'' = c + size_of first} {i'' = i + size_of first} (omega (arith, size'))
    (omega (arith, size'))
    (load_piece c f u3 (display level) (g.frame + (144 + 4 * level)) (λ b. b.at + base) reaches.0
    (λ b m k. reaches.1 t b m k)
    (record { reserved_stay = λ y u. refl; known_stay = λ b y u k. k; set = λ y u. refl })
    (record { reserved_stay = λ y u. refl; known_stay = λ b y u k. k; set = λ y u. refl })
    (front_of word' [] (front_of first second l)) at) in
    let r2 = straight (c + size_of first) (reached r1) v v (λ b. Known g v h t (valued base) b)
    (back_of first second l) (omega arith) (λ b. (reached_holds r1 b).pc)
    (λ b. let o = (reached_holds r1 b).holds in let valid = b.valid.1 in (
      refl,
      record {
        body = record {
          services = o.body.services;
          registers = o.body.registers;
          bytes = o.body.bytes;
          memory = o.body.memory;
        };
        regs = (offset_is _ b.at base o.regs.0 (omega (arith, within, valid)), tt);
      },
    )) in
    reach_moved (omega (arith, size)) (omega (arith, size)) (reach_then r1 r2)

behind_reach :
    {links : Links} {code : List Instr} {i : ℕ} {g : Ground} {v : Services} {h t : ℕ → ℕ} (c : ℕ) (f : Family)
    (base place : ℕ) → base + place < memory_size → Linked links code i (plus a0 a0 (pos place)) →
    ((b : Base) → At b i (Known g v h t (valued base) b) (f b)) →
    Reach code c f v (c + size_of (plus a0 a0 (pos place))) v
    (λ b y. At b (i + size_of (plus a0 a0 (pos place))) (Known g v h t (valued (base + place)) b) y)
behind_reach {i = i} {g} {v} {h} {t} c f base place inside l at =
    let few : place < 2 ^ 31 = omega (arith, inside) in
    let free : Free nothing 10 = record { reserved_stay = λ y u. refl; known_stay = λ b y u k. k; set = λ y u. refl } in
    let far : Free (valued base) 31 = record {
      reserved_stay = λ y u. refl;
      known_stay = λ b y u k. k;
      set = λ y u. refl;
    } in
    displaced_by (is_immediate (pos place)) c f (λ s d. I.Immediate Imm.Add a0 s d) a0 (pos place) (λ b. base)
    (λ b. Known g v h t (valued base) b) (λ b. Known g v h t (valued (base + place)) b) (word_fits place few)
    (λ b. omega (arith, inside)) (λ y u. refl) (λ b. (at b).holds.regs.0) (omega arith)
    (record {
      does = λ b j w s d o e.
          set_known w 10 (sum (w.machine.registers s.index) (word d)) _ (λ b'. base + place) free
          (e ∙ summed base (word (pos place)) place (word_is place few) (omega (arith, inside)))
          (record { body = o.body; regs = tt });
      lost = λ b w u j o. lose_known w 31 u j far o;
    })
    l at

pub offset_reach :
    {links : Links} {code : List Instr} {i : ℕ} {g : Ground} {v : Services} {h t : ℕ → ℕ} (q : Bool) (level c : ℕ)
    (f : Family) (base place : ℕ) → Reaches q level g base → base + place < memory_size →
    Linked links code i (based_offset q level place) → ((b : Base) → At b i (Known g v h t nothing b) (f b)) →
    Reach code c f v (c + size_of (based_offset q level place)) v
    (λ b y. At b (i + size_of (based_offset q level place)) (Known g v h t (valued (base + place)) b) y)
offset_reach {links} {code} {i} q level c f base place reaches inside l at =
    let frame = BaseIn u0 ∷ subtract a0 (register_by q) u0 ∷ [] in
    let front = found_by q level ++ frame in
    let last = plus a0 a0 (pos place) in
    let nested = append_assoc (found_by q level) frame last in
    let l' = subst (Linked links code i) (sym nested) l in
    let e1 = size_append front last in
    let e2 = ap (λ u. size_of u) nested in
    let r1 = base_reach q level c f base reaches (omega (arith, inside)) (front_of front last l') at in
    let r2 = behind_reach (c + size_of front) (reached r1) base place inside (back_of front last l')
    (reached_holds r1) in
    reach_moved (omega (arith, e1, e2)) (omega (arith, e1, e2)) (reach_then r1 r2)

-- ---- the kind of text that stands there

mode_small : (varying : Bool) → text_mode varying < 2 ^ 32
mode_small false = omega arith
mode_small true = omega arith

-- a service is asked about a text of so many bytes at an offset in a0
pub kind_reach :
    {links : Links} {code : List Instr} {i : ℕ} {g g' : Ground} {v v' : Services} {h t : ℕ → ℕ} (a : Asking)
    (change : List ℕ → List ℕ) (c : ℕ) (f : Family) (varying : Bool) (most offset : ℕ) → most ≤ 1024 →
    ((b : Base) → a.x b ≡ offset) → ((b : Base) → a.y b ≡ most) → ((b : Base) → a.z b ≡ text_mode varying) →
    IsTold code v v' g g' h t change a → Linked links code i (kind_asked a.number varying most) →
    ((b : Base) → At b i (Known g v h t (valued offset) b) (f b)) →
    Reach code c f v (c + size_of (kind_asked a.number varying most)) v'
    (λ b y. At b (i + size_of (kind_asked a.number varying most)) (Known g' v' h t (two a.first a.second) b) y)
kind_reach {links} {code} {i} {g} {g'} {v} {v'} {h} {t} a change c f varying most offset short x y z is l at =
    let mode = text_mode varying in
    let second = number a1 most in
    let third = small a2 mode ∷ [] in
    let last = service a.number in
    let nested = append_assoc second third last in
    let l1 = subst (Linked links code i) nested l in
    let l2 = back_of second (third ++ last) l1 in
    let e2 = size_append second (third ++ last) in
    let e3 = ap (λ u. size_of u) nested in
    let few : most < 2 ^ 31 = omega (arith, short) in
    let r1 = constant_piece c f a1 (pos most) (word_fits most few)
    (record { reserved_stay = λ z' u. refl; known_stay = λ b z' u k. k; set = λ z' u. refl })
    (front_of second (third ++ last) l1) at in
    let r2 = straight (c + size_of second) (reached r1) v v (λ b. Known g v h t (three a.x a.y a.z) b)
    (front_of third last l2) (omega arith) (λ b. (reached_holds r1 b).pc)
    (λ b. let k = (reached_holds r1 b).holds in record {
      body = record {
        services = k.body.services;
        registers = k.body.registers;
        bytes = k.body.bytes;
        memory = k.body.memory;
      };
      regs = (
        k.regs.1.0 ∙ sym (x b),
        (
          k.regs.0 ∙ word_is most few ∙ sym (y b),
          (small_is _ mode (zero_is k.body) (mode_small varying) ∙ sym (z b), tt),
        ),
      );
    }) in
    let r3 = asks_there a change (c + size_of second + 1) (reached r2) is (back_of third last l2) (reached_holds r2) in
    reach_moved (omega (arith, e2, e3)) (omega (arith, e2, e3)) (reach_then r1 (reach_then r2 r3))
