-- A called procedure saves the place to return to, and so many registers that hold temporaries, in its frame, and
-- restores them at its end.
use Rattle.std.proofs.Common.{◌≡◌, ℕ, zero, suc, ◌+◌, ◌*◌, ◌/◌, ◌%◌, ◌^◌, ◌<◌, ◌≤◌, inl, List, length, Bool, true}
use Rattle.std.proofs.Common.{false, refl, sym, ap, ◌∙◌, subst, arith}
use Rattle.std.specs.Prelude.{pos, slice_set, ◌==◌}
use Rattle.std.proofs.lemmas.Bool.{eqb-true}
use Rattle.std.proofs.lemmas.Bool.Decides.{nat_tests}
use Rattle.rv_meaning.specs.declared.instr.Instr.{Instr}
use Rattle.rv_meaning.specs.declared.instr.Instr.TheVariants as I
use Rattle.rv_meaning.specs.declared.instr.LoadKind.TheVariants as Load
use Rattle.rv_meaning.specs.Memory.{load, store}
use Rattle.rv_meaning.specs.Machine.{memory_size, written}
use Rattle.rv_meaning.proofs.MemoryLaws.{load-store_same, load-store_other}
use Rattle.pli_serving.specs.ServiceState.{Services}
use Rattle.pli_coding.specs.Registers.{return_register, frame_register, held, u0}
use Rattle.pli_coding.specs.Assembly.{size_of}
use Rattle.pli_coding.specs.Instructions.{is_immediate, load_word, store_word}
use Rattle.pli_coding.specs.Frames.{return_address, saved_register}
use Rattle.pli_coding.specs.Entries.{registers_saved, registers_restored, all_saved, all_restored}
use Rattle.pli_coding.specs.Linking.{Links}
use Rattle.run_steps.specs.Engine.{Base}
use Rattle.run_steps.proofs.Linking.{size_append}
use Rattle.run_steps.specs.Items.{Linked, At}
use Rattle.run_steps.proofs.Numbers.{above_sum, above_small}
use Rattle.run_steps.specs.Bodies.{Ground, Known, PlaceFrom, IsNear, with', reserved}
use Rattle.run_steps.proofs.Bodies.{at_place, frame_is, lose_known, displaced_by, load_piece, store_into}
use Rattle.run_steps.proofs.Jumps.{front_of, back_of}
use Rattle.run_steps.specs.Temporaries.{nothing, put}
use Rattle.run_steps.proofs.Temporaries.{held_put, held_is}
use Rattle.run_steps.proofs.Reaching.{reach_moved}
use Rattle.run_steps.specs.Reach.{Family, Reach, reached}
use Rattle.run_steps.proofs.Reach.{stay, reach_then, reached_holds}
use Rattle.run_steps.specs.SavedRegisters.{saved_ground, SavingAt, Saving, held_again, SavedIn}

-- ---- words and registers

low_store : (m : List ℕ) (at v : ℕ) → store 4 m at v ≡ store 4 m at (v % 2 ^ 32)
low_store m at v =
    let w = v % 2 ^ 32 in
    let e0 : v % 256 ≡ w % 256 = omega arith in
    let e1 : v / 256 % 256 ≡ w / 256 % 256 = omega arith in
    let e2 : v / 256 / 256 % 256 ≡ w / 256 / 256 % 256 = omega arith in
    let e3 : v / 256 / 256 / 256 % 256 ≡ w / 256 / 256 / 256 % 256 = omega arith in
    let bytes : (a b c d : ℕ) →
    List ℕ = λ a b c d. slice_set (slice_set (slice_set (slice_set m at a) (suc at) b) (suc (suc at)) c)
    (suc (suc (suc at))) d in
    ap (λ u. bytes u (v / 256 % 256) (v / 256 / 256 % 256) (v / 256 / 256 / 256 % 256)) e0
    ∙ ap (λ u. bytes (w % 256) u (v / 256 / 256 % 256) (v / 256 / 256 / 256 % 256)) e1
    ∙ ap (λ u. bytes (w % 256) (w / 256 % 256) u (v / 256 / 256 / 256 % 256)) e2
    ∙ ap (λ u. bytes (w % 256) (w / 256 % 256) (w / 256 / 256 % 256) u) e3

-- a word holds what fits it
low_loaded : (m : List ℕ) (at v : ℕ) → at + 4 ≤ length m → load 4 (store 4 m at v) at ≡ v % 2 ^ 32
low_loaded m at v inside =
    ap (λ u. load 4 u at) (low_store m at v) ∙ load-store_same 4 m at (v % 2 ^ 32) (omega arith) inside

held_near : (n : ℕ) → n < 7 → IsNear (held n).index
held_near (zero) l y u = refl
held_near (suc zero) l y u = refl
held_near (suc (suc zero)) l y u = refl
held_near (suc (suc (suc zero))) l y u = refl
held_near (suc (suc (suc (suc zero)))) l y u = refl
held_near (suc (suc (suc (suc (suc zero))))) l y u = refl
held_near (suc (suc (suc (suc (suc (suc zero)))))) l y u = refl
held_near (suc (suc (suc (suc (suc (suc (suc n))))))) l y u = absurd (omega (arith, l))

held_apart : (n : ℕ) → n < 7 → (y : ℕ → ℕ) (u : ℕ) → written y (held n).index u 1 ≡ y 1
held_apart (zero) l y u = refl
held_apart (suc zero) l y u = refl
held_apart (suc (suc zero)) l y u = refl
held_apart (suc (suc (suc zero))) l y u = refl
held_apart (suc (suc (suc (suc zero)))) l y u = refl
held_apart (suc (suc (suc (suc (suc zero))))) l y u = refl
held_apart (suc (suc (suc (suc (suc (suc zero)))))) l y u = refl
held_apart (suc (suc (suc (suc (suc (suc (suc n))))))) l y u = absurd (omega (arith, l))

pub frame_place : (at n : ℕ) → at % 4 ≡ 0 → 7 * 2 ^ 20 ≤ at → at + 164 ≤ 15 * 2 ^ 20 → n % 4 ≡ 0 → n ≤ 160 →
    PlaceFrom at (pos n) (at + n)
frame_place at n whole high room even few =
    record {
      small' = above_small n (omega (arith, few));
      sums = λ b. above_sum b.at at n b.valid.1 (omega (arith, room, few));
      aligned = omega (arith, whole, even);
      inside = omega (arith, room, few);
      above_code = omega (arith, high);
    }

saved_by : (q : Bool) (m : List ℕ) (at n j : ℕ) (h : ℕ → ℕ) → (j == n) ≡ q → length m ≡ memory_size →
    at + 164 ≤ 15 * 2 ^ 20 → n < 7 → j < suc n → (j < n → load 4 m (at + (8 + 4 * j)) ≡ h j % 2 ^ 32) →
    load 4 (store 4 m (at + (8 + 4 * n)) (h n)) (at + (8 + 4 * j)) ≡ h j % 2 ^ 32
saved_by true m at n j h e len room few below old =
    let same : j ≡ n = eqb-true j n e in
    subst (λ u. load 4 (store 4 m (at + (8 + 4 * n)) (h n)) (at + (8 + 4 * u)) ≡ h u % 2 ^ 32) (sym same)
    (low_loaded m (at + (8 + 4 * n)) (h n) (omega (arith, len, room, few)))
saved_by false m at n j h e len room few below old =
    let less : j < n = grind (arith, nat_tests) in
    load-store_other 4 4 m (at + (8 + 4 * n)) (h n) (at + (8 + 4 * j)) (inl (omega (arith, less))) ∙ old less

more_saved : {g : Ground} {t : ℕ → ℕ} (at : ℕ) (back : Base → ℕ) (rs : Base → List (ℕ × ℕ)) → Saving at back rs
    → (h : ℕ → ℕ) (held' : ℕ) → held' ≤ 7 → SavingAt g t at → (left n : ℕ) {links : Links} {code : List Instr} {i :
    ℕ} {v : Services} (c : ℕ) (f : Family) → n + left ≡ held' → Linked links code i (registers_saved u0 n left)
    → ((b : Base) → At b i (Known (saved_ground g at back h n) v h t rs b) (f b))
    → Reach code c f v (c + size_of (registers_saved u0 n left)) v
    (λ b w. At b (i + size_of (registers_saved u0 n left)) (Known (saved_ground g at back h held') v h t rs b) w)
more_saved {g} {t} at back rs k h held' most s zero n {code = code} {i = i} {v = v} c f all l there =
    let last : n ≡ held' = omega (arith, all) in
    reach_moved (omega arith) (omega arith)
    (stay code c f v (λ b w. At b i (Known (saved_ground g at back h held') v h t rs b) w)
    (λ b. subst (λ j. At b i (Known (saved_ground g at back h j) v h t rs b) (f b)) last (there b)))
more_saved {g} {t} at back rs k h held' most s (suc left) n c f all l there =
    let first = store_word u0 (held n) (saved_register n) in
    let rest = registers_saved u0 (suc n) left in
    let size = size_append first rest in
    let few : n < 7 = omega (arith, all, most) in
    let room = s.room in
    let r1 = store_into (saved_ground g at back h (suc n)) t c f (held n) u0 (saved_register n) at (at + (8 + 4 * n))
    (λ b. h n)
    (frame_place at (8 + 4 * n) s.whole s.high s.room (omega arith) (omega (arith, few)))
    (omega (arith, room)) (λ y u. refl) (λ b w o. k.frame b w.machine.registers o.regs) (held_near n few)
    (λ b w o. held_is n (saved_ground g at back h n) b h w.machine.registers few o.body.registers)
    (λ b. refl)
    (λ b m len o. (
      s.keeps b m (at + (8 + 4 * n)) (h n) (omega arith) o.0,
      record {
        return = load-store_other 4 4 m (at + (8 + 4 * n)) (h n) at (inl (omega arith)) ∙ o.1.return;
        registers = λ j below. saved_by (j == n) m at n j h refl len room few below (o.1.registers j);
      },
    ))
    k.far
    (front_of first rest l) there in
    let r2 = more_saved at back rs k h held' most s left (suc n) (c + size_of first) (reached r1) (omega (arith, all))
    (back_of first rest l) (reached_holds r1) in
    reach_moved (omega (arith, size)) (omega (arith, size)) (reach_then r1 r2)

-- all of them
pub saved_piece : {g : Ground} {t : ℕ → ℕ} (at : ℕ) (back : Base → ℕ) (rs : Base → List (ℕ × ℕ)) → Saving at back rs
    → (h : ℕ → ℕ) (held' : ℕ) → held' ≤ 7 → SavingAt g t at → ((b : Base) → back b < 2 ^ 32)
    → {links : Links} {code : List Instr} {i : ℕ} {v : Services} (c : ℕ) (f : Family)
    → Linked links code i (all_saved u0 held') → ((b : Base) → At b i (Known g v h t rs b) (f b))
    → Reach code c f v (c + size_of (all_saved u0 held')) v
    (λ b w. At b (i + size_of (all_saved u0 held')) (Known (saved_ground g at back h held') v h t rs b) w)
saved_piece {g} {t} at back rs k h held' most s fits c f l there =
    let first = store_word u0 return_register return_address in
    let rest = registers_saved u0 0 held' in
    let size = size_append first rest in
    let room = s.room in
    let same : at + 0 ≡ at = omega arith in
    let r1 = store_into (saved_ground g at back h 0) t c f return_register u0 return_address at (at + 0) back
    (frame_place at 0 s.whole s.high s.room refl (omega arith))
    (omega (arith, room)) (λ y u. refl) (λ b w o. k.frame b w.machine.registers o.regs) (λ y u. refl)
    (λ b w o. k.return b w.machine.registers o.regs)
    (λ b. refl)
    (λ b m len o. (
      s.keeps b m (at + 0) (back b) (omega arith) o,
      record {
        return = ap (load 4 (store 4 m (at + 0) (back b))) (sym same) ∙ load-store_same 4 m (at + 0) (back b) (fits b)
            (omega (arith, len, room));
        registers = λ j below. absurd (omega (arith, below));
      },
    ))
    k.far
    (front_of first rest l) there in
    let r2 = more_saved at back rs k h held' most s held' 0 (c + size_of first) (reached r1) (omega arith)
    (back_of first rest l) (reached_holds r1) in
    reach_moved (omega (arith, size)) (omega (arith, size)) (reach_then r1 r2)

more_restored : {g : Ground} {t : ℕ → ℕ} (back : Base → ℕ) (saved : ℕ → ℕ) {held' : ℕ} → SavedIn g t back saved held'
    → (left n : ℕ) {links : Links} {code : List Instr} {i : ℕ} {v : Services} (h : ℕ → ℕ) (c : ℕ) (f : Family)
    → n + left ≤ held' → Linked links code i (registers_restored n left)
    → ((b : Base) → At b i (Known g v h t (with' 1 back nothing) b) (f b))
    → Reach code c f v (c + size_of (registers_restored n left)) v
    (λ b w. At b (i + size_of (registers_restored n left))
    (Known g v (held_again saved n left h) t (with' 1 back nothing) b) w)
more_restored {g} {t} back saved s zero n {code = code} {i = i} {v = v} h c f all l there =
    reach_moved (omega arith) (omega arith)
    (stay code c f v (λ b w. At b i (Known g v h t (with' 1 back nothing) b) w) there)
more_restored {g} {t} back saved s (suc left) n {v = v} h c f all l there =
    let first = load_word (held n) frame_register (saved_register n) in
    let rest = registers_restored (suc n) left in
    let size = size_append first rest in
    let most = s.most in
    let few : n < 7 = omega (arith, all, most) in
    let place = frame_place g.frame (8 + 4 * n) g.whole s.high s.room (omega arith) (omega (arith, few)) in
    let x = saved n % 2 ^ 32 in
    let room = s.room in
    let r1 = displaced_by (is_immediate (saved_register n)) c f (λ q d. I.Load Load.Word (held n) q d) frame_register
    (saved_register n) (λ b. b.at + g.frame) (Known g v h t (with' 1 back nothing))
    (Known g v (put h n x) t (with' 1 back nothing)) place.small'
    (λ b. let v' = b.valid.1 in omega (arith, v', room))
    (λ y u. refl)
    (λ b. frame_is (there b).holds.body)
    (omega arith)
    (record {
      does = λ b j w q d k e. (
        at_place b place _ e,
        record {
          body = record {
            services = k.body.services;
            registers =
                ap (λ u. reserved (written w.machine.registers (held n).index u))
                ((s.has b w.machine.memory k.body.memory).registers n (omega (arith, all)))
                ∙ held_put n g b h w.machine.registers x few k.body.registers;
            bytes = k.body.bytes;
            memory = k.body.memory;
          };
          regs = (held_apart n few w.machine.registers _ ∙ k.regs.0, tt);
        },
      );
      lost = λ b w u i' k. lose_known w 31 u i'
          (record { reserved_stay = λ y u'. refl; known_stay = λ b' y u' o. o; set = λ y u'. refl }) k;
    })
    (front_of first rest l) there in
    let r2 = more_restored back saved s left (suc n) (put h n x) (c + size_of first) (reached r1) (omega (arith, all))
    (back_of first rest l) (reached_holds r1) in
    reach_moved (omega (arith, size)) (omega (arith, size)) (reach_then r1 r2)

-- all of them, and the place to return to
pub restored_piece : {g : Ground} {t : ℕ → ℕ} (back : Base → ℕ) (saved : ℕ → ℕ) {held' : ℕ}
    → SavedIn g t back saved held' → {links : Links} {code : List Instr} {i : ℕ} {v : Services} (h : ℕ → ℕ) (c :
    ℕ) (f : Family) → Linked links code i (all_restored held') → ((b : Base) → At b i (Known g v h t nothing b) (f b))
    → Reach code c f v (c + size_of (all_restored held')) v
    (λ b w. At b (i + size_of (all_restored held')) (Known g v (held_again saved 0 held' h) t (with' 1 back nothing)
    b) w)
restored_piece {g} {t} back saved {held'} s h c f l there =
    let first = load_word return_register frame_register return_address in
    let rest = registers_restored 0 held' in
    let size = size_append first rest in
    let same : g.frame + 0 ≡ g.frame = omega arith in
    let r1 = load_piece c f return_register return_address (g.frame + 0) back
    (frame_place g.frame 0 g.whole s.high s.room refl (omega arith))
    (λ b m o. ap (load 4 m) same ∙ (s.has b m o).return)
    (record { reserved_stay = λ y u. refl; known_stay = λ b y u q. q; set = λ y u. refl })
    (record { reserved_stay = λ y u. refl; known_stay = λ b y u q. q; set = λ y u. refl })
    (front_of first rest l) there in
    let r2 = more_restored back saved s held' 0 h (c + size_of first) (reached r1) (omega arith)
    (back_of first rest l) (reached_holds r1) in
    reach_moved (omega (arith, size)) (omega (arith, size)) (reach_then r1 r2)
