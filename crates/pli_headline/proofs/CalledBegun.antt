-- A called procedure inside the main one begins: its frame is filled, above the temporaries of its own.
use Rattle.std.proofs.Common.{◌≡◌, ℕ, ◌+◌, ◌*◌, ◌^◌, ◌<◌, ◌≤◌, inl, inr, List, [], ◌∷◌, ◌++◌, length, Some, refl, ap}
use Rattle.std.proofs.Common.{◌∙◌, arith}
use Rattle.std.specs.Prelude.{pos}
use Rattle.rv_meaning.specs.declared.instr.Instr.{Instr}
use Rattle.rv_meaning.specs.declared.instr.Instr.TheVariants as I
use Rattle.rv_meaning.specs.declared.instr.ImmediateOp.TheVariants as Imm
use Rattle.rv_meaning.specs.declared.instr.RegisterOp.TheVariants as Op
use Rattle.rv_meaning.specs.Words.{word, sum, operated}
use Rattle.rv_meaning.specs.Memory.{load, store}
use Rattle.rv_meaning.proofs.MemoryLaws.{length-store, load-store_same, load-store_other}
use Rattle.pli_serving.specs.ServiceState.{Services}
use Rattle.pli_coding.specs.Registers.{stack_register, frame_register, a0, u0, u1}
use Rattle.pli_coding.specs.Assembly.{BaseIn, Code, size_of}
use Rattle.pli_coding.specs.Instructions.{subtract, plus, store_word, is_immediate}
use Rattle.pli_coding.specs.Frames.{own_offset, display, fixed_size, temporary_bytes}
use Rattle.pli_coding.specs.Entries.{all_saved, frame_begun}
use Rattle.pli_coding.specs.Environments.{Environment}
use Rattle.pli_coding.specs.Linking.{Links}
use Rattle.image_runs.specs.Runs.{Whole}
use Rattle.pli_headline.specs.ProvedSoFar.{Names, Types}
use Rattle.run_steps.specs.Engine.{Base, most_code}
use Rattle.run_steps.proofs.Linking.{size_append}
use Rattle.run_steps.specs.Items.{Linked, At, Items}
use Rattle.run_steps.proofs.Items.{straight}
use Rattle.run_steps.proofs.Numbers.{above_sum, above_small}
use Rattle.run_steps.specs.Bodies.{Ground, Known, nth}
use Rattle.run_steps.proofs.Bodies.{frame_is, displaced_by, plus_piece}
use Rattle.run_steps.proofs.Jumps.{front_of, back_of}
use Rattle.run_steps.proofs.Reaching.{reach_moved}
use Rattle.run_steps.specs.SavedRegisters.{saved_ground, SavingAt, called_regs}
use Rattle.run_steps.proofs.SavedRegisters.{saved_piece}
use Rattle.pli_headline.proofs.Statements.{Block}
use Rattle.pli_headline.proofs.InnerFrames.{Inside, inner_whole, inner_above}
use Rattle.pli_headline.proofs.BeginDisplays.{frame_word, own_is, unmoved, moved_reserved, without_two, unknown, begun_code}
use Rattle.pli_headline.proofs.CalledFrames.{Callee, AroundCall, saved_beside, called_ground}
use Rattle.run_steps.specs.Reach.{Family, Reach, reached}
use Rattle.run_steps.proofs.Reach.{reach_then, reached_holds}
use Rattle.pli_headline.proofs.Scalars.{Values}

-- what the third register of arguments holds
abbrev pub with_texts : ℕ → Base → List (ℕ × ℕ)
with_texts texts b = (12, texts) ∷ []

-- no texts go with the call
abbrev pub without_texts : Base → List (ℕ × ℕ)
without_texts = with_texts 0

-- the frame's register is set, but the stack's isn't yet
abbrev filled_ground : {e : Environment} {block : Names} {types : Types} (bl : Block e block types) → Callee bl → (back : Base → ℕ) → (h0 t0 : ℕ → ℕ) → Values → Ground
filled_ground bl callee back h0 t0 n =
    record {
      frame = callee.at;
      free = (bl.ground n).free;
      words = callee.words;
      memory = Inside (AroundCall bl callee back h0 t0 n) bl.stack.frame 1 (λ j. bl.base) callee.at callee.words;
      whole = inner_whole callee.at bl.stack.free callee.words callee.place bl.stack.aligned;
      above_code = let a = inner_above callee.at bl.stack.free callee.words callee.place in let h = bl.stack.high in omega (arith, a, h);
      inside = let r = callee.room in omega (arith, r);
    }

-- behind what is saved: the frame below, the frame of the main procedure, and its own offset
abbrev filled_code : Code
filled_code =
    begun_code ++ (store_word frame_register a0 (display 0) ++ (BaseIn u1 ∷ subtract u1 frame_register u1 ∷ store_word frame_register u1 own_offset))

-- its display has one word
only_level : (m : List ℕ) (at x j : ℕ) → j < 1 → load 4 m (at + 144) ≡ x → load 4 m (at + (144 + 4 * j)) ≡ x
only_level m at x j few e = ap (λ u. load 4 m u) (omega (arith, few)) ∙ e

filled_path : {e : Environment} {block : Names} {types : Types} (bl : Block e block types) (callee :
    Callee bl) (back : Base → ℕ) (texts : ℕ) (n : Values) (links : Links) (code : List Instr) (i : ℕ) (v :
    Services) (h t0 : ℕ → ℕ) (b : Base) (w : Whole) → 0 < i → length code ≤ most_code
    → Known (saved_ground (bl.ground n) callee.at back h callee.held) v h t0
    (called_regs callee.at bl.base texts back) b w
    → Items links code b i filled_code w (Known (filled_ground bl callee back h t0 n) v h unknown (with_texts texts) b)
filled_path bl callee back texts n links code i v h t0 b w later small' k =
    let g = bl.ground n in
    let x = w.machine.registers in
    let m = w.machine.memory in
    let at = callee.at in
    let above = inner_above at bl.stack.free callee.words callee.place in
    let whole = inner_whole at bl.stack.free callee.words callee.place bl.stack.aligned in
    let room = callee.room in
    let high = bl.stack.high in
    let over = bl.stack.above in
    let same = bl.stack.frame_is n in
    let around = g.whole in
    let e' = k.regs.0 in
    let fp : x 8 ≡ b.at + g.frame = frame_is k.body in
    let fp' = sum (x 5) (word (pos 0)) in
    let e2 : fp' ≡ b.at + at = unmoved b at (x 5) (omega (arith, room)) e' in
    let room' : g.frame + 164 ≤ 15 * 2 ^ 20 = omega (arith, same, over, above, room) in
    let low : 4 * length code ≤ at = omega (arith, small', above, high) in
    let m1 = store 4 m (at + 4) (x 8) in
    let top = load 4 m1 (g.frame + 40) in
    let m2 = store 4 m1 (at + 40) top in
    let m3 = store 4 m2 (at + 144) (x 10) in
    let own = operated Op.Subtract fp' b.at in
    let mine : own ≡ at = own_is b at fp' (omega (arith, room)) e2 in
    let v' = b.valid.1 in
    let len : length m3 ≡ length m = length-store 4 m2 (at + 144) (x 10) ∙ length-store 4 m1 (at + 40) top ∙ length-store 4 m (at + 4) (x 8) in
    let within = bl.within in
    let declared = k.regs.1.0 in
    let keeps = λ (m' : List ℕ) (p x : ℕ). bl.stack.keeps n t0 b m' 4 p x in (
      frame_word b at (x 5) 4 (omega (arith, room)) whole refl (omega arith) e',
      omega (arith, low),
      (
        frame_word b g.frame (x 8) 40 room' around refl (omega arith) fp,
        (
          frame_word b at fp' 40 (omega (arith, room)) whole refl (omega arith) e2,
          omega (arith, low),
          (
            frame_word b at fp' 144 (omega (arith, room)) whole refl (omega arith) e2,
            omega (arith, low),
            (
              refl,
              (
                frame_word b at fp' 36 (omega (arith, room)) whole refl (omega arith) e2,
                omega (arith, low),
                record {
                  body = record {
                    services = k.body.services;
                    registers = moved_reserved (x 0) _ _ _ _ _ _ (ap without_two k.body.registers) (ap (nth 1) k.body.registers) e2;
                    bytes = length-store 4 m3 (at + 36) own ∙ len ∙ k.body.bytes;
                    memory = record {
                      kept = (
                        keeps m3 (at + 36) own (omega (arith, above)) (keeps m2 (at + 144) (x 10) (omega (arith, above)) (keeps m1 (at + 40) top (omega (arith, above)) (keeps m (at + 4) (x 8) (omega (arith, above)) k.body.memory.0))),
                        saved_beside (at + 36) own callee.few (inr (omega arith))
                            (saved_beside (at + 144) (x 10) callee.few (inr (omega arith))
                            (saved_beside (at + 40) top callee.few (inr (omega arith))
                            (saved_beside (at + 4) (x 8) callee.few (inl refl) k.body.memory.1))),
                      );
                      below =
                          load-store_other 4 4 m3 (at + 36) own (at + 4) (inl (omega arith))
                          ∙ load-store_other 4 4 m2 (at + 144) (x 10) (at + 4) (inl (omega arith))
                          ∙ load-store_other 4 4 m1 (at + 40) top (at + 4) (inl (omega arith))
                          ∙ load-store_same 4 m (at + 4) (x 8) (omega (arith, fp, room', v')) (let q = k.body.bytes in omega (arith, q, room))
                          ∙ fp
                          ∙ ap (λ u. b.at + u) same;
                      own = load-store_same 4 m3 (at + 36) own (omega (arith, mine, room)) (let q = k.body.bytes in omega (arith, q, len, room)) ∙ mine;
                      shown = λ j few. only_level _ at _ j few
                          (load-store_other 4 4 m3 (at + 36) own (at + 144) (inr (omega arith))
                          ∙ load-store_same 4 m2 (at + 144) (x 10) (omega (arith, declared, v', within)) (let q = k.body.bytes in let l = length-store 4 m1 (at + 40) top ∙ length-store 4 m (at + 4) (x 8) in omega (arith, q, l, room))
                          ∙ declared);
                      temporaries = λ j below known. absurd (omega (arith, known));
                    };
                  };
                  regs = (k.regs.1.1.0, tt);
                },
              ),
            ),
          ),
        ),
      ),
    )

raised_piece : {e : Environment} {block : Names} {types : Types} (bl : Block e block types) (callee : Callee bl) (back : Base → ℕ) (texts : ℕ) (n : Values) {links : Links} {code : List Instr} {i : ℕ} {v : Services} {h t0 : ℕ → ℕ} (c : ℕ) (f : Family) → Linked links code i (plus stack_register frame_register (pos (fixed_size 1 0))) → ((b : Base) → At b i (Known (filled_ground bl callee back h t0 n) v h unknown (with_texts texts) b) (f b)) → Reach code c f v (c + size_of (plus stack_register frame_register (pos (fixed_size 1 0)))) v (λ b w. At b (i + size_of (plus stack_register frame_register (pos (fixed_size 1 0)))) (Known (called_ground bl callee back h t0 n) v h unknown (with_texts texts) b) w)
raised_piece bl callee back texts n {v = v} {h = h} {t0 = t0} c f l there =
    let size = fixed_size 1 0 in
    let room = callee.room in
    displaced_by (is_immediate (pos size)) c f (λ q d. I.Immediate Imm.Add stack_register q d) frame_register (pos size) (λ b. b.at + callee.at) (Known (filled_ground bl callee back h t0 n) v h unknown (with_texts texts)) (Known (called_ground bl callee back h t0 n) v h unknown (with_texts texts)) (above_small size (omega arith))
    (λ b. let v' = b.valid.1 in omega (arith, v', room))
    (λ y u. refl)
    (λ b. frame_is (there b).holds.body)
    (omega arith)
    (record {
      does = λ b j w q d k s. record {
        body = record {
          services = k.body.services;
          registers = moved_reserved (w.machine.registers 0) _ _ _ _ _ _ (ap without_two k.body.registers) (s ∙ above_sum b.at callee.at size b.valid.1 (omega (arith, room))) (frame_is k.body);
          bytes = k.body.bytes;
          memory = k.body.memory;
        };
        regs = (k.regs.0, tt);
      };
      lost = λ b w u i' k. record { body = record { services = k.body.services; registers = k.body.registers; bytes = k.body.bytes; memory = k.body.memory }; regs = (k.regs.0, tt) };
    })
    l there

-- ---- the frame is begun

saving_at : {e : Environment} {block : Names} {types : Types} (bl : Block e block types) (callee : Callee bl) (n : Values) (t0 : ℕ → ℕ) → SavingAt (bl.ground n) t0 callee.at
saving_at bl callee n t0 =
    let above = inner_above callee.at bl.stack.free callee.words callee.place in
    let room = callee.room in
    let high = bl.stack.high in
    record {
      whole = inner_whole callee.at bl.stack.free callee.words callee.place bl.stack.aligned;
      high = omega (arith, above, high);
      room = omega (arith, room);
      keeps = λ b m p x over o. bl.stack.keeps n t0 b m 4 p x (omega (arith, above, over)) o;
    }

-- what is known at the procedure's entry
abbrev pub entry_with : (base texts : ℕ) → (back : Base → ℕ) → Base → List (ℕ × ℕ)
entry_with base texts back b = (10, b.at + base) ∷ (12, texts) ∷ (1, back b) ∷ []

abbrev pub entry_regs : (base : ℕ) → (back : Base → ℕ) → Base → List (ℕ × ℕ)
entry_regs base back = entry_with base 0 back

pub called_frame : {e : Environment} {block : Names} {types : Types} (bl : Block e block types) (callee :
    Callee bl) (back : Base → ℕ) → ((b : Base) → back b < 2 ^ 32) → (texts : ℕ) (n : Values) {links : Links} {code :
    List Instr} {i : ℕ} {v : Services} {h t0 : ℕ → ℕ} (c : ℕ) (f : Family) → 0 < i
    → Linked links code i (frame_begun callee.words 1 0 (Some callee.held))
    → ((b : Base) → At b i (Known (bl.ground n) v h t0 (entry_with bl.base texts back) b) (f b))
    → Reach code c f v (c + size_of (frame_begun callee.words 1 0 (Some callee.held))) v
    (λ b w. At b (i + size_of (frame_begun callee.words 1 0 (Some callee.held)))
    (Known (called_ground bl callee back h t0 n) v h unknown (with_texts texts) b) w)
called_frame bl callee back fits texts n {links} {code} {i} {v} {h} {t0} c f later l there =
    let g = bl.ground n in
    let size = temporary_bytes callee.words in
    let up = plus u0 stack_register (pos size) in
    let saves = all_saved u0 callee.held in
    let raised = plus stack_register frame_register (pos (fixed_size 1 0)) in
    let r2 = filled_code ++ raised in
    let r1 = saves ++ r2 in
    let l1 = back_of up r1 l in
    let l2 = back_of saves r2 l1 in
    let n1 = size_append up r1 in
    let n2 = size_append saves r2 in
    let n3 = size_append filled_code raised in
    let room = callee.room in
    let place = callee.place in
    let free = bl.stack.free_is n in
    let s1 = plus_piece c f u0 stack_register (pos size) (λ b. b.at + g.free) (λ b. b.at + callee.at)
    (above_small size (omega (arith, room, place)))
    (λ b. let v' = b.valid.1 in omega (arith, v', room, place, free))
    (λ y u. refl)
    (λ b w o. ap (nth 1) o.body.registers)
    (λ b. above_sum b.at g.free size b.valid.1 (omega (arith, room, place, free)) ∙ ap (λ u. b.at + u) (omega (arith, place, free)))
    (record { reserved_stay = λ y u. refl; known_stay = λ b y u o. o; set = λ y u. refl })
    (record { reserved_stay = λ y u. refl; known_stay = λ b y u o. o; set = λ y u. refl })
    (front_of up r1 l) there in
    let c1 = c + size_of up in
    let s2 = saved_piece callee.at back (called_regs callee.at bl.base texts back)
    (record {
      frame = λ b y k. k.0;
      return = λ b y k. k.1.1.1.0;
      far =
          record { reserved_stay = λ y u. refl; known_stay = λ b y u o. o; set = λ y u. refl };
    }) h callee.held
    callee.few (saving_at bl callee n t0) fits c1 (reached s1) (front_of saves r2 l1) (reached_holds s1) in
    let c2 = c1 + size_of saves in
    let s3 = straight c2 (reached s2) v v (λ b w. Known (filled_ground bl callee back h t0 n) v h unknown (with_texts texts) b w) (front_of filled_code raised l2) (omega arith) (λ b. (reached_holds s2 b).pc)
    (λ b. filled_path bl callee back texts n links code (i + size_of up + size_of saves) v h t0 b (reached s2 b) (omega (arith, later)) l.small' (reached_holds s2 b).holds) in
    let s4 = raised_piece bl callee back texts n (c2 + size_of filled_code) (reached s3) (back_of filled_code raised l2) (reached_holds s3) in
    reach_moved (omega (arith, n1, n2, n3)) (omega (arith, n1, n2, n3)) (reach_then s1 (reach_then s2 (reach_then s3 s4)))
