-- The main procedure's frame is begun: registers are saved, and the frame's words are filled.
use Rattle.std.proofs.Common.{◌≡◌, ℕ, ◌+◌, ◌*◌, ◌%◌, ◌<◌, ◌≤◌, List, [], ◌∷◌, ◌++◌, length, Some, refl, sym, ap, ◌∙◌}
use Rattle.std.proofs.Common.{subst, arith}
use Rattle.std.specs.Prelude.{pos}
use Rattle.rv_meaning.specs.declared.instr.Instr.{Instr}
use Rattle.rv_meaning.specs.declared.instr.RegisterOp.TheVariants as Op
use Rattle.rv_meaning.specs.Words.{word, sum, operated}
use Rattle.rv_meaning.specs.Memory.{load, store}
use Rattle.rv_meaning.specs.Machine.{memory_size}
use Rattle.pli_serving.specs.ServiceState.{Services}
use Rattle.pli_coding.specs.Registers.{stack_register, frame_register, u0, u1}
use Rattle.pli_coding.specs.Assembly.{BaseIn, Code, size_of}
use Rattle.pli_coding.specs.Instructions.{subtract, move, plus, load_word, store_word}
use Rattle.pli_coding.specs.Frames.{frame_below, own_offset, lower_top, fixed_size, temporary_bytes}
use Rattle.pli_coding.specs.Entries.{all_saved, display_made, frame_begun}
use Rattle.pli_coding.specs.Linking.{Links}
use Rattle.image_runs.specs.Runs.{Whole}
use Rattle.run_steps.specs.Engine.{Base, address, most_code, WordAt}
use Rattle.run_steps.proofs.Linking.{size_append}
use Rattle.run_steps.specs.Items.{Linked, At, Items}
use Rattle.run_steps.proofs.Items.{straight}
use Rattle.run_steps.proofs.Numbers.{above_sum, above_small}
use Rattle.run_steps.specs.Bodies.{Ground, Known, with', nth}
use Rattle.run_steps.proofs.Bodies.{frame_is, plus_piece}
use Rattle.run_steps.proofs.Jumps.{front_of, back_of}
use Rattle.run_steps.specs.Reach.{Family, Reach, reached}
use Rattle.run_steps.proofs.Reach.{reach_then, reached_holds}
use Rattle.pli_headline.proofs.Holdings.{Counted}
use Rattle.pli_headline.proofs.VariablePlaces.{room_of}
use Rattle.pli_headline.proofs.MainGround.{Frame, ground_of, statics_end}
use Rattle.pli_headline.proofs.FirstFrame.{start_ground, start_memory, start_length, zeros, no_texts}
use Rattle.pli_headline.proofs.MainFrame.{Kept, kept_same, kept_store, filled_keeps, first_words, frame_stands}
use Rattle.run_steps.specs.SavedRegisters.{SavingAt, saved_ground}
use Rattle.run_steps.proofs.SavedRegisters.{saved_piece}
use Rattle.run_steps.proofs.Reaching.{reach_moved}

-- what is done once registers are saved
abbrev frame_filled : Code
frame_filled =
    store_word u0 frame_register frame_below
    ++ (load_word u1 frame_register lower_top
    ++ (move frame_register u0
    ∷ (store_word frame_register u1 lower_top
    ++ (display_made 0
    ++ (BaseIn u1
    ∷ subtract u1 frame_register u1
    ∷ (store_word frame_register u1 own_offset ++ plus stack_register frame_register (pos (fixed_size 0 0))))))))

-- ---- places in the frame

pub over_sum : (f : Frame) (b : Base) (x n : ℕ) → n < 160 → x ≡ b.at + f.at → sum x (word (pos n)) ≡ b.at + (f.at + n)
over_sum f b x n few e =
    let inside = f.inside in
    ap (λ u. sum u (word (pos n))) e ∙ above_sum b.at f.at n b.valid.1 (omega (arith, inside, few))

abbrev pub over_word : (f : Frame) (b : Base) (x n : ℕ) → n % 4 ≡ 0 → n < 150 → x ≡ b.at + f.at → WordAt b (sum x (word (pos n)))
over_word f b x n whole few e =
    record {
      offset = f.at + n;
      is = over_sum f b x n (omega (arith, few)) e;
      aligned = let w = f.whole in omega (arith, w, whole);
      inside = let i = f.inside in omega (arith, i, few);
    }

start_word_sum : (b : Base) (x : ℕ) → x ≡ b.at + statics_end → sum x (word (pos 40)) ≡ b.at + (statics_end + 40)
start_word_sum b x e = ap (λ u. sum u (word (pos 40))) e ∙ above_sum b.at statics_end 40 b.valid.1 (omega arith)

abbrev start_top : (b : Base) (x : ℕ) → x ≡ b.at + statics_end → WordAt b (sum x (word (pos 40)))
start_top b x e =
    record { offset = statics_end + 40; is = start_word_sum b x e; aligned = omega arith; inside = omega arith }

same_sum : (f : Frame) (b : Base) (x : ℕ) → x ≡ b.at + f.at → sum x (word (pos 0)) ≡ b.at + f.at
same_sum f b x e = let v = b.valid.1 in let i = f.inside in omega (arith, e, v, i)

own_is : (f : Frame) (b : Base) (x : ℕ) → x ≡ b.at + f.at → operated Op.Subtract x b.at ≡ f.at
own_is f b x e = let v = b.valid.1 in let i = f.inside in omega (arith, e, v, i)

-- the reserved registers, where two of them are new and the others still 0
begun_reserved : (z x x' y y' : ℕ) (h : List ℕ) → (z ∷ h) ≡ (0 ∷ 0 ∷ 0 ∷ 0 ∷ 0 ∷ 0 ∷ 0 ∷ 0 ∷ []) → x ≡ x' → y ≡ y' → (z ∷ x ∷ y ∷ h) ≡ (0 ∷ x' ∷ y' ∷ 0 ∷ 0 ∷ 0 ∷ 0 ∷ 0 ∷ 0 ∷ 0 ∷ [])
begun_reserved z x x' y y' h s e f =
    let z0 : z ≡ 0 = ap (nth 0) s in
    let h0 : h ≡ 0 ∷ 0 ∷ 0 ∷ 0 ∷ 0 ∷ 0 ∷ 0 ∷ [] = ap behind s in
    ap (λ u. u ∷ x ∷ y ∷ h) z0 ∙ ap (λ u. 0 ∷ u ∷ y ∷ h) e ∙ ap (λ u. 0 ∷ x' ∷ u ∷ h) f ∙ ap (λ u. 0 ∷ x' ∷ y' ∷ u) h0
  where
    behind : List ℕ → List ℕ
    behind [] = []
    behind (u ∷ us) = us

-- a list without its second and third entries
abbrev without_two : List ℕ → List ℕ
without_two (z ∷ x ∷ y ∷ h) = z ∷ h
without_two _ = []

-- ---- the frame is filled

-- with the frame's address in a register
abbrev with_frame : Frame → (ra : Base → ℕ) → Base → List (ℕ × ℕ)
with_frame f ra b = (5, b.at + f.at) ∷ (1, ra b) ∷ (12, 0) ∷ []

-- what stands already is kept
abbrev kept_ground : List ℕ → (at : ℕ) → Ground
kept_ground first at =
    record {
      frame = statics_end;
      free = statics_end + 48;
      words = 0;
      memory = λ t b m. Kept at (start_memory first) m;
      whole = omega arith;
      above_code = omega arith;
      inside = omega arith;
    }

saving_at : (f : Frame) (first : List ℕ) → SavingAt (kept_ground first f.at) zeros f.at
saving_at f first =
    let above = f.above_statics in
    let inside = f.inside in
    record {
      whole = f.whole;
      high = omega (arith, above);
      room = omega (arith, inside);
      keeps = λ b m p x over o. kept_store p x over o;
    }

-- and registers are saved
abbrev saved_start : List ℕ → Frame → (held : ℕ) → Ground
saved_start first f held = saved_ground (kept_ground first f.at) f.at (λ b. address b f.resume) zeros held

filled_path : (links : Links) (code : List Instr) (i : ℕ) (first : List ℕ) (v : Services) (f : Frame) (held : ℕ) (b :
    Base) (w : Whole) → f.count ≡ 0 → length first ≡ memory_size → length code ≤ most_code
    → Known (saved_start first f held) v zeros zeros (with_frame f (λ b'. address b' f.resume)) b w
    → Items links code b i frame_filled w
    (Known (ground_of f first (λ j. Counted (pos 0))) v zeros (first_words first f.at) no_texts b)
filled_path links code i first v f held b w none len small' k =
    let x = w.machine.registers in
    let m = w.machine.memory in
    let e = k.regs.0 in
    let above = f.above_statics in
    let inside = f.inside in
    let fp : x 8 ≡ b.at + statics_end = frame_is k.body in
    let e' = same_sum f b (x 5) e in
    let low : 4 * length code ≤ f.at = omega (arith, small', above) in
    let empty : room_of f.sizes f.count ≡ 0 = ap (room_of f.sizes) none in
    let top = load 4 (store 4 m (f.at + 4) (x 8)) (statics_end + 40) in
    let own = operated Op.Subtract (sum (x 5) (word (pos 0))) b.at in
    let kept = k.body.memory.0 in (
      over_word f b (x 5) 4 refl (omega arith) e,
      omega (arith, low),
      (
        start_top b (x 8) fp,
        (
          over_word f b (sum (x 5) (word (pos 0))) 40 refl (omega arith) e',
          omega (arith, low),
          (
            refl,
            (
              over_word f b (sum (x 5) (word (pos 0))) 36 refl (omega arith) e',
              omega (arith, low),
              record {
                body = record {
                  services = k.body.services;
                  registers = begun_reserved (x 0) _ _ _ _ _ (ap without_two k.body.registers)
                      (over_sum f b (sum (x 5) (word (pos 0))) 144 (omega arith) e' ∙ omega (arith, empty)) e';
                  bytes = (filled_keeps f.at (x 8) top own kept).bytes ∙ start_length first ∙ len;
                  memory = frame_stands f first m b (x 8) top own none len kept k.body.memory.1.return fp
                      (own_is f b (sum (x 5) (word (pos 0))) e');
                };
                regs = (k.regs.1.1.0, tt);
              },
            ),
          ),
        ),
      ),
    )

-- ---- the frame is begun

pub begun : {links : Links} {code : List Instr} {i : ℕ} (c : ℕ) (first : List ℕ) (v : Services) (f : Frame) (held :
    ℕ) (g : Family) → held ≤ 7 → f.count ≡ 0 → f.resume ≤ most_code
    → f.at ≡ statics_end + 48 + temporary_bytes f.words → length first ≡ memory_size
    → Linked links code i (frame_begun f.words 0 0 (Some held))
    → ((b : Base) → At b i (Known (start_ground first) v zeros zeros (with' 1 (λ b'. address b' f.resume) no_texts) b)
    (g b)) → Reach code c g v (c + size_of (frame_begun f.words 0 0 (Some held))) v
    (λ b w. At b (i + size_of (frame_begun f.words 0 0 (Some held)))
    (Known (ground_of f first (λ j. Counted (pos 0))) v zeros (first_words first f.at) no_texts b) w)
begun {links} {code} {i} c first v f held g few none near place len l at =
    let n = temporary_bytes f.words in
    let inside = f.inside in
    let back : Base → ℕ = λ b. address b f.resume in
    let up = plus u0 stack_register (pos n) in
    let saves = all_saved u0 held in
    let l1 = back_of up (saves ++ frame_filled) l in
    let n1 = size_append up (saves ++ frame_filled) in
    let n2 = size_append saves frame_filled in
    let r = plus_piece c g u0 stack_register (pos n) (λ b. b.at + (statics_end + 48)) (λ b. b.at + f.at)
    (above_small n (omega (arith, place, inside)))
    (λ b. let v' = b.valid.1 in omega (arith, v'))
    (λ y u. refl)
    (λ b w o. ap (nth 1) o.body.registers)
    (λ b. above_sum b.at (statics_end + 48) n b.valid.1 (omega (arith, place, inside)) ∙ ap (λ u. b.at + u) (sym place))
    (record { reserved_stay = λ y u. refl; known_stay = λ b y u o. o; set = λ y u. refl })
    (record { reserved_stay = λ y u. refl; known_stay = λ b y u o. o; set = λ y u. refl })
    (front_of up (saves ++ frame_filled) l) at in
    let s = saved_piece f.at back (with_frame f back) (record {
      frame = λ b y k. k.0;
      return = λ b y k. k.1.0;
      far =
          record { reserved_stay = λ y u. refl; known_stay = λ b y u o. o; set = λ y u. refl };
    }) zeros held few
    (saving_at f first) (λ b. let v' = b.valid.1 in omega (arith, v', near)) (c + size_of up) (reached r)
    (front_of saves frame_filled l1)
    (λ b. let o = reached_holds r b in record {
      pc = o.pc;
      holds = record {
        body = record {
          services = o.holds.body.services;
          registers = o.holds.body.registers;
          bytes = o.holds.body.bytes;
          memory = subst (λ u. Kept f.at (start_memory first) u) (sym o.holds.body.memory)
              (kept_same f.at (start_memory first));
        };
        regs = o.holds.regs;
      };
    }) in
    let q = straight (c + size_of up + size_of saves) (reached s) v v
    (λ b w. Known (ground_of f first (λ j. Counted (pos 0))) v zeros (first_words first f.at) no_texts b w)
    (back_of saves frame_filled l1) (omega arith) (λ b. (reached_holds s b).pc)
    (λ b. filled_path links code (i + size_of up + size_of saves) first v f held b (reached s b) none len l.small'
    (reached_holds s b).holds) in
    reach_moved (omega (arith, n1, n2)) (omega (arith, n1, n2)) (reach_then r (reach_then s q))
