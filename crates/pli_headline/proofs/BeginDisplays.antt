-- The frame of a block inside another: its place, the frame below it and its display.
use Rattle.std.proofs.Common.{◌≡◌, ℕ, zero, suc, ◌+◌, ◌*◌, ◌%◌, ◌^◌, ◌<◌, ◌≤◌, inl, List, [], ◌∷◌, ◌++◌, length, Bool, true, false, refl, sym, ap, ◌∙◌, arith}
use Rattle.std.specs.Prelude.{pos, cond, ◌==◌}
use Rattle.rv_meaning.specs.declared.instr.Register.{Register}
use Rattle.std.proofs.lemmas.Bool.{eq-eqb, eqb-true}
use Rattle.std.proofs.lemmas.Bool.Decides.{nat_tests}
use Rattle.rv_meaning.specs.declared.instr.Instr.{Instr}
use Rattle.rv_meaning.specs.declared.instr.RegisterOp.TheVariants as Op
use Rattle.rv_meaning.specs.Words.{word, sum, operated}
use Rattle.rv_meaning.specs.Memory.{load, store}
use Rattle.rv_meaning.specs.Machine.{memory_size}
use Rattle.rv_meaning.proofs.MemoryLaws.{length-store, load-store_same, load-store_other}
use Rattle.pli_serving.specs.ServiceState.{Services}
use Rattle.pli_coding.specs.Registers.{frame_register, a0, u0, u1}
use Rattle.pli_coding.specs.Assembly.{Code, size_of}
use Rattle.pli_coding.specs.Instructions.{move, load_word, store_word}
use Rattle.pli_coding.specs.Frames.{frame_below, lower_top, display}
use Rattle.pli_coding.specs.Entries.{display_copied}
use Rattle.pli_coding.specs.Environments.{Environment}
use Rattle.pli_coding.specs.Linking.{Links}
use Rattle.image_runs.specs.Runs.{Whole}
use Rattle.pli_headline.specs.ProvedSoFar.{Names, Types}
use Rattle.run_steps.specs.Engine.{Base, most_code, WordAt}
use Rattle.run_steps.proofs.Linking.{size_append}
use Rattle.run_steps.specs.Items.{Linked, At, Items}
use Rattle.run_steps.proofs.Numbers.{above_sum, above_small}
use Rattle.run_steps.specs.Bodies.{Ground, Known, with', Free, IsNear, PlaceFrom, nth}
use Rattle.run_steps.proofs.Bodies.{frame_is, load_from, store_piece}
use Rattle.run_steps.proofs.Jumps.{front_of, back_of}
use Rattle.run_steps.proofs.Reaching.{reach_moved}
use Rattle.pli_headline.proofs.Statements.{Block}
use Rattle.pli_headline.proofs.InnerFrames.{Inner, Inside, inner_levels, inner_whole, inner_above}
use Rattle.run_steps.specs.Reach.{Family, Reach, reached}
use Rattle.run_steps.proofs.Reach.{reach_then, reach_map, reached_holds}
use Rattle.pli_headline.proofs.Scalars.{Values}

-- ---- places

-- a word of a frame
pub frame_sum : (b : Base) (at x n : ℕ) → at + 164 ≤ 15 * 2 ^ 20 → n ≤ 160 → x ≡ b.at + at → sum x (word (pos n)) ≡ b.at + (at + n)
frame_sum b at x n room few e = ap (λ u. sum u (word (pos n))) e ∙ above_sum b.at at n b.valid.1 (omega (arith, room, few))

abbrev pub frame_word : (b : Base) (at x n : ℕ) → at + 164 ≤ 15 * 2 ^ 20 → at % 4 ≡ 0 → n % 4 ≡ 0 → n ≤ 160 → x ≡ b.at + at → WordAt b (sum x (word (pos n)))
frame_word b at x n room whole even few e =
    record {
      offset = at + n;
      is = frame_sum b at x n room few e;
      aligned = omega (arith, whole, even);
      inside = omega (arith, room, few);
    }

pub unmoved : (b : Base) (at x : ℕ) → at + 164 ≤ 15 * 2 ^ 20 → x ≡ b.at + at → sum x (word (pos 0)) ≡ b.at + at
unmoved b at x room e = let v = b.valid.1 in omega (arith, e, v, room)

pub own_is : (b : Base) (at x : ℕ) → at + 164 ≤ 15 * 2 ^ 20 → x ≡ b.at + at → operated Op.Subtract x b.at ≡ at
own_is b at x room e = let v = b.valid.1 in omega (arith, e, v, room)

-- ---- reserved registers

abbrev behind_first : List ℕ → List ℕ
behind_first [] = []
behind_first (u ∷ us) = us

pub moved_reserved : (z x x' y y' : ℕ) (hs hs' : List ℕ) → (z ∷ hs) ≡ (0 ∷ hs') → x ≡ x' → y ≡ y' → (z ∷ x ∷ y ∷ hs) ≡ (0 ∷ x' ∷ y' ∷ hs')
moved_reserved z x x' y y' hs hs' s e f =
    ap (λ u. u ∷ x ∷ y ∷ hs) (ap (nth 0) s) ∙ ap (λ u. 0 ∷ u ∷ y ∷ hs) e ∙ ap (λ u. 0 ∷ x' ∷ u ∷ hs) f ∙ ap (λ u. 0 ∷ x' ∷ y' ∷ u) (ap behind_first s)

-- a list without its second and third entries
abbrev pub without_two : List ℕ → List ℕ
without_two (z ∷ x ∷ y ∷ h) = z ∷ h
without_two _ = []

-- ---- what stands then

-- of no word for temporaries anything is known
abbrev pub unknown : ℕ → ℕ
unknown j = 2 ^ 32

-- the frame below, and then the frames of so many levels
pub record Begun (around : Base → List ℕ → Type 0) (outer at : ℕ) (b : Base) (m : List ℕ) : Type 0 where
  pub kept : around b m
  pub below : load 4 m (at + 4) ≡ b.at + outer

pub record Displayed (around : Base → List ℕ → Type 0) (outer count : ℕ) (levels : ℕ → ℕ) (at : ℕ) (b : Base) (m : List ℕ) : Type 0 where
  pub begun : Begun around outer at b m
  pub shown : (j : ℕ) → j < count → load 4 m (at + (144 + 4 * j)) ≡ b.at + levels j

-- the frame's register is set, but the stack's isn't yet
abbrev pub middle_ground : {e : Environment} {block : Names} {types : Types} (bl : Block e block types) → Inner bl → Values → (Base → List ℕ → Type 0) → Ground
middle_ground bl inner n memory =
    record {
      frame = inner.at;
      free = (bl.ground n).free;
      words = inner.words;
      memory = λ t. memory;
      whole = inner_whole inner.at bl.stack.free inner.words inner.place bl.stack.aligned;
      above_code = let a = inner_above inner.at bl.stack.free inner.words inner.place in let h = bl.stack.high in omega (arith, a, h);
      inside = let r = inner.room in omega (arith, r);
    }

abbrev pub begun_ground : {e : Environment} {block : Names} {types : Types} (bl : Block e block types) → Inner bl → (t0 : ℕ → ℕ) → Values → Ground
begun_ground bl inner t0 n = middle_ground bl inner n (Begun ((bl.ground n).memory t0) bl.stack.frame inner.at)

abbrev pub displayed_ground : {e : Environment} {block : Names} {types : Types} (bl : Block e block types) → Inner bl → (t0 : ℕ → ℕ) → (count : ℕ) → Values → Ground
displayed_ground bl inner t0 count n =
    middle_ground bl inner n (Displayed ((bl.ground n).memory t0) bl.stack.frame count (inner_levels bl) inner.at)

abbrev pub owned_ground : {e : Environment} {block : Names} {types : Types} (bl : Block e block types) → Inner bl → (t0 : ℕ → ℕ) → Values → Ground
owned_ground {e} bl inner t0 n =
    middle_ground bl inner n (λ b m. Inside ((bl.ground n).memory t0) bl.stack.frame (suc e.level) (inner_levels bl) inner.at inner.words unknown b m)

-- ---- the frame below

abbrev pub begun_code : Code
begun_code =
    store_word u0 frame_register frame_below
    ++ (load_word u1 frame_register lower_top ++ (move frame_register u0 ∷ store_word frame_register u1 lower_top))

abbrev pub outer_regs : (at : ℕ) → Base → List (ℕ × ℕ)
outer_regs at b = (10, b.at + at) ∷ []

abbrev pub both_regs : (at outer : ℕ) → Base → List (ℕ × ℕ)
both_regs at outer b = (5, b.at + at) ∷ (10, b.at + outer) ∷ []

pub begun_path : {e : Environment} {block : Names} {types : Types} (bl : Block e block types) (inner : Inner bl) (n : Values) (links : Links) (code : List Instr) (i : ℕ) (v : Services) (h t0 : ℕ → ℕ) (b : Base) (w : Whole) → length code ≤ most_code → Known (bl.ground n) v h t0 (both_regs inner.at (bl.ground n).frame) b w → Items links code b i begun_code w (Known (begun_ground bl inner t0 n) v h unknown (outer_regs (bl.ground n).frame) b)
begun_path bl inner n links code i v h t0 b w small' k =
    let g = bl.ground n in
    let x = w.machine.registers in
    let m = w.machine.memory in
    let at = inner.at in
    let above = inner_above at bl.stack.free inner.words inner.place in
    let whole = inner_whole at bl.stack.free inner.words inner.place bl.stack.aligned in
    let room = inner.room in
    let high = bl.stack.high in
    let over = bl.stack.above in
    let same = bl.stack.frame_is n in
    let around = g.whole in
    let e' = k.regs.0 in
    let fp : x 8 ≡ b.at + g.frame = frame_is k.body in
    let e2 = unmoved b at (x 5) (omega (arith, room)) e' in
    let room' : g.frame + 164 ≤ 15 * 2 ^ 20 = omega (arith, same, over, above, room) in
    let low : 4 * length code ≤ at = omega (arith, small', above, high) in
    let m1 = store 4 m (at + 4) (x 8) in
    let top = load 4 m1 (g.frame + 40) in
    let v' = b.valid.1 in
    let keeps = λ (m' : List ℕ) (p x : ℕ). bl.stack.keeps n t0 b m' 4 p x in (
      frame_word b at (x 5) 4 (omega (arith, room)) whole refl (omega arith) e',
      omega (arith, low),
      (
        frame_word b g.frame (x 8) 40 room' around refl (omega arith) fp,
        (
          frame_word b at (sum (x 5) (word (pos 0))) 40 (omega (arith, room)) whole refl (omega arith) e2,
          omega (arith, low),
          record {
            body = record {
              services = k.body.services;
              registers = moved_reserved (x 0) _ _ _ _ _ _ (ap without_two k.body.registers) (ap (nth 1) k.body.registers) e2;
              bytes = length-store 4 m1 (at + 40) top ∙ length-store 4 m (at + 4) (x 8) ∙ k.body.bytes;
              memory = record {
                kept = keeps m1 (at + 40) top (omega (arith, above)) (keeps m (at + 4) (x 8) (omega (arith, above)) k.body.memory);
                below =
                    load-store_other 4 4 m1 (at + 40) top (at + 4) (inl (omega arith))
                    ∙ load-store_same 4 m (at + 4) (x 8) (omega (arith, fp, room', v')) (let q = k.body.bytes in omega (arith, q, room))
                    ∙ fp
                    ∙ ap (λ u. b.at + u) same;
              };
            };
            regs = (k.regs.1.0, tt);
          },
        ),
      ),
    )

-- ---- the display

display_place : (at n : ℕ) → at % 4 ≡ 0 → 7 * 2 ^ 20 ≤ at → at ≤ 14 * 2 ^ 20 → n ≤ 100 → PlaceFrom at (display n) (at + (144 + 4 * n))
display_place at n whole high room few =
    record {
      small' = above_small (144 + 4 * n) (omega (arith, few));
      sums = λ b. above_sum b.at at (144 + 4 * n) b.valid.1 (omega (arith, room, few));
      aligned = omega (arith, whole);
      inside = omega (arith, room, few);
      above_code = omega (arith, high);
    }

pub outer_place : (at j : ℕ) → at % 4 ≡ 0 → 2 ^ 22 ≤ at → at ≤ 14 * 2 ^ 20 → j ≤ 100 → PlaceFrom at (display j) (at + (144 + 4 * j))
outer_place at j whole high room few =
    record {
      small' = above_small (144 + 4 * j) (omega (arith, few));
      sums = λ b. above_sum b.at at (144 + 4 * j) b.valid.1 (omega (arith, room, few));
      aligned = omega (arith, whole);
      inside = omega (arith, room, few);
      above_code = omega (arith, high);
    }

-- a word of the display of the frame around comes into a register
word_loaded : {e : Environment} {block : Names} {types : Types} (bl : Block e block types) (inner : Inner bl) (n : Values) {links : Links} {code : List Instr} {i : ℕ} {v : Services} {h t0 : ℕ → ℕ} (c : ℕ) (f : Family) (j : ℕ) → j < e.level → e.level ≤ 100 → Linked links code i (load_word u1 a0 (display j)) → ((b : Base) → At b i (Known (displayed_ground bl inner t0 j n) v h unknown (outer_regs (bl.ground n).frame) b) (f b)) → Reach code c f v (c + size_of (load_word u1 a0 (display j))) v (λ b w. At b (i + size_of (load_word u1 a0 (display j))) (Known (displayed_ground bl inner t0 j n) v h unknown (with' 6 (λ b'. b'.at + bl.levels j) (outer_regs (bl.ground n).frame)) b) w)
word_loaded bl inner n {t0 = t0} c f j below few l at =
    let g = bl.ground n in
    let above = inner_above inner.at bl.stack.free inner.words inner.place in
    let room = inner.room in
    let over = bl.stack.above in
    let same = bl.stack.frame_is n in
    let high = g.above_code in
    load_from c f u1 a0 (display j) g.frame (g.frame + (144 + 4 * j)) (λ b. b.at + bl.levels j)
    (outer_place g.frame j g.whole (omega (arith, high)) (omega (arith, above, room, over, same)) (omega (arith, below, few)))
    (let o = g.inside in omega (arith, o)) (λ y u. refl) (λ b w k. k.regs.0)
    (λ b m k. ap (λ u. load 4 m (u + (144 + 4 * j))) same ∙ bl.displays n t0 b m j below k.begun.kept)
    (record { reserved_stay = λ y u. refl; known_stay = λ b y u q. (q.0, tt); set = λ y u. refl })
    (record { reserved_stay = λ y u. refl; known_stay = λ b y u q. (q.0, tt); set = λ y u. refl })
    l at

shown_by : (q : Bool) (m : List ℕ) (at i j : ℕ) (y : ℕ → ℕ) → (i == j) ≡ q → i < suc j → y j < 2 ^ 32 → at + (148 + 4 * j) ≤ length m → (i < j → load 4 m (at + (144 + 4 * i)) ≡ y i) → load 4 (store 4 m (at + (144 + 4 * j)) (y j)) (at + (144 + 4 * i)) ≡ y i
shown_by true m at i j y e below fits room known =
    let same : i ≡ j = eqb-true i j e in
    ap (λ u. load 4 (store 4 m (at + (144 + 4 * j)) (y j)) (at + (144 + 4 * u))) same ∙ load-store_same 4 m (at + (144 + 4 * j)) (y j) fits (omega (arith, room)) ∙ ap y (sym same)
shown_by false m at i j y e below fits room known =
    let under : i < j = grind (arith, nat_tests) in
    load-store_other 4 4 m (at + (144 + 4 * j)) (y j) (at + (144 + 4 * i)) (inl (omega (arith, under))) ∙ known under

-- a register goes into the word of a level
word_stored : {e : Environment} {block : Names} {types : Types} (bl : Block e block types) (inner : Inner bl) (n : Values) {links : Links} {code : List Instr} {i : ℕ} {v : Services} {h t0 : ℕ → ℕ} {rs : Base → List (ℕ × ℕ)} (c : ℕ) (f : Family) (r : Register) (j : ℕ) → j ≤ 100 → inner_levels bl j < memory_size → IsNear r.index → ((b : Base) (w : Whole) → Known (displayed_ground bl inner t0 j n) v h unknown rs b w → w.machine.registers r.index ≡ b.at + inner_levels bl j) → Free rs 31 → Linked links code i (store_word frame_register r (display j)) → ((b : Base) → At b i (Known (displayed_ground bl inner t0 j n) v h unknown rs b) (f b)) → Reach code c f v (c + size_of (store_word frame_register r (display j))) v (λ b w. At b (i + size_of (store_word frame_register r (display j))) (Known (displayed_ground bl inner t0 (suc j) n) v h unknown rs b) w)
word_stored bl inner n {t0 = t0} c f r j few small' near value free l at =
    let above = inner_above inner.at bl.stack.free inner.words inner.place in
    let whole = inner_whole inner.at bl.stack.free inner.words inner.place bl.stack.aligned in
    let room = inner.room in
    let high = bl.stack.high in
    store_piece (displayed_ground bl inner t0 (suc j) n) unknown c f r (display j) (inner.at + (144 + 4 * j)) (λ b. b.at + inner_levels bl j)
    (display_place inner.at j whole (omega (arith, above, high)) (omega (arith, room)) few)
    near value (λ b. refl)
    (λ b m len o. record {
      begun = record {
        kept = bl.stack.keeps n t0 b m 4 (inner.at + (144 + 4 * j)) (b.at + inner_levels bl j) (omega (arith, above)) o.begun.kept;
        below = load-store_other 4 4 m (inner.at + (144 + 4 * j)) (b.at + inner_levels bl j) (inner.at + 4) (inl (omega arith)) ∙ o.begun.below;
      };
      shown = λ i h. shown_by (i == j) m inner.at i j (λ u. b.at + inner_levels bl u) refl h (let v' = b.valid.1 in omega (arith, v', small')) (omega (arith, len, room, few)) (λ under. o.shown i under);
    })
    free l at

own_level : {e : Environment} {block : Names} {types : Types} (bl : Block e block types) (j : ℕ) → j ≡ e.level → inner_levels bl j ≡ bl.stack.frame
own_level {e} bl j same = ap (λ q. cond q bl.stack.frame (bl.levels j)) (eq-eqb j e.level same)

outer_level : {e : Environment} {block : Names} {types : Types} (bl : Block e block types) (j : ℕ) → j < e.level → inner_levels bl j ≡ bl.levels j
outer_level {e} bl j below =
    let other : (j == e.level) ≡ false = grind (arith, nat_tests) in
    ap (λ q. cond q bl.stack.frame (bl.levels j)) other

copied : {e : Environment} {block : Names} {types : Types} (bl : Block e block types) (inner : Inner bl) (n : Values) (left j : ℕ) {links : Links} {code : List Instr} {i : ℕ} {v : Services} {h t0 : ℕ → ℕ} (c : ℕ) (f : Family) → j + left ≡ e.level → e.level ≤ 100 → Linked links code i (display_copied j left) → ((b : Base) → At b i (Known (displayed_ground bl inner t0 j n) v h unknown (outer_regs (bl.ground n).frame) b) (f b)) → Reach code c f v (c + size_of (display_copied j left)) v (λ b w. At b (i + size_of (display_copied j left)) (Known (displayed_ground bl inner t0 (suc e.level) n) v h unknown (outer_regs (bl.ground n).frame) b) w)
copied {e} bl inner n zero j {i = i} {v = v} {h = h} {t0 = t0} c f total few l at =
    let g = bl.ground n in
    let same : j ≡ e.level = omega (arith, total) in
    let own = own_level bl j same in
    let room = inner.room in
    let above = inner_above inner.at bl.stack.free inner.words inner.place in
    let over = bl.stack.above in
    reach_map (λ b w. At b (i + size_of (display_copied j zero)) (Known (displayed_ground bl inner t0 (suc e.level) n) v h unknown (outer_regs g.frame) b) w)
    (word_stored bl inner n c f a0 j (omega (arith, same, few)) (omega (arith, own, room, above, over)) (λ y u. refl) (λ b w k. k.regs.0 ∙ ap (λ u. b.at + u) (bl.stack.frame_is n ∙ sym own)) (record { reserved_stay = λ y u. refl; known_stay = λ b y u q. (q.0, tt); set = λ y u. refl }) l at)
    (λ b w o. let m = o.holds.body.memory in record {
      pc = o.pc;
      holds = record {
        body = record { services = o.holds.body.services; registers = o.holds.body.registers; bytes = o.holds.body.bytes; memory = record { begun = m.begun; shown = λ u below. m.shown u (omega (arith, below, same)) } };
        regs = o.holds.regs;
      };
    })
copied {e} bl inner n (suc left) j {i = i} {v = v} {h = h} {t0 = t0} c f total few l at =
    let g = bl.ground n in
    let a = load_word u1 a0 (display j) in
    let s = store_word frame_register u1 (display j) in
    let rest = display_copied (suc j) left in
    let l2 = back_of a (s ++ rest) l in
    let n1 = size_append a (s ++ rest) in
    let n2 = size_append s rest in
    let under : j < e.level = omega (arith, total) in
    let level = outer_level bl j under in
    let room = bl.level_room j under in
    let r1 = word_loaded bl inner n c f j under few (front_of a (s ++ rest) l) at in
    let r2 = word_stored bl inner n (c + size_of a) (reached r1) u1 j (omega (arith, under, few)) (omega (arith, level, room)) (λ y u. refl) (λ b w k. k.regs.0 ∙ ap (λ u. b.at + u) (sym level)) (record { reserved_stay = λ y u. refl; known_stay = λ b y u q. (q.0, (q.1.0, tt)); set = λ y u. refl }) (front_of s rest l2) (reached_holds r1) in
    let r2' = reach_map (λ b w. At b (i + size_of a + size_of s) (Known (displayed_ground bl inner t0 (suc j) n) v h unknown (outer_regs g.frame) b) w) r2 (λ b w o. record { pc = o.pc; holds = record { body = o.holds.body; regs = (o.holds.regs.1.0, tt) } }) in
    let r3 = copied bl inner n left (suc j) (c + size_of a + size_of s) (reached r2') (omega (arith, total)) few (back_of s rest l2) (reached_holds r2') in
    reach_moved (omega (arith, n1, n2)) (omega (arith, n1, n2)) (reach_then r1 (reach_then r2' r3))

-- the whole display, from that of the frame around
pub display_piece : {e : Environment} {block : Names} {types : Types} (bl : Block e block types) (inner : Inner bl) (n : Values) {links : Links} {code : List Instr} {i : ℕ} {v : Services} {h t0 : ℕ → ℕ} (c : ℕ) (f : Family) → e.level ≤ 100 → Linked links code i (display_copied 0 e.level) → ((b : Base) → At b i (Known (begun_ground bl inner t0 n) v h unknown (outer_regs (bl.ground n).frame) b) (f b)) → Reach code c f v (c + size_of (display_copied 0 e.level)) v (λ b w. At b (i + size_of (display_copied 0 e.level)) (Known (displayed_ground bl inner t0 (suc e.level) n) v h unknown (outer_regs (bl.ground n).frame) b) w)
display_piece {e} bl inner n c f few l at =
    copied bl inner n e.level 0 c f (omega arith) few l
    (λ b. let o = (at b).holds in record {
      pc = (at b).pc;
      holds = record {
        body = record { services = o.body.services; registers = o.body.registers; bytes = o.body.bytes; memory = record { begun = o.body.memory; shown = λ j below. absurd (omega (arith, below)) } };
        regs = o.regs;
      };
    })
