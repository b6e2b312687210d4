-- A block inside another one begins: its frame is filled, above the temporaries of its own.
use Rattle.std.proofs.Common.{◌≡◌, ℕ, suc, ◌+◌, ◌*◌, ◌<◌, ◌≤◌, inl, inr, List, [], ◌∷◌, ◌++◌, length, refl, ap, ◌∙◌}
use Rattle.std.proofs.Common.{arith, None}
use Rattle.std.specs.Prelude.{pos}
use Rattle.rv_meaning.specs.declared.instr.Instr.TheVariants as I
use Rattle.rv_meaning.specs.declared.instr.ImmediateOp.TheVariants as Imm
use Rattle.rv_meaning.specs.declared.instr.Instr.{Instr}
use Rattle.rv_meaning.specs.declared.instr.RegisterOp.TheVariants as Op
use Rattle.rv_meaning.specs.Words.{operated}
use Rattle.rv_meaning.proofs.MemoryLaws.{length-store, load-store_same, load-store_other}
use Rattle.pli_serving.specs.ServiceState.{Services}
use Rattle.pli_coding.specs.Registers.{stack_register, frame_register, a0, u0, u1}
use Rattle.pli_coding.specs.Assembly.{BaseIn, Code, size_of}
use Rattle.pli_coding.specs.Instructions.{subtract, move, plus, store_word, is_immediate}
use Rattle.pli_coding.specs.Frames.{own_offset, fixed_size, temporary_bytes}
use Rattle.pli_coding.specs.Entries.{display_copied, frame_begun}
use Rattle.pli_coding.specs.Environments.{Environment}
use Rattle.pli_coding.specs.Linking.{Links}
use Rattle.image_runs.specs.Runs.{Whole}
use Rattle.pli_headline.specs.ProvedSoFar.{Names, Types}
use Rattle.run_steps.specs.Engine.{Base, most_code}
use Rattle.run_steps.proofs.Linking.{size_append}
use Rattle.run_steps.specs.Items.{Linked, At, Items}
use Rattle.run_steps.proofs.Items.{straight}
use Rattle.run_steps.proofs.Numbers.{above_sum, above_small}
use Rattle.run_steps.specs.Bodies.{Known, nth}
use Rattle.run_steps.proofs.Bodies.{frame_is, displaced_by, plus_piece}
use Rattle.run_steps.proofs.Jumps.{front_of, back_of}
use Rattle.run_steps.specs.Temporaries.{nothing}
use Rattle.run_steps.proofs.Reaching.{reach_moved}
use Rattle.pli_headline.proofs.Statements.{Block}
use Rattle.pli_headline.proofs.InnerFrames.{Inner, inner_whole, inner_above, inner_ground}
use Rattle.run_steps.specs.Reach.{Family, Reach, reached}
use Rattle.run_steps.proofs.Reach.{reach_then, reached_holds}
use Rattle.pli_headline.proofs.BeginDisplays.{frame_word, own_is, unmoved, moved_reserved, without_two, unknown, begun_ground, displayed_ground, owned_ground, begun_code, outer_regs, begun_path, display_piece}
use Rattle.pli_headline.proofs.Scalars.{Values}

-- ---- the frame's own offset, and the stack's register

abbrev owned_code : Code
owned_code = BaseIn u1 ∷ subtract u1 frame_register u1 ∷ store_word frame_register u1 own_offset

owned_path : {e : Environment} {block : Names} {types : Types} (bl : Block e block types) (inner : Inner bl) (n : Values) (links : Links) (code : List Instr) (i : ℕ) (v : Services) (h t0 : ℕ → ℕ) (b : Base) (w : Whole) → length code ≤ most_code → Known (displayed_ground bl inner t0 (suc e.level) n) v h unknown (outer_regs (bl.ground n).frame) b w → Items links code b i owned_code w (Known (owned_ground bl inner t0 n) v h unknown nothing b)
owned_path {e} bl inner n links code i v h t0 b w small' k =
    let x = w.machine.registers in
    let m = w.machine.memory in
    let at = inner.at in
    let above = inner_above at bl.stack.free inner.words inner.place in
    let whole = inner_whole at bl.stack.free inner.words inner.place bl.stack.aligned in
    let room = inner.room in
    let high = bl.stack.high in
    let fp : x 8 ≡ b.at + at = frame_is k.body in
    let own = operated Op.Subtract (x 8) b.at in
    let mine = own_is b at (x 8) (omega (arith, room)) fp in
    let o = k.body.memory in (
      refl,
      (
        frame_word b at (x 8) 36 (omega (arith, room)) whole refl (omega arith) fp,
        omega (arith, small', above, high),
        record {
          body = record {
            services = k.body.services;
            registers = k.body.registers;
            bytes = length-store 4 m (at + 36) own ∙ k.body.bytes;
            memory = record {
              kept = bl.stack.keeps n t0 b m 4 (at + 36) own (omega (arith, above)) o.begun.kept;
              below = load-store_other 4 4 m (at + 36) own (at + 4) (inl (omega arith)) ∙ o.begun.below;
              own = load-store_same 4 m (at + 36) own (omega (arith, mine, room)) (let q = k.body.bytes in omega (arith, q, room)) ∙ mine;
              shown = λ j h. load-store_other 4 4 m (at + 36) own (at + (144 + 4 * j)) (inr (omega arith)) ∙ o.shown j h;
              temporaries = λ j below known. absurd (omega (arith, known));
            };
          };
          regs = tt;
        },
      ),
    )

raised_piece : {e : Environment} {block : Names} {types : Types} (bl : Block e block types) (inner : Inner bl) (n : Values) {links : Links} {code : List Instr} {i : ℕ} {v : Services} {h t0 : ℕ → ℕ} (c : ℕ) (f : Family) → Linked links code i (plus stack_register frame_register (pos (fixed_size (suc e.level) 0))) → ((b : Base) → At b i (Known (owned_ground bl inner t0 n) v h unknown nothing b) (f b)) → Reach code c f v (c + size_of (plus stack_register frame_register (pos (fixed_size (suc e.level) 0)))) v (λ b w. At b (i + size_of (plus stack_register frame_register (pos (fixed_size (suc e.level) 0)))) (Known (inner_ground bl inner t0 n) v h unknown nothing b) w)
raised_piece {e} bl inner n {v = v} {h = h} {t0 = t0} c f l at =
    let size = fixed_size (suc e.level) 0 in
    let room = inner.room in
    displaced_by (is_immediate (pos size)) c f (λ q d. I.Immediate Imm.Add stack_register q d) frame_register (pos size) (λ b. b.at + inner.at) (Known (owned_ground bl inner t0 n) v h unknown nothing) (Known (inner_ground bl inner t0 n) v h unknown nothing) (above_small size (omega (arith, room)))
    (λ b. let v' = b.valid.1 in omega (arith, v', room))
    (λ y u. refl)
    (λ b. frame_is (at b).holds.body)
    (omega arith)
    (record {
      does = λ b j w q d k s. record {
        body = record {
          services = k.body.services;
          registers = moved_reserved (w.machine.registers 0) _ _ _ _ _ _ (ap without_two k.body.registers) (s ∙ above_sum b.at inner.at size b.valid.1 (omega (arith, room))) (frame_is k.body);
          bytes = k.body.bytes;
          memory = k.body.memory;
        };
        regs = tt;
      };
      lost = λ b w u i' k. record { body = record { services = k.body.services; registers = k.body.registers; bytes = k.body.bytes; memory = k.body.memory }; regs = tt };
    })
    l at

-- ---- the frame is begun

abbrev pub inner_begun : (words level : ℕ) → Code
inner_begun words level = move a0 frame_register ∷ frame_begun words level 0 None

pub inner_frame : {e : Environment} {block : Names} {types : Types} (bl : Block e block types) (inner : Inner bl) (n : Values) {links : Links} {code : List Instr} {i : ℕ} {v : Services} {h t0 : ℕ → ℕ} (c : ℕ) (f : Family) → e.level < 100 → 0 < i → Linked links code i (inner_begun inner.words (suc e.level)) → ((b : Base) → At b i (Known (bl.ground n) v h t0 nothing b) (f b)) → Reach code c f v (c + size_of (inner_begun inner.words (suc e.level))) v (λ b w. At b (i + size_of (inner_begun inner.words (suc e.level))) (Known (inner_ground bl inner t0 n) v h unknown nothing b) w)
inner_frame {e} bl inner n {links} {code} {i} {v} {h} {t0} c f few later l at =
    let g = bl.ground n in
    let size = temporary_bytes inner.words in
    let up = plus u0 stack_register (pos size) in
    let copied = display_copied 0 e.level in
    let raised = plus stack_register frame_register (pos (fixed_size (suc e.level) 0)) in
    let first = move a0 frame_register ∷ [] in
    let r5 = owned_code ++ raised in
    let r4 = copied ++ r5 in
    let r3 = begun_code ++ r4 in
    let l2 = back_of first (up ++ r3) l in
    let l3 = back_of up r3 l2 in
    let l4 = back_of begun_code r4 l3 in
    let l5 = back_of copied r5 l4 in
    let n1 = size_append up r3 in
    let n2 = size_append copied r5 in
    let room = inner.room in
    let place = inner.place in
    let free = bl.stack.free_is n in
    let same = bl.stack.frame_is n in
    let over = bl.stack.above in
    let s1 = straight c f v v (λ b w. Known g v h t0 (outer_regs g.frame) b w) (front_of first (up ++ r3) l) (omega arith) (λ b. (at b).pc)
    (λ b. let o = (at b).holds in record {
      body = record { services = o.body.services; registers = o.body.registers; bytes = o.body.bytes; memory = o.body.memory };
      regs = (unmoved b g.frame ((f b).machine.registers 8) (omega (arith, room, place, same, over)) (frame_is o.body), tt);
    }) in
    let s2 = plus_piece (c + 1) (reached s1) u0 stack_register (pos size) (λ b. b.at + g.free) (λ b. b.at + inner.at)
    (above_small size (omega (arith, room, place)))
    (λ b. let v' = b.valid.1 in omega (arith, v', room, place, free))
    (λ y u. refl)
    (λ b w o. ap (nth 1) o.body.registers)
    (λ b. above_sum b.at g.free size b.valid.1 (omega (arith, room, place, free)) ∙ ap (λ u. b.at + u) (omega (arith, place, free)))
    (record { reserved_stay = λ y u. refl; known_stay = λ b y u o. (o.0, tt); set = λ y u. refl })
    (record { reserved_stay = λ y u. refl; known_stay = λ b y u o. (o.0, tt); set = λ y u. refl })
    (front_of up r3 l2) (reached_holds s1) in
    let c2 = c + 1 + size_of up in
    let s3 = straight c2 (reached s2) v v (λ b w. Known (begun_ground bl inner t0 n) v h unknown (outer_regs g.frame) b w) (front_of begun_code r4 l3) (omega arith) (λ b. (reached_holds s2 b).pc)
    (λ b. begun_path bl inner n links code (i + 1 + size_of up) v h t0 b (reached s2 b) l.small' (reached_holds s2 b).holds) in
    let s4 = display_piece bl inner n (c2 + 4) (reached s3) (omega (arith, few)) (front_of copied r5 l4) (reached_holds s3) in
    let c4 = c2 + 4 + size_of copied in
    let s5 = straight c4 (reached s4) v v (λ b w. Known (owned_ground bl inner t0 n) v h unknown nothing b w) (front_of owned_code raised l5) (omega arith) (λ b. (reached_holds s4 b).pc)
    (λ b. owned_path bl inner n links code (i + 1 + size_of up + 4 + size_of copied) v h t0 b (reached s4 b) l.small' (reached_holds s4 b).holds) in
    let s6 = raised_piece bl inner n (c4 + 4) (reached s5) (back_of owned_code raised l5) (reached_holds s5) in
    reach_moved (omega (arith, n1, n2)) (omega (arith, n1, n2)) (reach_then s1 (reach_then s2 (reach_then s3 (reach_then s4 (reach_then s5 s6)))))
