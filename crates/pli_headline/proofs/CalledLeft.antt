-- A called procedure is left (service 5), and goes back to where it was called.
use Rattle.std.proofs.Common.{◌≡◌, ℕ, ◌+◌, ◌^◌, ◌≤◌, List, [], ◌∷◌, ◌++◌, length, refl, sym, ap, ◌∙◌, arith, lit<}
use Rattle.std.specs.Prelude.{pos, neg_ℤ}
use Rattle.rv_meaning.specs.declared.instr.Instr.{Instr}
use Rattle.rv_meaning.specs.declared.instr.Instr.TheVariants as I
use Rattle.rv_meaning.specs.declared.instr.ImmediateOp.TheVariants as Imm
use Rattle.rv_meaning.specs.Words.{word, sum}
use Rattle.pli_serving.specs.ServiceState as S
use Rattle.pli_serving.specs.ServiceState.{Services}
use Rattle.pli_serving.specs.Answers.{Done}
use Rattle.pli_serving.specs.Blocks as K
use Rattle.pli_coding.specs.Registers.{zero_register, return_register, stack_register, frame_register, a0, a7}
use Rattle.pli_coding.specs.Assembly.{Plain, Code, size_of}
use Rattle.pli_coding.specs.Instructions.{small, plus, load_word, is_immediate}
use Rattle.pli_coding.specs.Frames.{frame_below, temporary_bytes}
use Rattle.pli_coding.specs.Entries.{all_restored, block_left, frame_ended}
use Rattle.pli_coding.specs.Environments.{Environment}
use Rattle.pli_coding.specs.Procedures.{frame_returned}
use Rattle.pli_coding.specs.Linking.{Links}
use Rattle.image_runs.specs.Runs.{Whole}
use Rattle.pli_headline.specs.ProvedSoFar.{Names, Types}
use Rattle.run_steps.specs.Engine.{Base, address, most_code}
use Rattle.run_steps.proofs.Linking.{size_append}
use Rattle.run_steps.specs.Items.{Linked, At}
use Rattle.run_steps.proofs.Items.{straight}
use Rattle.run_steps.proofs.Numbers.{below_sum, below_small}
use Rattle.run_steps.specs.Bodies.{Ground, Known, nth, reserved, with'}
use Rattle.run_steps.proofs.Bodies.{zero_is, frame_is, displaced_by}
use Rattle.run_steps.proofs.Jumps.{front_of, back_of, hop, jump_register}
use Rattle.run_steps.specs.Temporaries.{nothing}
use Rattle.run_steps.proofs.Reaching.{reach_moved}
use Rattle.run_steps.specs.SavedRegisters.{SavedIn, held_again}
use Rattle.run_steps.proofs.SavedRegisters.{restored_piece}
use Rattle.run_steps.specs.Calls.{Calling}
use Rattle.run_steps.proofs.Calls.{called, call_done}
use Rattle.pli_headline.proofs.Raising.{small_is}
use Rattle.pli_headline.proofs.Statements.{lower_ground, Block}
use Rattle.pli_headline.proofs.InnerFrames.{inner_whole, inner_above}
use Rattle.pli_headline.proofs.BeginDisplays.{frame_word, moved_reserved, without_two}
use Rattle.pli_headline.proofs.BeginEntered.{ended_services, leave_answer}
use Rattle.pli_headline.proofs.CalledFrames.{Callee, called_ground}
use Rattle.run_steps.specs.Reach.{Family, Reach, reached}
use Rattle.run_steps.proofs.Reach.{reach_then, reached_holds}
use Rattle.pli_headline.proofs.Scalars.{Values}

-- the end of a procedure without a result, behind its mark
abbrev pub called_ended : (words held : ℕ) → Code
called_ended words held = block_left 0 ++ frame_returned words held

abbrev jump_back : Code
jump_back = Plain (I.JumpRegister zero_register return_register (pos 0)) ∷ []

return_sum : (b : Base) (x j : ℕ) → j ≤ most_code → x ≡ address b j → sum x (word (pos 0)) ≡ address b j
return_sum b x j near e = let v = b.valid.1 in omega (arith, e, near, v)

-- whatever the stack's register is
abbrev pub ending_ground : {e : Environment} {block : Names} {types : Types} (bl : Block e block types) → Callee bl → (back : Base → ℕ) → (h0 t0 : ℕ → ℕ) → Values → (free : ℕ) → Ground
ending_ground bl callee back h0 t0 n free = lower_ground (called_ground bl callee back h0 t0 n) free

pub ending_saved : {e : Environment} {block : Names} {types : Types} (bl : Block e block types) (callee :
    Callee bl) (back : Base → ℕ) (h0 t0 : ℕ → ℕ) (n : Values) (free : ℕ) (t : ℕ → ℕ)
    → SavedIn (ending_ground bl callee back h0 t0 n free) t back h0 callee.held
ending_saved bl callee back h0 t0 n free t =
    let above = inner_above callee.at bl.stack.free callee.words callee.place in
    let room = callee.room in
    let high = bl.stack.high in
    record { most = callee.few; high = omega (arith, above, high); room = omega (arith, room); has = λ b m o. o.kept.1 }

-- service 5
asked_piece : {e : Environment} {block : Names} {types : Types} (bl : Block e block types) (callee : Callee bl) (back : Base → ℕ) (n : Values) (free : ℕ) {links : Links} {code : List Instr} {i : ℕ} {v : Services} {h0 h t0 t : ℕ → ℕ} (c : ℕ) (f : Family) (a : S.Activation) (rest : List S.Activation) → v.activations ≡ a ∷ rest → Linked links code i (block_left 0) → ((b : Base) → At b i (Known (ending_ground bl callee back h0 t0 n free) v h t nothing b) (f b)) → Reach code c f v (c + 3) (ended_services v a rest) (λ b w. At b (i + 3) (Known (ending_ground bl callee back h0 t0 n free) (ended_services v a rest) h t nothing b) w)
asked_piece bl callee back n free {links} {code} {i} {v} {h0} {h} {t0} {t} c f a rest e l there =
    let ground = ending_ground bl callee back h0 t0 n free in
    let v' = ended_services v a rest in
    let asked = small a0 0 ∷ small a7 5 ∷ [] in
    let call = Plain I.Ecall ∷ [] in
    let r1 = straight c f v v (λ b w. Known ground v h t (λ b'. (17, 5) ∷ (10, 0) ∷ []) b w) (front_of asked call l) (omega arith) (λ b. (there b).pc)
    (λ b. let o = (there b).holds in let z' = zero_is o.body in record {
      body = record { services = o.body.services; registers = o.body.registers; bytes = o.body.bytes; memory = o.body.memory };
      regs = (small_is _ 5 z' (lit< tt), (small_is _ 0 z' (lit< tt), tt));
    }) in
    let calling : Calling _ code (i + 2) (reached r1) (λ b. Done v' (reached r1 b).machine.memory 0 ((reached r1 b).machine.registers 11)) = record {
      linked = back_of asked call l;
      pc = λ b. (reached_holds r1 b).pc;
      answers = λ b.
          let o = (reached_holds r1 b).holds in
          called code (reached r1 b) v 5 0 ((reached r1 b).machine.registers 11) _ _ _ (λ call x0 x1 x2 x3 x4. K.leave_served call x0 x1) o.body.services o.regs.0 o.regs.1.0 refl refl refl refl (λ call x. refl)
          ∙ leave_answer code v (reached r1 b).machine.memory a rest ((reached r1 b).machine.registers 11) e;
    } in
    let r2 = call_done (c + 2) (reached r1) v v' (λ b. (reached r1 b).machine.memory) (λ b. 0) (λ b. (reached r1 b).machine.registers 11) (λ b. Known ground v' h t nothing b) (omega arith) calling
    (λ b. let o = (reached_holds r1 b).holds.body in record { body = record { services = refl; registers = o.registers; bytes = o.bytes; memory = o.memory }; regs = tt }) in
    reach_moved (omega arith) (omega arith) (reach_then r1 r2)

-- the caller's frame
lowered_piece : {e : Environment} {block : Names} {types : Types} (bl : Block e block types) (callee : Callee bl) (back : Base → ℕ) (n : Values) (free : ℕ) {links : Links} {code : List Instr} {i : ℕ} {v : Services} {h0 h t0 t : ℕ → ℕ} (c : ℕ) (f : Family) → Linked links code i (frame_ended callee.words) → ((b : Base) → At b i (Known (ending_ground bl callee back h0 t0 n free) v h t (with' 1 back nothing) b) (f b)) → Reach code c f v (c + size_of (frame_ended callee.words)) v (λ b w. At b (i + size_of (frame_ended callee.words)) (Known (bl.ground n) v h t0 (with' 1 back nothing) b) w)
lowered_piece bl callee back n free {links} {code} {i} {v} {h0} {h} {t0} {t} c f l there =
    let ground = ending_ground bl callee back h0 t0 n free in
    let outer = bl.ground n in
    let size = temporary_bytes callee.words in
    let z = neg_ℤ (pos size) in
    let room = callee.room in
    let place = callee.place in
    let ends = bl.stack.free_is n in
    let same = bl.stack.frame_is n in
    let whole = inner_whole callee.at bl.stack.free callee.words callee.place bl.stack.aligned in
    let up = plus stack_register frame_register z in
    let below = load_word frame_register frame_register frame_below in
    let total = size_append up below in
    let Lowered : Base → Whole → Type 0 = λ b w. ((w.services ≡ v) × (w.machine.registers 1 ≡ back b)) × ((reserved w.machine.registers ≡ 0 ∷ (b.at + outer.free) ∷ (b.at + callee.at) ∷ h 0 ∷ h 1 ∷ h 2 ∷ h 3 ∷ h 4 ∷ h 5 ∷ h 6 ∷ []) × ((length w.machine.memory ≡ 2 ^ 24) × ground.memory t b w.machine.memory)) in
    let r4 = displaced_by (is_immediate z) c f (λ q d. I.Immediate Imm.Add stack_register q d) frame_register z (λ b. b.at + callee.at) (Known ground v h t (with' 1 back nothing)) Lowered (below_small size (omega (arith, room, place)))
    (λ b. let v'' = b.valid.1 in omega (arith, v'', room))
    (λ y u. refl)
    (λ b. frame_is (there b).holds.body)
    (omega arith)
    (record {
      does = λ b j w q d k s. (
        (k.body.services, k.regs.0),
        (
          moved_reserved (w.machine.registers 0) _ _ _ _ _ _ (ap without_two k.body.registers) (s ∙ below_sum b.at callee.at size b.valid.1 (omega (arith, room)) (omega (arith, place)) ∙ ap (λ u. b.at + u) (omega (arith, place, ends))) (frame_is k.body),
          (k.body.bytes, k.body.memory),
        ),
      );
      lost = λ b w u i' k. record { body = record { services = k.body.services; registers = k.body.registers; bytes = k.body.bytes; memory = k.body.memory }; regs = (k.regs.0, tt) };
    })
    (front_of up below l) there in
    let r5 = straight (c + size_of up) (reached r4) v v (λ b w. Known outer v h t0 (with' 1 back nothing) b w) (back_of up below l) (omega arith) (λ b. (reached_holds r4 b).pc)
    (λ b. let o = (reached_holds r4 b).holds in (
      frame_word b callee.at ((reached r4 b).machine.registers 8) 4 (omega (arith, room)) whole refl (omega arith) (ap (nth 2) o.1.0),
      record {
        body = record {
          services = o.0.0;
          registers = moved_reserved ((reached r4 b).machine.registers 0) _ _ _ _ _ _ (ap without_two o.1.0) (ap (nth 1) o.1.0) (o.1.1.1.below ∙ ap (λ u. b.at + u) (sym same));
          bytes = o.1.1.0;
          memory = o.1.1.1.kept.0;
        };
        regs = (o.0.1, tt);
      },
    )) in
    reach_moved (omega (arith, total)) (omega (arith, total)) (reach_then r4 r5)

-- the jump
returned_piece : {links : Links} {code : List Instr} {i : ℕ} {g : Ground} {v : Services} {h t : ℕ → ℕ} (c : ℕ) (f : Family) (resume : ℕ) → resume ≤ most_code → Linked links code i jump_back → ((b : Base) → At b i (Known g v h t (with' 1 (λ b'. address b' resume) nothing) b) (f b)) → Reach code c f v (c + 1) v (λ b w. At b resume (Known g v h t nothing b) w)
returned_piece {code = code} {i = i} {g = g} {v = v} {h = h} {t = t} c f resume near l there =
    hop code c (c + 1) f v (λ b w. At b resume (Known g v h t nothing b) w) (omega arith)
    (λ b.
    let o = (there b).holds in
    let s = l.small' in
    let inside = l.inside in (
      _,
      jump_register code b i resume zero_register return_register (pos 0) (f b) (omega (arith, s, inside)) (there b).pc l.has.0.0 (return_sum b _ resume near o.regs.0),
      record { pc = refl; holds = record { body = record { services = o.body.services; registers = o.body.registers; bytes = o.body.bytes; memory = o.body.memory }; regs = tt } },
    ))

-- the registers hold again what the caller's did, as far as a word holds it
pub called_left : {e : Environment} {block : Names} {types : Types} (bl : Block e block types) (callee :
    Callee bl) (resume : ℕ) (n : Values) (free : ℕ) {links : Links} {code : List Instr} {i : ℕ} {v :
    Services} {h0 h t0 t : ℕ → ℕ} (c : ℕ) (f : Family) (a : S.Activation) (rest : List S.Activation)
    → resume ≤ most_code → v.activations ≡ a ∷ rest → Linked links code i (called_ended callee.words callee.held)
    → ((b : Base) → At b i (Known (ending_ground bl callee (λ b'. address b' resume) h0 t0 n free) v h t nothing b)
    (f b)) → Reach code c f v (c + 3 + size_of (all_restored callee.held) + size_of (frame_ended callee.words) + 1)
    (ended_services v a rest)
    (λ b w. At b resume (Known (bl.ground n) (ended_services v a rest) (held_again h0 0 callee.held h) t0 nothing b) w)
called_left bl callee resume n free {h0 = h0} {h = h} {t0 = t0} {t = t} c f a rest near e l there =
    let back : Base → ℕ = λ b. address b resume in
    let asked = block_left 0 in
    let lower = frame_ended callee.words in
    let ended = lower ++ jump_back in
    let restored = all_restored callee.held in
    let l1 = back_of asked (restored ++ ended) l in
    let l2 = back_of restored ended l1 in
    let r1 = asked_piece bl callee back n free c f a rest e (front_of asked (restored ++ ended) l) there in
    let r2 = restored_piece back h0 (ending_saved bl callee back h0 t0 n free t) h (c + 3) (reached r1)
    (front_of restored ended l1) (reached_holds r1) in
    let r3 = lowered_piece bl callee back n free (c + 3 + size_of restored) (reached r2) (front_of lower jump_back l2)
    (reached_holds r2) in
    let r4 = returned_piece (c + 3 + size_of restored + size_of lower) (reached r3) resume near
    (back_of lower jump_back l2) (reached_holds r3) in
    reach_then r1 (reach_then r2 (reach_then r3 r4))
