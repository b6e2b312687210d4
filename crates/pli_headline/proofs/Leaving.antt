-- The main procedure is left: its activation ends, the registers are restored, and the start finishes the run.
use Rattle.std.proofs.Common.{◌≡◌, ℕ, ◌+◌, ◌*◌, ◌^◌, ◌<◌, ◌≤◌, List, [], ◌∷◌, ◌++◌, None, refl, ap, ◌∙◌, arith, lit<}
use Rattle.std.proofs.Common.{zero, suc}
use Rattle.std.specs.Prelude.{pos, neg_ℤ, filter, nat_le}
use Rattle.rv_meaning.specs.declared.instr.Instr.{Instr}
use Rattle.rv_meaning.specs.declared.instr.Instr.TheVariants as I
use Rattle.rv_meaning.specs.declared.instr.ImmediateOp.TheVariants as Imm
use Rattle.rv_meaning.specs.declared.instr.LoadKind.TheVariants as Load
use Rattle.rv_meaning.specs.Words.{word, sum}
use Rattle.rv_meaning.specs.Memory.{load}
use Rattle.pli_meaning.specs.declared.outcome.End.TheVariants as E
use Rattle.pli_meaning.specs.StorageState.{State}
use Rattle.pli_meaning.specs.Control.{finish}
use Rattle.pli_serving.specs.ServiceState as S
use Rattle.pli_serving.specs.ServiceState.{Services}
use Rattle.pli_serving.specs.Answers.{Done}
use Rattle.pli_serving.specs.Blocks as K
use Rattle.pli_coding.specs.Registers.{zero_register, return_register, stack_register, frame_register, a0, a7, held}
use Rattle.pli_coding.specs.Assembly.{ReturnPlace, Mark, Plain, Code, size_of}
use Rattle.pli_coding.specs.Instructions.{small, plus, load_word, is_immediate}
use Rattle.pli_coding.specs.Frames.{frame_below, temporary_bytes, return_address, saved_register}
use Rattle.pli_coding.specs.Environments.{Environment}
use Rattle.pli_coding.specs.Entries.{all_restored, frame_ended, registers_restored}
use Rattle.pli_coding.specs.Procedures.{finish_code, procedure_ended}
use Rattle.pli_coding.specs.Linking.{Links}
use Rattle.image_runs.specs.Runs.{Whole}
use Rattle.run_steps.specs.Engine.{Base, address, most_code, call_at}
use Rattle.run_steps.proofs.Linking.{size_append}
use Rattle.run_steps.specs.Items.{Linked, At}
use Rattle.run_steps.proofs.Items.{straight}
use Rattle.run_steps.proofs.Numbers.{below_small}
use Rattle.run_steps.specs.Bodies.{Regs}
use Rattle.run_steps.proofs.Bodies.{at_place, displaced_by}
use Rattle.run_steps.proofs.Jumps.{front_of, back_of, first_of, hop, jump_register}
use Rattle.pli_headline.proofs.Statements.{Unwound}
use Rattle.run_steps.specs.Calls.{Calling}
use Rattle.run_steps.proofs.Calls.{called, call_done}
use Rattle.pli_headline.proofs.Raising.{small_is}
use Rattle.pli_headline.proofs.Finishing.{Bare, finish_piece}
use Rattle.run_steps.specs.Reach.{Family, Reach, Aims, Comes, Closed, reached}
use Rattle.run_steps.proofs.Reach.{onward, stay, reach_then}
use Rattle.run_steps.proofs.Reach.{reached_holds}
use Rattle.pli_headline.proofs.MainGround.{Frame, lowest_holds}
use Rattle.pli_headline.proofs.MainProcedure.{main_head}
use Rattle.pli_headline.proofs.Prologue.{over_word}
use Rattle.rv_meaning.specs.Machine.{written}
use Rattle.run_steps.proofs.SavedRegisters.{frame_place}
use Rattle.run_steps.proofs.Reaching.{reach_moved}

-- ---- service 5

-- the services when the only activation has ended
abbrev pub left_services : Services → S.Activation → Services
left_services v a =
    record v {
      line = a.line;
      activations = [];
      living = filter (λ l. nat_le l.owner 0) v.living;
      entries = K.oldest a.texts v.entries;
      edits = K.oldest a.edits v.edits;
    }

leave_answer : (code : List Instr) (v : Services) (m : List ℕ) (a : S.Activation) (y : ℕ) → v.activations ≡ a ∷ [] → K.leave_served (call_at code v m) 0 y ≡ Done (left_services v a) m 0 y
leave_answer code v m a y e = ap (λ u. K.left_by (call_at code v m) 0 y u) e

-- ---- on the way back

-- a machine in the frame, of which some registers and the place of the return are known
pub record Returning (f : Frame) (v : Services) (rs : Base → List (ℕ × ℕ)) (b : Base) (w : Whole) : Type 0 where
  pub services : w.services ≡ v
  pub regs : Regs (rs b) w.machine.registers
  pub resumes : load 4 w.machine.memory f.at ≡ address b f.resume

abbrev in_frame : Frame → Base → List (ℕ × ℕ)
in_frame f b = (8, b.at + f.at) ∷ (0, 0) ∷ []

abbrev restored_in : Frame → Base → List (ℕ × ℕ)
restored_in f b = (1, address b f.resume) ∷ (8, b.at + f.at) ∷ (0, 0) ∷ []

abbrev leave_asked : (block : ℕ) → Code
leave_asked block = Mark (ReturnPlace block) ∷ small a0 0 ∷ small a7 5 ∷ []

abbrev jump_back : Code
jump_back = Plain (I.JumpRegister zero_register return_register (pos 0)) ∷ []

abbrev last_part : (words : ℕ) → Code
last_part words = load_word frame_register frame_register frame_below ++ jump_back

left_piece : {links : Links} {code : List Instr} {i : ℕ} {v : Services} (c : ℕ) (f : Frame) (a : S.Activation) (g : Family) → v.activations ≡ a ∷ [] → Linked links code i (Plain I.Ecall ∷ []) → ((b : Base) → At b i (Returning f v (λ b'. (17, 5) ∷ (10, 0) ∷ in_frame f b') b) (g b)) → Reach code c g v (c + 1) (left_services v a) (λ b w. At b (i + 1) (Returning f (left_services v a) (in_frame f) b) w)
left_piece {code = code} {i = i} {v = v} c f a g e l at =
    let v' = left_services v a in
    let calling : Calling _ code i g (λ b. Done v' (g b).machine.memory 0 ((g b).machine.registers 11)) = record {
      linked = l;
      pc = λ b. (at b).pc;
      answers = λ b.
          let o = (at b).holds in
          called code (g b) v 5 0 ((g b).machine.registers 11) _ _ _ (λ call x0 x1 x2 x3 x4. K.leave_served call x0 x1) o.services o.regs.0 o.regs.1.0 refl refl refl refl (λ call x. refl)
          ∙ leave_answer code v (g b).machine.memory a ((g b).machine.registers 11) e;
    } in
    call_done c g v v' (λ b. (g b).machine.memory) (λ b. 0) (λ b. (g b).machine.registers 11) (λ b. Returning f v' (in_frame f) b) (omega arith) calling
    (λ b. let o = (at b).holds in record { services = refl; regs = o.regs.1.1; resumes = o.resumes })

others_stay : (n : ℕ) → n < 7 → (f : Frame) (b : Base) (y : ℕ → ℕ) (u : ℕ) → Regs (restored_in f b) y
    → Regs (restored_in f b) (written y (held n).index u)
others_stay (zero) l f b y u k = k
others_stay (suc zero) l f b y u k = k
others_stay (suc (suc zero)) l f b y u k = k
others_stay (suc (suc (suc zero))) l f b y u k = k
others_stay (suc (suc (suc (suc zero)))) l f b y u k = k
others_stay (suc (suc (suc (suc (suc zero))))) l f b y u k = k
others_stay (suc (suc (suc (suc (suc (suc zero)))))) l f b y u k = k
others_stay (suc (suc (suc (suc (suc (suc (suc n))))))) l f b y u k = absurd (omega (arith, l))

more_restored : (left n : ℕ) {links : Links} {code : List Instr} {i : ℕ} {v : Services} (c : ℕ) (f : Frame) (g :
    Family) → n + left ≤ 7 → Linked links code i (registers_restored n left)
    → ((b : Base) → At b i (Returning f v (restored_in f) b) (g b))
    → Reach code c g v (c + size_of (registers_restored n left)) v
    (λ b w. At b (i + size_of (registers_restored n left)) (Returning f v (restored_in f) b) w)
more_restored zero n {code = code} {i = i} {v = v} c f g all l at =
    reach_moved (omega arith) (omega arith) (stay code c g v (λ b w. At b i (Returning f v (restored_in f) b) w) at)
more_restored (suc left) n {v = v} c f g all l at =
    let first = load_word (held n) frame_register (saved_register n) in
    let rest = registers_restored (suc n) left in
    let size = size_append first rest in
    let few : n < 7 = omega (arith, all) in
    let above = f.above_statics in
    let inside = f.inside in
    let place = frame_place f.at (8 + 4 * n) f.whole (omega (arith, above)) (omega (arith, inside)) (omega arith)
    (omega (arith, few)) in
    let r1 = displaced_by (is_immediate (saved_register n)) c g (λ q d. I.Load Load.Word (held n) q d) frame_register
    (saved_register n) (λ b. b.at + f.at) (Returning f v (restored_in f)) (Returning f v (restored_in f))
    place.small'
    (λ b. let v' = b.valid.1 in omega (arith, v', inside))
    (λ y u. refl)
    (λ b. (at b).holds.regs.1.0)
    (omega arith)
    (record {
      does = λ b j w q d k e. (
        at_place b place _ e,
        record {
          services = k.services;
          regs = others_stay n few f b w.machine.registers _ k.regs;
          resumes =
              k.resumes;
        },
      );
      lost = λ b w u i' k. record { services = k.services; regs = k.regs; resumes = k.resumes };
    })
    (front_of first rest l) at in
    let r2 = more_restored left (suc n) (c + size_of first) f (reached r1) (omega (arith, all)) (back_of first rest l)
    (reached_holds r1) in
    reach_moved (omega (arith, size)) (omega (arith, size)) (reach_then r1 r2)

restored_piece : {links : Links} {code : List Instr} {i : ℕ} {v : Services} (c : ℕ) (f : Frame) (held' : ℕ) (g :
    Family) → held' ≤ 7 → Linked links code i (all_restored held')
    → ((b : Base) → At b i (Returning f v (in_frame f) b) (g b))
    → Reach code c g v (c + size_of (all_restored held')) v
    (λ b w. At b (i + size_of (all_restored held')) (Returning f v (restored_in f) b) w)
restored_piece {v = v} c f held' g few l at =
    let first = load_word return_register frame_register return_address in
    let rest = registers_restored 0 held' in
    let size = size_append first rest in
    let r1 = straight c g v v (λ b w. Returning f v (restored_in f) b w) (front_of first rest l) (omega arith)
    (λ b. (at b).pc)
    (λ b.
    let o = (at b).holds in
    let m = (g b).machine.memory in
    let same : f.at + 0 ≡ f.at = omega arith in (
      over_word f b ((g b).machine.registers 8) 0 refl (omega arith) o.regs.0,
      record { services = o.services; regs = (ap (load 4 m) same ∙ o.resumes, o.regs); resumes = o.resumes },
    )) in
    let r2 = more_restored held' 0 (c + size_of first) f (reached r1) (omega (arith, few)) (back_of first rest l)
    (reached_holds r1) in
    reach_moved (omega (arith, size)) (omega (arith, size)) (reach_then r1 r2)

-- the stack's register takes what it will, and is not asked any more
lowered_piece : {links : Links} {code : List Instr} {i : ℕ} {v : Services} (c : ℕ) (f : Frame) (n : ℕ) (g : Family) → n < 2 ^ 24 → Linked links code i (plus stack_register frame_register (neg_ℤ (pos n))) → ((b : Base) → At b i (Returning f v (restored_in f) b) (g b)) → Reach code c g v (c + size_of (plus stack_register frame_register (neg_ℤ (pos n)))) v (λ b w. At b (i + size_of (plus stack_register frame_register (neg_ℤ (pos n)))) (Returning f v (restored_in f) b) w)
lowered_piece {v = v} c f n g few l at =
    let z = neg_ℤ (pos n) in
    displaced_by (is_immediate z) c g (λ q d. I.Immediate Imm.Add stack_register q d) frame_register z (λ b. b.at + f.at) (Returning f v (restored_in f)) (Returning f v (restored_in f)) (below_small n few) (λ b. let v' = b.valid.1 in let inside = f.inside in omega (arith, v', inside)) (λ y u. refl) (λ b. (at b).holds.regs.1.0) (omega arith)
    (record {
      does = λ b j w q d k s. record { services = k.services; regs = k.regs; resumes = k.resumes };
      lost = λ b w u i k. record { services = k.services; regs = k.regs; resumes = k.resumes };
    })
    l at

return_sum : (b : Base) (x j : ℕ) → j ≤ most_code → x ≡ address b j → sum x (word (pos 0)) ≡ address b j
return_sum b x j near e = let v = b.valid.1 in omega (arith, e, near, v)

returned_piece : {links : Links} {code : List Instr} {i : ℕ} {v : Services} (c : ℕ) (f : Frame) (g : Family) → f.resume ≤ most_code → Linked links code i jump_back → ((b : Base) → At b i (Bare v ((1, address b f.resume) ∷ (0, 0) ∷ [])) (g b)) → Reach code c g v (c + 1) v (λ b w. At b f.resume (Bare v ((0, 0) ∷ [])) w)
returned_piece {code = code} {i = i} {v = v} c f g near l at =
    hop code c (c + 1) g v (λ b w. At b f.resume (Bare v ((0, 0) ∷ [])) w) (omega arith)
    (λ b.
    let o = (at b).holds in
    let s = l.small' in
    let n = l.inside in (
      _,
      jump_register code b i f.resume zero_register return_register (pos 0) (g b) (omega (arith, s, n)) (at b).pc l.has.0.0 (return_sum b _ f.resume near o.regs.0),
      record { pc = refl; holds = record { services = o.services; regs = o.regs.1 } },
    ))

-- ---- from the end of the statements to the end of the run

pub leaving_piece : {X : Type 0} {links : Links} {code : List Instr} {i : ℕ} {v : Services} {aims : Aims X} (closed :
    Closed code aims) (e : Environment) (block line words held' : ℕ) (f : Frame) (g : Family) (s : State) (k : ℕ) (a :
    S.Activation) → held' ≤ 7 → temporary_bytes words < 2 ^ 24 → f.resume ≤ most_code
    → Linked links code i (procedure_ended e (main_head block line) words held' None)
    → Linked links code f.resume finish_code → v.world ≡ s.world → v.world.end ≡ E.Running → v.world.acts ≤ k
    → k + 1 < 2 ^ 64 → v.activations ≡ a ∷ [] → ((b : Base) → At b i (Unwound f.at (lowest_holds f) v b) (g b))
    → Comes code i g v aims (finish {R = X} E.Finished k s)
leaving_piece {code = code} {i = i} {v = v} closed e block line words held' f g s k a most few near l finish' same
    running allowed fits only at =
    let v' = left_services v a in
    let ps = plus stack_register frame_register (neg_ℤ (pos (temporary_bytes words))) in
    let ended = frame_ended words ++ jump_back in
    let restored = all_restored held' in
    let r = size_of restored in
    let asked = leave_asked block in
    let l1 = back_of asked (Plain I.Ecall ∷ (restored ++ ended)) l in
    let l2 = back_of (Plain I.Ecall ∷ []) (restored ++ ended) l1 in
    let l3 = back_of restored ended l2 in
    let l4 = front_of (frame_ended words) jump_back l3 in
    let l5 = back_of ps (load_word frame_register frame_register frame_below) l4 in
    let l6 = back_of (frame_ended words) jump_back l3 in
    let size = size_append ps (load_word frame_register frame_register frame_below) in
    let here : i + 2 + 1 + r + size_of ps + 1 ≡ i + 2 + 1 + r + size_of (frame_ended words) = omega (arith, size) in
    let room = l6.inside in
    let r1 = straight i g v v (λ b w. Returning f v (λ b'. (17, 5) ∷ (10, 0) ∷ in_frame f b') b w)
    (front_of asked (Plain I.Ecall ∷ (restored ++ ended)) l) (omega arith) (λ b. (at b).pc)
    (λ b. let o = (at b).holds in let z = o.regs.1.0 in record {
      services = o.services;
      regs = (small_is _ 5 z (lit< tt), (small_is _ 0 z (lit< tt), o.regs));
      resumes = o.memory.0;
    }) in
    onward closed r1 (λ g1 at1.
    onward closed (left_piece (i + 2) f a g1 only (first_of (Plain I.Ecall) (restored ++ ended) l1) at1) (λ g2 at2.
    onward closed (restored_piece (i + 2 + 1) f held' g2 most (front_of restored ended l2) at2) (λ g3 at3.
    onward closed
    (lowered_piece (i + 2 + 1 + r) f (temporary_bytes words) g3 few
    (front_of ps (load_word frame_register frame_register frame_below) l4) at3) (λ g4 at4.
    let r5 = straight (i + 2 + 1 + r + size_of ps) g4 v' v' (λ b w. Bare v' ((1, address b f.resume) ∷ (0, 0) ∷ []) w)
    l5 (omega arith) (λ b. (at4 b).pc)
    (λ b. let o = (at4 b).holds in (
      over_word f b ((g4 b).machine.registers 8) 4 refl (omega arith) o.regs.1.0,
      record { services = o.services; regs = (o.regs.0, (o.regs.1.1.0, tt)) },
    )) in
    onward closed r5 (λ g5 at5.
    onward closed
    (returned_piece (i + 2 + 1 + r + size_of ps + 1) f g5 near l6 (λ b. record {
      pc =
          (at5 b).pc ∙ ap (address b) here;
      holds = (at5 b).holds;
    })) (λ g6 at6.
    finish_piece closed (i + 2 + 1 + r + size_of ps + 1 + 1) g6 s k (omega (arith, room, size)) finish' same running
    allowed fits at6))))))
