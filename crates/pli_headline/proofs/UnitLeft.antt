-- An on-unit is left (service 31), and the run goes on where its raise said.
use Rattle.std.proofs.Common.{◌≡◌, ℕ, zero, suc, ◌+◌, ◌*◌, ◌%◌, ◌^◌, ◌<◌, ◌≤◌, List, [], ◌∷◌, ◌++◌, length, refl, sym, ap, ◌∙◌, arith, lit<}
use Rattle.std.specs.Prelude.{pos, neg_ℤ}
use Rattle.rv_meaning.specs.declared.instr.Instr.{Instr}
use Rattle.rv_meaning.specs.declared.instr.Instr.TheVariants as I
use Rattle.rv_meaning.specs.declared.instr.ImmediateOp.TheVariants as Imm
use Rattle.rv_meaning.specs.declared.instr.LoadKind.TheVariants as Load
use Rattle.rv_meaning.specs.Words.{word, sum}
use Rattle.rv_meaning.specs.Machine.{written}
use Rattle.pli_serving.specs.ServiceState as S
use Rattle.pli_serving.specs.ServiceState.{Services}
use Rattle.pli_serving.specs.Answers.{Done}
use Rattle.pli_serving.specs.Blocks as K
use Rattle.pli_coding.specs.Registers.{zero_register, stack_register, frame_register, held, a0, a7, u0}
use Rattle.pli_coding.specs.Assembly.{Plain, BaseIn, Code, size_of}
use Rattle.pli_coding.specs.Instructions.{add, small, service, plus, load_word, is_immediate}
use Rattle.pli_coding.specs.Frames.{frame_below, saved_register, temporary_bytes}
use Rattle.pli_coding.specs.Entries.{registers_restored, frame_ended}
use Rattle.pli_coding.specs.Environments.{Environment}
use Rattle.pli_coding.specs.Statements.{unit_left}
use Rattle.pli_coding.specs.Linking.{Links}
use Rattle.image_runs.specs.Runs.{Whole}
use Rattle.pli_headline.specs.ProvedSoFar.{Types, Names}
use Rattle.run_steps.specs.Engine.{Base, address, most_code, call_at}
use Rattle.run_steps.proofs.Linking.{size_append}
use Rattle.run_steps.specs.Items.{Linked, At}
use Rattle.run_steps.proofs.Items.{straight}
use Rattle.run_steps.proofs.Numbers.{below_sum, below_small}
use Rattle.run_steps.specs.Bodies.{Ground, Known, nth, reserved, with'}
use Rattle.run_steps.proofs.Bodies.{at_place, zero_is, frame_is, lose_known, displaced_by}
use Rattle.run_steps.proofs.Jumps.{front_of, back_of, hop, jump_register}
use Rattle.run_steps.specs.Temporaries.{nothing, put}
use Rattle.run_steps.proofs.Temporaries.{held_put}
use Rattle.run_steps.proofs.Reaching.{reach_moved}
use Rattle.run_steps.specs.SavedRegisters.{SavedIn, held_again}
use Rattle.run_steps.proofs.SavedRegisters.{frame_place}
use Rattle.run_steps.specs.Calls.{Calling}
use Rattle.run_steps.proofs.Calls.{called, call_done}
use Rattle.pli_headline.proofs.Raising.{small_is}
use Rattle.pli_headline.proofs.Statements.{Block}
use Rattle.pli_headline.proofs.InnerFrames.{inner_whole}
use Rattle.pli_headline.proofs.BeginDisplays.{frame_word, moved_reserved, without_two}
use Rattle.pli_headline.proofs.BeginEntered.{ended_services}
use Rattle.pli_headline.proofs.CalledFrames.{Callee}
use Rattle.pli_headline.proofs.CalledLeft.{ending_ground, ending_saved}
use Rattle.run_steps.specs.Reach.{Family, Reach, reached}
use Rattle.run_steps.proofs.Reach.{stay, reach_then, reached_holds}
use Rattle.pli_headline.proofs.Scalars.{Values}

return_answer : (code : List Instr) (v : Services) (m : List ℕ) (a : S.Activation) (rest : List S.Activation) (n resume : ℕ) → v.activations ≡ a ∷ rest → a.kind ≡ S.OnUnitBlock n resume → K.return_served (call_at code v m) ≡ Done (ended_services v a rest) m resume n
return_answer code v m a rest n resume e kind =
    ap (λ u. K.returned_by (call_at code v m) u) e
    ∙ ap (λ q. K.unit_left (call_at code v m) q (K.newest_ended v 0 a rest)) kind

-- service 31
asked_piece : {e : Environment} {block : Names} {types : Types} (bl : Block e block types) (callee : Callee bl) (back : Base → ℕ) (n : Values) (free : ℕ) {links : Links} {code : List Instr} {i : ℕ} {v : Services} {h0 h t0 t : ℕ → ℕ} (c : ℕ) (f : Family) (a : S.Activation) (rest : List S.Activation) (number resume : ℕ) → v.activations ≡ a ∷ rest → a.kind ≡ S.OnUnitBlock number resume → Linked links code i (service 31) → ((b : Base) → At b i (Known (ending_ground bl callee back h0 t0 n free) v h t nothing b) (f b)) → Reach code c f v (c + 2) (ended_services v a rest) (λ b w. At b (i + 2) (Known (ending_ground bl callee back h0 t0 n free) (ended_services v a rest) h t (with' 10 (λ b'. resume) nothing) b) w)
asked_piece bl callee back n free {links} {code} {i} {v} {h0} {h} {t0} {t} c f a rest number resume e kind l there =
    let ground = ending_ground bl callee back h0 t0 n free in
    let v' = ended_services v a rest in
    let asked = small a7 31 ∷ [] in
    let call = Plain I.Ecall ∷ [] in
    let r1 = straight c f v v (λ b w. Known ground v h t (λ b'. (17, 31) ∷ []) b w) (front_of asked call l) (omega arith) (λ b. (there b).pc)
    (λ b. let o = (there b).holds in record {
      body = record { services = o.body.services; registers = o.body.registers; bytes = o.body.bytes; memory = o.body.memory };
      regs = (small_is _ 31 (zero_is o.body) (lit< tt), tt);
    }) in
    let calling : Calling _ code (i + 1) (reached r1) (λ b. Done v' (reached r1 b).machine.memory resume number) = record {
      linked = back_of asked call l;
      pc = λ b. (reached_holds r1 b).pc;
      answers = λ b.
          let o = (reached_holds r1 b).holds in
          called code (reached r1 b) v 31 _ _ _ _ _ (λ call x0 x1 x2 x3 x4. K.return_served call) o.body.services o.regs.0 refl refl refl refl refl (λ call x. refl)
          ∙ return_answer code v (reached r1 b).machine.memory a rest number resume e kind;
    } in
    let r2 = call_done (c + 1) (reached r1) v v' (λ b. (reached r1 b).machine.memory) (λ b. resume) (λ b. number) (λ b. Known ground v' h t (with' 10 (λ b'. resume) nothing) b) (omega arith) calling
    (λ b. let o = (reached_holds r1 b).holds.body in record { body = record { services = refl; registers = o.registers; bytes = o.bytes; memory = o.memory }; regs = (refl, tt) }) in
    reach_moved (omega arith) (omega arith) (reach_then r1 r2)

-- ---- the registers of temporaries

held_apart : (n : ℕ) → n < 7 → (y : ℕ → ℕ) (u : ℕ) → written y (held n).index u 10 ≡ y 10
held_apart (zero) l y u = refl
held_apart (suc zero) l y u = refl
held_apart (suc (suc zero)) l y u = refl
held_apart (suc (suc (suc zero))) l y u = refl
held_apart (suc (suc (suc (suc zero)))) l y u = refl
held_apart (suc (suc (suc (suc (suc zero))))) l y u = refl
held_apart (suc (suc (suc (suc (suc (suc zero)))))) l y u = refl
held_apart (suc (suc (suc (suc (suc (suc (suc n))))))) l y u = absurd (omega (arith, l))

more_restored : {g : Ground} {t : ℕ → ℕ} (to back : Base → ℕ) (saved : ℕ → ℕ) {held' : ℕ}
    → SavedIn g t back saved held' → (left n : ℕ) {links : Links} {code : List Instr} {i : ℕ} {v : Services} (h :
    ℕ → ℕ) (c : ℕ) (f : Family) → n + left ≤ held' → Linked links code i (registers_restored n left)
    → ((b : Base) → At b i (Known g v h t (with' 10 to nothing) b) (f b))
    → Reach code c f v (c + size_of (registers_restored n left)) v
    (λ b w. At b (i + size_of (registers_restored n left))
    (Known g v (held_again saved n left h) t (with' 10 to nothing) b) w)
more_restored {g} {t} to back saved s zero n {code = code} {i = i} {v = v} h c f all l there =
    reach_moved (omega arith) (omega arith)
    (stay code c f v (λ b w. At b i (Known g v h t (with' 10 to nothing) b) w) there)
more_restored {g} {t} to back saved s (suc left) n {v = v} h c f all l there =
    let first = load_word (held n) frame_register (saved_register n) in
    let rest = registers_restored (suc n) left in
    let size = size_append first rest in
    let most = s.most in
    let few : n < 7 = omega (arith, all, most) in
    let place = frame_place g.frame (8 + 4 * n) g.whole s.high s.room (omega arith) (omega (arith, few)) in
    let x = saved n % 2 ^ 32 in
    let room = s.room in
    let r1 = displaced_by (is_immediate (saved_register n)) c f (λ q d. I.Load Load.Word (held n) q d) frame_register (saved_register n) (λ b. b.at + g.frame) (Known g v h t (with' 10 to nothing)) (Known g v (put h n x) t (with' 10 to nothing)) place.small'
    (λ b. let v' = b.valid.1 in omega (arith, v', room))
    (λ y u. refl)
    (λ b. frame_is (there b).holds.body)
    (omega arith)
    (record {
      does = λ b j w q d k e. (
        at_place b place _ e,
        record {
          body = record {
            services = k.body.services;
            registers =
                ap (λ u. reserved (written w.machine.registers (held n).index u))
                ((s.has b w.machine.memory k.body.memory).registers n (omega (arith, all)))
                ∙ held_put n g b h w.machine.registers x few k.body.registers;
            bytes = k.body.bytes;
            memory = k.body.memory;
          };
          regs = (held_apart n few w.machine.registers _ ∙ k.regs.0, tt);
        },
      );
      lost = λ b w u i' k. lose_known w 31 u i' (record { reserved_stay = λ y u'. refl; known_stay = λ b' y u' o. o; set = λ y u'. refl }) k;
    })
    (front_of first rest l) there in
    let r2 = more_restored to back saved s left (suc n) (put h n x) (c + size_of first) (reached r1) (omega (arith, all)) (back_of first rest l) (reached_holds r1) in
    reach_moved (omega (arith, size)) (omega (arith, size)) (reach_then r1 r2)

-- the frame of the block that raised the condition
lowered_piece : {e : Environment} {block : Names} {types : Types} (bl : Block e block types) (callee : Callee bl) (to back : Base → ℕ) (n : Values) (free : ℕ) {links : Links} {code : List Instr} {i : ℕ} {v : Services} {h0 h t0 t : ℕ → ℕ} (c : ℕ) (f : Family) → Linked links code i (frame_ended callee.words) → ((b : Base) → At b i (Known (ending_ground bl callee back h0 t0 n free) v h t (with' 10 to nothing) b) (f b)) → Reach code c f v (c + size_of (frame_ended callee.words)) v (λ b w. At b (i + size_of (frame_ended callee.words)) (Known (bl.ground n) v h t0 (with' 10 to nothing) b) w)
lowered_piece bl callee to back n free {links} {code} {i} {v} {h0} {h} {t0} {t} c f l there =
    let ground = ending_ground bl callee back h0 t0 n free in
    let outer = bl.ground n in
    let size = temporary_bytes callee.words in
    let z = neg_ℤ (pos size) in
    let room = callee.room in
    let place = callee.place in
    let ends = bl.stack.free_is n in
    let same = bl.stack.frame_is n in
    let whole = inner_whole callee.at bl.stack.free callee.words callee.place bl.stack.aligned in
    let up = plus stack_register frame_register z in
    let below = load_word frame_register frame_register frame_below in
    let total = size_append up below in
    let Lowered : Base → Whole → Type 0 = λ b w. ((w.services ≡ v) × (w.machine.registers 10 ≡ to b)) × ((reserved w.machine.registers ≡ 0 ∷ (b.at + outer.free) ∷ (b.at + callee.at) ∷ h 0 ∷ h 1 ∷ h 2 ∷ h 3 ∷ h 4 ∷ h 5 ∷ h 6 ∷ []) × ((length w.machine.memory ≡ 2 ^ 24) × ground.memory t b w.machine.memory)) in
    let r4 = displaced_by (is_immediate z) c f (λ q d. I.Immediate Imm.Add stack_register q d) frame_register z (λ b. b.at + callee.at) (Known ground v h t (with' 10 to nothing)) Lowered (below_small size (omega (arith, room, place)))
    (λ b. let v'' = b.valid.1 in omega (arith, v'', room))
    (λ y u. refl)
    (λ b. frame_is (there b).holds.body)
    (omega arith)
    (record {
      does = λ b j w q d k s. (
        (k.body.services, k.regs.0),
        (
          moved_reserved (w.machine.registers 0) _ _ _ _ _ _ (ap without_two k.body.registers) (s ∙ below_sum b.at callee.at size b.valid.1 (omega (arith, room)) (omega (arith, place)) ∙ ap (λ u. b.at + u) (omega (arith, place, ends))) (frame_is k.body),
          (k.body.bytes, k.body.memory),
        ),
      );
      lost = λ b w u i' k. record { body = record { services = k.body.services; registers = k.body.registers; bytes = k.body.bytes; memory = k.body.memory }; regs = (k.regs.0, tt) };
    })
    (front_of up below l) there in
    let r5 = straight (c + size_of up) (reached r4) v v (λ b w. Known outer v h t0 (with' 10 to nothing) b w) (back_of up below l) (omega arith) (λ b. (reached_holds r4 b).pc)
    (λ b. let o = (reached_holds r4 b).holds in (
      frame_word b callee.at ((reached r4 b).machine.registers 8) 4 (omega (arith, room)) whole refl (omega arith) (ap (nth 2) o.1.0),
      record {
        body = record {
          services = o.0.0;
          registers = moved_reserved ((reached r4 b).machine.registers 0) _ _ _ _ _ _ (ap without_two o.1.0) (ap (nth 1) o.1.0) (o.1.1.1.below ∙ ap (λ u. b.at + u) (sym same));
          bytes = o.1.1.0;
          memory = o.1.1.1.kept.0;
        };
        regs = (o.0.1, tt);
      },
    )) in
    reach_moved (omega (arith, total)) (omega (arith, total)) (reach_then r4 r5)

-- the jump
abbrev pub jump_on : Code
jump_on = BaseIn u0 ∷ add u0 u0 a0 ∷ Plain (I.JumpRegister zero_register u0 (pos 0)) ∷ []

resumed_sum : (b : Base) (x y resume : ℕ) → resume ≤ most_code → x ≡ b.at → y ≡ 4 * resume → sum x y ≡ address b resume
resumed_sum b x y resume near e f = let v = b.valid.1 in omega (arith, e, f, near, v)

address_sum : (b : Base) (x j : ℕ) → j ≤ most_code → x ≡ address b j → sum x (word (pos 0)) ≡ address b j
address_sum b x j near e = let v = b.valid.1 in omega (arith, e, near, v)

resumed_piece : {links : Links} {code : List Instr} {i : ℕ} {g : Ground} {v : Services} {h t : ℕ → ℕ} (c : ℕ) (f : Family) (resume : ℕ) → resume ≤ most_code → Linked links code i jump_on → ((b : Base) → At b i (Known g v h t (with' 10 (λ b'. 4 * resume) nothing) b) (f b)) → Reach code c f v (c + 4) v (λ b w. At b resume (Known g v h t nothing b) w)
resumed_piece {code = code} {i = i} {g = g} {v = v} {h = h} {t = t} c f resume near l there =
    let adds = BaseIn u0 ∷ add u0 u0 a0 ∷ [] in
    let jump = Plain (I.JumpRegister zero_register u0 (pos 0)) ∷ [] in
    let lj = back_of adds jump l in
    let r1 = straight c f v v (λ b w. Known g v h t (λ b'. (5, address b' resume) ∷ []) b w) (front_of adds jump l) (omega arith) (λ b. (there b).pc)
    (λ b. let o = (there b).holds in (
      refl,
      record {
        body = record { services = o.body.services; registers = o.body.registers; bytes = o.body.bytes; memory = o.body.memory };
        regs = (resumed_sum b _ _ resume near refl o.regs.0, tt);
      },
    )) in
    let r2 = hop code (c + 3) (c + 4) (reached r1) v (λ b w. At b resume (Known g v h t nothing b) w) (omega arith)
    (λ b.
    let o = (reached_holds r1 b).holds in
    let s = lj.small' in
    let inside = lj.inside in (
      _,
      jump_register code b (i + 3) resume zero_register u0 (pos 0) (reached r1 b) (omega (arith, s, inside)) (reached_holds r1 b).pc lj.has.0.0 (address_sum b _ resume near o.regs.0),
      record { pc = refl; holds = record { body = record { services = o.body.services; registers = o.body.registers; bytes = o.body.bytes; memory = o.body.memory }; regs = tt } },
    )) in
    reach_then r1 r2

-- the registers hold again what they held where the condition was raised, as far as a word holds it, whatever the stack's register is
pub unit_left_piece : {e : Environment} {block : Names} {types : Types} (bl : Block e block types) (callee :
    Callee bl) (back : Base → ℕ) (resume : ℕ) (n : Values) (free : ℕ) {links : Links} {code : List Instr} {i : ℕ} {v :
    Services} {h0 h t0 t : ℕ → ℕ} (c : ℕ) (f : Family) (a : S.Activation) (rest : List S.Activation) (number : ℕ)
    → resume ≤ most_code → v.activations ≡ a ∷ rest → a.kind ≡ S.OnUnitBlock number (4 * resume)
    → Linked links code i (unit_left callee.words callee.held)
    → ((b : Base) → At b i (Known (ending_ground bl callee back h0 t0 n free) v h t nothing b) (f b))
    → Reach code c f v (c + 2 + size_of (registers_restored 0 callee.held) + size_of (frame_ended callee.words) + 4)
    (ended_services v a rest)
    (λ b w. At b resume (Known (bl.ground n) (ended_services v a rest) (held_again h0 0 callee.held h) t0 nothing b) w)
unit_left_piece bl callee back resume n free {h0 = h0} {h = h} {t0 = t0} {t = t} c f a rest number near e kind l there =
    let to : Base → ℕ = λ b. 4 * resume in
    let asked = service 31 in
    let restored = registers_restored 0 callee.held in
    let lower = frame_ended callee.words in
    let l1 = back_of asked (restored ++ (lower ++ jump_on)) l in
    let l2 = back_of restored (lower ++ jump_on) l1 in
    let r1 = asked_piece bl callee back n free c f a rest number (4 * resume) e kind (front_of asked (restored ++ (lower ++ jump_on)) l) there in
    let r2 = more_restored to back h0 (ending_saved bl callee back h0 t0 n free t) callee.held 0 h (c + 2)
    (reached r1) (omega arith) (front_of restored (lower ++ jump_on) l1) (reached_holds r1) in
    let r3 = lowered_piece bl callee to back n free (c + 2 + size_of restored) (reached r2) (front_of lower jump_on l2) (reached_holds r2) in
    let r4 = resumed_piece (c + 2 + size_of restored + size_of lower) (reached r3) resume near (back_of lower jump_on l2) (reached_holds r3) in
    reach_then r1 (reach_then r2 (reach_then r3 r4))
