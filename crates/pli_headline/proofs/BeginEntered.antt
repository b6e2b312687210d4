-- A block inside another is entered (service 4) and left (service 5), in its frame; past the limit on active blocks the run ends.
use Rattle.std.proofs.Common.{◌≡◌, ℕ, ◌+◌, ◌^◌, ◌<◌, List, [], ◌∷◌, ◌++◌, length, None, true, refl, sym, ap, ◌∙◌, arith, lit<, false, add-one}
use Rattle.std.specs.Prelude.{pos, neg_ℤ, cond, filter, nat_le, nat_lt, if◌then◌else◌}
use Rattle.rv_meaning.specs.declared.instr.Instr.{Instr}
use Rattle.rv_meaning.specs.declared.instr.Instr.TheVariants as I
use Rattle.rv_meaning.specs.declared.instr.ImmediateOp.TheVariants as Imm
use Rattle.pli_meaning.specs.declared.outcome.End.TheVariants as E
use Rattle.pli_meaning.specs.declared.outcome.Limit.TheVariants as L
use Rattle.pli_meaning.specs.StorageState.{most_activations, State}
use Rattle.pli_meaning.specs.World.{ending}
use Rattle.pli_meaning.specs.Control.{finish}
use Rattle.pli_serving.specs.ServiceState as S
use Rattle.pli_serving.specs.ServiceState.{Services}
use Rattle.pli_serving.specs.Answers as N
use Rattle.pli_serving.specs.Answers.{Answer, Done, Ends}
use Rattle.pli_serving.specs.Outcomes.{or_bad, bad_unless}
use Rattle.pli_serving.specs.ActsAndEnds.{run_ended}
use Rattle.pli_serving.specs.Blocks as K
use Rattle.pli_coding.specs.Registers.{stack_register, frame_register, a0, a1, a2, a3, a7}
use Rattle.pli_coding.specs.Assembly.{Plain, Code, size_of}
use Rattle.pli_coding.specs.Instructions.{small, number, plus, load_word, is_immediate}
use Rattle.pli_coding.specs.Frames.{frame_below, own_offset, temporary_bytes}
use Rattle.pli_coding.specs.Entries.{entered_without_texts, block_left, frame_ended}
use Rattle.pli_coding.specs.Environments.{Environment}
use Rattle.pli_coding.specs.Linking.{Links}
use Rattle.image_runs.specs.Runs.{Whole}
use Rattle.pli_headline.specs.ProvedSoFar.{Names, Types}
use Rattle.run_steps.specs.Engine.{Base, call_at}
use Rattle.run_steps.proofs.Linking.{size_append}
use Rattle.run_steps.specs.Items.{Linked, At}
use Rattle.run_steps.proofs.Items.{straight}
use Rattle.run_steps.proofs.Numbers.{below_sum, below_small}
use Rattle.run_steps.specs.Bodies.{Known, nth, reserved}
use Rattle.run_steps.proofs.Bodies.{zero_is, frame_is, constant_piece, displaced_by}
use Rattle.run_steps.proofs.Jumps.{front_of, back_of}
use Rattle.run_steps.specs.Temporaries.{nothing}
use Rattle.run_steps.proofs.Reaching.{reach_moved}
use Rattle.run_steps.specs.Calls.{Calling}
use Rattle.run_steps.proofs.Calls.{called, call_done, comes_finish, end_pauses, call_ends, acts}
use Rattle.pli_headline.proofs.Serving.{Serving}
use Rattle.pli_headline.proofs.Raising.{small_is}
use Rattle.pli_headline.proofs.Acts.{word_is, word_fits}
use Rattle.pli_headline.proofs.Statements.{Block, lower_ground}
use Rattle.pli_headline.proofs.InnerFrames.{Inner, inner_whole, inner_ground}
use Rattle.pli_headline.proofs.BeginDisplays.{frame_word, moved_reserved, without_two}
use Rattle.run_steps.specs.Reach.{Family, Reach, reached, Aims, Comes, Closed, cost}
use Rattle.run_steps.proofs.Reach.{reach_then, reached_holds, onward}
use Rattle.pli_headline.proofs.Scalars.{Values}

-- ---- service 4

abbrev pub entered_activation : Services → (at : ℕ) → S.Activation
entered_activation v at = K.activation_of v (record { kind = S.BeginBlock; line = v.line }) at 0

abbrev pub entered_services : Services → (at line : ℕ) → Services
entered_services v at line =
    record v {
      activations = entered_activation v at ∷ v.activations;
      waiting = None;
      line = line;
    }

enter_answer : (code : List Instr) (v : Services) (m : List ℕ) (at line : ℕ) → v.waiting ≡ None → nat_lt (length v.activations) most_activations ≡ true → K.enter_served (call_at code v m) 1 at line 0 ≡ Done (entered_services v at line) m 1 at
enter_answer code v m at line none few =
    let next : K.Entered → Answer = λ entered.
    bad_unless (K.are_texts 0 v.entries)
    (if nat_lt (S.height v) most_activations
    then Done (record v { activations = K.activation_of v entered at 0 ∷ v.activations; waiting = None; line = line }) m 1 at
    else run_ended (E.Limit L.Depth) v) in
    ap (λ w. or_bad (K.entered_of 1 v.line w) next) none
    ∙ ap (λ q. cond q (Done (entered_services v at line) m 1 at) (run_ended (E.Limit L.Depth) v)) few

abbrev enter_front : Code
enter_front = small a3 0 ∷ (load_word a1 frame_register own_offset ++ small a0 1 ∷ [])

abbrev enter_regs : (at : ℕ) → Base → List (ℕ × ℕ)
enter_regs at b = (10, 1) ∷ (11, at) ∷ (13, 0) ∷ []

-- up to the call
asked_call : {e : Environment} {block : Names} {types : Types} (bl : Block e block types) (inner : Inner bl) (n : Values) {links : Links} {code : List Instr} {i : ℕ} {v : Services} {h t0 t : ℕ → ℕ} (c : ℕ) (f : Family) (line : ℕ) → line < 2 ^ 31 → Linked links code i (entered_without_texts 1 line) → ((b : Base) → At b i (Known (inner_ground bl inner t0 n) v h t nothing b) (f b)) → Reach code c f v (c + 3 + size_of (number a2 line) + 1) v (λ b w. At b (i + 3 + size_of (number a2 line) + 1) (Known (inner_ground bl inner t0 n) v h t (λ b'. (17, 4) ∷ (12, line) ∷ enter_regs inner.at b') b) w)
asked_call bl inner n {links} {code} {i} {v} {h} {t0} {t} c f line fits l at =
    let ground = inner_ground bl inner t0 n in
    let m = number a2 line in
    let last = small a7 4 ∷ Plain I.Ecall ∷ [] in
    let l1 = back_of enter_front (m ++ last) l in
    let l2 = back_of m last l1 in
    let room = inner.room in
    let whole = inner_whole inner.at bl.stack.free inner.words inner.place bl.stack.aligned in
    let r1 = straight c f v v (λ b w. Known ground v h t (enter_regs inner.at) b w) (front_of enter_front (m ++ last) l) (omega arith) (λ b. (at b).pc)
    (λ b. let o = (at b).holds in (
      frame_word b inner.at ((f b).machine.registers 8) 36 (omega (arith, room)) whole refl (omega arith) (frame_is o.body),
      record {
        body = record { services = o.body.services; registers = o.body.registers; bytes = o.body.bytes; memory = o.body.memory };
        regs = (small_is _ 1 (zero_is o.body) (lit< tt), (o.body.memory.own, (small_is _ 0 (zero_is o.body) (lit< tt), tt)));
      },
    )) in
    let r2 = constant_piece (c + 3) (reached r1) a2 (pos line) (word_fits line fits) (record { reserved_stay = λ y u. refl; known_stay = λ b y u q. q; set = λ y u. refl }) (front_of m last l1) (reached_holds r1) in
    let r3 = straight (c + 3 + size_of m) (reached r2) v v (λ b w. Known ground v h t (λ b'. (17, 4) ∷ (12, line) ∷ enter_regs inner.at b') b w) (front_of (small a7 4 ∷ []) (Plain I.Ecall ∷ []) l2) (omega arith) (λ b. (reached_holds r2 b).pc)
    (λ b. let o = (reached_holds r2 b).holds in record {
      body = record { services = o.body.services; registers = o.body.registers; bytes = o.body.bytes; memory = o.body.memory };
      regs = (small_is _ 4 (zero_is o.body) (lit< tt), (o.regs.0 ∙ word_is line fits, o.regs.1));
    }) in
    reach_then r1 (reach_then r2 r3)

pub inner_entered : {e : Environment} {block : Names} {types : Types} (bl : Block e block types) (inner : Inner bl) (n : Values) {links : Links} {code : List Instr} {i : ℕ} {v : Services} {h t0 t : ℕ → ℕ} (c : ℕ) (f : Family) (line : ℕ) → line < 2 ^ 31 → v.waiting ≡ None → nat_lt (length v.activations) most_activations ≡ true → Linked links code i (entered_without_texts 1 line) → ((b : Base) → At b i (Known (inner_ground bl inner t0 n) v h t nothing b) (f b)) → Reach code c f v (c + size_of (entered_without_texts 1 line)) (entered_services v inner.at line) (λ b w. At b (i + size_of (entered_without_texts 1 line)) (Known (inner_ground bl inner t0 n) (entered_services v inner.at line) h t nothing b) w)
inner_entered bl inner n {links} {code} {i} {v} {h} {t0} {t} c f line fits none few l at =
    let ground = inner_ground bl inner t0 n in
    let v' = entered_services v inner.at line in
    let m = number a2 line in
    let last = small a7 4 ∷ Plain I.Ecall ∷ [] in
    let l2 = back_of m last (back_of enter_front (m ++ last) l) in
    let total = size_append m last in
    let r3 = asked_call bl inner n c f line fits l at in
    let calling : Calling _ code (i + 3 + size_of m + 1) (reached r3) (λ b. Done v' (reached r3 b).machine.memory 1 inner.at) = record {
      linked = back_of (small a7 4 ∷ []) (Plain I.Ecall ∷ []) l2;
      pc = λ b. (reached_holds r3 b).pc;
      answers = λ b.
          let o = (reached_holds r3 b).holds in
          called code (reached r3 b) v 4 1 inner.at line 0 _ (λ call x0 x1 x2 x3 x4. K.enter_served call x0 x1 x2 x3) o.body.services o.regs.0 o.regs.1.1.0 o.regs.1.1.1.0 o.regs.1.0 o.regs.1.1.1.1.0 refl (λ call x. refl)
          ∙ enter_answer code v (reached r3 b).machine.memory inner.at line none few;
    } in
    let r4 = call_done (c + 3 + size_of m + 1) (reached r3) v v' (λ b. (reached r3 b).machine.memory) (λ b. 1) (λ b. inner.at) (λ b. Known ground v' h t nothing b) (omega arith) calling
    (λ b. let o = (reached_holds r3 b).holds.body in record { body = record { services = refl; registers = o.registers; bytes = o.bytes; memory = o.memory }; regs = tt }) in
    reach_moved (omega (arith, total)) (omega (arith, total)) (reach_then r3 r4)

-- where too many blocks are entered the run ends
enter_limited : (code : List Instr) (v : Services) (m : List ℕ) (at line : ℕ) → v.waiting ≡ None → nat_lt (length v.activations) most_activations ≡ false → K.enter_served (call_at code v m) 1 at line 0 ≡ run_ended (E.Limit L.Depth) v
enter_limited code v m at line none many =
    let next : K.Entered → Answer = λ entered.
    bad_unless (K.are_texts 0 v.entries)
    (if nat_lt (S.height v) most_activations
    then Done (record v { activations = K.activation_of v entered at 0 ∷ v.activations; waiting = None; line = line }) m 1 at
    else run_ended (E.Limit L.Depth) v) in
    ap (λ w. or_bad (K.entered_of 1 v.line w) next) none
    ∙ ap (λ q. cond q (Done (entered_services v at line) m 1 at) (run_ended (E.Limit L.Depth) v)) many

pub inner_limited : {e : Environment} {block : Names} {types : Types} (bl : Block e block types) (inner : Inner bl) (n : Values) {X : Type 0} {links : Links} {code : List Instr} {i : ℕ} {s : State} {v : Services} {h t0 t : ℕ → ℕ} {aims : Aims X} (c : ℕ) (f : Family) (closed : Closed code aims) (k line old : ℕ) → line < 2 ^ 31 → c + 3 + size_of (number a2 line) + 1 < cost code → nat_lt (length v.activations) most_activations ≡ false → Linked links code i (entered_without_texts 1 line) → Serving k s v old → ((b : Base) → At b i (Known (inner_ground bl inner t0 n) v h t nothing b) (f b)) → Comes code c f v aims (finish {R = X} (E.Limit L.Depth) k s)
inner_limited bl inner n {code = code} {i = i} {s = s} {v = v} c f closed k line old fits few many l serving at =
    let m = number a2 line in
    let last = small a7 4 ∷ Plain I.Ecall ∷ [] in
    let l2 = back_of m last (back_of enter_front (m ++ last) l) in
    let v' = N.with_world (ending (E.Limit L.Depth) v.world) v in
    onward closed (asked_call bl inner n c f line fits l at)
    (λ f' at'.
    let calling : Calling _ code (i + 3 + size_of m + 1) f' (λ b. Ends v') = record {
      linked = back_of (small a7 4 ∷ []) (Plain I.Ecall ∷ []) l2;
      pc = λ b. (at' b).pc;
      answers = λ b.
          let o = (at' b).holds in
          called code (f' b) v 4 1 inner.at line 0 _ (λ call x0 x1 x2 x3 x4. K.enter_served call x0 x1 x2 x3) o.body.services o.regs.0 o.regs.1.1.0 o.regs.1.1.1.0 o.regs.1.0 o.regs.1.1.1.1.0 refl (λ call x. refl)
          ∙ enter_limited code v (f' b).machine.memory inner.at line serving.waiting many
          ∙ acts v k (Ends v') serving.allowed serving.fits;
    } in
    comes_finish v' (E.Limit L.Depth) k s serving.world (ap (ending (E.Limit L.Depth)) serving.world)
    (end_pauses (c + 3 + size_of m + 1) f' v v' few serving.running (λ b. (at' b).holds.body.services) (add-one v.world.acts) calling)
    (call_ends (c + 3 + size_of m + 1) f' v v' (λ e. cc e) calling))

-- ---- service 5

-- the services when the newest activation has ended
abbrev pub ended_services : Services → S.Activation → List S.Activation → Services
ended_services v a rest =
    record v {
      line = a.line;
      activations = rest;
      living = filter (λ l. nat_le l.owner (length rest)) v.living;
      entries = K.oldest a.texts v.entries;
      edits = K.oldest a.edits v.edits;
    }

pub leave_answer : (code : List Instr) (v : Services) (m : List ℕ) (a : S.Activation) (rest : List S.Activation) (y : ℕ) → v.activations ≡ a ∷ rest → K.leave_served (call_at code v m) 0 y ≡ Done (ended_services v a rest) m 0 y
leave_answer code v m a rest y e = ap (λ u. K.left_by (call_at code v m) 0 y u) e

-- the code at the end of the block
abbrev pub inner_ended : (words : ℕ) → Code
inner_ended words = block_left 0 ++ frame_ended words

pub inner_left : {e : Environment} {block : Names} {types : Types} (bl : Block e block types) (inner : Inner bl) (n : Values) (free : ℕ) {links : Links} {code : List Instr} {i : ℕ} {v : Services} {h t0 t : ℕ → ℕ} (c : ℕ) (f : Family) (a : S.Activation) (rest : List S.Activation) → v.activations ≡ a ∷ rest → Linked links code i (inner_ended inner.words) → ((b : Base) → At b i (Known (lower_ground (inner_ground bl inner t0 n) free) v h t nothing b) (f b)) → Reach code c f v (c + size_of (inner_ended inner.words)) (ended_services v a rest) (λ b w. At b (i + size_of (inner_ended inner.words)) (Known (bl.ground n) (ended_services v a rest) h t0 nothing b) w)
inner_left bl inner n free' {links} {code} {i} {v} {h} {t0} {t} c f a rest e l at =
    let ground = lower_ground (inner_ground bl inner t0 n) free' in
    let outer = bl.ground n in
    let v' = ended_services v a rest in
    let size = temporary_bytes inner.words in
    let z = neg_ℤ (pos size) in
    let room = inner.room in
    let place = inner.place in
    let free = bl.stack.free_is n in
    let same = bl.stack.frame_is n in
    let high = bl.stack.high in
    let whole = inner_whole inner.at bl.stack.free inner.words inner.place bl.stack.aligned in
    let asked = small a0 0 ∷ small a7 5 ∷ [] in
    let up = plus stack_register frame_register z in
    let below = load_word frame_register frame_register frame_below in
    let l1 = back_of asked (Plain I.Ecall ∷ (up ++ below)) l in
    let l2 = front_of (Plain I.Ecall ∷ []) (up ++ below) l1 in
    let l3 = back_of (Plain I.Ecall ∷ []) (up ++ below) l1 in
    let total = size_append up below in
    let r1 = straight c f v v (λ b w. Known ground v h t (λ b'. (17, 5) ∷ (10, 0) ∷ []) b w) (front_of asked (Plain I.Ecall ∷ (up ++ below)) l) (omega arith) (λ b. (at b).pc)
    (λ b. let o = (at b).holds in let z' = zero_is o.body in record {
      body = record { services = o.body.services; registers = o.body.registers; bytes = o.body.bytes; memory = o.body.memory };
      regs = (small_is _ 5 z' (lit< tt), (small_is _ 0 z' (lit< tt), tt));
    }) in
    let calling : Calling _ code (i + 2) (reached r1) (λ b. Done v' (reached r1 b).machine.memory 0 ((reached r1 b).machine.registers 11)) = record {
      linked = l2;
      pc = λ b. (reached_holds r1 b).pc;
      answers = λ b.
          let o = (reached_holds r1 b).holds in
          called code (reached r1 b) v 5 0 ((reached r1 b).machine.registers 11) _ _ _ (λ call x0 x1 x2 x3 x4. K.leave_served call x0 x1) o.body.services o.regs.0 o.regs.1.0 refl refl refl refl (λ call x. refl)
          ∙ leave_answer code v (reached r1 b).machine.memory a rest ((reached r1 b).machine.registers 11) e;
    } in
    let r2 = call_done (c + 2) (reached r1) v v' (λ b. (reached r1 b).machine.memory) (λ b. 0) (λ b. (reached r1 b).machine.registers 11) (λ b. Known ground v' h t nothing b) (omega arith) calling
    (λ b. let o = (reached_holds r1 b).holds.body in record { body = record { services = refl; registers = o.registers; bytes = o.bytes; memory = o.memory }; regs = tt }) in
    let Lowered : Base → Whole → Type 0 = λ b w. (w.services ≡ v') × ((reserved w.machine.registers ≡ 0 ∷ (b.at + outer.free) ∷ (b.at + inner.at) ∷ h 0 ∷ h 1 ∷ h 2 ∷ h 3 ∷ h 4 ∷ h 5 ∷ h 6 ∷ []) × ((length w.machine.memory ≡ 2 ^ 24) × ground.memory t b w.machine.memory)) in
    let r3 = displaced_by (is_immediate z) (c + 2 + 1) (reached r2) (λ q d. I.Immediate Imm.Add stack_register q d) frame_register z (λ b. b.at + inner.at) (Known ground v' h t nothing) Lowered (below_small size (omega (arith, room, place)))
    (λ b. let v'' = b.valid.1 in omega (arith, v'', room))
    (λ y u. refl)
    (λ b. frame_is (reached_holds r2 b).holds.body)
    (omega arith)
    (record {
      does = λ b j w q d k s. (
        k.body.services,
        (
          moved_reserved (w.machine.registers 0) _ _ _ _ _ _ (ap without_two k.body.registers) (s ∙ below_sum b.at inner.at size b.valid.1 (omega (arith, room)) (omega (arith, place)) ∙ ap (λ u. b.at + u) (omega (arith, place, free))) (frame_is k.body),
          (k.body.bytes, k.body.memory),
        ),
      );
      lost = λ b w u i' k. record { body = record { services = k.body.services; registers = k.body.registers; bytes = k.body.bytes; memory = k.body.memory }; regs = tt };
    })
    (front_of up below l3) (reached_holds r2) in
    let r4 = straight (c + 2 + 1 + size_of up) (reached r3) v' v' (λ b w. Known outer v' h t0 nothing b w) (back_of up below l3) (omega arith) (λ b. (reached_holds r3 b).pc)
    (λ b. let o = (reached_holds r3 b).holds in (
      frame_word b inner.at ((reached r3 b).machine.registers 8) 4 (omega (arith, room)) whole refl (omega arith) (ap (nth 2) o.1.0),
      record {
        body = record {
          services = o.0;
          registers = moved_reserved ((reached r3 b).machine.registers 0) _ _ _ _ _ _ (ap without_two o.1.0) (ap (nth 1) o.1.0) (o.1.1.1.below ∙ ap (λ u. b.at + u) (sym same));
          bytes = o.1.1.0;
          memory = o.1.1.1.kept;
        };
        regs = tt;
      },
    )) in
    reach_moved (omega (arith, total)) (omega (arith, total)) (reach_then r1 (reach_then r2 (reach_then r3 r4)))
