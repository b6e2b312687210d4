-- A called procedure is entered (service 4), in its frame; past the limit on active blocks the run ends.
use Rattle.std.proofs.Common.{◌≡◌, ℕ, ◌+◌, ◌^◌, ◌<◌, List, [], ◌∷◌, ◌++◌, length, None, true, refl, ap, ◌∙◌, arith, lit<, false, add-one}
use Rattle.std.specs.Prelude.{pos, cond, nat_lt, if◌then◌else◌}
use Rattle.rv_meaning.specs.declared.instr.Instr.{Instr}
use Rattle.rv_meaning.specs.declared.instr.Instr.TheVariants as I
use Rattle.rv_meaning.specs.Words.{word, sum}
use Rattle.pli_meaning.specs.declared.outcome.End.TheVariants as E
use Rattle.pli_meaning.specs.declared.outcome.Limit.TheVariants as L
use Rattle.pli_meaning.specs.StorageState.{most_activations, State}
use Rattle.pli_meaning.specs.World.{ending}
use Rattle.pli_meaning.specs.Control.{finish}
use Rattle.pli_serving.specs.ServiceState as S
use Rattle.pli_serving.specs.ServiceState.{Services}
use Rattle.pli_serving.specs.Answers as N
use Rattle.pli_serving.specs.Answers.{Answer, Done, Ends}
use Rattle.pli_serving.specs.Outcomes.{or_bad, bad_unless}
use Rattle.pli_serving.specs.ActsAndEnds.{run_ended}
use Rattle.pli_serving.specs.Blocks as K
use Rattle.pli_coding.specs.Registers.{frame_register, a0, a1, a2, a3, a7, u5}
use Rattle.pli_coding.specs.Assembly.{Plain, Code, size_of}
use Rattle.pli_coding.specs.Instructions.{move, small, number, load_word}
use Rattle.pli_coding.specs.Frames.{own_offset}
use Rattle.pli_coding.specs.Entries.{block_entered}
use Rattle.pli_coding.specs.Environments.{Environment}
use Rattle.pli_coding.specs.Linking.{Links}
use Rattle.pli_headline.specs.ProvedSoFar.{Names, Types}
use Rattle.run_steps.specs.Engine.{Base, call_at}
use Rattle.run_steps.proofs.Linking.{size_append}
use Rattle.run_steps.specs.Items.{Linked, At}
use Rattle.run_steps.proofs.Items.{straight}
use Rattle.run_steps.specs.Bodies.{Known}
use Rattle.run_steps.proofs.Bodies.{zero_is, frame_is, constant_piece}
use Rattle.run_steps.proofs.Jumps.{front_of, back_of}
use Rattle.run_steps.specs.Temporaries.{nothing}
use Rattle.run_steps.proofs.Reaching.{reach_moved}
use Rattle.run_steps.specs.Calls.{Calling}
use Rattle.run_steps.proofs.Calls.{called, call_done, comes_finish, end_pauses, call_ends, acts}
use Rattle.pli_headline.proofs.Serving.{Serving}
use Rattle.pli_headline.proofs.Raising.{small_is}
use Rattle.pli_headline.proofs.Acts.{word_is, word_fits}
use Rattle.pli_headline.proofs.Statements.{Block}
use Rattle.pli_headline.proofs.InnerFrames.{inner_whole}
use Rattle.pli_headline.proofs.BeginDisplays.{frame_word}
use Rattle.pli_headline.proofs.CalledFrames.{Callee, called_ground}
use Rattle.pli_headline.proofs.CalledBegun.{without_texts}
use Rattle.run_steps.specs.Reach.{Family, Reach, reached, Aims, Comes, Closed, cost}
use Rattle.run_steps.proofs.Reach.{reach_then, reached_holds, onward}
use Rattle.pli_headline.proofs.Scalars.{Values}

abbrev pub called_activation : Services → (at : ℕ) → S.Activation
called_activation v at = K.activation_of v (record { kind = S.ProcedureBlock; line = v.line }) at 0

abbrev pub called_services : Services → (at line : ℕ) → Services
called_services v at line =
    record v {
      activations = called_activation v at ∷ v.activations;
      waiting = None;
      line = line;
    }

enter_answer : (code : List Instr) (v : Services) (m : List ℕ) (at line : ℕ) → v.waiting ≡ None → nat_lt (length v.activations) most_activations ≡ true → K.enter_served (call_at code v m) 0 at line 0 ≡ Done (called_services v at line) m 0 at
enter_answer code v m at line none few =
    let next : K.Entered → Answer = λ entered.
    bad_unless (K.are_texts 0 v.entries)
    (if nat_lt (S.height v) most_activations
    then Done (record v { activations = K.activation_of v entered at 0 ∷ v.activations; waiting = None; line = line }) m 0 at
    else run_ended (E.Limit L.Depth) v) in
    ap (λ w. or_bad (K.entered_of 0 v.line w) next) none
    ∙ ap (λ q. cond q (Done (called_services v at line) m 0 at) (run_ended (E.Limit L.Depth) v)) few

-- behind the frame: the arguments' list, of which nothing is asked, and how many texts go with it
abbrev pub called_entry : (line : ℕ) → Code
called_entry line = move u5 a1 ∷ move a3 a2 ∷ block_entered 0 line

abbrev enter_front : Code
enter_front = move u5 a1 ∷ move a3 a2 ∷ (load_word a1 frame_register own_offset ++ small a0 0 ∷ [])

abbrev enter_regs : (at : ℕ) → Base → List (ℕ × ℕ)
enter_regs at b = (10, 0) ∷ (11, at) ∷ (13, 0) ∷ []

zero_moved : (x : ℕ) → x ≡ 0 → sum x (word (pos 0)) ≡ 0
zero_moved x e = omega (arith, e)

-- up to the call
asked_call : {e : Environment} {block : Names} {types : Types} (bl : Block e block types) (callee : Callee bl) (back : Base → ℕ) (n : Values) {links : Links} {code : List Instr} {i : ℕ} {v : Services} {h0 h t0 t : ℕ → ℕ} (c : ℕ) (f : Family) (line : ℕ) → line < 2 ^ 31 → Linked links code i (called_entry line) → ((b : Base) → At b i (Known (called_ground bl callee back h0 t0 n) v h t without_texts b) (f b)) → Reach code c f v (c + 4 + size_of (number a2 line) + 1) v (λ b w. At b (i + 4 + size_of (number a2 line) + 1) (Known (called_ground bl callee back h0 t0 n) v h t (λ b'. (17, 4) ∷ (12, line) ∷ enter_regs callee.at b') b) w)
asked_call bl callee back n {links} {code} {i} {v} {h0} {h} {t0} {t} c f line fits l there =
    let ground = called_ground bl callee back h0 t0 n in
    let m = number a2 line in
    let last = small a7 4 ∷ Plain I.Ecall ∷ [] in
    let l1 = back_of enter_front (m ++ last) l in
    let l2 = back_of m last l1 in
    let room = callee.room in
    let whole = inner_whole callee.at bl.stack.free callee.words callee.place bl.stack.aligned in
    let r1 = straight c f v v (λ b w. Known ground v h t (enter_regs callee.at) b w) (front_of enter_front (m ++ last) l) (omega arith) (λ b. (there b).pc)
    (λ b. let o = (there b).holds in (
      frame_word b callee.at ((f b).machine.registers 8) 36 (omega (arith, room)) whole refl (omega arith) (frame_is o.body),
      record {
        body = record { services = o.body.services; registers = o.body.registers; bytes = o.body.bytes; memory = o.body.memory };
        regs = (small_is _ 0 (zero_is o.body) (lit< tt), (o.body.memory.own, (zero_moved ((f b).machine.registers 12) o.regs.0, tt)));
      },
    )) in
    let r2 = constant_piece (c + 4) (reached r1) a2 (pos line) (word_fits line fits) (record { reserved_stay = λ y u. refl; known_stay = λ b y u q. q; set = λ y u. refl }) (front_of m last l1) (reached_holds r1) in
    let r3 = straight (c + 4 + size_of m) (reached r2) v v (λ b w. Known ground v h t (λ b'. (17, 4) ∷ (12, line) ∷ enter_regs callee.at b') b w) (front_of (small a7 4 ∷ []) (Plain I.Ecall ∷ []) l2) (omega arith) (λ b. (reached_holds r2 b).pc)
    (λ b. let o = (reached_holds r2 b).holds in record {
      body = record { services = o.body.services; registers = o.body.registers; bytes = o.body.bytes; memory = o.body.memory };
      regs = (small_is _ 4 (zero_is o.body) (lit< tt), (o.regs.0 ∙ word_is line fits, o.regs.1));
    }) in
    reach_then r1 (reach_then r2 r3)

pub called_entered : {e : Environment} {block : Names} {types : Types} (bl : Block e block types) (callee : Callee bl) (back : Base → ℕ) (n : Values) {links : Links} {code : List Instr} {i : ℕ} {v : Services} {h0 h t0 t : ℕ → ℕ} (c : ℕ) (f : Family) (line : ℕ) → line < 2 ^ 31 → v.waiting ≡ None → nat_lt (length v.activations) most_activations ≡ true → Linked links code i (called_entry line) → ((b : Base) → At b i (Known (called_ground bl callee back h0 t0 n) v h t without_texts b) (f b)) → Reach code c f v (c + size_of (called_entry line)) (called_services v callee.at line) (λ b w. At b (i + size_of (called_entry line)) (Known (called_ground bl callee back h0 t0 n) (called_services v callee.at line) h t nothing b) w)
called_entered bl callee back n {links} {code} {i} {v} {h0} {h} {t0} {t} c f line fits none few l there =
    let ground = called_ground bl callee back h0 t0 n in
    let v' = called_services v callee.at line in
    let m = number a2 line in
    let last = small a7 4 ∷ Plain I.Ecall ∷ [] in
    let l2 = back_of m last (back_of enter_front (m ++ last) l) in
    let total = size_append m last in
    let r3 = asked_call bl callee back n c f line fits l there in
    let calling : Calling _ code (i + 4 + size_of m + 1) (reached r3) (λ b. Done v' (reached r3 b).machine.memory 0 callee.at) = record {
      linked = back_of (small a7 4 ∷ []) (Plain I.Ecall ∷ []) l2;
      pc = λ b. (reached_holds r3 b).pc;
      answers = λ b.
          let o = (reached_holds r3 b).holds in
          called code (reached r3 b) v 4 0 callee.at line 0 _ (λ call x0 x1 x2 x3 x4. K.enter_served call x0 x1 x2 x3) o.body.services o.regs.0 o.regs.1.1.0 o.regs.1.1.1.0 o.regs.1.0 o.regs.1.1.1.1.0 refl (λ call x. refl)
          ∙ enter_answer code v (reached r3 b).machine.memory callee.at line none few;
    } in
    let r4 = call_done (c + 4 + size_of m + 1) (reached r3) v v' (λ b. (reached r3 b).machine.memory) (λ b. 0) (λ b. callee.at) (λ b. Known ground v' h t nothing b) (omega arith) calling
    (λ b. let o = (reached_holds r3 b).holds.body in record { body = record { services = refl; registers = o.registers; bytes = o.bytes; memory = o.memory }; regs = tt }) in
    reach_moved (omega (arith, total)) (omega (arith, total)) (reach_then r3 r4)

-- where too many blocks are entered the run ends
enter_limited : (code : List Instr) (v : Services) (m : List ℕ) (at line : ℕ) → v.waiting ≡ None → nat_lt (length v.activations) most_activations ≡ false → K.enter_served (call_at code v m) 0 at line 0 ≡ run_ended (E.Limit L.Depth) v
enter_limited code v m at line none many =
    let next : K.Entered → Answer = λ entered.
    bad_unless (K.are_texts 0 v.entries)
    (if nat_lt (S.height v) most_activations
    then Done (record v { activations = K.activation_of v entered at 0 ∷ v.activations; waiting = None; line = line }) m 0 at
    else run_ended (E.Limit L.Depth) v) in
    ap (λ w. or_bad (K.entered_of 0 v.line w) next) none
    ∙ ap (λ q. cond q (Done (called_services v at line) m 0 at) (run_ended (E.Limit L.Depth) v)) many

pub called_limited : {e : Environment} {block : Names} {types : Types} (bl : Block e block types) (callee : Callee bl) (back : Base → ℕ) (n : Values) {X : Type 0} {links : Links} {code : List Instr} {i : ℕ} {s : State} {v : Services} {h0 h t0 t : ℕ → ℕ} {aims : Aims X} (c : ℕ) (f : Family) (closed : Closed code aims) (k line old : ℕ) → line < 2 ^ 31 → c + 4 + size_of (number a2 line) + 1 < cost code → nat_lt (length v.activations) most_activations ≡ false → Linked links code i (called_entry line) → Serving k s v old → ((b : Base) → At b i (Known (called_ground bl callee back h0 t0 n) v h t without_texts b) (f b)) → Comes code c f v aims (finish {R = X} (E.Limit L.Depth) k s)
called_limited bl callee back n {code = code} {i = i} {s = s} {v = v} c f closed k line old fits few many l serving at =
    let m = number a2 line in
    let last = small a7 4 ∷ Plain I.Ecall ∷ [] in
    let l2 = back_of m last (back_of enter_front (m ++ last) l) in
    let v' = N.with_world (ending (E.Limit L.Depth) v.world) v in
    onward closed (asked_call bl callee back n c f line fits l at)
    (λ f' at'.
    let calling : Calling _ code (i + 4 + size_of m + 1) f' (λ b. Ends v') = record {
      linked = back_of (small a7 4 ∷ []) (Plain I.Ecall ∷ []) l2;
      pc = λ b. (at' b).pc;
      answers = λ b.
          let o = (at' b).holds in
          called code (f' b) v 4 0 callee.at line 0 _ (λ call x0 x1 x2 x3 x4. K.enter_served call x0 x1 x2 x3) o.body.services o.regs.0 o.regs.1.1.0 o.regs.1.1.1.0 o.regs.1.0 o.regs.1.1.1.1.0 refl (λ call x. refl)
          ∙ enter_limited code v (f' b).machine.memory callee.at line serving.waiting many
          ∙ acts v k (Ends v') serving.allowed serving.fits;
    } in
    comes_finish v' (E.Limit L.Depth) k s serving.world (ap (ending (E.Limit L.Depth)) serving.world)
    (end_pauses (c + 4 + size_of m + 1) f' v v' few serving.running (λ b. (at' b).holds.body.services) (add-one v.world.acts) calling)
    (call_ends (c + 4 + size_of m + 1) f' v v' (λ e. cc e) calling))
