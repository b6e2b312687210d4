-- GOTO out of a block to a label of a block around: the blocks in it end among the services (service 6), and its frame runs again.
use Rattle.std.proofs.Common.{◌≡◌, ℕ, ◌+◌, ◌*◌, ◌^◌, ◌<◌, ◌≤◌, inl, inr, suc, List, [], ◌∷◌, ◌++◌, Bool, true, false, refl, sym, ap, ◌∙◌, subst, arith, lit<, Option}
use Rattle.std.specs.Prelude.{pos, cond, ◌==◌}
use Rattle.std.proofs.lemmas.Bool.Decides.{nat_tests}
use Rattle.std.proofs.lemmas.Int.{ints}
use Rattle.rv_meaning.specs.declared.instr.Instr.{Instr}
use Rattle.rv_meaning.specs.declared.instr.Instr.TheVariants as I
use Rattle.rv_meaning.specs.declared.instr.ImmediateOp.TheVariants as Imm
use Rattle.rv_meaning.specs.declared.instr.LoadKind.TheVariants as Load
use Rattle.pli_typing.specs.TypedTree as Y
use Rattle.pli_meaning.specs.World.{counted}
use Rattle.pli_meaning.specs.StorageState.{State, with_world, ancestor_at, height_of}
use Rattle.pli_meaning.specs.Control.{Label, Jump, Meaning, act, looked, jumps, ◌>>=◌, ◌>>◌}
use Rattle.pli_meaning.specs.BasicValues.{BasicValue}
use Rattle.pli_meaning.specs.Raising.{Around}
use Rattle.pli_meaning.specs.Executing as M
use Rattle.pli_serving.specs.ServiceState as S
use Rattle.pli_serving.specs.ServiceState.{Services}
use Rattle.pli_serving.specs.Answers.{Done}
use Rattle.pli_serving.specs.Blocks as K
use Rattle.pli_coding.specs.Registers.{stack_register, frame_register, a0, a1, a7}
use Rattle.pli_coding.specs.Assembly.{Plain, LabelPlace, JumpTo, Code, size_of}
use Rattle.pli_coding.specs.Instructions.{small, load_word, plus, is_immediate}
use Rattle.pli_coding.specs.Frames.{display, own_offset, frame_end}
use Rattle.pli_coding.specs.Allocating.{act_code}
use Rattle.pli_coding.specs.Environments.{Environment, block_around}
use Rattle.pli_coding.specs.Statements.{unwound_to, goto_outer, goto_code, stmt_code}
use Rattle.pli_coding.specs.Linking.{Links}
use Rattle.pli_headline.proofs.HeldPlaces.{places_unwound}
use Rattle.pli_headline.proofs.Storages.{storage}
use Rattle.pli_headline.specs.ProvedSoFar.{Names, Types, OuterBlock, IsOutward, times}
use Rattle.run_steps.specs.Engine.{Base, address}
use Rattle.run_steps.proofs.Linking.{size_append}
use Rattle.run_steps.specs.Items.{Linked, At}
use Rattle.run_steps.proofs.Items.{straight}
use Rattle.run_steps.proofs.Numbers.{above_sum, above_small}
use Rattle.run_steps.specs.Bodies.{Ground, Known, far_code, nth}
use Rattle.run_steps.proofs.Bodies.{at_place, zero_is, frame_is, displaced_by}
use Rattle.run_steps.proofs.Jumps.{front_of, back_of, jump_piece}
use Rattle.run_steps.specs.Temporaries.{nothing}
use Rattle.run_steps.proofs.Reaching.{reach_moved}
use Rattle.pli_headline.proofs.OuterBlocks.{risen_height}
use Rattle.run_steps.specs.Calls.{Calling}
use Rattle.run_steps.proofs.Calls.{called, call_done}
use Rattle.pli_headline.proofs.Raising.{small_is}
use Rattle.pli_headline.proofs.Acts.{acted, act_to}
use Rattle.pli_headline.proofs.Ifs.{free_far}
use Rattle.pli_headline.proofs.MoreStates.{restricts_all}
use Rattle.pli_headline.proofs.Statements.{IsSized, lower_ground, Restricts, AllSeen, Enclosing, Enclosures, Block, counted_all, IsMarkedOnce, OutletOf, Outlets, Enough, Does}
use Rattle.pli_headline.proofs.BeginDisplays.{frame_word, moved_reserved, without_two, outer_place}
use Rattle.pli_headline.proofs.EndedBlocks.{all_ended}
use Rattle.pli_headline.proofs.Returns.{unwound_services, unwind_answer}
use Rattle.run_steps.specs.Reach.{Family, Reach, Comes, reached}
use Rattle.run_steps.proofs.Reach.{before_closed, comes_on, onward, reach_then, reached_holds}
use Rattle.pli_headline.proofs.Scalars.{Values}

-- ---- the frame of a block around runs again

abbrev rest_asked : Code
rest_asked = load_word a0 frame_register own_offset ++ (small a1 0 ∷ (small a7 6 ∷ []))

-- the frame's address is in the display
display_piece : {e : Environment} {block : Names} {types : Types} (bl : Block e block types) {o : OuterBlock} (d : Enclosing e o bl.ground bl.levels bl.frames.list (e.level ∷ bl.depths)) {links : Links} {code : List Instr} {i : ℕ} {v : Services} {h t : ℕ → ℕ} (n : Values) (c : ℕ) (f : Family) → e.level ≤ 100 → Linked links code i (load_word frame_register frame_register (display o.level)) → ((b : Base) → At b i (Known (bl.ground n) v h t nothing b) (f b)) → Reach code c f v (c + size_of (load_word frame_register frame_register (display o.level))) v (λ b w. At b (i + size_of (load_word frame_register frame_register (display o.level))) (Known (lower_ground (d.its n) (bl.ground n).free) v h d.waits nothing b) w)
display_piece {e} bl {o} d {v = v} {h = h} {t = t} n c f few l at =
    let g = bl.ground n in
    let lower = lower_ground (d.its n) g.free in
    let frame = bl.stack.frame in
    let same = bl.stack.frame_is n in
    let whole = g.whole in
    let high = g.above_code in
    let over = bl.stack.above in
    let ends = bl.ends in
    let deeper = d.deeper in
    let place = outer_place frame o.level (omega (arith, whole, same)) (omega (arith, high, same)) (omega (arith, over, ends)) (omega (arith, deeper, few)) in
    displaced_by (is_immediate (display o.level)) c f (λ r z. I.Load Load.Word frame_register r z) frame_register (display o.level) (λ b. b.at + frame) (Known g v h t nothing) (Known lower v h d.waits nothing) place.small'
    (λ b. let valid = b.valid.1 in omega (arith, valid, over, ends))
    (λ y u. refl)
    (λ b. frame_is (at b).holds.body ∙ ap (λ u. b.at + u) same)
    (omega arith)
    (record {
      does = λ b j w r z k s. (
        at_place b place _ s,
        record {
          body = record {
            services = k.body.services;
            registers = moved_reserved (w.machine.registers 0) _ _ _ _ _ _ (ap without_two k.body.registers) (ap (nth 1) k.body.registers) (bl.displays n t b w.machine.memory o.level deeper k.body.memory ∙ ap (λ u. b.at + u) (d.shown ∙ sym (d.frame_is n)));
            bytes = k.body.bytes;
            memory = d.kept n t b w.machine.memory k.body.memory;
          };
          regs = tt;
        },
      );
      lost = λ b w u i' k. record { body = record { services = k.body.services; registers = k.body.registers; bytes = k.body.bytes; memory = k.body.memory }; regs = tt };
    })
    l at

-- the blocks above it end among the services
ended_piece : {e : Environment} {block : Names} {types : Types} (bl : Block e block types) {o : OuterBlock} (d : Enclosing e o bl.ground bl.levels bl.frames.list (e.level ∷ bl.depths)) {links : Links} {code : List Instr} {i : ℕ} {v : Services} {h : ℕ → ℕ} (n : Values) (free c : ℕ) (f : Family) (a : S.Activation) (rest : List S.Activation) → K.from_frame d.frame v.activations ≡ a ∷ rest → Linked links code i (rest_asked ++ Plain I.Ecall ∷ []) → ((b : Base) → At b i (Known (lower_ground (d.its n) free) v h d.waits nothing b) (f b)) → Reach code c f v (c + 4) (unwound_services v a rest) (λ b w. At b (i + 4) (Known (lower_ground (d.its n) free) (unwound_services v a rest) h d.waits nothing b) w)
ended_piece bl d {code = code} {i = i} {v = v} {h = h} n free c f a rest found l at =
    let its = d.its n in
    let lower = lower_ground its free in
    let frame = d.frame in
    let v' = unwound_services v a rest in
    let last = Plain I.Ecall ∷ [] in
    let same = d.frame_is n in
    let whole = its.whole in
    let seen = d.above in
    let ends = d.ends in
    let r1 = straight c f v v (λ b w. Known lower v h d.waits (λ b'. (17, 6) ∷ (11, 0) ∷ (10, frame) ∷ []) b w) (front_of rest_asked last l) (omega arith) (λ b. (at b).pc)
    (λ b.
    let p = (at b).holds in
    let z = zero_is p.body in (
      frame_word b frame ((f b).machine.registers 8) 36 (omega (arith, seen, ends)) (omega (arith, whole, same)) refl (omega arith) (frame_is p.body ∙ ap (λ u. b.at + u) same),
      record {
        body = record { services = p.body.services; registers = p.body.registers; bytes = p.body.bytes; memory = p.body.memory };
        regs = (small_is _ 6 z (lit< tt), (small_is _ 0 z (lit< tt), (d.own n d.waits b _ p.body.memory, tt)));
      },
    )) in
    let calling : Calling _ code (i + 3) (reached r1) (λ b. Done v' (reached r1 b).machine.memory frame 0) = record {
      linked = back_of rest_asked last l;
      pc = λ b. (reached_holds r1 b).pc;
      answers = λ b.
          let p = (reached_holds r1 b).holds in
          called code (reached r1 b) v 6 frame 0 _ _ _ (λ call x0 x1 x2 x3 x4. K.unwind_served call x0 x1) p.body.services p.regs.0 p.regs.1.1.0 p.regs.1.0 refl refl refl (λ call x. refl)
          ∙ unwind_answer code v (reached r1 b).machine.memory frame a rest found;
    } in
    let r2 = call_done (c + 3) (reached r1) v v' (λ b. (reached r1 b).machine.memory) (λ b. frame) (λ b. 0) (λ b. Known lower v' h d.waits nothing b) (omega arith) calling
    (λ b. let p = (reached_holds r1 b).holds.body in record { body = record { services = refl; registers = p.registers; bytes = p.bytes; memory = p.memory }; regs = tt }) in
    reach_moved (omega arith) (omega arith) (reach_then r1 r2)

pub unwound_piece : {e : Environment} {block : Names} {types : Types} (bl : Block e block types) {o : OuterBlock} (d : Enclosing e o bl.ground bl.levels bl.frames.list (e.level ∷ bl.depths)) {links : Links} {code : List Instr} {i : ℕ} {v : Services} {h t : ℕ → ℕ} (n : Values) (c : ℕ) (f : Family) (a : S.Activation) (rest : List S.Activation) → e.level ≤ 100 → K.from_frame d.frame v.activations ≡ a ∷ rest → Linked links code i (unwound_to o.level 0) → ((b : Base) → At b i (Known (bl.ground n) v h t nothing b) (f b)) → Reach code c f v (c + size_of (unwound_to o.level 0)) (unwound_services v a rest) (λ b w. At b (i + size_of (unwound_to o.level 0)) (Known (lower_ground (d.its n) (bl.ground n).free) (unwound_services v a rest) h d.waits nothing b) w)
unwound_piece bl {o} d n c f a rest few found l at =
    let first = load_word frame_register frame_register (display o.level) in
    let second = rest_asked ++ Plain I.Ecall ∷ [] in
    let size = size_append first second in
    let r1 = display_piece bl d n c f few (front_of first second l) at in
    let r2 = ended_piece bl d n (bl.ground n).free (c + size_of first) (reached r1) a rest found (back_of first second l) (reached_holds r1) in
    reach_moved (omega (arith, size)) (omega (arith, size)) (reach_then r1 r2)

pub stack_piece : (g : Ground) (free size : ℕ) {links : Links} {code : List Instr} {i : ℕ} {v : Services} {h t : ℕ → ℕ} (c : ℕ) (f : Family) → g.free ≡ g.frame + size → g.frame + size ≤ 14 * 2 ^ 20 → Linked links code i (plus stack_register frame_register (pos size)) → ((b : Base) → At b i (Known (lower_ground g free) v h t nothing b) (f b)) → Reach code c f v (c + size_of (plus stack_register frame_register (pos size))) v (λ b w. At b (i + size_of (plus stack_register frame_register (pos size))) (Known g v h t nothing b) w)
stack_piece g free size {v = v} {h = h} {t = t} c f ends room l at =
    displaced_by (is_immediate (pos size)) c f (λ q d. I.Immediate Imm.Add stack_register q d) frame_register (pos size) (λ b. b.at + g.frame) (Known (lower_ground g free) v h t nothing) (Known g v h t nothing) (above_small size (omega (arith, room)))
    (λ b. let v' = b.valid.1 in omega (arith, v', room))
    (λ y u. refl)
    (λ b. frame_is (at b).holds.body)
    (omega arith)
    (record {
      does = λ b j w q d k s. record {
        body = record {
          services = k.body.services;
          registers = moved_reserved (w.machine.registers 0) _ _ _ _ _ _ (ap without_two k.body.registers) (s ∙ above_sum b.at g.frame size b.valid.1 (omega (arith, room)) ∙ ap (λ u. b.at + u) (sym ends)) (frame_is k.body);
          bytes = k.body.bytes;
          memory = k.body.memory;
        };
        regs = tt;
      };
      lost = λ b w u i' k. record { body = record { services = k.body.services; registers = k.body.registers; bytes = k.body.bytes; memory = k.body.memory }; regs = tt };
    })
    l at

plus_size : (size : ℕ) → size_of (plus stack_register frame_register (pos size)) ≤ 3
plus_size size = by_near (is_immediate (pos size))
  where
    by_near : (q : Bool) → size_of (far_code (λ r d. I.Immediate Imm.Add stack_register r d) frame_register (pos size) q) ≤ 3
    by_near true = omega arith
    by_near false = omega arith

-- ---- the statement

abbrev out_code : OuterBlock → (size : ℕ) → Label → Code
out_code o size label =
    (unwound_to o.level 0 ++ plus stack_register frame_register (pos size)) ++ JumpTo (LabelPlace o.number label) ∷ []

near_display : (level : ℕ) → level ≤ 100 → is_immediate (display level) ≡ true
near_display level few = grind (arith, ints, nat_tests)

pub unwound_size : (level : ℕ) → level ≤ 100 → size_of (unwound_to level 0) ≤ 5
unwound_size level few = by_near (is_immediate (display level)) (near_display level few)
  where
    by_near : (q : Bool) → q ≡ true → size_of (far_code (λ r z. I.Load Load.Word frame_register r z) frame_register (display level) q ++ (rest_asked ++ Plain I.Ecall ∷ [])) ≤ 5
    by_near true near = omega arith
    by_near false near = absurd (cc near)

-- the act leaves no credits to count, so the label may stand anywhere
own_out_does : {e : Environment} {block : Names} {types : Types} (bl : Block e block types) (links : Links) (code : List Instr) (around : Around) {o : OuterBlock} (d : Enclosing e o bl.ground bl.levels bl.frames.list (e.level ∷ bl.depths)) (seen : Restricts bl.serials block types d.serials d.names d.types) (label : Label) (line : ℕ) → ((i k : ℕ) (h t : ℕ → ℕ) (acts : ℕ) (jumped : ℕ → Family → Services → ℕ → Label → State → Type 0) (returned : ℕ → Family → Services → Option BasicValue → State → Type 0) → Enough bl links k around.turns i h t acts jumped returned → OutletOf bl.frames d links k acts jumped label) → IsSized e.owner o.level → e.level ≤ 100 → line < 2 ^ 31 → Does bl links code around.turns (act_code line ++ out_code o (frame_end e.parts e.program o.number o.level) label) (M.statement around (Y.Goto o.level label line))
unfolding M.statement looked jumps ◌>>=◌ ◌>>◌
own_out_does {e} {block} {types} bl links code around {o} d seen label line outs owned few fits =
    record {
      does = λ {i} {s} {v} {h} {t} {aims} closed old n f k l serving all at goal more.
          let a = act_code line in
          let size = frame_end e.parts e.program o.number o.level in
          let u' = unwound_to o.level 0 in
          let p = plus stack_register frame_register (pos size) in
          let j = JumpTo (LabelPlace o.number label) ∷ [] in
          let c = out_code o size label in
          let out = outs i k h t v.world.acts aims.jumped aims.returned more in
          let total = size_append a c in
          let total2 = size_append (u' ++ p) j in
          let total3 = size_append u' p in
          let short = plus_size size in
          let deeper = d.deeper in
          let short2 = unwound_size o.level (omega (arith, deeper, few)) in
          let there : i + size_of a + size_of u' + size_of p ≡ i + size_of a + size_of (u' ++ p) = omega (arith, total3) in
          let inside = l.inside in
          let later = out.later in
          let next' : Unit {0} → Meaning (Unit {0}) = λ u. looked >>= (λ s'. jumps (height_of (ancestor_at s' o.level)) label) in
          let l1 = back_of a c l in
          let l2 = front_of (u' ++ p) j l1 in
          let l3 = back_of (u' ++ p) j l1 in
          let ends = d.ends in
          let sized = d.sized owned in
          let frame = d.frame_is n in
          let free = d.free_is n in
          let s1 = with_world (counted s.world) s in
          let left' = all_ended (suc d.count) d.frame o.level bl.frames bl.frames.list (e.level ∷ bl.depths) d.behind d.depths s1 (storage v) refl d.rises d.beneath serving.nested (restricts_all seen (counted_all (counted s.world) all)) in
          let v2 = unwound_services (acted line v) left'.activation left'.rest in
          comes_on k (act counted k s) next'
          (act_to (before_closed k next' closed) i 0 f line old k fits (omega (arith, inside, total)) (front_of a c l) serving at
          (λ f1 serving1 at1.
          subst (λ height. Comes code 0 f1 (acted line v) aims (Jump height label s1)) (sym (risen_height (suc d.count) d.frame o.level bl.frames.list (e.level ∷ bl.depths) d.behind d.depths s1.activations v.activations serving1.nested all.entered d.rises))
          (onward closed (unwound_piece bl d n 0 f1 left'.activation left'.rest few left'.found (front_of u' p l2) at1)
          (λ f2 at2.
          onward closed (stack_piece (d.its n) (bl.ground n).free size (0 + size_of u') f2 (omega (arith, frame, free, sized)) (omega (arith, frame, ends, sized)) (back_of u' p l2) at2)
          (λ f3 at3.
          onward closed (jump_piece (0 + size_of u' + size_of p) out.at f3 (LabelPlace o.number label) out.at (omega (arith, later, short, short2)) out.place out.near free_far l3
          (λ b. record { pc = (at3 b).pc ∙ ap (address b) there; holds = (at3 b).holds }))
          (λ f4 at4.
          record {
            to = λ early.
                out.lands s1 v2 line n h f4
                (record {
                  world = serving1.world ∙ sym left'.world;
                  running = serving1.running;
                  line_is = serving1.line_is;
                  input = serving1.input ∙ sym left'.input;
                  allowed = serving1.allowed;
                  fits = serving1.fits;
                  nested = left'.nested;
                  waiting = serving1.waiting;
                  places = places_unwound v.edits d.frame v.activations left'.activation left'.rest left'.found serving1.places;
                })
                left'.all (omega arith) at4;
          }))))));
    }

deep_code : (e : Environment) (o : OuterBlock) (label : Label) → (o.level == e.level) ≡ false → block_around e o.level ≡ o.number → out_code o (frame_end e.parts e.program o.number o.level) label ≡ goto_code e o.level label
deep_code e o label deep around =
    ap (λ u. (unwound_to o.level 0 ++ plus stack_register frame_register (pos (frame_end e.parts e.program u o.level))) ++ JumpTo (LabelPlace u label) ∷ []) (sym around)
    ∙ ap (λ q. cond q [] (goto_outer e o.level) ++ JumpTo (LabelPlace (block_around e o.level) label) ∷ []) (sym deep)

outer_does : {e : Environment} {block : Names} {types : Types} (bl : Block e block types) (links : Links) (code : List Instr) (around : Around) {o : OuterBlock} (d : Enclosing e o bl.ground bl.levels bl.frames.list (e.level ∷ bl.depths)) (seen : Restricts bl.serials block types d.serials d.names d.types) (level : ℕ) (label : Label) (line : ℕ) → ((i k : ℕ) (h t : ℕ → ℕ) (acts : ℕ) (jumped : ℕ → Family → Services → ℕ → Label → State → Type 0) (returned : ℕ → Family → Services → Option BasicValue → State → Type 0) → Enough bl links k around.turns i h t acts jumped returned → OutletOf bl.frames d links k acts jumped label) → o.level ≡ level → block_around e level ≡ o.number → IsSized e.owner level → e.level ≤ 100 → line < 2 ^ 31 → Does bl links code around.turns (stmt_code e bl.taken (Y.Goto level label line)) (M.statement around (Y.Goto level label line))
outer_does {e} bl links code around {o} d seen level label line outs same found owned few fits =
    let deeper = d.deeper in
    let apart : (o.level == e.level) ≡ false = grind (arith, nat_tests) in
    subst (λ n. Does bl links code around.turns (stmt_code e bl.taken (Y.Goto n label line)) (M.statement around (Y.Goto n label line))) same
    (subst (λ c. Does bl links code around.turns (act_code line ++ c) (M.statement around (Y.Goto o.level label line))) (deep_code e o label apart (ap (block_around e) same ∙ found))
    (own_out_does bl links code around d seen label line outs (subst (λ n. IsSized e.owner n) (sym same) owned) few fits))

-- ---- to any of the blocks around

out_among : {e : Environment} {block : Names} {types : Types} (bl : Block e block types) (links : Links) (code : List Instr) (around : Around) (all : List (ℕ × Label)) (level : ℕ) (label : Label) (line : ℕ) → ((number : ℕ) → times number label all ≡ 1 → IsMarkedOnce links number label) → IsSized e.owner level → e.level ≤ 100 → line < 2 ^ 31 → (os : List OuterBlock) (ds : Enclosures e bl.ground bl.levels bl.frames.list (e.level ∷ bl.depths) os) → AllSeen e bl.ground bl.levels bl.frames.list (e.level ∷ bl.depths) os ds bl.serials block types → ((i k : ℕ) (h t : ℕ → ℕ) (acts : ℕ) (jumped : ℕ → Family → Services → ℕ → Label → State → Type 0) (returned : ℕ → Family → Services → Option BasicValue → State → Type 0) → Enough bl links k around.turns i h t acts jumped returned → Outlets e bl.ground bl.levels bl.frames (e.level ∷ bl.depths) os ds links k acts jumped) → IsOutward e.block level label all e.blocks os → Does bl links code around.turns (stmt_code e bl.taken (Y.Goto level label line)) (M.statement around (Y.Goto level label line))
out_among bl links code around all level label line once owned few fits [] ds seen outs outward = absurd outward
out_among bl links code around all level label line once owned few fits (o ∷ os) ds seen outs (inl h) =
    outer_does bl links code around ds.0 seen.0 level label line (λ i k h' t acts jumped returned more. (outs i k h' t acts jumped returned more).0 label h.1.0 (once o.number h.1.1.0)) h.0 h.1.1.1 owned few fits
out_among bl links code around all level label line once owned few fits (o ∷ os) ds seen outs (inr h) =
    out_among bl links code around all level label line once owned few fits os ds.1 seen.1 (λ i k h' t acts jumped returned more. (outs i k h' t acts jumped returned more).1) h

pub out_does : {e : Environment} {block : Names} {types : Types} (bl : Block e block types) (links : Links) (code : List Instr) (around : Around) (all : List (ℕ × Label)) (level : ℕ) (label : Label) (line : ℕ) → ((number : ℕ) → times number label all ≡ 1 → IsMarkedOnce links number label) → IsSized e.owner level → e.level ≤ 100 → line < 2 ^ 31 → IsOutward e.block level label all e.blocks bl.outer → Does bl links code around.turns (stmt_code e bl.taken (Y.Goto level label line)) (M.statement around (Y.Goto level label line))
out_does bl links code around all level label line once owned few fits outward =
    out_among bl links code around all level label line once owned few fits bl.outer bl.enclosing bl.seen (λ i k h t acts jumped returned more. more.outs) outward
