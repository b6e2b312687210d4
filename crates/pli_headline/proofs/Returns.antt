-- RETURN in a procedure and in the blocks in it, which goes to the procedure's end: the blocks end among the services (service 6).
use Rattle.std.proofs.Common.{◌≡◌, ℕ, suc, ◌+◌, ◌^◌, ◌<◌, [], ◌∷◌, ◌++◌, List, length, None, Bool, true, false, refl, sym, ap, ◌∙◌, subst, arith, lit<}
use Rattle.std.specs.Prelude.{cond, filter, nat_le, ◌==◌}
use Rattle.std.proofs.lemmas.Bool.{eq-eqb}
use Rattle.rv_meaning.specs.declared.instr.Instr.{Instr}
use Rattle.rv_meaning.specs.declared.instr.Instr.TheVariants as I
use Rattle.rv_meaning.specs.Words.{word, sum}
use Rattle.rv_meaning.specs.Memory.{load}
use Rattle.rv_meaning.specs.Machine.{written}
use Rattle.pli_typing.specs.TypedTree as Y
use Rattle.pli_meaning.specs.World.{counted}
use Rattle.pli_meaning.specs.StorageState.{with_world}
use Rattle.pli_meaning.specs.Control.{Meaning, act, returns, ◌>>◌}
use Rattle.pli_meaning.specs.Raising.{Around}
use Rattle.pli_meaning.specs.Executing as M
use Rattle.pli_serving.specs.ServiceState as S
use Rattle.pli_serving.specs.ServiceState.{Services}
use Rattle.pli_serving.specs.Answers.{Done}
use Rattle.pli_serving.specs.Blocks as K
use Rattle.pli_coding.specs.Registers.{frame_register, a0, a1, a7}
use Rattle.pli_coding.specs.Assembly.{Plain, ReturnPlace, JumpTo, Code}
use Rattle.pli_coding.specs.Instructions.{small, load_word}
use Rattle.pli_coding.specs.Frames.{display, own_offset}
use Rattle.pli_coding.specs.Allocating.{act_code}
use Rattle.pli_coding.specs.Environments.{Owner, BlockOwner, Environment}
use Rattle.pli_coding.specs.Statements.{unwound_to, returned_by, stmt_code}
use Rattle.pli_coding.specs.Linking.{Links}
use Rattle.image_runs.specs.Runs.{Whole}
use Rattle.pli_headline.specs.ProvedSoFar.{Names, Types}
use Rattle.run_steps.specs.Engine.{Base, call_at}
use Rattle.run_steps.proofs.Linking.{size_append}
use Rattle.run_steps.specs.Items.{Linked, At}
use Rattle.run_steps.proofs.Items.{straight}
use Rattle.run_steps.specs.Bodies.{Known, Regs}
use Rattle.run_steps.proofs.Bodies.{zero_is, frame_is}
use Rattle.run_steps.proofs.Jumps.{front_of, back_of, jump_with, jump_piece}
use Rattle.pli_headline.proofs.Acts.{acted, act_to}
use Rattle.pli_headline.proofs.Statements.{Block, Unwound, IsEndMarkedOnce, Does, counted_all}
use Rattle.pli_headline.proofs.BeginDisplays.{frame_word}
use Rattle.pli_headline.proofs.Ifs.{free_far}
use Rattle.run_steps.specs.Temporaries.{nothing}
use Rattle.run_steps.specs.Reaching.{Reaches}
use Rattle.run_steps.proofs.Reaching.{reach_moved}
use Rattle.pli_headline.proofs.Activations.{bottom_is, only_activation, entered_length}
use Rattle.run_steps.specs.Calls.{Calling}
use Rattle.run_steps.proofs.Calls.{called, call_done}
use Rattle.pli_headline.proofs.Raising.{small_is}
use Rattle.run_steps.specs.Reach.{Family, Reach, reached}
use Rattle.run_steps.proofs.Reach.{before_closed, comes_on, onward, reach_then, reached_holds}
use Rattle.pli_headline.proofs.Scalars.{Values}

-- ---- service 6

-- the services when all activations above one have ended
abbrev pub unwound_services : Services → S.Activation → List S.Activation → Services
unwound_services v a rest =
    record v {
      activations = a ∷ rest;
      living = filter (λ l. nat_le l.owner (suc (length rest))) v.living;
      entries = K.oldest a.texts v.entries;
      edits = K.oldest a.edits v.edits;
    }

pub unwind_answer : (code : List Instr) (v : Services) (m : List ℕ) (frame : ℕ) (a : S.Activation) (rest : List S.Activation) → K.from_frame frame v.activations ≡ a ∷ rest → K.unwind_served (call_at code v m) frame 0 ≡ Done (unwound_services v a rest) m frame 0
unwind_answer code v m frame a rest e = ap (λ u. K.unwound (call_at code v m) frame 0 u) e

-- ---- the main procedure's frame runs again

-- a machine in the frame of the main procedure that is about to call
record Asking (base : ℕ) (holds : Base → List ℕ → Type 0) (v : Services) (b : Base) (w : Whole) : Type 0 where
  services : w.services ≡ v
  regs : Regs ((17, 6) ∷ (11, 0) ∷ (10, base) ∷ (8, b.at + base) ∷ (0, 0) ∷ []) w.machine.registers
  memory : holds b w.machine.memory

-- what stands before the call
abbrev pub unwind_asked : Code
unwind_asked =
    load_word frame_register frame_register (display 0)
    ++ (load_word a0 frame_register own_offset ++ (small a1 0 ∷ (small a7 6 ∷ [])))

unwound_piece : {e : Environment} {block : Names} {types : Types} (bl : Block e block types) {links : Links} {code : List Instr} {i : ℕ} {v : Services} {h t : ℕ → ℕ} (n : Values) (c : ℕ) (f : Family) (a : S.Activation) → K.from_frame bl.base v.activations ≡ a ∷ [] → Reaches false 0 (bl.ground n) bl.base → Linked links code i (unwound_to 0 0) → ((b : Base) → At b i (Known (bl.ground n) v h t nothing b) (f b)) → Reach code c f v (c + 5) (unwound_services v a []) (λ b w. At b (i + 5) (Unwound bl.base bl.bottom.holds (unwound_services v a []) b) w)
unwound_piece bl {code = code} {i = i} {v = v} {t = t} n c f a found reaches l at =
    let g = bl.ground n in
    let base = bl.base in
    let holds = bl.bottom.holds in
    let v' = unwound_services v a [] in
    let last = Plain I.Ecall ∷ [] in
    let room = bl.bottom.room in
    let place = reaches.0 in
    let r1 = straight c f v v (λ b w. Asking base holds v b w) (front_of unwind_asked last l) (omega arith) (λ b. (at b).pc)
    (λ b.
    let o = (at b).holds in
    let m = (f b).machine.memory in
    let low = bl.bottom.kept n t b m o.body.memory in
    let shown = reaches.1 t b m o.body.memory in
    let z = zero_is o.body in (
      record { offset = g.frame + 144; is = ap (λ u. sum u (word (display 0))) (frame_is o.body) ∙ place.sums b; aligned = place.aligned; inside = place.inside },
      (
        frame_word b base (load 4 m (g.frame + 144)) 36 room bl.bottom.aligned refl (omega arith) shown,
        record { services = o.body.services; regs = (small_is _ 6 z (lit< tt), (small_is _ 0 z (lit< tt), (bl.bottom.own b m low, (shown, (z, tt))))); memory = low },
      ),
    )) in
    let calling : Calling _ code (i + 4) (reached r1) (λ b. Done v' (reached r1 b).machine.memory base 0) = record {
      linked = back_of unwind_asked last l;
      pc = λ b. (reached_holds r1 b).pc;
      answers = λ b.
          let o = (reached_holds r1 b).holds in
          called code (reached r1 b) v 6 base 0 _ _ _ (λ call x0 x1 x2 x3 x4. K.unwind_served call x0 x1) o.services o.regs.0 o.regs.1.1.0 o.regs.1.0 refl refl refl (λ call x. refl)
          ∙ unwind_answer code v (reached r1 b).machine.memory base a [] found;
    } in
    let r2 = call_done (c + 4) (reached r1) v v' (λ b. (reached r1 b).machine.memory) (λ b. base) (λ b. 0) (λ b. Unwound base holds v' b) (omega arith) calling
    (λ b. let o = (reached_holds r1 b).holds in record { services = refl; regs = (o.regs.1.1.1.0, (o.regs.1.1.1.1.0, tt)); memory = o.memory }) in
    reach_moved (omega arith) (omega arith) (reach_then r1 r2)

-- ---- the statement

-- where the block isn't the procedure's own it ends first
abbrev return_code : Bool → (number : ℕ) → Code
return_code q number = cond q [] (unwound_to 0 0) ++ JumpTo (ReturnPlace number) ∷ []

unwound_lost : (base : ℕ) (holds : Base → List ℕ → Type 0) (v : Services) (b : Base) (w : Whole) (u i : ℕ) → Unwound base holds v b w → Unwound base holds v b (record { machine = record { registers = written w.machine.registers 31 u; memory = w.machine.memory; pc = i }; services = w.services })
unwound_lost base holds v b w u i o = record { services = o.services; regs = o.regs; memory = o.memory }

-- the act leaves no credits to count, so the end may stand anywhere
own_return_does : {e : Environment} {block : Names} {types : Types} (bl : Block e block types) (links : Links) (code : List Instr) (around : Around) (number line : ℕ) (q : Bool) → (0 == e.level) ≡ q → ((n : Values) → Reaches q 0 (bl.ground n) bl.base) → line < 2 ^ 31 → e.owner ≡ BlockOwner (record { number = number; level = 0 }) → IsEndMarkedOnce links number → Does bl links code around.turns (act_code line ++ return_code q number) (M.statement around (Y.Return line))
unfolding M.statement returns ◌>>◌
own_return_does {e} bl links code around number line true level reaches fits owned once =
    record {
      does = λ {i} {s} {v} {h} {t} {aims} closed old n f k l serving all at goal more.
          let a = act_code line in
          let c = return_code true number in
          let o = more.returns number owned once in
          let size = size_append a c in
          let inside = l.inside in
          let later = o.later in
          let next' : Unit {0} → Meaning (Unit {0}) = λ u. returns None in
          let holds = bl.bottom.holds in
          comes_on k (act counted k s) next'
          (act_to (before_closed k next' closed) i 0 f line old k fits (omega (arith, inside, size)) (front_of a c l) serving at
          (λ f1 serving1 at1.
          let only = only_activation s.activations v.activations serving.nested (entered_length s.activations (e.level ∷ bl.depths) all.entered ∙ ap (λ (ls : List ℕ). suc (length ls)) (bl.shallow level)) in
          onward closed
          (jump_with 0 o.at f1 (ReturnPlace number) o.at (λ b w. Unwound bl.base holds (acted line v) b w) (omega (arith, later)) o.place o.near (unwound_lost bl.base holds (acted line v)) (back_of a c l)
          (λ b.
          let p = (at1 b).holds in
          record { pc = (at1 b).pc; holds = record { services = p.body.services; regs = (frame_is p.body ∙ ap (λ u. b.at + u) (reaches n), (zero_is p.body, tt)); memory = bl.bottom.kept n t b _ p.body.memory } }))
          (λ f2 at2.
          record {
            to = λ early.
                o.leaves (with_world (counted s.world) s) (acted line v) f2 only.0 serving1.world serving1.running serving1.allowed serving1.fits only.1 at2;
          })));
    }
own_return_does {e} bl links code around number line false level reaches fits owned once =
    record {
      does = λ {i} {s} {v} {h} {t} {aims} closed old n f k l serving all at goal more.
          let a = act_code line in
          let u' = unwound_to 0 0 in
          let j = JumpTo (ReturnPlace number) ∷ [] in
          let c = return_code false number in
          let o = more.returns number owned once in
          let size = size_append a c in
          let inside = l.inside in
          let later = o.later in
          let next' : Unit {0} → Meaning (Unit {0}) = λ u. returns None in
          let holds = bl.bottom.holds in
          let l1 = back_of a c l in
          let lowest = bottom_is bl.base bl.frames.list v.activations all.framed bl.bottom.rest in
          let v2 = unwound_services (acted line v) lowest.activation [] in
          comes_on k (act counted k s) next'
          (act_to (before_closed k next' closed) i 0 f line old k fits (omega (arith, inside, size)) (front_of a c l) serving at
          (λ f1 serving1 at1.
          onward closed (unwound_piece bl n 0 f1 lowest.activation lowest.found (reaches n) (front_of u' j l1) at1)
          (λ f2 at2.
          onward closed
          (jump_with 5 o.at f2 (ReturnPlace number) o.at (λ b w. Unwound bl.base holds v2 b w) (omega (arith, later)) o.place o.near (unwound_lost bl.base holds v2) (back_of u' j l1) at2)
          (λ f3 at3.
          record {
            to = λ early.
                o.leaves (with_world (counted s.world) s) v2 f3 lowest.activation serving1.world serving1.running serving1.allowed serving1.fits refl at3;
          }))));
    }

pub return_does : {e : Environment} {block : Names} {types : Types} (bl : Block e block types) (links : Links) (code : List Instr) (around : Around) (line number : ℕ) → line < 2 ^ 31 → e.owner ≡ BlockOwner (record { number = number; level = 0 }) → IsEndMarkedOnce links number → Does bl links code around.turns (stmt_code e bl.taken (Y.Return line)) (M.statement around (Y.Return line))
return_does {e} bl links code around line number fits owned once =
    subst (λ (o : Owner). Does bl links code around.turns (act_code line ++ returned_by e 0 o) (M.statement around (Y.Return line))) (sym owned)
    (own_return_does bl links code around number line (0 == e.level) refl bl.reach fits owned once)

-- ---- in a procedure's own block

end_does : {e : Environment} {block : Names} {types : Types} (bl : Block e block types) (links : Links) (code : List Instr) (around : Around) (line : ℕ) → (0 == e.level) ≡ false → line < 2 ^ 31 → e.owner ≡ BlockOwner (record { number = e.block; level = e.level }) → IsEndMarkedOnce links e.block → Does bl links code around.turns (act_code line ++ JumpTo (ReturnPlace e.block) ∷ []) (M.statement around (Y.Return line))
unfolding M.statement returns ◌>>◌
end_does {e} bl links code around line deep fits owned once =
    record {
      does = λ {i} {s} {v} {h} {t} {aims} closed old n f k l serving all at goal more.
          let a = act_code line in
          let c = JumpTo (ReturnPlace e.block) ∷ [] in
          let o = more.own deep owned once in
          let size = size_append a c in
          let inside = l.inside in
          let later = o.later in
          let next' : Unit {0} → Meaning (Unit {0}) = λ u. returns None in
          comes_on k (act counted k s) next'
          (act_to (before_closed k next' closed) i 0 f line old k fits (omega (arith, inside, size)) (front_of a c l) serving at
          (λ f1 serving1 at1.
          onward closed (jump_piece 0 o.at f1 (ReturnPlace e.block) o.at (omega (arith, later)) o.place o.near free_far (back_of a c l) at1)
          (λ f2 at2.
          record {
            to = λ early.
                o.leaves (with_world (counted s.world) s) (acted line v) line n h t f2 (bl.ground n).free serving1 (counted_all _ all)
                (λ b. let p = (at2 b).holds in record { pc = (at2 b).pc; holds = record { body = record { services = p.body.services; registers = p.body.registers; bytes = p.body.bytes; memory = p.body.memory }; regs = tt } });
          })));
    }

pub own_end_does : {e : Environment} {block : Names} {types : Types} (bl : Block e block types) (links : Links) (code : List Instr) (around : Around) (line : ℕ) → (0 == e.level) ≡ false → line < 2 ^ 31 → e.owner ≡ BlockOwner (record { number = e.block; level = e.level }) → IsEndMarkedOnce links e.block → Does bl links code around.turns (stmt_code e bl.taken (Y.Return line)) (M.statement around (Y.Return line))
own_end_does {e} bl links code around line deep fits owned once =
    subst (λ (o : Owner). Does bl links code around.turns (act_code line ++ returned_by e 0 o) (M.statement around (Y.Return line))) (sym owned)
    (subst (λ q. Does bl links code around.turns (act_code line ++ (cond q [] (unwound_to e.level 0) ++ JumpTo (ReturnPlace e.block) ∷ [])) (M.statement around (Y.Return line))) (sym (eq-eqb e.level e.level refl))
    (end_does bl links code around line deep fits owned once))
