-- ON with a unit of the program, in the main procedure's own block: the newest block gets the unit, with the place of its code, over
-- which the run goes on.
use Rattle.std.proofs.Common.{◌≡◌, ℕ, suc, ◌+◌, ◌*◌, ◌^◌, ◌<◌, ◌≤◌, List, [], ◌∷◌, ◌++◌, length, true, false, refl}
use Rattle.std.proofs.Common.{sym, ap, ◌∙◌, subst, arith, lit<, ◌⊎◌, inl, inr, Some}
use Rattle.std.specs.Prelude.{cond, ◌==◌}
use Rattle.std.proofs.lemmas.Bool.Decides.{nat_tests}
use Rattle.pli_language.specs.declared.condition.Condition.{Condition}
use Rattle.rv_meaning.specs.declared.instr.Instr.{Instr}
use Rattle.rv_meaning.specs.declared.instr.Instr.TheVariants as I
use Rattle.rv_meaning.specs.declared.instr.ImmediateOp.TheVariants as Imm
use Rattle.rv_meaning.specs.declared.instr.Register.{Register}
use Rattle.rv_meaning.specs.Words.{word, sum}
use Rattle.rv_meaning.specs.Machine.{written}
use Rattle.pli_typing.specs.TypedTree as Y
use Rattle.pli_meaning.specs.World.{counted}
use Rattle.pli_meaning.specs.StorageState.{Activation, BlockUnit, with_world, with_activations, established}
use Rattle.pli_meaning.specs.Control.{Meaning, act, stored, ◌>>◌}
use Rattle.pli_meaning.specs.Raising.{Around}
use Rattle.pli_meaning.specs.Executing as M
use Rattle.pli_serving.specs.ServiceState as S
use Rattle.pli_serving.specs.ServiceState.{Services}
use Rattle.pli_serving.specs.Answers.{Done}
use Rattle.pli_serving.specs.Outcomes.{or_bad}
use Rattle.pli_serving.specs.OnUnits as U
use Rattle.pli_coding.specs.Registers.{a0, a1}
use Rattle.pli_coding.specs.Assembly.{Plain, OffsetAhead, JumpAhead, Code, size_of}
use Rattle.pli_coding.specs.Instructions.{number, small, service}
use Rattle.pli_coding.specs.Arithmetic.{condition_number}
use Rattle.pli_coding.specs.Allocating.{act_code}
use Rattle.pli_coding.specs.Entries.{frame_begun, entered_without_texts}
use Rattle.pli_coding.specs.Environments.{Environment, in_frame, owned_by, none_taken}
use Rattle.pli_coding.specs.Statements.{condition_given, unit_variables, owner_of_unit, unit_words, unit_mark}
use Rattle.pli_coding.specs.Statements.{unit_left, stmt_code, stmts_code, unit_held}
use Rattle.pli_coding.specs.Linking.{Links, upper_part, lower_part}
use Rattle.pli_headline.specs.ProvedSoFar.{Types, Names}
use Rattle.run_steps.specs.Engine.{Base, HasAt, address, call_at}
use Rattle.run_steps.proofs.Linking.{size_append}
use Rattle.run_steps.specs.Items.{Linked, At}
use Rattle.run_steps.proofs.Items.{straight, parts_sum}
use Rattle.run_steps.specs.Bodies.{Ground, Known, Free, with'}
use Rattle.run_steps.proofs.Bodies.{zero_is, set_known, lose_known}
use Rattle.run_steps.proofs.Jumps.{front_of, back_of, ahead_piece}
use Rattle.run_steps.proofs.Temporaries.{stays_same}
use Rattle.pli_headline.proofs.Activations.{may_have_unit, Nested, frames_of, entered_length}
use Rattle.pli_headline.proofs.Serving.{Serving}
use Rattle.pli_headline.proofs.Raising.{small_is}
use Rattle.pli_headline.proofs.Acts.{acted, act_piece}
use Rattle.pli_headline.proofs.TextCalls.{three, asking_piece}
use Rattle.pli_headline.proofs.Statements.{Block, AllHold, counted_all, Does}
use Rattle.pli_headline.proofs.SystemUnits.{NewestKnown, changed_services, changed_serving, changed_all, newest_changed, established_is, number_small, condition_is, established_served, done_with, some_served}
use Rattle.run_steps.specs.Reach.{Family, Reach}
use Rattle.run_steps.proofs.Reach.{before_closed, comes_on, onward}
use Rattle.pli_headline.proofs.Storages.{storage}

-- ---- the offset of a place ahead comes into a register

none_of : ⊥ ⊎ (⊥ ⊎ ⊥) → ⊥
none_of (inl h) = h
none_of (inr (inl h)) = h
none_of (inr (inr h)) = h

ahead_is : {links : Links} {code : List Instr} {i : ℕ} (r : Register) (words : ℕ) → Linked links code i (OffsetAhead r words ∷ []) → Linked links code i (Plain (I.LoadUpper r (upper_part (4 * i + 4 * (2 + words)))) ∷ Plain (I.Immediate Imm.Add r r (lower_part (4 * i + 4 * (2 + words)))) ∷ [])
ahead_is {links} {code} {i} r words l =
    let one : suc i ≡ i + 1 = omega arith in
    let o = l.has.0 in
    let lower = lower_part (4 * i + 4 * (2 + words)) in
    record {
      small' = l.small';
      inside = l.inside;
      has = ((o.0, tt), (subst (λ j. HasAt code j (I.Immediate Imm.Add r r lower ∷ [])) one o.1, tt));
      named = λ d h. absurd (none_of h);
    }

offset_piece : {links : Links} {code : List Instr} {i : ℕ} {g : Ground} {v : Services} {h t : ℕ → ℕ} {rs : Base → List (ℕ × ℕ)} (c : ℕ) (f : Family) (r : Register) (words : ℕ) → 4 * i + 4 * (2 + words) < 2 ^ 32 → Free rs r.index → Linked links code i (OffsetAhead r words ∷ []) → ((b : Base) → At b i (Known g v h t rs b) (f b)) → Reach code c f v (c + 2) v (λ b w. At b (i + 2) (Known g v h t (with' r.index (λ b'. 4 * i + 4 * (2 + words)) rs) b) w)
offset_piece {i = i} {g = g} {v = v} {h = h} {t = t} {rs = rs} c f r words small' free l there =
    let n = 4 * i + 4 * (2 + words) in
    straight c f v v (λ b. Known g v h t (with' r.index (λ b'. n) rs) b) (ahead_is r words l) (omega arith) (λ b. (there b).pc)
    (λ b.
    let x = (f b).machine.registers in
    let up = upper_part n * 2 ^ 12 in
    set_known _ r.index (sum (written x r.index up r.index) (word (lower_part n))) _ (λ b'. n) free (ap (λ u. sum u (word (lower_part n))) (free.set x up) ∙ parts_sum n small') (lose_known (f b) r.index up (address b (suc i)) free (there b).holds))

-- ---- service 28

on_answer : (code : List Instr) (v : Services) (m : List ℕ) (c : Condition) (at : ℕ) → (at == 0) ≡ false → 0 < length v.activations → U.on_served (call_at code v m) (condition_number c) at ≡ Done (changed_services true (S.CodeUnit at) c v) m (condition_number c) at
on_answer code v m c at some' some =
    ap (λ u. or_bad u (λ k. or_bad (U.established k (U.unit_of at) v.activations) (done_with v m (condition_number c) at))) (condition_is c)
    ∙ ap (λ q. or_bad (U.established c (cond q S.SystemUnit (S.CodeUnit at)) v.activations) (done_with v m (condition_number c) at)) some'
    ∙ established_served (S.CodeUnit at) c v.activations (done_with v m (condition_number c) at) some

-- ---- what is known of it

abbrev first_of_frames : List ℕ → ℕ
first_of_frames [] = 0
first_of_frames (x ∷ xs) = x

unit_known : (known : ℕ → Y.Block → ℕ → Type 0) (u : Y.Block) (at base : ℕ) (as' : List Activation) (xs : List S.Activation) → Nested as' xs → length as' ≡ 1 → first_of_frames (frames_of xs) ≡ base → known base u at → NewestKnown known (BlockUnit u) (S.CodeUnit at) as' xs
unit_known known u at base [] xs nested one framed k = tt
unit_known known u at base (a ∷ as') [] nested one framed k = tt
unit_known known u at base (a ∷ as') (x ∷ xs) nested one framed k =
    (nested.0.height ∙ one, subst (λ fr. known fr u at) (sym framed) k)

-- ---- its code

abbrev pub unit_by : Environment → Y.BlockHead → Y.Stmts → (kind : Y.BlockKind) → (level : ℕ) → Code
unit_by e head body kind level =
    frame_begun (unit_words e head kind body) level 0 (Some (unit_held e head kind body))
    ++ (entered_without_texts 2 head.line
    ++ (unit_variables (owned_by (owner_of_unit head kind) (in_frame head.number head.level e)) head kind
    ++ (act_code head.line
    ++ (stmts_code (owned_by (owner_of_unit head kind) (in_frame head.number head.level e)) none_taken body
    ++ (unit_mark head kind ++ unit_left (unit_words e head kind body) (unit_held e head kind body))))))

not_zero : (i : ℕ) → 0 < i → (4 * i == 0) ≡ false
not_zero i some = grind (arith, nat_tests)

-- ---- the statement

pub on_unit_does : {e : Environment} {block : Names} {types : Types} (bl : Block e block types) (links : Links) (code : List Instr) (around : Around) (c : Condition) (head : Y.BlockHead) (body : Y.Stmts) (line : ℕ) → (0 == e.level) ≡ true → may_have_unit c ≡ true → line < 2 ^ 31 → ((i : ℕ) → 19 ≤ i → Linked links code i (unit_by e head body head.kind head.level) → bl.frames.known c bl.base (Y.BlockOf head body) (4 * i)) → Does bl links code around.turns (stmt_code e bl.taken (Y.OnUnit c (Y.BlockOf head body) line)) (M.statement around (Y.OnUnit c (Y.BlockOf head body) line))
unfolding M.statement M.established_by stored ◌>>◌
on_unit_does {e} {block} {types} bl links code around c head body line outermost may fits known =
    record {
      does = λ {i} {s} {v} {h} {t} {aims} closed old n f k l serving all at goal more.
          let a = act_code line in
          let unit = unit_by e head body head.kind head.level in
          let offset = OffsetAhead a1 5 ∷ [] in
          let given = condition_given c ∷ [] in
          let call = service 28 in
          let over = JumpAhead (size_of unit) ∷ [] in
          let u : Y.Block = Y.BlockOf head body in
          let i1 = i + size_of a in
          let l1 = back_of a (offset ++ (given ++ (call ++ (over ++ unit)))) l in
          let l2 = back_of offset (given ++ (call ++ (over ++ unit))) l1 in
          let l3 = back_of given (call ++ (over ++ unit)) l2 in
          let l4 = back_of call (over ++ unit) l3 in
          let l5 = back_of over unit l4 in
          let index = i1 + 2 + 1 + 2 + 2 in
          let offset_is : 4 * i1 + 4 * (2 + 5) ≡ 4 * index = omega arith in
          let size = size_append a (offset ++ (given ++ (call ++ (over ++ unit)))) in
          let place : i1 + 2 + 1 + 2 + (2 + size_of unit) ≡ i + size_of (a ++ (offset ++ (given ++ (call ++ (over ++ unit))))) = omega (arith, size) in
          let inside = l5.inside in
          let long = l5.small' in
          let later = more.later in
          let few = size_append (number a0 line) (small a1 0 ∷ service 1) in
          let w = S.CodeUnit (4 * index) in
          let change : Unit {0} → Meaning (Unit {0}) = λ r. stored (λ s'. with_activations (established c (BlockUnit u) s'.activations) s') in
          comes_on k (act counted k s) change
          (act_piece (before_closed k change closed) f line old k fits (front_of a (offset ++ (given ++ (call ++ (over ++ unit)))) l) serving at
          (λ f1 serving1 at1.
          let s1 = with_world (counted s.world) s in
          let v1 = acted line v in
          let v2 = changed_services true w c v1 in
          let all1 : AllHold bl.frames bl.serials (storage v1) (e.level ∷ bl.depths) s1 block types n = counted_all _ all in
          let some = some_served e.level bl.depths s1.activations v1.activations serving1.nested all1.entered in
          let one = entered_length s1.activations (e.level ∷ bl.depths) all1.entered ∙ ap (λ (ds : List ℕ). suc (length ds)) (bl.shallow outermost) in
          let new = unit_known (bl.frames.known c) u (4 * index) bl.base s1.activations v1.activations serving1.nested one (ap first_of_frames (all1.framed ∙ bl.leads) ∙ bl.alone outermost) (known index (omega (arith, later, few)) l5) in
          onward closed (offset_piece i1 f1 a1 5 (omega (arith, inside, long)) (record { reserved_stay = λ y r. refl; known_stay = λ b y r q. q; set = λ y r. refl }) (front_of offset (given ++ (call ++ (over ++ unit))) l1) at1)
          (λ f2 at2.
          let z : Base → ℕ = λ b. (f2 b).machine.registers 12 in
          onward closed (straight (i1 + 2) f2 v1 v1 (λ b. Known (bl.ground n) v1 h t (three (λ b'. condition_number c) (λ b'. 4 * index) z) b) (front_of given (call ++ (over ++ unit)) l2) (omega arith) (λ b. (at2 b).pc)
          (λ b. let o = (at2 b).holds in record {
            body = record { services = o.body.services; registers = o.body.registers; bytes = o.body.bytes; memory = o.body.memory };
            regs = (small_is _ (condition_number c) (zero_is o.body) (number_small c), (o.regs.0 ∙ offset_is, (refl, tt)));
          }))
          (λ f3 at3.
          asking_piece closed f3 v2 28 (λ b. condition_number c) (λ b. 4 * index) z (λ b. condition_number c) (λ b. 4 * index) (λ q x0 x1 x2 x3 x4. U.on_served q x0 x1) (lit< tt) (λ q r. refl) (omega arith)
          (λ b m x3 x4. on_answer code v1 m c (4 * index) (not_zero index (omega (arith, later))) some) (front_of call (over ++ unit) l3) at3
          (λ f4 at4.
          onward closed (ahead_piece (i1 + 2 + 1 + 2) f4 (size_of unit) (omega (arith, inside)) (record { reserved_stay = λ y r. refl; known_stay = λ b y r q. tt; set = λ y r. refl }) (front_of over unit l4)
          (λ b. record { pc = (at4 b).pc; holds = record { body = (at4 b).holds.body; regs = tt } }))
          (λ f5 at5.
          let T : List Activation → Type 0 = λ as'. Serving k (with_world s1.world (with_activations as' s1)) v2 line × AllHold bl.frames bl.serials (storage v2) (e.level ∷ bl.depths) (with_world s1.world (with_activations as' s1)) block types n in
          let both : T (newest_changed true (BlockUnit u) c s1.activations) = (changed_serving true (BlockUnit u) w c (record { meant = inr may; served = inr may }) serving1, changed_all true (BlockUnit u) w c new all1) in
          let o = subst T (established_is (BlockUnit u) c s1.activations) both in
          record {
            to = λ early.
                subst (λ q. aims.done q f5 v2 tt (with_world s1.world (with_activations (established c (BlockUnit u) s1.activations) s1))) (sym place)
                (goal (with_world s1.world (with_activations (established c (BlockUnit u) s1.activations) s1)) v2 line n h t f5 o.0 o.1 (stays_same bl.taken h t)
                (λ b. record { pc = (at5 b).pc ∙ ap (address b) place; holds = (at5 b).holds }));
          }))))));
    }
