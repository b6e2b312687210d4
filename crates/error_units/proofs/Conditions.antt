-- Where ERROR comes to what it means, so does a condition without a unit, which raises it, and so do a subscript
-- outside its bounds, SIGNAL ERROR, and the end of a function without a value.
use Rattle.std.proofs.Common.{◌≡◌, inr, ℕ, suc, ◌+◌, ◌*◌, ◌^◌, ◌<◌, ◌≤◌, List, [], ◌∷◌, ◌++◌, Some, None, true}
use Rattle.std.proofs.Common.{false, refl}
use Rattle.std.proofs.Common.{sym, ap, ◌∙◌, subst, arith, lit<, add-one}
use Rattle.std.proofs.lemmas.Bool.{lt-ltb}
use Rattle.std.specs.Prelude.{Option, pos, ◌==◌}
use Rattle.rv_meaning.specs.declared.instr.BranchTest.TheVariants as Test
use Rattle.rv_meaning.specs.declared.instr.Instr.{Instr}
use Rattle.rv_meaning.specs.declared.instr.Instr.TheVariants as I
use Rattle.rv_meaning.specs.Words.{sum}
use Rattle.pli_language.specs.declared.condition.Condition.{Condition}
use Rattle.pli_language.specs.declared.condition.Condition.TheVariants as C
use Rattle.pli_typing.specs.TypedTree as Y
use Rattle.pli_meaning.specs.Codes.{code_signalled, fixed_overflow_code, no_value_code, subscript_code}
use Rattle.pli_meaning.specs.Codes.{zero_divide_code}
use Rattle.pli_meaning.specs.Control.{Label, Meaning, act, looked, ◌>>=◌, ◌>>◌}
use Rattle.pli_meaning.specs.Executing as M
use Rattle.pli_meaning.specs.Raising as R
use Rattle.pli_meaning.specs.Raising.{Around, at_line}
use Rattle.pli_meaning.specs.StorageState.{Activation, BlockUnit, OnUnit, State, SystemUnit, force}
use Rattle.pli_meaning.specs.World.{counted, raising}
use Rattle.pli_serving.specs.ActsAndEnds as W
use Rattle.pli_serving.specs.Answers.{Done}
use Rattle.pli_serving.specs.ServiceState.{Entry}
use Rattle.pli_serving.specs.OnUnits as U
use Rattle.pli_coding.specs.Allocating.{act_code}
use Rattle.pli_coding.specs.Arithmetic as A
use Rattle.pli_coding.specs.Arithmetic.{condition_number, zero_divide_raised}
use Rattle.pli_coding.specs.Assembly.{BaseIn, CallTo, JumpAhead, JumpTo, Mark, Plain, RaiseCondition, RaiseError}
use Rattle.pli_coding.specs.Assembly.{size_of}
use Rattle.pli_coding.specs.Images.{error_code, to_unit, unit_begun}
use Rattle.pli_coding.specs.Environments.{none_taken}
use Rattle.pli_coding.specs.Instructions.{error_raised, number, small, subtract}
use Rattle.pli_coding.specs.Procedures.{no_value}
use Rattle.pli_coding.specs.Registers.{a0, a1, a2, a7, return_register, u0, zero_register}
use Rattle.pli_coding.specs.Statements.{stmt_code, stmts_code}
use Rattle.storage_relation.specs.Served.{Holds}
use Rattle.storage_relation.proofs.Making.{same_held}
use Rattle.activation_relation.specs.Changes.{with_line}
use Rattle.activation_relation.specs.Entering.{Later}
use Rattle.activation_relation.specs.Frames.{frame_under}
use Rattle.activation_relation.specs.Layers.{Point, now, services_of}
use Rattle.activation_relation.specs.Points.{Stands, Surroundings}
use Rattle.activation_relation.specs.ServiceLaws.{IsSystem}
use Rattle.activation_relation.proofs.Blocks.{line_answered}
use Rattle.activation_relation.proofs.Remaining.{remains_same}
use Rattle.activation_relation.proofs.Returning.{later_then}
use Rattle.activation_relation.proofs.Units.{raise_unanswered}
use Rattle.run_steps.specs.Bodies.{Known}
use Rattle.run_steps.proofs.Bodies.{constant_piece, zero_is}
use Rattle.run_steps.specs.Calls.{Calling}
use Rattle.run_steps.proofs.Calls.{call_acts, call_done, call_pauses, called, comes_act}
use Rattle.run_steps.specs.Engine.{Base, address}
use Rattle.run_steps.specs.Items.{At, Linked}
use Rattle.run_steps.proofs.Items.{straight}
use Rattle.run_steps.proofs.Jumps.{back_of, call_piece, first_of, front_of, jump_piece, rest_of, skip_taken}
use Rattle.run_steps.proofs.Linking.{size_append}
use Rattle.run_steps.specs.Reach.{Aims, Closed, Comes, Family, cost, reached}
use Rattle.run_steps.proofs.Reach.{before_closed, comes_on, onward, reach_map, reach_then, reach_with, reached_holds}
use Rattle.run_steps.specs.Temporaries.{nothing}
use Rattle.block_runs.specs.Machines.{AreIn, IsImage, IsIn, acted}
use Rattle.block_runs.proofs.BlockEntries.{word_fits, word_is}
use Rattle.block_runs.proofs.CallStatements.{comes_map}
use Rattle.block_runs.proofs.Places.{IsFrame}
use Rattle.block_runs.proofs.PointActs.{act_comes}
use Rattle.block_runs.proofs.PointGrounds.{call_is, in_known, known_in, point_frame, point_ground}
use Rattle.program_runs.specs.Calls.{left_over}
use Rattle.program_runs.specs.Statements.{Block, Does, HasAct, IsAmong, size_in, statement_aims}
use Rattle.program_runs.proofs.JumpsOut.{jumps_since}
use Rattle.program_runs.proofs.Statements.{acted_among, statement_closed}
use Rattle.expression_runs.specs.Assignments.{setting_of}
use Rattle.expression_runs.specs.Values.{OverflowComes, Setting, behind, word_aims}
use Rattle.expression_runs.proofs.Raises.{coded, conditioned, error_comes, raised_at}
use Rattle.begin_runs.proofs.Begins.{out_of_all}
use Rattle.element_runs.specs.Subscripts.{SubscriptComes}
use Rattle.operator_runs.specs.Divisors.{ZeroDivideComes}
use Rattle.text_runs.specs.Texts.{ErrorComes, error_aims}
use Rattle.text_runs.specs.Waiting.{over}
use Rattle.unit_runs.specs.Changing.{Past, after, past_point}
use Rattle.unit_runs.specs.Raised.{raise_aims}
use Rattle.unit_runs.proofs.Establishing.{condition_is, number_small}
use Rattle.unit_runs.proofs.UnitBlocks.{behind_closed}
use Rattle.unit_runs.proofs.UnitRuns.{RaisesTo, overflow_by, raised_among}
use Rattle.jump_runs.specs.Exits.{exit_aims}
use Rattle.jump_runs.specs.Functions.{EndDoes, IsFunctionList, behind_list}
use Rattle.error_units.specs.Errors.{ErrorGoes, ErrorRoutines, IsErrorSignal}
use Rattle.error_units.proofs.Errors.{error_closed}

small_is : (z n : ℕ) → z ≡ 0 → n < 2 ^ 32 → sum z n ≡ n
small_is z n e h = omega (arith, e, h)

-- ---- where no unit is in force for ERROR either the run ends

pub error_system :
    (X : Type 0) (k : Setting) (r : ErrorRoutines k.block.call.surroundings.links k.block.call.code) →
    IsSystem (force k.block.first.state.activations C.Error) → k.block.call.surroundings.acts + 1 < 2 ^ 64 →
    18 < k.most → ErrorGoes X k r
error_system X k r only acts most p numbers c n f o line codes paid there =
    let h = point_frame o.stands o.image in
    error_comes (error_closed X k p.state.world.acts) r.routines c f k.around n h (o.stands, o.image) codes.1
    (omega (arith, paid, most), acts) line
    (subst (λ xs. IsSystem (force xs C.Error)) (sym o.later.activations) only)
    (λ b. known_in h (there b).0 ((there b).1, tt))

-- ---- a condition without a unit

abbrev raising_regs : (number n : ℕ) → Base → List (ℕ × ℕ)
raising_regs number n b = (10, number) ∷ (11, n) ∷ (17, 30) ∷ []

holds_raised : (c : Condition) (n : ℕ) (p : Point) (m : List ℕ) → Holds (now p m) → Holds (now (raised_at c n p) m)
holds_raised c n p m h =
    record {
      keeps = h.keeps;
      heap = record { at = h.heap.at; capacity = h.heap.capacity };
      lives = record { falling = h.lives.falling; numbered = h.lives.numbered; extents = h.lives.extents };
      stored = same_held p.keeper p.places p.state (raised_at c n p).state m refl refl h.stored;
      distinct = h.distinct;
    }

-- where its raise goes on: behind an act, with 0 and the code
raised_here :
    {w : Surroundings} {code : List Instr} {p : Point} {numbers : ℕ → ℕ} {i : ℕ} {aims : Aims (Unit {0})}
    (closed : Closed code aims) (credits : ℕ) (f : Family) (c : Condition) (number n : ℕ)
    (h : IsFrame (frame_under w.parts p.control.layers)) (known : Stands w p × IsImage w code p) →
    (credits < cost code) × (w.acts + 1 < 2 ^ 64) →
    Linked w.links code i (Plain I.Ecall ∷ []) → U.condition_of number ≡ Some c → n < 2 ^ 16 →
    IsSystem (force p.state.activations c) →
    ((b : Base) → At b i (Known (point_ground w p h) (services_of p) numbers (λ j. 0)
    (raising_regs number n) b) (f b)) →
    ((f' : Family) → p.state.world.acts < w.acts →
    ((b : Base) → At b (i + 1) (Known (point_ground w (raised_at c n p) h)
    (services_of (raised_at c n p)) numbers (λ j. 0) (conditioned 0 n) b) (f' b)) →
    aims.done 0 f' (services_of (raised_at c n p)) tt (raised_at c n p).state) →
    Comes code credits f (services_of p) aims (act (raising c n) w.acts p.state)
raised_here {w} {code} {p} {numbers} {i} closed credits f c number n h known fits l is small' only at next' =
    let v = services_of p in
    let v' = services_of (raised_at c n p) in
    let allowed = known.0.allowed in
    let most = fits.1 in
    let more : v'.world.acts ≡ suc v.world.acts = add-one v.world.acts in
    let calling : Calling w.links code i f (λ b. Done v' (f b).machine.memory 0 n) = record {
      linked = l;
      pc = λ b. (at b).pc;
      answers = λ b.
          let o = (at b).holds in
          let m = (f b).machine.memory in
          let x = (f b).machine.registers in
          called code (f b) v 30 number n (x 12) (x 13) (x 14) (λ call x0 x1 x2 x3 x4. U.raise_served call x0 x1 x2)
          o.body.services o.regs.1.1.0 o.regs.0 o.regs.1.0 refl refl refl (λ call y. refl)
          ∙ ap (λ call. U.raise_served call number n (x 12)) (call_is w code p m known.1)
          ∙ raise_unanswered w.units p m c number n (x 12) known.0.active
          (lt-ltb (p.state.world.acts + 1) (2 ^ 64) (omega (arith, allowed, most))) is (lt-ltb n (2 ^ 16) small') only;
    } in
    comes_act (raising c n) w.acts p.state refl
    (call_pauses credits f v v' (λ b. (f b).machine.memory) (λ b. 0) (λ b. n) fits.0 known.0.running
    (λ b. (at b).holds.body.services) more calling)
    (λ below.
    let r = call_acts credits 0 f v v' (λ b. (f b).machine.memory) (λ b. 0) (λ b. n)
    (λ b. Known (point_ground w (raised_at c n p) h) v' numbers (λ j. 0) (conditioned 0 n) b) fits.0 more calling
    (λ b. let o = (at b).holds.body in record {
      body = record {
        services = refl;
        registers = o.registers;
        bytes = o.bytes;
        memory = record {
          storage = holds_raised c n p (f b).machine.memory o.memory.storage;
          frames = o.memory.frames;
        };
      };
      regs = (refl, (refl, tt));
    }) in
    closed.done r tt _ (next' (reached r) below (reached_holds r)))

zero_equal : (x y : ℕ) → x ≡ 0 → y ≡ 0 → (x == y) ≡ true
zero_equal x y e f = ap (λ u. u == y) e ∙ ap (λ u. 0 == u) f

unit_run_is :
    (around : Around) (n k : ℕ) (s : State) (o : Option (Activation × OnUnit)) → IsSystem o →
    R.unit_run around n o k s ≡ R.error around n k s
unfolding R.unit_run
unit_run_is around n k s None h = refl
unit_run_is around n k s (Some (a, SystemUnit)) h = refl
unit_run_is around n k s (Some (a, BlockUnit block)) h = absurd h

unit_of_raise :
    (around : Around) (c : Condition) (n k : ℕ) (s : State) → IsSystem (force s.activations c) →
    ((looked >>= (λ u. R.unit_run around n (force u.activations c))) k s) ≡ R.error around n k s
unfolding looked ◌>>=◌
unit_of_raise around c n k s only = unit_run_is around n k s (force s.activations c) only

pub condition_by :
    (k : Setting) (r : ErrorRoutines k.block.call.surroundings.links k.block.call.code) →
    ErrorGoes (Unit {0}) k r → (c : Condition) → IsSystem (force k.block.first.state.activations c) →
    k.block.call.surroundings.acts + 1 < 2 ^ 64 → 18 < k.most → (n : ℕ) → (0 < n) × (n < 2 ^ 16) → RaisesTo k c n
unfolding R.raised ◌>>◌
condition_by k r goes c system acts most n codes p numbers credits wanted index f o line l paid there =
    let w = k.block.call.surroundings in
    let code = k.block.call.code in
    let number = condition_number c in
    let h = point_frame o.stands o.image in
    let g = point_ground w p h in
    let v = services_of p in
    let routines = r.routines in
    let inside = routines.linked.inside in
    let near = routines.linked.small' in
    let few = codes.1 in
    let only = subst (λ xs. IsSystem (force xs c)) (sym o.later.activations) system in
    let two = small a0 number ∷ small a1 n ∷ [] in
    let calls = CallTo RaiseCondition ∷ [] in
    let front = Mark RaiseCondition ∷ BaseIn u0 ∷ subtract a2 return_register u0 ∷ small a7 30 ∷ [] in
    let behind' = to_unit (size_of error_code) ++ (error_code ++ unit_begun) in
    let at_call = back_of front (Plain I.Ecall ∷ behind') routines.linked in
    let at_test = rest_of (Plain I.Ecall) behind' at_call in
    let aims = raise_aims k p numbers (index + 4) wanted in
    let closed = behind_closed k p numbers (index + 4) wanted in
    let next' = λ (u : Unit {0}). looked >>= (λ x. R.unit_run k.around n (force x.activations c)) in
    onward closed
    (straight credits f v v (λ b. Known g v numbers (λ j. 0) (conditioned number n) b) (front_of two calls l)
    (omega arith) (λ b. (known_in {t = λ j. 0} {rs = nothing} h (there b) tt).pc)
    (λ b. let q = (known_in {t = λ j. 0} {rs = nothing} h (there b) tt).holds in let z = zero_is q.body in record {
      body = record {
        services = q.body.services;
        registers = q.body.registers;
        bytes = q.body.bytes;
        memory = q.body.memory;
      };
      regs = (small_is _ number z (number_small c), (small_is _ n z (omega (arith, few)), tt));
    }))
    (λ f1 at1.
    onward closed
    (call_piece (credits + 2) (credits + 2 + 2) f1 RaiseCondition routines.at (omega arith) routines.condition
    (omega (arith, inside, near))
    (record { reserved_stay = λ y u. refl; known_stay = λ b y u q. q; set = λ y u. refl }) (back_of two calls l) at1)
    (λ f2 at2.
    onward closed
    (straight (credits + 2 + 2) f2 v v (λ b. Known g v numbers (λ j. 0) (raising_regs number n) b)
    (front_of front (Plain I.Ecall ∷ behind') routines.linked) (omega arith) (λ b. (at2 b).pc)
    (λ b. let q = (at2 b).holds in let z = zero_is q.body in (
      refl,
      record {
        body = record {
          services = q.body.services;
          registers = q.body.registers;
          bytes = q.body.bytes;
          memory = q.body.memory;
        };
        regs = (q.regs.1.0, (q.regs.1.1.0, (small_is _ 30 z (lit< tt), tt)));
      },
    )))
    (λ f3 at3.
    comes_on w.acts (act (raising c n) w.acts p.state) next'
    (raised_here (before_closed w.acts next' closed) (credits + 2 + 2 + 4) f3 c number n h (o.stands, o.image)
    (omega (arith, paid, most), acts)
    (first_of (Plain I.Ecall) behind' at_call) (condition_is c) few only at3
    (λ f4 less at4.
    let q = raised_at c n p in
    let o' = raised_among c n o less in
    let r2 = skip_taken 0 f4 Test.Equal a0 zero_register (JumpAhead (size_of error_code) ∷ [])
    (front_of (to_unit (size_of error_code)) (error_code ++ unit_begun) at_test) at4
    (λ b. zero_equal _ _ (at4 b).holds.regs.0 (zero_is (at4 b).holds.body)) in
    subst (Comes code 0 f4 (services_of q) aims) (sym (unit_of_raise k.around c n w.acts q.state only))
    (onward closed r2 (λ f5 at5.
    comes_map (error_aims (Unit {0}) k q.state.world.acts) aims refl
    (R.error {R = Unit {0}} k.around n w.acts q.state)
    (λ c' f' v' x s z. absurd z)
    (λ c' f' v' height label s z. jumps_since (omega arith) z)
    (λ c' f' v' x s z. absurd z)
    (goes q numbers 3 n f5 o' line codes (omega (arith, paid))
    (λ b. (
      subst (λ j. IsIn w q numbers j b (f5 b)) (omega arith) (in_known h o'.image.parts (at5 b)),
      (at5 b).holds.regs.1.0,
    ))))))))))

pub overflow_without :
    (k : Setting) (r : ErrorRoutines k.block.call.surroundings.links k.block.call.code) →
    ErrorGoes (Unit {0}) k r → IsSystem (force k.block.first.state.activations C.FixedOverflow) →
    k.block.call.surroundings.acts + 1 < 2 ^ 64 → 18 < k.most → OverflowComes k
overflow_without k r goes system acts most =
    overflow_by k
    (condition_by k r goes C.FixedOverflow system acts most fixed_overflow_code (omega arith, omega arith))

-- behind a raise of ZERODIVIDE an expression goes on with 0
pub divide_by : (k : Setting) → RaisesTo k C.ZeroDivide zero_divide_code → ZeroDivideComes k
divide_by k raises p numbers taken c index f o line registers l paid there =
    let w = k.block.call.surroundings in
    let raise' = A.raised C.ZeroDivide zero_divide_code in
    let back = small a0 0 ∷ [] in
    let y = behind p numbers taken c index zero_divide_raised in
    let n = size_append raise' back in
    let wanted = c + size_of raise' in
    comes_map (raise_aims k p numbers (index + size_of raise') wanted) (word_aims k.block k.labels y 0) refl
    (R.raised k.around C.ZeroDivide zero_divide_code w.acts p.state)
    (λ c' f' v' r s q.
    let h' = point_frame q.among.stands q.among.image in
    let r1 = constant_piece {t = λ i. 0} {rs = nothing} wanted (reached q.reach) a0 (pos 0) (omega arith)
    (record { reserved_stay = λ u v. refl; known_stay = λ b u v e. e; set = λ u v. refl }) (back_of raise' back l)
    (λ b. known_in {t = λ i. 0} {rs = nothing} h' (reached_holds q.reach b) tt) in
    record {
      point = q.point;
      numbers = numbers;
      among = q.among;
      since = q.since;
      line = q.line;
      stays = λ m less. refl;
      state = q.state;
      reach = reach_with y.wanted (omega (arith, n)) (reach_map _ (reach_then q.reach r1)
          (λ b m e. (
            subst (λ j. IsIn w q.point numbers j b m) (omega (arith, n)) (in_known h' q.among.image.parts e),
            e.holds.regs.0,
          )));
    })
    (λ c' f' v' height label s q. q)
    (λ c' f' v' r s q. absurd q)
    (raises p numbers c wanted index f o line (front_of raise' back l) (omega (arith, paid, n)) there)

pub divide_without :
    (k : Setting) (r : ErrorRoutines k.block.call.surroundings.links k.block.call.code) →
    ErrorGoes (Unit {0}) k r → IsSystem (force k.block.first.state.activations C.ZeroDivide) →
    k.block.call.surroundings.acts + 1 < 2 ^ 64 → 18 < k.most → ZeroDivideComes k
divide_without k r goes system acts most =
    divide_by k (condition_by k r goes C.ZeroDivide system acts most zero_divide_code (omega arith, omega arith))

-- ---- ERROR by a jump to its routine

jumped_to :
    (k : Setting) (r : ErrorRoutines k.block.call.surroundings.links k.block.call.code) →
    ErrorGoes (Unit {0}) k r → (n : ℕ) → (0 < n) × (n < 2 ^ 16) → (p : Point) (numbers : ℕ → ℕ) (credits index : ℕ)
    (f : Family) → IsAmong k.block numbers p → p.control.line ≡ k.around.line →
    Linked k.block.call.surroundings.links k.block.call.code index (error_raised n) →
    credits + size_of (error_raised n) + k.most ≤ cost k.block.call.code →
    AreIn k.block.call.surroundings p numbers index f →
    Comes k.block.call.code credits f (services_of p) (error_aims (Unit {0}) k p.state.world.acts)
    (R.error {R = Unit {0}} k.around n k.block.call.surroundings.acts p.state)
jumped_to k r goes n codes p numbers c index f o line l paid there =
    let w = k.block.call.surroundings in
    let v = services_of p in
    let h = point_frame o.stands o.image in
    let g = point_ground w p h in
    let front = small a1 n ∷ [] in
    let last = JumpTo RaiseError ∷ [] in
    let far = r.routines.linked.inside in
    let near = r.routines.linked.small' in
    let few = codes.1 in
    let closed = error_closed (Unit {0}) k p.state.world.acts in
    let at : (b : Base) → At b index (Known g v numbers (λ j. 0) nothing b) (f b) = λ b. known_in h (there b) tt in
    onward closed
    (straight c f v v (λ b. Known g v numbers (λ j. 0) (coded n) b) (front_of front last l) (omega arith)
    (λ b. (at b).pc)
    (λ b. let q = (at b).holds in record {
      body = record {
        services = q.body.services;
        registers = q.body.registers;
        bytes = q.body.bytes;
        memory = q.body.memory;
      };
      regs = (small_is _ n (zero_is q.body) (omega (arith, few)), tt);
    }))
    (λ f1 at1.
    onward closed
    (jump_piece (c + 1) (c + 1 + 2) f1 RaiseError (r.routines.at + 8) (omega arith) r.error (omega (arith, far, near))
    (record { reserved_stay = λ y u. refl; known_stay = λ b y u q. q; set = λ y u. refl }) (back_of front last l) at1)
    (λ f2 at2.
    goes p numbers (c + 1 + 2) n f2 o line codes (omega (arith, paid))
    (λ b. (in_known h o.image.parts (at2 b), (at2 b).holds.regs.0))))

pub subscript_by :
    (k : Setting) (r : ErrorRoutines k.block.call.surroundings.links k.block.call.code) →
    ErrorGoes (Unit {0}) k r → SubscriptComes k
subscript_by k r goes p numbers c index f o line l paid there =
    jumped_to k r goes subscript_code (omega arith, omega arith) p numbers c index f o line l paid there

-- the status of a service, while texts wait
pub status_by :
    (X : Type 0) (k : Setting) (r : ErrorRoutines k.block.call.surroundings.links k.block.call.code) →
    ((entries : List Entry) → ErrorGoes X (over entries k) r) → ErrorComes X k
status_by X k r goes entries p numbers c index n f o line codes l paid there =
    let w = k.block.call.surroundings in
    let h = point_frame o.stands o.image in
    let far = r.routines.linked.inside in
    let near = r.routines.linked.small' in
    comes_map (error_aims X (over entries k) p.state.world.acts) (error_aims X k p.state.world.acts) refl
    (R.error {R = X} k.around n w.acts p.state)
    (λ c' f' v' x s q. absurd q)
    (λ c' f' v' height label s q. record { to = inr (out_of_all q) })
    (λ c' f' v' x s q. absurd q)
    (onward (error_closed X (over entries k) p.state.world.acts)
    (jump_piece {t = λ j. 0} {rs = coded n} c (c + 2) f RaiseError (r.routines.at + 8) (omega arith) r.error
    (omega (arith, far, near))
    (record { reserved_stay = λ y u. refl; known_stay = λ b y u q. q; set = λ y u. refl }) l
    (λ b. known_in h (there b).0 ((there b).1, tt)))
    (λ g at.
    goes entries p numbers (c + 2) n g o line codes (omega (arith, paid))
    (λ b. (in_known h o.image.parts (at b), (at b).holds.regs.0))))

-- ---- SIGNAL ERROR

pub signal_by :
    (k : Block) (labels : List Label) (line index left' most : ℕ)
    (r : ErrorRoutines k.call.surroundings.links k.call.code) → IsErrorSignal k line index most →
    ErrorGoes (Unit {0}) (setting_of k labels line most) r → Does k labels (Y.Signal C.Error line) index left'
unfolding M.statement M.signalled ◌>>◌
signal_by k labels line index left' most r z goes p numbers credits wanted f o paid there =
    let w = k.call.surroundings in
    let code = k.call.code in
    let n = code_signalled C.Error in
    let one = act_code line in
    let raise' = error_raised n in
    let n1 = size_append one raise' in
    let enough = z.paid in
    let acts = p.state.world.acts in
    let end = index + size_in k (Y.Signal C.Error line) in
    let closed = statement_closed k labels acts end wanted left' in
    let next' : Unit {0} → Meaning (Unit {0}) = λ u. M.signalled (at_line k.around line) C.Error in
    comes_on w.acts (act counted w.acts p.state) next'
    (act_comes (before_closed w.acts next' closed) line credits 0 f (o.stands, o.image)
    (z.act.line_fits, z.act.acts, omega (arith, paid, n1)) (front_of one raise' z.statement) there
    (λ g less at.
    let p' = acted line p in
    let o' = acted_among line o less in
    comes_map (error_aims (Unit {0}) (setting_of k labels line most) p'.state.world.acts)
    (statement_aims k labels acts end wanted left') refl
    (R.error {R = Unit {0}} (at_line k.around line) n w.acts p'.state)
    (λ c' f' v' x s q. absurd q)
    (λ c' f' v' height label s q. jumps_since (omega arith) q)
    (λ c' f' v' x s q. absurd q)
    (jumped_to (setting_of k labels line most) r goes n (omega arith, omega arith) p' numbers 0 (index + size_of one)
    g o' refl (back_of one raise' z.statement) (omega (arith, enough, n1)) at)))

-- ---- a function's end without a value

lined_stands : (w : Surroundings) (line : ℕ) (p : Point) → Stands w p → Stands w (with_line line p)
lined_stands w line p h =
    record {
      active = h.active;
      laid = h.laid;
      low = h.low;
      lives = h.lives;
      owned = h.owned;
      over = h.over;
      running = h.running;
      allowed = h.allowed;
    }

lined_holds : (line : ℕ) (p : Point) (m : List ℕ) → Holds (now p m) → Holds (now (with_line line p) m)
lined_holds line p m h =
    record {
      keeps = h.keeps;
      heap = record { at = h.heap.at; capacity = h.heap.capacity };
      lives = record { falling = h.lives.falling; numbered = h.lives.numbered; extents = h.lives.extents };
      stored = h.stored;
      distinct = h.distinct;
    }

lined_later : (line : ℕ) (p : Point) → Later p (with_line line p)
lined_later line p =
    let r = remains_same p in
    record {
      activations = refl;
      layers = refl;
      edits = refl;
      waiting = refl;
      acts = omega arith;
      remains = record {
        living = r.living;
        serials = r.serials;
        at = r.at;
        number = r.number;
        signatures = r.signatures;
        statics = r.statics;
        low = r.low;
        constants = r.constants;
        active = r.active;
        in_use = r.in_use;
      };
    }

lined_among :
    {k : Block} {numbers : ℕ → ℕ} {p : Point} (line : ℕ) → IsAmong k numbers p → IsAmong k numbers (with_line line p)
lined_among {k} {numbers} {p} line o =
    let i = o.image in
    record {
      stands = lined_stands k.call.surroundings line p o.stands;
      image = record { keeper = i.keeper; layout = i.layout; parts = i.parts; even = i.even };
      later = later_then k.first p (with_line line p) o.later (lined_later line p);
      few = o.few;
      entries = o.entries;
      others = o.others;
      words = o.words;
    }

abbrev asked_regs : (line : ℕ) → Base → List (ℕ × ℕ)
asked_regs line b = (17, 1) ∷ (11, 1) ∷ (10, line) ∷ []

-- behind its list, where a unit may go back to labels
pub end_goes :
    (k : Block) (labels : List Label) (body : Y.Stmts) (index most : ℕ) → IsFunctionList k body index →
    (r : ErrorRoutines k.call.surroundings.links k.call.code) →
    ErrorGoes (Unit {0}) (setting_of k labels k.around.line most) r →
    size_of (no_value k.around.line) + most ≤ cost k.call.code → (p : Point) (numbers : ℕ → ℕ) (f : Family) →
    IsAmong k numbers p → AreIn k.call.surroundings p numbers (behind_list k body index) f →
    Comes k.call.code 0 f (services_of p)
    (error_aims (Unit {0}) (setting_of k labels k.around.line most) p.state.world.acts)
    (R.error {R = Unit {0}} k.around no_value_code k.call.surroundings.acts p.state)
end_goes k labels body index most z r goes paid p numbers f o there =
    let w = k.call.surroundings in
    let code = k.call.code in
    let line = k.around.line in
    let q = with_line line p in
    let o' = lined_among {k = k} line o in
    let h = point_frame o.stands o.image in
    let h' = point_frame o'.stands o'.image in
    let v = services_of p in
    let g = point_ground w p h in
    let g' = point_ground w q h' in
    let i = behind_list k body index in
    let l = back_of (stmts_code k.environment none_taken body) (no_value line) z.linked in
    let first = number a0 line in
    let asks = small a1 1 ∷ small a7 1 ∷ [] in
    let raise' = error_raised no_value_code in
    let tail = Plain I.Ecall ∷ raise' in
    let l1 = back_of first (asks ++ tail) l in
    let l2 = back_of asks tail l1 in
    let l3 = rest_of (Plain I.Ecall) raise' l2 in
    let n0 = size_append first (asks ++ tail) in
    let closed = error_closed (Unit {0}) (setting_of k labels line most) p.state.world.acts in
    let r1 = constant_piece {t = λ j. 0} {rs = nothing} 0 f a0 (pos line) (word_fits line z.line)
    (record { reserved_stay = λ y u. refl; known_stay = λ b y u e. e; set = λ y u. refl })
    (front_of first (asks ++ tail) l) (λ b. known_in h (there b) tt) in
    let r2 = straight (0 + size_of first) (reached r1) v v
    (λ b y. Known g v numbers (λ j. 0) (asked_regs line) b y) (front_of asks tail l1) (omega arith)
    (λ b. (reached_holds r1 b).pc)
    (λ b. let e = (reached_holds r1 b).holds in record {
      body = record {
        services = e.body.services;
        registers = e.body.registers;
        bytes = e.body.bytes;
        memory = e.body.memory;
      };
      regs = (
        small_is _ 1 (zero_is e.body) (omega arith),
        (small_is _ 1 (zero_is e.body) (omega arith), (e.regs.0 ∙ word_is line z.line, tt)),
      );
    }) in
    let g2 = reached r2 in
    let calling :
    Calling w.links code (i + size_of first + 2) g2 (λ b. Done (services_of q) (g2 b).machine.memory line 1) =
    record {
      linked = first_of (Plain I.Ecall) raise' l2;
      pc = λ b. (reached_holds r2 b).pc;
      answers = λ b.
          let e = (reached_holds r2 b).holds in
          let m = (g2 b).machine.memory in
          let x = (g2 b).machine.registers in
          called code (g2 b) v 1 line 1 (x 12) (x 13) (x 14) (λ call x0 x1 x2 x3 x4. W.act_served call x0 x1)
          e.body.services e.regs.0 e.regs.1.1.0 e.regs.1.0 refl refl refl (λ call y. refl)
          ∙ ap (λ call. W.act_served call line 1) (call_is w code p m o.image)
          ∙ line_answered p m line;
    } in
    let r3 = call_done (0 + size_of first + 2) g2 v (services_of q) (λ b. (g2 b).machine.memory) (λ b. line) (λ b. 1)
    (λ b y. Known g' (services_of q) numbers (λ j. 0) nothing b y) (omega arith) calling
    (λ b. let e = (reached_holds r2 b).holds.body in record {
      body = record {
        services = refl;
        registers = e.registers;
        bytes = e.bytes;
        memory = record {
          storage = lined_holds line p (g2 b).machine.memory e.memory.storage;
          frames = e.memory.frames;
        };
      };
      regs = tt;
    }) in
    onward closed (reach_then r1 (reach_then r2 r3))
    (λ g3 at3.
    jumped_to (setting_of k labels line most) r goes no_value_code (omega arith, omega arith) q numbers
    (0 + size_of first + 2 + 1) (i + size_of first + 2 + 1) g3 o' refl l3 (omega (arith, n0, paid))
    (λ b. in_known h' o'.image.parts (at3 b)))

pub end_by :
    (k : Block) (body : Y.Stmts) (index most : ℕ) → IsFunctionList k body index →
    (r : ErrorRoutines k.call.surroundings.links k.call.code) →
    ErrorGoes (Unit {0}) (setting_of k [] k.around.line most) r →
    size_of (no_value k.around.line) + most ≤ cost k.call.code → EndDoes k (behind_list k body index)
end_by k body index most z r goes paid p numbers f o there =
    comes_map (error_aims (Unit {0}) (setting_of k [] k.around.line most) p.state.world.acts)
    (exit_aims k p.state.world.acts left_over) refl
    (R.error {R = Unit {0}} k.around no_value_code k.call.surroundings.acts p.state)
    (λ c' f' v' x s e. absurd e)
    (λ c' f' v' height label s e. out_of_all e)
    (λ c' f' v' x s e. absurd e)
    (end_goes k [] body index most z r goes paid p numbers f o there)
