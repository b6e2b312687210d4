-- A raise of FIXEDOVERFLOW without a unit: an act, ERROR's act, and the end of the run.
use Rattle.std.proofs.Common.{◌≡◌, ℕ, suc, ◌+◌, ◌*◌, ◌^◌, ◌<◌, ◌≤◌, List, [], ◌∷◌, ◌++◌, Some, None, true, refl, sym}
use Rattle.std.proofs.Common.{ap, ◌∙◌, subst, arith, lit<, add-one}
use Rattle.std.proofs.lemmas.Bool.{lt-ltb}
use Rattle.std.specs.Prelude.{cond, Option, ◌==◌}
use Rattle.rv_meaning.specs.declared.instr.BranchTest.TheVariants as Test
use Rattle.rv_meaning.specs.declared.instr.Instr.{Instr}
use Rattle.rv_meaning.specs.declared.instr.Instr.TheVariants as I
use Rattle.rv_meaning.specs.Words.{sum}
use Rattle.pli_language.specs.declared.condition.Condition.{Condition}
use Rattle.pli_language.specs.declared.condition.Condition.TheVariants as C
use Rattle.pli_meaning.specs.declared.outcome.End.TheVariants as E
use Rattle.pli_meaning.specs.Control.{Meaning, act, finish, looked, ◌>>=◌, ◌>>◌}
use Rattle.pli_meaning.specs.Raising as R
use Rattle.pli_meaning.specs.Raising.{Around}
use Rattle.pli_meaning.specs.StorageState.{Activation, BlockUnit, OnUnit, State, SystemUnit, force, with_world}
use Rattle.pli_meaning.specs.World.{ending, raising}
use Rattle.pli_serving.specs.ActsAndEnds as W
use Rattle.pli_serving.specs.Answers as A
use Rattle.pli_serving.specs.Answers.{Done, Ends}
use Rattle.pli_serving.specs.OnUnits as U
use Rattle.pli_serving.specs.Outcomes.{or_bad}
use Rattle.pli_coding.specs.Arithmetic.{overflow_raised, raised}
use Rattle.pli_coding.specs.Assembly.{BaseIn, CallTo, ErrorEnd, JumpAhead, Mark, OffsetOf, Plain, RaiseCondition}
use Rattle.pli_coding.specs.Assembly.{RaiseError, size_of}
use Rattle.pli_coding.specs.Environments.{fetch, save}
use Rattle.pli_coding.specs.Images.{error_code, error_end, to_unit, unit_begun}
use Rattle.pli_coding.specs.Instructions.{small, subtract}
use Rattle.pli_coding.specs.Registers.{a0, a1, a2, a7, return_register, u0, zero_register}
use Rattle.storage_relation.specs.Served.{Holds}
use Rattle.storage_relation.proofs.Making.{same_held}
use Rattle.activation_relation.specs.Changes.{with_act}
use Rattle.activation_relation.specs.Frames.{frame_under}
use Rattle.activation_relation.specs.Layers.{Point, now, services_of}
use Rattle.activation_relation.specs.Points.{Stands, Surroundings}
use Rattle.activation_relation.specs.ServiceLaws.{IsSystem}
use Rattle.activation_relation.proofs.PointSteps.{raised_stands}
use Rattle.activation_relation.proofs.Units.{raise_unanswered}
use Rattle.run_steps.specs.Bodies.{Known}
use Rattle.run_steps.proofs.Bodies.{zero_is}
use Rattle.run_steps.specs.Calls.{Calling}
use Rattle.run_steps.proofs.Calls.{acts, call_acts, call_ends, call_pauses, called, comes_act, comes_finish, end_pauses}
use Rattle.run_steps.specs.Engine.{Base, address}
use Rattle.run_steps.specs.Items.{At, Linked}
use Rattle.run_steps.proofs.Items.{straight}
use Rattle.run_steps.proofs.Jumps.{back_of, call_piece, first_of, front_of, rest_of, skip_taken}
use Rattle.run_steps.specs.Reach.{Aims, Closed, Comes, Family, cost, reached}
use Rattle.run_steps.proofs.Reach.{before_closed, comes_on, onward, reached_holds}
use Rattle.block_runs.specs.Machines.{IsImage, IsIn}
use Rattle.block_runs.proofs.Places.{IsFrame}
use Rattle.block_runs.proofs.PointGrounds.{call_is, point_frame, point_ground}
use Rattle.program_runs.specs.Statements.{IsAmong}
use Rattle.expression_runs.specs.Raises.{IsUnraised, Routines}
use Rattle.expression_runs.specs.Values.{HasRegisters, OverflowComes, Setting, behind, in_registers, word_aims}
use Rattle.expression_runs.proofs.Saving.{held_after, saved_reach, size_sum}
use Rattle.expression_runs.proofs.Words.{known_word, word_closed}

-- ---- the point behind a raise's act

abbrev pub raised_at : Condition → (code : ℕ) → Point → Point
raised_at c n p = with_act (raising c n) p

holds_raised : (c : Condition) (n : ℕ) (p : Point) (m : List ℕ) → Holds (now p m) → Holds (now (raised_at c n p) m)
holds_raised c n p m h =
    record {
      keeps = h.keeps;
      heap = record { at = h.heap.at; capacity = h.heap.capacity };
      lives = record { falling = h.lives.falling; numbered = h.lives.numbered; extents = h.lives.extents };
      stored = same_held p.keeper p.places p.state (raised_at c n p).state m refl refl h.stored;
      distinct = h.distinct;
    }

stands_raised :
    {w : Surroundings} {code : List Instr} (c : Condition) (n : ℕ) {p : Point} → Stands w p × IsImage w code p →
    p.state.world.acts < w.acts → Stands w (raised_at c n p) × IsImage w code (raised_at c n p)
stands_raised {w} c n {p} known few = (
  raised_stands w p c n known.0 few,
  record { keeper = known.1.keeper; layout = known.1.layout; parts = known.1.parts; even = known.1.even },
)

-- ---- service 30

abbrev raising_regs : (number n : ℕ) → Base → List (ℕ × ℕ)
raising_regs number n b = (10, number) ∷ (11, n) ∷ (17, 30) ∷ []

abbrev pub coded : (n : ℕ) → Base → List (ℕ × ℕ)
coded n b = (11, n) ∷ []

abbrev pub conditioned : (number n : ℕ) → Base → List (ℕ × ℕ)
conditioned number n b = (10, number) ∷ (11, n) ∷ []

small_is : (z n : ℕ) → z ≡ 0 → n < 2 ^ 32 → sum z n ≡ n
small_is z n e h = omega (arith, e, h)

-- where a raise of a condition without a unit goes on: behind an act, with 0 and the code
raised_here :
    {w : Surroundings} {code : List Instr} {p : Point} {numbers : ℕ → ℕ} {i : ℕ} {aims : Aims (Unit {0})}
    (closed : Closed code aims) (credits : ℕ) (f : Family) (c : Condition) (number n : ℕ)
    (h : IsFrame (frame_under w.parts p.control.layers)) (known : Stands w p × IsImage w code p) →
    (credits < cost code) × (w.acts + 1 < 2 ^ 64) →
    Linked w.links code i (Plain I.Ecall ∷ []) → U.condition_of number ≡ Some c → n < 2 ^ 16 →
    IsSystem (force p.state.activations c) →
    ((b : Base) → At b i (Known (point_ground w p h) (services_of p) numbers (λ j. 0)
    (raising_regs number n) b) (f b)) →
    ((f' : Family) → p.state.world.acts < w.acts →
    ((b : Base) → At b (i + 1) (Known (point_ground w (raised_at c n p) h)
    (services_of (raised_at c n p)) numbers (λ j. 0) (conditioned 0 n) b) (f' b)) →
    aims.done 0 f' (services_of (raised_at c n p)) tt (raised_at c n p).state) →
    Comes code credits f (services_of p) aims (act (raising c n) w.acts p.state)
raised_here {w} {code} {p} {numbers} {i} closed credits f c number n h known fits l is small' only at next' =
    let v = services_of p in
    let v' = services_of (raised_at c n p) in
    let allowed = known.0.allowed in
    let most = fits.1 in
    let more : v'.world.acts ≡ suc v.world.acts = add-one v.world.acts in
    let calling : Calling w.links code i f (λ b. Done v' (f b).machine.memory 0 n) = record {
      linked = l;
      pc = λ b. (at b).pc;
      answers = λ b.
          let o = (at b).holds in
          let m = (f b).machine.memory in
          let x = (f b).machine.registers in
          called code (f b) v 30 number n (x 12) (x 13) (x 14) (λ call x0 x1 x2 x3 x4. U.raise_served call x0 x1 x2)
          o.body.services o.regs.1.1.0 o.regs.0 o.regs.1.0 refl refl refl (λ call y. refl)
          ∙ ap (λ call. U.raise_served call number n (x 12)) (call_is w code p m known.1)
          ∙ raise_unanswered w.units p m c number n (x 12) known.0.active
          (lt-ltb (p.state.world.acts + 1) (2 ^ 64) (omega (arith, allowed, most))) is (lt-ltb n (2 ^ 16) small') only;
    } in
    comes_act (raising c n) w.acts p.state refl
    (call_pauses credits f v v' (λ b. (f b).machine.memory) (λ b. 0) (λ b. n) fits.0 known.0.running
    (λ b. (at b).holds.body.services) more calling)
    (λ below.
    let r = call_acts credits 0 f v v' (λ b. (f b).machine.memory) (λ b. 0) (λ b. n)
    (λ b. Known (point_ground w (raised_at c n p) h) v' numbers (λ j. 0) (conditioned 0 n) b) fits.0 more calling
    (λ b. let o = (at b).holds.body in record {
      body = record {
        services = refl;
        registers = o.registers;
        bytes = o.bytes;
        memory = record {
          storage = holds_raised c n p (f b).machine.memory o.memory.storage;
          frames = o.memory.frames;
        };
      };
      regs = (refl, (refl, tt));
    }) in
    closed.done r tt _ (next' (reached r) below (reached_holds r)))

-- ---- ERROR

zero_equal : (x y : ℕ) → x ≡ 0 → y ≡ 0 → (x == y) ≡ true
zero_equal x y e f = ap (λ u. u == y) e ∙ ap (λ u. 0 == u) f

-- the run ends with ERROR's code
error_ends :
    {X : Type 0} {w : Surroundings} {code : List Instr} {p : Point} {numbers : ℕ → ℕ} {i : ℕ} {aims : Aims X}
    (closed : Closed code aims) (credits : ℕ) (f : Family) (n line : ℕ)
    (h : IsFrame (frame_under w.parts p.control.layers)) (known : Stands w p × IsImage w code p) →
    n < 2 ^ 16 → (credits + 2 < cost code) × (w.acts + 1 < 2 ^ 64) → p.control.line ≡ line →
    Linked w.links code i error_end →
    ((b : Base) → At b i (Known (point_ground w p h) (services_of p) numbers (λ j. 0)
    (conditioned 0 n) b) (f b)) →
    Comes code credits f (services_of p) aims (finish {R = X} (E.Error n line) w.acts p.state)
error_ends {X = X} {w} {code} {p} {numbers} {i} closed credits f n line h known small' fits same l at =
    let v = services_of p in
    let g = point_ground w p h in
    let front = Mark ErrorEnd ∷ small a0 2 ∷ small a7 2 ∷ [] in
    let r = straight credits f v v
    (λ b. Known g v numbers (λ j. 0) (λ b'. (10, 2) ∷ (11, n) ∷ (17, 2) ∷ []) b)
    (front_of front (Plain I.Ecall ∷ []) l) (omega arith) (λ b. (at b).pc)
    (λ b. let o = (at b).holds in let z = zero_is o.body in record {
      body = record {
        services = o.body.services;
        registers = o.body.registers;
        bytes = o.body.bytes;
        memory = o.body.memory;
      };
      regs = (small_is _ 2 z (lit< tt), (o.regs.1.0, (small_is _ 2 z (lit< tt), tt)));
    }) in
    onward closed r (λ f' at'.
    let v' = A.with_world (ending (E.Error n line) v.world) v in
    let calling : Calling w.links code (i + 2) f' (λ b. Ends v') = record {
      linked = back_of front (Plain I.Ecall ∷ []) l;
      pc = λ b. (at' b).pc;
      answers = λ b.
          let o = (at' b).holds in
          let x = (f' b).machine.registers in
          called code (f' b) v 2 2 n (x 12) (x 13) (x 14) (λ call x0 x1 x2 x3 x4. W.end_served call x0 x1)
          o.body.services o.regs.1.1.0 o.regs.0 o.regs.1.0 refl refl refl (λ call y. refl)
          ∙ ap (λ u. or_bad (cond u (Some (E.Error n v.line)) None) (λ end. W.run_ended end v))
          (lt-ltb n (2 ^ 16) small')
          ∙ acts v w.acts _ known.0.allowed fits.1
          ∙ ap (λ u. Ends (A.with_world (ending (E.Error n u) v.world) v)) same;
    } in
    comes_finish v' (E.Error n line) w.acts p.state refl refl
    (end_pauses (credits + 2) f' v v' fits.0 known.0.running (λ b. (at' b).holds.body.services) (add-one v.world.acts)
    calling)
    (call_ends (credits + 2) f' v v' (λ e. cc e) calling))

error_run_is :
    (X : Type 0) (around : Around) (n k : ℕ) (s : State) (o : Option (Activation × OnUnit)) → IsSystem o →
    R.error_unit_run {R = X} around n o k s ≡ finish {R = X} (E.Error n around.line) k s
unfolding R.error_unit_run
error_run_is X around n k s None h = refl
error_run_is X around n k s (Some (a, SystemUnit)) h = refl
error_run_is X around n k s (Some (a, BlockUnit block)) h = absurd h

unit_of_error :
    (X : Type 0) (around : Around) (n k : ℕ) (s : State) → IsSystem (force s.activations C.Error) →
    ((looked >>= (λ u. R.error_unit_run {R = X} around n (force u.activations C.Error))) k s)
    ≡ finish {R = X} (E.Error n around.line) k s
unfolding looked ◌>>=◌
unit_of_error X around n k s only = error_run_is X around n k s (force s.activations C.Error) only

-- ERROR is raised at its routine
pub error_comes :
    {X : Type 0} {w : Surroundings} {code : List Instr} {p : Point} {numbers : ℕ → ℕ} {aims : Aims X}
    (closed : Closed code aims) (routines : Routines w.links code) (credits : ℕ) (f : Family) (around : Around) (n : ℕ)
    (h : IsFrame (frame_under w.parts p.control.layers)) (known : Stands w p × IsImage w code p) → n < 2 ^ 16 →
    (credits + 4 < cost code) × (w.acts + 1 < 2 ^ 64) →
    p.control.line ≡ around.line → IsSystem (force p.state.activations C.Error) →
    ((b : Base) → At b (routines.at + 8) (Known (point_ground w p h) (services_of p) numbers
    (λ j. 0) (coded n) b) (f b)) →
    Comes code credits f (services_of p) aims (R.error {R = X} around n w.acts p.state)
unfolding R.error ◌>>◌
error_comes {X = X} {w} {code} {p} {numbers} closed routines credits f around n h known small' fits same only at =
    let v = services_of p in
    let g = point_ground w p h in
    let before' = Mark RaiseCondition ∷ BaseIn u0 ∷ subtract a2 return_register u0 ∷ small a7 30 ∷ Plain I.Ecall
    ∷ to_unit (size_of error_code) in
    let here = back_of before' (error_code ++ unit_begun) routines.linked in
    let front = Mark RaiseError ∷ small a0 5 ∷ OffsetOf a2 ErrorEnd ∷ small a7 30 ∷ [] in
    let behind' = to_unit (size_of error_end) ++ error_end in
    let mine = front_of error_code unit_begun here in
    let r = straight credits f v v (λ b. Known g v numbers (λ j. 0) (raising_regs 5 n) b)
    (front_of front (Plain I.Ecall ∷ behind') mine) (omega arith) (λ b. (at b).pc)
    (λ b. let o = (at b).holds in let z = zero_is o.body in (
      routines.end,
      refl,
      record {
        body = record {
          services = o.body.services;
          registers = o.body.registers;
          bytes = o.body.bytes;
          memory = o.body.memory;
        };
        regs = (small_is _ 5 z (lit< tt), (o.regs.0, (small_is _ 30 z (lit< tt), tt)));
      },
    )) in
    let at_call = back_of front (Plain I.Ecall ∷ behind') mine in
    let at_test = rest_of (Plain I.Ecall) behind' at_call in
    let next' = λ (u : Unit {0}). looked >>= (λ x. R.error_unit_run {R = X} around n (force x.activations C.Error)) in
    onward closed r (λ f1 at1.
    comes_on w.acts (act (raising C.Error n) w.acts p.state) next'
    (raised_here (before_closed w.acts next' closed) (credits + 4) f1 C.Error 5 n h known fits
    (first_of (Plain I.Ecall) behind' at_call) refl small' only at1
    (λ f2 few at2.
    let q = raised_at C.Error n p in
    let known2 = stands_raised C.Error n known few in
    let r2 = skip_taken 0 f2 Test.Equal a0 zero_register (JumpAhead (size_of error_end) ∷ [])
    (front_of (to_unit (size_of error_end)) error_end at_test) at2
    (λ b. zero_equal _ _ (at2 b).holds.regs.0 (zero_is (at2 b).holds.body)) in
    subst (Comes code 0 f2 (services_of q) _) (sym (unit_of_error X around n w.acts q.state only))
    (onward closed r2 (λ f3 at3.
    error_ends closed 3 f3 n around.line h known2 small'
    (let i = mine.inside in omega (arith, i), fits.1) same (back_of (to_unit (size_of error_end)) error_end at_test)
    at3)))))

-- ---- FIXEDOVERFLOW

unit_run_is :
    (around : Around) (n k : ℕ) (s : State) (o : Option (Activation × OnUnit)) → IsSystem o →
    R.unit_run around n o k s ≡ R.error around n k s
unfolding R.unit_run
unit_run_is around n k s None h = refl
unit_run_is around n k s (Some (a, SystemUnit)) h = refl
unit_run_is around n k s (Some (a, BlockUnit block)) h = absurd h

unit_of_raise :
    (around : Around) (c : Condition) (n k : ℕ) (s : State) → IsSystem (force s.activations c) →
    ((looked >>= (λ u. R.unit_run around n (force u.activations c))) k s) ≡ R.error around n k s
unfolding looked ◌>>=◌
unit_of_raise around c n k s only = unit_run_is around n k s (force s.activations c) only

-- a condition is raised at its routine
condition_comes :
    {w : Surroundings} {code : List Instr} {p : Point} {numbers : ℕ → ℕ} {aims : Aims (Unit {0})}
    (closed : Closed code aims) (routines : Routines w.links code) (credits : ℕ) (f : Family) (around : Around)
    (c : Condition) (number n : ℕ) (h : IsFrame (frame_under w.parts p.control.layers))
    (known : Stands w p × IsImage w code p) → U.condition_of number ≡ Some c →
    n < 2 ^ 16 → (credits + 4 < cost code) × (w.acts + 1 < 2 ^ 64) → p.control.line ≡ around.line →
    IsSystem (force p.state.activations c) × IsSystem (force p.state.activations C.Error) →
    ((b : Base) → At b routines.at (Known (point_ground w p h) (services_of p) numbers
    (λ j. 0) (conditioned number n) b) (f b)) →
    Comes code credits f (services_of p) aims (R.raised around c n w.acts p.state)
unfolding R.raised ◌>>◌
condition_comes {w} {code} {p} {numbers} closed routines credits f around c number n h known is small' fits same only
    at =
    let v = services_of p in
    let g = point_ground w p h in
    let front = Mark RaiseCondition ∷ BaseIn u0 ∷ subtract a2 return_register u0 ∷ small a7 30 ∷ [] in
    let behind' = to_unit (size_of error_code) ++ (error_code ++ unit_begun) in
    let mine = routines.linked in
    let r = straight credits f v v (λ b. Known g v numbers (λ j. 0) (raising_regs number n) b)
    (front_of front (Plain I.Ecall ∷ behind') mine) (omega arith) (λ b. (at b).pc)
    (λ b. let o = (at b).holds in let z = zero_is o.body in (
      refl,
      record {
        body = record {
          services = o.body.services;
          registers = o.body.registers;
          bytes = o.body.bytes;
          memory = o.body.memory;
        };
        regs = (o.regs.0, (o.regs.1.0, (small_is _ 30 z (lit< tt), tt)));
      },
    )) in
    let at_call = back_of front (Plain I.Ecall ∷ behind') mine in
    let at_test = rest_of (Plain I.Ecall) behind' at_call in
    let next' = λ (u : Unit {0}). looked >>= (λ x. R.unit_run around n (force x.activations c)) in
    onward closed r (λ f1 at1.
    comes_on w.acts (act (raising c n) w.acts p.state) next'
    (raised_here (before_closed w.acts next' closed) (credits + 4) f1 c number n h known fits
    (first_of (Plain I.Ecall) behind' at_call) is small' only.0 at1
    (λ f2 few at2.
    let q = raised_at c n p in
    let known2 = stands_raised c n known few in
    let r2 = skip_taken 0 f2 Test.Equal a0 zero_register (JumpAhead (size_of error_code) ∷ [])
    (front_of (to_unit (size_of error_code)) (error_code ++ unit_begun) at_test) at2
    (λ b. zero_equal _ _ (at2 b).holds.regs.0 (zero_is (at2 b).holds.body)) in
    subst (Comes code 0 f2 (services_of q) _) (sym (unit_of_raise around c n w.acts q.state only.0))
    (onward closed r2 (λ f3 at3.
    error_comes closed routines 3 f3 around n h known2 small' (let i = mine.inside in omega (arith, i), fits.1) same
    only.1
    (λ b. let o = at3 b in record {
      pc = o.pc ∙ ap (address b) (omega arith);
      holds = record { body = o.holds.body; regs = (o.holds.regs.1.0, tt) };
    }))))))

unraised :
    {k : Setting} {numbers : ℕ → ℕ} {p : Point} → IsAmong k.block numbers p → IsUnraised k →
    IsSystem (force p.state.activations C.FixedOverflow) × IsSystem (force p.state.activations C.Error)
unraised o is = (
  subst (λ xs. IsSystem (force xs C.FixedOverflow)) (sym o.later.activations) is.overflow,
  subst (λ xs. IsSystem (force xs C.Error)) (sym o.later.activations) is.error,
)

-- in an expression, with a value that waits
pub overflow_ends : (k : Setting) → IsUnraised k → OverflowComes k
overflow_ends k is p numbers taken c index given f o line registers small' l paid at =
    let w = k.block.call.surroundings in
    let code = k.block.call.code in
    let t = in_registers k.words taken in
    let known : Stands w p × IsImage w code p = (o.stands, o.image) in
    let h = point_frame o.stands o.image in
    let g = point_ground w p h in
    let v = services_of p in
    let first = save a0 t in
    let raise' = raised C.FixedOverflow 20 in
    let back = fetch a0 t in
    let closed = word_closed k.block k.labels
    (behind p numbers taken c index (overflow_raised t)) given in
    let r = saved_reach k taken 0 h registers c f given small' (front_of first (raise' ++ back) l)
    (λ b. known_word k.block h (at b)) in
    let l1 = back_of first (raise' ++ back) l in
    let two = small a0 2 ∷ small a1 20 ∷ [] in
    let calls = CallTo RaiseCondition ∷ [] in
    let l2 = front_of raise' back l1 in
    let routines = is.routines in
    let inside = routines.linked.inside in
    let near = routines.linked.small' in
    let most = is.most in
    let n0 = size_sum first raise' back in
    onward closed r (λ f1 at1.
    let r1 = straight (c + size_of first) f1 v v
    (λ b. Known g v (held_after numbers taken given) (λ j. 0) (conditioned 2 20) b) (front_of two calls l2)
    (omega arith) (λ b. (at1 b).pc)
    (λ b. let o' = (at1 b).holds in let z = zero_is o'.body in record {
      body = record {
        services = o'.body.services;
        registers = o'.body.registers;
        bytes = o'.body.bytes;
        memory = o'.body.memory;
      };
      regs = (small_is _ 2 z (lit< tt), (small_is _ 20 z (lit< tt), tt));
    }) in
    onward closed r1 (λ f2 at2.
    let r2 = call_piece (c + size_of first + 2) (c + size_of first + 2 + 2) f2 RaiseCondition routines.at (omega arith)
    routines.condition (omega (arith, inside, near))
    (record { reserved_stay = λ y u. refl; known_stay = λ b y u q. q; set = λ y u. refl }) (back_of two calls l2) at2 in
    onward closed r2 (λ f3 at3.
    condition_comes closed routines (c + size_of first + 2 + 2) f3 k.around C.FixedOverflow 2 20 h known refl (lit< tt)
    (omega (arith, paid, most, n0), is.acts) line (unraised o is)
    (λ b. record {
      pc = (at3 b).pc;
      holds = record { body = (at3 b).holds.body; regs = (at3 b).holds.regs.1 };
    }))))
