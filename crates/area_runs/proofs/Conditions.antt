-- A raise of any condition without a unit: an act, ERROR's act, and the end of the run.
use Rattle.std.proofs.Common.{◌≡◌, ℕ, suc, ◌+◌, ◌^◌, ◌<◌, List, [], ◌∷◌, ◌++◌, Some, None, true, refl, sym}
use Rattle.std.proofs.Common.{ap, ◌∙◌, subst, arith, lit<, add-one}
use Rattle.std.proofs.lemmas.Bool.{lt-ltb}
use Rattle.std.specs.Prelude.{Option, ◌==◌}
use Rattle.rv_meaning.specs.declared.instr.BranchTest.TheVariants as Test
use Rattle.rv_meaning.specs.declared.instr.Instr.{Instr}
use Rattle.rv_meaning.specs.declared.instr.Instr.TheVariants as I
use Rattle.rv_meaning.specs.Words.{sum}
use Rattle.pli_language.specs.declared.condition.Condition.{Condition}
use Rattle.pli_language.specs.declared.condition.Condition.TheVariants as C
use Rattle.pli_meaning.specs.Control.{act, looked, ◌>>=◌, ◌>>◌}
use Rattle.pli_meaning.specs.Raising as R
use Rattle.pli_meaning.specs.Raising.{Around}
use Rattle.pli_meaning.specs.StorageState.{Activation, BlockUnit, OnUnit, State, SystemUnit, force}
use Rattle.pli_meaning.specs.World.{raising}
use Rattle.pli_serving.specs.Answers.{Done}
use Rattle.pli_serving.specs.OnUnits as U
use Rattle.pli_coding.specs.Assembly.{BaseIn, JumpAhead, Mark, Plain, RaiseCondition}
use Rattle.pli_coding.specs.Assembly.{size_of}
use Rattle.pli_coding.specs.Images.{error_code, to_unit, unit_begun}
use Rattle.pli_coding.specs.Instructions.{small, subtract}
use Rattle.pli_coding.specs.Registers.{a0, a2, a7, return_register, u0, zero_register}
use Rattle.storage_relation.specs.Served.{Holds}
use Rattle.storage_relation.proofs.Making.{same_held}
use Rattle.activation_relation.specs.Frames.{frame_under}
use Rattle.activation_relation.specs.Layers.{Point, now, services_of}
use Rattle.activation_relation.specs.Points.{Stands, Surroundings}
use Rattle.activation_relation.specs.ServiceLaws.{IsSystem}
use Rattle.activation_relation.proofs.PointSteps.{raised_stands}
use Rattle.activation_relation.proofs.Units.{raise_unanswered}
use Rattle.run_steps.specs.Bodies.{Known}
use Rattle.run_steps.proofs.Bodies.{zero_is}
use Rattle.run_steps.specs.Calls.{Calling}
use Rattle.run_steps.proofs.Calls.{call_acts, call_pauses, called, comes_act}
use Rattle.run_steps.specs.Engine.{Base, address}
use Rattle.run_steps.specs.Items.{At, Linked}
use Rattle.run_steps.proofs.Items.{straight}
use Rattle.run_steps.proofs.Jumps.{back_of, first_of, front_of, rest_of, skip_taken}
use Rattle.run_steps.specs.Reach.{Aims, Closed, Comes, Family, cost, reached}
use Rattle.run_steps.proofs.Reach.{before_closed, comes_on, onward, reached_holds}
use Rattle.block_runs.specs.Machines.{IsImage}
use Rattle.block_runs.proofs.Places.{IsFrame}
use Rattle.block_runs.proofs.PointGrounds.{call_is, point_ground}
use Rattle.expression_runs.specs.Raises.{Routines}
use Rattle.expression_runs.proofs.Raises.{conditioned, error_comes, raised_at}

-- ---- the point behind a raise's act

holds_raised : (c : Condition) (n : ℕ) (p : Point) (m : List ℕ) → Holds (now p m) → Holds (now (raised_at c n p) m)
holds_raised c n p m h =
    record {
      keeps = h.keeps;
      heap = record { at = h.heap.at; capacity = h.heap.capacity };
      lives = record { falling = h.lives.falling; numbered = h.lives.numbered; extents = h.lives.extents };
      stored = same_held p.keeper p.places p.state (raised_at c n p).state m refl refl h.stored;
      distinct = h.distinct;
    }

stands_raised :
    {w : Surroundings} {code : List Instr} (c : Condition) (n : ℕ) {p : Point} → Stands w p × IsImage w code p →
    p.state.world.acts < w.acts → Stands w (raised_at c n p) × IsImage w code (raised_at c n p)
stands_raised {w} c n {p} known few = (
  raised_stands w p c n known.0 few,
  record { keeper = known.1.keeper; layout = known.1.layout; parts = known.1.parts; even = known.1.even },
)

-- ---- service 30

abbrev raising_regs : (number n : ℕ) → Base → List (ℕ × ℕ)
raising_regs number n b = (10, number) ∷ (11, n) ∷ (17, 30) ∷ []

small_is : (z n : ℕ) → z ≡ 0 → n < 2 ^ 32 → sum z n ≡ n
small_is z n e h = omega (arith, e, h)

-- where a raise of a condition without a unit goes on: behind an act, with 0 and the code
raised_here :
    {w : Surroundings} {code : List Instr} {p : Point} {numbers : ℕ → ℕ} {i : ℕ} {aims : Aims (Unit {0})}
    (closed : Closed code aims) (credits : ℕ) (f : Family) (c : Condition) (number n : ℕ)
    (h : IsFrame (frame_under w.parts p.control.layers)) (known : Stands w p × IsImage w code p) →
    (credits < cost code) × (w.acts + 1 < 2 ^ 64) →
    Linked w.links code i (Plain I.Ecall ∷ []) → U.condition_of number ≡ Some c → n < 2 ^ 16 →
    IsSystem (force p.state.activations c) →
    ((b : Base) → At b i (Known (point_ground w p h) (services_of p) numbers (λ j. 0)
    (raising_regs number n) b) (f b)) →
    ((f' : Family) → p.state.world.acts < w.acts →
    ((b : Base) → At b (i + 1) (Known (point_ground w (raised_at c n p) h)
    (services_of (raised_at c n p)) numbers (λ j. 0) (conditioned 0 n) b) (f' b)) →
    aims.done 0 f' (services_of (raised_at c n p)) tt (raised_at c n p).state) →
    Comes code credits f (services_of p) aims (act (raising c n) w.acts p.state)
raised_here {w} {code} {p} {numbers} {i} closed credits f c number n h known fits l is small' only at next' =
    let v = services_of p in
    let v' = services_of (raised_at c n p) in
    let allowed = known.0.allowed in
    let most = fits.1 in
    let more : v'.world.acts ≡ suc v.world.acts = add-one v.world.acts in
    let calling : Calling w.links code i f (λ b. Done v' (f b).machine.memory 0 n) = record {
      linked = l;
      pc = λ b. (at b).pc;
      answers = λ b.
          let o = (at b).holds in
          let m = (f b).machine.memory in
          let x = (f b).machine.registers in
          called code (f b) v 30 number n (x 12) (x 13) (x 14) (λ call x0 x1 x2 x3 x4. U.raise_served call x0 x1 x2)
          o.body.services o.regs.1.1.0 o.regs.0 o.regs.1.0 refl refl refl (λ call y. refl)
          ∙ ap (λ call. U.raise_served call number n (x 12)) (call_is w code p m known.1)
          ∙ raise_unanswered w.units p m c number n (x 12) known.0.active
          (lt-ltb (p.state.world.acts + 1) (2 ^ 64) (omega (arith, allowed, most))) is (lt-ltb n (2 ^ 16) small') only;
    } in
    comes_act (raising c n) w.acts p.state refl
    (call_pauses credits f v v' (λ b. (f b).machine.memory) (λ b. 0) (λ b. n) fits.0 known.0.running
    (λ b. (at b).holds.body.services) more calling)
    (λ below.
    let r = call_acts credits 0 f v v' (λ b. (f b).machine.memory) (λ b. 0) (λ b. n)
    (λ b. Known (point_ground w (raised_at c n p) h) v' numbers (λ j. 0) (conditioned 0 n) b) fits.0 more calling
    (λ b. let o = (at b).holds.body in record {
      body = record {
        services = refl;
        registers = o.registers;
        bytes = o.bytes;
        memory = record {
          storage = holds_raised c n p (f b).machine.memory o.memory.storage;
          frames = o.memory.frames;
        };
      };
      regs = (refl, (refl, tt));
    }) in
    closed.done r tt _ (next' (reached r) below (reached_holds r)))

-- ---- the routine

zero_equal : (x y : ℕ) → x ≡ 0 → y ≡ 0 → (x == y) ≡ true
zero_equal x y e f = ap (λ u. u == y) e ∙ ap (λ u. 0 == u) f

unit_run_is :
    (around : Around) (n k : ℕ) (s : State) (o : Option (Activation × OnUnit)) → IsSystem o →
    R.unit_run around n o k s ≡ R.error around n k s
unfolding R.unit_run
unit_run_is around n k s None h = refl
unit_run_is around n k s (Some (a, SystemUnit)) h = refl
unit_run_is around n k s (Some (a, BlockUnit block)) h = absurd h

unit_of_raise :
    (around : Around) (c : Condition) (n k : ℕ) (s : State) → IsSystem (force s.activations c) →
    ((looked >>= (λ u. R.unit_run around n (force u.activations c))) k s) ≡ R.error around n k s
unfolding looked ◌>>=◌
unit_of_raise around c n k s only = unit_run_is around n k s (force s.activations c) only

-- a condition is raised at its routine
pub condition_comes :
    {w : Surroundings} {code : List Instr} {p : Point} {numbers : ℕ → ℕ} {aims : Aims (Unit {0})}
    (closed : Closed code aims) (routines : Routines w.links code) (credits : ℕ) (f : Family) (around : Around)
    (c : Condition) (number n : ℕ) (h : IsFrame (frame_under w.parts p.control.layers))
    (known : Stands w p × IsImage w code p) → U.condition_of number ≡ Some c →
    n < 2 ^ 16 → (credits + 4 < cost code) × (w.acts + 1 < 2 ^ 64) → p.control.line ≡ around.line →
    IsSystem (force p.state.activations c) × IsSystem (force p.state.activations C.Error) →
    ((b : Base) → At b routines.at (Known (point_ground w p h) (services_of p) numbers
    (λ j. 0) (conditioned number n) b) (f b)) →
    Comes code credits f (services_of p) aims (R.raised around c n w.acts p.state)
unfolding R.raised ◌>>◌
condition_comes {w} {code} {p} {numbers} closed routines credits f around c number n h known is small' fits same only
    at =
    let v = services_of p in
    let g = point_ground w p h in
    let front = Mark RaiseCondition ∷ BaseIn u0 ∷ subtract a2 return_register u0 ∷ small a7 30 ∷ [] in
    let behind' = to_unit (size_of error_code) ++ (error_code ++ unit_begun) in
    let mine = routines.linked in
    let r = straight credits f v v (λ b. Known g v numbers (λ j. 0) (raising_regs number n) b)
    (front_of front (Plain I.Ecall ∷ behind') mine) (omega arith) (λ b. (at b).pc)
    (λ b. let o = (at b).holds in let z = zero_is o.body in (
      refl,
      record {
        body = record {
          services = o.body.services;
          registers = o.body.registers;
          bytes = o.body.bytes;
          memory = o.body.memory;
        };
        regs = (o.regs.0, (o.regs.1.0, (small_is _ 30 z (lit< tt), tt)));
      },
    )) in
    let at_call = back_of front (Plain I.Ecall ∷ behind') mine in
    let at_test = rest_of (Plain I.Ecall) behind' at_call in
    let next' = λ (u : Unit {0}). looked >>= (λ x. R.unit_run around n (force x.activations c)) in
    onward closed r (λ f1 at1.
    comes_on w.acts (act (raising c n) w.acts p.state) next'
    (raised_here (before_closed w.acts next' closed) (credits + 4) f1 c number n h known fits
    (first_of (Plain I.Ecall) behind' at_call) is small' only.0 at1
    (λ f2 few at2.
    let q = raised_at c n p in
    let known2 = stands_raised c n known few in
    let r2 = skip_taken 0 f2 Test.Equal a0 zero_register (JumpAhead (size_of error_code) ∷ [])
    (front_of (to_unit (size_of error_code)) (error_code ++ unit_begun) at_test) at2
    (λ b. zero_equal _ _ (at2 b).holds.regs.0 (zero_is (at2 b).holds.body)) in
    subst (Comes code 0 f2 (services_of q) _) (sym (unit_of_raise around c n w.acts q.state only.0))
    (onward closed r2 (λ f3 at3.
    error_comes closed routines 3 f3 around n h known2 small' (let i = mine.inside in omega (arith, i), fits.1) same
    only.1
    (λ b. let o = at3 b in record {
      pc = o.pc ∙ ap (address b) (omega arith);
      holds = record { body = o.holds.body; regs = (o.holds.regs.1.0, tt) };
    }))))))
