-- Calls of services on texts: a status other than 0 ends the run, as the error of the meaning does.
use Rattle.std.proofs.Common.{◌≡◌, ℕ, ◌+◌, ◌^◌, ◌<◌, ◌≤◌, List, [], ◌∷◌, Option, Some, None, true, false, refl, sym, ap, ◌∙◌, subst, arith}
use Rattle.std.specs.Prelude.{◌==◌}
use Rattle.rv_meaning.specs.declared.instr.Instr.{Instr}
use Rattle.rv_meaning.specs.declared.instr.Instr.TheVariants as I
use Rattle.rv_meaning.specs.declared.instr.BranchTest.TheVariants as Test
use Rattle.pli_meaning.specs.StorageState.{State}
use Rattle.pli_meaning.specs.Control.{give}
use Rattle.pli_meaning.specs.Raising as R
use Rattle.pli_meaning.specs.Raising.{Around}
use Rattle.pli_serving.specs.ServiceState.{Services}
use Rattle.pli_serving.specs.Answers.{Answer, Done}
use Rattle.pli_serving.specs.Finding.{Call}
use Rattle.pli_serving.specs.Outcomes.{or_status}
use Rattle.run_steps.specs.Unlimited as V
use Rattle.pli_coding.specs.Registers.{zero_register, a1, a7}
use Rattle.pli_coding.specs.Assembly.{Plain, JumpTo, RaiseError}
use Rattle.pli_coding.specs.Instructions.{small, service, status_tested, tested_service}
use Rattle.pli_coding.specs.Linking.{Links}
use Rattle.run_steps.specs.Engine.{Base, address, call_at}
use Rattle.run_steps.specs.Items.{Linked, At}
use Rattle.run_steps.proofs.Items.{straight}
use Rattle.run_steps.specs.Bodies.{Ground, Known}
use Rattle.run_steps.proofs.Bodies.{zero_is}
use Rattle.run_steps.proofs.Jumps.{front_of, back_of, rest_of, skip_taken, skip_passed, jump_piece}
use Rattle.run_steps.specs.Calls.{Calling}
use Rattle.run_steps.proofs.Calls.{called, call_done}
use Rattle.pli_headline.proofs.Serving.{Serving}
use Rattle.pli_headline.proofs.Raising.{Routines, small_is, error_piece}
use Rattle.run_steps.specs.Reach.{Family, Aims, Comes, Closed}
use Rattle.run_steps.proofs.Reach.{onward}

-- a0, a1 and a2
abbrev pub three : (x y z : Base → ℕ) → Base → List (ℕ × ℕ)
three x y z b = (10, x b) ∷ (11, y b) ∷ (12, z b) ∷ []

abbrev pub two : (x y : Base → ℕ) → Base → List (ℕ × ℕ)
two x y b = (10, x b) ∷ (11, y b) ∷ []

-- what a service answers: its code as a status beside a0, or other services and a result
abbrev pub told : {X : Type 0} → Services → List ℕ → (x code : ℕ) → (X → Services) → (X → ℕ) → Option X → Answer
told v m x code after result None = Done v m x code
told v m x code after result (Some r) = Done (after r) m (result r) 0

pub status_told : {X : Type 0} (c : Call) (x code : ℕ) (after : X → Services) (result : X → ℕ) (o : Option X) → or_status c x code o (λ r. Done (after r) c.memory (result r) 0) ≡ told c.services c.memory x code after result o
status_told c x code after result None = refl
status_told c x code after result (Some r) = refl

-- a call without an act, by three arguments
pub asking_piece : {links : Links} {code : List Instr} {i : ℕ} {g : Ground} {v : Services} {h t : ℕ → ℕ} {X : Type 0} {aims : Aims X} {flow : _} (closed : Closed code aims) (f : Family) (v' : Services) (n : ℕ) (x y z x' y' : Base → ℕ) (G : Call → ℕ → ℕ → ℕ → ℕ → ℕ → Answer) → n < 2 ^ 31 → ((c : Call) (r : ℕ → ℕ) → V.served n c r ≡ G c (r 10) (r 11) (r 12) (r 13) (r 14)) → v.world.acts ≤ v'.world.acts → ((b : Base) (m : List ℕ) (x3 x4 : ℕ) → G (call_at code v m) (x b) (y b) (z b) x3 x4 ≡ Done v' m (x' b) (y' b)) → Linked links code i (service n) → ((b : Base) → At b i (Known g v h t (three x y z) b) (f b)) → ((f' : Family) → ((b : Base) → At b (i + 2) (Known g v' h t (two x' y') b) (f' b)) → Comes code (i + 2) f' v' aims flow) → Comes code i f v aims flow
asking_piece {code = code} {i = i} {g = g} {v = v} {h = h} {t = t} {aims = aims} {flow = flow} closed f v' n x y z x' y' G fits is more answers l at next' =
    let front = small a7 n ∷ [] in
    let last = Plain I.Ecall ∷ [] in
    let r = straight i f v v (λ b. Known g v h t (λ b'. (10, x b') ∷ (11, y b') ∷ (12, z b') ∷ (17, n) ∷ []) b) (front_of front last l) (omega arith) (λ b. (at b).pc)
    (λ b. let o = (at b).holds in let zero' = zero_is o.body in record {
      body = record { services = o.body.services; registers = o.body.registers; bytes = o.body.bytes; memory = o.body.memory };
      regs = (o.regs.0, (o.regs.1.0, (o.regs.1.1.0, (small_is _ n zero' (omega (arith, fits)), tt))));
    }) in
    onward closed r (λ f1 at1.
    let calling : Calling _ code (i + 1) f1 (λ b. Done v' (f1 b).machine.memory (x' b) (y' b)) = record {
      linked = back_of front last l;
      pc = λ b. (at1 b).pc;
      answers = λ b.
          let o = (at1 b).holds in
          called code (f1 b) v n (x b) (y b) (z b) _ _ G o.body.services o.regs.1.1.1.0 o.regs.0 o.regs.1.0 o.regs.1.1.0 refl refl is
          ∙ answers b (f1 b).machine.memory _ _;
    } in
    let q = call_done (i + 1) f1 v v' (λ b. (f1 b).machine.memory) x' y' (λ b. Known g v' h t (two x' y') b) more calling
    (λ b. let o = (at1 b).holds.body in record { body = record { services = refl; registers = o.registers; bytes = o.bytes; memory = o.memory }; regs = (refl, (refl, tt)) }) in
    onward closed q (λ f2 at2.
    let e : i + 1 + 1 ≡ i + 2 = omega arith in
    subst (λ u. Comes code u f2 v' aims flow) (sym e)
    (next' f2 (λ b. record { pc = (at2 b).pc ∙ ap (address b) e; holds = (at2 b).holds }))))

is_none : (y z : ℕ) → y ≡ 0 → z ≡ 0 → (y == z) ≡ true
is_none y z e e' = ap (λ u. u == z) e ∙ ap (λ u. 0 == u) e'

is_some : (c y z : ℕ) → (c == 0) ≡ false → y ≡ c → z ≡ 0 → (y == z) ≡ false
is_some c y z n e e' = ap (λ u. u == z) e ∙ ap (λ u. c == u) e' ∙ n

-- the call and the test of its status
pub tested_call : {X : Type 0} (o : Option X) {links : Links} {code : List Instr} {i : ℕ} {g : Ground} {v : Services} {h t : ℕ → ℕ} {s : State} {aims : Aims X} (closed : Closed code aims) (routines : Routines links code) (f : Family) (around : Around) (n c k : ℕ) (x y z : Base → ℕ) (after : X → Services) (result : X → Base → ℕ) (G : Call → ℕ → ℕ → ℕ → ℕ → ℕ → Answer) → n < 2 ^ 31 → c < 2 ^ 16 → (c == 0) ≡ false → ((q : Call) (r : ℕ → ℕ) → V.served n q r ≡ G q (r 10) (r 11) (r 12) (r 13) (r 14)) → ((r : X) → v.world.acts ≤ (after r).world.acts) → ((b : Base) (m : List ℕ) (x3 x4 : ℕ) → G (call_at code v m) (x b) (y b) (z b) x3 x4 ≡ told v m (x b) c after (λ r. result r b) o) → Linked links code i (tested_service n) → Serving k s v around.line → ((b : Base) → At b i (Known g v h t (three x y z) b) (f b)) → ((r : X) (f' : Family) → o ≡ Some r → ((b : Base) → At b (i + 5) (Known g (after r) h t (λ b'. (10, result r b') ∷ []) b) (f' b)) → aims.done (i + 5) f' (after r) r s) → Comes code i f v aims (R.or_error around c o k s)
unfolding R.or_error give
tested_call {X} None {code = code} {i = i} {v = v} {s = s} {aims = aims} closed routines f around n c k x y z after result G fits coded' some is more answers l serving at goal =
    let l1 = back_of (service n) status_tested l in
    let inside = l1.inside in
    let far = routines.linked.inside in
    asking_piece closed f v n x y z x (λ b. c) G fits is (omega arith) answers (front_of (service n) status_tested l) at
    (λ f1 at1.
    onward closed (skip_passed (i + 2) f1 Test.Equal a1 zero_register (JumpTo RaiseError ∷ []) l1 at1 (λ b. is_some c _ _ some (at1 b).holds.regs.1.0 (zero_is (at1 b).holds.body)))
    (λ f2 at2.
    let q = jump_piece (i + 2 + 1) (i + 2 + 1 + 2) f2 RaiseError (routines.at + 8) (omega arith) routines.error (let m = routines.linked.small' in omega (arith, far, m)) (record { reserved_stay = λ y' u. refl; known_stay = λ b y' u p. p; set = λ y' u. refl }) (rest_of _ (JumpTo RaiseError ∷ []) l1) at2 in
    onward closed q (λ f3 at3.
    error_piece closed routines (i + 2 + 1 + 2) f3 around c k coded' (omega (arith, inside, far)) serving
    (λ b. record { pc = (at3 b).pc; holds = record { body = (at3 b).holds.body; regs = ((at3 b).holds.regs.1.0, tt) } }))))
tested_call (Some r) {code = code} {i = i} {v = v} {s = s} {aims = aims} closed routines f around n c k x y z after result G fits coded' some is more answers l serving at goal =
    let l1 = back_of (service n) status_tested l in
    let e : i + 2 + 3 ≡ i + 5 = omega arith in
    asking_piece closed f (after r) n x y z (result r) (λ b. 0) G fits is (more r) answers (front_of (service n) status_tested l) at
    (λ f1 at1.
    onward closed (skip_taken (i + 2) f1 Test.Equal a1 zero_register (JumpTo RaiseError ∷ []) l1 at1 (λ b. is_none _ _ (at1 b).holds.regs.1.0 (zero_is (at1 b).holds.body)))
    (λ f2 at2.
    record {
      to = λ early.
          subst (λ u. aims.done u f2 (after r) r s) (sym e)
          (goal r f2 refl (λ b. record { pc = (at2 b).pc ∙ ap (address b) e; holds = record { body = (at2 b).holds.body; regs = ((at2 b).holds.regs.0, tt) } }));
    }))
