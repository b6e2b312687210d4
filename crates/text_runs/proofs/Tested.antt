-- A service whose status is tested: it leaves a result behind it, or ERROR comes to what it means.
use Rattle.std.proofs.Common.{◌≡◌, ℕ, ◌+◌, ◌^◌, ◌<◌, ◌≤◌, List, [], ◌∷◌, Option, Some, None, false, refl, subst}
use Rattle.std.proofs.Common.{arith}
use Rattle.std.proofs.lemmas.Bool.Decides.{nat_tests}
use Rattle.std.specs.Prelude.{◌==◌}
use Rattle.rv_meaning.specs.declared.instr.Instr.{Instr}
use Rattle.pli_meaning.specs.Control.{Label, give}
use Rattle.pli_meaning.specs.Raising as R
use Rattle.pli_meaning.specs.StorageState.{State}
use Rattle.pli_serving.specs.Answers.{Answer}
use Rattle.pli_serving.specs.Finding.{Call}
use Rattle.pli_serving.specs.ServiceState.{Entry, Services}
use Rattle.pli_coding.specs.Assembly.{JumpTo, RaiseError}
use Rattle.pli_coding.specs.Instructions.{service, status_tested, tested_service}
use Rattle.activation_relation.specs.Layers.{Point, services_of}
use Rattle.run_steps.specs.Bodies.{Known}
use Rattle.run_steps.specs.Engine.{Base, call_at}
use Rattle.run_steps.specs.Items.{At, Linked}
use Rattle.run_steps.proofs.Jumps.{back_of, front_of, rest_of}
use Rattle.run_steps.proofs.Reaching.{reach_moved}
use Rattle.run_steps.specs.Reach.{Aims, Closed, Comes, Family, cost, reached}
use Rattle.run_steps.proofs.Reach.{onward, reach_then, reached_holds}
use Rattle.run_steps.specs.Unlimited as V
use Rattle.block_runs.proofs.CallStatements.{comes_map}
use Rattle.block_runs.proofs.PointGrounds.{in_known, point_ground}
use Rattle.program_runs.specs.Statements.{IsAmong, JumpsTo, waiting, with_texts}
use Rattle.program_runs.proofs.Waiting.{texts_in}
use Rattle.expression_runs.specs.Values.{Setting}
use Rattle.expression_runs.proofs.Words.{frame_of}
use Rattle.text_runs.specs.Texts.{ErrorComes, error_aims}
use Rattle.text_runs.proofs.TextCalls.{Asking, asks, status_none, status_some, three, told, two}
use Rattle.block_runs.specs.Machines.{limits_of}

-- a service by its number, what it is given in a0 to a2, its status where it has no result, what then stands on the
-- stack, and what it answers in a0
pub record Tested (X : Type 0) : Type 0 where
  pub number : ℕ
  pub code : ℕ
  pub x : Base → ℕ
  pub y : Base → ℕ
  pub z : Base → ℕ
  pub answer : Call → ℕ → ℕ → ℕ → Answer
  pub outcome : Option X
  pub texts : X → List Entry
  pub result : X → Base → ℕ

pub record IsTested {X : Type 0} (code : List Instr) (p : Point) (t : Tested X) : Type 0 where
  pub small' : t.number < 2 ^ 31
  pub coded : t.code < 2 ^ 16
  pub some : (t.code == 0) ≡ false
  pub serves : (c : Call) (r : ℕ → ℕ) → V.served t.number c r ≡ t.answer c (r 10) (r 11) (r 12)
  pub answers :
      (b : Base) (m : List ℕ) →
      t.answer (call_at code (services_of p) m) (t.x b) (t.y b) (t.z b)
      ≡ told (services_of p) m (t.x b) t.code (λ r. services_of (with_texts (t.texts r) p)) (λ r. t.result r b)
      t.outcome

-- where it is called at a point of a block, and where that leads
pub record Place : Type 0 where
  pub entries : List Entry
  pub setting : Setting
  pub point : Point
  pub numbers : ℕ → ℕ
  pub credits : ℕ
  pub index : ℕ
  pub family : Family

pub record IsPlace (k : Place) (x y z : Base → ℕ) (h : frame_of k.setting.block k.point) (number : ℕ) : Type 0 where
  pub among : IsAmong (waiting k.entries k.setting.block) k.numbers k.point
  pub line : k.point.control.line ≡ k.setting.around.line
  pub linked :
      Linked k.setting.block.call.surroundings.links k.setting.block.call.code k.index (tested_service number)
  pub paid : k.credits + 5 + k.setting.most ≤ cost k.setting.block.call.code
  pub there :
      (b : Base) →
      At b k.index (Known (point_ground k.setting.block.call.surroundings k.point h) (services_of k.point) k.numbers
      (λ j. 0) (three x y z) b) (k.family b)

positive : (n : ℕ) → (n == 0) ≡ false → 0 < n
positive n e = grind (arith, nat_tests)

outcome_comes :
    {X : Type 0} (k : Place) (t : Tested X) {aims : Aims X} → Closed k.setting.block.call.code aims →
    aims.limits ≡ limits_of k.setting.block.call.surroundings →
    (h : frame_of k.setting.block k.point) → IsPlace k t.x t.y t.z h t.number →
    IsTested k.setting.block.call.code k.point t → ErrorComes X k.setting → (o : Option X) → t.outcome ≡ o →
    ((c : ℕ) (f : Family) (v : Services) (height : ℕ) (label : Label) (s : State) →
    JumpsTo k.setting.block k.setting.labels k.point.state.world.acts c f v height label s →
    aims.jumped c f v height label s) →
    ((r : X) (f : Family) → t.outcome ≡ Some r →
    ((b : Base) → At b (k.index + 5) (Known
    (point_ground k.setting.block.call.surroundings (with_texts (t.texts r) k.point) h)
    (services_of (with_texts (t.texts r) k.point)) k.numbers (λ j. 0) (two (t.result r) (λ b'. 0)) b) (f b)) →
    aims.done (k.credits + 5) f (services_of (with_texts (t.texts r) k.point)) r k.point.state) →
    Comes k.setting.block.call.code k.credits k.family (services_of k.point) aims
    (R.or_error k.setting.around t.code o k.setting.block.call.surroundings.acts k.point.state)
unfolding R.or_error give
outcome_comes {X} k t {aims} closed same h is asks' error None e jumps goal =
    let w = k.setting.block.call.surroundings in
    let p = k.point in
    let v = services_of p in
    let paid = is.paid in
    let asking : Asking = record {
      number = t.number;
      x = t.x;
      y = t.y;
      z = t.z;
      first = t.x;
      second = λ b. t.code;
      answer = t.answer;
    } in
    let r1 = asks {g' = point_ground w p h} {t = λ j. 0} asking k.credits k.family
    (record {
      small' = asks'.small';
      serves = asks'.serves;
      answers = λ b m.
          subst (λ o. t.answer (call_at k.setting.block.call.code v m) (t.x b) (t.y b) (t.z b)
          ≡ told v m (t.x b) t.code (λ r. services_of (with_texts (t.texts r) p)) (λ r. t.result r b) o) e
          (asks'.answers b m);
      more = omega arith;
    })
    (record { reserved = λ b. refl; memory = λ b m stands. stands })
    (front_of (service t.number) status_tested is.linked) is.there in
    let l1 = back_of (service t.number) status_tested is.linked in
    onward closed r1 (λ g1 at1.
    onward closed (status_some (k.credits + 2) t.code g1 asks'.some l1 at1) (λ g2 at2.
    comes_map (error_aims X k.setting p.state.world.acts) aims same
    (R.error {R = X} k.setting.around t.code w.acts p.state)
    (λ c f v' r s q. absurd q)
    jumps
    (λ c f v' r s q. absurd q)
    (error k.entries p k.numbers (k.credits + 2 + 1) (k.index + 2 + 1) t.code g2 is.among is.line
    (positive t.code asks'.some, asks'.coded)
    (rest_of _ (JumpTo RaiseError ∷ []) l1) (omega (arith, paid))
    (λ b. (in_known h is.among.image.parts (at2 b), (at2 b).holds.regs.1.0)))))
outcome_comes {X} k t {aims} closed same h is asks' error (Some r) e jumps goal =
    let w = k.setting.block.call.surroundings in
    let p = k.point in
    let v = services_of p in
    let q = with_texts (t.texts r) p in
    let asking : Asking = record {
      number = t.number;
      x = t.x;
      y = t.y;
      z = t.z;
      first = t.result r;
      second = λ b. 0;
      answer = t.answer;
    } in
    let r1 = asks {g' = point_ground w q h} {t = λ j. 0} asking k.credits k.family
    (record {
      small' = asks'.small';
      serves = asks'.serves;
      answers = λ b m.
          subst (λ o. t.answer (call_at k.setting.block.call.code v m) (t.x b) (t.y b) (t.z b)
          ≡ told v m (t.x b) t.code (λ u. services_of (with_texts (t.texts u) p)) (λ u. t.result u b) o) e
          (asks'.answers b m);
      more = omega arith;
    })
    (record { reserved = λ b. refl; memory = λ b m stands. texts_in (t.texts r) stands })
    (front_of (service t.number) status_tested is.linked) is.there in
    let r2 = status_none (k.credits + 2) (reached r1) (back_of (service t.number) status_tested is.linked)
    (reached_holds r1) in
    onward closed (reach_moved {c'' = k.credits + 5} {i'' = k.index + 5} (omega arith) (omega arith) (reach_then r1 r2))
    (λ g at. record { to = λ early. goal r g e at })

pub tested_comes :
    {X : Type 0} (k : Place) (t : Tested X) {aims : Aims X} → Closed k.setting.block.call.code aims →
    aims.limits ≡ limits_of k.setting.block.call.surroundings →
    (h : frame_of k.setting.block k.point) → IsPlace k t.x t.y t.z h t.number →
    IsTested k.setting.block.call.code k.point t → ErrorComes X k.setting →
    ((c : ℕ) (f : Family) (v : Services) (height : ℕ) (label : Label) (s : State) →
    JumpsTo k.setting.block k.setting.labels k.point.state.world.acts c f v height label s →
    aims.jumped c f v height label s) →
    ((r : X) (f : Family) → t.outcome ≡ Some r →
    ((b : Base) → At b (k.index + 5) (Known
    (point_ground k.setting.block.call.surroundings (with_texts (t.texts r) k.point) h)
    (services_of (with_texts (t.texts r) k.point)) k.numbers (λ j. 0) (two (t.result r) (λ b'. 0)) b) (f b)) →
    aims.done (k.credits + 5) f (services_of (with_texts (t.texts r) k.point)) r k.point.state) →
    Comes k.setting.block.call.code k.credits k.family (services_of k.point) aims
    (R.or_error k.setting.around t.code t.outcome k.setting.block.call.surroundings.acts k.point.state)
tested_comes k t closed same h is asks' error jumps goal =
    outcome_comes k t closed same h is asks' error t.outcome refl jumps goal
