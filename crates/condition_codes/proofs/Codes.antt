-- ONCODE is answered by service 33, at any point of a block.
use Rattle.std.proofs.Common.{◌≡◌, ℕ, ◌+◌, ◌^◌, ◌<◌, [], ◌∷◌, ◌++◌, refl, sym, ap, ◌∙◌, subst, arith, lit<}
use Rattle.std.proofs.lemmas.Bool.Decides.{nat_tests}
use Rattle.std.specs.Prelude.{pos}
use Rattle.rv_meaning.specs.declared.instr.Instr.TheVariants as I
use Rattle.rv_meaning.specs.Words.{sum, word}
use Rattle.pli_typing.specs.TypedTree as Y
use Rattle.pli_meaning.specs.Control.{give, looked, ◌>>=◌}
use Rattle.pli_meaning.specs.Evaluating as V
use Rattle.pli_meaning.specs.StorageState.{oncode_of}
use Rattle.pli_serving.specs.ActsAndEnds as W
use Rattle.pli_serving.specs.Answers.{Done}
use Rattle.pli_coding.specs.Assembly.{Plain}
use Rattle.pli_coding.specs.Instructions.{service, small}
use Rattle.pli_coding.specs.Registers.{a7}
use Rattle.activation_relation.specs.Layers.{services_of}
use Rattle.activation_relation.proofs.Units.{oncode_answered}
use Rattle.run_steps.specs.Bodies.{Known}
use Rattle.run_steps.proofs.Bodies.{zero_is}
use Rattle.run_steps.specs.Calls.{Calling}
use Rattle.run_steps.proofs.Calls.{call_done, called}
use Rattle.run_steps.specs.Engine.{Base}
use Rattle.run_steps.specs.Items.{At}
use Rattle.run_steps.proofs.Items.{straight}
use Rattle.run_steps.proofs.Jumps.{back_of, front_of}
use Rattle.run_steps.specs.Numbers.{IsWide}
use Rattle.run_steps.specs.Reach.{reached}
use Rattle.run_steps.proofs.Reach.{reach_then, reached_holds}
use Rattle.run_steps.proofs.Reaching.{reach_moved}
use Rattle.run_steps.specs.Temporaries.{nothing}
use Rattle.block_runs.proofs.PointGrounds.{call_is, known_in, point_frame, point_ground}
use Rattle.expression_runs.specs.Laws as L
use Rattle.expression_runs.specs.Values.{Setting, behind}
use Rattle.expression_runs.proofs.Words.{word_here}
use Rattle.condition_codes.specs.Codes.{HasCode}

small_is : (z n : ℕ) → z ≡ 0 → n < 2 ^ 32 → sum z n ≡ n
small_is z n e h = omega (arith, e, h)

pub code_does : (k : Setting) → HasCode k.block → L.Does k 0 Y.OnCode
unfolding V.number give looked ◌>>=◌
code_does k few p numbers taken c index f o line registers l paid there =
    let w = k.block.call.surroundings in
    let code = k.block.call.code in
    let h = point_frame o.stands o.image in
    let g = point_ground w p h in
    let v = services_of p in
    let n = oncode_of p.state.activations in
    let few' = subst (λ as'. oncode_of as' < 2 ^ 16) (sym o.later.activations) few in
    let ask = small a7 33 ∷ [] in
    let call = Plain I.Ecall ∷ [] in
    let r1 = straight c f v v (λ b. Known g v numbers (λ j. 0) (λ b'. (17, 33) ∷ []) b) (front_of ask call l)
    (omega arith) (λ b. (known_in {t = λ j. 0} {rs = nothing} h (there b) tt).pc)
    (λ b. let q = (known_in {t = λ j. 0} {rs = nothing} h (there b) tt).holds in record {
      body = record {
        services = q.body.services;
        registers = q.body.registers;
        bytes = q.body.bytes;
        memory = q.body.memory;
      };
      regs = (small_is _ 33 (zero_is q.body) (lit< tt), tt);
    }) in
    let f1 = reached r1 in
    let second : Base → ℕ = λ b. (f1 b).machine.registers 11 in
    let calling : Calling w.links code (index + 1) f1 (λ b. Done v (f1 b).machine.memory n (second b)) = record {
      linked = back_of ask call l;
      pc = λ b. (reached_holds r1 b).pc;
      answers = λ b.
          let q = (reached_holds r1 b).holds in
          let m = (f1 b).machine.memory in
          let x = (f1 b).machine.registers in
          called code (f1 b) v 33 (x 10) (x 11) (x 12) (x 13) (x 14)
          (λ c' x0 x1 x2 x3 x4. W.oncode_served c' x1) q.body.services q.regs.0 refl refl refl refl refl
          (λ c' y. refl)
          ∙ ap (λ c'. W.oncode_served c' (x 11)) (call_is w code p m o.image)
          ∙ oncode_answered w.units p m (x 11) o.stands.active;
    } in
    let r2 = call_done (c + 1) f1 v v (λ b. (f1 b).machine.memory) (λ b. n) second
    (λ b. Known g v numbers (λ j. 0) (λ b'. (10, n) ∷ []) b) (omega arith) calling
    (λ b. let q = (reached_holds r1 b).holds.body in record {
      body = record { services = refl; registers = q.registers; bytes = q.bytes; memory = q.memory };
      regs = (refl, tt);
    }) in
    record {
      to = λ early. (
        wide n (omega (arith, few')),
        word_here {x = behind p numbers taken c index (service 33)} {given = n} h o (omega arith) refl
            (reach_moved (omega arith) (omega arith) (reach_then r1 r2)),
      );
    }
  where
    wide : (n : ℕ) → n < 2 ^ 31 → IsWide (pos n)
    wide n less = grind (arith, nat_tests)
