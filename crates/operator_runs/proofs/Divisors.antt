-- A raise of ZERODIVIDE without a unit: an act, ERROR's act, and the end of the run.
use Rattle.std.proofs.Common.{◌≡◌, ℕ, ◌+◌, ◌^◌, ◌<◌, [], ◌∷◌, refl, sym, subst, arith, lit<}
use Rattle.rv_meaning.specs.Words.{sum}
use Rattle.pli_language.specs.declared.condition.Condition.TheVariants as C
use Rattle.pli_meaning.specs.StorageState.{force}
use Rattle.pli_coding.specs.Arithmetic.{raised, zero_divide_raised}
use Rattle.pli_coding.specs.Assembly.{CallTo, RaiseCondition}
use Rattle.pli_coding.specs.Instructions.{small}
use Rattle.pli_coding.specs.Registers.{a0, a1}
use Rattle.activation_relation.specs.Layers.{Point, services_of}
use Rattle.activation_relation.specs.Points.{Stands}
use Rattle.activation_relation.specs.ServiceLaws.{IsSystem}
use Rattle.run_steps.specs.Bodies.{Known}
use Rattle.run_steps.proofs.Bodies.{zero_is}
use Rattle.run_steps.proofs.Items.{straight}
use Rattle.run_steps.proofs.Jumps.{back_of, call_piece, front_of}
use Rattle.run_steps.proofs.Reach.{onward}
use Rattle.run_steps.specs.Temporaries.{nothing}
use Rattle.block_runs.specs.Machines.{IsImage}
use Rattle.block_runs.proofs.PointGrounds.{known_in, point_frame, point_ground}
use Rattle.program_runs.specs.Statements.{IsAmong}
use Rattle.expression_runs.specs.Values.{Setting, behind}
use Rattle.expression_runs.proofs.Raises.{conditioned}
use Rattle.expression_runs.proofs.Words.{word_closed}
use Rattle.area_runs.proofs.Conditions.{condition_comes}
use Rattle.operator_runs.specs.Divisors.{IsUndivided, ZeroDivideComes}

small_is : (z n : ℕ) → z ≡ 0 → n < 2 ^ 32 → sum z n ≡ n
small_is z n e h = omega (arith, e, h)

undivided :
    {k : Setting} {numbers : ℕ → ℕ} {p : Point} → IsAmong k.block numbers p → IsUndivided k →
    IsSystem (force p.state.activations C.ZeroDivide) × IsSystem (force p.state.activations C.Error)
undivided o is = (
  subst (λ xs. IsSystem (force xs C.ZeroDivide)) (sym o.later.activations) is.divisor,
  subst (λ xs. IsSystem (force xs C.Error)) (sym o.later.activations) is.error,
)

pub zero_divide_ends : (k : Setting) → IsUndivided k → ZeroDivideComes k
zero_divide_ends k is p numbers taken c index f o line registers l paid at =
    let w = k.block.call.surroundings in
    let known : Stands w p × IsImage w k.block.call.code p = (o.stands, o.image) in
    let h = point_frame o.stands o.image in
    let g = point_ground w p h in
    let v = services_of p in
    let closed = word_closed k.block k.labels (behind p numbers taken c index zero_divide_raised) 0 in
    let two = small a0 3 ∷ small a1 30 ∷ [] in
    let calls = CallTo RaiseCondition ∷ [] in
    let l2 = front_of (raised C.ZeroDivide 30) (small a0 0 ∷ []) l in
    let routines = is.routines in
    let inside = routines.linked.inside in
    let near = routines.linked.small' in
    let most = is.most in
    let r1 = straight c f v v (λ b. Known g v numbers (λ j. 0) (conditioned 3 30) b) (front_of two calls l2)
    (omega arith) (λ b. (known_in {t = λ j. 0} {rs = nothing} h (at b) tt).pc)
    (λ b. let o' = (known_in {t = λ j. 0} {rs = nothing} h (at b) tt).holds in let z = zero_is o'.body in record {
      body = record {
        services = o'.body.services;
        registers = o'.body.registers;
        bytes = o'.body.bytes;
        memory = o'.body.memory;
      };
      regs = (small_is _ 3 z (lit< tt), (small_is _ 30 z (lit< tt), tt));
    }) in
    onward closed r1 (λ f1 at1.
    let r2 = call_piece (c + 2) (c + 2 + 2) f1 RaiseCondition routines.at (omega arith) routines.condition
    (omega (arith, inside, near))
    (record { reserved_stay = λ y u. refl; known_stay = λ b y u q. q; set = λ y u. refl }) (back_of two calls l2) at1 in
    onward closed r2 (λ f2 at2.
    condition_comes closed routines (c + 2 + 2) f2 k.around C.ZeroDivide 3 30 h known refl (lit< tt)
    (omega (arith, paid, most), is.acts) line (undivided o is)
    (λ b. record {
      pc = (at2 b).pc;
      holds = record { body = (at2 b).holds.body; regs = (at2 b).holds.regs.1 };
    })))
