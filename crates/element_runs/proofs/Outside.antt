-- A subscript outside its bounds where no unit is in force for ERROR: the run ends.
use Rattle.std.proofs.Common.{◌≡◌, ℕ, ◌+◌, ◌^◌, ◌<◌, List, [], ◌∷◌, refl, sym, subst, arith, lit<}
use Rattle.pli_language.specs.declared.condition.Condition.TheVariants as C
use Rattle.pli_meaning.specs.Control.{Label}
use Rattle.pli_meaning.specs.StorageState.{force}
use Rattle.pli_coding.specs.Assembly.{JumpTo, RaiseError}
use Rattle.pli_coding.specs.Instructions.{small}
use Rattle.pli_coding.specs.Registers.{a1}
use Rattle.rv_meaning.specs.Words.{sum}
use Rattle.activation_relation.specs.Layers.{services_of}
use Rattle.activation_relation.specs.ServiceLaws.{IsSystem}
use Rattle.run_steps.specs.Bodies.{Known}
use Rattle.run_steps.proofs.Bodies.{zero_is}
use Rattle.run_steps.proofs.Items.{straight}
use Rattle.run_steps.proofs.Jumps.{back_of, front_of, jump_piece}
use Rattle.run_steps.specs.Engine.{Base}
use Rattle.run_steps.specs.Items.{At}
use Rattle.run_steps.specs.Reach.{Closed}
use Rattle.run_steps.proofs.Reach.{onward}
use Rattle.run_steps.specs.Temporaries.{nothing}
use Rattle.block_runs.proofs.PointGrounds.{known_in, point_frame, point_ground}
use Rattle.program_runs.specs.Statements.{Block}
use Rattle.program_runs.proofs.JumpsOut.{jumps_later}
use Rattle.expression_runs.proofs.Raises.{coded, error_comes}
use Rattle.expression_runs.specs.Values.{Setting}
use Rattle.element_runs.specs.Subscripts.{IsUncaught, SubscriptComes, error_aims}

pub error_closed :
    (k : Block) (labels : List Label) (acts : ℕ) → Closed k.call.code (error_aims k labels acts)
error_closed k labels acts =
    record {
      done = λ r z s o. absurd o;
      jumped = λ r height label s o. jumps_later r o;
      returned = λ r z s o. absurd o;
    }

small_is : (z n : ℕ) → z ≡ 0 → n < 2 ^ 32 → sum z n ≡ n
small_is z n e h = omega (arith, e, h)

pub subscripts_end : (k : Setting) → IsUncaught k → SubscriptComes k
subscripts_end k is p numbers c index f o line l paid there =
    let w = k.block.call.surroundings in
    let v = services_of p in
    let h = point_frame o.stands o.image in
    let g = point_ground w p h in
    let front = small a1 102 ∷ [] in
    let last = JumpTo RaiseError ∷ [] in
    let l1 = back_of front last l in
    let routines = is.routines in
    let far = routines.linked.inside in
    let near = routines.linked.small' in
    let most = is.most in
    let closed = error_closed k.block k.labels p.state.world.acts in
    let at : (b : Base) → At b index (Known g v numbers (λ j. 0) nothing b) (f b) = λ b. known_in h (there b) tt in
    let r = straight c f v v (λ b. Known g v numbers (λ j. 0) (coded 102) b) (front_of front last l) (omega arith)
    (λ b. (at b).pc)
    (λ b. let o' = (at b).holds in record {
      body = record {
        services = o'.body.services;
        registers = o'.body.registers;
        bytes = o'.body.bytes;
        memory = o'.body.memory;
      };
      regs = (small_is _ 102 (zero_is o'.body) (lit< tt), tt);
    }) in
    onward closed r (λ f1 at1.
    let q = jump_piece (c + 1) (c + 1 + 2) f1 RaiseError (routines.at + 8) (omega arith) is.place
    (omega (arith, far, near))
    (record { reserved_stay = λ y u. refl; known_stay = λ b y u n. n; set = λ y u. refl }) l1 at1 in
    onward closed q (λ f2 at2.
    error_comes closed routines (c + 1 + 2) f2 k.around 102 h (o.stands, o.image) (lit< tt)
    (omega (arith, paid, most), is.acts) line
    (subst (λ xs. IsSystem (force xs C.Error)) (sym o.later.activations) is.error) at2))
