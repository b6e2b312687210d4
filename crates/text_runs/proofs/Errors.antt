-- ERROR where no unit of the program is in force for it, raised by a service's status while texts wait.
use Rattle.std.proofs.Common.{ℕ, ◌+◌, refl, sym, subst, arith}
use Rattle.pli_language.specs.declared.condition.Condition.TheVariants as C
use Rattle.pli_meaning.specs.StorageState.{force}
use Rattle.pli_coding.specs.Assembly.{RaiseError}
use Rattle.activation_relation.specs.ServiceLaws.{IsSystem}
use Rattle.run_steps.specs.Reach.{Closed}
use Rattle.run_steps.proofs.Jumps.{jump_piece}
use Rattle.run_steps.proofs.Reach.{onward}
use Rattle.block_runs.proofs.PointGrounds.{known_in, point_frame}
use Rattle.program_runs.proofs.JumpsOut.{jumps_later}
use Rattle.expression_runs.specs.Values.{Setting}
use Rattle.expression_runs.proofs.Raises.{coded, error_comes}
use Rattle.text_runs.specs.Texts.{ErrorComes, IsErrorless, error_aims}

error_closed : (X : Type 0) (k : Setting) (acts : ℕ) → Closed k.block.call.code (error_aims X k acts)
error_closed X k acts =
    record {
      done = λ r z s o. absurd o;
      jumped = λ r height label s o. jumps_later r o;
      returned = λ r z s o. absurd o;
    }

pub error_ends : (X : Type 0) (k : Setting) → IsErrorless k → ErrorComes X k
error_ends X k is entries p numbers c index code' f o line small' l paid there =
    let h = point_frame o.stands o.image in
    let inside = is.routines.linked.inside in
    let near = is.routines.linked.small' in
    let most = is.most in
    let closed = error_closed X k p.state.world.acts in
    let r = jump_piece {t = λ j. 0} {rs = coded code'} c (c + 2) f RaiseError (is.routines.at + 8) (omega arith)
    is.raises (omega (arith, inside, near))
    (record { reserved_stay = λ y u. refl; known_stay = λ b y u q. q; set = λ y u. refl }) l
    (λ b. known_in h (there b).0 ((there b).1, tt)) in
    onward closed r (λ g at.
    error_comes closed is.routines (c + 2) g k.around code' h (o.stands, o.image) small'.1
    (omega (arith, paid, most), is.acts) line
    (subst (λ xs. IsSystem (force xs C.Error)) (sym o.later.activations) is.error) at)
