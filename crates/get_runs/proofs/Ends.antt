-- ENDFILE where no unit is in force for it, nor for ERROR: the run ends.
use Rattle.std.proofs.Common.{◌≡◌, ℕ, ◌+◌, ◌<◌, List, [], ◌∷◌, sym, refl, subst, arith, lit<}
use Rattle.pli_language.specs.declared.condition.Condition.TheVariants as C
use Rattle.pli_meaning.specs.StorageState.{force}
use Rattle.pli_coding.specs.Assembly.{CallTo, RaiseCondition}
use Rattle.pli_coding.specs.Instructions.{small}
use Rattle.pli_coding.specs.Registers.{a0, a1}
use Rattle.activation_relation.specs.Layers.{services_of}
use Rattle.activation_relation.specs.ServiceLaws.{IsSystem}
use Rattle.run_steps.specs.Bodies.{Known}
use Rattle.run_steps.proofs.Bodies.{zero_is}
use Rattle.run_steps.proofs.Items.{straight}
use Rattle.run_steps.proofs.Jumps.{back_of, call_piece, front_of}
use Rattle.run_steps.specs.Reach.{Closed}
use Rattle.run_steps.proofs.Reach.{onward, reach_then}
use Rattle.run_steps.specs.Temporaries.{nothing}
use Rattle.block_runs.proofs.BlockEntries.{small_is}
use Rattle.block_runs.proofs.PointGrounds.{known_in, point_frame, point_ground}
use Rattle.program_runs.proofs.JumpsOut.{jumps_later}
use Rattle.expression_runs.specs.Values.{Setting}
use Rattle.expression_runs.proofs.Raises.{conditioned}
use Rattle.area_runs.proofs.Conditions.{condition_comes}
use Rattle.get_runs.specs.Gets.{EndfileComes, IsUnread, behind_aims}

pub behind_closed : (k : Setting) (acts index wanted : ℕ) → Closed k.block.call.code (behind_aims k acts index wanted)
behind_closed k acts index wanted =
    record {
      done = λ r x s o. record {
        goes = record {
          point = o.goes.point;
          numbers = o.goes.numbers;
          among = o.goes.among;
          since = o.goes.since;
          state = o.goes.state;
          reach = reach_then r o.goes.reach;
        };
        line = o.line;
      };
      jumped = λ r height label s o. jumps_later r o;
      returned = λ r x s o. absurd o;
    }

pub endfile_ends : (k : Setting) → IsUnread k → EndfileComes k
endfile_ends k is p numbers c index f o line l paid there =
    let w = k.block.call.surroundings in
    let code = k.block.call.code in
    let h = point_frame o.stands o.image in
    let g = point_ground w p h in
    let v = services_of p in
    let two = small a0 4 ∷ small a1 40 ∷ [] in
    let calls = CallTo RaiseCondition ∷ [] in
    let routines = is.routines in
    let inside = routines.linked.inside in
    let near = routines.linked.small' in
    let most = is.most in
    let closed = behind_closed k p.state.world.acts (index + 4) (c + 4) in
    let r1 = straight c f v v (λ b. Known g v numbers (λ j. 0) (conditioned 4 40) b) (front_of two calls l)
    (omega arith) (λ b. (there b).at.pc)
    (λ b. let o' = (known_in {t = λ j. 0} {rs = nothing} h (there b) tt).holds in let z = zero_is o'.body in record {
      body = record {
        services = o'.body.services;
        registers = o'.body.registers;
        bytes = o'.body.bytes;
        memory = o'.body.memory;
      };
      regs = (small_is _ 4 z (lit< tt), (small_is _ 40 z (lit< tt), tt));
    }) in
    onward closed r1 (λ f2 at2.
    let r2 = call_piece (c + 2) (c + 2 + 2) f2 RaiseCondition routines.at (omega arith)
    routines.condition (omega (arith, inside, near))
    (record { reserved_stay = λ y u. refl; known_stay = λ b y u q. q; set = λ y u. refl }) (back_of two calls l) at2 in
    onward closed r2 (λ f3 at3.
    condition_comes closed routines (c + 2 + 2) f3 k.around C.Endfile 4 40 h (o.stands, o.image) refl (lit< tt)
    (omega (arith, paid, most), is.acts) line (
      subst (λ xs. IsSystem (force xs C.Endfile)) (sym o.later.activations) is.endfile,
      subst (λ xs. IsSystem (force xs C.Error)) (sym o.later.activations) is.error,
    )
    (λ b. record {
      pc = (at3 b).pc;
      holds = record { body = (at3 b).holds.body; regs = (at3 b).holds.regs.1 };
    })))
