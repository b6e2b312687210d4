-- SIGNAL comes to what its raise does: where no unit is in force that ends the run.
use Rattle.std.proofs.Common.{◌≡◌, ℕ, ◌+◌, ◌*◌, ◌^◌, ◌<◌, ◌≤◌, List, [], ◌∷◌, ◌++◌, false, refl, sym, ap, subst, arith}
use Rattle.std.proofs.Common.{◌∙◌, lit<}
use Rattle.pli_language.specs.declared.condition.Condition.{Condition}
use Rattle.pli_language.specs.declared.condition.Condition.TheVariants as C
use Rattle.pli_typing.specs.TypedTree as Y
use Rattle.pli_meaning.specs.Codes.{code_signalled}
use Rattle.pli_meaning.specs.Control.{Label, Meaning, act, ◌>>◌}
use Rattle.pli_meaning.specs.Executing as M
use Rattle.pli_meaning.specs.Raising as R
use Rattle.pli_meaning.specs.Raising.{Around, at_line}
use Rattle.pli_meaning.specs.StorageState.{State, force}
use Rattle.pli_meaning.specs.World.{counted}
use Rattle.pli_coding.specs.Allocating.{act_code}
use Rattle.pli_coding.specs.Arithmetic as A
use Rattle.pli_coding.specs.Arithmetic.{condition_number}
use Rattle.pli_coding.specs.Assembly.{CallTo, JumpTo, RaiseCondition, RaiseError, size_of}
use Rattle.pli_coding.specs.Environments.{none_taken}
use Rattle.pli_coding.specs.Instructions.{small}
use Rattle.pli_coding.specs.Registers.{a0, a1}
use Rattle.pli_coding.specs.Statements.{signal_code, stmt_code}
use Rattle.activation_relation.specs.Layers.{Point, services_of}
use Rattle.activation_relation.specs.ServiceLaws.{IsSystem}
use Rattle.run_steps.specs.Bodies.{Known}
use Rattle.run_steps.proofs.Bodies.{zero_is}
use Rattle.run_steps.specs.Items.{Linked}
use Rattle.run_steps.proofs.Items.{straight}
use Rattle.run_steps.proofs.Jumps.{back_of, call_piece, front_of, jump_piece}
use Rattle.run_steps.proofs.Linking.{size_append}
use Rattle.run_steps.specs.Reach.{Aims, Closed, Comes, Family, cost}
use Rattle.run_steps.proofs.Reach.{before_closed, comes_on, onward, reach_map}
use Rattle.run_steps.specs.Temporaries.{nothing}
use Rattle.block_runs.specs.Machines.{AreIn, IsIn, acted}
use Rattle.block_runs.proofs.BlockEntries.{small_is}
use Rattle.block_runs.proofs.CallStatements.{comes_map}
use Rattle.block_runs.proofs.PointActs.{act_comes}
use Rattle.block_runs.proofs.PointGrounds.{known_in, point_frame, point_ground}
use Rattle.program_runs.specs.Statements.{Block, Does, HasAct, IsAmong, size_in, statement_aims}
use Rattle.program_runs.proofs.JumpsOut.{jumps_since}
use Rattle.program_runs.proofs.Statements.{acted_among, statement_closed}
use Rattle.expression_runs.specs.Assignments.{setting_of}
use Rattle.expression_runs.proofs.Raises.{coded, conditioned, error_comes}
use Rattle.area_runs.proofs.Conditions.{condition_comes}
use Rattle.unit_runs.specs.Raised.{IsRaisedAt, Standing, raise_aims}
use Rattle.unit_runs.specs.Signals.{IsResumed, IsSignal, signal_of}
use Rattle.unit_runs.proofs.DeepRaises.{deep_raise_ends}
use Rattle.unit_runs.proofs.Establishing.{condition_is, number_small}
use Rattle.unit_runs.proofs.UnitRuns.{RaisesTo}
use Rattle.phase_runs.specs.Signals.{IsSignalled, SignalsEnd}

-- ---- of each condition but ERROR

signal_coded : (c : Condition) → IsResumed c → signal_code c ≡ A.raised c (code_signalled c)
signal_coded C.Area h = refl
signal_coded C.FixedOverflow h = refl
signal_coded C.ZeroDivide h = refl
signal_coded C.Endfile h = refl
signal_coded C.Error h = absurd h

signal_means :
    (around : Around) (c : Condition) (k : ℕ) (s : State) → IsResumed c →
    M.signalled around c k s ≡ R.raised around c (code_signalled c) k s
unfolding M.signalled
signal_means around C.Area k s h = refl
signal_means around C.FixedOverflow k s h = refl
signal_means around C.ZeroDivide k s h = refl
signal_means around C.Endfile k s h = refl
signal_means around C.Error k s h = absurd h

pub codes_are : (c : Condition) → (0 < code_signalled c) × (code_signalled c < 2 ^ 16)
codes_are C.Area = (omega arith, omega arith)
codes_are C.FixedOverflow = (omega arith, omega arith)
codes_are C.ZeroDivide = (omega arith, omega arith)
codes_are C.Endfile = (omega arith, omega arith)
codes_are C.Error = (omega arith, omega arith)

-- where it stands, and that one act pays for it and what its raise needs
pub record Signalling (k : Block) (c : Condition) (line index most : ℕ) : Type 0 where
  pub act : HasAct k line
  pub resumed : IsResumed c
  pub statement :
      Linked k.call.surroundings.links k.call.code index (stmt_code k.environment none_taken (Y.Signal c line))
  pub paid : size_in k (Y.Signal c line) + most ≤ cost k.call.code

pub signal_by :
    (k : Block) (labels : List Label) (c : Condition) (line index left' most : ℕ) → Signalling k c line index most →
    RaisesTo (setting_of k labels line most) c (code_signalled c) → Does k labels (Y.Signal c line) index left'
unfolding M.statement ◌>>◌
signal_by k labels c line index left' most z raises p numbers credits wanted f o paid there =
    let w = k.call.surroundings in
    let n = code_signalled c in
    let setting = setting_of k labels line most in
    let one = act_code line in
    let raise' = A.raised c n in
    let e = ap (λ u. one ++ u) (signal_coded c z.resumed) in
    let l = subst (Linked w.links k.call.code index) e z.statement in
    let n0 = ap (λ u. size_of u) e in
    let n1 = size_append one raise' in
    let enough = z.paid in
    let acts = p.state.world.acts in
    let end = index + size_in k (Y.Signal c line) in
    let closed = statement_closed k labels acts end wanted left' in
    let next' : Unit {0} → Meaning (Unit {0}) = λ u. M.signalled (at_line k.around line) c in
    comes_on w.acts (act counted w.acts p.state) next'
    (act_comes (before_closed w.acts next' closed) line credits 0 f (o.stands, o.image)
    (z.act.line_fits, z.act.acts, omega (arith, paid, n0, n1)) (front_of one raise' l) there
    (λ g less at.
    let p' = acted line p in
    let o' = acted_among line o less in
    let i = index + size_of one in
    subst (Comes k.call.code 0 g (services_of p') (statement_aims k labels acts end wanted left'))
    (sym (signal_means (at_line k.around line) c w.acts p'.state z.resumed))
    (comes_map (raise_aims setting p' numbers (i + size_of raise') wanted)
    (statement_aims k labels acts end wanted left') refl (R.raised (at_line k.around line) c n w.acts p'.state)
    (λ c' f' v' r s q.
    let since = q.since in
    record {
      point = q.point;
      numbers = numbers;
      among = q.among;
      since = omega (arith, since);
      state = q.state;
      reach = reach_map _ q.reach
          (λ b y is. subst (λ j. IsIn w q.point numbers j b y) (omega (arith, n0, n1)) is);
    })
    (λ c' f' v' height label s q. jumps_since (omega arith) q)
    (λ c' f' v' r s q. absurd q)
    (raises p' numbers 0 wanted i g o' refl (back_of one raise' l) (omega (arith, enough, n0, n1)) at))))

-- ---- where no unit is in force

raised_ends :
    (k : Block) (labels : List Label) (c : Condition) (line index left' : ℕ) → IsResumed c →
    IsSignalled k c line index → IsSystem (force k.first.state.activations c) →
    IsSystem (force k.first.state.activations C.Error) → Does k labels (Y.Signal c line) index left'
unfolding M.statement ◌>>◌
raised_ends k labels c line index left' resumed z only error p numbers credits wanted f o paid there =
    let w = k.call.surroundings in
    let code = k.call.code in
    let n = code_signalled c in
    let number = condition_number c in
    let one = act_code line in
    let raise' = A.raised c n in
    let e = ap (λ u. one ++ u) (signal_coded c resumed) in
    let l = subst (Linked w.links code index) e z.statement in
    let n0 = ap (λ u. size_of u) e in
    let n1 = size_append one raise' in
    let enough = z.paid in
    let acts = p.state.world.acts in
    let end = index + size_in k (Y.Signal c line) in
    let closed = statement_closed k labels acts end wanted left' in
    let next' : Unit {0} → Meaning (Unit {0}) = λ u. M.signalled (at_line k.around line) c in
    let routines = z.routines in
    let inside = routines.linked.inside in
    let near = routines.linked.small' in
    let two = small a0 number ∷ small a1 n ∷ [] in
    let calls = CallTo RaiseCondition ∷ [] in
    comes_on w.acts (act counted w.acts p.state) next'
    (act_comes (before_closed w.acts next' closed) line credits 0 f (o.stands, o.image)
    (z.act.line_fits, z.act.acts, omega (arith, paid, n0, n1)) (front_of one raise' l) there
    (λ g less at.
    let p' = acted line p in
    let o' = acted_among line o less in
    let h = point_frame o'.stands o'.image in
    let v = services_of p' in
    let l2 = back_of one raise' l in
    let small' = (codes_are c).1 in
    subst (Comes code 0 g v (statement_aims k labels acts end wanted left'))
    (sym (signal_means (at_line k.around line) c w.acts p'.state resumed))
    (onward closed
    (straight 0 g v v (λ b. Known (point_ground w p' h) v numbers (λ j. 0) (conditioned number n) b)
    (front_of two calls l2) (omega arith) (λ b. (known_in {t = λ j. 0} {rs = nothing} h (at b) tt).pc)
    (λ b. let q = (known_in {t = λ j. 0} {rs = nothing} h (at b) tt).holds in record {
      body = record {
        services = q.body.services;
        registers = q.body.registers;
        bytes = q.body.bytes;
        memory = q.body.memory;
      };
      regs = (
        small_is _ number (zero_is q.body) (number_small c),
        (small_is _ n (zero_is q.body) (omega (arith, small')), tt),
      );
    }))
    (λ f1 at1.
    onward closed
    (call_piece (0 + 2) (0 + 2 + 2) f1 RaiseCondition routines.at (omega arith) routines.condition
    (omega (arith, inside, near))
    (record { reserved_stay = λ y u. refl; known_stay = λ b y u q. q; set = λ y u. refl }) (back_of two calls l2) at1)
    (λ f2 at2.
    condition_comes closed routines (0 + 2 + 2) f2 (at_line k.around line) c number n h (o'.stands, o'.image)
    (condition_is c) small' (omega (arith, enough), z.act.acts) refl (
      subst (λ xs. IsSystem (force xs c)) (sym o'.later.activations) only,
      subst (λ xs. IsSystem (force xs C.Error)) (sym o'.later.activations) error,
    )
    (λ b. record {
      pc = (at2 b).pc;
      holds = record { body = (at2 b).holds.body; regs = (at2 b).holds.regs.1 };
    }))))))

-- ERROR itself
error_signalled :
    (k : Block) (labels : List Label) (line index left' : ℕ) → IsSignalled k C.Error line index →
    IsSystem (force k.first.state.activations C.Error) → Does k labels (Y.Signal C.Error line) index left'
unfolding M.statement M.signalled ◌>>◌
error_signalled k labels line index left' z error p numbers credits wanted f o paid there =
    let w = k.call.surroundings in
    let code = k.call.code in
    let n = code_signalled C.Error in
    let one = act_code line in
    let first = small a1 n ∷ [] in
    let jump = JumpTo RaiseError ∷ [] in
    let n1 = size_append one (first ++ jump) in
    let enough = z.paid in
    let acts = p.state.world.acts in
    let end = index + size_in k (Y.Signal C.Error line) in
    let closed = statement_closed k labels acts end wanted left' in
    let next' : Unit {0} → Meaning (Unit {0}) = λ u. M.signalled (at_line k.around line) C.Error in
    let routines = z.routines in
    let inside = routines.linked.inside in
    let near = routines.linked.small' in
    comes_on w.acts (act counted w.acts p.state) next'
    (act_comes (before_closed w.acts next' closed) line credits 0 f (o.stands, o.image)
    (z.act.line_fits, z.act.acts, omega (arith, paid, n1)) (front_of one (first ++ jump) z.statement) there
    (λ g less at.
    let p' = acted line p in
    let o' = acted_among line o less in
    let h = point_frame o'.stands o'.image in
    let v = services_of p' in
    let l2 = back_of one (first ++ jump) z.statement in
    onward closed
    (straight 0 g v v (λ b. Known (point_ground w p' h) v numbers (λ j. 0) (coded n) b) (front_of first jump l2)
    (omega arith) (λ b. (known_in {t = λ j. 0} {rs = nothing} h (at b) tt).pc)
    (λ b. let q = (known_in {t = λ j. 0} {rs = nothing} h (at b) tt).holds in record {
      body = record {
        services = q.body.services;
        registers = q.body.registers;
        bytes = q.body.bytes;
        memory = q.body.memory;
      };
      regs = (small_is _ n (zero_is q.body) (omega arith), tt);
    }))
    (λ f1 at1.
    onward closed
    (jump_piece {t = λ j. 0} {rs = coded n} (0 + 1) (0 + 1 + 2) f1 RaiseError (routines.at + 8) (omega arith) z.place
    (omega (arith, inside, near))
    (record { reserved_stay = λ y u. refl; known_stay = λ b y u q. q; set = λ y u. refl }) (back_of first jump l2) at1)
    (λ f2 at2.
    error_comes closed routines (0 + 1 + 2) f2 (at_line k.around line) n h (o'.stands, o'.image) (codes_are C.Error).1
    (omega (arith, enough), z.act.acts) refl
    (subst (λ xs. IsSystem (force xs C.Error)) (sym o'.later.activations) error) at2))))

pub signal_ends :
    (k : Block) (labels : List Label) (c : Condition) (line index left' : ℕ) → IsSignalled k c line index →
    IsSystem (force k.first.state.activations c) → IsSystem (force k.first.state.activations C.Error) →
    Does k labels (Y.Signal c line) index left'
signal_ends k labels C.Area line index left' z only error = raised_ends k labels C.Area line index left' tt z only error
signal_ends k labels C.FixedOverflow line index left' z only error =
    raised_ends k labels C.FixedOverflow line index left' tt z only error
signal_ends k labels C.ZeroDivide line index left' z only error =
    raised_ends k labels C.ZeroDivide line index left' tt z only error
signal_ends k labels C.Endfile line index left' z only error =
    raised_ends k labels C.Endfile line index left' tt z only error
signal_ends k labels C.Error line index left' z only error = error_signalled k labels line index left' z error

-- ---- where one is, but no block more may be active

pub deep_signal :
    (k : Block) (labels : List Label) (x : Standing) (line index left' most more : ℕ) →
    IsSignal k x line index most → IsRaisedAt false (setting_of k labels line most) x more →
    Does k labels (signal_of x line) index left'
deep_signal k labels x line index left' most more z h =
    signal_by k labels x.unit.condition line index left' most
    (record { act = z.act; resumed = z.resumed; statement = z.statement; paid = z.paid })
    (λ p numbers credits wanted i f o same l paid there.
    deep_raise_ends (setting_of k labels line most) x more h (code_signalled x.unit.condition)
    (codes_are x.unit.condition) p numbers credits wanted i f o l paid there)

pub signals_end : SignalsEnd
signals_end = record { system = signal_ends; deep = deep_signal }
