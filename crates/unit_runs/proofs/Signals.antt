-- SIGNAL does what it means: its act, and the raise.
use Rattle.std.proofs.Common.{◌≡◌, ℕ, ◌+◌, ◌^◌, ◌<◌, List, ◌++◌, refl, sym, ap, subst, arith}
use Rattle.pli_language.specs.declared.condition.Condition.{Condition}
use Rattle.pli_language.specs.declared.condition.Condition.TheVariants as C
use Rattle.pli_meaning.specs.Codes.{code_signalled}
use Rattle.pli_meaning.specs.Control.{Label, Meaning, act, ◌>>◌}
use Rattle.pli_meaning.specs.Executing as M
use Rattle.pli_meaning.specs.Raising as R
use Rattle.pli_meaning.specs.Raising.{Around, at_line}
use Rattle.pli_meaning.specs.StorageState.{State}
use Rattle.pli_meaning.specs.World.{counted}
use Rattle.pli_coding.specs.Allocating.{act_code}
use Rattle.pli_coding.specs.Arithmetic as A
use Rattle.pli_coding.specs.Assembly.{size_of}
use Rattle.pli_coding.specs.Statements.{signal_code}
use Rattle.activation_relation.specs.Layers.{services_of}
use Rattle.run_steps.specs.Items.{Linked}
use Rattle.run_steps.proofs.Jumps.{back_of, front_of}
use Rattle.run_steps.proofs.Linking.{size_append}
use Rattle.run_steps.specs.Reach.{Comes}
use Rattle.run_steps.proofs.Reach.{before_closed, comes_on, reach_map}
use Rattle.block_runs.specs.Machines.{IsIn, acted}
use Rattle.block_runs.proofs.CallStatements.{comes_map}
use Rattle.block_runs.proofs.PointActs.{act_comes}
use Rattle.program_runs.specs.Statements.{Block, Does, size_in, statement_aims}
use Rattle.program_runs.proofs.JumpsOut.{jumps_since}
use Rattle.program_runs.proofs.Statements.{acted_among, statement_closed}
use Rattle.expression_runs.specs.Assignments.{setting_of}
use Rattle.unit_runs.specs.Raised.{IsRaised, Standing, UnitDoes, raise_aims}
use Rattle.unit_runs.specs.Signals.{IsResumed, IsSignal, signal_of}
use Rattle.unit_runs.proofs.UnitRuns.{raise_returns}

-- ---- of each condition but ERROR

signal_coded : (c : Condition) → IsResumed c → signal_code c ≡ A.raised c (code_signalled c)
signal_coded C.Area h = refl
signal_coded C.FixedOverflow h = refl
signal_coded C.ZeroDivide h = refl
signal_coded C.Endfile h = refl
signal_coded C.Error h = absurd h

signal_means :
    (around : Around) (c : Condition) (k : ℕ) (s : State) → IsResumed c →
    M.signalled around c k s ≡ R.raised around c (code_signalled c) k s
unfolding M.signalled
signal_means around C.Area k s h = refl
signal_means around C.FixedOverflow k s h = refl
signal_means around C.ZeroDivide k s h = refl
signal_means around C.Endfile k s h = refl
signal_means around C.Error k s h = absurd h

codes_are : (c : Condition) → IsResumed c → (0 < code_signalled c) × (code_signalled c < 2 ^ 16)
codes_are C.Area h = (omega arith, omega arith)
codes_are C.FixedOverflow h = (omega arith, omega arith)
codes_are C.ZeroDivide h = (omega arith, omega arith)
codes_are C.Endfile h = (omega arith, omega arith)
codes_are C.Error h = absurd h

-- ---- the statement

pub signal_does :
    (k : Block) (labels : List Label) (x : Standing) (line index left' most more : ℕ) → IsSignal k x line index most →
    (h : IsRaised (setting_of k labels line most) x more) → UnitDoes (setting_of k labels line most) x more h →
    Does k labels (signal_of x line) index left'
unfolding M.statement ◌>>◌
signal_does k labels x line index left' most more z h does p numbers c wanted f o paid there =
    let w = k.call.surroundings in
    let condition = x.unit.condition in
    let n = code_signalled condition in
    let setting = setting_of k labels line most in
    let one = act_code line in
    let raise' = A.raised condition n in
    let e = ap (λ u. one ++ u) (signal_coded condition z.resumed) in
    let l = subst (Linked w.links k.call.code index) e z.statement in
    let n0 = ap (λ u. size_of u) e in
    let n1 = size_append one raise' in
    let enough = z.paid in
    let acts = p.state.world.acts in
    let end = index + size_in k (signal_of x line) in
    let closed = statement_closed k labels acts end wanted left' in
    let next' : Unit {0} → Meaning (Unit {0}) = λ u. M.signalled (at_line k.around line) condition in
    comes_on w.acts (act counted w.acts p.state) next'
    (act_comes (before_closed w.acts next' closed) line c 0 f (o.stands, o.image)
    (z.act.line_fits, z.act.acts, omega (arith, paid, n0, n1)) (front_of one raise' l) there
    (λ g less at.
    let p' = acted line p in
    let o' = acted_among line o less in
    let i = index + size_of one in
    subst (Comes k.call.code 0 g (services_of p') (statement_aims k labels acts end wanted left'))
    (sym (signal_means (at_line k.around line) condition w.acts p'.state z.resumed))
    (comes_map (raise_aims setting p' numbers (i + size_of raise') wanted)
    (statement_aims k labels acts end wanted left') refl (R.raised (at_line k.around line) condition n w.acts p'.state)
    (λ c' f' v' r s q.
    let since = q.since in
    record {
      point = q.point;
      numbers = numbers;
      among = q.among;
      since = omega (arith, since);
      state = q.state;
      reach = reach_map _ q.reach
          (λ b y is. subst (λ j. IsIn w q.point numbers j b y) (omega (arith, n0, n1)) is);
    })
    (λ c' f' v' height label s q. jumps_since (omega arith) q)
    (λ c' f' v' r s q. absurd q)
    (raise_returns setting x more h does n (codes_are condition z.resumed) p' numbers 0 wanted i g o' refl
    (back_of one raise' l) (omega (arith, enough, n0, n1)) at))))
