-- A function's list comes to its end by RETURN, or jumps out, or runs into the raise of ERROR behind it.
use Rattle.std.proofs.Common.{◌≡◌, ℕ, ◌≤◌, [], ◌++◌, Option, true, false, ap, sym, subst, arith, refl}
use Rattle.std.specs.Prelude.{◌&&◌, ◌==◌}
use Rattle.pli_language.specs.declared.condition.Condition.TheVariants as C
use Rattle.pli_typing.specs.TypedTree as Y
use Rattle.pli_meaning.specs.BasicValues.{BasicValue}
use Rattle.pli_meaning.specs.Codes.{no_value_code}
use Rattle.pli_meaning.specs.Control.{Label, Meaning, is_among}
use Rattle.pli_meaning.specs.Executing as M
use Rattle.pli_meaning.specs.Raising.{error}
use Rattle.pli_meaning.specs.StorageState.{State, force, newest_height}
use Rattle.pli_serving.specs.ServiceState.{Services}
use Rattle.pli_coding.specs.Environments.{none_taken}
use Rattle.pli_coding.specs.Procedures.{no_value}
use Rattle.pli_coding.specs.Statements.{stmts_code}
use Rattle.storage_relation.proofs.Holders.{eqb-other}
use Rattle.activation_relation.specs.Landing.{closed, either}
use Rattle.activation_relation.specs.Layers.{services_of}
use Rattle.activation_relation.specs.ServiceLaws.{IsSystem}
use Rattle.run_steps.proofs.Jumps.{back_of, front_of}
use Rattle.run_steps.specs.Reach.{Comes, Family, before}
use Rattle.run_steps.proofs.Reach.{comes_on, onward}
use Rattle.block_runs.specs.Bodies.{AtEnd}
use Rattle.block_runs.proofs.CallStatements.{comes_map}
use Rattle.block_runs.proofs.PointGrounds.{point_frame}
use Rattle.program_runs.specs.Calls.{left_over}
use Rattle.program_runs.specs.Statements.{AreMarked, Block, EachDoes, IsAmong, IsBegun, JumpsOut, ReturnsOut, ReturnsTo}
use Rattle.program_runs.specs.Statements.{statement_aims}
use Rattle.program_runs.proofs.JumpsOut.{outs_low, outs_since}
use Rattle.program_runs.proofs.ListEnds.{list_comes}
use Rattle.program_runs.proofs.Lists.{list_does}
use Rattle.program_runs.proofs.NewestBlocks.{newest_at, newest_own}
use Rattle.function_runs.proofs.NoValues.{value_lacks}
use Rattle.begin_runs.proofs.Begins.{out_of_all}
use Rattle.unit_runs.specs.Changing.{AllDo, IsPast, Past, after, past_aims, past_point}
use Rattle.unit_runs.proofs.Changing.{changing_past}
use Rattle.jump_runs.specs.Exits.{exit_aims}
use Rattle.jump_runs.specs.Functions.{EndDoes, FunctionDoes, IsFunctionList, behind_list}
use Rattle.jump_runs.proofs.Exits.{exit_closed}

own_return :
    {k : Block} {left' c : ℕ} {f : Family} {v : Services} {r : Option BasicValue} {s : State} (body : Y.Stmts)
    (index : ℕ) → IsFunctionList k body index → ReturnsTo k left' c f v r s → AtEnd k.call left' c f v r s
own_return {k} {left'} {c} {f} {v} {r} {s} body index z o =
    subst (λ q. either q (ReturnsOut k.call.surroundings k.call.code k.outers left' c f v r (closed s))
    (AtEnd k.call left' c f v r s)) z.kind o.to

-- since fewer acts
exits_since :
    (k : Block) (acts more c : ℕ) (f : Family) (v : Services) (flow : _) → acts ≤ more →
    Comes k.call.code c f v (exit_aims k more left_over) flow →
    Comes k.call.code c f v (exit_aims k acts left_over) flow
exits_since k acts more c f v flow few o =
    comes_map (exit_aims k more left_over) (exit_aims k acts left_over) refl flow
    (λ c' f' v' r s q. q)
    (λ c' f' v' height label s q.
    outs_since k.call.surroundings k.call.code k.outers acts more c' f' v' height label (closed s) few q)
    (λ c' f' v' r s q. q)
    o

-- a label of a block further out is none of the list's
elsewhere :
    (k : Block) (body : Y.Stmts) (acts c : ℕ) (f : Family) (v : Services) → IsBegun k →
    IsAmong k k.call.numbers k.first → (height : ℕ) (label : Label) (s : State) →
    JumpsOut k.call.surroundings k.call.code k.outers acts c f v height label (closed s) →
    (height == newest_height k.first.state.activations) && is_among label (M.labels_in body) ≡ false
elsewhere k body acts c f v b o height label s out =
    let w = k.call.surroundings in
    let low = outs_low w k.call.code k.outers k.call.point acts c f v height label (closed s) b.outer out in
    let same = newest_own (newest_at b o) in
    ap (λ t. t && is_among label (M.labels_in body))
    (eqb-other height (newest_height k.first.state.activations) (omega (arith, low, same)))

pub system_ends :
    (k : Block) (body : Y.Stmts) (index : ℕ) (past : Past) → IsFunctionList k body index →
    IsSystem (force (past_point past k.first).state.activations C.Error) →
    EndDoes (after k past) (behind_list k body index)
system_ends k body index past z only p numbers f o there =
    let list' = stmts_code k.environment none_taken body in
    let l = back_of list' (no_value k.around.line) z.linked in
    let inside = l.inside in
    value_lacks (exit_closed k p.state.world.acts left_over) z.routines k.around 0 f (point_frame o.stands o.image)
    (o.stands, o.image) z.line (omega (arith, inside), z.acts) z.raises
    (subst (λ xs. IsSystem (force xs C.Error)) (sym o.later.activations) only) l there

pub each_ends :
    (k : Block) (body : Y.Stmts) (index : ℕ) → IsFunctionList k body index →
    AreMarked k.call.surroundings.links k.environment body index →
    EachDoes k (M.labels_in body ++ []) body index left_over → EndDoes k (behind_list k body index) →
    FunctionDoes k body index
each_ends k body index z marks each ends f there =
    let w = k.call.surroundings in
    let code = k.call.code in
    let acts = k.call.point.state.world.acts in
    let first = k.first.state.world.acts in
    let flow = M.list k.around body w.acts k.first.state in
    let next' : Unit {0} → Meaning (Unit {0}) = λ u. error k.around no_value_code in
    let aims = exit_aims k acts left_over in
    let l = front_of (stmts_code k.environment none_taken body) (no_value k.around.line) z.linked in
    let inside = l.inside in
    let called = z.called in
    list_comes k.around body w.acts k.first.state (elsewhere k body acts 0 f (services_of k.first) z.begun z.among)
    (comes_on w.acts flow next'
    (comes_map (statement_aims k [] first (behind_list k body index) 0 left_over)
    (before code aims w.acts next') refl flow
    (λ c' f' v' r s q.
    let since = q.since in
    subst (λ u. Comes code c' f' v' aims (error k.around no_value_code w.acts u)) (sym q.state)
    (onward (exit_closed k acts left_over) q.reach
    (λ g at.
    exits_since k acts q.point.state.world.acts 0 g (services_of q.point)
    (error k.around no_value_code w.acts q.point.state) (omega (arith, called, since))
    (ends q.point q.numbers g q.among at))))
    (λ c' f' v' height label s q.
    outs_since w code k.outers acts first c' f' v' height label (closed s) called (out_of_all q))
    (λ c' f' v' r s q. own_return body index z q)
    (list_does k [] body index left_over k.first k.call.numbers 0 0 f z.begun z.enough each marks z.among l
    (omega arith, omega (arith, inside)) there)))

pub all_ends :
    (k : Block) (body : Y.Stmts) (index : ℕ) → IsFunctionList k body index →
    AreMarked k.call.surroundings.links k.environment body index → AllDo k body index body index left_over →
    ((past : Past) → IsPast k body index past → EndDoes (after k past) (behind_list k body index)) →
    FunctionDoes k body index
all_ends k body index z marks all ends f there =
    let w = k.call.surroundings in
    let code = k.call.code in
    let acts = k.call.point.state.world.acts in
    let first = k.first.state.world.acts in
    let flow = M.list k.around body w.acts k.first.state in
    let next' : Unit {0} → Meaning (Unit {0}) = λ u. error k.around no_value_code in
    let aims = exit_aims k acts left_over in
    let l = front_of (stmts_code k.environment none_taken body) (no_value k.around.line) z.linked in
    let inside = l.inside in
    let called = z.called in
    list_comes k.around body w.acts k.first.state (elsewhere k body acts 0 f (services_of k.first) z.begun z.among)
    (comes_on w.acts flow next'
    (comes_map (past_aims k body index first (behind_list k body index) 0 left_over) (before code aims w.acts next')
    refl
    flow
    (λ c' f' v' r s q.
    let o = q.goes in
    let since = o.since in
    subst (λ u. Comes code c' f' v' aims (error k.around no_value_code w.acts u)) (sym o.state)
    (onward (exit_closed k acts left_over) o.reach
    (λ g at.
    exits_since k acts o.point.state.world.acts 0 g (services_of o.point)
    (error k.around no_value_code w.acts o.point.state) (omega (arith, called, since))
    (ends q.past q.known o.point o.numbers g o.among at))))
    (λ c' f' v' height label s q.
    outs_since w code k.outers acts first c' f' v' height label (closed s) called q)
    (λ c' f' v' r s q. own_return body index z q)
    (changing_past k body index 0 left_over 0 k.first k.call.numbers f z.begun z.enough marks all z.among l
    (omega arith, omega (arith, inside)) there)))
