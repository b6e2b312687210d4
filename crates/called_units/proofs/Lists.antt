-- A list through phases comes to its end in some phase, or it is left.
use Rattle.std.proofs.Common.{◌≡◌, ℕ, ◌≤◌, List, [], ◌++◌, Option, false, refl, sym, ap, subst, arith}
use Rattle.std.specs.Prelude.{◌&&◌, ◌==◌}
use Rattle.pli_typing.specs.TypedTree as Y
use Rattle.pli_meaning.specs.BasicValues.{BasicValue}
use Rattle.pli_meaning.specs.Codes.{no_value_code}
use Rattle.pli_meaning.specs.Control.{Label, Meaning, is_among}
use Rattle.pli_meaning.specs.Executing as M
use Rattle.pli_meaning.specs.Raising.{error}
use Rattle.pli_meaning.specs.StorageState.{State, newest_height}
use Rattle.pli_serving.specs.ServiceState.{Services}
use Rattle.pli_coding.specs.Environments.{none_taken}
use Rattle.pli_coding.specs.Procedures.{no_value}
use Rattle.pli_coding.specs.Statements.{stmts_code}
use Rattle.storage_relation.proofs.Holders.{eqb-other}
use Rattle.activation_relation.specs.Landing.{closed, either}
use Rattle.activation_relation.specs.Layers.{Point, services_of}
use Rattle.run_steps.specs.Items.{Linked}
use Rattle.run_steps.proofs.Jumps.{front_of}
use Rattle.run_steps.specs.Reach.{Comes, Family, before}
use Rattle.run_steps.proofs.Reach.{comes_on, onward}
use Rattle.block_runs.specs.Bodies.{AtEnd}
use Rattle.block_runs.proofs.CallStatements.{comes_map}
use Rattle.program_runs.specs.Calls.{left_over}
use Rattle.program_runs.specs.Statements.{Block, IsAmong, IsBegun, JumpsOut, ReturnsOut, ReturnsTo}
use Rattle.program_runs.proofs.JumpsOut.{outs_low, outs_since}
use Rattle.program_runs.proofs.ListEnds.{list_comes}
use Rattle.program_runs.proofs.NewestBlocks.{newest_at, newest_own}
use Rattle.begin_runs.specs.BehindLists.{list_aims}
use Rattle.begin_runs.proofs.Begins.{out_of_all}
use Rattle.unit_runs.specs.Establishing.{OnUnit}
use Rattle.unit_runs.specs.InnerLists.{ListDoes}
use Rattle.jump_runs.specs.Exits.{exit_aims}
use Rattle.jump_runs.specs.Functions.{EndDoes, FunctionDoes, IsFunctionList, behind_list}
use Rattle.jump_runs.proofs.Exits.{exit_closed}
use Rattle.phase_runs.specs.Forms.{IsInside}
use Rattle.phase_runs.specs.Phases.{EachThrough, in_phase, phase_aims}
use Rattle.phase_runs.specs.Units.{phases_of}
use Rattle.phase_runs.proofs.Lists.{list_through}
use Rattle.phase_runs.proofs.Units.{phases_change}
use Rattle.called_units.specs.Lists.{ListsEnd}

list_ends :
    (k : Block) (ons : List (OnUnit × ℕ)) (body : Y.Stmts) (index left' : ℕ) →
    IsInside 0 k (phases_of k ons) body index →
    EachThrough 0 k (phases_of k ons) (M.labels_in body ++ []) body index left' →
    Linked k.call.surroundings.links k.call.code index (stmts_code k.environment none_taken body) →
    ListDoes k body index left'
list_ends k ons body index left' z each l p numbers c wanted f o fits there =
    let end = behind_list k body index in
    let acts = p.state.world.acts in
    comes_map (phase_aims k (phases_of k ons) [] acts end wanted left') (list_aims k acts end wanted left') refl
    (M.list k.around body k.call.surroundings.acts p.state)
    (λ c' f' v' r s q. record { first = q.first; begun = z.begun q.first q.is; goes = q.holds })
    (λ c' f' v' height label s q. out_of_all q.holds)
    (λ c' f' v' r s q. record { to = q.holds.to })
    (list_through 0 k (phases_of k ons) [] body index left' z each l k.first (phases_change k ons).first p numbers c
    wanted f o fits there)

-- ---- a function's

pub own_return :
    {k : Block} {left' c : ℕ} {f : Family} {v : Services} {r : Option BasicValue} {s : State} (body : Y.Stmts)
    (index : ℕ) → IsFunctionList k body index → ReturnsTo k left' c f v r s → AtEnd k.call left' c f v r s
own_return {k} {left'} {c} {f} {v} {r} {s} body index z o =
    subst (λ q. either q (ReturnsOut k.call.surroundings k.call.code k.outers left' c f v r (closed s))
    (AtEnd k.call left' c f v r s)) z.kind o.to

-- since fewer acts
exits_since :
    (k : Block) (acts more c : ℕ) (f : Family) (v : Services) (flow : _) → acts ≤ more →
    Comes k.call.code c f v (exit_aims k more left_over) flow →
    Comes k.call.code c f v (exit_aims k acts left_over) flow
exits_since k acts more c f v flow few o =
    comes_map (exit_aims k more left_over) (exit_aims k acts left_over) refl flow
    (λ c' f' v' r s q. q)
    (λ c' f' v' height label s q.
    outs_since k.call.surroundings k.call.code k.outers acts more c' f' v' height label (closed s) few q)
    (λ c' f' v' r s q. q)
    o

-- a label of a block further out is none of the list's
elsewhere :
    (k : Block) (body : Y.Stmts) (acts c : ℕ) (f : Family) (v : Services) → IsBegun k →
    IsAmong k k.call.numbers k.first → (height : ℕ) (label : Label) (s : State) →
    JumpsOut k.call.surroundings k.call.code k.outers acts c f v height label (closed s) →
    (height == newest_height k.first.state.activations) && is_among label (M.labels_in body) ≡ false
elsewhere k body acts c f v b o height label s out =
    let w = k.call.surroundings in
    let low = outs_low w k.call.code k.outers k.call.point acts c f v height label (closed s) b.outer out in
    let same = newest_own (newest_at b o) in
    ap (λ t. t && is_among label (M.labels_in body))
    (eqb-other height (newest_height k.first.state.activations) (omega (arith, low, same)))

function_ends :
    (k : Block) (ons : List (OnUnit × ℕ)) (body : Y.Stmts) (index : ℕ) → IsFunctionList k body index →
    IsInside 0 k (phases_of k ons) body index →
    EachThrough 0 k (phases_of k ons) (M.labels_in body ++ []) body index left_over →
    ((first : Point) → phases_of k ons first → EndDoes (in_phase k first) (behind_list k body index)) →
    FunctionDoes k body index
function_ends k ons body index z inside' each ends f there =
    let w = k.call.surroundings in
    let code = k.call.code in
    let acts = k.call.point.state.world.acts in
    let first = k.first.state.world.acts in
    let flow = M.list k.around body w.acts k.first.state in
    let next' : Unit {0} → Meaning (Unit {0}) = λ u. error k.around no_value_code in
    let aims = exit_aims k acts left_over in
    let l = front_of (stmts_code k.environment none_taken body) (no_value k.around.line) z.linked in
    let inside = l.inside in
    let called = z.called in
    list_comes k.around body w.acts k.first.state (elsewhere k body acts 0 f (services_of k.first) z.begun z.among)
    (comes_on w.acts flow next'
    (comes_map (phase_aims k (phases_of k ons) [] first (behind_list k body index) 0 left_over)
    (before code aims w.acts next') refl flow
    (λ c' f' v' r s q.
    let o = q.holds in
    let since = o.since in
    subst (λ u. Comes code c' f' v' aims (error k.around no_value_code w.acts u)) (sym o.state)
    (onward (exit_closed k acts left_over) o.reach
    (λ g at.
    exits_since k acts o.point.state.world.acts 0 g (services_of o.point)
    (error k.around no_value_code w.acts o.point.state) (omega (arith, called, since))
    (ends q.first q.is o.point o.numbers g o.among at))))
    (λ c' f' v' height label s q.
    outs_since w code k.outers acts first c' f' v' height label (closed s) called (out_of_all q.holds))
    (λ c' f' v' r s q. own_return body index z (record { to = q.holds.to }))
    (list_through 0 k (phases_of k ons) [] body index left_over inside' each l k.first (phases_change k ons).first
    k.first k.call.numbers 0 0 f z.among (omega arith, omega (arith, inside)) there)))

pub lists_end : ListsEnd
lists_end = record { list = list_ends; function = function_ends }
