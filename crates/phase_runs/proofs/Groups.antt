-- A DO group through phases: its act, and its list.
use Rattle.std.proofs.Common.{ℕ, ◌+◌, List, ◌++◌, subst, arith, refl}
use Rattle.pli_typing.specs.TypedTree as Y
use Rattle.pli_meaning.specs.Control.{Label, Meaning, act, ◌>>=◌, ◌>>◌}
use Rattle.pli_meaning.specs.Executing as M
use Rattle.pli_meaning.specs.World.{counted}
use Rattle.pli_coding.specs.Allocating.{act_code}
use Rattle.pli_coding.specs.Assembly.{size_of}
use Rattle.pli_coding.specs.Statements.{stmt_code, stmts_code}
use Rattle.run_steps.specs.Items.{Linked}
use Rattle.run_steps.proofs.Jumps.{back_of, front_of}
use Rattle.run_steps.proofs.Linking.{size_append}
use Rattle.run_steps.proofs.Reach.{before_closed, comes_on, reach_map}
use Rattle.block_runs.specs.Machines.{IsIn, acted}
use Rattle.block_runs.proofs.CallStatements.{comes_map}
use Rattle.block_runs.proofs.PointActs.{act_comes}
use Rattle.program_runs.specs.Statements.{Block, HasAct, set_aside, size_with}
use Rattle.program_runs.proofs.JumpsOut.{jumps_since}
use Rattle.program_runs.proofs.Statements.{acted_among}
use Rattle.group_runs.specs.Groups.{list_index}
use Rattle.phase_runs.specs.Forms.{IsInside}
use Rattle.phase_runs.specs.Phases.{DoesThrough, EachThrough, Phases, phase_aims}
use Rattle.phase_runs.proofs.Aims.{phase_closed}
use Rattle.phase_runs.proofs.Lists.{list_through}

pub group_through :
    (words : ℕ) (k : Block) (ps : Phases) (labels : List Label) (body : Y.Stmts) (line index left' : ℕ) →
    HasAct k line →
    Linked k.call.surroundings.links k.call.code index (stmt_code k.environment (set_aside words) (Y.Do body line)) →
    IsInside words k ps body (list_index line index) →
    EachThrough words k ps (M.labels_in body ++ labels) body (list_index line index) left' →
    DoesThrough words k ps labels (Y.Do body line) index left'
unfolding M.statement M.list ◌>>=◌ ◌>>◌
group_through words k ps labels body line index left' h l z each first is p numbers c wanted f o paid there =
    let w = k.call.surroundings in
    let stmt = Y.Do body line in
    let one = act_code line in
    let all = stmts_code k.environment (set_aside words) body in
    let n0 = size_append one all in
    let acts = p.state.world.acts in
    let aims = phase_aims k ps labels acts (index + size_with words k stmt) wanted left' in
    let closed = phase_closed k ps labels acts (index + size_with words k stmt) wanted left' in
    let next' : Unit {0} → Meaning (Unit {0}) = λ u. M.list k.around body in
    comes_on w.acts (act counted w.acts p.state) next'
    (act_comes (before_closed w.acts next' closed) line c 0 f (o.stands, o.image)
    (h.line_fits, h.acts, omega (arith, paid, n0)) (front_of one all l) there
    (λ g less at.
    let p' = acted line p in
    comes_map (phase_aims k ps labels p'.state.world.acts (list_index line index + size_of all) wanted left') aims refl
    (M.list k.around body w.acts p'.state)
    (λ c' f' v' r s t.
    let q = t.holds in
    let since = q.since in
    record {
      first = t.first;
      is = t.is;
      holds = record {
        point = q.point;
        numbers = q.numbers;
        among = q.among;
        since = omega (arith, since);
        state = q.state;
        reach = reach_map _ q.reach (λ b y u. subst (λ j. IsIn w q.point q.numbers j b y) (omega (arith, n0)) u);
      };
    })
    (λ c' f' v' height label s t. record { first = t.first; is = t.is; holds = jumps_since (omega arith) t.holds })
    (λ c' f' v' r s q. q)
    (list_through words k ps labels body (list_index line index) left' z each (back_of one all l) first is p' numbers 0
    wanted g (acted_among line o less) (omega arith, omega (arith, paid, n0)) at)))
