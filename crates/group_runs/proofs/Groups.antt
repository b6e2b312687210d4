-- A DO group: its act, and its list.
use Rattle.std.proofs.Common.{ℕ, ◌+◌, List, ◌++◌, subst, arith, refl}
use Rattle.pli_typing.specs.TypedTree as Y
use Rattle.pli_meaning.specs.Control.{Label, Meaning, act, ◌>>=◌, ◌>>◌}
use Rattle.pli_meaning.specs.Executing as M
use Rattle.pli_meaning.specs.World.{counted}
use Rattle.pli_coding.specs.Allocating.{act_code}
use Rattle.pli_coding.specs.Assembly.{size_of}
use Rattle.pli_coding.specs.Statements.{stmts_code}
use Rattle.run_steps.proofs.Jumps.{back_of, front_of}
use Rattle.run_steps.proofs.Linking.{size_append}
use Rattle.run_steps.proofs.Reach.{before_closed, comes_on, reach_map}
use Rattle.block_runs.specs.Machines.{IsIn, acted}
use Rattle.block_runs.proofs.CallStatements.{comes_map}
use Rattle.block_runs.proofs.PointActs.{act_comes}
use Rattle.program_runs.specs.Statements.{Block, Does, DoesWith, EachDoes, EachDoesWith, set_aside, size_with}
use Rattle.program_runs.specs.Statements.{statement_aims}
use Rattle.program_runs.proofs.JumpsOut.{jumps_since}
use Rattle.program_runs.proofs.Lists.{list_with}
use Rattle.program_runs.proofs.Statements.{acted_among, statement_closed}
use Rattle.group_runs.specs.Groups.{IsGroup, IsGroupWith, list_index}

pub group_with :
    (words : ℕ) (k : Block) (labels : List Label) (body : Y.Stmts) (line index left' : ℕ) →
    IsGroupWith words k body line index →
    EachDoesWith words k (M.labels_in body ++ labels) body (list_index line index) left' →
    DoesWith words k labels (Y.Do body line) index left'
unfolding M.statement M.list ◌>>=◌ ◌>>◌
group_with words k labels body line index left' h each p numbers c wanted f o paid there =
    let w = k.call.surroundings in
    let stmt = Y.Do body line in
    let one = act_code line in
    let all = stmts_code k.environment (set_aside words) body in
    let n0 = size_append one all in
    let acts = p.state.world.acts in
    let aims = statement_aims k labels acts (index + size_with words k stmt) wanted left' in
    let closed = statement_closed k labels acts (index + size_with words k stmt) wanted left' in
    let next' : Unit {0} → Meaning (Unit {0}) = λ u. M.list k.around body in
    let turns = h.turns in
    let later = o.later.acts in
    comes_on w.acts (act counted w.acts p.state) next'
    (act_comes (before_closed w.acts next' closed) line c 0 f (o.stands, o.image)
    (h.act.line_fits, h.act.acts, omega (arith, paid, n0)) (front_of one all h.statement) there
    (λ g less at.
    let p' = acted line p in
    comes_map (statement_aims k labels p'.state.world.acts (list_index line index + size_of all) wanted left') aims refl
    (M.list k.around body w.acts p'.state)
    (λ c' f' v' r s q.
    let since = q.since in
    record {
      point = q.point;
      numbers = q.numbers;
      among = q.among;
      since = omega (arith, since);
      state = q.state;
      reach = reach_map _ q.reach (λ b y u. subst (λ j. IsIn w q.point q.numbers j b y) (omega (arith, n0)) u);
    })
    (λ c' f' v' height label s q. jumps_since (omega arith) q)
    (λ c' f' v' r s q. q)
    (list_with words k labels body (list_index line index) left' p' numbers 0 wanted g h.begun
    (omega (arith, turns, later))
    each h.marks (acted_among line o less) (back_of one all h.statement) (omega arith, omega (arith, paid, n0)) at)))

-- where no words are set aside
pub group_does :
    (k : Block) (labels : List Label) (body : Y.Stmts) (line index left' : ℕ) → IsGroup k body line index →
    EachDoes k (M.labels_in body ++ labels) body (list_index line index) left' →
    Does k labels (Y.Do body line) index left'
group_does k labels body line index left' h each = group_with 0 k labels body line index left' h each
