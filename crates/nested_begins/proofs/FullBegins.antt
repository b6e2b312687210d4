-- BEGIN of a block whose variables pass the limit on what is AUTOMATIC ends the run.
use Rattle.std.proofs.Common.{◌≡◌, ℕ, ◌+◌, List, ◌++◌, length, true, sym, subst, arith}
use Rattle.std.specs.Prelude.{nat_lt}
use Rattle.pli_meaning.specs.Control.{Label, Meaning, act, flow_on, ◌>>=◌, ◌>>◌}
use Rattle.pli_meaning.specs.Executing as M
use Rattle.pli_meaning.specs.Raising.{at_line}
use Rattle.pli_meaning.specs.StorageState.{most_activations}
use Rattle.pli_meaning.specs.World.{counted}
use Rattle.pli_meaning.specs.declared.outcome.End.TheVariants as E
use Rattle.pli_meaning.specs.declared.outcome.Limit.TheVariants as L
use Rattle.pli_coding.specs.Allocating.{act_code}
use Rattle.pli_coding.specs.Assembly.{size_of}
use Rattle.activation_relation.specs.Layers.{Point, services_of}
use Rattle.run_steps.specs.Items.{Linked}
use Rattle.run_steps.proofs.Jumps.{back_of, front_of}
use Rattle.run_steps.proofs.Linking.{size_append}
use Rattle.run_steps.specs.Reach.{Comes}
use Rattle.run_steps.proofs.Reach.{before_closed, comes_on, onward}
use Rattle.block_runs.specs.InnerBeginnings.{inner_code}
use Rattle.block_runs.specs.Machines.{acted}
use Rattle.block_runs.proofs.InnerEntries as I
use Rattle.block_runs.proofs.PointActs.{act_comes}
use Rattle.program_runs.specs.Statements.{Block, Does, IsAmong, size_in, statement_aims}
use Rattle.program_runs.proofs.NewestBlocks.{newest_at, newest_own}
use Rattle.program_runs.proofs.Statements.{acted_among, statement_closed}
use Rattle.nested_calls.proofs.FullVariables.{over_comes}
use Rattle.begin_runs.specs.BeginBlocks.{Inner, IsBegin, begin_of, begun_in, entry_index, inner_beginning, list_code}
use Rattle.begin_runs.proofs.Begins.{begin_coded, behind_beginning, ending_of, here_of, premises, whole_code}
use Rattle.begin_runs.proofs.Begins.{whole_size}
use Rattle.begin_runs.proofs.Meaning.{begin_means, behind_act, comes_passed, list_of, within, within_closed}
use Rattle.nested_begins.specs.BegunVariables.{AreFullIn}
use Rattle.nested_begins.proofs.DeepBegins.{finish_on}
use Rattle.program_runs.specs.Statements.{own_height}

pub full_begin_ends :
    (k : Block) (labels : List Label) (x : Inner) (index left' more : ℕ) → IsBegin k x index more →
    ((p : Point) (numbers : ℕ → ℕ) → IsAmong k numbers p → AreFullIn k x index p numbers) →
    Does k labels (begin_of x) index left'
unfolding M.statement ◌>>=◌ ◌>>◌
full_begin_ends k labels x index left' more h full p numbers c wanted f o paid there =
    let w = k.call.surroundings in
    let code = k.call.code in
    let p' = acted x.head.line p in
    let z = here_of k labels x index left' more p' numbers in
    let one = act_code x.head.line in
    let begins = inner_code (inner_beginning k p' numbers x) in
    let l = subst (Linked w.links code index) (begin_coded z h) h.statement in
    let n = whole_size z h in
    let n0 = size_append one (whole_code z) in
    let n1 = size_append begins (behind_beginning z) in
    let acts = p.state.world.acts in
    let end = index + size_in k (begin_of x) in
    let aims = statement_aims k labels acts end wanted left' in
    let closed = statement_closed k labels acts end wanted left' in
    let tail : Unit {0} → Meaning (Unit {0}) = λ u. behind_act k.around x.head x.body in
    comes_on w.acts (act counted w.acts p.state) tail
    (act_comes (before_closed w.acts tail closed) x.head.line c 0 f (o.stands, o.image)
    (h.act.line_fits, h.act.acts, omega (arith, paid, n)) (front_of one (whole_code z) l) there
    (λ g less at.
    let o' = acted_among x.head.line o less in
    let made = full p' numbers o' in
    let start = begun_in k p' numbers x in
    let around' = at_line x.around x.head.line in
    let flow = list_of x.around x.head x.body w.acts start.state in
    let listed : Unit {0} → Meaning (Unit {0}) = λ q. M.list around' x.body in
    let ready = premises z (record { begin = h; among = o' }) in
    let l0 = back_of one (whole_code z) l in
    let l1 = back_of begins (behind_beginning z) l0 in
    let size = 0 + size_of begins in
    subst (Comes code 0 g (services_of p') aims)
    (sym (begin_means k.around x.around x.head x.body more (own_height k) w.acts p'.state h.enter h.around
    (newest_own (newest_at h.begun o')) h.kind
    (subst (λ xs. nat_lt (length xs) most_activations ≡ true) (sym o'.later.activations) h.shallow)))
    (comes_passed w.acts flow
    (onward (within_closed closed) (I.inner_begins 0 (entry_index x index) g ready
    (front_of begins (behind_beginning z) l0) at)
    (λ g' at'.
    subst (λ u. Comes code size g' (services_of start) (within aims) (flow_on w.acts u listed)) (sym made.means)
    (subst (Comes code size g' (services_of start) (within aims))
    (sym (finish_on (E.Limit L.Automatic) w.acts made.state listed))
    (over_comes (E.Limit L.Automatic) w.acts made.state
    (made.ends size g' (I.inner_stands ready) (omega (arith, paid, n))
    (front_of x.variables (list_code k x ++ ending_of z) l1) at'))))))))
