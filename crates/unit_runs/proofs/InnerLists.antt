-- Lists with ON among them go on behind them in any block, so begin blocks and units with such lists do as they mean.
use Rattle.std.proofs.Common.{◌≡◌, ℕ, ◌+◌, ◌^◌, ◌<◌, ◌≤◌, List, [], ◌++◌, Some, None, Bool, sym, ◌∙◌, subst, arith}
use Rattle.std.proofs.Common.{refl}
use Rattle.std.specs.Prelude.{◌&&◌, cond}
use Rattle.pli_typing.specs.TypedTree as Y
use Rattle.pli_language.specs.declared.condition.Condition.TheVariants as C
use Rattle.pli_meaning.specs.Control.{Flow, Jump, Label, Meaning, caught, is_among, list_from}
use Rattle.pli_meaning.specs.Executing as M
use Rattle.pli_meaning.specs.Raising as R
use Rattle.pli_meaning.specs.StorageState.{State, newest_height}
use Rattle.pli_serving.specs.ServiceState.{Services}
use Rattle.pli_coding.specs.Arithmetic as A
use Rattle.pli_coding.specs.Assembly.{size_of}
use Rattle.pli_coding.specs.Environments.{none_taken}
use Rattle.pli_coding.specs.Statements.{stmts_code}
use Rattle.storage_relation.proofs.Holders.{eqb-other}
use Rattle.activation_relation.specs.Landing.{closed}
use Rattle.activation_relation.specs.Layers.{Point, services_of}
use Rattle.run_steps.specs.Items.{Linked}
use Rattle.run_steps.specs.Reach.{Comes, Family, cost}
use Rattle.run_steps.proofs.Reach.{onward}
use Rattle.block_runs.specs.Machines.{AreIn}
use Rattle.block_runs.proofs.CallStatements.{comes_map}
use Rattle.program_runs.specs.Calls.{left_over}
use Rattle.program_runs.specs.Statements.{AreMarked, Block, Does, EachDoes, IsAmong, IsBegun, JumpsOut, own_height}
use Rattle.program_runs.specs.Statements.{size_in, statement_aims}
use Rattle.program_runs.proofs.JumpsOut.{outs_low}
use Rattle.program_runs.proofs.Lists.{list_does}
use Rattle.program_runs.proofs.NewestBlocks.{newest_at, newest_own}
use Rattle.expression_runs.specs.Values.{OverflowComes, Setting}
use Rattle.begin_runs.specs.BeginBlocks as G
use Rattle.begin_runs.specs.BeginBlocks.{Inner, IsBegin, begin_of, environment_of, inner_block}
use Rattle.begin_runs.specs.BehindLists.{list_aims}
use Rattle.begin_runs.proofs.Begins.{begin_comes, out_of_all}
use Rattle.unit_runs.specs.Bodies.{before_rest}
use Rattle.unit_runs.specs.Changing.{AllDo}
use Rattle.unit_runs.specs.Establishing.{IsOn, OnUnit, behind_on, on_of}
use Rattle.unit_runs.specs.InnerLists.{InnerListsChange, IsList, ListDoes, UnitChanges}
use Rattle.unit_runs.specs.Raised.{IsRaised, Standing, list_index, raise_aims, unit_block}
use Rattle.unit_runs.proofs.Bodies.{first_aims, rest_is, rest_size, splits}
use Rattle.unit_runs.proofs.Changing.{changing_goes, list_closed, list_since}
use Rattle.unit_runs.proofs.Establishing.{unit_begun, unit_does}
use Rattle.unit_runs.proofs.UnitRuns.{UnitComes, overflow_comes, raise_comes}

-- ---- lists

pub each_list :
    (k : Block) (body : Y.Stmts) (index left' : ℕ) → IsList k body index →
    AreMarked k.call.surroundings.links k.environment body index →
    EachDoes k (M.labels_in body ++ []) body index left' → ListDoes k body index left'
each_list k body index left' z marks each p numbers c wanted f o fits there =
    let w = k.call.surroundings in
    let acts = p.state.world.acts in
    let end = index + size_of (stmts_code k.environment none_taken body) in
    let enough = z.enough in
    let more = o.later.acts in
    comes_map (statement_aims k [] acts end wanted left') (list_aims k acts end wanted left') refl
    (M.list k.around body w.acts p.state)
    (λ c' f' v' r s q. record { first = k.first; begun = z.begun; goes = q })
    (λ c' f' v' height label s q. out_of_all q)
    (λ c' f' v' r s q. q)
    (list_does k [] body index left' p numbers c wanted f z.begun (omega (arith, enough, more)) each marks o z.linked
    fits there)

pub all_list :
    (k : Block) (body : Y.Stmts) (index left' : ℕ) → IsList k body index →
    AreMarked k.call.surroundings.links k.environment body index → AllDo k body index body index left' →
    ListDoes k body index left'
all_list k body index left' z marks all p numbers c wanted f o fits there =
    let enough = z.enough in
    let more = o.later.acts in
    changing_goes k body index wanted left' c p numbers f z.begun (omega (arith, enough, more)) marks all o z.linked
    fits there

-- a jump out of the block is none of the list's
out_caught :
    (k : Block) (acts end wanted left' height h c : ℕ) (f : Family) (v : Services) (labels : List Label) (label : Label)
    (s : State) (next' : Label → Meaning (Unit {0})) → IsBegun k → height ≡ own_height k →
    JumpsOut k.call.surroundings k.call.code k.outers acts c f v h label (closed s) →
    Comes k.call.code c f v (list_aims k acts end wanted left')
    (caught k.call.surroundings.acts height labels (Jump h label s) next')
out_caught k acts end wanted left' height h c f v labels label s next' b same out =
    let w = k.call.surroundings in
    let low = outs_low w k.call.code k.outers k.call.point acts c f v h label (closed s) b.outer out in
    subst (λ (t : Bool). Comes k.call.code c f v (list_aims k acts end wanted left')
    (cond (t && is_among label labels) (next' label w.acts s) (Jump h label s)))
    (sym (eqb-other h height (omega (arith, low, same))))
    (record { to = λ early. out })

pub first_list :
    (k : Block) (first : Y.Stmt) (rest : Y.Stmts) (index left' : ℕ) → IsList k (before_rest first rest) index →
    Does k [] first index left' → ListDoes k rest (index + size_in k first) left' →
    ListDoes k (before_rest first rest) index left'
first_list k first rest index left' z does goes p numbers c wanted f o fits there =
    let w = k.call.surroundings in
    let acts = p.state.world.acts in
    let end = index + size_of (stmts_code k.environment none_taken (before_rest first rest)) in
    let goal = list_aims k acts end wanted left' in
    let n = rest_size k first rest in
    let enough = z.enough in
    let more = o.later.acts in
    let paid = fits.1 in
    let inside = z.linked.inside in
    let height = newest_height p.state.activations in
    let same = newest_own (newest_at z.begun o) in
    splits k goal first rest p c f (services_of p) (omega (arith, enough, more)) o.stands.allowed
    (λ m turns.
    let next' : Label → Meaning (Unit {0}) = λ l. list_from m height (M.labels_in rest)
    (M.statements k.around (before_rest first rest)) (Some l) in
    comes_map (statement_aims k [] acts (index + size_in k first) 0 left')
    (first_aims k.call.code goal w.acts height (M.labels_in rest) (M.statements k.around rest None) next') refl
    (M.statement k.around first w.acts p.state)
    (λ c' f' v' r s q.
    subst (λ u. Comes k.call.code c' f' v' goal
    (caught w.acts height (M.labels_in rest) (M.statements k.around rest None w.acts u) next')) (sym q.state)
    (onward (list_closed k acts end wanted left') q.reach
    (λ g at.
    subst (Comes k.call.code 0 g (services_of q.point) goal)
    (rest_is k.around first rest m w.acts height q.point.state turns
    (newest_own (newest_at z.begun q.among) ∙ sym same))
    (subst (λ j. Comes k.call.code 0 g (services_of q.point) (list_aims k acts j wanted left')
    (M.list k.around rest w.acts q.point.state)) (omega (arith, n))
    (list_since {k = k} q.since
    (goes q.point q.numbers 0 wanted g q.among (omega arith, omega (arith, n, inside)) at))))))
    (λ c' f' v' h' label s q.
    out_caught k acts end wanted left' height h' c' f' v' (M.labels_in rest) label s next' z.begun same (out_of_all q))
    (λ c' f' v' r s q. q)
    (does p numbers c 0 f o (omega (arith, n, paid)) there))

-- what is aimed at in the block that has the unit is aimed at in the block
from_behind :
    (k : Block) (x : OnUnit) (at acts end wanted left' c : ℕ) (f : Family) (v : Services) (flow : Flow (Unit {0})) →
    Comes k.call.code c f v (list_aims (behind_on k x at) acts end wanted left') flow →
    Comes k.call.code c f v (list_aims k acts end wanted left') flow
from_behind k x at acts end wanted left' c f v flow o =
    comes_map (list_aims (behind_on k x at) acts end wanted left') (list_aims k acts end wanted left') refl flow
    (λ c' f' v' r s q. record { first = q.first; begun = q.begun; goes = q.goes })
    (λ c' f' v' height label s q. q)
    (λ c' f' v' r s q. record { to = q.to })
    o

pub on_list :
    (k : Block) (x : OnUnit) (rest : Y.Stmts) (index left' : ℕ) → IsList k (before_rest (on_of x) rest) index →
    IsOn k x index → ListDoes (behind_on k x index) rest (index + size_in k (on_of x)) left' →
    ListDoes k (before_rest (on_of x) rest) index left'
on_list k x rest index left' z on goes p numbers c wanted f o fits there =
    let w = k.call.surroundings in
    let first = on_of x in
    let k' = behind_on k x index in
    let b' = unit_begun k x index on in
    let acts = p.state.world.acts in
    let end = index + size_of (stmts_code k.environment none_taken (before_rest first rest)) in
    let goal = list_aims k acts end wanted left' in
    let n = rest_size k first rest in
    let enough = z.enough in
    let more = o.later.acts in
    let paid = fits.1 in
    let inside = z.linked.inside in
    let height = newest_height p.state.activations in
    let same = newest_own (newest_at z.begun o) in
    splits k goal first rest p c f (services_of p) (omega (arith, enough, more)) o.stands.allowed
    (λ m turns.
    let next' : Label → Meaning (Unit {0}) = λ l. list_from m height (M.labels_in rest)
    (M.statements k.around (before_rest first rest)) (Some l) in
    comes_map (statement_aims k' [] acts (index + size_in k first) 0 left')
    (first_aims k.call.code goal w.acts height (M.labels_in rest) (M.statements k.around rest None) next') refl
    (M.statement k.around first w.acts p.state)
    (λ c' f' v' r s q.
    subst (λ u. Comes k.call.code c' f' v' goal
    (caught w.acts height (M.labels_in rest) (M.statements k.around rest None w.acts u) next')) (sym q.state)
    (onward (list_closed k acts end wanted left') q.reach
    (λ g at.
    let flow = M.list k.around rest w.acts q.point.state in
    subst (Comes k.call.code 0 g (services_of q.point) goal)
    (rest_is k.around first rest m w.acts height q.point.state turns
    (newest_own (newest_at b' q.among) ∙ sym same))
    (subst (λ j. Comes k.call.code 0 g (services_of q.point) (list_aims k acts j wanted left') flow)
    (omega (arith, n))
    (list_since {k = k} q.since
    (from_behind k x index q.point.state.world.acts
    (index + size_in k first + size_of (stmts_code k.environment none_taken rest)) wanted left' 0 g
    (services_of q.point) flow
    (goes q.point q.numbers 0 wanted g q.among (omega arith, omega (arith, n, inside)) at)))))))
    (λ c' f' v' h' label s q.
    out_caught k acts end wanted left' height h' c' f' v' (M.labels_in rest) label s next' z.begun same
    (out_of_all {k = k'} q))
    (λ c' f' v' r s q. record { to = q.to })
    (unit_does k [] x index left' on p numbers c 0 f o (omega (arith, n, paid)) there))

-- ---- begin blocks

pub changing_begin :
    (k : Block) (labels : List Label) (x : Inner) (index left' more : ℕ) → IsBegin k x index more →
    ((p : Point) (numbers : ℕ → ℕ) → IsAmong k numbers p → k.first.state.world.acts < p.state.world.acts →
    G.AreMade k x index p numbers
    × AreMarked k.call.surroundings.links (environment_of k x) x.body (G.list_index k p numbers x index)) →
    ((p : Point) (numbers : ℕ → ℕ) → IsAmong k numbers p → k.first.state.world.acts < p.state.world.acts →
    IsList (inner_block k labels p numbers x index) x.body (G.list_index k p numbers x index) →
    ListDoes (inner_block k labels p numbers x index) x.body (G.list_index k p numbers x index) left') →
    Does k labels (begin_of x) index left'
changing_begin k labels x index left' more h made' goes =
    begin_comes k labels x index left' more h made'
    (λ p numbers o later b o' enough marks l c f paid there.
    goes p numbers o later (record { begun = b; linked = l; enough = enough })
    (inner_block k labels p numbers x index).first numbers c c f o' (omega arith, paid) there)

-- ---- units

pub changing_unit :
    (k : Setting) (x : Standing) (more : ℕ) (h : IsRaised k x more) → UnitChanges k x more h → UnitComes k x more h
changing_unit k x more h does r is =
    let d = does r is in (
      d.0,
      λ b o enough marks l f there.
          let inside = l.inside in
          d.1 (record { begun = b; linked = l; enough = enough }) (unit_block k x r).first r.numbers 0 left_over f o
          (omega arith, omega (arith, inside)) there,
    )

pub unit_raise :
    (k : Setting) (x : Standing) (more : ℕ) (h : IsRaised k x more) → UnitChanges k x more h → (code : ℕ) →
    (0 < code) × (code < 2 ^ 16) → (p : Point) (numbers : ℕ → ℕ) (credits wanted index : ℕ) (f : Family) →
    IsAmong k.block numbers p → p.control.line ≡ k.around.line →
    Linked k.block.call.surroundings.links k.block.call.code index (A.raised x.unit.condition code) →
    credits + size_of (A.raised x.unit.condition code) + k.most ≤ cost k.block.call.code →
    AreIn k.block.call.surroundings p numbers index f →
    Comes k.block.call.code credits f (services_of p)
    (raise_aims k p numbers (index + size_of (A.raised x.unit.condition code)) wanted)
    (R.raised k.around x.unit.condition code k.block.call.surroundings.acts p.state)
unit_raise k x more h does = raise_comes k x more h (changing_unit k x more h does)

pub unit_overflow :
    (k : Setting) (x : Standing) (more : ℕ) (h : IsRaised k x more) → UnitChanges k x more h →
    x.unit.condition ≡ C.FixedOverflow → OverflowComes k
unit_overflow k x more h does = overflow_comes k x more h (changing_unit k x more h does)

pub inner_lists_change : InnerListsChange
inner_lists_change =
    record {
      each = each_list;
      first = first_list;
      on = on_list;
      all = all_list;
      begins = changing_begin;
      raise = unit_raise;
      overflow = unit_overflow;
    }
