-- A begin block does what it means if the making of its variables does, and then its statements.
use Rattle.std.proofs.Common.{◌≡◌, ℕ, ◌+◌, ◌*◌, ◌<◌, ◌≤◌, List, [], ◌++◌, length, refl, sym, ap, ◌∙◌, subst, arith}
use Rattle.std.specs.Prelude.{nat_lt, true}
use Rattle.pli_meaning.specs.Control.{Label, Meaning, act, ◌>>=◌, ◌>>◌}
use Rattle.pli_meaning.specs.Executing as M
use Rattle.pli_meaning.specs.Raising.{at_line}
use Rattle.pli_meaning.specs.StorageState.{State, most_activations}
use Rattle.pli_meaning.specs.World.{counted}
use Rattle.pli_serving.specs.ServiceState.{Services}
use Rattle.pli_coding.specs.Allocating.{act_code}
use Rattle.pli_coding.specs.Assembly.{size_of}
use Rattle.activation_relation.specs.Landing.{closed}
use Rattle.activation_relation.specs.Layers.{Point, services_of}
use Rattle.activation_relation.proofs.Serials.{few_made}
use Rattle.run_steps.specs.Items.{Linked}
use Rattle.run_steps.proofs.Jumps.{back_of, front_of}
use Rattle.run_steps.specs.Owing.{owing}
use Rattle.run_steps.proofs.Owing.{comes_owing, owing_closed}
use Rattle.run_steps.specs.Reach.{Comes, Family, before, cost}
use Rattle.run_steps.proofs.Reach.{before_closed, comes_on, onward, reach_with}
use Rattle.block_runs.specs.Machines.{AreIn, acted}
use Rattle.block_runs.proofs.CallStatements.{comes_map}
use Rattle.block_runs.proofs.InnerEntries as I
use Rattle.block_runs.proofs.PointActs.{act_comes}
use Rattle.program_runs.specs.Statements.{AreMarked, Block, Does, EachDoes, IsAmong, IsBegun, JumpsOut}
use Rattle.program_runs.specs.Statements.{own_height, statement_aims}
use Rattle.program_runs.proofs.JumpsOut.{jumps_repaid, jumps_since, returns_repaid}
use Rattle.program_runs.proofs.Lists.{list_does}
use Rattle.program_runs.proofs.NewestBlocks.{newest_at, newest_own}
use Rattle.program_runs.proofs.Statements.{acted_among}
use Rattle.begin_runs.specs.BeginBlocks.{AreMade, Inner, IsBegin, begin_of, beginning_size, begun_in, end_index}
use Rattle.begin_runs.specs.BeginBlocks.{entry_index}
use Rattle.begin_runs.specs.BeginBlocks.{environment_of, inner_beginning, inner_block, list_code, list_index}
use Rattle.begin_runs.specs.BeginBlocks.{variables_index}
use Rattle.block_runs.specs.InnerBeginnings.{inner_code}
use Rattle.begin_runs.specs.BehindLists.{from_point, list_aims}
use Rattle.begin_runs.proofs.Begins.{Here, IsHere, first_among, first_begun, begin_coded, begin_ends, behind_beginning}
use Rattle.begin_runs.proofs.Begins.{debt_of, ending_of}
use Rattle.begin_runs.proofs.Begins.{goal_of, here_of, leaves_by_jump, out_of_all, own_block, premises, whole_code}
use Rattle.begin_runs.proofs.Begins.{whole_size}
use Rattle.begin_runs.proofs.Meaning.{begin_means, behind_act, comes_passed, list_of, within, within_closed}
use Rattle.extent_runs.specs.Making.{IsPaid, Makes, made_in, site_in}
use Rattle.block_runs.proofs.Early.{comes_early}
use Rattle.activation_relation.specs.Points.{AreFew}

-- each of its statements does what it means, from a point from which they go on
abbrev EachGoes : Here → (first : Point) → Type 0
EachGoes z first =
    IsBegun (from_point (own_block z) first) →
    EachDoes (from_point (own_block z) first) (M.labels_in z.inner.body ++ []) z.inner.body
    (list_index z.block z.point z.numbers z.inner z.index) z.left'

abbrev MadeHere : Here → Type 0
MadeHere z =
    Makes (site_in z.block z.labels z.point z.numbers z.inner z.index) z.left' (made_in z.inner)
    × AreMarked z.block.call.surroundings.links (environment_of z.block z.inner) z.inner.body
    (list_index z.block z.point z.numbers z.inner z.index)

-- ---- how it is left

gone_by_jump :
    (z : Here) (acts more wanted c : ℕ) (f : Family) (v : Services) (height : ℕ) (label : Label) (s : State) →
    acts ≤ more →
    JumpsOut z.block.call.surroundings z.block.call.code (own_block z).outers more c f v height label (closed s) →
    (within (owing z.block.call.code (debt_of z) (goal_of z acts wanted))).jumped c f v height label s
gone_by_jump z acts more wanted c f v height label s since q i0 f0 v0 from =
    jumps_repaid {k = z.block} (debt_of z) from
    (jumps_since {k = z.block} since (leaves_by_jump z more c f v height label s q))

-- ---- its list

list_goes :
    (z : Here) (h : IsHere z) (acts wanted c2 : ℕ) (f : Family) (first q : Point) (numbers : ℕ → ℕ) →
    IsBegun (from_point (own_block z) first) → IsAmong (from_point (own_block z) first) numbers q →
    (acts ≤ z.point.state.world.acts) × (z.point.state.world.acts ≤ q.state.world.acts) →
    c2 ≡ beginning_size z.block z.point z.numbers z.inner + size_of z.inner.variables →
    Linked z.block.call.surroundings.links z.block.call.code (list_index z.block z.point z.numbers z.inner z.index)
    (list_code z.block z.inner ++ ending_of z) →
    EachGoes z first × MadeHere z → c2 + size_of (list_code z.block z.inner) ≤ cost z.block.call.code →
    AreIn z.block.call.surroundings q numbers (list_index z.block z.point z.numbers z.inner z.index) f →
    Comes z.block.call.code c2 f (services_of q)
    (within (owing z.block.call.code (debt_of z) (goal_of z acts wanted)))
    (M.list (at_line z.inner.around z.inner.head.line) z.inner.body z.block.call.surroundings.acts q.state)
list_goes z h acts wanted c2 f first q numbers b o since size l goes paid there =
    let k = z.block in
    let i = from_point (own_block z) first in
    let more = q.state.world.acts in
    let enough = h.begin.enough in
    let turns = ap (λ a. a.turns) h.begin.around in
    let after = h.among.later.acts in
    let low = since.0 in
    let high = since.1 in
    let end = end_index k z.point z.numbers z.inner z.index in
    let owed = owing k.call.code (debt_of z) (goal_of z acts wanted) in
    let flow = M.list i.around z.inner.body k.call.surroundings.acts q.state in
    comes_map (statement_aims i [] more end c2 z.left') (within owed) refl flow
    (λ c' f' v' r s g. begin_ends z h acts wanted c2 low size (back_of (list_code k z.inner) (ending_of z) l) c' f' v' s
    (record {
      first = first;
      begun = b;
      goes = record {
        point = g.point;
        numbers = g.numbers;
        among = g.among;
        since = let on = g.since in omega (arith, high, on);
        state = g.state;
        reach = g.reach;
      };
    }))
    (λ c' f' v' height label s g. gone_by_jump z acts more wanted c' f' v' height label s (omega (arith, low, high))
    (out_of_all g))
    (λ c' f' v' r s g i0 f0 v0 from. returns_repaid {k = k} (debt_of z) from (record { to = g.to }))
    (list_does i [] z.inner.body (list_index k z.point z.numbers z.inner z.index) z.left' q numbers c2 c2 f b
    (omega (arith, enough, turns, after, high)) (goes.0 b) goes.1.1 o
    (front_of (list_code k z.inner) (ending_of z) l) (omega arith, paid) there)

-- ---- its variables, and then its list

variables_go :
    (z : Here) (h : IsHere z) (acts wanted c c2 : ℕ) (f : Family) → acts ≤ z.point.state.world.acts →
    (c ≡ beginning_size z.block z.point z.numbers z.inner) × (c2 ≡ c + size_of z.inner.variables) →
    Linked z.block.call.surroundings.links z.block.call.code (variables_index z.block z.point z.numbers z.inner z.index)
    (behind_beginning z) →
    ((first : Point) → EachGoes z first) → MadeHere z →
    c2 + size_of (list_code z.block z.inner) ≤ cost z.block.call.code →
    AreIn z.block.call.surroundings (begun_in z.block z.point z.numbers z.inner) z.numbers
    (variables_index z.block z.point z.numbers z.inner z.index) f →
    Comes z.block.call.code c f (services_of (begun_in z.block z.point z.numbers z.inner))
    (within (owing z.block.call.code (debt_of z) (goal_of z acts wanted)))
    (list_of z.inner.around z.inner.head z.inner.body z.block.call.surroundings.acts
    (begun_in z.block z.point z.numbers z.inner).state)
unfolding ◌>>◌
variables_go z h acts wanted c c2 f since size l each made' paid there =
    let k = z.block in
    let w = k.call.surroundings in
    let x = z.inner in
    let i = own_block z in
    let start = begun_in k z.point z.numbers x in
    let low = start.state.world.acts in
    let owed = owing k.call.code (debt_of z) (goal_of z acts wanted) in
    let closed' = within_closed (owing_closed k.call.code (debt_of z) (goal_of z acts wanted)) in
    let around' = at_line x.around x.head.line in
    let listed : Unit {0} → Meaning (Unit {0}) = λ q. M.list around' x.body in
    let flow = made_in x w.acts start.state in
    let rest = list_code k x ++ ending_of z in
    let lists = back_of x.variables rest l in
    let n0 = size.0 in
    let n1 = size.1 in
    comes_on w.acts flow listed
    (comes_map (list_aims i low (list_index k z.point z.numbers x z.index) c2 z.left')
    (before k.call.code (within owed) w.acts listed) refl flow
    (λ c' f' v' r s g.
    onward closed' g.goes.reach
    (λ f'' at.
    subst (λ s'. Comes k.call.code c2 f'' (services_of g.goes.point) (within owed) (M.list around' x.body w.acts s'))
    (sym g.goes.state)
    (list_goes z h acts wanted c2 f'' g.first g.goes.point g.goes.numbers g.begun g.goes.among (since, g.goes.since)
    (n1 ∙ ap (λ n. n + size_of x.variables) n0) lists (each g.first, made') paid at)))
    (λ c' f' v' height label s g. gone_by_jump z acts low wanted c' f' v' height label s since g)
    (λ c' f' v' r s g i0 f0 v0 from. returns_repaid {k = k} (debt_of z) from (record { to = g.to }))
    (made'.0 c c2 f (I.inner_stands (premises z h)) (front_of x.variables rest l)
    (omega (arith, n1), omega (arith, n0, n1, paid)) there))

begin_goes :
    (z : Here) (h : IsHere z) (acts wanted : ℕ) (f : Family) → acts ≤ z.point.state.world.acts →
    Linked z.block.call.surroundings.links z.block.call.code (entry_index z.inner z.index) (whole_code z) →
    ((first : Point) → EachGoes z first) → MadeHere z →
    debt_of z + size_of (list_code z.block z.inner) ≤ cost z.block.call.code →
    AreIn z.block.call.surroundings z.point z.numbers (entry_index z.inner z.index) f →
    Comes z.block.call.code 0 f (services_of z.point)
    (owing z.block.call.code (debt_of z) (goal_of z acts wanted))
    (behind_act z.block.around z.inner.head z.inner.body z.block.call.surroundings.acts z.point.state)
begin_goes z h acts wanted f since l each made' paid there =
    let k = z.block in
    let w = k.call.surroundings in
    let x = z.inner in
    let y = inner_beginning k z.point z.numbers x in
    let start = begun_in k z.point z.numbers x in
    let owed = owing k.call.code (debt_of z) (goal_of z acts wanted) in
    let closed' = within_closed (owing_closed k.call.code (debt_of z) (goal_of z acts wanted)) in
    let size = 0 + beginning_size k z.point z.numbers x in
    subst (Comes k.call.code 0 f (services_of z.point) owed)
    (sym (begin_means k.around x.around x.head x.body z.more (own_height k) w.acts z.point.state h.begin.enter
    h.begin.around (newest_own (newest_at h.begin.begun h.among)) h.begin.kind
    (subst (λ xs. nat_lt (length xs) most_activations ≡ true) (sym h.among.later.activations) h.begin.shallow)))
    (comes_passed w.acts (list_of x.around x.head x.body w.acts start.state)
    (onward closed' (I.inner_begins 0 (entry_index x z.index) f (premises z h)
    (front_of (inner_code y) (behind_beginning z) l) there)
    (λ g at.
    variables_go z h acts wanted size (size + size_of x.variables) g since (omega arith, refl)
    (back_of (inner_code y) (behind_beginning z) l) each made' (omega (arith, paid)) at)))

-- ---- the statement

pub begin_does :
    (k : Block) (labels : List Label) (x : Inner) (index left' more : ℕ) → IsBegin k x index more →
    ((p : Point) (numbers : ℕ → ℕ) → IsAmong k numbers p → k.first.state.world.acts < p.state.world.acts → IsPaid p →
    Makes (site_in k labels p numbers x index) left' (made_in x)
    × AreMarked k.call.surroundings.links (environment_of k x) x.body (list_index k p numbers x index)) →
    ((p first : Point) (numbers : ℕ → ℕ) → IsAmong k numbers p → k.first.state.world.acts < p.state.world.acts →
    IsBegun (from_point (inner_block k labels p numbers x index) first) →
    EachDoes (from_point (inner_block k labels p numbers x index) first) (M.labels_in x.body ++ []) x.body
    (list_index k p numbers x index) left') → Does k labels (begin_of x) index left'
unfolding M.statement ◌>>=◌ ◌>>◌
begin_does k labels x index left' more h made' each p numbers c wanted f o paid there =
    let w = k.call.surroundings in
    let p' = acted x.head.line p in
    let z = here_of k labels x index left' more p' numbers in
    let one = act_code x.head.line in
    let l = subst (Linked w.links k.call.code index) (begin_coded z h) h.statement in
    let n = whole_size z h in
    let goal = goal_of z p.state.world.acts wanted in
    let next' : Unit {0} → Meaning (Unit {0}) = λ u. behind_act k.around x.head x.body in
    comes_early w refl there
    (λ early.
    comes_owing (debt_of z) (M.statement k.around (begin_of x) w.acts p.state)
    (comes_on w.acts (act counted w.acts p.state) next'
    (act_comes (before_closed w.acts next' (owing_closed k.call.code (debt_of z) goal)) x.head.line (c + debt_of z) 0 f
    (o.stands, o.image) (h.act.line_fits, h.act.acts, omega (arith, paid, n)) (front_of one (whole_code z) l) there
    (λ g less at.
    let o' = acted_among x.head.line o less in
    let since = o.later.acts in
    let later : k.first.state.world.acts < p'.state.world.acts = omega (arith, since) in
    begin_goes z (record { begin = h; among = o' }) p.state.world.acts wanted g (omega arith)
    (back_of one (whole_code z) l) (λ first. each p' first numbers o' later)
    (made' p' numbers o' later (early less))
    (omega (arith, paid, n)) at))))

-- ---- what straight code makes

pub straight_makes :
    (k : Block) (labels : List Label) (x : Inner) (index left' more : ℕ) (p : Point) (numbers : ℕ → ℕ) →
    IsBegin k x index more → IsAmong k numbers p → IsPaid p → AreMade k x index p numbers →
    Makes (site_in k labels p numbers x index) left' (made_in x)
straight_makes k labels x index left' more p numbers h o paid' made' c wanted f known l paid there =
    let w = k.call.surroundings in
    let z = here_of k labels x index left' more p numbers in
    let start = begun_in k p numbers x in
    let first = x.made start in
    let few = made'.few in
    let same = made'.acts in
    let i = inner_block k labels p numbers x index in
    let is : IsHere z = record { begin = h; among = o } in
    let acts' : first.state.world.acts ≡ p.state.world.acts = same in
    let few' : AreFew w first = omega (arith, few, paid') in
    let begun' = first_begun z is made' few' in
    let among' = first_among z is made' few' in
    subst (Comes k.call.code c f (services_of start)
    (list_aims i start.state.world.acts (variables_index k p numbers x index + size_of x.variables) wanted left'))
    (sym made'.means)
    (record {
      to = λ early. record {
        first = first;
        begun = begun';
        goes = record {
          point = first;
          numbers = numbers;
          among = among';
          since = omega (arith, same);
          state = refl;
          reach = reach_with wanted paid.0 (made'.comes c f known l there);
        };
      };
    })
