-- CALL of a procedure whose variables the act of its entry pays for.
use Rattle.std.proofs.Common.{◌≡◌, ℕ, ◌+◌, ◌≤◌, List, ◌++◌, length, Option, true, refl, sym, ap, ◌∙◌, subst, arith}
use Rattle.std.specs.Prelude.{nat_lt, ◌==◌}
use Rattle.pli_typing.specs.TypedTree as Y
use Rattle.pli_meaning.specs.BasicValues.{BasicValue}
use Rattle.pli_meaning.specs.Control.{Label, Meaning, act, give, ◌>>=◌, ◌>>◌}
use Rattle.pli_meaning.specs.Evaluating as V
use Rattle.pli_meaning.specs.Executing as M
use Rattle.pli_meaning.specs.Executing.{begun}
use Rattle.pli_meaning.specs.Raising.{Around, at_line}
use Rattle.pli_meaning.specs.StorageState.{State, most_activations}
use Rattle.pli_meaning.specs.World.{counted}
use Rattle.pli_coding.specs.Allocating.{act_code}
use Rattle.pli_coding.specs.Assembly.{size_of}
use Rattle.activation_relation.specs.Chains.{frame_at}
use Rattle.activation_relation.specs.Layers.{Point, services_of}
use Rattle.activation_relation.proofs.Returning.{later_then}
use Rattle.run_steps.specs.Items.{Linked}
use Rattle.run_steps.proofs.Jumps.{back_of, front_of}
use Rattle.run_steps.proofs.Linking.{size_append}
use Rattle.run_steps.specs.Reach.{Comes, Family, before}
use Rattle.run_steps.proofs.Reach.{before_closed, comes_on, onward, reach_map}
use Rattle.block_runs.specs.Bodies.{IsBehind, behind_aims}
use Rattle.block_runs.specs.Machines.{AreIn, IsIn, acted}
use Rattle.block_runs.proofs.CallStatements.{comes_map}
use Rattle.block_runs.proofs.PointActs.{act_comes}
use Rattle.program_runs.specs.Calls.{Callee, body_index, called_at, labels_of, left_over}
use Rattle.program_runs.specs.Procedures.{beginning_for, block_of}
use Rattle.program_runs.specs.Statements.{Block, Does, EachDoes, GoesOn, IsAmong, IsBegun, size_in, statement_aims}
use Rattle.program_runs.proofs.Statements.{acted_among, statement_closed}
use Rattle.nested_calls.specs.Nested.{parent_at}
use Rattle.nested_calls.specs.NestedCalls.{IsNestedCall, call_at}
use Rattle.nested_calls.proofs.GivenCode.{given}
use Rattle.nested_calls.proofs.NestedCalls.{behind_call, call_coded, call_of, called_means, given_in, parent_inside}
use Rattle.nested_calls.proofs.NestedCalls.{parent_reached, room_among}
use Rattle.extent_runs.specs.Making.{block_from, made_at, site_at}
use Rattle.extent_runs.specs.Unpaid.{AreBound, MakesUnpaid}
use Rattle.extent_runs.proofs.MakingProcedures.{unpaid_runs}

-- behind the call its block goes on
behind_goes :
    {k : Block} {c : Callee} {acts level line index more wanted credits : ℕ} {numbers : ℕ → ℕ} {p : Point} {f : Family}
    {r : Option BasicValue} {s : State} {v : _} (h : IsNestedCall 0 k c level line index more)
    (o : IsAmong k numbers p) →
    acts ≤ p.state.world.acts →
    IsBehind (called_at k.call.surroundings k.call.code c p numbers) wanted credits f v r s →
    GoesOn k acts (index + size_in k (call_at c level line)) wanted credits f v s
behind_goes {k} {numbers = numbers} {p = p} h o since q =
    let w = k.call.surroundings in
    let more = q.later.acts in
    record {
      point = q.point;
      numbers = numbers;
      among = record {
        stands = q.stands;
        image = q.image;
        later = later_then k.first p q.point o.later q.later;
        few = q.few;
        entries = q.entries ∙ o.entries;
        others = o.others;
        words = o.words;
      };
      since = omega (arith, since, more);
      state = q.state;
      reach = reach_map _ q.reach (λ b y is. subst (λ n. IsIn w q.point numbers n b y) h.call is.0);
    }

abbrev EachGoes : (like : Option Point) → Block → Callee → Point → (numbers : ℕ → ℕ) → Type 0
EachGoes like k c p numbers =
    (first : Point) → IsBegun (block_from k.call.surroundings k.call.code c p numbers first) → AreBound like first →
    EachDoes (block_from k.call.surroundings k.call.code c p numbers first) (labels_of c) c.procedure.body
    (body_index c) left_over

call_goes :
    (like : Option Point) (k : Block) (c : Callee) (labels : List Label) (acts level line index left' more : ℕ)
    (h : IsNestedCall 0 k c level line index more) (p : Point) (numbers : ℕ → ℕ) (wanted : ℕ) (f : Family)
    (o : IsAmong k numbers p) → nat_lt (length k.first.state.activations) most_activations ≡ true → IsBegun k →
    acts ≤ p.state.world.acts →
    MakesUnpaid like (site_at k.call.surroundings k.call.code c p numbers) left_over (made_at c)
    × EachGoes like k c p numbers →
    Linked k.call.surroundings.links k.call.code (index + size_of (act_code line)) (given_in 0 k level ++ call_of c) →
    size_in k (call_at c level line) ≡ size_of (act_code line) + size_of (given_in 0 k level ++ call_of c) →
    AreIn k.call.surroundings p numbers (index + size_of (act_code line)) f →
    Comes k.call.code 0 f (services_of p)
    (before k.call.code (statement_aims k labels acts (index + size_in k (call_at c level line)) wanted left')
    k.call.surroundings.acts behind_call)
    (M.block_run c.around (block_of c.procedure) (begun (block_of c.procedure) c.calling.parent)
    k.call.surroundings.acts p.state)
unfolding give
call_goes like k c labels acts level line index left' more h p numbers wanted f o few b since goes l size there =
    let w = k.call.surroundings in
    let given' = given_in 0 k level in
    let call = call_of c in
    let n = size_append given' call in
    let inside = l.inside in
    let proc = h.callee.stands.inside in
    let at_call = h.call in
    let enough = h.enough in
    let turns = ap (λ (a : Around). a.turns) h.around in
    let later = o.later.acts in
    let aims = statement_aims k labels acts (index + size_in k (call_at c level line)) wanted left' in
    let flow = M.block_run c.around (block_of c.procedure) (begun (block_of c.procedure) c.calling.parent) w.acts
    p.state in
    let base = frame_at k.first.control.layers (parent_at k level) in
    let closed = statement_closed k labels acts (index + size_in k (call_at c level line)) wanted left' in
    onward (before_closed w.acts behind_call closed)
    (given (level == k.environment.level) 0 level base (beginning_for w p numbers c.procedure c.calling)
    (index + size_of (act_code line)) 0 f o.stands o.image (omega arith, refl)
    (parent_reached level h.nested b o h.around_it) (
      parent_inside level h.nested o h.around_it,
      ap (λ ls. frame_at ls (parent_at k level)) (sym o.later.layers)
          ∙ ap (λ n. frame_at p.control.layers n) (sym h.parent),
    )
    (front_of given' call l) there)
    (λ g at.
    comes_map (behind_aims (called_at w k.call.code c p numbers) wanted)
    (before k.call.code aims w.acts behind_call) refl flow
    (λ c' f' v' r s q. record { to = λ early. behind_goes h o since q })
    (λ c' f' v' height label s q. absurd q)
    (λ c' f' v' r s q. absurd q)
    (unpaid_runs like w k.call.code c p numbers (0 + size_of given') wanted g (o.stands, o.image)
    (h.callee, room_among h few o) goes.0 o.words goes.1 (omega (arith, enough, turns, later))
    (omega (arith, n, inside, proc))
    (λ b. subst (λ j. IsIn w p numbers j b (g b)) (omega (arith, n, size, at_call)) (at b).0)
    (λ b. (at b).1)))

pub unpaid_call_does :
    (like : Point → (numbers : ℕ → ℕ) → Option Point) (k : Block) (c : Callee)
    (level line index left' more : ℕ) → IsNestedCall 0 k c level line index more →
    nat_lt (length k.first.state.activations) most_activations ≡ true →
    ((p : Point) (numbers : ℕ → ℕ) → IsAmong k numbers p →
    MakesUnpaid (like p numbers) (site_at k.call.surroundings k.call.code c p numbers) left_over (made_at c)) →
    ((p first : Point) (numbers : ℕ → ℕ) → IsAmong k numbers p →
    IsBegun (block_from k.call.surroundings k.call.code c p numbers first) →
    AreBound (like p numbers) first →
    EachDoes (block_from k.call.surroundings k.call.code c p numbers first) (labels_of c) c.procedure.body
    (body_index c) left_over) → IsBegun k → (labels : List Label) → Does k labels (call_at c level line) index left'
unfolding M.statement ◌>>=◌ ◌>>◌
unpaid_call_does like k c level line index left' more h few makes each b labels p numbers credits wanted f o paid there =
    let w = k.call.surroundings in
    let p' = acted line p in
    let one = act_code line in
    let given' = given_in 0 k level in
    let call = call_of c in
    let eq = call_coded 0 k c level line in
    let l = subst (Linked w.links k.call.code index) eq h.statement in
    let n0 = size_append one (given' ++ call) in
    let size = ap (λ u. size_of u) eq in
    let tree = Y.Calling c.procedure.head.number level Y.NoArgument in
    let tail : Unit {0} → Meaning (Unit {0}) = λ u. V.called (at_line k.around line) tree >> give tt in
    let acts = p.state.world.acts in
    let closed = statement_closed k labels acts (index + size_in k (call_at c level line)) wanted left' in
    comes_on w.acts (act counted w.acts p.state) tail
    (act_comes (before_closed w.acts tail closed) line credits 0 f (o.stands, o.image)
    (h.line_fits, h.callee.acts, omega (arith, paid, n0, size)) (front_of one (given' ++ call) l) there
    (λ g less at.
    let o' = acted_among line o less in
    comes_on w.acts (V.called (at_line k.around line) tree w.acts p'.state) behind_call
    (subst (Comes k.call.code 0 g (services_of p')
    (before k.call.code (statement_aims k labels acts (index + size_in k (call_at c level line)) wanted left') w.acts
    behind_call))
    (sym (called_means h o'))
    (call_goes (like p' numbers) k c labels acts level line index left' more h p' numbers wanted g o' few b (omega arith)
    (makes p' numbers o', λ first. each p' first numbers o') (back_of one (given' ++ call) l) (size ∙ n0) at))))
