-- Calls, statements and in expressions, of what the running block declares, or a block around it, where that may jump
-- out: to a label of the block that calls, or of one further out.
use Rattle.std.proofs.Common.{◌≡◌, ℕ, ◌+◌, ◌≤◌, List, [], ◌++◌, length, true, refl, sym, ap, ◌∙◌, subst}
use Rattle.std.proofs.Common.{arith}
use Rattle.std.specs.Prelude.{nat_lt, ◌==◌}
use Rattle.pli_typing.specs.TypedTree as Y
use Rattle.pli_meaning.specs.Control.{Label, Meaning, act, give, ◌>>=◌, ◌>>◌}
use Rattle.pli_meaning.specs.Evaluating as V
use Rattle.pli_meaning.specs.Executing as M
use Rattle.pli_meaning.specs.Executing.{begun, labels_in}
use Rattle.pli_meaning.specs.Raising.{Around, at_line}
use Rattle.pli_meaning.specs.StorageState.{most_activations}
use Rattle.pli_meaning.specs.World.{counted}
use Rattle.pli_coding.specs.Allocating.{act_code}
use Rattle.pli_coding.specs.Assembly.{size_of}
use Rattle.pli_coding.specs.Expressions.{number_code}
use Rattle.activation_relation.specs.Chains.{HasParent, frame_at}
use Rattle.activation_relation.specs.Layers.{Point, services_of}
use Rattle.run_steps.specs.Items.{Linked}
use Rattle.run_steps.proofs.Jumps.{back_of, front_of}
use Rattle.run_steps.proofs.Linking.{size_append}
use Rattle.run_steps.specs.Reach.{Comes, Family, before}
use Rattle.run_steps.proofs.Reach.{before_closed, comes_on, onward}
use Rattle.block_runs.specs.Machines.{AreIn, IsIn, acted}
use Rattle.block_runs.proofs.CallStatements.{comes_map}
use Rattle.block_runs.proofs.PointActs.{act_comes}
use Rattle.program_runs.specs.Calls.{AreMade, Callee, body_index, left_over}
use Rattle.program_runs.specs.Procedures.{block_of, beginning_for}
use Rattle.program_runs.specs.Statements.{Block, DoesWith, IsAmong, IsBegun, size_with}
use Rattle.program_runs.specs.Statements.{statement_aims}
use Rattle.program_runs.proofs.Statements.{acted_among, statement_closed}
use Rattle.expression_runs.specs.Laws as L
use Rattle.expression_runs.specs.Values.{Setting, behind, in_registers, number_aims}
use Rattle.expression_runs.proofs.Words.{number_closed}
use Rattle.function_runs.specs.FunctionCalls.{called_from}
use Rattle.function_runs.specs.Functions.{function_beginning, function_entry}
use Rattle.unit_runs.specs.InnerLists.{IsList, ListDoes}
use Rattle.jump_runs.specs.Calls.{block_in}
use Rattle.jump_runs.specs.Exits.{hand_aims}
use Rattle.jump_runs.specs.Functions.{FunctionDoes, IsFunctionList, function_in}
use Rattle.jump_runs.proofs.Calls.{IsHere, ListExits, here_of, list_exits, own_block, procedure_hands}
use Rattle.jump_runs.proofs.Functions as J
use Rattle.nested_calls.specs.Nested.{parent_at}
use Rattle.nested_calls.specs.NestedCalls.{IsNestedCall, call_at}
use Rattle.nested_calls.specs.NestedFunctions.{IsNestedFunction, value_at}
use Rattle.nested_calls.proofs.GivenCode.{given}
use Rattle.nested_calls.proofs.NestedCalls as N
use Rattle.nested_calls.proofs.NestedCalls.{call_coded, call_of, called_means, given_in, is_parent, parent_inside}
use Rattle.nested_calls.proofs.NestedCalls.{parent_reached, room_among}
use Rattle.nested_calls.proofs.NestedFunctions as F

-- ---- CALL

call_goes :
    (words : ℕ) (k : Block) (labels : List Label) (c : Callee) (acts level line index left' more : ℕ)
    (h : IsNestedCall words k c level line index more) (p : Point) (numbers : ℕ → ℕ) (wanted : ℕ) (f : Family) →
    IsHere (here_of k labels c p numbers) → acts ≤ p.state.world.acts →
    ListExits (here_of k labels c p numbers) acts →
    Linked k.call.surroundings.links k.call.code (index + size_of (act_code line)) (given_in words k level ++ call_of c)
    →
    size_with words k (call_at c level line) ≡ size_of (act_code line) + size_of (given_in words k level ++ call_of c) →
    AreIn k.call.surroundings p numbers (index + size_of (act_code line)) f →
    Comes k.call.code 0 f (services_of p)
    (before k.call.code (statement_aims k labels acts (index + size_with words k (call_at c level line)) wanted left')
    k.call.surroundings.acts N.behind_call)
    (M.block_run c.around (block_of c.procedure) (begun (block_of c.procedure) c.calling.parent)
    k.call.surroundings.acts p.state)
unfolding give
call_goes words k labels c acts level line index left' more h p numbers wanted f is since list' l size there =
    let w = k.call.surroundings in
    let z = here_of k labels c p numbers in
    let given' = given_in words k level in
    let call = call_of c in
    let n = size_append given' call in
    let inside = l.inside in
    let proc = h.callee.stands.inside in
    let at_call = h.call in
    let o = is.among in
    let aims = statement_aims k labels acts (index + size_with words k (call_at c level line)) wanted left' in
    let flow = M.block_run c.around (block_of c.procedure) (begun (block_of c.procedure) c.calling.parent) w.acts
    p.state in
    let base = frame_at k.first.control.layers (parent_at k level) in
    let closed' = statement_closed k labels acts (index + size_with words k (call_at c level line)) wanted left' in
    onward (before_closed w.acts N.behind_call closed')
    (given (level == k.environment.level) words level base (beginning_for w p numbers c.procedure c.calling)
    (index + size_of (act_code line)) 0 f o.stands o.image (h.low, refl)
    (parent_reached level h.nested is.begun o h.around_it) (
      parent_inside level h.nested o h.around_it,
      ap (λ ls. frame_at ls (parent_at k level)) (sym o.later.layers)
          ∙ ap (λ j. frame_at p.control.layers j) (sym h.parent),
    )
    (front_of given' call l) there)
    (λ g at.
    comes_map (hand_aims (own_block z) acts wanted) (before k.call.code aims w.acts N.behind_call) refl flow
    (λ c' f' v' r s q. record { to = λ early. N.behind_goes h o since q })
    (λ c' f' v' height label s q. record { to = q })
    (λ c' f' v' r s q. absurd q)
    (procedure_hands z is acts (0 + size_of given') wanted g list' (omega (arith, n, inside, proc))
    (λ b. subst (λ j. IsIn w p numbers j b (g b)) (omega (arith, n, size, at_call)) (at b).0)
    (λ b. (at b).1)))

-- it does what it means if the statements of what is called do
pub nested_jump_call_does :
    (words : ℕ) (k : Block) (labels : List Label) (c : Callee) (level line index left' more : ℕ) →
    IsNestedCall words k c level line index more →
    nat_lt (length k.first.state.activations) most_activations ≡ true →
    ((p : Point) (numbers : ℕ → ℕ) → IsAmong k numbers p →
    AreMade k.call.surroundings k.call.code c p numbers) →
    ((p : Point) (numbers : ℕ → ℕ) → IsAmong k numbers p →
    IsList (block_in k labels c p numbers) c.procedure.body (body_index c) →
    ListDoes (block_in k labels c p numbers) c.procedure.body (body_index c) left_over) → IsBegun k →
    DoesWith words k labels (call_at c level line) index left'
unfolding M.statement ◌>>=◌ ◌>>◌
nested_jump_call_does words k labels c level line index left' more h few made' each b p numbers credits wanted f o paid
    there =
    let w = k.call.surroundings in
    let p' = acted line p in
    let one = act_code line in
    let given' = given_in words k level in
    let call = call_of c in
    let eq = call_coded words k c level line in
    let l = subst (Linked w.links k.call.code index) eq h.statement in
    let n0 = size_append one (given' ++ call) in
    let size = ap (λ u. size_of u) eq in
    let tree = Y.Calling c.procedure.head.number level Y.NoArgument in
    let tail : Unit {0} → Meaning (Unit {0}) = λ u. V.called (at_line k.around line) tree >> give tt in
    let acts = p.state.world.acts in
    let closed' = statement_closed k labels acts (index + size_with words k (call_at c level line)) wanted left' in
    let enough = h.enough in
    let turns = ap (λ (a : Around). a.turns) h.around in
    comes_on w.acts (act counted w.acts p.state) tail
    (act_comes (before_closed w.acts tail closed') line credits 0 f (o.stands, o.image)
    (h.line_fits, h.callee.acts, omega (arith, paid, n0, size)) (front_of one (given' ++ call) l) there
    (λ g less at.
    let o' = acted_among line o less in
    let later = o'.later.acts in
    let z = here_of k labels c p' numbers in
    let is : IsHere z = record {
      begun = b;
      among = o';
      callee = h.callee;
      room = room_among h few o';
      made = made' p' numbers o';
      enough = omega (arith, enough, turns, later);
    } in
    comes_on w.acts (V.called (at_line k.around line) tree w.acts p'.state) N.behind_call
    (subst (Comes k.call.code 0 g (services_of p')
    (before k.call.code (statement_aims k labels acts (index + size_with words k (call_at c level line)) wanted left')
    w.acts
    N.behind_call))
    (sym (called_means h o'))
    (call_goes words k labels c acts level line index left' more h p' numbers wanted g is (omega arith)
    (list_exits z is acts (omega arith)
    (each p' numbers o'))
    (back_of one (given' ++ call) l) (size ∙ n0) at))))

-- ---- a call in an expression

-- it leaves the function's value if its list comes to its end
pub nested_jump_function_does :
    (k : Setting) (c : Callee) (level more : ℕ) → IsNestedFunction k c level more →
    nat_lt (length k.block.first.state.activations) most_activations ≡ true →
    ((call : ℕ) (p : Point) (numbers : ℕ → ℕ) → IsAmong k.block numbers p →
    AreMade k.block.call.surroundings k.block.call.code (called_from c call) p numbers) →
    ((call : ℕ) (p : Point) (numbers : ℕ → ℕ) → IsAmong k.block numbers p →
    IsFunctionList (function_in k (called_from c call) p numbers) c.procedure.body (body_index c) →
    FunctionDoes (function_in k (called_from c call) p numbers) c.procedure.body (body_index c)) →
    L.Does k 0 (value_at c level)
unfolding V.number ◌>>=◌
nested_jump_function_does k c level more h few made' does p numbers taken credits index f o line registers l paid
    there =
    let w = k.block.call.surroundings in
    let code = k.block.call.code in
    let given' = F.given_in k level in
    let call' = call_of c in
    let eq = F.value_coded k c level taken in
    let part = number_code k.block.environment (in_registers k.words taken) (value_at c level) in
    let size = ap (λ u. size_of u) eq in
    let n = size_append given' call' in
    let l' = subst (Linked w.links code index) eq l in
    let call = index + size_of given' in
    let z : J.Here = record {
      entries = [];
      setting = k;
      callee = c;
      more = more;
      call = call;
      point = p;
      numbers = numbers;
    } in
    let y = behind p numbers taken credits index part in
    let goal = number_aims k.block k.labels y in
    let closed' = number_closed k.block k.labels y in
    let tree = Y.Calling c.procedure.head.number level Y.NoArgument in
    let flow = M.block_run c.around (block_of c.procedure) (function_entry c.procedure c.calling.parent) w.acts p.state
    in
    let base = frame_at k.block.first.control.layers (parent_at k.block level) in
    let most = h.most in
    let acts = p.state.world.acts in
    let enough = h.enough in
    let turns = ap (λ (a : Around). a.turns) h.around in
    let x = c.procedure in
    let is : J.IsHere z = record {
      is = record {
        begun = h.begun;
        function = h.function;
        room = record {
          room = h.frame;
          shallow = few;
          parent = subst (λ xs. HasParent x.head.level c.calling.parent xs) o.later.activations
              (is_parent level x.head.level c.calling.parent h.nested o h.around_it h.inner h.parent);
          idle = h.idle;
        };
        enough = omega (arith, enough, turns);
      };
      among = o;
      calls = back_of given' call' l';
      made = made' call p numbers o;
    } in
    comes_on w.acts (V.called k.around tree w.acts p.state) F.as_number
    (subst (Comes code credits f (services_of p) (before code goal w.acts F.as_number))
    (sym (F.called_means k c level more h o))
    (onward (before_closed w.acts F.as_number closed')
    (given (level == k.block.environment.level) k.words level base
    (function_beginning w p numbers c.procedure c.calling) index credits f o.stands o.image (h.words, refl)
    (parent_reached level h.nested h.begun o h.around_it) (
      parent_inside level h.nested o h.around_it,
      ap (λ ls. frame_at ls (parent_at k.block level)) (sym o.later.layers)
          ∙ ap (λ j. frame_at p.control.layers j) (sym h.parent),
    )
    (front_of given' call' l') there)
    (λ g at.
    comes_map (hand_aims (J.own_block z) acts (credits + size_of part)) (before code goal w.acts F.as_number) refl flow
    (λ c1 f1 v1 r s q. F.behind_goes k c taken index credits o part call (omega (arith, size, n)) c1 f1 v1 r s q)
    (λ c1 f1 v1 height label s q. record { to = q })
    (λ c1 f1 v1 r s q. absurd q)
    (J.function_hands z is (credits + size_of given') (credits + size_of part) g (does call p numbers o)
    (omega (arith, paid, most, size, n)) (λ b. (at b).0)
    (λ b. record { parent = (at b).1.parent; texts = (at b).1.texts })))))
