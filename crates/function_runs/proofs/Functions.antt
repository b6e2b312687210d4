-- A function comes behind its call: its variables, the act of its entry, its statements, and its end by RETURN.
use Rattle.std.proofs.Common.{◌≡◌, ℕ, ◌+◌, ◌*◌, ◌^◌, ◌<◌, ◌≤◌, List, [], ◌∷◌, ◌++◌, length, Option, Some, Bool, true}
use Rattle.std.proofs.Common.{refl, sym, ap, ◌∙◌, subst, arith}
use Rattle.std.specs.Prelude.{cond, nat_lt}
use Rattle.rv_meaning.specs.declared.instr.Instr.{Instr}
use Rattle.pli_language.specs.declared.condition.Condition.TheVariants as C
use Rattle.pli_typing.specs.TypedTree as Y
use Rattle.pli_meaning.specs.BasicValues.{BasicValue}
use Rattle.pli_meaning.specs.declared.outcome.End.TheVariants as N
use Rattle.pli_meaning.specs.declared.outcome.Limit.TheVariants as L
use Rattle.pli_meaning.specs.Codes.{no_value_code}
use Rattle.pli_meaning.specs.Control.{Flow, Meaning, act, choose, finish, flow_on, give, leaving, left, looked, stored}
use Rattle.pli_meaning.specs.Control.{◌>>=◌, ◌>>◌}
use Rattle.pli_meaning.specs.Executing as M
use Rattle.pli_meaning.specs.Executing.{with_activation}
use Rattle.pli_meaning.specs.Making as K
use Rattle.pli_meaning.specs.Raising.{Around, at_line, error}
use Rattle.pli_meaning.specs.StorageState.{State, force, most_activations, newest_ended}
use Rattle.pli_meaning.specs.World.{World, counted}
use Rattle.pli_coding.specs.Allocating.{act_code}
use Rattle.pli_coding.specs.Assembly.{CallTo, Code, Mark, ProcedureEntry, ReturnPlace, size_of}
use Rattle.pli_coding.specs.Environments.{none_taken}
use Rattle.pli_coding.specs.Procedures.{no_value}
use Rattle.pli_coding.specs.Statements.{stmts_code}
use Rattle.activation_relation.specs.Layers.{Point, services_of}
use Rattle.activation_relation.specs.Points.{AreFew, Stands, Surroundings}
use Rattle.activation_relation.proofs.Serials.{few_made}
use Rattle.activation_relation.specs.ServiceLaws.{IsSystem}
use Rattle.run_steps.specs.Engine.{Base}
use Rattle.run_steps.specs.Items.{Linked}
use Rattle.run_steps.proofs.Jumps.{back_of, front_of, linked_at, rest_of}
use Rattle.run_steps.proofs.Linking.{size_append}
use Rattle.run_steps.specs.Reach.{Comes, Family, before, cost}
use Rattle.run_steps.proofs.Reach.{before_closed, comes_on, onward}
use Rattle.block_runs.specs.Beginnings.{IsCalling}
use Rattle.block_runs.specs.Bodies as B
use Rattle.block_runs.specs.Bodies.{behind_aims, body_aims}
use Rattle.block_runs.specs.Machines.{AreIn, IsImage}
use Rattle.block_runs.proofs.BlockEntries.{Premises, begun_stands}
use Rattle.block_runs.proofs.CallsReturn.{calls_return}
use Rattle.block_runs.proofs.CallStatements.{comes_map}
use Rattle.block_runs.proofs.EmptyMeaning.{entry_acts, own_return}
use Rattle.block_runs.proofs.PointActs.{act_comes}
use Rattle.block_runs.proofs.PointGrounds.{point_frame}
use Rattle.program_runs.specs.Calls.{AreMade, Callee, begun_at, body_index, labels_of, left_over, variables_index}
use Rattle.program_runs.specs.Procedures.{HasRoom, begin_of, block_of}
use Rattle.program_runs.specs.Statements.{EachDoes, GoesOn, IsAmong, IsBegun, statement_aims}
use Rattle.program_runs.proofs.Calls.{body_closed, on_same}
use Rattle.program_runs.proofs.JumpsOut.{no_jump}
use Rattle.program_runs.proofs.ListEnds.{list_comes}
use Rattle.program_runs.proofs.Lists.{list_does}
use Rattle.function_runs.specs.Functions.{IsFunction, function_at, function_block, function_code, function_end}
use Rattle.function_runs.specs.Functions.{function_entry, function_tail}
use Rattle.function_runs.proofs.Beginnings.{first_among, first_begun, function_begins}
use Rattle.function_runs.proofs.NoValues.{value_lacks}
use Rattle.block_runs.proofs.Early.{comes_early}

-- ---- what its block means

abbrev behind_act : Around → Y.Stmts → Meaning (Unit {0})
behind_act around body = M.block_list around body true

abbrev behind_variables : Around → Y.Stmts → Meaning (Unit {0})
behind_variables around body = act counted >> behind_act around body

abbrev body_of : Around → Y.BlockHead → Y.Stmts → Meaning (Unit {0})
body_of around head body =
    M.block_variables_made (at_line around head.line) head head.kind >> behind_variables (at_line around head.line) body

entry_means :
    (around : Around) (kind : Y.BlockKind) (body : Y.Stmts) (k : ℕ) (s : State) → kind ≡ Y.ProcedureBlock →
    flow_on k (M.entry_act kind k s) (λ q. behind_act around body) ≡ behind_variables around body k s
unfolding ◌>>◌
entry_means around kind body k s e =
    ap (λ flow. flow_on k flow (λ q. behind_act around body)) (entry_acts kind k s e)

body_means :
    (around : Around) (c : Callee) (k : ℕ) (s : State) → c.procedure.head.kind ≡ Y.ProcedureBlock →
    M.block_body around c.procedure.head c.procedure.body (function_entry c.procedure c.calling.parent) k s
    ≡ flow_on k (M.block_variables_made around c.procedure.head c.procedure.head.kind k s)
    (λ q. behind_variables around c.procedure.body)
unfolding M.block_body K.parameters_bound give ◌>>◌
body_means around c k s kind =
    let head = c.procedure.head in
    let body = c.procedure.body in
    on_same k (M.block_variables_made around head head.kind k s)
    (λ q. M.entry_act head.kind >> behind_act around body) (λ q. behind_variables around body)
    (λ s'. entry_means around head.kind body k s' kind)

block_means :
    (around : Around) (c : Callee) (k : ℕ) (s : State) → c.procedure.head.kind ≡ Y.ProcedureBlock →
    nat_lt (length s.activations) most_activations ≡ true →
    M.block_run around (block_of c.procedure) (function_entry c.procedure c.calling.parent) k s
    ≡ left true newest_ended
    (body_of around c.procedure.head c.procedure.body k
    (with_activation c.procedure.head (function_entry c.procedure c.calling.parent) s))
unfolding M.block_run looked stored choose leaving ◌>>=◌ ◌>>◌
block_means around c k s kind few =
    let head = c.procedure.head in
    let body = c.procedure.body in
    let entry = function_entry c.procedure c.calling.parent in
    let s' = with_activation head entry s in
    let around' = at_line around head.line in
    let run : Bool → Flow (Option BasicValue) = λ q. cond q
    (left (M.is_own_return head.kind) newest_ended (M.block_body around' head body entry k s'))
    (finish (N.Limit L.Depth) k s) in
    ap run few
    ∙ ap (λ q. left q newest_ended (M.block_body around' head body entry k s')) (own_return head.kind kind)
    ∙ ap (λ flow. left true newest_ended flow) (body_means around' c k s' kind)

-- ---- the call and the block

abbrev behind_made : Callee → Code
behind_made c =
    act_code c.procedure.head.line
    ++ (stmts_code c.environment none_taken c.procedure.body ++ function_tail c.procedure)

abbrev parts_of : Callee → Code
parts_of c = c.procedure.variables ++ behind_made c

is_call :
    (w : Surroundings) (code : List Instr) (c : Callee) (p : Point) (numbers : ℕ → ℕ) →
    Stands w p × IsImage w code p → IsFunction w code c × HasRoom w p c.procedure c.calling →
    Linked w.links code c.calling.call (CallTo (ProcedureEntry c.procedure.head.number) ∷ []) →
    ((n : ℕ) → numbers n < 2 ^ 32) → B.IsCall (function_at w code c p numbers)
is_call w code c p numbers known h calls words =
    let x = c.procedure in
    let one = act_code x.head.line in
    let body = stmts_code c.environment none_taken x.body in
    let lacks = no_value x.head.line in
    let mark = Mark (ReturnPlace x.head.number) in
    let l0 = back_of x.variables (behind_made c) (back_of (begin_of x) (parts_of c) h.0.stands) in
    let l1 = back_of one (body ++ function_tail x) l0 in
    let l2 = back_of lacks (mark ∷ function_end x) (back_of body (function_tail x) l1) in
    let l3 = rest_of mark (function_end x) l2 in
    let e = h.0.end in
    let inside = calls.inside in
    let small' = calls.small' in
    record {
      stands = known.0;
      image = known.1;
      beginning = function_begins w code p numbers c known h (omega (arith, inside, small')) words;
      code = record {
        calls = calls;
        place = h.0.place;
        begins = front_of (begin_of x) (parts_of c) h.0.stands;
        back = refl;
      };
      ending = linked_at c.calling.end (function_end x) (omega (arith, e)) l3;
      word = (refl, omega arith);
    }

-- its statements, from behind the act of its entry
body_goes :
    (w : Surroundings) (code : List Instr) (c : Callee) (p : Point) (numbers : ℕ → ℕ) (f : Family) →
    IsFunction w code c → IsBegun (function_block w code c p numbers) →
    IsAmong (function_block w code c p numbers) numbers (function_block w code c p numbers).first →
    EachDoes (function_block w code c p numbers) (labels_of c) c.procedure.body (body_index c) left_over →
    IsSystem (force (function_block w code c p numbers).first.state.activations C.Error) →
    w.acts < c.around.turns + (function_block w code c p numbers).first.state.world.acts →
    AreIn w (function_block w code c p numbers).first numbers (body_index c) f →
    Comes code 0 f (services_of (function_block w code c p numbers).first)
    (body_aims (function_at w code c p numbers) left_over)
    (behind_act (at_line c.around c.procedure.head.line) c.procedure.body w.acts
    (function_block w code c p numbers).first.state)
body_goes w code c p numbers f h b o each only few there =
    let k = function_block w code c p numbers in
    let x = c.procedure in
    let one = act_code x.head.line in
    let body = stmts_code c.environment none_taken x.body in
    let lacks = no_value x.head.line in
    let tail = function_tail x in
    let l0 = back_of x.variables (behind_made c) (back_of (begin_of x) (parts_of c) h.stands) in
    let l1 = back_of one (body ++ tail) l0 in
    let l2 = front_of body tail l1 in
    let l3 = back_of body tail l1 in
    let l4 = front_of lacks (Mark (ReturnPlace x.head.number) ∷ function_end x) l3 in
    let inside = l2.inside in
    let last = l4.inside in
    let proc = h.routines.linked.inside in
    let flow = M.list k.around x.body w.acts k.first.state in
    let acts = k.first.state.world.acts in
    let next' : Unit {0} → Meaning (Unit {0}) = λ u. error k.around no_value_code in
    let aims = body_aims k.call left_over in
    list_comes k.around x.body w.acts k.first.state (λ height label s q. absurd q)
    (comes_on w.acts flow next'
    (comes_map (statement_aims k [] acts (body_index c + size_of body) left_over left_over)
    (before code aims w.acts next') refl flow
    (λ c' f' v' r s q.
    subst (λ u. Comes code c' f' v' aims (error k.around no_value_code w.acts u)) (sym q.state)
    (onward (body_closed k.call left_over) q.reach
    (λ g at.
    value_lacks (body_closed k.call left_over) h.routines k.around left_over g
    (point_frame q.among.stands q.among.image) (q.among.stands, q.among.image) h.line
    (omega (arith, last, proc), h.acts)
    h.raises (subst (λ xs. IsSystem (force xs C.Error)) (sym q.among.later.activations) only) l4 at)))
    (λ c' f' v' height label s q. no_jump refl q)
    (λ c' f' v' r s q. q.to)
    (list_does k [] x.body (body_index c) left_over k.first numbers 0 left_over f b few each h.labels o l2
    (omega arith, omega (arith, inside)) there)))

pub function_runs :
    (w : Surroundings) (code : List Instr) (c : Callee) (p : Point) (numbers : ℕ → ℕ) (credits wanted : ℕ)
    (f : Family) → Stands w p × IsImage w code p → AreFew w p →
    IsFunction w code c × HasRoom w p c.procedure c.calling →
    Linked w.links code c.calling.call (CallTo (ProcedureEntry c.procedure.head.number) ∷ []) →
    AreMade w code c p numbers → ((n : ℕ) → numbers n < 2 ^ 32) →
    (IsBegun (function_block w code c p numbers) →
    EachDoes (function_block w code c p numbers) (labels_of c) c.procedure.body (body_index c) left_over) →
    IsSystem (force (function_block w code c p numbers).first.state.activations C.Error) →
    w.acts < c.around.turns + (p.state.world.acts + 1) →
    credits + 4 + size_of (function_code c.environment c.procedure) ≤ cost code →
    AreIn w p numbers c.calling.call f →
    ((b : Base) → IsCalling p (function_at w code c p numbers).beginning b (f b)) →
    Comes code credits f (services_of p) (behind_aims (function_at w code c p numbers) wanted)
    (M.block_run c.around (block_of c.procedure) (function_entry c.procedure c.calling.parent) w.acts p.state)
unfolding ◌>>◌
function_runs w code c p numbers credits wanted f known serials h calls made' words each only few paid there gives =
    let k = function_at w code c p numbers in
    let x = c.procedure in
    let one = act_code x.head.line in
    let body = stmts_code c.environment none_taken x.body in
    let lacks = no_value x.head.line in
    let tail = function_tail x in
    let is = is_call w code c p numbers known h calls words in
    let q : Premises w code p numbers k.beginning = record {
      stands = known.0;
      image = known.1;
      is = is.beginning;
    } in
    let new = begun_stands q in
    let l0 = back_of (begin_of x) (parts_of c) h.0.stands in
    let l1 = back_of x.variables (behind_made c) l0 in
    let n0 = size_append (begin_of x) (parts_of c) in
    let n1 = size_append x.variables (behind_made c) in
    let n2 = size_append one (body ++ tail) in
    let n3 = size_append body tail in
    let n4 = size_append lacks (Mark (ReturnPlace x.head.number) ∷ function_end x) in
    let around' = at_line c.around x.head.line in
    let next' : Unit {0} → Meaning (Unit {0}) = λ u. behind_act around' x.body in
    let start = begun_at w c p numbers in
    let then' = c.made start in
    let stands' = made'.stands new in
    let closed = body_closed k left_over in
    let c0 = credits + (left_over + size_of (function_end x)) + 2 + size_of (begin_of x) in
    subst (λ flow. Comes code credits f (services_of p) (behind_aims k wanted) flow)
    (sym (block_means c.around c w.acts p.state h.0.kind h.1.shallow))
    (comes_early w refl there
    (λ early.
    calls_return k (body_of c.around x.head x.body) credits left_over wanted f is
    (λ g at.
    subst (λ flow. Comes code c0 g (services_of start) (body_aims k left_over)
    (flow_on w.acts flow (λ u. behind_variables around' x.body))) (sym made'.means)
    (onward closed (made'.comes c0 g new (front_of x.variables (behind_made c) l0) at)
    (λ g' at'.
    comes_on w.acts (act counted w.acts then'.state) next'
    (act_comes (before_closed w.acts next' closed) x.head.line (c0 + size_of x.variables) 0 g' stands'
    (h.0.line, h.0.acts, omega (arith, n0, n1, n2, n3, n4, paid)) (front_of one (body ++ tail) l1) at'
    (λ g'' less at''.
    let same = ap (λ (u : World). u.acts) made'.world in
    let o = first_among w code c p numbers stands' words less
    (few_made w p (function_block w code c p numbers).first early made'.few (omega (arith, same, less))) in
    let b = first_begun w code c p numbers made' new.0 o.stands in
    body_goes w code c p numbers g'' h.0 b o (each b) only (omega (arith, few, same)) at''))))) there gives))
