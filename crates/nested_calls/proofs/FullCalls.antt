-- Calls of what has variables that pass the limit on what is AUTOMATIC end the run.
use Rattle.std.proofs.Common.{◌≡◌, ℕ, ◌+◌, List, [], ◌∷◌, ◌++◌, length, Option, Bool, true, false, refl, sym, ap}
use Rattle.std.proofs.Common.{◌∙◌, subst, arith}
use Rattle.std.specs.Prelude.{cond, nat_lt, ◌==◌}
use Rattle.pli_typing.specs.TypedTree as Y
use Rattle.pli_meaning.specs.BasicValues.{BasicValue}
use Rattle.pli_meaning.specs.Control as F
use Rattle.pli_meaning.specs.Control.{Flow, Label, Meaning, act, choose, finish, flow_on, give, leaving, left, looked}
use Rattle.pli_meaning.specs.Control.{stored}
use Rattle.pli_meaning.specs.Control.{◌>>=◌, ◌>>◌}
use Rattle.pli_meaning.specs.Evaluating as V
use Rattle.pli_meaning.specs.Executing as M
use Rattle.pli_meaning.specs.Executing.{begun, with_activation}
use Rattle.pli_meaning.specs.Making as K
use Rattle.pli_meaning.specs.Raising.{Around, Entry, at_line}
use Rattle.pli_meaning.specs.StorageState.{State, most_activations, newest_ended, with_world}
use Rattle.pli_meaning.specs.World.{counted, ending}
use Rattle.pli_meaning.specs.declared.outcome.End.{End}
use Rattle.pli_meaning.specs.declared.outcome.End.TheVariants as E
use Rattle.pli_meaning.specs.declared.outcome.Limit.TheVariants as W
use Rattle.pli_coding.specs.Allocating.{act_code}
use Rattle.pli_coding.specs.Assembly.{Code, Mark, ReturnPlace, size_of}
use Rattle.pli_coding.specs.Environments.{none_taken}
use Rattle.pli_coding.specs.Expressions.{number_code}
use Rattle.pli_coding.specs.Statements.{stmts_code}
use Rattle.activation_relation.specs.Chains.{frame_at}
use Rattle.activation_relation.specs.Layers.{Point, services_of}
use Rattle.run_steps.specs.Items.{Linked}
use Rattle.run_steps.proofs.Jumps.{back_of, front_of}
use Rattle.run_steps.proofs.Linking.{size_append}
use Rattle.run_steps.specs.Reach.{Comes, before}
use Rattle.run_steps.proofs.Reach.{before_closed, comes_on, onward}
use Rattle.block_runs.specs.Machines.{IsIn, acted}
use Rattle.block_runs.proofs.BlockEntries.{Premises, begun_stands}
use Rattle.block_runs.proofs.PointActs.{act_comes}
use Rattle.block_runs.proofs.PointCalls.{calls}
use Rattle.program_runs.specs.Calls.{Callee}
use Rattle.program_runs.specs.Procedures.{beginning_for, begin_of, end_of}
use Rattle.program_runs.specs.Statements.{Block, DoesWith, IsAmong, IsBegun, size_with, statement_aims}
use Rattle.program_runs.proofs.Procedures.{layer_begins}
use Rattle.program_runs.proofs.Statements.{acted_among, statement_closed}
use Rattle.expression_runs.specs.Laws as L
use Rattle.expression_runs.specs.Values.{Setting, behind, in_registers, number_aims}
use Rattle.expression_runs.proofs.Words.{number_closed}
use Rattle.function_runs.specs.FunctionCalls.{called_from}
use Rattle.function_runs.specs.Functions.{function_beginning, function_tail}
use Rattle.function_runs.proofs.Beginnings.{function_begins}
use Rattle.nested_calls.specs.FullVariables.{AreFull}
use Rattle.nested_calls.specs.Nested.{parent_at}
use Rattle.nested_calls.specs.NestedCalls.{IsNestedCall, call_at}
use Rattle.nested_calls.specs.NestedFunctions.{IsNestedFunction, value_at}
use Rattle.nested_calls.proofs.FullVariables.{over_comes}
use Rattle.nested_calls.proofs.GivenCode.{given}
use Rattle.nested_calls.proofs.NestedCalls.{behind_call, call_coded, call_of, called_means, given_in, parent_inside}
use Rattle.nested_calls.proofs.NestedCalls.{parent_reached, room_among}
use Rattle.nested_calls.proofs.NestedFunctions as N
use Rattle.nested_calls.proofs.NestedFunctions.{as_number, function_from, value_coded}

-- ---- what such a call means

over_all :
    (q : Bool) (end : End) (k : ℕ) (s : State) (close : State → State) (next : Unit {0} → Meaning (Unit {0})) →
    left true close (flow_on k (cond q (F.Ended (with_world (ending end s.world) s)) (F.Paused s)) next)
    ≡ cond q (F.Ended (with_world (ending end s.world) s)) (F.Paused s)
over_all true end k s close next = refl
over_all false end k s close next = refl

finish_all :
    (end : End) (k : ℕ) (s : State) (close : State → State) (next : Unit {0} → Meaning (Unit {0})) →
    left true close (flow_on k (finish {R = Unit {0}} end k s) next) ≡ finish {R = Option BasicValue} end k s
unfolding finish
finish_all end k s close next = over_all (nat_lt s.world.acts k) end k s close next

own_return : (kind : Y.BlockKind) → kind ≡ Y.ProcedureBlock → M.is_own_return kind ≡ true
own_return kind e = ap (λ x. M.is_own_return x) e

abbrev plain_entry : Y.Block → (parent : ℕ) → (valued : Bool) → Entry
plain_entry block parent valued =
    record {
      block = block;
      parent = parent;
      oncode = 0;
      parameters = [];
      arguments = [];
      is_function = valued;
    }

full_means :
    (around : Around) (head : Y.BlockHead) (body : Y.Stmts) (parent : ℕ) (valued : Bool) (k : ℕ) (s s' : State)
    (end : End) → head.kind ≡ Y.ProcedureBlock → nat_lt (length s.activations) most_activations ≡ true →
    M.block_variables_made (at_line around head.line) head head.kind k
    (with_activation head (plain_entry (Y.BlockOf head body) parent valued) s)
    ≡ finish end k s' →
    M.block_run around (Y.BlockOf head body) (plain_entry (Y.BlockOf head body) parent valued) k s ≡ finish end k s'
unfolding M.block_run M.block_body K.parameters_bound give looked stored choose leaving ◌>>=◌ ◌>>◌
full_means around head body parent valued k s s' end kind few made =
    let entry = plain_entry (Y.BlockOf head body) parent valued in
    let inner = with_activation head entry s in
    let around' = at_line around head.line in
    let next : Unit {0} → Meaning (Unit {0}) =
    λ u. M.entry_act head.kind >> (M.block_list around' body valued) in
    ap (λ q. cond q (left (M.is_own_return head.kind) newest_ended (M.block_body around' head body entry k inner))
    (finish (E.Limit W.Depth) k s)) few
    ∙ ap (λ q. left q newest_ended (M.block_body around' head body entry k inner)) (own_return head.kind kind)
    ∙ ap (λ flow. left true newest_ended (flow_on k flow next)) made
    ∙ finish_all end k s' newest_ended next

-- ---- CALL

abbrev behind_made : Callee → Code
behind_made c =
    act_code c.procedure.head.line
    ++ (stmts_code c.environment none_taken c.procedure.body
    ++ (Mark (ReturnPlace c.procedure.head.number) ∷ end_of c.procedure))

pub full_call_ends :
    (words : ℕ) (k : Block) (c : Callee) (level line index left' more : ℕ) →
    IsNestedCall words k c level line index more →
    nat_lt (length k.first.state.activations) most_activations ≡ true →
    ((p : Point) (numbers : ℕ → ℕ) → IsAmong k numbers p → AreFull k.call.surroundings k.call.code c p numbers) →
    IsBegun k → (labels : List Label) → DoesWith words k labels (call_at c level line) index left'
unfolding M.statement ◌>>=◌ ◌>>◌
full_call_ends words k c level line index left' more h few full b labels p numbers credits wanted f o paid there =
    let w = k.call.surroundings in
    let code = k.call.code in
    let p' = acted line p in
    let x = c.procedure in
    let one = act_code line in
    let given' = given_in words k level in
    let call = call_of c in
    let eq = call_coded words k c level line in
    let l = subst (Linked w.links code index) eq h.statement in
    let n0 = size_append one (given' ++ call) in
    let size = ap (λ u. size_of u) eq in
    let tree = Y.Calling x.head.number level Y.NoArgument in
    let tail : Unit {0} → Meaning (Unit {0}) = λ u. V.called (at_line k.around line) tree >> give tt in
    let acts = p.state.world.acts in
    let aims = statement_aims k labels acts (index + size_with words k (call_at c level line)) wanted left' in
    let closed = statement_closed k labels acts (index + size_with words k (call_at c level line)) wanted left' in
    let shut = before_closed w.acts behind_call closed in
    let base = frame_at k.first.control.layers (parent_at k level) in
    let l1 = back_of one (given' ++ call) l in
    let n = size_append given' call in
    let n1 = size_append (begin_of x) (x.variables ++ behind_made c) in
    let n2 = size_append x.variables (behind_made c) in
    let inside = l1.inside in
    let proc = h.callee.stands.inside in
    let at_call = h.call in
    comes_on w.acts (act counted w.acts p.state) tail
    (act_comes (before_closed w.acts tail closed) line credits 0 f (o.stands, o.image)
    (h.line_fits, h.callee.acts, omega (arith, paid, n0, size)) (front_of one (given' ++ call) l) there
    (λ g less at.
    let o' = acted_among line o less in
    let made = full p' numbers o' in
    let q : Premises w code p' numbers (beginning_for w p' numbers x c.calling) = record {
      stands = o'.stands;
      image = o'.image;
      is = layer_begins w code p' numbers x c.calling (o'.stands, o'.image) (h.callee.coded, room_among h few o')
          o'.words;
    } in
    comes_on w.acts (V.called (at_line k.around line) tree w.acts p'.state) behind_call
    (subst (Comes code 0 g (services_of p') (before code aims w.acts behind_call))
    (sym (called_means h o' ∙ full_means c.around x.head x.body c.calling.parent false w.acts p'.state made.state
    (E.Limit W.Automatic) h.callee.kind
    (subst (λ xs. nat_lt (length xs) most_activations ≡ true) (sym o'.later.activations) few) made.means))
    (onward shut
    (given (level == k.environment.level) words level base (beginning_for w p' numbers x c.calling)
    (index + size_of one) 0 g o'.stands o'.image (h.low, refl) (parent_reached level h.nested b o' h.around_it) (
      parent_inside level h.nested o' h.around_it,
      ap (λ ls. frame_at ls (parent_at k level)) (sym o'.later.layers)
          ∙ ap (λ j. frame_at p'.control.layers j) (sym h.parent),
    )
    (front_of given' call l1) at)
    (λ g' at'.
    onward shut
    (calls (0 + size_of given') c.calling.call c.calling.entry g' q
    (record {
      calls = h.callee.calls;
      place = h.callee.place;
      begins = front_of (begin_of x) (x.variables ++ behind_made c) h.callee.stands;
      back = refl;
    })
    (λ b'. subst (λ j. IsIn w p' numbers j b' (g' b')) (omega (arith, n, n0, size, at_call)) (at' b').0)
    (λ b'. (at' b').1))
    (λ g'' at''.
    over_comes (E.Limit W.Automatic) w.acts made.state
    (made.ends (0 + size_of given' + 2 + size_of (begin_of x)) g'' (begun_stands q)
    (omega (arith, n, n1, n2, inside, proc))
    (front_of x.variables (behind_made c)
    (back_of (begin_of x) (x.variables ++ behind_made c) h.callee.stands)) at'')))))))

-- ---- a call in an expression

abbrev behind_own : Callee → Code
behind_own c =
    act_code c.procedure.head.line
    ++ (stmts_code c.environment none_taken c.procedure.body ++ function_tail c.procedure)

pub full_function_ends :
    (k : Setting) (c : Callee) (level more : ℕ) → IsNestedFunction k c level more →
    nat_lt (length k.block.first.state.activations) most_activations ≡ true →
    ((call : ℕ) (p : Point) (numbers : ℕ → ℕ) → IsAmong k.block numbers p →
    AreFull k.block.call.surroundings k.block.call.code (called_from c call) p numbers) →
    L.Does k 0 (value_at c level)
unfolding V.number ◌>>=◌
full_function_ends k c level more h few full p numbers taken credits index f o line registers l paid there =
    let w = k.block.call.surroundings in
    let code = k.block.call.code in
    let x = c.procedure in
    let given' = N.given_in k level in
    let call' = call_of c in
    let eq = value_coded k c level taken in
    let part = number_code k.block.environment (in_registers k.words taken) (value_at c level) in
    let size = ap (λ u. size_of u) eq in
    let n = size_append given' call' in
    let n1 = size_append (begin_of x) (x.variables ++ behind_own c) in
    let n2 = size_append x.variables (behind_own c) in
    let l' = subst (Linked w.links code index) eq l in
    let call = index + size_of given' in
    let c' = called_from c call in
    let y = behind p numbers taken credits index part in
    let goal = number_aims k.block k.labels y in
    let closed = before_closed w.acts as_number (number_closed k.block k.labels y) in
    let tree = Y.Calling x.head.number level Y.NoArgument in
    let base = frame_at k.block.first.control.layers (parent_at k.block level) in
    let most = h.most in
    let inside = l'.inside in
    let small' = l'.small' in
    let made = full call p numbers o in
    let q : Premises w code p numbers (function_beginning w p numbers x c'.calling) = record {
      stands = o.stands;
      image = o.image;
      is = function_begins w code p numbers c' (o.stands, o.image)
          (function_from k c call h.function, N.room_among k c level more h few o call)
          (omega (arith, inside, small', n)) o.words;
    } in
    comes_on w.acts (V.called k.around tree w.acts p.state) as_number
    (subst (Comes code credits f (services_of p) (before code goal w.acts as_number))
    (sym (N.called_means k c level more h o ∙ full_means c.around x.head x.body c.calling.parent true w.acts p.state
    made.state (E.Limit W.Automatic) h.function.kind
    (subst (λ xs. nat_lt (length xs) most_activations ≡ true) (sym o.later.activations) few) made.means))
    (onward closed
    (given (level == k.block.environment.level) k.words level base
    (function_beginning w p numbers x c.calling) index credits f o.stands o.image (h.words, refl)
    (parent_reached level h.nested h.begun o h.around_it) (
      parent_inside level h.nested o h.around_it,
      ap (λ ls. frame_at ls (parent_at k.block level)) (sym o.later.layers)
          ∙ ap (λ j. frame_at p.control.layers j) (sym h.parent),
    )
    (front_of given' call' l') there)
    (λ g at.
    onward closed
    (calls (credits + size_of given') call c.calling.entry g q
    (record {
      calls = back_of given' call' l';
      place = h.function.place;
      begins = front_of (begin_of x) (x.variables ++ behind_own c) h.function.stands;
      back = refl;
    })
    (λ b'. (at b').0)
    (λ b'. record { parent = (at b').1.parent; texts = (at b').1.texts }))
    (λ g' at'.
    over_comes (E.Limit W.Automatic) w.acts made.state
    (made.ends (credits + size_of given' + 2 + size_of (begin_of x)) g' (begun_stands q)
    (omega (arith, n, n1, n2, paid, most, size))
    (front_of x.variables (behind_own c)
    (back_of (begin_of x) (x.variables ++ behind_own c) h.function.stands)) at')))))
