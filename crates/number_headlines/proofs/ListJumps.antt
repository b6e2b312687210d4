-- Calls with a list of arguments, statements and in expressions, of what may jump out.
use Rattle.std.proofs.Common.{ℕ, ◌+◌, List, [], ◌++◌, None, Some, refl, ap, arith}
use Rattle.pli_language.specs.declared.condition.Condition.TheVariants as C
use Rattle.pli_meaning.specs.Control.{Label, give}
use Rattle.pli_meaning.specs.Executing as M
use Rattle.pli_meaning.specs.Executing.{labels_in}
use Rattle.pli_meaning.specs.Raising.{Around}
use Rattle.pli_meaning.specs.StorageState.{force}
use Rattle.pli_meaning.specs.World.{World}
use Rattle.activation_relation.specs.Layers.{Point}
use Rattle.activation_relation.specs.ServiceLaws.{IsSystem}
use Rattle.run_steps.specs.Reach.{before}
use Rattle.block_runs.proofs.CallStatements.{comes_map}
use Rattle.program_runs.specs.Calls.{left_over}
use Rattle.program_runs.specs.Procedures.{IsCoded, block_of}
use Rattle.program_runs.specs.Statements.{Block, DoesWith, EachDoes, IsAmong, IsBegun, size_with, statement_aims}
use Rattle.program_runs.proofs.JumpsOut.{jumps_since}
use Rattle.expression_runs.specs.Laws as L
use Rattle.expression_runs.specs.Values.{Setting, number_aims}
use Rattle.argument_runs.specs.CopyFunctions.{number_function}
use Rattle.word_runs.proofs.Words.{jumps_back}
use Rattle.jump_runs.specs.Exits.{hand_aims}
use Rattle.list_calls.specs.Arguments.{ComeTo}
use Rattle.list_calls.specs.ListCalls.{ArgumentsGive, IsListedCall, Listed, PassesNone, called_with, listed_call}
use Rattle.list_calls.specs.ListFunctions.{IsListedValue, ValuesGive, listed_there, listed_value, value_block}
use Rattle.list_calls.specs.ListFunctions.{value_with}
use Rattle.list_calls.specs.Lists.{Passing}
use Rattle.list_calls.specs.Taking.{AreBeside, body_index, bound_waits, entry_of}
use Rattle.list_calls.proofs.ListCalls as P
use Rattle.list_calls.proofs.ListCalls.{entering_among, listed_call_comes, words_stay}
use Rattle.list_calls.proofs.ListFunctions as F
use Rattle.list_calls.proofs.ListFunctions.{declared_there, entering_there, function_there, listed_function_comes}
use Rattle.number_headlines.proofs.ListHands.{callers_of, function_exits, given_begun, given_block, list_hands}
use Rattle.number_headlines.proofs.ListHands.{procedure_exits}

pub listed_jump_call_does :
    (k : Block) (u : Listed) (labels : List Label) (line index left' need most more : ℕ) →
    IsListedCall k u line index need most more → PassesNone k.first u.ways →
    ArgumentsGive k u labels line need most →
    ((p : Point) (numbers : ℕ → ℕ) (ys : List Passing) → IsAmong k numbers p → ComeTo u.ways ys →
    AreBeside None (called_with k u p numbers ys) u.made) →
    ((p : Point) (numbers : ℕ → ℕ) (ys : List Passing) → IsAmong k numbers p → ComeTo u.ways ys →
    IsBegun (given_block None (called_with k u p numbers ys) u.made (callers_of k u p numbers ys labels)) →
    EachDoes (given_block None (called_with k u p numbers ys) u.made (callers_of k u p numbers ys labels))
    (labels_in u.callee.procedure.body ++ []) u.callee.procedure.body (body_index u.callee) left_over) →
    DoesWith u.words k labels (listed_call u line) index left'
unfolding give
listed_jump_call_does k u labels line index left' need most more h none give' made' each =
    listed_call_comes k u labels line index left' need most more h give'
    (λ acts wanted ys come p numbers o since credits g paid there gives.
    let x = called_with k u p numbers ys in
    let w = k.call.surroundings in
    let made = made' p numbers ys o come in
    let enough = h.declared.enough in
    let turns = ap (λ (a : Around). a.turns) h.around in
    let later = o.later.acts in
    let same = ap (λ (t : World). t.acts) made.world in
    let os = callers_of k u p numbers ys labels in
    let acts' = p.state.world.acts in
    comes_map (hand_aims (given_block None x u.made os) acts' wanted)
    (before k.call.code (statement_aims k labels acts (index + size_with u.words k (listed_call u line)) wanted left')
    w.acts P.behind_call) refl
    (M.block_run u.callee.around (block_of u.callee.procedure) (entry_of None x) w.acts p.state)
    (λ c1 f1 v1 r t e. record { to = λ early. P.behind_goes ys h o since e })
    (λ c1 f1 v1 height label t e.
    jumps_since since
    (jumps_back k u.layer u.others (bound_waits x) h.declared.space.newest (words_stay x h.declared refl refl)
    (record { to = e })))
    (λ c1 f1 v1 r t e. absurd e)
    (list_hands os acts' credits wanted g (entering_among ys h none o come made)
    (procedure_exits x u.made os acts' h.callee (omega (arith, same))
    (given_begun None k u labels ys h.declared.begun h.declared.space.newest o) (each p numbers ys o come)
    (omega (arith, enough, turns, later, same))) paid there gives))

pub listed_jump_function_does :
    (k : Setting) (u : Listed) (need more : ℕ) → IsListedValue k u more → PassesNone k.block.first u.ways →
    ValuesGive k u need →
    ((call : ℕ) (p : Point) (numbers : ℕ → ℕ) (ys : List Passing) → IsAmong k.block numbers p → ComeTo u.ways ys →
    AreBeside (Some number_function) (value_with k u call p numbers ys) u.made
    × IsSystem (force (value_block k u call p numbers ys).first.state.activations C.Error)) →
    ((call : ℕ) (p : Point) (numbers : ℕ → ℕ) (ys : List Passing) → IsAmong k.block numbers p → ComeTo u.ways ys →
    IsCoded u.callee.procedure (listed_there u call).callee.calling →
    IsBegun (given_block (Some number_function) (value_with k u call p numbers ys) u.made
    (callers_of k.block (listed_there u call) p numbers ys k.labels)) →
    EachDoes (given_block (Some number_function) (value_with k u call p numbers ys) u.made
    (callers_of k.block (listed_there u call) p numbers ys k.labels)) (labels_in u.callee.procedure.body ++ [])
    u.callee.procedure.body (body_index u.callee) left_over) →
    L.Does k need (listed_value u)
listed_jump_function_does k u need more h none give' made' each =
    listed_function_comes k u need more h give'
    (λ call x ys come p numbers o since line stays calls at credits g paid there gives.
    let t = value_with k u call p numbers ys in
    let v = listed_there u call in
    let w = k.block.call.surroundings in
    let made = made' call p numbers ys o come in
    let d = declared_there call h.declared in
    let enough = h.declared.enough in
    let turns = ap (λ (a : Around). a.turns) h.around in
    let later = o.later.acts in
    let most = h.most in
    let same = ap (λ (e : World). e.acts) made.0.world in
    let os = callers_of k.block v p numbers ys k.labels in
    let entering = entering_there call ys h none o come calls made.0 in
    comes_map (hand_aims (given_block (Some number_function) t u.made os) p.state.world.acts x.wanted)
    (before k.block.call.code (number_aims k.block k.labels x) w.acts F.as_number) refl
    (M.block_run u.callee.around (block_of u.callee.procedure) (entry_of (Some number_function) t) w.acts p.state)
    (λ c1 f1 v1 r s e. F.behind_goes {x = x} call ys h o since line stays at c1 f1 v1 r s e)
    (λ c1 f1 v1 height label s e.
    jumps_since since
    (jumps_back k.block u.layer u.others (bound_waits t) d.space.newest (words_stay t d refl refl)
    (record { to = e })))
    (λ c1 f1 v1 r s e. absurd e)
    (list_hands os p.state.world.acts credits x.wanted g entering
    (function_exits t u.made os (function_there k u call h.function) (omega (arith, same))
    (given_begun (Some number_function) k.block v k.labels ys d.begun d.space.newest o)
    (each call p numbers ys o come entering.here.coded) made.1
    (omega (arith, enough, turns, later, same))) (omega (arith, paid, most)) there gives))
