-- A call with a list of arguments comes behind it, or hands on a jump of what is called: to a label of the calling
-- block, which forgets the words of the list, or of one further out.
use Rattle.std.proofs.Common.{◌≡◌, ℕ, ◌+◌, ◌<◌, ◌≤◌, List, [], ◌∷◌, ◌++◌, Option, None, Some, false, true, refl, sym}
use Rattle.std.proofs.Common.{ap, subst, arith}
use Rattle.std.proofs.lemmas.List.{append_assoc}
use Rattle.pli_language.specs.declared.condition.Condition.TheVariants as C
use Rattle.pli_typing.specs.TypedTree as Y
use Rattle.pli_meaning.specs.Control.{Label, Meaning, act, left, ◌>>◌}
use Rattle.pli_meaning.specs.Executing as M
use Rattle.pli_meaning.specs.Executing.{labels_in}
use Rattle.pli_meaning.specs.Raising.{Around, at_line}
use Rattle.pli_meaning.specs.StorageState.{State, force, newest_ended}
use Rattle.pli_meaning.specs.World.{counted}
use Rattle.pli_coding.specs.Allocating.{act_code}
use Rattle.pli_coding.specs.Assembly.{Mark, ReturnPlace, size_of}
use Rattle.pli_coding.specs.Environments.{none_taken}
use Rattle.pli_coding.specs.Procedures.{no_value}
use Rattle.pli_coding.specs.Statements.{stmts_code}
use Rattle.activation_relation.specs.Landing.{closed, either, is_begin}
use Rattle.activation_relation.specs.Layers.{Layer, Point, services_of}
use Rattle.activation_relation.specs.ServiceLaws.{IsSystem}
use Rattle.run_steps.specs.Engine.{Base}
use Rattle.run_steps.specs.Items.{Linked}
use Rattle.run_steps.proofs.Jumps.{back_of, front_of}
use Rattle.run_steps.proofs.Linking.{size_append}
use Rattle.run_steps.specs.Owing.{owing}
use Rattle.run_steps.proofs.Owing.{comes_owing, owing_closed}
use Rattle.run_steps.specs.Reach.{Comes, Family, cost}
use Rattle.run_steps.proofs.Reach.{before_closed, comes_on, onward}
use Rattle.block_runs.specs.Bodies.{AtEnd, Function, place_in}
use Rattle.block_runs.specs.Endings.{ending_code}
use Rattle.block_runs.specs.Machines.{AreIn, IsIn}
use Rattle.block_runs.proofs.CallStatements.{comes_map}
use Rattle.block_runs.proofs.CallsReturn.{at_end_owing}
use Rattle.block_runs.proofs.Early.{comes_early}
use Rattle.block_runs.proofs.EmptyCalls.{comes_left, left_aims, left_closed}
use Rattle.block_runs.proofs.PointActs.{act_comes}
use Rattle.program_runs.specs.Calls.{left_over}
use Rattle.program_runs.specs.Procedures.{block_of}
use Rattle.program_runs.specs.Statements.{Block, EachDoes, IsAmong, IsBegun, Outer, ReturnsOut, as_outer}
use Rattle.program_runs.specs.Statements.{statement_aims}
use Rattle.program_runs.proofs.JumpsOut.{outs_repaid, outs_since}
use Rattle.program_runs.proofs.Lists.{list_does}
use Rattle.program_runs.proofs.Statements.{at_end}
use Rattle.program_runs.proofs.Waiting.{outer_among}
use Rattle.function_runs.specs.Functions.{function_end, function_tail}
use Rattle.begin_runs.proofs.Begins.{out_of_all}
use Rattle.argument_runs.specs.CopyCalls.{is_value}
use Rattle.argument_runs.specs.CopyFunctions.{number_function}
use Rattle.argument_runs.specs.ListBeginnings.{IsListing, KeepsList, listed_code}
use Rattle.argument_runs.specs.ListCalls.{Giving, IsGiving, entered_point}
use Rattle.argument_runs.proofs.CopyBlocks.{behind_list, run_means}
use Rattle.argument_runs.proofs.ListBeginnings.{list_begins}
use Rattle.given_calls.specs.Given.{procedure_tail}
use Rattle.word_runs.specs.Words.{telling}
use Rattle.word_runs.proofs.Words.{begun_telling, told_among}
use Rattle.jump_runs.specs.Exits.{exit_aims, hand_aims}
use Rattle.jump_runs.specs.Functions.{IsFunctionList}
use Rattle.jump_runs.proofs.Exits.{exit_closed}
use Rattle.jump_runs.proofs.FunctionLists.{each_ends, system_ends}
use Rattle.list_calls.specs.ListCalls.{Listed, called_with}
use Rattle.list_calls.specs.ListFunctions.{IsTakingFunction}
use Rattle.list_calls.specs.Lists.{Passing}
use Rattle.list_calls.specs.Taking.{IsTaking, ListCall, beginning_of, body_index, bound_point, bound_waits}
use Rattle.list_calls.specs.Taking.{copies_code, entry_of, given_point, giving_of, list_block, list_of, listed_layer}
use Rattle.list_calls.specs.Taking.{listing_of, taking_code}
use Rattle.list_calls.proofs.ListBlocks.{Entering, all_come, all_known, behind_copies, body_means, copies_linked}
use Rattle.list_calls.proofs.ListBlocks.{first_among, first_begun, is_giving, layer_is}

-- ---- its block, with others further out

abbrev pub given_block : Option Function → ListCall → (made : Point → Point) → List Outer → Block
given_block g y made os = record (list_block g y made) { outers = os }

-- the calling block as one of them, with what its words tell meanwhile
abbrev pub callers_of : Block → Listed → Point → (numbers : ℕ → ℕ) → List Passing → List Label → List Outer
callers_of k u p numbers ys labels =
    as_outer (telling (bound_waits (called_with k u p numbers ys)) u.layer u.others k) labels ∷ k.outers

among_given :
    (g : Option Function) (y : ListCall) (made : Point → Point) (os : List Outer) {numbers : ℕ → ℕ} {p : Point} →
    IsAmong (list_block g y made) numbers p → IsAmong (given_block g y made os) numbers p
among_given g y made os o =
    record {
      stands = o.stands;
      image = o.image;
      later = o.later;
      few = o.few;
      entries = o.entries;
      others = o.others;
      words = o.words;
    }

pub given_begun :
    (g : Option Function) (k : Block) (u : Listed) (labels : List Label) {numbers : ℕ → ℕ} {p : Point}
    (ys : List Passing) → IsBegun k → k.first.control.layers ≡ u.layer ∷ u.others → IsAmong k numbers p →
    IsBegun (list_block g (called_with k u p numbers ys) u.made) →
    IsBegun (given_block g (called_with k u p numbers ys) u.made (callers_of k u p numbers ys labels))
given_begun g k u labels {numbers} {p} ys b newest o b' =
    let waits = bound_waits (called_with k u p numbers ys) in
    let z = telling waits u.layer u.others k in
    let told = begun_telling k u.layer u.others waits newest b in
    record {
      activation = b'.activation;
      resumes = b'.resumes;
      acts = b'.acts;
      remains = b'.remains;
      outer = (
        record {
          activation = told.activation;
          resumes = told.resumes;
          remains = told.remains;
          numbers = numbers;
          among = outer_among z labels [] told (told_among k u.layer u.others waits newest o);
        },
        told.outer,
      );
    }

-- ---- the call

pub list_calls_hand :
    (k : Block) (g : Giving) (part : Meaning (Unit {0})) (acts credits left' wanted : ℕ) (f : Family) →
    IsGiving k.call g →
    ((h : Family) →
    ((b : Base) → IsIn k.call.surroundings (entered_point g) k.call.numbers
    (k.call.entry + size_of (listed_code g.beginning g.parameters)) b (h b) × KeepsList g.list b (h b)) →
    Comes k.call.code
    (credits + (left' + size_of (ending_code k.call.beginning.layer (place_in k.call.function))) + 2
    + size_of (listed_code g.beginning g.parameters)) h (services_of (entered_point g)) (exit_aims k acts left')
    (part k.call.surroundings.acts (entered_point g).state)) →
    AreIn k.call.surroundings g.point k.call.numbers k.call.call f →
    ((b : Base) → IsListing g.point g.beginning g.list b (f b)) →
    Comes k.call.code credits f (services_of g.point) (hand_aims k acts wanted)
    (left true newest_ended (part k.call.surroundings.acts (entered_point g).state))
list_calls_hand k g part acts credits left' wanted f is body there gives =
    let x = k.call in
    let debt = left' + size_of (ending_code x.beginning.layer (place_in x.function)) in
    let aims = hand_aims k acts wanted in
    let owed = owing x.code debt aims in
    let flow = part x.surroundings.acts (entered_point g).state in
    comes_owing debt (left true newest_ended flow)
    (comes_left newest_ended flow
    (onward (left_closed newest_ended (owing_closed x.code debt aims))
    (list_begins (credits + debt) f is.listing is.call there gives)
    (λ h at.
    comes_map (exit_aims k acts left') (left_aims newest_ended owed) refl flow
    (λ c g' v u s o. at_end_owing x left' wanted c g' v None s is.ending o)
    (λ c g' v height label s o i0 f0 v0 from.
    outs_repaid x.surroundings k.outers acts i0 height label (closed s) debt from o)
    (λ c g' v r s o. at_end_owing x left' wanted c g' v r s is.ending o)
    (body h at))))

-- what is asked of its body: from its first statement it comes to the block's end, or to a label further out
abbrev pub BodyExits :
    Option Function → ListCall → (made : Point → Point) → List Outer → (acts : ℕ) → Type 0
BodyExits g y made os acts =
    IsBegun (list_block g y made) → IsAmong (given_block g y made os) y.numbers (given_block g y made os).first →
    (f : Family) → AreIn y.surroundings (list_block g y made).first y.numbers (body_index y.callee) f →
    Comes y.code 0 f (services_of (list_block g y made).first) (exit_aims (given_block g y made os) acts left_over)
    (behind_list (at_line y.callee.around y.callee.procedure.head.line) y.callee.procedure.body (is_value g)
    y.surroundings.acts (list_block g y made).first.state)

pub list_hands :
    {g : Option Function} {y : ListCall} {tail : _} {made : Point → Point} (os : List Outer)
    (acts credits wanted : ℕ) (f : Family) (h : Entering g y made tail) → BodyExits g y made os acts →
    credits + 4 + size_of (taking_code y.callee tail) ≤ cost y.code →
    AreIn y.surroundings (given_point y) y.numbers y.callee.calling.call f →
    ((b : Base) → IsListing (given_point y) (beginning_of g y) (list_of y) b (f b)) →
    Comes y.code credits f (services_of (given_point y)) (hand_aims (given_block g y made os) acts wanted)
    (M.block_run y.callee.around (block_of y.callee.procedure) (entry_of g y) y.surroundings.acts y.point.state)
unfolding ◌>>◌
list_hands {g} {y} {tail} {made} os acts credits wanted f h body_comes paid there gives =
    let w = y.surroundings in
    let c = y.callee in
    let k = given_block g y made os in
    let x = c.procedure in
    let one = act_code x.head.line in
    let body = stmts_code c.environment none_taken x.body in
    let copies = copies_code c in
    let behind' = x.variables ++ (one ++ (body ++ tail)) in
    let l0 = copies_linked h.code in
    let l1 = back_of copies behind' l0 in
    let l2 = back_of x.variables (one ++ (body ++ tail)) l1 in
    let n0 = size_append (listing_of c) (copies ++ behind') in
    let n1 = size_append copies behind' in
    let n2 = size_append x.variables (one ++ (body ++ tail)) in
    let n3 = size_append one (body ++ tail) in
    let n4 = size_append body tail in
    let long = h.long in
    let ends' = ap (λ ψ. size_of (ending_code ψ (place_in g))) (layer_is c.parameters y.passed (listed_layer y)) in
    let around' = at_line c.around x.head.line in
    let next' : Unit {0} → Meaning (Unit {0}) = λ u. behind_list around' x.body (is_value g) in
    let start = entered_point (giving_of g y) in
    let then' = made (bound_point g y) in
    let known = all_known h.here h.shallow in
    let there' = h.beside.stands known in
    let closed = exit_closed k acts left_over in
    let ends = size_of (ending_code k.call.beginning.layer (place_in g)) in
    let c0 = credits + (left_over + ends) + 2 + size_of (listing_of c) in
    subst (λ flow. Comes y.code credits f (services_of (given_point y)) (hand_aims k acts wanted) flow)
    (sym (run_means c.around x.head x.body (entry_of g y) w.acts y.point.state h.code.kind h.shallow))
    (comes_early w refl there
    (λ early.
    list_calls_hand k (giving_of g y) (M.block_body around' x.head x.body (entry_of g y)) acts credits left_over
    wanted f (is_giving h)
    (λ g1 at.
    subst (λ flow. Comes y.code c0 g1 (services_of start) (exit_aims k acts left_over) flow) (sym (body_means h))
    (onward closed
    (all_come h.here h.code h.shallow h.within c0 g1 at)
    (λ g2 at2.
    onward closed
    (h.beside.comes (c0 + size_of copies) g2 known (front_of x.variables (one ++ (body ++ tail)) l1) at2)
    (λ g3 at3.
    comes_on w.acts (act counted w.acts then'.state) next'
    (act_comes (before_closed w.acts next' closed) x.head.line (c0 + size_of copies + size_of x.variables) 0 g3 there'
    (h.here.coded.line, h.code.acts, omega (arith, n0, n1, n2, n3, n4, long, ends', paid))
    (front_of one (body ++ tail) l2) at3
    (λ g4 less at4.
    let o = first_among h early less in
    body_comes (first_begun h o.stands) (among_given g y made os o) g4 at4)))))) there gives))

-- ---- a procedure's statements

end_nothing :
    (around : Around) (body : Y.Stmts) (k : ℕ) (s : State) → behind_list around body false k s ≡ M.list around body k s
unfolding M.block_list
end_nothing around body k s = refl

pub procedure_exits :
    (y : ListCall) (made : Point → Point) (os : List Outer) (acts : ℕ)
    (callee : IsTaking y.surroundings y.code y.callee) →
    acts ≤ (list_block None y made).first.state.world.acts →
    (IsBegun (list_block None y made) → IsBegun (given_block None y made os)) →
    (IsBegun (given_block None y made os) →
    EachDoes (given_block None y made os) (labels_in y.callee.procedure.body ++ []) y.callee.procedure.body
    (body_index y.callee) left_over) →
    y.surroundings.acts < y.callee.around.turns + (list_block None y made).first.state.world.acts →
    BodyExits None y made os acts
procedure_exits y made os acts callee since begun each few bare o f there =
    let k = given_block None y made os in
    let b = begun bare in
    let c = y.callee in
    let x = c.procedure in
    let one = act_code x.head.line in
    let body = stmts_code c.environment none_taken x.body in
    let tail = procedure_tail x in
    let copies = copies_code c in
    let l0 = back_of (listing_of c) (copies ++ behind_copies c tail) callee.stands in
    let l1 = back_of copies (behind_copies c tail) l0 in
    let l2 = back_of one (body ++ tail) (back_of x.variables (one ++ (body ++ tail)) l1) in
    let l3 = front_of body tail l2 in
    let inside = l3.inside in
    let kind = ap (λ (ψ : Layer). ψ.kind) (layer_is c.parameters y.passed (listed_layer y)) in
    let saved = ap (λ (ψ : Layer). ψ.saved) (layer_is c.parameters y.passed (listed_layer y)) in
    let flow = M.list k.around x.body y.surroundings.acts k.first.state in
    let first = k.first.state.world.acts in
    subst (λ u. Comes y.code 0 f (services_of k.first) (exit_aims k acts left_over) u)
    (sym (end_nothing k.around x.body y.surroundings.acts k.first.state))
    (comes_map (statement_aims k [] first c.calling.end left_over left_over) (exit_aims k acts left_over) refl flow
    (λ c' f' v' r s q. at_end b refl (omega (arith, saved)) q)
    (λ c' f' v' height label s q.
    outs_since y.surroundings y.code os acts first c' f' v' height label (closed s) since (out_of_all q))
    (λ c' f' v' r s q.
    subst (λ i. either (is_begin i) (ReturnsOut y.surroundings y.code os left_over c' f' v' r (closed s))
    (AtEnd k.call left_over c' f' v' r s)) kind q.to)
    (subst (λ j. Comes y.code 0 f (services_of k.first) (statement_aims k [] first j left_over left_over) flow)
    (sym callee.end)
    (list_does k [] x.body (body_index c) left_over k.first y.numbers 0 left_over f b few (each b) callee.labels o l3
    (omega arith, omega (arith, inside)) there)))

-- ---- a function's, behind which ERROR is raised

pub function_exits :
    (y : ListCall) (made : Point → Point) (os : List Outer) (h : IsTakingFunction y.surroundings y.code y.callee) →
    y.point.state.world.acts ≤ (list_block (Some number_function) y made).first.state.world.acts →
    (IsBegun (list_block (Some number_function) y made) → IsBegun (given_block (Some number_function) y made os)) →
    (IsBegun (given_block (Some number_function) y made os) →
    EachDoes (given_block (Some number_function) y made os) (labels_in y.callee.procedure.body ++ [])
    y.callee.procedure.body (body_index y.callee) left_over) →
    IsSystem (force (list_block (Some number_function) y made).first.state.activations C.Error) →
    y.surroundings.acts < y.callee.around.turns + (list_block (Some number_function) y made).first.state.world.acts →
    BodyExits (Some number_function) y made os y.point.state.world.acts
function_exits y made os h since begun each only few bare o f there =
    let k = given_block (Some number_function) y made os in
    let b = begun bare in
    let c = y.callee in
    let x = c.procedure in
    let one = act_code x.head.line in
    let body = stmts_code c.environment none_taken x.body in
    let lacks = no_value x.head.line in
    let last = Mark (ReturnPlace x.head.number) ∷ function_end x in
    let tail = function_tail x in
    let copies = copies_code c in
    let l0 = back_of (listing_of c) (copies ++ behind_copies c tail) h.stands in
    let l1 = back_of x.variables (one ++ (body ++ tail)) (back_of copies (behind_copies c tail) l0) in
    let l2 = back_of one (body ++ tail) l1 in
    let kind = ap (λ (ψ : Layer). ψ.kind) (layer_is c.parameters y.passed (listed_layer y)) in
    let z : IsFunctionList k x.body (body_index c) = record {
      begun = b;
      among = o;
      linked = front_of (body ++ lacks) last
          (subst (Linked y.surroundings.links y.code (body_index c)) (sym (append_assoc body lacks last)) l2);
      kind = ap is_begin kind;
      line = h.line;
      acts = h.acts;
      called = since;
      enough = few;
      routines = h.routines;
      raises = h.raises;
    } in
    each_ends k x.body (body_index c) z h.labels (each b) (system_ends k x.body (body_index c) [] z only) f there
