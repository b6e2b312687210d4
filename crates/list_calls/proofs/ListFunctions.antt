-- Functions with a list of parameters, and calls of them in expressions.
use Rattle.std.proofs.Common.{◌≡◌, ℕ, ◌+◌, ◌*◌, ◌<◌, ◌≤◌, List, [], ◌∷◌, ◌++◌, length, Option, None, Some, false}
use Rattle.std.proofs.Common.{true, refl, sym, ap, ◌∙◌, subst, arith, ℤ}
use Rattle.std.specs.Prelude.{nat_lt}
use Rattle.pli_meaning.specs.BasicValues.{BasicValue, BasicNumber, BasicBit, BasicOffset, BasicPointer, BasicText}
use Rattle.pli_meaning.specs.Control.{Meaning, flow_on, give, ◌>>=◌}
use Rattle.pli_meaning.specs.DeclaredShapes.{procedure_numbered}
use Rattle.pli_meaning.specs.Executing.{begun, labels_in}
use Rattle.pli_meaning.specs.Raising.{Around, Passed, error}
use Rattle.pli_meaning.specs.StorageState.{State, most_activations, force}
use Rattle.pli_meaning.specs.World.{World}
use Rattle.pli_serving.specs.ServiceState.{Services}
use Rattle.pli_coding.specs.Allocating.{act_code}
use Rattle.pli_coding.specs.Assembly.{Mark, ReturnPlace, size_of, Code}
use Rattle.pli_coding.specs.Environments.{none_taken}
use Rattle.pli_coding.specs.Statements.{stmts_code}
use Rattle.activation_relation.specs.Landing.{either, is_begin}
use Rattle.activation_relation.specs.Layers.{Layer, Point, services_of}
use Rattle.run_steps.specs.Engine.{Base}
use Rattle.run_steps.specs.Items.{Linked}
use Rattle.run_steps.proofs.Jumps.{back_of, front_of, linked_at, rest_of}
use Rattle.run_steps.proofs.Linking.{size_append}
use Rattle.run_steps.specs.Reach.{Comes, Family, Reach, before, cost}
use Rattle.run_steps.proofs.Reach.{before_closed, comes_on, onward, reach_map}
use Rattle.block_runs.specs.Bodies.{AtEnd, IsBehind, behind_aims, body_aims}
use Rattle.block_runs.specs.Machines.{AreIn, IsIn}
use Rattle.block_runs.proofs.CallStatements.{comes_map}
use Rattle.program_runs.specs.Calls.{left_over}
use Rattle.program_runs.specs.Procedures.{IsCoded, block_of}
use Rattle.program_runs.specs.Statements.{Block, EachDoes, IsAmong, IsBegun, statement_aims}
use Rattle.program_runs.proofs.JumpsOut.{no_jump}
use Rattle.program_runs.proofs.Lists.{list_does}
use Rattle.expression_runs.specs.Values.{Stretch, behind, Setting, in_registers, number_aims}
use Rattle.argument_runs.specs.ListBeginnings.{IsListing}
use Rattle.argument_runs.specs.Lists.{layered}
use Rattle.word_runs.proofs.Words.{in_fewer, untold_among}
use Rattle.list_calls.specs.Arguments.{ComeTo, arguments_of}
use Rattle.list_calls.specs.ListCalls.{IsDeclared, Listed, PassesNone, all_words, calling_of, PassesLimit}
use Rattle.list_calls.specs.Lists.{Passing, all_passed, list_told}
use Rattle.list_calls.specs.Taking.{AreBeside, HasParameters, ListCall, beginning_of, body_index, bound_waits}
use Rattle.list_calls.specs.Taking.{called_of, copies_code, entry_of, given_point, list_block, list_of, listed_layer}
use Rattle.list_calls.specs.Taking.{listing_of, AreFullBeside, Taking}
use Rattle.list_calls.proofs.ListBlocks.{BodyComes, Entering, HasCode, Here, behind_copies, layer_is, list_runs}
use Rattle.list_calls.proofs.ListCode.{call_coded, given_list, giving_in, last_of}
use Rattle.list_calls.proofs.ListGiving.{HasPassed, all_last, arguments_come, evaluated, list_aims}
use Rattle.list_calls.proofs.ListCalls.{here_among, within_among, entered_means, untold, list_goes, words_stay}
use Rattle.list_calls.proofs.ListCalls.{forgets, back_is, among_told}
use Rattle.activation_relation.specs.ServiceLaws.{IsSystem}
use Rattle.program_runs.proofs.Calls.{body_closed}
use Rattle.rv_meaning.specs.Machine.{value}
use Rattle.rv_meaning.specs.Words.{word}
use Rattle.pli_coding.specs.Expressions.{number_code}
use Rattle.pli_coding.specs.Registers.{a0}
use Rattle.block_runs.proofs.PointGrounds.{point_frame}
use Rattle.pli_meaning.specs.Codes.{no_value_code}
use Rattle.pli_meaning.specs.Contents.{number_in}
use Rattle.pli_coding.specs.Procedures.{no_value}
use Rattle.program_runs.proofs.ListEnds.{list_comes}
use Rattle.expression_runs.proofs.Words.{number_closed}
use Rattle.function_runs.specs.Functions.{function_end, function_tail}
use Rattle.function_runs.proofs.NoValues.{value_lacks}
use Rattle.argument_runs.specs.CopyFunctions.{number_function}
use Rattle.list_calls.specs.ListFunctions.{value_block, value_with, listed_value, IsTakingFunction, taking_by}
use Rattle.list_calls.specs.ListFunctions.{listed_there, IsListedValue, ValuesGive}
use Rattle.list_calls.proofs.ListLimits.{deep_comes, full_comes, beside_comes, passed_among}
use Rattle.pli_typing.specs.TypedTree as Y
use Rattle.pli_meaning.specs.Evaluating as V
use Rattle.pli_meaning.specs.Executing as M
use Rattle.pli_language.specs.declared.condition.Condition.TheVariants as C
use Rattle.expression_runs.specs.Laws as L

-- ---- its statements, from behind the act of its entry

function_goes :
    (y : ListCall) (made : Point → Point) (h : IsTakingFunction y.surroundings y.code y.callee) →
    (IsBegun (list_block (Some number_function) y made) →
    EachDoes (list_block (Some number_function) y made) (labels_in y.callee.procedure.body ++ [])
    y.callee.procedure.body (body_index y.callee) left_over) →
    IsSystem (force (list_block (Some number_function) y made).first.state.activations C.Error) →
    y.surroundings.acts < y.callee.around.turns + (list_block (Some number_function) y made).first.state.world.acts →
    BodyComes (Some number_function) y made
function_goes y made h each only few b o f there =
    let k = list_block (Some number_function) y made in
    let w = y.surroundings in
    let code = y.code in
    let c = y.callee in
    let x = c.procedure in
    let one = act_code x.head.line in
    let body = stmts_code c.environment none_taken x.body in
    let lacks = no_value x.head.line in
    let tail = function_tail x in
    let copies = copies_code c in
    let l0 = back_of (listing_of c) (copies ++ behind_copies c tail) h.stands in
    let l1 = back_of x.variables (one ++ (body ++ tail)) (back_of copies (behind_copies c tail) l0) in
    let l2 = back_of one (body ++ tail) l1 in
    let l3 = front_of body tail l2 in
    let l4 = front_of lacks (Mark (ReturnPlace x.head.number) ∷ function_end x) (back_of body tail l2) in
    let inside = l3.inside in
    let last = l4.inside in
    let proc = h.routines.linked.inside in
    let kind = ap (λ (ψ : Layer). ψ.kind) (layer_is c.parameters y.passed (listed_layer y)) in
    let saved = ap (λ (ψ : Layer). ψ.saved) (layer_is c.parameters y.passed (listed_layer y)) in
    let flow = M.list k.around x.body w.acts k.first.state in
    let acts = k.first.state.world.acts in
    let next' : Unit {0} → Meaning (Unit {0}) = λ u. error k.around no_value_code in
    let aims = body_aims k.call left_over in
    list_comes k.around x.body w.acts k.first.state (λ height label s q. absurd q)
    (comes_on w.acts flow next'
    (comes_map (statement_aims k [] acts (body_index c + size_of body) left_over left_over)
    (before code aims w.acts next') refl flow
    (λ c' f' v' r s q.
    subst (λ u. Comes code c' f' v' aims (error k.around no_value_code w.acts u)) (sym q.state)
    (onward (body_closed k.call left_over) q.reach
    (λ g at.
    value_lacks (body_closed k.call left_over) h.routines k.around left_over g
    (point_frame q.among.stands q.among.image) (q.among.stands, q.among.image) h.line
    (omega (arith, last, proc), h.acts)
    h.raises (subst (λ xs. IsSystem (force xs C.Error)) (sym q.among.later.activations) only) l4 at)))
    (λ c' f' v' height label s q. no_jump refl q)
    (λ c' f' v' r s q.
    subst (λ i. either (is_begin i) ⊥ (AtEnd k.call left_over c' f' v' r s)) kind q.to)
    (list_does k [] x.body (body_index c) left_over k.first y.numbers 0 left_over f b few (each b) h.labels o l3
    (omega arith, omega (arith, inside)) there)))

-- ---- where it is called

-- it doesn't depend on where the call stands
pub declared_there :
    {k : Block} {u : Listed} {more : ℕ} (call : ℕ) → IsDeclared k u more → IsDeclared k (listed_there u call) more
declared_there call h =
    record {
      begun = h.begun;
      many = h.many;
      space = record {
        newest = h.space.newest;
        words = h.space.words;
        near = h.space.near;
        free = h.space.free;
        room = h.space.room;
        even = h.space.even;
        idle = h.space.idle;
        low = h.space.low;
        numbered = h.space.numbered;
      };
      small = h.small;
      nested = h.nested;
      around_it = h.around_it;
      inner = h.inner;
      parent = h.parent;
      enough = h.enough;
    }

parameters_there : {c : Taking} (call : ℕ) → HasParameters c → HasParameters (taking_by c call)
parameters_there call h =
    record {
      taken = record { copies = h.taken.copies; signed = h.taken.signed };
      some = h.some;
      few = h.few;
      apart = h.apart;
    }

pub function_there :
    (k : Setting) (u : Listed) (call : ℕ) →
    IsTakingFunction k.block.call.surroundings k.block.call.code u.callee →
    IsTakingFunction k.block.call.surroundings k.block.call.code (listed_there u call).callee
function_there k u call h =
    record {
      level = h.level;
      line = h.line;
      saved = h.saved;
      place = h.place;
      stands = h.stands;
      end = h.end;
      kind = h.kind;
      labels = h.labels;
      acts = h.acts;
      routines = h.routines;
      raises = h.raises;
      parameters = parameters_there call h.parameters;
    }

coded_there :
    {k : Setting} {u : Listed} {more : ℕ} (call : ℕ) → IsListedValue k u more →
    Linked k.block.call.surroundings.links k.block.call.code call (last_of u) →
    IsCoded u.callee.procedure (listed_there u call).callee.calling
coded_there call h calls =
    let f = h.function in
    let inside = calls.inside in
    let small' = calls.small' in
    record { level = f.level; line = f.line; saved = f.saved; back = omega (arith, inside, small') }

here_there :
    {k : Setting} {u : Listed} {more : ℕ} {numbers : ℕ → ℕ} {p : Point} (call : ℕ) (ys : List Passing) →
    IsListedValue k u more → IsAmong k.block numbers p → ComeTo u.ways ys →
    Linked k.block.call.surroundings.links k.block.call.code call (last_of u) →
    Here (Some number_function) (value_with k u call p numbers ys)
here_there {u = u} call ys h o come calls =
    here_among (Some number_function) {u = listed_there u call} ys (declared_there call h.declared)
    (coded_there call h calls) (parameters_there call h.function.parameters) o come

code_there :
    {k : Setting} {u : Listed} {more : ℕ} {numbers : ℕ → ℕ} {p : Point} (call : ℕ) (ys : List Passing) →
    IsListedValue k u more → Linked k.block.call.surroundings.links k.block.call.code call (last_of u) →
    HasCode (value_with k u call p numbers ys) (function_tail u.callee.procedure)
code_there call ys h calls =
    record {
      calls = calls;
      place = h.function.place;
      kind = h.function.kind;
      acts = h.function.acts;
      begins = h.function.stands;
    }

shallow_there :
    {k : Block} {numbers : ℕ → ℕ} {p : Point} → IsAmong k numbers p →
    nat_lt (length k.first.state.activations) most_activations ≡ true →
    nat_lt (length p.state.activations) most_activations ≡ true
shallow_there o few = subst (λ xs. nat_lt (length xs) most_activations ≡ true) (sym o.later.activations) few

pub entering_there :
    {k : Setting} {u : Listed} {more : ℕ} {numbers : ℕ → ℕ} {p : Point} (call : ℕ) (ys : List Passing) →
    IsListedValue k u more → PassesNone k.block.first u.ways → IsAmong k.block numbers p → ComeTo u.ways ys →
    Linked k.block.call.surroundings.links k.block.call.code call (last_of u) →
    AreBeside (Some number_function) (value_with k u call p numbers ys) u.made →
    Entering (Some number_function) (value_with k u call p numbers ys) u.made (function_tail u.callee.procedure)
entering_there {k} {u} call ys h none o come calls beside =
    let f = h.function in
    let c = u.callee in
    let x = c.procedure in
    let one = act_code x.head.line in
    let body = stmts_code c.environment none_taken x.body in
    let lacks = no_value x.head.line in
    let tail = function_tail x in
    let copies = copies_code c in
    let l0 = back_of (listing_of c) (copies ++ behind_copies c tail) f.stands in
    let l1 = back_of x.variables (one ++ (body ++ tail)) (back_of copies (behind_copies c tail) l0) in
    let l2 = back_of body tail (back_of one (body ++ tail) l1) in
    let l3 = back_of lacks (Mark (ReturnPlace x.head.number) ∷ function_end x) l2 in
    let e = f.end in
    let n = size_append lacks (Mark (ReturnPlace x.head.number) ∷ function_end x) in
    record {
      here = here_there call ys h o come calls;
      code = code_there call ys h calls;
      shallow = shallow_there o none.shallow;
      within = within_among ys h.declared o none come;
      beside = beside;
      ending = linked_at c.calling.end (function_end x) (omega (arith, e))
          (rest_of (Mark (ReturnPlace x.head.number)) (function_end x) l3);
      word = (refl, omega arith);
      long = omega (arith, n);
    }

-- ---- its code

abbrev coded_as : Setting → Listed → (taken : ℕ) → Code
coded_as k u taken = given_list k u taken ++ (giving_in k.block u ++ last_of u)

coded :
    (k : Setting) (u : Listed) (taken : ℕ) → k.words ≡ u.words →
    number_code k.block.environment (in_registers k.words taken) (listed_value u) ≡ coded_as k u taken
coded k u taken same =
    ap (λ n. number_code k.block.environment (in_registers n taken) (listed_value u)) same ∙ call_coded k u taken

-- ---- behind the call

abbrev pub as_number : Option BasicValue → Meaning ℤ
as_number r = V.returned r >>= (λ v. give (number_in v))

pub behind_goes :
    {k : Setting} {u : Listed} {more : ℕ} {numbers : ℕ → ℕ} {p : Point} {x : Stretch} (call : ℕ) (ys : List Passing)
    (h : IsListedValue k u more) (o : IsAmong k.block numbers p) → x.acts ≤ p.state.world.acts →
    p.control.line ≡ x.line → ((n : ℕ) → n < x.taken → numbers n ≡ x.numbers n) → call + 2 ≡ x.index → (c' : ℕ)
    (f : Family) (v : Services) (r : Option BasicValue) (s : State) →
    IsBehind (called_of (Some number_function) (value_with k u call p numbers ys)) x.wanted c' f v r s →
    Comes k.block.call.code c' f v (number_aims k.block k.labels x) (as_number r k.block.call.surroundings.acts s)
unfolding V.returned ◌>>=◌ give
behind_goes {k} {u} {numbers = numbers} {p = p} {x = x} call ys h o since line stays at c' f v (Some (BasicNumber z')) s
    q =
    let w = k.block.call.surroundings in
    let φ = u.layer in
    let φs = u.others in
    let d = declared_there call h.declared in
    let y = value_with k u call p numbers ys in
    let newest = q.later.layers in
    let more = q.later.acts in
    let line' = ap (λ (ψ : Layer). ψ.line) (layer_is u.callee.parameters ys (listed_layer y)) in
    record {
      to = λ early. (
        q.result.1,
        record {
          point = untold u q.point;
          numbers = numbers;
          among = forgets {g = Some number_function} {u = listed_there u call} ys d o q;
          since = omega (arith, since, more);
          line = q.line ∙ line' ∙ line;
          stays = stays;
          state = q.state;
          reach = subst (λ v'. Reach k.block.call.code c' f v x.wanted v'
              (λ b z. IsIn w (untold u q.point) numbers x.index b z × (value z.machine a0 ≡ word z')))
              (ap (λ ls. services_of (layered ls q.point)) newest)
              (reach_map _ q.reach (λ b z is. (
                subst (λ n. IsIn w (untold u q.point) numbers n b z) (back_is (Some number_function) y ∙ at)
                    (in_fewer φ φs φ.waits (bound_waits y) (words_stay y d refl refl) newest is.0),
                is.1 ∙ q.result.0,
              )));
        },
      );
    }
behind_goes call ys h o since line stays at c' f v None s q = absurd q.result
behind_goes call ys h o since line stays at c' f v (Some (BasicBit b)) s q = absurd q.result
behind_goes call ys h o since line stays at c' f v (Some (BasicOffset b)) s q = absurd q.result
behind_goes call ys h o since line stays at c' f v (Some (BasicText b)) s q = absurd q.result
behind_goes call ys h o since line stays at c' f v (Some (BasicPointer b)) s q = absurd q.result

-- ---- where the list has been given

-- what comes of the call there
abbrev pub Enters : Setting → Listed → (call : ℕ) → Stretch → List Passing → Type 0
Enters k u call x ys =
    (p : Point) (numbers : ℕ → ℕ) → IsAmong k.block numbers p → x.acts ≤ p.state.world.acts →
    p.control.line ≡ x.line → ((n : ℕ) → n < x.taken → numbers n ≡ x.numbers n) →
    Linked k.block.call.surroundings.links k.block.call.code call (last_of u) → call + 2 ≡ x.index →
    (credits : ℕ) (g : Family) → credits + k.most ≤ cost k.block.call.code →
    AreIn k.block.call.surroundings (given_point (value_with k u call p numbers ys)) numbers call g →
    ((b : Base) →
    IsListing (given_point (value_with k u call p numbers ys))
    (beginning_of (Some number_function) (value_with k u call p numbers ys))
    (list_of (value_with k u call p numbers ys)) b (g b)) →
    Comes k.block.call.code credits g (services_of (given_point (value_with k u call p numbers ys)))
    (before k.block.call.code (number_aims k.block k.labels x) k.block.call.surroundings.acts as_number)
    (M.block_run u.callee.around (block_of u.callee.procedure)
    (entry_of (Some number_function) (value_with k u call p numbers ys)) k.block.call.surroundings.acts p.state)

given_goes :
    {k : Setting} {u : Listed} {more : ℕ} (call c' : ℕ) (f' : Family) (v' : Services) (es : List V.Evaluated)
    (s : State) (x y : Stretch) → IsListedValue k u more →
    ((ys : List Passing) → ComeTo u.ways ys → Enters k u call x ys) →
    HasPassed k u.layer u.others u.words u.layer.waits u.ways y es c' f' v' s →
    (x.acts ≤ y.acts) × (y.line ≡ x.line) × (y.taken ≡ x.taken)
    × ((n : ℕ) → n < x.taken → y.numbers n ≡ x.numbers n) →
    Linked k.block.call.surroundings.links k.block.call.code y.index (giving_in k.block u ++ last_of u) →
    (call ≡ y.index + size_of (giving_in k.block u)) × (call + 2 ≡ x.index) →
    y.wanted + size_of (giving_in k.block u) + k.most ≤ cost k.block.call.code →
    Comes k.block.call.code c' f' v'
    (before k.block.call.code (number_aims k.block k.labels x) k.block.call.surroundings.acts as_number)
    (flow_on k.block.call.surroundings.acts (V.all_passed_last k.around es es k.block.call.surroundings.acts s)
    (λ ps. V.procedure_entered k.around
    (procedure_numbered u.callee.procedure.head.number k.around.program.procedures) u.level ps))
given_goes {k} {u} call c' f' v' es s x y h enters q same l at paid =
    let w = k.block.call.surroundings in
    let code = k.block.call.code in
    let ys = q.passed in
    let told = list_told u.words ys u.layer.waits in
    let p = untold u q.point in
    let d = declared_there call h.declared in
    let o = untold_among k.block u.layer u.others told d.space.newest q.among in
    let t = value_with k u call p q.numbers ys in
    let given' = giving_in k.block u in
    let aims' = before code (number_aims k.block k.labels x) w.acts as_number in
    let closed = before_closed w.acts as_number (number_closed k.block k.labels x) in
    let since = same.0 in
    let taken = same.2 in
    let more = q.since in
    let calls = back_of given' (last_of u) l in
    let calls' = subst (λ j. Linked w.links code j (last_of u)) (sym at.0) calls in
    let enter : List Passed → Meaning (Option BasicValue) = λ ps. V.procedure_entered k.around
    (procedure_numbered u.callee.procedure.head.number k.around.program.procedures) u.level ps in
    let flow = ap (λ e. flow_on w.acts (V.all_passed_last k.around e e w.acts s) enter) q.are
    ∙ ap (λ e. flow_on w.acts e enter) (all_last k.around (evaluated ys) ys w.acts s)
    ∙ ap (λ e. enter (all_passed ys) w.acts e) q.state
    ∙ entered_means (Some number_function) {u = listed_there u call} {numbers = q.numbers} {p = p} k.around ys
    (Some h.type) d o (h.found, refl, h.enter, h.around) in
    subst (λ e. Comes code c' f' v' aims' e) (sym flow)
    (onward closed q.reach
    (λ g there.
    onward closed
    (list_goes (Some number_function) k.block (listed_there u call) k.labels ys y.wanted y.index g d q.among q.come
    (front_of given' (last_of u) l) there)
    (λ g' there'.
    enters ys q.come p q.numbers o (omega (arith, since, more)) (q.line ∙ same.1)
    (λ n less. q.stays n (omega (arith, less, taken)) ∙ same.3 n less) calls' at.1 (y.wanted + size_of given') g' paid
    (λ b. subst (λ j. IsIn w (given_point t) q.numbers j b (g' b)) (sym at.0) (there' b).0)
    (λ b. (there' b).1))))

-- ---- the call

pub listed_function_comes :
    (k : Setting) (u : Listed) (need more : ℕ) → IsListedValue k u more → ValuesGive k u need →
    ((call : ℕ) (x : Stretch) (ys : List Passing) → ComeTo u.ways ys → Enters k u call x ys) →
    L.Does k need (listed_value u)
unfolding V.number V.called give ◌>>=◌
listed_function_comes k u need more h each enters p numbers taken credits index f o line registers l paid there =
    let w = k.block.call.surroundings in
    let code = k.block.call.code in
    let d = h.declared in
    let v = given_list k u taken in
    let given' = giving_in k.block u in
    let last = last_of u in
    let eq = coded k u taken h.words in
    let part = number_code k.block.environment (in_registers k.words taken) (listed_value u) in
    let l' = subst (Linked w.links code index) eq l in
    let n1 = size_append v (given' ++ last) in
    let n2 = size_append given' last in
    let size = ap (λ t. size_of t) eq in
    let x = behind p numbers taken credits index part in
    let y = behind p numbers taken credits index v in
    let call = index + size_of v + size_of given' in
    let words = d.space.words in
    let tree = calling_of u in
    let enter : List V.Evaluated → Meaning (Option BasicValue) =
    λ es. V.all_passed_last k.around es es >>= (λ ps. V.procedure_entered k.around
    (procedure_numbered u.callee.procedure.head.number k.around.program.procedures) u.level ps) in
    let goal = number_aims k.block k.labels x in
    let a1' = before code goal w.acts as_number in
    let flow = V.arguments k.around (arguments_of u.ways) w.acts p.state in
    comes_on w.acts (V.called k.around tree w.acts p.state) as_number
    (comes_on w.acts flow enter
    (comes_map (list_aims k u.layer u.others u.words u.layer.waits u.ways y) (before code a1' w.acts enter) refl flow
    (λ c' f' v' es s q.
    given_goes call c' f' v' es s x y h (λ ys come. enters call x ys come) q
    (omega arith, refl, refl, (λ n less. refl)) (back_of v (given' ++ last) l')
    (refl, omega (arith, size, n1, n2)) (omega (arith, paid, size, n1, n2)))
    (λ c' f' v' height label s q. q)
    (λ c' f' v' r s q. absurd q)
    (arguments_come k need u.layer u.others u.words (all_words u) u.words (6 * length u.ways) 0 u.layer.waits u.ways
    taken each
    (record {
      newest = d.space.newest;
      fewer = λ i v e. e;
      free = d.space.free;
      starts = refl;
      ends = omega arith;
      inside = words;
    }) registers p numbers credits index f (among_told k.block u d.space.newest o) line
    (front_of v (given' ++ last) l') (omega (arith, paid, n1, size)) there)))

pub listed_function_does :
    (k : Setting) (u : Listed) (need more : ℕ) → IsListedValue k u more → PassesNone k.block.first u.ways →
    ValuesGive k u need →
    ((call : ℕ) (p : Point) (numbers : ℕ → ℕ) (ys : List Passing) → IsAmong k.block numbers p → ComeTo u.ways ys →
    AreBeside (Some number_function) (value_with k u call p numbers ys) u.made
    × IsSystem (force (value_block k u call p numbers ys).first.state.activations C.Error)) →
    ((call : ℕ) (p : Point) (numbers : ℕ → ℕ) (ys : List Passing) → IsAmong k.block numbers p → ComeTo u.ways ys →
    IsCoded u.callee.procedure (listed_there u call).callee.calling →
    IsBegun (value_block k u call p numbers ys) →
    EachDoes (value_block k u call p numbers ys) (labels_in u.callee.procedure.body ++ []) u.callee.procedure.body
    (body_index u.callee) left_over) →
    L.Does k need (listed_value u)
listed_function_does k u need more h none give' made' each =
    listed_function_comes k u need more h give'
    (λ call x ys come p numbers o since line stays calls at credits g paid there gives.
    let t = value_with k u call p numbers ys in
    let w = k.block.call.surroundings in
    let made = made' call p numbers ys o come in
    let enough = h.declared.enough in
    let turns = ap (λ (a : Around). a.turns) h.around in
    let later = o.later.acts in
    let most = h.most in
    let same = ap (λ (e : World). e.acts) made.0.world in
    comes_map (behind_aims (called_of (Some number_function) t) x.wanted)
    (before k.block.call.code (number_aims k.block k.labels x) w.acts as_number) refl
    (M.block_run u.callee.around (block_of u.callee.procedure) (entry_of (Some number_function) t) w.acts p.state)
    (λ c1 f1 v1 r s e. behind_goes {x = x} call ys h o since line stays at c1 f1 v1 r s e)
    (λ c1 f1 v1 height label s e. absurd e)
    (λ c1 f1 v1 r s e. absurd e)
    (list_runs credits x.wanted g (entering_there call ys h none o come calls made.0)
    (function_goes t u.made (function_there k u call h.function)
    (each call p numbers ys o come (coded_there call h calls)) made.1
    (omega (arith, enough, turns, later, same))) (omega (arith, paid, most)) there gives))

-- ---- the limits

pub deep_function_ends :
    (k : Setting) (u : Listed) (need more : ℕ) → IsListedValue k u more →
    nat_lt (length k.block.first.state.activations) most_activations ≡ false → ValuesGive k u need →
    L.Does k need (listed_value u)
deep_function_ends k u need more h many give' =
    listed_function_comes k u need more h give'
    (λ call x ys come p numbers o since line stays calls at credits g paid there gives.
    let most = h.most in
    deep_comes credits g
    (before_closed k.block.call.surroundings.acts as_number (number_closed k.block k.labels x))
    (here_there call ys h o come calls) (code_there call ys h calls)
    (subst (λ xs. nat_lt (length xs) most_activations ≡ false) (sym o.later.activations) many)
    (omega (arith, paid, most)) there gives)

pub full_function_ends :
    (k : Setting) (u : Listed) (need more : ℕ) → IsListedValue k u more → PassesLimit k.block.first u.ways →
    ValuesGive k u need → L.Does k need (listed_value u)
full_function_ends k u need more h full give' =
    listed_function_comes k u need more h give'
    (λ call x ys come p numbers o since line stays calls at credits g paid there gives.
    let most = h.most in
    let over = passed_among ys h.declared o full come in
    full_comes credits g
    (before_closed k.block.call.surroundings.acts as_number (number_closed k.block k.labels x))
    (here_there call ys h o come calls) (code_there call ys h calls) (shallow_there o full.shallow) over.0 over.1
    (omega (arith, paid, most)) there gives)

pub beside_function_ends :
    (k : Setting) (u : Listed) (need more : ℕ) → IsListedValue k u more → PassesNone k.block.first u.ways →
    ValuesGive k u need →
    ((call : ℕ) (p : Point) (numbers : ℕ → ℕ) (ys : List Passing) → IsAmong k.block numbers p → ComeTo u.ways ys →
    AreFullBeside (Some number_function) (value_with k u call p numbers ys)) → L.Does k need (listed_value u)
beside_function_ends k u need more h none give' full =
    listed_function_comes k u need more h give'
    (λ call x ys come p numbers o since line stays calls at credits g paid there gives.
    let most = h.most in
    beside_comes credits g
    (before_closed k.block.call.surroundings.acts as_number (number_closed k.block k.labels x))
    (here_there call ys h o come calls) (code_there call ys h calls) (shallow_there o none.shallow)
    (within_among ys h.declared o none come) (full call p numbers ys o come) (omega (arith, paid, most)) there gives)
