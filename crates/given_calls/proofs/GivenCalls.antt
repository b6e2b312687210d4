-- CALL with an argument that is copied, of a procedure that the running block declares, or a block around it.
use Rattle.std.proofs.Common.{◌≡◌, ℕ, ℤ, suc, ◌+◌, ◌%◌, ◌≤◌, List, [], ◌∷◌, ◌++◌, length, Option, None, Some, Bool}
use Rattle.std.proofs.Common.{true, refl, sym, ap, ◌∙◌, subst, arith}
use Rattle.std.proofs.lemmas.List.{append-nil, append_assoc}
use Rattle.std.specs.Prelude.{is_some, nat_le, nat_lt, negsuc, pos, ◌==◌}
use Rattle.rv_meaning.specs.Words.{word}
use Rattle.pli_typing.specs.Signatures.{Fixed}
use Rattle.pli_typing.specs.TypedTree as Y
use Rattle.pli_meaning.specs.BasicValues.{BasicNumber, BasicValue}
use Rattle.pli_meaning.specs.Contents.{footprint_of}
use Rattle.pli_meaning.specs.Control.{Label, Meaning, act, give, looked, ◌>>=◌, ◌>>◌}
use Rattle.pli_meaning.specs.DeclaredShapes.{procedure_numbered}
use Rattle.pli_meaning.specs.Evaluating as V
use Rattle.pli_meaning.specs.Executing as M
use Rattle.pli_meaning.specs.Executing.{begun, labels_in}
use Rattle.pli_meaning.specs.Making.{plain}
use Rattle.pli_meaning.specs.Numbers.{checked, is_of_precision}
use Rattle.pli_meaning.specs.Raising as R
use Rattle.pli_meaning.specs.Raising.{Around, Entry, PassedValue, at_line}
use Rattle.pli_meaning.specs.StorageState.{State, ancestor, ancestor_at, height_of, most_activations, most_automatic}
use Rattle.pli_meaning.specs.StorageState.{newest_height}
use Rattle.pli_meaning.specs.World.{World, counted}
use Rattle.pli_serving.specs.ServiceState.{Services}
use Rattle.pli_coding.specs.Allocating.{act_code}
use Rattle.pli_coding.specs.Assembly.{CallTo, Code, Mark, ProcedureEntry, ReturnPlace, size_of}
use Rattle.pli_coding.specs.Entries.{arguments_copied}
use Rattle.pli_coding.specs.Environments.{none_taken}
use Rattle.pli_coding.specs.Expressions.{number_code}
use Rattle.pli_coding.specs.Frames.{fixed_size}
use Rattle.pli_coding.specs.Instructions.{number, plus}
use Rattle.pli_coding.specs.Registers.{a1, a2, frame_register}
use Rattle.pli_coding.specs.Statements.{stmt_code, stmts_code}
use Rattle.activation_relation.specs.FrameLaws.{with_waits}
use Rattle.activation_relation.specs.Frames.{lower_end}
use Rattle.activation_relation.specs.Layers.{Point, services_of}
use Rattle.activation_relation.specs.Remaining.{Remains}
use Rattle.activation_relation.proofs.Remaining.{remains_then, shapes_remain}
use Rattle.activation_relation.proofs.Returning.{in_use_later}
use Rattle.run_steps.specs.Engine.{Base}
use Rattle.run_steps.specs.Items.{Linked}
use Rattle.run_steps.proofs.Jumps.{back_of, front_of, linked_at, rest_of}
use Rattle.run_steps.proofs.Linking.{size_append}
use Rattle.run_steps.proofs.Numbers.{word_small}
use Rattle.run_steps.specs.Reach.{Comes, Family, Reach, before, cost}
use Rattle.run_steps.proofs.Reach.{before_closed, comes_on, onward, reach_map}
use Rattle.block_runs.specs.Bodies.{Function, IsBehind, behind_aims}
use Rattle.block_runs.specs.Machines.{AreIn, IsIn, acted}
use Rattle.block_runs.proofs.CallStatements.{comes_map}
use Rattle.block_runs.proofs.PointActs.{act_comes}
use Rattle.program_runs.specs.Calls.{left_over}
use Rattle.program_runs.specs.Procedures.{block_of, end_of, frame_for}
use Rattle.program_runs.specs.Statements.{Block, Does, EachDoes, GoesOn, IsAmong, IsBegun, size_in, statement_aims}
use Rattle.program_runs.proofs.JumpsOut.{jumps_since}
use Rattle.program_runs.proofs.Statements.{acted_among, statement_closed}
use Rattle.expression_runs.specs.Laws as L
use Rattle.expression_runs.specs.Values.{HasWord, Stretch, behind, in_registers, number_aims}
use Rattle.expression_runs.proofs.Assignments.{fit_is}
use Rattle.argument_runs.specs.Copies.{copy_generation}
use Rattle.argument_runs.specs.CopyCalls.{HasRoomFor, beginning_of, called_of, copy_for, entry_of, given_point}
use Rattle.argument_runs.specs.CopyCalls.{is_value, listing_of, setting_for}
use Rattle.argument_runs.specs.ListBeginnings.{IsListing}
use Rattle.argument_runs.specs.Lists.{layered, list_under, named_waits, value_given}
use Rattle.argument_runs.proofs.CopyBlocks.{Here}
use Rattle.argument_runs.proofs.CopyCalls.{forgotten, in_forgotten}
use Rattle.argument_runs.proofs.GivenLists.{with_list_stands}
use Rattle.nested_calls.specs.Nested.{parent_code}
use Rattle.nested_calls.proofs.NestedCalls.{is_parent}
use Rattle.given_calls.specs.Given.{AreBeside, body_index, given_block, given_code, procedure_tail}
use Rattle.given_calls.specs.GivenCalls.{GivenCall, IsDeclared, IsGivenCall, PassesNone, called_with, calling_of}
use Rattle.given_calls.specs.GivenCalls.{given_call}
use Rattle.given_calls.proofs.GivenBlocks.{Entering, given_runs, procedure_goes}
use Rattle.given_calls.proofs.GivenCode.{giving_code, giving_comes}

-- ---- at each of the block's points

pub room_among :
    {k : Block} {u : GivenCall} {more : ℕ} {numbers : ℕ → ℕ} {p : Point} → IsDeclared k u more →
    PassesNone k.first u.callee → IsAmong k numbers p →
    HasRoomFor k.call.surroundings p u.callee u.layer u.others
room_among {k} {u} {p = p} h none o =
    let w = k.call.surroundings in
    let c = u.callee in
    let x = c.procedure in
    let r = h.space in
    record {
      newest = o.later.layers ∙ r.newest;
      words = r.words;
      waits = r.waits;
      room = subst (λ ls. frame_for w.parts ls x + fixed_size x.head.level 1 + 16 ≤ lower_end w.parts ls)
          (sym o.later.layers) r.room;
      even = subst (λ ls. lower_end w.parts ls % 16 ≡ 0) (sym o.later.layers) r.even;
      shallow = subst (λ xs. nat_lt (length xs) most_activations ≡ true) (sym o.later.activations) none.shallow;
      parent = is_parent u.level x.head.level c.calling.parent h.nested o h.around_it h.inner h.parent;
      idle = o.later.waiting ∙ r.idle;
      low = subst (λ n. n ≤ w.parts.stack_start) (sym o.later.remains.low) r.low;
      shape = shapes_remain o.later.remains c.number (plain (Fixed 31)) r.shape;
      number = r.number;
      limit = subst (λ n. nat_le (n + footprint_of (copy_generation (copy_for c (pos 0)))) most_automatic ≡ true)
          (sym (in_use_later w k.first p h.begun.resumes.stands o.stands o.later)) none.limit;
    }

pub here_of :
    {k : Block} {u : GivenCall} {line index need most more : ℕ} {numbers : ℕ → ℕ} {p : Point} (z : ℤ) →
    is_of_precision 31 z ≡ true → IsGivenCall k u line index need most more → PassesNone k.first u.callee →
    IsAmong k numbers p → Here None (called_with k u p numbers z)
here_of {k} {u} {numbers = numbers} {p = p} z wide h none o =
    let c = u.callee in
    let x = c.procedure in
    let one = act_code x.head.line in
    let body = stmts_code c.environment none_taken x.body in
    let tail = procedure_tail x in
    let copies = arguments_copied c.environment (0 ∷ []) in
    let l0 = back_of copies (x.variables ++ (one ++ (body ++ tail)))
    (back_of (listing_of x) (copies ++ (x.variables ++ (one ++ (body ++ tail)))) h.callee.stands) in
    let l1 = back_of one (body ++ tail) (back_of x.variables (one ++ (body ++ tail)) l0) in
    let l2 = rest_of (Mark (ReturnPlace x.head.number)) (end_of x) (back_of body tail l1) in
    let e = h.callee.end in
    record {
      stands = o.stands;
      image = o.image;
      few = o.few;
      room = room_among h.declared none o;
      wide = wide;
      words = o.words;
      each = h.declared.few;
      small' = h.declared.small;
      coded = h.callee.coded;
      calls = h.callee.calls;
      place = h.callee.place;
      copied = h.callee.copied z;
      behind = x.variables ++ (one ++ (body ++ tail));
      begins = h.callee.stands;
      ending = linked_at c.calling.end (end_of x) (omega (arith, e)) l2;
      word = tt;
    }

here_among :
    {k : Block} {u : GivenCall} {line index need most more : ℕ} {numbers : ℕ → ℕ} {p : Point} (z : ℤ) →
    is_of_precision 31 z ≡ true → IsGivenCall k u line index need most more → PassesNone k.first u.callee →
    IsAmong k numbers p → AreBeside None (called_with k u p numbers z) u.made →
    Entering None (called_with k u p numbers z) u.made (procedure_tail u.callee.procedure)
here_among z wide h none o beside =
    record {
      here = here_of z wide h none o;
      beside = beside;
      kind = h.callee.kind;
      acts = h.callee.acts;
      stands = h.callee.stands;
      long = omega arith;
    }

-- ---- what it means

-- it is entered with its value
pub entered_means :
    (g : Option Function) {k : Block} {u : GivenCall} {more : ℕ} {numbers : ℕ → ℕ} {p : Point} (around : Around) (z : ℤ)
    (result : Option Y.LeafType) → IsDeclared k u more → IsAmong k numbers p →
    (procedure_numbered u.callee.procedure.head.number around.program.procedures
    ≡ Some (record { block = block_of u.callee.procedure; parameters = 0 ∷ []; result = result }))
    × (is_some result ≡ is_value g) × (around.enter ≡ M.entered around.program (suc more))
    × (u.callee.around
    ≡ record { program = around.program; enter = M.entered around.program more; turns = suc more; line = 0 }) →
    V.procedure_entered around
    (procedure_numbered u.callee.procedure.head.number around.program.procedures) u.level
    (PassedValue (Fixed 31) (BasicNumber z) ∷ []) k.call.surroundings.acts p.state
    ≡ M.block_run u.callee.around (block_of u.callee.procedure) (entry_of g (called_with k u p numbers z))
    k.call.surroundings.acts p.state
unfolding V.procedure_entered M.entered looked ◌>>=◌ ◌>>◌
entered_means g {k} {u} {p = p} around z result h o is =
    let c = u.callee in
    let s = p.state in
    let acts = k.call.surroundings.acts in
    let passed = PassedValue (Fixed 31) (BasicNumber z) ∷ [] in
    let entry : Bool → ℕ → Entry = λ q m. record (begun (block_of c.procedure) m) {
      parameters = 0 ∷ [];
      arguments = passed;
      is_function = q;
    } in
    let height = height_of (ancestor_at s u.level) in
    ap (λ q. V.procedure_entered around q u.level passed acts s) is.0
    ∙ ap (λ q. around.enter (entry q height) acts s) is.1
    ∙ ap (λ (enters : Entry → Meaning (Option BasicValue)). enters (entry (is_value g) height) acts s) is.2
    ∙ ap (λ (a : Around). M.block_run a (block_of c.procedure) (entry (is_value g) height) acts s) (sym is.3)
    ∙ ap (λ m. M.block_run c.around (block_of c.procedure) (entry (is_value g) m) acts s)
    (ap (λ xs. height_of (ancestor xs (newest_height xs) u.level)) o.later.activations ∙ sym h.parent)

-- ---- its code

abbrev pub value_of : Block → Y.Number → Code
value_of k source = number_code k.environment (in_registers 6 0) source

abbrev pub giving_in : Block → GivenCall → Code
giving_in k u = giving_code (u.level == k.environment.level) u.level

abbrev pub last_of : GivenCall → Code
last_of u = CallTo (ProcedureEntry u.callee.procedure.head.number) ∷ []

abbrev pub coded_as : Block → GivenCall → (line : ℕ) → Code
coded_as k u line = act_code line ++ (value_of k u.source ++ (giving_in k u ++ last_of u))

pub coded :
    (k : Block) (u : GivenCall) (line : ℕ) →
    stmt_code k.environment none_taken (given_call u line) ≡ coded_as k u line
coded k u line =
    let v = value_of k u.source in
    let one = act_code line in
    let list = plus a1 frame_register (negsuc 23) in
    let rest : Code = list
    ++ (number a2 0 ++ (parent_code (u.level == k.environment.level) u.level ++ last_of u)) in
    ap (λ w. one ++ (w ++ rest)) (append-nil ((v ++ []) ++ value_given))
    ∙ ap (λ w. one ++ ((w ++ value_given) ++ rest)) (append-nil v)
    ∙ ap (λ w. one ++ w) (append_assoc v value_given rest)

-- ---- behind the call

-- the caller forgets the list, and its block goes on
behind_goes :
    {k : Block} {u : GivenCall} {line index need most more : ℕ} {numbers : ℕ → ℕ} {p : Point} {acts wanted credits : ℕ}
    {f : Family} {v : Services} {r : Option BasicValue} {s : State} (z : ℤ)
    (h : IsGivenCall k u line index need most more) (o : IsAmong k numbers p) → acts ≤ p.state.world.acts →
    IsBehind (called_of None (called_with k u p numbers z)) wanted credits f v r s →
    GoesOn k acts (index + size_in k (given_call u line)) wanted credits f v s
behind_goes {k} {u} {line} {index} {numbers = numbers} {p = p} {wanted = wanted} {credits = credits} {f = f} {v = v} z h
    o since q =
    let w = k.call.surroundings in
    let φ = u.layer in
    let φs = u.others in
    let space = h.declared.space in
    let waits = named_waits (p.state.serials + 1) u.callee.number in
    let newest = q.later.layers in
    let known = with_list_stands w k.call.code q.point (with_waits waits φ) φs (λ n. None) (q.stands, q.image) newest in
    let from = q.later.remains in
    let there : Remains p q.point = record {
      living = from.living;
      serials = from.serials;
      at = from.at;
      number = from.number;
      signatures = from.signatures;
      statics = from.statics;
      low = from.low;
      constants = from.constants;
      active = from.active;
      in_use = from.in_use;
    } in
    let remains = remains_then k.first p q.point o.later.remains there in
    let first = o.later.acts in
    let more = q.later.acts in
    record {
      point = forgotten φ φs q.point;
      numbers = numbers;
      among = record {
        stands = known.0;
        image = known.1;
        later = record {
          activations = q.later.activations ∙ o.later.activations;
          layers = ap (λ ψ. ψ ∷ φs) space.waits ∙ sym space.newest;
          edits = q.later.edits ∙ o.later.edits;
          waiting = q.later.waiting ∙ o.later.waiting;
          acts = omega (arith, first, more);
          remains = record {
            living = remains.living;
            serials = remains.serials;
            at = remains.at;
            number = remains.number;
            signatures = remains.signatures;
            statics = remains.statics;
            low = remains.low;
            constants = remains.constants;
            active = remains.active;
            in_use = remains.in_use;
          };
        };
        few = q.few;
        entries = q.entries ∙ o.entries;
        others = o.others;
        words = o.words;
      };
      since = omega (arith, since, more);
      state = q.state;
      reach = subst (λ v'. Reach k.call.code credits f v wanted v'
          (λ b y. IsIn w (forgotten φ φs q.point) numbers (index + size_in k (given_call u line)) b y))
          (ap (λ ls. services_of (layered ls q.point)) newest)
          (reach_map _ q.reach (λ b y is.
          subst (λ n. IsIn w (forgotten φ φs q.point) numbers n b y) h.call
          (in_forgotten φ φs waits newest is.0)));
    }

-- ---- from the value in a0 on

abbrev pub behind_call : Option BasicValue → Meaning (Unit {0})
behind_call r = give tt

-- what comes of the call where the list has been given, with a value
abbrev pub Enters : Block → GivenCall → List Label → (line index acts wanted left' : ℕ) → ℤ → Type 0
Enters k u labels line index acts wanted left' z =
    (p : Point) (numbers : ℕ → ℕ) → IsAmong k numbers p → acts ≤ p.state.world.acts → (credits : ℕ) (g : Family) →
    credits + 4 + size_of (given_code u.callee.environment u.callee.procedure (procedure_tail u.callee.procedure))
    ≤ cost k.call.code →
    AreIn k.call.surroundings (given_point (called_with k u p numbers z)) numbers u.callee.calling.call g →
    ((b : Base) →
    IsListing (given_point (called_with k u p numbers z)) (beginning_of None (called_with k u p numbers z))
    (list_under u.layer.at) b (g b)) →
    Comes k.call.code credits g (services_of (given_point (called_with k u p numbers z)))
    (before k.call.code (statement_aims k labels acts (index + size_in k (given_call u line)) wanted left')
    k.call.surroundings.acts behind_call)
    (M.block_run u.callee.around (block_of u.callee.procedure) (entry_of None (called_with k u p numbers z))
    k.call.surroundings.acts p.state)

given_goes :
    {k : Block} {u : GivenCall} {line index need most more : ℕ} (labels : List Label) (left' acts wanted c' : ℕ)
    (f' : Family) (v' : Services) (z : ℤ) (s : State) (y : Stretch) → IsGivenCall k u line index need most more →
    Enters k u labels line index acts wanted left' z →
    acts ≤ y.acts → is_of_precision 31 z ≡ true → HasWord k y (word z) c' f' v' s →
    Linked k.call.surroundings.links k.call.code y.index (giving_in k u ++ last_of u) →
    u.callee.calling.call ≡ y.index + size_of (giving_in k u) → y.wanted ≤ y.index →
    Comes k.call.code c' f' v'
    (before k.call.code (statement_aims k labels acts (index + size_in k (given_call u line)) wanted left')
    k.call.surroundings.acts behind_call)
    (V.procedure_entered (at_line k.around line)
    (procedure_numbered u.callee.procedure.head.number k.around.program.procedures) u.level
    (PassedValue (Fixed 31) (BasicNumber z) ∷ []) k.call.surroundings.acts s)
unfolding give
given_goes {k} {u} {line} {index} labels left' acts wanted c' f' v' z s y h enters since wide q l at few =
    let w = k.call.surroundings in
    let code = k.call.code in
    let p = q.point in
    let o = q.among in
    let x = called_with k u p q.numbers z in
    let d = h.declared in
    let given' = giving_in k u in
    let aims = statement_aims k labels acts (index + size_in k (given_call u line)) wanted left' in
    let aims' = before code aims w.acts behind_call in
    let closed = before_closed w.acts behind_call
    (statement_closed k labels acts (index + size_in k (given_call u line)) wanted left') in
    let more = q.since in
    let inside = l.inside in
    let proc = h.callee.stands.inside in
    let n = size_append given' (last_of u) in
    subst (λ t. Comes code c' f' v' aims' (V.procedure_entered (at_line k.around line)
    (procedure_numbered u.callee.procedure.head.number k.around.program.procedures) u.level
    (PassedValue (Fixed 31) (BasicNumber z) ∷ []) w.acts t)) (sym q.state)
    (subst (λ t. Comes code c' f' v' aims' t)
    (sym (entered_means None {numbers = q.numbers} (at_line k.around line) z None d o
    (h.found, refl, h.enter, h.around)))
    (onward closed q.reach
    (λ g there.
    onward closed
    (giving_comes k u.level u.layer u.others (beginning_of None x) (word z) y.wanted y.index g d.nested d.begun o
    d.around_it (o.later.layers ∙ d.space.newest) d.space.waits (d.space.words, word_small z wide) (refl, d.parent)
    (front_of given' (last_of u) l) there)
    (λ g' there'.
    enters p q.numbers o (omega (arith, since, more)) (y.wanted + size_of given') g'
    (omega (arith, few, n, inside, proc))
    (λ b. subst (λ j. IsIn w (given_point x) q.numbers j b (g' b)) (sym at) (there' b).0)
    (λ b. (there' b).1)))))

-- ---- the statement

pub given_call_comes :
    (k : Block) (u : GivenCall) (labels : List Label) (line index left' need most more : ℕ) →
    IsGivenCall k u line index need most more → L.Does (setting_for k labels line most) need u.source →
    ((acts wanted : ℕ) (z : ℤ) → is_of_precision 31 z ≡ true → Enters k u labels line index acts wanted left' z) →
    Does k labels (given_call u line) index left'
unfolding M.statement V.called V.arguments V.argument V.stored_value V.all_passed_last V.passed_last give ◌>>=◌ ◌>>◌
given_call_comes k u labels line index left' need most more h ev enters p numbers credits wanted f o paid there =
    let w = k.call.surroundings in
    let code = k.call.code in
    let around' = at_line k.around line in
    let stmt = given_call u line in
    let one = act_code line in
    let v = value_of k u.source in
    let given' = giving_in k u in
    let last = last_of u in
    let l = subst (Linked w.links code index) (coded k u line) h.statement in
    let l1 = back_of one (v ++ (given' ++ last)) l in
    let n0 = size_append one (v ++ (given' ++ last)) in
    let n1 = size_append v (given' ++ last) in
    let n2 = size_append given' last in
    let size = ap (λ t. size_of t) (coded k u line) in
    let acts = p.state.world.acts in
    let all = h.paid in
    let at_call = h.call in
    let goal = statement_aims k labels acts (index + size_in k stmt) wanted left' in
    let closed = statement_closed k labels acts (index + size_in k stmt) wanted left' in
    let stored' = Y.StoredNumber 31 u.source in
    let first = Y.ByCopy (Y.FixedLeaf 31) stored' in
    let tree = calling_of u in
    let tail : Unit {0} → Meaning (Unit {0}) = λ t. V.called around' tree >> give tt in
    let enter : List V.Evaluated → Meaning (Option BasicValue) =
    λ es. V.all_passed_last around' es es >>= (λ ps. V.procedure_entered around'
    (procedure_numbered u.callee.procedure.head.number k.around.program.procedures) u.level ps) in
    let rest : V.Evaluated → Meaning (List V.Evaluated) =
    λ e. V.arguments around' Y.NoArgument >>= (λ es. give (e ∷ es)) in
    let pass : BasicValue → Meaning V.Evaluated = λ t. give (V.EvaluatedArgument (V.copied (Y.FixedLeaf 31) t)) in
    let fit : ℤ → Meaning BasicValue =
    λ z. (R.value_of around' (checked 31 z)) >>= (λ z'. give (BasicNumber z')) in
    let a1' = before code goal w.acts behind_call in
    let a2' = before code a1' w.acts enter in
    let a3' = before code a2' w.acts rest in
    let a4' = before code a3' w.acts pass in
    comes_on w.acts (act counted w.acts p.state) tail
    (act_comes (before_closed w.acts tail closed) line credits 0 f (o.stands, o.image)
    (h.act.line_fits, h.act.acts, omega (arith, paid, n0, size)) (front_of one (v ++ (given' ++ last)) l) there
    (λ g less at.
    let p' = acted line p in
    let o' = acted_among line o less in
    let flow = V.number around' u.source w.acts p'.state in
    let y = behind p' numbers 0 0 (index + size_of one) v in
    comes_on w.acts (V.called around' tree w.acts p'.state) behind_call
    (comes_on w.acts (V.arguments around' (Y.ArgumentThen first Y.NoArgument) w.acts p'.state) enter
    (comes_on w.acts (V.argument around' first w.acts p'.state) rest
    (comes_on w.acts (V.stored_value around' stored' w.acts p'.state) pass
    (comes_on w.acts flow fit
    (comes_map (number_aims k labels y) (before code a4' w.acts fit) refl flow
    (λ c' f' v' z s q.
    subst (Comes code c' f' v' a4') (sym (fit_is around' z w.acts s q.0))
    (record {
      to = λ early. record {
        to = λ early. record {
          to = λ early.
              given_goes labels left' acts wanted c' f' v' z s y h (enters acts wanted z q.0) (omega arith) q.0 q.1
              (back_of v (given' ++ last) l1) (omega (arith, at_call, size, n0, n1, n2)) (omega arith);
        };
      };
    }))
    (λ c' f' v' height label s q. jumps_since (omega arith) q)
    (λ c' f' v' r s q. absurd q)
    (ev p' numbers 0 0 (index + size_of one) g o' refl (let room = h.registers in omega (arith, room), h.held)
    (front_of v (given' ++ last) l1) (omega (arith, all, n0, n1, size)) at))))))))

pub given_call_does :
    (k : Block) (u : GivenCall) (labels : List Label) (line index left' need most more : ℕ) →
    IsGivenCall k u line index need most more → PassesNone k.first u.callee →
    L.Does (setting_for k labels line most) need u.source →
    ((p : Point) (numbers : ℕ → ℕ) (z : ℤ) → IsAmong k numbers p → is_of_precision 31 z ≡ true →
    AreBeside None (called_with k u p numbers z) u.made) →
    ((p : Point) (numbers : ℕ → ℕ) (z : ℤ) → IsAmong k numbers p → is_of_precision 31 z ≡ true →
    IsBegun (given_block None (called_with k u p numbers z) u.made) →
    EachDoes (given_block None (called_with k u p numbers z) u.made) (labels_in u.callee.procedure.body ++ [])
    u.callee.procedure.body (body_index u.callee) left_over) →
    Does k labels (given_call u line) index left'
unfolding give
given_call_does k u labels line index left' need most more h none ev made' each =
    given_call_comes k u labels line index left' need most more h ev
    (λ acts wanted z wide p numbers o since credits g paid there gives.
    let x = called_with k u p numbers z in
    let w = k.call.surroundings in
    let made = made' p numbers z o wide in
    let enough = h.declared.enough in
    let turns = ap (λ (a : Around). a.turns) h.around in
    let later = o.later.acts in
    let same = ap (λ (t : World). t.acts) made.world in
    comes_map (behind_aims (called_of None x) wanted)
    (before k.call.code (statement_aims k labels acts (index + size_in k (given_call u line)) wanted left') w.acts
    behind_call) refl
    (M.block_run u.callee.around (block_of u.callee.procedure) (entry_of None x) w.acts p.state)
    (λ c1 f1 v1 r t e. record { to = λ early. behind_goes z h o since e })
    (λ c1 f1 v1 height label t e. absurd e)
    (λ c1 f1 v1 r t e. absurd e)
    (given_runs credits wanted g (here_among z wide h none o made)
    (procedure_goes x u.made h.callee (each p numbers z o wide) (omega (arith, enough, turns, later, same))) paid there
    gives))
