-- CALL with a list of arguments, of a procedure that the running block declares, or a block around it.
use Rattle.std.proofs.Common.{◌≡◌, ℕ, suc, ◌+◌, ◌-◌, ◌*◌, ◌%◌, ◌^◌, ◌<◌, ◌≤◌, List, [], ◌∷◌, ◌++◌, length, Option, None}
use Rattle.std.proofs.Common.{Some, Bool, false, true, refl, sym, ap, ◌∙◌, subst, arith, inl}
use Rattle.std.specs.Prelude.{is_some, nat_lt}
use Rattle.std.proofs.lemmas.Bool.Decides.{nat_tests}
use Rattle.pli_typing.specs.TypedTree as Y
use Rattle.pli_meaning.specs.BasicValues.{BasicValue}
use Rattle.pli_meaning.specs.Contents.{Shape}
use Rattle.pli_meaning.specs.Control.{Label, Meaning, act, flow_on, give, looked, ◌>>=◌, ◌>>◌}
use Rattle.pli_meaning.specs.DeclaredShapes.{procedure_numbered}
use Rattle.pli_meaning.specs.Evaluating as V
use Rattle.pli_meaning.specs.Executing as M
use Rattle.pli_meaning.specs.Executing.{begun, labels_in}
use Rattle.pli_meaning.specs.Raising.{Around, Entry, Passed, at_line}
use Rattle.pli_meaning.specs.StorageState.{State, ancestor, ancestor_at, height_of, most_activations, newest_height}
use Rattle.pli_meaning.specs.World.{World, counted}
use Rattle.pli_serving.specs.ServiceState.{Services}
use Rattle.pli_serving.specs.Templates.{shape_at}
use Rattle.pli_coding.specs.Allocating.{act_code}
use Rattle.pli_coding.specs.Assembly.{Mark, ReturnPlace, size_of}
use Rattle.pli_coding.specs.Environments.{none_taken}
use Rattle.pli_coding.specs.Frames.{fixed_size}
use Rattle.pli_coding.specs.Statements.{stmts_code}
use Rattle.activation_relation.specs.FrameLaws.{with_waits}
use Rattle.activation_relation.specs.Frames.{AreLaid, lower_end}
use Rattle.activation_relation.specs.Landing.{either, is_begin}
use Rattle.activation_relation.specs.Layers.{Layer, Point, services_of}
use Rattle.activation_relation.specs.Remaining.{Remains}
use Rattle.activation_relation.proofs.FrameWords.{words_covered}
use Rattle.activation_relation.proofs.Remaining.{remains_then, shapes_remain}
use Rattle.activation_relation.proofs.Returning.{in_use_later}
use Rattle.run_steps.specs.Engine.{Base}
use Rattle.run_steps.specs.Items.{Linked}
use Rattle.run_steps.proofs.Jumps.{back_of, front_of, linked_at, rest_of}
use Rattle.run_steps.proofs.Linking.{size_append}
use Rattle.run_steps.specs.Reach.{Comes, Family, Reach, before, cost}
use Rattle.run_steps.proofs.Reach.{before_closed, comes_on, onward, reach_map}
use Rattle.block_runs.specs.Bodies.{AtEnd, Function, IsBehind, behind_aims, body_aims}
use Rattle.block_runs.specs.Machines.{AreIn, IsIn, acted}
use Rattle.block_runs.proofs.CallStatements.{comes_map}
use Rattle.block_runs.proofs.Places.{bounds}
use Rattle.block_runs.proofs.PointActs.{act_comes}
use Rattle.program_runs.specs.Calls.{left_over}
use Rattle.program_runs.specs.Procedures.{IsCoded, block_of, end_of, frame_for}
use Rattle.program_runs.specs.Statements.{Block, DoesWith, EachDoes, GoesOn, IsAmong, IsBegun, size_with}
use Rattle.program_runs.specs.Statements.{statement_aims}
use Rattle.program_runs.proofs.JumpsOut.{jumps_since, no_jump}
use Rattle.program_runs.proofs.Lists.{list_does}
use Rattle.program_runs.proofs.Statements.{acted_among, at_end, statement_closed}
use Rattle.expression_runs.specs.Assignments.{setting_around}
use Rattle.expression_runs.specs.Values.{Stretch, behind}
use Rattle.argument_runs.specs.CopyCalls.{is_value}
use Rattle.argument_runs.specs.ListBeginnings.{IsListing}
use Rattle.argument_runs.specs.Lists.{layered, with_list}
use Rattle.argument_runs.proofs.CopyBlocks.{behind_list}
use Rattle.argument_runs.proofs.GivenLists.{with_list_stands}
use Rattle.nested_calls.proofs.NestedCalls.{is_parent}
use Rattle.given_calls.specs.Given.{procedure_tail}
use Rattle.word_runs.specs.Words.{telling}
use Rattle.word_runs.proofs.Words.{Fewer, in_fewer, untold_among}
use Rattle.list_calls.specs.Arguments.{ByName, ByValue, ComeTo, Way, arguments_of, copies_among}
use Rattle.list_calls.specs.ListCalls.{AreNumbered, ArgumentsGive, IsDeclared, IsListedCall, Listed, PassesNone}
use Rattle.list_calls.specs.ListCalls.{all_words, called_with, calling_of, listed_call}
use Rattle.list_calls.specs.Lists.{Parameter, Passing, PassesCopy, PassesName, all_passed, copies_in, indices_of}
use Rattle.list_calls.specs.Lists.{list_told}
use Rattle.list_calls.specs.Taking.{AreBeside, HasParameters, IsTaking, ListCall, beginning_of, body_index}
use Rattle.list_calls.specs.Taking.{bound_waits, called_of, copies_code, entry_of, given_point, list_block, list_of}
use Rattle.list_calls.specs.Taking.{listed_layer, listing_of, taking_code}
use Rattle.list_calls.proofs.Binding.{IsWithin, list_given}
use Rattle.list_calls.proofs.ListBlocks.{BodyComes, Entering, HasCode, Here, behind_copies, layer_is, list_runs}
use Rattle.list_calls.proofs.ListCode.{call_coded, given_list, giving_comes, giving_in, last_of}
use Rattle.list_calls.proofs.ListGiving.{HasPassed, all_last, arguments_come, come_many, evaluated, list_aims, told_again}
use Rattle.list_calls.proofs.PartWords.{bound_other, list_other}

-- ---- at each of the block's points

pub come_copies : (us : List Way) (ys : List Passing) → ComeTo us ys → copies_in ys ≡ copies_among us
come_copies [] [] come = refl
come_copies [] (y ∷ ys) come = absurd come
come_copies (u ∷ us) [] come = absurd come
come_copies (ByValue source ∷ us) (PassesCopy z ∷ ys) come = ap (λ n. suc n) (come_copies us ys come.1)
come_copies (ByValue source ∷ us) (PassesName serial signature ∷ ys) come = absurd come.0
come_copies (ByName v serial signature ∷ us) (PassesCopy z ∷ ys) come = absurd come.0
come_copies (ByName v serial signature ∷ us) (PassesName serial' signature' ∷ ys) come = come_copies us ys come.1

numbered_remain :
    (shapes shapes' : ℕ → Option Shape) → ((n : ℕ) (s : Shape) → shapes n ≡ Some s → shapes' n ≡ Some s) →
    (xs : List Parameter) → AreNumbered shapes xs → AreNumbered shapes' xs
numbered_remain shapes shapes' keep [] h = tt
numbered_remain shapes shapes' keep (x ∷ xs) h =
    (keep x.number _ h.0, h.1, numbered_remain shapes shapes' keep xs h.2)

pub here_among :
    (g : Option Function) {k : Block} {u : Listed} {more : ℕ} {numbers : ℕ → ℕ} {p : Point} (ys : List Passing) →
    IsDeclared k u more → IsCoded u.callee.procedure u.callee.calling → HasParameters u.callee → IsAmong k numbers p →
    ComeTo u.ways ys → Here g (called_with k u p numbers ys)
here_among g {k} {u} {p = p} ys h coded parameters o come =
    let w = k.call.surroundings in
    let c = u.callee in
    let x = c.procedure in
    let r = h.space in
    let n = come_many u.ways ys come in
    let m = come_copies u.ways ys come in
    let words = r.words in
    let small = h.small in
    record {
      stands = o.stands;
      image = o.image;
      few = o.few;
      newest = o.later.layers ∙ r.newest;
      inside = omega (arith, words, n);
      room = subst (λ j. frame_for w.parts p.control.layers x + fixed_size x.head.level (length c.parameters) + 16 * j
          ≤ lower_end w.parts p.control.layers) (sym m)
          (subst (λ ls. frame_for w.parts ls x + fixed_size x.head.level (length c.parameters)
          + 16 * copies_among u.ways ≤ lower_end w.parts ls) (sym o.later.layers) r.room);
      even = subst (λ ls. lower_end w.parts ls % 16 ≡ 0) (sym o.later.layers) r.even;
      idle = o.later.waiting ∙ r.idle;
      low = subst (λ j. j ≤ w.parts.stack_start) (sym o.later.remains.low) r.low;
      numbered = numbered_remain (λ j. shape_at k.first.places.signatures j) (λ j. shape_at p.places.signatures j)
          (λ j s. shapes_remain o.later.remains j s) c.parameters r.numbered;
      parent = is_parent u.level x.head.level c.calling.parent h.nested o h.around_it h.inner h.parent;
      many = sym h.many ∙ sym n;
      given = list_given u.words u.ways ys u.layer.waits come;
      words = o.words;
      small' = subst (λ j. w.serials + j < 2 ^ 40) (sym m) small;
      coded = coded;
      parameters = parameters;
    }

-- the copies pass no limit there
pub within_among :
    {k : Block} {u : Listed} {more : ℕ} {numbers : ℕ → ℕ} {p : Point} (ys : List Passing) → IsDeclared k u more →
    IsAmong k numbers p → PassesNone k.first u.ways → ComeTo u.ways ys → IsWithin p ys
within_among {k} {u} {p = p} ys h o none come =
    let used = in_use_later k.call.surroundings k.first p h.begun.resumes.stands o.stands o.later in
    let m = come_copies u.ways ys come in
    let limit = none.limit in
    grind (arith, used, m, limit, nat_tests)

-- ---- what it means

-- it is entered with what is passed
pub entered_means :
    (g : Option Function) {k : Block} {u : Listed} {more : ℕ} {numbers : ℕ → ℕ} {p : Point} (around : Around)
    (ys : List Passing) (result : Option Y.LeafType) → IsDeclared k u more → IsAmong k numbers p →
    (procedure_numbered u.callee.procedure.head.number around.program.procedures
    ≡ Some (record {
      block = block_of u.callee.procedure;
      parameters = indices_of u.callee.parameters;
      result = result;
    }))
    × (is_some result ≡ is_value g) × (around.enter ≡ M.entered around.program (suc more))
    × (u.callee.around
    ≡ record { program = around.program; enter = M.entered around.program more; turns = suc more; line = 0 }) →
    V.procedure_entered around
    (procedure_numbered u.callee.procedure.head.number around.program.procedures) u.level
    (all_passed ys) k.call.surroundings.acts p.state
    ≡ M.block_run u.callee.around (block_of u.callee.procedure) (entry_of g (called_with k u p numbers ys))
    k.call.surroundings.acts p.state
unfolding V.procedure_entered M.entered looked ◌>>=◌ ◌>>◌
entered_means g {k} {u} {p = p} around ys result h o is =
    let c = u.callee in
    let s = p.state in
    let acts = k.call.surroundings.acts in
    let entry : Bool → ℕ → Entry = λ q m. record (begun (block_of c.procedure) m) {
      parameters = indices_of c.parameters;
      arguments = all_passed ys;
      is_function = q;
    } in
    let height = height_of (ancestor_at s u.level) in
    ap (λ q. V.procedure_entered around q u.level (all_passed ys) acts s) is.0
    ∙ ap (λ q. around.enter (entry q height) acts s) is.1
    ∙ ap (λ (enters : Entry → Meaning (Option BasicValue)). enters (entry (is_value g) height) acts s) is.2
    ∙ ap (λ (a : Around). M.block_run a (block_of c.procedure) (entry (is_value g) height) acts s) (sym is.3)
    ∙ ap (λ m. M.block_run c.around (block_of c.procedure) (entry (is_value g) m) acts s)
    (ap (λ xs. height_of (ancestor xs (newest_height xs) u.level)) o.later.activations ∙ sym h.parent)

-- ---- where the list has been given

-- the point without it
abbrev pub untold : Listed → Point → Point
untold u q = with_list u.layer.waits u.layer u.others q

-- from there on: the frame of the static parent, and the procedure's code
pub list_goes :
    (g : Option Function) (k : Block) (u : Listed) {more : ℕ} (labels : List Label) {numbers : ℕ → ℕ} {q : Point}
    (ys : List Passing) (credits index : ℕ) (f : Family) → IsDeclared k u more →
    IsAmong (telling (list_told u.words ys u.layer.waits) u.layer u.others k) numbers q → ComeTo u.ways ys →
    Linked k.call.surroundings.links k.call.code index (giving_in k u) →
    AreIn k.call.surroundings q numbers index f →
    Reach k.call.code credits f (services_of q) (credits + size_of (giving_in k u))
    (services_of (given_point (called_with k u (untold u q) numbers ys)))
    (λ b y. IsIn k.call.surroundings (given_point (called_with k u (untold u q) numbers ys)) numbers
    (index + size_of (giving_in k u)) b y
    × IsListing (given_point (called_with k u (untold u q) numbers ys))
    (beginning_of g (called_with k u (untold u q) numbers ys)) (list_of (called_with k u (untold u q) numbers ys)) b y)
list_goes g k u labels {numbers} {q} ys credits index f d o come l there =
    let w = k.call.surroundings in
    let told = list_told u.words ys u.layer.waits in
    let φ = u.layer in
    let φs = u.others in
    let y = called_with k u (untold u q) numbers ys in
    let newest = o.later.layers in
    let q1 = with_list told φ φs q in
    let setting = setting_around 0 k labels 0 0 in
    let o1 = told_again setting told d.space.newest o in
    let n = come_many u.ways ys come in
    let same : u.words + 6 * length u.ways ≡ u.words + 6 * length ys = omega (arith, n) in
    let laid = subst (AreLaid w.parts) newest o.stands.laid in
    let below = bounds w.parts φs laid.1 in
    let above = laid.0.above in
    let covered = words_covered φ.words in
    let words = d.space.words in
    let low = below.low in
    let between = below.above in
    let first = o.image.parts.high in
    let r = giving_comes k u.level (all_words u) q φ φs told (beginning_of g y) credits index f d.nested d.begun
    d.space.newest o1 d.around_it (d.space.near, omega (arith, above, covered, words, low, between, first))
    (refl, d.parent) l
    (λ b. subst (λ ls. IsIn w (layered ls q) numbers index b (f b)) newest (there b)) in
    subst (λ v. Reach k.call.code credits f v (credits + size_of (giving_in k u)) (services_of (given_point y))
    (λ b z. IsIn w (given_point y) numbers (index + size_of (giving_in k u)) b z
    × IsListing (given_point y) (beginning_of g y) (list_of y) b z))
    (ap (λ ls. services_of (layered ls q)) (sym newest))
    (subst (λ m. Reach k.call.code credits f (services_of q1) (credits + size_of (giving_in k u))
    (services_of (given_point y))
    (λ b z. IsIn w (given_point y) numbers (index + size_of (giving_in k u)) b z
    × IsListing (given_point y) (beginning_of g y) (φ.at - 4 * m) b z)) same r)

-- ---- behind the call

-- the words that the caller had told before are told again
pub words_stay :
    {k : Block} {u : Listed} {more : ℕ} (y : ListCall) → IsDeclared k u more → (y.words ≡ u.words) →
    (y.layer ≡ u.layer) → Fewer u.layer.waits (bound_waits y)
words_stay {u = u} y h words layer n v e =
    let below = h.space.free n v e in
    bound_other y.words y.point.state.serials n y.callee.parameters y.passed (list_told y.words y.passed y.layer.waits)
    (inl (omega (arith, below, words)))
    ∙ list_other y.words n y.passed y.layer.waits (inl (omega (arith, below, words)))
    ∙ ap (λ (φ : Layer). φ.waits n) layer ∙ e

pub forgets :
    {g : Option Function} {k : Block} {u : Listed} {more wanted credits : ℕ} {numbers : ℕ → ℕ} {p : Point} {f : Family}
    {v : Services} {r : Option BasicValue} {s : State} (ys : List Passing) → IsDeclared k u more →
    (o : IsAmong k numbers p) →
    (q : IsBehind (called_of g (called_with k u p numbers ys)) wanted credits f v r s) →
    IsAmong k numbers (untold u q.point)
forgets {g} {k} {u} {numbers = numbers} {p = p} ys h o q =
    let w = k.call.surroundings in
    let φ = u.layer in
    let φs = u.others in
    let newest = q.later.layers in
    let y = called_with k u p numbers ys in
    let known = with_list_stands w k.call.code q.point (with_waits (bound_waits y) φ) φs φ.waits (q.stands, q.image)
    newest in
    let from = q.later.remains in
    let there : Remains p q.point = record {
      living = from.living;
      serials = from.serials;
      at = from.at;
      number = from.number;
      signatures = from.signatures;
      statics = from.statics;
      low = from.low;
      constants = from.constants;
      active = from.active;
      in_use = from.in_use;
    } in
    let remains = remains_then k.first p q.point o.later.remains there in
    let first = o.later.acts in
    let more = q.later.acts in
    record {
      stands = known.0;
      image = known.1;
      later = record {
        activations = q.later.activations ∙ o.later.activations;
        layers = sym h.space.newest;
        edits = q.later.edits ∙ o.later.edits;
        waiting = q.later.waiting ∙ o.later.waiting;
        acts = omega (arith, first, more);
        remains = record {
          living = remains.living;
          serials = remains.serials;
          at = remains.at;
          number = remains.number;
          signatures = remains.signatures;
          statics = remains.statics;
          low = remains.low;
          constants = remains.constants;
          active = remains.active;
          in_use = remains.in_use;
        };
      };
      few = q.few;
      entries = q.entries ∙ ap (λ (ψ : Layer). ψ.entries) (layer_is u.callee.parameters ys (listed_layer y)) ∙ o.entries;
      others = o.others;
      words = o.words;
    }

-- it goes back behind the instruction that calls
pub back_is :
    (g : Option Function) (y : ListCall) → (called_of g y).beginning.layer.back ≡ y.callee.calling.call + 2
back_is g y = ap (λ (ψ : Layer). ψ.back) (layer_is y.callee.parameters y.passed (listed_layer y))

pub behind_goes :
    {k : Block} {u : Listed} {line index need most more : ℕ} {numbers : ℕ → ℕ} {p : Point} {acts wanted credits : ℕ}
    {f : Family} {v : Services} {r : Option BasicValue} {s : State} (ys : List Passing)
    (h : IsListedCall k u line index need most more) (o : IsAmong k numbers p) → acts ≤ p.state.world.acts →
    IsBehind (called_of None (called_with k u p numbers ys)) wanted credits f v r s →
    GoesOn k acts (index + size_with u.words k (listed_call u line)) wanted credits f v s
behind_goes {k} {u} {line} {index} {numbers = numbers} {p = p} {wanted = wanted} {credits = credits} {f = f} {v = v} ys h
    o since q =
    let w = k.call.surroundings in
    let φ = u.layer in
    let φs = u.others in
    let y = called_with k u p numbers ys in
    let newest = q.later.layers in
    let more = q.later.acts in
    record {
      point = untold u q.point;
      numbers = numbers;
      among = forgets {g = None} ys h.declared o q;
      since = omega (arith, since, more);
      state = q.state;
      reach = subst (λ v'. Reach k.call.code credits f v wanted v'
          (λ b z. IsIn w (untold u q.point) numbers (index + size_with u.words k (listed_call u line)) b z))
          (ap (λ ls. services_of (layered ls q.point)) newest)
          (reach_map _ q.reach (λ b z is.
          subst (λ n. IsIn w (untold u q.point) numbers n b z) (back_is None y ∙ h.call)
          (in_fewer φ φs φ.waits (bound_waits y) (words_stay y h.declared refl refl) newest is.0)));
    }

-- ---- the statement

abbrev pub behind_call : Option BasicValue → Meaning (Unit {0})
behind_call r = give tt

-- what comes of the call where the list has been given
abbrev pub Enters : Block → Listed → List Label → (line index acts wanted left' : ℕ) → List Passing → Type 0
Enters k u labels line index acts wanted left' ys =
    (p : Point) (numbers : ℕ → ℕ) → IsAmong k numbers p → acts ≤ p.state.world.acts → (credits : ℕ) (g : Family) →
    credits + 4 + size_of (taking_code u.callee (procedure_tail u.callee.procedure)) ≤ cost k.call.code →
    AreIn k.call.surroundings (given_point (called_with k u p numbers ys)) numbers u.callee.calling.call g →
    ((b : Base) →
    IsListing (given_point (called_with k u p numbers ys)) (beginning_of None (called_with k u p numbers ys))
    (list_of (called_with k u p numbers ys)) b (g b)) →
    Comes k.call.code credits g (services_of (given_point (called_with k u p numbers ys)))
    (before k.call.code (statement_aims k labels acts (index + size_with u.words k (listed_call u line)) wanted left')
    k.call.surroundings.acts behind_call)
    (M.block_run u.callee.around (block_of u.callee.procedure) (entry_of None (called_with k u p numbers ys))
    k.call.surroundings.acts p.state)

-- nothing more is told there
pub among_told :
    (k : Block) (u : Listed) {numbers : ℕ → ℕ} {p : Point} → k.first.control.layers ≡ u.layer ∷ u.others →
    IsAmong k numbers p → IsAmong (telling u.layer.waits u.layer u.others k) numbers p
among_told k u newest o =
    record {
      stands = o.stands;
      image = o.image;
      later = record {
        activations = o.later.activations;
        layers = o.later.layers ∙ newest;
        edits = o.later.edits;
        waiting = o.later.waiting;
        acts = o.later.acts;
        remains = (let h = o.later.remains in record {
          living = h.living;
          serials = h.serials;
          at = h.at;
          number = h.number;
          signatures = h.signatures;
          statics = h.statics;
          low = h.low;
          constants = h.constants;
          active = h.active;
          in_use = h.in_use;
        });
      };
      few = o.few;
      entries = o.entries;
      others = o.others;
      words = o.words;
    }

given_goes :
    {k : Block} {u : Listed} {line index need most more : ℕ} (labels : List Label) (left' acts wanted c' : ℕ)
    (f' : Family) (v' : Services) (es : List V.Evaluated) (s : State) (y : Stretch) →
    IsListedCall k u line index need most more →
    ((ys : List Passing) → ComeTo u.ways ys → Enters k u labels line index acts wanted left' ys) → acts ≤ y.acts →
    HasPassed (setting_around u.words k labels line most) u.layer u.others u.words u.layer.waits u.ways y es c' f' v'
    s → Linked k.call.surroundings.links k.call.code y.index (giving_in k u ++ last_of u) →
    u.callee.calling.call ≡ y.index + size_of (giving_in k u) → y.wanted ≤ y.index →
    Comes k.call.code c' f' v'
    (before k.call.code (statement_aims k labels acts (index + size_with u.words k (listed_call u line)) wanted left')
    k.call.surroundings.acts behind_call)
    (flow_on k.call.surroundings.acts
    (V.all_passed_last (at_line k.around line) es es k.call.surroundings.acts s)
    (λ ps. V.procedure_entered (at_line k.around line)
    (procedure_numbered u.callee.procedure.head.number k.around.program.procedures) u.level ps))
unfolding give
given_goes {k} {u} {line} {index} labels left' acts wanted c' f' v' es s y h enters since q l at few =
    let w = k.call.surroundings in
    let code = k.call.code in
    let around' = at_line k.around line in
    let ys = q.passed in
    let told = list_told u.words ys u.layer.waits in
    let p = untold u q.point in
    let d = h.declared in
    let o = untold_among k u.layer u.others told d.space.newest q.among in
    let x = called_with k u p q.numbers ys in
    let given' = giving_in k u in
    let aims = statement_aims k labels acts (index + size_with u.words k (listed_call u line)) wanted left' in
    let aims' = before code aims w.acts behind_call in
    let closed = before_closed w.acts behind_call
    (statement_closed k labels acts (index + size_with u.words k (listed_call u line)) wanted left') in
    let more = q.since in
    let inside = l.inside in
    let proc = h.callee.stands.inside in
    let n = size_append given' (last_of u) in
    let enter : List Passed → Meaning (Option BasicValue) = λ ps. V.procedure_entered around'
    (procedure_numbered u.callee.procedure.head.number k.around.program.procedures) u.level ps in
    let flow = ap (λ t. flow_on w.acts (V.all_passed_last around' t t w.acts s) enter) q.are
    ∙ ap (λ t. flow_on w.acts t enter) (all_last around' (evaluated ys) ys w.acts s)
    ∙ ap (λ t. enter (all_passed ys) w.acts t) q.state
    ∙ entered_means None {u = u} {numbers = q.numbers} {p = p} around' ys None d o (h.found, refl, h.enter, h.around) in
    subst (λ t. Comes code c' f' v' aims' t) (sym flow)
    (onward closed q.reach
    (λ g there.
    onward closed (list_goes None k u labels ys y.wanted y.index g d q.among q.come (front_of given' (last_of u) l) there)
    (λ g' there'.
    enters ys q.come p q.numbers o (omega (arith, since, more)) (y.wanted + size_of given') g'
    (omega (arith, few, n, inside, proc))
    (λ b. subst (λ j. IsIn w (given_point x) q.numbers j b (g' b)) (sym at) (there' b).0)
    (λ b. (there' b).1))))

pub listed_call_comes :
    (k : Block) (u : Listed) (labels : List Label) (line index left' need most more : ℕ) →
    IsListedCall k u line index need most more → ArgumentsGive k u labels line need most →
    ((acts wanted : ℕ) (ys : List Passing) → ComeTo u.ways ys → Enters k u labels line index acts wanted left' ys) →
    DoesWith u.words k labels (listed_call u line) index left'
unfolding M.statement V.called give ◌>>=◌ ◌>>◌
listed_call_comes k u labels line index left' need most more h each enters p numbers credits wanted f o paid there =
    let w = k.call.surroundings in
    let code = k.call.code in
    let around' = at_line k.around line in
    let k' = setting_around u.words k labels line most in
    let stmt = listed_call u line in
    let d = h.declared in
    let one = act_code line in
    let v = given_list k' u 0 in
    let given' = giving_in k u in
    let last = last_of u in
    let eq = ap (λ t. one ++ t) (call_coded k' u 0) in
    let l = subst (Linked w.links code index) eq h.statement in
    let l1 = back_of one (v ++ (given' ++ last)) l in
    let l2 = back_of v (given' ++ last) l1 in
    let n0 = size_append one (v ++ (given' ++ last)) in
    let n1 = size_append v (given' ++ last) in
    let n2 = size_append given' last in
    let size = ap (λ t. size_of t) eq in
    let acts = p.state.world.acts in
    let all = h.paid in
    let at_call = h.call in
    let words = d.space.words in
    let registers = h.registers in
    let goal = statement_aims k labels acts (index + size_with u.words k stmt) wanted left' in
    let closed = statement_closed k labels acts (index + size_with u.words k stmt) wanted left' in
    let tree = calling_of u in
    let tail : Unit {0} → Meaning (Unit {0}) = λ t. V.called around' tree >> give tt in
    let enter : List V.Evaluated → Meaning (Option BasicValue) =
    λ es. V.all_passed_last around' es es >>= (λ ps. V.procedure_entered around'
    (procedure_numbered u.callee.procedure.head.number k.around.program.procedures) u.level ps) in
    let a1' = before code goal w.acts behind_call in
    comes_on w.acts (act counted w.acts p.state) tail
    (act_comes (before_closed w.acts tail closed) line credits 0 f (o.stands, o.image)
    (h.act.line_fits, h.act.acts, omega (arith, paid, n0, size)) (front_of one (v ++ (given' ++ last)) l) there
    (λ g less at.
    let p' = acted line p in
    let o' = acted_among line o less in
    let y = behind p' numbers 0 0 (index + size_of one) v in
    let flow = V.arguments around' (arguments_of u.ways) w.acts p'.state in
    comes_on w.acts (V.called around' tree w.acts p'.state) behind_call
    (comes_on w.acts flow enter
    (comes_map (list_aims k' u.layer u.others u.words u.layer.waits u.ways y) (before code a1' w.acts enter) refl flow
    (λ c' f' v' es s q.
    given_goes labels left' acts wanted c' f' v' es s y h (λ ys come. enters acts wanted ys come) (omega arith) q l2
    (omega (arith, at_call, size, n0, n1, n2)) (omega arith))
    (λ c' f' v' height label s q. jumps_since (omega arith) q)
    (λ c' f' v' r s q. absurd q)
    (arguments_come k' need u.layer u.others u.words (all_words u) u.words (6 * length u.ways) 0 u.layer.waits u.ways 0
    each
    (record {
      newest = d.space.newest;
      fewer = λ i v e. e;
      free = d.space.free;
      starts = refl;
      ends = omega arith;
      inside = words;
    }) (omega (arith, registers), h.held) p' numbers 0 (index + size_of one) g
    (among_told k u d.space.newest o') refl (front_of v (given' ++ last) l1) (omega (arith, all, n0, n1, size)) at)))))

-- ---- a procedure's statements, from behind the act of its entry

end_nothing :
    (around : Around) (body : Y.Stmts) (k : ℕ) (s : State) → behind_list around body false k s ≡ M.list around body k s
unfolding M.block_list
end_nothing around body k s = refl

procedure_goes :
    (y : ListCall) (made : Point → Point) (callee : IsTaking y.surroundings y.code y.callee) →
    (IsBegun (list_block None y made) →
    EachDoes (list_block None y made) (labels_in y.callee.procedure.body ++ []) y.callee.procedure.body
    (body_index y.callee) left_over) →
    y.surroundings.acts < y.callee.around.turns + (list_block None y made).first.state.world.acts →
    BodyComes None y made
procedure_goes y made callee each few b o f there =
    let k = list_block None y made in
    let c = y.callee in
    let x = c.procedure in
    let one = act_code x.head.line in
    let body = stmts_code c.environment none_taken x.body in
    let tail = procedure_tail x in
    let copies = copies_code c in
    let l0 = back_of (listing_of c) (copies ++ behind_copies c tail) callee.stands in
    let l1 = back_of copies (behind_copies c tail) l0 in
    let l2 = back_of one (body ++ tail) (back_of x.variables (one ++ (body ++ tail)) l1) in
    let l3 = front_of body tail l2 in
    let inside = l3.inside in
    let kind = ap (λ (ψ : Layer). ψ.kind) (layer_is c.parameters y.passed (listed_layer y)) in
    let saved = ap (λ (ψ : Layer). ψ.saved) (layer_is c.parameters y.passed (listed_layer y)) in
    let flow = M.list k.around x.body y.surroundings.acts k.first.state in
    let acts = k.first.state.world.acts in
    subst (λ u. Comes y.code 0 f (services_of k.first) (body_aims k.call left_over) u)
    (sym (end_nothing k.around x.body y.surroundings.acts k.first.state))
    (comes_map (statement_aims k [] acts c.calling.end left_over left_over) (body_aims k.call left_over) refl flow
    (λ c' f' v' r s q. at_end b refl (omega (arith, saved)) q)
    (λ c' f' v' height label s q. no_jump refl q)
    (λ c' f' v' r s q.
    subst (λ i. either (is_begin i) ⊥ (AtEnd k.call left_over c' f' v' r s)) kind q.to)
    (subst (λ j. Comes y.code 0 f (services_of k.first) (statement_aims k [] acts j left_over left_over) flow)
    (sym callee.end)
    (list_does k [] x.body (body_index c) left_over k.first y.numbers 0 left_over f b few (each b) callee.labels o l3
    (omega arith, omega (arith, inside)) there)))

pub code_of :
    {k : Block} {u : Listed} {line index need most more : ℕ} {numbers : ℕ → ℕ} {p : Point} (ys : List Passing) →
    IsListedCall k u line index need most more →
    HasCode (called_with k u p numbers ys) (procedure_tail u.callee.procedure)
code_of ys h =
    record {
      calls = h.callee.calls;
      place = h.callee.place;
      kind = h.callee.kind;
      acts = h.callee.acts;
      begins = h.callee.stands;
    }

pub entering_among :
    {k : Block} {u : Listed} {line index need most more : ℕ} {numbers : ℕ → ℕ} {p : Point} (ys : List Passing) →
    (h : IsListedCall k u line index need most more) → PassesNone k.first u.ways → IsAmong k numbers p →
    ComeTo u.ways ys → AreBeside None (called_with k u p numbers ys) u.made →
    Entering None (called_with k u p numbers ys) u.made (procedure_tail u.callee.procedure)
entering_among {k} {u} ys h none o come beside =
    let c = u.callee in
    let x = c.procedure in
    let one = act_code x.head.line in
    let body = stmts_code c.environment none_taken x.body in
    let tail = procedure_tail x in
    let copies = copies_code c in
    let l0 = back_of (listing_of c) (copies ++ behind_copies c tail) h.callee.stands in
    let l1 = back_of copies (behind_copies c tail) l0 in
    let l2 = back_of one (body ++ tail) (back_of x.variables (one ++ (body ++ tail)) l1) in
    let l3 = rest_of (Mark (ReturnPlace x.head.number)) (end_of x) (back_of body tail l2) in
    let e = h.callee.end in
    record {
      here = here_among None ys h.declared h.callee.coded h.callee.parameters o come;
      code = code_of ys h;
      shallow = subst (λ xs. nat_lt (length xs) most_activations ≡ true) (sym o.later.activations) none.shallow;
      within = within_among ys h.declared o none come;
      beside = beside;
      ending = linked_at c.calling.end (end_of x) (omega (arith, e)) l3;
      word = tt;
      long = omega arith;
    }

pub listed_call_does :
    (k : Block) (u : Listed) (labels : List Label) (line index left' need most more : ℕ) →
    IsListedCall k u line index need most more → PassesNone k.first u.ways →
    ArgumentsGive k u labels line need most →
    ((p : Point) (numbers : ℕ → ℕ) (ys : List Passing) → IsAmong k numbers p → ComeTo u.ways ys →
    AreBeside None (called_with k u p numbers ys) u.made) →
    ((p : Point) (numbers : ℕ → ℕ) (ys : List Passing) → IsAmong k numbers p → ComeTo u.ways ys →
    IsBegun (list_block None (called_with k u p numbers ys) u.made) →
    EachDoes (list_block None (called_with k u p numbers ys) u.made) (labels_in u.callee.procedure.body ++ [])
    u.callee.procedure.body (body_index u.callee) left_over) →
    DoesWith u.words k labels (listed_call u line) index left'
unfolding give
listed_call_does k u labels line index left' need most more h none give' made' each =
    listed_call_comes k u labels line index left' need most more h give'
    (λ acts wanted ys come p numbers o since credits g paid there gives.
    let x = called_with k u p numbers ys in
    let w = k.call.surroundings in
    let made = made' p numbers ys o come in
    let enough = h.declared.enough in
    let turns = ap (λ (a : Around). a.turns) h.around in
    let later = o.later.acts in
    let same = ap (λ (t : World). t.acts) made.world in
    comes_map (behind_aims (called_of None x) wanted)
    (before k.call.code (statement_aims k labels acts (index + size_with u.words k (listed_call u line)) wanted left')
    w.acts behind_call) refl
    (M.block_run u.callee.around (block_of u.callee.procedure) (entry_of None x) w.acts p.state)
    (λ c1 f1 v1 r t e. record { to = λ early. behind_goes ys h o since e })
    (λ c1 f1 v1 height label t e. absurd e)
    (λ c1 f1 v1 r t e. absurd e)
    (list_runs credits wanted g (entering_among ys h none o come made)
    (procedure_goes x u.made h.callee (each p numbers ys o come) (omega (arith, enough, turns, later, same))) paid there
    gives))
