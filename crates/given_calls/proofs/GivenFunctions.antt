-- Calls in expressions with an argument that is copied, of a function that the running block or one around it declares.
use Rattle.std.proofs.Common.{◌≡◌, ℕ, ℤ, ◌+◌, ◌<◌, ◌≤◌, List, [], ◌∷◌, ◌++◌, Option, Some}
use Rattle.std.proofs.Common.{None, true, refl, sym, ap, ◌∙◌, subst, arith}
use Rattle.std.proofs.lemmas.List.{append-nil, append_assoc}
use Rattle.std.specs.Prelude.{negsuc, ◌==◌}
use Rattle.rv_meaning.specs.Machine.{value}
use Rattle.rv_meaning.specs.Words.{word}
use Rattle.pli_language.specs.declared.condition.Condition.TheVariants as C
use Rattle.pli_typing.specs.Signatures.{Fixed}
use Rattle.pli_typing.specs.TypedTree as Y
use Rattle.pli_meaning.specs.BasicValues.{BasicBit, BasicNumber, BasicOffset, BasicPointer, BasicText, BasicValue}
use Rattle.pli_meaning.specs.Codes.{no_value_code}
use Rattle.pli_meaning.specs.Control.{Meaning, give, ◌>>=◌, ◌>>◌}
use Rattle.pli_meaning.specs.DeclaredShapes.{procedure_numbered}
use Rattle.pli_meaning.specs.Evaluating as V
use Rattle.pli_meaning.specs.Contents.{number_in}
use Rattle.pli_meaning.specs.Executing as M
use Rattle.pli_meaning.specs.Executing.{begun, labels_in}
use Rattle.pli_meaning.specs.Numbers.{checked, is_of_precision}
use Rattle.pli_meaning.specs.Raising as R
use Rattle.pli_meaning.specs.Raising.{Around, PassedValue, error}
use Rattle.pli_meaning.specs.StorageState.{State, force}
use Rattle.pli_meaning.specs.World.{World}
use Rattle.pli_serving.specs.ServiceState.{Services}
use Rattle.pli_coding.specs.Allocating.{act_code}
use Rattle.pli_coding.specs.Assembly.{Code, Mark, ReturnPlace, size_of}
use Rattle.pli_coding.specs.Entries.{arguments_copied}
use Rattle.pli_coding.specs.Environments.{none_taken}
use Rattle.pli_coding.specs.Expressions.{number_code}
use Rattle.pli_coding.specs.Instructions.{number, plus}
use Rattle.pli_coding.specs.Procedures.{no_value}
use Rattle.pli_coding.specs.Registers.{a0, a1, a2, frame_register}
use Rattle.pli_coding.specs.Statements.{stmts_code}
use Rattle.activation_relation.specs.FrameLaws.{with_waits}
use Rattle.activation_relation.specs.Layers.{Point, services_of}
use Rattle.activation_relation.specs.Remaining.{Remains}
use Rattle.activation_relation.specs.ServiceLaws.{IsSystem}
use Rattle.activation_relation.proofs.Remaining.{remains_then}
use Rattle.run_steps.specs.Engine.{Base}
use Rattle.run_steps.specs.Items.{Linked}
use Rattle.run_steps.proofs.Jumps.{back_of, front_of, linked_at, rest_of}
use Rattle.run_steps.proofs.Linking.{size_append}
use Rattle.run_steps.proofs.Numbers.{word_small}
use Rattle.run_steps.specs.Reach.{Comes, Family, Reach, before, cost}
use Rattle.run_steps.proofs.Reach.{before_closed, comes_on, onward, reach_map}
use Rattle.block_runs.specs.Bodies.{IsBehind, behind_aims, body_aims}
use Rattle.block_runs.specs.Machines.{AreIn, IsIn}
use Rattle.block_runs.proofs.CallStatements.{comes_map}
use Rattle.block_runs.proofs.PointGrounds.{point_frame}
use Rattle.program_runs.specs.Calls.{left_over}
use Rattle.program_runs.specs.Procedures.{block_of}
use Rattle.program_runs.specs.Statements.{Block, EachDoes, IsAmong, IsBegun, statement_aims}
use Rattle.program_runs.proofs.Calls.{body_closed}
use Rattle.program_runs.proofs.JumpsOut.{no_jump}
use Rattle.program_runs.proofs.ListEnds.{list_comes}
use Rattle.program_runs.proofs.Lists.{list_does}
use Rattle.expression_runs.specs.Laws as L
use Rattle.expression_runs.specs.Values.{HasWord, Setting, Stretch, behind, in_registers, number_aims}
use Rattle.expression_runs.proofs.Assignments.{fit_is}
use Rattle.expression_runs.proofs.Words.{number_closed}
use Rattle.function_runs.specs.Functions.{function_end, function_tail}
use Rattle.function_runs.proofs.NoValues.{value_lacks}
use Rattle.argument_runs.specs.CopyCalls.{CopyCall, beginning_of, called_of, entry_of, given_point}
use Rattle.argument_runs.specs.CopyCalls.{listing_of}
use Rattle.argument_runs.specs.CopyFunctions.{number_function, setting_in}
use Rattle.argument_runs.specs.ListBeginnings.{IsListing}
use Rattle.argument_runs.specs.Lists.{layered, list_under, named_waits, value_given}
use Rattle.argument_runs.proofs.CopyBlocks.{Here}
use Rattle.argument_runs.proofs.CopyCalls.{forgotten, in_forgotten}
use Rattle.argument_runs.proofs.GivenLists.{with_list_stands}
use Rattle.nested_calls.specs.Nested.{parent_code}
use Rattle.given_calls.specs.Given.{AreBeside, body_index, given_block}
use Rattle.given_calls.specs.GivenCalls.{GivenCall, IsDeclared, PassesNone, calling_of}
use Rattle.given_calls.specs.GivenFunctions.{IsGivenFunction, IsGivenValue, called_there, given_value, value_block}
use Rattle.given_calls.specs.GivenFunctions.{value_with}
use Rattle.given_calls.proofs.GivenBlocks.{BodyComes, Entering, given_runs}
use Rattle.given_calls.proofs.GivenCalls.{entered_means, giving_in, last_of, room_among}
use Rattle.given_calls.proofs.GivenCode.{giving_comes}

-- ---- its statements, from behind the act of its entry

function_goes :
    (y : CopyCall) (made : Point → Point) (h : IsGivenFunction y.surroundings y.code y.callee) →
    (IsBegun (given_block (Some number_function) y made) →
    EachDoes (given_block (Some number_function) y made) (labels_in y.callee.procedure.body ++ [])
    y.callee.procedure.body (body_index y.callee) left_over) →
    IsSystem (force (given_block (Some number_function) y made).first.state.activations C.Error) →
    y.surroundings.acts < y.callee.around.turns + (given_block (Some number_function) y made).first.state.world.acts →
    BodyComes (Some number_function) y made
function_goes y made h each only few b o f there =
    let k = given_block (Some number_function) y made in
    let w = y.surroundings in
    let code = y.code in
    let c = y.callee in
    let x = c.procedure in
    let one = act_code x.head.line in
    let body = stmts_code c.environment none_taken x.body in
    let lacks = no_value x.head.line in
    let tail = function_tail x in
    let copies = arguments_copied c.environment (0 ∷ []) in
    let l0 = back_of (listing_of x) (copies ++ (x.variables ++ (one ++ (body ++ tail)))) h.stands in
    let l1 = back_of x.variables (one ++ (body ++ tail)) (back_of copies (x.variables ++ (one ++ (body ++ tail))) l0) in
    let l2 = back_of one (body ++ tail) l1 in
    let l3 = front_of body tail l2 in
    let l4 = front_of lacks (Mark (ReturnPlace x.head.number) ∷ function_end x) (back_of body tail l2) in
    let inside = l3.inside in
    let last = l4.inside in
    let proc = h.routines.linked.inside in
    let flow = M.list k.around x.body w.acts k.first.state in
    let acts = k.first.state.world.acts in
    let next' : Unit {0} → Meaning (Unit {0}) = λ u. error k.around no_value_code in
    let aims = body_aims k.call left_over in
    list_comes k.around x.body w.acts k.first.state (λ height label s q. absurd q)
    (comes_on w.acts flow next'
    (comes_map (statement_aims k [] acts (body_index c + size_of body) left_over left_over)
    (before code aims w.acts next') refl flow
    (λ c' f' v' r s q.
    subst (λ u. Comes code c' f' v' aims (error k.around no_value_code w.acts u)) (sym q.state)
    (onward (body_closed k.call left_over) q.reach
    (λ g at.
    value_lacks (body_closed k.call left_over) h.routines k.around left_over g
    (point_frame q.among.stands q.among.image) (q.among.stands, q.among.image) h.line
    (omega (arith, last, proc), h.acts)
    h.raises (subst (λ xs. IsSystem (force xs C.Error)) (sym q.among.later.activations) only) l4 at)))
    (λ c' f' v' height label s q. no_jump refl q)
    (λ c' f' v' r s q. q.to)
    (list_does k [] x.body (body_index c) left_over k.first y.numbers 0 left_over f b few (each b) h.labels o l3
    (omega arith, omega (arith, inside)) there)))

-- ---- where it is called

-- it doesn't depend on where the call stands
pub declared_there :
    {k : Block} {u : GivenCall} {more : ℕ} (call : ℕ) → IsDeclared k u more → IsDeclared k (called_there u call) more
declared_there call h =
    record {
      begun = h.begun;
      space = record {
        newest = h.space.newest;
        words = h.space.words;
        waits = h.space.waits;
        room = h.space.room;
        even = h.space.even;
        idle = h.space.idle;
        low = h.space.low;
        shape = h.space.shape;
        number = h.space.number;
      };
      few = h.few;
      small = h.small;
      nested = h.nested;
      around_it = h.around_it;
      inner = h.inner;
      parent = h.parent;
      enough = h.enough;
    }

passes_there :
    (p : Point) (u : GivenCall) (call : ℕ) → PassesNone p u.callee → PassesNone p (called_there u call).callee
passes_there p u call h = record { shallow = h.shallow; limit = h.limit }

pub function_there :
    (k : Setting) (u : GivenCall) (call : ℕ) →
    IsGivenFunction k.block.call.surroundings k.block.call.code u.callee →
    IsGivenFunction k.block.call.surroundings k.block.call.code (called_there u call).callee
function_there k u call h =
    record {
      level = h.level;
      line = h.line;
      saved = h.saved;
      place = h.place;
      stands = h.stands;
      end = h.end;
      kind = h.kind;
      labels = h.labels;
      acts = h.acts;
      routines = h.routines;
      raises = h.raises;
      copied = λ z. record {
        copies = (h.copied z).copies;
        number = (h.copied z).number;
        leaves = (h.copied z).leaves;
      };
    }

pub here_there :
    {k : Setting} {u : GivenCall} {more : ℕ} {numbers : ℕ → ℕ} {p : Point} (call : ℕ) (z : ℤ) →
    is_of_precision 31 z ≡ true → IsGivenValue k u more → PassesNone k.block.first u.callee →
    IsAmong k.block numbers p → Linked k.block.call.surroundings.links k.block.call.code call (last_of u) →
    Here (Some number_function) (value_with k u call p numbers z)
here_there {k} {u} {numbers = numbers} {p = p} call z wide h none o calls =
    let f = function_there k u call h.function in
    let c = u.callee in
    let x = c.procedure in
    let one = act_code x.head.line in
    let body = stmts_code c.environment none_taken x.body in
    let lacks = no_value x.head.line in
    let tail = function_tail x in
    let copies = arguments_copied c.environment (0 ∷ []) in
    let l0 = back_of (listing_of x) (copies ++ (x.variables ++ (one ++ (body ++ tail)))) f.stands in
    let l1 = back_of x.variables (one ++ (body ++ tail)) (back_of copies (x.variables ++ (one ++ (body ++ tail))) l0) in
    let l2 = back_of body tail (back_of one (body ++ tail) l1) in
    let l3 = back_of lacks (Mark (ReturnPlace x.head.number) ∷ function_end x) l2 in
    let e = f.end in
    let inside = calls.inside in
    let small' = calls.small' in
    record {
      stands = o.stands;
      image = o.image;
      few = o.few;
      room = room_among (declared_there call h.declared) (passes_there k.block.first u call none) o;
      wide = wide;
      words = o.words;
      each = h.declared.few;
      small' = h.declared.small;
      coded = record { level = f.level; line = f.line; saved = f.saved; back = omega (arith, inside, small') };
      calls = calls;
      place = f.place;
      copied = f.copied z;
      behind = x.variables ++ (one ++ (body ++ tail));
      begins = f.stands;
      ending = linked_at c.calling.end (function_end x) (omega (arith, e))
          (rest_of (Mark (ReturnPlace x.head.number)) (function_end x) l3);
      word = (refl, omega arith);
    }

here_with :
    {k : Setting} {u : GivenCall} {more : ℕ} {numbers : ℕ → ℕ} {p : Point} (call : ℕ) (z : ℤ) →
    is_of_precision 31 z ≡ true → IsGivenValue k u more → PassesNone k.block.first u.callee →
    IsAmong k.block numbers p →
    Linked k.block.call.surroundings.links k.block.call.code call (last_of u) →
    AreBeside (Some number_function) (value_with k u call p numbers z) u.made →
    Entering (Some number_function) (value_with k u call p numbers z) u.made (function_tail u.callee.procedure)
here_with {k} {u} call z wide h none o calls beside =
    let f = function_there k u call h.function in
    let x = u.callee.procedure in
    let n = size_append (no_value x.head.line) (Mark (ReturnPlace x.head.number) ∷ function_end x) in
    record {
      here = here_there call z wide h none o calls;
      beside = beside;
      kind = f.kind;
      acts = f.acts;
      stands = f.stands;
      long = omega (arith, n);
    }

-- ---- its code

abbrev value_of : Setting → (taken : ℕ) → Y.Number → Code
value_of k taken source = number_code k.block.environment (in_registers 6 taken) source

abbrev coded_as : Setting → GivenCall → (taken : ℕ) → Code
coded_as k u taken = value_of k taken u.source ++ (giving_in k.block u ++ last_of u)

coded :
    (k : Setting) (u : GivenCall) (taken : ℕ) → k.words ≡ 0 →
    number_code k.block.environment (in_registers k.words taken) (given_value u) ≡ coded_as k u taken
coded k u taken none =
    let v = value_of k taken u.source in
    let list = plus a1 frame_register (negsuc 23) in
    let rest : Code = list
    ++ (number a2 0 ++ (parent_code (u.level == k.block.environment.level) u.level ++ last_of u)) in
    ap (λ n. number_code k.block.environment (in_registers n taken) (given_value u)) none
    ∙ ap (λ w. w ++ rest) (append-nil ((v ++ []) ++ value_given))
    ∙ ap (λ w. (w ++ value_given) ++ rest) (append-nil v)
    ∙ append_assoc v value_given rest

-- ---- behind the call

abbrev pub as_number : Option BasicValue → Meaning ℤ
as_number r = V.returned r >>= (λ v. give (number_in v))

behind_goes :
    {k : Setting} {u : GivenCall} {more : ℕ} {numbers : ℕ → ℕ} {p : Point} {x : Stretch} (call : ℕ) (z : ℤ)
    (h : IsGivenValue k u more) (o : IsAmong k.block numbers p) → x.acts ≤ p.state.world.acts →
    p.control.line ≡ x.line → ((n : ℕ) → n < x.taken → numbers n ≡ x.numbers n) → call + 2 ≡ x.index → (c' : ℕ)
    (f : Family) (v : Services) (r : Option BasicValue) (s : State) →
    IsBehind (called_of (Some number_function) (value_with k u call p numbers z)) x.wanted c' f v r s →
    Comes k.block.call.code c' f v (number_aims k.block k.labels x) (as_number r k.block.call.surroundings.acts s)
unfolding V.returned ◌>>=◌ give
behind_goes {k} {u} {numbers = numbers} {p = p} {x = x} call z h o since line stays at c' f v (Some (BasicNumber z')) s
    q =
    let w = k.block.call.surroundings in
    let φ = u.layer in
    let φs = u.others in
    let space = h.declared.space in
    let waits = named_waits (p.state.serials + 1) u.callee.number in
    let newest = q.later.layers in
    let known = with_list_stands w k.block.call.code q.point (with_waits waits φ) φs (λ n. None) (q.stands, q.image)
    newest in
    let from = q.later.remains in
    let there : Remains p q.point = record {
      living = from.living;
      serials = from.serials;
      at = from.at;
      number = from.number;
      signatures = from.signatures;
      statics = from.statics;
      low = from.low;
      constants = from.constants;
      active = from.active;
      in_use = from.in_use;
    } in
    let remains = remains_then k.block.first p q.point o.later.remains there in
    let first = o.later.acts in
    let more = q.later.acts in
    record {
      to = λ early. (
        q.result.1,
        record {
          point = forgotten φ φs q.point;
          numbers = numbers;
          among = record {
            stands = known.0;
            image = known.1;
            later = record {
              activations = q.later.activations ∙ o.later.activations;
              layers = ap (λ ψ. ψ ∷ φs) space.waits ∙ sym space.newest;
              edits = q.later.edits ∙ o.later.edits;
              waiting = q.later.waiting ∙ o.later.waiting;
              acts = omega (arith, first, more);
              remains = record {
                living = remains.living;
                serials = remains.serials;
                at = remains.at;
                number = remains.number;
                signatures = remains.signatures;
                statics = remains.statics;
                low = remains.low;
                constants = remains.constants;
                active = remains.active;
                in_use = remains.in_use;
              };
            };
            few = q.few;
            entries = q.entries ∙ o.entries;
            others = o.others;
            words = o.words;
          };
          since = omega (arith, since, more);
          line = q.line ∙ line;
          stays = stays;
          state = q.state;
          reach = subst (λ v'. Reach k.block.call.code c' f v x.wanted v'
              (λ b y. IsIn w (forgotten φ φs q.point) numbers x.index b y × (value y.machine a0 ≡ word z')))
              (ap (λ ls. services_of (layered ls q.point)) newest)
              (reach_map _ q.reach (λ b y is. (
                subst (λ n. IsIn w (forgotten φ φs q.point) numbers n b y) at
                    (in_forgotten φ φs waits newest is.0),
                is.1 ∙ q.result.0,
              )));
        },
      );
    }
behind_goes call z h o since line stays at c' f v None s q = absurd q.result
behind_goes call z h o since line stays at c' f v (Some (BasicBit b)) s q = absurd q.result
behind_goes call z h o since line stays at c' f v (Some (BasicOffset b)) s q = absurd q.result
behind_goes call z h o since line stays at c' f v (Some (BasicText b)) s q = absurd q.result
behind_goes call z h o since line stays at c' f v (Some (BasicPointer b)) s q = absurd q.result

-- ---- from the value in a0 on

-- what comes of the call where the list has been given, with a value
abbrev pub Enters : Setting → GivenCall → (call : ℕ) → Stretch → ℤ → Type 0
Enters k u call x z =
    (p : Point) (numbers : ℕ → ℕ) → IsAmong k.block numbers p → x.acts ≤ p.state.world.acts →
    p.control.line ≡ x.line → ((n : ℕ) → n < x.taken → numbers n ≡ x.numbers n) →
    Linked k.block.call.surroundings.links k.block.call.code call (last_of u) → call + 2 ≡ x.index →
    (credits : ℕ) (g : Family) → credits + k.most ≤ cost k.block.call.code →
    AreIn k.block.call.surroundings (given_point (value_with k u call p numbers z)) numbers call g →
    ((b : Base) →
    IsListing (given_point (value_with k u call p numbers z))
    (beginning_of (Some number_function) (value_with k u call p numbers z)) (list_under u.layer.at) b (g b)) →
    Comes k.block.call.code credits g (services_of (given_point (value_with k u call p numbers z)))
    (before k.block.call.code (number_aims k.block k.labels x) k.block.call.surroundings.acts as_number)
    (M.block_run u.callee.around (block_of u.callee.procedure)
    (entry_of (Some number_function) (value_with k u call p numbers z)) k.block.call.surroundings.acts p.state)

given_goes :
    {k : Setting} {u : GivenCall} {more : ℕ} (call c' : ℕ) (f' : Family) (v' : Services) (z : ℤ) (s : State)
    (x y : Stretch) → IsGivenValue k u more → Enters k u call x z →
    is_of_precision 31 z ≡ true → HasWord k.block y (word z) c' f' v' s →
    (x.acts ≤ y.acts) × (y.line ≡ x.line) × ((n : ℕ) → n < x.taken → n < y.taken)
    × ((n : ℕ) → n < x.taken → y.numbers n ≡ x.numbers n) →
    Linked k.block.call.surroundings.links k.block.call.code y.index (giving_in k.block u ++ last_of u) →
    (call ≡ y.index + size_of (giving_in k.block u)) × (call + 2 ≡ x.index) →
    y.wanted + size_of (giving_in k.block u) + k.most ≤ cost k.block.call.code →
    Comes k.block.call.code c' f' v'
    (before k.block.call.code (number_aims k.block k.labels x) k.block.call.surroundings.acts as_number)
    (V.procedure_entered k.around (procedure_numbered u.callee.procedure.head.number k.around.program.procedures)
    u.level (PassedValue (Fixed 31) (BasicNumber z) ∷ []) k.block.call.surroundings.acts s)
given_goes {k} {u} call c' f' v' z s x y h enters wide q same l at paid =
    let w = k.block.call.surroundings in
    let code = k.block.call.code in
    let p = q.point in
    let o = q.among in
    let d = h.declared in
    let d' = declared_there call d in
    let t = value_with k u call p q.numbers z in
    let given' = giving_in k.block u in
    let aims' = before code (number_aims k.block k.labels x) w.acts as_number in
    let closed = before_closed w.acts as_number (number_closed k.block k.labels x) in
    let since = same.0 in
    let more = q.since in
    let calls = back_of given' (last_of u) l in
    let calls' = subst (λ j. Linked w.links code j (last_of u)) (sym at.0) calls in
    subst (λ e. Comes code c' f' v' aims' (V.procedure_entered k.around
    (procedure_numbered u.callee.procedure.head.number k.around.program.procedures) u.level
    (PassedValue (Fixed 31) (BasicNumber z) ∷ []) w.acts e)) (sym q.state)
    (subst (λ e. Comes code c' f' v' aims' e)
    (sym (entered_means (Some number_function) {u = called_there u call} {numbers = q.numbers} k.around z
    (Some (Y.FixedLeaf 31)) d' o (h.found, refl, h.enter, h.around)))
    (onward closed q.reach
    (λ g there.
    onward closed
    (giving_comes k.block u.level u.layer u.others (beginning_of (Some number_function) t) (word z) y.wanted y.index g
    d.nested d.begun o d.around_it (o.later.layers ∙ d.space.newest) d.space.waits
    (d.space.words, word_small z wide) (refl, d.parent) (front_of given' (last_of u) l) there)
    (λ g' there'.
    enters p q.numbers o (omega (arith, since, more)) (q.line ∙ same.1)
    (λ n less. q.stays n (same.2 n less) ∙ same.3 n less) calls' at.1 (y.wanted + size_of given') g' paid
    (λ b. subst (λ j. IsIn w (given_point t) q.numbers j b (g' b)) (sym at.0) (there' b).0)
    (λ b. (there' b).1)))))

-- ---- the call

pub given_function_comes :
    (k : Setting) (u : GivenCall) (need more : ℕ) → IsGivenValue k u more → L.Does (setting_in k) need u.source →
    ((call : ℕ) (x : Stretch) (z : ℤ) → is_of_precision 31 z ≡ true → Enters k u call x z) →
    L.Does k need (given_value u)
unfolding V.number V.called V.arguments V.argument V.stored_value V.all_passed_last V.passed_last give ◌>>=◌
given_function_comes k u need more h ev enters p numbers taken credits index f o line registers l paid there =
    let w = k.block.call.surroundings in
    let code = k.block.call.code in
    let v = value_of k taken u.source in
    let given' = giving_in k.block u in
    let last = last_of u in
    let eq = coded k u taken h.words in
    let part = number_code k.block.environment (in_registers k.words taken) (given_value u) in
    let l' = subst (Linked w.links code index) eq l in
    let n1 = size_append v (given' ++ last) in
    let n2 = size_append given' last in
    let size = ap (λ t. size_of t) eq in
    let x = behind p numbers taken credits index part in
    let y = behind p numbers taken credits index v in
    let call = index + size_of v + size_of given' in
    let stored' = Y.StoredNumber 31 u.source in
    let first = Y.ByCopy (Y.FixedLeaf 31) stored' in
    let tree = calling_of u in
    let enter : List V.Evaluated → Meaning (Option BasicValue) =
    λ es. V.all_passed_last k.around es es >>= (λ ps. V.procedure_entered k.around
    (procedure_numbered u.callee.procedure.head.number k.around.program.procedures) u.level ps) in
    let rest : V.Evaluated → Meaning (List V.Evaluated) =
    λ e. V.arguments k.around Y.NoArgument >>= (λ es. give (e ∷ es)) in
    let pass : BasicValue → Meaning V.Evaluated = λ t. give (V.EvaluatedArgument (V.copied (Y.FixedLeaf 31) t)) in
    let fit : ℤ → Meaning BasicValue =
    λ z. (R.value_of k.around (checked 31 z)) >>= (λ z'. give (BasicNumber z')) in
    let goal = number_aims k.block k.labels x in
    let a1' = before code goal w.acts as_number in
    let a2' = before code a1' w.acts enter in
    let a3' = before code a2' w.acts rest in
    let a4' = before code a3' w.acts pass in
    let flow = V.number k.around u.source w.acts p.state in
    comes_on w.acts (V.called k.around tree w.acts p.state) as_number
    (comes_on w.acts (V.arguments k.around (Y.ArgumentThen first Y.NoArgument) w.acts p.state) enter
    (comes_on w.acts (V.argument k.around first w.acts p.state) rest
    (comes_on w.acts (V.stored_value k.around stored' w.acts p.state) pass
    (comes_on w.acts flow fit
    (comes_map (number_aims k.block k.labels y) (before code a4' w.acts fit) refl flow
    (λ c' f' v' z s q.
    subst (Comes code c' f' v' a4') (sym (fit_is k.around z w.acts s q.0))
    (record {
      to = λ early. record {
        to = λ early. record {
          to = λ early.
              given_goes call c' f' v' z s x y h (enters call x z q.0) q.0 q.1
              (omega arith, refl, (λ n less. less), (λ n less. refl)) (back_of v (given' ++ last) l')
              (refl, omega (arith, size, n1, n2)) (omega (arith, paid, size, n1, n2));
        };
      };
    }))
    (λ c' f' v' height label s q. q)
    (λ c' f' v' r s q. absurd q)
    (ev p numbers taken credits index f o line registers (front_of v (given' ++ last) l')
    (omega (arith, paid, n1, size)) there))))))

pub given_function_does :
    (k : Setting) (u : GivenCall) (need more : ℕ) → IsGivenValue k u more → PassesNone k.block.first u.callee →
    L.Does (setting_in k) need u.source →
    ((call : ℕ) (p : Point) (numbers : ℕ → ℕ) (z : ℤ) → IsAmong k.block numbers p → is_of_precision 31 z ≡ true →
    AreBeside (Some number_function) (value_with k u call p numbers z) u.made
    × IsSystem (force (value_block k u call p numbers z).first.state.activations C.Error)) →
    ((call : ℕ) (p : Point) (numbers : ℕ → ℕ) (z : ℤ) → IsAmong k.block numbers p → is_of_precision 31 z ≡ true →
    IsBegun (value_block k u call p numbers z) →
    EachDoes (value_block k u call p numbers z) (labels_in u.callee.procedure.body ++ []) u.callee.procedure.body
    (body_index u.callee) left_over) →
    L.Does k need (given_value u)
given_function_does k u need more h none ev made' each =
    given_function_comes k u need more h ev
    (λ call x z wide p numbers o since line stays calls at credits g paid there gives.
    let t = value_with k u call p numbers z in
    let w = k.block.call.surroundings in
    let made = made' call p numbers z o wide in
    let enough = h.declared.enough in
    let turns = ap (λ (a : Around). a.turns) h.around in
    let later = o.later.acts in
    let most = h.most in
    let same = ap (λ (e : World). e.acts) made.0.world in
    comes_map (behind_aims (called_of (Some number_function) t) x.wanted)
    (before k.block.call.code (number_aims k.block k.labels x) w.acts as_number) refl
    (M.block_run u.callee.around (block_of u.callee.procedure) (entry_of (Some number_function) t) w.acts p.state)
    (λ c1 f1 v1 r s e. behind_goes {x = x} call z h o since line stays at c1 f1 v1 r s e)
    (λ c1 f1 v1 height label s e. absurd e)
    (λ c1 f1 v1 r s e. absurd e)
    (given_runs credits x.wanted g (here_with call z wide h none o calls made.0)
    (function_goes t u.made (function_there k u call h.function) (each call p numbers z o wide) made.1
    (omega (arith, enough, turns, later, same))) (omega (arith, paid, most)) there gives))
