-- The statement CALL of a procedure with a parameter that is copied: its argument is evaluated, the list is given, and
-- behind the call the caller forgets it.
use Rattle.std.proofs.Common.{◌≡◌, ℕ, ℤ, suc, ◌+◌, ◌%◌, ◌≤◌, List, [], ◌∷◌, ◌++◌, length, Option}
use Rattle.std.proofs.Common.{None, true, refl, sym, ap, ◌∙◌, subst, arith}
use Rattle.std.proofs.lemmas.Bool.{eq-eqb}
use Rattle.std.proofs.lemmas.List.{append-nil, append_assoc}
use Rattle.std.specs.Prelude.{cond, nat_le, nat_lt, negsuc, pos}
use Rattle.rv_meaning.specs.Words.{word}
use Rattle.pli_typing.specs.Signatures.{Fixed}
use Rattle.pli_typing.specs.TypedTree as Y
use Rattle.pli_meaning.specs.BasicValues.{BasicNumber, BasicValue}
use Rattle.pli_meaning.specs.Contents.{footprint_of}
use Rattle.pli_meaning.specs.Control.{Label, Meaning, act, give, looked, ◌>>=◌, ◌>>◌}
use Rattle.pli_meaning.specs.DeclaredShapes.{procedure_numbered}
use Rattle.pli_meaning.specs.Evaluating as V
use Rattle.pli_meaning.specs.Executing as M
use Rattle.pli_meaning.specs.Executing.{begun, labels_in}
use Rattle.pli_meaning.specs.Making.{plain}
use Rattle.pli_meaning.specs.Numbers.{checked, is_of_precision}
use Rattle.pli_meaning.specs.Raising as R
use Rattle.pli_meaning.specs.Raising.{Around, Entry, PassedValue, at_line}
use Rattle.pli_meaning.specs.StorageState.{Activation, State, ancestor, ancestor_at, height_of, most_activations}
use Rattle.pli_meaning.specs.StorageState.{most_automatic, newest_height}
use Rattle.pli_meaning.specs.World.{counted}
use Rattle.pli_serving.specs.ServiceState.{Services}
use Rattle.pli_coding.specs.Allocating.{act_code}
use Rattle.pli_coding.specs.Assembly.{CallTo, Code, Mark, ProcedureEntry, ReturnPlace, size_of}
use Rattle.pli_coding.specs.Entries.{arguments_copied}
use Rattle.pli_coding.specs.Environments.{none_taken}
use Rattle.pli_coding.specs.Expressions.{number_code}
use Rattle.pli_coding.specs.Frames.{MemoryParts, display, fixed_size}
use Rattle.pli_coding.specs.Instructions.{load_word, move, number, plus}
use Rattle.pli_coding.specs.Registers.{a0, a1, a2, frame_register}
use Rattle.pli_coding.specs.Statements.{stmt_code, stmts_code}
use Rattle.storage_relation.specs.Served.{Holds}
use Rattle.activation_relation.specs.Chains.{HasParent}
use Rattle.activation_relation.specs.FrameLaws.{with_waits}
use Rattle.activation_relation.specs.Frames.{FramesStand, frame_under, lower_end, upper_top}
use Rattle.activation_relation.specs.Layers.{Layer, Point, now, services_of}
use Rattle.activation_relation.specs.Points.{Surroundings}
use Rattle.activation_relation.specs.Remaining.{Remains}
use Rattle.activation_relation.proofs.Remaining.{remains_then}
use Rattle.activation_relation.proofs.Returning.{in_use_later}
use Rattle.activation_relation.proofs.Remaining.{shapes_remain}
use Rattle.run_steps.specs.Engine.{Base}
use Rattle.run_steps.specs.Items.{Linked}
use Rattle.run_steps.proofs.Jumps.{back_of, front_of, linked_at, rest_of}
use Rattle.run_steps.proofs.Linking.{size_append}
use Rattle.run_steps.proofs.Numbers.{word_small}
use Rattle.run_steps.specs.Reach.{Comes, Family, Reach, before}
use Rattle.run_steps.proofs.Reach.{before_closed, comes_on, onward, reach_map}
use Rattle.image_runs.specs.Runs.{Whole}
use Rattle.block_runs.specs.Bodies.{IsBehind, behind_aims}
use Rattle.block_runs.specs.Machines.{IsIn, acted}
use Rattle.block_runs.proofs.CallStatements.{comes_map}
use Rattle.block_runs.proofs.PointActs.{act_comes}
use Rattle.program_runs.specs.Calls.{left_over}
use Rattle.program_runs.specs.Procedures.{block_of, end_of, frame_for}
use Rattle.program_runs.specs.Statements.{Block, Does, EachDoes, GoesOn, IsAmong, IsBegun, size_in, statement_aims}
use Rattle.program_runs.proofs.CallStatements.{newest_frame_at}
use Rattle.program_runs.proofs.JumpsOut.{jumps_since}
use Rattle.program_runs.proofs.NewestBlocks.{newest_ancestor, newest_at}
use Rattle.program_runs.proofs.Statements.{acted_among, statement_closed}
use Rattle.expression_runs.specs.Laws as L
use Rattle.expression_runs.specs.Values.{HasWord, Stretch, behind, in_registers, number_aims}
use Rattle.expression_runs.proofs.Assignments.{fit_is}
use Rattle.argument_runs.specs.Copies.{copy_generation}
use Rattle.argument_runs.specs.CopyCalls.{Copying, HasRoomFor, IsCopyCall, beginning_of, body_index, call_at}
use Rattle.argument_runs.specs.CopyCalls.{listing_of}
use Rattle.argument_runs.specs.CopyCalls.{call_with, called_of, copy_block, copy_for, entry_of}
use Rattle.argument_runs.specs.CopyCalls.{given_point, setting_for}
use Rattle.argument_runs.specs.Laws.{HasList}
use Rattle.argument_runs.specs.ListBeginnings.{IsListing}
use Rattle.argument_runs.specs.Lists.{given_waits, layered, list_given, list_under, named_waits, value_given, with_list}
use Rattle.argument_runs.proofs.CopyBlocks.{BodyComes, Here, behind_copy, body_goes, copy_runs}
use Rattle.argument_runs.proofs.GivenLists.{arguments_comes, with_list_stands}

-- ---- at each of the block's points

pub room_among :
    {k : Block} {c : Copying} {source : Y.Number} {φ : Layer} {φs : List Layer} {line index need most more : ℕ}
    {numbers : ℕ → ℕ} {p : Point} → IsCopyCall k c source φ φs line index need most more → IsAmong k numbers p →
    HasRoomFor k.call.surroundings p c φ φs
room_among {k} {c} {p = p} h o =
    let w = k.call.surroundings in
    let x = c.procedure in
    let r = h.room in
    record {
      newest = o.later.layers ∙ r.newest;
      words = r.words;
      waits = r.waits;
      room = subst (λ ls. frame_for w.parts ls x + fixed_size x.head.level 1 + 16 ≤ lower_end w.parts ls)
          (sym o.later.layers) r.room;
      even = subst (λ ls. lower_end w.parts ls % 16 ≡ 0) (sym o.later.layers) r.even;
      shallow = subst (λ xs. nat_lt (length xs) most_activations ≡ true) (sym o.later.activations) r.shallow;
      parent = subst (λ xs. HasParent x.head.level c.calling.parent xs) (sym o.later.activations) r.parent;
      idle = o.later.waiting ∙ r.idle;
      low = subst (λ n. n ≤ w.parts.stack_start) (sym o.later.remains.low) r.low;
      shape = shapes_remain o.later.remains c.number (plain (Fixed 31)) r.shape;
      number = r.number;
      limit = subst (λ n. nat_le (n + footprint_of (copy_generation (copy_for c (pos 0)))) most_automatic ≡ true)
          (sym (in_use_later w k.first p h.begun.resumes.stands o.stands o.later)) r.limit;
    }

pub here_among :
    {k : Block} {c : Copying} {source : Y.Number} {φ : Layer} {φs : List Layer} {line index need most more : ℕ}
    {numbers : ℕ → ℕ} {p : Point} (z : ℤ) → is_of_precision 31 z ≡ true →
    IsCopyCall k c source φ φs line index need most more → IsAmong k numbers p →
    Here None (call_at k c φ φs p numbers z)
here_among {k} {c} {φ = φ} {φs = φs} {numbers = numbers} {p = p} z wide h o =
    let y = call_at k c φ φs p numbers z in
    let x = c.procedure in
    let one = act_code x.head.line in
    let body = stmts_code c.environment none_taken x.body in
    let mark = Mark (ReturnPlace x.head.number) in
    let copies = arguments_copied c.environment (0 ∷ []) in
    let l0 = back_of copies (behind_copy y) (back_of (listing_of x) (copies ++ behind_copy y) h.callee.stands) in
    let l1 = back_of one (body ++ (mark ∷ end_of x)) l0 in
    let l2 = rest_of mark (end_of x) (back_of body (mark ∷ end_of x) l1) in
    let e = h.callee.end in
    record {
      stands = o.stands;
      image = o.image;
      few = o.few;
      room = room_among h o;
      wide = wide;
      words = o.words;
      each = h.few;
      small' = h.small;
      coded = h.callee.coded;
      calls = h.callee.calls;
      place = h.callee.place;
      copied = h.callee.copied z;
      behind = behind_copy y;
      begins = h.callee.stands;
      ending = linked_at c.calling.end (end_of x) (omega (arith, e)) l2;
      word = tt;
    }

-- ---- the static parent is the running block

parent_height :
    {k : Block} {c : Copying} {source : Y.Number} {φ : Layer} {φs : List Layer} {line index need most more : ℕ}
    {numbers : ℕ → ℕ} {p : Point} → IsCopyCall k c source φ φs line index need most more → IsAmong k numbers p →
    height_of (ancestor_at p.state k.environment.level) ≡ c.calling.parent
parent_height {k} h o =
    let n = newest_at h.begun o in
    let height = n.height in
    let parent = h.parent in
    ap (λ xs. height_of (ancestor xs (newest_height xs) k.environment.level)) n.active
    ∙ newest_ancestor n.activation k.call.point.state.activations k.environment.level (n.level ∙ sym h.level)
    ∙ omega (arith, height, parent)

parent_above :
    {k : Block} {c : Copying} {source : Y.Number} {φ : Layer} {φs : List Layer} {line index need most more : ℕ}
    {numbers : ℕ → ℕ} {p : Point} → IsCopyCall k c source φ φs line index need most more → IsAmong k numbers p →
    c.calling.parent ≡ suc (length φs)
parent_above h o =
    let n = newest_at h.begun o in
    let many = n.many in
    let parent = h.parent in
    let same = ap (λ (ls : List Layer). length ls) (sym (o.later.layers ∙ h.room.newest) ∙ n.layers) in
    omega (arith, many, parent, same)

-- ---- what it means

-- the procedure is entered with its value
entered_means :
    {k : Block} {c : Copying} {source : Y.Number} {φ : Layer} {φs : List Layer} {line index need most more : ℕ}
    {numbers : ℕ → ℕ} {p : Point} (z : ℤ) → IsCopyCall k c source φ φs line index need most more →
    IsAmong k numbers p →
    V.procedure_entered (at_line k.around line)
    (procedure_numbered c.procedure.head.number k.around.program.procedures) k.environment.level
    (PassedValue (Fixed 31) (BasicNumber z) ∷ []) k.call.surroundings.acts p.state
    ≡ M.block_run c.around (block_of c.procedure) (entry_of None (call_at k c φ φs p numbers z))
    k.call.surroundings.acts p.state
unfolding V.procedure_entered M.entered looked ◌>>=◌ ◌>>◌
entered_means {k} {c} {line = line} {p = p} z h o =
    let s = p.state in
    let acts = k.call.surroundings.acts in
    let passed = PassedValue (Fixed 31) (BasicNumber z) ∷ [] in
    let entry : ℕ → Entry = λ m. record (begun (block_of c.procedure) m) {
      parameters = 0 ∷ [];
      arguments = passed;
    } in
    let height = height_of (ancestor_at s k.environment.level) in
    ap (λ q. V.procedure_entered (at_line k.around line) q k.environment.level passed acts s) h.found
    ∙ ap (λ (enters : Entry → Meaning (Option BasicValue)). enters (entry height) acts s) h.enter
    ∙ ap (λ (a : Around). M.block_run a (block_of c.procedure) (entry height) acts s) (sym h.around)
    ∙ ap (λ m. M.block_run c.around (block_of c.procedure) (entry m) acts s) (parent_height h o)

-- ---- its code

abbrev pub value_of : Block → Y.Number → Code
value_of k source = number_code k.environment (in_registers 6 0) source

abbrev pub calling : Copying → Code
calling c = CallTo (ProcedureEntry c.procedure.head.number) ∷ []

abbrev pub coded_as : Block → Copying → Y.Number → (line : ℕ) → Code
coded_as k c source line = act_code line ++ (value_of k source ++ ((value_given ++ list_given) ++ calling c))

coded :
    (k : Block) (c : Copying) (source : Y.Number) (line : ℕ) →
    stmt_code k.environment none_taken (call_with k c source line) ≡ coded_as k c source line
coded k c source line =
    let level = k.environment.level in
    let v = value_of k source in
    let one = act_code line in
    let list = plus a1 frame_register (negsuc 23) in
    let tail = (value_given ++ list_given) ++ calling c in
    let rest : Code = list ++ (number a2 0 ++ (move a0 frame_register ∷ calling c)) in
    ap (λ q. one ++ ((((v ++ []) ++ value_given) ++ []) ++ (list ++ (number a2 0
    ++ ((cond q [] (load_word a0 frame_register (display level)) ++ (move a0 (cond q frame_register a0) ∷ []))
    ++ calling c))))) (eq-eqb level level refl)
    ∙ ap (λ u. one ++ (u ++ rest)) (append-nil ((v ++ []) ++ value_given))
    ∙ ap (λ u. one ++ ((u ++ value_given) ++ rest)) (append-nil v)
    ∙ ap (λ u. one ++ u) (append_assoc v value_given rest)

-- ---- behind the call

-- where nothing is told of the caller's words any more
abbrev pub forgotten : Layer → List Layer → Point → Point
forgotten φ φs q = with_list (λ n. None) φ φs q

pub frames_forgotten :
    (parts : MemoryParts) (base : ℕ) (m : List ℕ) (as' : List Activation) (φ : Layer) (φs : List Layer) →
    FramesStand parts base m as' (φ ∷ φs) → FramesStand parts base m as' (with_waits (λ n. None) φ ∷ φs)
frames_forgotten parts base m [] φ φs h = absurd h
frames_forgotten parts base m (a ∷ as') φ φs h = (
  record {
    back = h.0.back;
    below = h.0.below;
    saved = h.0.saved;
    own = h.0.own;
    lower = h.0.lower;
    display_words = h.0.display_words;
    waits = λ n v less e. absurd (cc e);
    told = h.0.told;
    list = h.0.list;
  },
  h.1,
)

same_storage :
    (φ : Layer) (φs : List Layer) (q : Point) (m : List ℕ) → Holds (now q m) → Holds (now (forgotten φ φs q) m)
same_storage φ φs q m h =
    record {
      keeps = h.keeps;
      heap = record { at = h.heap.at; capacity = h.heap.capacity };
      lives = record { falling = h.lives.falling; numbered = h.lives.numbered; extents = h.lives.extents };
      stored = h.stored;
      distinct = h.distinct;
    }

pub in_forgotten :
    {w : Surroundings} {q : Point} {numbers : ℕ → ℕ} {index : ℕ} {b : Base} {y : Whole} (φ : Layer) (φs : List Layer)
    (waits : ℕ → Option ℕ) → q.control.layers ≡ with_waits waits φ ∷ φs → IsIn w q numbers index b y →
    IsIn w (forgotten φ φs q) numbers index b y
in_forgotten {w} {q} {b = b} {y = y} φ φs waits newest o =
    record {
      services = o.services ∙ ap (λ ls. services_of (layered ls q)) newest;
      at = record {
        pc = o.at.pc;
        frame = o.at.frame ∙ ap (λ ls. b.at + frame_under w.parts ls) newest;
        top = o.at.top ∙ ap (λ ls. b.at + upper_top w.parts ls) newest;
        registers = o.at.registers;
        room = o.at.room;
        frames = frames_forgotten w.parts b.at y.machine.memory q.state.activations (with_waits waits φ) φs
            (subst (FramesStand w.parts b.at y.machine.memory q.state.activations) newest o.at.frames);
        storage = same_storage φ φs q y.machine.memory o.at.storage;
      };
      zero = o.zero;
      bytes = o.bytes;
    }

-- its block goes on there
behind_goes :
    {k : Block} {c : Copying} {source : Y.Number} {φ : Layer} {φs : List Layer} {line index need most more : ℕ}
    {numbers : ℕ → ℕ} {p : Point} {acts wanted credits : ℕ} {f : Family} {v : Services} {r : Option BasicValue}
    {s : State} (z : ℤ) (h : IsCopyCall k c source φ φs line index need most more) (o : IsAmong k numbers p) →
    acts ≤ p.state.world.acts →
    IsBehind (called_of None (call_at k c φ φs p numbers z)) wanted credits f v r s →
    GoesOn k acts (index + size_in k (call_with k c source line)) wanted credits f v s
behind_goes {k} {c} {source} {φ} {φs} {line} {index} {numbers = numbers} {p = p} {wanted = wanted} {credits = credits}
    {f = f} {v = v} z h o since q =
    let w = k.call.surroundings in
    let waits = named_waits (p.state.serials + 1) c.number in
    let newest = q.later.layers in
    let known = with_list_stands w k.call.code q.point (with_waits waits φ) φs (λ n. None) (q.stands, q.image) newest in
    let from = q.later.remains in
    let there : Remains p q.point = record {
      living = from.living;
      serials = from.serials;
      at = from.at;
      number = from.number;
      signatures = from.signatures;
      statics = from.statics;
      low = from.low;
      constants = from.constants;
      active = from.active;
      in_use = from.in_use;
    } in
    let remains = remains_then k.first p q.point o.later.remains there in
    let first = o.later.acts in
    let more = q.later.acts in
    record {
      point = forgotten φ φs q.point;
      numbers = numbers;
      among = record {
        stands = known.0;
        image = known.1;
        later = record {
          activations = q.later.activations ∙ o.later.activations;
          layers = ap (λ ψ. ψ ∷ φs) h.room.waits ∙ sym h.room.newest;
          edits = q.later.edits ∙ o.later.edits;
          waiting = q.later.waiting ∙ o.later.waiting;
          acts = omega (arith, first, more);
          remains = record {
            living = remains.living;
            serials = remains.serials;
            at = remains.at;
            number = remains.number;
            signatures = remains.signatures;
            statics = remains.statics;
            low = remains.low;
            constants = remains.constants;
            active = remains.active;
            in_use = remains.in_use;
          };
        };
        few = q.few;
        entries = q.entries ∙ o.entries;
        others = o.others;
        words = o.words;
      };
      since = omega (arith, since, more);
      state = q.state;
      reach = subst (λ v'. Reach k.call.code credits f v wanted v'
          (λ b y. IsIn w (forgotten φ φs q.point) numbers (index + size_in k (call_with k c source line)) b y))
          (ap (λ ls. services_of (layered ls q.point)) newest)
          (reach_map _ q.reach (λ b y is.
          subst (λ n. IsIn w (forgotten φ φs q.point) numbers n b y) h.call
          (in_forgotten φ φs waits newest is.0)));
    }

-- ---- from the value in a0 on

abbrev behind_call : Option BasicValue → Meaning (Unit {0})
behind_call r = give tt

-- where a procedure with a list is called
is_listing :
    {k : Block} {c : Copying} {source : Y.Number} {φ : Layer} {φs : List Layer} {line index need most more : ℕ}
    {numbers : ℕ → ℕ} {p : Point} (z : ℤ) {b : Base} {y : Whole} →
    IsCopyCall k c source φ φs line index need most more → IsAmong k numbers p → HasList φ b y.machine →
    IsListing (given_point (call_at k c φ φs p numbers z)) (beginning_of None (call_at k c φ φs p numbers z))
    (list_under φ.at) b y
is_listing {c = c} {φ = φ} {φs = φs} z {b = b} h o g =
    record {
      calling = record {
        parent = λ some. g.frame
            ∙ ap (λ n. b.at + n)
            (sym (newest_frame_at (with_waits (given_waits (word z)) φ) φs c.calling.parent (parent_above h o)));
        texts = g.texts;
      };
      address = g.list;
    }

given_goes :
    {k : Block} {c : Copying} {source : Y.Number} {φ : Layer} {φs : List Layer} {line index need most more : ℕ}
    (labels : List Label) (left' acts wanted c' : ℕ) (f' : Family) (v' : Services) (z : ℤ) (s : State) (y : Stretch) →
    IsCopyCall k c source φ φs line index need most more →
    ((p : Point) (numbers : ℕ → ℕ) → IsAmong k numbers p → BodyComes (call_at k c φ φs p numbers z)) →
    acts ≤ y.acts → is_of_precision 31 z ≡ true → HasWord k y (word z) c' f' v' s →
    Linked k.call.surroundings.links k.call.code y.index ((value_given ++ list_given) ++ calling c) →
    c.calling.call ≡ y.index + size_of (value_given ++ list_given) → y.wanted ≤ y.index →
    Comes k.call.code c' f' v'
    (before k.call.code (statement_aims k labels acts (index + size_in k (call_with k c source line)) wanted left')
    k.call.surroundings.acts behind_call)
    (V.procedure_entered (at_line k.around line)
    (procedure_numbered c.procedure.head.number k.around.program.procedures) k.environment.level
    (PassedValue (Fixed 31) (BasicNumber z) ∷ []) k.call.surroundings.acts s)
unfolding give
given_goes {k} {c} {source} {φ} {φs} {line} {index} labels left' acts wanted c' f' v' z s y h each since wide q l at
    few =
    let w = k.call.surroundings in
    let code = k.call.code in
    let p = q.point in
    let o = q.among in
    let x = call_at k c φ φs p q.numbers z in
    let aims = statement_aims k labels acts (index + size_in k (call_with k c source line)) wanted left' in
    let aims' = before code aims w.acts behind_call in
    let closed = before_closed w.acts behind_call
    (statement_closed k labels acts (index + size_in k (call_with k c source line)) wanted left') in
    let flow = M.block_run c.around (block_of c.procedure) (entry_of None x) w.acts p.state in
    let more = q.since in
    let inside = l.inside in
    let proc = h.callee.stands.inside in
    let n = size_append (value_given ++ list_given) (calling c) in
    subst (λ u. Comes code c' f' v' aims' (V.procedure_entered (at_line k.around line)
    (procedure_numbered c.procedure.head.number k.around.program.procedures) k.environment.level
    (PassedValue (Fixed 31) (BasicNumber z) ∷ []) w.acts u)) (sym q.state)
    (subst (λ u. Comes code c' f' v' aims' u) (sym (entered_means z h o))
    (onward closed q.reach
    (λ g there.
    onward closed
    (arguments_comes w code p φ φs q.numbers (word z) y.wanted y.index g (o.stands, o.image)
    (o.later.layers ∙ h.room.newest) (h.room.words, word_small z wide)
    (front_of (value_given ++ list_given) (calling c) l) there)
    (λ g' there'.
    comes_map (behind_aims (called_of None x) wanted) aims' refl flow
    (λ c1 f1 v1 r t e. record { to = λ early. behind_goes z h o (omega (arith, since, more)) e })
    (λ c1 f1 v1 height label t e. absurd e)
    (λ c1 f1 v1 r t e. absurd e)
    (copy_runs (y.wanted + size_of (value_given ++ list_given)) wanted g' (here_among z wide h o)
    h.callee (each p q.numbers o) (omega (arith, few, n, inside, proc))
    (λ b. subst (λ j. IsIn w (given_point x) q.numbers j b (g' b)) (sym at) (there' b).0)
    (λ b. is_listing z h o (there' b).1))))))

-- ---- the statement

-- if the procedure's body comes to its end
pub copy_call_comes :
    (k : Block) (c : Copying) (labels : List Label) (source : Y.Number) (φ : Layer) (φs : List Layer)
    (line index left' need most more : ℕ) → IsCopyCall k c source φ φs line index need most more →
    L.Does (setting_for k labels line most) need source →
    ((p : Point) (numbers : ℕ → ℕ) (z : ℤ) → IsAmong k numbers p → is_of_precision 31 z ≡ true →
    BodyComes (call_at k c φ φs p numbers z)) →
    Does k labels (call_with k c source line) index left'
unfolding M.statement V.called V.arguments V.argument V.stored_value V.all_passed_last V.passed_last give ◌>>=◌ ◌>>◌
copy_call_comes k c labels source φ φs line index left' need most more h ev each p numbers credits wanted f o paid
    there =
    let w = k.call.surroundings in
    let code = k.call.code in
    let around' = at_line k.around line in
    let stmt = call_with k c source line in
    let one = act_code line in
    let v = value_of k source in
    let given' = value_given ++ list_given in
    let l = subst (Linked w.links code index) (coded k c source line) h.statement in
    let l1 = back_of one (v ++ (given' ++ calling c)) l in
    let n0 = size_append one (v ++ (given' ++ calling c)) in
    let n1 = size_append v (given' ++ calling c) in
    let n2 = size_append given' (calling c) in
    let size = ap (λ u. size_of u) (coded k c source line) in
    let acts = p.state.world.acts in
    let all = h.paid in
    let at_call = h.call in
    let goal = statement_aims k labels acts (index + size_in k stmt) wanted left' in
    let closed = statement_closed k labels acts (index + size_in k stmt) wanted left' in
    let stored' = Y.StoredNumber 31 source in
    let first = Y.ByCopy (Y.FixedLeaf 31) stored' in
    let tree = Y.Calling c.procedure.head.number k.environment.level (Y.ArgumentThen first Y.NoArgument) in
    let tail : Unit {0} → Meaning (Unit {0}) = λ u. V.called around' tree >> give tt in
    let enter : List V.Evaluated → Meaning (Option BasicValue) =
    λ es. V.all_passed_last around' es es >>= (λ ps. V.procedure_entered around'
    (procedure_numbered c.procedure.head.number k.around.program.procedures) k.environment.level ps) in
    let rest : V.Evaluated → Meaning (List V.Evaluated) =
    λ e. V.arguments around' Y.NoArgument >>= (λ es. give (e ∷ es)) in
    let pass : BasicValue → Meaning V.Evaluated = λ u. give (V.EvaluatedArgument (V.copied (Y.FixedLeaf 31) u)) in
    let fit : ℤ → Meaning BasicValue =
    λ z. (R.value_of around' (checked 31 z)) >>= (λ z'. give (BasicNumber z')) in
    let a1' = before code goal w.acts behind_call in
    let a2' = before code a1' w.acts enter in
    let a3' = before code a2' w.acts rest in
    let a4' = before code a3' w.acts pass in
    comes_on w.acts (act counted w.acts p.state) tail
    (act_comes (before_closed w.acts tail closed) line credits 0 f (o.stands, o.image)
    (h.act.line_fits, h.act.acts, omega (arith, paid, n0, size)) (front_of one (v ++ (given' ++ calling c)) l) there
    (λ g less at.
    let p' = acted line p in
    let o' = acted_among line o less in
    let flow = V.number around' source w.acts p'.state in
    let y = behind p' numbers 0 0 (index + size_of one) v in
    comes_on w.acts (V.called around' tree w.acts p'.state) behind_call
    (comes_on w.acts (V.arguments around' (Y.ArgumentThen first Y.NoArgument) w.acts p'.state) enter
    (comes_on w.acts (V.argument around' first w.acts p'.state) rest
    (comes_on w.acts (V.stored_value around' stored' w.acts p'.state) pass
    (comes_on w.acts flow fit
    (comes_map (number_aims k labels y) (before code a4' w.acts fit) refl flow
    (λ c' f' v' z s q.
    subst (Comes code c' f' v' a4') (sym (fit_is around' z w.acts s q.0))
    (record {
      to = λ early. record {
        to = λ early. record {
          to = λ early.
              given_goes labels left' acts wanted c' f' v' z s y h
              (λ p1 numbers1 o1. each p1 numbers1 z o1 q.0) (omega arith) q.0 q.1
              (back_of v (given' ++ calling c) l1) (omega (arith, at_call, size, n0, n1, n2)) (omega arith);
        };
      };
    }))
    (λ c' f' v' height label s q. jumps_since (omega arith) q)
    (λ c' f' v' r s q. absurd q)
    (ev p' numbers 0 0 (index + size_of one) g o' refl (let room = h.registers in omega (arith, room), h.held)
    (front_of v (given' ++ calling c) l1) (omega (arith, all, n0, n1, size)) at))))))))

pub copy_call_does :
    (k : Block) (c : Copying) (labels : List Label) (source : Y.Number) (φ : Layer) (φs : List Layer)
    (line index left' need most more : ℕ) → IsCopyCall k c source φ φs line index need most more →
    L.Does (setting_for k labels line most) need source →
    ((p : Point) (numbers : ℕ → ℕ) (z : ℤ) → IsAmong k numbers p → is_of_precision 31 z ≡ true →
    IsBegun (copy_block None (call_at k c φ φs p numbers z)) →
    EachDoes (copy_block None (call_at k c φ φs p numbers z)) (labels_in c.procedure.body ++ []) c.procedure.body
    (body_index c) left_over) →
    Does k labels (call_with k c source line) index left'
copy_call_does k c labels source φ φs line index left' need most more h ev each =
    let enough = h.enough in
    let turns = ap (λ (a : Around). a.turns) h.around in
    copy_call_comes k c labels source φ φs line index left' need most more h ev
    (λ p numbers z o wide b o' f at.
    let later = o.later.acts in
    body_goes (call_at k c φ φs p numbers z) h.callee f b o' (each p numbers z o wide b)
    (omega (arith, enough, turns, later)) at)
