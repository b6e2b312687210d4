-- A block while limits wait in words of its frame: it is as ready as it was, and the statements of a turn stand there.
use Rattle.std.proofs.Common.{◌≡◌, ℕ, ◌+◌, ◌<◌, ◌≤◌, List, [], ◌∷◌, ◌++◌, Bool, true, None, Option, Some, refl}
use Rattle.std.proofs.Common.{sym, ap, ◌∙◌, ◌⊎◌, inl, inr, subst, arith, false}
use Rattle.std.specs.Prelude.{cond}
use Rattle.pli_typing.specs.TypedTree as Y
use Rattle.pli_meaning.specs.Control.{Label}
use Rattle.pli_coding.specs.Allocating.{act_code}
use Rattle.pli_coding.specs.Assembly.{JumpBack}
use Rattle.pli_coding.specs.Expressions.{number_code}
use Rattle.pli_coding.specs.Statements.{limit_tested, turns_code, while_kept, words_back, words_behind_condition}
use Rattle.pli_coding.specs.Statements.{words_behind_limit}
use Rattle.run_steps.proofs.Linking.{size_append}
use Rattle.storage_relation.proofs.Holders.{eqb-other}
use Rattle.activation_relation.specs.FrameLaws.{with_waits}
use Rattle.activation_relation.specs.Layers.{Layer}
use Rattle.program_places.specs.Placed.{Placed}
use Rattle.program_places.proofs.Marks.{placed_back, placed_front}
use Rattle.program_runs.specs.Statements.{Block, IsBegun, IsOwn, set_aside}
use Rattle.expression_runs.specs.Values.{in_registers}
use Rattle.counter_runs.specs.Counts.{Counting, IsStep, body_index, count_of, turn_in}
use Rattle.counter_runs.specs.Words.{telling, with_word}
use Rattle.counter_runs.proofs.Known.{number_told}
use Rattle.counter_runs.proofs.Limits.{limit_size}
use Rattle.counter_runs.proofs.Turns.{coded, starts_code, while_long}
use Rattle.counter_runs.proofs.Words.{begun_telling}
use Rattle.number_runs.specs.Knowledge.{AreStandingWith, HasFrame, IsHome, IsReady, IsFree, KnowsGivenCalls}
use Rattle.number_runs.specs.Knowledge.{StandingWith, KnowsAroundTexts, KnowsCalls, KnowsRaises, KnowsPuts, KnowsReads}
use Rattle.number_runs.specs.Knowledge.{GoesThrough}
use Rattle.number_runs.specs.Numbers.{Scope, grid_known, type_known, without_located}
use Rattle.number_runs.proofs.Arrays.{array_told}
use Rattle.number_runs.proofs.Narrow.{narrow_told}
use Rattle.parameter_runs.proofs.Passing.{around_told}
use Rattle.number_runs.proofs.Received.{passable_told, stored_untold}
use Rattle.number_runs.proofs.Waiting.{waiting_unlocated}

-- ---- words in which nothing waits

pub free_behind :
    (waits : ℕ → Option ℕ) (n given m : ℕ) → ((i : ℕ) → n ≤ i → waits i ≡ None) → n < m → (i : ℕ) → m ≤ i →
    with_word n given waits i ≡ None
free_behind waits n given m free less i more =
    ap (λ q. cond q (Some given) (waits i)) (eqb-other i n (omega (arith, less, more))) ∙ free i
    (omega (arith, less, more))

pub free_above :
    (waits : ℕ → Option ℕ) (b n given m : ℕ) → ((i : ℕ) → b ≤ i → waits i ≡ None) → b ≤ n → n < m → (i : ℕ) →
    m ≤ i → with_word n given waits i ≡ None
free_above waits b n given m free low less i more =
    free_behind waits n given m (λ j at. free j (omega (arith, low, at))) less i more

-- ---- the block

-- a RETURN goes on where it did
returns_told :
    {k : Block} {left' : ℕ} (φ : Layer) (φs : List Layer) (waits : ℕ → Option ℕ) → IsBegun (telling waits φ φs k) →
    IsOwn k left' ⊎ GoesThrough k left' →
    IsOwn (telling waits φ φs k) left' ⊎ GoesThrough (telling waits φ φs k) left'
returns_told φ φs waits b (inl o) =
    inl (record {
      owner = o.owner;
      end = o.end;
      near = o.near;
      enough = o.enough;
      function = o.function;
      begun = b;
      kind = o.kind;
      registers = o.registers;
    })
returns_told φ φs waits b (inr t) =
    let o = t.is in
    inr (record {
      through = t.through;
      is = record {
        begun = b;
        there = o.there;
        begins = o.begins;
        procedure = o.procedure;
        function = o.function;
        own = o.own;
        inner = o.inner;
        few = o.few;
        found = o.found;
        registers = o.registers;
        numbers = o.numbers;
        owner = o.owner;
        end = o.end;
        near = o.near;
        enough = o.enough;
      };
    })

home_told :
    {s : Scope} {valued : Bool} {k : Block} {left' : ℕ} (φ : Layer) (φs : List Layer) (waits : ℕ → Option ℕ) →
    IsBegun (telling waits φ φs k) → IsHome s valued k left' → IsHome s valued (telling waits φ φs k) left'
home_told φ φs waits b h =
    record {
      level = h.level;
      own = h.own;
      block = h.block;
      returns = λ e. returns_told φ φs waits b (h.returns e);
      values = λ may e. let v = h.values may e in record {
        owner = v.owner;
        end = v.end;
        near = v.near;
        enough = v.enough;
        function = v.function;
        kind = v.kind;
        saved = v.saved;
      };
    }

given_told :
    {s : Scope} {k : Block} {φ : Layer} {φs : List Layer} {own : List Label} {most left' : ℕ}
    (waits : ℕ → Option ℕ) → k.first.control.layers ≡ φ ∷ φs → KnowsGivenCalls s k φ φs own most left' →
    KnowsGivenCalls s (telling waits φ φs k) (with_waits waits φ) φs own most left'
given_told {k = k} {φ = φ} {φs = φs} waits newest g =
    record {
      passable = λ x is. passable_told k φ φs waits newest x (g.passable x is);
      functions = λ words waits' labels line level n need ways some stored.
          g.functions words waits' labels line level n need ways some (stored_untold waits φ φs k.first ways stored);
      procedures = λ words waits' labels level n line index need ways some stored.
          g.procedures words waits' labels level n line index need ways some
          (stored_untold waits φ φs k.first ways stored);
    }

-- words that tell what the newest layer tells already change nothing
pub telling_same :
    (k : Block) (φ : Layer) (φs : List Layer) → k.first.control.layers ≡ φ ∷ φs → telling φ.waits φ φs k ≡ k
telling_same k φ φs newest =
    ap (λ ls. record k { first = record k.first { control = record k.first.control { layers = ls } } }) (sym newest)

-- where nothing is located as much is known
puts_bare : {s : Scope} {k : Block} {most : ℕ} → s.locates ≡ false → KnowsPuts (without_located s) k most →
    KnowsPuts s k most
puts_bare {s} none h =
    record { numbers = h.numbers; error = h.error; lists = h.lists; located = λ may. absurd (cc (sym none ∙ may)) }

pub ready_told :
    {s : Scope} {valued : Bool} {k : Block} {labels : List Label} {most left' : ℕ}
    (r : IsReady s valued k labels most left') (c : s.counts ≡ true) → s.locates ≡ false → (waits : ℕ → Option ℕ)
    (behind : ℕ) → IsFree waits behind →
    IsReady s valued (telling waits (r.loops c).layer (r.loops c).others k) labels most left'
ready_told {s} {k = k} r c none waits behind free =
    let l = r.loops c in
    let b = begun_telling k l.layer l.others waits l.newest r.begun in
    record {
      begun = b;
      acts = r.acts;
      turns = r.turns;
      held = r.held;
      raises = l.raises waits;
      variables = λ x is. number_told k l.layer l.others waits l.newest x (r.variables x is);
      arrays = λ may x is. array_told k l.layer l.others waits l.newest x (grid_known s x) (r.arrays may x is);
      narrows = λ may x is. narrow_told k l.layer l.others waits l.newest x (type_known s x) (r.narrows may x is);
      parameters = λ x is. around_told k l.layer l.others waits l.newest x (r.parameters x is);
      codes = r.codes;
      calls = l.calls waits;
      based = λ may. absurd (cc (sym none ∙ may));
      jumps = l.jumps waits;
      begins = l.begins waits;
      texts = l.texts waits;
      signals = l.signals waits;
      puts = λ may. puts_bare none (l.puts waits may);
      reads = l.reads waits;
      loops = λ c'. record {
        layer = with_waits waits l.layer;
        others = l.others;
        newest = refl;
        few = l.few;
        behind = behind;
        free = free;
        raises = l.raises;
        calls = l.calls;
        given = λ may. given_told waits l.newest (l.given may);
        jumps = l.jumps;
        begins = l.begins;
        texts = l.texts;
        signals = l.signals;
        reached = l.reached;
        puts = l.puts;
        reads = l.reads;
      };
      room = r.room;
      home = λ may. home_told l.layer l.others waits b (r.home may);
    }

-- in which its frame has as many words left as it had
pub frame_told :
    {s : Scope} {valued : Bool} {k : Block} {labels : List Label} {most left' : ℕ}
    (r : IsReady s valued k labels most left') (c : s.counts ≡ true) (none : s.locates ≡ false) (waits : ℕ → Option ℕ)
    (behind : ℕ) (free : IsFree waits behind) (words count : ℕ) → behind ≤ words →
    words + count ≤ (r.loops c).layer.words →
    HasFrame (ready_told r c none waits behind free) words count
unfolding ready_told
frame_told r c none waits behind free words count low room c' = (low, room)

-- ---- where nothing that is BASED is reached

raises_unlocated :
    {s : Scope} {k : Block} {own : List Label} {most : ℕ} → KnowsRaises s k own most →
    KnowsRaises (without_located s) k own most
raises_unlocated h = record { overflow = h.overflow; divisor = h.divisor; subscript = h.subscript }

calls_unlocated :
    {s : Scope} {k : Block} {own : List Label} {most left' : ℕ} → KnowsCalls s k own most left' →
    KnowsCalls (without_located s) k own most left'
calls_unlocated h = record { functions = h.functions; procedures = h.procedures }

around_unlocated :
    {s : Scope} {k : Block} {own : List Label} {most : ℕ} → KnowsAroundTexts s k own most →
    KnowsAroundTexts (without_located s) k own most
around_unlocated h =
    record {
      constants = h.constants;
      errors = h.errors;
      waits = λ words set line entries. waiting_unlocated (h.waits words set line entries);
    }

given_unlocated :
    {s : Scope} {k : Block} {layer : Layer} {others : List Layer} {own : List Label} {most left' : ℕ} →
    KnowsGivenCalls s k layer others own most left' → KnowsGivenCalls (without_located s) k layer others own most left'
given_unlocated h = record { passable = h.passable; functions = h.functions; procedures = h.procedures }

puts_unlocated : {s : Scope} {k : Block} {most : ℕ} → KnowsPuts s k most → KnowsPuts (without_located s) k most
puts_unlocated h =
    record { numbers = h.numbers; error = h.error; lists = h.lists; located = λ may. absurd (cc may) }

reads_unlocated : {s : Scope} {k : Block} {most : ℕ} → KnowsReads s k most → KnowsReads (without_located s) k most
reads_unlocated h = record { program = h.program; endfile = h.endfile; error = h.error }

home_unlocated :
    {s : Scope} {valued : Bool} {k : Block} {left' : ℕ} → IsHome s valued k left' →
    IsHome (without_located s) valued k left'
home_unlocated h =
    record { level = h.level; own = h.own; block = h.block; returns = h.returns; values = h.values }

-- as much else is known
pub ready_unlocated :
    {s : Scope} {valued : Bool} {k : Block} {labels : List Label} {most left' : ℕ} →
    IsReady s valued k labels most left' → IsReady (without_located s) valued k labels most left'
ready_unlocated r =
    record {
      begun = r.begun;
      acts = r.acts;
      turns = r.turns;
      held = r.held;
      raises = raises_unlocated r.raises;
      variables = r.variables;
      arrays = r.arrays;
      narrows = r.narrows;
      parameters = r.parameters;
      codes = r.codes;
      calls = calls_unlocated r.calls;
      based = λ may. absurd (cc may);
      jumps = r.jumps;
      begins = r.begins;
      signals = r.signals;
      texts = λ may. around_unlocated (r.texts may);
      puts = λ may. puts_unlocated (r.puts may);
      reads = λ may. reads_unlocated (r.reads may);
      loops = λ may. let l = r.loops may in record {
        layer = l.layer;
        others = l.others;
        newest = l.newest;
        few = l.few;
        behind = l.behind;
        free = l.free;
        raises = λ waits. raises_unlocated (l.raises waits);
        calls = λ waits. calls_unlocated (l.calls waits);
        given = λ may'. given_unlocated (l.given may');
        jumps = l.jumps;
        begins = l.begins;
        signals = l.signals;
        texts = λ waits may'. around_unlocated (l.texts waits may');
        reached = λ waits may'. absurd (cc may');
        puts = λ waits may'. l.puts waits may';
        reads = λ waits may'. reads_unlocated (l.reads waits may');
      };
      room = r.room;
      home = λ may. home_unlocated (r.home may);
    }

pub frame_unlocated :
    {s : Scope} {valued : Bool} {k : Block} {labels : List Label} {most left' : ℕ}
    (r : IsReady s valued k labels most left') (words count : ℕ) → HasFrame r words count →
    HasFrame (ready_unlocated r) words count
unfolding ready_unlocated
frame_unlocated r words count h c = h c

-- ---- the statements of a turn

pub turn_stands :
    (words : ℕ) (k : Block) (c : Counting) (index : ℕ) → IsStep c.step c.by → StandingWith words k (count_of c) index →
    AreStandingWith (words + 2) k c.body (body_index words k c index)
turn_stands words k c index step at =
    let u = turn_in words k c in
    let one = act_code c.line in
    let starts = starts_code words k c in
    let turns = turns_code u in
    let read' = number_code k.environment (in_registers (words + 2) 0) (Y.NumberIn c.counter) in
    let far = words_behind_limit u in
    let limit' = read' ++ limit_tested (set_aside words) (Some c.by) far in
    let near = words_behind_condition u in
    let while' = while_kept k.environment (set_aside words) c.condition near in
    let last = u.stepped ++ JumpBack (words_back u) ∷ [] in
    let n0 = size_append one starts in
    let n1 = size_append read' (limit_tested (set_aside words) (Some c.by) far) in
    let n2 = size_append read' (limit_tested (set_aside words) (Some c.by) 0) in
    let n3 = limit_size words c.by far in
    let n4 = limit_size words c.by 0 in
    let n5 = while_long words k c.condition near in
    subst (λ i. Placed k.call.surroundings.links k.call.code i u.body) (omega (arith, n0, n1, n2, n3, n4, n5))
    (placed_front u.body last
    (placed_back while' (u.body ++ last)
    (placed_back limit' (while' ++ (u.body ++ last))
    (placed_back u.begun (limit' ++ (while' ++ (u.body ++ last)))
    (placed_back starts turns
    (placed_back one (starts ++ turns)
    (subst (Placed k.call.surroundings.links k.call.code index) (coded words k c step) at)))))))

pub low_unlocated :
    {s : Scope} {valued : Bool} {k : Block} {labels : List Label} {most left' : ℕ}
    (r : IsReady s valued k labels most left') (words : ℕ) → ((c : s.counts ≡ true) → (r.loops c).behind ≤ words) →
    (c : s.counts ≡ true) → ((ready_unlocated r).loops c).behind ≤ words
unfolding ready_unlocated
low_unlocated r words low c = low c
