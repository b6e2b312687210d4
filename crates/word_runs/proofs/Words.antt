-- Points and blocks whose newest layer tells what words of its frame hold, and the code that stores and loads them.
use Rattle.std.proofs.Common.{◌≡◌, ◌≢◌, ◌⊎◌, ℕ, ◌+◌, ◌*◌, ◌^◌, ◌<◌, ◌≤◌, inl, inr, List, [], ◌∷◌, length, Option}
use Rattle.std.proofs.Common.{Some, Bool, true, false, refl, sym, ap, ◌∙◌, subst, arith}
use Rattle.std.proofs.lemmas.Bool.Decides.{nat_tests}
use Rattle.std.proofs.lemmas.Int.{ints}
use Rattle.std.specs.Prelude.{ℤ, cond, nat_lt, ◌==◌}
use Rattle.rv_meaning.specs.declared.instr.Instr.{Instr}
use Rattle.rv_meaning.specs.declared.instr.LoadKind.TheVariants as Load
use Rattle.rv_meaning.specs.declared.instr.Register.{Register}
use Rattle.rv_meaning.specs.declared.instr.StoreKind.TheVariants as Store
use Rattle.rv_meaning.specs.Machine.{memory_size, value}
use Rattle.rv_meaning.specs.Memory.{load, store}
use Rattle.rv_meaning.proofs.MemoryLaws.{load-store_same, load-store_other}
use Rattle.image_runs.specs.Runs.{Whole}
use Rattle.pli_meaning.specs.BasicValues.{BasicValue}
use Rattle.pli_meaning.specs.Control.{Label}
use Rattle.pli_meaning.specs.StorageState.{Activation, State, ancestor_at, height_of}
use Rattle.pli_serving.specs.ServiceState.{Services}
use Rattle.pli_coding.specs.Assembly.{size_of}
use Rattle.pli_coding.specs.Frames.{MemoryParts, words_place}
use Rattle.pli_coding.specs.Instructions.{load_word, store_word}
use Rattle.pli_coding.specs.Registers.{a0, frame_register}
use Rattle.storage_relation.specs.Served.{Holds}
use Rattle.storage_relation.specs.Stored.{IsClear}
use Rattle.activation_relation.specs.Chains.{AreActive, frame_at}
use Rattle.activation_relation.specs.FrameLaws.{with_waits}
use Rattle.activation_relation.specs.Frames.{AreLaid, FramesStand, frame_bytes, frame_start, frame_under}
use Rattle.activation_relation.specs.Frames.{upper_top, word_place}
use Rattle.activation_relation.specs.Landing.{closed}
use Rattle.activation_relation.specs.Layers.{Layer, Point, now, services_of}
use Rattle.activation_relation.specs.Owned.{AreOwned}
use Rattle.activation_relation.specs.Points.{AreOver, Stands, Surroundings}
use Rattle.activation_relation.specs.Remaining.{Remains}
use Rattle.activation_relation.proofs.FrameWords.{words_covered}
use Rattle.activation_relation.proofs.ListWords.{words_rewritten}
use Rattle.activation_relation.proofs.OwnPlaces.{clear_within, frame_clear, stores_hold}
use Rattle.activation_relation.proofs.StoredWords.{stored_beside}
use Rattle.run_steps.specs.Bodies.{Free, IsNear, Known, PlaceFrom, with'}
use Rattle.run_steps.proofs.Bodies.{frame_is, narrow_load_from, narrow_store_into}
use Rattle.run_steps.specs.Engine.{Base}
use Rattle.run_steps.specs.Items.{At, Linked}
use Rattle.run_steps.specs.Reach.{Family, Reach}
use Rattle.run_steps.proofs.Reach.{reach_map}
use Rattle.block_runs.specs.Machines.{IsImage, IsIn}
use Rattle.block_runs.proofs.Places.{IsFrame, inside_memory}
use Rattle.block_runs.proofs.PointGrounds.{StandsIn, in_known, known_in, point_frame, point_ground}
use Rattle.program_runs.specs.Statements.{Block, IsAmong, IsBegun, JumpsOut, JumpsTo, LandsAt, ReturnsTo}
use Rattle.expression_runs.specs.Variables.{IsFrameOf, IsNumber, Spot}
use Rattle.expression_runs.proofs.Words.{valued}
use Rattle.argument_runs.specs.Lists.{layered, with_list}
use Rattle.argument_runs.proofs.GivenLists.{active_with, laid_with, with_list_stands}
use Rattle.word_runs.specs.Words.{telling, with_word}

-- ---- points of such a block

-- what is told at one is told in no other words at another
pub told_remain :
    {p q : Point} (ls ms : List Layer) → Remains p q → Remains (layered ls p) (layered ms q)
told_remain ls ms h =
    record {
      living = h.living;
      serials = h.serials;
      at = h.at;
      number = h.number;
      signatures = h.signatures;
      statics = h.statics;
      low = h.low;
      constants = h.constants;
      active = h.active;
      in_use = h.in_use;
    }

-- whatever is told of them
pub told_among :
    (k : Block) (φ : Layer) (φs : List Layer) {numbers : ℕ → ℕ} {p : Point} (waits : ℕ → Option ℕ) →
    k.first.control.layers ≡ φ ∷ φs → IsAmong k numbers p →
    IsAmong (telling waits φ φs k) numbers (with_list waits φ φs p)
told_among k φ φs {numbers} {p} waits newest o =
    let known = with_list_stands k.call.surroundings k.call.code p φ φs waits (o.stands, o.image)
    (o.later.layers ∙ newest) in
    record {
      stands = known.0;
      image = known.1;
      later = record {
        activations = o.later.activations;
        layers = refl;
        edits = o.later.edits;
        waiting = o.later.waiting;
        acts = o.later.acts;
        remains = told_remain (with_waits waits φ ∷ φs) (with_waits waits φ ∷ φs) o.later.remains;
      };
      few = o.few;
      entries = o.entries;
      others = o.others;
      words = o.words;
    }

-- and back
pub untold_among :
    (k : Block) (φ : Layer) (φs : List Layer) {numbers : ℕ → ℕ} {p : Point} (waits : ℕ → Option ℕ) →
    k.first.control.layers ≡ φ ∷ φs → IsAmong (telling waits φ φs k) numbers p →
    IsAmong k numbers (with_list φ.waits φ φs p)
untold_among k φ φs {numbers} {p} waits newest o =
    let known = with_list_stands k.call.surroundings k.call.code p (with_waits waits φ) φs φ.waits (o.stands, o.image)
    o.later.layers in
    record {
      stands = known.0;
      image = known.1;
      later = record {
        activations = o.later.activations;
        layers = sym newest;
        edits = o.later.edits;
        waiting = o.later.waiting;
        acts = o.later.acts;
        remains = (let h = o.later.remains in record {
          living = h.living;
          serials = h.serials;
          at = h.at;
          number = h.number;
          signatures = h.signatures;
          statics = h.statics;
          low = h.low;
          constants = h.constants;
          active = h.active;
          in_use = h.in_use;
        });
      };
      few = o.few;
      entries = o.entries;
      others = o.others;
      words = o.words;
    }

newest_told : (ℕ → Option ℕ) → List Layer → List Layer
newest_told waits [] = []
newest_told waits (φ ∷ φs) = with_waits waits φ ∷ φs

stands_told :
    (w : Surroundings) (p : Point) (φ : Layer) (φs : List Layer) (waits : ℕ → Option ℕ) → Stands w p →
    p.control.layers ≡ φ ∷ φs → Stands w (with_list waits φ φs p)
stands_told w p φ φs waits h newest =
    let owned = subst (AreOwned p.keeper p.places p.state w.parts) newest h.owned in
    record {
      active = active_with w.units p.state.activations φ φs waits
          (subst (AreActive w.units p.state.activations) newest h.active);
      laid = laid_with w.parts φ φs waits (subst (AreLaid w.parts) newest h.laid);
      low = h.low;
      lives = h.lives;
      owned = record { living = owned.living; heap = owned.heap; constants = owned.constants };
      over = subst (AreOver p.control.entries p.control.edits) newest h.over;
      running = h.running;
      allowed = h.allowed;
    }

pub begun_telling :
    (k : Block) (φ : Layer) (φs : List Layer) (waits : ℕ → Option ℕ) → k.first.control.layers ≡ φ ∷ φs → IsBegun k →
    IsBegun (telling waits φ φs k)
unfolding newest_told
begun_telling k φ φs waits newest b =
    let r = b.resumes in
    record {
      activation = b.activation;
      resumes = record {
        stands = stands_told k.call.surroundings k.first φ φs waits r.stands newest;
        idle = r.idle;
        changed = record r.changed { waits = waits };
        layers = ap (newest_told waits) (sym newest ∙ r.layers);
        own = r.own;
        activations = r.activations;
        more = r.more;
      };
      acts = b.acts;
      remains = (let h = b.remains in record {
        living = h.living;
        serials = h.serials;
        at = h.at;
        number = h.number;
        signatures = h.signatures;
        statics = h.statics;
        low = h.low;
        constants = h.constants;
        active = h.active;
        in_use = h.in_use;
      });
      outer = b.outer;
    }

-- ---- its variables

pub frame_told :
    (k : Block) (φ : Layer) (φs : List Layer) (waits : ℕ → Option ℕ) → k.first.control.layers ≡ φ ∷ φs →
    (level base : ℕ) → IsFrameOf k level base → IsFrameOf (telling waits φ φs k) level base
frame_told k φ φs waits newest level base (inl own) =
    inl (own.0, own.1 ∙ ap (frame_under k.call.surroundings.parts) newest)
frame_told k φ φs waits newest level base (inr outer) =
    inr (
      outer.0,
      outer.1,
      outer.2,
      outer.3,
      outer.4 ∙ ap (λ ls. frame_at ls (height_of (ancestor_at k.first.state level))) newest,
    )

unfoldable pub number_told :
    (k : Block) (φ : Layer) (φs : List Layer) (waits : ℕ → Option ℕ) → k.first.control.layers ≡ φ ∷ φs → (x : Spot) →
    IsNumber k x → IsNumber (telling waits φ φs k) x
number_told k φ φs waits newest x is =
    record {
      initial = is.initial;
      declared = is.declared;
      serial = is.serial;
      binding = is.binding;
      living = is.living;
      lives = is.lives;
      shape = is.shape;
      base = is.base;
      frame = frame_told k φ φs waits newest x.level is.base is.frame;
      at = is.at;
      low = is.low;
      inside = is.inside;
    }

-- ---- machines there

-- no more is told
abbrev pub Fewer : (less more : ℕ → Option ℕ) → Type 0
Fewer less more = (n v : ℕ) → less n ≡ Some v → more n ≡ Some v

frames_fewer :
    (parts : MemoryParts) (base : ℕ) (m : List ℕ) (as' : List Activation) (φ : Layer) (φs : List Layer)
    (less : ℕ → Option ℕ) → Fewer less φ.waits → FramesStand parts base m as' (φ ∷ φs) →
    FramesStand parts base m as' (with_waits less φ ∷ φs)
frames_fewer parts base m [] φ φs less few h = absurd h
frames_fewer parts base m (a ∷ as') φ φs less few h = (
  record {
    back = h.0.back;
    below = h.0.below;
    saved = h.0.saved;
    own = h.0.own;
    lower = h.0.lower;
    display_words = h.0.display_words;
    waits = λ n v inside e. h.0.waits n v inside (few n v e);
    told = h.0.told;
    list = h.0.list;
  },
  h.1,
)

same_storage :
    (ls : List Layer) (q : Point) (m : List ℕ) → Holds (now q m) → Holds (now (layered ls q) m)
same_storage ls q m h =
    record {
      keeps = h.keeps;
      heap = record { at = h.heap.at; capacity = h.heap.capacity };
      lives = record { falling = h.lives.falling; numbered = h.lives.numbered; extents = h.lives.extents };
      stored = h.stored;
      distinct = h.distinct;
    }

pub in_fewer :
    {w : Surroundings} {q : Point} {numbers : ℕ → ℕ} {index : ℕ} {b : Base} {y : Whole} (φ : Layer) (φs : List Layer)
    (less more : ℕ → Option ℕ) → Fewer less more → q.control.layers ≡ with_waits more φ ∷ φs →
    IsIn w q numbers index b y → IsIn w (with_list less φ φs q) numbers index b y
in_fewer {w} {q} {b = b} {y = y} φ φs less more few newest o =
    record {
      services = o.services ∙ ap (λ ls. services_of (layered ls q)) newest;
      at = record {
        pc = o.at.pc;
        frame = o.at.frame ∙ ap (λ ls. b.at + frame_under w.parts ls) newest;
        top = o.at.top ∙ ap (λ ls. b.at + upper_top w.parts ls) newest;
        registers = o.at.registers;
        room = o.at.room;
        frames = frames_fewer w.parts b.at y.machine.memory q.state.activations (with_waits more φ) φs less few
            (subst (FramesStand w.parts b.at y.machine.memory q.state.activations) newest o.at.frames);
        storage = same_storage (with_waits less φ ∷ φs) q y.machine.memory o.at.storage;
      };
      zero = o.zero;
      bytes = o.bytes;
    }

-- ---- where control goes on

lands_back :
    (k : Block) (φ : Layer) (φs : List Layer) (waits : ℕ → Option ℕ) → k.first.control.layers ≡ φ ∷ φs →
    Fewer φ.waits waits → {labels : List Label} {acts c : ℕ} {f : Family} {v : Services} {height : ℕ} {label : Label}
    {s : State} → LandsAt (telling waits φ φs k) labels acts c f v height label s →
    LandsAt k labels acts c f v height label s
lands_back k φ φs waits newest few {c = c} {f = f} {v = v} o =
    let q = o.point in
    let there = o.among.later.layers in
    record {
      own = o.own;
      carried = o.carried;
      point = with_list φ.waits φ φs q;
      numbers = o.numbers;
      among = untold_among k φ φs waits newest o.among;
      more = o.more;
      state = o.state;
      index = o.index;
      place = o.place;
      reach = subst (λ v'. Reach k.call.code c f v 0 v'
          (λ b y. IsIn k.call.surroundings (with_list φ.waits φ φs q) o.numbers o.index b y))
          (ap (λ ls. services_of (layered ls q)) there)
          (reach_map _ o.reach (λ b y is. in_fewer φ φs φ.waits waits few there is));
    }

pub jumps_back :
    (k : Block) (φ : Layer) (φs : List Layer) (waits : ℕ → Option ℕ) → k.first.control.layers ≡ φ ∷ φs →
    Fewer φ.waits waits → {labels : List Label} {acts c : ℕ} {f : Family} {v : Services} {height : ℕ} {label : Label}
    {s : State} → JumpsTo (telling waits φ φs k) labels acts c f v height label s →
    JumpsTo k labels acts c f v height label s
jumps_back k φ φs waits newest few {labels} {acts} {c} {f} {v} {height} {label} {s} o = record { to = by o.to }
  where
    by :
        LandsAt (telling waits φ φs k) labels acts c f v height label s
        ⊎ JumpsOut k.call.surroundings k.call.code k.outers acts c f v height label (closed s) →
        LandsAt k labels acts c f v height label s
        ⊎ JumpsOut k.call.surroundings k.call.code k.outers acts c f v height label (closed s)
    by (inl here) = inl (lands_back k φ φs waits newest few here)
    by (inr out) = inr out

pub returns_back :
    (k : Block) (φ : Layer) (φs : List Layer) (waits : ℕ → Option ℕ) {left' c : ℕ} {f : Family} {v : Services}
    {r : Option BasicValue} {s : State} → ReturnsTo (telling waits φ φs k) left' c f v r s →
    ReturnsTo k left' c f v r s
returns_back k φ φs waits o = record { to = o.to }

-- ---- a word is stored

-- where it stands
abbrev pub WordAt : (z : ℤ) (n : ℕ) → Layer → Type 0
WordAt z n φ = PlaceFrom φ.at z (word_place φ n)

words_apart :
    (φ : Layer) (i n : ℕ) → n < φ.words → i < φ.words → 4 * φ.words ≤ φ.at → i ≢ n →
    word_place φ i + 4 ≤ word_place φ n ⊎ word_place φ n + 4 ≤ word_place φ i
words_apart φ i n room less low other = by (nat_lt n i) refl
  where
    by :
        (q : Bool) → nat_lt n i ≡ q → word_place φ i + 4 ≤ word_place φ n ⊎ word_place φ n + 4 ≤ word_place φ i
    by true e = let above : n < i = grind (arith, nat_tests) in inl (omega (arith, room, less, low, above))
    by false e =
        let below : i ≤ n = grind (arith, nat_tests) in inr (omega (arith, room, less, low, below, other))

pub word_found :
    (φ : Layer) (n given i v : ℕ) (m : List ℕ) → (n < φ.words) × (given < 2 ^ 32) → 4 * φ.words ≤ φ.at →
    φ.at ≤ length m → ((i v : ℕ) → i < φ.words → φ.waits i ≡ Some v → load 4 m (word_place φ i) ≡ v) →
    i < φ.words → with_word n given φ.waits i ≡ Some v →
    load 4 (store 4 m (word_place φ n) given) (word_place φ i) ≡ v
word_found φ n given i v m few low inside before less e = by (i == n) refl
  where
    m' : List ℕ
    m' = store 4 m (word_place φ n) given

    by : (q : Bool) → (i == n) ≡ q → load 4 m' (word_place φ i) ≡ v
    by true f =
        let same : i ≡ n = grind (arith, nat_tests) in
        let some : given ≡ v = cc (sym (ap (λ q. cond q (Some given) (φ.waits i)) f) ∙ e) in
        let room = few.0 in
        ap (λ j. load 4 m' (word_place φ j)) same
        ∙ load-store_same 4 m (word_place φ n) given few.1 (omega (arith, low, inside, room))
        ∙ some
    by false f =
        let other : i ≢ n = grind (arith, nat_tests) in
        let e' : φ.waits i ≡ Some v = sym (ap (λ q. cond q (Some given) (φ.waits i)) f) ∙ e in
        let room = few.0 in
        load-store_other 4 4 m (word_place φ n) given (word_place φ i) (words_apart φ i n room less low other)
        ∙ before i v less e'

word_stands :
    (w : Surroundings) (p : Point) (φ : Layer) (φs : List Layer) (n given : ℕ) (b : Base) (m : List ℕ) →
    Stands w (layered (φ ∷ φs) p) × IsFrame φ.at → (n < φ.words) × (given < 2 ^ 32) →
    length m ≡ memory_size → StandsIn w (layered (φ ∷ φs) p) b m →
    StandsIn w (with_list (with_word n given φ.waits) φ φs p) b (store 4 m (word_place φ n) given)
word_stands w p φ φs n given b m known few bytes stands =
    let laid = known.0.laid in
    let at = word_place φ n in
    let new = store 4 m at given in
    let covered = words_covered φ.words in
    let above = laid.0.above in
    let room = few.0 in
    let low = known.1.high in
    let high = known.1.room in
    let clear : IsClear p.keeper p.places p.state at 4 =
    clear_within p.keeper p.places p.state (frame_start φ) (frame_bytes φ) at 4
    (frame_clear p.keeper p.places p.state w.parts φ φs known.0.owned laid) (omega (arith, covered, above, room))
    (omega (arith, covered, above, room)) in
    record {
      storage = same_storage (with_waits (with_word n given φ.waits) φ ∷ φs) p new
          (stores_hold (now p m) at 4 ((at, given) ∷ [])
          (same_storage p.control.layers (layered (φ ∷ φs) p) m stands.storage)
          clear (omega (arith, low, high, bytes, room, covered, above)) ((omega arith, omega arith), tt));
      frames = frames_by p.state.activations stands.frames;
    }
  where
    frames_by :
        (as' : List Activation) → FramesStand w.parts b.at m as' (φ ∷ φs) →
        FramesStand w.parts b.at (store 4 m (word_place φ n) given) as'
        (with_waits (with_word n given φ.waits) φ ∷ φs)
    frames_by [] h = absurd h
    frames_by (a ∷ as') h =
        let laid = known.0.laid in
        let covered = words_covered φ.words in
        let above = laid.0.above in
        let room = few.0 in
        let low = known.1.high in
        let high = known.1.room in
        words_rewritten w.parts b.at (word_place φ n) 4 m (store 4 m (word_place φ n) given) a as' φ φs
        (with_word n given φ.waits) h (
          laid,
          omega (arith, covered, above, room),
          omega (arith, covered, above, room),
          stored_beside (word_place φ n) 4 ((word_place φ n, given) ∷ []) m ((omega arith, omega arith), tt),
        ) (λ i v less e. word_found φ n given i v m few (omega (arith, covered, above)) (omega (arith, high, bytes))
        h.0.waits less e)

-- where code finds a word of the frame
pub word_at : (φ : Layer) (n : ℕ) → IsFrame φ.at → n < 2 ^ 16 → WordAt (words_place n 1) n φ
word_at φ n h low =
    let whole = h.whole in
    let high = h.high in
    let room = h.room in
    record {
      small' = omega (arith, ints, low);
      sums = λ b. let v = b.valid.1 in omega (arith, ints, high, room, v, low);
      aligned = omega (arith, whole, high, low);
      inside = omega (arith, room);
      above_code = omega (arith, high, low);
    }

-- ---- the code

-- the word in a0 is stored
pub word_kept :
    (w : Surroundings) (code : List Instr) (p : Point) (φ : Layer) (φs : List Layer) (z : ℤ) (n given : ℕ)
    {numbers : ℕ → ℕ} {index : ℕ} (c : ℕ) (f : Family) →
    Stands w (layered (φ ∷ φs) p) × IsImage w code (layered (φ ∷ φs) p) → (n < φ.words) × (given < 2 ^ 32) →
    WordAt z n φ → Linked w.links code index (store_word frame_register a0 z) →
    ((b : Base) → IsIn w (layered (φ ∷ φs) p) numbers index b (f b) × (value (f b).machine a0 ≡ given)) →
    Reach code c f (services_of (layered (φ ∷ φs) p)) (c + size_of (store_word frame_register a0 z))
    (services_of (with_list (with_word n given φ.waits) φ φs p))
    (λ b y. IsIn w (with_list (with_word n given φ.waits) φ φs p) numbers
    (index + size_of (store_word frame_register a0 z)) b y)
word_kept w code p φ φs z n given {numbers} {index} c f known few place l there =
    let p1 = layered (φ ∷ φs) p in
    let q = with_list (with_word n given φ.waits) φ φs p in
    let h : IsFrame φ.at = point_frame known.0 known.1 in
    let r = narrow_store_into {g = point_ground w p1 h} (point_ground w q h) {t = λ j. 0} (λ j. 0) {rs = valued given}
    c f a0 frame_register Store.Word z φ.at (word_place φ n) (λ b. given) place (inside_memory φ.at h) (λ y u. refl)
    (λ b w' o. frame_is o.body) (λ y u. refl) (λ b w' o. o.regs.0) (λ b. refl)
    (λ b m bytes stands. word_stands w p φ φs n given b m (known.0, h) few bytes stands)
    (record { reserved_stay = λ y u. refl; known_stay = λ b y u o. o; set = λ y u. refl }) l
    (λ b. known_in h (there b).0 ((there b).1, tt)) in
    reach_map _ r (λ b y o. in_known {t = λ j. 0} {rs = valued given} h known.1.parts o)

-- so is that in any other register
pub register_kept :
    {w : Surroundings} {code : List Instr} (p : Point) (φ : Layer) (φs : List Layer) {numbers : ℕ → ℕ} {index : ℕ}
    {rs : Base → List (ℕ × ℕ)} (c : ℕ) (f : Family) (r : Register) (z : ℤ) (n given : ℕ) →
    Stands w (layered (φ ∷ φs) p) → (h : IsFrame φ.at) → (n < φ.words) × (given < 2 ^ 32) → WordAt z n φ →
    IsNear r.index →
    ((b : Base) (y : Whole) → Known (point_ground w (layered (φ ∷ φs) p) h) (services_of (layered (φ ∷ φs) p)) numbers
    (λ j. 0) rs b y → y.machine.registers r.index ≡ given) → Free rs 31 →
    Linked w.links code index (store_word frame_register r z) →
    ((b : Base) → At b index (Known (point_ground w (layered (φ ∷ φs) p) h) (services_of (layered (φ ∷ φs) p)) numbers
    (λ j. 0) rs b) (f b)) →
    Reach code c f (services_of (layered (φ ∷ φs) p)) (c + size_of (store_word frame_register r z))
    (services_of (with_list (with_word n given φ.waits) φ φs p))
    (λ b y. At b (index + size_of (store_word frame_register r z))
    (Known (point_ground w (with_list (with_word n given φ.waits) φ φs p) h)
    (services_of (with_list (with_word n given φ.waits) φ φs p)) numbers (λ j. 0) rs b) y)
register_kept {w} {code} p φ φs c f r z n given known h few place near is far l there =
    let p1 = layered (φ ∷ φs) p in
    let q = with_list (with_word n given φ.waits) φ φs p in
    narrow_store_into {g = point_ground w p1 h} (point_ground w q h) {t = λ j. 0} (λ j. 0)
    c f r frame_register Store.Word z φ.at (word_place φ n) (λ b. given) place (inside_memory φ.at h) (λ y u. refl)
    (λ b w' o. frame_is o.body) near is (λ b. refl)
    (λ b m bytes stands. word_stands w p φ φs n given b m (known, h) few bytes stands) far l there

-- and loaded into a register
pub word_back :
    (w : Surroundings) (code : List Instr) (p : Point) (φ : Layer) (φs : List Layer) (z : ℤ) (n given : ℕ)
    {numbers : ℕ → ℕ} {index : ℕ} {rs : Base → List (ℕ × ℕ)} (c : ℕ) (f : Family) (r : Register) (h : IsFrame φ.at) →
    (n < φ.words) × (φ.waits n ≡ Some given) → WordAt z n φ → Free rs r.index → Free rs 31 →
    Linked w.links code index (load_word r frame_register z) →
    ((b : Base) → At b index (Known (point_ground w (layered (φ ∷ φs) p) h) (services_of (layered (φ ∷ φs) p)) numbers
    (λ j. 0) rs b) (f b)) →
    Reach code c f (services_of (layered (φ ∷ φs) p)) (c + size_of (load_word r frame_register z))
    (services_of (layered (φ ∷ φs) p))
    (λ b y. At b (index + size_of (load_word r frame_register z))
    (Known (point_ground w (layered (φ ∷ φs) p) h) (services_of (layered (φ ∷ φs) p)) numbers (λ j. 0)
    (with' r.index (λ b0. given) rs) b) y)
word_back w code p φ φs z n given c f r h is place free far l at =
    narrow_load_from c f r frame_register Load.Word z φ.at (word_place φ n) (λ b. given) place (inside_memory φ.at h)
    (λ y u. refl) (λ b w' o. frame_is o.body)
    (λ b m stands. loaded b m p.state.activations stands.frames) free far l at
  where
    loaded :
        (b : Base) (m : List ℕ) (as' : List Activation) → FramesStand w.parts b.at m as' (φ ∷ φs) →
        load 4 m (word_place φ n) ≡ given
    loaded b m [] frames = absurd frames
    loaded b m (a ∷ as') frames = frames.0.waits n given is.0 is.1
