-- Words of the frame that wait while extents are evaluated.
use Rattle.std.proofs.Common.{◌≡◌, inr, ℕ, suc, ◌+◌, ◌-◌, ◌*◌, ◌^◌, ◌<◌, ◌≤◌, List, [], ◌∷◌, ◌++◌, length}
use Rattle.std.proofs.Common.{Option, Some, None, Bool, true, false, refl, sym, ap, ◌∙◌, subst, arith}
use Rattle.std.proofs.lemmas.Bool.Decides.{nat_tests}
use Rattle.std.proofs.lemmas.Int.{ints}
use Rattle.std.specs.Prelude.{cond, negsuc, pos, ◌==◌}
use Rattle.rv_meaning.specs.declared.instr.Instr.{Instr}
use Rattle.rv_meaning.specs.Machine.{memory_size, value}
use Rattle.rv_meaning.specs.Memory.{load, store}
use Rattle.rv_meaning.specs.Words.{sum, word}
use Rattle.rv_meaning.proofs.MemoryLaws.{length-store, load-store_same, load-store_other}
use Rattle.pli_meaning.specs.StorageState.{Activation}
use Rattle.pli_serving.specs.SignatureService.{number_of, reserved_for}
use Rattle.pli_serving.specs.Templates.{shape_of}
use Rattle.pli_coding.specs.Assembly.{DataPlace, Datum, size_of}
use Rattle.pli_coding.specs.Environments.{none_taken}
use Rattle.pli_coding.specs.Extents.{bytes_word, filled_in, number_word}
use Rattle.pli_coding.specs.Instructions.{load_word, number, store_word}
use Rattle.pli_coding.specs.Linking.{place_of}
use Rattle.pli_coding.specs.Registers.{a0, a1, frame_register}
use Rattle.storage_relation.specs.Changes.{with_memory}
use Rattle.storage_relation.specs.Served.{Holds}
use Rattle.storage_relation.specs.Stored.{IsClear}
use Rattle.activation_relation.specs.FrameLaws.{with_waits}
use Rattle.activation_relation.specs.Frames.{AreLaid, FramesStand, Stores, frame_bytes, frame_start, frame_under}
use Rattle.activation_relation.specs.Frames.{stored, upper_top, word_place}
use Rattle.activation_relation.specs.Layers.{Layer, Point, now, services_of}
use Rattle.activation_relation.specs.Owned.{AreOwned, AreWithin}
use Rattle.activation_relation.specs.Points.{Stands, Surroundings}
use Rattle.activation_relation.specs.Remaining.{Remains}
use Rattle.activation_relation.proofs.FrameWords.{words_covered}
use Rattle.activation_relation.proofs.ListWords.{words_rewritten}
use Rattle.activation_relation.proofs.OwnPlaces.{clear_within, frame_clear, stores_hold}
use Rattle.activation_relation.proofs.Remaining.{remains_same, remains_then}
use Rattle.activation_relation.proofs.Returning.{later_same}
use Rattle.activation_relation.proofs.StoredWords.{stored_beside}
use Rattle.image_runs.specs.Runs.{Whole}
use Rattle.run_steps.specs.Bodies.{Known, PlaceFrom, with'}
use Rattle.run_steps.proofs.Bodies.{at_place, constant_piece, frame_is, load_piece}
use Rattle.run_steps.specs.Engine.{Base}
use Rattle.run_steps.specs.Items.{At, Linked}
use Rattle.run_steps.proofs.Items.{straight}
use Rattle.run_steps.proofs.Jumps.{back_of, front_of}
use Rattle.run_steps.proofs.Linking.{size_append}
use Rattle.run_steps.specs.Reach.{Family, Reach, reached}
use Rattle.run_steps.proofs.Reach.{reach_map, reach_then, reach_with, reached_holds}
use Rattle.run_steps.proofs.Reaching.{reach_moved}
use Rattle.run_steps.specs.Temporaries.{nothing}
use Rattle.block_runs.specs.Machines.{AreIn, IsImage, IsIn}
use Rattle.block_runs.proofs.BlockEntries.{word_fits, word_is}
use Rattle.block_runs.proofs.Places.{IsFrame}
use Rattle.block_runs.proofs.PointGrounds.{StandsIn, in_known, known_in, point_frame, point_ground}
use Rattle.program_runs.specs.Statements.{Block, IsAmong, IsBegun}
use Rattle.program_runs.proofs.Statements.{resumes_among}
use Rattle.begin_runs.specs.BehindLists.{from_point}
use Rattle.argument_runs.specs.Lists.{layered, with_list}
use Rattle.argument_runs.proofs.GivenLists.{with_list_stands}
use Rattle.extent_runs.specs.Signatures.{Filling, IsFilling, filled_point, filling_code}
use Rattle.extent_runs.specs.Words.{HasExtent, IsWaiting, answered_point, both_wait, number_kept, number_waits}
use Rattle.extent_runs.proofs.Signatures.{filled_comes, filled_stands, list_ground}

-- ---- memory

-- words of the newest frame that are stored, from a place on, and all that is told of its words then
pub record Rewriting : Type 0 where
  pub at : ℕ
  pub count : ℕ
  pub stores : Stores
  pub waits : ℕ → Option ℕ

pub words_stand :
    (w : Surroundings) (p : Point) (φ : Layer) (φs : List Layer) (x : Rewriting) (b : Base) (m : List ℕ) →
    Stands w p × IsFrame φ.at → p.control.layers ≡ φ ∷ φs →
    (frame_start φ ≤ x.at) × (x.at + x.count ≤ φ.at) × AreWithin x.at x.count x.stores →
    length m ≡ memory_size →
    ((n v : ℕ) → n < φ.words → x.waits n ≡ Some v → load 4 (stored x.stores m) (word_place φ n) ≡ v) →
    StandsIn w p b m → StandsIn w (with_list x.waits φ φs p) b (stored x.stores m)
words_stand w p φ φs x b m known newest within bytes told stands =
    let laid = subst (AreLaid w.parts) newest known.0.laid in
    let owned = subst (AreOwned p.keeper p.places p.state w.parts) newest known.0.owned in
    let frames = subst (FramesStand w.parts b.at m p.state.activations) newest stands.frames in
    let above = laid.0.above in
    let low = within.0 in
    let high = within.1 in
    let room = known.1.room in
    let clear : IsClear p.keeper p.places p.state x.at x.count =
    clear_within p.keeper p.places p.state (frame_start φ) (frame_bytes φ) x.at x.count
    (frame_clear p.keeper p.places p.state w.parts φ φs owned laid) low (omega (arith, above, high)) in
    record {
      storage = same_now (stores_hold (now p m) x.at x.count x.stores stands.storage clear
          (omega (arith, high, room, bytes)) within.2);
      frames = frames_by p.state.activations frames;
    }
  where
    same_now : {m' : List ℕ} → Holds (with_memory m' (now p m)) → Holds (now (with_list x.waits φ φs p) m')
    same_now h =
        record {
          keeps = h.keeps;
          heap = record { at = h.heap.at; capacity = h.heap.capacity };
          lives = record { falling = h.lives.falling; numbered = h.lives.numbered; extents = h.lives.extents };
          stored = h.stored;
          distinct = h.distinct;
        }

    frames_by :
        (as' : List Activation) → FramesStand w.parts b.at m as' (φ ∷ φs) →
        FramesStand w.parts b.at (stored x.stores m) as' (with_waits x.waits φ ∷ φs)
    frames_by [] h = absurd h
    frames_by (a ∷ as') h =
        let laid = subst (AreLaid w.parts) newest known.0.laid in
        words_rewritten w.parts b.at x.at x.count m (stored x.stores m) a as' φ φs x.waits h (
          laid,
          within.0,
          within.1,
          stored_beside x.at x.count x.stores m within.2,
        ) told

-- ---- the places of both words

pub first_place : (at : ℕ) → IsFrame at → PlaceFrom at (negsuc 3) (at - 4)
first_place at h =
    let whole = h.whole in
    let high = h.high in
    let room = h.room in
    record {
      small' = omega (arith, ints);
      sums = λ b. let v = b.valid.1 in omega (arith, ints, high, room, v);
      aligned = omega (arith, whole, high);
      inside = omega (arith, room);
      above_code = omega (arith, high);
    }

pub second_place : (at : ℕ) → IsFrame at → PlaceFrom at (negsuc 7) (at - 8)
second_place at h =
    let whole = h.whole in
    let high = h.high in
    let room = h.room in
    record {
      small' = omega (arith, ints);
      sums = λ b. let v = b.valid.1 in omega (arith, ints, high, room, v);
      aligned = omega (arith, whole, high);
      inside = omega (arith, room);
      above_code = omega (arith, high);
    }

some_is : {a b : ℕ} → Some a ≡ Some b → a ≡ b
some_is e = cc e

-- ---- the number waits

abbrev number_rewriting : Layer → (given : ℕ) → Rewriting
number_rewriting φ given =
    record { at = φ.at - 4; count = 4; stores = (φ.at - 4, given) ∷ []; waits = number_waits given }

number_found :
    (φ : Layer) (given n v : ℕ) (m : List ℕ) → given < 2 ^ 32 → (4 ≤ φ.at) × (φ.at ≤ length m) →
    number_waits given n ≡ Some v → load 4 (store 4 m (φ.at - 4) given) (word_place φ n) ≡ v
number_found φ given n v m few room e = by (n == 0) refl e
  where
    by : (q : Bool) → (n == 0) ≡ q → cond q (Some given) None ≡ Some v →
        load 4 (store 4 m (φ.at - 4) given) (word_place φ n) ≡ v
    by true f g =
        let z : n ≡ 0 = grind (arith, nat_tests) in
        let enough = room.0 in
        let inside = room.1 in
        ap (λ j. load 4 (store 4 m (φ.at - 4) given) (φ.at - 4 * suc j)) z
        ∙ load-store_same 4 m (φ.at - 4) given few (omega (arith, enough, inside))
        ∙ some_is g
    by false f g = absurd (cc g)

pub number_comes :
    (w : Surroundings) (code : List Instr) (p : Point) (φ : Layer) (φs : List Layer) (numbers : ℕ → ℕ)
    (signature c index : ℕ) (f : Family) → Stands w p × IsImage w code p → p.control.layers ≡ φ ∷ φs →
    (1 ≤ φ.words) × (signature < 2 ^ 31) → Linked w.links code index (number_kept signature) →
    AreIn w p numbers index f →
    Reach code c f (services_of p) (c + size_of (number_kept signature))
    (services_of (with_list (number_waits signature) φ φs p))
    (λ b y. IsIn w (with_list (number_waits signature) φ φs p) numbers (index + size_of (number_kept signature)) b y)
number_comes w code p φ φs numbers signature c index f known newest few l there =
    let q = with_list (number_waits signature) φ φs p in
    let v = services_of p in
    let v' = services_of q in
    let h = point_frame known.0 known.1 in
    let same : frame_under w.parts p.control.layers ≡ φ.at = ap (λ ls. frame_under w.parts ls) newest in
    let h' = subst IsFrame same h in
    let new = with_list_stands w code p φ φs (number_waits signature) known newest in
    let laid = subst (AreLaid w.parts) newest known.0.laid in
    let above = laid.0.above in
    let covered = words_covered φ.words in
    let words = few.0 in
    let fits = few.1 in
    let high = h'.high in
    let room = h'.room in
    let small' = l.small' in
    let one = number a0 signature in
    let two = store_word frame_register a0 (number_word none_taken) in
    let n = size_append one two in
    let r1 = constant_piece {rs = nothing} c f a0 (pos signature) (word_fits signature fits)
    (record { reserved_stay = λ y u. refl; known_stay = λ b y u o. o; set = λ y u. refl }) (front_of one two l)
    (λ b. known_in {t = λ j. 0} {rs = nothing} h (there b) tt) in
    let g = reached r1 in
    let r2 = straight {xs = two} (c + size_of one) g v v'
    (λ b y. Known (point_ground w q h') v' numbers (λ j. 0) nothing b y) (back_of one two l) (omega arith)
    (λ b. (reached_holds r1 b).pc)
    (λ b.
    let o = (reached_holds r1 b).holds in
    let x = (g b).machine.registers in
    let m = (g b).machine.memory in
    let bytes = o.body.bytes in
    let given : x 10 ≡ signature = o.regs.0 ∙ word_is signature fits in
    let frame = frame_is o.body ∙ ap (λ n. b.at + n) same in
    let stood = words_stand w p φ φs (number_rewriting φ signature) b m (known.0, h') newest
    (omega (arith, covered, above, words), omega (arith, high), ((omega arith, omega arith), tt)) bytes
    (λ j u less e.
    number_found φ signature j u m (omega (arith, fits)) (omega (arith, high), omega (arith, room, bytes)) e)
    o.body.memory in (
      at_place b (first_place φ.at h') (sum (x 8) (word (negsuc 3))) (ap (λ u. sum u (word (negsuc 3))) frame),
      omega (arith, small', high),
      record {
        body = record {
          services = o.body.services ∙ ap (λ ls. services_of (layered ls p)) newest;
          registers = o.body.registers ∙ ap (λ n. 0 ∷ (b.at + upper_top w.parts p.control.layers) ∷ (b.at + n)
              ∷ numbers 0 ∷ numbers 1 ∷ numbers 2 ∷ numbers 3 ∷ numbers 4 ∷ numbers 5 ∷ numbers 6 ∷ []) same
              ∙ ap (λ ls. 0 ∷ (b.at + upper_top w.parts ls) ∷ (b.at + φ.at)
              ∷ numbers 0 ∷ numbers 1 ∷ numbers 2 ∷ numbers 3 ∷ numbers 4 ∷ numbers 5 ∷ numbers 6 ∷ []) newest;
          bytes = length-store 4 m (φ.at - 4) (x 10) ∙ bytes;
          memory = subst (λ n. StandsIn w q b (store 4 m (φ.at - 4) n)) (sym given) stood;
        };
        regs = tt;
      },
    )) in
    reach_map _ (reach_moved (omega (arith, n)) (omega (arith, n)) (reach_then r1 r2))
    (λ b y o. in_known h' new.1.parts o)

-- ---- the block goes on from there

abbrev newest_waits : (ℕ → Option ℕ) → List Layer → List Layer
newest_waits waits [] = []
newest_waits waits (φ ∷ φs) = with_waits waits φ ∷ φs

pub remains_with :
    (p : Point) (φ : Layer) (φs : List Layer) (waits : ℕ → Option ℕ) → Remains p (with_list waits φ φs p)
remains_with p φ φs waits =
    let same = remains_same p in
    record {
      living = same.living;
      serials = same.serials;
      at = same.at;
      number = same.number;
      signatures = same.signatures;
      statics = same.statics;
      low = same.low;
      constants = same.constants;
      active = same.active;
      in_use = same.in_use;
    }

pub waits_begun :
    (k : Block) (p : Point) (numbers : ℕ → ℕ) (φ : Layer) (φs : List Layer) (waits : ℕ → Option ℕ) → IsBegun k →
    IsAmong k numbers p → p.control.layers ≡ φ ∷ φs →
    IsBegun (from_point k (with_list waits φ φs p))
    × IsAmong (from_point k (with_list waits φ φs p)) numbers (with_list waits φ φs p)
waits_begun k p numbers φ φs waits b o newest =
    let q = with_list waits φ φs p in
    let r = resumes_among b o in
    let known = with_list_stands k.call.surroundings k.call.code p φ φs waits (o.stands, o.image) newest in
    let later = o.later.acts in
    let first = b.acts in (
      record {
        activation = b.activation;
        resumes = record {
          stands = known.0;
          idle = r.idle;
          changed = record r.changed { waits = waits };
          layers = ap (newest_waits waits) (sym newest ∙ r.layers);
          own = r.own;
          activations = r.activations;
          more = r.more;
        };
        acts = omega (arith, later, first);
        remains = remains_then k.call.point p q (remains_then k.call.point k.first p b.remains o.later.remains)
            (remains_with p φ φs waits);
        outer = b.outer;
      },
      record {
        stands = known.0;
        image = known.1;
        later = later_same q;
        few = o.few;
        entries = refl;
        others = o.others;
        words = o.words;
      },
    )

-- ---- the extent is filled in

abbrev both_rewriting : Layer → (number bytes : ℕ) → Rewriting
both_rewriting φ number bytes =
    record {
      at = φ.at - 8;
      count = 8;
      stores = (φ.at - 4, number) ∷ (φ.at - 8, bytes) ∷ [];
      waits = both_wait number bytes;
    }

both_found :
    (φ : Layer) (number bytes n v : ℕ) (m : List ℕ) → (number < 2 ^ 32) × (bytes < 2 ^ 32) →
    (8 ≤ φ.at) × (φ.at ≤ length m) → both_wait number bytes n ≡ Some v →
    load 4 (store 4 (store 4 m (φ.at - 4) number) (φ.at - 8) bytes) (word_place φ n) ≡ v
both_found φ number bytes n v m few room e = first (n == 0) refl e
  where
    m' : List ℕ
    m' = store 4 m (φ.at - 4) number

    long : length m' ≡ length m
    long = length-store 4 m (φ.at - 4) number

    second : (q : Bool) → (n == 1) ≡ q → cond q (Some bytes) None ≡ Some v →
        load 4 (store 4 m' (φ.at - 8) bytes) (word_place φ n) ≡ v
    second true f g =
        let z : n ≡ 1 = grind (arith, nat_tests) in
        let enough = room.0 in
        let inside = room.1 in
        ap (λ j. load 4 (store 4 m' (φ.at - 8) bytes) (φ.at - 4 * suc j)) z
        ∙ load-store_same 4 m' (φ.at - 8) bytes few.1 (omega (arith, enough, inside, long))
        ∙ some_is g
    second false f g = absurd (cc g)

    first : (q : Bool) → (n == 0) ≡ q → cond q (Some number) (cond (n == 1) (Some bytes) None) ≡ Some v →
        load 4 (store 4 m' (φ.at - 8) bytes) (word_place φ n) ≡ v
    first true f g =
        let z : n ≡ 0 = grind (arith, nat_tests) in
        let enough = room.0 in
        let inside = room.1 in
        ap (λ j. load 4 (store 4 m' (φ.at - 8) bytes) (φ.at - 4 * suc j)) z
        ∙ load-store_other 4 4 m' (φ.at - 8) bytes (φ.at - 4) (inr (omega (arith, enough)))
        ∙ load-store_same 4 m (φ.at - 4) number few.0 (omega (arith, enough, inside))
        ∙ some_is g
    first false f g = second (n == 1) refl g

-- what waits in the first word
number_read :
    (w : Surroundings) (p : Point) (φ : Layer) (φs : List Layer) (given base : ℕ) (m : List ℕ) →
    p.control.layers ≡ φ ∷ φs → 1 ≤ φ.words → φ.waits 0 ≡ Some given →
    FramesStand w.parts base m p.state.activations p.control.layers → load 4 m (φ.at - 4) ≡ given
number_read w p φ φs given base m newest words waits frames =
    by p.state.activations (subst (FramesStand w.parts base m p.state.activations) newest frames)
  where
    by : (as' : List Activation) → FramesStand w.parts base m as' (φ ∷ φs) → load 4 m (φ.at - 4) ≡ given
    by [] h = absurd h
    by (a ∷ as') h = h.0.waits 0 given words waits

abbrev bound_regs : Filling → Base → List (ℕ × ℕ)
bound_regs x b = (12, x.lower) ∷ (13, x.upper) ∷ []

-- the number comes into its register while the list stands
number_loaded :
    {w : Surroundings} {code : List Instr} {p : Point} {numbers : ℕ → ℕ} {index : ℕ} (x : Filling) (φ : Layer)
    (φs : List Layer) (c : ℕ) (f : Family) (h : IsFrame (frame_under w.parts p.control.layers)) →
    IsWaiting p x φ φs → Linked w.links code index (load_word a0 frame_register (number_word none_taken)) →
    ((b : Base) → IsIn w p numbers index b (f b) × HasExtent p x (f b)) →
    Reach code c f (services_of p) (c + size_of (load_word a0 frame_register (number_word none_taken))) (services_of p)
    (λ b y. At b (index + size_of (load_word a0 frame_register (number_word none_taken)))
    (Known (list_ground w p x h) (services_of p) numbers (λ n. 0) (with' 10 (λ b'. x.number) (bound_regs x)) b) y)
number_loaded {w} {p = p} x φ φs c f h is l there =
    let at = frame_under w.parts p.control.layers in
    let same : at ≡ φ.at = ap (λ ls. frame_under w.parts ls) is.newest in
    let words = is.words in
    load_piece c f a0 (number_word none_taken) (at - 4) (λ b. x.number) (first_place at h)
    (λ b m o. subst (λ n. load 4 m (n - 4) ≡ x.number) (sym same)
    (number_read w p φ φs x.number b.at m is.newest (omega (arith, words)) is.number o.0.frames))
    (record { reserved_stay = λ y u. refl; known_stay = λ b y u o. o; set = λ y u. refl })
    (record { reserved_stay = λ y u. refl; known_stay = λ b y u o. o; set = λ y u. refl }) l
    (λ b.
    let a = (there b).1 in
    let o = known_in {t = λ n. 0} {rs = bound_regs x} h (there b).0 (a.lower, (a.upper, tt)) in
    record {
      pc = o.pc;
      holds = record {
        body = record {
          services = o.holds.body.services;
          registers = o.holds.body.registers;
          bytes = o.holds.body.bytes;
          memory = (o.holds.body.memory, a.list);
        };
        regs = o.holds.regs;
      };
    })

list_left :
    {w : Surroundings} {p : Point} {numbers t : ℕ → ℕ} {i : ℕ} {b : Base} {y : Whole} {rs : Base → List (ℕ × ℕ)}
    (x : Filling) (h : IsFrame (frame_under w.parts p.control.layers)) →
    At b i (Known (list_ground w p x h) (services_of p) numbers t rs b) y →
    At b i (Known (point_ground w p h) (services_of p) numbers t rs b) y
list_left x h o =
    record {
      pc = o.pc;
      holds = record {
        body = record {
          services = o.holds.body.services;
          registers = o.holds.body.registers;
          bytes = o.holds.body.bytes;
          memory = o.holds.body.memory.0;
        };
        regs = o.holds.regs;
      };
    }

-- what the service answered goes into both words
answers_kept :
    (w : Surroundings) (code : List Instr) (p : Point) (φ : Layer) (φs : List Layer) (numbers : ℕ → ℕ)
    (given bytes c index : ℕ) (f : Family) → Stands w p × IsImage w code p → p.control.layers ≡ φ ∷ φs →
    (2 ≤ φ.words) × (given < 2 ^ 32) × (bytes < 2 ^ 32) →
    Linked w.links code index
    (store_word frame_register a0 (number_word none_taken) ++ store_word frame_register a1 (bytes_word none_taken)) →
    ((b : Base) → IsIn w p numbers index b (f b) × (value (f b).machine a0 ≡ given)
    × (value (f b).machine a1 ≡ bytes)) →
    Reach code c f (services_of p) (c + 2) (services_of (with_list (both_wait given bytes) φ φs p))
    (λ b y. IsIn w (with_list (both_wait given bytes) φ φs p) numbers (index + 2) b y)
answers_kept w code p φ φs numbers given bytes c index f known newest few l there =
    let q = with_list (both_wait given bytes) φ φs p in
    let v = services_of p in
    let v' = services_of q in
    let h = point_frame known.0 known.1 in
    let same : frame_under w.parts p.control.layers ≡ φ.at = ap (λ ls. frame_under w.parts ls) newest in
    let h' = subst IsFrame same h in
    let new = with_list_stands w code p φ φs (both_wait given bytes) known newest in
    let laid = subst (AreLaid w.parts) newest known.0.laid in
    let above = laid.0.above in
    let covered = words_covered φ.words in
    let words = few.0 in
    let high = h'.high in
    let room = h'.room in
    let small' = l.small' in
    let regs : Base → List (ℕ × ℕ) = λ b. (10, given) ∷ (11, bytes) ∷ [] in
    let r = straight c f v v' (λ b y. Known (point_ground w q h') v' numbers (λ j. 0) nothing b y) l (omega arith)
    (λ b. (there b).0.at.pc)
    (λ b.
    let o = (known_in {t = λ j. 0} {rs = regs} h (there b).0 ((there b).1, ((there b).2, tt))).holds in
    let x = (f b).machine.registers in
    let m = (f b).machine.memory in
    let long = o.body.bytes in
    let frame = frame_is o.body ∙ ap (λ n. b.at + n) same in
    let stood = words_stand w p φ φs (both_rewriting φ given bytes) b m (known.0, h') newest (
      omega (arith, covered, above, words),
      omega (arith, high),
      ((omega (arith, high), omega (arith, high)), ((omega arith, omega arith), tt)),
    ) long
    (λ j u less e. both_found φ given bytes j u m (few.1, few.2) (omega (arith, high), omega (arith, room, long)) e)
    o.body.memory in (
      at_place b (first_place φ.at h') (sum (x 8) (word (negsuc 3))) (ap (λ u. sum u (word (negsuc 3))) frame),
      omega (arith, small', high),
      (
        at_place b (second_place φ.at h') (sum (x 8) (word (negsuc 7))) (ap (λ u. sum u (word (negsuc 7))) frame),
        omega (arith, small', high),
        record {
          body = record {
            services = o.body.services ∙ ap (λ ls. services_of (layered ls p)) newest;
            registers = o.body.registers ∙ ap (λ n. 0 ∷ (b.at + upper_top w.parts p.control.layers) ∷ (b.at + n)
                ∷ numbers 0 ∷ numbers 1 ∷ numbers 2 ∷ numbers 3 ∷ numbers 4 ∷ numbers 5 ∷ numbers 6 ∷ []) same
                ∙ ap (λ ls. 0 ∷ (b.at + upper_top w.parts ls) ∷ (b.at + φ.at)
                ∷ numbers 0 ∷ numbers 1 ∷ numbers 2 ∷ numbers 3 ∷ numbers 4 ∷ numbers 5 ∷ numbers 6 ∷ []) newest;
            bytes = length-store 4 (store 4 m (φ.at - 4) (x 10)) (φ.at - 8) (x 11)
                ∙ length-store 4 m (φ.at - 4) (x 10) ∙ long;
            memory = subst (λ n. StandsIn w q b (store 4 (store 4 m (φ.at - 4) n) (φ.at - 8) (x 11))) (sym o.regs.0)
                (subst (λ n. StandsIn w q b (store 4 (store 4 m (φ.at - 4) given) (φ.at - 8) n)) (sym o.regs.1.0)
                stood);
          };
          regs = tt;
        },
      ),
    )) in
    reach_map _ r (λ b y o. in_known h' new.1.parts o)

pub filled_in_comes :
    (w : Surroundings) (code : List Instr) (p : Point) (x : Filling) (φ : Layer) (φs : List Layer)
    (numbers : ℕ → ℕ) (places : Datum) (c index : ℕ) (f : Family) → Stands w p × IsImage w code p →
    IsFilling p x × IsWaiting p x φ φs → (place_of w.links (DataPlace places) ≡ x.at) × (x.at < 2 ^ 32) →
    Linked w.links code index (filled_in none_taken places) →
    ((b : Base) → IsIn w p numbers index b (f b) × HasExtent p x (f b)) →
    Reach code c f (services_of p) (c + size_of (filled_in none_taken places)) (services_of (answered_point x φ φs p))
    (λ b y. IsIn w (answered_point x φ φs p) numbers (index + size_of (filled_in none_taken places)) b y)
filled_in_comes w code p x φ φs numbers places c index f known is place l there =
    let h = point_frame known.0 known.1 in
    let q = filled_point x.template p in
    let first = load_word a0 frame_register (number_word none_taken) in
    let second = filling_code places in
    let third = store_word frame_register a0 (number_word none_taken)
    ++ store_word frame_register a1 (bytes_word none_taken) in
    let l1 = back_of first (second ++ third) l in
    let r1 = number_loaded x φ φs c f h is.1 (front_of first (second ++ third) l) there in
    let n = size_of first in
    let r2 = filled_comes w code p numbers x places (c + n) (index + n) (reached r1) known is.0 place
    (front_of second third l1)
    (λ b.
    let o = reached_holds r1 b in
    let a = o.holds.regs in (
      in_known h known.1.parts (list_left x h o),
      record { number = a.0; lower = a.1.0; upper = a.1.1.0; list = o.holds.body.memory.1 },
    )) in
    let m = size_of second in
    let r3 = answers_kept w code q φ φs numbers (number_of x.template p.places.signatures)
    (reserved_for p.keeper (shape_of x.template)) (c + n + m) (index + n + m) (reached r2)
    (filled_stands w code p x.template known) is.1.newest (is.1.words, is.1.fits, is.1.bytes) (back_of second third l1)
    (λ b. let o = reached_holds r2 b in (o.0, o.1.number, o.1.bytes)) in
    reach_map _
    (reach_with (c + size_of (filled_in none_taken places)) (omega arith) (reach_then r1 (reach_then r2 r3)))
    (λ b y o. subst (λ j. IsIn w (answered_point x φ φs p) numbers j b y) (omega arith) o)
