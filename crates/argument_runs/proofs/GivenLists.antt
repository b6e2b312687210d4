-- A value goes into the list of arguments, which stands in words of the caller's frame.
use Rattle.std.proofs.Common.{◌≡◌, inl, ℕ, suc, ◌+◌, ◌-◌, ◌*◌, ◌^◌, ◌<◌, ◌≤◌, List, [], ◌∷◌, ◌++◌, length}
use Rattle.std.proofs.Common.{Option, Some, None, Bool, true, false, refl, sym, ap, ◌∙◌, subst, arith}
use Rattle.std.proofs.lemmas.Bool.Decides.{nat_tests}
use Rattle.std.proofs.lemmas.Int.{ints}
use Rattle.std.specs.Prelude.{cond, negsuc, pos, ◌==◌}
use Rattle.rv_meaning.specs.declared.instr.Instr.{Instr}
use Rattle.rv_meaning.specs.Machine.{memory_size, value}
use Rattle.rv_meaning.specs.Memory.{load, store}
use Rattle.rv_meaning.specs.Words.{sum, word}
use Rattle.rv_meaning.proofs.MemoryLaws.{length-store, load-store_same, load-store_other}
use Rattle.pli_meaning.specs.StorageState.{Activation}
use Rattle.pli_coding.specs.Assembly.{size_of}
use Rattle.pli_coding.specs.Frames.{MemoryParts}
use Rattle.pli_coding.specs.Registers.{a0}
use Rattle.storage_relation.specs.Changes.{with_memory}
use Rattle.storage_relation.specs.Served.{Holds}
use Rattle.storage_relation.specs.Stored.{IsClear}
use Rattle.activation_relation.specs.Chains.{AreActive, UnitPlaces}
use Rattle.activation_relation.specs.FrameLaws.{with_waits}
use Rattle.activation_relation.specs.Frames.{AreLaid, FramesStand, Stores, frame_bytes, frame_start, frame_under}
use Rattle.activation_relation.specs.Frames.{stored, upper_top, word_place}
use Rattle.activation_relation.specs.Layers.{Layer, Point, now, services_of}
use Rattle.activation_relation.specs.Owned.{AreOwned, AreWithin}
use Rattle.activation_relation.specs.Points.{AreOver, Stands, Surroundings}
use Rattle.activation_relation.proofs.FrameWords.{words_covered}
use Rattle.activation_relation.proofs.ListWords.{words_rewritten}
use Rattle.activation_relation.proofs.OwnPlaces.{clear_within, frame_clear, stores_hold}
use Rattle.activation_relation.proofs.StoredWords.{stored_beside}
use Rattle.run_steps.specs.Bodies.{Known, PlaceFrom}
use Rattle.run_steps.proofs.Bodies.{at_place, frame_is, zero_is}
use Rattle.run_steps.specs.Engine.{Base}
use Rattle.run_steps.specs.Items.{Linked}
use Rattle.run_steps.proofs.Items.{straight}
use Rattle.run_steps.specs.Reach.{Family, Reach}
use Rattle.run_steps.proofs.Reach.{reach_map}
use Rattle.block_runs.specs.Machines.{AreEven, IsImage, IsIn}
use Rattle.block_runs.proofs.BlockEntries.{small_is}
use Rattle.block_runs.proofs.Places.{IsFrame}
use Rattle.block_runs.proofs.PointGrounds.{StandsIn, in_known, known_in, point_frame, point_ground}
use Rattle.expression_runs.proofs.Words.{valued}
use Rattle.argument_runs.specs.Laws.{HasList}
use Rattle.argument_runs.specs.Lists.{given_waits, layered, list_given, list_under, value_given, with_list}

-- ---- what is told of words is no part of what stands at a point

pub active_with :
    (units : UnitPlaces) (as' : List Activation) (φ : Layer) (φs : List Layer) (waits : ℕ → Option ℕ) →
    AreActive units as' (φ ∷ φs) → AreActive units as' (with_waits waits φ ∷ φs)
active_with units [] φ φs waits h = absurd h
active_with units (a ∷ as') φ φs waits h = (
  record { height = h.0.height; level = h.0.level; runs = h.0.runs; units = h.0.units; parent = h.0.parent },
  h.1,
)

pub laid_with :
    (parts : MemoryParts) (φ : Layer) (φs : List Layer) (waits : ℕ → Option ℕ) → AreLaid parts (φ ∷ φs) →
    AreLaid parts (with_waits waits φ ∷ φs)
laid_with parts φ φs waits h = (
  record {
    above = h.0.above;
    fixed = h.0.fixed;
    falls = h.0.falls;
    free = h.0.free;
    saved = h.0.saved;
    told = h.0.told;
  },
  h.1,
)

pub with_list_stands :
    (w : Surroundings) (code : List Instr) (p : Point) (φ : Layer) (φs : List Layer) (waits : ℕ → Option ℕ) →
    Stands w p × IsImage w code p → p.control.layers ≡ φ ∷ φs →
    Stands w (with_list waits φ φs p) × IsImage w code (with_list waits φ φs p)
with_list_stands w code p φ φs waits h newest =
    let owned = subst (AreOwned p.keeper p.places p.state w.parts) newest h.0.owned in (
      record {
        active = active_with w.units p.state.activations φ φs waits
            (subst (AreActive w.units p.state.activations) newest h.0.active);
        laid = laid_with w.parts φ φs waits (subst (AreLaid w.parts) newest h.0.laid);
        low = h.0.low;
        lives = h.0.lives;
        owned = record { living = owned.living; heap = owned.heap; constants = owned.constants };
        over = subst (AreOver p.control.entries p.control.edits) newest h.0.over;
        running = h.0.running;
        allowed = h.0.allowed;
      },
      record {
        keeper = h.1.keeper;
        layout = h.1.layout;
        parts = h.1.parts;
        even = subst (AreEven w.parts) newest h.1.even;
      },
    )

-- ---- the stores

pub list_place : (at : ℕ) → IsFrame at → PlaceFrom at (negsuc 23) (list_under at)
list_place at h =
    let whole = h.whole in
    let high = h.high in
    let room = h.room in
    record {
      small' = omega (arith, ints);
      sums = λ b. let v = b.valid.1 in omega (arith, ints, high, room, v);
      aligned = omega (arith, whole, high);
      inside = omega (arith, room);
      above_code = omega (arith, high);
    }

pub copy_place : (at : ℕ) → IsFrame at → PlaceFrom at (negsuc 3) (at - 4)
copy_place at h =
    let whole = h.whole in
    let high = h.high in
    let room = h.room in
    record {
      small' = omega (arith, ints);
      sums = λ b. let v = b.valid.1 in omega (arith, ints, high, room, v);
      aligned = omega (arith, whole, high);
      inside = omega (arith, room);
      above_code = omega (arith, high);
    }

abbrev list_stores : (at given : ℕ) → Stores
list_stores at given = (list_under at, given) ∷ (at - 4, 1) ∷ []

given_found :
    (φ : Layer) (given n v : ℕ) (m : List ℕ) → (6 ≤ φ.words) × (given < 2 ^ 32) → (24 ≤ φ.at) × (φ.at ≤ length m) →
    given_waits given n ≡ Some v → load 4 (stored (list_stores φ.at given) m) (word_place φ n) ≡ v
given_found φ given n v m few room e = first (n == 5) refl
  where
    m' : List ℕ
    m' = store 4 m (list_under φ.at) given

    long : length m' ≡ length m
    long = length-store 4 m (list_under φ.at) given

    some : {a b : ℕ} → Some a ≡ Some b → a ≡ b
    some e = cc e

    last : (q : Bool) → (n == 0) ≡ q → cond q (Some 1) None ≡ Some v →
        load 4 (store 4 m' (φ.at - 4) 1) (word_place φ n) ≡ v
    last true f e' =
        let zero' : n ≡ 0 = grind (arith, nat_tests) in
        let enough = room.0 in
        let inside = room.1 in
        ap (λ j. load 4 (store 4 m' (φ.at - 4) 1) (φ.at - 4 * suc j)) zero'
        ∙ load-store_same 4 m' (φ.at - 4) 1 (omega arith) (omega (arith, enough, inside, long))
        ∙ some e'
    last false f e' = absurd (cc e')

    first : (q : Bool) → (n == 5) ≡ q →
        load 4 (store 4 m' (φ.at - 4) 1) (word_place φ n) ≡ v
    first true f =
        let five : n ≡ 5 = grind (arith, nat_tests) in
        let enough = room.0 in
        let inside = room.1 in
        let e' : Some given ≡ Some v =
        sym (ap (λ q. cond q (Some given) (cond (n == 0) (Some 1) None)) f) ∙ e in
        ap (λ j. load 4 (store 4 m' (φ.at - 4) 1) (φ.at - 4 * suc j)) five
        ∙ load-store_other 4 4 m' (φ.at - 4) 1 (list_under φ.at) (inl (omega (arith, enough)))
        ∙ load-store_same 4 m (list_under φ.at) given few.1 (omega (arith, enough, inside))
        ∙ some e'
    first false f =
        last (n == 0) refl (sym (ap (λ q. cond q (Some given) (cond (n == 0) (Some 1) None)) f) ∙ e)

pub stands_given :
    (w : Surroundings) (p : Point) (φ : Layer) (φs : List Layer) (given : ℕ) (b : Base) (m : List ℕ) →
    Stands w p × IsFrame φ.at → p.control.layers ≡ φ ∷ φs → (6 ≤ φ.words) × (given < 2 ^ 32) →
    length m ≡ memory_size → StandsIn w p b m →
    StandsIn w (with_list (given_waits given) φ φs p) b (stored (list_stores φ.at given) m)
stands_given w p φ φs given b m known newest few bytes stands =
    let laid = subst (AreLaid w.parts) newest known.0.laid in
    let owned = subst (AreOwned p.keeper p.places p.state w.parts) newest known.0.owned in
    let frames = subst (FramesStand w.parts b.at m p.state.activations) newest stands.frames in
    let new = stored (list_stores φ.at given) m in
    let covered = words_covered φ.words in
    let above = laid.0.above in
    let words = few.0 in
    let low = known.1.high in
    let high = known.1.room in
    let within : AreWithin (list_under φ.at) 24 (list_stores φ.at given) =
    ((omega arith, omega arith), ((omega (arith, low), omega (arith, low)), tt)) in
    let clear : IsClear p.keeper p.places p.state (list_under φ.at) 24 =
    clear_within p.keeper p.places p.state (frame_start φ) (frame_bytes φ) (list_under φ.at) 24
    (frame_clear p.keeper p.places p.state w.parts φ φs owned laid) (omega (arith, covered, above, words))
    (omega (arith, covered, above, words)) in
    record {
      storage = same_now (stores_hold (now p m) (list_under φ.at) 24 (list_stores φ.at given) stands.storage clear
          (omega (arith, low, high, bytes)) within);
      frames = frames_by p.state.activations frames
          (λ n v less e. given_found φ given n v m few (omega (arith, low), omega (arith, high, bytes)) e);
    }
  where
    same_now : {m' : List ℕ} → Holds (with_memory m' (now p m)) →
        Holds (now (with_list (given_waits given) φ φs p) m')
    same_now h =
        record {
          keeps = h.keeps;
          heap = record { at = h.heap.at; capacity = h.heap.capacity };
          lives = record { falling = h.lives.falling; numbered = h.lives.numbered; extents = h.lives.extents };
          stored = h.stored;
          distinct = h.distinct;
        }

    new' : List ℕ
    new' = stored (list_stores φ.at given) m

    frames_by :
        (as' : List Activation) → FramesStand w.parts b.at m as' (φ ∷ φs) →
        ((n v : ℕ) → n < φ.words → given_waits given n ≡ Some v → load 4 new' (word_place φ n) ≡ v) →
        FramesStand w.parts b.at new' as' (with_waits (given_waits given) φ ∷ φs)
    frames_by [] h told = absurd h
    frames_by (a ∷ as') h told =
        let laid = subst (AreLaid w.parts) newest known.0.laid in
        let covered = words_covered φ.words in
        let above = laid.0.above in
        let words = few.0 in
        let low = known.1.high in
        words_rewritten w.parts b.at (list_under φ.at) 24 m new' a as' φ φs (given_waits given) h (
          laid,
          omega (arith, covered, above, words),
          omega (arith, low),
          stored_beside (list_under φ.at) 24 (list_stores φ.at given) m
              ((omega arith, omega arith), ((omega (arith, low), omega (arith, low)), tt)),
        ) told

-- ---- the code

abbrev given_regs : (at : ℕ) → Base → List (ℕ × ℕ)
given_regs at b = (10, b.at + at) ∷ (12, 0) ∷ (11, b.at + list_under at) ∷ []

moved_is : (b : Base) (at x : ℕ) → IsFrame at → x ≡ b.at + at → sum x (word (pos 0)) ≡ b.at + at
moved_is b at x h e = let room = h.room in let v = b.valid.1 in omega (arith, e, room, v)

listed_is : (b : Base) (at x : ℕ) → IsFrame at → x ≡ b.at + at → sum x (word (negsuc 23)) ≡ b.at + list_under at
listed_is b at x h e =
    let room = h.room in
    let high = h.high in
    let v = b.valid.1 in
    omega (arith, ints, e, room, high, v)

pub arguments_comes :
    (w : Surroundings) (code : List Instr) (p : Point) (φ : Layer) (φs : List Layer) (numbers : ℕ → ℕ)
    (given credits index : ℕ) (f : Family) → Stands w p × IsImage w code p → p.control.layers ≡ φ ∷ φs →
    (6 ≤ φ.words) × (given < 2 ^ 32) → Linked w.links code index (value_given ++ list_given) →
    ((b : Base) → IsIn w p numbers index b (f b) × (value (f b).machine a0 ≡ given)) →
    Reach code credits f (services_of p) (credits + size_of (value_given ++ list_given))
    (services_of (with_list (given_waits given) φ φs p))
    (λ b y. IsIn w (with_list (given_waits given) φ φs p) numbers (index + size_of (value_given ++ list_given)) b y
    × HasList φ b y.machine)
arguments_comes w code p φ φs numbers given credits index f known newest few l there =
    let q = with_list (given_waits given) φ φs p in
    let v = services_of p in
    let v' = services_of q in
    let h = point_frame known.0 known.1 in
    let same : frame_under w.parts p.control.layers ≡ φ.at = ap (λ ls. frame_under w.parts ls) newest in
    let h' = subst IsFrame same h in
    let stand = with_list_stands w code p φ φs (given_waits given) known newest in
    let g = point_ground w q h' in
    let small' = l.small' in
    let high = h'.high in
    let r = straight {xs = value_given ++ list_given} credits f v v'
    (λ b y. Known g v' numbers (λ n. 0) (given_regs φ.at) b y) l (omega arith) (λ b. (there b).0.at.pc)
    (λ b.
    let o = (known_in {t = λ n. 0} {rs = valued given} h (there b).0 ((there b).1, tt)).holds in
    let x = (f b).machine.registers in
    let frame = frame_is o.body ∙ ap (λ n. b.at + n) same in
    let stored' = stands_given w p φ φs given b (f b).machine.memory (known.0, h') newest few o.body.bytes
    o.body.memory in
    let one = small_is (x 0) 1 (zero_is o.body) (omega arith) in (
      at_place b (list_place φ.at h') (sum (x 8) (word (negsuc 23))) (ap (λ u. sum u (word (negsuc 23))) frame),
      omega (arith, small', high),
      (
        at_place b (copy_place φ.at h') (sum (x 8) (word (negsuc 3))) (ap (λ u. sum u (word (negsuc 3))) frame),
        omega (arith, small', high),
        record {
          body = record {
            services = o.body.services ∙ ap (λ ls. services_of (layered ls p)) newest;
            registers = o.body.registers ∙ ap (λ n. 0 ∷ (b.at + upper_top w.parts p.control.layers) ∷ (b.at + n)
                ∷ numbers 0 ∷ numbers 1 ∷ numbers 2 ∷ numbers 3 ∷ numbers 4 ∷ numbers 5 ∷ numbers 6 ∷ []) same
                ∙ ap (λ ls. 0 ∷ (b.at + upper_top w.parts ls) ∷ (b.at + φ.at)
                ∷ numbers 0 ∷ numbers 1 ∷ numbers 2 ∷ numbers 3 ∷ numbers 4 ∷ numbers 5 ∷ numbers 6 ∷ []) newest;
            bytes = length-store 4 (store 4 (f b).machine.memory (list_under φ.at) (x 10)) (φ.at - 4) (sum (x 0) 1)
                ∙ length-store 4 (f b).machine.memory (list_under φ.at) (x 10) ∙ o.body.bytes;
            memory = subst (λ n. StandsIn w q b
                (store 4 (store 4 (f b).machine.memory (list_under φ.at) n) (φ.at - 4) (sum (x 0) 1))) (sym o.regs.0)
                (subst (λ n. StandsIn w q b
                (store 4 (store 4 (f b).machine.memory (list_under φ.at) given) (φ.at - 4) n)) (sym one) stored');
          };
          regs = (
            moved_is b φ.at (x 8) h' frame,
            (small_is (x 0) 0 (zero_is o.body) (omega arith), (listed_is b φ.at (x 8) h' frame, tt)),
          );
        },
      ),
    )) in
    reach_map _ r (λ b y o. (
      in_known h' known.1.parts o,
      record { frame = o.holds.regs.0; list = o.holds.regs.1.1.0; texts = o.holds.regs.1.0 },
    ))
