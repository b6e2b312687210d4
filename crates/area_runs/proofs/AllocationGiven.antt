-- What ALLOCATE gives to service 10: two words of the frame, and six registers.
use Rattle.std.proofs.Common.{◌≡◌, inr, ℕ, ◌+◌, ◌-◌, ◌^◌, ◌<◌, ◌≤◌, List, [], ◌∷◌, ◌++◌, length}
use Rattle.std.proofs.Common.{None, refl, sym, ap, ◌∙◌, subst, arith}
use Rattle.std.proofs.lemmas.Int.{ints}
use Rattle.std.specs.Prelude.{negsuc, pos}
use Rattle.rv_meaning.specs.declared.instr.ImmediateOp.TheVariants as Imm
use Rattle.rv_meaning.specs.declared.instr.Instr.{Instr}
use Rattle.rv_meaning.specs.declared.instr.Instr.TheVariants as I
use Rattle.rv_meaning.specs.declared.instr.Register.{Register}
use Rattle.rv_meaning.specs.Machine.{memory_size}
use Rattle.rv_meaning.specs.Memory.{load, store}
use Rattle.rv_meaning.specs.Words.{sum, word}
use Rattle.rv_meaning.proofs.MemoryLaws.{length-store, load-store_other, load-store_same}
use Rattle.pli_meaning.specs.StorageState.{Activation}
use Rattle.pli_serving.specs.ServiceState.{Services}
use Rattle.pli_coding.specs.Assembly.{Code, size_of}
use Rattle.pli_coding.specs.Frames.{MemoryParts, own_offset}
use Rattle.pli_coding.specs.Instructions.{load_word, number, plus, small}
use Rattle.pli_coding.specs.Linking.{Links}
use Rattle.pli_coding.specs.Registers.{a0, a1, a2, a3, a4, a7, frame_register}
use Rattle.storage_relation.specs.Stored.{IsBeside, IsClear}
use Rattle.activation_relation.specs.Frames.{AreLaid, FramesStand, Stores, frame_bytes, frame_start, frame_under}
use Rattle.activation_relation.specs.Frames.{stored}
use Rattle.activation_relation.specs.Frames.{upper_top}
use Rattle.activation_relation.specs.Layers.{Layer, Point, now, services_of}
use Rattle.activation_relation.specs.Owned.{AreOwned, AreWithin}
use Rattle.activation_relation.specs.Points.{Stands, Surroundings}
use Rattle.activation_relation.proofs.FrameWords.{words_covered}
use Rattle.activation_relation.proofs.ListWords.{words_rewritten}
use Rattle.activation_relation.proofs.OwnPlaces.{clear_within, frame_clear, stores_hold}
use Rattle.activation_relation.proofs.StoredWords.{stored_beside}
use Rattle.run_steps.specs.Bodies.{Free, Ground, IsNear, Known, PlaceFrom, PlaceOf, with'}
use Rattle.run_steps.proofs.Bodies.{at_place, constant_piece, displaced_by, frame_is, load_piece, lose_known, set_known}
use Rattle.run_steps.proofs.Bodies.{zero_is}
use Rattle.run_steps.specs.Engine.{Base}
use Rattle.run_steps.specs.Items.{At, Linked}
use Rattle.run_steps.proofs.Items.{straight}
use Rattle.run_steps.proofs.Jumps.{back_of, front_of}
use Rattle.run_steps.proofs.Linking.{size_append}
use Rattle.run_steps.proofs.Numbers.{above_small}
use Rattle.run_steps.specs.Reach.{Family, Reach, reached}
use Rattle.run_steps.proofs.Reach.{reach_then, reached_holds}
use Rattle.run_steps.proofs.Reaching.{reach_moved}
use Rattle.run_steps.specs.Temporaries.{nothing}
use Rattle.pli_coding.specs.Instructions.{is_immediate}
use Rattle.block_runs.specs.Machines.{AreIn}
use Rattle.block_runs.proofs.BlockEntries.{small_is, word_fits, word_is}
use Rattle.block_runs.proofs.Places.{IsFrame, ground_at, word_in}
use Rattle.block_runs.proofs.PointGrounds.{StandsIn, known_in, point_ground}
use Rattle.program_runs.proofs.Variables.{own_code}
use Rattle.area_runs.proofs.AllocationCode.{amounts_code, kept_code}

-- ---- two words of the frame

first_word : (at : ℕ) → IsFrame at → PlaceFrom at (negsuc 3) (at - 4)
first_word at h =
    let whole = h.whole in
    let high = h.high in
    let room = h.room in
    record {
      small' = omega (arith, ints);
      sums = λ b. let v = b.valid.1 in omega (arith, ints, high, room, v);
      aligned = omega (arith, whole, high);
      inside = omega (arith, room);
      above_code = omega (arith, high);
    }

second_word : (at : ℕ) → IsFrame at → PlaceFrom at (negsuc 7) (at - 8)
second_word at h =
    let whole = h.whole in
    let high = h.high in
    let room = h.room in
    record {
      small' = omega (arith, ints);
      sums = λ b. let v = b.valid.1 in omega (arith, ints, high, room, v);
      aligned = omega (arith, whole, high);
      inside = omega (arith, room);
      above_code = omega (arith, high);
    }

abbrev kept_stores : (at x y : ℕ) → Stores
kept_stores at x y = (at - 4, x) ∷ (at - 8, y) ∷ []

-- nothing waits in the newest frame's words
pub record IsFree (p : Point) (φ : Layer) (φs : List Layer) : Type 0 where
  pub newest : p.control.layers ≡ φ ∷ φs
  pub words : 2 ≤ φ.words
  pub waits : (i : ℕ) → φ.waits i ≡ None

kept_stands :
    (w : Surroundings) (p : Point) (φ : Layer) (φs : List Layer) (x y : ℕ) (b : Base) (m : List ℕ) →
    Stands w p → IsFrame φ.at → IsFree p φ φs → length m ≡ memory_size → StandsIn w p b m →
    StandsIn w p b (stored (kept_stores φ.at x y) m)
kept_stands w p φ φs x y b m known frame free bytes stands =
    let laid = subst (AreLaid w.parts) free.newest known.laid in
    let owned = subst (AreOwned p.keeper p.places p.state w.parts) free.newest known.owned in
    let frames = subst (FramesStand w.parts b.at m p.state.activations) free.newest stands.frames in
    let new = stored (kept_stores φ.at x y) m in
    let covered = words_covered φ.words in
    let above = laid.0.above in
    let words = free.words in
    let low = frame.high in
    let high = frame.room in
    let within : AreWithin (φ.at - 8) 8 (kept_stores φ.at x y) =
    ((omega (arith, low), omega (arith, low)), ((omega arith, omega (arith, low)), tt)) in
    let clear : IsClear p.keeper p.places p.state (φ.at - 8) 8 =
    clear_within p.keeper p.places p.state (frame_start φ) (frame_bytes φ) (φ.at - 8) 8
    (frame_clear p.keeper p.places p.state w.parts φ φs owned laid) (omega (arith, covered, above, words, low))
    (omega (arith, covered, above, words, low)) in
    record {
      storage =
          stores_hold (now p m) (φ.at - 8) 8 (kept_stores φ.at x y) stands.storage clear
          (omega (arith, low, high, bytes)) within;
      frames = subst (FramesStand w.parts b.at new p.state.activations) (sym free.newest)
          (by p.state.activations frames (stored_beside (φ.at - 8) 8 (kept_stores φ.at x y) m within) laid
          (omega (arith, covered, above, words, low)) (omega (arith, low)));
    }
  where
    by :
        (as' : List Activation) → FramesStand w.parts b.at m as' (φ ∷ φs) →
        IsBeside (φ.at - 8) 8 m (stored (kept_stores φ.at x y) m) → AreLaid w.parts (φ ∷ φs) →
        frame_start φ ≤ φ.at - 8 → φ.at - 8 + 8 ≤ φ.at →
        FramesStand w.parts b.at (stored (kept_stores φ.at x y) m) as' (φ ∷ φs)
    by [] frames beside laid from to = absurd frames
    by (a ∷ as') frames beside laid from to =
        words_rewritten w.parts b.at (φ.at - 8) 8 m (stored (kept_stores φ.at x y) m) a as' φ φs φ.waits frames
        (laid, from, to, beside) (λ n v less e. absurd (cc (sym (free.waits n) ∙ e)))

-- ---- memory with these words

abbrev pub words_ground :
    (w : Surroundings) (p : Point) (signature : ℕ) → IsFrame (frame_under w.parts p.control.layers) → Ground
words_ground w p signature h =
    ground_at (frame_under w.parts p.control.layers) (upper_top w.parts p.control.layers) h
    (λ b m. StandsIn w p b m × (load 4 m (frame_under w.parts p.control.layers - 4) ≡ signature)
    × (load 4 m (frame_under w.parts p.control.layers - 8) ≡ 0))

kept_goes :
    (w : Surroundings) (p : Point) (φ : Layer) (φs : List Layer) (signature : ℕ) (b : Base) (m : List ℕ)
    (h : IsFrame (frame_under w.parts p.control.layers)) → Stands w p → IsFree p φ φs → signature < 2 ^ 32 →
    length m ≡ memory_size → StandsIn w p b m →
    (words_ground w p signature h).memory (λ i. 0) b
    (stored (kept_stores (frame_under w.parts p.control.layers) signature 0) m)
kept_goes w p φ φs signature b m h known free small' bytes stands =
    let at = frame_under w.parts p.control.layers in
    let same : at ≡ φ.at = ap (λ ls. frame_under w.parts ls) free.newest in
    let high = h.high in
    let room = h.room in
    let m' = store 4 m (at - 4) signature in
    let long = length-store 4 m (at - 4) signature in (
      subst (λ i. StandsIn w p b (stored (kept_stores i signature 0) m)) (sym same)
          (kept_stands w p φ φs signature 0 b m known (subst IsFrame same h) free bytes stands),
      load-store_other 4 4 m' (at - 8) 0 (at - 4) (inr (omega (arith, high)))
          ∙ load-store_same 4 m (at - 4) signature small' (omega (arith, room, bytes, high)),
      load-store_same 4 m' (at - 8) 0 (omega arith) (omega (arith, room, bytes, long, high)),
    )

pub kept_reaches :
    {w : Surroundings} {p : Point} {φ : Layer} {φs : List Layer} {links : Links} {code : List Instr} {numbers : ℕ → ℕ}
    {i : ℕ} (signature : ℕ) (h : IsFrame (frame_under w.parts p.control.layers)) → Stands w p → IsFree p φ φs →
    signature < 2 ^ 31 → (c : ℕ) (f : Family) → Linked links code i (amounts_code signature) →
    AreIn w p numbers i f →
    Reach code c f (services_of p) (c + size_of (amounts_code signature)) (services_of p)
    (λ b y. At b (i + size_of (amounts_code signature)) (Known (words_ground w p signature h) (services_of p) numbers
    (λ j. 0) nothing b) y)
kept_reaches {w} {p} {φ} {φs} {links} {code} {numbers} {i} signature h known free small' c f l there =
    let v = services_of p in
    let g = point_ground w p h in
    let one = small a1 0 ∷ [] in
    let num = number a0 signature in
    let n0 = size_append num kept_code in
    let l1 = back_of one (num ++ kept_code) l in
    let near = l.small' in
    let high = h.high in
    let r1 = straight c f v v (λ b y. Known g v numbers (λ j. 0) (λ b'. (11, 0) ∷ []) b y)
    (front_of one (num ++ kept_code) l) (omega arith) (λ b. (there b).at.pc)
    (λ b. let o = (known_in {t = λ j. 0} {rs = nothing} h (there b) tt).holds in record {
      body = record {
        services = o.body.services;
        registers = o.body.registers;
        bytes = o.body.bytes;
        memory = o.body.memory;
      };
      regs = (small_is _ 0 (zero_is o.body) (omega arith), tt);
    }) in
    let r2 = constant_piece (c + 1) (reached r1) a0 (pos signature) (word_fits signature small')
    (record { reserved_stay = λ y u. refl; known_stay = λ b y u o. o; set = λ y u. refl })
    (front_of num kept_code l1) (reached_holds r1) in
    let r3 = straight (c + 1 + size_of num) (reached r2) v v
    (λ b y. Known (words_ground w p signature h) v numbers (λ j. 0) nothing b y) (back_of num kept_code l1)
    (omega arith)
    (λ b. (reached_holds r2 b).pc)
    (λ b.
    let o = (reached_holds r2 b).holds in
    let x = (reached r2 b).machine.registers in
    let m = (reached r2 b).machine.memory in
    let at = frame_under w.parts p.control.layers in
    let frame = frame_is o.body in
    let ten = o.regs.0 ∙ word_is signature small' in
    let goes = kept_goes w p φ φs signature b m h known free (omega (arith, small')) o.body.bytes o.body.memory in (
      at_place b (first_word at h) (sum (x 8) (word (negsuc 3))) (ap (λ u. sum u (word (negsuc 3))) frame),
      omega (arith, near, high),
      (
        at_place b (second_word at h) (sum (x 8) (word (negsuc 7))) (ap (λ u. sum u (word (negsuc 7))) frame),
        omega (arith, near, high),
        record {
          body = record {
            services = o.body.services;
            registers = o.body.registers;
            bytes = length-store 4 (store 4 m (at - 4) (x 10)) (at - 8) (x 11) ∙ length-store 4 m (at - 4) (x 10)
                ∙ o.body.bytes;
            memory = subst (λ u. (words_ground w p signature h).memory (λ j. 0) b
                (store 4 (store 4 m (at - 4) u) (at - 8) (x 11))) (sym ten)
                (subst (λ u. (words_ground w p signature h).memory (λ j. 0) b
                (store 4 (store 4 m (at - 4) signature) (at - 8) u)) (sym o.regs.1.0) goes);
          };
          regs = tt;
        },
      ),
    )) in
    reach_moved (omega (arith, n0)) (omega (arith, n0)) (reach_then r1 (reach_then r2 r3))

-- ---- the frame's own places

own_word :
    (parts : MemoryParts) (base : ℕ) (m : List ℕ) (as' : List Activation) (φs : List Layer) →
    FramesStand parts base m as' φs → load 4 m (frame_under parts φs + 36) ≡ frame_under parts φs
own_word parts base m [] [] h = h.own
own_word parts base m [] (φ ∷ φs) h = absurd h
own_word parts base m (a ∷ as') [] h = absurd h
own_word parts base m (a ∷ as') (φ ∷ φs) h = h.0.own

offset_sum : (at n : ℕ) → at + n < 2 ^ 24 → sum at (word (pos n)) ≡ at + n
offset_sum at n few = omega (arith, ints, few)

-- whatever stands in memory besides
own_at :
    {links : Links} {code : List Instr} {i : ℕ} {g : Ground} {v : Services} {numbers : ℕ → ℕ}
    {rs : Base → List (ℕ × ℕ)} (c : ℕ) (f : Family) (r : Register) (place : ℕ) →
    PlaceOf g own_offset (g.frame + 36) →
    ((b : Base) (m : List ℕ) → g.memory (λ n. 0) b m → load 4 m (g.frame + 36) ≡ g.frame) →
    g.frame + place < 2 ^ 24 → IsNear r.index → Free rs r.index → Free rs 31 →
    Free (with' r.index (λ b. g.frame) rs) 31 → Linked links code i (own_code r place) →
    ((b : Base) → At b i (Known g v numbers (λ n. 0) rs b) (f b)) →
    Reach code c f v (c + size_of (own_code r place)) v
    (λ b y. At b (i + size_of (own_code r place)) (Known g v numbers (λ n. 0)
    (with' r.index (λ b'. g.frame + place) rs) b) y)
own_at {g = g} {v} {numbers} {rs} c f r place own reads few near free far far' l there =
    let at = g.frame in
    let first = load_word r frame_register own_offset in
    let second = plus r r (pos place) in
    let n = size_append first second in
    let r1 = load_piece c f r own_offset (at + 36) (λ b. at) own reads free far (front_of first second l) there in
    let r2 = displaced_by (is_immediate (pos place)) (c + size_of first) (reached r1)
    (λ q d. I.Immediate Imm.Add r q d) r (pos place) (λ b. at)
    (Known g v numbers (λ n'. 0) (with' r.index (λ b. at) rs))
    (Known g v numbers (λ n'. 0) (with' r.index (λ b. at + place) rs))
    (above_small place (omega (arith, few))) (λ b. omega (arith, few)) near
    (λ b. (reached_holds r1 b).holds.regs.0) (omega arith)
    (record {
      does = λ b j y q d o e.
          set_known y r.index (sum (y.machine.registers q.index) (word d)) _ (λ b'. at + place) free
          (e ∙ offset_sum at place few) (record { body = o.body; regs = o.regs.1 });
      lost = λ b y u j o. lose_known y 31 u j far' o;
    })
    (back_of first second l) (reached_holds r1) in
    reach_moved (omega (arith, n)) (omega (arith, n)) (reach_then r1 r2)

-- ---- what service 10 is given

abbrev pub given_code : (area pointer : ℕ) → Code
given_code area pointer =
    own_code a0 area
    ++ (load_word a1 frame_register (negsuc 3)
    ++ (load_word a2 frame_register (negsuc 7) ++ (small a3 0 ∷ (own_code a4 pointer ++ (small a7 10 ∷ [])))))

abbrev pub given_regs : (area signature pointer : ℕ) → Base → List (ℕ × ℕ)
given_regs area signature pointer b =
    (17, 10) ∷ (14, pointer) ∷ (13, 0) ∷ (12, 0) ∷ (11, signature) ∷ (10, area) ∷ []

pub given_reaches :
    {w : Surroundings} {p : Point} {links : Links} {code : List Instr} {numbers : ℕ → ℕ} {i : ℕ}
    (signature area pointer : ℕ) (h : IsFrame (frame_under w.parts p.control.layers)) →
    (frame_under w.parts p.control.layers + area < 2 ^ 24)
    × (frame_under w.parts p.control.layers + pointer < 2 ^ 24) → (c : ℕ) (f : Family) →
    Linked links code i (given_code area pointer) →
    ((b : Base) → At b i (Known (words_ground w p signature h) (services_of p) numbers (λ j. 0) nothing b) (f b)) →
    Reach code c f (services_of p) (c + size_of (given_code area pointer)) (services_of p)
    (λ b y. At b (i + size_of (given_code area pointer)) (Known (words_ground w p signature h) (services_of p) numbers
    (λ j. 0) (given_regs (frame_under w.parts p.control.layers + area) signature
    (frame_under w.parts p.control.layers + pointer)) b) y)
given_reaches {w} {p} {links} {code} {numbers} {i} signature area pointer h few c f l there =
    let v = services_of p in
    let g = words_ground w p signature h in
    let at = frame_under w.parts p.control.layers in
    let c1 = own_code a0 area in
    let c2 = load_word a1 frame_register (negsuc 3) in
    let c3 = load_word a2 frame_register (negsuc 7) in
    let c5 = own_code a4 pointer in
    let t5 = small a7 10 ∷ [] in
    let t4 = c5 ++ t5 in
    let t3 = small a3 0 ∷ t4 in
    let t2 = c3 ++ t3 in
    let t1 = c2 ++ t2 in
    let n1 = size_append c1 t1 in
    let n2 = size_append c2 t2 in
    let n3 = size_append c3 t3 in
    let n5 = size_append c5 t5 in
    let own = word_in at 36 h refl (omega arith) in
    let reads : (b : Base) (m : List ℕ) → g.memory (λ n. 0) b m → load 4 m (at + 36) ≡ at =
    λ b m o. own_word w.parts b.at m p.state.activations p.control.layers o.0.frames in
    let l1 = back_of c1 t1 l in
    let l2 = back_of c2 t2 l1 in
    let l3 = back_of c3 t3 l2 in
    let l4 = back_of (small a3 0 ∷ []) t4 l3 in
    let l5 = back_of c5 t5 l4 in
    let r1 = own_at {g = g} {rs = nothing} c f a0 area own reads few.0 (λ y u. refl)
    (record { reserved_stay = λ y u. refl; known_stay = λ b y u o. o; set = λ y u. refl })
    (record { reserved_stay = λ y u. refl; known_stay = λ b y u o. o; set = λ y u. refl })
    (record { reserved_stay = λ y u. refl; known_stay = λ b y u o. o; set = λ y u. refl }) (front_of c1 t1 l) there in
    let r2 = load_piece (c + size_of c1) (reached r1) a1 (negsuc 3) (at - 4) (λ b. signature) (first_word at h)
    (λ b m o. o.1)
    (record { reserved_stay = λ y u. refl; known_stay = λ b y u o. o; set = λ y u. refl })
    (record { reserved_stay = λ y u. refl; known_stay = λ b y u o. o; set = λ y u. refl }) (front_of c2 t2 l1)
    (reached_holds r1) in
    let r3 = load_piece (c + size_of c1 + size_of c2) (reached r2) a2 (negsuc 7) (at - 8) (λ b. 0) (second_word at h)
    (λ b m o. o.2)
    (record { reserved_stay = λ y u. refl; known_stay = λ b y u o. o; set = λ y u. refl })
    (record { reserved_stay = λ y u. refl; known_stay = λ b y u o. o; set = λ y u. refl }) (front_of c3 t3 l2)
    (reached_holds r2) in
    let r4 = straight (c + size_of c1 + size_of c2 + size_of c3) (reached r3) v v
    (λ b y. Known g v numbers (λ j. 0) (λ b'. (13, 0) ∷ (12, 0) ∷ (11, signature) ∷ (10, at + area) ∷ []) b y)
    (front_of (small a3 0 ∷ []) t4 l3) (omega arith) (λ b. (reached_holds r3 b).pc)
    (λ b. let o = (reached_holds r3 b).holds in record {
      body = record {
        services = o.body.services;
        registers = o.body.registers;
        bytes = o.body.bytes;
        memory = o.body.memory;
      };
      regs = (small_is _ 0 (zero_is o.body) (omega arith), o.regs);
    }) in
    let r5 = own_at {g = g} {rs = λ b'. (13, 0) ∷ (12, 0) ∷ (11, signature) ∷ (10, at + area) ∷ []}
    (c + size_of c1 + size_of c2 + size_of c3 + 1) (reached r4) a4 pointer own reads few.1 (λ y u. refl)
    (record { reserved_stay = λ y u. refl; known_stay = λ b y u o. o; set = λ y u. refl })
    (record { reserved_stay = λ y u. refl; known_stay = λ b y u o. o; set = λ y u. refl })
    (record { reserved_stay = λ y u. refl; known_stay = λ b y u o. o; set = λ y u. refl }) (front_of c5 t5 l4)
    (reached_holds r4) in
    let r6 = straight (c + size_of c1 + size_of c2 + size_of c3 + 1 + size_of c5) (reached r5) v v
    (λ b y. Known g v numbers (λ j. 0) (given_regs (at + area) signature (at + pointer)) b y) l5 (omega arith)
    (λ b. (reached_holds r5 b).pc)
    (λ b. let o = (reached_holds r5 b).holds in record {
      body = record {
        services = o.body.services;
        registers = o.body.registers;
        bytes = o.body.bytes;
        memory = o.body.memory;
      };
      regs = (small_is _ 10 (zero_is o.body) (omega arith), o.regs);
    }) in
    reach_moved (omega (arith, n1, n2, n3, n5)) (omega (arith, n1, n2, n3, n5))
    (reach_then r1 (reach_then r2 (reach_then r3 (reach_then r4 (reach_then r5 r6)))))
