-- A procedure begins that has a list of arguments: it keeps where that stands, by its address and by its offset.
use Rattle.std.proofs.Common.{◌≡◌, ℕ, ◌+◌, ◌*◌, ◌^◌, ◌<◌, ◌≤◌, List, [], ◌∷◌, ◌++◌, length, refl, sym, ap, ◌∙◌, subst}
use Rattle.std.proofs.Common.{arith}
use Rattle.std.specs.Prelude.{pos}
use Rattle.rv_meaning.specs.declared.instr.Instr.{Instr}
use Rattle.rv_meaning.specs.declared.instr.Instr.TheVariants as I
use Rattle.rv_meaning.specs.declared.instr.RegisterOp.TheVariants as Op
use Rattle.rv_meaning.specs.Machine.{memory_size}
use Rattle.rv_meaning.specs.Memory.{store}
use Rattle.rv_meaning.specs.Words.{operated, sum, word}
use Rattle.pli_serving.specs.Answers.{Done}
use Rattle.pli_serving.specs.Blocks as B
use Rattle.pli_coding.specs.Assembly.{CallTo, Code, Plain, ProcedureEntry, size_of}
use Rattle.pli_coding.specs.Linking.{place_of}
use Rattle.pli_coding.specs.Entries.{block_entered}
use Rattle.pli_coding.specs.Frames.{list_offset, list_place, own_offset}
use Rattle.pli_coding.specs.Instructions.{add, load_word, move, number, small, store_word, subtract}
use Rattle.pli_coding.specs.Registers.{a0, a1, a2, a3, a7, frame_register, u1, u5}
use Rattle.storage_relation.specs.Changes.{with_memory}
use Rattle.storage_relation.specs.Served.{Holds}
use Rattle.activation_relation.specs.Frames.{AreLaid, frame_bytes, frame_start, stored}
use Rattle.activation_relation.specs.Layers.{Point, now, services_of}
use Rattle.activation_relation.specs.Points.{Stands, Surroundings}
use Rattle.activation_relation.proofs.Blocks.{enter_answered}
use Rattle.activation_relation.proofs.FrameWords.{list_covered}
use Rattle.activation_relation.proofs.ListWords.{list_stored}
use Rattle.activation_relation.proofs.OwnPlaces.{clear_within, frame_clear, stores_hold}
use Rattle.run_steps.specs.Bodies.{Ground, Known}
use Rattle.run_steps.proofs.Bodies.{at_place, constant_piece, frame_is, store_piece, zero_is}
use Rattle.run_steps.specs.Calls.{Calling}
use Rattle.run_steps.proofs.Calls.{call_done, called}
use Rattle.run_steps.specs.Engine.{Base, address, most_code}
use Rattle.run_steps.specs.Items.{At, Linked}
use Rattle.run_steps.proofs.Items.{straight}
use Rattle.run_steps.proofs.Jumps.{back_of, call_piece, front_of}
use Rattle.run_steps.proofs.Linking.{size_append}
use Rattle.run_steps.specs.Reach.{Family, Reach, reached}
use Rattle.run_steps.proofs.Reach.{reach_map, reach_then, reached_holds}
use Rattle.run_steps.proofs.Reaching.{reach_moved}
use Rattle.block_runs.specs.Beginnings.{Beginning, IsCalled, begun_point}
use Rattle.block_runs.specs.Machines.{AreIn, IsImage, IsIn}
use Rattle.block_runs.proofs.BlockEntries.{Premises, begun_at, begun_stands, frame_stands, new_point_frame, small_is}
use Rattle.block_runs.proofs.BlockEntries.{word_fits, word_is}
use Rattle.block_runs.proofs.FrameBeginnings.{frame_code}
use Rattle.block_runs.proofs.Places.{IsFrame, bounds, ground_at, word_in}
use Rattle.block_runs.proofs.PointGrounds.{StandsIn, call_is, in_known, known_in, point_frame, point_ground}
use Rattle.argument_runs.specs.ListBeginnings.{IsListCall, IsListing, KeepsList, Listing, beginning_listed}
use Rattle.argument_runs.specs.ListBeginnings.{listed_code}

-- ---- what is premised

-- where the call stands, and where it goes
record ListStands (w : Surroundings) (code : List Instr) (x : Beginning) (call entry : ℕ) : Type 0 where
  calls : Linked w.links code call (CallTo (ProcedureEntry x.head.number) ∷ [])
  place : place_of w.links (ProcedureEntry x.head.number) ≡ 4 * entry
  back : x.layer.back ≡ call + 2
  inside : entry ≤ length code
  small' : length code ≤ most_code

premises :
    {w : Surroundings} {code : List Instr} {p : Point} {numbers : ℕ → ℕ} {x : Beginning} {list : ℕ} →
    Listing w code p numbers x list → Premises w code p numbers x
premises k = record { stands = k.stands; image = k.image; is = k.beginning }

-- its address, the frame's own place, and the number of texts
abbrev listing_regs : (list : ℕ) → Beginning → Base → List (ℕ × ℕ)
listing_regs list x b = (11, b.at + list) ∷ (30, b.at + list) ∷ (6, x.layer.at) ∷ (12, x.texts) ∷ []

-- ---- the two words

-- the first of them is stored
pub record HasAddress (w : Surroundings) (p : Point) (x : Beginning) (list : ℕ) (b : Base) (m : List ℕ) : Type 0 where
  pub first : List ℕ
  pub bytes : length first ≡ memory_size
  pub stands : StandsIn w (begun_point x p) b first
  pub is : m ≡ store 4 first (x.layer.at + list_place x.layer.level) (b.at + list)

abbrev address_ground : (w : Surroundings) (p : Point) (x : Beginning) (list : ℕ) → IsFrame x.layer.at → Ground
address_ground w p x list h = ground_at x.layer.at x.layer.top h (λ b m. HasAddress w p x list b m)

list_stands :
    {w : Surroundings} {code : List Instr} {p : Point} {numbers : ℕ → ℕ} {x : Beginning} {list : ℕ} (b : Base)
    (m : List ℕ) → Listing w code p numbers x list → HasAddress w p x list b m →
    StandsIn w (begun_point (beginning_listed list x) p) b (store 4 m (x.layer.at + 44) list)
list_stands {w} {p = p} {x = x} {list = list} b m k o =
    let q = begun_point x p in
    let known = begun_stands (premises k) in
    let φ = x.layer in
    let φs = p.control.layers in
    let laid : AreLaid w.parts (φ ∷ φs) = known.0.laid in
    let high = (bounds w.parts (φ ∷ φs) laid).high in
    let inside = known.1.parts.inside in
    let fixed = laid.0.fixed in
    let free = laid.0.free in
    let above = laid.0.above in
    let covered = list_covered φ.level φ.parameters k.some in
    let v = b.valid.1 in
    let below = k.below in
    let bytes = o.bytes in
    let place = φ.at + list_place φ.level in
    let xs = (place, b.at + list) ∷ (φ.at + 44, list) ∷ [] in
    subst (λ m'. StandsIn w (begun_point (beginning_listed list x) p) b (store 4 m' (φ.at + 44) list)) (sym o.is)
    (record {
      storage = same_now (stores_hold (now q o.first) φ.at (148 + 4 * φ.level) xs o.stands.storage
          (clear_within p.keeper p.places q.state (frame_start φ) (frame_bytes φ) φ.at (148 + 4 * φ.level)
          (frame_clear p.keeper p.places q.state w.parts φ φs known.0.owned laid) (omega (arith, above))
          (omega (arith, above, covered)))
          (omega (arith, covered, fixed, free, high, inside, bytes))
          ((omega arith, omega arith), ((omega arith, omega arith), tt)));
      frames = list_stored w.parts b.at list o.first _ p.state.activations φ φs o.stands.frames
          (laid, omega (arith, high, inside, bytes), k.some, omega (arith, below, fixed, free, high, inside, v));
    })
  where
    same_now : {m' : List ℕ} → Holds (with_memory m' (now (begun_point x p) o.first)) →
        Holds (now (begun_point (beginning_listed list x) p) m')
    same_now h =
        record {
          keeps = h.keeps;
          heap = record { at = h.heap.at; capacity = h.heap.capacity };
          lives = record { falling = h.lives.falling; numbered = h.lives.numbered; extents = h.lives.extents };
          stored = h.stored;
          distinct = h.distinct;
        }

-- ---- the code that keeps the list

abbrev kept_regs : (list : ℕ) → Beginning → Base → List (ℕ × ℕ)
kept_regs list x b = (11, list) ∷ (30, b.at + list) ∷ (6, x.layer.at) ∷ (12, x.texts) ∷ []

offset_is : (b : Base) (at list x y : ℕ) → IsFrame at → list ≤ at → x ≡ b.at + list → y ≡ b.at + at →
    sum (operated Op.Subtract x y) at ≡ list
offset_is b at list x y h low e f = let room = h.room in let v = b.valid.1 in omega (arith, e, f, low, room, v)

list_moved : (b : Base) (list x : ℕ) → list < 2 ^ 24 → x ≡ b.at + list → sum x (word (pos 0)) ≡ b.at + list
list_moved b list x few e = let v = b.valid.1 in omega (arith, e, few, v)

abbrev list_code : (level : ℕ) → Code
list_code level =
    store_word frame_register a1 (pos (list_place level))
    ++ (subtract a1 a1 frame_register ∷ add a1 a1 u1 ∷ store_word frame_register a1 list_offset)

list_kept_comes :
    {w : Surroundings} {code : List Instr} {p : Point} {numbers : ℕ → ℕ} {x : Beginning} {list i : ℕ} (c : ℕ)
    (g : Family) (k : Listing w code p numbers x list) (h : IsFrame x.layer.at) →
    Linked w.links code i (list_code x.layer.level) →
    ((b : Base) → At b i (Known (point_ground w (begun_point x p) h) (services_of p) numbers (λ n. 0)
    (listing_regs list x) b) (g b)) →
    Reach code c g (services_of p) (c + size_of (list_code x.layer.level)) (services_of p)
    (λ b y. At b (i + size_of (list_code x.layer.level))
    (Known (point_ground w (begun_point (beginning_listed list x) p) h) (services_of p) numbers (λ n. 0)
    (kept_regs list x) b) y)
list_kept_comes {w} {code} {p} {numbers} {x} {list} c g k h l there =
    let v = services_of p in
    let level = x.layer.level in
    let first = store_word frame_register a1 (pos (list_place level)) in
    let two = subtract a1 a1 frame_register ∷ add a1 a1 u1 ∷ [] in
    let last = store_word frame_register a1 list_offset in
    let l1 = back_of first (two ++ last) l in
    let n0 = size_append first (two ++ last) in
    let few = k.beginning.level in
    let below = k.below in
    let g1 = address_ground w p x list h in
    let g2 = point_ground w (begun_point (beginning_listed list x) p) h in
    let r1 = store_piece g1 {h = numbers} {t = λ n. 0} (λ n. 0) c g a1 (pos (list_place level))
    (x.layer.at + list_place level) (λ b. b.at + list)
    (word_in x.layer.at (list_place level) h (omega arith) (omega (arith, few))) (λ y u. refl)
    (λ b y o. o.regs.0) (λ b. refl)
    (λ b m bytes stands. record { first = m; bytes = bytes; stands = stands; is = refl })
    (record { reserved_stay = λ y u. refl; known_stay = λ b y u o. o; set = λ y u. refl })
    (front_of first (two ++ last) l) there in
    let r2 = straight (c + size_of first) (reached r1) v v
    (λ b y. Known g1 v numbers (λ n. 0) (kept_regs list x) b y) (front_of two last l1) (omega arith)
    (λ b. (reached_holds r1 b).pc)
    (λ b. let o = (reached_holds r1 b).holds in
    let y = (reached r1 b).machine.registers in record {
      body = record {
        services = o.body.services;
        registers = o.body.registers;
        bytes = o.body.bytes;
        memory = o.body.memory;
      };
      regs = (
        ap (λ n. sum (operated Op.Subtract (y 11) (y 8)) n) o.regs.1.1.0
            ∙ offset_is b x.layer.at list (y 11) (y 8) h below o.regs.0 (frame_is o.body),
        o.regs.1,
      );
    }) in
    let r3 = store_piece g2 {h = numbers} {t = λ n. 0} (λ n. 0) (c + size_of first + 2) (reached r2)
    a1 list_offset (x.layer.at + 44) (λ b. list)
    (word_in x.layer.at 44 h refl (omega arith)) (λ y u. refl)
    (λ b y o. o.regs.0) (λ b. refl)
    (λ b m bytes o. list_stands b m k o)
    (record { reserved_stay = λ y u. refl; known_stay = λ b y u o. o; set = λ y u. refl })
    (back_of two last l1) (reached_holds r2) in
    reach_moved (omega (arith, n0)) (omega (arith, n0)) (reach_then r1 (reach_then r2 r3))

-- ---- the entry of the block

abbrev enter_front : Code
enter_front = move a3 a2 ∷ (load_word a1 frame_register own_offset ++ small a0 0 ∷ [])

abbrev enter_regs : (list : ℕ) → Beginning → Base → List (ℕ × ℕ)
enter_regs list x b = (10, 0) ∷ (11, x.layer.at) ∷ (13, x.texts) ∷ (30, b.at + list) ∷ []

abbrev asked_regs : (list : ℕ) → Beginning → Base → List (ℕ × ℕ)
asked_regs list x b = (17, 4) ∷ (12, x.head.line) ∷ enter_regs list x b

texts_moved : (x n : ℕ) → x ≡ n → n < 2 ^ 32 → sum x (word (pos 0)) ≡ n
texts_moved x n e few = omega (arith, e, few)

entered_comes :
    {w : Surroundings} {code : List Instr} {p : Point} {numbers : ℕ → ℕ} {x : Beginning} {list i : ℕ} (c : ℕ)
    (g : Family) (k : Listing w code p numbers x list) (h : IsFrame x.layer.at) →
    Linked w.links code i (move a3 a2 ∷ block_entered 0 x.head.line) →
    ((b : Base) → At b i (Known (point_ground w (begun_point (beginning_listed list x) p) h) (services_of p) numbers
    (λ n. 0) (kept_regs list x) b) (g b)) →
    Reach code c g (services_of p) (c + size_of (move a3 a2 ∷ block_entered 0 x.head.line))
    (services_of (begun_point (beginning_listed list x) p))
    (λ b y. At b (i + size_of (move a3 a2 ∷ block_entered 0 x.head.line))
    (Known (point_ground w (begun_point (beginning_listed list x) p) h)
    (services_of (begun_point (beginning_listed list x) p)) numbers (λ n. 0) (λ b'. (30, b'.at + list) ∷ []) b) y)
entered_comes {w} {code} {p} {numbers} {x} {list} {i} c g k h l there =
    let q = begun_point (beginning_listed list x) p in
    let ground = point_ground w q h in
    let v = services_of p in
    let v' = services_of q in
    let is = k.beginning in
    let line = number a2 x.head.line in
    let one = small a7 4 ∷ [] in
    let last = Plain I.Ecall ∷ [] in
    let l1 = back_of enter_front (line ++ (one ++ last)) l in
    let l2 = back_of line (one ++ last) l1 in
    let n1 = size_append line (one ++ last) in
    let r1 = straight c g v v (λ b y. Known ground v numbers (λ n. 0) (enter_regs list x) b y)
    (front_of enter_front (line ++ (one ++ last)) l) (omega arith) (λ b. (there b).pc)
    (λ b.
    let o = (there b).holds in
    let y = (g b).machine.registers in (
      at_place b (word_in x.layer.at 36 h refl (omega arith)) (sum (y 8) (word (pos 36)))
          (ap (λ u. sum u (word (pos 36))) (frame_is o.body)),
      record {
        body = record {
          services = o.body.services;
          registers = o.body.registers;
          bytes = o.body.bytes;
          memory = o.body.memory;
        };
        regs = (
          small_is (y 0) 0 (zero_is o.body) (omega arith),
          (o.body.memory.frames.0.own, (texts_moved (y 12) x.texts o.regs.1.1.1.0 is.few, (o.regs.1.0, tt))),
        );
      },
    )) in
    let r2 = constant_piece (c + size_of enter_front) (reached r1) a2 (pos x.head.line) (word_fits x.head.line is.line)
    (record { reserved_stay = λ y u. refl; known_stay = λ b y u o. o; set = λ y u. refl })
    (front_of line (one ++ last) l1) (reached_holds r1) in
    let r3 = straight (c + size_of enter_front + size_of line) (reached r2) v v
    (λ b y. Known ground v numbers (λ n. 0) (asked_regs list x) b y)
    (front_of one last l2) (omega arith) (λ b. (reached_holds r2 b).pc)
    (λ b. let o = (reached_holds r2 b).holds in record {
      body = record {
        services = o.body.services;
        registers = o.body.registers;
        bytes = o.body.bytes;
        memory = o.body.memory;
      };
      regs = (small_is _ 4 (zero_is o.body) (omega arith), (o.regs.0 ∙ word_is x.head.line is.line, o.regs.1));
    }) in
    let g3 = reached r3 in
    let calling :
    Calling w.links code (i + size_of enter_front + size_of line + 1) g3
    (λ b. Done v' (g3 b).machine.memory 0 x.layer.at) =
    record {
      linked = back_of one last l2;
      pc = λ b. (reached_holds r3 b).pc;
      answers = λ b.
          let o = (reached_holds r3 b).holds in
          let m = (g3 b).machine.memory in
          called code (g3 b) v 4 0 x.layer.at x.head.line x.texts _
          (λ call x0 x1 x2 x3 x4. B.enter_served call x0 x1 x2 x3)
          o.body.services o.regs.0 o.regs.1.1.0 o.regs.1.1.1.0 o.regs.1.0 o.regs.1.1.1.1.0 refl (λ call y. refl)
          ∙ ap (λ call. B.enter_served call 0 x.layer.at x.head.line x.texts) (call_is w code p m k.image)
          ∙ enter_answered w.units p m x.head x.entry x.layer 0 x.texts x.head.line k.stands.active
          is.entering is.shallow;
    } in
    let r4 = call_done (c + size_of enter_front + size_of line + 1) g3 v v' (λ b. (g3 b).machine.memory) (λ b. 0)
    (λ b. x.layer.at) (λ b. Known ground v' numbers (λ n. 0) (λ b'. (30, b'.at + list) ∷ []) b) (omega arith) calling
    (λ b. let o = (reached_holds r3 b).holds in
    record {
      body = record {
        services = refl;
        registers = o.body.registers;
        bytes = o.body.bytes;
        memory = o.body.memory;
      };
      regs = (o.regs.1.1.1.1.1.0, tt);
    }) in
    reach_moved (omega (arith, n1)) (omega (arith, n1)) (reach_then r1 (reach_then r2 (reach_then r3 r4)))

-- ---- from the call

abbrev calling_regs : Beginning → (list : ℕ) → Family → Base → List (ℕ × ℕ)
calling_regs x list f b = (10, (f b).machine.registers 10) ∷ (11, b.at + list) ∷ (12, x.texts) ∷ []

call_jumps :
    {w : Surroundings} {code : List Instr} {p : Point} {numbers : ℕ → ℕ} {x : Beginning} {list : ℕ} (c call entry : ℕ)
    (f : Family) (k : Listing w code p numbers x list) → ListStands w code x call entry → AreIn w p numbers call f →
    ((b : Base) → IsListing p x list b (f b)) →
    Reach code c f (services_of p) (c + 2) (services_of p)
    (λ b y. IsIn w p numbers entry b y × IsCalled p x b y × (y.machine.registers 11 ≡ b.at + list))
call_jumps {w} {p = p} {x = x} {list = list} c call entry f k s there gives =
    let inside = s.inside in
    let small' = s.small' in
    let h = point_frame k.stands k.image in
    let r = call_piece {t = λ n. 0} {rs = calling_regs x list f} c (c + 2) f (ProcedureEntry x.head.number) entry
    (omega arith) s.place (omega (arith, inside, small'))
    (record { reserved_stay = λ y u. refl; known_stay = λ b y u o. o; set = λ y u. refl }) s.calls
    (λ b. known_in h (there b) (refl, ((gives b).address, ((gives b).calling.texts, tt)))) in
    reach_map _ r
    (λ b y o. (
      in_known h k.image.parts o,
      record {
        calling = record {
          parent = λ some. o.holds.regs.1.0 ∙ (gives b).calling.parent some;
          texts = o.holds.regs.1.1.1.0;
        };
        return = o.holds.regs.0 ∙ ap (address b) (sym s.back);
      },
      o.holds.regs.1.1.0,
    ))

pub list_begins :
    {w : Surroundings} {code : List Instr} {p : Point} {numbers : ℕ → ℕ} {x : Beginning} {list call entry : ℕ}
    {parameters : List ℕ} (credits : ℕ) (f : Family) → Listing w code p numbers x list →
    IsListCall w code x parameters call entry → AreIn w p numbers call f → ((b : Base) → IsListing p x list b (f b)) →
    Reach code credits f (services_of p) (credits + 2 + size_of (listed_code x parameters))
    (services_of (begun_point (beginning_listed list x) p))
    (λ b y. IsIn w (begun_point (beginning_listed list x) p) numbers (entry + size_of (listed_code x parameters)) b y
    × KeepsList list b y)
list_begins {parameters = []} c f k s there gives = absurd s.some
list_begins {w} {code} {p} {numbers} {x} {list} {call} {entry} {parameters = n ∷ ns} c f k s there gives =
    let first = frame_code (begun_at w p x f) in
    let keeps = list_code x.layer.level in
    let last = move a3 a2 ∷ block_entered 0 x.head.line in
    let one = move u5 a1 ∷ [] in
    let l = s.begins in
    let l1 = back_of first (one ++ (keeps ++ last)) l in
    let l2 = back_of one (keeps ++ last) l1 in
    let n0 = size_append first (one ++ (keeps ++ last)) in
    let n1 = size_append keeps last in
    let v = services_of p in
    let small' = s.begins.small' in
    let inside = s.begins.inside in
    let r0 = call_jumps c call entry f k
    (record {
      calls = s.calls;
      place = s.place;
      back = s.back;
      inside = omega (arith, inside);
      small' = small';
    }) there gives in
    let g = reached r0 in
    let called' : (b : Base) → IsCalled p x b (g b) = λ b. (reached_holds r0 b).1 in
    let h = new_point_frame g (premises k) called' in
    let listed_at : (b : Base) → (g b).machine.registers 11 ≡ b.at + list = λ b. (reached_holds r0 b).2 in
    let few = h.room in
    let below = k.below in
    let r1 = frame_stands (c + 2) entry g (premises k) called' (front_of first (one ++ (keeps ++ last)) l)
    (λ b. (reached_holds r0 b).0) in
    let r2 = straight (c + 2 + size_of first) (reached r1) v v
    (λ b y. Known (point_ground w (begun_point x p) h) v numbers (λ n'. 0) (listing_regs list x) b y)
    (front_of one (keeps ++ last) l1) (omega arith) (λ b. (reached_holds r1 b).pc)
    (λ b. let o = (reached_holds r1 b).holds in record {
      body = record {
        services = o.body.services;
        registers = o.body.registers;
        bytes = o.body.bytes;
        memory = o.body.memory;
      };
      regs = (
        o.regs.1.1.1.0 ∙ listed_at b,
        (
          list_moved b list _ (omega (arith, few, below)) (o.regs.1.1.1.0 ∙ listed_at b),
          (o.regs.0, (o.regs.1.1.1.1.0, tt)),
        ),
      );
    }) in
    let r3 = list_kept_comes (c + 2 + size_of first + 1) (reached r2) k h (front_of keeps last l2) (reached_holds r2) in
    let r4 = entered_comes (c + 2 + size_of first + 1 + size_of keeps) (reached r3) k h (back_of keeps last l2)
    (reached_holds r3) in
    reach_map _ (reach_moved (omega (arith, n0, n1)) (omega (arith, n0, n1))
    (reach_then r0 (reach_then r1 (reach_then r2 (reach_then r3 r4)))))
    (λ b y o. (in_known h k.image.parts o, o.holds.regs.0))

-- and what holds at the point
pub listed_stands :
    {w : Surroundings} {code : List Instr} {p : Point} {numbers : ℕ → ℕ} {x : Beginning} {list : ℕ} →
    Listing w code p numbers x list →
    Stands w (begun_point (beginning_listed list x) p) × IsImage w code (begun_point (beginning_listed list x) p)
listed_stands {w} {code} {p} {x = x} {list = list} k =
    let known = begun_stands (premises k) in
    let a = known.0.active in
    let laid = known.0.laid in (
      record {
        active = (
          record {
            height = a.0.height;
            level = a.0.level;
            runs = a.0.runs;
            units = a.0.units;
            parent = a.0.parent;
          },
          a.1,
        );
        laid = (
          record {
            above = laid.0.above;
            fixed = laid.0.fixed;
            falls = laid.0.falls;
            free = laid.0.free;
            saved = laid.0.saved;
            told = laid.0.told;
          },
          laid.1,
        );
        low = known.0.low;
        lives = known.0.lives;
        owned = record {
          living = known.0.owned.living;
          heap = known.0.owned.heap;
          constants = known.0.owned.constants;
        };
        over = known.0.over;
        running = known.0.running;
        allowed = known.0.allowed;
      },
      record {
        keeper = known.1.keeper;
        layout = known.1.layout;
        parts = known.1.parts;
        even = known.1.even;
      },
    )
