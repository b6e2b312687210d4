-- The block of ERROR's unit is entered from a machine whose return register is told nothing of: where the unit goes
-- back services keep, and its frame isn't told of it.
use Rattle.std.proofs.Common.{◌≡◌, ℕ, ◌+◌, ◌*◌, ◌^◌, ◌<◌, ◌≤◌, List, [], ◌∷◌, ◌++◌, length, Bool, refl, sym, ap}
use Rattle.std.proofs.Common.{◌∙◌, subst}
use Rattle.std.proofs.Common.{◌-◌, append_assoc, arith}
use Rattle.std.specs.Prelude.{pos}
use Rattle.rv_meaning.specs.declared.instr.Instr.{Instr}
use Rattle.rv_meaning.specs.declared.instr.Instr.TheVariants as I
use Rattle.rv_meaning.proofs.MemoryLaws.{length-store}
use Rattle.rv_meaning.specs.Machine.{memory_size, value}
use Rattle.rv_meaning.specs.Memory.{store}
use Rattle.rv_meaning.specs.Words.{word, sum}
use Rattle.image_runs.specs.Runs.{Whole}
use Rattle.pli_serving.specs.ServiceState as S
use Rattle.pli_serving.specs.Answers.{Done}
use Rattle.pli_serving.specs.Blocks as B
use Rattle.pli_coding.specs.Assembly.{Plain, size_of}
use Rattle.pli_coding.specs.Instructions.{number, small}
use Rattle.pli_coding.specs.Registers.{a0, a2, a7}
use Rattle.pli_coding.specs.Frames.{return_address}
use Rattle.storage_relation.specs.Stored.{IsClear}
use Rattle.storage_relation.proofs.Making.{same_held}
use Rattle.activation_relation.specs.Chains.{HasParent, frame_at}
use Rattle.activation_relation.specs.FrameLaws.{AreWords}
use Rattle.activation_relation.specs.Frames.{FramesStand, GoesBack, IsLaid, Stores, frame_stores, frame_under}
use Rattle.activation_relation.specs.Frames.{lower_end}
use Rattle.activation_relation.specs.Frames.{place_from, stored, upper_top, words_from}
use Rattle.activation_relation.specs.Owned.{AreWithin}
use Rattle.activation_relation.specs.Layers.{Layer, Point, now, services_of}
use Rattle.activation_relation.specs.Points.{Surroundings}
use Rattle.activation_relation.proofs.Blocks.{enter_answered}
use Rattle.activation_relation.proofs.OwnPlaces.{clear_within, free_clear, stores_hold}
use Rattle.activation_relation.proofs.PointSteps.{entered_memory}
use Rattle.activation_relation.proofs.StoredWords.{within_run}
use Rattle.run_steps.specs.Bodies.{Known, reserved, reserved_are}
use Rattle.run_steps.proofs.Bodies.{at_place, constant_piece, frame_is, zero_is}
use Rattle.run_steps.specs.Calls.{Calling}
use Rattle.run_steps.proofs.Calls.{call_done, called}
use Rattle.run_steps.specs.Engine.{Base, address}
use Rattle.run_steps.specs.Items.{At, Linked}
use Rattle.run_steps.proofs.Items.{straight}
use Rattle.run_steps.proofs.Jumps.{back_of, front_of}
use Rattle.run_steps.proofs.Linking.{size_append}
use Rattle.run_steps.specs.Reach.{Family, Reach, reached}
use Rattle.run_steps.proofs.Reach.{reach_map, reach_then, reached_holds}
use Rattle.run_steps.proofs.Reaching.{reach_moved}
use Rattle.run_steps.specs.Temporaries.{nothing}
use Rattle.block_runs.specs.Beginnings.{Beginning, begun_point}
use Rattle.block_runs.specs.Machines.{IsIn}
use Rattle.block_runs.proofs.BlockEntries.{small_is, word_fits, word_is}
use Rattle.block_runs.proofs.FrameBeginnings.{Begun, IsBegun, all_stored, all_words, frame_code, frame_made}
use Rattle.block_runs.proofs.FrameBeginnings.{new_display, new_frame, outside, own_regs, regs_of}
use Rattle.block_runs.proofs.Places.{IsFrame, bounds, word_in}
use Rattle.block_runs.proofs.PointGrounds.{StandsIn, call_is, in_known, point_ground, registers_in}
use Rattle.block_runs.proofs.StoredGrounds.{StoredOver, frames_over, making_ground}
use Rattle.unit_runs.specs.UnitBeginnings.{IsAtUnit, unit_beginning_code}
use Rattle.unit_runs.proofs.UnitEntries.{Premises, PremisesAt, enter_front, enter_regs}

-- ---- its frame

-- a machine at its first instruction: in a0 the frame of the block that established it
pub record IsAtError (p : Point) (x : Beginning) (b : Base) (y : Whole) : Type 0 where
  pub parent : value y.machine a0 ≡ b.at + frame_at p.control.layers x.entry.parent

abbrev pub error_begun : (w : Surroundings) (p : Point) (x : Beginning) → Family → Begun
error_begun w p x f =
    record {
      surroundings = w;
      point = p;
      layer = x.layer;
      parent = x.entry.parent;
      texts = λ b. (f b).machine.registers 12;
      list = λ b. (f b).machine.registers 11;
      given = λ b. (f b).machine.registers 10;
      return = λ b. (f b).machine.registers 1;
      first = λ b. (x.layer.at + 0, (f b).machine.registers 1)
          ∷ words_from (x.layer.at + 8) x.layer.held 0 x.layer.saved;
    }

pub is_begun :
    {may : Bool} {w : Surroundings} {code : List Instr} {p : Point} {numbers : ℕ → ℕ} {x : Beginning} (f : Family) →
    PremisesAt may w code p numbers x → ((b : Base) → IsAtError p x b (f b)) → IsBegun (error_begun w p x f)
is_begun {p = p} {x = x} f q at =
    record {
      active = q.stands.active;
      laid = (q.is.next.laid, q.stands.laid);
      parts = q.image.parts;
      even = q.image.even;
      level = q.is.level;
      has = subst (λ n. HasParent n x.entry.parent p.state.activations)
          (sym q.is.next.layer.level) q.is.next.layer.parent;
      parent = λ b some. (at b).parent;
      lower = q.is.lower;
      top = q.is.top;
      within = λ b.
          let most : x.layer.saved ≤ 7 = q.is.next.laid.saved in (
            (omega arith, omega arith),
            within_run x.layer.at (144 + 4 * x.layer.level) (x.layer.at + 8) x.layer.held 0 x.layer.saved (omega arith)
                (omega (arith, most)),
          );
    }

are_words :
    {may : Bool} {w : Surroundings} {code : List Instr} {p : Point} {numbers : ℕ → ℕ} {x : Beginning} →
    PremisesAt may w code p numbers x → (b : Base) → AreWords b.at x.layer
are_words {w = w} {p = p} {x = x} q b =
    let o = bounds w.parts p.control.layers q.stands.laid in
    let v = b.valid.1 in
    let back = q.is.back in
    let high = o.high in
    let last = q.image.parts.inside in
    let lower = q.is.lower in
    record {
      back = omega (arith, v, back);
      held = λ n less. subst (λ h. h n < 2 ^ 32) (sym q.is.held) (q.is.words n less);
      base_fits = omega (arith, v, high, last, lower);
    }

pub error_frame :
    {may : Bool} {w : Surroundings} {code : List Instr} {p : Point} {numbers : ℕ → ℕ} {x : Beginning} (f : Family) →
    PremisesAt may w code p numbers x → ((b : Base) → IsAtError p x b (f b)) →
    IsFrame (frame_under w.parts (begun_point x p).control.layers)
error_frame {w = w} {p = p} {x = x} f q at = new_frame (error_begun w p x f) (is_begun f q at)

-- ---- memory at the new point

-- the words that are stored, one of which nothing is told of, and those that a begin block would have
joined :
    (w d : Stores) (r b l o : ℕ × ℕ) →
    ((((r ∷ w) ++ (b ∷ [])) ++ (l ∷ [])) ++ d) ++ (o ∷ []) ≡ r ∷ (w ++ (b ∷ l ∷ (d ++ (o ∷ []))))
joined w d r b l o =
    append_assoc (((r ∷ w) ++ (b ∷ [])) ++ (l ∷ [])) d (o ∷ [])
    ∙ append_assoc ((r ∷ w) ++ (b ∷ [])) (l ∷ []) (d ++ (o ∷ []))
    ∙ append_assoc (r ∷ w) (b ∷ []) (l ∷ (d ++ (o ∷ [])))

abbrev bare : Layer → Layer
bare φ = record φ { kind = S.BeginBlock }

error_stored :
    (w : Surroundings) (p : Point) (x : Beginning) (f : Family) (b : Base) →
    all_words (error_begun w p x f) b
    ≡ (x.layer.at + 0, (f b).machine.registers 1)
    ∷ frame_stores w.parts b.at x.entry.parent p.state.activations (bare x.layer) p.control.layers
error_stored w p x f b =
    let k = error_begun w p x f in
    let below : ℕ × ℕ = (x.layer.at + 4, b.at + frame_under w.parts p.control.layers) in
    let lower : ℕ × ℕ = (x.layer.at + 40, x.layer.lower) in
    let own : ℕ × ℕ = (x.layer.at + 36, x.layer.at) in
    joined (words_from (x.layer.at + 8) x.layer.held 0 x.layer.saved) (new_display k b)
    (x.layer.at + 0, (f b).machine.registers 1) below lower own

-- a word where the frame will stand leaves all as it was
word_stood :
    {may : Bool} {w : Surroundings} {code : List Instr} {p : Point} {numbers : ℕ → ℕ} {x : Beginning} →
    PremisesAt may w code p numbers x → (b : Base) (m : List ℕ) (v : ℕ) → StandsIn w p b m →
    x.layer.lower ≤ length m → length m ≡ memory_size → StandsIn w p b (store 4 m (x.layer.at + 0) v)
word_stood {w = w} {p = p} {x = x} q b m v stand room bytes =
    let φ = x.layer in
    let φs = p.control.layers in
    let laid = q.is.next.laid in
    let fixed = laid.fixed in
    let free = laid.free in
    let above = laid.above in
    let falls = laid.falls in
    let words : Stores = (φ.at + 0, v) ∷ [] in
    let within : AreWithin φ.at 4 words = ((omega arith, omega arith), tt) in
    let clear : IsClear p.keeper p.places p.state φ.at 4 =
    clear_within p.keeper p.places p.state (upper_top w.parts φs) (lower_end w.parts φs - upper_top w.parts φs) φ.at 4
    (free_clear p.keeper p.places p.state w.parts φs q.stands.owned q.stands.laid) (omega (arith, above))
    (omega (arith, fixed, free, falls, above)) in
    record {
      storage = stores_hold (now p m) φ.at 4 words stand.storage clear (omega (arith, fixed, free, room)) within;
      frames = frames_over w p words b (store 4 m (φ.at + 0) v) φ.at 4 q.stands.laid (omega (arith, above)) within
          (record { first = m; bytes = bytes; storage = stand.storage; frames = stand.frames; is = refl });
    }

memory_new :
    {may : Bool} {w : Surroundings} {code : List Instr} {p : Point} {numbers : ℕ → ℕ} {x : Beginning} (f : Family) →
    PremisesAt may w code p numbers x → (b : Base) (m : List ℕ) →
    StoredOver w p (all_words (error_begun w p x f) b) b m → StandsIn w (begun_point x p) b m
memory_new {w = w} {p = p} {x = x} f q b m o =
    let φ = bare x.layer in
    let first = store 4 o.first (x.layer.at + 0) ((f b).machine.registers 1) in
    let new = stored (frame_stores w.parts b.at x.entry.parent p.state.activations φ p.control.layers) first in
    let e : m ≡ new =
    o.is ∙ ap (λ xs. stored xs o.first) (error_stored w p x f b) in
    let high = (bounds w.parts p.control.layers q.stands.laid).high in
    let last = q.image.parts.inside in
    let lower = q.is.lower in
    let bytes = o.bytes in
    let before' = word_stood q b o.first ((f b).machine.registers 1)
    (record { storage = o.storage; frames = o.frames }) (omega (arith, high, last, lower, bytes)) o.bytes in
    let laid = q.is.next.laid in
    let words = are_words q b in
    let long : length first ≡ length o.first = length-store 4 o.first (x.layer.at + 0) ((f b).machine.registers 1) in
    let r = entered_memory w p b.at first x.head x.entry φ x.head.line (q.stands, before'.storage, before'.frames) (
      record {
        above = laid.above;
        fixed = laid.fixed;
        falls = laid.falls;
        free = laid.free;
        saved = laid.saved;
        told = laid.told;
      },
      record { back = words.back; held = words.held; base_fits = words.base_fits },
      omega (arith, high, last, lower, bytes, long),
      q.is.waits,
      q.is.list,
      q.is.told,
    ) in
    let s = r.0 in
    let g = r.1.0 in
    subst (StandsIn w (begun_point x p) b) (sym e) (record {
      storage = record {
        keeps = s.keeps;
        heap = record { at = s.heap.at; capacity = s.heap.capacity };
        lives = record { falling = s.lives.falling; numbered = s.lives.numbered; extents = s.lives.extents };
        stored = same_held p.keeper p.places (begun_point x p).state (begun_point x p).state new refl refl s.stored;
        distinct = s.distinct;
      };
      frames = (
        record {
          back = subst (λ k. GoesBack k b.at x.layer.back (place_from x.layer.at return_address) new)
              (sym q.is.kind) tt;
          below = g.below;
          saved = g.saved;
          own = g.own;
          lower = g.lower;
          display_words = g.display_words;
          waits = g.waits;
          told = g.told;
          list = g.list;
        },
        r.1.1,
      );
    })

-- ---- the frame is made

frame_stands :
    {may : Bool} {w : Surroundings} {code : List Instr} {p : Point} {numbers : ℕ → ℕ} {x : Beginning}
    (c index : ℕ) (f : Family)
    (q : PremisesAt may w code p numbers x) (at : (b : Base) → IsAtError p x b (f b)) →
    Linked w.links code index (frame_code (error_begun w p x f)) → ((b : Base) → IsIn w p numbers index b (f b)) →
    Reach code c f (services_of p) (c + size_of (frame_code (error_begun w p x f))) (services_of p)
    (λ b y. At b (index + size_of (frame_code (error_begun w p x f)))
    (Known (point_ground w (begun_point x p) (error_frame f q at)) (services_of p) numbers (λ n. 0) nothing b) y)
frame_stands {w = w} {p = p} {numbers = numbers} {x = x} c index f q at l there =
    let k = error_begun w p x f in
    let h = is_begun f q at in
    let r = frame_made k h {t = λ n. 0} c f (λ b. refl) l
    (λ b. record {
      pc = (there b).at.pc;
      holds = record {
        body = record {
          services = (there b).services;
          registers = registers_in (making_ground (outside k h) (λ b'. [])) refl refl
              (subst (λ n. IsIn w p n index b (f b)) (sym q.is.held) (there b));
          bytes = (there b).bytes;
          memory = record {
            first = (f b).machine.memory;
            bytes = (there b).bytes;
            storage = (there b).at.storage;
            frames = (there b).at.frames;
            is = refl;
          };
        };
        regs = (refl, (refl, (refl, (refl, tt))));
      };
    }) in
    reach_map _ r
    (λ b y o. record {
      pc = o.pc;
      holds = record {
        body = record {
          services = o.holds.body.services;
          registers = subst (λ n. reserved y.machine.registers ≡ reserved_are b
              (point_ground w (begun_point x p) (error_frame f q at)) n) q.is.held o.holds.body.registers;
          bytes = o.holds.body.bytes;
          memory = memory_new f q b y.machine.memory o.holds.body.memory;
        };
        regs = tt;
      };
    })

-- ---- the call of service 4

-- the register of the frame's own place, the kind and the texts
front_comes :
    {may : Bool} {w : Surroundings} {code : List Instr} {p : Point} {numbers : ℕ → ℕ} {x : Beginning}
    {i : ℕ} (c : ℕ) (f g : Family) (q : PremisesAt may w code p numbers x) (at : (b : Base) → IsAtError p x b (f b)) →
    Linked w.links code i enter_front →
    ((b : Base) → At b i (Known (point_ground w (begun_point x p) (error_frame f q at)) (services_of p) numbers
    (λ n. 0) nothing b) (g b)) →
    Reach code c g (services_of p) (c + 3) (services_of p)
    (λ b y. At b (i + 3) (Known (point_ground w (begun_point x p) (error_frame f q at)) (services_of p) numbers
    (λ n. 0) (enter_regs x.layer.at) b) y)
front_comes {w = w} {p = p} {numbers = numbers} {x = x} c f g q at l there =
    let frame = error_frame f q at in
    let v = services_of p in
    straight c g v v
    (λ b y. Known (point_ground w (begun_point x p) frame) v numbers (λ n. 0) (enter_regs x.layer.at) b y)
    l (omega arith) (λ b. (there b).pc)
    (λ b.
    let o = (there b).holds in
    let r = (g b).machine.registers in (
      at_place b (word_in x.layer.at 36 frame refl (omega arith)) (sum (r 8) (word (pos 36)))
          (ap (λ u. sum u (word (pos 36))) (frame_is o.body)),
      record {
        body = record {
          services = o.body.services;
          registers = o.body.registers;
          bytes = o.body.bytes;
          memory = o.body.memory;
        };
        regs = (
          small_is (r 0) 2 (zero_is o.body) (omega arith),
          (o.body.memory.frames.0.own, (small_is (r 0) 0 (zero_is o.body) (omega arith), tt)),
        );
      },
    ))

-- up to the call
pub error_asked :
    {may : Bool} {w : Surroundings} {code : List Instr} {p : Point} {numbers : ℕ → ℕ} {x : Beginning} (c index : ℕ)
    (f : Family) (q : PremisesAt may w code p numbers x) → Linked w.links code index (unit_beginning_code x) →
    (there : (b : Base) → IsIn w p numbers index b (f b) × IsAtError p x b (f b)) →
    Reach code c f (services_of p)
    (c + size_of (frame_code (error_begun w p x f)) + 3 + size_of (number a2 x.head.line) + 1) (services_of p)
    (λ b y. At b (index + size_of (frame_code (error_begun w p x f)) + 3 + size_of (number a2 x.head.line) + 1)
    (Known (point_ground w (begun_point x p) (error_frame f q (λ b'. (there b').1))) (services_of p) numbers
    (λ n. 0) (λ b'. (17, 4) ∷ (12, x.head.line) ∷ enter_regs x.layer.at b') b) y)
error_asked {w = w} {p = p} {numbers = numbers} {x = x} c index f q l there =
    let at : (b : Base) → IsAtError p x b (f b) = λ b. (there b).1 in
    let frame = error_frame f q at in
    let v = services_of p in
    let first = frame_code (error_begun w p x f) in
    let line = number a2 x.head.line in
    let one = small a7 4 ∷ [] in
    let last = Plain I.Ecall ∷ [] in
    let l1 = back_of first (enter_front ++ (line ++ (one ++ last))) l in
    let l2 = back_of enter_front (line ++ (one ++ last)) l1 in
    let l3 = back_of line (one ++ last) l2 in
    let r1 = frame_stands c index f q at (front_of first (enter_front ++ (line ++ (one ++ last))) l)
    (λ b. (there b).0) in
    let r2 = front_comes (c + size_of first) f (reached r1) q at (front_of enter_front (line ++ (one ++ last)) l1)
    (reached_holds r1) in
    let r3 = constant_piece (c + size_of first + 3) (reached r2) a2 (pos x.head.line)
    (word_fits x.head.line q.is.line)
    (record { reserved_stay = λ y u. refl; known_stay = λ b y u o. o; set = λ y u. refl })
    (front_of line (one ++ last) l2) (reached_holds r2) in
    let r4 = straight (c + size_of first + 3 + size_of line) (reached r3) v v
    (λ b y. Known (point_ground w (begun_point x p) frame) v numbers (λ n. 0)
    (λ b'. (17, 4) ∷ (12, x.head.line) ∷ enter_regs x.layer.at b') b y)
    (front_of one last l3) (omega arith) (λ b. (reached_holds r3 b).pc)
    (λ b. let o = (reached_holds r3 b).holds in record {
      body = record {
        services = o.body.services;
        registers = o.body.registers;
        bytes = o.body.bytes;
        memory = o.body.memory;
      };
      regs = (
        small_is _ 4 (zero_is o.body) (omega arith),
        (o.regs.0 ∙ word_is x.head.line q.is.line, o.regs.1),
      );
    }) in
    reach_then r1 (reach_then r2 (reach_then r3 r4))

-- where the call stands
pub enter_linked :
    {may : Bool} {w : Surroundings} {code : List Instr} {p : Point} {numbers : ℕ → ℕ} {x : Beginning} (index : ℕ)
    (f : Family) → PremisesAt may w code p numbers x → Linked w.links code index (unit_beginning_code x) →
    Linked w.links code
    (index + size_of (frame_code (error_begun w p x f)) + 3 + size_of (number a2 x.head.line) + 1) (Plain I.Ecall ∷ [])
enter_linked {w = w} {p = p} {x = x} index f q l =
    let first = frame_code (error_begun w p x f) in
    let line = number a2 x.head.line in
    let one = small a7 4 ∷ [] in
    let last = Plain I.Ecall ∷ [] in
    back_of one last (back_of line (one ++ last) (back_of enter_front (line ++ (one ++ last))
    (back_of first (enter_front ++ (line ++ (one ++ last))) l)))

call_comes :
    {w : Surroundings} {code : List Instr} {p : Point} {numbers : ℕ → ℕ} {x : Beginning} {i : ℕ} (c : ℕ)
    (f g : Family) (q : Premises w code p numbers x) (at : (b : Base) → IsAtError p x b (f b)) →
    Linked w.links code i (Plain I.Ecall ∷ []) →
    ((b : Base) → At b i (Known (point_ground w (begun_point x p) (error_frame f q at)) (services_of p) numbers
    (λ n. 0) (λ b'. (17, 4) ∷ (12, x.head.line) ∷ enter_regs x.layer.at b') b) (g b)) →
    Reach code c g (services_of p) (c + 1) (services_of (begun_point x p))
    (λ b y. At b (i + 1) (Known (point_ground w (begun_point x p) (error_frame f q at))
    (services_of (begun_point x p)) numbers (λ n. 0) nothing b) y)
call_comes {w} {code} {p} {numbers} {x} {i} c f g q at l there =
    let frame = error_frame f q at in
    let v = services_of p in
    let v' = services_of (begun_point x p) in
    let calling : Calling w.links code i g (λ b. Done v' (g b).machine.memory 2 x.layer.at) = record {
      linked = l;
      pc = λ b. (there b).pc;
      answers = λ b.
          let o = (there b).holds in
          let m = (g b).machine.memory in
          called code (g b) v 4 2 x.layer.at x.head.line 0 _
          (λ call x0 x1 x2 x3 x4. B.enter_served call x0 x1 x2 x3)
          o.body.services o.regs.0 o.regs.1.1.0 o.regs.1.1.1.0 o.regs.1.0 o.regs.1.1.1.1.0 refl (λ call y. refl)
          ∙ ap (λ call. B.enter_served call 2 x.layer.at x.head.line 0) (call_is w code p m q.image)
          ∙ enter_answered w.units p m x.head x.entry x.layer 2 0 x.head.line q.stands.active q.is.entering
          q.is.shallow;
    } in
    call_done c g v v' (λ b. (g b).machine.memory) (λ b. 2) (λ b. x.layer.at)
    (λ b. Known (point_ground w (begun_point x p) frame) v' numbers (λ n. 0) nothing b) (omega arith) calling
    (λ b. let o = (there b).holds.body in
    record {
      body = record { services = refl; registers = o.registers; bytes = o.bytes; memory = o.memory };
      regs = tt;
    })

-- ---- the whole beginning

pub error_begins :
    {w : Surroundings} {code : List Instr} {p : Point} {numbers : ℕ → ℕ} {x : Beginning} (c index : ℕ) (f : Family)
    (q : Premises w code p numbers x) → Linked w.links code index (unit_beginning_code x) →
    ((b : Base) → IsIn w p numbers index b (f b) × IsAtError p x b (f b)) →
    Reach code c f (services_of p) (c + size_of (unit_beginning_code x)) (services_of (begun_point x p))
    (λ b y. IsIn w (begun_point x p) numbers (index + size_of (unit_beginning_code x)) b y)
error_begins {w} {code} {p} {numbers} {x} c index f q l there =
    let first = frame_code (error_begun w p x f) in
    let line = number a2 x.head.line in
    let one = small a7 4 ∷ [] in
    let last = Plain I.Ecall ∷ [] in
    let n0 = size_append first (enter_front ++ (line ++ (one ++ last))) in
    let n1 = size_append line (one ++ last) in
    let r1 = error_asked c index f q l there in
    let r2 = call_comes (c + size_of first + 3 + size_of line + 1) f (reached r1) q (λ b. (there b).1)
    (enter_linked index f q l) (reached_holds r1) in
    reach_map _ (reach_moved (omega (arith, n0, n1)) (omega (arith, n0, n1)) (reach_then r1 r2))
    (λ b y o. in_known (error_frame f q (λ b'. (there b').1)) q.image.parts o)
