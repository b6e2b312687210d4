-- A unit's block is entered: from its first instruction to the machine of the new point.
use Rattle.std.proofs.Common.{◌≡◌, ℕ, ◌+◌, ◌*◌, ◌%◌, ◌^◌, ◌<◌, ◌≤◌, List, [], ◌∷◌, ◌++◌, refl, sym, ap, ◌∙◌, subst}
use Rattle.std.proofs.Common.{Bool, true, arith}
use Rattle.std.specs.Prelude.{pos}
use Rattle.rv_meaning.specs.declared.instr.Instr.{Instr}
use Rattle.rv_meaning.specs.declared.instr.Instr.TheVariants as I
use Rattle.rv_meaning.specs.Words.{word, sum}
use Rattle.pli_serving.specs.Answers.{Done}
use Rattle.pli_serving.specs.Blocks as B
use Rattle.pli_serving.specs.ServiceState as S
use Rattle.pli_coding.specs.Assembly.{Plain, Code, size_of}
use Rattle.pli_coding.specs.Frames.{own_offset}
use Rattle.pli_coding.specs.Instructions.{small, number, load_word}
use Rattle.pli_coding.specs.Registers.{frame_register, a0, a1, a2, a3, a7}
use Rattle.activation_relation.specs.Chains.{HasParent}
use Rattle.activation_relation.specs.FrameLaws.{AreWords}
use Rattle.activation_relation.specs.Frames.{frame_under, return_stores, stored, frame_stores, words_from}
use Rattle.activation_relation.specs.Layers.{Point, services_of}
use Rattle.activation_relation.specs.Points.{Surroundings, Stands}
use Rattle.activation_relation.proofs.Blocks.{enter_answered}
use Rattle.activation_relation.proofs.PointSteps.{entered_stands, entered_memory}
use Rattle.activation_relation.proofs.StoredWords.{within_run}
use Rattle.run_steps.specs.Bodies.{Known, reserved, reserved_are}
use Rattle.run_steps.proofs.Bodies.{at_place, frame_is, zero_is, constant_piece}
use Rattle.run_steps.specs.Calls.{Calling}
use Rattle.run_steps.proofs.Calls.{called, call_done}
use Rattle.run_steps.specs.Engine.{Base, address}
use Rattle.run_steps.specs.Items.{Linked, At}
use Rattle.run_steps.proofs.Items.{straight}
use Rattle.run_steps.proofs.Jumps.{front_of, back_of}
use Rattle.run_steps.proofs.Linking.{size_append}
use Rattle.run_steps.specs.Reach.{Family, Reach, reached}
use Rattle.run_steps.proofs.Reach.{reach_then, reached_holds, reach_map}
use Rattle.run_steps.proofs.Reaching.{reach_moved}
use Rattle.run_steps.specs.Temporaries.{nothing}
use Rattle.block_runs.specs.Beginnings.{Beginning, begun_point}
use Rattle.block_runs.specs.Machines.{IsIn, IsImage}
use Rattle.block_runs.proofs.BlockEntries.{small_is, word_fits, word_is}
use Rattle.block_runs.proofs.FrameBeginnings.{Begun, IsBegun, all_stored, all_words, frame_code, frame_made}
use Rattle.block_runs.proofs.FrameBeginnings.{new_display, new_frame, outside, own_regs, regs_of}
use Rattle.block_runs.proofs.Places.{IsFrame, word_in, bounds, even_top}
use Rattle.block_runs.proofs.PointGrounds.{StandsIn, point_ground, registers_in, in_known, call_is}
use Rattle.block_runs.proofs.StoredGrounds.{StoredOver, making_ground}
use Rattle.unit_runs.specs.UnitBeginnings.{IsAtUnit, IsUnit, IsUnitAt, unit_beginning_code}

-- ---- what is premised, and what follows

pub record PremisesAt (may : Bool) (w : Surroundings) (code : List Instr) (p : Point) (numbers : ℕ → ℕ)
    (x : Beginning) : Type 0
  where
    pub stands : Stands w p
    pub image : IsImage w code p
    pub is : IsUnitAt may w p numbers x

-- one more block may be active
abbrev pub Premises : Surroundings → List Instr → Point → (numbers : ℕ → ℕ) → Beginning → Type 0
Premises w code p numbers x = PremisesAt true w code p numbers x

-- the words that it stores are a procedure's: it is told where its raise goes on
unit_stored :
    (k : Begun) (b : Base) (n resume : ℕ) → k.layer.kind ≡ S.OnUnitBlock n resume →
    k.first b
    ≡ ((k.layer.at + 0, address b k.layer.back) ∷ []) ++ words_from (k.layer.at + 8) k.layer.held 0 k.layer.saved →
    all_words k b
    ≡ frame_stores k.surroundings.parts b.at k.parent k.point.state.activations k.layer k.point.control.layers
unit_stored k b n resume kind first =
    let below : ℕ × ℕ = (k.layer.at + 4, b.at + frame_under k.surroundings.parts k.point.control.layers) in
    let lower : ℕ × ℕ = (k.layer.at + 40, k.layer.lower) in
    let own : ℕ × ℕ = (k.layer.at + 36, k.layer.at) in
    all_stored (record k { layer = record k.layer { kind = S.ProcedureBlock } }) b refl first
    ∙ ap (λ x. return_stores x (k.layer.at + 0) (address b k.layer.back)
    ++ (words_from (k.layer.at + 8) k.layer.held 0 k.layer.saved
    ++ (below ∷ lower ∷ (new_display k b ++ (own ∷ []))))) (sym kind)

abbrev pub begun_at : (w : Surroundings) (p : Point) (x : Beginning) → Family → Begun
begun_at w p x f =
    record {
      surroundings = w;
      point = p;
      layer = x.layer;
      parent = x.entry.parent;
      texts = λ b. (f b).machine.registers 12;
      list = λ b. (f b).machine.registers 11;
      given = λ b. (f b).machine.registers 10;
      return = λ b. address b x.layer.back;
      first = λ b. (x.layer.at + 0, address b x.layer.back) ∷ words_from (x.layer.at + 8) x.layer.held 0 x.layer.saved;
    }

pub is_begun :
    {may : Bool} {w : Surroundings} {code : List Instr} {p : Point} {numbers : ℕ → ℕ} {x : Beginning} (f : Family) →
    PremisesAt may w code p numbers x → ((b : Base) → IsAtUnit p x b (f b)) → IsBegun (begun_at w p x f)
is_begun {p = p} {x = x} f q at =
    record {
      active = q.stands.active;
      laid = (q.is.next.laid, q.stands.laid);
      parts = q.image.parts;
      even = q.image.even;
      level = q.is.level;
      has = subst (λ n. HasParent n x.entry.parent p.state.activations)
          (sym q.is.next.layer.level) q.is.next.layer.parent;
      parent = λ b some. (at b).parent;
      lower = q.is.lower;
      top = q.is.top;
      within = λ b.
          let most : x.layer.saved ≤ 7 = q.is.next.laid.saved in (
            (omega arith, omega arith),
            within_run x.layer.at (144 + 4 * x.layer.level) (x.layer.at + 8) x.layer.held 0 x.layer.saved (omega arith)
                (omega (arith, most)),
          );
    }

are_words :
    {may : Bool} {w : Surroundings} {code : List Instr} {p : Point} {numbers : ℕ → ℕ} {x : Beginning} →
    PremisesAt may w code p numbers x → (b : Base) → AreWords b.at x.layer
are_words {w = w} {p = p} {x = x} q b =
    let o = bounds w.parts p.control.layers q.stands.laid in
    let v = b.valid.1 in
    let back = q.is.back in
    let high = o.high in
    let last = q.image.parts.inside in
    let lower = q.is.lower in
    record {
      back = omega (arith, v, back);
      held = λ n less. subst (λ h. h n < 2 ^ 32) (sym q.is.held) (q.is.words n less);
      base_fits = omega (arith, v, high, last, lower);
    }

pub new_point_frame :
    {may : Bool} {w : Surroundings} {code : List Instr} {p : Point} {numbers : ℕ → ℕ} {x : Beginning} (f : Family) →
    PremisesAt may w code p numbers x → ((b : Base) → IsAtUnit p x b (f b)) →
    IsFrame (frame_under w.parts (begun_point x p).control.layers)
new_point_frame {w = w} {p = p} {x = x} f q at = new_frame (begun_at w p x f) (is_begun f q at)

-- ---- memory at the new point

memory_new :
    {may : Bool} {w : Surroundings} {code : List Instr} {p : Point} {numbers : ℕ → ℕ} {x : Beginning} (f : Family) →
    PremisesAt may w code p numbers x → (b : Base) (m : List ℕ) → StoredOver w p (all_words (begun_at w p x f) b) b m →
    StandsIn w (begun_point x p) b m
memory_new {w = w} {p = p} {x = x} f q b m o =
    let k = begun_at w p x f in
    let e : m ≡ stored (frame_stores w.parts b.at x.entry.parent p.state.activations x.layer p.control.layers) o.first =
    o.is ∙ ap (λ xs. stored xs o.first) (unit_stored k b q.is.code (4 * x.layer.back) q.is.kind refl) in
    let high = (bounds w.parts p.control.layers q.stands.laid).high in
    let last = q.image.parts.inside in
    let lower = q.is.lower in
    let bytes = o.bytes in
    let r = entered_memory w p b.at o.first x.head x.entry x.layer x.head.line (q.stands, o.storage, o.frames)
    (q.is.next.laid, are_words q b, omega (arith, high, last, lower, bytes), q.is.waits, q.is.list, q.is.told) in
    subst (StandsIn w (begun_point x p) b) (sym e) (record { storage = r.0; frames = r.1 })

-- ---- the frame is made

pub frame_stands :
    {may : Bool} {w : Surroundings} {code : List Instr} {p : Point} {numbers : ℕ → ℕ} {x : Beginning}
    (c index : ℕ) (f : Family)
    (q : PremisesAt may w code p numbers x) (at : (b : Base) → IsAtUnit p x b (f b)) →
    Linked w.links code index (frame_code (begun_at w p x f)) → ((b : Base) → IsIn w p numbers index b (f b)) →
    Reach code c f (services_of p) (c + size_of (frame_code (begun_at w p x f))) (services_of p)
    (λ b y. At b (index + size_of (frame_code (begun_at w p x f)))
    (Known (point_ground w (begun_point x p) (new_point_frame f q at)) (services_of p) numbers (λ n. 0)
    (own_regs (begun_at w p x f)) b) y)
frame_stands {w = w} {p = p} {numbers = numbers} {x = x} c index f q at l there =
    let k = begun_at w p x f in
    let h = is_begun f q at in
    let r = frame_made k h {t = λ n. 0} c f (λ b. refl) l
    (λ b. record {
      pc = (there b).at.pc;
      holds = record {
        body = record {
          services = (there b).services;
          registers = registers_in (making_ground (outside k h) (λ b'. [])) refl refl
              (subst (λ n. IsIn w p n index b (f b)) (sym q.is.held) (there b));
          bytes = (there b).bytes;
          memory = record {
            first = (f b).machine.memory;
            bytes = (there b).bytes;
            storage = (there b).at.storage;
            frames = (there b).at.frames;
            is = refl;
          };
        };
        regs = (refl, (refl, (refl, ((at b).return, tt))));
      };
    }) in
    reach_map _ r
    (λ b y o. record {
      pc = o.pc;
      holds = record {
        body = record {
          services = o.holds.body.services;
          registers = subst (λ n. reserved y.machine.registers ≡ reserved_are b
              (point_ground w (begun_point x p) (new_point_frame f q at)) n) q.is.held o.holds.body.registers;
          bytes = o.holds.body.bytes;
          memory = memory_new f q b y.machine.memory o.holds.body.memory;
        };
        regs = o.holds.regs;
      };
    })

pub frame_comes :
    {may : Bool} {w : Surroundings} {code : List Instr} {p : Point} {numbers : ℕ → ℕ} {x : Beginning}
    (c index : ℕ) (f : Family)
    (q : PremisesAt may w code p numbers x) (at : (b : Base) → IsAtUnit p x b (f b)) →
    Linked w.links code index (frame_code (begun_at w p x f)) → ((b : Base) → IsIn w p numbers index b (f b)) →
    Reach code c f (services_of p) (c + size_of (frame_code (begun_at w p x f))) (services_of p)
    (λ b y. At b (index + size_of (frame_code (begun_at w p x f)))
    (Known (point_ground w (begun_point x p) (new_point_frame f q at)) (services_of p) numbers (λ n. 0)
    (regs_of (begun_at w p x f)) b) y)
frame_comes c index f q at l there =
    reach_map _ (frame_stands c index f q at l there)
    (λ b y o. record { pc = o.pc; holds = record { body = o.holds.body; regs = o.holds.regs.1 } })

-- ---- the call of service 4

abbrev pub enter_front : Code
enter_front = small a3 0 ∷ (load_word a1 frame_register own_offset ++ small a0 2 ∷ [])

abbrev pub enter_regs : (at : ℕ) → Base → List (ℕ × ℕ)
enter_regs at b = (10, 2) ∷ (11, at) ∷ (13, 0) ∷ []

-- the register of the frame's own place, the kind and the texts
pub front_comes :
    {may : Bool} {w : Surroundings} {code : List Instr} {p : Point} {numbers : ℕ → ℕ} {x : Beginning}
    {i : ℕ} (c : ℕ) (f g : Family) (q : PremisesAt may w code p numbers x) (at : (b : Base) → IsAtUnit p x b (f b)) →
    Linked w.links code i enter_front →
    ((b : Base) → At b i (Known (point_ground w (begun_point x p) (new_point_frame f q at)) (services_of p) numbers
    (λ n. 0) (regs_of (begun_at w p x f)) b) (g b)) →
    Reach code c g (services_of p) (c + 3) (services_of p)
    (λ b y. At b (i + 3) (Known (point_ground w (begun_point x p) (new_point_frame f q at)) (services_of p) numbers
    (λ n. 0) (enter_regs x.layer.at) b) y)
front_comes {w = w} {p = p} {numbers = numbers} {x = x} c f g q at l there =
    let frame = new_point_frame f q at in
    let v = services_of p in
    straight c g v v
    (λ b y. Known (point_ground w (begun_point x p) frame) v numbers (λ n. 0) (enter_regs x.layer.at) b y)
    l (omega arith) (λ b. (there b).pc)
    (λ b.
    let o = (there b).holds in
    let r = (g b).machine.registers in (
      at_place b (word_in x.layer.at 36 frame refl (omega arith)) (sum (r 8) (word (pos 36)))
          (ap (λ u. sum u (word (pos 36))) (frame_is o.body)),
      record {
        body = record {
          services = o.body.services;
          registers = o.body.registers;
          bytes = o.body.bytes;
          memory = o.body.memory;
        };
        regs = (
          small_is (r 0) 2 (zero_is o.body) (omega arith),
          (o.body.memory.frames.0.own, (small_is (r 0) 0 (zero_is o.body) (omega arith), tt)),
        );
      },
    ))

-- up to the call
pub asked_comes :
    {may : Bool} {w : Surroundings} {code : List Instr} {p : Point} {numbers : ℕ → ℕ} {x : Beginning}
    {i : ℕ} (c : ℕ) (f g : Family) (q : PremisesAt may w code p numbers x) (at : (b : Base) → IsAtUnit p x b (f b)) →
    Linked w.links code i (number a2 x.head.line) →
    Linked w.links code (i + size_of (number a2 x.head.line)) (small a7 4 ∷ []) →
    ((b : Base) → At b i (Known (point_ground w (begun_point x p) (new_point_frame f q at)) (services_of p) numbers
    (λ n. 0) (enter_regs x.layer.at) b) (g b)) →
    Reach code c g (services_of p) (c + size_of (number a2 x.head.line) + 1) (services_of p)
    (λ b y. At b (i + size_of (number a2 x.head.line) + 1) (Known (point_ground w (begun_point x p)
    (new_point_frame f q at)) (services_of p) numbers (λ n. 0)
    (λ b'. (17, 4) ∷ (12, x.head.line) ∷ enter_regs x.layer.at b') b) y)
asked_comes {w = w} {p = p} {numbers = numbers} {x = x} c f g q at l l' there =
    let frame = new_point_frame f q at in
    let v = services_of p in
    let line = x.head.line in
    let m = number a2 line in
    let r1 = constant_piece c g a2 (pos line) (word_fits line q.is.line)
    (record { reserved_stay = λ y u. refl; known_stay = λ b y u o. o; set = λ y u. refl }) l there in
    let r2 = straight (c + size_of m) (reached r1) v v
    (λ b y. Known (point_ground w (begun_point x p) frame) v numbers (λ n. 0)
    (λ b'. (17, 4) ∷ (12, line) ∷ enter_regs x.layer.at b') b y)
    l' (omega arith) (λ b. (reached_holds r1 b).pc)
    (λ b. let o = (reached_holds r1 b).holds in record {
      body = record {
        services = o.body.services;
        registers = o.body.registers;
        bytes = o.body.bytes;
        memory = o.body.memory;
      };
      regs = (small_is _ 4 (zero_is o.body) (omega arith), (o.regs.0 ∙ word_is line q.is.line, o.regs.1));
    }) in
    reach_then r1 r2

call_comes :
    {w : Surroundings} {code : List Instr} {p : Point} {numbers : ℕ → ℕ} {x : Beginning} {i : ℕ} (c : ℕ)
    (f g : Family) (q : Premises w code p numbers x) (at : (b : Base) → IsAtUnit p x b (f b)) →
    Linked w.links code i (Plain I.Ecall ∷ []) →
    ((b : Base) → At b i (Known (point_ground w (begun_point x p) (new_point_frame f q at)) (services_of p) numbers
    (λ n. 0) (λ b'. (17, 4) ∷ (12, x.head.line) ∷ enter_regs x.layer.at b') b) (g b)) →
    Reach code c g (services_of p) (c + 1) (services_of (begun_point x p))
    (λ b y. At b (i + 1) (Known (point_ground w (begun_point x p) (new_point_frame f q at))
    (services_of (begun_point x p)) numbers (λ n. 0) nothing b) y)
call_comes {w} {code} {p} {numbers} {x} {i} c f g q at l there =
    let frame = new_point_frame f q at in
    let v = services_of p in
    let v' = services_of (begun_point x p) in
    let calling : Calling w.links code i g (λ b. Done v' (g b).machine.memory 2 x.layer.at) = record {
      linked = l;
      pc = λ b. (there b).pc;
      answers = λ b.
          let o = (there b).holds in
          let m = (g b).machine.memory in
          called code (g b) v 4 2 x.layer.at x.head.line 0 _
          (λ call x0 x1 x2 x3 x4. B.enter_served call x0 x1 x2 x3)
          o.body.services o.regs.0 o.regs.1.1.0 o.regs.1.1.1.0 o.regs.1.0 o.regs.1.1.1.1.0 refl (λ call y. refl)
          ∙ ap (λ call. B.enter_served call 2 x.layer.at x.head.line 0) (call_is w code p m q.image)
          ∙ enter_answered w.units p m x.head x.entry x.layer 2 0 x.head.line q.stands.active q.is.entering
          q.is.shallow;
    } in
    call_done c g v v' (λ b. (g b).machine.memory) (λ b. 2) (λ b. x.layer.at)
    (λ b. Known (point_ground w (begun_point x p) frame) v' numbers (λ n. 0) nothing b) (omega arith) calling
    (λ b. let o = (there b).holds.body in
    record {
      body = record { services = refl; registers = o.registers; bytes = o.bytes; memory = o.memory };
      regs = tt;
    })

-- ---- the whole beginning

pub unit_begins :
    {w : Surroundings} {code : List Instr} {p : Point} {numbers : ℕ → ℕ} {x : Beginning} (c index : ℕ) (f : Family)
    (q : Premises w code p numbers x) → Linked w.links code index (unit_beginning_code x) →
    ((b : Base) → IsIn w p numbers index b (f b) × IsAtUnit p x b (f b)) →
    Reach code c f (services_of p) (c + size_of (unit_beginning_code x)) (services_of (begun_point x p))
    (λ b y. IsIn w (begun_point x p) numbers (index + size_of (unit_beginning_code x)) b y)
unit_begins {w} {code} {p} {numbers} {x} c index f q l there =
    let at : (b : Base) → IsAtUnit p x b (f b) = λ b. (there b).1 in
    let first = frame_code (begun_at w p x f) in
    let line = number a2 x.head.line in
    let one = small a7 4 ∷ [] in
    let last = Plain I.Ecall ∷ [] in
    let l1 = back_of first (enter_front ++ (line ++ (one ++ last))) l in
    let l2 = back_of enter_front (line ++ (one ++ last)) l1 in
    let l3 = back_of line (one ++ last) l2 in
    let n0 = size_append first (enter_front ++ (line ++ (one ++ last))) in
    let n1 = size_append line (one ++ last) in
    let r1 = frame_comes c index f q at (front_of first (enter_front ++ (line ++ (one ++ last))) l)
    (λ b. (there b).0) in
    let r2 = front_comes (c + size_of first) f (reached r1) q at (front_of enter_front (line ++ (one ++ last)) l1)
    (reached_holds r1) in
    let r3 = asked_comes (c + size_of first + 3) f (reached r2) q at (front_of line (one ++ last) l2)
    (front_of one last l3) (reached_holds r2) in
    let r4 = call_comes (c + size_of first + 3 + size_of line + 1) f (reached r3) q at (back_of one last l3)
    (reached_holds r3) in
    reach_map _ (reach_moved (omega (arith, n0, n1)) (omega (arith, n0, n1))
    (reach_then r1 (reach_then r2 (reach_then r3 r4))))
    (λ b y o. in_known (new_point_frame f q at) q.image.parts o)

pub unit_begun_stands :
    {w : Surroundings} {code : List Instr} {p : Point} {numbers : ℕ → ℕ} {x : Beginning} →
    Premises w code p numbers x → Stands w (begun_point x p) × IsImage w code (begun_point x p)
unit_begun_stands {w} {p = p} {x = x} q = (
  entered_stands w p x.head x.entry x.layer x.head.line q.stands q.is.next,
  record {
    keeper = q.image.keeper;
    layout = q.image.layout;
    parts = q.image.parts;
    even = (even_new, q.image.even);
  },
)
  where
    even_new : x.layer.top % 16 ≡ 0
    even_new =
        let below = even_top w.parts p.control.layers q.image.even in
        let at = q.is.next.laid.above in
        let top = q.is.top in
        omega (arith, below, at, top)

-- ---- as it is said of a point

pub units_begin :
    (w : Surroundings) (code : List Instr) (p : Point) (numbers : ℕ → ℕ) (x : Beginning) (credits index : ℕ)
    (f : Family) → Stands w p × IsImage w code p × IsUnit w p numbers x →
    Linked w.links code index (unit_beginning_code x) →
    ((b : Base) → IsIn w p numbers index b (f b) × IsAtUnit p x b (f b)) →
    Reach code credits f (services_of p) (credits + size_of (unit_beginning_code x)) (services_of (begun_point x p))
    (λ b y. IsIn w (begun_point x p) numbers (index + size_of (unit_beginning_code x)) b y)
units_begin w code p numbers x c index f known l there =
    unit_begins c index f (record { stands = known.0; image = known.1; is = known.2 }) l there

pub units_stand :
    (w : Surroundings) (code : List Instr) (p : Point) (numbers : ℕ → ℕ) (x : Beginning) →
    Stands w p × IsImage w code p × IsUnit w p numbers x → Stands w (begun_point x p) × IsImage w code (begun_point x p)
units_stand w code p numbers x known =
    unit_begun_stands (record { stands = known.0; image = known.1; is = known.2 })
