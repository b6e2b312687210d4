-- A begin block is entered where as many blocks are active as may be: its frame is made, and service 4 ends the run.
use Rattle.std.proofs.Common.{◌≡◌, ℕ, ◌+◌, ◌^◌, ◌<◌, ◌≤◌, List, [], ◌∷◌, ◌++◌, None, refl}
use Rattle.std.proofs.Common.{sym, ap}
use Rattle.std.proofs.Common.{◌∙◌, subst, arith}
use Rattle.std.specs.Prelude.{pos}
use Rattle.rv_meaning.specs.declared.instr.Instr.{Instr}
use Rattle.rv_meaning.specs.declared.instr.Instr.TheVariants as I
use Rattle.rv_meaning.specs.Words.{word, sum}
use Rattle.pli_serving.specs.Blocks as B
use Rattle.pli_coding.specs.Assembly.{Plain, Code, size_of}
use Rattle.pli_coding.specs.Entries.{entered_without_texts, frame_begun}
use Rattle.pli_coding.specs.Frames.{own_offset}
use Rattle.pli_coding.specs.Instructions.{move, small, number, load_word}
use Rattle.pli_coding.specs.Registers.{frame_register, a0, a1, a2, a3, a7}
use Rattle.activation_relation.specs.Chains.{HasParent}
use Rattle.activation_relation.specs.FrameLaws.{AreWords}
use Rattle.activation_relation.specs.Frames.{frame_under, stored, frame_stores}
use Rattle.activation_relation.specs.Layers.{Point, services_of}
use Rattle.activation_relation.specs.Points.{Surroundings, Stands}
use Rattle.activation_relation.proofs.PointSteps.{entered_memory}
use Rattle.run_steps.specs.Bodies.{Known, reserved, reserved_are}
use Rattle.run_steps.proofs.Bodies.{at_place, frame_is, zero_is, constant_piece}
use Rattle.run_steps.specs.Calls.{Calling}
use Rattle.run_steps.proofs.Calls.{called}
use Rattle.image_runs.specs.Runs.{Whole}
use Rattle.run_steps.specs.Engine.{Base}
use Rattle.run_steps.specs.Items.{Linked, At}
use Rattle.run_steps.proofs.Items.{straight}
use Rattle.run_steps.proofs.Jumps.{front_of, back_of}
use Rattle.run_steps.proofs.Linking.{size_append}
use Rattle.run_steps.specs.Reach.{Family, Reach, reached}
use Rattle.run_steps.proofs.Reach.{reach_map, reach_then, reached_holds}
use Rattle.run_steps.specs.Temporaries.{nothing}
use Rattle.block_runs.specs.Machines.{IsIn, IsImage}
use Rattle.block_runs.specs.Beginnings.{Beginning, begun_point}
use Rattle.block_runs.specs.InnerBeginnings.{inner_code}
use Rattle.block_runs.proofs.BlockEntries.{small_is, word_fits, word_is}
use Rattle.block_runs.proofs.Places.{IsFrame, word_in, bounds}
use Rattle.block_runs.proofs.PointGrounds.{StandsIn, call_is, in_known, known_in, point_frame, point_ground}
use Rattle.block_runs.proofs.PointGrounds.{registers_in}
use Rattle.block_runs.proofs.StoredGrounds.{StoredOver, making_ground}
use Rattle.block_runs.proofs.FrameBeginnings.{Begun, IsBegun, outside, all_words, inner_frame_code}
use Rattle.block_runs.proofs.FrameBeginnings.{new_frame, regs_of}
use Rattle.block_runs.proofs.FrameBeginnings.{inner_frame_made, inner_stored}
use Rattle.pli_meaning.specs.Control.{finish}
use Rattle.pli_meaning.specs.World.{ending}
use Rattle.pli_meaning.specs.declared.outcome.End.TheVariants as E
use Rattle.pli_meaning.specs.declared.outcome.Limit.TheVariants as L
use Rattle.pli_serving.specs.Answers.{Ends, with_world}
use Rattle.activation_relation.proofs.Blocks.{depth_answered}
use Rattle.run_steps.proofs.Calls.{acts, call_ends, comes_finish, end_pauses}
use Rattle.run_steps.specs.Reach.{Aims, Closed, Comes, cost}
use Rattle.run_steps.proofs.Reach.{onward}
use Rattle.nested_calls.proofs.DeepBeginnings.{one_more}
use Rattle.nested_begins.specs.DeepBegins.{IsDeepInner}

-- ---- what is premised, and what follows

-- a0 has the running frame
abbrev IsGiven : Surroundings → Point → Base → Whole → Type 0
IsGiven w p b y = y.machine.registers 10 ≡ b.at + frame_under w.parts p.control.layers

pub record Premises (w : Surroundings) (code : List Instr) (p : Point) (numbers : ℕ → ℕ) (x : Beginning) : Type 0 where
  pub stands : Stands w p
  pub image : IsImage w code p
  pub is : IsDeepInner w p numbers x

abbrev begun_at : (w : Surroundings) (p : Point) (x : Beginning) → Family → Begun
begun_at w p x f =
    record {
      surroundings = w;
      point = p;
      layer = x.layer;
      parent = x.entry.parent;
      texts = λ b. (f b).machine.registers 12;
      list = λ b. (f b).machine.registers 11;
      given = λ b. (f b).machine.registers 10;
      return = λ b. (f b).machine.registers 1;
      first = λ b. [];
    }

is_begun :
    {w : Surroundings} {code : List Instr} {p : Point} {numbers : ℕ → ℕ} {x : Beginning} (f : Family) →
    Premises w code p numbers x → ((b : Base) → IsGiven w p b (f b)) → IsBegun (begun_at w p x f)
is_begun {p = p} {x = x} f q at =
    record {
      active = q.stands.active;
      laid = (q.is.next.laid, q.stands.laid);
      parts = q.image.parts;
      even = q.image.even;
      level = q.is.level;
      has = subst (λ n. HasParent n x.entry.parent p.state.activations)
          (sym q.is.next.layer.level) q.is.next.layer.parent;
      parent = λ b some. (at b) ∙ ap (λ n. b.at + n) (sym q.is.parent);
      lower = q.is.lower;
      top = q.is.top;
      within = λ b. tt;
    }

are_words :
    {w : Surroundings} {code : List Instr} {p : Point} {numbers : ℕ → ℕ} {x : Beginning} →
    Premises w code p numbers x → (b : Base) → AreWords b.at x.layer
are_words {w} {p = p} {x = x} q b =
    let o = bounds w.parts p.control.layers q.stands.laid in
    let v = b.valid.1 in
    let back = q.is.back in
    let high = o.high in
    let last = q.image.parts.inside in
    let lower = q.is.lower in
    record {
      back = omega (arith, v, back);
      held = λ n less. let none = q.is.saved in absurd (omega (arith, none, less));
      base_fits = omega (arith, v, high, last, lower);
    }

new_point_frame :
    {w : Surroundings} {code : List Instr} {p : Point} {numbers : ℕ → ℕ} {x : Beginning} (f : Family) →
    Premises w code p numbers x → ((b : Base) → IsGiven w p b (f b)) →
    IsFrame (frame_under w.parts (begun_point x p).control.layers)
new_point_frame {w} {p = p} {x = x} f q at = new_frame (begun_at w p x f) (is_begun f q at)

-- ---- memory at the new point

memory_new :
    {w : Surroundings} {code : List Instr} {p : Point} {numbers : ℕ → ℕ} {x : Beginning} (f : Family) →
    Premises w code p numbers x → (b : Base) (m : List ℕ) → StoredOver w p (all_words (begun_at w p x f) b) b m →
    StandsIn w (begun_point x p) b m
memory_new {w} {p = p} {x = x} f q b m o =
    let k = begun_at w p x f in
    let e : m ≡ stored (frame_stores w.parts b.at x.entry.parent p.state.activations x.layer p.control.layers) o.first =
    o.is ∙ ap (λ xs. stored xs o.first) (inner_stored k b q.is.kind q.is.saved refl) in
    let high = (bounds w.parts p.control.layers q.stands.laid).high in
    let last = q.image.parts.inside in
    let lower = q.is.lower in
    let bytes = o.bytes in
    let r = entered_memory w p b.at o.first x.head x.entry x.layer x.head.line (q.stands, o.storage, o.frames)
    (q.is.next.laid, are_words q b, omega (arith, high, last, lower, bytes), q.is.waits, q.is.list, q.is.told) in
    subst (StandsIn w (begun_point x p) b) (sym e) (record { storage = r.0; frames = r.1 })

-- ---- the frame is made

frame_comes :
    {w : Surroundings} {code : List Instr} {p : Point} {numbers : ℕ → ℕ} {x : Beginning} (c index : ℕ) (f : Family)
    (q : Premises w code p numbers x) (at : (b : Base) → IsGiven w p b (f b)) →
    Linked w.links code index (inner_frame_code (begun_at w p x f)) → ((b : Base) → IsIn w p numbers index b (f b)) →
    Reach code c f (services_of p) (c + size_of (inner_frame_code (begun_at w p x f))) (services_of p)
    (λ b y. At b (index + size_of (inner_frame_code (begun_at w p x f)))
    (Known (point_ground w (begun_point x p) (new_point_frame f q at)) (services_of p) numbers (λ n. 0)
    (regs_of (begun_at w p x f)) b) y)
frame_comes {w} {p = p} {numbers = numbers} {x = x} c index f q at l there =
    let k = begun_at w p x f in
    let h = is_begun f q at in
    let r = inner_frame_made k h {t = λ n. 0} c f (λ b. refl) l
    (λ b. record {
      pc = (there b).at.pc;
      holds = record {
        body = record {
          services = (there b).services;
          registers = registers_in (making_ground (outside k h) (λ b'. [])) refl refl
              (subst (λ n. IsIn w p n index b (f b)) (sym q.is.held) (there b));
          bytes = (there b).bytes;
          memory = record {
            first = (f b).machine.memory;
            bytes = (there b).bytes;
            storage = (there b).at.storage;
            frames = (there b).at.frames;
            is = refl;
          };
        };
        regs = (refl, (refl, (refl, (refl, tt))));
      };
    }) in
    reach_map _ r
    (λ b y o. record {
      pc = o.pc;
      holds = record {
        body = record {
          services = o.holds.body.services;
          registers = subst (λ n. reserved y.machine.registers ≡ reserved_are b
              (point_ground w (begun_point x p) (new_point_frame f q at)) n) q.is.held o.holds.body.registers;
          bytes = o.holds.body.bytes;
          memory = memory_new f q b y.machine.memory o.holds.body.memory;
        };
        regs = o.holds.regs.1;
      };
    })

-- ---- the call of service 4

abbrev enter_front : Code
enter_front = small a3 0 ∷ (load_word a1 frame_register own_offset ++ small a0 1 ∷ [])

abbrev enter_regs : (at : ℕ) → Base → List (ℕ × ℕ)
enter_regs at b = (10, 1) ∷ (11, at) ∷ (13, 0) ∷ []

-- the register of the frame's own place, the kind and the texts
front_comes :
    {w : Surroundings} {code : List Instr} {p : Point} {numbers : ℕ → ℕ} {x : Beginning} {i : ℕ} (c : ℕ)
    (f g : Family) (q : Premises w code p numbers x) (at : (b : Base) → IsGiven w p b (f b)) →
    Linked w.links code i enter_front →
    ((b : Base) → At b i (Known (point_ground w (begun_point x p) (new_point_frame f q at)) (services_of p) numbers
    (λ n. 0) (regs_of (begun_at w p x f)) b) (g b)) →
    Reach code c g (services_of p) (c + 3) (services_of p)
    (λ b y. At b (i + 3) (Known (point_ground w (begun_point x p) (new_point_frame f q at)) (services_of p) numbers
    (λ n. 0) (enter_regs x.layer.at) b) y)
front_comes {w} {p = p} {numbers = numbers} {x = x} c f g q at l there =
    let frame = new_point_frame f q at in
    let v = services_of p in
    straight c g v v
    (λ b y. Known (point_ground w (begun_point x p) frame) v numbers (λ n. 0) (enter_regs x.layer.at) b y)
    l (omega arith) (λ b. (there b).pc)
    (λ b.
    let o = (there b).holds in
    let r = (g b).machine.registers in (
      at_place b (word_in x.layer.at 36 frame refl (omega arith)) (sum (r 8) (word (pos 36)))
          (ap (λ u. sum u (word (pos 36))) (frame_is o.body)),
      record {
        body = record {
          services = o.body.services;
          registers = o.body.registers;
          bytes = o.body.bytes;
          memory = o.body.memory;
        };
        regs = (
          small_is (r 0) 1 (zero_is o.body) (omega arith),
          (o.body.memory.frames.0.own, (small_is (r 0) 0 (zero_is o.body) (omega arith), tt)),
        );
      },
    ))

-- up to the call
asked_comes :
    {w : Surroundings} {code : List Instr} {p : Point} {numbers : ℕ → ℕ} {x : Beginning} {i : ℕ} (c : ℕ)
    (f g : Family) (q : Premises w code p numbers x) (at : (b : Base) → IsGiven w p b (f b)) →
    Linked w.links code i (number a2 x.head.line) →
    Linked w.links code (i + size_of (number a2 x.head.line)) (small a7 4 ∷ []) →
    ((b : Base) → At b i (Known (point_ground w (begun_point x p) (new_point_frame f q at)) (services_of p) numbers
    (λ n. 0) (enter_regs x.layer.at) b) (g b)) →
    Reach code c g (services_of p) (c + size_of (number a2 x.head.line) + 1) (services_of p)
    (λ b y. At b (i + size_of (number a2 x.head.line) + 1) (Known (point_ground w (begun_point x p)
    (new_point_frame f q at)) (services_of p) numbers (λ n. 0)
    (λ b'. (17, 4) ∷ (12, x.head.line) ∷ enter_regs x.layer.at b') b) y)
asked_comes {w} {p = p} {numbers = numbers} {x = x} c f g q at l l' there =
    let frame = new_point_frame f q at in
    let v = services_of p in
    let line = x.head.line in
    let m = number a2 line in
    let r1 = constant_piece c g a2 (pos line) (word_fits line q.is.line)
    (record { reserved_stay = λ y u. refl; known_stay = λ b y u o. o; set = λ y u. refl }) l there in
    let r2 = straight (c + size_of m) (reached r1) v v
    (λ b y. Known (point_ground w (begun_point x p) frame) v numbers (λ n. 0)
    (λ b'. (17, 4) ∷ (12, line) ∷ enter_regs x.layer.at b') b y)
    l' (omega arith) (λ b. (reached_holds r1 b).pc)
    (λ b. let o = (reached_holds r1 b).holds in record {
      body = record {
        services = o.body.services;
        registers = o.body.registers;
        bytes = o.body.bytes;
        memory = o.body.memory;
      };
      regs = (small_is _ 4 (zero_is o.body) (omega arith), (o.regs.0 ∙ word_is line q.is.line, o.regs.1));
    }) in
    reach_then r1 r2

-- its static parent's frame is the running one
parent_given :
    {w : Surroundings} {code : List Instr} {p : Point} {numbers : ℕ → ℕ} {x : Beginning} (c index : ℕ) (f : Family)
    (q : Premises w code p numbers x) → Linked w.links code index (move a0 frame_register ∷ []) →
    ((b : Base) → IsIn w p numbers index b (f b)) →
    Reach code c f (services_of p) (c + 1) (services_of p)
    (λ b y. IsIn w p numbers (index + 1) b y × IsGiven w p b y)
parent_given {w} {p = p} {numbers = numbers} c index f q l there =
    let h = point_frame q.stands q.image in
    let v = services_of p in
    let at = frame_under w.parts p.control.layers in
    let r = straight c f v v
    (λ b y. Known (point_ground w p h) v numbers (λ n. 0) (λ b'. (10, b'.at + at) ∷ []) b y)
    l (omega arith) (λ b. (there b).at.pc)
    (λ b. let o = (known_in {t = λ n. 0} {rs = nothing} h (there b) tt).holds in record {
      body = record {
        services = o.body.services;
        registers = o.body.registers;
        bytes = o.body.bytes;
        memory = o.body.memory;
      };
      regs = (moved b at ((f b).machine.registers 8) h (frame_is o.body), tt);
    }) in
    reach_map _ r (λ b y o. (in_known h q.image.parts o, o.holds.regs.0))
  where
    moved : (b : Base) (at x : ℕ) → IsFrame at → x ≡ b.at + at → sum x (word (pos 0)) ≡ b.at + at
    moved b at x h e = let room = h.room in let v = b.valid.1 in omega (arith, e, room, v)

-- ---- and ends the run, or the run pauses before

answer_ends :
    {R : Type 0} {w : Surroundings} {code : List Instr} {p : Point} {numbers : ℕ → ℕ} {x : Beginning} {i : ℕ}
    {aims : Aims R} (c : ℕ) (f g : Family) (q : Premises w code p numbers x) (at : (b : Base) → IsGiven w p b (f b)) →
    (c < cost code) × (w.acts + 1 < 2 ^ 64) → Linked w.links code i (Plain I.Ecall ∷ []) →
    ((b : Base) → At b i (Known (point_ground w (begun_point x p) (new_point_frame f q at)) (services_of p) numbers
    (λ n. 0) (λ b'. (17, 4) ∷ (12, x.head.line) ∷ enter_regs x.layer.at b') b) (g b)) →
    Comes code c g (services_of p) aims (finish {R = R} (E.Limit L.Depth) w.acts p.state)
answer_ends {w = w} {code = code} {p = p} {x = x} {i = i} c f g q at fits l there =
    let v = services_of p in
    let v' = with_world (ending (E.Limit L.Depth) v.world) v in
    let calling : Calling w.links code i g (λ b. Ends v') = record {
      linked = l;
      pc = λ b. (there b).pc;
      answers = λ b.
          let o = (there b).holds in
          let m = (g b).machine.memory in
          called code (g b) v 4 1 x.layer.at x.head.line 0 _
          (λ call x0 x1 x2 x3 x4. B.enter_served call x0 x1 x2 x3)
          o.body.services o.regs.0 o.regs.1.1.0 o.regs.1.1.1.0 o.regs.1.0 o.regs.1.1.1.1.0 refl (λ call y. refl)
          ∙ ap (λ call. B.enter_served call 1 x.layer.at x.head.line 0) (call_is w code p m q.image)
          ∙ depth_answered w.units p m x.layer 1 0 x.head.line q.stands.active q.is.entering q.is.full
          ∙ acts v w.acts (Ends v') q.stands.allowed fits.1;
    } in
    comes_finish v' (E.Limit L.Depth) w.acts p.state refl refl
    (end_pauses c g v v' fits.0 q.stands.running (λ b. (there b).holds.body.services) (one_more v.world.acts) calling)
    (call_ends c g v v' (λ e. cc e) calling)

pub deep_inner_ends :
    {R : Type 0} {w : Surroundings} {code : List Instr} {p : Point} {numbers : ℕ → ℕ} {x : Beginning}
    {aims : Aims R} → Closed code aims → (c index : ℕ) (f : Family) → Premises w code p numbers x →
    Linked w.links code index (inner_code x) → (c + size_of (inner_code x) ≤ cost code) × (w.acts + 1 < 2 ^ 64) →
    ((b : Base) → IsIn w p numbers index b (f b)) →
    Comes code c f (services_of p) aims (finish {R = R} (E.Limit L.Depth) w.acts p.state)
deep_inner_ends {w = w} {code = code} {p = p} {x = x} closed c index f q l fits there =
    let zero = move a0 frame_register ∷ [] in
    let rest =
    frame_begun x.layer.words x.layer.level x.layer.parameters None ++ entered_without_texts 1 x.head.line in
    let r0 = parent_given c index f q (front_of zero rest l) there in
    onward closed r0
    (λ f' at'.
    let at : (b : Base) → IsGiven w p b (f' b) = λ b. (at' b).1 in
    let first = inner_frame_code (begun_at w p x f') in
    let line = number a2 x.head.line in
    let one = small a7 4 ∷ [] in
    let last = Plain I.Ecall ∷ [] in
    let l0 = back_of zero rest l in
    let l1 = back_of first (enter_front ++ (line ++ (one ++ last))) l0 in
    let l2 = back_of enter_front (line ++ (one ++ last)) l1 in
    let l3 = back_of line (one ++ last) l2 in
    let n0 = size_append first (enter_front ++ (line ++ (one ++ last))) in
    let n1 = size_append line (one ++ last) in
    let paid = fits.0 in
    let r1 = frame_comes (c + 1) (index + 1) f' q at (front_of first (enter_front ++ (line ++ (one ++ last))) l0)
    (λ b. (at' b).0) in
    let r2 = front_comes (c + 1 + size_of first) f' (reached r1) q at
    (front_of enter_front (line ++ (one ++ last)) l1) (reached_holds r1) in
    let r3 = asked_comes (c + 1 + size_of first + 3) f' (reached r2) q at (front_of line (one ++ last) l2)
    (front_of one last l3) (reached_holds r2) in
    onward closed (reach_then r1 (reach_then r2 r3))
    (λ g there'.
    answer_ends (c + 1 + size_of first + 3 + size_of line + 1) f' g q at (omega (arith, n0, n1, paid), fits.1)
    (back_of one last l3) there'))
