-- An act at a point: the run pauses before it, or goes on behind it with any credits.
use Rattle.std.proofs.Common.{◌≡◌, ℕ, suc, ◌+◌, ◌^◌, ◌<◌, ◌≤◌, List, [], ◌∷◌, ◌++◌, refl, ap, ◌∙◌, arith}
use Rattle.std.proofs.lemmas.Bool.{lt-ltb}
use Rattle.std.specs.Prelude.{pos}
use Rattle.rv_meaning.specs.declared.instr.Instr.{Instr}
use Rattle.rv_meaning.specs.declared.instr.Instr.TheVariants as I
use Rattle.pli_meaning.specs.Control.{act}
use Rattle.pli_meaning.specs.World.{counted}
use Rattle.pli_serving.specs.ActsAndEnds as W
use Rattle.pli_serving.specs.Answers.{Done}
use Rattle.pli_coding.specs.Allocating.{act_code}
use Rattle.pli_coding.specs.Assembly.{Plain, size_of}
use Rattle.pli_coding.specs.Instructions.{small, number}
use Rattle.pli_coding.specs.Registers.{a0, a1, a7}
use Rattle.storage_relation.specs.Served.{Holds}
use Rattle.storage_relation.proofs.Making.{same_held}
use Rattle.activation_relation.specs.Layers.{Point, now, services_of}
use Rattle.activation_relation.specs.Points.{Surroundings, Stands}
use Rattle.activation_relation.proofs.Blocks.{act_answered}
use Rattle.activation_relation.proofs.PointSteps.{acted_stands}
use Rattle.run_steps.specs.Bodies.{Known}
use Rattle.run_steps.proofs.Bodies.{constant_piece, zero_is}
use Rattle.run_steps.specs.Calls.{Calling}
use Rattle.run_steps.proofs.Calls.{called, call_acts, call_pauses, comes_act}
use Rattle.image_runs.specs.Runs.{Whole}
use Rattle.activation_relation.specs.Frames.{frame_under}
use Rattle.run_steps.specs.Engine.{Base, address}
use Rattle.run_steps.specs.Items.{Linked, At}
use Rattle.run_steps.proofs.Items.{straight}
use Rattle.run_steps.proofs.Jumps.{front_of, back_of}
use Rattle.run_steps.proofs.Linking.{size_append}
use Rattle.run_steps.specs.Reach.{Family, Reach, reached, Aims, Closed, Comes, cost}
use Rattle.run_steps.proofs.Reach.{reach_then, reached_holds, onward, stay}
use Rattle.run_steps.specs.Temporaries.{nothing}
use Rattle.block_runs.specs.Machines.{IsIn, IsImage, AreIn, acted, limits_of}
use Rattle.block_runs.proofs.BlockEntries.{small_is, word_is, word_fits}
use Rattle.block_runs.proofs.Places.{IsFrame}
use Rattle.block_runs.proofs.PointGrounds.{point_ground, known_in, in_known, point_frame, call_is}

-- ---- the point behind it

holds_acted : (line : ℕ) (p : Point) (m : List ℕ) → Holds (now p m) → Holds (now (acted line p) m)
holds_acted line p m h =
    record {
      keeps = h.keeps;
      heap = record { at = h.heap.at; capacity = h.heap.capacity };
      lives = record { falling = h.lives.falling; numbered = h.lives.numbered; extents = h.lives.extents };
      stored = same_held p.keeper p.places p.state (acted line p).state m refl refl h.stored;
      distinct = h.distinct;
    }

pub stands_acted :
    {w : Surroundings} {code : List Instr} (line : ℕ) {p : Point} → Stands w p → IsImage w code p →
    p.state.world.acts < w.acts → Stands w (acted line p) × IsImage w code (acted line p)
stands_acted {w} line {p} stands image few = (
  acted_stands w p line stands few,
  record { keeper = image.keeper; layout = image.layout; parts = image.parts; even = image.even },
)

-- ---- up to the call

abbrev asked_regs : (line : ℕ) → Base → List (ℕ × ℕ)
asked_regs line b = (17, 1) ∷ (11, 0) ∷ (10, line) ∷ []

act_asked :
    {w : Surroundings} {code : List Instr} {p : Point} {numbers : ℕ → ℕ} {i : ℕ} (line c : ℕ) (f : Family)
    (h : IsFrame (frame_under w.parts p.control.layers)) → line < 2 ^ 31 → Linked w.links code i (number a0 line) →
    Linked w.links code (i + size_of (number a0 line)) (small a1 0 ∷ small a7 1 ∷ []) → AreIn w p numbers i f →
    Reach code c f (services_of p) (c + size_of (number a0 line) + 2) (services_of p)
    (λ b y. At b (i + size_of (number a0 line) + 2)
    (Known (point_ground w p h) (services_of p) numbers (λ n. 0) (asked_regs line) b) y)
act_asked {w} {p = p} {numbers = numbers} line c f h fits l l' there =
    let v = services_of p in
    let m = number a0 line in
    let r1 = constant_piece {rs = nothing} c f a0 (pos line) (word_fits line fits)
    (record { reserved_stay = λ y u. refl; known_stay = λ b y u o. o; set = λ y u. refl }) l
    (λ b. known_in {t = λ n. 0} {rs = nothing} h (there b) tt) in
    let r2 = straight (c + size_of m) (reached r1) v v
    (λ b y. Known (point_ground w p h) v numbers (λ n. 0) (asked_regs line) b y) l' (omega arith)
    (λ b. (reached_holds r1 b).pc)
    (λ b. let o = (reached_holds r1 b).holds in record {
      body = record {
        services = o.body.services;
        registers = o.body.registers;
        bytes = o.body.bytes;
        memory = o.body.memory;
      };
      regs = (
        small_is _ 1 (zero_is o.body) (omega arith),
        (small_is _ 0 (zero_is o.body) (omega arith), (o.regs.0 ∙ word_is line fits, tt)),
      );
    }) in
    reach_then r1 r2

-- ---- the call

act_calling :
    {w : Surroundings} {code : List Instr} {p : Point} {numbers : ℕ → ℕ} {i : ℕ} (line : ℕ) (f : Family)
    (h : IsFrame (frame_under w.parts p.control.layers)) → IsImage w code p → p.state.world.acts + 1 < 2 ^ 64 →
    Linked w.links code i (Plain I.Ecall ∷ []) →
    ((b : Base) → At b i (Known (point_ground w p h) (services_of p) numbers (λ n. 0) (asked_regs line) b) (f b)) →
    Calling w.links code i f (λ b. Done (services_of (acted line p)) (f b).machine.memory line 0)
act_calling {w} {code} {p} line f h image few l there =
    let v = services_of p in
    record {
      linked = l;
      pc = λ b. (there b).pc;
      answers = λ b.
          let o = (there b).holds in
          let m = (f b).machine.memory in
          let x = (f b).machine.registers in
          called code (f b) v 1 line 0 (x 12) (x 13) (x 14) (λ call x0 x1 x2 x3 x4. W.act_served call x0 x1)
          o.body.services o.regs.0 o.regs.1.1.0 o.regs.1.0 refl refl refl (λ call y. refl)
          ∙ ap (λ call. W.act_served call line 0) (call_is w code p m image)
          ∙ act_answered p m line (lt-ltb (p.state.world.acts + 1) (2 ^ 64) few);
    }

one : (n : ℕ) → n + 1 ≡ suc n
one n = omega arith

moved_at : {P : Whole → Type 0} {n j : ℕ} (b : Base) (y : Whole) → n ≡ j → At b n P y → At b j P y
moved_at b y e o = record { pc = o.pc ∙ ap (address b) e; holds = o.holds }

-- an act of the meaning, with the line that it tells
pub act_comes :
    {w : Surroundings} {code : List Instr} {p : Point} {numbers : ℕ → ℕ} {i : ℕ} {aims : Aims (Unit {0})}
    (closed : Closed code aims) (line c wanted : ℕ) (f : Family) → Stands w p × IsImage w code p →
    (line < 2 ^ 31) × (w.acts + 1 < 2 ^ 64) × (c + size_of (act_code line) ≤ cost code) →
    Linked w.links code i (act_code line) → AreIn w p numbers i f →
    ((f' : Family) → p.state.world.acts < w.acts → AreIn w (acted line p) numbers (i + size_of (act_code line)) f' →
    aims.done wanted f' (services_of (acted line p)) tt (acted line p).state) →
    Comes code c f (services_of p) aims (act counted w.acts p.state)
act_comes {w} {code} {p} {numbers} {i} closed line c wanted f known fits l there goal =
    let h = point_frame known.0 known.1 in
    let image = known.1 in
    let m = number a0 line in
    let two = small a1 0 ∷ small a7 1 ∷ [] in
    let call = Plain I.Ecall ∷ [] in
    let l1 = back_of m (two ++ call) l in
    let n0 = size_append m (two ++ call) in
    let allowed = known.0.allowed in
    let most = fits.1 in
    let paid = fits.2 in
    let running = known.0.running in
    let r = act_asked line c f h fits.0 (front_of m (two ++ call) l) (front_of two call l1) there in
    onward closed r
    (λ g at.
    let calling = act_calling line g h image (omega (arith, allowed, most)) (back_of two call l1) at in
    comes_act counted w.acts p.state refl
    (call_pauses (c + size_of m + 2) g (services_of p) (services_of (acted line p)) (λ b. (g b).machine.memory)
    (λ b. line) (λ b. 0) (omega (arith, n0, paid)) running (λ b. (at b).holds.body.services) (one (p.state.world.acts))
    calling)
    (λ less.
    let r' = call_acts (c + size_of m + 2) wanted g (services_of p) (services_of (acted line p))
    (λ b. (g b).machine.memory) (λ b. line) (λ b. 0)
    (λ b y. Known (point_ground w (acted line p) h) (services_of (acted line p)) numbers (λ n. 0) nothing b y)
    (omega (arith, n0, paid)) (one (p.state.world.acts)) calling
    (λ b. let o = (at b).holds.body in
    record {
      body = record {
        services = refl;
        registers = o.registers;
        bytes = o.bytes;
        memory = record {
          storage = holds_acted line p (g b).machine.memory o.memory.storage;
          frames = o.memory.frames;
        };
      };
      regs = tt;
    }) in
    closed.done r' tt (acted line p).state
    (goal (reached r') less (λ b. in_known h image.parts
    (moved_at b (reached r' b) (omega (arith, n0)) (reached_holds r' b))))))

-- ---- as it is said of one place behind it

abbrev behind_aims :
    Surroundings → List Instr → Point → (numbers : ℕ → ℕ) → (line wanted index : ℕ) → Aims (Unit {0})
behind_aims w code p numbers line wanted index =
    record {
      limits = limits_of w;
      done = λ c f v r s.
          (s ≡ (acted line p).state)
          × Reach code c f v wanted (services_of (acted line p)) (λ b y. IsIn w (acted line p) numbers index b y);
      jumped = λ c f v height label s. ⊥;
      returned = λ c f v r s. ⊥;
    }

behind_closed :
    (w : Surroundings) (code : List Instr) (p : Point) (numbers : ℕ → ℕ) (line wanted index : ℕ) →
    Closed code (behind_aims w code p numbers line wanted index)
behind_closed w code p numbers line wanted index =
    record {
      done = λ r x s o. (o.0, reach_then r o.1);
      jumped = λ r height label s o. absurd o;
      returned = λ r x s o. absurd o;
    }

pub act_reaches :
    (w : Surroundings) (code : List Instr) (p : Point) (numbers : ℕ → ℕ) (line c wanted i : ℕ) (f : Family) →
    Stands w p × IsImage w code p →
    (line < 2 ^ 31) × (w.acts + 1 < 2 ^ 64) × (c + size_of (act_code line) ≤ cost code) →
    Linked w.links code i (act_code line) → AreIn w p numbers i f →
    Comes code c f (services_of p) (behind_aims w code p numbers line wanted (i + size_of (act_code line)))
    (act counted w.acts p.state)
act_reaches w code p numbers line c wanted i f known fits l there =
    let j = i + size_of (act_code line) in
    act_comes (behind_closed w code p numbers line wanted j) line c wanted f known fits l there
    (λ f' less at.
    (refl, stay code wanted f' (services_of (acted line p)) (λ b y. IsIn w (acted line p) numbers j b y) at))
