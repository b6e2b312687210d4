-- A machine at a point is one on the point's ground, in which all frames stand and all that is stored.
use Rattle.std.proofs.Common.{◌≡◌, ℕ, ◌+◌, ◌*◌, ◌<◌, List, [], ◌∷◌, length, refl, sym, ap, ◌∙◌}
use Rattle.std.proofs.Common.{arith}
use Rattle.rv_meaning.specs.declared.instr.Instr.{Instr}
use Rattle.pli_coding.specs.Registers.{held}
use Rattle.image_runs.specs.Runs.{Whole, layout_of}
use Rattle.storage_relation.specs.Served.{Holds}
use Rattle.activation_relation.specs.Frames.{FramesStand, frame_under, upper_top}
use Rattle.activation_relation.specs.Layers.{Point, now, services_of}
use Rattle.activation_relation.specs.Points.{Stands, Surroundings}
use Rattle.activation_relation.specs.ServiceLaws.{at_point}
use Rattle.run_steps.specs.Bodies.{Regs, Ground, Known, reserved, reserved_are}
use Rattle.run_steps.proofs.Bodies.{frame_is, zero_is}
use Rattle.run_steps.specs.Engine.{Base, call_at}
use Rattle.run_steps.specs.Items.{At}
use Rattle.run_steps.proofs.Temporaries.{held_is}
use Rattle.block_runs.specs.Machines.{IsIn, IsImage, HasParts}
use Rattle.block_runs.proofs.Places.{newest_frame, IsFrame, ground_at}
use Rattle.block_runs.proofs.FrameBeginnings.{stack_is}

pub record StandsIn (w : Surroundings) (p : Point) (b : Base) (m : List ℕ) : Type 0 where
  pub storage : Holds (now p m)
  pub frames : FramesStand w.parts b.at m p.state.activations p.control.layers

abbrev pub point_ground : (w : Surroundings) (p : Point) → IsFrame (frame_under w.parts p.control.layers) → Ground
point_ground w p h =
    ground_at (frame_under w.parts p.control.layers) (upper_top w.parts p.control.layers) h (λ b m. StandsIn w p b m)

-- ---- registers, one by one

ten :
    (x : ℕ → ℕ) (free frame : ℕ) (h : ℕ → ℕ) → x 0 ≡ 0 → x 2 ≡ free → x 8 ≡ frame →
    ((n : ℕ) → n < 7 → x (held n).index ≡ h n) →
    reserved x ≡ 0 ∷ free ∷ frame ∷ h 0 ∷ h 1 ∷ h 2 ∷ h 3 ∷ h 4 ∷ h 5 ∷ h 6 ∷ []
ten x free frame h z s f r =
    let e0 : x 9 ≡ h 0 = r 0 (omega arith) in
    let e1 : x 18 ≡ h 1 = r 1 (omega arith) in
    let e2 : x 19 ≡ h 2 = r 2 (omega arith) in
    let e3 : x 20 ≡ h 3 = r 3 (omega arith) in
    let e4 : x 21 ≡ h 4 = r 4 (omega arith) in
    let e5 : x 22 ≡ h 5 = r 5 (omega arith) in
    let e6 : x 23 ≡ h 6 = r 6 (omega arith) in
    ap (λ u. u ∷ x 2 ∷ x 8 ∷ x 9 ∷ x 18 ∷ x 19 ∷ x 20 ∷ x 21 ∷ x 22 ∷ x 23 ∷ []) z
    ∙ ap (λ u. 0 ∷ u ∷ x 8 ∷ x 9 ∷ x 18 ∷ x 19 ∷ x 20 ∷ x 21 ∷ x 22 ∷ x 23 ∷ []) s
    ∙ ap (λ u. 0 ∷ free ∷ u ∷ x 9 ∷ x 18 ∷ x 19 ∷ x 20 ∷ x 21 ∷ x 22 ∷ x 23 ∷ []) f
    ∙ ap (λ u. 0 ∷ free ∷ frame ∷ u ∷ x 18 ∷ x 19 ∷ x 20 ∷ x 21 ∷ x 22 ∷ x 23 ∷ []) e0
    ∙ ap (λ u. 0 ∷ free ∷ frame ∷ h 0 ∷ u ∷ x 19 ∷ x 20 ∷ x 21 ∷ x 22 ∷ x 23 ∷ []) e1
    ∙ ap (λ u. 0 ∷ free ∷ frame ∷ h 0 ∷ h 1 ∷ u ∷ x 20 ∷ x 21 ∷ x 22 ∷ x 23 ∷ []) e2
    ∙ ap (λ u. 0 ∷ free ∷ frame ∷ h 0 ∷ h 1 ∷ h 2 ∷ u ∷ x 21 ∷ x 22 ∷ x 23 ∷ []) e3
    ∙ ap (λ u. 0 ∷ free ∷ frame ∷ h 0 ∷ h 1 ∷ h 2 ∷ h 3 ∷ u ∷ x 22 ∷ x 23 ∷ []) e4
    ∙ ap (λ u. 0 ∷ free ∷ frame ∷ h 0 ∷ h 1 ∷ h 2 ∷ h 3 ∷ h 4 ∷ u ∷ x 23 ∷ []) e5
    ∙ ap (λ u. 0 ∷ free ∷ frame ∷ h 0 ∷ h 1 ∷ h 2 ∷ h 3 ∷ h 4 ∷ h 5 ∷ u ∷ []) e6

pub registers_in :
    {w : Surroundings} {p : Point} {numbers : ℕ → ℕ} {index : ℕ} {b : Base} {y : Whole} (g : Ground) →
    g.frame ≡ frame_under w.parts p.control.layers → g.free ≡ upper_top w.parts p.control.layers →
    IsIn w p numbers index b y → reserved y.machine.registers ≡ reserved_are b g numbers
registers_in {numbers = numbers} {b = b} {y = y} g frame free is =
    ten y.machine.registers (b.at + g.free) (b.at + g.frame) numbers is.zero
    (is.at.top ∙ ap (λ n. b.at + n) (sym free)) (is.at.frame ∙ ap (λ n. b.at + n) (sym frame)) is.at.registers

-- ---- and back

pub in_known :
    {w : Surroundings} {p : Point} {numbers t : ℕ → ℕ} {index : ℕ} {b : Base} {y : Whole}
    {rs : Base → List (ℕ × ℕ)} (h : IsFrame (frame_under w.parts p.control.layers)) → HasParts w.parts →
    At b index (Known (point_ground w p h) (services_of p) numbers t rs b) y → IsIn w p numbers index b y
in_known {w} {p} {numbers} {t} {index} {b} {y} h parts o =
    let body = o.holds.body in
    let g = point_ground w p h in
    let last = parts.inside in
    let bytes = body.bytes in
    record {
      services = body.services;
      at = record {
        pc = o.pc;
        frame = frame_is body;
        top = stack_is g b numbers y.machine.registers body.registers;
        registers = λ n less. held_is n g b numbers y.machine.registers less body.registers;
        room = omega (arith, bytes, last);
        frames = body.memory.frames;
        storage = body.memory.storage;
      };
      zero = zero_is body;
      bytes = body.bytes;
    }

-- ---- calls of services at a point

pub call_is : (w : Surroundings) (code : List Instr) (p : Point) (m : List ℕ) → IsImage w code p →
    call_at code (services_of p) m ≡ at_point p m
call_is w code p m is =
    ap (λ k. record { keeper = k; layout = layout_of (4 * length code); services = services_of p; memory = m })
    (sym is.keeper)
    ∙ ap (λ y. record { keeper = p.keeper; layout = y; services = services_of p; memory = m }) (sym is.layout)

pub known_in :
    {w : Surroundings} {p : Point} {numbers t : ℕ → ℕ} {index : ℕ} {b : Base} {y : Whole} {rs : Base → List (ℕ × ℕ)}
    (h : IsFrame (frame_under w.parts p.control.layers)) → IsIn w p numbers index b y →
    Regs (rs b) y.machine.registers →
    At b index (Known (point_ground w p h) (services_of p) numbers t rs b) y
known_in {w} {p} h is regs =
    record {
      pc = is.at.pc;
      holds = record {
        body = record {
          services = is.services;
          registers = registers_in (point_ground w p h) refl refl is;
          bytes = is.bytes;
          memory = record { storage = is.at.storage; frames = is.at.frames };
        };
        regs = regs;
      };
    }

pub point_frame : {w : Surroundings} {code : List Instr} {p : Point} → Stands w p → IsImage w code p →
    IsFrame (frame_under w.parts p.control.layers)
point_frame {w} {p = p} stands image = newest_frame w.parts p.control.layers image.parts stands.laid image.even
