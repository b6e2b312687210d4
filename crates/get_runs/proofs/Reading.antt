-- The point behind an act that reads, and the call of a service that makes it.
use Rattle.std.proofs.Common.{◌≡◌, ℕ, suc, ◌+◌, ◌<◌, List, [], ◌∷◌, refl, arith, add-one}
use Rattle.rv_meaning.specs.declared.instr.Instr.{Instr}
use Rattle.pli_meaning.specs.Control.{act}
use Rattle.pli_meaning.specs.InputLines.{Input}
use Rattle.pli_meaning.specs.StorageState.{with_world}
use Rattle.pli_meaning.specs.World.{counted}
use Rattle.pli_serving.specs.Answers.{Done}
use Rattle.pli_serving.specs.ServiceState.{EditPlace}
use Rattle.storage_relation.specs.Served.{Holds}
use Rattle.storage_relation.proofs.Making.{same_held}
use Rattle.activation_relation.specs.Entering.{Later}
use Rattle.activation_relation.specs.Frames.{frame_under}
use Rattle.activation_relation.specs.Layers.{Point, now, services_of}
use Rattle.activation_relation.specs.Points.{AreOver, Stands, Surroundings}
use Rattle.activation_relation.specs.Remaining.{Remains}
use Rattle.activation_relation.proofs.Remaining.{remains_acted}
use Rattle.activation_relation.proofs.Returning.{later_then}
use Rattle.activation_relation.proofs.Serials.{few_acted}
use Rattle.run_steps.specs.Bodies.{Known}
use Rattle.run_steps.specs.Calls.{Calling}
use Rattle.run_steps.proofs.Calls.{call_acts, call_pauses, comes_act}
use Rattle.run_steps.specs.Engine.{Base}
use Rattle.run_steps.specs.Items.{At}
use Rattle.run_steps.specs.Reach.{Aims, Closed, Comes, Family, cost, reached}
use Rattle.run_steps.proofs.Reach.{reached_holds}
use Rattle.block_runs.specs.Machines.{IsImage}
use Rattle.block_runs.proofs.Places.{IsFrame}
use Rattle.block_runs.proofs.PointGrounds.{point_ground}
use Rattle.program_runs.specs.Statements.{Block, IsAmong}
use Rattle.edit_runs.proofs.Writing.{answered_regs}
use Rattle.get_runs.specs.Reading.{reading}

-- ---- points

reading_stands :
    (w : Surroundings) (change : Input → Input) (edits : List EditPlace) (p : Point) → Stands w p →
    AreOver p.control.entries edits p.control.layers → p.state.world.acts < w.acts → Stands w (reading change edits p)
reading_stands w change edits p h over few =
    record {
      active = h.active;
      laid = h.laid;
      low = h.low;
      lives = record { falling = h.lives.falling; numbered = h.lives.numbered; extents = h.lives.extents };
      owned = record { living = h.owned.living; heap = h.owned.heap; constants = h.owned.constants };
      over = over;
      running = h.running;
      allowed = omega (arith, few);
    }

reading_image :
    {w : Surroundings} {code : List Instr} (change : Input → Input) (edits : List EditPlace) {p : Point} →
    IsImage w code p → IsImage w code (reading change edits p)
reading_image change edits is =
    record { keeper = is.keeper; layout = is.layout; parts = is.parts; even = is.even }

holds_reading :
    (change : Input → Input) (edits : List EditPlace) (p : Point) (m : List ℕ) → Holds (now p m) →
    Holds (now (reading change edits p) m)
holds_reading change edits p m h =
    record {
      keeps = h.keeps;
      heap = record { at = h.heap.at; capacity = h.heap.capacity };
      lives = record { falling = h.lives.falling; numbered = h.lives.numbered; extents = h.lives.extents };
      stored = same_held p.keeper p.places p.state (reading change edits p).state m refl refl h.stored;
      distinct = h.distinct;
    }

reading_remains : (change : Input → Input) (edits : List EditPlace) (p : Point) → Remains p (reading change edits p)
reading_remains change edits p =
    let r = remains_acted p counted p.control.line in
    record {
      living = r.living;
      serials = r.serials;
      at = r.at;
      number = r.number;
      signatures = r.signatures;
      statics = r.statics;
      low = r.low;
      constants = r.constants;
      active = r.active;
      in_use = r.in_use;
    }

reading_later : (change : Input → Input) (p : Point) → Later p (reading change p.control.edits p)
reading_later change p =
    record {
      activations = refl;
      layers = refl;
      edits = refl;
      waiting = refl;
      acts = omega arith;
      remains = reading_remains change p.control.edits p;
    }

-- the input is no part of what a block's points have in common
pub reading_among :
    {k : Block} {numbers : ℕ → ℕ} {p : Point} (change : Input → Input) → IsAmong k numbers p →
    p.state.world.acts < k.call.surroundings.acts → IsAmong k numbers (reading change p.control.edits p)
reading_among {k} {numbers} {p} change o less =
    record {
      stands = reading_stands k.call.surroundings change p.control.edits p o.stands o.stands.over less;
      image = reading_image change p.control.edits o.image;
      later = later_then k.first p (reading change p.control.edits p) o.later (reading_later change p);
      few = few_acted k.call.surroundings p p.control.line o.few;
      entries = o.entries;
      others = o.others;
      words = o.words;
    }

-- ---- the call

-- what is read, the places in format lists behind it, and what the service leaves in a0 and a1
pub record Read : Type 0 where
  pub change : Input → Input
  pub edits : List EditPlace
  pub first : Base → ℕ
  pub second : Base → ℕ

abbrev pub read_on : Read → Point → Point
read_on x p = reading x.change x.edits p

-- before the call of a service that reads; the run pauses there, or comes behind it with any credits, with the input
-- read on already, as the meaning will have it
pub reading_comes :
    {w : Surroundings} {code : List Instr} {p : Point} {numbers : ℕ → ℕ} {i : ℕ} {aims : Aims (Unit {0})}
    {rs : Base → List (ℕ × ℕ)} (closed : Closed code aims) (x : Read) (c wanted : ℕ) (f : Family)
    (h : IsFrame (frame_under w.parts p.control.layers)) → Stands w p → c < cost code →
    ((b : Base) → At b i (Known (point_ground w p h) (services_of p) numbers (λ n. 0) rs b) (f b)) →
    Calling w.links code i f (λ b. Done (services_of (read_on x p)) (f b).machine.memory (x.first b) (x.second b)) →
    ((f' : Family) → p.state.world.acts < w.acts →
    ((b : Base) →
    At b (i + 1)
    (Known (point_ground w (read_on x p) h) (services_of (read_on x p)) numbers (λ n. 0)
    (answered_regs x.first x.second) b) (f' b)) →
    aims.done wanted f' (services_of (read_on x p)) tt (with_world (counted p.state.world) p.state)) →
    Comes code c f (services_of p) aims (act counted w.acts p.state)
reading_comes {w} {code} {p} {numbers} {i} closed x c wanted f h stands few at calling goal =
    let q = read_on x p in
    let v = services_of p in
    let v' = services_of q in
    let more : v'.world.acts ≡ suc v.world.acts = add-one v.world.acts in
    comes_act counted w.acts p.state refl
    (call_pauses c f v v' (λ b. (f b).machine.memory) x.first x.second few stands.running
    (λ b. (at b).holds.body.services) more calling)
    (λ less.
    let r = call_acts c wanted f v v' (λ b. (f b).machine.memory) x.first x.second
    (λ b y. Known (point_ground w q h) v' numbers (λ n. 0) (answered_regs x.first x.second) b y) few more calling
    (λ b. let o = (at b).holds.body in
    record {
      body = record {
        services = refl;
        registers = o.registers;
        bytes = o.bytes;
        memory = record {
          storage = holds_reading x.change x.edits p (f b).machine.memory o.memory.storage;
          frames = o.memory.frames;
        };
      };
      regs = (refl, (refl, tt));
    }) in
    closed.done r tt (with_world (counted p.state.world) p.state) (goal (reached r) less (reached_holds r)))
