-- The point behind an act that writes, and the call of a service that makes it.
use Rattle.std.proofs.Common.{◌≡◌, ℕ, suc, ◌+◌, ◌<◌, List, [], ◌∷◌, refl, arith, add-one}
use Rattle.rv_meaning.specs.declared.instr.Instr.{Instr}
use Rattle.pli_meaning.specs.Control.{act}
use Rattle.pli_meaning.specs.World.{written}
use Rattle.pli_serving.specs.Answers.{Done}
use Rattle.pli_serving.specs.ServiceState.{EditPlace, Entry}
use Rattle.storage_relation.specs.Served.{Holds}
use Rattle.storage_relation.proofs.Making.{same_held}
use Rattle.activation_relation.specs.Entering.{Later}
use Rattle.activation_relation.specs.Frames.{frame_under}
use Rattle.activation_relation.specs.Layers.{Point, now, services_of}
use Rattle.activation_relation.specs.Points.{AreOver, Stands, Surroundings}
use Rattle.activation_relation.specs.Remaining.{Remains}
use Rattle.activation_relation.proofs.Remaining.{remains_acted}
use Rattle.activation_relation.proofs.Returning.{later_then}
use Rattle.activation_relation.proofs.Serials.{few_acted}
use Rattle.run_steps.specs.Bodies.{Known}
use Rattle.run_steps.specs.Calls.{Calling}
use Rattle.run_steps.proofs.Calls.{call_acts, call_pauses, comes_act}
use Rattle.run_steps.specs.Engine.{Base}
use Rattle.run_steps.specs.Items.{At}
use Rattle.run_steps.specs.Reach.{Aims, Closed, Comes, Family, cost, reached}
use Rattle.run_steps.proofs.Reach.{reached_holds}
use Rattle.block_runs.specs.Machines.{IsImage}
use Rattle.block_runs.proofs.Places.{IsFrame}
use Rattle.block_runs.proofs.PointGrounds.{point_ground}
use Rattle.program_runs.specs.Statements.{Block, IsAmong, with_texts}
use Rattle.program_runs.proofs.Waiting.{texts_in}
use Rattle.edit_runs.specs.Writing.{writing}

-- ---- points

pub writing_stands :
    (w : Surroundings) (item : List ℕ → List ℕ) (edits : List EditPlace) (p : Point) → Stands w p →
    AreOver p.control.entries edits p.control.layers → p.state.world.acts < w.acts → Stands w (writing item edits p)
writing_stands w item edits p h over few =
    record {
      active = h.active;
      laid = h.laid;
      low = h.low;
      lives = record { falling = h.lives.falling; numbered = h.lives.numbered; extents = h.lives.extents };
      owned = record { living = h.owned.living; heap = h.owned.heap; constants = h.owned.constants };
      over = over;
      running = h.running;
      allowed = omega (arith, few);
    }

pub writing_image :
    {w : Surroundings} {code : List Instr} (item : List ℕ → List ℕ) (edits : List EditPlace) {p : Point} →
    IsImage w code p → IsImage w code (writing item edits p)
writing_image item edits is =
    record { keeper = is.keeper; layout = is.layout; parts = is.parts; even = is.even }

pub holds_writing :
    (item : List ℕ → List ℕ) (edits : List EditPlace) (p : Point) (m : List ℕ) → Holds (now p m) →
    Holds (now (writing item edits p) m)
holds_writing item edits p m h =
    record {
      keeps = h.keeps;
      heap = record { at = h.heap.at; capacity = h.heap.capacity };
      lives = record { falling = h.lives.falling; numbered = h.lives.numbered; extents = h.lives.extents };
      stored = same_held p.keeper p.places p.state (writing item edits p).state m refl refl h.stored;
      distinct = h.distinct;
    }

writing_remains : (item : List ℕ → List ℕ) (edits : List EditPlace) (p : Point) → Remains p (writing item edits p)
writing_remains item edits p =
    let r = remains_acted p (written item) p.control.line in
    record {
      living = r.living;
      serials = r.serials;
      at = r.at;
      number = r.number;
      signatures = r.signatures;
      statics = r.statics;
      low = r.low;
      constants = r.constants;
      active = r.active;
      in_use = r.in_use;
    }

writing_later : (item : List ℕ → List ℕ) (p : Point) → Later p (writing item p.control.edits p)
writing_later item p =
    record {
      activations = refl;
      layers = refl;
      edits = refl;
      waiting = refl;
      acts = omega arith;
      remains = writing_remains item p.control.edits p;
    }

pub writing_among :
    {k : Block} {numbers : ℕ → ℕ} {p : Point} (item : List ℕ → List ℕ) → IsAmong k numbers p →
    p.state.world.acts < k.call.surroundings.acts → IsAmong k numbers (writing item p.control.edits p)
writing_among {k} {numbers} {p} item o less =
    record {
      stands = writing_stands k.call.surroundings item p.control.edits p o.stands o.stands.over less;
      image = writing_image item p.control.edits o.image;
      later = later_then k.first p (writing item p.control.edits p) o.later (writing_later item p);
      few = few_acted k.call.surroundings p p.control.line o.few;
      entries = o.entries;
      others = o.others;
      words = o.words;
    }

-- ---- the call

-- what is written, the texts that wait and the places in format lists behind it, and what the service leaves in a0 and
-- a1
pub record Shown : Type 0 where
  pub item : List ℕ → List ℕ
  pub texts : List Entry
  pub edits : List EditPlace
  pub first : Base → ℕ
  pub second : Base → ℕ

abbrev pub shown : Shown → Point → Point
shown x p = writing x.item x.edits (with_texts x.texts p)

-- a0 and a1
abbrev pub answered_regs : (x y : Base → ℕ) → Base → List (ℕ × ℕ)
answered_regs x y b = (10, x b) ∷ (11, y b) ∷ []

-- before the call of a service that makes an act; the run pauses there, or comes behind it with any credits
pub writing_comes :
    {w : Surroundings} {code : List Instr} {p : Point} {numbers : ℕ → ℕ} {i : ℕ} {aims : Aims (Unit {0})}
    {rs : Base → List (ℕ × ℕ)} (closed : Closed code aims) (x : Shown) (c wanted : ℕ) (f : Family)
    (h : IsFrame (frame_under w.parts p.control.layers)) → Stands w p → c < cost code →
    ((b : Base) → At b i (Known (point_ground w p h) (services_of p) numbers (λ n. 0) rs b) (f b)) →
    Calling w.links code i f (λ b. Done (services_of (shown x p)) (f b).machine.memory (x.first b) (x.second b)) →
    ((f' : Family) → p.state.world.acts < w.acts →
    ((b : Base) →
    At b (i + 1)
    (Known (point_ground w (shown x p) h) (services_of (shown x p)) numbers (λ n. 0)
    (answered_regs x.first x.second) b) (f' b)) →
    aims.done wanted f' (services_of (shown x p)) tt (shown x p).state) →
    Comes code c f (services_of p) aims (act (written x.item) w.acts p.state)
writing_comes {w} {code} {p} {numbers} {i} closed x c wanted f h stands few at calling goal =
    let q = shown x p in
    let v = services_of p in
    let v' = services_of q in
    let more : v'.world.acts ≡ suc v.world.acts = add-one v.world.acts in
    comes_act (written x.item) w.acts p.state refl
    (call_pauses c f v v' (λ b. (f b).machine.memory) x.first x.second few stands.running
    (λ b. (at b).holds.body.services) more calling)
    (λ less.
    let r = call_acts c wanted f v v' (λ b. (f b).machine.memory) x.first x.second
    (λ b y. Known (point_ground w q h) v' numbers (λ n. 0) (answered_regs x.first x.second) b y) few more calling
    (λ b. let o = (at b).holds.body in
    record {
      body = record {
        services = refl;
        registers = o.registers;
        bytes = o.bytes;
        memory = record {
          storage = holds_writing x.item x.edits (with_texts x.texts p) (f b).machine.memory
              (texts_in x.texts o.memory).storage;
          frames = o.memory.frames;
        };
      };
      regs = (refl, (refl, tt));
    }) in
    closed.done r tt q.state (goal (reached r) less (reached_holds r)))
