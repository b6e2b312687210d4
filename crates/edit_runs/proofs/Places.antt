-- What holds at a point, and in a block, holds with other places in format lists.
use Rattle.std.proofs.Common.{◌≡◌, ◌⊎◌, inl, inr, ℕ, List, [], ◌∷◌, sym, ap, subst}
use Rattle.rv_meaning.specs.declared.instr.Instr.{Instr}
use Rattle.pli_meaning.specs.Control.{Label}
use Rattle.pli_meaning.specs.StorageState.{State}
use Rattle.pli_serving.specs.ServiceState.{EditPlace, Entry, Services}
use Rattle.storage_relation.specs.Served.{Holds}
use Rattle.activation_relation.specs.Entering.{Later}
use Rattle.activation_relation.specs.Landing.{closed}
use Rattle.activation_relation.specs.Layers.{Layer, Point, now}
use Rattle.activation_relation.specs.Points.{AreOver, Stands, Surroundings}
use Rattle.activation_relation.specs.Remaining.{Remains}
use Rattle.run_steps.specs.Engine.{Base}
use Rattle.run_steps.specs.Reach.{Family}
use Rattle.block_runs.specs.Machines.{IsImage}
use Rattle.block_runs.proofs.PointGrounds.{StandsIn}
use Rattle.program_runs.specs.Calls.{Callee}
use Rattle.program_runs.specs.Statements.{Block, IsAmong, IsBegun, JumpsOut, JumpsTo, LandsAt}
use Rattle.expression_runs.specs.Raises.{IsUnraised}
use Rattle.expression_runs.specs.Values.{Setting}
use Rattle.expression_runs.specs.Variables.{IsNumber, Spot}
use Rattle.function_runs.specs.FunctionCalls.{IsFunctionCall}
use Rattle.text_runs.specs.Texts.{IsErrorless}
use Rattle.edit_runs.specs.Edits.{placing, within}
use Rattle.edit_runs.specs.Writing.{with_edits}

-- ---- points

-- one place more stands over all layers
pub over_place :
    (place : EditPlace) (entries : List Entry) (edits : List EditPlace) (φs : List Layer) → AreOver entries edits φs →
    AreOver entries (place ∷ edits) φs
over_place place entries edits [] h = tt
over_place place entries edits (φ ∷ φs) h =
    ((h.0.0, (place ∷ h.0.1.0, ap (λ u. place ∷ u) h.0.1.1)), h.1)

pub edits_stand :
    {w : Surroundings} (edits : List EditPlace) {p : Point} → Stands w p →
    AreOver p.control.entries edits p.control.layers → Stands w (with_edits edits p)
edits_stand edits h over' =
    record {
      active = h.active;
      laid = h.laid;
      low = h.low;
      lives = h.lives;
      owned = h.owned;
      over = over';
      running = h.running;
      allowed = h.allowed;
    }

edits_image :
    {w : Surroundings} {code : List Instr} (edits : List EditPlace) {p : Point} → IsImage w code p →
    IsImage w code (with_edits edits p)
edits_image edits h = record { keeper = h.keeper; layout = h.layout; parts = h.parts; even = h.even }

edits_hold : (edits : List EditPlace) (p : Point) (m : List ℕ) → Holds (now p m) → Holds (now (with_edits edits p) m)
edits_hold edits p m h =
    record {
      keeps = h.keeps;
      heap = record { at = h.heap.at; capacity = h.heap.capacity };
      lives = record { falling = h.lives.falling; numbered = h.lives.numbered; extents = h.lives.extents };
      stored = h.stored;
      distinct = h.distinct;
    }

pub edits_in :
    {w : Surroundings} (edits : List EditPlace) {p : Point} {b : Base} {m : List ℕ} → StandsIn w p b m →
    StandsIn w (with_edits edits p) b m
edits_in edits {p} {m = m} h = record { storage = edits_hold edits p m h.storage; frames = h.frames }

-- whatever places there are at both
edits_remain :
    (before after : List EditPlace) {p q : Point} → Remains p q → Remains (with_edits before p) (with_edits after q)
edits_remain before after h =
    record {
      living = h.living;
      serials = h.serials;
      at = h.at;
      number = h.number;
      signatures = h.signatures;
      statics = h.statics;
      low = h.low;
      constants = h.constants;
      active = h.active;
      in_use = h.in_use;
    }

edits_later :
    (before after : List EditPlace) {p q : Point} → Later p q → after ≡ before →
    Later (with_edits before p) (with_edits after q)
edits_later before after h e =
    record {
      activations = h.activations;
      layers = h.layers;
      edits = e;
      waiting = h.waiting;
      acts = h.acts;
      remains = edits_remain before after h.remains;
    }

-- ---- points of a block

-- from some places to others that stand over the block's layers
pub edits_among :
    (k : Block) {numbers : ℕ → ℕ} {p : Point} (before after edits : List EditPlace) →
    IsAmong (record k { first = with_edits before k.first }) numbers p → edits ≡ after →
    AreOver k.first.control.entries after k.first.control.layers →
    IsAmong (record k { first = with_edits after k.first }) numbers (with_edits edits p)
edits_among k {p = p} before after edits o e over' =
    record {
      stands = edits_stand edits o.stands
          (subst (λ xs. AreOver p.control.entries xs p.control.layers) (sym e)
          (subst (λ ls. AreOver p.control.entries after ls) (sym o.later.layers)
          (subst (λ es. AreOver es after k.first.control.layers) (sym o.entries) over')));
      image = edits_image edits o.image;
      later = edits_later after edits o.later e;
      few = o.few;
      entries = o.entries;
      others = o.others;
      words = o.words;
    }

-- ---- what is known

pub begun_placed : (k : Block) (place : EditPlace) → IsBegun k → IsBegun (placing place k)
begun_placed k place b =
    let r = b.resumes in
    let edits = k.first.control.edits in
    record {
      activation = b.activation;
      resumes = record {
        stands = edits_stand (place ∷ edits) r.stands
            (over_place place k.first.control.entries edits k.first.control.layers r.stands.over);
        idle = r.idle;
        changed = r.changed;
        layers = r.layers;
        own = r.own;
        activations = r.activations;
        more = r.more;
      };
      acts = b.acts;
      remains = record {
        living = b.remains.living;
        serials = b.remains.serials;
        at = b.remains.at;
        number = b.remains.number;
        signatures = b.remains.signatures;
        statics = b.remains.statics;
        low = b.remains.low;
        constants = b.remains.constants;
        active = b.remains.active;
        in_use = b.remains.in_use;
      };
      outer = b.outer;
    }

pub number_placed : (k : Block) (place : EditPlace) (x : Spot) → IsNumber k x → IsNumber (placing place k) x
number_placed k place x h =
    record {
      initial = h.initial;
      declared = h.declared;
      serial = h.serial;
      binding = h.binding;
      living = h.living;
      lives = h.lives;
      shape = h.shape;
      base = h.base;
      frame = h.frame;
      at = h.at;
      low = h.low;
      inside = h.inside;
    }

pub unraised_placed : (s : Setting) (place : EditPlace) → IsUnraised s → IsUnraised (within place s)
unraised_placed s place h =
    record { routines = h.routines; overflow = h.overflow; error = h.error; acts = h.acts; most = h.most }

pub errorless_placed : (s : Setting) (place : EditPlace) → IsErrorless s → IsErrorless (within place s)
errorless_placed s place h =
    record { routines = h.routines; raises = h.raises; error = h.error; acts = h.acts; most = h.most }

pub call_placed :
    (s : Setting) (place : EditPlace) (c : Callee) (more : ℕ) → IsFunctionCall s c more →
    IsFunctionCall (within place s) c more
call_placed s place c more h =
    record {
      begun = begun_placed s.block place h.begun;
      function = h.function;
      room = record { room = h.room.room; shallow = h.room.shallow; parent = h.room.parent; idle = h.room.idle };
      level = h.level;
      parent = h.parent;
      found = h.found;
      enter = h.enter;
      around = h.around;
      enough = h.enough;
      most = h.most;
      words = h.words;
    }

-- a jump that names no label of the block goes to one further out, which knows nothing of the place
pub jumps_down :
    (place : EditPlace) (k : Block) (labels : List Label) {acts c : ℕ} {f : Family} {v : Services} {height : ℕ}
    {label : Label} {s : State} → JumpsTo (placing place k) [] acts c f v height label s →
    JumpsTo k labels acts c f v height label s
jumps_down place k labels {acts} {c} {f} {v} {height} {label} {s} o = record { to = by o.to }
  where
    by :
        LandsAt (placing place k) [] acts c f v height label s
        ⊎ JumpsOut k.call.surroundings k.call.code k.outers acts c f v height label (closed s) →
        LandsAt k labels acts c f v height label s
        ⊎ JumpsOut k.call.surroundings k.call.code k.outers acts c f v height label (closed s)
    by (inl here) = absurd (cc here.carried)
    by (inr out) = inr out
