-- What holds at a point, and in a block, holds while texts wait.
use Rattle.std.proofs.Common.{◌≡◌, ℕ, List, [], ◌∷◌, ◌++◌, refl, sym, ap, subst}
use Rattle.rv_meaning.specs.declared.instr.Instr.{Instr}
use Rattle.pli_meaning.specs.Control.{Label}
use Rattle.pli_serving.specs.ServiceState.{EditPlace, Entry}
use Rattle.storage_relation.specs.Served.{Holds}
use Rattle.activation_relation.specs.Entering.{Later}
use Rattle.activation_relation.specs.Layers.{Layer, Point, now}
use Rattle.activation_relation.specs.Points.{AreOver, Stands, Surroundings}
use Rattle.activation_relation.specs.Remaining.{Remains}
use Rattle.run_steps.specs.Engine.{Base}
use Rattle.block_runs.specs.Machines.{IsImage}
use Rattle.block_runs.proofs.PointGrounds.{StandsIn}
use Rattle.program_runs.specs.Statements.{Block, IsAmong, IsBegun, as_outer, outer_block, waiting, with_texts}

-- ---- points

-- more on the stack stands over all layers
pub over_more :
    (more entries : List Entry) (edits : List EditPlace) (φs : List Layer) → AreOver entries edits φs →
    AreOver (more ++ entries) edits φs
over_more more entries edits [] h = tt
over_more [] entries edits (φ ∷ φs) h = h
over_more (x ∷ more) entries edits (φ ∷ φs) h =
    let o = over_more more entries edits (φ ∷ φs) h in
    (((x ∷ o.0.0.0, ap (λ u. x ∷ u) o.0.0.1), o.0.1), o.1)

pub texts_stand :
    {w : Surroundings} (entries : List Entry) {p : Point} → Stands w p →
    AreOver entries p.control.edits p.control.layers → Stands w (with_texts entries p)
texts_stand entries h over' =
    record {
      active = h.active;
      laid = h.laid;
      low = h.low;
      lives = h.lives;
      owned = h.owned;
      over = over';
      running = h.running;
      allowed = h.allowed;
    }

pub texts_image :
    {w : Surroundings} {code : List Instr} (entries : List Entry) {p : Point} → IsImage w code p →
    IsImage w code (with_texts entries p)
texts_image entries h = record { keeper = h.keeper; layout = h.layout; parts = h.parts; even = h.even }

texts_hold : (entries : List Entry) (p : Point) (m : List ℕ) → Holds (now p m) → Holds (now (with_texts entries p) m)
texts_hold entries p m h =
    record {
      keeps = h.keeps;
      heap = record { at = h.heap.at; capacity = h.heap.capacity };
      lives = record { falling = h.lives.falling; numbered = h.lives.numbered; extents = h.lives.extents };
      stored = h.stored;
      distinct = h.distinct;
    }

pub texts_in :
    {w : Surroundings} (entries : List Entry) {p : Point} {b : Base} {m : List ℕ} → StandsIn w p b m →
    StandsIn w (with_texts entries p) b m
texts_in entries {p} {m = m} h = record { storage = texts_hold entries p m h.storage; frames = h.frames }

-- whatever waits at both
pub texts_remain :
    (before after : List Entry) {p q : Point} → Remains p q → Remains (with_texts before p) (with_texts after q)
texts_remain before after h =
    record {
      living = h.living;
      serials = h.serials;
      at = h.at;
      number = h.number;
      signatures = h.signatures;
      statics = h.statics;
      low = h.low;
      constants = h.constants;
      active = h.active;
      in_use = h.in_use;
    }

pub texts_later :
    (before after : List Entry) {p q : Point} → Later p q → Later (with_texts before p) (with_texts after q)
texts_later before after h =
    record {
      activations = h.activations;
      layers = h.layers;
      edits = h.edits;
      waiting = h.waiting;
      acts = h.acts;
      remains = texts_remain before after h.remains;
    }

-- ---- points of a block

-- what waits at one stands over all layers where the block's first statement begins
pub over_first :
    (k : Block) {numbers : ℕ → ℕ} {p : Point} (entries : List Entry) → IsAmong (waiting entries k) numbers p →
    AreOver (entries ++ k.first.control.entries) k.first.control.edits k.first.control.layers
over_first k {p = p} entries o =
    let e = entries ++ k.first.control.entries in
    subst (λ ls. AreOver e k.first.control.edits ls) o.later.layers
    (subst (λ xs. AreOver e xs p.control.layers) o.later.edits
    (subst (λ xs. AreOver xs p.control.edits p.control.layers) o.entries o.stands.over))

-- whatever else waits, if it does
pub texts_among :
    (k : Block) {numbers : ℕ → ℕ} {p : Point} (before after : List Entry) → IsAmong (waiting before k) numbers p →
    AreOver (after ++ k.first.control.entries) k.first.control.edits k.first.control.layers →
    IsAmong (waiting after k) numbers (with_texts (after ++ k.first.control.entries) p)
texts_among k {p = p} before after o over' =
    let e = after ++ k.first.control.entries in
    record {
      stands = texts_stand e o.stands
          (subst (λ ls. AreOver e p.control.edits ls) (sym o.later.layers)
          (subst (λ xs. AreOver e xs k.first.control.layers) (sym o.later.edits) over'));
      image = texts_image e o.image;
      later = texts_later e e o.later;
      few = o.few;
      entries = refl;
      others = o.others;
      words = o.words;
    }

pub begun_waits : (k : Block) (entries : List Entry) → IsBegun k → IsBegun (waiting entries k)
begun_waits k entries b =
    let r = b.resumes in
    let e = k.first.control.entries in
    record {
      activation = b.activation;
      resumes = record {
        stands = texts_stand (entries ++ e) r.stands
            (over_more entries e k.first.control.edits k.first.control.layers r.stands.over);
        idle = r.idle;
        changed = r.changed;
        layers = r.layers;
        own = r.own;
        activations = r.activations;
        more = r.more;
      };
      acts = b.acts;
      remains = record {
        living = b.remains.living;
        serials = b.remains.serials;
        at = b.remains.at;
        number = b.remains.number;
        signatures = b.remains.signatures;
        statics = b.remains.statics;
        low = b.remains.low;
        constants = b.remains.constants;
        active = b.remains.active;
        in_use = b.remains.in_use;
      };
      outer = b.outer;
    }

-- the block is one further out for what is entered at a point of it, whatever waits there
pub outer_among :
    (k : Block) (labels : List Label) (entries : List Entry) {numbers : ℕ → ℕ} {p : Point} → IsBegun k →
    IsAmong (waiting entries k) numbers p →
    IsAmong (outer_block k.call.surroundings k.call.code (as_outer k labels) []) numbers
    (with_texts k.first.control.entries p)
outer_among k labels entries b o =
    let a = texts_among k entries [] o b.resumes.stands.over in
    record {
      stands = a.stands;
      image = a.image;
      later = a.later;
      few = a.few;
      entries = a.entries;
      others = a.others;
      words = a.words;
    }
