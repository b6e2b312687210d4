-- Points at which the lists stand: behind an act, and where the heap and the lists have become others.
use Rattle.std.proofs.Common.{◌≡◌, ℕ, ◌+◌, ◌≤◌, List, [], Bool, Option, refl, sym, ap, ◌∙◌, subst, arith}
use Rattle.rv_meaning.specs.declared.instr.Instr.{Instr}
use Rattle.pli_meaning.specs.Contents.{Placed}
use Rattle.pli_meaning.specs.Control.{Label}
use Rattle.pli_meaning.specs.StorageState.{Stack, State, heap_capacity, heap_serial}
use Rattle.pli_serving.specs.ServiceState as S
use Rattle.storage_relation.specs.Controlled.{AllLive, AreApart, AreOnce, IsLive, StacksStand, Variable, heap_of}
use Rattle.storage_relation.specs.Controlled.{offsets_in}
use Rattle.storage_relation.specs.Served.{Holds}
use Rattle.storage_relation.specs.Standing.{AreaOf}
use Rattle.storage_relation.specs.Stored.{IsBeside, StoredAs}
use Rattle.storage_relation.proofs.Stacks.{stacks_apart, stacks_moved}
use Rattle.activation_relation.specs.Entering.{Later}
use Rattle.activation_relation.specs.Layers.{Point, now, services_of}
use Rattle.activation_relation.specs.Points.{Stands, Surroundings}
use Rattle.activation_relation.specs.Remaining.{Remains}
use Rattle.activation_relation.proofs.BlockVariables.{stored_stand}
use Rattle.activation_relation.proofs.Remaining.{remains_same}
use Rattle.activation_relation.proofs.Returning.{later_then}
use Rattle.image_runs.specs.Runs.{Whole}
use Rattle.run_steps.specs.Engine.{Base}
use Rattle.run_steps.specs.Reach.{Closed, Family, Reach, reached}
use Rattle.run_steps.proofs.Reach.{reach_then, stay}
use Rattle.block_runs.specs.Machines.{AreIn, IsIn, acted}
use Rattle.block_runs.proofs.PointGrounds.{StandsIn}
use Rattle.program_runs.specs.Statements.{Block, GoesOn, IsAmong}
use Rattle.program_runs.proofs.Statements.{statement_closed}
use Rattle.controlled_runs.specs.Lists.{GoesOnListed, ListsStand, listed_aims}

-- ---- what is aimed at

listed_later :
    {of : ℕ → Option Variable} {k : Block} {acts index wanted : ℕ} {i i' : ℕ} {f : Family} {v v' : S.Services}
    {Q : Base → Whole → Type 0} {s : State} (r : Reach k.call.code i f v i' v' Q) →
    GoesOnListed of k acts index wanted i' (reached r) v' s → GoesOnListed of k acts index wanted i f v s
listed_later r o =
    record {
      goes = record {
        point = o.goes.point;
        numbers = o.goes.numbers;
        among = o.goes.among;
        since = o.goes.since;
        state = o.goes.state;
        reach = reach_then r o.goes.reach;
      };
      lists = o.lists;
    }

pub listed_closed :
    (of : ℕ → Option Variable) (k : Block) (labels : List Label) (acts index wanted left' : ℕ) →
    Closed k.call.code (listed_aims of k labels acts index wanted left')
listed_closed of k labels acts index wanted left' =
    let closed = statement_closed k labels acts index wanted left' in
    record {
      done = λ r x s o. listed_later r o;
      jumped = λ r height label s o. closed.jumped r height label s o;
      returned = λ r x s o. closed.returned r x s o;
    }

-- ---- where the lists are as they were

pub lists_still :
    (of : ℕ → Option Variable) (p q : Point) → ListsStand of p → q.control.controlled ≡ p.control.controlled →
    q.state.controlled ≡ p.state.controlled →
    ((k : S.Controlled) → IsLive p.places p.state k → IsLive q.places q.state k) → ListsStand of q
lists_still of p q is lists stacks live =
    let t = stacks_moved (now p []) (record (now q []) { services = services_of p }) of is refl stacks live in
    record {
      each = λ i x e.
          let u = t.each i x e in
          record {
            offsets = ap (λ (c : ℕ → List S.Controlled). offsets_in (c i)) lists ∙ u.offsets;
            live = subst (λ (c : ℕ → List S.Controlled). AllLive q.places q.state (c i)) (sym lists) u.live;
          };
      other = is.other;
      once = λ i x e. subst (λ (c : ℕ → List S.Controlled). AreOnce (offsets_in (c i))) (sym lists) (is.once i x e);
      apart = λ i j x y e f ne.
          subst (λ (c : ℕ → List S.Controlled). AreApart (offsets_in (c i)) (offsets_in (c j))) (sym lists)
          (is.apart i j x y e f ne);
    }

-- behind an act
pub lists_acted :
    {of : ℕ → Option Variable} (p : Point) (line : ℕ) → ListsStand of p → ListsStand of (acted line p)
lists_acted {of} p line is =
    lists_still of p (acted line p) is refl refl (λ k live. record {
      generation = live.generation;
      placed = live.placed;
      number = live.number;
      class = live.class;
    })

-- with any memory
pub lists_in :
    {of : ℕ → Option Variable} (p : Point) (m : List ℕ) → ListsStand of p → StacksStand (now p m) of
lists_in {of} p m is = stacks_apart (now p []) of is m

-- it has come to such a point
pub goes_listed :
    {of : ℕ → Option Variable} {k : Block} {index : ℕ} {numbers : ℕ → ℕ} (p : Point) (acts wanted : ℕ) (f : Family) →
    acts ≤ p.state.world.acts → IsAmong k numbers p → ListsStand of p → AreIn k.call.surroundings p numbers index f →
    GoesOnListed of k acts index wanted wanted f (services_of p) p.state
goes_listed {of} {k} {index} {numbers} p acts wanted f since o lists there =
    record {
      goes = record {
        point = p;
        numbers = numbers;
        among = o;
        since = since;
        state = refl;
        reach = stay k.call.code wanted f (services_of p) (λ b y. IsIn k.call.surroundings p numbers index b y) there;
      };
      lists = lists;
    }

-- ---- where the heap and the lists have become others

abbrev pub relisted : (is_made : Bool) → List Placed → List Stack → (ℕ → List S.Controlled) → Point → Point
relisted is_made heap stacks lists p =
    record p {
      places = record p.places { heap_made = is_made };
      state = record p.state { heap = heap; controlled = stacks };
      control = record p.control { controlled = lists };
    }

relisted_stands :
    (w : Surroundings) (is_made : Bool) (heap : List Placed) (stacks : List Stack) (lists : ℕ → List S.Controlled)
    (p : Point) → Stands w p → Stands w (relisted is_made heap stacks lists p)
relisted_stands w is_made heap stacks lists p is =
    record {
      active = is.active;
      laid = is.laid;
      low = is.low;
      lives = record { falling = is.lives.falling; numbered = is.lives.numbered; extents = is.lives.extents };
      owned = record { living = is.owned.living; heap = is.owned.heap; constants = is.owned.constants };
      over = is.over;
      running = is.running;
      allowed = is.allowed;
    }

relisted_later :
    (is_made : Bool) (heap : List Placed) (stacks : List Stack) (lists : ℕ → List S.Controlled) (p : Point) →
    Later p (relisted is_made heap stacks lists p)
relisted_later is_made heap stacks lists p =
    record {
      activations = refl;
      layers = refl;
      edits = refl;
      waiting = refl;
      acts = omega arith;
      remains = by (remains_same p);
    }
  where
    by : Remains p p → Remains p (relisted is_made heap stacks lists p)
    by r =
        record {
          living = r.living;
          serials = r.serials;
          at = r.at;
          number = r.number;
          signatures = r.signatures;
          statics = r.statics;
          low = r.low;
          constants = r.constants;
          active = r.active;
          in_use = r.in_use;
        }

pub relisted_among :
    {k : Block} {numbers : ℕ → ℕ} {p : Point} (is_made : Bool) (heap : List Placed) (stacks : List Stack)
    (lists : ℕ → List S.Controlled) → IsAmong k numbers p → IsAmong k numbers (relisted is_made heap stacks lists p)
relisted_among {k} {numbers} {p} is_made heap stacks lists o =
    let q = relisted is_made heap stacks lists p in
    record {
      stands = relisted_stands k.call.surroundings is_made heap stacks lists p o.stands;
      image = record {
        keeper = o.image.keeper;
        layout = o.image.layout;
        parts = o.image.parts;
        even = o.image.even;
      };
      later = later_then k.first p q o.later (relisted_later is_made heap stacks lists p);
      few = o.few;
      entries = o.entries;
      others = o.others;
      words = o.words;
    }

-- memory stands, if it has changed within the heap's bytes alone
pub relisted_in :
    (w : Surroundings) (is_made : Bool) (heap : List Placed) (stacks : List Stack) (lists : ℕ → List S.Controlled)
    (p : Point) (b : Base) (m new : List ℕ) → Stands w p → StandsIn w p b m →
    Holds (now (relisted is_made heap stacks lists p) new) →
    IsBeside (p.places.at heap_serial) (p.keeper.bytes_for heap_capacity) m new →
    StandsIn w (relisted is_made heap stacks lists p) b new
relisted_in w is_made heap stacks lists p b m new stands stand holds beside =
    record {
      storage = holds;
      frames = stored_stand w p b.at heap_serial (AreaOf (heap_of p.state)) m new stands stand.frames refl beside;
    }
