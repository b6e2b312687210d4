-- The block of a unit that is raised in a block: where its statements begin, and where it ends.
use Rattle.std.proofs.Common.{◌≡◌, ℕ, ◌+◌, ◌*◌, ◌<◌, ◌≤◌, List, [], ◌∷◌, length, Bool, Option, refl, sym}
use Rattle.std.proofs.Common.{ap, ◌∙◌, subst, arith}
use Rattle.std.specs.Prelude.{nat_lt}
use Rattle.pli_meaning.specs.BasicValues.{BasicValue}
use Rattle.pli_meaning.specs.Control.{Label}
use Rattle.pli_meaning.specs.StorageState.{State, without_newest, most_activations, with_world}
use Rattle.pli_meaning.specs.World.{counted}
use Rattle.pli_serving.specs.ServiceState.{Services}
use Rattle.pli_coding.specs.Assembly.{Code, size_of}
use Rattle.pli_coding.specs.Frames.{fixed_size, temporary_bytes}
use Rattle.pli_coding.specs.Statements.{unit_left}
use Rattle.activation_relation.specs.Chains.{HasParent}
use Rattle.activation_relation.specs.Changes.{KeepsNone, awaiting, popped, popped_from}
use Rattle.activation_relation.specs.Entering.{BlockEnd}
use Rattle.activation_relation.specs.Frames.{lower_end, upper_top}
use Rattle.activation_relation.specs.Landing.{closed, resumed}
use Rattle.activation_relation.specs.Layers.{Layer, Point, services_of}
use Rattle.activation_relation.specs.Points.{AreFew, Stands}
use Rattle.activation_relation.proofs.PointSteps.{awaited_stands, stacks_over}
use Rattle.activation_relation.proofs.Remaining.{remains_acted, remains_then}
use Rattle.activation_relation.proofs.Returning.{later_same, later_then, left_entries, left_later}
use Rattle.activation_relation.proofs.Serials.{few_left}
use Rattle.run_steps.specs.Engine.{most_code}
use Rattle.run_steps.specs.Items.{Linked}
use Rattle.run_steps.specs.Owing.{owing}
use Rattle.run_steps.proofs.Owing.{done_owing}
use Rattle.run_steps.specs.Reach.{Closed, Family, reached}
use Rattle.run_steps.proofs.Reach.{reach_then, reached_holds, stay}
use Rattle.block_runs.specs.Bodies.{AtEnd}
use Rattle.block_runs.specs.Machines.{IsImage, IsIn, acted}
use Rattle.block_runs.proofs.Endings as E
use Rattle.block_runs.proofs.PointActs.{stands_acted}
use Rattle.program_runs.specs.Statements.{IsAmong, IsBegun, JumpsOut, JumpsTo}
use Rattle.program_runs.proofs.JumpsOut.{jumps_later}
use Rattle.program_runs.proofs.Waiting.{outer_among}
use Rattle.unit_runs.specs.Raised.{AreMade, IsRaiseOf, IsRaised, IsRaisedAt, Raise, Standing, begun_unit, end_index}
use Rattle.unit_runs.specs.Raised.{raise_aims}
use Rattle.unit_runs.specs.Raised.{unit_beginning, unit_block, unit_call, unit_layer}
use Rattle.unit_runs.specs.UnitBeginnings.{IsUnitAt}
use Rattle.unit_runs.proofs.UnitEndings as N
use Rattle.unit_runs.proofs.UnitEntries as U
use Rattle.expression_runs.specs.Values.{Setting}

-- ---- a raise in a block

pub record Here : Type 0 where
  pub setting : Setting
  pub standing : Standing
  pub more : ℕ
  pub raise : Raise
  pub from : Point

-- the raise began at a point of the block
pub record IsHere (z : Here) : Type 0 where
  pub raised : IsRaised z.setting z.standing z.more
  pub is : IsRaiseOf z.setting z.standing z.more raised z.raise
  pub made : AreMade z.setting z.standing z.raise
  pub few : AreFew z.setting.block.call.surroundings (unit_block z.setting z.standing z.raise).first
  pub since : z.from.state.world.acts ≤ z.raise.point.state.world.acts
  pub line : z.raise.point.control.line ≡ z.from.control.line
  pub back : z.raise.back ≤ most_code

-- the point while the raise waits for its unit
abbrev pub waiting : Here → Point
waiting z = awaiting z.raise.code (4 * z.raise.back) z.raise.point

-- ---- its beginning

-- whether one more block may be active or not
pub raise_begins :
    {may : Bool} (k : Setting) (x : Standing) (more : ℕ) (h : IsRaisedAt may k x more) (r : Raise) →
    IsAmong k.block r.numbers r.point → (r.height ≡ h.by.height) × (0 < r.code) × (r.back ≤ most_code) →
    IsUnitAt may k.block.call.surroundings (awaiting r.code (4 * r.back) r.point) r.numbers
    (unit_beginning k.block.call.surroundings x r)
raise_begins {may} k x more h r o of =
    let w = k.block.call.surroundings in
    record {
      next = record {
        layer = record {
          level = refl;
          runs = (refl, of.1);
          units = refl;
          parent = subst (λ n. HasParent x.unit.head.level n r.point.state.activations) (sym of.0)
              (subst (λ xs. HasParent x.unit.head.level h.by.height xs) (sym o.later.activations) h.parent);
        };
        laid = record {
          above = refl;
          fixed = omega arith;
          falls = omega arith;
          free = subst (λ ls. upper_top w.parts ls + temporary_bytes x.words + fixed_size x.unit.head.level 0
              ≤ lower_end w.parts ls) (sym o.later.layers) h.room;
          saved = h.saved;
          told = λ n v e. absurd (cc e);
        };
        entries = ([], refl);
        edits = refl;
        over = o.stands.over;
      };
      entering = record {
        entered = refl;
        given = refl;
        arguments = [];
        below = refl;
        many = refl;
        places = refl;
        units = refl;
      };
      shallow = subst (λ xs. nat_lt (length xs) most_activations ≡ may) (sym o.later.activations) h.shallow;
      code = r.code;
      kind = refl;
      level = h.level;
      line = h.line;
      back = of.2;
      held = refl;
      words = λ n less. o.words n;
      waits = λ n. refl;
      told = λ n. refl;
      list = refl;
      top = refl;
      lower = refl;
    }

waiting_image :
    (z : Here) → IsHere z → IsImage z.setting.block.call.surroundings z.setting.block.call.code (waiting z)
waiting_image z h =
    let i = h.is.among.image in record { keeper = i.keeper; layout = i.layout; parts = i.parts; even = i.even }

pub premises :
    (z : Here) → IsHere z →
    U.Premises z.setting.block.call.surroundings z.setting.block.call.code (waiting z) z.raise.numbers
    (unit_beginning z.setting.block.call.surroundings z.standing z.raise)
premises z h =
    record {
      stands = awaited_stands z.setting.block.call.surroundings z.raise.point z.raise.code (4 * z.raise.back)
          h.is.among.stands;
      image = waiting_image z h;
      is = raise_begins z.setting z.standing z.more h.raised z.raise h.is.among (h.is.height, h.is.some, h.back);
    }

pub begun_known :
    (z : Here) → IsHere z →
    Stands z.setting.block.call.surroundings (begun_unit z.setting.block.call.surroundings z.standing z.raise)
    × IsImage z.setting.block.call.surroundings z.setting.block.call.code
    (begun_unit z.setting.block.call.surroundings z.standing z.raise)
begun_known z h = U.unit_begun_stands (premises z h)

-- ---- its first statement

pub first_among :
    (z : Here) (h : IsHere z) →
    (z.standing.made (begun_unit z.setting.block.call.surroundings z.standing z.raise)).state.world.acts
    < z.setting.block.call.surroundings.acts →
    IsAmong (unit_block z.setting z.standing z.raise) z.raise.numbers (unit_block z.setting z.standing z.raise).first
first_among z h less =
    let made' = h.made.stands (begun_known z h) in
    let known = stands_acted z.standing.unit.head.line made'.0 made'.1 less in
    record {
      stands = known.0;
      image = known.1;
      later = later_same (unit_block z.setting z.standing z.raise).first;
      few = h.few;
      entries = refl;
      others = λ n more. refl;
      words = h.is.among.words;
    }

pub first_begun :
    (z : Here) (h : IsHere z) →
    IsAmong (unit_block z.setting z.standing z.raise) z.raise.numbers (unit_block z.setting z.standing z.raise).first →
    IsBegun (unit_block z.setting z.standing z.raise)
first_begun z h o =
    let k = z.setting.block in
    let b = h.raised.begun in
    let m = h.made in
    let same = m.acts in
    let then' = z.standing.made (begun_unit k.call.surroundings z.standing z.raise) in
    let first = acted z.standing.unit.head.line then' in
    let a = h.is.among in
    record {
      activation = m.activation;
      resumes = record {
        stands = o.stands;
        idle = m.idle;
        changed = m.changed;
        layers = m.layers;
        own = m.own;
        activations = m.activations;
        more = omega (arith, same);
      };
      acts = omega (arith, same);
      remains = remains_then z.raise.point then' first (m.remains (begun_known z h).0)
          (remains_acted then' counted z.standing.unit.head.line);
      outer = (
        record {
          activation = b.activation;
          resumes = b.resumes;
          remains = b.remains;
          numbers = z.raise.numbers;
          among = outer_among k z.setting.labels [] b a;
        },
        b.outer,
      );
    }

-- ---- its end

closed_popped :
    (q : Point) (φ : Layer) (φs : List Layer) → q.control.layers ≡ φ ∷ φs → closed q.state ≡ (popped [] q).state
closed_popped q φ φs newest =
    by q.state.activations ∙ sym (ap (λ ls. (popped_from [] ls q).state) newest)
  where
    by : (as' : List _) → with_world q.state.world (without_newest as' q.state) ≡ without_newest as' q.state
    by [] = refl
    by (a ∷ as') = refl

abbrev pub ending_of : Standing → Code
ending_of x = unit_left x.words x.saved

abbrev end_of :
    (z : Here) (left' c : ℕ) (f : Family) (v : Services) (r : Option BasicValue) (s : State) →
    AtEnd (unit_call z.setting z.standing z.raise) left' c f v r s → BlockEnd
end_of z left' c f v r s o =
    record {
      layer = resumed o.resumes.changed (unit_layer z.setting.block.call.surroundings z.standing z.raise);
      others = z.raise.point.control.layers;
      kept = [];
      before = z.raise.numbers;
      after = o.after;
      index = end_index z.standing;
      back = z.raise.back;
    }

pub behind_closed :
    (k : Setting) (p : Point) (numbers : ℕ → ℕ) (index wanted : ℕ) →
    Closed k.block.call.code (raise_aims k p numbers index wanted)
behind_closed k p numbers index wanted =
    record {
      done = λ r v s o. record {
        point = o.point;
        among = o.among;
        since = o.since;
        line = o.line;
        state = o.state;
        reach = reach_then r o.reach;
      };
      jumped = λ r height label s o. jumps_later r o;
      returned = λ r v s o. absurd o;
    }

-- the block in which the condition was raised goes on where the raise said
pub ended_owing :
    (z : Here) → IsHere z → (left' wanted c : ℕ) (f : Family) (v : Services) (r : Option BasicValue) (s : State) →
    Linked z.setting.block.call.surroundings.links z.setting.block.call.code (end_index z.standing)
    (ending_of z.standing) →
    AtEnd (unit_call z.setting z.standing z.raise) left' c f v r s →
    (owing z.setting.block.call.code (left' + size_of (ending_of z.standing))
    (raise_aims z.setting z.from z.raise.numbers z.raise.back wanted)).done c f v tt (closed s)
ended_owing z h left' wanted c f v r s l o =
    let k = z.setting.block in
    let w = k.call.surroundings in
    let q = popped [] o.point in
    let e = end_of z left' c f v r s o in
    let φ = unit_layer w z.standing z.raise in
    let a = h.is.among in
    let known = E.left_below w k.call.code o.point e o.resumes.stands o.image o.resumes.layers in
    let idle = a.later.waiting ∙ h.raised.begun.resumes.idle in
    let back = N.unit_ends
    (record { surroundings = w; code = k.call.code; point = o.point; end = e; first = reached o.reach })
    (record {
      stands = o.resumes.stands;
      image = o.image;
      is = record {
        newest = o.resumes.layers;
        code = z.raise.code;
        kind = refl;
        back = h.back;
        holds = record { saved = λ n less. refl; others = o.others };
        texts = KeepsNone φ.entries o.point.control.entries
            (stacks_over w o.point 0 e.layer e.others o.resumes.stands o.resumes.layers).0;
        kept = refl;
      };
      there = λ b. (reached_holds o.reach b).0;
    }) left' l in
    let later = left_later w z.raise.point o.point z.raise.point.state.world.acts o.activation φ [] a.stands
    (omega arith) refl idle o.remains o.resumes in
    let since = h.since in
    let acts = later.acts in
    done_owing (behind_closed z.setting z.from z.raise.numbers z.raise.back wanted)
    (left' + size_of (ending_of z.standing)) wanted (omega arith) (reach_then o.reach back) tt (closed s)
    (λ g at. record {
      point = q;
      among = record {
        stands = known.0;
        image = known.1;
        later = later_then k.first z.raise.point q a.later later;
        few = few_left w o.point [] o.few;
        entries = left_entries w o.point z.raise.point.state.world.acts o.activation z.raise.point.state.activations φ
            z.raise.point.control.layers [] o.resumes
            ∙ a.entries;
        others = a.others;
        words = a.words;
      };
      since = omega (arith, since, acts);
      line = ap (λ ls. (popped_from [] ls o.point).control.line) o.resumes.layers ∙ h.line;
      state = ap closed o.state ∙ closed_popped o.point e.layer e.others o.resumes.layers;
      reach = stay k.call.code wanted g (services_of q) (λ b y. IsIn w q z.raise.numbers z.raise.back b y) at;
    })

-- ---- a jump out of it

pub leaves_by_jump :
    (z : Here) (acts c : ℕ) (f : Family) (v : Services) (height : ℕ) (label : Label) (s : State) →
    JumpsOut z.setting.block.call.surroundings z.setting.block.call.code
    (unit_block z.setting z.standing z.raise).outers acts c f v height label (closed s) →
    JumpsTo z.setting.block z.setting.labels acts c f v height label (closed s)
leaves_by_jump z acts c f v height label s q = record { to = q }
