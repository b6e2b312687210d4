-- Words in a0 at the points of a block, and where expressions go on.
use Rattle.std.proofs.Common.{◌≡◌, ℕ, ◌+◌, ◌<◌, ◌≤◌, List, [], ◌∷◌, refl, sym, ap, ◌∙◌, subst, arith}
use Rattle.std.specs.Prelude.{ℤ}
use Rattle.rv_meaning.specs.declared.instr.Instr.{Instr}
use Rattle.rv_meaning.specs.Machine.{value}
use Rattle.rv_meaning.specs.Words.{word}
use Rattle.pli_meaning.specs.Control.{Flow, Label}
use Rattle.pli_meaning.specs.StorageState.{State}
use Rattle.pli_serving.specs.ServiceState.{Services}
use Rattle.pli_coding.specs.Registers.{a0}
use Rattle.activation_relation.specs.Frames.{frame_under}
use Rattle.activation_relation.specs.Layers.{Point, services_of}
use Rattle.run_steps.specs.Bodies.{Known}
use Rattle.run_steps.specs.Engine.{Base}
use Rattle.run_steps.specs.Items.{At}
use Rattle.run_steps.specs.Numbers.{IsWide}
use Rattle.run_steps.specs.Reach.{Closed, Comes, Family, Reach, reached}
use Rattle.run_steps.proofs.Reach.{reach_map, reach_then, reach_with}
use Rattle.image_runs.specs.Runs.{Whole}
use Rattle.block_runs.specs.Machines.{IsIn}
use Rattle.block_runs.proofs.CallStatements.{comes_map}
use Rattle.block_runs.proofs.Places.{IsFrame}
use Rattle.block_runs.proofs.PointGrounds.{in_known, known_in, point_ground}
use Rattle.program_runs.specs.Statements.{Block, IsAmong, LandsAt}
use Rattle.program_runs.proofs.JumpsOut.{jumps_later, jumps_since}
use Rattle.expression_runs.specs.Values.{HasWord, Stretch, number_aims, word_aims}

-- a word in a0
abbrev pub valued : ℕ → Base → List (ℕ × ℕ)
valued x b = (10, x) ∷ []

-- a left operand in u1 and a right one in a0
abbrev pub paired : (x y : ℕ) → Base → List (ℕ × ℕ)
paired x y b = (6, x) ∷ (10, y) ∷ []

-- ---- later

pub word_later :
    {k : Block} {x : Stretch} {given : ℕ} {i i' : ℕ} {f : Family} {v v' : Services} {Q : Base → Whole → Type 0}
    {s : State} (r : Reach k.call.code i f v i' v' Q) → HasWord k x given i' (reached r) v' s →
    HasWord k x given i f v s
word_later r o =
    record {
      point = o.point;
      numbers = o.numbers;
      among = o.among;
      since = o.since;
      line = o.line;
      stays = o.stays;
      state = o.state;
      reach = reach_then r o.reach;
    }

pub number_closed : (k : Block) (labels : List Label) (x : Stretch) → Closed k.call.code (number_aims k labels x)
number_closed k labels x =
    record {
      done = λ r z s o. (o.0, word_later r o.1);
      jumped = λ r height label s o. jumps_later r o;
      returned = λ r z s o. absurd o;
    }

pub word_closed :
    (k : Block) (labels : List Label) (x : Stretch) (given : ℕ) → Closed k.call.code (word_aims k labels x given)
word_closed k labels x given =
    record {
      done = λ r z s o. word_later r o;
      jumped = λ r height label s o. jumps_later r o;
      returned = λ r z s o. absurd o;
    }

-- ---- the same end, seen from an earlier beginning

-- it began no later, with no fewer temporaries, and ends at the same place with no fewer credits
pub record IsFurther (x y : Stretch) : Type 0 where
  pub acts : y.acts ≤ x.acts
  pub line : x.line ≡ y.line
  pub index : x.index ≡ y.index
  pub wanted : x.wanted ≤ y.wanted
  pub taken : y.taken ≤ x.taken
  pub stays : (n : ℕ) → n < y.taken → x.numbers n ≡ y.numbers n

pub word_further :
    {k : Block} {x y : Stretch} {given c : ℕ} {f : Family} {v : Services} {s : State} → IsFurther x y →
    HasWord k x given c f v s → HasWord k y given c f v s
word_further {k} {x} {y} {given} i o =
    let acts = i.acts in
    let since = o.since in
    let taken = i.taken in
    record {
      point = o.point;
      numbers = o.numbers;
      among = o.among;
      since = omega (arith, acts, since);
      line = o.line ∙ i.line;
      stays = λ n less. o.stays n (omega (arith, less, taken)) ∙ i.stays n less;
      state = o.state;
      reach = reach_with y.wanted i.wanted
          (reach_map _ o.reach (λ b m is. (
            subst (λ j. IsIn k.call.surroundings o.point o.numbers j b m) i.index is.0,
            is.1,
          )));
    }

pub number_further :
    {k : Block} {labels : List Label} {x y : Stretch} {c : ℕ} {f : Family} {v : Services} {flow : Flow ℤ} →
    IsFurther x y → Comes k.call.code c f v (number_aims k labels x) flow →
    Comes k.call.code c f v (number_aims k labels y) flow
number_further {k} {labels} {x} {y} {flow = flow} i o =
    comes_map (number_aims k labels x) (number_aims k labels y) refl flow
    (λ c f v z s q. (q.0, word_further i q.1))
    (λ c f v height label s q. jumps_since i.acts q)
    (λ c f v r s q. absurd q)
    o

-- ---- from machines

abbrev pub frame_of : Block → Point → Type 0
frame_of k p = IsFrame (frame_under k.call.surroundings.parts p.control.layers)

-- the word is in a0 where a stretch of code ends that leaves the point as it is
pub word_here :
    {k : Block} {x : Stretch} {p : Point} {given c : ℕ} {f : Family} (h : frame_of k p) → IsAmong k x.numbers p →
    x.acts ≤ p.state.world.acts → p.control.line ≡ x.line →
    Reach k.call.code c f (services_of p) x.wanted (services_of p)
    (λ b y. At b x.index (Known (point_ground k.call.surroundings p h) (services_of p) x.numbers (λ n. 0) (valued given)
    b) y) →
    HasWord k x given c f (services_of p) p.state
word_here {k} {x} {p} h o since line r =
    record {
      point = p;
      numbers = x.numbers;
      among = o;
      since = since;
      line = line;
      stays = λ n less. refl;
      state = refl;
      reach = reach_map _ r (λ b y q. (in_known h o.image.parts q, q.holds.regs.0));
    }

-- a machine with a word in a0 is one on the point's ground
pub known_word :
    (k : Block) {p : Point} {numbers : ℕ → ℕ} {index given : ℕ} {b : Base} {y : Whole} (h : frame_of k p) →
    IsIn k.call.surroundings p numbers index b y × (value y.machine a0 ≡ given) →
    At b index (Known (point_ground k.call.surroundings p h) (services_of p) numbers (λ n. 0) (valued given) b) y
known_word k h is = known_in h is.0 (is.1, tt)
