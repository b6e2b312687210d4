-- Texts and numbers at the points of a block while others wait, seen from an earlier beginning and from machines.
use Rattle.std.proofs.Common.{ℕ, ◌⊎◌, List, [], inl, inr, ◌∙◌, subst, arith, refl}
use Rattle.std.specs.Prelude.{ℤ}
use Rattle.pli_typing.specs.TypedTree as Y
use Rattle.pli_meaning.specs.Control.{Flow, Label}
use Rattle.pli_meaning.specs.Evaluating as V
use Rattle.pli_meaning.specs.StorageState.{State}
use Rattle.pli_serving.specs.ServiceState.{Entry, Services}
use Rattle.pli_coding.specs.Expressions.{number_code}
use Rattle.activation_relation.specs.Landing.{closed}
use Rattle.image_runs.specs.Runs.{Whole}
use Rattle.run_steps.specs.Engine.{Base}
use Rattle.run_steps.specs.Reach.{Closed, Comes, Family, Reach, reached}
use Rattle.run_steps.proofs.Reach.{reach_map, reach_then, reach_with}
use Rattle.block_runs.specs.Machines.{IsIn}
use Rattle.block_runs.proofs.CallStatements.{comes_map}
use Rattle.program_runs.specs.Statements.{Block, JumpsOut, JumpsTo, LandsAt, waiting}
use Rattle.program_runs.proofs.JumpsOut.{jumps_later, jumps_since}
use Rattle.expression_runs.specs.Laws as L
use Rattle.expression_runs.specs.Values.{Setting, Stretch, behind, in_registers, number_aims}
use Rattle.expression_runs.proofs.Words.{IsFurther, word_further, word_later}
use Rattle.text_runs.specs.Laws.{NumberDoes}
use Rattle.text_runs.specs.Texts.{HasText, text_aims, value_aims}
use Rattle.text_runs.specs.Waiting.{over}

-- ---- later

text_later :
    {entries : List Entry} {k : Block} {x : Stretch} {text : List ℕ} {i i' : ℕ} {f : Family} {v v' : Services}
    {Q : Base → Whole → Type 0} {s : State} (r : Reach k.call.code i f v i' v' Q) →
    HasText entries k x text i' (reached r) v' s → HasText entries k x text i f v s
text_later r o =
    record {
      short = o.short;
      point = o.point;
      numbers = o.numbers;
      among = o.among;
      since = o.since;
      line = o.line;
      stays = o.stays;
      state = o.state;
      reach = reach_then r o.reach;
    }

pub text_closed :
    (entries : List Entry) (k : Setting) (x : Stretch) → Closed k.block.call.code (text_aims entries k x)
text_closed entries k x =
    record {
      done = λ r text s o. text_later r o;
      jumped = λ r height label s o. jumps_later r o;
      returned = λ r text s o. absurd o;
    }

pub value_closed :
    (entries : List Entry) (k : Setting) (x : Stretch) → Closed k.block.call.code (value_aims entries k x)
value_closed entries k x =
    record {
      done = λ r z s o. (o.0, word_later r o.1);
      jumped = λ r height label s o. jumps_later r o;
      returned = λ r z s o. absurd o;
    }

-- ---- the same end, seen from an earlier beginning

text_further :
    {entries : List Entry} {k : Block} {x y : Stretch} {text : List ℕ} {c : ℕ} {f : Family} {v : Services}
    {s : State} → IsFurther x y → HasText entries k x text c f v s → HasText entries k y text c f v s
text_further {k = k} {x} {y} i o =
    let acts = i.acts in
    let since = o.since in
    let taken = i.taken in
    record {
      short = o.short;
      point = o.point;
      numbers = o.numbers;
      among = o.among;
      since = omega (arith, acts, since);
      line = o.line ∙ i.line;
      stays = λ n less. o.stays n (omega (arith, less, taken)) ∙ i.stays n less;
      state = o.state;
      reach = reach_with y.wanted i.wanted
          (reach_map _ o.reach
          (λ b m is. subst (λ j. IsIn k.call.surroundings o.point o.numbers j b m) i.index is));
    }

pub push_further :
    (entries : List Entry) (k : Setting) {x y : Stretch} {c : ℕ} {f : Family} {v : Services} {flow : Flow (List ℕ)} →
    IsFurther x y → Comes k.block.call.code c f v (text_aims entries k x) flow →
    Comes k.block.call.code c f v (text_aims entries k y) flow
push_further entries k {x} {y} {flow = flow} i o =
    comes_map (text_aims entries k x) (text_aims entries k y) refl flow
    (λ c f v text s q. text_further i q)
    (λ c f v height label s q. jumps_since i.acts q)
    (λ c f v r s q. absurd q)
    o

pub value_further :
    (entries : List Entry) (k : Setting) {x y : Stretch} {c : ℕ} {f : Family} {v : Services} {flow : Flow ℤ} →
    IsFurther x y → Comes k.block.call.code c f v (value_aims entries k x) flow →
    Comes k.block.call.code c f v (value_aims entries k y) flow
value_further entries k {x} {y} {flow = flow} i o =
    comes_map (value_aims entries k x) (value_aims entries k y) refl flow
    (λ c f v z s q. (q.0, word_further i q.1))
    (λ c f v height label s q. jumps_since i.acts q)
    (λ c f v r s q. absurd q)
    o

-- ---- numbers in the block that has what waits

-- a jump that names no label of it goes to a block further out, which knows nothing of what waits
pub jumps_down :
    (entries : List Entry) (k : Setting) {acts c : ℕ} {f : Family} {v : Services} {height : ℕ} {label : Label}
    {s : State} → JumpsTo (waiting entries k.block) [] acts c f v height label s →
    JumpsTo k.block k.labels acts c f v height label s
jumps_down entries k {acts} {c} {f} {v} {height} {label} {s} o = record { to = by o.to }
  where
    by :
        LandsAt (waiting entries k.block) [] acts c f v height label s
        ⊎ JumpsOut k.block.call.surroundings k.block.call.code k.block.outers acts c f v height label (closed s) →
        LandsAt k.block k.labels acts c f v height label s
        ⊎ JumpsOut k.block.call.surroundings k.block.call.code k.block.outers acts c f v height label (closed s)
    by (inl here) = absurd (cc here.carried)
    by (inr out) = inr out

pub above_does :
    (entries : List Entry) (k : Setting) (x : Y.Number) (need : ℕ) → L.Does (over entries k) need x →
    NumberDoes entries k need x
above_does entries k x need does p numbers taken c index f o line registers l paid there =
    let part = number_code k.block.environment (in_registers k.words taken) x in
    let y = behind p numbers taken c index part in
    comes_map (number_aims (waiting entries k.block) [] y) (value_aims entries k y) refl
    (V.number k.around x k.block.call.surroundings.acts p.state)
    (λ c f v z s q. q)
    (λ c f v height label s q. jumps_down entries k q)
    (λ c f v r s q. absurd q)
    (does p numbers taken c index f o line registers l paid there)

pub alone_does : (k : Setting) (x : Y.Number) (need : ℕ) → NumberDoes [] k need x → L.Does k need x
alone_does k x need does = does
