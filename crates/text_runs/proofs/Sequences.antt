-- Code behind one text or two, or behind a text and a number: it takes them from the stack, and leads to an aim.
use Rattle.std.proofs.Common.{◌≡◌, ℕ, ◌+◌, ◌≤◌, List, ◌∷◌, ◌++◌, sym, ◌∙◌, subst, arith, refl}
use Rattle.std.specs.Prelude.{ℤ, max}
use Rattle.std.proofs.Math.Nat.{le-max_left, le-max_right}
use Rattle.rv_meaning.specs.Machine.{value}
use Rattle.rv_meaning.specs.Words.{word}
use Rattle.pli_meaning.specs.Control.{Flow, Label, Meaning, ◌>>=◌}
use Rattle.pli_meaning.specs.StorageState.{State}
use Rattle.pli_serving.specs.ServiceState.{Entry, Services, TextEntry}
use Rattle.pli_coding.specs.Assembly.{Code, size_of}
use Rattle.pli_coding.specs.Environments.{Taken}
use Rattle.pli_coding.specs.Registers.{a0}
use Rattle.activation_relation.specs.Layers.{Point, services_of}
use Rattle.activation_relation.specs.Points.{AreOver}
use Rattle.run_steps.specs.Engine.{Base}
use Rattle.run_steps.specs.Items.{Linked}
use Rattle.run_steps.proofs.Jumps.{back_of, front_of}
use Rattle.run_steps.proofs.Linking.{size_append}
use Rattle.run_steps.specs.Numbers.{IsWide}
use Rattle.run_steps.specs.Reach.{Aims, Closed, Comes, Family, before, cost}
use Rattle.run_steps.proofs.Reach.{comes_on, onward}
use Rattle.block_runs.specs.Machines.{AreIn, IsIn, limits_of}
use Rattle.block_runs.proofs.CallStatements.{comes_map}
use Rattle.program_runs.specs.Statements.{IsAmong, JumpsTo, waiting}
use Rattle.program_runs.proofs.JumpsOut.{jumps_since}
use Rattle.program_runs.proofs.Waiting.{over_first}
use Rattle.expression_runs.specs.Values.{HasRegisters, Setting, Stretch, behind, in_registers}
use Rattle.expression_runs.proofs.Words.{IsFurther}
use Rattle.text_runs.specs.Texts.{Evaluates, IsShort, Pushes, text_aims, value_aims}
use Rattle.text_runs.proofs.Points.{push_further, text_closed, value_closed, value_further}

-- ---- aims

-- what is aimed at behind a stretch of code in a block: it may be reached later, or by a jump, or seen from an earlier
-- beginning
pub record Leads {X : Type 0} (k : Setting) (A : Stretch → Aims X) : Type 1 where
  pub limits : (y : Stretch) → (A y).limits ≡ limits_of k.block.call.surroundings
  pub closed : (y : Stretch) → Closed k.block.call.code (A y)
  pub jumped :
      (y : Stretch) (c : ℕ) (f : Family) (v : Services) (height : ℕ) (label : Label) (s : State) →
      JumpsTo k.block k.labels y.acts c f v height label s → (A y).jumped c f v height label s
  pub further :
      (x y : Stretch) (c : ℕ) (f : Family) (v : Services) (flow : Flow X) → IsFurther x y →
      Comes k.block.call.code c f v (A x) flow → Comes k.block.call.code c f v (A y) flow

pub text_leads : (entries : List Entry) (k : Setting) → Leads k (text_aims entries k)
text_leads entries k =
    record {
      limits = λ y. refl;
      closed = text_closed entries k;
      jumped = λ y c f v height label s q. q;
      further = λ x y c f v flow i o. push_further entries k i o;
    }

pub value_leads : (entries : List Entry) (k : Setting) → Leads k (value_aims entries k)
value_leads entries k =
    record {
      limits = λ y. refl;
      closed = value_closed entries k;
      jumped = λ y c f v height label s q. q;
      further = λ x y c f v flow i o. value_further entries k i o;
    }

-- what Evaluates and Pushes say, of any aim
abbrev pub Part :
    {X : Type 0} → List Entry → (k : Setting) → (Stretch → Aims X) → (need : ℕ) → (Taken → Code) → Meaning X → Type 0
Part entries k A need part meaning =
    (p : Point) (numbers : ℕ → ℕ) (taken credits index : ℕ) (f : Family) →
    IsAmong (waiting entries k.block) numbers p → p.control.line ≡ k.around.line → HasRegisters k taken need →
    Linked k.block.call.surroundings.links k.block.call.code index (part (in_registers k.words taken)) →
    credits + size_of (part (in_registers k.words taken)) + k.most ≤ cost k.block.call.code →
    AreIn k.block.call.surroundings p numbers index f →
    Comes k.block.call.code credits f (services_of p)
    (A (behind p numbers taken credits index (part (in_registers k.words taken))))
    (meaning k.block.call.surroundings.acts p.state)

-- what waited before its operands came stands over all layers where the block's first statement begins
abbrev pub StandOver : List Entry → Setting → Type 0
StandOver entries k =
    AreOver (entries ++ k.block.first.control.entries) k.block.first.control.edits k.block.first.control.layers

-- the last code, where its operands wait too, with something of the machines there
abbrev pub Last :
    {X : Type 0} → (entries there : List Entry) → (k : Setting) → (Stretch → Aims X) → (Base → ℕ → Type 0) → Code →
    Meaning X → Type 0
Last entries there k A holds last meaning =
    (p : Point) (numbers : ℕ → ℕ) (taken c index : ℕ) (f : Family) →
    IsAmong (waiting there k.block) numbers p → p.control.line ≡ k.around.line → StandOver entries k →
    Linked k.block.call.surroundings.links k.block.call.code index last →
    c + size_of last + k.most ≤ cost k.block.call.code →
    ((b : Base) →
    IsIn k.block.call.surroundings p numbers index b (f b) × holds b (value (f b).machine a0)) →
    Comes k.block.call.code c f (services_of p) (A (behind p numbers taken c index last))
    (meaning k.block.call.surroundings.acts p.state)

-- the same with the word of a number in a0, above a text, and with registers for temporaries
abbrev pub LastWith :
    {X : Type 0} → List Entry → (text : List ℕ) → (k : Setting) → (Stretch → Aims X) → (need : ℕ) → ℤ →
    (Taken → Code) → Meaning X → Type 0
LastWith entries text k A need z last meaning =
    (p : Point) (numbers : ℕ → ℕ) (taken c index : ℕ) (f : Family) →
    IsAmong (waiting (TextEntry text ∷ entries) k.block) numbers p → p.control.line ≡ k.around.line →
    StandOver entries k → HasRegisters k taken need →
    Linked k.block.call.surroundings.links k.block.call.code index (last (in_registers k.words taken)) →
    c + size_of (last (in_registers k.words taken)) + k.most ≤ cost k.block.call.code →
    ((b : Base) →
    IsIn k.block.call.surroundings p numbers index b (f b) × (value (f b).machine a0 ≡ word z)) →
    Comes k.block.call.code c f (services_of p)
    (A (behind p numbers taken c index (last (in_registers k.words taken))))
    (meaning k.block.call.surroundings.acts p.state)

abbrev pub anything : Base → ℕ → Type 0
anything b x = Unit {0}

-- ---- one text

pub one_text :
    {X : Type 0} (entries : List Entry) (k : Setting) (A : Stretch → Aims X) → Leads k A → (need : ℕ)
    (part : Taken → Code) (last : Code) (first : Meaning (List ℕ)) (next' : List ℕ → Meaning X) →
    Pushes entries k need part first →
    ((s : List ℕ) → IsShort s → Last entries (TextEntry s ∷ entries) k A anything last (next' s)) →
    Part entries k A need (λ taken. part taken ++ last) (first >>= next')
unfolding ◌>>=◌
one_text entries k A leads need part last first next' el ends p numbers taken c index f o line registers l paid there =
    let w = k.block.call.surroundings in
    let code = k.block.call.code in
    let t = in_registers k.words taken in
    let a = part t in
    let n1 = size_append a last in
    let whole = behind p numbers taken c index (a ++ last) in
    let goal = A whole in
    let closed = leads.closed whole in
    comes_on w.acts (first w.acts p.state) next'
    (comes_map (text_aims entries k (behind p numbers taken c index a)) (before code goal w.acts next')
    (leads.limits whole)
    (first w.acts p.state)
    (λ c1 f1 v1 s s1 q1.
    let p1 = q1.point in
    let since1 = q1.since in
    let x = behind p1 q1.numbers taken (c + size_of a) (index + size_of a) last in
    subst (λ s'. Comes code c1 f1 v1 goal (next' s w.acts s')) (sym q1.state)
    (onward closed q1.reach
    (λ g1 at1.
    leads.further x whole (c + size_of a) g1 (services_of p1) (next' s w.acts p1.state)
    (record {
      acts = omega (arith, since1);
      line = q1.line;
      index = omega (arith, n1);
      wanted = omega (arith, n1);
      taken = omega arith;
      stays = λ i less. q1.stays i less;
    })
    (ends s q1.short p1 q1.numbers taken (c + size_of a) (index + size_of a) g1 q1.among (q1.line ∙ line)
    (over_first k.block entries o) (back_of a last l) (omega (arith, paid, n1)) (λ b. (at1 b, tt))))))
    (λ c1 f1 v1 height label s1 q1. leads.jumped whole c1 f1 v1 height label s1 q1)
    (λ c1 f1 v1 r s1 q1. absurd q1)
    (el p numbers taken c index f o line registers (front_of a last l) (omega (arith, paid, n1)) there))

-- ---- two operands

enough_left : (k : Setting) (taken m n : ℕ) → HasRegisters k taken (max m n) → HasRegisters k taken m
enough_left k taken m n h =
    let room = h.0 in
    let most = le-max_left m n in
    (omega (arith, room, most), h.1)

enough_right : (k : Setting) (taken m n : ℕ) → HasRegisters k taken (max m n) → HasRegisters k taken n
enough_right k taken m n h =
    let room = h.0 in
    let most = le-max_right m n in
    (omega (arith, room, most), h.1)

-- the left text waits while the right one is evaluated
pub two_texts :
    {X : Type 0} (entries : List Entry) (k : Setting) (A : Stretch → Aims X) → Leads k A → (m n : ℕ)
    (left right : Taken → Code) (last : Code) (first second : Meaning (List ℕ)) (next' : List ℕ → List ℕ → Meaning X) →
    Pushes entries k m left first → ((s : List ℕ) → Pushes (TextEntry s ∷ entries) k n right second) →
    ((s t : List ℕ) → IsShort s → IsShort t →
    Last entries (TextEntry t ∷ TextEntry s ∷ entries) k A anything last (next' s t)) →
    Part entries k A (max m n) (λ taken. left taken ++ (right taken ++ last))
    (first >>= (λ s. second >>= (λ t. next' s t)))
unfolding ◌>>=◌
two_texts {X} entries k A leads m n left right last first second next' el er ends p numbers taken c index f o line
    registers l paid there =
    let w = k.block.call.surroundings in
    let code = k.block.call.code in
    let t = in_registers k.words taken in
    let a = left t in
    let b' = right t in
    let n1 = size_append a (b' ++ last) in
    let n2 = size_append b' last in
    let whole = behind p numbers taken c index (a ++ (b' ++ last)) in
    let goal = A whole in
    let closed = leads.closed whole in
    let rest : List ℕ → Meaning X = λ s. second >>= (λ u. next' s u) in
    let l1 = back_of a (b' ++ last) l in
    comes_on w.acts (first w.acts p.state) rest
    (comes_map (text_aims entries k (behind p numbers taken c index a)) (before code goal w.acts rest)
    (leads.limits whole)
    (first w.acts p.state)
    (λ c1 f1 v1 s s1 q1.
    let p1 = q1.point in
    let since1 = q1.since in
    let c2 = c + size_of a in
    let i2 = index + size_of a in
    subst (λ s'. Comes code c1 f1 v1 goal (rest s w.acts s')) (sym q1.state)
    (onward closed q1.reach
    (λ g1 at1.
    comes_on w.acts (second w.acts p1.state) (next' s)
    (comes_map (text_aims (TextEntry s ∷ entries) k (behind p1 q1.numbers taken c2 i2 b'))
    (before code goal w.acts (next' s)) (leads.limits whole) (second w.acts p1.state)
    (λ c3 f3 v3 u s3 q3.
    let p3 = q3.point in
    let since3 = q3.since in
    let x = behind p3 q3.numbers taken (c2 + size_of b') (i2 + size_of b') last in
    subst (λ s'. Comes code c3 f3 v3 goal (next' s u w.acts s')) (sym q3.state)
    (onward closed q3.reach
    (λ g3 at3.
    leads.further x whole (c2 + size_of b') g3 (services_of p3) (next' s u w.acts p3.state)
    (record {
      acts = omega (arith, since1, since3);
      line = q3.line ∙ q1.line;
      index = omega (arith, n1, n2);
      wanted = omega (arith, n1, n2);
      taken = omega arith;
      stays = λ i less. q3.stays i less ∙ q1.stays i less;
    })
    (ends s u q1.short q3.short p3 q3.numbers taken (c2 + size_of b') (i2 + size_of b') g3 q3.among
    (q3.line ∙ q1.line ∙ line) (over_first k.block entries o) (back_of b' last l1) (omega (arith, paid, n1, n2))
    (λ b. (at3 b, tt))))))
    (λ c3 f3 v3 height label s3 q3. leads.jumped whole c3 f3 v3 height label s3 (jumps_since since1 q3))
    (λ c3 f3 v3 r s3 q3. absurd q3)
    (er s p1 q1.numbers taken c2 i2 g1 q1.among (q1.line ∙ line) (enough_right k taken m n registers)
    (front_of b' last l1) (omega (arith, paid, n1, n2)) at1)))))
    (λ c1 f1 v1 height label s1 q1. leads.jumped whole c1 f1 v1 height label s1 q1)
    (λ c1 f1 v1 r s1 q1. absurd q1)
    (el p numbers taken c index f o line (enough_left k taken m n registers) (front_of a (b' ++ last) l)
    (omega (arith, paid, n1)) there))

-- a text waits while a number is evaluated, whose word comes in a0
pub text_and_number :
    {X : Type 0} (entries : List Entry) (k : Setting) (A : Stretch → Aims X) → Leads k A → (m n q : ℕ)
    (left right last : Taken → Code) (first : Meaning (List ℕ)) (second : Meaning ℤ)
    (next' : List ℕ → ℤ → Meaning X) → Pushes entries k m left first →
    ((s : List ℕ) → Evaluates (TextEntry s ∷ entries) k n right second) →
    ((s : List ℕ) (z : ℤ) → IsShort s → IsWide z → LastWith entries s k A q z last (next' s z)) →
    Part entries k A (max m (max n q)) (λ taken. left taken ++ (right taken ++ last taken))
    (first >>= (λ s. second >>= (λ z. next' s z)))
unfolding ◌>>=◌
text_and_number {X} entries k A leads m n q left right last first second next' el er ends p numbers taken c index f o
    line registers l paid there =
    let w = k.block.call.surroundings in
    let code = k.block.call.code in
    let t = in_registers k.words taken in
    let a = left t in
    let b' = right t in
    let end = last t in
    let more = enough_right k taken m (max n q) registers in
    let n1 = size_append a (b' ++ end) in
    let n2 = size_append b' end in
    let whole = behind p numbers taken c index (a ++ (b' ++ end)) in
    let goal = A whole in
    let closed = leads.closed whole in
    let rest : List ℕ → Meaning X = λ s. second >>= (λ u. next' s u) in
    let l1 = back_of a (b' ++ end) l in
    comes_on w.acts (first w.acts p.state) rest
    (comes_map (text_aims entries k (behind p numbers taken c index a)) (before code goal w.acts rest)
    (leads.limits whole)
    (first w.acts p.state)
    (λ c1 f1 v1 s s1 q1.
    let p1 = q1.point in
    let since1 = q1.since in
    let c2 = c + size_of a in
    let i2 = index + size_of a in
    subst (λ s'. Comes code c1 f1 v1 goal (rest s w.acts s')) (sym q1.state)
    (onward closed q1.reach
    (λ g1 at1.
    comes_on w.acts (second w.acts p1.state) (next' s)
    (comes_map (value_aims (TextEntry s ∷ entries) k (behind p1 q1.numbers taken c2 i2 b'))
    (before code goal w.acts (next' s)) (leads.limits whole) (second w.acts p1.state)
    (λ c3 f3 v3 z s3 q3.
    let o3 = q3.1 in
    let p3 = o3.point in
    let since3 = o3.since in
    let x = behind p3 o3.numbers taken (c2 + size_of b') (i2 + size_of b') end in
    subst (λ s'. Comes code c3 f3 v3 goal (next' s z w.acts s')) (sym o3.state)
    (onward closed o3.reach
    (λ g3 at3.
    leads.further x whole (c2 + size_of b') g3 (services_of p3) (next' s z w.acts p3.state)
    (record {
      acts = omega (arith, since1, since3);
      line = o3.line ∙ q1.line;
      index = omega (arith, n1, n2);
      wanted = omega (arith, n1, n2);
      taken = omega arith;
      stays = λ i less. o3.stays i less ∙ q1.stays i less;
    })
    (ends s z q1.short q3.0 p3 o3.numbers taken (c2 + size_of b') (i2 + size_of b') g3 o3.among
    (o3.line ∙ q1.line ∙ line) (over_first k.block entries o) (enough_right k taken n q more) (back_of b' end l1)
    (omega (arith, paid, n1, n2)) at3))))
    (λ c3 f3 v3 height label s3 q3. leads.jumped whole c3 f3 v3 height label s3 (jumps_since since1 q3))
    (λ c3 f3 v3 r s3 q3. absurd q3)
    (er s p1 q1.numbers taken c2 i2 g1 q1.among (q1.line ∙ line) (enough_left k taken n q more)
    (front_of b' end l1) (omega (arith, paid, n1, n2)) at1)))))
    (λ c1 f1 v1 height label s1 q1. leads.jumped whole c1 f1 v1 height label s1 q1)
    (λ c1 f1 v1 r s1 q1. absurd q1)
    (el p numbers taken c index f o line (enough_left k taken m (max n q) registers) (front_of a (b' ++ end) l)
    (omega (arith, paid, n1)) there))
