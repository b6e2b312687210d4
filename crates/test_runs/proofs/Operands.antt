-- Operators of two operands that leave a bit: the left operand waits in a register while the right one is evaluated.
use Rattle.std.proofs.Common.{◌≡◌, ℕ, suc, ◌+◌, ◌^◌, ◌<◌, ◌≤◌, List, [], ◌∷◌, ◌++◌, Bool, refl, sym, ap, ◌∙◌, subst}
use Rattle.std.proofs.Common.{arith}
use Rattle.std.proofs.Math.Nat.{le-max_left, le-max_right}
use Rattle.std.specs.Prelude.{max, ⊤}
use Rattle.rv_meaning.specs.Words.{flag}
use Rattle.pli_meaning.specs.Control.{Label, Meaning, give, ◌>>=◌}
use Rattle.pli_coding.specs.Assembly.{Code, size_of}
use Rattle.pli_coding.specs.Environments.{Taken, fetch, save, with_number}
use Rattle.pli_coding.specs.Registers.{a0, u1}
use Rattle.activation_relation.specs.Layers.{Point, services_of}
use Rattle.run_steps.specs.Bodies.{Known}
use Rattle.run_steps.specs.Engine.{Base}
use Rattle.run_steps.specs.Items.{At, Linked}
use Rattle.run_steps.proofs.Jumps.{back_of, front_of}
use Rattle.run_steps.proofs.Linking.{size_append}
use Rattle.run_steps.specs.Reach.{Aims, Closed, Comes, Family, before, cost}
use Rattle.run_steps.proofs.Reach.{comes_on, onward, stay}
use Rattle.block_runs.specs.Machines.{AreIn, limits_of}
use Rattle.block_runs.proofs.CallStatements.{comes_map}
use Rattle.block_runs.proofs.PointGrounds.{in_known, point_frame, point_ground}
use Rattle.program_runs.specs.Statements.{Block, IsAmong, JumpsTo}
use Rattle.program_runs.proofs.JumpsOut.{jumps_later, jumps_since}
use Rattle.expression_runs.specs.Values.{HasRegisters, HasWord, Setting, Stretch, behind, in_registers}
use Rattle.expression_runs.proofs.Saving.{fetched_reach, held_after, held_among, held_is_given, held_stays, next_taken}
use Rattle.expression_runs.proofs.Saving.{register_left, saved_reach}
use Rattle.expression_runs.proofs.Words.{IsFurther, frame_of, known_word, paired, valued, word_further, word_here}
use Rattle.expression_runs.proofs.Words.{word_later}
use Rattle.test_runs.specs.Tests.{Decides, bit_aims}

-- ---- values that stand in a0 as words

abbrev pub value_aims : {X : Type 0} → (X → ℕ) → (X → Type 0) → Block → List Label → Stretch → Aims X
value_aims worded fits k labels x =
    record {
      limits = limits_of k.call.surroundings;
      done = λ c f v z s. fits z × HasWord k x (worded z) c f v s;
      jumped = λ c f v height label s. JumpsTo k labels x.acts c f v height label s;
      returned = λ c f v r s. ⊥;
    }

abbrev pub Leaves : {X : Type 0} → (X → ℕ) → (X → Type 0) → Setting → (need : ℕ) → (part : Taken → Code) →
    Meaning X → Type 0
Leaves worded fits k need part meaning =
    (p : Point) (numbers : ℕ → ℕ) (taken credits index : ℕ) (f : Family) → IsAmong k.block numbers p →
    p.control.line ≡ k.around.line → HasRegisters k taken need →
    Linked k.block.call.surroundings.links k.block.call.code index (part (in_registers k.words taken)) →
    credits + size_of (part (in_registers k.words taken)) + k.most ≤ cost k.block.call.code →
    AreIn k.block.call.surroundings p numbers index f →
    Comes k.block.call.code credits f (services_of p)
    (value_aims worded fits k.block k.labels
    (behind p numbers taken credits index (part (in_registers k.words taken))))
    (meaning k.block.call.surroundings.acts p.state)

pub bit_closed : (k : Block) (labels : List Label) (x : Stretch) → Closed k.call.code (bit_aims k labels x)
bit_closed k labels x =
    record {
      done = λ r z s o. word_later r o;
      jumped = λ r height label s o. jumps_later r o;
      returned = λ r z s o. absurd o;
    }

abbrev pub IsBit : Bool → Type 0
IsBit b = ⊤

-- a bit is a value of that kind
pub decided_leaves :
    (k : Setting) (need : ℕ) (part : Taken → Code) (meaning : Meaning Bool) → Decides k need part meaning →
    Leaves flag IsBit k need part meaning
decided_leaves k need part meaning does p numbers taken c index f o line registers l paid at =
    let x = behind p numbers taken c index (part (in_registers k.words taken)) in
    comes_map (bit_aims k.block k.labels x) (value_aims flag IsBit k.block k.labels x) refl
    (meaning k.block.call.surroundings.acts p.state)
    (λ c f v z s q. (tt, q))
    (λ c f v height label s q. q)
    (λ c f v r s q. absurd q)
    (does p numbers taken c index f o line registers l paid at)

-- ---- code that leaves a bit

pub leaves_bit :
    (k : Setting) (p : Point) (numbers : ℕ → ℕ) (taken c index : ℕ) (f : Family) (b : Bool) (part : Code)
    (h : frame_of k.block p) → IsAmong k.block numbers p →
    ((base : Base) → At base (index + size_of part) (Known (point_ground k.block.call.surroundings p h) (services_of p)
    numbers (λ j. 0) (valued (flag b)) base) (f base)) →
    Comes k.block.call.code (c + size_of part) f (services_of p)
    (bit_aims k.block k.labels (behind p numbers taken c index part))
    (give b k.block.call.surroundings.acts p.state)
unfolding give
leaves_bit k p numbers taken c index f b part h o at =
    let whole = behind p numbers taken c index part in
    record {
      to = λ early. word_here {x = whole} h o (omega arith) refl
          (stay k.block.call.code whole.wanted f (services_of p)
          (λ b0 y. At b0 whole.index (Known (point_ground k.block.call.surroundings p h) (services_of p) numbers
          (λ j. 0)
          (valued (flag b)) b0) y) at);
    }

-- ---- two operands

-- an operator, with its left operand in u1 and its right one in a0
abbrev pub Compares : {X : Type 0} → (X → ℕ) → (X → Type 0) → Setting → (part : Code) → (X → X → Bool) → Type 0
Compares {X} worded fits k part result =
    (p : Point) (numbers : ℕ → ℕ) (taken c index : ℕ) (f : Family) (x y : X) (h : frame_of k.block p) →
    IsAmong k.block numbers p → fits x → fits y →
    Linked k.block.call.surroundings.links k.block.call.code index part →
    ((b : Base) → At b index (Known (point_ground k.block.call.surroundings p h) (services_of p) numbers (λ j. 0)
    (paired (worded x) (worded y)) b) (f b)) →
    Comes k.block.call.code c f (services_of p)
    (bit_aims k.block k.labels (behind p numbers taken c index part))
    (give (result x y) k.block.call.surroundings.acts p.state)

abbrev pub tested_parts : (left right : Taken → Code) → (last : Code) → Taken → Code
tested_parts left right last taken =
    left taken ++ (save a0 taken ++ (right (with_number taken) ++ (fetch u1 taken ++ last)))

bit_further :
    {k : Block} {labels : List Label} {x y : Stretch} {c : ℕ} {f : Family} (b : Bool) (acts : ℕ) (p : Point) →
    IsFurther x y → Comes k.call.code c f (services_of p) (bit_aims k labels x) (give b acts p.state) →
    Comes k.call.code c f (services_of p) (bit_aims k labels y) (give b acts p.state)
bit_further {k} {labels} {x} {y} b acts p i o =
    comes_map (bit_aims k labels x) (bit_aims k labels y) refl (give b acts p.state)
    (λ c f v z s q. word_further i q)
    (λ c f v height label s q. jumps_since i.acts q)
    (λ c f v r s q. absurd q)
    o

enough_left : (k : Setting) (taken m n : ℕ) → HasRegisters k taken (max m (suc n)) → HasRegisters k taken m
enough_left k taken m n h =
    let room = h.0 in
    let most = le-max_left m (suc n) in
    (omega (arith, room, most), h.1)

enough_right : (k : Setting) (taken m n : ℕ) → HasRegisters k taken (max m (suc n)) → HasRegisters k (taken + 1) n
enough_right k taken m n h =
    let room = h.0 in
    let most = le-max_right m (suc n) in
    (omega (arith, room, most), h.1)

enough_one : (k : Setting) (taken m n : ℕ) → HasRegisters k taken (max m (suc n)) → HasRegisters k taken 1
enough_one k taken m n h =
    let room = h.0 in
    let most = le-max_right m (suc n) in
    (omega (arith, room, most), h.1)

pub both_decide :
    {X : Type 0} (worded : X → ℕ) (fits : X → Type 0) (few : (x : X) → fits x → worded x < 2 ^ 32) (k : Setting)
    (m n : ℕ) (left right : Taken → Code) (last : Code) (first second : Meaning X) (result : X → X → Bool) →
    Leaves worded fits k m left first → Leaves worded fits k n right second → Compares worded fits k last result →
    Decides k (max m (suc n)) (tested_parts left right last)
    (first >>= (λ x. second >>= (λ y. give (result x y))))
unfolding ◌>>=◌
both_decide {X} worded fits few k m n left right last first second result el er op p numbers taken c index f o line
    registers l paid there =
    let w = k.block.call.surroundings in
    let code = k.block.call.code in
    let t = in_registers k.words taken in
    let one = enough_one k taken m n registers in
    let next = next_taken k.words taken (register_left k taken 1 one (omega arith)) in
    let a = left t in
    let put' = save a0 t in
    let b' = right (with_number t) in
    let back = fetch u1 t in
    let d = last in
    let n1 = size_append a (put' ++ (b' ++ (back ++ d))) in
    let n2 = size_append put' (b' ++ (back ++ d)) in
    let n3 = size_append b' (back ++ d) in
    let n4 = size_append back d in
    let same = ap (λ u. size_of (right u)) next in
    let l2 = back_of a (put' ++ (b' ++ (back ++ d))) l in
    let l3 = back_of put' (b' ++ (back ++ d)) l2 in
    let l4 = back_of b' (back ++ d) l3 in
    let l5 = back_of back d l4 in
    let lb = subst (λ u. Linked w.links code (index + size_of a + size_of put') (right u)) next
    (front_of b' (back ++ d) l3) in
    let whole = behind p numbers taken c index (tested_parts left right last t) in
    let goal = bit_aims k.block k.labels whole in
    let closed = bit_closed k.block k.labels whole in
    let next' : X → X → Meaning Bool = λ x y. give (result x y) in
    let rest : X → Meaning Bool = λ x. second >>= (λ y. next' x y) in
    comes_on w.acts (first w.acts p.state) rest
    (comes_map (value_aims worded fits k.block k.labels (behind p numbers taken c index a))
    (before code goal w.acts rest) refl (first w.acts p.state)
    (λ c1 f1 v1 x s1 q1.
    let o1 = q1.1 in
    let p1 = o1.point in
    let since1 = o1.since in
    let h1 = point_frame o1.among.stands o1.among.image in
    let held = held_after o1.numbers taken (worded x) in
    let small' = few x q1.0 in
    subst (λ s. Comes code c1 f1 v1 goal (rest x w.acts s)) (sym o1.state)
    (onward closed o1.reach
    (λ g1 at1.
    onward closed
    (saved_reach k taken 0 h1 one (c + size_of a) g1 (worded x) small' (front_of put' (b' ++ (back ++ d)) l2)
    (λ b. known_word k.block h1 (at1 b)))
    (λ g2 at2.
    let among2 = held_among k taken 1 (worded x) one (omega arith) small' o1.among in
    let part2 = right (in_registers k.words (taken + 1)) in
    let c2 = c + size_of a + size_of put' in
    let i2 = index + size_of a + size_of put' in
    comes_on w.acts (second w.acts p1.state) (λ y. next' x y)
    (comes_map (value_aims worded fits k.block k.labels (behind p1 held (taken + 1) c2 i2 part2))
    (before code goal w.acts (λ y. next' x y)) refl (second w.acts p1.state)
    (λ c3 f3 v3 y s3 q3.
    let o3 = q3.1 in
    let p3 = o3.point in
    let since3 = o3.since in
    let h3 = point_frame o3.among.stands o3.among.image in
    let waits = o3.stays taken (omega arith) ∙ held_is_given o1.numbers taken (worded x) in
    let c4 = c2 + size_of part2 + size_of back in
    let i4 = i2 + size_of b' + size_of back in
    subst (λ s. Comes code c3 f3 v3 goal (next' x y w.acts s)) (sym o3.state)
    (onward closed o3.reach
    (λ g3 at3.
    onward closed
    (fetched_reach k taken 0 h3 one (c2 + size_of part2) g3 u1 (worded x) small' waits
    (record { reserved_stay = λ z u. refl; known_stay = λ b z u q. q; set = λ z u. refl })
    (record { reserved_stay = λ z u. refl; known_stay = λ b z u q. q; set = λ z u. refl })
    (front_of back d l4)
    (λ b. subst (λ j. At b j (Known (point_ground w p3 h3) (services_of p3) o3.numbers (λ j'. 0)
    (λ b0. (10, worded y) ∷ []) b) (g3 b)) (omega (arith, same)) (known_word k.block h3 (at3 b))))
    (λ g4 at4.
    bit_further (result x y) w.acts p3
    (record {
      acts = omega (arith, since1, since3);
      line = o3.line ∙ o1.line;
      index = omega (arith, n1, n2, n3, n4);
      wanted = omega (arith, n1, n2, n3, n4, same);
      taken = omega arith;
      stays = λ i less.
          o3.stays i (omega (arith, less)) ∙ held_stays o1.numbers taken (worded x) i less ∙ o1.stays i less;
    })
    (op p3 o3.numbers taken c4 i4 g4 x y h3 o3.among q1.0 q3.0 l5 at4)))))
    (λ c3 f3 v3 height label s3 q3. jumps_since since1 q3)
    (λ c3 f3 v3 r s3 q3. absurd q3)
    (er p1 held (taken + 1) c2 i2 g2 among2 (o1.line ∙ line) (enough_right k taken m n registers) lb
    (omega (arith, paid, n1, n2, n3, n4, same)) (λ b. in_known h1 o1.among.image.parts (at2 b))))))))
    (λ c1 f1 v1 height label s1 q1. q1)
    (λ c1 f1 v1 r s1 q1. absurd q1)
    (el p numbers taken c index f o line (enough_left k taken m n registers)
    (front_of a (put' ++ (b' ++ (back ++ d))) l) (omega (arith, paid, n1)) there))

-- ---- one operand

pub one_decides :
    (k : Setting) (m : ℕ) (first : Taken → Code) (last : Code) (meant : Meaning Bool) (result : Bool → Bool) →
    Decides k m first meant →
    ((p : Point) (numbers : ℕ → ℕ) (taken c index : ℕ) (f : Family) (x : Bool) (h : frame_of k.block p) →
    IsAmong k.block numbers p → Linked k.block.call.surroundings.links k.block.call.code index last →
    ((b : Base) → At b index (Known (point_ground k.block.call.surroundings p h) (services_of p) numbers (λ j. 0)
    (valued (flag x)) b) (f b)) →
    Comes k.block.call.code c f (services_of p)
    (bit_aims k.block k.labels (behind p numbers taken c index last))
    (give (result x) k.block.call.surroundings.acts p.state)) →
    Decides k m (λ t. first t ++ last) (meant >>= (λ x. give (result x)))
unfolding ◌>>=◌
one_decides k m first last meant result does op p numbers taken c index f o line registers l paid there =
    let w = k.block.call.surroundings in
    let code = k.block.call.code in
    let a = first (in_registers k.words taken) in
    let n1 = size_append a last in
    let goal = bit_aims k.block k.labels (behind p numbers taken c index (a ++ last)) in
    let closed = bit_closed k.block k.labels (behind p numbers taken c index (a ++ last)) in
    let next' : Bool → Meaning Bool = λ x. give (result x) in
    comes_on w.acts (meant w.acts p.state) next'
    (comes_map (bit_aims k.block k.labels (behind p numbers taken c index a)) (before code goal w.acts next') refl
    (meant w.acts p.state)
    (λ c1 f1 v1 x s1 o1.
    let p1 = o1.point in
    let since1 = o1.since in
    let h1 = point_frame o1.among.stands o1.among.image in
    subst (λ s. Comes code c1 f1 v1 goal (next' x w.acts s)) (sym o1.state)
    (onward closed o1.reach
    (λ g1 at1.
    bit_further (result x) w.acts p1
    (record {
      acts = since1;
      line = o1.line;
      index = omega (arith, n1);
      wanted = omega (arith, n1);
      taken = omega arith;
      stays = λ i less. o1.stays i less;
    })
    (op p1 o1.numbers taken (c + size_of a) (index + size_of a) g1 x h1 o1.among (back_of a last l)
    (λ b. known_word k.block h1 (at1 b))))))
    (λ c1 f1 v1 height label s1 q1. q1)
    (λ c1 f1 v1 r s1 q1. absurd q1)
    (does p numbers taken c index f o line registers (front_of a last l) (omega (arith, paid, n1)) there))
