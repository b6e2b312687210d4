-- Operators of one operand.
use Rattle.std.proofs.Common.{◌≡◌, ℕ, ◌+◌, ◌≤◌, ◌++◌, refl, sym, ◌∙◌, subst, arith}
use Rattle.std.specs.Prelude.{ℤ}
use Rattle.rv_meaning.specs.Words.{word}
use Rattle.pli_meaning.specs.Control.{Meaning, give, ◌>>=◌}
use Rattle.pli_coding.specs.Assembly.{Code, size_of}
use Rattle.pli_coding.specs.Environments.{Taken}
use Rattle.activation_relation.specs.Layers.{Point, services_of}
use Rattle.run_steps.specs.Bodies.{Known}
use Rattle.run_steps.specs.Engine.{Base}
use Rattle.run_steps.specs.Items.{At, Linked}
use Rattle.run_steps.proofs.Jumps.{back_of, front_of}
use Rattle.run_steps.proofs.Linking.{size_append}
use Rattle.run_steps.specs.Numbers.{IsWide}
use Rattle.run_steps.specs.Reach.{Comes, Family, before, cost}
use Rattle.run_steps.proofs.Reach.{comes_on, onward, stay}
use Rattle.block_runs.proofs.CallStatements.{comes_map}
use Rattle.block_runs.proofs.PointGrounds.{point_frame, point_ground}
use Rattle.program_runs.specs.Statements.{IsAmong}
use Rattle.expression_runs.specs.Values.{Evaluates, HasRegisters, Setting, behind, in_registers, number_aims}
use Rattle.expression_runs.proofs.Words.{frame_of, known_word, number_closed, number_further, valued, word_here}

-- an operator, with its operand in a0
abbrev pub Follows : Setting → (need : ℕ) → (part : Taken → Code) → (ℤ → Meaning ℤ) → Type 0
Follows k need part meaning =
    (p : Point) (numbers : ℕ → ℕ) (taken c index : ℕ) (f : Family) (x : ℤ) (h : frame_of k.block p) →
    IsAmong k.block numbers p → p.control.line ≡ k.around.line → HasRegisters k taken need → IsWide x →
    Linked k.block.call.surroundings.links k.block.call.code index (part (in_registers k.words taken)) →
    c + size_of (part (in_registers k.words taken)) + k.most ≤ cost k.block.call.code →
    ((b : Base) → At b index (Known (point_ground k.block.call.surroundings p h) (services_of p) numbers (λ j. 0)
    (valued (word x)) b) (f b)) →
    Comes k.block.call.code c f (services_of p)
    (number_aims k.block k.labels (behind p numbers taken c index (part (in_registers k.words taken))))
    (meaning x k.block.call.surroundings.acts p.state)

enough : (k : Setting) (taken m need : ℕ) → m ≤ need → HasRegisters k taken need → HasRegisters k taken m
enough k taken m need few room =
    let most = room.0 in
    (omega (arith, few, most), room.1)

pub one_does :
    (k : Setting) (m n need : ℕ) (first last : Taken → Code) (meant : Meaning ℤ) (next' : ℤ → Meaning ℤ) →
    m ≤ need → n ≤ need → Evaluates k m first meant → Follows k n last next' →
    Evaluates k need (λ t. first t ++ last t) (meant >>= next')
unfolding ◌>>=◌
one_does k m n need first last meant next' few_m few_n does follows p numbers taken c index f o line registers l paid
    there =
    let w = k.block.call.surroundings in
    let code = k.block.call.code in
    let t = in_registers k.words taken in
    let a = first t in
    let d = last t in
    let n1 = size_append a d in
    let goal = number_aims k.block k.labels (behind p numbers taken c index (a ++ d)) in
    let closed = number_closed k.block k.labels (behind p numbers taken c index (a ++ d)) in
    comes_on w.acts (meant w.acts p.state) next'
    (comes_map (number_aims k.block k.labels (behind p numbers taken c index a)) (before code goal w.acts next') refl
    (meant w.acts p.state)
    (λ c1 f1 v1 x s1 q1.
    let o1 = q1.1 in
    let p1 = o1.point in
    let since1 = o1.since in
    let h1 = point_frame o1.among.stands o1.among.image in
    subst (λ s. Comes code c1 f1 v1 goal (next' x w.acts s)) (sym o1.state)
    (onward closed o1.reach
    (λ g1 at1.
    number_further
    (record {
      acts = since1;
      line = o1.line;
      index = omega (arith, n1);
      wanted = omega (arith, n1);
      taken = omega arith;
      stays = λ i less. o1.stays i less;
    })
    (follows p1 o1.numbers taken (c + size_of a) (index + size_of a) g1 x h1 o1.among (o1.line ∙ line)
    (enough k taken n need few_n registers) q1.0 (back_of a d l) (omega (arith, paid, n1))
    (λ b. known_word k.block h1 (at1 b))))))
    (λ c1 f1 v1 height label s1 q1. q1)
    (λ c1 f1 v1 r s1 q1. absurd q1)
    (does p numbers taken c index f o line (enough k taken m need few_m registers) (front_of a d l)
    (omega (arith, paid, n1)) there))

-- ---- code without jumps

-- it leaves the word of a number
pub straight_gives :
    (k : Setting) (p : Point) (numbers : ℕ → ℕ) (taken c index : ℕ) (f : Family) (z : ℤ) (part : Code)
    (h : frame_of k.block p) → IsAmong k.block numbers p → IsWide z →
    ((b : Base) → At b (index + size_of part) (Known (point_ground k.block.call.surroundings p h) (services_of p)
    numbers (λ j. 0) (valued (word z)) b) (f b)) →
    Comes k.block.call.code (c + size_of part) f (services_of p)
    (number_aims k.block k.labels (behind p numbers taken c index part))
    (give z k.block.call.surroundings.acts p.state)
unfolding give
straight_gives k p numbers taken c index f z part h o wide at =
    let whole = behind p numbers taken c index part in
    record {
      to = λ early. (
        wide,
        word_here {x = whole} h o (omega arith) refl
            (stay k.block.call.code whole.wanted f (services_of p)
            (λ b y. At b whole.index (Known (point_ground k.block.call.surroundings p h) (services_of p) numbers
            (λ j. 0)
            (valued (word z)) b) y) at),
      );
    }
