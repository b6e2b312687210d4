-- Constants, and operators of two operands: the left one waits in a register while the right one is evaluated.
use Rattle.std.proofs.Common.{◌≡◌, ℕ, suc, ◌+◌, ◌^◌, ◌<◌, ◌≤◌, List, [], ◌∷◌, ◌++◌, refl, sym, ap, ◌∙◌, subst, arith}
use Rattle.std.specs.Prelude.{ℤ, max, pos}
use Rattle.std.proofs.lemmas.Bool.Decides.{nat_tests}
use Rattle.std.proofs.Math.Nat.{le-max_left, le-max_right}
use Rattle.rv_meaning.specs.Words.{word}
use Rattle.pli_typing.specs.TypedTree as Y
use Rattle.pli_meaning.specs.Control.{Meaning, Normal, give, ◌>>=◌}
use Rattle.pli_meaning.specs.Evaluating as V
use Rattle.pli_coding.specs.Assembly.{Code, size_of}
use Rattle.pli_coding.specs.Environments.{Taken, fetch, save, with_number}
use Rattle.pli_coding.specs.Expressions.{number_code}
use Rattle.pli_coding.specs.Registers.{a0, u1}
use Rattle.activation_relation.specs.Layers.{Point, services_of}
use Rattle.run_steps.specs.Bodies.{Known}
use Rattle.run_steps.proofs.Bodies.{constant_piece}
use Rattle.run_steps.specs.Engine.{Base}
use Rattle.run_steps.specs.Items.{At, Linked}
use Rattle.run_steps.proofs.Jumps.{back_of, front_of}
use Rattle.run_steps.proofs.Linking.{size_append}
use Rattle.run_steps.specs.Numbers.{IsWide}
use Rattle.run_steps.proofs.Numbers.{word_small}
use Rattle.run_steps.specs.Reach.{Comes, Family, before, cost}
use Rattle.run_steps.proofs.Reach.{comes_on, onward}
use Rattle.run_steps.specs.Temporaries.{nothing}
use Rattle.block_runs.specs.Machines.{AreIn, IsIn}
use Rattle.block_runs.proofs.CallStatements.{comes_map}
use Rattle.block_runs.proofs.PointGrounds.{in_known, known_in, point_frame, point_ground}
use Rattle.program_runs.specs.Statements.{IsAmong}
use Rattle.program_runs.proofs.JumpsOut.{jumps_since}
use Rattle.expression_runs.specs.Values.{Evaluates, HasRegisters, Setting, behind, in_registers, number_aims}
use Rattle.expression_runs.proofs.Saving.{fetched_reach, held_after, held_among, held_is_given, held_stays, next_taken}
use Rattle.expression_runs.proofs.Saving.{register_left, saved_reach}
use Rattle.expression_runs.proofs.Words.{IsFurther, frame_of, known_word, number_closed, number_further, paired}
use Rattle.expression_runs.proofs.Words.{word_here}

-- ---- constants

constant_wide : (n : ℕ) → n < 2 ^ 31 → IsWide (pos n)
constant_wide n h = grind (arith, nat_tests)

pub constant_does :
    (k : Setting) (n : ℕ) → n < 2 ^ 31 →
    Evaluates k 0 (λ taken. number_code k.block.environment taken (Y.NumberConstant n))
    (V.number k.around (Y.NumberConstant n))
unfolding V.number give
constant_does k n few p numbers taken c index f o line registers l paid there =
    let wide = constant_wide n few in
    let h = point_frame o.stands o.image in
    let part = number_code k.block.environment (in_registers k.words taken) (Y.NumberConstant n) in
    let r = constant_piece {t = λ i. 0} {rs = nothing} c f a0 (pos n) (word_small (pos n) wide)
    (record { reserved_stay = λ y u. refl; known_stay = λ b y u q. q; set = λ y u. refl }) l
    (λ b. known_in h (there b) tt) in
    record { to = λ early. (wide, word_here {x = behind p numbers taken c index part} h o (omega arith) refl r) }

-- ---- two operands

-- an operator, with its left operand in u1 and its right one in a0
abbrev pub Operates : Setting → (part : Taken → Code) → (ℤ → ℤ → Meaning ℤ) → Type 0
Operates k part meaning =
    (p : Point) (numbers : ℕ → ℕ) (taken c index : ℕ) (f : Family) (x y : ℤ) (h : frame_of k.block p) →
    IsAmong k.block numbers p → p.control.line ≡ k.around.line → HasRegisters k taken 1 → IsWide x → IsWide y →
    Linked k.block.call.surroundings.links k.block.call.code index (part (in_registers k.words taken)) →
    c + size_of (part (in_registers k.words taken)) + k.most ≤ cost k.block.call.code →
    ((b : Base) → At b index (Known (point_ground k.block.call.surroundings p h) (services_of p) numbers (λ j. 0)
    (paired (word x) (word y)) b) (f b)) →
    Comes k.block.call.code c f (services_of p)
    (number_aims k.block k.labels (behind p numbers taken c index (part (in_registers k.words taken))))
    (meaning x y k.block.call.surroundings.acts p.state)

abbrev pub both_parts : (left right last : Taken → Code) → Taken → Code
both_parts left right last taken =
    left taken ++ (save a0 taken ++ (right (with_number taken) ++ (fetch u1 taken ++ last taken)))

-- so many registers for both
enough_left : (k : Setting) (taken m n : ℕ) → HasRegisters k taken (max m (suc n)) → HasRegisters k taken m
enough_left k taken m n h =
    let room = h.0 in
    let most = le-max_left m (suc n) in
    (omega (arith, room, most), h.1)

enough_right : (k : Setting) (taken m n : ℕ) → HasRegisters k taken (max m (suc n)) → HasRegisters k (taken + 1) n
enough_right k taken m n h =
    let room = h.0 in
    let most = le-max_right m (suc n) in
    (omega (arith, room, most), h.1)

enough_one : (k : Setting) (taken m n : ℕ) → HasRegisters k taken (max m (suc n)) → HasRegisters k taken 1
enough_one k taken m n h =
    let room = h.0 in
    let most = le-max_right m (suc n) in
    (omega (arith, room, most), h.1)

pub both_do :
    (k : Setting) (m n : ℕ) (left right last : Taken → Code) (first second : Meaning ℤ)
    (next' : ℤ → ℤ → Meaning ℤ) → Evaluates k m left first → Evaluates k n right second → Operates k last next' →
    Evaluates k (max m (suc n)) (both_parts left right last) (first >>= (λ x. second >>= (λ y. next' x y)))
unfolding ◌>>=◌
both_do k m n left right last first second next' el er op p numbers taken c index f o line registers l paid there =
    let w = k.block.call.surroundings in
    let code = k.block.call.code in
    let t = in_registers k.words taken in
    let one = enough_one k taken m n registers in
    let next = next_taken k.words taken (register_left k taken 1 one (omega arith)) in
    let a = left t in
    let put' = save a0 t in
    let b' = right (with_number t) in
    let back = fetch u1 t in
    let d = last t in
    let n1 = size_append a (put' ++ (b' ++ (back ++ d))) in
    let n2 = size_append put' (b' ++ (back ++ d)) in
    let n3 = size_append b' (back ++ d) in
    let n4 = size_append back d in
    let same = ap (λ u. size_of (right u)) next in
    let l2 = back_of a (put' ++ (b' ++ (back ++ d))) l in
    let l3 = back_of put' (b' ++ (back ++ d)) l2 in
    let l4 = back_of b' (back ++ d) l3 in
    let l5 = back_of back d l4 in
    let lb = subst (λ u. Linked w.links code (index + size_of a + size_of put') (right u)) next
    (front_of b' (back ++ d) l3) in
    let whole = behind p numbers taken c index (both_parts left right last t) in
    let goal = number_aims k.block k.labels whole in
    let closed = number_closed k.block k.labels whole in
    let rest : ℤ → Meaning ℤ = λ x. second >>= (λ y. next' x y) in
    comes_on w.acts (first w.acts p.state) rest
    (comes_map (number_aims k.block k.labels (behind p numbers taken c index a)) (before code goal w.acts rest) refl
    (first w.acts p.state)
    (λ c1 f1 v1 x s1 q1.
    let o1 = q1.1 in
    let p1 = o1.point in
    let since1 = o1.since in
    let h1 = point_frame o1.among.stands o1.among.image in
    let held = held_after o1.numbers taken (word x) in
    let small' = word_small x q1.0 in
    subst (λ s. Comes code c1 f1 v1 goal (rest x w.acts s)) (sym o1.state)
    (onward closed o1.reach
    (λ g1 at1.
    onward closed
    (saved_reach k taken 0 h1 one (c + size_of a) g1 (word x) small' (front_of put' (b' ++ (back ++ d)) l2)
    (λ b. known_word k.block h1 (at1 b)))
    (λ g2 at2.
    let among2 = held_among k taken 1 (word x) one (omega arith) small' o1.among in
    let part2 = right (in_registers k.words (taken + 1)) in
    let c2 = c + size_of a + size_of put' in
    let i2 = index + size_of a + size_of put' in
    comes_on w.acts (second w.acts p1.state) (λ y. next' x y)
    (comes_map (number_aims k.block k.labels (behind p1 held (taken + 1) c2 i2 part2))
    (before code goal w.acts (λ y. next' x y)) refl (second w.acts p1.state)
    (λ c3 f3 v3 y s3 q3.
    let o3 = q3.1 in
    let p3 = o3.point in
    let since3 = o3.since in
    let h3 = point_frame o3.among.stands o3.among.image in
    let waits = o3.stays taken (omega arith) ∙ held_is_given o1.numbers taken (word x) in
    let c4 = c2 + size_of part2 + size_of back in
    let i4 = i2 + size_of b' + size_of back in
    subst (λ s. Comes code c3 f3 v3 goal (next' x y w.acts s)) (sym o3.state)
    (onward closed o3.reach
    (λ g3 at3.
    onward closed
    (fetched_reach k taken 0 h3 one (c2 + size_of part2) g3 u1 (word x) small' waits
    (record { reserved_stay = λ z u. refl; known_stay = λ b z u q. q; set = λ z u. refl })
    (record { reserved_stay = λ z u. refl; known_stay = λ b z u q. q; set = λ z u. refl })
    (front_of back d l4)
    (λ b. subst (λ j. At b j (Known (point_ground w p3 h3) (services_of p3) o3.numbers (λ j'. 0)
    (λ b0. (10, word y) ∷ []) b) (g3 b)) (omega (arith, same)) (known_word k.block h3 (at3 b))))
    (λ g4 at4.
    number_further
    (record {
      acts = omega (arith, since1, since3);
      line = o3.line ∙ o1.line;
      index = omega (arith, n1, n2, n3, n4);
      wanted = omega (arith, n1, n2, n3, n4, same);
      taken = omega arith;
      stays = λ i less.
          o3.stays i (omega (arith, less)) ∙ held_stays o1.numbers taken (word x) i less ∙ o1.stays i less;
    })
    (op p3 o3.numbers taken c4 i4 g4 x y h3 o3.among (o3.line ∙ o1.line ∙ line) one q1.0 q3.0 l5
    (omega (arith, paid, n1, n2, n3, n4, same)) at4)))))
    (λ c3 f3 v3 height label s3 q3. jumps_since since1 q3)
    (λ c3 f3 v3 r s3 q3. absurd q3)
    (er p1 held (taken + 1) c2 i2 g2 among2 (o1.line ∙ line) (enough_right k taken m n registers) lb
    (omega (arith, paid, n1, n2, n3, n4, same)) (λ b. in_known h1 o1.among.image.parts (at2 b))))))))
    (λ c1 f1 v1 height label s1 q1. q1)
    (λ c1 f1 v1 r s1 q1. absurd q1)
    (el p numbers taken c index f o line (enough_left k taken m n registers)
    (front_of a (put' ++ (b' ++ (back ++ d))) l) (omega (arith, paid, n1)) there))
