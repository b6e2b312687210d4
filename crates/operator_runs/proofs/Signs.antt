-- Signs and absolute values, with their overflow.
use Rattle.std.proofs.Common.{◌≡◌, ℕ, ◌+◌, ◌^◌, ◌<◌, ◌≤◌, List, [], ◌∷◌, Bool, true, false, refl, sym, ap}
use Rattle.std.proofs.Common.{◌∙◌, subst, arith}
use Rattle.std.proofs.Math.Nat.{le-max_left, le-max_right}
use Rattle.std.proofs.lemmas.Bool.Decides.{nat_tests}
use Rattle.std.proofs.lemmas.Int.{ints}
use Rattle.std.specs.Prelude.{ℤ, cond, if◌then◌else◌, int_lt, max, nat_abs, neg_ℤ, negsuc, pos, ◌==◌}
use Rattle.rv_meaning.specs.declared.instr.BranchTest.TheVariants as Test
use Rattle.rv_meaning.specs.declared.instr.RegisterOp.TheVariants as Op
use Rattle.rv_meaning.specs.declared.instr.ShiftOp.TheVariants as Shift
use Rattle.rv_meaning.specs.Words.{flag, operated, signed, word}
use Rattle.pli_typing.specs.TypedTree as Y
use Rattle.pli_meaning.specs.Control.{give}
use Rattle.pli_meaning.specs.Evaluating as V
use Rattle.pli_language.specs.declared.condition.Condition.TheVariants as C
use Rattle.pli_meaning.specs.Numbers.{Gives, Raises, checked, is_of_precision, sign_applied, wrapped}
use Rattle.pli_meaning.specs.Operations.{absolute, sign_of}
use Rattle.pli_meaning.specs.Raising as R
use Rattle.pli_coding.specs.Arithmetic.{absolute_code, overflow_raised, sign_code, signed_code}
use Rattle.pli_coding.specs.Assembly.{size_of}
use Rattle.pli_coding.specs.Expressions.{number_code}
use Rattle.pli_coding.specs.Instructions.{lowest_number, registers, shift, skip_where, subtract}
use Rattle.pli_coding.specs.Registers.{a0, u1, zero_register}
use Rattle.activation_relation.specs.Layers.{Point, services_of}
use Rattle.run_steps.specs.Bodies.{Known}
use Rattle.run_steps.proofs.Bodies.{zero_is}
use Rattle.run_steps.specs.Engine.{Base}
use Rattle.run_steps.specs.Items.{At, Linked}
use Rattle.run_steps.proofs.Items.{straight}
use Rattle.run_steps.proofs.Jumps.{back_of, front_of}
use Rattle.run_steps.specs.Numbers.{IsWide, least_word}
use Rattle.run_steps.proofs.Numbers.{negated-word, negated_fits, negated_over}
use Rattle.run_steps.specs.Reach.{Comes, Family, cost}
use Rattle.run_steps.proofs.Reach.{onward}
use Rattle.block_runs.proofs.PointGrounds.{point_ground}
use Rattle.pli_headline.proofs.WordSigns.{absolute-word, absolute_bits_of, absolute_most, absolute_tested, sign-word}
use Rattle.pli_headline.proofs.WordSigns.{sign_wide}
use Rattle.program_runs.specs.Statements.{IsAmong}
use Rattle.expression_runs.specs.Laws.{Does}
use Rattle.expression_runs.specs.Values.{HasRegisters, OverflowComes, Setting, behind, in_registers, number_aims}
use Rattle.expression_runs.proofs.Words.{frame_of, number_closed, number_further, valued}
use Rattle.operator_runs.proofs.Checked.{Cuts, checked_does}
use Rattle.operator_runs.proofs.Single.{Follows, one_does, straight_gives}

-- ---- the least word

-- a number in a0 beside the least word in u1
abbrev lowest : (x c : ℕ) → Base → List (ℕ × ℕ)
lowest x c b = (10, x) ∷ (6, c) ∷ []

-- the word of a number that is a number's opposite or absolute value
cut_word : (z : ℤ) (x : ℕ) → x ≡ word z → x < 2 ^ 32 → word z ≡ word (wrapped 31 z) → Cuts z x
cut_word z x e small' same = record { word_is = e ∙ same; small' = small'; fits = λ q. e }

lowest_does :
    (k : Setting) → OverflowComes k → (p : Point) (numbers : ℕ → ℕ) (taken c index : ℕ) (f : Family) (z : ℤ)
    (h : frame_of k.block p) → IsAmong k.block numbers p → p.control.line ≡ k.around.line →
    HasRegisters k taken 1 → Cuts z (word z) →
    (if word z == least_word then false else true) ≡ is_of_precision 31 z →
    Linked k.block.call.surroundings.links k.block.call.code index
    (skip_where Test.NotEqual a0 u1 (overflow_raised (in_registers k.words taken))) →
    c + size_of (skip_where Test.NotEqual a0 u1 (overflow_raised (in_registers k.words taken))) + k.most
    ≤ cost k.block.call.code →
    ((b : Base) → At b index (Known (point_ground k.block.call.surroundings p h) (services_of p) numbers (λ j. 0)
    (lowest (word z) least_word) b) (f b)) →
    Comes k.block.call.code c f (services_of p)
    (number_aims k.block k.labels
    (behind p numbers taken c index (skip_where Test.NotEqual a0 u1 (overflow_raised (in_registers k.words taken)))))
    (R.value_of k.around (checked 31 z) k.block.call.surroundings.acts p.state)
lowest_does k over p numbers taken c index f z h o line registers' cuts test l paid at =
    checked_does k over p numbers taken c index f z (word z) Test.NotEqual a0 u1 h o line registers' cuts l paid
    (λ b. record {
      pc = (at b).pc;
      holds = record { body = (at b).holds.body; regs = ((at b).holds.regs.0, tt) };
    })
    (λ b.
    let o' = (at b).holds.regs in
    ap (λ u. if u == (f b).machine.registers 6 then false else true) o'.0
    ∙ ap (λ u. if word z == u then false else true) o'.1.0 ∙ test)

-- ---- signs

negated_tested :
    (q : Bool) (x : ℤ) → IsWide x → is_of_precision 31 (neg_ℤ x) ≡ q →
    (if word (neg_ℤ x) == least_word then false else true) ≡ q
negated_tested true x h i = ap (λ u. if u then false else true) (negated_fits x h i)
negated_tested false x h i = ap (λ u. if u then false else true) (negated_over x h i)

negated_wraps : (x : ℤ) → IsWide x → word (neg_ℤ x) ≡ word (wrapped 31 (neg_ℤ x))
negated_wraps (pos n) h = grind (arith, ints, nat_tests)
negated_wraps (negsuc n) h = grind (arith, ints, nat_tests)

negated_small : (x : ℤ) → IsWide x → word (neg_ℤ x) < 2 ^ 32
negated_small x h = let e = negated-word x h in omega (arith, e)

negative_follows :
    (k : Setting) → OverflowComes k →
    Follows k 1 (λ t. signed_code t Y.Negative) (λ x. R.value_of k.around (sign_applied Y.Negative x))
negative_follows k over p numbers taken c index f x h o line registers' wx l paid at =
    let t = in_registers k.words taken in
    let v = services_of p in
    let g = point_ground k.block.call.surroundings p h in
    let front = subtract a0 zero_register a0 ∷ lowest_number u1 ∷ [] in
    let last = skip_where Test.NotEqual a0 u1 (overflow_raised t) in
    let z = neg_ℤ x in
    let r = straight c f v v (λ b. Known g v numbers (λ j. 0) (lowest (word z) least_word) b) (front_of front last l)
    (omega arith) (λ b. (at b).pc)
    (λ b.
    let o' = (at b).holds in
    let m = (f b).machine.registers in
    record {
      body = record {
        services = o'.body.services;
        registers = o'.body.registers;
        bytes = o'.body.bytes;
        memory = o'.body.memory;
      };
      regs = (
        ap (λ u. operated Op.Subtract u (m 10)) (zero_is o'.body) ∙ ap (operated Op.Subtract 0) o'.regs.0
            ∙ negated-word x wx,
        (refl, tt),
      );
    }) in
    onward (number_closed k.block k.labels (behind p numbers taken c index (signed_code t Y.Negative))) r (λ f' at'.
    number_further
    (record {
      acts = omega arith;
      line = refl;
      index = omega arith;
      wanted = omega arith;
      taken = omega arith;
      stays = λ i less. refl;
    })
    (lowest_does k over p numbers taken (c + size_of front) (index + size_of front) f' z h o line registers'
    (cut_word z (word z) refl (negated_small x wx) (negated_wraps x wx))
    (negated_tested (is_of_precision 31 z) x wx refl) (back_of front last l) (omega (arith, paid)) at'))

wide_fits : (x : ℤ) → IsWide x → checked 31 x ≡ Gives x
wide_fits x h = ap (λ q. cond q (Gives x) (Raises C.FixedOverflow 20 (wrapped 31 x))) h

-- a sign + changes nothing
positive_follows :
    (k : Setting) → Follows k 0 (λ t. signed_code t Y.Positive) (λ x. R.value_of k.around (sign_applied Y.Positive x))
unfolding R.value_of
positive_follows k p numbers taken c index f x h o line registers' wx l paid at =
    let acts = k.block.call.surroundings.acts in
    let same : c + 0 ≡ c = omega arith in
    let here : index ≡ index + 0 = omega arith in
    subst (λ u. Comes k.block.call.code c f (services_of p)
    (number_aims k.block k.labels (behind p numbers taken c index [])) (R.value_of k.around u acts p.state))
    (sym (wide_fits x wx))
    (subst (λ n. Comes k.block.call.code n f (services_of p)
    (number_aims k.block k.labels (behind p numbers taken c index [])) (give x acts p.state)) same
    (straight_gives k p numbers taken c index f x [] h o wx
    (λ b. subst (λ j. At b j (Known (point_ground k.block.call.surroundings p h) (services_of p) numbers (λ i. 0)
    (valued (word x)) b) (f b)) here (at b))))

pub negative_does :
    (k : Setting) (operand : Y.Number) (m : ℕ) → OverflowComes k → Does k m operand →
    Does k (max m 1) (Y.Signed Y.Negative operand)
unfolding V.number
negative_does k operand m over does =
    one_does k m 1 (max m 1) (λ t. number_code k.block.environment t operand) (λ t. signed_code t Y.Negative)
    (V.number k.around operand) (λ x. R.value_of k.around (sign_applied Y.Negative x)) (le-max_left m 1)
    (le-max_right m 1) does (negative_follows k over)

pub positive_does :
    (k : Setting) (operand : Y.Number) (m : ℕ) → Does k m operand → Does k m (Y.Signed Y.Positive operand)
unfolding V.number
positive_does k operand m does =
    one_does k m 0 m (λ t. number_code k.block.environment t operand) (λ t. signed_code t Y.Positive)
    (V.number k.around operand) (λ x. R.value_of k.around (sign_applied Y.Positive x)) (omega arith) (omega arith) does
    (positive_follows k)

-- ---- absolute values

absolute_wraps : (n : ℕ) → n ≤ 2 ^ 31 → word (pos n) ≡ word (wrapped 31 (pos n))
absolute_wraps n h = grind (arith, ints, nat_tests)

absolute_follows :
    (k : Setting) → OverflowComes k → Follows k 1 absolute_code (λ x. R.value_of k.around (absolute x))
absolute_follows k over p numbers taken c index f x h o line registers' wx l paid at =
    let t = in_registers k.words taken in
    let v = services_of p in
    let g = point_ground k.block.call.surroundings p h in
    let front = shift Shift.RightArithmetic u1 a0 31 ∷ registers Op.Xor a0 a0 u1 ∷ subtract a0 a0 u1
    ∷ lowest_number u1 ∷ [] in
    let last = skip_where Test.NotEqual a0 u1 (overflow_raised t) in
    let z = pos (nat_abs x) in
    let most = absolute_most x wx in
    let r = straight c f v v (λ b. Known g v numbers (λ j. 0) (lowest (word z) least_word) b) (front_of front last l)
    (omega arith) (λ b. (at b).pc)
    (λ b.
    let o' = (at b).holds in
    record {
      body = record {
        services = o'.body.services;
        registers = o'.body.registers;
        bytes = o'.body.bytes;
        memory = o'.body.memory;
      };
      regs = (ap absolute_bits_of o'.regs.0 ∙ absolute-word x wx, (refl, tt));
    }) in
    onward (number_closed k.block k.labels (behind p numbers taken c index (absolute_code t))) r (λ f' at'.
    number_further
    (record {
      acts = omega arith;
      line = refl;
      index = omega arith;
      wanted = omega arith;
      taken = omega arith;
      stays = λ i less. refl;
    })
    (lowest_does k over p numbers taken (c + size_of front) (index + size_of front) f' z h o line registers'
    (cut_word z (word z) refl (omega (arith, most)) (absolute_wraps (nat_abs x) most))
    (absolute_tested (is_of_precision 31 z) (nat_abs x) most refl) (back_of front last l) (omega (arith, paid)) at'))

pub absolute_does :
    (k : Setting) (operand : Y.Number) (m : ℕ) → OverflowComes k → Does k m operand →
    Does k (max m 1) (Y.Absolute operand)
unfolding V.number
absolute_does k operand m over does =
    one_does k m 1 (max m 1) (λ t. number_code k.block.environment t operand) absolute_code
    (V.number k.around operand) (λ x. R.value_of k.around (absolute x)) (le-max_left m 1) (le-max_right m 1) does
    (absolute_follows k over)

-- ---- SIGN

sign_follows : (k : Setting) → Follows k 0 (λ t. sign_code) (λ x. give (sign_of x))
sign_follows k p numbers taken c index f x h o line registers' wx l paid at =
    let v = services_of p in
    let g = point_ground k.block.call.surroundings p h in
    let r = straight c f v v (λ b. Known g v numbers (λ j. 0) (valued (word (sign_of x))) b) l (omega arith)
    (λ b. (at b).pc)
    (λ b.
    let o' = (at b).holds in
    let x10 = (f b).machine.registers 10 in
    record {
      body = record {
        services = o'.body.services;
        registers = o'.body.registers;
        bytes = o'.body.bytes;
        memory = o'.body.memory;
      };
      regs = (
        ap (λ u. operated Op.Subtract (flag (int_lt (signed u) (signed x10)))
            (flag (int_lt (signed x10) (signed (word (pos 0)))))) (zero_is o'.body)
            ∙ ap (λ u. operated Op.Subtract (flag (int_lt (signed 0) (signed u)))
            (flag (int_lt (signed u) (signed (word (pos 0)))))) o'.regs.0
            ∙ sign-word x wx,
        tt,
      );
    }) in
    onward (number_closed k.block k.labels (behind p numbers taken c index sign_code)) r (λ f' at'.
    straight_gives k p numbers taken c index f' (sign_of x) sign_code h o (sign_wide x) at')

pub sign_does : (k : Setting) (operand : Y.Number) (m : ℕ) → Does k m operand → Does k m (Y.SignOf operand)
unfolding V.number
sign_does k operand m does =
    one_does k m 0 m (λ t. number_code k.block.environment t operand) (λ t. sign_code) (V.number k.around operand)
    (λ x. give (sign_of x)) (omega arith) (omega arith) does (sign_follows k)
