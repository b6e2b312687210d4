-- DIVIDE to any precision: a quotient that is cut to fewer bits needs no other check.
use Rattle.std.proofs.Common.{◌≡◌, ℕ, suc, ◌+◌, ◌<◌, ◌≤◌, [], ◌∷◌, ◌++◌, Bool, true, false, refl, sym, ap, ◌∙◌}
use Rattle.std.proofs.Common.{arith, subst}
use Rattle.std.specs.Prelude.{ℤ, cond, int_div, max, nat_lt, pos}
use Rattle.std.proofs.lemmas.Bool.Decides.{nat_tests}
use Rattle.rv_meaning.specs.declared.instr.BranchTest.TheVariants as Test
use Rattle.rv_meaning.specs.declared.instr.RegisterOp.TheVariants as Op
use Rattle.rv_meaning.specs.Words.{operated, word}
use Rattle.pli_typing.specs.TypedTree as Y
use Rattle.pli_meaning.specs.Contents.{same_int}
use Rattle.pli_meaning.specs.Evaluating as V
use Rattle.pli_meaning.specs.Numbers.{checked}
use Rattle.pli_meaning.specs.Operations.{divided}
use Rattle.pli_meaning.specs.Raising as R
use Rattle.pli_coding.specs.Arithmetic.{divided_code, narrowed_code, quotient_checked, unless_zero, zero_divide_raised}
use Rattle.pli_coding.specs.Assembly.{Code, JumpAhead, size_of}
use Rattle.pli_coding.specs.Environments.{Taken}
use Rattle.pli_coding.specs.Expressions.{number_code}
use Rattle.pli_coding.specs.Instructions.{registers, skip_where}
use Rattle.pli_coding.specs.Registers.{a0, u1, u2, zero_register}
use Rattle.activation_relation.specs.Layers.{Point, services_of}
use Rattle.run_steps.specs.Bodies.{Known}
use Rattle.run_steps.specs.Engine.{Base}
use Rattle.run_steps.specs.Items.{At, Linked}
use Rattle.run_steps.proofs.Items.{straight}
use Rattle.run_steps.proofs.Jumps.{back_of, front_of}
use Rattle.run_steps.specs.Numbers.{IsWide}
use Rattle.run_steps.specs.Reach.{Comes, Family, cost}
use Rattle.run_steps.proofs.Reach.{onward}
use Rattle.block_runs.proofs.CallStatements.{comes_map}
use Rattle.block_runs.proofs.PointGrounds.{point_ground}
use Rattle.program_runs.specs.Statements.{IsAmong}
use Rattle.pli_headline.proofs.Scalars.{fewer_bits}
use Rattle.pli_headline.proofs.WordPrecisions.{quotient_is_word}
use Rattle.pli_headline.proofs.WordQuotients.{quotient-word}
use Rattle.expression_runs.specs.Laws.{Does}
use Rattle.expression_runs.specs.Values.{HasRegisters, OverflowComes, Setting, behind, in_registers, number_aims}
use Rattle.expression_runs.proofs.Operands.{Operates, both_do}
use Rattle.expression_runs.proofs.Words.{frame_of, number_closed, number_further, paired, valued}
use Rattle.operator_runs.specs.Divisors.{ZeroDivideComes}
use Rattle.operator_runs.proofs.Quotients.{divided_does, divisor_does}
use Rattle.scalar_runs.specs.Fitted.{fitted_aims}
use Rattle.scalar_runs.proofs.Fitting.{narrowed_does}

abbrev fewer_code : Taken → (precision : ℕ) → Code
fewer_code t precision = registers Op.Divide a0 u1 a0 ∷ narrowed_code t precision

-- by another divisor than 0
fewer_does :
    (k : Setting) → OverflowComes k → (p : Point) (numbers : ℕ → ℕ) (taken c index : ℕ) (f : Family) (precision : ℕ)
    (x y : ℤ) (h : frame_of k.block p) → IsAmong k.block numbers p → p.control.line ≡ k.around.line →
    HasRegisters k taken 1 → precision < 31 → IsWide x → IsWide y → same_int y (pos 0) ≡ false →
    Linked k.block.call.surroundings.links k.block.call.code index
    (fewer_code (in_registers k.words taken) precision) →
    c + size_of (fewer_code (in_registers k.words taken) precision) + k.most ≤ cost k.block.call.code →
    ((b : Base) → At b index (Known (point_ground k.block.call.surroundings p h) (services_of p) numbers (λ j. 0)
    (paired (word x) (word y)) b) (f b)) →
    Comes k.block.call.code c f (services_of p)
    (number_aims k.block k.labels
    (behind p numbers taken c index (fewer_code (in_registers k.words taken) precision)))
    (R.value_of k.around (checked precision (int_div x y)) k.block.call.surroundings.acts p.state)
fewer_does k over p numbers taken c index f precision x y h o line registers' less wx wy other l paid at =
    let t = in_registers k.words taken in
    let v = services_of p in
    let g = point_ground k.block.call.surroundings p h in
    let front = registers Op.Divide a0 u1 a0 ∷ [] in
    let last = narrowed_code t precision in
    let z = int_div x y in
    let here = behind p numbers taken (c + size_of front) (index + size_of front) last in
    let flow = R.value_of k.around (checked precision z) k.block.call.surroundings.acts p.state in
    let r = straight c f v v (λ b. Known g v numbers (λ j. 0) (valued (word z)) b) (front_of front last l)
    (omega arith) (λ b. (at b).pc)
    (λ b.
    let o' = (at b).holds in
    let m = (f b).machine.registers in
    record {
      body = record {
        services = o'.body.services;
        registers = o'.body.registers;
        bytes = o'.body.bytes;
        memory = o'.body.memory;
      };
      regs = (
        ap (λ u. operated Op.Divide u (m 10)) o'.regs.0 ∙ ap (operated Op.Divide (word x)) o'.regs.1.0
            ∙ quotient-word x y wx wy other,
        tt,
      );
    }) in
    onward (number_closed k.block k.labels (behind p numbers taken c index (fewer_code t precision))) r (λ f' at'.
    number_further
    (record {
      acts = omega arith;
      line = refl;
      index = omega arith;
      wanted = omega arith;
      taken = omega arith;
      stays = λ i less'. refl;
    })
    (comes_map (fitted_aims k.block k.labels precision here) (number_aims k.block k.labels here) refl flow
    (λ c' f'' v' z' s q. (fewer_bits precision 31 z' (omega (arith, less)) q.0, q.1))
    (λ c' f'' v' height label s q. q)
    (λ c' f'' v' u s q. absurd q)
    (narrowed_does k over p numbers taken (c + size_of front) (index + size_of front) f' precision z h o line
    registers' less (quotient_is_word x y wx) (back_of front last l) (omega (arith, paid)) at')))

fewer_operates :
    (k : Setting) (precision : ℕ) → precision < 31 → OverflowComes k → ZeroDivideComes k →
    Operates k (λ t. unless_zero (fewer_code t precision)) (λ x y. R.value_of k.around (divided precision x y))
fewer_operates k precision less over zero_over p numbers taken c index f x y h o line registers' wx wy l paid at =
    let t = in_registers k.words taken in
    let part = fewer_code t precision in
    let test = skip_where Test.NotEqual a0 zero_register (zero_divide_raised ++ JumpAhead (size_of part) ∷ []) in
    divisor_does k zero_over p numbers taken c index f x y part (checked precision (int_div x y)) h o line registers'
    wy l paid at
    (λ g other at'.
    fewer_does k over p numbers taken (c + 8) (index + 8) g precision x y h o line registers' less wx wy other
    (back_of test part l) (omega (arith, paid)) at')

precise_operates :
    (k : Setting) (precision : ℕ) → precision < 31 → OverflowComes k → ZeroDivideComes k →
    Operates k (λ t. divided_code t precision) (λ x y. R.value_of k.around (divided precision x y))
precise_operates k precision less over zero_over =
    subst
    (λ q. Operates k (λ t. unless_zero (cond q (registers Op.Divide a0 u1 a0 ∷ narrowed_code t precision)
    (registers Op.Divide u2 u1 a0 ∷ quotient_checked t))) (λ x y. R.value_of k.around (divided precision x y)))
    (sym (below precision less)) (fewer_operates k precision less over zero_over)
  where
    below : (n : ℕ) → n < 31 → nat_lt n 31 ≡ true
    below n h = grind (arith, nat_tests)

fewer_divided :
    (k : Setting) (left right : Y.Number) (precision m n : ℕ) → precision < 31 → OverflowComes k →
    ZeroDivideComes k → Does k m left → Does k n right → Does k (max m (suc n)) (Y.Divided precision left right)
unfolding V.number
fewer_divided k left right precision m n less over zero_over el er =
    both_do k m n (λ t. number_code k.block.environment t left) (λ t. number_code k.block.environment t right)
    (λ t. divided_code t precision) (V.number k.around left) (V.number k.around right)
    (λ x y. R.value_of k.around (divided precision x y)) el er (precise_operates k precision less over zero_over)

pub precise_does :
    (k : Setting) (left right : Y.Number) (precision m n : ℕ) → precision ≤ 31 → OverflowComes k →
    ZeroDivideComes k → Does k m left → Does k n right → Does k (max m (suc n)) (Y.Divided precision left right)
precise_does k left right precision m n most over zero_over el er = by (nat_lt precision 31) refl
  where
    by :
        (q : Bool) → nat_lt precision 31 ≡ q → Does k (max m (suc n)) (Y.Divided precision left right)
    by true e =
        let less : precision < 31 = grind (arith, nat_tests) in
        fewer_divided k left right precision m n less over zero_over el er
    by false e =
        let all : 31 ≡ precision = grind (arith, nat_tests) in
        subst (λ i. Does k (max m (suc n)) (Y.Divided i left right)) all
        (divided_does k left right m n over zero_over el er)
