-- Products, with their overflow.
use Rattle.std.proofs.Common.{◌≡◌, ℕ, suc, ◌+◌, ◌^◌, ◌<◌, List, [], ◌∷◌, Bool, true, false, refl, sym, ap, ◌∙◌}
use Rattle.std.proofs.Common.{arith}
use Rattle.std.specs.Prelude.{ℤ, max, pos, ◌*ℤ◌, ◌==◌}
use Rattle.rv_meaning.specs.declared.instr.BranchTest.TheVariants as Test
use Rattle.rv_meaning.specs.declared.instr.RegisterOp.TheVariants as Op
use Rattle.rv_meaning.specs.declared.instr.ShiftOp.TheVariants as Shift
use Rattle.rv_meaning.specs.Words.{operated, shifted_right_signed, sum, upper_half, word}
use Rattle.pli_typing.specs.TypedTree as Y
use Rattle.pli_meaning.specs.Evaluating as V
use Rattle.pli_meaning.specs.Numbers.{checked, is_of_precision}
use Rattle.pli_meaning.specs.Operations.{calculated}
use Rattle.pli_meaning.specs.Raising as R
use Rattle.pli_coding.specs.Arithmetic.{overflow_raised, product_code}
use Rattle.pli_coding.specs.Assembly.{size_of}
use Rattle.pli_coding.specs.Expressions.{number_code}
use Rattle.pli_coding.specs.Instructions.{move, registers, shift, skip_where}
use Rattle.pli_coding.specs.Registers.{a0, u1, u2, u3, u4}
use Rattle.activation_relation.specs.Layers.{services_of}
use Rattle.run_steps.specs.Bodies.{Known}
use Rattle.run_steps.specs.Engine.{Base}
use Rattle.run_steps.proofs.Items.{straight}
use Rattle.run_steps.proofs.Jumps.{back_of, front_of}
use Rattle.run_steps.specs.Numbers.{IsWide}
use Rattle.run_steps.proofs.Reach.{onward}
use Rattle.block_runs.proofs.PointGrounds.{point_ground}
use Rattle.pli_headline.proofs.WordProducts.{product-lower, product-upper, product_fits, product_over, product_size}
use Rattle.pli_headline.proofs.WordProducts.{product_test, residue_word}
use Rattle.expression_runs.specs.Laws.{Does}
use Rattle.expression_runs.specs.Values.{OverflowComes, Setting, behind, in_registers}
use Rattle.expression_runs.proofs.Operands.{Operates, both_do}
use Rattle.expression_runs.proofs.Words.{number_closed, number_further}
use Rattle.expression_runs.proofs.Wrapping.{wrapped_word}
use Rattle.operator_runs.proofs.Checked.{Cuts, checked_does}

product_tested :
    (q : Bool) (x y : ℤ) → IsWide x → IsWide y → is_of_precision 31 (x *ℤ y) ≡ q →
    (operated Op.MultiplyHigh (word x) (word y) == shifted_right_signed (operated Op.Multiply (word x) (word y)) 31)
    ≡ q
product_tested q x y h i e =
    ap (λ u. u == shifted_right_signed (operated Op.Multiply (word x) (word y)) 31) (product-upper x y h i)
    ∙ ap (λ u. upper_half (x *ℤ y) == shifted_right_signed u 31) (product-lower x y h i)
    ∙ by_size q e
  where
    by_size : (t : Bool) → is_of_precision 31 (x *ℤ y) ≡ t → product_test (x *ℤ y) ≡ t
    by_size true f = product_fits (x *ℤ y) f
    by_size false f = product_over (x *ℤ y) (product_size x y h i) f

sum_zero : (y : ℕ) → y < 2 ^ 32 → sum y (word (pos 0)) ≡ y
sum_zero y h = omega (arith, h)

lower_small : (x y : ℕ) → operated Op.Multiply x y < 2 ^ 32
lower_small x y = omega arith

sum_small : (x : ℕ) → sum x (word (pos 0)) < 2 ^ 32
sum_small x = omega arith

product_cuts :
    (x y : ℤ) → IsWide x → IsWide y →
    Cuts (x *ℤ y) (sum (operated Op.Multiply (word x) (word y)) (word (pos 0)))
product_cuts x y wx wy =
    let lower = operated Op.Multiply (word x) (word y) in
    let same = sum_zero lower (lower_small (word x) (word y)) in
    record {
      word_is = same ∙ product-lower x y wx wy ∙ sym (wrapped_word (x *ℤ y));
      small' = sum_small lower;
      fits = λ e. same ∙ product-lower x y wx wy ∙ residue_word (x *ℤ y) e;
    }

-- the halves of a product
abbrev halves : (x c d : ℕ) → Base → List (ℕ × ℕ)
halves x c d b = (10, x) ∷ (28, c) ∷ (29, d) ∷ []

product_operates :
    (k : Setting) → OverflowComes k → Operates k product_code (λ x y. R.value_of k.around (checked 31 (x *ℤ y)))
product_operates k over p numbers taken c index f x y h o line registers' wx wy l paid at =
    let t = in_registers k.words taken in
    let v = services_of p in
    let g = point_ground k.block.call.surroundings p h in
    let front = registers Op.Multiply u2 u1 a0 ∷ registers Op.MultiplyHigh u3 u1 a0
    ∷ shift Shift.RightArithmetic u4 u2 31 ∷ move a0 u2 ∷ [] in
    let last = skip_where Test.Equal u3 u4 (overflow_raised t) in
    let lower = operated Op.Multiply (word x) (word y) in
    let upper = operated Op.MultiplyHigh (word x) (word y) in
    let sign = shifted_right_signed lower 31 in
    let r = straight c f v v (λ b. Known g v numbers (λ j. 0) (halves (sum lower (word (pos 0))) upper sign) b)
    (front_of front last l) (omega arith) (λ b. (at b).pc)
    (λ b.
    let o' = (at b).holds in
    let m = (f b).machine.registers in
    let e : operated Op.Multiply (m 6) (m 10) ≡ lower =
    ap (λ u. operated Op.Multiply u (m 10)) o'.regs.0 ∙ ap (operated Op.Multiply (word x)) o'.regs.1.0 in
    record {
      body = record {
        services = o'.body.services;
        registers = o'.body.registers;
        bytes = o'.body.bytes;
        memory = o'.body.memory;
      };
      regs = (
        ap (λ u. sum u (word (pos 0))) e,
        (
          ap (λ u. operated Op.MultiplyHigh u (m 10)) o'.regs.0
              ∙ ap (operated Op.MultiplyHigh (word x)) o'.regs.1.0,
          (ap (λ u. shifted_right_signed u 31) e, tt),
        ),
      );
    }) in
    onward (number_closed k.block k.labels (behind p numbers taken c index (product_code t))) r (λ f' at'.
    number_further
    (record {
      acts = omega arith;
      line = refl;
      index = omega arith;
      wanted = omega arith;
      taken = omega arith;
      stays = λ i less. refl;
    })
    (checked_does k over p numbers taken (c + size_of front) (index + size_of front) f' (x *ℤ y)
    (sum lower (word (pos 0))) Test.Equal u3 u4 h o line registers' (product_cuts x y wx wy) (back_of front last l)
    (omega (arith, paid))
    (λ b. record {
      pc = (at' b).pc;
      holds = record { body = (at' b).holds.body; regs = ((at' b).holds.regs.0, tt) };
    })
    (λ b.
    let o' = (at' b).holds.regs in
    ap (λ u. u == (f' b).machine.registers 29) o'.1.0 ∙ ap (λ u. upper == u) o'.1.1.0
    ∙ product_tested (is_of_precision 31 (x *ℤ y)) x y wx wy refl)))

pub product_does :
    (k : Setting) (left right : Y.Number) (m n : ℕ) → OverflowComes k → Does k m left → Does k n right →
    Does k (max m (suc n)) (Y.Calculated Y.Product left right)
unfolding V.number
product_does k left right m n over el er =
    both_do k m n (λ t. number_code k.block.environment t left) (λ t. number_code k.block.environment t right)
    product_code (V.number k.around left) (V.number k.around right)
    (λ x y. R.value_of k.around (calculated Y.Product x y)) el er (product_operates k over)
