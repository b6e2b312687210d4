-- Sums and differences: the value where it fits, or FIXEDOVERFLOW, behind which it is cut to 31 bits and a sign.
use Rattle.std.proofs.Common.{◌≡◌, ℕ, ◌+◌, ◌^◌, ◌<◌, ◌≤◌, List, [], ◌∷◌, ◌++◌, Bool, true, false, refl, sym, ap, ◌∙◌}
use Rattle.std.proofs.Common.{subst, arith}
use Rattle.std.specs.Prelude.{ℤ, cond, int_lt, max, pos, suc, ◌+ℤ◌, ◌-ℤ◌, ◌==◌}
use Rattle.rv_meaning.specs.declared.instr.BranchTest.TheVariants as Test
use Rattle.rv_meaning.specs.declared.instr.ImmediateOp.TheVariants as Imm
use Rattle.rv_meaning.specs.declared.instr.RegisterOp.TheVariants as Op
use Rattle.rv_meaning.specs.Words.{flag, operated, signed, sum, word}
use Rattle.pli_language.specs.declared.condition.Condition.TheVariants as C
use Rattle.pli_typing.specs.TypedTree as Y
use Rattle.pli_meaning.specs.Control.{Meaning, Normal, give, ◌>>◌, ◌>>=◌}
use Rattle.pli_meaning.specs.Evaluating as V
use Rattle.pli_meaning.specs.Numbers.{Gives, Raises, checked, is_of_precision, wrapped}
use Rattle.pli_meaning.specs.Operations.{calculated}
use Rattle.pli_meaning.specs.Raising as R
use Rattle.pli_coding.specs.Arithmetic.{calculated_code, difference_code, overflow_raised, sum_code}
use Rattle.pli_coding.specs.Assembly.{Code, size_of}
use Rattle.pli_coding.specs.Environments.{Taken}
use Rattle.pli_coding.specs.Expressions.{number_code}
use Rattle.pli_coding.specs.Instructions.{add, immediate, move, registers, skip_where, subtract}
use Rattle.pli_coding.specs.Registers.{a0, u1, u2, u3, u4}
use Rattle.activation_relation.specs.Layers.{Point, services_of}
use Rattle.run_steps.specs.Bodies.{Known}
use Rattle.run_steps.specs.Engine.{Base}
use Rattle.run_steps.specs.Items.{At, Linked}
use Rattle.run_steps.proofs.Items.{straight}
use Rattle.run_steps.proofs.Jumps.{back_of, front_of, rest_of, skip_passed, skip_taken}
use Rattle.run_steps.specs.Numbers.{IsWide}
use Rattle.run_steps.proofs.Numbers.{difference-word, difference_fits, difference_over, sum-word, sum_fits, sum_over}
use Rattle.run_steps.specs.Reach.{Comes, Family, before, cost}
use Rattle.run_steps.proofs.Reach.{comes_on, onward, stay}
use Rattle.block_runs.specs.Machines.{IsIn}
use Rattle.block_runs.proofs.CallStatements.{comes_map}
use Rattle.block_runs.proofs.PointGrounds.{in_known, point_ground}
use Rattle.program_runs.specs.Statements.{IsAmong}
use Rattle.expression_runs.specs.Values.{Evaluates, HasRegisters, HasWord, OverflowComes, Setting, Stretch, behind}
use Rattle.expression_runs.specs.Values.{in_registers, number_aims, word_aims}
use Rattle.expression_runs.proofs.Operands.{Operates, both_do}
use Rattle.expression_runs.proofs.Words.{IsFurther, frame_of, known_word, number_closed, number_further, paired}
use Rattle.expression_runs.proofs.Words.{valued, word_further, word_here}
use Rattle.expression_runs.proofs.Wrapping.{difference_residue, sum_residue, wrapped_wide, wrapped_word}

-- registers that are compared to find an overflow
abbrev compared : (x c d : ℕ) → Base → List (ℕ × ℕ)
compared x c d b = (10, x) ∷ (28, c) ∷ (29, d) ∷ []

-- ---- the value where it fits, else the raise

-- what is known where the test comes: the word is that of the value, cut where it doesn't fit
pub record Checks (z : ℤ) (x c d : ℕ) : Type 0 where
  pub word_is : x ≡ word (wrapped 31 z)
  pub small' : x < 2 ^ 32
  pub fits : is_of_precision 31 z ≡ true → x ≡ word z
  pub test : (c == d) ≡ is_of_precision 31 z

checked_does :
    (k : Setting) → OverflowComes k → (p : Point) (numbers : ℕ → ℕ) (taken credits index : ℕ) (f : Family) (z : ℤ)
    (x c d : ℕ) (h : frame_of k.block p) → IsAmong k.block numbers p → p.control.line ≡ k.around.line →
    HasRegisters k taken 1 → Checks z x c d →
    Linked k.block.call.surroundings.links k.block.call.code index
    (skip_where Test.Equal u3 u4 (overflow_raised (in_registers k.words taken))) →
    credits + size_of (skip_where Test.Equal u3 u4 (overflow_raised (in_registers k.words taken))) + k.most
    ≤ cost k.block.call.code →
    ((b : Base) → At b index (Known (point_ground k.block.call.surroundings p h) (services_of p) numbers (λ j. 0)
    (compared x c d) b) (f b)) →
    Comes k.block.call.code credits f (services_of p)
    (number_aims k.block k.labels
    (behind p numbers taken credits index (skip_where Test.Equal u3 u4 (overflow_raised (in_registers k.words taken)))))
    (R.value_of k.around (checked 31 z) k.block.call.surroundings.acts p.state)
unfolding R.value_of give ◌>>◌
checked_does k over p numbers taken credits index f z x c d h o line registers is l paid at =
    by (is_of_precision 31 z) refl
  where
    t : Taken
    t = in_registers k.words taken

    raise' : Code
    raise' = overflow_raised t

    part : Code
    part = skip_where Test.Equal u3 u4 raise'

    whole : Stretch
    whole = behind p numbers taken credits index part

    acts : ℕ
    acts = k.block.call.surroundings.acts

    tests : (q : Bool) → is_of_precision 31 z ≡ q → (b : Base) →
        ((f b).machine.registers 28 == (f b).machine.registers 29) ≡ q
    tests q e b =
        let o' = (at b).holds.regs in
        ap (λ u. u == (f b).machine.registers 29) o'.1.0 ∙ ap (λ u. c == u) o'.1.1.0 ∙ is.test ∙ e

    by :
        (q : Bool) → is_of_precision 31 z ≡ q →
        Comes k.block.call.code credits f (services_of p) (number_aims k.block k.labels whole)
        (R.value_of k.around
        (cond (is_of_precision 31 z) (Gives z) (Raises C.FixedOverflow 20 (wrapped 31 z))) acts p.state)
    by true e =
        let r = skip_taken credits f Test.Equal u3 u4 raise' l at (tests true e) in
        subst (λ q. Comes k.block.call.code credits f (services_of p) (number_aims k.block k.labels whole)
        (R.value_of k.around (cond q (Gives z) (Raises C.FixedOverflow 20 (wrapped 31 z))) acts p.state)) (sym e)
        (onward (number_closed k.block k.labels whole) r
        (λ g at'. record {
          to = λ early. (
            e,
            word_here {x = whole} h o (omega arith) refl
                (stay k.block.call.code whole.wanted g (services_of p)
                (λ b y. At b whole.index (Known (point_ground k.block.call.surroundings p h) (services_of p) numbers
                (λ j. 0) (valued (word z)) b) y)
                (λ b. record {
                  pc = (at' b).pc;
                  holds = record {
                    body = (at' b).holds.body;
                    regs = ((at' b).holds.regs.0 ∙ is.fits e, tt);
                  };
                })),
          );
        }))
    by false e =
        let r = skip_passed credits f Test.Equal u3 u4 raise' l at (tests false e) in
        let next' : Unit {0} → Meaning ℤ = λ u. give (wrapped 31 z) in
        let flow = R.raised k.around C.FixedOverflow 20 acts p.state in
        let goal = number_aims k.block k.labels whole in
        subst (λ q. Comes k.block.call.code credits f (services_of p) goal
        (R.value_of k.around (cond q (Gives z) (Raises C.FixedOverflow 20 (wrapped 31 z))) acts p.state)) (sym e)
        (onward (number_closed k.block k.labels whole) r
        (λ g at'.
        comes_on acts flow next'
        (comes_map (word_aims k.block k.labels (behind p numbers taken (credits + 1) (index + 1) raise') x)
        (before k.block.call.code goal acts next') refl flow
        (λ c' f' v' u s q. record {
          to = λ early. (
            wrapped_wide z,
            subst (λ n. HasWord k.block whole n c' f' v' s) is.word_is
                (word_further
                (record {
                  acts = omega arith;
                  line = refl;
                  index = omega arith;
                  wanted = omega arith;
                  taken = omega arith;
                  stays = λ i less. refl;
                }) q),
          );
        })
        (λ c' f' v' height label s q. q)
        (λ c' f' v' u s q. absurd q)
        (over p numbers taken (credits + 1) (index + 1) x g o line registers is.small' (rest_of _ raise' l)
        (omega (arith, paid))
        (λ b. (
          in_known h o.image.parts (at' b),
          (at' b).holds.regs.0,
        ))))))

-- ---- sums

sum_zero : (y x : ℕ) → y ≡ x → x < 2 ^ 32 → sum y (word (pos 0)) ≡ x
sum_zero y x e h = omega (arith, e, h)

sum_small : (x : ℕ) → sum x (word (pos 0)) < 2 ^ 32
sum_small x = omega arith

sum_tested :
    (q : Bool) (x y : ℤ) → IsWide x → IsWide y → is_of_precision 31 (x +ℤ y) ≡ q →
    (flag (int_lt (signed (sum (word x) (word y))) (signed (word x)))
    == flag (int_lt (signed (word y)) (signed (word (pos 0))))) ≡ q
sum_tested true x y h i j = sum_fits x y h i j
sum_tested false x y h i j = sum_over x y h i j

total_small : (x y : ℕ) → sum x y < 2 ^ 32
total_small x y = omega arith

sum_checks : (x y : ℤ) → IsWide x → IsWide y →
    Checks (x +ℤ y) (sum (sum (word x) (word y)) (word (pos 0)))
    (flag (int_lt (signed (sum (word x) (word y))) (signed (word x))))
    (flag (int_lt (signed (word y)) (signed (word (pos 0)))))
sum_checks x y wx wy =
    let total = sum (word x) (word y) in
    let same = sum_zero total total refl (total_small (word x) (word y)) in
    record {
      word_is = same ∙ sum_residue x y wx wy ∙ sym (wrapped_word (x +ℤ y));
      small' = sum_small total;
      fits = λ e. same ∙ sum-word x y wx wy e;
      test = sum_tested (is_of_precision 31 (x +ℤ y)) x y wx wy refl;
    }

sum_operates : (k : Setting) → OverflowComes k → Operates k (λ t. sum_code t) (λ x y. R.value_of k.around
    (checked 31 (x +ℤ y)))
sum_operates k over p numbers taken c index f x y h o line registers' wx wy l paid at =
    let t = in_registers k.words taken in
    let v = services_of p in
    let g = point_ground k.block.call.surroundings p h in
    let front = add u2 u1 a0 ∷ registers Op.SetLess u3 u2 u1 ∷ immediate Imm.SetLess u4 a0 (pos 0) ∷ move a0 u2 ∷ [] in
    let last = skip_where Test.Equal u3 u4 (overflow_raised t) in
    let total = sum (word x) (word y) in
    let c' = flag (int_lt (signed total) (signed (word x))) in
    let d = flag (int_lt (signed (word y)) (signed (word (pos 0)))) in
    let r = straight c f v v (λ b. Known g v numbers (λ j. 0) (compared (sum total (word (pos 0))) c' d) b)
    (front_of front last l) (omega arith) (λ b. (at b).pc)
    (λ b.
    let o' = (at b).holds in
    let m = (f b).machine.registers in
    let e : sum (m 6) (m 10) ≡ total = ap (λ u. sum u (m 10)) o'.regs.0 ∙ ap (sum (word x)) o'.regs.1.0 in
    record {
      body = record {
        services = o'.body.services;
        registers = o'.body.registers;
        bytes = o'.body.bytes;
        memory = o'.body.memory;
      };
      regs = (
        ap (λ u. sum u (word (pos 0))) e,
        (
          ap (λ u. flag (int_lt (signed u) (signed (m 6)))) e
              ∙ ap (λ u. flag (int_lt (signed total) (signed u))) o'.regs.0,
          (ap (λ u. flag (int_lt (signed u) (signed (word (pos 0))))) o'.regs.1.0, tt),
        ),
      );
    }) in
    onward (number_closed k.block k.labels (behind p numbers taken c index (sum_code t))) r (λ f' at'.
    number_further
    (record {
      acts = omega arith;
      line = refl;
      index = omega arith;
      wanted = omega arith;
      taken = omega arith;
      stays = λ i less. refl;
    })
    (checked_does k over p numbers taken (c + size_of front) (index + size_of front) f' (x +ℤ y)
    (sum total (word (pos 0))) c' d h o line registers' (sum_checks x y wx wy) (back_of front last l)
    (omega (arith, paid)) at'))

-- ---- differences

difference_tested :
    (q : Bool) (x y : ℤ) → IsWide x → IsWide y → is_of_precision 31 (x -ℤ y) ≡ q →
    (flag (int_lt (signed (word x)) (signed (operated Op.Subtract (word x) (word y))))
    == flag (int_lt (signed (word y)) (signed (word (pos 0))))) ≡ q
difference_tested true x y h i j = difference_fits x y h i j
difference_tested false x y h i j = difference_over x y h i j

rest_small : (x y : ℕ) → operated Op.Subtract x y < 2 ^ 32
rest_small x y = omega arith

difference_checks : (x y : ℤ) → IsWide x → IsWide y →
    Checks (x -ℤ y) (sum (operated Op.Subtract (word x) (word y)) (word (pos 0)))
    (flag (int_lt (signed (word x)) (signed (operated Op.Subtract (word x) (word y)))))
    (flag (int_lt (signed (word y)) (signed (word (pos 0)))))
difference_checks x y wx wy =
    let rest = operated Op.Subtract (word x) (word y) in
    let same = sum_zero rest rest refl (rest_small (word x) (word y)) in
    record {
      word_is = same ∙ difference_residue x y wx wy ∙ sym (wrapped_word (x -ℤ y));
      small' = sum_small rest;
      fits = λ e. same ∙ difference-word x y wx wy e;
      test = difference_tested (is_of_precision 31 (x -ℤ y)) x y wx wy refl;
    }

difference_operates : (k : Setting) → OverflowComes k → Operates k (λ t. difference_code t) (λ x y. R.value_of k.around
    (checked 31 (x -ℤ y)))
difference_operates k over p numbers taken c index f x y h o line registers' wx wy l paid at =
    let t = in_registers k.words taken in
    let v = services_of p in
    let g = point_ground k.block.call.surroundings p h in
    let front = subtract u2 u1 a0 ∷ registers Op.SetLess u3 u1 u2 ∷ immediate Imm.SetLess u4 a0 (pos 0) ∷ move a0 u2
    ∷ [] in
    let last = skip_where Test.Equal u3 u4 (overflow_raised t) in
    let rest = operated Op.Subtract (word x) (word y) in
    let c' = flag (int_lt (signed (word x)) (signed rest)) in
    let d = flag (int_lt (signed (word y)) (signed (word (pos 0)))) in
    let r = straight c f v v (λ b. Known g v numbers (λ j. 0) (compared (sum rest (word (pos 0))) c' d) b)
    (front_of front last l) (omega arith) (λ b. (at b).pc)
    (λ b.
    let o' = (at b).holds in
    let m = (f b).machine.registers in
    let e : operated Op.Subtract (m 6) (m 10) ≡ rest =
    ap (λ u. operated Op.Subtract u (m 10)) o'.regs.0 ∙ ap (operated Op.Subtract (word x)) o'.regs.1.0 in
    record {
      body = record {
        services = o'.body.services;
        registers = o'.body.registers;
        bytes = o'.body.bytes;
        memory = o'.body.memory;
      };
      regs = (
        ap (λ u. sum u (word (pos 0))) e,
        (
          ap (λ u. flag (int_lt (signed (m 6)) (signed u))) e
              ∙ ap (λ u. flag (int_lt (signed u) (signed rest))) o'.regs.0,
          (ap (λ u. flag (int_lt (signed u) (signed (word (pos 0))))) o'.regs.1.0, tt),
        ),
      );
    }) in
    onward (number_closed k.block k.labels (behind p numbers taken c index (difference_code t))) r (λ f' at'.
    number_further
    (record {
      acts = omega arith;
      line = refl;
      index = omega arith;
      wanted = omega arith;
      taken = omega arith;
      stays = λ i less. refl;
    })
    (checked_does k over p numbers taken (c + size_of front) (index + size_of front) f' (x -ℤ y)
    (sum rest (word (pos 0))) c' d h o line registers' (difference_checks x y wx wy) (back_of front last l)
    (omega (arith, paid)) at'))

-- ---- the expressions

pub sum_does :
    (k : Setting) (left right : Y.Number) (m n : ℕ) → OverflowComes k →
    Evaluates k m (λ t. number_code k.block.environment t left) (V.number k.around left) →
    Evaluates k n (λ t. number_code k.block.environment t right) (V.number k.around right) →
    Evaluates k (max m (suc n)) (λ t. number_code k.block.environment t (Y.Calculated Y.Sum left right))
    (V.number k.around (Y.Calculated Y.Sum left right))
unfolding V.number
sum_does k left right m n over el er =
    both_do k m n (λ t. number_code k.block.environment t left) (λ t. number_code k.block.environment t right)
    (λ t. sum_code t) (V.number k.around left) (V.number k.around right)
    (λ x y. R.value_of k.around (calculated Y.Sum x y)) el er (sum_operates k over)

pub difference_does :
    (k : Setting) (left right : Y.Number) (m n : ℕ) → OverflowComes k →
    Evaluates k m (λ t. number_code k.block.environment t left) (V.number k.around left) →
    Evaluates k n (λ t. number_code k.block.environment t right) (V.number k.around right) →
    Evaluates k (max m (suc n)) (λ t. number_code k.block.environment t (Y.Calculated Y.Difference left right))
    (V.number k.around (Y.Calculated Y.Difference left right))
unfolding V.number
difference_does k left right m n over el er =
    both_do k m n (λ t. number_code k.block.environment t left) (λ t. number_code k.block.environment t right)
    (λ t. difference_code t) (V.number k.around left) (V.number k.around right)
    (λ x y. R.value_of k.around (calculated Y.Difference x y)) el er (difference_operates k over)
