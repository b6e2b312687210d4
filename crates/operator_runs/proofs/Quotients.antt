-- Divisors, of which 0 raises ZERODIVIDE, and quotients, of which one overflows.
use Rattle.std.proofs.Common.{◌≡◌, ℕ, suc, ◌+◌, ◌^◌, ◌<◌, ◌≤◌, List, [], ◌∷◌, ◌++◌, length, Bool, true, false, refl}
use Rattle.std.proofs.Common.{sym, ap}
use Rattle.std.proofs.Common.{◌∙◌, subst, arith}
use Rattle.std.proofs.lemmas.Bool.Decides.{nat_tests}
use Rattle.std.proofs.lemmas.Int.{ints}
use Rattle.std.specs.Prelude.{ℤ, if◌then◌else◌, int_div, max, negsuc, pos, ◌==◌}
use Rattle.rv_meaning.specs.declared.instr.BranchTest.TheVariants as Test
use Rattle.rv_meaning.specs.declared.instr.ImmediateOp.TheVariants as Imm
use Rattle.rv_meaning.specs.declared.instr.RegisterOp.TheVariants as Op
use Rattle.rv_meaning.specs.Words.{operated, sum, word}
use Rattle.pli_language.specs.declared.condition.Condition.TheVariants as C
use Rattle.pli_typing.specs.TypedTree as Y
use Rattle.pli_meaning.specs.Contents.{same_int}
use Rattle.pli_meaning.specs.Control.{Meaning, give, ◌>>◌}
use Rattle.pli_meaning.specs.Evaluating as V
use Rattle.pli_meaning.specs.Numbers.{Checked, checked, is_of_precision, wrapped}
use Rattle.pli_meaning.specs.Operations.{calculated, divided, zero_divisor}
use Rattle.pli_meaning.specs.Raising as R
use Rattle.pli_meaning.specs.StorageState.{State}
use Rattle.pli_serving.specs.ServiceState.{Services}
use Rattle.pli_coding.specs.Arithmetic.{divided_code, overflow_raised, quotient_checked, quotient_code, unless_zero}
use Rattle.pli_coding.specs.Arithmetic.{zero_divide_raised}
use Rattle.pli_coding.specs.Assembly.{Code, JumpAhead, size_of}
use Rattle.pli_coding.specs.Environments.{Taken}
use Rattle.pli_coding.specs.Expressions.{number_code}
use Rattle.pli_coding.specs.Instructions.{immediate, lowest_number, move, registers, skip_where}
use Rattle.pli_coding.specs.Registers.{a0, u1, u2, u3, u4, zero_register}
use Rattle.activation_relation.specs.Layers.{Point, services_of}
use Rattle.run_steps.specs.Bodies.{Known}
use Rattle.run_steps.proofs.Bodies.{zero_is}
use Rattle.run_steps.specs.Engine.{Base}
use Rattle.run_steps.specs.Items.{At, Linked}
use Rattle.run_steps.proofs.Items.{straight}
use Rattle.run_steps.proofs.Jumps.{ahead_piece, back_of, front_of, rest_of, skip_passed, skip_taken}
use Rattle.run_steps.specs.Numbers.{IsWide}
use Rattle.run_steps.specs.Reach.{Comes, Family, before, cost, reached}
use Rattle.run_steps.proofs.Reach.{comes_on, onward, reached_holds}
use Rattle.block_runs.proofs.CallStatements.{comes_map}
use Rattle.block_runs.proofs.PointGrounds.{in_known, point_frame, point_ground}
use Rattle.pli_headline.proofs.WordPrecisions.{IsWord, quotient_is_word}
use Rattle.pli_headline.proofs.WordQuotients.{is_set, other_word, quotient-word, quotient_bits, quotient_small}
use Rattle.pli_headline.proofs.WordQuotients.{quotient_tested, zero_word}
use Rattle.program_runs.specs.Statements.{IsAmong}
use Rattle.expression_runs.specs.Laws.{Does}
use Rattle.expression_runs.specs.Values.{HasRegisters, HasWord, OverflowComes, Setting, Stretch, behind, in_registers}
use Rattle.expression_runs.specs.Values.{number_aims, word_aims}
use Rattle.expression_runs.proofs.Operands.{Operates, both_do}
use Rattle.expression_runs.proofs.Words.{frame_of, known_word, number_closed, number_further, paired, word_further}
use Rattle.expression_runs.proofs.Words.{word_here, word_later}
use Rattle.operator_runs.specs.Divisors.{ZeroDivideComes}
use Rattle.operator_runs.proofs.Checked.{checked_does}

-- ---- divisors

-- where another divisor than 0 goes on
abbrev pub IsOther : (k : Setting) → (p : Point) → (numbers : ℕ → ℕ) → (taken c index : ℕ) → (x y : ℤ) →
    (first : Code) → Checked → frame_of k.block p → Type 0
IsOther k p numbers taken c index x y first rest h =
    (f : Family) → same_int y (pos 0) ≡ false →
    ((b : Base) → At b index (Known (point_ground k.block.call.surroundings p h) (services_of p) numbers (λ j. 0)
    (paired (word x) (word y)) b) (f b)) →
    Comes k.block.call.code c f (services_of p) (number_aims k.block k.labels (behind p numbers taken c index first))
    (R.value_of k.around rest k.block.call.surroundings.acts p.state)

-- behind a raise: the code of another divisor is passed
passed_over :
    (k : Setting) (p : Point) (numbers : ℕ → ℕ) (taken c index : ℕ) (first : Code) {credits : ℕ} {f : Family}
    {v : Services} {s : State} →
    Linked k.block.call.surroundings.links k.block.call.code (index + 6) (JumpAhead (size_of first) ∷ []) →
    index + 6 + (2 + size_of first) ≤ length k.block.call.code →
    HasWord k.block (behind p numbers taken (c + 1) (index + 1) zero_divide_raised) 0 credits f v s →
    HasWord k.block (behind p numbers taken c index (unless_zero first)) 0 credits f v s
passed_over k p numbers taken c index first {credits} {f} {v} {s} l inside q =
    let p1 = q.point in
    let since = q.since in
    let h1 = point_frame q.among.stands q.among.image in
    let n = size_of first in
    let six : index + 1 + 5 ≡ index + 6 = omega arith in
    let r = ahead_piece (c + 1 + 5) (reached q.reach) n inside
    (record { reserved_stay = λ y u. refl; known_stay = λ b y u t. t; set = λ y u. refl }) l
    (λ b. subst (λ j. At b j (Known (point_ground k.block.call.surroundings p1 h1) (services_of p1) q.numbers (λ i. 0)
    (λ b0. (10, 0) ∷ []) b) (reached q.reach b)) six (known_word k.block h1 (reached_holds q.reach b))) in
    let here : Stretch = record {
      acts = p1.state.world.acts;
      line = p1.control.line;
      index = index + 6 + (2 + n);
      wanted = c + 1 + 5 + (2 + n);
      taken = taken;
      numbers = q.numbers;
    } in
    subst (λ u. HasWord k.block (behind p numbers taken c index (unless_zero first)) 0 credits f v u) (sym q.state)
    (word_later q.reach
    (word_further {x = here}
    (record {
      acts = since;
      line = q.line;
      index = omega arith;
      wanted = omega arith;
      taken = omega arith;
      stays = λ i less. q.stays i less;
    })
    (word_here {x = here} h1 q.among (omega arith) refl r)))

pub divisor_does :
    (k : Setting) → ZeroDivideComes k → (p : Point) (numbers : ℕ → ℕ) (taken c index : ℕ) (f : Family) (x y : ℤ)
    (first : Code) (rest : Checked) (h : frame_of k.block p) → IsAmong k.block numbers p →
    p.control.line ≡ k.around.line → HasRegisters k taken 1 → IsWide y →
    Linked k.block.call.surroundings.links k.block.call.code index (unless_zero first) →
    c + size_of (unless_zero first) + k.most ≤ cost k.block.call.code →
    ((b : Base) → At b index (Known (point_ground k.block.call.surroundings p h) (services_of p) numbers (λ j. 0)
    (paired (word x) (word y)) b) (f b)) →
    IsOther k p numbers taken (c + 8) (index + 8) x y first rest h →
    Comes k.block.call.code c f (services_of p)
    (number_aims k.block k.labels (behind p numbers taken c index (unless_zero first)))
    (R.value_of k.around (if same_int y (pos 0) then zero_divisor else rest) k.block.call.surroundings.acts p.state)
unfolding R.value_of give ◌>>◌
divisor_does k over p numbers taken c index f x y first rest h o line registers' wy l paid at other =
    by (same_int y (pos 0)) refl
  where
    raise' : Code
    raise' = zero_divide_raised ++ JumpAhead (size_of first) ∷ []

    whole : Stretch
    whole = behind p numbers taken c index (unless_zero first)

    acts : ℕ
    acts = k.block.call.surroundings.acts

    test_linked :
        Linked k.block.call.surroundings.links k.block.call.code index
        (skip_where Test.NotEqual a0 zero_register raise')
    test_linked = front_of (skip_where Test.NotEqual a0 zero_register raise') first l

    raise_linked : Linked k.block.call.surroundings.links k.block.call.code (index + 1) raise'
    raise_linked = rest_of _ raise' test_linked

    by :
        (q : Bool) → same_int y (pos 0) ≡ q →
        Comes k.block.call.code c f (services_of p) (number_aims k.block k.labels whole)
        (R.value_of k.around (if same_int y (pos 0) then zero_divisor else rest) acts p.state)
    by true e =
        let none = zero_word y e in
        let reach = skip_passed c f Test.NotEqual a0 zero_register raise' test_linked at
        (λ b. let o' = (at b).holds in
        ap (λ u. if u == (f b).machine.registers 0 then false else true) (o'.regs.1.0 ∙ none)
        ∙ ap (λ u. if 0 == u then false else true) (zero_is o'.body)) in
        let next' : Unit {0} → Meaning ℤ = λ u. give (pos 0) in
        let flow = R.raised k.around C.ZeroDivide 30 acts p.state in
        let goal = number_aims k.block k.labels whole in
        let inside = l.inside in
        subst (λ q. Comes k.block.call.code c f (services_of p) goal
        (R.value_of k.around (if q then zero_divisor else rest) acts p.state)) (sym e)
        (onward (number_closed k.block k.labels whole) reach
        (λ g at'.
        comes_on acts flow next'
        (comes_map (word_aims k.block k.labels (behind p numbers taken (c + 1) (index + 1) zero_divide_raised) 0)
        (before k.block.call.code goal acts next') refl flow
        (λ c' f' v' u s' q. record {
          to = λ early. (
            refl,
            passed_over k p numbers taken c index first
                (subst (λ i. Linked k.block.call.surroundings.links k.block.call.code i
                (JumpAhead (size_of first) ∷ [])) (omega arith)
                (back_of zero_divide_raised (JumpAhead (size_of first) ∷ []) raise_linked))
                (omega (arith, inside)) q,
          );
        })
        (λ c' f' v' height label s' q. q)
        (λ c' f' v' u s' q. absurd q)
        (over p numbers taken (c + 1) (index + 1) g o line registers'
        (front_of zero_divide_raised (JumpAhead (size_of first) ∷ []) raise_linked)
        (omega (arith, paid))
        (λ b. in_known h o.image.parts (at' b))))))
    by false e =
        let reach = skip_taken c f Test.NotEqual a0 zero_register raise' test_linked at
        (λ b. let o' = (at b).holds in
        ap (λ u. if u == (f b).machine.registers 0 then false else true) o'.regs.1.0
        ∙ ap (λ u. if word y == u then false else true) (zero_is o'.body)
        ∙ ap (λ u. if u then false else true) (other_word y wy e)) in
        subst (λ q. Comes k.block.call.code c f (services_of p) (number_aims k.block k.labels whole)
        (R.value_of k.around (if q then zero_divisor else rest) acts p.state)) (sym e)
        (onward (number_closed k.block k.labels whole) reach
        (λ g at'.
        number_further
        (record {
          acts = omega arith;
          line = refl;
          index = omega arith;
          wanted = omega arith;
          taken = omega arith;
          stays = λ i less. refl;
        })
        (other g e at')))

-- ---- quotients

-- a number that is a word, or the one above the greatest
pub word_wraps : (z : ℤ) → IsWord z → word z ≡ word (wrapped 31 z)
word_wraps (pos n) h = grind (arith, ints, nat_tests)
word_wraps (negsuc n) h = grind (arith, ints, nat_tests)

pub sum_zero : (y x : ℕ) → y ≡ x → x < 2 ^ 32 → sum y (word (pos 0)) ≡ x
sum_zero y x e h = omega (arith, e, h)

-- a quotient in a0 beside what is tested in u3
abbrev quoted : (x bits : ℕ) → Base → List (ℕ × ℕ)
quoted x bits b = (10, x) ∷ (28, bits) ∷ []

abbrev pub whole_code : Taken → Code
whole_code t = registers Op.Divide u2 u1 a0 ∷ quotient_checked t

whole_does :
    (k : Setting) → OverflowComes k → (p : Point) (numbers : ℕ → ℕ) (taken c index : ℕ) (f : Family) (x y : ℤ)
    (h : frame_of k.block p) → IsAmong k.block numbers p → p.control.line ≡ k.around.line →
    HasRegisters k taken 1 → IsWide x → IsWide y → same_int y (pos 0) ≡ false →
    Linked k.block.call.surroundings.links k.block.call.code index (whole_code (in_registers k.words taken)) →
    c + size_of (whole_code (in_registers k.words taken)) + k.most ≤ cost k.block.call.code →
    ((b : Base) → At b index (Known (point_ground k.block.call.surroundings p h) (services_of p) numbers (λ j. 0)
    (paired (word x) (word y)) b) (f b)) →
    Comes k.block.call.code c f (services_of p)
    (number_aims k.block k.labels (behind p numbers taken c index (whole_code (in_registers k.words taken))))
    (R.value_of k.around (checked 31 (int_div x y)) k.block.call.surroundings.acts p.state)
whole_does k over p numbers taken c index f x y h o line registers' wx wy other l paid at =
    let t = in_registers k.words taken in
    let v = services_of p in
    let g = point_ground k.block.call.surroundings p h in
    let front = registers Op.Divide u2 u1 a0 ∷ immediate Imm.Add u3 a0 (pos 1) ∷ lowest_number u4
    ∷ registers Op.Xor u4 u4 u2 ∷ registers Op.Or u3 u3 u4 ∷ move a0 u2 ∷ [] in
    let last = skip_where Test.NotEqual u3 zero_register (overflow_raised t) in
    let z = int_div x y in
    let small' = quotient_small x y wx in
    let bits = quotient_bits (word y) (word z) in
    let r = straight c f v v (λ b. Known g v numbers (λ j. 0) (quoted (word z) bits) b) (front_of front last l)
    (omega arith) (λ b. (at b).pc)
    (λ b.
    let o' = (at b).holds in
    let m = (f b).machine.registers in
    let e : operated Op.Divide (m 6) (m 10) ≡ word z =
    ap (λ u. operated Op.Divide u (m 10)) o'.regs.0 ∙ ap (operated Op.Divide (word x)) o'.regs.1.0
    ∙ quotient-word x y wx wy other in
    record {
      body = record {
        services = o'.body.services;
        registers = o'.body.registers;
        bytes = o'.body.bytes;
        memory = o'.body.memory;
      };
      regs = (
        sum_zero (operated Op.Divide (m 6) (m 10)) (word z) e small',
        (
          ap (λ u. quotient_bits u (operated Op.Divide (m 6) (m 10))) o'.regs.1.0 ∙ ap (quotient_bits (word y)) e,
          tt,
        ),
      );
    }) in
    onward (number_closed k.block k.labels (behind p numbers taken c index (whole_code t))) r (λ f' at'.
    number_further
    (record {
      acts = omega arith;
      line = refl;
      index = omega arith;
      wanted = omega arith;
      taken = omega arith;
      stays = λ i less. refl;
    })
    (checked_does k over p numbers taken (c + size_of front) (index + size_of front) f' z (word z) Test.NotEqual u3
    zero_register h o line registers'
    (record { word_is = word_wraps z (quotient_is_word x y wx); small' = small'; fits = λ q. refl })
    (back_of front last l) (omega (arith, paid))
    (λ b. record {
      pc = (at' b).pc;
      holds = record { body = (at' b).holds.body; regs = ((at' b).holds.regs.0, tt) };
    })
    (λ b.
    let o' = (at' b).holds in
    ap (λ u. if (f' b).machine.registers 28 == u then false else true) (zero_is o'.body)
    ∙ ap is_set o'.regs.1.0 ∙ quotient_tested (is_of_precision 31 z) x y wx wy other refl)))

quotient_operates :
    (k : Setting) → OverflowComes k → ZeroDivideComes k →
    Operates k quotient_code (λ x y. R.value_of k.around (divided 31 x y))
quotient_operates k over zero_over p numbers taken c index f x y h o line registers' wx wy l paid at =
    let t = in_registers k.words taken in
    let part = whole_code t in
    let test = skip_where Test.NotEqual a0 zero_register (zero_divide_raised ++ JumpAhead (size_of part) ∷ []) in
    divisor_does k zero_over p numbers taken c index f x y part (checked 31 (int_div x y)) h o line registers' wy l paid
    at
    (λ g other at'.
    whole_does k over p numbers taken (c + 8) (index + 8) g x y h o line registers' wx wy other (back_of test part l)
    (omega (arith, paid)) at')

pub quotient_does :
    (k : Setting) (left right : Y.Number) (m n : ℕ) → OverflowComes k → ZeroDivideComes k → Does k m left →
    Does k n right → Does k (max m (suc n)) (Y.Calculated Y.Quotient left right)
unfolding V.number
quotient_does k left right m n over zero_over el er =
    both_do k m n (λ t. number_code k.block.environment t left) (λ t. number_code k.block.environment t right)
    quotient_code (V.number k.around left) (V.number k.around right)
    (λ x y. R.value_of k.around (calculated Y.Quotient x y)) el er (quotient_operates k over zero_over)

-- DIVIDE, of all precision that there is
pub divided_does :
    (k : Setting) (left right : Y.Number) (m n : ℕ) → OverflowComes k → ZeroDivideComes k → Does k m left →
    Does k n right → Does k (max m (suc n)) (Y.Divided 31 left right)
unfolding V.number
divided_does k left right m n over zero_over el er =
    both_do k m n (λ t. number_code k.block.environment t left) (λ t. number_code k.block.environment t right)
    (λ t. divided_code t 31) (V.number k.around left) (V.number k.around right)
    (λ x y. R.value_of k.around (divided 31 x y)) el er (quotient_operates k over zero_over)
