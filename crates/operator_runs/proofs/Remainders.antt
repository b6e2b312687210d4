-- MOD, whose zero divisor raises ZERODIVIDE.
use Rattle.std.proofs.Common.{◌≡◌, ℕ, suc, ◌+◌, List, [], ◌∷◌, ◌++◌, Bool, true, false, refl, sym, ap, ◌∙◌, subst}
use Rattle.std.proofs.Common.{arith}
use Rattle.std.specs.Prelude.{ℤ, if◌then◌else◌, int_lt, int_rem, max, nat_abs, pos}
use Rattle.rv_meaning.specs.declared.instr.BranchTest.TheVariants as Test
use Rattle.rv_meaning.specs.declared.instr.RegisterOp.TheVariants as Op
use Rattle.rv_meaning.specs.Words.{operated, signed, sum, word}
use Rattle.pli_typing.specs.TypedTree as Y
use Rattle.pli_meaning.specs.Contents.{same_int}
use Rattle.pli_meaning.specs.Control.{give}
use Rattle.pli_meaning.specs.Evaluating as V
use Rattle.pli_meaning.specs.Numbers.{Gives, residue}
use Rattle.pli_meaning.specs.Operations.{modulo}
use Rattle.pli_meaning.specs.Raising as R
use Rattle.pli_coding.specs.Arithmetic.{absolute_bits, modulo_code, remainder_code, zero_divide_raised}
use Rattle.pli_coding.specs.Assembly.{Code, JumpAhead, size_of}
use Rattle.pli_coding.specs.Expressions.{number_code}
use Rattle.pli_coding.specs.Instructions.{add, move, registers, skip_where}
use Rattle.pli_coding.specs.Registers.{a0, u1, u2, zero_register}
use Rattle.activation_relation.specs.Layers.{Point, services_of}
use Rattle.run_steps.specs.Bodies.{Known}
use Rattle.run_steps.proofs.Bodies.{zero_is}
use Rattle.run_steps.specs.Engine.{Base, address}
use Rattle.run_steps.specs.Items.{At, Linked}
use Rattle.run_steps.proofs.Items.{straight}
use Rattle.run_steps.proofs.Jumps.{back_of, front_of, rest_of, skip_passed, skip_taken}
use Rattle.run_steps.specs.Numbers.{IsWide}
use Rattle.run_steps.proofs.Numbers.{word_small}
use Rattle.run_steps.specs.Reach.{Comes, Family}
use Rattle.run_steps.proofs.Reach.{onward}
use Rattle.block_runs.proofs.PointGrounds.{point_ground}
use Rattle.pli_headline.proofs.WordProducts.{signed_word}
use Rattle.pli_headline.proofs.WordRemainders.{RemainderIs, modulo_wide, remainder-word, remainder_is, remainder_wide}
use Rattle.pli_headline.proofs.WordSigns.{absolute-word, absolute_bits_of}
use Rattle.program_runs.specs.Statements.{IsAmong}
use Rattle.expression_runs.specs.Laws.{Does}
use Rattle.expression_runs.specs.Values.{Setting, Stretch, behind, number_aims}
use Rattle.expression_runs.proofs.Operands.{Operates, both_do}
use Rattle.expression_runs.proofs.Words.{frame_of, number_closed, paired, valued}
use Rattle.operator_runs.specs.Divisors.{ZeroDivideComes}
use Rattle.operator_runs.proofs.Quotients.{divisor_does, sum_zero}
use Rattle.operator_runs.proofs.Single.{straight_gives}

-- a remainder in u2 beside the divisor
abbrev remaindered : (r y : ℕ) → Base → List (ℕ × ℕ)
remaindered r y b = (7, r) ∷ (10, y) ∷ []

-- what MOD gives, in u2
abbrev moduled : ℕ → Base → List (ℕ × ℕ)
moduled m b = (7, m) ∷ []

abbrev added_size : Code
added_size = absolute_bits ++ add u2 u2 a0 ∷ []

-- what is known of the registers at an instruction
abbrev Stand : (k : Setting) → (p : Point) → (numbers : ℕ → ℕ) → frame_of k.block p → (index : ℕ) →
    (Base → List (ℕ × ℕ)) → Family → Type 0
Stand k p numbers h index known f =
    (b : Base) → At b index (Known (point_ground k.block.call.surroundings p h) (services_of p) numbers (λ j. 0) known
    b)
    (f b)

-- a negative remainder gets the divisor's size added
by_sign :
    (k : Setting) (whole : Stretch) (p : Point) (numbers : ℕ → ℕ) (c index : ℕ) (f : Family) (x y : ℤ)
    (h : frame_of k.block p) (q : Bool) → IsWide x → IsWide y → int_lt (int_rem x y) (pos 0) ≡ q →
    RemainderIs q x y →
    Linked k.block.call.surroundings.links k.block.call.code index
    (skip_where Test.GreaterOrEqual u2 zero_register added_size) →
    Stand k p numbers h index (remaindered (word (int_rem x y)) (word y)) f →
    ((f' : Family) → Stand k p numbers h (index + 5) (moduled (residue (nat_abs y) x)) f' →
    Comes k.block.call.code (c + 5) f' (services_of p) (number_aims k.block k.labels whole)
    (give (pos (residue (nat_abs y) x)) k.block.call.surroundings.acts p.state)) →
    Comes k.block.call.code c f (services_of p) (number_aims k.block k.labels whole)
    (give (pos (residue (nat_abs y) x)) k.block.call.surroundings.acts p.state)
by_sign k whole p numbers c index f x y h false wx wy e is l at next' =
    let r = int_rem x y in
    let reach = skip_taken c f Test.GreaterOrEqual u2 zero_register added_size l at
    (λ b. let o = (at b).holds in
    ap (λ u. if int_lt (signed u) (signed ((f b).machine.registers 0)) then false else true) o.regs.0
    ∙ ap (λ u. if int_lt (signed (word r)) (signed u) then false else true) (zero_is o.body)
    ∙ ap (λ u. if int_lt u (pos 0) then false else true) (signed_word r (remainder_wide x y wx))
    ∙ ap (λ u. if u then false else true) e) in
    onward (number_closed k.block k.labels whole) reach
    (λ f' at'. next' f' (λ b. record {
      pc = (at' b).pc;
      holds = record { body = (at' b).holds.body; regs = ((at' b).holds.regs.0 ∙ is, tt) };
    }))
by_sign k whole p numbers c index f x y h true wx wy e is l at next' =
    let r = int_rem x y in
    let w = k.block.call.surroundings in
    let code = k.block.call.code in
    let v = services_of p in
    let g = point_ground w p h in
    let z = residue (nat_abs y) x in
    let reach = skip_passed c f Test.GreaterOrEqual u2 zero_register added_size l at
    (λ b. let o = (at b).holds in
    ap (λ u. if int_lt (signed u) (signed ((f b).machine.registers 0)) then false else true) o.regs.0
    ∙ ap (λ u. if int_lt (signed (word r)) (signed u) then false else true) (zero_is o.body)
    ∙ ap (λ u. if int_lt u (pos 0) then false else true) (signed_word r (remainder_wide x y wx))
    ∙ ap (λ u. if u then false else true) e) in
    let place : index + 1 + 4 ≡ index + 5 = omega arith in
    let paid : c + 1 + 4 ≡ c + 5 = omega arith in
    let closed = number_closed k.block k.labels whole in
    onward closed reach (λ f1 at1.
    onward closed
    (straight (c + 1) f1 v v (λ b. Known g v numbers (λ j. 0) (moduled z) b) (rest_of _ added_size l) (omega arith)
    (λ b. (at1 b).pc)
    (λ b.
    let o = (at1 b).holds in
    let m = (f1 b).machine.registers in
    record {
      body = record {
        services = o.body.services;
        registers = o.body.registers;
        bytes = o.body.bytes;
        memory = o.body.memory;
      };
      regs = (
        ap (λ u. sum u (absolute_bits_of (m 10))) o.regs.0 ∙ ap (λ u. sum (word r) (absolute_bits_of u)) o.regs.1.0
            ∙ ap (sum (word r)) (absolute-word y wy) ∙ is,
        tt,
      );
    }))
    (λ f2 at2. subst (λ n. Comes code n f2 v (number_aims k.block k.labels whole) (give (pos z) w.acts p.state))
    (sym paid)
    (next' f2 (λ b. record { pc = (at2 b).pc ∙ ap (address b) place; holds = (at2 b).holds }))))

remainder_does :
    (k : Setting) (p : Point) (numbers : ℕ → ℕ) (taken c index : ℕ) (f : Family) (x y : ℤ) (h : frame_of k.block p) →
    IsAmong k.block numbers p → IsWide x → IsWide y → same_int y (pos 0) ≡ false →
    Linked k.block.call.surroundings.links k.block.call.code index remainder_code →
    Stand k p numbers h index (paired (word x) (word y)) f →
    Comes k.block.call.code c f (services_of p)
    (number_aims k.block k.labels (behind p numbers taken c index remainder_code))
    (R.value_of k.around (Gives (pos (residue (nat_abs y) x))) k.block.call.surroundings.acts p.state)
unfolding R.value_of
remainder_does k p numbers taken c index f x y h o wx wy other l at =
    let w = k.block.call.surroundings in
    let code = k.block.call.code in
    let v = services_of p in
    let g = point_ground w p h in
    let front = registers Op.Remainder u2 u1 a0 ∷ [] in
    let test = skip_where Test.GreaterOrEqual u2 zero_register added_size in
    let last = move a0 u2 ∷ [] in
    let z = residue (nat_abs y) x in
    let wide = modulo_wide x y wy other in
    let l2 = back_of front (test ++ last) l in
    let whole = behind p numbers taken c index remainder_code in
    let closed = number_closed k.block k.labels whole in
    let r = straight c f v v (λ b. Known g v numbers (λ j. 0) (remaindered (word (int_rem x y)) (word y)) b)
    (front_of front (test ++ last) l) (omega arith) (λ b. (at b).pc)
    (λ b.
    let o' = (at b).holds in
    let m = (f b).machine.registers in
    record {
      body = record {
        services = o'.body.services;
        registers = o'.body.registers;
        bytes = o'.body.bytes;
        memory = o'.body.memory;
      };
      regs = (
        ap (λ u. operated Op.Remainder u (m 10)) o'.regs.0 ∙ ap (operated Op.Remainder (word x)) o'.regs.1.0
            ∙ remainder-word x y wx wy other,
        (o'.regs.1.0, tt),
      );
    }) in
    let place : index + 1 + 5 + 1 ≡ index + 7 = omega arith in
    let paid : c + 1 + 5 + 1 ≡ c + 7 = omega arith in
    onward closed r (λ f1 at1.
    by_sign k whole p numbers (c + 1) (index + 1) f1 x y h (int_lt (int_rem x y) (pos 0)) wx wy refl
    (remainder_is (int_lt (int_rem x y) (pos 0)) x y wy other refl) (front_of test last l2) at1
    (λ f2 at2.
    onward closed
    (straight (c + 1 + 5) f2 v v (λ b. Known g v numbers (λ j. 0) (valued z) b) (back_of test last l2) (omega arith)
    (λ b. (at2 b).pc)
    (λ b. let o' = (at2 b).holds in record {
      body = record {
        services = o'.body.services;
        registers = o'.body.registers;
        bytes = o'.body.bytes;
        memory = o'.body.memory;
      };
      regs = (sum_zero _ z o'.regs.0 (word_small (pos z) wide), tt);
    }))
    (λ f3 at3.
    subst (λ n. Comes code n f3 v (number_aims k.block k.labels whole) (give (pos z) w.acts p.state)) (sym paid)
    (straight_gives k p numbers taken c index f3 (pos z) remainder_code h o wide
    (λ b. record { pc = (at3 b).pc ∙ ap (address b) place; holds = (at3 b).holds })))))

modulo_operates :
    (k : Setting) → ZeroDivideComes k → Operates k (λ t. modulo_code) (λ x y. R.value_of k.around (modulo x y))
modulo_operates k over p numbers taken c index f x y h o line registers' wx wy l paid at =
    let test = skip_where Test.NotEqual a0 zero_register
    (zero_divide_raised ++ JumpAhead (size_of remainder_code) ∷ []) in
    divisor_does k over p numbers taken c index f x y remainder_code (Gives (pos (residue (nat_abs y) x))) h o line
    registers' wy l paid at
    (λ g other at'.
    remainder_does k p numbers taken (c + 8) (index + 8) g x y h o wx wy other (back_of test remainder_code l) at')

pub modulo_does :
    (k : Setting) (left right : Y.Number) (m n : ℕ) → ZeroDivideComes k → Does k m left → Does k n right →
    Does k (max m (suc n)) (Y.Modulo left right)
unfolding V.number
modulo_does k left right m n over el er =
    both_do k m n (λ t. number_code k.block.environment t left) (λ t. number_code k.block.environment t right)
    (λ t. modulo_code) (V.number k.around left) (V.number k.around right)
    (λ x y. R.value_of k.around (modulo x y)) el er (modulo_operates k over)
