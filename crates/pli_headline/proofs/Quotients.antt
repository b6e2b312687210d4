-- Divisors, of which 0 raises ZERODIVIDE, and quotients, of which one overflows.
use Rattle.std.proofs.Common.{◌≡◌, ℕ, ◌+◌, ◌^◌, ◌<◌, List, [], ◌∷◌, ◌++◌, Bool, true, false, refl, ap, ◌∙◌, subst, arith, lit<}
use Rattle.std.specs.Prelude.{ℤ, pos, int_div, ◌==◌, cond, if◌then◌else◌}
use Rattle.pli_language.specs.declared.condition.Condition.TheVariants as C
use Rattle.rv_meaning.specs.declared.instr.Instr.{Instr}
use Rattle.rv_meaning.specs.declared.instr.RegisterOp.TheVariants as Op
use Rattle.rv_meaning.specs.declared.instr.ImmediateOp.TheVariants as Imm
use Rattle.rv_meaning.specs.declared.instr.BranchTest.TheVariants as Test
use Rattle.rv_meaning.specs.Words.{word, operated}
use Rattle.pli_meaning.specs.Numbers.{Checked, is_of_precision, wrapped, checked}
use Rattle.pli_meaning.specs.Operations.{divided, zero_divisor}
use Rattle.pli_meaning.specs.Contents.{same_int}
use Rattle.pli_meaning.specs.StorageState.{State}
use Rattle.pli_meaning.specs.Control.{Meaning, give, ◌>>◌}
use Rattle.pli_meaning.specs.Raising as R
use Rattle.pli_meaning.specs.Raising.{Around}
use Rattle.pli_serving.specs.ServiceState.{Services}
use Rattle.pli_coding.specs.Registers.{zero_register, a0, u1, u2, u3, u4}
use Rattle.pli_coding.specs.Assembly.{JumpAhead, Code, size_of}
use Rattle.pli_coding.specs.Instructions.{small, move, immediate, registers, lowest_number, skip_where}
use Rattle.pli_coding.specs.Environments.{Taken, is_register_left}
use Rattle.pli_coding.specs.Arithmetic.{overflow_raised, zero_divide_raised, unless_zero, quotient_checked, quotient_code}
use Rattle.pli_coding.specs.Linking.{Links}
use Rattle.run_steps.specs.Engine.{Base, address}
use Rattle.run_steps.specs.Items.{Linked, At}
use Rattle.run_steps.proofs.Items.{straight}
use Rattle.run_steps.specs.Numbers.{IsWide}
use Rattle.pli_headline.proofs.WordQuotients.{zero_word, other_word, quotient-word, quotient_bits, is_set, quotient_tested, quotient_small}
use Rattle.run_steps.specs.Bodies.{Ground, Known}
use Rattle.run_steps.proofs.Bodies.{zero_is}
use Rattle.run_steps.proofs.Jumps.{front_of, back_of, rest_of, skip_taken, skip_passed}
use Rattle.run_steps.specs.Temporaries.{Temporaries}
use Rattle.pli_headline.proofs.Serving.{Serving}
use Rattle.pli_headline.proofs.Raising.{Routines}
use Rattle.pli_headline.proofs.Operators.{Gone, paired, raised_piece, overflow_piece, after_fit, after_raise, sum_zero}
use Rattle.run_steps.specs.Reach.{Family, Aims, Comes, Closed}
use Rattle.run_steps.proofs.Reach.{before_closed, comes_on, onward}

-- ---- divisors

-- where another divisor than 0 goes on
abbrev pub IsOther : List Instr → Links → Ground → (h t : ℕ → ℕ) → Services → State → Code → Around → ℕ → ℕ → (x y : ℤ) → Checked → Aims ℤ → Type 0
IsOther code links g h t v s first around i k x y rest aims =
    (f' : Family) → same_int y (pos 0) ≡ false → Linked links code i first → ((b : Base) → At b i (Known g v h t (paired (word x) (word y)) b) (f' b)) → Comes code i f' v aims (R.value_of around rest k s)

pub divisor_piece : {links : Links} {code : List Instr} {i : ℕ} {g : Ground} {v : Services} {h t : ℕ → ℕ} {s : State} {aims : Aims ℤ} (q : Bool) (closed : Closed code aims) (routines : Routines links code) (f : Family) (around : Around) (first : Code) (x y : ℤ) (k : ℕ) (rest : Checked) → IsWide y → same_int y (pos 0) ≡ q → Linked links code i (unless_zero first) → Serving k s v around.line → ((b : Base) → At b i (Known g v h t (paired (word x) (word y)) b) (f b)) → IsOther code links g h t v s first around (i + 8) k x y rest aims → Comes code i f v aims (R.value_of around (cond q zero_divisor rest) k s)
unfolding R.value_of ◌>>◌
divisor_piece {i = i} {s = s} true closed routines f around first x y k rest wy e l serving at other =
    let over = zero_divide_raised ++ JumpAhead (size_of first) ∷ [] in
    let none = zero_word y e in
    let next' : Unit {0} → Meaning ℤ = λ u. give (pos 0) in
    let r = skip_passed _ f Test.NotEqual a0 zero_register over (front_of (skip_where Test.NotEqual a0 zero_register over) first l) at
    (λ b. let o = (at b).holds in ap (λ u. is_set' u ((f b).machine.registers 0)) (o.regs.1.0 ∙ none) ∙ ap (is_set' 0) (zero_is o.body)) in
    onward closed r (λ f' at'.
    comes_on k (R.raised around C.ZeroDivide 30 k s) next'
    (raised_piece (before_closed k next' closed) routines f' around C.ZeroDivide 3 30 (small a0 0 ∷ JumpAhead (size_of first) ∷ []) k refl refl (lit< tt) (lit< tt) (rest_of _ over (front_of (skip_where Test.NotEqual a0 zero_register over) first l)) serving at'))
  where
    is_set' : ℕ → ℕ → Bool
    is_set' a b = if a == b then false else true
divisor_piece {i = i} {s = s} false closed routines f around first x y k rest wy e l serving at other =
    let over = zero_divide_raised ++ JumpAhead (size_of first) ∷ [] in
    let r = skip_taken _ f Test.NotEqual a0 zero_register over (front_of (skip_where Test.NotEqual a0 zero_register over) first l) at
    (λ b. let o = (at b).holds in ap (λ u. is_set' u ((f b).machine.registers 0)) o.regs.1.0 ∙ ap (is_set' (word y)) (zero_is o.body) ∙ ap (λ u. if u then false else true) (other_word y wy e)) in
    onward closed r (λ f' at'. other f' e (back_of (skip_where Test.NotEqual a0 zero_register over) first l) at')
  where
    is_set' : ℕ → ℕ → Bool
    is_set' a b = if a == b then false else true

-- ---- quotients

-- a quotient in a0, and bits that are 0 where it is too large
abbrev pub quoted : (x c : ℕ) → Base → List (ℕ × ℕ)
quoted x c b = (10, x) ∷ (28, c) ∷ []

set_by : {links : Links} {code : List Instr} {i : ℕ} {g : Ground} {v : Services} {h t : ℕ → ℕ} {s : State} {aims : Aims ℤ} (q : Bool) (closed : Closed code aims) (routines : Routines links code) (temps : Temporaries g) (f : Family) (around : Around) (taken : Taken) (z : ℤ) (x c k : ℕ) → is_of_precision 31 z ≡ q → x ≡ word z → is_set c ≡ q → (is_register_left taken ≡ false → taken.words < g.words) → x < 2 ^ 32 → Linked links code i (skip_where Test.NotEqual u3 zero_register (overflow_raised taken)) → Serving k s v around.line → ((b : Base) → At b i (Known g v h t (quoted x c) b) (f b)) → Gone code g h t v s (i + (1 + size_of (overflow_raised taken))) aims → Comes code i f v aims (R.value_of around (checked 31 z) k s)
unfolding ◌>>◌
set_by {s = s} true closed routines temps f around taken z x c k e value test room fits l serving at gone =
    let r = skip_taken _ f Test.NotEqual u3 zero_register (overflow_raised taken) l at (λ b. let o = (at b).holds in ap (λ u. if (f b).machine.registers 28 == u then false else true) (zero_is o.body) ∙ ap is_set o.regs.1.0 ∙ test) in
    onward closed r (λ f' at'. after_fit around z k s e (gone z f' e (λ b. record { pc = (at' b).pc; holds = record { body = (at' b).holds.body; regs = ((at' b).holds.regs.0 ∙ value, tt) } })))
set_by {s = s} false closed routines temps f around taken z x c k e value test room fits l serving at gone =
    let r = skip_passed _ f Test.NotEqual u3 zero_register (overflow_raised taken) l at (λ b. let o = (at b).holds in ap (λ u. if (f b).machine.registers 28 == u then false else true) (zero_is o.body) ∙ ap is_set o.regs.1.0 ∙ test) in
    let next' : Unit {0} → Meaning ℤ = λ u. give (wrapped 31 z) in
    after_raise around z k s e
    (onward closed r (λ f' at'.
    comes_on k (R.raised around C.FixedOverflow 20 k s) next'
    (overflow_piece (before_closed k next' closed) routines temps f' around taken x k room fits (rest_of _ (overflow_raised taken) l) serving (λ b. record { pc = (at' b).pc; holds = record { body = (at' b).holds.body; regs = ((at' b).holds.regs.0, tt) } }))))

-- the quotient by another divisor than 0
pub whole_quotient : {links : Links} {code : List Instr} {i : ℕ} {g : Ground} {v : Services} {h t : ℕ → ℕ} {s : State} {aims : Aims ℤ} (closed : Closed code aims) (routines : Routines links code) (temps : Temporaries g) (f : Family) (around : Around) (taken : Taken) (x y : ℤ) (k : ℕ) → IsWide x → IsWide y → same_int y (pos 0) ≡ false → (is_register_left taken ≡ false → taken.words < g.words) → Linked links code i (registers Op.Divide u2 u1 a0 ∷ quotient_checked taken) → Serving k s v around.line → ((b : Base) → At b i (Known g v h t (paired (word x) (word y)) b) (f b)) → Gone code g h t v s (i + size_of (registers Op.Divide u2 u1 a0 ∷ quotient_checked taken)) aims → Comes code i f v aims (R.value_of around (checked 31 (int_div x y)) k s)
whole_quotient {code = code} {i = i} {g = g} {v = v} {h = h} {t = t} {s = s} {aims = aims} closed routines temps f around taken x y k wx wy other room l serving at gone =
    let front = registers Op.Divide u2 u1 a0 ∷ immediate Imm.Add u3 a0 (pos 1) ∷ lowest_number u4 ∷ registers Op.Xor u4 u4 u2 ∷ registers Op.Or u3 u3 u4 ∷ move a0 u2 ∷ [] in
    let behind = skip_where Test.NotEqual u3 zero_register (overflow_raised taken) in
    let z = int_div x y in
    let small' = quotient_small x y wx in
    let bits = quotient_bits (word y) (word z) in
    let r = straight i f v v (λ b. Known g v h t (quoted (word z) bits) b) (front_of front behind l) (omega arith) (λ b. (at b).pc)
    (λ b.
    let o = (at b).holds in
    let w = (f b).machine.registers in
    let e : operated Op.Divide (w 6) (w 10) ≡ word z = ap (λ u. operated Op.Divide u (w 10)) o.regs.0 ∙ ap (operated Op.Divide (word x)) o.regs.1.0 ∙ quotient-word x y wx wy other in
    record {
      body = record { services = o.body.services; registers = o.body.registers; bytes = o.body.bytes; memory = o.body.memory };
      regs = (
        sum_zero (operated Op.Divide (w 6) (w 10)) (word z) e small',
        (ap (λ u. quotient_bits u (operated Op.Divide (w 6) (w 10))) o.regs.1.0 ∙ ap (quotient_bits (word y)) e, tt),
      );
    }) in
    onward closed r (λ f' at'.
    set_by (is_of_precision 31 z) closed routines temps f' around taken z (word z) bits k refl refl (quotient_tested (is_of_precision 31 z) x y wx wy other refl) room small' (back_of front behind l) serving at'
    (λ z' f'' w at''. subst (λ n. aims.done n f'' v z' s) (omega arith) (gone z' f'' w (λ b. record { pc = (at'' b).pc ∙ ap (address b) (omega arith); holds = (at'' b).holds }))))

pub quotient_piece : {links : Links} {code : List Instr} {i : ℕ} {g : Ground} {v : Services} {h t : ℕ → ℕ} {s : State} {aims : Aims ℤ} (closed : Closed code aims) (routines : Routines links code) (temps : Temporaries g) (f : Family) (around : Around) (taken : Taken) (x y : ℤ) (k : ℕ) → IsWide x → IsWide y → (is_register_left taken ≡ false → taken.words < g.words) → Linked links code i (quotient_code taken) → Serving k s v around.line → ((b : Base) → At b i (Known g v h t (paired (word x) (word y)) b) (f b)) → Gone code g h t v s (i + size_of (quotient_code taken)) aims → Comes code i f v aims (R.value_of around (divided 31 x y) k s)
quotient_piece {i = i} {v = v} {s = s} {aims = aims} closed routines temps f around taken x y k wx wy room l serving at gone =
    divisor_piece (same_int y (pos 0)) closed routines f around (registers Op.Divide u2 u1 a0 ∷ quotient_checked taken) x y k (checked 31 (int_div x y)) wy refl l serving at
    (λ f' other l' at'.
    whole_quotient closed routines temps f' around taken x y k wx wy other room l' serving at'
    (λ z' f'' w at''. subst (λ n. aims.done n f'' v z' s) (omega arith) (gone z' f'' w (λ b. record { pc = (at'' b).pc ∙ ap (address b) (omega arith); holds = (at'' b).holds }))))
