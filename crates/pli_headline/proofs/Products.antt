-- Products, with their overflow.
use Rattle.std.proofs.Common.{◌≡◌, ℕ, ◌+◌, ◌<◌, List, [], ◌∷◌, Bool, true, false, refl, ap, ◌∙◌, subst, arith}
use Rattle.std.specs.Prelude.{ℤ, pos, ◌*ℤ◌, ◌==◌}
use Rattle.rv_meaning.specs.declared.instr.Instr.{Instr}
use Rattle.rv_meaning.specs.declared.instr.RegisterOp.TheVariants as Op
use Rattle.rv_meaning.specs.declared.instr.ShiftOp.TheVariants as Shift
use Rattle.rv_meaning.specs.declared.instr.BranchTest.TheVariants as Test
use Rattle.rv_meaning.specs.Words.{word, sum, operated, upper_half, shifted_right_signed}
use Rattle.pli_meaning.specs.Numbers.{is_of_precision, checked}
use Rattle.pli_meaning.specs.StorageState.{State}
use Rattle.pli_meaning.specs.Raising as R
use Rattle.pli_meaning.specs.Raising.{Around}
use Rattle.pli_serving.specs.ServiceState.{Services}
use Rattle.pli_coding.specs.Registers.{a0, u1, u2, u3, u4}
use Rattle.pli_coding.specs.Assembly.{size_of}
use Rattle.pli_coding.specs.Instructions.{move, registers, shift, skip_where}
use Rattle.pli_coding.specs.Environments.{Taken, is_register_left}
use Rattle.pli_coding.specs.Arithmetic.{overflow_raised, product_code}
use Rattle.pli_coding.specs.Linking.{Links}
use Rattle.run_steps.specs.Engine.{Base, address}
use Rattle.run_steps.specs.Items.{Linked, At}
use Rattle.run_steps.proofs.Items.{straight}
use Rattle.run_steps.specs.Numbers.{IsWide}
use Rattle.run_steps.proofs.Numbers.{word_small}
use Rattle.pli_headline.proofs.WordProducts.{product-lower, product-upper, product_size, residue_word, product_test, product_fits, product_over}
use Rattle.run_steps.specs.Bodies.{Ground, Known}
use Rattle.run_steps.proofs.Jumps.{front_of, back_of}
use Rattle.run_steps.specs.Temporaries.{Temporaries}
use Rattle.pli_headline.proofs.Serving.{Serving}
use Rattle.pli_headline.proofs.Raising.{Routines}
use Rattle.pli_headline.proofs.Operators.{Gone, compared, paired, checked_by, sum_zero, sum_small}
use Rattle.run_steps.specs.Reach.{Family, Aims, Comes, Closed}
use Rattle.run_steps.proofs.Reach.{onward}

product_tested : (q : Bool) (x y : ℤ) → IsWide x → IsWide y → is_of_precision 31 (x *ℤ y) ≡ q → (operated Op.MultiplyHigh (word x) (word y) == shifted_right_signed (operated Op.Multiply (word x) (word y)) 31) ≡ q
product_tested q x y h i e =
    ap (λ u. u == shifted_right_signed (operated Op.Multiply (word x) (word y)) 31) (product-upper x y h i)
    ∙ ap (λ u. upper_half (x *ℤ y) == shifted_right_signed u 31) (product-lower x y h i)
    ∙ by_size q e
  where
    by_size : (t : Bool) → is_of_precision 31 (x *ℤ y) ≡ t → product_test (x *ℤ y) ≡ t
    by_size true f = product_fits (x *ℤ y) f
    by_size false f = product_over (x *ℤ y) (product_size x y h i) f

product-word : (x y : ℤ) → IsWide x → IsWide y → IsWide (x *ℤ y) → sum (operated Op.Multiply (word x) (word y)) (word (pos 0)) ≡ word (x *ℤ y)
product-word x y h i fits =
    sum_zero (operated Op.Multiply (word x) (word y)) (word (x *ℤ y)) (product-lower x y h i ∙ residue_word (x *ℤ y) fits) (word_small (x *ℤ y) fits)

pub product_piece : {links : Links} {code : List Instr} {i : ℕ} {g : Ground} {v : Services} {h t : ℕ → ℕ} {s : State} {aims : Aims ℤ} (closed : Closed code aims) (routines : Routines links code) (temps : Temporaries g) (f : Family) (around : Around) (taken : Taken) (x y : ℤ) (k : ℕ) → IsWide x → IsWide y → (is_register_left taken ≡ false → taken.words < g.words) → Linked links code i (product_code taken) → Serving k s v around.line → ((b : Base) → At b i (Known g v h t (paired (word x) (word y)) b) (f b)) → Gone code g h t v s (i + size_of (product_code taken)) aims → Comes code i f v aims (R.value_of around (checked 31 (x *ℤ y)) k s)
product_piece {code = code} {i = i} {g = g} {v = v} {h = h} {t = t} {s = s} {aims = aims} closed routines temps f around taken x y k wx wy room l serving at gone =
    let front = registers Op.Multiply u2 u1 a0 ∷ registers Op.MultiplyHigh u3 u1 a0 ∷ shift Shift.RightArithmetic u4 u2 31 ∷ move a0 u2 ∷ [] in
    let behind = skip_where Test.Equal u3 u4 (overflow_raised taken) in
    let lower = operated Op.Multiply (word x) (word y) in
    let upper = operated Op.MultiplyHigh (word x) (word y) in
    let sign = shifted_right_signed lower 31 in
    let z = x *ℤ y in
    let r = straight i f v v (λ b. Known g v h t (compared (sum lower (word (pos 0))) upper sign) b) (front_of front behind l) (omega arith) (λ b. (at b).pc)
    (λ b.
    let o = (at b).holds in
    let w = (f b).machine.registers in
    let e : operated Op.Multiply (w 6) (w 10) ≡ lower = ap (λ u. operated Op.Multiply u (w 10)) o.regs.0 ∙ ap (operated Op.Multiply (word x)) o.regs.1.0 in
    record {
      body = record { services = o.body.services; registers = o.body.registers; bytes = o.body.bytes; memory = o.body.memory };
      regs = (
        ap (λ u. sum u (word (pos 0))) e,
        (
          ap (λ u. operated Op.MultiplyHigh u (w 10)) o.regs.0 ∙ ap (operated Op.MultiplyHigh (word x)) o.regs.1.0,
          (ap (λ u. shifted_right_signed u 31) e, tt),
        ),
      );
    }) in
    onward closed r (λ f' at'.
    checked_by (is_of_precision 31 z) closed routines temps f' around taken z (sum lower (word (pos 0))) upper sign k refl
    (product-word x y wx wy) (product_tested (is_of_precision 31 z) x y wx wy refl) room (sum_small lower) (back_of front behind l) serving at'
    (λ z' f'' w at''. subst (λ n. aims.done n f'' v z' s) (omega arith) (gone z' f'' w (λ b. record { pc = (at'' b).pc ∙ ap (address b) (omega arith); holds = (at'' b).holds }))))
