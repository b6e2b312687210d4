-- MOD, whose zero divisor raises ZERODIVIDE.
use Rattle.std.proofs.Common.{◌≡◌, ℕ, ◌+◌, List, [], ◌∷◌, ◌++◌, Bool, true, false, refl, sym, ap, ◌∙◌, subst, arith}
use Rattle.std.specs.Prelude.{ℤ, pos, nat_abs, int_rem, int_lt, if◌then◌else◌}
use Rattle.rv_meaning.specs.declared.instr.Instr.{Instr}
use Rattle.rv_meaning.specs.declared.instr.RegisterOp.TheVariants as Op
use Rattle.rv_meaning.specs.declared.instr.BranchTest.TheVariants as Test
use Rattle.rv_meaning.specs.Words.{word, signed, sum, operated}
use Rattle.pli_meaning.specs.Numbers.{Gives, residue}
use Rattle.pli_meaning.specs.Operations.{modulo}
use Rattle.pli_meaning.specs.Contents.{same_int}
use Rattle.pli_meaning.specs.StorageState.{State}
use Rattle.pli_meaning.specs.Control.{give}
use Rattle.pli_meaning.specs.Raising as R
use Rattle.pli_meaning.specs.Raising.{Around}
use Rattle.pli_serving.specs.ServiceState.{Services}
use Rattle.pli_coding.specs.Registers.{zero_register, a0, u1, u2}
use Rattle.pli_coding.specs.Assembly.{Code}
use Rattle.pli_coding.specs.Instructions.{registers, add, move, skip_where}
use Rattle.pli_coding.specs.Arithmetic.{absolute_bits, remainder_code, modulo_code}
use Rattle.pli_coding.specs.Linking.{Links}
use Rattle.run_steps.specs.Engine.{Base, address}
use Rattle.run_steps.specs.Items.{Linked, At}
use Rattle.run_steps.proofs.Items.{straight}
use Rattle.run_steps.specs.Numbers.{IsWide}
use Rattle.run_steps.proofs.Numbers.{word_small}
use Rattle.pli_headline.proofs.WordProducts.{signed_word}
use Rattle.pli_headline.proofs.WordSigns.{absolute_bits_of, absolute-word}
use Rattle.pli_headline.proofs.WordRemainders.{remainder-word, remainder_wide, RemainderIs, remainder_is, modulo_wide}
use Rattle.run_steps.specs.Bodies.{Ground, Known}
use Rattle.run_steps.proofs.Bodies.{zero_is}
use Rattle.run_steps.proofs.Jumps.{front_of, back_of, rest_of, skip_taken, skip_passed}
use Rattle.pli_headline.proofs.Serving.{Serving}
use Rattle.pli_headline.proofs.Raising.{Routines}
use Rattle.pli_headline.proofs.Operators.{valued, paired, sum_zero}
use Rattle.pli_headline.proofs.Quotients.{divisor_piece}
use Rattle.pli_headline.proofs.Evaluations.{number_kind, Operates, Resulting}
use Rattle.run_steps.specs.Reach.{Family, Aims, Comes, Closed}
use Rattle.run_steps.proofs.Reach.{onward}

-- a remainder in u2 beside the divisor
abbrev pub remaindered : (r y : ℕ) → Base → List (ℕ × ℕ)
remaindered r y b = (7, r) ∷ (10, y) ∷ []

-- what MOD gives, in u2
abbrev pub moduled : ℕ → Base → List (ℕ × ℕ)
moduled m b = (7, m) ∷ []

abbrev added_size : Code
added_size = absolute_bits ++ add u2 u2 a0 ∷ []

-- a negative remainder gets the divisor's size added
by_sign : {links : Links} {code : List Instr} {i : ℕ} {g : Ground} {v : Services} {h t : ℕ → ℕ} {aims : Aims ℤ} (s : State) (k : ℕ) (q : Bool) (closed : Closed code aims) (f : Family) (x y : ℤ) → IsWide x → IsWide y → int_lt (int_rem x y) (pos 0) ≡ q → RemainderIs q x y → Linked links code i (skip_where Test.GreaterOrEqual u2 zero_register added_size) → ((b : Base) → At b i (Known g v h t (remaindered (word (int_rem x y)) (word y)) b) (f b)) → ((f' : Family) → ((b : Base) → At b (i + 5) (Known g v h t (moduled (residue (nat_abs y) x)) b) (f' b)) → Comes code (i + 5) f' v aims (give (pos (residue (nat_abs y) x)) k s)) → Comes code i f v aims (give (pos (residue (nat_abs y) x)) k s)
by_sign {i = i} {g = g} {v = v} {h = h} {t = t} s k false closed f x y wx wy e is l at next' =
    let r = int_rem x y in
    let taken' = skip_taken i f Test.GreaterOrEqual u2 zero_register added_size l at
    (λ b. let o = (at b).holds in
    ap (λ u. if int_lt (signed u) (signed ((f b).machine.registers 0)) then false else true) o.regs.0
    ∙ ap (λ u. if int_lt (signed (word r)) (signed u) then false else true) (zero_is o.body)
    ∙ ap (λ u. if int_lt u (pos 0) then false else true) (signed_word r (remainder_wide x y wx))
    ∙ ap (λ u. if u then false else true) e) in
    onward closed taken' (λ f' at'. next' f' (λ b. record { pc = (at' b).pc; holds = record { body = (at' b).holds.body; regs = ((at' b).holds.regs.0 ∙ is, tt) } }))
by_sign {code = code} {i = i} {g = g} {v = v} {h = h} {t = t} {aims = aims} s k true closed f x y wx wy e is l at next' =
    let r = int_rem x y in
    let passed = skip_passed i f Test.GreaterOrEqual u2 zero_register added_size l at
    (λ b. let o = (at b).holds in
    ap (λ u. if int_lt (signed u) (signed ((f b).machine.registers 0)) then false else true) o.regs.0
    ∙ ap (λ u. if int_lt (signed (word r)) (signed u) then false else true) (zero_is o.body)
    ∙ ap (λ u. if int_lt u (pos 0) then false else true) (signed_word r (remainder_wide x y wx))
    ∙ ap (λ u. if u then false else true) e) in
    let five : i + 1 + 4 ≡ i + 5 = omega arith in
    onward closed passed (λ f1 at1.
    onward closed (straight (i + 1) f1 v v (λ b. Known g v h t (moduled (residue (nat_abs y) x)) b) (rest_of _ added_size l) (omega arith) (λ b. (at1 b).pc)
    (λ b.
    let o = (at1 b).holds in
    let w = (f1 b).machine.registers in
    record {
      body = record { services = o.body.services; registers = o.body.registers; bytes = o.body.bytes; memory = o.body.memory };
      regs = (
        ap (λ u. sum u (absolute_bits_of (w 10))) o.regs.0
            ∙ ap (λ u. sum (word r) (absolute_bits_of u)) o.regs.1.0
            ∙ ap (sum (word r)) (absolute-word y wy)
            ∙ is,
        tt,
      );
    }))
    (λ f2 at2. subst (λ n. Comes code n f2 v aims (give (pos (residue (nat_abs y) x)) k s)) (sym five) (next' f2 (λ b. record { pc = (at2 b).pc ∙ ap (address b) five; holds = (at2 b).holds }))))

remainder_piece : {links : Links} {code : List Instr} {i : ℕ} {g : Ground} {v : Services} {h t : ℕ → ℕ} {s : State} {aims : Aims ℤ} (k : ℕ) (closed : Closed code aims) (f : Family) (x y : ℤ) → IsWide x → IsWide y → same_int y (pos 0) ≡ false → Linked links code i remainder_code → ((b : Base) → At b i (Known g v h t (paired (word x) (word y)) b) (f b)) → Resulting number_kind code g h t v s (i + 7) aims → Comes code i f v aims (give (pos (residue (nat_abs y) x)) k s)
unfolding give
remainder_piece {i = i} {g = g} {v = v} {h = h} {t = t} {s = s} {aims = aims} k closed f x y wx wy other l at gone =
    let front = registers Op.Remainder u2 u1 a0 ∷ [] in
    let test = skip_where Test.GreaterOrEqual u2 zero_register added_size in
    let last = move a0 u2 ∷ [] in
    let z = residue (nat_abs y) x in
    let wide = modulo_wide x y wy other in
    let l2 = back_of front (test ++ last) l in
    let seven : i + 1 + 5 + 1 ≡ i + 7 = omega arith in
    let r = straight i f v v (λ b. Known g v h t (remaindered (word (int_rem x y)) (word y)) b) (front_of front (test ++ last) l) (omega arith) (λ b. (at b).pc)
    (λ b.
    let o = (at b).holds in
    let w = (f b).machine.registers in
    record {
      body = record { services = o.body.services; registers = o.body.registers; bytes = o.body.bytes; memory = o.body.memory };
      regs = (
        ap (λ u. operated Op.Remainder u (w 10)) o.regs.0 ∙ ap (operated Op.Remainder (word x)) o.regs.1.0 ∙ remainder-word x y wx wy other,
        (o.regs.1.0, tt),
      );
    }) in
    onward closed r (λ f1 at1.
    by_sign s k (int_lt (int_rem x y) (pos 0)) closed f1 x y wx wy refl (remainder_is (int_lt (int_rem x y) (pos 0)) x y wy other refl) (front_of test last l2) at1
    (λ f2 at2.
    onward closed (straight (i + 1 + 5) f2 v v (λ b. Known g v h t (valued z) b) (back_of test last l2) (omega arith) (λ b. (at2 b).pc)
    (λ b. let o = (at2 b).holds in record {
      body = record { services = o.body.services; registers = o.body.registers; bytes = o.body.bytes; memory = o.body.memory };
      regs = (sum_zero _ z o.regs.0 (word_small (pos z) wide), tt);
    }))
    (λ f3 at3. record {
      to = λ early. subst (λ n. aims.done n f3 v (pos z) s) (sym seven) (gone (pos z) f3 wide
          (λ b. record { pc = (at3 b).pc ∙ ap (address b) seven; holds = (at3 b).holds }));
    })))

pub modulo_operates : {links : Links} {code : List Instr} {g : Ground} {v : Services} {s : State} {k : ℕ} (routines : Routines links code) (around : Around) → Serving k s v around.line → (x y : ℤ) → IsWide x → IsWide y → Operates number_kind links code g v s k 1 (paired (word x) (word y)) (λ taken. modulo_code) (R.value_of around (modulo x y))
unfolding R.value_of give
modulo_operates {v = v} {s = s} {k = k} routines around serving x y wx wy =
    record {
      does = λ {i} {h} {t} {aims} closed f taken room l at gone.
          divisor_piece (same_int y (pos 0)) closed routines f around remainder_code x y k (Gives (pos (residue (nat_abs y) x))) wy refl l serving at
          (λ f' other l' at'.
          remainder_piece k closed f' x y wx wy other l' at'
          (λ z' f'' w at''. subst (λ n. aims.done n f'' v z' s) (omega arith) (gone z' f'' w (λ b. record { pc = (at'' b).pc ∙ ap (address b) (omega arith); holds = (at'' b).holds }))));
    }
