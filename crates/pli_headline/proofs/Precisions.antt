-- Numbers where fewer than 31 bits are due, and DIVIDE.
use Rattle.std.proofs.Common.{◌≡◌, ℕ, ◌+◌, ◌-◌, ◌<◌, ◌≤◌, List, [], ◌∷◌, ◌++◌, Bool, true, false, refl, sym, ap, ◌∙◌, subst, arith}
use Rattle.std.specs.Prelude.{ℤ, pos, int_div, nat_lt, cond, ◌==◌}
use Rattle.std.proofs.lemmas.Bool.Decides.{nat_tests}
use Rattle.pli_language.specs.declared.condition.Condition.TheVariants as C
use Rattle.rv_meaning.specs.declared.instr.Instr.{Instr}
use Rattle.rv_meaning.specs.declared.instr.RegisterOp.TheVariants as Op
use Rattle.rv_meaning.specs.declared.instr.ShiftOp.TheVariants as Shift
use Rattle.rv_meaning.specs.declared.instr.BranchTest.TheVariants as Test
use Rattle.rv_meaning.specs.Words.{word, sum, operated}
use Rattle.pli_meaning.specs.Numbers.{Gives, Raises, is_of_precision, wrapped, checked}
use Rattle.pli_meaning.specs.Operations.{divided}
use Rattle.pli_meaning.specs.Contents.{same_int}
use Rattle.pli_meaning.specs.StorageState.{State}
use Rattle.pli_meaning.specs.Control.{Meaning, give, ◌>>◌}
use Rattle.pli_meaning.specs.Raising as R
use Rattle.pli_meaning.specs.Raising.{Around}
use Rattle.pli_serving.specs.ServiceState.{Services}
use Rattle.pli_coding.specs.Registers.{zero_register, a0, u1, u2}
use Rattle.pli_coding.specs.Assembly.{JumpAhead, Code, size_of}
use Rattle.pli_coding.specs.Instructions.{move, shift, registers, skip_where}
use Rattle.pli_coding.specs.Environments.{Taken, is_register_left}
use Rattle.pli_coding.specs.Arithmetic.{overflow_raised, zero_divide_raised, quotient_checked, narrowed_code, fitted_code, divided_code}
use Rattle.pli_coding.specs.Linking.{Links}
use Rattle.temporary_bounds.proofs.Takes.{none_spare}
use Rattle.run_steps.specs.Engine.{Base, address}
use Rattle.run_steps.proofs.Linking.{size_append}
use Rattle.run_steps.specs.Items.{Linked, At}
use Rattle.run_steps.proofs.Items.{straight}
use Rattle.run_steps.specs.Numbers.{IsWide}
use Rattle.pli_headline.proofs.WordQuotients.{quotient-word}
use Rattle.pli_headline.proofs.WordPrecisions.{narrowed, IsWord, wide_word, narrowed_tested, narrow_wide, quotient_is_word}
use Rattle.run_steps.specs.Bodies.{Ground, Known}
use Rattle.run_steps.proofs.Jumps.{front_of, back_of, rest_of, skip_taken, skip_passed}
use Rattle.run_steps.specs.Temporaries.{Temporaries}
use Rattle.pli_headline.proofs.Serving.{Serving}
use Rattle.pli_headline.proofs.Raising.{Routines}
use Rattle.pli_headline.proofs.Operators.{valued, paired, Gone, overflow_piece, sum_small}
use Rattle.pli_headline.proofs.Quotients.{divisor_piece, whole_quotient}
use Rattle.pli_headline.proofs.Evaluations.{number_kind, Operates}
use Rattle.run_steps.specs.Reach.{Family, Aims, Comes, Closed}
use Rattle.run_steps.proofs.Reach.{before_closed, comes_on, onward}

-- ---- fewer bits

-- what is left of a number beside it
abbrev pub lowered : (x w : ℕ) → Base → List (ℕ × ℕ)
lowered x w b = (6, x) ∷ (10, w) ∷ []

abbrev checked_so : (q : Bool) (p : ℕ) → ℤ → Around → Meaning ℤ
checked_so q p z around = R.value_of around (cond q (Gives z) (Raises C.FixedOverflow 20 (wrapped p z)))

-- behind the test the number is as before, and has so few bits
abbrev pub Fitted : List Instr → Ground → (h t : ℕ → ℕ) → Services → State → (p : ℕ) → ℤ → ℕ → Aims ℤ → Type 0
Fitted code g h t v s p z i aims =
    (f' : Family) → is_of_precision p z ≡ true → ((b : Base) → At b i (Known g v h t (valued (word z)) b) (f' b)) → aims.done i f' v z s

narrowed_by : {links : Links} {code : List Instr} {i : ℕ} {g : Ground} {v : Services} {h t : ℕ → ℕ} {s : State} {aims : Aims ℤ} (q : Bool) (closed : Closed code aims) (routines : Routines links code) (temps : Temporaries g) (f : Family) (around : Around) (taken : Taken) (p : ℕ) (z : ℤ) (x k : ℕ) → is_of_precision p z ≡ q → nat_lt p 31 ≡ true → (x == word z) ≡ q → (is_register_left taken ≡ false → taken.words < g.words) → Linked links code i (skip_where Test.Equal u1 a0 (move a0 u1 ∷ overflow_raised taken)) → Serving k s v around.line → ((b : Base) → At b i (Known g v h t (lowered x (word z)) b) (f b)) → Fitted code g h t v s p z (i + (1 + (1 + size_of (overflow_raised taken)))) aims → Comes code i f v aims (checked_so q p z around k s)
unfolding R.value_of give ◌>>◌
narrowed_by {s = s} true closed routines temps f around taken p z x k e less test room l serving at gone =
    let over = move a0 u1 ∷ overflow_raised taken in
    onward closed (skip_taken _ f Test.Equal u1 a0 over l at (λ b. let o = (at b).holds.regs in ap (λ u. u == (f b).machine.registers 10) o.0 ∙ ap (λ u. x == u) o.1.0 ∙ test))
    (λ f' at'. record {
      to = λ early. gone f' e
          (λ b. record {
            pc = (at' b).pc;
            holds = record
                { body = (at' b).holds.body; regs = ((at' b).holds.regs.1.0, tt) };
          });
    })
narrowed_by {i = i} {g = g} {v = v} {h = h} {t = t} {s = s} false closed routines temps f around taken p z x k e less test room l serving at gone =
    let front = move a0 u1 ∷ [] in
    let behind = overflow_raised taken in
    let next' : Unit {0} → Meaning ℤ = λ u. give (wrapped p z) in
    let l1 = rest_of _ (front ++ behind) l in
    let x' = sum x (word (pos 0)) in
    onward closed (skip_passed i f Test.Equal u1 a0 (front ++ behind) l at (λ b. let o = (at b).holds.regs in ap (λ u. u == (f b).machine.registers 10) o.0 ∙ ap (λ u. x == u) o.1.0 ∙ test))
    (λ f1 at1.
    onward closed (straight (i + 1) f1 v v (λ b. Known g v h t (valued x') b) (front_of front behind l1) (omega arith) (λ b. (at1 b).pc)
    (λ b. let o = (at1 b).holds in record {
      body = record { services = o.body.services; registers = o.body.registers; bytes = o.body.bytes; memory = o.body.memory };
      regs = (ap (λ u. sum u (word (pos 0))) o.regs.0, tt);
    }))
    (λ f2 at2.
    comes_on k (R.raised around C.FixedOverflow 20 k s) next'
    (overflow_piece (before_closed k next' closed) routines temps f2 around taken x' k room (sum_small x) (back_of front behind l1) serving at2)))

pub narrowed_piece : {links : Links} {code : List Instr} {i : ℕ} {g : Ground} {v : Services} {h t : ℕ → ℕ} {s : State} {aims : Aims ℤ} (closed : Closed code aims) (routines : Routines links code) (temps : Temporaries g) (f : Family) (around : Around) (taken : Taken) (p : ℕ) (z : ℤ) (k : ℕ) → nat_lt p 31 ≡ true → IsWord z → (is_register_left taken ≡ false → taken.words < g.words) → Linked links code i (narrowed_code taken p) → Serving k s v around.line → ((b : Base) → At b i (Known g v h t (valued (word z)) b) (f b)) → Fitted code g h t v s p z (i + size_of (narrowed_code taken p)) aims → Comes code i f v aims (R.value_of around (checked p z) k s)
narrowed_piece {i = i} {g = g} {v = v} {h = h} {t = t} {s = s} {aims = aims} closed routines temps f around taken p z k less w room l serving at gone =
    let front = shift Shift.Left u1 a0 (31 - p) ∷ shift Shift.RightArithmetic u1 u1 (31 - p) ∷ [] in
    let behind = skip_where Test.Equal u1 a0 (move a0 u1 ∷ overflow_raised taken) in
    let x = narrowed (31 - p) (word z) in
    let q = is_of_precision p z in
    onward closed (straight i f v v (λ b. Known g v h t (lowered x (word z)) b) (front_of front behind l) (omega arith) (λ b. (at b).pc)
    (λ b. let o = (at b).holds in record {
      body = record { services = o.body.services; registers = o.body.registers; bytes = o.body.bytes; memory = o.body.memory };
      regs = (ap (narrowed (31 - p)) o.regs.0, (o.regs.0, tt));
    }))
    (λ f' at'.
    narrowed_by q closed routines temps f' around taken p z x k refl less (narrowed_tested q p z less w refl) room (back_of front behind l) serving at'
    (λ f'' few at''. subst (λ n. aims.done n f'' v z s) (omega arith) (gone f'' few (λ b. record { pc = (at'' b).pc ∙ ap (address b) (omega arith); holds = (at'' b).holds }))))

fitted_by : {links : Links} {code : List Instr} {i : ℕ} {g : Ground} {v : Services} {h t : ℕ → ℕ} {s : State} {aims : Aims ℤ} (q : Bool) (closed : Closed code aims) (routines : Routines links code) (temps : Temporaries g) (f : Family) (around : Around) (taken : Taken) (p : ℕ) (z : ℤ) (k : ℕ) → nat_lt p 31 ≡ q → p ≤ 31 → IsWide z → (is_register_left taken ≡ false → taken.words < g.words) → Linked links code i (cond q (narrowed_code taken p) []) → Serving k s v around.line → ((b : Base) → At b i (Known g v h t (valued (word z)) b) (f b)) → Fitted code g h t v s p z (i + size_of (cond q (narrowed_code taken p) [])) aims → Comes code i f v aims (R.value_of around (checked p z) k s)
unfolding R.value_of give
fitted_by true closed routines temps f around taken p z k less most wide room l serving at gone =
    narrowed_piece closed routines temps f around taken p z k less (wide_word z wide) room l serving at gone
fitted_by {i = i} {v = v} {s = s} {aims = aims} false closed routines temps f around taken p z k less most wide room l serving at gone =
    let e : p ≡ 31 = grind (arith, nat_tests) in
    let few : is_of_precision p z ≡ true = subst (λ n. is_of_precision n z ≡ true) (sym e) wide in
    let here : i + 0 ≡ i = omega arith in
    subst (Comes _ i f v aims) (sym (ap (λ (t : Bool). checked_so t p z around k s) few))
    (record {
      to = λ early. subst (λ n. aims.done n f v z s) here (gone f few
          (λ b. record { pc = (at b).pc ∙ ap (address b) (sym here); holds = (at b).holds }));
    })

-- a number where so many bits are due
pub fitted_piece : {links : Links} {code : List Instr} {i : ℕ} {g : Ground} {v : Services} {h t : ℕ → ℕ} {s : State} {aims : Aims ℤ} (closed : Closed code aims) (routines : Routines links code) (temps : Temporaries g) (f : Family) (around : Around) (taken : Taken) (p : ℕ) (z : ℤ) (k : ℕ) → p ≤ 31 → IsWide z → (is_register_left taken ≡ false → taken.words < g.words) → Linked links code i (fitted_code taken p) → Serving k s v around.line → ((b : Base) → At b i (Known g v h t (valued (word z)) b) (f b)) → Fitted code g h t v s p z (i + size_of (fitted_code taken p)) aims → Comes code i f v aims (R.value_of around (checked p z) k s)
fitted_piece closed routines temps f around taken p z k most wide room l serving at gone =
    fitted_by (nat_lt p 31) closed routines temps f around taken p z k refl most wide room l serving at gone

-- ---- DIVIDE

abbrev by_precision : (q : Bool) → Taken → (precision : ℕ) → Code
by_precision q t precision =
    cond q (registers Op.Divide a0 u1 a0 ∷ narrowed_code t precision) (registers Op.Divide u2 u1 a0 ∷ quotient_checked t)

precise_quotient : {links : Links} {code : List Instr} {i : ℕ} {g : Ground} {v : Services} {h t : ℕ → ℕ} {s : State} {aims : Aims ℤ} (q : Bool) (closed : Closed code aims) (routines : Routines links code) (temps : Temporaries g) (f : Family) (around : Around) (taken : Taken) (p : ℕ) (x y : ℤ) (k : ℕ) → p ≤ 31 → nat_lt p 31 ≡ q → IsWide x → IsWide y → same_int y (pos 0) ≡ false → (is_register_left taken ≡ false → taken.words < g.words) → Linked links code i (by_precision q taken p) → Serving k s v around.line → ((b : Base) → At b i (Known g v h t (paired (word x) (word y)) b) (f b)) → Gone code g h t v s (i + size_of (by_precision q taken p)) aims → Comes code i f v aims (R.value_of around (checked p (int_div x y)) k s)
precise_quotient {i = i} {g = g} {v = v} {h = h} {t = t} {s = s} {aims = aims} true closed routines temps f around taken p x y k most less wx wy other room l serving at gone =
    let front = registers Op.Divide a0 u1 a0 ∷ [] in
    let behind = narrowed_code taken p in
    let z = int_div x y in
    onward closed (straight i f v v (λ b. Known g v h t (valued (word z)) b) (front_of front behind l) (omega arith) (λ b. (at b).pc)
    (λ b.
    let o = (at b).holds in
    let w = (f b).machine.registers in
    record {
      body = record { services = o.body.services; registers = o.body.registers; bytes = o.body.bytes; memory = o.body.memory };
      regs = (ap (λ u. operated Op.Divide u (w 10)) o.regs.0 ∙ ap (operated Op.Divide (word x)) o.regs.1.0 ∙ quotient-word x y wx wy other, tt);
    }))
    (λ f' at'.
    narrowed_piece closed routines temps f' around taken p z k less (quotient_is_word x y wx) room (back_of front behind l) serving at'
    (λ f'' few at''. subst (λ n. aims.done n f'' v z s) (omega arith) (gone z f'' (narrow_wide p z less few) (λ b. record { pc = (at'' b).pc ∙ ap (address b) (omega arith); holds = (at'' b).holds }))))
precise_quotient {code = code} {i = i} {v = v} {s = s} {aims = aims} false closed routines temps f around taken p x y k most less wx wy other room l serving at gone =
    let e : p ≡ 31 = grind (arith, nat_tests) in
    subst (λ n. Comes code i f v aims (R.value_of around (checked n (int_div x y)) k s)) (sym e)
    (whole_quotient closed routines temps f around taken x y k wx wy other room l serving at gone)

pub divided_operates : {links : Links} {code : List Instr} {g : Ground} {v : Services} {s : State} {k : ℕ} (routines : Routines links code) (temps : Temporaries g) (around : Around) → Serving k s v around.line → (p : ℕ) → p ≤ 31 → (x y : ℤ) → IsWide x → IsWide y → Operates number_kind links code g v s k 1 (paired (word x) (word y)) (λ taken. divided_code taken p) (R.value_of around (divided p x y))
divided_operates {v = v} {s = s} {k = k} routines temps around serving p most x y wx wy =
    record {
      does = λ {i} {h} {t} {aims} closed f taken room l at gone.
          divisor_piece (same_int y (pos 0)) closed routines f around (by_precision (nat_lt p 31) taken p) x y k (checked p (int_div x y)) wy refl l serving at
          (λ f' other l' at'.
          precise_quotient (nat_lt p 31) closed routines temps f' around taken p x y k most refl wx wy other
          (λ none. let z = none_spare taken none in omega (arith, z, room)) l' serving at'
          (λ z' f'' w at''.
          let size = size_append (skip_where Test.NotEqual a0 zero_register (zero_divide_raised ++ JumpAhead (size_of (by_precision (nat_lt p 31) taken p)) ∷ [])) (by_precision (nat_lt p 31) taken p) in
          subst (λ n. aims.done n f'' v z' s) (omega (arith, size)) (gone z' f'' w (λ b. record { pc = (at'' b).pc ∙ ap (address b) (omega (arith, size)); holds = (at'' b).holds }))));
    }
