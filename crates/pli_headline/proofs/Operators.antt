-- Sums, differences and signs, with their overflow.
use Rattle.std.proofs.Common.{◌≡◌, ℕ, ◌+◌, ◌^◌, ◌<◌, List, [], ◌∷◌, ◌++◌, Some, Bool, true, false, refl, sym, ap, ◌∙◌, subst, arith, lit<}
use Rattle.std.specs.Prelude.{ℤ, pos, neg_ℤ, ◌+ℤ◌, ◌-ℤ◌, int_lt, cond, ◌==◌, if◌then◌else◌}
use Rattle.pli_language.specs.declared.condition.Condition.{Condition}
use Rattle.pli_language.specs.declared.condition.Condition.TheVariants as C
use Rattle.rv_meaning.specs.declared.instr.Instr.{Instr}
use Rattle.rv_meaning.specs.declared.instr.RegisterOp.TheVariants as Op
use Rattle.rv_meaning.specs.declared.instr.ImmediateOp.TheVariants as Imm
use Rattle.rv_meaning.specs.declared.instr.BranchTest.TheVariants as Test
use Rattle.rv_meaning.specs.Words.{word, signed, sum, flag, operated}
use Rattle.pli_typing.specs.TypedTree as Y
use Rattle.pli_meaning.specs.Numbers.{Gives, Raises, is_of_precision, wrapped, checked, sign_applied}
use Rattle.pli_meaning.specs.StorageState.{State, SystemUnit, force}
use Rattle.pli_meaning.specs.Control.{Meaning, give, ◌>>◌}
use Rattle.pli_meaning.specs.Raising as R
use Rattle.pli_meaning.specs.Raising.{Around}
use Rattle.pli_serving.specs.ServiceState as S
use Rattle.pli_serving.specs.ServiceState.{Services}
use Rattle.pli_coding.specs.Registers.{zero_register, a0, a1, u1, u2, u3, u4}
use Rattle.pli_serving.specs.OnUnits as U
use Rattle.pli_coding.specs.Assembly.{RaiseCondition, CallTo, Code, size_of}
use Rattle.pli_coding.specs.Instructions.{small, add, subtract, move, immediate, registers, skip_where, lowest_number}
use Rattle.pli_coding.specs.Environments.{Taken, is_register_left, save, fetch}
use Rattle.pli_coding.specs.Arithmetic.{raised, overflow_raised, sum_code, difference_code, signed_code}
use Rattle.pli_coding.specs.Linking.{Links}
use Rattle.run_steps.specs.Engine.{Base, address}
use Rattle.run_steps.specs.Items.{Linked, At}
use Rattle.run_steps.proofs.Items.{straight}
use Rattle.run_steps.specs.Numbers.{IsWide, least_word}
use Rattle.run_steps.proofs.Numbers.{word_small, sum-word, difference-word, sum_fits, sum_over, difference_fits}
use Rattle.run_steps.proofs.Numbers.{difference_over, negated-word, negated_fits, negated_over}
use Rattle.run_steps.specs.Bodies.{Ground, Known}
use Rattle.run_steps.proofs.Bodies.{zero_is}
use Rattle.run_steps.proofs.Jumps.{first_of, rest_of, front_of, back_of, skip_taken, skip_passed, call_piece}
use Rattle.run_steps.specs.Temporaries.{Temporaries}
use Rattle.run_steps.proofs.Temporaries.{save_piece}
use Rattle.pli_headline.proofs.Activations.{IsOther, OnlyIf, only_in_force, only_served}
use Rattle.pli_headline.proofs.Serving.{Serving}
use Rattle.pli_headline.proofs.Raising.{Routines, small_is, conditioned, raise_piece}
use Rattle.run_steps.specs.Reach.{Family, Aims, Comes, Closed}
use Rattle.run_steps.proofs.Reach.{before_closed, comes_on, onward}

-- a number in a0
abbrev pub valued : ℕ → Base → List (ℕ × ℕ)
valued x b = (10, x) ∷ []

-- ---- raises

-- a condition is raised, whatever is known, where no unit of the program is in force for it
pub raised_alone : {links : Links} {code : List Instr} {i : ℕ} {g : Ground} {v : Services} {h t : ℕ → ℕ} {rs : Base → List (ℕ × ℕ)} {s : State} {aims : Aims (Unit {0})} (closed : Closed code aims) (routines : Routines links code) (f : Family) (around : Around) (c : Condition) (number n : ℕ) (rest : Code) (k : ℕ) → U.condition_of number ≡ Some c → number < 2 ^ 16 → n < 2 ^ 16 → OnlyIf SystemUnit (force s.activations c) → OnlyIf S.SystemUnit (U.force v.activations c) → Linked links code i (small a0 number ∷ small a1 n ∷ CallTo RaiseCondition ∷ rest) → Serving k s v around.line → ((b : Base) → At b i (Known g v h t rs b) (f b)) → Comes code i f v aims (R.raised around c n k s)
raised_alone {links = links} {code = code} {i = i} {g = g} {v = v} {h = h} {t = t} closed routines f around c number n rest k is fits small' only served l serving at =
    let front = small a0 number ∷ small a1 n ∷ [] in
    let behind = CallTo RaiseCondition ∷ rest in
    let r = straight i f v v (λ b. Known g v h t (conditioned number n) b) (front_of front behind l) (omega arith) (λ b. (at b).pc)
    (λ b. let o = (at b).holds in let z = zero_is o.body in record {
      body = record { services = o.body.services; registers = o.body.registers; bytes = o.body.bytes; memory = o.body.memory };
      regs = (small_is _ number z (omega (arith, fits)), (small_is _ n z (omega (arith, small')), tt));
    }) in
    let l2 = back_of front behind l in
    onward closed r (λ f1 at1.
    let inside = l2.inside in
    let whole = routines.linked.inside in
    let calls = call_piece (i + 2) (i + 2 + 2) f1 RaiseCondition routines.at (omega arith) routines.condition (let m = routines.linked.small' in omega (arith, whole, m)) (record { reserved_stay = λ y u. refl; known_stay = λ b y u q. q; set = λ y u. refl }) (first_of (CallTo RaiseCondition) rest l2) at1 in
    onward closed calls (λ f2 at2.
    raise_piece closed routines (i + 2 + 2) f2 around c number n k is small' (omega (arith, inside, whole)) only served serving
    (λ b. record { pc = (at2 b).pc; holds = record { body = (at2 b).holds.body; regs = (at2 b).holds.regs.1 } })))

-- one for which the program has no units
pub raised_piece : {links : Links} {code : List Instr} {i : ℕ} {g : Ground} {v : Services} {h t : ℕ → ℕ} {rs : Base → List (ℕ × ℕ)} {s : State} {aims : Aims (Unit {0})} (closed : Closed code aims) (routines : Routines links code) (f : Family) (around : Around) (c : Condition) (number n : ℕ) (rest : Code) (k : ℕ) → U.condition_of number ≡ Some c → IsOther c → number < 2 ^ 16 → n < 2 ^ 16 → Linked links code i (small a0 number ∷ small a1 n ∷ CallTo RaiseCondition ∷ rest) → Serving k s v around.line → ((b : Base) → At b i (Known g v h t rs b) (f b)) → Comes code i f v aims (R.raised around c n k s)
raised_piece {v = v} {s = s} closed routines f around c number n rest k is other fits small' l serving at =
    raised_alone closed routines f around c number n rest k is fits small' (only_in_force s.activations v.activations serving.nested c other) (only_served s.activations v.activations serving.nested c other) l serving at

-- FIXEDOVERFLOW is raised, while a value waits
pub overflow_piece : {links : Links} {code : List Instr} {i : ℕ} {g : Ground} {v : Services} {h t : ℕ → ℕ} {s : State} {aims : Aims (Unit {0})} (closed : Closed code aims) (routines : Routines links code) (temps : Temporaries g) (f : Family) (around : Around) (taken : Taken) (x k : ℕ) → (is_register_left taken ≡ false → taken.words < g.words) → x < 2 ^ 32 → Linked links code i (overflow_raised taken) → Serving k s v around.line → ((b : Base) → At b i (Known g v h t (valued x) b) (f b)) → Comes code i f v aims (R.raised around C.FixedOverflow 20 k s)
overflow_piece {links = links} {code = code} {i = i} {g = g} {v = v} {h = h} {t = t} closed routines temps f around taken x k room fits l serving at =
    let first = save a0 taken in
    let behind = raised C.FixedOverflow 20 ++ fetch a0 taken in
    let saved = save_piece temps i f a0 taken x room fits (λ y u. refl) (λ b w o. o.regs.0) (record { reserved_stay = λ y u. refl; known_stay = λ b y u q. q; set = λ y u. refl }) (front_of first behind l) at in
    onward closed saved (λ f1 at1.
    raised_piece closed routines f1 around C.FixedOverflow 2 20 (fetch a0 taken) k refl refl (lit< tt) (lit< tt) (back_of first behind l) serving at1)

-- ---- a value where it fits, else the raise

-- what an operator leaves where its result fits
abbrev pub Gone : List Instr → Ground → (h t : ℕ → ℕ) → Services → State → ℕ → Aims ℤ → Type 0
Gone code g h t v s i aims =
    (z : ℤ) (f' : Family) → IsWide z → ((b : Base) → At b i (Known g v h t (valued (word z)) b) (f' b)) → aims.done i f' v z s

-- registers that are compared to find an overflow
abbrev pub compared : (x c d : ℕ) → Base → List (ℕ × ℕ)
compared x c d b = (10, x) ∷ (28, c) ∷ (29, d) ∷ []

pub after_raise : {code : List Instr} {i : ℕ} {f : Family} {v : Services} {aims : Aims ℤ} (around : Around) (z : ℤ) (k : ℕ) (s : State) → is_of_precision 31 z ≡ false → Comes code i f v aims (((R.raised around C.FixedOverflow 20) >> (give (wrapped 31 z))) k s) → Comes code i f v aims (R.value_of around (checked 31 z) k s)
unfolding R.value_of
after_raise {code} {i} {f} {v} {aims} around z k s e c =
    subst (λ q. Comes code i f v aims (R.value_of around (cond q (Gives z) (Raises C.FixedOverflow 20 (wrapped 31 z))) k s)) (sym e) c

pub after_fit : {code : List Instr} {i : ℕ} {f : Family} {v : Services} {aims : Aims ℤ} (around : Around) (z : ℤ) (k : ℕ) (s : State) → is_of_precision 31 z ≡ true → aims.done i f v z s → Comes code i f v aims (R.value_of around (checked 31 z) k s)
unfolding R.value_of give
after_fit {code} {i} {f} {v} {aims} around z k s e d =
    subst (λ q. Comes code i f v aims (R.value_of around (cond q (Gives z) (Raises C.FixedOverflow 20
    (wrapped 31 z))) k s)) (sym e) (record { to = λ early. d })

-- two registers are compared: where they are equal the value in a0 fits, else it overflows
pub checked_by : {links : Links} {code : List Instr} {i : ℕ} {g : Ground} {v : Services} {h t : ℕ → ℕ} {s : State} {aims : Aims ℤ} (q : Bool) (closed : Closed code aims) (routines : Routines links code) (temps : Temporaries g) (f : Family) (around : Around) (taken : Taken) (z : ℤ) (x c d k : ℕ) → is_of_precision 31 z ≡ q → (q ≡ true → x ≡ word z) → (c == d) ≡ q → (is_register_left taken ≡ false → taken.words < g.words) → x < 2 ^ 32 → Linked links code i (skip_where Test.Equal u3 u4 (overflow_raised taken)) → Serving k s v around.line → ((b : Base) → At b i (Known g v h t (compared x c d) b) (f b)) → Gone code g h t v s (i + (1 + size_of (overflow_raised taken))) aims → Comes code i f v aims (R.value_of around (checked 31 z) k s)
unfolding ◌>>◌
checked_by {g = g} {v = v} {h = h} {t = t} {s = s} true closed routines temps f around taken z x c d k e value test room fits l serving at gone =
    let r = skip_taken _ f Test.Equal u3 u4 (overflow_raised taken) l at (λ b. let o = (at b).holds.regs in ap (λ u. u == (f b).machine.registers 29) o.1.0 ∙ ap (λ u. c == u) o.1.1.0 ∙ test) in
    onward closed r (λ f' at'. after_fit around z k s e (gone z f' e (λ b. record { pc = (at' b).pc; holds = record { body = (at' b).holds.body; regs = ((at' b).holds.regs.0 ∙ value refl, tt) } })))
checked_by {g = g} {v = v} {h = h} {t = t} {s = s} false closed routines temps f around taken z x c d k e value test room fits l serving at gone =
    let r = skip_passed _ f Test.Equal u3 u4 (overflow_raised taken) l at (λ b. let o = (at b).holds.regs in ap (λ u. u == (f b).machine.registers 29) o.1.0 ∙ ap (λ u. c == u) o.1.1.0 ∙ test) in
    let next' : Unit {0} → Meaning ℤ = λ u. give (wrapped 31 z) in
    after_raise around z k s e
    (onward closed r (λ f' at'.
    comes_on k (R.raised around C.FixedOverflow 20 k s) next'
    (overflow_piece (before_closed k next' closed) routines temps f' around taken x k room fits (rest_of _ (overflow_raised taken) l) serving (λ b. record { pc = (at' b).pc; holds = record { body = (at' b).holds.body; regs = ((at' b).holds.regs.0, tt) } }))))

pub sum_zero : (y x : ℕ) → y ≡ x → x < 2 ^ 32 → sum y (word (pos 0)) ≡ x
sum_zero y x e h = omega (arith, e, h)

pub sum_small : (x : ℕ) → sum x (word (pos 0)) < 2 ^ 32
sum_small x = omega arith

-- a left operand in u1 and a right one in a0
abbrev pub paired : (x y : ℕ) → Base → List (ℕ × ℕ)
paired x y b = (6, x) ∷ (10, y) ∷ []

sum_tested : (q : Bool) (x y : ℤ) → IsWide x → IsWide y → is_of_precision 31 (x +ℤ y) ≡ q → (flag (int_lt (signed (sum (word x) (word y))) (signed (word x))) == flag (int_lt (signed (word y)) (signed (word (pos 0))))) ≡ q
sum_tested true x y h i j = sum_fits x y h i j
sum_tested false x y h i j = sum_over x y h i j

difference_tested : (q : Bool) (x y : ℤ) → IsWide x → IsWide y → is_of_precision 31 (x -ℤ y) ≡ q → (flag (int_lt (signed (word x)) (signed (operated Op.Subtract (word x) (word y)))) == flag (int_lt (signed (word y)) (signed (word (pos 0))))) ≡ q
difference_tested true x y h i j = difference_fits x y h i j
difference_tested false x y h i j = difference_over x y h i j

pub sum_piece : {links : Links} {code : List Instr} {i : ℕ} {g : Ground} {v : Services} {h t : ℕ → ℕ} {s : State} {aims : Aims ℤ} (closed : Closed code aims) (routines : Routines links code) (temps : Temporaries g) (f : Family) (around : Around) (taken : Taken) (x y : ℤ) (k : ℕ) → IsWide x → IsWide y → (is_register_left taken ≡ false → taken.words < g.words) → Linked links code i (sum_code taken) → Serving k s v around.line → ((b : Base) → At b i (Known g v h t (paired (word x) (word y)) b) (f b)) → Gone code g h t v s (i + size_of (sum_code taken)) aims → Comes code i f v aims (R.value_of around (checked 31 (x +ℤ y)) k s)
sum_piece {code = code} {i = i} {g = g} {v = v} {h = h} {t = t} {s = s} {aims = aims} closed routines temps f around taken x y k wx wy room l serving at gone =
    let front = add u2 u1 a0 ∷ registers Op.SetLess u3 u2 u1 ∷ immediate Imm.SetLess u4 a0 (pos 0) ∷ move a0 u2 ∷ [] in
    let behind = skip_where Test.Equal u3 u4 (overflow_raised taken) in
    let total = sum (word x) (word y) in
    let c = flag (int_lt (signed total) (signed (word x))) in
    let d = flag (int_lt (signed (word y)) (signed (word (pos 0)))) in
    let z = x +ℤ y in
    let r = straight i f v v (λ b. Known g v h t (compared (sum total (word (pos 0))) c d) b) (front_of front behind l) (omega arith) (λ b. (at b).pc)
    (λ b.
    let o = (at b).holds in
    let w = (f b).machine.registers in
    let e : sum (w 6) (w 10) ≡ total = ap (λ u. sum u (w 10)) o.regs.0 ∙ ap (sum (word x)) o.regs.1.0 in
    record {
      body = record { services = o.body.services; registers = o.body.registers; bytes = o.body.bytes; memory = o.body.memory };
      regs = (
        ap (λ u. sum u (word (pos 0))) e,
        (
          ap (λ u. flag (int_lt (signed u) (signed (w 6)))) e ∙ ap (λ u. flag (int_lt (signed total) (signed u))) o.regs.0,
          (ap (λ u. flag (int_lt (signed u) (signed (word (pos 0))))) o.regs.1.0, tt),
        ),
      );
    }) in
    onward closed r (λ f' at'.
    checked_by (is_of_precision 31 z) closed routines temps f' around taken z (sum total (word (pos 0))) c d k refl
    (λ e. sum_zero total (word z) (sum-word x y wx wy e) (word_small z e)) (sum_tested (is_of_precision 31 z) x y wx wy refl) room (sum_small total) (back_of front behind l) serving at'
    (λ z' f'' w at''. subst (λ n. aims.done n f'' v z' s) (omega arith) (gone z' f'' w (λ b. record { pc = (at'' b).pc ∙ ap (address b) (omega arith); holds = (at'' b).holds }))))

pub difference_piece : {links : Links} {code : List Instr} {i : ℕ} {g : Ground} {v : Services} {h t : ℕ → ℕ} {s : State} {aims : Aims ℤ} (closed : Closed code aims) (routines : Routines links code) (temps : Temporaries g) (f : Family) (around : Around) (taken : Taken) (x y : ℤ) (k : ℕ) → IsWide x → IsWide y → (is_register_left taken ≡ false → taken.words < g.words) → Linked links code i (difference_code taken) → Serving k s v around.line → ((b : Base) → At b i (Known g v h t (paired (word x) (word y)) b) (f b)) → Gone code g h t v s (i + size_of (difference_code taken)) aims → Comes code i f v aims (R.value_of around (checked 31 (x -ℤ y)) k s)
difference_piece {code = code} {i = i} {g = g} {v = v} {h = h} {t = t} {s = s} {aims = aims} closed routines temps f around taken x y k wx wy room l serving at gone =
    let front = subtract u2 u1 a0 ∷ registers Op.SetLess u3 u1 u2 ∷ immediate Imm.SetLess u4 a0 (pos 0) ∷ move a0 u2 ∷ [] in
    let behind = skip_where Test.Equal u3 u4 (overflow_raised taken) in
    let total = operated Op.Subtract (word x) (word y) in
    let c = flag (int_lt (signed (word x)) (signed total)) in
    let d = flag (int_lt (signed (word y)) (signed (word (pos 0)))) in
    let z = x -ℤ y in
    let r = straight i f v v (λ b. Known g v h t (compared (sum total (word (pos 0))) c d) b) (front_of front behind l) (omega arith) (λ b. (at b).pc)
    (λ b.
    let o = (at b).holds in
    let w = (f b).machine.registers in
    let e : operated Op.Subtract (w 6) (w 10) ≡ total = ap (λ u. operated Op.Subtract u (w 10)) o.regs.0 ∙ ap (operated Op.Subtract (word x)) o.regs.1.0 in
    record {
      body = record { services = o.body.services; registers = o.body.registers; bytes = o.body.bytes; memory = o.body.memory };
      regs = (
        ap (λ u. sum u (word (pos 0))) e,
        (
          ap (λ u. flag (int_lt (signed (w 6)) (signed u))) e ∙ ap (λ u. flag (int_lt (signed u) (signed total))) o.regs.0,
          (ap (λ u. flag (int_lt (signed u) (signed (word (pos 0))))) o.regs.1.0, tt),
        ),
      );
    }) in
    onward closed r (λ f' at'.
    checked_by (is_of_precision 31 z) closed routines temps f' around taken z (sum total (word (pos 0))) c d k refl
    (λ e. sum_zero total (word z) (difference-word x y wx wy e) (word_small z e)) (difference_tested (is_of_precision 31 z) x y wx wy refl) room (sum_small total) (back_of front behind l) serving at'
    (λ z' f'' w at''. subst (λ n. aims.done n f'' v z' s) (omega arith) (gone z' f'' w (λ b. record { pc = (at'' b).pc ∙ ap (address b) (omega arith); holds = (at'' b).holds }))))

-- ---- signs

-- a number and its register beside the least word
abbrev pub negated : (x c : ℕ) → Base → List (ℕ × ℕ)
negated x c b = (10, x) ∷ (6, c) ∷ []

negated_tested : (q : Bool) (x : ℤ) → IsWide x → is_of_precision 31 (neg_ℤ x) ≡ q → (if word (neg_ℤ x) == least_word then false else true) ≡ q
negated_tested true x h i = ap (λ u. if u then false else true) (negated_fits x h i)
negated_tested false x h i = ap (λ u. if u then false else true) (negated_over x h i)

negated_small : (x : ℤ) → IsWide x → word (neg_ℤ x) < 2 ^ 32
negated_small x h = let e = negated-word x h in omega (arith, e)

-- a value whose word is the least one without being the least number overflows
pub lowest_by : {links : Links} {code : List Instr} {i : ℕ} {g : Ground} {v : Services} {h t : ℕ → ℕ} {s : State} {aims : Aims ℤ} (q : Bool) (closed : Closed code aims) (routines : Routines links code) (temps : Temporaries g) (f : Family) (around : Around) (taken : Taken) (z : ℤ) (k : ℕ) → word z < 2 ^ 32 → is_of_precision 31 z ≡ q → (if word z == least_word then false else true) ≡ q → (is_register_left taken ≡ false → taken.words < g.words) → Linked links code i (skip_where Test.NotEqual a0 u1 (overflow_raised taken)) → Serving k s v around.line → ((b : Base) → At b i (Known g v h t (negated (word z) least_word) b) (f b)) → Gone code g h t v s (i + (1 + size_of (overflow_raised taken))) aims → Comes code i f v aims (R.value_of around (checked 31 z) k s)
unfolding ◌>>◌
lowest_by {g = g} {v = v} {h = h} {t = t} {s = s} true closed routines temps f around taken z k small' e test room l serving at gone =
    let r = skip_taken _ f Test.NotEqual a0 u1 (overflow_raised taken) l at (λ b. let o = (at b).holds.regs in ap (λ u. if u == (f b).machine.registers 6 then false else true) o.0 ∙ ap (λ u. if word z == u then false else true) o.1.0 ∙ test) in
    onward closed r (λ f' at'. after_fit around z k s e (gone z f' e (λ b. record { pc = (at' b).pc; holds = record { body = (at' b).holds.body; regs = ((at' b).holds.regs.0, tt) } })))
lowest_by {g = g} {v = v} {h = h} {t = t} {s = s} false closed routines temps f around taken z k small' e test room l serving at gone =
    let r = skip_passed _ f Test.NotEqual a0 u1 (overflow_raised taken) l at (λ b. let o = (at b).holds.regs in ap (λ u. if u == (f b).machine.registers 6 then false else true) o.0 ∙ ap (λ u. if word z == u then false else true) o.1.0 ∙ test) in
    let next' : Unit {0} → Meaning ℤ = λ u. give (wrapped 31 z) in
    after_raise around z k s e
    (onward closed r (λ f' at'.
    comes_on k (R.raised around C.FixedOverflow 20 k s) next'
    (overflow_piece (before_closed k next' closed) routines temps f' around taken (word z) k room small' (rest_of _ (overflow_raised taken) l) serving (λ b. record { pc = (at' b).pc; holds = record { body = (at' b).holds.body; regs = ((at' b).holds.regs.0, tt) } }))))

pub signed_piece : {links : Links} {code : List Instr} {i : ℕ} {g : Ground} {v : Services} {h t : ℕ → ℕ} {s : State} {aims : Aims ℤ} (sign : Y.Sign) (closed : Closed code aims) (routines : Routines links code) (temps : Temporaries g) (f : Family) (around : Around) (taken : Taken) (x : ℤ) (k : ℕ) → IsWide x → (is_register_left taken ≡ false → taken.words < g.words) → Linked links code i (signed_code taken sign) → Serving k s v around.line → ((b : Base) → At b i (Known g v h t (valued (word x)) b) (f b)) → Gone code g h t v s (i + size_of (signed_code taken sign)) aims → Comes code i f v aims (R.value_of around (sign_applied sign x) k s)
signed_piece {i = i} {v = v} {s = s} {aims = aims} Y.Positive closed routines temps f around taken x k wx room l serving at gone =
    let e : i + 0 ≡ i = omega arith in
    after_fit around x k s wx (subst (λ n. aims.done n f v x s) e (gone x f wx (λ b. record { pc = (at b).pc ∙ ap (address b) (sym e); holds = (at b).holds })))
signed_piece {code = code} {i = i} {g = g} {v = v} {h = h} {t = t} {s = s} {aims = aims} Y.Negative closed routines temps f around taken x k wx room l serving at gone =
    let front = subtract a0 zero_register a0 ∷ lowest_number u1 ∷ [] in
    let behind = skip_where Test.NotEqual a0 u1 (overflow_raised taken) in
    let r = straight i f v v (λ b. Known g v h t (negated (word (neg_ℤ x)) least_word) b) (front_of front behind l) (omega arith) (λ b. (at b).pc)
    (λ b.
    let o = (at b).holds in
    let w = (f b).machine.registers in
    record {
      body = record { services = o.body.services; registers = o.body.registers; bytes = o.body.bytes; memory = o.body.memory };
      regs = (ap (λ u. operated Op.Subtract u (w 10)) (zero_is o.body) ∙ ap (operated Op.Subtract 0) o.regs.0 ∙ negated-word x wx, (refl, tt));
    }) in
    onward closed r (λ f' at'.
    lowest_by (is_of_precision 31 (neg_ℤ x)) closed routines temps f' around taken (neg_ℤ x) k (negated_small x wx) refl (negated_tested (is_of_precision 31 (neg_ℤ x)) x wx refl) room (back_of front behind l) serving at'
    (λ z' f'' w at''. subst (λ n. aims.done n f'' v z' s) (omega arith) (gone z' f'' w (λ b. record { pc = (at'' b).pc ∙ ap (address b) (omega arith); holds = (at'' b).holds }))))
