-- A constant added to the value in a0, with its overflow.
use Rattle.std.proofs.Common.{◌≡◌, ℕ, ◌+◌, ◌^◌, ◌<◌, List, [], ◌∷◌, ◌++◌, Bool, true, false, refl, sym, ap, ◌∙◌}
use Rattle.std.proofs.Common.{subst, arith}
use Rattle.std.specs.Prelude.{ℤ, pos, ◌+ℤ◌, int_lt, ◌==◌, if◌then◌else◌}
use Rattle.pli_language.specs.declared.condition.Condition.TheVariants as C
use Rattle.rv_meaning.specs.declared.instr.Instr.{Instr}
use Rattle.rv_meaning.specs.declared.instr.BranchTest.{BranchTest}
use Rattle.rv_meaning.specs.declared.instr.BranchTest.TheVariants as Test
use Rattle.rv_meaning.specs.Words.{word, signed, sum, flag, holds_of}
use Rattle.pli_meaning.specs.Numbers.{is_of_precision, wrapped, checked}
use Rattle.pli_meaning.specs.StorageState.{State}
use Rattle.pli_meaning.specs.Control.{Meaning, give, ◌>>◌}
use Rattle.pli_meaning.specs.Raising as R
use Rattle.pli_meaning.specs.Raising.{Around}
use Rattle.pli_serving.specs.ServiceState.{Services}
use Rattle.pli_coding.specs.Registers.{a0, u1}
use Rattle.pli_coding.specs.Assembly.{size_of}
use Rattle.pli_coding.specs.Instructions.{move, plus, skip_where}
use Rattle.pli_coding.specs.Environments.{Taken, is_register_left}
use Rattle.pli_coding.specs.Arithmetic.{overflow_raised, order_of_sum, constant_added}
use Rattle.pli_coding.specs.Linking.{Links}
use Rattle.run_steps.specs.Engine.{Base, address}
use Rattle.run_steps.proofs.Linking.{size_append}
use Rattle.run_steps.specs.Items.{Linked, At}
use Rattle.run_steps.proofs.Items.{straight}
use Rattle.run_steps.specs.Numbers.{IsWide, sum_test}
use Rattle.run_steps.proofs.Numbers.{word_small, sum-word, sum_fits, sum_over}
use Rattle.pli_headline.proofs.WordProducts.{signed_word}
use Rattle.run_steps.specs.Bodies.{Ground, Known}
use Rattle.run_steps.proofs.Bodies.{plus_piece}
use Rattle.run_steps.proofs.Jumps.{rest_of, front_of, back_of, skip_taken, skip_passed}
use Rattle.run_steps.specs.Temporaries.{Temporaries}
use Rattle.pli_headline.proofs.Serving.{Serving}
use Rattle.pli_headline.proofs.Raising.{Routines}
use Rattle.pli_headline.proofs.Operators.{valued, Gone, overflow_piece, after_raise, after_fit, sum_zero}
use Rattle.run_steps.specs.Reach.{Family, Aims, Comes, Closed}
use Rattle.run_steps.proofs.Reach.{before_closed, comes_on, onward}

-- ---- what the order of a sum and its left operand tells

below_tells : (p q : Bool) → (flag p == flag true) ≡ q → p ≡ q
below_tells true q e = e
below_tells false q e = e

above_tells : (p q : Bool) → (flag p == flag false) ≡ q → (if p then false else true) ≡ q
above_tells true q e = e
above_tells false q e = e

tested_as : (x z : ℤ) (q : Bool) → IsWide x → IsWide z → is_of_precision 31 (x +ℤ z) ≡ q → sum_test (word x) (word z)
    ≡ q
tested_as x z true wx wz e = sum_fits x z wx wz e
tested_as x z false wx wz e = sum_over x z wx wz e

order_tells : (falls : Bool) (x z : ℤ) → IsWide x → IsWide z → int_lt z (pos 0) ≡ falls
    → holds_of (if falls then Test.Less else Test.GreaterOrEqual) (sum (word x) (word z)) (word x)
    ≡ is_of_precision 31 (x +ℤ z)
order_tells falls x z wx wz e =
    by_sign falls (sym (ap (λ u. flag p == flag u) (ap (λ u. int_lt u (pos 0)) (signed_word z wz) ∙ e))
    ∙ tested_as x z q wx wz refl)
  where
    p : Bool
    p = int_lt (signed (sum (word x) (word z))) (signed (word x))

    q : Bool
    q = is_of_precision 31 (x +ℤ z)

    by_sign : (falls' : Bool) → (flag p == flag falls') ≡ q
        → holds_of (if falls' then Test.Less else Test.GreaterOrEqual) (sum (word x) (word z)) (word x) ≡ q
    by_sign true h = below_tells p q h
    by_sign false h = above_tells p q h

-- ---- the sum

-- a left operand in u1, and beside it the sum in a0
abbrev before_sum : ℕ → Base → List (ℕ × ℕ)
before_sum y b = (6, y) ∷ []

abbrev summed : (x y : ℕ) → Base → List (ℕ × ℕ)
summed x y b = (10, x) ∷ (6, y) ∷ []

-- a0 and u1 are compared: where the test holds the value in a0 fits, else it overflows
ordered_by : {links : Links} {code : List Instr} {i : ℕ} {g : Ground} {v : Services} {h t : ℕ → ℕ} {s : State} {aims :
    Aims ℤ} (q : Bool) (closed : Closed code aims) (routines : Routines links code) (temps : Temporaries g) (f :
    Family) (around : Around) (taken : Taken) (test : BranchTest) (z : ℤ) (x y k : ℕ) → is_of_precision 31 z ≡ q
    → (q ≡ true → x ≡ word z) → holds_of test x y ≡ q → (is_register_left taken ≡ false → taken.words < g.words)
    → x < 2 ^ 32 → Linked links code i (skip_where test a0 u1 (overflow_raised taken)) → Serving k s v around.line
    → ((b : Base) → At b i (Known g v h t (summed x y) b) (f b))
    → Gone code g h t v s (i + (1 + size_of (overflow_raised taken))) aims
    → Comes code i f v aims (R.value_of around (checked 31 z) k s)
unfolding ◌>>◌
ordered_by {i = i} {s = s} true closed routines temps f around taken test z x y k e value holds room fits l serving at
    gone =
    let r = skip_taken i f test a0 u1 (overflow_raised taken) l at (λ b. let o =
    (at b).holds.regs in ap (λ u. holds_of test u ((f b).machine.registers 6)) o.0 ∙ ap (holds_of test x) o.1.0
    ∙ holds) in
    onward closed r
    (λ f' at'. after_fit around z k s e
    (gone z f' e (λ b. record {
      pc = (at' b).pc;
      holds = record {
        body = (at' b).holds.body;
        regs =
            ((at' b).holds.regs.0 ∙ value refl, tt);
      };
    })))
ordered_by {i = i} {s = s} false closed routines temps f around taken test z x y k e value holds room fits l serving
    at gone =
    let r = skip_passed i f test a0 u1 (overflow_raised taken) l at (λ b. let o =
    (at b).holds.regs in ap (λ u. holds_of test u ((f b).machine.registers 6)) o.0 ∙ ap (holds_of test x) o.1.0
    ∙ holds) in
    let next' : Unit {0} → Meaning ℤ = λ u. give (wrapped 31 z) in
    after_raise around z k s e
    (onward closed r (λ f' at'.
    comes_on k (R.raised around C.FixedOverflow 20 k s) next'
    (overflow_piece (before_closed k next' closed) routines temps f' around taken x k room fits
    (rest_of _ (overflow_raised taken) l) serving (λ b. record {
      pc = (at' b).pc;
      holds =
          record { body = (at' b).holds.body; regs = ((at' b).holds.regs.0, tt) };
    }))))

sum_bounded : (x y : ℕ) → sum x y < 2 ^ 32
sum_bounded x y = omega arith

pub constant_piece : {links : Links} {code : List Instr} {i : ℕ} {g : Ground} {v : Services} {h t : ℕ → ℕ} {s :
    State} {aims : Aims ℤ} (closed : Closed code aims) (routines : Routines links code) (temps : Temporaries g) (f :
    Family) (around : Around) (taken : Taken) (x y : ℤ) (k : ℕ) → IsWide x → IsWide y
    → (is_register_left taken ≡ false → taken.words < g.words) → Linked links code i (constant_added taken y)
    → Serving k s v around.line → ((b : Base) → At b i (Known g v h t (valued (word x)) b) (f b))
    → Gone code g h t v s (i + size_of (constant_added taken y)) aims
    → Comes code i f v aims (R.value_of around (checked 31 (x +ℤ y)) k s)
constant_piece {i = i} {g = g} {v = v} {h = h} {t = t} {s = s} {aims = aims} closed routines temps f around taken x y
    k wx wy room l serving at gone =
    let first = move u1 a0 ∷ [] in
    let added = plus a0 u1 y in
    let behind = skip_where (order_of_sum y) a0 u1 (overflow_raised taken) in
    let total = sum (word x) (word y) in
    let z = x +ℤ y in
    let q = is_of_precision 31 z in
    let l2 = back_of first (added ++ behind) l in
    let size = size_append added behind in
    let place : i + 1 + size_of added + (1 + size_of (overflow_raised taken)) ≡ i + size_of (constant_added taken y) =
    omega (arith, size) in
    onward closed (straight i f v v (λ b. Known g v h t (before_sum (word x)) b) (front_of first (added ++ behind) l)
    (omega arith) (λ b. (at b).pc)
    (λ b. let o = (at b).holds in record {
      body = record {
        services = o.body.services;
        registers = o.body.registers;
        bytes = o.body.bytes;
        memory =
            o.body.memory;
      };
      regs = (sum_zero _ (word x) o.regs.0 (word_small x wx), tt);
    }))
    (λ f1 at1.
    onward closed (plus_piece (i + 1) f1 a0 u1 y (λ b. word x) (λ b. total) (word_small y wy) (λ b. word_small x wx)
    (λ u n. refl) (λ b w o. o.regs.0) (λ b. refl) (record {
      reserved_stay = λ u n. refl;
      known_stay =
          λ b u n o. o;
      set = λ u n. refl;
    }) (record {
      reserved_stay = λ u n. refl;
      known_stay = λ b u n o. o;
      set =
          λ u n. refl;
    }) (front_of added behind l2) at1)
    (λ f2 at2.
    ordered_by q closed routines temps f2 around taken (order_of_sum y) z total (word x) k refl
    (λ e. sum-word x y wx wy e) (order_tells (int_lt y (pos 0)) x y wx wy refl) room
    (sum_bounded (word x) (word y)) (back_of added behind l2) serving at2
    (λ z' f3 w at3. subst (λ n. aims.done n f3 v z' s) (sym place)
    (gone z' f3 w (λ b. record { pc = (at3 b).pc ∙ ap (address b) place; holds = (at3 b).holds })))))
