-- Remainders of words: MOD is never negative.
use Rattle.std.proofs.Common.{◌≡◌, ℕ, zero, suc, ◌-◌, ◌%◌, ◌^◌, ◌<◌, ◌≤◌, Bool, true, false, refl, sym, ap, ◌∙◌, arith}
use Rattle.std.specs.Prelude.{ℤ, pos, negsuc, neg_ℤ, nat_abs, int_rem, int_lt, ◌==◌, cond, if◌then◌else◌}
use Rattle.std.proofs.Math.Nat.{mod-lt, mod-le, mod_self, mod-eq_of_lt, suc-mod}
use Rattle.std.proofs.lemmas.Int.{ints}
use Rattle.std.proofs.lemmas.Bool.{eqb-true}
use Rattle.std.proofs.lemmas.Bool.Decides.{nat_tests}
use Rattle.rv_meaning.specs.Words.{word, signed, sum, operated}
use Rattle.rv_meaning.specs.declared.instr.RegisterOp.TheVariants as Op
use Rattle.pli_meaning.specs.Numbers.{residue}
use Rattle.pli_meaning.specs.Contents.{same_int}
use Rattle.run_steps.specs.Numbers.{IsWide}
use Rattle.pli_headline.proofs.WordProducts.{signed_word}
use Rattle.pli_headline.proofs.WordQuotients.{other_word}
use Rattle.pli_headline.proofs.WordSigns.{absolute_most}

pub remainder-word : (x y : ℤ) → IsWide x → IsWide y → same_int y (pos 0) ≡ false → operated Op.Remainder (word x) (word y) ≡ word (int_rem x y)
remainder-word x y wx wy h =
    ap (λ u. if u then word x else word (int_rem (signed (word x)) (signed (word y)))) (other_word y wy h)
    ∙ ap (λ u. word (int_rem u (signed (word y)))) (signed_word x wx)
    ∙ ap (λ u. word (int_rem x u)) (signed_word y wy)

opposite_wide : (m : ℕ) → m ≤ 2 ^ 31 → IsWide (neg_ℤ (pos m))
opposite_wide zero h = refl
opposite_wide (suc m) h = grind (arith, nat_tests)

pub remainder_wide : (x y : ℤ) → IsWide x → IsWide (int_rem x y)
remainder_wide (pos a) y w = let l = mod-le a (nat_abs y) in grind (arith, nat_tests)
remainder_wide (negsuc a) y w =
    let l = mod-le (suc a) (nat_abs y) in
    opposite_wide (suc a % nat_abs y) (grind (arith, nat_tests))

pub size_positive : (y : ℤ) → same_int y (pos 0) ≡ false → 0 < nat_abs y
size_positive (pos zero) h = absurd (cc h)
size_positive (pos (suc n)) h = omega arith
size_positive (negsuc n) h = omega arith

-- the next number's remainder is one more, or 0
next_by : (q : Bool) (n m : ℕ) → 0 < m → (suc (n % m) == m) ≡ q → suc n % m ≡ cond q 0 (suc (n % m))
next_by true n m h e = suc-mod n m ∙ ap (λ u. u % m) (eqb-true (suc (n % m)) m e) ∙ mod_self m
next_by false n m h e =
    let l : n % m < m = mod-lt n h in
    let f : suc (n % m) < m = grind (arith, nat_tests) in
    suc-mod n m ∙ mod-eq_of_lt f

-- a remainder is what MOD gives, or less by the divisor's size
abbrev pub RemainderIs : (negative : Bool) → (x y : ℤ) → Type 0
RemainderIs true x y = sum (word (int_rem x y)) (nat_abs y) ≡ residue (nat_abs y) x
RemainderIs false x y = word (int_rem x y) ≡ residue (nat_abs y) x

below_zero : (r m : ℕ) → 0 < r → r < m → m ≤ 2 ^ 31 → (sum (word (neg_ℤ (pos r))) m ≡ m - 1 - (r - 1)) × (int_lt (neg_ℤ (pos r)) (pos 0) ≡ true)
below_zero zero m p h i = absurd (omega (arith, p))
below_zero (suc r) m p h i = (omega (arith, ints, h, i), refl)

by_next : (q : Bool) (t : Bool) (a : ℕ) (m : ℕ) → 0 < m → m ≤ 2 ^ 31 → (suc (a % m) == m) ≡ q → int_lt (neg_ℤ (pos (suc a % m))) (pos 0) ≡ t → cond t (sum (word (neg_ℤ (pos (suc a % m)))) m ≡ m - 1 - a % m) (word (neg_ℤ (pos (suc a % m))) ≡ m - 1 - a % m)
by_next true true a m p i e f =
    let z = next_by true a m p e in
    absurd (cc (sym (ap (λ u. int_lt (neg_ℤ (pos u)) (pos 0)) z) ∙ f))
by_next true false a m p i e f =
    let z = next_by true a m p e in
    let s = eqb-true (suc (a % m)) m e in
    ap (λ u. word (neg_ℤ (pos u))) z ∙ omega (arith, s)
by_next false true a m p i e f =
    let z = next_by false a m p e in
    let l = mod-lt (suc a) p in
    let b = below_zero (suc a % m) m (omega (arith, z)) l i in
    b.0 ∙ omega (arith, z)
by_next false false a m p i e f =
    let z = next_by false a m p e in
    let l = mod-lt (suc a) p in
    let b = below_zero (suc a % m) m (omega (arith, z)) l i in
    absurd (cc (sym f ∙ b.1))

pub remainder_is : (t : Bool) (x y : ℤ) → IsWide y → same_int y (pos 0) ≡ false → int_lt (int_rem x y) (pos 0) ≡ t → RemainderIs t x y
remainder_is true (pos a) y wy h e = absurd (grind (arith, nat_tests))
remainder_is false (pos a) y wy h e = refl
remainder_is true (negsuc a) y wy h e = by_next (suc (a % nat_abs y) == nat_abs y) true a (nat_abs y) (size_positive y h) (absolute_most y wy) refl e
remainder_is false (negsuc a) y wy h e = by_next (suc (a % nat_abs y) == nat_abs y) false a (nat_abs y) (size_positive y h) (absolute_most y wy) refl e

pub modulo_wide : (x y : ℤ) → IsWide y → same_int y (pos 0) ≡ false → IsWide (pos (residue (nat_abs y) x))
modulo_wide (pos a) y wy h =
    let l = mod-lt a (size_positive y h) in
    let m = absolute_most y wy in
    grind (arith, nat_tests)
modulo_wide (negsuc a) y wy h =
    let p = size_positive y h in
    let m = absolute_most y wy in
    grind (arith, nat_tests)
