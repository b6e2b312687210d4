-- The lowest bits of a word, with their sign, are those of its number, cut to so many bits.
use Rattle.std.proofs.Common.{◌≡◌, ℕ, suc, ◌+◌, ◌-◌, ◌*◌, ◌/◌, ◌%◌, ◌^◌, ◌<◌, ◌≤◌, Bool, true, false, refl, sym, ap, ◌∙◌}
use Rattle.std.proofs.Common.{arith}
use Rattle.std.specs.Prelude.{ℤ, cond, nat_lt, negsuc, pos}
use Rattle.std.proofs.Math.Nat.{add-mul, div-lt_iff_lt-mul, mod-lt, mul-div_cancel, mul-le-mul, mul-lt-mul_of_pos_right}
use Rattle.std.proofs.lemmas.Bool.Decides.{nat_tests}
use Rattle.std.proofs.lemmas.Int.{ints}
use Rattle.std.proofs.lemmas.Nat.{div-add-mod', div-mul-add, mod-mul-add, pow-add, pow_pos}
use Rattle.rv_meaning.specs.Words.{shifted_down, shifted_right_signed, signed, word}
use Rattle.pli_meaning.specs.Numbers.{is_of_precision, residue, wrapped}
use Rattle.pli_headline.proofs.WordPrecisions.{IsWord, narrowed}

doubled : (p : ℕ) → 2 ^ (p + 1) ≡ 2 ^ p * 2
doubled p = pow-add 2 p 1

-- ---- the word's lowest bits

-- so many bits are of the word what they are of the number
residue_of_word :
    (m n : ℕ) (z : ℤ) → 0 < n → m * n ≡ 2 ^ 32 → IsWord z → word z % n ≡ residue n z
residue_of_word m n (pos x) some all is =
    let e : word (pos x) ≡ x = omega (arith, is) in
    ap (λ u. u % n) e
residue_of_word m n (negsuc x) some all is =
    let q = x / n in
    let s = x % n in
    let split : q * n + s ≡ x = div-add-mod' x n in
    let less : s < n = mod-lt x some in
    let few : q < m = (div-lt_iff_lt-mul some).1 (omega (arith, all, is)) in
    let d = m - (q + 1) in
    let whole : m ≡ d + (q + 1) = omega (arith, few) in
    let parts : m * n ≡ d * n + (q + 1) * n = ap (λ u. u * n) whole ∙ add-mul d (q + 1) n in
    let next : (q + 1) * n ≡ q * n + n = omega arith in
    let e : word (negsuc x) ≡ d * n + (n - 1 - s) = omega (arith, split, less, parts, next, all, is) in
    ap (λ u. u % n) e ∙ mod-mul-add d n (n - 1 - s) (omega (arith, less))

-- those that are shifted out are lost
shifted_rest : (m n w : ℕ) → 0 < m → 0 < n → m * n ≡ 2 ^ 32 → w * m % 2 ^ 32 ≡ (w % n) * m
shifted_rest m n w some few all =
    let q = w / n in
    let r = w % n in
    let split : q * n + r ≡ w = div-add-mod' w n in
    let less : r < n = mod-lt w few in
    let below : r * m < n * m = mul-lt-mul_of_pos_right less some in
    let product : w * m ≡ (q * n) * m + r * m = ap (λ u. u * m) (sym split) ∙ add-mul (q * n) r m in
    let both : (q * n) * m ≡ q * (m * n) = omega arith in
    let e : w * m ≡ q * 2 ^ 32 + r * m = product ∙ ap (λ u. u + r * m) (both ∙ ap (λ u. q * u) all) in
    ap (λ u. u % 2 ^ 32) e ∙ mod-mul-add q (2 ^ 32) (r * m) (omega (arith, below, all))

signed_low : (x : ℕ) → x < 2 ^ 31 → signed x ≡ pos x
signed_low x h = grind (arith, ints, nat_tests)

signed_high : (x : ℕ) → 2 ^ 31 ≤ x → x < 2 ^ 32 → signed x ≡ negsuc (2 ^ 32 - suc x)
signed_high x h i = grind (arith, ints, nat_tests)

-- shifted back, they are the number that they are
shifted_back :
    (k p m r : ℕ) (q : Bool) → 2 ^ k ≡ m → m * 2 ^ p ≡ 2 ^ 31 → 0 < m → r < 2 ^ (p + 1) → nat_lt r (2 ^ p) ≡ q →
    shifted_down (signed (r * m)) k ≡ cond q (pos r) (negsuc (2 ^ (p + 1) - 1 - r))
shifted_back k p m r true power all some less e =
    let low : r < 2 ^ p = grind (arith, nat_tests) in
    let below : r * m < 2 ^ p * m = mul-lt-mul_of_pos_right low some in
    ap (λ z. shifted_down z k) (signed_low (r * m) (omega (arith, below, all)))
    ∙ ap (λ u. pos (r * m / u)) power ∙ ap pos (mul-div_cancel r some)
shifted_back k p m r false power all some less e =
    let high : 2 ^ p ≤ r = grind (arith, nat_tests) in
    let n = 2 ^ (p + 1) in
    let twice : n ≡ 2 ^ p * 2 = doubled p in
    let whole : n * m ≡ 2 ^ 32 = ap (λ u. u * m) twice ∙ omega (arith, all) in
    let below : r * m < n * m = mul-lt-mul_of_pos_right less some in
    let d = n - 1 - r in
    let rest : n ≡ d + (r + 1) = omega (arith, less) in
    let parts : n * m ≡ d * m + (r + 1) * m = ap (λ u. u * m) rest ∙ add-mul d (r + 1) m in
    let next : (r + 1) * m ≡ r * m + m = omega arith in
    let grown : 2 ^ p * m ≤ r * m = mul-le-mul high (omega arith) in
    let above : 2 ^ 31 ≤ r * m = omega (arith, all, grown) in
    let f : 2 ^ 32 - suc (r * m) ≡ d * m + (m - 1) = omega (arith, parts, next, whole, below, some) in
    ap (λ z. shifted_down z k) (signed_high (r * m) above (omega (arith, below, whole)))
    ∙ ap (λ u. negsuc ((2 ^ 32 - suc (r * m)) / u)) power ∙ ap (λ u. negsuc (u / m)) f
    ∙ ap negsuc (div-mul-add d m (m - 1) (omega (arith, some)))

-- ---- the number

-- what is left of it is the number cut to so many bits
pub narrowed_word :
    (p : ℕ) (z : ℤ) → p < 31 → IsWord z → narrowed (31 - p) (word z) ≡ word (wrapped p z)
narrowed_word p z less is =
    let k = 31 - p in
    let m = 2 ^ k in
    let n = 2 ^ (p + 1) in
    let r = residue n z in
    let total : k + p ≡ 31 = omega (arith, less) in
    let all : m * 2 ^ p ≡ 2 ^ 31 = sym (pow-add 2 k p) ∙ ap (λ u. 2 ^ u) total in
    let twice : n ≡ 2 ^ p * 2 = doubled p in
    let whole : m * n ≡ 2 ^ 32 = ap (λ u. m * u) twice ∙ omega (arith, all) in
    let some : 0 < m = pow_pos k in
    let few : 0 < n = pow_pos (p + 1) in
    let lowest : word z % n ≡ r = residue_of_word m n z few whole is in
    let bounded : word z % n < n = mod-lt (word z) few in
    ap (λ x. shifted_right_signed x k)
    (shifted_rest m n (word z) some few whole ∙ ap (λ u. u * m) lowest)
    ∙ ap word (shifted_back k p m r (nat_lt r (2 ^ p)) refl all some (omega (arith, lowest, bounded)) refl)

-- and has no more
pub wrapped_fits : (p : ℕ) (z : ℤ) → is_of_precision p (wrapped p z) ≡ true
wrapped_fits p z = by (nat_lt r (2 ^ p)) refl
  where
    n : ℕ
    n = 2 ^ (p + 1)

    r : ℕ
    r = residue n z

    bounded : (z : ℤ) → residue n z < n
    bounded (pos x) = mod-lt x (pow_pos (p + 1))
    bounded (negsuc x) =
        let less : x % n < n = mod-lt x (pow_pos (p + 1)) in
        omega (arith, less)

    by : (q : Bool) → nat_lt r (2 ^ p) ≡ q →
        is_of_precision p (cond q (pos r) (negsuc (n - 1 - r))) ≡ true
    by true e = e
    by false e =
        let twice : n ≡ 2 ^ p * 2 = doubled p in
        let few : r < n = bounded z in
        let less : n - 1 - r < 2 ^ p = grind (arith, nat_tests) in
        grind (arith, nat_tests)
