-- A bit of a byte by shifts and masks.
use Rattle.std.proofs.Common.{◌≡◌, ℕ, zero, suc, ◌+◌, ◌-◌, ◌*◌, ◌/◌, ◌%◌, ◌^◌, ◌<◌, refl, ap, ◌∙◌, arith, bit_and}
use Rattle.std.proofs.Common.{bit_or}
use Rattle.std.proofs.Math.Nat.{pow-suc}
use Rattle.std.proofs.lemmas.Nat.{and_le_r, and_comm, and_block, or_block, or_disjoint, and-not, pow_below}
use Rattle.free_keeper.specs.Bits.{bit, with_bit}

pub bit_quotient : (k b : ℕ) → k < 8 → bit k b ≡ b / 2 ^ k % 2
bit_quotient zero b h = omega arith
bit_quotient (suc zero) b h = omega arith
bit_quotient (suc (suc zero)) b h = omega arith
bit_quotient (suc (suc (suc zero))) b h = omega arith
bit_quotient (suc (suc (suc (suc zero)))) b h = omega arith
bit_quotient (suc (suc (suc (suc (suc zero))))) b h = omega arith
bit_quotient (suc (suc (suc (suc (suc (suc zero)))))) b h = omega arith
bit_quotient (suc (suc (suc (suc (suc (suc (suc zero))))))) b h = omega arith
bit_quotient (suc (suc (suc (suc (suc (suc (suc (suc k)))))))) b h = absurd (omega (arith, h))

or_zero : (x : ℕ) → bit_or x 0 ≡ x
or_zero x =
    let z = and_le_r x 0 in
    let e : bit_and x 0 ≡ 0 = omega (arith, z) in
    or_disjoint x 0 e ∙ omega arith

halves : (b : ℕ) → b ≡ b / 2 * 2 ^ 1 + b % 2
halves b = omega arith

low : (b : ℕ) → b % 2 < 2 ^ 1
low b = omega arith

or_low : (x : ℕ) → x < 2 → bit_or x 1 ≡ 1
or_low zero h = refl
or_low (suc zero) h = refl
or_low (suc (suc x)) h = absurd (omega (arith, h))

pub bit_or_set : (k b : ℕ) → bit_or b (2 ^ k) ≡ with_bit k 1 b
bit_or_set zero b =
    let e : bit_or (b / 2 * 2 ^ 1 + b % 2) (0 * 2 ^ 1 + 1) ≡ bit_or (b / 2) 0 * 2 ^ 1 + bit_or (b % 2) 1 =
    or_block 1 (b / 2) 0 (b % 2) 1 (low b) (omega arith)
    in
    let x = or_zero (b / 2) in
    let y = or_low (b % 2) (omega arith) in
    let z : bit_or (b / 2) 0 * 2 ^ 1 + bit_or (b % 2) 1 ≡ 1 + 2 * (b / 2) = omega (arith, x, y) in
    ap (λ n. bit_or n 1) (halves b) ∙ (e ∙ z)
bit_or_set (suc k) b =
    let p : 2 ^ suc k ≡ 2 ^ k * 2 ^ 1 + 0 = pow-suc 2 k ∙ omega arith in
    let e = or_block 1 (b / 2) (2 ^ k) (b % 2) 0 (low b) (omega arith) in
    let x = or_zero (b % 2) in
    let r = bit_or_set k (b / 2) in
    let z : bit_or (b / 2) (2 ^ k) * 2 ^ 1 + bit_or (b % 2) 0 ≡ b % 2 + 2 * with_bit k 1 (b / 2) = omega (arith, x, r)
    in
    ap (λ n. bit_or n (2 ^ suc k)) (halves b) ∙ (ap (λ n. bit_or (b / 2 * 2 ^ 1 + b % 2) n) p ∙ (e ∙ z))

-- what a mask takes is what the byte loses
and_low : (x : ℕ) → x < 2 → bit_and 1 x ≡ x
and_low zero h = refl
and_low (suc zero) h = refl
and_low (suc (suc x)) h = absurd (omega (arith, h))

and_zero : (x : ℕ) → bit_and 0 x ≡ 0
and_zero x = let z = and_le_r x 0 in let c = and_comm 0 x in omega (arith, z, c)

cleared : (k b : ℕ) → with_bit k 0 b + bit_and (2 ^ k) b ≡ b
cleared zero b =
    let e : bit_and (0 * 2 ^ 1 + 1) (b / 2 * 2 ^ 1 + b % 2) ≡ bit_and 0 (b / 2) * 2 ^ 1 + bit_and 1 (b % 2) =
    and_block 1 0 (b / 2) 1 (b % 2) (omega arith) (low b)
    in
    let x = and_zero (b / 2) in
    let y = and_low (b % 2) (omega arith) in
    let h : bit_and 1 b ≡ bit_and 1 (b / 2 * 2 ^ 1 + b % 2) = ap (λ n. bit_and 1 n) (halves b) in
    omega (arith, e, x, y, h)
cleared (suc k) b =
    let p : 2 ^ suc k ≡ 2 ^ k * 2 ^ 1 + 0 = pow-suc 2 k ∙ omega arith in
    let e = and_block 1 (2 ^ k) (b / 2) 0 (b % 2) (omega arith) (low b) in
    let x = and_zero (b % 2) in
    let r = cleared k (b / 2) in
    let h : bit_and (2 ^ suc k) b ≡ bit_and (2 ^ k * 2 ^ 1 + 0) (b / 2 * 2 ^ 1 + b % 2) =
    ap (λ n. bit_and n b) p ∙ ap (λ n. bit_and (2 ^ k * 2 ^ 1 + 0) n) (halves b)
    in
    omega (arith, e, x, r, h)

pub bit_and_cleared : (k b : ℕ) → k < 8 → b < 256 → bit_and b (2 ^ 8 - 1 - 2 ^ k) ≡ with_bit k 0 b
bit_and_cleared k b h l =
    let p : 2 ^ k < 2 ^ 8 = pow_below k 8 h in
    let e = and-not 8 (2 ^ k) b p l in
    let c = cleared k b in
    let m = and_comm b (2 ^ 8 - 1 - 2 ^ k) in
    omega (arith, e, c, m)

pub shifted : (k : ℕ) → k < 8 → 1 * 2 ^ k % 256 ≡ 2 ^ k
shifted k h = let p : 2 ^ k < 2 ^ 8 = pow_below k 8 h in omega (arith, p)

pub bit_set : (k b : ℕ) → k < 8 → bit_or b (1 * 2 ^ k % 256) ≡ with_bit k 1 b
bit_set k b h = ap (bit_or b) (shifted k h) ∙ bit_or_set k b

pub bit_unset : (k b : ℕ) → k < 8 → b < 256 → bit_and b (255 - 1 * 2 ^ k % 256) ≡ with_bit k 0 b
bit_unset k b h l = ap (λ n. bit_and b (255 - n)) (shifted k h) ∙ bit_and_cleared k b h l
