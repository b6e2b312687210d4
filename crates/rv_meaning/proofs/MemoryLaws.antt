-- Laws of the bytes in memory: what a store leaves, and what a load finds after it.
use Rattle.std.proofs.Common.{◌≡◌, ◌≢◌, ℕ, zero, suc, ◌+◌, ◌*◌, ◌/◌, ◌%◌, ◌^◌, ◌<◌, ◌≤◌, ◌⊎◌, inl, inr, List, length, refl, ◌∙◌, arith, get_or-set_other, get_or-set_same, length-set}
use Rattle.std.proofs.Math.Nat.{pow-suc}
use Rattle.std.specs.Prelude.{slice_index, slice_set}
use Rattle.rv_meaning.specs.Memory.{load, store}

pub length-store : (n : ℕ) (m : List ℕ) (at v : ℕ) → length (store n m at v) ≡ length m
length-store zero m at v = refl
length-store (suc n) m at v = length-store n (slice_set m at (v % 256)) (suc at) (v / 256) ∙ length-set m at (v % 256)

-- a byte below the place of a store, and one past its n bytes
pub byte-store_below : (n : ℕ) (m : List ℕ) (at v k : ℕ) → k < at → slice_index (store n m at v) k ≡ slice_index m k
byte-store_below zero m at v k h = refl
byte-store_below (suc n) m at v k h =
    let ne : k ≢ at = omega arith in
    byte-store_below n (slice_set m at (v % 256)) (suc at) (v / 256) k (omega arith) ∙ get_or-set_other m at k (v % 256) 0 ne

pub byte-store_past : (n : ℕ) (m : List ℕ) (at v k : ℕ) → at + n ≤ k → slice_index (store n m at v) k ≡ slice_index m k
byte-store_past zero m at v k h = refl
byte-store_past (suc n) m at v k h =
    let ne : k ≢ at = omega arith in
    byte-store_past n (slice_set m at (v % 256)) (suc at) (v / 256) k (omega arith) ∙ get_or-set_other m at k (v % 256) 0 ne

-- equal bytes load as equal numbers
pub load-same : (n : ℕ) (m m' : List ℕ) (at : ℕ) → ((k : ℕ) → at ≤ k → k < at + n → slice_index m k ≡ slice_index m' k) → load n m at ≡ load n m' at
load-same zero m m' at h = refl
load-same (suc n) m m' at h =
    let first = h at (omega arith) (omega arith) in
    let rest = load-same n m m' (suc at) (λ k a b. h k (omega arith) (omega arith)) in
    omega (arith, first, rest)

quotient_small : (n v : ℕ) → v < 256 ^ suc n → v / 256 < 256 ^ n
quotient_small n v h = let e : 256 ^ suc n ≡ 256 ^ n * 256 = pow-suc 256 n in omega (arith, e, h)

-- what was stored is loaded again
pub load-store_same : (n : ℕ) (m : List ℕ) (at v : ℕ) → v < 256 ^ n → at + n ≤ length m → load n (store n m at v) at ≡ v
load-store_same zero m at v h i = omega arith
load-store_same (suc n) m at v h i =
    let m' = slice_set m at (v % 256) in
    let len : length m' ≡ length m = length-set m at (v % 256) in
    let at_in : at < length m = omega arith in
    let byte : slice_index (store n m' (suc at) (v / 256)) at ≡ v % 256 = byte-store_below n m' (suc at) (v / 256) at (omega arith) ∙ get_or-set_same m at (v % 256) 0 at_in in
    let small : v / 256 < 256 ^ n = quotient_small n v h in
    let rest = load-store_same n m' (suc at) (v / 256) small (omega (arith, len)) in
    omega (arith, byte, rest)

-- a load of other bytes is as before
pub load-store_other : (n k : ℕ) (m : List ℕ) (at v from : ℕ) → (from + k ≤ at) ⊎ (at + n ≤ from) → load k (store n m at v) from ≡ load k m from
load-store_other n k m at v from (inl h) =
    load-same k (store n m at v) m from (λ j a b. byte-store_below n m at v j (omega arith))
load-store_other n k m at v from (inr h) =
    load-same k (store n m at v) m from (λ j a b. byte-store_past n m at v j (omega arith))
