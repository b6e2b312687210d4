-- Bits that are written: what they are then, and that all others stay.
use Rattle.std.proofs.Common.{◌≡◌, ◌≢◌, ◌⊎◌, inl, inr, ℕ, zero, suc, ◌+◌, ◌*◌, ◌/◌, ◌%◌, ◌^◌, ◌<◌, ◌≤◌, List, length}
use Rattle.std.proofs.Common.{refl, sym, ap, ◌∙◌, arith, get_or-set_other, get_or-set_same, length-set}
use Rattle.std.specs.Prelude.{slice_index}
use Rattle.std.proofs.Math.Nat.{pow-suc}
use Rattle.area_keeper.proofs.Agreement.{Agrees}
use Rattle.free_keeper.proofs.Tests.{cases_eq}
use Rattle.free_keeper.specs.Bits.{bit, with_bit, bit_at, with_bit_at}

halved : (b x : ℕ) → (b % 2 + 2 * x) / 2 ≡ x
halved b x = omega arith

pub bit_same : (k v b : ℕ) → v ≤ 1 → bit k (with_bit k v b) ≡ v
bit_same zero v b h = omega (arith, h)
bit_same (suc k) v b h = ap (bit k) (halved b (with_bit k v (b / 2))) ∙ bit_same k v (b / 2) h

pub bit_other : (j k v b : ℕ) → v ≤ 1 → j ≢ k → bit j (with_bit k v b) ≡ bit j b
bit_other zero zero v b h n = absurd (n refl)
bit_other zero (suc k) v b h n = omega arith
bit_other (suc j) zero v b h n = let e : (v + 2 * (b / 2)) / 2 ≡ b / 2 = omega (arith, h) in ap (bit j) e
bit_other (suc j) (suc k) v b h n =
    ap (bit j) (halved b (with_bit k v (b / 2))) ∙ bit_other j k v (b / 2) h (λ e. n (ap suc e))

pub bit_below : (n k v b : ℕ) → v ≤ 1 → k < n → b < 2 ^ n → with_bit k v b < 2 ^ n
bit_below zero k v b h i c = absurd (omega (arith, i))
bit_below (suc n) zero v b h i c = let e : 2 ^ suc n ≡ 2 ^ n * 2 = pow-suc 2 n in omega (arith, e, h, c)
bit_below (suc n) (suc k) v b h i c =
    let e : 2 ^ suc n ≡ 2 ^ n * 2 = pow-suc 2 n in
    let r = bit_below n k v (b / 2) h (omega (arith, i)) (omega (arith, e, c)) in
    omega (arith, e, r)

-- ---- among the bytes

pub length_bit : (from i v : ℕ) (m : List ℕ) → length (with_bit_at from i v m) ≡ length m
length_bit from i v m = length-set m (from + i / 8) (with_bit (i % 8) v (slice_index m (from + i / 8)))

pub agrees_bit :
    (m : List ℕ) (from i v a b : ℕ) → (b ≤ from + i / 8) ⊎ (from + i / 8 < a) → Agrees m (with_bit_at from i v m) a b
agrees_bit m from i v a b h =
    record {
      same = λ j c d. get_or-set_other m (from + i / 8) j (with_bit (i % 8) v (slice_index m (from + i / 8))) 0
          (unlike j c d h);
    }
  where
    unlike : (j : ℕ) → a ≤ j → j < b → (b ≤ from + i / 8) ⊎ (from + i / 8 < a) → j ≢ from + i / 8
    unlike j c d (inl e) = omega (arith, c, d, e)
    unlike j c d (inr e) = omega (arith, c, d, e)

pub bit_there :
    (m : List ℕ) (from i v : ℕ) → v ≤ 1 → from + i / 8 < length m → bit_at from i (with_bit_at from i v m) ≡ v
bit_there m from i v h l =
    ap (bit (i % 8)) (get_or-set_same m (from + i / 8) (with_bit (i % 8) v (slice_index m (from + i / 8))) 0 l)
    ∙ bit_same (i % 8) v (slice_index m (from + i / 8)) h

pub bit_stays :
    (m : List ℕ) (from i j v : ℕ) → v ≤ 1 → from + i / 8 < length m → j ≢ i →
    bit_at from j (with_bit_at from i v m) ≡ bit_at from j m
bit_stays m from i j v h l n = by_byte (cases_eq (j / 8) (i / 8))
  where
    by_byte : (j / 8 ≡ i / 8) ⊎ (j / 8 ≢ i / 8) → bit_at from j (with_bit_at from i v m) ≡ bit_at from j m
    by_byte (inl e) =
        let new = with_bit_at from i v m in
        let p : j % 8 ≢ i % 8 = λ f. n (omega (arith, e, f)) in
        ap (λ q. bit (j % 8) (slice_index new (from + q))) e
        ∙ (ap (bit (j % 8)) (get_or-set_same m (from + i / 8) (with_bit (i % 8) v (slice_index m (from + i / 8))) 0 l)
        ∙ (bit_other (j % 8) (i % 8) v (slice_index m (from + i / 8)) h p
        ∙ ap (λ q. bit (j % 8) (slice_index m (from + q))) (sym e)))
    by_byte (inr e) =
        let p : from + j / 8 ≢ from + i / 8 = λ f. e (omega (arith, f)) in
        ap (bit (j % 8)) (get_or-set_other m (from + i / 8) (from + j / 8) (with_bit (i % 8) v (slice_index m (from +
        i / 8))) 0 p)

pub bits_same :
    (old new : List ℕ) (from count i : ℕ) → Agrees old new from (from + count) → i < 8 * count →
    bit_at from i new ≡ bit_at from i old
bits_same old new from count i h l = ap (bit (i % 8)) (h.same (from + i / 8) (omega arith) (omega (arith, l)))
