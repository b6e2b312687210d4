-- A map that is copied: as far as both go, and zeros.
use Rattle.std.proofs.Common.{◌≡◌, ◌⊎◌, inl, inr, ℕ, zero, suc, ◌+◌, ◌-◌, ◌≤◌, min, List, [], ◌∷◌, ◌++◌, length}
use Rattle.std.proofs.Common.{take, drop, replicate, drop-drop, length-append, length-drop, length-take-le, refl}
use Rattle.std.proofs.Common.{sym, ap, ◌∙◌, arith}
use Rattle.std.proofs.lemmas.List.{length-replicate}
use borrow.Rule.Slice.PartMut.{put_mid}
use Rattle.area_keeper.specs.KeptAreas.{part, with_part}
use Rattle.area_keeper.proofs.Agreement.{length_part}

zeros_taken : (n m : ℕ) → n ≤ m → take {A = ℕ} n (replicate m 0) ≡ replicate n 0
zeros_taken zero m h = refl
zeros_taken (suc n) zero h = absurd (omega (arith, h))
zeros_taken (suc n) (suc m) h = ap (λ xs. 0 ∷ xs) (zeros_taken n m (omega (arith, h)))

padded :
    (n m s : ℕ) (xs : List ℕ) → n ≤ m → s ≤ n → s ≤ length xs → (s ≡ n) ⊎ (s ≡ length xs) →
    take n (xs ++ replicate m 0) ≡ take s xs ++ replicate (n - s) 0
padded zero m zero xs h a b e = refl
padded zero m (suc s) xs h a b e = absurd (omega (arith, a))
padded (suc n) zero zero [] h a b e = absurd (omega (arith, h))
padded (suc n) (suc m) zero [] h a b e =
    let q : suc n ≡ suc n - 0 = omega arith in
    zeros_taken (suc n) (suc m) h ∙ ap (λ k. replicate {A = ℕ} k 0) q
padded (suc n) m (suc s) [] h a b e = absurd (omega (arith, b))
padded (suc n) m zero (x ∷ xs) h a b (inl e) = absurd (omega (arith, e))
padded (suc n) m zero (x ∷ xs) h a b (inr e) = absurd (omega (arith, e))
padded (suc n) m (suc s) (x ∷ xs) h a b e =
    let q : n - s ≡ suc n - suc s = omega arith in
    ap (λ ys. x ∷ ys) (padded n m s xs (omega (arith, h)) (omega (arith, a)) (omega (arith, b)) (side e))
    ∙ ap (λ k. x ∷ (take s xs ++ replicate k 0)) q
  where
    side : (suc s ≡ suc n) ⊎ (suc s ≡ length (x ∷ xs)) → (s ≡ n) ⊎ (s ≡ length xs)
    side (inl i) = inl (omega (arith, i))
    side (inr i) = inr (omega (arith, i))

part_put :
    (bytes xs : List ℕ) (count : ℕ) → length xs ≡ count → put_mid 12 (12 + count - 12) bytes xs ≡ with_part xs 12 bytes
part_put bytes xs count e =
    let q : 12 + count - 12 ≡ length xs = omega (arith, e) in
    ap (λ ys. take 12 bytes ++ (xs ++ ys)) (drop-drop (12 + count - 12) 12 bytes ∙ ap (λ k. drop (12 + k) bytes) q)

pub map_put :
    (bytes from new : List ℕ) (count from_count shared : ℕ) → 12 + count ≤ length bytes →
    12 + from_count ≤ length from →
    shared ≡ min count from_count →
    new
    ≡ take shared (take (12 + from_count - 12) (drop 12 from)) ++ replicate (length (take (12 + count - 12) (drop 12
    bytes)) - shared) 0 →
    put_mid 12 (12 + count - 12) bytes new ≡ with_part (take count (part 12 from_count from ++ replicate count 0)) 12
    bytes
map_put bytes from new count from_count shared h i m n =
    let old = take (12 + count - 12) (drop 12 bytes) in
    let source = take (12 + from_count - 12) (drop 12 from) in
    let y : 12 + from_count - 12 ≡ from_count = omega arith in
    let s : source ≡ part 12 from_count from = ap (λ j. take j (drop 12 from)) y in
    let l : length old ≡ count =
    length-take-le (12 + count - 12) (drop 12 bytes) (omega (arith, h, length-drop 12 bytes)) ∙ omega arith
    in
    let xs = part 12 from_count from in
    let k : length xs ≡ from_count = length_part 12 from_count from i in
    let a : shared ≤ count = omega (arith, m) in
    let b : shared ≤ length xs = omega (arith, m, k) in
    let e : (shared ≡ count) ⊎ (shared ≡ length xs) = either shared count from_count (length xs) m k in
    let r : new ≡ take shared xs ++ replicate (count - shared) 0 =
    n ∙ (ap (λ ys. take shared ys ++ replicate (length old - shared) 0) s ∙ ap (λ y. take shared xs ++ replicate (y -
    shared) 0) l)
    in
    let zeros : List ℕ = replicate (count - shared) 0 in
    let z : length zeros ≡ count - shared = length-replicate (count - shared) 0 in
    let w : length (take shared xs ++ zeros) ≡ count = omega (
      arith,
      length-append (take shared xs) zeros,
      length-take-le shared xs b,
      z,
      a,
    ) in
    ap (λ ys. put_mid 12 (12 + count - 12) bytes ys) r
    ∙ (part_put bytes (take shared xs ++ zeros) count w
    ∙ ap (λ ys. with_part ys 12 bytes) (sym (padded count count shared xs (omega arith) a b e)))
  where
    either : (s n k l : ℕ) → s ≡ min n k → l ≡ k → (s ≡ n) ⊎ (s ≡ l)
    either s n k l m e = grind (arith, m, e)
