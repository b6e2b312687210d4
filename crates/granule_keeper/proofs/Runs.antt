-- Runs of marks: how many go on with what began before them, and how many are free, where marks are cut or put together.
use Rattle.std.proofs.Common.{◌≡◌, ℕ, zero, suc, ◌+◌, ◌-◌, ◌*◌, ◌<◌, ◌≤◌, List, [], ◌∷◌, ◌++◌, length, take, drop, replicate, Option, Some, None, Bool, true, false, refl, sym, ap, ◌∙◌, subst, arith}
use Rattle.std.specs.Prelude.{cond, nat_le}
use Rattle.std.proofs.lemmas.List.{length-replicate, length-append, length-drop, length-take-le}
use Rattle.granule_keeper.proofs.Tests.{le_tells}
use Rattle.granule_keeper.specs.Marks.{insides, free_run, room_in, run, begun, with_run, without_run, used_with, used}

pub insides_within : (ms : List ℕ) → insides ms ≤ length ms
insides_within [] = omega arith
insides_within (zero ∷ ms) = omega arith
insides_within (suc zero ∷ ms) = omega arith
insides_within (suc (suc m) ∷ ms) = omega (arith, insides_within ms)

pub insides_begun : (ms : List ℕ) → insides (begun ms) ≡ 0
insides_begun [] = refl
insides_begun (zero ∷ ms) = refl
insides_begun (suc m ∷ ms) = refl

pub insides_run : (n : ℕ) (ms : List ℕ) → insides ms ≡ 0 → insides (replicate n 2 ++ ms) ≡ n
insides_run zero ms e = e
insides_run (suc n) ms e = ap suc (insides_run n ms e)

pub insides_padded : (n : ℕ) (ms : List ℕ) → insides (ms ++ replicate n 0) ≡ insides ms
insides_padded zero [] = refl
insides_padded (suc n) [] = refl
insides_padded n (zero ∷ ms) = refl
insides_padded n (suc zero ∷ ms) = refl
insides_padded n (suc (suc m) ∷ ms) = ap suc (insides_padded n ms)

-- what lies behind them doesn't go on
pub insides_end : (ms : List ℕ) → insides (drop (insides ms) ms) ≡ 0
insides_end [] = refl
insides_end (zero ∷ ms) = refl
insides_end (suc zero ∷ ms) = refl
insides_end (suc (suc m) ∷ ms) = insides_end ms

pub insides_cut : (i : ℕ) (ms xs : List ℕ) → insides ms ≤ i → insides xs ≡ 0 → insides (take i ms ++ xs) ≡ insides ms
insides_cut zero ms xs h e = omega (arith, h, e)
insides_cut (suc i) [] xs h e = e
insides_cut (suc i) (zero ∷ ms) xs h e = refl
insides_cut (suc i) (suc zero ∷ ms) xs h e = refl
insides_cut (suc i) (suc (suc m) ∷ ms) xs h e = ap suc (insides_cut i ms xs (omega (arith, h)) e)

pub insides_before_free : (i : ℕ) (ms : List ℕ) → 1 ≤ free_run (drop i ms) → insides ms ≤ i
insides_before_free zero [] h = omega arith
insides_before_free zero (zero ∷ ms) h = omega arith
insides_before_free zero (suc m ∷ ms) h = absurd (omega (arith, h))
insides_before_free (suc i) [] h = omega arith
insides_before_free (suc i) (zero ∷ ms) h = omega arith
insides_before_free (suc i) (suc zero ∷ ms) h = omega arith
insides_before_free (suc i) (suc (suc m) ∷ ms) h = omega (arith, insides_before_free i ms h)

-- ---- free granules

pub free_within : (ms : List ℕ) → free_run ms ≤ length ms
free_within [] = omega arith
free_within (zero ∷ ms) = omega (arith, free_within ms)
free_within (suc m ∷ ms) = omega arith

pub free_split : (n : ℕ) (ms : List ℕ) → n ≤ free_run ms → ms ≡ replicate n 0 ++ drop n ms
free_split zero ms h = refl
free_split (suc n) [] h = absurd (omega (arith, h))
free_split (suc n) (zero ∷ ms) h = ap (λ xs. 0 ∷ xs) (free_split n ms (omega (arith, h)))
free_split (suc n) (suc m ∷ ms) h = absurd (omega (arith, h))

-- where room is found there are so many free granules
pub record Found (o n : ℕ) (ms : List ℕ) (p : ℕ) : Type 0 where
  pub place : ℕ
  pub offset : p ≡ 16 * place + o
  pub free : n ≤ free_run (drop place ms)

pub room_found : (o n : ℕ) (ms : List ℕ) (p : ℕ) → room_in o n ms ≡ Some p → Found o n ms p
room_found o n [] p e = absurd (cc e)
room_found o n (m ∷ ms) p e = by_test (nat_le n (free_run (m ∷ ms))) refl e (λ f. room_found (16 + o) n ms p f)
  where
    by_test :
        (t : Bool) → nat_le n (free_run (m ∷ ms)) ≡ t → cond t (Some o) (room_in (16 + o) n ms) ≡ Some p →
        (room_in (16 + o) n ms ≡ Some p → Found (16 + o) n ms p) → Found o n (m ∷ ms) p
    by_test true t e rest =
        let f : o ≡ p = cc e in
        record { place = 0; offset = omega (arith, f); free = le_tells n (free_run (m ∷ ms)) true t }
    by_test false t e rest =
        let r = rest e in
        record { place = suc r.place; offset = omega (arith, r.offset); free = r.free }

-- ---- as far as the last that isn't free

pub used_within : (ms : List ℕ) → used ms ≤ length ms
used_within [] = omega arith
used_within (m ∷ ms) = by_case m (used ms) (used_within ms)
  where
    by_case : (m n : ℕ) → n ≤ length ms → used_with m n ≤ suc (length ms)
    by_case zero zero h = omega arith
    by_case zero (suc n) h = omega (arith, h)
    by_case (suc m) n h = omega (arith, h)

pub used_rest : (ms : List ℕ) → ms ≡ take (used ms) ms ++ replicate (length ms - used ms) 0
used_rest [] = refl
used_rest (m ∷ ms) = by_case m (used ms) (used_rest ms)
  where
    by_case :
        (m n : ℕ) → ms ≡ take n ms ++ replicate (length ms - n) 0 →
        m ∷ ms ≡ take (used_with m n) (m ∷ ms) ++ replicate (suc (length ms) - used_with m n) 0
    by_case zero zero e =
        let q : suc (length ms - 0) ≡ suc (length ms) - 0 = omega arith in
        ap (λ xs. 0 ∷ xs) e ∙ ap (λ k. replicate k 0) q
    by_case zero (suc n) e =
        let q : length ms - suc n ≡ suc (length ms) - suc (suc n) = omega arith in
        ap (λ xs. 0 ∷ xs) e ∙ ap (λ k. 0 ∷ (take (suc n) ms ++ replicate k 0)) q
    by_case (suc m) n e =
        let q : length ms - n ≡ suc (length ms) - suc n = omega arith in
        ap (λ xs. suc m ∷ xs) e ∙ ap (λ k. suc m ∷ (take n ms ++ replicate k 0)) q

-- ---- lengths

pub length_run : (n : ℕ) → length (run n) ≡ n
length_run zero = refl
length_run (suc n) = ap suc (length-replicate n 2)

pub length_begun : (ms : List ℕ) → length (begun ms) ≡ length ms
length_begun [] = refl
length_begun (zero ∷ ms) = refl
length_begun (suc m ∷ ms) = refl

pub length_with_run : (i n : ℕ) (ms : List ℕ) → i + n ≤ length ms → length (with_run i n ms) ≡ length ms
length_with_run i n ms h =
    let rest = begun (drop n (drop i ms)) in
    omega (arith, h, length-append (take i ms) (run n ++ rest), length-append (run n) rest, length_run n, length_begun (drop n (drop i ms)), length-drop n (drop i ms), length-drop i ms, length-take-le i ms (omega (arith, h)))

pub length_without_run : (i n : ℕ) (ms : List ℕ) → i + n ≤ length ms → length (without_run i n ms) ≡ length ms
length_without_run i n ms h =
    let rest = drop n (drop i ms) in
    let zeros : List ℕ = replicate n 0 in
    let z : length zeros ≡ n = length-replicate n 0 in
    omega (arith, h, length-append (take i ms) (zeros ++ rest), length-append zeros rest, z, length-drop n (drop i ms), length-drop i ms, length-take-le i ms (omega (arith, h)))
