-- Texts as elements keep them.
use Rattle.std.proofs.Common.{◌≡◌, ◌≤◌, ◌<◌, ◌⊎◌, inl, inr, ℕ, ◌+◌, ◌-◌, min, List, [], ◌++◌, length, take, drop, replicate, refl, sym, ap, ◌∙◌, arith}
use Rattle.std.proofs.lemmas.List.{take_all, take-append-le, length-take, length-take-le, length-append, append-nil, length-replicate, take_min, take-replicate, take_at, drop_all}
use Rattle.std.proofs.Math.Seq.{take-append-add}
use Rattle.std.proofs.lemmas.Bool.{cases_lt}
use Rattle.pli_meaning.specs.Texts.{fitted}
use Rattle.pli_serving.specs.Bytes.{with_bytes, number_bytes}
use Rattle.pli_values.proofs.Parts.{behind_part}

fitted_short : (n : ℕ) (t : List ℕ) → length t ≤ n → t ++ replicate (n - length t) 32 ≡ fitted n t
fitted_short n t h =
    let e : length t + (n - length t) ≡ n = omega arith in
    ap (λ xs. t ++ xs) (sym (take-replicate (n - length t) n 32 (omega arith)))
    ∙ sym (take-append-add t (replicate n 32) (n - length t))
    ∙ ap (λ k. take k (t ++ replicate n 32)) e

-- what is kept of a text, and blanks up to the length
pub fitted_parts : (n k : ℕ) (t : List ℕ) → k ≡ min (length t) n → take k t ++ replicate (n - k) 32 ≡ fitted n t
fitted_parts n k t e = go (cases_lt n (length t))
  where
    go : (n < length t) ⊎ (length t ≤ n) → take k t ++ replicate (n - k) 32 ≡ fitted n t
    go (inr h) =
        let f : k ≡ length t = omega arith in
        ap (λ j. take j t ++ replicate (n - j) 32) f
        ∙ ap (λ xs. xs ++ replicate (n - length t) 32) (take_all (length t) t (omega arith))
        ∙ fitted_short n t h
    go (inl h) =
        let f : k ≡ n = omega arith in
        let g : n - k ≡ 0 = omega arith in
        ap (λ j. take k t ++ replicate j 32) g
        ∙ append-nil (take k t)
        ∙ ap (λ j. take j t) f
        ∙ sym (take-append-le n t (replicate n 32) (omega arith))

-- what is kept of a text, written with blanks behind it
pub fitted_behind : (most k at : ℕ) (t part m n o : List ℕ) → k ≡ min (length t) most → part ≡ take k t → at + most ≤ length m → n ≡ with_bytes part at m → o ≡ with_bytes (replicate (most - k) 32) (at + k) n → o ≡ with_bytes (fitted most t) at m
fitted_behind most k at t part m n o e p inside f h =
    let l : length part ≡ k = ap length p ∙ length-take-le k t (omega arith) in
    behind_part part (replicate (most - k) 32) m n o at (at + k) f (ap (λ j. at + j) (sym l)) (omega (arith, l)) h
    ∙ ap (λ xs. with_bytes (xs ++ replicate (most - k) 32) at m) p
    ∙ ap (λ xs. with_bytes xs at m) (fitted_parts most k t e)

-- the front of a text, with its length before it
pub varying_behind : (most k at : ℕ) (t part m n o : List ℕ) → k ≡ min (length t) most → part ≡ take k t → at + (2 + most) ≤ length m → n ≡ with_bytes (number_bytes 2 k) at m → o ≡ with_bytes (fitted most part) (at + 2) n → o ≡ with_bytes (number_bytes 2 (length (take most t)) ++ fitted most (take most t)) at m
varying_behind most k at t part m n o e p inside f h =
    let q : part ≡ take most t = p ∙ ap (λ j. take j t) (e ∙ min_comm) ∙ take_min most t in
    let l : k ≡ length (take most t) = simp length-take (omega arith) in
    behind_part (number_bytes 2 k) (fitted most part) m n o at (at + 2) f refl (omega arith) h
    ∙ ap (λ xs. with_bytes (number_bytes 2 k ++ fitted most xs) at m) q
    ∙ ap (λ j. with_bytes (number_bytes 2 j ++ fitted most (take most t)) at m) l
  where
    min_comm : min (length t) most ≡ min most (length t)
    min_comm = omega arith

pub length_fitted : (n : ℕ) (t : List ℕ) → length (fitted n t) ≡ n
length_fitted n t = length-take-le n (t ++ replicate n 32) (simp (length-append, length-replicate) (omega arith))

-- a text that was padded or cut is stored as it is
pub character_kept : (n : ℕ) (t : List ℕ) → fitted n (fitted n t ++ drop n []) ≡ fitted n t
character_kept n t =
    let l = length_fitted n t in
    let e : drop n [] ≡ [] = drop_all n [] (omega arith) in
    ap (λ xs. fitted n (fitted n t ++ xs)) e
    ∙ ap (fitted n) (append-nil (fitted n t))
    ∙ take_at (fitted n t) (replicate n 32) n l
