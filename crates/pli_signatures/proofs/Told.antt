-- Sizes where REFER tells an extent of the last leaf.
use Rattle.std.proofs.Common.{◌≡◌, ◌<◌, ◌≤◌, ◌⊎◌, inl, inr, ℕ, zero, suc, ◌+◌, ◌-◌, ◌*◌, ◌^◌, List, [], ◌∷◌, ◌++◌, length, map, Option, refl, ap, sym, ◌∙◌, arith}
use Rattle.std.specs.Prelude.{ℤ}
use Rattle.pli_typing.specs.Signatures as S
use Rattle.pli_typing.specs.Signatures.{capped, element_count, span, leaf_size, leaves_size, footprint}
use Rattle.pli_types.specs.declared.signature.Bounds.{Bounds}
use Rattle.pli_types.specs.declared.signature.Leaf.{Leaf}
use Rattle.pli_types.specs.Templates.{bounds_so_far}
use Rattle.pli_types.specs.View.{bounds_of, pair_of}
use Rattle.pli_meaning.specs.Contents.{leaf_refers, last_refers}
use Rattle.pli_signatures.specs.Whole.{bounds_told}
use Rattle.pli_signatures.proofs.Capping.{few_or_many, capped_few, capped_many}
use Rattle.pli_signatures.proofs.Wholes.{so_far_of, all_so_far}

times_capped : (a b r : ℕ) → r ≡ capped b → capped (a * r) ≡ capped (a * b)
times_capped zero b r e = omega arith
times_capped (suc k) b r e = ap (λ n. capped (suc k * n)) e ∙ go (few_or_many b)
  where
    go : (b < 2 ^ 64) ⊎ (2 ^ 64 ≤ b) → capped (suc k * capped b) ≡ capped (suc k * b)
    go (inl h) = ap (λ n. capped (suc k * n)) (capped_few b h)
    go (inr h) = ap (λ n. capped (suc k * n)) (capped_many b h) ∙ many k b h
      where
        many : (k b : ℕ) → 2 ^ 64 ≤ b → capped (suc k * (2 ^ 64 - 1)) ≡ capped (suc k * b)
        many k b h = omega arith

pub count_one : (z : ℤ) (xs rest : List (Option Bounds)) (x : Option Bounds) (first : Bounds) (elements others r : ℕ) → xs ≡ x ∷ rest
    → pair_of first ≡ bounds_so_far (bounds_of x) → elements ≡ span (record { lower = (pair_of first).lower; upper = z })
    → others ≡ capped (element_count (map bounds_so_far (map bounds_of rest))) → r ≡ capped (elements * others)
    → r ≡ capped (element_count (bounds_told z (map bounds_so_far (map bounds_of xs))))
count_one z xs rest x first elements others r e f s o p =
    let count = element_count (map bounds_so_far (map bounds_of rest)) in
    let told : S.Bounds → ℕ = λ b. span (record { lower = b.lower; upper = z }) in
    p
    ∙ times_capped elements count others o
    ∙ ap (λ n. capped (n * count)) (s ∙ ap told f)
    ∙ ap (λ (l : List (Option Bounds)). capped (element_count (bounds_told z (map bounds_so_far (map bounds_of l))))) (sym e)

pub count_none : (z : ℤ) (xs : List (Option Bounds)) → length xs ≡ 0 → 1 ≡ capped (element_count (bounds_told z (map bounds_so_far (map bounds_of xs))))
count_none z [] h = refl
count_none z (x ∷ xs) h = absurd (omega (arith, h))

last_size : (z : ℤ) (xs : List Leaf) (x : Leaf) → leaves_size (last_refers z (all_so_far (xs ++ x ∷ []))) ≡ leaves_size (all_so_far xs) + leaf_size (leaf_refers z (so_far_of x).kind (so_far_of x).bounds)
last_size z [] x = omega arith
last_size z (y ∷ []) x = omega arith
last_size z (y ∷ v ∷ ys) x =
    let others = last_size z (v ∷ ys) x in
    let first = leaf_size (so_far_of y) in
    ap (λ n. first + n) others ∙ regroup first (leaves_size (all_so_far (v ∷ ys))) (leaf_size (leaf_refers z (so_far_of x).kind (so_far_of x).bounds))
  where
    regroup : (a b c : ℕ) → a + (b + c) ≡ a + b + c
    regroup a b c = omega arith

both_capped : (a b m n r : ℕ) → a ≡ capped m → b ≡ capped n → r ≡ capped (a + b) → r ≡ capped (m + n)
both_capped a b m n r e f p = omega (arith, e, f, p)

pub size_last : (z : ℤ) (xs others : List Leaf) (last : Leaf) (before told r : ℕ) → xs ≡ others ++ last ∷ [] → before ≡ capped (leaves_size (all_so_far others))
    → told ≡ capped (leaf_size (leaf_refers z (so_far_of last).kind (so_far_of last).bounds)) → r ≡ capped (before + told)
    → r ≡ capped (leaves_size (last_refers z (all_so_far xs)))
size_last z xs others last before told r e b t p =
    both_capped before told (leaves_size (all_so_far others)) (leaf_size (leaf_refers z (so_far_of last).kind (so_far_of last).bounds)) r b t p
    ∙ ap (λ n. capped n) (sym (last_size z others last))
    ∙ ap (λ (l : List Leaf). capped (leaves_size (last_refers z (all_so_far l)))) (sym e)

pub size_none : (z : ℤ) (xs : List Leaf) → length xs ≡ 0 → 0 ≡ capped (leaves_size (last_refers z (all_so_far xs)))
size_none z [] h = refl
size_none z (x ∷ xs) h = absurd (omega (arith, h))

pub footprint_capped : (n size r : ℕ) → size ≡ capped n → r ≡ capped (footprint size) → r ≡ capped (footprint n)
footprint_capped n size r e p = p ∙ ap (λ m. capped (footprint m)) e ∙ go (few_or_many n)
  where
    go : (n < 2 ^ 64) ⊎ (2 ^ 64 ≤ n) → capped (footprint (capped n)) ≡ capped (footprint n)
    go (inl h) = ap (λ m. capped (footprint m)) (capped_few n h)
    go (inr h) = ap (λ m. capped (footprint m)) (capped_many n h) ∙ many n h
      where
        many : (n : ℕ) → 2 ^ 64 ≤ n → capped (footprint (2 ^ 64 - 1)) ≡ capped (footprint n)
        many n h = omega arith
