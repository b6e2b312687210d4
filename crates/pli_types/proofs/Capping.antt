-- Products that are capped at each step.
use Rattle.std.proofs.Common.{◌≡◌, ◌<◌, ◌≤◌, ◌⊎◌, inl, inr, ℕ, zero, suc, ◌+◌, ◌-◌, List, Option, None, get_or, length, drop, map, ◌*◌, ◌^◌, refl, sym, ap, ◌∙◌, arith, true, false, Bool}
use Rattle.std.specs.Prelude.{nat_lt}
use Rattle.std.proofs.lemmas.Bool.Decides.{nat_tests}
use Rattle.std.proofs.lemmas.List.{at_drop_more}
use Rattle.pli_typing.specs.Signatures.{capped, element_count, span}
use Rattle.pli_types.specs.declared.signature.Bounds.{Bounds}
use Rattle.pli_types.specs.Templates.{bounds_so_far}
use Rattle.pli_types.specs.View.{bounds_of}

few_or_many : (a : ℕ) → (a < 2 ^ 64) ⊎ (2 ^ 64 ≤ a)
few_or_many a = go (nat_lt a (2 ^ 64)) refl
  where
    go : (t : Bool) → nat_lt a (2 ^ 64) ≡ t → (a < 2 ^ 64) ⊎ (2 ^ 64 ≤ a)
    go true e = inl (grind (arith, nat_tests))
    go false e = inr (grind (arith, nat_tests))

capped_few : (a : ℕ) → a < 2 ^ 64 → capped a ≡ a
capped_few a h = omega arith

capped_many : (a : ℕ) → 2 ^ 64 ≤ a → capped a ≡ 2 ^ 64 - 1
capped_many a h = omega arith

many_times : (a k : ℕ) → 2 ^ 64 ≤ a → capped ((2 ^ 64 - 1) * suc k) ≡ capped (a * suc k)
many_times a k h = omega arith

times_none : (a b : ℕ) → capped (a * 0) ≡ capped (b * 0)
times_none a b = omega arith

-- a factor counts as far as it is capped, also where the other one is 0
capped_times : (a b : ℕ) → capped (capped a * b) ≡ capped (a * b)
capped_times a zero = times_none (capped a) a
capped_times a (suc k) = elim (few_or_many a) [ inl h ↦ ap (λ n. capped (n * suc k)) (capped_few a h) | inr h ↦ ap (λ n. capped (n * suc k)) (capped_many a h) ∙ many_times a k h ]

regroup : (a b c : ℕ) → capped (a * b * c) ≡ capped (a * (b * c))
regroup a b c = omega arith

-- a product that goes on
next_factor : (before r factor rest whole target : ℕ) → r ≡ capped (before * factor) → whole ≡ factor * rest → capped (before * whole) ≡ target → capped (r * rest) ≡ target
next_factor before r factor rest whole target e w h =
    ap (λ n. capped (n * rest)) e ∙ capped_times (before * factor) rest ∙ regroup before factor rest ∙ ap (λ n. capped (before * n)) (sym w) ∙ h

-- the elements of one more dimension
pub next_dimension : (xs : List (Option Bounds)) (i before elements r target : ℕ) → i < length xs → elements ≡ span (bounds_so_far (bounds_of (get_or xs i None))) → r ≡ capped (before * elements) → capped (before * element_count (map bounds_so_far (map bounds_of (drop i xs)))) ≡ target → capped (r * element_count (map bounds_so_far (map bounds_of (drop (i + 1) xs)))) ≡ target
next_dimension xs i before elements r target inside s e h =
    let count = λ (bs : List (Option Bounds)). element_count (map bounds_so_far (map bounds_of bs)) in
    next_factor before r elements (count (drop (i + 1) xs)) _ target e (at_drop_more count xs i None inside ∙ ap (λ n. n * count (drop (i + 1) xs)) (sym s)) h
