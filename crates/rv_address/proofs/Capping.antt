-- Sums and products that are capped at each step.
use Rattle.std.proofs.Common.{◌≡◌, ◌<◌, ◌≤◌, ◌⊎◌, inl, inr, ℕ, zero, suc, ◌+◌, ◌*◌, ◌/◌, List, [], get_or, length, drop, map, refl, sym, ap, ◌∙◌, arith, true, false, Bool}
use Rattle.std.specs.Prelude.{nat_lt, min, take}
use Rattle.std.proofs.lemmas.Bool.Decides.{nat_tests}
use Rattle.std.proofs.lemmas.List.{drop_more, take_min}
use Rattle.pli_typing.specs.Signatures.{element_count, span, leaves_size, leaf_size, rounded_up}
use Rattle.pli_typing.specs.declared.typed.Bounds.{Bounds}
use Rattle.pli_typing.specs.declared.typed.Leaf.{Leaf}
use Rattle.pli_typing.specs.TypedTree as Y
use Rattle.pli_typing.specs.TypedView.{bounds_of, leaf_of}
use Rattle.pli_meaning.specs.DeclaredShapes as shapes
use Rattle.rv_address.specs.Numbers.{most_bytes, capped}
use Rattle.rv_address.proofs.Declared.{shown_from, take_map}

few_or_many : (a : ℕ) → (a < most_bytes) ⊎ (most_bytes ≤ a)
few_or_many a = go (nat_lt a most_bytes) refl
  where
    go : (t : Bool) → nat_lt a most_bytes ≡ t → (a < most_bytes) ⊎ (most_bytes ≤ a)
    go true e = inl (grind (arith, nat_tests))
    go false e = inr (grind (arith, nat_tests))

capped_few : (a : ℕ) → a < most_bytes → capped a ≡ a
capped_few a h = omega arith

capped_many : (a : ℕ) → most_bytes ≤ a → capped a ≡ most_bytes
capped_many a h = omega arith

many_times : (a k : ℕ) → most_bytes ≤ a → capped (most_bytes * suc k) ≡ capped (a * suc k)
many_times a k h = omega arith

times_none : (a b : ℕ) → capped (a * 0) ≡ capped (b * 0)
times_none a b = omega arith

-- a factor counts as far as it is counted, also where the other one is 0
capped_times : (a b : ℕ) → capped (capped a * b) ≡ capped (a * b)
capped_times a zero = times_none (capped a) a
capped_times a (suc k) = elim (few_or_many a) [ inl h ↦ ap (λ n. capped (n * suc k)) (capped_few a h) | inr h ↦ ap (λ n. capped (n * suc k)) (capped_many a h) ∙ many_times a k h ]

turned : (a b : ℕ) → a * b ≡ b * a
turned a b = omega arith

times_capped : (a b : ℕ) → capped (a * capped b) ≡ capped (a * b)
times_capped a b = ap capped (turned a (capped b)) ∙ capped_times b a ∙ ap capped (turned b a)

regroup : (a b c : ℕ) → capped (a * b * c) ≡ capped (a * (b * c))
regroup a b c = omega arith

-- a product that goes on
next_factor : (before r factor rest whole target : ℕ) → r ≡ capped (before * capped factor) → whole ≡ factor * rest → capped (before * whole) ≡ target → capped (r * rest) ≡ target
next_factor before r factor rest whole target e w h =
    ap (λ n. capped (n * rest)) (e ∙ times_capped before factor)
    ∙ capped_times (before * factor) rest
    ∙ regroup before factor rest
    ∙ ap (λ n. capped (before * n)) (sym w)
    ∙ h

-- the elements of one more dimension
pub next_dimension : (xs : List Bounds) (i before elements r target : ℕ) (blank : Bounds) → i < length xs → elements ≡ capped (span (shapes.bounds_of [] (bounds_of (get_or xs i blank)))) → r ≡ capped (before * elements) → capped (before * element_count (map (shapes.bounds_of []) (map bounds_of (drop i xs)))) ≡ target → capped (r * element_count (map (shapes.bounds_of []) (map bounds_of (drop (i + 1) xs)))) ≡ target
next_dimension xs i before elements r target blank h s n is =
    let count = λ (bs : List Bounds). element_count (map (shapes.bounds_of []) (map bounds_of bs)) in
    next_factor before r (span (shapes.bounds_of [] (bounds_of (get_or xs i blank)))) (count (drop (i + 1) xs)) _ target (n ∙ ap (λ k. capped (before * k)) s) (ap count (drop_more xs i blank h)) is

pub still_few : (n r : ℕ) → r ≡ capped n → r ≤ most_bytes
still_few n r e = omega arith

rounded_capped : (n : ℕ) → (capped n + 3) / 4 * 4 ≡ capped (rounded_up 4 n)
rounded_capped n = omega arith

-- the bytes of all elements of a leaf
pub of_leaf : (bytes count size : ℕ) → size ≡ capped ((capped bytes + 3) / 4 * 4 * capped count) → size ≡ capped (rounded_up 4 bytes * count)
of_leaf bytes count size e =
    e ∙ ap (λ n. capped (n * capped count)) (rounded_capped bytes) ∙ times_capped (capped (rounded_up 4 bytes)) count ∙ capped_times (rounded_up 4 bytes) count

plus_capped : (before here rest : ℕ) → capped (capped (before + capped here) + rest) ≡ capped (before + (here + rest))
plus_capped before here rest = omega arith

-- one more leaf
pub next_leaf : (xs : List Leaf) (i before r target : ℕ) (x : Leaf) → i < length xs → x ≡ get_or xs i x → r ≡ capped (before + capped (leaf_size (shapes.leaf_of [] (leaf_of x)))) → capped (before + leaves_size (map (shapes.leaf_of []) (map leaf_of (drop i xs)))) ≡ target → capped (r + leaves_size (map (shapes.leaf_of []) (map leaf_of (drop (i + 1) xs)))) ≡ target
next_leaf xs i before r target x h e n is =
    let size = λ (ls : List Y.Leaf). leaves_size (map (shapes.leaf_of []) ls) in
    ap (λ k. capped (k + size (map leaf_of (drop (i + 1) xs)))) n
    ∙ plus_capped before (leaf_size (shapes.leaf_of [] (leaf_of x))) (size (map leaf_of (drop (i + 1) xs)))
    ∙ ap (λ k. capped (before + k)) (ap size (sym (shown_from leaf_of xs i x h e)))
    ∙ is

-- ---- what stands before a leaf

pub before_leaf : (xs : List Leaf) (n k : ℕ) → k ≡ capped (leaves_size (map (shapes.leaf_of []) (map leaf_of (take (min n (length xs)) xs)))) → k < most_bytes → k ≡ leaves_size (take n (map (shapes.leaf_of []) (map leaf_of xs)))
before_leaf xs n k e h =
    let same : map (shapes.leaf_of []) (map leaf_of (take (min n (length xs)) xs)) ≡ take n (map (shapes.leaf_of []) (map leaf_of xs)) =
    ap (λ ys. map (shapes.leaf_of []) (map leaf_of ys)) (take_min n xs) ∙ ap (map (shapes.leaf_of [])) (take_map leaf_of xs n) ∙ take_map (shapes.leaf_of []) (map leaf_of xs) n in
    let size : k ≡ capped (leaves_size (take n (map (shapes.leaf_of []) (map leaf_of xs)))) = e ∙ ap (λ ys. capped (leaves_size ys)) same in
    omega arith
