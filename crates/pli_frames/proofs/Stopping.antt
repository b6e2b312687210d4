-- Sums and products that are stopped at each step.
use Rattle.std.proofs.Common.{◌≡◌, ◌<◌, ◌≤◌, ◌⊎◌, inl, inr, ℕ, zero, suc, ◌+◌, ◌*◌, ◌/◌, List, [], get_or, length}
use Rattle.std.proofs.Common.{drop, map, refl, sym, ap, ◌∙◌, arith, true, false, true≢false, Bool}
use Rattle.std.specs.Prelude.{nat_lt, ◌&&◌}
use Rattle.std.specs.List.{list_all}
use Rattle.std.proofs.lemmas.Bool.Decides.{nat_tests}
use Rattle.std.proofs.lemmas.List.{drop_more}
use Rattle.pli_typing.specs.Signatures.{element_count, span, leaves_size, leaf_size, rounded_up}
use Rattle.pli_typing.specs.declared.typed.Bounds.{Bounds}
use Rattle.pli_typing.specs.declared.typed.Leaf.{Leaf}
use Rattle.pli_typing.specs.TypedTree as Y
use Rattle.pli_typing.specs.TypedView.{bounds_of, leaf_of}
use Rattle.pli_meaning.specs.DeclaredShapes as shapes
use Rattle.pli_coding.specs.Frames.{last_place, are_constant, is_constant_leaf}
use Rattle.pli_frames.specs.Parts.{stopped}
use Rattle.pli_frames.proofs.Most.{shown_from}

few_or_many : (a : ℕ) → (a < last_place) ⊎ (last_place ≤ a)
few_or_many a = go (nat_lt a last_place) refl
  where
    go : (t : Bool) → nat_lt a last_place ≡ t → (a < last_place) ⊎ (last_place ≤ a)
    go true e = inl (grind (arith, nat_tests))
    go false e = inr (grind (arith, nat_tests))

stopped_few : (a : ℕ) → a < last_place → stopped a ≡ a
stopped_few a h = omega arith

stopped_many : (a : ℕ) → last_place ≤ a → stopped a ≡ last_place
stopped_many a h = omega arith

many_times : (a k : ℕ) → last_place ≤ a → stopped (last_place * suc k) ≡ stopped (a * suc k)
many_times a k h = omega arith

times_none : (a b : ℕ) → stopped (a * 0) ≡ stopped (b * 0)
times_none a b = omega arith

-- a factor counts as far as it is counted, also where the other one is 0
stopped_times : (a b : ℕ) → stopped (stopped a * b) ≡ stopped (a * b)
stopped_times a zero = times_none (stopped a) a
stopped_times a (suc k) = elim (few_or_many a) [ inl h ↦ ap (λ n. stopped (n * suc k)) (stopped_few a h) | inr h ↦ ap (λ n. stopped (n * suc k)) (stopped_many a h) ∙ many_times a k h ]

turned : (a b : ℕ) → a * b ≡ b * a
turned a b = omega arith

times_stopped : (a b : ℕ) → stopped (a * stopped b) ≡ stopped (a * b)
times_stopped a b = ap stopped (turned a (stopped b)) ∙ stopped_times b a ∙ ap stopped (turned b a)

regroup : (a b c : ℕ) → stopped (a * b * c) ≡ stopped (a * (b * c))
regroup a b c = omega arith

-- a product that goes on
next_factor : (before r factor rest whole target : ℕ) → r ≡ stopped (before * stopped factor) → whole ≡ factor * rest → stopped (before * whole) ≡ target → stopped (r * rest) ≡ target
next_factor before r factor rest whole target e w h =
    ap (λ n. stopped (n * rest)) (e ∙ times_stopped before factor)
    ∙ stopped_times (before * factor) rest
    ∙ regroup before factor rest
    ∙ ap (λ n. stopped (before * n)) (sym w)
    ∙ h

-- the elements of one more dimension
pub next_dimension : (xs : List Bounds) (i before elements r target : ℕ) (blank : Bounds) → i < length xs → elements ≡ stopped (span (shapes.bounds_of [] (bounds_of (get_or xs i blank)))) → r ≡ stopped (before * elements) → stopped (before * element_count (map (shapes.bounds_of []) (map bounds_of (drop i xs)))) ≡ target → stopped (r * element_count (map (shapes.bounds_of []) (map bounds_of (drop (i + 1) xs)))) ≡ target
next_dimension xs i before elements r target blank h s n is =
    let count = λ (bs : List Bounds). element_count (map (shapes.bounds_of []) (map bounds_of bs)) in
    next_factor before r (span (shapes.bounds_of [] (bounds_of (get_or xs i blank)))) (count (drop (i + 1) xs)) _ target (n ∙ ap (λ k. stopped (before * k)) s) (ap count (drop_more xs i blank h)) is

pub still_few : (n r : ℕ) → r ≡ stopped n → r ≤ last_place
still_few n r e = omega arith

rounded_stopped : (n : ℕ) → (stopped n + 3) / 4 * 4 ≡ stopped (rounded_up 4 n)
rounded_stopped n = omega arith

-- the bytes of all elements of a leaf
pub of_leaf : (bytes count size : ℕ) → size ≡ stopped ((stopped bytes + 3) / 4 * 4 * stopped count) → size ≡ stopped (rounded_up 4 bytes * count)
of_leaf bytes count size e =
    e ∙ ap (λ n. stopped (n * stopped count)) (rounded_stopped bytes) ∙ times_stopped (stopped (rounded_up 4 bytes)) count ∙ stopped_times (rounded_up 4 bytes) count

plus_stopped : (before here rest : ℕ) → stopped (stopped (before + stopped here) + rest) ≡ stopped (before + (here + rest))
plus_stopped before here rest = omega arith

-- one more leaf
pub next_leaf : (xs : List Leaf) (i before r target : ℕ) (x : Leaf) → i < length xs → x ≡ get_or xs i x → r ≡ stopped (before + stopped (leaf_size (shapes.leaf_of [] (leaf_of x)))) → stopped (before + leaves_size (map (shapes.leaf_of []) (map leaf_of (drop i xs)))) ≡ target → stopped (r + leaves_size (map (shapes.leaf_of []) (map leaf_of (drop (i + 1) xs)))) ≡ target
next_leaf xs i before r target x h e n is =
    let size = λ (ls : List Y.Leaf). leaves_size (map (shapes.leaf_of []) ls) in
    ap (λ k. stopped (k + size (map leaf_of (drop (i + 1) xs)))) n
    ∙ plus_stopped before (leaf_size (shapes.leaf_of [] (leaf_of x))) (size (map leaf_of (drop (i + 1) xs)))
    ∙ ap (λ k. stopped (before + k)) (ap size (sym (shown_from leaf_of xs i x h e)))
    ∙ is

-- ---- a test of all elements

next_true : (b : Bool) (rest target : Bool) → b ≡ true → (b && rest) ≡ target → rest ≡ target
next_true true rest target e is = is
next_true false rest target e is = absurd (true≢false (sym e))

pub next_bounds : (xs : List Bounds) (i : ℕ) (x : Bounds) (target : Bool) → i < length xs → x ≡ get_or xs i x → are_constant (bounds_of x) ≡ true → list_all are_constant (map bounds_of (drop i xs)) ≡ target → list_all are_constant (map bounds_of (drop (i + 1) xs)) ≡ target
next_bounds xs i x target h e t is =
    next_true (are_constant (bounds_of x)) _ target t (ap (list_all are_constant) (sym (shown_from bounds_of xs i x h e)) ∙ is)

pub no_bounds : (xs : List Bounds) (i : ℕ) (x : Bounds) (target : Bool) → i < length xs → x ≡ get_or xs i x → are_constant (bounds_of x) ≡ false → list_all are_constant (map bounds_of (drop i xs)) ≡ target → false ≡ target
no_bounds xs i x target h e t is =
    ap (λ b. b && list_all are_constant (map bounds_of (drop (i + 1) xs))) (sym t) ∙ ap (list_all are_constant) (sym (shown_from bounds_of xs i x h e)) ∙ is

pub next_constant : (xs : List Leaf) (i : ℕ) (x : Leaf) (target : Bool) → i < length xs → x ≡ get_or xs i x → is_constant_leaf (leaf_of x) ≡ true → list_all is_constant_leaf (map leaf_of (drop i xs)) ≡ target → list_all is_constant_leaf (map leaf_of (drop (i + 1) xs)) ≡ target
next_constant xs i x target h e t is =
    next_true (is_constant_leaf (leaf_of x)) _ target t (ap (list_all is_constant_leaf) (sym (shown_from leaf_of xs i x h e)) ∙ is)

pub not_constant : (xs : List Leaf) (i : ℕ) (x : Leaf) (target : Bool) → i < length xs → x ≡ get_or xs i x → is_constant_leaf (leaf_of x) ≡ false → list_all is_constant_leaf (map leaf_of (drop i xs)) ≡ target → false ≡ target
not_constant xs i x target h e t is =
    ap (λ b. b && list_all is_constant_leaf (map leaf_of (drop (i + 1) xs))) (sym t) ∙ ap (list_all is_constant_leaf) (sym (shown_from leaf_of xs i x h e)) ∙ is
