-- The numbers of nodes, put in from the last list on.
use Rattle.std.proofs.Common.{◌≡◌, ℕ, zero, suc, ◌+◌, ◌-◌, ◌≤◌, ◌<◌, List, [], ◌∷◌, length, drop, Some, None, slice_get, refl, sym, ap, subst, ◌∙◌, arith}
use Rattle.std.proofs.lemmas.List.{drop-drop, length-drop}
use Rattle.pli_edit.specs.declared.format.Node.{Node}
use Rattle.pli_edit.specs.declared.format.Node.TheVariants as N
use Rattle.pli_formats.specs.Sizes.{size_of, nodes_in, sized, with_sizes, AreWithin}

-- ---- no list goes on behind the end

within_drop : (ns : List Node) (k : ℕ) → AreWithin ns → AreWithin (drop k ns)
within_drop ns zero w = w
within_drop [] (suc k) w = tt
within_drop (n ∷ ns) (suc k) w = within_drop ns k w.1

some_size : (n : Node) → 1 ≤ size_of n
some_size (N.Item times f) = omega arith
some_size (N.List times inner) = omega arith

pub inside : (k : ℕ) (ns : List Node) → AreWithin ns → nodes_in k ns ≤ length ns
inside zero ns w = omega arith
inside (suc k) [] w = omega arith
inside (suc k) (n ∷ ns) w =
    let l = length-drop (size_of n) (n ∷ ns) in
    let r = inside k (drop (size_of n) (n ∷ ns)) (within_drop (n ∷ ns) (size_of n) w) in
    let h = w.0 in
    omega (arith, l, r, h)

pub even : (ns : List Node) → length (with_sizes ns) ≡ length ns
even [] = refl
even (n ∷ ns) = ap suc (even ns)

sized_within : (n : Node) (ns : List Node) → AreWithin ns → size_of (sized n ns) ≤ suc (length ns)
sized_within (N.Item times f) ns w = omega arith
sized_within (N.List times count) ns w = let r = inside count ns w in omega (arith, r)

pub are_within : (ns : List Node) → AreWithin (with_sizes ns)
are_within [] = tt
are_within (n ∷ ns) = (sized_within n (with_sizes ns) (are_within ns), are_within ns)

-- ---- items, one after the other

drop_more : (i j : ℕ) (ns : List Node) → drop (i + j) ns ≡ drop j (drop i ns)
drop_more i j ns = sym (drop-drop j i ns)

drop_there : (ns : List Node) (i : ℕ) (n : Node) → slice_get ns i ≡ Some n → drop i ns ≡ n ∷ drop (suc i) ns
drop_there [] i n e = absurd (cc)
drop_there (m ∷ ns) zero n e = let same : m ≡ n = cc in ap (λ x. x ∷ ns) same
drop_there (m ∷ ns) (suc i) n e = drop_there ns i n e

drop_past : (ns : List Node) (i : ℕ) → slice_get ns i ≡ None → drop i ns ≡ []
drop_past [] zero e = refl
drop_past [] (suc i) e = refl
drop_past (m ∷ ns) zero e = absurd (cc)
drop_past (m ∷ ns) (suc i) e = drop_past ns i e

pub further_high : (ns : List Node) (i size : ℕ) (n : Node) → slice_get ns i ≡ Some n → size ≡ size_of n → AreWithin (drop i ns) → i ≤ length ns → i + size ≤ length ns
further_high ns i size n e s w low =
    let there = drop_there ns i n e in
    let h = (subst (λ l. AreWithin l) there w).0 in
    let l = length-drop i ns in
    let k = ap length there in
    omega (arith, h, l, k, s, low)

pub further_within : (ns : List Node) (i size : ℕ) → AreWithin (drop i ns) → AreWithin (drop (i + size) ns)
further_within ns i size w = rw (drop_more i size ns) (within_drop (drop i ns) size w)

next_counted : (k : ℕ) (n : Node) (ns all : List Node) → all ≡ n ∷ ns → nodes_in (suc k) all ≡ size_of n + nodes_in k (drop (size_of n) all)
next_counted k n ns all e = rw e refl

pub further_counted : (ns : List Node) (i size left start total : ℕ) (n : Node) → slice_get ns i ≡ Some n → size ≡ size_of n → 0 < left → start ≤ i → (i - start) + nodes_in left (drop i ns) ≡ total → (i + size - start) + nodes_in (left - 1) (drop (i + size) ns) ≡ total
further_counted ns i size zero start total n e s some low h = absurd (omega arith)
further_counted ns i size (suc left) start total n e s some low h =
    let next = next_counted left n (drop (suc i) ns) (drop i ns) (drop_there ns i n e) in
    let one : suc left - 1 ≡ left = omega arith in
    let behind : nodes_in (suc left - 1) (drop (i + size) ns) ≡ nodes_in left (drop (size_of n) (drop i ns)) = ap (λ k. nodes_in k (drop (i + size) ns)) one ∙ (ap (nodes_in left) (drop_more i size ns) ∙ ap (λ k. nodes_in left (drop k (drop i ns))) s) in
    omega (arith, next, behind, s, low, h)

none_left : (left : ℕ) (ns : List Node) → ns ≡ [] → nodes_in left ns ≡ 0
none_left zero ns e = refl
none_left (suc left) ns e = rw e refl

pub ended_past : (ns : List Node) (i left start total : ℕ) → slice_get ns i ≡ None → (i - start) + nodes_in left (drop i ns) ≡ total → i - start ≡ total
ended_past ns i left start total e h = let none = none_left left (drop i ns) (drop_past ns i e) in omega (arith, none, h)

-- ---- sizes put in

pub within_behind : (i : ℕ) (nodes old : List Node) → 0 < i → drop i nodes ≡ with_sizes (drop i old) → AreWithin (drop (i - 1 + 1) nodes)
within_behind i nodes old some e = let same : i - 1 + 1 ≡ i = omega arith in rw (same, e) (are_within (drop i old))
