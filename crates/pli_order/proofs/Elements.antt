-- The elements of nests: how many there are, and which one stands at a place.
use Rattle.std.proofs.Common.{zero, suc, ◌≡◌, ◌≤◌, ◌<◌, ℕ, ℤ, ◌+◌, ◌-◌, ◌*◌, ◌/◌, ◌%◌, slice_get, length, map, Some, List, ◌++◌, refl, sym, ap, ◌∙◌, arith}
use Rattle.std.specs.List.{flat_map}
use Rattle.std.proofs.lemmas.List.{length-append, length-map}
use Rattle.pli_typing.specs.Signatures.{Leaf}
use Rattle.pli_meaning.specs.StreamOrder.{Nest, NoNest, NestOf, Element, bounds_of_leaf, elements_inside, leaves_inside, with_more}
use Rattle.pli_order.specs.Counts.{count_each, count_in, leaves_each, row_count}
use Rattle.pli_order.proofs.RowLists.{even_length, even_more, get_behind, get_even, get_front, get_mapped, got, length_more}

pub length_elements : (nest : Nest) (leaf : ℕ) (leaves : List Leaf) (is : List ℤ) → length (elements_inside nest leaf leaves is) ≡ count_in nest leaf leaves (length is)
length_elements NoNest leaf leaves is = refl
length_elements (NestOf d n NoNest behind) leaf leaves is =
    let bs = bounds_of_leaf leaves leaf in
    let rows = with_more n bs is in
    let own = length-map {B = Element} rows (λ js. (leaf, js)) in
    let more = length_more n bs is in
    let rest = length_elements behind (1 + leaf) leaves is in
    let both = length-append {A = Element} (map (λ js. (leaf, js)) rows) (elements_inside behind (1 + leaf) leaves is) in
    omega (arith, own, more, rest, both)
length_elements (NestOf d n (NestOf e m i b) behind) leaf leaves is =
    let nest = NestOf e m i b in
    let bs = bounds_of_leaf leaves leaf in
    let rows = with_more n bs is in
    let own = even_length (λ js. elements_inside nest leaf leaves js) (n + length is) (count_in nest leaf leaves (n + length is)) rows (even_more n bs is) (λ js l. length_elements (NestOf e m i b) leaf leaves js ∙ ap (count_in nest leaf leaves) l) in
    length-append (flat_map (λ js. elements_inside nest leaf leaves js) rows) (elements_inside behind (leaves_inside nest + leaf) leaves is)
    ∙ ap (λ k. k + length (elements_inside behind (leaves_inside nest + leaf) leaves is)) (own ∙ ap (λ k. k * count_in nest leaf leaves (n + length is)) (length_more n bs is))
    ∙ ap (λ k. row_count n bs (length is) * count_in nest leaf leaves (n + length is) + k) (length_elements behind (leaves_inside nest + leaf) leaves is)

-- the elements of a part, without those beside it
abbrev pub own_elements : (dimensions : ℕ) → Nest → (leaf : ℕ) → List Leaf → List ℤ → List Element
own_elements n NoNest leaf leaves is = map (λ js. (leaf, js)) (with_more n (bounds_of_leaf leaves leaf) is)
own_elements n (NestOf d m inside behind) leaf leaves is =
    flat_map (λ js. elements_inside (NestOf d m inside behind) leaf leaves js) (with_more n (bounds_of_leaf leaves leaf) is)

abbrev pub own_count : (dimensions : ℕ) → Nest → (leaf : ℕ) → List Leaf → (before : ℕ) → ℕ
own_count n inside leaf leaves before = row_count n (bounds_of_leaf leaves leaf) before * count_each inside leaf leaves (n + before)

pub elements_apart : (d n : ℕ) (inside behind : Nest) (leaf : ℕ) (leaves : List Leaf) (is : List ℤ)
    → elements_inside (NestOf d n inside behind) leaf leaves is ≡ own_elements n inside leaf leaves is ++ elements_inside behind (leaves_each inside + leaf) leaves is
elements_apart d n NoNest behind leaf leaves is = refl
elements_apart d n (NestOf e m i b) behind leaf leaves is = refl

pub count_apart : (d n : ℕ) (inside behind : Nest) (leaf : ℕ) (leaves : List Leaf) (before : ℕ)
    → count_in (NestOf d n inside behind) leaf leaves before ≡ own_count n inside leaf leaves before + count_in behind (leaves_each inside + leaf) leaves before
count_apart d n NoNest behind leaf leaves before = refl
count_apart d n (NestOf e m i b) behind leaf leaves before = refl

pub leaves_apart : (d n : ℕ) (inside behind : Nest) → leaves_inside (NestOf d n inside behind) ≡ leaves_each inside + leaves_inside behind
leaves_apart d n NoNest behind = refl
leaves_apart d n (NestOf e m i b) behind = refl

length_own : (n : ℕ) (inside : Nest) (leaf : ℕ) (leaves : List Leaf) (is : List ℤ) → length (own_elements n inside leaf leaves is) ≡ own_count n inside leaf leaves (length is)
length_own n NoNest leaf leaves is =
    let own = length-map {B = Element} (with_more n (bounds_of_leaf leaves leaf) is) (λ js. (leaf, js)) in
    let more = length_more n (bounds_of_leaf leaves leaf) is in
    omega (arith, own, more)
length_own n (NestOf e m i b) leaf leaves is =
    let nest = NestOf e m i b in
    even_length (λ js. elements_inside nest leaf leaves js) (n + length is) (count_in nest leaf leaves (n + length is)) (with_more n (bounds_of_leaf leaves leaf) is) (even_more n (bounds_of_leaf leaves leaf) is) (λ js l. length_elements nest leaf leaves js ∙ ap (count_in nest leaf leaves) l)
    ∙ ap (λ k. k * count_in nest leaf leaves (n + length is)) (length_more n (bounds_of_leaf leaves leaf) is)

-- ---- the element at a place

-- one of those beside a part
pub element_past : (d n : ℕ) (inside behind : Nest) (leaf : ℕ) (leaves : List Leaf) (is : List ℤ) (number : ℕ) → own_count n inside leaf leaves (length is) ≤ number
    → slice_get (elements_inside (NestOf d n inside behind) leaf leaves is) number ≡ slice_get (elements_inside behind (leaves_each inside + leaf) leaves is) (number - own_count n inside leaf leaves (length is))
element_past d n inside behind leaf leaves is number h =
    ap (λ l. slice_get l number) (elements_apart d n inside behind leaf leaves is)
    ∙ get_behind (own_elements n inside leaf leaves is) (elements_inside behind (leaves_each inside + leaf) leaves is) number (own_count n inside leaf leaves (length is)) (length_own n inside leaf leaves is) h

element_own : (d n : ℕ) (inside behind : Nest) (leaf : ℕ) (leaves : List Leaf) (is : List ℤ) (number : ℕ) → number < own_count n inside leaf leaves (length is)
    → slice_get (elements_inside (NestOf d n inside behind) leaf leaves is) number ≡ slice_get (own_elements n inside leaf leaves is) number
element_own d n inside behind leaf leaves is number h =
    let l = length_own n inside leaf leaves is in
    ap (λ l. slice_get l number) (elements_apart d n inside behind leaf leaves is)
    ∙ get_front (own_elements n inside leaf leaves is) (elements_inside behind (leaves_each inside + leaf) leaves is) number (omega (arith, l, h))

-- one of a leaf
pub element_here : (d n : ℕ) (behind : Nest) (leaf : ℕ) (leaves : List Leaf) (is : List ℤ) (number : ℕ) → number < own_count n NoNest leaf leaves (length is)
    → slice_get (elements_inside (NestOf d n NoNest behind) leaf leaves is) number ≡ got (slice_get (with_more n (bounds_of_leaf leaves leaf) is) number) (λ js. Some (leaf, js))
element_here d n behind leaf leaves is number h =
    element_own d n NoNest behind leaf leaves is number h ∙ get_mapped {B = Element} (λ js. (leaf, js)) (with_more n (bounds_of_leaf leaves leaf) is) number

-- one of a part with others inside
pub element_within : (d n e m : ℕ) (i b behind : Nest) (leaf : ℕ) (leaves : List Leaf) (is : List ℤ) (number each : ℕ) → each ≡ count_in (NestOf e m i b) leaf leaves (n + length is) → number < own_count n (NestOf e m i b) leaf leaves (length is)
    → slice_get (elements_inside (NestOf d n (NestOf e m i b) behind) leaf leaves is) number ≡ got (slice_get (with_more n (bounds_of_leaf leaves leaf) is) (number / each)) (λ js. slice_get (elements_inside (NestOf e m i b) leaf leaves js) (number % each))
element_within d n e m i b behind leaf leaves is number each c h =
    let nest = NestOf e m i b in
    let rows = row_count n (bounds_of_leaf leaves leaf) (length is) in
    let some : 0 < each = inner rows each number (omega (arith, h, ap (λ k. rows * k) c)) in
    element_own d n nest behind leaf leaves is number h
    ∙ get_even (λ js. elements_inside nest leaf leaves js) (n + length is) each (with_more n (bounds_of_leaf leaves leaf) is) number (even_more n (bounds_of_leaf leaves leaf) is) (λ js l. length_elements nest leaf leaves js ∙ ap (count_in nest leaf leaves) l ∙ sym c) some
  where
    inner : (a c n : ℕ) → n < a * c → 0 < c
    inner a zero n h = absurd (omega (arith, h))
    inner a (suc c) n h = omega arith
