-- Elements of a generation in its own bytes: each within, no two share a byte, and one that is stored.
use Rattle.std.proofs.Common.{◌≡◌, ◌≢◌, ◌⊎◌, inl, inr, ℕ, zero, suc, ◌+◌, ◌*◌, ◌/◌, ◌<◌, ◌≤◌, List, [], ◌∷◌, length}
use Rattle.std.proofs.Common.{Bool, true, false, refl, sym, ap, ◌∙◌, subst, arith}
use Rattle.std.proofs.Math.Nat.{add-mul, mul-le-mul_right}
use Rattle.std.proofs.lemmas.Bool.{cases_lt, eqb-true}
use Rattle.std.proofs.lemmas.Bool.Decides.{nat_tests}
use Rattle.std.proofs.lemmas.Int.{ints}
use Rattle.std.specs.Prelude.{ℤ, pos, negsuc, ◌-ℤ◌, ◌+ℤ◌, int_le, cond, ◌==◌, ◌&&◌, slice_get, unwrap_or}
use Rattle.pli_typing.specs.Signatures.{LeafKind, Bounds, Leaf, natural, span, element_count, leaf_bytes, leaf_size}
use Rattle.pli_typing.specs.Signatures.{leaves_size}
use Rattle.pli_meaning.specs.BasicValues.{BasicValue}
use Rattle.pli_meaning.specs.Contents.{Generation, is_within, same_int, same_subscripts, element_place, with_value}
use Rattle.pli_meaning.specs.Unreachable.{unreachable_leaf}
use Rattle.area_keeper.specs.KeptAreas.{with_part}
use Rattle.pli_serving.specs.Values.{element_size, leaf_place}
use Rattle.storage_relation.proofs.Holders.{eqb-refl}
use Rattle.storage_relation.proofs.Values.{told_beside}
use Rattle.storage_relation.specs.Standing.{leaves_of, leaf_in, place_in, size_of, Reads, IsElement}
use Rattle.storage_relation.specs.Telling.{Tells}

-- ---- tests

pub first_true : (p q : Bool) → p && q ≡ true → p ≡ true
first_true true q e = refl
first_true false q e = e

pub second_true : (p q : Bool) → p && q ≡ true → q ≡ true
second_true true q e = e
second_true false q e = absurd (cc e)

pub and_true : (p q : Bool) → p ≡ true → q ≡ true → p && q ≡ true
and_true p q e f = ap (λ u. u && q) e ∙ f

both_first : (p q r : Bool) → p && (q && r) ≡ (p && q) && r
both_first true q r = refl
both_first false q r = refl

-- ---- places row by row

abbrev pub is_between : Bounds → ℤ → Bool
is_between b i = int_le b.lower i && int_le i b.upper

inside_by : (i l u : ℤ) → int_le l i ≡ true → int_le i u ≡ true → natural (i -ℤ l) < natural (u -ℤ l +ℤ pos 1)
inside_by (pos i) (pos l) (pos u) e f = grind (arith, ints, nat_tests)
inside_by (pos i) (pos l) (negsuc u) e f = absurd (cc f)
inside_by (pos i) (negsuc l) (pos u) e f = grind (arith, ints, nat_tests)
inside_by (pos i) (negsuc l) (negsuc u) e f = absurd (cc f)
inside_by (negsuc i) (pos l) u e f = absurd (cc e)
inside_by (negsuc i) (negsuc l) (pos u) e f = grind (arith, ints, nat_tests)
inside_by (negsuc i) (negsuc l) (negsuc u) e f = grind (arith, ints, nat_tests)

inside_span : (b : Bounds) (i : ℤ) → is_between b i ≡ true → natural (i -ℤ b.lower) < span b
inside_span b i e =
    inside_by i b.lower b.upper (first_true (int_le b.lower i) (int_le i b.upper) e)
    (second_true (int_le b.lower i) (int_le i b.upper) e)

suc-times : (x n : ℕ) → suc x * n ≡ x * n + n
suc-times x n = let e = add-mul x 1 n in let f : suc x ≡ x + 1 = omega arith in ap (λ u. u * n) f ∙ e ∙ omega arith

row_below : (x n y m : ℕ) → x < n → y < m → x * m + y < n * m
row_below x n y m h k =
    let rows : suc x * m ≤ n * m = mul-le-mul_right m (omega (arith, h)) in
    let one = suc-times x m in
    omega (arith, rows, one, k)

pub within_next :
    (b : Bounds) (bs : List Bounds) (i : ℤ) (is : List ℤ) →
    is_within (b ∷ bs) (i ∷ is) ≡ is_between b i && is_within bs is
within_next b bs i is = both_first (int_le b.lower i) (int_le i b.upper) (is_within bs is)

pub place_inside : (bs : List Bounds) (is : List ℤ) → is_within bs is ≡ true → element_place bs is < element_count bs
place_inside [] [] e = omega arith
place_inside [] (i ∷ is) e = absurd (cc e)
place_inside (b ∷ bs) [] e = absurd (cc e)
place_inside (b ∷ bs) (i ∷ is) e =
    let both = sym (within_next b bs i is) ∙ e in
    row_below (natural (i -ℤ b.lower)) (span b) (element_place bs is) (element_count bs)
    (inside_span b i (first_true (is_between b i) (is_within bs is) both))
    (place_inside bs is (second_true (is_between b i) (is_within bs is) both))

row_before : (x x' y y' m : ℕ) → y < m → x < x' → x * m + y < x' * m + y'
row_before x x' y y' m h k =
    let rows : suc x * m ≤ x' * m = mul-le-mul_right m (omega (arith, k)) in
    let one = suc-times x m in
    omega (arith, rows, one, h)

row_same : (x x' y y' m : ℕ) → y < m → y' < m → x * m + y ≡ x' * m + y' → x ≡ x'
row_same x x' y y' m h k e = by_order (cases_lt x x') (cases_lt x' x)
  where
    by_order : (x < x') ⊎ (x' ≤ x) → (x' < x) ⊎ (x ≤ x') → x ≡ x'
    by_order (inl less) other = let r = row_before x x' y y' m h less in absurd (omega (arith, r, e))
    by_order (inr most) (inl less) = let r = row_before x' x y' y m k less in absurd (omega (arith, r, e))
    by_order (inr most) (inr least) = omega (arith, most, least)

column_same : (x x' y y' m : ℕ) → x ≡ x' → x * m + y ≡ x' * m + y' → y ≡ y'
column_same x x' y y' m e f = let g = ap (λ u. u * m) e in omega (arith, f, g)

same_distance : (i j l : ℤ) → int_le l i ≡ true → int_le l j ≡ true → natural (i -ℤ l) ≡ natural (j -ℤ l) → i ≡ j
same_distance (pos i) (pos j) (pos l) e f g = let h : i ≡ j = grind (arith, ints, nat_tests) in ap pos h
same_distance (pos i) (pos j) (negsuc l) e f g = let h : i ≡ j = grind (arith, ints, nat_tests) in ap pos h
same_distance (pos i) (negsuc j) (pos l) e f g = absurd (cc f)
same_distance (pos i) (negsuc j) (negsuc l) e f g = absurd (grind (arith, ints, nat_tests))
same_distance (negsuc i) j (pos l) e f g = absurd (cc e)
same_distance (negsuc i) (pos j) (negsuc l) e f g = absurd (grind (arith, ints, nat_tests))
same_distance (negsuc i) (negsuc j) (negsuc l) e f g = let h : i ≡ j = grind (arith, ints, nat_tests) in ap negsuc h

-- each place is that of one element
pub same_place :
    (bs : List Bounds) (is js : List ℤ) → is_within bs is ≡ true → is_within bs js ≡ true →
    element_place bs is ≡ element_place bs js → is ≡ js
same_place [] [] [] e f g = refl
same_place [] [] (j ∷ js) e f g = absurd (cc f)
same_place [] (i ∷ is) js e f g = absurd (cc e)
same_place (b ∷ bs) [] js e f g = absurd (cc e)
same_place (b ∷ bs) (i ∷ is) [] e f g = absurd (cc f)
same_place (b ∷ bs) (i ∷ is) (j ∷ js) e f g =
    let m = element_count bs in
    let x = natural (i -ℤ b.lower) in
    let x' = natural (j -ℤ b.lower) in
    let first = sym (within_next b bs i is) ∙ e in
    let second = sym (within_next b bs j js) ∙ f in
    let rest = second_true (is_between b i) (is_within bs is) first in
    let rest' = second_true (is_between b j) (is_within bs js) second in
    let above = first_true (int_le b.lower i) (int_le i b.upper)
    (first_true (is_between b i) (is_within bs is) first) in
    let above' = first_true (int_le b.lower j) (int_le j b.upper)
    (first_true (is_between b j) (is_within bs js) second) in
    let row = row_same x x' (element_place bs is) (element_place bs js) m (place_inside bs is rest)
    (place_inside bs js rest') g in
    ap (λ u. u ∷ is) (same_distance i j b.lower above above' row)
    ∙ ap (λ u. j ∷ u) (same_place bs is js rest rest' (column_same x x' (element_place bs is)
    (element_place bs js) m row g))

int_refl : (i : ℤ) → same_int i i ≡ true
int_refl (pos i) = grind (arith, nat_tests)
int_refl (negsuc i) = grind (arith, nat_tests)

pub subscripts_refl : (is : List ℤ) → same_subscripts is is ≡ true
subscripts_refl [] = refl
subscripts_refl (i ∷ is) = and_true (same_int i i) (same_subscripts is is) (int_refl i) (subscripts_refl is)

same_number : (i j : ℤ) → same_int i j ≡ true → i ≡ j
same_number (pos i) (pos j) e = let f : i ≡ j = grind (arith, nat_tests) in ap pos f
same_number (pos i) (negsuc j) e = absurd (cc e)
same_number (negsuc i) (pos j) e = absurd (cc e)
same_number (negsuc i) (negsuc j) e = let f : i ≡ j = grind (arith, nat_tests) in ap negsuc f

pub subscripts_same : (is js : List ℤ) → same_subscripts is js ≡ true → is ≡ js
subscripts_same [] [] e = refl
subscripts_same [] (j ∷ js) e = absurd (cc e)
subscripts_same (i ∷ is) [] e = absurd (cc e)
subscripts_same (i ∷ is) (j ∷ js) e =
    ap (λ u. u ∷ is) (same_number i j (first_true (same_int i j) (same_subscripts is js) e))
    ∙ ap (λ u. j ∷ u) (subscripts_same is js (second_true (same_int i j) (same_subscripts is js) e))

-- ---- elements of a leaf

pub size_covers : (kind : LeafKind) → leaf_bytes kind ≤ element_size kind
size_covers kind = covers (leaf_bytes kind)
  where
    covers : (n : ℕ) → n ≤ (n + 3) / 4 * 4
    covers n = omega arith

times : (s x n : ℕ) → x < n → s * x + s ≤ s * n
times s x n h = grind (arith, h)

pub element_in_leaf :
    (l : Leaf) (is : List ℤ) → is_within l.bounds is ≡ true →
    element_size l.kind * element_place l.bounds is + element_size l.kind ≤ leaf_size l
element_in_leaf l is h =
    times (element_size l.kind) (element_place l.bounds is) (element_count l.bounds) (place_inside l.bounds is h)

-- ---- leaves

abbrev pub leaf_of : List Leaf → ℕ → Leaf
leaf_of ls leaf = unwrap_or (slice_get ls leaf) unreachable_leaf

pub leaf_before :
    (ls : List Leaf) (leaf n : ℕ) → leaf < n → n ≤ length ls →
    leaf_place ls leaf + leaf_size (leaf_of ls leaf) ≤ leaf_place ls n
leaf_before [] leaf n h i = absurd (omega (arith, h, i))
leaf_before (l ∷ ls) leaf zero h i = absurd (omega (arith, h))
leaf_before (l ∷ ls) zero (suc n) h i = omega arith
leaf_before (l ∷ ls) (suc leaf) (suc n) h i =
    let rest = leaf_before ls leaf n (omega (arith, h)) (omega (arith, i)) in omega (arith, rest)

pub leaf_inside :
    (ls : List Leaf) (leaf : ℕ) → leaf < length ls → leaf_place ls leaf + leaf_size (leaf_of ls leaf) ≤ leaves_size ls
leaf_inside [] leaf h = absurd (omega (arith, h))
leaf_inside (l ∷ ls) zero h = omega arith
leaf_inside (l ∷ ls) (suc leaf) h = let rest = leaf_inside ls leaf (omega (arith, h)) in omega (arith, rest)

pub element_inside :
    (g : Generation) (leaf : ℕ) (is : List ℤ) → IsElement g leaf is →
    place_in g leaf is + element_size (leaf_in g leaf).kind ≤ size_of g
element_inside g leaf is h =
    let a = element_in_leaf (leaf_in g leaf) is h.1 in
    let b = leaf_inside (leaves_of g) leaf h.0 in
    omega (arith, a, b)

pub elements_apart :
    (g : Generation) (l leaf : ℕ) (js is : List ℤ) → IsElement g l js → IsElement g leaf is →
    (l == leaf) && same_subscripts js is ≡ false →
    (place_in g l js + element_size (leaf_in g l).kind ≤ place_in g leaf is)
    ⊎ (place_in g leaf is + element_size (leaf_in g leaf).kind ≤ place_in g l js)
elements_apart g l leaf js is a b e = by (cases_lt l leaf) (cases_lt leaf l)
  where
    abbrev_size : ℕ
    abbrev_size = element_size (leaf_in g leaf).kind

    apart_in : (s x y : ℕ) → x ≢ y → (s * x + s ≤ s * y) ⊎ (s * y + s ≤ s * x)
    apart_in s x y ne = in_order (cases_lt x y)
      where
        in_order : (x < y) ⊎ (y ≤ x) → (s * x + s ≤ s * y) ⊎ (s * y + s ≤ s * x)
        in_order (inl h) = inl (times s x y h)
        in_order (inr h) = inr (times s y x (omega (arith, h, ne)))

    same_leaf :
        l ≡ leaf → (place_in g l js + element_size (leaf_in g l).kind ≤ place_in g leaf is)
        ⊎ (place_in g leaf is + element_size (leaf_in g leaf).kind ≤ place_in g l js)
    same_leaf f =
        let bs = (leaf_in g leaf).bounds in
        let within : is_within bs js ≡ true = subst (λ n. is_within (leaf_in g n).bounds js ≡ true) f a.1 in
        let ne : element_place bs js ≢ element_place bs is = λ p.
        let q = same_place bs js is within b.1 p in
        let r : same_subscripts js is ≡ true = subst (λ z. same_subscripts js z ≡ true) q (subscripts_refl js) in
        let t : (l == leaf) ≡ true = subst (λ n. (l == n) ≡ true) f (eqb-refl l) in
        absurd (cc (sym e ∙ and_true (l == leaf) (same_subscripts js is) t r))
        in
        subst (λ n. (place_in g n js + element_size (leaf_in g n).kind ≤ place_in g leaf is)
        ⊎ (place_in g leaf is + element_size (leaf_in g leaf).kind ≤ place_in g n js)) (sym f)
        (beside (apart_in (element_size (leaf_in g leaf).kind) (element_place bs js) (element_place bs is) ne))
      where
        beside :
            (element_size (leaf_in g leaf).kind * element_place (leaf_in g leaf).bounds js + element_size
            (leaf_in g leaf).kind ≤ element_size (leaf_in g leaf).kind * element_place (leaf_in g leaf).bounds is)
            ⊎ (element_size (leaf_in g leaf).kind * element_place (leaf_in g leaf).bounds is + element_size
            (leaf_in g leaf).kind ≤ element_size (leaf_in g leaf).kind * element_place (leaf_in g leaf).bounds js) →
            (place_in g leaf js + element_size (leaf_in g leaf).kind ≤ place_in g leaf is)
            ⊎ (place_in g leaf is + element_size (leaf_in g leaf).kind ≤ place_in g leaf js)
        beside (inl h) = inl (omega (arith, h))
        beside (inr h) = inr (omega (arith, h))

    by :
        (l < leaf) ⊎ (leaf ≤ l) → (leaf < l) ⊎ (l ≤ leaf) →
        (place_in g l js + element_size (leaf_in g l).kind ≤ place_in g leaf is)
        ⊎ (place_in g leaf is + element_size (leaf_in g leaf).kind ≤ place_in g l js)
    by (inl less) o =
        let p = element_in_leaf (leaf_in g l) js a.1 in
        let q = leaf_before (leaves_of g) l leaf less (let h = b.0 in omega (arith, h)) in
        inl (omega (arith, p, q))
    by (inr most) (inl less) =
        let p = element_in_leaf (leaf_in g leaf) is b.1 in
        let q = leaf_before (leaves_of g) leaf l less (let h = a.0 in omega (arith, h)) in
        inr (omega (arith, p, q))
    by (inr most) (inr least) = same_leaf (omega (arith, most, least))

-- ---- one element is stored

pub element_stored :
    (g : Generation) (leaf : ℕ) (is : List ℤ) (v : BasicValue) (b bytes : List ℕ) → Reads g bytes →
    length bytes ≡ size_of g → IsElement g leaf is →
    length b ≤ element_size (leaf_in g leaf).kind →
    Tells (leaf_in g leaf).kind v (place_in g leaf is) (with_part b (place_in g leaf is) bytes) →
    Reads (with_value leaf is v g) (with_part b (place_in g leaf is) bytes)
element_stored g leaf is v b bytes reads long here room tells =
    record { elements = λ l js h i. by l js h i ((l == leaf) && same_subscripts js is) refl }
  where
    by :
        (l : ℕ) (js : List ℤ) → l < length (leaves_of g) → is_within (leaf_in g l).bounds js ≡ true → (q : Bool) →
        (l == leaf) && same_subscripts js is ≡ q →
        Tells (leaf_in g l).kind (cond q v (g.values l js)) (place_in g l js) (with_part b (place_in g leaf is) bytes)
    by l js h i true e =
        let f : l ≡ leaf = eqb-true l leaf (first_true (l == leaf) (same_subscripts js is) e) in
        let k : js ≡ is = subscripts_same js is (second_true (l == leaf) (same_subscripts js is) e) in
        subst (λ n. Tells (leaf_in g n).kind v (place_in g n js) (with_part b (place_in g leaf is) bytes)) (sym f)
        (subst (λ z. Tells (leaf_in g leaf).kind v (place_in g leaf z) (with_part b (place_in g leaf is) bytes))
        (sym k) tells)
    by l js h i false e =
        let own = element_inside g leaf is here in
        let other = element_inside g l js (h, i) in
        let covers = size_covers (leaf_in g l).kind in
        told_beside (leaf_in g l).kind (g.values l js) (place_in g l js) b (place_in g leaf is) bytes
        (omega (arith, own, room, long)) (omega (arith, other, covers, long))
        (aside covers (elements_apart g l leaf js is (h, i) here e)) (reads.elements l js h i)
      where
        aside :
            leaf_bytes (leaf_in g l).kind ≤ element_size (leaf_in g l).kind →
            (place_in g l js + element_size (leaf_in g l).kind ≤ place_in g leaf is)
            ⊎ (place_in g leaf is + element_size (leaf_in g leaf).kind ≤ place_in g l js) →
            (place_in g l js + leaf_bytes (leaf_in g l).kind ≤ place_in g leaf is)
            ⊎ (place_in g leaf is + length b ≤ place_in g l js)
        aside covers (inl x) = inl (omega (arith, x, covers))
        aside covers (inr x) = inr (omega (arith, x, room))
