-- The bytes in which a generation begins: each element finds its own.
use Rattle.std.proofs.Common.{◌≡◌, ℕ, zero, suc, ◌+◌, ◌-◌, ◌*◌, ◌<◌, ◌≤◌, List, [], ◌∷◌, ◌++◌, take, drop, length, Some}
use Rattle.std.proofs.Common.{true, refl, sym, ap, ◌∙◌, arith, length-append}
use Rattle.std.proofs.Math.Nat.{add-mul}
use Rattle.std.proofs.lemmas.Bool.Decides.{nat_tests}
use Rattle.std.proofs.lemmas.Int.{ints}
use Rattle.std.proofs.lemmas.List.{append_assoc, length-replicate, take_at}
use Rattle.std.specs.List.{flat_map}
use Rattle.std.specs.Prelude.{ℤ, pos, negsuc, ◌-ℤ◌, ◌+ℤ◌, int_le, slice_get, replicate}
use Rattle.rv_meaning.specs.Words.{word}
use Rattle.pli_typing.specs.Signatures.{LeafKind, Fixed, Character, Varying, Bit, Pointer, Offset, Area, Bounds, Leaf}
use Rattle.pli_typing.specs.Signatures.{natural, span, element_count, leaf_bytes, leaf_size, leaves_size}
use Rattle.pli_meaning.specs.BasicValues.{Name, NullName, VariableName, BasedName, BasicValue, BasicText, BasicBit}
use Rattle.pli_meaning.specs.BasicValues.{BasicPointer, BasicOffset}
use Rattle.pli_meaning.specs.Contents.{Generation, number_in, text_in, name_in, is_within, element_place}
use Rattle.pli_meaning.specs.Stream.{blanks}
use Rattle.pli_meaning.specs.StreamOrder.{numbers_from, subscripts_of, with_more}
use Rattle.area_keeper.specs.KeptAreas.{part}
use Rattle.pli_serving.specs.Bytes.{number_bytes, name_bytes}
use Rattle.pli_serving.specs.Values.{value_bytes, element_size, element_bytes, all_subscripts, leaf_data, leaves_data}
use Rattle.pli_serving.specs.Values.{leaf_place, generation_bytes}
use Rattle.storage_relation.proofs.Elements.{first_true, second_true, is_between, within_next, place_inside}
use Rattle.storage_relation.proofs.Elements.{size_covers, leaf_of, element_in_leaf}
use Rattle.storage_relation.proofs.Values.{number_length, fitted_length, fitted_is, sub, telling_fits}
use Rattle.storage_relation.specs.Standing.{leaves_of, leaf_in, place_in, size_of, Reads, IsValued}
use Rattle.storage_relation.specs.Telling.{IsOf, telling, HasValues, AllHaveValues}

-- ---- one element

name_length : (n : Name) → length (name_bytes n) ≡ 16
name_length NullName = refl
name_length (VariableName serial) = refl
name_length (BasedName a o) = refl

value_length : (kind : LeafKind) (v : BasicValue) → HasValues kind → length (value_bytes kind v) ≡ leaf_bytes kind
value_length (Fixed p) v h = number_length (leaf_bytes (Fixed p)) (word (number_in v))
value_length (Character n) v h = fitted_length n (text_in v)
value_length (Varying n) v h = let e = fitted_length n (text_in v) in omega (arith, e)
value_length Bit v h = refl
value_length Pointer v h = name_length (name_in v)
value_length Offset v h = refl
value_length (Area n) v h = absurd h

pub element_length :
    (kind : LeafKind) (v : BasicValue) → HasValues kind → length (element_bytes kind v) ≡ element_size kind
element_length kind v h =
    let a = value_length kind v h in
    let b = length-append (value_bytes kind v) (replicate (element_size kind - leaf_bytes kind) 0) in
    let c = length-replicate {A = ℕ} (element_size kind - leaf_bytes kind) 0 in
    let d = size_covers kind in
    omega (arith, a, b, c, d)

-- what tells a value stands first
front :
    (kind : LeafKind) (v : BasicValue) → IsOf kind v → (rest : List ℕ) × (value_bytes kind v ≡ telling kind v ++ rest)
front (Fixed p) v h = ([], none (value_bytes (Fixed p) v))
  where
    none : (xs : List ℕ) → xs ≡ xs ++ []
    none [] = refl
    none (x ∷ xs) = ap (λ l. x ∷ l) (none xs)
front (Character n) (BasicText t) h = ([], take_at t (blanks n) n h ∙ none t)
  where
    none : (xs : List ℕ) → xs ≡ xs ++ []
    none [] = refl
    none (x ∷ xs) = ap (λ l. x ∷ l) (none xs)
front (Varying n) (BasicText t) h =
    (take (n - length t) (blanks n), ap (λ u. number_bytes 2 (length t) ++ u) (fitted_is n t h.0))
front Bit (BasicBit b) h = ([], refl)
front Pointer (BasicPointer NullName) h = ([], refl)
front Pointer (BasicPointer (VariableName serial)) h = ([], refl)
front Pointer (BasicPointer (BasedName a o)) h = ([], refl)
front Offset (BasicOffset o) h = ([], refl)
front _ _ h = absurd h

element_told :
    (kind : LeafKind) (v : BasicValue) → IsOf kind v → part 0 (length (telling kind v)) (element_bytes kind v)
    ≡ telling kind v
element_told kind v h =
    let f = front kind v h in
    let zeros = replicate (element_size kind - leaf_bytes kind) 0 in
    ap (λ u. take (length (telling kind v)) (u ++ zeros)) f.1
    ∙ ap (take (length (telling kind v))) (append_assoc (telling kind v) f.0 zeros)
    ∙ take_at (telling kind v) (f.0 ++ zeros) (length (telling kind v)) refl

-- ---- subscripts in their order

get_left : {A : Type 0} (xs ys : List A) (n : ℕ) → n < length xs → slice_get (xs ++ ys) n ≡ slice_get xs n
get_left [] ys n h = absurd (omega (arith, h))
get_left (x ∷ xs) ys zero h = refl
get_left (x ∷ xs) ys (suc n) h = get_left xs ys n (omega (arith, h))

get_right : {A : Type 0} (xs ys : List A) (n : ℕ) → slice_get (xs ++ ys) (length xs + n) ≡ slice_get ys n
get_right [] ys n = let e : 0 + n ≡ n = omega arith in ap (slice_get ys) e
get_right (x ∷ xs) ys n =
    let e : suc (length xs) + n ≡ suc (length xs + n) = omega arith in
    ap (slice_get (x ∷ (xs ++ ys))) e ∙ get_right xs ys n

suc-times : (x n : ℕ) → suc x * n ≡ n + x * n
suc-times x n = let e = add-mul x 1 n in let f : suc x ≡ x + 1 = omega arith in ap (λ u. u * n) f ∙ e ∙ omega arith

one_ahead : (l : ℤ) (m : ℕ) → (l +ℤ pos 1) +ℤ pos m ≡ l +ℤ pos (suc m)
one_ahead (pos l) m = omega (arith, ints)
one_ahead (negsuc l) m = omega (arith, ints)

none_ahead : (l : ℤ) → l +ℤ pos 0 ≡ l
none_ahead (pos l) = omega (arith, ints)
none_ahead (negsuc l) = omega (arith, ints)

row_at :
    (f : ℤ → List (List ℤ)) (l : ℤ) (k d c p : ℕ) → ((i : ℤ) → length (f i) ≡ c) → d < k → p < c →
    slice_get (flat_map f (numbers_from l k)) (d * c + p) ≡ slice_get (f (l +ℤ pos d)) p
row_at f l zero d c p long h i = absurd (omega (arith, h))
row_at f l (suc k) zero c p long h i =
    let e : 0 * c + p ≡ p = omega arith in
    let g = long l in
    ap (slice_get (f l ++ flat_map f (numbers_from (l +ℤ pos 1) k))) e
    ∙ get_left (f l) (flat_map f (numbers_from (l +ℤ pos 1) k)) p (omega (arith, g, i))
    ∙ ap (λ z. slice_get (f z) p) (sym (none_ahead l))
row_at f l (suc k) (suc d) c p long h i =
    let g = long l in
    let t = suc-times d c in
    let e : suc d * c + p ≡ length (f l) + (d * c + p) = omega (arith, g, t) in
    ap (slice_get (f l ++ flat_map f (numbers_from (l +ℤ pos 1) k))) e
    ∙ get_right (f l) (flat_map f (numbers_from (l +ℤ pos 1) k)) (d * c + p)
    ∙ row_at f (l +ℤ pos 1) k d c p long (omega (arith, h)) i
    ∙ ap (λ z. slice_get (f z) p) (one_ahead l d)

numbers_counted : (z : ℤ) (n : ℕ) → length (numbers_from z n) ≡ n
numbers_counted z zero = refl
numbers_counted z (suc n) = ap (λ m. suc m) (numbers_counted (z +ℤ pos 1) n)

each_counted :
    {A : Type 0} (f : A → List (List ℤ)) (xs : List A) (n : ℕ) → ((x : A) → length (f x) ≡ n) →
    length (flat_map f xs) ≡ length xs * n
each_counted f [] n h = omega arith
each_counted f (x ∷ xs) n h =
    let a = length-append (f x) (flat_map f xs) in
    let b = h x in
    let c = each_counted f xs n h in
    let d = suc-times (length xs) n in
    omega (arith, a, b, c, d)

pub bounds_behind :
    (before : List Bounds) (b : Bounds) (bs : List Bounds) (n : ℕ) → n ≡ length before →
    slice_get (before ++ b ∷ bs) n ≡ Some b
bounds_behind [] b bs zero e = refl
bounds_behind [] b bs (suc n) e = absurd (omega (arith, e))
bounds_behind (c ∷ before) b bs zero e = absurd (omega (arith, e))
bounds_behind (c ∷ before) b bs (suc n) e = bounds_behind before b bs n (omega (arith, e))

more_counted :
    (bs before : List Bounds) (is : List ℤ) → length is ≡ length before →
    length (with_more (length bs) (before ++ bs) is) ≡ element_count bs
more_counted [] before is e = refl
more_counted (b ∷ bs) before is e =
    let next' : (i : ℤ) → length (with_more (length bs) (before ++ b ∷ bs) (is ++ i ∷ [])) ≡ element_count bs = λ i.
    let a = length-append is (i ∷ []) in
    let c = length-append before (b ∷ []) in
    ap (λ u. length (with_more (length bs) u (is ++ i ∷ []))) (sym (append_assoc before (b ∷ []) bs))
    ∙ more_counted bs (before ++ b ∷ []) (is ++ i ∷ []) (omega (arith, a, c, e)) in
    ap (λ o. length (flat_map (λ i. with_more (length bs) (before ++ b ∷ bs) (is ++ i ∷ [])) (subscripts_of o)))
    (bounds_behind before b bs (length is) e)
    ∙ each_counted (λ i. with_more (length bs) (before ++ b ∷ bs) (is ++ i ∷ [])) (numbers_from b.lower (span b))
    (element_count bs) next'
    ∙ ap (λ u. u * element_count bs) (numbers_counted b.lower (span b))

back_to : (i l : ℤ) → int_le l i ≡ true → l +ℤ pos (natural (i -ℤ l)) ≡ i
back_to (pos i) (pos l) e = grind (arith, ints, nat_tests)
back_to (pos i) (negsuc l) e = grind (arith, ints, nat_tests)
back_to (negsuc i) (pos l) e = absurd (cc e)
back_to (negsuc i) (negsuc l) e = grind (arith, ints, nat_tests)

inside_by : (i l u : ℤ) → int_le l i ≡ true → int_le i u ≡ true → natural (i -ℤ l) < natural (u -ℤ l +ℤ pos 1)
inside_by (pos i) (pos l) (pos u) e f = grind (arith, ints, nat_tests)
inside_by (pos i) (pos l) (negsuc u) e f = absurd (cc f)
inside_by (pos i) (negsuc l) (pos u) e f = grind (arith, ints, nat_tests)
inside_by (pos i) (negsuc l) (negsuc u) e f = absurd (cc f)
inside_by (negsuc i) (pos l) u e f = absurd (cc e)
inside_by (negsuc i) (negsuc l) (pos u) e f = grind (arith, ints, nat_tests)
inside_by (negsuc i) (negsuc l) (negsuc u) e f = grind (arith, ints, nat_tests)

more_at :
    (bs before : List Bounds) (is js : List ℤ) → length is ≡ length before → is_within bs js ≡ true →
    slice_get (with_more (length bs) (before ++ bs) is) (element_place bs js) ≡ Some (is ++ js)
more_at [] before is [] e w = ap Some (none is)
  where
    none : (xs : List ℤ) → xs ≡ xs ++ []
    none [] = refl
    none (x ∷ xs) = ap (λ l. x ∷ l) (none xs)
more_at [] before is (j ∷ js) e w = absurd (cc w)
more_at (b ∷ bs) before is [] e w = absurd (cc w)
more_at (b ∷ bs) before is (j ∷ js) e w =
    let c = element_count bs in
    let f : ℤ → List (List ℤ) = λ i. with_more (length bs) (before ++ b ∷ bs) (is ++ i ∷ []) in
    let both = sym (within_next b bs j js) ∙ w in
    let between = first_true (is_between b j) (is_within bs js) both in
    let rest = second_true (is_between b j) (is_within bs js) both in
    let low = first_true (int_le b.lower j) (int_le j b.upper) between in
    let high = second_true (int_le b.lower j) (int_le j b.upper) between in
    let d = natural (j -ℤ b.lower) in
    let a : (i : ℤ) → length (is ++ i ∷ []) ≡ length (before ++ b ∷ []) = λ i.
    let x = length-append is (i ∷ []) in
    let y = length-append before (b ∷ []) in
    omega (arith, x, y, e) in
    let long : (i : ℤ) → length (f i) ≡ c = λ i.
    ap (λ u. length (with_more (length bs) u (is ++ i ∷ []))) (sym (append_assoc before (b ∷ []) bs))
    ∙ more_counted bs (before ++ b ∷ []) (is ++ i ∷ []) (a i) in
    ap (λ o. slice_get (flat_map f (subscripts_of o)) (d * c + element_place bs js))
    (bounds_behind before b bs (length is) e)
    ∙ row_at f b.lower (span b) d c (element_place bs js) long (inside_by j b.lower b.upper low high)
    (place_inside bs js rest)
    ∙ ap (λ z. slice_get (f z) (element_place bs js)) (back_to j b.lower low)
    ∙ ap (λ u. slice_get (with_more (length bs) u (is ++ j ∷ [])) (element_place bs js))
    (sym (append_assoc before (b ∷ []) bs))
    ∙ more_at bs (before ++ b ∷ []) (is ++ j ∷ []) js (a j) rest
    ∙ ap Some (append_assoc is (j ∷ []) js)

-- each stands at its place
pub subscripts_at :
    (bs : List Bounds) (js : List ℤ) → is_within bs js ≡ true →
    slice_get (all_subscripts bs) (element_place bs js) ≡ Some js
subscripts_at bs js w = more_at bs [] [] js refl w

pub subscripts_counted : (bs : List Bounds) → length (all_subscripts bs) ≡ element_count bs
subscripts_counted bs = more_counted bs [] [] refl

-- ---- pieces of one length

pieces_length :
    {A : Type 0} (h : A → List ℕ) (xs : List A) (s : ℕ) → ((x : A) → length (h x) ≡ s) →
    length (flat_map h xs) ≡ length xs * s
pieces_length h [] s e = omega arith
pieces_length h (x ∷ xs) s e =
    let a = length-append (h x) (flat_map h xs) in
    let b = e x in
    let c = pieces_length h xs s e in
    let d = suc-times (length xs) s in
    omega (arith, a, b, c, d)

drop_more : {A : Type 0} (xs ys : List A) (n : ℕ) → drop (length xs + n) (xs ++ ys) ≡ drop n ys
drop_more [] ys n = let e : 0 + n ≡ n = omega arith in ap (λ k. drop k ys) e
drop_more (x ∷ xs) ys n =
    let e : suc (length xs) + n ≡ suc (length xs + n) = omega arith in
    ap (λ k. drop k (x ∷ (xs ++ ys))) e ∙ drop_more xs ys n

piece_at :
    {A : Type 0} (h : A → List ℕ) (xs : List A) (x : A) (s p : ℕ) → ((y : A) → length (h y) ≡ s) →
    slice_get xs p ≡ Some x →
    part (p * s) s (flat_map h xs) ≡ h x
piece_at h [] x s p e f = absurd (cc f)
piece_at h (y ∷ xs) x s zero e f =
    let g : y ≡ x = cc f in
    let z : 0 * s ≡ 0 = omega arith in
    ap (λ k. take s (drop k (h y ++ flat_map h xs))) z ∙ take_at (h y) (flat_map h xs) s (e y) ∙ ap h g
piece_at h (y ∷ xs) x s (suc p) e f =
    let a = e y in
    let t = suc-times p s in
    let z : suc p * s ≡ length (h y) + p * s = omega (arith, a, t) in
    ap (λ k. take s (drop k (h y ++ flat_map h xs))) z ∙ ap (take s) (drop_more (h y) (flat_map h xs) (p * s))
    ∙ piece_at h xs x s p e f

-- ---- leaves

pub leaf_length :
    (l : Leaf) (values : List ℤ → BasicValue) → HasValues l.kind → length (leaf_data l values) ≡ leaf_size l
leaf_length l values h =
    let a = pieces_length (λ is. element_bytes l.kind (values is)) (all_subscripts l.bounds) (element_size l.kind)
    (λ is. element_length l.kind (values is) h) in
    let b = subscripts_counted l.bounds in
    a ∙ ap (λ n. n * element_size l.kind) b ∙ turned (element_count l.bounds) (element_size l.kind)
  where
    turned : (x y : ℕ) → x * y ≡ y * x
    turned x y = grind arith

pub leaves_length :
    (first : ℕ) (ls : List Leaf) (values : ℕ → List ℤ → BasicValue) → AllHaveValues ls →
    length (leaves_data first ls values) ≡ leaves_size ls
leaves_length first [] values h = refl
leaves_length first (l ∷ ls) values h =
    let a = length-append (leaf_data l (values first)) (leaves_data (suc first) ls values) in
    let b = leaf_length l (values first) h.0 in
    let c = leaves_length (suc first) ls values h.1 in
    omega (arith, a, b, c)

leaf_found :
    (first : ℕ) (ls : List Leaf) (values : ℕ → List ℤ → BasicValue) (leaf y n : ℕ) → AllHaveValues ls →
    leaf < length ls → y + n ≤ leaf_size (leaf_of ls leaf) →
    part (leaf_place ls leaf + y) n (leaves_data first ls values)
    ≡ part y n (leaf_data (leaf_of ls leaf) (values (first + leaf)))
leaf_found first [] values leaf y n h i j = absurd (omega (arith, i))
leaf_found first (l ∷ ls) values zero y n h i j =
    let a = leaf_length l (values first) h.0 in
    let xs = leaf_data l (values first) in
    let ys = leaves_data (suc first) ls values in
    let z : 0 + y ≡ y = omega arith in
    let f : first + 0 ≡ first = omega arith in
    ap (λ k. part k n (xs ++ ys)) z ∙ part_left xs ys y n (omega (arith, a, j))
    ∙ ap (λ k. part y n (leaf_data l (values k))) (sym f)
  where
    part_left : (xs ys : List ℕ) (y n : ℕ) → y + n ≤ length xs → part y n (xs ++ ys) ≡ part y n xs
    part_left xs ys zero n h = take_in xs ys n (omega (arith, h))
      where
        take_in : (xs ys : List ℕ) (n : ℕ) → n ≤ length xs → take n (xs ++ ys) ≡ take n xs
        take_in xs ys zero h = refl
        take_in [] ys (suc n) h = absurd (omega (arith, h))
        take_in (x ∷ xs) ys (suc n) h = ap (λ l. x ∷ l) (take_in xs ys n (omega (arith, h)))
    part_left [] [] (suc y) n h = refl
    part_left [] (z ∷ ys) (suc y) n h = absurd (omega (arith, h))
    part_left (x ∷ xs) ys (suc y) n h = part_left xs ys y n (omega (arith, h))
leaf_found first (l ∷ ls) values (suc leaf) y n h i j =
    let a = leaf_length l (values first) h.0 in
    let xs = leaf_data l (values first) in
    let ys = leaves_data (suc first) ls values in
    let z : leaf_size l + leaf_place ls leaf + y ≡ length xs + (leaf_place ls leaf + y) = omega (arith, a) in
    let f : suc first + leaf ≡ first + suc leaf = omega arith in
    ap (λ k. part k n (xs ++ ys)) z
    ∙ ap (take n) (drop_more xs ys (leaf_place ls leaf + y))
    ∙ leaf_found (suc first) ls values leaf y n h.1 (omega (arith, i)) j
    ∙ ap (λ k. part y n (leaf_data (leaf_of ls leaf) (values k))) f

has_values : (ls : List Leaf) (leaf : ℕ) → AllHaveValues ls → leaf < length ls → HasValues (leaf_of ls leaf).kind
has_values [] leaf h i = absurd (omega (arith, i))
has_values (l ∷ ls) zero h i = h.0
has_values (l ∷ ls) (suc leaf) h i = has_values ls leaf h.1 (omega (arith, i))

-- ---- a generation

pub spelled_length : (g : Generation) → AllHaveValues (leaves_of g) → length (generation_bytes g) ≡ size_of g
spelled_length g h = leaves_length 0 (leaves_of g) g.values h

pub reads_spelled : (g : Generation) → AllHaveValues (leaves_of g) → IsValued g → Reads g (generation_bytes g)
reads_spelled g all valued =
    record {
      elements = λ leaf is h w.
          let l = leaf_in g leaf in
          let v = g.values leaf is in
          let s = element_size l.kind in
          let fits = valued leaf is h w in
          let n = length (telling l.kind v) in
          let few = telling_fits l.kind v fits in
          let covers = size_covers l.kind in
          let inside = element_in_leaf l is w in
          let has = has_values (leaves_of g) leaf all h in
          let p = element_place l.bounds is in
          let turned : s * p ≡ p * s = times s p in
          let z : 0 + leaf ≡ leaf = omega arith in
          let zero' : place_in g leaf is ≡ leaf_place (leaves_of g) leaf + s * p = omega arith in
          let none : s * p + 0 ≡ s * p = omega arith in
          let own : part (s * p) s (leaf_data l (g.values leaf)) ≡ element_bytes l.kind v =
          ap (λ k. part k s (leaf_data l (g.values leaf))) turned
          ∙ piece_at (λ js. element_bytes l.kind (g.values leaf js)) (all_subscripts l.bounds) is s p
          (λ js. element_length l.kind (g.values leaf js) has) (subscripts_at l.bounds is w)
          in
          record {
            fits = fits;
            tells =
                ap (λ k. part k n (generation_bytes g)) zero'
                ∙ leaf_found 0 (leaves_of g) g.values leaf (s * p) n all h (omega (arith, few, covers, inside))
                ∙ ap (λ k. part (s * p) n (leaf_data l (g.values k))) z
                ∙ ap (λ k. part k n (leaf_data l (g.values leaf))) (sym none)
                ∙ sub (s * p) s 0 n (leaf_data l (g.values leaf)) (element_bytes l.kind v) own
                (omega (arith, few, covers))
                ∙ element_told l.kind v fits;
          };
    }
  where
    times : (x y : ℕ) → x * y ≡ y * x
    times x y = grind arith
