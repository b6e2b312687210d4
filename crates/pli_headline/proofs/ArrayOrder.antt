-- The elements of an array in the order in which their bytes stand: their places count up from 0. So the bytes of all elements are those
-- of each place in turn, and each element finds its own.
use Rattle.std.proofs.Common.{◌≡◌, ℕ, zero, suc, ◌+◌, ◌-◌, ◌*◌, ◌<◌, ◌≤◌, ◌⊎◌, inl, inr, List, [], ◌∷◌, ◌++◌, length, map, refl, sym, ap, ◌∙◌, subst, arith, length-append, append_assoc}
use Rattle.std.specs.Prelude.{ℤ, pos, negsuc, ◌+ℤ◌, ◌-ℤ◌, slice_index}
use Rattle.std.specs.List.{flat_map}
use Rattle.std.proofs.lemmas.Int.{ints}
use Rattle.std.proofs.lemmas.Bool.{cases_lt}
use Rattle.std.proofs.lemmas.Bool.Decides.{nat_tests}
use Rattle.std.proofs.lemmas.List.{get_or_append_left, get_or-append_right}
use Rattle.rv_meaning.specs.Words.{word}
use Rattle.rv_meaning.proofs.MemoryLaws.{load-same}
use Rattle.pli_typing.specs.Signatures.{Bounds, natural, span, element_count}
use Rattle.pli_typing.specs.TypedTree as Y
use Rattle.pli_meaning.specs.Contents.{element_place}
use Rattle.pli_meaning.specs.StreamOrder.{numbers_from, subscripts_of, with_more}
use Rattle.pli_serving.specs.Bytes.{with_bytes}
use Rattle.pli_serving.specs.Values.{all_subscripts}
use Rattle.run_steps.proofs.Numbers.{word_small}
use Rattle.pli_headline.proofs.Scalars.{Fits, fits_wide, store_kind}
use Rattle.pli_headline.proofs.WrittenBytes.{byte-with_inside}
use Rattle.pli_headline.proofs.Cells.{Cell, kind_bytes, kind_length, cell_written, content_word}
use Rattle.pli_headline.proofs.ElementsStay.{ElementsThere, contents_of}
use Rattle.pli_headline.proofs.ArrayPlaces.{suc-times}
use Rattle.pli_headline.proofs.ArraysMade.{bounds_behind}

-- so many places from one on
abbrev pub places_from : (first count : ℕ) → List ℕ
places_from first zero = []
places_from first (suc n) = first ∷ places_from (suc first) n

places_split : (m first n : ℕ) → places_from first (m + n) ≡ places_from first m ++ places_from (first + m) n
places_split zero first n =
    let e : 0 + n ≡ n = omega arith in
    let f : first ≡ first + 0 = omega arith in
    ap (places_from first) e ∙ ap (λ k. places_from k n) f
places_split (suc m) first n =
    let e : suc m + n ≡ suc (m + n) = omega arith in
    let f : suc first + m ≡ first + suc m = omega arith in
    ap (places_from first) e ∙ ap (λ u. first ∷ u) (places_split m (suc first) n) ∙ ap (λ k. (first ∷ places_from (suc first) m) ++ places_from k n) f

-- ---- in order

map_append : {A B : Type 0} (f : A → B) (xs ys : List A) → map f (xs ++ ys) ≡ map f xs ++ map f ys
map_append f [] ys = refl
map_append f (x ∷ xs) ys = ap (λ u. f x ∷ u) (map_append f xs ys)

append_none : {A : Type 0} (xs : List A) → xs ++ [] ≡ xs
append_none [] = refl
append_none (x ∷ xs) = ap (λ u. x ∷ u) (append_none xs)

ahead : (l : ℤ) (m : ℕ) → natural ((l +ℤ pos m) -ℤ l) ≡ m
ahead (pos l) m = grind (arith, ints, nat_tests)
ahead (negsuc l) m = grind (arith, ints, nat_tests)

one_ahead : (l : ℤ) (m : ℕ) → (l +ℤ pos m) +ℤ pos 1 ≡ l +ℤ pos (suc m)
one_ahead (pos l) m = omega (arith, ints)
one_ahead (negsuc l) m = omega (arith, ints)

-- the rows of a dimension, from one on
rows_ordered : (f : ℤ → List (List ℤ)) (place : List ℤ → ℕ) (l : ℤ) (m k base n : ℕ) → ((i : ℤ) → map place (f i) ≡ places_from (base + natural (i -ℤ l) * n) n) → map place (flat_map f (numbers_from (l +ℤ pos m) k)) ≡ places_from (base + m * n) (k * n)
rows_ordered f place l m zero base n each =
    let e : 0 ≡ 0 * n = omega arith in
    ap (places_from (base + m * n)) e
rows_ordered f place l m (suc k) base n each =
    let i = l +ℤ pos m in
    let one = suc-times k n in
    let all : n + k * n ≡ suc k * n = omega (arith, one) in
    let next' = suc-times m n in
    let here : base + m * n + n ≡ base + suc m * n = omega (arith, next') in
    map_append place (f i) (flat_map f (numbers_from (i +ℤ pos 1) k))
    ∙ ap (λ u. u ++ map place (flat_map f (numbers_from (i +ℤ pos 1) k))) (each i ∙ ap (λ u. places_from (base + u * n) n) (ahead l m))
    ∙ ap (λ z. places_from (base + m * n) n ++ map place (flat_map f (numbers_from z k))) (one_ahead l m)
    ∙ ap (λ u. places_from (base + m * n) n ++ u) (rows_ordered f place l (suc m) k base n each)
    ∙ ap (λ u. places_from (base + m * n) n ++ places_from u (k * n)) (sym here)
    ∙ sym (places_split n (base + m * n) (k * n))
    ∙ ap (places_from (base + m * n)) all

more_ordered : (bs front : List Bounds) (is : List ℤ) (place : List ℤ → ℕ) (base : ℕ) → length is ≡ length front → ((js : List ℤ) → place (is ++ js) ≡ base + element_place bs js) → map place (with_more (length bs) (front ++ bs) is) ≡ places_from base (element_count bs)
more_ordered [] front is place base e at =
    let a = ap place (sym (append_none is)) ∙ at [] in
    let same : place is ≡ base = omega (arith, a) in
    ap (λ p. p ∷ []) same
more_ordered (b ∷ bs) front is place base e at =
    let n = element_count bs in
    let f : ℤ → List (List ℤ) = λ i. with_more (length bs) (front ++ b ∷ bs) (is ++ i ∷ []) in
    let each : (i : ℤ) → map place (f i) ≡ places_from (base + natural (i -ℤ b.lower) * n) n = λ i.
    let a = length-append is (i ∷ []) in
    let c = length-append front (b ∷ []) in
    ap (λ u. map place (with_more (length bs) u (is ++ i ∷ []))) (sym (append_assoc front (b ∷ []) bs))
    ∙ more_ordered bs (front ++ b ∷ []) (is ++ i ∷ []) place (base + natural (i -ℤ b.lower) * n) (omega (arith, a, c, e)) (λ js. ap place (append_assoc is (i ∷ []) js) ∙ at (i ∷ js) ∙ omega arith) in
    let start : b.lower +ℤ pos 0 ≡ b.lower = none_ahead b.lower in
    let zero' : base + 0 * n ≡ base = omega arith in
    ap (λ o. map place (flat_map f (subscripts_of o))) (bounds_behind front b bs (length is) e)
    ∙ ap (λ z. map place (flat_map f (numbers_from z (span b)))) (sym start)
    ∙ rows_ordered f place b.lower 0 (span b) base n each
    ∙ ap (λ k. places_from k (span b * n)) zero'
  where
    none_ahead : (l : ℤ) → l +ℤ pos 0 ≡ l
    none_ahead (pos l) = omega (arith, ints)
    none_ahead (negsuc l) = omega (arith, ints)

pub elements_ordered : (bs : List Bounds) → map (element_place bs) (all_subscripts bs) ≡ places_from 0 (element_count bs)
elements_ordered bs = more_ordered bs [] [] (element_place bs) 0 refl (λ js. omega arith)

-- ---- their bytes

map_flat : {A B : Type 0} (g : A → B) (h : B → List ℕ) (xs : List A) → flat_map (λ x. h (g x)) xs ≡ flat_map h (map g xs)
map_flat g h [] = refl
map_flat g h (x ∷ xs) = ap (λ u. h (g x) ++ u) (map_flat g h xs)

-- what goes by the place of an element, place by place
pub by_places : (bs : List Bounds) (h : ℕ → List ℕ) → flat_map (λ is. h (element_place bs is)) (all_subscripts bs) ≡ flat_map h (places_from 0 (element_count bs))
by_places bs h = map_flat (element_place bs) h (all_subscripts bs) ∙ ap (flat_map h) (elements_ordered bs)

pieces_long : (h : ℕ → List ℕ) (first count : ℕ) → ((p : ℕ) → length (h p) ≡ 4) → length (flat_map h (places_from first count)) ≡ 4 * count
pieces_long h first zero four = refl
pieces_long h first (suc n) four =
    let a = length-append (h first) (flat_map h (places_from (suc first) n)) in
    let b = four first in
    let c = pieces_long h (suc first) n four in
    omega (arith, a, b, c)

piece_by : (h : ℕ → List ℕ) (first n p i : ℕ) → ((q : ℕ) → length (h q) ≡ 4) → i < 4 → (p < 1) ⊎ (1 ≤ p) → (1 ≤ p → slice_index (flat_map h (places_from (suc first) n)) (4 * (p - 1) + i) ≡ slice_index (h (suc first + (p - 1))) i) → slice_index (h first ++ flat_map h (places_from (suc first) n)) (4 * p + i) ≡ slice_index (h (first + p)) i
piece_by h first n p i four small' (inl none) later =
    let four' = four first in
    let e : 4 * p + i ≡ i = omega (arith, none) in
    let f : first ≡ first + p = omega (arith, none) in
    ap (slice_index (h first ++ flat_map h (places_from (suc first) n))) e
    ∙ get_or_append_left (h first) (flat_map h (places_from (suc first) n)) 0 i (omega (arith, small', four'))
    ∙ ap (λ q. slice_index (h q) i) f
piece_by h first n p i four small' (inr some) later =
    let four' = four first in
    let e : 4 * p + i - 4 ≡ 4 * (p - 1) + i = omega (arith, some) in
    let f : suc first + (p - 1) ≡ first + p = omega (arith, some) in
    get_or-append_right (h first) (flat_map h (places_from (suc first) n)) 4 (4 * p + i) 0 four' (omega (arith, some))
    ∙ ap (slice_index (flat_map h (places_from (suc first) n))) e
    ∙ later some
    ∙ ap (λ q. slice_index (h q) i) f

piece_at : (h : ℕ → List ℕ) (first count p i : ℕ) → ((q : ℕ) → length (h q) ≡ 4) → p < count → i < 4 → slice_index (flat_map h (places_from first count)) (4 * p + i) ≡ slice_index (h (first + p)) i
piece_at h first zero p i four below small' = absurd (omega (arith, below))
piece_at h first (suc n) p i four below small' =
    piece_by h first n p i four small' (cases_lt p 1) (λ some. piece_at h (suc first) n (p - 1) i four (omega (arith, below, some)) small')

-- ---- in memory

cell_like : (m m' : List ℕ) (at w : ℕ) → ((k : ℕ) → at ≤ k → k < at + 4 → slice_index m' k ≡ slice_index m k) → Cell m at w → Cell m' at w
cell_like m m' at w same c =
    record {
      whole = load-same 4 m' m at (λ k a b. same k a b) ∙ c.whole;
      half = load-same 2 m' m at (λ k a b. same k a (omega (arith, b))) ∙ c.half;
      byte = load-same 1 m' m at (λ k a b. same k a (omega (arith, b))) ∙ c.byte;
    }

-- the bytes of an array whose elements hold these numbers
abbrev pub bytes_of : Y.LeafType → (ℕ → ℤ) → (count : ℕ) → List ℕ
bytes_of type z count = flat_map (λ p. kind_bytes (store_kind type) (word (z p))) (places_from 0 count)

pub bytes_long : (type : Y.LeafType) (z : ℕ → ℤ) (count : ℕ) → length (bytes_of type z count) ≡ 4 * count
bytes_long type z count =
    pieces_long (λ p. kind_bytes (store_kind type) (word (z p))) 0 count (λ p. kind_length (store_kind type) (word (z p)))

pub elements_written : (type : Y.LeafType) (z : ℕ → ℤ) (m : List ℕ) (at count : ℕ) → at + 4 * count ≤ length m → ((p : ℕ) → p < count → Fits type (z p)) → ElementsThere (with_bytes (bytes_of type z count) at m) at count (contents_of type z)
elements_written type z m at count room fits p below =
    let kind = store_kind type in
    let w = word (z p) in
    let wide = fits_wide type (z p) (fits p below) in
    let h : ℕ → List ℕ = λ q. kind_bytes kind (word (z q)) in
    let bytes = bytes_of type z count in
    let long = bytes_long type z count in
    let here = at + 4 * p in
    let own = kind_bytes kind w in
    let four = kind_length kind w in
    let alone = cell_written kind m here w (word_small (z p) wide) (omega (arith, room, below)) in
    let same : (k : ℕ) → here ≤ k → k < here + 4 → slice_index (with_bytes bytes at m) k ≡ slice_index (with_bytes own here m) k = λ k above under.
    let i = k - here in
    let e : at + (4 * p + i) ≡ k = omega (arith, above) in
    let f : here + i ≡ k = omega (arith, above) in
    ap (slice_index (with_bytes bytes at m)) (sym e)
    ∙ byte-with_inside bytes m at (4 * p + i) (omega (arith, room, long)) (omega (arith, long, below, above, under))
    ∙ piece_at h 0 count p i (λ q. kind_length kind (word (z q))) below (omega (arith, above, under))
    ∙ ap (λ q. slice_index (h q) i) (none_before p)
    ∙ sym (byte-with_inside own m here i (omega (arith, room, four, below)) (omega (arith, four, above, under)))
    ∙ ap (slice_index (with_bytes own here m)) f in
    subst (Cell (with_bytes bytes at m) here) (sym (content_word type (z p) wide)) (cell_like (with_bytes own here m) (with_bytes bytes at m) here _ same alone)
  where
    none_before : (q : ℕ) → 0 + q ≡ q
    none_before q = omega arith
