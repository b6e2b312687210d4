-- The texts with which the elements of an array begin: in the meaning, as the bytes that service 7 writes, and as they then stand.
use Rattle.std.proofs.Common.{◌≡◌, ℕ, zero, suc, ◌+◌, ◌-◌, ◌*◌, ◌<◌, ◌≤◌, ◌⊎◌, inl, inr, List, [], ◌∷◌, ◌++◌, length, Bool, true, false, refl, sym, ap, ◌∙◌, subst, arith, length-append}
use Rattle.std.specs.Prelude.{ℤ, ◌/◌, ◌%◌, slice_index, replicate}
use Rattle.std.specs.List.{flat_map}
use Rattle.std.proofs.lemmas.Bool.{cases_lt}
use Rattle.std.proofs.lemmas.List.{get_or_append_left, get_or-append_right, length-replicate}
use Rattle.pli_typing.specs.Signatures.{Bounds, Varying, rounded_up, element_count}
use Rattle.pli_language.specs.Tree as T
use Rattle.pli_meaning.specs.BasicValues.{BasicText}
use Rattle.pli_meaning.specs.Contents.{initial_at, initial_of, seen, element_place}
use Rattle.pli_meaning.specs.Texts.{fitted}
use Rattle.pli_serving.specs.Bytes.{with_bytes}
use Rattle.pli_serving.specs.Values.{value_bytes, element_bytes, generation_bytes, all_subscripts}
use Rattle.pli_headline.specs.ProvedSoFar.{AreConstants, text_leaf}
use Rattle.pli_headline.proofs.Scalars.{constant_text, begin_texts}
use Rattle.pli_headline.proofs.WrittenBytes.{byte-with_inside, length-with_bytes}
use Rattle.pli_headline.proofs.ArrayPlaces.{suc-times}
use Rattle.pli_headline.proofs.ArrayOrder.{places_from, by_places}
use Rattle.pli_headline.proofs.ArrayInitial.{begun_array, flat_same, append_none}
use Rattle.pli_headline.proofs.TextLengths.{IsShort}
use Rattle.pli_headline.proofs.TextPlaces.{text_kind_of, TextThere}
use Rattle.pli_headline.proofs.TextsKept.{text_kept_as, fitted_length, taken_most, kept_short, padded_there, cut_there}
use Rattle.pli_headline.proofs.TextsBegun.{given_at, constant_begun, kept_is_seen}
use Rattle.pli_headline.proofs.TextsStay.{text_stays}
use Rattle.pli_headline.proofs.TextArraysStay.{text_stride, stride_long, row_next, TextsThere}

-- ---- in the meaning

begin_as : (varying : Bool) (most : ℕ) (items : List T.InitialItem) (p : ℕ) → begin_texts (text_leaf varying most) items p ≡ text_kept_as varying most (constant_text (initial_at items p))
begin_as false most items p = refl
begin_as true most items p = refl

element_begun : (varying : Bool) (most : ℕ) (items : List T.InitialItem) (p : ℕ) → AreConstants (text_leaf varying most) items → initial_of (text_kind_of varying most) (initial_at items p) ≡ BasicText (begin_texts (text_leaf varying most) items p)
element_begun varying most items p are =
    constant_begun varying most (initial_at items p) (given_at varying most items p are) ∙ ap BasicText (sym (begin_as varying most items p))

begin_seen : (varying : Bool) (most : ℕ) (items : List T.InitialItem) (p : ℕ) → seen (text_kind_of varying most) (BasicText (begin_texts (text_leaf varying most) items p)) ≡ BasicText (begin_texts (text_leaf varying most) items p)
begin_seen varying most items p =
    subst (λ u. seen (text_kind_of varying most) (BasicText u) ≡ BasicText u) (sym (begin_as varying most items p)) (kept_is_seen varying most (constant_text (initial_at items p)))

values_begun : (varying : Bool) (most : ℕ) (bs : List Bounds) (items : List T.InitialItem) (js : List ℤ) → (begun_array (text_leaf varying most) bs items).values 0 js ≡ initial_of (text_kind_of varying most) (initial_at items (element_place bs js))
values_begun false most bs items js = refl
values_begun true most bs items js = refl

pub texts_begun : (varying : Bool) (most : ℕ) (bs : List Bounds) (items : List T.InitialItem) (js : List ℤ) → AreConstants (text_leaf varying most) items → seen (text_kind_of varying most) ((begun_array (text_leaf varying most) bs items).values 0 js) ≡ BasicText (begin_texts (text_leaf varying most) items (element_place bs js))
texts_begun varying most bs items js are =
    let p = element_place bs js in
    ap (seen (text_kind_of varying most)) (values_begun varying most bs items js ∙ element_begun varying most items p are) ∙ begin_seen varying most items p

pub begun_short : (varying : Bool) (most : ℕ) (items : List T.InitialItem) (p : ℕ) → most ≤ 1024 → IsShort (begin_texts (text_leaf varying most) items p)
begun_short varying most items p few =
    subst IsShort (sym (begin_as varying most items p)) (kept_short varying most (constant_text (initial_at items p)) few)

-- ---- their bytes

-- of one text, in whole words
abbrev pub text_piece : (varying : Bool) → (most : ℕ) → List ℕ → List ℕ
text_piece varying most text = element_bytes (text_kind_of varying most) (BasicText text)

-- of an array whose elements hold these texts
abbrev pub bytes_of_texts : (varying : Bool) → (most : ℕ) → (ℕ → List ℕ) → (count : ℕ) → List ℕ
bytes_of_texts varying most texts count = flat_map (λ p. text_piece varying most (texts p)) (places_from 0 count)

piece_length : (varying : Bool) (most : ℕ) (text : List ℕ) → length (text_piece varying most text) ≡ text_stride varying most
piece_length false most text =
    let zeros = replicate (rounded_up 4 most - most) 0 in
    let a = length-append (fitted most text) zeros in
    let b = length-replicate {A = ℕ} (rounded_up 4 most - most) 0 in
    let c = fitted_length most text in
    omega (arith, a, b, c)
piece_length true most text =
    let zeros = replicate (rounded_up 4 (2 + most) - (2 + most)) 0 in
    let a = length-append (value_bytes (Varying most) (BasicText text)) zeros in
    let b = length-replicate {A = ℕ} (rounded_up 4 (2 + most) - (2 + most)) 0 in
    let c = fitted_length most text in
    omega (arith, a, b, c)

begun_by : (varying : Bool) (most : ℕ) (bs : List Bounds) (items : List T.InitialItem) → generation_bytes (begun_array (text_leaf varying most) bs items) ≡ flat_map (λ js. element_bytes (text_kind_of varying most) (initial_of (text_kind_of varying most) (initial_at items (element_place bs js)))) (all_subscripts bs) ++ []
begun_by false most bs items = refl
begun_by true most bs items = refl

pub text_array_bytes : (varying : Bool) (most : ℕ) (bs : List Bounds) (items : List T.InitialItem) → AreConstants (text_leaf varying most) items → generation_bytes (begun_array (text_leaf varying most) bs items) ≡ bytes_of_texts varying most (begin_texts (text_leaf varying most) items) (element_count bs)
text_array_bytes varying most bs items are =
    let kind = text_kind_of varying most in
    let h : ℕ → List ℕ = λ p. element_bytes kind (initial_of kind (initial_at items p)) in
    begun_by varying most bs items
    ∙ append_none (flat_map (λ js. h (element_place bs js)) (all_subscripts bs))
    ∙ by_places bs h
    ∙ flat_same h (λ p. text_piece varying most (begin_texts (text_leaf varying most) items p)) (places_from 0 (element_count bs)) (λ p. ap (element_bytes kind) (element_begun varying most items p are))

pieces_long : (h : ℕ → List ℕ) (n first count : ℕ) → ((p : ℕ) → length (h p) ≡ n) → length (flat_map h (places_from first count)) ≡ count * n
pieces_long h n first zero each = omega arith
pieces_long h n first (suc k) each =
    let a = length-append (h first) (flat_map h (places_from (suc first) k)) in
    let b = each first in
    let c = pieces_long h n (suc first) k each in
    let d = suc-times k n in
    omega (arith, a, b, c, d)

piece_by : (h : ℕ → List ℕ) (n first k p i : ℕ) → ((q : ℕ) → length (h q) ≡ n) → i < n → (p < 1) ⊎ (1 ≤ p) → (1 ≤ p → slice_index (flat_map h (places_from (suc first) k)) ((p - 1) * n + i) ≡ slice_index (h (suc first + (p - 1))) i) → slice_index (h first ++ flat_map h (places_from (suc first) k)) (p * n + i) ≡ slice_index (h (first + p)) i
piece_by h n first k p i each small' (inl none) later =
    let e0 : p ≡ 0 = omega (arith, none) in
    let e : p * n + i ≡ i = ap (λ u. u * n + i) e0 ∙ omega arith in
    let f : first ≡ first + p = omega (arith, none) in
    let long = each first in
    ap (slice_index (h first ++ flat_map h (places_from (suc first) k))) e
    ∙ get_or_append_left (h first) (flat_map h (places_from (suc first) k)) 0 i (omega (arith, small', long))
    ∙ ap (λ q. slice_index (h q) i) f
piece_by h n first k p i each small' (inr some) later =
    let e0 : p ≡ suc (p - 1) = omega (arith, some) in
    let one = suc-times (p - 1) n in
    let whole : p * n ≡ (p - 1) * n + n = ap (λ u. u * n) e0 ∙ one in
    let e : p * n + i - n ≡ (p - 1) * n + i = omega (arith, whole) in
    let f : suc first + (p - 1) ≡ first + p = omega (arith, some) in
    get_or-append_right (h first) (flat_map h (places_from (suc first) k)) n (p * n + i) 0 (each first) (omega (arith, whole))
    ∙ ap (slice_index (flat_map h (places_from (suc first) k))) e
    ∙ later some
    ∙ ap (λ q. slice_index (h q) i) f

piece_at : (h : ℕ → List ℕ) (n first count p i : ℕ) → ((q : ℕ) → length (h q) ≡ n) → p < count → i < n → slice_index (flat_map h (places_from first count)) (p * n + i) ≡ slice_index (h (first + p)) i
piece_at h n first zero p i each below small' = absurd (omega (arith, below))
piece_at h n first (suc k) p i each below small' =
    piece_by h n first k p i each small' (cases_lt p 1) (λ some. piece_at h n (suc first) k (p - 1) i each (omega (arith, below, some)) small')

pub texts_long : (varying : Bool) (most : ℕ) (texts : ℕ → List ℕ) (count : ℕ) → length (bytes_of_texts varying most texts count) ≡ count * text_stride varying most
texts_long varying most texts count =
    pieces_long (λ p. text_piece varying most (texts p)) (text_stride varying most) 0 count (λ p. piece_length varying most (texts p))

-- ---- as they stand

-- what an element keeps has its length, or is no longer
abbrev pub IsKept : (varying : Bool) → (most : ℕ) → List ℕ → Type 0
IsKept false most text = length text ≡ most
IsKept true most text = length text ≤ most

pub begin_kept : (varying : Bool) (most : ℕ) (items : List T.InitialItem) (p : ℕ) → IsKept varying most (begin_texts (text_leaf varying most) items p)
begin_kept false most items p = fitted_length most (constant_text (initial_at items p))
begin_kept true most items p = taken_most most (constant_text (initial_at items p))

twice_none : (xs : List ℕ) → (xs ++ []) ++ [] ≡ xs
twice_none xs = append_none (xs ++ []) ∙ append_none xs

-- one alone
piece_there : (varying : Bool) (most : ℕ) (text m : List ℕ) (at : ℕ) → most ≤ 1024 → IsKept varying most text → at + text_stride varying most ≤ length m → TextThere varying most at (with_bytes (text_piece varying most text) at m) text
piece_there false most text m at few kept room =
    let zeros = replicate (rounded_up 4 most - most) 0 in
    let same = twice_none (fitted most text ++ zeros) in
    let long = piece_length false most text in
    let long' = ap length same in
    subst (λ u. TextThere false most at (with_bytes u at m) text) same (padded_there most text zeros m at kept (omega (arith, room, long, long')))
piece_there true most text m at few kept room =
    let zeros = replicate (rounded_up 4 (2 + most) - (2 + most)) 0 in
    let same = twice_none (fitted most text ++ zeros) in
    let long = piece_length true most text in
    let long' = ap length same in
    let n = length text in
    subst (λ u. TextThere true most at (with_bytes (n % 256 ∷ n / 256 % 256 ∷ u) at m) text) same (cut_there most text zeros m at few kept (omega (arith, room, long, long')))

pub texts_written : (varying : Bool) (most : ℕ) (texts : ℕ → List ℕ) (m : List ℕ) (at count : ℕ) → most ≤ 1024 → ((p : ℕ) → IsKept varying most (texts p)) → at + count * text_stride varying most ≤ length m → TextsThere (with_bytes (bytes_of_texts varying most texts count) at m) at count varying most texts
texts_written varying most texts m at count few kept room p below =
    let n = text_stride varying most in
    let h : ℕ → List ℕ = λ q. text_piece varying most (texts q) in
    let bytes = bytes_of_texts varying most texts count in
    let long = texts_long varying most texts count in
    let here = at + p * n in
    let own = h p in
    let mine = piece_length varying most (texts p) in
    let row = row_next p count n below in
    let size = stride_long varying most in
    let one = length-with_bytes bytes m at (omega (arith, room, long)) in
    let two = length-with_bytes own m here (omega (arith, room, mine, row)) in
    text_stays varying most here (with_bytes own here m) (with_bytes bytes at m) (texts p) (one ∙ sym two)
    (λ k above under.
    let i = k - here in
    let e : at + (p * n + i) ≡ k = omega (arith, above) in
    let f : here + i ≡ k = omega (arith, above) in
    ap (slice_index (with_bytes bytes at m)) (sym e)
    ∙ byte-with_inside bytes m at (p * n + i) (omega (arith, room, long)) (omega (arith, long, row, above, under, size))
    ∙ piece_at h n 0 count p i (λ q. piece_length varying most (texts q)) below (omega (arith, above, under, size))
    ∙ ap (λ q. slice_index (h q) i) (none_before p)
    ∙ sym (byte-with_inside own m here i (omega (arith, room, mine, row)) (omega (arith, mine, above, under, size)))
    ∙ ap (slice_index (with_bytes own here m)) f)
    (piece_there varying most (texts p) m here few (kept p) (omega (arith, room, row)))
  where
    none_before : (q : ℕ) → 0 + q ≡ q
    none_before q = omega arith
