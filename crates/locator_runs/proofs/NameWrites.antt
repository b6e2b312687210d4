-- A name that is written word by word, and what is loaded meanwhile.
use Rattle.std.proofs.Common.{◌≡◌, ◌⊎◌, inl, inr, ℕ, zero, suc, ◌+◌, ◌-◌, ◌*◌, ◌/◌, ◌%◌, ◌^◌, ◌<◌, ◌≤◌, List, ◌++◌}
use Rattle.std.proofs.Common.{length, refl, sym, ap, ◌∙◌, arith, length-append}
use Rattle.std.proofs.lemmas.Bool.{cases_lt}
use Rattle.std.proofs.lemmas.List.{ext_get_or, get_or_append_left, get_or-append_right}
use Rattle.std.specs.Prelude.{slice_index}
use Rattle.rv_meaning.specs.Memory.{load, store}
use Rattle.rv_meaning.proofs.MemoryLaws.{length-store, load-store_other}
use Rattle.area_keeper.specs.KeptAreas.{with_part}
use Rattle.area_keeper.proofs.Agreement.{byte_below, byte_inside, byte_past, length_with_part}
use Rattle.pli_meaning.specs.BasicValues.{BasedName, Name, NullName, VariableName}
use Rattle.pli_serving.specs.Bytes.{name_bytes, number_bytes}
use Rattle.storage_relation.specs.Stored.{Beside}
use Rattle.storage_relation.specs.Telling.{HasWords, kind_word, offset_word_of, serial_word}
use Rattle.storage_relation.proofs.Values.{number_length, store_is}

-- the nth word of a name
abbrev pub word_of : Name → ℕ → ℕ
word_of a zero = kind_word a
word_of a (suc zero) = offset_word_of a
word_of a (suc (suc zero)) = serial_word a % 2 ^ 32
word_of a (suc (suc (suc n))) = serial_word a / 2 ^ 32

-- memory once so many of its words are written
abbrev pub written : ℕ → Name → (at : ℕ) → List ℕ → List ℕ
written zero a at m = m
written (suc n) a at m = store 4 (written n a at m) (at + 4 * n) (word_of a n)

pub length_written : (n : ℕ) (a : Name) (at : ℕ) (m : List ℕ) → length (written n a at m) ≡ length m
length_written zero a at m = refl
length_written (suc n) a at m =
    length-store 4 (written n a at m) (at + 4 * n) (word_of a n) ∙ length_written n a at m

-- ---- what is loaded

pub word_told : (a : Name) (at : ℕ) (m : List ℕ) → HasWords a at m → (n : ℕ) → n < 4 →
    load 4 m (at + 4 * n) ≡ word_of a n
word_told a at m h zero less = let e : at + 4 * 0 ≡ at = omega arith in ap (load 4 m) e ∙ h.kind
word_told a at m h (suc zero) less = h.offset
word_told a at m h (suc (suc zero)) less = h.low
word_told a at m h (suc (suc (suc zero))) less = h.high
word_told a at m h (suc (suc (suc (suc n)))) less = absurd (omega (arith, less))

-- at the same place words further on stay, and beside it all of them
pub word_stays :
    (i n : ℕ) (a : Name) (at from : ℕ) (m : List ℕ) → i ≤ n → n < 4 → (at ≡ from) ⊎ Beside at 16 from 16 →
    load 4 (written i a at m) (from + 4 * n) ≡ load 4 m (from + 4 * n)
word_stays zero n a at from m most less o = refl
word_stays (suc i) n a at from m most less o =
    load-store_other 4 4 (written i a at m) (at + 4 * i) (word_of a i) (from + 4 * n) (by o)
    ∙ word_stays i n a at from m (omega (arith, most)) less o
  where
    by : (at ≡ from) ⊎ Beside at 16 from 16 →
        (from + 4 * n + 4 ≤ at + 4 * i) ⊎ (at + 4 * i + 4 ≤ from + 4 * n)
    by (inl same) = inr (omega (arith, same, most))
    by (inr (inl before)) = inr (omega (arith, before, most, less))
    by (inr (inr behind)) = inl (omega (arith, behind, most, less))

-- ---- all four

-- one part and the next one are both
pub parts_joined :
    (a b : List ℕ) (p : ℕ) (m : List ℕ) → p + length (a ++ b) ≤ length m →
    with_part (a ++ b) p m ≡ with_part b (p + length a) (with_part a p m)
parts_joined a b p m room =
    ext_get_or 0 (with_part (a ++ b) p m) (with_part b (p + length a) (with_part a p m))
    (omega (arith, whole, first, second))
    (λ j less. by j (cases_lt j p) (cases_lt j (p + length a)) (cases_lt j (p + length a + length b)))
  where
    long : length (a ++ b) ≡ length a + length b
    long = length-append a b

    whole : length (with_part (a ++ b) p m) ≡ length m
    whole = length_with_part (a ++ b) p m room

    first : length (with_part a p m) ≡ length m
    first = length_with_part a p m (omega (arith, room, long))

    second : length (with_part b (p + length a) (with_part a p m)) ≡ length (with_part a p m)
    second = length_with_part b (p + length a) (with_part a p m) (omega (arith, room, long, first))

    by :
        (j : ℕ) → (j < p) ⊎ (p ≤ j) → (j < p + length a) ⊎ (p + length a ≤ j) →
        (j < p + length a + length b) ⊎ (p + length a + length b ≤ j) →
        slice_index (with_part (a ++ b) p m) j ≡ slice_index (with_part b (p + length a) (with_part a p m)) j
    by j (inl low) x y =
        byte_below (a ++ b) p m j (omega (arith, room)) low
        ∙ sym (byte_below b (p + length a) (with_part a p m) j (omega (arith, room, long, first)) (omega (arith, low))
        ∙ byte_below a p m j (omega (arith, room)) low)
    by j (inr high) (inl low) y =
        let e : p + (j - p) ≡ j = omega (arith, high) in
        ap (slice_index (with_part (a ++ b) p m)) (sym e)
        ∙ byte_inside (a ++ b) p m (j - p) (omega (arith, room)) (omega (arith, low, high, long))
        ∙ get_or_append_left a b 0 (j - p) (omega (arith, low, high))
        ∙ sym (byte_below b (p + length a) (with_part a p m) j (omega (arith, room, long, first)) low
        ∙ ap (slice_index (with_part a p m)) (sym e)
        ∙ byte_inside a p m (j - p) (omega (arith, room)) (omega (arith, low, high)))
    by j (inr high) (inr past) (inl low) =
        let e : p + (j - p) ≡ j = omega (arith, high) in
        let f : p + length a + (j - (p + length a)) ≡ j = omega (arith, past) in
        let g : j - p - length a ≡ j - (p + length a) = omega arith in
        ap (slice_index (with_part (a ++ b) p m)) (sym e)
        ∙ byte_inside (a ++ b) p m (j - p) (omega (arith, room)) (omega (arith, low, high, long))
        ∙ get_or-append_right a b (length a) (j - p) 0 refl (omega (arith, past, high))
        ∙ ap (slice_index b) g
        ∙ sym (ap (slice_index (with_part b (p + length a) (with_part a p m))) (sym f)
        ∙ byte_inside b (p + length a) (with_part a p m) (j - (p + length a)) (omega (arith, room, long, first))
        (omega (arith, low, past)))
    by j (inr high) (inr past) (inr over) =
        byte_past (a ++ b) p m j (omega (arith, room)) (omega (arith, over, long))
        ∙ sym (byte_past b (p + length a) (with_part a p m) j (omega (arith, room, long, first)) over
        ∙ byte_past a p m j (omega (arith, room)) past)

low_bytes : (s : ℕ) → number_bytes 8 s ≡ number_bytes 4 (s % 2 ^ 32) ++ number_bytes 4 (s / 2 ^ 32)
low_bytes s =
    let a : s % 256 ≡ s % 2 ^ 32 % 256 = omega arith in
    let b : s / 256 % 256 ≡ s % 2 ^ 32 / 256 % 256 = omega arith in
    let c : s / 256 / 256 % 256 ≡ s % 2 ^ 32 / 256 / 256 % 256 = omega arith in
    let d : s / 256 / 256 / 256 % 256 ≡ s % 2 ^ 32 / 256 / 256 / 256 % 256 = omega arith in
    let e : s / 256 / 256 / 256 / 256 ≡ s / 2 ^ 32 = omega arith in
    cc

abbrev four_words : Name → List ℕ
four_words a =
    number_bytes 4 (word_of a 0)
    ++ (number_bytes 4 (word_of a 1) ++ (number_bytes 4 (word_of a 2) ++ number_bytes 4 (word_of a 3)))

bytes_are : (a : Name) → name_bytes a ≡ four_words a
bytes_are NullName = refl
bytes_are (VariableName s) = ap (λ u. number_bytes 4 1 ++ (number_bytes 4 0 ++ u)) (low_bytes s)
bytes_are (BasedName s o) = ap (λ u. number_bytes 4 2 ++ (number_bytes 4 o ++ u)) (low_bytes s)

-- a word before others
word_before :
    (v : ℕ) (b : List ℕ) (at : ℕ) (m : List ℕ) → at + 4 + length b ≤ length m →
    with_part (number_bytes 4 v ++ b) at m ≡ with_part b (at + 4) (store 4 m at v)
word_before v b at m room =
    let four = number_length 4 v in
    let long = length-append (number_bytes 4 v) b in
    parts_joined (number_bytes 4 v) b at m (omega (arith, room, four, long))
    ∙ ap (λ n. with_part b (at + n) (with_part (number_bytes 4 v) at m)) four
    ∙ ap (with_part b (at + 4)) (store_is 4 v at m (omega (arith, room)))

pub name_written :
    (a : Name) (at : ℕ) (m : List ℕ) → at + 16 ≤ length m → with_part (name_bytes a) at m ≡ written 4 a at m
name_written a at m room =
    let w0 = word_of a 0 in
    let w1 = word_of a 1 in
    let w2 = word_of a 2 in
    let w3 = word_of a 3 in
    let e0 : at + 4 * 0 ≡ at = omega arith in
    let m1 = store 4 m at w0 in
    let m2 = store 4 m1 (at + 4) w1 in
    let m3 = store 4 m2 (at + 4 + 4) w2 in
    let n1 = length-store 4 m at w0 in
    let n2 = length-store 4 m1 (at + 4) w1 in
    let n3 = length-store 4 m2 (at + 4 + 4) w2 in
    let b3 = number_bytes 4 w3 in
    let b2 = number_bytes 4 w2 ++ b3 in
    let b1 = number_bytes 4 w1 ++ b2 in
    let l3 = number_length 4 w3 in
    let l2' = number_length 4 w2 in
    let l1' = number_length 4 w1 in
    let l2 = length-append (number_bytes 4 w2) b3 in
    let l1 = length-append (number_bytes 4 w1) b2 in
    let p2 : at + 4 + 4 ≡ at + 4 * 2 = omega arith in
    let p3 : at + 4 + 4 + 4 ≡ at + 4 * 3 = omega arith in
    ap (λ u. with_part u at m) (bytes_are a)
    ∙ word_before w0 b1 at m (omega (arith, room, l1, l2, l3, l1', l2'))
    ∙ word_before w1 b2 (at + 4) m1 (omega (arith, room, l2, l3, l2', n1))
    ∙ word_before w2 b3 (at + 4 + 4) m2 (omega (arith, room, l3, n1, n2))
    ∙ store_is 4 w3 (at + 4 + 4 + 4) m3 (omega (arith, room, n1, n2, n3))
    ∙ ap (λ i. store 4 (store 4 (store 4 (store 4 m at w0) (at + 4) w1) i w2) (i + 4) w3) p2
    ∙ ap (λ i. store 4 (store 4 (store 4 (store 4 m at w0) (at + 4) w1) (at + 4 * 2) w2) i w3)
    (ap (λ i. i + 4) (sym p2) ∙ p3)
    ∙ ap (λ i. store 4 (store 4 (store 4 (store 4 m i w0) (at + 4 * 1) w1) (at + 4 * 2) w2) (at + 4 * 3) w3) (sym e0)
