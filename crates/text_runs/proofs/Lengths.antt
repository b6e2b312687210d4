-- No text is longer than 1,024 bytes: those of numbers, those that are joined, and parts; so lengths and places in them
-- are numbers.
use Rattle.std.proofs.Common.{◌≡◌, ℕ, zero, suc, ◌+◌, ◌-◌, ◌/◌, ◌%◌, ◌^◌, ◌<◌, ◌≤◌, List, [], ◌∷◌, ◌++◌, length}
use Rattle.std.proofs.Common.{Option, Some, None, Bool, true, false, refl, ap, ◌∙◌, subst, arith, length-append}
use Rattle.std.specs.Prelude.{ℤ, pos, negsuc, cond, drop, nat_lt, nat_le, take, ◌==◌}
use Rattle.std.specs.List.{list_any}
use Rattle.std.proofs.lemmas.Bool.Decides.{nat_tests}
use Rattle.std.proofs.lemmas.Int.{ints}
use Rattle.std.proofs.lemmas.List.{length-drop, length-replicate}
use Rattle.rv_meaning.specs.Words.{signed, word}
use Rattle.pli_meaning.specs.Stream.{blanks, decimal_digits, decimal_text, digits_before}
use Rattle.pli_meaning.specs.Numbers.{is_of_precision}
use Rattle.pli_meaning.specs.Texts.{begins, behind_blanks, bit_text, first_bytes, first_of, found_from, index_of}
use Rattle.pli_meaning.specs.Texts.{joined, number_in_text, number_places, number_text, signed_value, strange_from}
use Rattle.pli_meaning.specs.Texts.{substring, substring_from, verify_of, within_precision, without_leading_blanks}
use Rattle.pli_meaning.specs.Texts.{without_trailing_blanks}
use Rattle.pli_serving.specs.TextServices as X
use Rattle.run_steps.specs.Numbers.{IsWide}
use Rattle.text_runs.specs.Texts.{IsShort}

-- ---- numbers as texts

digits_by :
    (q : Bool) (most x : ℕ) (behind more : List ℕ) → length more ≤ most + suc (length behind) →
    length (cond q (x ∷ behind) more) ≤ suc most + length behind
digits_by true most x behind more h = omega arith
digits_by false most x behind more h = omega (arith, h)

digits_most : (most n : ℕ) (behind : List ℕ) → length (digits_before most n behind) ≤ most + length behind
digits_most zero n behind = omega arith
digits_most (suc most) n behind =
    digits_by (nat_lt n 10) most (48 + n) behind (digits_before most (n / 10) ((48 + n % 10) ∷ behind))
    (digits_most most (n / 10) ((48 + n % 10) ∷ behind))

digits_few : (n : ℕ) → length (decimal_digits n) ≤ 20
digits_few n = digits_most 20 n []

one_more : (a : ℕ) → a ≤ 20 → (a ≤ 21) × (suc a ≤ 21)
one_more a h = (omega (arith, h), omega (arith, h))

decimal_few : (z : ℤ) → length (decimal_text z) ≤ 21
decimal_few (pos n) = (one_more (length (decimal_digits n)) (digits_few n)).0
decimal_few (negsuc n) = (one_more (length (decimal_digits (suc n))) (digits_few (suc n))).1

placed_short : (places : ℕ) (t : List ℕ) → places ≤ 14 → length t ≤ 21 → IsShort (behind_blanks places t)
placed_short places t h i =
    let e = length-append (blanks (places - length t)) t in
    let f = length-replicate {A = ℕ} (places - length t) 32 in
    omega (arith, e, f, h, i)

places_few : (q : Bool) → cond q 9 14 ≤ 14
places_few true = omega arith
places_few false = omega arith

pub number_short : (p : ℕ) (z : ℤ) → IsShort (number_text p z)
number_short p z = placed_short (number_places p) (decimal_text z) (places_few (nat_le p 15)) (decimal_few z)

-- what service 21 makes of a word
pub signed_word : (z : ℤ) → IsWide z → signed (word z) ≡ z
signed_word z h = grind (arith, ints, nat_tests)

some_places : (p : ℕ) → 0 < p → (p == 0) ≡ false
some_places p h = grind (arith, nat_tests)

pub number_text_is : (p : ℕ) (z : ℤ) → 0 < p → IsWide z → X.number_or_bit_text (word z) p ≡ number_text p z
number_text_is p z some wide =
    ap (λ u. cond u (bit_text (word z == 1)) (number_text p (signed (word z)))) (some_places p some)
    ∙ ap (number_text p) (signed_word z wide)

-- ---- texts that are joined

joined_by :
    (q : Bool) (n : ℕ) (both whole : List ℕ) → nat_le n 1024 ≡ q → length both ≡ n →
    cond q (Some both) None ≡ Some whole → IsShort whole
joined_by true n both whole e size h =
    let same : both ≡ whole = cc h in
    let few : n ≤ 1024 = grind (arith, nat_tests) in
    subst IsShort same (omega (arith, few, size))
joined_by false n both whole e size h = absurd (cc h)

pub joined_short : (s t whole : List ℕ) → joined s t ≡ Some whole → IsShort whole
joined_short s t whole h =
    joined_by (nat_le (length s + length t) 1024) (length s + length t) (s ++ t) whole refl (length-append s t) h

-- ---- parts of a text

some_short :
    (q : Bool) (one part : List ℕ) → IsShort one → cond q (Some one) None ≡ Some part → IsShort part
some_short true one part short h = let same : one ≡ part = cc h in subst IsShort same short
some_short false one part short h = absurd (cc h)

pub from_short : (s : List ℕ) (i : ℤ) (part : List ℕ) → IsShort s → substring_from s i ≡ Some part → IsShort part
from_short s (pos (suc n)) part short h =
    let d = length-drop n s in
    some_short (nat_le n (length s)) (drop n s) part (omega (arith, d, short)) h
from_short s (pos zero) part short h = absurd (cc h)
from_short s (negsuc n) part short h = absurd (cc h)

taken_less : (n : ℕ) (s : List ℕ) → length (take n s) ≤ length s
taken_less zero [] = omega arith
taken_less zero (x ∷ xs) = omega arith
taken_less (suc n) [] = omega arith
taken_less (suc n) (x ∷ xs) = let h = taken_less n xs in omega (arith, h)

first_short : (s : List ℕ) (j : ℤ) (part : List ℕ) → IsShort s → first_bytes s j ≡ Some part → IsShort part
first_short s (pos n) part short h =
    let l = taken_less n s in some_short (nat_le n (length s)) (take n s) part (omega (arith, l, short)) h
first_short s (negsuc n) part short h = absurd (cc h)

first_of_short :
    (o : Option (List ℕ)) (j : ℤ) (part : List ℕ) → ((s : List ℕ) → o ≡ Some s → IsShort s) →
    first_of o j ≡ Some part → IsShort part
first_of_short None j part all h = absurd (cc h)
first_of_short (Some s) j part all h = first_short s j part (all s refl) h

pub part_short : (s : List ℕ) (i j : ℤ) (part : List ℕ) → IsShort s → substring s i j ≡ Some part → IsShort part
part_short s i j part short h = first_of_short (substring_from s i) j part (λ u e. from_short s i u short e) h

-- ---- lengths and places as numbers

found_by : (q : Bool) (place n later : ℕ) → later ≤ place + 1 + n → cond q place later ≤ place + suc n
found_by true place n later h = omega arith
found_by false place n later h = omega (arith, h)

found_most : (place : ℕ) (s t : List ℕ) → found_from place s t ≤ place + length s
found_most place [] t = omega arith
found_most place (b ∷ s) t =
    found_by (begins t (b ∷ s)) place (length s) (found_from (place + 1) s t) (found_most (place + 1) s t)

pub index_most : (s t : List ℕ) → index_of s t ≤ 1 + length s
index_most s [] = omega arith
index_most s (b ∷ t) = found_most 1 s (b ∷ t)

strange_by : (q : Bool) (place n later : ℕ) → later ≤ place + 1 + n → cond q later place ≤ place + suc n
strange_by true place n later h = omega (arith, h)
strange_by false place n later h = omega arith

strange_most : (place : ℕ) (s t : List ℕ) → strange_from place s t ≤ place + length s
strange_most place [] t = omega arith
strange_most place (b ∷ s) t =
    strange_by (list_any (λ c. c == b) t) place (length s) (strange_from (place + 1) s t)
    (strange_most (place + 1) s t)

pub verify_most : (s t : List ℕ) → verify_of s t ≤ 1 + length s
verify_most s t = strange_most 1 s t

pub small_wide : (n : ℕ) → n < 2 ^ 31 → IsWide (pos n)
small_wide n h = grind (arith, nat_tests)

-- ---- numbers that texts show

within_wide : (b : Bool) (x z : ℤ) → is_of_precision 31 x ≡ b → cond b (Some x) None ≡ Some z → IsWide z
within_wide true x z e h = let same : x ≡ z = cc h in subst (λ u. is_of_precision 31 u ≡ true) same e
within_wide false x z e h = absurd (cc h)

precise_wide : (o : Option ℤ) (z : ℤ) → within_precision 31 o ≡ Some z → IsWide z
precise_wide None z h = absurd (cc h)
precise_wide (Some x) z h = within_wide (is_of_precision 31 x) x z refl h

pub number_wide : (t : List ℕ) (z : ℤ) → number_in_text t ≡ Some z → IsWide z
number_wide t z h = precise_wide (signed_value (without_trailing_blanks (without_leading_blanks t))) z h
