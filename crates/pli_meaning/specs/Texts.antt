-- Texts: lists of bytes, what built-ins make of them, and conversions from and to them. (X3.53-1976, chapter 9, string
-- operations, comparison and conversion.)
use Rattle.std.specs.Prelude.{ℕ, suc, ◌+◌, ◌-◌, ◌*◌, ℤ, pos, negsuc, neg_ℤ, Bool, true, false, ◌==◌, nat_le, List, [], ◌∷◌, ◌++◌, length, take, drop, Option, Some, None, if◌then◌else◌}
use Rattle.std.specs.List.{list_all, list_any}
use Rattle.std.specs.Option.{option_map}
use Rattle.std.specs.declared.cmp.Ordering.{Ordering}
use Rattle.std.specs.declared.cmp.Ordering.TheVariants.{Less, Equal, Greater}
use Rattle.std.specs.Ordering.{nat_cmp, ordering_then, is_eq, is_ne, is_lt, is_gt, is_le, is_ge}
use Rattle.pli_language.specs.Tokens.{is_digit}
use Rattle.pli_meaning.specs.Stream.{blanks, decimal_text}
use Rattle.pli_meaning.specs.Numbers.{is_of_precision, operator_precision}
use Rattle.pli_typing.specs.TypedTree.{Comparison, IsEqual, IsNotEqual, IsLess, IsGreater, IsLessOrEqual, IsGreaterOrEqual}

-- no text is longer
abbrev pub most_text : ℕ
most_text = 1024

abbrev pub blank : ℕ
blank = 32

-- padded with blanks, or cut on the right
abbrev pub fitted : ℕ → List ℕ → List ℕ
fitted n t = take n (t ++ blanks n)

-- ---- numbers and bits as texts

-- the places of a number with this precision
abbrev pub number_places : ℕ → ℕ
number_places p = if nat_le p 15 then 9 else 14

abbrev pub behind_blanks : ℕ → List ℕ → List ℕ
behind_blanks places t = blanks (places - length t) ++ t

abbrev pub number_text : (precision : ℕ) → ℤ → List ℕ
number_text p z = behind_blanks (number_places p) (decimal_text z)

abbrev pub bit_text : Bool → List ℕ
bit_text false = 48 ∷ []
bit_text true = 49 ∷ []

abbrev pub bit_number : Bool → ℤ
bit_number false = pos 0
bit_number true = pos 1

-- ---- texts as numbers and bits

abbrev pub is_blank : ℕ → Bool
is_blank b = b == blank

abbrev pub without_leading_blanks : List ℕ → List ℕ
without_leading_blanks [] = []
without_leading_blanks (b ∷ bs) = if is_blank b then without_leading_blanks bs else b ∷ bs

abbrev pub without_trailing_blanks : List ℕ → List ℕ
without_trailing_blanks [] = []
without_trailing_blanks (b ∷ bs) = if list_all is_blank (b ∷ bs) then [] else b ∷ without_trailing_blanks bs

-- the number whose last digits these are; nothing else may stand among them
abbrev pub digits_behind : ℕ → List ℕ → Option ℕ
digits_behind n [] = Some n
digits_behind n (b ∷ bs) = if is_digit b then digits_behind (n * 10 + (b - 48)) bs else None

-- at least one digit
abbrev pub digits_value : List ℕ → Option ℕ
digits_value [] = None
digits_value (b ∷ bs) = digits_behind 0 (b ∷ bs)

abbrev pub negative : ℕ → ℤ
negative n = neg_ℤ (pos n)

abbrev pub signed_value : List ℕ → Option ℤ
signed_value [] = Some (pos 0)
signed_value (b ∷ bs) =
    if b == 43 then option_map pos (digits_value bs)
    else (if b == 45 then option_map negative (digits_value bs) else option_map pos (digits_value (b ∷ bs)))

abbrev pub within_precision : ℕ → Option ℤ → Option ℤ
within_precision p None = None
within_precision p (Some z) = if is_of_precision p z then Some z else None

-- blanks, at most one sign, digits, blanks; all blanks stand for 0
abbrev pub number_in_text : List ℕ → Option ℤ
number_in_text t = within_precision operator_precision (signed_value (without_trailing_blanks (without_leading_blanks t)))

abbrev pub bit_among : List ℕ → Option Bool
bit_among [] = Some false
bit_among (b ∷ []) = if b == 48 then Some false else (if b == 49 then Some true else None)
bit_among (b ∷ c ∷ more) = None

-- without trailing blanks `1`, `0` or nothing
abbrev pub bit_in_text : List ℕ → Option Bool
bit_in_text t = bit_among (without_trailing_blanks t)

-- ---- comparison

abbrev pub holds : Comparison → Ordering → Bool
holds IsEqual o = is_eq o
holds IsNotEqual o = is_ne o
holds IsLess o = is_lt o
holds IsGreater o = is_gt o
holds IsLessOrEqual o = is_le o
holds IsGreaterOrEqual o = is_ge o

-- by bytes; the shorter is padded with blanks
abbrev pub text_order : List ℕ → List ℕ → Ordering
text_order [] [] = Equal
text_order [] (b ∷ bs) = ordering_then (nat_cmp blank b) (text_order [] bs)
text_order (a ∷ as') [] = ordering_then (nat_cmp a blank) (text_order as' [])
text_order (a ∷ as') (b ∷ bs) = ordering_then (nat_cmp a b) (text_order as' bs)

abbrev pub bit_order : Bool → Bool → Ordering
bit_order false false = Equal
bit_order false true = Less
bit_order true false = Greater
bit_order true true = Equal

-- ---- built-ins

-- two texts one behind the other, where the whole isn't too long
abbrev pub joined : List ℕ → List ℕ → Option (List ℕ)
joined s t = if nat_le (length s + length t) most_text then Some (s ++ t) else None

-- from place i, which may be the one behind the last byte
abbrev pub substring_from : List ℕ → ℤ → Option (List ℕ)
substring_from s (pos (suc n)) = if nat_le n (length s) then Some (drop n s) else None
substring_from s _ = None

abbrev pub first_bytes : List ℕ → ℤ → Option (List ℕ)
first_bytes s (pos n) = if nat_le n (length s) then Some (take n s) else None
first_bytes s (negsuc n) = None

abbrev pub first_of : Option (List ℕ) → ℤ → Option (List ℕ)
first_of None count = None
first_of (Some s) count = first_bytes s count

abbrev pub substring : List ℕ → ℤ → ℤ → Option (List ℕ)
substring s start count = first_of (substring_from s start) count

abbrev pub begins : List ℕ → List ℕ → Bool
begins [] s = true
begins (t ∷ ts) [] = false
begins (t ∷ ts) (s ∷ ss) = if t == s then begins ts ss else false

abbrev pub found_from : ℕ → List ℕ → List ℕ → ℕ
found_from place [] t = 0
found_from place (s ∷ ss) t = if begins t (s ∷ ss) then place else found_from (place + 1) ss t

-- INDEX: the place of the first t in s; 0 for none or empty t
abbrev pub index_of : List ℕ → List ℕ → ℕ
index_of s [] = 0
index_of s (t ∷ ts) = found_from 1 s (t ∷ ts)

abbrev pub strange_from : ℕ → List ℕ → List ℕ → ℕ
strange_from place [] t = 0
strange_from place (s ∷ ss) t = if list_any (λ b. b == s) t then strange_from (place + 1) ss t else place

-- VERIFY: the place of the first byte of s that isn't in t; 0 for none
abbrev pub verify_of : List ℕ → List ℕ → ℕ
verify_of s t = strange_from 1 s t
