-- The text of a number is the one that std writes, and the value of digits as it is read.
use Rattle.std.proofs.Common.{◌≡◌, ℕ, suc, ◌+◌, ◌-◌, ◌*◌, ◌^◌, ◌<◌, true, List, [], ◌∷◌, length, drop, get_or, None, ℤ, pos, negsuc, ap, ◌∙◌, arith, rules, SFits, w32}
use Rattle.std.specs.Fmt.{decimal, signed_decimal}
use Rattle.std.proofs.lemmas.Fmt.{PrependsLastDigit, decimal_from_prepends, length-decimal-le}
use Rattle.std.proofs.lemmas.List.{append-nil, drop_more}
use Rattle.std.proofs.lemmas.Bool.Decides.{nat_tests}
use Rattle.pli_language.specs.Tokens.{is_digit}
use Rattle.pli_meaning.specs.Stream.{digits_before, decimal_digits, decimal_text}
use Rattle.pli_meaning.specs.Texts.{digits_behind}
use Rattle.pli_text.specs.Digits.{within_magnitude}

prepends : PrependsLastDigit digits_before
prepends = search rules

digits_are : (n : ℕ) → n < 2 ^ 64 → n < 10 ^ 20 → decimal_digits n ≡ decimal n
digits_are n small short =
    decimal_from_prepends digits_before prepends 20 n [] small (length-decimal-le 20 n (omega arith) short small) ∙ append-nil (decimal n)

pub decimal_text-is : (z : ℤ) → SFits w32 z → decimal_text z ≡ signed_decimal z
decimal_text-is (pos a) h = digits_are a (omega (arith, h)) (omega (arith, h))
decimal_text-is (negsuc a) h = ap (λ (t : List ℕ). 45 ∷ t) (digits_are (suc a) (omega (arith, h)) (omega (arith, h)))

-- ---- digits

-- a value only grows
digits_behind-large : (n : ℕ) (bs : List ℕ) → 2 ^ 31 < n → within_magnitude (digits_behind n bs) ≡ None
digits_behind-large n [] h = grind (arith, nat_tests)
digits_behind-large n (b ∷ bs) h = let r = digits_behind-large (n * 10 + (b - 48)) bs (omega arith) in grind (arith, nat_tests)

-- where one more digit makes too large a value
pub magnitude-past : (bs : List ℕ) (i value digit : ℕ) → i < length bs → is_digit (get_or bs i 0) ≡ true → digit ≡ get_or bs i 0 - 48 → 2 ^ 31 < value * 10 + digit → within_magnitude (digits_behind value (drop i bs)) ≡ None
magnitude-past bs i value digit h d e large =
    rw (drop_more bs i 0 h) (rw (d, ← e) (digits_behind-large (value * 10 + digit) (drop (i + 1) bs) large))
