-- The value of digits.
use Rattle.std.proofs.Common.{◌≡◌, ℕ, ◌+◌, ◌-◌, ◌*◌, ◌<◌, ◌≤◌, List, [], ◌∷◌, length, get_or, drop, true, arith}
use Rattle.std.specs.List.{list_all}
use Rattle.std.proofs.lemmas.Bool.{and_parts, leb-true}
use Rattle.std.proofs.lemmas.List.{at_drop_more}
use Rattle.std.proofs.lemmas.List.Sums.{AllPass-from_list_all}
use Rattle.pli_language.specs.Tokens.{is_digit, number_from}

-- further digits never make less
pub number_from-grows : (n : ℕ) (digits : List ℕ) → n ≤ number_from n digits
number_from-grows n [] = omega arith
number_from-grows n (b ∷ digits) = omega (arith, number_from-grows (n * 10 + (b - 48)) digits)

-- one digit on
pub number_from_more : (n : ℕ) (digits : List ℕ) (i d : ℕ) → i < length digits → number_from n (drop i digits) ≡ number_from (n * 10 + (get_or digits i d - 48)) (drop (i + 1) digits)
number_from_more n digits i d inside = at_drop_more (number_from n) digits i d inside

pub digit_at : (digits : List ℕ) (i d : ℕ) → list_all is_digit digits ≡ true → i < length digits → (48 ≤ get_or digits i d) × (get_or digits i d ≤ 57)
digit_at digits i d all inside =
    let parts = and_parts _ _ (AllPass-from_list_all is_digit digits all i d inside) in
    (leb-true _ _ parts.0, leb-true _ _ parts.1)
