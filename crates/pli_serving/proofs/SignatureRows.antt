-- Service 3, computed.
use Rattle.std.proofs.Common.{◌≡◌, ◌-◌, ◌^◌, ℕ, List, [], ◌∷◌, Some, refl, length}
use Rattle.rv_meaning.specs.Memory.{bytes_of_words}
use Rattle.pli_serving.specs.Bytes.{with_bytes}
use Rattle.pli_serving.specs.Answers.{Bad}
use Rattle.pli_serving.specs.SignatureService.{signature_served}
use Rattle.pli_serving.proofs.CallPieces.{call, memory, start, registers, after, then'}

-- a list of places at 32
abbrev with_places : List ℕ → List ℕ
with_places words = with_bytes (bytes_of_words words) 32 memory

-- the length of a leaf, or one of its bounds
abbrev length_of_leaf_0 : List ℕ
length_of_leaf_0 = with_places (1 ∷ 0 ∷ 255 ∷ [])

abbrev pair_of_leaf_0 : List ℕ
pair_of_leaf_0 = with_places (1 ∷ 0 ∷ 0 ∷ [])

abbrev pair_of_leaf_1 : List ℕ
pair_of_leaf_1 = with_places (1 ∷ 1 ∷ 0 ∷ [])

abbrev minus : ℕ → ℕ
minus n = 2 ^ 32 - n

-- CHARACTER(*) with 17: a new number behind the 10 of the table, and 32 bytes
length_is_filled : registers (signature_served (call start length_of_leaf_0) 2 32 0 17) ≡ Some (10, 32)
length_is_filled = refl

signature_is_appended : after (λ v. length v.signatures) (signature_served (call start length_of_leaf_0) 2 32 0 17) ≡ Some 11
signature_is_appended = refl

equal_signatures_have_equal_numbers :
    registers (then' (signature_served (call start length_of_leaf_0) 2 32 0 17) (λ c. signature_served c 2 32 0 17))
    ≡ Some (10, 32)
equal_signatures_have_equal_numbers = refl

other_signatures_have_others :
    registers (then' (signature_served (call start length_of_leaf_0) 2 32 0 17) (λ c. signature_served c 2 32 0 3))
    ≡ Some (11, 16)
other_signatures_have_others = refl

-- AREA(*) with 40 is the table's AREA(32), which takes 48 bytes
area_of_the_table : registers (signature_served (call start length_of_leaf_0) 9 32 0 40) ≡ Some (3, 48)
area_of_the_table = refl

most_is_reserved : registers (signature_served (call start length_of_leaf_0) 9 32 0 (2 ^ 31 - 1)) ≡ Some (10, 2 ^ 30)
most_is_reserved = refl

-- (*) VARYING(*): nothing is reserved before both are filled in
open_signature_reserves_nothing : registers (signature_served (call start length_of_leaf_0) 8 32 0 5) ≡ Some (10, 0)
open_signature_reserves_nothing = refl

bounds_are_filled :
    registers (then' (signature_served (call start length_of_leaf_0) 8 32 0 5) (λ c. signature_served (call c.services pair_of_leaf_0) 10 32 (minus 1) 1))
    ≡ Some (11, 32)
bounds_are_filled = refl

-- of the pair that REFER completes the lower bound alone is set, and can be set again
lower_bound_alone_is_set :
    after (λ v. v.signatures) (signature_served (call start pair_of_leaf_1) 5 32 1 99)
    ≡ Some start.signatures
lower_bound_alone_is_set = refl

lower_bound_is_set_again :
    registers (then' (signature_served (call start pair_of_leaf_1) 5 32 7 0) (λ c. signature_served c 10 32 1 0)) ≡ Some (5, 16)
lower_bound_is_set_again = refl

no_place_is_the_signature_itself : registers (signature_served (call start (with_places (0 ∷ []))) 1 32 0 0) ≡ Some (1, 16)
no_place_is_the_signature_itself = refl

no_such_number : signature_served (call start length_of_leaf_0) 10 32 0 17 ≡ Bad
no_such_number = refl

no_such_leaf : signature_served (call start (with_places (1 ∷ 1 ∷ 255 ∷ []))) 2 32 0 17 ≡ Bad
no_such_leaf = refl

no_such_dimension : signature_served (call start (with_places (1 ∷ 0 ∷ 1 ∷ []))) 8 32 1 2 ≡ Bad
no_such_dimension = refl

length_is_not_open : signature_served (call start (with_places (1 ∷ 1 ∷ 255 ∷ []))) 1 32 0 17 ≡ Bad
length_is_not_open = refl

bounds_are_not_open : signature_served (call start pair_of_leaf_0) 1 32 1 2 ≡ Bad
bounds_are_not_open = refl

refer_length_is_not_open : signature_served (call start (with_places (1 ∷ 1 ∷ 255 ∷ []))) 4 32 0 17 ≡ Bad
refer_length_is_not_open = refl

number_has_no_length : signature_served (call start length_of_leaf_0) 0 32 0 17 ≡ Bad
number_has_no_length = refl

length_is_too_great : signature_served (call start length_of_leaf_0) 2 32 0 1025 ≡ Bad
length_is_too_great = refl

length_is_negative : signature_served (call start length_of_leaf_0) 2 32 0 (minus 1) ≡ Bad
length_is_negative = refl

size_is_negative : signature_served (call start length_of_leaf_0) 9 32 0 (minus 1) ≡ Bad
size_is_negative = refl

upper_bound_is_below_the_lower : signature_served (call start pair_of_leaf_0) 8 32 2 1 ≡ Bad
upper_bound_is_below_the_lower = refl

list_begins_in_the_code : signature_served (call start length_of_leaf_0) 2 12 0 17 ≡ Bad
list_begins_in_the_code = refl

list_begins_at_the_end : signature_served (call start length_of_leaf_0) 2 512 0 17 ≡ Bad
list_begins_at_the_end = refl

list_passes_the_end :
    signature_served (call start (with_bytes (bytes_of_words (1 ∷ [])) 504 memory)) 2 504 0 17 ≡ Bad
list_passes_the_end = refl
