-- Services 20 to 27, computed.
use Rattle.std.proofs.Common.{◌≡◌, ℕ, ◌-◌, ◌^◌, List, [], ◌∷◌, ◌++◌, replicate, refl}
use lib.Chars.{codes}
use Rattle.pli_serving.specs.ServiceState.{TextEntry}
use Rattle.pli_serving.specs.TextServices.{push_served, push_number_served, join_served, cut_served, compare_served, find_served, to_number_served, store_served}
use Rattle.pli_serving.proofs.RowCalls.{call, with_data, idle, texts, waiting, aggregate, Shown, BadService, Registers, Entries, Bytes, registers_of, entries_of, bytes_of}

-- ---- 20: the data holds `abcd`, then a varying text `xy` of at most 3 bytes, then one of 4 bytes where 3 are the most

abbrev stored_texts : List ℕ
stored_texts = with_data (codes "abcd" ++ 2 ∷ 0 ∷ codes "xyz" ++ 4 ∷ 0 ∷ codes "stuv")

push_character : entries_of (push_served (call idle stored_texts) 16 3 0) ≡ Entries (TextEntry (codes "abc") ∷ []) 16 3
push_character = refl

push_empty :
    entries_of (push_served (call (texts (codes "q" ∷ [])) stored_texts) 16 0 0)
    ≡ Entries (TextEntry [] ∷ TextEntry (codes "q") ∷ []) 16 0
push_empty = refl

push_varying : entries_of (push_served (call idle stored_texts) 20 3 1) ≡ Entries (TextEntry (codes "xy") ∷ []) 20 3
push_varying = refl

push_past_greatest : registers_of (push_served (call idle stored_texts) 25 3 1) ≡ BadService
push_past_greatest = refl

push_too_long : registers_of (push_served (call idle stored_texts) 16 1025 0) ≡ BadService
push_too_long = refl

push_code : registers_of (push_served (call idle stored_texts) 15 3 0) ≡ BadService
push_code = refl

push_to_end : registers_of (push_served (call idle stored_texts) 509 3 0) ≡ Registers 509 3
push_to_end = refl

push_past_end : registers_of (push_served (call idle stored_texts) 510 3 0) ≡ BadService
push_past_end = refl

push_varying_past_end : registers_of (push_served (call idle stored_texts) 508 3 1) ≡ BadService
push_varying_past_end = refl

push_other_mode : registers_of (push_served (call idle stored_texts) 16 3 2) ≡ BadService
push_other_mode = refl

-- ---- 21

push_short_number :
    entries_of (push_number_served (call idle []) (2 ^ 32 - 12) 15)
    ≡ Entries (TextEntry (codes "      -12") ∷ []) (2 ^ 32 - 12) 15
push_short_number = refl

push_long_number : entries_of (push_number_served (call idle []) 7 16) ≡ Entries (TextEntry (codes "             7") ∷ []) 7 16
push_long_number = refl

push_set_bit : entries_of (push_number_served (call idle []) 1 0) ≡ Entries (TextEntry (codes "1") ∷ []) 1 0
push_set_bit = refl

push_clear_bit : entries_of (push_number_served (call idle []) 0 0) ≡ Entries (TextEntry (codes "0") ∷ []) 0 0
push_clear_bit = refl

-- ---- 22

join_two :
    entries_of (join_served (call (texts (codes "cd" ∷ codes "ab" ∷ codes "q" ∷ [])) []) 5)
    ≡ Entries (TextEntry (codes "abcd") ∷ TextEntry (codes "q") ∷ []) 5 0
join_two = refl

join_longest : registers_of (join_served (call (texts (replicate 24 65 ∷ replicate 1000 66 ∷ [])) []) 5) ≡ Registers 5 0
join_longest = refl

join_too_long :
    entries_of (join_served (call (texts (replicate 25 65 ∷ replicate 1000 66 ∷ [])) []) 5)
    ≡ Entries (TextEntry (replicate 25 65) ∷ TextEntry (replicate 1000 66) ∷ []) 5 108
join_too_long = refl

join_one : registers_of (join_served (call (texts (codes "ab" ∷ [])) []) 5) ≡ BadService
join_one = refl

join_aggregate : registers_of (join_served (call (waiting (TextEntry (codes "ab") ∷ aggregate ∷ [])) []) 5) ≡ BadService
join_aggregate = refl

-- ---- 23

abbrev cut : (i j mode : ℕ) → Shown
cut i j mode = entries_of (cut_served (call (texts (codes "abc" ∷ [])) []) i j mode)

cut_from : cut 2 9 0 ≡ Entries (TextEntry (codes "bc") ∷ []) 2 0
cut_from = refl

cut_from_behind : cut 4 9 0 ≡ Entries (TextEntry [] ∷ []) 4 0
cut_from_behind = refl

cut_from_past : cut 5 9 0 ≡ Entries (TextEntry (codes "abc") ∷ []) 5 103
cut_from_past = refl

cut_from_zero : cut 0 9 0 ≡ Entries (TextEntry (codes "abc") ∷ []) 0 103
cut_from_zero = refl

cut_part : cut 2 1 1 ≡ Entries (TextEntry (codes "b") ∷ []) 2 0
cut_part = refl

cut_part_past : cut 2 3 1 ≡ Entries (TextEntry (codes "abc") ∷ []) 2 103
cut_part_past = refl

cut_part_negative : cut 2 (2 ^ 32 - 1) 1 ≡ Entries (TextEntry (codes "abc") ∷ []) 2 103
cut_part_negative = refl

cut_padded : cut 5 9 2 ≡ Entries (TextEntry (codes "abc  ") ∷ []) 5 0
cut_padded = refl

cut_exactly : cut 2 9 2 ≡ Entries (TextEntry (codes "ab") ∷ []) 2 0
cut_exactly = refl

cut_at_most : cut 5 9 3 ≡ Entries (TextEntry (codes "abc") ∷ []) 5 0
cut_at_most = refl

cut_to_fewer : cut 2 9 3 ≡ Entries (TextEntry (codes "ab") ∷ []) 2 0
cut_to_fewer = refl

cut_to_too_many : cut 1025 9 2 ≡ BadService
cut_to_too_many = refl

cut_other_mode : cut 1 1 4 ≡ BadService
cut_other_mode = refl

cut_nothing : registers_of (cut_served (call idle []) 1 1 0) ≡ BadService
cut_nothing = refl

cut_aggregate : registers_of (cut_served (call (waiting (aggregate ∷ [])) []) 1 1 2) ≡ BadService
cut_aggregate = refl

-- ---- 24

abbrev compared : (left right : List ℕ) → Shown
compared left right = entries_of (compare_served (call (texts (right ∷ left ∷ [])) []) 6)

compare_below : compared (codes "ab") (codes "b") ≡ Entries [] (2 ^ 32 - 1) 6
compare_below = refl

compare_equal : compared (codes "ab") (codes "ab  ") ≡ Entries [] 0 6
compare_equal = refl

compare_above : compared (codes "ab") (codes "a") ≡ Entries [] 1 6
compare_above = refl

compare_one : registers_of (compare_served (call (texts (codes "a" ∷ [])) []) 6) ≡ BadService
compare_one = refl

compare_aggregate : registers_of (compare_served (call (waiting (aggregate ∷ TextEntry [] ∷ [])) []) 6) ≡ BadService
compare_aggregate = refl

-- ---- 25

abbrev found : (left right : List ℕ) → (mode : ℕ) → Shown
found left right mode = entries_of (find_served (call (texts (right ∷ left ∷ [])) []) mode 6)

find_index : found (codes "banana") (codes "an") 0 ≡ Entries [] 2 6
find_index = refl

find_no_index : found (codes "an") (codes "banana") 0 ≡ Entries [] 0 6
find_no_index = refl

find_verify : found (codes "aabc") (codes "ab") 1 ≡ Entries [] 4 6
find_verify = refl

find_no_verify : found (codes "aab") (codes "ab") 1 ≡ Entries [] 0 6
find_no_verify = refl

find_other_mode : found (codes "a") (codes "a") 2 ≡ BadService
find_other_mode = refl

find_one : registers_of (find_served (call (texts (codes "a" ∷ [])) []) 0 6) ≡ BadService
find_one = refl

find_aggregate : registers_of (find_served (call (waiting (TextEntry [] ∷ aggregate ∷ [])) []) 1 6) ≡ BadService
find_aggregate = refl

-- ---- 26

abbrev converted : List ℕ → (mode : ℕ) → Shown
converted t mode = entries_of (to_number_served (call (texts (t ∷ [])) []) mode)

to_number : converted (codes " -12 ") 0 ≡ Entries [] (2 ^ 32 - 12) 0
to_number = refl

to_number_refused : converted (codes "1 2") 0 ≡ Entries (TextEntry (codes "1 2") ∷ []) 0 104
to_number_refused = refl

to_number_too_large : converted (codes "2147483648") 0 ≡ Entries (TextEntry (codes "2147483648") ∷ []) 0 104
to_number_too_large = refl

to_bit : converted (codes "1  ") 1 ≡ Entries [] 1 0
to_bit = refl

to_bit_refused : converted (codes " 1") 1 ≡ Entries (TextEntry (codes " 1") ∷ []) 1 104
to_bit_refused = refl

to_other_mode : converted (codes "1") 2 ≡ BadService
to_other_mode = refl

to_number_nothing : registers_of (to_number_served (call idle []) 0) ≡ BadService
to_number_nothing = refl

to_number_aggregate : registers_of (to_number_served (call (waiting (aggregate ∷ [])) []) 0) ≡ BadService
to_number_aggregate = refl

-- ---- 27

abbrev stored : List ℕ → (at most mode : ℕ) → Shown
stored t at most mode = bytes_of 6 16 (store_served (call (texts (t ∷ [])) (with_data (codes "......"))) at most mode)

store_padded : stored (codes "ab") 17 4 0 ≡ Bytes (codes ".ab  .") 0 2 4
store_padded = refl

store_cut : stored (codes "abc") 17 2 0 ≡ Bytes (codes ".ab...") 0 3 2
store_cut = refl

store_varying : stored (codes "ab") 16 3 1 ≡ Bytes (2 ∷ 0 ∷ codes "ab .") 0 2 3
store_varying = refl

store_varying_cut : stored (codes "abcd") 16 3 1 ≡ Bytes (3 ∷ 0 ∷ codes "abc.") 0 4 3
store_varying_cut = refl

store_measured : stored (codes "abc") 0 9 2 ≡ Bytes (codes "......") 1 3 9
store_measured = refl

store_dropped : stored (codes "abc") 0 9 3 ≡ Bytes (codes "......") 0 3 9
store_dropped = refl

store_code : stored (codes "abc") 15 2 0 ≡ BadService
store_code = refl

store_past_end : stored (codes "abc") 509 2 1 ≡ BadService
store_past_end = refl

store_too_long : stored (codes "abc") 16 1025 0 ≡ BadService
store_too_long = refl

store_other_mode : stored (codes "abc") 16 2 4 ≡ BadService
store_other_mode = refl

store_nothing : registers_of (store_served (call idle []) 16 2 0) ≡ BadService
store_nothing = refl

measure_nothing : registers_of (store_served (call idle []) 16 2 3) ≡ BadService
measure_nothing = refl

store_aggregate : registers_of (store_served (call (waiting (aggregate ∷ [])) []) 16 2 1) ≡ BadService
store_aggregate = refl
