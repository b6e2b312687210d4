-- Services 16 to 19, computed.
use Rattle.std.proofs.Common.{◌≡◌, ◌^◌, true, pos, [], ◌∷◌, Some, refl}
use Rattle.rv_meaning.specs.Memory.{bytes_of_words}
use Rattle.pli_meaning.specs.BasicValues.{BasedName}
use Rattle.pli_serving.specs.Bytes.{with_bytes, name_bytes}
use Rattle.pli_serving.specs.Answers.{Answer, Bad}
use Rattle.pli_serving.specs.Finding.{Call}
use Rattle.pli_serving.specs.ControlledServices.{push_served, pop_served, newest_served, count_served}
use Rattle.pli_serving.proofs.CallPieces.{call, memory, in_main, registers, after, bytes_after, area_after, then'}

abbrev nothing : Call
nothing = call in_main memory

-- variable 3 has so many generations
abbrev one : Answer
one = push_served nothing 3 7 0

abbrev two : Answer
two = then' one (λ c. push_served c 3 7 0)

-- ---- 16

push_has_status_0 : registers one ≡ Some (3, 0)
push_has_status_0 = refl

generation_is_pushed :
    after (λ v. v.controlled 3) two
    ≡ Some (record { offset = 32; signature = 7 } ∷ record { offset = 0; signature = 7 } ∷ [])
generation_is_pushed = refl

other_variables_have_none : after (λ v. v.controlled 2) two ≡ Some []
other_variables_have_none = refl

heap_is_made : after (λ v. v.heap_made) one ≡ Some true
heap_is_made = refl

heap_keeps_it :
    area_after 80 384 one
    ≡ Some (record { capacity = 64; placed = record { offset = 0; size = 4; signature = 7; extent = pos 0 } ∷ [] })
heap_keeps_it = refl

-- INITIAL 7 at 200
initial_value_is_written :
    bytes_after 4 416 (push_served (call in_main (with_bytes (bytes_of_words (1 ∷ 0 ∷ 12 ∷ 1 ∷ 1 ∷ 1 ∷ 7 ∷ [])) 200 memory)) 3 7 200)
    ≡ Some (7 ∷ 0 ∷ 0 ∷ 0 ∷ [])
initial_value_is_written = refl

heap_has_no_gap : registers (then' two (λ c. push_served c 4 7 0)) ≡ Some (4, 106)
heap_has_no_gap = refl

nothing_is_pushed_without_a_gap : after (λ v. v.controlled 4) (then' two (λ c. push_served c 4 7 0)) ≡ Some []
nothing_is_pushed_without_a_gap = refl

push_needs_a_variable : push_served nothing (2 ^ 16) 7 0 ≡ Bad
push_needs_a_variable = refl

push_needs_a_signature : push_served nothing 3 10 0 ≡ Bad
push_needs_a_signature = refl

pushed_signature_is_open : push_served nothing 3 2 0 ≡ Bad
pushed_signature_is_open = refl

area_is_not_pushed : push_served nothing 3 3 0 ≡ Bad
area_is_not_pushed = refl

initial_values_are_in_the_code : push_served nothing 3 7 12 ≡ Bad
initial_values_are_in_the_code = refl

heap_is_no_area : push_served (call (record in_main { heap_made = true }) memory) 3 7 0 ≡ Bad
heap_is_no_area = refl

-- ---- 17

newest_is_dropped :
    after (λ v. v.controlled 3) (then' two (λ c. pop_served c 3 9))
    ≡ Some (record { offset = 0; signature = 7 } ∷ [])
newest_is_dropped = refl

its_place_is_free :
    area_after 80 384 (then' two (λ c. pop_served c 3 9))
    ≡ Some (record { capacity = 64; placed = record { offset = 0; size = 4; signature = 7; extent = pos 0 } ∷ [] })
its_place_is_free = refl

pop_keeps_registers : registers (then' two (λ c. pop_served c 3 9)) ≡ Some (3, 9)
pop_keeps_registers = refl

nothing_is_dropped : registers (pop_served nothing 3 9) ≡ Some (3, 9)
nothing_is_dropped = refl

pop_needs_a_variable : pop_served nothing (2 ^ 16) 9 ≡ Bad
pop_needs_a_variable = refl

dropped_from_no_area : then' one (λ c. pop_served (call c.services memory) 3 9) ≡ Bad
dropped_from_no_area = refl

-- ---- 18

newest_has_its_signature : registers (then' two (λ c. newest_served c 3 64)) ≡ Some (0, 7)
newest_has_its_signature = refl

newest_is_named : bytes_after 16 64 (then' two (λ c. newest_served c 3 64)) ≡ Some (name_bytes (BasedName 0 32))
newest_is_named = refl

none_is_newest : registers (newest_served nothing 3 64) ≡ Some (101, 64)
none_is_newest = refl

newest_needs_a_variable : newest_served nothing (2 ^ 16) 64 ≡ Bad
newest_needs_a_variable = refl

newest_needs_data : newest_served nothing 3 8 ≡ Bad
newest_needs_data = refl

-- ---- 19

generations_are_counted : registers (then' two (λ c. count_served c 3 9)) ≡ Some (2, 9)
generations_are_counted = refl

none_are_counted : registers (count_served nothing 3 9) ≡ Some (0, 9)
none_are_counted = refl

count_needs_a_variable : count_served nothing (2 ^ 16) 9 ≡ Bad
count_needs_a_variable = refl
