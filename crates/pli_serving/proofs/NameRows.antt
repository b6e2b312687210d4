-- Services 8 (mode 0), 9, 14 and 15, computed.
use Rattle.std.proofs.Common.{◌≡◌, ◌-◌, ◌^◌, ℕ, true, [], ◌∷◌, ◌++◌, Some, refl, replicate}
use Rattle.rv_meaning.specs.Memory.{bytes_of_words}
use Rattle.pli_meaning.specs.BasicValues.{Name, NullName, VariableName, BasedName}
use Rattle.pli_serving.specs.Bytes.{with_bytes, name_bytes, null_offset}
use Rattle.pli_serving.specs.ServiceState.{Services}
use Rattle.pli_serving.specs.Answers.{Answer, Bad}
use Rattle.pli_serving.specs.Finding.{Call}
use Rattle.pli_serving.specs.Arguments.{own_signature}
use Rattle.pli_serving.specs.Names.{resolve_served, address_served, locator_served, refer_served}
use Rattle.pli_serving.specs.AreaServices.{allocate_served}
use Rattle.pli_serving.proofs.CallPieces.{call, memory, in_main, registers, bytes_after, then'}

-- variable 1 is (1:2) FIXED(31) and CHARACTER(3) at 128, variable 2 an area at 192
abbrev two_living : Services
two_living =
    record in_main {
      serials = 2;
      living =
          record { serial = 2; owner = 1; signature = 3; at = 192 }
          ∷ record { serial = 1; owner = 1; signature = 1; at = 128 }
          ∷ [];
    }

-- a name at 48
abbrev with_name : Name → Call
with_name n = call two_living (with_bytes (name_bytes n) 48 memory)

abbrev variable_1 : Call
variable_1 = with_name (VariableName 1)

-- ---- 8

resolve_finds_the_leaf : registers (resolve_served variable_1 48 1 1 0) ≡ Some (136, 0)
resolve_finds_the_leaf = refl

own_signature_is_found : registers (resolve_served variable_1 48 own_signature 0 0) ≡ Some (128, 0)
own_signature_is_found = refl

array_is_described :
    bytes_after 20 64 (resolve_served variable_1 48 1 0 64) ≡ Some (bytes_of_words (1 ∷ 31 ∷ 1 ∷ 2 ∷ []) ++ replicate 4 0)
array_is_described = refl

text_is_described : bytes_after 8 64 (resolve_served variable_1 48 1 1 64) ≡ Some (bytes_of_words (2 ∷ 3 ∷ []))
text_is_described = refl

area_is_described : bytes_after 8 64 (resolve_served (with_name (VariableName 2)) 48 3 0 64) ≡ Some (bytes_of_words (7 ∷ 32 ∷ []))
area_is_described = refl

null_names_nothing : registers (resolve_served (with_name NullName) 48 1 0 0) ≡ Some (48, 101)
null_names_nothing = refl

variable_is_dead : registers (resolve_served (with_name (VariableName 3)) 48 own_signature 0 0) ≡ Some (48, 101)
variable_is_dead = refl

other_signature_is_not_named : registers (resolve_served variable_1 48 0 0 0) ≡ Some (48, 101)
other_signature_is_not_named = refl

area_is_dead : registers (resolve_served (with_name (BasedName 3 0)) 48 0 0 0) ≡ Some (48, 101)
area_is_dead = refl

nothing_is_in_the_heap : registers (resolve_served (with_name (BasedName 0 0)) 48 0 0 0) ≡ Some (48, 101)
nothing_is_in_the_heap = refl

-- variable 2's bytes are zeros
bytes_are_no_area : resolve_served (with_name (BasedName 2 0)) 48 0 0 0 ≡ Bad
bytes_are_no_area = refl

heap_is_no_area :
    resolve_served (call (record in_main { heap_made = true }) (with_bytes (name_bytes (BasedName 0 0)) 48 memory)) 48 0 0 0
    ≡ Bad
heap_is_no_area = refl

based_name_has_a_signature : resolve_served (with_name (BasedName 0 0)) 48 own_signature 0 0 ≡ Bad
based_name_has_a_signature = refl

null_name_has_a_signature : resolve_served (with_name NullName) 48 own_signature 0 0 ≡ Bad
null_name_has_a_signature = refl

no_such_signature : resolve_served variable_1 48 10 0 0 ≡ Bad
no_such_signature = refl

no_such_leaf : resolve_served variable_1 48 1 2 0 ≡ Bad
no_such_leaf = refl

name_has_three_kinds : resolve_served (call two_living (with_bytes (3 ∷ []) 48 memory)) 48 1 0 0 ≡ Bad
name_has_three_kinds = refl

name_is_in_the_code : resolve_served variable_1 8 1 0 0 ≡ Bad
name_is_in_the_code = refl

name_passes_the_end : resolve_served variable_1 500 1 0 0 ≡ Bad
name_passes_the_end = refl

buffer_is_in_the_code : resolve_served variable_1 48 1 0 12 ≡ Bad
buffer_is_in_the_code = refl

buffer_passes_the_end : resolve_served variable_1 48 1 0 500 ≡ Bad
buffer_passes_the_end = refl

-- ---- 9

name_is_copied : bytes_after 16 80 (address_served variable_1 48 1 80) ≡ Some (name_bytes (VariableName 1))
name_is_copied = refl

address_has_status_0 : registers (address_served variable_1 48 1 80) ≡ Some (48, 0)
address_has_status_0 = refl

dead_name_has_no_address : registers (address_served (with_name (VariableName 3)) 48 1 80) ≡ Some (48, 101)
dead_name_has_no_address = refl

dead_name_is_not_copied : bytes_after 16 80 (address_served (with_name (VariableName 3)) 48 1 80) ≡ Some (replicate 16 0)
dead_name_is_not_copied = refl

address_needs_a_signature : address_served variable_1 48 10 80 ≡ Bad
address_needs_a_signature = refl

address_needs_a_name : address_served variable_1 8 1 80 ≡ Bad
address_needs_a_name = refl

address_needs_an_area : address_served (with_name (BasedName 2 0)) 48 0 80 ≡ Bad
address_needs_an_area = refl

destination_is_in_the_code : address_served variable_1 48 1 8 ≡ Bad
destination_is_in_the_code = refl

-- ---- 14: the area's name stands at 48, what is converted in a0 or at 64

abbrev beside_area : Name → Call
beside_area n = call two_living (with_bytes (name_bytes n) 64 (with_bytes (name_bytes (VariableName 2)) 48 memory))

pointer_is_written : bytes_after 16 80 (locator_served (beside_area NullName) 16 48 80 0) ≡ Some (name_bytes (BasedName 2 16))
pointer_is_written = refl

pointer_keeps_registers : registers (locator_served (beside_area NullName) 16 48 80 0) ≡ Some (16, 48)
pointer_keeps_registers = refl

null_offset_is_the_null_name :
    bytes_after 16 64 (locator_served (beside_area (VariableName 1)) null_offset 48 64 0) ≡ Some (name_bytes NullName)
null_offset_is_the_null_name = refl

variable_is_no_area : locator_served variable_1 16 48 80 0 ≡ Bad
variable_is_no_area = refl

area_lives_no_more : locator_served (with_name (VariableName 3)) 16 48 80 0 ≡ Bad
area_lives_no_more = refl

heap_has_no_name : locator_served (with_name (VariableName 0)) 16 48 80 0 ≡ Bad
heap_has_no_name = refl

pointer_needs_data : locator_served (beside_area NullName) 16 48 8 0 ≡ Bad
pointer_needs_data = refl

offset_is_given : registers (locator_served (beside_area (BasedName 2 16)) 64 48 0 1) ≡ Some (16, 0)
offset_is_given = refl

null_name_is_the_null_offset : registers (locator_served (beside_area NullName) 64 48 0 1) ≡ Some (null_offset, 0)
null_name_is_the_null_offset = refl

name_is_in_another_area : registers (locator_served (beside_area (BasedName 0 16)) 64 48 0 1) ≡ Some (64, 110)
name_is_in_another_area = refl

variable_has_no_offset : registers (locator_served (beside_area (VariableName 2)) 64 48 0 1) ≡ Some (64, 110)
variable_has_no_offset = refl

null_is_in_no_area : registers (locator_served (beside_area NullName) 64 0 0 1) ≡ Some (null_offset, 0)
null_is_in_no_area = refl

other_names_are_in_no_area : registers (locator_served (beside_area (BasedName 2 16)) 64 0 0 1) ≡ Some (64, 110)
other_names_are_in_no_area = refl

offset_needs_a_name : locator_served (beside_area NullName) 8 48 0 1 ≡ Bad
offset_needs_a_name = refl

offset_needs_an_area : locator_served (beside_area NullName) 64 64 0 1 ≡ Bad
offset_needs_an_area = refl

locator_has_two_modes : locator_served (beside_area NullName) 16 48 80 2 ≡ Bad
locator_has_two_modes = refl

-- ---- 15: in the heap, data from 416 on, named at 48

-- a text of 5, an array of 2, or a number, whose member then tells so much
abbrev telling : (signature extent told : ℕ) → (Call → Answer) → Answer
telling signature extent told next =
    then' (allocate_served (call in_main memory) 0 signature extent 0 48)
    (λ c. next (call c.services (with_bytes (bytes_of_words (told ∷ [])) 416 c.memory)))

extent_is_told : registers (telling 4 5 3 (λ c. refer_served c 48 4 0)) ≡ Some (3, 0)
extent_is_told = refl

length_is_described : bytes_after 8 64 (telling 4 5 3 (λ c. refer_served c 48 4 64)) ≡ Some (bytes_of_words (0 ∷ 3 ∷ []))
length_is_described = refl

bound_is_described : bytes_after 16 64 (telling 5 2 1 (λ c. refer_served c 48 5 64)) ≡ Some (bytes_of_words (0 ∷ 0 ∷ 0 ∷ 1 ∷ []))
bound_is_described = refl

more_than_allocated : registers (telling 4 5 6 (λ c. refer_served c 48 4 64)) ≡ Some (48, 107)
more_than_allocated = refl

refused_extent_is_not_described :
    bytes_after 8 64 (telling 4 5 6 (λ c. refer_served c 48 4 64))
    ≡ Some (bytes_of_words (0 ∷ 0 ∷ []))
refused_extent_is_not_described = refl

negative_length : registers (telling 4 5 (2 ^ 16 - 1) (λ c. refer_served c 48 4 0)) ≡ Some (48, 107)
negative_length = refl

below_the_lower_bound : registers (telling 5 2 0 (λ c. refer_served c 48 5 0)) ≡ Some (48, 107)
below_the_lower_bound = refl

no_member_tells_0 : registers (telling 0 9 7 (λ c. refer_served c 48 0 8)) ≡ Some (0, 0)
no_member_tells_0 = refl

extent_needs_a_generation : refer_served (with_name NullName) 48 4 0 ≡ Bad
extent_needs_a_generation = refl

extent_needs_a_name : refer_served variable_1 8 4 0 ≡ Bad
extent_needs_a_name = refl

extent_needs_a_signature : refer_served variable_1 48 10 0 ≡ Bad
extent_needs_a_signature = refl

description_is_in_the_code : telling 4 5 3 (λ c. refer_served c 48 4 8) ≡ Bad
description_is_in_the_code = refl
