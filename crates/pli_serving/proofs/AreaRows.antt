-- Services 10 to 13, computed.
use Rattle.std.proofs.Common.{◌≡◌, ◌-◌, ◌^◌, ℕ, true, false, pos, List, [], ◌∷◌, ◌++◌, Some, None, refl, replicate}
use lib.Chars.{codes}
use Rattle.rv_meaning.specs.Memory.{bytes_of_words}
use Rattle.pli_typing.specs.Signatures.{PlainClass}
use Rattle.pli_meaning.specs.BasicValues.{Name, NullName, VariableName, BasedName}
use Rattle.area_keeper.specs.Chain.{chain}
use Rattle.pli_serving.specs.Bytes.{bytes_at, with_bytes, name_bytes}
use Rattle.pli_types.specs.Templates.{OpenArea}
use Rattle.pli_serving.specs.ServiceState.{Services}
use Rattle.pli_serving.specs.Answers.{Answer, Bad}
use Rattle.pli_serving.specs.Finding.{Call}
use Rattle.pli_serving.specs.Names.{resolve_served}
use Rattle.pli_serving.specs.AreaServices.{allocate_served, free_served, area_assignment_served, empty_served}
use Rattle.pli_serving.proofs.CallPieces.{call, memory, start, in_main, registers, after, bytes_after, area_after, then'}

-- variable 1 is a number at 96; 2 and 3 are areas of 32 bytes at 128 and 192, and 4 one of 16 at 256, of signature 10
abbrev areas : Services
areas =
    record in_main {
      signatures =
          start.signatures
          ++ record { class = PlainClass; refer = None; leaves = record { kind = OpenArea (Some 16); bounds = [] } ∷ [] } ∷ [];
      living =
          record { serial = 4; owner = 1; signature = 10; at = 256 }
          ∷ record { serial = 3; owner = 1; signature = 3; at = 192 }
          ∷ record { serial = 2; owner = 1; signature = 3; at = 128 }
          ∷ record { serial = 1; owner = 1; signature = 0; at = 96 }
          ∷ [];
    }

abbrev with_area : (capacity at : ℕ) → List ℕ → List ℕ
with_area capacity at m = with_bytes (chain.made capacity (bytes_at (chain.bytes_for capacity) at m)) at m

-- two names, at 32 and 48, beside the areas, which are empty
abbrev with_names : Name → Name → Call
with_names a b =
    call
    areas
    (with_bytes (name_bytes b) 48 (with_bytes (name_bytes a) 32 (with_area 16 256 (with_area 32 192 (with_area 32 128 memory)))))

abbrev area_2 : Call
area_2 = with_names (VariableName 2) (VariableName 3)

-- a number is placed in the area named at 32, or with 0 in the heap, and its name stands at 64
abbrev placed_in : (area : ℕ) → Call → Answer
placed_in area c = allocate_served c area 0 0 0 64

-- ---- 10

generation_is_placed : registers (placed_in 32 area_2) ≡ Some (32, 0)
generation_is_placed = refl

area_keeps_it :
    area_after 48 128 (placed_in 32 area_2)
    ≡ Some (record { capacity = 32; placed = record { offset = 0; size = 4; signature = 0; extent = pos 0 } ∷ [] })
area_keeps_it = refl

based_name_is_written : bytes_after 16 64 (placed_in 32 area_2) ≡ Some (name_bytes (BasedName 2 0))
based_name_is_written = refl

area_has_no_gap : registers (then' (placed_in 32 area_2) (placed_in 32)) ≡ Some (32, 10)
area_has_no_gap = refl

refused_name_is_not_written :
    bytes_after 16 80 (then' (placed_in 32 area_2) (λ c. allocate_served c 32 0 0 0 80))
    ≡ Some (replicate 16 0)
refused_name_is_not_written = refl

heap_is_made : after (λ v. v.heap_made) (placed_in 0 area_2) ≡ Some true
heap_is_made = refl

area_makes_no_heap : after (λ v. v.heap_made) (placed_in 32 area_2) ≡ Some false
area_makes_no_heap = refl

heap_keeps_it : bytes_after 16 64 (placed_in 0 area_2) ≡ Some (name_bytes (BasedName 0 0))
heap_keeps_it = refl

heap_has_the_next_gap : bytes_after 16 64 (then' (placed_in 0 area_2) (placed_in 0)) ≡ Some (name_bytes (BasedName 0 32))
heap_has_the_next_gap = refl

heap_has_no_gap : registers (then' (then' (placed_in 0 area_2) (placed_in 0)) (placed_in 0)) ≡ Some (0, 106)
heap_has_no_gap = refl

-- a text of 100 has no place in the heap
refused_heap_is_not_made : after (λ v. v.heap_made) (allocate_served area_2 0 4 100 0 64) ≡ Some false
refused_heap_is_not_made = refl

allocation_makes_no_act : after (λ v. v.world.acts) (placed_in 32 area_2) ≡ Some 0
allocation_makes_no_act = refl

-- the member and a text of 5, which INITIAL at 320 begins with 'AB'
abbrev with_initial : List ℕ
with_initial = with_bytes (bytes_of_words (1 ∷ 1 ∷ 12 ∷ 1 ∷ 1 ∷ 2 ∷ 2 ∷ 0x4241 ∷ [])) 320 memory

member_and_text_are_written :
    bytes_after 12 416 (allocate_served (call areas with_initial) 0 4 5 320 64)
    ≡ Some (5 ∷ 0 ∷ 0 ∷ 0 ∷ (codes "AB   " ++ 0 ∷ 0 ∷ 0 ∷ []))
member_and_text_are_written = refl

placed_generation_is_found : registers (then' (placed_in 0 area_2) (λ c. resolve_served c 64 0 0 0)) ≡ Some (416, 0)
placed_generation_is_found = refl

placed_in_area_is_found : registers (then' (placed_in 32 area_2) (λ c. resolve_served c 64 0 0 0)) ≡ Some (160, 0)
placed_in_area_is_found = refl

no_such_signature : allocate_served area_2 32 11 0 0 64 ≡ Bad
no_such_signature = refl

signature_is_open : allocate_served area_2 32 2 0 0 64 ≡ Bad
signature_is_open = refl

area_is_not_placed : allocate_served area_2 0 3 0 0 64 ≡ Bad
area_is_not_placed = refl

member_keeps_no_such_extent : allocate_served area_2 0 5 (2 ^ 15) 0 64 ≡ Bad
member_keeps_no_such_extent = refl

length_is_negative : allocate_served area_2 0 4 (2 ^ 32 - 1) 0 64 ≡ Bad
length_is_negative = refl

length_is_too_great : allocate_served area_2 0 4 1025 0 64 ≡ Bad
length_is_too_great = refl

bound_is_below_the_lower : allocate_served area_2 0 5 0 0 64 ≡ Bad
bound_is_below_the_lower = refl

initial_values_are_in_the_code : allocate_served area_2 0 0 0 12 64 ≡ Bad
initial_values_are_in_the_code = refl

destination_is_in_the_code : allocate_served area_2 0 0 0 0 8 ≡ Bad
destination_is_in_the_code = refl

number_is_no_area : placed_in 32 (with_names (VariableName 1) NullName) ≡ Bad
number_is_no_area = refl

area_lives_no_more : placed_in 32 (with_names (VariableName 5) NullName) ≡ Bad
area_lives_no_more = refl

based_name_is_no_area : placed_in 32 (with_names (BasedName 2 0) NullName) ≡ Bad
based_name_is_no_area = refl

area_name_is_in_the_code : placed_in 8 area_2 ≡ Bad
area_name_is_in_the_code = refl

-- zeros where area 2 or the heap should be
abbrev broken : Call
broken = call (record areas { heap_made = true }) (with_bytes (name_bytes (VariableName 2)) 32 memory)

bytes_are_no_area : placed_in 32 broken ≡ Bad
bytes_are_no_area = refl

heap_is_no_area : placed_in 0 broken ≡ Bad
heap_is_no_area = refl

-- ---- 11

-- what is placed in area 2 is freed, its name at 64, with the area at an address or 0
abbrev freed_from : (area : ℕ) → Answer
freed_from area = then' (placed_in 32 area_2) (λ c. free_served c 64 0 area)

generation_is_removed : area_after 48 128 (freed_from 0) ≡ Some (record { capacity = 32; placed = [] })
generation_is_removed = refl

free_has_status_0 : registers (freed_from 0) ≡ Some (64, 0)
free_has_status_0 = refl

own_area_is_given : registers (freed_from 32) ≡ Some (64, 0)
own_area_is_given = refl

another_area_is_given : registers (freed_from 48) ≡ Some (64, 110)
another_area_is_given = refl

another_area_changes_nothing :
    area_after 48 128 (freed_from 48)
    ≡ Some (record { capacity = 32; placed = record { offset = 0; size = 4; signature = 0; extent = pos 0 } ∷ [] })
another_area_changes_nothing = refl

heap_is_freed :
    registers (then' (then' (placed_in 0 area_2) (λ c. free_served c 64 0 0)) (λ c. free_served c 64 0 0))
    ≡ Some (64, 101)
heap_is_freed = refl

freed_once_only : registers (then' (freed_from 0) (λ c. free_served c 64 0 0)) ≡ Some (64, 101)
freed_once_only = refl

null_is_not_freed : registers (free_served (with_names NullName NullName) 32 0 0) ≡ Some (32, 101)
null_is_not_freed = refl

variable_is_not_freed : registers (free_served (with_names (VariableName 1) NullName) 32 0 0) ≡ Some (32, 110)
variable_is_not_freed = refl

free_needs_a_signature : free_served area_2 32 11 0 ≡ Bad
free_needs_a_signature = refl

free_needs_a_name : free_served area_2 8 0 0 ≡ Bad
free_needs_a_name = refl

free_needs_an_area : free_served (with_names NullName (VariableName 1)) 32 0 48 ≡ Bad
free_needs_an_area = refl

freed_bytes_are_no_area : free_served (call areas (with_bytes (name_bytes (BasedName 2 0)) 32 memory)) 32 0 0 ≡ Bad
freed_bytes_are_no_area = refl

-- ---- 12

-- what is placed in area 2, to the area that is named at 48
abbrev assigned_to : Name → Answer
assigned_to target = then' (placed_in 32 (with_names (VariableName 2) target)) (λ c. area_assignment_served c 48 32)

area_is_assigned :
    area_after 48 192 (assigned_to (VariableName 3))
    ≡ Some (record { capacity = 32; placed = record { offset = 0; size = 4; signature = 0; extent = pos 0 } ∷ [] })
area_is_assigned = refl

assignment_has_status_0 : registers (assigned_to (VariableName 3)) ≡ Some (48, 0)
assignment_has_status_0 = refl

target_is_too_small : registers (assigned_to (VariableName 4)) ≡ Some (48, 10)
target_is_too_small = refl

small_target_stays : area_after 32 256 (assigned_to (VariableName 4)) ≡ Some (record { capacity = 16; placed = [] })
small_target_stays = refl

area_is_assigned_to_itself : registers (assigned_to (VariableName 2)) ≡ Some (48, 0)
area_is_assigned_to_itself = refl

empty_area_fits_a_small_one :
    registers (area_assignment_served (with_names (VariableName 2) (VariableName 4)) 48 32) ≡ Some (48, 0)
empty_area_fits_a_small_one = refl

target_is_no_area : assigned_to (VariableName 1) ≡ Bad
target_is_no_area = refl

source_is_no_area : area_assignment_served (with_names (VariableName 1) (VariableName 3)) 48 32 ≡ Bad
source_is_no_area = refl

targets_bytes_are_no_area :
    then' (placed_in 32 area_2) (λ c. area_assignment_served (call areas (with_bytes (replicate 48 0) 192 c.memory)) 48 32)
    ≡ Bad
targets_bytes_are_no_area = refl

sources_bytes_are_no_area : area_assignment_served (call areas (with_bytes (replicate 48 0) 128 area_2.memory)) 48 32 ≡ Bad
sources_bytes_are_no_area = refl

-- ---- 13

area_is_emptied :
    area_after 48 128 (then' (placed_in 32 area_2) (λ c. empty_served c 32 7))
    ≡ Some (record { capacity = 32; placed = [] })
area_is_emptied = refl

empty_keeps_registers : registers (empty_served area_2 32 7) ≡ Some (32, 7)
empty_keeps_registers = refl

emptied_is_no_area : empty_served (with_names (VariableName 1) NullName) 32 7 ≡ Bad
emptied_is_no_area = refl

emptied_bytes_are_no_area : empty_served broken 32 7 ≡ Bad
emptied_bytes_are_no_area = refl
