-- Service 8 with mode 1, computed.
use Rattle.std.proofs.Common.{◌≡◌, ℕ, ◌-◌, ◌^◌, ℤ, pos, List, map, [], ◌∷◌, ◌++◌, Option, Some, replicate, refl}
use Rattle.rv_meaning.specs.Memory.{bytes_of_words}
use Rattle.pli_typing.specs.TypedTree as Y
use Rattle.pli_meaning.specs.StreamOrder.{Element}
use Rattle.pli_meaning.specs.Streaming.{part_elements}
use Rattle.pli_serving.specs.Finding.{Call, Found}
use Rattle.pli_serving.specs.Outcomes.{then_found}
use Rattle.pli_serving.specs.Aggregates.{aggregate_at, designated_in}
use Rattle.pli_serving.specs.ElementService.{item_shape_at, elements_by, element_served}
use Rattle.pli_serving.proofs.RowCalls.{call, call_by, no_keeper, one_kept, Shown, BadService, Bytes, bytes_of}
use Rattle.pli_serving.proofs.AggregatePieces.{member, part, variable_of, ones, structure_data, memory, variable_name, whole_shape, row_shape, member_shape, based_name, refer_data, refer_shape, refer_array_shape, heap}

-- ---- the service's order is the storage machine's

abbrev structure_with : (place : ℕ) → (shape : List ℕ) → Call
structure_with place shape = call (variable_of 0 []) (memory variable_name 0 place 0 shape structure_data)

abbrev served_elements : Call → Option (List Element)
served_elements c = then_found (aggregate_at c 32) (λ a. then_found (item_shape_at c 52) (elements_by c a))

abbrev found_at_128 : Found
found_at_128 = record { at = 128; signature = 0; extent = pos 0 }

-- the elements of a part of the structure, as GET and PUT go through them
abbrev machine_elements : Call → Y.Part → List ℤ → Option (List Element)
machine_elements c p is =
    then_found (aggregate_at c 32)
    (λ a. Some (part_elements (member 0 1 ∷ member 1 0 ∷ member 1 1 ∷ []) (designated_in c a found_at_128 p is)))

whole_in_order : served_elements (structure_with 0 whole_shape) ≡ machine_elements (structure_with 0 whole_shape) (part 0 2) []
whole_in_order = refl

row_in_order :
    served_elements (structure_with 1 row_shape)
    ≡ machine_elements (structure_with 1 row_shape) (part 0 2) (pos 2 ∷ [])
row_in_order = refl

member_in_order : served_elements (structure_with 0 member_shape) ≡ machine_elements (structure_with 0 member_shape) (part 1 1) []
member_in_order = refl

-- ---- a structure: the buffer is at 112

abbrev served : Call → (number : ℕ) → Shown
served c number = bytes_of 8 112 (element_served c 32 52 number 112)

-- the buffer with a kind and a size
abbrev buffer : (kind size : ℕ) → List ℕ
buffer kind size = kind ∷ 0 ∷ 0 ∷ 0 ∷ size ∷ 0 ∷ 0 ∷ 0 ∷ []

-- the buffer stays as it is
abbrev no_more : Shown
no_more = Bytes (buffer 0 0) 0 ones 0

first_element : served (structure_with 0 whole_shape) 0 ≡ Bytes (buffer 1 31) 0 128 0
first_element = refl

second_element : served (structure_with 0 whole_shape) 1 ≡ Bytes (buffer 2 3) 0 136 0
second_element = refl

fourth_element : served (structure_with 0 whole_shape) 3 ≡ Bytes (buffer 1 31) 0 132 0
fourth_element = refl

last_element : served (structure_with 0 whole_shape) 5 ≡ Bytes (buffer 2 3) 0 148 0
last_element = refl

no_seventh_element : served (structure_with 0 whole_shape) 6 ≡ no_more
no_seventh_element = refl

-- all ones in the lower word alone, in the higher one, and in both
no_element_of_a_high_number : map (served (structure_with 0 whole_shape)) ((2 ^ 32 - 1) ∷ (2 ^ 64 - 2 ^ 32) ∷ (2 ^ 64 - 1) ∷ []) ≡ (no_more ∷ no_more ∷ no_more ∷ [])
no_element_of_a_high_number = refl

behind_the_row : served (structure_with 1 row_shape) 3 ≡ no_more
behind_the_row = refl

row_element : served (structure_with 1 row_shape) 1 ≡ Bytes (buffer 2 3) 0 144 0
row_element = refl

member_element : served (structure_with 0 member_shape) 2 ≡ Bytes (buffer 2 3) 0 144 0
member_element = refl

-- a row that the structure doesn't have
element_outside : served (structure_with 2 row_shape) 0 ≡ BadService
element_outside = refl

-- a second subscript, which the first leaf doesn't have
too_many_subscripts : served (structure_with 0 (2 ∷ 0 ∷ 2 ∷ 0 ∷ 0 ∷ 0 ∷ 0 ∷ 1 ∷ 0 ∷ 1 ∷ [])) 0 ≡ BadService
too_many_subscripts = refl

-- ---- other names and signatures

abbrev named_by : (name : List ℕ) → (signature : ℕ) → Call
named_by name signature = call (variable_of 0 []) (memory name signature 0 0 whole_shape structure_data)

null_name : served (named_by (0 ∷ 0 ∷ 0 ∷ 0 ∷ []) 0) 1 ≡ Bytes (buffer 2 3) 0 32 101
null_name = refl

dead_name : served (named_by (1 ∷ 0 ∷ 9 ∷ 0 ∷ []) 0) 0 ≡ Bytes (buffer 1 31) 0 32 101
dead_name = refl

behind_a_dead_name : served (named_by (1 ∷ 0 ∷ 9 ∷ 0 ∷ []) 0) 6 ≡ no_more
behind_a_dead_name = refl

other_signature : served (named_by variable_name 2) 1 ≡ Bytes (buffer 2 2) 0 32 101
other_signature = refl

own_signature : served (named_by variable_name ones) 1 ≡ Bytes (buffer 2 3) 0 136 0
own_signature = refl

own_signature_of_dead : served (named_by (1 ∷ 0 ∷ 9 ∷ 0 ∷ []) ones) 0 ≡ BadService
own_signature_of_dead = refl

own_signature_of_based : served (named_by based_name ones) 0 ≡ BadService
own_signature_of_based = refl

unknown_signature : served (named_by variable_name 13) 0 ≡ BadService
unknown_signature = refl

open_signature : served (named_by variable_name 9) 0 ≡ BadService
open_signature = refl

other_kind_of_name : served (named_by (3 ∷ 0 ∷ 1 ∷ 0 ∷ []) 0) 0 ≡ BadService
other_kind_of_name = refl

-- ---- addresses outside data, and shapes that are none

abbrev bad_at : (aggregate shape buffer : ℕ) → Shown
bad_at aggregate shape place = bytes_of 8 112 (element_served (structure_with 0 whole_shape) aggregate shape 0 place)

record_outside : bad_at 500 52 112 ≡ BadService
record_outside = refl

record_in_code : bad_at 12 52 112 ≡ BadService
record_in_code = refl

shape_outside : bad_at 32 500 112 ≡ BadService
shape_outside = refl

buffer_in_code : bad_at 32 52 12 ≡ BadService
buffer_in_code = refl

buffer_outside : bad_at 32 52 508 ≡ BadService
buffer_outside = refl

buffer_to_end : bytes_of 0 0 (element_served (structure_with 0 whole_shape) 32 52 0 504) ≡ Bytes [] 0 128 0
buffer_to_end = refl

-- the name of a record in the code
name_in_code : bytes_of 0 0 (element_served (structure_with 0 whole_shape) 36 52 0 112) ≡ BadService
name_in_code = refl

-- a second leaf, and another behind it
leaf_that_is_not_there : served (structure_with 0 (0 ∷ 1 ∷ 2 ∷ 1 ∷ 0 ∷ 0 ∷ 1 ∷ 1 ∷ 0 ∷ 2 ∷ [])) 0 ≡ BadService
leaf_that_is_not_there = refl

-- members that go on past the end of memory
members_past_end :
    bytes_of 0 0 (element_served
    (call (variable_of 0 []) (memory variable_name 0 0 0 [] (replicate 368 0 ++ bytes_of_words (0 ∷ 0 ∷ 1 ∷ 0 ∷ [])))) 32 496 0 112)
    ≡ BadService
members_past_end = refl

shape_to_end :
    bytes_of 0 0 (element_served
    (call (variable_of 0 []) (memory variable_name 0 0 0 [] (replicate 368 0 ++ bytes_of_words (0 ∷ 1 ∷ 0 ∷ 0 ∷ [])))) 32 496 2 112)
    ≡ Bytes [] 0 ones 0
shape_to_end = refl

-- ---- a REFER extent: with 4 allocated, so many in force

abbrev refers_to : (extent : ℕ) → Call
refers_to extent = call_by (one_kept 1) (heap []) (memory based_name 1 0 extent refer_shape refer_data)

refer_element : served (refers_to 3) 1 ≡ Bytes (buffer 2 3) 0 276 0
refer_element = refl

refer_not_in_full : served (refers_to 5) 1 ≡ Bytes (buffer 2 5) 0 32 107
refer_not_in_full = refl

refer_other_leaf : served (refers_to 5) 0 ≡ Bytes (buffer 1 15) 0 272 0
refer_other_leaf = refl

abbrev array_refers_to : (extent : ℕ) → Call
array_refers_to extent = call_by (one_kept 12) (heap []) (memory based_name 12 0 extent refer_array_shape refer_data)

behind_the_refer_array : served (array_refers_to 3) 4 ≡ no_more
behind_the_refer_array = refl

refer_array_element : served (array_refers_to 5) 4 ≡ Bytes (buffer 1 31) 0 288 0
refer_array_element = refl

refer_array_past_allocated : served (array_refers_to 5) 5 ≡ Bytes (buffer 1 31) 0 32 107
refer_array_past_allocated = refl

no_area : served (call_by no_keeper (heap []) (memory based_name 1 0 3 refer_shape refer_data)) 1 ≡ BadService
no_area = refl
