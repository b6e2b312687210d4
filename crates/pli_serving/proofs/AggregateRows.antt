-- Services 40 and 41, computed.
use Rattle.std.proofs.Common.{◌≡◌, ℕ, ◌-◌, ◌^◌, List, [], ◌∷◌, ◌++◌, replicate, refl}
use lib.Chars.{codes}
use Rattle.rv_meaning.specs.Memory.{bytes_of_words}
use Rattle.pli_typing.specs.Signatures.{LeafKind, Fixed, Character, Varying, Bounds}
use Rattle.pli_serving.specs.ServiceState.{Entry, TextEntry, AggregateEntry, TakenLeaf}
use Rattle.pli_serving.specs.Finding.{Call}
use Rattle.pli_serving.specs.AggregateServices.{aggregate_served, scalar_served}
use Rattle.pli_serving.proofs.RowCalls.{call, call_by, no_keeper, one_kept, Shown, BadService, Entries, Bytes, entries_of, bytes_of}
use Rattle.pli_serving.proofs.AggregatePieces.{up_to, variable_of, ones, structure_data, memory, variable_name, based_name, refer_data, heap}

-- ---- 40, mode 0

abbrev holding : (signature place : ℕ) → List Entry → Call
holding signature place entries =
    call (variable_of signature entries) (memory variable_name signature place 0 [] structure_data)

abbrev taken : (kind : LeafKind) → List Bounds → List (List ℕ) → TakenLeaf
taken kind bounds elements = record { kind = kind; bounds = bounds; elements = elements }

abbrev four_texts : List (List ℕ)
four_texts = codes "abc" ∷ codes "def" ∷ codes "ghi" ∷ codes "jkl" ∷ []

abbrev two_numbers : List (List ℕ)
two_numbers = (11 ∷ 0 ∷ 0 ∷ 0 ∷ []) ∷ (12 ∷ 0 ∷ 0 ∷ 0 ∷ []) ∷ []

-- what structure 0 holds, all of it
abbrev whole_entry : Entry
whole_entry =
    AggregateEntry (taken (Fixed 31) (up_to 2 ∷ []) two_numbers ∷ taken (Character 3) (up_to 2 ∷ up_to 2 ∷ []) four_texts ∷ [])

-- what its second row holds
abbrev row_entry : Entry
row_entry =
    AggregateEntry (taken (Fixed 31) [] ((12 ∷ 0 ∷ 0 ∷ 0 ∷ []) ∷ []) ∷ taken (Character 3) (up_to 2 ∷ []) (codes "ghi" ∷ codes "jkl" ∷ []) ∷ [])

abbrev take : (signature place first count given : ℕ) → Shown
take signature place first count given =
    entries_of (aggregate_served (holding signature place (TextEntry (codes "q") ∷ [])) 32 first count given 0)

take_whole : take 0 0 0 2 0 ≡ Entries (whole_entry ∷ TextEntry (codes "q") ∷ []) 32 0
take_whole = refl

take_row : take 0 1 0 2 1 ≡ Entries (row_entry ∷ TextEntry (codes "q") ∷ []) 32 0
take_row = refl

take_member :
    take 0 0 1 1 0
    ≡ Entries (AggregateEntry (taken (Character 3) (up_to 2 ∷ up_to 2 ∷ []) four_texts ∷ []) ∷ TextEntry (codes "q") ∷ []) 32 0
take_member = refl

take_leaf_that_is_not_there : take 0 0 1 2 0 ≡ BadService
take_leaf_that_is_not_there = refl

take_row_outside : take 0 2 0 2 1 ≡ BadService
take_row_outside = refl

take_too_many_subscripts : take 0 0 0 2 2 ≡ BadService
take_too_many_subscripts = refl

take_area : take 10 0 0 1 0 ≡ BadService
take_area = refl

take_open_signature : take 9 0 0 1 0 ≡ BadService
take_open_signature = refl

take_unknown_signature : take 13 0 0 1 0 ≡ BadService
take_unknown_signature = refl

take_other_mode : entries_of (aggregate_served (holding 0 0 (whole_entry ∷ [])) 32 0 2 0 2) ≡ BadService
take_other_mode = refl

take_dead :
    entries_of (aggregate_served (call (variable_of 0 []) (memory (1 ∷ 0 ∷ 9 ∷ 0 ∷ []) 0 0 0 [] structure_data)) 32 0 2 0 0)
    ≡ BadService
take_dead = refl

take_other_signature :
    entries_of (aggregate_served (call (variable_of 2 []) (memory variable_name 0 0 0 [] structure_data)) 32 0 2 0 0)
    ≡ BadService
take_other_signature = refl

take_other_kind_of_name :
    entries_of (aggregate_served (call (variable_of 0 []) (memory (3 ∷ 0 ∷ 1 ∷ 0 ∷ []) 0 0 0 [] structure_data)) 32 0 2 0 0)
    ≡ BadService
take_other_kind_of_name = refl

take_record_outside : entries_of (aggregate_served (holding 0 0 []) 500 0 2 0 0) ≡ BadService
take_record_outside = refl

-- a varying text goes without its length and padding
take_varying :
    entries_of (aggregate_served
    (call (variable_of 5 []) (memory variable_name 5 0 0 [] (2 ∷ 0 ∷ codes "ab    " ++ 0 ∷ 0 ∷ codes "      "))) 32 0 1 0 0)
    ≡ Entries (AggregateEntry (taken (Varying 3) (up_to 2 ∷ []) (codes "ab" ∷ [] ∷ []) ∷ []) ∷ []) 32 0
take_varying = refl

-- ---- 40, mode 1

abbrev put : (signature place given : ℕ) → List Entry → (count : ℕ) → Shown
put signature place given entries count =
    bytes_of count 128 (aggregate_served
    (call (variable_of signature entries) (memory variable_name signature place 0 [] (replicate 32 46))) 32 0 2 given 1)

put_whole : put 0 0 0 (whole_entry ∷ TextEntry [] ∷ []) 24
    ≡ Bytes (bytes_of_words (11 ∷ 12 ∷ []) ++ codes "abc.def.ghi.jkl.") 1 32 0
put_whole = refl

put_row : put 0 1 1 (row_entry ∷ []) 24
    ≡ Bytes (codes "...." ++ bytes_of_words (12 ∷ []) ++ codes "........ghi.jkl.") 0 32 0
put_row = refl

-- texts are cut
put_shorter : put 2 0 0 (whole_entry ∷ []) 24
    ≡ Bytes (bytes_of_words (11 ∷ 12 ∷ []) ++ codes "ab..de..gh..jk..") 0 32 0
put_shorter = refl

put_other_bounds : put 3 0 0 (whole_entry ∷ []) 8 ≡ Bytes (codes "........") 1 32 109
put_other_bounds = refl

put_fewer_leaves :
    put 0 0 0 (AggregateEntry (taken (Fixed 31) (up_to 2 ∷ []) two_numbers ∷ []) ∷ []) 8
    ≡ Bytes (codes "........") 1 32 109
put_fewer_leaves = refl

put_other_kind : put 11 0 0 (whole_entry ∷ []) 8 ≡ BadService
put_other_kind = refl

put_text : put 0 0 0 (TextEntry (codes "abc") ∷ whole_entry ∷ []) 8 ≡ BadService
put_text = refl

put_nothing : put 0 0 0 [] 8 ≡ BadService
put_nothing = refl

-- ---- 40 with a REFER extent: with 4 allocated, so many in force

abbrev refers_to : (extent : ℕ) → List Entry → Call
refers_to extent entries = call_by (one_kept 1) (heap entries) (memory based_name 1 0 extent [] refer_data)

abbrev refer_entry : (text : List ℕ) → Entry
refer_entry text = AggregateEntry (taken (Fixed 15) [] ((7 ∷ 0 ∷ []) ∷ []) ∷ taken (Character 3) [] (text ∷ []) ∷ [])

take_refer :
    entries_of (aggregate_served (refers_to 3 []) 32 0 2 0 0)
    ≡ Entries (AggregateEntry (taken (Fixed 15) [] ((3 ∷ 0 ∷ []) ∷ []) ∷ taken (Character 3) [] (codes "wxy" ∷ []) ∷ []) ∷ []) 32 0
take_refer = refl

-- the text is padded to the length in force, and what stands behind it stays
put_refer :
    bytes_of 8 272 (aggregate_served (refers_to 3 (refer_entry (codes "Q") ∷ [])) 32 0 2 0 1)
    ≡ Bytes (7 ∷ 0 ∷ 0 ∷ 0 ∷ codes "Q  z") 0 32 0
put_refer = refl

take_refer_too_large : entries_of (aggregate_served (refers_to 5 []) 32 0 2 0 0) ≡ BadService
take_refer_too_large = refl

take_refer_array_too_large :
    entries_of (aggregate_served (call_by (one_kept 12) (heap []) (memory based_name 12 0 5 [] refer_data)) 32 0 2 0 0)
    ≡ BadService
take_refer_array_too_large = refl

take_without_area :
    entries_of (aggregate_served (call_by no_keeper (heap []) (memory based_name 1 0 3 [] refer_data)) 32 0 2 0 0)
    ≡ BadService
take_without_area = refl

-- ---- 41

abbrev set : (signature leaf value : ℕ) → List Entry → (count : ℕ) → Shown
set signature leaf value entries count =
    bytes_of count 128 (scalar_served
    (call (variable_of signature entries) (memory variable_name signature 0 0 [] (replicate 32 46))) 32 leaf value)

set_numbers : set 0 0 (2 ^ 32 - 2) [] 9 ≡ Bytes (254 ∷ 255 ∷ 255 ∷ 255 ∷ 254 ∷ 255 ∷ 255 ∷ 255 ∷ 46 ∷ []) 0 32 0
set_numbers = refl

set_short_numbers : set 4 0 (2 ^ 32 - 2) [] 9 ≡ Bytes (254 ∷ 255 ∷ 46 ∷ 46 ∷ 254 ∷ 255 ∷ 46 ∷ 46 ∷ 46 ∷ []) 0 32 0
set_short_numbers = refl

set_texts : set 0 1 9 (TextEntry (codes "u") ∷ []) 24 ≡ Bytes (codes "........u  .u  .u  .u  .") 0 32 1
set_texts = refl

set_varying_texts : set 5 0 9 (TextEntry (codes "uvwx") ∷ []) 16 ≡ Bytes (3 ∷ 0 ∷ codes "uvw..." ++ 3 ∷ 0 ∷ codes "uvw...") 0 32 0
set_varying_texts = refl

set_bits : set 6 0 1 [] 8 ≡ Bytes (1 ∷ 46 ∷ 46 ∷ 46 ∷ 1 ∷ 46 ∷ 46 ∷ 46 ∷ []) 0 32 0
set_bits = refl

-- the name of the variable itself, at 16
set_pointers : set 7 0 16 [] 32 ≡ Bytes (bytes_of_words (1 ∷ 0 ∷ 1 ∷ 0 ∷ 1 ∷ 0 ∷ 1 ∷ 0 ∷ [])) 0 32 0
set_pointers = refl

set_offsets : set 8 0 (2 ^ 32 - 1) [] 8 ≡ Bytes (replicate 8 255) 0 32 0
set_offsets = refl

set_pointers_from_code : set 7 0 12 [] 8 ≡ BadService
set_pointers_from_code = refl

-- data whose first word is no kind of a name
set_pointers_from_other_kind : set 7 0 128 [] 8 ≡ BadService
set_pointers_from_other_kind = refl

set_texts_from_nothing : set 0 1 9 [] 8 ≡ BadService
set_texts_from_nothing = refl

set_texts_from_aggregate : set 0 1 9 (whole_entry ∷ []) 8 ≡ BadService
set_texts_from_aggregate = refl

set_leaf_that_is_not_there : set 0 2 9 [] 8 ≡ BadService
set_leaf_that_is_not_there = refl

set_area : set 10 0 9 [] 8 ≡ BadService
set_area = refl

set_unknown_signature : set 13 0 9 [] 8 ≡ BadService
set_unknown_signature = refl

set_open_signature : set 9 0 9 (TextEntry [] ∷ []) 8 ≡ BadService
set_open_signature = refl

set_own_signature :
    bytes_of 8 128 (scalar_served (call (variable_of 0 []) (memory variable_name ones 0 0 [] (replicate 32 46))) 32 0 5)
    ≡ Bytes (bytes_of_words (5 ∷ 5 ∷ [])) 0 32 0
set_own_signature = refl

set_dead : bytes_of 8 128 (scalar_served (call (variable_of 0 []) (memory (0 ∷ 0 ∷ 0 ∷ 0 ∷ []) 0 0 0 [] [])) 32 0 5) ≡ BadService
set_dead = refl
