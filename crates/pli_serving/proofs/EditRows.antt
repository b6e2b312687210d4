-- Services 34 to 39, computed.
use Rattle.std.proofs.Common.{◌≡◌, ℕ, ◌-◌, ◌^◌, List, [], ◌∷◌, ◌++◌, Option, Some, None, length, map, refl}
use lib.Chars.{codes}
use Rattle.pli_meaning.specs.World.{first_world}
use Rattle.pli_meaning.specs.InputLines.{first_input, characters}
use Rattle.pli_meaning.specs.Streaming.{FormatItem, DataFormat, ControlFormat, FixedItem, TextItem, SpaceItem, SkipItem, ColumnItem}
use Rattle.pli_serving.specs.ServiceState.{Services, TextEntry, Direction, Getting, Putting, EditPlace}
use Rattle.pli_serving.specs.Answers.{Answer, Done}
use Rattle.pli_serving.specs.FormatLists.{formats_at}
use Rattle.pli_serving.specs.Edits.{edit_begin_served, control_served, fixed_served, text_served, edit_end_served, skip_served}
use Rattle.pli_serving.proofs.RowCalls.{call, with_words, words_at, idle, aggregate, BadService, Registers, Entries, registers_of, entries_of}

-- ---- format lists

abbrev formats : List ℕ → Option (List FormatItem)
formats words = formats_at (call idle (with_words words)) 16

-- (F(5), 2 A, A(3), X(7), SKIP(2), COLUMN(9))
six_items :
    formats (6 ∷ 1 ∷ 1 ∷ 5 ∷ 2 ∷ 2 ∷ 0 ∷ 2 ∷ 1 ∷ 3 ∷ 3 ∷ 1 ∷ 7 ∷ 4 ∷ 1 ∷ 2 ∷ 5 ∷ 1 ∷ 9 ∷ [])
    ≡ Some (DataFormat (FixedItem 5) ∷ DataFormat (TextItem None) ∷ DataFormat (TextItem None) ∷ DataFormat (TextItem (Some 3))
    ∷ ControlFormat (SpaceItem 7) ∷ ControlFormat (SkipItem 2) ∷ ControlFormat (ColumnItem 9) ∷ [])
six_items = refl

-- (2 (A, 2 (F(5))), X(1))
lists_in_lists :
    formats (2 ∷ 6 ∷ 2 ∷ 2 ∷ 2 ∷ 1 ∷ 0 ∷ 6 ∷ 2 ∷ 1 ∷ 1 ∷ 1 ∷ 5 ∷ 3 ∷ 1 ∷ 1 ∷ [])
    ≡ Some (DataFormat (TextItem None) ∷ DataFormat (FixedItem 5) ∷ DataFormat (FixedItem 5) ∷ DataFormat (TextItem None)
    ∷ DataFormat (FixedItem 5) ∷ DataFormat (FixedItem 5) ∷ ControlFormat (SpaceItem 1) ∷ [])
lists_in_lists = refl

list_of_nothing : formats (0 ∷ 1 ∷ 1 ∷ 5 ∷ []) ≡ None
list_of_nothing = refl

nothing_in_list : formats (2 ∷ 6 ∷ 1 ∷ 0 ∷ 1 ∷ 1 ∷ 5 ∷ []) ≡ None
nothing_in_list = refl

not_repeated : formats (1 ∷ 1 ∷ 0 ∷ 5 ∷ []) ≡ None
not_repeated = refl

repeated_too_often : formats (1 ∷ 1 ∷ 1001 ∷ 5 ∷ []) ≡ None
repeated_too_often = refl

other_kind : formats (1 ∷ 7 ∷ 1 ∷ 5 ∷ []) ≡ None
other_kind = refl

fixed_without_width : formats (1 ∷ 1 ∷ 1 ∷ 0 ∷ []) ≡ None
fixed_without_width = refl

widest :
    formats (2 ∷ 1 ∷ 1 ∷ 1024 ∷ 2 ∷ 1 ∷ 1024 ∷ [])
    ≡ Some (DataFormat (FixedItem 1024) ∷ DataFormat (TextItem (Some 1024)) ∷ [])
widest = refl

fixed_too_wide : formats (1 ∷ 1 ∷ 1 ∷ 1025 ∷ []) ≡ None
fixed_too_wide = refl

text_too_wide : formats (1 ∷ 2 ∷ 1 ∷ 1025 ∷ []) ≡ None
text_too_wide = refl

greatest_numbers :
    formats (3 ∷ 3 ∷ 1 ∷ 1000 ∷ 4 ∷ 1 ∷ 1000 ∷ 5 ∷ 1 ∷ 1000 ∷ [])
    ≡ Some (ControlFormat (SpaceItem 1000) ∷ ControlFormat (SkipItem 1000) ∷ ControlFormat (ColumnItem 1000) ∷ [])
greatest_numbers = refl

space_of_none : formats (1 ∷ 3 ∷ 1 ∷ 0 ∷ []) ≡ None
space_of_none = refl

space_too_large : formats (1 ∷ 3 ∷ 1 ∷ 1001 ∷ []) ≡ None
space_too_large = refl

skip_too_large : formats (1 ∷ 4 ∷ 1 ∷ 1001 ∷ []) ≡ None
skip_too_large = refl

column_too_large : formats (1 ∷ 5 ∷ 1 ∷ 1001 ∷ []) ≡ None
column_too_large = refl

list_to_end : formats_at (call idle (words_at 496 (1 ∷ 1 ∷ 1 ∷ 5 ∷ []))) 496 ≡ Some (DataFormat (FixedItem 5) ∷ [])
list_to_end = refl

list_past_end : formats_at (call idle (words_at 496 (2 ∷ 1 ∷ 1 ∷ 5 ∷ []))) 496 ≡ None
list_past_end = refl

list_in_code : formats_at (call idle (with_words (1 ∷ 1 ∷ 1 ∷ 5 ∷ []))) 12 ≡ None
list_in_code = refl

-- ---- 34

abbrev place : Direction → (whole rest : List FormatItem) → EditPlace
place direction whole rest = record { direction = direction; whole = whole; rest = rest }

abbrev edits_of : Answer → Option (List EditPlace)
edits_of (Done v m x y) = Some v.edits
edits_of _ = None

begin_put :
    edits_of (edit_begin_served (call idle (with_words (1 ∷ 1 ∷ 1 ∷ 5 ∷ []))) 16 1)
    ≡ Some (place Putting (DataFormat (FixedItem 5) ∷ []) (DataFormat (FixedItem 5) ∷ []) ∷ [])
begin_put = refl

begin_get :
    edits_of (edit_begin_served (call idle (with_words (1 ∷ 2 ∷ 1 ∷ 5 ∷ []))) 16 0)
    ≡ Some (place Getting (DataFormat (TextItem (Some 5)) ∷ []) (DataFormat (TextItem (Some 5)) ∷ []) ∷ [])
begin_get = refl

begin_registers : registers_of (edit_begin_served (call idle (with_words (1 ∷ 1 ∷ 1 ∷ 5 ∷ []))) 16 1) ≡ Registers 16 1
begin_registers = refl

begin_other_mode : registers_of (edit_begin_served (call idle (with_words (1 ∷ 1 ∷ 1 ∷ 5 ∷ []))) 16 2) ≡ BadService
begin_other_mode = refl

begin_without_list : registers_of (edit_begin_served (call idle (with_words (0 ∷ []))) 16 1) ≡ BadService
begin_without_list = refl

-- ---- streams: the output so far is `P` after 3 acts, the input `12x4`

pub data Streams : Type 0 where
  NoStreams : Streams
  StreamsOf : (acts : ℕ) → (output input : List ℕ) → (left : List ℕ) → (a0 a1 : ℕ) → Streams

-- acts, output, characters of input and items of the places' lists that are left, a0 and a1
abbrev streams_of : Answer → Streams
streams_of (Done v m x y) =
    StreamsOf v.world.acts v.world.output (characters 100 v.input.marks) (map (λ p. length p.rest) v.edits) x y
streams_of _ = NoStreams

abbrev streaming_after : (acts : ℕ) → (input : List ℕ) → List EditPlace → Services
streaming_after acts input edits =
    record idle { world = record first_world { acts = acts; output = codes "P" }; input = first_input input; edits = edits }

abbrev streaming : List EditPlace → Services
streaming edits = streaming_after 3 (codes "12x4") edits

abbrev last_act : ℕ
last_act = 2 ^ 64 - 1

abbrev fixed : ℕ → FormatItem
fixed width = DataFormat (FixedItem width)

abbrev text : FormatItem
text = DataFormat (TextItem None)

abbrev text_of : ℕ → FormatItem
text_of width = DataFormat (TextItem (Some width))

abbrev space : ℕ → FormatItem
space n = ControlFormat (SpaceItem n)

-- a place at the start of its list, above another that has ended
abbrev at_start : Direction → List FormatItem → List EditPlace
at_start direction formats = place direction formats formats ∷ place Putting (text ∷ []) [] ∷ []

-- one that has ended
abbrev at_end : Direction → List FormatItem → List EditPlace
at_end direction formats = place direction formats [] ∷ []

-- ---- 35

abbrev controlled : Services → Streams
controlled v = streams_of (control_served (call v []) 8)

control_put :
    controlled (streaming (at_start Putting (space 2 ∷ fixed 5 ∷ [])))
    ≡ StreamsOf 4 (codes "P  ") (codes "12x4") (1 ∷ 0 ∷ []) 1 8
control_put = refl

control_before_control :
    controlled (streaming (at_start Putting (space 2 ∷ space 1 ∷ text ∷ [])))
    ≡ StreamsOf 4 (codes "P  ") (codes "12x4") (2 ∷ 0 ∷ []) 0 8
control_before_control = refl

control_last_of_list :
    controlled (streaming (at_start Putting (space 1 ∷ [])))
    ≡ StreamsOf 4 (codes "P ") (codes "12x4") (0 ∷ 0 ∷ []) 0 8
control_last_of_list = refl

fixed_is_next : controlled (streaming (at_start Putting (fixed 5 ∷ []))) ≡ StreamsOf 3 (codes "P") (codes "12x4") (1 ∷ 0 ∷ []) 1 8
fixed_is_next = refl

text_is_next : controlled (streaming (at_start Putting (text ∷ []))) ≡ StreamsOf 3 (codes "P") (codes "12x4") (1 ∷ 0 ∷ []) 2 8
text_is_next = refl

list_begins_again :
    controlled (streaming (at_end Putting (text ∷ space 1 ∷ [])))
    ≡ StreamsOf 3 (codes "P") (codes "12x4") (0 ∷ []) 2 8
list_begins_again = refl

control_begins_again :
    controlled (streaming (at_end Putting (space 1 ∷ text ∷ [])))
    ≡ StreamsOf 4 (codes "P ") (codes "12x4") (1 ∷ []) 2 8
control_begins_again = refl

control_get :
    controlled (streaming (at_start Getting (space 2 ∷ fixed 1 ∷ [])))
    ≡ StreamsOf 4 (codes "P") (codes "x4") (1 ∷ 0 ∷ []) 1 8
control_get = refl

text_got_next :
    controlled (streaming (at_start Getting (text_of 1 ∷ [])))
    ≡ StreamsOf 3 (codes "P") (codes "12x4") (1 ∷ 0 ∷ []) 2 8
text_got_next = refl

control_to_input_end :
    controlled (streaming (at_start Getting (space 4 ∷ fixed 1 ∷ [])))
    ≡ StreamsOf 4 (codes "P") [] (1 ∷ 0 ∷ []) 3 8
control_to_input_end = refl

no_character_left :
    controlled (streaming_after 3 (10 ∷ []) (at_start Getting (text_of 1 ∷ [])))
    ≡ StreamsOf 3 (codes "P") [] (1 ∷ 0 ∷ []) 3 8
no_character_left = refl

put_without_input : controlled (streaming_after 3 [] (at_start Putting (text ∷ []))) ≡ StreamsOf 3 (codes "P") [] (1 ∷ 0 ∷ []) 2 8
put_without_input = refl

control_without_place : controlled (streaming []) ≡ NoStreams
control_without_place = refl

control_past_acts : controlled (streaming_after last_act [] (at_start Putting (space 2 ∷ fixed 5 ∷ []))) ≡ NoStreams
control_past_acts = refl

next_at_last_act :
    controlled (streaming_after last_act [] (at_start Putting (fixed 5 ∷ [])))
    ≡ StreamsOf last_act (codes "P") [] (1 ∷ 0 ∷ []) 1 8
next_at_last_act = refl

-- ---- 36

abbrev fixed_done : Services → (x y : ℕ) → Streams
fixed_done v x y = streams_of (fixed_served (call v []) x y)

fixed_asked :
    fixed_done (streaming (at_start Putting (fixed 3 ∷ []))) (2 ^ 32 - 12) 0
    ≡ StreamsOf 3 (codes "P") (codes "12x4") (1 ∷ 0 ∷ []) (2 ^ 32 - 12) 0
fixed_asked = refl

fixed_refused :
    fixed_done (streaming (at_start Putting (fixed 2 ∷ []))) (2 ^ 32 - 12) 0
    ≡ StreamsOf 3 (codes "P") (codes "12x4") (1 ∷ 0 ∷ []) (2 ^ 32 - 12) 105
fixed_refused = refl

fixed_put :
    fixed_done (streaming (at_start Putting (fixed 4 ∷ text ∷ []))) (2 ^ 32 - 12) 1
    ≡ StreamsOf 4 (codes "P -12") (codes "12x4") (1 ∷ 0 ∷ []) (2 ^ 32 - 12) 1
fixed_put = refl

fixed_begins_again :
    fixed_done (streaming (at_end Putting (fixed 1 ∷ text ∷ []))) 7 1
    ≡ StreamsOf 4 (codes "P7") (codes "12x4") (1 ∷ []) 7 1
fixed_begins_again = refl

fixed_put_too_wide : fixed_done (streaming (at_start Putting (fixed 2 ∷ []))) (2 ^ 32 - 12) 1 ≡ NoStreams
fixed_put_too_wide = refl

fixed_other_mode : fixed_done (streaming (at_start Putting (fixed 3 ∷ []))) 7 2 ≡ NoStreams
fixed_other_mode = refl

fixed_at_text : fixed_done (streaming (at_start Putting (text ∷ []))) 7 1 ≡ NoStreams
fixed_at_text = refl

fixed_at_control : fixed_done (streaming (at_start Putting (space 1 ∷ fixed 3 ∷ []))) 7 0 ≡ NoStreams
fixed_at_control = refl

fixed_without_place : fixed_done (streaming []) 7 0 ≡ NoStreams
fixed_without_place = refl

fixed_past_acts : fixed_done (streaming_after last_act [] (at_start Putting (fixed 3 ∷ []))) 7 1 ≡ NoStreams
fixed_past_acts = refl

fixed_got : fixed_done (streaming (at_start Getting (fixed 2 ∷ []))) 7 9 ≡ StreamsOf 4 (codes "P") (codes "x4") (0 ∷ 0 ∷ []) 12 0
fixed_got = refl

fixed_got_refused :
    fixed_done (streaming (at_start Getting (fixed 3 ∷ []))) 7 9
    ≡ StreamsOf 4 (codes "P") (codes "4") (0 ∷ 0 ∷ []) 7 104
fixed_got_refused = refl

fixed_got_negative :
    fixed_done (streaming_after 3 (codes " -5") (at_start Getting (fixed 9 ∷ []))) 7 9
    ≡ StreamsOf 4 (codes "P") [] (0 ∷ 0 ∷ []) (2 ^ 32 - 5) 0
fixed_got_negative = refl

fixed_without_character : fixed_done (streaming_after 3 (10 ∷ []) (at_start Getting (fixed 3 ∷ []))) 7 9 ≡ NoStreams
fixed_without_character = refl

fixed_got_at_text : fixed_done (streaming (at_start Getting (text_of 2 ∷ []))) 7 9 ≡ NoStreams
fixed_got_at_text = refl

fixed_got_past_acts : fixed_done (streaming_after last_act (codes "1") (at_start Getting (fixed 1 ∷ []))) 7 9 ≡ NoStreams
fixed_got_past_acts = refl

-- ---- 37

abbrev with_text : List ℕ → Services → Services
with_text t v = record v { entries = TextEntry t ∷ [] }

abbrev text_done : Services → Streams
text_done v = streams_of (text_served (call v []) 5 6)

text_put :
    text_done (with_text (codes "abc") (streaming (at_start Putting (text ∷ []))))
    ≡ StreamsOf 4 (codes "Pabc") (codes "12x4") (0 ∷ 0 ∷ []) 5 6
text_put = refl

text_put_padded :
    text_done (with_text (codes "abc") (streaming (at_start Putting (text_of 5 ∷ []))))
    ≡ StreamsOf 4 (codes "Pabc  ") (codes "12x4") (0 ∷ 0 ∷ []) 5 6
text_put_padded = refl

text_put_cut :
    text_done (with_text (codes "abc") (streaming (at_start Putting (text_of 2 ∷ []))))
    ≡ StreamsOf 4 (codes "Pab") (codes "12x4") (0 ∷ 0 ∷ []) 5 6
text_put_cut = refl

text_put_drops :
    entries_of (text_served (call (with_text (codes "abc") (streaming (at_start Putting (text ∷ [])))) []) 5 6) ≡ Entries [] 5 6
text_put_drops = refl

text_put_nothing : text_done (streaming (at_start Putting (text ∷ []))) ≡ NoStreams
text_put_nothing = refl

text_put_aggregate : text_done (record (streaming (at_start Putting (text ∷ []))) { entries = aggregate ∷ [] }) ≡ NoStreams
text_put_aggregate = refl

text_at_fixed : text_done (with_text (codes "abc") (streaming (at_start Putting (fixed 3 ∷ [])))) ≡ NoStreams
text_at_fixed = refl

text_at_control : text_done (with_text (codes "abc") (streaming (at_start Putting (space 3 ∷ text ∷ [])))) ≡ NoStreams
text_at_control = refl

text_without_place : text_done (with_text (codes "abc") (streaming [])) ≡ NoStreams
text_without_place = refl

text_past_acts : text_done (with_text (codes "abc") (streaming_after last_act [] (at_start Putting (text ∷ [])))) ≡ NoStreams
text_past_acts = refl

text_got : text_done (streaming (at_start Getting (text_of 3 ∷ []))) ≡ StreamsOf 4 (codes "P") (codes "4") (0 ∷ 0 ∷ []) 5 6
text_got = refl

text_got_pushed :
    entries_of (text_served (call (streaming (at_start Getting (text_of 6 ∷ []))) []) 5 6)
    ≡ Entries (TextEntry (codes "12x4  ") ∷ []) 5 6
text_got_pushed = refl

text_without_character : text_done (streaming_after 3 [] (at_start Getting (text_of 3 ∷ []))) ≡ NoStreams
text_without_character = refl

text_got_without_width : text_done (streaming (at_start Getting (text ∷ []))) ≡ NoStreams
text_got_without_width = refl

text_got_at_fixed : text_done (streaming (at_start Getting (fixed 3 ∷ []))) ≡ NoStreams
text_got_at_fixed = refl

text_got_past_acts : text_done (streaming_after last_act (codes "1") (at_start Getting (text_of 3 ∷ []))) ≡ NoStreams
text_got_past_acts = refl

-- ---- 38

edit_end :
    streams_of (edit_end_served (call (streaming (at_start Putting (text ∷ []))) []) 5 6)
    ≡ StreamsOf 3 (codes "P") (codes "12x4") (0 ∷ []) 5 6
edit_end = refl

edit_end_without_place : streams_of (edit_end_served (call idle []) 5 6) ≡ NoStreams
edit_end_without_place = refl

-- ---- 39

abbrev skipped : Services → (lines mode : ℕ) → Streams
skipped v lines mode = streams_of (skip_served (call v []) lines mode)

skip_put : skipped (streaming []) 2 1 ≡ StreamsOf 4 (codes "P" ++ 10 ∷ 10 ∷ []) (codes "12x4") [] 2 1
skip_put = refl

skip_get :
    skipped (streaming_after 3 (codes "1" ++ 10 ∷ codes "2" ++ 10 ∷ codes "3") []) 2 0
    ≡ StreamsOf 4 (codes "P") (codes "3") [] 2 0
skip_get = refl

skip_none : skipped (streaming []) 0 1 ≡ NoStreams
skip_none = refl

skip_too_many : skipped (streaming []) 1001 1 ≡ NoStreams
skip_too_many = refl

skip_other_mode : skipped (streaming []) 1 2 ≡ NoStreams
skip_other_mode = refl

skip_past_acts : skipped (streaming_after last_act [] []) 1 1 ≡ NoStreams
skip_past_acts = refl
