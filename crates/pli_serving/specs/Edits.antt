-- Services 34 to 39: edit-directed streams. The newest place in a format list serves; one that has reached its list's end goes on
-- at its start.
use Rattle.std.specs.Prelude.{ℕ, ℤ, ◌==◌, List, [], ◌∷◌, Option, Some, None, if◌then◌else◌}
use Rattle.rv_meaning.specs.Words.{signed, word}
use Rattle.pli_language.specs.Formats.{is_times}
use Rattle.pli_meaning.specs.Codes.{too_wide_code, conversion_code}
use Rattle.pli_meaning.specs.World.{counted, written}
use Rattle.pli_meaning.specs.Stream.{fixed_field, with_field}
use Rattle.pli_meaning.specs.Texts.{fitted, number_in_text}
use Rattle.pli_meaning.specs.InputLines.{Input, has_character, field_of, behind_field}
use Rattle.pli_meaning.specs.Streaming.{FormatItem, DataFormat, ControlFormat, DataItem, FixedItem, TextItem, ControlItem, SkipItem, control_written, control_read}
use Rattle.pli_serving.specs.ServiceState.{Services, TextEntry, Direction, Getting, Putting, EditPlace}
use Rattle.pli_serving.specs.Answers.{Answer, Bad, with_world, acting}
use Rattle.pli_serving.specs.Finding.{Call}
use Rattle.pli_serving.specs.Outcomes.{or_bad, bad_unless, answering, becoming, with_entries, pushed, on_text}
use Rattle.pli_serving.specs.FormatLists.{formats_at}

abbrev pub direction_of : (mode : ℕ) → Option Direction
direction_of mode = if mode == 0 then Some Getting else (if mode == 1 then Some Putting else None)

-- ---- places

abbrev pub with_edits : List EditPlace → Services → Services
with_edits edits v = record v { edits = edits }

-- an item, and the place behind it
pub record NextItem : Type 0 where
  pub item : FormatItem
  pub behind : EditPlace

abbrev pub first_of : EditPlace → List FormatItem → Option NextItem
first_of place [] = None
first_of place (f ∷ rest) = Some (record { item = f; behind = record place { rest = rest } })

abbrev pub next_in : EditPlace → List FormatItem → Option NextItem
next_in place [] = first_of place place.whole
next_in place (f ∷ rest) = first_of place (f ∷ rest)

-- the next item of a place, from the start again where the list has ended
abbrev pub next_item : EditPlace → Option NextItem
next_item place = next_in place place.rest

-- the newest place, its next item, and the places below
abbrev pub on_next : List EditPlace → (NextItem → List EditPlace → Answer) → Answer
on_next [] next = Bad
on_next (place ∷ below) next = or_bad (next_item place) (λ n. next n below)

-- ---- 34: a place at the start of a format list, 0 of GET, 1 of PUT

abbrev pub edit_begun : Call → (at mode : ℕ) → Direction → List FormatItem → Answer
edit_begun c at mode direction formats =
    becoming c
    (with_edits (record { direction = direction; whole = formats; rest = formats } ∷ c.services.edits) c.services) at mode

abbrev pub edit_begin_served : Call → (at mode : ℕ) → Answer
edit_begin_served c at mode =
    or_bad (direction_of mode) (λ direction. or_bad (formats_at c at) (edit_begun c at mode direction))

-- ---- what acts do to the streams

abbrev pub written_by : (List ℕ → List ℕ) → Services → Services
written_by item v = with_world (written item v.world) v

abbrev pub read_by : (Input → Input) → Services → Services
read_by item v = record v { world = counted v.world; input = item v.input }

abbrev pub control_done : Direction → ControlItem → Services → Services
control_done Getting item v = read_by (control_read item) v
control_done Putting item v = written_by (control_written item) v

-- ---- 35: a control item that is next is carried out

abbrev pub data_number : DataItem → ℕ
data_number (FixedItem width) = 1
data_number (TextItem width) = 2

-- 0 a control item, 1 F, 2 A, 3 a data item of GET with no character left
abbrev pub item_number : Direction → Input → FormatItem → ℕ
item_number direction input (ControlFormat item) = 0
item_number Putting input (DataFormat item) = data_number item
item_number Getting input (DataFormat item) = if has_character input.marks then data_number item else 3

-- what is next now
abbrev pub next_answered : Call → Services → (y : ℕ) → Answer
next_answered c v y = on_next v.edits (λ n below. becoming c v (item_number n.behind.direction v.input n.item) y)

abbrev pub control_carried_out : Call → (y : ℕ) → FormatItem → EditPlace → List EditPlace → Answer
control_carried_out c y (DataFormat item) behind below = next_answered c c.services y
control_carried_out c y (ControlFormat item) behind below =
    acting c.services (next_answered c (with_edits (behind ∷ below) (control_done behind.direction item c.services)) y)

abbrev pub control_served : Call → (y : ℕ) → Answer
control_served c y = on_next c.services.edits (λ n below. control_carried_out c y n.item n.behind below)

-- ---- 36: F

-- whether the field is wide enough
abbrev pub field_asked : Call → (number : ℕ) → Option (List ℕ) → Answer
field_asked c number None = answering c number too_wide_code
field_asked c number (Some field) = answering c number 0

abbrev pub field_written : Call → (x y : ℕ) → Services → List ℕ → Answer
field_written c x y v field = acting c.services (becoming c (written_by (with_field field) v) x y)

-- PUT: 0 asks, 1 writes the number and goes on in the list
abbrev pub number_put : Call → (number mode : ℕ) → Option (List ℕ) → List EditPlace → Answer
number_put c number mode field places =
    if mode == 0 then field_asked c number field
    else bad_unless (mode == 1) (or_bad field (field_written c number mode (with_edits places c.services)))

-- GET: a0 is the number of the field, or it stays and a1 is the status of a field that is none; the field is taken in both cases
abbrev pub number_answered : Call → Services → (x : ℕ) → Option ℤ → Answer
number_answered c v x None = becoming c v x conversion_code
number_answered c v x (Some z) = becoming c v (word z) 0

abbrev pub number_got : Call → (width x : ℕ) → List EditPlace → Answer
number_got c width x places =
    bad_unless (has_character c.services.input.marks)
    (acting c.services
    (number_answered c (with_edits places (read_by (behind_field width) c.services)) x
    (number_in_text (field_of width c.services.input))))

abbrev pub fixed_by : Call → (x y : ℕ) → Direction → FormatItem → List EditPlace → Answer
fixed_by c x y Putting (DataFormat (FixedItem width)) places = number_put c x y (fixed_field width (signed x)) places
fixed_by c x y Getting (DataFormat (FixedItem width)) places = number_got c width x places
fixed_by c x y direction item places = Bad

abbrev pub fixed_served : Call → (x y : ℕ) → Answer
fixed_served c x y = on_next c.services.edits (λ n below. fixed_by c x y n.behind.direction n.item (n.behind ∷ below))

-- ---- 37: A

abbrev pub text_field : Option ℕ → List ℕ → List ℕ
text_field None t = t
text_field (Some width) t = fitted width t

-- PUT: the top text is dropped and written
abbrev pub text_put : Call → (x y : ℕ) → (width : Option ℕ) → List EditPlace → Answer
text_put c x y width places =
    on_text c.services.entries
    (λ t below. field_written c x y (with_entries below (with_edits places c.services)) (text_field width t))

-- GET: the field is taken and pushed; it has a width
abbrev pub text_got : Call → (x y : ℕ) → (width : Option ℕ) → List EditPlace → Answer
text_got c x y None places = Bad
text_got c x y (Some width) places =
    bad_unless (has_character c.services.input.marks)
    (acting c.services
    (becoming c
    (pushed (TextEntry (field_of width c.services.input)) (with_edits places (read_by (behind_field width) c.services)))
    x y))

abbrev pub text_by : Call → (x y : ℕ) → Direction → FormatItem → List EditPlace → Answer
text_by c x y Putting (DataFormat (TextItem width)) places = text_put c x y width places
text_by c x y Getting (DataFormat (TextItem width)) places = text_got c x y width places
text_by c x y direction item places = Bad

abbrev pub text_served : Call → (x y : ℕ) → Answer
text_served c x y = on_next c.services.edits (λ n below. text_by c x y n.behind.direction n.item (n.behind ∷ below))

-- ---- 38: the newest place is dropped

abbrev pub edit_ended : Call → (x y : ℕ) → List EditPlace → Answer
edit_ended c x y [] = Bad
edit_ended c x y (place ∷ below) = becoming c (with_edits below c.services) x y

abbrev pub edit_end_served : Call → (x y : ℕ) → Answer
edit_end_served c x y = edit_ended c x y c.services.edits

-- ---- 39: the SKIP option of GET or PUT, as the control item: 1 to 1,000 lines

abbrev pub skip_served : Call → (lines mode : ℕ) → Answer
skip_served c lines mode =
    or_bad (direction_of mode)
    (λ direction.
    bad_unless (is_times lines)
    (acting c.services (becoming c (control_done direction (SkipItem lines) c.services) lines mode)))
