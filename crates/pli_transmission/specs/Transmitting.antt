-- A call of a service whose services hold what a run shows, its input, and its places in format lists.
use Rattle.std.specs.Prelude.{◌≡◌, ℕ, Bool, true, false, List, [], ◌∷◌, drop, map, reverse, option_map}
use Rattle.std.specs.Prelude.{Option, Some, None, Result, Ok, Err}
use Rattle.rv_meaning.specs.Words.{signed}
use Rattle.pli_meaning.specs.Stream.{fixed_field, with_field}
use Rattle.pli_meaning.specs.World.{World, written}
use Rattle.pli_meaning.specs.InputLines.{Input, has_character, field_of, behind_field}
use Rattle.pli_serving.specs.ServiceState.{Services, Entry, TextEntry, EditPlace, Direction, Getting, Putting}
use Rattle.pli_serving.specs.Answers.{Answer}
use Rattle.pli_serving.specs.Edits.{number_got, number_put, text_field, text_got, text_put}
use Rattle.pli_serving.specs.Finding.{Call}
use Rattle.pli_answering.specs.declared.reply.Refusal.{Refusal}
use Rattle.pli_answering.specs.declared.reply.Refusal.TheVariants as F
use Rattle.pli_services.specs.Shown.{Acts}
use Rattle.pli_entries.specs.Kept.{text_on_top}
use Rattle.pli_transmission.specs.Edits.{EditKept}

abbrev pub transmitting : World → Input → List EditPlace → Services → Services
transmitting world input edits v = record v { world = world; input = input; edits = edits }

-- with places in format lists, newest first
abbrev pub with_edits : World → Input → List EditPlace → Call → Call
with_edits world input edits c = record c { services = transmitting world input edits c.services }

-- with the newest place and those below it
abbrev pub on_edit : World → Input → EditKept → (below : List EditPlace) → Call → Call
on_edit world input edit below c = with_edits world input (edit.place ∷ below) c

-- the places, newest first, as they are kept from the oldest on
abbrev pub places_of : List EditKept → List EditPlace
places_of edits = reverse (map (λ (e : EditKept). e.place) edits)

abbrev pub is_get : Direction → Bool
is_get Getting = true
is_get Putting = false

-- whether the newest is of GET
abbrev pub is_getting : List EditPlace → Bool
is_getting [] = false
is_getting (p ∷ below) = is_get p.direction

abbrev pub with_streams : World → Input → List EditKept → Call → Call
with_streams world input edits c = with_edits world input (places_of edits) c

-- ---- F by its width

abbrev pub fixed_of : Call → (x y : ℕ) → Direction → (width : ℕ) → List EditPlace → Answer
fixed_of c x y Getting width places = number_got c width x places
fixed_of c x y Putting width places = number_put c x y (fixed_field width (signed x)) places

-- ---- A by its width, with the entries of expressions

abbrev pub on_entries : List Entry → Call → Call
on_entries entries c = record c { services = record c.services { entries = entries } }

abbrev pub text_of : Call → (x y : ℕ) → Direction → (width : Option ℕ) → List EditPlace → Answer
text_of c x y Getting width places = text_got c x y width places
text_of c x y Putting width places = text_put c x y width places

-- the newest text is taken, and written; without memory it stays, and nothing is written
abbrev pub IsTopWritten : (width : Option ℕ) → (old : List Entry) → (output : List ℕ) → Result (Unit {0}) Refusal → (new : List Entry) → (after : List ℕ) → Type 0
IsTopWritten width old output (Ok done) new after = (option_map (λ t. with_field (text_field width t) output) (text_on_top old) ≡ Some after) × (new ≡ drop 1 old)
IsTopWritten width old output (Err F.Bad) new after = (text_on_top old ≡ None) × (new ≡ old) × (after ≡ output)
IsTopWritten width old output (Err F.Memory) new after = (new ≡ old) × (after ≡ output)

-- a field is taken, and becomes the newest text; without memory nothing is taken
abbrev pub IsTopGot : (width : ℕ) → (old : List Entry) → (input : Input) → Result (Unit {0}) Refusal → (new : List Entry) → (after : Input) → Type 0
IsTopGot width old input (Ok done) new after =
    (has_character input.marks ≡ true) × (new ≡ TextEntry (field_of width input) ∷ old) × (after ≡ behind_field width input)
IsTopGot width old input (Err F.Bad) new after = (has_character input.marks ≡ false) × (new ≡ old) × (after ≡ input)
IsTopGot width old input (Err F.Memory) new after = (new ≡ old) × (after ≡ input)

-- ---- acts

-- a number's field behind the output; without one there is no such call
abbrev pub IsNumberWritten : Option (List ℕ) → (old : World) → Result (Unit {0}) Refusal → (new : World) → Type 0
IsNumberWritten None old (Ok done) new = ⊥
IsNumberWritten None old (Err refusal) new = new ≡ old
IsNumberWritten (Some field) old result new = Acts old (written (with_field field) old) result new
