-- Pieces of the code of ALLOCATE and FREE.
use Rattle.std.specs.Prelude.{ℕ, ◌+◌, [], ◌∷◌, ◌++◌, Option, Some, None, unwrap_or}
use Rattle.rv_meaning.specs.declared.instr.Register.{Register}
use Rattle.rv_meaning.specs.declared.instr.BranchTest.TheVariants as Test
use Rattle.pli_language.specs.declared.condition.Condition.TheVariants as C
use Rattle.pli_typing.specs.TypedTree as Y
use Rattle.pli_meaning.specs.Codes.{area_code}
use Rattle.pli_coding.specs.Registers.{zero_register, frame_register, a0, a1, a2, a3, a4}
use Rattle.pli_coding.specs.Assembly.{JumpBack, Code, size_of}
use Rattle.pli_coding.specs.Instructions.{small, number, load_word, store_word, skip_where, service, tested_service}
use Rattle.pli_coding.specs.Environments.{Environment, Taken, declaration_of}
use Rattle.pli_coding.specs.Arithmetic.{raised}
use Rattle.pli_coding.specs.Locating.{NamePlace, FrameName, controlled_number, name_offset, own_place, waiting_name}
use Rattle.pli_coding.specs.Expressions.{pointer_code}
use Rattle.pli_coding.specs.Storing.{area_name}
use Rattle.pli_coding.specs.Extents.{initial_code}
use Rattle.pli_coding.specs.Allocating.{allocated_extent, allocated_number, amounts_code, based_code, controlled_code}
use Rattle.pli_coding.specs.Allocating.{generation_freed, locator_set, placing_asked, placing_code}
use Rattle.rv_assignment.specs.Pieces.{name_put}

-- ---- the two words

abbrev pub number_kept : Taken → Code
number_kept t = store_word frame_register a0 (allocated_number t)

abbrev pub extent_kept : Taken → Code
extent_kept t = store_word frame_register a1 (allocated_extent t)

abbrev pub number_waiting : Register → Taken → Code
number_waiting r t = load_word r frame_register (allocated_number t)

abbrev pub extent_waiting : Register → Taken → Code
extent_waiting r t = load_word r frame_register (allocated_extent t)

-- ---- what a variable begins with, and where its name will stand

unfoldable pub beginning_asked : Environment → NamePlace → Y.DeclaredVariable → Code
beginning_asked e name d = initial_code a3 d ++ (name_offset e a4 name ++ service 10)

-- ---- AREA, and the placing that is tried again, begun so many words before this code

unfoldable pub area_raised : Code
area_raised = raised C.Area area_code ++ service 32

unfoldable pub tried_again : (words : ℕ) → Code
tried_again words =
    skip_where Test.Equal a1 zero_register (area_raised ++ JumpBack (words + (1 + size_of area_raised)) ∷ [])

-- ---- the offset of the name that waits

unfoldable pub offset_told : Environment → Taken → Y.Variable → Code
offset_told e t area = own_place e a0 (waiting_name t) ++ (area_name e a1 t area ++ (small a3 1 ∷ tested_service 14))

-- ---- one that ALLOCATE makes

unfoldable pub amounts_kept : Environment → Taken → (line : ℕ) → Y.Variable → Code
amounts_kept e t line v = amounts_code e t line v

unfoldable pub asked : Environment → Taken → Y.Variable → Option Y.Variable → NamePlace → Code
asked e t v area name = placing_asked e t v area name

unfoldable pub placed : Environment → Taken → Y.Variable → Option Y.Variable → NamePlace → Code
placed e t v area name = placing_code (placing_asked e t v area name) area

-- where the name stands, or else waits
unfoldable pub name_there : Environment → Taken → Option NamePlace → NamePlace
name_there e t standing = unwrap_or standing (FrameName e.level (waiting_name t))

-- the pointer that is set where its name doesn't stand there already
unfoldable pub pointer_set : Environment → Taken → Y.Reference → Option NamePlace → Code
pointer_set e t r (Some name) = []
pointer_set e t r None = name_put e t r

unfoldable pub locator_told : Environment → Taken → Y.LocatorTarget → Code
locator_told e t target = locator_set e t target

unfoldable pub generation_pushed : Environment → Taken → Y.Variable → Code
generation_pushed e t v =
    number a0 (controlled_number e v)
    ++ (load_word a1 frame_register (allocated_number t) ++ (initial_code a2 (declaration_of e v) ++ tested_service 16))

unfoldable pub based_made : Environment → Taken → (line : ℕ) → Y.Variable → Option Y.Variable → Y.LocatorTarget → Code
based_made e t line v area target = based_code e t line v area target

unfoldable pub controlled_made : Environment → Taken → (line : ℕ) → Y.Variable → Code
controlled_made e t line v = controlled_code e t line v

-- ---- one that FREE ends

unfoldable pub generation_ended : Environment → Taken → NamePlace → Y.Variable → Option Y.Variable → Code
generation_ended e t name v area = generation_freed e t name v area

unfoldable pub located_freed : Environment → Taken → Y.Variable → Y.Pointer → Option Y.Variable → Option NamePlace
    → Code
located_freed e t v locator area (Some name) = generation_ended e t name v area
located_freed e t v locator area None =
    pointer_code e t locator ++ generation_ended e t (FrameName e.level (waiting_name t)) v area

unfoldable pub newest_freed : Environment → Y.Variable → Code
newest_freed e v = number a0 (controlled_number e v) ++ service 17
