-- ALLOCATE and FREE.
use Rattle.std.specs.Prelude.{ℕ, suc, ◌+◌, max, ℤ, List, [], ◌∷◌, ◌++◌, Option, Some, None, unwrap_or, if◌then◌else◌}
use Rattle.rv_meaning.specs.declared.instr.Register.{Register}
use Rattle.rv_meaning.specs.declared.instr.BranchTest.TheVariants as Test
use Rattle.pli_language.specs.declared.condition.Condition.TheVariants as C
use Rattle.pli_typing.specs.TypedTree as Y
use Rattle.pli_meaning.specs.Codes.{area_code}
use Rattle.pli_coding.specs.Registers.{zero_register, frame_register, a0, a1, a2, a3, a4}
use Rattle.pli_coding.specs.Assembly.{NumberWord, ExtentRoutine, CallTo, JumpTo, JumpBack, RaiseError, Code, size_of}
use Rattle.pli_coding.specs.Instructions.{small, number, load_word, store_word, skip_where, service, tested_service}
use Rattle.pli_coding.specs.Frames.{words_place}
use Rattle.pli_coding.specs.Environments.{Environment, declaration_of, Taken, with_words, with_number, most_taken}
use Rattle.pli_coding.specs.Arithmetic.{raised}
use Rattle.pli_coding.specs.Locating.{NamePlace, FrameName, DataNumber, own_place, where_standing, name_offset}
use Rattle.pli_coding.specs.Locating.{needs_number_word, number_loaded, based_number, controlled_number, waiting_name}
use Rattle.pli_coding.specs.Expressions.{frame_given, standing_in, standing_name, pointer_code}
use Rattle.pli_coding.specs.Temporaries.{pointer_takes, reference_takes}
use Rattle.pli_coding.specs.Storing.{area_name, word_stored, name_stored}
use Rattle.pli_coding.specs.Extents.{refer_amount, initial_code}

-- an act, and the line that is current from now on
abbrev pub act_code : (line : ℕ) → Code
act_code line = number a0 line ++ (small a1 0 ∷ service 1)

-- ---- the signature's number and the extent for REFER, in two words behind the temporaries in use

abbrev pub allocated_number : Taken → ℤ
allocated_number t = words_place t.words 1

abbrev pub allocated_extent : Taken → ℤ
allocated_extent t = words_place (t.words + 1) 1

abbrev pub both_kept : Taken → Code
both_kept t =
    store_word frame_register a0 (allocated_number t) ++ store_word frame_register a1 (allocated_extent t)

-- a variable's routine, in the frame of the block that declares it; its extents are an act
abbrev pub routine_called : Environment → (line : ℕ) → Y.Variable → Code
routine_called e line v = act_code line ++ (frame_given e v.level ++ CallTo (ExtentRoutine v.block v.index) ∷ [])

abbrev pub constant_amounts : Environment → Taken → Y.Variable → Y.DeclaredVariable → Code
constant_amounts e t v d = refer_amount t d.leaves d.refer ++ number_loaded e a0 (based_number e v d)

-- a lower bound beside REFER stands in no number that the routine gives
abbrev pub number_beside_refer : Environment → Y.Variable → Y.DeclaredVariable → Code
number_beside_refer e v d =
    if needs_number_word d then number_loaded e a0 (DataNumber (NumberWord v.block v.index)) else []

abbrev pub amounts_found : Environment → Taken → (line : ℕ) → Y.Variable → Y.DeclaredVariable → List Y.Evaluation → Code
amounts_found e t line v d [] = constant_amounts e t v d
amounts_found e t line v d (x ∷ xs) = routine_called e line v ++ number_beside_refer e v d

abbrev pub amounts_code : Environment → Taken → (line : ℕ) → Y.Variable → Code
amounts_code e t line v =
    amounts_found e t line v (declaration_of e v) (declaration_of e v).evaluations ++ both_kept t

-- ---- ALLOCATE of a BASED variable: behind the two words its name waits, until its locator is set, unless that holds
-- it at once

abbrev pub behind_amounts : Taken → Taken
behind_amounts t = with_words 2 t

abbrev pub area_or_heap : Environment → Register → Taken → Option Y.Variable → Code
area_or_heap e r t None = small r 0 ∷ []
area_or_heap e r t (Some area) = area_name e r t area

-- where the service writes the name: into the POINTER variable that is set, where that stands, or into words of the
-- frame
abbrev pub name_target : Environment → Taken → Y.LocatorTarget → NamePlace
name_target e t (Y.SetPointer r) = unwrap_or (standing_in e r) (FrameName e.level (waiting_name t))
name_target e t (Y.SetOffset r area) = FrameName e.level (waiting_name t)

abbrev pub placing_asked : Environment → Taken → Y.Variable → Option Y.Variable → NamePlace → Code
placing_asked e t v area name =
    area_or_heap e a0 t area
    ++ (load_word a1 frame_register (allocated_number t)
    ++ (load_word a2 frame_register (allocated_extent t)
    ++ (initial_code a3 (declaration_of e v) ++ (name_offset e a4 name ++ service 10))))

-- AREA, and behind its unit the placing is tried again, an act; the heap has no such condition
abbrev pub placing_tried : (placing : Code) → Option Y.Variable → Code
placing_tried placing None = JumpTo RaiseError ∷ []
placing_tried placing (Some area) =
    raised C.Area area_code
    ++ (service 32
    ++ JumpBack (size_of placing + (1 + (size_of (raised C.Area area_code) + size_of (service 32)))) ∷ [])

abbrev pub placing_code : (placing : Code) → Option Y.Variable → Code
placing_code placing area = placing ++ skip_where Test.Equal a1 zero_register (placing_tried placing area)

abbrev pub locator_set : Environment → Taken → Y.LocatorTarget → Code
locator_set e t (Y.SetPointer r) = where_standing (standing_in e r) (λ name. []) (name_stored e t r)
locator_set e t (Y.SetOffset r area) =
    own_place e a0 (waiting_name t)
    ++ (area_name e a1 t area ++ (small a3 1 ∷ (tested_service 14 ++ word_stored e (with_words 4 t) r)))

abbrev pub based_code : Environment → Taken → (line : ℕ) → Y.Variable → Option Y.Variable → Y.LocatorTarget → Code
based_code e t line v area target =
    amounts_code e t line v
    ++ (placing_code (placing_asked e t v area (name_target e (behind_amounts t) target)) area
    ++ locator_set e (behind_amounts t) target)

-- ---- ALLOCATE of a CONTROLLED variable

abbrev pub controlled_code : Environment → Taken → (line : ℕ) → Y.Variable → Code
controlled_code e t line v =
    amounts_code e t line v
    ++ (number a0 (controlled_number e v)
    ++ (load_word a1 frame_register (allocated_number t)
    ++ (initial_code a2 (declaration_of e v) ++ tested_service 16)))

abbrev pub allocation_code : Environment → Taken → (line : ℕ) → Y.Allocation → Code
allocation_code e t line (Y.AllocateBased v area target) = based_code e t line v area target
allocation_code e t line (Y.AllocateControlled v) = controlled_code e t line v

abbrev pub allocations_code : Environment → Taken → (line : ℕ) → List Y.Allocation → Code
allocations_code e t line [] = []
allocations_code e t line (a ∷ as') = allocation_code e t line a ++ allocations_code e t line as'

-- ---- FREE

-- the generation whose name stands there
abbrev pub generation_freed : Environment → Taken → NamePlace → Y.Variable → Option Y.Variable → Code
generation_freed e t name v area =
    name_offset e a0 name
    ++ (number_loaded e a1 (based_number e v (declaration_of e v)) ++ (area_or_heap e a2 t area ++ tested_service 11))

abbrev pub freeing_code : Environment → Taken → Y.Freeing → Code
freeing_code e t (Y.FreeBased v locator area) =
    where_standing (standing_name e locator)
    (λ name. generation_freed e t name v area)
    (pointer_code e t locator ++ generation_freed e t (FrameName e.level (waiting_name t)) v area)
freeing_code e t (Y.FreeControlled v) = number a0 (controlled_number e v) ++ service 17

abbrev pub freeings_code : Environment → Taken → List Y.Freeing → Code
freeings_code e t [] = []
freeings_code e t (f ∷ fs) = freeing_code e t f ++ freeings_code e t fs

-- ---- what these take at most, behind what is taken already

abbrev pub target_takes : Taken → Y.LocatorTarget → Taken
target_takes t (Y.SetPointer r) = reference_takes t r
target_takes t (Y.SetOffset r area) = reference_takes (with_number t) r

abbrev pub allocation_takes : Taken → Y.Allocation → Taken
allocation_takes t (Y.AllocateBased v area target) = target_takes (with_words 4 (behind_amounts t)) target
allocation_takes t (Y.AllocateControlled v) = behind_amounts t

abbrev pub allocations_take : Taken → List Y.Allocation → Taken
allocations_take t [] = t
allocations_take t (a ∷ as') = most_taken (allocation_takes t a) (allocations_take t as')

abbrev pub freeing_takes : Taken → Y.Freeing → Taken
freeing_takes t (Y.FreeBased v locator area) = pointer_takes t locator
freeing_takes t (Y.FreeControlled v) = t

abbrev pub freeings_take : Taken → List Y.Freeing → Taken
freeings_take t [] = t
freeings_take t (f ∷ fs) = most_taken (freeing_takes t f) (freeings_take t fs)
