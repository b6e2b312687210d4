-- Values into storage: scalars, arrays, aggregates and areas. A value waits while its target is reached, or stays
-- where it is.
use Rattle.std.specs.Prelude.{ℕ, ◌+◌, Bool, true, false, not, ◌&&◌, ℤ, max, [], ◌∷◌, ◌++◌, Option, Some, None}
use Rattle.std.specs.Prelude.{if◌then◌else◌}
use Rattle.rv_meaning.specs.declared.instr.BranchTest.TheVariants as Test
use Rattle.rv_meaning.specs.declared.instr.Register.{Register}
use Rattle.pli_language.specs.declared.condition.Condition.TheVariants as C
use Rattle.pli_typing.specs.TypedTree as Y
use Rattle.pli_meaning.specs.Codes.{area_code}
use Rattle.pli_coding.specs.Registers.{zero_register, frame_register, a0, a1, a2, a3, a4, u1}
use Rattle.pli_coding.specs.Assembly.{Code}
use Rattle.pli_coding.specs.Instructions.{small, number, store_word, skip_where, service, tested_service}
use Rattle.pli_coding.specs.Frames.{word_in}
use Rattle.pli_coding.specs.Environments.{Environment, Taken, with_words, with_number, most_taken, save, fetch}
use Rattle.pli_coding.specs.Arithmetic.{raised}
use Rattle.pli_coding.specs.Locating.{own_place, Located, located, name_offset, number_loaded, class_found}
use Rattle.pli_coding.specs.Locating.{behind_locator, waiting_name, leaf_number, is_direct, are_simple, is_referred}
use Rattle.pli_coding.specs.Locating.{leaf_found, needs_buffer, subscripts_counted, stored, name_copied, in_own_frame}
use Rattle.pli_coding.specs.Locating.{text_stored, own_name}
use Rattle.pli_coding.specs.Expressions.{given_in, type_in, address_in, reference_code, locator_code, subscripts_code}
use Rattle.pli_coding.specs.Expressions.{stored_code, standing_in, pointer_code, pointer_to}
use Rattle.pli_coding.specs.Temporaries.{reference_takes, stored_takes}

-- ---- scalars

-- whether a target is reached by code that leaves a0 alone: it stands at a constant place, and its subscripts are
-- simple
abbrev pub is_near : Environment → Y.Reference → Bool
is_near e (Y.Referring v Y.NotLocated part subscripts) = is_direct e v && are_simple e subscripts
is_near e _ = false

-- a number, bit or OFFSET value in a0, which waits unless the target is near
abbrev pub word_stored : Environment → Taken → Y.Reference → Code
word_stored e t target =
    if is_near e target then reference_code e t target ++ stored (type_in e target) a0 (address_in e target)
    else
    save a0 t ++ (reference_code e (with_number t) target
    ++ (fetch a0 t ++ stored (type_in e target) a0 (address_in e target)))

-- the top text
abbrev pub top_stored : Environment → Taken → Y.Reference → Code
top_stored e t target = reference_code e t target ++ text_stored (type_in e target) (address_in e target)

-- a name in the words behind the temporaries in use
abbrev pub name_stored : Environment → Taken → Y.Reference → Code
name_stored e t target =
    reference_code e (with_words 4 t) target ++ name_copied (in_own_frame (waiting_name t)) (address_in e target)

abbrev pub stored_into : Environment → Taken → Y.Reference → Y.Stored → Code
stored_into e t target (Y.StoredNumber precision x) = word_stored e t target
stored_into e t target (Y.StoredText x) = top_stored e t target
stored_into e t target (Y.StoredBit x) = word_stored e t target
stored_into e t target (Y.StoredPointer x) = name_stored e t target
stored_into e t target (Y.StoredOffset x) = word_stored e t target

abbrev pub assigned_code : Environment → Taken → Y.Reference → Y.Stored → Code
assigned_code e t target source = stored_code e t source ++ stored_into e t target source

-- whether nothing is tested once a name was written
abbrev pub is_written_last : Environment → Y.Pointer → Bool
is_written_last e (Y.AddressOf (Y.Referring v locator part subscripts)) = not (is_referred e v part)
is_written_last e _ = true

-- the place of a POINTER variable of the running frame, where a name may be written at once
abbrev pub place_assigned : Environment → Y.Reference → Y.Pointer → Option ℤ
place_assigned e target x = if is_written_last e x then own_name e (standing_in e target) else None

abbrev pub name_assigned : Environment → Taken → Y.Reference → Y.Pointer → Option ℤ → Code
name_assigned e t target x (Some place) = pointer_to e t place x
name_assigned e t target x None = pointer_code e t x ++ name_stored e t target

-- an assignment statement
abbrev pub assignment_code : Environment → Taken → Y.Reference → Y.Stored → Code
assignment_code e t target (Y.StoredPointer x) = name_assigned e t target x (place_assigned e target x)
assignment_code e t target source = assigned_code e t target source

-- ---- records of aggregates: where a name stands, its signature's number, the place of the subscripts given, and the
-- extent that REFER tells, in four words behind the temporaries in use

abbrev pub record_words : ℕ
record_words = 4

abbrev pub record_place : Taken → (word : ℕ) → ℤ
record_place t word = word_in t.words record_words word

abbrev pub record_stored : Taken → (word : ℕ) → Register → Code
record_stored t word r = store_word frame_register r (record_place t word)

-- the temporaries in use while a record is
abbrev pub behind_record : Y.Reference → Taken → Taken
behind_record (Y.Referring v locator part subscripts) t = behind_locator v (with_words record_words t)

abbrev pub extent_recorded : Taken → (is_referred : Bool) → Code
extent_recorded t true = record_stored t 3 a0
extent_recorded t false = record_stored t 3 zero_register

-- the generation lives (101), and REFER tells what may be (107)
abbrev pub aggregate_found : Environment → (t found : Taken) → Y.Variable → Y.Part → Code
aggregate_found e t found v part =
    if is_direct e v then extent_recorded t false
    else
    class_found e found v v.class
    ++ (leaf_found e (located e found v) part.first (needs_buffer (leaf_number e v part.first)) (is_referred e v part)
    ++ extent_recorded t (is_referred e v part))

abbrev pub subscripts_recorded : Environment → (t waiting : Taken) → Y.Variable → Y.Part → (subscripts : Y.Numbers)
    → Code
subscripts_recorded e t waiting v part Y.NoNumber = record_stored t 2 zero_register
subscripts_recorded e t waiting v part (Y.NumberThen first rest) =
    subscripts_counted e waiting 0 (Y.NumberThen first rest) (leaf_number e v part.first).bounds ++ record_stored t 2 u1

abbrev pub name_recorded : Environment → Taken → Located → Code
name_recorded e t l =
    name_offset e a0 l.name ++ (record_stored t 0 a0 ++ (number_loaded e a0 l.number ++ record_stored t 1 a0))

abbrev pub record_filled : Environment → (t found : Taken) → Y.Variable → Y.Part → (subscripts : Y.Numbers) → Code
record_filled e t found v part subscripts =
    aggregate_found e t found v part
    ++ (subscripts_recorded e t (behind_locator v found) v part subscripts ++ name_recorded e t (located e found v))

abbrev pub record_code : Environment → Taken → Y.Reference → Code
record_code e t (Y.Referring v locator part subscripts) =
    locator_code e (with_words record_words t) locator
    ++ (subscripts_code e (behind_locator v (with_words record_words t)) subscripts
    ++ record_filled e t (with_words record_words t) v part subscripts)

abbrev pub record_given : Environment → Taken → Code
record_given e t = own_place e a0 (record_place t 0)

-- ---- arrays and structures

-- a value that waits, and the temporaries behind it
abbrev pub behind_value : Y.Stored → Taken → Taken
behind_value (Y.StoredNumber precision x) t = with_number t
behind_value (Y.StoredText x) t = t
behind_value (Y.StoredBit x) t = with_number t
behind_value (Y.StoredPointer x) t = with_words 4 t
behind_value (Y.StoredOffset x) t = with_number t

abbrev pub value_saved : Taken → Y.Stored → Code
value_saved t (Y.StoredNumber precision x) = save a0 t
value_saved t (Y.StoredText x) = []
value_saved t (Y.StoredBit x) = save a0 t
value_saved t (Y.StoredPointer x) = []
value_saved t (Y.StoredOffset x) = save a0 t

-- the value itself, or where a name stands
abbrev pub value_given : Environment → Taken → Y.Stored → Code
value_given e t (Y.StoredNumber precision x) = fetch a2 t
value_given e t (Y.StoredText x) = []
value_given e t (Y.StoredBit x) = fetch a2 t
value_given e t (Y.StoredPointer x) = own_place e a2 (waiting_name t)
value_given e t (Y.StoredOffset x) = fetch a2 t

abbrev pub first_leaf : Y.Reference → ℕ
first_leaf (Y.Referring v locator part subscripts) = part.first

abbrev pub leaf_count : Y.Reference → ℕ
leaf_count (Y.Referring v locator part subscripts) = part.count

abbrev pub subscript_count : Y.Reference → ℕ
subscript_count (Y.Referring v locator part subscripts) = given_in subscripts

abbrev pub elements_code : Environment → Taken → Y.Reference → Y.Stored → Code
elements_code e t target source =
    stored_code e t source
    ++ (value_saved t source
    ++ (record_code e (behind_value source t) target
    ++ (record_given e (behind_value source t)
    ++ (number a1 (first_leaf target) ++ (value_given e t source ++ service 41)))))

-- a part is taken onto the text stack with mode 0, and put with mode 1
abbrev pub aggregate_given : Environment → Taken → Y.Reference → (mode : ℕ) → Code
aggregate_given e t r mode =
    record_given e t
    ++ (number a1 (first_leaf r) ++ (number a2 (leaf_count r) ++ (number a3 (subscript_count r) ++ small a4 mode ∷ [])))

abbrev pub aggregate_code : Environment → Taken → (target source : Y.Reference) → Code
aggregate_code e t target source =
    record_code e t source
    ++ (aggregate_given e t source 0
    ++ (service 40 ++ (record_code e t target ++ (aggregate_given e t target 1 ++ tested_service 40))))

-- ---- areas

abbrev pub area_name : Environment → Register → Taken → Y.Variable → Code
area_name e r t v = name_offset e r (located e t v).name

-- AREA where the target is too small, which then stays as it was
abbrev pub area_code' : Environment → Taken → (target source : Y.Variable) → Code
area_code' e t target source =
    area_name e a0 t target
    ++ (area_name e a1 t source ++ (service 12 ++ skip_where Test.Equal a1 zero_register (raised C.Area area_code)))

abbrev pub emptied_code : Environment → Taken → Y.Variable → Code
emptied_code e t target = area_name e a0 t target ++ service 13

-- ---- what these take at most, behind what is taken already

abbrev pub assigned_takes : Taken → Y.Reference → Y.Stored → Taken
assigned_takes t target source = most_taken (stored_takes t source) (reference_takes (behind_value source t) target)

-- with its record
abbrev pub aggregate_takes : Taken → Y.Reference → Taken
aggregate_takes t r = reference_takes (with_words record_words t) r

abbrev pub elements_takes : Taken → Y.Reference → Y.Stored → Taken
elements_takes t target source = most_taken (stored_takes t source) (aggregate_takes (behind_value source t) target)
