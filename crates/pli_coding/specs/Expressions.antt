-- The code of expressions. A number, a bit or an OFFSET value comes in a0, a text on top of the text stack, and a
-- POINTER value in the four words of the frame behind the temporaries in use.
use Rattle.std.specs.Prelude.{ℕ, zero, suc, ◌+◌, ◌*◌, ℤ, pos, negsuc, ◌+ℤ◌, ◌-ℤ◌, Bool, true, false, not, ◌&&◌, List}
use Rattle.std.specs.Prelude.{[], ◌∷◌, ◌++◌, length, slice_get, unwrap_or, if◌then◌else◌, Option, Some, None, is_some}
use Rattle.rv_meaning.specs.declared.instr.Register.{Register}
use Rattle.rv_meaning.specs.declared.instr.RegisterOp.TheVariants as Op
use Rattle.rv_meaning.specs.declared.instr.ImmediateOp.TheVariants as Imm
use Rattle.pli_typing.specs.TypedTree as Y
use Rattle.pli_meaning.specs.Numbers.{is_of_precision, operator_precision}
use Rattle.pli_coding.specs.Registers.{zero_register, frame_register, a0, a1, a2, a3, u0, u1, u2}
use Rattle.pli_coding.specs.Assembly.{ConstantBytes, ProcedureEntry, DataPlace, OffsetOf, CallTo, Code}
use Rattle.pli_coding.specs.Instructions.{immediate, registers, subtract, move, small, constant, number, plus}
use Rattle.pli_coding.specs.Instructions.{load_word, store_word, service, tested_service}
use Rattle.pli_coding.specs.Frames.{buffer_lower, buffer_upper, are_constant, words_place, word_in}
use Rattle.pli_coding.specs.Environments.{Environment, Taken, with_words, with_number, save, fetch}
use Rattle.pli_coding.specs.Arithmetic.{calculated_code, fitted_code, divided_code, signed_code, absolute_code}
use Rattle.pli_coding.specs.Arithmetic.{count_checked, sign_code, modulo_code, extreme_code, negated_code}
use Rattle.pli_coding.specs.Arithmetic.{combined_code, equal_code, compared_code}
use Rattle.pli_coding.specs.Locating.{frame_found, frame_in, own_place, Located, located, name_offset, number_loaded}
use Rattle.pli_coding.specs.Locating.{controlled_number, class_found, behind_locator, waiting_name, leaf_number}
use Rattle.pli_coding.specs.Locating.{is_direct, is_referred, refer_read, leaf_found, bound_loaded, is_simple}
use Rattle.pli_coding.specs.Locating.{are_simple, Address, address_of, reached, loaded, name_copied, in_own_frame}
use Rattle.pli_coding.specs.Locating.{text_pushed, NamePlace, FrameName, based_located, based_reached, direct_name}
use Rattle.pli_coding.specs.Locating.{where_standing, own_name}

-- ---- references

abbrev pub given_in : Y.Numbers → ℕ
given_in Y.NoNumber = 0
given_in (Y.NumberThen first rest) = suc (given_in rest)

-- the kind of the element, or of the first leaf of a part
abbrev pub type_in : Environment → Y.Reference → Y.LeafType
type_in e (Y.Referring v locator part subscripts) = (leaf_number e v part.first).type

-- where the code of a reference leaves it
abbrev pub address_in : Environment → Y.Reference → Address
address_in e (Y.Referring v locator part subscripts) = address_of e v part (given_in subscripts)

-- a name is found to live (101), and is written to a place of the frame; REFER tells what may be (107)
abbrev pub refer_checked : Environment → Located → (is_referred : Bool) → Code
refer_checked e l true = refer_read e l false
refer_checked e l false = []

abbrev pub name_checked : Environment → Located → (place : ℤ) → (is_referred : Bool) → Code
name_checked e l place is_referred =
    name_offset e a0 l.name
    ++ (number_loaded e a1 l.number ++ (own_place e a2 place ++ (tested_service 9 ++ refer_checked e l is_referred)))

-- a POINTER variable that is reached without code, and without subscripts, holds its name at a constant place
abbrev pub standing_in : Environment → Y.Reference → Option NamePlace
standing_in e (Y.Referring v Y.NotLocated part Y.NoNumber) =
    if is_direct e v then Some (direct_name e v v.class part.first) else None
standing_in e _ = None

abbrev pub standing_name : Environment → Y.Pointer → Option NamePlace
standing_name e (Y.PointerIn r) = standing_in e r
standing_name e _ = None

-- the locator's own place: while simple subscripts are evaluated, nothing changes
abbrev pub standing_behind : Environment → Y.Pointer → Y.Numbers → Option NamePlace
standing_behind e p subscripts = if are_simple e subscripts then standing_name e p else None

abbrev pub standing_locator : Environment → Y.Locator → Option NamePlace
standing_locator e Y.NotLocated = None
standing_locator e (Y.LocatedBy p) = standing_name e p

abbrev pub name_written : Environment → Taken → Y.Variable → Y.Part → (place : ℤ) → Code
name_written e t v part place =
    class_found e t v v.class ++ name_checked e (located e t v) place (is_referred e v part)

-- the offset in an area of a name that stands there, or 110
abbrev pub name_to_offset : Environment → Taken → NamePlace → Y.Variable → Code
name_to_offset e t name area =
    name_offset e a0 name ++ (name_offset e a1 (located e t area).name ++ (small a3 1 ∷ tested_service 14))

-- ---- bounds

abbrev pub no_bounds : Y.Bounds
no_bounds = record { lower = Y.ConstantExtent (pos 1); upper = Y.ConstantExtent (pos 0) }

abbrev pub bounds_at : Environment → Y.Variable → Y.Part → (dimension : ℕ) → Y.Bounds
bounds_at e v part zero = no_bounds
bounds_at e v part (suc n) = unwrap_or (slice_get (leaf_number e v part.first).bounds n) no_bounds

-- what is asked of a dimension
pub data BoundAsked : Type 0 where
  LowerAsked UpperAsked ElementsAsked : BoundAsked

abbrev pub lower_code : Y.Bounds → (n : ℕ) → Code
lower_code b n = bound_loaded a0 b.lower (buffer_lower n)

abbrev pub upper_code : Y.Bounds → (n : ℕ) → Code
upper_code b n = bound_loaded a0 b.upper (buffer_upper n)

-- whether constant bounds tell that a number holds how many there are
abbrev pub are_few : (lower upper : Y.Extent) → Bool
are_few (Y.ConstantExtent l) (Y.ConstantExtent u) = is_of_precision operator_precision (u -ℤ l +ℤ pos 1)
are_few _ _ = false

-- from a0, the upper bound, and u1, the lower one
abbrev pub elements_code : Taken → Y.Bounds → (n : ℕ) → Code
elements_code t b n =
    upper_code b n
    ++ (bound_loaded u1 b.lower (buffer_lower n)
    ++ (subtract a0 a0 u1 ∷ immediate Imm.Add a0 a0 (pos 1)
    ∷ (if are_few b.lower b.upper then [] else count_checked t)))

abbrev pub bound_code : Taken → BoundAsked → Y.Bounds → (dimension : ℕ) → Code
bound_code t asked b zero = []
bound_code t LowerAsked b (suc n) = lower_code b n
bound_code t UpperAsked b (suc n) = upper_code b n
bound_code t ElementsAsked b (suc n) = elements_code t b n

abbrev pub bounds_found : Environment → Taken → Y.Variable → Y.Part → Y.Bounds → Code
bounds_found e t v part b =
    if is_direct e v then []
    else class_found e t v v.class
    ++ leaf_found e (located e t v) part.first (not (are_constant b)) (is_referred e v part)

abbrev pub dimension_code : Environment → Taken → Y.Variable → Y.Part → BoundAsked → (dimension : ℕ) → Code
dimension_code e t v part asked dimension =
    bounds_found e t v part (bounds_at e v part dimension)
    ++ bound_code t asked (bounds_at e v part dimension) dimension

-- ---- names

abbrev pub null_word : (place : ℤ) → (n : ℕ) → Code
null_word place n = store_word frame_register zero_register (place +ℤ pos (4 * n))

abbrev pub null_name : (place : ℤ) → Code
null_name place = null_word place 0 ++ (null_word place 1 ++ (null_word place 2 ++ null_word place 3))

-- where the nth words of two names differ, bits of u0
abbrev pub words_differ : (left right : ℤ) → (n : ℕ) → Code
words_differ left right n =
    load_word u1 frame_register (left +ℤ pos (4 * n))
    ++ (load_word u2 frame_register (right +ℤ pos (4 * n))
    ++ (registers Op.Xor u1 u1 u2 ∷ registers Op.Or u0 u0 u1 ∷ []))

abbrev pub names_differ : (left right : ℤ) → Code
names_differ left right =
    small u0 0
    ∷ (words_differ left right 0
    ++ (words_differ left right 1 ++ (words_differ left right 2 ++ words_differ left right 3)))

abbrev pub names_compared : (equal : Bool) → (left right : ℤ) → Code
names_compared equal left right = names_differ left right ++ (move u1 zero_register ∷ move a0 u0 ∷ equal_code equal)

-- a name and the null name, bits of u0
abbrev pub null_differs : (place : ℤ) → (n : ℕ) → Code
null_differs place n = load_word u1 frame_register (place +ℤ pos (4 * n)) ++ registers Op.Or u0 u0 u1 ∷ []

abbrev pub null_compared : (equal : Bool) → (place : ℤ) → Code
null_compared equal place =
    small u0 0
    ∷ (null_differs place 0 ++ (null_differs place 1 ++ (null_differs place 2 ++ (null_differs place 3
    ++ (move u1 zero_register ∷ move a0 u0 ∷ equal_code equal)))))

abbrev pub is_null : Y.Pointer → Bool
is_null Y.NullPointer = true
is_null _ = false

-- an operand that stands in the running frame needs no code
abbrev pub where_waiting : Option ℤ → Code → Code
where_waiting (Some place) code = []
where_waiting None code = code

abbrev pub own_standing : Environment → Y.Pointer → Option ℤ
own_standing e p = own_name e (standing_name e p)

-- nor does a left one that nothing changes while the right one is evaluated
abbrev pub left_standing : Environment → (left right : Y.Pointer) → Option ℤ
left_standing e left right = if is_some (standing_name e right) then own_standing e left else None

-- ---- lists of arguments: 6 words each, a name or value in four, a number or a text's length, and 1 for a copy

pub record ArgumentList : Type 0 where
  pub place : ℕ
  pub words : ℕ

abbrev pub argument_words : ℕ
argument_words = 6

abbrev pub argument_count : Y.Arguments → ℕ
argument_count Y.NoArgument = 0
argument_count (Y.ArgumentThen first rest) = suc (argument_count rest)

abbrev pub list_words : Y.Arguments → ℕ
list_words as' = argument_words * argument_count as'

abbrev pub list_at : Taken → Y.Arguments → ArgumentList
list_at t as' = record { place = t.words; words = list_words as' }

-- a word of the nth argument
abbrev pub argument_place : ArgumentList → (n word : ℕ) → ℤ
argument_place l n word = word_in l.place l.words (argument_words * n + word)

abbrev pub argument_stored : ArgumentList → (n word : ℕ) → Register → Code
argument_stored l n word r = store_word frame_register r (argument_place l n word)

abbrev pub is_copy : ArgumentList → (n : ℕ) → Code
is_copy l n = small u1 1 ∷ argument_stored l n 5 u1

abbrev pub is_reference : ArgumentList → (n : ℕ) → Code
is_reference l n = argument_stored l n 5 zero_register

abbrev pub by_reference : Environment → Taken → ArgumentList → (n : ℕ) → Y.Variable → Y.Part → Code
by_reference e t l n v part =
    name_written e t v part (argument_place l n 0)
    ++ (number_loaded e u1 (located e t v).number ++ (argument_stored l n 4 u1 ++ is_reference l n))

abbrev pub name_to_argument : Taken → ArgumentList → (n : ℕ) → Code
name_to_argument t l n = name_copied (in_own_frame (waiting_name t)) (in_own_frame (argument_place l n 0))

-- a text stays on the stack, and its length goes with it
abbrev pub value_to_argument : Taken → ArgumentList → (n : ℕ) → Y.Stored → Code
value_to_argument t l n (Y.StoredNumber precision x) = argument_stored l n 0 a0
value_to_argument t l n (Y.StoredText x) = small a2 2 ∷ (service 27 ++ argument_stored l n 4 a0)
value_to_argument t l n (Y.StoredBit x) = argument_stored l n 0 a0
value_to_argument t l n (Y.StoredPointer x) = name_to_argument t l n
value_to_argument t l n (Y.StoredOffset x) = argument_stored l n 0 a0

-- the offset of a name in the area of another argument, or in none
abbrev pub offset_in_argument : Environment → ArgumentList → (n : ℕ) → (area : Code) → Code
offset_in_argument e l n area =
    own_place e a0 (argument_place l n 0) ++ (area ++ (small a3 1 ∷ (tested_service 14 ++ argument_stored l n 0 a0)))

abbrev pub converted_last : Environment → ArgumentList → (n : ℕ) → Y.Argument → Code
converted_last e l n (Y.ByOffsetInParameter p parameter) =
    offset_in_argument e l n (own_place e a1 (argument_place l parameter 0))
converted_last e l n (Y.ByOffsetInAutomatic p) = offset_in_argument e l n (small a1 0 ∷ [])
converted_last e l n _ = []

abbrev pub all_converted_last : Environment → ArgumentList → (n : ℕ) → Y.Arguments → Code
all_converted_last e l n Y.NoArgument = []
all_converted_last e l n (Y.ArgumentThen first rest) = converted_last e l n first ++ all_converted_last e l (suc n) rest

abbrev pub is_text : Y.Argument → Bool
is_text (Y.ByCopy type (Y.StoredText x)) = true
is_text _ = false

abbrev pub text_count : Y.Arguments → ℕ
text_count Y.NoArgument = 0
text_count (Y.ArgumentThen first rest) = (if is_text first then 1 else 0) + text_count rest

abbrev pub frame_given : Environment → (level : ℕ) → Code
frame_given e level = frame_found e level a0 ++ move a0 (frame_in e level a0) ∷ []

-- the frame of the block that declares the procedure, the list, and how many texts go with it
abbrev pub entered : Environment → ArgumentList → (procedure level texts : ℕ) → Code
entered e l procedure level texts =
    plus a1 frame_register (words_place l.place l.words)
    ++ (number a2 texts ++ (frame_given e level ++ CallTo (ProcedureEntry procedure) ∷ []))

-- ---- texts

abbrev pub constant_pushed : List ℕ → Code
constant_pushed bytes =
    OffsetOf a0 (DataPlace (ConstantBytes bytes)) ∷ (number a1 (length bytes) ++ (small a2 0 ∷ service 20))

-- ---- expressions

abbrev mutual
  pub number_code : Environment → Taken → Y.Number → Code
  number_code e t (Y.NumberConstant n) = number a0 n
  number_code e t (Y.NumberIn r) = reference_code e t r ++ loaded (type_in e r) a0 (address_in e r)
  number_code e t (Y.NumberFrom c) = call_code e t c
  number_code e t (Y.NumberOfText x) = text_code e t x ++ (small a0 0 ∷ tested_service 26)
  number_code e t (Y.NumberOfBit b) = bit_code e t b
  number_code e t (Y.Signed sign x) = number_code e t x ++ signed_code t sign
  number_code e t (Y.Calculated operator left right) =
      number_code e t left
      ++ (save a0 t ++ (number_code e (with_number t) right ++ (fetch u1 t ++ calculated_code t operator)))
  number_code e t (Y.Absolute x) = number_code e t x ++ absolute_code t
  number_code e t (Y.SignOf x) = number_code e t x ++ sign_code
  number_code e t (Y.Extreme extremum first more) = number_code e t first ++ extremes_code e t extremum more
  number_code e t (Y.Modulo dividend divisor) =
      number_code e t dividend ++ (save a0 t ++ (number_code e (with_number t) divisor ++ (fetch u1 t ++ modulo_code)))
  number_code e t (Y.Divided precision dividend divisor) =
      number_code e t dividend
      ++ (save a0 t ++ (number_code e (with_number t) divisor ++ (fetch u1 t ++ divided_code t precision)))
  number_code e t (Y.LengthOf x) = text_code e t x ++ (small a2 3 ∷ service 27)
  number_code e t (Y.IndexOf searched sought) =
      text_code e t searched ++ (text_code e t sought ++ (small a0 0 ∷ service 25))
  number_code e t (Y.VerifyOf searched allowed) =
      text_code e t searched ++ (text_code e t allowed ++ (small a0 1 ∷ service 25))
  number_code e t (Y.LowerBound r dimension) = asked_code e t r LowerAsked dimension
  number_code e t (Y.UpperBound r dimension) = asked_code e t r UpperAsked dimension
  number_code e t (Y.ElementsOf r dimension) = asked_code e t r ElementsAsked dimension
  number_code e t (Y.AllocationsOf v) = number a0 (controlled_number e v) ++ service 19
  number_code e t Y.OnCode = service 33

  -- a value in a0, and one after the other of these
  pub extremes_code : Environment → Taken → Y.Extremum → Y.Numbers → Code
  extremes_code e t extremum Y.NoNumber = []
  extremes_code e t extremum (Y.NumberThen first rest) =
      save a0 t
      ++ (number_code e (with_number t) first
      ++ (fetch u1 t ++ (extreme_code extremum ++ extremes_code e t extremum rest)))

  pub text_code : Environment → Taken → Y.Text → Code
  text_code e t (Y.TextConstant bytes) = constant_pushed bytes
  text_code e t (Y.TextIn r) = reference_code e t r ++ text_pushed (type_in e r) (address_in e r)
  text_code e t (Y.TextFrom c) = call_code e t c
  text_code e t (Y.TextOfNumber precision x) = number_code e t x ++ (small a1 precision ∷ service 21)
  text_code e t (Y.TextOfBit b) = bit_code e t b ++ (small a1 0 ∷ service 21)
  text_code e t (Y.Joined left right) = text_code e t left ++ (text_code e t right ++ tested_service 22)
  text_code e t (Y.SubstringFrom x start) =
      text_code e t x ++ (number_code e t start ++ (small a2 0 ∷ tested_service 23))
  text_code e t (Y.Substring x start count) =
      text_code e t x
      ++ (number_code e t start
      ++ (save a0 t
      ++ (number_code e (with_number t) count ++ (move a1 a0 ∷ (fetch a0 t ++ (small a2 1 ∷ tested_service 23))))))

  pub bit_code : Environment → Taken → Y.Bit → Code
  bit_code e t (Y.BitConstant true) = small a0 1 ∷ []
  bit_code e t (Y.BitConstant false) = small a0 0 ∷ []
  bit_code e t (Y.BitIn r) = reference_code e t r ++ loaded (type_in e r) a0 (address_in e r)
  bit_code e t (Y.BitFrom c) = call_code e t c
  bit_code e t (Y.BitOfText x) = text_code e t x ++ (small a0 1 ∷ tested_service 26)
  bit_code e t (Y.Negated x) = bit_code e t x ++ negated_code ∷ []
  bit_code e t (Y.Combined operator left right) =
      bit_code e t left
      ++ (save a0 t ++ (bit_code e (with_number t) right ++ (fetch u1 t ++ combined_code operator ∷ [])))
  bit_code e t (Y.NumbersCompared comparison left right) =
      number_code e t left
      ++ (save a0 t ++ (number_code e (with_number t) right ++ (fetch u1 t ++ compared_code comparison)))
  bit_code e t (Y.TextsCompared comparison left right) =
      text_code e t left
      ++ (text_code e t right ++ (service 24 ++ (move u1 a0 ∷ small a0 0 ∷ compared_code comparison)))
  bit_code e t (Y.BitsCompared comparison left right) =
      bit_code e t left ++ (save a0 t ++ (bit_code e (with_number t) right ++ (fetch u1 t ++ compared_code comparison)))
  bit_code e t (Y.PointersCompared equal left right) =
      if is_null right then
      where_waiting (own_standing e left) (pointer_to e t (waiting_name t) left)
      ++ null_compared equal (unwrap_or (own_standing e left) (waiting_name t))
      else
      where_waiting (left_standing e left right) (pointer_to e t (waiting_name t) left)
      ++ (where_waiting (own_standing e right) (pointer_to e (with_words 4 t) (waiting_name (with_words 4 t)) right)
      ++ names_compared equal
      (unwrap_or (left_standing e left right) (waiting_name t))
      (unwrap_or (own_standing e right) (waiting_name (with_words 4 t))))
  bit_code e t (Y.OffsetsCompared equal left right) =
      offset_code e t left ++ (save a0 t ++ (offset_code e (with_number t) right ++ (fetch u1 t ++ equal_code equal)))

  -- into a place of the running frame, which is written last
  pub pointer_to : Environment → Taken → (place : ℤ) → Y.Pointer → Code
  pointer_to e t place Y.NullPointer = null_name place
  pointer_to e t place (Y.PointerIn r) = reference_code e t r ++ name_copied (address_in e r) (in_own_frame place)
  pointer_to e t place (Y.PointerFrom c) =
      call_code e t c ++ name_copied (record { register = a0; displacement = pos 0 }) (in_own_frame place)
  pointer_to e t place (Y.AddressOf (Y.Referring v locator part subscripts)) =
      where_standing (standing_locator e locator)
      (λ name. name_checked e (based_located e v name) place (is_referred e v part))
      (locator_code e t locator ++ name_written e t v part place)
  pointer_to e t place (Y.PointerInto x area) =
      offset_code e t x
      ++ (name_offset e a1 (located e t area).name ++ (own_place e a2 place ++ (small a3 0 ∷ service 14)))

  pub offset_code : Environment → Taken → Y.Offset → Code
  offset_code e t Y.NullOffset = constant a0 (negsuc 0)
  offset_code e t (Y.OffsetIn r) = reference_code e t r ++ loaded (type_in e r) a0 (address_in e r)
  offset_code e t (Y.OffsetFrom c) = call_code e t c
  offset_code e t (Y.OffsetInto x area) =
      where_standing (standing_name e x)
      (λ name. name_to_offset e t name area)
      (pointer_to e t (waiting_name t) x ++ name_to_offset e t (FrameName e.level (waiting_name t)) area)

  -- the locator, then the subscripts, then the checks
  pub reference_code : Environment → Taken → Y.Reference → Code
  reference_code e t (Y.Referring v Y.NotLocated part subscripts) =
      subscripts_code e (behind_locator v t) subscripts ++ reached e t (behind_locator v t) v part subscripts
  reference_code e t (Y.Referring v (Y.LocatedBy p) part subscripts) =
      where_standing (standing_behind e p subscripts)
      (λ name. subscripts_code e t subscripts ++ based_reached e name t v part subscripts)
      (pointer_to e t (waiting_name t) p
      ++ (subscripts_code e (behind_locator v t) subscripts ++ reached e t (behind_locator v t) v part subscripts))

  pub locator_code : Environment → Taken → Y.Locator → Code
  locator_code e t Y.NotLocated = []
  locator_code e t (Y.LocatedBy p) = pointer_to e t (waiting_name t) p

  -- each waits, up to where all that are left are simple
  pub subscripts_code : Environment → Taken → Y.Numbers → Code
  subscripts_code e t Y.NoNumber = []
  subscripts_code e t (Y.NumberThen first rest) =
      if is_simple e first && are_simple e rest then []
      else number_code e t first ++ (save a0 t ++ subscripts_code e (with_number t) rest)

  pub asked_code : Environment → Taken → Y.Reference → BoundAsked → (dimension : ℕ) → Code
  asked_code e t (Y.Referring v locator part subscripts) asked dimension =
      locator_code e t locator ++ dimension_code e t v part asked dimension

  pub call_code : Environment → Taken → Y.Call → Code
  call_code e t (Y.Calling procedure level as') =
      arguments_code e (with_words (list_words as') t) (list_at t as') 0 as'
      ++ (all_converted_last e (list_at t as') 0 as' ++ entered e (list_at t as') procedure level (text_count as'))

  pub arguments_code : Environment → Taken → ArgumentList → (n : ℕ) → Y.Arguments → Code
  arguments_code e t l n Y.NoArgument = []
  arguments_code e t l n (Y.ArgumentThen first rest) = argument_code e t l n first ++ arguments_code e t l (suc n) rest

  pub argument_code : Environment → Taken → ArgumentList → (n : ℕ) → Y.Argument → Code
  argument_code e t l n (Y.ByReference (Y.Referring v locator part subscripts)) =
      locator_code e t locator ++ by_reference e t l n v part
  argument_code e t l n (Y.ByCopy type v) = stored_code e t v ++ (value_to_argument t l n v ++ is_copy l n)
  argument_code e t l n (Y.ByOffsetInParameter p parameter) =
      pointer_to e t (waiting_name t) p ++ (name_to_argument t l n ++ is_copy l n)
  argument_code e t l n (Y.ByOffsetInAutomatic p) = pointer_to e t (waiting_name t) p
      ++ (name_to_argument t l n ++ is_copy l n)

  -- a value of the kind that is due
  pub stored_code : Environment → Taken → Y.Stored → Code
  stored_code e t (Y.StoredNumber precision x) = number_code e t x ++ fitted_code t precision
  stored_code e t (Y.StoredText x) = text_code e t x
  stored_code e t (Y.StoredBit x) = bit_code e t x
  stored_code e t (Y.StoredPointer x) = pointer_to e t (waiting_name t) x
  stored_code e t (Y.StoredOffset x) = offset_code e t x

-- into the words behind the temporaries in use
abbrev pub pointer_code : Environment → Taken → Y.Pointer → Code
pointer_code e t p = pointer_to e t (waiting_name t) p
