-- The code of expressions marks nothing.
use Rattle.std.proofs.Common.{◌≡◌, ℕ, zero, suc, List, [], ◌∷◌, ◌++◌, Bool, true, false, refl}
use Rattle.std.specs.Prelude.{◌&&◌, not, ℤ, pos, ◌+ℤ◌, unwrap_or, Option, None, Some, if◌then◌else◌}
use Rattle.rv_meaning.specs.declared.instr.Register.{Register}
use Rattle.pli_typing.specs.TypedTree as Y
use Rattle.pli_coding.specs.Registers.{a0, a1, u0, u1}
use Rattle.pli_coding.specs.Assembly.{Code}
use Rattle.pli_coding.specs.Instructions.{small}
use Rattle.pli_coding.specs.Frames.{are_constant}
use Rattle.pli_coding.specs.Environments.{Environment, Taken, with_number, with_words}
use Rattle.pli_coding.specs.Locating.{Address, Located, located, located_by_class, NamePlace, FrameName, is_direct}
use Rattle.pli_coding.specs.Locating.{is_referred, is_simple, are_simple, behind_locator, waiting_name, based_located}
use Rattle.pli_coding.specs.Expressions as X
use Rattle.code_marks.specs.CodeMarks.{Unmarked, ExpressionsMarkNone}
use Rattle.code_marks.proofs.Pieces.{clear, also, next, one_of, far, none, constant_none, number_none, load_none}
use Rattle.code_marks.proofs.Pieces.{store_none}
use Rattle.code_marks.proofs.Pieces.{plus_none, save_none, fetch_none, calculated_none, fitted_none, divided_none}
use Rattle.code_marks.proofs.Pieces.{signed_none, absolute_none, count_none, extreme_none, combined_none, equal_none}
use Rattle.code_marks.proofs.Pieces.{compared_none}
use Rattle.code_marks.proofs.Reached.{frame_found_none, own_none, name_none, number_loaded_none, class_none, refer_none}
use Rattle.code_marks.proofs.Reached.{leaf_none, loaded_none, copied_none, pushed_none, bound_none, reached_none}
use Rattle.code_marks.proofs.Reached.{based_none, standing_none}
use Rattle.std.specs.Prelude.{◌*◌, negsuc, length}
use Rattle.pli_coding.specs.Registers.{zero_register, frame_register, a2, u2}
use Rattle.pli_coding.specs.Frames.{buffer_lower, buffer_upper, words_place}
use Rattle.pli_coding.specs.Locating.{in_own_frame, controlled_number}
use Rattle.pli_coding.specs.Instructions.{tested_service}

-- ---- names

checked_if_none : (e : Environment) (l : Located) (referred : Bool) → Unmarked (X.refer_checked e l referred)
checked_if_none e l true = refer_none e l false
checked_if_none e l false = none

pub checked_none : (e : Environment) (l : Located) (place : ℤ) (referred : Bool)
    → Unmarked (X.name_checked e l place referred)
checked_none e l place referred =
    also (name_none e a0 l.name)
    (also (number_loaded_none e a1 l.number)
    (also (own_none e a2 place) (also {xs = tested_service 9} (clear refl) (checked_if_none e l referred))))

pub written_none : (e : Environment) (t : Taken) (v : Y.Variable) (part : Y.Part) (place : ℤ)
    → Unmarked (X.name_written e t v part place)
written_none e t v part place =
    also (class_none e t v v.class) (checked_none e (located e t v) place (is_referred e v part))

to_offset_none : (e : Environment) (t : Taken) (name : NamePlace) (area : Y.Variable)
    → Unmarked (X.name_to_offset e t name area)
to_offset_none e t name area =
    also (name_none e a0 name) (also (name_none e a1 (located e t area).name) (clear refl))

-- ---- bounds

elements_none : (t : Taken) (b : Y.Bounds) (n : ℕ) → Unmarked (X.elements_code t b n)
elements_none t b n =
    also (bound_none a0 b.upper (buffer_upper n))
    (also (bound_none u1 b.lower (buffer_lower n)) (next refl (next refl (one_of (X.are_few b.lower b.upper) none
    (count_none t)))))

bound_code_none : (t : Taken) (asked : X.BoundAsked) (b : Y.Bounds) (dimension : ℕ)
    → Unmarked (X.bound_code t asked b dimension)
bound_code_none t asked b zero = none
bound_code_none t X.LowerAsked b (suc n) = bound_none a0 b.lower (buffer_lower n)
bound_code_none t X.UpperAsked b (suc n) = bound_none a0 b.upper (buffer_upper n)
bound_code_none t X.ElementsAsked b (suc n) = elements_none t b n

bounds_found_none : (e : Environment) (t : Taken) (v : Y.Variable) (part : Y.Part) (b : Y.Bounds)
    → Unmarked (X.bounds_found e t v part b)
bounds_found_none e t v part b =
    one_of (is_direct e v) none
    (also (class_none e t v v.class)
    (leaf_none e (located e t v) part.first (not (are_constant b)) (is_referred e v part)))

dimension_none : (e : Environment) (t : Taken) (v : Y.Variable) (part : Y.Part) (asked : X.BoundAsked)
    (dimension : ℕ) → Unmarked (X.dimension_code e t v part asked dimension)
dimension_none e t v part asked dimension =
    let b = X.bounds_at e v part dimension in
    also (bounds_found_none e t v part b) (bound_code_none t asked b dimension)

-- ---- names compared

null_none : (place : ℤ) → Unmarked (X.null_name place)
null_none place =
    also (store_none frame_register zero_register (place +ℤ pos (4 * 0))) (also
    (store_none frame_register zero_register (place +ℤ pos (4 * 1))) (also (store_none frame_register zero_register
    (place +ℤ pos (4 * 2))) (store_none frame_register zero_register (place +ℤ pos (4 * 3)))))

word_differs_none : (left right : ℤ) (n : ℕ) → Unmarked (X.words_differ left right n)
word_differs_none left right n =
    also (load_none u1 frame_register (left +ℤ pos (4 * n))) (also (load_none u2 frame_register (right +ℤ pos
    (4 * n))) (clear refl))

names_none : (equal : Bool) (left right : ℤ) → Unmarked (X.names_compared equal left right)
names_none equal left right =
    also (next refl (also (word_differs_none left right 0) (also (word_differs_none left right 1)
    (also (word_differs_none left right 2) (word_differs_none left right 3)))))
    (next refl (next refl (equal_none equal)))

null_differs_none : (place : ℤ) (n : ℕ) → Unmarked (X.null_differs place n)
null_differs_none place n = also (load_none u1 frame_register (place +ℤ pos (4 * n))) (clear refl)

null_compared_none : (equal : Bool) (place : ℤ) → Unmarked (X.null_compared equal place)
null_compared_none equal place =
    next refl (also (null_differs_none place 0) (also (null_differs_none place 1) (also (null_differs_none place 2)
    (also (null_differs_none place 3) (next refl (next refl (equal_none equal)))))))

waiting_none : (o : Option ℤ) (code : Code) → Unmarked code → Unmarked (X.where_waiting o code)
waiting_none None code h = h
waiting_none (Some place) code h = none

-- ---- arguments

by_reference_none : (e : Environment) (t : Taken) (l : X.ArgumentList) (n : ℕ) (v : Y.Variable) (part : Y.Part)
    → Unmarked (X.by_reference e t l n v part)
by_reference_none e t l n v part =
    also (written_none e t v part (X.argument_place l n 0))
    (also (number_loaded_none e u1 (located e t v).number) (also (store_none frame_register u1
    (X.argument_place l n 4)) (store_none frame_register zero_register (X.argument_place l n 5))))

is_copy_none : (l : X.ArgumentList) (n : ℕ) → Unmarked (X.is_copy l n)
is_copy_none l n = next refl (store_none frame_register u1 (X.argument_place l n 5))

name_to_none : (t : Taken) (l : X.ArgumentList) (n : ℕ) → Unmarked (X.name_to_argument t l n)
name_to_none t l n = copied_none (in_own_frame (waiting_name t)) (in_own_frame (X.argument_place l n 0))

value_to_none : (t : Taken) (l : X.ArgumentList) (n : ℕ) (v : Y.Stored) → Unmarked (X.value_to_argument t l n v)
value_to_none t l n (Y.StoredNumber precision x) = store_none frame_register a0 (X.argument_place l n 0)
value_to_none t l n (Y.StoredText x) =
    next refl (next refl (next refl (store_none frame_register a0 (X.argument_place l n 4))))
value_to_none t l n (Y.StoredBit x) = store_none frame_register a0 (X.argument_place l n 0)
value_to_none t l n (Y.StoredPointer x) = name_to_none t l n
value_to_none t l n (Y.StoredOffset x) = store_none frame_register a0 (X.argument_place l n 0)

in_argument_none : (e : Environment) (l : X.ArgumentList) (n : ℕ) (area : Code) → Unmarked area
    → Unmarked (X.offset_in_argument e l n area)
in_argument_none e l n area h =
    also (own_none e a0 (X.argument_place l n 0)) (also h (next refl
    (also {xs = tested_service 14} (clear refl) (store_none frame_register a0 (X.argument_place l n 0)))))

converted_none : (e : Environment) (l : X.ArgumentList) (n : ℕ) (a : Y.Argument) → Unmarked (X.converted_last e l n a)
converted_none e l n (Y.ByReference r) = none
converted_none e l n (Y.ByCopy type v) = none
converted_none e l n (Y.ByOffsetInParameter p parameter) =
    in_argument_none e l n _ (own_none e a1 (X.argument_place l parameter 0))
converted_none e l n (Y.ByOffsetInAutomatic p) = in_argument_none e l n (small a1 0 ∷ []) (clear refl)

all_converted_none : (e : Environment) (l : X.ArgumentList) (n : ℕ) (as' : Y.Arguments)
    → Unmarked (X.all_converted_last e l n as')
all_converted_none e l n Y.NoArgument = none
all_converted_none e l n (Y.ArgumentThen first rest) =
    also (converted_none e l n first) (all_converted_none e l (suc n) rest)

pub frame_given_none : (e : Environment) (level : ℕ) → Unmarked (X.frame_given e level)
frame_given_none e level = also (frame_found_none e level a0) (clear refl)

entered_none : (e : Environment) (l : X.ArgumentList) (procedure level texts : ℕ)
    → Unmarked (X.entered e l procedure level texts)
entered_none e l procedure level texts =
    also (plus_none a1 frame_register (words_place l.place l.words)) (also (number_none a2 texts) (also
    (frame_given_none e level) (clear refl)))

-- ---- expressions

mutual
  pub numbers : (e : Environment) (t : Taken) (x : Y.Number) → Unmarked (X.number_code e t x)
  numbers e t (Y.NumberConstant n) = number_none a0 n
  numbers e t (Y.NumberIn r) = also (references e t r) (loaded_none (X.type_in e r) a0 (X.address_in e r))
  numbers e t (Y.NumberFrom c) = calls e t c
  numbers e t (Y.NumberOfText x) = also (texts e t x) (clear refl)
  numbers e t (Y.NumberOfBit b) = bits e t b
  numbers e t (Y.Signed sign x) = also (numbers e t x) (signed_none t sign)
  numbers e t (Y.Calculated operator left right) =
      also (numbers e t left)
      (also (save_none a0 t)
      (also (numbers e (with_number t) right) (also (fetch_none u1 t) (calculated_none t operator))))
  numbers e t (Y.Absolute x) = also (numbers e t x) (absolute_none t)
  numbers e t (Y.SignOf x) = also (numbers e t x) (clear refl)
  numbers e t (Y.Extreme extremum first more) = also (numbers e t first) (extremes e t extremum more)
  numbers e t (Y.Modulo dividend divisor) =
      also (numbers e t dividend)
      (also (save_none a0 t) (also (numbers e (with_number t) divisor) (also (fetch_none u1 t) (clear refl))))
  numbers e t (Y.Divided precision dividend divisor) =
      also (numbers e t dividend)
      (also (save_none a0 t)
      (also (numbers e (with_number t) divisor) (also (fetch_none u1 t) (divided_none t precision))))
  numbers e t (Y.LengthOf x) = also (texts e t x) (clear refl)
  numbers e t (Y.IndexOf searched sought) = also (texts e t searched) (also (texts e t sought) (clear refl))
  numbers e t (Y.VerifyOf searched allowed) = also (texts e t searched) (also (texts e t allowed) (clear refl))
  numbers e t (Y.LowerBound r dimension) = asked e t r X.LowerAsked dimension
  numbers e t (Y.UpperBound r dimension) = asked e t r X.UpperAsked dimension
  numbers e t (Y.ElementsOf r dimension) = asked e t r X.ElementsAsked dimension
  numbers e t (Y.AllocationsOf v) = also (number_none a0 (controlled_number e v)) (clear refl)
  numbers e t Y.OnCode = clear refl

  extremes : (e : Environment) (t : Taken) (extremum : Y.Extremum) (xs : Y.Numbers)
      → Unmarked (X.extremes_code e t extremum xs)
  extremes e t extremum Y.NoNumber = none
  extremes e t extremum (Y.NumberThen first rest) =
      also (save_none a0 t)
      (also (numbers e (with_number t) first)
      (also (fetch_none u1 t) (also (extreme_none extremum) (extremes e t extremum rest))))

  pub texts : (e : Environment) (t : Taken) (x : Y.Text) → Unmarked (X.text_code e t x)
  texts e t (Y.TextConstant bytes) = next refl (also (number_none a1 (length bytes)) (clear refl))
  texts e t (Y.TextIn r) = also (references e t r) (pushed_none (X.type_in e r) (X.address_in e r))
  texts e t (Y.TextFrom c) = calls e t c
  texts e t (Y.TextOfNumber precision x) = also (numbers e t x) (clear refl)
  texts e t (Y.TextOfBit b) = also (bits e t b) (clear refl)
  texts e t (Y.Joined left right) = also (texts e t left) (also (texts e t right) (clear refl))
  texts e t (Y.SubstringFrom x start) = also (texts e t x) (also (numbers e t start) (clear refl))
  texts e t (Y.Substring x start count) =
      also (texts e t x)
      (also (numbers e t start)
      (also (save_none a0 t)
      (also (numbers e (with_number t) count) (next refl (also (fetch_none a0 t) (clear refl))))))

  pub bits : (e : Environment) (t : Taken) (x : Y.Bit) → Unmarked (X.bit_code e t x)
  bits e t (Y.BitConstant true) = clear refl
  bits e t (Y.BitConstant false) = clear refl
  bits e t (Y.BitIn r) = also (references e t r) (loaded_none (X.type_in e r) a0 (X.address_in e r))
  bits e t (Y.BitFrom c) = calls e t c
  bits e t (Y.BitOfText x) = also (texts e t x) (clear refl)
  bits e t (Y.Negated x) = also (bits e t x) (clear refl)
  bits e t (Y.Combined operator left right) =
      also (bits e t left)
      (also (save_none a0 t)
      (also (bits e (with_number t) right) (also (fetch_none u1 t) (combined_none operator))))
  bits e t (Y.NumbersCompared comparison left right) =
      also (numbers e t left)
      (also (save_none a0 t)
      (also (numbers e (with_number t) right) (also (fetch_none u1 t) (compared_none comparison))))
  bits e t (Y.TextsCompared comparison left right) =
      also (texts e t left)
      (also (texts e t right) (next refl (next refl (next refl (next refl (compared_none comparison))))))
  bits e t (Y.BitsCompared comparison left right) =
      also (bits e t left)
      (also (save_none a0 t)
      (also (bits e (with_number t) right) (also (fetch_none u1 t) (compared_none comparison))))
  bits e t (Y.PointersCompared equal left right) =
      one_of (X.is_null right)
      (also (waiting_none (X.own_standing e left) _ (pointers e t (waiting_name t) left))
      (null_compared_none equal (unwrap_or (X.own_standing e left) (waiting_name t))))
      (let more = with_words 4 t in
      also (waiting_none (X.left_standing e left right) _ (pointers e t (waiting_name t) left))
      (also (waiting_none (X.own_standing e right) _ (pointers e more (waiting_name more) right))
      (names_none equal (unwrap_or (X.left_standing e left right) (waiting_name t))
      (unwrap_or (X.own_standing e right) (waiting_name more)))))
  bits e t (Y.OffsetsCompared equal left right) =
      also (offsets e t left)
      (also (save_none a0 t)
      (also (offsets e (with_number t) right) (also (fetch_none u1 t) (equal_none equal))))

  pub pointers : (e : Environment) (t : Taken) (place : ℤ) (x : Y.Pointer) → Unmarked (X.pointer_to e t place x)
  pointers e t place Y.NullPointer = null_none place
  pointers e t place (Y.PointerIn r) = also (references e t r) (copied_none (X.address_in e r) (in_own_frame place))
  pointers e t place (Y.PointerFrom c) =
      also (calls e t c) (copied_none (record { register = a0; displacement = pos 0 }) (in_own_frame place))
  pointers e t place (Y.AddressOf (Y.Referring v locator part subscripts)) =
      standing_none (X.standing_locator e locator) _ _
      (λ name. checked_none e (based_located e v name) place (is_referred e v part))
      (also (locators e t locator) (written_none e t v part place))
  pointers e t place (Y.PointerInto x area) =
      also (offsets e t x) (also (name_none e a1 (located e t area).name) (also (own_none e a2 place) (clear refl)))

  pub offsets : (e : Environment) (t : Taken) (x : Y.Offset) → Unmarked (X.offset_code e t x)
  offsets e t Y.NullOffset = constant_none a0 (negsuc 0)
  offsets e t (Y.OffsetIn r) = also (references e t r) (loaded_none (X.type_in e r) a0 (X.address_in e r))
  offsets e t (Y.OffsetFrom c) = calls e t c
  offsets e t (Y.OffsetInto x area) =
      standing_none (X.standing_name e x) _ _ (λ name. to_offset_none e t name area)
      (also (pointers e t (waiting_name t) x) (to_offset_none e t (FrameName e.level (waiting_name t)) area))

  pub references : (e : Environment) (t : Taken) (x : Y.Reference) → Unmarked (X.reference_code e t x)
  references e t (Y.Referring v Y.NotLocated part subscripts) =
      also (all_subscripts e (behind_locator v t) subscripts)
      (reached_none e t (behind_locator v t) v part subscripts)
  references e t (Y.Referring v (Y.LocatedBy p) part subscripts) =
      standing_none (X.standing_behind e p subscripts) _ _
      (λ name. also (all_subscripts e t subscripts) (based_none e name t v part subscripts))
      (also (pointers e t (waiting_name t) p)
      (also (all_subscripts e (behind_locator v t) subscripts)
      (reached_none e t (behind_locator v t) v part subscripts)))

  pub locators : (e : Environment) (t : Taken) (x : Y.Locator) → Unmarked (X.locator_code e t x)
  locators e t Y.NotLocated = none
  locators e t (Y.LocatedBy p) = pointers e t (waiting_name t) p

  pub all_subscripts : (e : Environment) (t : Taken) (xs : Y.Numbers) → Unmarked (X.subscripts_code e t xs)
  all_subscripts e t Y.NoNumber = none
  all_subscripts e t (Y.NumberThen first rest) =
      one_of (is_simple e first && are_simple e rest) none
      (also (numbers e t first) (also (save_none a0 t) (all_subscripts e (with_number t) rest)))

  asked : (e : Environment) (t : Taken) (x : Y.Reference) (what : X.BoundAsked) (dimension : ℕ)
      → Unmarked (X.asked_code e t x what dimension)
  asked e t (Y.Referring v locator part subscripts) what dimension =
      also (locators e t locator) (dimension_none e t v part what dimension)

  pub calls : (e : Environment) (t : Taken) (x : Y.Call) → Unmarked (X.call_code e t x)
  calls e t (Y.Calling procedure level as') =
      let l = X.list_at t as' in
      also (arguments e (with_words (X.list_words as') t) l 0 as')
      (also (all_converted_none e l 0 as') (entered_none e l procedure level (X.text_count as')))

  arguments : (e : Environment) (t : Taken) (l : X.ArgumentList) (n : ℕ) (as' : Y.Arguments)
      → Unmarked (X.arguments_code e t l n as')
  arguments e t l n Y.NoArgument = none
  arguments e t l n (Y.ArgumentThen first rest) = also (argument e t l n first) (arguments e t l (suc n) rest)

  argument : (e : Environment) (t : Taken) (l : X.ArgumentList) (n : ℕ) (a : Y.Argument)
      → Unmarked (X.argument_code e t l n a)
  argument e t l n (Y.ByReference (Y.Referring v locator part subscripts)) =
      also (locators e t locator) (by_reference_none e t l n v part)
  argument e t l n (Y.ByCopy type v) = also (values e t v) (also (value_to_none t l n v) (is_copy_none l n))
  argument e t l n (Y.ByOffsetInParameter p parameter) =
      also (pointers e t (waiting_name t) p) (also (name_to_none t l n) (is_copy_none l n))
  argument e t l n (Y.ByOffsetInAutomatic p) =
      also (pointers e t (waiting_name t) p) (also (name_to_none t l n) (is_copy_none l n))

  pub values : (e : Environment) (t : Taken) (x : Y.Stored) → Unmarked (X.stored_code e t x)
  values e t (Y.StoredNumber precision x) = also (numbers e t x) (fitted_none t precision)
  values e t (Y.StoredText x) = texts e t x
  values e t (Y.StoredBit x) = bits e t x
  values e t (Y.StoredPointer x) = pointers e t (waiting_name t) x
  values e t (Y.StoredOffset x) = offsets e t x

-- ---- the law

pub expressions_mark_none : ExpressionsMarkNone
expressions_mark_none =
    record {
      numbers = numbers;
      texts = texts;
      bits = bits;
      pointers = pointers;
      offsets = offsets;
      references = references;
      calls = calls;
      values = values;
    }
