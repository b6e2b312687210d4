-- What is done with operands that were evaluated, each piece under a name of its own: whoever walks over the forms sees the names alone.
use Rattle.std.specs.Prelude.{ℕ, ℤ, Bool, true, false, ◌*◌, pos, nat_lt, [], ◌∷◌, ◌++◌, if◌then◌else◌}
use Rattle.rv_meaning.specs.declared.instr.Register.{Register}
use Rattle.rv_meaning.specs.declared.instr.RegisterOp.TheVariants as Op
use Rattle.rv_meaning.specs.declared.instr.ImmediateOp.TheVariants as Imm
use Rattle.rv_meaning.specs.declared.instr.BranchTest.TheVariants as Test
use Rattle.pli_typing.specs.TypedTree as Y
use Rattle.pli_coding.specs.Registers.{zero_register, frame_register, a0, a1, a2, a3, u0, u1, u2, u4}
use Rattle.pli_coding.specs.Assembly.{ProcedureEntry, CallTo, Item, Code}
use Rattle.pli_coding.specs.Instructions.{immediate, load_word, registers, add, move, small, number, plus, store_word, service, tested_service, skip_where}
use Rattle.pli_coding.specs.Frames.{words_place}
use Rattle.pli_coding.specs.Environments.{Environment, Taken, fetch}
use Rattle.pli_coding.specs.Locating.{Address, controlled_number, in_own_frame, loaded, name_copied, own_place}
use Rattle.pli_coding.specs.Locating.{place_behind, reached, text_pushed, NamePlace, based_located, based_reached}
use Rattle.pli_coding.specs.Locating.{is_referred}
use Rattle.pli_coding.specs.Arithmetic.{order_of_sum, overflow_raised, quotient_checked, narrowed_code, absolute_bits}
use Rattle.pli_coding.specs.Arithmetic.{compared_code, equal_code, extreme_code}
use Rattle.pli_coding.specs.Storing.{area_name}
use Rattle.pli_coding.specs.Expressions.{ArgumentList, BoundAsked, address_in, all_converted_last, argument_stored}
use Rattle.pli_coding.specs.Expressions.{by_reference, dimension_code, entered, frame_given, is_text, name_written}
use Rattle.pli_coding.specs.Expressions.{names_compared as compared_in_frame, null_name, text_count, type_in}
use Rattle.pli_coding.specs.Expressions.{name_checked, name_to_offset as found_to_offset}
use Rattle.pli_coding.specs.Expressions.{null_compared as null_in_frame}

-- ---- arithmetic

abbrev pub right_sign : Item
right_sign = immediate Imm.SetLess u4 a0 (pos 0)

-- a left operand in u1, and its sum with a constant in a0
unfoldable pub constant_summed : ℤ → Code
constant_summed z = move u1 a0 ∷ plus a0 u1 z

unfoldable pub constant_checked : Taken → ℤ → Code
constant_checked t z = skip_where (order_of_sum z) a0 u1 (overflow_raised t)

abbrev pub divided_checked : Taken → Code
divided_checked t = registers Op.Divide u2 u1 a0 ∷ quotient_checked t

abbrev pub narrow_checked : Taken → Code
narrow_checked t = skip_where Test.Equal u1 a0 (move a0 u1 ∷ overflow_raised t)

abbrev pub divided_fitted : Taken → (precision : ℕ) → Code
divided_fitted t precision = if nat_lt precision 31 then registers Op.Divide a0 u1 a0 ∷ narrowed_code t precision else divided_checked t

abbrev pub remainder_mended : Code
remainder_mended = skip_where Test.GreaterOrEqual u2 zero_register (absolute_bits ++ add u2 u2 a0 ∷ [])

-- the left operand, which waits, beside the right one in a0: the greater or the less
unfoldable pub extreme_kept : Taken → Y.Extremum → Code
extreme_kept t extremum = fetch u1 t ++ extreme_code extremum

-- ---- constants

abbrev pub bit_constant : Bool → Code
bit_constant true = small a0 1 ∷ []
bit_constant false = small a0 0 ∷ []

unfoldable pub generations_counted : Environment → Y.Variable → Code
generations_counted e v = number a0 (controlled_number e v) ++ service 19

-- ---- texts

unfoldable pub number_pushed : (precision : ℕ) → Code
number_pushed precision = small a1 precision ∷ service 21

unfoldable pub bit_pushed : Code
bit_pushed = small a1 0 ∷ service 21

unfoldable pub text_to_number : Code
text_to_number = small a0 0 ∷ tested_service 26

unfoldable pub text_to_bit : Code
text_to_bit = small a0 1 ∷ tested_service 26

unfoldable pub text_measured : Code
text_measured = small a2 3 ∷ service 27

unfoldable pub index_found : Code
index_found = small a0 0 ∷ service 25

unfoldable pub verified : Code
verified = small a0 1 ∷ service 25

unfoldable pub end_cut : Code
end_cut = small a2 0 ∷ tested_service 23

unfoldable pub substring_cut : Taken → Code
substring_cut t = move a1 a0 ∷ (fetch a0 t ++ (small a2 1 ∷ tested_service 23))

unfoldable pub texts_compared : Y.Comparison → Code
texts_compared comparison = service 24 ++ (move u1 a0 ∷ small a0 0 ∷ compared_code comparison)

-- ---- names in the frame

-- the nth word of a name
abbrev pub word_loaded : Register → Address → (n : ℕ) → Code
word_loaded r from n = load_word r from.register (place_behind (4 * n) from.displacement)

abbrev pub word_nulled : Address → (n : ℕ) → Code
word_nulled to n = store_word to.register zero_register (place_behind (4 * n) to.displacement)

-- the null name
abbrev pub name_nulled : Address → Code
name_nulled to = word_nulled to 0 ++ (word_nulled to 1 ++ (word_nulled to 2 ++ word_nulled to 3))

-- where the nth words of two names differ, bits of u0
abbrev pub words_differ : (left right : Address) → (n : ℕ) → Code
words_differ left right n =
    word_loaded u1 left n ++ (word_loaded u2 right n ++ (registers Op.Xor u1 u1 u2 ∷ registers Op.Or u0 u0 u1 ∷ []))

abbrev pub names_differ : (left right : Address) → Code
names_differ left right =
    small u0 0
    ∷ (words_differ left right 0 ++ (words_differ left right 1 ++ (words_differ left right 2 ++ words_differ left right 3)))

abbrev pub names_compared : (equal : Bool) → (left right : Address) → Code
names_compared equal left right = names_differ left right ++ (move u1 zero_register ∷ move a0 u0 ∷ equal_code equal)

unfoldable pub null_kept : (place : ℤ) → Code
null_kept place = null_name place

-- of two names in the running frame
unfoldable pub places_compared : (equal : Bool) → (left right : ℤ) → Code
places_compared equal left right = compared_in_frame equal left right

-- whether a name is null, bits of u0
abbrev pub null_differs : Address → (n : ℕ) → Code
null_differs from n = word_loaded u1 from n ++ registers Op.Or u0 u0 u1 ∷ []

abbrev pub name_null : (equal : Bool) → Address → Code
name_null equal from =
    small u0 0
    ∷ (null_differs from 0 ++ (null_differs from 1 ++ (null_differs from 2 ++ (null_differs from 3
    ++ (move u1 zero_register ∷ move a0 u0 ∷ equal_code equal)))))

unfoldable pub null_compared : (equal : Bool) → (place : ℤ) → Code
null_compared equal place = null_in_frame equal place

-- of the offset that waits and the one in a0
unfoldable pub offsets_compared : Taken → (equal : Bool) → Code
offsets_compared t equal = fetch u1 t ++ equal_code equal

-- where a function leaves a name
abbrev pub at_result : Address
at_result = record { register = a0; displacement = pos 0 }

unfoldable pub result_kept : (place : ℤ) → Code
result_kept place = name_copied at_result (in_own_frame place)

-- the name of the offset in a0, and the offset of the name that stands there, in an area
unfoldable pub offset_to_name : Environment → Taken → (place : ℤ) → Y.Variable → Code
offset_to_name e t place area = area_name e a1 t area ++ (own_place e a2 place ++ (small a3 0 ∷ service 14))

unfoldable pub name_to_offset : Environment → Taken → NamePlace → Y.Variable → Code
name_to_offset e t name area = found_to_offset e t name area

-- ---- references

unfoldable pub value_loaded : Environment → Y.Reference → Code
value_loaded e r = loaded (type_in e r) a0 (address_in e r)

unfoldable pub text_loaded : Environment → Y.Reference → Code
text_loaded e r = text_pushed (type_in e r) (address_in e r)

unfoldable pub name_kept : Environment → (place : ℤ) → Y.Reference → Code
name_kept e place r = name_copied (address_in e r) (in_own_frame place)

unfoldable pub element_reached : Environment → (found t : Taken) → Y.Variable → Y.Part → Y.Numbers → Code
element_reached e found t v part subscripts = reached e found t v part subscripts

-- an element of a BASED variable whose name stands there
unfoldable pub standing_reached : Environment → NamePlace → Taken → Y.Variable → Y.Part → Y.Numbers → Code
standing_reached e name t v part subscripts = based_reached e name t v part subscripts

unfoldable pub part_named : Environment → Taken → (place : ℤ) → Y.Reference → Code
part_named e t place (Y.Referring v locator part subscripts) = name_written e t v part place

-- of a BASED variable whose name stands there
abbrev pub based_named : Environment → NamePlace → (place : ℤ) → Y.Variable → Y.Part → Code
based_named e name place v part = name_checked e (based_located e v name) place (is_referred e v part)

unfoldable pub standing_named : Environment → NamePlace → (place : ℤ) → Y.Reference → Code
standing_named e name place (Y.Referring v locator part subscripts) = based_named e name place v part

unfoldable pub bound_told : Environment → Taken → Y.Reference → BoundAsked → (dimension : ℕ) → Code
bound_told e t (Y.Referring v locator part subscripts) asked dimension = dimension_code e t v part asked dimension

-- ---- arguments

unfoldable pub part_given : Environment → Taken → ArgumentList → (n : ℕ) → Y.Reference → Code
part_given e t l n (Y.Referring v locator part subscripts) = by_reference e t l n v part

-- what stands behind the names that an offset comes of
abbrev pub ended : ArgumentList → (n : ℕ) → Code
ended l n = small a3 1 ∷ (tested_service 14 ++ argument_stored l n 0 a0)

abbrev pub text_copies : Y.Argument → ℕ
text_copies a = if is_text a then 1 else 0

-- the list and how many texts go with it, in a1 and a2
abbrev pub list_given : ArgumentList → (texts : ℕ) → Code
list_given l texts = plus a1 frame_register (words_place l.place l.words) ++ number a2 texts

abbrev pub procedure_called : Environment → (procedure level : ℕ) → Code
procedure_called e procedure level = frame_given e level ++ CallTo (ProcedureEntry procedure) ∷ []

unfoldable pub arguments_entered : Environment → ArgumentList → (procedure level : ℕ) → Y.Arguments → Code
arguments_entered e l procedure level as' = all_converted_last e l 0 as' ++ entered e l procedure level (text_count as')
