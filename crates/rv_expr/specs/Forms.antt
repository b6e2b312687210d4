-- Parts of the code of expressions that several forms share.
use Rattle.std.specs.Prelude.{ℤ, Bool, [], ◌++◌, Option, Some, None, is_some, unwrap_or, if◌then◌else◌}
use Rattle.pli_typing.specs.TypedTree as Y
use Rattle.pli_coding.specs.Registers.{a0, u1}
use Rattle.pli_coding.specs.Assembly.{Code}
use Rattle.pli_coding.specs.Environments.{Environment, Taken, with_words, with_number, save, fetch}
use Rattle.pli_coding.specs.Locating.{NamePlace, FrameName, behind_locator, waiting_name}
use Rattle.pli_coding.specs.Expressions.{bit_code, is_null, left_standing, locator_code, number_code, own_standing}
use Rattle.pli_coding.specs.Expressions.{pointer_code, standing_behind, subscripts_code}
use Rattle.rv_operation.specs.Pieces.{element_reached, name_to_offset, null_compared, part_named, places_compared}
use Rattle.rv_operation.specs.Pieces.{standing_named, standing_reached}

-- the left operand in u1 and the right one in a0
unfoldable pub both_numbers : Environment → Taken → Y.Number → Y.Number → Code
both_numbers e t left right = number_code e t left ++ (save a0 t ++ (number_code e (with_number t) right ++ fetch u1 t))

unfoldable pub both_bits : Environment → Taken → Y.Bit → Y.Bit → Code
both_bits e t left right = bit_code e t left ++ (save a0 t ++ (bit_code e (with_number t) right ++ fetch u1 t))

-- behind a locator
unfoldable pub subscripted : Environment → Taken → Y.Variable → Y.Part → Y.Numbers → Code
subscripted e t v part subscripts =
    subscripts_code e (behind_locator v t) subscripts ++ element_reached e t (behind_locator v t) v part subscripts

-- the locator of a reference
unfoldable pub locator_of : Environment → Taken → Y.Reference → Code
locator_of e t (Y.Referring v locator part subscripts) = locator_code e t locator

-- where the name of the locator stands, if an element is reached from there
unfoldable pub standing_before : Environment → Y.Reference → Option NamePlace
standing_before e (Y.Referring v Y.NotLocated part subscripts) = None
standing_before e (Y.Referring v (Y.LocatedBy p) part subscripts) = standing_behind e p subscripts

-- the locator of a reference, where its name waits
unfoldable pub waiting_locator : Environment → Taken → Y.Reference → Code
waiting_locator e t r = if is_some (standing_before e r) then [] else locator_of e t r

-- an element of a BASED variable whose locator's name stands there
unfoldable pub standing_at : Environment → Taken → Y.Reference → NamePlace → Code
standing_at e t (Y.Referring v locator part subscripts) name =
    subscripts_code e t subscripts ++ standing_reached e name t v part subscripts

-- an element whose locator's name waits, or that has none
unfoldable pub waiting_at : Environment → Taken → Y.Reference → Code
waiting_at e t (Y.Referring v locator part subscripts) = subscripted e t v part subscripts

unfoldable pub reached_by : Environment → Taken → Y.Reference → Option NamePlace → Code
reached_by e t r (Some name) = standing_at e t r name
reached_by e t r None = waiting_at e t r

-- an element, behind the code of its locator
unfoldable pub behind : Environment → Taken → Y.Reference → Code
behind e t r = reached_by e t r (standing_before e r)

-- a name that is compared, where it stands, or waits
unfoldable pub operand_kept : Environment → Taken → Y.Pointer → Option ℤ → Code
operand_kept e t p (Some place) = []
operand_kept e t p None = pointer_code e t p

unfoldable pub null_told : Environment → Taken → (equal : Bool) → Y.Pointer → Option ℤ → Code
null_told e t equal p place = operand_kept e t p place ++ null_compared equal (unwrap_or place (waiting_name t))

unfoldable pub names_told : Environment → Taken → (equal : Bool) → (left right : Y.Pointer) → (place other : Option ℤ)
    → Code
names_told e t equal left right place other =
    operand_kept e t left place
    ++ (operand_kept e (with_words 4 t) right other
    ++ places_compared equal (unwrap_or place (waiting_name t)) (unwrap_or other (waiting_name (with_words 4 t))))

unfoldable pub pointers_compared : Environment → Taken → (equal : Bool) → (left right : Y.Pointer) → Code
pointers_compared e t equal left right =
    if is_null right then null_told e t equal left (own_standing e left)
    else names_told e t equal left right (left_standing e left right) (own_standing e right)

-- ADDR of a reference, where its locator's name stands, or waits
unfoldable pub address_kept : Environment → Taken → (place : ℤ) → Y.Reference → Option NamePlace → Code
address_kept e t place r (Some name) = standing_named e name place r
address_kept e t place r None = locator_of e t r ++ part_named e t place r

-- the offset of a name in an area, where it stands, or waits
unfoldable pub offset_told : Environment → Taken → Y.Pointer → Y.Variable → Option NamePlace → Code
offset_told e t p area (Some name) = name_to_offset e t name area
offset_told e t p area None = pointer_code e t p ++ name_to_offset e t (FrameName e.level (waiting_name t)) area
