-- Pieces of the code that stores, each under a name of its own.
use Rattle.std.specs.Prelude.{◌++◌, ℤ, Bool, not, Option, Some, None}
use Rattle.rv_meaning.specs.declared.instr.BranchTest.TheVariants as Test
use Rattle.pli_language.specs.declared.condition.Condition.TheVariants as C
use Rattle.pli_typing.specs.TypedTree as Y
use Rattle.pli_meaning.specs.Codes.{area_code}
use Rattle.pli_coding.specs.Registers.{zero_register, a0, a1, u1}
use Rattle.pli_coding.specs.Assembly.{Code}
use Rattle.pli_coding.specs.Instructions.{number, service, skip_where, tested_service}
use Rattle.pli_coding.specs.Environments.{Environment, Taken, fetch}
use Rattle.pli_coding.specs.Arithmetic.{raised}
use Rattle.pli_coding.specs.Locating.{behind_locator, class_found, in_own_frame, is_referred, leaf_found, leaf_number, located, name_copied, needs_buffer, stored, subscripts_counted, text_stored, waiting_name}
use Rattle.pli_coding.specs.Expressions.{address_in, subscripts_code, type_in, pointer_code, pointer_to}
use Rattle.pli_coding.specs.Storing.{aggregate_code, aggregate_given, elements_code, extent_recorded, first_leaf, name_stored, record_filled, record_given, record_stored, top_stored, value_given, word_stored}

-- ---- to an element that was reached: what is in a0, and what waits

unfoldable pub value_stored : Environment → Y.Reference → Code
value_stored e r = stored (type_in e r) a0 (address_in e r)

unfoldable pub value_kept : Environment → Taken → Y.Reference → Code
value_kept e t r = fetch a0 t ++ value_stored e r

unfoldable pub text_kept : Environment → Y.Reference → Code
text_kept e r = text_stored (type_in e r) (address_in e r)

unfoldable pub name_kept : Environment → Taken → Y.Reference → Code
name_kept e t r = name_copied (in_own_frame (waiting_name t)) (address_in e r)

-- ---- a value, to an element

unfoldable pub word_put : Environment → Taken → Y.Reference → Code
word_put e t r = word_stored e t r

unfoldable pub top_put : Environment → Taken → Y.Reference → Code
top_put e t r = top_stored e t r

unfoldable pub name_put : Environment → Taken → Y.Reference → Code
name_put e t r = name_stored e t r

-- ---- a POINTER value, into a place of the running frame, or by way of the words behind the temporaries in use

unfoldable pub tells_no_extent : Environment → Y.Reference → Bool
tells_no_extent e (Y.Referring v locator part subscripts) = not (is_referred e v part)

unfoldable pub pointer_assigned : Environment → Taken → Y.Reference → Y.Pointer → Option ℤ → Code
pointer_assigned e t target x (Some place) = pointer_to e t place x
pointer_assigned e t target x None = pointer_code e t x ++ name_put e t target

-- ---- records

-- of what isn't reached without a service
abbrev pub found_recorded : Environment → (t found : Taken) → Y.Variable → Y.Part → Code
found_recorded e t found v part =
    class_found e found v v.class
    ++ (leaf_found e (located e found v) part.first (needs_buffer (leaf_number e v part.first)) (is_referred e v part)
    ++ extent_recorded t (is_referred e v part))

abbrev pub counted_recorded : Environment → (t waiting : Taken) → Y.Leaf → (subscripts : Y.Numbers) → Code
counted_recorded e t waiting l subscripts = subscripts_counted e waiting 0 subscripts l.bounds ++ record_stored t 2 u1

unfoldable pub record_made : Environment → (t found : Taken) → Y.Variable → Y.Part → Y.Numbers → Code
record_made e t found v part subscripts = record_filled e t found v part subscripts

-- behind a locator
unfoldable pub subscripts_made : Environment → (t found : Taken) → Y.Variable → Y.Part → Y.Numbers → Code
subscripts_made e t found v part subscripts =
    subscripts_code e (behind_locator v found) subscripts ++ record_made e t found v part subscripts

unfoldable pub part_recorded : Environment → (t found : Taken) → Y.Reference → Code
part_recorded e t found (Y.Referring v locator part subscripts) = subscripts_made e t found v part subscripts

-- ---- aggregates, behind their records

unfoldable pub elements_stored : Environment → (t behind : Taken) → Y.Reference → Y.Stored → Code
elements_stored e t behind target source =
    record_given e behind ++ (number a1 (first_leaf target) ++ (value_given e t source ++ service 41))

unfoldable pub part_taken : Environment → Taken → Y.Reference → Code
part_taken e t r = aggregate_given e t r 0 ++ service 40

unfoldable pub part_put : Environment → Taken → Y.Reference → Code
part_put e t r = aggregate_given e t r 1 ++ tested_service 40

-- ---- a value to all elements, and an aggregate to another one

unfoldable pub elements_put : Environment → Taken → Y.Reference → Y.Stored → Code
elements_put e t target source = elements_code e t target source

unfoldable pub aggregate_put : Environment → Taken → (target source : Y.Reference) → Code
aggregate_put e t target source = aggregate_code e t target source

-- ---- areas

abbrev pub fit_tested : Code
fit_tested = skip_where Test.Equal a1 zero_register (raised C.Area area_code)
