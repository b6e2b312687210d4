-- GET with jumps to its exit that go nowhere yet, and their places; and what it is once they lead there.
use Rattle.std.specs.Prelude.{ℕ, ◌-◌, ⊤, List, [], ◌∷◌, ◌++◌, if◌then◌else◌}
use Rattle.pli_language.specs.Tree.{Formats}
use Rattle.pli_typing.specs.TypedTree as Y
use Rattle.pli_coding.specs.Registers.{zero_register}
use Rattle.pli_coding.specs.Assembly.{JumpAhead, Code}
use Rattle.pli_coding.specs.Environments.{Environment, Taken, save}
use Rattle.pli_coding.specs.Locating.{leaf_number}
use Rattle.pli_coding.specs.Expressions.{type_in}
use Rattle.pli_coding.specs.Storing.{record_code}
use Rattle.pli_coding.specs.Streams.{Elements, by_distance, counted_element_got, is_counted, edit_begun, edit_ended}
use Rattle.pli_coding.specs.Streams.{element_got, elements_begun, elements_of, field_awaited, field_stored}
use Rattle.pli_coding.specs.Streams.{for_elements, next_asked}
use Rattle.rv_assembly.specs.declared.place.Place.{Place}
use Rattle.rv_assembly.specs.Places.{IsPlace, patched}
use Rattle.rv_item.specs.Ends.{exit_behind}
use Rattle.rv_item.specs.Turns.{turn_begun}

-- ---- the jumps of items

unfoldable pub scalar_kept : Environment → Taken → Formats → Y.Reference → Code
scalar_kept e t formats r = field_awaited 0 ++ field_stored e t formats r (type_in e r)

unfoldable pub elements_kept : Environment → Elements → Formats → Y.Reference → Code
elements_kept e l formats r =
    record_code e l.taken r ++ for_elements e l r (field_awaited 0 ++ element_got e l formats r)

unfoldable pub elements_exit : Environment → Elements → Y.Reference → (before : Code) → Place
elements_exit e l r before = exit_behind (before ++ (record_code e l.taken r ++ (elements_begun l ++ turn_begun (next_asked e l r))))

unfoldable pub counted_kept : Environment → Taken → Formats → Y.Reference → Code
counted_kept e t formats (Y.Referring v locator part subscripts) =
    by_distance t (leaf_number e v part.first) (field_awaited 0 ++ counted_element_got e t formats v part)

unfoldable pub counted_exit : Taken → (before : Code) → Place
counted_exit t before = exit_behind (before ++ save zero_register t)

abbrev pub aggregate_kept : Environment → Taken → Formats → Y.Reference → Code
aggregate_kept e t formats r = if is_counted e r then counted_kept e t formats r else elements_kept e
    (elements_of t r) formats r

abbrev pub aggregate_exit : Environment → Taken → (before : Code) → Y.Reference → Place
aggregate_exit e t before r = if is_counted e r then counted_exit t before else elements_exit e (elements_of t r) r
    before

abbrev pub item_kept : Environment → Taken → Formats → Y.GetItem → Code
item_kept e t formats (Y.GetScalar r) = scalar_kept e t formats r
item_kept e t formats (Y.GetAggregate r) = aggregate_kept e t formats r

abbrev pub item_exit : Environment → Taken → (before : Code) → Y.GetItem → Place
item_exit e t before (Y.GetScalar r) = exit_behind before
item_exit e t before (Y.GetAggregate r) = aggregate_exit e t before r

abbrev pub items_kept : Environment → Taken → Formats → List Y.GetItem → Code
items_kept e t formats [] = []
items_kept e t formats (i ∷ is) = item_kept e t formats i ++ items_kept e t formats is

abbrev pub items_exits : Environment → Taken → Formats → (before : Code) → List Y.GetItem → List Place
items_exits e t formats before [] = []
items_exits e t formats before (i ∷ is) =
    item_exit e t before i ∷ items_exits e t formats (before ++ item_kept e t formats i) is

-- ---- of pairs

abbrev pub pair_kept : Environment → Taken → Y.GetPair → Code
pair_kept e t p = edit_begun p.formats 0 ++ (items_kept e t p.formats p.items ++ edit_ended)

abbrev pub pair_exits : Environment → Taken → (before : Code) → Y.GetPair → List Place
pair_exits e t before p = items_exits e t p.formats (before ++ edit_begun p.formats 0) p.items

abbrev pub pairs_kept : Environment → Taken → List Y.GetPair → Code
pairs_kept e t [] = []
pairs_kept e t (p ∷ ps) = pair_kept e t p ++ pairs_kept e t ps

abbrev pub pairs_exits : Environment → Taken → (before : Code) → List Y.GetPair → List Place
pairs_exits e t before [] = []
pairs_exits e t before (p ∷ ps) = pair_exits e t before p ++ pairs_exits e t (before ++ pair_kept e t p) ps

-- ---- once they lead to where so many words stand

abbrev pub AreExits : Code → List Place → Type 0
AreExits code [] = ⊤
AreExits code (p ∷ ps) = IsPlace 2 code p × AreExits code ps

abbrev pub led : (end : ℕ) → List Place → Code → Code
led end [] code = code
led end (p ∷ ps) code = led end ps (patched code p (JumpAhead (end - p.words)))
