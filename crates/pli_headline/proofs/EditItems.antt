-- The next item of a format list in the services, and what services 34, 35, 36 and 38 answer by it.
use Rattle.std.proofs.Common.{◌≡◌, ℕ, ◌+◌, ◌^◌, ◌<◌, ◌≤◌, List, [], ◌∷◌, Option, Some, None, refl, ap, ◌∙◌, arith}
use Rattle.std.specs.Prelude.{ℤ}
use Rattle.std.proofs.lemmas.Int.{ints}
use Rattle.std.proofs.lemmas.Bool.Decides.{nat_tests}
use Rattle.rv_meaning.specs.declared.instr.Instr.{Instr}
use Rattle.rv_meaning.specs.Words.{word, signed}
use Rattle.pli_meaning.specs.Codes.{too_wide_code}
use Rattle.pli_meaning.specs.Stream.{fixed_field, with_field}
use Rattle.pli_meaning.specs.InputLines.{Input}
use Rattle.pli_meaning.specs.Streaming.{FormatItem, DataFormat, ControlFormat, DataItem, FixedItem, ControlItem}
use Rattle.pli_serving.specs.ServiceState.{Services, Putting, EditPlace}
use Rattle.pli_serving.specs.Answers.{Answer, Done}
use Rattle.pli_serving.specs.Finding.{Call}
use Rattle.pli_serving.specs.Outcomes.{or_bad}
use Rattle.pli_serving.specs.FormatLists.{formats_at}
use Rattle.pli_serving.specs.Edits as E
use Rattle.pli_serving.specs.Edits.{NextItem}
use Rattle.run_steps.specs.Numbers.{IsWide}
use Rattle.run_steps.proofs.Calls.{acts}
use Rattle.run_steps.specs.Engine.{call_at}

-- ---- places in format lists

abbrev pub putting : (whole rest : List FormatItem) → EditPlace
putting whole rest = record { direction = Putting; whole = whole; rest = rest }

-- the services with places in format lists
abbrev pub at_places : List EditPlace → Services → Services
at_places = E.with_edits

-- an item is next at the newest place, with what is left of the list behind it
abbrev pub Finds : (edits : List EditPlace) → FormatItem → (whole left : List FormatItem) → (below : List EditPlace) → Type 0
Finds edits item whole left below =
    (next : NextItem → List EditPlace → Answer) → E.on_next edits next ≡ next (record { item = item; behind = putting whole left }) below

-- the items that are left of a list, of which none is left where the list begins again
abbrev pub FindsAt : (edits : List EditPlace) → (items whole : List FormatItem) → (below : List EditPlace) → Type 0
FindsAt edits [] whole below = edits ≡ putting whole [] ∷ below
FindsAt edits (x ∷ xs) whole below = Finds edits x whole xs below

pub finds_left : (edits : List EditPlace) (items whole : List FormatItem) (below : List EditPlace) → edits ≡ putting whole items ∷ below → FindsAt edits items whole below
finds_left edits [] whole below e = e
finds_left edits (x ∷ xs) whole below e = λ next. ap (λ u. E.on_next u next) e

pub finds_again : (edits : List EditPlace) (x : FormatItem) (xs : List FormatItem) (below : List EditPlace) → edits ≡ putting (x ∷ xs) [] ∷ below → Finds edits x (x ∷ xs) xs below
finds_again edits x xs below e = λ next. ap (λ u. E.on_next u next) e

-- the item that is next, from the start again where the list has ended, and those behind it
abbrev pub next_of : (first : FormatItem) → (rest : List FormatItem) → FormatItem
next_of first [] = first
next_of first (x ∷ xs) = x

abbrev pub behind_next : (more rest : List FormatItem) → List FormatItem
behind_next more [] = more
behind_next more (x ∷ xs) = xs

pub finds_next : (first : FormatItem) (more rest : List FormatItem) (below : List EditPlace) → Finds (putting (first ∷ more) rest ∷ below) (next_of first rest) (first ∷ more) (behind_next more rest) below
finds_next first more [] below = λ next. refl
finds_next first more (x ∷ xs) below = λ next. refl

-- what service 35 says of an item of PUT
abbrev pub number_of : FormatItem → ℕ
number_of (DataFormat d) = E.data_number d
number_of (ControlFormat c) = 0

number_said : (input : Input) (item : FormatItem) → E.item_number Putting input item ≡ number_of item
number_said input (DataFormat d) = refl
number_said input (ControlFormat c) = refl

-- ---- answers

-- 34: a place at the start of a list
pub begin_answer : (c : Call) (at : ℕ) (items : List FormatItem) → formats_at c at ≡ Some items → E.edit_begin_served c at 1 ≡ Done (at_places (putting items items ∷ c.services.edits) c.services) c.memory at 1
begin_answer c at items e = ap (λ o. or_bad o (E.edit_begun c at 1 Putting)) e

-- 35: a data item is next
pub asked_answer : (code : List Instr) (v : Services) (m : List ℕ) (d : DataItem) (whole left : List FormatItem) (below : List EditPlace) (y : ℕ) → Finds v.edits (DataFormat d) whole left below → E.control_served (call_at code v m) y ≡ Done v m (E.data_number d) y
asked_answer code v m d whole left below y found =
    let c = call_at code v m in
    found (λ n below'. E.control_carried_out c y n.item n.behind below')
    ∙ found (λ n below'. Done v m (E.item_number n.behind.direction v.input n.item) y)

-- the services behind a control item
abbrev pub carried : ControlItem → List EditPlace → Services → Services
carried item places v = at_places places (E.control_done Putting item v)

-- 35: a control item is carried out, and an item is next behind it
pub carried_answer : (code : List Instr) (v : Services) (m : List ℕ) (item : ControlItem) (whole left : List FormatItem) (below : List EditPlace) (x : FormatItem) (behind : List FormatItem) (y k : ℕ) → Finds v.edits (ControlFormat item) whole left below → Finds (putting whole left ∷ below) x whole behind below → v.world.acts ≤ k → k + 1 < 2 ^ 64 → E.control_served (call_at code v m) y ≡ Done (carried item (putting whole left ∷ below) v) m (number_of x) y
carried_answer code v m item whole left below x behind y k found again allowed fits =
    let c = call_at code v m in
    let v' = carried item (putting whole left ∷ below) v in
    found (λ n below'. E.control_carried_out c y n.item n.behind below')
    ∙ acts v k (E.next_answered c v' y) allowed fits
    ∙ again (λ n below'. Done v' m (E.item_number n.behind.direction v.input n.item) y)
    ∙ ap (λ u. Done v' m u y) (number_said v.input x)

-- what service 36 says of a field
abbrev pub field_status : Option (List ℕ) → ℕ
field_status None = too_wide_code
field_status (Some field) = 0

status_answer : (c : Call) (x : ℕ) (field : Option (List ℕ)) → E.field_asked c x field ≡ Done c.services c.memory x (field_status field)
status_answer c x None = refl
status_answer c x (Some field) = refl

-- 36 with 0: whether the number's field is wide enough
pub width_answer : (code : List Instr) (v : Services) (m : List ℕ) (width : ℕ) (whole left : List FormatItem) (below : List EditPlace) (x : ℕ) → Finds v.edits (DataFormat (FixedItem width)) whole left below → E.fixed_served (call_at code v m) x 0 ≡ Done v m x (field_status (fixed_field width (signed x)))
width_answer code v m width whole left below x found =
    let c = call_at code v m in
    found (λ n below'. E.fixed_by c x 0 n.behind.direction n.item (n.behind ∷ below'))
    ∙ status_answer c x (fixed_field width (signed x))

-- the services behind a field that was written
abbrev pub fielded : (field : List ℕ) → List EditPlace → Services → Services
fielded field places v = E.written_by (with_field field) (at_places places v)

-- 36 with 1: the field is written
pub field_answer : (code : List Instr) (v : Services) (m : List ℕ) (width : ℕ) (whole left : List FormatItem) (below : List EditPlace) (x k : ℕ) (field : List ℕ) → Finds v.edits (DataFormat (FixedItem width)) whole left below → fixed_field width (signed x) ≡ Some field → v.world.acts ≤ k → k + 1 < 2 ^ 64 → E.fixed_served (call_at code v m) x 1 ≡ Done (fielded field (putting whole left ∷ below) v) m x 1
field_answer code v m width whole left below x k field found wide allowed fits =
    let c = call_at code v m in
    let places = putting whole left ∷ below in
    found (λ n below'. E.fixed_by c x 1 n.behind.direction n.item (n.behind ∷ below'))
    ∙ ap (λ o. E.number_put c x 1 o places) wide
    ∙ acts v k _ allowed fits

-- 38: the place is dropped
pub end_answer : (code : List Instr) (v : Services) (m : List ℕ) (place : EditPlace) (below : List EditPlace) (x y : ℕ) → v.edits ≡ place ∷ below → E.edit_end_served (call_at code v m) x y ≡ Done (at_places below v) m x y
end_answer code v m place below x y e = ap (E.edit_ended (call_at code v m) x y) e

-- ---- numbers

pub signed-word : (z : ℤ) → IsWide z → signed (word z) ≡ z
signed-word z h = grind (arith, ints, nat_tests)
