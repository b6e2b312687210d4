-- The next item of a format list in the services while input is read, and what services 34 to 37 answer by it.
use Rattle.std.proofs.Common.{length, ◌≡◌, ℕ, ◌+◌, ◌^◌, ◌<◌, ◌≤◌, List, [], ◌∷◌, Option, Some, None, true, refl, ap, ◌∙◌}
use Rattle.std.specs.Prelude.{ℤ}
use Rattle.rv_meaning.specs.declared.instr.Instr.{Instr}
use Rattle.rv_meaning.specs.Words.{word}
use Rattle.pli_meaning.specs.Codes.{conversion_code}
use Rattle.pli_meaning.specs.World.{World, counted}
use Rattle.pli_meaning.specs.Texts.{number_in_text}
use Rattle.pli_meaning.specs.InputLines.{Input, has_character, field_of, behind_field}
use Rattle.pli_meaning.specs.Streaming.{FormatItem, DataFormat, ControlFormat, DataItem, FixedItem, TextItem, ControlItem}
use Rattle.pli_meaning.specs.StorageState.{State, with_world, with_input}
use Rattle.pli_meaning.specs.Control.{Meaning, act, stored, ◌>>◌}
use Rattle.pli_serving.specs.ServiceState.{Services, Getting, EditPlace, TextEntry}
use Rattle.pli_serving.specs.Answers.{Answer, Done, acting}
use Rattle.pli_serving.specs.Finding.{Call}
use Rattle.pli_serving.specs.Outcomes.{or_bad, bad_unless, pushed}
use Rattle.pli_serving.specs.FormatLists.{formats_at}
use Rattle.pli_serving.specs.Edits as E
use Rattle.pli_serving.specs.Edits.{NextItem}
use Rattle.pli_headline.proofs.HeldPlaces.{PlacesHeld}
use Rattle.run_steps.proofs.Calls.{comes_act, acts}
use Rattle.pli_headline.proofs.Serving.{Serving}
use Rattle.pli_headline.proofs.Raising.{with_act}
use Rattle.run_steps.specs.Engine.{call_at}
use Rattle.pli_headline.proofs.EditItems.{at_places, next_of, behind_next}
use Rattle.run_steps.specs.Reach.{Family, Pausing, Aims, Comes}
use Rattle.run_steps.proofs.Reach.{comes_on}

-- ---- places in format lists

abbrev pub getting : (whole rest : List FormatItem) → EditPlace
getting whole rest = record { direction = Getting; whole = whole; rest = rest }

-- an item is next at the newest place, with what is left of the list behind it
abbrev pub Gets : (edits : List EditPlace) → FormatItem → (whole left : List FormatItem) → (below : List EditPlace) → Type 0
Gets edits item whole left below =
    (next : NextItem → List EditPlace → Answer) → E.on_next edits next ≡ next (record { item = item; behind = getting whole left }) below

-- the items that are left of a list, of which none is left where the list begins again
abbrev pub GetsAt : (edits : List EditPlace) → (items whole : List FormatItem) → (below : List EditPlace) → Type 0
GetsAt edits [] whole below = edits ≡ getting whole [] ∷ below
GetsAt edits (x ∷ xs) whole below = Gets edits x whole xs below

pub gets_left : (edits : List EditPlace) (items whole : List FormatItem) (below : List EditPlace) → edits ≡ getting whole items ∷ below → GetsAt edits items whole below
gets_left edits [] whole below e = e
gets_left edits (x ∷ xs) whole below e = λ next. ap (λ u. E.on_next u next) e

pub gets_again : (edits : List EditPlace) (x : FormatItem) (xs : List FormatItem) (below : List EditPlace) → edits ≡ getting (x ∷ xs) [] ∷ below → Gets edits x (x ∷ xs) xs below
gets_again edits x xs below e = λ next. ap (λ u. E.on_next u next) e

pub gets_next : (first : FormatItem) (more rest : List FormatItem) (below : List EditPlace) → Gets (getting (first ∷ more) rest ∷ below) (next_of first rest) (first ∷ more) (behind_next more rest) below
gets_next first more [] below = λ next. refl
gets_next first more (x ∷ xs) below = λ next. refl

-- what service 35 says of an item of GET
abbrev pub number_in : Input → FormatItem → ℕ
number_in input item = E.item_number Getting input item

-- ---- what is read

-- the state behind an act that reads
abbrev pub read_state : (Input → Input) → State → State
read_state change s = with_world (counted s.world) (with_input change (with_world (counted s.world) s))

pub read_serving : {k : ℕ} {s : State} {v : Services} {line : ℕ} (change : Input → Input) (places : List EditPlace) → PlacesHeld (length places) v.activations → Serving k s v line → s.world.acts < k → Serving k (read_state change s) (at_places places (E.read_by change v)) line
read_serving change places held o below =
    let a = with_act counted (λ (w : World). refl) (λ (w : World). refl) o below in
    record {
      world = a.world;
      running = a.running;
      line_is = a.line_is;
      input = ap change o.input;
      allowed = a.allowed;
      fits = a.fits;
      nested = a.nested;
      waiting = a.waiting;
      places = held;
    }

-- an act that reads is carried out, or the run pauses before it
pub comes_read : {code : List Instr} {c : ℕ} {f : Family} {v : Services} {aims : Aims (Unit {0})} (change : Input → Input) (k : ℕ) (s : State) → v.world ≡ s.world → Pausing code c f v v → (s.world.acts < k → aims.done c f v tt (read_state change s)) → Comes code c f v aims (((act counted) >> (stored (with_input change))) k s)
unfolding ◌>>◌ stored
comes_read change k s e p go =
    let next' : Unit {0} → Meaning (Unit {0}) = λ u. stored (with_input change) in
    comes_on k (act counted k s) next' (comes_act counted k s e p (λ below. record { to = λ early. go below }))

-- ---- answers

-- 34: a place at the start of a list
pub begin_answer : (c : Call) (at : ℕ) (items : List FormatItem) → formats_at c at ≡ Some items → E.edit_begin_served c at 0 ≡ Done (at_places (getting items items ∷ c.services.edits) c.services) c.memory at 0
begin_answer c at items e = ap (λ o. or_bad o (E.edit_begun c at 0 Getting)) e

-- 35: a data item is next
pub asked_answer : (code : List Instr) (v : Services) (m : List ℕ) (d : DataItem) (whole left : List FormatItem) (below : List EditPlace) (y : ℕ) → Gets v.edits (DataFormat d) whole left below → E.control_served (call_at code v m) y ≡ Done v m (number_in v.input (DataFormat d)) y
asked_answer code v m d whole left below y found =
    let c = call_at code v m in
    found (λ n below'. E.control_carried_out c y n.item n.behind below')
    ∙ found (λ n below'. Done v m (E.item_number n.behind.direction v.input n.item) y)

-- the services behind a control item
abbrev pub carried_got : ControlItem → List EditPlace → Services → Services
carried_got item places v = at_places places (E.control_done Getting item v)

-- 35: a control item is carried out, and an item is next behind it
pub carried_answer : (code : List Instr) (v : Services) (m : List ℕ) (item : ControlItem) (whole left : List FormatItem) (below : List EditPlace) (x : FormatItem) (behind : List FormatItem) (y k : ℕ) → Gets v.edits (ControlFormat item) whole left below → Gets (getting whole left ∷ below) x whole behind below → v.world.acts ≤ k → k + 1 < 2 ^ 64 → E.control_served (call_at code v m) y ≡ Done (carried_got item (getting whole left ∷ below) v) m (number_in (carried_got item (getting whole left ∷ below) v).input x) y
carried_answer code v m item whole left below x behind y k found again allowed fits =
    let c = call_at code v m in
    let v' = carried_got item (getting whole left ∷ below) v in
    found (λ n below'. E.control_carried_out c y n.item n.behind below')
    ∙ acts v k (E.next_answered c v' y) allowed fits
    ∙ again (λ n below'. Done v' m (E.item_number n.behind.direction v'.input n.item) y)

-- what service 36 gives of a field
abbrev pub field_number : (x : ℕ) → Option ℤ → ℕ
field_number x None = x
field_number x (Some z) = word z

abbrev pub number_status : Option ℤ → ℕ
number_status None = conversion_code
number_status (Some z) = 0

number_answered_is : (c : Call) (v : Services) (x : ℕ) (o : Option ℤ) → E.number_answered c v x o ≡ Done v c.memory (field_number x o) (number_status o)
number_answered_is c v x None = refl
number_answered_is c v x (Some z) = refl

-- the services behind a field
abbrev pub taken_by : (width : ℕ) → List EditPlace → Services → Services
taken_by width places v = at_places places (E.read_by (behind_field width) v)

-- 36: a field is taken, whether it is a number or not
pub taken_answer : (code : List Instr) (v : Services) (m : List ℕ) (width : ℕ) (whole left : List FormatItem) (below : List EditPlace) (x y k : ℕ) → Gets v.edits (DataFormat (FixedItem width)) whole left below → has_character v.input.marks ≡ true → v.world.acts ≤ k → k + 1 < 2 ^ 64 → E.fixed_served (call_at code v m) x y ≡ Done (taken_by width (getting whole left ∷ below) v) m (field_number x (number_in_text (field_of width v.input))) (number_status (number_in_text (field_of width v.input)))
taken_answer code v m width whole left below x y k found has allowed fits =
    let c = call_at code v m in
    let places = getting whole left ∷ below in
    let v' = taken_by width places v in
    let o = number_in_text (field_of width v.input) in
    found (λ n below'. E.fixed_by c x y n.behind.direction n.item (n.behind ∷ below'))
    ∙ ap (λ t. bad_unless t (acting v (E.number_answered c v' x o))) has
    ∙ acts v k (E.number_answered c v' x o) allowed fits
    ∙ number_answered_is c v' x o

-- 37: a field is taken as a text
pub text_answer : (code : List Instr) (v : Services) (m : List ℕ) (width : ℕ) (whole left : List FormatItem) (below : List EditPlace) (x y k : ℕ) → Gets v.edits (DataFormat (TextItem (Some width))) whole left below → has_character v.input.marks ≡ true → v.world.acts ≤ k → k + 1 < 2 ^ 64 → E.text_served (call_at code v m) x y ≡ Done (pushed (TextEntry (field_of width v.input)) (taken_by width (getting whole left ∷ below) v)) m x y
text_answer code v m width whole left below x y k found has allowed fits =
    let c = call_at code v m in
    let places = getting whole left ∷ below in
    let after = Done (pushed (TextEntry (field_of width v.input)) (taken_by width places v)) m x y in
    found (λ n below'. E.text_by c x y n.behind.direction n.item (n.behind ∷ below'))
    ∙ ap (λ t. bad_unless t (acting v after)) has
    ∙ acts v k after allowed fits
