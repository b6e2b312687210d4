-- How a service goes on with what it finds.
use Rattle.std.specs.Prelude.{ℕ, Bool, List, ◌∷◌, Option, Some, None, if◌then◌else◌}
use Rattle.std.specs.Option.{option_and_then}
use Rattle.pli_serving.specs.ServiceState.{Services, Entry, TextEntry}
use Rattle.pli_serving.specs.Answers.{Answer, Done, Bad}
use Rattle.pli_serving.specs.Finding.{Call}

abbrev pub then_found : {A B : Type 0} → Option A → (A → Option B) → Option B
then_found found next = option_and_then next found

-- without what is due there is no such call
abbrev pub or_bad : {A : Type 0} → Option A → (A → Answer) → Answer
or_bad None next = Bad
or_bad (Some a) next = next a

abbrev pub bad_unless : Bool → Answer → Answer
bad_unless holds answer = if holds then answer else Bad

-- nothing is changed but a0 and a1
abbrev pub answering : Call → (x y : ℕ) → Answer
answering c x y = Done c.services c.memory x y

-- without what is due a1 is a status, and nothing else is changed
abbrev pub or_status : {A : Type 0} → Call → (x code : ℕ) → Option A → (A → Answer) → Answer
or_status c x code None next = answering c x code
or_status c x code (Some a) next = next a

-- the memory stays as it was
abbrev pub becoming : Call → Services → (x y : ℕ) → Answer
becoming c v x y = Done v c.memory x y

-- ---- entries

abbrev pub with_entries : List Entry → Services → Services
with_entries entries v = record v { entries = entries }

abbrev pub pushed : Entry → Services → Services
pushed entry v = with_entries (entry ∷ v.entries) v

-- the top text, and what stands below it
abbrev pub on_text : List Entry → (List ℕ → List Entry → Answer) → Answer
on_text (TextEntry t ∷ below) next = next t below
on_text _ next = Bad

-- the two top texts, the right one above the left one, and what stands below them
abbrev pub on_two_texts : List Entry → ((left right : List ℕ) → List Entry → Answer) → Answer
on_two_texts (TextEntry right ∷ TextEntry left ∷ below) next = next left right below
on_two_texts _ next = Bad
