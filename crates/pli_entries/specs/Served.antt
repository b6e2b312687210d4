-- What a service comes to, by what its call on the entries gives.
use Rattle.std.specs.Prelude.{◌≡◌, ℕ, ◌&&◌, List, Option, Some, None, Result, Ok, Err, if◌then◌else◌}
use Rattle.pli_text.specs.declared.fault.TextFault.{TextFault}
use Rattle.pli_text.specs.declared.fault.TextFault.TheVariants as T
use Rattle.pli_typing.specs.Signatures.{LeafKind, leaf_bytes}
use Rattle.pli_meaning.specs.Codes.{too_long_code, substring_code, conversion_code, shape_code}
use Rattle.pli_meaning.specs.Contents.{text_in}
use Rattle.pli_serving.specs.Bytes.{is_data}
use Rattle.pli_serving.specs.TextServices.{is_text, word_in_text}
use Rattle.pli_serving.specs.Values.{value_at}
use Rattle.pli_serving.specs.ServiceState.{Entry}
use Rattle.pli_serving.specs.Answers.{Answer, Bad}
use Rattle.pli_serving.specs.Finding.{Call}
use Rattle.pli_serving.specs.Outcomes.{answering, becoming, on_text, or_status, with_entries}
use Rattle.pli_entries.specs.declared.fault.EntryFault.{EntryFault}
use Rattle.pli_entries.specs.declared.fault.EntryFault.TheVariants as F

abbrev pub fault_of : TextFault → EntryFault
fault_of T.TooLong = F.TooLong
fault_of T.BadRange = F.BadRange
fault_of T.NotNumber = F.NotNumber
fault_of T.Memory = F.Memory

-- a fault is a status, no such call, or want of memory, which the definitions don't know
abbrev pub IsRefusal : Call → (x : ℕ) → Answer → EntryFault → Type 0
IsRefusal c x answer F.TooLong = answer ≡ answering c x too_long_code
IsRefusal c x answer F.BadRange = answer ≡ answering c x substring_code
IsRefusal c x answer F.NotNumber = answer ≡ answering c x conversion_code
IsRefusal c x answer F.OtherBounds = answer ≡ answering c x shape_code
IsRefusal c x answer F.Bad = answer ≡ Bad
IsRefusal c x answer F.Memory = Unit {0}

-- the answer that is due where the call is done; where it isn't, nothing has changed
abbrev pub IsServed : {V : Type 0} → Call → (x : ℕ) → Answer → (done : V → Answer) → (old new : List Entry) → Result V EntryFault → Type 0
IsServed c x answer done old new (Ok v) = answer ≡ done v
IsServed c x answer done old new (Err fault) = IsRefusal c x answer fault × (new ≡ old)

-- the text of a kind at an address, none where that isn't data or the text is too long for its kind
abbrev pub text_read : Call → LeafKind → (at : ℕ) → Option (List ℕ)
text_read c kind at =
    if is_data c.layout at (leaf_bytes kind) && is_text kind at c.memory then Some (text_in (value_at kind at c.memory)) else None

-- the newest text as a word, of a mode that there is
abbrev pub word_told : Call → (mode : ℕ) → Answer
word_told c mode =
    on_text c.services.entries
    (λ t below. or_status c mode conversion_code (word_in_text mode t) (λ w. becoming c (with_entries below c.services) w 0))
