-- Which fault a call answers.
use Rattle.std.specs.Prelude.{Bool, true, false, Result, Ok, Err}
use Rattle.pli_edit.specs.declared.fault.EditFault.{EditFault}
use Rattle.pli_edit.specs.declared.fault.EditFault.TheVariants as E

abbrev pub is_read : EditFault → Bool
is_read E.AtEnd = false
is_read E.TooWide = false
is_read E.NotNumber = false
is_read E.Read = true
is_read E.Write = false
is_read E.Memory = false

abbrev pub is_write : EditFault → Bool
is_write E.AtEnd = false
is_write E.TooWide = false
is_write E.NotNumber = false
is_write E.Read = false
is_write E.Write = true
is_write E.Memory = false

-- a call's answer is such a fault
abbrev pub is_fault : {A : Type 0} → (EditFault → Bool) → Result A EditFault → Bool
is_fault is_such (Ok x) = false
is_fault is_such (Err e) = is_such e

-- a claim of a call that doesn't answer Read
abbrev pub UnlessRead : {A : Type 0} → Result A EditFault → (claim : Type 0) → Type 0
UnlessRead (Ok x) claim = claim
UnlessRead (Err E.AtEnd) claim = claim
UnlessRead (Err E.TooWide) claim = claim
UnlessRead (Err E.NotNumber) claim = claim
UnlessRead (Err E.Read) claim = Unit {0}
UnlessRead (Err E.Write) claim = claim
UnlessRead (Err E.Memory) claim = claim
