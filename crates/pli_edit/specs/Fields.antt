-- Fields that are taken and written.
use Rattle.std.specs.Prelude.{◌≡◌, ℕ, ℤ, Bool, true, false, List, Option, Some, None, Result, Ok, Err, Vec}
use Rattle.std.specs.declared.alloc.Global.{Global}
use Rattle.pli_meaning.specs.InputLines.{Input, field_of, has_character, behind_field}
use Rattle.pli_meaning.specs.Stream.{with_field}
use Rattle.pli_meaning.specs.Texts.{fitted, number_in_text}
use Rattle.pli_edit.specs.Marks.{IsInLine}
use Rattle.pli_edit.specs.declared.fault.EditFault.{EditFault}
use Rattle.pli_edit.specs.declared.fault.EditFault.TheVariants.{AtEnd, TooWide, NotNumber, Memory}

-- ---- GET

-- a field is taken where a character is left; without one, or without memory, the input stays
abbrev pub TakesText : (width : ℕ) → (old : Input) → (is_left : Bool) → Result (Vec ℕ Global) EditFault → (new : Input) → Type 0
TakesText width old false result new = (result ≡ Err AtEnd) × (new ≡ old)
TakesText width old true (Ok field) new = (field.items ≡ field_of width old) × (new ≡ behind_field width old)
TakesText width old true (Err fault) new = (fault ≡ Memory) × (new ≡ old)

-- a field that stands in one line, where it stands
abbrev pub IsLineField : (width : ℕ) → Input → (field : List ℕ) → Type 0
IsLineField width i field = IsInLine width i.marks × (has_character i.marks ≡ true) × (field ≡ field_of width i)

-- a field's number; a field that stands for none is taken too
abbrev pub IsNumberOf : Option ℤ → Result ℤ EditFault → Type 0
IsNumberOf number (Ok z) = number ≡ Some z
IsNumberOf number (Err fault) = (number ≡ None) × (fault ≡ NotNumber)

abbrev pub TakesNumber : (width : ℕ) → (old : Input) → (is_left : Bool) → Result ℤ EditFault → (new : Input) → Type 0
TakesNumber width old false result new = (result ≡ Err AtEnd) × (new ≡ old)
TakesNumber width old true (Err Memory) new = new ≡ old
TakesNumber width old true result new = IsNumberOf (number_in_text (field_of width old)) result × (new ≡ behind_field width old)

-- ---- PUT

-- the field of A: the text itself without a width, else padded with blanks or cut on the right
abbrev pub text_field : Option ℕ → List ℕ → List ℕ
text_field None t = t
text_field (Some width) t = fitted width t

-- this output, or without memory the output stays
abbrev pub IsWritten : (output old : List ℕ) → Result (Unit {0}) EditFault → (new : List ℕ) → Type 0
IsWritten output old (Ok done) new = new ≡ output
IsWritten output old (Err fault) new = (fault ≡ Memory) × (new ≡ old)

-- a number's field behind the output, where it is wide enough
abbrev pub IsFieldWritten : Option (List ℕ) → (old : List ℕ) → Result (Unit {0}) EditFault → (new : List ℕ) → Type 0
IsFieldWritten (Some field) old result new = IsWritten (with_field field old) old result new
IsFieldWritten None old result new = (result ≡ Err TooWide) × (new ≡ old)
