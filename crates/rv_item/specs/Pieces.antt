-- Pieces of the code of GET and PUT.
use Rattle.std.specs.Prelude.{ℕ, [], ◌∷◌, ◌++◌}
use Rattle.pli_frames.specs.TakenView.{taken_of}
use Rattle.rv_meaning.specs.declared.instr.BranchTest.TheVariants as Test
use Rattle.pli_language.specs.declared.condition.Condition.TheVariants as C
use Rattle.pli_meaning.specs.Codes.{endfile_code}
use Rattle.pli_meaning.specs.Numbers.{operator_precision}
use Rattle.pli_coding.specs.Registers.{a0, a1, u1}
use Rattle.pli_coding.specs.Assembly.{JumpAhead, Code}
use Rattle.pli_coding.specs.Instructions.{service, skip_where, small, tested_service}
use Rattle.pli_coding.specs.Environments.{Taken, fetch}
use Rattle.pli_coding.specs.Arithmetic.{raised}
use Rattle.pli_coding.specs.Streams.{as_text, number_written, text_written}
use Rattle.rv_item.specs.declared.text.NumberText.{NumberText}
use Rattle.rv_item.specs.declared.text.NumberText.TheVariants as N

-- ---- fields

-- a number in a0 as a text, with the places of its precision
abbrev pub number_text : NumberText → Code
number_text (N.Known precision) = as_text precision
number_text (N.Waiting taken) = fetch a1 (taken_of taken) ++ service 21

-- the number that waits, by an item for numbers and by one for texts
abbrev pub number_field : Taken → Code
number_field t = fetch a0 t ++ number_written

abbrev pub number_as_text : Taken → NumberText → Code
number_as_text t places = fetch a0 t ++ (number_text places ++ text_written)

-- the top text, by an item for numbers
abbrev pub text_as_number : Code
text_as_number = small a0 0 ∷ (tested_service 26 ++ number_written)

-- a field by an item for texts as a number, and by one for numbers as a text
abbrev pub field_to_number : Code
field_to_number = service 37 ++ (small a0 0 ∷ tested_service 26)

abbrev pub field_to_text : Code
field_to_text = tested_service 36 ++ as_text operator_precision

-- with no character left ENDFILE, and then a jump over so many words
abbrev pub end_tested : (behind : ℕ) → Code
end_tested behind = skip_where Test.NotEqual a0 u1 (raised C.Endfile endfile_code ++ JumpAhead behind ∷ [])
