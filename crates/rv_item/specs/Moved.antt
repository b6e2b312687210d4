-- Elements to the output or from the input. What is done with each kind has a name of its own.
use Rattle.std.specs.Prelude.{ℕ, ◌&&◌, ◌||◌, pos, [], ◌∷◌, ◌++◌, if◌then◌else◌}
use Rattle.rv_meaning.specs.declared.image.TableKind.TheVariants as K
use Rattle.rv_meaning.specs.declared.instr.Instr.TheVariants as I
use Rattle.rv_meaning.specs.declared.instr.LoadKind.TheVariants as Load
use Rattle.rv_meaning.specs.declared.instr.RegisterOp.TheVariants as Op
use Rattle.rv_meaning.specs.declared.instr.BranchTest.TheVariants as Test
use Rattle.rv_meaning.specs.Tables.{kind_number}
use Rattle.pli_language.specs.Tree.{Formats}
use Rattle.pli_typing.specs.TypedTree as Y
use Rattle.pli_meaning.specs.Numbers.{operator_precision}
use Rattle.pli_coding.specs.Registers.{frame_register, a0, u0, u1, u2, u3}
use Rattle.pli_coding.specs.Assembly.{Plain, Code}
use Rattle.pli_coding.specs.Instructions.{choice, load_word, move, registers, service, skip_where, small, subtract}
use Rattle.pli_coding.specs.Frames.{buffer_kind}
use Rattle.pli_coding.specs.Environments.{Environment, Taken, save}
use Rattle.pli_coding.specs.Arithmetic.{overflow_raised}
use Rattle.pli_coding.specs.Streams.{bit_element_pushed, bit_got, bit_stored, by_kinds_of, element_addressed, fixed_element_pushed, fixed_element_put, fixed_stored, mixed_element_put, mixed_field_taken, number_fitted, number_got, text_converted, text_described, text_element_pushed, text_got}
use Rattle.rv_item.specs.declared.kinds.Kinds.{Kinds}
use Rattle.rv_item.specs.declared.moved.Motion.{Motion}
use Rattle.rv_item.specs.declared.moved.Motion.TheVariants as M

abbrev pub bit_loaded : Code
bit_loaded = element_addressed ++ (Plain (I.Load Load.ByteUnsigned a0 u3 (pos 0)) ∷ [])

-- ---- numbers of the precision in u2

abbrev pub number_shifted : Code
number_shifted =
    small u1 operator_precision
    ∷ subtract u2 u1 u2
    ∷ registers Op.ShiftLeft u1 a0 u2
    ∷ registers Op.ShiftRightArithmetic u1 u1 u2
    ∷ []

abbrev pub narrow_checked : Taken → Code
narrow_checked t = skip_where Test.Equal u1 a0 (move a0 u1 ∷ overflow_raised t)

-- ---- by the kind

unfoldable pub fixed_moved : Motion → Taken → Code
fixed_moved M.Pushing t = fixed_element_pushed
fixed_moved M.Converting t = text_converted 0 ++ number_fitted t
fixed_moved M.Storing t = fixed_stored t

unfoldable pub bit_moved : Motion → Taken → Code
bit_moved M.Pushing t = bit_element_pushed
bit_moved M.Converting t = text_converted 1 ++ save a0 t
bit_moved M.Storing t = bit_stored t

unfoldable pub text_moved : Motion → Code
text_moved M.Pushing = text_element_pushed
text_moved M.Converting = []
text_moved M.Storing = text_described ++ service 27

abbrev pub kind_tested : (kind : ℕ) → Code
kind_tested kind = load_word u0 frame_register buffer_kind ++ small u1 kind ∷ []

-- bits and texts, of those that there are
unfoldable pub bits_and_texts : Kinds → Motion → Taken → Code
bits_and_texts k m t =
    if k.bit && k.text then kind_tested (kind_number K.Bit) ++ choice Test.Equal u0 u1 (bit_moved m t) (text_moved m)
    else (if k.bit then bit_moved m t else (if k.text then text_moved m else []))

abbrev pub kinds_moved : Kinds → Motion → Taken → Code
kinds_moved k m t =
    if k.fixed then
    (if k.bit || k.text then kind_tested (kind_number K.Fixed) ++ choice Test.Equal u0 u1 (fixed_moved m t) (bits_and_texts k m t)
    else fixed_moved m t)
    else bits_and_texts k m t

unfoldable pub element_moved : Motion → Environment → Taken → Y.Reference → Code
element_moved m e t r = by_kinds_of e r (fixed_moved m t) (bit_moved m t) (text_moved m)

-- ---- fields, by the kinds that there are

abbrev pub kinds_taken : Kinds → Environment → Taken → Formats → Y.Reference → Code
kinds_taken k e t formats r =
    if k.fixed then
    (if k.bit || k.text then mixed_field_taken e t formats r else number_got formats ++ number_fitted t)
    else (if k.bit then
    (if k.text then mixed_field_taken e t formats r else bit_got ++ save a0 t)
    else text_got formats)

-- ---- elements of PUT, by the kinds that there are

abbrev pub kinds_written : Kinds → Environment → Taken → Formats → Y.Reference → Code
kinds_written k e t formats r = if k.bit || k.text then mixed_element_put e formats r else fixed_element_put t formats
