-- What is generated for a program.
use Rattle.std.specs.Prelude.{◌≡◌, ℕ, List, Some, slice_get}
use Rattle.rv_meaning.specs.declared.instr.Instr.{Instr}
use Rattle.rv_meaning.specs.Encoding.{Fits}
use Rattle.rv_meaning.specs.Images.{Image}
use Rattle.pli_typing.specs.TypedTree as Y
use Rattle.pli_coding.specs.Images.{image_of, picture_of}
use Rattle.pli_frames.specs.Parts.{parts}

-- instructions whose words hold their operands, so that they are read off the words again
abbrev pub HoldOperands : List Instr → Type 0
HoldOperands code = (k : ℕ) (i : Instr) → slice_get code k ≡ Some i → Fits i

-- the image is just the one that the definitions have for the program, and its words hold all that its instructions say
pub record IsCodeOf (program : Y.Program) (i : Image) : Type 0 where
  pub image_is : i ≡ image_of parts program
  pub holds : HoldOperands (picture_of parts program).code
