-- Each program of the class keeps the headline.
use Rattle.std.specs.Prelude.{◌≡◌, true}
use Rattle.pli_typing.specs.TypedTree as Y
use Rattle.well_formed_trees.specs.WellFormed.{IsWellFormed}
use Rattle.pli_coding.specs.Images.{picture_of}
use Rattle.pli_coding.specs.SignatureTable.{table_of}
use Rattle.pli_headline.specs.Headline.{FitsMemory, Headline, parts}
use Rattle.number_headlines.specs.Programs.{is_number_program}

-- as the tree of each accepted source is, and of the class
pub record IsNumberProgram (program : Y.Program) : Type 0 where
  pub well_formed : IsWellFormed program
  pub numbers : is_number_program program ≡ true

abbrev pub NumberHeadlinesKept : Type 0
NumberHeadlinesKept =
    (program : Y.Program) → IsNumberProgram program → FitsMemory (picture_of parts program) →
    Headline program (picture_of parts program) (table_of program)
