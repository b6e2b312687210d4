-- Each program of the class keeps the headline.
use Rattle.std.specs.Prelude.{◌≡◌, true}
use Rattle.pli_typing.specs.TypedTree as Y
use Rattle.well_formed_trees.specs.WellFormed.{IsWellFormed}
use Rattle.pli_coding.specs.Images.{picture_of}
use Rattle.pli_coding.specs.SignatureTable.{table_of}
use Rattle.pli_headline.specs.Headline.{FitsMemory, Headline, parts}
use Rattle.unit_numbers.specs.Programs.{is_unit_program}

-- as the tree of each accepted source is, and of the class
pub record IsUnitProgram (program : Y.Program) : Type 0 where
  pub well_formed : IsWellFormed program
  pub units : is_unit_program program ≡ true

abbrev pub UnitNumberHeadlinesKept : Type 0
UnitNumberHeadlinesKept =
    (program : Y.Program) → IsUnitProgram program → FitsMemory (picture_of parts program) →
    Headline program (picture_of parts program) (table_of program)
