-- What is known around a whole program, before its code is in any block.
use Rattle.std.specs.Prelude.{List}
use Rattle.pli_typing.specs.TypedTree as Y
use Rattle.pli_coding.specs.SignatureTable.{table_of}
use Rattle.pli_coding.specs.Environments as E
use Rattle.pli_frames.specs.Parts.{parts}

abbrev pub around_program : Y.Program → List E.BlockPlace → E.Environment
around_program program blocks =
    record { program = program; parts = parts; table = table_of program; blocks = blocks; block = 0; level = 0; owner = E.UnitOwner }
