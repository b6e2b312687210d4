use Rattle.block_headlines.proofs.Constants.{bytes_known, called_of_program, constants_stand, datum_known}
use Rattle.block_headlines.proofs.Constants.{main_of_program}
use Rattle.block_headlines.proofs.laws.constants_told.Goals as goal
use Rattle.program_places.specs.Programs.{code_for}
use Rattle.std.proofs.Common.{refl}

pub returns : goal.returns
returns c = record {
  stand = λ program fits. constants_stand (code_for program) fits;
  written = λ block index bytes. (refl, refl);
  datum = datum_known;
  bytes = bytes_known;
  main = main_of_program;
  called = called_of_program;
}
