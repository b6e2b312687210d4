use Rattle.program_lengths.proofs.ProgramLengths.{images_short}
use Rattle.program_lengths.proofs.laws.images_short.Goals as goal

pub returns : goal.returns
returns c = images_short
